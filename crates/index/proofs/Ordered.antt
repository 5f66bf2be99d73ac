-- Tables in order stay so when an entry is added; once for the reader and the writer.
-- Assumes nothing.
use mathlib.Core.Path.{◌≡◌, ◌∙◌}
use mathlib.Core.Bool.{Bool}
use mathlib.Core.List.{List}
use Prim.Native.Nat.{ℕ, ◌+◌, ◌≤◌, ◌<◌}
use native.Mathlib.Omega.{arith}
use lib.ListN.{length, get_or, set, length-set}
use Rattle.format.specs.Tables.{Triple, adding, adding_name}
use Rattle.format.specs.declared.StringForm.{StringForm}
use Rattle.format.specs.Forms.{form_number}
use Rattle.tables.specs.Located.{stretch}
use Rattle.tables.specs.Rows.{table_of, vocabulary}
use Rattle.tables.specs.Kept.{name_table_of, unlisted, count_of, stored, Ends}
use Rattle.tables.proofs.FormLaws.{MayHold}
use Rattle.tables.proofs.Laws.{counted-more, string_added, name_added, clean_string, clean_name, all_string, all_name}
use Rattle.tables.proofs.Rooms.{stored-length}
use Rattle.index.specs.Indexed.{Indexed}
use Rattle.index.specs.Ordered.{Ordered}
use Rattle.index.proofs.Counted.{count_at, one_more_lem}

module _ {only : ℕ → Bool} {s c w x : List ℕ} {More : Type 0} (order : Ordered only s c w x More) (t : ℕ) (room : get_or c t 0 < 256) where
  abbrev then_counts : List ℕ
  then_counts = set c t (get_or c t 0 + 1)

  few : count_of (unlisted c) t < 256
  few = rw (count_at c order.ten t) room

  module _ (f : StringForm) (p n : ℕ) (small : t < 8) (may : MayHold t f) (some : 0 < n) where
    pub string_more : vocabulary (unlisted then_counts) (stored w t (get_or c t 0) p n (form_number f)) ≡ adding (vocabulary (unlisted c) w) (table_of t) (stretch f p n)
    string_more =
        let k = count_at c order.ten t in
        rw (one_more_lem c order.ten t) (rw k at (string_added (unlisted c) w t order.counted few order.room f p n small may some))

    pub ordered_string : p + n ≤ length s → {Then : Type 0} (v y : List ℕ) → v ≡ stored w t (get_or c t 0) p n (form_number f) → Indexed only s (count_of (unlisted then_counts)) v y → Then → Ordered only s then_counts v y Then
    ordered_string lies v y words keeps then =
        let k = count_at c order.ten t in
        record {
          size = order.size;
          ten = length-set c t (get_or c t 0 + 1) ∙ order.ten;
          room = rw words (stored-length w t (get_or c t 0) p n (form_number f) ∙ order.room);
          counted = rw (one_more_lem c order.ten t) (counted-more (unlisted c) t (omega arith) few order.counted);
          clean = rw (words, one_more_lem c order.ten t) (rw k at (clean_string (unlisted c) w t order.counted few order.room f p n small may some order.clean));
          inside = rw (words, string_more) (all_string (Ends s) (vocabulary (unlisted c) w) (table_of t) (stretch f p n) order.inside lies);
          indexed = keeps;
          more = then;
        }

  module _ (z : Triple) (low : 8 ≤ t) (high : t < 10) where
    pub name_more : vocabulary (unlisted then_counts) (stored w t (get_or c t 0) z.prefix z.namespace z.local) ≡ adding_name (vocabulary (unlisted c) w) (name_table_of t) z
    name_more =
        let k = count_at c order.ten t in
        rw (one_more_lem c order.ten t) (rw k at (name_added (unlisted c) w t order.counted few order.room z low high))

    pub ordered_name : {Then : Type 0} (v y : List ℕ) → v ≡ stored w t (get_or c t 0) z.prefix z.namespace z.local → Indexed only s (count_of (unlisted then_counts)) v y → Then → Ordered only s then_counts v y Then
    ordered_name v y words keeps then =
        let k = count_at c order.ten t in
        record {
          size = order.size;
          ten = length-set c t (get_or c t 0 + 1) ∙ order.ten;
          room = rw words (stored-length w t (get_or c t 0) z.prefix z.namespace z.local ∙ order.room);
          counted = rw (one_more_lem c order.ten t) (counted-more (unlisted c) t high few order.counted);
          clean = rw (words, one_more_lem c order.ten t) (rw k at (clean_name (unlisted c) w t order.counted few order.room z low high order.clean));
          inside = rw (words, name_more) (all_name (Ends s) (vocabulary (unlisted c) w) (name_table_of t) z order.inside);
          indexed = keeps;
          more = then;
        }
