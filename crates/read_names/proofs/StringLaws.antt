-- A law for each answer of the functions that read strings, on plain values.
-- Assumes nothing.
use mathlib.Core.Path.{◌≡◌, refl, sym, ap, ◌∙◌}
use mathlib.Core.Bool.{Bool, true, false, not, ◌||◌}
use mathlib.Core.Option.{some}
use mathlib.Core.List.{List, [], ◌∷◌, map}
use Prim.Native.Nat.{ℕ, zero, suc, ◌+◌, ◌-◌, ◌*◌, ◌/◌, ◌%◌, ◌^◌, ◌≤◌, ◌<◌}
use native.Mathlib.Omega.{arith}
use native.Mathlib.Numerals.{add-one}
use borrow.Author.Tests.{lt-ltb, le-ltb, le-leb, lt-leb, leb-true, eq-eqb, ne_eqb}
use lib.Dec.{ltb, leb, eqb}
use lib.ListN.{length, get_or, set, take, drop, get_or-eq_default}
use Rattle.std.specs.Prelude.{Result, Ok, Err, IsErr, IsErrAnd}
use Rattle.format.specs.Numbers.{pick, Form, lengths, numbers, c25, top}
use Rattle.format.specs.Refusals.{refusal_number}
use Rattle.format.specs.declared.refusals.Fault.{Fault}
use Rattle.format.specs.declared.refusals.Refusal.{Refusal}
use Rattle.format.specs.declared.refusals.Refusal.TheVariants.{Truncated, Text, Repeat, Full}
use Rattle.fields.specs.Utf8.{is_text}
use Rattle.format.specs.Events.{spelled, numbered}
use Rattle.format.specs.Tables.{Triple, Vocabulary, strings, names, adding, holds, link}
use Rattle.format.specs.Strings.{Layout, c14, c15, keeping}
use Rattle.format.specs.Forms.{form_number, form_of}
use Rattle.format.specs.declared.StringForm.{StringForm}
use Rattle.format.specs.declared.StringForm.TheVariants.{Utf8, Utf16}
use Rattle.fields.specs.declared.Read.{Read}
use Rattle.fields.specs.Fields as F
use Rattle.fields.specs.Fields.{bits_of, field_at, no_top}
use Rattle.fields.proofs.Laws.{case}
use Rattle.fields.proofs.Bounds.{field_got}
use Rattle.tables.specs.declared.Counts.{Counts}
use Rattle.tables.specs.declared.Row.{Row}
use Rattle.tables.specs.Located.{Located, empty, stretch, octets_of}
use Rattle.tables.specs.Rows.{table_of, built_in, form_in, string_at, entries, vocabulary}
use Rattle.tables.specs.Kept.{unlisted, count_of, stored, row_at, Ends, Inside}
use Rattle.tables.proofs.FormLaws.{MayHold, holds_any, form_identifying, form_in_lem, form_held}
use Rattle.tables.proofs.Adding.{names-adding}
use Rattle.tables.proofs.Entries.{stored_0, stored_1, stored_2}
use Rattle.tables.proofs.Laws.{strings_are_lem, length-strings, string_nth, holds-number, all_table}
use Rattle.index.specs.Indexed.{listed, NewString, Indexed, StringsIndexed, StringEntered}
use Rattle.index.proofs.Entered.{keeps_elsewhere}
use Rattle.events.specs.declared.EventString.{EventString}
use Rattle.events.specs.declared.EventString.TheVariants.{Absent, Empty, Stretch, XmlPrefix, XmlNamespace}
use Rattle.events.specs.Records.{event_string}
use Rattle.read_names.specs.Strings as S
use Rattle.read_names.specs.Strings.{Got, got, refused, then, number, spelling, IdRead, StringRead, id_at, optional_at, number_bit, method_at, form_by, method_length, formed_at, spelled_at, literal_at, value_at}
use Rattle.read_names.specs.Promises.{Ranged, searched, Tidy, Left, event_string_at, Seen, seen_id, IdLeft, Positive, seen_field, FieldLeft, id_seen, optional_seen, string_seen}
use Rattle.read_names.specs.StringContracts.{LengthRead, judged_of, held_of, held_by, said_of, added_of, added_counts, added_words}
use Rattle.index.proofs.Counted.{count_at, one_more-words}
use Rattle.index.proofs.Ordered.{string_more, ordered_string}
use Rattle.read_names.proofs.Grown.{searched_string, searched_not, grown_none, grown-stored}

-- a test of a definition, taken apart
pub tests : {A : Type 0} (P : A → Type 0) (t : Bool) (a b : A) → (t ≡ true → P a) → (t ≡ false → P b) → P (pick t a b)
tests P true a b f g = f refl
tests P false a b f g = g refl

-- `?` hands a refusal on as it is
pub handed_on : {T : Type 0} (r : Result T Fault) (f : Fault) → IsErr r × IsErrAnd r (λ y. y ≡ f) → r ≡ Err f
handed_on (Ok x) f h = absurd h.1
handed_on (Err y) f h = ap Err h.1

-- ---- a spelled string's octets: r is the length that was read at k
pub length-read : (s : List ℕ) (k bit : ℕ) (r : Read ℕ) → Ok r ≡ field_at (lengths bit) no_top bit s k → LengthRead s (Ok r)
length-read s k bit r e = let g = field_got no_top s k (lengths bit) bit (sym e) in (g.0, g.3)

-- or refused
pub length_given : (s : List ℕ) (k bit : ℕ) (m : Result (Read ℕ) Fault) → m ≡ field_at (lengths bit) no_top bit s k → LengthRead s m
length_given s k bit (Ok r) e = length-read s k bit r e
length_given s k bit (Err f) e = tt

module _ (form : StringForm) (s : List ℕ) (k : ℕ) (r : Read ℕ) where
  pub judged_text : r.next.at + r.value ≤ length s → is_text (octets_of s (stretch form r.next.at r.value)) ≡ true → Ok tt ≡ judged_of form s k r
  unfolding judged_of
  judged_text h q = rw (le-leb _ _ h, q)

  -- what the judgement says of the octets is what the definition says, where b is what follows
  abbrev judged : {C : Type 0} → Result (Unit {0}) Fault → Got C → Got C
  judged (Ok u) b = b
  judged (Err f) b = refused (refusal_number f.refusal) f.at

  spelling_judged : {C : Type 0} (b : Got C) → spelling form s k r.next.at r.value b ≡ judged (judged_of form s k r) b
  unfolding spelling judged_of
  spelling_judged b = by (leb (r.next.at + r.value) (length s)) (is_text (octets_of s (stretch form r.next.at r.value)))
    where
      by : (t u : Bool) → pick t (pick u b (refused 9 k)) (refused 2 k) ≡ judged (pick t (pick u (Ok tt) (F.refused Text k)) (F.refused Truncated k)) b
      by true true = refl
      by true false = refl
      by false u = refl

  abbrev Lies : Result (Unit {0}) Fault → Type 0
  Lies (Ok u) = r.next.at + r.value ≤ length s
  Lies (Err f) = Unit {0}

  judged_lies : Lies (judged_of form s k r)
  unfolding judged_of
  judged_lies =
      tests Lies (leb (r.next.at + r.value) (length s)) _ _
      (λ t. tests Lies (is_text (octets_of s (stretch form r.next.at r.value))) _ _ (λ u. leb-true _ _ t) (λ u. tt))
      (λ t. tt)

  pub judged_within : Ok tt ≡ judged_of form s k r → r.next.at + r.value ≤ length s
  judged_within e = rw (← e) at judged_lies

-- ---- an entry as a string of an event
module _ (t at : ℕ) (w : List ℕ) (e : Row) (is : e ≡ row_at w at) where
  entry_stretch : (f : StringForm) → (e.b ≡ 0 → ⊥) → form_in (table_of t) e.c ≡ f → Stretch f e.a e.b ≡ event_string (string_at (table_of t) w at)
  unfolding string_at row_at
  entry_stretch f h q =
      let a : get_or w at 0 ≡ e.a = ap (λ (r : Row). r.a) (sym is) in
      let b : get_or w (at + 1) 0 ≡ e.b = ap (λ (r : Row). r.b) (sym is) in
      let c : get_or w (at + 2) 0 ≡ e.c = ap (λ (r : Row). r.c) (sym is) in
      rw (a, b, c, ne_eqb _ _ h, q)

  pub entry_octets : t < 5 → (e.b ≡ 0 → ⊥) → Stretch Utf8 e.a e.b ≡ event_string (string_at (table_of t) w at)
  entry_octets l h = entry_stretch Utf8 h (form_identifying t e.c l)

  pub entry_formed : (f : StringForm) → f ≡ form_of e.c → 5 ≤ t → t < 8 → (e.b ≡ 0 → ⊥) → Stretch f e.a e.b ≡ event_string (string_at (table_of t) w at)
  entry_formed f q l u h = entry_stretch f h (form_in_lem t e.c u (λ z. absurd (omega arith)) ∙ sym q)

  pub entry_built_in : (x : EventString) → e.b ≡ 0 → x ≡ event_string (built_in (table_of t)) → x ≡ event_string (string_at (table_of t) w at)
  unfolding string_at row_at
  entry_built_in x h q =
      let b : get_or w (at + 1) 0 ≡ e.b = ap (λ (r : Row). r.b) (sym is) in
      rw (b, h) q

pub built_in_prefix_lem : (t : ℕ) → t ≡ 0 → XmlPrefix ≡ event_string (built_in (table_of t))
unfolding built_in table_of
built_in_prefix_lem t e = rw e

pub built_in_namespace_lem : (t : ℕ) → t ≡ 1 → XmlNamespace ≡ event_string (built_in (table_of t))
unfolding built_in table_of
built_in_namespace_lem t e = rw e

pub built_in_none : (t : ℕ) → t < 8 → (t ≡ 0 → ⊥) → (t ≡ 1 → ⊥) → Empty ≡ event_string (built_in (table_of t))
unfolding built_in table_of
built_in_none zero h a b = absurd (a refl)
built_in_none (suc zero) h a b = absurd (b refl)
built_in_none (suc (suc zero)) h a b = refl
built_in_none (suc (suc (suc zero))) h a b = refl
built_in_none (suc (suc (suc (suc zero)))) h a b = refl
built_in_none (suc (suc (suc (suc (suc zero))))) h a b = refl
built_in_none (suc (suc (suc (suc (suc (suc zero)))))) h a b = refl
built_in_none (suc (suc (suc (suc (suc (suc (suc zero))))))) h a b = refl
built_in_none (suc (suc (suc (suc (suc (suc (suc (suc t)))))))) h a b = absurd (omega arith)

-- ---- the string behind a number
pub string_none : (w : List ℕ) (t n : ℕ) → n ≡ 0 → Absent ≡ event_string_at w t n
unfolding event_string_at
string_none w t n e = rw e

pub string_there : (w : List ℕ) (t n : ℕ) (x : EventString) → 1 ≤ n → x ≡ event_string (string_at (table_of t) w (768 * t + 3 * (n - 1))) → x ≡ event_string_at w t n
unfolding event_string_at
string_there w t n x h e = let z : suc (n - 1) ≡ n = omega arith in e ∙ ap (event_string_at w t) z

-- ---- a number that was read, r
module _ (count k : ℕ) (r : Read ℕ) where
  pub held_entry : r.value ≤ count → Ok r ≡ held_of count k r
  unfolding held_of
  held_entry l = rw (le-leb _ _ l)

  abbrev Among : Result (Read ℕ) Fault → Type 0
  Among (Ok n) = (n ≡ r) × (n.value ≤ count)
  Among (Err f) = Unit {0}

  held_among : Among (held_of count k r)
  unfolding held_of
  held_among = tests Among (leb r.value count) _ _ (λ l. (refl, leb-true _ _ l)) (λ l. tt)

  pub held_is : (n : Read ℕ) → Ok n ≡ held_of count k r → (n ≡ r) × (n.value ≤ count)
  held_is n e = rw (← e) at held_among

  pub held_positive : 1 ≤ r.value → Positive (held_of count k r)
  unfolding held_of
  held_positive h = tests Positive (leb r.value count) _ _ (λ l. h) (λ l. tt)

module _ (w : List ℕ) (t count k : ℕ) (r : Read ℕ) where
  pub said_entry : (x : EventString) → r.value ≤ count → x ≡ event_string (string_at (table_of t) w (768 * t + 3 * (r.value - 1))) → F.got x r.next.at ≡ said_of w t count k r
  unfolding said_of
  said_entry x l q = rw (le-leb _ _ l, q)

-- a number that was read is not 0, or its refusal is handed on
pub held_from_one : (s : List ℕ) (count k bit : ℕ) (fs : List Form) (m : Result (Read ℕ) Fault) → m ≡ field_at fs top bit s k → Positive (held_by count k m)
held_from_one s count k bit fs (Ok r) e = held_positive count k r (field_got top s k fs bit (sym e)).0
held_from_one s count k bit fs (Err f) e = tt

abbrev pub said_by : List ℕ → (t count k : ℕ) → Result (Read ℕ) Fault → Result (Read EventString) Fault
said_by w t count k (Ok r) = said_of w t count k r
said_by w t count k (Err f) = Err f

-- ---- tables in order stay so
growing : (l : List ℕ) (t k : ℕ) → get_or l k 0 ≤ get_or (set l t (get_or l t 0 + 1)) k 0
growing [] t k = omega arith
growing (x ∷ l) zero zero = omega arith
growing (x ∷ l) zero (suc k) = omega arith
growing (x ∷ l) (suc t) zero = omega arith
growing (x ∷ l) (suc t) (suc k) = growing l t k

pub ranged_kept : (c d : Counts) → c.prefix ≤ d.prefix → c.namespace ≤ d.namespace → c.local ≤ d.local → (l : List Triple) → Ranged c l → Ranged d l
ranged_kept c d p n k [] r = tt
ranged_kept c d p n k (x ∷ l) r = (omega arith, omega arith, omega arith, omega arith, ranged_kept c d p n k l r.4)

-- a string more in table t, and the index y that is kept with it
module _ (s c w x : List ℕ) (t : ℕ) (form : StringForm) (place size : ℕ) (tidy : Tidy s c w x) (h : t < 8) (may : MayHold t form) (room : get_or c t 0 < 256) (ends : place + size ≤ length s) (some : 0 < size) where
  abbrev then_counts : List ℕ
  then_counts = set c t (get_or c t 0 + 1)

  abbrev then-words : List ℕ
  then-words = stored w t (get_or c t 0) place size (form_number form)

  is_added : vocabulary (unlisted then_counts) then-words ≡ adding (vocabulary (unlisted c) w) (table_of t) (stretch form place size)
  is_added = string_more tidy t room form place size h may some

  left-more : (y : List ℕ) → Indexed searched s (count_of (unlisted then_counts)) then-words y → Left s c w (place + size) then_counts then-words y
  left-more y keeps =
      record {
        tidy =
            ordered_string tidy t room form place size h may some ends then-words y refl keeps
            (λ k. rw (is_added, names-adding (vocabulary (unlisted c) w) (table_of t) (stretch form place size) k)
            (ranged_kept (unlisted c) (unlisted then_counts) (growing c t 0) (growing c t 1) (growing c t 2) (names (vocabulary (unlisted c) w) k) (tidy.more k)));
        within = ends;
        grown = grown-stored c w t place size (form_number form) tidy.ten (omega arith) room tidy.counted;
      }

  -- of a table that is searched, and of one that is not
  left_entered : (y : List ℕ) → StringEntered s t (get_or c t 0) (record { a = place; b = size; c = form_number form }) w x then-words y → Left s c w (place + size) then_counts then-words y
  left_entered y e = left-more y (e.keeps.still searched (count_of (unlisted c)) (count_of (unlisted then_counts)) (one_more-words c tidy.ten t (omega arith)) tidy.indexed)

  left_elsewhere : 5 ≤ t → Left s c w (place + size) then_counts then-words x
  left_elsewhere l =
      left-more x
      (keeps_elsewhere searched s w x t (get_or c t 0) place size (form_number form) (count_of (unlisted c)) (count_of (unlisted then_counts)) room (searched_not t l h)
      (one_more-words c tidy.ten t (omega arith)) tidy.indexed)

  -- the string behind its number
  new_string : Stretch form place size ≡ event_string_at then-words t (get_or c t 0 + 1)
  unfolding event_string_at string_at
  new_string =
      let n = count_at c tidy.ten t in
      let fits : 768 * t + 3 * get_or c t 0 + 3 ≤ length w = (let r = tidy.room in omega arith) in
      let one = stored_1 w t (get_or c t 0) place size (form_number form) fits in
      rw (add-one (get_or c t 0), one, stored_0 w t (get_or c t 0) place size (form_number form) fits, stored_2 w t (get_or c t 0) place size (form_number form) fits, ne_eqb size 0 (omega arith), form_held t form h may)

-- ---- what an answer stands for
abbrev pub IdAnswers : (s c w : List ℕ) → ℕ → Result (Read ℕ) Fault → (d v x : List ℕ) → S.Got Seen → Type 0
IdAnswers s c w t r d v x a = (seen_id t r d v ≡ a) × IdLeft s c w t r d v x × Positive r

abbrev pub FieldAnswers : (s c w : List ℕ) → Result (Read EventString) Fault → (d v x : List ℕ) → S.Got EventString → Type 0
FieldAnswers s c w r d v x a = (seen_field r d v ≡ a) × FieldLeft s c w r d v x

-- a test of a definition, under a map
under : {A B : Type 0} (f : A → B) (b : Bool) (x y : A) → f (pick b x y) ≡ pick b (f x) (f y)
under f true x y = refl
under f false x y = refl

-- an octet that is not 0 is one of the document's
pub there_is : (s : List ℕ) (k : ℕ) → 0 < get_or s k 0 → k < length s
there_is s k h = case k (length s) (λ l. l) (λ l. let z = get_or-eq_default s 0 {n = k} l in absurd (omega arith))

-- ---- what the index is asked
module _ (s c w x : List ℕ) (t : ℕ) (tidy : Tidy s c w x) where
  pub table_small : get_or c t 0 ≤ 256
  table_small = rw (← count_at c tidy.ten t) (tidy.counted t)

  pub table_inside : t < 8 → Inside s (entries (string_at (table_of t) w) (768 * t) (get_or c t 0))
  table_inside l = rw (← count_at c tidy.ten t) (all_table (Ends s) (unlisted c) w t l tidy.inside)

  pub table_indexed : t < 5 → StringsIndexed s w x t (get_or c t 0)
  table_indexed l = rw (← count_at c tidy.ten t) (tidy.indexed.of_strings t (omega arith) (searched_string t l))

-- ---- the code stands at octet k, and the tables are in order
module _ (s c w x : List ℕ) (t k : ℕ) (tidy : Tidy s c w x) (small : t < 8) where
  abbrev here : Vocabulary Located
  here = vocabulary (unlisted c) w

  abbrev table : List Located
  table = strings (vocabulary (unlisted c) w) (table_of t)

  rooms : (length c ≡ 10) × (length w ≡ 7680)
  rooms = (tidy.ten, tidy.room)

  stays : (at : ℕ) → at ≤ length s → Left s c w at c w x
  stays at l = record { tidy = tidy; within = l; grown = grown_none c w }

  -- a number and the entry behind it
  abbrev number_of : ℕ → ℕ → S.Got Seen
  number_of n next = pick (leb n (length table)) (got (record { text = event_string (get_or table (n - 1) empty); number = n }) next here) (refused 10 k)

  abbrev entry_of : ℕ → ℕ → S.Got EventString
  entry_of n next = pick (leb n (length table)) (got (event_string (get_or table (n - 1) empty)) next here) (refused 10 k)

  module _ (fs : List Form) (bit : ℕ) (m : Result (Read ℕ) Fault) (is : m ≡ field_at fs top bit s k) where
    held_number : IdAnswers s c w t (held_by (count_of (unlisted c) t) k m) c w x (number m number_of)
    unfolding held_of
    held_number = by m is
      where
        by : (m : Result (Read ℕ) Fault) → m ≡ field_at fs top bit s k → IdAnswers s c w t (held_by (count_of (unlisted c) t) k m) c w x (number m number_of)
        by (Err f) e = (refl, rooms, tt)
        by (Ok r) e =
            let g = field_got top s k fs bit (sym e) in
            let len = length-strings (unlisted c) w t small in
            case (count_of (unlisted c) t) r.value
            (λ l. rw (len, lt-leb _ _ l) (refl, rooms, tt))
            (λ l. rw (len, le-leb _ _ l, string_nth (unlisted c) w t (r.value - 1) empty small (omega arith), string_there w t r.value _ g.0 refl) (refl, (stays r.next.at g.3, l), g.0))

    held_string : FieldAnswers s c w (said_by w t (count_of (unlisted c) t) k m) c w x (number m entry_of)
    unfolding said_of
    held_string = by m is
      where
        by : (m : Result (Read ℕ) Fault) → m ≡ field_at fs top bit s k → FieldAnswers s c w (said_by w t (count_of (unlisted c) t) k m) c w x (number m entry_of)
        by (Err f) e = (refl, rooms)
        by (Ok r) e =
            let g = field_got top s k fs bit (sym e) in
            let len = length-strings (unlisted c) w t small in
            case (count_of (unlisted c) t) r.value
            (λ l. rw (len, lt-leb _ _ l) (refl, rooms))
            (λ l. rw (len, le-leb _ _ l, string_nth (unlisted c) w t (r.value - 1) empty small (omega arith)) (refl, stays r.next.at g.3))

  -- ---- C.13
  abbrev as_id : ℕ → ℕ → S.Got IdRead
  as_id n next =
      pick (holds (map (octets_of s) table) (octets_of s (stretch Utf8 next n))) (refused 11 k)
      (pick (ltb (length table) link.entries)
      (got (record { string = stretch Utf8 next n; how = spelled Utf8 true; number = suc (length table) }) (next + n) (adding here (table_of t) (stretch Utf8 next n)))
      (refused 12 k))

  abbrev pub by_id : S.Got Seen
  by_id = id_seen (id_at link s (table_of t) k here)

  -- its length was refused
  pub fresh_refused : get_or s k 0 < 0x80 → (f : Fault) → Err f ≡ field_at (lengths 2) no_top 2 s k → IdAnswers s c w t (Err f) c w x by_id
  unfolding id_at
  fresh_refused low f e = rw (lt-ltb _ _ low, ← e) (refl, rooms, tt)

  -- its length was read, r; and what became of its octets
  module _ (low : get_or s k 0 < 0x80) (r : Read ℕ) (read : Ok r ≡ field_at (lengths 2) no_top 2 s k) where
    id_spelled : id_at link s (table_of t) k here ≡ spelling Utf8 s k r.next.at r.value (as_id r.value r.next.at)
    unfolding id_at
    id_spelled = rw (lt-ltb _ _ low, ← read)

    pub fresh_past : length s < r.next.at + r.value → IdAnswers s c w t (F.refused Truncated k) c w x by_id
    unfolding spelling
    fresh_past h = rw (id_spelled, lt-leb _ _ h) (refl, rooms, tt)

    module _ (h : r.next.at + r.value ≤ length s) where
      pub fresh_bad : is_text (octets_of s (stretch Utf8 r.next.at r.value)) ≡ false → IdAnswers s c w t (F.refused Text k) c w x by_id
      unfolding spelling
      fresh_bad z = rw (id_spelled, le-leb _ _ h, z) (refl, rooms, tt)

      -- they are text, and v and y are the words of the tables and the index then
      module _ (text : is_text (octets_of s (stretch Utf8 r.next.at r.value)) ≡ true) (v y : List ℕ) where
        id_text : id_at link s (table_of t) k here ≡ as_id r.value r.next.at
        unfolding spelling
        id_text = rw (id_spelled, le-leb _ _ h, text)

        there : holds (map (octets_of s) table) (octets_of s (stretch Utf8 r.next.at r.value)) ≡ listed s w t (get_or c t 0) r.next.at r.value
        there = rw (strings_are_lem (unlisted c) w t small, count_at c tidy.ten t) (holds-number _ _)

        pub new_not : (e : Refusal) → NewString s t (get_or c t 0) r.next.at r.value w x (Err e) v y → IdAnswers s c w t (F.refused e k) c v y by_id
        unfolding link
        new_not Repeat a = rw (a.1, id_text, there, a.0) (refl, rooms, tt)
        new_not Full a = rw (a.2, id_text, there, a.0, length-strings (unlisted c) w t small, count_at c tidy.ten t, le-ltb _ _ a.1) (refl, rooms, tt)
        new_not e a = absurd a

        pub new_done : NewString s t (get_or c t 0) r.next.at r.value w x (Ok tt) v y
            → IdAnswers s c w t (F.got (get_or c t 0 + 1) (r.next.at + r.value)) (set c t (get_or c t 0 + 1)) v y by_id
        unfolding link
        new_done a =
            let l = a.1 in
            let some = (length-read s k 2 r read).0 in
            let q = rw a.2.words at a.2 in
            let more = (one_more-words c tidy.ten t (omega arith)).here in
            rw (a.2.words, id_text, there, a.0, length-strings (unlisted c) w t small, count_at c tidy.ten t, lt-ltb _ _ l, ← add-one (get_or c t 0)) (
              rw (← new_string s c w x t Utf8 r.next.at r.value tidy small (λ _. refl) l h some, ← is_added s c w x t Utf8 r.next.at r.value tidy small (λ _. refl) l h some) refl,
              (left_entered s c w x t Utf8 r.next.at r.value tidy small (λ _. refl) l h some y q, omega arith),
              omega arith,
            )

  module _ (high : 0x80 ≤ get_or s k 0) (m : Result (Read ℕ) Fault) (is : m ≡ field_at c25 top 2 s k) where
    pub id_held : (a : Result (Read ℕ) Fault) → a ≡ held_by (count_of (unlisted c) t) k m → IdAnswers s c w t a c w x by_id
    unfolding id_at
    id_held a q = rw (q, le-ltb _ _ high, ← is, by m) (held_number c25 2 m is)
      where
        by : (m : Result (Read ℕ) Fault)
            → id_seen (number m λ n next. pick (leb n (length table)) (got (record { string = get_or table (n - 1) empty; how = numbered n; number = n }) next here) (refused 10 k))
            ≡ number m number_of
        by (Err f) = refl
        by (Ok r) = under id_seen (leb r.value (length table)) _ _

  module _ (there : Bool) where
    abbrev pub by_optional : S.Got Seen
    by_optional = optional_seen (optional_at link there s (table_of t) k here)

    pub optional_there : there ≡ true → (a : Result (Read ℕ) Fault) (d v y : List ℕ) → IdAnswers s c w t a d v y by_id → (seen_id t a d v ≡ by_optional) × IdLeft s c w t a d v y
    unfolding optional_at
    optional_there z a d v y p = rw (z, by (id_at link s (table_of t) k here)) (p.0, p.1)
      where
        by : (g : S.Got IdRead) → optional_seen (then g λ i next w. got (record { string = some i.string; how = some i.how; number = i.number }) next w) ≡ id_seen g
        by (got b next v) = refl
        by (refused n p) = refl

    pub optional_absent : there ≡ false → k ≤ length s → (seen_id t (F.got 0 k) c w ≡ by_optional) × IdLeft s c w t (F.got 0 k) c w x
    unfolding optional_at event_string_at
    optional_absent z l = rw z (refl, (stays k l, omega arith))

  -- ---- C.14, C.15
  -- a spelled one in a form, whose length was refused
  abbrev pub by_formed : StringForm → Bool → Result (Read ℕ) Fault → S.Got EventString
  by_formed form add m = string_seen (formed_at link form s (table_of t) k add m here)

  pub length_refused : (form : StringForm) (add : Bool) (f : Fault) → FieldAnswers s c w (Err f) c w x (by_formed form add (Err f))
  unfolding formed_at
  length_refused form add f = (refl, rooms)

  -- or was read, r
  module _ (form : StringForm) (add : Bool) (r : Read ℕ) (read : LengthRead s (Ok r)) where
    abbrev as_string : Bool → S.Got StringRead
    as_string add =
        pick (not add || ltb (length table) link.entries)
        (got (record { string = stretch form r.next.at r.value; how = spelled form add }) (r.next.at + r.value) (keeping add here (table_of t) (stretch form r.next.at r.value)))
        (refused 12 k)

    string_formed : formed_at link form s (table_of t) k add (Ok r) here ≡ judged form s k r (judged_of form s k r) (as_string add)
    unfolding formed_at
    string_formed = spelling_judged form s k r (as_string add)

    pub formed_not : (f : Fault) → Err f ≡ judged_of form s k r → FieldAnswers s c w (Err f) c w x (by_formed form add (Ok r))
    formed_not f e = rw (string_formed, ← e) (refl, rooms)

    pub formed_added : 5 ≤ t → Ok tt ≡ judged_of form s k r → (a : Result (Read EventString) Fault) (d v : List ℕ)
        → (a ≡ added_of c t k form r.next.at r.value add) × (d ≡ added_counts c t add) × (v ≡ added_words c w t form r.next.at r.value add) → FieldAnswers s c w a d v x (by_formed form add (Ok r))
    unfolding added_of added_counts added_words link
    formed_added l e a d v q = rw (q.0, q.1, q.2, string_formed, ← e) (by add)
      where
        by : (b : Bool) → FieldAnswers s c w (added_of c t k form r.next.at r.value b) (added_counts c t b) (added_words c w t form r.next.at r.value b) x (string_seen (as_string b))
        by false = (refl, stays (r.next.at + r.value) (judged_within form s k r e))
        by true =
            let h = judged_within form s k r e in
            let may = holds_any t form l in
            rw (length-strings (unlisted c) w t small, count_at c tidy.ten t)
            (case (get_or c t 0) 256
            (λ u. rw (lt-ltb _ _ u, ← is_added s c w x t form r.next.at r.value tidy small may u h read.0) (refl, left_elsewhere s c w x t form r.next.at r.value tidy small may u h read.0 l))
            (λ u. rw (le-ltb _ _ u) (refl, rooms)))

  -- by its format f, the two bits before the length's in the first octet o
  module _ (bit : ℕ) (add : Bool) where
    abbrev pub by_spelled : S.Got EventString
    by_spelled = string_seen (spelled_at link bit s (table_of t) k add here)

    module _ (from : 2 ≤ bit) (o f : ℕ) (is : o ≡ get_or s k 0) (ef : f ≡ bits_of o (bit - 2) (bit - 1)) where
      format_is : get_or s k 0 / 2 ^ (9 - bit) % 4 ≡ f
      format_is =
          let low : 8 - (bit - 1) ≡ 9 - bit = omega arith in
          let two : bit - 1 + 1 - (bit - 2) ≡ 2 = omega arith in
          rw (← is, ef, low, two)

      module _ (m : Result (Read ℕ) Fault) (a : Result (Read EventString) Fault) (d v : List ℕ) where
        pub spelled_utf8 : f ≡ 0 → m ≡ field_at (lengths bit) no_top bit s k → FieldAnswers s c w a d v x (by_formed Utf8 add m)
            → FieldAnswers s c w a d v x by_spelled
        unfolding spelled_at
        spelled_utf8 e q p = rw (format_is, e, ← q) p

        pub spelled_utf16 : f ≡ 1 → m ≡ field_at (lengths bit) no_top bit s k → FieldAnswers s c w a d v x (by_formed Utf16 add m)
            → FieldAnswers s c w a d v x by_spelled
        unfolding spelled_at
        spelled_utf16 e q p = rw (format_is, e, ← q) p

        pub spelled_method : (form : StringForm) → (f ≡ 0 → ⊥) → (f ≡ 1 → ⊥) → form ≡ form_by (method_at bit s k) → m ≡ method_length bit f s k (get_or s (suc k) 0 % 2 ^ (9 - bit))
            → FieldAnswers s c w a d v x (by_formed form add m) → FieldAnswers s c w a d v x by_spelled
        unfolding spelled_at
        spelled_method form a₀ a₁ ef q p = rw (format_is, ne_eqb _ _ a₀, ne_eqb _ _ a₁, ← ef, ← q) p

  -- which string the first octet says
  module _ (q : Layout) where
    abbrev as_numbered : ℕ → ℕ → S.Got StringRead
    as_numbered n next = pick (leb n (length table)) (got (record { string = get_or table (n - 1) empty; how = numbered n }) next here) (refused 10 k)

    abbrev literal : S.Got StringRead
    literal = literal_at link q s (table_of t) k here

    abbrev octet : ℕ
    octet = get_or s k 0

    literal_plain : octet < q.spelled_bits + q.add_bit → literal ≡ spelled_at link q.length_bit s (table_of t) k false here
    unfolding literal_at
    literal_plain l = rw (lt-ltb _ _ l)

    module _ (p : q.spelled_bits + q.add_bit ≤ octet) where
      literal_added : octet < q.numbered_bits → literal ≡ spelled_at link q.length_bit s (table_of t) k true here
      unfolding literal_at
      literal_added l = rw (le-ltb _ _ p, lt-ltb _ _ l)

      literal_held : q.numbered_bits ≤ octet → (m : Result (Read ℕ) Fault) → m ≡ field_at q.number_forms top (number_bit q) s k
          → (a : Result (Read EventString) Fault) → a ≡ said_by w t (count_of (unlisted c) t) k m → FieldAnswers s c w a c w x (string_seen literal)
      unfolding literal_at
      literal_held l m is a ea = rw (ea, le-ltb _ _ p, le-ltb _ _ l, ← is, by m) (held_string q.number_forms (number_bit q) m is)
        where
          by : (m : Result (Read ℕ) Fault) → string_seen (number m as_numbered) ≡ number m entry_of
          by (Err f) = refl
          by (Ok r) = under string_seen (leb r.value (length table)) _ _

  -- ---- C.14 from bit 1: o is the first octet, b its bit 1
  abbrev pub by_value : S.Got EventString
  by_value = string_seen (value_at link s (table_of t) k here)

  module _ (o : ℕ) (is : o ≡ get_or s k 0) where
    pub value_empty : o ≡ 0xFF → FieldAnswers s c w (F.got Empty (k + 1)) c w x by_value
    unfolding value_at
    value_empty e = rw (eq-eqb _ _ (sym is ∙ e), add-one k) (refl, stays (suc k) (there_is s k (omega arith)))

    is_literal : (o ≡ 0xFF → ⊥) → value_at link s (table_of t) k here ≡ literal_at link c14 s (table_of t) k here
    unfolding value_at
    is_literal ne = rw (ne_eqb _ _ (λ e. ne (is ∙ e)))

    module _ (b : ℕ) (eb : b ≡ o / 128 % 2) where
      pub value_held : (o ≡ 0xFF → ⊥) → b ≡ 1 → (m : Result (Read ℕ) Fault) → m ≡ field_at c25 top 2 s k → (a : Result (Read EventString) Fault) → a ≡ said_by w t (count_of (unlisted c) t) k m
          → FieldAnswers s c w a c w x by_value
      unfolding c14
      value_held ne one m im a ea = rw (is_literal ne) (literal_held c14 (omega arith) (omega arith) m im a ea)

      -- a is its add bit
      pub value_spelled : o < 256 → (b ≡ 1 → ⊥) → (a : ℕ) → a ≡ o / 64 % 2 → (g : Result (Read EventString) Fault) (d v : List ℕ)
          → FieldAnswers s c w g d v x (string_seen (spelled_at link 5 s (table_of t) k (eqb a 1) here)) → FieldAnswers s c w g d v x by_value
      unfolding c14
      value_spelled fits plain a ea g d v p =
          let low : o < 0x80 = omega arith in
          case o 0x40
          (λ l. let e : o / 64 ≡ 0 = omega arith in rw (is_literal (omega arith), literal_plain c14 (omega arith)) (rw (ea, e) at p))
          (λ l. let e : o / 64 ≡ 1 = omega arith in rw (is_literal (omega arith), literal_added c14 (omega arith) (omega arith)) (rw (ea, e) at p))

  -- ---- C.15 from bit 3: o is the first octet, b its bit 3
  abbrev pub by_chunk : S.Got EventString
  by_chunk = string_seen (literal_at link c15 s (table_of t) k here)

  module _ (o : ℕ) (is : o ≡ get_or s k 0) (from : 0x80 ≤ o) (to : o < 0xC0) (b : ℕ) (eb : b ≡ o / 32 % 2) where
    pub chunk_held : b ≡ 1 → (m : Result (Read ℕ) Fault) → m ≡ field_at (numbers 4) top 4 s k → (a : Result (Read EventString) Fault) → a ≡ said_by w t (count_of (unlisted c) t) k m
        → FieldAnswers s c w a c w x by_chunk
    unfolding c15
    chunk_held one m im a ea =
        let l : 0xA0 ≤ o = omega arith in
        literal_held c15 (omega arith) (omega arith) m im a ea

    -- a is its add bit
    pub chunk_spelled : (b ≡ 1 → ⊥) → (a : ℕ) → a ≡ o / 16 % 2 → (g : Result (Read EventString) Fault) (d v : List ℕ)
        → FieldAnswers s c w g d v x (string_seen (spelled_at link 7 s (table_of t) k (eqb a 1) here)) → FieldAnswers s c w g d v x by_chunk
    unfolding c15
    chunk_spelled plain a ea g d v p =
        let below : o < 0xA0 = omega arith in
        case o 0x90
        (λ l. let e : o / 16 ≡ 8 = omega arith in rw (literal_plain c15 (omega arith)) (rw (ea, e) at p))
        (λ l. let e : o / 16 ≡ 9 = omega arith in rw (literal_added c15 (omega arith) (omega arith)) (rw (ea, e) at p))
