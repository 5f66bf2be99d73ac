-- The events of what the rules write are a document.
use Prim.Native.Nat.{ℕ}
use mathlib.Core.Path.{refl}
use mathlib.Core.Bool.{true, false}
use mathlib.Core.List.{List, ◌∷◌, map}
use borrow.Author.Tests.{lt-ltb}
use Rattle.format.specs.Octets.{Octets, Halves}
use Rattle.format.specs.Events.{Event, Namespace, Start, Attribute, Text, Comment, Instruction, End, Item, no_attribute, IsDocument}
use Rattle.format.specs.Tables.{Version}
use Rattle.format.specs.Head.{Head}
use Rattle.format.specs.Items.{State, may_start, ItemWrittenAs, o_start, o_first_namespace, o_namespace, o_named_start, o_attribute, o_text, o_comment, o_instruction}
use Rattle.format.specs.Document.{Written, document_end_lem, attributes_end, element_end, item, Document}
use Rattle.write_items.specs.Events.{goes_on}
use Rattle.theorems.proofs.Structure.{Rest, back, ended_back, all_left}

abbrev pub events : List (Item Octets) → List (Event Octets)
events items = map (λ (i : Item Octets). i.event) items

module _ {ver : Version} where
  -- an item in front of what is left behind it: the rules go on as `goes_on` does
  fronts : {v w : State Octets} {i : Item Octets} {o : Octets} (es : List (Event Octets)) → ItemWrittenAs ver v i o w → Rest w es → Rest v (i.event ∷ es)
  unfolding goes_on may_start
  fronts {v} es (o_start a {x = x} md may deep u) k = back a v (Start x) es (rw md may) k
  fronts {v} es (o_first_namespace {a = a} {p = p} {n = n} md may deep u) k = back a v (Namespace p n) es (rw md may) k
  fronts {v} es (o_namespace {a = a} {p = p} {n = n} md u) k = back a v (Namespace p n) es (rw md) k
  fronts {v} es (o_named_start {a = a} {x = x} md u) k = back a v (Start x) es (rw md) k
  fronts {v} es (o_attribute {x = x} {y = y} md u1 u2) k = back true v (Attribute x y) es (rw md) k
  fronts {v} es (o_text {y = y} md lv u) k = back false v (Text y) es (rw md (lt-ltb 0 v.level lv)) (rw md at k)
  fronts {v} es (o_comment {y = y} md u) k = back false v (Comment y) es (rw md) (rw md at k)
  fronts {v} es (o_instruction {x = x} {y = y} md u1 u2) k = back false v (Instruction x y) es (rw md) (rw md at k)

  left : {at : ℕ} {v z : State Octets} {items : List (Item Octets)} {hs : Halves} → Written ver at v items hs z → Rest v (events items)
  unfolding goes_on
  left {v = v} (document_end_lem md lv rt) = ended_back v (md, lv, rt)
  left {items = items} (attributes_end md w) = rw md (events items, no_attribute, left w, refl)
  left {v = v} (element_end {items = items} md lv w) = back false v End (events items) (rw md (lt-ltb 0 v.level lv)) (left w)
  left (item {items = items} u w) = fronts (events items) u (left w)

  pub is_document : {h : Head} {items : List (Item Octets)} {z : State Octets} {s : Octets}
      → Document ver h items z s → IsDocument (events items)
  is_document {items = items} d = (all_left d.listed (events items)).1 (left d.rule)
