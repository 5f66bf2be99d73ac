-- A refusal's number is at most 15, and every place that a step tells is within the octets.
-- Assumes nothing.
use mathlib.Core.Bool.{Bool, true, false, ◌&&◌}
use mathlib.Core.List.{List}
use Prim.Native.Nat.{ℕ, suc, ◌+◌, ◌-◌, ◌*◌, ◌/◌, ◌%◌, ◌≤◌, ◌<◌}
use native.Mathlib.Omega.{arith}
use borrow.Author.Tests.{ltb-true, eqb-true}
use lib.Dec.{eqb, ltb, leb}
use lib.ListN.{length, get_or}
use Rattle.format.specs.Numbers.{pick}
use Rattle.format.specs.Tables.{OTHER_NCNAME, ATTRIBUTE_VALUE, CONTENT_CHARACTER_CHUNK, OTHER_STRING, Vocabulary, Version}
use Rattle.format.specs.Strings.{c15}
use Rattle.format.specs.Names.{of_element, of_attribute}
use Rattle.format.specs.Items.{Mode, content, declaring, listing, State, may_start}
use Rattle.format.specs.Document.{aligned}
use Rattle.tables.specs.Located.{Located}
use Rattle.read_names.specs.Strings.{Got, got, refused, id_at, literal_at, value_at}
use Rattle.read_names.specs.Names.{NameRead, lone_prefix, parts_at, numbered_at, name_at, declared_at}
use Rattle.tables.proofs.Found.{both_true}
use Rattle.read_items.specs.Items.{Stand, Step, more, quiet, done, stop, into, name_padding, start_of, namespace_at, element_at, named_at, attribute_at, chunk_at, comment_at, instruction_at, other_at, child_at, declaring_at, item_at}
use Rattle.read_items.specs.Steps.{ends_at, pads_at, document_end, end_at, by_halves, step}
use Rattle.read_names.proofs.StringLaws.{tests, there_is}
use Rattle.read_names.proofs.Places.{Fault, Within, id_within, literal_within, value_within, parts_within, numbered_within, name_within, declared_within}
use Rattle.read_items.proofs.EndLaws.{end_within}

module _ (s : List ℕ) where
  abbrev pub Placed : Step → Type 0
  Placed (more p i m) = p ≤ length s
  Placed (quiet m) = Unit {0}
  Placed done = Unit {0}
  Placed (stop n p) = Fault s n p

  into-placed : {B : Type 0} (g : Got B) (f : B → ℕ → Vocabulary Located → Step) → Within s g → ((b : B) (next : ℕ) (v : Vocabulary Located) → next ≤ length s → Placed (f b next v))
      → Placed (into g f)
  into-placed (got b next v) f h k = k b next v h
  into-placed (refused n p) f h k = h

  module _ (ver : Version) where
    -- ---- items
    start-placed : (k : ℕ) (a : Bool) (v : State Located) (g : Got NameRead) → k ≤ length s → Within s g → Placed (start_of ver k a v g)
    start-placed k a v g h w = into-placed g _ w λ x next u l. h

    namespace_placed : (k : ℕ) (v : State Located) (a : Bool) → k ≤ length s → Placed (namespace_at ver s k v a)
    unfolding namespace_at
    namespace_placed k v a h = into-placed (declared_at ver s k v.tables) _ (declared_within s ver k v.tables h) λ d next w l. h

    element_placed : (k b : ℕ) (a : Bool) (v : State Located) → k < length s → Placed (element_at ver s k b a v)
    unfolding element_at
    element_placed k b a v h =
        tests Placed (name_padding b) _ _ (λ _. omega arith)
        λ _. tests Placed (may_start v) _ _
        (λ _. tests Placed (ltb b 0x38) _ _
        (λ _. into-placed (numbered_at ver of_element s k v.tables) _ (numbered_within s ver of_element k v.tables (omega arith))
        λ x next w l. tests Placed (ltb v.level ver.depth) _ _ (λ _. omega arith) (λ _. omega arith))
        λ _. tests Placed (leb 0x3C b && lone_prefix b) _ _ (λ _. omega arith)
        λ _. tests Placed (ltb v.level ver.depth) _ _
        (λ _. tests Placed (eqb b 0x38) _ _ (λ _. namespace_placed (suc k) v a h) (λ _. start-placed k a v (parts_at ver of_element s b k v.tables) (omega arith) (parts_within s ver of_element b k v.tables h)))
        (λ _. omega arith))
        (λ _. omega arith)

    named_placed : (k : ℕ) (a : Bool) (v : State Located) → k ≤ length s → Placed (named_at ver s k a v)
    unfolding named_at
    named_placed k a v h =
        tests Placed (ltb k (length s)) _ _
        (λ e. tests Placed (eqb (get_or s k 0 % 64 / 4) 14) _ _ (λ _. omega arith)
        λ _. tests Placed (ltb (get_or s k 0) 0x40) _ _
        (λ _. tests Placed (name_padding (get_or s k 0)) _ _ (λ _. omega arith) (λ _. start-placed k a v (name_at ver of_element s (get_or s k 0) k v.tables) h (name_within s ver of_element (get_or s k 0) k v.tables (ltb-true _ _ e))))
        (λ _. omega arith))
        (λ _. omega arith)

    attribute_placed : (k : ℕ) (v : State Located) → k ≤ length s → Placed (attribute_at ver s k v)
    unfolding attribute_at
    attribute_placed k v h =
        tests Placed (ltb k (length s)) _ _
        (λ e. tests Placed (ltb (get_or s k 0) 0x80) _ _
        (λ _. tests Placed (ltb (get_or s k 0) 0x7C) _ _
        (λ _. into-placed (name_at ver of_attribute s (get_or s k 0) k v.tables) _ (name_within s ver of_attribute (get_or s k 0) k v.tables (ltb-true _ _ e))
        λ x k₁ w₁ h₁. into-placed (value_at ver s ATTRIBUTE_VALUE k₁ w₁) _ (value_within s ver ATTRIBUTE_VALUE k₁ w₁ h₁) λ y k₂ w₂ h₂. h)
        (λ _. omega arith))
        (λ _. omega arith))
        (λ _. omega arith)

    instruction_placed : (k : ℕ) (v : State Located) → k < length s → Placed (instruction_at ver s k v)
    unfolding instruction_at
    instruction_placed k v h =
        into-placed (id_at ver s OTHER_NCNAME (suc k) v.tables) _ (id_within s ver OTHER_NCNAME (suc k) v.tables h)
        λ x k₁ w₁ h₁. into-placed (value_at ver s OTHER_STRING k₁ w₁) _ (value_within s ver OTHER_STRING k₁ w₁ h₁) λ y k₂ w₂ h₂. omega arith

    other_placed : (k : ℕ) (v : State Located) → k ≤ length s → Placed (other_at ver s k v)
    unfolding other_at
    other_placed k v h =
        tests Placed (ltb (get_or s k 0) 0xF0) _ _
        (λ _. tests Placed (eqb (get_or s k 0 / 4) (pick (ltb 0 v.level) 0x32 0x31)) _ _ (λ _. omega arith) (λ _. omega arith))
        (λ _. omega arith)

    child_placed : (k : ℕ) (v : State Located) → k ≤ length s → Placed (child_at ver s k v)
    unfolding child_at chunk_at comment_at
    child_placed k v h =
        tests Placed (ltb k (length s)) _ _
        (λ e. let l : k < length s = ltb-true _ _ e in
        tests Placed (ltb (get_or s k 0) 0x40) _ _ (λ _. element_placed k (get_or s k 0) false v l)
        λ _. tests Placed (ltb (get_or s k 0) 0x80) _ _ (λ _. element_placed k (get_or s k 0 - 0x40) true v l)
        λ _. tests Placed (ltb (get_or s k 0) 0xC0) _ _
        (λ _. tests Placed (ltb 0 v.level) _ _
        (λ _. into-placed (literal_at ver c15 s CONTENT_CHARACTER_CHUNK k v.tables) _ (literal_within s ver c15 CONTENT_CHARACTER_CHUNK k v.tables h) λ y next w n. h)
        (λ _. omega arith))
        λ _. tests Placed (eqb (get_or s k 0) 0xE1) _ _ (λ _. instruction_placed k v l)
        λ _. tests Placed (eqb (get_or s k 0) 0xE2) _ _
        (λ _. into-placed (value_at ver s OTHER_STRING (suc k) v.tables) _ (value_within s ver OTHER_STRING (suc k) v.tables l) λ y next w n. h)
        (λ _. other_placed k v h))
        (λ _. omega arith)

    item_placed : (k : ℕ) (v : State Located) (m : Mode) → k ≤ length s → Placed (item_at ver s k v m)
    unfolding item_at declaring_at
    item_placed k v content h = child_placed k v h
    item_placed k v (declaring a) h =
        tests Placed (eqb (get_or s k 0) 0xF0) _ _
        (λ e. named_placed (suc k) a v (there_is s k (let o = eqb-true (get_or s k 0) 0xF0 e in omega arith))) (λ _. namespace_placed k v a h)
    item_placed k v (listing some) h = attribute_placed k v h

    -- ---- ends
    document_placed : (m : Stand) → m.at < 2 * length s → Placed (document_end s m)
    unfolding document_end aligned
    document_placed m h =
        tests Placed m.state.root _ _
        (λ _. tests Placed (pads_at s (suc m.at)) _ _
        (λ _. tests Placed (eqb (suc m.at + suc m.at % 2) (2 * length s)) _ _ (λ _. tt) (λ _. omega arith))
        (λ _. omega arith))
        (λ _. omega arith)

    end_placed : (m : Stand) (d : Mode) → m.at < 2 * length s → Placed (end_at s m d)
    unfolding end_at
    end_placed m (listing true) h = tt
    end_placed m (listing false) h = omega arith
    end_placed m (declaring a) h = omega arith
    end_placed m content h = tests Placed (ltb 0 m.state.level) _ _ (λ _. omega arith) (λ _. document_placed m h)

    pub step_placed : (m : Stand) → m.at ≤ 2 * length s → Placed (step ver s m)
    unfolding step aligned
    step_placed m h =
        tests Placed (by_halves m.state.mode && ends_at s m.at) _ _
        (λ e. end_placed m m.state.mode (end_within s m.at (both_true (by_halves m.state.mode) (ends_at s m.at) e).1))
        λ _. tests Placed (pads_at s m.at) _ _ (λ _. item_placed _ m.state m.state.mode (omega arith)) (λ _. omega arith)
