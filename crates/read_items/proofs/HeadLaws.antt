-- What an item's first octets say, case by case: that the definition says the same.
-- Assumes nothing.
use mathlib.Core.Path.{◌≡◌, refl, sym, ◌∙◌}
use mathlib.Core.List.{List}
use mathlib.Core.Bool.{Bool, true, false, not, ◌||◌, true≢false}
use Prim.Native.Nat.{ℕ, ◌/◌, ◌%◌, ◌≤◌, ◌<◌}
use native.Mathlib.Omega.{arith}
use native.Mathlib.Decide.{dec_lt, ℕ_discrete}
use borrow.Author.Tests.{lt-ltb, le-ltb}
use lib.Dec.{ltb}
use lib.ListN.{length, get_or}
use Rattle.std.specs.Prelude.{Result, Ok, Err}
use Rattle.format.specs.Octets.{Octets}
use Rattle.format.specs.Refusals.{refusal_number}
use Rattle.format.specs.declared.refusals.Fault.{Fault}
use Rattle.fields.specs.declared.Read.{Read}
use Rattle.format.specs.Tables.{Vocabulary, link}
use Rattle.format.specs.Names.{NameLayout, of_element, of_attribute}
use Rattle.format.specs.Items as F
use Rattle.tables.specs.Located.{Located}
use Rattle.tables.specs.Rows.{vocabulary}
use Rattle.tables.specs.Kept.{unlisted, layout_of}
use Rattle.states.specs.declared.State.{State}
use Rattle.states.specs.States.{root_of, state_of}
use Rattle.read_names.specs.Strings as S
use Rattle.read_names.specs.Promises.{IdLeft, Positive, seen_name, name_seen}
use Rattle.read_names.specs.Names.{parts_at, numbered_at, name_at}
use Rattle.read_items.specs.declared.items.Spot.{Spot}
use Rattle.read_items.specs.declared.items.Head.{Head}
use Rattle.read_items.specs.declared.items.Head.TheVariants.{Named, Declared}
use Rattle.read_items.specs.Items as I
use Rattle.read_items.specs.Items.{name_padding, namespace_at, element_at}
use Rattle.read_items.specs.HeadContracts.{start_by, attribute_by, named_by, SpotNamed, Tells}
use Rattle.read_items.specs.Promises.{Lent, stand_of, Meets}
use Rattle.read_items.proofs.StepLaws.{refuse}
use Rattle.read_items.proofs.Fields.{name_not}
use Rattle.read_items.proofs.ItemLaws.{padding_known, element_numbered, element_parts}

-- A name at octet k, of a table, that the six bits b of the octet start.
abbrev pub name_here : (k table b : ℕ) → Bool → Result Head Fault
name_here k table b l = Ok (Named (record { at = k; table = table; first = b; listing = l }))

module _ {s : Octets} {st : State} {d : F.State Located → I.Step} where
  pub tells_stop : {f : Fault} → ((w : Vocabulary Located) → d (state_of st w) ≡ I.stop (refusal_number f.refusal) f.at) → Tells s st (Err f) d
  tells_stop f = record { is = f; stands = tt }

  pub tells_element : {k b : ℕ} {l : Bool} → k < length s
      → ((w : Vocabulary Located) → d (state_of st w) ≡ start_by k l (state_of st w) (name_at link of_element s b k w)) → Tells s st (name_here k 8 b l) d
  tells_element h f = record { is = f; stands = record { inside = h; low = omega arith; high = omega arith; octet = λ z. absurd (omega arith) } }

  pub tells_attribute : {k : ℕ} → k < length s
      → ((w : Vocabulary Located) → d (state_of st w) ≡ attribute_by s k (state_of st w)) → Tells s st (name_here k 9 (get_or s k 0) false) d
  tells_attribute h f = record { is = f; stands = record { inside = h; low = omega arith; high = omega arith; octet = λ z. refl } }

  pub tells_declared : {k : ℕ} {l : Bool} → k ≤ length s → st.level < 32
      → ((w : Vocabulary Located) → d (state_of st w) ≡ namespace_at link s k (state_of st w) l) → Tells s st (Ok (Declared k l)) d
  tells_declared h o f = record { is = f; stands = (h, o) }

  pub tells_by : {r : Result Head Fault} {e : F.State Located → I.Step} → Tells s st r e → ((w : Vocabulary Located) → d (state_of st w) ≡ e (state_of st w)) → Tells s st r d
  tells_by t f = record { is = λ w. f w ∙ t.is w; stands = t.stands }

-- ---- an element by its six bits
name_low : (s : Octets) (b k : ℕ) (w : Vocabulary Located) → b < 0x3C → numbered_at link of_element s k w ≡ name_at link of_element s b k w
unfolding name_at of_element
name_low s b k w h = rw (lt-ltb _ _ h)

name_high : (s : Octets) (b k : ℕ) (w : Vocabulary Located) → 0x3C ≤ b → parts_at link of_element s b k w ≡ name_at link of_element s b k w
unfolding name_at of_element
name_high s b k w h = rw (le-ltb _ _ h)

module _ (s : Octets) (st : State) (k b : ℕ) (l : Bool) (h : k < length s) (u : false ≡ name_padding b) (m : true ≡ (ltb 0 st.level || not (root_of st.root))) where
  pub tells_numbered : b < 0x38 → Tells s st (name_here k 8 b l) (element_at link s k b l)
  tells_numbered g = tells_element h (λ w. rw (← name_low s b k w (omega arith)) (element_numbered s k b l (state_of st w) u m g))

  pub tells_parts : 0x38 ≤ b → (b / 1 % 4 ≡ 2 → ⊥) → st.level < 32 → (b ≡ 0x38 → ⊥) → Tells s st (name_here k 8 b l) (element_at link s k b l)
  tells_parts g n o z =
      let f : 0x3C ≤ b = elim (dec_lt b 0x3C) [ yes y ↦ absurd (true≢false (sym (padding_known b g y z) ∙ sym u)) | no y ↦ omega arith ] in
      tells_element h (λ w. rw (← name_high s b k w f) (element_parts s k b l (state_of st w) u m g n o z))

-- ---- a name's table, and what was read of it
pub attribute_table : (s : Octets) (x : Spot) → SpotNamed s x → (x.table ≡ 8 → ⊥) → x.table ≡ 9
attribute_table s x n e = let l = n.low in let h = n.high in omega arith

module _ (s : Octets) (x : Spot) (v : F.State Located) where
  pub named_element : x.table ≡ 8 → named_by s x v ≡ start_by x.at x.listing v (name_at link of_element s x.first x.at v.tables)
  named_element e = rw e

  pub named_attribute : x.table ≡ 9 → named_by s x v ≡ attribute_by s x.at v
  named_attribute e = rw e

  -- A name's refusal is that of what it starts.
  named_refused : {n p : ℕ} → SpotNamed s x → name_at link (layout_of x.table) s x.first x.at v.tables ≡ S.refused n p → named_by s x v ≡ I.stop n p
  unfolding layout_of start_by
  named_refused m e =
      elim (ℕ_discrete x.table 8) [
        | yes q ↦ let r = rw q at e in named_element q ∙ rw r
        | no q ↦ let t = attribute_table s x m q in let r = rw (t, m.octet t) at e in named_attribute t ∙ rw r
      ]

-- What reading a name answers and leaves.
abbrev Reads : (s c w : List ℕ) (table first k : ℕ) → Result (Read ℕ) Fault → (c' w' x' : List ℕ) → NameLayout → Type 0
Reads s c w table first k r c' w' x' q =
    (seen_name table r c' w' ≡ name_seen (name_at link q s first k (vocabulary (unlisted c) w))) × IdLeft s c w table r c' w' x' × Positive r

module _ (s c w : List ℕ) (x : Spot) (r : Result (Read ℕ) Fault) (c' w' i' : List ℕ) where
  pub name_element : x.table ≡ 8 → Reads s c w x.table x.first x.at r c' w' i' (layout_of x.table) → Reads s c w 8 x.first x.at r c' w' i' of_element
  unfolding layout_of
  name_element e n = rw e at n

  pub name_attribute : SpotNamed s x → x.table ≡ 9 → Reads s c w x.table x.first x.at r c' w' i' (layout_of x.table)
      → Reads s c w 9 (get_or s x.at 0) x.at r c' w' i' of_attribute
  unfolding layout_of
  name_attribute m e n = rw (e, m.octet e) at n

-- The name's refusal, and what was lent was a and is b.
pub name_refused : {s : Octets} {st : State} {n : ℕ} {a b : Lent} {x : Spot} {f : Fault} → SpotNamed s x
    → Reads s a.counts a.tables x.table x.first x.at (Err f) b.counts b.tables b.index (layout_of x.table) → b.records ≡ a.records
    → Meets s st n a (Err f) b (named_by s x)
name_refused {s = s} {st = st} {a = a} {b = b} {x = x} {f = f} m y q =
    refuse y.1 q (named_refused s x (stand_of st a).state m
    (name_not (name_at link (layout_of x.table) s x.first x.at (stand_of st a).state.tables) x.table b.counts b.tables f y.0))
