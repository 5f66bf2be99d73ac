-- What holds of all that the writer's run writes, where it holds at the end and, with one event in front of the rest, goes on to hold.
use mathlib.Core.Path.{◌≡◌, refl, sym, ap, ◌∙◌, subst}
use mathlib.Core.Bool.{true, ◌&&◌}
use mathlib.Core.List.{List, [], ◌∷◌, ◌++◌}
use Prim.Native.Nat.{ℕ, zero, suc, ◌+◌, ◌*◌, ◌<◌}
use native.Mathlib.Omega.{arith}
use lib.Dec.{eqb}
use lib.ListN.{length}
use Rattle.format.specs.Octets.{Octets, Halves}
use Rattle.format.specs.Events.{Item, ◌by◌}
use Rattle.format.specs.Tables.{Version}
use Rattle.format.specs.Items.{State}
use Rattle.format.specs.Document.{pad, beginning}
use Rattle.events.specs.declared.Event.{Event}
use Rattle.tables.specs.Located.{Located}
use Rattle.write_head.specs.Given.{Given}
use Rattle.write_head.specs.Head.{tables_of, head_octets, fault_of_head}
use Rattle.write_items.specs.Events.{is_content, event_of}
use Rattle.write_items.specs.Items.{WroteItem, write_item}
use Rattle.write_items.specs.Steps.{announced, settled, fits, halves_of, judge}
use Rattle.writer.specs.Writing.{Result, written, refusal, plus, finish, run, writing}
use Rattle.theorems.proofs.Lists.{test}

module _ (ver : Version) (text : Octets) (room : ℕ) where
  -- a result is of the run, if the head is right, or the head's refusal
  pub by_head : (g : Given) (es : List Event) (P : Result → Type 0) → (fault_of_head ver text g room ≡ 0 → P (run ver text room (2 * length (head_octets ver text g)) (beginning (tables_of ver g)) 0 es))
      → ((n : ℕ) → fault_of_head ver text g room ≡ suc n → P (refusal (suc n) 0)) → P (writing ver g text room es)
  unfolding writing
  by_head g es P right wrong = from (fault_of_head ver text g room) refl
    where
      from : (n : ℕ) → fault_of_head ver text g room ≡ n
          → P (elim n [ zero ↦ run ver text room (2 * length (head_octets ver text g)) (beginning (tables_of ver g)) 0 es | suc n ↦ refusal (suc n) 0 ])
      from zero e = right e
      from (suc n) e = wrong n e

  pub head_refused : (g : Given) (es : List Event) (n : ℕ) → fault_of_head ver text g room ≡ n → 0 < n → writing ver g text room es ≡ refusal n 0
  head_refused g es n e k = by_head g es (λ r. r ≡ refusal n 0) (λ z. absurd (omega arith)) (λ m q. ap (λ (j : ℕ). refusal j 0) (sym q ∙ e))

  -- what an event is written as, and its halves, where es follow it
  abbrev pub wrote_of : Event → List Event → State Located → WroteItem
  wrote_of e es v = write_item ver text (announced (e ∷ es)) (settled v (event_of e.kind e)) (event_of e.kind e)

  abbrev pub own_of : Event → List Event → ℕ → State Located → Halves
  own_of e es at v = halves_of ver text room at v (event_of e.kind e) (wrote_of e es v)

  module _ (P : List Event → ℕ → State Located → List (Item Located) → Halves → State Located → Type 0) where
    abbrev pub IfWritten : List Event → ℕ → State Located → Result → Type 0
    IfWritten es at v (written items hs z) = P es at v items hs z
    IfWritten es at v (refusal n p) = Unit {0}

    module _ (ends : (at : ℕ) (v : State Located) → fits ver text room (suc at) ≡ true → P [] at v [] (15 ∷ pad (suc at)) v)
        (goes : (e : Event) (es : List Event) (at : ℕ) (v : State Located) (items : List (Item Located)) (rest : Halves) (z : State Located) → judge ver text room at v e (wrote_of e es v) (own_of e es at v) ≡ 0
        → P es (at + length (own_of e es at v)) (wrote_of e es v).state items rest z → P (e ∷ es) at v ((event_of e.kind e by (wrote_of e es v).choice) ∷ items) (own_of e es at v ++ rest) z) where
      turned : (e : Event) (es : List Event) (at : ℕ) (v : State Located) (i : ℕ) (r : Result) → IfWritten es (at + length (own_of e es at v)) (wrote_of e es v).state r
          → (j : ℕ) → judge ver text room at v e (wrote_of e es v) (own_of e es at v) ≡ j
          → IfWritten (e ∷ es) at v (elim j [ zero ↦ plus (event_of e.kind e by (wrote_of e es v).choice) (own_of e es at v) r | suc n ↦ refusal (suc n) i ])
      turned e es at v i (written items rest z) h zero q = goes e es at v items rest z q h
      turned e es at v i (refusal n p) h zero q = tt
      turned e es at v i r h (suc n) q = tt

      pub all_written : (es : List Event) (at : ℕ) (v : State Located) (i : ℕ) → IfWritten es at v (run ver text room at v i es)
      unfolding run finish
      all_written [] at v i =
          test (IfWritten [] at v) (refusal 16 i) tt (is_content v.mode && (eqb v.level 0 && v.root)) _
          λ t. test (IfWritten [] at v) (refusal 14 i) tt (fits ver text room (suc at)) _ λ f. ends at v f
      all_written (e ∷ es) at v i =
          let at' : ℕ = at + length (own_of e es at v) in
          let v' : State Located = (wrote_of e es v).state in
          turned e es at v i (run ver text room at' v' (suc i) es) (all_written es at' v' (suc i)) (judge ver text room at v e (wrote_of e es v) (own_of e es at v)) refl

      pub as_written : (g : Given) (es : List Event) (items : List (Item Located)) (hs : Halves) (z : State Located) → writing ver g text room es ≡ written items hs z
          → P es (2 * length (head_octets ver text g)) (beginning (tables_of ver g)) items hs z
      as_written g es items hs z e =
          let at : ℕ = 2 * length (head_octets ver text g) in
          let v : State Located = beginning (tables_of ver g) in
          subst (IfWritten es at v) e (by_head g es (IfWritten es at v) (λ r. all_written es at v 0) (λ n f. tt))
