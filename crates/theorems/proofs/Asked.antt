-- What holds of all that a call that writes may leave: by what it asks first, a refusal at place 0; or what comes of the head and the events.
use Prim.Native.Nat.{ℕ, ◌≤◌, ◌<◌}
use mathlib.Core.Path.{◌≡◌, sym, ◌∙◌}
use mathlib.Core.Bool.{true}
use mathlib.Core.List.{List}
use borrow.Author.Tests.{leb-true, leb-false}
use lib.Dec.{leb}
use lib.ListN.{length}
use Rattle.format.specs.Octets.{Octets, Words}
use Rattle.format.specs.Refusals.{SIZE, ROOM, EVENT}
use Rattle.format.specs.Tables.{Version}
use Rattle.tables.specs.Counts.{table_words}
use Rattle.tables.proofs.Found.{clash}
use Rattle.events.specs.declared.Event.{Event}
use Rattle.write_head.specs.Given.{is_given, given_of}
use Rattle.write_head.specs.Head.{head_octets}
use Rattle.writer.specs.Writing.{Outcome, refusing, outcome, writing, write_of}
use Rattle.theorems.proofs.Lists.{either, either_eq}

module _ (ver : Version) (given : Words) (es : List Event) (text : Octets) (room table : ℕ) where
  abbrev pub result : Outcome
  result = outcome ver (head_octets ver text (given_of given)) (writing ver (given_of given) text room es) room

  pub by_asked : (P : Outcome → Type 0)
      → (length text ≤ ver.octets → table ≡ table_words → is_given given ≡ true → P result)
      → (ver.octets < length text → P (refusing SIZE 0 room table))
      → (length text ≤ ver.octets → (table ≡ table_words → ⊥) → P (refusing ROOM 0 room table))
      → (length text ≤ ver.octets → table ≡ table_words → (is_given given ≡ true → ⊥) → P (refusing EVENT 0 room table))
      → P (write_of ver given es text room table)
  unfolding write_of
  by_asked P goes size words event =
      either P (leb (length text) ver.octets) _ _
      (λ short.
      let l : length text ≤ ver.octets = leb-true _ _ short in
      either_eq P table table_words _ _
      (λ right. either P (is_given given) _ _ (λ e. goes l right e) (λ e. event l right (λ y. clash (sym e ∙ y))))
      (words l))
      (λ long. size (leb-false _ _ long))
