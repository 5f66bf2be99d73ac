-- The required choices for a list in two parts: those for the first part, then those for the second with the tables that the first leaves.
use mathlib.Core.Path.{◌≡◌, refl, ap}
use mathlib.Core.List.{List, [], ◌∷◌, ◌++◌}
use Rattle.format.specs.Octets.{Octets}
use Rattle.format.specs.Events.{Event, Item, ◌by◌}
use Rattle.format.specs.Tables.{Vocabulary, Version}
use Rattle.write_names.specs.Chosen.{choose_for, chosen, tables_after}

module _ (C : Version) where
  pub chosen_append : (v : Vocabulary Octets) (xs ys : List (Event Octets)) → chosen C v (xs ++ ys) ≡ chosen C v xs ++ chosen C (tables_after C v xs) ys
  unfolding chosen tables_after
  chosen_append v [] ys = refl
  chosen_append v (e ∷ xs) ys = ap (λ (l : List (Item Octets)). (e by (choose_for C v e).how) ∷ l) (chosen_append (choose_for C v e).tables xs ys)

  pub tables_append : (v : Vocabulary Octets) (xs ys : List (Event Octets)) → tables_after C v (xs ++ ys) ≡ tables_after C (tables_after C v xs) ys
  unfolding tables_after
  tables_append v [] ys = refl
  tables_append v (e ∷ xs) ys = tables_append (choose_for C v e).tables xs ys
