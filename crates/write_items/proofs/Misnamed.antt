-- A record that is blank, or has an identifying string in another form than utf-8, is not well made, so that its fault is EVENT.
-- Assumes nothing.
use mathlib.Core.Path.{◌≡◌, refl}
use mathlib.Core.Logic.{⊎_elim}
use mathlib.Core.Bool.{false, ◌&&◌, and-false}
use mathlib.Core.List.{List}
use Prim.Native.Nat.{ℕ}
use Rattle.format.specs.declared.StringForm.TheVariants.{Utf8, Utf16, Numeric, Dates, Short, Int, Long}
use Rattle.format.specs.Items.{State}
use Rattle.format.specs.declared.refusals.Refusal.TheVariants.{Event as NoEvent}
use Rattle.std.specs.Prelude.{Err}
use Rattle.tables.specs.Located.{Located}
use Rattle.events.specs.declared.EventString.{EventString}
use Rattle.events.specs.declared.EventString.TheVariants.{Absent, Empty, Stretch, XmlPrefix, XmlNamespace}
use Rattle.events.specs.declared.Kind.{Kind}
use Rattle.events.specs.declared.Kind.TheVariants.{Blank, Namespace, Start, Attribute, Chunk, Comment, Instruction, End}
use Rattle.events.specs.declared.Event.{Event}
use Rattle.events.specs.Words.{string_form}
use Rattle.events.specs.FromWords.{Misnamed}
use Rattle.write_items.specs.Events.{is_absent, is_stretch, is_prefix, is_namespace, is_name, no_name, well_made}
use Rattle.write_items.specs.Promises.{fault_of}
use Rattle.write_items.proofs.Faults.{fault_unmade}

-- a string in another form is none of what an identifying one may be
other : (text : List ℕ) (x : EventString) → (string_form x ≡ Utf8 → ⊥) → (is_prefix text x ≡ false) × (is_namespace text x ≡ false) × (is_stretch text x ≡ false) × (is_absent x ≡ false)
other text Absent h = absurd (h refl)
other text Empty h = absurd (h refl)
other text (Stretch Utf8 p n) h = absurd (h refl)
other text (Stretch Utf16 p n) h = (refl, refl, refl, refl)
other text (Stretch Numeric p n) h = (refl, refl, refl, refl)
other text (Stretch Dates p n) h = (refl, refl, refl, refl)
other text (Stretch Short p n) h = (refl, refl, refl, refl)
other text (Stretch Int p n) h = (refl, refl, refl, refl)
other text (Stretch Long p n) h = (refl, refl, refl, refl)
other text XmlPrefix h = absurd (h refl)
other text XmlNamespace h = absurd (h refl)

module _ (text : List ℕ) (e : Event) where
  by_prefix : (k : Kind) → (string_form e.prefix ≡ Utf8 → ⊥) → well_made text k e ≡ false
  unfolding well_made is_name no_name
  by_prefix Blank h = refl
  by_prefix Namespace h = rw (other text e.prefix h).0
  by_prefix Start h = rw (other text e.prefix h).0
  by_prefix Attribute h = rw (other text e.prefix h).0
  by_prefix Chunk h = rw (other text e.prefix h).3
  by_prefix Comment h = rw (other text e.prefix h).3
  by_prefix Instruction h = rw (other text e.prefix h).3
  by_prefix End h = rw (other text e.prefix h).3

  by_namespace : (k : Kind) → (string_form e.namespace ≡ Utf8 → ⊥) → well_made text k e ≡ false
  unfolding well_made is_name no_name
  by_namespace Blank h = refl
  by_namespace Namespace h = rw ((other text e.namespace h).1, and-false (is_prefix text e.prefix))
  by_namespace Start h = rw ((other text e.namespace h).1, and-false (is_prefix text e.prefix))
  by_namespace Attribute h = rw ((other text e.namespace h).1, and-false (is_prefix text e.prefix))
  by_namespace Chunk h = rw ((other text e.namespace h).3, and-false (is_absent e.prefix))
  by_namespace Comment h = rw ((other text e.namespace h).3, and-false (is_absent e.prefix))
  by_namespace Instruction h = rw ((other text e.namespace h).3, and-false (is_absent e.prefix))
  by_namespace End h = rw ((other text e.namespace h).3, and-false (is_absent e.prefix))

  by_name : (k : Kind) → (string_form e.name ≡ Utf8 → ⊥) → well_made text k e ≡ false
  unfolding well_made is_name no_name
  by_name Blank h = refl
  by_name Namespace h = rw ((other text e.name h).3, and-false (is_namespace text e.namespace), and-false (is_prefix text e.prefix))
  by_name Start h = rw ((other text e.name h).2, and-false (is_namespace text e.namespace), and-false (is_prefix text e.prefix))
  by_name Attribute h = rw ((other text e.name h).2, and-false (is_namespace text e.namespace), and-false (is_prefix text e.prefix))
  by_name Chunk h = rw ((other text e.name h).3, and-false (is_absent e.prefix && is_absent e.namespace))
  by_name Comment h = rw ((other text e.name h).3, and-false (is_absent e.prefix && is_absent e.namespace))
  by_name Instruction h = rw ((other text e.name h).2, and-false (is_absent e.prefix && is_absent e.namespace))
  by_name End h = rw ((other text e.name h).3, and-false (is_absent e.prefix && is_absent e.namespace))

  blank_unmade : (k : Kind) → k ≡ Blank → well_made text k e ≡ false
  unfolding well_made
  blank_unmade k b = rw b

  unmade : Misnamed e → well_made text e.kind e ≡ false
  unmade = ⊎_elim (blank_unmade e.kind) (⊎_elim (by_prefix e.kind) (⊎_elim (by_namespace e.kind) (by_name e.kind)))

  pub fault_misnamed : (v : State Located) → Misnamed e → Err NoEvent ≡ fault_of text v e
  fault_misnamed v m = fault_unmade text v e (unmade m)
