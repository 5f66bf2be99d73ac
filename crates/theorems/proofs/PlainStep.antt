-- One event of the writer's run, seen in plain octets: where it stands, what it is written as, and what is known then.
use mathlib.Core.Path.{◌≡◌, refl, ap, ◌∙◌}
use mathlib.Core.Bool.{Bool, true, false, not, ◌&&◌, ◌||◌}
use mathlib.Core.List.{List, ◌∷◌}
use Prim.Native.Nat.{ℕ, ◌≤◌}
use native.Mathlib.Omega.{arith}
use borrow.Author.Tests.{leb-true, le-leb}
use lib.Dec.{leb}
use lib.ListN.{length, length-map}
use Rattle.format.specs.Octets.{Octets}
use Rattle.format.specs.Numbers.{pick}
use Rattle.format.specs.Events as E
use Rattle.format.specs.Events.{event_map, is_declaration, is_start}
use Rattle.format.specs.Tables.{PREFIX, NAMESPACE_NAME, LOCAL_NAME, OTHER_NCNAME, OTHER_URI, ATTRIBUTE_VALUE, CONTENT_CHARACTER_CHUNK, OTHER_STRING, ELEMENT_NAME, ATTRIBUTE_NAME, Vocabulary, strings, names, vocabulary_map, Version, InLimits}
use Rattle.format.specs.Items.{Mode, content, State, moved}
use Rattle.events.specs.declared.Kind.{Kind}
use Rattle.events.specs.declared.Kind.TheVariants.{Blank, Namespace, Start, Attribute, Chunk, Comment, Instruction, End}
use Rattle.events.specs.declared.Event.{Event}
use Rattle.tables.specs.Rows.{place}
use Rattle.tables.specs.Located.{Located, octets_of, plain_tables, plain_state}
use Rattle.write_names.specs.Choices.{within}
use Rattle.write_names.specs.Chosen.{choose_for}
use Rattle.write_items.specs.Events.{is_declaring, is_listing, event_of}
use Rattle.write_items.specs.Items.{WroteItem, write_item}
use Rattle.write_items.specs.Steps.{attribute_next, announced, is_attribute, opens, owed, settled, halves_of}
use Rattle.tables.proofs.Found.{both_true}
use Rattle.tables.proofs.ByNumber.{by_table_lem}
use Rattle.theorems.specs.Verdicts.{plain_of}
use Rattle.theorems.proofs.OneWriting.{later, later_start, later_declared}
use Rattle.theorems.proofs.Produced.{Rest, octets_by, known_by}
use Rattle.theorems.proofs.WriterChoices.{SameItem, same_item}
use Rattle.theorems.proofs.Structure.{same_kind}
use Rattle.theorems.proofs.Step.{halves_as, halves_by, next_by, words-settled}

pub opens_is : {S : Type 0} (m : Mode) (e : E.Event S) → opens m e ≡ ((is_declaration e || is_start e) && not (is_declaring m))
opens_is m (E.Namespace p n) = refl
opens_is m (E.Start x) = refl
opens_is m (E.Attribute x y) = refl
opens_is m (E.Text y) = refl
opens_is m (E.Comment y) = refl
opens_is m (E.Instruction x y) = refl
opens_is m E.End = refl

-- ---- what the records ahead announce
module _ (text : Octets) where
  -- by the record's kind, and by the event that it stands for
  said-ahead : (e : Event) (es : List Event) → (attribute_next (e ∷ es) ≡ is_attribute (plain_of text e)) × (announced (e ∷ es) ≡ later (plain_of text e) (attribute_next es) (announced es))
  unfolding announced event_of event_map
  said-ahead e es = go e.kind
    where
      go : (k : Kind)
          → (elim k [ Blank ↦ false | Namespace ↦ false | Start ↦ false | Attribute ↦ true | Chunk ↦ false | Comment ↦ false | Instruction ↦ false | End ↦ false ]
          ≡ is_attribute (event_map (octets_of text) (event_of k e)))
          × (elim k [ Blank ↦ false | Namespace ↦ announced es | Start ↦ attribute_next es | Attribute ↦ false | Chunk ↦ false | Comment ↦ false | Instruction ↦ false | End ↦ false ]
          ≡ later (event_map (octets_of text) (event_of k e)) (attribute_next es) (announced es))
      go Blank = (refl, refl)
      go Namespace = (refl, refl)
      go Start = (refl, refl)
      go Attribute = (refl, refl)
      go Chunk = (refl, refl)
      go Comment = (refl, refl)
      go Instruction = (refl, refl)
      go End = (refl, refl)

  pub next_is : (e : Event) (es : List Event) → attribute_next (e ∷ es) ≡ is_attribute (plain_of text e)
  next_is e es = (said-ahead e es).0

  pub announced-start : (e : Event) (es : List Event) → is_start (plain_of text e) ≡ true → announced (e ∷ es) ≡ attribute_next es
  announced-start e es t = (said-ahead e es).1 ∙ later_start (plain_of text e) (attribute_next es) (announced es) t

  pub announced_on : (e : Event) (es : List Event) → is_declaration (plain_of text e) ≡ true → announced (e ∷ es) ≡ announced es
  announced_on e es t = (said-ahead e es).1 ∙ later_declared (plain_of text e) (attribute_next es) (announced es) t

-- ---- one event
module _ (ver : Version) (text : Octets) (a : Bool) (v : State Located) (e : E.Event Located) where
  abbrev pv : State Octets
  pv = plain_state text v

  abbrev pe : E.Event Octets
  pe = event_map (octets_of text) e

  abbrev w : WroteItem
  w = write_item ver text a (settled v e) e

  settled_plain : plain_state text (settled v e) ≡ settled pv pe
  unfolding settled
  settled_plain = rw (same_kind (octets_of text) e).attribute (go (is_listing v.mode && not (is_attribute e)))
    where
      go : (t : Bool) → plain_state text (pick t (moved v v.tables content) v) ≡ pick t (moved (plain_state text v) (plain_tables text v.tables) content) (plain_state text v)
      go true = refl
      go false = refl

  same : SameItem text ver a (settled v e) e
  same = same_item text ver a (settled v e) e

  pub next_plain : plain_state text w.state ≡ next_by ver a pv pe
  next_plain = same.state ∙ ap (λ (u : State Octets). known_by ver a u pe) settled_plain

  pub choice_plain : w.choice ≡ (choose_for ver pv.tables pe).how
  choice_plain = same.choice ∙ ap (λ (u : Vocabulary Octets). (choose_for ver u pe).how) (ap (λ (u : State Octets). u.tables) settled_plain ∙ words-settled pv pe)

  pub halves-plain : (room at : ℕ) → halves_of ver text room at v e w ≡ halves_by ver at a pv pe
  unfolding halves_of halves_by halves_as owed
  halves-plain room at =
      rw ((same_kind (octets_of text) e).attribute, (same_kind (octets_of text) e).end, same.octets ∙ ap (λ (u : State Octets). octets_by ver a u pe) settled_plain)

-- ---- the tables behind it
known-words : (ver : Version) (a : Bool) (v : State Octets) (e : E.Event Octets) → (known_by ver a v e).tables ≡ (choose_for ver v.tables e).tables
unfolding choose_for
known-words ver a v (E.Namespace p n) = refl
known-words ver a v (E.Start x) = refl
known-words ver a v (E.Attribute x y) = refl
known-words ver a v (E.Text y) = refl
known-words ver a v (E.Comment y) = refl
known-words ver a v (E.Instruction x y) = refl
known-words ver a v E.End = refl

pub next_words : (ver : Version) (a : Bool) (v : State Octets) (e : E.Event Octets) → (next_by ver a v e).tables ≡ (choose_for ver v.tables e).tables
next_words ver a v e = known-words ver a (settled v e) e ∙ ap (λ (u : Vocabulary Octets). (choose_for ver u e).tables) (words-settled v e)

pub within-plain : (ver : Version) (text : Octets) (v : Vocabulary Located) → within ver (plain_tables text v) ≡ within ver v
unfolding within vocabulary_map
within-plain ver text v =
    rw (length-map v.prefixes (octets_of text), length-map v.namespaces (octets_of text), length-map v.locals (octets_of text), length-map v.ncnames (octets_of text))

-- what is within the limits, by the writer's test and by how it adds
pub fits_of : (ver : Version) (v : Vocabulary Octets) → within ver v ≡ true → Rest ver v → InLimits ver v
unfolding within strings names place
fits_of ver v e r =
    let a = both_true (leb (length v.prefixes) ver.entries) _ e in
    let b = both_true (leb (length v.namespaces) ver.entries) _ a.1 in
    let c = both_true (leb (length v.locals) ver.entries) _ b.1 in
    let d = both_true (leb (length v.ncnames) ver.entries) _ c.1 in
    let f = both_true (leb (length v.elements) ver.entries) _ d.1 in
    record {
      few = by_table_lem _ (leb-true _ _ a.0) (leb-true _ _ b.0) (leb-true _ _ c.0) (leb-true _ _ d.0) (r.few OTHER_URI (omega arith)) (r.few ATTRIBUTE_VALUE (omega arith))
          (r.few CONTENT_CHARACTER_CHUNK (omega arith)) (r.few OTHER_STRING (omega arith));
      few_names = λ t. elim t as (λ u. length (names v u) ≤ ver.entries) [ ELEMENT_NAME ↦ leb-true _ _ f.0 | ATTRIBUTE_NAME ↦ leb-true _ _ f.1 ];
    }

pub of_fits : (ver : Version) (v : Vocabulary Octets) → InLimits ver v → within ver v ≡ true
unfolding within strings names place
of_fits ver v f =
    rw (
      le-leb _ _ (f.few PREFIX),
      le-leb _ _ (f.few NAMESPACE_NAME),
      le-leb _ _ (f.few LOCAL_NAME),
      le-leb _ _ (f.few OTHER_NCNAME),
      le-leb _ _ (f.few_names ELEMENT_NAME),
      le-leb _ _ (f.few_names ATTRIBUTE_NAME),
    )
