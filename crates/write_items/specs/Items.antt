-- One event as octets, by the required choices, and what is known then. `a` says whether the element's Start is followed by an attribute.
use Rattle.std.specs.Prelude.{ℕ, ◌+◌, ◌*◌, Bool, true, [], ◌∷◌, ◌++◌}
use Rattle.std.proofs.Math.Option.{Option}
use Rattle.format.specs.Octets.{Octets}
use Rattle.format.specs.Events as E
use Rattle.format.specs.Events.{Choice, for_namespace, for_start, for_attribute, for_text, for_comment, for_instruction, for_end, How, NameHow}
use Rattle.format.specs.Tables.{PREFIX, NAMESPACE_NAME, OTHER_NCNAME, ATTRIBUTE_VALUE, CONTENT_CHARACTER_CHUNK, OTHER_STRING, Version}
use Rattle.format.specs.Strings.{bit, c15}
use Rattle.format.specs.Names.{has, of_element, of_attribute}
use Rattle.format.specs.Items.{Mode, content, declaring, listing, State, knowing, moved, opened}
use Rattle.format.specs.Document.{closed}
use Rattle.tables.specs.Located.{Located}
use Rattle.write_names.specs.Choices.{Wrote, write_id, write_optional, write_name, write_literal, write_value}

pub record WroteItem : Type 0 where
  pub octets : Octets
  pub choice : Choice
  pub state : State Located

-- The octet in front of an element's first declaration, and F0 behind its last.
abbrev pub before_declaration : Mode → Bool → Octets
before_declaration content a = (64 * bit a + 0x38) ∷ []
before_declaration (declaring b) a = []
before_declaration (listing any) a = []

abbrev pub before_name : Mode → Octets
before_name content = []
before_name (declaring b) = 0xF0 ∷ []
before_name (listing any) = []

-- The bits before an element's name: the attribute bit, but 00 behind declarations.
abbrev pub name_lead : Mode → Bool → ℕ
name_lead content a = 64 * bit a
name_lead (declaring b) a = 0
name_lead (listing any) a = 0

module _ (ver : Version) (text : Octets) where
  -- The end of an attribute list is behind us: the mode is content or declaring or, for an attribute, listing. An End has no octets of its own.
  unfoldable pub write_item : Bool → State Located → E.Event Located → WroteItem
  write_item a v (E.Namespace p n) =
      let x : Wrote (Option How) = write_optional text PREFIX v.tables p in
      let y : Wrote (Option How) = write_optional text NAMESPACE_NAME x.tables n in
      record {
        octets = before_declaration v.mode a ++ ((0xCC + 2 * has p + has n) ∷ (x.octets ++ y.octets));
        choice = for_namespace x.how y.how;
        state = moved v y.tables (declaring a);
      }
  write_item a v (E.Start x) =
      let w : Wrote NameHow = write_name of_element (name_lead v.mode a) text v.tables x in
      record { octets = before_name v.mode ++ w.octets; choice = for_start w.how; state = opened v w.tables a }
  write_item a v (E.Attribute x y) =
      let w : Wrote NameHow = write_name of_attribute 0 text v.tables x in
      let z : Wrote How = write_value ver text ATTRIBUTE_VALUE w.tables y in
      record { octets = w.octets ++ z.octets; choice = for_attribute w.how z.how; state = moved v z.tables (listing true) }
  write_item a v (E.Text y) =
      let w : Wrote How = write_literal ver c15 text CONTENT_CHARACTER_CHUNK v.tables y in
      record { octets = w.octets; choice = for_text w.how; state = knowing v w.tables }
  write_item a v (E.Comment y) =
      let w : Wrote How = write_value ver text OTHER_STRING v.tables y in
      record { octets = 0xE2 ∷ w.octets; choice = for_comment w.how; state = knowing v w.tables }
  write_item a v (E.Instruction x y) =
      let w : Wrote How = write_id text OTHER_NCNAME v.tables x in
      let z : Wrote How = write_value ver text OTHER_STRING w.tables y in
      record { octets = 0xE1 ∷ (w.octets ++ z.octets); choice = for_instruction w.how z.how; state = knowing v z.tables }
  write_item a v E.End = record { octets = []; choice = for_end; state = closed v }
