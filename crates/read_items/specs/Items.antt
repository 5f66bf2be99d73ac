-- Reading one item: which kind its first octet says, its fields, the event, its choices and its place; each field's tests in the required order.
use Rattle.std.specs.Prelude.{ℕ, suc, ◌-◌, ◌*◌, ◌/◌, ◌%◌, Bool, true, false, not, ◌&&◌, ◌||◌, length, get_or, eqb, ltb, leb}
use Rattle.format.specs.Octets.{Octets}
use Rattle.format.specs.Numbers.{pick}
use Rattle.format.specs.Events.{Namespace, Start, Attribute, Text, Comment, Instruction, for_namespace, for_start, for_attribute, for_text, for_comment, for_instruction, Item, ◌by◌}
use Rattle.format.specs.Tables.{OTHER_NCNAME, ATTRIBUTE_VALUE, CONTENT_CHARACTER_CHUNK, OTHER_STRING, Vocabulary, Version}
use Rattle.format.specs.Strings.{c15}
use Rattle.format.specs.Names.{of_element, of_attribute}
use Rattle.format.specs.Items.{Mode, content, declaring, listing, State, may_start, knowing, moved, opened}
use Rattle.format.specs.Refusals.{TRUNCATED, CODE, PADDING, FORMAT, DEPTH, STRUCTURE}
use Rattle.tables.specs.Located.{Located}
use Rattle.read_names.specs.Strings.{Got, got, refused, id_at, literal_at, value_at}
use Rattle.read_names.specs.Names.{NameRead, lone_prefix, parts_at, numbered_at, name_at, declared_at}

-- Where the reader stands, in halves of four bits, and what it knows.
pub record Stand : Type 0 where
  pub at : ℕ
  pub state : State Located

-- A step's answer: an event, its choices and its place (the requirements, "Room for an event"); an end that is no event; the document's end; a refusal.
pub data Step : Type 0 where
  more : (place : ℕ) → Item Located → Stand → Step
  quiet : Stand → Step
  done : Step
  stop : (number place : ℕ) → Step

abbrev pub into : {B : Type 0} → Got B → (B → ℕ → Vocabulary Located → Step) → Step
into (got b next v) f = f b next v
into (refused n p) f = stop n p

-- At the start of an octet.
abbrev pub octet : ℕ → State Located → Stand
octet k v = record { at = 2 * k; state = v }

-- The six bits of an element's name: padding in the first octet of a number of C.27 (110, then not 000), or behind 1110 (then not 00).
unfoldable pub name_padding : ℕ → Bool
name_padding b = (eqb (b / 8) 6 && not (eqb (b % 8) 0)) || (eqb (b / 4) 14 && not (eqb (b % 4) 0))

module _ (ver : Version) where
  -- A Start whose name is read.
  abbrev pub start_of : ℕ → Bool → State Located → Got NameRead → Step
  start_of k a v g = into g λ x next w. more k (Start x.name by for_start x.how) (octet next (opened v w a))

  -- The declaration at k, of the element whose attribute bit is a.
  unfoldable pub namespace_at : Octets → ℕ → State Located → Bool → Step
  namespace_at s k v a =
      into (declared_at ver s k v.tables)
      λ d next w. more k (Namespace d.prefix d.namespace by for_namespace d.prefix_how d.namespace_how) (octet next (moved v w (declaring a)))

  -- An element whose first octet holds the attribute bit a and the six bits b: padding (6); a second root (15). A number: its faults, then depth (13).
  -- Declarations (1110 00) and a name in parts: p without n (15), depth (13), then the strings.
  unfoldable pub element_at : Octets → ℕ → ℕ → Bool → State Located → Step
  element_at s k b a v =
      pick (name_padding b) (stop PADDING k)
      (pick (may_start v)
      (pick (ltb b 0x38)
      (into (numbered_at ver of_element s k v.tables) λ x next w. pick (ltb v.level ver.depth) (more k (Start x.name by for_start x.how) (octet next (opened v w a))) (stop DEPTH k))
      (pick (leb 0x3C b && lone_prefix b) (stop STRUCTURE k)
      (pick (ltb v.level ver.depth)
      (pick (eqb b 0x38) (namespace_at s (suc k) v a) (start_of k a v (parts_at ver of_element s b k v.tables)))
      (stop DEPTH k))))
      (stop STRUCTURE k))

  -- The name behind F0: missing (2); 1110 (5); bits 1 and 2, or padding (6); then a number, or parts.
  unfoldable pub named_at : Octets → ℕ → Bool → State Located → Step
  named_at s k a v =
      pick (ltb k (length s))
      (pick (eqb (get_or s k 0 % 64 / 4) 14) (stop CODE k)
      (pick (ltb (get_or s k 0) 0x40)
      (pick (name_padding (get_or s k 0)) (stop PADDING k)
      (start_of k a v (name_at ver of_element s (get_or s k 0) k v.tables)))
      (stop PADDING k)))
      (stop TRUNCATED k)

  -- An attribute: missing (2); bit 1 is 1, or 1110 (5); 1111 and then 1 (6); then a number, or parts; then the value.
  unfoldable pub attribute_at : Octets → ℕ → State Located → Step
  attribute_at s k v =
      pick (ltb k (length s))
      (pick (ltb (get_or s k 0) 0x80)
      (pick (ltb (get_or s k 0) 0x7C)
      (into (name_at ver of_attribute s (get_or s k 0) k v.tables)
      λ x k₁ w₁. into (value_at ver s ATTRIBUTE_VALUE k₁ w₁)
      λ y k₂ w₂. more k (Attribute x.name y.string by for_attribute x.how y.how) (octet k₂ (moved v w₂ (listing true))))
      (stop PADDING k))
      (stop CODE k))
      (stop TRUNCATED k)

  unfoldable pub chunk_at : Octets → ℕ → State Located → Step
  chunk_at s k v =
      into (literal_at ver c15 s CONTENT_CHARACTER_CHUNK k v.tables) λ y next w. more k (Text y.string by for_text y.how) (octet next (knowing v w))

  unfoldable pub comment_at : Octets → ℕ → State Located → Step
  comment_at s k v =
      into (value_at ver s OTHER_STRING (suc k) v.tables) λ y next w. more k (Comment y.string by for_comment y.how) (octet next (knowing v w))

  unfoldable pub instruction_at : Octets → ℕ → State Located → Step
  instruction_at s k v =
      into (id_at ver s OTHER_NCNAME (suc k) v.tables)
      λ x k₁ w₁. into (value_at ver s OTHER_STRING k₁ w₁)
      λ y k₂ w₂. more k (Instruction x.string y.string by for_instruction x.how y.how) (octet k₂ (knowing v w₂))

  -- Entity references (110010) are inside elements, type declarations (110001) outside: another format (8). All else is not assigned (5), but 1111 here
  -- is an end that stood not where it was due (6).
  unfoldable pub other_at : Octets → ℕ → State Located → Step
  other_at s k v =
      pick (ltb (get_or s k 0) 0xF0)
      (pick (eqb (get_or s k 0 / 4) (pick (ltb 0 v.level) 0x32 0x31)) (stop FORMAT k) (stop CODE k))
      (stop PADDING k)

  -- A child by its first octet (C.2.11, C.3.7): missing (2); 0 element; 10 chunk, inside elements only; E1 instruction; E2 comment.
  unfoldable pub child_at : Octets → ℕ → State Located → Step
  child_at s k v =
      pick (ltb k (length s))
      (pick (ltb (get_or s k 0) 0x40) (element_at s k (get_or s k 0) false v)
      (pick (ltb (get_or s k 0) 0x80) (element_at s k (get_or s k 0 - 0x40) true v)
      (pick (ltb (get_or s k 0) 0xC0) (pick (ltb 0 v.level) (chunk_at s k v) (stop CODE k))
      (pick (eqb (get_or s k 0) 0xE1) (instruction_at s k v)
      (pick (eqb (get_or s k 0) 0xE2) (comment_at s k v) (other_at s k v))))))
      (stop TRUNCATED k)

  -- Behind a declaration: missing (2); F0 and the name; else another declaration. 1111 with other bits behind it is padding (6).
  unfoldable pub declaring_at : Octets → ℕ → Bool → State Located → Step
  declaring_at s k a v = pick (eqb (get_or s k 0) 0xF0) (named_at s (suc k) a v) (namespace_at s k v a)

  -- The item at octet k, by where we are.
  unfoldable pub item_at : Octets → ℕ → State Located → Mode → Step
  item_at s k v content = child_at s k v
  item_at s k v (declaring a) = declaring_at s k a v
  item_at s k v (listing some) = attribute_at s k v
