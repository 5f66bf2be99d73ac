-- The choices that the requirements fix for the writer: the lowest number where the table holds the string, else spelled, and in which form; and the octets by them.
use Rattle.std.specs.Prelude.{ℕ, suc, ◌+◌, ◌*◌, Bool, true, ◌&&◌, List, [], ◌∷◌, ◌++◌, map, length, eqb, ltb, leb}
use Rattle.std.proofs.Math.Option.{Option, none, some}
use Rattle.format.specs.declared.StringForm.{StringForm}
use Rattle.format.specs.declared.StringForm.TheVariants.{Utf8}
use Rattle.format.specs.Octets.{Octets}
use Rattle.format.specs.Numbers.{pick, lengths, spell, c25}
use Rattle.format.specs.Events.{Name, How, spelled, numbered, NameHow, in_parts, by_number}
use Rattle.format.specs.Tables.{StringTable, PREFIX, NAMESPACE_NAME, LOCAL_NAME, Triple, Vocabulary, strings, names, adding, adding_name, Version}
use Rattle.format.specs.Strings.{with_length, in_format, bit, Layout, c14, keeping}
use Rattle.forms.specs.Packing.{alphabet_for, integers_for, in_form}
use Rattle.format.specs.Names.{has, NameLayout}
use Rattle.tables.specs.Located.{Located, octets_of}
use Rattle.tables.specs.Search.{number_in, number_of_triple}

-- What a field is written as: its octets, how, the tables then; and the number of an identifying string or a name then, 0 for the others.
pub record Wrote (H : Type 0) : Type 0 where
  pub octets : Octets
  pub how : H
  pub number : ℕ
  pub tables : Vocabulary Located

-- An identifying string (C.13): numbered if its table holds it, else spelled and added.
unfoldable pub write_id : Octets → StringTable → Vocabulary Located → Located → Wrote How
write_id text t v x =
    let k : ℕ = number_in (map (octets_of text) (strings v t)) (octets_of text x) in
    pick (eqb k 0)
    (record { octets = with_length (lengths 2) 0 (octets_of text x); how = spelled Utf8 true; number = suc (length (strings v t)); tables = adding v t x })
    (record { octets = spell c25 0x80 k; how = numbered k; number = k; tables = v })

unfoldable pub write_optional : Octets → StringTable → Vocabulary Located → Option Located → Wrote (Option How)
write_optional text t v none = record { octets = []; how = none; number = 0; tables = v }
write_optional text t v (some x) =
    let w : Wrote How = write_id text t v x in
    record { octets = w.octets; how = some w.how; number = w.number; tables = w.tables }

-- A name (C.17, C.18), behind the bits `lead`: by number if its table holds the triple, else in parts and added.
unfoldable pub write_name : NameLayout → ℕ → Octets → Vocabulary Located → Name Located → Wrote NameHow
write_name q lead text v x =
    let p : Wrote (Option How) = write_optional text PREFIX v x.prefix in
    let n : Wrote (Option How) = write_optional text NAMESPACE_NAME p.tables x.namespace in
    let l : Wrote How = write_id text LOCAL_NAME n.tables x.local in
    let triple : Triple = record { prefix = p.number; namespace = n.number; local = l.number } in
    let k : ℕ = number_of_triple (names l.tables q.table) triple in
    pick (eqb k 0)
    (record {
      octets = (lead + q.in_parts_bits + 2 * has x.prefix + has x.namespace) ∷ (p.octets ++ (n.octets ++ l.octets));
      how = in_parts p.how n.how l.how;
      number = suc (length (names l.tables q.table));
      tables = adding_name l.tables q.table triple;
    })
    (record { octets = spell q.number_forms lead k; how = by_number k; number = k; tables = v })

-- A string's field, in a form that the string fits. Of two forms the second, only where it saves octets over the first, all octets of the field counted. The form in which a string is spelled: utf-8
-- before an alphabet, and an alphabet before integers. utf-16 is never chosen (the requirements).
unfoldable pub field_in : (length_bit : ℕ) → StringForm → (lead : ℕ) → Octets → Octets
field_in bit form lead x = in_format bit form lead (in_form form x)

unfoldable pub shorter : (length_bit : ℕ) → (first second : StringForm) → Octets → StringForm
shorter bit first second x = pick (ltb (length (field_in bit second 0 x)) (length (field_in bit first 0 x))) second first

unfoldable pub form_for : (length_bit : ℕ) → Octets → StringForm
form_for bit x = shorter bit (shorter bit Utf8 (alphabet_for x) x) (integers_for x) x

module _ (ver : Version) where
  -- A string of up to 5 octets, in UTF-8, is added where its table has room. (An empty one does not come here.)
  unfoldable pub worth_adding : {S : Type 0} → List S → Octets → Bool
  worth_adding table x = leb (length x) 5 && ltb (length table) ver.entries

  -- C.14, C.15: numbered if its table holds it, else spelled.
  unfoldable pub write_literal : Layout → Octets → StringTable → Vocabulary Located → Located → Wrote How
  write_literal q text t v x =
      let o : Octets = octets_of text x in
      let k : ℕ = number_in (map (octets_of text) (strings v t)) o in
      let added : Bool = worth_adding (strings v t) o in
      let form : StringForm = form_for q.length_bit o in
      pick (eqb k 0)
      (record { octets = field_in q.length_bit form (q.spelled_bits + q.add_bit * bit added) o; how = spelled form added; number = 0; tables = keeping added v t x })
      (record { octets = spell q.number_forms q.numbered_bits k; how = numbered k; number = k; tables = v })

  -- A value, comment or content: FF for the empty string.
  unfoldable pub write_value : Octets → StringTable → Vocabulary Located → Located → Wrote How
  write_value text t v x =
      pick (eqb (length (octets_of text x)) 0) (record { octets = 0xFF ∷ []; how = numbered 0; number = 0; tables = v }) (write_literal c14 text t v x)

-- No table has an entry too many (12).
unfoldable pub within : {S : Type 0} → Version → Vocabulary S → Bool
within ver v =
    leb (length v.prefixes) ver.entries && (leb (length v.namespaces) ver.entries && (leb (length v.locals) ver.entries
    && (leb (length v.ncnames) ver.entries && (leb (length v.elements) ver.entries && leb (length v.attributes) ver.entries))))
