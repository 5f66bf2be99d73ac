-- Reading a string: C.13, C.14, C.15 over C.19, C.20. Each field's tests stand in the required order; the first that fails gives the refusal, at the field's first octet.
use Rattle.std.specs.Prelude.{ℕ, suc, ◌+◌, ◌-◌, ◌*◌, ◌/◌, ◌%◌, ◌^◌, Bool, true, false, not, ◌||◌, ◌&&◌, map, length, get_or, eqb, ltb, leb, Result, Ok, Err}
use Rattle.std.proofs.Math.Option.{Option, none, some}
use Rattle.format.specs.Octets.{Octets}
use Rattle.format.specs.Numbers.{pick, lengths, c25, top}
use Rattle.format.specs.Forms.{form_of}
use Rattle.fields.specs.Utf8.{is_text}
use Rattle.format.specs.Events.{How, spelled, numbered}
use Rattle.format.specs.Tables.{StringTable, Vocabulary, strings, adding, holds, Version}
use Rattle.format.specs.Strings.{Layout, c14, keeping}
use Rattle.format.specs.Refusals.{refusal_number, TRUNCATED, TEXT, INDEX, REPEAT, FULL}
use Rattle.format.specs.declared.StringForm.{StringForm}
use Rattle.format.specs.declared.StringForm.TheVariants.{Utf8, Utf16}
use Rattle.format.specs.declared.refusals.Fault.{Fault}
use Rattle.format.specs.declared.refusals.Refusal.TheVariants.{Truncated, Padding, Format}
use Rattle.fields.specs.declared.Read.{Read}
use Rattle.fields.specs.Fields as F
use Rattle.fields.specs.Fields.{value_from, field_at, no_top}
use Rattle.tables.specs.Located.{Located, empty, stretch, octets_of}

-- A field's answer: what it is, the octet behind it, and the tables then; or the refusal's number and place.
pub data Got (B : Type 0) : Type 0 where
  got : B → (next : ℕ) → Vocabulary Located → Got B
  refused : (number place : ℕ) → Got B

-- The next field; a refusal is handed on.
abbrev pub then : {B C : Type 0} → Got B → (B → ℕ → Vocabulary Located → Got C) → Got C
then (got b next v) f = f b next v
then (refused n p) f = refused n p

abbrev pub number : {C : Type 0} → Result (Read ℕ) Fault → (ℕ → ℕ → Got C) → Got C
number (Ok r) f = f r.value r.next.at
number (Err e) f = refused (refusal_number e.refusal) e.at

-- n octets from `next` on, in a form: they pass the end (2), are no text (9).
unfoldable pub spelling : {C : Type 0} → StringForm → Octets → (k next n : ℕ) → Got C → Got C
spelling form s k next n a = pick (leb (next + n) (length s)) (pick (is_text (octets_of s (stretch form next n))) a (refused TEXT k)) (refused TRUNCATED k)

-- ---- a string in an alphabet or by an algorithm, at octet k; its length starts at a bit of the octet behind
-- The eight bits of the alphabet's or algorithm's number less 1: the last ones of the first octet, and those of the second before the length.
unfoldable pub method_at : (bit : ℕ) → Octets → ℕ → ℕ
method_at bit s k = get_or s k 0 % 2 ^ (9 - bit) * 2 ^ (bit - 1) + get_or s (suc k) 0 / 2 ^ (9 - bit)

-- Which of them are read: alphabets 1 and 2 (format 2), and algorithms 3, 4 and 5 (format 3).
unfoldable pub is_read : (format method : ℕ) → Bool
is_read format method = pick (eqb format 2) (ltb method 2) (leb 2 method && ltb method 5)

-- The form: alphabets 1 and 2 and algorithms 3, 4 and 5 are the forms 2 to 6. What this gives for one that is not read does not matter.
unfoldable pub form_by : (method : ℕ) → StringForm
form_by method = form_of (2 + method)

-- The length is n and has `more` octets behind the second: an octet of the field is missing (2), another alphabet or algorithm (8), padding (6).
unfoldable pub method_behind : (bit format : ℕ) → Octets → (k more n : ℕ) → (clean : Bool) → Result (Read ℕ) Fault
method_behind bit format s k more n clean =
    pick (leb (k + 2 + more + n) (length s))
    (pick (is_read format (method_at bit s k))
    (pick clean (F.got n (k + 2 + more)) (F.refused Padding k))
    (F.refused Format k))
    (F.refused Truncated k)

-- b are the length's bits in the second octet: coded 0 and the length; or 10 or 11, zero bits, and one or four octets. The octets are counted by the code, whatever the zero bits are.
unfoldable pub method_length : (bit format : ℕ) → Octets → (k b : ℕ) → Result (Read ℕ) Fault
method_length bit format s k b =
    pick (ltb b (2 ^ (8 - bit))) (method_behind bit format s k 0 (1 + b) true)
    (pick (ltb b (3 * 2 ^ (7 - bit)))
    (method_behind bit format s k 1 (1 + 2 ^ (8 - bit) + value_from s (k + 2) 0 1) (eqb b (2 * 2 ^ (7 - bit))))
    (method_behind bit format s k 4 (1 + 2 ^ (8 - bit) + 2 ^ 8 + value_from s (k + 2) 0 4) (eqb b (3 * 2 ^ (7 - bit)))))

-- An identifying string: what it is, how it was written, and its number in the table.
pub record IdRead : Type 0 where
  pub string : Located
  pub how : How
  pub number : ℕ

-- One that may be absent; then its number is 0.
pub record OptionalRead : Type 0 where
  pub string : Option Located
  pub how : Option How
  pub number : ℕ

pub record StringRead : Type 0 where
  pub string : Located
  pub how : How

-- The bit where a number of C.14 or C.15 starts, behind 1; a length starts three bits later, behind 0, the add bit and the format.
abbrev pub number_bit : Layout → ℕ
number_bit q = q.length_bit - 3

module _ (ver : Version) where
  -- C.13 at octet k. Spelled: 2, 6, 2, 9, then held already (11), no room in the table (12). Numbered: 2, 5, 2, 7, then beyond the table (10).
  unfoldable pub id_at : Octets → StringTable → ℕ → Vocabulary Located → Got IdRead
  id_at s t k v =
      pick (ltb (get_or s k 0) 0x80)
      (number (field_at (lengths 2) no_top 2 s k)
      λ n next. spelling Utf8 s k next n
      (pick (holds (map (octets_of s) (strings v t)) (octets_of s (stretch Utf8 next n))) (refused REPEAT k)
      (pick (ltb (length (strings v t)) ver.entries)
      (got (record { string = stretch Utf8 next n; how = spelled Utf8 true; number = suc (length (strings v t)) }) (next + n) (adding v t (stretch Utf8 next n)))
      (refused FULL k))))
      (number (field_at c25 top 2 s k)
      λ n next. pick (leb n (length (strings v t)))
      (got (record { string = get_or (strings v t) (n - 1) empty; how = numbered n; number = n }) next v)
      (refused INDEX k))

  unfoldable pub optional_at : Bool → Octets → StringTable → ℕ → Vocabulary Located → Got OptionalRead
  optional_at true s t k v = then (id_at s t k v) λ i next w. got (record { string = some i.string; how = some i.how; number = i.number }) next w
  optional_at false s t k v = got (record { string = none; how = none; number = 0 }) k v

  -- A string of C.14 or C.15 whose octets are in a form, its length read as r: 2, 9, then no room in the table, if it is to be added (12).
  unfoldable pub formed_at : StringForm → Octets → StringTable → ℕ → Bool → Result (Read ℕ) Fault → Vocabulary Located → Got StringRead
  formed_at form s t k added r v =
      number r
      λ n next. spelling form s k next n
      (pick (not added || ltb (length (strings v t)) ver.entries)
      (got (record { string = stretch form next n; how = spelled form added }) (next + n) (keeping added v t (stretch form next n)))
      (refused FULL k))

  -- By the format, the two bits before the length's: utf-8 or utf-16, whose length is judged first (2, 6, 2); an alphabet or an algorithm (2, 8, 6).
  unfoldable pub spelled_at : (length_bit : ℕ) → Octets → StringTable → ℕ → Bool → Vocabulary Located → Got StringRead
  spelled_at bit s t k added v =
      let format : ℕ = get_or s k 0 / 2 ^ (9 - bit) % 4 in
      pick (eqb format 0) (formed_at Utf8 s t k added (field_at (lengths bit) no_top bit s k) v)
      (pick (eqb format 1) (formed_at Utf16 s t k added (field_at (lengths bit) no_top bit s k) v)
      (formed_at (form_by (method_at bit s k)) s t k added (method_length bit format s k (get_or s (suc k) 0 % 2 ^ (9 - bit))) v))

  -- C.14 or C.15 by the first octet: spelled and not added, spelled and added, numbered.
  unfoldable pub literal_at : Layout → Octets → StringTable → ℕ → Vocabulary Located → Got StringRead
  literal_at q s t k v =
      pick (ltb (get_or s k 0) (q.spelled_bits + q.add_bit)) (spelled_at q.length_bit s t k false v)
      (pick (ltb (get_or s k 0) q.numbered_bits) (spelled_at q.length_bit s t k true v)
      (number (field_at q.number_forms top (number_bit q) s k)
      λ n next. pick (leb n (length (strings v t)))
      (got (record { string = get_or (strings v t) (n - 1) empty; how = numbered n }) next v)
      (refused INDEX k)))

  -- A value, comment or content: FF is the empty string (C.26).
  unfoldable pub value_at : Octets → StringTable → ℕ → Vocabulary Located → Got StringRead
  value_at s t k v =
      pick (eqb (get_or s k 0) 0xFF) (got (record { string = empty; how = numbered 0 }) (suc k) v) (literal_at c14 s t k v)
