-- The entries of a head, C.2.5.3 to C.2.5.5: what is read is what the rules list, at its place, and is added to its table.
use Prim.Native.Nat.{ℕ, zero, suc, ◌+◌, ◌-◌, ◌*◌, ◌/◌, ◌%◌, ◌≤◌, ◌<◌}
use mathlib.Core.Path.{◌≡◌, refl, sym, ap, ap₂, ◌∙◌, subst}
use mathlib.Core.Bool.{Bool, true, false}
use mathlib.Core.List.{List, [], ◌∷◌, ◌++◌, map, append_assoc}
use native.Mathlib.Omega.{arith}
use lib.Dec.{eqb}
use lib.ListN.{length, get_or, take, drop, length-append}
use lib.Seq.{drop-cons}
use Rattle.format.specs.Octets.{Octets, AreOctets}
use Rattle.format.specs.Numbers.{spell, lengths, c25, top, longest}
use Rattle.format.specs.Tables.{StringTable, PREFIX, NAMESPACE_NAME, LOCAL_NAME, NameTable, Triple, Vocabulary, strings, names, adding, holds, holds_name, Version}
use Rattle.format.specs.Strings.{with_length, in_format, bit, literal_spelled, id_spelled}
use Rattle.format.specs.Forms.{Spelled}
use Rattle.format.specs.Head.{Listed, Table, of_strings, of_names, is_identifying, c19, some?, StringListed, an_identifying, another, PartListed, no_part, a_part, NameListed, a_surrogate, Each, no_entry, an_entry}
use Rattle.format.specs.declared.StringForm.{StringForm}
use Rattle.format.specs.declared.StringForm.TheVariants.{Utf8}
use Rattle.fields.specs.Fields.{field_at, no_top}
use Rattle.fields.proofs.Numbers.{c25_ordered}
use Rattle.fields.proofs.Lengths.{lengths_ordered}
use Rattle.forms.proofs.Forms.{one_spelling}
use Rattle.tables.specs.Located.{Located, stretch, octets_of, listed_as, plain_tables}
use Rattle.tables.proofs.NewLaws.{new_string, new_name_lem}
use Rattle.read_names.specs.Strings.{Got, got, refused, then, IdRead, id_at}
use Rattle.read_names.specs.Names.{prefix_bit, namespace_bit}
use Rattle.read_head.specs.Head.{Passed, passing, part_at, identifying_at, another_at, surrogate_at, entry_at, entries_at}
use Rattle.theorems.specs.Places.{in_entry, in_entries}
use Rattle.theorems.proofs.Lists.{Fault, fault, test_lt, test_le, test_not, either, either_lt, either_eq}
use Rattle.theorems.proofs.Words.{strings-map, length-strings, names-map, adding-map, adding-name-map}
use Rattle.theorems.proofs.Numbers.{num_sound}
use Rattle.theorems.proofs.Fields.{on_number, Stands, spelling_sound}
use Rattle.theorems.proofs.Formats.{Leads, spelled_sound}
use Rattle.theorems.proofs.Names.{bits_paired}
use Rattle.theorems.proofs.TenTables.{EntryOf, add_to, add_all, map_entry}

-- ---- an entry as the rules list it, what it says in its table, and where its string stands; a name has none
abbrev pub EntryListed : Version → (t : Table) → Vocabulary Octets → EntryOf Listed t → Octets → Vocabulary Octets → Type 0
EntryListed ver (of_strings t) v x o w = StringListed ver t v x o w
EntryListed ver (of_names t) v x o w = NameListed ver t v x o w

abbrev pub says : Listed → Octets
says x = x.says

abbrev pub located : (t : Table) → List (EntryOf Located t) → List Located
located (of_strings t) l = l
located (of_names t) l = []

abbrev pub in_each : {ver : Version} (t : Table) (k : ℕ) {v w : Vocabulary Octets} {xs : List (EntryOf Listed t)} {o : Octets} → Each ver (EntryListed ver t) v xs o w → List Located
in_each (of_strings t) k u = in_entries k u
in_each (of_names t) k u = []

-- a string whose field, the octets o, stands at octet k: its own octets, in its form, are the end of the field
pub record AtEnd (x : Listed) (y : Located) (k : ℕ) (o : Octets) : Type 0 where
  pub octets : Octets
  pub spells : Spelled x.form x.says octets
  pub is : stretch x.form (k + length o - length octets) (length octets) ≡ y

abbrev pub AtPlace : (t : Table) → EntryOf Listed t → EntryOf Located t → ℕ → Octets → Type 0
AtPlace (of_strings t) x y k o = AtEnd x y k o
AtPlace (of_names t) x y k o = Unit {0}

module _ (ver : Version) where
  -- there the rules list it
  string_placed : {t : StringTable} {v : Vocabulary Octets} {x : Listed} {o : Octets} {w : Vocabulary Octets} (k : ℕ) (r : StringListed ver t v x o w) (y : Located) → AtEnd x y k o → in_entry k r ≡ y ∷ []
  string_placed {o = o} k (an_identifying i u) y e =
      ap (λ (z : Octets). stretch Utf8 (k + length o - length z) (length z) ∷ []) (sym e.spells.1) ∙ ap (λ (z : Located). z ∷ []) e.is
  string_placed {o = o} k (another i (literal_spelled {x = x} {y = z} {form = form} sp room)) y e =
      ap (λ (z : Octets). stretch form (k + length o - length z) (length z) ∷ []) (one_spelling form x z e.octets sp.formed e.spells) ∙ ap (λ (z : Located). z ∷ []) e.is

  pub none_placed : (t : Table) (k : ℕ) (v : Vocabulary Octets) → in_each {ver = ver} t k {v = v} {w = v} {xs = []} {o = []} no_entry ≡ located t []
  none_placed (of_strings t) k v = refl
  none_placed (of_names t) k v = refl

  pub more-placed : (t : Table) (k : ℕ) (v : Vocabulary Octets) (x : EntryOf Listed t) (o : Octets) {u w : Vocabulary Octets} {xs : List (EntryOf Listed t)} {os : Octets} (r : EntryListed ver t v x o u)
      (q : Each ver (EntryListed ver t) u xs os w) (y : EntryOf Located t) (ys : List (EntryOf Located t)) → AtPlace t x y k o → in_each t (k + length o) q ≡ located t ys → in_each t k (an_entry r q) ≡ located t (y ∷ ys)
  more-placed (of_strings t) k v x o r q y ys e f = ap₂ (λ (a b : List Located). a ++ b) (string_placed k r y e) f
  more-placed (of_names t) k v x o r q y ys e f = refl

-- ---- a string in any form: the length starts at bit 5, and nothing stands before the format
pub leads19 : Leads c19.length_bit 0
unfolding c19
leads19 = record { from = omega arith; to = omega arith; lead = 0; base_is = refl }

-- ---- the bits p and n of a name
two_bits : (b : ℕ) → b < 4 → b ≡ 2 * bit (prefix_bit b) + bit (namespace_bit b)
two_bits zero h = refl
two_bits (suc zero) h = refl
two_bits (suc (suc zero)) h = refl
two_bits (suc (suc (suc zero))) h = refl
two_bits (suc (suc (suc (suc b)))) h = absurd (omega arith)

some_first : (n : ℕ) → some? n ≡ 1 → 0 < n
some_first zero e = absurd (omega arith)
some_first (suc n) e = omega arith

module _ (ver : Version) (s : Octets) where
  record EntryRead (t : Table) (k : ℕ) (v : Vocabulary Located) (next : ℕ) (w : Vocabulary Located) : Type 0 where
    entry : EntryOf Located t
    octets : Octets
    rule : EntryListed ver t (plain_tables s v) (map_entry (listed_as s) t entry) octets (plain_tables s w)
    here : drop k s ≡ octets ++ drop next s
    next_is : next ≡ k + length octets
    inside : next ≤ length s
    added : w ≡ add_to v t entry
    placed : AtPlace t (map_entry (listed_as s) t entry) entry k octets

  abbrev EntryOk : Table → ℕ → Vocabulary Located → Passed → Type 0
  EntryOk t k v (got b next w) = EntryRead t k v next w
  EntryOk t k v (refused n p) = Fault s n p

  module _ (bytes : AreOctets s) (short : length s ≤ longest) where
    -- ---- strings
    string_read : (t : StringTable) (form : StringForm) (field : Octets → Octets) (k place n : ℕ) (v : Vocabulary Located) → Stands s form field k place n
        → StringListed ver t (plain_tables s v) (listed_as s (stretch form place n)) (field (take n (drop place s))) (adding (plain_tables s v) t (octets_of s (stretch form place n)))
        → EntryRead (of_strings t) k v (place + n) (adding v t (stretch form place n))
    string_read t form field k place n v st r =
        let e = st.length_is in
        let i = st.next_is in
        record {
          entry = stretch form place n;
          octets = field (take n (drop place s));
          rule = rw (adding-map (octets_of s) v t (stretch form place n)) r;
          here = st.here;
          next_is = i;
          inside = st.inside;
          added = refl;
          placed = record { octets = take n (drop place s); spells = st.spelling.formed; is = ap₂ (λ (a b : ℕ). stretch form a b) (omega arith) e };
        }

    identifying_sound : (t : StringTable) → is_identifying t ≡ true → (k : ℕ) (v : Vocabulary Located) → k ≤ length s → EntryOk (of_strings t) k v (identifying_at ver t s k v)
    unfolding identifying_at id_at octets_of
    identifying_sound t i k v kl =
        let P : Passed → Type 0 = EntryOk (of_strings t) k v in
        let Q : Got IdRead → Type 0 = (λ g. P (passing g)) in
        let len = length-strings (octets_of s) v t in
        test_lt P (refused 6 k) (fault s 6 k refl kl) (get_or s k 0) 0x80 _
        λ h. either_lt Q (get_or s k 0) 0x80 _ _
        (λ h1. on_number s Q (λ c p f. f) (lengths 2) no_top 0 k (field_at (lengths 2) no_top 2 s k)
        (num_sound s bytes (lengths 2) (lengths_ordered 2 (omega arith) (omega arith)) no_top 2 0 k kl (omega arith)) _
        λ n next r. spelling_sound s short Q (λ c p f. f) Utf8 (lengths 2) 0 k k n next kl r _
        λ st. test_not Q (refused 11 k) (fault s 11 k refl kl) (holds (map (octets_of s) (strings v t)) (octets_of s (stretch Utf8 next n))) _
        λ t1. test_lt Q (refused 12 k) (fault s 12 k refl kl) (length (strings v t)) ver.entries _
        λ t2. string_read t Utf8 (with_length (lengths 2) 0) k next n v st
        (an_identifying i (id_spelled st.spelling ((new_string (strings (plain_tables s v) t) (octets_of s (stretch Utf8 next n))).0 (rw (strings-map (octets_of s) v t) t1)) (omega arith))))
        (λ h1. absurd (omega arith))

    another_sound : (t : StringTable) → is_identifying t ≡ false → (k : ℕ) (v : Vocabulary Located) → k ≤ length s → EntryOk (of_strings t) k v (another_at ver t s k v)
    unfolding another_at c19
    another_sound t i k v kl =
        let P : Passed → Type 0 = EntryOk (of_strings t) k v in
        let len = length-strings (octets_of s) v t in
        test_lt P (refused 6 k) (fault s 6 k refl kl) (get_or s k 0) 0x40 _
        λ h. spelled_sound ver s t k true v bytes short kl (λ g. P (passing g)) (λ c p f. f) 5 0 leads19 (omega arith) (omega arith)
        λ form n place st room. string_read t form (in_format 5 form 0) k place n v st (another i (literal_spelled {added = true} st.spelling (λ y. let r = room y in omega arith)))

    -- ---- a part of a name
    record PartRead (present : Bool) (entries k n next : ℕ) : Type 0 where
      octets : Octets
      rule : PartListed ver entries n octets
      some_is : some? n ≡ bit present
      here : drop k s ≡ octets ++ drop next s
      next_is : next ≡ k + length octets
      inside : next ≤ length s

    abbrev PartOk : Bool → ℕ → ℕ → Vocabulary Located → Got ℕ → Type 0
    PartOk present entries k v (got n next w) = PartRead present entries k n next × (w ≡ v)
    PartOk present entries k v (refused n p) = Fault s n p

    part_sound : (present : Bool) (entries k : ℕ) (v : Vocabulary Located) → k ≤ length s → PartOk present entries k v (part_at present entries s k v)
    unfolding part_at
    part_sound false entries k v kl = (record { octets = []; rule = no_part; some_is = refl; here = refl; next_is = omega arith; inside = kl }, refl)
    part_sound true entries k v kl =
        let P : Got ℕ → Type 0 = PartOk true entries k v in
        test_not P (refused 5 k) (fault s 5 k refl kl) (eqb (get_or s k 0 / 16 % 8) 7) _
        λ t. test_lt P (refused 6 k) (fault s 6 k refl kl) (get_or s k 0) 0x80 _
        λ h. on_number s P (λ c p f. f) c25 top 0 k (field_at c25 top 2 s k) (num_sound s bytes c25 c25_ordered top 2 0 k kl (omega arith)) _
        λ n next r. test_le P (refused 10 k) (fault s 10 k refl kl) n entries _
        λ t1.
        let i = r.is in (
          record {
            octets = spell c25 0 n;
            rule = subst (λ (m : ℕ). PartListed ver entries m (spell c25 0 m)) (sym i) (a_part (omega arith) (omega arith));
            some_is = ap some? i;
            here = r.here;
            next_is = r.next_is;
            inside = r.inside;
          },
          refl,
        )

    on_part : (P : Passed → Type 0) → ((c p : ℕ) → Fault s c p → P (refused c p)) → (present : Bool) (entries k : ℕ) (v : Vocabulary Located) (a : Got ℕ) → PartOk present entries k v a
        → (f : ℕ → ℕ → Vocabulary Located → Passed) → ((n next : ℕ) → PartRead present entries k n next → P (f n next v)) → P (then a f)
    on_part P nay present entries k v (got n next w) r f g = subst (λ (u : Vocabulary Located). P (f n next u)) (sym r.1) (g n next r.0)
    on_part P nay present entries k v (refused c p) r f g = nay c p r

    surrogate_sound : (t : NameTable) (k : ℕ) (v : Vocabulary Located) → k ≤ length s → EntryOk (of_names t) k v (surrogate_at ver t s k v)
    unfolding surrogate_at strings
    surrogate_sound t k v kl =
        let P : Passed → Type 0 = EntryOk (of_names t) k v in
        let b : ℕ = get_or s k 0 in
        test_lt P (refused 2 k) (fault s 2 k refl kl) k (length s) _
        λ h. test_lt P (refused 6 k) (fault s 6 k refl kl) b 4 _
        λ h1. either_eq P (b % 4) 2 _ _ (λ y. fault s 15 k refl kl)
        λ h2. on_part P (λ c p f. f) (prefix_bit b) (length v.prefixes) (suc k) v (part_at (prefix_bit b) (length v.prefixes) s (suc k) v) (part_sound (prefix_bit b) (length v.prefixes) (suc k) v h) _
        λ p k₁ r₁. on_part P (λ c p f. f) (namespace_bit b) (length v.namespaces) k₁ v (part_at (namespace_bit b) (length v.namespaces) s k₁ v) (part_sound (namespace_bit b) (length v.namespaces) k₁ v r₁.inside) _
        λ n k₂ r₂. on_part P (λ c p f. f) true (length v.locals) k₂ v (part_at true (length v.locals) s k₂ v) (part_sound true (length v.locals) k₂ v r₂.inside) _
        λ l k₃ r₃.
        let x : Triple = record { prefix = p; namespace = n; local = l } in
        test_not P (refused 11 k) (fault s 11 k refl kl) (holds_name (names v t) x) _
        λ t1. test_lt P (refused 12 k) (fault s 12 k refl kl) (length (names v t)) ver.entries _
        λ t2.
        let bits = two_bits b h1 in
        let lone = bits_paired b h2 in
        let e₁ = r₁.some_is in
        let e₂ = r₂.some_is in
        let same_names_lem = names-map (octets_of s) v t in
        let oct : b ≡ 2 * some? p + some? n = omega arith in
        let paired : some? p ≤ some? n = omega arith in
        let parts : drop (suc k) s ≡ (r₁.octets ++ (r₂.octets ++ r₃.octets)) ++ drop k₃ s =
        r₁.here ∙ ap (λ (l : Octets). r₁.octets ++ l) (r₂.here ∙ ap (λ (l : Octets). r₂.octets ++ l) r₃.here) ∙ simp append_assoc in
        record {
          entry = x;
          octets = (2 * some? p + some? n) ∷ (r₁.octets ++ (r₂.octets ++ r₃.octets));
          rule = rw (adding-name-map (octets_of s) v t x)
              (a_surrogate paired (some_first l r₃.some_is)
              (subst (λ (m : ℕ). PartListed ver m p r₁.octets) (sym (length-strings (octets_of s) v PREFIX)) r₁.rule)
              (subst (λ (m : ℕ). PartListed ver m n r₂.octets) (sym (length-strings (octets_of s) v NAMESPACE_NAME)) r₂.rule)
              (subst (λ (m : ℕ). PartListed ver m l r₃.octets) (sym (length-strings (octets_of s) v LOCAL_NAME)) r₃.rule)
              ((new_name_lem (names (plain_tables s v) t) x).0 (rw same_names_lem t1)) (rw same_names_lem t2));
          here = drop-cons s k 0 h ∙ ap₂ (λ (y : ℕ) (l : Octets). y ∷ l) oct parts;
          next_is = (let y : length (r₁.octets ++ (r₂.octets ++ r₃.octets)) ≡ length r₁.octets + (length r₂.octets + length r₃.octets) = simp length-append in
              let i₁ = r₁.next_is in let i₂ = r₂.next_is in let i₃ = r₃.next_is in omega arith);
          inside = r₃.inside;
          added = refl;
          placed = tt;
        }

    entry_sound : (t : Table) (k : ℕ) (v : Vocabulary Located) → k ≤ length s → EntryOk t k v (entry_at ver t s k v)
    unfolding entry_at
    entry_sound (of_strings t) k v kl = either (EntryOk (of_strings t) k v) (is_identifying t) _ _ (λ i. identifying_sound t i k v kl) (λ i. another_sound t i k v kl)
    entry_sound (of_names t) k v kl = surrogate_sound t k v kl

    on_entry : (P : Passed → Type 0) → ((c p : ℕ) → Fault s c p → P (refused c p)) → (t : Table) (k : ℕ) (v : Vocabulary Located) (a : Passed) → EntryOk t k v a
        → (f : Unit {0} → ℕ → Vocabulary Located → Passed) → ((next : ℕ) (w : Vocabulary Located) → EntryRead t k v next w → P (f tt next w)) → P (then a f)
    on_entry P nay t k v (got b next w) r f g = g next w r
    on_entry P nay t k v (refused c p) r f g = nay c p r

  -- ---- n entries
  pub record EntriesRead (t : Table) (n k : ℕ) (v : Vocabulary Located) (next : ℕ) (w : Vocabulary Located) : Type 0 where
    pub list : List (EntryOf Located t)
    pub size : length list ≡ n
    pub octets : Octets
    pub rule : Each ver (EntryListed ver t) (plain_tables s v) (map (map_entry (listed_as s) t) list) octets (plain_tables s w)
    pub here : drop k s ≡ octets ++ drop next s
    pub next_is : next ≡ k + length octets
    pub inside : next ≤ length s
    pub added : w ≡ add_all t v list
    pub placed : in_each t k rule ≡ located t list

  abbrev pub EntriesOk : Table → ℕ → ℕ → Vocabulary Located → Passed → Type 0
  EntriesOk t n k v (got b next w) = EntriesRead t n k v next w
  EntriesOk t n k v (refused c p) = Fault s c p

  one_more_lem : (t : Table) (n k next : ℕ) (v w : Vocabulary Located) → EntryRead t k v next w → (a : Passed) → EntriesOk t n next w a → EntriesOk t (suc n) k v a
  one_more_lem t n k next v w r (refused c p) q = q
  one_more_lem t n k next v w r (got b end z) q =
      let l = length-append r.octets q.octets in
      let i = r.next_is in
      let j = q.next_is in
      record {
        list = r.entry ∷ q.list;
        size = ap suc q.size;
        octets = r.octets ++ q.octets;
        rule = an_entry r.rule q.rule;
        here = r.here ∙ ap (λ (l : Octets). r.octets ++ l) q.here ∙ sym (append_assoc r.octets q.octets (drop end s));
        next_is = omega arith;
        inside = q.inside;
        added = q.added ∙ ap (λ (u : Vocabulary Located). add_all t u q.list) r.added;
        placed =
            more-placed ver t k (plain_tables s v) (map_entry (listed_as s) t r.entry) r.octets r.rule q.rule r.entry q.list r.placed (ap (λ (m : ℕ). in_each t m q.rule) (sym i) ∙ q.placed);
      }

  pub entries_sound : AreOctets s → length s ≤ longest → (t : Table) (n k : ℕ) (v : Vocabulary Located) → k ≤ length s → EntriesOk t n k v (entries_at ver t s n k v)
  unfolding entries_at
  entries_sound bytes short t zero k v kl =
      record { list = []; size = refl; octets = []; rule = no_entry; here = refl; next_is = omega arith; inside = kl; added = refl; placed = none_placed ver t k (plain_tables s v) }
  entries_sound bytes short t (suc n) k v kl =
      on_entry bytes short (EntriesOk t (suc n) k v) (λ c p f. f) t k v (entry_at ver t s k v) (entry_sound bytes short t k v kl) _
      λ next w r. one_more_lem t n k next v w r (entries_at ver t s n next w) (entries_sound bytes short t n next w r.inside)
