-- A head, C.2.5: what the rules list is read, each string at its place.
use Prim.Native.Nat.{ℕ, zero, suc, ◌+◌, ◌*◌, ◌/◌, ◌%◌, ◌^◌, ◌≤◌, ◌<◌}
use mathlib.Core.Path.{◌≡◌, refl, sym, ap, ap₂, ◌∙◌, subst}
use mathlib.Core.Bool.{Bool, true, false}
use mathlib.Core.List.{List, [], ◌∷◌, ◌++◌, map, append_assoc}
use native.Mathlib.Omega.{arith}
use native.Mathlib.Nat.{mod-lt, pow-suc}
use borrow.Author.Tests.{lt-ltb, le-leb, eq-eqb, ne_eqb}
use lib.ListN.{length, get_or, drop, length-append, length-map}
use lib.Pow.{pow_pos}
use Rattle.format.specs.Octets.{Octets}
use Rattle.format.specs.Numbers.{spell, sizes, lengths, c21, c25, top, from_bits, behind_first}
use Rattle.format.specs.Tables.{StringTable, PREFIX, NAMESPACE_NAME, LOCAL_NAME, NameTable, Triple, Vocabulary, strings, names, adding, adding_name, holds, holds_name, followed_by, vocabulary_map, Version}
use Rattle.format.specs.Strings.{id_spelled, literal_spelled}
use Rattle.format.specs.Head.{Listed, Head, Table, of_strings, of_names, ten_tables, c19, size_of, some?, presence, StringListed, an_identifying, another, PartListed, no_part, a_part, NameListed, a_surrogate}
use Rattle.format.specs.Head.{Each, no_entry, an_entry, TablesListed, no_table, absent, present}
use Rattle.format.specs.declared.StringForm.TheVariants.{Utf8}
use Rattle.fields.specs.Fields.{share_of}
use Rattle.fields.proofs.Laws.{rooms_in}
use Rattle.fields.proofs.Numbers.{c25_ordered}
use Rattle.fields.proofs.Lengths.{lengths_ordered}
use Rattle.tables.specs.Located.{Located, stretch, octets_of, listed_as, plain_tables}
use Rattle.tables.proofs.NewLaws.{new_string, new_name_lem}
use Rattle.read_names.specs.Strings.{got, id_at}
use Rattle.read_names.specs.Names.{prefix_bit, namespace_bit, lone_prefix}
use Rattle.read_head.specs.Head.{Passed, part_at, identifying_at, another_at, surrogate_at, entry_at, entries_at, tables_at, head_at}
use Rattle.theorems.specs.Heads.{all_listed}
use Rattle.theorems.specs.Places.{in_entries, in_tables}
use Rattle.theorems.proofs.Lists.{drop_head, drop_past}
use Rattle.theorems.proofs.Words.{strings-map, length-strings, names-map}
use Rattle.theorems.proofs.Numbers.{num_complete, num_first}
use Rattle.theorems.proofs.Fields.{spelt, says, spelling_is}
use Rattle.theorems.proofs.Formats.{spelled_complete}
use Rattle.theorems.proofs.TenTables.{no_list, EntryOf, add_to, add_all, Lists, pieces, behind, behind_lists, whole, whole_pieces, map_entry, map_lists, whole-map, add_map}
use Rattle.theorems.proofs.HeadEntries.{EntryListed, located, in_each, AtPlace, leads19, none_placed, more-placed}
use Rattle.theorems.proofs.HeadReading.{c21_ordered, low_bits, all_of, none_located, all_whole}

-- ---- the bits p and n of a name whose parts have these numbers
abbrev there : ℕ → Bool
there zero = false
there (suc n) = true

bits_back : (p n : ℕ) → (prefix_bit (2 * some? p + some? n) ≡ there p) × (namespace_bit (2 * some? p + some? n) ≡ there n)
bits_back zero zero = (refl, refl)
bits_back zero (suc n) = (refl, refl)
bits_back (suc p) zero = (refl, refl)
bits_back (suc p) (suc n) = (refl, refl)

not_lone : (p n : ℕ) → some? p ≤ some? n → lone_prefix (2 * some? p + some? n) ≡ false
not_lone zero zero h = refl
not_lone zero (suc n) h = refl
not_lone (suc p) zero h = absurd (omega arith)
not_lone (suc p) (suc n) h = refl

some_one : (n : ℕ) → some? n ≤ 1
some_one zero = omega arith
some_one (suc n) = omega arith

is_there : (n : ℕ) → 0 < n → there n ≡ true
is_there zero h = absurd (omega arith)
is_there (suc n) h = refl

module _ (ver : Version) (s : Octets) where
  -- ---- an entry
  record EntryHit (t : Table) (k : ℕ) (v : Vocabulary Located) (x : EntryOf Listed t) (o : Octets) (w : Vocabulary Octets) (g : Passed) : Type 0 where
    entry : EntryOf Located t
    goes : g ≡ got tt (k + length o) (add_to v t entry)
    is : map_entry (listed_as s) t entry ≡ x
    state : plain_tables s (add_to v t entry) ≡ w
    placed : AtPlace t x entry k o

  string_complete : (t : StringTable) (k : ℕ) (v : Vocabulary Located) {x : Listed} {o : Octets} {w : Vocabulary Octets} (rest : Octets) → StringListed ver t (plain_tables s v) x o w → drop k s ≡ o ++ rest
      → EntryHit (of_strings t) k v x o w (entry_at ver (of_strings t) s k v)
  unfolding entry_at identifying_at another_at id_at c19 rooms_in share_of behind_first sizes lengths
  string_complete t k v rest (an_identifying {x = x} i (id_spelled sp new room)) d =
      let e = spelt s (lengths 2) 2 0 0 k x rest (lengths_ordered 2 (omega arith) (omega arith)) (omega arith) (omega arith) refl sp d in
      let is = says s Utf8 e.next x x e.octets_are sp.formed in
      let len = length-strings (octets_of s) v t in
      let fresh : holds (map (octets_of s) (strings v t)) x ≡ false = rw (strings-map (octets_of s) v t) at ((new_string (strings (plain_tables s v) t) x).1 new) in
      let y : Located = stretch Utf8 e.next (length x) in
      let end = e.end_is in
      let high = e.high in
      record {
        entry = y;
        goes = rw (i, lt-ltb (get_or s k 0) 0x80 (omega arith), e.num, spelling_is s Utf8 e.next x x e.octets_are sp.formed k _ e.room, is, fresh, lt-ltb (length (strings v t)) ver.entries (omega arith))
            (ap (λ (j : ℕ). got tt j (adding v t y)) end);
        is = λ j. record { says = is j; form = Utf8 };
        state = add_map (octets_of s) v (of_strings t) y ∙ ap (λ (z : Octets). adding (plain_tables s v) t z) is;
        placed = record { octets = x; spells = sp.formed; is = ap (λ (j : ℕ). stretch Utf8 j (length x)) (omega arith) };
      }
  string_complete t k v rest (another {x = x} {form = form} i (literal_spelled {y = y} sp room)) d =
      let len = length-strings (octets_of s) v t in
      let e = spelled_complete ver s t k true v (λ a. let r = room a in omega arith) 5 0 leads19 {x = x} y rest form sp d in
      let z : Located = stretch form e.place (length y) in
      let end = e.end_is in
      let high = e.high in
      record {
        entry = z;
        goes = rw (i, lt-ltb (get_or s k 0) 0x40 (omega arith), e.goes) (ap (λ (j : ℕ). got tt j (adding v t z)) end);
        is = λ j. record { says = e.saying j; form = form };
        state = add_map (octets_of s) v (of_strings t) z ∙ ap (λ (a : Octets). adding (plain_tables s v) t a) e.saying;
        placed = record { octets = y; spells = sp.formed; is = ap (λ (j : ℕ). stretch form j (length y)) (omega arith) };
      }

  part_complete : (entries k : ℕ) (v : Vocabulary Located) {n : ℕ} {o : Octets} (rest : Octets) → PartListed ver entries n o → drop k s ≡ o ++ rest → part_at (there n) entries s k v ≡ got n (k + length o) v
  unfolding part_at rooms_in share_of behind_first sizes c25
  part_complete entries k v rest no_part d = ap (λ (j : ℕ). got 0 j v) (omega arith)
  part_complete entries k v rest (a_part {k = j} small en) d =
      let f = num_first s c25 0 (suc j) k rest c25_ordered (omega arith) (omega arith) d in
      let high = f.1 in
      let n = num_complete s c25 top 2 0 0 (suc j) k rest c25_ordered (omega arith) (omega arith) (omega arith) (omega arith) refl d in
      rw (ne_eqb (get_or s k 0 / 16 % 8) 7 (omega arith), lt-ltb (get_or s k 0) 0x80 (omega arith), n, le-leb (suc j) entries en)

  name_complete : (t : NameTable) (k : ℕ) (v : Vocabulary Located) {x : Triple} {o : Octets} {w : Vocabulary Octets} (rest : Octets) → NameListed ver t (plain_tables s v) x o w → drop k s ≡ o ++ rest
      → EntryHit (of_names t) k v x o w (entry_at ver (of_names t) s k v)
  unfolding entry_at surrogate_at strings
  name_complete t k v rest (a_surrogate {p = p} {n = n} {l = l} {op = op} {on = on} {ol = ol} paired has up un ul new room) d =
      let x : Triple = record { prefix = p; namespace = n; local = l } in
      let a = drop_head s k (2 * some? p + some? n) ((op ++ (on ++ ol)) ++ rest) d in
      let o = a.1 in
      let bb = bits_back p n in
      let p1 = some_one p in
      let n1 = some_one n in
      let same_names_lem = names-map (octets_of s) v t in
      let fresh : holds_name (names v t) x ≡ false = rw same_names_lem at ((new_name_lem (names (plain_tables s v) t) x).1 new) in
      let lens = ap length same_names_lem in
      let d1 : drop (suc k) s ≡ op ++ (on ++ (ol ++ rest)) = a.2 ∙ simp append_assoc in
      let k1 : ℕ = suc k + length op in
      let d2 : drop k1 s ≡ on ++ (ol ++ rest) = drop_past s (suc k) op (on ++ (ol ++ rest)) d1 in
      let k2 : ℕ = k1 + length on in
      let d3 : drop k2 s ≡ ol ++ rest = drop_past s k1 on (ol ++ rest) d2 in
      let i1 = part_complete (length v.prefixes) (suc k) v (on ++ (ol ++ rest)) (subst (λ (m : ℕ). PartListed ver m p op) (length-strings (octets_of s) v PREFIX) up) d1 in
      let i2 = part_complete (length v.namespaces) k1 v (ol ++ rest) (subst (λ (m : ℕ). PartListed ver m n on) (length-strings (octets_of s) v NAMESPACE_NAME) un) d2 in
      let i3 = rw (is_there l has) at (part_complete (length v.locals) k2 v rest (subst (λ (m : ℕ). PartListed ver m l ol) (length-strings (octets_of s) v LOCAL_NAME) ul) d3) in
      let la : length (op ++ (on ++ ol)) ≡ length op + (length on + length ol) = simp length-append in
      record {
        entry = x;
        goes = rw (lt-ltb k (length s) a.0, o, lt-ltb (2 * some? p + some? n) 4 (omega arith), not_lone p n paired, bb.0, bb.1, i1, i2, i3, fresh, lt-ltb (length (names v t)) ver.entries (omega arith))
            (ap (λ (j : ℕ). got tt j (adding_name v t x)) (omega arith));
        is = refl;
        state = add_map (octets_of s) v (of_names t) x;
        placed = tt;
      }

  entry_complete : (t : Table) (k : ℕ) (v : Vocabulary Located) {x : EntryOf Listed t} {o : Octets} {w : Vocabulary Octets} (rest : Octets) → EntryListed ver t (plain_tables s v) x o w → drop k s ≡ o ++ rest
      → EntryHit t k v x o w (entry_at ver t s k v)
  entry_complete (of_strings t) k v rest u d = string_complete t k v rest u d
  entry_complete (of_names t) k v rest u d = name_complete t k v rest u d

  -- ---- entries; p is where their strings are listed, and z are the tables as the rules have them before
  record EntriesHit (t : Table) (k : ℕ) (v : Vocabulary Located) (xs : List (EntryOf Listed t)) (o : Octets) (w : Vocabulary Octets) (p : List Located) (g : Passed) : Type 0 where
    list : List (EntryOf Located t)
    goes : g ≡ got tt (k + length o) (add_all t v list)
    are : map (map_entry (listed_as s) t) list ≡ xs
    state : plain_tables s (add_all t v list) ≡ w
    placed : p ≡ located t list

  entries_complete : (t : Table) (k : ℕ) (v : Vocabulary Located) {z : Vocabulary Octets} {xs : List (EntryOf Listed t)} {o : Octets} {w : Vocabulary Octets} (rest : Octets) → plain_tables s v ≡ z
      → (u : Each ver (EntryListed ver t) z xs o w) → drop k s ≡ o ++ rest → EntriesHit t k v xs o w (in_each t k u) (entries_at ver t s (length xs) k v)
  unfolding entries_at
  entries_complete t k v {z = z} rest e no_entry d =
      record { list = []; goes = ap (λ (j : ℕ). got tt j v) (omega arith); are = refl; state = e; placed = none_placed ver t k z }
  entries_complete t k v {z = z} rest e (an_entry {u = z₁} {x = x} {xs = xs} {o = o} {os = os} r q) d =
      let d1 : drop k s ≡ o ++ (os ++ rest) = d ∙ append_assoc o os rest in
      let i = entry_complete t k v (os ++ rest) (subst (λ (y : Vocabulary Octets). EntryListed ver t y x o z₁) (sym e) r) d1 in
      let j = entries_complete t (k + length o) (add_to v t i.entry) rest i.state q (drop_past s k o (os ++ rest) d1) in
      let la = length-append o os in
      record {
        list = i.entry ∷ j.list;
        goes = rw i.goes (j.goes ∙ ap (λ (n : ℕ). got tt n (add_all t (add_to v t i.entry) j.list)) (omega arith));
        are = ap₂ (λ (y : EntryOf Listed t) (ys : List (EntryOf Listed t)). y ∷ ys) i.is j.are;
        state = j.state;
        placed = more-placed ver t k z x o r q i.entry j.list i.placed j.placed;
      }

-- ---- the presence bits
same_digits : (x a b p q : ℕ) → a ≤ 1 → b < 2 → p < x → q < x → a * x + p ≡ b * x + q → (b ≡ a) × (p ≡ q)
same_digits x zero zero p q i j h k e = (refl, omega arith)
same_digits x zero (suc zero) p q i j h k e = absurd (omega arith)
same_digits x zero (suc (suc b)) p q i j h k e = absurd (omega arith)
same_digits x (suc zero) zero p q i j h k e = absurd (omega arith)
same_digits x (suc zero) (suc zero) p q i j h k e = (refl, omega arith)
same_digits x (suc zero) (suc (suc b)) p q i j h k e = absurd (omega arith)
same_digits x (suc (suc a)) b p q i j h k e = absurd (omega arith)

one_more-bit : (x a p : ℕ) → a ≤ 1 → p < x → a * x + p < x * 2
one_more-bit x zero p i h = omega arith
one_more-bit x (suc zero) p i h = omega arith
one_more-bit x (suc (suc a)) p i h = absurd (omega arith)

module _ {S : Type 0} (h : Vocabulary S) where
  presence-more : (t : Table) (ts : List Table) → presence h (t ∷ ts) ≡ some? (size_of h t) * 2 ^ length ts + presence h ts
  unfolding presence from_bits
  presence-more t ts = rw (length-map ts (λ (t : Table). some? (size_of h t)))

  presence-below : (ts : List Table) → presence h ts < 2 ^ length ts
  unfolding presence from_bits
  presence-below [] = omega arith
  presence-below (t ∷ ts) = rw (presence-more t ts, pow-suc 2 (length ts)) (one_more-bit (2 ^ length ts) (some? (size_of h t)) (presence h ts) (some_one (size_of h t)) (presence-below ts))

  presence_split : (t : Table) (ts : List Table) (b : ℕ) → presence h (t ∷ ts) ≡ b % 2 ^ suc (length ts) → (b / 2 ^ length ts % 2 ≡ some? (size_of h t)) × (presence h ts ≡ b % 2 ^ length ts)
  presence_split t ts b e =
      same_digits (2 ^ length ts) (some? (size_of h t)) (b / 2 ^ length ts % 2) (presence h ts) (b % 2 ^ length ts) (some_one (size_of h t)) (omega arith) (presence-below ts) (mod-lt b (pow_pos (length ts)))
      (sym (presence-more t ts) ∙ e ∙ low_bits b (length ts))

module _ (ver : Version) (s : Octets) where
  -- ---- tables
  record TablesHit (ts : List Table) (l : Lists Listed ts) (k : ℕ) (v : Vocabulary Located) (o : Octets) (w : Vocabulary Octets) (p : List Located) (g : Passed) : Type 0 where
    lists : Lists Located ts
    goes : g ≡ got tt (k + length o) (behind v ts lists)
    are : map_lists (listed_as s) ts lists ≡ l
    state : plain_tables s (behind v ts lists) ≡ w
    placed : p ≡ all_of ts lists

  past_absent : (t : Table) (ts : List Table) (xs : List (EntryOf Listed t)) (l : Lists Listed ts) (b k : ℕ) (v : Vocabulary Located) (o : Octets) (w : Vocabulary Octets) (p : List Located)
      → length xs ≡ 0 → b / 2 ^ length ts % 2 ≡ some? (length xs) → TablesHit ts l k v o w p (tables_at ver ts b s k v) → TablesHit (t ∷ ts) (xs, l) k v o w p (tables_at ver (t ∷ ts) b s k v)
  unfolding tables_at
  past_absent t ts xs l b k v o w p z e q =
      let zero_bit : b / 2 ^ length ts % 2 ≡ 0 = e ∙ ap some? z in
      record {
        lists = ([], q.lists);
        goes = rw (ne_eqb (b / 2 ^ length ts % 2) 1 (omega arith)) q.goes;
        are = λ i. (sym (no_list xs z) i, q.are i);
        state = q.state;
        placed = q.placed ∙ ap (λ (m : List Located). m ++ all_of ts q.lists) (sym (none_located t));
      }

  some_is : (n : ℕ) → 0 < n → some? n ≡ 1
  some_is zero h = absurd (omega arith)
  some_is (suc n) h = refl

  past_present : (t : Table) (ts : List Table) (xs : List (EntryOf Listed t)) (l : Lists Listed ts) (b k : ℕ) (v : Vocabulary Located) (o os : Octets) (u w : Vocabulary Octets) (rest : Octets) (p q : List Located)
      → 0 < length xs → length xs ≤ top → b / 2 ^ length ts % 2 ≡ some? (length xs) → drop k s ≡ spell c21 0 (length xs) ++ rest
      → (e : EntriesHit ver s t (k + length (spell c21 0 (length xs))) v xs o u p (entries_at ver t s (length xs) (k + length (spell c21 0 (length xs))) v))
      → TablesHit ts l (k + length (spell c21 0 (length xs)) + length o) (add_all t v e.list) os w q (tables_at ver ts b s (k + length (spell c21 0 (length xs)) + length o) (add_all t v e.list))
      → TablesHit (t ∷ ts) (xs, l) k v (spell c21 0 (length xs) ++ (o ++ os)) w (p ++ q) (tables_at ver (t ∷ ts) b s k v)
  unfolding tables_at rooms_in share_of behind_first sizes c21
  past_present t ts xs l b k v o os u w rest p q any few bit d e r =
      let n = num_complete s c21 top 1 0 0 (length xs) k rest c21_ordered (omega arith) any (omega arith) few refl d in
      let la = length-append (spell c21 0 (length xs)) (o ++ os) in
      let lb = length-append o os in
      let one : b / 2 ^ length ts % 2 ≡ 1 = bit ∙ some_is (length xs) any in
      record {
        lists = (e.list, r.lists);
        goes = rw (eq-eqb (b / 2 ^ length ts % 2) 1 one, n, e.goes, r.goes) (ap (λ (j : ℕ). got tt j (behind (add_all t v e.list) ts r.lists)) (omega arith));
        are = λ i. (e.are i, r.are i);
        state = r.state;
        placed = ap₂ (λ (x y : List Located). x ++ y) e.placed r.placed;
      }

  tables_complete : (h : Head) {ts : List Table} (b k : ℕ) (v : Vocabulary Located) {z : Vocabulary Octets} {o : Octets} {w : Vocabulary Octets} (rest : Octets) → plain_tables s v ≡ z
      → (u : TablesListed ver h ts z o w) → presence h ts ≡ b % 2 ^ length ts → drop k s ≡ o ++ rest → TablesHit ts (pieces h ts) k v o w (in_tables k u) (tables_at ver ts b s k v)
  unfolding tables_at in_tables size_of
  tables_complete h b k v rest e no_table bits d = record { lists = tt; goes = ap (λ (j : ℕ). got tt j v) (omega arith); are = refl; state = e; placed = refl }
  tables_complete h b k v rest e (absent {t = of_strings t} {ts = ts} {w = w} {os = os} none r) bits d =
      let c = presence_split h (of_strings t) ts b bits in
      past_absent (of_strings t) ts (strings h t) (pieces h ts) b k v os w (in_tables k r) none c.0 (tables_complete h b k v rest e r c.1 d)
  tables_complete h b k v rest e (absent {t = of_names t} {ts = ts} {w = w} {os = os} none r) bits d =
      let c = presence_split h (of_names t) ts b bits in
      past_absent (of_names t) ts (names h t) (pieces h ts) b k v os w (in_tables k r) none c.0 (tables_complete h b k v rest e r c.1 d)
  tables_complete h b k v rest e (present {t = of_strings t} {ts = ts} {u = z₁} {w = w} o {os = os} any few y r) bits d =
      let xs : List Listed = strings h t in
      let n : ℕ = length (spell c21 0 (length xs)) in
      let c = presence_split h (of_strings t) ts b bits in
      let d1 : drop k s ≡ spell c21 0 (length xs) ++ (o ++ (os ++ rest)) = d ∙ simp append_assoc in
      let d2 : drop (k + n) s ≡ o ++ (os ++ rest) = drop_past s k (spell c21 0 (length xs)) (o ++ (os ++ rest)) d1 in
      let i = entries_complete ver s (of_strings t) (k + n) v (os ++ rest) e y d2 in
      past_present (of_strings t) ts xs (pieces h ts) b k v o os z₁ w (o ++ (os ++ rest)) (in_entries (k + n) y) (in_tables (k + n + length o) r) any few c.0 d1 i
      (tables_complete h b (k + n + length o) (add_all (of_strings t) v i.list) rest i.state r c.1 (drop_past s (k + n) o (os ++ rest) d2))
  tables_complete h b k v rest e (present {t = of_names t} {ts = ts} {u = z₁} {w = w} o {os = os} any few y r) bits d =
      let xs : List Triple = names h t in
      let n : ℕ = length (spell c21 0 (length xs)) in
      let c = presence_split h (of_names t) ts b bits in
      let d1 : drop k s ≡ spell c21 0 (length xs) ++ (o ++ (os ++ rest)) = d ∙ simp append_assoc in
      let d2 : drop (k + n) s ≡ o ++ (os ++ rest) = drop_past s k (spell c21 0 (length xs)) (o ++ (os ++ rest)) d1 in
      let i = entries_complete ver s (of_names t) (k + n) v (os ++ rest) e y d2 in
      past_present (of_names t) ts xs (pieces h ts) b k v o os z₁ w (o ++ (os ++ rest)) [] (in_tables (k + n + length o) r) any few c.0 d1 i
      (tables_complete h b (k + n + length o) (add_all (of_names t) v i.list) rest i.state r c.1 (drop_past s (k + n) o (os ++ rest) d2))

  -- ---- a head
  pub record HeadHit (h : Head) (k : ℕ) (v : Vocabulary Located) (o : Octets) (w : Vocabulary Octets) (p : List Located) : Type 0 where
    pub head : Vocabulary Located
    pub goes : head_at ver s k v ≡ got tt (suc (suc k) + length o) (followed_by v head)
    pub state : plain_tables s (followed_by v head) ≡ w
    pub head_is : vocabulary_map (listed_as s) head ≡ h
    pub listed : all_listed head ≡ p

  few_bits : (h : Head) → presence h ten_tables < 1024
  unfolding ten_tables
  few_bits h = presence-below h ten_tables

  ten_low : (b : ℕ) → b < 1024 → b ≡ b % 2 ^ length ten_tables
  unfolding ten_tables
  ten_low b h = omega arith

  pub head_complete : (h : Head) (k : ℕ) (v : Vocabulary Located) {o : Octets} {w : Vocabulary Octets} (rest : Octets) → 0 < presence h ten_tables
      → (u : TablesListed ver h ten_tables (plain_tables s v) o w) → drop k s ≡ presence h ten_tables / 256 ∷ presence h ten_tables % 256 ∷ (o ++ rest) → HeadHit h k v o w (in_tables (suc (suc k)) u)
  unfolding head_at
  head_complete h k v {o = o} rest any u d =
      let b : ℕ = presence h ten_tables in
      let few = few_bits h in
      let a = drop_head s k (b / 256) (b % 256 ∷ _) d in
      let c = drop_head s (suc k) (b % 256) _ a.2 in
      let high = a.1 in
      let low = c.1 in
      let whole_is : 256 * (b / 256) + b % 256 ≡ b = omega arith in
      let i = tables_complete h b (suc (suc k)) v rest refl u (ten_low b few) c.2 in
      let head : Vocabulary Located = whole Located i.lists in
      let is : behind v ten_tables i.lists ≡ followed_by v head = behind_lists Located v i.lists in
      record {
        head = head;
        goes = rw (lt-ltb k (length s) a.0, high, lt-ltb (b / 256) 0x20 (omega arith), lt-ltb (b / 256) 4 (omega arith), lt-ltb (suc k) (length s) c.0, low, whole_is, ne_eqb b 0 (omega arith), i.goes)
            (ap (λ (w : Vocabulary Located). got tt (suc (suc k) + length o) w) is);
        state = ap (plain_tables s) (sym is) ∙ i.state;
        head_is = sym (whole-map (listed_as s) i.lists) ∙ ap (whole Listed) i.are ∙ whole_pieces Listed h;
        listed = sym (all_whole i.lists) ∙ sym i.placed;
      }
