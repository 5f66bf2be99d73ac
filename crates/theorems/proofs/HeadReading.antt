-- A head, C.2.5: what is read is what the rules list, in the tables then; a refusal is one of the requirements'.
use Prim.Native.Nat.{ℕ, suc, ◌+◌, ◌*◌, ◌/◌, ◌%◌, ◌^◌, ◌≤◌, ◌<◌}
use mathlib.Core.Path.{◌≡◌, refl, sym, ap, ap₂, ◌∙◌}
use mathlib.Core.List.{List, [], ◌∷◌, ◌++◌, map, append_assoc, append-nil}
use native.Mathlib.Omega.{arith}
use lib.ListN.{length, get_or, drop, length-append, length-map}
use lib.Pow.{mod-pow-add}
use lib.Seq.{drop-cons}
use Rattle.format.specs.Octets.{Octets, Bits, AreOctets}
use Rattle.format.specs.Numbers.{spell, c21, top, longest, from_bits, behind_first}
use Rattle.format.specs.Tables.{Vocabulary, strings, names, followed_by, vocabulary_map, Version}
use Rattle.format.specs.Head.{Listed, Head, Table, of_strings, of_names, ten_tables, size_of, some?, presence, Each, TablesListed, no_table, absent, present}
use Rattle.fields.specs.Fields.{field_at}
use Rattle.fields.proofs.Forms.{Ordered}
use Rattle.tables.specs.Located.{Located, listed_as, plain_tables}
use Rattle.read_names.specs.Strings.{got, refused, then}
use Rattle.read_head.specs.Head.{Passed, entries_at, tables_at, head_at}
use Rattle.theorems.specs.Heads.{all_listed}
use Rattle.theorems.specs.Places.{in_tables}
use Rattle.theorems.proofs.Lists.{Fault, fault, test_lt, either_eq}
use Rattle.theorems.proofs.Numbers.{NumRead, num_sound}
use Rattle.theorems.proofs.Fields.{on_number}
use Rattle.theorems.proofs.TenTables.{EntryOf, Lists, pieces, behind, behind_lists, whole, map_entry, map_lists, whole-map}
use Rattle.theorems.proofs.HeadEntries.{EntryListed, located, in_each, EntriesRead, EntriesOk, entries_sound}

pub c21_ordered : Ordered c21
unfolding c21 behind_first from_bits
c21_ordered = omega arith

-- ---- the presence bits
abbrev bits_of : (S : Type 0) (ts : List Table) → Lists S ts → Bits
bits_of S [] l = []
bits_of S (t ∷ ts) l = some? (length l.0) ∷ bits_of S ts l.1

bits_length : (S : Type 0) (ts : List Table) (l : Lists S ts) → length (bits_of S ts l) ≡ length ts
bits_length S [] l = refl
bits_length S (t ∷ ts) l = ap suc (bits_length S ts l.1)

bits_map : {S T : Type 0} (f : S → T) (ts : List Table) (l : Lists S ts) → bits_of T ts (map_lists f ts l) ≡ bits_of S ts l
bits_map f [] l = refl
bits_map f (t ∷ ts) l = ap₂ (λ (n : ℕ) (b : Bits). some? n ∷ b) (length-map l.0 (map_entry f t)) (bits_map f ts l.1)

bits_are : {S : Type 0} (h : Vocabulary S) (ts : List Table) → map (λ (t : Table). some? (size_of h t)) ts ≡ bits_of S ts (pieces h ts)
unfolding size_of
bits_are h [] = refl
bits_are h (of_strings t ∷ ts) = ap (λ (b : Bits). some? (length (strings h t)) ∷ b) (bits_are h ts)
bits_are h (of_names t ∷ ts) = ap (λ (b : Bits). some? (length (names h t)) ∷ b) (bits_are h ts)

presence_is : {S : Type 0} (h : Vocabulary S) (ts : List Table) → presence h ts ≡ from_bits (bits_of S ts (pieces h ts))
unfolding presence
presence_is h ts = ap from_bits (bits_are h ts)

-- one bit more
pub low_bits : (b m : ℕ) → b % 2 ^ suc m ≡ b / 2 ^ m % 2 * 2 ^ m + b % 2 ^ m
low_bits b m = let e : suc m ≡ 1 + m = omega arith in ap (λ (n : ℕ). b % 2 ^ n) e ∙ mod-pow-add b 1 m

no_bit : (b : ℕ) → from_bits [] ≡ b % 2 ^ 0
unfolding from_bits
no_bit b = omega arith

one_bit : (S : Type 0) (t : Table) (ts : List Table) (l : Lists S (t ∷ ts)) (b : ℕ) → some? (length l.0) ≡ b / 2 ^ length ts % 2 → from_bits (bits_of S ts l.1) ≡ b % 2 ^ length ts
    → from_bits (bits_of S (t ∷ ts) l) ≡ b % 2 ^ suc (length ts)
unfolding from_bits
one_bit S t ts l b e i = rw (bits_length S ts l.1, e, i) (sym (low_bits b (length ts)))

ten_bits : (b : ℕ) → b < 1024 → b % 2 ^ length ten_tables ≡ b
unfolding ten_tables
ten_bits b h = omega arith

-- ---- tables as the rules list them, by lists of entries; and where these stand
module _ (ver : Version) where
  data End : Vocabulary Octets → Octets → Vocabulary Octets → Type 0 where
    at_end : {v : Vocabulary Octets} → End v [] v

  data One (t : Table) (xs : List (EntryOf Listed t)) (Rest : Vocabulary Octets → Octets → Vocabulary Octets → Type 0) : Vocabulary Octets → Octets → Vocabulary Octets → Type 0 where
    is_absent_lem : {v w : Vocabulary Octets} {os : Octets} → length xs ≡ 0 → Rest v os w → One t xs Rest v os w
    is_present : {v u w : Vocabulary Octets} (o : Octets) {os : Octets} → 0 < length xs → length xs ≤ top → Each ver (EntryListed ver t) v xs o u → Rest u os w
        → One t xs Rest v (spell c21 0 (length xs) ++ (o ++ os)) w

  abbrev InLists : (ts : List Table) → Lists Listed ts → Vocabulary Octets → Octets → Vocabulary Octets → Type 0
  InLists [] l v o w = End v o w
  InLists (t ∷ ts) l v o w = One t l.0 (InLists ts l.1) v o w

  abbrev in_lists : (ts : List Table) (l : Lists Listed ts) (k : ℕ) (v : Vocabulary Octets) (o : Octets) (w : Vocabulary Octets) → InLists ts l v o w → List Located
  in_lists [] l k v o w u = []
  in_lists (t ∷ ts) l k v o w (is_absent_lem e r) = in_lists ts l.1 k v o w r
  in_lists (t ∷ ts) l k v o w (is_present {u = u} p {os = os} any few y r) =
      let n : ℕ = length (spell c21 0 (length l.0)) in
      in_each t (k + n) y ++ in_lists ts l.1 (k + n + length p) u os w r

  to_tables : (h : Head) (ts : List Table) {v w : Vocabulary Octets} {o : Octets} → InLists ts (pieces h ts) v o w → TablesListed ver h ts v o w
  unfolding size_of
  to_tables h [] at_end = no_table
  to_tables h (of_strings t ∷ ts) (is_absent_lem e r) = absent e (to_tables h ts r)
  to_tables h (of_strings t ∷ ts) (is_present o any few u r) = present o any few u (to_tables h ts r)
  to_tables h (of_names t ∷ ts) (is_absent_lem e r) = absent e (to_tables h ts r)
  to_tables h (of_names t ∷ ts) (is_present o any few u r) = present o any few u (to_tables h ts r)

  same_places : (h : Head) (ts : List Table) (k : ℕ) (v : Vocabulary Octets) (o : Octets) (w : Vocabulary Octets) (u : InLists ts (pieces h ts) v o w)
      → in_tables k (to_tables h ts u) ≡ in_lists ts (pieces h ts) k v o w u
  unfolding size_of in_tables to_tables
  same_places h [] k v o w at_end = refl
  same_places h (of_strings t ∷ ts) k v o w (is_absent_lem e r) = same_places h ts k v o w r
  same_places h (of_strings t ∷ ts) k v o w (is_present {u = u} p {os = os} any few y r) =
      let n : ℕ = length (spell c21 0 (length (strings h t))) in
      ap (λ (l : List Located). in_each (of_strings t) (k + n) y ++ l) (same_places h ts (k + n + length p) u os w r)
  same_places h (of_names t ∷ ts) k v o w (is_absent_lem e r) = same_places h ts k v o w r
  same_places h (of_names t ∷ ts) k v o w (is_present {u = u} p {os = os} any few y r) = same_places h ts (k + length (spell c21 0 (length (names h t))) + length p) u os w r

-- the strings of lists, in order
abbrev pub all_of : (ts : List Table) → Lists Located ts → List Located
all_of [] l = []
all_of (t ∷ ts) l = located t l.0 ++ all_of ts l.1

pub none_located : (t : Table) → located t [] ≡ []
none_located (of_strings t) = refl
none_located (of_names t) = refl

pub all_whole : (l : Lists Located ten_tables) → all_of ten_tables l ≡ all_listed (whole Located l)
unfolding ten_tables strings whole
all_whole l = simp append-nil

module _ (ver : Version) (s : Octets) where
  record TablesRead (ts : List Table) (b k : ℕ) (v : Vocabulary Located) (next : ℕ) (w : Vocabulary Located) : Type 0 where
    lists : Lists Located ts
    octets : Octets
    rule : InLists ver ts (map_lists (listed_as s) ts lists) (plain_tables s v) octets (plain_tables s w)
    here : drop k s ≡ octets ++ drop next s
    next_is : next ≡ k + length octets
    inside : next ≤ length s
    added : w ≡ behind v ts lists
    bits : from_bits (bits_of Located ts lists) ≡ b % 2 ^ length ts
    placed : in_lists ver ts (map_lists (listed_as s) ts lists) k (plain_tables s v) octets (plain_tables s w) rule ≡ all_of ts lists

  abbrev TablesOk : List Table → ℕ → ℕ → Vocabulary Located → Passed → Type 0
  TablesOk ts b k v (got x next w) = TablesRead ts b k v next w
  TablesOk ts b k v (refused c p) = Fault s c p

  on_entries : (P : Passed → Type 0) → ((c p : ℕ) → Fault s c p → P (refused c p)) → (t : Table) (n k : ℕ) (v : Vocabulary Located) (a : Passed) → EntriesOk ver s t n k v a
      → (f : Unit {0} → ℕ → Vocabulary Located → Passed) → ((next : ℕ) (w : Vocabulary Located) → EntriesRead ver s t n k v next w → P (f tt next w)) → P (then a f)
  on_entries P nay t n k v (got b next w) r f g = g next w r
  on_entries P nay t n k v (refused c p) r f g = nay c p r

  -- the table t is absent, or present with these entries; then the others
  past_absent : (t : Table) (ts : List Table) (b k : ℕ) (v : Vocabulary Located) → b / 2 ^ length ts % 2 ≡ 0 → (a : Passed) → TablesOk ts b k v a → TablesOk (t ∷ ts) b k v a
  past_absent t ts b k v e (refused c p) q = q
  past_absent t ts b k v e (got x next w) q =
      record {
        lists = ([], q.lists);
        octets = q.octets;
        rule = is_absent_lem refl q.rule;
        here = q.here;
        next_is = q.next_is;
        inside = q.inside;
        added = q.added;
        bits = one_bit Located t ts ([], q.lists) b (sym e) q.bits;
        placed = q.placed ∙ ap (λ (l : List Located). l ++ all_of ts q.lists) (sym (none_located t));
      }

  past_present : (t : Table) (ts : List Table) (b k n : ℕ) (v : Vocabulary Located) → b / 2 ^ length ts % 2 ≡ 1 → (m : ℕ) → NumRead s c21 top 0 k n m
      → (k₁ : ℕ) (v₁ : Vocabulary Located) → EntriesRead ver s t n m v k₁ v₁ → (a : Passed) → TablesOk ts b k₁ v₁ a → TablesOk (t ∷ ts) b k v a
  past_present t ts b k n v e m r k₁ v₁ g (refused c p) q = q
  past_present t ts b k n v e m r k₁ v₁ g (got x next w) q =
      let size = g.size in
      let is = r.is in
      let f = map_entry (listed_as s) t in
      let same : length (map f g.list) ≡ n = length-map g.list f ∙ size in
      let count : ℕ → Octets = (λ j. spell c21 0 j) in
      let la = length-append (count n) (g.octets ++ q.octets) in
      let lb = length-append g.octets q.octets in
      let lc = ap (λ (j : ℕ). length (count j)) same in
      let ld = length-append (count (length (map f g.list))) (g.octets ++ q.octets) in
      let i = r.next_is in
      let i₁ = g.next_is in
      let i₂ = q.next_is in
      let under = r.under in
      let from : k + length (count (length (map f g.list))) ≡ m = omega arith in
      let beyond : k + length (count (length (map f g.list))) + length g.octets ≡ k₁ = omega arith in
      let rest : drop m s ≡ (g.octets ++ q.octets) ++ drop next s = g.here ∙ ap (λ (l : Octets). g.octets ++ l) q.here ∙ sym (append_assoc g.octets q.octets (drop next s)) in
      record {
        lists = (g.list, q.lists);
        octets = count (length (map f g.list)) ++ (g.octets ++ q.octets);
        rule = is_present g.octets (omega arith) (omega arith) g.rule q.rule;
        here = r.here ∙ ap₂ (λ (l : ℕ) (y : Octets). count l ++ y) (sym same) rest ∙ sym (append_assoc (count (length (map f g.list))) (g.octets ++ q.octets) (drop next s));
        next_is = omega arith;
        inside = q.inside;
        added = q.added ∙ ap (λ (u : Vocabulary Located). behind u ts q.lists) g.added;
        bits = one_bit Located t ts (g.list, q.lists) b (ap some? (size ∙ is) ∙ sym e) q.bits;
        placed = ap₂ (λ (x y : List Located). x ++ y) (ap (λ (j : ℕ). in_each t j g.rule) from ∙ g.placed) (ap (λ (j : ℕ). in_lists ver ts (map_lists (listed_as s) ts q.lists) j (plain_tables s v₁) q.octets (plain_tables s w) q.rule) beyond ∙ q.placed);
      }

  module _ (bytes : AreOctets s) (short : length s ≤ longest) where
    tables_sound : (ts : List Table) (b k : ℕ) (v : Vocabulary Located) → k ≤ length s → TablesOk ts b k v (tables_at ver ts b s k v)
    unfolding tables_at
    tables_sound [] b k v kl =
        record { lists = tt; octets = []; rule = at_end; here = refl; next_is = omega arith; inside = kl; added = refl; bits = no_bit b; placed = refl }
    tables_sound (t ∷ ts) b k v kl =
        let P : Passed → Type 0 = TablesOk (t ∷ ts) b k v in
        let small = bytes k in
        either_eq P (b / 2 ^ length ts % 2) 1 _ _
        (λ e. on_number s P (λ c p f. f) c21 top 0 k (field_at c21 top 1 s k) (num_sound s bytes c21 c21_ordered top 1 0 k kl (omega arith)) _
        λ n next r. on_entries P (λ c p f. f) t n next v (entries_at ver t s n next v) (entries_sound ver s bytes short t n next v r.inside) _
        λ k₁ v₁ g. past_present t ts b k n v e next r k₁ v₁ g (tables_at ver ts b s k₁ v₁) (tables_sound ts b k₁ v₁ g.inside))
        (λ ne. past_absent t ts b k v (omega arith) (tables_at ver ts b s k v) (tables_sound ts b k v kl))

    -- the presence bits and the tables of a head
    pub record HeadRead (k : ℕ) (v : Vocabulary Located) (next : ℕ) (w : Vocabulary Located) : Type 0 where
      pub h : Head
      pub octets : Octets
      pub some : 0 < presence h ten_tables
      pub rule : TablesListed ver h ten_tables (plain_tables s v) octets (plain_tables s w)
      pub here : drop k s ≡ presence h ten_tables / 256 ∷ presence h ten_tables % 256 ∷ (octets ++ drop next s)
      pub next_is : next ≡ suc (suc k) + length octets
      pub inside : next ≤ length s
      pub head : Vocabulary Located
      pub added : w ≡ followed_by v head
      pub head_is : vocabulary_map (listed_as s) head ≡ h
      pub listed : all_listed head ≡ in_tables (suc (suc k)) rule

    abbrev pub HeadOk : ℕ → Vocabulary Located → Passed → Type 0
    HeadOk k v (got x next w) = HeadRead k v next w
    HeadOk k v (refused c p) = Fault s c p

    of_tables : (k : ℕ) (v : Vocabulary Located) → suc k < length s → get_or s k 0 < 4 → (256 * get_or s k 0 + get_or s (suc k) 0 ≡ 0 → ⊥) → (a : Passed)
        → TablesOk ten_tables (256 * get_or s k 0 + get_or s (suc k) 0) (suc (suc k)) v a → HeadOk k v a
    unfolding ten_tables whole strings names
    of_tables k v inside few any (refused c p) q = q
    of_tables k v inside few any (got x next w) q =
        let b : ℕ = 256 * get_or s k 0 + get_or s (suc k) 0 in
        let low = bytes (suc k) in
        let lists = map_lists (listed_as s) ten_tables q.lists in
        let h : Head = whole Listed lists in
        let u : InLists ver ten_tables (pieces h ten_tables) (plain_tables s v) q.octets (plain_tables s w) = q.rule in
        let p : presence h ten_tables ≡ b = (presence_is h ten_tables ∙ ap from_bits (bits_map (listed_as s) ten_tables q.lists) ∙ q.bits ∙ ten_bits b (omega arith)) in
        let high : get_or s k 0 ≡ presence h ten_tables / 256 = omega arith in
        let last : get_or s (suc k) 0 ≡ presence h ten_tables % 256 = omega arith in
        record {
          h = h;
          octets = q.octets;
          some = omega arith;
          rule = to_tables ver h ten_tables u;
          here = drop-cons s k 0 (omega arith) ∙ ap₂ (λ (y : ℕ) (l : Octets). y ∷ l) high (drop-cons s (suc k) 0 inside ∙ ap₂ (λ (y : ℕ) (l : Octets). y ∷ l) last q.here);
          next_is = q.next_is;
          inside = q.inside;
          head = whole Located q.lists;
          added = q.added ∙ behind_lists Located v q.lists;
          head_is = sym (whole-map (listed_as s) q.lists);
          listed = sym (all_whole q.lists) ∙ sym q.placed ∙ sym (same_places ver h ten_tables (suc (suc k)) (plain_tables s v) q.octets (plain_tables s w) u);
        }

    pub head_sound : (k : ℕ) (v : Vocabulary Located) → k ≤ length s → HeadOk k v (head_at ver s k v)
    unfolding head_at
    head_sound k v kl =
        let P : Passed → Type 0 = HeadOk k v in
        let b : ℕ = 256 * get_or s k 0 + get_or s (suc k) 0 in
        test_lt P (refused 2 k) (fault s 2 k refl kl) k (length s) _
        λ t0. test_lt P (refused 6 k) (fault s 6 k refl kl) (get_or s k 0) 0x20 _
        λ t1. test_lt P (refused 4 k) (fault s 4 k refl kl) (get_or s k 0) 4 _
        λ t2. test_lt P (refused 2 k) (fault s 2 k refl kl) (suc k) (length s) _
        λ t3. either_eq P b 0 _ _ (λ e. fault s 15 k refl kl)
        λ t4. of_tables k v t3 t2 t4 (tables_at ver ten_tables b s (suc (suc k)) v) (tables_sound ten_tables b (suc (suc k)) v t3)
