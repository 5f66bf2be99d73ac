-- Size, identification and head: what lets the reader go on is what the rules write before a body, and the body starts behind it, with its tables; what does not is a refusal of
-- the requirements'. And what the rules write lets the reader go on so.
use mathlib.Core.Path.{◌≡◌, refl, sym, ap, ap₂, ◌∙◌, subst}
use mathlib.Core.Bool.{Bool, true, ◌&&◌}
use mathlib.Core.List.{List, [], ◌∷◌, ◌++◌, append_assoc}
use Prim.Native.Nat.{ℕ, suc, ◌+◌, ◌/◌, ◌%◌, ◌≤◌}
use native.Mathlib.Omega.{arith}
use borrow.Author.Tests.{le-leb, leb-true, eqb-true}
use lib.Dec.{eqb, leb}
use lib.ListN.{length, get_or, take, drop, length-append, take-append-drop}
use lib.Seq.{drop-cons, drop_at, take_at}
use Rattle.format.specs.Octets.{Octets, AreOctets}
use Rattle.format.specs.Numbers.{longest}
use Rattle.format.specs.Tables.{Vocabulary, strings, no_entries, followed_by, vocabulary_map, same, Version}
use Rattle.format.specs.Head.{Head, Table, ten_tables, presence, started, TablesListed, Opens, without_head, with_head}
use Rattle.format.specs.Document.{header}
use Rattle.tables.specs.Located.{Located, octets_of, listed_as, plain_tables, start}
use Rattle.tables.proofs.Found.{both_true, same_eq, same_refl}
use Rattle.read_names.specs.Strings.{got, refused}
use Rattle.read_head.specs.Head.{Passed, head_at}
use Rattle.reader.specs.Reading.{sized, Opening, onward, halt, behind_head, opening}
use Rattle.theorems.specs.Bounded.{Bounded}
use Rattle.theorems.specs.Heads.{all_listed}
use Rattle.theorems.specs.Places.{in_tables, listed_in}
use Rattle.theorems.proofs.Lists.{Fault, fault, test, test_le, test_lt, either_eq, drop_head}
use Rattle.theorems.proofs.Words.{starting-map}
use Rattle.theorems.proofs.TenTables.{followed_none}
use Rattle.theorems.proofs.HeadReading.{HeadOk, head_sound}
use Rattle.theorems.proofs.HeadWritten.{head_complete}

pub header-length : (ver : Version) → length (header ver) ≡ suc (length ver.identification)
unfolding header
header-length ver = length-append ver.identification (0 ∷ []) ∙ omega arith

pub plain-start : (ver : Version) (s : Octets) → plain_tables s (start ver) ≡ started ver
unfolding start octets_of
plain-start ver s = starting-map (octets_of s) ver _ _

no_strings : (s : Octets) → vocabulary_map (listed_as s) no_entries ≡ no_entries
unfolding vocabulary_map no_entries
no_strings s = refl

none_listed : all_listed {S = Located} no_entries ≡ []
unfolding strings no_entries
none_listed = refl

-- tables are listed at the same places, whichever of two equal tables they are added to
moved : {ver : Version} {h : Head} {v z w : Vocabulary Octets} {ts : List Table} {o : Octets} (k : ℕ) → v ≡ z → (u : TablesListed ver h ts v o w) → (y : TablesListed ver h ts z o w) × (in_tables k y ≡ in_tables k u)
moved {ver = ver} {h = h} {w = w} {ts = ts} {o = o} k e u = subst (λ (z : Vocabulary Octets). (y : TablesListed ver h ts z o w) × (in_tables k y ≡ in_tables k u)) e (u, refl)

-- ---- what lets the reader go on is what the rules write
module _ (ver : Version) (s : Octets) where
  abbrev id : Octets
  id = ver.identification

  abbrev n : ℕ
  n = length id

  -- the octets `before` are written before the body, which starts at octet `body`
  pub record Begins (body : ℕ) (tables : Vocabulary Located) : Type 0 where
    pub h : Head
    pub before : Octets
    pub opens : Opens ver h before (plain_tables s tables)
    pub splits : s ≡ before ++ drop body s
    pub body_is : body ≡ length before
    pub within : body ≤ length s
    pub behind-header : length (header ver) ≤ body
    pub short : length s ≤ ver.octets
    pub head : Vocabulary Located
    pub tables_are : tables ≡ followed_by (start ver) head
    pub head_is : vocabulary_map (listed_as s) head ≡ h
    pub listed : all_listed head ≡ listed_in opens

  abbrev pub Opened : Opening → Type 0
  Opened (onward body tables) = Begins body tables
  Opened (halt k p) = Fault s k p

  joins : take n s ≡ id → suc n ≤ length s → s ≡ id ++ (get_or s n 0 ∷ drop (suc n) s)
  joins p h = sym (take-append-drop n s) ∙ ap₂ (λ (l m : Octets). l ++ m) p (drop-cons s n 0 h)

  module _ (four : take n s ≡ id) (long : suc n ≤ length s) (short : length s ≤ ver.octets) where
    no_head : get_or s n 0 ≡ 0 → Begins (suc n) (start ver)
    no_head e =
        let l = header-length ver in
        let la = length-append id (0 ∷ []) in
        record {
          h = no_entries;
          before = id ++ (0x00 ∷ []);
          opens = rw (plain-start ver s) without_head;
          splits = joins four long ∙ ap (λ (x : ℕ). id ++ (x ∷ drop (suc n) s)) e ∙ sym (append_assoc id (0 ∷ []) (drop (suc n) s));
          body_is = omega arith;
          within = long;
          behind-header = omega arith;
          short = short;
          head = no_entries;
          tables_are = sym (followed_none (start ver));
          head_is = no_strings s;
          listed = none_listed;
        }

    module _ (bytes : AreOctets s) (small : length s ≤ longest) where
      a_head : ver.heads ≡ true → get_or s n 0 ≡ 0x20 → (a : Passed) → HeadOk ver s bytes small (suc n) (start ver) a → Opened (behind_head a)
      a_head heads e (refused c p) r = r
      a_head heads e (got x next w) r =
          let l = header-length ver in
          let h : Head = r.h in
          let b : ℕ = presence h ten_tables in
          let u = moved (n + 3) (plain-start ver s) r.rule in
          let at : suc (suc (suc n)) ≡ n + 3 = omega arith in
          let i = r.next_is in
          let la = length-append id (0x20 ∷ b / 256 ∷ b % 256 ∷ r.octets) in
          record {
            h = h;
            before = id ++ (0x20 ∷ b / 256 ∷ b % 256 ∷ r.octets);
            opens = with_head heads r.some u.0;
            splits = joins four long ∙ ap₂ (λ (x : ℕ) (l : Octets). id ++ (x ∷ l)) e r.here ∙ sym (append_assoc id (0x20 ∷ b / 256 ∷ b % 256 ∷ r.octets) (drop next s));
            body_is = omega arith;
            within = r.inside;
            behind-header = omega arith;
            short = short;
            head = r.head;
            tables_are = r.added;
            head_is = r.head_is;
            listed = r.listed ∙ ap (λ (j : ℕ). in_tables j r.rule) at ∙ sym u.1;
          }

pub opening_sound : (ver : Version) (ok : Bounded ver) (s : Octets) → AreOctets s → Opened ver s (opening ver s)
unfolding opening sized
opening_sound ver ok s bytes =
    let P : Opening → Type 0 = Opened ver s in
    let id : Octets = ver.identification in
    let n : ℕ = length id in
    let few = ok.few_octets in
    test P (halt 1 0) (fault s 1 0 refl (omega arith)) (leb 1 (length s) && leb (length s) ver.octets) _
    λ t0. test_le P (halt 2 0) (fault s 2 0 refl (omega arith)) n (length s) _
    λ t1. test P (halt 3 0) (fault s 3 0 refl (omega arith)) (same (take n s) id) _
    λ t2. test_le P (halt 2 n) (fault s 2 n refl t1) (suc n) (length s) _
    λ t3. test_lt P (halt 6 n) (fault s 6 n refl t1) (get_or s n 0) 0x80 _
    λ t4.
    let short : length s ≤ ver.octets = leb-true (length s) ver.octets (both_true (leb 1 (length s)) (leb (length s) ver.octets) t0).1 in
    let four : take n s ≡ id = same_eq (take n s) id t2 in
    let small : length s ≤ longest = omega arith in
    either_eq P (get_or s n 0) 0 _ _ (λ e. no_head ver s four t3 short e)
    λ t5. test P (halt 4 n) (fault s 4 n refl t1) (ver.heads && eqb (get_or s n 0) 0x20) _
    λ t6.
    let both = both_true ver.heads (eqb (get_or s n 0) 0x20) t6 in
    a_head ver s four t3 short bytes small both.0 (eqb-true (get_or s n 0) 0x20 both.1) (head_at ver s (suc n) (start ver)) (head_sound ver s bytes small (suc n) (start ver) t3)

-- ---- and what the rules write lets the reader go on
pub record OpensAt (ver : Version) (s : Octets) {h : Head} {before : Octets} {listed : Vocabulary Octets} (op : Opens ver h before listed) : Type 0 where
  pub tables : Vocabulary Located
  pub answers : opening ver s ≡ onward (length before) tables
  pub are : plain_tables s tables ≡ listed
  pub head : Vocabulary Located
  pub tables_are : tables ≡ followed_by (start ver) head
  pub head_is : vocabulary_map (listed_as s) head ≡ h
  pub listed_are : all_listed head ≡ listed_in op

pub opening_complete : (ver : Version) (s : Octets) {h : Head} {before : Octets} {listed : Vocabulary Octets} (op : Opens ver h before listed) (rest : Octets) → s ≡ before ++ rest
    → length s ≤ ver.octets → OpensAt ver s op
unfolding opening sized
opening_complete ver s without_head rest d short =
    let id : Octets = ver.identification in
    let n : ℕ = length id in
    let first : s ≡ id ++ (0 ∷ rest) = d ∙ append_assoc id (0 ∷ []) rest in
    let four : take n s ≡ id = ap (λ (x : Octets). take n x) first ∙ take_at id _ n refl in
    let fifth = drop_head s n 0 rest (ap (drop n) first ∙ drop_at id _ n refl) in
    let long = fifth.0 in
    let la = length-append id (0 ∷ []) in
    record {
      tables = start ver;
      answers = rw (le-leb 1 (length s) (omega arith), le-leb (length s) ver.octets short, le-leb n (length s) (omega arith), four, same_refl id, le-leb (suc n) (length s) long, fifth.1)
          (ap (λ (j : ℕ). onward j (start ver)) (omega arith));
      are = plain-start ver s;
      head = no_entries;
      tables_are = sym (followed_none (start ver));
      head_is = no_strings s;
      listed_are = none_listed;
    }
opening_complete ver s {h = h} (with_head {o = o} heads any u) rest d short =
    let id : Octets = ver.identification in
    let n : ℕ = length id in
    let b : ℕ = presence h ten_tables in
    let first : s ≡ id ++ (0x20 ∷ b / 256 ∷ b % 256 ∷ (o ++ rest)) = d ∙ append_assoc id (0x20 ∷ b / 256 ∷ b % 256 ∷ o) rest in
    let four : take n s ≡ id = ap (λ (x : Octets). take n x) first ∙ take_at id _ n refl in
    let fifth = drop_head s n 0x20 (b / 256 ∷ b % 256 ∷ (o ++ rest)) (ap (drop n) first ∙ drop_at id _ n refl) in
    let long = fifth.0 in
    let allowed : (ver.heads && eqb 0x20 0x20) ≡ true = ap (λ (x : Bool). x && eqb 0x20 0x20) heads in
    let y = moved (suc (suc (suc n))) (sym (plain-start ver s)) u in
    let r = head_complete ver s h (suc n) (start ver) rest any y.0 fifth.2 in
    let at : suc (suc (suc n)) ≡ n + 3 = omega arith in
    let la = length-append id (0x20 ∷ b / 256 ∷ b % 256 ∷ o) in
    record {
      tables = followed_by (start ver) r.head;
      answers = rw (le-leb 1 (length s) (omega arith), le-leb (length s) ver.octets short, le-leb n (length s) (omega arith), four, same_refl id, le-leb (suc n) (length s) long, fifth.1, allowed, r.goes)
          (ap (λ (j : ℕ). onward j (followed_by (start ver) r.head)) (omega arith));
      are = r.state;
      head = r.head;
      tables_are = refl;
      head_is = r.head_is;
      listed_are = r.listed ∙ y.1 ∙ ap (λ (j : ℕ). in_tables j u) at;
    }
