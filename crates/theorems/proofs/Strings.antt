-- Strings, C.13 to C.15: what is read is what the rules write, and what they write is read.
use mathlib.Core.Path.{◌≡◌, refl, sym, ap, ◌∙◌, subst}
use mathlib.Core.Bool.{Bool, true, false}
use mathlib.Core.Option
use mathlib.Core.Option.{Option, none, some}
use mathlib.Core.List.{List, [], ◌∷◌, ◌++◌, map}
use Prim.Native.Nat.{ℕ, suc, ◌+◌, ◌-◌, ◌*◌, ◌%◌, ◌^◌, ◌≤◌, ◌<◌}
use native.Mathlib.Omega.{arith}
use borrow.Author.Tests.{lt-ltb, le-ltb, le-leb, eq-eqb, ne_eqb}
use lib.ListN.{length, get_or, take, drop, get_or-eq_default}
use lib.Seq.{drop-cons}
use Rattle.format.specs.Octets.{Octets}
use Rattle.format.specs.Numbers.{behind_first, spell, sizes, lengths, numbers, c25, top, longest}
use Rattle.format.specs.Events.{How, spelled, numbered}
use Rattle.format.specs.Tables.{StringTable, Vocabulary, strings, adding, holds, Entry, Version}
use Rattle.format.specs.Strings.{with_length, Spelling, bit, in_format, Layout, c14, c15, keeping, Identifying, id_spelled, id_numbered, Optional, absent, present, Literal, literal_spelled, literal_numbered, Value, value_empty, value}
use Rattle.format.specs.Names.{has}
use Rattle.format.specs.declared.StringForm.{StringForm}
use Rattle.format.specs.declared.StringForm.TheVariants.{Utf8}
use Rattle.fields.specs.Fields.{share_of, field_at, no_top}
use Rattle.fields.proofs.Laws.{case, rooms_in}
use Rattle.fields.proofs.Forms.{rooms, Ordered}
use Rattle.fields.proofs.Numbers.{c25_ordered, numbers_ordered}
use Rattle.fields.proofs.Lengths.{lengths_ordered}
use Rattle.fields.proofs.RoundTrip.{some_first}
use Rattle.tables.specs.Located.{Located, empty, stretch, octets_of, plain_tables}
use Rattle.tables.proofs.EntryLaws.{entry_made, entry_is, entry_at}
use Rattle.tables.proofs.NewLaws.{new_string}
use Rattle.read_names.specs.Strings.{Got, got, refused, IdRead, OptionalRead, StringRead, id_at, optional_at, number_bit, spelled_at, literal_at, value_at}
use Rattle.theorems.specs.Places.{if_spelled, option_spelled, in_field, in_option, in_literal, in_value}
use Rattle.theorems.proofs.Lists.{fault, test_lt, test_le, test_not, either_lt, either_eq, drop_head}
use Rattle.theorems.proofs.Words.{strings-map, length-strings, adding-map, keeping-map, entry_map}
use Rattle.theorems.proofs.Numbers.{num_sound, num_complete, num_first}
use Rattle.theorems.proofs.Fields.{Ok, on_number, on_field, spelling_sound, Hit, hit_at, spelt, says, spelling_is}
use Rattle.theorems.proofs.Formats.{Leads, long_enough, field_longer, spelled_sound, SpelledHit, spelled_complete}

module _ (s : Octets) where
  -- entry n of a table, both ways
  entry_sound : (v : Vocabulary Located) (t : StringTable) (n k : ℕ) → n ≡ suc k → n ≤ length (strings v t) → Entry (strings (plain_tables s v) t) k (octets_of s (get_or (strings v t) (n - 1) empty))
  entry_sound v t n k e h = let z : n - 1 ≡ k = omega arith in rw z (entry_map (octets_of s) v t (entry_at (strings v t) k empty (omega arith)))

  entry_complete : (v : Vocabulary Located) (t : StringTable) (k : ℕ) (x : Octets) → Entry (strings (plain_tables s v) t) k x
      → (suc k ≤ length (strings v t)) × (octets_of s (get_or (strings v t) (suc k - 1) empty) ≡ x)
  entry_complete v t k x en =
      let l = length-strings (octets_of s) v t in
      let h = entry_made en in
      let z : suc k - 1 ≡ k = omega arith in
      (omega arith, rw z (sym (entry_is [] (entry_map (octets_of s) v t (entry_at (strings v t) k empty (omega arith)))) ∙ entry_is [] en))

-- C.14 and C.15: where their fields stand in the first octet
pub record Fits (q : Layout) : Type 0 where
  pub apart : q.add_bit ≡ 4 * 2 ^ (9 - q.length_bit)
  pub above : q.numbered_bits ≡ q.spelled_bits + 2 * q.add_bit
  pub under : q.numbered_bits + rooms q.number_forms ≤ 0xF0
  pub numbers_fit : rooms q.number_forms ≤ 2 ^ (9 - number_bit q)
  pub num : (o : ℕ) → q.numbered_bits ≤ o → o < q.numbered_bits + 2 ^ (9 - number_bit q) → o ≡ q.numbered_bits + o % 2 ^ (9 - number_bit q)

pub record Shape (q : Layout) : Type 0 where
  pub leads : (a : Bool) → Leads q.length_bit (q.spelled_bits + q.add_bit * bit a)
  pub numbered_lead : ℕ
  pub numbered_is : q.numbered_bits ≡ numbered_lead * 2 ^ (9 - number_bit q)
  pub numbers_ok : Ordered q.number_forms
  pub fits : Fits q

pub shape14 : Shape c14
unfolding c14 rooms_in share_of behind_first c25
shape14 =
    record {
      leads = λ a. record { from = omega arith; to = omega arith; lead = bit a; base_is = omega arith };
      numbered_lead = 1;
      numbered_is = refl;
      numbers_ok = c25_ordered;
      fits = omega arith;
    }

pub shape15 : Shape c15
unfolding c15 rooms_in share_of behind_first numbers
shape15 =
    record {
      leads = λ a. record { from = omega arith; to = omega arith; lead = 8 + bit a; base_is = omega arith };
      numbered_lead = 5;
      numbered_is = refl;
      numbers_ok = numbers_ordered 4 (omega arith) (omega arith);
      fits = omega arith;
    }

-- ---- what is read is what the rules write
module _ (ver : Version) (s : Octets) (bytes : (i : ℕ) → get_or s i 0 < 256) (short : length s ≤ longest) where
  abbrev pub IdR : StringTable → Vocabulary Octets → IdRead → Octets → Vocabulary Octets → Type 0
  IdR t v b o w = Identifying ver t v (octets_of s b.string) b.how b.number o w

  pub id_sound : (t : StringTable) (k : ℕ) (v : Vocabulary Located) → k ≤ length s → Ok s (IdR t) k v (id_at ver s t k v)
  unfolding id_at octets_of
  id_sound t k v kl =
      let P : Got IdRead → Type 0 = Ok s (IdR t) k v in
      let small = bytes k in
      let len = length-strings (octets_of s) v t in
      either_lt P (get_or s k 0) 0x80 _ _
      (λ h1. on_number s P (λ c p f. f) (lengths 2) no_top 0 k (field_at (lengths 2) no_top 2 s k)
      (num_sound s bytes (lengths 2) (lengths_ordered 2 (omega arith) (omega arith)) no_top 2 0 k kl (omega arith)) _
      λ n next r. spelling_sound s short P (λ c p f. f) Utf8 (lengths 2) 0 k k n next kl r _
      λ st. test_not P (refused 11 k) (fault s 11 k refl kl) (holds (map (octets_of s) (strings v t)) (octets_of s (stretch Utf8 next n))) _
      λ t1. test_lt P (refused 12 k) (fault s 12 k refl kl) (length (strings v t)) ver.entries _
      λ t2. record {
        octets = with_length (lengths 2) 0 (octets_of s (stretch Utf8 next n));
        rule = rw (adding-map (octets_of s) v t (stretch Utf8 next n), ← len) (id_spelled st.spelling ((new_string (strings (plain_tables s v) t) (octets_of s (stretch Utf8 next n))).0 (rw (strings-map (octets_of s) v t) t1)) (omega arith));
        here = st.here;
        next_is = st.next_is;
        inside = st.inside;
      })
      (λ h1. on_number s P (λ c p f. f) c25 top 0x80 k (field_at c25 top 2 s k)
      (num_sound s bytes c25 c25_ordered top 2 0x80 k kl (omega arith)) _
      λ n next r. test_le P (refused 10 k) (fault s 10 k refl kl) n (length (strings v t)) _
      λ t1.
      let i = r.is in
      record {
        octets = spell c25 0x80 n;
        rule = subst (λ (m : ℕ). Identifying ver t (plain_tables s v) (octets_of s (get_or (strings v t) (n - 1) empty)) (numbered m) m (spell c25 0x80 m) (plain_tables s v)) (sym i)
            (id_numbered (omega arith) (entry_sound s v t n r.v i t1));
        here = r.here;
        next_is = r.next_is;
        inside = r.inside;
      })

  -- `there` is the presence bit
  abbrev pub OptionalR : Bool → StringTable → Vocabulary Octets → OptionalRead → Octets → Vocabulary Octets → Type 0
  OptionalR there t v b o w = Optional ver t v (Option.map (octets_of s) b.string) b.how b.number o w × (has (Option.map (octets_of s) b.string) ≡ bit there)

  pub optional_sound : (there : Bool) (t : StringTable) (k : ℕ) (v : Vocabulary Located) → k ≤ length s → Ok s (OptionalR there t) k v (optional_at ver there s t k v)
  unfolding optional_at
  optional_sound true t k v kl =
      on_field s (Ok s (OptionalR true t) k v) (λ c p f. f) (IdR t) k v (id_at ver s t k v) (id_sound t k v kl) _
      λ b next w r. record { octets = r.octets; rule = (present r.rule, refl); here = r.here; next_is = r.next_is; inside = r.inside }
  optional_sound false t k v kl = record { octets = []; rule = (absent, refl); here = refl; next_is = omega arith; inside = kl }

  abbrev pub LiteralR : Layout → StringTable → Vocabulary Octets → StringRead → Octets → Vocabulary Octets → Type 0
  LiteralR q t v b o w = Literal ver q t v (octets_of s b.string) b.how o w

  spelled_ok : (q : Layout) → Shape q → (t : StringTable) (k : ℕ) (added : Bool) (v : Vocabulary Located) → k ≤ length s → q.spelled_bits + q.add_bit * bit added ≤ get_or s k 0
      → get_or s k 0 < q.spelled_bits + q.add_bit * bit added + 4 * 2 ^ (9 - q.length_bit) → Ok s (LiteralR q t) k v (spelled_at ver q.length_bit s t k added v)
  spelled_ok q g t k added v kl lo hi =
      let base : ℕ = q.spelled_bits + q.add_bit * bit added in
      let len = length-strings (octets_of s) v t in
      spelled_sound ver s t k added v bytes short kl (Ok s (LiteralR q t) k v) (λ c p f. f) q.length_bit base (g.leads added) lo hi
      λ form n place st room. record {
        octets = in_format q.length_bit form base (take n (drop place s));
        rule = rw (keeping-map (octets_of s) added v t (stretch form place n)) (literal_spelled st.spelling (λ y. let r = room y in omega arith));
        here = st.here;
        next_is = st.next_is;
        inside = st.inside;
      }

  pub literal_sound : (q : Layout) → Shape q → (t : StringTable) (k : ℕ) (v : Vocabulary Located) → k ≤ length s → q.spelled_bits ≤ get_or s k 0 → get_or s k 0 < q.numbered_bits + 2 ^ (9 - number_bit q)
      → Ok s (LiteralR q t) k v (literal_at ver q s t k v)
  unfolding literal_at
  literal_sound q g t k v kl lo hi =
      let P : Got StringRead → Type 0 = Ok s (LiteralR q t) k v in
      let o : ℕ = get_or s k 0 in
      let f = g.fits in
      either_lt P o (q.spelled_bits + q.add_bit) _ _ (λ h. spelled_ok q g t k false v kl (omega arith) (omega arith))
      λ h1. either_lt P o q.numbered_bits _ _ (λ h. spelled_ok q g t k true v kl (omega arith) (omega arith))
      λ h4. on_number s P (λ c p f. f) q.number_forms top q.numbered_bits k (field_at q.number_forms top (number_bit q) s k)
      (num_sound s bytes q.number_forms g.numbers_ok top (number_bit q) q.numbered_bits k kl (g.fits.num o h4 hi)) _
      λ n next r. test_le P (refused 10 k) (fault s 10 k refl kl) n (length (strings v t)) _
      λ t1.
      let i = r.is in
      record {
        octets = spell q.number_forms q.numbered_bits n;
        rule = subst (λ (m : ℕ). Literal ver q t (plain_tables s v) (octets_of s (get_or (strings v t) (n - 1) empty)) (numbered m) (spell q.number_forms q.numbered_bits m) (plain_tables s v)) (sym i)
            (literal_numbered (omega arith) r.small (entry_sound s v t n r.v i t1));
        here = r.here;
        next_is = r.next_is;
        inside = r.inside;
      }

  abbrev pub ValueR : StringTable → Vocabulary Octets → StringRead → Octets → Vocabulary Octets → Type 0
  ValueR t v b o w = Value ver t v (octets_of s b.string) b.how o w

  as_value : (t : StringTable) (k : ℕ) (v : Vocabulary Located) (a : Got StringRead) → Ok s (LiteralR c14 t) k v a → Ok s (ValueR t) k v a
  as_value t k v (got b next w) r = record { octets = r.octets; rule = value r.rule; here = r.here; next_is = r.next_is; inside = r.inside }
  as_value t k v (refused c p) r = r

  -- an octet that is not 0 is there
  pub inside : (k x : ℕ) → get_or s k 0 ≡ x → 0 < x → k < length s
  inside k x e h = case k (length s) (λ l. l) (λ l. absurd (let q = get_or-eq_default s 0 l in omega arith))

  pub value_sound : (t : StringTable) (k : ℕ) (v : Vocabulary Located) → k ≤ length s → Ok s (ValueR t) k v (value_at ver s t k v)
  unfolding value_at octets_of c14
  value_sound t k v kl =
      let small = bytes k in
      either_eq (Ok s (ValueR t) k v) (get_or s k 0) 0xFF _ _
      (λ e. record { octets = 0xFF ∷ []; rule = value_empty; here = drop-cons s k 0 (inside k 0xFF e (omega arith)) ∙ ap (λ (x : ℕ). x ∷ drop (suc k) s) e; next_is = omega arith; inside = inside k 0xFF e (omega arith) })
      (λ e. as_value t k v (literal_at ver c14 s t k v) (literal_sound c14 shape14 t k v kl (omega arith) (omega arith)))

-- ---- what the rules write is read
abbrev pub there : {E : Type 0} → Option E → Bool
there none = false
there (some x) = true

module _ (ver : Version) (s : Octets) where
  -- p is where it is spelled
  abbrev pub IdQ : Octets → How → ℕ → List Located → IdRead → Type 0
  IdQ x h n p b = (octets_of s b.string ≡ x) × (b.how ≡ h) × (b.number ≡ n) × (if_spelled b.string b.how ≡ p)

  pub id_complete : (t : StringTable) (k : ℕ) (v : Vocabulary Located) {x : Octets} {h : How} {n : ℕ} {o : Octets} {w : Vocabulary Octets} (rest : Octets)
      → Identifying ver t (plain_tables s v) x h n o w → drop k s ≡ o ++ rest → Hit s (IdQ x h n (in_field k h x o)) (k + length o) w (id_at ver s t k v)
  unfolding id_at rooms_in share_of behind_first sizes lengths c25
  id_complete t k v rest (id_spelled {x = x} sp new room) d =
      let e = spelt s (lengths 2) 2 0 0 k x rest (lengths_ordered 2 (omega arith) (omega arith)) (omega arith) (long_enough 2) refl sp d in
      let is = says s Utf8 e.next x x e.octets_are sp.formed in
      let len = length-strings (octets_of s) v t in
      let fresh : holds (map (octets_of s) (strings v t)) x ≡ false = rw (strings-map (octets_of s) v t) at ((new_string (strings (plain_tables s v) t) x).1 new) in
      hit_at s (IdQ x (spelled Utf8 true) (suc (length (strings (plain_tables s v) t))) _) (e.next + length x) _ _ _ e.end_is
      (rw (lt-ltb (get_or s k 0) 0x80 (omega arith), e.num, spelling_is s Utf8 e.next x x e.octets_are sp.formed k _ e.room, is, fresh, lt-ltb (length (strings v t)) ver.entries (omega arith))
      (record {
        b = record { string = stretch Utf8 e.next (length x); how = spelled Utf8 true; number = suc (length (strings v t)) };
        v = adding v t (stretch Utf8 e.next (length x));
        goes = refl;
        state = adding-map (octets_of s) v t (stretch Utf8 e.next (length x)) ∙ ap (λ (y : Octets). adding (plain_tables s v) t y) (is);
        what = (is, refl, ap suc (sym len), ap (λ (p : ℕ). stretch Utf8 p (length x) ∷ []) (omega arith));
      }))
  id_complete t k v rest (id_numbered {x = x} {k = j} small en) d =
      let o = num_first s c25 0x80 (suc j) k rest c25_ordered (omega arith) (omega arith) d in
      let lo = o.0 in
      let n = num_complete s c25 top 2 1 0x80 (suc j) k rest c25_ordered (omega arith) (omega arith) (omega arith) (omega arith) refl d in
      let y = entry_complete s v t j x en in
      rw (le-ltb (get_or s k 0) 0x80 lo, n, le-leb (suc j) (length (strings v t)) y.0)
      (record { b = record { string = get_or (strings v t) (suc j - 1) empty; how = numbered (suc j); number = suc j }; v = v; goes = refl; state = refl; what = (y.1, refl, refl, refl) })

  abbrev pub OptionalQ : Option Octets → Option How → ℕ → List Located → OptionalRead → Type 0
  OptionalQ x h n p b = (Option.map (octets_of s) b.string ≡ x) × (b.how ≡ h) × (b.number ≡ n) × (option_spelled b.string b.how ≡ p)

  pub optional_complete : (t : StringTable) (k : ℕ) (v : Vocabulary Located) {x : Option Octets} {h : Option How} {n : ℕ} {o : Octets} {w : Vocabulary Octets} (rest : Octets)
      → Optional ver t (plain_tables s v) x h n o w → drop k s ≡ o ++ rest → Hit s (OptionalQ x h n (in_option k h x o)) (k + length o) w (optional_at ver (there x) s t k v)
  unfolding optional_at
  optional_complete t k v rest absent d =
      hit_at s (OptionalQ none none 0 []) k (k + 0) _ _ (omega arith) (record { b = record { string = none; how = none; number = 0 }; v = v; goes = refl; state = refl; what = (refl, refl, refl, refl) })
  optional_complete t k v {o = o} rest (present {x = x} {h = hw} {n = n} u) d =
      let i = id_complete t k v rest u d in
      rw i.goes
      (record {
        b = record { string = some i.b.string; how = some i.b.how; number = i.b.number };
        v = i.v;
        goes = refl;
        state = i.state;
        what = (ap (λ (y : Octets). some y) i.what.0, ap (λ (y : How). some y) i.what.1, i.what.2, i.what.3);
      })

  abbrev pub StringQ : Octets → How → List Located → StringRead → Type 0
  StringQ x h p b = (octets_of s b.string ≡ x) × (b.how ≡ h) × (if_spelled b.string b.how ≡ p)

  pub record LiteralHit (q : Layout) (t : StringTable) (k : ℕ) (v : Vocabulary Located) {x : Octets} {h : How} {o : Octets} {w : Vocabulary Octets} (u : Literal ver q t (plain_tables s v) x h o w) : Type 0 where
    pub hit : Hit s (StringQ x h (in_literal k u)) (k + length o) w (literal_at ver q s t k v)
    pub low : q.spelled_bits ≤ get_or s k 0
    pub last : get_or s k 0 < q.numbered_bits + rooms q.number_forms
    pub some : 0 < length o
    pub here : k < length s

  abbrev spelled_by : (q : Layout) (t : StringTable) (v : Vocabulary Located) {x y : Octets} {form : StringForm} (added : Bool) → Spelling form x y
      → (added ≡ true → length (strings (plain_tables s v) t) < ver.entries)
      → Literal ver q t (plain_tables s v) x (spelled form added) (in_format q.length_bit form (q.spelled_bits + q.add_bit * bit added) y) (keeping added (plain_tables s v) t x)
  spelled_by q t v added sp room = literal_spelled sp room

  spelled_hit : (q : Layout) → Shape q → (t : StringTable) (k : ℕ) (v : Vocabulary Located) {x y : Octets} {form : StringForm} (added : Bool) (sp : Spelling form x y)
      (room : added ≡ true → length (strings (plain_tables s v) t) < ver.entries) (rest : Octets) → drop k s ≡ in_format q.length_bit form (q.spelled_bits + q.add_bit * bit added) y ++ rest
      → Hit s (StringQ x (spelled form added) (in_literal k (spelled_by q t v added sp room))) (k + length (in_format q.length_bit form (q.spelled_bits + q.add_bit * bit added) y))
      (keeping added (plain_tables s v) t x) (spelled_at ver q.length_bit s t k added v)
      × SpelledHit ver s t k added v q.length_bit (q.spelled_bits + q.add_bit * bit added) form x y
  spelled_hit q g t k v {x = x} {y = y} {form = form} added sp room rest d =
      let len = length-strings (octets_of s) v t in
      let base : ℕ = q.spelled_bits + q.add_bit * bit added in
      let e = spelled_complete ver s t k added v (λ i. let r = room i in omega arith) q.length_bit base (g.leads added) {x = x} y rest form sp d in
      let z : Located = stretch form e.place (length y) in (
        hit_at s (StringQ x (spelled form added) _) (e.place + length y) _ _ _ e.end_is
            (record {
              b = record { string = z; how = spelled form added };
              v = keeping added v t z;
              goes = e.goes;
              state = keeping-map (octets_of s) added v t z ∙ ap (λ (y : Octets). keeping added (plain_tables s v) t y) e.saying;
              what = (e.saying, refl, ap (λ (p : ℕ). stretch form p (length y) ∷ []) (let i = e.end_is in omega arith));
            }),
        e,
      )

  pub literal_complete : (q : Layout) → Shape q → (t : StringTable) (k : ℕ) (v : Vocabulary Located) {x : Octets} {h : How} {o : Octets} {w : Vocabulary Octets} (rest : Octets)
      (u : Literal ver q t (plain_tables s v) x h o w) → drop k s ≡ o ++ rest → LiteralHit q t k v u
  unfolding literal_at
  literal_complete q g t k v rest (literal_spelled {y = y} {form = form} {added = false} sp room) d =
      let f = g.fits in
      let c = spelled_hit q g t k v false sp room rest d in
      let p = sp.some in
      let l = field_longer q.length_bit form (q.spelled_bits + q.add_bit * 0) y in
      record { hit = rw (lt-ltb (get_or s k 0) (q.spelled_bits + q.add_bit) (omega arith)) c.0; low = omega arith; last = omega arith; some = omega arith; here = c.1.here }
  literal_complete q g t k v rest (literal_spelled {y = y} {form = form} {added = true} sp room) d =
      let f = g.fits in
      let c = spelled_hit q g t k v true sp room rest d in
      let p = sp.some in
      let l = field_longer q.length_bit form (q.spelled_bits + q.add_bit * 1) y in
      record {
        hit = rw (le-ltb (get_or s k 0) (q.spelled_bits + q.add_bit) (omega arith), lt-ltb (get_or s k 0) q.numbered_bits (omega arith)) c.0;
        low = omega arith;
        last = omega arith;
        some = omega arith;
        here = c.1.here;
      }
  literal_complete q g t k v rest (literal_numbered {x = x} {k = j} small fits en) d =
      let f = g.fits in
      let o = num_first s q.number_forms q.numbered_bits (suc j) k rest g.numbers_ok (omega arith) fits d in
      let lo = o.0 in
      let n = num_complete s q.number_forms top (number_bit q) g.numbered_lead q.numbered_bits (suc j) k rest g.numbers_ok g.fits.numbers_fit (omega arith) fits (omega arith) g.numbered_is d in
      let y = entry_complete s v t j x en in
      record {
        hit = rw (le-ltb (get_or s k 0) (q.spelled_bits + q.add_bit) (omega arith), le-ltb (get_or s k 0) q.numbered_bits lo, n, le-leb (suc j) (length (strings v t)) y.0)
            (record { b = record { string = get_or (strings v t) (suc j - 1) empty; how = numbered (suc j) }; v = v; goes = refl; state = refl; what = (y.1, refl, refl) });
        low = omega arith;
        last = omega arith;
        some = some_first q.number_forms q.numbered_bits (suc j) g.numbers_ok (omega arith) fits;
        here = o.2;
      }

  value_from_lem : (t : StringTable) (k : ℕ) (v : Vocabulary Located) {x : Octets} {h : How} {o : Octets} {w : Vocabulary Octets} (rest : Octets)
      (u : Value ver t (plain_tables s v) x h o w) → drop k s ≡ o ++ rest → Hit s (StringQ x h (in_value k u)) (k + length o) w (value_at ver s t k v)
  unfolding value_at octets_of
  value_from_lem t k v rest value_empty d =
      let a = drop_head s k 0xFF rest d in
      hit_at s (StringQ [] (numbered 0) []) (suc k) (k + 1) _ _ (omega arith)
      (rw (eq-eqb (get_or s k 0) 0xFF a.1) (record { b = record { string = empty; how = numbered 0 }; v = v; goes = refl; state = refl; what = (refl, refl, refl) }))
  value_from_lem t k v rest (value u) d =
      let c = literal_complete c14 shape14 t k v rest u d in
      let f = shape14.fits in
      rw (ne_eqb (get_or s k 0) 0xFF (omega arith)) c.hit

  -- z are the tables then, which another field may have left
  pub value_complete : (t : StringTable) (k : ℕ) (v : Vocabulary Located) {x : Octets} {h : How} {o : Octets} {w z : Vocabulary Octets} (rest : Octets) → plain_tables s v ≡ z → (u : Value ver t z x h o w)
      → drop k s ≡ o ++ rest → Hit s (StringQ x h (in_value k u)) (k + length o) w (value_at ver s t k v)
  value_complete t k v {x = x} {h = h} {o = o} {w = w} rest e =
      subst (λ (z : Vocabulary Octets). (u : Value ver t z x h o w) → drop k s ≡ o ++ rest → Hit s (StringQ x h (in_value k u)) (k + length o) w (value_at ver s t k v)) e
      (λ u d. value_from_lem t k v rest u d)
