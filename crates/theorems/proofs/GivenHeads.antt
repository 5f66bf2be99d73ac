-- The tables that are given for a head: the writer's one judgement of them is the requirements' five tests in their order, and the octets that it puts before the body are those that the rules write.
use Prim.Native.Nat.{ℕ, zero, suc, ◌≤◌, ◌<◌, min}
use mathlib.Core.Path.{◌≡◌, refl, sym, ap, ◌∙◌, subst}
use mathlib.Core.Logic.{◌↔◌}
use mathlib.Core.Bool.{Bool, true, false, not, ◌||◌}
use mathlib.Core.List.{List, [], ◌∷◌, ◌++◌, map}
use native.Mathlib.Omega.{arith}
use borrow.Author.Tests.{leb-true, leb-false, le-leb, lt-leb}
use lib.Dec.{ltb, leb}
use lib.ListN.{length, length-map}
use Rattle.format.specs.Octets.{Octets}
use Rattle.format.specs.Numbers.{pick}
use Rattle.format.specs.Refusals.{TEXT, REPEAT, FULL, ROOM, EVENT}
use Rattle.format.specs.Characters.{IsText}
use Rattle.format.specs.Tables.{StringTable, PREFIX, NAMESPACE_NAME, LOCAL_NAME, OTHER_NCNAME, OTHER_URI, ATTRIBUTE_VALUE, CONTENT_CHARACTER_CHUNK, OTHER_STRING}
use Rattle.format.specs.Tables.{NameTable, ELEMENT_NAME, ATTRIBUTE_NAME, Triple, Vocabulary, strings, names, no_entries, vocabulary_map, followed_by, Version}
use Rattle.format.specs.Strings.{Spelling}
use Rattle.format.specs.Forms.{form_number, numeric, dates}
use Rattle.format.specs.declared.StringForm.{StringForm}
use Rattle.format.specs.declared.StringForm.TheVariants.{Utf8, Utf16, Numeric, Dates, Short, Int, Long}
use Rattle.format.specs.Head.{Listed, Head, plain_head, is_identifying, c19, started, Opens}
use Rattle.format.specs.Allowed.{All}
use Rattle.fields.specs.Utf8.{is_text}
use Rattle.fields.proofs.Characters.{text_exact}
use Rattle.decimal.specs.Words.{shape}
use Rattle.forms.specs.Packing.{all_letters, alphabet_for, integers_for, in_form}
use Rattle.tables.specs.Located.{Located, octets_of, plain_tables, start}
use Rattle.tables.proofs.Found.{clash, both_true}
use Rattle.tables.proofs.ByNumber.{by_table_lem}
use Rattle.events.specs.declared.EventString.{EventString}
use Rattle.events.specs.Records.{located_of}
use Rattle.events.specs.WellMade.{IsString}
use Rattle.write_names.specs.Choices.{field_in, shorter, form_for}
use Rattle.write_head.specs.Given.{Given}
use Rattle.write_head.specs.Head.{is_none, in_strings, every, distinct, distinct_names, is_triple, is_entry, listing, head_for, listed_of, tables_of, well_given, text_given, new_given, few_given, head_octets, fault_of_head}
use Rattle.theorems.specs.Bounded.{Bounded}
use Rattle.theorems.specs.Heads.{headed, CanBeListed, Distinct, NamesParts, HeadAllowed}
use Rattle.theorems.specs.Verdicts.{head_of, AreEntries, AreTexts, AreNew, AreFew, HeadFits, HeadOverflows, HeadRight, HeadFault, not_entries, not_texts, not_new, not_few, not_room}
use Rattle.theorems.proofs.Alls.{all_so, all_map}
use Rattle.theorems.proofs.Words.{map_append, strings-map, names-map}
use Rattle.theorems.proofs.Opening.{plain-start}
use Rattle.theorems.proofs.HeadEntries.{says}
use Rattle.theorems.proofs.HeadKeeps.{distinct_exact}
use Rattle.theorems.proofs.Heads.{every_head, head_allowed}
use Rattle.theorems.proofs.HeadOctets.{NoUtf16, opens-octets}
use Rattle.theorems.proofs.Forms.{spelling-said, chosen_spelling}
use Rattle.theorems.proofs.Sayable.{both, short_one, string_said}
use Rattle.theorems.proofs.GivenTests.{every_all, all_every, in_strings_lem, in_names_lem, entries_exact, distinct-strings, distinct_triples, triple_exact, triple-map, none_is, is_none_lem, none_map, untrue}

-- ---- the tables then
pub followed_map : {S T : Type 0} (f : S → T) (v h : Vocabulary S) → vocabulary_map f (followed_by v h) ≡ followed_by (vocabulary_map f v) (vocabulary_map f h)
unfolding vocabulary_map followed_by
followed_map f v h =
    λ i. record {
      prefixes = map_append f v.prefixes h.prefixes i;
      namespaces = map_append f v.namespaces h.namespaces i;
      locals = map_append f v.locals h.locals i;
      ncnames = map_append f v.ncnames h.ncnames i;
      uris = map_append f v.uris h.uris i;
      values = map_append f v.values h.values i;
      chunks = map_append f v.chunks h.chunks i;
      others = map_append f v.others h.others i;
      elements = v.elements ++ h.elements;
      attributes = v.attributes ++ h.attributes;
    }

map_none : {S T : Type 0} (f : S → T) → vocabulary_map f no_entries ≡ no_entries
unfolding vocabulary_map no_entries
map_none f = refl

-- ---- the head that the writer makes of tables: it says what they say, in forms that are never utf-16
says_listing : (t : StringTable) (l : List Octets) → map says (map (listing t) l) ≡ l
unfolding listing
says_listing t [] = refl
says_listing t (x ∷ l) = ap (λ (m : List Octets). x ∷ m) (says_listing t l)

plain_for : (v : Vocabulary Octets) → plain_head (head_for v) ≡ v
unfolding vocabulary_map head_for
plain_for v =
    λ i. record {
      prefixes = says_listing PREFIX v.prefixes i;
      namespaces = says_listing NAMESPACE_NAME v.namespaces i;
      locals = says_listing LOCAL_NAME v.locals i;
      ncnames = says_listing OTHER_NCNAME v.ncnames i;
      uris = says_listing OTHER_URI v.uris i;
      values = says_listing ATTRIBUTE_VALUE v.values i;
      chunks = says_listing CONTENT_CHARACTER_CHUNK v.chunks i;
      others = says_listing OTHER_STRING v.others i;
      elements = v.elements;
      attributes = v.attributes;
    }

strings_for : (v : Vocabulary Octets) (t : StringTable) → strings (head_for v) t ≡ map (listing t) (strings v t)
unfolding strings head_for
strings_for v = by_table_lem _ refl refl refl refl refl refl refl refl

names_for : (v : Vocabulary Octets) (t : NameTable) → names (head_for v) t ≡ names v t
unfolding names head_for
names_for v ELEMENT_NAME = refl
names_for v ATTRIBUTE_NAME = refl

for_none : head_for no_entries ≡ no_entries
unfolding head_for no_entries
for_none = refl

either_form : (b : Bool) (f g : StringForm) → (f ≡ Utf16 → ⊥) → (g ≡ Utf16 → ⊥) → pick b f g ≡ Utf16 → ⊥
either_form true f g n m = n
either_form false f g n m = m

other_number : {f : StringForm} → (form_number f ≡ 1 → ⊥) → f ≡ Utf16 → ⊥
other_number n e = n (ap form_number e)

not_utf16 : (t : StringTable) (x : Octets) → (listing t x).form ≡ Utf16 → ⊥
unfolding listing form_for shorter alphabet_for integers_for
not_utf16 t x =
    let bit : ℕ = c19.length_bit in
    let utf8 : Utf8 ≡ Utf16 → ⊥ = other_number (λ e. omega arith) in
    let letters = either_form (all_letters numeric x) Numeric (pick (all_letters dates x) Dates Utf8) (other_number (λ e. omega arith)) (either_form (all_letters dates x) Dates Utf8 (other_number (λ e. omega arith)) utf8) in
    let integers =
    either_form (shape 2 x) Short (pick (shape 4 x) Int (pick (shape 8 x) Long Utf8)) (other_number (λ e. omega arith))
    (either_form (shape 4 x) Int (pick (shape 8 x) Long Utf8) (other_number (λ e. omega arith)) (either_form (shape 8 x) Long Utf8 (other_number (λ e. omega arith)) utf8)) in
    let chosen = either_form (ltb (length (field_in bit (alphabet_for x) 0 x)) (length (field_in bit Utf8 0 x))) (alphabet_for x) Utf8 letters utf8 in
    either_form (is_identifying t) Utf8 (form_for bit x) utf8
    (either_form (ltb (length (field_in bit (integers_for x) 0 x)) (length (field_in bit (shorter bit Utf8 (alphabet_for x) x) 0 x))) (integers_for x) (shorter bit Utf8 (alphabet_for x) x) integers chosen)

no_utf16 : (v : Vocabulary Octets) → NoUtf16 (head_for v)
no_utf16 v t = rw (strings_for v t) (from (strings v t))
  where
    from : (l : List Octets) → All (λ (x : Listed). x.form ≡ Utf16 → ⊥) (map (listing t) l)
    from [] = tt
    from (x ∷ l) = (not_utf16 t x, from l)

-- its strings can be listed if they can be spelled in utf-8
can_list : (t : StringTable) (x : Octets) → Spelling Utf8 x x → CanBeListed t (listing t x)
unfolding listing
can_list t x sp = from (is_identifying t) refl
  where
    from : (b : Bool) → is_identifying t ≡ b → CanBeListed t (record { says = x; form = pick b Utf8 (form_for c19.length_bit x) })
    from true i = record { octets = x; spelled = sp; plain = λ e. refl }
    from false i = record { octets = in_form (form_for c19.length_bit x) x; spelled = chosen_spelling c19.length_bit x sp; plain = λ e. clash (sym i ∙ e) }

module _ (ver : Version) (text : Octets) (g : Given) where
  -- what the given entries say
  abbrev plain : Vocabulary Octets
  plain = plain_tables text (listed_of g)

  abbrev h : Head
  h = head_of ver text g

  pub tables-headed : plain_tables text (tables_of ver g) ≡ headed ver h
  tables-headed =
      followed_map (octets_of text) (start ver) (listed_of g) ∙ ap (λ (v : Vocabulary Octets). followed_by v plain) (plain-start ver text)
      ∙ ap (λ (v : Vocabulary Octets). followed_by (started ver) v) (sym (plain_for plain))

  strings-headed : (t : StringTable) → map (octets_of text) (strings (tables_of ver g) t) ≡ strings (headed ver h) t
  strings-headed t = sym (strings-map (octets_of text) (tables_of ver g) t) ∙ ap (λ (v : Vocabulary Octets). strings v t) tables-headed

  names-headed : (t : NameTable) → names (tables_of ver g) t ≡ names (headed ver h) t
  names-headed t = sym (names-map (octets_of text) (tables_of ver g) t) ∙ ap (λ (v : Vocabulary Octets). names v t) tables-headed

  names-given : (t : NameTable) → names h t ≡ names g t
  names-given t = names_for plain t ∙ names-map (octets_of text) (listed_of g) t ∙ names-map located_of g t

  strings-given : (t : StringTable) → strings plain t ≡ map (octets_of text) (map located_of (strings g t))
  strings-given t = strings-map (octets_of text) (listed_of g) t ∙ ap (map (octets_of text)) (strings-map located_of g t)

  -- ---- no entry
  pub none_given : is_none g ≡ true → h ≡ no_entries
  none_given e =
      ap (λ (v : Given). head_for (plain_tables text (vocabulary_map located_of v))) (none_is g e) ∙ ap (λ (v : Vocabulary Located). head_for (plain_tables text v)) (map_none located_of)
      ∙ ap head_for (map_none (octets_of text)) ∙ for_none

  pub given_none : h ≡ no_entries → is_none g ≡ true
  given_none e =
      sym (none_map located_of g) ∙ sym (none_map (octets_of text) (listed_of g)) ∙ ap is_none (sym (plain_for plain)) ∙ none_map says h ∙ ap is_none e ∙ is_none_lem Listed

  -- ---- EVENT
  triples_are : (x : Triple) → (is_triple (tables_of ver g) x ≡ true) ↔ NamesParts (headed ver h) x
  triples_are x =
      subst (λ (b : Bool). (b ≡ true) ↔ NamesParts (headed ver h) x) (ap (λ (v : Vocabulary Octets). is_triple v x) (sym tables-headed) ∙ triple-map (octets_of text) (tables_of ver g) x) (triple_exact (headed ver h) x)

  entries_from : well_given ver text g ≡ true → AreEntries ver text g
  unfolding well_given
  entries_from e =
      let a = both_true (ver.heads || is_none g) _ e in
      let b = both_true (in_strings (λ t. every (is_entry t text) (strings g t))) _ a.1 in
      let each = (in_strings_lem (λ t. every (is_entry t text) (strings g t))).0 b.0 in
      record {
        strings_are_lem = λ t. ((entries_exact t text (strings g t)).0 (each t)).0;
        in_utf8 = λ t. ((entries_exact t text (strings g t)).0 (each t)).1;
        names_are_lem = λ t. every_all (is_triple (tables_of ver g)) (NamesParts (headed ver h)) (λ x. (triples_are x).0) (names g t) ((in_names_lem (λ t. every (is_triple (tables_of ver g)) (names g t))).0 b.1 t);
        none_given = λ nay. none_given (without ver.heads refl nay a.0);
      }
    where
      without : (b : Bool) → ver.heads ≡ b → (ver.heads ≡ true → ⊥) → (b || is_none g) ≡ true → is_none g ≡ true
      without true q nay e = absurd (nay q)
      without false q nay e = e

  from_entries : AreEntries ver text g → well_given ver text g ≡ true
  unfolding well_given
  from_entries a =
      both (with_heads ver.heads refl)
      (both ((in_strings_lem (λ t. every (is_entry t text) (strings g t))).1 (λ t. (entries_exact t text (strings g t)).1 (a.strings_are_lem t, a.in_utf8 t)))
      ((in_names_lem (λ t. every (is_triple (tables_of ver g)) (names g t))).1 (λ t. all_every (is_triple (tables_of ver g)) (NamesParts (headed ver h)) (λ x. (triples_are x).1) (names g t) (a.names_are_lem t))))
    where
      with_heads : (b : Bool) → ver.heads ≡ b → (b || is_none g) ≡ true
      with_heads true q = refl
      with_heads false q = given_none (a.none_given (λ t. clash (sym q ∙ t)))

  -- ---- TEXT
  texts_from : text_given ver text g ≡ true → AreTexts ver text g
  unfolding text_given
  texts_from e t =
      rw (plain_for plain, strings-map (octets_of text) (listed_of g) t)
      ((all_map (octets_of text) IsText (strings (listed_of g) t)).0
      (every_all (λ x. is_text (octets_of text x)) (λ (x : Located). IsText (octets_of text x)) (λ x. (text_exact (octets_of text x)).0) (strings (listed_of g) t) ((in_strings_lem _).0 e t)))

  from_texts : AreTexts ver text g → text_given ver text g ≡ true
  unfolding text_given
  from_texts a =
      (in_strings_lem _).1 (λ t.
      all_every (λ x. is_text (octets_of text x)) (λ (x : Located). IsText (octets_of text x)) (λ x. (text_exact (octets_of text x)).1) (strings (listed_of g) t)
      ((all_map (octets_of text) IsText (strings (listed_of g) t)).1 (rw (plain_for plain, strings-map (octets_of text) (listed_of g) t) at (a t))))

  -- ---- REPEAT
  abbrev new_strings : StringTable → Bool
  new_strings t = not (is_identifying t) || distinct (map (octets_of text) (strings (tables_of ver g) t))

  news_from : new_given ver text g ≡ true → AreNew ver text g
  unfolding new_given
  news_from e =
      let a = both_true (in_strings new_strings) _ e in
      (distinct_exact (headed ver h)).1 (
        λ t i. subst Distinct (strings-headed t) ((distinct-strings _).0 (told t i ((in_strings_lem new_strings).0 a.0 t))),
        λ t. subst Distinct (names-headed t) ((distinct_triples _).0 ((in_names_lem (λ t. distinct_names (names (tables_of ver g) t))).0 a.1 t)),
      )
    where
      told : (t : StringTable) → is_identifying t ≡ true → new_strings t ≡ true → distinct (map (octets_of text) (strings (tables_of ver g) t)) ≡ true
      told t i e = rw i at e

  from_news : AreNew ver text g → new_given ver text g ≡ true
  unfolding new_given
  from_news a =
      both ((in_strings_lem new_strings).1 (λ t. by_kind t (is_identifying t) refl))
      ((in_names_lem (λ t. distinct_names (names (tables_of ver g) t))).1 (λ t. (distinct_triples _).1 (subst Distinct (sym (names-headed t)) (((distinct_exact (headed ver h)).0 a).1 t))))
    where
      by_kind : (t : StringTable) (b : Bool) → is_identifying t ≡ b → (not b || distinct (map (octets_of text) (strings (tables_of ver g) t))) ≡ true
      by_kind t true i = (distinct-strings _).1 (subst Distinct (sym (strings-headed t)) (((distinct_exact (headed ver h)).0 a).0 t i))
      by_kind t false i = refl

  -- ---- FULL
  length-headed : (t : StringTable) → length (strings (tables_of ver g) t) ≡ length (strings (headed ver h) t)
  length-headed t = sym (length-map (strings (tables_of ver g) t) (octets_of text)) ∙ ap length (strings-headed t)

  few_from : few_given ver text g ≡ true → AreFew ver text g
  unfolding few_given
  few_from e =
      let a = both_true (in_strings (λ t. leb (length (strings (tables_of ver g) t)) ver.entries)) _ e in
      record {
        few = λ t. subst (λ (n : ℕ). n ≤ ver.entries) (length-headed t) (leb-true _ _ ((in_strings_lem _).0 a.0 t));
        few_names = λ t. subst (λ (l : List Triple). length l ≤ ver.entries) (names-headed t) (leb-true _ _ ((in_names_lem _).0 a.1 t));
      }

  from_few : AreFew ver text g → few_given ver text g ≡ true
  unfolding few_given
  from_few a =
      both ((in_strings_lem _).1 (λ t. le-leb (length (strings (tables_of ver g) t)) ver.entries (let l = length-headed t in let k = a.few t in omega arith)))
      ((in_names_lem _).1 (λ t. le-leb (length (names (tables_of ver g) t)) ver.entries (let l = ap length (names-headed t) in let k = a.few_names t in omega arith)))

  -- ---- the octets before the body: what the rules write, the writer does
  pub given-octets : {o : Octets} {v : Vocabulary Octets} → Opens ver h o v → o ≡ head_octets ver text g
  unfolding head_octets
  given-octets op = opens-octets (no_utf16 plain) op

  -- ---- the head that the rules allow
  module _ (ok : Bounded ver) (short : length text ≤ ver.octets) where
    spelled_all : (t : StringTable) (l : List EventString) → All (IsString text) l → All IsText (map (octets_of text) (map located_of l))
        → All (CanBeListed t) (map (listing t) (map (octets_of text) (map located_of l)))
    spelled_all t [] a f = tt
    spelled_all t (x ∷ l) a f =
        let y : Octets = octets_of text (located_of x) in
        let b = ok.few_octets in
        let some = (string_said text a.0 f.0).0 in
        (can_list t y (record { some = some; fits = short_one text (omega arith) (located_of x); formed = (f.0, refl) }), spelled_all t l a.1 f.1)

    pub given_allowed : AreEntries ver text g → AreTexts ver text g → AreNew ver text g → AreFew ver text g → HeadAllowed ver h
    given_allowed a t n f =
        record {
          spelled = λ u. rw (strings_for plain u, strings-given u) (spelled_all u (strings g u) (a.strings_are_lem u) (rw (plain_for plain, strings-given u) at (t u)));
          named = λ u. rw (names-given u) (a.names_are_lem u);
          distinct = n;
          in_limits = f;
          version = a.none_given;
        }

    -- The rules write it as the octets of the writer's definition.
    pub given-opens : AreEntries ver text g → AreTexts ver text g → AreNew ver text g → AreFew ver text g → Opens ver h (head_octets ver text g) (headed ver h)
    given-opens a t n f = let w = every_head ok (given_allowed a t n f) in subst (λ (o : Octets). Opens ver h o (headed ver h)) (given-octets w.1) w.1

    -- ---- the judgement
    module _ (room : ℕ) where
      abbrev Verdict : ℕ → Type 0
      Verdict n = elim n [ zero ↦ HeadRight ver text g room | suc k ↦ HeadFault ver text g room (suc k) ]

      abbrev has_room : Bool
      has_room = is_none g || leb (length (head_octets ver text g)) (min room ver.octets)

      verdict_from : (b1 b2 b3 b4 b5 : Bool) → well_given ver text g ≡ b1 → text_given ver text g ≡ b2 → new_given ver text g ≡ b3 → few_given ver text g ≡ b4 → has_room ≡ b5
          → Verdict (pick b1 (pick b2 (pick b3 (pick b4 (pick b5 0 ROOM) FULL) REPEAT) TEXT) EVENT)
      verdict_from false b2 b3 b4 b5 e1 e2 e3 e4 e5 = not_entries (λ a. clash (sym e1 ∙ from_entries a))
      verdict_from true false b3 b4 b5 e1 e2 e3 e4 e5 = not_texts (entries_from e1) (λ t. clash (sym e2 ∙ from_texts t))
      verdict_from true true false b4 b5 e1 e2 e3 e4 e5 = not_new (entries_from e1) (texts_from e2) (λ n. clash (sym e3 ∙ from_news n))
      verdict_from true true true false b5 e1 e2 e3 e4 e5 = not_few (entries_from e1) (texts_from e2) (news_from e3) (λ f. clash (sym e4 ∙ from_few f))
      verdict_from true true true true b5 e1 e2 e3 e4 e5 = by_room b5 e5
        where
          a : AreEntries ver text g
          a = entries_from e1

          o : Opens ver h (head_octets ver text g) (headed ver h)
          o = given-opens a (texts_from e2) (news_from e3) (few_from e4)

          fitting : (b : Bool) → is_none g ≡ b → (b || leb (length (head_octets ver text g)) (min room ver.octets)) ≡ true → (h ≡ no_entries → ⊥) → length (head_octets ver text g) ≤ min room ver.octets
          fitting true q e some = absurd (some (none_given q))
          fitting false q e some = leb-true _ _ e

          passing : (b : Bool) → is_none g ≡ b → (b || leb (length (head_octets ver text g)) (min room ver.octets)) ≡ false → HeadOverflows ver text g room
          passing true q e = clash (sym e)
          passing false q e = record { before = head_octets ver text g; opens = o; over = leb-false _ _ e; entries = λ z. clash (sym q ∙ given_none z) }

          by_room : (b : Bool) → has_room ≡ b → Verdict (pick b 0 ROOM)
          by_room true e =
              record { are_entries = a; are_texts = texts_from e2; are_new = news_from e3; are_few = few_from e4; fits = record { before = head_octets ver text g; opens = o; fit = fitting (is_none g) refl e } }
          by_room false e = not_room a (texts_from e2) (news_from e3) (few_from e4) (passing (is_none g) refl e)

      verdict : Verdict (fault_of_head ver text g room)
      unfolding fault_of_head
      verdict = verdict_from (well_given ver text g) (text_given ver text g) (new_given ver text g) (few_given ver text g) has_room refl refl refl refl refl

      -- Where the writer finds no fault, the head is right; the fault that it finds is the first.
      pub right_is : fault_of_head ver text g room ≡ 0 → HeadRight ver text g room
      right_is e = subst Verdict e verdict

      pub fault_is : (n : ℕ) → fault_of_head ver text g room ≡ suc n → HeadFault ver text g room (suc n)
      fault_is n e = subst Verdict e verdict

  module _ (room : ℕ) where
    room_if : HeadFits ver text g room → (b : Bool) → is_none g ≡ b → (b || leb (length (head_octets ver text g)) (min room ver.octets)) ≡ true
    room_if f true q = refl
    room_if f false q = let l = ap length (given-octets f.opens) in let k = f.fit (λ z. clash (sym q ∙ given_none z)) in le-leb (length (head_octets ver text g)) (min room ver.octets) (omega arith)

    room_over : HeadOverflows ver text g room → (b : Bool) → is_none g ≡ b → (b || leb (length (head_octets ver text g)) (min room ver.octets)) ≡ false
    room_over f true q = absurd (f.entries (none_given q))
    room_over f false q = let l = ap length (given-octets f.opens) in let k = f.over in lt-leb (length (head_octets ver text g)) (min room ver.octets) (omega arith)

    -- And the other way round.
    pub is_right : HeadRight ver text g room → fault_of_head ver text g room ≡ 0
    unfolding fault_of_head
    is_right r = rw (from_entries r.are_entries, from_texts r.are_texts, from_news r.are_new, from_few r.are_few, room_if r.fits (is_none g) refl)

    pub is_fault : {n : ℕ} → HeadFault ver text g room n → fault_of_head ver text g room ≡ n
    unfolding fault_of_head
    is_fault (not_entries a) = rw (untrue _ (λ e. a (entries_from e)))
    is_fault (not_texts i a) = rw (from_entries i, untrue _ (λ e. a (texts_from e)))
    is_fault (not_new i t a) = rw (from_entries i, from_texts t, untrue _ (λ e. a (news_from e)))
    is_fault (not_few i t n a) = rw (from_entries i, from_texts t, from_news n, untrue _ (λ e. a (few_from e)))
    is_fault (not_room i t n f a) = rw (from_entries i, from_texts t, from_news n, from_few f, room_over a (is_none g) refl)

    pub fault_some : {n : ℕ} → HeadFault ver text g room n → 0 < n
    fault_some (not_entries a) = omega arith
    fault_some (not_texts i a) = omega arith
    fault_some (not_new i t a) = omega arith
    fault_some (not_few i t n a) = omega arith
    fault_some (not_room i t n f a) = omega arith

    pub not_faulty : {n : ℕ} → HeadRight ver text g room → HeadFault ver text g room n → ⊥
    not_faulty r f = let e = is_right r in let q = is_fault f in let k = fault_some f in omega arith

    -- A head that the rules write is right, if its entries are and it fits.
    pub opened_right : {o : Octets} {v : Vocabulary Octets} → Bounded ver → AreEntries ver text g → Opens ver h o v → length o ≤ min room ver.octets → HeadRight ver text g room
    opened_right {o} ok a op f =
        let w = head_allowed ok op in
        record {
          are_entries = a;
          are_texts = λ t. rw (strings-map says h t)
              ((all_map says IsText (strings h t)).0 (all_so (λ (x : Listed). IsText x.says) (λ x c. (spelling-said c.spelled).1) (strings h t) (w.0.spelled t)));
          are_new = w.0.distinct;
          are_few = w.0.in_limits;
          fits = record { before = o; opens = subst (Opens ver h o) w.1 op; fit = λ z. f };
        }

    pub right_opens : HeadRight ver text g room → Opens ver h (head_octets ver text g) (headed ver h)
    right_opens r = subst (λ (o : Octets). Opens ver h o (headed ver h)) (given-octets r.fits.opens) r.fits.opens
