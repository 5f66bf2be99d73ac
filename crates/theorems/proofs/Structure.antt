-- The events with which a document's list goes on are those that `goes_on` passes, and no others.
use Prim.Native.Nat.{ℕ, zero, suc, ◌-◌, ◌≤◌, ◌<◌}
use mathlib.Core.Path.{◌≡◌, refl, sym}
use mathlib.Core.Logic.{◌↔◌}
use mathlib.Core.Bool.{Bool, true, false, not, ◌&&◌, ◌||◌, or-true, or-false}
use mathlib.Core.Option.{Option}
use mathlib.Core.List.{List, [], ◌∷◌}
use native.Mathlib.Omega.{arith}
use borrow.Author.Tests.{ltb-true, lt-ltb}
use lib.Dec.{ltb}
use Rattle.format.specs.Events.{Name, Event, Namespace, Start, Attribute, Text, Comment, Instruction, End, event_map, Namespaces, no_namespace, a_namespace, Attributes, no_attribute, an_attribute, Aside, no_aside, a_comment, an_instruction, Element, element, Children, no_child, an_element, a_chunk, an_aside, IsDocument, deepest, is_start}
use Rattle.format.specs.Tables.{Vocabulary}
use Rattle.format.specs.Items.{Mode, content, declaring, listing, State, may_start, after_start, moved, opened}
use Rattle.format.specs.Document.{closed, beginning}
use Rattle.write_items.specs.Events.{among_children, is_declaring, is_listing, goes_on}
use Rattle.write_items.specs.Steps.{is_attribute, is_end, opens}
use Rattle.tables.proofs.Found.{clash, both_true}

-- A place to which a document comes: elements are open only where there is a root, and an attribute list is an element's. The tables do not matter.
pub record SaneAt (m : Mode) (level : ℕ) (root : Bool) : Type 0 where
  pub rooted : 0 < level → root ≡ true
  pub owned : is_listing m ≡ true → 0 < level

module _ {S : Type 0} where
  -- ---- what is left
  abbrev pub attribute_first : List (Event S) → Bool
  attribute_first [] = false
  attribute_first (e ∷ es) = is_attribute e

  -- What the events that are left make up, where n elements are open: the rest of the innermost, then of those around it, then what may stand behind a root; a
  -- document, where there was no root yet. (Nothing is asked where elements are open and there was no root: no document comes there.)
  abbrev pub Inside : ℕ → Bool → List (Event S) → Type 0
  Inside zero false es = IsDocument es
  Inside zero true es = Aside es []
  Inside (suc n) false es = Unit {0}
  Inside (suc n) true es = (rest : List (Event S)) × Children es (End ∷ rest) × Inside n true rest

  -- One more element and the rest; the attributes that are left and the rest, where a list that has no member yet gets one.
  abbrev pub WithElement : ℕ → List (Event S) → Type 0
  WithElement n es = (rest : List (Event S)) × Element es rest × Inside n true rest

  abbrev pub WithAttributes : Bool → ℕ → Bool → List (Event S) → Type 0
  WithAttributes any n root es = (rest : List (Event S)) × Attributes es rest × Inside n root rest × ((any || attribute_first es) ≡ true)

  abbrev pub Left : Mode → ℕ → Bool → List (Event S) → Type 0
  Left content n root es = Inside n root es
  Left (declaring a) n root es = WithElement n es
  Left (listing any) n root es = WithAttributes any n root es

  abbrev pub Rest : State S → List (Event S) → Type 0
  Rest v es = Left v.mode v.level v.root es

  -- The place behind an event; a says whether an attribute follows a Start.
  abbrev pub stepped : Bool → State S → Event S → State S
  stepped a v (Namespace p n) = moved v v.tables (declaring a)
  stepped a v (Start x) = opened v v.tables a
  stepped a v (Attribute x y) = moved v v.tables (listing true)
  stepped a v (Text y) = moved v v.tables content
  stepped a v (Comment y) = moved v v.tables content
  stepped a v (Instruction x y) = moved v v.tables content
  stepped a v End = closed v

  abbrev pub Sane : State S → Type 0
  Sane v = SaneAt v.mode v.level v.root

  -- ---- an event that `goes_on` passes, in front of what is left behind it
  starts : (a : Bool) (n : ℕ) (x : Name S) (es : List (Event S)) → Left (after_start a) (suc n) true es → WithElement n (Start x ∷ es)
  starts true n x es (cs, at, (rest, ch, k), some) = (rest, element no_namespace at ch, k)
  starts false n x es (rest, ch, k) = (rest, element no_namespace no_attribute ch, k)

  declares : {p n : Option S} (es rest : List (Event S)) → Element es rest → Element (Namespace p n ∷ es) rest
  declares es rest (element ns at ch) = element (a_namespace ns) at ch

  enters : (n : ℕ) (root : Bool) (es : List (Event S)) → (ltb 0 n || not root) ≡ true → WithElement n es → Inside n root es
  enters zero true es e k = clash e
  enters zero false es e (rest, el, k) = record { root = es; behind = rest; before_root = no_aside; the_root = el; after_root = k }
  enters (suc n) false es e k = tt
  enters (suc n) true es e (rest, el, (later, ch, k)) = (later, an_element el ch, k)

  ends : (n : ℕ) (root : Bool) (es : List (Event S)) → 0 < n → Inside (n - 1) root es → Inside n root (End ∷ es)
  ends zero root es h k = absurd (omega arith)
  ends (suc n) false es h k = tt
  ends (suc n) true es h k = let y : suc n - 1 ≡ n = omega arith in (es, no_child, rw y at k)

  speaks : (n : ℕ) (root : Bool) (y : S) (es : List (Event S)) → 0 < n → Inside n root es → Inside n root (Text y ∷ es)
  speaks zero root y es h k = absurd (omega arith)
  speaks (suc n) false y es h k = tt
  speaks (suc n) true y es h (rest, ch, k) = (rest, a_chunk ch, k)

  -- a comment or an instruction in front
  turns_aside : (n : ℕ) (root : Bool) (e : Event S) (es : List (Event S)) → ((rest : List (Event S)) → Aside es rest → Aside (e ∷ es) rest) → Inside n root es → Inside n root (e ∷ es)
  turns_aside zero true e es f k = f [] k
  turns_aside zero false e es f k = record { root = k.root; behind = k.behind; before_root = f k.root k.before_root; the_root = k.the_root; after_root = k.after_root }
  turns_aside (suc n) false e es f k = tt
  turns_aside (suc n) true e es f (rest, ch, k) = (rest, an_aside (f es no_aside) ch, k)

  -- among children, also where a list that has a member ends
  among : (m : Mode) (n : ℕ) (root : Bool) (es : List (Event S)) → among_children m ≡ true → Inside n root es → Left m n root es
  among content n root es t k = k
  among (declaring a) n root es t k = clash t
  among (listing true) n root es t k = (es, no_attribute, k, refl)
  among (listing false) n root es t k = clash t

  among_elements : (m : Mode) (n : ℕ) (root : Bool) (es : List (Event S)) → (is_declaring m || (among_children m && (ltb 0 n || not root))) ≡ true → WithElement n es → Left m n root es
  among_elements content n root es t k = enters n root es t k
  among_elements (declaring a) n root es t k = k
  among_elements (listing any) n root es t k = let b = both_true any (ltb 0 n || not root) t in among (listing any) n root es b.0 (enters n root es b.1 k)

  lists : (m : Mode) (n : ℕ) (root : Bool) (x : Name S) (y : S) (es : List (Event S)) → is_listing m ≡ true → WithAttributes true n root es → Left m n root (Attribute x y ∷ es)
  lists content n root x y es t k = clash t
  lists (declaring a) n root x y es t k = clash t
  lists (listing any) n root x y es t (rest, at, k, some) = (rest, an_attribute at, k, or-true any)

  pub back : (a : Bool) (v : State S) (e : Event S) (tail : List (Event S)) → goes_on v e ≡ true → Rest (stepped a v e) tail → Rest v (e ∷ tail)
  unfolding goes_on may_start
  back a v (Namespace p n) tail go (rest, el, k) = among_elements v.mode v.level v.root (Namespace p n ∷ tail) go (rest, declares tail rest el, k)
  back a v (Start x) tail go k = among_elements v.mode v.level v.root (Start x ∷ tail) go (starts a v.level x tail k)
  back a v (Attribute x y) tail go k = lists v.mode v.level v.root x y tail go k
  back a v (Text y) tail go k =
      let b = both_true (among_children v.mode) (ltb 0 v.level) go in
      among v.mode v.level v.root (Text y ∷ tail) b.0 (speaks v.level v.root y tail (ltb-true 0 v.level b.1) k)
  back a v (Comment y) tail go k = among v.mode v.level v.root (Comment y ∷ tail) go (turns_aside v.level v.root (Comment y) tail (λ rest. a_comment) k)
  back a v (Instruction x y) tail go k = among v.mode v.level v.root (Instruction x y ∷ tail) go (turns_aside v.level v.root (Instruction x y) tail (λ rest. an_instruction) k)
  back a v End tail go k =
      let b = both_true (among_children v.mode) (ltb 0 v.level) go in
      among v.mode v.level v.root (End ∷ tail) b.0 (ends v.level v.root tail (ltb-true 0 v.level b.1) k)

  -- ---- nothing else is a rest
  -- what is left behind an event, whatever the mode before it
  abbrev Behind : ℕ → Bool → Event S → List (Event S) → Type 0
  Behind n root (Namespace p u) tail = WithElement n tail
  Behind n root (Start x) tail = (rest : List (Event S)) × Attributes tail rest × Inside (suc n) true rest
  Behind n root (Attribute x y) tail = WithAttributes true n root tail
  Behind n root (Text y) tail = Inside n root tail
  Behind n root (Comment y) tail = Inside n root tail
  Behind n root (Instruction x y) tail = Inside n root tail
  Behind n root End tail = Inside (n - 1) root tail

  abbrev Follows : State S → List (Event S) → Type 0
  Follows v [] = (v.mode ≡ content) × (v.level ≡ 0) × (v.root ≡ true)
  Follows v (e ∷ tail) = (goes_on v e ≡ true) × Behind v.level v.root e tail

  abbrev place : Vocabulary S → Mode → ℕ → Bool → State S
  place w m n root = record { tables = w; level = n; root = root; mode = m }

  with_element : (v : State S) {es rest : List (Event S)} → (is_declaring v.mode || (among_children v.mode && may_start v)) ≡ true → Element es rest → Inside v.level true rest → Follows v es
  unfolding goes_on
  with_element v go (element {cs = cs} {rest = rest} no_namespace at ch) k = (go, (cs, at, (rest, ch, k)))
  with_element v go (element {rest = rest} (a_namespace ns) at ch) k = (go, (rest, element ns at ch, k))

  -- what may stand behind the root, and around it
  asides : (w : Vocabulary S) {es : List (Event S)} → Aside es [] → Follows (place w content 0 true) es
  unfolding goes_on
  asides w no_aside = (refl, refl, refl)
  asides w (a_comment k) = (refl, k)
  asides w (an_instruction k) = (refl, k)

  around : (w : Vocabulary S) {es root behind : List (Event S)} → Aside es root → Element root behind → Aside behind [] → Follows (place w content 0 false) es
  unfolding goes_on may_start
  around w no_aside el k = with_element (place w content 0 false) refl el k
  around w (a_comment {rest = r} a) el k = (refl, record { root = r; behind = _; before_root = a; the_root = el; after_root = k })
  around w (an_instruction {rest = r} a) el k = (refl, record { root = r; behind = _; before_root = a; the_root = el; after_root = k })

  children : (w : Vocabulary S) (n : ℕ) {es rest : List (Event S)} → Children es (End ∷ rest) → Inside n true rest → Follows (place w content (suc n) true) es
  unfolding goes_on may_start
  children w n no_child k = let y : suc n - 1 ≡ n = omega arith in (lt-ltb 0 (suc n) (omega arith), rw y k)
  children w n (an_element el ch) k = with_element (place w content (suc n) true) (rw (lt-ltb 0 (suc n) (omega arith))) el (_, ch, k)
  children w n (a_chunk ch) k = (lt-ltb 0 (suc n) (omega arith), (_, ch, k))
  children w n (an_aside no_aside ch) k = children w n ch k
  children w n (an_aside (a_comment a) ch) k = (refl, (_, an_aside a ch, k))
  children w n (an_aside (an_instruction a) ch) k = (refl, (_, an_aside a ch, k))

  -- a list of attributes that has a member, or gets one, and children behind it
  still : (w : Vocabulary S) (any : Bool) (n : ℕ) (e : Event S) → (any || is_attribute e) ≡ true → goes_on (place w content n true) e ≡ true → goes_on (place w (listing any) n true) e ≡ true
  unfolding goes_on may_start
  still w any n (Namespace p u) t go = rw (rw or-false at t) go
  still w any n (Start x) t go = rw (rw or-false at t) go
  still w any n (Attribute x y) t go = refl
  still w any n (Text y) t go = rw (rw or-false at t) go
  still w any n (Comment y) t go = rw or-false at t
  still w any n (Instruction x y) t go = rw or-false at t
  still w any n End t go = rw (rw or-false at t) go

  behind_list : (w : Vocabulary S) (any : Bool) (n : ℕ) (es : List (Event S)) → (any || attribute_first es) ≡ true → Follows (place w content (suc n) true) es → Follows (place w (listing any) (suc n) true) es
  behind_list w any n [] t f = absurd (omega arith)
  behind_list w any n (e ∷ tail) t f = (still w any (suc n) e t f.0, f.1)

  attributes : (w : Vocabulary S) (any : Bool) (n : ℕ) {es rest : List (Event S)} → Attributes es rest → Inside (suc n) true rest → (any || attribute_first es) ≡ true → Follows (place w (listing any) (suc n) true) es
  unfolding goes_on
  attributes w any n (no_attribute {es = es}) (rest, ch, k) t = behind_list w any n es t (children w n ch k)
  attributes w any n (an_attribute {rest = rest} at) k t = (refl, (rest, at, k, refl))

  -- `s` rules out open elements without a root, and a list outside of an element
  split : (w : Vocabulary S) (m : Mode) (n : ℕ) (root : Bool) (es : List (Event S)) → SaneAt m n root → Left m n root es → Follows (place w m n root) es
  unfolding goes_on
  split w content zero false es s k = around w k.before_root k.the_root k.after_root
  split w content zero true es s k = asides w k
  split w content (suc n) false es s k = clash (s.rooted (omega arith))
  split w content (suc n) true es s (rest, ch, k) = children w n ch k
  split w (declaring a) n root es s (rest, el, k) = with_element (place w (declaring a) n root) refl el k
  split w (listing any) zero root es s k = absurd (let h = s.owned refl in omega arith)
  split w (listing any) (suc n) false es s k = clash (s.rooted (omega arith))
  split w (listing any) (suc n) true es s (rest, at, k, t) = attributes w any n at k t

  follows : (v : State S) (es : List (Event S)) → Sane v → Rest v es → Follows v es
  follows v es s k = split v.tables v.mode v.level v.root es s k

  pub goes : (v : State S) (e : Event S) (tail : List (Event S)) → Sane v → Rest v (e ∷ tail) → goes_on v e ≡ true
  goes v e tail s k = (follows v (e ∷ tail) s k).0

  -- without a list, children stand behind a Start
  no_list : {es rest : List (Event S)} (n : ℕ) → Attributes es rest → attribute_first es ≡ false → Inside n true rest → Inside n true es
  no_list n no_attribute t k = k
  no_list n (an_attribute at) t k = clash (sym t)

  behind : (a : Bool) (v : State S) (e : Event S) (tail : List (Event S)) → Behind v.level v.root e tail → (is_start e ≡ true → attribute_first tail ≡ a) → Rest (stepped a v e) tail
  behind a v (Namespace p n) tail k t = k
  behind true v (Start x) tail (rest, at, k) t = (rest, at, k, t refl)
  behind false v (Start x) tail (rest, at, k) t = no_list (suc v.level) at (t refl) k
  behind a v (Attribute x y) tail k t = k
  behind a v (Text y) tail k t = k
  behind a v (Comment y) tail k t = k
  behind a v (Instruction x y) tail k t = k
  behind a v End tail k t = k

  pub on : (a : Bool) (v : State S) (e : Event S) (tail : List (Event S)) → Sane v → Rest v (e ∷ tail) → (is_start e ≡ true → attribute_first tail ≡ a) → Rest (stepped a v e) tail
  on a v e tail s k t = behind a v e tail (follows v (e ∷ tail) s k).1 t

  -- ---- from the first event to the last
  pub sane_first : (start : Vocabulary S) → Sane (beginning start)
  unfolding beginning
  sane_first start = record { rooted = λ h. absurd (omega arith); owned = λ t. clash t }

  pub all_left : (start : Vocabulary S) (es : List (Event S)) → IsDocument es ↔ Rest (beginning start) es
  unfolding beginning
  all_left start es = (λ d. d, λ d. d)

  pub sane_on : (a : Bool) (v : State S) (e : Event S) → Sane v → goes_on v e ≡ true → Sane (stepped a v e)
  unfolding goes_on
  sane_on a v (Namespace p n) s go = record { rooted = s.rooted; owned = λ t. clash t }
  sane_on a v (Start x) s go = record { rooted = λ h. refl; owned = λ t. omega arith }
  sane_on a v (Attribute x y) s go = record { rooted = s.rooted; owned = λ t. s.owned go }
  sane_on a v (Text y) s go = record { rooted = s.rooted; owned = λ t. clash t }
  sane_on a v (Comment y) s go = record { rooted = s.rooted; owned = λ t. clash t }
  sane_on a v (Instruction x y) s go = record { rooted = s.rooted; owned = λ t. clash t }
  sane_on a v End s go = record { rooted = λ h. s.rooted (omega arith); owned = λ t. clash t }

  pub ended : (v : State S) → Sane v → Rest v [] → (v.mode ≡ content) × (v.level ≡ 0) × (v.root ≡ true)
  ended v s k = follows v [] s k

  pub ended_back : (v : State S) → (v.mode ≡ content) × (v.level ≡ 0) × (v.root ≡ true) → Rest v []
  ended_back v (md, lv, rt) = rw (md, lv, rt) no_aside

  -- Every place has a rest: the open elements end; before that an element that was declared starts, and a list has a member.
  closing : Name S → (n : ℕ) (root : Bool) → (tail : List (Event S)) × Inside n root tail
  closing x zero false = (Start x ∷ End ∷ [], enters zero false (Start x ∷ End ∷ []) refl ([], element no_namespace no_attribute no_child, no_aside))
  closing x zero true = ([], no_aside)
  closing x (suc n) false = ([], tt)
  closing x (suc n) true = let c = closing x n true in (End ∷ c.0, (c.0, no_child, c.1))

  completed : Name S → (m : Mode) (n : ℕ) (root : Bool) → (tail : List (Event S)) × Left m n root tail
  completed x content n root = closing x n root
  completed x (declaring a) n root = let c = closing x n true in (Start x ∷ End ∷ c.0, (c.0, element no_namespace no_attribute no_child, c.1))
  completed x (listing any) n root = let c = closing x n root in (Attribute x x.local ∷ c.0, (c.0, an_attribute no_attribute, c.1, or-true any))

  pub completes : Name S → (v : State S) → (tail : List (Event S)) × Rest v tail
  completes x v = completed x v.mode v.level v.root

  -- ---- how deep
  stays : (n : ℕ) (es : List (Event S)) → n ≤ deepest n es
  unfolding deepest
  stays n [] = omega arith
  stays n (e ∷ es) = omega arith

  declared : (n : ℕ) {x : Name S} {es rest : List (Event S)} → Namespaces es (Start x ∷ rest) → suc n ≤ deepest n es
  unfolding deepest
  declared n (no_namespace {es = Start x ∷ rest}) = let h = stays (suc n) rest in omega arith
  declared n (a_namespace ns) = let h = declared n ns in omega arith

  pub deep_element : (n : ℕ) (es : List (Event S)) → WithElement n es → suc n ≤ deepest n es
  deep_element n es (rest, element ns at ch, k) = declared n ns

  pub deep : (v : State S) (e : Event S) (tail : List (Event S)) → Sane v → Rest v (e ∷ tail) → opens v.mode e ≡ true → suc v.level ≤ deepest v.level (e ∷ tail)
  unfolding deepest
  deep v (Namespace p n) tail s k t = let h = deep_element v.level tail (follows v (Namespace p n ∷ tail) s k).1 in omega arith
  deep v (Start x) tail s k t = let h = stays (suc v.level) tail in omega arith
  deep v (Attribute x y) tail s k t = clash t
  deep v (Text y) tail s k t = clash t
  deep v (Comment y) tail s k t = clash t
  deep v (Instruction x y) tail s k t = clash t
  deep v End tail s k t = clash t

-- What is asked of an event and has nothing to do with what its strings are.
pub record SameKind {S T : Type 0} (d : Event T) (e : Event S) : Type 0 where
  pub attribute : is_attribute d ≡ is_attribute e
  pub end : is_end d ≡ is_end e
  pub opens_too : (m : Mode) → opens m d ≡ opens m e
  pub goes_too : (w : Vocabulary T) (v : State S) → goes_on (record { tables = w; level = v.level; root = v.root; mode = v.mode }) d ≡ goes_on v e

pub same_kind : {S T : Type 0} (f : S → T) (e : Event S) → SameKind (event_map f e) e
unfolding goes_on may_start event_map
same_kind f (Namespace p n) = search
same_kind f (Start x) = search
same_kind f (Attribute x y) = search
same_kind f (Text y) = search
same_kind f (Comment y) = search
same_kind f (Instruction x y) = search
same_kind f End = search
