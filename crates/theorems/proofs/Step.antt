-- One event more: with a permitted choice the rules write it behind what is written, together with the end of an attribute list that is owed before it.
use mathlib.Core.Path.{◌≡◌, refl, sym, ap, ◌∙◌, subst, subst₂}
use mathlib.Core.Bool.{Bool, true, false, not, ◌&&◌, ◌||◌}
use mathlib.Core.List.{[], ◌∷◌, ◌++◌, append-nil}
use Prim.Native.Nat.{ℕ, suc, ◌+◌, ◌≤◌, ◌<◌}
use native.Mathlib.Omega.{arith}
use borrow.Author.Tests.{ltb-true, leb-false}
use lib.Dec.{ltb, leb}
use lib.ListN.{length}
use Rattle.format.specs.Octets.{Octets, Halves}
use Rattle.format.specs.Numbers.{pick, top}
use Rattle.format.specs.Events as E
use Rattle.format.specs.Events.{Choice, ◌by◌, is_declaration}
use Rattle.format.specs.Tables.{Vocabulary, Version, InLimits}
use Rattle.format.specs.Items.{Mode, content, declaring, listing, State, may_start, after_start, knowing, moved, ItemWrittenAs}
use Rattle.format.specs.Document.{halves, pad, Begun, begun, after_attributes, after_end_lem, after_item}
use Rattle.write_names.specs.Chosen.{choose_for}
use Rattle.write_items.specs.Events.{among_children, is_declaring, is_listing, goes_on}
use Rattle.write_items.specs.Steps.{is_attribute, is_end, opens, owed, settled}
use Rattle.tables.proofs.Found.{clash, both_true}
use Rattle.theorems.proofs.Structure.{stepped}
use Rattle.theorems.specs.Permitted.{Permits, an_end}
use Rattle.theorems.proofs.Chosen.{Ranged}
use Rattle.theorems.proofs.Produced.{Where, first_namespace, next_namespace, first-start, named_start, in_list_lem, in_element, comment, instruction, Said, behind, octets_as, octets_by, octets_by_lem, known_by, permits_for, made}

-- ---- where an event may stand, once the end of an attribute list is behind it
-- among declarations the attribute bit is the one that the list ahead announces
abbrev pub Ahead : Mode → Bool → Type 0
Ahead content a = Unit {0}
Ahead (declaring b) a = b ≡ a
Ahead (listing any) a = Unit {0}

module _ (ver : Version) (a : Bool) (v : State Octets) where
  shallow_is : (b : Bool) → b ≡ true → (b && leb ver.depth v.level) ≡ false → v.level < ver.depth
  shallow_is b t e = leb-false ver.depth v.level (sym (ap (λ (y : Bool). y && leb ver.depth v.level) t) ∙ e)

  -- behind the end of an attribute list, if this event is no attribute
  abbrev Behind : Mode → E.Event Octets → State Octets
  Behind m e = pick (is_listing m && not (is_attribute e)) (moved v v.tables content) v

  -- the first event of an element, or the next of its declarations
  starts : (e : E.Event Octets) (m : Mode) → v.mode ≡ m → Ahead m a → (is_declaring m || (among_children m && may_start v)) ≡ true → (not (is_declaring m) && leb ver.depth v.level) ≡ false → is_attribute e ≡ false
      → ((u : State Octets) → u.mode ≡ content → may_start u ≡ true → u.level < ver.depth → Where ver a u e) → ((u : State Octets) → u.mode ≡ declaring a → Where ver a u e) → Where ver a (Behind m e) e
  unfolding may_start
  starts e content md ah go deep nay f g = f v md go (shallow_is true refl deep)
  starts e (declaring b) md ah go deep nay f g = g v (md ∙ ap (λ (y : Bool). declaring y) ah)
  starts e (listing true) md ah go deep nay f g = rw nay (f (moved v v.tables content) refl go (shallow_is true refl deep))
  starts e (listing false) md ah go deep nay f g = clash go

  -- a child that is no element
  inside : (e : E.Event Octets) (m : Mode) → v.mode ≡ m → among_children m ≡ true → is_attribute e ≡ false → ((u : State Octets) → u.mode ≡ content → u.level ≡ v.level → Where ver a u e) → Where ver a (Behind m e) e
  inside e content md go nay f = f v md refl
  inside e (declaring b) md go nay f = clash go
  inside e (listing true) md go nay f = rw nay (f (moved v v.tables content) refl refl)
  inside e (listing false) md go nay f = clash go

  in_a_list : (x : E.Name Octets) (y : Octets) (m : Mode) → v.mode ≡ m → is_listing m ≡ true → Where ver a (Behind m (E.Attribute x y)) (E.Attribute x y)
  in_a_list x y content md go = clash go
  in_a_list x y (declaring b) md go = clash go
  in_a_list x y (listing any) md go = in_list_lem md

  where_is : (e : E.Event Octets) (m : Mode) → v.mode ≡ m → Ahead m a → goes_on v e ≡ true → (opens v.mode e && leb ver.depth v.level) ≡ false → is_end e ≡ false → Where ver a (Behind m e) e
  unfolding goes_on may_start
  where_is (E.Namespace p n) m md ah go deep nay = starts (E.Namespace p n) m md ah (rw md at go) (rw md at deep) refl (λ u k may d. first_namespace k may d) (λ u k. next_namespace k)
  where_is (E.Start x) m md ah go deep nay = starts (E.Start x) m md ah (rw md at go) (rw md at deep) refl (λ u k may d. first-start k may d) (λ u k. named_start k)
  where_is (E.Attribute x y) m md ah go deep nay = in_a_list x y m md (rw md at go)
  where_is (E.Text y) m md ah go deep nay =
      let b = both_true (among_children m) (ltb 0 v.level) (rw md at go) in
      inside (E.Text y) m md b.0 refl (λ u k l. in_element k (let z = ltb-true 0 v.level b.1 in omega arith))
  where_is (E.Comment y) m md ah go deep nay = inside (E.Comment y) m md (rw md at go) refl (λ u k l. comment k)
  where_is (E.Instruction x y) m md ah go deep nay = inside (E.Instruction x y) m md (rw md at go) refl (λ u k l. instruction k)
  where_is E.End m md ah go deep nay = clash (sym nay)

-- an attribute list that another event follows has a member
module _ (v : State Octets) where
  among-listed : (e : E.Event Octets) → goes_on v e ≡ true → v.mode ≡ listing false → is_attribute e ≡ false → ⊥
  unfolding goes_on
  among-listed (E.Namespace p n) go md nay = clash (rw md at go)
  among-listed (E.Start x) go md nay = clash (rw md at go)
  among-listed (E.Attribute x y) go md nay = clash (sym nay)
  among-listed (E.Text y) go md nay = clash (rw md at go)
  among-listed (E.Comment y) go md nay = clash (rw md at go)
  among-listed (E.Instruction x y) go md nay = clash (rw md at go)
  among-listed E.End go md nay = clash (rw md at go)

  listed : (e : E.Event Octets) (m : Mode) → v.mode ≡ m → goes_on v e ≡ true → (is_listing m && not (is_attribute e)) ≡ true → m ≡ listing true
  listed e content md go t = clash t
  listed e (declaring b) md go t = clash t
  listed e (listing true) md go t = refl
  listed e (listing false) md go t = absurd (among-listed e go md (flip (is_attribute e) t))
    where
      flip : (b : Bool) → not b ≡ true → b ≡ false
      flip true y = clash y
      flip false y = refl

  -- an End stands among children, in an element
  end_here : (m : Mode) → v.mode ≡ m → among_children m ≡ true → ((pick (is_listing m && true) (moved v v.tables content) v).mode ≡ content)
  end_here content md t = md
  end_here (declaring b) md t = clash t
  end_here (listing true) md t = refl
  end_here (listing false) md t = clash t

  level_here : (t : Bool) → (pick t (moved v v.tables content) v).level ≡ v.level
  level_here true = refl
  level_here false = refl

  words_here : (t : Bool) → (pick t (moved v v.tables content) v).tables ≡ v.tables
  words_here true = refl
  words_here false = refl

-- ---- the halves of an event of these octets, with what is owed before it; and with the required choice, and what is known behind it then
unfoldable pub halves_as : ℕ → State Octets → E.Event Octets → Octets → Octets
halves_as at v e os = owed v.mode e ++ pick (is_end e) (15 ∷ []) (pad (at + length (owed v.mode e)) ++ halves os)

module _ (C : Version) where
  unfoldable pub halves_by : ℕ → Bool → State Octets → E.Event Octets → Octets
  halves_by at a v e = halves_as at v e (octets_by C a (settled v e) e)

  abbrev pub next_by : Bool → State Octets → E.Event Octets → State Octets
  next_by a v e = known_by C a (settled v e) e

pub words-settled : (v : State Octets) (e : E.Event Octets) → (settled v e).tables ≡ v.tables
unfolding settled
words-settled v e = words_here v (is_listing v.mode && not (is_attribute e))

module _ (ver : Version) (small : ver.entries ≤ top) where
  item_alone : (at : ℕ) {v w : State Octets} {i : E.Item Octets} {o : Octets} → ItemWrittenAs ver v i o w → Begun ver at v (i ∷ []) (pad at ++ halves o) w
  item_alone at {v} {w} {i} {o} u = subst (λ (l : Octets). Begun ver at v (i ∷ []) (pad at ++ l) w) (append-nil (halves o)) (after_item u begun)

  -- behind what is owed
  own : (at : ℕ) (a : Bool) (v : State Octets) (e : E.Event Octets) {c : Choice} {w : Vocabulary Octets} (t : Bool) → is_end e ≡ t → Said e → (t ≡ false → Where ver a v e)
      → (t ≡ true → (v.mode ≡ content) × (0 < v.level)) → InLimits ver w → (p : Permits v.tables e c w)
      → Begun ver at v ((e by c) ∷ []) (pick t (15 ∷ []) (pad at ++ halves (octets_as a v.mode p))) (behind a v w e)
  own at a v e false k s f g i p = item_alone at (made ver small a v s (f refl) i p)
  own at a v E.End true k s f g i an_end = let y = g refl in after_end_lem y.0 y.1 begun
  own at a v (E.Namespace p n) true k s f g i u = clash k
  own at a v (E.Start x) true k s f g i u = clash k
  own at a v (E.Attribute x y) true k s f g i u = clash k
  own at a v (E.Text y) true k s f g i u = clash k
  own at a v (E.Comment y) true k s f g i u = clash k
  own at a v (E.Instruction x y) true k s f g i u = clash k

  ends_where : (v : State Octets) (e : E.Event Octets) → goes_on v e ≡ true → is_end e ≡ true → ((settled v e).mode ≡ content) × (0 < (settled v e).level)
  unfolding goes_on settled
  ends_where v (E.Namespace p n) go y = clash y
  ends_where v (E.Start x) go y = clash y
  ends_where v (E.Attribute x z) go y = clash y
  ends_where v (E.Text z) go y = clash y
  ends_where v (E.Comment z) go y = clash y
  ends_where v (E.Instruction x z) go y = clash y
  ends_where v E.End go y =
      let b = both_true (among_children v.mode) (ltb 0 v.level) go in
      let l = ltb-true 0 v.level b.1 in
      let k = level_here v (is_listing v.mode && true) in
      (end_here v v.mode refl b.0, omega arith)

  -- the end of an attribute list that is owed, in front
  owed_front : (at : ℕ) (v w : State Octets) (t : Bool) (i : E.Item Octets) (hs : Halves) → (t ≡ true → v.mode ≡ listing true)
      → Begun ver (at + length {A = ℕ} (pick t (15 ∷ []) [])) (pick t (moved v v.tables content) v) (i ∷ []) hs w → Begun ver at v (i ∷ []) (pick t (15 ∷ []) [] ++ hs) w
  owed_front at v w true i hs f u = let y : at + 1 ≡ suc at = omega arith in after_attributes (f refl) (rw y at u)
  owed_front at v w false i hs f u = let y : at + 0 ≡ at = omega arith in rw y at u

  pub front : (at : ℕ) (a : Bool) (v : State Octets) (e : E.Event Octets) {c : Choice} {w : Vocabulary Octets} → Ahead v.mode a → Said e → goes_on v e ≡ true
      → (opens v.mode e && leb ver.depth v.level) ≡ false → InLimits ver w → (p : Permits (settled v e).tables e c w)
      → Begun ver at v ((e by c) ∷ []) (halves_as at v e (octets_as a (settled v e).mode p)) (behind a (settled v e) w e)
  unfolding settled owed halves_as
  front at a v e {w = w} ah s go deep i p =
      let t : Bool = is_listing v.mode && not (is_attribute e) in
      let at' : ℕ = at + length {A = ℕ} (pick t (15 ∷ []) []) in
      let b = own at' a (settled v e) e (is_end e) refl s (λ y. where_is ver a v e v.mode refl ah go deep y) (λ y. ends_where v e go y) i p in
      owed_front at v (behind a (settled v e) w e) t _ _ (λ y. listed v e v.mode refl go y) b

  -- with the required choice
  pub front_by : (C : Version) (at : ℕ) (a : Bool) (v : State Octets) (e : E.Event Octets) → Ahead v.mode a → Ranged v.tables → Said e → goes_on v e ≡ true
      → (opens v.mode e && leb ver.depth v.level) ≡ false → InLimits ver (choose_for C v.tables e).tables
      → Begun ver at v ((e by (choose_for C v.tables e).how) ∷ []) (halves_by C at a v e) (next_by C a v e)
  unfolding halves_by
  front_by C at a v e ah r s go deep i =
      let u : State Octets = settled v e in
      let same = words-settled v e in
      let r' = subst (λ (z : Vocabulary Octets). Ranged z) (sym same) r in
      let b = front at a v e ah s go deep (subst (λ (z : Vocabulary Octets). InLimits ver (choose_for C z e).tables) (sym same) i) (permits_for C u.tables e s r') in
      subst₂ (λ (z : Vocabulary Octets) (os : Octets). Begun ver at v ((e by (choose_for C z e).how) ∷ []) (halves_as at v e os) (next_by C a v e)) same (octets_by_lem C a u e s r') b

-- ---- the place behind an event is that of the structure, with the tables that the choice leaves
picked : (t : Bool) (v : State Octets) → pick t (moved v v.tables content) v ≡ moved v v.tables (pick t (moved v v.tables content) v).mode
picked true v = refl
picked false v = refl

settled_is : (v : State Octets) (e : E.Event Octets) → settled v e ≡ moved v v.tables (settled v e).mode
unfolding settled
settled_is v e = picked (is_listing v.mode && not (is_attribute e)) v

module _ (a : Bool) (v : State Octets) where
  -- an event with no mode of its own behind it stands among children
  stays : (e : E.Event Octets) (w : Vocabulary Octets) → is_attribute e ≡ false → among_children v.mode ≡ true → knowing (settled v e) w ≡ moved v w content
  unfolding settled
  stays e w nay go =
      let md : (settled v e).mode ≡ content = rw nay (end_here v v.mode refl go) in
      ap (λ (u : State Octets). knowing u w) (settled_is v e ∙ ap (λ (m : Mode). moved v v.tables m) md)

  pub next_state : (e : E.Event Octets) {c : Choice} {w : Vocabulary Octets} → goes_on v e ≡ true → Permits v.tables e c w → behind a (settled v e) w e ≡ knowing (stepped a v e) w
  unfolding goes_on
  next_state (E.Namespace p n) {w = w} go u = ap (λ (y : State Octets). behind a y w (E.Namespace p n)) (settled_is v (E.Namespace p n))
  next_state (E.Start x) {w = w} go u = ap (λ (y : State Octets). behind a y w (E.Start x)) (settled_is v (E.Start x))
  next_state (E.Attribute x y) {w = w} go u = ap (λ (z : State Octets). behind a z w (E.Attribute x y)) (settled_is v (E.Attribute x y))
  next_state (E.Text y) {w = w} go u = stays (E.Text y) w refl (both_true (among_children v.mode) (ltb 0 v.level) go).0
  next_state (E.Comment y) {w = w} go u = stays (E.Comment y) w refl go
  next_state (E.Instruction x y) {w = w} go u = stays (E.Instruction x y) w refl go
  next_state E.End {w = w} go an_end = ap (λ (y : State Octets). behind a y w E.End) (settled_is v E.End)

  pub next_by_lem : (C : Version) (e : E.Event Octets) → goes_on v e ≡ true → Said e → Ranged v.tables → next_by C a v e ≡ knowing (stepped a v e) (choose_for C v.tables e).tables
  next_by_lem C e go s r =
      ap (λ (u : Vocabulary Octets). behind a (settled v e) (choose_for C u e).tables e) (words-settled v e) ∙ next_state e go (permits_for C v.tables e s r)

pub ahead_next : (a b : Bool) (v : State Octets) (e : E.Event Octets) → (is_declaration e ≡ true → a ≡ b) → Ahead (stepped a v e).mode b
ahead_next a b v (E.Namespace p n) f = f refl
ahead_next a b v (E.Start x) f = after a
  where
    after : (c : Bool) → Ahead (after_start c) b
    after true = tt
    after false = tt
ahead_next a b v (E.Attribute x y) f = tt
ahead_next a b v (E.Text y) f = tt
ahead_next a b v (E.Comment y) f = tt
ahead_next a b v (E.Instruction x y) f = tt
ahead_next a b v E.End f = tt
