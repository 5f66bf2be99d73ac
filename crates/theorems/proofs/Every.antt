-- The rules can write every document with every permitted choice: nothing in them is narrower than the requirements. So with the required choices every list of events that is a document is written, and
-- within the limits of a version too, unless it is over one of them.
use Prim.Native.Nat.{ℕ, ◌+◌, ◌*◌, ◌≤◌, ◌<◌}
use mathlib.Core.Path.{◌≡◌, refl, sym, ap, subst, subst₂}
use mathlib.Core.Bool.{Bool, true, false, ◌&&◌}
use mathlib.Core.List.{List, [], ◌∷◌, ◌++◌}
use native.Mathlib.Omega.{arith}
use borrow.Author.Tests.{lt-leb}
use lib.Dec.{leb}
use lib.ListN.{length, length-map}
use Rattle.format.specs.Octets.{Octets, Halves}
use Rattle.format.specs.Numbers.{top}
use Rattle.format.specs.Events.{Event, Namespace, Start, Attribute, Text, Comment, Instruction, End, Item, IsDocument, open_then, deepest, strings_of}
use Rattle.format.specs.Tables.{Vocabulary, no_entries, Version, standard, InLimits, starting}
use Rattle.format.specs.Items.{State, knowing}
use Rattle.format.specs.Head.{Head, Opens}
use Rattle.format.specs.Document.{Written, document_end_lem, beginning, Document}
use Rattle.format.specs.Allowed.{All, Allowed}
use Rattle.write_names.specs.Chosen.{tables_after}
use Rattle.write_items.specs.Steps.{opens, joined}
use Rattle.fields.proofs.Laws.{case}
use Rattle.theorems.specs.Bounded.{Bounded}
use Rattle.theorems.specs.Heads.{headed, HeadAllowed}
use Rattle.theorems.specs.Verdicts.{items_of, WrittenAs, WrittenWidely, OrPasses, within_limits, over_depth, over_entries, over_octets, WrittenUnlessLong}
use Rattle.theorems.specs.Permitted.{Permits, PermitsAll, no_item, an_item}
use Rattle.theorems.proofs.OneWriting.{later, later_start, later_declared}
use Rattle.theorems.proofs.Wider.{written}
use Rattle.theorems.proofs.Structure.{Rest, Sane, stepped, attribute_first, goes, on, sane_on, ended, deep, sane_first, all_left}
use Rattle.theorems.proofs.Documents.{events}
use Rattle.theorems.proofs.Begun as B
use Rattle.theorems.proofs.Chosen.{fits_before}
use Rattle.theorems.proofs.Produced.{Said}
use Rattle.theorems.proofs.Sayable.{Sayable, by_kind, said}
use Rattle.theorems.proofs.Step.{Ahead, words-settled, front, next_state, ahead_next}
use Rattle.theorems.proofs.Joined.{document_of}
use Rattle.theorems.proofs.HeadKeeps.{few_started, none_started}
use Rattle.theorems.proofs.Heads.{head_allowed, every_head, headed_none, opened_ranged, wider}
use Rattle.theorems.proofs.Headed.{no_head, one_document}
use Rattle.theorems.proofs.Entries.{all_grow, chosen_permitted, chosen_events, AtMost, few_after, in_limits}

-- Whether an attribute follows the Start with which the events begin, or the Start behind the declarations with which they begin.
unfoldable pub announced_by : List (Event Octets) → Bool
announced_by [] = false
announced_by (e ∷ es) = later e (attribute_first es) (announced_by es)

-- ---- how deep
level_is : (a : Bool) (v : State Octets) (e : Event Octets) → (stepped a v e).level ≡ open_then v.level e
level_is a v (Namespace p n) = refl
level_is a v (Start x) = refl
level_is a v (Attribute x y) = refl
level_is a v (Text y) = refl
level_is a v (Comment y) = refl
level_is a v (Instruction x y) = refl
level_is a v End = refl

shallow : (b : Bool) (depth level : ℕ) → (b ≡ true → level < depth) → (b && leb depth level) ≡ false
shallow true depth level f = lt-leb depth level (f refl)
shallow false depth level f = refl

deep_on : (depth : ℕ) (a : Bool) (v : State Octets) (e : Event Octets) (es : List (Event Octets)) → deepest v.level (e ∷ es) ≤ depth → deepest (stepped a v e).level es ≤ depth
unfolding deepest
deep_on depth a v e es h = rw (level_is a v e) (omega arith)

-- ---- what is left of a document can be written, from wherever a document comes
-- The halves that the items are written as, and what is known then: these tables.
pub record CanWrite (ver : Version) (at : ℕ) (v : State Octets) (items : List (Item Octets)) (tables : Vocabulary Octets) : Type 0 where
  pub halves : Halves
  pub last : State Octets
  pub rule : Written ver at v items halves last
  pub known : last.tables ≡ tables

module _ (ver : Version) (small : ver.entries ≤ top) where
  can_write : {w : Vocabulary Octets} (items : List (Item Octets)) (at : ℕ) (v : State Octets) → Rest v (events items) → Sane v → All Said (events items) → deepest v.level (events items) ≤ ver.depth → InLimits ver w
      → Ahead v.mode (announced_by (events items)) → PermitsAll v.tables items w → CanWrite ver at v items w
  unfolding announced_by
  can_write [] at v k s sd dp i ah no_item = let e = ended v s k in record { halves = _; last = v; rule = document_end_lem e.0 e.1 e.2; known = refl }
  can_write (x ∷ items) at v k s sd dp i ah (an_item {u = u} p ps) =
      let e : Event Octets = x.event in
      let es = events items in
      let a = announced_by (e ∷ es) in
      let go = goes v e es s k in
      let d : (opens v.mode e ≡ true → v.level < ver.depth) = λ t. let y = deep v e es s k t in omega arith in
      let b = front ver small at a v e ah sd.0 go (shallow (opens v.mode e) ver.depth v.level d) (fits_before (all_grow ps) i)
      (subst (λ (y : Vocabulary Octets). Permits y e x.choice u) (sym (words-settled v e)) p) in
      let next = can_write items _ (knowing (stepped a v e) u) (on a v e es s k (λ t. sym (later_start e (attribute_first es) (announced_by es) t))) (sane_on a v e s go) sd.1 (deep_on ver.depth a v e es dp) i
      (ahead_next a (announced_by es) v e (later_declared e (attribute_first es) (announced_by es))) ps in
      record { halves = _; last = next.last; rule = (B.front (rw (next_state a v e go p) at b) next.rule).0; known = next.known }

-- ---- a whole document
-- the strings are text and no longer than a length can say
sayable : (es : List (Event Octets)) → All Allowed es → All (λ e. All Sayable (strings_of e)) es → All Said es
sayable [] a b = tt
sayable (e ∷ es) a b = (said e a.0 (by_kind Sayable e b.0), sayable es a.1 b.1)

module _ (ver : Version) (ok : Bounded ver) (h : Head) (right : HeadAllowed ver h) where
  -- what stands before the body
  abbrev lead : Octets
  lead = (every_head ok right).0

  abbrev opens_it : Opens ver h lead (headed ver h)
  opens_it = (every_head ok right).1

  module _ (items : List (Item Octets)) {w : Vocabulary Octets} (doc : IsDocument (events items)) (allowed : All Allowed (events items)) (short : All (λ e. All Sayable (strings_of e)) (events items)) (may : PermitsAll (headed ver h) items w) where
    -- within the limits of another version
    from_start : (M : Version) → M.entries ≤ top → deepest 0 (events items) ≤ M.depth → InLimits M w → CanWrite M (2 * length lead) (beginning (headed ver h)) items w
    unfolding beginning
    from_start M small shallow i =
        can_write M small items (2 * length lead) (beginning (headed ver h)) ((all_left (headed ver h) (events items)).0 doc) (sane_first (headed ver h)) (sayable (events items) allowed short) shallow i tt may

    -- Every list of items whose events are a document, its strings as the requirements allow them, and whose choices are permitted behind a head that they allow, is written; it only has to be shorter than
    -- the room that the head leaves in a table.
    pub every_choice : {n : ℕ} → AtMost n (headed ver h) → n + length items ≤ top → WrittenAs ver h items w
    unfolding standard starting
    every_choice most few =
        let c = from_start (standard ver (deepest 0 (events items)) 0) (omega arith) (omega arith) (few_after (standard ver (deepest 0 (events items)) 0) most may few) in
        record {
          octets = lead ++ joined c.halves;
          last = c.last;
          writes = λ depth size deep long. document_of (wider ok.few_entries refl refl refl opens_it) (written (omega arith) (omega arith) deep c.rule) long;
          known = c.known;
        }

    -- Within the version's own limits too.
    pub every_choice_within : deepest 0 (events items) ≤ ver.depth → InLimits ver w → WrittenUnlessLong ver h items w
    every_choice_within shallow i =
        let c = from_start ver ok.few_entries shallow i in
        record { octets = lead ++ joined c.halves; last = c.last; writes = λ long. document_of opens_it c.rule long; known = c.known }

  -- So every document is, with the required choices.
  module _ (es : List (Event Octets)) (doc : IsDocument es) (allowed : All Allowed es) (short : All (λ e. All Sayable (strings_of e)) es) where
    abbrev same : events (items_of ver h es) ≡ es
    same = chosen_events ver (headed ver h) es

    abbrev may : PermitsAll (headed ver h) (items_of ver h es) (tables_after ver (headed ver h) es)
    may = chosen_permitted ver (headed ver h) es (sayable es allowed short) (opened_ranged opens_it)

    abbrev doc' : IsDocument (events (items_of ver h es))
    doc' = subst IsDocument (sym same) doc

    abbrev allowed' : All Allowed (events (items_of ver h es))
    allowed' = subst (All Allowed) (sym same) allowed

    abbrev short' : All (λ e. All Sayable (strings_of e)) (events (items_of ver h es))
    short' = subst (All (λ e. All Sayable (strings_of e))) (sym same) short

    pub every_document : {n : ℕ} → AtMost n (headed ver h) → n + length es ≤ top → WrittenWidely ver h es
    every_document most few =
        let l = length-map (items_of ver h es) (λ (i : Item Octets). i.event) in
        let k = ap length same in
        let c = every_choice (items_of ver h es) doc' allowed' short' may most (omega arith) in
        record { octets = c.octets; last = c.last; writes = λ depth size deep long. c.writes depth size (rw same deep) long; tables = c.known }

    -- Within the version's limits too, unless it is over one.
    pub beyond_limits : (w : WrittenWidely ver h es) → OrPasses ver h es w.last w.octets
    unfolding standard starting
    beyond_limits w =
        case ver.depth (deepest 0 es) over_depth λ shallow.
        case ver.octets (length w.octets) over_octets λ long.
        elim (in_limits ver (tables_after ver (headed ver h) es)) [
          | no f ↦ over_entries f
          | yes i ↦
              let c = from_start (items_of ver h es) doc' allowed' short' may ver ok.few_entries (rw same shallow) i in
              let ours : Octets = lead ++ joined c.halves in
              let size : ℕ = ver.octets + length ours in
              let wide : Document (standard ver ver.depth size) h (items_of ver h es) c.last ours =
              document_of (wider ok.few_entries refl refl refl opens_it) (written (omega arith) (omega arith) (omega arith) c.rule) (omega arith) in
              let o = one_document wide (w.writes ver.depth size shallow (omega arith)) in
              let l = ap length o.0 in
              within_limits (subst₂ (λ (s : Octets) (z : State Octets). Document ver h (items_of ver h es) z s) o.0 o.1 (document_of opens_it c.rule (omega arith)))
        ]

-- No head is a head that is allowed, and each table has at most its built-in entry then.
pub no_head_allowed : (ver : Version) → Bounded ver → HeadAllowed ver no_entries
no_head_allowed ver ok = (head_allowed ok (no_head ver)).0

pub no_head_few : (ver : Version) → AtMost 1 (headed ver no_entries)
no_head_few ver = rw (headed_none ver) (record { few = few_started ver; few_names = λ t. rw (none_started ver t) (omega arith) })
