-- What measuring promises of writing: with which room the events can be written, and where they are refused with less.
use Rattle.std.specs.Prelude.{ℕ, suc, ◌+◌, ◌-◌, ◌*◌, ◌/◌, ◌%◌, ◌^◌, ◌≤◌, ◌<◌, ◌≡◌, false, List, [], ◌∷◌, ◌++◌, length, replicate, ltb}
use Rattle.format.specs.Octets.{Octets, Halves, Words}
use Rattle.format.specs.Numbers.{pick}
use Rattle.format.specs.Tables.{Version}
use Rattle.format.specs.Items.{State}
use Rattle.format.specs.Document.{aligned, beginning}
use Rattle.format.specs.Refusals.{ROOM}
use Rattle.tables.specs.Located.{Located}
use Rattle.events.specs.declared.Event.{Event}
use Rattle.events.specs.FromWords.{records_of}
use Rattle.write_head.specs.Given.{Given, given_of}
use Rattle.write_head.specs.Head.{is_none, tables_of, head_octets}
use Rattle.write_items.specs.Events.{event_of}
use Rattle.write_items.specs.Items.{WroteItem, write_item}
use Rattle.write_items.specs.Steps.{announced, settled, halves_of}
use Rattle.writer.specs.Words.{WordsLeft, leaving, nothing, write_words, WordsMeasured, measured, measure_words}

module _ (ver : Version) (text : Octets) where
  -- How many octets are taken behind each of the events, from the half `at`; and at last behind the document's end. (An event's halves are the same in
  -- every room: halves_of makes no use of it.)
  unfoldable pub taken : ℕ → State Located → List Event → List ℕ
  taken at v [] = (aligned (suc at) / 2) ∷ []
  taken at v (e ∷ es) =
      let w : WroteItem = write_item ver text (announced (e ∷ es)) (settled v (event_of e.kind e)) (event_of e.kind e) in
      let hs : Halves = halves_of ver text ver.octets at v (event_of e.kind e) w in
      (aligned (at + length hs) / 2) ∷ taken (at + length hs) w.state es

  -- The same of a document, behind its head.
  unfoldable pub taken_by : Given → List Event → List ℕ
  taken_by g es = taken (2 * length (head_octets ver text g)) (beginning (tables_of ver g)) es

-- The number of the first that is above r; if none is, how many there are.
unfoldable pub first_above : ℕ → List ℕ → ℕ
first_above r [] = 0
first_above r (n ∷ ns) = pick (ltb r n) 0 (suc (first_above r ns))

-- For these words, this text area, and t and c words for tables and counts:
module _ (ver : Version) (given records : Words) (text : Octets) (t c : ℕ) where
  -- what writing leaves, with r octets lent; and what measuring does
  abbrev pub wrote : (r : ℕ) → WordsLeft
  wrote r = write_words ver given records text r t c

  abbrev pub found : WordsMeasured
  found = measure_words ver given records text t c

  -- the number of the first event behind which more than r octets are taken; the document's end is one more
  abbrev pub beyond : (r : ℕ) → ℕ
  beyond r = first_above r (taken_by ver text (given_of given) (records_of records))

  -- What measuring refuses with the answer k, at place k / 32, writing with r octets lent refuses:
  pub data RefusesToo (k r : ℕ) : Type 0 where
    -- alike, if behind no event before that one more is taken than is lent; the last case comes before this one
    alike : k / 32 ≤ beyond r → wrote r ≡ nothing k r t c → RefusesToo k r
    -- if it is behind one, at the first such event, for want of room
    sooner : beyond r < k / 32 → wrote r ≡ nothing (beyond r * 32 + ROOM) r t c → RefusesToo k r
    -- and if a head that lists entries is longer than what is lent, before it looks at event 0
    head : k / 32 ≡ 0 → is_none (given_of given) ≡ false → r < length (head_octets ver text (given_of given)) → wrote r ≡ nothing ROOM r t c → RefusesToo k r

  pub record Measures : Type 0 where
    -- with room for the longest document, or more, writing answers and leaves what measuring does, beside the octets: the same refusal at the same place,
    -- or the same octet count
    pub same : (r : ℕ) → ver.octets ≤ r → measured (wrote r).answer (wrote r).tables (wrote r).counts ≡ found
    -- where measuring gives n octets, there is one document of n octets, which writing leaves in every room of n or more, with the tables and counts of
    -- measuring ..
    pub enough : (n : ℕ) → found.answer ≡ n * 2 ^ 32
        → (s : Octets) × (length s ≡ n) × (n ≤ ver.octets)
        × ((r : ℕ) → n ≤ r → wrote r ≡ leaving (n * 2 ^ 32) (s ++ replicate (r - n) 0) found.tables found.counts)
    -- .. and with less room it refuses the first event behind which more is taken than is lent, and leaves nothing
    pub less : (n : ℕ) → found.answer ≡ n * 2 ^ 32 → (r : ℕ) → r < n → wrote r ≡ nothing (beyond r * 32 + ROOM) r t c
    -- any other answer is a refusal, and so is writing's in every room
    pub refuses : (k : ℕ) → found.answer ≡ k → 0 < k % 2 ^ 32 → (r : ℕ) → RefusesToo k r
