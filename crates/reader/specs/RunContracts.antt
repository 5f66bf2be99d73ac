-- Contracts of the code, not definitions to be believed. How a run's answers stand for the reading definition, and what it keeps in lent words.
use Rattle.std.specs.Prelude as Std
use Rattle.std.specs.Prelude.{ℕ, ◌+◌, ◌*◌, ◌^◌, ◌≤◌, ◌≡◌, List, [], ◌∷◌, ◌++◌, length, Ok, Err}
use Rattle.std.proofs.lemmas.List.Edits.{sets}
use Rattle.format.specs.Octets.{Octets, Words}
use Rattle.format.specs.Refusals.{refusal_number}
use Rattle.format.specs.declared.refusals.Fault.{Fault}
use Rattle.format.specs.Tables.{Vocabulary, link}
use Rattle.tables.specs.Located.{Located, start}
use Rattle.tables.specs.Rows.{vocabulary}
use Rattle.tables.specs.Kept.{unlisted, Clean}
use Rattle.events.specs.Words.{record_words}
use Rattle.read_names.specs.Promises.{Tidy}
use Rattle.read_head.specs.Head.{head_at}
use Rattle.read_head.specs.Promises.{seen_passed}
use Rattle.reader.specs.declared.run.Front.{Front}
use Rattle.reader.specs.declared.run.Front.TheVariants.{Head, Body}
use Rattle.reader.specs.Reading as R
use Rattle.reader.specs.Reading.{EventRead, record_read, Result, accepted, refusal}
use Rattle.reader.specs.Words.{WordsLeft, leaving, nothing}

-- ---- what stands before the first item
-- After the header of s: a head, which is still to be read from the starting tables; or the body.
abbrev pub opening_of : Octets → Std.Result Front Fault → R.Opening
opening_of s (Ok (Head at)) = R.behind_head (head_at link s at (start link))
opening_of s (Ok (Body at)) = R.onward at (start link)
opening_of s (Err f) = R.halt (refusal_number f.refusal) f.at

abbrev pub OpenedIn : Octets → Std.Result Front Fault → Type 0
OpenedIn s (Ok (Head at)) = (at ≤ length s) × (length s ≤ 16384)
OpenedIn s (Ok (Body at)) = (at ≤ length s) × (length s ≤ 16384)
OpenedIn s (Err f) = f.at ≤ 16384

-- The answer stands for the definition's, and its place is one of the document.
pub record Opened (s : Octets) (r : Std.Result Front Fault) (o : R.Opening) : Type 0 where
  pub is : opening_of s r ≡ o
  pub within : OpenedIn s r

-- Where the body starts: the words of counts and tables are c and w then, the index is x, and they are in order.
abbrev pub StartsIn : Octets → Std.Result ℕ Fault → (c w : Words) → Octets → Type 0
StartsIn s (Ok body) c w x = (body ≤ length s) × Tidy s c w x
StartsIn s (Err f) c w x = f.at ≤ 16384

pub record Starts (s : Octets) (r : Std.Result ℕ Fault) (c w : Words) (x : Octets) : Type 0 where
  pub is : R.behind_head (seen_passed r c w) ≡ R.opening link s
  pub within : StartsIn s r c w x

-- ---- how a run ends: so many events, and the tables; or a refusal
pub data Ending : Type 0 where
  ended : (events : ℕ) → Vocabulary Located → Ending
  faulty : (number place : ℕ) → Ending

-- With n events before it.
abbrev pub ending_of : ℕ → Result → Ending
ending_of n (accepted es m) = ended (n + length es) m.state.tables
ending_of n (refusal k p) = faulty k p

-- The counts are the words c, the tables the words w.
abbrev pub seen_ending : Std.Result ℕ Fault → (c w : Words) → Ending
seen_ending (Ok n) c w = ended n (vocabulary (unlisted c) w)
seen_ending (Err f) c w = faulty (refusal_number f.refusal) f.at

-- ---- events in records of 14 words
unfoldable pub event_words : List EventRead → Words
event_words [] = []
event_words (e ∷ es) = record_words (record_read e) ++ event_words es

-- Words with the events of a run from record n on. A refusal promises nothing of them.
abbrev pub kept_from : Words → ℕ → Result → Words
kept_from w n (accepted es m) = sets w (14 * n) (event_words es)
kept_from w n (refusal k p) = []

abbrev pub Keeps : Std.Result ℕ Fault → Words → Words → Type 0
Keeps (Ok n) v w = v ≡ w
Keeps (Err f) v w = Unit {0}

-- ---- a run's answer
-- Its number fits 32 bits.
abbrev pub Small : Std.Result ℕ Fault → Type 0
Small (Ok n) = n ≤ 32769
Small (Err f) = f.at ≤ 16384

-- A refusal for C: the place times 32 plus the number.
abbrev pub fault_number : Fault → ℕ
fault_number f = f.at * 32 + refusal_number f.refusal

-- An accepted document has no more events than records, and its words of counts and tables say what its tables are and nothing else.
abbrev pub Settled : ℕ → Std.Result ℕ Fault → (c w : Words) → Type 0
Settled room (Ok n) c w = (n ≤ room) × (length c ≡ 10) × Clean (unlisted c) w
Settled room (Err f) c w = Unit {0}

-- A run with records for `room` events came out as x; v were the words for records before, and c', w' and v' are those of counts, tables and records then.
pub record Ran (room : ℕ) (v : Words) (r : Std.Result ℕ Fault) (c' w' v' : Words) (x : Result) : Type 0 where
  pub is : seen_ending r c' w' ≡ ending_of 0 x
  pub small : Small r
  pub settled : Settled room r c' w'
  pub keeps : 14 * room ≤ length v → Keeps r v' (kept_from v 0 x)

-- ---- a run into words
-- What it leaves in r, t and c words, which are v, w and d then: on a refusal, every word is still to be made 0.
abbrev pub left_by : Std.Result ℕ Fault → (r t c : ℕ) → (v w d : Words) → WordsLeft
left_by (Ok n) r t c v w d = leaving (n * 2 ^ 32) v w d
left_by (Err f) r t c v w d = nothing (fault_number f) r t c
