-- THE THREE DEMANDS, as statements of what the calls answer and leave: `Demand1`, `Demand2`, `Demand3` at the end of this file, and before them what each call owes. The
-- contracts equate what a call answers and leaves with `check_of`, `read_of`, `read_words`, `write_of`, `write_words` and `measure_words`. That the demands hold of these is proofs/Theorems.
use Rattle.std.specs.Prelude.{ℕ, ◌+◌, ◌-◌, ◌*◌, ◌/◌, ◌%◌, ◌^◌, ◌≤◌, ◌<◌, ◌≡◌, true, ◌↔◌, List, [], ◌∷◌, ◌++◌, map, length, get_or, take, replicate, Result}
use Rattle.format.specs.Octets.{Octets, Halves, Words, AreOctets}
use Rattle.format.specs.Refusals.{SIZE, TEXT, REPEAT, FULL, DEPTH, ROOM, EVENT}
use Rattle.format.specs.declared.refusals.Fault.{Fault as CallFault}
use Rattle.format.specs.Numbers.{longest}
use Rattle.format.specs.Events as E
use Rattle.format.specs.Events.{Item, IsDocument, strings_of, deepest}
use Rattle.format.specs.Tables.{StringTable, NameTable, Tables, Vocabulary, strings, names, vocabulary_map, no_entries, followed_by, Version, InLimits}
use Rattle.format.specs.Head.{Head, Opens}
use Rattle.format.specs.Items.{State}
use Rattle.format.specs.Document.{known_after, Document}
use Rattle.format.specs.Uses.{acts, after, Known, Holds}
use Rattle.format.specs.Allowed.{All, Allowed}
use Rattle.tables.specs.Located.{Located, listed_as, plain, plain_tables, plain_state, start}
use Rattle.tables.specs.Counts.{table_words, entry_words, words_of}
use Rattle.tables.specs.Told.{told_accepted, told_refused, entries_of, low_word, whole_word}
use Rattle.events.specs.declared.Kind.TheVariants.{Blank, End}
use Rattle.events.specs.declared.Event.{Event}
use Rattle.events.specs.Records.{blank, record_of, unplaced}
use Rattle.events.specs.WellMade.{WellMade}
use Rattle.events.specs.Words.{record_words, row_words}
use Rattle.events.specs.FromWords.{records_of, AllKinded}
use Rattle.reader.specs.declared.Accepted as Reader
use Rattle.reader.specs.Reading as Read
use Rattle.reader.specs.Words as ReadWords
use Rattle.write_head.specs.Given.{Given, is_given, given_of}
use Rattle.write_head.specs.Head.{tables_of, head_octets}
use Rattle.writer.specs.declared.Accepted as Writer
use Rattle.write_items.specs.Steps.{joined}
use Rattle.writer.specs.Writing as Write
use Rattle.writer.specs.Words as WriteWords
use Rattle.theorems.specs.Acts.{all_numbers, used, HoldAfter}
use Rattle.theorems.specs.Heads.{headed, NamesParts, HeadAllowed, all_listed}
use Rattle.theorems.specs.Places.{all_spelled, spelled_in, listed_in, places_in}
use Rattle.theorems.specs.Permitted.{PermitsAll}
use Rattle.theorems.specs.Verdicts.{plains, items_of, WrittenUnlessLong, head_of, AreEntries, HeadFault, HeadRight, Refused}
use Rattle.theorems.specs.Given.{given_words}

-- ---- what each call owes by demand 1
-- A number that the requirements give a reader; and one that they give a writer.
abbrev pub ReaderNumber : ℕ → Type 0
ReaderNumber n = (1 ≤ n) × (n ≤ 15)

pub data WriterNumber : ℕ → Type 0 where
  size : WriterNumber SIZE
  text : WriterNumber TEXT
  repeat : WriterNumber REPEAT
  full : WriterNumber FULL
  depth : WriterNumber DEPTH
  room : WriterNumber ROOM
  event : WriterNumber EVENT

pub data CheckAnswers (s : Octets) : ℕ → Type 0 where
  passes : CheckAnswers s 0
  fails : {n p : ℕ} → ReaderNumber n → (n ≡ ROOM → ⊥) → p ≤ length s → CheckAnswers s (p * 32 + n)

pub data ReadAnswers (s : Octets) (room table : ℕ) (o : Read.Outcome) : Type 0 where
  accepts : o.told.number ≡ 0 → o.told.place ≡ 0 → ReadAnswers s room table o
  refuses : {n p : ℕ} → ReaderNumber n → p ≤ length s → o.told ≡ told_refused n p → o.row ≡ replicate room blank → o.tables ≡ replicate table 0 → ReadAnswers s room table o

pub data ReadWordsAnswer (s : Octets) (r t c : ℕ) (w : ReadWords.WordsLeft) : Type 0 where
  accepts : w.answer % 2 ^ 32 ≡ 0 → ReadWordsAnswer s r t c w
  refuses : {n p : ℕ} → ReaderNumber n → p ≤ length s → w.answer ≡ p * 32 + n → w.records ≡ replicate r 0 → w.tables ≡ replicate t 0 → w.counts ≡ replicate c 0 → ReadWordsAnswer s r t c w

pub data WriteAnswers (es : List Event) (room table : ℕ) (o : Write.Outcome) : Type 0 where
  accepts : o.told.number ≡ 0 → o.told.place ≡ 0 → WriteAnswers es room table o
  refuses : {n p : ℕ} → WriterNumber n → p ≤ length es → o.told ≡ told_refused n p → o.out ≡ replicate room 0 → o.tables ≡ replicate table 0 → WriteAnswers es room table o

pub data WriteWordsAnswer (es : List Event) (r t c : ℕ) (w : WriteWords.WordsLeft) : Type 0 where
  accepts : w.answer % 2 ^ 32 ≡ 0 → WriteWordsAnswer es r t c w
  refuses : {n p : ℕ} → WriterNumber n → p ≤ length es → w.answer ≡ p * 32 + n → w.out ≡ replicate r 0 → w.tables ≡ replicate t 0 → w.counts ≡ replicate c 0 → WriteWordsAnswer es r t c w

pub data MeasureWordsAnswer (es : List Event) (t c : ℕ) (w : WriteWords.WordsMeasured) : Type 0 where
  accepts : w.answer % 2 ^ 32 ≡ 0 → MeasureWordsAnswer es t c w
  refuses : {n p : ℕ} → WriterNumber n → p ≤ length es → w.answer ≡ p * 32 + n → w.tables ≡ replicate t 0 → w.counts ≡ replicate c 0 → MeasureWordsAnswer es t c w

-- ---- what a call that reads owes by demand 3
-- The places in a row of records (the seventh change): n events of the document s are in its first n records.
pub record EventPlaces (ver : Version) (s : Octets) (n : ℕ) (row : List Event) : Type 0 where
  -- a call that is lent records for only i events refuses event number i, counted from 0, as ROOM at this place
  pub of_room : (i : ℕ) → i < n → (Read.read_of ver s i table_words).told ≡ told_refused ROOM (get_or row i blank).place
  -- places never fall; two records with one place are both Ends
  pub never_fall : (i j : ℕ) → i ≤ j → j < n → (get_or row i blank).place ≤ (get_or row j blank).place
  pub shared_by_ends : (i j : ℕ) → i < j → j < n → (get_or row i blank).place ≡ (get_or row j blank).place → ((get_or row i blank).kind ≡ End) × ((get_or row j blank).kind ≡ End)
  -- each is an octet of the document; the records behind have place 0
  pub inside : (i : ℕ) → i < n → (get_or row i blank).place < length s
  pub none_behind : (i : ℕ) → n ≤ i → (get_or row i blank).place ≡ 0

-- For this head and these items, which the rules write by the derivation w, the call left their records, blank ones behind them, and their tables; its answer has the counts. Each
-- event has the place at which the rules write it. Each record is as the requirements' "Events" has it; each spelled string has the place at which the
-- rules write it, and each number names an entry that is built in, listed or made earlier, at its very place. The tables hold what is built in, then what the head lists, each string at the place
-- at which the rules list it, then what the events made, each entry at its very place.
pub record HandsOut (ver : Version) (s : Octets) (room : ℕ) (h : Head) (items : List (Item Octets)) (z : State Octets) (w : Document ver h items z s) (o : Read.Outcome) : Type 0 where
  pub events : List (Item Located)
  pub tables : Vocabulary Located
  pub answer : o.told ≡ told_accepted (length items) (entries_of z.tables)
  -- the records without their places are those of the events, with blank ones behind them; and these are their places
  pub row : map unplaced o.row ≡ map (λ (i : Item Located). record_of i.event) events ++ replicate (room - length items) blank
  pub places : map (λ (e : Event). e.place) o.row ≡ places_in w.rule ++ replicate (room - length items) 0
  pub event_places : EventPlaces ver s (length items) o.row
  pub table_words_lem : o.tables ≡ words_of entry_words tables
  pub events_are : map (plain s) events ≡ items
  pub tables_are : plain_tables s tables ≡ z.tables
  pub well_made : All (WellMade s) (take (length items) o.row)
  pub spelled : all_spelled events ≡ spelled_in w.rule
  -- the head's entries, and the tables behind it with the names themselves
  pub head : Vocabulary Located
  pub begins : Tables Located (E.Name Located)
  pub head_is : vocabulary_map (listed_as s) head ≡ h
  pub listed : all_listed head ≡ listed_in w.opens
  pub begins_with : Holds (followed_by (start ver) head) begins
  -- the numbers of a listed name, too, are those of entries that are built in or listed
  pub named : (t : NameTable) → All (NamesParts (followed_by (start ver) head)) (names head t)
  pub earlier : Known begins (acts events)
  pub tables_made : Holds tables (after begins (acts events))

pub record ReadsExactly (ver : Version) (s : Octets) (room table : ℕ) (o : Read.Outcome) : Type 0 where
  -- what the rules write is accepted, if there is a record for each event and the right table room, and this is handed out
  pub accepts : (h : Head) (items : List (Item Octets)) (z : State Octets) (w : Document ver h items z s) → length items ≤ room → table ≡ table_words → HandsOut ver s room h items z w o
  -- and nothing else is accepted
  pub only : o.told.number ≡ 0 → (h : Head) × (items : List (Item Octets)) × (z : State Octets) × Document ver h items z s × (length items ≤ room) × (table ≡ table_words)
  -- there is one such head, with one such list of events and choices
  pub one_pair : (g h : Head) (items others : List (Item Octets)) (y z : State Octets) → Document ver g items y s → Document ver h others z s → (g ≡ h) × (items ≡ others) × (y ≡ z)

-- ---- what a call that writes owes by demand 2
-- The requirements give no number to refuse these records, and the tables that these words give for the head, over this text area, with this room; s is the document that the rules write from them,
-- and z what they know at its end.
pub record Acceptable (ver : Version) (given : Words) (es : List Event) (text : Octets) (room table : ℕ) (s : Octets) (z : State Octets) : Type 0 where
  pub text_size : length text ≤ ver.octets
  pub table_room : table ≡ table_words
  pub gives : is_given given ≡ true
  pub entries : AreEntries ver text (given_of given)
  pub well_made : All (WellMade text) es
  pub writes : Document ver (head_of ver text (given_of given)) (items_of ver (head_of ver text (given_of given)) (plains text es)) z s
  pub fits : length s ≤ room

-- The writer's definition writes them as these octets, and knows this at the end.
pub record Wrote (ver : Version) (g : Given) (es : List Event) (text : Octets) (room : ℕ) (s : Octets) (z : State Octets) : Type 0 where
  pub items : List (Item Located)
  pub halves : Halves
  pub last : State Located
  pub is : Write.writing ver g text room es ≡ Write.written items halves last
  pub octets : head_octets ver text g ++ joined halves ≡ s
  pub known : plain_state text last ≡ z

-- The call left these octets, 0 behind them, and tables that are these as octets; its answer has their counts. The items are the records given, but for their places, with the required choices;
-- the tables of strings hold what is built in, what was given for the head and what these items made, each entry at the very place that its words or its record gave. (A name is numbers, so it has no place.)
pub record LeavesWritten (ver : Version) (g : Given) (es : List Event) (text : Octets) (room : ℕ) (s : Octets) (z : State Octets) (o : Write.Outcome) : Type 0 where
  pub items : List (Item Located)
  pub tables : Vocabulary Located
  pub answer : o.told ≡ told_accepted (length s) (entries_of z.tables)
  pub octets : o.out ≡ s ++ replicate (room - length s) 0
  pub table_words_lem : o.tables ≡ words_of entry_words tables
  pub tables_are : plain_tables text tables ≡ z.tables
  pub given : map (λ (i : Item Located). record_of i.event) items ≡ map unplaced es
  pub chosen : map (plain text) items ≡ items_of ver (head_of ver text g) (plains text es)
  pub begins : Tables Located (E.Name Located)
  pub begins_with : Holds (tables_of ver g) begins
  pub strings_made : (t : StringTable) → strings tables t ≡ strings (after begins (acts items)) t

-- The requirements refuse these words and records with this number at this place.
pub data RefusedBy (ver : Version) (given : Words) (es : List Event) (text : Octets) (room table : ℕ) : (number place : ℕ) → Type 0 where
  text_too_long : ver.octets < length text → RefusedBy ver given es text room table SIZE 0
  wrong_table_room : length text ≤ ver.octets → (table ≡ table_words → ⊥) → RefusedBy ver given es text room table ROOM 0
  wrong_words : length text ≤ ver.octets → table ≡ table_words → (is_given given ≡ true → ⊥) → RefusedBy ver given es text room table EVENT 0
  at_head : {n : ℕ} → length text ≤ ver.octets → table ≡ table_words → is_given given ≡ true → HeadFault ver text (given_of given) room n → RefusedBy ver given es text room table n 0
  at_events : {n p : ℕ} → length text ≤ ver.octets → table ≡ table_words → is_given given ≡ true → HeadRight ver text (given_of given) room
      → Refused ver (head_of ver text (given_of given)) text room es n p → RefusedBy ver given es text room table n p

pub record WritesExactly (ver : Version) (given : Words) (es : List Event) (text : Octets) (room table : ℕ) (o : Write.Outcome) : Type 0 where
  -- what the requirements give no number to refuse is accepted, as the rules write it
  pub accepts : (s : Octets) (z : State Octets) → Acceptable ver given es text room table s z → LeavesWritten ver (given_of given) es text room s z o
  -- and nothing else is
  pub only : o.told.number ≡ 0 → (s : Octets) × (z : State Octets) × Acceptable ver given es text room table s z
  -- reading it, with a record for each event, hands out the events that were given, and the same tables
  pub back : (s : Octets) (z : State Octets) (a : Acceptable ver given es text room table s z) (records : ℕ) → length es ≤ records
      → HandsOut ver s records (head_of ver text (given_of given)) (items_of ver (head_of ver text (given_of given)) (plains text es)) z a.writes (Read.read_of ver s records table_words)
  -- each refusal, its number and its place, is the requirements'
  pub refuses : (n p : ℕ) → (o.told ≡ told_refused n p) ↔ RefusedBy ver given es text room table n p

-- What lomphachit_read leaves in 32-bit words: the outcome o of reading into a row of records, and 0 in the r % 14 words behind the last whole record.
pub record InReadWords (r : ℕ) (o : Read.Outcome) (w : ReadWords.WordsLeft) : Type 0 where
  pub answer : w.answer ≡ whole_word o.told
  pub records : w.records ≡ row_words o.row ++ replicate (r % 14) 0
  -- so the last word of each record is its place
  pub places : (i : ℕ) → get_or w.records (14 * i + 13) 0 ≡ (get_or o.row i blank).place
  pub tables : w.tables ≡ o.tables
  pub counts : w.counts ≡ o.told.counts

pub record InWriteWords (o : Write.Outcome) (w : WriteWords.WordsLeft) : Type 0 where
  pub answer : w.answer ≡ whole_word o.told
  pub out : w.out ≡ o.out
  pub tables : w.tables ≡ o.tables
  pub counts : w.counts ≡ o.told.counts

-- What lomphachit_read and lomphachit_write owe: the same in 32-bit words. r, t and c are the words lent for records (writer: the octets of output), tables and counts.
pub record ReadsExactlyInWords (ver : Version) (s : Octets) (r t c : ℕ) (w : ReadWords.WordsLeft) : Type 0 where
  -- what the rules write is accepted, if there are 14 words for each event and the right room for tables and counts, and this is handed out
  pub accepts : (h : Head) (items : List (Item Octets)) (z : State Octets) (u : Document ver h items z s) → length items ≤ r / 14 → t ≡ table_words → c ≡ 10
      → (o : Read.Outcome) × HandsOut ver s (r / 14) h items z u o × InReadWords r o w
  -- and nothing else is accepted
  pub only : w.answer % 2 ^ 32 ≡ 0 → (h : Head) × (items : List (Item Octets)) × (z : State Octets) × Document ver h items z s × (length items ≤ r / 14) × (t ≡ table_words) × (c ≡ 10)
  -- whatever is answered, a refusal too, is what reading into a row of records answers and leaves
  pub as_row : c ≡ 10 → InReadWords r (Read.read_of ver s (r / 14) t) w

-- The requirements refuse records given as words with this number at this place: SIZE first, then the room of the counts, then as RefusedBy.
pub data WordsRefusedBy (ver : Version) (given : Words) (es : List Event) (text : Octets) (r t c : ℕ) : (number place : ℕ) → Type 0 where
  text_too_long : ver.octets < length text → WordsRefusedBy ver given es text r t c SIZE 0
  wrong_count_room : length text ≤ ver.octets → (c ≡ 10 → ⊥) → WordsRefusedBy ver given es text r t c ROOM 0
  as_records : {n p : ℕ} → c ≡ 10 → RefusedBy ver given es text r t n p → WordsRefusedBy ver given es text r t c n p

pub record WritesExactlyInWords (ver : Version) (given : Words) (es : List Event) (text : Octets) (r t c : ℕ) (w : WriteWords.WordsLeft) : Type 0 where
  pub accepts : (s : Octets) (z : State Octets) → Acceptable ver given es text r t s z → c ≡ 10 → (o : Write.Outcome) × LeavesWritten ver (given_of given) es text r s z o × InWriteWords o w
  pub only : w.answer % 2 ^ 32 ≡ 0 → (c ≡ 10) × ((s : Octets) × (z : State Octets) × Acceptable ver given es text r t s z)
  pub refuses : (n p : ℕ) → 1 ≤ n → n < 32 → (w.answer ≡ p * 32 + n) ↔ WordsRefusedBy ver given es text r t c n p

-- Records as words that are the same but for places, the last words of the records.
abbrev pub SameButPlaces : Words → Words → Type 0
SameButPlaces a b = (length a ≡ length b) × ((i : ℕ) → (i % 14 ≡ 13 → ⊥) → get_or a i 0 ≡ get_or b i 0)

-- ---- THE DEMANDS, of all calls of a version.
-- 1. Every input is answered. A refusal has one of the requirements' numbers and a place, and blanks everything that was lent. What stood in the lent room never matters: two
-- calls on the same input, with as much room, answer and leave the same.
pub record Demand1 (ver : Version) : Type 0 where
  pub check : (s : Octets) → AreOctets s → CheckAnswers s (Read.check_of ver s)
  pub read : (s : Octets) → AreOctets s → (room table : ℕ) → ReadAnswers s room table (Read.read_of ver s room table)
  pub read-words : (s : Octets) → AreOctets s → (r t c : ℕ) → ReadWordsAnswer s r t c (ReadWords.read_words ver s r t c)
  pub write : (given : Words) (es : List Event) (text : Octets) (room table : ℕ) → WriteAnswers es room table (Write.write_of ver given es text room table)
  pub write_words_lem : (given records : Words) (text : Octets) (r t c : ℕ) → WriteWordsAnswer (records_of records) r t c (WriteWords.write_words ver given records text r t c)
  pub measure_words : (given records : Words) (text : Octets) (t c : ℕ) → MeasureWordsAnswer (records_of records) t c (WriteWords.measure_words ver given records text t c)
  pub read_again : (s : Octets) (e f : List Event) (t u : Words) (a b : Result Reader.Accepted CallFault) (e' f' : List Event) (t' u' : Words) → length e ≡ length f → length t ≡ length u
      → Read.Leaves a e' t' (Read.read_of ver s (length e) (length t)) → Read.Leaves b f' u' (Read.read_of ver s (length f) (length u)) → (a ≡ b) × (e' ≡ f') × (t' ≡ u')
  pub read-words_again : (s : Octets) (r q t u c d : Words) (a b : ℕ) (r' q' t' u' c' d' : Words) → length r ≡ length q → length t ≡ length u → length c ≡ length d
      → ReadWords.leaving a r' t' c' ≡ ReadWords.read_words ver s (length r) (length t) (length c) → ReadWords.leaving b q' u' d' ≡ ReadWords.read_words ver s (length q) (length u) (length d)
      → ReadWords.leaving a r' t' c' ≡ ReadWords.leaving b q' u' d'
  pub write_again : (given : Words) (es : List Event) (text o p : Octets) (t u : Words) (a b : Result Writer.Accepted CallFault) (o' p' : Octets) (t' u' : Words) → length o ≡ length p → length t ≡ length u
      → Write.Leaves a o' t' (Write.write_of ver given es text (length o) (length t)) → Write.Leaves b p' u' (Write.write_of ver given es text (length p) (length u)) → (a ≡ b) × (o' ≡ p') × (t' ≡ u')
  pub write_words_again : (given records : Words) (text o p : Octets) (t u c d : Words) (a b : ℕ) (o' p' : Octets) (t' u' c' d' : Words) → length o ≡ length p → length t ≡ length u → length c ≡ length d
      → WriteWords.leaving a o' t' c' ≡ WriteWords.write_words ver given records text (length o) (length t) (length c)
      → WriteWords.leaving b p' u' d' ≡ WriteWords.write_words ver given records text (length p) (length u) (length d)
      → WriteWords.leaving a o' t' c' ≡ WriteWords.leaving b p' u' d'
  pub measure_words_again : (given records : Words) (text : Octets) (t u c d : Words) (a b : ℕ) (t' u' c' d' : Words) → length t ≡ length u → length c ≡ length d
      → WriteWords.measured a t' c' ≡ WriteWords.measure_words ver given records text (length t) (length c)
      → WriteWords.measured b u' d' ≡ WriteWords.measure_words ver given records text (length u) (length d)
      → WriteWords.measured a t' c' ≡ WriteWords.measured b u' d'

-- 2. The writer accepts whatever the requirements give it no number to refuse, as the rules write it with the required choices; reading that gives back the events and, after
-- the head and after each of them, the same tables.
pub record Demand2 (ver : Version) : Type 0 where
  pub write : (given : Words) (es : List Event) (text : Octets) (room table : ℕ) → WritesExactly ver given es text room table (Write.write_of ver given es text room table)
  pub write_words_lem : (given records : Words) (text : Octets) (r t c : ℕ) → WritesExactlyInWords ver given (records_of records) text r t c (WriteWords.write_words ver given records text r t c)
  pub same_head : (given : Words) (es : List Event) (text : Octets) (room table : ℕ) (s : Octets) (z : State Octets) → Acceptable ver given es text room table s z
      → (tables : Vocabulary Located) × (Read.opening ver s ≡ Read.onward (length (head_octets ver text (given_of given))) tables) × (plain_tables s tables ≡ plain_tables text (tables_of ver (given_of given)))
  pub same_tables : (given : Words) (es : List Event) (text : Octets) (room table : ℕ) (s : Octets) (z : State Octets) → Acceptable ver given es text room table s z
      → (map (λ (k : Read.Mark). plain_state s k.stand.state) (Read.marks ver s) ≡ map (plain_state text) (Write.known_writing ver (given_of given) text room es))
      × (length (Write.known_writing ver (given_of given) text room es) ≡ length es)
  -- a writer does not look at places: of events that are the same but for these, every answer and all that is left is the same
  pub places_ignored : (given : Words) (es fs : List Event) (text : Octets) (room table : ℕ) → map unplaced es ≡ map unplaced fs → Write.write_of ver given es text room table ≡ Write.write_of ver given fs text room table
  pub places_ignored_in_words : (given records others : Words) (text : Octets) (r t c : ℕ) → SameButPlaces records others
      → (WriteWords.write_words ver given records text r t c ≡ WriteWords.write_words ver given others text r t c) × (WriteWords.measure_words ver given records text t c ≡ WriteWords.measure_words ver given others text t c)
  -- the words of records give these very records, with their places; words behind the last whole record say nothing; and no other words pass for those of an event
  pub records_back : (es : List Event) (rest : Words) → length rest < 14 → AllKinded es → records_of (row_words es ++ rest) ≡ es
  pub records_only : (words : Words) (n i : ℕ) → n < length words / 14 → i < 14 → ((get_or (records_of words) n blank).kind ≡ Blank → ⊥) → get_or words (14 * n + i) 0 ≡ get_or (record_words (get_or (records_of words) n blank)) i 0
  -- the words of given tables, ten counts and three words for each entry, give these very tables; no words give none; and no other words pass for right ones
  pub given_back : (g : Given) → (is_given (given_words g) ≡ true) × (given_of (given_words g) ≡ g)
  pub given_none : (is_given [] ≡ true) × (given_of [] ≡ no_entries)
  pub given_only : (words : Words) (text : Octets) → is_given words ≡ true → AreEntries ver text (given_of words) → (words ≡ [] → ⊥) → words ≡ given_words (given_of words)

-- 3. Octets are accepted exactly when the rules write them from some head, events and choices, the forms of strings among them; there is one such head with one such pair, and its events are handed out.
pub record Demand3 (ver : Version) : Type 0 where
  pub read : (s : Octets) → AreOctets s → (room table : ℕ) → ReadsExactly ver s room table (Read.read_of ver s room table)
  pub read-words : (s : Octets) → AreOctets s → (r t c : ℕ) → ReadsExactlyInWords ver s r t c (ReadWords.read_words ver s r t c)
  pub check : (s : Octets) → AreOctets s → (Read.check_of ver s ≡ 0) ↔ ((h : Head) × (items : List (Item Octets)) × (z : State Octets) × Document ver h items z s)
  -- the check answers, refusals too, as reading with a record for each half does
  pub check_as_read : (s : Octets) → AreOctets s → Read.check_of ver s ≡ low_word (Read.read_of ver s (2 * ver.octets) table_words).told

-- The rules themselves, on which 2 and 3 rest, are neither too wide nor too narrow. What they write is an allowed head and a document of allowed events with permitted choices, and they
-- write every such head and list within the version's limits, with every permitted choice, as one run of octets.
pub record RulesExact (ver : Version) : Type 0 where
  pub head_allowed : (h : Head) (o : Octets) (v : Vocabulary Octets) → Opens ver h o v → HeadAllowed ver h × (v ≡ headed ver h)
  pub every_head : (h : Head) → HeadAllowed ver h → (o : Octets) × Opens ver h o (headed ver h)
  pub begins : (h : Head) (o : Octets) (v : Vocabulary Octets) → Opens ver h o v → (names : Tables Octets (E.Name Octets)) × Holds v names
  pub a_document : (h : Head) (items : List (Item Octets)) (z : State Octets) (s : Octets) → Document ver h items z s → IsDocument (map (λ (i : Item Octets). i.event) items)
  pub allowed : (h : Head) (items : List (Item Octets)) (z : State Octets) (s : Octets) → Document ver h items z s → All (λ (i : Item Octets). Allowed i.event) items
  pub permitted : (h : Head) (items : List (Item Octets)) (z : State Octets) (s : Octets) → Document ver h items z s → PermitsAll (headed ver h) items z.tables
  pub one_document : (h : Head) (items : List (Item Octets)) (y z : State Octets) (s t : Octets) → Document ver h items y s → Document ver h items z t → (s ≡ t) × (y ≡ z)
  -- the acts, of which `earlier` and `tables_made` speak above, use every number of the choices; and what is known after each item is what the acts up to it made, behind the head
  pub every-number : (h : Head) (items : List (Item Octets)) (z : State Octets) (s : Octets) → Document ver h items z s → used (acts items) ≡ all_numbers items
  pub tables_after : (h : Head) (items : List (Item Octets)) (z : State Octets) (s : Octets) (w : Document ver h items z s) (begins : Tables Octets (E.Name Octets)) → Holds (headed ver h) begins
      → HoldAfter begins items (known_after ver w.rule)
  pub every_choice : (h : Head) (items : List (Item Octets)) (w : Vocabulary Octets) → HeadAllowed ver h → IsDocument (map (λ (i : Item Octets). i.event) items)
      → All Allowed (map (λ (i : Item Octets). i.event) items)
      → All (λ (e : E.Event Octets). All (λ (x : Octets). length x ≤ longest) (strings_of e)) (map (λ (i : Item Octets). i.event) items) → PermitsAll (headed ver h) items w
      → deepest 0 (map (λ (i : Item Octets). i.event) items) ≤ ver.depth → InLimits ver w → WrittenUnlessLong ver h items w

-- What the demands say of a version they say of the link with the requirements' own values ("Limits", "Header"; the first change), spelled here a second time.
pub record AsRequired (ver : Version) : Type 0 where
  pub octets : ver.octets ≡ 16384
  pub entries : ver.entries ≡ 256
  pub depth : ver.depth ≡ 32
  pub identification : ver.identification ≡ 0xE0 ∷ 0x00 ∷ 0x00 ∷ 0x01 ∷ []
  pub built_in : ver.built_in ≡ true
  pub heads : ver.heads ≡ true
