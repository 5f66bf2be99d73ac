-- THE THEOREMS: the three demands hold of every bounded version, and so of the link, which is the version that the contracts of the code name; and its rules are exact. Their
-- statements are specs/Demands. And measuring says of writing what specs/Measures states, of every version; and of the forms of strings holds what specs/Forms states.
use Prim.Native.Nat.{ℕ}
use mathlib.Core.Path.{refl}
use mathlib.Core.List.{[]}
use Rattle.format.specs.Octets.{Octets, Words}
use Rattle.format.specs.Tables.{Version, link}
use Rattle.events.proofs.FromWords.{records_back}
use Rattle.events.proofs.OnlyWords.{records_only}
use Rattle.write_head.specs.Given.{given_of}
use Rattle.theorems.specs.Bounded.{Bounded}
use Rattle.theorems.specs.Demands.{Demand1, Demand2, Demand3, RulesExact, AsRequired}
use Rattle.theorems.specs.Measures.{Measures}
use Rattle.theorems.specs.Forms.{FormsExact, FormsNumbered, WritesFewest}
use Rattle.theorems.proofs.Document.{link_bounded}
use Rattle.theorems.proofs.Heads.{head_allowed, every_head, opened_ranged, begins, holds_begins}
use Rattle.theorems.proofs.GivenWords.{given_back}
use Rattle.theorems.proofs.GivenOnly.{given_none, given_only}
use Rattle.theorems.proofs.Demands.{head_read_back, a_document, allowed, permitted, one_document, every_choice_within}
use Rattle.theorems.proofs.Acts.{every-number, tables_after}
use Rattle.theorems.proofs.Unplaced.{places_ignored, places_ignored_in_words}
use Rattle.theorems.proofs.Calls.{whatever_stood, words_whatever_stood}
use Rattle.theorems.proofs.WriterCalls.{write_whatever_stood, written_whatever_stood, measured_whatever_stood}
use Rattle.theorems.proofs.DemandOne.{check_answers, read_answers, read-words_answer, write_answers, write_words_answer, measure_words_answer}
use Rattle.theorems.proofs.DemandTwo.{write_exactly, tables-same}
use Rattle.theorems.proofs.DemandThree.{read_exactly}
use Rattle.theorems.proofs.DemandWords.{read-words_exactly, write_words_exactly, check_exactly, check_is_reading}
use Rattle.theorems.proofs.Measures as Rooms
use Rattle.theorems.proofs.Forms as Spellings

module _ (ver : Version) (ok : Bounded ver) where
  pub demand_1 : Demand1 ver
  demand_1 =
      record {
        check = check_answers ver ok;
        read = read_answers ver ok;
        read-words = read-words_answer ver ok;
        write = write_answers ver ok;
        write_words_lem = write_words_answer ver ok;
        measure_words = measure_words_answer ver ok;
        read_again = whatever_stood ver;
        read-words_again = words_whatever_stood ver;
        write_again = write_whatever_stood ver;
        write_words_again = written_whatever_stood ver;
        measure_words_again = measured_whatever_stood ver;
      }

  pub demand_2 : Demand2 ver
  demand_2 =
      record {
        write = write_exactly ver ok;
        write_words_lem = write_words_exactly ver ok;
        same_head = λ given es text room table s z a. head_read_back ver text (given_of given) _ z s a.writes;
        same_tables = tables-same ver ok;
        places_ignored = λ given es fs text room table. places_ignored ver given text room table es fs;
        places_ignored_in_words = places_ignored_in_words ver;
        records_back = records_back;
        records_only = records_only;
        given_back = given_back;
        given_none = given_none;
        given_only = λ words text e a some. given_only words text _ e a.strings_are_lem a.names_are_lem some;
      }

  pub demand_3 : Demand3 ver
  demand_3 = record { read = read_exactly ver ok; read-words = read-words_exactly ver ok; check = check_exactly ver ok; check_as_read = check_is_reading ver ok }

  pub rules_exact : RulesExact ver
  rules_exact =
      record {
        head_allowed = λ h o v op. head_allowed ok op;
        every_head = λ h right. every_head ok right;
        begins = λ h o v op. (begins [] v, holds_begins [] v (opened_ranged op));
        a_document = a_document ver;
        allowed = allowed ver;
        permitted = permitted ver;
        one_document = one_document ver;
        every-number = every-number ver;
        tables_after = tables_after ver;
        every_choice = λ h items w right. every_choice_within ver ok h items w right;
      }

pub measures : (ver : Version) (given records : Words) (text : Octets) (t c : ℕ) → Measures ver given records text t c
measures ver given records text t c = Rooms.measures ver given records text t c

pub forms_exact : FormsExact
forms_exact = Spellings.forms_exact

pub writes_fewest : WritesFewest
writes_fewest = Spellings.writes_fewest

pub forms_numbered : FormsNumbered
forms_numbered = Spellings.forms_numbered

-- Of the link, whose values are the requirements'.
pub link_as_required : AsRequired link
unfolding link
link_as_required = record { octets = refl; entries = refl; depth = refl; identification = refl; built_in = refl; heads = refl }

pub link_demand_1 : Demand1 link
link_demand_1 = demand_1 link link_bounded

pub link_demand_2 : Demand2 link
link_demand_2 = demand_2 link link_bounded

pub link_demand_3 : Demand3 link
link_demand_3 = demand_3 link link_bounded

pub link_rules_exact : RulesExact link
link_rules_exact = rules_exact link link_bounded

pub link_measures : (given records : Words) (text : Octets) (t c : ℕ) → Measures link given records text t c
link_measures = measures link
