-- Every case of the bench is found as it is wanted: one computation of the definitions.
use mathlib.Core.Path.{◌≡◌, refl}
use mathlib.Core.List.{map}
use Rattle.format.specs.Numbers as FNumbers
use Rattle.format.specs.Events as FEvents
use Rattle.format.specs.Tables as FTables
use Rattle.format.specs.Characters as FCharacters
use Rattle.format.specs.Forms as FForms
use Rattle.format.specs.Strings as FStrings
use Rattle.format.specs.Names as FNames
use Rattle.format.specs.Items as FItems
use Rattle.format.specs.Head as FHead
use Rattle.format.specs.Document as FDocument
use Rattle.fields.specs.Fields as DFields
use Rattle.fields.specs.Utf8 as DUtf8
use Rattle.format.specs.Integers as FIntegers
use Rattle.decimal.specs.Reading as IReading
use Rattle.decimal.specs.Words as IWords
use Rattle.forms.specs.Reading as SReading
use Rattle.forms.specs.Packing as SPacking
use Rattle.tables.specs.Counts as TCounts
use Rattle.tables.specs.Located as TLocated
use Rattle.tables.specs.Search as TSearch
use Rattle.events.specs.Records as ERecords
use Rattle.read_names.specs.Strings as RStrings
use Rattle.read_names.specs.Names as RNames
use Rattle.read_head.specs.Head as RHead
use Rattle.read_items.specs.Items as RItems
use Rattle.read_items.specs.Steps as RSteps
use Rattle.reader.specs.Reading as RReading
use Rattle.write_names.specs.Choices as WChoices
use Rattle.write_head.specs.Head as WHead
use Rattle.write_items.specs.Events as WEvents
use Rattle.write_items.specs.Items as WItems
use Rattle.write_items.specs.Steps as WSteps
use Rattle.writer.specs.Writing as WWriting
use Rattle.theorems.specs.Bench.{cases, finds, wants}

pub proved : map finds cases ≡ map wants cases
unfolding FNumbers.c21 FNumbers.lengths FNumbers.numbers FNumbers.c25 FNumbers.octets FNumbers.from_bits FNumbers.behind_first FNumbers.spell FEvents.event_map FTables.strings FTables.names FTables.adding FTables.adding_name FTables.vocabulary_map FTables.no_entries FTables.followed_by FTables.starting FTables.xml_prefix FTables.xml_namespace FTables.same FTables.holds FTables.same_triple FTables.holds_name FTables.link FCharacters.tail FCharacters.utf8 FCharacters.utf8s FForms.form_of FForms.numeric FForms.dates FForms.at_places FIntegers.figures FIntegers.half FIntegers.unsigned FIntegers.octets_of FIntegers.all_octets FIntegers.size_in FIntegers.size FIntegers.digits FIntegers.decimal FIntegers.spaced FIntegers.joined FIntegers.list_text FStrings.c14 FStrings.c15 FStrings.in_format FHead.ten_tables FHead.is_identifying FHead.c19 FHead.size_of FHead.presence FNames.of_element FNames.of_attribute FItems.may_start FDocument.halves FDocument.pad FDocument.aligned FDocument.beginning DFields.value_from DFields.behind DFields.share_of DFields.read_in DFields.field_at DUtf8.rows DUtf8.fits DUtf8.started_by DUtf8.from_first DUtf8.character DUtf8.text_behind DUtf8.is_text SReading.size SReading.whole SReading.decoded SReading.rows16 SReading.value16 SReading.is_text16 SReading.characters16 SReading.are_places SReading.places_of SReading.are_octets SReading.are_integers IReading.number IReading.signed IReading.integer_of IReading.integers_of IReading.is_whole IReading.said_in IWords.is_digit IWords.are_digits IWords.is_positive IWords.is_empty IWords.is_word IWords.integer IWords.parse IWords.longer IWords.words IWords.word_count IWords.both IWords.parse_all IWords.parse_list IWords.all_held IWords.held_in IWords.shape IWords.octets_in IWords.integers_in SPacking.is_letter SPacking.all_letters SPacking.place_in SPacking.packed_by SPacking.alphabet_for SPacking.integers_for TCounts.counts_of TSearch.lowest TSearch.number_in TSearch.number_of_triple TLocated.octets_of TLocated.start ERecords.record_of RStrings.spelling RStrings.id_at RStrings.optional_at RStrings.method_at RStrings.is_read RStrings.form_by RStrings.method_behind RStrings.method_length RStrings.formed_at RStrings.spelled_at RStrings.literal_at RStrings.value_at RNames.name_of RNames.parts_at RNames.numbered_at RNames.name_at RNames.declared_at RHead.part_at RHead.identifying_at RHead.another_at RHead.surrogate_at RHead.entry_at RHead.entries_at RHead.tables_at RHead.head_at RItems.name_padding RItems.namespace_at RItems.element_at RItems.named_at RItems.attribute_at RItems.chunk_at RItems.comment_at RItems.instruction_at RItems.other_at RItems.child_at RItems.declaring_at RItems.item_at RSteps.half_at RSteps.ends_at RSteps.pads_at RSteps.document_end RSteps.end_at RSteps.step RReading.run RReading.sized RReading.opening RReading.reading WHead.listing WHead.head_for WHead.entry_octets WHead.name_octets WHead.joined_by WHead.table_octets WHead.is_none WHead.octets_before WHead.in_strings WHead.in_names WHead.every WHead.distinct WHead.distinct_names WHead.is_triple WHead.is_entry WHead.well_given WHead.text_given WHead.new_given WHead.few_given WHead.head_octets WHead.fault_of_head WEvents.is_name WEvents.no_name WEvents.well_made WEvents.event_of WEvents.goes_on WEvents.name_text WEvents.all_text WChoices.write_id WChoices.write_optional WChoices.write_name WChoices.field_in WChoices.shorter WChoices.form_for WChoices.worth_adding WChoices.write_literal WChoices.write_value WItems.write_item WChoices.within WSteps.announced WSteps.owed WSteps.settled WSteps.fits WSteps.halves_of WSteps.judge WWriting.finish WWriting.run WSteps.joined WWriting.writing
proved = refl
