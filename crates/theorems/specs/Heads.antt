-- Which heads the requirements allow, said of the whole head at once. That the rules list every such head, and no other, is proofs/Heads.
use Rattle.std.specs.Prelude.{◌≤◌, ◌≡◌, true, List, ◌∷◌, ◌++◌, length}
use Rattle.format.specs.Octets.{Octets}
use Rattle.format.specs.Tables.{StringTable, PREFIX, NAMESPACE_NAME, LOCAL_NAME, OTHER_NCNAME, OTHER_URI, ATTRIBUTE_VALUE, CONTENT_CHARACTER_CHUNK, OTHER_STRING}
use Rattle.format.specs.Tables.{NameTable, Triple, Vocabulary, strings, names, New, no_entries, followed_by, Version, InLimits}
use Rattle.format.specs.Strings.{Spelling}
use Rattle.format.specs.Head.{is_identifying, Listed, Head, plain_head, started, some?}
use Rattle.format.specs.declared.StringForm.TheVariants.{Utf8}
use Rattle.format.specs.Allowed.{All}

-- The tables of a document behind its head: the built-in entries, then those that the head lists.
abbrev pub headed : Version → Head → Vocabulary Octets
headed ver h = followed_by (started ver) (plain_head h)

-- A string can be listed in its form; in a table of identifying strings that is utf-8.
pub record CanBeListed (t : StringTable) (x : Listed) : Type 0 where
  pub octets : Octets
  pub spelled : Spelling x.form x.says octets
  pub plain : is_identifying t ≡ true → x.form ≡ Utf8

-- No entry is one of those before it.
abbrev pub Distinct : {A : Type 0} → List A → Type 0
Distinct {A} l = (before : List A) (x : A) (behind : List A) → l ≡ before ++ (x ∷ behind) → New before x

-- Of the ten tables these seven have each entry once: a value, a chunk or another string may be listed again.
pub record AllDistinct {S : Type 0} (v : Vocabulary S) : Type 0 where
  pub prefixes : Distinct v.prefixes
  pub namespaces : Distinct v.namespaces
  pub locals : Distinct v.locals
  pub ncnames : Distinct v.ncnames
  pub uris : Distinct v.uris
  pub elements : Distinct v.elements
  pub attributes : Distinct v.attributes

-- A name's numbers name entries of these tables; it has a local name, and a prefix only with a namespace.
pub record NamesParts {S : Type 0} (v : Vocabulary S) (x : Triple) : Type 0 where
  pub prefix : x.prefix ≤ length v.prefixes
  pub namespace : x.namespace ≤ length v.namespaces
  pub local : x.local ≤ length v.locals
  pub has-local : 1 ≤ x.local
  pub not_alone : some? x.prefix ≤ some? x.namespace

pub record HeadAllowed (ver : Version) (h : Head) : Type 0 where
  -- every string can be listed in its form; every name's parts are there
  pub spelled : (t : StringTable) → All (CanBeListed t) (strings h t)
  pub named : (t : NameTable) → All (NamesParts (headed ver h)) (names h t)
  -- nothing is listed twice, nor what is built in
  pub distinct : AllDistinct (headed ver h)
  -- no table has too many entries
  pub in_limits : InLimits ver (headed ver h)
  -- the version has heads, or this is none
  pub version : (ver.heads ≡ true → ⊥) → h ≡ no_entries

-- The strings of a head, table by table.
abbrev pub all_listed : {S : Type 0} → Vocabulary S → List S
all_listed h =
    strings h PREFIX ++ (strings h NAMESPACE_NAME ++ (strings h LOCAL_NAME ++ (strings h OTHER_NCNAME
    ++ (strings h OTHER_URI ++ (strings h ATTRIBUTE_VALUE ++ (strings h CONTENT_CHARACTER_CHUNK ++ strings h OTHER_STRING))))))
