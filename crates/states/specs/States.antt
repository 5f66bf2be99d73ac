-- Contracts of the code, not definitions to be believed. What a state's numbers say in the rules' words, and the states that reader and writer come to.
use Rattle.std.specs.Prelude.{ℕ, ◌+◌, ◌*◌, Bool, true, false, not, eqb, leb}
use Rattle.format.specs.Numbers.{pick}
use Rattle.format.specs.Tables.{Vocabulary}
use Rattle.format.specs.Items as F
use Rattle.tables.specs.Located.{Located}
use Rattle.states.specs.declared.State.{State}

unfoldable pub mode_of : ℕ → F.Mode
mode_of m =
    pick (eqb m 0) F.content
    (pick (eqb m 1) (F.listing false)
    (pick (eqb m 2) (F.listing true)
    (pick (eqb m 3) (F.declaring false) (F.declaring true))))

unfoldable pub root_of : ℕ → Bool
root_of r = not (eqb r 0)

abbrev pub state_of : State → Vocabulary Located → F.State Located
state_of st v = record { tables = v; level = st.level; root = root_of st.root; mode = mode_of st.mode }

-- An element whose declarations are read or written is not open yet, but will be.
unfoldable pub coming : ℕ → ℕ
coming m = pick (leb 3 m) 1 0

-- The last octet that a state is moved to, so that no sum wraps: a writer may stand behind the 16,384 octets of a document, by those of one event, until this is refused.
abbrev pub farthest : ℕ
farthest = 200000

-- Before the first item of a body.
abbrev pub fresh : (body : ℕ) → State
fresh body = record { at = 2 * body; level = 0; root = 0; mode = 0 }

-- At the octet k.
abbrev pub moved_to : State → (k mode : ℕ) → State
moved_to st k m = record { at = 2 * k; level = st.level; root = st.root; mode = m }

abbrev pub after_start : Bool → ℕ
after_start true = 1
after_start false = 0

abbrev pub declaring_mode : Bool → ℕ
declaring_mode true = 4
declaring_mode false = 3

-- An element more, at the octet k.
abbrev pub opened_at : State → ℕ → Bool → State
opened_at st k a = record { at = 2 * k; level = st.level + 1; root = 1; mode = after_start a }

-- At the half behind an end, among children at a level.
abbrev pub after_end : State → ℕ → State
after_end st n = record { at = st.at + 1; level = n; root = st.root; mode = 0 }
