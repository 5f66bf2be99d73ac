-- A document behind its head: with which tables its body begins, and that one head and one list of items are one document; what is written within some limits is written within
-- wider ones.
use Prim.Native.Nat.{ℕ, ◌+◌, ◌*◌, ◌≤◌}
use mathlib.Core.Path.{◌≡◌, refl, sym, ◌∙◌, subst}
use mathlib.Core.List.{List, ◌++◌}
use native.Mathlib.Omega.{arith}
use lib.ListN.{length}
use Rattle.format.specs.Octets.{Octets}
use Rattle.format.specs.Numbers.{top}
use Rattle.format.specs.Events.{Item}
use Rattle.format.specs.Tables.{Vocabulary, starting, no_entries, Version, standard}
use Rattle.format.specs.Head.{Head, Opens, without_head}
use Rattle.format.specs.Items.{State}
use Rattle.format.specs.Document.{halves, Written, beginning, header, Document}
use Rattle.theorems.specs.Heads.{headed}
use Rattle.theorems.proofs.OneWriting.{halves_one, one_writing}
use Rattle.theorems.proofs.Wider.{written}
use Rattle.theorems.proofs.Heads.{opened_is, one_head, headed_none, wider}

-- a document without a head
pub no_head : (ver : Version) → Opens ver no_entries (header ver) (headed ver no_entries)
unfolding header
no_head ver = subst (Opens ver no_entries (header ver)) (sym (headed_none ver)) without_head

-- ---- the body
module _ {ver : Version} {h : Head} {items : List (Item Octets)} {z : State Octets} {s : Octets} (d : Document ver h items z s) where
  pub opens-headed : Opens ver h d.before (headed ver h)
  opens-headed = subst (Opens ver h d.before) (opened_is d.opens) d.opens

  pub rule_headed : Written ver (2 * length d.before) (beginning (headed ver h)) items d.body z
  rule_headed = subst (λ (v : Vocabulary Octets). Written ver (2 * length d.before) (beginning v) items d.body z) (opened_is d.opens) d.rule

-- ---- one document
pub one_document : {ver : Version} {h : Head} {items : List (Item Octets)} {z z' : State Octets} {s s' : Octets}
    → Document ver h items z s → Document ver h items z' s'
    → (s ≡ s') × (z ≡ z')
one_document {ver} {h} {items} {z' = z'} {s = s} {s' = s'} d d' =
    let o : d'.before ≡ d.before = (one_head d'.opens d.opens).0 in
    let w : Written ver (2 * length d.before) (beginning (headed ver h)) items d'.body z' = subst (λ (l : Octets). Written ver (2 * length l) (beginning (headed ver h)) items d'.body z') o (rule_headed d') in
    let r = one_writing (rule_headed d) w in
    (halves_one s s' (d.here ∙ (λ j. halves (sym o j) ++ r.0 j) ∙ sym d'.here), r.1)

-- within the standard's own limits
pub in_standard : {ver : Version} {h : Head} {items : List (Item Octets)} {z : State Octets} {s : Octets} (depth octets : ℕ) → ver.entries ≤ top → ver.octets ≤ octets → ver.depth ≤ depth
    → Document ver h items z s → Document (standard ver depth octets) h items z s
unfolding standard starting
in_standard depth octets few long deep d =
    record { before = d.before; listed = d.listed; opens = wider few refl refl refl d.opens; body = d.body; here = d.here; rule = written long few deep d.rule; short = omega arith }
