-- What is before the elements of a list.
use Rattle.std.proofs.Common.{◌≡◌, refl, ℕ, zero, suc}
use Rattle.lustre_grammar.specs.Parsing.{Form, lead_of}

pub later_lead : (form : Form) (count : ℕ) → (count ≡ 0 → ⊥) → form.later ≡ lead_of form count
later_lead form zero h = absurd (h refl)
later_lead form (suc count) h = refl
