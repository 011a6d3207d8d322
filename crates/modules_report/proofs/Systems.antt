-- The text of a system from its parts.
use Rattle.std.proofs.Common.{◌≡◌, ℕ, List, ◌++◌, ap, ap₂, ◌∙◌, append_assoc}
use Rattle.std.specs.Prelude.{flat_map}
use Rattle.std.specs.List.{enumerate_from}
use Rattle.base_core.specs.declared.Port.{Port}
use Rattle.modules_certificate.specs.declared.Difference.{Difference}
use Rattle.modules_profile.specs.declared.Function.{Function}
use Rattle.modules_report.specs.PlainReport.{PlainReport}
use Rattle.modules_report.specs.Texts.{differ_line, out_line, ports_of, system_line, system_text}

abbrev functions_text : List Port → ℕ → List Function → List ℕ
functions_text ports outputs functions = flat_map (λ (f : ℕ × Function). out_line ports outputs f.0 f.1) (enumerate_from 1 functions)

abbrev differences_text : List Port → List Difference → List ℕ
differences_text ports differ = flat_map (differ_line ports) differ

same_functions : (ports ports' : List Port) (outputs outputs' : ℕ) (functions functions' : List Function) → ports ≡ ports' →
    outputs ≡ outputs' → functions ≡ functions' →
    functions_text ports outputs functions ≡ functions_text ports' outputs' functions'
same_functions ports ports' outputs outputs' functions functions' p o f =
    ap (λ ps. functions_text ps outputs functions) p ∙ ap₂ (λ (n : ℕ) (fs : List Function). functions_text ports' n fs) o f

pub whole : (r : PlainReport) (ports ports' : List Port) (outputs : ℕ) (functions : List Function) (differ : List Difference)
    (old line lines all : List ℕ) →
    ports ≡ ports_of r → ports' ≡ ports_of r → outputs ≡ r.outputs → functions ≡ r.profile.functions → differ ≡ r.certificate.differ →
    line ≡ old ++ system_line r → lines ≡ line ++ functions_text ports outputs functions →
    all ≡ lines ++ differences_text ports' differ → all ≡ old ++ system_text r
unfolding system_text
whole r ports ports' outputs functions differ old line lines all p q o f d one two three =
    three
    ∙ ap₂ (λ (xs ys : List ℕ). xs ++ ys)
    (two ∙ ap₂ (λ (xs ys : List ℕ). xs ++ ys) one (same_functions ports (ports_of r) outputs r.outputs functions r.profile.functions p o f)
    ∙ append_assoc old (system_line r) (functions_text (ports_of r) r.outputs r.profile.functions))
    (ap₂ (λ (ps : List Port) (ds : List Difference). differences_text ps ds) q d)
    ∙ append_assoc old (system_line r ++ functions_text (ports_of r) r.outputs r.profile.functions) (differences_text
    (ports_of r) r.certificate.differ)
