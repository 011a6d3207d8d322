-- The reports on small models, whose outputs have these needs.
use Rattle.std.specs.Prelude.{◌≡◌, refl, ℕ, List, [], ◌∷◌, length, Option, Some, None, codes}
use Rattle.std.specs.Fmt.{digits}
use Rattle.base_core.specs.declared.Port.{Port}
use Rattle.base_core.specs.declared.Port.TheVariants.{Enable, Trigger}
use Rattle.modules_certificate.specs.Sound.{differences_from, first_outputs}
use Rattle.modules_profile.specs.Functions.{functions_for}
use Rattle.modules_report.specs.PlainReport.{PlainReport}
use Rattle.modules_report.specs.Texts.{counts_text, report_text, system_text}

abbrev pub report : Option ℕ → ℕ → List Port → ℕ → List ℕ → PlainReport
report row inputs controls outputs needs = record {
  row = row;
  inputs = inputs;
  controls = controls;
  outputs = outputs;
  profile = record { row = row; functions = functions_for needs };
  certificate = record {
    representatives = first_outputs needs;
    differ = differences_from needs (first_outputs needs) 0 (length
        (first_outputs needs));
  };
}

-- a subsystem passes two inputs on, and the root feeds the first output into the second input
passing_text : report_text (report None 1 [] 1 (1 ∷ []) ∷ report (Some 1) 2 [] 2 (1 ∷ 2 ∷ []) ∷ [])
    ≡ codes "system top inputs 1 outputs 1 functions 1\nout 1 needs 1 outputs 1\nsystem s1 inputs 2 outputs 2 functions 2\nout 1 needs 1 outputs 1\nout 2 needs 2 outputs 2\ndiffer 1 2 by 1\nsystems 2\n"
unfolding digits counts_text system_text lib.Count.count_trailing_zeros
passing_text = refl

-- two outputs need the input, and a delayed one needs nothing
delayed_text : report_text (report None 1 [] 3 (1 ∷ 1 ∷ 0 ∷ []) ∷ [])
    ≡ codes "system top inputs 1 outputs 3 functions 2\nout 1 needs 1 outputs 1 2\nout 2 needs none outputs 3\ndiffer 1 2 by 1\nsystems 1\n"
unfolding digits counts_text system_text lib.Count.count_trailing_zeros
delayed_text = refl

-- an input with an enable and a trigger
gated_text : system_text (report (Some 3) 1 (Enable ∷ Trigger ∷ []) 1 (12884901889 ∷ []))
    ≡ codes "system s3 inputs 1 outputs 1 functions 1 control enable trigger\nout 1 needs 1 enable trigger outputs 1\n"
unfolding digits counts_text system_text lib.Count.count_trailing_zeros
gated_text = refl
