-- What starts and resets leave, from any fields, a program leaves that refines right code.
use Rattle.std.specs.Prelude.{ℕ, ◌≤◌, Bool, List, [], Contains, Option, None, refl}
use Rattle.std.proofs.Common.{sym, subst, arith}
use Rattle.diagram_meaning.specs.Diagram.{Diagram}
use Rattle.modules_profile.specs.Systems.{systems, system_name}
use Rattle.c_syntax.specs.Tree.{ProcedureTree, ProgramTree}
use Rattle.c_syntax.specs.RootFields.{field_position, root_struct, root_fields}
use Rattle.c_semantics.specs.Cells.{Cells, fields_at}
use Rattle.c_semantics.specs.Machine.{call_from_outside}
use Rattle.emit_shape.specs.Names.{start_name, reset_name, root_start_name}
use Rattle.emit_shape.specs.Programs.{procedure_place, struct_place}
use Rattle.right_claim.specs.Paths.{path_to}
use Rattle.right_claim.specs.Driving.{AnswersScripts}
use Rattle.right_claim.specs.Anew.{forms_at, field_count, AreStarted, AreReset, HoldsInside, FromAnyFields, RenewsAll, AreRestarted, Restarts}
use Rattle.right_claim.proofs.lemmas.AlikePrograms.{started-alike, reset-alike, holds-alike}
use Rattle.c_refinement.specs.Refinement.{RefinesBy}
use Rattle.c_refinement.specs.Laws.{KeepsNamed}
use Rattle.right_refined.specs.Refined.{with_procedures}
use Rattle.right_refined.proofs.KeptPlaces.{KeepsAll}
use Rattle.right_refined.proofs.Lists.{each-in}
use Rattle.right_refined.proofs.RefinedCalls.{done-refined, named-refined}
use Rattle.right_refined.proofs.RefinedTraces.{traces-refined}
use Rattle.right_refined.proofs.RefinedScripts.{scripts-refined}

module _ (p : ProgramTree) (procedures : List ProcedureTree) (keeps : ℕ → Bool) (place : ℕ → ℕ) (d : Diagram)
    (refines : RefinesBy place keeps p (with_procedures p procedures))
    (kept : KeepsAll place keeps p (with_procedures p procedures) d) where
  abbrev q : ProgramTree
  q = with_procedures p procedures

  leaves-refined : (structure : ℕ) (name : List ℕ) → KeepsNamed place keeps p q name → (P Q : Cells → Cells → Type 0) →
      ((before after : Cells) → P before after → Q before after) → FromAnyFields p structure (procedure_place p name) P →
      FromAnyFields q structure (procedure_place q name) Q
  leaves-refined structure name named P Q next h before has =
      done-refined place (call_from_outside p (procedure_place p name) [] [] before)
      (call_from_outside q (procedure_place q name) [] [] before)
      (λ a. (a.steps ≤ field_count (forms_at p structure)) × P before a.cells)
      (λ a. (a.steps ≤ field_count (forms_at q structure)) × Q before a.cells)
      (named-refined p procedures keeps place d refines kept name named [] [] before)
      (λ a b same both. (
        (let few = both.0 in let fewer = same.steps in omega (arith, few, fewer)),
        subst (Q before) (sym same.cells) (next before a.cells both.1),
      )) (h before has)

  started-refined : (s : Option ℕ) (before after : Cells) → HoldsInside p d s (λ n old new. AreStarted p d n new) before after →
      HoldsInside q d s (λ n old new. AreStarted q d n new) before after
  started-refined s before after h =
      holds-alike p q refl d s (λ n old new. AreStarted p d n new) (λ n old new. AreStarted q d n new) before after
      (λ n old new one. started-alike p q refl d n new one) h

  pub renewed-refined : (hyper : ℕ) (s : Option ℕ) → Contains (systems d.rows) s → RenewsAll p d hyper s → RenewsAll q d hyper s
  renewed-refined hyper s has h = record {
    starts = leaves-refined (struct_place p s) (start_name s) (kept.system s has).start
        (λ before after. HoldsInside p d s (λ n old new. AreStarted p d n new) before after × AnswersScripts p d hyper [] s after)
        (λ before after. HoldsInside q d s (λ n old new. AreStarted q d n new) before after × AnswersScripts q d hyper [] s after)
        (λ before after both. (
          started-refined s before after both.0,
          scripts-refined p procedures keeps place d refines kept hyper [] s has after both.1,
        )) h.starts;
    resets = leaves-refined (struct_place p s) (reset_name s) (kept.system s has).reset (HoldsInside p d s (AreReset p d))
        (HoldsInside q d s (AreReset q d))
        (λ before after one. holds-alike p q refl d s (AreReset p d) (AreReset q d) before after
        (λ n old new begun. reset-alike p q refl d n old new begun) one) h.resets;
  }

  root-refined : (hyper : ℕ) (before after : Cells) → AreRestarted p d hyper before after → AreRestarted q d hyper before after
  root-refined hyper before after h = record {
    tick = h.tick;
    top = started-refined None (fields_at before (field_position (root_fields p) (system_name None)))
        (fields_at after (field_position (root_fields p) (system_name None))) h.top;
    outputs = h.outputs;
    traces = traces-refined p procedures keeps place d refines kept after h.traces;
    scripts = each-in (λ s. AnswersScripts p d hyper (path_to p d.rows s) s after)
        (λ s. AnswersScripts q d hyper (path_to q d.rows s) s after) (systems d.rows)
        (λ s has one. scripts-refined p procedures keeps place d refines kept hyper (path_to p d.rows s) s has after one) h.scripts;
  }

  pub restarted-refined : (hyper : ℕ) → Restarts p d hyper → Restarts q d hyper
  restarted-refined hyper h =
      leaves-refined (root_struct p) root_start_name kept.root_start (AreRestarted p d hyper) (AreRestarted q d hyper)
      (root-refined hyper) h
