-- Lawful code stays code in a lawful program that refines it, offers the same, and has the shape.
use Rattle.std.specs.Prelude.{ℕ, Bool, List}
use Rattle.diagram_meaning.specs.Diagram.{Diagram}
use Rattle.modules_profile.specs.NodeFacts.{ProfilesAreOne}
use Rattle.modules_profile.specs.Systems.{systems}
use Rattle.c_syntax.specs.Tree.{ProcedureTree, ProgramTree}
use Rattle.c_refinement.specs.Refinement.{RefinesBy}
use Rattle.emit_shape.specs.Faces.{HasLeastInterface}
use Rattle.emit_shape.specs.ProgramShape.{HasShape}
use Rattle.right_claim.specs.Anew.{RenewsAll}
use Rattle.right_claim.specs.Right.{AnswersAnyOrder, IsCodeFor}
use Rattle.right_refined.specs.Refined.{with_procedures, OffersSame, RefinedIsCode}
use Rattle.right_refined.proofs.Lists.{each-in}
use Rattle.right_refined.proofs.PublicProcedures.{IsShaped}
use Rattle.right_refined.proofs.KeptPlaces.{KeepsAll, all-kept}
use Rattle.right_refined.proofs.RefinedFaces.{least-refined}
use Rattle.right_refined.proofs.RefinedScripts.{answers-refined}
use Rattle.right_refined.proofs.RefinedStarts.{renewed-refined, restarted-refined}
use Rattle.right_refined.proofs.RefinedTraces.{outputs-given, bounded, traces-taken}

module _ (p : ProgramTree) (procedures : List ProcedureTree) (keeps : ℕ → Bool) (place : ℕ → ℕ) (d : Diagram)
    (refines : RefinesBy place keeps p (with_procedures p procedures)) (kept : KeepsAll place keeps p (with_procedures p procedures) d)
    (offers : OffersSame keeps place p (with_procedures p procedures)) where
  abbrev q : ProgramTree
  q = with_procedures p procedures

  code-refined : (delays : List Bool) (hyper : ℕ) → IsCodeFor p d delays hyper → HasShape q d delays hyper → IsCodeFor q d delays hyper
  code-refined delays hyper h shape = record {
    runs = record {
      outputs = λ xs trace.
          outputs-given p procedures keeps place d refines kept xs (h.runs.bounded xs trace) (h.runs.outputs xs trace);
      bounded = λ xs trace. bounded p procedures keeps place d refines kept xs (h.runs.bounded xs trace);
      ticks = traces-taken p procedures keeps place d refines kept h.runs.ticks;
    };
    least = each-in (HasLeastInterface p d) (HasLeastInterface q d) (systems d.rows)
        (λ s has one. least-refined p procedures keeps place offers d s (kept.system s has) one) h.least;
    shape = shape;
    any_order = each-in (AnswersAnyOrder p d hyper) (AnswersAnyOrder q d hyper) (systems d.rows)
        (λ s has one. answers-refined p procedures keeps place d refines kept hyper s has one) h.any_order;
    renewed = each-in (RenewsAll p d hyper) (RenewsAll q d hyper) (systems d.rows)
        (λ s has one. renewed-refined p procedures keeps place d refines kept hyper s has one) h.renewed;
    restarted = restarted-refined p procedures keeps place d refines kept hyper h.restarted;
  }

pub refined_is_code : ProfilesAreOne → RefinedIsCode
refined_is_code profiles p procedures keeps place d delays hyper lawful other_lawful refines offers h shape =
    let here : IsShaped p d = record { profiles = profiles; delays = delays; hyper = hyper; lawful = lawful; shape = h.shape } in
    let there : IsShaped (with_procedures p procedures) d =
    record { profiles = profiles; delays = delays; hyper = hyper; lawful = other_lawful; shape = shape } in
    code-refined p procedures keeps place d refines (all-kept p procedures keeps place d here there offers) offers delays hyper h shape
