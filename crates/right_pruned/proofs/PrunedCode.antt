-- Code for a diagram is code for it with its pure functions at other positions, and so where those that it doesn't need are left out.
use Rattle.std.specs.Prelude.{ℕ, Bool, List, map}
use Rattle.diagram_meaning.specs.Diagram.{Diagram}
use Rattle.modules_profile.specs.Systems.{systems}
use Rattle.c_syntax.specs.Tree.{PureTree, ProgramTree}
use Rattle.emit_shape.specs.Faces.{HasLeastInterface}
use Rattle.emit_shape.specs.ProgramShape.{AreOfPrelude}
use Rattle.right_claim.specs.Right.{AnswersAnyOrder, IsCodeFor}
use Rattle.right_claim.specs.Anew.{RenewsAll}
use Rattle.emit_pruned.specs.Needed.{is_needed}
use Rattle.emit_pruned.specs.Pruned.{renumbered_pure, kept_before, kept_from}
use Rattle.emit_pruned.specs.Laws.{RunsAs, PrunedRunsAlike}
use Rattle.emit_pruned.proofs.lemmas.Numbers.{each-then}
use Rattle.right_pruned.specs.Laws.{PrunedIsCode}
use Rattle.right_claim.proofs.lemmas.AlikePrograms.{AreAlike, outputs-alike, bounded-alike, rows-alike, answers-alike, renewed-alike, restarted-alike}
use Rattle.right_pruned.proofs.PrunedPlaces.{q, are-alike}
use Rattle.right_pruned.proofs.PrunedShape.{least-alike, shape-alike, pures-known}

module _ (place : ℕ → ℕ) (pures : List PureTree) (p : ProgramTree) (runs : RunsAs (q place pures p) p) where
  abbrev r : ProgramTree
  r = q place pures p

  are : AreAlike p r
  are = are-alike place pures p runs

  pub code-alike : (d : Diagram) (delays : List Bool) (hyper : ℕ) → AreOfPrelude pures → IsCodeFor p d delays hyper →
      IsCodeFor r d delays hyper
  code-alike d delays hyper known h = record {
    runs = record {
      outputs = λ xs trace. outputs-alike p r are d xs (h.runs.outputs xs trace);
      bounded = λ xs trace. bounded-alike p r are d xs (h.runs.bounded xs trace);
      ticks = rows-alike p r are d h.runs.ticks;
    };
    least = each-then (HasLeastInterface p d) (HasLeastInterface r d) (systems d.rows) (λ s one. least-alike place pures p d s one) h.least;
    shape = shape-alike place pures p d delays hyper known h.shape;
    any_order =
        each-then (AnswersAnyOrder p d hyper) (AnswersAnyOrder r d hyper) (systems d.rows)
        (λ s one. answers-alike p r are d hyper s one) h.any_order;
    renewed = each-then (RenewsAll p d hyper) (RenewsAll r d hyper) (systems d.rows)
        (λ s one. renewed-alike p r are d hyper s one) h.renewed;
    restarted = restarted-alike p r are d hyper h.restarted;
  }

pub pruned_is_code : PrunedRunsAlike → PrunedIsCode
pruned_is_code alike p d delays hyper lawful h =
    let place = kept_before (is_needed p) in
    code-alike place (map (renumbered_pure place) (kept_from (is_needed p) 0 p.pures)) p (alike p lawful) d delays hyper
    (pures-known place (is_needed p) p.pures h.shape.pures) h
