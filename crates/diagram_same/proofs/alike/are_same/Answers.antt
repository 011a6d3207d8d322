use Rattle.std.proofs.Common.{◌∙◌, sym, arith, true≢false}
use Rattle.diagram_meaning.specs.ResolvedTree.{diagram_of}
use Rattle.diagram_same.proofs.AlikeSteps.{same-counts}
use Rattle.diagram_same.proofs.alike.are_same.Goals.{then-a-b, else-a-b}
use Rattle.diagram_same.proofs.alike.are_same.Goals as goal

pub returns-else-have_equal_controls : goal.returns-else-have_equal_controls
returns-else-have_equal_controls c = (
  λ e. absurd (true≢false (sym e ∙ c.if-have_equal_controls.false)),
  λ same. elim c.if-a-b.branch [
    | then-a-b w ↦ w.value-is ∙ w.have_equal_controls.ensures.1 (same.control, same.control_types)
    | else-a-b w ↦
        let counts = same-counts (diagram_of c.args.r.now) c.args.a.row c.args.b.row c.args.a.end c.args.b.end c.requires.first
        c.requires.second same in
        let other = w.if-a-b.false in
        absurd (omega (arith, counts, other))
  ],
)
