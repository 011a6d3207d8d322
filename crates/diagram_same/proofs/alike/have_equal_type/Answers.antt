use Rattle.std.proofs.Common.{◌∙◌, sym}
use Rattle.diagram_same.proofs.SameOps.{type-decides}
use Rattle.diagram_same.proofs.alike.have_equal_type.Goals as goal

pub returns : goal.returns
returns c =
    let decides = type-decides c.type_at.result c.type_at-2.result in (
      λ e. sym c.type_at.ensures ∙ decides.0 (sym c.eq.ensures ∙ e) ∙ c.type_at-2.ensures,
      λ same. c.eq.ensures ∙ decides.1 (c.type_at.ensures ∙ same ∙ sym c.type_at-2.ensures),
    )
