use Rattle.std.proofs.Common.{◌∙◌, sym}
use Rattle.diagram_same.proofs.SameRoles.{role-decides}
use Rattle.diagram_same.proofs.alike.have_equal_roles.Goals as goal

pub returns : goal.returns
returns c =
    let decides = role-decides c.role_of.result c.role_of-2.result in (
      λ e. sym c.role_of.ensures ∙ decides.0 (sym c.eq.ensures ∙ e) ∙ c.role_of-2.ensures,
      λ same. c.eq.ensures ∙ decides.1 (c.role_of.ensures ∙ same ∙ sym c.role_of-2.ensures),
    )
