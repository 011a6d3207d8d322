use Rattle.std.proofs.Common.{◌≡◌, true, sym, subst}
use Rattle.diagram_same.proofs.SameOps.{equal-decides}
use Rattle.diagram_same.proofs.alike.are_equal_ops.Goals as goal

pub returns : goal.returns
returns c = subst (λ t. (t ≡ true → c.args.a ≡ c.args.b) × (c.args.a ≡ c.args.b → t ≡ true)) (sym c.eq.ensures) (equal-decides c.args.a c.args.b)
