use Rattle.std.proofs.Common.{false, pos, sym, subst}
use Rattle.diagram_blocks.specs.Evaluation.{PassesInType}
use Rattle.test_diagram.proofs.tests.blocks.value.Goals as goal

pub rhs-requires : goal.rhs-requires
rhs-requires c = record {
  kind = c.args.k.now;
  types = c.args.types.now;
  out = c.args.out;
  delays = false;
  is_op = c.resolve.ensures;
  within_limits = c.requires.within_limits;
  has_types = c.requires.has_types;
  narrow = c.requires.narrow;
  reads = c.requires.reads;
  passes = subst (λ op. PassesInType op c.args.out c.args.inputs.now (pos 0)) (sym c.resolve.ensures) c.requires.passes;
}
