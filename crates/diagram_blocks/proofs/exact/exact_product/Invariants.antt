use Rattle.diagram_blocks.proofs.SoFar.{IsProductSoFar}
use Rattle.diagram_blocks.proofs.exact.exact_product.Given as goal

abbrev pub invariant-loop-v : goal.invariant-loop-v
invariant-loop-v l = IsProductSoFar l.inputs l.v-index l.product
