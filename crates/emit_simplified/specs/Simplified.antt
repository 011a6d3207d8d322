-- A program as it is printed: helpers inlined, then tests fused, then without the pure functions
-- that it doesn't need.
use Rattle.c_syntax.specs.Tree.{ProgramTree}
use Rattle.emit_pruned.specs.Pruned.{pruned}
use Rattle.emit_fused.specs.Fused.{fused}
use Rattle.emit_inlined.specs.Inlined.{inlined}

-- bodies that are inlined bring neighbours together, and a test that is decided may have called a
-- function, so in this order
abbrev pub simplified : ProgramTree → ProgramTree
simplified p = pruned (fused (inlined p))
