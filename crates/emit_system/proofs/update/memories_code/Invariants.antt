use Rattle.std.proofs.Common.{◌≡◌, cond, map, take}
use Rattle.diagram_blocks.specs.Kinds.{is_delay}
use Rattle.c_syntax.specs.Tree.{no_stmts}
use Rattle.emit_system_spec.specs.EmittedCode.{joined}
use Rattle.emit_system_spec.specs.NodeCode.{memory_code}
use Rattle.emit_nodes.specs.Code.{code_of}
use Rattle.emit_system.proofs.update.memories_code.Given as goal

abbrev pub invariant-loop-row : goal.invariant-loop-row
invariant-loop-row l = code_of l.code.items
    ≡ joined (map (λ r. cond (is_delay r.op) (memory_code l.layout.local l.params r) no_stmts) (take l.row-index l.rows))
