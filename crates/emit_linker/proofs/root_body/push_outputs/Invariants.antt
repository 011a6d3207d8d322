use Rattle.std.proofs.Common.{◌≡◌, ◌+◌, ◌++◌, map, take}
use Rattle.std.specs.List.{enumerate_from}
use Rattle.c_syntax.specs.declared.Leaf.TheVariants as leaf
use Rattle.c_syntax.specs.Tree.{assign, read}
use Rattle.c_syntax.specs.Plain.{stmt_tree}
use Rattle.emit_linker.proofs.root_body.push_outputs.Given as goal

abbrev pub invariant-loop-place : goal.invariant-loop-place
invariant-loop-place l = map stmt_tree l.list.items
    ≡ map stmt_tree l.initial.list.items ++ map (λ e. assign 0 (e.0 + 1) (read (leaf.Child (l.count + 1) e.1)))
    (enumerate_from 0 (take l.place l.fields))
