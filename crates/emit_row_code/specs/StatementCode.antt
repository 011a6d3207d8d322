-- The statements for one row, one trigger or one child.
use Rattle.std.specs.Prelude.{ℕ, List, [], map, Option, Some, None, ℤ}
use Rattle.c_syntax.specs.declared.Leaf.{Leaf}
use Rattle.c_syntax.specs.declared.Target.TheVariants.{Child}
use Rattle.c_syntax.specs.Tree.{ExprTree, read, CondTree, StmtTree, assign, branch, call, StmtTrees, no_stmts, more_stmts, exprs_of_list}
use Rattle.emit_row_code.specs.declared.leaves.RingFields.{RingFields}
use Rattle.emit_row_code.specs.RowCode.{written}
use Rattle.emit_row_code.specs.TestCode.{level_code}
use Rattle.emit_row_code.specs.RingCode.{taken_in, emptied}

abbrev pub one : StmtTree → StmtTrees
one s = more_stmts s no_stmts

-- where a test holds the first statements, else the second; no test always holds
abbrev pub guarded : Option CondTree → StmtTrees → StmtTrees → StmtTrees
guarded None on_true on_false = on_true
guarded (Some test) on_true on_false = one (branch 0 test on_true on_false)

-- where a test holds these statements; no test never holds
abbrev pub only_if : Option CondTree → StmtTrees → StmtTrees
only_if None code = no_stmts
only_if (Some test) code = one (branch 0 test code no_stmts)

-- a number is stored in an own field
abbrev pub store_code : ℕ → ExprTree → StmtTrees
store_code field value = one (assign 0 field value)

-- ---- Values and memories

-- where a row runs its value is stored
abbrev pub value_statements : ℕ → (runs : Option CondTree) → ExprTree → StmtTrees
value_statements field runs value = guarded runs (store_code field value) no_stmts

-- where a system is disabled an output gets its start
abbrev pub value_reset_statements : ℕ → (disabled : Option CondTree) (start : ℤ) → StmtTrees
value_reset_statements field disabled start = only_if disabled (store_code field (written start))

-- where a delay runs its memory takes the input, and else it begins anew where the system is off
abbrev pub memory_statements : ℕ → (runs : Option CondTree) → Leaf →
    (off : Option CondTree) (start : ℤ) → StmtTrees
memory_statements field runs input off start =
    guarded runs (store_code field (read input)) (only_if off (store_code field (written start)))

-- the same of a delay of n samples
abbrev pub ring_statements : RingFields → (n : ℕ) (runs : Option CondTree) → Leaf →
    (off : Option CondTree) → StmtTrees
ring_statements ring n runs input off =
    guarded runs (taken_in ring n input) (only_if off (emptied ring))

-- the trigger remembers its level
abbrev pub trigger_statements : ℕ → Leaf → StmtTrees
trigger_statements field trigger = store_code field (level_code trigger)

-- ---- Children

-- a call of a procedure, on the child in an own field, with what these leaves read
abbrev pub child_call : (procedure field : ℕ) → List Leaf → StmtTrees
child_call procedure field leaves =
    one (call 0 procedure (Child field) (exprs_of_list (map read leaves)))

-- where the system is active, a child's function or update is called
abbrev pub call_statements : (active : Option CondTree) (procedure field : ℕ) → List Leaf →
    StmtTrees
call_statements active procedure field leaves =
    guarded active (child_call procedure field leaves) no_stmts

-- where it is off, a child is reset
abbrev pub reset_call_statements : (off : Option CondTree) (procedure field : ℕ) → StmtTrees
reset_call_statements off procedure field = only_if off (child_call procedure field [])
