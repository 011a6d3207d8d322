-- What the body of a procedure sees, and what its statements leave.
use Rattle.std.specs.Prelude.{ℕ, ℤ, [], Bool, List, Option, Result, slice_get}
use Rattle.c_syntax.specs.declared.fault.Cost.{Cost}
use Rattle.c_syntax.specs.declared.fault.Stuck.{Stuck}
use Rattle.c_syntax.specs.Tree.{CondTree, ExprTree, ProgramTree, StmtTree, StmtTrees}
use Rattle.c_semantics.specs.Cells.{Cells}
use Rattle.c_semantics.specs.Machine.{Scope, run_stmt, run_stmts}
use Rattle.c_semantics.specs.Values.{Answer, Function, Reads, eval, eval_cond, functions_of, reads}
use Rattle.c_interpreter.specs.declared.frames.Frame.{Frame}
use Rattle.c_interpreter.specs.declared.slots.Slot.{Slot}
use Rattle.c_interpreter.specs.Codes.{code_tree}
use Rattle.c_interpreter.specs.Seen.{Seen, ended, seen}
use Rattle.c_interpreter.specs.Slots.{layout_at}
use Rattle.c_interpreter.specs.Sound.{AreSoundStmts, IsSoundStmt, scope_at, zero_at}
use Rattle.c_interpreter.specs.States.{filled}

-- the plain tree of its program
abbrev pub tree_in : Frame → ProgramTree
tree_in f = code_tree f.code

-- how many numbers its instance has
abbrev pub size_in : Frame → ℕ
size_in f = (layout_at f.code.layouts f.of).size

-- the place of the field at a position
abbrev pub slot_in : Frame → ℕ → Option Slot
slot_in f field = slice_get (layout_at f.code.layouts f.of).slots field

-- a statement may be in it
abbrev pub IsSoundIn : Frame → StmtTree → Type 0
IsSoundIn f s = IsSoundStmt (tree_in f) f.level f.of s

-- all of these may
abbrev pub AreSoundIn : Frame → StmtTrees → Type 0
AreSoundIn f ss = AreSoundStmts (tree_in f) f.level f.of ss

-- the functions that its expressions call
abbrev pub functions_in : Frame → List Function
functions_in f = functions_of [] (tree_in f).pures

-- its instance, with these numbers
abbrev pub cells_in : Frame → List ℤ → Cells
cells_in f numbers = filled (zero_at (tree_in f) f.of) numbers

-- what its expressions read
abbrev pub reads_in : Frame → List ℤ → Reads
reads_in f numbers = reads f.values.now (cells_in f numbers)

-- what an expression of it gives
abbrev pub value_in : Frame → List ℤ → ℕ → ExprTree → ℕ → Answer ℤ
value_in f numbers = eval (functions_in f) (reads_in f numbers)

-- what a condition of it comes to
abbrev pub test_in : Frame → List ℤ → ℕ → CondTree → ℕ → Answer Bool
test_in f numbers = eval_cond (functions_in f) (reads_in f numbers)

-- what its statements see
abbrev pub scope_in : Frame → Scope
scope_in f = scope_at (tree_in f) f.level f.of f.values.now

-- what the code's run of it left
abbrev pub left_in : {A : Type 0} → Frame → Result A Stuck → List ℤ → Cost → Seen
left_in f result numbers cost = ended (zero_at (tree_in f) f.of) result numbers cost

-- what a statement of it leaves
abbrev pub run_in : Frame → StmtTree → List ℤ → Cost → Seen
run_in f s numbers cost = seen cost.calls (run_stmt (scope_in f) s (cells_in f numbers) cost.steps)

-- what statements of it leave, one after another
abbrev pub run_all_in : Frame → StmtTrees → List ℤ → Cost → Seen
run_all_in f ss numbers cost =
    seen cost.calls (run_stmts (scope_in f) ss (cells_in f numbers) cost.steps)
