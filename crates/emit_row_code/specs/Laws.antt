-- Laws of the expressions of rows.
use Rattle.std.specs.Prelude.{◌≡◌, ℕ, ◌+◌, ◌≤◌, max, List, [], ◌++◌, map, Contains, ℤ, ◌^◌, ◌<◌, unsigned_abs}
use Rattle.base_fixed_point.specs.declared.FixType.{FixType}
use Rattle.diagram_blocks.specs.declared.Op.{Op}
use Rattle.diagram_blocks.specs.Value.{rhs}
use Rattle.diagram_blocks.specs.Evaluation.{IsEvaluable}
use Rattle.c_syntax.specs.declared.Leaf.{Leaf}
use Rattle.c_syntax.specs.Tree.{ExprTree, PureTree}
use Rattle.c_semantics.specs.Values.{gives, eval, Function, Reads, functions_of, step_limit}
use Rattle.c_syntax.specs.Limits.{expr_depth}
use Rattle.emit_prelude.specs.Rules.{IsPrelude}
use Rattle.emit_row_code.specs.RowCode.{rhs_code, written}
use Rattle.emit_row_code.specs.Computed.{returns}
use Rattle.emit_row_code.specs.KnownTypes.{AreTypesOf}
use Rattle.emit_row_code.specs.Reading.{ReadsOnly}

-- whatever its leaves read, and the expression for its memory gives in no step, a row's expression
-- gives what the row computes of that, and isn't stuck: inputs in their types, which may be known,
-- and a row that 64 bits can compute
abbrev pub RowsAreComputed : Type 0
RowsAreComputed =
    (op : Op) (leaves : List Leaf) (types : List FixType) (memory : ExprTree) (m : ℤ)
    (ps : List PureTree) (reads : Reads)
    (line steps : ℕ) →
    IsPrelude ps → IsEvaluable op (map reads.leaf leaves) m →
    AreTypesOf op types (map reads.leaf leaves) → steps + 2 ≤ step_limit →
    ((n : ℕ) → eval (functions_of [] ps) reads line memory n ≡ gives m n) →
    eval (functions_of [] ps) reads line (rhs_code op leaves types memory) steps
    ≡ gives (rhs op (map reads.leaf leaves) m) (steps + returns op types (map reads.leaf leaves))

-- it takes two `return`s at most
abbrev pub ReturnsAreFew : Type 0
ReturnsAreFew = (op : Op) (types : List FixType) (vs : List ℤ) → returns op types vs ≤ 2

-- it reads the leaves of its inputs and those that the expression for its memory reads, and no
-- others
abbrev pub RowsReadTheirLeaves : Type 0
RowsReadTheirLeaves =
    (op : Op) (leaves others : List Leaf) (types : List FixType) (memory : ExprTree) →
    ReadsOnly (Contains others) memory →
    ReadsOnly (Contains (leaves ++ others)) (rhs_code op leaves types memory)

-- it is 40 deep at most, or as deep as the expression for its memory
abbrev pub RowsAreShallow : Type 0
RowsAreShallow = (op : Op) (leaves : List Leaf) (types : List FixType) (memory : ExprTree) →
    expr_depth (rhs_code op leaves types memory) ≤ max 40 (expr_depth memory)

-- a written number is that number
abbrev pub NumbersAreWritten : Type 0
NumbersAreWritten =
    (v : ℤ) (functions : List Function) (reads : Reads) (line steps : ℕ) → unsigned_abs v < 2 ^ 63 →
    eval functions reads line (written v) steps ≡ gives v steps
