-- A number by which subsystems that aren't the same mostly differ.
use Rattle.std.specs.Prelude.{ℕ, ◌+◌, ◌*◌, ◌%◌, List, fold, unsigned_abs}
use Rattle.diagram_blocks.specs.declared.Op.{Op}
use Rattle.diagram_blocks.specs.declared.Op.TheVariants.{Copy, Value, Delay, Line, Gain, Sum, Product, Switch, Relational, Logic, Convert, Nothing}
use Rattle.diagram_meaning.specs.Diagram.{Diagram, op_at, type_at}
use Rattle.diagram_same.specs.Same.{rows_inside}

-- the constant of an operation, or a number of its own
abbrev pub op_number : Op → ℕ
op_number Copy = 1
op_number (Value value) = unsigned_abs value
op_number (Delay start) = unsigned_abs start
op_number (Line length start) = length
op_number (Gain m frac to how) = unsigned_abs m
op_number (Sum count minus fracs to how) = minus
op_number (Product count frac to how) = count
op_number (Switch criterion threshold fracs to how) = unsigned_abs threshold
op_number (Relational compare fracs) = 2
op_number (Logic op count) = count
op_number (Convert frac to how) = frac
op_number Nothing = 3

-- the number of a row: of its operation and of its type
abbrev pub row_number : Diagram → ℕ → ℕ
row_number d b = op_number (op_at d b) + (type_at d.types b).bits

-- one number more; the factor is a prime, and so is the modulus
abbrev pub mixed : ℕ → ℕ → ℕ
mixed sum number = (sum * 1000003 + number) % 2147483647

-- some rows, one after another
abbrev pub signature_of_rows : Diagram → List ℕ → ℕ
signature_of_rows d bs = fold (λ sum b. mixed sum (row_number d b)) 1 bs

-- the rows inside a subsystem
abbrev pub signature_of : Diagram → ℕ → ℕ
signature_of d e = signature_of_rows d (rows_inside d.rows e)
