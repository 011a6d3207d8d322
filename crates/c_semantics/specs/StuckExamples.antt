-- Calls and stores that C leaves undefined or would wrap are stuck where they are, and so is the
-- step after the last one allowed.
use Rattle.std.specs.Prelude.{◌≡◌, ℕ, ◌-◌, ◌^◌, ℤ, pos, negsuc, [], ◌∷◌, refl}
use Rattle.c_syntax.specs.declared.code.BinOp.TheVariants.{Add, Div, Rem}
use Rattle.c_syntax.specs.declared.code.CType.TheVariants.{I8}
use Rattle.c_syntax.specs.declared.code.Leaf.TheVariants.{Param}
use Rattle.c_syntax.specs.declared.code.Target.TheVariants.{Own}
use Rattle.c_syntax.specs.declared.fault.Why.TheVariants.{Overflow, ZeroDivisor, Range, Steps}
use Rattle.c_syntax.specs.Tree.{ExprTree, literal, neg, read, binary, StmtTree, assign, call, exprs_of_list}
use Rattle.c_semantics.specs.Cells.{Cells, number, no_cells, more_cells}
use Rattle.c_semantics.specs.Values.{stuck_at, step_limit}
use Rattle.c_semantics.specs.Machine.{Outcome, done, stuck, Routine, no_routine, Scope, run_stmt}

-- a body with one argument and one field, an `int8_t`, that may call a procedure with two
-- parameters of that type
abbrev pub two_bytes : Routine
two_bytes = record { params = I8 ∷ I8 ∷ []; run = no_routine.run }

abbrev pub one_byte : Scope
one_byte =
    record {
      functions = [];
      routines = two_bytes ∷ [];
      types = I8 ∷ [];
      values = pos (2 ^ 63 - 1) ∷ [];
    }

abbrev pub byte_field : ℤ → Cells
byte_field v = more_cells (number v) no_cells

abbrev pub run_from : ℕ → StmtTree → Outcome
run_from steps s = run_stmt one_byte s (byte_field (pos 7)) steps

-- the arguments of a call are judged one by one: the first, which is out of its type, comes before
-- the second's division by zero `p(s, (int8_t)INT64_C(300), (int8_t)(INT64_C(1) / INT64_C(0)));`
pub arguments-range : run_from 0
    (call 4 0 Own
    (exprs_of_list (literal (pos 300) ∷ binary Div (literal (pos 1)) (literal (pos 0)) ∷ [])))
    ≡ stuck (stuck_at 4 Range) (byte_field (pos 7))
arguments-range = refl

pub arguments-divisor : run_from 0
    (call 4 0 Own
    (exprs_of_list (literal (pos 127) ∷ binary Div (literal (pos 1)) (literal (pos 0)) ∷ [])))
    ≡ stuck (stuck_at 4 ZeroDivisor) (byte_field (pos 7))
arguments-divisor = refl

-- a store of 128 in an `int8_t`, and of -128, which fits
pub store-range : run_from 0 (assign 3 0 (literal (pos 128)))
    ≡ stuck (stuck_at 3 Range) (byte_field (pos 7))
store-range = refl

pub store-fits : run_from 0 (assign 3 0 (neg (literal (pos 128))))
    ≡ done (record {
      cells = byte_field (negsuc 127);
      steps = 1;
      log = [];
      stores = record { path = []; field = 0 } ∷ [];
    })
store-fits = refl

-- 2^63 - 1 and one more; the least number divided by -1, whose remainder is stuck too
pub sum-overflows : run_from 0 (assign 3 0 (binary Add (read (Param 0)) (literal (pos 1))))
    ≡ stuck (stuck_at 3 Overflow) (byte_field (pos 7))
sum-overflows = refl

abbrev pub least : ExprTree
least = binary Add (neg (read (Param 0))) (neg (literal (pos 1)))

pub quotient-overflows : run_from 0 (assign 3 0 (binary Div least (neg (literal (pos 1)))))
    ≡ stuck (stuck_at 3 Overflow) (byte_field (pos 7))
quotient-overflows = refl

pub remainder-overflows : run_from 0 (assign 3 0 (binary Rem least (neg (literal (pos 1)))))
    ≡ stuck (stuck_at 3 Overflow) (byte_field (pos 7))
remainder-overflows = refl

pub minus-overflows : run_from 0 (assign 3 0 (neg least))
    ≡ stuck (stuck_at 3 Overflow) (byte_field (pos 7))
minus-overflows = refl

-- the last step that is allowed, and one more
pub last_step-taken : run_from (step_limit - 1) (assign 3 0 (literal (pos 1)))
    ≡ done (record {
      cells = byte_field (pos 1);
      steps = step_limit;
      log = [];
      stores = record { path = []; field = 0 } ∷ [];
    })
last_step-taken = refl

pub one_step_more-stuck : run_from step_limit (assign 3 0 (literal (pos 1)))
    ≡ stuck (stuck_at 3 Steps) (byte_field (pos 7))
one_step_more-stuck = refl
