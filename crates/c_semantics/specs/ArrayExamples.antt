-- Items of arrays: read and stored each by itself, and stuck where an index is none of the array's.
use Rattle.std.specs.Prelude.{◌≡◌, ℕ, ℤ, pos, negsuc, List, [], ◌∷◌, false, Some, codes, refl}
use Rattle.std.specs.Fmt.{digits}
use Rattle.c_syntax.specs.declared.code.BinOp.TheVariants.{Add, Div}
use Rattle.c_syntax.specs.declared.code.CType.TheVariants.{I8, I32}
use Rattle.c_syntax.specs.declared.code.Leaf.TheVariants.{Param, Own}
use Rattle.c_syntax.specs.declared.fault.Why.TheVariants.{ZeroDivisor, Range, Index}
use Rattle.c_syntax.specs.declared.program.FieldKind.TheVariants.{Array}
use Rattle.c_syntax.specs.Tree.{ExprTree, literal, neg, read, binary, item, StmtTree, assign, assign_at, stmts_of_list, ProgramTree}
use Rattle.c_syntax.specs.ProgramExamples.{field, param}
use Rattle.c_semantics.specs.Cells.{Cells, number, items, no_cells, more_cells}
use Rattle.c_semantics.specs.Values.{stuck_at}
use Rattle.c_semantics.specs.Machine.{Outcome, done, stuck, Scope, run_stmt}
use Rattle.c_semantics.specs.Rows.{TickRow, c_rows, zero_root}

-- a body with one argument, an `int8_t` and an array of three `int8_t`
abbrev pub three_items : Scope
three_items = record { functions = []; routines = []; types = I8 ∷ I8 ∷ []; values = pos 2 ∷ [] }

abbrev pub item_fields : ℤ → List ℤ → Cells
item_fields v xs = more_cells (number v) (more_cells (items xs) no_cells)

abbrev pub before_run : Cells
before_run = item_fields (pos 7) (pos 10 ∷ pos 20 ∷ pos 30 ∷ [])

abbrev pub run_once : StmtTree → Outcome
run_once s = run_stmt three_items s before_run 0

abbrev pub stored_in : ℕ → Cells → Outcome
stored_in f cells =
    done (record {
      cells = cells;
      steps = 1;
      log = [];
      stores = record { path = []; field = f }
          ∷ [];
    })

abbrev pub by_zero : ExprTree
by_zero = binary Div (literal (pos 1)) (literal (pos 0))

-- `s->v = (int8_t)s->a[u];` and `s->a[u] = (int8_t)s->v;`
pub item-read : run_once (assign 3 0 (item 1 (read (Param 0))))
    ≡ stored_in 0 (item_fields (pos 30) (pos 10 ∷ pos 20 ∷ pos 30 ∷ []))
item-read = refl

pub item-stored : run_once (assign_at 3 1 (read (Param 0)) (read (Own 0)))
    ≡ stored_in 1 (item_fields (pos 7) (pos 10 ∷ pos 20 ∷ pos 7 ∷ []))
item-stored = refl

pub first_item-stored : run_once (assign_at 3 1 (literal (pos 0)) (item 1 (literal (pos 1))))
    ≡ stored_in 1 (item_fields (pos 7) (pos 20 ∷ pos 20 ∷ pos 30 ∷ []))
first_item-stored = refl

-- the length is no index, and neither is a number below 0
pub length-stuck : run_once (assign 3 0 (item 1 (literal (pos 3))))
    ≡ stuck (stuck_at 3 Index) before_run
length-stuck = refl

pub below_zero-stuck : run_once (assign_at 3 1 (neg (literal (pos 1))) (literal (pos 5)))
    ≡ stuck (stuck_at 3 Index) before_run
below_zero-stuck = refl

-- the index is looked at before the value: first its own evaluation, then its place, then the
-- value, then the value's type
pub index-first : run_once
    (assign_at 3 1 by_zero (binary Add (literal (pos 9223372036854775807)) (literal (pos 1))))
    ≡ stuck (stuck_at 3 ZeroDivisor) before_run
index-first = refl

pub place-second : run_once (assign_at 3 1 (literal (pos 3)) by_zero)
    ≡ stuck (stuck_at 3 Index) before_run
place-second = refl

pub value-third : run_once (assign_at 3 1 (literal (pos 2)) by_zero)
    ≡ stuck (stuck_at 3 ZeroDivisor) before_run
value-third = refl

pub type-last : run_once (assign_at 3 1 (literal (pos 2)) (literal (pos 128)))
    ≡ stuck (stuck_at 3 Range) before_run
type-last = refl

-- `struct root { int32_t y1; int32_t a[2]; };` and a store in `a[2]`
abbrev pub outside_program : ProgramTree
outside_program = record {
  pures = [];
  structs =
      record {
        name = codes "root";
        fields = field (codes "y1")
            ∷ record { name = codes "a"; kind = Array I32 2 } ∷ [];
      } ∷ [];
  procedures =
      record {
        name = codes "root_start";
        private = false;
        of = 0;
        params = [];
        body = stmts_of_list [];
      }
      ∷ record {
        name = codes "root_step";
        private = false;
        of = 0;
        params = param (codes "u1")
            ∷ [];
        body = stmts_of_list (assign_at 5 1 (literal (pos 2)) (literal (pos 1)) ∷ []);
      }
      ∷ [];
}

-- all items are 0 at first
pub items-zero : zero_root outside_program ≡ item_fields (pos 0) (pos 0 ∷ pos 0 ∷ [])
unfolding digits
items-zero = refl

pub outside_program-stuck : (c_rows outside_program ((pos 1 ∷ []) ∷ [])).stuck_place
    ≡ Some (record { line = 5; why = Index })
unfolding digits
outside_program-stuck = refl

-- a delay of two samples: `s->y1 = s->a[0]; s->a[0] = s->a[1]; s->a[1] = u1;`
abbrev pub delay_program : ProgramTree
delay_program = record {
  pures = [];
  structs =
      record {
        name = codes "root";
        fields = field (codes "y1")
            ∷ record { name = codes "a"; kind = Array I32 2 } ∷ [];
      } ∷ [];
  procedures =
      record {
        name = codes "root_start";
        private = false;
        of = 0;
        params = [];
        body = stmts_of_list (assign_at 4 1 (literal (pos 1)) (literal (pos 9)) ∷ []);
      }
      ∷ record {
        name = codes "root_step";
        private = false;
        of = 0;
        params = param (codes "u1")
            ∷ [];
        body =
            stmts_of_list (assign 7 0 (item 1 (literal (pos 0)))
            ∷ assign_at 8 1 (literal (pos 0)) (item 1 (literal (pos 1)))
            ∷ assign_at 9 1 (literal (pos 1)) (read (Param 0)) ∷ []);
      }
      ∷ [];
}

abbrev pub delay_tick : ℤ → TickRow
delay_tick v = record {
  outputs = v ∷ [];
  steps = 3;
  log = [];
  stores = record { path = []; field = 0 } ∷ record { path = []; field = 1 }
      ∷ record { path = []; field = 1 } ∷ [];
}

pub delay_program-rows : (c_rows delay_program ((pos 1 ∷ []) ∷ (negsuc 1 ∷ []) ∷ (pos 3 ∷ [])
    ∷ (pos 4 ∷ []) ∷ [])).ticks ≡ delay_tick (pos 0) ∷ delay_tick (pos 9) ∷ delay_tick (pos 1)
    ∷ delay_tick (negsuc 1) ∷ []
unfolding digits
delay_program-rows = refl
