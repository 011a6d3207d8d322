-- What the statements for one row, one trigger or one child do to the fields of an instance: they
-- are never stuck.
use Rattle.std.specs.Prelude.{◌≡◌, ◌≢◌, ℕ, ◌+◌, ◌%◌, ◌^◌, ◌<◌, ◌≤◌, nat_lt, Bool, true, false, if◌then◌else◌, List, [], ◌∷◌, map, length, Option, Some, None, ℤ, pos, unsigned_abs}
use Rattle.std.specs.List.{AllZip}
use Rattle.diagram_activity.specs.declared.TrigMem.{TrigMem}
use Rattle.diagram_activity.specs.Activity.{next_memory, memory_number}
use Rattle.base_fixed_point.specs.declared.FixType.{FixType}
use Rattle.diagram_blocks.specs.declared.Op.{Op}
use Rattle.diagram_blocks.specs.Value.{rhs}
use Rattle.diagram_blocks.specs.Evaluation.{IsEvaluable}
use Rattle.c_syntax.specs.declared.CType.TheVariants.{I8, I32}
use Rattle.c_syntax.specs.declared.Leaf.{Leaf}
use Rattle.c_syntax.specs.Tree.{ExprTree, CondTree, PureTree, type_at}
use Rattle.c_semantics.specs.Cells.{Cells, number, items, set_cell, set_item, number_at, fields_at, items_at}
use Rattle.c_semantics.specs.Values.{gives, eval, Function, functions_of, is_in_type, leaf_reads, reads, step_limit}
use Rattle.base_core.specs.Numbers.{int_at}
use Rattle.c_semantics.specs.Machine.{StoredField, Outcome, done, in_child, routine_at, Scope, run_stmts}
use Rattle.emit_row_code.specs.declared.leaves.RingFields.{RingFields}
use Rattle.emit_prelude.specs.Rules.{IsPrelude}
use Rattle.emit_row_code.specs.RowCode.{rhs_code}
use Rattle.emit_row_code.specs.Computed.{returns}
use Rattle.emit_row_code.specs.KnownTypes.{AreTypesOf}
use Rattle.emit_row_code.specs.RingCode.{oldest_code}
use Rattle.emit_row_code.specs.StatementCode.{value_statements, value_reset_statements, memory_statements, ring_statements, trigger_statements, call_statements, reset_call_statements}
use Rattle.emit_row_code.specs.TestLaws.{TestIs}

-- ---- What an execution leaves

abbrev pub own_store : ℕ → StoredField
own_store field = record { path = []; field = field }

-- these fields and steps; it stored these own fields, in order, and called nothing
abbrev pub leaves : Cells → (steps : ℕ) (stored : List ℕ) → Outcome
leaves cells steps stored =
    done (record { cells = cells; steps = steps; log = []; stores = map own_store stored })

-- the step of a test, where there is one
abbrev pub test_steps : Option CondTree → ℕ
test_steps None = 0
test_steps (Some test) = 1

-- ---- What comes before

-- a test comes to this truth value, by arguments and own fields; no test stands for `none`
abbrev pub TestsTo : Scope → Cells → (none : Bool) → Option CondTree → Bool → Type 0
TestsTo scope cells none test b = TestIs scope.functions (reads scope.values cells) 0 none test b

-- an own field takes a number
abbrev pub Takes : Scope → ℕ → ℤ → Type 0
Takes scope field v = is_in_type (type_at scope.types field) v ≡ true

-- a ring of n samples: the oldest of its items lies at this place, and so many were taken
pub record HoldsRing (cells : Cells) (ring : RingFields) (n place taken : ℕ) : Type 0 where
  pub long : length (items_at cells ring.items) ≡ n
  pub at_place : number_at cells ring.place ≡ pos place
  pub count : number_at cells ring.taken ≡ pos taken
  pub in_ring : place < n
  pub at_most : taken ≤ n
  pub short : n < 2 ^ 16

-- its fields differ, and its place and count are int32_t
pub record AreRingFields (scope : Scope) (ring : RingFields) : Type 0 where
  pub place_type : type_at scope.types ring.place ≡ I32
  pub taken_type : type_at scope.types ring.taken ≡ I32
  pub items_and_place : ring.items ≢ ring.place
  pub items_and_taken : ring.items ≢ ring.taken
  pub taken_and_place : ring.taken ≢ ring.place

-- ---- Rings

-- the expression for the oldest sample gives the start until so many were taken as the delay has,
-- and then the oldest item
abbrev pub OldestIsRead : Type 0
OldestIsRead =
    (functions : List Function) (values : List ℤ) (cells : Cells) (ring : RingFields)
    (n place taken : ℕ) (start : ℤ) (line steps : ℕ) →
    HoldsRing cells ring n place taken → unsigned_abs start < 2 ^ 63 →
    eval functions (reads values cells) line (oldest_code ring n start) steps
    ≡ gives (if nat_lt taken n then start else int_at (items_at cells ring.items) place) steps

-- the fields of a ring that took a sample, and of an empty one
abbrev pub taken_in_cells : RingFields → (n place taken : ℕ) → ℤ → Cells → Cells
taken_in_cells ring n place taken v cells =
    set_cell
    (set_cell (set_cell cells ring.items (items (set_item (items_at cells ring.items) place v)))
    ring.taken
    (number (pos (if nat_lt taken n then taken + 1 else taken)))) ring.place
    (number (pos ((place + 1) % n)))

abbrev pub emptied_cells : RingFields → Cells → Cells
emptied_cells ring cells =
    set_cell (set_cell cells ring.place (number (pos 0))) ring.taken (number (pos 0))

-- where it runs it takes what its input reads, else it is emptied where the system is off, and else
-- it stays
abbrev pub RingsAreStored : Type 0
RingsAreStored =
    (scope : Scope) (cells : Cells) (ring : RingFields) (n place taken : ℕ)
    (runs off : Option CondTree) (r o : Bool) (input : Leaf)
    (steps : ℕ) →
    HoldsRing cells ring n place taken → AreRingFields scope ring →
    TestsTo scope cells true runs r → TestsTo scope cells false off o →
    (r ≡ true → Takes scope ring.items (leaf_reads scope.values cells input)) →
    steps + 4 ≤ step_limit →
    run_stmts scope (ring_statements ring n runs input off) cells steps
    ≡ (if r then leaves
    (taken_in_cells ring n place taken (leaf_reads scope.values cells input) cells)
    (steps + test_steps runs + 3)
    (ring.items ∷ ring.taken ∷ ring.place ∷ [])
    else if o then leaves (emptied_cells ring cells) (steps + test_steps runs + test_steps off + 2)
    (ring.place ∷ ring.taken ∷ [])
    else leaves cells (steps + test_steps runs + test_steps off) [])

-- ---- Values and memories

-- where a row runs its value is stored, and nothing else; it takes a test, a store and the calls of
-- its expression
abbrev pub ValuesAreStored : Type 0
ValuesAreStored =
    (scope : Scope) (cells : Cells) (field : ℕ) (runs : Option CondTree) (r : Bool)
    (value : ExprTree) (v : ℤ) (calls steps : ℕ) →
    TestsTo scope cells true runs r →
    (r ≡ true → (count : ℕ) → count + 2 ≤ step_limit →
    eval scope.functions (reads scope.values cells) 0 value count
    ≡ gives v (count + calls)) →
    (r ≡ true → Takes scope field v) → steps + 4 ≤ step_limit →
    run_stmts scope (value_statements field runs value) cells steps
    ≡ (if r then leaves (set_cell cells field (number v)) (steps + test_steps runs + 1 + calls)
    (field ∷ [])
    else leaves cells (steps + test_steps runs) [])

-- a row can be computed here: its inputs lie in their types, 64 bits can compute it, the expression
-- for its memory gives this number, and its field takes the value
pub record CanCompute (scope : Scope) (cells : Cells) (field : ℕ) (op : Op) (given : List Leaf)
    (types : List FixType) (memory : ExprTree)
    (m : ℤ) : Type 0 where
  pub evaluable : IsEvaluable op (map (leaf_reads scope.values cells) given) m
  pub of_types : AreTypesOf op types (map (leaf_reads scope.values cells) given)
  pub remembers : (count : ℕ) →
      eval scope.functions (reads scope.values cells) 0 memory count ≡ gives m count
  pub takes : Takes scope field (rhs op (map (leaf_reads scope.values cells) given) m)

-- where a row runs, what it computes of what its leaves read is stored
abbrev pub RowsAreStored : Type 0
RowsAreStored =
    (ps : List PureTree) (scope : Scope) (cells : Cells) (field : ℕ) (runs : Option CondTree)
    (r : Bool) (op : Op) (given : List Leaf)
    (types : List FixType) (memory : ExprTree) (m : ℤ) (steps : ℕ) →
    IsPrelude ps → scope.functions ≡ functions_of [] ps → TestsTo scope cells true runs r →
    (r ≡ true → CanCompute scope cells field op given types memory m) → steps + 4 ≤ step_limit →
    run_stmts scope (value_statements field runs (rhs_code op given types memory)) cells steps
    ≡ (if r then leaves
    (set_cell cells field (number (rhs op (map (leaf_reads scope.values cells) given) m)))
    (steps + test_steps runs + 1 + returns op types (map (leaf_reads scope.values cells) given))
    (field ∷ [])
    else leaves cells (steps + test_steps runs) [])

-- where a system is disabled an output gets its start
abbrev pub ValuesAreReset : Type 0
ValuesAreReset =
    (scope : Scope) (cells : Cells) (field : ℕ) (disabled : Option CondTree) (d : Bool) (start : ℤ)
    (steps : ℕ) →
    TestsTo scope cells false disabled d → (d ≡ true → Takes scope field start) →
    unsigned_abs start < 2 ^ 63 → steps + 2 ≤ step_limit →
    run_stmts scope (value_reset_statements field disabled start) cells steps
    ≡ (if d then leaves (set_cell cells field (number start)) (steps + test_steps disabled + 1)
    (field ∷ [])
    else leaves cells (steps + test_steps disabled) [])

-- where a delay runs its memory takes what its input reads, else it is the start where the system
-- is off, and else it stays
abbrev pub MemoriesAreStored : Type 0
MemoriesAreStored =
    (scope : Scope) (cells : Cells) (field : ℕ) (runs off : Option CondTree) (r o : Bool)
    (input : Leaf) (start : ℤ) (steps : ℕ) →
    TestsTo scope cells true runs r → TestsTo scope cells false off o →
    (r ≡ true → Takes scope field (leaf_reads scope.values cells input)) →
    (o ≡ true → Takes scope field start) →
    unsigned_abs start < 2 ^ 63 → steps + 3 ≤ step_limit →
    run_stmts scope (memory_statements field runs input off start) cells steps
    ≡ (if r then leaves (set_cell cells field (number (leaf_reads scope.values cells input)))
    (steps + test_steps runs + 1) (field ∷ [])
    else if o then leaves (set_cell cells field (number start))
    (steps + test_steps runs + test_steps off + 1) (field ∷ [])
    else leaves cells (steps + test_steps runs + test_steps off) [])

-- the trigger remembers its level, in an int8_t, whatever it remembered
abbrev pub TriggersAreStored : Type 0
TriggersAreStored =
    (scope : Scope) (cells : Cells) (field : ℕ) (trigger : Leaf) (memory : TrigMem) (steps : ℕ) →
    type_at scope.types field ≡ I8 → steps + 1 ≤ step_limit →
    run_stmts scope (trigger_statements field trigger) cells steps
    ≡ leaves
    (set_cell cells field
    (number (memory_number (next_memory true memory (leaf_reads scope.values cells trigger)))))
    (steps + 1) (field ∷ [])

-- ---- Children

-- where the system is active, the child in a field does what the procedure does with what the
-- leaves read, in their types
abbrev pub CallsAreMade : Type 0
CallsAreMade =
    (scope : Scope) (cells : Cells) (active : Option CondTree) (a : Bool) (procedure field : ℕ)
    (given : List Leaf) (steps : ℕ) →
    TestsTo scope cells true active a →
    (a ≡ true → AllZip (λ type leaf. is_in_type type (leaf_reads scope.values cells leaf) ≡ true)
    (routine_at scope.routines procedure).params given) → steps + 2 ≤ step_limit →
    run_stmts scope (call_statements active procedure field given) cells steps
    ≡ (if a then in_child field cells
    ((routine_at scope.routines procedure).run (map (leaf_reads scope.values cells) given)
    (fields_at cells field) (steps + test_steps active + 1))
    else leaves cells (steps + test_steps active) [])

-- where it is off, the child does what its reset does
abbrev pub ResetsAreCalled : Type 0
ResetsAreCalled =
    (scope : Scope) (cells : Cells) (off : Option CondTree) (o : Bool) (procedure field steps : ℕ) →
    TestsTo scope cells false off o → steps + 2 ≤ step_limit →
    run_stmts scope (reset_call_statements off procedure field) cells steps
    ≡ (if o then in_child field cells
    ((routine_at scope.routines procedure).run [] (fields_at cells field)
    (steps + test_steps off + 1))
    else leaves cells (steps + test_steps off) [])
