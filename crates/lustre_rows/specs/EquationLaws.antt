-- The equations of a system's node hold where its names have what the run of the diagram has.
use Rattle.std.specs.Prelude.{◌≡◌, ℕ, ◌%◌, ◌^◌, ◌<◌, true, List, [], ◌∷◌, ◌++◌, map, Option, Some, ℤ, unsigned_abs}
use Rattle.std.specs.List.{AllByRecursion}
use Rattle.diagram_blocks.specs.Kinds.{is_delay}
use Rattle.diagram_blocks.specs.Meaning.{has_value, delay_length}
use Rattle.diagram_blocks.specs.Evaluation.{IsEvaluable}
use Rattle.diagram_meaning.specs.Rows.{row_at}
use Rattle.diagram_meaning.specs.SampleTimes.{hit}
use Rattle.diagram_meaning.specs.Diagram.{Diagram, type_at, op_at, time_at}
use Rattle.diagram_meaning.specs.Run.{start_of, first_of}
use Rattle.diagram_meaning.specs.SystemRuns.{SystemTick, IsRowOf, own_inputs, IsSystemTick}
use Rattle.emit_row_code.specs.KnownTypes.{AreTypesOf}
use Rattle.emit_shape.specs.Names.{trigger_name}
use Rattle.lustre_syntax.specs.Tree.{set, call}
use Rattle.lustre_syntax.specs.Named.{NamedExpr, NamedEquation, NamedNode, renamed}
use Rattle.lustre_flows.specs.Values.{gives, value_at, value_of, evaluate}
use Rattle.lustre_system.specs.Functions.{function_name}
use Rattle.lustre_system.specs.FunctionRules.{called}
use Rattle.lustre_system.specs.Names.{active_name, reset_name}
use Rattle.lustre_system.specs.RowEquations.{only_if, value_equations, memory_equations}
use Rattle.lustre_system.specs.SystemNodes.{active_value, reset_value, trigger_memory, has_trigger}
use Rattle.lustre_functions.specs.FunctionLaws.{nodes_before}
use Rattle.lustre_rows.specs.NamesOfTick.{NamesHave, IsAfter}

-- a call of one of the eight functions: its name has what the node at the function's place gives of
-- the values of the arguments
pub record CallsFunction (before : Option (List (Option ℤ))) (values : List (Option ℤ))
    (place : List ℕ → ℕ) (texts : List (List ℕ)) (callee : List ℕ)
    (arguments : List NamedExpr) : Type 0 where
  pub function : ℕ
  pub numbers : List ℤ
  pub result : ℤ
  pub named : callee ≡ function_name function
  pub is_given : map (λ e. value_of (evaluate before values (renamed place e))) arguments
      ≡ map Some numbers
  pub gives_result : (more : List NamedNode) →
      called (nodes_before more) function numbers ≡ Some result
  pub has_result : map (λ text. value_at values (place text)) texts ≡ Some result ∷ []

-- an equation holds: its name has the value of its expression, or that of a call what the function
-- gives
abbrev pub GivesItsName : Option (List (Option ℤ)) → List (Option ℤ) → (List ℕ → ℕ) →
    NamedEquation → Type 0
GivesItsName before values place (set line text e) =
    (v : ℤ) × (value_at values (place text) ≡ Some v)
    × (evaluate before values (renamed place e) ≡ gives v)
GivesItsName before values place (call line texts callee arguments) =
    CallsFunction before values place texts callee arguments

abbrev pub GiveTheirNames : Option (List (Option ℤ)) → List (Option ℤ) → (List ℕ → ℕ) →
    List NamedEquation → Type 0
GiveTheirNames before values place equations =
    AllByRecursion (GivesItsName before values place) equations

-- a tick of a system whose names have what the run has
pub record IsNamedTick (d : Diagram) (hyper : ℕ) (s : Option ℕ) (m : SystemTick)
    (before : Option (List (Option ℤ))) (values : List (Option ℤ))
    (place : List ℕ → ℕ) : Type 0 where
  pub cycle : 0 < hyper
  pub short : hyper < 2 ^ 63
  pub after : IsAfter d hyper s m place before
  pub names : NamesHave d hyper s m values place

-- a row is hit at a tick of the cycle as at the tick itself, and its start has 63 bits and a sign
pub record IsTimedRow (d : Diagram) (hyper : ℕ) (s : Option ℕ) (t b : ℕ) : Type 0 where
  pub row : IsRowOf d.rows s b
  pub hits : hit (time_at d b) (t % hyper) ≡ hit (time_at d b) t
  pub start : unsigned_abs (start_of d b) < 2 ^ 63

-- the equations for the trigger's memory, where there is one, and for `active` and `reset`
abbrev pub ActivityEquationsHold : Type 0
ActivityEquationsHold =
    (d : Diagram) (hyper : ℕ) (s : Option ℕ) (m : SystemTick) (before : Option (List (Option ℤ)))
    (values : List (Option ℤ)) (place : List ℕ → ℕ) →
    IsNamedTick d hyper s m before values place →
    GiveTheirNames before values place
    (only_if (has_trigger d s) (set 0 trigger_name (trigger_memory d s) ∷ [])
    ++ set 0 active_name (active_value d s) ∷ set 0 reset_name (reset_value d s) ∷ [])

-- the equations for the samples of a delay
abbrev pub MemoryEquationsHold : Type 0
MemoryEquationsHold =
    (d : Diagram) (hyper : ℕ) (s : Option ℕ) (m : SystemTick) (before : Option (List (Option ℤ)))
    (values : List (Option ℤ)) (place : List ℕ → ℕ) (b : ℕ) →
    IsNamedTick d hyper s m before values place → IsTimedRow d hyper s m.t b →
    is_delay (op_at d b) ≡ true → GiveTheirNames before values place (memory_equations d s b)

-- a row with a value can be computed from what it reads, and a delay remembers a sample
pub record IsComputedRow (d : Diagram) (s : Option ℕ) (m : SystemTick) (b : ℕ) : Type 0 where
  pub valued : has_value (row_at d.rows b).kind ≡ true
  pub evaluable : IsEvaluable (op_at d b) (own_inputs d s m b) (first_of (m.memory b))
  pub typed : AreTypesOf (op_at d b) (map (type_at d.types) (row_at d.rows b).inputs)
      (own_inputs d s m b)
  pub remembers : is_delay (op_at d b) ≡ true → 0 < delay_length (op_at d b)

-- the equations for the value of a row, its calls of functions among them
abbrev pub ValueEquationsHold : Type 0
ValueEquationsHold =
    (d : Diagram) (hyper : ℕ) (s : Option ℕ) (m : SystemTick) (before : Option (List (Option ℤ)))
    (values : List (Option ℤ)) (place : List ℕ → ℕ) (b : ℕ) →
    IsNamedTick d hyper s m before values place → IsSystemTick d s m →
    IsTimedRow d hyper s m.t b → IsComputedRow d s m b →
    GiveTheirNames before values place (value_equations d s b)
