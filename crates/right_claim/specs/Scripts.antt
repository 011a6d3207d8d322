-- Scripts of calls on one system.
use Rattle.std.specs.Prelude.{◌≡◌, ℕ, suc, ◌<◌, ◌≤◌, ◌==◌, max, List, [], ◌∷◌, ◌++◌, map, length, zip, slice_index_or, IsTrue, IsFalse, Option, ℤ, ⊤}
use Rattle.std.specs.List.{AllByRecursion, AllZip, list_any, list_all, range_with_len}
use Rattle.base_core.specs.declared.Port.{Port}
use Rattle.base_fixed_point.specs.Conversion.{InType}
use Rattle.diagram_meaning.specs.Rows.{column}
use Rattle.diagram_meaning.specs.Diagram.{Diagram}
use Rattle.diagram_meaning.specs.Run.{value_at}
use Rattle.modules_profile.specs.declared.Function.{Function}
use Rattle.diagram_meaning.specs.Inputs.{input_ports}
use Rattle.base_core.specs.Ports.{ports_in}
use Rattle.modules_profile.specs.Headers.{numbered_function}
use Rattle.diagram_meaning.specs.Traces.{input_type_of}

-- a call of function j with the values of its inputs, or of the update with those of all inputs; by
-- number, the control last
pub data Call : Type 0 where
  out_with : (function : ℕ) (values : List ℤ) → Call
  update_with : (values : List ℤ) → Call

-- a value that an input was given
pub record Given : Type 0 where
  pub input : Port
  pub value : ℤ

abbrev pub given_of : List Port → List ℤ → List Given
given_of ports values =
    map (λ (e : Port × ℤ). record { input = e.0; value = e.1 }) (zip ports values)

-- what was done in the present tick: the functions called, and the values given
pub record TickSoFar : Type 0 where
  pub called : List ℕ
  pub given : List Given

abbrev pub nothing_yet : TickSoFar
nothing_yet = record { called = []; given = [] }

-- a script of the system s with these functions
module _ (d : Diagram) (s : Option ℕ) (functions : List Function) where
  -- the inputs that a call has values for
  abbrev pub inputs_of : Call → List Port
  inputs_of (out_with j values) =
      ports_in (numbered_function functions j).inputs (input_ports d.rows s)
  inputs_of (update_with values) = input_ports d.rows s

  abbrev pub values_of : Call → List ℤ
  values_of (out_with j values) = values
  values_of (update_with values) = values

  abbrev pub given_by : Call → List Given
  given_by c = given_of (inputs_of c) (values_of c)

  -- a call of a function that there is and that this tick had not, or of the update after all
  -- functions
  abbrev pub IsInTurn : TickSoFar → Call → Type 0
  IsInTurn tick (out_with j values) =
      (0 < j) × (j ≤ length functions) × IsFalse (list_any (λ i. i == j) tick.called)
  IsInTurn tick (update_with values) =
      IsTrue (list_all (λ j. list_any (λ i. i == j) tick.called)
      (range_with_len 1 (length functions)))

  -- an input that was given a value in this tick is given the same one
  abbrev pub IsLike : List Given → Given → Type 0
  IsLike earlier g = AllByRecursion (λ e. e.input ≡ g.input → e.value ≡ g.value) earlier

  -- a call that may come next
  pub record CanFollow (tick : TickSoFar) (c : Call) : Type 0 where
    pub in_turn : IsInTurn tick c
    pub in_types : AllZip (λ p v. InType (input_type_of d s p) v) (inputs_of c) (values_of c)
    pub alike : AllByRecursion (IsLike tick.given) (given_by c)

  abbrev pub tick_after : TickSoFar → Call → TickSoFar
  tick_after tick (out_with j values) =
      record { called = j ∷ tick.called; given = given_by (out_with j values) ++ tick.given }
  tick_after tick (update_with values) = nothing_yet

  abbrev pub IsLawfulFrom : TickSoFar → List Call → Type 0
  IsLawfulFrom tick [] = ⊤
  IsLawfulFrom tick (c ∷ cs) = CanFollow tick c × IsLawfulFrom (tick_after tick c) cs

  -- Between two updates no function is called twice, and at each update every one was called;
  -- values lie in their types, and an input that is given twice in a tick has one value.
  abbrev pub IsLawfulScript : List Call → Type 0
  IsLawfulScript script = IsLawfulFrom nothing_yet script

  -- the tick of what follows a call
  abbrev pub number_after : ℕ → Call → ℕ
  number_after t (out_with j values) = t
  number_after t (update_with values) = suc t

  -- how many ticks of a script have a call
  abbrev pub tick_count : List Call → ℕ
  tick_count [] = 0
  tick_count (out_with j values ∷ cs) = max 1 (tick_count cs)
  tick_count (update_with values ∷ cs) = suc (tick_count cs)

  -- a row of a trace has each value that was given
  abbrev pub HasGiven : List ℤ → List Given → Type 0
  HasGiven x given = AllByRecursion (λ g. value_at x (column d.rows s g.input) ≡ g.value) given

  -- the trace has the values that the calls from tick t on are given
  abbrev pub AgreesFrom : ℕ → List (List ℤ) → List Call → Type 0
  AgreesFrom t xs [] = ⊤
  AgreesFrom t xs (c ∷ cs) =
      HasGiven (slice_index_or xs t []) (given_by c) × AgreesFrom (number_after t c) xs cs

  -- a trace fits a script: a row for each tick in which there is a call, with every value given
  pub record Fits (xs : List (List ℤ)) (script : List Call) : Type 0 where
    pub one_row_each : length xs ≡ tick_count script
    pub agrees : AgreesFrom 0 xs script
