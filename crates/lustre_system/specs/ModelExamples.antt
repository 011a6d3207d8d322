-- Models as Lustre, with their outputs over traces.
use Rattle.std.specs.Prelude.{◌≡◌, ℕ, Bool, true, false, List, [], ◌∷◌, length, map, Some, None, ℤ, pos, refl}
use Rattle.std.specs.Fmt.{digits}
use Rattle.std.proofs.Common.{lit≤}
use Rattle.base_core.specs.declared.Control.TheVariants.{Plain, Enabled, Triggered, Both}
use Rattle.base_core.specs.declared.Edge.TheVariants.{Rising}
use Rattle.base_core.specs.declared.Decimal.{Decimal}
use Rattle.diagram_blocks.specs.declared.Kind.TheVariants.{Inport, Outport, SubSystem, Constant, Sum, UnitDelay, Delay, ZeroOrderHold, EnablePort, TriggerPort}
use Rattle.diagram_meaning.specs.declared.times.Time.{Time}
use Rattle.diagram_meaning.specs.Diagram.{Diagram}
use Rattle.diagram_meaning.specs.RunExamples.{whole_decimal, how, row, simple, zero_initial, accumulator}
use Rattle.lustre_flows.specs.Flows.{outputs}
use Rattle.lustre_system.specs.File.{named_file, lustre_file}

-- the outputs of a model's file
abbrev pub gives : Diagram → List (List ℤ) → List (List ℤ)
gives d xs = outputs (lustre_file d 1) xs

-- how many nodes it has
abbrev pub node_count : Diagram → ℕ
node_count d = length (named_file d 1)

-- a row of a trace or of outputs, and several
abbrev pub one : ℕ → List ℤ
one a = pos a ∷ []

abbrev pub two : ℕ → ℕ → List ℤ
two a b = pos a ∷ pos b ∷ []

abbrev pub three : ℕ → ℕ → ℕ → List ℤ
three a b c = pos a ∷ pos b ∷ pos c ∷ []

-- ---- A delay that begins with 7

abbrev pub one_delay : Diagram
one_delay =
    simple (row None (Inport 1) [] ∷ row None (UnitDelay (whole_decimal 7 (lit≤ tt))) (0 ∷ [])
    ∷ row None (Outport 1 false zero_initial) (1 ∷ []) ∷ [])

pub one_delay_count : node_count one_delay ≡ 10
one_delay_count = refl

pub one_delay_outputs : gives one_delay (map one (1 ∷ 2 ∷ 3 ∷ [])) ≡ map one (7 ∷ 1 ∷ 2 ∷ [])
unfolding digits
one_delay_outputs = refl

-- ---- A sum takes its own delayed value from the input

pub accumulator_outputs : gives accumulator (map one (5 ∷ 5 ∷ 5 ∷ [])) ≡ map one (5 ∷ 0 ∷ 5 ∷ [])
unfolding digits
accumulator_outputs = refl

-- ---- Crossed ports: the first output of a subsystem enters it again

abbrev pub crossed_ports : Diagram
crossed_ports =
    simple (row None (Inport 1) [] ∷ row None (SubSystem Plain) []
    ∷ row (Some 1) (Inport 1) (0 ∷ []) ∷ row (Some 1) (Inport 2) (4 ∷ [])
    ∷ row (Some 1) (Outport 1 false zero_initial) (2 ∷ [])
    ∷ row (Some 1) (Outport 2 false zero_initial) (3 ∷ [])
    ∷ row None (Outport 1 false zero_initial) (5 ∷ []) ∷ [])

pub crossed_ports_count : node_count crossed_ports ≡ 11
crossed_ports_count = refl

pub crossed_ports_outputs : gives crossed_ports (map one (4 ∷ 9 ∷ [])) ≡ map one (4 ∷ 9 ∷ [])
unfolding digits
crossed_ports_outputs = refl

-- ---- Nested enables: the inner one loses its states when it is disabled, the outer one doesn't

abbrev pub nested_enables : Diagram
nested_enables =
    simple (row None (Inport 1) [] ∷ row None (Inport 2) []
    ∷ row None (SubSystem (Enabled false)) (0 ∷ [])
    ∷ row (Some 2) (Inport 1) (1 ∷ []) ∷ row (Some 2) EnablePort []
    ∷ row (Some 2) (SubSystem (Enabled true)) (3 ∷ [])
    ∷ row (Some 5) EnablePort [] ∷ row (Some 5) (Constant (whole_decimal 1 (lit≤ tt))) []
    ∷ row (Some 5) (Sum 2 0 how) (7 ∷ 9 ∷ []) ∷ row (Some 5) (UnitDelay zero_initial) (8 ∷ [])
    ∷ row (Some 5) (Outport 1 false zero_initial) (8 ∷ [])
    ∷ row (Some 2) (Outport 1 false zero_initial) (10 ∷ [])
    ∷ row None (Outport 1 false zero_initial) (11 ∷ []) ∷ [])

pub nested_enables_count : node_count nested_enables ≡ 12
nested_enables_count = refl

pub nested_enables_outputs : gives nested_enables
    (two 1 1 ∷ two 1 1 ∷ two 0 0 ∷ two 1 1 ∷ two 1 0 ∷ two 1 1 ∷ [])
    ≡ map one (1 ∷ 2 ∷ 2 ∷ 3 ∷ 3 ∷ 1 ∷ [])
unfolding digits
nested_enables_outputs = refl

-- ---- A rising trigger

abbrev pub rising_trigger : Diagram
rising_trigger =
    simple (row None (Inport 1) [] ∷ row None (Inport 2) []
    ∷ row None (SubSystem (Triggered Rising)) (1 ∷ [])
    ∷ row (Some 2) (Inport 1) (0 ∷ []) ∷ row (Some 2) TriggerPort []
    ∷ row (Some 2) (Outport 1 false zero_initial) (3 ∷ [])
    ∷ row None (Outport 1 false zero_initial) (5 ∷ []) ∷ [])

pub rising_trigger_outputs : gives rising_trigger (two 5 1 ∷ two 6 0 ∷ two 7 1 ∷ two 8 1 ∷ [])
    ≡ map one (0 ∷ 0 ∷ 7 ∷ 7 ∷ [])
unfolding digits
rising_trigger_outputs = refl

-- ---- Enable and trigger on one subsystem, whose output is held or reset

abbrev pub both_controls : Bool → Decimal → Diagram
both_controls reset initial =
    simple (row None (Inport 1) [] ∷ row None (Inport 2) [] ∷ row None (Inport 3) []
    ∷ row None (SubSystem (Both false Rising)) (1 ∷ 2 ∷ [])
    ∷ row (Some 3) (Inport 1) (0 ∷ []) ∷ row (Some 3) EnablePort [] ∷ row (Some 3) TriggerPort []
    ∷ row (Some 3) (Outport 1 reset initial) (4 ∷ [])
    ∷ row None (Outport 1 false zero_initial) (7 ∷ []) ∷ [])

abbrev pub controls_trace : List (List ℤ)
controls_trace = three 5 1 0 ∷ three 6 1 1 ∷ three 7 0 0 ∷ three 8 0 1 ∷ three 9 1 1 ∷ three 1 1 0
    ∷ three 2 1 1 ∷ []

pub held_outputs : gives (both_controls false zero_initial) controls_trace
    ≡ map one (0 ∷ 6 ∷ 6 ∷ 6 ∷ 6 ∷ 6 ∷ 2 ∷ [])
unfolding digits
held_outputs = refl

pub reset_outputs : gives (both_controls true (whole_decimal 3 (lit≤ tt))) controls_trace
    ≡ map one (3 ∷ 6 ∷ 3 ∷ 3 ∷ 3 ∷ 3 ∷ 2 ∷ [])
unfolding digits
reset_outputs = refl

-- ---- A trigger inside a subsystem that loses its states when it is disabled

abbrev pub trigger_inside : Diagram
trigger_inside =
    simple (row None (Inport 1) [] ∷ row None (Inport 2) [] ∷ row None (Inport 3) []
    ∷ row None (SubSystem (Enabled true)) (1 ∷ [])
    ∷ row (Some 3) (Inport 1) (0 ∷ []) ∷ row (Some 3) (Inport 2) (2 ∷ [])
    ∷ row (Some 3) EnablePort [] ∷ row (Some 3) (SubSystem (Triggered Rising)) (5 ∷ [])
    ∷ row (Some 7) (Inport 1) (4 ∷ []) ∷ row (Some 7) TriggerPort []
    ∷ row (Some 7) (Outport 1 false zero_initial) (8 ∷ [])
    ∷ row (Some 3) (Outport 1 false zero_initial) (10 ∷ [])
    ∷ row None (Outport 1 false zero_initial) (11 ∷ []) ∷ [])

-- at the fifth tick the trigger has forgotten that it was low
pub trigger_inside_outputs : gives trigger_inside
    (three 5 1 0 ∷ three 6 1 1 ∷ three 7 1 0 ∷ three 8 0 1 ∷ three 9 1 1 ∷ three 1 1 0
    ∷ three 2 1 1 ∷ []) ≡ map one (0 ∷ 6 ∷ 6 ∷ 6 ∷ 6 ∷ 6 ∷ 2 ∷ [])
unfolding digits
trigger_inside_outputs = refl

-- ---- A delay in an enabled subsystem inside one that loses its states: the outer one resets it

abbrev pub reset_from_around : Diagram
reset_from_around =
    simple (row None (Inport 1) [] ∷ row None (Inport 2) []
    ∷ row None (SubSystem (Enabled true)) (1 ∷ [])
    ∷ row (Some 2) (Inport 1) (0 ∷ []) ∷ row (Some 2) (Constant (whole_decimal 1 (lit≤ tt))) []
    ∷ row (Some 2) EnablePort [] ∷ row (Some 2) (SubSystem (Enabled true)) (4 ∷ [])
    ∷ row (Some 6) (Inport 1) (3 ∷ []) ∷ row (Some 6) EnablePort []
    ∷ row (Some 6) (UnitDelay zero_initial) (7 ∷ [])
    ∷ row (Some 6) (Outport 1 false zero_initial) (9 ∷ [])
    ∷ row (Some 2) (Outport 1 false zero_initial) (10 ∷ [])
    ∷ row None (Outport 1 false zero_initial) (11 ∷ []) ∷ [])

pub reset_from_around_outputs : gives reset_from_around
    (two 1 1 ∷ two 2 1 ∷ two 3 0 ∷ two 4 1 ∷ two 5 1 ∷ [])
    ≡ map one (0 ∷ 1 ∷ 1 ∷ 0 ∷ 4 ∷ [])
unfolding digits
reset_from_around_outputs = refl

-- ---- Delays of several samples

abbrev pub three_samples : Diagram
three_samples =
    simple (row None (Inport 1) [] ∷ row None (Delay 3 (whole_decimal 7 (lit≤ tt))) (0 ∷ [])
    ∷ row None (Outport 1 false zero_initial) (1 ∷ []) ∷ [])

pub three_samples_outputs : gives three_samples (map one (1 ∷ 2 ∷ 3 ∷ 4 ∷ 5 ∷ []))
    ≡ map one (7 ∷ 7 ∷ 7 ∷ 1 ∷ 2 ∷ [])
unfolding digits
three_samples_outputs = refl

-- two samples in an enabled subsystem that loses its states
abbrev pub lost_samples : Diagram
lost_samples =
    simple (row None (Inport 1) [] ∷ row None (Inport 2) []
    ∷ row None (SubSystem (Enabled true)) (1 ∷ [])
    ∷ row (Some 2) (Inport 1) (0 ∷ []) ∷ row (Some 2) EnablePort []
    ∷ row (Some 2) (Delay 2 zero_initial) (3 ∷ [])
    ∷ row (Some 2) (Outport 1 false zero_initial) (5 ∷ [])
    ∷ row None (Outport 1 false zero_initial) (6 ∷ []) ∷ [])

pub lost_samples_outputs : gives lost_samples
    (two 1 1 ∷ two 2 1 ∷ two 3 1 ∷ two 9 0 ∷ two 4 1 ∷ two 5 1 ∷ two 6 1 ∷ [])
    ≡ map one (0 ∷ 0 ∷ 1 ∷ 1 ∷ 0 ∷ 0 ∷ 4 ∷ [])
unfolding digits
lost_samples_outputs = refl

-- ---- Two rates: a hold at each second tick, and a delay at the ticks 1, 4, 7 and so on

abbrev pub each_second : Time
each_second = record { period = 2; offset = 0; in_period = lit≤ tt }

abbrev pub third_ticks : Time
third_ticks = record { period = 3; offset = 1; in_period = lit≤ tt }

abbrev pub every : Time
every = record { period = 1; offset = 0; in_period = lit≤ tt }

abbrev pub two_rates : Diagram
two_rates =
    record (simple (row None (Inport 1) [] ∷ row None ZeroOrderHold (0 ∷ [])
    ∷ row None (UnitDelay (whole_decimal 9 (lit≤ tt))) (0 ∷ [])
    ∷ row None (Outport 1 false zero_initial) (1 ∷ [])
    ∷ row None (Outport 2 false zero_initial) (2 ∷ []) ∷ []))
    { run = every ∷ each_second ∷ third_ticks ∷ every ∷ every ∷ [] }

pub two_rates_outputs : outputs (lustre_file two_rates 6)
    (map one (10 ∷ 11 ∷ 12 ∷ 13 ∷ 14 ∷ 15 ∷ 16 ∷ []))
    ≡ two 10 9 ∷ two 10 9 ∷ two 12 9 ∷ two 12 9 ∷ two 14 11 ∷ two 14 11 ∷ two 16 11 ∷ []
unfolding digits
two_rates_outputs = refl
