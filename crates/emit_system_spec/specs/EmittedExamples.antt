-- Emitted code that runs: a delay of three samples, a row with a period, a gain that is rounded and
-- brought into its type, a triggered subsystem, and one with an enable and a trigger. Each is the
-- whole program of its systems' code.
use Rattle.std.specs.Prelude.{◌≡◌, refl, ℕ, ◌+◌, ◌^◌, true, false, List, [], ◌∷◌, map, Option, Some, None, pos, neg_ℤ, ℤ}
use Rattle.std.specs.Fmt.{digits}
use Rattle.std.proofs.Common.{lit≤}
use Rattle.base_core.specs.declared.Control.TheVariants.{Enabled, Triggered, Both}
use Rattle.base_core.specs.declared.Edge.TheVariants.{Rising}
use Rattle.diagram_blocks.specs.declared.Kind.TheVariants.{Inport, Outport, SubSystem, EnablePort, TriggerPort, Delay, ZeroOrderHold}
use Rattle.diagram_blocks.specs.declared.Op.TheVariants.{Copy, Gain}
use Rattle.diagram_meaning.specs.Diagram.{Diagram}
use Rattle.diagram_meaning.specs.SampleTimes.{every_tick}
use Rattle.base_fixed_point.specs.Types.{int32}
use Rattle.diagram_meaning.specs.RunExamples.{simple, row, how, zero_initial, whole_decimal}
use Rattle.modules_profile.specs.SystemProfile.{SystemProfile}
use Rattle.modules_profile.specs.LocalSystem.{LocalSystem}
use Rattle.modules_profile.specs.Headers.{header_of}
use Rattle.modules_profile.specs.Locals.{local_of}
use Rattle.modules_schedule.specs.Scheduling.{schedule_for}
use Rattle.modules_schedule.specs.SystemSchedule.{SystemSchedule}
use Rattle.c_syntax.specs.Tree.{ProgramTree}
use Rattle.c_semantics.specs.Rows.{c_rows}
use Rattle.emit_prelude.specs.Bodies.{function_trees}
use Rattle.emit_shape.specs.Assembled.{assembled}
use Rattle.emit_shape.specs.SystemTree.{SystemTree}
use Rattle.emit_system_spec.specs.EmittedCode.{system_code}

-- the outputs of a program over a trace
abbrev outputs_over : ProgramTree → List (List ℤ) → List (List ℤ)
outputs_over p xs = map (λ row. row.outputs) (c_rows p xs).ticks

-- ---- Models of one system: In1, a row, Out1

abbrev one_function : Option ℕ → ℕ → SystemProfile
one_function s inputs = record { row = s; functions = record { inputs = inputs; outputs = 1 } ∷ [] }

-- all three rows are executed by the one function, in this order
abbrev three_rows : List ℕ → SystemSchedule
three_rows order = schedule_for order (record { of = 0 ∷ 0 ∷ 0 ∷ []; holds = 1 ∷ [] }) 1

abbrev chain_code : Diagram → ℕ → SystemTree
chain_code d inputs =
    system_code (local_of d [] None []) (one_function None inputs) (three_rows (0 ∷ 1 ∷ 2 ∷ []))

-- a delay of three samples that starts at 7; its one function holds the delay and Out1, and the
-- update executes In1
abbrev line : Diagram
line = simple (row None (Inport 1) [] ∷ row None (Delay 3 (whole_decimal 7 (lit≤ tt))) (0 ∷ [])
    ∷ row None (Outport 1 false zero_initial) (1 ∷ []) ∷ [])

abbrev line_local : LocalSystem
line_local = local_of line [] None []

abbrev line_profile : SystemProfile
line_profile = one_function None 0

abbrev line_schedule : SystemSchedule
line_schedule = schedule_for (0 ∷ 1 ∷ 2 ∷ []) (record { of = 1 ∷ 0 ∷ 0 ∷ []; holds = 1 ∷ 0 ∷ [] }) 1

abbrev line_code : SystemTree
line_code = system_code line_local line_profile line_schedule

line_gives : outputs_over (assembled (line_code ∷ []) line_local 1 function_trees)
    (map (λ v. pos v ∷ []) (1 ∷ 2 ∷ 3 ∷ 4 ∷ 5 ∷ []))
    ≡ map (λ v. pos v ∷ []) (7 ∷ 7 ∷ 7 ∷ 1 ∷ 2 ∷ [])
unfolding digits
line_gives = refl

-- a hold at every second tick
abbrev held_rows : Diagram
held_rows =
    simple (row None (Inport 1) [] ∷ row None ZeroOrderHold (0 ∷ [])
    ∷ row None (Outport 1 false zero_initial) (1 ∷ []) ∷ [])

abbrev second_tick : Diagram
second_tick =
    record {
      rows = held_rows.rows;
      types = held_rows.types;
      ops = held_rows.ops;
      run = every_tick ∷ record { period = 2; offset = 0; in_period = lit≤ tt } ∷ every_tick ∷ [];
    }

hold_gives : outputs_over
    (assembled (chain_code second_tick 1 ∷ []) (local_of second_tick [] None []) 2 function_trees)
    (map (λ v. pos v ∷ []) (1 ∷ 2 ∷ 3 ∷ 4 ∷ []))
    ≡ map (λ v. pos v ∷ []) (1 ∷ 1 ∷ 3 ∷ 3 ∷ [])
unfolding digits
hold_gives = refl

-- a gain of 3 with one bit after the point: half of three times the input, rounded down, at most
-- the greatest int32
abbrev halves : Diagram
halves =
    record {
      rows = held_rows.rows;
      types = held_rows.types;
      ops = Copy ∷ Gain (pos 3) 1 int32 how
          ∷ Copy ∷ [];
      run = held_rows.run;
    }

gain_gives : outputs_over
    (assembled (chain_code halves 1 ∷ []) (local_of halves [] None []) 1 function_trees)
    ((pos 3 ∷ []) ∷ (neg_ℤ (pos 3) ∷ []) ∷ (pos 2147483647 ∷ []) ∷ [])
    ≡ (pos 4 ∷ []) ∷ (neg_ℤ (pos 5) ∷ []) ∷ (pos 2147483647 ∷ []) ∷ []
unfolding digits
gain_gives = refl

-- ---- A subsystem that passes x1 on to y1

-- In1, In2, S triggered by In2, x1, the port, y1, Out1
abbrev triggered : Diagram
triggered =
    simple (row None (Inport 1) [] ∷ row None (Inport 2) []
    ∷ row None (SubSystem (Triggered Rising)) (1 ∷ []) ∷ row (Some 2) (Inport 1) (0 ∷ [])
    ∷ row (Some 2) TriggerPort [] ∷ row (Some 2) (Outport 1 false zero_initial) (3 ∷ [])
    ∷ row None (Outport 1 false zero_initial) (5 ∷ []) ∷ [])

abbrev inner_triggered : SystemProfile
inner_triggered = one_function (Some 2) (1 + 2 ^ 33)

-- the function executes x1 and y1
abbrev inner_triggered_code : SystemTree
inner_triggered_code =
    system_code (local_of triggered [] (Some 2) []) inner_triggered
    (schedule_for (0 ∷ 1 ∷ 2 ∷ []) (record { of = 0 ∷ 1 ∷ 0 ∷ []; holds = 1 ∷ 0 ∷ [] }) 1)

abbrev around_triggered : LocalSystem
around_triggered = local_of triggered [] None (header_of triggered (Some 2) inner_triggered ∷ [])

-- In1, In2, S, Out1 and the call
abbrev around_triggered_code : SystemTree
around_triggered_code =
    system_code around_triggered (one_function None 3)
    (schedule_for (0 ∷ 1 ∷ 2 ∷ 4 ∷ 3 ∷ [])
    (record { of = 0 ∷ 0 ∷ 1 ∷ 0 ∷ 0 ∷ []; holds = 1 ∷ 0 ∷ [] }) 1)

trigger_gives : outputs_over
    (assembled (around_triggered_code ∷ inner_triggered_code ∷ []) around_triggered 1
    function_trees) ((pos 1 ∷ pos 0 ∷ []) ∷ (pos 2 ∷ pos 1 ∷ []) ∷ (pos 3 ∷ pos 1 ∷ [])
    ∷ (pos 4 ∷ pos 0 ∷ []) ∷ (pos 5 ∷ pos 1 ∷ []) ∷ [])
    ≡ map (λ v. pos v ∷ []) (0 ∷ 2 ∷ 2 ∷ 2 ∷ 5 ∷ [])
unfolding digits
trigger_gives = refl

-- In1, In2, S enabled by In2 with its states reset, x1, the port, a delay of two samples, y1, Out1
abbrev enabled : Diagram
enabled =
    simple (row None (Inport 1) [] ∷ row None (Inport 2) [] ∷ row None (SubSystem (Enabled true))
    (1 ∷ []) ∷ row (Some 2) (Inport 1) (0 ∷ []) ∷ row (Some 2) EnablePort []
    ∷ row (Some 2) (Delay 2 zero_initial) (3 ∷ []) ∷ row (Some 2) (Outport 1 false zero_initial)
    (5 ∷ []) ∷ row None (Outport 1 false zero_initial) (6 ∷ []) ∷ [])

abbrev inner_enabled : SystemProfile
inner_enabled = one_function (Some 2) (2 ^ 32)

-- the function executes the delay and y1
abbrev inner_enabled_code : SystemTree
inner_enabled_code =
    system_code (local_of enabled [] (Some 2) []) inner_enabled
    (schedule_for (0 ∷ 1 ∷ 2 ∷ 3 ∷ []) (record { of = 1 ∷ 1 ∷ 0 ∷ 0 ∷ []; holds = 1 ∷ 0 ∷ [] }) 1)

abbrev around_enabled : LocalSystem
around_enabled = local_of enabled [] None (header_of enabled (Some 2) inner_enabled ∷ [])

-- In2, the call and Out1; the update executes In1
abbrev around_enabled_code : SystemTree
around_enabled_code =
    system_code around_enabled (one_function None 2)
    (schedule_for (0 ∷ 1 ∷ 2 ∷ 4 ∷ 3 ∷ [])
    (record { of = 1 ∷ 0 ∷ 1 ∷ 0 ∷ 0 ∷ []; holds = 1 ∷ 0 ∷ [] }) 1)

-- at the fourth tick it is off, and its delay begins anew
enable_gives : outputs_over
    (assembled (around_enabled_code ∷ inner_enabled_code ∷ []) around_enabled 1 function_trees)
    ((pos 1 ∷ pos 1 ∷ []) ∷ (pos 2 ∷ pos 1 ∷ []) ∷ (pos 3 ∷ pos 1 ∷ []) ∷ (pos 9 ∷ pos 0 ∷ [])
    ∷ (pos 4 ∷ pos 1 ∷ []) ∷ (pos 5 ∷ pos 1 ∷ []) ∷ (pos 6 ∷ pos 1 ∷ []) ∷ [])
    ≡ map (λ v. pos v ∷ []) (0 ∷ 0 ∷ 1 ∷ 1 ∷ 0 ∷ 0 ∷ 4 ∷ [])
unfolding digits
enable_gives = refl

-- In1, In2, In3, S enabled by In2 and triggered by In3, x1, both ports, y1, Out1
abbrev gated : Diagram
gated = simple (row None (Inport 1) [] ∷ row None (Inport 2) [] ∷ row None (Inport 3) []
    ∷ row None (SubSystem (Both false Rising)) (1 ∷ 2 ∷ []) ∷ row (Some 3) (Inport 1) (0 ∷ [])
    ∷ row (Some 3) EnablePort [] ∷ row (Some 3) TriggerPort []
    ∷ row (Some 3) (Outport 1 true (whole_decimal 3 (lit≤ tt))) (4 ∷ [])
    ∷ row None (Outport 1 false zero_initial) (7 ∷ []) ∷ [])

abbrev inner_gated : SystemProfile
inner_gated = one_function (Some 3) (1 + 2 ^ 32 + 2 ^ 33)

abbrev inner_gated_code : SystemTree
inner_gated_code =
    system_code (local_of gated [] (Some 3) []) inner_gated
    (schedule_for (0 ∷ 1 ∷ 2 ∷ 3 ∷ []) (record { of = 0 ∷ 1 ∷ 1 ∷ 0 ∷ []; holds = 1 ∷ 0 ∷ [] }) 1)

abbrev around_gated : LocalSystem
around_gated = local_of gated [] None (header_of gated (Some 3) inner_gated ∷ [])

abbrev around_gated_code : SystemTree
around_gated_code =
    system_code around_gated (one_function None 7)
    (schedule_for (0 ∷ 1 ∷ 2 ∷ 3 ∷ 5 ∷ 4 ∷ [])
    (record { of = 0 ∷ 0 ∷ 0 ∷ 1 ∷ 0 ∷ 0 ∷ []; holds = 1 ∷ 0 ∷ [] }) 1)

-- outputs are reset to 3 while the enable is low
gated_gives : outputs_over
    (assembled (around_gated_code ∷ inner_gated_code ∷ []) around_gated 1 function_trees)
    ((pos 5 ∷ pos 1 ∷ pos 0 ∷ []) ∷ (pos 6 ∷ pos 1 ∷ pos 1 ∷ []) ∷ (pos 7 ∷ pos 0 ∷ pos 0 ∷ [])
    ∷ (pos 8 ∷ pos 0 ∷ pos 1 ∷ []) ∷ (pos 9 ∷ pos 1 ∷ pos 1 ∷ []) ∷ (pos 1 ∷ pos 1 ∷ pos 0 ∷ [])
    ∷ (pos 2 ∷ pos 1 ∷ pos 1 ∷ []) ∷ [])
    ≡ map (λ v. pos v ∷ []) (3 ∷ 6 ∷ 3 ∷ 3 ∷ 3 ∷ 3 ∷ 2 ∷ [])
unfolding digits
gated_gives = refl
