-- The code of a root whose two functions share a delay and a gain: both are executed once in a
-- tick, under one counter.
use Rattle.std.specs.Prelude.{◌≡◌, refl, false, List, [], ◌∷◌, map, set, None, pos, ℤ, codes}
use Rattle.std.specs.Fmt.{digits}
use Rattle.std.proofs.Common.{lit≤}
use Rattle.base_fixed_point.specs.Types.{int32}
use Rattle.diagram_blocks.specs.declared.Kind.TheVariants.{Inport, Outport, UnitDelay, Sum, ZeroOrderHold}
use Rattle.diagram_blocks.specs.declared.Op.TheVariants.{Gain}
use Rattle.diagram_meaning.specs.Diagram.{Diagram}
use Rattle.diagram_meaning.specs.RunExamples.{simple, row, how, zero_initial, whole_decimal}
use Rattle.modules_profile.specs.SystemProfile.{SystemProfile}
use Rattle.modules_profile.specs.LocalSystem.{LocalSystem}
use Rattle.modules_profile.specs.Locals.{local_of}
use Rattle.modules_schedule.specs.SystemSchedule.{SystemSchedule}
use Rattle.modules_schedule.specs.Scheduling.{schedule_for}
use Rattle.c_semantics.specs.Rows.{c_rows}
use Rattle.emit_prelude.specs.Bodies.{function_trees}
use Rattle.emit_shape.specs.Assembled.{assembled}
use Rattle.emit_shape.specs.SystemTree.{SystemTree}
use Rattle.emit_system_spec.specs.Fields.{shared_groups}
use Rattle.emit_system_spec.specs.EmittedCode.{system_code}

-- In1, In2, D that begins with 1, G that doubles what D gives and feeds it, G + In1, G + In2, Out1
-- and Out2
abbrev doubled : Diagram
doubled =
    simple (row None (Inport 1) [] ∷ row None (Inport 2) []
    ∷ row None (UnitDelay (whole_decimal 1 (lit≤ tt))) (3 ∷ []) ∷ row None ZeroOrderHold (2 ∷ [])
    ∷ row None (Sum 2 0 how) (3 ∷ 0 ∷ []) ∷ row None (Sum 2 0 how) (3 ∷ 1 ∷ [])
    ∷ row None (Outport 1 false zero_initial) (4 ∷ []) ∷ row None (Outport 2 false zero_initial)
    (5 ∷ []) ∷ [])

abbrev local : LocalSystem
local = local_of
    (record {
      rows = doubled.rows;
      types = doubled.types;
      ops = set doubled.ops 3 (Gain (pos 2) 0 int32 how);
      run = doubled.run;
    }) [] None []

abbrev profile : SystemProfile
profile =
    record {
      row = None;
      functions = record { inputs = 1; outputs = 1 }
          ∷ record { inputs = 2; outputs = 2 } ∷ [];
    }

abbrev schedule : SystemSchedule
schedule =
    schedule_for (0 ∷ 1 ∷ 2 ∷ 3 ∷ 4 ∷ 5 ∷ 6 ∷ 7 ∷ [])
    (record { of = 1 ∷ 2 ∷ 0 ∷ 0 ∷ 1 ∷ 2 ∷ 1 ∷ 2 ∷ []; holds = 3 ∷ 1 ∷ 2 ∷ [] }) 2

abbrev code : SystemTree
code = system_code local profile schedule

-- one group is shared, and so there is one counter
one_counter : shared_groups schedule ≡ 0 ∷ []
one_counter = refl

fields : map (λ f. f.name) code.structure.fields ≡ codes "v0" ∷ codes "v1" ∷ codes "v2" ∷ codes "v3"
    ∷ codes "v4" ∷ codes "v5" ∷ codes "v6" ∷ codes "v7" ∷ codes "m2" ∷ codes "k1" ∷ []
unfolding digits
fields = refl

outputs : code.outputs ≡ 6 ∷ 7 ∷ []
outputs = refl

names : map (λ q. q.name) code.procedures ≡ codes "top_g1" ∷ codes "top_g2" ∷ codes "top_g3"
    ∷ codes "top_out1" ∷ codes "top_out2" ∷ codes "top_update" ∷ codes "top_start"
    ∷ codes "top_reset" ∷ []
unfolding digits
names = refl

-- a group takes the inputs whose Inports it has: the shared one takes none
parameters : map (λ q. map (λ p. p.name) q.params) code.procedures
    ≡ (codes "now" ∷ []) ∷ (codes "now" ∷ codes "u1" ∷ []) ∷ (codes "now" ∷ codes "u2" ∷ [])
    ∷ (codes "now" ∷ codes "u1" ∷ []) ∷ (codes "now" ∷ codes "u2" ∷ [])
    ∷ (codes "now" ∷ codes "u1" ∷ codes "u2" ∷ []) ∷ [] ∷ [] ∷ []
unfolding digits
parameters = refl

abbrev trace : List (List ℤ)
trace = (pos 10 ∷ pos 20 ∷ []) ∷ (pos 10 ∷ pos 20 ∷ []) ∷ (pos 10 ∷ pos 20 ∷ []) ∷ []

-- over ticks D is 1, 2, 4
gives : map (λ row. row.outputs) (c_rows (assembled (code ∷ []) local 1 function_trees) trace).ticks
    ≡ (pos 12 ∷ pos 22 ∷ []) ∷ (pos 14 ∷ pos 24 ∷ []) ∷ (pos 18 ∷ pos 28 ∷ []) ∷ []
unfolding digits
gives = refl
