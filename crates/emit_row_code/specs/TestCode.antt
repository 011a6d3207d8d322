-- The tests of activity and of the sample time, over the leaves of a system's controls and of the
-- tick.
use Rattle.std.specs.Prelude.{ℕ, ◌==◌, if◌then◌else◌, Option, Some, None, pos}
use Rattle.base_core.specs.declared.Compare.TheVariants.{Eq, Gt}
use Rattle.base_core.specs.declared.Control.{Control}
use Rattle.base_core.specs.declared.Control.TheVariants.{Plain, Enabled, Triggered, Both}
use Rattle.base_core.specs.declared.Edge.{Edge}
use Rattle.base_core.specs.declared.Edge.TheVariants.{Rising, Falling, Either}
use Rattle.diagram_meaning.specs.declared.Time.{Time}
use Rattle.c_syntax.specs.declared.BinOp.TheVariants.{Rem}
use Rattle.c_syntax.specs.declared.Leaf.{Leaf}
use Rattle.c_syntax.specs.Tree.{ExprTree, literal, read, binary, pick, CondTree, compare, both, either, negated}
use Rattle.emit_row_code.specs.declared.leaves.ControlLeaves.{ControlLeaves}

-- a control is above 0
abbrev pub is_high_code : Leaf → CondTree
is_high_code control = compare Gt (read control) (literal (pos 0))

-- the trigger was low (1) or high (2)
abbrev pub was : ControlLeaves → ℕ → CondTree
was leaves level = compare Eq (read leaves.remembers) (literal (pos level))

-- the trigger was low and is high; it was high and isn't
abbrev pub rises : ControlLeaves → CondTree
rises leaves = both (was leaves 1) (is_high_code leaves.trigger)

abbrev pub falls : ControlLeaves → CondTree
falls leaves = both (was leaves 2) (negated (is_high_code leaves.trigger))

abbrev pub event_test : Edge → ControlLeaves → CondTree
event_test Rising leaves = rises leaves
event_test Falling leaves = falls leaves
event_test Either leaves = either (rises leaves) (falls leaves)

-- ---- Tests of a system inside an active one; none where there is nothing to ask

-- it is active; no test always holds
abbrev pub active_by : Control → ControlLeaves → Option CondTree
active_by Plain leaves = None
active_by (Enabled reset) leaves = Some (is_high_code leaves.enable)
active_by (Triggered edge) leaves = Some (event_test edge leaves)
active_by (Both reset edge) leaves =
    Some (both (is_high_code leaves.enable) (event_test edge leaves))

-- its enable is low; no test never holds
abbrev pub disabled_by : Control → ControlLeaves → Option CondTree
disabled_by Plain leaves = None
disabled_by (Enabled reset) leaves = Some (negated (is_high_code leaves.enable))
disabled_by (Triggered edge) leaves = None
disabled_by (Both reset edge) leaves = Some (negated (is_high_code leaves.enable))

-- it is off: its enable is low, and it loses its states then; no test never holds
abbrev pub off_by : Control → ControlLeaves → Option CondTree
off_by Plain leaves = None
off_by (Enabled reset) leaves = if reset then Some (negated (is_high_code leaves.enable)) else None
off_by (Triggered edge) leaves = None
off_by (Both reset edge) leaves =
    if reset then Some (negated (is_high_code leaves.enable)) else None

-- the tick is one of the sample time; no test always holds
abbrev pub hit_test : Time → Leaf → Option CondTree
hit_test time now =
    if time.period == 1 then None
    else Some (compare Eq (binary Rem (read now) (literal (pos time.period)))
    (literal (pos time.offset)))

-- what a trigger remembers of its level: low (1) or high (2)
abbrev pub level_code : Leaf → ExprTree
level_code trigger = pick (is_high_code trigger) (literal (pos 2)) (literal (pos 1))

-- both of two tests, in one; no test always holds
abbrev pub both_tests : Option CondTree → Option CondTree → Option CondTree
both_tests None second = second
both_tests (Some test) None = Some test
both_tests (Some test) (Some other) = Some (both test other)
