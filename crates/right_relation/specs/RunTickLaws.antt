-- Laws that lead from the equations of a whole run to those of the rows of each system.
use Rattle.std.specs.Prelude.{◌≡◌, ℕ, suc, ◌<◌, List, length, Contains, Option, ℤ}
use Rattle.diagram_blocks.specs.Meaning.{delay_length}
use Rattle.diagram_meaning.specs.Diagram.{Diagram, op_at}
use Rattle.diagram_meaning.specs.Needs.{needs_of, HasNoLoop}
use Rattle.diagram_meaning.specs.Laws.{Run, IsRunOver}
use Rattle.diagram_meaning.specs.RunLaws.{IsSystemWithin}
use Rattle.diagram_meaning.specs.ResolvedTree.{ResolvedTree, IsResolvedTree, diagram_of}
use Rattle.diagram_meaning.specs.Traces.{IsTrace}
use Rattle.diagram_typed_runs.specs.TypedRuns.{IsSystem}
use Rattle.modules_profile.specs.declared.ChildUse.{ChildUse}
use Rattle.modules_profile.specs.LocalSystem.{LocalSystem}
use Rattle.modules_profile.specs.NodeFacts.{IsLocalOf}
use Rattle.right_relation.specs.LocalTicks.{IsLocalTick, IsTypedTick}
use Rattle.right_relation.specs.Standing.{outer_tick_of, child_tick_of}
use Rattle.right_relation.specs.StandingLaws.{Follows}
use Rattle.right_relation.specs.Relation.{IsCycleOf}
use Rattle.right_relation.specs.RunTicks.{Untouched, tick_at}

-- the cycle of the model is one of each system
abbrev pub CycleIsOfLocals : Type 0
CycleIsOfLocals = (r : ResolvedTree) (s : Option ℕ) (local : LocalSystem) → IsResolvedTree r →
    IsLocalOf r s local → IsCycleOf local r.times.hyper

-- each array that a ring begins with is as long as its delay
abbrev pub AreItems : Diagram → (ℕ → List ℤ) → Type 0
AreItems d items = (b : ℕ) → length (items b) ≡ delay_length (op_at d b)

-- each tick of a run is a tick for the rows of each system inside, whatever was in the arrays of
-- its rings and in its filler
abbrev pub TicksAreLocal : Type 0
TicksAreLocal =
    (r : ResolvedTree) (s n : Option ℕ) (local : LocalSystem) (xs : List (List ℤ)) (run : Run)
    (untouched : Untouched) (t : ℕ) → IsResolvedTree r →
    IsSystemWithin (diagram_of r).rows s n → IsLocalOf r n local →
    IsRunOver (diagram_of r) s xs run → AreItems (diagram_of r) untouched.items → t < length xs →
    IsLocalTick local (tick_at (diagram_of r) s xs run n untouched t)

-- and where the trace lies in its types, so does all else; round a loop of rows that copy any
-- number could be there
abbrev pub LocalTicksAreTyped : Type 0
LocalTicksAreTyped =
    (r : ResolvedTree) (s n : Option ℕ) (local : LocalSystem) (xs : List (List ℤ)) (run : Run)
    (untouched : Untouched) (t : ℕ) → IsResolvedTree r →
    IsSystem (diagram_of r).rows n → IsSystemWithin (diagram_of r).rows s n → IsLocalOf r n local →
    IsRunOver (diagram_of r) s xs run → IsTrace (diagram_of r) s xs →
    HasNoLoop (needs_of (diagram_of r)) → t < length xs →
    IsTypedTick local (tick_at (diagram_of r) s xs run n untouched t)

-- one tick follows the other
abbrev pub TicksFollow : Type 0
TicksFollow =
    (d : Diagram) (s n : Option ℕ) (xs : List (List ℤ)) (run : Run) (untouched : Untouched) (t : ℕ) →
    Follows (tick_at d s xs run n untouched t) (tick_at d s xs run n untouched (suc t))

-- a child meets the tick that its own rows have
abbrev pub ChildrenMeetTheirTicks : Type 0
ChildrenMeetTheirTicks =
    (r : ResolvedTree) (s n : Option ℕ) (local inner : LocalSystem) (u : ChildUse)
    (xs : List (List ℤ)) (run : Run) (untouched others : Untouched) (t : ℕ) → IsResolvedTree r →
    IsSystemWithin (diagram_of r).rows s n → IsLocalOf r n local → Contains local.children u →
    IsLocalOf r u.header.row inner →
    IsRunOver (diagram_of r) s xs run → t < length xs →
    child_tick_of local (tick_at (diagram_of r) s xs run n untouched t) u
    ≡ outer_tick_of inner (tick_at (diagram_of r) s xs run u.header.row others t)
