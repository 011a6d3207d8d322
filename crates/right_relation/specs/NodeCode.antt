-- What the emitter's functions promise of the code of a node, a memory, a trigger, an update call
-- and a reset call: the statements of single nodes in every tick, whatever prelude, children and
-- position in a program.
use Rattle.std.specs.Prelude.{ℕ, if◌then◌else◌, List, [], ◌++◌, map, ℤ}
use Rattle.std.specs.List.{AllZip}
use Rattle.diagram_blocks.specs.declared.Op.{Op}
use Rattle.diagram_blocks.specs.Kinds.{is_delay}
use Rattle.modules_profile.specs.declared.ChildUse.{ChildUse}
use Rattle.modules_profile.specs.declared.LocalRow.{LocalRow}
use Rattle.modules_profile.specs.LocalSystem.{LocalSystem}
use Rattle.c_syntax.specs.Tree.{StmtTrees, ParamTree, PureTree, field_types}
use Rattle.c_semantics.specs.Values.{functions_of as pure_functions}
use Rattle.c_semantics.specs.Machine.{Routine, Scope}
use Rattle.emit_prelude.specs.Rules.{IsPrelude}
use Rattle.emit_shape.specs.Slots.{Slot, slot_field}
use Rattle.emit_shape.specs.Relocation.{moved_stmts}
use Rattle.right_relation.specs.LocalTicks.{LocalTick, IsLocalTick, IsTypedTick}
use Rattle.right_relation.specs.Instances.{InstanceTick, Offer}
use Rattle.right_relation.specs.Serving.{IsOfferOf}
use Rattle.right_relation.specs.NodeStatements.{GivesValue, GivesMemory, GivesRing, GivesTrigger, GivesCall, GivesUpdate, GivesReset}
use Rattle.right_relation.specs.Relation.{children_routines, behind_offers, ChildrenServe, IsCycleOf}

-- the most steps of each code: a test, which is of activity and of the sample time at once, a
-- store, and two calls of pure functions; a test more where it can be an Outport whose output is
-- reset, so in no delay
abbrev pub value_steps : Op → ℕ
value_steps op = if is_delay op then 4 else 5

abbrev pub memory_steps : ℕ
memory_steps = 3

-- a test and the three stores of a ring, all under one test
abbrev pub ring_steps : ℕ
ring_steps = 4

abbrev pub trigger_steps : ℕ
trigger_steps = 2

abbrev pub call_steps : ℕ
call_steps = 2

-- Code in a procedure with these parameters, of a system with these slots and so many procedures of
-- its own.
module _ (local : LocalSystem) (slots : List Slot) (count : ℕ) (params : List ParamTree) where
  -- P holds in every tick: of the children and what they offer, the cycle, the tick, what the code
  -- sees after the children's procedures, and where its positions go
  abbrev pub InEveryTick : (List Offer → List InstanceTick → ℕ → LocalTick → (List ℤ → Scope) →
      (StmtTrees → StmtTrees) → Type 0) → Type 0
  InEveryTick P =
      (pures : List PureTree) → IsPrelude pures → (cycle : ℕ) → IsCycleOf local cycle →
      (offers : List Offer) → AllZip (λ u o. IsOfferOf u.header o) local.children offers →
      (m : LocalTick) → IsLocalTick local m → IsTypedTick local m →
      (children : List InstanceTick) → ChildrenServe local m cycle local.children offers children →
      (own : List Routine) →
      P offers children cycle m
      (λ values. record {
        functions = pure_functions [] pures;
        routines = children_routines offers
            ++ own;
        types = field_types (map slot_field slots);
        values = values;
      })
      (moved_stmts (behind_offers slots offers count))

  -- the code of a row's value, of its memory, and of what the trigger remembers
  abbrev pub IsValueCode : LocalRow → StmtTrees → Type 0
  IsValueCode r code =
      InEveryTick (λ offers children cycle m scope moved.
      GivesValue local slots offers children cycle m params scope (moved code) (value_steps r.op) r)

  abbrev pub IsMemoryCode : LocalRow → StmtTrees → Type 0
  IsMemoryCode r code =
      InEveryTick (λ offers children cycle m scope moved.
      GivesMemory local slots offers children cycle m params scope (moved code) memory_steps r)

  abbrev pub IsRingCode : LocalRow → StmtTrees → Type 0
  IsRingCode r code =
      InEveryTick (λ offers children cycle m scope moved.
      GivesRing local slots offers children cycle m params scope (moved code) ring_steps r)

  abbrev pub IsTriggerCode : StmtTrees → Type 0
  IsTriggerCode code =
      InEveryTick (λ offers children cycle m scope moved.
      GivesTrigger local slots offers children cycle m params scope (moved code) trigger_steps)

  -- the code of the call of function j of child k, whose field is at f; of its update, and of its
  -- reset
  abbrev pub IsCallCode : (f k : ℕ) (u : ChildUse) (j : ℕ) → StmtTrees → Type 0
  IsCallCode f k u j code =
      InEveryTick (λ offers children cycle m scope moved.
      GivesCall local slots offers children cycle m params scope (moved code) call_steps f k u j)

  abbrev pub IsUpdateCode : (f k : ℕ) (u : ChildUse) → StmtTrees → Type 0
  IsUpdateCode f k u code =
      InEveryTick (λ offers children cycle m scope moved.
      GivesUpdate local slots offers children cycle m params scope (moved code) call_steps f k u)

  abbrev pub IsResetCode : (f k : ℕ) (u : ChildUse) → StmtTrees → Type 0
  IsResetCode f k u code =
      InEveryTick (λ offers children cycle m scope moved.
      GivesReset local slots offers children cycle m params scope (moved code) call_steps f k u)
