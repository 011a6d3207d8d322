-- Flows after some rows, and after one more.
use Rattle.std.proofs.Common.{◌≡◌, refl, sym, ◌∙◌, ap, ℕ, List, [], ◌∷◌, ◌++◌, map, append_assoc}
use Rattle.std.specs.Prelude.{ℤ, Bool, false, Option, None, Some, flat_map}
use Rattle.std.proofs.lemmas.Grind.{flat_map-append}
use Rattle.std.proofs.lemmas.List.{append-nil, map-append}
use Rattle.lustre_syntax.specs.Tree.{FileTree}
use Rattle.lustre_syntax.specs.Plain.{file_tree}
use Rattle.lustre_flows.specs.declared.stuck.LusStuck.{LusStuck}
use Rattle.lustre_flows.specs.Instances.{Instance}
use Rattle.lustre_flows.specs.Ticks.{Tick, tick, root_outputs}
use Rattle.lustre_flows.specs.Flows.{Flows, flows, flows_from, flows_after}
use Rattle.lustre_interpreter.specs.States.{FlowState, tree_of, left_of, by_place, next_tick, IsTicked, IsStuckTick}
use Rattle.tool_runner.specs.Texts.{outputs_line}
use Rattle.tool_flow_runner.specs.FlowTraces.{flow_lines}

-- ---- Flows after some rows

-- flows after these ticks
abbrev pub behind_ticks : List Instance → Flows → Flows
behind_ticks ticks later = record { ticks = ticks ++ later.ticks; stuck_place = later.stuck_place }

-- these rows have ticked, and whatever rows follow go on from here
pub record IsAfter (f : FileTree) (rows : List (List ℤ)) (s : FlowState) : Type 0 where
  pub tree : tree_of s ≡ f
  pub unstuck : s.stuck_place ≡ None
  pub ticks : List Instance
  pub goes_on : (more : List (List ℤ)) → flows f (rows ++ more) ≡ behind_ticks ticks (flows_from f more (left_of s))

-- the lines of the outputs of these ticks
abbrev pub lines_of : FileTree → List Instance → List ℕ
lines_of f ticks = flat_map outputs_line (map (root_outputs f) ticks)

lines_of-append : (f : FileTree) (ticks more : List Instance) → lines_of f (ticks ++ more) ≡ lines_of f ticks ++ lines_of f more
lines_of-append f ticks more =
    ap (flat_map outputs_line) (map-append (root_outputs f) ticks more)
    ∙ flat_map-append outputs_line (map (root_outputs f) ticks) (map (root_outputs f) more)

-- ---- Before the first row

abbrev left_by : FlowState → Bool → Option Instance
left_by s begun = left_of (record { file = s.file; begun = begun; values = s.values; stuck_place = s.stuck_place })

pub first_after : (s : FlowState) → s.begun ≡ false → s.stuck_place ≡ None → IsAfter (tree_of s) [] s
first_after s begun free =
    let none : left_of s ≡ None = ap (left_by s) begun in
    record {
      tree = refl;
      unstuck = free;
      ticks = [];
      goes_on = λ more. ap (flows_from (tree_of s) more) (sym none);
    }

-- ---- After some rows

ticks_are : (f : FileTree) (rows : List (List ℤ)) (s : FlowState) (after : IsAfter f rows s) →
    flows f rows ≡ record { ticks = after.ticks; stuck_place = None }
ticks_are f rows s after =
    ap (flows f) (sym (append-nil rows)) ∙ after.goes_on []
    ∙ ap (λ (ticks : List Instance). record { ticks = ticks; stuck_place = None }) (append-nil after.ticks)

lines_are : (f : FileTree) (rows : List (List ℤ)) (s : FlowState) (after : IsAfter f rows s) → flow_lines f rows ≡ lines_of f after.ticks
lines_are f rows s after = ap (λ (w : Flows). lines_of f w.ticks) (ticks_are f rows s after)

pub free_after : (f : FileTree) (rows : List (List ℤ)) (s : FlowState) → IsAfter f rows s → (flows f rows).stuck_place ≡ None
free_after f rows s after = ap (λ (w : Flows). w.stuck_place) (ticks_are f rows s after)

-- what the next tick comes to
tick_is : (f : FileTree) (rows : List (List ℤ)) (s : FlowState) (row : List ℤ) → IsAfter f rows s → next_tick s row ≡ tick f (left_of s) row
tick_is f rows s row after =
    ap (λ place. by_place place (tick (tree_of s) (left_of s) row)) after.unstuck
    ∙ ap (λ tree. tick tree (left_of s) row) after.tree

-- ---- After one more

-- flows go on with a tick
abbrev from_tick : FileTree → List (List ℤ) → Tick → Flows
from_tick f more t = flows_after t (λ left. flows_from f more (Some left))

pub next_after : (f : FileTree) (rows : List (List ℤ)) (s s' : FlowState) (row outputs : List ℤ) → IsAfter f rows s →
    IsTicked s s' row outputs → s'.file ≡ s.file → IsAfter f (rows ++ row ∷ []) s'
next_after f rows s s' row outputs after ticked file = record {
  tree = ap file_tree file ∙ after.tree;
  unstuck = ticked.free;
  ticks = after.ticks ++ ticked.left ∷ [];
  goes_on = λ more.
      let later = flows_from f more (Some ticked.left) in
      ap (flows f) (append_assoc rows (row ∷ []) more) ∙ after.goes_on (row ∷ more)
      ∙ ap (λ t. behind_ticks after.ticks (from_tick f more t)) (sym (tick_is f rows s row after) ∙ ticked.run)
      ∙ ap (λ (ticks : List Instance). record { ticks = ticks; stuck_place = later.stuck_place })
      (sym (append_assoc after.ticks (ticked.left ∷ []) later.ticks))
      ∙ ap (λ left. behind_ticks (after.ticks ++ ticked.left ∷ []) (flows_from f more left)) (sym ticked.kept);
}

pub next_lines : (f : FileTree) (rows : List (List ℤ)) (s s' : FlowState) (row outputs : List ℤ) → IsAfter f rows s →
    IsTicked s s' row outputs → s'.file ≡ s.file → flow_lines f rows ++ outputs_line outputs ≡ flow_lines f (rows ++ row ∷ [])
unfolding next_after
next_lines f rows s s' row outputs after ticked file =
    let outputs_are : outputs ≡ root_outputs f ticked.left =
    ticked.outputs_are ∙ ap (λ tree. root_outputs tree ticked.left) after.tree in
    ap (λ text. text ++ outputs_line outputs) (lines_are f rows s after)
    ∙ ap (λ (values : List ℤ). lines_of f after.ticks ++ outputs_line values) outputs_are
    ∙ ap (λ text. lines_of f after.ticks ++ text) (sym (append-nil (outputs_line (root_outputs f ticked.left))))
    ∙ sym (lines_of-append f after.ticks (ticked.left ∷ []))
    ∙ sym (lines_are f (rows ++ row ∷ []) s' (next_after f rows s s' row outputs after ticked file))

-- the next row is stuck
stuck_rows : (f : FileTree) (rows more : List (List ℤ)) (s s' : FlowState) (row : List ℤ) (at : LusStuck) (after : IsAfter f rows s) →
    IsStuckTick s s' row at → flows f (rows ++ row ∷ more) ≡ record { ticks = after.ticks; stuck_place = Some at }
stuck_rows f rows more s s' row at after here =
    after.goes_on (row ∷ more)
    ∙ ap (λ t. behind_ticks after.ticks (from_tick f more t)) (sym (tick_is f rows s row after) ∙ here.run)
    ∙ ap (λ (ticks : List Instance). record { ticks = ticks; stuck_place = Some at }) (append-nil after.ticks)

pub stuck_next : (f : FileTree) (rows more : List (List ℤ)) (s s' : FlowState) (row : List ℤ) (at : LusStuck) → IsAfter f rows s →
    IsStuckTick s s' row at → (flows f (rows ++ row ∷ more)).stuck_place ≡ Some at
stuck_next f rows more s s' row at after here = ap (λ (w : Flows). w.stuck_place) (stuck_rows f rows more s s' row at after here)

pub stuck_lines : (f : FileTree) (rows more : List (List ℤ)) (s s' : FlowState) (row : List ℤ) (at : LusStuck) → IsAfter f rows s →
    IsStuckTick s s' row at → flow_lines f rows ≡ flow_lines f (rows ++ row ∷ more)
stuck_lines f rows more s s' row at after here =
    lines_are f rows s after
    ∙ sym (ap (λ (w : Flows). lines_of f w.ticks) (stuck_rows f rows more s s' row at after here))
