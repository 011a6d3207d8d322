-- A tick: the values that names get in finitely many passes, and the place where it is stuck, where
-- some name gets none.
use Rattle.std.specs.Prelude.{◌≡◌, ℕ, zero, suc, ◌-◌, ℤ, pos, true, false, nat_lt, if◌then◌else◌, List, [], ◌∷◌, ◌++◌, map, flat_map, length, slice_index_or, Option, Some, None, option_map, unwrap_or}
use Rattle.std.specs.List.{list_all}
use Rattle.lustre_syntax.specs.Tree.{EquationTree, set, call, NodeTree, node_at, FileTree, given_by, expressions_of, line_of}
use Rattle.lustre_flows.specs.declared.stuck.LusStuck.{LusStuck}
use Rattle.lustre_flows.specs.declared.stuck.LusWhy.{LusWhy}
use Rattle.lustre_flows.specs.declared.stuck.LusWhy.TheVariants.{Cycle}
use Rattle.lustre_flows.specs.Values.{Outcome, gives, waits, fails, value_at, evaluate}
use Rattle.lustre_flows.specs.Instances.{by_node, Instance, Instances, instance, values_in, calls_in, first_call, later_calls, call_at, no_instance, outputs_of, fresh_instances, pass_at, passes_of, has_value, is_complete, name_count}

-- the last node of a file, and its place
abbrev pub last_place : FileTree → ℕ
last_place f = length f.nodes - 1

abbrev pub last_node : FileTree → NodeTree
last_node f = node_at f.nodes (last_place f)

-- the instance of the last node, where no name has a value yet
abbrev pub fresh_root : FileTree → Instance
fresh_root f = slice_index_or (fresh_instances f.nodes) (last_place f) no_instance

-- a pass through the instance of the last node, on a row of the trace
abbrev pub root_pass : FileTree → Option Instance → List ℤ → Instance → Instance
root_pass f before row i = pass_at (passes_of f.nodes) (last_place f) before (map Some row) i

-- what so many passes of a tick leave
abbrev pub after_passes : FileTree → Option Instance → List ℤ → ℕ → Instance
after_passes f before row zero = fresh_root f
after_passes f before row (suc n) = root_pass f before row (after_passes f before row n)

-- the instance at a path of calls from the last node's
abbrev pub inside : List ℕ → Instance → Instance
inside [] i = i
inside (k ∷ path) i = inside path (call_at (calls_in i) k)

-- at this tick a name of the instance at a path gets a value in finitely many passes
abbrev pub Gets : FileTree → Option Instance → List ℤ → (path : List ℕ) (name : ℕ) → ℤ → Type 0
Gets f before row path k v =
    (n : ℕ) × (value_at (values_in (inside path (after_passes f before row n))) k ≡ Some v)

-- passes until each name has a value, at most so many
abbrev pub settle : (Instance → Instance) → ℕ → Instance → Instance
settle pass zero i = i
settle pass (suc n) i = elim (is_complete i) [ true ↦ i | false ↦ settle pass n (pass i) ]

-- what a tick leaves: as many passes as there are names give each its value that gets one
abbrev pub settled : FileTree → Option Instance → List ℤ → Instance
settled f before row = settle (root_pass f before row) (name_count (fresh_root f)) (fresh_root f)

-- ---- Where a tick is stuck

-- what is reported of an instance, and then of those inside it
abbrev pub Look : Type 0
Look = (before : Option Instance) → Instance → List LusStuck

abbrev pub look_at : List Look → ℕ → Look
look_at looks k = slice_index_or looks k (λ before i. [])

-- what is reported of the instances of calls, in their order
abbrev pub look_inside : List Look → Option Instances → Instances → List EquationTree →
    List LusStuck
look_inside looks before calls [] = []
look_inside looks before calls (set line given value ∷ es) = look_inside looks before calls es
look_inside looks before calls (call line given callee arguments ∷ es) =
    look_at looks callee (option_map first_call before) (first_call calls)
    ++ look_inside looks (option_map later_calls before) (later_calls calls) es

-- what is reported of each instance of a node, where `told` says what is reported of one equation
module _ (told : Option (List (Option ℤ)) → List (Option ℤ) → EquationTree → List LusStuck) where
  abbrev pub look_of : List Look → NodeTree → Look
  look_of earlier n before (instance values calls) =
      flat_map (told (option_map values_in before) values) n.equations
      ++ look_inside earlier (option_map calls_in before) calls n.equations

  abbrev pub looks_of : List NodeTree → List Look
  looks_of nodes = by_node look_of [] nodes

  -- of all instances, in the order of their paths
  abbrev pub told_of : FileTree → Look
  told_of f = look_at (looks_of f.nodes) (last_place f)

-- a place
abbrev pub stuck_at : ℕ → LusWhy → LusStuck
stuck_at l w = record { line = l; why = w }

-- an outcome that is no value and waits for none
abbrev pub failure : ℕ → Outcome → List LusStuck
failure line (gives value) = []
failure line waits = []
failure line (fails why) = stuck_at line why ∷ []

-- the expressions of an equation that give nothing at all, though each name that they read has its
-- value
abbrev pub failures : Option (List (Option ℤ)) → List (Option ℤ) → EquationTree → List LusStuck
failures before values e =
    flat_map (λ x. failure (line_of e) (evaluate before values x)) (expressions_of e)

-- an equation that gives some name no value
abbrev pub waiting : Option (List (Option ℤ)) → List (Option ℤ) → EquationTree → List LusStuck
waiting before values e =
    if list_all (λ k. has_value (value_at values k)) (given_by e) then []
    else stuck_at (line_of e) Cycle ∷ []

-- the first of the places with the least line
abbrev pub earlier_of : LusStuck → Option LusStuck → LusStuck
earlier_of first None = first
earlier_of first (Some other) = if nat_lt other.line first.line then other else first

abbrev pub least_place : List LusStuck → Option LusStuck
least_place [] = None
least_place (first ∷ rest) = Some (earlier_of first (least_place rest))

-- the place of a failure, or else of an equation that waits
abbrev pub place_among : Option LusStuck → Option LusStuck → Option LusStuck
place_among (Some failed) waiting = Some failed
place_among None waiting = waiting

-- where a tick is stuck that left this, if it is
abbrev pub stuck_place : FileTree → Option Instance → Instance → Option LusStuck
stuck_place f before i =
    place_among (least_place (told_of failures f before i)) (least_place (told_of waiting f before i))

-- the values of the last node's outputs; a name without a value counts as 0, and there is none
abbrev pub root_outputs : FileTree → Instance → List ℤ
root_outputs f i = map (λ v. unwrap_or v (pos 0)) (outputs_of (last_node f) i)

-- what a tick comes to: the instances that it leaves, or the place where it is stuck
pub data Tick : Type 0 where
  done : (left : Instance) → Tick
  stuck : (at : LusStuck) → Tick

abbrev pub tick_from : Option LusStuck → Instance → Tick
tick_from None left = done left
tick_from (Some at) left = stuck at

-- what a tick comes to that leaves these values
abbrev pub tick_of : FileTree → Option Instance → Instance → Tick
tick_of f before left = tick_from (stuck_place f before left) left

-- a tick on a row, after the tick before
abbrev pub tick : FileTree → Option Instance → List ℤ → Tick
tick f before row = tick_of f before (settled f before row)
