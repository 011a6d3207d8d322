-- The program of a root and its shared child over a trace: its outputs, calls and steps, and those
-- of programs that differ from it in one thing.
use Rattle.std.specs.Prelude.{◌≡◌, refl, ℕ, List, [], ◌∷◌, map, pos, Some, None}
use Rattle.std.specs.Fmt.{digits}
use Rattle.modules_profile.specs.LocalSamples.{shared_child}
use Rattle.c_syntax.specs.Tree.{ProgramTree}
use Rattle.c_semantics.specs.Rows.{c_rows}
use Rattle.emit_shape.specs.Faces.{takes, out_places, givers}
use Rattle.right_relation.specs.Instances.{calls_at}
use Rattle.right_relation.specs.Budgets.{step_bound}
use Rattle.right_claim.specs.Paths.{path_to}
use Rattle.right_claim.specs.SharedSamples.{shared_program, repeats_shared, takes_unused, one_step, idle_functions, flat_step, trace}

-- ---- The right program

-- outputs 1 11 and 2 22, in 34 steps each, where 324 are allowed
outputs : map (λ row. row.outputs) (c_rows shared_program trace).ticks ≡ (pos 1 ∷ pos 11 ∷ [])
    ∷ (pos 2 ∷ pos 22 ∷ []) ∷ []
unfolding digits
outputs = refl

bound : step_bound shared_child.rows ≡ 324
bound = refl

-- the positions of the functions, of which the first takes In1 and the second both, and who gives
-- which output
functions : out_places shared_program None ≡ 8 ∷ 9 ∷ []
unfolding digits
functions = refl

inputs : map (takes shared_program shared_child None) (8 ∷ 9 ∷ []) ≡ 1 ∷ 3 ∷ []
unfolding digits
inputs = refl

given : map (givers shared_program None) (6 ∷ 7 ∷ []) ≡ (0 ∷ []) ∷ (1 ∷ []) ∷ []
unfolding digits
given = refl

child_path : path_to shared_program shared_child.rows (Some 2) ≡ 3 ∷ 5 ∷ []
unfolding digits
child_path = refl

-- in each tick the child's function is called once, and then its update
abbrev ChildCalls : ProgramTree → List (List ℕ) → Type 0
ChildCalls p calls = map (λ row. calls_at (3 ∷ 5 ∷ []) row.log) (c_rows p trace).ticks ≡ calls

child_calls : ChildCalls shared_program ((1 ∷ 2 ∷ []) ∷ (1 ∷ 2 ∷ []) ∷ [])
unfolding digits
child_calls = refl

-- ---- The others

-- the child's function is called twice
repeated_calls : ChildCalls repeats_shared ((1 ∷ 1 ∷ 2 ∷ []) ∷ (1 ∷ 1 ∷ 2 ∷ []) ∷ [])
unfolding digits
repeated_calls = refl

-- nothing of the child is called
flat_calls : ChildCalls flat_step ([] ∷ [] ∷ [])
unfolding digits
flat_calls = refl

-- the first function takes both inputs
unused_inputs : map (takes takes_unused shared_child None) (out_places takes_unused None)
    ≡ 3 ∷ 3 ∷ []
unfolding digits
unused_inputs = refl

-- there is one function
one_function : map (takes one_step shared_child None) (out_places one_step None) ≡ 3 ∷ []
unfolding digits
one_function = refl

-- no function gives an output
no_givers : map (givers idle_functions None) (6 ∷ 7 ∷ []) ≡ [] ∷ [] ∷ []
unfolding digits
no_givers = refl
