-- The run of a model with an enabled subsystem, and what its ticks are for the rows of the
-- subsystem.
use Rattle.std.specs.Prelude.{◌≡◌, refl, ℕ, true, List, [], ◌∷◌, ◌++◌, map, replicate, filter, Some, None, pos, ℤ}
use Rattle.diagram_activity.specs.declared.TrigMem.TheVariants.{NotYet}
use Rattle.diagram_meaning.specs.Run.{IsRun}
use Rattle.diagram_blocks.specs.Kinds.{is_delay}
use Rattle.diagram_meaning.specs.Laws.{Run}
use Rattle.modules_profile.specs.LocalSystem.{LocalSystem}
use Rattle.modules_profile.specs.Headers.{header_of}
use Rattle.modules_profile.specs.Locals.{local_of}
use Rattle.right_relation.specs.LocalTicks.{LocalTick, value_of, memory_of, is_active, is_off}
use Rattle.right_relation.specs.Standing.{outer_tick_of, child_tick_of}
use Rattle.right_relation.specs.RunTicks.{nothing_untouched, tick_at}
use Rattle.right_relation.specs.ResetExamples.{delayed, local, profile}

-- enabled with 7, then disabled with 8
abbrev trace : List (List ℤ)
trace = (pos 7 ∷ pos 1 ∷ []) ∷ (pos 8 ∷ pos 0 ∷ []) ∷ []

-- what rows remember: the delay alone one number
abbrev remembers : ℕ → List (List ℤ)
remembers n = replicate 5 [] ++ (pos n ∷ []) ∷ replicate 2 []

abbrev run : Run
run = record {
  values = (pos 7 ∷ pos 1 ∷ pos 0 ∷ pos 7 ∷ pos 0 ∷ pos 0 ∷ pos 0 ∷ pos 0 ∷ [])
      ∷ (pos 8 ∷ pos 0 ∷ pos 0 ∷ pos 7 ∷ pos 0 ∷ pos 0 ∷ pos 0 ∷ pos 0 ∷ []) ∷ [];
  memories = remembers 0 ∷ remembers 7 ∷ remembers 0 ∷ [];
  triggers = replicate 3 (replicate 8 NotYet);
}

is_run : IsRun delayed None trace run.values run.memories run.triggers
is_run = (
  refl,
  refl,
  (
    record { values = refl; memories = refl; triggers = refl },
    (record { values = refl; memories = refl; triggers = refl }, tt),
  ),
)

abbrev at : ℕ → LocalTick
at t = tick_at delayed None trace run (Some 2) nothing_untouched t

-- in the first tick the subsystem is active, in the second it is off
first_active : is_active local (at 0) ≡ true
first_active = refl

second_off : is_off local (at 1) ≡ true
second_off = refl

-- the values and the memory are those of its own rows' equations
first_values : map (value_of local (at 0)) local.rows
    ≡ map (λ r. (at 0).tick.value r.row) local.rows
first_values = refl

second_values : map (value_of local (at 1)) local.rows
    ≡ map (λ r. (at 1).tick.value r.row) local.rows
second_values = refl

first_memory : map (memory_of local (at 0)) (filter (λ r. is_delay r.op) local.rows)
    ≡ (pos 7 ∷ []) ∷ []
first_memory = refl

second_memory : map (memory_of local (at 1)) (filter (λ r. is_delay r.op) local.rows)
    ≡ (pos 0 ∷ []) ∷ []
second_memory = refl

-- and the root's code meets the same tick as the subsystem's own
abbrev root_local : LocalSystem
root_local = local_of delayed [] None (header_of delayed (Some 2) profile ∷ [])

visits : map (child_tick_of root_local (tick_at delayed None trace run None nothing_untouched 1))
    root_local.children ≡ outer_tick_of local (at 1) ∷ []
visits = refl
