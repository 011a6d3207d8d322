-- The profile and the schedule of a system agree on its functions.
use Rattle.std.proofs.Common.{◌≡◌, sym, subst, ℕ, ◌<◌, ◌^◌, not, ◌==◌, List, [], ◌∷◌, map, length, All, bit_and, slice_index}
use Rattle.std.specs.List.{range_with_len}
use Rattle.std.proofs.lemmas.List.Elements.{All-cons, All-filter, All-nil}
use Rattle.std.proofs.lemmas.List.FromFn.{length-map-range_with_len}
use Rattle.modules_clusters.specs.NodeGroups.{NodeGroups}
use Rattle.modules_profile.specs.SystemProfile.{SystemProfile}
use Rattle.modules_schedule.specs.Scheduling.{groups_holding, nodes_of_group, schedule_for}
use Rattle.emit_system.specs.Agreeing.{AgreeOnFunctions, EmittedAgree}
use Rattle.emit_system.proofs.CodeGroups.{range_low}

all_map : {A B : Type 0} (P : B → Type 0) (f : A → B) → ((x : A) → P (f x)) → (xs : List A) → All P (map f xs)
all_map P f each [] = All-nil P
all_map P f each (x ∷ xs) = All-cons P (f x) (map f xs) (each x) (all_map P f each xs)

-- the groups that a function holds are among all
held_low : (holds : List ℕ) (j : ℕ) → All (λ g. g < length holds) (groups_holding holds j)
held_low holds j =
    All-filter (λ g. not (bit_and (slice_index holds g) (2 ^ j) == 0)) (λ g. g < length holds)
    (range_with_len 0 (length holds)) (range_low (length holds))

scheduled : (order : List ℕ) (groups : NodeGroups) (profile : SystemProfile) →
    AgreeOnFunctions profile (schedule_for order groups (length profile.functions))
scheduled order groups profile =
    let many : length (map (nodes_of_group order groups) (range_with_len 0 (length groups.holds))) ≡ length groups.holds =
    length-map-range_with_len (nodes_of_group order groups) 0 (length groups.holds) in
    let AreLow : ℕ → List ℕ → Type 0 = λ n gs. All (λ g. g < n) gs in
    record {
      functions = length-map-range_with_len (groups_holding groups.holds) 0 (length profile.functions);
      groups = subst (λ n. All (AreLow n) (map (groups_holding groups.holds) (range_with_len 0 (length profile.functions)))) (sym many)
          (all_map (AreLow (length groups.holds)) (groups_holding groups.holds) (held_low groups.holds)
          (range_with_len 0 (length profile.functions)));
    }

pub emitted_agree : EmittedAgree
emitted_agree local profile schedule is =
    let s = is.is_schedule in
    subst (AgreeOnFunctions profile) (sym s.is_schedule) (scheduled s.order s.groups profile)
