-- The groups that have nodes are groups of the schedule, and 32 bits number its functions.
use Rattle.std.proofs.Common.{◌∙◌, sym, subst, ℕ, ◌<◌, length, All, arith, zero-add, ◌^◌}
use Rattle.std.specs.List.{range_with_len}
use Rattle.std.proofs.lemmas.List.Elements.{All-filter}
use Rattle.std.proofs.lemmas.List.FromFn.{get_or-range_with_len, length-range_with_len}
use Rattle.modules_profile.specs.LocalSystem.{LocalSystem}
use Rattle.modules_schedule.specs.SystemSchedule.{SystemSchedule}
use Rattle.emit_system_spec.specs.Emittable.{IsEmittable}
use Rattle.emit_system_spec.specs.Groups.{code_groups, group_nodes, has_some}

pub range_low : (n : ℕ) → All (λ g. g < n) (range_with_len 0 n)
range_low n k d below =
    let inside : k < n = let l = length-range_with_len 0 n in omega (arith, l, below) in
    let IsLow : ℕ → Type 0 = λ g. g < n in
    subst IsLow (sym (get_or-range_with_len 0 n k d inside ∙ zero-add k)) inside

pub code_groups_low : (schedule : SystemSchedule) → All (λ g. g < length schedule.groups) (code_groups schedule)
code_groups_low schedule =
    All-filter (λ g. has_some (group_nodes schedule g)) (λ g. g < length schedule.groups)
    (range_with_len 0 (length schedule.groups)) (range_low (length schedule.groups))

pub functions_low : (local : LocalSystem) (schedule : SystemSchedule) → IsEmittable local schedule → length schedule.functions < 2 ^ 32
functions_low local schedule is = let most = is.procedures in omega (arith, most)
