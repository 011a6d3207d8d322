-- The groups that have nodes, and how many procedures are a system's own.
use Rattle.std.specs.Prelude.{ℕ, ◌+◌, Bool, true, false, List, [], ◌∷◌, filter, length, slice_index_or}
use Rattle.std.specs.List.{range_with_len}
use Rattle.modules_schedule.specs.SystemSchedule.{SystemSchedule}

-- the nodes of a group
abbrev pub group_nodes : SystemSchedule → ℕ → List ℕ
group_nodes schedule g = slice_index_or schedule.groups g []

abbrev pub has_some : List ℕ → Bool
has_some [] = false
has_some (k ∷ ks) = true

-- the groups that have nodes; the one of what no function holds has none, and is last
abbrev pub code_groups : SystemSchedule → List ℕ
code_groups schedule =
    filter (λ g. has_some (group_nodes schedule g)) (range_with_len 0 (length schedule.groups))

-- the system's own procedures: groups, functions, update, start and reset
abbrev pub own_count : SystemSchedule → ℕ
own_count schedule = length (code_groups schedule) + length schedule.functions + 3
