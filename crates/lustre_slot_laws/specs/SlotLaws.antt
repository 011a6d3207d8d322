-- The laws of slots.
use Rattle.std.specs.Prelude.{◌≡◌, ◌↔◌, ℤ, List, length, take, map, flat_map, slice_index, Option, Some, option_map}
use Rattle.lustre_syntax.specs.Lawful.{IsLawful}
use Rattle.lustre_syntax.specs.Tree.{EquationTree, node_at, FileTree}
use Rattle.lustre_flows.specs.declared.stuck.LusStuck.{LusStuck}
use Rattle.lustre_flows.specs.Instances.{Instance}
use Rattle.lustre_flows.specs.Ticks.{last_place, last_node, fresh_root, told_of}
use Rattle.lustre_settling.specs.Solutions.{HoldsAtTick}
use Rattle.lustre_slots.specs.declared.placed.Placed.{Placed}
use Rattle.lustre_slots.specs.Layout.{sizes_of, instances_of}
use Rattle.lustre_slot_laws.specs.Laid.{laid}
use Rattle.lustre_slot_laws.specs.Outcomes.{names_of, AllKeep}

-- a file's instance before the tick, by its values
abbrev pub laid_before : FileTree → Option (List (Option ℤ)) → Option Instance
laid_before f before = option_map (λ v. laid v (fresh_root f)) before

-- the equations of a file hold of what is laid out of values exactly where its inputs have those of the row and each slot has
-- the value to which it comes
abbrev pub SlotsSolve : Type 0
SlotsSolve =
    (f : FileTree) (before : Option (List (Option ℤ))) (now : List (Option ℤ)) (row : List ℤ) → IsLawful f →
    length now ≡ slice_index (sizes_of f) (last_place f) →
    HoldsAtTick f (laid_before f before) row (laid now (fresh_root f))
    ↔ ((take (last_node f).inputs now ≡ map Some row) × AllKeep f before now)

-- what is reported of one instance
abbrev pub told_in : (told : Option (List (Option ℤ)) → List (Option ℤ) → EquationTree → List LusStuck) → FileTree →
    Option (List (Option ℤ)) → List (Option ℤ) → Placed → List LusStuck
told_in told f before now p =
    flat_map (told (option_map (names_of f p) before) (names_of f p now)) (node_at f.nodes p.node).equations

-- of all instances, it is what is reported of each, in the order in which they are laid out
abbrev pub SlotsTell : Type 0
SlotsTell =
    (told : Option (List (Option ℤ)) → List (Option ℤ) → EquationTree → List LusStuck) (f : FileTree)
    (before : Option (List (Option ℤ))) (now : List (Option ℤ)) → IsLawful f →
    told_of told f (laid_before f before) (laid now (fresh_root f)) ≡ flat_map (told_in told f before now) (instances_of f)
