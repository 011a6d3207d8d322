-- A block with no System has no system inside it.
use Rattle.std.proofs.Common.{◌≡◌, refl, ap, Bool, true, false, List, [], None, map, cond, codes}
use Rattle.std.specs.Prelude.{option_to_list}
use Rattle.mdl_tree.specs.Walks.{first_section}
use Rattle.mdl_systems.specs.Outlines.{Outline, SystemText, inner_system, is_subsystem, systems_inside}

pub none_inside : (b : Outline) → first_section (codes "System") b.section.items ≡ None → systems_inside b ≡ []
none_inside b none = by (is_subsystem b)
  where
    inside : List SystemText
    inside = map (inner_system b) (option_to_list (first_section (codes "System") b.section.items))

    by : (t : Bool) → cond t inside [] ≡ []
    by true = ap (λ system. map (inner_system b) (option_to_list system)) none
    by false = refl
