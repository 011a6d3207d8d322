-- The systems of a model by the numbers of their blocks.
use Rattle.std.proofs.Common.{◌≡◌, refl, ◌∙◌, ap, ap₂, subst, ℕ, zero, suc, Bool, true, false, cond, List, [], ◌∷◌, ◌++◌, map, slice_get, Option, None, Some, arith, codes}
use Rattle.std.specs.Prelude.{flat_map, option_to_list}
use Rattle.mdl_tree.specs.Walks.{SectionTree, first_section}
use Rattle.diagram_meaning.specs.Rows.{same_system}
use Rattle.mdl_systems.specs.Outlines.{Outline, SystemText, outlines_of, is_subsystem, inner_system, systems_inside}
use Rattle.mdl_systems.specs.Subsystems.{system_at, SystemsAreBySubsystems}
use Rattle.mdl_systems.proofs.NumberLemmas.{AreNumbered, numbered-get, model-numbered}
use Rattle.mdl_systems.proofs.OwnerLemmas.{same-self, not-here}

inside-is : (b : Outline) (x : SectionTree) → is_subsystem b ≡ true → first_section (codes "System") b.section.items ≡ Some x →
    systems_inside b ≡ inner_system b x ∷ []
inside-is b x sub is = ap₂ (λ t o. cond t (map (inner_system b) (option_to_list o)) []) sub is

-- the system inside a block is found by the block's number
found-first : (b : Outline) (x : SectionTree) (rest : List SystemText) → is_subsystem b ≡ true →
    first_section (codes "System") b.section.items ≡ Some x →
    system_at (Some b.number) (systems_inside b ++ rest) ≡ Some (inner_system b x)
found-first b x rest sub is =
    ap (λ xs. system_at (Some b.number) (xs ++ rest)) (inside-is b x sub is)
    ∙ ap (λ t. cond t (Some (inner_system b x)) (system_at (Some b.number) rest)) (same-self (Some b.number))

-- and by no other number
found-behind : (c : Outline) (n : ℕ) (rest : List SystemText) → same_system (Some c.number) (Some n) ≡ false →
    system_at (Some n) (systems_inside c ++ rest) ≡ system_at (Some n) rest
found-behind c n rest apart = by (is_subsystem c) (first_section (codes "System") c.section.items)
  where
    by : (t : Bool) (o : Option SectionTree) →
        system_at (Some n) (cond t (map (inner_system c) (option_to_list o)) [] ++ rest) ≡ system_at (Some n) rest
    by false o = refl
    by true None = refl
    by true (Some x) = ap (λ t. cond t (Some (inner_system c x)) (system_at (Some n) rest)) apart

found-at : (next : ℕ) (blocks : List Outline) (k : ℕ) (b : Outline) (x : SectionTree) → AreNumbered next blocks →
    slice_get blocks k ≡ Some b →
    is_subsystem b ≡ true → first_section (codes "System") b.section.items ≡ Some x →
    system_at (Some b.number) (flat_map systems_inside blocks) ≡ Some (inner_system b x)
found-at next [] k b x are h sub is = absurd (let wrong : ⊥ = cc h in wrong)
found-at next (c ∷ rest) zero b x are h sub is =
    let same : b ≡ c = cc h in
    subst (λ (c : Outline). system_at (Some b.number) (systems_inside c ++ flat_map systems_inside rest) ≡ Some (inner_system b x)) same
    (found-first b x (flat_map systems_inside rest) sub is)
found-at next (c ∷ rest) (suc k) b x are h sub is =
    let number = numbered-get (suc next) rest k b are.1 h in
    let first = are.0 in
    found-behind c b.number (flat_map systems_inside rest)
    (not-here c.number (Some b.number) (λ same. let equal : b.number ≡ c.number = cc same in omega (arith, number, equal, first)))
    ∙ found-at (suc next) rest k b x are.1 h sub is

pub systems-found : SystemsAreBySubsystems
systems-found section = (refl, λ k b x h sub is. found-at 0 (outlines_of section) k b x (model-numbered section) h sub is)
