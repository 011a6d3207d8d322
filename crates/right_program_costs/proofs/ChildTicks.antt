-- Each child of a system meets its own tick.
use Rattle.std.specs.Prelude.{◌≡◌, ℕ, ◌<◌, ◌||◌, List, length, slice_get, Contains, Option, Some, ℤ}
use Rattle.std.proofs.Common.{sym, ap, ◌∙◌}
use Rattle.diagram_meaning.specs.Laws.{Run, IsRunOver}
use Rattle.diagram_meaning.specs.RunLaws.{IsSystemWithin}
use Rattle.modules_profile.specs.declared.ChildUse.{ChildUse}
use Rattle.right_relation.specs.LocalTicks.{LocalTick, is_active, is_off}
use Rattle.right_relation.specs.Instances.{OuterTick}
use Rattle.right_relation.specs.RunTicks.{Untouched, nothing_untouched, tick_at}
use Rattle.right_relation.specs.RunTickLaws.{ChildrenMeetTheirTicks}
use Rattle.right_relation.specs.Standing.{child_tick_of}
use Rattle.right_linking.specs.Parts.{Parts, diagram, all_systems, IsCodedAs, Views}
use Rattle.right_linking.specs.Lives.{outer_at, is_around_active}
use Rattle.right_linking.proofs.lemmas.ChildRows.{child-behind}

module _ (a : Parts) (v : Views a) (place : ℕ) (n : Option ℕ) (stands : slice_get (all_systems a) place ≡ Some n)
    (meet : ChildrenMeetTheirTicks) (s : Option ℕ) (xs : List (List ℤ)) (run : Run) (within : IsSystemWithin (diagram a).rows s n)
    (is_run : IsRunOver (diagram a) s xs run)
    (untouched : Untouched) (t : ℕ) (below : t < length xs) (u : ChildUse) (has : Contains (v.at n).local.children u) where
  known : IsCodedAs a place n (v.at n)
  known = v.each place n stands

  abbrev m : LocalTick
  m = tick_at (diagram a) s xs run n untouched t

  meets : child_tick_of (v.at n).local m u ≡ outer_at a v s xs run u.header.row t
  meets =
      let behind = child-behind a v place n stands u has in
      meet a.model s n (v.at n).local (v.at u.header.row).local u xs run untouched nothing_untouched t a.can.resolved within known.local has
      (v.each behind.inner_place u.header.row behind.stands).local is_run below

  pub parent-is : (e : ℕ) → u.header.row ≡ Some e → is_around_active a v s xs run t e ≡ is_active (v.at n).local m
  parent-is e row = ap (λ o. (outer_at a v s xs run o t).parent) (sym row) ∙ sym (ap (λ (o : OuterTick). o.parent) meets)

  pub off-is : (e : ℕ) → u.header.row ≡ Some e →
      (outer_at a v s xs run (Some e) t).is_off_around ≡ (m.tick.is_off_around || is_off (v.at n).local m)
  off-is e row = ap (λ o. (outer_at a v s xs run o t).is_off_around) (sym row) ∙ sym (ap (λ (o : OuterTick). o.is_off_around) meets)
