-- Solutions of small files, and one that no tick leaves.
use Rattle.std.specs.Prelude.{◌≡◌, [], ◌∷◌, ℤ, pos, Option, Some, None, refl}
use Rattle.lustre_syntax.specs.Tree.{name, set, FileTree}
use Rattle.lustre_flows.specs.Instances.{Instance, instance, no_calls}
use Rattle.lustre_flows.specs.Ticks.{settled}
use Rattle.lustre_flows.specs.FlowExamples.{file_of, crossed, crossed_at}
use Rattle.lustre_settling.specs.Solutions.{HoldsAtTick, IsSolution}

-- `a, y1 = call both(u1, a);` on 5: each name is 5
pub crossed_solution : IsSolution crossed None (pos 5 ∷ []) crossed_at
crossed_solution = record {
  form = ((tt, (tt, (tt, tt))), (((tt, (tt, (tt, (tt, tt)))), tt), tt));
  holds = (refl, (refl, (refl, (refl, (refl, tt))), tt));
}

-- `x = y1; y1 = x;`: the equations hold where both are 7, and where neither has a value; the least
-- solution is what a tick leaves
abbrev pub turning : FileTree
turning = file_of (set 4 2 (name 1) ∷ set 5 1 (name 2) ∷ [])

abbrev pub turning_at : Option ℤ → Instance
turning_at v = instance (Some (pos 5) ∷ v ∷ v ∷ []) no_calls

pub sevens_hold : HoldsAtTick turning None (pos 5 ∷ []) (turning_at (Some (pos 7)))
sevens_hold = (refl, (refl, (refl, tt)))

pub nothing_holds : HoldsAtTick turning None (pos 5 ∷ []) (turning_at None)
nothing_holds = (refl, (refl, (refl, tt)))

pub nothing_left : settled turning None (pos 5 ∷ []) ≡ turning_at None
nothing_left = refl
