-- The instances of a system's children in the ticks of a run, where each child lives through it.
use Rattle.std.specs.Prelude.{◌≡◌, ℕ, zero, suc, ◌<◌, List, [], ◌∷◌, map, length, slice_get, Contains, Option, Some, ℤ, refl}
use Rattle.std.specs.List.{AllByRecursion, AllZip}
use Rattle.std.proofs.Common.{subst}
use Rattle.std.proofs.lemmas.Option.{same_Some, none-some}
use Rattle.diagram_meaning.specs.Laws.{Run}
use Rattle.modules_profile.specs.declared.ChildUse.{ChildUse}
use Rattle.modules_profile.specs.LocalSystem.{LocalSystem}
use Rattle.modules_profile.proofs.lemmas.Members.{in-first, in-rest}
use Rattle.c_semantics.specs.Cells.{Cells}
use Rattle.right_relation.specs.LocalTicks.{LocalTick}
use Rattle.right_relation.specs.Instances.{none_called, InstanceTick, instance_at, Offer}
use Rattle.right_relation.specs.Serving.{Serves}
use Rattle.right_relation.specs.Standing.{child_tick_of}
use Rattle.right_relation.specs.Relation.{ChildrenServe}
use Rattle.right_linking.specs.Parts.{Parts, Views}
use Rattle.right_linking.specs.Starts.{Renewed}
use Rattle.right_linking.specs.Lives.{Lives}

-- ---- Lists

pub zip-held : {A B : Type 0} (P : A → B → Type 0) (f : A → B) (xs : List A) → ((x : A) → Contains xs x → P x (f x)) →
    AllZip P xs (map f xs)
zip-held P f [] holds = tt
zip-held P f (x ∷ xs) holds = (holds x (in-first x xs), zip-held P f xs (λ y h. holds y (in-rest x y xs h)))

-- ---- Children that live

module _ (a : Parts) (v : Views a) (s : Option ℕ) (xs : List (List ℤ)) (run : Run) (renewed : Renewed a v) (fields : ChildUse → Cells) where
  -- each child lives from its fields on
  abbrev pub AllLive : List ChildUse → Type 0
  AllLive us = AllByRecursion (λ (u : ChildUse). Lives a v s xs run renewed u.header.row (fields u)) us

  -- their instances in a tick
  abbrev pub instances : (us : List ChildUse) → AllLive us → ℕ → List InstanceTick
  instances [] live t = []
  instances (u ∷ us) live t = live.0.at t ∷ instances us live.1 t

  pub at-child : (P : ChildUse → InstanceTick → Type 0) (t : ℕ) (us : List ChildUse) (live : AllLive us) →
      ((u : ChildUse) (one : Lives a v s xs run renewed u.header.row (fields u)) → P u (one.at t)) →
      (k : ℕ) (u : ChildUse) → slice_get us k ≡ Some u → P u (instance_at (instances us live t) k)
  at-child P t [] live holds k u at = absurd (none-some u at)
  at-child P t (w ∷ us) live holds zero u at = subst (λ z. P z (live.0.at t)) (same_Some w u at) (holds w live.0)
  at-child P t (w ∷ us) live holds (suc k) u at = at-child P t us live.1 holds k u at

  -- what each leaves in a tick is how it begins the next
  pub linked : (t : ℕ) → suc t < length xs → (us : List ChildUse) (live : AllLive us) (k : ℕ) →
      (instance_at (instances us live t) k).after ≡ (instance_at (instances us live (suc t)) k).standing none_called
  linked t below [] live k = refl
  linked t below (u ∷ us) live zero = live.0.follows t below
  linked t below (u ∷ us) live (suc k) = linked t below us live.1 k

  pub all-serve : (local : LocalSystem) (m : LocalTick) (cycle t : ℕ) (offer : ChildUse → Offer) (us : List ChildUse) (live : AllLive us) →
      ((u : ChildUse) (one : Lives a v s xs run renewed u.header.row (fields u)) → Contains us u →
      Serves u.header (offer u) cycle (child_tick_of local m u) (one.at t)) →
      ChildrenServe local m cycle us (map offer us) (instances us live t)
  all-serve local m cycle t offer [] live holds = tt
  all-serve local m cycle t offer (u ∷ us) live holds =
      (holds u live.0 (in-first u us), all-serve local m cycle t offer us live.1 (λ w one h. holds w one (in-rest u w us h)))
