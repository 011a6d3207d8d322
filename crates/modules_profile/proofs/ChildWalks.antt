-- A walk inside a child is one in the system around it.
use Rattle.std.specs.Prelude.{◌≡◌, ℕ, List, [], ◌∷◌, Contains, Option, Some}
use Rattle.std.proofs.Common.{inl}
use Rattle.diagram_meaning.specs.Rows.{row_at}
use Rattle.diagram_meaning.specs.Diagram.{Diagram}
use Rattle.diagram_meaning.specs.Needs.{needs_inside, Walk}
use Rattle.modules_profile.proofs.ChildNeeds.{IsBefore, IsInsideChild, needs-inward}

module _ (d : Diagram) (s : Option ℕ) (e : ℕ) (owned : (row_at d.rows e).owner ≡ s) (before : IsBefore s e)
    (closed : (x c : ℕ) → IsInsideChild d.rows s e owned before x → Contains (needs_inside d (Some e) x) c →
    IsInsideChild d.rows s e owned before c) where
  pub walk-inward : (a : ℕ) (path : List ℕ) (x : ℕ) → IsInsideChild d.rows s e owned before a → Walk (needs_inside d (Some e)) a path x →
      Walk (needs_inside d s) a path x
  walk-inward a [] x here step = needs-inward d s e owned before a here x (inl step)
  walk-inward a (y ∷ path) x here walk = (
    needs-inward d s e owned before a here y (inl walk.0),
    walk-inward y path x (closed a y here walk.0) walk.1,
  )
