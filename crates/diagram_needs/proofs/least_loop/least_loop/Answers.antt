use Rattle.std.proofs.Common.{◌≡◌, ◌∷◌, ℕ, List, Result, Ok, Err, IfOk, subst, sym}
use Rattle.diagram_meaning.specs.Walk.{IsLeastLoop}
use Rattle.diagram_needs.specs.Needed.{needed}
use Rattle.diagram_needs.specs.Levels.{AreLevelsTo}
use Rattle.diagram_needs.specs.LeastPaths.{IsLeastPath}
use Rattle.diagram_needs.proofs.lemmas.LoopRows.{least-loop}
use Rattle.diagram_needs.proofs.least_loop.least_loop.Goals as goal

on-ok : {V E : Type 0} (P Q : V → Type 0) → ((v : V) → P v → Q v) → (r : Result V E) → IfOk r P → IfOk r Q
on-ok P Q f (Ok v) h = f v h
on-ok P Q f (Err e) h = h

pub returns : goal.returns
returns c =
    let levels = subst (AreLevelsTo (needed c.args.g.now) c.args.row) (sym c.deref.ensures.value) c.in_ok-steps.ensures.levels in
    on-ok (λ v. (path : List ℕ) × (v.items ≡ c.args.row ∷ path)
    × IsLeastPath (needed c.args.g.now) c.args.row c.deref.result.now c.args.row path)
    (λ v. IsLeastLoop (needed c.args.g.now) v.items)
    (λ v h. subst (IsLeastLoop (needed c.args.g.now)) (sym h.1)
    (least-loop (needed c.args.g.now) c.args.row c.deref.result.now h.0 c.requires levels h.2))
    c.follow.result c.follow.ensures
