use Rattle.std.proofs.Common.{ℕ, List, Result, Ok, Err, IfOk, MatchOption, refl}
use Rattle.diagram_meaning.specs.Needs.{needs_of, HasNoLoop, IsLeastLoop}
use Rattle.diagram_meaning.specs.ResolvedTree.{diagram_of}
use Rattle.diagram_needs.specs.Needed.{needed}
use Rattle.diagram_needs.proofs.GraphSteps.{found-to}
use Rattle.diagram_needs.proofs.loops.find_loop.Goals as goal

on-ok : {V E : Type 0} (P Q : V → Type 0) → ((v : V) → P v → Q v) → (r : Result V E) → IfOk r P → IfOk r Q
on-ok P Q f (Ok v) h = f v h
on-ok P Q f (Err e) h = h

pub returns : goal.returns
returns c =
    let needs : ℕ → List ℕ = needs_of (diagram_of c.args.r.now) in
    on-ok (λ found. MatchOption found (HasNoLoop (needed c.in_ok-g.g))
    (λ loop. IsLeastLoop (needed c.in_ok-g.g) loop.items))
    (λ found. MatchOption found (HasNoLoop needs) (λ loop. IsLeastLoop needs loop.items))
    (found-to c.args.r.now.tree.table.rows needs c.in_ok-g.g (c.in_ok-g.ensures.whole refl) (λ v. v.items))
    c.find_in.result c.find_in.ensures
