use Rattle.std.proofs.Common.{ℕ, List, ◌∷◌, true, false, map, ap, ◌∙◌}
use Rattle.lustre_syntax.specs.Tree.{name, truth, call}
use Rattle.lustre_expressions.specs.Found.{place_in}
use Rattle.lustre_emitter.specs.RootParts.{numbered_names}
use Rattle.lustre_emitter.proofs.Roots.{read-alike}
use Rattle.lustre_emitter.proofs.root_equations.top_equation.Goals as goal

pub returns : goal.returns
returns c =
    let place = place_in c.args.places.now in
    let given = c.new.ensures ∙ c.in_ok-given.ensures in
    let inputs = c.as_slice.ensures.value ∙ c.in_ok-inputs.ensures in
    let reads = ap (λ (ks : List ℕ). map name ks) inputs ∙ read-alike place (numbered_names false c.args.inputs) in
    let values = c.in_ok-top_values.ensures ∙ (λ i. name (c.place-2.ensures i) ∷ truth true ∷ truth false ∷ reads i) in
    λ i. call 0 (given i) (c.place.ensures i) (values i)
