use Rattle.std.proofs.Common.{refl, sym, ◌∙◌, ap, take, drop, length, ◌-◌, List, ℕ, Bool}
use Rattle.std.proofs.lemmas.List.{take_rest}
use Rattle.lustre_syntax.specs.Plain.{declared_names}
use Rattle.lustre_syntax.specs.Tree.{types_of}
use Rattle.lustre_resolver.proofs.GivenLaws.{types-first, types-after}
use Rattle.lustre_resolver.proofs.calls.outputs_of.Goals as goal

pub returns : goal.returns
returns c =
    let n = c.args.node.now in
    let names = c.deref.result.now in
    let inputs = c.min-inputs.result in
    let others = take (length names - inputs) (drop inputs names) in
    ap (λ m. types_of (declared_names (take m others))) c.min-count.ensures ∙ types-first n.outputs (length others) others refl
    ∙ ap (λ (xs : List (List ℕ × Bool)). take n.outputs (types_of (declared_names xs))) (take_rest names inputs)
    ∙ ap (λ m. take n.outputs (types_of (declared_names (drop m names)))) c.min-inputs.ensures
    ∙ ap (take n.outputs) (types-after n.inputs c.len.result names (c.len.ensures ∙ sym c.deref.ensures.len))
    ∙ ap (λ (xs : List (List ℕ × Bool)). take n.outputs (drop n.inputs (types_of (declared_names xs)))) c.deref.ensures.value
