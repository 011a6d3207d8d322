use Rattle.std.proofs.Common.{sym, ◌∙◌, ap, take, List, ℕ, Bool}
use Rattle.lustre_syntax.specs.Plain.{declared_names}
use Rattle.lustre_syntax.specs.Tree.{types_of}
use Rattle.lustre_resolver.proofs.GivenLaws.{types-first}
use Rattle.lustre_resolver.proofs.calls.inputs_of.Goals as goal

pub returns : goal.returns
returns c =
    let names = c.deref.result.now in
    ap (λ n. types_of (declared_names (take n names))) c.min-count.ensures
    ∙ types-first c.args.node.now.inputs c.len.result names (c.len.ensures ∙ sym c.deref.ensures.len)
    ∙ ap (λ (xs : List (List ℕ × Bool)). take c.args.node.now.inputs (types_of (declared_names xs))) c.deref.ensures.value
