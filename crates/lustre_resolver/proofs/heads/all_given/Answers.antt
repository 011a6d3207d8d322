use Rattle.std.proofs.Common.{◌∙◌, ap, map, flat_map, List, ℕ}
use Rattle.c_syntax.specs.Outputs.{has_name}
use Rattle.lustre_grammar.specs.declared.written.LusWrittenEq.{LusWrittenEq}
use Rattle.lustre_grammar.specs.WrittenTrees.{equation_of}
use Rattle.lustre_rules.specs.Resolve.{written_given}
use Rattle.lustre_resolver.proofs.Views.{named-both}
use Rattle.lustre_resolver.proofs.heads.all_given.Goals as goal

pub returns : goal.returns
returns c =
    let n = c.args.n.now in
    let given = flat_map written_given (map equation_of n.equations.items) in
    let names = ap (map (λ x. x.now)) c.as_slice-2.ensures.value ∙ c.in_ok-names.ensures
    ∙ ap (λ (es : List LusWrittenEq). flat_map written_given (map equation_of es)) c.as_slice.ensures.value in
    c.outputs_are_named.ensures
    ∙ named-both c.in_ok-table.table given (λ m. c.in_ok-table.ensures m ∙ ap (λ (ns : List (List ℕ)). has_name ns m) names)
    n.outputs.items n.others.items
