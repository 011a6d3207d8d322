use Rattle.std.proofs.Common.{sym, ◌∙◌, not}
use Rattle.std.proofs.lemmas.List.Folds.{list_all-map}
use Rattle.c_syntax.specs.declared.code.CType.TheVariants.{I64}
use Rattle.c_grammar.specs.Written.{WrittenParam}
use Rattle.c_rules.specs.Resolve.{same_type}
use Rattle.c_grammar.specs.WrittenTrees.{param_of}
use Rattle.c_resolver.proofs.roots.are_narrow.Goals as goal

pub returns : goal.returns
returns c = c.are_narrow_types.ensures ∙ sym (list_all-map (λ (q : WrittenParam). not (same_type q.type I64)) param_of c.args.params.now)
