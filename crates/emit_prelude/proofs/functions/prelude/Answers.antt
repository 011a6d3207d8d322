use Rattle.std.proofs.Common.{◌≡◌, IfOk, List, Result, Ok, Err, map, sym, subst}
use Rattle.c_syntax.specs.Tree.{PureTree}
use Rattle.c_syntax.specs.Plain.{pure_tree}
use Rattle.emit_prelude.specs.Bodies.{function_trees}
use Rattle.emit_prelude.specs.Rules.{IsPrelude}
use Rattle.emit_prelude.proofs.lemmas.PreludeLaws.{prelude_is}
use Rattle.emit_prelude.proofs.functions.prelude.Goals as goal

-- what is made of these trees is the eight functions
made_so : {A E : Type 0} (trees : A → List PureTree) (made : Result A E) → IfOk made (λ a. trees a ≡ function_trees) →
    IfOk made (λ a. IsPrelude (trees a))
made_so trees (Ok a) e = subst IsPrelude (sym e) prelude_is
made_so trees (Err fault) e = tt

pub returns-clause-rules : goal.returns-clause-rules
returns-clause-rules c = made_so (λ ps. map pure_tree ps.items) c.definitions.result c.definitions.ensures
