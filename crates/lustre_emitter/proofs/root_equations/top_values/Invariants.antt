use Rattle.std.proofs.Common.{◌≡◌, ◌∷◌, true, false, map, take}
use Rattle.lustre_syntax.specs.Plain.{expr_tree}
use Rattle.lustre_syntax.specs.Tree.{name, truth}
use Rattle.lustre_emitter.proofs.root_equations.top_values.Given as goal

abbrev pub invariant-loop-input : goal.invariant-loop-input
invariant-loop-input l = map expr_tree l.values.items
    ≡ name l.now ∷ truth true ∷ truth false ∷ map name (take l.input-index l.inputs)
