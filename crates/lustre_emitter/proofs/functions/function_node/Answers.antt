use Rattle.std.proofs.Common.{ℕ, Bool, List, [], ◌∷◌, ◌++◌, map, length, codes, refl, sym, ap, append-nil, ◌∙◌, arith}
use Rattle.std.proofs.lemmas.List.{length-map}
use Rattle.c_syntax.specs.Plain.{expr_tree, pure_tree}
use Rattle.lustre_syntax.specs.declared.code.LusEq.{LusEq}
use Rattle.lustre_syntax.specs.Named.{place_of, renamed}
use Rattle.lustre_syntax.specs.Plain.{equation_tree}
use Rattle.lustre_syntax.specs.Tree.{set}
use Rattle.lustre_system.specs.FromC.{value_of}
use Rattle.lustre_system.specs.Functions.{int_name, param_name, function_name, function_node}
use Rattle.lustre_expressions.specs.Found.{place_in}
use Rattle.lustre_emitter.proofs.NodeParts.{node-made}
use Rattle.lustre_emitter.proofs.functions.function_node.Goals as goal

pub returns : goal.returns
returns c =
    let f = c.args.function.now in
    let params = f.params.items in
    let counted = length-map params int_name in
    let few = c.in_ok-small.ensures in
    let len = c.len.ensures in
    let whole = f.params.ok.0 in
    node-made (place_in c.args.callees.now.places.now) (function_node (pure_tree f)) c.in_ok-copy_of.field-0 c.in_ok-small.field-0 1
    c.in_ok-names.names.items (map equation_tree c.push.new.self.items) (c.in_ok-copy_of.ensures ∙ c.bytes.ensures)
    (omega (arith, counted, few, len, whole)) refl
    (c.in_ok-names.ensures ∙ ap (λ (ps : List (List ℕ)). map int_name ps ++ int_name (codes "r") ∷ []) c.as_slice.ensures.value
    ∙ sym (append-nil (map int_name params ++ int_name (codes "r") ∷ [])))
    (ap (λ (es : List LusEq). map equation_tree es)
    (c.in_ok-push.ensures.items ∙ ap (λ (es : List LusEq). es ++ c.in_ok-function_equation.field-0 ∷ []) c.new-equations.ensures.items)
    ∙ ap (λ e. e ∷ []) (c.in_ok-function_equation.ensures
    ∙ ap (λ (ns : List (List ℕ × Bool)). set 0 (place_of (map (λ x. x.0) ns) (codes "r"))
    (renamed (place_of (map (λ x. x.0) ns)) (value_of (param_name params) function_name (λ n. []) (expr_tree f.body))))
    c.as_slice-2.ensures.value))
