-- Instances and passes of nodes on other lines.
use Rattle.std.proofs.Common.{◌≡◌, ℕ, List, [], ◌∷◌, map, replicate, length, refl, ap, ◌∙◌, Option, None, Some, option_map, ℤ, slice_index_or}
use Rattle.lustre_syntax.specs.Tree.{EquationTree, set, call, NodeTree, node_at, equation_without_lines, node_without_lines}
use Rattle.lustre_flows.specs.Values.{value_at, value_of, evaluate}
use Rattle.lustre_flows.specs.Instances.{Instance, Instances, instance, first_call, later_calls, calls_in, values_in, no_instance, more_calls, with_items, with_call, outputs_of, Pass, pass_at, pass_equations, pass_of, passes_of, fresh_calls, fresh, fresh_instances}
use Rattle.lustre_system.specs.FunctionRules.{called}
use Rattle.lustre_lines.proofs.Nodes.{by-node-aside, node-at-aside}

-- ---- Instances without values

calls-aside : (earlier : List Instance) (es : List EquationTree) →
    fresh_calls earlier (map equation_without_lines es) ≡ fresh_calls earlier es
calls-aside earlier [] = refl
calls-aside earlier (set line given value ∷ es) = calls-aside earlier es
calls-aside earlier (call line given callee values ∷ es) =
    ap (more_calls (slice_index_or earlier callee no_instance)) (calls-aside earlier es)

pub fresh-aside : (ns : List NodeTree) → fresh_instances (map node_without_lines ns) ≡ fresh_instances ns
fresh-aside ns =
    by-node-aside fresh fresh (λ earlier n. ap (instance (replicate (length n.names) None)) (calls-aside earlier n.equations)) [] ns

-- ---- Passes

module _ (all : List NodeTree) (passes : List Pass) (before : Option (List (Option ℤ))) where
  equations-aside : (calls_before : Option Instances) (values : List (Option ℤ)) (calls : Instances) (es : List EquationTree) →
      pass_equations (map node_without_lines all) passes before calls_before values calls (map equation_without_lines es)
      ≡ pass_equations all passes before calls_before values calls es
  equations-aside calls_before values calls [] = refl
  equations-aside calls_before values calls (set line given value ∷ es) = equations-aside calls_before _ calls es
  equations-aside calls_before values calls (call line given callee arguments ∷ es) =
      let i = pass_at passes callee (option_map first_call calls_before)
      (map (λ e. value_of (evaluate before values e)) arguments) (first_call calls) in
      let later = option_map later_calls calls_before in
      ap (λ (n : NodeTree). with_call i (pass_equations (map node_without_lines all) passes before later
      (with_items values given (outputs_of n i)) (later_calls calls) (map equation_without_lines es))) (node-at-aside all callee)
      ∙ ap (with_call i) (equations-aside later (with_items values given (outputs_of (node_at all callee) i)) (later_calls calls) es)

pass-aside : (all : List NodeTree) (earlier : List Pass) (n : NodeTree) (before : Option Instance)
    (inputs : List (Option ℤ)) (i : Instance) →
    pass_of (map node_without_lines all) earlier (node_without_lines n) before inputs i ≡ pass_of all earlier n before inputs i
pass-aside all earlier n before inputs (instance values calls) =
    equations-aside all earlier (option_map values_in before) (option_map calls_in before) _ calls n.equations

pub passes-aside : (ns : List NodeTree) → passes_of (map node_without_lines ns) ≡ passes_of ns
passes-aside ns =
    by-node-aside (pass_of ns) (pass_of (map node_without_lines ns))
    (λ earlier n. λ i before inputs left. pass-aside ns earlier n before inputs left i) [] ns

-- what a node gives in one pass
pub called-aside : (ns : List NodeTree) (k : ℕ) (arguments : List ℤ) →
    called (map node_without_lines ns) k arguments ≡ called ns k arguments
called-aside ns k arguments =
    ap (λ (n : NodeTree). value_at (outputs_of n (pass_at (passes_of (map node_without_lines ns)) k None (map Some arguments)
    (slice_index_or (fresh_instances (map node_without_lines ns)) k no_instance))) 0) (node-at-aside ns k)
    ∙ (λ i. value_at (outputs_of (node_at ns k) (pass_at (passes-aside ns i) k None (map Some arguments)
    (slice_index_or (fresh-aside ns i) k no_instance))) 0)
