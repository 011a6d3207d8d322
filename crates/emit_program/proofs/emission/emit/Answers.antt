use Rattle.std.proofs.Common.{◌≡◌, ◌<◌, ◌^◌, ◌∙◌, ℕ, List, ap, sym, subst, length, map, sum_by, arith}
use Rattle.std.proofs.lemmas.List.{length-map}
use Rattle.diagram_meaning.specs.ResolvedTree.{diagram_of}
use Rattle.modules_profile.specs.SystemProfile.{SystemProfile}
use Rattle.emit_shape.specs.SystemTree.{SystemTree, system_tree}
use Rattle.emit_shape.specs.Assembled.{assembled}
use Rattle.emit_shape.specs.declared.code.SystemCode.{SystemCode}
use Rattle.right_claim.specs.Right.{IsFunctionCount}
use Rattle.right_linking.specs.Parts.{Parts}
use Rattle.right_linking.specs.Whole.{IsAssembled}
use Rattle.emit_program.proofs.FunctionCounts.{functions-counted, few-systems, functions-fit}
use Rattle.emit_program.proofs.emission.emit.Goals as goal

pub overflow_cast-result : goal.overflow_cast-result
overflow_cast-result c =
    let r = c.args.r.now in
    let is = c.is_resolved.ensures in
    let profiles = c.in_ok-made.made.profiles.items in
    let rows = c.in_ok-made.ensures.profiles.rows ∙ c.tree_has_all_systems.ensures r is in
    let many = ap length c.as_slice-profiles.ensures.value ∙ sym (length-map profiles (λ (p : SystemProfile). p.row)) ∙ ap length rows in
    let few = few-systems r is in
    omega (arith, many, few)

pub function_count-requires : goal.function_count-requires
function_count-requires c =
    let r = c.args.r.now in
    let is = c.is_resolved.ensures in
    let rows = c.in_ok-made.ensures.profiles.rows ∙ c.tree_has_all_systems.ensures r is in
    subst (λ (ps : List SystemProfile). sum_by (λ (p : SystemProfile). length p.functions) ps < 2 ^ 32)
    (sym c.as_slice-profiles.ensures.value)
    (functions-fit r is c.in_ok-made.made.profiles.items rows c.in_ok-made.ensures.profiles.each)

pub returns : goal.returns
returns c =
    let r = c.args.r.now in
    let is = c.is_resolved.ensures in
    let profiles = c.in_ok-made.made.profiles.items in
    let rows = c.in_ok-made.ensures.profiles.rows ∙ c.tree_has_all_systems.ensures r is in
    let made = c.in_ok-made.made in
    let (pures, prelude, known, tree) = c.in_ok-program.ensures in
    let parts : Parts = record {
      model = r;
      codes = map system_tree made.codes.items;
      root = made.root;
      hyper = r.times.hyper;
      pures = pures;
      can = c.in_ok-made.ensures.codes;
      prelude = prelude;
      known = known;
    } in
    let codes = ap (λ (cs : List SystemCode). map system_tree cs) c.deref.ensures.value in
    let same = tree ∙ (λ i. assembled (codes i) made.root (c.cycle.ensures i) pures) in
    record {
      program = subst (IsAssembled r r.times.hyper) (sym same) (c.assembled_is_code.ensures parts);
      systems = ap length c.as_slice-profiles.ensures.value ∙ sym (length-map profiles (λ (p : SystemProfile). p.row)) ∙ ap length rows;
      functions = subst (IsFunctionCount (diagram_of r))
          (sym (c.function_count.ensures ∙ ap (sum_by (λ (p : SystemProfile). length p.functions)) c.as_slice-profiles.ensures.value))
          (functions-counted (diagram_of r) profiles rows c.in_ok-made.ensures.profiles.each);
    }
