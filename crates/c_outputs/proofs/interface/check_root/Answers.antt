use Rattle.std.proofs.Common.{◌≡◌, sym, ◌∙◌, ap, map, ◌≤◌, Some, slice_get, arith}
use Rattle.c_syntax.specs.Tree.{ProcedureTree, ParamTree}
use Rattle.c_syntax.specs.Plain.{program_tree, procedure_tree, param_trees}
use Rattle.c_checked.specs.Checked.{fix_type}
use Rattle.c_outputs.proofs.RootLaws.{slice_get-map_at, step-found}
use Rattle.c_outputs.proofs.interface.check_root.Goals as goal

pub new-requires : goal.new-requires
new-requires c =
    let p = c.args.program in
    let k = c.in-Some.k in
    let step = c.in-Some-get.step.now in
    let found = c.in-Some-get.ensures.lookup in
    let procedures = c.deref.result.now in
    let reflexive : k ≤ k = omega arith in
    let there : slice_get (map procedure_tree procedures) k ≡ Some (procedure_tree step) =
    slice_get-map_at procedure_tree procedures k step (found.3).0 (found.4 reflexive step) in
    let same =
    step-found (program_tree p) c.requires.lawful k (procedure_tree step) (sym c.procedure_named.ensures
    ∙ c.in-Some.is) (ap (λ items. slice_get (map procedure_tree items) k) (sym c.deref.ensures.value) ∙ there) in
    record {
      lawful = c.requires.lawful;
      few = c.requires.few;
      inputs = ap (λ (q : ProcedureTree). map (λ (x : ParamTree). fix_type x.type) q.params) same
          ∙ ap (λ items. map (λ (x : ParamTree). fix_type x.type) (param_trees items)) (sym c.as_slice.ensures.value)
          ∙ c.in_ok-inputs.ensures;
      outputs = c.in_ok-outputs.ensures;
    }
