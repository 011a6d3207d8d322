use Rattle.std.proofs.Common.{ℕ, [], map, length, ap, ◌∙◌}
use Rattle.modules_profile.specs.Locals.{outports}
use Rattle.c_syntax.specs.Plain.{procedure_tree}
use Rattle.emit_shape.specs.Assembled.{root_params}
use Rattle.emit_linker.specs.Places.{trees}
use Rattle.emit_linker.specs.Roots.{root_start, root_step}
use Rattle.emit_linker.proofs.Steps.{seen-push, two-pushed}
use Rattle.emit_linker.proofs.root_code.push_root_procedures.Goals as goal

pub returns : goal.returns
returns c =
    let all = trees c.args.codes.now.list.now in
    let root = c.args.root.now in
    let params = root_params [] root 0 in
    let outputs = length (outports root) in
    let counted = c.in_ok-count.ensures.count in
    let list = c.args.list.now.items in
    let one = c.push.new.self.items in
    let two = c.push-2.new.self.items in
    two-pushed (map procedure_tree list) (map procedure_tree one) (map procedure_tree two) (root_start all outputs)
    (root_step all params outputs c.args.hyper)
    (seen-push procedure_tree list one c.in_ok-start_procedure.field-0 (root_start all outputs) c.in_ok-push.ensures.items
    (c.in_ok-start_procedure.ensures ∙ ap (root_start all) counted))
    (seen-push procedure_tree one two c.in_ok-step_procedure.field-0 (root_step all params outputs c.args.hyper) c.in_ok-push-2.ensures.items
    (c.in_ok-step_procedure.ensures ∙ ap (λ (n : ℕ). root_step all params n c.args.hyper) counted))
