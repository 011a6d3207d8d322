use Rattle.std.proofs.Common.{◌∙◌, ap, length, map}
use Rattle.modules_profile.specs.LocalSystem.{LocalSystem}
use Rattle.c_syntax.specs.Plain.{stmt_tree, param_trees}
use Rattle.emit_shape.specs.Names.{out_name}
use Rattle.emit_system_spec.specs.EmittedCode.{group_params}
use Rattle.emit_system.proofs.GroupCalls.{low_in_range, function_is}
use Rattle.emit_system.proofs.procedures.function_procedure.Goals as goal

pub own_calls-requires : goal.own_calls-requires
own_calls-requires c =
    let of = c.args.layout.now in
    low_in_range (group_params of.local of.profile of.schedule) (length of.schedule.groups) c.args.wanted.now c.args.called.now
    c.requires.wanted c.requires.groups

pub returns : goal.returns
returns c =
    let of = c.args.layout.now in
    let row = ap (λ (s : LocalSystem). out_name s.row c.args.j) (c.behind-layout.view_is ∙ c.local.ensures) in
    function_is of.local of.profile of.schedule c.args.j c.in_ok-name.name c.in_ok-params.params
    (param_trees c.in_ok-named.field-0.items) (map stmt_tree c.in_ok-body.body.items) c.args.wanted.now c.args.called.now
    _ c.procedure-2.ensures (c.in_ok-name.ensures ∙ row) c.in_ok-named.ensures c.in_ok-params.ensures c.in_ok-body.ensures
    c.requires.wanted c.requires.groups
