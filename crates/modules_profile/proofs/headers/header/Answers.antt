use Rattle.std.proofs.Common.{◌<◌, ℕ, All, length, map, subst, sym, ap, ◌∙◌}
use Rattle.base_fixed_point.specs.declared.FixType.{FixType}
use Rattle.diagram_meaning.specs.Diagram.{type_at}
use Rattle.diagram_meaning.specs.Nested.{row_of, system_of}
use Rattle.diagram_meaning.specs.Rows.{inports_of, outports_of, system_control}
use Rattle.diagram_blocks.specs.Kinds.{is_inport, is_outport}
use Rattle.modules_profile.specs.SystemProfile.{SystemProfile}
use Rattle.modules_profile.specs.Locals.{ported}
use Rattle.modules_profile.specs.Systems.{control_wires_of}
use Rattle.modules_profile.proofs.NestedLists.{agreed-own, agreed-control, rows-inside}
use Rattle.modules_profile.proofs.headers.header.Goals as goal

pub inports-requires : goal.inports-requires
inports-requires c =
    subst (All (λ b. b < length c.args.r.now.tree.table.rows))
    (sym (c.own.ensures ∙ agreed-own c.args.r.now.tree.table.rows (system_of c.args.s.now) c.requires.system))
    (rows-inside c.args.r.now.tree.table.rows (row_of (system_of c.args.s.now)))

pub outports-requires : goal.outports-requires
outports-requires c =
    subst (All (λ b. b < length c.args.r.now.tree.table.rows))
    (sym (c.own-2.ensures ∙ agreed-own c.args.r.now.tree.table.rows (system_of c.args.s.now) c.requires.system))
    (rows-inside c.args.r.now.tree.table.rows (row_of (system_of c.args.s.now)))

pub returns : goal.returns
returns c =
    let rows = c.args.r.now.tree.table.rows in
    let types = c.args.r.now.types in
    let s = system_of c.args.s.now in
    let row = ap (λ (p : SystemProfile). p.row) c.profile.view_is in
    let control = c.control.ensures ∙ agreed-control rows s c.requires.system ∙ ap (system_control rows) (sym c.requires.row) in
    let inputs = c.in_ok-types_of.ensures ∙ ap (map (type_at types)) (c.deref.ensures.value ∙ c.in_ok-inports.ensures.inports
    ∙ ap (ported rows is_inport) (c.own.ensures ∙ agreed-own rows s c.requires.system) ∙ ap (inports_of rows) (sym c.requires.row)) in
    let controls = c.in_ok-types_of-2.ensures
    ∙ ap (map (type_at types)) (c.wires.ensures ∙ c.in_ok-controls.ensures.wires
    ∙ ap (control_wires_of rows) row) in
    let outputs =
    c.in_ok-outputs.ensures ∙ ap (map {B = ℕ × FixType} (λ o. (o, type_at types o))) (c.deref-2.ensures.value
    ∙ c.in_ok-outports.ensures.outports
    ∙ ap (ported rows is_outport) (c.own-2.ensures ∙ agreed-own rows s c.requires.system) ∙ ap (outports_of rows) (sym c.requires.row)) in
    let profile = c.in_ok-copied.ensures in
    λ i. record { row = row i; control = control i; inputs = inputs i; controls = controls i; outputs = outputs i; profile = profile i }
