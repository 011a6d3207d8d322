use Rattle.std.proofs.Common.{sym, ◌∙◌, ap, arith, length, ◌≡◌, ◌<◌, ◌++◌, ◌∷◌, [], ◌-◌, map}
use Rattle.base_fixed_point.specs.Types.{boolean}
use Rattle.std.specs.Option.{option_to_list}
use Rattle.std.specs.Prelude.{filter_map, count_by}
use Rattle.std.specs.List.{range_with_len}
use Rattle.std.proofs.lemmas.List.{get_or_default, append-nil}
use Rattle.diagram_meaning.specs.Types.{type_at}
use Rattle.tool_compiler.specs.Inputs.{is_root_inport, root_inport_with}
use Rattle.tool_compiler.proofs.RowPasses.{none-from}
use Rattle.tool_compiler.proofs.InputLaws.{inputs-more, inports-are}
use Rattle.tool_compiler.proofs.inputs.input_types.Goals as goal
use Rattle.tool_compiler.proofs.inputs.input_types.Goals.{in-Some+in_ok-push, in_default}

pub loop-port-preserved : goal.loop-port-preserved
loop-port-preserved c =
    let rows = c.args.rows.now in
    let types = c.args.types.now in
    let step =
    inputs-more rows types c.loop-port.port c.loop-port.inputs.items c.inport_with.result c.loop-port.auto.port
    c.loop-port.invariant c.inport_with.ensures.found in
    elim c.match-inport_with.branch [
      | in-Some+in_ok-push w ↦
          let inside : w.in-Some.row < length types =
          (let within = w.in-Some.ensures.inside in let each = c.requires in omega (arith, within, each)) in
          let typed = w.index-types-row.is ∙ get_or_default types w.in-Some.row w.index-types-row.result boolean inside in
          ap (λ v. v.items) w.inputs-is ∙ w.in_ok-push.ensures.items ∙ ap (λ t. c.loop-port.inputs.items ++ t ∷ []) typed
          ∙ ap (λ o. c.loop-port.inputs.items ++ map (type_at types) (option_to_list o)) (sym w.in-Some.is) ∙ step
      | in_default w ↦
          ap (λ v. v.items) w.inputs-is ∙ sym (append-nil c.loop-port.inputs.items)
          ∙ ap (λ o. c.loop-port.inputs.items ++ map (type_at types) (option_to_list o))
          (sym (none-from c.inport_with.result w.in_default.not-Some)) ∙ step
    ]

pub returns : goal.returns
returns c =
    let rows = c.args.rows.now in
    let past = c.loop-port-test.false in
    let within = c.loop-port.auto.port-end in
    let low = c.loop-port.auto.port in
    let counted : c.loop-port.port - 1 ≡ count_by is_root_inport rows =
    (let same = c.inport_count-port-end.ensures in omega (arith, past, within, low, same)) in
    c.loop-port.invariant
    ∙ ap (map (type_at c.args.types.now)) (ap (λ n. filter_map (root_inport_with rows) (range_with_len 1 n)) counted
    ∙ inports-are rows)
