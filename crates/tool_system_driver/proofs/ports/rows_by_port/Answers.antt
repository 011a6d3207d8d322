use Rattle.std.proofs.lemmas.List.Elements.{All-push}
use Rattle.std.proofs.Common.{ℕ, ◌≡◌, ◌<◌, ◌-◌, ◌++◌, All, subst, Option, find, length, ap, sym, ◌∙◌, arith}
use Rattle.std.specs.Prelude.{count_by}
use Rattle.std.specs.List.{filter_map, range_with_len}
use Rattle.std.specs.Option.{option_to_list}
use Rattle.std.proofs.lemmas.List.{append-nil}
use Rattle.diagram_meaning.specs.Rows.{row_at, row_numbers, is_own}
use Rattle.tool_system_driver.specs.Ports.{is_at, is_port}
use Rattle.tool_system_driver.proofs.RowPasses.{none-from}
use Rattle.tool_system_driver.proofs.PortPasses.{found-more, ports-are}
use Rattle.tool_system_driver.proofs.ports.rows_by_port.Goals as goal
use Rattle.tool_system_driver.proofs.ports.rows_by_port.Goals.{in-Some+in_ok-push, in_default}

pub loop-port-preserved : goal.loop-port-preserved
loop-port-preserved c =
    let rows = c.args.rows.now in
    let with : ℕ → Option ℕ = λ k. find (λ b. is_at (is_port c.args.side) c.args.system k (row_at rows b)) (row_numbers rows) in
    let step =
    found-more with c.loop-port.port c.loop-port.found.items c.row_with.result c.loop-port.auto.port c.loop-port.invariant.found_is
    c.row_with.ensures.found in
    elim c.match-row_with.branch [
      | in-Some+in_ok-push w ↦ record {
        found_is = ap (λ v. v.items) w.found-is ∙ w.in_ok-push.ensures.items
            ∙ ap (λ o. c.loop-port.found.items ++ option_to_list o) (sym w.in-Some.is) ∙ step;
        are_rows = subst (All (λ b. b < length rows)) (sym (ap (λ v. v.items) w.found-is ∙ w.in_ok-push.ensures.items))
            (All-push (λ b. b < length rows) c.loop-port.found.items w.in-Some.b c.loop-port.invariant.are_rows w.in-Some.ensures.inside);
      }
      | in_default w ↦ record {
        found_is = ap (λ v. v.items) w.found-is ∙ sym (append-nil c.loop-port.found.items)
            ∙ ap (λ o. c.loop-port.found.items ++ option_to_list o) (sym (none-from c.row_with.result w.in_default.not-Some)) ∙ step;
        are_rows = subst (All (λ b. b < length rows)) (sym (ap (λ v. v.items) w.found-is)) c.loop-port.invariant.are_rows;
      }
    ]

pub returns-clause-ports : goal.returns-clause-ports
returns-clause-ports c =
    let rows = c.args.rows.now in
    let with : ℕ → Option ℕ = λ k. find (λ b. is_at (is_port c.args.side) c.args.system k (row_at rows b)) (row_numbers rows) in
    let past = c.loop-port-test.false in
    let within = c.loop-port.auto.port-end in
    let low = c.loop-port.auto.port in
    let counted : c.loop-port.port - 1 ≡ count_by (is_own (is_port c.args.side) c.args.system) rows =
    (let same = c.port_count-port-end.ensures in omega (arith, past, within, low, same)) in
    c.loop-port.invariant.found_is ∙ ap (λ n. filter_map with (range_with_len 1 n)) counted
    ∙ ports-are rows (is_port c.args.side) c.args.system
