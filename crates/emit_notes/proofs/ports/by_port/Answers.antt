use Rattle.std.proofs.Common.{◌≡◌, ℕ, ◌-◌, List, ◌++◌, ◌∙◌, sym, ap, arith}
use Rattle.std.specs.Prelude.{option_to_list}
use Rattle.std.specs.List.{flat_map, range_with_len}
use Rattle.std.proofs.lemmas.List.{append-nil}
use Rattle.emit_notes.specs.FunctionNotes.{outport_with, by_port}
use Rattle.emit_notes.proofs.ListLemmas.{more-ports}
use Rattle.emit_notes.proofs.ports.by_port.Goals as goal

pub loop-port-preserved : goal.loop-port-preserved
loop-port-preserved c =
    let f : ℕ → List ℕ = λ k. option_to_list (outport_with c.args.labels.now c.args.rows.now k) in
    more-ports f c.loop-port.ordered.items c.push_if_there.new.rows.items (by_port c.args.labels.now c.args.rows.now) c.loop-port.port
    (omega arith)
    (c.in_ok-push_if_there.ensures ∙ ap (λ o. c.loop-port.ordered.items ++ option_to_list o) c.outport_with.ensures)
    c.loop-port.invariant

pub returns : goal.returns
returns c =
    let f : ℕ → List ℕ = λ k. option_to_list (outport_with c.args.labels.now c.args.rows.now k) in
    let none : 33 - c.loop-port.port ≡ 0 = omega arith in
    sym (append-nil c.loop-port.ordered.items)
    ∙ ap (λ n. c.loop-port.ordered.items ++ flat_map f (range_with_len c.loop-port.port n)) (sym none)
    ∙ c.loop-port.invariant
