use Rattle.std.proofs.Common.{ℕ, ◌+◌, ◌++◌, List, Option, eqb, find, sym, ap, ◌∙◌, arith}
use Rattle.std.specs.List.{filter_map, range_with_len}
use Rattle.std.specs.Option.{option_to_list}
use Rattle.std.proofs.lemmas.List.{append-nil}
use Rattle.diagram_blocks.specs.Kinds.{port_of}
use Rattle.diagram_meaning.specs.Rows.{row_at}
use Rattle.emit_row_facts.proofs.lemmas.Steps.{found-more}
use Rattle.lustre_expressions.proofs.ports.ordered.Goals as goal
use Rattle.lustre_expressions.proofs.ports.ordered.Goals.{in-Some+in_ok-push, in_default}

pub loop-k-preserved : goal.loop-k-preserved
loop-k-preserved c =
    let k = c.loop-k.k in
    let found : ℕ → Option ℕ = λ n. find (λ b. eqb (port_of (row_at c.args.rows.now b).kind) n) c.args.among.now in
    let step =
    ap (λ (l : List ℕ). l ++ option_to_list c.with_port.result) c.loop-k.invariant
    ∙ ap (λ (o : Option ℕ). filter_map found (range_with_len 1 k) ++ option_to_list o) c.with_port.ensures
    ∙ sym (found-more found 1 k (k + 1) (omega arith)) in
    elim c.match-with_port.branch [
      | in-Some+in_ok-push w ↦ ap (λ v. v.items) w.found-is ∙ w.in_ok-push.ensures.items
          ∙ ap (λ (o : Option ℕ). c.loop-k.found.items ++ option_to_list o) (sym w.in-Some.is) ∙ step
      | in_default w ↦ ap (λ v. v.items) w.found-is ∙ sym (append-nil c.loop-k.found.items)
          ∙ ap (λ (o : Option ℕ). c.loop-k.found.items ++ option_to_list o) (sym w.in_default.is) ∙ step
    ]
