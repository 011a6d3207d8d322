use Rattle.std.proofs.Common.{◌≡◌, ◌<◌, true, false, ◌++◌, ◌∷◌, [], ltb, min, length, get_or, sym, ap, ◌∙◌, append-nil, arith}
use Rattle.std.proofs.lemmas.Bool.{lt-ltb, le-ltb}
use Rattle.emit_system_spec.specs.Fields.{call_count}
use Rattle.emit_row_facts.proofs.lemmas.Steps.{passed-more}
use Rattle.emit_layout_tables.proofs.CallCounts.{more-than-one}
use Rattle.emit_layout_tables.proofs.groups.shared_groups.Goals as goal
use Rattle.emit_layout_tables.proofs.groups.shared_groups.Goals.{then-count-gt1+in_ok-push, else-count-gt1}

pub loop-group-preserved : goal.loop-group-preserved
loop-group-preserved c =
    let schedule = c.args.schedule.now in
    let g = c.loop-group.group in
    let n = get_or c.deref-count-items.result.now g 0 in
    let long = ap length c.deref-count-items.ensures.value ∙ c.in_ok-calls.ensures.length in
    let inside : g < length schedule.groups = let test = c.loop-group-test.true in omega (arith, test, long) in
    let told : ltb 1 n ≡ ltb 1 (call_count schedule g) =
    more-than-one n (call_count schedule g) (ap (λ xs. min (get_or xs g 0) 2) c.deref-count-items.ensures.value
    ∙ c.in_ok-calls.ensures.counts g inside) in
    elim c.if-count-gt1.branch [
      | then-count-gt1+in_ok-push w ↦
          let above = w.if-count-gt1.true in
          ap (λ v. v.items) w.shared-is ∙ w.in_ok-push.ensures.items ∙ ap (λ xs. xs ++ g ∷ []) c.loop-group.invariant
          ∙ sym (passed-more (λ k. ltb 1 (call_count schedule k)) g true (sym told ∙ lt-ltb 1 n (omega (arith, above))))
      | else-count-gt1 w ↦
          let below = w.if-count-gt1.false in
          ap (λ v. v.items) w.shared-is ∙ sym (append-nil c.loop-group.shared.items) ∙ ap (λ xs. xs ++ []) c.loop-group.invariant
          ∙ sym (passed-more (λ k. ltb 1 (call_count schedule k)) g false (sym told ∙ le-ltb 1 n (omega (arith, below))))
    ]
