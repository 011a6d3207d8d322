use Rattle.std.proofs.Common.{◌≡◌, true, false, ℕ, not, ◌++◌, ◌∷◌, [], List, get_or, eqb, length, sym, ap, ◌∙◌, append-nil}
use Rattle.std.proofs.lemmas.List.{get_or_read}
use Rattle.emit_system_spec.specs.Groups.{has_some}
use Rattle.emit_row_facts.proofs.lemmas.Steps.{passed-more}
use Rattle.emit_layout_tables.proofs.CallCounts.{has-some-is}
use Rattle.emit_layout_tables.proofs.groups.groups_with_nodes.Goals as goal
use Rattle.emit_layout_tables.proofs.groups.groups_with_nodes.Goals.{then-not-is_empty+in_ok-push, else-not-is_empty}

pub loop-group-preserved : goal.loop-group-preserved
loop-group-preserved c =
    let groups = c.args.groups.now in
    let g = c.loop-group.group in
    let nodes = c.index-groups-group.result in
    let told : has_some (get_or groups g []) ≡ not c.is_empty.result =
    ap has_some (sym (get_or_read groups g nodes c.loop-group-test.true c.index-groups-group.is [])) ∙ has-some-is nodes
    ∙ ap (λ (ks : List ℕ). not (eqb (length ks) 0)) (sym c.numbers.ensures) ∙ ap not (sym c.is_empty.ensures) in
    elim c.if-not-is_empty.branch [
      | then-not-is_empty+in_ok-push w ↦
          let passes : has_some (get_or groups g []) ≡ true = cc told in
          ap (λ v. v.items) w.found-is ∙ w.in_ok-push.ensures.items ∙ ap (λ xs. xs ++ g ∷ []) c.loop-group.invariant
          ∙ sym (passed-more (λ k. has_some (get_or groups k [])) g true passes)
      | else-not-is_empty w ↦
          let fails : has_some (get_or groups g []) ≡ false = cc told in
          ap (λ v. v.items) w.found-is ∙ sym (append-nil c.loop-group.found.items)
          ∙ ap (λ xs. xs ++ []) c.loop-group.invariant
          ∙ sym (passed-more (λ k. has_some (get_or groups k [])) g false fails)
    ]
