use Rattle.std.proofs.Common.{sym, ap, ◌∙◌}
use Rattle.std.proofs.lemmas.List.{append-nil}
use Rattle.emit_linker.proofs.ChildNames.{told-more}
use Rattle.emit_linker.proofs.child_names.told.Goals as goal
use Rattle.emit_linker.proofs.child_names.told.Goals.{in-Some+in_ok-push, in_default}

pub loop-entry-preserved : goal.loop-entry-preserved
loop-entry-preserved c =
    let i = c.loop-entry.entry-index in
    let names = c.loop-entry.names.items in
    elim c.match-entry.branch [
      | in-Some+in_ok-push w ↦ told-more c.args.table.now i _ _ names c.match-entry.names.items c.loop-entry-test.true w.in-Some.is
          (ap (λ v. v.items) w.names-is ∙ w.in_ok-push.ensures.items) c.loop-entry.invariant
      | in_default w ↦ told-more c.args.table.now i _ _ names c.match-entry.names.items c.loop-entry-test.true w.in_default.is
          (ap (λ v. v.items) w.names-is ∙ sym (append-nil names)) c.loop-entry.invariant
    ]
