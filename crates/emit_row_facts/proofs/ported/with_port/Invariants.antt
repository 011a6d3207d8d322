use Rattle.std.proofs.Common.{◌≡◌, ◌==◌, None, find, take}
use Rattle.emit_row_facts.proofs.ported.with_port.Given as goal

abbrev pub invariant-loop-ported : goal.invariant-loop-ported
invariant-loop-ported l = find (λ e. e.port == l.port) (take l.ported-index l.among) ≡ None
