use Rattle.emit_system_spec.proofs.lemmas.Emittable as proof
use Rattle.emit_system_spec.proofs.laws.emitted_is_emittable.Goals as goal

pub returns : goal.returns
returns c = proof.emitted_is_emittable c.locals_are_lawful.ensures c.resolved_rows_are_narrow.ensures c.row_ops_are_writable.ensures
