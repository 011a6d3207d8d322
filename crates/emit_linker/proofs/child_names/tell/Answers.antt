use Rattle.std.proofs.Common.{refl}
use Rattle.emit_linker.proofs.ChildNames.{tell-at, tell-beyond}
use Rattle.emit_linker.proofs.child_names.tell.Goals as goal

pub returns-then-k-table-clause-names : goal.returns-then-k-table-clause-names
returns-then-k-table-clause-names c =
    λ fields told. tell-at c.args.field.now c.in-Struct.k c.bytes.result c.args.table.now _ fields c.in-Struct.is c.bytes.ensures
    c.if-k-table.true refl told

pub returns-else-k-table-clause-names : goal.returns-else-k-table-clause-names
returns-else-k-table-clause-names c =
    λ fields told. tell-beyond c.args.field.now c.in-Struct.k c.args.table.now fields c.in-Struct.is c.if-k-table.false told
