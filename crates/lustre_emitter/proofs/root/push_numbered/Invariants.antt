use Rattle.std.proofs.Common.{◌≡◌, ◌++◌, map}
use Rattle.lustre_syntax.specs.Plain.{declared_names}
use Rattle.lustre_system.specs.Functions.{int_name}
use Rattle.lustre_emitter.specs.RootParts.{numbered_names}
use Rattle.lustre_emitter.proofs.root.push_numbered.Given as goal

abbrev pub invariant-loop-k : goal.invariant-loop-k
invariant-loop-k l = declared_names l.names.items
    ≡ declared_names l.fn.names.items ++ map int_name (numbered_names l.outputs l.k)
