use Rattle.std.proofs.Common.{◌≡◌, ◌++◌, map, take}
use Rattle.diagram_meaning.specs.Nested.{row_of, system_of}
use Rattle.modules_profile.specs.Systems.{system_name}
use Rattle.lustre_emitter.proofs.texts.push_systems.Given as goal

abbrev pub invariant-loop-system : goal.invariant-loop-system
invariant-loop-system l =
    l.texts.items ≡ l.fn.texts.items ++ map (λ s. system_name (row_of (system_of s.now))) (take l.system-index l.systems)
