use Rattle.std.proofs.Common.{ℕ, List, ◌++◌, ◌≤◌, length, map, sym, ap, ◌∙◌, arith, Option, Bor}
use Rattle.std.proofs.lemmas.List.{take_all}
use Rattle.diagram_meaning.specs.declared.subsystem.Subsystem.{Subsystem}
use Rattle.diagram_meaning.specs.Nested.{row_of, system_of}
use Rattle.modules_profile.specs.Systems.{system_name}
use Rattle.emit_row_facts.proofs.lemmas.Steps.{map-map}
use Rattle.lustre_emitter.proofs.texts.push_systems.Goals as goal

pub returns : goal.returns
returns c =
    let systems = c.args.systems.now in
    let i = c.loop-system.system-index in
    let past : length systems ≤ i = let stop = c.loop-system-test.false in omega (arith, stop) in
    let row : Bor Subsystem → Option ℕ = λ s. row_of (system_of s.now) in
    c.loop-system.invariant
    ∙ ap (λ (ss : List (Bor Subsystem)). c.args.texts.now.items ++ map (λ (s : Bor Subsystem). system_name (row_of (system_of s.now))) ss)
    (take_all i systems past)
    ∙ ap (λ (ts : List (List ℕ)). c.args.texts.now.items ++ ts) (sym (map-map system_name row systems))
