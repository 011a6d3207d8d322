use Rattle.std.proofs.Common.{◌≤◌, ℕ, map, length, arith, ap, ◌∙◌}
use Rattle.std.proofs.lemmas.List.{take_all}
use Rattle.modules_profile.specs.LocalSystem.{LocalSystem}
use Rattle.modules_profile.specs.Locals.{outports}
use Rattle.emit_system_spec.specs.Fields.{value_field}
use Rattle.emit_row_facts.specs.declared.ported.Ported.{Ported}
use Rattle.emit_row_facts.specs.Ported.{ported_of}
use Rattle.emit_row_facts.proofs.lemmas.Steps.{map-map}
use Rattle.emit_signatures.proofs.outputs.output_fields.Goals as goal

pub returns : goal.returns
returns c =
    let local = c.args.layout.now.local in
    let items = c.deref-outport-items.result.now in
    let i = c.loop-outport.outport-index in
    let all : length items ≤ i = let done = c.loop-outport-test.false in omega (arith, done) in
    let field : Ported → ℕ = λ o. value_field local o.row in
    let found = c.deref-outport-items.ensures.value ∙ c.in_ok-outports.ensures
    ∙ ap (λ (s : LocalSystem). map ported_of (outports s)) c.local.ensures in
    c.loop-outport.invariant ∙ ap (map field) (take_all i items all ∙ found) ∙ map-map field ported_of (outports local)
