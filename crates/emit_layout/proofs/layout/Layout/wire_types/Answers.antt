use Rattle.std.proofs.Common.{ℕ, get_or, sym, ◌∙◌}
use Rattle.std.proofs.lemmas.List.{get_or_default}
use Rattle.emit_system_spec.specs.Sources.{source_of}
use Rattle.emit_layout.proofs.WireTypes.{types-more, types-end}
use Rattle.emit_layout.proofs.layout.Layout.wire_types.Goals as goal

pub loop-wire-preserved : goal.loop-wire-preserved
loop-wire-preserved c =
    let wires = c.args.wires.now in
    let k = c.loop-wire.wire-index in
    let w : ℕ = get_or wires k 0 in
    types-more (source_of c.args.self.now.local) wires k w c.in-Some.source c.loop-wire.types.items c.push.new.self.items
    c.loop-wire-test.true (get_or_default wires k 0 w c.loop-wire-test.true) (sym c.source.ensures ∙ c.in-Some.is)
    c.loop-wire.invariant c.in_ok-push-in-Some.ensures.items

pub returns-in-None : goal.returns-in-None
returns-in-None c =
    let wires = c.args.wires.now in
    let k = c.loop-wire.wire-index in
    let w : ℕ = get_or wires k 0 in
    types-end (source_of c.args.self.now.local) wires k w c.loop-wire.types.items c.loop-wire-test.true
    (get_or_default wires k 0 w c.loop-wire-test.true) (sym c.source.ensures ∙ c.in-None.is) c.loop-wire.invariant
