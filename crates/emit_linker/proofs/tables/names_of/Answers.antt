use Rattle.std.proofs.Common.{ℕ, ◌-◌, List, ap, ◌∙◌, arith}
use Rattle.emit_shape.specs.declared.code.SystemCode.{SystemCode}
use Rattle.emit_linker.specs.Places.{place_in}
use Rattle.emit_linker.proofs.CodePlaces.{names-more}
use Rattle.emit_linker.proofs.tables.names_of.Goals as goal

pub loop-place-preserved : goal.loop-place-preserved
loop-place-preserved c =
    let j = c.loop-place.place in
    let some = c.loop-place-test.true in
    let within = c.loop-place.auto.place in
    names-more c.args.list.now j (j - 1) c.in_ok-small.field-0 c.index-list-place.result c.bytes.result.now c.deref_mut.result.now
    c.insert.new.self (omega (arith, some)) c.in_ok-small.ensures (omega (arith, some, within)) c.index-list-place.is
    (c.bytes.ensures ∙ ap (λ (s : SystemCode). s.structure.name) c.code.view_is)
    (λ (name : List ℕ). ap (λ m. place_in m name) c.deref_mut.ensures.value ∙ c.loop-place.invariant name)
    c.in_ok-insert.ensures.updates
