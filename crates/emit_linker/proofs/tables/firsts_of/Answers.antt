use Rattle.std.proofs.Common.{◌≡◌, ◌+◌, ◌-◌, ◌++◌, ◌∷◌, [], drop, length, sym, ◌∙◌, arith}
use Rattle.std.specs.List.{sum_by}
use Rattle.std.proofs.lemmas.List.FromFn.{map-range_with_len_more}
use Rattle.emit_shape.specs.Assembled.{first_procedure}
use Rattle.emit_linker.specs.Places.{trees}
use Rattle.emit_linker.proofs.CodePlaces.{count-fewer}
use Rattle.emit_linker.proofs.tables.firsts_of.Goals as goal

pub overflow_sub-later : goal.overflow_sub-later
overflow_sub-later c =
    let fewer = count-fewer c.args.list.now c.loop-code.code-index c.code-item.result c.loop-code-test.true c.code-item.is in
    let before = c.loop-code.invariant.later in
    let own = c.len-own.ensures in
    omega (arith, fewer, before, own)

pub loop-code-preserved : goal.loop-code-preserved
loop-code-preserved c =
    let i = c.loop-code.code-index in
    let fewer = count-fewer c.args.list.now i c.code-item.result c.loop-code-test.true c.code-item.is in
    let before = c.loop-code.invariant.later in
    let own = c.len-own.ensures in
    let later : c.loop-code.later - c.len-own.result ≡ sum_by (λ c. length c.procedures) (drop (i + 1) (trees c.args.list.now)) =
    omega (arith, fewer, before, own) in
    record {
      later = later;
      firsts = c.in_ok-push.ensures.items ∙ (λ j. c.loop-code.invariant.firsts j ++ (c.in_ok-small.ensures ∙ later) j ∷ [])
          ∙ sym (map-range_with_len_more (first_procedure (trees c.args.list.now)) 0 i i (omega arith));
    }
