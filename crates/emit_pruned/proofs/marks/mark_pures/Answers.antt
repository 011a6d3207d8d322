use Rattle.std.proofs.Common.{◌≡◌, ◌-◌, ◌<◌, suc, length, map, sym, ap, ◌∙◌, get_or, arith}
use Rattle.std.proofs.lemmas.List.{length-map, get_or-map}
use Rattle.c_syntax.specs.Plain.{pure_tree}
use Rattle.emit_pruned.proofs.FlagLaws.{needed-step}
use Rattle.emit_pruned.proofs.marks.mark_pures.Goals as goal

pub loop-position-preserved : goal.loop-position-preserved
loop-position-preserved c =
    let pures = c.args.pures.now in
    let next = c.loop-position.position in
    let some = c.loop-position-test.true in
    let long = c.loop-position.invariant.long in
    let kept = c.mark_behind.auto.needed in
    let step : suc (next - 1) ≡ next = omega (arith, some) in
    let inside : next - 1 < length pures = omega arith in
    let among : next - 1 < length (map pure_tree pures) = omega (arith, length-map pures pure_tree) in
    let f = c.index-pures-position.result in
    let read : f ≡ get_or pures (next - 1) f = c.index-pures-position.is in
    record {
      long = omega (arith, kept, long);
      marks = λ later is.
          needed-step later (map pure_tree pures) (length pures) (next - 1) next
          (pure_tree f) c.loop-position.needed c.mark_behind.new.needed
          step among (length-map pures pure_tree)
          (ap pure_tree read ∙ sym (get_or-map pure_tree pures (next - 1) f (pure_tree f) inside))
          (c.loop-position.invariant.marks later is) c.mark_behind.ensures;
    }
