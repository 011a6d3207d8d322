use Rattle.std.proofs.Common.{◌++◌, ◌∙◌, subst, rules, get_or, pos, FitsSigned, w64}
use Rattle.std.proofs.Math.Facts.{to_z-of_z}
use Rattle.base_host.specs.Files.{PutsFront}
use Rattle.base_host.specs.Buffers.{PutsAllBut}
use Rattle.tool_runner.proofs.OutputLines.{behind, others_taken, others_cut}
use Rattle.tool_runner.proofs.outputs.put_others.Goals as goal

pub returns-in_err-put_behind-clause-front : goal.returns-in_err-put_behind-clause-front
returns-in_err-put_behind-clause-front g c =
    let n = get_or c.args.numbers.now c.loop-number.number-index (pos 0) in
    let fits : FitsSigned w64 n = search rules in
    others_cut c.from_residual.result c.args.numbers.now c.loop-number.number-index
    (pos 0) c.args.lines.now c.loop-number.lines _ _ _ (search rules) c.loop-number.invariant.taken
    (subst (λ x. PutsFront (g.S.Sink.bytes c.loop-number.sink) (g.S.Sink.bytes c.put_behind.new.sink)
    (c.loop-number.lines ++ behind x)) (to_z-of_z fits) c.in_err-put_behind.ensures.front)

pub loop-number-preserved : goal.loop-number-preserved
loop-number-preserved g c =
    let n = get_or c.args.numbers.now c.loop-number.number-index (pos 0) in
    let fits : FitsSigned w64 n = search rules in
    record {
      taken =
          others_taken c.args.numbers.now c.loop-number.number-index (pos 0) c.args.lines.now c.loop-number.lines
          c.put_behind.new.lines _ _ _ (search rules) c.loop-number.invariant.taken
          (subst (λ x. PutsAllBut c.put_behind.new.lines (c.loop-number.lines ++ behind x)
          (g.S.Sink.bytes c.loop-number.sink) (g.S.Sink.bytes c.put_behind.new.sink))
          (to_z-of_z fits) c.in_ok-put_behind.ensures.taken);
      calm = c.in_ok-put_behind.ensures.cause.calm ∙ c.loop-number.invariant.calm;
    }
