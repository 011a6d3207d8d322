use Rattle.std.proofs.Common.{◌∙◌, arith, ap, refl, length, take, drop}
use Rattle.std.specs.Prelude.{Err}
use Rattle.std.proofs.lemmas.Result.{err_from_is_err_and}
use Rattle.tool_scripts.specs.Calls.{read_as}
use Rattle.tool_script_runner.specs.Walks.{inside}
use Rattle.tool_driver.specs.Shapes.{Shape, inputs_of}
use Rattle.tool_script_runner.proofs.Walks.{none_through, further, bad_in, call_in, handed, through_filled, next_filled, bad_filled}
use Rattle.tool_script_runner.proofs.OneCall.{counts_within}
use Rattle.tool_script_runner.proofs.lines.answer_lines.Goals as goal

pub loop-there-init : goal.loop-there-init
loop-there-init g c = record {
  within = omega arith;
  through =
      none_through c.args.counts.now (length (inputs_of c.args.driver.now.shape)) c.args.run.now.done
      (inside c.args.driver.now c.args.run.now (g.S.Sink.bytes c.args.sink.now));
  none = λ same. refl;
  room = c.requires.room;
  shape = refl;
  calm = refl;
}

pub fill_call-requires-clause-most : goal.fill_call-requires-clause-most
fill_call-requires-clause-most g c =
    counts_within c.args.counts.now c.args.driver.now.shape c.loop-there.run.values.items c.requires.counts
    (c.loop-there.invariant.room.values ∙ ap (λ (s : Shape). length (inputs_of s)) c.loop-there.invariant.shape)

pub returns-in-Err-clause-ran : goal.returns-in-Err-clause-ran
returns-in-Err-clause-ran g c = λ behind.
    let all = length (inputs_of c.args.driver.now.shape) in
    let room = c.loop-there.invariant.room.values ∙ ap (λ (s : Shape). length (inputs_of s)) c.loop-there.invariant.shape in
    let filled = c.fill_call.ensures.filled in
    let s = inside c.args.driver.now c.args.run.now (g.S.Sink.bytes c.args.sink.now) in
    let s' = inside c.loop-there.driver c.fill_call.new.run (g.S.Sink.bytes c.loop-there.sink) in
    bad_in c.in-Err.bad c.args.text.now behind c.args.counts.now all c.args.run.now.done c.fill_call.new.run.done c.loop-there.at s s'
    (through_filled (take c.loop-there.at c.args.text.now) c.args.counts.now all c.args.run.now.done c.loop-there.driver c.loop-there.run
    c.fill_call.new.run (g.S.Sink.bytes c.loop-there.sink) s filled c.loop-there.invariant.through)
    (bad_filled c.in-Err.bad (drop c.loop-there.at c.args.text.now) c.args.counts.now
    (length c.loop-there.run.values.items) all c.loop-there.run c.fill_call.new.run room filled c.in-Err.ensures.next)

pub returns-in_err-answer-clause-ran : goal.returns-in_err-answer-clause-ran
returns-in_err-answer-clause-ran g c =
    let p = err_from_is_err_and c.from_residual.result c.from_residual.ensures.1 in
    let fault = c.in_err-answer.field-0.0 in
    let all = length (inputs_of c.args.driver.now.shape) in
    let room = c.loop-there.invariant.room.values ∙ ap (λ (s : Shape). length (inputs_of s)) c.loop-there.invariant.shape in
    let filled = c.fill_call.ensures.filled in
    let call = read_as c.in-Ok-Some.there.0 c.fill_call.new.run.values.items in
    let after = c.in-Ok-Some.there.1 in
    let s = inside c.args.driver.now c.args.run.now (g.S.Sink.bytes c.args.sink.now) in
    let s' = inside c.loop-there.driver c.fill_call.new.run (g.S.Sink.bytes c.loop-there.sink) in
    let s'' = inside c.answer.new.driver c.answer.new.run (g.S.Sink.bytes c.answer.new.sink) in
    let next = rw c.in-Ok-Some.field-0-is at c.in-Ok-Some.ensures.next in
    let through =
    through_filled (take c.loop-there.at c.args.text.now) c.args.counts.now all c.args.run.now.done c.loop-there.driver c.loop-there.run
    c.fill_call.new.run (g.S.Sink.bytes c.loop-there.sink) s filled c.loop-there.invariant.through in
    handed c.from_residual.result fault c.args.text.now c.args.counts.now all c.args.run.now.done c.answer.new.run.done s s''
    (p.1 ∙ ap (λ f. Err f) p.2)
    (λ behind.
    call_in fault c.args.text.now behind c.args.counts.now all c.args.run.now.done c.fill_call.new.run.done c.loop-there.at after call s s'
    s'' through
    (next_filled c.args.text.now c.args.counts.now
    (length c.loop-there.run.values.items) all c.loop-there.at after call c.loop-there.run c.fill_call.new.run room filled next)
    c.in_err-answer.ensures.answered)

pub loop-there-preserved : goal.loop-there-preserved
loop-there-preserved g c =
    let all = length (inputs_of c.args.driver.now.shape) in
    let room = c.loop-there.invariant.room.values ∙ ap (λ (s : Shape). length (inputs_of s)) c.loop-there.invariant.shape in
    let filled = c.fill_call.ensures.filled in
    let call = read_as c.in-Ok-Some.there.0 c.fill_call.new.run.values.items in
    let after = c.in-Ok-Some.there.1 in
    let s = inside c.args.driver.now c.args.run.now (g.S.Sink.bytes c.args.sink.now) in
    let s' = inside c.loop-there.driver c.fill_call.new.run (g.S.Sink.bytes c.loop-there.sink) in
    let s'' = inside c.answer.new.driver c.answer.new.run (g.S.Sink.bytes c.answer.new.sink) in
    let next = rw c.in-Ok-Some.field-0-is at c.in-Ok-Some.ensures.next in
    let through =
    through_filled (take c.loop-there.at c.args.text.now) c.args.counts.now all c.args.run.now.done c.loop-there.driver c.loop-there.run
    c.fill_call.new.run (g.S.Sink.bytes c.loop-there.sink) s filled c.loop-there.invariant.through in
    let done = c.in_ok-answer.ensures.done in
    record {
      within = next.within;
      through =
          further c.args.text.now c.args.counts.now all c.args.run.now.done c.fill_call.new.run.done c.answer.new.run.done c.loop-there.at
          after call s s' s'' through
          (next_filled c.args.text.now c.args.counts.now
          (length c.loop-there.run.values.items) all c.loop-there.at after call c.loop-there.run c.fill_call.new.run room filled next)
          c.in_ok-answer.ensures.answered done;
      none = λ same. absurd (omega (arith, same, through.size, done));
      room = c.answer.ensures.room;
      shape = c.answer.ensures.shape ∙ c.loop-there.invariant.shape;
      calm = c.in_ok-answer.ensures.calm (λ e. cc) ∙ c.loop-there.invariant.calm;
    }
