use Rattle.std.proofs.Common.{◌≡◌, ℕ, Bool, true, false, length, get_or, ap, subst, sym, ◌∙◌, arith}
use Rattle.std.specs.Prelude.{◌↔◌}
use Rattle.std.proofs.lemmas.List.{get_or_default}
use Rattle.diagram_meaning.specs.SampleTimes.{Delays, every_tick, IsInputTime}
use Rattle.diagram_times.specs.Running.{AreDelays}
use Rattle.diagram_times.proofs.RunSteps.{each-more, len-more}
use Rattle.diagram_times.proofs.run.delay_marks.Goals as goal

pub loop-b-init : goal.loop-b-init
loop-b-init c table e is_base given = record {
  len = ap length c.new-marks.ensures.items;
  each = λ b below. absurd (omega arith);
}

pub loop-b-preserved : goal.loop-b-preserved
loop-b-preserved c table e is_base given =
    let before = c.loop-b.invariant table e is_base given in
    let n = c.requires.len in
    let t = c.loop-b-test.true in
    let read : c.index-inside-b.result ≡ get_or c.args.inside.now c.loop-b.b every_tick =
    c.index-inside-b.is ∙ get_or_default c.args.inside.now c.loop-b.b c.index-inside-b.result every_tick (omega arith) in
    let input : IsInputTime table c.loop-b.b c.index-inside-b.result =
    subst (IsInputTime table c.loop-b.b) (sym read) (given.are_input_times c.loop-b.b (let l = ap length e in omega arith)) in
    record {
      len = len-more c.loop-b.b c.loop-b.marks.items c.push.new.self.items c.delays.result before.len c.in_ok-push.ensures.items;
      each = each-more (λ (b : ℕ) (mark : Bool). (mark ≡ true) ↔ Delays table b) false c.loop-b.b c.loop-b.marks.items
          c.push.new.self.items c.delays.result before.len
          (c.delays.ensures table e is_base input) c.in_ok-push.ensures.items before.each;
    }

pub returns : goal.returns
returns c table e is_base given =
    let low = c.loop-b-test.false in let high = c.loop-b.auto.b-end in
    let all : c.loop-b.b ≡ length c.args.rows.now = omega arith in
    subst (λ n. AreDelays table n c.loop-b.marks.items) all (c.loop-b.invariant table e is_base given)
