use Rattle.std.proofs.Common.{◌≡◌, ◌+◌, List, [], ◌∷◌, length, refl, sym, ap, subst, ◌∙◌, arith, rules}
use Rattle.std.proofs.lemmas.Grind.{common_steps}
use Rattle.std.proofs.lemmas.List.{length-append}
use Rattle.modules_profile.specs.declared.Function.{Function}
use Rattle.modules_report.specs.Following.{CanComeFirst}
use Rattle.modules_report.specs.Heads.{head_ports}
use Rattle.modules_report.specs.Reports.{IsSetOf}
use Rattle.modules_report.specs.Stops.{StopsAtFunction, StopsAtLine}
use Rattle.modules_report.proofs.FunctionLines.{all-more, all-of-them, one-more}
use Rattle.modules_report.proofs.Handed.{handed}
use Rattle.modules_report.proofs.Stopping.{stops-at-other, stops-unread}
use Rattle.modules_report.proofs.reading.read_functions.Goals as goal

pub loop-k-preserved : goal.loop-k-preserved
loop-k-preserved c = record {
  text = one-more c.args.ports.now c.args.head.outputs 1 c.loop-k.k c.loop-k.functions.items c.push.new.self.items c.in_ok-function.function
      c.args.text.now c.loop-k.rest.now c.in_ok-function.next.now c.loop-k.invariant.len c.in_ok-push.ensures.items
      c.loop-k.invariant.text c.in_ok-function.ensures.text;
  len = (let e : length c.push.new.self.items ≡ length c.loop-k.functions.items + 1 =
      ap (λ (fs : List Function). length fs) c.in_ok-push.ensures.items
      ∙ length-append c.loop-k.functions.items (c.in_ok-function.function ∷ []) in
      let before = c.loop-k.invariant.len in omega (arith, e, before));
  sets = all-more (λ (f : Function). IsSetOf (head_ports c.args.head) f.inputs) c.loop-k.functions.items
      c.push.new.self.items c.in_ok-function.function
      c.in_ok-push.ensures.items c.loop-k.invariant.sets (c.in_ok-can_have.ensures.set (search rules));
  first = subst (CanComeFirst c.args.head.outputs c.args.head.functions) c.deref.ensures.value
      (c.in_ok-can_have.ensures.first (search rules));
}

pub returns-clause-functions : goal.returns-clause-functions
returns-clause-functions c = all-of-them _ _ _ c.loop-k.invariant.first (grind (arith, common_steps))

pub returns-in_err-function-clause-stops : goal.returns-in_err-function-clause-stops
returns-in_err-function-clause-stops c =
    handed c.from_residual.result c.in_err-function.field-0.0
    (StopsAtLine c.args.ports.now c.args.head.outputs (c.loop-k.k + 1) c.loop-k.rest.now)
    (StopsAtFunction c.args.head c.args.text.now) c.from_residual.ensures.1
    (λ left at. stops-unread c.args.head c.args.ports.now c.requires.ports c.args.text.now c.loop-k.rest.now
    c.loop-k.functions.items c.loop-k.k left
    c.loop-k.invariant.text c.loop-k.invariant.len c.loop-k.invariant.sets c.loop-k.invariant.first c.loop-k-test.true at.1 at.0)
    c.in_err-function.ensures.stops

pub returns-then-not-branch-clause-stops : goal.returns-then-not-branch-clause-stops
returns-then-not-branch-clause-stops c =
    stops-at-other c.args.head c.args.ports.now c.requires.ports c.args.text.now c.loop-k.rest.now c.loop-k.functions.items c.loop-k.k _
    c.loop-k.invariant.text c.loop-k.invariant.len c.loop-k.invariant.sets c.loop-k.invariant.first c.loop-k-test.true refl
    c.in_ok-function.function c.push.new.self.items c.in_ok-push.ensures.items c.in_ok-function.ensures.only
    (λ own can. let yes = c.in_ok-can_have.ensures.only own
    (subst (CanComeFirst c.args.head.outputs c.args.head.functions) (sym c.deref.ensures.value) can) in
    search (rules, yes))
