use Rattle.std.proofs.Common.{◌≡◌, ℕ, ◌-◌, ◌<◌, ◌++◌, sym, ap, ◌∙◌, append-nil, arith}
use Rattle.std.specs.String.{string_bytes}
use Rattle.tool_script_runner.specs.FaultTexts.{functions_up_to}
use Rattle.tool_script_runner.proofs.FaultWords.{spaced_numbers, with-number, without-number, none-yet}
use Rattle.tool_script_runner.proofs.texts.push_functions.Goals as goal
use Rattle.tool_script_runner.proofs.texts.push_functions.Goals.{then-has+in_ok-write, else-has}

pub loop-j-init : goal.loop-j-init
loop-j-init c =
    sym (append-nil (string_bytes c.args.out.now))
    ∙ ap (λ numbers. string_bytes c.args.out.now ++ spaced_numbers numbers) (sym (none-yet c.args.mask))

pub loop-j-preserved : goal.loop-j-preserved
loop-j-preserved c =
    let k : ℕ = c.loop-j.j-counter in
    let some : 0 < k = omega arith in
    elim c.if-has.branch [
      | then-has+in_ok-write w ↦
          with-number c.args.mask k some (string_bytes c.args.out.now) (string_bytes c.loop-j.out)
          (string_bytes c.if-has.out) c.loop-j.invariant
          (sym c.has.ensures ∙ w.if-has.true) (ap (λ s. string_bytes s) w.out-is ∙ w.in_ok-write.ensures.bytes)
      | else-has w ↦
          without-number c.args.mask k some (string_bytes c.args.out.now) (string_bytes c.loop-j.out)
          (string_bytes c.if-has.out) c.loop-j.invariant
          (sym c.has.ensures ∙ w.if-has.false) (ap (λ s. string_bytes s) w.out-is)
    ]

pub returns : goal.returns
returns c =
    let all : c.loop-j.j-counter - 1 ≡ 64 = omega arith in
    c.loop-j.invariant ∙ ap (λ last. string_bytes c.args.out.now ++ spaced_numbers (functions_up_to last c.args.mask)) all
