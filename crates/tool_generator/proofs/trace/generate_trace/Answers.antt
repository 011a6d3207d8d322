use Rattle.std.proofs.Common.{◌≡◌, ℕ, ◌+◌, ◌*◌, ◌++◌, sym, ap, ◌∙◌, arith}
use Rattle.std.specs.String.{string_bytes}
use Rattle.tool_generator.specs.Draws.{draw, state_after}
use Rattle.tool_generator.specs.Models.{row_text}
use Rattle.tool_generator.proofs.Steps.{draws-more, pieces_after}
use Rattle.tool_generator.proofs.trace.generate_trace.Goals as goal

pub loop-k-preserved : goal.loop-k-preserved
loop-k-preserved c =
    let after : ℕ = 3 * c.args.size + c.loop-k._k in
    let drawn : draw c.loop-k.draws.state ≡ state_after c.args.start (3 * c.args.size + (c.loop-k._k + 1)) =
    ap draw c.loop-k.invariant.1 ∙ sym (draws-more c.args.start after)
    ∙ ap (state_after c.args.start) (let e : after + 1 ≡ 3 * c.args.size + (c.loop-k._k + 1) = omega arith in e)
    in (
      pieces_after (λ k. row_text (state_after c.args.start (3 * c.args.size + k))) (string_bytes c.loop-k.out)
          (string_bytes c.push_row.new.out) c.loop-k._k c.loop-k.invariant.0
          (c.in_ok-push_row.ensures.text ∙ ap (λ n. string_bytes c.loop-k.out ++ row_text n) drawn),
      c.in_ok-push_row.ensures.state ∙ drawn,
    )
