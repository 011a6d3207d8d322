use Rattle.std.proofs.Common.{◌≡◌, ℕ, ◌+◌, ◌-◌, ◌*◌, ◌++◌, List, ap, ◌∙◌, arith}
use Rattle.std.specs.String.{string_bytes}
use Rattle.tool_generator.specs.Draws.{gain_of, initial_of, signs_of, state_after}
use Rattle.tool_generator.specs.Models.{drawn_group, group_text}
use Rattle.tool_generator.proofs.Steps.{text-more, three-more}
use Rattle.tool_generator.proofs.model.push_groups.Goals as goal

same_group : (k : ℕ) {gain h initial i : ℕ} {signs t : List ℕ} → gain ≡ h → signs ≡ t → initial ≡ i →
    group_text k gain signs initial ≡ group_text k h t i
same_group k p q r = cc

pub loop-k-preserved : goal.loop-k-preserved
loop-k-preserved c =
    let before : ℕ = 3 * (c.loop-k.k - 1) in
    let drawn = three-more c.args.start before c.loop-k.draws.state c.loop-k.invariant.1 in
    let group = same_group c.loop-k.k (c.next-drawn.ensures.gain ∙ ap gain_of drawn.0) (c.next-drawn.ensures.signs
    ∙ ap signs_of drawn.1) (c.next-drawn.ensures.initial ∙ ap initial_of drawn.2) in (
      text-more (drawn_group c.args.start) (string_bytes c.args.out.now) (string_bytes c.loop-k.out)
          (string_bytes c.push_group.new.out) c.loop-k.k (omega arith) c.loop-k.invariant.0
          (c.in_ok-push_group.ensures ∙ ap (λ (bytes : List ℕ). string_bytes c.loop-k.out ++ bytes) group),
      c.next-drawn.ensures.state ∙ drawn.2 ∙ ap (state_after c.args.start) (let e : before + 3 ≡ 3 *
          (c.loop-k.k + 1 - 1) = omega arith in e),
    )
