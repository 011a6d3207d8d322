use Rattle.std.proofs.Common.{◌≡◌, List, ℕ, subst, refl, rules}
use Rattle.modules_report.specs.Heads.{head_text}
use Rattle.modules_report.specs.Stops.{NoneBegins}
use Rattle.modules_report.proofs.ToldLines.{head_told}
use Rattle.modules_report.proofs.Unread.{head-impossible, head-unlike, no-head-told, same-words}
use Rattle.modules_report.proofs.reading.read_head.Goals as goal

pub returns-in_default-clause-stops : goal.returns-in_default-clause-stops
returns-in_default-clause-stops c = (
  no-head-told c.args.text.now c.head_in.result
      (head_told c.args.text.now _ c.head_in.result
      (same-words (λ w. w.now) c.deref.result.now _ _ c.deref.ensures.value c.in_ok-words.ensures) c.head_in.ensures)
      (search rules),
  refl,
)

pub returns-then-not-branch-clause-stops : goal.returns-then-not-branch-clause-stops
returns-then-not-branch-clause-stops c = (
  head-impossible c.args.text.now c.head_in.result
      (head_told c.args.text.now _ c.head_in.result
      (same-words (λ w. w.now) c.deref.result.now _ _ c.deref.ensures.value c.in_ok-words.ensures) c.head_in.ensures)
      c.in-Some.head (search rules) (λ possible. let yes = c.in_ok-is_possible.ensures.only possible in search (rules, yes)),
  refl,
)

pub returns-clause-stops : goal.returns-clause-stops
returns-clause-stops c =
    let line : c.as_bytes.result.now ≡ head_text c.in-Some.head = search rules in
    let none : NoneBegins c.args.text.now c.as_bytes.result.now = search rules in (
      head-unlike c.args.text.now c.head_in.result
          (head_told c.args.text.now _ c.head_in.result
          (same-words (λ w. w.now) c.deref.result.now _ _ c.deref.ensures.value c.in_ok-words.ensures) c.head_in.ensures)
          c.in-Some.head (search rules) (subst (λ (t : List ℕ). NoneBegins c.args.text.now t) line none),
      refl,
    )
