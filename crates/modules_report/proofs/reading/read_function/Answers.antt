use Rattle.std.proofs.Common.{◌≡◌, List, ℕ, subst, refl, rules}
use Rattle.modules_report.specs.Stops.{NoneBegins}
use Rattle.modules_report.specs.Texts.{out_line}
use Rattle.modules_report.proofs.ToldLines.{function_told}
use Rattle.modules_report.proofs.Unread.{function-only, function-unlike, no-function-told, same-words}
use Rattle.modules_report.proofs.reading.read_function.Goals as goal

pub returns-in_default-clause-stops : goal.returns-in_default-clause-stops
returns-in_default-clause-stops c = (
  no-function-told c.args.ports.now c.args.head.outputs c.args.j c.args.text.now c.function_in.result
      (function_told c.args.head c.args.ports.now c.args.j c.args.text.now _ c.function_in.result c.requires.inputs
      c.requires.outputs (search rules) c.requires.ports
      (same-words (λ w. w.now) c.deref.result.now _ _ c.deref.ensures.value c.in_ok-words.ensures) c.function_in.ensures)
      (search rules),
  refl,
)

pub returns-in-Some-past-clause-only : goal.returns-in-Some-past-clause-only
returns-in-Some-past-clause-only c =
    function-only c.args.ports.now c.args.head.outputs c.args.j c.args.text.now c.function_in.result
    (function_told c.args.head c.args.ports.now c.args.j c.args.text.now _ c.function_in.result c.requires.inputs
    c.requires.outputs (search rules) c.requires.ports
    (same-words (λ w. w.now) c.deref.result.now _ _ c.deref.ensures.value c.in_ok-words.ensures) c.function_in.ensures)
    c.in-Some.function (search rules)

pub returns-clause-stops : goal.returns-clause-stops
returns-clause-stops c =
    let line : c.as_bytes.result.now ≡ out_line c.args.ports.now c.args.head.outputs c.args.j c.in-Some.function = search rules in
    let none : NoneBegins c.args.text.now c.as_bytes.result.now = search rules in (
      function-unlike c.args.ports.now c.args.head.outputs c.args.j c.args.text.now c.function_in.result
          (function_told c.args.head c.args.ports.now c.args.j c.args.text.now _ c.function_in.result c.requires.inputs
          c.requires.outputs (search rules) c.requires.ports
          (same-words (λ w. w.now) c.deref.result.now _ _ c.deref.ensures.value c.in_ok-words.ensures) c.function_in.ensures)
          c.in-Some.function (search rules) (subst (λ (t : List ℕ). NoneBegins c.args.text.now t) line none),
      refl,
    )
