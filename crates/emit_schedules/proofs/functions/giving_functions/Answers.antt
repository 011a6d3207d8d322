use Rattle.std.proofs.Common.{◌<◌, List, ℕ, ◌∷◌, [], ◌++◌, All, subst, sym, ap₂, ◌∙◌, arith}
use Rattle.std.proofs.lemmas.List.Elements.{All-push}
use Rattle.std.proofs.lemmas.List.FromFn.{map-range_with_len_more}
use Rattle.emit_system_spec.specs.Schedules.{giving_function as function_giving}
use Rattle.emit_schedules.proofs.functions.giving_functions.Goals as goal

pub loop-output-preserved : goal.loop-output-preserved
loop-output-preserved c = (
  c.in_ok-push.ensures.items
      ∙ ap₂ (λ (front : List ℕ) (last : ℕ). front ++ last ∷ []) c.loop-output.invariant.0 c.giving_function.ensures.is
      ∙ sym (map-range_with_len_more (function_giving c.args.profile.now) 0 c.loop-output.output c.loop-output.output (omega arith)),
  subst (All (λ j. j < 32)) (sym c.in_ok-push.ensures.items)
      (All-push (λ j. j < 32) c.loop-output.given.items c.giving_function.result c.loop-output.invariant.1 c.giving_function.ensures.few),
)
