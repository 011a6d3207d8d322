use Rattle.std.proofs.Common.{◌∷◌, ◌∙◌, ap, rules, FitsSigned, w64}
use Rattle.std.proofs.Math.Facts.{to_z-of_z}
use Rattle.tool_script_runner.proofs.OneCall.{out_told}
use Rattle.tool_script_runner.proofs.Numbers.{number_in_front}
use Rattle.tool_script_runner.proofs.answers.call_function.Goals as goal

pub returns : goal.returns
returns c =
    let fits : FitsSigned w64 c.from.result = search rules in
    record {
      answered =
          out_told c.call.result c.args.function c.args.values.now _ c.call.new.out c.args.driver.now c.call.new.self
          (number_in_front c.args.numbers.now c.call.new.out _ (search rules)
          ∙ ap (λ x. x ∷ c.call.new.out) (to_z-of_z fits ∙ c.from.ensures))
          (record {
            refused = c.call.ensures.refused;
            made = c.call.ensures.made;
            left = c.call.ensures.left;
            stands = c.call.ensures.stands;
          });
    }
