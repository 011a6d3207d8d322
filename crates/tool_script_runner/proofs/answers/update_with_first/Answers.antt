use Rattle.std.proofs.Common.{take}
use Rattle.tool_script_runner.proofs.OneCall.{update_told}
use Rattle.tool_script_runner.proofs.answers.update_with_first.Goals as goal

pub returns : goal.returns
returns c = record {
  answered =
      update_told c.update.result (take c.args.count c.args.values.now) c.args.driver.now c.update.new.self
      (record {
        refused = c.update.ensures.refused;
        made = c.update.ensures.made;
        left = c.update.ensures.left;
        stands = c.update.ensures.stands;
      });
}
