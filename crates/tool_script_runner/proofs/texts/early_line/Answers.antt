use Rattle.std.specs.String.{string_bytes}
use Rattle.tool_script_runner.specs.FaultTexts.{functions_in}
use Rattle.tool_script_runner.proofs.FaultWords.{early-line}
use Rattle.tool_script_runner.proofs.texts.early_line.Goals as goal

pub returns : goal.returns
returns c =
    early-line c.args.line (functions_in c.args.missing) (string_bytes c.in_ok-told.told)
    (string_bytes c.push_functions.new.out) (string_bytes c.push_str.new.self)
    c.in_ok-told.ensures.ok c.in_ok-push_functions.ensures c.in_ok-push_str.ensures.bytes
