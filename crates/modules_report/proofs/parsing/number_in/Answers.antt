use Rattle.modules_report.proofs.PortGuesses.{number_is_text}
use Rattle.modules_report.proofs.parsing.number_in.Goals as goal

pub returns-in-Err : goal.returns-in-Err
returns-in-Err c = λ n small e. absurd (c.in-Err.ensures.cases.0 (number_is_text n c.args.word.now small e))
