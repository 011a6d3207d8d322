use Rattle.std.proofs.Common.{Some, sym, ap, ◌∙◌}
use Rattle.modules_report.proofs.PortGuesses.{enable_told, number_told, trigger_told}
use Rattle.modules_report.proofs.parsing.port_in.Goals as goal

pub returns-then-is : goal.returns-then-is
returns-then-is c = λ p placed e. ap Some (enable_told c.args.word.now (sym c.is.ensures ∙ c.if-is.true) p placed e)

pub returns-then-is-2 : goal.returns-then-is-2
returns-then-is-2 c = λ p placed e. ap Some (trigger_told c.args.word.now (sym c.is-else-is.ensures ∙ c.if-is-2.true) p placed e)

pub returns-else-is-2 : goal.returns-else-is-2
returns-else-is-2 c =
    number_told c.args.word.now c.number_port.result c.number_port.ensures (sym c.is.ensures ∙ c.if-is.false)
    (sym c.is-else-is.ensures ∙ c.if-is-2.false)
