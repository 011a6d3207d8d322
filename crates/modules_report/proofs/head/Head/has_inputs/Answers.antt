use Rattle.modules_report.proofs.HeadSets.{has_inputs}
use Rattle.modules_report.proofs.head.Head.has_inputs.Goals as goal

pub returns : goal.returns
returns c =
    has_inputs c.args.self.inputs c.args.mask c.own_bit-enable.result c.own_bit-trigger.result c.args.self.enabled
    c.args.self.triggered
    c.requires c.own_bit-enable.ensures.own c.own_bit-trigger.ensures.own
