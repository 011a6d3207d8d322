use Rattle.std.proofs.Common.{sym, ◌∙◌, None, Some}
use Rattle.mdl_wiring.specs.Held.{ends_seen}
use Rattle.mdl_wiring.proofs.InputLemmas.{source-led}
use Rattle.mdl_wiring.proofs.wiring.source_into.Goals as goal

pub returns-in-Some : goal.returns-in-Some
returns-in-Some c =
    c.source_at.ensures ∙ source-led (ends_seen c.args.ends.now) c.args.inputs.now c.args.input
    (Some c.in-Some.at) c.requires (sym c.in-Some.is ∙ c.end_at.ensures)

pub returns-in-None : goal.returns-in-None
returns-in-None c =
    source-led (ends_seen c.args.ends.now) c.args.inputs.now c.args.input None c.requires (sym c.in-None.is ∙ c.end_at.ensures)
