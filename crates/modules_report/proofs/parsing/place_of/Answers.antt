use Rattle.std.proofs.Common.{◌∙◌}
use Rattle.modules_report.proofs.SameNeeds.{each-one}
use Rattle.modules_report.proofs.WordPlaces.{place_told}
use Rattle.modules_report.proofs.parsing.place_of.Goals as goal

pub returns-clause-place : goal.returns-clause-place
returns-clause-place c = λ before after none e. c.others_before.ensures.len
    ∙ place_told (λ w. w.now) c.args.word.now c.args.words.now before after (each-one _ before none) e
