use Rattle.std.proofs.Common.{◌∙◌, SFits, w64, rules}
use Rattle.std.proofs.lemmas.Int.{to_z-of_z}
use Rattle.c_interpreter.proofs.frames.Environment.leaf_of.Goals as goal

pub returns : goal.returns
returns c =
    let f : SFits w64 c.read.result = search rules in
    to_z-of_z w64 c.read.result f ∙ c.read.ensures ∙ (λ i. (c.view-view.ensures.reads i).leaf c.args.leaf)
