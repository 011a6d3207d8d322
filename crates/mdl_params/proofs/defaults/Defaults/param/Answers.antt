use Rattle.std.proofs.Common.{IsSome, sym, subst}
use Rattle.mdl_tree.specs.Values.{section_tree}
use Rattle.mdl_params.specs.Language.{default_text}
use Rattle.mdl_params.specs.Defaults.{written_text}
use Rattle.mdl_params.proofs.FoundTexts.{either-some, copied-some}
use Rattle.mdl_params.proofs.defaults.Defaults.param.Goals as goal

pub unwrap-requires : goal.unwrap-requires
unwrap-requires c =
    let written = written_text c.args.self.now (section_tree c.args.block.now).items c.args.kind.now c.args.name in
    copied-some c.found.result
    (subst IsSome (sym c.found.ensures) (either-some written (default_text c.args.kind.now c.args.name) c.requires))
