use Rattle.std.proofs.Common.{length}
use Rattle.lustre_syntax.specs.Plain.{file_tree}
use Rattle.lustre_syntax.specs.Tree.{node_at}
use Rattle.lustre_evaluation.proofs.Waiting.{before_part}
use Rattle.lustre_evaluation.proofs.frames.view_of.Goals as goal

pub returns-clause-before : goal.returns-clause-before
returns-clause-before c =
    before_part c.args.frame.now.begun (length (node_at (file_tree c.args.frame.now.file.now).nodes c.args.of.node).names)
    c.args.of.base c.args.frame.now.before.now c.names_before.result.now c.names_before.ensures
