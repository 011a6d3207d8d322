-- What is right for a model gives the outputs of its one run, so any two such give the same.
use Rattle.std.specs.Prelude.{List, map, None, ℤ}
use Rattle.std.proofs.Common.{sym, ap, ◌∙◌}
use Rattle.diagram_meaning.specs.Run.{outs}
use Rattle.diagram_meaning.specs.Laws.{Run}
use Rattle.diagram_meaning.specs.ResolvedTable.{ResolvedTable, diagram_of_table}
use Rattle.lustre_syntax.specs.Tree.{FileTree}
use Rattle.lustre_right.specs.Right.{IsLustreOf, GivesFlows}
use Rattle.c_syntax.specs.Tree.{ProgramTree}
use Rattle.right_claim.specs.Right.{GivesOutputs, StaysInBound}
use Rattle.lustre_agreement.specs.BackEnds.{GiveTheSame, RightFilesAgree}

module _ (r : ResolvedTable) (f : FileTree) (p : ProgramTree) (xs : List (List ℤ)) where
  same : GivesFlows f (diagram_of_table r) xs → GivesOutputs p (diagram_of_table r) xs → StaysInBound p (diagram_of_table r) xs →
      GiveTheSame f p xs
  same flowing running bounded = record {
    flows_go_on = flowing.not_stuck;
    rows_go_on = bounded.not_stuck;
    same_outputs =
        flowing.outputs_are
        ∙ ap (λ (run : Run). map (outs (diagram_of_table r) None) run.values)
        (running.one_run.only flowing.one_run.run flowing.one_run.is_run)
        ∙ sym running.outputs;
  }

pub right_files_agree : RightFilesAgree
right_files_agree f r right code compiled xs fits =
    same r f compiled.program xs (right.runs xs fits) (compiled.code.runs.outputs xs fits)
    (compiled.code.runs.bounded xs fits)
