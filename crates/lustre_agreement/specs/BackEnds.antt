-- The two back ends agree: a file of Lustre and C that are right for one model give the same.
use Rattle.std.specs.Prelude.{◌≡◌, ℕ, List, map, Option, None, ℤ}
use Rattle.diagram_meaning.specs.ResolvedTable.{ResolvedTable, diagram_of_table}
use Rattle.diagram_meaning.specs.Traces.{IsTrace}
use Rattle.c_syntax.specs.Tree.{ProgramTree}
use Rattle.c_semantics.specs.Rows.{c_rows}
use Rattle.right_claim.specs.Right.{IsRightFor}
use Rattle.lustre_syntax.specs.Tree.{FileTree}
use Rattle.lustre_flows.specs.Flows.{flows, outputs}
use Rattle.lustre_right.specs.Right.{IsLustreOf}

-- over a trace neither is ever stuck, and at each tick the file gives the outputs of the program
pub record GiveTheSame (f : FileTree) (p : ProgramTree) (xs : List (List ℤ)) : Type 0 where
  pub flows_go_on : (flows f xs).stuck_place ≡ None
  pub rows_go_on : (c_rows p xs).stuck_place ≡ None
  pub same_outputs : outputs f xs ≡ map (λ row. row.outputs) (c_rows p xs).ticks

-- over each trace of a model the file gives what each C gives that is right for the model
abbrev pub BackEndsAgree : FileTree → ResolvedTable → Type 0
BackEndsAgree f r =
    (code : List ℕ) (right : IsRightFor code r) (xs : List (List ℤ)) →
    IsTrace (diagram_of_table r) None xs → GiveTheSame f right.program xs

-- so it is with each file that is right for the model
abbrev pub RightFilesAgree : Type 0
RightFilesAgree =
    (f : FileTree) (r : ResolvedTable) → IsLustreOf f (diagram_of_table r) → BackEndsAgree f r
