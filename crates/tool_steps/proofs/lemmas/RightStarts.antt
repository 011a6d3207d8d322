-- The code that a model was compiled to starts.
use Rattle.std.proofs.Common.{◌≡◌, ℕ, List, [], sym, ap, ◌∙◌}
use Rattle.std.specs.Prelude.{Some, None}
use Rattle.c_syntax.specs.declared.fault.Stuck.{Stuck}
use Rattle.c_syntax.specs.Tree.{ProgramTree}
use Rattle.c_semantics.specs.Cells.{Cells}
use Rattle.c_semantics.specs.Machine.{Outcome, stuck}
use Rattle.c_semantics.specs.Rows.{start_run, c_rows, rows_of_start}
use Rattle.c_rules.specs.Reading.{CText}
use Rattle.diagram_meaning.specs.ResolvedTable.{ResolvedTable}
use Rattle.tool_compiled.specs.Compilation.{Compilation, IsCompilationOf}

pub starts-right : (r : ResolvedTable) (c : Compilation) (right : IsCompilationOf r c) (p : ProgramTree) (at : Stuck)
    (cells : Cells) → CText c.code p → start_run p ≡ stuck at cells → ⊥
starts-right r c right p at cells text start =
    let q : ProgramTree = right.code.program in
    let same : start_run q ≡ stuck at cells = ap start_run (sym (right.code.only p text)) ∙ start in
    let free : (c_rows q []).stuck_place ≡ None = (right.code.code.runs.bounded [] tt).not_stuck in
    let sticks : (c_rows q []).stuck_place ≡ Some at = ap (λ (o : Outcome). (rows_of_start q o []).stuck_place) same in
    cc (sym free ∙ sticks)
