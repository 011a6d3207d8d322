-- No line of a generated trace is bad.
use Rattle.std.proofs.Common.{◌≡◌, refl, sym, ◌∙◌, ap, subst, ℕ, ◌<◌, [], length, arith}
use Rattle.base_core.specs.Numbers.{reported_number}
use Rattle.diagram_meaning.specs.RowTable.{RowTable}
use Rattle.diagram_meaning.specs.ResolvedTable.{diagram_of_table}
use Rattle.diagram_meaning.specs.Types.{type_at}
use Rattle.mdl_tree.specs.Spelling.{Items, Mdl}
use Rattle.mdl_tree.specs.Walks.{SectionTree}
use Rattle.mdl_rows.specs.Models.{Model, model_with}
use Rattle.mdl_rows.specs.Tables.{IsRowOf}
use Rattle.std.specs.List.{AllZip}
use Rattle.std.specs.Prelude.{codes}
use Rattle.mdl_table.specs.Tables.{TableOf}
use Rattle.tool_traces.specs.Rows.{rows_of}
use Rattle.tool_generator.specs.Models.{model_text, trace_text}
use Rattle.right_generated.specs.Laws.{GeneratedTracesAreRows}
use Rattle.right_generated.proofs.Plans.{one_plan, plan_items}
use Rattle.right_generated.proofs.ModelPlans.{root_plan, model_plan}
use Rattle.right_generated.proofs.PlanTexts.{model_piece}
use Rattle.right_generated.proofs.TraceRows.{trace_rows}
use Rattle.right_generated.proofs.RootBlocks.{further_blocks, further_none, root_blocks}
use Rattle.right_generated.proofs.RootTypes.{HasOneInput, one_input, int32_root}

-- the System of a generated model
abbrev root_section : (start size : ℕ) → SectionTree
root_section start size = record { name = codes "System"; line = reported_number 3; items = plan_items 4 (root_plan start size) }

-- the tree of a generated text is the one that its lines were made by
generated_tree : (start size : ℕ) (file : Items) → Mdl (model_text start size) file → file ≡ plan_items 1 (model_plan start size)
generated_tree start size file is =
    one_plan (model_plan start size) file (subst (λ bytes. Mdl bytes file) (sym (model_piece start size)) is)

-- the table of that tree has one input
generated_rows : (start size : ℕ) (table : RowTable) → TableOf (plan_items 1 (model_plan start size)) table → HasOneInput table.rows
generated_rows start size table is =
    let m : Model = model_with [] (root_section start size) in
    one_input m 4 (further_blocks start size) table.rows (further_none start size)
    (subst (λ bs. AllZip (IsRowOf m) bs table.rows) (root_blocks start size (root_section start size) refl) is.rows)

pub generated_traces_are_rows : GeneratedTracesAreRows
generated_traces_are_rows start size r verdict =
    let (file, text, fine, is) = verdict.model.0 in
    let resolved = verdict.model.1 in
    let one = generated_rows start size r.table (subst (λ f. TableOf f r.table) (generated_tree start size file text.1) is) in
    let there = subst (λ rows. 0 < length rows) (sym one.all) (omega arith) in
    let root = int32_root (diagram_of_table r) one (resolved.are_types 0 there) in
    ap (λ types. (rows_of (trace_text start size) types).bad) root.0 ∙ trace_rows start size (type_at r.types 0) root.1
