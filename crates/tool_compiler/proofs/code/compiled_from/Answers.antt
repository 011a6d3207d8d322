use Rattle.std.proofs.Common.{◌≡◌, ◌∙◌, ap, List, length, map, None}
use Rattle.base_fixed_point.specs.Types.{boolean}
use Rattle.diagram_meaning.specs.declared.table.Row.{Row}
use Rattle.diagram_meaning.specs.RowTable.{RowTable}
use Rattle.diagram_meaning.specs.Rows.{inports_of}
use Rattle.diagram_meaning.specs.Diagram.{type_at}
use Rattle.diagram_meaning.specs.ResolvedTable.{table_of_tree}
use Rattle.diagram_meaning.specs.ResolvedTree.{ResolvedTree, diagram_of}
use Rattle.tool_compiler.proofs.lemmas.PortTypes.{inputs-are}
use Rattle.tool_compiler.proofs.code.compiled_from.Goals as goal

pub simplified_text-requires : goal.simplified_text-requires
simplified_text-requires c = c.in_ok-emitted.ensures.program.lawful

pub returns-clause-compiled : goal.returns-clause-compiled
returns-clause-compiled c =
    let d = diagram_of c.args.r.now in
    let rows : c.as_slice-rows.result.now ≡ d.rows =
    c.as_slice-rows.ensures.value ∙ ap (λ (t : RowTable). t.rows) (c.behind-r.view_is ∙ c.table.ensures.table)
    ∙ ap (λ (r : ResolvedTree). r.tree.table.rows) c.r.view_is in
    let types : c.as_slice.result.now ≡ d.types = c.as_slice.ensures.value ∙ ap (λ (r : ResolvedTree). r.types) c.r.view_is in
    let right = c.in_ok-code.ensures.code.right (table_of_tree c.args.r.now) c.in_ok-emitted.ensures.program.code in
    record {
      rows = ap (λ (own : List Row). length own) rows;
      systems = c.in_ok-emitted.ensures.systems;
      functions = c.in_ok-emitted.ensures.functions;
      inputs = c.in_ok-input_types.ensures ∙ (λ i. map (type_at (types i)) (inports_of (rows i) None)) ∙ inputs-are d boolean;
      code = right;
      none_idle = c.in_ok-code.ensures.code.none_idle right.program right.reads;
    }

pub returns-clause-noted : goal.returns-clause-noted
returns-clause-noted c = c.in_ok-code.ensures.noted
