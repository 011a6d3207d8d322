use Rattle.std.proofs.Common.{◌≡◌, sym, ◌∙◌, ap, subst, IfOk, List, map}
use Rattle.base_fixed_point.specs.declared.FixType.{FixType}
use Rattle.diagram_meaning.specs.declared.table.Row.{Row}
use Rattle.diagram_meaning.specs.Diagram.{type_at}
use Rattle.diagram_meaning.specs.ResolvedTree.{diagram_of}
use Rattle.diagram_meaning.specs.Rows.{inports_of}
use Rattle.tool_system_driver.proofs.InputTypes.{inport-types}
use Rattle.tool_system_driver.proofs.shape.input_types.Goals as goal

pub returns : goal.returns
returns c =
    let d = diagram_of c.args.r.now in
    let s = c.args.system in
    let inports : c.deref.result.now ≡ inports_of d.rows s =
    c.deref.ensures.value ∙ c.in_ok-inports.ensures.ports ∙ ap (λ (rows : List Row). inports_of rows s) c.rows_of.ensures.rows in
    subst (λ (types : List FixType). IfOk c.types_at.result (λ v. v.items ≡ types))
    ((λ i. map (type_at (c.types_of.ensures.types i)) (inports i)) ∙ sym (inport-types d s)) c.types_at.ensures
