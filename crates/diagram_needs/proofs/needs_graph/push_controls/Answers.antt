use Rattle.std.proofs.Common.{◌≡◌, ◌∙◌, ◌++◌, Some, length, ap, subst, sym, arith}
use Rattle.std.proofs.lemmas.List.{get_or_default}
use Rattle.diagram_meaning.specs.declared.table.Row.{Row}
use Rattle.diagram_meaning.specs.Rows.{no_row, row_at, around_inside, enclosing}
use Rattle.diagram_meaning.specs.Inputs.{wires_of_rows}
use Rattle.diagram_needs.proofs.GraphSteps.{IsBelow, inside_wires, edges_to, edges-more, wires-on, owner-below, below-more}
use Rattle.diagram_needs.proofs.needs_graph.push_controls.Goals as goal

pub loop-outer-preserved : goal.loop-outer-preserved
loop-outer-preserved c =
    let e_in = subst (IsBelow (length c.args.rows.now)) c.in-Some.is c.loop-outer.invariant.below in
    let read = get_or_default c.args.rows.now c.in-Some.e c.index-rows-e.result no_row e_in in
    let owner = get_or_default c.args.rows.now c.in-Some.e c.index-rows-e-in-Some.result no_row e_in in
    let last =
    c.args.edges.now.items
    ++ edges_to c.args.b (wires_of_rows c.args.rows.now (around_inside c.args.rows.now c.args.system c.args.b)) in
    let pushed =
    c.in_ok-push_all.ensures ∙ ap (λ l. c.loop-outer.edges.items ++ edges_to c.args.b l) (c.wires.ensures
    ∙ ap (λ (r : Row). r.inputs) read) in
    let on = wires-on c.args.rows.now c.args.system c.requires.nested c.in-Some.e e_in (sym c.is_system-in-Some.ensures
    ∙ c.if-is_system-2.false) in
    let before =
    sym (subst
    (λ o. c.loop-outer.edges.items
    ++ edges_to c.args.b (inside_wires c.args.rows.now c.args.system (enclosing c.args.rows.now c.args.system o))
    ≡ last) c.in-Some.is c.loop-outer.invariant.total) in
    record {
      below = subst (λ (r : Row). IsBelow (length c.args.rows.now) r.owner) (sym owner)
          (below-more c.in-Some.e (length c.args.rows.now) (row_at c.args.rows.now c.in-Some.e).owner
          (omega (arith, e_in)) (owner-below c.args.rows.now c.requires.nested c.in-Some.e e_in));
      total = subst (λ (r : Row). c.push_all.new.edges.items
          ++ edges_to c.args.b
          (inside_wires c.args.rows.now c.args.system (enclosing c.args.rows.now c.args.system r.owner)) ≡ last)
          (sym owner)
          (edges-more c.args.b c.loop-outer.edges.items last c.push_all.new.edges.items
          (row_at c.args.rows.now c.in-Some.e).inputs
          (inside_wires c.args.rows.now c.args.system (enclosing c.args.rows.now c.args.system (Some c.in-Some.e)))
          (inside_wires c.args.rows.now c.args.system
          (enclosing c.args.rows.now c.args.system (row_at c.args.rows.now c.in-Some.e).owner)) pushed on before);
    }
