use Rattle.std.proofs.Common.{ℕ, List, ◌++◌, length, map, take, append_assoc, arith, sym, subst, ap, ap₂, ◌∙◌}
use Rattle.std.specs.List.{enumerate_from, flat_map}
use Rattle.base_fixed_point.specs.declared.types.FixType.{FixType}
use Rattle.modules_profile.specs.declared.local.ChildUse.{ChildUse}
use Rattle.modules_profile.specs.LawfulLocals.{IsChild}
use Rattle.emit_system_spec.specs.declared.source.Source.{Source}
use Rattle.emit_system_spec.specs.Sources.{output_source, child_sources}
use Rattle.emit_row_facts.proofs.lemmas.Steps.{flat-enumerate-more}
use Rattle.emit_layout_tables.proofs.sources.push_children.Goals as goal

pub push_outputs-requires : goal.push_outputs-requires
push_outputs-requires c =
    let x = c.index-children-place.result in
    let outputs = ap length (c.as_slice.ensures.value ∙ ap (λ (u : ChildUse). u.header.outputs) c.child.view_is) in
    let is : IsChild x = subst IsChild (sym c.index-children-place.is) (c.requires.children c.loop-place.place x c.loop-place-test.true) in
    let few = is.outputs in
    omega (arith, few, outputs)

pub loop-place-preserved : goal.loop-place-preserved
loop-place-preserved c =
    let local = c.args.fields.now.local in
    let children = c.args.children.now in
    let i = c.loop-place.place in
    let x = c.index-children-place.result in
    let outputs = c.as_slice.ensures.value ∙ ap (λ (u : ChildUse). u.header.outputs) c.child.view_is in
    let front = flat_map (child_sources local) (enumerate_from 0 (take i children)) in
    c.in_ok-push_outputs.ensures
    ∙ ap₂ (λ (f : ℕ) (os : List (ℕ × FixType)). c.loop-place.list.items ++ map (output_source f) (enumerate_from 0 os))
    c.child-in-loop-place.ensures outputs
    ∙ ap (λ (l : List Source). l ++ child_sources local (i, x)) c.loop-place.invariant
    ∙ append_assoc c.args.list.now.items front (child_sources local (i, x))
    ∙ ap (λ (y : ChildUse). c.args.list.now.items ++ (front ++ child_sources local (i, y))) c.index-children-place.is
    ∙ ap (λ (l : List Source). c.args.list.now.items ++ l)
    (sym (flat-enumerate-more (child_sources local) children i x c.loop-place-test.true))
