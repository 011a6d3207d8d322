use Rattle.std.proofs.Common.{◌≡◌, ◌∷◌, List, length, drop, None, sym, ap, ◌∙◌, arith, rules}
use Rattle.std.proofs.lemmas.List.{length-replicate}
use Rattle.c_syntax.specs.declared.program.Field.{Field}
use Rattle.c_syntax.specs.Tree.{FieldTree}
use Rattle.c_syntax.specs.PlainField.{field_tree, field_trees}
use Rattle.emit_linker.specs.Children.{children_at, told_names}
use Rattle.emit_linker.proofs.Steps.{written}
use Rattle.emit_linker.proofs.ChildNames.{told-nothing, past-fields, field-before}
use Rattle.emit_linker.proofs.child_names.name_table.Goals as goal

pub loop-place-init : goal.loop-place-init
loop-place-init c =
    let fields = c.args.fields.now in
    let empty = c.in_ok-table.ensures.items_if_clones_equal (λ y h. search rules) in
    record {
      long = ap length empty ∙ length-replicate (length fields) None;
      names = ap told_names empty ∙ told-nothing (length fields)
          ∙ ap (λ (fs : List Field). children_at (field_trees fs) (length fields)) (sym (past-fields fields));
    }

pub loop-place-preserved : goal.loop-place-preserved
loop-place-preserved c =
    let fields = c.args.fields.now in
    let place = c.loop-place.place in
    let items = c.loop-place.table.items in
    let some = c.loop-place-test.true in
    let inside = c.loop-place.auto.place in
    let held = c.loop-place.table.ok.0 in
    let same = ap length c.deref_mut.ensures.value in
    let kept = c.tell.ensures.length in
    let long = c.loop-place.invariant.long in
    let back = written c.tell.new.table items c.loop-place.table.len (omega (arith, kept, same)) (omega (arith, kept, same, held)) in
    let many : length c.deref_mut.result.now ≡ length fields = same ∙ long in
    let later = field_trees (drop place fields) in
    record {
      long = ap length back ∙ kept ∙ many;
      names =
          ap told_names back
          ∙ c.tell.ensures.names later (ap told_names c.deref_mut.ensures.value ∙ c.loop-place.invariant.names
          ∙ ap (children_at later) (sym many))
          ∙ ap (children_at (field_tree c.index-fields-place.result ∷ later)) many
          ∙ ap (λ (fs : List FieldTree). children_at fs (length fields))
          (field-before fields place c.index-fields-place.result some inside c.index-fields-place.is);
    }
