use Rattle.std.proofs.Common.{◌≡◌, IfOk, ℕ, List, Option, map, length, subst, sym, ap, ◌∙◌}
use Rattle.std.specs.List.{range_with_len, filter_map}
use Rattle.std.proofs.lemmas.List.{length-map}
use Rattle.c_syntax.specs.PlainField.{field_tree, field_trees}
use Rattle.emit_linker.specs.Children.{child_at, told_names}
use Rattle.emit_linker.proofs.ChildNames.{kept-children}
use Rattle.emit_linker.proofs.child_names.names_among.Goals as goal

pub returns : goal.returns
returns c =
    let fields = field_trees c.args.fields.now in
    let kept : List (Option (List ℕ)) → List (List ℕ) = λ names. filter_map (λ (o : Option (List ℕ)). o) names in
    subst (λ (l : List (List ℕ)). IfOk c.told.result (λ v. map (λ n. n.now) v.items ≡ l))
    (ap (λ t. kept (told_names t)) c.deref.ensures.value ∙ ap kept c.in_ok-table.ensures
    ∙ kept-children (child_at fields) (range_with_len 0 (length c.args.fields.now))
    ∙ ap (λ n. filter_map (child_at fields) (range_with_len 0 n)) (sym (length-map c.args.fields.now field_tree)))
    c.told.ensures
