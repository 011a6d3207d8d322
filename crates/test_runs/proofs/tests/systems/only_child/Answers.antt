use Rattle.std.proofs.Common.{rules, ◌≡◌, ◌∷◌, ◌<◌, ℕ, List, [], Some, length, map, slice_get, refl, sym, ap, ◌∙◌, arith}
use Rattle.std.proofs.lemmas.List.{length-map}
use Rattle.std.specs.Prelude.{Option, None}
use Rattle.diagram_meaning.specs.Nested.{row_of, system_of}
use Rattle.diagram_meaning.specs.Rows.{subsystems_of}
use Rattle.diagram_meaning.specs.declared.subsystem.Subsystem.TheViews.{out-Subsystem}
use Rattle.modules_profile.specs.Systems.{children_of}
use Rattle.modules_profile.proofs.lemmas.SystemsInside.{children-are, agreed-heads, agreed-child, got-mapped, child-inside}
use Rattle.test_runs.proofs.tests.systems.only_child.Goals as goal

no-items : {A : Type 0} (xs : List A) → length xs ≡ 0 → xs ≡ []
no-items [] e = refl
no-items (x ∷ xs) e = absurd (omega (arith, e))

one-item : {A : Type 0} (xs : List A) (x : A) → length xs ≡ 1 → slice_get xs 0 ≡ Some x → xs ≡ x ∷ []
one-item [] x e at = absurd (omega (arith, e))
one-item (y ∷ []) x e at = let same : y ≡ x = cc at in ap (λ z. z ∷ []) same
one-item (y ∷ z ∷ zs) x e at = absurd (omega (arith, e))

pub returns-clause-inside : goal.returns-clause-inside
returns-clause-inside c =
    let root = c.root_of-root.result.now in
    let child = c.index-child.result.now in
    let many : length (out-Subsystem root).children.items ≡ 1 = search rules in
    let at : slice_get (children_of (system_of root)) 0 ≡ Some (system_of child) =
    ap (λ xs. slice_get xs 0) (children-are root)
    ∙ got-mapped system_of (out-Subsystem root).children.items 0 child (omega (arith, many)) c.index-child.ensures in
    child-inside c.args.r.now.tree.table.rows (system_of root) 0 (system_of child) c.root_of-root.ensures.system at

pub returns-clause-leaf : goal.returns-clause-leaf
returns-clause-leaf c =
    let root = c.root_of-root.result.now in
    let child = c.index-child.result.now in
    let rows = c.args.r.now.tree.table.rows in
    let many : length (out-Subsystem root).children.items ≡ 1 = search rules in
    let none : length (out-Subsystem child).children.items ≡ 0 = search rules in
    let at : slice_get (children_of (system_of root)) 0 ≡ Some (system_of child) =
    ap (λ xs. slice_get xs 0) (children-are root)
    ∙ got-mapped system_of (out-Subsystem root).children.items 0 child (omega (arith, many)) c.index-child.ensures in
    let agrees = agreed-child rows (system_of root) 0 (system_of child) c.root_of-root.ensures.system at in
    sym (agreed-heads rows (system_of child) agrees)
    ∙ ap (map row_of) (children-are child ∙ ap (map system_of) (no-items (out-Subsystem child).children.items none))

pub returns-clause-only : goal.returns-clause-only
returns-clause-only c =
    let root = c.root_of-root.result.now in
    let child = c.index-child.result.now in
    let rows = c.args.r.now.tree.table.rows in
    let items = (out-Subsystem root).children.items in
    let many : length items ≡ 1 = search rules in
    let at : slice_get (map system_of items) 0 ≡ Some (system_of child) =
    got-mapped system_of items 0 child (omega (arith, many)) c.index-child.ensures in
    let one = one-item (map system_of items) (system_of child) (length-map items system_of ∙ many) at in
    ap (λ (s : Option ℕ). map Some (subsystems_of rows s)) (sym c.root_of-root.ensures.root)
    ∙ sym (agreed-heads rows (system_of root) c.root_of-root.ensures.system) ∙ ap (map row_of) (children-are root ∙ one)
