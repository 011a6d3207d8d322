use Rattle.std.proofs.Common.{◌≡◌, ◌+◌, ◌++◌, ◌∷◌, [], refl, Some, length, map, slice_get, take, subst, sym, ap, ◌∙◌, arith}
use Rattle.std.proofs.lemmas.List.{length-map, take_all}
use Rattle.diagram_meaning.specs.Nested.{row_of, system_of}
use Rattle.diagram_meaning.specs.ResolvedTree.{diagram_of}
use Rattle.modules_profile.specs.NodeFacts.{AreProfiles}
use Rattle.modules_profile.specs.Systems.{children_of}
use Rattle.modules_profile.specs.TreeProfiles.{AreProfilesInside}
use Rattle.modules_profile.proofs.lemmas.Members.{in-at}
use Rattle.modules_profile.proofs.NestedLists.{children-are, got-mapped}
use Rattle.modules_profile.proofs.TreeSteps.{AreFirst, has-first, first-more, all-children, whole}
use Rattle.modules_profile.proofs.tree_profiles.+profiles_inside.Goals as goal

pub is_child-requires-clause-child : goal.is_child-requires-clause-child
is_child-requires-clause-child t c =
    let s = system_of c.args.s.now in
    let i = c.loop-child.child-index in
    let child = system_of c.child-item.result in
    in-at (children_of s) i child
    (ap (λ xs. slice_get xs i) (children-are c.args.s.now ∙ ap (map system_of) (sym c.deref-child-items.ensures.value))
    ∙ got-mapped system_of c.deref-child-items.result.now i c.child-item.result c.loop-child-test.true c.child-item.is)

pub copy_first-requires : goal.copy_first-requires
copy_first-requires t c =
    let some =
    has-first (diagram_of c.args.r.now) (system_of c.args.s.now)
    (system_of c.child-item.result) c.in_ok-profiles.profiles.items c.in_ok-profiles.ensures in
    let same = ap length c.deref.ensures.value in
    omega (arith, some, same)

pub loop-child-preserved : goal.loop-child-preserved
loop-child-preserved t c =
    let d = diagram_of c.args.r.now in
    let s = system_of c.args.s.now in
    let i = c.loop-child.child-index in
    let child = system_of c.child-item.result in
    let p = c.in_ok-copy_first.field-0 in
    let at : slice_get (children_of s) i ≡ Some child =
    ap (λ xs. slice_get xs i) (children-are c.args.s.now ∙ ap (map system_of) (sym c.deref-child-items.ensures.value))
    ∙ got-mapped system_of c.deref-child-items.result.now i c.child-item.result c.loop-child-test.true c.child-item.is in
    let first = ap (λ ps. slice_get ps 0) (sym c.deref.ensures.value) ∙ c.in_ok-copy_first.ensures in
    subst (λ ps. AreFirst d s (i + 1) ps c.append.new.self.items) (sym c.in_ok-push.ensures.items)
    (subst (AreFirst d s (i + 1) (c.loop-child.children.items ++ p ∷ [])) (sym c.in_ok-append.ensures.items)
    (first-more d s i child c.loop-child.children.items c.loop-child.inner.items c.in_ok-profiles.profiles.items p at
    c.in_ok-profiles.ensures first c.loop-child.invariant))

pub profile_of-requires-clause-children : goal.profile_of-requires-clause-children
profile_of-requires-clause-children t c =
    let d = diagram_of c.args.r.now in
    let s = system_of c.args.s.now in
    let i = c.loop-child.child-index in
    let many = ap length (children-are c.args.s.now ∙ ap (map system_of) (sym c.deref-child-items.ensures.value))
    ∙ length-map c.deref-child-items.result.now system_of in
    let past = c.loop-child-test.false in
    let all : take i (children_of s) ≡ children_of s = take_all i (children_of s) (omega (arith, many, past)) in
    subst (λ ps. AreProfiles d (row_of s) ps) (sym c.deref-2.ensures.value)
    (all-children d s c.args.r.now.tree.table.rows c.loop-child.children.items c.loop-child.inner.items i refl
    c.requires.system all c.loop-child.invariant)

pub returns : goal.returns
returns t c =
    let d = diagram_of c.args.r.now in
    let s = system_of c.args.s.now in
    let i = c.loop-child.child-index in
    let many = ap length (children-are c.args.s.now ∙ ap (map system_of) (sym c.deref-child-items.ensures.value))
    ∙ length-map c.deref-child-items.result.now system_of in
    let past = c.loop-child-test.false in
    let all : take i (children_of s) ≡ children_of s = take_all i (children_of s) (omega (arith, many, past)) in
    let own = c.in_ok-own.own in
    subst (AreProfilesInside d s)
    (sym (c.in_ok-append-2.ensures.items
    ∙ ap (λ ps. ps ++ c.loop-child.inner.items) (c.in_ok-push-2.ensures.items
    ∙ ap (λ ps. ps ++ own ∷ []) c.new-profiles.ensures.items)))
    (whole d s own c.loop-child.children.items c.loop-child.inner.items i all c.loop-child.invariant c.in_ok-own.ensures)
