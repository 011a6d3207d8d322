use Rattle.std.proofs.Common.{◌∷◌, ◌++◌, [], ◌∙◌, ap, map}
use Rattle.diagram_meaning.specs.Nested.{system_of}
use Rattle.emit_shape.specs.SystemTree.{system_tree}
use Rattle.emit_systems.proofs.TreeSteps.{coded-next, under-next, all-under, all-profiles, whole, child-at, child-in, all-children}
use Rattle.emit_systems.proofs.systems.+codes_inside.Goals as goal

pub is_child-requires-clause-child : goal.is_child-requires-clause-child
is_child-requires-clause-child t c =
    child-in c.args.s.now c.deref-child-items.result.now c.deref-child-items.ensures.value c.loop-child.child-index c.child-item.result
    c.loop-child-test.true c.child-item.is

pub loop-child-preserved : goal.loop-child-preserved
loop-child-preserved t c =
    let i = c.loop-child.child-index in
    let r = c.args.r.now in
    let s = system_of c.args.s.now in
    let child = system_of c.child-item.result in
    let inside = c.in_ok-_local.field-0 in
    let told = c.in_ok-_local.ensures in
    let at = child-at c.args.s.now c.deref-child-items.result.now c.deref-child-items.ensures.value i c.child-item.result
    c.loop-child-test.true c.child-item.is in (
      coded-next r s i child c.loop-child.children.items c.push.new.self.items inside.profile c.loop-child.inner.items inside.codes.items
          c.append-in-loop-child.new.self.items at told.profile told.codes
          (c.in_ok-push.ensures.items ∙ ap (λ p. c.loop-child.children.items ++ p ∷ []) c.in_ok-copied.ensures)
          c.in_ok-append-2.ensures.items c.loop-child.invariant.0,
      under-next r s i child inside.profile c.loop-child.below.items c.push-in-loop-child.new.self.items inside.below.items c.append.new.self.items at
          told.profile told.below c.in_ok-push-2.ensures.items c.in_ok-append.ensures.items c.loop-child.invariant.1,
    )

pub local_with-requires-clause-children : goal.local_with-requires-clause-children
local_with-requires-clause-children t c =
    let i = c.loop-child.child-index in
    all-profiles c.args.r.now (system_of c.args.s.now) c.loop-child.children.items c.deref.result.now
    (map system_tree c.loop-child.inner.items) i c.requires.system
    (all-children c.args.s.now c.deref-child-items.result.now c.deref-child-items.ensures.value i c.loop-child-test.false)
    c.deref.ensures.value c.loop-child.invariant.0

pub profile_of-requires-clause-children : goal.profile_of-requires-clause-children
profile_of-requires-clause-children t c =
    let i = c.loop-child.child-index in
    all-profiles c.args.r.now (system_of c.args.s.now) c.loop-child.children.items c.deref-2.result.now
    (map system_tree c.loop-child.inner.items) i c.requires.system
    (all-children c.args.s.now c.deref-child-items.result.now c.deref-child-items.ensures.value i c.loop-child-test.false)
    c.deref-2.ensures.value c.loop-child.invariant.0

pub code-requires-clause-children : goal.code-requires-clause-children
code-requires-clause-children t c =
    let i = c.loop-child.child-index in
    all-profiles c.args.r.now (system_of c.args.s.now) c.loop-child.children.items c.deref-3.result.now
    (map system_tree c.loop-child.inner.items) i c.requires.system
    (all-children c.args.s.now c.deref-child-items.result.now c.deref-child-items.ensures.value i c.loop-child-test.false)
    c.deref-3.ensures.value c.loop-child.invariant.0

pub returns-clause-below : goal.returns-clause-below
returns-clause-below t c =
    let i = c.loop-child.child-index in
    all-under c.args.r.now (system_of c.args.s.now) i c.loop-child.below.items
    (all-children c.args.s.now c.deref-child-items.result.now c.deref-child-items.ensures.value i c.loop-child-test.false)
    c.loop-child.invariant.1

pub returns-clause-codes : goal.returns-clause-codes
returns-clause-codes t c =
    let i = c.loop-child.child-index in
    whole c.args.r.now (system_of c.args.s.now) c.loop-child.children.items c.in_ok-code.code c.loop-child.inner.items
    c.new-codes.result.items c.push-2.new.self.items c.append-2.new.self.items i
    (all-children c.args.s.now c.deref-child-items.result.now c.deref-child-items.ensures.value i c.loop-child-test.false)
    c.new-codes.ensures.items c.in_ok-push-3.ensures.items c.in_ok-append-3.ensures.items c.in_ok-code.ensures c.loop-child.invariant.0
