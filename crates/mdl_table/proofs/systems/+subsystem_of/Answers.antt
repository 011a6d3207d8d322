use Rattle.std.proofs.Common.{refl, ◌∙◌, ap, map, ◌++◌, arith}
use Rattle.diagram_meaning.specs.Nested as nested
use Rattle.mdl_table.proofs.SystemLists.{nested_of, made, more-made, all-made, short-children}
use Rattle.mdl_table.proofs.systems.+subsystem_of.Goals as goal

pub loop-child-init : goal.loop-child-init
loop-child-init t c =
    let same = c.in_ok-children.ensures.items in (
      short-children c.args.system.now c.as_slice-child-items.result.now c.as_slice-child-items.ensures.value c.requires,
      ap (λ ss. map nested.system_of ss ++ map (nested_of c.args.rows.now) c.as_slice-child-items.result.now) same,
    )

pub loop-child-preserved : goal.loop-child-preserved
loop-child-preserved t c = (
  c.loop-child.invariant.0,
  more-made c.args.rows.now c.loop-child.children.items c.push.new.self.items c.as_slice-child-items.result.now c.loop-child.child-index
      c.child-item.result c.in_ok-subsystem_of.field-0 _ c.loop-child-test.true c.child-item.is
      c.in_ok-subsystem_of.ensures c.in_ok-push.ensures.items
      c.loop-child.invariant.1,
)

pub returns : goal.returns
returns t c =
    let past = c.loop-child-test.false in
    made c.args.rows.now c.args.system.now _ c.narrow.ensures refl c.control_of.ensures (c.in_ok-wires_of.ensures
    ∙ c.as_slice.ensures.value)
    (all-made c.args.rows.now c.loop-child.children.items c.as_slice-child-items.result.now c.loop-child.child-index _
    (omega (arith, past)) c.loop-child.invariant.1
    ∙ ap (map (nested_of c.args.rows.now)) c.as_slice-child-items.ensures.value)
