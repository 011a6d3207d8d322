use Rattle.std.proofs.Common.{◌≡◌, arith, ◌∙◌, ap, sym, take, ◌++◌, ◌∷◌, []}
use Rattle.c_syntax.specs.PlainField.{field_trees}
use Rattle.c_syntax.specs.Tree.{StructTree}
use Rattle.c_interpreter.specs.Layouts.{layout_of, layouts_of}
use Rattle.c_interpreter.proofs.LaidOut.{layouts_more}
use Rattle.c_interpreter.proofs.layouts.layouts_of.Goals as goal

pub loop-s-preserved : goal.loop-s-preserved
loop-s-preserved c =
    let before = layouts_of [] (take c.loop-s.s-index c.args.structs.now) in
    let e : c.in_ok-layout.layout ≡ layout_of before c.s-item.result.fields =
    c.in_ok-layout.ensures
    ∙ (λ i. layout_of ((c.deref.ensures.value ∙ c.loop-s.invariant) i)
    ((ap field_trees c.deref-in-loop-s.ensures.value ∙ ap (λ (s : StructTree). s.fields) c.s.view_is) i)) in
    c.in_ok-push.ensures.items ∙ (λ i. c.loop-s.invariant i ++ e i ∷ [])
    ∙ sym (layouts_more c.args.structs.now c.loop-s.s-index c.s-item.result (omega arith) c.s-item.is)
