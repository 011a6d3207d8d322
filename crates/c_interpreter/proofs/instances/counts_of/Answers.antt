use Rattle.std.proofs.Common.{◌≡◌, arith, ◌∙◌, ap, subst, sym, suc, take, ◌++◌, ◌∷◌, [], Option, Some, ℕ}
use Rattle.std.specs.Prelude.{IfSome}
use Rattle.c_syntax.specs.PlainField.{field_trees}
use Rattle.c_syntax.specs.Tree.{StructTree}
use Rattle.c_interpreter.specs.Numbering.{fields_count, counts_of}
use Rattle.c_interpreter.proofs.Numbered.{counts_more}
use Rattle.c_interpreter.proofs.instances.counts_of.Goals as goal

pub loop-s-preserved : goal.loop-s-preserved
loop-s-preserved c =
    let before = counts_of [] (take c.loop-s.s-index c.args.structs.now) in
    let known : c.whole_count.result ≡ Some c.in_ok-count.count = c.in_ok-count.ensures.ok_part in
    let e : c.in_ok-count.count ≡ suc (fields_count before c.s-item.result.fields) =
    (subst (λ (o : Option ℕ). IfSome o (λ n. n
    ≡ suc (fields_count c.deref.result.now (field_trees c.deref-in-loop-s.result.now)))) known
    c.whole_count.ensures)
    ∙ (λ i. suc (fields_count ((c.deref.ensures.value ∙ c.loop-s.invariant) i)
    ((ap field_trees c.deref-in-loop-s.ensures.value ∙ ap (λ (s : StructTree). s.fields) c.s.view_is) i))) in
    c.in_ok-push.ensures.items ∙ (λ i. c.loop-s.invariant i ++ e i ∷ [])
    ∙ sym (counts_more c.args.structs.now c.loop-s.s-index c.s-item.result (omega arith) c.s-item.is)
