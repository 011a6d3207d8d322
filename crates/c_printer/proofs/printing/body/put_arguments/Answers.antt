use Rattle.std.proofs.Common.{sym, ◌∙◌, ap, ◌++◌, length, rules}
use Rattle.std.proofs.lemmas.List.{length_push, append-nil}
use Rattle.std.proofs.lemmas.Slice.Zip.{zip_turn, zip_end}
use Rattle.c_printer.specs.VocabularyOf.{vocabulary_of}
use Rattle.c_printer.proofs.PrintedLists.{arguments_after-more, arguments_after-end}
use Rattle.c_printer.proofs.printing.body.put_arguments.Goals as goal

pub loop-param-preserved : goal.loop-param-preserved
loop-param-preserved c =
    let t = zip_turn c.args.params.now c.args.values.now c.loop-param.yielded c.into_iter-param-iterator.result
    c.loop-param.param-iterator c.next.new.self c.next.result (search rules) (search rules) c.loop-param.yielded_by
    (c.in-Some.param, c.in-Some.value) c.in-Some.is c.next.ensures.steps in
    arguments_after-more (vocabulary_of c.args.scope.now) c.args.params.now c.args.values.now
    (length c.loop-param.yielded) _ c.in-Some.param.now c.in-Some.value.now c.type_text.result.now
    c.loop-param.out.items c.put.new.out.items c.put-in-loop-param.new.out.items c.put-in-loop-param-2.new.out.items
    c.put_expr.new.out.items t.0 t.1 (t.2 _) (t.3 _) (length_push c.loop-param.yielded _) c.type_text.ensures
    c.in_ok-put.ensures c.in_ok-put-2.ensures c.in_ok-put-3.ensures c.in_ok-put_expr.ensures
    ∙ c.loop-param.invariant

pub returns : goal.returns
returns c =
    let t = zip_end c.args.params.now c.args.values.now c.loop-param.yielded c.into_iter-param-iterator.result
    c.loop-param.param-iterator c.next.new.self c.next.result (search rules)
    (search rules) c.loop-param.yielded_by c.in-None.is c.next.ensures.steps in
    sym (append-nil c.loop-param.out.items)
    ∙ ap (λ x. c.loop-param.out.items ++ x)
    (sym (arguments_after-end (vocabulary_of c.args.scope.now) c.args.params.now c.args.values.now
    (length c.loop-param.yielded) t)) ∙ c.loop-param.invariant
