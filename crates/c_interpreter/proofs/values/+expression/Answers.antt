use Rattle.std.proofs.Common.{rules, ◌≡◌, ◌≤◌, [], length, map, ◌+◌, ◌*◌, ◌<◌, arith, ap, sym, ◌∙◌, refl, SFits, w64, true, false, get_or, take}
use Rattle.std.proofs.Math.ListN.{set}
use Rattle.std.proofs.lemmas.Int.{to_z-of_z}
use Rattle.c_syntax.specs.Tree.{exprs_of_list}
use Rattle.c_syntax.specs.Plain.{expr_tree, cond_tree, pure_tree}
use Rattle.c_semantics.specs.Values.{eval, functions_of, gives, Function}
use Rattle.c_interpreter.specs.Reads.{view_reads, view_functions}
use Rattle.std.proofs.lemmas.Bool.Decides.{nat_tests}
use Rattle.c_interpreter.proofs.Measures.{bodies, bodies_at, depth_of, depth_in, depth_under, depth_at}
use Rattle.c_syntax.specs.Limits.{cond_depth}
use Rattle.std.proofs.lemmas.Grind.{common_steps}
use Rattle.c_interpreter.proofs.Narrow.{exprs_here, pures_take, pures_at, exprs_length-list, pure_narrow, pure_gives}
use Rattle.c_interpreter.proofs.Evaluations.{neg_gives, item_read, binary_gives, binary_sticks, pick_gives, compare_gives, compare_sticks, both_goes_on, either_goes_on, negated_gives, eval_all_more, narrow_more, function_gives, function_there, function_past}
use Rattle.c_interpreter.proofs.values.+expression.Goals as goal

pub call_many-first_of-requires : goal.call_many-first_of-requires
call_many-first_of-requires t c = omega (arith, exprs_length-list c.args.values.now, c.requires.narrow.0)

-- src/values.rt:63:21
pub eval_any-returns-in-Err-eval-clause-value :
    goal.eval_any-returns-in-Err-eval-clause-value
eval_any-returns-in-Err-eval-clause-value t c =
    grind (
      arith,
      common_steps,
      binary_sticks _ _ _ _ _ _ _ _ _ _ _ _ _ (ap expr_tree c.in-Binary.is) c.deref-in-Binary.ensures
          c.deref-in-Binary-2.ensures c.in-Ok.ensures.value c.in-Err-eval.ensures.value,
    )

-- src/values.rt:73:34
pub eval_any-call_pure-requires : goal.eval_any-call_pure-requires
eval_any-call_pure-requires t c =
    let h : depth_in c.deref-in-Pure.result.now < depth_of c.args.e.now =
    depth_under _ _ c.in-Pure.values _ c.in-Pure.is c.deref-in-Pure.ensures.value in
    (omega arith, (pure_narrow _ _ c.in-Pure.values _ c.in-Pure.is c.deref-in-Pure.ensures.value c.requires.narrow, c.requires.pures))

pub eval_all-eval-requires : goal.eval_all-eval-requires
eval_all-eval-requires t c =
    let h : depth_of c.index-values-i.result ≤ depth_in c.args.values.now =
    depth_at c.args.values.now c.loop-i.i c.index-values-i.result (omega arith) c.index-values-i.is in (
      omega arith,
      (
        exprs_here c.args.values.now c.loop-i.i c.index-values-i.result
            (omega arith) c.index-values-i.is c.loop-i.invariant.narrow,
        c.requires.pures,
      ),
    )

pub eval_any-eval-requires : goal.eval_any-eval-requires
eval_any-eval-requires t c = (omega (arith, ap (depth_of) c.in-Neg.is, ap (depth_of) c.deref.ensures), (search rules, c.requires.pures))

pub eval_any-eval-requires-in-Binary : goal.eval_any-eval-requires-in-Binary
eval_any-eval-requires-in-Binary t c = (
  omega (arith, ap (depth_of) c.in-Binary.is, ap (depth_of) c.deref-in-Binary.ensures),
  (search rules, c.requires.pures),
)

pub eval_any-eval-requires-in-Binary-2 : goal.eval_any-eval-requires-in-Binary-2
eval_any-eval-requires-in-Binary-2 t c = (
  omega (arith, ap (depth_of) c.in-Binary.is, ap (depth_of) c.deref-in-Binary-2.ensures),
  (search rules, c.requires.pures),
)

pub eval_any-eval_cond-requires : goal.eval_any-eval_cond-requires
eval_any-eval_cond-requires t c = (
  omega (arith, ap (depth_of) c.in-Pick.is, ap (λ x. cond_depth (cond_tree x)) c.deref-in-Pick.ensures),
  (search rules, c.requires.pures),
)

pub eval_any-eval-requires-in-Holds : goal.eval_any-eval-requires-in-Holds
eval_any-eval-requires-in-Holds t c = (
  omega (arith, ap (depth_of) c.in-Pick.is, ap (depth_of) c.deref-in-Holds.ensures),
  (search rules, c.requires.pures),
)

pub eval_any-eval-requires-in-Fails : goal.eval_any-eval-requires-in-Fails
eval_any-eval-requires-in-Fails t c = (
  omega (arith, ap (depth_of) c.in-Pick.is, ap (depth_of) c.deref-in-Fails.ensures),
  (search rules, c.requires.pures),
)

pub eval_cond-eval-requires : goal.eval_cond-eval-requires
eval_cond-eval-requires t c = (omega (arith, ap (λ x. cond_depth (cond_tree x)) c.in-Compare.is), (search rules, c.requires.pures))

pub eval_cond-eval-requires-in-Compare : goal.eval_cond-eval-requires-in-Compare
eval_cond-eval-requires-in-Compare t c =
    (omega (arith, ap (λ x. cond_depth (cond_tree x)) c.in-Compare.is), (search rules, c.requires.pures))

pub eval_cond-eval_cond-requires : goal.eval_cond-eval_cond-requires
eval_cond-eval_cond-requires t c = (
  omega (arith, ap (λ x. cond_depth (cond_tree x)) c.in-Both.is, ap (λ x. cond_depth (cond_tree x)) c.deref.ensures),
  (search rules, c.requires.pures),
)

pub eval_cond-eval_cond-requires-in-Holds : goal.eval_cond-eval_cond-requires-in-Holds
eval_cond-eval_cond-requires-in-Holds t c = (
  omega (
    arith,
    ap (λ x. cond_depth (cond_tree x)) c.in-Both.is,
    ap (λ x. cond_depth (cond_tree x)) c.deref-in-Holds.ensures,
  ),
  (search rules, c.requires.pures),
)

pub eval_cond-eval_cond-requires-in-Either : goal.eval_cond-eval_cond-requires-in-Either
eval_cond-eval_cond-requires-in-Either t c = (
  omega (
    arith,
    ap (λ x. cond_depth (cond_tree x)) c.in-Either.is,
    ap (λ x. cond_depth (cond_tree x)) c.deref-in-Either.ensures,
  ),
  (search rules, c.requires.pures),
)

pub eval_cond-eval_cond-requires-in-Not : goal.eval_cond-eval_cond-requires-in-Not
eval_cond-eval_cond-requires-in-Not t c = (
  omega (
    arith,
    ap (λ x. cond_depth (cond_tree x)) c.in-Not.is,
    ap (λ x. cond_depth (cond_tree x)) c.deref-in-Not.ensures,
  ),
  (search rules, c.requires.pures),
)

-- src/values.rt:49:1
pub eval_any-returns-in_ok-eval-in-Neg-clause-value : goal.eval_any-returns-in_ok-eval-in-Neg-clause-value
eval_any-returns-in_ok-eval-in-Neg-clause-value t c =
    let f : SFits w64 c.in_ok-eval-in-Neg.field-0 = search rules in
    neg_gives _ _ _ _ _ _ _ _ _ _ (ap expr_tree c.in-Neg.is) c.deref.ensures c.in_ok-eval-in-Neg.ensures.value
    (simp to_z-of_z at (c.negate.ensures c.eval.new.steps))

-- src/values.rt:49:1
pub eval_any-returns-in-Ok-eval-clause-value : goal.eval_any-returns-in-Ok-eval-clause-value
eval_any-returns-in-Ok-eval-clause-value t c =
    let f : SFits w64 c.in-Ok.x = search rules in
    let g : SFits w64 c.in-Ok-eval.y = search rules in
    binary_gives _ _ _ _ _ _ _ _ _ _ _ _ _ _ _ (ap expr_tree c.in-Binary.is) c.deref-in-Binary.ensures
    c.deref-in-Binary-2.ensures c.in-Ok.ensures.value c.in-Ok-eval.ensures.value
    (simp to_z-of_z at (c.operate.ensures c.eval-in-Binary-2.new.steps))

pub eval_any-returns-in-Ok-eval-2-clause-value : goal.eval_any-returns-in-Ok-eval-2-clause-value
eval_any-returns-in-Ok-eval-2-clause-value t c =
    let f : SFits w64 c.in-Ok-eval-2.index = search rules in
    item_read _ _ _ _ c.in-At.field _ _ _ _ c.eval-in-At.new.steps _ (ap expr_tree c.in-At.is) c.deref-in-At.ensures
    c.in-Ok-eval-2.ensures.value (simp to_z-of_z at (c.item_at.ensures c.eval-in-At.new.steps))

-- src/values.rt:49:1
pub eval_any-returns-in-Pure-clause-value : goal.eval_any-returns-in-Pure-clause-value
eval_any-returns-in-Pure-clause-value t c =
    pure_gives _ _ _ _ _ _ c.in-Pure.values _ _ c.in-Pure.is c.deref-in-Pure.ensures.value c.call_pure.ensures.value

-- src/values.rt:151:5
pub eval_all-loop-i-preserved : goal.eval_all-loop-i-preserved
eval_all-loop-i-preserved t c =
    let f : SFits w64 c.in_ok-out.field-0 = search rules in
    record {
      narrow = narrow_more c.args.values.now c.loop-i.i (omega arith) c.loop-i.invariant.narrow;
      later = search rules;
      value =
          eval_all_more _ _ _ c.args.steps.now _ _ (exprs_of_list (map expr_tree c.args.values.now)) c.args.values.now
          c.loop-i.i _ c.loop-i.out _ _ (omega arith) (omega arith) c.index-values-i.is
          (ap (set c.loop-i.out c.loop-i.i) (to_z-of_z w64 c.in_ok-out.field-0 f)) c.in_ok-out.ensures.value
          c.loop-i.invariant.value;
    }

-- src/values.rt:89:21
pub eval_cond-returns-in-Err-eval-clause-value :
    goal.eval_cond-returns-in-Err-eval-clause-value
eval_cond-returns-in-Err-eval-clause-value t c =
    grind (
      arith,
      common_steps,
      compare_sticks _ _ _ _ _ _ _ _ _ _ _ _ _ (ap cond_tree c.in-Compare.is) refl refl c.in-Ok.ensures.value
          c.in-Err-eval.ensures.value,
    )

-- src/values.rt:78:1
pub eval_cond-returns-in-Ok-eval-clause-value :
    goal.eval_cond-returns-in-Ok-eval-clause-value
eval_cond-returns-in-Ok-eval-clause-value t c =
    let f : SFits w64 c.in-Ok.x = search rules in
    let g : SFits w64 c.in-Ok-eval.y = search rules in
    compare_gives _ _ _ _ _ _ _ _ _ _ _ _ _ _ _ (ap cond_tree c.in-Compare.is) refl refl c.in-Ok.ensures.value
    c.in-Ok-eval.ensures.value (c.verdict_of.ensures c.eval-in-Compare.new.steps
    ∙ ap (λ b. gives b c.eval-in-Compare.new.steps) (simp to_z-of_z at c.compares.ensures))

-- src/values.rt:78:1
pub eval_any-returns-in-Holds-clause-value : goal.eval_any-returns-in-Holds-clause-value
eval_any-returns-in-Holds-clause-value t c =
    pick_gives _ _ _ _ _ c.in-Pick.on_true.value c.in-Pick.on_false.value _ _ _ true c.eval_cond.new.steps _
    (ap expr_tree c.in-Pick.is) c.deref-in-Pick.ensures c.deref-in-Holds.ensures c.in-Holds.ensures.value
    c.eval-in-Holds.ensures.value

pub eval_any-returns-in-Fails-clause-value : goal.eval_any-returns-in-Fails-clause-value
eval_any-returns-in-Fails-clause-value t c =
    pick_gives _ _ _ _ _ c.in-Pick.on_true.value c.in-Pick.on_false.value _ _ _ false c.eval_cond.new.steps _
    (ap expr_tree c.in-Pick.is) c.deref-in-Pick.ensures c.deref-in-Fails.ensures c.in-Fails.ensures.value
    c.eval-in-Fails.ensures.value

pub run_body-returns-clause-value : goal.run_body-returns-clause-value
run_body-returns-clause-value t c =
    function_gives (functions_of [] (map pure_tree c.args.earlier.now))
    (pure_tree c.args.pure.now) _ _ c.take_step.new.steps
    (view_reads c.plain_view-view.result) _ c.plain_view-view.ensures.reads c.in_ok-take_step.ensures.taken
    (c.eval.ensures.value ∙ same)
  where
    same : eval (view_functions c.plain_view-view.result)
        (view_reads c.plain_view-view.result) c.plain_view-view.result.line
        (expr_tree c.args.pure.now.body) c.take_step.new.steps
        ≡ eval (functions_of [] (map pure_tree c.args.earlier.now))
        (view_reads c.plain_view-view.result) c.args.pure.now.line
        (expr_tree c.args.pure.now.body) c.take_step.new.steps
    same = λ i. eval (functions_of [] (map pure_tree (c.plain_view-view.ensures.pures i)))
        (view_reads c.plain_view-view.result) (c.plain_view-view.ensures.line i)
        (expr_tree c.args.pure.now.body) c.take_step.new.steps

pub run_pure-run_body-requires : goal.run_pure-run_body-requires
run_pure-run_body-requires t c =
    let h : c.args.k < length c.args.pures.now = grind (arith, nat_tests) in
    let e : c.in-Some.pure.now ≡ get_or c.args.pures.now c.args.k c.in-Some.pure.now = c.in-Some.ensures.lookup.1 in
    let b : bodies (take c.args.k c.args.pures.now) + 8 * depth_of c.in-Some.pure.now.body + 2
    < bodies c.args.pures.now = bodies_at c.args.pures.now c.args.k c.in-Some.pure.now h e in (
      omega arith,
      (
        pures_take c.args.pures.now c.args.k c.requires.pures,
        pures_at c.args.pures.now c.args.k c.in-Some.pure.now h e c.requires.pures,
      ),
    )

pub run_pure-returns-in-Some-clause-value : goal.run_pure-returns-in-Some-clause-value
run_pure-returns-in-Some-clause-value t c =
    let h : c.args.k < length c.args.pures.now = grind (arith, nat_tests) in
    let e : c.in-Some.pure.now ≡ get_or c.args.pures.now c.args.k c.in-Some.pure.now = c.in-Some.ensures.lookup.1 in
    let f = function_there c.args.pures.now c.args.k c.in-Some.pure.now h e in
    c.run_body.ensures.value ∙ sym (ap (λ (g : Function). g c.args.values.now c.args.steps.now) f)

pub run_pure-returns-in-None-clause-value : goal.run_pure-returns-in-None-clause-value
run_pure-returns-in-None-clause-value t c =
    let h : length c.args.pures.now ≤ c.args.k = grind (arith, nat_tests) in
    sym (ap (λ (g : Function). g c.args.values.now c.args.steps.now) (function_past c.args.pures.now c.args.k h))

pub eval_cond-returns-in-Holds-clause-value : goal.eval_cond-returns-in-Holds-clause-value
eval_cond-returns-in-Holds-clause-value t c =
    both_goes_on _ _ _ _ _ _ c.in-Both.right.value _ _ c.eval_cond.new.steps _
    (ap cond_tree c.in-Both.is) c.deref.ensures c.deref-in-Holds.ensures c.in-Holds.ensures.value
    c.eval_cond-in-Holds.ensures.value

pub eval_cond-returns-in-Fails-eval_cond-clause-value : goal.eval_cond-returns-in-Fails-eval_cond-clause-value
eval_cond-returns-in-Fails-eval_cond-clause-value t c =
    either_goes_on _ _ _ _ _ _ c.in-Either.right.value _ _ c.eval_cond-in-Either.new.steps _
    (ap cond_tree c.in-Either.is) c.deref-in-Either.ensures c.deref-in-Fails-eval_cond.ensures
    c.in-Fails-eval_cond.ensures.value c.eval_cond-in-Fails-eval_cond.ensures.value

pub eval_cond-returns-in-Holds-eval_cond-2-clause-value : goal.eval_cond-returns-in-Holds-eval_cond-2-clause-value
eval_cond-returns-in-Holds-eval_cond-2-clause-value t c =
    negated_gives _ _ _ _ _ _ _ true c.eval_cond-in-Not.new.steps _ (ap cond_tree c.in-Not.is) c.deref-in-Not.ensures
    c.in-Holds-eval_cond-2.ensures.value refl

pub eval_cond-returns-in-Fails-eval_cond-2-clause-value : goal.eval_cond-returns-in-Fails-eval_cond-2-clause-value
eval_cond-returns-in-Fails-eval_cond-2-clause-value t c =
    negated_gives _ _ _ _ _ _ _ false c.eval_cond-in-Not.new.steps _ (ap cond_tree c.in-Not.is) c.deref-in-Not.ensures
    c.in-Fails-eval_cond-2.ensures.value refl
