use Rattle.std.proofs.Common.{ap, arith, rules, SFits, w64}
use Rattle.std.proofs.Math.ListN.{set}
use Rattle.std.proofs.lemmas.Int.{to_z-of_z}
use Rattle.c_interpreter.proofs.Narrow.{exprs_here}
use Rattle.c_interpreter.proofs.Evaluations.{narrow_more}
use Rattle.c_interpreter.proofs.BodyReads.{arguments_more, arguments_stop}
use Rattle.std.proofs.lemmas.Grind.{common_steps}
use Rattle.c_interpreter.proofs.frames.Environment.put_arguments.Goals as goal

pub argument-requires : goal.argument-requires
argument-requires c =
    record {
      narrow = exprs_here c.args.values.now c.loop-i.i c.index-values-i.result
          (omega arith) c.index-values-i.is c.loop-i.invariant.narrow;
    }

pub loop-i-preserved : goal.loop-i-preserved
loop-i-preserved c =
    let f : SFits w64 c.in_ok-out.field-0 = search rules in
    record {
      narrow = narrow_more c.args.values.now c.loop-i.i (omega arith) c.loop-i.invariant.narrow;
      later = search rules;
      value = arguments_more _ _ _ c.args.steps.now _ _ _ c.args.params.now c.args.values.now c.loop-i.i
          c.index-params-i.result _ c.loop-i.out _ _ (omega arith) (omega arith)
          (omega arith) c.index-params-i.is c.index-values-i.is
          (ap (set c.loop-i.out c.loop-i.i) (to_z-of_z w64 c.in_ok-out.field-0 f)) c.in_ok-out.ensures.value
          c.loop-i.invariant.value;
    }

pub returns-in_err-out-clause-value : goal.returns-in_err-out-clause-value
returns-in_err-out-clause-value c =
    grind (
      arith,
      common_steps,
      arguments_stop _ _ _ _ _ c.args.params.now c.args.values.now c.loop-i.i c.index-params-i.result
          c.index-values-i.result c.loop-i.out _ (omega arith) (omega arith) c.index-params-i.is c.index-values-i.is
          c.in_err-out.ensures.value c.loop-i.invariant.value,
    )
