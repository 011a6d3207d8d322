use Rattle.std.proofs.Common.{arith, rules, ◌∙◌, SFits, w64}
use Rattle.std.proofs.lemmas.Int.{to_z-of_z}
use Rattle.c_interpreter.proofs.RootLaws.{put_more}
use Rattle.c_interpreter.proofs.roots.put_outputs.Goals as goal

pub loop-i-preserved : goal.loop-i-preserved
loop-i-preserved c =
    let f : SFits w64 c.output.result = search rules in
    put_more c.args.numbers.now c.args.slots.now c.args.fields.now c.loop-i.out c.loop-i.i _ (omega arith) (omega arith)
    (to_z-of_z w64 c.output.result f ∙ c.output.ensures) c.loop-i.invariant
