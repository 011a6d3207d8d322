use Rattle.std.proofs.Common.{sym}
use Rattle.c_syntax.specs.Plain.{cond_tree}
use Rattle.emit_fused.proofs.TurnedLists.{not-one}
use Rattle.emit_fused.proofs.choosing.is_decided.Goals as goal

pub returns-then-ss-ne1 : goal.returns-then-ss-ne1
returns-then-ss-ne1 c = sym (not-one (cond_tree c.args.test.now) c.args.ss.now c.if-ss-ne1.true)
