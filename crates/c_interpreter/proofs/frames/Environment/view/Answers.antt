use Rattle.std.proofs.Common.{refl}
use Rattle.c_interpreter.specs.Frames.{tree_in}
use Rattle.c_interpreter.proofs.BodyReads.{frame_reads}
use Rattle.c_interpreter.proofs.frames.Environment.view.Goals as goal

pub returns-clause-reads : goal.returns-clause-reads
returns-clause-reads c =
    frame_reads (tree_in c.args.self.now.frame.now) _ _
    (record {
      pures = c.deref.result;
      layouts = c.layouts.result;
      slots = c.slots.result;
      numbers = c.args.self.now.numbers;
      values = c.args.self.now.frame.now.values;
      line = c.args.self.now.line;
    }) c.args.self.now.frame.now.of _ _ c.slots.ensures.ready
    c.layouts.ensures c.slots.ensures.slots refl refl
