use Rattle.std.proofs.Common.{◌≡◌, ◌≤◌, ◌-◌, length, take}
use Rattle.tool_driver.specs.Shapes.{inputs_of}
use Rattle.tool_script_runner.specs.Walks.{inside, HasRoom, RunsThrough}
use Rattle.tool_script_runner.proofs.lines.answer_lines.Given as goal

-- the calls of the text up to here were answered
abbrev pub invariant-loop-there : goal.invariant-loop-there
invariant-loop-there g l = record {
  within : l.at ≤ length l.text;
  through : RunsThrough (take l.at l.text) l.counts (length (inputs_of l.fn.driver.shape)) l.fn.run.done l.run.done
      (inside l.fn.driver l.fn.run (g.S.Sink.bytes l.fn.sink)) (inside l.driver l.run (g.S.Sink.bytes l.sink));
  none : l.run.done ≡ l.fn.run.done → l.at ≡ 0;
  room : HasRoom l.run l.driver.shape;
  shape : l.driver.shape ≡ l.fn.driver.shape;
  calm : g.S.Sink.faults l.sink ≡ g.S.Sink.faults l.fn.sink;
}

abbrev pub decreases-loop-there : goal.decreases-loop-there
decreases-loop-there g l = length l.text - l.at
