use Rattle.std.proofs.Common.{◌≡◌, ◌≤◌, ◌-◌, length}
use Rattle.tool_stream.specs.Walks.{place, WalksUpTo}
use Rattle.tool_stream.proofs.lines.walk_whole.Given as goal

-- the text up to here was walked over
abbrev pub invariant-loop-start : goal.invariant-loop-start
invariant-loop-start g l = record {
  up_to : WalksUpTo g.W.LineWalk.steps (λ a. g.W.LineWalk.said a.0) l.at l.text
      (place (l.fn.walk, l.fn.machine) (g.S.Sink.bytes l.fn.sink) l.fn.waiting)
      (place (l.walk, l.machine) (g.S.Sink.bytes l.sink) l.waiting);
  within : l.at ≤ length l.text;
  ready : g.W.LineWalk.ready (l.walk, l.machine);
  later : g.W.LineWalk.count l.fn.walk ≤ g.W.LineWalk.count l.walk;
  few : g.W.LineWalk.count l.walk ≤ 4294967295;
  none : g.W.LineWalk.count l.walk ≡ g.W.LineWalk.count l.fn.walk → l.at ≡ 0;
  calm : g.S.Sink.faults l.sink ≡ g.S.Sink.faults l.fn.sink;
}

abbrev pub decreases-loop-start : goal.decreases-loop-start
decreases-loop-start g l = length l.text - l.at
