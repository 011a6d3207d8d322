use Rattle.tool_entry.proofs.SureCalls.{surely_done}
use Rattle.tool_entry.proofs.running.run_tool.Goals as goal

pub returns-clause-call : goal.returns-clause-call
returns-clause-call g c = let ended = c.run.ensures.ended in record {
  right = c.endings_do_right.ensures _ _ _ _ _ _ ended;
  ended = ended;
  status = record {
    usage = c.usage_is_exact.ensures _ _ _ _ _ _ ended;
    comes = c.statuses_are_exact.ensures _ _ _ _ _ _ ended;
    each = c.each_status_is_exact.ensures _ _ _ _ _ _ ended;
    errors = c.faults_are_counted.ensures _ _ _ _ _ _ ended;
  };
  others = record {
    unwritten = c.nothing_is_written.ensures _ _ _ _ _ _ ended;
    counts = c.faultless_is_calm.ensures _ _ _ _ _ _ ended;
  };
  complete = c.endings_are_complete.ensures _ _ _ _ _ _ ended;
}

pub returns-clause-sure : goal.returns-clause-sure
returns-clause-sure g c = record {
  done =
      surely_done g.H.Host.files g.H.Host.sure c.args.host.now c.sure_are_done.ensures _ _ _ _ _ _ c.run.ensures.ended
      c.run.ensures.unsure;
  unsure = c.run.ensures.unsure;
}
