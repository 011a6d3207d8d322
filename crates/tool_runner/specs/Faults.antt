-- Errors of a stream as those of a run.
use Rattle.tool_stream.specs.declared.fault.StreamFault.{StreamFault}
use Rattle.tool_stream.specs.declared.fault.StreamFault.TheVariants as stream
use Rattle.tool_runner.specs.declared.outcome.RunStop.{RunStop}
use Rattle.tool_runner.specs.declared.outcome.RunStop.TheVariants as stop
use Rattle.tool_runner.specs.declared.outcome.RunFault.{RunFault}
use Rattle.tool_runner.specs.declared.outcome.RunFault.TheVariants as fault

-- the error of a walk over a trace
abbrev pub run_fault : StreamFault RunStop → RunFault
run_fault stream.Read = fault.Read
run_fault stream.Put = fault.Out
run_fault (stream.Line (stop.Trace bad)) = fault.Trace bad
run_fault (stream.Line (stop.Stuck at)) = fault.Stuck at
