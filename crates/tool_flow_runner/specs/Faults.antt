-- Errors of a stream as those of flows.
use Rattle.tool_stream.specs.declared.fault.StreamFault.{StreamFault}
use Rattle.tool_stream.specs.declared.fault.StreamFault.TheVariants as stream
use Rattle.tool_flow_runner.specs.declared.outcome.FlowStop.{FlowStop}
use Rattle.tool_flow_runner.specs.declared.outcome.FlowStop.TheVariants as stop
use Rattle.tool_flow_runner.specs.declared.outcome.FlowFault.{FlowFault}
use Rattle.tool_flow_runner.specs.declared.outcome.FlowFault.TheVariants as fault

-- the error of a walk over a trace
abbrev pub flow_fault : StreamFault FlowStop → FlowFault
flow_fault stream.Read = fault.Read
flow_fault stream.Put = fault.Put
flow_fault (stream.Line (stop.Bad bad)) = fault.Bad bad
flow_fault (stream.Line (stop.Stuck at)) = fault.Stuck at
