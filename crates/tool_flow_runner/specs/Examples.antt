-- Worked traces.
use Rattle.std.specs.Prelude.{◌≡◌, refl, Some, codes}
use Rattle.std.specs.Fmt.{digits}
use Rattle.lustre_flows.specs.FlowExamples.{crossed}
use Rattle.tool_traces.specs.declared.rows.BadWhy.TheVariants.{Range}
use Rattle.tool_flow_runner.specs.FlowTraces.{flow_rows, flow_bad_line, flow_lines}

-- a file whose output is its input, over a trace with the greatest number
pub echoed : flow_lines crossed (flow_rows crossed (codes "5\n-7\n4294967295"))
    ≡ codes "5\n-7\n4294967295\n"
unfolding digits
echoed = refl

-- a second line with a greater one
pub second_bad : flow_bad_line crossed (codes "5\n4294967296\n6\n")
    ≡ Some (record { line = 2; why = Range 1 })
second_bad = refl

pub before_bad : flow_lines crossed (flow_rows crossed (codes "5\n4294967296\n6\n")) ≡ codes "5\n"
unfolding digits
before_bad = refl
