-- The shape of a system is within a driver's limits.
use Rattle.std.specs.Prelude.{◌≡◌, ℕ, ◌^◌, ◌<◌, ◌≤◌, List, [], ◌∷◌, map, Contains, refl}
use Rattle.std.proofs.Common.{sym, ap, subst, ◌∙◌, arith}
use Rattle.std.proofs.lemmas.List.{length-map}
use Rattle.base_core.specs.declared.Control.{Control}
use Rattle.base_core.specs.declared.Control.TheVariants.{Plain, Enabled, Triggered, Both}
use Rattle.base_core.specs.declared.Port.{Port}
use Rattle.base_fixed_point.specs.declared.FixType.{FixType}
use Rattle.base_core.specs.Interface.{different}
use Rattle.base_core.specs.Ports.{control_ports, ports_in, ports_mask, AreControls}
use Rattle.diagram_meaning.specs.Rows.{outports_of, system_control}
use Rattle.diagram_blocks.specs.Kinds.{is_inport, is_outport}
use Rattle.diagram_meaning.specs.WellFormed.{HasPorts}
use Rattle.modules_profile.specs.Functions.{function_for}
use Rattle.modules_profile.proofs.lemmas.PortRows.{few-ports}
use Rattle.emit_shape.specs.Names.{value_name}
use Rattle.tool_driver.specs.Drivable.{IsFunctionOf, IsShape}
use Rattle.tool_driver.specs.Driven.{Driven, shape_of}
use Rattle.tool_driver.specs.Shapes.{Shape}
use Rattle.right_driving.proofs.InputTypes.{type_of, controls, count-inputs, ports-are}
use Rattle.right_driving.proofs.Lists.{all-mapped}
use Rattle.right_driving.proofs.NeedSets.{of-different, own-needs, outputs-below, needs-counted, few-functions}

control-ports-are : (control : Control) → AreControls (control_ports control)
control-ports-are Plain = tt
control-ports-are (Enabled reset) = tt
control-ports-are (Triggered edge) = tt
control-ports-are (Both reset edge) = tt

map-same : (ports : List Port) (of : Port → FixType) → map (λ (c : Port × FixType). c.0) (map (λ p. (p, of p)) ports) ≡ ports
map-same [] of = refl
map-same (p ∷ ports) of = ap (λ ps. p ∷ ps) (map-same ports of)

module _ (w : Driven) (inports : HasPorts w.diagram.rows is_inport w.system) (outports : HasPorts w.diagram.rows is_outport w.system) where
  abbrev shape : Shape
  shape = shape_of w

  function-is : (mask : ℕ) → Contains (different w.needs) mask → IsFunctionOf shape (function_for w.needs mask)
  function-is mask has = record {
    inputs = ap (λ ps. ports_mask (ports_in mask ps)) (ports-are w)
        ∙ own-needs w.diagram w.system inports (outports_of w.diagram.rows w.system) w.needs w.are_needs mask
        (of-different w.needs mask has);
    outputs = subst (λ n. (function_for w.needs mask).outputs < 2 ^ n)
        (sym (length-map (outports_of w.diagram.rows w.system) value_name ∙ needs-counted w.diagram w.system w.needs w.are_needs))
        (outputs-below w.needs mask);
  }

  pub within-limits : 0 < w.hyper → w.hyper ≤ 2 ^ 30 → IsShape shape
  within-limits some few = record {
    functions = few-functions w.diagram w.system w.needs outports w.are_needs;
    inputs = subst (λ n. n ≤ 32) (sym (count-inputs w)) (few-ports w.diagram.rows w.system is_inport inports);
    controls = subst AreControls (sym (map-same (controls w) (type_of w))) (control-ports-are (system_control w.diagram.rows w.system));
    outputs = subst (λ n. n ≤ 32) (sym (length-map (outports_of w.diagram.rows w.system) value_name))
        (few-ports w.diagram.rows w.system is_outport outports);
    each_function = all-mapped (IsFunctionOf shape) (function_for w.needs) (different w.needs) function-is;
    some_ticks = omega (arith, some);
    few_ticks = few;
  }
