-- What a driver knows of a system of a model.
use Rattle.std.specs.Prelude.{◌≡◌, ℕ, List, length, map, Option}
use Rattle.std.specs.List.{range_with_len}
use Rattle.base_core.specs.declared.Port.TheVariants.{Number}
use Rattle.diagram_meaning.specs.Diagram.{Diagram}
use Rattle.base_core.specs.Ports.{control_ports}
use Rattle.diagram_meaning.specs.Needs.{AreTrueNeeds}
use Rattle.diagram_meaning.specs.ResolvedTable.{ResolvedTable, diagram_of_table}
use Rattle.diagram_meaning.specs.Rows.{inports_of, outports_of, system_control}
use Rattle.diagram_meaning.specs.Traces.{input_type_of}
use Rattle.modules_profile.specs.declared.profile.Function.{Function}
use Rattle.modules_profile.specs.Functions.{functions_for}
use Rattle.modules_profile.specs.Systems.{system_name}
use Rattle.emit_shape.specs.Names.{value_name}
use Rattle.tool_driver.specs.Driven.{Driven, shape_of}
use Rattle.tool_driver.specs.Shapes.{Shape}

-- the shape of a system of a diagram, by its functions
abbrev pub shape_with : Diagram → ℕ → Option ℕ → List Function → Shape
shape_with d hyper s functions = record {
  name = system_name s;
  functions = functions;
  inputs =
      map (λ k. input_type_of d s (Number k)) (range_with_len 1 (length (inports_of d.rows s)));
  controls = map (λ p. (p, input_type_of d s p)) (control_ports (system_control d.rows s));
  outputs = map value_name (outports_of d.rows s);
  hyper = hyper;
}

-- it is the shape of the system, which has the functions for what its outputs need
pub record IsShapeOf (r : ResolvedTable) (s : Option ℕ) (shape : Shape) : Type 0 where
  pub needs : List ℕ
  pub are_needs : AreTrueNeeds (diagram_of_table r) s needs
  pub is : shape ≡ shape_with (diagram_of_table r) r.times.hyper s (functions_for needs)

-- what is driven is this system of the model
pub record IsSystemOfModel (r : ResolvedTable) (s : Option ℕ) (w : Driven) : Type 0 where
  pub diagram : w.diagram ≡ diagram_of_table r
  pub hyper : w.hyper ≡ r.times.hyper
  pub system : w.system ≡ s

-- A system of a model has one shape, and what is driven as the system has that.
pub record ShapesAreOne : Type 0 where
  pub one : (r : ResolvedTable) (s : Option ℕ) (shape other : Shape) → IsShapeOf r s shape →
      IsShapeOf r s other → shape ≡ other
  pub of_driven : (r : ResolvedTable) (s : Option ℕ) (w : Driven) → IsSystemOfModel r s w →
      IsShapeOf r s (shape_of w)
