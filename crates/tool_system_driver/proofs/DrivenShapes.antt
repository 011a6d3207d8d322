-- Two descriptions of a system are one.
use Rattle.std.specs.Prelude.{◌≡◌, refl, ℕ, Option, List, Contains, Some}
use Rattle.std.proofs.Common.{sym, ap, ◌∙◌, subst}
use Rattle.diagram_meaning.specs.Diagram.{Diagram}
use Rattle.diagram_meaning.specs.Needs.{AreTrueNeeds}
use Rattle.diagram_meaning.specs.ResolvedTable.{ResolvedTable, diagram_of_table}
use Rattle.modules_profile.specs.Functions.{functions_for}
use Rattle.modules_profile.specs.NodeFacts.{ProfilesAreOne}
use Rattle.modules_profile.specs.SystemProfile.{SystemProfile}
use Rattle.modules_profile.specs.Systems.{systems}
use Rattle.c_syntax.specs.Tree.{ProgramTree}
use Rattle.c_interpreter.specs.Instances.{instance_at}
use Rattle.c_interpreter.specs.Machines.{IsStarted}
use Rattle.c_interpreter.specs.States.{MachineState, tree_of}
use Rattle.right_driving.specs.DrivenMachines.{MachinesCanBeDriven}
use Rattle.right_driving.specs.Found.{IsInstanceOf, system_instance}
use Rattle.tool_driver.specs.Drivable.{IsDrivable}
use Rattle.tool_driver.specs.Driven.{Driven, shape_of, functions_of, IsReadyFor}
use Rattle.tool_driver.specs.Shapes.{Shape}
use Rattle.tool_system_driver.specs.Driving.{IsMachineOf, IsDrivenIn}
use Rattle.tool_system_driver.specs.SystemShapes.{shape_with, IsShapeOf, IsSystemOfModel, ShapesAreOne}

-- outputs that need the same have the same functions
same-functions : ProfilesAreOne → (d : Diagram) (s : Option ℕ) (needs others : List ℕ) → AreTrueNeeds d s needs → AreTrueNeeds d s others →
    functions_for needs ≡ functions_for others
same-functions one d s needs others are also =
    ap (λ (p : SystemProfile). p.functions)
    (one d s (record { row = s; functions = functions_for needs }) (record { row = s; functions = functions_for others })
    (record { needs = needs; are_needs = are; row = refl; functions = refl })
    (record { needs = others; are_needs = also; row = refl; functions = refl }))

shape-one : ProfilesAreOne → (r : ResolvedTable) (s : Option ℕ) (shape other : Shape) → IsShapeOf r s shape → IsShapeOf r s other →
    shape ≡ other
shape-one one r s shape other is also =
    is.is
    ∙ ap (shape_with (diagram_of_table r) r.times.hyper s)
    (same-functions one (diagram_of_table r) s is.needs also.needs is.are_needs also.are_needs)
    ∙ sym also.is

-- what is driven as a system has a shape of the system
driven-shape : (r : ResolvedTable) (s : Option ℕ) (w : Driven) → IsSystemOfModel r s w → IsShapeOf r s (shape_of w)
driven-shape r s w same = record {
  needs = w.needs;
  are_needs =
      subst (λ (o : Option ℕ). AreTrueNeeds (diagram_of_table r) o w.needs) same.system
      (subst (λ (d : Diagram). AreTrueNeeds d w.system w.needs) same.diagram w.are_needs);
  is = λ i. shape_with (same.diagram i) (same.hyper i) (same.system i) (functions_of w);
}

pub shapes_are_one : ProfilesAreOne → ShapesAreOne
shapes_are_one one = record { one = shape-one one; of_driven = driven-shape }

-- the shape of a system is that of what is driven
pub shape-driven : ProfilesAreOne → (r : ResolvedTable) (s : Option ℕ) (shape : Shape) (w : Driven) → IsShapeOf r s shape →
    IsSystemOfModel r s w → shape ≡ shape_of w
shape-driven one r s shape w is same = shape-one one r s shape (shape_of w) is (driven-shape r s w same)

module _ (laws : MachinesCanBeDriven) (m : MachineState) (r : ResolvedTable) (s : Option ℕ) (of : IsMachineOf m r)
    (has : Contains (systems r.table.rows) s) (number : ℕ) (shape : Shape) (instance : IsInstanceOf (tree_of m) r.table.rows s number) where
  -- the instance of a system can be driven by its shape
  pub drivable : IsShapeOf r s shape → IsDrivable (tree_of m) number shape
  drivable is =
      subst (IsDrivable (tree_of m) number) (sym is.is)
      (laws.drivable m of.bytes r s is.needs number of.of_right (record { in_model = has; are_needs = is.are_needs }) instance)

  started : IsStarted of.of_right.program m
  started = of.of_right.started

  -- and is ready for all that is driven as this system in the machine's program
  pub ready : (w : Driven) → IsDrivenIn m r s w → shape ≡ shape_of w → IsReadyFor w m number shape
  ready w is same = record {
    started = record { same = refl; after = started.after; run = started.run; cells = started.cells };
    program = sym is.program;
    shape_is = same;
    instance_is = ap (λ (p : ProgramTree). instance_at p number) is.program ∙ instance
        ∙ (λ i. Some (system_instance (sym is.program i) (sym is.of_model.diagram i).rows (sym is.of_model.system i)));
  }
