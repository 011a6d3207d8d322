-- The instance of each system is found from the root's, field by field.
use Rattle.std.specs.Prelude.{◌≡◌, ℕ, zero, suc, ◌<◌, Bool, true, List, [], ◌∷◌, length, Contains, Option, Some, None, option_and_then, refl}
use Rattle.std.proofs.Common.{sym, ap, ◌∙◌, arith}
use Rattle.std.proofs.lemmas.List.Sorted.{Contains-permutation}
use Rattle.std.proofs.lemmas.List.Elements.{Contains-append_right}
use Rattle.diagram_meaning.specs.declared.table.Row.{Row}
use Rattle.diagram_meaning.specs.Diagram.{Diagram}
use Rattle.diagram_meaning.specs.Rows.{row_at}
use Rattle.diagram_blocks.specs.Kinds.{is_subsystem}
use Rattle.diagram_meaning.specs.WellFormed.{IsNested}
use Rattle.modules_profile.specs.Systems.{system_name, systems}
use Rattle.modules_profile.proofs.lemmas.Members.{in-first, in-rest}
use Rattle.modules_profile.proofs.lemmas.PortRows.{in-subsystems}
use Rattle.c_syntax.specs.Tree.{ProgramTree}
use Rattle.c_syntax.specs.Lawful.{IsLawful}
use Rattle.c_syntax.specs.RootFields.{root_struct}
use Rattle.c_interpreter.specs.Instances.{StructInstance, whole_instance, instance_at, child_named}
use Rattle.emit_shape.specs.CodeNames.{NamedField, named_fields}
use Rattle.c_syntax.specs.Kinds.{struct_kind}
use Rattle.emit_shape.specs.Names.{child_name}
use Rattle.emit_shape.specs.ProgramShape.{HasShape, HasSystemShape}
use Rattle.emit_shape.specs.Programs.{names_in, struct_at, struct_place}
use Rattle.emit_shape.specs.RootCode.{root_fields_of}
use Rattle.right_claim.specs.Paths.{path_to}
use Rattle.right_driving.specs.Found.{system_instance, IsChildAnswer, IsFound, way_to, instance_behind, InstancesAreFound}
use Rattle.right_driving.proofs.FirstInstance.{first-is-root}
use Rattle.right_driving.proofs.Lists.{member-holds}
use Rattle.right_driving.proofs.NamedFields.{child-field}
use Rattle.right_driving.proofs.SystemPaths.{way-top, path-top, way-inner, path-inner, one-behind}
use Rattle.right_driving.proofs.SystemRows.{IsBelow, all-below, owner-in, owner-below}
use Rattle.right_driving.proofs.SystemSlots.{child-declared}

-- an answer that is the instance of a system is its number
found-by : (p : ProgramTree) (rows : List Row) (s : Option ℕ) (child : Option ℕ) →
    option_and_then (instance_at p) child ≡ Some (system_instance p rows s) → IsFound p rows s child
found-by p rows s None is = absurd (let wrong : ⊥ = cc is in wrong)
found-by p rows s (Some number) is = record { number = number; there = refl; of_system = is }

-- what a field holds, in an instance of this struct at this path
answered : (p : ProgramTree) (rows : List Row) (s : Option ℕ) (name : List ℕ) (number : ℕ) (from : StructInstance) (child : Option ℕ) →
    instance_at p number ≡ Some from → child_named p name from ≡ Some (system_instance p rows s) →
    IsChildAnswer p number name child → IsFound p rows s child
answered p rows s name number from child at held answer =
    found-by p rows s child (answer ∙ ap (option_and_then (child_named p name)) at ∙ held)

module _ (p : ProgramTree) (d : Diagram) (delays : List Bool) (hyper : ℕ) (lawful : IsLawful p) (shape : HasShape p d delays hyper) where
  top-declared : Contains (named_fields (names_in p (root_struct p)) (struct_at p (root_struct p)).fields)
      (record { name = system_name None; kind = struct_kind (system_name None) })
  top-declared =
      let field : NamedField = record { name = system_name None; kind = struct_kind (system_name None) } in
      Contains-permutation (root_fields_of d) _ field shape.root.fields
      (in-rest _ field _ (Contains-append_right _ (field ∷ []) field (in-first field [])))

  -- the root's instance holds that of `top`
  top-held : child_named p (system_name None) (whole_instance (root_struct p)) ≡ Some (system_instance p d.rows None)
  top-held =
      child-field p (root_struct p) lawful None [] top-declared
      ∙ ap (λ path. Some (record { path = path; struct = struct_place p None })) (sym (path-top d.rows p))

  module _ (nested : IsNested d.rows) where
    -- a system's instance holds those of the subsystems in it
    child-held : (e : ℕ) → e < length d.rows → is_subsystem (row_at d.rows e).kind ≡ true →
        child_named p (child_name e) (system_instance p d.rows (row_at d.rows e).owner) ≡ Some (system_instance p d.rows (Some e))
    child-held e below subsystem =
        let s : Option ℕ = (row_at d.rows e).owner in
        let system = member-holds (HasSystemShape p d delays) (systems d.rows) s shape.each (owner-in d.rows nested e below) in
        child-field p (struct_place p s) lawful (Some e) (path_to p d.rows s)
        (child-declared p d delays s system e (in-subsystems d.rows s e below refl subsystem))
        ∙ ap (λ path. Some (record { path = path; struct = struct_place p (Some e) })) (sym (path-inner d.rows nested e below p))

    top-behind : instance_behind p (instance_at p 0) (way_to d.rows None) ≡ Some (system_instance p d.rows None)
    top-behind =
        ap (instance_behind p (instance_at p 0)) (way-top d.rows)
        ∙ ap (option_and_then (child_named p (system_name None))) (first-is-root p lawful) ∙ top-held

    all-behind : (bound : ℕ) (s : Option ℕ) → IsBelow d.rows bound s →
        instance_behind p (instance_at p 0) (way_to d.rows s) ≡ Some (system_instance p d.rows s)
    all-behind bound None is = top-behind
    all-behind zero (Some e) is = absurd (let none = is.0 in omega (arith, none))
    all-behind (suc bound) (Some e) (few, (below, subsystem)) =
        ap (instance_behind p (instance_at p 0)) (way-inner d.rows nested e below)
        ∙ one-behind p (instance_at p 0) (way_to d.rows (row_at d.rows e).owner) (child_name e)
        ∙ ap (option_and_then (child_named p (child_name e)))
        (all-behind bound (row_at d.rows e).owner (owner-below d.rows nested bound e few below))
        ∙ child-held e below subsystem

pub instances_are_found : InstancesAreFound
instances_are_found = record {
  top = λ p d delays hyper child lawful shape answer.
      answered p d.rows None (system_name None) 0 (whole_instance (root_struct p)) child (first-is-root p lawful)
      (top-held p d delays hyper lawful shape) answer;
  inside = λ p d delays hyper e number child lawful shape nested below subsystem at answer.
      answered p d.rows (Some e) (child_name e) number (system_instance p d.rows (row_at d.rows e).owner) child at
      (child-held p d delays hyper lawful shape nested e below subsystem) answer;
  behind = λ p d delays hyper s lawful shape nested has.
      all-behind p d delays hyper lawful shape nested (length d.rows) s (all-below d.rows s has);
}
