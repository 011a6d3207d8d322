-- The equations of the node of a system agree in types and can be written.
use Rattle.std.proofs.Common.{refl, subst, ℕ, List, [], ◌∷◌, ◌++◌, length, map, Option, arith}
use Rattle.std.specs.List.{AllByRecursion, flat_map}
use Rattle.std.proofs.lemmas.List.{length-map}
use Rattle.diagram_blocks.specs.Kinds.{is_subsystem, is_delay}
use Rattle.diagram_blocks.specs.Meaning.{has_value}
use Rattle.diagram_meaning.specs.Rows.{row_at, rows_of}
use Rattle.diagram_meaning.specs.Diagram.{Diagram, op_at}
use Rattle.diagram_meaning.specs.ResolvedTree.{ResolvedTree, IsResolvedTree, diagram_of}
use Rattle.diagram_meaning.specs.SystemRuns.{IsRowOf}
use Rattle.emit_shape.specs.Names.{trigger_name}
use Rattle.lustre_syntax.specs.Tree.{int, bool, Declared, NodeTree, EquationTree, set, expressions_of}
use Rattle.lustre_syntax.specs.Named.{NamedEquation, renamed_equation, place_of, all_names, placed_node}
use Rattle.lustre_syntax.specs.Lawful.{AreDistinct, Agrees, IsWritable}
use Rattle.lustre_system.specs.Names.{active_name, reset_name}
use Rattle.lustre_system.specs.RowEquations.{only_if, memory_equations, value_equations, child_equations, row_equations}
use Rattle.lustre_system.specs.SystemNodes.{active_value, reset_value, trigger_memory, has_trigger, system_equations, system_node}
use Rattle.lustre_rows.proofs.lemmas.Lists.{all-after, all-map, all-joined, all-only, own-rows, all-mapped}
use Rattle.lustre_right.specs.Systems.{system_texts, place_in}
use Rattle.lustre_right.specs.NodeLaws.{CalleesAreThere, SystemsAreTyped}
use Rattle.lustre_typed.proofs.Activity.{active-typed, reset-typed, trigger-typed}
use Rattle.lustre_typed.proofs.Children.{child-sound}
use Rattle.lustre_typed.proofs.LawsOfRows.{Laws}
use Rattle.lustre_typed.proofs.Names.{types, active-holds, reset-holds, trigger-holds}
use Rattle.lustre_typed.proofs.RowValues.{value-sound}
use Rattle.lustre_typed.proofs.Samples.{memory-sound}
use Rattle.lustre_typed.proofs.Sound.{IsSound, sound-agrees, sound-writable}
use Rattle.lustre_typed.proofs.Typed.{deeper}

module _ (laws : Laws) (r : ResolvedTree) (s : Option ℕ) (callees : List (List ℕ)) (earlier : List NodeTree) (resolved : IsResolvedTree r)
    (distinct : AreDistinct (system_texts (diagram_of r) s)) (there : CalleesAreThere (diagram_of r) s callees earlier) where
  abbrev d : Diagram
  d = diagram_of r

  abbrev place : List ℕ → ℕ
  place = place_in d s

  abbrev callee : List ℕ → ℕ
  callee = place_of callees

  abbrev Sound : NamedEquation → Type 0
  Sound = IsSound (types d s) place callee earlier

  trigger-sound : AllByRecursion Sound (only_if (has_trigger d s) (set 0 trigger_name (trigger_memory d s) ∷ []))
  trigger-sound =
      all-only Sound (has_trigger d s) (set 0 trigger_name (trigger_memory d s) ∷ [])
      (λ is. (
        (
          int,
          trigger-holds d s distinct is,
          deeper (types d s) place (trigger_memory d s) int 6 100 (omega arith) (trigger-typed d s distinct is),
        ),
        tt,
      ))

  row-sound : (b : ℕ) → IsRowOf d.rows s b → AllByRecursion Sound (row_equations d s b)
  row-sound b row =
      let memories = only_if (is_delay (op_at d b)) (memory_equations d s b) in
      let own = only_if (has_value (row_at d.rows b).kind) (value_equations d s b) in
      all-after Sound (memories ++ own) (only_if (is_subsystem (row_at d.rows b).kind) (child_equations d s b))
      (all-after Sound memories own
      (all-only Sound (is_delay (op_at d b)) (memory_equations d s b)
      (memory-sound laws r resolved s distinct callee earlier b row))
      (all-only Sound (has_value (row_at d.rows b).kind) (value_equations d s b)
      (value-sound laws r resolved s distinct callee earlier there.functions b row)))
      (all-only Sound (is_subsystem (row_at d.rows b).kind) (child_equations d s b)
      (λ is. child-sound r resolved s distinct callees callee earlier b row is (there.children b row is)))

  all-sound : AllByRecursion Sound (system_equations d s)
  all-sound =
      all-after Sound (only_if (has_trigger d s) (set 0 trigger_name (trigger_memory d s) ∷ []))
      (set 0 active_name (active_value d s) ∷ set 0 reset_name (reset_value d s) ∷ flat_map (row_equations d s) (rows_of d.rows s))
      trigger-sound (
        (
          bool,
          active-holds d s distinct,
          deeper (types d s) place (active_value d s) bool 11 100 (omega arith) (active-typed d s distinct),
        ),
        (
          (
            bool,
            reset-holds d s distinct,
            deeper (types d s) place (reset_value d s) bool 12 100 (omega arith) (reset-typed d s distinct),
          ),
          all-joined Sound (row_equations d s) (rows_of d.rows s)
              (all-map (IsRowOf d.rows s) (λ b. AllByRecursion Sound (row_equations d s b)) row-sound (rows_of d.rows s)
              (own-rows d.rows s)),
        ),
      )

  abbrev node : NodeTree
  node = placed_node callees (system_node d s)

  abbrev placed : NamedEquation → EquationTree
  placed e = renamed_equation place callee e

  pub agree : AllByRecursion (Agrees earlier node) (map placed (system_equations d s))
  agree =
      all-mapped (Agrees earlier node) placed (system_equations d s)
      (all-map Sound (λ e. Agrees earlier node (placed e)) (sound-agrees (types d s) place callee earlier node refl)
      (system_equations d s) all-sound)

  abbrev Writable : ℕ → EquationTree → Type 0
  Writable n e = AllByRecursion (IsWritable n) (expressions_of e)

  pub written : AllByRecursion (Writable (length node.names)) (map placed (system_equations d s))
  written =
      subst (λ n. AllByRecursion (Writable n) (map placed (system_equations d s)))
      (length-map (all_names (system_node d s)) (λ (x : Declared). x.type))
      (all-mapped (Writable (length (types d s))) placed (system_equations d s)
      (all-map Sound (λ e. Writable (length (types d s)) (placed e)) (sound-writable (types d s) place callee earlier)
      (system_equations d s) all-sound))

pub systems_are_typed : Laws → SystemsAreTyped
systems_are_typed laws r s callees earlier resolved short system distinct there =
    (agree laws r s callees earlier resolved distinct there, written laws r s callees earlier resolved distinct there)
