-- The equations of a system's states: what its trigger remembers, whether it is active, and whether
-- it is reset.
use Rattle.std.specs.Prelude.{ℕ, List, [], ◌∷◌, ◌++◌, Option, pos}
use Rattle.diagram_meaning.specs.Diagram.{Diagram}
use Rattle.emit_shape.specs.Names.{trigger_name}
use Rattle.lustre_syntax.specs.declared.LusOp.TheVariants.{Gt}
use Rattle.lustre_syntax.specs.Tree.{ExprTree, number, two, choice, previous, set}
use Rattle.lustre_syntax.specs.Named.{NamedEquation}
use Rattle.lustre_system.specs.Names.{active_name, reset_name}
use Rattle.lustre_system.specs.RowEquations.{only_if}
use Rattle.lustre_system.specs.SystemNodes.{has_trigger, trigger_memory, active_value, reset_value}

-- the level of the trigger of a place at the tick before: 1 low, 2 high
abbrev pub level_before : ℕ → ExprTree
level_before trigger =
    choice (two Gt (previous trigger) (number (pos 0))) (number (pos 2)) (number (pos 1))

module _ (d : Diagram) (s : Option ℕ) where
  -- what the trigger remembers, where there is one
  abbrev pub trigger_equations : List NamedEquation
  trigger_equations = only_if (has_trigger d s) (set 0 trigger_name (trigger_memory d s) ∷ [])

  abbrev pub state_equations : List NamedEquation
  state_equations =
      trigger_equations
      ++ set 0 active_name (active_value d s) ∷ set 0 reset_name (reset_value d s) ∷ []
