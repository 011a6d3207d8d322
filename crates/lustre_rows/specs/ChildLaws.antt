-- The call for a child gives it what it reads in the run of the diagram.
use Rattle.std.specs.Prelude.{◌≡◌, ℕ, ◌%◌, true, List, ◌∷◌, ◌++◌, map, Option, Some, ℤ, pos}
use Rattle.std.specs.List.{AllByRecursion}
use Rattle.diagram_blocks.specs.Kinds.{is_subsystem, is_inport, is_outport}
use Rattle.diagram_meaning.specs.declared.Row.{Row}
use Rattle.diagram_meaning.specs.Rows.{row_at, outports_of}
use Rattle.diagram_meaning.specs.WellFormed.{IsWired, HasPorts}
use Rattle.diagram_meaning.specs.Diagram.{Diagram}
use Rattle.diagram_meaning.specs.SystemRuns.{SystemTick, IsRowOf, MeetsParent}
use Rattle.modules_profile.specs.Systems.{system_name}
use Rattle.lustre_syntax.specs.Tree.{set, call}
use Rattle.lustre_syntax.specs.Named.{NamedEquation, renamed}
use Rattle.lustre_flows.specs.Values.{value_at, value_of, number_of, evaluate}
use Rattle.lustre_system.specs.RowEquations.{child_equations}
use Rattle.lustre_rows.specs.EquationLaws.{IsNamedTick}

-- the inputs of a node at a tick: the tick in its cycle, whether the system around it is active and
-- one around it off, and what enters the system
abbrev pub node_inputs : ℕ → SystemTick → List ℤ
node_inputs hyper m =
    pos (m.t % hyper) ∷ number_of m.parent ∷ number_of m.is_off_around ∷ m.inputs ++ m.controls

-- a call is of the node of a child, its arguments have what that reads, and its names what the
-- child's Outports have
abbrev pub CallsChild : Diagram → ℕ → Option (List (Option ℤ)) → List (Option ℤ) → (List ℕ → ℕ) →
    (e : ℕ) → SystemTick → NamedEquation → Type 0
CallsChild d hyper before values place e inner (set line text x) = ⊥
CallsChild d hyper before values place e inner (call line texts callee arguments) =
    (callee ≡ system_name (Some e))
    × (map (λ x. value_of (evaluate before values (renamed place x))) arguments
    ≡ map Some (node_inputs hyper inner))
    × (map (λ text. value_at values (place text)) texts
    ≡ map (λ o. Some (inner.value o)) (outports_of d.rows (Some e)))

-- e is the row of a child of the system s in a table that is wired
pub record IsChild (rows : List Row) (s : Option ℕ) (e : ℕ) : Type 0 where
  pub row : IsRowOf rows s e
  pub subsystem : is_subsystem (row_at rows e).kind ≡ true
  pub wired : IsWired rows
  pub inports : HasPorts rows is_inport (Some e)
  pub outports : HasPorts rows is_outport (Some e)

-- the equation for a child holds
abbrev pub ChildEquationsHold : Type 0
ChildEquationsHold =
    (d : Diagram) (hyper : ℕ) (s : Option ℕ) (m inner : SystemTick)
    (before : Option (List (Option ℤ))) (values : List (Option ℤ)) (place : List ℕ → ℕ) (e : ℕ) →
    IsNamedTick d hyper s m before values place → IsChild d.rows s e → MeetsParent d s m e inner →
    inner.t ≡ m.t → inner.value ≡ m.value →
    AllByRecursion (CallsChild d hyper before values place e inner) (child_equations d s e)
