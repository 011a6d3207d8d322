-- The equations of a system come in an order in which each reads what is known.
use Rattle.std.specs.Prelude.{◌≡◌, ℕ, true, [], ◌∷◌, Option}
use Rattle.diagram_blocks.specs.Meaning.{has_value}
use Rattle.diagram_meaning.specs.Rows.{row_at}
use Rattle.diagram_meaning.specs.ResolvedTree.{ResolvedTree, IsResolvedTree, diagram_of}
use Rattle.diagram_meaning.specs.SystemRuns.{IsRowOf}
use Rattle.diagram_typed_runs.specs.TypedRuns.{IsSystem}
use Rattle.emit_shape.specs.Names.{trigger_name}
use Rattle.lustre_syntax.specs.Tree.{set}
use Rattle.lustre_system.specs.Names.{active_name, reset_name, takes_name}
use Rattle.lustre_system.specs.RowEquations.{runs, value_equations, samples, sample_equations}
use Rattle.lustre_system.specs.SystemNodes.{active_value, reset_value, trigger_memory}
use Rattle.lustre_right.specs.Reads.{Known, InOrder, KnownAround, KnownInputs}

-- a system's activity rests on what is around it; its trigger's memory on nothing of the tick
abbrev pub ActivityIsInOrder : Type 1
ActivityIsInOrder =
    (r : ResolvedTree) (s : Option ℕ) (known : Known) → IsResolvedTree r →
    IsSystem r.tree.table.rows s → KnownAround known (diagram_of r) s →
    InOrder known
    (set 0 active_name (active_value (diagram_of r) s)
    ∷ set 0 reset_name (reset_value (diagram_of r) s) ∷ [])

abbrev pub TriggersAreInOrder : Type 1
TriggersAreInOrder =
    (r : ResolvedTree) (s : Option ℕ) (known : Known) →
    InOrder known (set 0 trigger_name (trigger_memory (diagram_of r) s) ∷ [])

-- a row of a system whose activity is known
pub record IsReadRow (r : ResolvedTree) (s : Option ℕ) (b : ℕ) (known : Known) : Type 0 where
  pub resolved : IsResolvedTree r
  pub system : IsSystem r.tree.table.rows s
  pub row : IsRowOf r.tree.table.rows s b
  pub around : KnownAround known (diagram_of r) s
  pub active : known active_name

-- samples rest on nothing of the tick, and whether a delay takes one on the activity
abbrev pub SamplesAreInOrder : Type 1
SamplesAreInOrder =
    (r : ResolvedTree) (s : Option ℕ) (b : ℕ) (known : Known) →
    InOrder known (sample_equations (diagram_of r) s b (samples (diagram_of r) s b))

abbrev pub TakingIsInOrder : Type 1
TakingIsInOrder =
    (r : ResolvedTree) (s : Option ℕ) (b : ℕ) (known : Known) → IsReadRow r s b known →
    InOrder known (set 0 (takes_name b) (runs (diagram_of r) s b) ∷ [])

-- a row's value and its calls of functions rest on what it reads
abbrev pub ValuesAreInOrder : Type 1
ValuesAreInOrder =
    (r : ResolvedTree) (s : Option ℕ) (b : ℕ) (known : Known) → IsReadRow r s b known →
    has_value (row_at r.tree.table.rows b).kind ≡ true → KnownInputs known (diagram_of r) s b →
    InOrder known (value_equations (diagram_of r) s b)
