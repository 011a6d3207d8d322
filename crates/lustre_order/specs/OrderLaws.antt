-- The equations of a system come in an order in which each reads what is known, where a test tells
-- which names are known.
use Rattle.std.specs.Prelude.{◌≡◌, ℕ, Bool, true, List, [], ◌∷◌, Option}
use Rattle.diagram_blocks.specs.Meaning.{has_value}
use Rattle.diagram_meaning.specs.Rows.{row_at}
use Rattle.diagram_meaning.specs.ResolvedTree.{ResolvedTree, IsResolvedTree, diagram_of}
use Rattle.diagram_typed_runs.specs.TypedRuns.{IsSystem}
use Rattle.emit_shape.specs.Names.{trigger_name}
use Rattle.lustre_syntax.specs.Tree.{set}
use Rattle.lustre_system.specs.Names.{active_name, reset_name, takes_name}
use Rattle.lustre_system.specs.RowEquations.{runs, value_equations, samples, sample_equations}
use Rattle.lustre_system.specs.SystemNodes.{active_value, reset_value, trigger_memory}
use Rattle.lustre_right.specs.Reads.{Known, InOrder, KnownAround, KnownInputs}
use Rattle.lustre_right.specs.ReadLaws.{IsReadRow}

-- the names that pass a test
abbrev pub Passing : (List ℕ → Bool) → Known
Passing test text = test text ≡ true

-- a system's activity rests on what is around it; its trigger's memory on nothing of the tick
abbrev pub ActivityIsOrdered : Type 0
ActivityIsOrdered =
    (r : ResolvedTree) (s : Option ℕ) (test : List ℕ → Bool) → IsResolvedTree r →
    IsSystem r.tree.table.rows s → KnownAround (Passing test) (diagram_of r) s →
    InOrder (Passing test)
    (set 0 active_name (active_value (diagram_of r) s)
    ∷ set 0 reset_name (reset_value (diagram_of r) s) ∷ [])

abbrev pub TriggersAreOrdered : Type 0
TriggersAreOrdered =
    (r : ResolvedTree) (s : Option ℕ) (test : List ℕ → Bool) →
    InOrder (Passing test) (set 0 trigger_name (trigger_memory (diagram_of r) s) ∷ [])

-- samples rest on nothing of the tick, and whether a delay takes one on the activity
abbrev pub SamplesAreOrdered : Type 0
SamplesAreOrdered =
    (r : ResolvedTree) (s : Option ℕ) (b : ℕ) (test : List ℕ → Bool) →
    InOrder (Passing test) (sample_equations (diagram_of r) s b (samples (diagram_of r) s b))

abbrev pub TakingIsOrdered : Type 0
TakingIsOrdered =
    (r : ResolvedTree) (s : Option ℕ) (b : ℕ) (test : List ℕ → Bool) →
    IsReadRow r s b (Passing test) →
    InOrder (Passing test) (set 0 (takes_name b) (runs (diagram_of r) s b) ∷ [])

-- a row's value and its calls of functions rest on what it reads
abbrev pub ValuesAreOrdered : Type 0
ValuesAreOrdered =
    (r : ResolvedTree) (s : Option ℕ) (b : ℕ) (test : List ℕ → Bool) →
    IsReadRow r s b (Passing test) → has_value (row_at r.tree.table.rows b).kind ≡ true →
    KnownInputs (Passing test) (diagram_of r) s b →
    InOrder (Passing test) (value_equations (diagram_of r) s b)
