-- The names that the equations of a system read at the tick itself, and equations in an order in
-- which each reads what is known.
use Rattle.std.specs.Prelude.{◌≡◌, ℕ, true, List, [], ◌∷◌, ◌++◌, flat_map, Contains, Option, ⊤, ◌⊎◌}
use Rattle.std.specs.List.{AllByRecursion}
use Rattle.base_core.specs.declared.Control.{Control}
use Rattle.base_core.specs.declared.Control.TheVariants.{Plain, Enabled, Triggered, Both}
use Rattle.diagram_blocks.specs.Kinds.{is_delay}
use Rattle.diagram_blocks.specs.Value.{feeds_through}
use Rattle.diagram_meaning.specs.Rows.{system_control}
use Rattle.diagram_meaning.specs.Diagram.{Diagram, op_at}
use Rattle.emit_shape.specs.Names.{now_name, trigger_name, control_name, second_control_name}
use Rattle.lustre_syntax.specs.Tree.{Expr, number, truth, name, negative, negation, two, choice, arrow, previous, given_by, expressions_of}
use Rattle.lustre_syntax.specs.Named.{NamedEquation}
use Rattle.lustre_system.specs.Names.{around_active, around_off, sample_name, leaf_name, leaves_of}

-- the names that an expression reads at this tick
abbrev pub names_now : {N : Type 0} → Expr N → List N
names_now (number value) = []
names_now (truth value) = []
names_now (name x) = x ∷ []
names_now (negative a) = names_now a
names_now (negation a) = names_now a
names_now (two op a b) = names_now a ++ names_now b
names_now (choice test a b) = names_now test ++ names_now a ++ names_now b
names_now (arrow a b) = names_now a ++ names_now b
names_now (previous x) = []

abbrev pub equation_reads : NamedEquation → List (List ℕ)
equation_reads e = flat_map names_now (expressions_of e)

-- names that are known
abbrev pub Known : Type 1
Known = List ℕ → Type 0

-- what is known after an equation
abbrev pub KnownAfter : Known → NamedEquation → Known
KnownAfter known e text = known text ⊎ Contains (given_by e) text

-- each equation reads names that are known, or that those before it give
abbrev pub InOrder : Known → List NamedEquation → Type 0
InOrder known [] = ⊤
InOrder known (e ∷ es) =
    AllByRecursion known (equation_reads e) × InOrder (KnownAfter known e) es

-- the controls of a system, and what its trigger remembers
abbrev pub KnownControls : Known → Control → Type 0
KnownControls known Plain = ⊤
KnownControls known (Enabled reset) = known control_name
KnownControls known (Triggered edge) = known control_name × known trigger_name
KnownControls known (Both reset edge) =
    known control_name × known second_control_name × known trigger_name

-- what a system gets from around, with its controls
pub record KnownAround (known : Known) (d : Diagram) (s : Option ℕ) : Type 0 where
  pub now : known now_name
  pub on : known around_active
  pub off : known around_off
  pub controls : KnownControls known (system_control d.rows s)

-- what row b reads: the wires or the input that its value is made from at this tick, and its oldest
-- sample
pub record KnownInputs (known : Known) (d : Diagram) (s : Option ℕ) (b : ℕ) : Type 0 where
  pub leaves : feeds_through (op_at d b) ≡ true →
      AllByRecursion (λ l. known (leaf_name d.rows s l)) (leaves_of d.rows s b)
  pub sample : is_delay (op_at d b) ≡ true → known (sample_name b 0)
