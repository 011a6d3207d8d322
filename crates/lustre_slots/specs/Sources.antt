-- What gives each slot of a file its value.
use Rattle.std.specs.Prelude.{ℕ, ◌+◌, List, [], ◌∷◌, ◌++◌, flat_map, length, replicate, slice_index, slice_set}
use Rattle.lustre_syntax.specs.Tree.{ExprTree, EquationTree, set, call, node_at, FileTree}
use Rattle.lustre_flows.specs.Ticks.{last_place}
use Rattle.lustre_slots.specs.declared.placed.Placed.{Placed}
use Rattle.lustre_slots.specs.declared.placed.Source.{Source}
use Rattle.lustre_slots.specs.declared.placed.Source.TheVariants.{Row, Expression, Slot}
use Rattle.lustre_slots.specs.Layout.{sizes_of, instances_of}

-- a slot, and what gives it
pub record Link : Type 0 where
  pub slot : ℕ
  pub source : Source

-- expressions of an equation, from position k on, give slots one after another
abbrev pub argument_links : (p : Placed) → (equation : ℕ) → ℕ → (k : ℕ) → List ExprTree → List Link
argument_links p equation at k [] = []
argument_links p equation at k (e ∷ es) =
    record { slot = at; source = Expression p equation k }
    ∷ argument_links p equation (at + 1) (k + 1) es

-- slots one after another give names of an instance
abbrev pub output_links : (p : Placed) → ℕ → List ℕ → List Link
output_links p at [] = []
output_links p at (k ∷ ks) =
    record { slot = p.base + k; source = Slot at } ∷ output_links p (at + 1) ks

-- what the equations of an instance give, from a position on, where the instances of their calls
-- begin at a slot
abbrev pub equation_links : FileTree → Placed → (equation : ℕ) → ℕ → List EquationTree → List Link
equation_links f p i at [] = []
equation_links f p i at (set line given value ∷ es) =
    record { slot = p.base + given; source = Expression p i 0 } ∷ equation_links f p (i + 1) at es
equation_links f p i at (call line given callee values ∷ es) =
    argument_links p i at 0 values
    ++ (output_links p (at + (node_at f.nodes callee).inputs) given
    ++ equation_links f p (i + 1) (at + slice_index (sizes_of f) callee) es)

abbrev pub links_of : FileTree → Placed → List Link
links_of f p =
    equation_links f p 0 (p.base + length (node_at f.nodes p.node).names)
    (node_at f.nodes p.node).equations

-- a table with these links
abbrev pub linked : List Source → List Link → List Source
linked sources [] = sources
linked sources (link ∷ links) = linked (slice_set sources link.slot link.source) links

-- the slots of a file
abbrev pub sources_of : FileTree → List Source
sources_of f =
    linked (replicate (slice_index (sizes_of f) (last_place f)) Row)
    (flat_map (links_of f) (instances_of f))
