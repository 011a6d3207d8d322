-- A system with the names of its node.
use Rattle.std.specs.Prelude.{◌≡◌, ℕ, List, map, Option}
use Rattle.diagram_meaning.specs.Diagram.{Diagram}
use Rattle.lustre_syntax.specs.Tree.{EquationTree, texts_of}
use Rattle.lustre_syntax.specs.Named.{renamed_equation, place_of, all_names}
use Rattle.lustre_system.specs.SystemNodes.{system_node, system_equations}
use Rattle.lustre_system_nodes.specs.declared.named.NamedSystem.{NamedSystem}
use Rattle.lustre_system_nodes.specs.Parts.{ArePartsOf}

-- the parts and the names are those of the system
pub record IsNamed (d : Diagram) (s : Option ℕ) (named : NamedSystem) : Type 0 where
  pub row : named.parts.row ≡ s
  pub parts : ArePartsOf d.rows named.parts
  pub names : named.names ≡ all_names (system_node d s)

-- the equations of a system over the places of its names, where callees have these places
abbrev pub placed_system : (List ℕ → ℕ) → Diagram → Option ℕ → List EquationTree
placed_system callee d s =
    map (renamed_equation (place_of (texts_of (all_names (system_node d s)))) callee)
    (system_equations d s)
