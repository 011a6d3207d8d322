-- The interface of a system as it is read off a program, and that it is exact and least.
use Rattle.std.specs.Prelude.{◌≡◌, ℕ, ◌≤◌, Bool, List, [], ◌∷◌, map, filter, length, Option, bytes_eq}
use Rattle.std.specs.List.{list_any, enumerate_from, prefix_len, range_with_len}
use Rattle.base_core.specs.Interface.{Interface, IsInterface, IsExact, output_functions}
use Rattle.diagram_meaning.specs.Rows.{outports_of, system_control}
use Rattle.diagram_meaning.specs.Diagram.{Diagram}
use Rattle.diagram_meaning.specs.Needs.{AreTrueNeeds}
use Rattle.diagram_meaning.specs.Inputs.{input_ports}
use Rattle.base_core.specs.Ports.{ports_mask}
use Rattle.c_syntax.specs.Tree.{ProgramTree}
use Rattle.emit_shape.specs.Names.{port_name, value_name, out_name}
use Rattle.emit_shape.specs.Stored.{stored_names, has_stored}
use Rattle.emit_shape.specs.Programs.{procedure_at, procedure_place, field_in}

-- how many output procedures a system has: those numbered from 1 on without a gap
abbrev pub out_count : ProgramTree → Option ℕ → ℕ
out_count p s =
    prefix_len (λ j. list_any (λ q. bytes_eq q.name (out_name s j)) p.procedures)
    (range_with_len 1 (length p.procedures))

-- the positions of a system's output procedures
abbrev pub out_places : ProgramTree → Option ℕ → List ℕ
out_places p s = map (λ j. procedure_place p (out_name s j)) (range_with_len 1 (out_count p s))

-- whether the procedure at this place stores the field of this name, itself or through private
-- procedures
abbrev pub stores : ProgramTree → List ℕ → ℕ → Bool
stores p name k =
    has_stored (stored_names (λ i. (procedure_at p i).private) (λ q f. (field_in p q.of f).name)
    [] p.procedures) k name

-- the set of inputs whose parameters a procedure has
abbrev pub takes : ProgramTree → Diagram → Option ℕ → ℕ → ℕ
takes p d s k =
    ports_mask
    (filter (λ i. list_any (λ q. bytes_eq q.name (port_name (system_control d.rows s) i))
    (procedure_at p k).params) (input_ports d.rows s))

-- the functions, from 0, that give an output
abbrev pub givers : ProgramTree → Option ℕ → ℕ → List ℕ
givers p s o =
    map (λ (e : ℕ × ℕ). e.0)
    (filter (λ (e : ℕ × ℕ). stores p (value_name o) e.1) (enumerate_from 0 (out_places p s)))

-- The interface that the code of the system s shows: output procedure j takes the inputs whose
-- parameters it has, and gives the outputs that it stores, each of them given by one; and nothing
-- must come before anything.
pub record IsFace (p : ProgramTree) (d : Diagram) (s : Option ℕ) (face : Interface) : Type 0 where
  pub functions : face.takes ≡ map (takes p d s) (out_places p s)
  pub outputs : map (λ j. j ∷ []) face.gives ≡ map (givers p s) (outports_of d.rows s)
  pub no_order : face.before ≡ []

-- it shows exactly what each output needs, and no interface that does so has fewer functions
pub record HasLeastInterface (p : ProgramTree) (d : Diagram) (s : Option ℕ) : Type 0 where
  pub needs : List ℕ
  pub are_needs : AreTrueNeeds d s needs
  pub face : Interface
  pub is_face : IsFace p d s face
  pub is_interface : IsInterface face
  pub exact : IsExact face needs
  pub least : (other : Interface) → IsInterface other → IsExact other needs →
      output_functions face ≤ output_functions other
