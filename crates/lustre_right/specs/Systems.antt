-- What an instance of a model's file says of each of its systems, by the names of the system's node.
use Rattle.std.specs.Prelude.{◌≡◌, ℕ, true, List, [], ◌∷◌, map, take, length, Contains, Option, Some, None, option_map, ℤ, pos, ⊤}
use Rattle.std.specs.List.{AllByRecursion}
use Rattle.diagram_blocks.specs.Kinds.{is_subsystem}
use Rattle.diagram_meaning.specs.Rows.{row_at, outports_of}
use Rattle.diagram_meaning.specs.Diagram.{Diagram}
use Rattle.diagram_meaning.specs.SystemRuns.{IsRowOf}
use Rattle.modules_profile.specs.Systems.{system_name}
use Rattle.emit_shape.specs.Names.{value_name, now_name}
use Rattle.lustre_syntax.specs.Tree.{set, call, texts_of}
use Rattle.lustre_syntax.specs.Named.{NamedExpr, NamedEquation, renamed, place_of, all_names}
use Rattle.lustre_flows.specs.Values.{value_at, value_of, evaluate}
use Rattle.lustre_flows.specs.Instances.{Instance, values_in, outputs_of}
use Rattle.lustre_flows.specs.Ticks.{last_node, inside}
use Rattle.lustre_system.specs.File.{lustre_file, root_node, next_now}
use Rattle.lustre_system.specs.Functions.{function_name}
use Rattle.lustre_system.specs.FunctionRules.{called}
use Rattle.lustre_system.specs.SystemNodes.{system_inputs, system_node}
use Rattle.lustre_right.specs.Paths.{path_to}

-- the names of a system's node, and the place of a name among them
abbrev pub system_texts : Diagram → Option ℕ → List (List ℕ)
system_texts d s = texts_of (all_names (system_node d s))

abbrev pub place_in : Diagram → Option ℕ → List ℕ → ℕ
place_in d s text = place_of (system_texts d s) text

-- the place of a name of the root
abbrev pub root_place : Diagram → ℕ → List ℕ → ℕ
root_place d hyper text = place_of (texts_of (all_names (root_node d hyper))) text

-- the values that an instance of the file's last node has for the names of the system s
abbrev pub values_of_system : Diagram → ℕ → Option ℕ → Instance → List (Option ℤ)
values_of_system d hyper s i = values_in (inside (path_to (lustre_file d hyper) d.rows s) i)

-- An instance of the last node, the same one as the tick before left it, if there was one, and a
-- system.
module _ (d : Diagram) (hyper : ℕ) (before : Option Instance) (left : Instance) (s : Option ℕ) where
  abbrev pub named_value : List ℕ → Option ℤ
  named_value text = value_at (values_of_system d hyper s left) (place_in d s text)

  -- the value of an expression over the system's names, if it has one
  abbrev pub named_outcome : NamedExpr → Option ℤ
  named_outcome e =
      value_of
      (evaluate (option_map (values_of_system d hyper s) before) (values_of_system d hyper s left)
      (renamed (place_in d s) e))

  -- the call of one of the eight functions gives what its node gives of the arguments
  abbrev pub FunctionIsCalled : List (List ℕ) → List ℕ → List NamedExpr → Type 0
  FunctionIsCalled texts callee arguments =
      (k : ℕ) (numbers : List ℤ) (v : ℤ) → callee ≡ function_name k →
      map named_outcome arguments ≡ map Some numbers →
      called (lustre_file d hyper).nodes k numbers ≡ Some v →
      map named_value texts ≡ Some v ∷ []

  -- the call for a child gives it its inputs, and takes the values of its Outports
  abbrev pub ChildIsCalled : List (List ℕ) → List ℕ → List NamedExpr → Type 0
  ChildIsCalled texts callee arguments =
      (e : ℕ) → IsRowOf d.rows s e → is_subsystem (row_at d.rows e).kind ≡ true →
      callee ≡ system_name (Some e) →
      (take (length (system_inputs d (Some e))) (values_of_system d hyper (Some e) left)
      ≡ map named_outcome arguments)
      × (map named_value texts
      ≡ map
      (λ o. value_at (values_of_system d hyper (Some e) left) (place_in d (Some e) (value_name o)))
      (outports_of d.rows (Some e)))

  -- an equation of the system's node holds
  abbrev pub EquationHolds : NamedEquation → Type 0
  EquationHolds (set line text e) = named_value text ≡ named_outcome e
  EquationHolds (call line texts callee arguments) =
      FunctionIsCalled texts callee arguments × ChildIsCalled texts callee arguments

  -- each argument of the calls has a value
  abbrev pub HasArguments : NamedEquation → Type 0
  HasArguments (set line text e) = ⊤
  HasArguments (call line texts callee arguments) =
      AllByRecursion (λ e. (v : ℤ) × (named_outcome e ≡ Some v)) arguments

  -- each name has a value
  abbrev pub HasValues : Type 0
  HasValues =
      (text : List ℕ) → Contains (system_texts d s) text → (v : ℤ) × (named_value text ≡ Some v)

-- the equations of the root hold, on a row of the trace: it counts the ticks, gives the system `top`
-- its inputs, and takes the values of its Outports
pub record RootHolds (d : Diagram) (hyper : ℕ) (before : Option Instance) (row : List ℤ)
    (left : Instance) : Type 0 where
  pub now : value_at (values_in left) (root_place d hyper now_name)
      ≡ value_of
      (evaluate (option_map values_in before) (values_in left)
      (renamed (root_place d hyper) (next_now hyper)))
  pub inputs : take (length (system_inputs d None)) (values_of_system d hyper None left)
      ≡ value_at (values_in left) (root_place d hyper now_name) ∷ Some (pos 1) ∷ Some (pos 0)
      ∷ map Some row
  pub outputs : outputs_of (last_node (lustre_file d hyper)) left
      ≡ map (λ o. value_at (values_of_system d hyper None left) (place_in d None (value_name o)))
      (outports_of d.rows None)
