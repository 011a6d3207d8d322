-- The node of a system, from its names and its equations.
use Rattle.std.proofs.Common.{◌≡◌, ℕ, ◌+◌, Bool, true, false, List, [], ◌∷◌, ◌++◌, map, length, Option, None, refl, sym, ap, ap₂, ◌∙◌, arith}
use Rattle.std.specs.List.{flat_map}
use Rattle.std.proofs.lemmas.List.{length-map, map-append, append_assoc, append-nil}
use Rattle.diagram_meaning.specs.declared.table.Row.{Row}
use Rattle.diagram_meaning.specs.Diagram.{Diagram}
use Rattle.diagram_meaning.specs.Rows.{rows_of, outports_of, system_control}
use Rattle.diagram_meaning.specs.Inputs.{input_ports}
use Rattle.modules_profile.specs.Systems.{system_name}
use Rattle.emit_shape.specs.Names.{value_name, port_name}
use Rattle.lustre_syntax.specs.Tree.{Declared, EquationTree, NodeTree, texts_of, set}
use Rattle.lustre_syntax.specs.Plain.{declared_names}
use Rattle.lustre_syntax.specs.Named.{renamed_equation, place_of, all_names}
use Rattle.lustre_system.specs.Functions.{int_name}
use Rattle.lustre_system.specs.Names.{port_names, active_name, reset_name}
use Rattle.lustre_system.specs.RowEquations.{only_if, row_equations}
use Rattle.lustre_system.specs.SystemNodes.{system_node, system_inputs, system_equations, active_value, reset_value}
use Rattle.lustre_expressions.specs.declared.places.Places.{Places}
use Rattle.lustre_expressions.specs.declared.scopes.RowNames.{RowNames}
use Rattle.lustre_expressions.specs.Found.{place_in}
use Rattle.lustre_expressions.specs.Placed.{placed_by}
use Rattle.lustre_expressions.specs.Scopes.{AreNamesOf}
use Rattle.lustre_system_nodes.specs.declared.parts.Parts.{Parts}
use Rattle.lustre_system_nodes.specs.Parts.{ArePartsOf}
use Rattle.lustre_system_nodes.specs.States.{trigger_equations, state_equations}

texts-are : (names : List (List ℕ × Bool)) → map (λ (x : List ℕ × Bool). x.0) names ≡ texts_of (declared_names names)
texts-are [] = refl
texts-are (x ∷ xs) = ap (λ ts. x.0 ∷ ts) (texts-are xs)

-- ---- The equations of a row, and of all rows

-- those of its memory and its value, and the call of its child, where it has one
pub row-more : {A B : Type 0} (f : A → B) (t : Bool) (own child : List A) (before mid all : List B) → mid ≡ before ++ map f own →
    all ≡ mid ++ map f (only_if t child) → all ≡ before ++ map f (own ++ only_if t child)
row-more f t own child before mid all first rest =
    rest ∙ ap (λ l. l ++ map f (only_if t child)) first ∙ append_assoc before (map f own) (map f (only_if t child))
    ∙ ap (λ l. before ++ l) (sym (map-append f own (only_if t child)))

pub with-child : {A B : Type 0} (f : A → B) (t : Bool) (own child : List A) (before mid all : List B) → t ≡ true →
    mid ≡ before ++ map f own → all ≡ mid ++ map f child → all ≡ before ++ map f (own ++ only_if t child)
with-child f t own child before mid all is first rest =
    row-more f t own child before mid all first (rest ∙ ap (λ t. mid ++ map f (only_if t child)) (sym is))

pub without-child : {A B : Type 0} (f : A → B) (t : Bool) (own child : List A) (before mid : List B) → t ≡ false →
    mid ≡ before ++ map f own → mid ≡ before ++ map f (own ++ only_if t child)
without-child f t own child before mid is first =
    row-more f t own child before mid mid first (sym (append-nil mid) ∙ ap (λ t. mid ++ map f (only_if t child)) (sym is))

pub map-flat : {A B C : Type 0} (f : B → C) (g : A → List B) (xs : List A) →
    flat_map (λ x. map f (g x)) xs ≡ map f (flat_map g xs)
map-flat f g [] = refl
map-flat f g (x ∷ xs) = ap (λ ys. map f (g x) ++ ys) (map-flat f g xs) ∙ sym (map-append f (g x) (flat_map g xs))

-- the names are those of the system
pub are-names : (rows : List Row) (parts : Parts) (names : RowNames) → ArePartsOf rows parts → names.control ≡ parts.control →
    names.ports.now ≡ parts.ports.items → names.row ≡ None → AreNamesOf names rows parts.row None
are-names rows parts names are control ports row = record {
  control = control ∙ are.control;
  ports = ports ∙ are.ports;
  row = row;
}

-- ---- The node

module _ (d : Diagram) (s : Option ℕ) where
  -- the equations, by places that are found
  pub equations-are : (places : Places) (callee : List ℕ → ℕ) (list : List (List ℕ × Bool)) (names : List Declared)
      (none states all : List EquationTree) → declared_names list ≡ names →
      ((text : List ℕ) → place_in places text ≡ place_of (map (λ (x : List ℕ × Bool). x.0) list) text) → none ≡ [] →
      states ≡ none ++ map (renamed_equation (place_in places) callee) (state_equations d s) →
      all ≡ states ++ map (renamed_equation (place_in places) callee) (flat_map (row_equations d s) (rows_of d.rows s)) →
      all ≡ map (renamed_equation (place_of (texts_of names)) callee) (system_equations d s)
  equations-are places callee list names none states all named found empty first rest =
      let rows = flat_map (row_equations d s) (rows_of d.rows s) in
      let same : place_in places ≡ place_of (texts_of names) =
      (λ i text. found text i) ∙ ap place_of (texts-are list ∙ ap texts_of named) in
      rest
      ∙ ap (λ (l : List EquationTree). l ++ map (renamed_equation (place_in places) callee) rows)
      (first ∙ ap (λ (l : List EquationTree). l ++ map (renamed_equation (place_in places) callee) (state_equations d s)) empty)
      ∙ sym (map-append (renamed_equation (place_in places) callee) (state_equations d s) rows)
      ∙ ap₂ (λ (p : List ℕ → ℕ) es. map (renamed_equation p callee) es) same
      (append_assoc (trigger_equations d s) (set 0 active_name (active_value d s) ∷ set 0 reset_name (reset_value d s) ∷ []) rows)

  pub node-is : (text : List ℕ) (inputs outputs : ℕ) (names given : List Declared) (equations : List EquationTree)
      (callee : List ℕ → ℕ) → text ≡ system_name s → inputs ≡ 3 + length (input_ports d.rows s) →
      outputs ≡ length (outports_of d.rows s) → given ≡ names → names ≡ all_names (system_node d s) →
      equations ≡ map (renamed_equation (place_of (texts_of (all_names (system_node d s)))) callee) (system_equations d s) →
      (let node : NodeTree = record {
        text = text;
        line = 0;
        inputs = inputs;
        outputs = outputs;
        names = given;
        equations = equations;
      } in node) ≡ placed_by callee (system_node d s)
  node-is text inputs outputs names given equations callee called many out same named made =
      let input_count : inputs ≡ length (system_inputs d s) =
      (let int = length-map (port_names d.rows s) int_name in
      let ports = length-map (input_ports d.rows s) (port_name (system_control d.rows s)) in
      omega (arith, many, int, ports)) in
      let output_count : outputs ≡ length (map (λ o. int_name (value_name o)) (outports_of d.rows s)) =
      out ∙ sym (length-map (outports_of d.rows s) (λ o. int_name (value_name o))) in
      λ i. record {
        text = called i;
        line = 0;
        inputs = input_count i;
        outputs = output_count i;
        names = (same ∙ named) i;
        equations = made i;
      }
