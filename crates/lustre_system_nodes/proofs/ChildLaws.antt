-- The call of a child, over the places of a node's names.
use Rattle.std.proofs.Common.{◌≡◌, ℕ, true, List, [], ◌∷◌, map, Option, None, Some, refl, ap, ap₂, ◌∙◌}
use Rattle.diagram_blocks.specs.Kinds.{is_subsystem}
use Rattle.diagram_meaning.specs.declared.table.Row.{Row}
use Rattle.diagram_meaning.specs.Diagram.{Diagram}
use Rattle.diagram_meaning.specs.Inputs.{input_ports}
use Rattle.diagram_meaning.specs.Rows.{row_at, inports_of, outports_of}
use Rattle.modules_profile.specs.Systems.{system_name, entering_wire}
use Rattle.emit_shape.specs.Names.{value_name, now_name}
use Rattle.lustre_syntax.specs.Tree.{ExprTree, name, call}
use Rattle.lustre_system.specs.Names.{active_name, reset_name}
use Rattle.lustre_system.specs.RowEquations.{only_if, wire_read, child_equations}
use Rattle.lustre_expressions.specs.declared.scopes.RowNames.{RowNames}
use Rattle.lustre_expressions.specs.Found.{place_in}
use Rattle.lustre_row_equations.specs.Placed.{placed_expr, placed_equations}
use Rattle.lustre_system_nodes.specs.declared.own_rows.OwnRow.{OwnRow}
use Rattle.lustre_system_nodes.specs.OwnRows.{own_row}
use Rattle.lustre_system_nodes.specs.Reads.{read_at}

-- the row of a subsystem has what is inside it
module _ (rows : List Row) (x : OwnRow) (is : x ≡ own_row rows x.row) (inside : is_subsystem (row_at rows x.row).kind ≡ true) where
  pub inputs-are : x.inputs ≡ inports_of rows (Some x.row)
  inputs-are = ap (λ (r : OwnRow). r.inputs) is ∙ ap (λ t. only_if t (inports_of rows (Some x.row))) inside

  pub outputs-are : x.outputs ≡ outports_of rows (Some x.row)
  outputs-are = ap (λ (r : OwnRow). r.outputs) is ∙ ap (λ t. only_if t (outports_of rows (Some x.row))) inside

module _ (names : RowNames) (d : Diagram) where
  read-placed : (o : Option ℕ) → read_at names o ≡ placed_expr names (wire_read d None o)
  read-placed None = refl
  read-placed (Some c) = refl

  reads-placed : {A : Type 0} (wire : A → Option ℕ) (ps : List A) →
      map (read_at names) (map wire ps) ≡ map (placed_expr names) (map (λ p. wire_read d None (wire p)) ps)
  reads-placed wire [] = refl
  reads-placed wire (p ∷ ps) = ap₂ (λ (x : ExprTree) (xs : List ExprTree). x ∷ xs) (read-placed (wire p)) (reads-placed wire ps)

  abbrev place : List ℕ → ℕ
  place = place_in names.places.now

  pub call-placed : (e : ℕ) (outputs given : List ℕ) (node : ℕ) (values : List ExprTree) → outputs ≡ outports_of d.rows (Some e) →
      given ≡ map place (map value_name outputs) → node ≡ place_in names.callees.now.places.now (system_name (Some e)) →
      values ≡ name (place now_name) ∷ name (place active_name) ∷ name (place reset_name)
      ∷ map (read_at names) (map (entering_wire d.rows e) (input_ports d.rows (Some e))) →
      call 0 given node values ∷ [] ≡ placed_equations names (child_equations d None e)
  call-placed e outputs given node values outs named called read =
      let given_is = named ∙ ap (λ rows. map place (map value_name rows)) outs in
      let values_are =
      read ∙ ap (λ (xs : List ExprTree). name (place now_name) ∷ name (place active_name) ∷ name (place reset_name) ∷ xs)
      (reads-placed (entering_wire d.rows e) (input_ports d.rows (Some e))) in
      λ i. call 0 (given_is i) (called i) (values_are i) ∷ []
