-- The Outports that statements store, one statement after another.
use Rattle.std.proofs.Common.{◌≡◌, refl, ◌∙◌, ap, ap₂, ℕ, List, [], ◌∷◌, ◌++◌, map}
use Rattle.std.specs.Prelude.{flat_map}
use Rattle.std.proofs.lemmas.List.{append_assoc}
use Rattle.c_syntax.specs.declared.code.Stmt.{Stmt}
use Rattle.c_syntax.specs.Tree.{CondTree, FieldTree, branch, stmts_of_list}
use Rattle.c_syntax.specs.Plain.{stmt_tree}
use Rattle.emit_notes.specs.declared.labels.Label.{Label}
use Rattle.emit_notes.specs.Outports.{stmt_outports, stmts_outports}

module _ (labels : List Label) (fields : List FieldTree) (earlier : List (List ℕ)) where
  pub stmts_outports-flat : (ss : List Stmt) →
      stmts_outports labels fields earlier (stmts_of_list (map stmt_tree ss))
      ≡ flat_map (λ s. stmt_outports labels fields earlier (stmt_tree s)) ss
  stmts_outports-flat [] = refl
  stmts_outports-flat (s ∷ ss) = ap (λ rows. stmt_outports labels fields earlier (stmt_tree s) ++ rows) (stmts_outports-flat ss)

  -- what both parts of a choice store
  pub branch-stored : (line : ℕ) (test : CondTree) (rows between : List ℕ) (on_true true' on_false false' : List Stmt) →
      between ≡ rows ++ stmts_outports labels fields earlier (stmts_of_list (map stmt_tree true')) → true' ≡ on_true → false' ≡ on_false →
      between ++ stmts_outports labels fields earlier (stmts_of_list (map stmt_tree false'))
      ≡ rows ++ stmt_outports labels fields earlier
      (branch line test (stmts_of_list (map stmt_tree on_true)) (stmts_of_list (map stmt_tree on_false)))
  branch-stored line test rows between on_true true' on_false false' first same_true same_false =
      let stored : List Stmt → List ℕ = λ ss. stmts_outports labels fields earlier (stmts_of_list (map stmt_tree ss)) in
      ap (λ own. own ++ stored false') first ∙ append_assoc rows (stored true') (stored false')
      ∙ ap₂ (λ a b. rows ++ (stored a ++ stored b)) same_true same_false
