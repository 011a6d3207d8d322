-- Statements without an `if` among them are fused where each is simplified.
use Rattle.std.proofs.Common.{◌≡◌, refl, ap, ◌∙◌, List, [], ◌∷◌, map, false}
use Rattle.std.specs.List.{list_any}
use Rattle.c_syntax.specs.declared.code.Stmt.{Stmt}
use Rattle.c_syntax.specs.Tree.{StmtTree, StmtTrees, assign, assign_at, branch, call, more_stmts, stmts_of_list}
use Rattle.c_syntax.specs.Plain.{stmt_tree}
use Rattle.c_syntax.proofs.lemmas.NamePlaces.{or-left, or-right}
use Rattle.emit_fused.specs.Fused.{fused_stmt, fused_stmts, put_before}
use Rattle.emit_fused.specs.Turned.{is_choice, simplified_stmt, standing}

simplified-before : (s : StmtTree) (ss : StmtTrees) → is_choice s ≡ false →
    more_stmts (simplified_stmt s) ss ≡ put_before (fused_stmt s) ss
simplified-before (assign line f e) ss h = refl
simplified-before (assign_at line f index e) ss h = refl
simplified-before (branch line test a b) ss h = absurd (let wrong : ⊥ = cc h in wrong)
simplified-before (call line k target es) ss h = refl

each-simplified : (ss : List Stmt) → list_any (λ s. is_choice (stmt_tree s)) ss ≡ false →
    stmts_of_list (map simplified_stmt (map stmt_tree ss)) ≡ fused_stmts (standing ss)
each-simplified [] h = refl
each-simplified (s ∷ ss) h =
    let later = list_any (λ t. is_choice (stmt_tree t)) ss in
    ap (more_stmts (simplified_stmt (stmt_tree s))) (each-simplified ss (or-right (is_choice (stmt_tree s)) later h))
    ∙ simplified-before (stmt_tree s) (fused_stmts (standing ss)) (or-left (is_choice (stmt_tree s)) later h)

pub straight_fused : (ss made : List Stmt) → list_any (λ s. is_choice (stmt_tree s)) ss ≡ false →
    map stmt_tree made ≡ map simplified_stmt (map stmt_tree ss) → standing made ≡ fused_stmts (standing ss)
straight_fused ss made h is = ap stmts_of_list is ∙ each-simplified ss h
