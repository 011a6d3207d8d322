-- Statements that a loop adds, one more.
use Rattle.std.specs.List.{enumerate_from}
use Rattle.std.proofs.Common.{◌≡◌, sym, ap, ◌∙◌, ℕ, ◌+◌, ◌<◌, List, [], ◌∷◌, ◌++◌, map, take, length, get_or, append_assoc}
use Rattle.std.proofs.lemmas.List.{map_push}
use Rattle.c_syntax.specs.declared.code.Stmt.{Stmt}
use Rattle.c_syntax.specs.Tree.{StmtTree}
use Rattle.c_syntax.specs.Plain.{stmt_tree}
use Rattle.emit_row_facts.proofs.lemmas.Steps.{map-enumerate-more}

-- the trees of the statements so far, and that of one more
pub one-more : (so_far now : List Stmt) (s : Stmt) (t : StmtTree) → now ≡ so_far ++ s ∷ [] → stmt_tree s ≡ t →
    map stmt_tree now ≡ map stmt_tree so_far ++ t ∷ []
one-more so_far now s t is told =
    ap (map stmt_tree) is ∙ map_push stmt_tree so_far s ∙ ap (λ y. map stmt_tree so_far ++ y ∷ []) told

-- of each member and its place one
pub placed-next : {A T : Type 0} (f : ℕ × A → T) (xs : List A) (i : ℕ) (x : A) (before so_far now : List T) → i < length xs →
    x ≡ get_or xs i x → so_far ≡ before ++ map f (enumerate_from 0 (take i xs)) → now ≡ so_far ++ f (i, x) ∷ [] →
    now ≡ before ++ map f (enumerate_from 0 (take (i + 1) xs))
placed-next f xs i x before so_far now inside read is pushed =
    pushed ∙ ap (λ ys. ys ++ f (i, x) ∷ []) is ∙ append_assoc before (map f (enumerate_from 0 (take i xs))) (f (i, x) ∷ [])
    ∙ ap (λ y. before ++ (map f (enumerate_from 0 (take i xs)) ++ f (i, y) ∷ [])) read
    ∙ ap (λ ys. before ++ ys) (sym (map-enumerate-more f xs i x inside))
