-- Pieces of code one after the other.
use Rattle.std.proofs.Common.{◌≡◌, refl, sym, ap, ap₂, ◌∙◌, ℕ, ◌+◌, ◌<◌, List, [], ◌∷◌, ◌++◌, map, take, length, get_or}
use Rattle.std.proofs.lemmas.List.{map-append, map_more}
use Rattle.c_syntax.specs.declared.code.Stmt.{Stmt}
use Rattle.c_syntax.specs.Tree.{StmtTree, StmtTrees, no_stmts, more_stmts, stmts_append, stmts_of_list}
use Rattle.c_syntax.specs.Plain.{stmt_tree}
use Rattle.emit_system_spec.specs.EmittedCode.{joined}
use Rattle.emit_nodes.specs.Code.{code_of}

-- ---- Two lists of statements

pub stmts_append-nothing : (code : StmtTrees) → stmts_append code no_stmts ≡ code
stmts_append-nothing no_stmts = refl
stmts_append-nothing (more_stmts s ss) = ap (more_stmts s) (stmts_append-nothing ss)

pub stmts_append-assoc : (a b c : StmtTrees) → stmts_append (stmts_append a b) c ≡ stmts_append a (stmts_append b c)
stmts_append-assoc no_stmts b c = refl
stmts_append-assoc (more_stmts s ss) b c = ap (more_stmts s) (stmts_append-assoc ss b c)

pub stmts_of_list-append : (a b : List StmtTree) → stmts_of_list (a ++ b) ≡ stmts_append (stmts_of_list a) (stmts_of_list b)
stmts_of_list-append [] b = refl
stmts_of_list-append (s ∷ ss) b = ap (more_stmts s) (stmts_of_list-append ss b)

pub code_of_append : (a b : List Stmt) → code_of (a ++ b) ≡ stmts_append (code_of a) (code_of b)
code_of_append a b = ap stmts_of_list (map-append stmt_tree a b) ∙ stmts_of_list-append (map stmt_tree a) (map stmt_tree b)

-- ---- Pieces

pub joined-one : (code : StmtTrees) → joined (code ∷ []) ≡ code
joined-one code = stmts_append-nothing code

pub joined-append : (a b : List StmtTrees) → joined (a ++ b) ≡ stmts_append (joined a) (joined b)
joined-append [] b = refl
joined-append (code ∷ codes) b = ap (stmts_append code) (joined-append codes b) ∙ sym (stmts_append-assoc code (joined codes) (joined b))

-- one piece more
pub joined-more : (codes : List StmtTrees) (code : StmtTrees) → joined (codes ++ code ∷ []) ≡ stmts_append (joined codes) code
joined-more codes code = joined-append codes (code ∷ []) ∙ ap (stmts_append (joined codes)) (joined-one code)

pub joined_map_more : {A : Type 0} (f : A → StmtTrees) (xs : List A) (i : ℕ) (d : A) → i < length xs →
    joined (map f (take (i + 1) xs)) ≡ stmts_append (joined (map f (take i xs))) (f (get_or xs i d))
joined_map_more f xs i d inside = ap joined (map_more f xs i d inside) ∙ joined-more (map f (take i xs)) (f (get_or xs i d))

-- a step of a loop over a list
pub joined_next : {A : Type 0} (f : A → StmtTrees) (xs : List A) (k : ℕ) (x : A) (so_far code now : StmtTrees) → k < length xs →
    x ≡ get_or xs k x → code ≡ f x →
    so_far ≡ joined (map f (take k xs)) → now ≡ stmts_append so_far code → now ≡ joined (map f (take (k + 1) xs))
joined_next f xs k x so_far code now inside read told before is =
    is ∙ ap₂ stmts_append before (told ∙ ap f read) ∙ sym (joined_map_more f xs k x inside)
