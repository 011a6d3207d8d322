-- Flags of the functions that code needs.
use Rattle.std.specs.Prelude.{◌≡◌, ℕ, suc, ◌+◌, ◌<◌, ◌≤◌, ◌&&◌, nat_lt, Bool, true, false, MatchBool, List, [], ◌∷◌, ◌++◌, map, length, replicate, flat_map, if◌then◌else◌}
use Rattle.std.proofs.Common.{refl, sym, ap, subst, ◌∙◌, arith, take, drop, get_or}
use Rattle.std.proofs.lemmas.Bool.Decides.{nat_tests}
use Rattle.std.proofs.lemmas.List.{drop_more, get_or_past}
use Rattle.c_syntax.specs.declared.code.Expr.{Expr}
use Rattle.c_syntax.specs.declared.code.Stmt.{Stmt}
use Rattle.c_syntax.specs.declared.program.Procedure.{Procedure}
use Rattle.c_syntax.specs.Tree.{PureTree, exprs_of_list, stmts_of_list}
use Rattle.c_syntax.specs.Plain.{expr_tree, stmt_tree, procedure_tree}
use Rattle.c_renaming.proofs.lemmas.OneByOne.{done-all}
use Rattle.emit_pruned.specs.Calls.{expr_functions, exprs_functions, stmt_functions, stmts_functions, procedures_functions}
use Rattle.emit_pruned.specs.Needed.{has_number, needed_from}
use Rattle.emit_pruned.specs.Marks.{marked, flag_at, flags_of}
use Rattle.emit_pruned.proofs.lemmas.Flags.{marked_append, flags-inside, flags-length}

-- flags that are set by two parts of code
pub marked_two : (flags middle last : List Bool) (ks js : List ℕ) → middle ≡ marked flags ks → last ≡ marked middle js →
    last ≡ marked flags (ks ++ js)
marked_two flags middle last ks js one other = other ∙ ap (λ f. marked f js) one ∙ sym (marked_append flags ks js)

-- ---- Loops

exprs-flat : (es : List Expr) → flat_map (λ e. expr_functions (expr_tree e)) es ≡ exprs_functions (exprs_of_list (map expr_tree es))
exprs-flat [] = refl
exprs-flat (e ∷ es) = ap (λ ks. expr_functions (expr_tree e) ++ ks) (exprs-flat es)

stmts-flat : (ss : List Stmt) → flat_map (λ s. stmt_functions (stmt_tree s)) ss ≡ stmts_functions (stmts_of_list (map stmt_tree ss))
stmts-flat [] = refl
stmts-flat (s ∷ ss) = ap (λ ks. stmt_functions (stmt_tree s) ++ ks) (stmts-flat ss)

procedures-flat : (qs : List Procedure) →
    flat_map (λ q. stmts_functions (procedure_tree q).body) qs ≡ procedures_functions (map procedure_tree qs)
procedures-flat [] = refl
procedures-flat (q ∷ qs) = ap (λ ks. stmts_functions (procedure_tree q).body ++ ks) (procedures-flat qs)

pub exprs-done : (es : List Expr) (i : ℕ) (flags last : List Bool) → length es ≤ i →
    last ≡ marked flags (flat_map (λ e. expr_functions (expr_tree e)) (take i es)) →
    last ≡ marked flags (exprs_functions (exprs_of_list (map expr_tree es)))
exprs-done es i flags last all is =
    done-all marked marked_append (λ (e : Expr). expr_functions (expr_tree e)) es i flags last
    (exprs_functions (exprs_of_list (map expr_tree es))) all (exprs-flat es) is

pub stmts-done : (ss : List Stmt) (i : ℕ) (flags last : List Bool) → length ss ≤ i →
    last ≡ marked flags (flat_map (λ s. stmt_functions (stmt_tree s)) (take i ss)) →
    last ≡ marked flags (stmts_functions (stmts_of_list (map stmt_tree ss)))
stmts-done ss i flags last all is =
    done-all marked marked_append (λ (s : Stmt). stmt_functions (stmt_tree s)) ss i flags last
    (stmts_functions (stmts_of_list (map stmt_tree ss))) all (stmts-flat ss) is

pub procedures-done : (qs : List Procedure) (i : ℕ) (flags last : List Bool) → length qs ≤ i →
    last ≡ marked flags (flat_map (λ q. stmts_functions (procedure_tree q).body) (take i qs)) →
    last ≡ marked flags (procedures_functions (map procedure_tree qs))
procedures-done qs i flags last all is =
    done-all marked marked_append (λ (q : Procedure). stmts_functions (procedure_tree q).body) qs i flags last
    (procedures_functions (map procedure_tree qs)) all (procedures-flat qs) is

-- ---- Which flags are set

-- the flag at a position, by what is known of it
pub flags-are : (n : ℕ) (ks : List ℕ) (k : ℕ) → flag_at (flags_of n ks) k ≡ (nat_lt k n && has_number ks k)
flags-are n ks k = by (nat_lt k n) refl
  where
    by : (b : Bool) → nat_lt k n ≡ b → flag_at (flags_of n ks) k ≡ (b && has_number ks k)
    by true e = flags-inside n ks k (grind (arith, nat_tests))
    by false e =
        get_or_past (flags_of n ks) k false
        (let long = flags-length n ks in let past : n ≤ k = grind (arith, nat_tests) in omega (arith, long, past))

-- ---- What is needed, from the last to the first

drop-at : {A : Type 0} (xs : List A) (i : ℕ) (d : A) → i < length xs → drop i xs ≡ get_or xs i d ∷ drop (suc i) xs
drop-at xs i d inside =
    drop_more xs i d inside ∙ ap (λ m. get_or xs i d ∷ drop m xs) (let e : i + 1 ≡ suc i = omega arith in e)

pub needed-step : (later : List ℕ) (fs : List PureTree) (n k next : ℕ) (f : PureTree) (before after : List Bool) → suc k ≡ next →
    k < length fs → length fs ≡ n → f ≡ get_or fs k f →
    before ≡ flags_of n (needed_from later next (drop next fs)) →
    MatchBool (flag_at before k) (after ≡ marked before (expr_functions f.body)) (after ≡ before) →
    after ≡ flags_of n (needed_from later k (drop k fs))
needed-step later fs n k next f before after step inside count read is change =
    by (has_number rest k)
    (subst (λ b. MatchBool b (after ≡ marked before (expr_functions f.body)) (after ≡ before))
    (ap (λ flags. flag_at flags k) marks ∙ flags-inside n rest k (omega (arith, inside, count))) change)
    ∙ ap (λ xs. flags_of n (needed_from later k xs)) (sym (drop-at fs k f inside ∙ ap (λ x. x ∷ drop (suc k) fs) (sym read)))
  where
    rest : List ℕ
    rest = needed_from later (suc k) (drop (suc k) fs)

    marks : before ≡ flags_of n rest
    marks = is ∙ ap (λ m. flags_of n (needed_from later m (drop m fs))) (sym step)

    by : (b : Bool) → MatchBool b (after ≡ marked before (expr_functions f.body)) (after ≡ before) →
        after ≡ flags_of n (rest ++ (if b then expr_functions f.body else []))
    by true change =
        change ∙ ap (λ flags. marked flags (expr_functions f.body)) marks
        ∙ sym (marked_append (replicate n false) rest (expr_functions f.body))
    by false change = change ∙ marks ∙ sym (marked_append (replicate n false) rest [])
