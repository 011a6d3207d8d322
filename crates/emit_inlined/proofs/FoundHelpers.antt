-- What is found of helpers, and of what is passed to them, one after another.
use Rattle.std.specs.Prelude.{◌≡◌, ℕ, zero, suc, ◌+◌, ◌<◌, ◌≤◌, ◌==◌, nat_lt, not, Bool, true, false, ◌&&◌, ◌||◌, if◌then◌else◌, List, [], ◌∷◌, ◌++◌, map, length, flat_map, slice_index, slice_index_or, Option, Some, None, option_map, option_and_then}
use Rattle.std.proofs.Common.{refl, sym, ap, ◌∙◌, arith, take, get_or}
use Rattle.std.proofs.Math.Seq.{get_or-append_seam}
use Rattle.std.proofs.lemmas.Bool.Decides.{nat_tests}
use Rattle.std.proofs.lemmas.List.{get_or_append_left, get_or_past, get_or-map, length-map, take_all, take_more}
use Rattle.std.proofs.lemmas.Option.{same_Some}
use Rattle.c_syntax.specs.declared.code.Expr.{Expr}
use Rattle.c_syntax.specs.declared.code.Stmt.{Stmt}
use Rattle.c_syntax.specs.declared.program.Procedure.{Procedure}
use Rattle.c_syntax.specs.Tree.{StmtTrees, no_stmts, more_stmts, ProcedureTree, ProgramTree, exprs_of_list, stmts_of_list}
use Rattle.c_syntax.specs.Plain.{expr_tree, stmt_tree, procedure_tree}
use Rattle.c_semantics.specs.Machine.{is_interface}
use Rattle.emit_pruned.specs.Needed.{has_number}
use Rattle.emit_pruned.specs.Marks.{flag_at}
use Rattle.emit_pruned.proofs.lemmas.Flags.{flags-inside, flags-length}
use Rattle.emit_inlined.specs.Inlined.{stmts_calls, call_count, no_procedure, procedure_at, is_root_name, is_helper, param_of, params_of, inlined_helpers, stays, place, inlined_procedure}
use Rattle.emit_inlined.specs.Steps.{is_helper_of, helper_at, counts_of, call_by, helpers_by, stmt_helpers, inlined_flags, is_kept, procedure_by}
use Rattle.emit_inlined.proofs.CountLaws.{counted-once}
use Rattle.emit_inlined.proofs.lemmas.CallCounts.{inlined-is}

-- ---- Flags of helpers

tree-at : (qs : List Procedure) (i : ℕ) (q : Procedure) → i < length qs → q ≡ get_or qs i q →
    slice_index_or (map procedure_tree qs) i no_procedure ≡ procedure_tree q
tree-at qs i q inside read = get_or-map procedure_tree qs i q no_procedure inside ∙ ap procedure_tree (sym read)

-- the flags of the first procedures
abbrev pub AreFound : List ℕ → List Procedure → List Bool → ℕ → Type 0
AreFound counts qs flags count = (k : ℕ) → k < count → flag_at flags k ≡ helper_at counts (map procedure_tree qs) k

pub found-more : (counts : List ℕ) (qs : List Procedure) (flags new : List Bool) (i : ℕ) (q : Procedure) (b : Bool) → i < length qs →
    q ≡ get_or qs i q → length flags ≡ i → new ≡ flags ++ b ∷ [] → b ≡ is_helper_of (procedure_tree q) (slice_index counts i) →
    AreFound counts qs flags i →
    AreFound counts qs new (i + 1)
found-more counts qs flags new i q b inside read long made is before k below = ap (λ fs. flag_at fs k) made ∙ by (nat_lt k i) refl
  where
    by : (c : Bool) → nat_lt k i ≡ c → flag_at (flags ++ b ∷ []) k ≡ helper_at counts (map procedure_tree qs) k
    by true e =
        let less : k < i = grind (arith, nat_tests) in
        get_or_append_left flags (b ∷ []) false k (omega (arith, less, long)) ∙ before k less
    by false e =
        let past : i ≤ k = grind (arith, nat_tests) in
        let at : k ≡ i = omega (arith, past, below) in
        ap (flag_at (flags ++ b ∷ [])) (at ∙ sym long) ∙ get_or-append_seam flags b [] false ∙ is
        ∙ ap (λ x. is_helper_of x (slice_index counts i)) (sym (tree-at qs i q inside read))
        ∙ ap (helper_at counts (map procedure_tree qs)) (sym at)

pub found-all : (counts : List ℕ) (qs : List Procedure) (flags : List Bool) (i : ℕ) → length qs ≤ i → length flags ≡ i →
    AreFound counts qs flags i → (k : ℕ) → flag_at flags k ≡ helper_at counts (map procedure_tree qs) k
found-all counts qs flags i all long found k = by (nat_lt k i) refl
  where
    by : (c : Bool) → nat_lt k i ≡ c → flag_at flags k ≡ helper_at counts (map procedure_tree qs) k
    by true e = found k (grind (arith, nat_tests))
    by false e =
        let past : i ≤ k = grind (arith, nat_tests) in
        get_or_past flags k false (omega (arith, past, long))
        ∙ ap (λ x. is_helper_of x (slice_index counts k))
        (sym (get_or_past (map procedure_tree qs) k no_procedure (let same = length-map qs procedure_tree in omega (arith, past, all, same))))

-- what is found by counts is a helper
pub helper-found : (p : ProgramTree) (k : ℕ) → helper_at (counts_of p.procedures) p.procedures k ≡ is_helper p k
helper-found p k = by (nat_lt k (length p.procedures)) refl
  where
    by : (b : Bool) → nat_lt k (length p.procedures) ≡ b → helper_at (counts_of p.procedures) p.procedures k ≡ is_helper p k
    by true e =
        ap (λ c. (procedure_at p k).private && c && not (is_interface (procedure_at p k).name || is_root_name (procedure_at p k).name))
        (counted-once (length p.procedures) (flat_map (λ (q : ProcedureTree). stmts_calls q.body) p.procedures) k
        (grind (arith, nat_tests)))
    by false e =
        let none = get_or_past p.procedures k no_procedure (let past : length p.procedures ≤ k = grind (arith, nat_tests) in past) in
        ap (λ (x : ProcedureTree). is_helper_of x (slice_index (counts_of p.procedures) k)) none
        ∙ sym (ap (λ (x : ProcedureTree). x.private && (call_count p k == 1) && not (is_interface x.name || is_root_name x.name)) none)

-- ---- Those that don't stay

pub stmts-helpers : (helpers : ℕ → Bool) (ss : List Stmt) →
    flat_map (λ s. stmt_helpers helpers (stmt_tree s)) ss ≡ helpers_by helpers (stmts_of_list (map stmt_tree ss))
stmts-helpers helpers [] = refl
stmts-helpers helpers (s ∷ ss) = by (call_by helpers (stmt_tree s)) (stmts-helpers helpers ss)
  where
    by : (o : Option (ℕ × List ℕ)) →
        flat_map (λ x. stmt_helpers helpers (stmt_tree x)) ss ≡ helpers_by helpers (stmts_of_list (map stmt_tree ss)) →
        (elim o [ Some found ↦ found.0 ∷ [] | None ↦ [] ]) ++ flat_map (λ x. stmt_helpers helpers (stmt_tree x)) ss
        ≡ elim o [
          | Some found ↦ found.0 ∷ helpers_by helpers (stmts_of_list (map stmt_tree ss))
          | None ↦ helpers_by helpers (stmts_of_list (map stmt_tree ss))
        ]
    by (Some found) rest = ap (λ ks. found.0 ∷ ks) rest
    by None rest = rest

-- what isn't marked stays
pub kept-as : (p : ProgramTree) (k : ℕ) → is_kept (inlined_flags (is_helper p) p.procedures) k ≡ stays p k
kept-as p k = by (nat_lt k (length p.procedures)) refl
  where
    past : length p.procedures ≤ k → (b : Bool) → stays p k ≡ b → true ≡ b
    past beyond true e = refl
    past beyond false e =
        let private = ap (λ (x : ProcedureTree). x.private) (get_or_past p.procedures k no_procedure beyond) in
        let is = (inlined-is p k e).private in absurd (let wrong : ⊥ = cc (sym private ∙ is) in wrong)

    by : (b : Bool) → nat_lt k (length p.procedures) ≡ b → is_kept (inlined_flags (is_helper p) p.procedures) k ≡ stays p k
    by true e = ap not (flags-inside (length p.procedures) (inlined_helpers p) k (grind (arith, nat_tests)))
    by false e =
        let beyond : length p.procedures ≤ k = grind (arith, nat_tests) in
        ap not (get_or_past (inlined_flags (is_helper p) p.procedures) k false
        (let long = flags-length (length p.procedures) (inlined_helpers p) in omega (arith, long, beyond)))
        ∙ past beyond (stays p k) refl

-- ---- What is passed on

abbrev pub params_in : List Expr → Option (List ℕ)
params_in es = params_of (exprs_of_list (map expr_tree es))

params-push : (es : List Expr) (x : Expr) (ks : List ℕ) (k : ℕ) → params_in es ≡ Some ks → param_of (expr_tree x) ≡ Some k →
    params_in (es ++ x ∷ []) ≡ Some (ks ++ k ∷ [])
params-push [] x ks k before is =
    ap (option_and_then (λ j. option_map (λ rest. j ∷ rest) (Some []))) is ∙ ap (λ xs. Some (xs ++ k ∷ [])) (same_Some [] ks before)
params-push (e ∷ es) x ks k before is =
    by (param_of (expr_tree e)) (params_in es) refl before (λ rest same. params-push es x rest k same is)
  where
    by : (o : Option ℕ) (p : Option (List ℕ)) → params_in es ≡ p → option_and_then (λ j. option_map (λ rest. j ∷ rest) p) o ≡ Some ks →
        ((rest : List ℕ) → params_in es ≡ Some rest → params_in (es ++ x ∷ []) ≡ Some (rest ++ k ∷ [])) →
        option_and_then (λ j. option_map (λ rest. j ∷ rest) (params_in (es ++ x ∷ []))) o ≡ Some (ks ++ k ∷ [])
    by None p at same next = absurd (let wrong : ⊥ = cc same in wrong)
    by (Some j) None at same next = absurd (let wrong : ⊥ = cc same in wrong)
    by (Some j) (Some rest) at same next =
        ap (option_map (λ others. j ∷ others)) (next rest at) ∙ ap (λ xs. Some (xs ++ k ∷ [])) (same_Some (j ∷ rest) ks same)

pub params-more : (es : List Expr) (i : ℕ) (x : Expr) (ks new : List ℕ) (k : ℕ) → i < length es → x ≡ get_or es i x →
    params_in (take i es) ≡ Some ks → param_of (expr_tree x) ≡ Some k → new ≡ ks ++ k ∷ [] → params_in (take (i + 1) es) ≡ Some new
params-more es i x ks new k inside read before is made =
    ap params_in (take_more es i x inside ∙ ap (λ y. take i es ++ y ∷ []) (sym read)) ∙ params-push (take i es) x ks k before is
    ∙ ap Some (sym made)

pub params-none : (es : List Expr) (i : ℕ) (x : Expr) → i < length es → x ≡ get_or es i x → param_of (expr_tree x) ≡ None →
    params_in es ≡ None
params-none [] i x inside read none = absurd (omega (arith, inside))
params-none (e ∷ es) zero x inside read none =
    ap (option_and_then (λ j. option_map (λ rest. j ∷ rest) (params_in es))) (ap (λ y. param_of (expr_tree y)) (sym read) ∙ none)
params-none (e ∷ es) (suc i) x inside read none =
    by (param_of (expr_tree e)) (params-none es i x (omega (arith, inside)) read none)
  where
    by : (o : Option ℕ) → params_in es ≡ None → option_and_then (λ j. option_map (λ rest. j ∷ rest) (params_in es)) o ≡ None
    by None rest = refl
    by (Some j) rest = ap (option_map (λ others. j ∷ others)) rest

pub params-all : (es : List Expr) (i : ℕ) (ks : List ℕ) → length es ≤ i → params_in (take i es) ≡ Some ks → Some ks ≡ params_in es
params-all es i ks all before = sym before ∙ ap params_in (take_all i es all)

-- the procedures of the new program, by what is found
pub as-inlined : (p : ProgramTree) → procedure_by p.procedures (is_helper p) (place p) ≡ inlined_procedure p
as-inlined p = refl
