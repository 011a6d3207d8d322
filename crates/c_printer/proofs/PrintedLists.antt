-- The texts of lists, item by item.
use Rattle.std.proofs.Common.{◌≡◌, refl, sym, ◌∙◌, ap, ℕ, suc, ◌+◌, ◌<◌, ◌≤◌, ◌≢◌, ◌⊎◌, inl, inr, min, List, [], ◌∷◌, ◌++◌, length, drop, get_or, drop-cons, map, codes, arith}
use Rattle.std.specs.List.{flat_map, enumerate_from}
use Rattle.std.proofs.lemmas.List.{append_assoc, drop_all}
use Rattle.std.proofs.lemmas.Bool.{cases_lt}
use Rattle.c_syntax.specs.declared.code.CType.{CType}
use Rattle.c_syntax.specs.declared.code.Expr.{Expr}
use Rattle.c_syntax.specs.declared.code.Cond.{Cond}
use Rattle.c_syntax.specs.declared.code.Stmt.{Stmt}
use Rattle.c_grammar.specs.Grammar.{type_text}
use Rattle.c_syntax.specs.Tree.{ExprTree, StmtTrees, item, branch, FieldTree, StructTree, struct_fields, PureTree, ProcedureTree, ProgramTree, ExprTrees, no_exprs, more_exprs, exprs_of_list, stmts_of_list}
use Rattle.c_syntax.specs.Plain.{expr_tree, cond_tree, stmt_tree}
use Rattle.c_printer.specs.Lines.{margin_bytes, ended, note_line}
use Rattle.c_printer.specs.Notes.{Notes, note_at, notes_on}
use Rattle.c_printer.specs.Printing.{Vocabulary, field_name, expr_bytes, cond_bytes, later_exprs_bytes, arguments_bytes, stored_bytes, item_store_bytes, noted_stmt_bytes, noted_stmts_bytes, noted_else_bytes, pure_head_bytes, pure_bytes, noted_field_bytes, noted_struct_bytes, procedure_head_bytes, noted_procedure_bytes, deeper}

pub later_exprs_bytes-flat : (v : Vocabulary) (es : List Expr) →
    later_exprs_bytes v (exprs_of_list (map expr_tree es)) ≡ flat_map (λ e. codes ", " ++ expr_bytes v (expr_tree e)) es
later_exprs_bytes-flat v [] = refl
later_exprs_bytes-flat v (e ∷ es) = ap (λ x. (codes ", " ++ expr_bytes v (expr_tree e)) ++ x) (later_exprs_bytes-flat v es)

pub stmts_bytes-flat : (notes : List (List ℕ)) (v : Vocabulary) (margin : ℕ) (ss : List Stmt) →
    noted_stmts_bytes notes v margin (stmts_of_list (map stmt_tree ss))
    ≡ flat_map (λ s. noted_stmt_bytes notes v margin (stmt_tree s)) ss
stmts_bytes-flat notes v margin [] = refl
stmts_bytes-flat notes v margin (s ∷ ss) =
    ap (λ x. noted_stmt_bytes notes v margin (stmt_tree s) ++ x) (stmts_bytes-flat notes v margin ss)

-- an item of an array
pub item_bytes-put : (v : Vocabulary) (f : ℕ) (e index read : Expr)
    (out with_start name with_name with_open with_index : List ℕ) → expr_tree e ≡ item f (expr_tree index) →
    read ≡ index → name ≡ field_name v.fields f → with_start ≡ out ++ codes "(int64_t)s->" →
    with_name ≡ with_start ++ name → with_open ≡ with_name ++ codes "[" →
    with_index ≡ with_open ++ expr_bytes v (expr_tree read) →
    with_index ++ codes "]" ≡ out ++ expr_bytes v (expr_tree e)
item_bytes-put v f e index read out with_start name with_name with_open with_index is same named a b c d =
    rw (is, d, c, b, a, named, same)
    (regrouped out (codes "(int64_t)s->") (field_name v.fields f) (codes "[") (expr_bytes v (expr_tree index))
    (codes "]"))
  where
    regrouped : (o s n b i c : List ℕ) → ((((o ++ s) ++ n) ++ b) ++ i) ++ c ≡ o ++ ((((s ++ n) ++ b) ++ i) ++ c)
    regrouped o s n b i c = simp append_assoc

-- a store in an item of an array
pub item_store_bytes-put : (v : Vocabulary) (f : ℕ) (index value : ExprTree)
    (out with_start name with_name with_open with_index with_close : List ℕ) →
    name ≡ field_name v.fields f → with_start ≡ out ++ codes "s->" →
    with_name ≡ with_start ++ name → with_open ≡ with_name ++ codes "[" → with_index ≡ with_open ++ expr_bytes v index →
    with_close ≡ with_index ++ codes "] = (" →
    with_close ++ stored_bytes v f value ≡ out ++ item_store_bytes v f index value
item_store_bytes-put v f index value out with_start name with_name with_open with_index with_close named b c d e g =
    rw (g, e, d, c, b, named) (regrouped out (codes "s->") (field_name v.fields f) (codes "[")
    (expr_bytes v index) (codes "] = (") (stored_bytes v f value))
  where
    regrouped : (o s n b i c t : List ℕ) → (((((o ++ s) ++ n) ++ b) ++ i) ++ c) ++ t ≡ o ++ (((((s ++ n) ++ b) ++ i) ++ c) ++ t)
    regrouped o s n b i c t = simp append_assoc

-- a second block that is not empty
pub else_bytes-put : (notes : List (List ℕ)) (v : Vocabulary) (margin : ℕ) (ss : List Stmt) (out with_margin with_else : List ℕ)
    (inner : ℕ) → length ss ≢ 0 → with_margin ≡ out ++ margin_bytes margin → with_else ≡ with_margin ++ ended (codes "} else {") →
    inner ≡ deeper margin → with_else ++ noted_stmts_bytes notes v inner (stmts_of_list (map stmt_tree ss)) ≡ out
    ++ noted_else_bytes notes v margin (stmts_of_list (map stmt_tree ss))
else_bytes-put notes v margin [] out with_margin with_else inner some e d k = absurd (some refl)
else_bytes-put notes v margin (s ∷ ss) out with_margin with_else inner some e d k =
    rw (d, e, k)
    (regrouped out (margin_bytes margin) (ended (codes "} else {")) (noted_stmt_bytes notes v (deeper margin) (stmt_tree s))
    (noted_stmts_bytes notes v (deeper margin) (stmts_of_list (map stmt_tree ss))))
  where
    regrouped : (o m b x y : List ℕ) → ((o ++ m) ++ b) ++ (x ++ y) ≡ o ++ ((m ++ b) ++ (x ++ y))
    regrouped o m b x y = simp append_assoc

-- a choice
pub branch_bytes-put : (notes : List (List ℕ)) (v : Vocabulary) (margin : ℕ) (test : Cond) (on_true on_false : List Stmt)
    (out with_test with_yes with_no : List ℕ) (inner : ℕ) (yes_read no_read : List Stmt) →
    with_test ≡ out ++ (margin_bytes margin ++ codes "if " ++ cond_bytes v (cond_tree test) ++ ended (codes " {")) →
    with_yes ≡ with_test ++ noted_stmts_bytes notes v inner (stmts_of_list (map stmt_tree yes_read)) →
    with_no ≡ with_yes ++ noted_else_bytes notes v margin (stmts_of_list (map stmt_tree no_read)) → inner ≡ deeper margin →
    yes_read ≡ on_true → no_read ≡ on_false → with_no ++ (margin_bytes margin ++ ended (codes "}")) ≡ out
    ++ noted_stmt_bytes notes v margin
    (branch 0 (cond_tree test) (stmts_of_list (map stmt_tree on_true)) (stmts_of_list (map stmt_tree on_false)))
branch_bytes-put notes v margin test on_true on_false out with_test with_yes with_no inner yes_read no_read e d k i y n =
    rw (k, d, e, i, y, n)
    (regrouped out (margin_bytes margin ++ codes "if " ++ cond_bytes v (cond_tree test) ++ ended (codes " {"))
    (noted_stmts_bytes notes v (deeper margin) (stmts_of_list (map stmt_tree on_true)))
    (noted_else_bytes notes v margin (stmts_of_list (map stmt_tree on_false))) (margin_bytes margin) (ended (codes "}")))
  where
    regrouped : (o t y n m z : List ℕ) → (((o ++ t) ++ y) ++ n) ++ (m ++ z) ≡ o ++ ((((t ++ y) ++ n) ++ m) ++ z)
    regrouped o t y n m z = simp append_assoc

-- the arguments from a position on
abbrev pub arguments_after : {A : Type 0} → Vocabulary → List (A × CType) → List Expr → ℕ → List ℕ
arguments_after v params values n = arguments_bytes v (map (λ q. q.1) (drop n params)) (exprs_of_list (map expr_tree (drop n values)))

-- one more argument
pub arguments_after-more : {A : Type 0} (v : Vocabulary) (params : List (A × CType)) (values : List Expr) (n m : ℕ)
    (p : A × CType) (e : Expr) (type out after_open after_type after_close after_value : List ℕ) → n < length params →
    n < length values → p ≡ get_or params n p → e ≡ get_or values n e → m ≡ n + 1 → type ≡ type_text p.1 →
    after_open ≡ out ++ codes ", (" → after_type ≡ after_open ++ type → after_close ≡ after_type ++ codes ")" →
    after_value ≡ after_close ++ expr_bytes v (expr_tree e) → after_value ++ arguments_after v params values m ≡ out
    ++ arguments_after v params values n
arguments_after-more v params values n m p e type out after_open after_type after_close after_value in_params in_values
    this_param this_value next t a b c d =
    let step : suc n ≡ m = omega arith in
    let params_drop : drop n params ≡ p ∷ drop m params = drop-cons params n p in_params
    ∙ ap (λ x. x ∷ drop (suc n) params) (sym this_param) ∙ ap (λ k. p ∷ drop k params) step in
    let values_drop : drop n values ≡ e ∷ drop m values = drop-cons values n e in_values
    ∙ ap (λ x. x ∷ drop (suc n) values) (sym this_value) ∙ ap (λ k. e ∷ drop k values) step in
    rw (params_drop, values_drop, d, c, b, a, t) (simp append_assoc)

-- no arguments where there are no types
pub arguments_bytes-none : (v : Vocabulary) (es : ExprTrees) → arguments_bytes v [] es ≡ []
arguments_bytes-none v no_exprs = refl
arguments_bytes-none v (more_exprs e es) = refl

-- the end of the arguments
pub arguments_after-end : {A : Type 0} (v : Vocabulary) (params : List (A × CType)) (values : List Expr) (n : ℕ) →
    n ≡ min (length params) (length values) → arguments_after v params values n ≡ []
arguments_after-end v params values n end = by (cases_lt n (length params))
  where
    by : (n < length params) ⊎ (length params ≤ n) → arguments_after v params values n ≡ []
    by (inl more) = rw (drop_all n values (omega (arith, end, more))) refl
    by (inr done) = rw (drop_all n params done) (arguments_bytes-none v (exprs_of_list (map expr_tree (drop n values))))

-- a pure function
pub pure_bytes-put : (p : ProgramTree) (q : PureTree) (params : List (List ℕ))
    (out with_head with_return with_body : List ℕ) → with_head ≡ out ++ pure_head_bytes q →
    with_return ≡ with_head ++ codes "    return " →
    with_body ≡ with_return ++ expr_bytes (record { program = p; fields = []; params = params }) q.body →
    params ≡ q.params → with_body ++ (ended (codes ";") ++ ended (codes "}")) ≡ out ++ pure_bytes p q
pure_bytes-put p q params out with_head with_return with_body a b c same =
    rw (c, b, a, same)
    (regrouped out (pure_head_bytes q) (codes "    return ")
    (expr_bytes (record { program = p; fields = []; params = q.params }) q.body) (ended (codes ";"))
    (ended (codes "}")))
  where
    regrouped : (o h r e y z : List ℕ) → (((o ++ h) ++ r) ++ e) ++ (y ++ z) ≡ o ++ ((((h ++ r) ++ e) ++ y) ++ z)
    regrouped o h r e y z = simp append_assoc

-- a procedure
pub procedure_bytes-put : (p : ProgramTree) (notes : Notes) (k : ℕ) (q : ProcedureTree) (fields : List FieldTree)
    (params on : List (List ℕ)) (note out with_head with_body : List ℕ) (body : StmtTrees) →
    with_head ≡ out ++ procedure_head_bytes p note q →
    with_body ≡ with_head ++ noted_stmts_bytes on (record { program = p; fields = fields; params = params }) 4 body →
    note ≡ note_at notes.procedures k → on ≡ (notes_on notes q.of).fields →
    fields ≡ struct_fields p.structs q.of → params ≡ map (λ x. x.name) q.params → body ≡ q.body →
    with_body ++ ended (codes "}") ≡ out ++ noted_procedure_bytes p notes (k, q)
procedure_bytes-put p notes k q fields params on note out with_head with_body body a b same_note same_on same_fields same_params same_body =
    rw (b, a, same_note, same_on, same_fields, same_params, same_body)
    (regrouped out (procedure_head_bytes p (note_at notes.procedures k) q)
    (noted_stmts_bytes (notes_on notes q.of).fields
    (record { program = p; fields = struct_fields p.structs q.of; params = map (λ x. x.name) q.params }) 4
    q.body) (ended (codes "}")))
  where
    regrouped : (o h b z : List ℕ) → ((o ++ h) ++ b) ++ z ≡ o ++ ((h ++ b) ++ z)
    regrouped o h b z = simp append_assoc

-- a struct
pub struct_bytes-put : (p : ProgramTree) (notes : Notes) (k : ℕ) (d : StructTree) (on : List (List ℕ)) (fields : List FieldTree)
    (note name out with_line with_note with_struct with_name with_open with_fields : List ℕ) →
    with_line ≡ out ++ ended [] → with_note ≡ with_line ++ note_line 0 note → with_struct ≡ with_note ++ codes "struct " →
    with_name ≡ with_struct ++ name → with_open ≡ with_name ++ ended (codes " {") →
    with_fields ≡ with_open ++ flat_map (noted_field_bytes p on) (enumerate_from 0 fields) →
    note ≡ (notes_on notes k).above → name ≡ d.name → on ≡ (notes_on notes k).fields → fields ≡ d.fields →
    with_fields ++ ended (codes "};") ≡ out ++ noted_struct_bytes p notes (k, d)
struct_bytes-put p notes k d on fields note name out with_line with_note with_struct with_name with_open with_fields a b c e g h
    same_note same_name same_on same_fields =
    rw (h, g, e, c, b, a, same_note, same_name, same_on, same_fields)
    (regrouped out (ended []) (note_line 0 (notes_on notes k).above) (codes "struct ") d.name (ended (codes " {"))
    (flat_map (noted_field_bytes p (notes_on notes k).fields) (enumerate_from 0 d.fields)) (ended (codes "};")))
  where
    regrouped : (o l n s m b f z : List ℕ) → ((((((o ++ l) ++ n) ++ s) ++ m) ++ b) ++ f) ++ z
        ≡ o ++ ((((((l ++ n) ++ s) ++ m) ++ b) ++ f) ++ z)
    regrouped o l n s m b f z = simp append_assoc
