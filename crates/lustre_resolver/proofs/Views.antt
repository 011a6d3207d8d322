-- Lists of declared names, equations and nodes as the rules see them.
use Rattle.std.proofs.Common.{◌≡◌, refl, sym, ◌∙◌, ap, ap₂, ℕ, ◌+◌, ◌<◌, Bool, ◌&&◌, List, [], ◌∷◌, ◌++◌, length, map, flat_map, take, drop, get_or, zero, suc, ◌≤◌, true, false, nat_eq, arith, Result, Ok, Err}
use Rattle.std.specs.List.{list_all}
use Rattle.std.proofs.lemmas.Bool.{eq-eqb, ne_eqb, eqb-true, eqb-false}
use Rattle.std.proofs.lemmas.List.{map-append, flat_map_more, take_more}
use Rattle.std.proofs.lemmas.List.Folds.{list_all-map, list_all-append}
use Rattle.base_core.specs.Results.{◌>>=◌}
use Rattle.c_syntax.specs.Outputs.{has_name}
use Rattle.c_rules.proofs.lemmas.Each.{each}
use Rattle.lustre_syntax.specs.Tree.{int}
use Rattle.lustre_syntax.specs.Typing.{same_type}
use Rattle.lustre_grammar.specs.declared.written.LusWrittenDecl.{LusWrittenDecl}
use Rattle.lustre_grammar.specs.declared.written.LusWrittenEq.{LusWrittenEq}
use Rattle.lustre_grammar.specs.Written.{WrittenDeclared}
use Rattle.lustre_grammar.specs.declared.written.LusWrittenExpr.{LusWrittenExpr}
use Rattle.lustre_grammar.specs.declared.written.LusWrittenNode.{LusWrittenNode}
use Rattle.lustre_grammar.specs.WrittenTrees.{declared_of, expr_of, equation_of, node_of}
use Rattle.lustre_rules.specs.Resolve.{is_end, resolve_expr, resolve_exprs, written_given}

-- names that are in a table are in a list with the same names
pub all-named : (table names : List (List ℕ)) → ((n : List ℕ) → has_name table n ≡ has_name names n) → (ds : List LusWrittenDecl) →
    list_all (λ d. has_name table d.name.now) ds ≡ list_all (λ d. has_name names d.text) (map declared_of ds)
all-named table names same [] = refl
all-named table names same (d ∷ ds) = ap₂ (λ a b. a && b) (same d.name.now) (all-named table names same ds)

pub named-both : (table names : List (List ℕ)) → ((n : List ℕ) → has_name table n ≡ has_name names n) →
    (ds es : List LusWrittenDecl) →
    (list_all (λ d. has_name table d.name.now) ds && list_all (λ d. has_name table d.name.now) es)
    ≡ list_all (λ d. has_name names d.text) (map declared_of ds ++ map declared_of es)
named-both table names same ds es =
    ap₂ (λ a b. a && b) (all-named table names same ds) (all-named table names same es)
    ∙ sym (list_all-append (λ (d : WrittenDeclared). has_name names d.text) (map declared_of ds) (map declared_of es))

pub ints-both : (ds es : List LusWrittenDecl) →
    (list_all (λ d. same_type d.is_bool int) ds && list_all (λ d. same_type d.is_bool int) es)
    ≡ list_all (λ d. same_type d.type int) (map declared_of ds ++ map declared_of es)
ints-both ds es =
    ap₂ (λ a b. a && b) (sym (list_all-map (λ (d : WrittenDeclared). same_type d.type int) declared_of ds))
    (sym (list_all-map (λ (d : WrittenDeclared). same_type d.type int) declared_of es))
    ∙ sym (list_all-append (λ (d : WrittenDeclared). same_type d.type int) (map declared_of ds) (map declared_of es))

-- what one more equation gives
pub given-more : (es : List LusWrittenEq) (i : ℕ) (e : LusWrittenEq) → i < length es → e ≡ get_or es i e →
    flat_map written_given (map equation_of (take i es)) ++ written_given (equation_of e)
    ≡ flat_map written_given (map equation_of (take (i + 1) es))
given-more es i e within here =
    flat_map_more written_given [] (map equation_of (take i es)) (equation_of e)
    ∙ ap (flat_map written_given)
    (sym (map-append equation_of (take i es) (e ∷ [])) ∙ ap (λ x. map equation_of (take i es ++ x ∷ [])) here
    ∙ ap (map equation_of) (sym (take_more es i e within)))

-- expressions, each by itself
pub exprs-each : (texts : List (List ℕ)) (es : List LusWrittenExpr) →
    resolve_exprs texts (map expr_of es) ≡ each (λ e. resolve_expr texts (expr_of e)) es
exprs-each texts [] = refl
exprs-each texts (e ∷ es) =
    ap (λ r. resolve_expr texts (expr_of e) >>= λ x. r >>= λ xs. Ok (x ∷ xs)) (exprs-each texts es)

pub themselves : {A E : Type 0} (r : Result A E) → r ≡ (r >>= λ x. Ok x)
themselves (Ok x) = refl
themselves (Err fault) = refl

-- whether nothing follows a node
pub end-at : (ns : List LusWrittenNode) (k : ℕ) → k ≤ length ns → is_end (map node_of (drop k ns)) ≡ nat_eq k (length ns)
end-at [] zero within = refl
end-at [] (suc k) within = absurd (omega (arith, within))
end-at (n ∷ ns) zero within = sym (ne_eqb 0 (suc (length ns)) (λ e. absurd (omega (arith, e))))
end-at (n ∷ ns) (suc k) within = end-at ns k (omega (arith, within)) ∙ by (nat_eq k (length ns)) refl
  where
    by : (b : Bool) → nat_eq k (length ns) ≡ b → b ≡ nat_eq (suc k) (suc (length ns))
    by true e = sym (eq-eqb (suc k) (suc (length ns)) (ap suc (eqb-true k (length ns) e)))
    by false e = sym (ne_eqb (suc k) (suc (length ns)) (λ f. eqb-false k (length ns) e (omega (arith, f))))
