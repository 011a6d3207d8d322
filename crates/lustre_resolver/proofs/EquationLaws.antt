-- Names that a call gives, and equations, one after another.
use Rattle.std.proofs.Common.{◌≡◌, refl, ◌∙◌, ap, ℕ, List, [], ◌∷◌, ◌++◌, Result, Ok, Err}
use Rattle.base_core.specs.Results.{◌>>=◌}
use Rattle.c_syntax.specs.declared.fault.CFault.{CFault}
use Rattle.c_syntax.specs.declared.fault.CKind.{CKind}
use Rattle.c_rules.specs.Resolve.{on_line}
use Rattle.lustre_syntax.specs.Tree.{EquationTree, given_by}
use Rattle.lustre_grammar.specs.Written.{WrittenEquation}
use Rattle.lustre_rules.specs.Resolve.{Scope, resolve_given, resolve_all_given, resolve_equation, resolve_equations}
use Rattle.lustre_resolver.proofs.Walks.{walk}

-- names that are given one after another, and equations
abbrev pub given_next : Scope → ℕ → Scope
given_next scope k = record scope { given = scope.given ++ k ∷ [] }

abbrev pub equation_next : Scope → EquationTree → Scope
equation_next scope x = record scope { given = scope.given ++ given_by x }

abbrev pub given_at : ℕ → Scope → List ℕ → Result ℕ CFault
given_at line scope text = on_line line (resolve_given scope text)

pub given-walk : (line : ℕ) (scope : Scope) (texts : List (List ℕ)) →
    on_line line (resolve_all_given scope texts) ≡ walk (given_at line) given_next scope texts
given-walk line scope [] = refl
given-walk line scope (text ∷ texts) = by (resolve_given scope text) (λ k. given-walk line (given_next scope k) texts)
  where
    more : (k : ℕ) (r : Result (List ℕ) CKind) → on_line line (r >>= λ ks. Ok (k ∷ ks)) ≡ (on_line line r >>= λ ks. Ok (k ∷ ks))
    more k (Ok ks) = refl
    more k (Err kind) = refl

    by : (r : Result ℕ CKind) →
        ((k : ℕ) → on_line line (resolve_all_given (given_next scope k) texts) ≡ walk (given_at line) given_next (given_next scope k) texts) →
        on_line line (r >>= λ k. resolve_all_given (given_next scope k) texts >>= λ ks. Ok (k ∷ ks))
        ≡ (on_line line r >>= λ k. walk (given_at line) given_next (given_next scope k) texts >>= λ ks. Ok (k ∷ ks))
    by (Ok k) later = more k (resolve_all_given (given_next scope k) texts) ∙ ap (λ r. r >>= λ ks. Ok (k ∷ ks)) (later k)
    by (Err kind) later = refl

pub equations-walk : (scope : Scope) (es : List WrittenEquation) →
    resolve_equations scope es ≡ walk resolve_equation equation_next scope es
equations-walk scope [] = refl
equations-walk scope (e ∷ es) = by (resolve_equation scope e) (λ x. equations-walk (equation_next scope x) es)
  where
    by : (r : Result EquationTree CFault) →
        ((x : EquationTree) → resolve_equations (equation_next scope x) es ≡ walk resolve_equation equation_next (equation_next scope x) es) →
        (r >>= λ x. resolve_equations (equation_next scope x) es >>= λ xs. Ok (x ∷ xs))
        ≡ (r >>= λ x. walk resolve_equation equation_next (equation_next scope x) es >>= λ xs. Ok (x ∷ xs))
    by (Ok x) later = ap (λ r. r >>= λ xs. Ok (x ∷ xs)) (later x)
    by (Err fault) later = refl
