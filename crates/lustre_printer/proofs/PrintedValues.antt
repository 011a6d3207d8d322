-- The names in printed expressions stand for what they are printed from, and types over names are those over places.
use Rattle.std.proofs.Common.{◌≡◌, refl, sym, ◌∙◌, ap, subst, ℕ, ◌<◌, List, [], ◌∷◌, ◌++◌, length, map, Ok, option_map, slice_get}
use Rattle.std.specs.List.{AllByRecursion}
use Rattle.std.proofs.lemmas.List.{length-map}
use Rattle.std.proofs.lemmas.Option.{slice_get-get_or}
use Rattle.lustre_syntax.specs.Tree.{ValueType, int, ExprTree, number, truth, name, negative, negation, two, choice, arrow, previous, Declared, texts_of, types_of, names_read}
use Rattle.lustre_syntax.specs.Lawful.{AreDistinct}
use Rattle.lustre_syntax.specs.Typing.{of_name, type_at, typing, fits, all_fit}
use Rattle.lustre_rules.specs.Resolve.{resolve_word, resolve_expr, resolve_exprs, word_type}
use Rattle.lustre_printer.proofs.Names.{position-name, place-name}
use Rattle.lustre_printer.proofs.PrintedEquations.{all-front, all-back}
use Rattle.lustre_printer.proofs.PrintedTrees.{word_at, written_expr}

abbrev pub IsWithin : List Declared → ExprTree → Type 0
IsWithin names e = AllByRecursion (λ k. k < length names) (names_read e)

module _ (names : List Declared) (distinct : AreDistinct (texts_of names)) (line : ℕ) where
  abbrev texts : List (List ℕ)
  texts = texts_of names

  in_texts : (k : ℕ) → k < length names → k < length texts
  in_texts k h = subst (λ n. k < n) (sym (length-map names (λ x. x.text))) h

  word-resolved : (k : ℕ) → k < length names → resolve_word texts (word_at texts line k) ≡ Ok k
  word-resolved k h = rw (place-name texts k distinct (in_texts k h)) refl

  pub expr-resolved : (e : ExprTree) → IsWithin names e → resolve_expr texts (written_expr texts line e) ≡ Ok e
  expr-resolved (number value) h = refl
  expr-resolved (truth value) h = refl
  expr-resolved (name k) h = rw (word-resolved k h.0) refl
  expr-resolved (negative a) h = rw (expr-resolved a h) refl
  expr-resolved (negation a) h = rw (expr-resolved a h) refl
  expr-resolved (two op a b) h =
      rw (expr-resolved a (all-front _ (names_read a) (names_read b) h), expr-resolved b (all-back _ (names_read a) (names_read b) h)) refl
  expr-resolved (choice test a b) h =
      let front : AllByRecursion (λ k. k < length names) (names_read test ++ names_read a) =
      all-front _ (names_read test ++ names_read a) (names_read b) h in
      rw (
        expr-resolved test (all-front _ (names_read test) (names_read a) front),
        expr-resolved a (all-back _ (names_read test) (names_read a) front),
        expr-resolved b (all-back _ (names_read test ++ names_read a) (names_read b) h),
      ) refl
  expr-resolved (arrow a b) h =
      rw (expr-resolved a (all-front _ (names_read a) (names_read b) h), expr-resolved b (all-back _ (names_read a) (names_read b) h)) refl
  expr-resolved (previous k) h = rw (word-resolved k h.0) refl

  pub exprs-resolved : (es : List ExprTree) → AllByRecursion (IsWithin names) es →
      resolve_exprs texts (map (written_expr texts line) es) ≡ Ok es
  exprs-resolved [] h = refl
  exprs-resolved (e ∷ es) h = rw (expr-resolved e h.0, exprs-resolved es h.1) refl

  word-typed : (k : ℕ) → k < length names → of_name (word_type names (word_at texts line k)) ≡ of_name (slice_get (types_of names) k)
  word-typed k h =
      ap (λ place. of_name (option_map (type_at (types_of names)) place)) (position-name texts k distinct (in_texts k h))
      ∙ ap of_name (sym (slice_get-get_or (types_of names) k int (subst (λ n. k < n) (sym (length-map names (λ x. x.type))) h)))

  expr-typed : (e : ExprTree) → IsWithin names e →
      typing (word_type names) (written_expr texts line e) ≡ typing (slice_get (types_of names)) e
  expr-typed (number value) h = refl
  expr-typed (truth value) h = refl
  expr-typed (name k) h = word-typed k h.0
  expr-typed (negative a) h = rw (expr-typed a h) refl
  expr-typed (negation a) h = rw (expr-typed a h) refl
  expr-typed (two op a b) h =
      rw (expr-typed a (all-front _ (names_read a) (names_read b) h), expr-typed b (all-back _ (names_read a) (names_read b) h)) refl
  expr-typed (choice test a b) h =
      let front : AllByRecursion (λ k. k < length names) (names_read test ++ names_read a) =
      all-front _ (names_read test ++ names_read a) (names_read b) h in
      rw (
        expr-typed test (all-front _ (names_read test) (names_read a) front),
        expr-typed a (all-back _ (names_read test) (names_read a) front),
        expr-typed b (all-back _ (names_read test ++ names_read a) (names_read b) h),
      ) refl
  expr-typed (arrow a b) h =
      rw (expr-typed a (all-front _ (names_read a) (names_read b) h), expr-typed b (all-back _ (names_read a) (names_read b) h)) refl
  expr-typed (previous k) h = word-typed k h.0

  pub expr-fits : (e : ExprTree) (t : ValueType) → IsWithin names e →
      fits (word_type names) (written_expr texts line e) t ≡ fits (slice_get (types_of names)) e t
  expr-fits e t h = rw (expr-typed e h) refl

  pub exprs-fit : (es : List ExprTree) (ts : List ValueType) → AllByRecursion (IsWithin names) es →
      all_fit (word_type names) (map (written_expr texts line) es) ts ≡ all_fit (slice_get (types_of names)) es ts
  exprs-fit [] [] h = refl
  exprs-fit [] (t ∷ ts) h = refl
  exprs-fit (e ∷ es) [] h = refl
  exprs-fit (e ∷ es) (t ∷ ts) h = rw (expr-fits e t h.0, exprs-fit es ts h.1) refl
