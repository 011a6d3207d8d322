-- Lists that are mapped item by item, in place.
use Rattle.std.proofs.Common.{◌≡◌, ◌≢◌, refl, ap, ap₂, ◌∙◌, ℕ, zero, suc, ◌+◌, ◌<◌, ◌≤◌, List, [], ◌∷◌, length, map, drop, get_or, slice_index_or, slice_set, arith}
use Rattle.std.proofs.lemmas.List.{length-set, get_or-set_other}
use Rattle.c_syntax.specs.Tree.{ExprTree, exprs_of_list, more_exprs, StmtTree, stmts_of_list, more_stmts}
use Rattle.c_syntax.specs.declared.Leaf.{Leaf}
use Rattle.c_renaming.specs.Renamed.{renamed_expr, renamed_exprs, renamed_stmt, renamed_stmts}
use Rattle.c_renaming.specs.Partly.{partly_mapped}

-- the items from a place on are those of another list
abbrev pub IsSameFrom : {A : Type 0} → ℕ → (xs ys : List A) → Type 0
IsSameFrom {A = A} i xs ys = (length xs ≡ length ys) × ((k : ℕ) (d : A) → i ≤ k → slice_index_or xs k d ≡ slice_index_or ys k d)

pub same-after : {A : Type 0} (i : ℕ) (xs ys : List A) (e : A) → IsSameFrom i xs ys → IsSameFrom (i + 1) (slice_set xs i e) ys
same-after i xs ys e same = (
  length-set xs i e ∙ same.0,
  λ k d later. let other : k ≢ i = omega (arith, later) in get_or-set_other xs i k e d other ∙ same.1 k d (omega (arith, later)),
)

mapped-after : {A B : Type 0} (g : A → B) (f : B → B) (i : ℕ) (items : List A) (xs : List B) (e a : A) →
    map g items ≡ partly_mapped f i xs → i < length items → g e ≡ f (g (get_or items i a)) →
    map g (slice_set items i e) ≡ partly_mapped f (suc i) xs
mapped-after g f i [] xs e a same below gives = absurd (omega (arith, below))
mapped-after g f zero (y ∷ ys) [] e a same below gives = cc
mapped-after {B = B} g f zero (y ∷ ys) (x ∷ xs) e a same below gives =
    ap₂ {C = List B} (λ z zs. z ∷ zs) (gives ∙ ap (λ zs. f (get_or zs 0 (g y))) same) (ap (drop 1) same)
mapped-after g f (suc i) (y ∷ ys) [] e a same below gives = cc
mapped-after {B = B} g f (suc i) (y ∷ ys) (x ∷ xs) e a same below gives =
    ap₂ {C = List B} (λ z zs. z ∷ zs) (ap (λ zs. get_or zs 0 (g y)) same)
    (mapped-after g f i ys xs e a (ap (drop 1) same) (omega (arith, below)) gives)

pub mapped-next : {A B : Type 0} (g : A → B) (f : B → B) (i : ℕ) (items : List A) (xs : List B) (e a : A) →
    map g items ≡ partly_mapped f i xs → i < length items → g e ≡ f (g (get_or items i a)) →
    map g (slice_set items i e) ≡ partly_mapped f (i + 1) xs
mapped-next g f i items xs e a same below gives =
    let next : suc i ≡ i + 1 = omega arith in
    mapped-after g f i items xs e a same below gives ∙ ap (λ n. partly_mapped f n xs) next

pub all-mapped : {A B : Type 0} (g : A → B) (f : B → B) (n : ℕ) (items : List A) → length items ≤ n →
    partly_mapped f n (map g items) ≡ map f (map g items)
all-mapped g f zero [] all = refl
all-mapped g f zero (x ∷ xs) all = absurd (omega (arith, all))
all-mapped g f (suc n) [] all = refl
all-mapped g f (suc n) (x ∷ xs) all = ap (λ zs. f (g x) ∷ zs) (all-mapped g f n xs (omega (arith, all)))

module _ (leaf : Leaf → Leaf) (function procedure : ℕ → ℕ) where
  pub exprs-mapped : (es : List ExprTree) →
      exprs_of_list (map (renamed_expr leaf function procedure) es) ≡ renamed_exprs leaf function procedure (exprs_of_list es)
  exprs-mapped [] = refl
  exprs-mapped (e ∷ es) = ap (more_exprs (renamed_expr leaf function procedure e)) (exprs-mapped es)

  pub stmts-mapped : (ss : List StmtTree) →
      stmts_of_list (map (renamed_stmt leaf function procedure) ss) ≡ renamed_stmts leaf function procedure (stmts_of_list ss)
  stmts-mapped [] = refl
  stmts-mapped (s ∷ ss) = ap (more_stmts (renamed_stmt leaf function procedure s)) (stmts-mapped ss)
