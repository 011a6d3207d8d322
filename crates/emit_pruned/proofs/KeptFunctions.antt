-- The pure functions that are kept, among them all.
use Rattle.std.specs.Prelude.{◌≡◌, ℕ, zero, suc, ◌+◌, ◌<◌, ◌≤◌, Bool, true, false, List, [], ◌∷◌, ◌++◌, map, length, if◌then◌else◌, ⊤, pos}
use Rattle.std.specs.List.{AllByRecursion}
use Rattle.std.proofs.Common.{refl, sym, ap, subst, ◌∙◌, arith, ◌⊎◌, inl, inr}
use Rattle.std.proofs.lemmas.List.{length-append, get_or_append_left}
use Rattle.std.proofs.Math.Seq.{get_or-append_seam}
use Rattle.c_syntax.specs.Tree.{PureTree}
use Rattle.c_semantics.specs.Values.{gives, Function, function_at, function_of, functions_of}
use Rattle.emit_pruned.specs.Calls.{expr_functions}
use Rattle.emit_pruned.specs.Pruned.{renumbered_pure, kept_before, kept_from}
use Rattle.emit_pruned.proofs.lemmas.Numbers.{each-then}
use Rattle.emit_pruned.proofs.lemmas.SameRuns.{Agree, function-same}

-- a function past the end
abbrev pub no_function : Function
no_function = λ values steps. gives (pos 0) steps

-- below a position, or at it
pub below-or-at : (k n : ℕ) → k < suc n → (k < n) ⊎ (k ≡ n)
below-or-at zero zero h = inr refl
below-or-at zero (suc n) h = inl (omega arith)
below-or-at (suc k) zero h = absurd (omega arith)
below-or-at (suc k) (suc n) h = next (below-or-at k n (omega arith))
  where
    next : (k < n) ⊎ (k ≡ n) → (suc k < suc n) ⊎ (suc k ≡ suc n)
    next (inl a) = inl (omega arith)
    next (inr e) = inr (ap suc e)

module _ (keeps : ℕ → Bool) where
  pub kept-next : (n : ℕ) → keeps n ≡ true → kept_before keeps (suc n) ≡ kept_before keeps n + 1
  kept-next n is = ap (λ b. kept_before keeps n + (if b then 1 else 0)) is

  pub dropped-next : (n : ℕ) → keeps n ≡ false → kept_before keeps (suc n) ≡ kept_before keeps n
  dropped-next n is = ap (λ b. kept_before keeps n + (if b then 1 else 0)) is ∙ omega arith

  grows : (n : ℕ) → kept_before keeps n ≤ kept_before keeps (suc n)
  grows n = omega arith

  -- a kept function has fewer before it than a later position
  pub kept-below : (k n : ℕ) → k < n → keeps k ≡ true → kept_before keeps k < kept_before keeps n
  kept-below k zero h is = absurd (omega arith)
  kept-below k (suc n) h is = by (below-or-at k n h) (λ below. kept-below k n below is)
    where
      by : (k < n) ⊎ (k ≡ n) → (k < n → kept_before keeps k < kept_before keeps n) → kept_before keeps k < kept_before keeps (suc n)
      by (inl below) next = let less = next below in let more = grows n in omega arith
      by (inr at) next =
          let e = kept-next n (ap keeps (sym at) ∙ is) in
          let same = ap (kept_before keeps) at in omega arith

  -- of so many functions those that are kept, each at its place
  pub record AreKept (n : ℕ) (functions kept : List Function) : Type 0 where
    pub count : length functions ≡ n
    pub kept_count : length kept ≡ kept_before keeps n
    pub same : (k : ℕ) → k < n → keeps k ≡ true → Agree (kept_before keeps) functions kept k

  -- a function that is kept calls kept ones before it
  abbrev pub IsClosed : ℕ → PureTree → Type 0
  IsClosed n f = keeps n ≡ true → AllByRecursion (λ j. (j < n) × (keeps j ≡ true)) (expr_functions f.body)

  -- so do all from a position on
  abbrev pub AreClosed : ℕ → List PureTree → Type 0
  AreClosed n [] = ⊤
  AreClosed n (f ∷ fs) = IsClosed n f × AreClosed (suc n) fs

  pub keep-one : (n : ℕ) (functions kept : List Function) (x y : Function) → AreKept n functions kept → keeps n ≡ true → y ≡ x →
      AreKept (suc n) (functions ++ x ∷ []) (kept ++ y ∷ [])
  keep-one n functions kept x y are is alike =
      let count = are.count in
      let kept_count = are.kept_count in
      let next = kept-next n is in record {
        count = omega (arith, length-append functions (x ∷ []));
        kept_count = omega (arith, length-append kept (y ∷ []));
        same = λ k below keep. by k keep (below-or-at k n below);
      }
    where
      by : (k : ℕ) → keeps k ≡ true → (k < n) ⊎ (k ≡ n) → Agree (kept_before keeps) (functions ++ x ∷ []) (kept ++ y ∷ []) k
      by k keep (inl below) =
          let count = are.count in
          let kept_count = are.kept_count in
          let less = kept-below k n below keep in
          let there : k < length functions = omega arith in
          let inside : kept_before keeps k < length kept = omega arith in
          get_or_append_left kept (y ∷ []) no_function (kept_before keeps k) inside ∙ are.same k below keep
          ∙ sym (get_or_append_left functions (x ∷ []) no_function k there)
      by k keep (inr at) =
          let place : kept_before keeps k ≡ length kept = ap (kept_before keeps) at ∙ sym are.kept_count in
          let end : length functions ≡ k = are.count ∙ sym at in
          ap (function_at (kept ++ y ∷ [])) place ∙ get_or-append_seam kept y [] no_function ∙ alike
          ∙ sym (get_or-append_seam functions x [] no_function) ∙ ap (function_at (functions ++ x ∷ [])) end

  pub drop-one : (n : ℕ) (functions kept : List Function) (x : Function) → AreKept n functions kept → keeps n ≡ false →
      AreKept (suc n) (functions ++ x ∷ []) kept
  drop-one n functions kept x are is =
      let count = are.count in
      let kept_count = are.kept_count in
      let next = dropped-next n is in record {
        count = omega (arith, length-append functions (x ∷ []));
        kept_count = omega arith;
        same = λ k below keep. by k keep (below-or-at k n below);
      }
    where
      by : (k : ℕ) → keeps k ≡ true → (k < n) ⊎ (k ≡ n) → Agree (kept_before keeps) (functions ++ x ∷ []) kept k
      by k keep (inl below) =
          let count = are.count in
          let there : k < length functions = omega arith in
          are.same k below keep ∙ sym (get_or_append_left functions (x ∷ []) no_function k there)
      by k keep (inr at) = absurd (let wrong : ⊥ = cc (sym keep ∙ ap keeps at ∙ is) in wrong)

  -- a kept function does the same among those kept before it
  pub alike : (n : ℕ) (functions kept : List Function) (f : PureTree) → AreKept n functions kept → keeps n ≡ true → IsClosed n f →
      function_of kept (renumbered_pure (kept_before keeps) f) ≡ function_of functions f
  alike n functions kept f are is closed =
      function-same (kept_before keeps) functions kept f
      (each-then (λ j. (j < n) × (keeps j ≡ true)) (Agree (kept_before keeps) functions kept) (expr_functions f.body)
      (λ j called. are.same j called.0 called.1) (closed is))

  pub functions-kept : (fs : List PureTree) (n : ℕ) (functions kept : List Function) → AreKept n functions kept → AreClosed n fs →
      AreKept (n + length fs) (functions_of functions fs)
      (functions_of kept (map (renumbered_pure (kept_before keeps)) (kept_from keeps n fs)))
  functions-kept [] n functions kept are closed = subst (λ m. AreKept m functions kept) (omega arith) are
  functions-kept (f ∷ fs) n functions kept are closed =
      by (keeps n) refl (λ some are_some. functions-kept fs (suc n) (functions ++ function_of functions f ∷ []) some are_some closed.1)
    where
      by : (b : Bool) → keeps n ≡ b →
          ((some : List Function) → AreKept (suc n) (functions ++ function_of functions f ∷ []) some →
          AreKept (suc n + length fs) (functions_of (functions ++ function_of functions f ∷ []) fs)
          (functions_of some (map (renumbered_pure (kept_before keeps)) (kept_from keeps (suc n) fs)))) →
          AreKept (n + suc (length fs)) (functions_of (functions ++ function_of functions f ∷ []) fs)
          (functions_of kept (map (renumbered_pure (kept_before keeps)) ((if b then f ∷ [] else []) ++ kept_from keeps (suc n) fs)))
      by true is next =
          let g = renumbered_pure (kept_before keeps) f in
          subst (λ m. AreKept m (functions_of (functions ++ function_of functions f ∷ []) fs)
          (functions_of (kept ++ function_of kept g ∷ []) (map (renumbered_pure (kept_before keeps)) (kept_from keeps (suc n) fs))))
          (omega arith)
          (next (kept ++ function_of kept g ∷ [])
          (keep-one n functions kept (function_of functions f) (function_of kept g) are is (alike n functions kept f are is closed.0)))
      by false is next =
          subst (λ m. AreKept m (functions_of (functions ++ function_of functions f ∷ []) fs)
          (functions_of kept (map (renumbered_pure (kept_before keeps)) (kept_from keeps (suc n) fs))))
          (omega arith)
          (next kept (drop-one n functions kept (function_of functions f) are is))
