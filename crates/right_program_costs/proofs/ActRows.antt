-- Acts on an instance one after another.
use Rattle.std.specs.Prelude.{◌≡◌, ◌⊎◌, ℕ, ◌+◌, Bool, true, false, ◌||◌, ◌==◌, List, [], ◌∷◌, ◌++◌, map, Contains, refl}
use Rattle.std.proofs.Common.{sym, ap, subst, ◌∙◌, arith, inl, inr, true≢false, eq-eqb}
use Rattle.std.proofs.lemmas.Bool.{eqb-true, or_left, or_right}
use Rattle.std.proofs.lemmas.List.{append_assoc}
use Rattle.modules_profile.proofs.lemmas.Members.{in-none, in-first, in-rest, in-cases}
use Rattle.right_relation.specs.Instances.{Act, out, called_after, with_called, InstanceTick}
use Rattle.right_relation.specs.Accounts.{log_along, most_along, stored_along}

abbrev pub after_all : (ℕ → Bool) → List Act → ℕ → Bool
after_all called [] = called
after_all called (a ∷ acts) = after_all (called_after called a) acts

-- after calls of functions those are called, and those that were before
pub after-calls : (fs : List ℕ) (c d : ℕ → Bool) (i : ℕ) → (Contains fs i → d i ≡ true) → (c i ≡ true → d i ≡ true) →
    (d i ≡ true → (c i ≡ true) ⊎ Contains fs i) → after_all c (map out fs) i ≡ d i
after-calls [] c d i called kept none = by (c i) (d i) refl refl
  where
    by : (s t : Bool) → c i ≡ s → d i ≡ t → c i ≡ d i
    by true t e q = e ∙ sym (kept e)
    by false false e q = e ∙ sym q
    by false true e q = elim (none q) [
      | inl was ↦ absurd (true≢false (sym was ∙ e))
      | inr has ↦ absurd (in-none i has)
    ]
after-calls (f ∷ fs) c d i called kept none =
    after-calls fs (with_called c f) d i (λ has. called (in-rest f i fs has)) kept-more
    (λ is. elim (none is) [
      | inl was ↦ inl (or_right (i == f) (c i) was)
      | inr has ↦ elim (in-cases f i fs has) [
        | inl same ↦ inl (or_left (i == f) (c i) (eq-eqb i f (sym same)))
        | inr more ↦ inr more
      ]
    ])
  where
    kept-more : ((i == f) || c i) ≡ true → d i ≡ true
    kept-more is = by (i == f) refl is
      where
        by : (t : Bool) → (i == f) ≡ t → (t || c i) ≡ true → d i ≡ true
        by true e more = called (subst (Contains (f ∷ fs)) (sym (eqb-true i f e)) (in-first f fs))
        by false e more = kept more

module _ (i : InstanceTick) where
  pub log-append : (called : ℕ → Bool) (xs ys : List Act) →
      log_along i called (xs ++ ys) ≡ log_along i called xs ++ log_along i (after_all called xs) ys
  log-append called [] ys = refl
  log-append called (x ∷ xs) ys =
      ap (λ l. i.log called x ++ l) (log-append (called_after called x) xs ys)
      ∙ sym (append_assoc (i.log called x) (log_along i (called_after called x) xs) (log_along i (after_all (called_after called x) xs) ys))

  pub most-append : (called : ℕ → Bool) (xs ys : List Act) →
      most_along i called (xs ++ ys) ≡ most_along i called xs + most_along i (after_all called xs) ys
  most-append called [] ys = omega arith
  most-append called (x ∷ xs) ys = let rest = most-append (called_after called x) xs ys in omega (arith, rest)

  pub stored-append : (called : ℕ → Bool) (xs ys : List Act) (path : List ℕ) (field : ℕ) →
      stored_along i called (xs ++ ys) path field ≡ stored_along i called xs path field + stored_along i (after_all called xs) ys path field
  stored-append called [] ys path field = omega arith
  stored-append called (x ∷ xs) ys path field = let rest = stored-append (called_after called x) xs ys path field in omega (arith, rest)
