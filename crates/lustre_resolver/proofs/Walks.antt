-- Rules for things one after another, each with what is known by then.
use Rattle.std.proofs.Common.{◌≡◌, refl, sym, ◌∙◌, ap, List, [], ◌∷◌, ◌++◌, Result, Ok, Err, append_assoc}
use Rattle.base_core.specs.Results.{◌>>=◌}
use Rattle.c_syntax.specs.declared.fault.CFault.{CFault}

module _ {S A B : Type 0} (rule : S → A → Result B CFault) (next : S → B → S) where
  -- what all of them stand for, or the first error
  abbrev pub walk : S → List A → Result (List B) CFault
  walk s [] = Ok []
  walk s (x ∷ xs) = rule s x >>= λ y. walk (next s y) xs >>= λ ys. Ok (y ∷ ys)

  -- what was found, and after it what the others stand for
  abbrev pub walk_after : List B → S → List A → Result (List B) CFault
  walk_after done s xs = walk s xs >>= λ ys. Ok (done ++ ys)

  pub walk-begins : (s : S) (xs : List A) → walk s xs ≡ walk_after [] s xs
  walk-begins s xs = by (walk s xs)
    where
      by : (r : Result (List B) CFault) → r ≡ (r >>= λ ys. Ok ys)
      by (Ok ys) = refl
      by (Err fault) = refl

  pub walk-more : (done : List B) (s : S) (x : A) (xs : List A) (y : B) → rule s x ≡ Ok y →
      walk_after done s (x ∷ xs) ≡ walk_after (done ++ y ∷ []) (next s y) xs
  walk-more done s x xs y e =
      ap (λ r. (r >>= λ z. walk (next s z) xs >>= λ zs. Ok (z ∷ zs)) >>= λ ys. Ok (done ++ ys)) e
      ∙ by (walk (next s y) xs)
    where
      by : (r : Result (List B) CFault) → ((r >>= λ zs. Ok (y ∷ zs)) >>= λ ys. Ok (done ++ ys)) ≡ (r >>= λ ys. Ok ((done ++ y ∷ []) ++ ys))
      by (Ok zs) = ap Ok (sym (append_assoc done (y ∷ []) zs))
      by (Err fault) = refl
