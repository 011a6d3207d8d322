-- The number of the function that gives an output.
use Rattle.std.specs.Prelude.{ℕ, ◌+◌, ◌<◌, ◌≤◌, Bool, true, false, cond, List, [], ◌∷◌, length, unwrap_or, Some}
use Rattle.std.specs.List.{position_from}
use Rattle.std.proofs.Common.{arith}

-- a place among so many, or the first where there is none
pub few-places : {A : Type 0} (t : A → Bool) (i n : ℕ) (xs : List A) → i + length xs ≤ n → 0 < n → unwrap_or (position_from t i xs) 0 < n
few-places t i n [] few some = some
few-places t i n (x ∷ xs) few some = by (t x) (few-places t (i + 1) n xs (omega (arith, few)) some)
  where
    by : (r : Bool) → unwrap_or (position_from t (i + 1) xs) 0 < n → unwrap_or (cond r (Some i) (position_from t (i + 1) xs)) 0 < n
    by true later = omega (arith, few)
    by false later = later
