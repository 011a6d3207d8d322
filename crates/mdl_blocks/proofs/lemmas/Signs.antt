-- The masks of signs.
use Rattle.std.proofs.Common.{◌≡◌, refl, sym, ◌∙◌, ℕ, zero, suc, ◌+◌, ◌^◌, ◌<◌, ◌≤◌, Bool, true, false, not, cond, List, [], ◌∷◌, length, drop, replicate, arith, map}
use Rattle.std.specs.Prelude.{◌==◌, filter, count_by}
use Rattle.std.proofs.lemmas.Nat.{pow_pos}
use Rattle.std.proofs.lemmas.List.{length-replicate, length-map}
use Rattle.std.proofs.lemmas.List.Sums.{length-filter}
use Rattle.std.proofs.Math.Nat.{two-pow-succ}
use Rattle.mdl_blocks.specs.declared.signs.SignMask.{SignMask}
use Rattle.mdl_blocks.specs.Signs.{minus_mask}
use Rattle.mdl_blocks.specs.Signs.{signs_of, mask_of, pluses}

-- no minus among pluses
minus_mask-pluses : (n : ℕ) → minus_mask (replicate n false) ≡ 0
minus_mask-pluses zero = refl
minus_mask-pluses (suc n) = omega (arith, minus_mask-pluses n)

-- the mask of pluses alone
pub mask_of-pluses : (n : ℕ) → (let mask : SignMask = record { count = n; minus = 0 } in mask) ≡ mask_of (pluses n)
mask_of-pluses n = sym (λ i. record { count = length-replicate n false i; minus = minus_mask-pluses n i })

-- a mask has as many bits as there are signs
pub minus_mask-bound : (signs : List Bool) (n : ℕ) → length signs ≤ n → minus_mask signs < 2 ^ n
minus_mask-bound [] n h = pow_pos n
minus_mask-bound (minus ∷ signs) zero h = absurd (omega arith)
minus_mask-bound (minus ∷ signs) (suc n) h = by minus (minus_mask-bound signs n (omega arith)) (two-pow-succ n)
  where
    by : (b : Bool) → minus_mask signs < 2 ^ n → 2 ^ suc n ≡ 2 ^ n + 2 ^ n → minus_mask (b ∷ signs) < 2 ^ suc n
    by true less twice = omega arith
    by false less twice = omega arith

signs_of-more : (c : ℕ) (text : List ℕ) → length (signs_of text) ≤ length (signs_of (c ∷ text))
signs_of-more c text = by (c == 124)
  where
    rest : List ℕ
    rest = filter (λ c. not (c == 124)) text

    by : (t : Bool) → length (map (λ c. c == 45) rest) ≤ length (map (λ c. c == 45) (cond (not t) (c ∷ rest) rest))
    by true = omega arith
    by false = omega arith

-- fewer signs after a place
pub signs_of-drop : (i : ℕ) (text : List ℕ) → length (signs_of (drop i text)) ≤ length (signs_of text)
signs_of-drop zero text = omega arith
signs_of-drop (suc i) [] = omega arith
signs_of-drop (suc i) (c ∷ text) = omega (arith, signs_of-drop i text, signs_of-more c text)

-- the mask after a place fits
pub minus_mask-fits : (i : ℕ) (text : List ℕ) (mask : ℕ) → length (signs_of text) ≤ 16 →
    mask ≡ minus_mask (signs_of (drop i text)) → mask < 2 ^ 20
minus_mask-fits i text mask h e = omega (arith, e, minus_mask-bound (signs_of (drop i text)) 16 (omega (arith, h, signs_of-drop i text)))

-- the signs are what isn't a bar
pub count-signs : (text : List ℕ) → count_by (λ c. not (c == 124)) text ≡ length (signs_of text)
count-signs text =
    sym (length-map (filter (λ c. not (c == 124)) text) (λ c. c == 45) ∙ length-filter (λ c. not (c == 124)) text)
