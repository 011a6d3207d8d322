-- Where the second byte of a text is no lower-case letter, the text is no keyword.
use Rattle.std.proofs.Common.{◌≡◌, refl, ap, ℕ, Bool, true, false, ◌||◌, ◌&&◌, List, [], ◌∷◌, bytes_eq}
use Rattle.std.specs.List.{list_any, list_all}
use Rattle.std.proofs.lemmas.Slice.Eq.{bytes_eq-Decides}
use Rattle.c_syntax.specs.Names.{is_lower, keywords}

abbrev second_lower : List ℕ → Bool
second_lower [] = false
second_lower (a ∷ []) = false
second_lower (a ∷ b ∷ bs) = is_lower b

-- a text that fails a test is none of the words that pass it
pub any-none : (test : List ℕ → Bool) (text : List ℕ) (words : List (List ℕ)) →
    list_all test words ≡ true → test text ≡ false → list_any (bytes_eq text) words ≡ false
any-none test text [] all fails = refl
any-none test text (w ∷ words) all fails = by (bytes_eq text w) refl (test w) refl all (λ k. any-none test text words k fails)
  where
    by : (same : Bool) → bytes_eq text w ≡ same → (passes : Bool) → test w ≡ passes → (passes && list_all test words) ≡ true →
        (list_all test words ≡ true → list_any (bytes_eq text) words ≡ false) → (same || list_any (bytes_eq text) words) ≡ false
    by same is false e k later = cc
    by true is true e k later = let one : test text ≡ test w = ap test ((bytes_eq-Decides text w).0 is) in cc
    by false is true e k later = later k

all-lower : list_all second_lower keywords ≡ true
all-lower = refl

pub short_none : (text : List ℕ) → second_lower text ≡ false → list_any (bytes_eq text) keywords ≡ false
short_none text fails = any-none second_lower text keywords all-lower fails

pub second_none : (a b : ℕ) (bs : List ℕ) → is_lower b ≡ false → list_any (bytes_eq (a ∷ b ∷ bs)) keywords ≡ false
second_none a b bs fails = any-none second_lower (a ∷ b ∷ bs) keywords all-lower fails
