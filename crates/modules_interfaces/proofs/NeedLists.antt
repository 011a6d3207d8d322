-- The functions of a system say what each of its outputs needs.
use Rattle.std.specs.Prelude.{◌≡◌, ◌⊎◌, ℕ, ◌<◌, ◌==◌, Bool, true, false, List, [], ◌∷◌, map, slice_get, slice_index_or, Contains, Some}
use Rattle.std.specs.List.{range_with_len}
use Rattle.std.proofs.Common.{refl, cond, length, sym, ap, ◌∙◌, arith, inl, inr, true≢false, get_or}
use Rattle.std.proofs.lemmas.Bool.{eq-eqb, eqb-true}
use Rattle.std.proofs.lemmas.List.{ext_get_or}
use Rattle.std.proofs.lemmas.List.FromFn.{get_or-map-range_with_len, length-map-range_with_len}
use Rattle.std.proofs.lemmas.Option.{get_or_from_slice_get}
use Rattle.modules_profile.specs.Functions.{function_for, functions_for, mask_of}
use Rattle.base_core.specs.Ports.{has_bit}
use Rattle.modules_profile.proofs.lemmas.MaskBits.{has-holds, holds-has, in-different, index-at}
use Rattle.modules_profile.proofs.lemmas.Members.{below-at, in-at, in-cases, in-none}
use Rattle.modules_interfaces.specs.Needs.{need_of}

-- a bit of the mask of some tests is as the test at its place
bit-is : (bits : List Bool) (k : ℕ) (t : Bool) → slice_index_or bits k false ≡ t → has_bit (mask_of bits) k ≡ t
bit-is bits k true e = holds-has bits k e
bit-is bits k false e = by (has_bit (mask_of bits) k) refl
  where
    by : (t : Bool) → has_bit (mask_of bits) k ≡ t → t ≡ false
    by true is = absurd (true≢false (sym (has-holds bits k is) ∙ e))
    by false is = refl

module _ (needs : List ℕ) (k n : ℕ) (at : slice_get needs k ≡ Some n) where
  first-need : (ds : List ℕ) → Contains ds n → need_of (map (function_for needs) ds) k ≡ n
  first-need [] within = absurd (in-none n within)
  first-need (d ∷ ds) within = ap (λ t. cond t d more) (bit-is (map (λ m. m == d) needs) k (n == d) (index-at (λ m. m == d) needs k n at))
      ∙ by (n == d) refl (in-cases d n ds within) (λ later. first-need ds later)
    where
      more : ℕ
      more = need_of (map (function_for needs) ds) k

      by : (t : Bool) → (n == d) ≡ t → (d ≡ n) ⊎ Contains ds n → (Contains ds n → more ≡ n) → cond t d more ≡ n
      by true is own rest = sym (eqb-true n d is)
      by false is (inl same) rest = absurd (true≢false (sym (eq-eqb n d (sym same)) ∙ is))
      by false is (inr later) rest = rest later

-- these are the needs for which the functions are
pub needs-are : (needs : List ℕ) → map (need_of (functions_for needs)) (range_with_len 0 (length needs)) ≡ needs
needs-are needs = ext_get_or 0 told needs many each
  where
    told : List ℕ
    told = map (need_of (functions_for needs)) (range_with_len 0 (length needs))

    many : length told ≡ length needs
    many = length-map-range_with_len (need_of (functions_for needs)) 0 (length needs)

    each : (k : ℕ) → k < length told → get_or told k 0 ≡ get_or needs k 0
    each k below =
        let within : k < length needs = omega (arith, below, many) in
        let (n, at) = below-at needs k within in
        get_or-map-range_with_len (need_of (functions_for needs)) 0 (length needs) k k 0 within (omega arith)
        ∙ first-need needs k n at _ (in-different needs n (in-at needs k n at))
        ∙ sym (get_or_from_slice_get needs k n 0 at)
