-- The numbers of children's first procedures, one child on.
use Rattle.std.proofs.Common.{◌≡◌, ℕ, ◌+◌, ◌<◌, List, [], ◌∷◌, ◌++◌, map, length, get_or, take, ap, ◌∙◌, arith}
use Rattle.std.specs.List.{range_with_len, sum_by}
use Rattle.std.proofs.lemmas.List.Sums.{sum_by_more, sum_by_more_le}
use Rattle.std.proofs.lemmas.List.FromFn.{map-range_with_len_more}
use Rattle.modules_profile.specs.declared.local.ChildUse.{ChildUse}
use Rattle.modules_profile.specs.Headers.{header_functions}

-- how many procedures a child has
abbrev pub procedures : ChildUse → ℕ
procedures u = length (header_functions u.header) + 3

pub base-within : (count bound : ℕ) (children : List ChildUse) (i : ℕ) (u : ChildUse) → i < length children →
    count + sum_by procedures children < bound →
    count + sum_by procedures (take i children) + procedures (get_or children i u) < bound
base-within count bound children i u inside fits = let part = sum_by_more_le procedures children i u inside in omega (arith, part, fits)

pub base-fits : (count bound next functions : ℕ) (children : List ChildUse) (i : ℕ) (u : ChildUse) → i < length children →
    count + sum_by procedures children < bound → next ≡ count + sum_by procedures (take i children) → u ≡ get_or children i u →
    functions ≡ length (header_functions u.header) → next + (functions + 3) < bound
base-fits count bound next functions children i u inside fits at read are =
    let one : functions + 3 ≡ procedures (get_or children i u) = ap (λ n. n + 3) are ∙ ap procedures read in
    let within = base-within count bound children i u inside fits in
    omega (arith, one, within, at)

pub base-more : (count : ℕ) (children : List ChildUse) (i : ℕ) (u : ChildUse) → i < length children →
    count + sum_by procedures (take i children) + procedures (get_or children i u) ≡ count + sum_by procedures (take (i + 1) children)
base-more count children i u inside = let more = sum_by_more procedures children i u inside in omega (arith, more)

pub bases-more : (count : ℕ) (children : List ChildUse) (i : ℕ) →
    map (λ k. count + sum_by procedures (take k children)) (range_with_len 0 (i + 1 + 1))
    ≡ map (λ k. count + sum_by procedures (take k children)) (range_with_len 0 (i + 1))
    ++ (count + sum_by procedures (take (i + 1) children)) ∷ []
bases-more count children i = map-range_with_len_more (λ k. count + sum_by procedures (take k children)) 0 (i + 1) (i + 1) (omega arith)
