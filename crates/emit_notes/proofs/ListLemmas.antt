-- Items of lists, and lists that are gone through.
use Rattle.std.proofs.Common.{◌≡◌, sym, ◌∙◌, ap, ap₂, ℕ, ◌+◌, ◌-◌, ◌<◌, suc, List, ◌∷◌, ◌++◌, length, map, get_or, drop, drop-cons, arith}
use Rattle.std.specs.Prelude.{flat_map}
use Rattle.std.specs.List.{range_with_len}
use Rattle.std.proofs.lemmas.List.{append_assoc}

-- the numbers from p to 32
range-step : (p : ℕ) → p < 33 → range_with_len p (33 - p) ≡ p ∷ range_with_len (p + 1) (33 - (p + 1))
range-step p low = ap (range_with_len p) (let e : 33 - p ≡ suc (33 - (p + 1)) = omega arith in e)

-- one port more is looked for
pub more-ports : (f : ℕ → List ℕ) (done next whole : List ℕ) (p : ℕ) → p < 33 → next ≡ done ++ f p →
    done ++ flat_map f (range_with_len p (33 - p)) ≡ whole →
    next ++ flat_map f (range_with_len (p + 1) (33 - (p + 1))) ≡ whole
more-ports f done next whole p low one is =
    ap (λ xs. xs ++ flat_map f (range_with_len (p + 1) (33 - (p + 1)))) one
    ∙ append_assoc done (f p) (flat_map f (range_with_len (p + 1) (33 - (p + 1))))
    ∙ ap (λ ks. done ++ flat_map f ks) (sym (range-step p low)) ∙ is

-- the items from one place on
pub drop-next : {A B : Type 0} (f : A → B) (xs : List A) (i : ℕ) (x : A) → i < length xs → x ≡ get_or xs i x →
    map f (drop i xs) ≡ f x ∷ map f (drop (i + 1) xs)
drop-next f xs i x inside read =
    ap (map f) (drop-cons xs i x inside)
    ∙ ap₂ (λ y n. f y ∷ map f (drop n xs)) (sym read) (let e : suc i ≡ i + 1 = omega arith in e)
