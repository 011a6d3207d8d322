-- Words with a space between each two.
use Rattle.std.proofs.Common.{◌≡◌, refl, sym, ◌∙◌, ap, subst, ℕ, zero, ◌+◌, ◌<◌, List, [], ◌∷◌, ◌++◌, length, take, drop, suc, ◌-◌, map, get_or, rules, arith}
use Rattle.std.specs.Prelude.{ℤ, flat_map, Option, Result, OnErr}
use Rattle.std.proofs.lemmas.Grind.{flat_map-append}
use Rattle.std.proofs.lemmas.List.{append-nil, take-append-drop}
use Rattle.base_host.specs.Files.{PutsFront}
use Rattle.base_host.specs.Buffers.{PutsAllBut}
use Rattle.tool_stream.proofs.lemmas.Waiting.{both_texts, front_of_more, front_of_error}
use Rattle.std.proofs.Math.Seq.{take-length}
use Rattle.std.specs.Fmt.{signed_decimal}
use Rattle.std.specs.List.{join_with_byte}

-- the first number, and each other one after a space
joined_first : (x : ℤ) (xs : List ℤ) → join_with_byte 32 (map signed_decimal (x ∷ xs)) ≡ signed_decimal x
    ++ flat_map (λ n. 32 ∷ signed_decimal n) xs
joined_first x [] = search rules
joined_first x (y ∷ ys) = ap (λ rest. signed_decimal x ++ (32 ∷ rest)) (joined_first y ys)

pub joined_numbers : (numbers : List ℤ) (d : ℤ) → 0 < length numbers →
    join_with_byte 32 (map signed_decimal numbers) ≡ signed_decimal (get_or numbers 0 d)
    ++ flat_map (λ n. 32 ∷ signed_decimal n) (take (length numbers - 1) (drop 1 numbers))
joined_numbers [] d some = absurd (omega arith)
joined_numbers (x ∷ xs) d some =
    let len : suc (length xs) - 1 ≡ length xs = omega arith in
    joined_first x xs ∙ ap (λ ys. signed_decimal x ++ flat_map (λ n. 32 ∷ signed_decimal n) ys)
    (sym (ap (λ k. take k xs) len ∙ take-length xs))

pub no_numbers : (numbers : List ℤ) → length numbers ≡ 0 → join_with_byte 32 (map signed_decimal numbers) ≡ []
no_numbers [] none = refl
no_numbers (x ∷ xs) none = absurd (omega arith)

-- ---- Numbers that are printed one after another

-- the text of a number after a space
abbrev pub behind : ℤ → List ℕ
behind n = 32 ∷ signed_decimal n

take_next : (xs : List ℤ) (i : ℕ) (d : ℤ) → i < length xs → take (suc i) xs ≡ take i xs ++ get_or xs i d ∷ []
take_next [] i d within = absurd (omega arith)
take_next (x ∷ xs) zero d within = refl
take_next (x ∷ xs) (suc i) d within = ap (λ ys. x ∷ ys) (take_next xs i d (omega arith))

texts_next : (xs : List ℤ) (i : ℕ) (d : ℤ) → i < length xs →
    flat_map behind (take i xs) ++ behind (get_or xs i d) ≡ flat_map behind (take (i + 1) xs)
texts_next xs i d within =
    let size : suc i ≡ i + 1 = omega arith in
    sym (ap (λ k. flat_map behind (take k xs)) (sym size) ∙ ap (flat_map behind) (take_next xs i d within)
    ∙ flat_map-append behind (take i xs) (get_or xs i d ∷ [])
    ∙ ap (λ t. flat_map behind (take i xs) ++ t) (append-nil (behind (get_or xs i d))))

pub others_taken : (xs : List ℤ) (i : ℕ) (d : ℤ) (w w' w'' : List ℕ) (b b' b'' : Option (List ℕ)) → i < length xs →
    PutsAllBut w' (w ++ flat_map behind (take i xs)) b b' →
    PutsAllBut w'' (w' ++ behind (get_or xs i d)) b' b'' → PutsAllBut w'' (w ++ flat_map behind (take (i + 1) xs)) b b''
others_taken xs i d w w' w'' b b' b'' within so_far next =
    subst (λ t. PutsAllBut w'' (w ++ t) b b'') (texts_next xs i d within)
    (both_texts w w' w'' (flat_map behind (take i xs)) (behind (get_or xs i d)) b b' b'' so_far next)

pub others_cut : {T E : Type 0} (result : Result T E) (xs : List ℤ) (i : ℕ) (d : ℤ) (w w' : List ℕ)
    (b b' b'' : Option (List ℕ)) → i < length xs → PutsAllBut w' (w ++ flat_map behind (take i xs)) b b' →
    PutsFront b' b'' (w' ++ behind (get_or xs i d)) → OnErr result (PutsFront b b'' (w ++ flat_map behind xs))
others_cut result xs i d w w' b b' b'' within so_far next =
    let whole : flat_map behind (take (i + 1) xs) ++ flat_map behind (drop (i + 1) xs) ≡ flat_map behind xs =
    sym (flat_map-append behind (take (i + 1) xs) (drop (i + 1) xs)) ∙ ap (flat_map behind) (take-append-drop (i + 1) xs) in
    let front : PutsFront b b'' (w ++ flat_map behind (take (i + 1) xs)) =
    subst (λ t. PutsFront b b'' (w ++ t)) (texts_next xs i d within)
    (front_of_more w w' (flat_map behind (take i xs)) (behind (get_or xs i d)) b b' b'' so_far next) in
    subst (λ t. OnErr result (PutsFront b b'' (w ++ t))) whole
    (front_of_error result w (flat_map behind (take (i + 1) xs)) (flat_map behind (drop (i + 1) xs)) b b'' front)
