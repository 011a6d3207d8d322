-- A comment ends at its own end, where no byte of its text is a `*`; and none is.
use Rattle.std.proofs.Common.{◌≡◌, refl, ap, ◌∙◌, ℕ, suc, ◌+◌, List, [], ◌∷◌, ◌++◌, length, Bool, true, false, not, ◌&&◌, ◌==◌, Some, option_map, if◌then◌else◌, arith}
use Rattle.std.specs.List.{list_all}
use Rattle.c_grammar.specs.Tokens.{Token, comment_end, comment_piece, piece_tokens, tokens_from}
use Rattle.c_grammar.proofs.lemmas.LiteralLaws.{and_first, and_second}
use Rattle.c_printer.proofs.TokenLaws.{tokens_from-skip}
use Rattle.c_printer.proofs.lemmas.Bytes.{words_on_one_line}

-- no byte is a `*`
abbrev pub no_star : List ℕ → Bool
no_star t = list_all (λ b. not (b == 42)) t

-- what comes before the end is passed over
passed : (b c : ℕ) (bs : List ℕ) → not (b == 42) ≡ true → comment_end (b ∷ c ∷ bs) ≡ option_map (λ n. n + 1) (comment_end (c ∷ bs))
passed b c bs h = by (b == 42) h
  where
    by : (x : Bool) → not x ≡ true →
        (if x && (c == 47) then Some 2 else option_map (λ n. n + 1) (comment_end (c ∷ bs))) ≡ option_map (λ n. n + 1) (comment_end (c ∷ bs))
    by true e = absurd (let wrong : ⊥ = cc e in wrong)
    by false e = refl

pub end-found : (t rest : List ℕ) → no_star t ≡ true → comment_end (t ++ 42 ∷ 47 ∷ rest) ≡ Some (length t + 2)
end-found [] rest h = refl
end-found (b ∷ []) rest h = passed b 42 (47 ∷ rest) (and_first (not (b == 42)) true h)
end-found (b ∷ c ∷ bs) rest h =
    passed b c (bs ++ 42 ∷ 47 ∷ rest) (and_first (not (b == 42)) (no_star (c ∷ bs)) h)
    ∙ ap (option_map (λ n. n + 1)) (end-found (c ∷ bs) rest (and_second (not (b == 42)) (no_star (c ∷ bs)) h))
    ∙ ap Some (let same : length (c ∷ bs) + 2 + 1 ≡ length (b ∷ c ∷ bs) + 2 = omega arith in same)

abbrev pub no_line_end : List ℕ → Bool
no_line_end t = list_all (λ b. not (b == 10)) t

-- a comment gives no token: after it comes what comes without it, on the same line
pub commented : (t x : List ℕ) (line : ℕ) → no_star t ≡ true → no_line_end (t ++ 42 ∷ 47 ∷ []) ≡ true →
    tokens_from 0 line (47 ∷ 42 ∷ (t ++ 42 ∷ 47 ∷ x)) ≡ tokens_from 0 line x
commented t x line h one_line =
    let more : ℕ → List Token = λ n. tokens_from n line (42 ∷ (t ++ 42 ∷ 47 ∷ x)) in
    let all : List ℕ = t ++ 42 ∷ 47 ∷ [] in
    let size : 1 + (length t + 2) ≡ suc (length all) = ends t in
    ap (λ found. piece_tokens (comment_piece found) line more) (end-found t x h)
    ∙ ap more size
    ∙ ap (λ rest. tokens_from (length all) line rest) (together t)
    ∙ tokens_from-skip all x line ∙ ap (λ n. tokens_from 0 n x) (words_on_one_line (λ b. not (b == 10)) refl all one_line line)
  where
    ends : (u : List ℕ) → 1 + (length u + 2) ≡ suc (length (u ++ 42 ∷ 47 ∷ []))
    ends [] = refl
    ends (b ∷ bs) = let before : 1 + (length bs + 2) ≡ suc (length (bs ++ 42 ∷ 47 ∷ [])) = ends bs in omega (arith, before)

    together : (u : List ℕ) → u ++ 42 ∷ 47 ∷ x ≡ (u ++ 42 ∷ 47 ∷ []) ++ x
    together [] = refl
    together (b ∷ bs) = ap (λ rest. b ∷ rest) (together bs)
