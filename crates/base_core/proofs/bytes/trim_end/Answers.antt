use Rattle.std.proofs.Common.{◌≡◌, sym, ◌∙◌, ap, cond, ℕ, suc, ◌+◌, ◌-◌, ◌<◌, Bool, true, List, [], ◌∷◌, ◌++◌, length, take, drop, get_or, reverse, arith}
use Rattle.std.specs.List.{prefix_len}
use Rattle.std.proofs.lemmas.List.{take_more, take_all, reverse-append}
use Rattle.base_core.specs.Bytes.{is_blank, drop_while}
use Rattle.base_core.proofs.bytes.trim_end.Goals as goal

-- a first byte that passes is dropped
drop_while-first : (test : ℕ → Bool) (c : ℕ) (rest : List ℕ) → test c ≡ true → drop_while test (c ∷ rest) ≡ drop_while test rest
drop_while-first test c rest passes =
    ap (λ b. drop (cond b (1 + prefix_len test rest) 0) (c ∷ rest)) passes ∙ ap (λ n. drop n (c ∷ rest)) (one_more (prefix_len test rest))
  where
    one_more : (n : ℕ) → 1 + n ≡ suc n
    one_more n = omega arith

-- some bytes are all but the last, and the last
split_last : (bytes : List ℕ) → 0 < length bytes → bytes ≡ take (length bytes - 1) bytes ++ get_or bytes (length bytes - 1) 0 ∷ []
split_last bytes some =
    sym (take_all (length bytes - 1 + 1) bytes (omega arith)) ∙ take_more bytes (length bytes - 1) 0 (omega arith)

-- a last byte that passes is dropped from the end
drop_while-last : (test : ℕ → Bool) (bytes : List ℕ) → 0 < length bytes → test (get_or bytes (length bytes - 1) 0) ≡ true →
    drop_while test (reverse bytes) ≡ drop_while test (reverse (take (length bytes - 1) bytes))
drop_while-last test bytes some passes =
    ap (λ b. drop_while test (reverse b)) (split_last bytes some)
    ∙ ap (drop_while test) (reverse-append (take (length bytes - 1) bytes) (get_or bytes (length bytes - 1) 0 ∷ []))
    ∙ drop_while-first test _ _ passes

pub loop-rest-preserved : goal.loop-rest-preserved
loop-rest-preserved c =
    sym (drop_while-last is_blank c.loop-rest.rest.now c.in-len1-up.len_at_least (sym c.is_blank.ensures ∙ c.if-not-is_blank.false))
    ∙ c.loop-rest.invariant
