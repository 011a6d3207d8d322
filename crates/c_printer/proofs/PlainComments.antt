-- A short text of plain bytes is shown as it is, and how long comments are.
use Rattle.std.proofs.Common.{◌≡◌, refl, sym, ap, ◌∙◌, ℕ, ◌+◌, ◌<◌, ◌≤◌, suc, List, [], ◌∷◌, ◌++◌, length, take, Bool, true, false, not, nat_le, ◌&&◌, ◌||◌, ◌==◌, if◌then◌else◌, codes, arith}
use Rattle.std.specs.List.{list_all}
use Rattle.std.specs.Str.{is_utf8}
use Rattle.std.proofs.lemmas.Bool.Decides.{nat_tests}
use Rattle.std.proofs.lemmas.List.{length-append, length-take-le}
use Rattle.c_grammar.specs.Tokens.{is_white_space}
use Rattle.c_grammar.proofs.lemmas.LiteralLaws.{and_first, and_second}
use Rattle.c_rules.specs.AlikeTexts.{is_quiet}
use Rattle.c_printer.specs.Comments.{byte_after, comment_bytes, comment_text, cut_place, is_plain, note_limit, shown_after}

plain_byte : (u : Bool) (last b : ℕ) → is_plain b ≡ true → byte_after u last b ≡ b
plain_byte u last b h = by (is_quiet b) (nat_le b 127) (b == 47) h
  where
    by : (quiet ascii slash : Bool) → (quiet && ascii && not slash) ≡ true →
        (if slash && (last == 47) then 46
        else (if quiet && (ascii || u) then b else (if is_white_space b then 32 else 46))) ≡ b
    by true true false e = refl
    by true true true e = absurd (let wrong : ⊥ = cc e in wrong)
    by true false slash e = absurd (let wrong : ⊥ = cc e in wrong)
    by false ascii slash e = absurd (let wrong : ⊥ = cc e in wrong)

plain_bytes : (u : Bool) (last : ℕ) (t : List ℕ) → list_all is_plain t ≡ true → shown_after u last t ≡ t
plain_bytes u last [] h = refl
plain_bytes u last (b ∷ bs) h =
    let first : byte_after u last b ≡ b = plain_byte u last b (and_first (is_plain b) (list_all is_plain bs) h) in
    ap (λ c. c ∷ shown_after u c bs) first
    ∙ ap (λ cs. b ∷ cs) (plain_bytes u b bs (and_second (is_plain b) (list_all is_plain bs) h))

pub plain_comment : (t : List ℕ) → nat_le (length t) note_limit ≡ true → list_all is_plain t ≡ true → comment_text t ≡ t
unfolding comment_text
plain_comment t short h =
    ap (λ x. if x then shown_after (is_utf8 t) 32 t
    else shown_after (is_utf8 t) 32 (take (cut_place (is_utf8 t) t) t) ++ codes "...") short
    ∙ plain_bytes (is_utf8 t) 32 t h

-- ---- How long comments are

shown_length : (u : Bool) (last : ℕ) (t : List ℕ) → length (shown_after u last t) ≡ length t
shown_length u last [] = refl
shown_length u last (b ∷ bs) = ap suc (shown_length u (byte_after u last b) bs)

around : (t : List ℕ) → length (comment_bytes t) ≡ length (comment_text t) + 6
around t =
    let shown = comment_text t in
    let first : length (comment_bytes t) ≡ length (codes "/* ") + length ((shown ++ codes " ") ++ codes "*/") =
    length-append (codes "/* ") ((shown ++ codes " ") ++ codes "*/") in
    first
    ∙ ap (λ n. 3 + n) (length-append (shown ++ codes " ") (codes "*/") ∙ ap (λ n. n + 2) (length-append shown (codes " ")))
    ∙ regrouped (length shown)
  where
    regrouped : (n : ℕ) → 3 + (n + 1 + 2) ≡ n + 6
    regrouped n = omega arith

-- of a short text, and of one that is cut
pub short_comment : (t : List ℕ) → length t ≤ note_limit → length t + 6 ≡ length (comment_bytes t)
unfolding comment_text
short_comment t within = by (nat_le (length t) note_limit) refl
  where
    by : (x : Bool) → nat_le (length t) note_limit ≡ x → length t + 6 ≡ length (comment_bytes t)
    by true e =
        sym (around t ∙ ap (λ n. n + 6)
        (ap (λ x. length (if x then shown_after (is_utf8 t) 32 t
        else shown_after (is_utf8 t) 32 (take (cut_place (is_utf8 t) t) t) ++ codes "...")) e
        ∙ shown_length (is_utf8 t) 32 t))
    by false e = absurd (grind (arith, nat_tests))

pub cut_comment : (t : List ℕ) (cut : ℕ) → note_limit < length t → cut ≡ cut_place (is_utf8 t) t → cut ≤ 57 →
    cut + 9 ≡ length (comment_bytes t)
unfolding comment_text
cut_comment t cut over at within = by (nat_le (length t) note_limit) refl
  where
    regrouped : (n : ℕ) → n + 3 + 6 ≡ n + 9
    regrouped n = omega arith

    long : length (take cut t) ≡ cut
    long = length-take-le cut t (omega (arith, over, within))

    by : (x : Bool) → nat_le (length t) note_limit ≡ x → cut + 9 ≡ length (comment_bytes t)
    by true e = absurd (grind (arith, nat_tests))
    by false e =
        sym (around t ∙ ap (λ n. n + 6)
        (ap (λ x. length (if x then shown_after (is_utf8 t) 32 t
        else shown_after (is_utf8 t) 32 (take (cut_place (is_utf8 t) t) t) ++ codes "...")) e
        ∙ length-append (shown_after (is_utf8 t) 32 (take (cut_place (is_utf8 t) t) t)) (codes "...")
        ∙ ap (λ n. n + 3)
        (shown_length (is_utf8 t) 32 (take (cut_place (is_utf8 t) t) t) ∙ ap (λ n. length (take n t)) (sym at) ∙ long))
        ∙ regrouped cut)
