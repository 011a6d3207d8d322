-- Comments are apart, so that C99 reads lines alike with their notes.
use Rattle.std.proofs.Common.{◌≡◌, refl, sym, ◌∙◌, ap, subst, ℕ, zero, suc, ◌+◌, ◌-◌, Bool, true, false, ◌&&◌, List, [], ◌∷◌, ◌++◌, length, take, drop, codes, if◌then◌else◌, arith}
use Rattle.std.specs.List.{list_all}
use Rattle.std.proofs.lemmas.List.{append_assoc}
use Rattle.c_grammar.specs.Tokens.{is_white_space, comment_end}
use Rattle.c_grammar.proofs.lemmas.LiteralLaws.{and_both}
use Rattle.c_rules.specs.AlikeTexts.{is_quiet, slashes_apart, is_apart, is_quiet_comment, after_star, is_alike_from}
use Rattle.c_printer.specs.Comments.{comment_inside, comment_bytes}
use Rattle.c_printer.specs.Lines.{margin_bytes, ended, note_line, noted_line}
use Rattle.c_printer.proofs.CommentLaws.{end-found}
use Rattle.c_printer.proofs.HarmlessComments.{comments_are_harmless, inside-quiet}
use Rattle.c_printer.proofs.NotedLines.{quiet-none, is_beside}
use Rattle.c_printer.proofs.AlikeBytes.{GoesOn, one-more, not-joined, IsFree, AreLines, free-none, ◌◃◌, at-start, line-end, margin-free}

front-taken : (t x : List ℕ) → take (length t) (t ++ x) ≡ t
front-taken [] x = refl
front-taken (b ∷ bs) x = ap (λ t. b ∷ t) (front-taken bs x)

past-end : (t x : List ℕ) → drop (length t + 2) (t ++ 42 ∷ 47 ∷ x) ≡ x
past-end [] x = refl
past-end (b ∷ bs) x =
    ap (λ n. drop n (b ∷ (bs ++ 42 ∷ 47 ∷ x))) (let same : length (b ∷ bs) + 2 ≡ suc (length bs + 2) = omega arith in same)
    ∙ past-end bs x

-- what belongs to a comment is passed over
passed-over : (xs x : List ℕ) (before : ℕ) → ((b : ℕ) → is_alike_from 0 b x ≡ true) → is_alike_from (length xs) before (xs ++ x) ≡ true
passed-over [] x before behind = behind before
passed-over (b ∷ bs) x before behind = passed-over bs x b behind

-- a quiet text up to the end of its comment, and what comes after that
quiet-comment : (t x : List ℕ) → list_all is_quiet t ≡ true → slashes_apart t ≡ true → is_apart x ≡ true →
    is_quiet_comment (comment_end (t ++ 42 ∷ 47 ∷ x)) (t ++ 42 ∷ 47 ∷ x) ≡ true
quiet-comment t x quiet slashes behind =
    let bs : List ℕ = t ++ 42 ∷ 47 ∷ x in
    let front : take (length t + 2 - 2) bs ≡ t =
    ap (λ n. take n bs) (let same : length t + 2 - 2 ≡ length t = omega arith in same) ∙ front-taken t (42 ∷ 47 ∷ x) in
    ap (λ n. is_quiet_comment n bs) (end-found t x (quiet-none 42 refl t quiet))
    ∙ ap (λ u. list_all is_quiet u && slashes_apart u && is_apart (drop (length t + 2) bs)) front
    ∙ ap (λ u. list_all is_quiet t && slashes_apart t && is_apart u) (past-end t x)
    ∙ and_both (list_all is_quiet t && slashes_apart t) (is_apart x) (and_both (list_all is_quiet t) (slashes_apart t) quiet slashes) behind

-- where a line ends after it
rest-alike : (t ys : List ℕ) → list_all is_quiet t ≡ true → GoesOn 10 ys →
    is_alike_from (after_star (comment_end (t ++ 42 ∷ 47 ∷ 10 ∷ ys))) 47 (42 ∷ (t ++ 42 ∷ 47 ∷ 10 ∷ ys)) ≡ true
rest-alike t ys quiet behind =
    let bs : List ℕ = t ++ 42 ∷ 47 ∷ 10 ∷ ys in
    let all : List ℕ = 42 ∷ (t ++ 42 ∷ 47 ∷ []) in
    ap (λ n. is_alike_from (after_star n) 47 (42 ∷ bs)) (end-found t (10 ∷ ys) (quiet-none 42 refl t quiet))
    ∙ ap (λ n. is_alike_from n 47 (42 ∷ bs)) (counted t)
    ∙ ap (λ u. is_alike_from (length all) 47 (42 ∷ u)) (sym (append_assoc t (42 ∷ 47 ∷ []) (10 ∷ ys)))
    ∙ passed-over all (10 ∷ ys) 47 (λ b. behind.alike b refl)
  where
    counted : (u : List ℕ) → 1 + (length u + 2) ≡ length (42 ∷ (u ++ 42 ∷ 47 ∷ []))
    counted [] = refl
    counted (b ∷ us) = let before : 1 + (length us + 2) ≡ length (42 ∷ (us ++ 42 ∷ 47 ∷ [])) = counted us in omega (arith, before)

-- a comment before the end of a line, after a line end or a blank
comment-alike : (note ys : List ℕ) (w : ℕ) → is_white_space w ≡ true → GoesOn 10 ys →
    is_alike_from 0 w (comment_bytes note ++ 10 ∷ ys) ≡ true
comment-alike note ys w white behind =
    let t : List ℕ = comment_inside note in
    let bs : List ℕ = t ++ 42 ∷ 47 ∷ 10 ∷ ys in
    ap (λ u. is_alike_from 0 w (47 ∷ 42 ∷ u)) (append_assoc t (codes "*/") (10 ∷ ys))
    ∙ and_both (is_white_space w && is_quiet_comment (comment_end bs) bs)
    (is_alike_from (after_star (comment_end bs)) 47 (42 ∷ bs))
    (and_both (is_white_space w) (is_quiet_comment (comment_end bs) bs) white
    (quiet-comment t (10 ∷ ys) (inside-quiet note) (comments_are_harmless note).apart refl))
    (rest-alike t ys (inside-quiet note) behind)

after-blank : (note ys : List ℕ) → GoesOn 10 ys → GoesOn 32 (comment_bytes note ++ 10 ∷ ys)
after-blank note ys behind = record { alike = λ before plain. comment-alike note ys 32 refl behind }

after-line : (note ys : List ℕ) → GoesOn 10 ys → GoesOn 10 (comment_bytes note ++ 10 ∷ ys)
after-line note ys behind = record { alike = λ before plain. comment-alike note ys 10 refl behind }

-- a comment on a line of its own
blanks-before : (margin : ℕ) (note ys : List ℕ) → GoesOn 10 ys → GoesOn 32 (margin_bytes margin ++ (comment_bytes note ++ 10 ∷ ys))
blanks-before zero note ys behind = after-blank note ys behind
blanks-before (suc n) note ys behind =
    one-more 32 32 (margin_bytes n ++ (comment_bytes note ++ 10 ∷ ys)) refl refl (blanks-before n note ys behind)

margin-before : (margin : ℕ) (note ys : List ℕ) → GoesOn 10 ys → GoesOn 10 (margin_bytes margin ++ (comment_bytes note ++ 10 ∷ ys))
margin-before zero note ys behind = after-line note ys behind
margin-before (suc n) note ys behind =
    one-more 10 32 (margin_bytes n ++ (comment_bytes note ++ 10 ∷ ys)) refl refl (blanks-before n note ys behind)

line-shape : (m n z : List ℕ) → ((m ++ n) ++ 10 ∷ []) ++ z ≡ m ++ (n ++ 10 ∷ z)
line-shape m n z = simp append_assoc

comment-line : (margin : ℕ) (note : List ℕ) → AreLines (ended (margin_bytes margin ++ comment_bytes note))
comment-line margin note = record {
  apart = λ ys behind. subst (GoesOn 10) (sym (line-shape (margin_bytes margin) (comment_bytes note) ys))
      (margin-before margin note ys behind);
}

pub note-lines : (margin : ℕ) (note : List ℕ) → AreLines (note_line margin note)
note-lines margin [] = free-none
note-lines margin (b ∷ bs) = comment-line margin (b ∷ bs)

-- a line of code with its note
code-line : (margin : ℕ) (code : List ℕ) → IsFree code → AreLines (ended (margin_bytes margin ++ code))
code-line margin code free = at-start (margin-free margin ◃ free ◃ line-end)

beside-shape : (mc n z : List ℕ) → ((mc ++ 32 ∷ n) ++ 10 ∷ []) ++ z ≡ mc ++ 32 ∷ (n ++ 10 ∷ z)
beside-shape mc n z = simp append_assoc

beside-line : (margin : ℕ) (code note : List ℕ) → IsFree code → AreLines (ended (margin_bytes margin ++ code ++ 32 ∷ comment_bytes note))
beside-line margin code note free = record {
  apart = λ ys behind.
      let front : IsFree (margin_bytes margin ++ code) = margin-free margin ◃ free in
      let rest : List ℕ = comment_bytes note ++ 10 ∷ ys in
      subst (GoesOn 10) (sym (beside-shape (margin_bytes margin ++ code) (comment_bytes note) ys))
      (front.apart (32 ∷ rest) (λ b. one-more b 32 rest refl (not-joined b 32 refl) (after-blank note ys behind)) 10);
}

pub noted-lines : (margin : ℕ) (note code : List ℕ) → IsFree code → AreLines (noted_line margin note code)
noted-lines margin [] code free = code-line margin code free
noted-lines margin (b ∷ bs) code free = by (is_beside margin (b ∷ bs) code)
  where
    beside : List ℕ
    beside = ended (margin_bytes margin ++ code ++ 32 ∷ comment_bytes (b ∷ bs))

    above : List ℕ
    above = ended (margin_bytes margin ++ comment_bytes (b ∷ bs)) ++ ended (margin_bytes margin ++ code)

    by : (t : Bool) → AreLines (if t then beside else above)
    by true = beside-line margin code (b ∷ bs) free
    by false = comment-line margin (b ∷ bs) ◃ code-line margin code free
