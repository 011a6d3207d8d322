-- What a comment shows is short and quiet, whatever its text.
use Rattle.std.proofs.Common.{◌≡◌, refl, sym, ◌∙◌, ap, subst, ℕ, suc, ◌+◌, ◌≤◌, Bool, true, false, not, ◌&&◌, ◌||◌, ◌==◌, nat_le, List, [], ◌∷◌, ◌++◌, length, take, codes, if◌then◌else◌, slice_index, arith}
use Rattle.std.specs.List.{list_all}
use Rattle.std.specs.Str.{is_utf8}
use Rattle.std.proofs.lemmas.Bool.{leb-true}
use Rattle.std.proofs.lemmas.List.{append_assoc, length-append, length-take}
use Rattle.std.proofs.lemmas.List.Folds.{list_all-append}
use Rattle.c_grammar.specs.Tokens.{is_white_space}
use Rattle.c_grammar.proofs.lemmas.LiteralLaws.{and_both, and_first}
use Rattle.c_rules.specs.AlikeTexts.{is_quiet, slashes_apart}
use Rattle.c_printer.specs.Comments.{note_limit, shown_byte, byte_after, shown_after, is_inside, cut_place, comment_text, comment_inside}
use Rattle.c_printer.specs.Laws.{IsHarmless, CommentsAreHarmless}

-- a shown byte is quiet
shown-quiet : (u : Bool) (b : ℕ) → is_quiet (shown_byte u b) ≡ true
shown-quiet u b = by (is_quiet b && (nat_le b 127 || u)) refl
  where
    blank : (w : Bool) → is_quiet (if w then 32 else 46) ≡ true
    blank true = refl
    blank false = refl

    by : (t : Bool) → (is_quiet b && (nat_le b 127 || u)) ≡ t →
        is_quiet (if t then b else (if is_white_space b then 32 else 46)) ≡ true
    by true e = and_first (is_quiet b) (nat_le b 127 || u) e
    by false e = blank (is_white_space b)

after-quiet : (u : Bool) (last b : ℕ) → is_quiet (byte_after u last b) ≡ true
after-quiet u last b = by ((b == 47) && (last == 47))
  where
    by : (t : Bool) → is_quiet (if t then 46 else shown_byte u b) ≡ true
    by true = refl
    by false = shown-quiet u b

all-quiet : (u : Bool) (last : ℕ) (bs : List ℕ) → list_all is_quiet (shown_after u last bs) ≡ true
all-quiet u last [] = refl
all-quiet u last (b ∷ bs) =
    and_both (is_quiet (byte_after u last b)) (list_all is_quiet (shown_after u (byte_after u last b) bs))
    (after-quiet u last b) (all-quiet u (byte_after u last b) bs)

-- only a `/` is shown as one
not-slash : (u : Bool) (b : ℕ) → (b == 47) ≡ false → (shown_byte u b == 47) ≡ false
not-slash u b other = by (is_quiet b && (nat_le b 127 || u)) (is_white_space b)
  where
    by : (t w : Bool) → ((if t then b else (if w then 32 else 46)) == 47) ≡ false
    by true w = other
    by false true = refl
    by false false = refl

-- and of two in a row the second isn't
not-both : (u : Bool) (last b : ℕ) → ((last == 47) && (byte_after u last b == 47)) ≡ false
not-both u last b = by (last == 47) (b == 47) refl
  where
    by : (l s : Bool) → (b == 47) ≡ s → (l && ((if s && l then 46 else shown_byte u b) == 47)) ≡ false
    by false s e = refl
    by true true e = refl
    by true false e = not-slash u b e

-- before what begins with none
slashes-shown : (u : Bool) (last : ℕ) (bs : List ℕ) (d : ℕ) (ds : List ℕ) → (d == 47) ≡ false →
    slashes_apart (d ∷ ds) ≡ true → slashes_apart (last ∷ (shown_after u last bs ++ d ∷ ds)) ≡ true
slashes-shown u last [] d ds other rest =
    and_both (not ((last == 47) && (d == 47))) (slashes_apart (d ∷ ds)) (apart (last == 47)) rest
  where
    apart : (l : Bool) → not (l && (d == 47)) ≡ true
    apart true = ap not other
    apart false = refl
slashes-shown u last (b ∷ bs) d ds other rest =
    let c : ℕ = byte_after u last b in
    and_both (not ((last == 47) && (c == 47))) (slashes_apart (c ∷ (shown_after u c bs ++ d ∷ ds)))
    (ap not (not-both u last b)) (slashes-shown u c bs d ds other rest)

length-shown : (u : Bool) (last : ℕ) (bs : List ℕ) → length (shown_after u last bs) ≡ length bs
length-shown u last [] = refl
length-shown u last (b ∷ bs) = ap suc (length-shown u (byte_after u last b) bs)

cut-within : (u : Bool) (text : List ℕ) → cut_place u text ≤ 57
cut-within u text = by (u && is_inside (slice_index text 57)) (is_inside (slice_index text 56)) (is_inside (slice_index text 55))
  where
    by : (x y z : Bool) → (if not x then 57 else (if not y then 56 else (if not z then 55 else 54))) ≤ 57
    by false y z = omega arith
    by true false z = omega arith
    by true true false = omega arith
    by true true true = omega arith

short-cut : (u : Bool) (text : List ℕ) → length (shown_after u 32 (take (cut_place u text) text) ++ codes "...") ≤ 60
short-cut u text =
    let kept : List ℕ = take (cut_place u text) text in
    let whole : length (shown_after u 32 kept ++ codes "...") ≡ length (shown_after u 32 kept) + 3 =
    length-append (shown_after u 32 kept) (codes "...") in
    let shown : length (shown_after u 32 kept) ≡ length kept = length-shown u 32 kept in
    let few : length kept ≤ cut_place u text = omega (arith, length-take (cut_place u text) text) in
    omega (arith, whole, shown, few, cut-within u text)

text-harmless : (u : Bool) (text : List ℕ) (t : Bool) → nat_le (length text) note_limit ≡ t →
    IsHarmless (if t then shown_after u 32 text else shown_after u 32 (take (cut_place u text) text) ++ codes "...")
text-harmless u text true fits = record {
  short = let long : length text ≤ 60 = leb-true (length text) 60 fits in omega (arith, length-shown u 32 text);
  quiet = all-quiet u 32 text;
  apart = slashes-shown u 32 text 32 [] refl refl;
}
text-harmless u text false fits =
    let kept : List ℕ = take (cut_place u text) text in
    record {
      short = short-cut u text;
      quiet = list_all-append is_quiet (shown_after u 32 kept) (codes "...") ∙ ap (λ t. t && true) (all-quiet u 32 kept);
      apart = subst (λ t. slashes_apart (32 ∷ t) ≡ true) (sym (append_assoc (shown_after u 32 kept) (codes "...") (codes " ")))
          (slashes-shown u 32 kept 46 (46 ∷ 46 ∷ 32 ∷ []) refl refl);
    }

pub comments_are_harmless : CommentsAreHarmless
unfolding comment_text
comments_are_harmless text = text-harmless (is_utf8 text) text (nat_le (length text) note_limit) refl

-- what is between the signs of a comment is quiet too
pub inside-quiet : (text : List ℕ) → list_all is_quiet (comment_inside text) ≡ true
inside-quiet text =
    list_all-append is_quiet (comment_text text) (codes " ") ∙ ap (λ t. t && true) (comments_are_harmless text).quiet
