-- The lines of a text, one after another.
use Rattle.std.proofs.Common.{◌≡◌, refl, sym, ◌∙◌, ap, ℕ, zero, suc, ◌+◌, ◌-◌, ◌<◌, ◌≤◌, ◌≢◌, Bool, true, false, true≢false, not, cond, List, [], ◌∷◌, ◌++◌, length, take, drop, get_or, arith, ◌==◌}
use Rattle.std.specs.Prelude.{nat_lt, ◌&&◌, if◌then◌else◌}
use Rattle.std.proofs.lemmas.Bool.{eqb-true, eqb-false, eq-eqb, ne_eqb, lt-ltb}
use Rattle.std.proofs.lemmas.List.{length-take-le, length-append, get_or-take, get_or_append_left, take-take, take-append-drop, take-append-le}
use Rattle.std.proofs.lemmas.List.Folds.{prefix_len-append}
use Rattle.std.proofs.lemmas.List.Splits.{length-slice_split, slice_split_first}
use Rattle.std.proofs.lemmas.List.Sums.{prefix_len-le-length}
use Rattle.std.proofs.Math.Seq.{drop-append_seam}
use Rattle.std.specs.List.{slice_split, onto_first, position_or_len}
use Rattle.std.specs.Str.Lines.{lines, lines_of_parts, strip_carriage_return}
use Rattle.tool_traces.specs.Lines.{kept_len, ended_parts, whole_lines}

one_more : (n : ℕ) → 1 + n ≡ suc n
one_more n = omega arith

-- how many bytes come before the first byte 10
abbrev pub line_len : List ℕ → ℕ
line_len text = position_or_len (λ c. c == 10) text

abbrev parts : List ℕ → List (List ℕ)
parts text = slice_split (λ c. c == 10) text

-- no byte of a line's end
abbrev not_feed : ℕ → Bool
not_feed c = not (c == 10)

pub len-le : (text : List ℕ) → line_len text ≤ length text
len-le text = prefix_len-le-length not_feed text

-- ---- A text without a byte 10

one_part : (text : List ℕ) → line_len text ≡ length text → parts text ≡ text ∷ []
one_part [] whole = refl
one_part (c ∷ cs) whole = by_test (one_part cs) (c == 10) whole
  where
    by_test : (line_len cs ≡ length cs → parts cs ≡ cs ∷ []) → (t : Bool) → cond (not t) (1 + line_len cs) 0 ≡ suc (length cs) →
        cond t ([] ∷ parts cs) (onto_first c (parts cs)) ≡ (c ∷ cs) ∷ []
    by_test more true whole = absurd (omega arith)
    by_test more false whole = ap (onto_first c) (more (omega arith))

pub last_line : (text : List ℕ) → line_len text ≡ length text → (length text == 0) ≡ false → lines text ≡ text ∷ []
last_line text whole some =
    ap lines_of_parts (one_part text whole) ∙ ap (λ t. if t then [] else text ∷ []) some

pub no_whole_line : (text : List ℕ) → line_len text ≡ length text → whole_lines text ≡ []
no_whole_line text whole = ap ended_parts (one_part text whole)

-- ---- A text with a byte 10

more_lines : (x : List ℕ) (xs : List (List ℕ)) → 0 < length xs → lines_of_parts (x ∷ xs) ≡ strip_carriage_return x ∷ lines_of_parts xs
more_lines x [] some = absurd (omega arith)
more_lines x (y ∷ ys) some = refl

more_whole_lines : (x : List ℕ) (xs : List (List ℕ)) → 0 < length xs → ended_parts (x ∷ xs) ≡ strip_carriage_return x ∷ ended_parts xs
more_whole_lines x [] some = absurd (omega arith)
more_whole_lines x (y ∷ ys) some = refl

stripped : (text : List ℕ) (n : ℕ) → n ≤ length text → strip_carriage_return (take n text) ≡ take (kept_len text n) text
stripped text zero within = refl
stripped text (suc n) within =
    let len : length (take (suc n) text) - 1 ≡ n = omega (arith, length-take-le (suc n) text within) in
    let last : get_or (take (suc n) text) n 0 ≡ get_or text n 0 = get_or-take (suc n) text n 0 (omega arith) in
    let before : suc n - 1 ≡ n = omega arith in
    let some : nat_lt 0 (suc n) ≡ true = lt-ltb 0 (suc n) (omega arith) in
    ap (λ k. if get_or (take (suc n) text) k 0 == 13 then take k (take (suc n) text) else take (suc n) text) len
    ∙ ap (λ b. if b == 13 then take n (take (suc n) text) else take (suc n) text) last
    ∙ by_test (get_or text n 0 == 13)
    ∙ ap (λ b. take (if b && (get_or text n 0 == 13) then n else suc n) text) (sym some)
    ∙ ap (λ k. take (if nat_lt 0 (suc n) && (get_or text k 0 == 13) then k else suc n) text) (sym before)
  where
    by_test : (t : Bool) → (if t then take n (take (suc n) text) else take (suc n) text) ≡ take (if true && t then n else suc n) text
    by_test true = take-take n (suc n) text (omega arith)
    by_test false = refl

pub kept-le : (text : List ℕ) (n : ℕ) → kept_len text n ≤ n
kept-le text n = by_test (nat_lt 0 n && (get_or text (n - 1) 0 == 13))
  where
    by_test : (t : Bool) → (if t then n - 1 else n) ≤ n
    by_test true = omega arith
    by_test false = omega arith

plain_size : (n : ℕ) (t : Bool) → 4096 < n → 4096 < (if t && false then n - 1 else n)
plain_size n true long = omega arith
plain_size n false long = omega arith

-- of more bytes before a byte 10 than a line may have, so many are left without one byte 13
pub kept-long : (text : List ℕ) (n : ℕ) → 4096 < n → (n ≡ 4097 → (get_or text 4096 0 == 13) ≡ false) → 4096 < kept_len text n
kept-long text n long plain = by_test (get_or text (n - 1) 0 == 13) refl
  where
    by_test : (t : Bool) → (get_or text (n - 1) 0 == 13) ≡ t → 4096 < (if nat_lt 0 n && t then n - 1 else n)
    by_test true carriage = by_size (n == 4097) refl
      where
        some : nat_lt 0 n ≡ true
        some = lt-ltb 0 n (omega arith)

        by_size : (t : Bool) → (n == 4097) ≡ t → 4096 < (if nat_lt 0 n && true then n - 1 else n)
        by_size true is =
            let same : n ≡ 4097 = eqb-true n 4097 is in
            let here : (get_or text (n - 1) 0 == 13) ≡ (get_or text 4096 0 == 13) = ap (λ k. get_or text (k - 1) 0 == 13) same in
            absurd (true≢false (sym carriage ∙ here ∙ plain same))
        by_size false apart =
            let other : n ≢ 4097 = eqb-false n 4097 apart in
            let less : n - 1 ≡ (if nat_lt 0 n && true then n - 1 else n) = ap (λ b. if b && true then n - 1 else n) (sym some) in
            omega (arith, less)
    by_test false carriage = plain_size n (nat_lt 0 n) long

pub first_line : (text : List ℕ) → line_len text < length text →
    lines text ≡ take (kept_len text (line_len text)) text ∷ lines (drop (line_len text + 1) text)
first_line text within =
    let rest = drop (line_len text + 1) text in
    let some : 0 < length (parts rest) = omega (arith, length-slice_split (λ c. c == 10) rest) in
    ap lines_of_parts (slice_split_first (λ c. c == 10) text 0 within)
    ∙ more_lines (take (line_len text) text) (parts rest) some
    ∙ ap (λ l. l ∷ lines rest) (stripped text (line_len text) (omega arith))

pub first_whole_line : (text : List ℕ) → line_len text < length text →
    whole_lines text ≡ take (kept_len text (line_len text)) text ∷ whole_lines (drop (line_len text + 1) text)
first_whole_line text within =
    let rest = drop (line_len text + 1) text in
    let some : 0 < length (parts rest) = omega (arith, length-slice_split (λ c. c == 10) rest) in
    ap ended_parts (slice_split_first (λ c. c == 10) text 0 within)
    ∙ more_whole_lines (take (line_len text) text) (parts rest) some
    ∙ ap (λ l. l ∷ whole_lines rest) (stripped text (line_len text) (omega arith))

some_line : (x : List ℕ) (xs : List (List ℕ)) → x ∷ xs ≡ [] → ⊥
some_line x xs is = cc

-- a text without whole lines has no byte 10
pub unended : (text : List ℕ) → whole_lines text ≡ [] → line_len text ≡ length text
unended text none = by_test (line_len text == length text) refl
  where
    by_test : (t : Bool) → (line_len text == length text) ≡ t → line_len text ≡ length text
    by_test true same = eqb-true (line_len text) (length text) same
    by_test false part =
        let apart : line_len text ≢ length text = eqb-false (line_len text) (length text) part in
        absurd (some_line _ _ (sym (first_whole_line text (omega (arith, len-le text))) ∙ none))

-- ---- A text and what is after it

pub kept_same : (text behind : List ℕ) (n : ℕ) → n ≤ length text → kept_len (text ++ behind) n ≡ kept_len text n
kept_same text behind zero within = refl
kept_same text behind (suc n) within =
    let below : suc n - 1 < length text = omega arith in
    ap (λ c. if nat_lt 0 (suc n) && (c == 13) then suc n - 1 else suc n) (get_or_append_left text behind 0 (suc n - 1) below)

pub len_same : (text behind : List ℕ) → line_len text < length text → line_len (text ++ behind) ≡ line_len text
len_same text behind part =
    prefix_len-append not_feed text behind
    ∙ ap (λ t. cond t (length text + line_len behind) (line_len text))
    (ne_eqb (line_len text) (length text) (omega arith))

pub len_longer : (text behind : List ℕ) → line_len text ≡ length text → line_len (text ++ behind) ≡ length text + line_len behind
len_longer text behind whole =
    prefix_len-append not_feed text behind
    ∙ ap (λ t. cond t (length text + line_len behind) (line_len text)) (eq-eqb (line_len text) (length text) whole)

-- the first line of a text with its end
abbrev pub head_of : List ℕ → List ℕ
head_of text = take (line_len text + 1) text

record IsHead (text : List ℕ) : Type 0 where
  size : length (head_of text) ≡ line_len text + 1
  len : line_len (head_of text) ≡ line_len text

is_head : (text : List ℕ) → line_len text < length text → IsHead text
is_head text part = record { size = size; len = by_test (line_len (head_of text) == length (head_of text)) refl }
  where
    size : length (head_of text) ≡ line_len text + 1
    size = length-take-le (line_len text + 1) text (omega arith)

    parted : line_len text ≡ line_len (head_of text ++ drop (line_len text + 1) text)
    parted = ap line_len (sym (take-append-drop (line_len text + 1) text))

    by_test : (t : Bool) → (line_len (head_of text) == length (head_of text)) ≡ t → line_len (head_of text) ≡ line_len text
    by_test true whole =
        absurd (omega (
          arith,
          size,
          parted,
          len_longer (head_of text) (drop (line_len text + 1) text)
              (eqb-true (line_len (head_of text)) (length (head_of text)) whole),
        ))
    by_test false part =
        let apart : line_len (head_of text) ≢ length (head_of text) = eqb-false (line_len (head_of text)) (length (head_of text)) part in
        sym (parted ∙ len_same (head_of text) (drop (line_len text + 1) text) (omega (arith, len-le (head_of text))))

-- what a first line with its end keeps, and where it ends, whatever is after it
record HeadBefore (text behind : List ℕ) : Type 0 where
  part : line_len (head_of text ++ behind) < length (head_of text ++ behind)
  line : take (kept_len (head_of text ++ behind) (line_len (head_of text ++ behind))) (head_of text ++ behind)
      ≡ take (kept_len text (line_len text)) text
  rest : drop (line_len (head_of text ++ behind) + 1) (head_of text ++ behind) ≡ behind

head_before : (text behind : List ℕ) → line_len text < length text → HeadBefore text behind
head_before text behind part =
    let head = head_of text in
    let n = line_len text in
    let is = is_head text part in
    let len : line_len (head ++ behind) ≡ n = len_same head behind (omega (arith, is.size, is.len)) ∙ is.len in
    let same : kept_len (head ++ behind) n ≡ kept_len text n =
    kept_same head behind n (omega (arith, is.size))
    ∙ sym (ap (λ t. kept_len t n) (sym (take-append-drop (n + 1) text)) ∙ kept_same head (drop (n + 1) text) n (omega (arith, is.size))) in
    let few = kept-le text n in
    record {
      part = omega (arith, len, is.size, length-append head behind);
      line =
          ap (λ k. take (kept_len (head ++ behind) k) (head ++ behind)) len ∙ ap (λ k. take k (head ++ behind)) same
          ∙ take-append-le (kept_len text n) head behind (omega (arith, few, is.size))
          ∙ take-take (kept_len text n) (n + 1) text (omega (arith, few));
      rest = ap (λ k. drop (k + 1) (head ++ behind)) len ∙ ap (λ k. drop k (head ++ behind)) (sym is.size) ∙ drop-append_seam head behind;
    }

pub lines_of_head : (text behind : List ℕ) → line_len text < length text →
    lines (head_of text ++ behind) ≡ take (kept_len text (line_len text)) text ∷ lines behind
lines_of_head text behind part =
    let b = head_before text behind part in
    first_line (head_of text ++ behind) b.part
    ∙ ap (λ l. l ∷ lines (drop (line_len (head_of text ++ behind) + 1) (head_of text ++ behind))) b.line
    ∙ ap (λ rest. take (kept_len text (line_len text)) text ∷ lines rest) b.rest

pub whole_lines_of_head : (text behind : List ℕ) → line_len text < length text →
    whole_lines (head_of text ++ behind) ≡ take (kept_len text (line_len text)) text ∷ whole_lines behind
whole_lines_of_head text behind part =
    let b = head_before text behind part in
    first_whole_line (head_of text ++ behind) b.part
    ∙ ap (λ l. l ∷ whole_lines (drop (line_len (head_of text ++ behind) + 1) (head_of text ++ behind))) b.line
    ∙ ap (λ rest. take (kept_len text (line_len text)) text ∷ whole_lines rest) b.rest

-- the first line, where there is one
pub record FirstLine (text : List ℕ) (P : List ℕ → Type 0) : Type 0 where
  pub line : List ℕ
  pub behind : List (List ℕ)
  pub is : lines text ≡ line ∷ behind
  pub has : P line

-- a first line that is too long stays so, whatever is after the text
pub long_ended : (text behind : List ℕ) → line_len text < length text → 4096 < kept_len text (line_len text) →
    FirstLine (text ++ behind) (λ line. 4096 < length line)
long_ended text behind part long =
    let len = len_same text behind part in
    let kept = kept_same text behind (line_len text) (omega arith) in
    let within : line_len (text ++ behind) < length (text ++ behind) = omega (arith, len, length-append text behind) in
    record {
      line = take (kept_len (text ++ behind) (line_len (text ++ behind))) (text ++ behind);
      behind = lines (drop (line_len (text ++ behind) + 1) (text ++ behind));
      is = first_line (text ++ behind) within;
      has =
          omega (
            arith,
            long,
            kept,
            ap (λ n. kept_len (text ++ behind) n) len,
            kept-le (text ++ behind) (line_len (text ++ behind)),
            length-take-le (kept_len (text ++ behind) (line_len (text ++ behind))) (text ++ behind)
                (omega (arith, within, kept-le (text ++ behind) (line_len (text ++ behind)))),
          );
    }

pub long_unended : (text behind : List ℕ) → line_len text ≡ length text → 4096 < length text →
    (length text ≡ 4097 → (get_or text 4096 0 == 13) ≡ false) → FirstLine (text ++ behind) (λ line. 4096 < length line)
long_unended text behind whole long plain = by_test (line_len (text ++ behind) == length (text ++ behind)) refl
  where
    longer : line_len (text ++ behind) ≡ length text + line_len behind
    longer = len_longer text behind whole

    by_test : (t : Bool) → (line_len (text ++ behind) == length (text ++ behind)) ≡ t →
        FirstLine (text ++ behind) (λ line. 4096 < length line)
    by_test true same = record {
      line = text ++ behind;
      behind = [];
      is = last_line (text ++ behind) (eqb-true (line_len (text ++ behind)) (length (text ++ behind)) same)
          (ne_eqb (length (text ++ behind)) 0 (omega (arith, length-append text behind)));
      has = omega (arith, length-append text behind);
    }
    by_test false part =
        let apart : line_len (text ++ behind) ≢ length (text ++ behind) =
        eqb-false (line_len (text ++ behind)) (length (text ++ behind)) part in
        let within : line_len (text ++ behind) < length (text ++ behind) = omega (arith, len-le (text ++ behind)) in
        let here : 4096 < length text = long in
        let byte : get_or (text ++ behind) 4096 0 ≡ get_or text 4096 0 = get_or_append_left text behind 0 4096 here in
        let kept : 4096 < kept_len (text ++ behind) (line_len (text ++ behind)) =
        kept-long (text ++ behind) (line_len (text ++ behind)) (omega (arith, longer)) (λ is. ap (λ b. b == 13) byte
        ∙ plain (omega (arith, is, longer, long))) in
        record {
          line = take (kept_len (text ++ behind) (line_len (text ++ behind))) (text ++ behind);
          behind = lines (drop (line_len (text ++ behind) + 1) (text ++ behind));
          is = first_line (text ++ behind) within;
          has = omega (
            arith,
            kept,
            length-take-le (kept_len (text ++ behind) (line_len (text ++ behind)))
                (text ++ behind) (omega (arith, within, kept-le (text ++ behind) (line_len (text ++ behind)))),
          );
        }
