-- Lines, each with its end, and the lines of such a text.
use Rattle.std.proofs.Common.{◌≡◌, refl, sym, ◌∙◌, ap, ℕ, Bool, true, false, not, cond, List, [], ◌∷◌, ◌++◌, append_assoc, ◌==◌}
use Rattle.std.specs.Prelude.{◌&&◌}
use Rattle.std.specs.List.{AllByRecursion, list_all, slice_split, onto_first}
use Rattle.std.specs.Str.Lines.{lines, lines_of_parts, strip_carriage_return}
use Rattle.tool_generator.specs.Texts.{text_of}

-- whether a byte doesn't end a line
abbrev pub is_inside_line : ℕ → Bool
is_inside_line c = not (c == 10)

-- the text is one line, which keeps its last byte
pub record IsOneLine (text : List ℕ) : Type 0 where
  pub inside : list_all is_inside_line text ≡ true
  pub kept : strip_carriage_return text ≡ text

-- ---- The lines of a text

parts_there : (bytes : List ℕ) → (x : List ℕ) × (more : List (List ℕ)) × (slice_split (λ b. b == 10) bytes ≡ x ∷ more)
parts_there [] = ([], [], refl)
parts_there (c ∷ cs) = by (c == 10) (parts_there cs)
  where
    by : (t : Bool) → (x : List ℕ) × (more : List (List ℕ)) × (slice_split (λ b. b == 10) cs ≡ x ∷ more) →
        (x : List ℕ) × (more : List (List ℕ)) ×
        (cond t ([] ∷ slice_split (λ b. b == 10) cs) (onto_first c (slice_split (λ b. b == 10) cs)) ≡ x ∷ more)
    by true (x, more, e) = ([], slice_split (λ b. b == 10) cs, refl)
    by false (x, more, e) = (c ∷ x, more, ap (onto_first c) e)

first_part : (text rest : List ℕ) → list_all is_inside_line text ≡ true →
    slice_split (λ b. b == 10) (text ++ 10 ∷ rest) ≡ text ∷ slice_split (λ b. b == 10) rest
first_part [] rest h = refl
first_part (c ∷ cs) rest h = by (c == 10) h (first_part cs rest)
  where
    by : (t : Bool) → (not t && list_all is_inside_line cs) ≡ true →
        (list_all is_inside_line cs ≡ true → slice_split (λ b. b == 10) (cs ++ 10 ∷ rest) ≡ cs ∷ slice_split (λ b. b == 10) rest) →
        cond t ([] ∷ slice_split (λ b. b == 10) (cs ++ 10 ∷ rest)) (onto_first c (slice_split (λ b. b == 10) (cs ++ 10 ∷ rest)))
        ≡ (c ∷ cs) ∷ slice_split (λ b. b == 10) rest
    by true h more = cc
    by false h more = ap (onto_first c) (more h)

first_line : (text rest : List ℕ) → IsOneLine text → lines (text ++ 10 ∷ rest) ≡ text ∷ lines rest
first_line text rest one =
    let (x, more, e) = parts_there rest in
    ap lines_of_parts (first_part text rest one.inside ∙ ap (λ ps. text ∷ ps) e)
    ∙ ap (λ l. l ∷ lines_of_parts (x ∷ more)) one.kept
    ∙ ap (λ ps. text ∷ lines_of_parts ps) (sym e)

-- the lines of lines with their ends are these lines
pub lines_of_text : (texts : List (List ℕ)) → AllByRecursion IsOneLine texts → lines (text_of texts) ≡ texts
lines_of_text [] all = refl
lines_of_text (text ∷ texts) all =
    ap lines (append_assoc text (10 ∷ []) (text_of texts))
    ∙ first_line text (text_of texts) all.0 ∙ ap (λ ls. text ∷ ls) (lines_of_text texts all.1)

-- ---- The text of lines

pub text_of-append : (xs ys : List (List ℕ)) → text_of (xs ++ ys) ≡ text_of xs ++ text_of ys
text_of-append [] ys = refl
text_of-append (x ∷ xs) ys = ap (λ t. (x ++ 10 ∷ []) ++ t) (text_of-append xs ys)
    ∙ sym (append_assoc (x ++ 10 ∷ []) (text_of xs) (text_of ys))
