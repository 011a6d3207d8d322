-- What single lines say.
use Rattle.std.proofs.Common.{◌≡◌, refl, sym, ◌∙◌, ap, ℕ, ◌+◌, ◌-◌, ◌≤◌, Bool, true, false, not, cond, List, [], ◌∷◌, ◌++◌, length, reverse, Some, append_assoc, arith, length-append, ◌==◌, ne_eqb, drop}
use Rattle.std.proofs.lemmas.Bool.{and_parts, and_from}
use Rattle.std.proofs.lemmas.List.{reverse-append, reverse-reverse}
use Rattle.std.specs.Prelude.{◌&&◌, slice_index, take, if◌then◌else◌}
use Rattle.std.specs.List.{list_all, prefix_len}
use Rattle.std.specs.Char.{is_ascii_digit}
use Rattle.std.specs.Str.Lines.{strip_carriage_return}
use Rattle.base_core.specs.Bytes.{is_blank, drop_while, trim}
use Rattle.mdl_tree.specs.Text.{Opens, Sets, Whole, line_form, is_open_brace, string_from, with_front, whole_string}
use Rattle.tool_generator.specs.Texts.{quoted}
use Rattle.right_generated.proofs.DigitTexts.{digit_bounds}
use Rattle.right_generated.proofs.OneLines.{IsOneLine, is_inside_line}

-- the text is a line that sets a parameter
pub record Says (text name value : List ℕ) (quoted : Bool) : Type 0 where
  pub one : IsOneLine text
  pub form : (line : ℕ) → line_form line (trim text) ≡ Whole (Sets line name value quoted)

-- the text is a line that begins a section
pub record Heads (text name : List ℕ) : Type 0 where
  pub one : IsOneLine text
  pub form : (line : ℕ) → line_form line (trim text) ≡ Whole (Opens line name)

-- ---- Texts between two bytes that are no blanks

blanks_kept : (c : ℕ) (cs : List ℕ) → is_blank c ≡ false → drop_while is_blank (c ∷ cs) ≡ c ∷ cs
blanks_kept c cs e = ap (λ t. drop (cond t (1 + prefix_len is_blank cs) 0) (c ∷ cs)) e

trim_kept : (c d : ℕ) (cs : List ℕ) → is_blank c ≡ false → is_blank d ≡ false → trim ((c ∷ cs) ++ d ∷ []) ≡ (c ∷ cs) ++ d ∷ []
trim_kept c d cs first last =
    ap (λ bytes. reverse (drop_while is_blank (reverse bytes))) (blanks_kept c (cs ++ d ∷ []) first)
    ∙ ap (λ bytes. reverse (drop_while is_blank bytes)) (reverse-append (c ∷ cs) (d ∷ []))
    ∙ ap reverse (blanks_kept d (reverse (c ∷ cs)) last)
    ∙ ap reverse (sym (reverse-append (c ∷ cs) (d ∷ [])))
    ∙ reverse-reverse ((c ∷ cs) ++ d ∷ [])

last_at : (cs : List ℕ) (d : ℕ) → slice_index (cs ++ d ∷ []) (length cs) ≡ d
last_at [] d = refl
last_at (c ∷ cs) d = last_at cs d

pub return_kept : (cs : List ℕ) (d : ℕ) → (d == 13) ≡ false → strip_carriage_return (cs ++ d ∷ []) ≡ cs ++ d ∷ []
return_kept cs d e =
    let text = cs ++ d ∷ [] in
    let place : length text - 1 ≡ length cs = omega (arith, length-append cs (d ∷ [])) in
    ap (λ c. if c == 13 then take (length text - 1) text else text) (ap (slice_index text) place ∙ last_at cs d)
    ∙ ap (λ t. if t then take (length text - 1) text else text) e

-- ---- Quoted values

-- whether a byte stands for itself in a quoted value, and ends no line
abbrev pub is_quotable : ℕ → Bool
is_quotable c = not (c == 34) && (not (c == 92) && not (c == 10))

string_whole : (value : List ℕ) → list_all is_quotable value ≡ true → string_from false (value ++ 34 ∷ []) ≡ Some (value, [])
string_whole [] h = refl
string_whole (c ∷ cs) h = by (c == 34) (c == 92) (c == 10) h (string_whole cs)
  where
    by : (quote back end : Bool) → ((not quote && (not back && not end)) && list_all is_quotable cs) ≡ true →
        (list_all is_quotable cs ≡ true → string_from false (cs ++ 34 ∷ []) ≡ Some (cs, [])) →
        (if quote then Some ([], cs ++ 34 ∷ []) else with_front (if back then [] else c ∷ []) (string_from back (cs ++ 34 ∷ [])))
        ≡ Some (c ∷ cs, [])
    by true back end h more = cc
    by false true end h more = cc
    by false false true h more = cc
    by false false false h more = ap (with_front (c ∷ [])) (more h)

inside_line : (value : List ℕ) → list_all is_quotable value ≡ true → list_all is_inside_line value ≡ true
inside_line [] h = refl
inside_line (c ∷ cs) h =
    let parts = and_parts _ _ h in
    and_from _ _ (and_parts _ _ (and_parts _ _ parts.0).1).1 (inside_line cs parts.1)

all_both : (test : ℕ → Bool) (xs ys : List ℕ) → list_all test xs ≡ true → list_all test ys ≡ true → list_all test (xs ++ ys) ≡ true
all_both test [] ys p q = q
all_both test (x ∷ xs) ys p q = let parts = and_parts _ _ p in and_from _ _ parts.0 (all_both test xs ys parts.1 q)

not_open : (value : List ℕ) → is_open_brace (34 ∷ (value ++ 34 ∷ [])) ≡ false
not_open [] = refl
not_open (c ∷ cs) = refl

-- a name that a quoted value may follow: a line that begins with it, a space and a quote says what it should
abbrev pub IsName : List ℕ → Type 0
IsName name =
    (line : ℕ) (rest : List ℕ) → line_form line (name ++ 32 ∷ 34 ∷ rest)
    ≡ (if is_open_brace (34 ∷ rest) then Whole (Opens line name)
    else Whole (whole_string line (λ value. Sets line name value true) (string_from false rest)))

pub quoted_says : (c : ℕ) (cs value : List ℕ) → is_blank c ≡ false → list_all is_inside_line (c ∷ cs) ≡ true → IsName (c ∷ cs) →
    list_all is_quotable value ≡ true → Says (quoted (c ∷ cs) value) (c ∷ cs) value true
quoted_says c cs value first short named fine =
    let name = c ∷ cs in
    let front = name ++ 32 ∷ 34 ∷ value in
    let whole : quoted name value ≡ front ++ 34 ∷ [] = ap (λ xs. xs ++ 34 ∷ []) (append_assoc name (32 ∷ 34 ∷ []) value) in
    record {
      one = record {
        inside = ap (list_all is_inside_line) whole
            ∙ all_both is_inside_line front (34 ∷ []) (all_both is_inside_line name (32 ∷ 34 ∷ value) short (inside_line value fine)) refl;
        kept = ap strip_carriage_return whole ∙ return_kept front 34 refl ∙ sym whole;
      };
      form = λ line.
          ap (line_form line) (ap trim whole ∙ trim_kept c 34 (cs ++ 32 ∷ 34 ∷ value) first refl
          ∙ append_assoc name (32 ∷ 34 ∷ value) (34 ∷ []))
          ∙ named line (value ++ 34 ∷ [])
          ∙ ap (λ t. if t then Whole (Opens line name) else Whole (whole_string line (λ v. Sets line name v true)
          (string_from false (value ++ 34 ∷ []))))
          (not_open value)
          ∙ ap (λ s. Whole (whole_string line (λ v. Sets line name v true) s)) (string_whole value fine);
    }

-- digits are quotable
digit_quotable : (c : ℕ) → is_ascii_digit c ≡ true → is_quotable c ≡ true
digit_quotable c h =
    let bounds = digit_bounds c h in
    let low : 48 ≤ c = bounds.0 in
    let high : c ≤ 57 = bounds.1 in
    and_from _ _ (ap not (ne_eqb c 34 (λ e. omega (arith, e, low))))
    (and_from _ _ (ap not (ne_eqb c 92 (λ e. omega (arith, e, high)))) (ap not (ne_eqb c 10 (λ e. omega (arith, e, low)))))

pub digits_quotable : (value : List ℕ) → list_all is_ascii_digit value ≡ true → list_all is_quotable value ≡ true
digits_quotable [] h = refl
digits_quotable (c ∷ cs) h =
    let parts = and_parts _ _ h in and_from _ _ (digit_quotable c parts.0) (digits_quotable cs parts.1)
