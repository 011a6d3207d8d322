-- Texts at the limits, and pure functions, conditions and choices read and run.
use Rattle.std.specs.Prelude.{◌≡◌, ℕ, zero, suc, List, [], ◌∷◌, ◌++◌, Option, Some, None, codes, refl}
use Rattle.c_syntax.specs.declared.fault.CKind.TheVariants.{Syntax, Deep}
use Rattle.c_syntax.specs.declared.fault.CFault.{CFault}
use Rattle.c_grammar.specs.Tokens.{tokens_of, last_line}
use Rattle.c_grammar.specs.Prefix.{file_needs, token_fault, fault_at}
use Rattle.c_grammar.specs.TextLines.{text_of_lines}

abbrev pub first_token_fault : List ℕ → Option CFault
first_token_fault bytes = token_fault file_needs (last_line bytes) (tokens_of bytes)

-- so many minus signs before a number
abbrev pub minus_signs : ℕ → List ℕ
minus_signs zero = codes "INT64_C(1)"
minus_signs (suc n) = codes "(-" ++ minus_signs n ++ codes ")"

-- so many nested choices between statements, with a line for the innermost
abbrev pub nested_ifs : ℕ → List ℕ
nested_ifs zero = 10 ∷ codes "s->y1 = (int32_t)INT64_C(1);"
nested_ifs (suc n) = codes "if (INT64_C(1) == INT64_C(1)) {" ++ nested_ifs n ++ codes "} else { }"

abbrev pub text_with : List ℕ → List ℕ
text_with body = text_of_lines
    (codes "#include <stdint.h>"
    ∷ codes "struct root { int32_t y1; };"
    ∷ codes "void root_start(struct root *s) { }"
    ∷ codes "void root_step(struct root *s, int32_t u1) {"
    ∷ body
    ∷ codes "}"
    ∷ [])

abbrev pub store_of : List ℕ → List ℕ
store_of e = codes "s->y1 = (int32_t)" ++ e ++ codes ";"

-- expressions 100 deep, and 101
pub expr_100-fits : first_token_fault (text_with (store_of (minus_signs 99))) ≡ None
expr_100-fits = refl

pub expr_101-deep : first_token_fault (text_with (store_of (minus_signs 100)))
    ≡ Some (fault_at 5 Deep)
expr_101-deep = refl

-- statements 20 deep, and 21
pub stmt_20-fits : first_token_fault (text_with (nested_ifs 19)) ≡ None
stmt_20-fits = refl

pub stmt_21-deep : first_token_fault (text_with (nested_ifs 20)) ≡ Some (fault_at 6 Deep)
stmt_21-deep = refl

-- what a `(` opens is known when its first operand has ended
pub choice-fits : first_token_fault
    (text_with
    (store_of
    (codes "((((int64_t)u1 + INT64_C(1)) < INT64_C(3)) ? ((!((int64_t)u1 == (-INT64_C(1)))) ? INT64_C(4) : (int64_t)s->y1) : INT64_C(5))")))
    ≡ None
choice-fits = refl

-- a comparison where a number must be, and a number where a condition must
pub compare-refused : first_token_fault (text_with (store_of (codes "(INT64_C(1) < INT64_C(2))")))
    ≡ Some (fault_at 5 Syntax)
compare-refused = refl

pub number-refused : first_token_fault (text_with (codes "if (INT64_C(1) + INT64_C(2)) { }"))
    ≡ Some (fault_at 5 Syntax)
number-refused = refl

-- a literal with a leading 0, one past 63 bits, a keyword as a name, and a comment without its end
pub leading_zero-refused : first_token_fault (text_with (store_of (codes "INT64_C(01)")))
    ≡ Some (fault_at 5 Syntax)
leading_zero-refused = refl

pub wide_literal-refused : first_token_fault
    (text_with (store_of (codes "INT64_C(9223372036854775808)"))) ≡ Some (fault_at 5 Syntax)
wide_literal-refused = refl

pub greatest_literal-fits : first_token_fault
    (text_with (store_of (codes "INT64_C(9223372036854775807)"))) ≡ None
greatest_literal-fits = refl

pub keyword-refused : first_token_fault (text_with (codes "goto(s);")) ≡ Some (fault_at 5 Syntax)
keyword-refused = refl

pub open_comment-refused : first_token_fault (text_with (codes "/* open"))
    ≡ Some (fault_at 5 Syntax)
open_comment-refused = refl

-- so many pure functions, and a procedure with so many parameters
abbrev pub pure_functions : ℕ → List ℕ
pure_functions zero = []
pure_functions (suc n) =
    codes "static int64_t f(int64_t x) { return (int64_t)x; } " ++ pure_functions n

abbrev pub further_params : ℕ → List ℕ
further_params zero = []
further_params (suc n) = codes ", int8_t x" ++ further_params n

abbrev pub text_of_counts : (functions params : ℕ) → List ℕ
text_of_counts functions params = text_of_lines
    (codes "#include <stdint.h>"
    ∷ pure_functions functions
    ∷ codes "struct root { int32_t y1; };"
    ∷ (codes "void root_start(struct root *s" ++ further_params params ++ codes ") { }")
    ∷ [])

-- 16 pure functions and 64 parameters, and one more of each
pub counts-fit : first_token_fault (text_of_counts 16 64) ≡ None
counts-fit = refl

pub pure_17-deep : first_token_fault (text_of_counts 17 64) ≡ Some (fault_at 2 Deep)
pure_17-deep = refl

pub param_65-deep : first_token_fault (text_of_counts 16 65) ≡ Some (fault_at 4 Deep)
param_65-deep = refl
