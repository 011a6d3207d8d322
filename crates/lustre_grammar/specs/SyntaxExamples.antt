-- Texts that no file goes on from, or that open an expression too deep, with their first errors.
use Rattle.std.specs.Prelude.{◌≡◌, ℕ, zero, suc, List, [], ◌∷◌, ◌++◌, Option, Some, None, codes, refl}
use Rattle.c_syntax.specs.declared.fault.CFault.{CFault}
use Rattle.c_syntax.specs.declared.fault.CKind.TheVariants.{Syntax, Deep}
use Rattle.c_grammar.specs.Prefix.{fault_at}
use Rattle.c_grammar.specs.TextLines.{text_of_lines}
use Rattle.lustre_grammar.specs.Tokens.{tokens_of, last_line}
use Rattle.lustre_grammar.specs.Prefix.{file_needs, token_fault}

-- the first error of a text's tokens
abbrev pub first_token_fault : List ℕ → Option CFault
first_token_fault bytes = token_fault file_needs (last_line bytes) (tokens_of bytes)

-- a node with this equation at line 3
abbrev pub text_with : List ℕ → List ℕ
text_with equation = text_of_lines
    (codes "node root (u1: int) returns (y1: int);"
    ∷ codes "let"
    ∷ equation
    ∷ codes "tel;"
    ∷ [])

abbrev pub fault_with : List ℕ → Option CFault
fault_with equation = first_token_fault (text_with equation)

-- ---- Of the grammar

pub a_name : fault_with (codes "y1 = u1;") ≡ None
a_name = refl

pub all_forms : fault_with
    (codes "y1 = (if (true and (not (u1 <> 3))) then (0 -> (pre y1)) else (- (u1 div 2)));") ≡ None
all_forms = refl

pub a_call : fault_with (codes "y1, x = call f(u1, (u1 mod 2)); = call g();") ≡ None
a_call = refl

-- `s` is a name, and so is what only begins like a word
pub name_s : fault_with (codes "s = tells;") ≡ None
name_s = refl

-- a token is as long as it can be: this is `(`, `u1`, `<=`, `-`, and no number has a sign
pub long_sign : fault_with (codes "y1 = (u1<=-1);") ≡ Some (fault_at 3 Syntax)
long_sign = refl

-- `->` is one token, and `- >` are two
pub arrow_sign : fault_with (codes "y1 = (0->u1);") ≡ None
arrow_sign = refl

pub parted_arrow : fault_with (codes "y1 = (0 - > u1);") ≡ Some (fault_at 3 Syntax)
parted_arrow = refl

-- no words as names, no keywords of C, no name that ends with `_t`, none with an upper-case letter
-- at its head
pub word_as_name : fault_with (codes "tel = 1;") ≡ Some (fault_at 3 Syntax)
word_as_name = refl

pub keyword_as_name : fault_with (codes "while = 1;") ≡ Some (fault_at 3 Syntax)
keyword_as_name = refl

pub type_as_name : fault_with (codes "v_t = 1;") ≡ Some (fault_at 3 Syntax)
type_as_name = refl

pub upper_case : fault_with (codes "Y1 = 1;") ≡ Some (fault_at 3 Syntax)
upper_case = refl

-- numbers: without a leading 0, and of 63 bits
pub leading_nought : fault_with (codes "y1 = 01;") ≡ Some (fault_at 3 Syntax)
leading_nought = refl

pub greatest_number : fault_with (codes "y1 = 9223372036854775807;") ≡ None
greatest_number = refl

pub too_great : fault_with (codes "y1 = 9223372036854775808;") ≡ Some (fault_at 3 Syntax)
too_great = refl

-- no comments, no operators of C, no expression without its parentheses
pub no_comment : fault_with (codes "y1 = u1; /* */") ≡ Some (fault_at 3 Syntax)
no_comment = refl

pub equal_of_c : fault_with (codes "y1 = (if (u1 == 1) then 1 else 2);") ≡ Some (fault_at 3 Syntax)
equal_of_c = refl

pub bare_sum : fault_with (codes "y1 = u1 + 1;") ≡ Some (fault_at 3 Syntax)
bare_sum = refl

-- `pre` of a name alone, and a call only as a whole right side
pub pre_of_sum : fault_with (codes "y1 = (0 -> (pre (u1 + 1)));") ≡ Some (fault_at 3 Syntax)
pre_of_sum = refl

pub inner_call : fault_with (codes "y1 = (1 + call f(u1));") ≡ Some (fault_at 3 Syntax)
inner_call = refl

-- several names are given by a call alone
pub two_names : fault_with (codes "y1, x = u1;") ≡ Some (fault_at 3 Syntax)
two_names = refl

-- the error is where the token is, also in an expression of several lines
pub later_line : fault_with (codes "y1 =\n(u1\n+ );") ≡ Some (fault_at 5 Syntax)
later_line = refl

-- ---- Ends

pub empty_file : first_token_fault [] ≡ Some (fault_at 1 Syntax)
empty_file = refl

pub open_file : first_token_fault (codes "node f () returns ();\nlet\n") ≡ Some (fault_at 2 Syntax)
open_file = refl

pub idle_node : first_token_fault (codes "node f () returns ();\nlet\ntel;\n") ≡ None
idle_node = refl

-- `var` is before at least one name
pub empty_var : first_token_fault (codes "node f () returns ();\nvar\nlet tel;\n")
    ≡ Some (fault_at 3 Syntax)
empty_var = refl

-- after a node comes a node or the end
pub after_node : first_token_fault (codes "node f () returns ();\nlet tel;\ntel")
    ≡ Some (fault_at 3 Syntax)
after_node = refl

-- ---- Depth

-- so many minus signs before a number
abbrev pub minus_signs : ℕ → List ℕ
minus_signs zero = codes "1"
minus_signs (suc n) = codes "(-" ++ minus_signs n ++ codes ")"

-- the same before the value of the tick before
abbrev pub minus_pre : ℕ → List ℕ
minus_pre zero = codes "(pre y1)"
minus_pre (suc n) = codes "(-" ++ minus_pre n ++ codes ")"

abbrev pub value : List ℕ → List ℕ
value e = codes "y1 = " ++ e ++ codes ";"

pub expr_100-fits : fault_with (value (minus_signs 99)) ≡ None
expr_100-fits = refl

pub expr_101-deep : fault_with (value (minus_signs 100)) ≡ Some (fault_at 3 Deep)
expr_101-deep = refl

-- the name after `pre` is no expression
pub pre_100-fits : fault_with (value (codes "(0 -> " ++ minus_pre 98 ++ codes ")")) ≡ None
pre_100-fits = refl
