-- Texts with arrays, by hand: what an array, an item and a store in one may be, and the first error
-- of what they may not.
use Rattle.std.specs.Prelude.{◌≡◌, ℕ, zero, suc, List, [], ◌∷◌, ◌++◌, Option, Some, None, codes, refl}
use Rattle.c_syntax.specs.declared.fault.CKind.TheVariants.{Syntax, Deep}
use Rattle.c_syntax.specs.declared.fault.CFault.{CFault}
use Rattle.c_grammar.specs.Prefix.{fault_at}
use Rattle.c_grammar.specs.TextLines.{text_of_lines}
use Rattle.c_grammar.specs.LimitExamples.{first_token_fault}

-- a text with a further field of `struct root` on line 3, and one statement on line 7
abbrev pub text_of : (field statement : List ℕ) → List ℕ
text_of field statement = text_of_lines
    (codes "#include <stdint.h>"
    ∷ codes "struct root { int32_t y1;"
    ∷ field
    ∷ codes "};"
    ∷ codes "void root_start(struct root *s) { }"
    ∷ codes "void root_step(struct root *s, int32_t u1) {"
    ∷ statement
    ∷ codes "}"
    ∷ [])

-- the first error of a text with a field, of one with a statement, and of one with what is stored
abbrev pub field_fault : List ℕ → Option CFault
field_fault field = first_token_fault (text_of field [])

abbrev pub stmt_fault : List ℕ → Option CFault
stmt_fault statement = first_token_fault (text_of (codes "int32_t a[3];") statement)

abbrev pub expr_fault : List ℕ → Option CFault
expr_fault e = stmt_fault (codes "s->y1 = (int32_t)" ++ e ++ codes ";")

-- a length is any literal; whether it is in 1 to 65,535 is no matter of the grammar
pub array-fits : field_fault (codes "int32_t a[3]; uint8_t b [ 65536 ] ;") ≡ None
array-fits = refl

pub greatest_length-fits : field_fault (codes "int8_t a[9223372036854775807];") ≡ None
greatest_length-fits = refl

pub wide_length-refused : field_fault (codes "int8_t a[9223372036854775808];")
    ≡ Some (fault_at 3 Syntax)
wide_length-refused = refl

pub no_length-refused : field_fault (codes "int8_t a[];") ≡ Some (fault_at 3 Syntax)
no_length-refused = refl

pub leading_zero_length-refused : field_fault (codes "int8_t a[03];") ≡ Some (fault_at 3 Syntax)
leading_zero_length-refused = refl

pub named_length-refused : field_fault (codes "int8_t a[n];") ≡ Some (fault_at 3 Syntax)
named_length-refused = refl

pub literal_length-refused : field_fault (codes "int8_t a[INT64_C(3)];") ≡ Some (fault_at 3 Syntax)
literal_length-refused = refl

pub array_of_arrays-refused : field_fault (codes "int8_t a[3][3];") ≡ Some (fault_at 3 Syntax)
array_of_arrays-refused = refl

pub length_before_name-refused : field_fault (codes "int8_t [3] a;") ≡ Some (fault_at 3 Syntax)
length_before_name-refused = refl

pub array_of_structs-refused : field_fault (codes "struct c a[3];") ≡ Some (fault_at 3 Syntax)
array_of_structs-refused = refl

-- the `;` on line 4 comes in place of a `]`, and the `}` in place of a `;`
pub open_length-refused : field_fault (codes "int8_t a[3" ++ 10 ∷ codes "; ];")
    ≡ Some (fault_at 4 Syntax)
open_length-refused = refl

pub unended_array-refused : field_fault (codes "int8_t a[3]") ≡ Some (fault_at 4 Syntax)
unended_array-refused = refl

-- an item, with any expression as its index
pub item-fits : expr_fault (codes "(int64_t)s->a[(((int64_t)u1 + INT64_C(1)) % INT64_C(3))]") ≡ None
item-fits = refl

pub item_of_an_item-fits : expr_fault
    (codes "((int64_t) s -> a [ (int64_t)s->a[(int64_t)s->c.y] ] * (int64_t)s->y1)") ≡ None
item_of_an_item-fits = refl

pub item_of_a_parameter-refused : expr_fault (codes "(int64_t)u1[INT64_C(0)]")
    ≡ Some (fault_at 7 Syntax)
item_of_a_parameter-refused = refl

pub item_of_a_child-refused : expr_fault (codes "(int64_t)s->c.a[INT64_C(0)]")
    ≡ Some (fault_at 7 Syntax)
item_of_a_child-refused = refl

pub field_of_an_item-refused : expr_fault (codes "(int64_t)s->a[INT64_C(0)].y")
    ≡ Some (fault_at 7 Syntax)
field_of_an_item-refused = refl

pub item_of_an_own_item-refused : expr_fault (codes "(int64_t)s->a[INT64_C(0)][INT64_C(0)]")
    ≡ Some (fault_at 7 Syntax)
item_of_an_own_item-refused = refl

pub item_without_a_cast-refused : expr_fault (codes "s->a[INT64_C(0)]") ≡ Some (fault_at 7 Syntax)
item_without_a_cast-refused = refl

pub item_of_the_instance-refused : expr_fault (codes "(int64_t)s[INT64_C(0)]")
    ≡ Some (fault_at 7 Syntax)
item_of_the_instance-refused = refl

pub no_index-refused : expr_fault (codes "(int64_t)s->a[" ++ 10 ∷ codes "]")
    ≡ Some (fault_at 8 Syntax)
no_index-refused = refl

pub plain_index-refused : expr_fault (codes "(int64_t)s->a[" ++ 10 ∷ codes "0]")
    ≡ Some (fault_at 8 Syntax)
plain_index-refused = refl

-- a comparison is a condition, and none is an index
pub condition_as_index-refused : expr_fault (codes "(int64_t)s->a[(INT64_C(0)" ++ 10
    ∷ codes "< INT64_C(1))]") ≡ Some (fault_at 8 Syntax)
condition_as_index-refused = refl

pub two_indices-refused : expr_fault (codes "(int64_t)s->a[INT64_C(0)" ++ 10
    ∷ codes ", INT64_C(0)]") ≡ Some (fault_at 8 Syntax)
two_indices-refused = refl

pub open_index-refused : expr_fault (codes "(int64_t)s->a[INT64_C(0)" ++ 10 ∷ codes ")")
    ≡ Some (fault_at 8 Syntax)
open_index-refused = refl

-- a store in an item, and what it may not be
pub store-fits : stmt_fault
    (codes "s->a[((int64_t)u1 % INT64_C(3))] = (int32_t)(int64_t)s->a[INT64_C(2)];") ≡ None
store-fits = refl

pub store_in_a_child-refused : stmt_fault (codes "s->c.a[INT64_C(0)] = (int32_t)INT64_C(1);")
    ≡ Some (fault_at 7 Syntax)
store_in_a_child-refused = refl

pub store_without_an_index-refused : stmt_fault
    (codes "s->a[" ++ 10 ∷ codes "] = (int32_t)INT64_C(1);") ≡ Some (fault_at 8 Syntax)
store_without_an_index-refused = refl

pub store_in_two_items-refused : stmt_fault (codes "s->a[INT64_C(0)]" ++ 10
    ∷ codes "[INT64_C(0)] = (int32_t)INT64_C(1);")
    ≡ Some (fault_at 8 Syntax)
store_in_two_items-refused = refl

pub store_without_an_equals-refused : stmt_fault (codes "s->a[INT64_C(0)]" ++ 10
    ∷ codes "(int32_t)INT64_C(1);") ≡ Some (fault_at 8 Syntax)
store_without_an_equals-refused = refl

pub call_on_an_item-refused : stmt_fault (codes "p(&s->a" ++ 10 ∷ codes "[INT64_C(0)]);")
    ≡ Some (fault_at 8 Syntax)
call_on_an_item-refused = refl

-- the text ends in brackets: its last line
abbrev pub cut_fault : List ℕ → Option CFault
cut_fault end =
    first_token_fault
    (text_of_lines (codes "#include <stdint.h>"
    ∷ codes "struct root { int32_t y1; int32_t a[3]; };"
    ∷ codes "void root_start(struct root *s) {" ∷ end ∷ []))

pub cut_at_a_bracket-refused : cut_fault (codes "s->a[") ≡ Some (fault_at 4 Syntax)
cut_at_a_bracket-refused = refl

pub cut_behind_an_index-refused : cut_fault (codes "s->a[INT64_C(0)") ≡ Some (fault_at 4 Syntax)
cut_behind_an_index-refused = refl

pub cut_behind_a_bracket-refused : cut_fault (codes "s->a[INT64_C(0)]") ≡ Some (fault_at 4 Syntax)
cut_behind_a_bracket-refused = refl

-- so many items, each the index of the one around it, and an innermost index on a line of its own
abbrev pub nested_items : ℕ → List ℕ → List ℕ
nested_items zero inner = 10 ∷ inner
nested_items (suc n) inner = codes "(int64_t)s->a[" ++ nested_items n inner ++ codes "]"

-- an index is one deeper than its item, and an outermost one in a store
pub index_100-fits : expr_fault (nested_items 99 (codes "INT64_C(1)")) ≡ None
index_100-fits = refl

pub index_101-deep : expr_fault (nested_items 100 (codes "INT64_C(1)")) ≡ Some (fault_at 8 Deep)
index_101-deep = refl

-- at one token Syntax comes before Deep
pub index_101-refused : expr_fault (nested_items 100 (codes "]")) ≡ Some (fault_at 8 Syntax)
index_101-refused = refl

abbrev pub store_in : List ℕ → List ℕ
store_in index = codes "s->a[" ++ index ++ codes "] = (int32_t)INT64_C(1);"

pub store_index_100-fits : stmt_fault (store_in (nested_items 99 (codes "INT64_C(1)"))) ≡ None
store_index_100-fits = refl

pub store_index_101-deep : stmt_fault (store_in (nested_items 100 (codes "INT64_C(1)")))
    ≡ Some (fault_at 8 Deep)
store_index_101-deep = refl

-- of two errors the one in the index is before the one in the value
pub index-before-value : stmt_fault (codes "s->a[" ++ nested_items 100 (codes "INT64_C(1)")
    ++ codes "] =" ++ 10 ∷ codes "INT64_C(1);")
    ≡ Some (fault_at 8 Deep)
index-before-value = refl
