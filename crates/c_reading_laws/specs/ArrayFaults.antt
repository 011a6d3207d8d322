-- Texts with arrays that keep the static rules or break one, by hand, with the first error.
use Rattle.std.specs.Prelude.{◌≡◌, ℕ, List, [], ◌∷◌, ◌++◌, Option, Some, None, Result, Ok, Err, codes, refl}
use Rattle.std.specs.Fmt.{digits}
use Rattle.c_syntax.specs.declared.fault.CFault.{CFault}
use Rattle.c_syntax.specs.declared.fault.CKind.TheVariants.{Name, TypeRule}
use Rattle.c_syntax.specs.Tree.{ProgramTree}
use Rattle.c_grammar.specs.Prefix.{fault_at}
use Rattle.c_grammar.specs.ArrayExamples.{text_of}
use Rattle.c_reading_laws.specs.ReadText.{read_text}

abbrev fault_in : Result ProgramTree CFault → Option CFault
fault_in (Ok p) = None
fault_in (Err fault) = Some fault

-- of a text with a field on line 3, and of one with three 16-bit items and a statement from line 7
-- on
abbrev field_fault : List ℕ → Option CFault
field_fault field = fault_in (read_text (text_of field []))

abbrev stmt_fault : List ℕ → Option CFault
stmt_fault statement = fault_in (read_text (text_of (codes "int16_t a[3];") statement))

least_length-passes : field_fault (codes "int16_t a[1];") ≡ None
unfolding digits
least_length-passes = refl

greatest_length-passes : field_fault (codes "int64_t a[65535];") ≡ None
unfolding digits
greatest_length-passes = refl

no_items-refused : field_fault (codes "int16_t a[0];") ≡ Some (fault_at 3 TypeRule)
unfolding digits
no_items-refused = refl

long_array-refused : field_fault (codes "int16_t a[65536];") ≡ Some (fault_at 3 TypeRule)
unfolding digits
long_array-refused = refl

output_array-refused : field_fault (codes "int16_t y2[3];") ≡ Some (fault_at 3 TypeRule)
unfolding digits
output_array-refused = refl

-- a name that is taken comes before a length that is none
taken_name-first : field_fault (codes "int16_t y1[0];") ≡ Some (fault_at 3 Name)
unfolding digits
taken_name-first = refl

items-pass : stmt_fault (codes "s->a[(int64_t)u1] = (int16_t)(int64_t)s->a[INT64_C(2)];") ≡ None
unfolding digits
items-pass = refl

-- whether an index is in its array is no rule on a text
outside-passes : stmt_fault (codes "s->a[INT64_C(3)] = (int16_t)INT64_C(1);") ≡ None
unfolding digits
outside-passes = refl

array_stored-refused : stmt_fault (codes "s->a = (int16_t)INT64_C(1);") ≡ Some (fault_at 7 TypeRule)
unfolding digits
array_stored-refused = refl

array_read-refused : stmt_fault (codes "s->y1 = (int32_t)(int64_t)s->a;")
    ≡ Some (fault_at 7 TypeRule)
unfolding digits
array_read-refused = refl

number_stored_at-refused : stmt_fault (codes "s->y1[INT64_C(0)] = (int32_t)INT64_C(1);")
    ≡ Some (fault_at 7 TypeRule)
unfolding digits
number_stored_at-refused = refl

number_read_at-refused : stmt_fault (codes "s->y1 = (int32_t)(int64_t)s->y1[INT64_C(0)];")
    ≡ Some (fault_at 7 TypeRule)
unfolding digits
number_read_at-refused = refl

inside_array-refused : stmt_fault (codes "s->y1 = (int32_t)(int64_t)s->a.v;")
    ≡ Some (fault_at 7 TypeRule)
unfolding digits
inside_array-refused = refl

other_cast-refused : stmt_fault (codes "s->a[INT64_C(0)] = (int32_t)INT64_C(1);")
    ≡ Some (fault_at 7 TypeRule)
unfolding digits
other_cast-refused = refl

unknown_array-refused : stmt_fault (codes "s->b[INT64_C(0)] = (int16_t)INT64_C(1);")
    ≡ Some (fault_at 7 Name)
unfolding digits
unknown_array-refused = refl

-- the store first, then its index, then its value
store-first : stmt_fault (codes "s->a[" ++ 10 ∷ codes "(int64_t)x] = (int32_t)" ++ 10
    ∷ codes "(int64_t)z;") ≡ Some (fault_at 7 TypeRule)
unfolding digits
store-first = refl

index-second : stmt_fault (codes "s->a[" ++ 10 ∷ codes "(int64_t)x] = (int16_t)" ++ 10
    ∷ codes "(int64_t)z;") ≡ Some (fault_at 8 Name)
unfolding digits
index-second = refl

value-third : stmt_fault (codes "s->a[" ++ 10 ∷ codes "(int64_t)u1] = (int16_t)" ++ 10
    ∷ codes "(int64_t)z;") ≡ Some (fault_at 9 Name)
unfolding digits
value-third = refl

-- a leaf before what is in its index
leaf-first : stmt_fault (codes "s->y1 = (int32_t)(int64_t)s->y1[" ++ 10 ∷ codes "(int64_t)x];")
    ≡ Some (fault_at 7 TypeRule)
unfolding digits
leaf-first = refl
