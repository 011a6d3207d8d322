-- The first token with which no file can go on, or that opens something too deep.
use Rattle.std.specs.Prelude.{ℕ, ◌+◌, ◌-◌, ◌*◌, ◌^◌, ◌==◌, Bool, true, false, ◌&&◌, ◌||◌, not, nat_le, nat_lt, if◌then◌else◌, List, [], ◌∷◌, ◌++◌, Option, Some, None, codes, bytes_eq}
use Rattle.std.specs.List.{list_all, list_any}
use Rattle.std.specs.Char.{is_ascii_digit}
use Rattle.c_syntax.specs.declared.code.CType.TheVariants.{I8, U8, I16, U16, I32, U32, I64}
use Rattle.c_syntax.specs.declared.fault.CFault.{CFault}
use Rattle.c_syntax.specs.declared.fault.CKind.{CKind}
use Rattle.c_syntax.specs.declared.fault.CKind.TheVariants.{Syntax, Deep}
use Rattle.c_grammar.specs.Tokens.{Token}
use Rattle.c_syntax.specs.Names.{is_name}
use Rattle.c_grammar.specs.Grammar.{type_text}
use Rattle.c_syntax.specs.Limits.{expr_limit, stmt_limit, pure_limit, param_limit}

-- a text is one of these
abbrev pub is_one_of : List (List ℕ) → List ℕ → Bool
is_one_of texts text = list_any (bytes_eq text) texts

-- a text is a type
abbrev pub is_type : List ℕ → Bool
is_type text =
    is_one_of (type_text I8 ∷ type_text U8 ∷ type_text I16 ∷ type_text U16 ∷ type_text I32
    ∷ type_text U32 ∷ type_text I64 ∷ []) text

-- a text is an operator
abbrev pub is_op : List ℕ → Bool
is_op text = is_one_of (codes "+" ∷ codes "-" ∷ codes "*" ∷ codes "/" ∷ codes "%" ∷ []) text

-- a text is a comparison
abbrev pub is_comparison : List ℕ → Bool
is_comparison text =
    is_one_of (codes "==" ∷ codes "!=" ∷ codes "<" ∷ codes "<=" ∷ codes ">" ∷ codes ">=" ∷ []) text

-- a text joins two conditions
abbrev pub is_connective : List ℕ → Bool
is_connective text = is_one_of (codes "&&" ∷ codes "||" ∷ []) text

-- the value of digits, after those that were read
abbrev pub digits_value : ℕ → List ℕ → ℕ
digits_value n [] = n
digits_value n (d ∷ ds) = digits_value (10 * n + (d - 48)) ds

-- `0`, or digits without a leading 0, at most 9223372036854775807
abbrev pub is_literal : List ℕ → Bool
is_literal [] = false
is_literal (d ∷ ds) =
    list_all is_ascii_digit (d ∷ ds) && (bytes_eq (d ∷ ds) (codes "0") || not (d == 48))
    && nat_lt (digits_value 0 (d ∷ ds)) (2 ^ 63)

-- what a `(` may turn out to open: an expression, a condition, or the first operand of such a `(`
pub data Kind : Type 0 where
  expression condition : Kind

-- what an operand is there for
pub data Role : Type 0 where
  as_kind : (kind : Kind) → Role
  as_first : (outer : Role) → Role

-- something of this kind may be in this role
abbrev pub allows : Role → Kind → Bool
allows (as_kind expression) expression = true
allows (as_kind expression) condition = false
allows (as_kind condition) expression = false
allows (as_kind condition) condition = true
allows (as_first outer) kind = true

-- what the rest of a file has to begin with; a number is a depth, or a count so far
pub data Need : Type 0 where
  text_need : (text : List ℕ) → Need
  name_need : Need
  literal_need : Need
  type_need : Need
  -- an expression or condition that opens at a depth
  operand_need : Role → (depth : ℕ) → Need
  -- what follows the `(` of one
  inside_need : Role → (depth : ℕ) → Need
  -- what follows the first operand, of a kind, in a `(` with this role
  joint_need : Kind → Role → (depth : ℕ) → Need
  -- further arguments, or the `)`
  values_need : (depth : ℕ) → Need
  -- a leaf, in which an index opens at a depth
  leaf_need : (depth : ℕ) → Need
  -- what may follow the name of an own field in a leaf: a `.` and a name, or an index at a depth
  tail_need : (depth : ℕ) → Need
  -- what may follow the name of the field in a store, and of a number field where it is declared
  index_need : Need
  length_need : Need
  target_need : Need
  arguments_need : Need
  -- further statements at a depth, or the `}`
  stmts_need : (depth : ℕ) → Need
  else_need : (depth : ℕ) → Need
  pure_param_need : (number : ℕ) → Need
  pure_params_need : (count : ℕ) → Need
  param_need : (number : ℕ) → Need
  params_need : (count : ℕ) → Need
  field_need : Need
  fields_need : Need
  -- pure functions after so many, or the first struct
  pures_need : (count : ℕ) → Need
  -- further structs, or the first procedure
  structs_need : Need
  -- further procedures, or the end
  procedures_need : Need

-- what a need says to a token: no file goes on with it; it opens something too deep; or these needs
-- are left
pub data Reply : Type 0 where
  refuses : Reply
  too_deep : Reply
  leaves : (needs : List Need) → Reply

-- the needs that are left, with further ones after them
abbrev pub with_needs : Reply → List Need → Reply
with_needs refuses more = refuses
with_needs too_deep more = too_deep
with_needs (leaves needs) more = leaves (needs ++ more)

-- a reply for the tokens that pass a test
abbrev pub only_if : Bool → Reply → Reply
only_if test reply = if test then reply else refuses

-- the same, except for what opens beyond a limit
abbrev pub within_limit : (depth limit : ℕ) → Reply → Reply
within_limit depth limit refuses = refuses
within_limit depth limit too_deep = too_deep
within_limit depth limit (leaves needs) = if nat_le depth limit then leaves needs else too_deep

-- these texts, one after another
abbrev pub text_needs : List (List ℕ) → List Need
text_needs [] = []
text_needs (text ∷ texts) = text_need text ∷ text_needs texts

-- what is left after an expression or condition that has ended, whose kind is now known
abbrev pub follow : Kind → Role → (depth : ℕ) → List Need
follow kind (as_kind same) depth = []
follow kind (as_first outer) depth = joint_need kind outer depth ∷ []

-- an expression at a depth
abbrev pub expr_need : ℕ → Need
expr_need depth = operand_need (as_kind expression) depth

-- a condition at a depth
abbrev pub cond_need : ℕ → Need
cond_need depth = operand_need (as_kind condition) depth

-- the first that passes
abbrev pub first_reply : List (Bool × Reply) → Reply
first_reply [] = refuses
first_reply (entry ∷ rest) = if entry.0 then entry.1 else first_reply rest

-- a token that opens an operand
abbrev pub operand_reply : Role → ℕ → List ℕ → Reply
operand_reply role depth text =
    within_limit depth expr_limit (first_reply
    ((
      allows role expression && bytes_eq text (codes "INT64_C"),
      leaves (text_need (codes "(") ∷ literal_need ∷ text_need (codes ")")
          ∷ follow expression role depth),
    )
    ∷ (
      allows role expression && is_name text,
      leaves (text_need (codes "(") ∷ expr_need (depth + 1) ∷ values_need (depth + 1)
          ∷ follow expression role depth),
    )
    ∷ (bytes_eq text (codes "("), leaves (inside_need role depth ∷ []))
    ∷ []))

-- a token after the `(` of an operand
abbrev pub inside_reply : Role → ℕ → List ℕ → Reply
inside_reply role depth text =
    first_reply
    ((
      allows role expression && bytes_eq text (codes "-"),
      leaves (expr_need (depth + 1) ∷ text_need (codes ")") ∷ follow expression role depth),
    )
    ∷ (
      allows role condition && bytes_eq text (codes "!"),
      leaves (cond_need (depth + 1) ∷ text_need (codes ")") ∷ follow condition role depth),
    )
    ∷ (
      allows role expression && bytes_eq text (codes "int64_t"),
      leaves
          (text_need (codes ")") ∷ leaf_need (depth + 1) ∷ follow expression role depth),
    )
    ∷ (true, operand_reply (as_first role) (depth + 1) text)
    ∷ [])

-- a token after a first operand; `depth` is that of the operands
abbrev pub joint_reply : Kind → Role → ℕ → List ℕ → Reply
joint_reply expression role depth text =
    first_reply
    ((
      allows role expression && is_op text,
      leaves (expr_need depth ∷ text_need (codes ")") ∷ follow expression role (depth - 1)),
    )
    ∷ (
      allows role condition && is_comparison text,
      leaves (expr_need depth ∷ text_need (codes ")") ∷ follow condition role (depth - 1)),
    )
    ∷ [])
joint_reply condition role depth text =
    first_reply
    ((
      allows role condition && is_connective text,
      leaves (cond_need depth ∷ text_need (codes ")") ∷ follow condition role (depth - 1)),
    )
    ∷ (
      allows role expression && bytes_eq text (codes "?"),
      leaves (expr_need depth ∷ text_need (codes ":") ∷ expr_need depth ∷ text_need (codes ")")
          ∷ follow expression role (depth - 1)),
    )
    ∷ [])

-- an index that opens at a depth, after its `[`
abbrev pub index_needs : ℕ → List Need
index_needs depth = expr_need depth ∷ text_need (codes "]") ∷ []

-- the length of an array, after its `[`
abbrev pub length_needs : List Need
length_needs = literal_need ∷ text_need (codes "]") ∷ []

-- a token that opens a statement
abbrev pub stmt_reply : ℕ → List ℕ → Reply
stmt_reply depth text =
    within_limit depth stmt_limit (first_reply
    ((
      bytes_eq text (codes "s"),
      leaves (text_need (codes "->") ∷ name_need ∷ index_need ∷ text_need (codes "=")
          ∷ text_need (codes "(")
          ∷ type_need ∷ text_need (codes ")") ∷ expr_need 1 ∷ text_need (codes ";") ∷ []),
    )
    ∷ (
      bytes_eq text (codes "if"),
      leaves (cond_need 1 ∷ text_need (codes "{") ∷ stmts_need (depth + 1) ∷ else_need depth
          ∷ []),
    )
    ∷ (
      is_name text,
      leaves (text_need (codes "(") ∷ target_need ∷ arguments_need ∷ text_need (codes ";") ∷ []),
    )
    ∷ []))

-- a token that opens a field
abbrev pub field_reply : List ℕ → Reply
field_reply text =
    first_reply
    ((is_type text, leaves (name_need ∷ length_need ∷ text_need (codes ";") ∷ []))
    ∷ (bytes_eq text (codes "struct"), leaves (name_need ∷ name_need ∷ text_need (codes ";") ∷ []))
    ∷ [])

-- what is left of a struct after `struct`, and of a procedure after `void`
abbrev pub struct_needs : List Need
struct_needs = name_need ∷ text_need (codes "{") ∷ field_need ∷ fields_need ∷ text_need (codes ";")
    ∷ structs_need ∷ []

-- what is left of a procedure after `void`
abbrev pub procedure_needs : List Need
procedure_needs = name_need ∷ text_need (codes "(") ∷ text_need (codes "struct") ∷ name_need
    ∷ text_need (codes "*") ∷ text_need (codes "s") ∷ params_need 0 ∷ text_need (codes "{")
    ∷ stmts_need 1 ∷ procedures_need ∷ []

-- what is left of a pure function after `static`, which is the one of this number
abbrev pub pure_needs : ℕ → List Need
pure_needs number = text_need (codes "int64_t") ∷ name_need ∷ text_need (codes "(")
    ∷ pure_param_need 1 ∷ pure_params_need 1 ∷ text_need (codes "{") ∷ text_need (codes "return")
    ∷ expr_need 1 ∷ text_need (codes ";") ∷ text_need (codes "}") ∷ pures_need number ∷ []

-- a token that opens a procedure
abbrev pub procedures_reply : List ℕ → Reply
procedures_reply text =
    first_reply
    ((bytes_eq text (codes "static"), leaves (text_need (codes "void") ∷ procedure_needs))
    ∷ (bytes_eq text (codes "void"), leaves procedure_needs)
    ∷ [])

-- `,` and then these needs, or `)`
abbrev pub comma_reply : List Need → List ℕ → Reply
comma_reply needs text =
    first_reply ((bytes_eq text (codes ","), leaves needs) ∷ (bytes_eq text (codes ")"), leaves [])
    ∷ [])

-- what a need says to a token; what may be left out is looked at by `step_needs` first
abbrev pub reply_of : Need → List ℕ → Reply
reply_of (text_need wanted) text = only_if (bytes_eq text wanted) (leaves [])
reply_of name_need text = only_if (is_name text) (leaves [])
reply_of literal_need text = only_if (is_literal text) (leaves [])
reply_of type_need text = only_if (is_type text) (leaves [])
reply_of (operand_need role depth) text = operand_reply role depth text
reply_of (inside_need role depth) text = inside_reply role depth text
reply_of (joint_need kind role depth) text = joint_reply kind role depth text
reply_of (values_need depth) text = comma_reply (expr_need depth ∷ values_need depth ∷ []) text
reply_of (leaf_need depth) text =
    first_reply
    ((
      bytes_eq text (codes "s"),
      leaves (text_need (codes "->") ∷ name_need ∷ tail_need depth ∷ []),
    )
    ∷ (is_name text, leaves [])
    ∷ [])
reply_of (tail_need depth) text =
    first_reply ((bytes_eq text (codes "."), leaves (name_need ∷ []))
    ∷ (bytes_eq text (codes "["), leaves (index_needs depth)) ∷ [])
reply_of index_need text = only_if (bytes_eq text (codes "[")) (leaves (index_needs 1))
reply_of length_need text = only_if (bytes_eq text (codes "[")) (leaves length_needs)
reply_of target_need text =
    first_reply ((bytes_eq text (codes "s"), leaves [])
    ∷ (
      bytes_eq text (codes "&"),
      leaves (text_need (codes "s") ∷ text_need (codes "->") ∷ name_need ∷ []),
    ) ∷ [])
reply_of arguments_need text =
    comma_reply (text_need (codes "(") ∷ type_need ∷ text_need (codes ")") ∷ expr_need 1
    ∷ arguments_need ∷ []) text
reply_of (stmts_need depth) text =
    if bytes_eq text (codes "}") then leaves []
    else with_needs (stmt_reply depth text) (stmts_need depth ∷ [])
reply_of (else_need depth) text =
    only_if (bytes_eq text (codes "else"))
    (leaves (text_need (codes "{") ∷ stmts_need (depth + 1) ∷ []))
reply_of (pure_param_need number) text =
    within_limit number param_limit
    (only_if (bytes_eq text (codes "int64_t")) (leaves (name_need ∷ [])))
reply_of (pure_params_need count) text =
    comma_reply (pure_param_need (count + 1) ∷ pure_params_need (count + 1) ∷ []) text
reply_of (param_need number) text =
    within_limit number param_limit (only_if (is_type text) (leaves (name_need ∷ [])))
reply_of (params_need count) text =
    comma_reply (param_need (count + 1) ∷ params_need (count + 1) ∷ []) text
reply_of field_need text = field_reply text
reply_of fields_need text =
    if bytes_eq text (codes "}") then leaves []
    else with_needs (field_reply text) (fields_need ∷ [])
reply_of (pures_need count) text =
    first_reply
    ((
      bytes_eq text (codes "static"),
      within_limit (count + 1) pure_limit (leaves (pure_needs (count + 1))),
    )
    ∷ (bytes_eq text (codes "struct"), leaves struct_needs) ∷ [])
reply_of structs_need text =
    if bytes_eq text (codes "struct") then leaves struct_needs else procedures_reply text
reply_of procedures_need text = procedures_reply text

-- what a list of needs says to a token; a `.` with a name, an index, a length, and an `else` with
-- its block may be left out
abbrev pub step_needs : List Need → List ℕ → Reply
step_needs [] text = refuses
step_needs (tail_need depth ∷ needs) text =
    if bytes_eq text (codes ".") then leaves (name_need ∷ needs) else
    (if bytes_eq text (codes "[") then leaves (index_needs depth ++ needs)
    else step_needs needs text)
step_needs (index_need ∷ needs) text =
    if bytes_eq text (codes "[") then leaves (index_needs 1 ++ needs) else step_needs needs text
step_needs (length_need ∷ needs) text =
    if bytes_eq text (codes "[") then leaves (length_needs ++ needs) else step_needs needs text
step_needs (else_need depth ∷ needs) text =
    if bytes_eq text (codes "else")
    then leaves (text_need (codes "{") ∷ stmts_need (depth + 1) ∷ needs) else step_needs needs text
step_needs (need ∷ needs) text = with_needs (reply_of need text) needs

-- the file may end here
abbrev pub may_end : List Need → Bool
may_end (procedures_need ∷ []) = true
may_end needs = false

-- an error of a kind at a line
abbrev pub fault_at : ℕ → CKind → CFault
fault_at l k = record { line = l; kind = k }

-- goes on with the needs that are left, or reports the error at this line
abbrev pub on_reply : Reply → ℕ → (List Need → Option CFault) → Option CFault
on_reply refuses line go = Some (fault_at line Syntax)
on_reply too_deep line go = Some (fault_at line Deep)
on_reply (leaves needs) line go = go needs

-- the first error of syntax or depth in these tokens; `last` is the text's last line
abbrev pub token_fault : List Need → ℕ → List Token → Option CFault
token_fault needs last [] = if may_end needs then None else Some (fault_at last Syntax)
token_fault needs last (t ∷ tokens) =
    on_reply (step_needs needs t.text) t.line (λ left. token_fault left last tokens)

-- what a whole file has to be, after its first line
abbrev pub file_needs : List Need
file_needs = pures_need 0 ∷ []
