-- The first token with which no file can go on, or that opens an expression too deep.
use Rattle.std.specs.Prelude.{ℕ, ◌+◌, Bool, true, false, ◌||◌, nat_le, if◌then◌else◌, List, [], ◌∷◌, ◌++◌, Option, Some, None, codes, bytes_eq}
use Rattle.c_syntax.specs.declared.fault.CFault.{CFault}
use Rattle.c_syntax.specs.declared.fault.CKind.TheVariants.{Syntax, Deep}
use Rattle.c_grammar.specs.Tokens.{Token}
use Rattle.c_grammar.specs.Prefix.{is_one_of, is_literal, fault_at}
use Rattle.lustre_syntax.specs.Names.{is_lustre_name}
use Rattle.lustre_syntax.specs.Lawful.{expr_limit}

-- a text joins two operands
abbrev pub is_joint : List ℕ → Bool
is_joint text =
    is_one_of (codes "+" ∷ codes "-" ∷ codes "*" ∷ codes "div" ∷ codes "mod" ∷ codes "="
    ∷ codes "<>" ∷ codes "<" ∷ codes "<=" ∷ codes ">" ∷ codes ">=" ∷ codes "and" ∷ codes "or"
    ∷ codes "->" ∷ []) text

abbrev pub is_type : List ℕ → Bool
is_type text = is_one_of (codes "int" ∷ codes "bool" ∷ []) text

-- an expression of one token
abbrev pub is_leaf : List ℕ → Bool
is_leaf text =
    is_literal text || is_one_of (codes "true" ∷ codes "false" ∷ []) text || is_lustre_name text

-- what the rest of a file has to begin with; a number is a depth
pub data Need : Type 0 where
  text_need : (text : List ℕ) → Need
  name_need : Need
  type_need : Need
  -- an expression that opens at a depth
  expr_need : (depth : ℕ) → Need
  -- what follows the `(` of one
  inside_need : (depth : ℕ) → Need
  -- what follows the first operand, of two at a depth
  joint_need : (depth : ℕ) → Need
  -- the first input or output, or the `)`; and what follows one
  ports_need : Need
  more_ports_need : Need
  -- `var` or `let`; and what follows a further name
  others_need : Need
  more_others_need : Need
  -- a further equation, or `tel`
  equations_need : Need
  -- what follows the first name of an equation, and what follows a later one
  given_need : Need
  more_given_need : Need
  -- what follows `=` after one name
  value_need : Need
  -- the first argument, or the `)`; and what follows one
  arguments_need : Need
  more_arguments_need : Need
  -- a further node, or the end
  nodes_need : Need

-- what a need says to a token: no file goes on with it; it opens something too deep; or these needs
-- are left
pub data Reply : Type 0 where
  refuses : Reply
  too_deep : Reply
  leaves : (needs : List Need) → Reply

-- the needs that are left, with further ones after them
abbrev pub with_needs : Reply → List Need → Reply
with_needs refuses more = refuses
with_needs too_deep more = too_deep
with_needs (leaves needs) more = leaves (needs ++ more)

-- a reply for the tokens that pass a test
abbrev pub only_if : Bool → Reply → Reply
only_if test reply = if test then reply else refuses

-- the same, except for what opens beyond the limit
abbrev pub within_limit : (depth : ℕ) → Reply → Reply
within_limit depth refuses = refuses
within_limit depth too_deep = too_deep
within_limit depth (leaves needs) = if nat_le depth expr_limit then leaves needs else too_deep

-- the first that passes
abbrev pub first_reply : List (Bool × Reply) → Reply
first_reply [] = refuses
first_reply (entry ∷ rest) = if entry.0 then entry.1 else first_reply rest

-- a token that opens an expression at a depth
abbrev pub expr_reply : ℕ → List ℕ → Reply
expr_reply depth text =
    within_limit depth (first_reply ((is_leaf text, leaves [])
    ∷ (bytes_eq text (codes "("), leaves (inside_need depth ∷ [])) ∷ []))

-- what is left after `-` or `not`, `if`, and `pre`
abbrev pub operand_needs : ℕ → List Need
operand_needs depth = expr_need depth ∷ text_need (codes ")") ∷ []

abbrev pub choice_needs : ℕ → List Need
choice_needs depth =
    expr_need depth ∷ text_need (codes "then") ∷ expr_need depth ∷ text_need (codes "else")
    ∷ expr_need depth ∷ text_need (codes ")") ∷ []

abbrev pub previous_needs : List Need
previous_needs = name_need ∷ text_need (codes ")") ∷ []

-- a token after the `(` of an expression at a depth
abbrev pub inside_reply : ℕ → List ℕ → Reply
inside_reply depth text =
    first_reply
    ((bytes_eq text (codes "-") || bytes_eq text (codes "not"), leaves (operand_needs (depth + 1)))
    ∷ (bytes_eq text (codes "if"), leaves (choice_needs (depth + 1)))
    ∷ (bytes_eq text (codes "pre"), leaves previous_needs)
    ∷ (true, with_needs (expr_reply (depth + 1) text) (joint_need (depth + 1) ∷ [])) ∷ [])

-- a declared name after which something else comes
abbrev pub declared_reply : List Need → List ℕ → Reply
declared_reply more text =
    only_if (is_lustre_name text) (leaves (text_need (codes ":") ∷ type_need ∷ more))

-- what is left of a call after the `=`, and after the `call`
abbrev pub callee_needs : List Need
callee_needs = name_need ∷ text_need (codes "(") ∷ arguments_need ∷ text_need (codes ";") ∷ []

abbrev pub call_needs : List Need
call_needs = text_need (codes "call") ∷ callee_needs

-- what is left of a node after `node`
abbrev pub node_needs : List Need
node_needs = name_need ∷ text_need (codes "(") ∷ ports_need ∷ text_need (codes "returns")
    ∷ text_need (codes "(") ∷ ports_need ∷ text_need (codes ";") ∷ others_need ∷ equations_need
    ∷ text_need (codes ";") ∷ nodes_need ∷ []

-- what a need says to a token
abbrev pub reply_of : Need → List ℕ → Reply
reply_of (text_need wanted) text = only_if (bytes_eq text wanted) (leaves [])
reply_of name_need text = only_if (is_lustre_name text) (leaves [])
reply_of type_need text = only_if (is_type text) (leaves [])
reply_of (expr_need depth) text = expr_reply depth text
reply_of (inside_need depth) text = inside_reply depth text
reply_of (joint_need depth) text = only_if (is_joint text) (leaves (operand_needs depth))
reply_of ports_need text =
    if bytes_eq text (codes ")") then leaves [] else declared_reply (more_ports_need ∷ []) text
reply_of more_ports_need text =
    first_reply
    ((bytes_eq text (codes ")"), leaves [])
    ∷ (
      bytes_eq text (codes ";"),
      leaves (name_need ∷ text_need (codes ":") ∷ type_need ∷ more_ports_need ∷ []),
    )
    ∷ [])
reply_of others_need text =
    first_reply
    ((bytes_eq text (codes "let"), leaves [])
    ∷ (
      bytes_eq text (codes "var"),
      leaves (name_need ∷ text_need (codes ":") ∷ type_need ∷ text_need (codes ";")
          ∷ more_others_need ∷ []),
    )
    ∷ [])
reply_of more_others_need text =
    if bytes_eq text (codes "let") then leaves []
    else declared_reply (text_need (codes ";") ∷ more_others_need ∷ []) text
reply_of equations_need text =
    first_reply
    ((bytes_eq text (codes "tel"), leaves [])
    ∷ (bytes_eq text (codes "="), leaves (call_needs ++ equations_need ∷ []))
    ∷ (is_lustre_name text, leaves (given_need ∷ equations_need ∷ [])) ∷ [])
reply_of given_need text =
    first_reply
    ((bytes_eq text (codes ","), leaves (name_need ∷ more_given_need ∷ []))
    ∷ (bytes_eq text (codes "="), leaves (value_need ∷ [])) ∷ [])
reply_of more_given_need text =
    first_reply
    ((bytes_eq text (codes ","), leaves (name_need ∷ more_given_need ∷ []))
    ∷ (bytes_eq text (codes "="), leaves call_needs) ∷ [])
reply_of value_need text =
    if bytes_eq text (codes "call") then leaves callee_needs
    else with_needs (expr_reply 1 text) (text_need (codes ";") ∷ [])
reply_of arguments_need text =
    if bytes_eq text (codes ")") then leaves []
    else with_needs (expr_reply 1 text) (more_arguments_need ∷ [])
reply_of more_arguments_need text =
    first_reply
    ((bytes_eq text (codes ")"), leaves [])
    ∷ (bytes_eq text (codes ","), leaves (expr_need 1 ∷ more_arguments_need ∷ [])) ∷ [])
reply_of nodes_need text = only_if (bytes_eq text (codes "node")) (leaves (node_needs))

-- what a list of needs says to a token
abbrev pub step_needs : List Need → List ℕ → Reply
step_needs [] text = refuses
step_needs (need ∷ needs) text = with_needs (reply_of need text) needs

-- the file may end here
abbrev pub may_end : List Need → Bool
may_end (nodes_need ∷ []) = true
may_end needs = false

-- goes on with the needs that are left, or reports the error at this line
abbrev pub on_reply : Reply → ℕ → (List Need → Option CFault) → Option CFault
on_reply refuses line go = Some (fault_at line Syntax)
on_reply too_deep line go = Some (fault_at line Deep)
on_reply (leaves needs) line go = go needs

-- the first error of syntax or depth in these tokens; `last` is the text's last line
abbrev pub token_fault : List Need → ℕ → List Token → Option CFault
token_fault needs last [] = if may_end needs then None else Some (fault_at last Syntax)
token_fault needs last (t ∷ tokens) =
    on_reply (step_needs needs t.text) t.line (λ left. token_fault left last tokens)

-- what a whole file has to be
abbrev pub file_needs : List Need
file_needs = text_need (codes "node") ∷ node_needs
