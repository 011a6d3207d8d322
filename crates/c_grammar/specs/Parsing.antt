-- The written program of tokens by recursive descent, or their first error. What it is of the
-- grammar is proved of it.
use Rattle.std.specs.Prelude.{ℕ, zero, suc, ◌+◌, Bool, true, false, ◌&&◌, nat_le, if◌then◌else◌, List, [], ◌∷◌, length, Option, Some, None, Result, Ok, Err, codes, bytes_eq}
use Rattle.base_core.specs.declared.base.Compare.{Compare}
use Rattle.base_core.specs.declared.base.Compare.TheVariants.{Eq, Ne, Lt, Le, Ge, Gt}
use Rattle.c_syntax.specs.declared.code.BinOp.{BinOp}
use Rattle.c_syntax.specs.declared.code.BinOp.TheVariants.{Add, Sub, Mul, Div, Rem}
use Rattle.c_syntax.specs.declared.code.CType.{CType}
use Rattle.c_syntax.specs.declared.code.CType.TheVariants.{I8, U8, I16, U16, I32, U32, I64}
use Rattle.c_syntax.specs.declared.fault.CFault.{CFault}
use Rattle.c_syntax.specs.declared.fault.CKind.TheVariants.{Syntax, Deep}
use Rattle.c_grammar.specs.Tokens.{Token}
use Rattle.c_syntax.specs.Names.{is_name}
use Rattle.c_syntax.specs.Kinds.{WrittenKind, number_kind, array_kind, struct_kind}
use Rattle.c_grammar.specs.Written.{param, own, child, WrittenExpr, literal, neg, read, binary, pick, pure, item, WrittenExprs, no_exprs, more_exprs, WrittenCond, compare, both, either, negated, WrittenTarget, own_target, field_target, WrittenArguments, no_arguments, more_arguments, WrittenStmt, assign, assign_at, branch, branch_else, call, WrittenStmts, no_stmts, more_stmts, WrittenParam, WrittenPureParam, WrittenPure, WrittenField, WrittenStruct, WrittenProcedure, WrittenProgram}
use Rattle.c_syntax.specs.Limits.{expr_limit, stmt_limit, pure_limit, param_limit}
use Rattle.c_grammar.specs.Prefix.{is_literal, digits_value, fault_at}
use Rattle.base_core.specs.Results.{◌>>=◌, ◌>>◌}
use Rattle.c_grammar.specs.declared.openers.Want.{Want}
use Rattle.c_grammar.specs.declared.openers.Want.TheVariants.{Value as want_value, Test as want_test, Any as want_any}
use Rattle.c_grammar.specs.declared.openers.Opener.{Opener}
use Rattle.c_grammar.specs.declared.openers.Opener.TheVariants.{Number as number_opener, Call as call_opener, Paren as paren_opener, Nothing as no_opener}
use Rattle.c_grammar.specs.declared.openers.Inside.{Inside}
use Rattle.c_grammar.specs.declared.openers.Inside.TheVariants.{Minus as minus_inside, Not as not_inside, Cast as cast_inside, First as first_inside}
use Rattle.c_grammar.specs.declared.openers.Tail.{Tail}
use Rattle.c_grammar.specs.declared.openers.Tail.TheVariants.{Dot as dot_tail, Bracket as bracket_tail, Nothing as no_tail}
use Rattle.c_grammar.specs.declared.openers.ValueJoint.{ValueJoint}
use Rattle.c_grammar.specs.declared.openers.ValueJoint.TheVariants.{Operator as op_joint, Comparison as compare_joint, Nothing as no_value_joint}
use Rattle.c_grammar.specs.declared.openers.TestJoint.{TestJoint}
use Rattle.c_grammar.specs.declared.openers.TestJoint.TheVariants.{And as and_joint, Or as or_joint, Pick as pick_joint, Nothing as no_test_joint}
use Rattle.c_grammar.specs.declared.openers.StmtOpener.{StmtOpener}
use Rattle.c_grammar.specs.declared.openers.StmtOpener.TheVariants.{Store as store_opener, If as if_opener, Call as invoke_opener, Nothing as no_stmt}
use Rattle.c_grammar.specs.declared.openers.Comma.{Comma}
use Rattle.c_grammar.specs.declared.openers.Comma.TheVariants.{Another as another, Closed as closed, Nothing as no_comma}
use Rattle.c_grammar.specs.declared.openers.TargetOpener.{TargetOpener}
use Rattle.c_grammar.specs.declared.openers.TargetOpener.TheVariants.{Own as own_opener, Field as field_opener, Nothing as no_target}
use Rattle.c_grammar.specs.declared.openers.Definition.{Definition}
use Rattle.c_grammar.specs.declared.openers.Definition.TheVariants.{Static as static_definition, Struct as struct_definition, Void as void_definition, Nothing as no_definition}

-- something with the tokens after it, or the first error
abbrev pub Parsed : Type 0 → Type 0
Parsed X = Result (X × List Token) CFault

-- the limits on depths and numbers
pub record Limits : Type 0 where
  pub exprs : ℕ
  pub stmts : ℕ
  pub pures : ℕ
  pub params : ℕ

-- the limits on texts
abbrev pub the_limits : Limits
the_limits =
    record { exprs = expr_limit; stmts = stmt_limit; pures = pure_limit; params = param_limit }

-- what a token stands for
abbrev pub type_of_text : List ℕ → Option CType
type_of_text text =
    if bytes_eq text (codes "int8_t") then Some I8
    else (if bytes_eq text (codes "uint8_t") then Some U8
    else (if bytes_eq text (codes "int16_t") then Some I16
    else (if bytes_eq text (codes "uint16_t") then Some U16
    else (if bytes_eq text (codes "int32_t") then Some I32
    else (if bytes_eq text (codes "uint32_t") then Some U32
    else (if bytes_eq text (codes "int64_t") then Some I64 else None))))))

-- the operator that is written so
abbrev pub op_of_text : List ℕ → Option BinOp
op_of_text text =
    if bytes_eq text (codes "+") then Some Add
    else (if bytes_eq text (codes "-") then Some Sub
    else (if bytes_eq text (codes "*") then Some Mul
    else (if bytes_eq text (codes "/") then Some Div
    else (if bytes_eq text (codes "%") then Some Rem else None))))

-- the comparison that is written so
abbrev pub compare_of_text : List ℕ → Option Compare
compare_of_text text =
    if bytes_eq text (codes "==") then Some Eq
    else (if bytes_eq text (codes "!=") then Some Ne
    else (if bytes_eq text (codes "<") then Some Lt
    else (if bytes_eq text (codes "<=") then Some Le
    else (if bytes_eq text (codes ">=") then Some Ge
    else (if bytes_eq text (codes ">") then Some Gt else None)))))

-- an expression may be here
abbrev pub wants_value : Want → Bool
wants_value want_value = true
wants_value want_test = false
wants_value want_any = true

-- a condition may be here
abbrev pub wants_test : Want → Bool
wants_test want_value = false
wants_test want_test = true
wants_test want_any = true

-- an operand is an expression or a condition
pub data Operand : Type 0 where
  value : (e : WrittenExpr) → Operand
  test : (c : WrittenCond) → Operand

-- what a token opens where an operand is wanted
abbrev pub opener_of : Want → List ℕ → Opener
opener_of want text =
    if wants_value want && bytes_eq text (codes "INT64_C") then number_opener
    else (if wants_value want && is_name text then call_opener
    else (if bytes_eq text (codes "(") then paren_opener else no_opener))

-- what a token opens after the `(` of an operand
abbrev pub inside_of : Want → List ℕ → Inside
inside_of want text =
    if wants_value want && bytes_eq text (codes "-") then minus_inside
    else (if wants_test want && bytes_eq text (codes "!") then not_inside
    else (if wants_value want && bytes_eq text (codes "int64_t") then cast_inside
    else first_inside))

-- what a token begins after the name of an own field
abbrev pub tail_of : List ℕ → Tail
tail_of text = if bytes_eq text (codes ".") then dot_tail
    else (if bytes_eq text (codes "[") then bracket_tail else no_tail)

-- an operator or a comparison after an expression
abbrev pub first_joint : Option BinOp → Option Compare → ValueJoint
first_joint (Some op) how = op_joint op
first_joint None (Some how) = compare_joint how
first_joint None None = no_value_joint

-- what a token is after an expression, where that may be
abbrev pub value_joint : Want → List ℕ → ValueJoint
value_joint want text =
    first_joint (if wants_value want then op_of_text text else None) (if wants_test want
    then compare_of_text text else None)

-- what a token is after a condition, where that may be
abbrev pub test_joint : Want → List ℕ → TestJoint
test_joint want text =
    if wants_test want && bytes_eq text (codes "&&") then and_joint
    else (if wants_test want && bytes_eq text (codes "||") then or_joint
    else (if wants_value want && bytes_eq text (codes "?") then pick_joint else no_test_joint))

-- what a token opens where a statement is wanted
abbrev pub stmt_opener_of : List ℕ → StmtOpener
stmt_opener_of text =
    if bytes_eq text (codes "s") then store_opener
    else (if bytes_eq text (codes "if") then if_opener
    else (if is_name text then invoke_opener else no_stmt))

-- whether a list goes on
abbrev pub comma_of : List ℕ → Comma
comma_of text = if bytes_eq text (codes ",") then another
    else (if bytes_eq text (codes ")") then closed else no_comma)

-- what a token opens where the target of a call is wanted
abbrev pub target_opener_of : List ℕ → TargetOpener
target_opener_of text = if bytes_eq text (codes "s") then own_opener
    else (if bytes_eq text (codes "&") then field_opener else no_target)

-- the kind of definition that a token opens
abbrev pub definition_of : List ℕ → Definition
definition_of text =
    if bytes_eq text (codes "static") then static_definition
    else (if bytes_eq text (codes "struct") then struct_definition
    else (if bytes_eq text (codes "void") then void_definition else no_definition))

-- one more element of a list, or its end; and what is left
pub data Step (X : Type 0) : Type 0 where
  one_more : (x : X) (rest : List Token) → Step X
  the_end : (rest : List Token) → Step X

-- the end of a list, or one element and those that `later` gives
abbrev pub after_step : {X : Type 0} → (ℕ → List Token → Parsed (List X)) → ℕ → Step X →
    Parsed (List X)
after_step later count (the_end rest) = Ok ([], rest)
after_step later count (one_more x rest) = later (count + 1) rest >>= (λ xs. Ok (x ∷ xs.0, xs.1))

-- elements up to the end of their list, where `step` is given how many came before; `most` is more
-- than there are
abbrev pub many : {X : Type 0} → (ℕ → List Token → Result (Step X) CFault) → (most count : ℕ) →
    List Token → Parsed (List X)
many step zero count tokens = Ok ([], tokens)
many step (suc most) count tokens = step count tokens >>= after_step (many step most) count

-- expressions from a list of them
abbrev pub exprs_from : List WrittenExpr → WrittenExprs
exprs_from [] = no_exprs
exprs_from (e ∷ es) = more_exprs e (exprs_from es)

-- statements from a list of them
abbrev pub stmts_from : List WrittenStmt → WrittenStmts
stmts_from [] = no_stmts
stmts_from (s ∷ ss) = more_stmts s (stmts_from ss)

-- a value with its cast
abbrev pub Argument : Type 0
Argument = CType × WrittenExpr

-- arguments from a list of them
abbrev pub arguments_from : List Argument → WrittenArguments
arguments_from [] = no_arguments
arguments_from (a ∷ rest) = more_arguments a.0 a.1 (arguments_from rest)

-- an error of syntax at a token
abbrev pub syntax_at : {X : Type 0} → Token → Result X CFault
syntax_at t = Err (fault_at t.line Syntax)

-- a token that opens something beyond a limit
abbrev pub deep_at : {X : Type 0} → Token → Result X CFault
deep_at t = Err (fault_at t.line Deep)

-- what an option holds, or an error of syntax at a token
abbrev pub or_syntax : {X : Type 0} → Token → Option X → Result X CFault
or_syntax t (Some x) = Ok x
or_syntax t None = syntax_at t

-- an error of syntax at a token that fails a test, and one of depth at one that opens something
-- beyond a limit
abbrev pub or_syntax_unless : Token → Bool → Result (Unit {0}) CFault
or_syntax_unless t true = Ok tt
or_syntax_unless t false = syntax_at t

-- the same, with the token beyond a limit
abbrev pub or_deep_unless : Token → Bool → Result (Unit {0}) CFault
or_deep_unless t true = Ok tt
or_deep_unless t false = deep_at t

-- the text of the next token, and none at the end
abbrev pub first_text : List Token → List ℕ
first_text [] = []
first_text (t ∷ tokens) = t.text

-- `last` is the text's last line, where an error at the end is
module _ (last : ℕ) where
  -- the next token
  abbrev pub next : List Token → Parsed Token
  next [] = Err (fault_at last Syntax)
  next (t ∷ tokens) = Ok (t, tokens)

  -- a token with this text, a name, a type, a literal
  abbrev pub parse_word : List ℕ → List Token → Parsed (Unit {0})
  parse_word text tokens = do
    t ← next tokens
    or_syntax_unless t.0 (bytes_eq t.0.text text)
    Ok (tt, t.1)

  -- a name
  abbrev pub parse_name : List Token → Parsed (List ℕ)
  parse_name tokens = do
    t ← next tokens
    or_syntax_unless t.0 (is_name t.0.text)
    Ok (t.0.text, t.1)

  -- a type
  abbrev pub parse_type : List Token → Parsed CType
  parse_type tokens = do
    t ← next tokens
    type ← or_syntax t.0 (type_of_text t.0.text)
    Ok (type, t.1)

  -- a number
  abbrev pub parse_literal : List Token → Parsed ℕ
  parse_literal tokens = do
    t ← next tokens
    or_syntax_unless t.0 (is_literal t.0.text)
    Ok (digits_value 0 t.0.text, t.1)

  -- a cast
  abbrev pub parse_cast : List Token → Parsed CType
  parse_cast tokens = do
    opened ← parse_word (codes "(") tokens
    type ← parse_type opened.1
    close ← parse_word (codes ")") type.1
    Ok (type.0, close.1)

  -- the field after `s`
  abbrev pub parse_field_name : List Token → Parsed (List ℕ)
  parse_field_name tokens = do
    arrow ← parse_word (codes "->") tokens
    parse_name arrow.1

  -- an operand that is an expression, and one that is a condition; where one is wanted there is no
  -- other
  abbrev pub value_only : Operand × List Token → Parsed WrittenExpr
  value_only (value e, tokens) = Ok (e, tokens)
  value_only (test c, tokens) = Err (fault_at last Syntax)

  -- an operand that is a condition
  abbrev pub test_only : Operand × List Token → Parsed WrittenCond
  test_only (value e, tokens) = Err (fault_at last Syntax)
  test_only (test c, tokens) = Ok (c, tokens)

  -- in these, `operand` gives the operands that are one deeper
  module _ (operand : Want → List Token → Parsed Operand) where
    -- an expression one level deeper
    abbrev pub deeper_value : List Token → Parsed WrittenExpr
    deeper_value tokens = operand want_value tokens >>= value_only

    -- a condition one level deeper
    abbrev pub deeper_test : List Token → Parsed WrittenCond
    deeper_test tokens = operand want_test tokens >>= test_only

    -- an index between `[` and `]`
    abbrev pub parse_index : List Token → Parsed WrittenExpr
    parse_index tokens = do
      opened ← next tokens
      e ← deeper_value opened.1
      close ← parse_word (codes "]") e.1
      Ok (e.0, close.1)

    -- a field of the own struct, a field of that field, or an item of it; the line is that of the
    -- `s`
    abbrev pub parse_tail : (line : ℕ) → List ℕ → List Token → Tail → Parsed WrittenExpr
    parse_tail line field tokens dot_tail = do
      dot ← next tokens
      inner ← parse_name dot.1
      Ok (read line (child field inner.0), inner.1)
    parse_tail line field tokens bracket_tail = do
      index ← parse_index tokens
      Ok (item line field index.0, index.1)
    parse_tail line field tokens no_tail = Ok (read line (own field), tokens)

    -- a leaf that begins with a token
    abbrev pub parse_leaf_from : Token → List Token → (is_own : Bool) → Parsed WrittenExpr
    parse_leaf_from t tokens true = do
      field ← parse_field_name tokens
      parse_tail t.line field.0 field.1 (tail_of (first_text field.1))
    parse_leaf_from t tokens false = do
      or_syntax_unless t (is_name t.text)
      Ok (read t.line (param t.text), tokens)

    -- a leaf with its line
    abbrev pub parse_leaf : List Token → Parsed WrittenExpr
    parse_leaf tokens = do
      t ← next tokens
      parse_leaf_from t.0 t.1 (bytes_eq t.0.text (codes "s"))

    -- a number after `INT64_C`
    abbrev pub parse_number : List Token → Parsed Operand
    parse_number tokens = do
      opened ← parse_word (codes "(") tokens
      n ← parse_literal opened.1
      close ← parse_word (codes ")") n.1
      Ok (value (literal n.0), close.1)

    -- a further argument, or the `)`
    abbrev pub values_step_by : Token → List Token → Comma → Result (Step WrittenExpr) CFault
    values_step_by t tokens another = deeper_value tokens >>= (λ e. Ok (one_more e.0 e.1))
    values_step_by t tokens closed = Ok (the_end tokens)
    values_step_by t tokens no_comma = syntax_at t

    -- a further argument of a pure function, or the `)`
    abbrev pub values_step : ℕ → List Token → Result (Step WrittenExpr) CFault
    values_step count tokens = next tokens >>= (λ t. values_step_by t.0 t.1 (comma_of t.0.text))

    -- the arguments of a pure function after its name
    abbrev pub parse_values : Token → List Token → Parsed Operand
    parse_values t tokens = do
      opened ← parse_word (codes "(") tokens
      first ← deeper_value opened.1
      later ← many values_step (suc (length first.1)) 0 first.1
      Ok (value (pure t.line t.text (more_exprs first.0 (exprs_from later.0))), later.1)

    -- what a first operand is joined to
    abbrev pub join_value : WrittenExpr → Token → List Token → ValueJoint → Parsed Operand
    join_value a t tokens (op_joint op) =
        deeper_value tokens >>= (λ b. Ok (value (binary op a b.0), b.1))
    join_value a t tokens (compare_joint how) =
        deeper_value tokens >>= (λ b. Ok (test (compare how a b.0), b.1))
    join_value a t tokens no_value_joint = syntax_at t

    -- the rest of an operand whose first is a condition
    abbrev pub join_test : WrittenCond → Token → List Token → TestJoint → Parsed Operand
    join_test c t tokens and_joint = deeper_test tokens >>= (λ d. Ok (test (both c d.0), d.1))
    join_test c t tokens or_joint = deeper_test tokens >>= (λ d. Ok (test (either c d.0), d.1))
    join_test c t tokens pick_joint = do
      a ← deeper_value tokens
      colon ← parse_word (codes ":") a.1
      b ← deeper_value colon.1
      Ok (value (pick c a.0 b.0), b.1)
    join_test c t tokens no_test_joint = syntax_at t

    -- the rest of an operand after its first
    abbrev pub join : Want → Operand → Token × List Token → Parsed Operand
    join want (value a) t = join_value a t.0 t.1 (value_joint want t.0.text)
    join want (test c) t = join_test c t.0 t.1 (test_joint want t.0.text)

    -- what comes after a `(`, up to the `)`
    abbrev pub parse_inside : Want → List Token → Inside → Parsed Operand
    parse_inside want tokens minus_inside = do
      sign ← next tokens
      e ← deeper_value sign.1
      close ← parse_word (codes ")") e.1
      Ok (value (neg e.0), close.1)
    parse_inside want tokens not_inside = do
      sign ← next tokens
      c ← deeper_test sign.1
      close ← parse_word (codes ")") c.1
      Ok (test (negated c.0), close.1)
    parse_inside want tokens cast_inside = do
      type ← next tokens
      close ← parse_word (codes ")") type.1
      leaf ← parse_leaf close.1
      Ok (value leaf.0, leaf.1)
    parse_inside want tokens first_inside = do
      a ← operand want_any tokens
      t ← next a.1
      joined ← join want a.0 t
      close ← parse_word (codes ")") joined.1
      Ok (joined.0, close.1)

    -- an operand that a token opens
    abbrev pub parse_opened : Want → Token → List Token → Opener → Parsed Operand
    parse_opened want t tokens number_opener = parse_number tokens
    parse_opened want t tokens call_opener = parse_values t tokens
    parse_opened want t tokens paren_opener =
        parse_inside want tokens (inside_of want (first_text tokens))
    parse_opened want t tokens no_opener = syntax_at t

  -- a token that would open an operand beyond the limit
  abbrev pub opened_too_deep : {X : Type 0} → Token → Opener → Result X CFault
  opened_too_deep t number_opener = deep_at t
  opened_too_deep t call_opener = deep_at t
  opened_too_deep t paren_opener = deep_at t
  opened_too_deep t no_opener = syntax_at t

  -- an operand, where so many more levels may be opened
  abbrev pub parse_operand : (levels : ℕ) → Want → List Token → Parsed Operand
  parse_operand zero want tokens =
      next tokens >>= (λ t. opened_too_deep t.0 (opener_of want t.0.text))
  parse_operand (suc levels) want tokens =
      next tokens
      >>= (λ t. parse_opened (parse_operand levels) want t.0 t.1 (opener_of want t.0.text))

  -- an expression, where so many more levels may be opened
  abbrev pub parse_expr : (levels : ℕ) → List Token → Parsed WrittenExpr
  parse_expr levels tokens = parse_operand levels want_value tokens >>= value_only

  -- a condition, where so many more levels may be opened
  abbrev pub parse_cond : (levels : ℕ) → List Token → Parsed WrittenCond
  parse_cond levels tokens = parse_operand levels want_test tokens >>= test_only

  -- the target of a call
  abbrev pub parse_target_from : Token → List Token → TargetOpener → Parsed WrittenTarget
  parse_target_from t tokens own_opener = Ok (own_target, tokens)
  parse_target_from t tokens field_opener = do
    instance ← parse_word (codes "s") tokens
    field ← parse_field_name instance.1
    Ok (field_target field.0, field.1)
  parse_target_from t tokens no_target = syntax_at t

  -- the target of a call
  abbrev pub parse_target : List Token → Parsed WrittenTarget
  parse_target tokens = next tokens >>= (λ t. parse_target_from t.0 t.1 (target_opener_of t.0.text))

  module _ (limits : Limits) where
    -- a further argument of a procedure, or the `)`
    abbrev pub arguments_step_by : Token → List Token → Comma → Result (Step Argument) CFault
    arguments_step_by t tokens another = do
      type ← parse_cast tokens
      e ← parse_expr limits.exprs type.1
      Ok (one_more (type.0, e.0) e.1)
    arguments_step_by t tokens closed = Ok (the_end tokens)
    arguments_step_by t tokens no_comma = syntax_at t

    -- what follows an argument
    abbrev pub arguments_step : ℕ → List Token → Result (Step Argument) CFault
    arguments_step count tokens =
        next tokens >>= (λ t. arguments_step_by t.0 t.1 (comma_of t.0.text))

    -- what is stored, from the `=` to the `;`
    abbrev pub parse_stored : List Token → Parsed Argument
    parse_stored tokens = do
      equals ← parse_word (codes "=") tokens
      type ← parse_cast equals.1
      e ← parse_expr limits.exprs type.1
      end ← parse_word (codes ";") e.1
      Ok ((type.0, e.0), end.1)

    -- a store in a field, or in an item of it
    abbrev pub parse_store_in : Token → List ℕ → List Token → (has_index : Bool) →
        Parsed WrittenStmt
    parse_store_in t field tokens true = do
      index ← parse_index (parse_operand limits.exprs) tokens
      stored ← parse_stored index.1
      Ok (assign_at t.line field index.0 stored.0.0 stored.0.1, stored.1)
    parse_store_in t field tokens false = do
      stored ← parse_stored tokens
      Ok (assign t.line field stored.0.0 stored.0.1, stored.1)

    -- a store after its `s`
    abbrev pub parse_store : Token → List Token → Parsed WrittenStmt
    parse_store t tokens = do
      field ← parse_field_name tokens
      parse_store_in t field.0 field.1 (bytes_eq (first_text field.1) (codes "["))

    -- a call after the procedure's name
    abbrev pub parse_call : Token → List Token → Parsed WrittenStmt
    parse_call t tokens = do
      opened ← parse_word (codes "(") tokens
      target ← parse_target opened.1
      arguments ← many arguments_step (suc (length target.1)) 0 target.1
      end ← parse_word (codes ";") arguments.1
      Ok (call t.line t.text target.0 (arguments_from arguments.0), end.1)

    -- in these, `statement` gives the statements that are one deeper
    module _ (statement : List Token → Parsed WrittenStmt) where
      -- a further statement, or the `}`
      abbrev pub stmts_step_by : List Token → (is_closed : Bool) → Result (Step WrittenStmt) CFault
      stmts_step_by tokens true = next tokens >>= (λ close. Ok (the_end close.1))
      stmts_step_by tokens false = statement tokens >>= (λ s. Ok (one_more s.0 s.1))

      -- what follows a statement
      abbrev pub stmts_step : ℕ → List Token → Result (Step WrittenStmt) CFault
      stmts_step count tokens = stmts_step_by tokens (bytes_eq (first_text tokens) (codes "}"))

      -- a block
      abbrev pub parse_block : List Token → Parsed WrittenStmts
      parse_block tokens = do
        opened ← parse_word (codes "{") tokens
        ss ← many stmts_step (suc (length opened.1)) 0 opened.1
        Ok (stmts_from ss.0, ss.1)

      -- a choice, whose second block may be left out
      abbrev pub parse_second : Token → WrittenCond → WrittenStmts → List Token →
          (has_else : Bool) → Parsed WrittenStmt
      parse_second t c on_true tokens true = do
        else_word ← next tokens
        on_false ← parse_block else_word.1
        Ok (branch_else t.line c on_true on_false.0, on_false.1)
      parse_second t c on_true tokens false = Ok (branch t.line c on_true, tokens)

      -- a choice after its `if`
      abbrev pub parse_if : Token → List Token → Parsed WrittenStmt
      parse_if t tokens = do
        c ← parse_cond limits.exprs tokens
        on_true ← parse_block c.1
        parse_second t c.0 on_true.0 on_true.1 (bytes_eq (first_text on_true.1) (codes "else"))

      -- a statement that a token opens
      abbrev pub parse_stmt_opened : Token → List Token → StmtOpener → Parsed WrittenStmt
      parse_stmt_opened t tokens store_opener = parse_store t tokens
      parse_stmt_opened t tokens if_opener = parse_if t tokens
      parse_stmt_opened t tokens invoke_opener = parse_call t tokens
      parse_stmt_opened t tokens no_stmt = syntax_at t

    -- a token that would open a statement beyond the limit
    abbrev pub stmt_too_deep : {X : Type 0} → Token → StmtOpener → Result X CFault
    stmt_too_deep t store_opener = deep_at t
    stmt_too_deep t if_opener = deep_at t
    stmt_too_deep t invoke_opener = deep_at t
    stmt_too_deep t no_stmt = syntax_at t

    -- a statement, where so many more levels may be opened
    abbrev pub parse_stmt : (levels : ℕ) → List Token → Parsed WrittenStmt
    parse_stmt zero tokens = next tokens >>= (λ t. stmt_too_deep t.0 (stmt_opener_of t.0.text))
    parse_stmt (suc levels) tokens =
        next tokens
        >>= (λ t. parse_stmt_opened (parse_stmt levels) t.0 t.1 (stmt_opener_of t.0.text))

    -- a parameter, after so many
    abbrev pub parse_pure_param : ℕ → List Token → Parsed WrittenPureParam
    parse_pure_param count tokens = do
      t ← next tokens
      or_syntax_unless t.0 (bytes_eq t.0.text (codes "int64_t"))
      or_deep_unless t.0 (nat_le (count + 1) limits.params)
      name ← parse_name t.1
      Ok (record { line = t.0.line; name = name.0 }, name.1)

    -- a further parameter of a pure function, or the `)`
    abbrev pub pure_params_step_by : ℕ → Token → List Token → Comma →
        Result (Step WrittenPureParam) CFault
    pure_params_step_by count t tokens another =
        parse_pure_param count tokens >>= (λ p. Ok (one_more p.0 p.1))
    pure_params_step_by count t tokens closed = Ok (the_end tokens)
    pure_params_step_by count t tokens no_comma = syntax_at t

    -- what follows a parameter of a pure function
    abbrev pub pure_params_step : ℕ → List Token → Result (Step WrittenPureParam) CFault
    pure_params_step count tokens =
        next tokens >>= (λ t. pure_params_step_by count t.0 t.1 (comma_of t.0.text))

    -- a parameter of a procedure, after so many
    abbrev pub parse_param : ℕ → List Token → Parsed WrittenParam
    parse_param count tokens = do
      t ← next tokens
      type ← or_syntax t.0 (type_of_text t.0.text)
      or_deep_unless t.0 (nat_le (count + 1) limits.params)
      name ← parse_name t.1
      Ok (record { line = t.0.line; type = type; name = name.0 }, name.1)

    -- a further parameter of a procedure, or the `)`
    abbrev pub params_step_by : ℕ → Token → List Token → Comma → Result (Step WrittenParam) CFault
    params_step_by count t tokens another =
        parse_param count tokens >>= (λ p. Ok (one_more p.0 p.1))
    params_step_by count t tokens closed = Ok (the_end tokens)
    params_step_by count t tokens no_comma = syntax_at t

    -- what follows a parameter of a procedure
    abbrev pub params_step : ℕ → List Token → Result (Step WrittenParam) CFault
    params_step count tokens =
        next tokens >>= (λ t. params_step_by count t.0 t.1 (comma_of t.0.text))

    -- a pure function after its `static`
    abbrev pub parse_pure : Token → List Token → Parsed WrittenPure
    parse_pure t tokens = do
      type ← parse_word (codes "int64_t") tokens
      name ← parse_name type.1
      opened ← parse_word (codes "(") name.1
      first ← parse_pure_param 0 opened.1
      later ← many pure_params_step (suc (length first.1)) 1 first.1
      open_body ← parse_word (codes "{") later.1
      r ← next open_body.1
      or_syntax_unless r.0 (bytes_eq r.0.text (codes "return"))
      body ← parse_expr limits.exprs r.1
      end ← parse_word (codes ";") body.1
      close ← parse_word (codes "}") end.1
      Ok (
        record {
          line = t.line;
          name = name.0;
          params = first.0 ∷ later.0;
          return_line = r.0.line;
          body = body.0;
        },
        close.1,
      )

    -- after the name of a field of a type: an array where a length follows, else a number
    abbrev pub parse_length : CType → List Token → (has_length : Bool) → Parsed WrittenKind
    parse_length type tokens true = do
      opened ← next tokens
      count ← parse_literal opened.1
      close ← parse_word (codes "]") count.1
      Ok (array_kind type count.0, close.1)
    parse_length type tokens false = Ok (number_kind type, tokens)

    -- a field that begins with a token
    abbrev pub parse_field_from : Token → List Token → (is_struct : Bool) → Parsed WrittenField
    parse_field_from t tokens true = do
      of ← parse_name tokens
      name ← parse_name of.1
      end ← parse_word (codes ";") name.1
      Ok (record { line = t.line; kind = struct_kind of.0; name = name.0 }, end.1)
    parse_field_from t tokens false = do
      type ← or_syntax t (type_of_text t.text)
      name ← parse_name tokens
      kind ← parse_length type name.1 (bytes_eq (first_text name.1) (codes "["))
      end ← parse_word (codes ";") kind.1
      Ok (record { line = t.line; kind = kind.0; name = name.0 }, end.1)

    -- a field
    abbrev pub parse_field : List Token → Parsed WrittenField
    parse_field tokens = do
      t ← next tokens
      parse_field_from t.0 t.1 (bytes_eq t.0.text (codes "struct"))

    -- a further field, or the `}`
    abbrev pub fields_step_by : List Token → (is_closed : Bool) → Result (Step WrittenField) CFault
    fields_step_by tokens true = next tokens >>= (λ close. Ok (the_end close.1))
    fields_step_by tokens false = parse_field tokens >>= (λ f. Ok (one_more f.0 f.1))

    -- what follows a field
    abbrev pub fields_step : ℕ → List Token → Result (Step WrittenField) CFault
    fields_step count tokens = fields_step_by tokens (bytes_eq (first_text tokens) (codes "}"))

    -- a struct after its `struct`
    abbrev pub parse_struct : Token → List Token → Parsed WrittenStruct
    parse_struct t tokens = do
      name ← parse_name tokens
      opened ← parse_word (codes "{") name.1
      first ← parse_field opened.1
      later ← many fields_step (suc (length first.1)) 0 first.1
      end ← parse_word (codes ";") later.1
      Ok (record { line = t.line; name = name.0; fields = first.0 ∷ later.0 }, end.1)

    -- a procedure after its `void`, which may have a `static` before it
    abbrev pub parse_procedure_behind : (line : ℕ) → (private : Bool) → List Token →
        Parsed WrittenProcedure
    parse_procedure_behind line private tokens = do
      name ← parse_name tokens
      opened ← parse_word (codes "(") name.1
      struct_word ← parse_word (codes "struct") opened.1
      of ← parse_name struct_word.1
      star ← parse_word (codes "*") of.1
      instance ← parse_word (codes "s") star.1
      params ← many params_step (suc (length instance.1)) 0 instance.1
      body ← parse_block (parse_stmt limits.stmts) params.1
      Ok (
        record {
          line = line;
          private = private;
          name = name.0;
          of = of.0;
          params = params.0;
          body = body.0;
        },
        body.1,
      )

    -- a definition that is a procedure
    abbrev pub parse_procedure : Token → List Token → Definition → Parsed WrittenProcedure
    parse_procedure t tokens static_definition = do
      void_word ← parse_word (codes "void") tokens
      parse_procedure_behind t.line true void_word.1
    parse_procedure t tokens void_definition = parse_procedure_behind t.line false tokens
    parse_procedure t tokens struct_definition = syntax_at t
    parse_procedure t tokens no_definition = syntax_at t

    -- a further pure function, or the first struct
    abbrev pub pures_step_by : ℕ → Token → List Token → List Token → Definition →
        Result (Step WrittenPure) CFault
    pures_step_by count t tokens all static_definition = do
      or_deep_unless t (nat_le (count + 1) limits.pures)
      p ← parse_pure t tokens
      Ok (one_more p.0 p.1)
    pures_step_by count t tokens all struct_definition = Ok (the_end all)
    pures_step_by count t tokens all void_definition = syntax_at t
    pures_step_by count t tokens all no_definition = syntax_at t

    -- what follows a pure function
    abbrev pub pures_step : ℕ → List Token → Result (Step WrittenPure) CFault
    pures_step count tokens =
        next tokens >>= (λ t. pures_step_by count t.0 t.1 tokens (definition_of t.0.text))

    -- a further struct, or the first procedure
    abbrev pub structs_step_by : Token → List Token → List Token → Definition →
        Result (Step WrittenStruct) CFault
    structs_step_by t tokens all struct_definition =
        parse_struct t tokens >>= (λ d. Ok (one_more d.0 d.1))
    structs_step_by t tokens all static_definition = Ok (the_end all)
    structs_step_by t tokens all void_definition = Ok (the_end all)
    structs_step_by t tokens all no_definition = syntax_at t

    -- what follows a struct
    abbrev pub structs_step : ℕ → List Token → Result (Step WrittenStruct) CFault
    structs_step count tokens =
        next tokens >>= (λ t. structs_step_by t.0 t.1 tokens (definition_of t.0.text))

    -- a further procedure, or the end
    abbrev pub procedures_step : ℕ → List Token → Result (Step WrittenProcedure) CFault
    procedures_step count [] = Ok (the_end [])
    procedures_step count (t ∷ tokens) =
        parse_procedure t tokens (definition_of t.text) >>= (λ p. Ok (one_more p.0 p.1))

    -- a whole file after its first line
    abbrev pub parse_file : List Token → Result WrittenProgram CFault
    parse_file tokens = do
      pures ← many pures_step (suc (length tokens)) 0 tokens
      structs ← many structs_step (suc (length pures.1)) 0 pures.1
      t ← next structs.1
      first ← parse_procedure t.0 t.1 (definition_of t.0.text)
      later ← many procedures_step (suc (length first.1)) 0 first.1
      Ok (record { pures = pures.0; structs = structs.0; procedures = first.0 ∷ later.0 })
