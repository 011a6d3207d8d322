-- The written file of tokens by recursive descent, or their first error. What it is of the grammar
-- is proved of it.
use Rattle.std.specs.Prelude.{ℕ, zero, suc, pos, Bool, true, false, ◌||◌, if◌then◌else◌, List, [], ◌∷◌, drop, find, length, Option, Some, None, Result, Ok, Err, codes, bytes_eq}
use Rattle.c_syntax.specs.declared.fault.CFault.{CFault}
use Rattle.c_syntax.specs.declared.fault.CKind.TheVariants.{Syntax}
use Rattle.c_grammar.specs.Tokens.{Token}
use Rattle.c_grammar.specs.Prefix.{is_literal, digits_value, fault_at}
use Rattle.base_core.specs.Results.{◌>>=◌, ◌>>◌}
use Rattle.c_grammar.specs.Parsing.{Parsed, Step, one_more, the_end, many, or_syntax, or_syntax_unless, deep_at, next, parse_word}
use Rattle.lustre_syntax.specs.declared.code.LusOp.TheVariants.{Add, Sub, Mul, Div, Mod, Eq, Ne, Lt, Le, Gt, Ge, And, Or}
use Rattle.lustre_syntax.specs.Lawful.{expr_limit}
use Rattle.lustre_syntax.specs.Names.{is_lustre_name}
use Rattle.lustre_syntax.specs.Tree.{ValueType, int, bool, number, truth, name, negative, negation, two, choice, arrow, previous}
use Rattle.lustre_grammar.specs.Written.{Word, WrittenExpr, WrittenEquation, set, call, WrittenDeclared, WrittenNode, WrittenFile}
use Rattle.lustre_grammar.specs.Grammar.{type_text, op_text}
use Rattle.lustre_grammar.specs.Prefix.{is_leaf}
use Rattle.lustre_grammar.specs.declared.openers.Inside.{Inside}
use Rattle.lustre_grammar.specs.declared.openers.Inside.TheVariants.{Minus as minus_inside, Not as not_inside, If as if_inside, Pre as pre_inside, First as first_inside}
use Rattle.lustre_grammar.specs.declared.openers.Joint.{Joint}
use Rattle.lustre_grammar.specs.declared.openers.Joint.TheVariants.{Operator as op_joint, Arrow as arrow_joint}

-- ---- What a token stands for

-- the type that is written so
abbrev pub type_of_text : List ℕ → Option ValueType
type_of_text text = find (λ type. bytes_eq text (type_text type)) (int ∷ bool ∷ [])

-- all that joins two operands
abbrev pub joints : List Joint
joints = op_joint Add ∷ op_joint Sub ∷ op_joint Mul ∷ op_joint Div ∷ op_joint Mod ∷ op_joint Eq
    ∷ op_joint Ne ∷ op_joint Lt ∷ op_joint Le ∷ op_joint Gt ∷ op_joint Ge ∷ op_joint And
    ∷ op_joint Or ∷ arrow_joint ∷ []

-- as it is written
abbrev pub joint_text : Joint → List ℕ
joint_text (op_joint op) = op_text op
joint_text arrow_joint = codes "->"

-- the joint that is written so
abbrev pub joint_of_text : List ℕ → Option Joint
joint_of_text text = find (λ joint. bytes_eq text (joint_text joint)) joints

-- two operands joined
abbrev pub joined : Joint → WrittenExpr → WrittenExpr → WrittenExpr
joined (op_joint op) a b = two op a b
joined arrow_joint a b = arrow a b

-- the name that a token is, with its line
abbrev pub word_at : Token → Word
word_at t = record { line = t.line; text = t.text }

-- the expression that one token is
abbrev pub leaf_of : Token → Option WrittenExpr
leaf_of t =
    if is_literal t.text then Some (number (pos (digits_value 0 t.text)))
    else (if bytes_eq t.text (codes "true") then Some (truth true)
    else (if bytes_eq t.text (codes "false") then Some (truth false)
    else (if is_lustre_name t.text then Some (name (word_at t)) else None)))

-- a text opens an expression
abbrev pub is_opener : List ℕ → Bool
is_opener text = is_leaf text || bytes_eq text (codes "(")

-- what a text begins after the `(` of an expression
abbrev pub inside_of : List ℕ → Inside
inside_of text =
    if bytes_eq text (codes "-") then minus_inside
    else (if bytes_eq text (codes "not") then not_inside
    else (if bytes_eq text (codes "if") then if_inside
    else (if bytes_eq text (codes "pre") then pre_inside else first_inside)))

-- ---- Lists

-- how a list is written: what is before its first element, before each later one and after each,
-- if anything does, and what ends it, if not the end of the text
pub record Form : Type 0 where
  pub first : Option (List ℕ)
  pub later : Option (List ℕ)
  pub after : Option (List ℕ)
  pub close : Option (List ℕ)

-- inputs or outputs
abbrev pub ports_form : Form
ports_form = record {
  first = None;
  later = Some (codes ";");
  after = None;
  close = Some (codes ")");
}

-- the further names of a node
abbrev pub others_form : Form
others_form = record {
  first = Some (codes "var");
  later = None;
  after = Some (codes ";");
  close = Some (codes "let");
}

-- the equations of a node
abbrev pub equations_form : Form
equations_form = record { first = None; later = None; after = None; close = Some (codes "tel") }

-- the names that an equation gives, after the first
abbrev pub given_form : Form
given_form = record {
  first = Some (codes ",");
  later = Some (codes ",");
  after = None;
  close = Some (codes "=");
}

-- the arguments of a call
abbrev pub arguments_form : Form
arguments_form = record {
  first = None;
  later = Some (codes ",");
  after = None;
  close = Some (codes ")");
}

-- the nodes of a file
abbrev pub nodes_form : Form
nodes_form = record { first = None; later = None; after = None; close = None }

-- what is before an element with so many before it
abbrev pub lead_of : Form → ℕ → Option (List ℕ)
lead_of form zero = form.first
lead_of form (suc count) = form.later

-- a list ends here
abbrev pub is_closed : Option (List ℕ) → List Token → Bool
is_closed None [] = true
is_closed None (t ∷ tokens) = false
is_closed (Some close) [] = false
is_closed (Some close) (t ∷ tokens) = bytes_eq t.text close

-- ---- The parts of a node

-- its inputs and outputs
abbrev pub Interface : Type 0
Interface = List WrittenDeclared × List WrittenDeclared

-- its further names and its equations
abbrev pub Body : Type 0
Body = List WrittenDeclared × List WrittenEquation

-- ---- The parse

-- `last` is the text's last line, where an error at the end is
module _ (last : ℕ) where
  -- a token with this text, if there is one
  abbrev pub parse_mark : Option (List ℕ) → List Token → Parsed (Unit {0})
  parse_mark None tokens = Ok (tt, tokens)
  parse_mark (Some text) tokens = parse_word last text tokens

  module _ {X : Type 0} (form : Form) (element : List Token → Parsed X) where
    -- what follows so many elements of a list: its end, or one more
    abbrev pub list_step_by : ℕ → List Token → (ends : Bool) → Result (Step X) CFault
    list_step_by count tokens true = Ok (the_end (drop 1 tokens))
    list_step_by count tokens false = do
      lead ← parse_mark (lead_of form count) tokens
      x ← element lead.1
      after ← parse_mark form.after x.1
      Ok (one_more x.0 after.1)

    abbrev pub list_step : ℕ → List Token → Result (Step X) CFault
    list_step count tokens = list_step_by count tokens (is_closed form.close tokens)

    -- a list
    abbrev pub parse_list : List Token → Parsed (List X)
    parse_list tokens = many list_step (suc (length tokens)) 0 tokens

  -- ---- Expressions

  -- a name with its line
  abbrev pub parse_name : List Token → Parsed Word
  parse_name tokens = do
    t ← next last tokens
    or_syntax_unless t.0 (is_lustre_name t.0.text)
    Ok (word_at t.0, t.1)

  -- in these, `deeper` gives the expressions that are one deeper
  module _ (deeper : List Token → Parsed WrittenExpr) where
    -- an expression up to the `)`
    abbrev pub parse_closed : List Token → Parsed WrittenExpr
    parse_closed tokens = do
      a ← deeper tokens
      close ← parse_word last (codes ")") a.1
      Ok (a.0, close.1)

    -- a choice after its `if`
    abbrev pub parse_choice : List Token → Parsed WrittenExpr
    parse_choice tokens = do
      test ← deeper tokens
      then_word ← parse_word last (codes "then") test.1
      a ← deeper then_word.1
      else_word ← parse_word last (codes "else") a.1
      b ← parse_closed else_word.1
      Ok (choice test.0 a.0 b.0, b.1)

    -- the value of a name at the tick before, after the `pre`
    abbrev pub parse_previous : List Token → Parsed WrittenExpr
    parse_previous tokens = do
      w ← parse_name tokens
      close ← parse_word last (codes ")") w.1
      Ok (previous w.0, close.1)

    -- two operands and what joins them
    abbrev pub parse_joined : List Token → Parsed WrittenExpr
    parse_joined tokens = do
      a ← deeper tokens
      t ← next last a.1
      joint ← or_syntax t.0 (joint_of_text t.0.text)
      b ← parse_closed t.1
      Ok (joined joint a.0 b.0, b.1)

    -- what follows a `(`, whole and without its first token
    abbrev pub parse_inside : (tokens rest : List Token) → Inside → Parsed WrittenExpr
    parse_inside tokens rest minus_inside =
        parse_closed rest >>= (λ a. Ok (negative a.0, a.1))
    parse_inside tokens rest not_inside = parse_closed rest >>= (λ a. Ok (negation a.0, a.1))
    parse_inside tokens rest if_inside = parse_choice rest
    parse_inside tokens rest pre_inside = parse_previous rest
    parse_inside tokens rest first_inside = parse_joined tokens

    abbrev pub parse_parens : List Token → Parsed WrittenExpr
    parse_parens tokens = do
      t ← next last tokens
      parse_inside tokens t.1 (inside_of t.0.text)

    -- an expression that begins with a token, which may be the whole of it
    abbrev pub parse_opened : Token → List Token → Option WrittenExpr → Parsed WrittenExpr
    parse_opened t tokens (Some leaf) = Ok (leaf, tokens)
    parse_opened t tokens None = do
      or_syntax_unless t (bytes_eq t.text (codes "("))
      parse_parens tokens

  -- an expression, where so many more levels may be opened
  abbrev pub parse_expr : (levels : ℕ) → List Token → Parsed WrittenExpr
  parse_expr zero tokens = do
    t ← next last tokens
    or_syntax_unless t.0 (is_opener t.0.text)
    deep_at t.0
  parse_expr (suc levels) tokens = do
    t ← next last tokens
    parse_opened (parse_expr levels) t.0 t.1 (leaf_of t.0)

  -- an outermost expression
  abbrev pub parse_value : List Token → Parsed WrittenExpr
  parse_value tokens = parse_expr expr_limit tokens

  -- ---- Equations

  -- a call after the word `call`
  abbrev pub parse_callee : (line : ℕ) → List (List ℕ) → List Token → Parsed WrittenEquation
  parse_callee line given tokens = do
    callee ← parse_name tokens
    opened ← parse_word last (codes "(") callee.1
    values ← parse_list arguments_form parse_value opened.1
    end ← parse_word last (codes ";") values.1
    Ok (call line given callee.0.text values.0, end.1)

  -- a call after the `=`
  abbrev pub parse_call : (line : ℕ) → List (List ℕ) → List Token → Parsed WrittenEquation
  parse_call line given tokens = do
    call_word ← parse_word last (codes "call") tokens
    parse_callee line given call_word.1

  -- what one name is given after the `=`
  abbrev pub parse_set : (line : ℕ) → List ℕ → List Token → Parsed WrittenEquation
  parse_set line given tokens = do
    value ← parse_value tokens
    end ← parse_word last (codes ";") value.1
    Ok (set line given value.0, end.1)

  -- what names are given after the `=`; only one may be given an expression
  abbrev pub parse_right_by : (line : ℕ) → List ℕ → List Token → (is_call : Bool) →
      Parsed WrittenEquation
  parse_right_by line given tokens true = parse_call line (given ∷ []) tokens
  parse_right_by line given tokens false = parse_set line given tokens

  abbrev pub parse_right : (line : ℕ) → List ℕ → List (List ℕ) → List Token →
      Parsed WrittenEquation
  parse_right line given [] tokens =
      parse_right_by line given tokens (is_closed (Some (codes "call")) tokens)
  parse_right line given (text ∷ texts) tokens = parse_call line (given ∷ text ∷ texts) tokens

  -- a further name that an equation gives
  abbrev pub parse_given : List Token → Parsed (List ℕ)
  parse_given tokens = parse_name tokens >>= (λ w. Ok (w.0.text, w.1))

  -- an equation that begins with a token
  abbrev pub parse_equation_from : Token → List Token → (is_call : Bool) → Parsed WrittenEquation
  parse_equation_from t tokens true = parse_call t.line [] tokens
  parse_equation_from t tokens false = do
    or_syntax_unless t (is_lustre_name t.text)
    given ← parse_list given_form parse_given tokens
    parse_right t.line t.text given.0 given.1

  abbrev pub parse_equation : List Token → Parsed WrittenEquation
  parse_equation tokens = do
    t ← next last tokens
    parse_equation_from t.0 t.1 (bytes_eq t.0.text (codes "="))

  -- ---- Nodes

  -- a type
  abbrev pub parse_type : List Token → Parsed ValueType
  parse_type tokens = do
    t ← next last tokens
    type ← or_syntax t.0 (type_of_text t.0.text)
    Ok (type, t.1)

  -- a declared name
  abbrev pub parse_declared : List Token → Parsed WrittenDeclared
  parse_declared tokens = do
    w ← parse_name tokens
    colon ← parse_word last (codes ":") w.1
    type ← parse_type colon.1
    Ok (record { line = w.0.line; text = w.0.text; type = type.0 }, type.1)

  -- inputs or outputs
  abbrev pub parse_ports : List Token → Parsed (List WrittenDeclared)
  parse_ports tokens = do
    opened ← parse_word last (codes "(") tokens
    parse_list ports_form parse_declared opened.1

  -- what follows the name of a node, up to the `;`
  abbrev pub parse_interface : List Token → Parsed Interface
  parse_interface tokens = do
    inputs ← parse_ports tokens
    returns ← parse_word last (codes "returns") inputs.1
    outputs ← parse_ports returns.1
    end ← parse_word last (codes ";") outputs.1
    Ok ((inputs.0, outputs.0), end.1)

  -- what follows that
  abbrev pub parse_body : List Token → Parsed Body
  parse_body tokens = do
    others ← parse_list others_form parse_declared tokens
    equations ← parse_list equations_form parse_equation others.1
    end ← parse_word last (codes ";") equations.1
    Ok ((others.0, equations.0), end.1)

  -- a node
  abbrev pub parse_node : List Token → Parsed WrittenNode
  parse_node tokens = do
    t ← next last tokens
    or_syntax_unless t.0 (bytes_eq t.0.text (codes "node"))
    w ← parse_name t.1
    ports ← parse_interface w.1
    body ← parse_body ports.1
    Ok (
      record {
        line = t.0.line;
        text = w.0.text;
        inputs = ports.0.0;
        outputs = ports.0.1;
        others = body.0.0;
        equations = body.0.1;
      },
      body.1,
    )

  -- a file of these nodes, of which there is at least one
  abbrev pub file_of_nodes : List WrittenNode → Result WrittenFile CFault
  file_of_nodes [] = Err (fault_at last Syntax)
  file_of_nodes (n ∷ ns) = Ok (record { nodes = n ∷ ns })

  -- a whole file
  abbrev pub parse_file : List Token → Result WrittenFile CFault
  parse_file tokens = do
    nodes ← parse_list nodes_form parse_node tokens
    file_of_nodes nodes.0
