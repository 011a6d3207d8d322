-- The static rules: the file that a written file stands for, or the first construct that breaks a
-- rule. A construct is a node, a declared name, an equation or a name that is read; its place is its
-- first token, and in one construct a rule on names comes before a rule on types.
use Rattle.std.specs.Prelude.{ℕ, Bool, true, false, not, ◌&&◌, ◌||◌, ◌==◌, nat_le, List, [], ◌∷◌, ◌++◌, length, map, flat_map, Option, option_map, Result, Ok, slice_get, bytes_eq}
use Rattle.std.specs.List.{position_from, list_all, list_any}
use Rattle.c_syntax.specs.declared.fault.CFault.{CFault}
use Rattle.c_syntax.specs.declared.fault.CKind.{CKind}
use Rattle.c_syntax.specs.declared.fault.CKind.TheVariants.{Name, TypeRule}
use Rattle.c_syntax.specs.Outputs.{has_name}
use Rattle.base_core.specs.Results.{◌>>=◌, ◌>>◌}
use Rattle.c_rules.specs.Resolve.{unless_fault, on_line, or_unnamed, check_params}
use Rattle.lustre_syntax.specs.Tree.{ValueType, int, ExprTree, number, truth, name, negative, negation, two, choice, arrow, previous, Declared, texts_of, types_of, EquationTree, set, call, NodeTree, FileTree, node_texts, given_by}
use Rattle.lustre_syntax.specs.Typing.{same_type, type_at, fits, all_fit, have_types, input_types, output_types}
use Rattle.lustre_grammar.specs.Written.{Word, WrittenExpr, WrittenEquation, WrittenDeclared, WrittenNode, WrittenFile}

-- the place of a name
abbrev pub place_named : List (List ℕ) → List ℕ → Result ℕ CKind
place_named texts text = or_unnamed (position_from (bytes_eq text) 0 texts)

-- the place of a name that is read
abbrev pub resolve_word : List (List ℕ) → Word → Result ℕ CFault
resolve_word texts w = on_line w.line (place_named texts w.text)

-- an expression by places, or its first name that isn't one of the node
abbrev pub resolve_expr : List (List ℕ) → WrittenExpr → Result ExprTree CFault
resolve_expr texts (number value) = Ok (number value)
resolve_expr texts (truth value) = Ok (truth value)
resolve_expr texts (name w) = do
  k ← resolve_word texts w
  Ok (name k)
resolve_expr texts (negative a) = do
  x ← resolve_expr texts a
  Ok (negative x)
resolve_expr texts (negation a) = do
  x ← resolve_expr texts a
  Ok (negation x)
resolve_expr texts (two op a b) = do
  x ← resolve_expr texts a
  y ← resolve_expr texts b
  Ok (two op x y)
resolve_expr texts (choice test a b) = do
  c ← resolve_expr texts test
  x ← resolve_expr texts a
  y ← resolve_expr texts b
  Ok (choice c x y)
resolve_expr texts (arrow a b) = do
  x ← resolve_expr texts a
  y ← resolve_expr texts b
  Ok (arrow x y)
resolve_expr texts (previous w) = do
  k ← resolve_word texts w
  Ok (previous k)

abbrev pub resolve_exprs : List (List ℕ) → List WrittenExpr → Result (List ExprTree) CFault
resolve_exprs texts [] = Ok []
resolve_exprs texts (e ∷ es) = do
  x ← resolve_expr texts e
  xs ← resolve_exprs texts es
  Ok (x ∷ xs)

-- what is known where an equation is: the nodes before, the names of its node, how many of them are
-- inputs, and the places that earlier equations give, in order
pub record Scope : Type 0 where
  pub earlier : List NodeTree
  pub names : List Declared
  pub inputs : ℕ
  pub given : List ℕ

-- whether a name may be given here: it is no input, and no equation before gives it
abbrev pub may_be_given : Scope → ℕ → Bool
may_be_given scope k = nat_le scope.inputs k && not (list_any (λ j. j == k) scope.given)

-- a name that an equation gives
abbrev pub resolve_given : Scope → List ℕ → Result ℕ CKind
resolve_given scope text = do
  k ← place_named (texts_of scope.names) text
  unless_fault (may_be_given scope k) Name
  Ok k

-- the names that a call gives, each of them once
abbrev pub resolve_all_given : Scope → List (List ℕ) → Result (List ℕ) CKind
resolve_all_given scope [] = Ok []
resolve_all_given scope (text ∷ texts) = do
  k ← resolve_given scope text
  ks ← resolve_all_given (record scope { given = scope.given ++ k ∷ [] }) texts
  Ok (k ∷ ks)

-- the node of a name, with its place
abbrev pub node_named : List NodeTree → List ℕ → Result (ℕ × NodeTree) CKind
node_named earlier text = do
  k ← place_named (node_texts earlier) text
  n ← or_unnamed (slice_get earlier k)
  Ok (k, n)

-- the type of a name that is read, where it is one of the node
abbrev pub word_type : List Declared → Word → Option ValueType
word_type names w =
    option_map (type_at (types_of names)) (position_from (bytes_eq w.text) 0 (texts_of names))

-- the name that an equation gives, with the type of its expression
abbrev pub resolve_set : Scope → List ℕ → WrittenExpr → Result ℕ CKind
resolve_set scope given value = do
  k ← resolve_given scope given
  unless_fault (fits (word_type scope.names) value (type_at (types_of scope.names) k)) TypeRule
  Ok k

-- the node that a call of these names and expressions is of: a name for each of its outputs and an
-- expression for each input, of their types
abbrev pub resolve_callee : Scope → List ℕ → List ℕ → List WrittenExpr → Result ℕ CKind
resolve_callee scope ks callee values = do
  of ← node_named scope.earlier callee
  unless_fault (have_types (types_of scope.names) ks (output_types of.1)) TypeRule
  unless_fault (all_fit (word_type scope.names) values (input_types of.1)) TypeRule
  Ok of.0

-- the names that a call gives, and its node
abbrev pub resolve_call : Scope → List (List ℕ) → List ℕ → List WrittenExpr →
    Result (List ℕ × ℕ) CKind
resolve_call scope given callee values = do
  ks ← resolve_all_given scope given
  node ← resolve_callee scope ks callee values
  Ok (ks, node)

-- what an equation stands for: what it gives comes first, and then the names that it reads
abbrev pub resolve_equation : Scope → WrittenEquation → Result EquationTree CFault
resolve_equation scope (WrittenEquation.set line given value) = do
  k ← on_line line (resolve_set scope given value)
  x ← resolve_expr (texts_of scope.names) value
  Ok (set line k x)
resolve_equation scope (WrittenEquation.call line given callee values) = do
  head ← on_line line (resolve_call scope given callee values)
  xs ← resolve_exprs (texts_of scope.names) values
  Ok (call line head.0 head.1 xs)

-- equations one after another
abbrev pub resolve_equations : Scope → List WrittenEquation → Result (List EquationTree) CFault
resolve_equations scope [] = Ok []
resolve_equations scope (e ∷ es) = do
  x ← resolve_equation scope e
  xs ← resolve_equations (record scope { given = scope.given ++ given_by x }) es
  Ok (x ∷ xs)

-- the names that a written equation gives
abbrev pub written_given : WrittenEquation → List (List ℕ)
written_given (WrittenEquation.set line given value) = given ∷ []
written_given (WrittenEquation.call line given callee values) = given

-- whether each output and further name has an equation
abbrev pub all_given : WrittenNode → Bool
all_given n =
    list_all (λ d. has_name (flat_map written_given n.equations) d.text) (n.outputs ++ n.others)

-- whether all inputs and outputs are of `int`
abbrev pub has_ints : WrittenNode → Bool
has_ints n = list_all (λ d. same_type d.type int) (n.inputs ++ n.outputs)

-- all names of a node, inputs first
abbrev pub written_names : WrittenNode → List WrittenDeclared
written_names n = n.inputs ++ n.outputs ++ n.others

abbrev pub declared_names : WrittenNode → List Declared
declared_names n = map (λ d. record { text = d.text; type = d.type }) (written_names n)

-- a node's definition, without its names and equations: its name is new, nothing lacks an equation,
-- and the last node has `int` inputs and outputs alone
abbrev pub resolve_head : List NodeTree → (is_last : Bool) → WrittenNode → Result (Unit {0}) CKind
resolve_head earlier is_last n = do
  unless_fault (not (has_name (node_texts earlier) n.text)) Name
  unless_fault (all_given n) Name
  unless_fault (not is_last || has_ints n) TypeRule
  Ok tt

-- a node's names and equations, and so what it stands for
abbrev pub resolve_body : List NodeTree → WrittenNode → Result NodeTree CFault
resolve_body earlier n = do
  check_params [] [] (map (λ d. (d.line, d.text)) (written_names n))
  es ← resolve_equations (record {
    earlier = earlier;
    names = declared_names n;
    inputs = length n.inputs;
    given = [];
  }) n.equations
  Ok (record {
    text = n.text;
    line = n.line;
    inputs = length n.inputs;
    outputs = length n.outputs;
    names = declared_names n;
    equations = es;
  })

-- what a node stands for
abbrev pub resolve_node : List NodeTree → (is_last : Bool) → WrittenNode → Result NodeTree CFault
resolve_node earlier is_last n = do
  on_line n.line (resolve_head earlier is_last n)
  resolve_body earlier n

-- whether nothing follows
abbrev pub is_end : List WrittenNode → Bool
is_end [] = true
is_end (n ∷ ns) = false

-- nodes one after another, each known to those after it
abbrev pub resolve_nodes : List NodeTree → List WrittenNode → Result (List NodeTree) CFault
resolve_nodes earlier [] = Ok earlier
resolve_nodes earlier (n ∷ ns) = do
  x ← resolve_node earlier (is_end ns) n
  resolve_nodes (earlier ++ x ∷ []) ns

-- the file that a written file stands for, or its first error
abbrev pub resolve_file : WrittenFile → Result FileTree CFault
resolve_file f = do
  nodes ← resolve_nodes [] f.nodes
  Ok (record { nodes = nodes })
