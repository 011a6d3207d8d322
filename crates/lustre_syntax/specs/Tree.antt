-- Files as plain trees: the same variants and fields as the values of the source, with lists for
-- vectors. What names are is left open: positions in a node, or their texts.
use Rattle.std.specs.Prelude.{ℕ, ℤ, Bool, true, false, List, [], ◌∷◌, ◌++◌, map, slice_index_or}
use Rattle.lustre_syntax.specs.declared.code.LusOp.{LusOp}

-- the type of a value: `int` or `bool`
abbrev pub ValueType : Type 0
ValueType = Bool

abbrev pub int : ValueType
int = false

abbrev pub bool : ValueType
bool = true

-- an expression over names
pub data Expr (N : Type 0) : Type 0 where
  number : (value : ℤ) → Expr N
  truth : (value : Bool) → Expr N
  name : (read : N) → Expr N
  negative : (operand : Expr N) → Expr N
  negation : (operand : Expr N) → Expr N
  two : (op : LusOp) (left right : Expr N) → Expr N
  choice : (test on_true on_false : Expr N) → Expr N
  -- the first value at the first tick, the other one later
  arrow : (first later : Expr N) → Expr N
  -- the value of a name at the tick before
  previous : (read : N) → Expr N

-- an equation over names and callees, with the line where it begins
pub data Equation (N C : Type 0) : Type 0 where
  set : (line : ℕ) (given : N) (value : Expr N) → Equation N C
  call : (line : ℕ) (given : List N) (callee : C) (values : List (Expr N)) → Equation N C

-- a name with its type
pub record Declared : Type 0 where
  pub text : List ℕ
  pub type : ValueType

-- In a file names are positions in their node, and callees positions in the file.

abbrev pub ExprTree : Type 0
ExprTree = Expr ℕ

abbrev pub EquationTree : Type 0
EquationTree = Equation ℕ ℕ

-- a node: its names are the inputs, the outputs, and all others
pub record NodeTree : Type 0 where
  pub text : List ℕ
  pub line : ℕ
  pub inputs : ℕ
  pub outputs : ℕ
  pub names : List Declared
  pub equations : List EquationTree

-- a file
pub record FileTree : Type 0 where
  pub nodes : List NodeTree

-- what stands for a node past the end, which no lawful file calls
abbrev pub no_node : NodeTree
no_node = record { text = []; line = 0; inputs = 0; outputs = 0; names = []; equations = [] }

abbrev pub node_at : List NodeTree → ℕ → NodeTree
node_at nodes k = slice_index_or nodes k no_node

-- the names of a node, and the texts of nodes
abbrev pub texts_of : List Declared → List (List ℕ)
texts_of names = map (λ x. x.text) names

abbrev pub types_of : List Declared → List ValueType
types_of names = map (λ x. x.type) names

abbrev pub node_texts : List NodeTree → List (List ℕ)
node_texts nodes = map (λ n. n.text) nodes

-- the names that an expression reads, at this tick or at the one before
abbrev pub names_read : {N : Type 0} → Expr N → List N
names_read (number value) = []
names_read (truth value) = []
names_read (name x) = x ∷ []
names_read (negative a) = names_read a
names_read (negation a) = names_read a
names_read (two op a b) = names_read a ++ names_read b
names_read (choice test a b) = names_read test ++ names_read a ++ names_read b
names_read (arrow a b) = names_read a ++ names_read b
names_read (previous x) = x ∷ []

-- the names that an equation gives
abbrev pub given_by : {N C : Type 0} → Equation N C → List N
given_by (set line given value) = given ∷ []
given_by (call line given callee values) = given

-- the expressions of an equation, in their order
abbrev pub expressions_of : {N C : Type 0} → Equation N C → List (Expr N)
expressions_of (set line given value) = value ∷ []
expressions_of (call line given callee values) = values

abbrev pub line_of : {N C : Type 0} → Equation N C → ℕ
line_of (set line given value) = line
line_of (call line given callee values) = line

-- an equation, a node and a file with all lines 0
abbrev pub equation_without_lines : {N C : Type 0} → Equation N C → Equation N C
equation_without_lines (set line given value) = set 0 given value
equation_without_lines (call line given callee values) = call 0 given callee values

abbrev pub node_without_lines : NodeTree → NodeTree
node_without_lines n = record {
  text = n.text;
  line = 0;
  inputs = n.inputs;
  outputs = n.outputs;
  names = n.names;
  equations = map equation_without_lines n.equations;
}

abbrev pub without_lines : FileTree → FileTree
without_lines f = record { nodes = map node_without_lines f.nodes }
