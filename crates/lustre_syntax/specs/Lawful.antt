-- The static rules and the limit on depth as facts on a file, for those who make one and not a text.
use Rattle.std.specs.Prelude.{◌≡◌, ℕ, ◌+◌, ◌^◌, ◌<◌, ◌≤◌, max, pos, true, false, ◌==◌, nat_lt, if◌then◌else◌, List, [], ◌∷◌, ◌++◌, length, flat_map, filter, ⊤, Some, slice_get}
use Rattle.std.specs.List.{AllByRecursion, range_with_len}
use Rattle.c_syntax.specs.Outputs.{has_name}
use Rattle.lustre_syntax.specs.Names.{is_lustre_name}
use Rattle.lustre_syntax.specs.Tree.{int, Expr, ExprTree, number, truth, name, negative, negation, two, choice, arrow, previous, EquationTree, set, call, NodeTree, FileTree, texts_of, types_of, node_texts, names_read, given_by, expressions_of}
use Rattle.lustre_syntax.specs.Typing.{type_at, fits, all_fit, have_types, input_types, output_types}

-- how deep expressions nest; an outermost one is 1 deep
abbrev pub expr_depth : {N : Type 0} → Expr N → ℕ
expr_depth (number value) = 1
expr_depth (truth value) = 1
expr_depth (name k) = 1
expr_depth (negative a) = expr_depth a + 1
expr_depth (negation a) = expr_depth a + 1
expr_depth (two op a b) = max (expr_depth a) (expr_depth b) + 1
expr_depth (choice test a b) = max (expr_depth test) (max (expr_depth a) (expr_depth b)) + 1
expr_depth (arrow a b) = max (expr_depth a) (expr_depth b) + 1
expr_depth (previous k) = 1

-- the greatest depth
abbrev pub expr_limit : ℕ
expr_limit = 100

-- each number in an expression is one from 0 on that has 63 bits
abbrev pub HasLiterals : {N : Type 0} → Expr N → Type 0
HasLiterals (number value) = (n : ℕ) × (value ≡ pos n) × (n < 2 ^ 63)
HasLiterals (truth value) = ⊤
HasLiterals (name k) = ⊤
HasLiterals (negative a) = HasLiterals a
HasLiterals (negation a) = HasLiterals a
HasLiterals (two op a b) = HasLiterals a × HasLiterals b
HasLiterals (choice test a b) = HasLiterals test × HasLiterals a × HasLiterals b
HasLiterals (arrow a b) = HasLiterals a × HasLiterals b
HasLiterals (previous k) = ⊤

-- an expression that can be written in a node of so many names
pub record IsWritable (count : ℕ) (e : ExprTree) : Type 0 where
  pub reads : AllByRecursion (λ k. k < count) (names_read e)
  pub literals : HasLiterals e
  pub depth : expr_depth e ≤ expr_limit

-- names, each of them lawful, and no two equal
abbrev pub AreDistinct : List (List ℕ) → Type 0
AreDistinct [] = ⊤
AreDistinct (text ∷ texts) =
    (is_lustre_name text ≡ true) × (has_name texts text ≡ false) × AreDistinct texts

-- an equation of a node after these: its types agree; a call is of an earlier node, with an
-- expression for each input and a name for each output
abbrev pub Agrees : List NodeTree → NodeTree → EquationTree → Type 0
Agrees earlier n (set line given value) =
    fits (slice_get (types_of n.names)) value (type_at (types_of n.names) given) ≡ true
Agrees earlier n (call line given callee values) =
    (of : NodeTree) × (slice_get earlier callee ≡ Some of)
    × (have_types (types_of n.names) given (output_types of) ≡ true)
    × (all_fit (slice_get (types_of n.names)) values (input_types of) ≡ true)

-- how many equations give the name at a place
abbrev pub equations_of : NodeTree → ℕ → ℕ
equations_of n k = length (filter (λ j. j == k) (flat_map given_by n.equations))

-- an input has no equation, each other name has one
abbrev pub equations_wanted : NodeTree → ℕ → ℕ
equations_wanted n k = if nat_lt k n.inputs then 0 else 1

-- a node after these; what its equations give are names of its own
pub record IsLawfulNode (earlier : List NodeTree) (n : NodeTree) : Type 0 where
  pub named : is_lustre_name n.text ≡ true
  pub new : has_name (node_texts earlier) n.text ≡ false
  pub names : AreDistinct (texts_of n.names)
  pub ports : n.inputs + n.outputs ≤ length n.names
  pub within : AllByRecursion (λ k. k < length n.names) (flat_map given_by n.equations)
  pub given : AllByRecursion (λ k. equations_of n k ≡ equations_wanted n k)
      (range_with_len 0 (length n.names))
  pub typed : AllByRecursion (Agrees earlier n) n.equations
  pub writable : AllByRecursion (λ e. AllByRecursion (IsWritable (length n.names)) (expressions_of e))
      n.equations

-- nodes, each after these and those before it
abbrev pub AreNodes : List NodeTree → List NodeTree → Type 0
AreNodes earlier [] = ⊤
AreNodes earlier (n ∷ ns) = IsLawfulNode earlier n × AreNodes (earlier ++ n ∷ []) ns

-- the last node has `int` inputs and outputs alone
abbrev pub EndsWithInts : List NodeTree → Type 0
EndsWithInts [] = ⊥
EndsWithInts (n ∷ []) =
    AllByRecursion (λ t. t ≡ int) (input_types n) × AllByRecursion (λ t. t ≡ int) (output_types n)
EndsWithInts (n ∷ m ∷ ns) = EndsWithInts (m ∷ ns)

-- a file that keeps the static rules and the limit
pub record IsLawful (f : FileTree) : Type 0 where
  pub nodes : AreNodes [] f.nodes
  pub last : EndsWithInts f.nodes
