-- Nodes by the texts of their names, and the file that such nodes stand for.
use Rattle.std.specs.Prelude.{ℕ, List, [], ◌∷◌, ◌++◌, map, length, bytes_eq, unwrap_or}
use Rattle.std.specs.List.{position_from}
use Rattle.lustre_syntax.specs.Tree.{Expr, number, truth, name, negative, negation, two, choice, arrow, previous, Equation, set, call, Declared, EquationTree, NodeTree, FileTree, texts_of}

abbrev pub NamedExpr : Type 0
NamedExpr = Expr (List ℕ)

abbrev pub NamedEquation : Type 0
NamedEquation = Equation (List ℕ) (List ℕ)

-- a node by names
pub record NamedNode : Type 0 where
  pub text : List ℕ
  pub inputs : List Declared
  pub outputs : List Declared
  pub others : List Declared
  pub equations : List NamedEquation

-- an expression over other names
abbrev pub renamed : {N M : Type 0} → (N → M) → Expr N → Expr M
renamed f (number value) = number value
renamed f (truth value) = truth value
renamed f (name x) = name (f x)
renamed f (negative a) = negative (renamed f a)
renamed f (negation a) = negation (renamed f a)
renamed f (two op a b) = two op (renamed f a) (renamed f b)
renamed f (choice test a b) = choice (renamed f test) (renamed f a) (renamed f b)
renamed f (arrow a b) = arrow (renamed f a) (renamed f b)
renamed f (previous x) = previous (f x)

-- an equation over other names and callees
abbrev pub renamed_equation : {N M C D : Type 0} → (N → M) → (C → D) → Equation N C → Equation M D
renamed_equation f g (set line given value) = set line (f given) (renamed f value)
renamed_equation f g (call line given callee values) =
    call line (map f given) (g callee) (map (renamed f) values)

-- the place of a text in a list; one that isn't there has the place past the end
abbrev pub place_of : List (List ℕ) → List ℕ → ℕ
place_of texts text = unwrap_or (position_from (bytes_eq text) 0 texts) (length texts)

-- all names of a node
abbrev pub all_names : NamedNode → List Declared
all_names n = n.inputs ++ n.outputs ++ n.others

-- the node that one by names stands for, where callees are the nodes of these names; all lines are
-- 0
abbrev pub placed_node : List (List ℕ) → NamedNode → NodeTree
placed_node callees n =
    record {
      text = n.text;
      line = 0;
      inputs = length n.inputs;
      outputs = length n.outputs;
      names = all_names n;
      equations =
          map (renamed_equation (place_of (texts_of (all_names n))) (place_of callees))
          n.equations;
    }

-- the file that nodes by names stand for
abbrev pub placed_file : List NamedNode → FileTree
placed_file nodes = record { nodes = map (placed_node (map (λ n. n.text) nodes)) nodes }
