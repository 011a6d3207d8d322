-- For each token of a written file, the depth of the expression that it opens, if it opens one.
use Rattle.std.specs.Prelude.{ℕ, ◌+◌, ◌*◌, Bool, true, nat_le, List, [], ◌∷◌, ◌++◌, flat_map, length, replicate, Option, Some, None}
use Rattle.lustre_syntax.specs.Tree.{number, truth, name, negative, negation, two, choice, arrow, previous}
use Rattle.lustre_syntax.specs.Lawful.{expr_limit}
use Rattle.lustre_grammar.specs.Written.{WrittenExpr, WrittenEquation, set, call, WrittenDeclared, WrittenNode, WrittenFile}

abbrev pub Opening : Type 0
Opening = Option ℕ

-- so many tokens that open none
abbrev pub others : ℕ → List Opening
others count = replicate count None

-- the tokens of an expression at a depth
abbrev pub expr_openings : ℕ → WrittenExpr → List Opening
expr_openings depth (number value) = Some depth ∷ []
expr_openings depth (truth value) = Some depth ∷ []
expr_openings depth (name w) = Some depth ∷ []
expr_openings depth (negative a) = Some depth ∷ None ∷ expr_openings (depth + 1) a ++ others 1
expr_openings depth (negation a) = Some depth ∷ None ∷ expr_openings (depth + 1) a ++ others 1
expr_openings depth (two op a b) =
    Some depth ∷ expr_openings (depth + 1) a ++ None ∷ expr_openings (depth + 1) b ++ others 1
expr_openings depth (choice test a b) =
    Some depth ∷ None ∷ expr_openings (depth + 1) test ++ None ∷ expr_openings (depth + 1) a
    ++ None ∷ expr_openings (depth + 1) b ++ others 1
expr_openings depth (arrow a b) =
    Some depth ∷ expr_openings (depth + 1) a ++ None ∷ expr_openings (depth + 1) b ++ others 1
expr_openings depth (previous w) = Some depth ∷ others 3

-- expressions with a `,` between each two
abbrev pub values_openings : List WrittenExpr → List Opening
values_openings [] = []
values_openings (e ∷ []) = expr_openings 1 e
values_openings (e ∷ f ∷ es) = expr_openings 1 e ++ None ∷ values_openings (f ∷ es)

-- things of so many tokens each, with a mark between each two
abbrev pub parted_openings : {A : Type 0} → ℕ → List A → List Opening
parted_openings each [] = []
parted_openings each (x ∷ xs) = others (each + (each + 1) * length xs)

abbrev pub equation_openings : WrittenEquation → List Opening
equation_openings (set line given value) = others 2 ++ expr_openings 1 value ++ others 1
equation_openings (call line given callee values) =
    parted_openings 1 given ++ others 4 ++ values_openings values ++ others 2

-- inputs or outputs in their parentheses
abbrev pub ports_openings : List WrittenDeclared → List Opening
ports_openings ds = None ∷ parted_openings 3 ds ++ others 1

-- `var` with the further names, if there are any
abbrev pub others_openings : List WrittenDeclared → List Opening
others_openings [] = []
others_openings (d ∷ ds) = others (5 + 4 * length ds)

abbrev pub node_openings : WrittenNode → List Opening
node_openings n =
    others 2 ++ ports_openings n.inputs ++ others 1 ++ ports_openings n.outputs ++ others 1
    ++ others_openings n.others ++ others 1 ++ flat_map equation_openings n.equations ++ others 2

abbrev pub openings : WrittenFile → List Opening
openings f = flat_map node_openings f.nodes

-- within the limit
abbrev pub is_within : Opening → Bool
is_within None = true
is_within (Some depth) = nat_le depth expr_limit
