-- Which leaves expressions and conditions read.
use Rattle.std.specs.Prelude.{⊤}
use Rattle.c_syntax.specs.declared.Leaf.{Leaf}
use Rattle.c_syntax.specs.declared.Leaf.TheVariants.{Own}
use Rattle.c_syntax.specs.Tree.{ExprTree, literal, neg, read, binary, pick, pure, item, ExprTrees, no_exprs, more_exprs, CondTree, compare, both, either, negated}

-- each leaf that an expression reads, in the tests of its choices too, is one of these; an item of
-- an array counts as its field
module _ (IsGiven : Leaf → Type 0) where
  abbrev mutual
    pub ReadsOnly : ExprTree → Type 0
    ReadsOnly (literal value) = ⊤
    ReadsOnly (neg e) = ReadsOnly e
    ReadsOnly (read leaf) = IsGiven leaf
    ReadsOnly (binary op a b) = ReadsOnly a × ReadsOnly b
    ReadsOnly (pick test a b) = TestsOnly test × ReadsOnly a × ReadsOnly b
    ReadsOnly (pure function values) = AllReadOnly values
    ReadsOnly (item field index) = IsGiven (Own field) × ReadsOnly index

    pub AllReadOnly : ExprTrees → Type 0
    AllReadOnly no_exprs = ⊤
    AllReadOnly (more_exprs e es) = ReadsOnly e × AllReadOnly es

    pub TestsOnly : CondTree → Type 0
    TestsOnly (compare how a b) = ReadsOnly a × ReadsOnly b
    TestsOnly (both a b) = TestsOnly a × TestsOnly b
    TestsOnly (either a b) = TestsOnly a × TestsOnly b
    TestsOnly (negated a) = TestsOnly a
