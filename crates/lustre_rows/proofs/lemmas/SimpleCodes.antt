-- Codes of rows read no array, and both sides of their tests give truth values.
use Rattle.std.proofs.Common.{List}
use Rattle.std.specs.Prelude.{⊤}
use Rattle.base_fixed_point.specs.declared.FixType.{FixType}
use Rattle.diagram_blocks.specs.declared.Op.{Op}
use Rattle.c_syntax.specs.declared.Leaf.{Leaf}
use Rattle.c_syntax.specs.Tree.{ExprTree, literal, neg, read, binary, pick, pure, item, ExprTrees, no_exprs, more_exprs, CondTree, compare, both, either, negated}
use Rattle.emit_row_code.specs.RowCode.{rhs_code}
use Rattle.lustre_rows.proofs.lemmas.CodeWalks.{AreKept, CodesKeep, logic-kept, row-kept}

-- ---- What gives something whatever leaves read: it is made of numbers, leaves and choices

abbrev mutual
  pub Always : ExprTree → Type 0
  Always (literal value) = ⊤
  Always (neg a) = ⊥
  Always (read leaf) = ⊤
  Always (binary o a b) = ⊥
  Always (pick test a b) = TestAlways test × Always a × Always b
  Always (pure k es) = ⊥
  Always (item field index) = ⊥

  pub TestAlways : CondTree → Type 0
  TestAlways (compare how a b) = Always a × Always b
  TestAlways (both a b) = TestAlways a × TestAlways b
  TestAlways (either a b) = TestAlways a × TestAlways b
  TestAlways (negated a) = TestAlways a

-- ---- Expressions without arrays, both sides of whose tests give truth values

abbrev mutual
  pub Simple : ExprTree → Type 0
  Simple (literal value) = ⊤
  Simple (neg a) = Simple a
  Simple (read leaf) = ⊤
  Simple (binary o a b) = Simple a × Simple b
  Simple (pick test a b) = TestSimple test × Simple a × Simple b
  Simple (pure k es) = AllSimple es
  Simple (item field index) = ⊥

  pub AllSimple : ExprTrees → Type 0
  AllSimple no_exprs = ⊤
  AllSimple (more_exprs e es) = Simple e × AllSimple es

  pub TestSimple : CondTree → Type 0
  TestSimple (compare how a b) = Simple a × Simple b
  TestSimple (both a b) = TestSimple a × TestSimple b × TestAlways b
  TestSimple (either a b) = TestSimple a × TestSimple b × TestAlways b
  TestSimple (negated a) = TestSimple a

-- ---- The codes of rows

-- a test that is simple, and gives a truth value in any case
abbrev Sure : CondTree → Type 0
Sure c = TestSimple c × TestAlways c

sure : AreKept Sure
sure = record {
  truth = λ l. ((tt, tt), (tt, tt));
  all_of_none = ((tt, tt), (tt, tt));
  some_of_none = ((tt, tt), (tt, tt));
  conjunction = λ a b p q. ((p.0, q.0, q.1), (p.1, q.1));
  disjunction = λ a b p q. ((p.0, q.0, q.1), (p.1, q.1));
  difference = λ a b p q. (((p.0, tt, tt), (q.0, tt, tt)), ((p.1, tt, tt), (q.1, tt, tt)));
  negation = λ a p. p;
}

simple : CodesKeep Simple TestSimple
simple = record {
  conversion = record {
    kept = record {
      number = λ v. tt;
      leaf = λ l. tt;
      minus = λ e p. p;
      joined = λ o a b p q. (p, q);
    };
    rounded = λ how e unit p q. (p, (q, tt));
    clamped = λ e least greatest p q r. (p, (q, (r, tt)));
    wrapped = λ e least size p q r. (p, (q, (r, tt)));
  };
  comparison = λ c a b p q. (p, q);
  logic = λ o leaves. (logic-kept Sure sure leaves o).0;
  choice = λ test a b t p q. (t, p, q);
}

pub row-simple : (o : Op) (leaves : List Leaf) (types : List FixType) (l : Leaf) → Simple (rhs_code o leaves types (read l))
row-simple o leaves types l = row-kept Simple TestSimple simple leaves types (read l) tt o
