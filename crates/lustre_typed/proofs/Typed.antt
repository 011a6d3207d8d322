-- Expressions over names that have a type and can be written, and what is made of such.
use Rattle.std.proofs.Common.{◌≡◌, refl, ap, ap₂, ◌∙◌, ℕ, ◌+◌, ◌^◌, ◌<◌, ◌≤◌, true, false, List, ◌++◌, length, Some, pos, arith}
use Rattle.std.specs.Prelude.{slice_get}
use Rattle.std.specs.List.{AllByRecursion}
use Rattle.std.proofs.lemmas.Option.{slice_get_within}
use Rattle.lustre_syntax.specs.declared.LusOp.{LusOp}
use Rattle.lustre_syntax.specs.Tree.{ValueType, int, bool, number, name, negative, negation, two, choice, arrow, previous, names_read}
use Rattle.lustre_syntax.specs.Named.{NamedExpr, renamed}
use Rattle.lustre_syntax.specs.Typing.{Typing, known, meet, unless_clash, of_name, operand_type, gives_type, typing}
use Rattle.lustre_syntax.specs.Lawful.{expr_depth, HasLiterals}
use Rattle.lustre_rows.proofs.lemmas.Lists.{all-after}

pub meet-same : (t : ValueType) → meet (known t) (known t) ≡ known t
meet-same true = refl
meet-same false = refl

module _ (types : List ValueType) (place : List ℕ → ℕ) where
  -- the type at the place of a name
  abbrev pub Has : List ℕ → ValueType → Type 0
  Has text t = slice_get types (place text) ≡ Some t

  -- an expression of a type that is at most so deep
  pub record IsTyped (e : NamedExpr) (t : ValueType) (deep : ℕ) : Type 0 where
    pub typed : typing (slice_get types) (renamed place e) ≡ known t
    pub reads : AllByRecursion (λ k. k < length types) (names_read (renamed place e))
    pub literals : HasLiterals (renamed place e)
    pub depth : expr_depth (renamed place e) ≤ deep

  abbrev Read : ℕ → Type 0
  Read k = k < length types

  abbrev names : NamedExpr → List ℕ
  names e = names_read (renamed place e)

  pub deeper : (e : NamedExpr) (t : ValueType) (m n : ℕ) → m ≤ n → IsTyped e t m → IsTyped e t n
  deeper e t m n low is = record {
    typed = is.typed;
    reads = is.reads;
    literals = is.literals;
    depth = (let deep = is.depth in omega (arith, low, deep));
  }

  pub number-typed : (n : ℕ) → n < 2 ^ 63 → IsTyped (number (pos n)) int 1
  number-typed n small = record { typed = refl; reads = tt; literals = (n, refl, small); depth = omega arith }

  pub name-typed : (text : List ℕ) (t : ValueType) → Has text t → IsTyped (name text) t 1
  name-typed text t has = record {
    typed = ap of_name has;
    reads = (slice_get_within types (place text) t has, tt);
    literals = tt;
    depth = omega arith;
  }

  pub previous-typed : (text : List ℕ) (t : ValueType) → Has text t → IsTyped (previous text) t 1
  previous-typed text t has = record {
    typed = ap of_name has;
    reads = (slice_get_within types (place text) t has, tt);
    literals = tt;
    depth = omega arith;
  }

  pub negative-typed : (a : NamedExpr) (deep : ℕ) → IsTyped a int deep → IsTyped (negative a) int (deep + 1)
  negative-typed a deep is = record {
    typed = ap (λ (x : Typing). unless_clash (meet (known int) x) (known int)) is.typed;
    reads = is.reads;
    literals = is.literals;
    depth = (let low = is.depth in omega (arith, low));
  }

  pub negation-typed : (a : NamedExpr) (deep : ℕ) → IsTyped a bool deep → IsTyped (negation a) bool (deep + 1)
  negation-typed a deep is = record {
    typed = ap (λ (x : Typing). unless_clash (meet (known bool) x) (known bool)) is.typed;
    reads = is.reads;
    literals = is.literals;
    depth = (let low = is.depth in omega (arith, low));
  }

  -- two operands of one type, of which the operator gives another
  pub two-typed : (o : LusOp) (a b : NamedExpr) (t u : ValueType) (deep : ℕ) →
      unless_clash (meet (operand_type o) (meet (known t) (known t))) (known (gives_type o)) ≡ known u →
      IsTyped a t deep → IsTyped b t deep → IsTyped (two o a b) u (deep + 1)
  two-typed o a b t u deep gives first second = record {
    typed =
        ap₂ (λ (x y : Typing). unless_clash (meet (operand_type o) (meet x y)) (known (gives_type o))) first.typed second.typed
        ∙ gives;
    reads = all-after Read (names a) (names b) first.reads second.reads;
    literals = (first.literals, second.literals);
    depth = (let p = first.depth in let q = second.depth in omega (arith, p, q));
  }

  pub choice-typed : (test a b : NamedExpr) (t : ValueType) (deep : ℕ) → IsTyped test bool deep → IsTyped a t deep →
      IsTyped b t deep → IsTyped (choice test a b) t (deep + 1)
  choice-typed test a b t deep holds first second = record {
    typed =
        ap (λ (x : Typing). unless_clash (meet (known bool) x) (meet (typing (slice_get types) (renamed place a))
        (typing (slice_get types) (renamed place b)))) holds.typed
        ∙ ap₂ (λ (x y : Typing). meet x y) first.typed second.typed ∙ meet-same t;
    reads =
        all-after Read (names_read (renamed place test) ++ names a) (names b)
        (all-after Read (names test) (names a) holds.reads first.reads) second.reads;
    literals = (holds.literals, first.literals, second.literals);
    depth = (let o = holds.depth in let p = first.depth in let q = second.depth in omega (arith, o, p, q));
  }

  pub arrow-typed : (a b : NamedExpr) (t : ValueType) (deep : ℕ) → IsTyped a t deep → IsTyped b t deep →
      IsTyped (arrow a b) t (deep + 1)
  arrow-typed a b t deep first second = record {
    typed = ap₂ (λ (x y : Typing). meet x y) first.typed second.typed ∙ meet-same t;
    reads = all-after Read (names a) (names b) first.reads second.reads;
    literals = (first.literals, second.literals);
    depth = (let p = first.depth in let q = second.depth in omega (arith, p, q));
  }
