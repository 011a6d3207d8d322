-- What a simplified expression gives: what the expression gives, after no more steps.
use Rattle.std.specs.Prelude.{◌≡◌, ℕ, ◌<◌, ◌≤◌, Bool, true, false, not, if◌then◌else◌, List, [], ◌∷◌, ℤ, pos, neg_ℤ, ◌*ℤ◌, int_div, int_rem, unsigned_abs}
use Rattle.std.specs.Ordering.{int_eq}
use Rattle.std.proofs.Common.{refl, ap, subst, ◌∙◌, arith}
use Rattle.std.proofs.lemmas.Bool.{cond_both}
use Rattle.std.proofs.lemmas.Int.{ints, rem_below}
use Rattle.c_syntax.specs.declared.code.BinOp.{BinOp}
use Rattle.c_syntax.specs.declared.code.BinOp.TheVariants.{Add, Sub, Mul, Div, Rem}
use Rattle.c_syntax.specs.declared.code.CType.{CType}
use Rattle.c_syntax.specs.declared.code.CType.TheVariants.{I64}
use Rattle.c_syntax.specs.declared.fault.Why.TheVariants.{Overflow, ZeroDivisor, Range}
use Rattle.c_syntax.specs.Tree.{ExprTree, literal, neg, read, binary, pick, pure, item, ExprTrees, no_exprs, more_exprs, CondTree, compare, both, either, negated}
use Rattle.c_semantics.specs.Values.{Answer, gives, sticks, and_then, within, is_in_type, stuck_at, operate, Function, function_at, Reads, index_in, eval, eval_all, eval_cond, compares}
use Rattle.c_semantics.specs.Machine.{arguments}
use Rattle.base_core.specs.Numbers.{int_at}
use Rattle.c_refinement.specs.Evaluations.{RefinesAnswer, GivesFrom, AreSteady}
use Rattle.c_refinement.proofs.lemmas.Answers.{and_then-refines, choice-refines, within-refines, index-refines, operate-refines}
use Rattle.c_refinement.proofs.lemmas.Onward.{expr-onward}
use Rattle.emit_fused.specs.Simplified.{is_one, simplified_binary, simplified_expr, simplified_exprs, simplified_cond}
use Rattle.emit_fused.proofs.lemmas.SameTests.{same-number}

-- ---- Ones

pub the-one : (e : ExprTree) → is_one e ≡ true → e ≡ literal (pos 1)
the-one (literal value) h = ap literal (same-number value (pos 1) h)
the-one _ h = absurd (let wrong : ⊥ = cc h in wrong)

times-one : (x y : ℤ) → pos 1 ≡ y → x ≡ x *ℤ y
times-one x y one = omega (arith, ints, ap (λ z. x *ℤ z) one)

rem-one : (x y : ℤ) → pos 1 ≡ y → pos 0 ≡ int_rem x y
rem-one x y one = by (rem_below x (pos 1) (omega arith)) ∙ ap (int_rem x) one
  where
    by : unsigned_abs (int_rem x (pos 1)) < 1 → pos 0 ≡ int_rem x (pos 1)
    by less = grind (arith, ints)

module _ (line : ℕ) (x x' y : ℤ) (one : pos 1 ≡ y) where
  -- a product by 1, from the product's steps on
  product-one : (k m : ℕ) → x' ≡ x → m ≤ k → RefinesAnswer (within I64 Overflow line (x *ℤ y) k) (gives x' m)
  product-one k m same fewer = by (is_in_type I64 (x *ℤ y))
    where
      by : (b : Bool) → RefinesAnswer (if b then gives (x *ℤ y) k else sticks (stuck_at line Overflow)) (gives x' m)
      by true = (same ∙ times-one x y one, fewer)
      by false = tt

  -- a remainder by 1
  remainder-one : (k m : ℕ) → m ≤ k → RefinesAnswer (operate Rem line x y k) (gives (pos 0) m)
  remainder-one k m fewer = by_divisor (int_eq y (pos 0))
    where
      by : (b : Bool) →
          RefinesAnswer (and_then (if b then gives (int_div x y) k else sticks (stuck_at line Overflow))
          (λ quotient count. gives (int_rem x y) count)) (gives (pos 0) m)
      by true = (rem-one x y one, fewer)
      by false = tt

      by_divisor : (b : Bool) →
          RefinesAnswer (if b then sticks (stuck_at line ZeroDivisor)
          else and_then (within I64 Overflow line (int_div x y) k) (λ quotient count. gives (int_rem x y) count)) (gives (pos 0) m)
      by_divisor true = tt
      by_divisor false = by (is_in_type I64 (int_div x y))

module _ (functions : List Function) (steady : AreSteady functions) (leaf : Reads) (line : ℕ) where
  abbrev RefinesTo : ExprTree → ExprTree → Type 0
  RefinesTo e d = (n m : ℕ) → m ≤ n → RefinesAnswer (eval functions leaf line e n) (eval functions leaf line d m)

  -- what a divisor or a factor gives that is 1
  one-given : (b : ExprTree) → RefinesTo b (literal (pos 1)) → (n : ℕ) → RefinesAnswer (eval functions leaf line b n) (gives (pos 1) n)
  one-given b h n = h n n (omega arith)

  product-simplified : (a b d : ExprTree) → RefinesTo a d → RefinesTo b (literal (pos 1)) → RefinesTo (binary Mul a b) d
  product-simplified a b d one other n m fewer = by (eval functions leaf line a n) (eval functions leaf line d m) (one n m fewer)
    where
      with_right : (x x' : ℤ) (k j : ℕ) → x' ≡ x → j ≤ k → (o : Answer ℤ) → RefinesAnswer o (gives (pos 1) k) →
          RefinesAnswer (and_then o (λ y end. operate Mul line x y end)) (gives x' j)
      with_right x x' k j same below (gives y end) h = product-one line x x' y h.0 end j same (omega (arith, below, h.1))
      with_right x x' k j same below (sticks at) h = tt

      by : (o p : Answer ℤ) → RefinesAnswer o p →
          RefinesAnswer (and_then o (λ x count. and_then (eval functions leaf line b count) (λ y end. operate Mul line x y end))) p
      by (gives x k) (gives x' j) h = with_right x x' k j h.0 h.1 (eval functions leaf line b k) (one-given b other k)
      by (gives x k) (sticks at) h = absurd h
      by (sticks at) p h = tt

  remainder-simplified : (a b : ExprTree) → RefinesTo b (literal (pos 1)) → RefinesTo (binary Rem a b) (literal (pos 0))
  remainder-simplified a b other n m fewer = by (eval functions leaf line a n) (expr-onward functions steady leaf line a n)
    where
      with_right : (x : ℤ) (k : ℕ) → n ≤ k → (o : Answer ℤ) → RefinesAnswer o (gives (pos 1) k) →
          RefinesAnswer (and_then o (λ y end. operate Rem line x y end)) (gives (pos 0) m)
      with_right x k later (gives y end) h = remainder-one line x (pos 0) y h.0 end m (omega (arith, fewer, later, h.1))
      with_right x k later (sticks at) h = tt

      by : (o : Answer ℤ) → GivesFrom n o →
          RefinesAnswer (and_then o (λ x count. and_then (eval functions leaf line b count) (λ y end. operate Rem line x y end)))
          (gives (pos 0) m)
      by (gives x k) h = with_right x k h (eval functions leaf line b k) (one-given b other k)
      by (sticks at) h = tt

  both-sides : (op : BinOp) (a b c d : ExprTree) → RefinesTo a c → RefinesTo b d → RefinesTo (binary op a b) (binary op c d)
  both-sides op a b c d one other n m fewer =
      and_then-refines (eval functions leaf line a n) (eval functions leaf line c m)
      (λ x count. and_then (eval functions leaf line b count) (λ y end. operate op line x y end))
      (λ x count. and_then (eval functions leaf line d count) (λ y end. operate op line x y end)) (one n m fewer)
      (λ x i j below. and_then-refines (eval functions leaf line b i) (eval functions leaf line d j)
      (λ y end. operate op line x y end) (λ y end. operate op line x y end) (other i j below)
      (λ y p q lower. operate-refines op line line x y p q lower))

  binary-simplified : (op : BinOp) (a b c d : ExprTree) → RefinesTo a c → RefinesTo b d →
      RefinesTo (binary op a b) (simplified_binary op c d)
  binary-simplified Mul a b c d one other =
      cond_both (is_one d) c (binary Mul c d) (RefinesTo (binary Mul a b))
      (λ is. product-simplified a b c one (subst (RefinesTo b) (the-one d is) other)) (λ is. both-sides Mul a b c d one other)
  binary-simplified Rem a b c d one other =
      cond_both (is_one d) (literal (pos 0)) (binary Rem c d) (RefinesTo (binary Rem a b))
      (λ is. remainder-simplified a b (subst (RefinesTo b) (the-one d is) other)) (λ is. both-sides Rem a b c d one other)
  binary-simplified Add a b c d one other = both-sides Add a b c d one other
  binary-simplified Sub a b c d one other = both-sides Sub a b c d one other
  binary-simplified Div a b c d one other = both-sides Div a b c d one other

  -- ---- All code

  mutual
    pub expr-simplified : (e : ExprTree) → RefinesTo e (simplified_expr e)
    expr-simplified (literal value) n m fewer = (refl, fewer)
    expr-simplified (neg e) n m fewer =
        and_then-refines (eval functions leaf line e n) (eval functions leaf line (simplified_expr e) m)
        (λ v count. within I64 Overflow line (neg_ℤ v) count) (λ v count. within I64 Overflow line (neg_ℤ v) count)
        (expr-simplified e n m fewer) (λ v i j below. within-refines I64 Overflow line line (neg_ℤ v) i j below)
    expr-simplified (read l) n m fewer = (refl, fewer)
    expr-simplified (binary op a b) n m fewer =
        binary-simplified op a b (simplified_expr a) (simplified_expr b) (expr-simplified a) (expr-simplified b) n m fewer
    expr-simplified (pick test a b) n m fewer =
        and_then-refines (eval_cond functions leaf line test n) (eval_cond functions leaf line (simplified_cond test) m)
        (λ holds. if holds then eval functions leaf line a else eval functions leaf line b)
        (λ holds. if holds then eval functions leaf line (simplified_expr a) else eval functions leaf line (simplified_expr b))
        (cond-simplified test n m fewer)
        (choice-refines (eval functions leaf line a) (eval functions leaf line b) (eval functions leaf line (simplified_expr a))
        (eval functions leaf line (simplified_expr b)) (expr-simplified a) (expr-simplified b))
    expr-simplified (pure k es) n m fewer =
        and_then-refines (eval_all functions leaf line es n) (eval_all functions leaf line (simplified_exprs es) m)
        (function_at functions k) (function_at functions k) (exprs-simplified es n m fewer)
        (λ values i j below. (steady k).fewer values i j below)
    expr-simplified (item f index) n m fewer =
        and_then-refines (and_then (eval functions leaf line index n) (index_in line (leaf.array f)))
        (and_then (eval functions leaf line (simplified_expr index) m) (index_in line (leaf.array f)))
        (λ i count. gives (int_at (leaf.array f) i) count) (λ i count. gives (int_at (leaf.array f) i) count)
        (and_then-refines (eval functions leaf line index n) (eval functions leaf line (simplified_expr index) m)
        (index_in line (leaf.array f)) (index_in line (leaf.array f)) (expr-simplified index n m fewer)
        (λ i p q below. index-refines line line (leaf.array f) i p q below)) (λ i p q below. (refl, below))

    pub exprs-simplified : (es : ExprTrees) (n m : ℕ) → m ≤ n →
        RefinesAnswer (eval_all functions leaf line es n) (eval_all functions leaf line (simplified_exprs es) m)
    exprs-simplified no_exprs n m fewer = (refl, fewer)
    exprs-simplified (more_exprs e es) n m fewer =
        and_then-refines (eval functions leaf line e n) (eval functions leaf line (simplified_expr e) m)
        (λ v count. and_then (eval_all functions leaf line es count) (λ vs end. gives (v ∷ vs) end))
        (λ v count. and_then (eval_all functions leaf line (simplified_exprs es) count) (λ vs end. gives (v ∷ vs) end))
        (expr-simplified e n m fewer)
        (λ v i j below. and_then-refines (eval_all functions leaf line es i) (eval_all functions leaf line (simplified_exprs es) j)
        (λ vs end. gives (v ∷ vs) end) (λ vs end. gives (v ∷ vs) end) (exprs-simplified es i j below) (λ vs p q lower. (refl, lower)))

    pub cond-simplified : (c : CondTree) (n m : ℕ) → m ≤ n →
        RefinesAnswer (eval_cond functions leaf line c n) (eval_cond functions leaf line (simplified_cond c) m)
    cond-simplified (compare how a b) n m fewer =
        and_then-refines (eval functions leaf line a n) (eval functions leaf line (simplified_expr a) m)
        (λ x count. and_then (eval functions leaf line b count) (λ y end. gives (compares how x y) end))
        (λ x count. and_then (eval functions leaf line (simplified_expr b) count) (λ y end. gives (compares how x y) end))
        (expr-simplified a n m fewer)
        (λ x i j below. and_then-refines (eval functions leaf line b i) (eval functions leaf line (simplified_expr b) j)
        (λ y end. gives (compares how x y) end) (λ y end. gives (compares how x y) end) (expr-simplified b i j below)
        (λ y p q lower. (refl, lower)))
    cond-simplified (both a b) n m fewer =
        and_then-refines (eval_cond functions leaf line a n) (eval_cond functions leaf line (simplified_cond a) m)
        (λ holds. if holds then eval_cond functions leaf line b else gives false)
        (λ holds. if holds then eval_cond functions leaf line (simplified_cond b) else gives false) (cond-simplified a n m fewer)
        (choice-refines (eval_cond functions leaf line b) (gives false) (eval_cond functions leaf line (simplified_cond b)) (gives false)
        (cond-simplified b) (λ i j below. (refl, below)))
    cond-simplified (either a b) n m fewer =
        and_then-refines (eval_cond functions leaf line a n) (eval_cond functions leaf line (simplified_cond a) m)
        (λ holds. if holds then gives true else eval_cond functions leaf line b)
        (λ holds. if holds then gives true else eval_cond functions leaf line (simplified_cond b)) (cond-simplified a n m fewer)
        (choice-refines (gives true) (eval_cond functions leaf line b) (gives true) (eval_cond functions leaf line (simplified_cond b))
        (λ i j below. (refl, below)) (cond-simplified b))
    cond-simplified (negated a) n m fewer =
        and_then-refines (eval_cond functions leaf line a n) (eval_cond functions leaf line (simplified_cond a) m)
        (λ holds count. gives (not holds) count) (λ holds count. gives (not holds) count) (cond-simplified a n m fewer)
        (λ holds i j below. (refl, below))

  pub arguments-simplified : (es : ExprTrees) (types : List CType) (n m : ℕ) → m ≤ n →
      RefinesAnswer (arguments functions leaf line types es n) (arguments functions leaf line types (simplified_exprs es) m)
  arguments-simplified no_exprs types n m fewer = (refl, fewer)
  arguments-simplified (more_exprs e es) [] n m fewer = (refl, fewer)
  arguments-simplified (more_exprs e es) (t ∷ types) n m fewer =
      and_then-refines (and_then (eval functions leaf line e n) (within t Range line))
      (and_then (eval functions leaf line (simplified_expr e) m) (within t Range line))
      (λ v count. and_then (arguments functions leaf line types es count) (λ vs end. gives (v ∷ vs) end))
      (λ v count. and_then (arguments functions leaf line types (simplified_exprs es) count) (λ vs end. gives (v ∷ vs) end))
      (and_then-refines (eval functions leaf line e n) (eval functions leaf line (simplified_expr e) m) (within t Range line)
      (within t Range line) (expr-simplified e n m fewer) (λ v i j below. within-refines t Range line line v i j below))
      (λ v i j below. and_then-refines (arguments functions leaf line types es i)
      (arguments functions leaf line types (simplified_exprs es) j) (λ vs end. gives (v ∷ vs) end) (λ vs end. gives (v ∷ vs) end)
      (arguments-simplified es types i j below) (λ vs p q lower. (refl, lower)))
