-- Evaluations never count back.
use Rattle.std.specs.Prelude.{ℕ, ◌+◌, ◌≤◌, Bool, true, false, not, ◌&&◌, nat_lt, if◌then◌else◌, List, [], ◌∷◌, length, ℤ, pos, neg_ℤ, ◌+ℤ◌, ◌-ℤ◌, ◌*ℤ◌, int_le, int_lt, int_div, int_rem, unsigned_abs}
use Rattle.std.specs.Ordering.{int_eq}
use Rattle.std.proofs.Common.{arith}
use Rattle.c_syntax.specs.declared.code.BinOp.{BinOp}
use Rattle.c_syntax.specs.declared.code.BinOp.TheVariants.{Add, Sub, Mul, Div, Rem}
use Rattle.c_syntax.specs.declared.code.CType.{CType}
use Rattle.c_syntax.specs.declared.code.CType.TheVariants.{I64}
use Rattle.c_syntax.specs.declared.fault.Stuck.{Stuck}
use Rattle.c_syntax.specs.declared.fault.Why.{Why}
use Rattle.c_syntax.specs.declared.fault.Why.TheVariants.{Overflow, ZeroDivisor, Range, Steps, Index}
use Rattle.c_syntax.specs.Tree.{ExprTree, literal, neg, read, binary, pick, pure, item, ExprTrees, no_exprs, more_exprs, CondTree, compare, both, either, negated}
use Rattle.c_semantics.specs.Values.{Answer, gives, sticks, and_then, within, is_in_type, stuck_at, step_limit, take_step, operate, Function, function_at, Reads, index_in, eval, eval_all, eval_cond, compares}
use Rattle.c_semantics.specs.Machine.{arguments}
use Rattle.base_core.specs.Numbers.{int_at}
use Rattle.c_refinement.specs.Evaluations.{GivesFrom, AreSteady}

-- ---- Answers

pub gives-later : {A : Type 0} (a : Answer A) (n m : ℕ) → n ≤ m → GivesFrom m a → GivesFrom n a
gives-later (gives r end) n m more h = omega (arith, more, h)
gives-later (sticks at) n m more h = tt

pub and_then-onward : {A B : Type 0} (a : Answer A) (go : A → ℕ → Answer B) (n : ℕ) → GivesFrom n a →
    ((r : A) (m : ℕ) → GivesFrom m (go r m)) → GivesFrom n (and_then a go)
and_then-onward (gives r m) go n h after = gives-later (go r m) n m h (after r m)
and_then-onward (sticks at) go n h after = tt

choice-onward : {A : Type 0} (f g : ℕ → Answer A) → ((n : ℕ) → GivesFrom n (f n)) → ((n : ℕ) → GivesFrom n (g n)) →
    (b : Bool) (n : ℕ) → GivesFrom n ((if b then f else g) n)
choice-onward f g one other true n = one n
choice-onward f g one other false n = other n

given-onward : {A : Type 0} (v : A) (at : Stuck) (b : Bool) (n : ℕ) → GivesFrom n (if b then gives v n else sticks at)
given-onward v at true n = omega arith
given-onward v at false n = tt

within-onward : (t : CType) (why : Why) (line : ℕ) (v : ℤ) (n : ℕ) → GivesFrom n (within t why line v n)
within-onward t why line v n = given-onward v (stuck_at line why) (is_in_type t v) n

pub index-onward : (line : ℕ) (array : List ℤ) (i : ℤ) (n : ℕ) → GivesFrom n (index_in line array i n)
index-onward line array i n =
    given-onward (unsigned_abs i) (stuck_at line Index) (int_le (pos 0) i && int_lt i (pos (length array))) n

divided-onward : (at : Stuck) (b : Bool) (o : Answer ℤ) (n : ℕ) → GivesFrom n o → GivesFrom n (if b then sticks at else o)
divided-onward at true o n h = tt
divided-onward at false o n h = h

pub same-onward : {A : Type 0} (v : A) (n : ℕ) → GivesFrom n (gives v n)
same-onward v n = omega arith

operate-onward : (op : BinOp) (line : ℕ) (x y : ℤ) (n : ℕ) → GivesFrom n (operate op line x y n)
operate-onward Add line x y n = within-onward I64 Overflow line (x +ℤ y) n
operate-onward Sub line x y n = within-onward I64 Overflow line (x -ℤ y) n
operate-onward Mul line x y n = within-onward I64 Overflow line (x *ℤ y) n
operate-onward Div line x y n =
    divided-onward (stuck_at line ZeroDivisor) (int_eq y (pos 0)) (within I64 Overflow line (int_div x y) n) n
    (within-onward I64 Overflow line (int_div x y) n)
operate-onward Rem line x y n =
    divided-onward (stuck_at line ZeroDivisor) (int_eq y (pos 0)) (and_then (within I64 Overflow line (int_div x y) n) taken) n
    (and_then-onward (within I64 Overflow line (int_div x y) n) taken n (within-onward I64 Overflow line (int_div x y) n)
    (λ quotient m. same-onward (int_rem x y) m))
  where
    taken : ℤ → ℕ → Answer ℤ
    taken quotient count = gives (int_rem x y) count

pub take_step-onward : {A : Type 0} (line n : ℕ) (go : ℕ → Answer A) → ((m : ℕ) → GivesFrom m (go m)) → GivesFrom n (take_step line n go)
take_step-onward {A} line n go after = by (nat_lt n step_limit)
  where
    by : (b : Bool) → GivesFrom n (if b then go (n + 1) else sticks (stuck_at line Steps))
    by true = gives-later (go (n + 1)) n (n + 1) (omega arith) (after (n + 1))
    by false = tt

-- ---- Code

module _ (functions : List Function) (steady : AreSteady functions) (leaf : Reads) (line : ℕ) where
  mutual
    pub expr-onward : (e : ExprTree) (n : ℕ) → GivesFrom n (eval functions leaf line e n)
    expr-onward (literal value) n = same-onward value n
    expr-onward (neg e) n =
        and_then-onward (eval functions leaf line e n) (λ v count. within I64 Overflow line (neg_ℤ v) count) n (expr-onward e n)
        (λ v m. within-onward I64 Overflow line (neg_ℤ v) m)
    expr-onward (read l) n = same-onward (leaf.leaf l) n
    expr-onward (binary op a b) n =
        and_then-onward (eval functions leaf line a n)
        (λ x count. and_then (eval functions leaf line b count) (λ y end. operate op line x y end)) n (expr-onward a n)
        (λ x m. and_then-onward (eval functions leaf line b m) (λ y end. operate op line x y end) m (expr-onward b m)
        (λ y end. operate-onward op line x y end))
    expr-onward (pick test a b) n =
        and_then-onward (eval_cond functions leaf line test n)
        (λ holds. if holds then eval functions leaf line a else eval functions leaf line b) n (cond-onward test n)
        (choice-onward (eval functions leaf line a) (eval functions leaf line b) (expr-onward a) (expr-onward b))
    expr-onward (pure k es) n =
        and_then-onward (eval_all functions leaf line es n) (function_at functions k) n (exprs-onward es n)
        (λ values m. (steady k).onward values m)
    expr-onward (item f index) n =
        and_then-onward (and_then (eval functions leaf line index n) (index_in line (leaf.array f)))
        (λ i count. gives (int_at (leaf.array f) i) count) n
        (and_then-onward (eval functions leaf line index n) (index_in line (leaf.array f)) n (expr-onward index n)
        (λ i m. index-onward line (leaf.array f) i m)) (λ i m. same-onward (int_at (leaf.array f) i) m)

    pub exprs-onward : (es : ExprTrees) (n : ℕ) → GivesFrom n (eval_all functions leaf line es n)
    exprs-onward no_exprs n = same-onward {A = List ℤ} [] n
    exprs-onward (more_exprs e es) n =
        and_then-onward (eval functions leaf line e n)
        (λ v count. and_then (eval_all functions leaf line es count) (λ vs end. gives (v ∷ vs) end)) n (expr-onward e n)
        (λ v m. and_then-onward (eval_all functions leaf line es m) (λ vs end. gives (v ∷ vs) end) m (exprs-onward es m)
        (λ vs end. same-onward (v ∷ vs) end))

    pub cond-onward : (c : CondTree) (n : ℕ) → GivesFrom n (eval_cond functions leaf line c n)
    cond-onward (compare how a b) n =
        and_then-onward (eval functions leaf line a n)
        (λ x count. and_then (eval functions leaf line b count) (λ y end. gives (compares how x y) end)) n (expr-onward a n)
        (λ x m. and_then-onward (eval functions leaf line b m) (λ y end. gives (compares how x y) end) m (expr-onward b m)
        (λ y end. same-onward (compares how x y) end))
    cond-onward (both a b) n =
        and_then-onward (eval_cond functions leaf line a n)
        (λ holds. if holds then eval_cond functions leaf line b else gives false) n (cond-onward a n)
        (choice-onward (eval_cond functions leaf line b) (gives false) (cond-onward b) (λ m. same-onward false m))
    cond-onward (either a b) n =
        and_then-onward (eval_cond functions leaf line a n)
        (λ holds. if holds then gives true else eval_cond functions leaf line b) n (cond-onward a n)
        (choice-onward (gives true) (eval_cond functions leaf line b) (λ m. same-onward true m) (cond-onward b))
    cond-onward (negated a) n =
        and_then-onward (eval_cond functions leaf line a n) (λ holds count. gives (not holds) count) n (cond-onward a n)
        (λ holds m. same-onward (not holds) m)

  pub arguments-onward : (es : ExprTrees) (types : List CType) (n : ℕ) → GivesFrom n (arguments functions leaf line types es n)
  arguments-onward no_exprs types n = same-onward {A = List ℤ} [] n
  arguments-onward (more_exprs e es) [] n = same-onward {A = List ℤ} [] n
  arguments-onward (more_exprs e es) (t ∷ types) n =
      and_then-onward (and_then (eval functions leaf line e n) (within t Range line))
      (λ v count. and_then (arguments functions leaf line types es count) (λ vs end. gives (v ∷ vs) end)) n
      (and_then-onward (eval functions leaf line e n) (within t Range line) n (expr-onward e n) (λ v m. within-onward t Range line v m))
      (λ v m. and_then-onward (arguments functions leaf line types es m) (λ vs end. gives (v ∷ vs) end) m (arguments-onward es types m)
      (λ vs end. same-onward (v ∷ vs) end))
