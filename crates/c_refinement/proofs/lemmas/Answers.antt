-- Evaluations from fewer steps: they give the same, and never count back.
use Rattle.std.specs.Prelude.{◌≡◌, ℕ, ◌+◌, ◌<◌, ◌≤◌, Bool, true, false, not, ◌&&◌, nat_lt, if◌then◌else◌, List, [], ◌∷◌, length, ℤ, pos, neg_ℤ, ◌+ℤ◌, ◌-ℤ◌, ◌*ℤ◌, int_le, int_lt, int_div, int_rem, unsigned_abs}
use Rattle.std.specs.Ordering.{int_eq}
use Rattle.std.proofs.Common.{refl, sym, subst, arith, lt-ltb, ltb-true, true≢false}
use Rattle.c_syntax.specs.declared.code.BinOp.{BinOp}
use Rattle.c_syntax.specs.declared.code.BinOp.TheVariants.{Add, Sub, Mul, Div, Rem}
use Rattle.c_syntax.specs.declared.code.CType.{CType}
use Rattle.c_syntax.specs.declared.code.CType.TheVariants.{I64}
use Rattle.c_syntax.specs.declared.fault.Stuck.{Stuck}
use Rattle.c_syntax.specs.declared.fault.Why.{Why}
use Rattle.c_syntax.specs.declared.fault.Why.TheVariants.{Overflow, ZeroDivisor, Range, Steps, Index}
use Rattle.c_syntax.specs.Tree.{ExprTree, literal, neg, read, binary, pick, pure, item, ExprTrees, no_exprs, more_exprs, CondTree, compare, both, either, negated}
use Rattle.c_semantics.specs.Values.{Answer, gives, sticks, and_then, within, is_in_type, stuck_at, step_limit, take_step, operate, Function, function_at, Reads, index_in, eval, eval_all, eval_cond, compares}
use Rattle.c_semantics.specs.Machine.{arguments}
use Rattle.base_core.specs.Numbers.{int_at}
use Rattle.c_refinement.specs.Evaluations.{RefinesAnswer, AreSteady}

-- ---- Answers

-- what goes on from an answer
pub and_then-refines : {A B : Type 0} (a b : Answer A) (go further : A → ℕ → Answer B) → RefinesAnswer a b →
    ((r : A) (n m : ℕ) → m ≤ n → RefinesAnswer (go r n) (further r m)) → RefinesAnswer (and_then a go) (and_then b further)
and_then-refines (gives r n) (gives q m) go further h after =
    subst (λ x. RefinesAnswer (go r n) (further x m)) (sym h.0) (after r n m h.1)
and_then-refines (gives r n) (sticks at) go further h after = absurd h
and_then-refines (sticks at) b go further h after = tt

-- a choice of two, by the same test
pub choice-refines : {A : Type 0} (f g p q : ℕ → Answer A) → ((n m : ℕ) → m ≤ n → RefinesAnswer (f n) (p m)) →
    ((n m : ℕ) → m ≤ n → RefinesAnswer (g n) (q m)) → (b : Bool) (n m : ℕ) → m ≤ n →
    RefinesAnswer ((if b then f else g) n) ((if b then p else q) m)
choice-refines f g p q one other true n m fewer = one n m fewer
choice-refines f g p q one other false n m fewer = other n m fewer

-- the same number, or none
pub given-refines : {A : Type 0} (v : A) (at there : Stuck) (b : Bool) (n m : ℕ) → m ≤ n →
    RefinesAnswer (if b then gives v n else sticks at) (if b then gives v m else sticks there)
given-refines v at there true n m fewer = (refl, fewer)
given-refines v at there false n m fewer = tt

pub within-refines : (t : CType) (why : Why) (line later : ℕ) (v : ℤ) (n m : ℕ) → m ≤ n →
    RefinesAnswer (within t why line v n) (within t why later v m)
within-refines t why line later v n m fewer = given-refines v (stuck_at line why) (stuck_at later why) (is_in_type t v) n m fewer

pub index-refines : (line later : ℕ) (array : List ℤ) (i : ℤ) (n m : ℕ) → m ≤ n →
    RefinesAnswer (index_in line array i n) (index_in later array i m)
index-refines line later array i n m fewer =
    given-refines (unsigned_abs i) (stuck_at line Index) (stuck_at later Index) (int_le (pos 0) i && int_lt i (pos (length array))) n m
    fewer

divided-refines : (at there : Stuck) (b : Bool) (o p : Answer ℤ) → RefinesAnswer o p →
    RefinesAnswer (if b then sticks at else o) (if b then sticks there else p)
divided-refines at there true o p h = tt
divided-refines at there false o p h = h

pub operate-refines : (op : BinOp) (line later : ℕ) (x y : ℤ) (n m : ℕ) → m ≤ n →
    RefinesAnswer (operate op line x y n) (operate op later x y m)
operate-refines Add line later x y n m fewer = within-refines I64 Overflow line later (x +ℤ y) n m fewer
operate-refines Sub line later x y n m fewer = within-refines I64 Overflow line later (x -ℤ y) n m fewer
operate-refines Mul line later x y n m fewer = within-refines I64 Overflow line later (x *ℤ y) n m fewer
operate-refines Div line later x y n m fewer =
    divided-refines (stuck_at line ZeroDivisor) (stuck_at later ZeroDivisor) (int_eq y (pos 0))
    (within I64 Overflow line (int_div x y) n) (within I64 Overflow later (int_div x y) m)
    (within-refines I64 Overflow line later (int_div x y) n m fewer)
operate-refines Rem line later x y n m fewer =
    divided-refines (stuck_at line ZeroDivisor) (stuck_at later ZeroDivisor) (int_eq y (pos 0))
    (and_then (within I64 Overflow line (int_div x y) n) taken) (and_then (within I64 Overflow later (int_div x y) m) taken)
    (and_then-refines (within I64 Overflow line (int_div x y) n) (within I64 Overflow later (int_div x y) m) taken taken
    (within-refines I64 Overflow line later (int_div x y) n m fewer) (λ quotient i j below. (refl, below)))
  where
    taken : ℤ → ℕ → Answer ℤ
    taken quotient count = gives (int_rem x y) count

-- a step that there is left is left from fewer steps too
pub step-left : (limit n m : ℕ) → m ≤ n → nat_lt n limit ≡ true → nat_lt m limit ≡ true
step-left limit n m fewer h = lt-ltb m limit (below (ltb-true n limit h))
  where
    below : n < limit → m < limit
    below less = omega (arith, less, fewer)

pub take_step-refines : {A : Type 0} (line later n m : ℕ) (go further : ℕ → Answer A) → m ≤ n →
    ((i j : ℕ) → j ≤ i → RefinesAnswer (go i) (further j)) → RefinesAnswer (take_step line n go) (take_step later m further)
take_step-refines {A} line later n m go further fewer after =
    by (nat_lt n step_limit) (nat_lt m step_limit) (step-left step_limit n m fewer)
  where
    by : (b c : Bool) → (b ≡ true → c ≡ true) →
        RefinesAnswer (if b then go (n + 1) else sticks (stuck_at line Steps))
        (if c then further (m + 1) else sticks (stuck_at later Steps))
    by true true left = after (n + 1) (m + 1) (omega (arith, fewer))
    by true false left = absurd (true≢false (sym (left refl)))
    by false c left = tt

-- ---- Code

module _ (functions : List Function) (steady : AreSteady functions) (leaf : Reads) (line later : ℕ) where
  mutual
    pub expr-refines : (e : ExprTree) (n m : ℕ) → m ≤ n →
        RefinesAnswer (eval functions leaf line e n) (eval functions leaf later e m)
    expr-refines (literal value) n m fewer = (refl, fewer)
    expr-refines (neg e) n m fewer =
        and_then-refines (eval functions leaf line e n) (eval functions leaf later e m)
        (λ v count. within I64 Overflow line (neg_ℤ v) count) (λ v count. within I64 Overflow later (neg_ℤ v) count)
        (expr-refines e n m fewer) (λ v i j below. within-refines I64 Overflow line later (neg_ℤ v) i j below)
    expr-refines (read l) n m fewer = (refl, fewer)
    expr-refines (binary op a b) n m fewer =
        and_then-refines (eval functions leaf line a n) (eval functions leaf later a m)
        (λ x count. and_then (eval functions leaf line b count) (λ y end. operate op line x y end))
        (λ x count. and_then (eval functions leaf later b count) (λ y end. operate op later x y end)) (expr-refines a n m fewer)
        (λ x i j below. and_then-refines (eval functions leaf line b i) (eval functions leaf later b j)
        (λ y end. operate op line x y end) (λ y end. operate op later x y end) (expr-refines b i j below)
        (λ y p q lower. operate-refines op line later x y p q lower))
    expr-refines (pick test a b) n m fewer =
        and_then-refines (eval_cond functions leaf line test n) (eval_cond functions leaf later test m)
        (λ holds. if holds then eval functions leaf line a else eval functions leaf line b)
        (λ holds. if holds then eval functions leaf later a else eval functions leaf later b) (cond-refines test n m fewer)
        (choice-refines (eval functions leaf line a) (eval functions leaf line b) (eval functions leaf later a)
        (eval functions leaf later b) (expr-refines a) (expr-refines b))
    expr-refines (pure k es) n m fewer =
        and_then-refines (eval_all functions leaf line es n) (eval_all functions leaf later es m) (function_at functions k)
        (function_at functions k) (exprs-refine es n m fewer) (λ values i j below. (steady k).fewer values i j below)
    expr-refines (item f index) n m fewer =
        and_then-refines (and_then (eval functions leaf line index n) (index_in line (leaf.array f)))
        (and_then (eval functions leaf later index m) (index_in later (leaf.array f)))
        (λ i count. gives (int_at (leaf.array f) i) count) (λ i count. gives (int_at (leaf.array f) i) count)
        (and_then-refines (eval functions leaf line index n) (eval functions leaf later index m) (index_in line (leaf.array f))
        (index_in later (leaf.array f)) (expr-refines index n m fewer) (λ i p q below. index-refines line later (leaf.array f) i p q below))
        (λ i p q below. (refl, below))

    pub exprs-refine : (es : ExprTrees) (n m : ℕ) → m ≤ n →
        RefinesAnswer (eval_all functions leaf line es n) (eval_all functions leaf later es m)
    exprs-refine no_exprs n m fewer = (refl, fewer)
    exprs-refine (more_exprs e es) n m fewer =
        and_then-refines (eval functions leaf line e n) (eval functions leaf later e m)
        (λ v count. and_then (eval_all functions leaf line es count) (λ vs end. gives (v ∷ vs) end))
        (λ v count. and_then (eval_all functions leaf later es count) (λ vs end. gives (v ∷ vs) end)) (expr-refines e n m fewer)
        (λ v i j below. and_then-refines (eval_all functions leaf line es i) (eval_all functions leaf later es j)
        (λ vs end. gives (v ∷ vs) end) (λ vs end. gives (v ∷ vs) end) (exprs-refine es i j below) (λ vs p q lower. (refl, lower)))

    pub cond-refines : (c : CondTree) (n m : ℕ) → m ≤ n →
        RefinesAnswer (eval_cond functions leaf line c n) (eval_cond functions leaf later c m)
    cond-refines (compare how a b) n m fewer =
        and_then-refines (eval functions leaf line a n) (eval functions leaf later a m)
        (λ x count. and_then (eval functions leaf line b count) (λ y end. gives (compares how x y) end))
        (λ x count. and_then (eval functions leaf later b count) (λ y end. gives (compares how x y) end)) (expr-refines a n m fewer)
        (λ x i j below. and_then-refines (eval functions leaf line b i) (eval functions leaf later b j)
        (λ y end. gives (compares how x y) end) (λ y end. gives (compares how x y) end) (expr-refines b i j below)
        (λ y p q lower. (refl, lower)))
    cond-refines (both a b) n m fewer =
        and_then-refines (eval_cond functions leaf line a n) (eval_cond functions leaf later a m)
        (λ holds. if holds then eval_cond functions leaf line b else gives false)
        (λ holds. if holds then eval_cond functions leaf later b else gives false) (cond-refines a n m fewer)
        (choice-refines (eval_cond functions leaf line b) (gives false) (eval_cond functions leaf later b) (gives false)
        (cond-refines b) (λ i j below. (refl, below)))
    cond-refines (either a b) n m fewer =
        and_then-refines (eval_cond functions leaf line a n) (eval_cond functions leaf later a m)
        (λ holds. if holds then gives true else eval_cond functions leaf line b)
        (λ holds. if holds then gives true else eval_cond functions leaf later b) (cond-refines a n m fewer)
        (choice-refines (gives true) (eval_cond functions leaf line b) (gives true) (eval_cond functions leaf later b)
        (λ i j below. (refl, below)) (cond-refines b))
    cond-refines (negated a) n m fewer =
        and_then-refines (eval_cond functions leaf line a n) (eval_cond functions leaf later a m)
        (λ holds count. gives (not holds) count) (λ holds count. gives (not holds) count) (cond-refines a n m fewer)
        (λ holds i j below. (refl, below))

  pub arguments-refine : (es : ExprTrees) (types : List CType) (n m : ℕ) → m ≤ n →
      RefinesAnswer (arguments functions leaf line types es n) (arguments functions leaf later types es m)
  arguments-refine no_exprs types n m fewer = (refl, fewer)
  arguments-refine (more_exprs e es) [] n m fewer = (refl, fewer)
  arguments-refine (more_exprs e es) (t ∷ types) n m fewer =
      and_then-refines (and_then (eval functions leaf line e n) (within t Range line))
      (and_then (eval functions leaf later e m) (within t Range later))
      (λ v count. and_then (arguments functions leaf line types es count) (λ vs end. gives (v ∷ vs) end))
      (λ v count. and_then (arguments functions leaf later types es count) (λ vs end. gives (v ∷ vs) end))
      (and_then-refines (eval functions leaf line e n) (eval functions leaf later e m) (within t Range line) (within t Range later)
      (expr-refines e n m fewer) (λ v i j below. within-refines t Range line later v i j below))
      (λ v i j below. and_then-refines (arguments functions leaf line types es i) (arguments functions leaf later types es j)
      (λ vs end. gives (v ∷ vs) end) (λ vs end. gives (v ∷ vs) end) (arguments-refine es types i j below)
      (λ vs p q lower. (refl, lower)))
