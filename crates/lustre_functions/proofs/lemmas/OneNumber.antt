-- An expression of C gives one number, from whatever count of steps.
use Rattle.std.proofs.Common.{◌≡◌, sym, ◌∙◌, subst, ℕ, zero, suc, ◌+◌, Bool, true, false, not, nat_lt, if◌then◌else◌, List, [], ◌∷◌, ◌++◌, length, ℤ, pos, neg_ℤ, int_lt, int_le, unsigned_abs, ◌&&◌}
use Rattle.std.specs.List.{AllByRecursion}
use Rattle.base_core.specs.Numbers.{int_at}
use Rattle.c_syntax.specs.declared.BinOp.{BinOp}
use Rattle.c_syntax.specs.declared.CType.TheVariants.{I64}
use Rattle.c_syntax.specs.declared.Why.TheVariants.{Overflow, Steps, Index}
use Rattle.c_syntax.specs.Tree.{ExprTree, literal, neg, read, binary, pick, pure, item, ExprTrees, no_exprs, more_exprs, CondTree, compare, both, either, negated, PureTree}
use Rattle.c_semantics.specs.Cells.{no_cells}
use Rattle.c_semantics.specs.Values.{Answer, Function, Reads, gives, and_then, within, operate, compares, index_in, stuck_at, step_limit, function_at, function_of, functions_of, reads, eval, eval_all, eval_cond}
use Rattle.lustre_flows.specs.Values as flow
use Rattle.lustre_functions.specs.OneNumber.{ExpressionsGiveOne}
use Rattle.lustre_functions.proofs.lemmas.Given.{given-same, given-first, given-if}
use Rattle.lustre_functions.proofs.lemmas.Operators.{checked-is, operated}

-- two counts of steps lead to one result
abbrev One : {A : Type 0} → (ℕ → Answer A) → Type 0
One {A = A} f = (steps end other last : ℕ) (v w : A) → f steps ≡ gives v end → f other ≡ gives w last → v ≡ w

-- a function gives one number of the same arguments
abbrev IsOne : Function → Type 0
IsOne f = (vs : List ℤ) → One (f vs)

given-one : {A : Type 0} (x : A) → One (λ steps. gives x steps)
given-one x steps end other last v w first second = sym (given-same x v steps end first) ∙ given-same x w other last second

then-one : {A B : Type 0} (f : ℕ → Answer A) (go : A → ℕ → Answer B) → One f → ((x : A) → One (go x)) →
    One (λ steps. and_then (f steps) go)
then-one f go one later steps end other last v w first second =
    let (x, mid, here, rest) = given-first (f steps) go v end first in
    let (y, between, there, after) = given-first (f other) go w last second in
    let same = one steps mid other between x y here there in
    later y mid end between last v w (subst (λ z. go z mid ≡ gives v end) same rest) after

within-one : (line : ℕ) (v : ℤ) → One (within I64 Overflow line v)
within-one line x steps end other last v w first second =
    let p = checked-is line x v steps end first in
    let q = checked-is line x w other last second in
    cc

operate-one : (o : BinOp) (line : ℕ) (x y : ℤ) → One (operate o line x y)
operate-one o line x y steps end other last v w first second =
    let p = operated o line x y v steps end first in
    let q = operated o line x y w other last second in
    cc

index-one : (line : ℕ) (array : List ℤ) (i : ℤ) → One (index_in line array i)
index-one line array i steps end other last v w first second =
    let t = int_le (pos 0) i && int_lt i (pos (length array)) in
    let p = given-if t (gives (unsigned_abs i) steps) (stuck_at line Index) v end first in
    let q = given-if t (gives (unsigned_abs i) other) (stuck_at line Index) w last second in
    given-one (unsigned_abs i) steps end other last v w p.1 q.1

chosen-one : {A : Type 0} (p : Bool) (f g : ℕ → Answer A) → One f → One g → One (if p then f else g)
chosen-one true f g one other = one
chosen-one false f g one other = other

function-at-one : (fs : List Function) → AllByRecursion IsOne fs → (k : ℕ) → IsOne (function_at fs k)
function-at-one [] all k = λ vs. given-one (pos 0)
function-at-one (f ∷ fs) all zero = all.0
function-at-one (f ∷ fs) all (suc k) = function-at-one fs all.1 k

module _ (functions : List Function) (all : AllByRecursion IsOne functions) (given : Reads) (line : ℕ) where
  mutual
    number-one : (e : ExprTree) → One (eval functions given line e)
    number-one (literal value) = given-one value
    number-one (neg a) =
        then-one (eval functions given line a) (λ v count. within I64 Overflow line (neg_ℤ v) count) (number-one a)
        (λ v. within-one line (neg_ℤ v))
    number-one (read leaf) = given-one (given.leaf leaf)
    number-one (binary o a b) =
        then-one (eval functions given line a)
        (λ x count. and_then (eval functions given line b count) (λ y end. operate o line x y end)) (number-one a)
        (λ x. then-one (eval functions given line b) (λ y end. operate o line x y end) (number-one b) (λ y. operate-one o line x y))
    number-one (pick test a b) =
        then-one (eval_cond functions given line test)
        (λ holds. if holds then eval functions given line a else eval functions given line b) (test-one test)
        (λ p. chosen-one p (eval functions given line a) (eval functions given line b) (number-one a) (number-one b))
    number-one (pure k es) =
        then-one (eval_all functions given line es) (function_at functions k) (numbers-one es) (function-at-one functions all k)
    number-one (item f index) =
        then-one (λ steps. and_then (eval functions given line index steps) (index_in line (given.array f)))
        (λ i count. gives (int_at (given.array f) i) count)
        (then-one (eval functions given line index) (index_in line (given.array f)) (number-one index) (index-one line (given.array f)))
        (λ i. given-one (int_at (given.array f) i))

    numbers-one : (es : ExprTrees) → One (eval_all functions given line es)
    numbers-one no_exprs = given-one []
    numbers-one (more_exprs e es) =
        then-one (eval functions given line e)
        (λ v count. and_then (eval_all functions given line es count) (λ vs end. gives (v ∷ vs) end)) (number-one e)
        (λ v. then-one (eval_all functions given line es) (λ vs end. gives (v ∷ vs) end) (numbers-one es) (λ vs. given-one (v ∷ vs)))

    test-one : (c : CondTree) → One (eval_cond functions given line c)
    test-one (compare how a b) =
        then-one (eval functions given line a)
        (λ x count. and_then (eval functions given line b count) (λ y end. gives (compares how x y) end)) (number-one a)
        (λ x. then-one (eval functions given line b) (λ y end. gives (compares how x y) end) (number-one b)
        (λ y. given-one (compares how x y)))
    test-one (both a b) =
        then-one (eval_cond functions given line a) (λ holds. if holds then eval_cond functions given line b else gives false) (test-one a)
        (λ p. chosen-one p (eval_cond functions given line b) (gives false) (test-one b) (given-one false))
    test-one (either a b) =
        then-one (eval_cond functions given line a) (λ holds. if holds then gives true else eval_cond functions given line b) (test-one a)
        (λ p. chosen-one p (gives true) (eval_cond functions given line b) (given-one true) (test-one b))
    test-one (negated a) =
        then-one (eval_cond functions given line a) (λ holds count. gives (not holds) count) (test-one a) (λ p. given-one (not p))

function-one : (earlier : List Function) → AllByRecursion IsOne earlier → (p : PureTree) → IsOne (function_of earlier p)
function-one earlier all p vs steps end other last v w first second =
    let body = eval earlier (reads vs no_cells) p.line p.body in
    let f = given-if (nat_lt steps step_limit) (body (steps + 1)) (stuck_at p.line Steps) v end first in
    let g = given-if (nat_lt other step_limit) (body (other + 1)) (stuck_at p.line Steps) w last second in
    number-one earlier all (reads vs no_cells) p.line p.body (steps + 1) end (other + 1) last v w f.1 g.1

one-more : (fs : List Function) (f : Function) → AllByRecursion IsOne fs → IsOne f → AllByRecursion IsOne (fs ++ f ∷ [])
one-more [] f all one = (one, tt)
one-more (g ∷ fs) f all one = (all.0, one-more fs f all.1 one)

functions-one : (earlier : List Function) (ps : List PureTree) → AllByRecursion IsOne earlier →
    AllByRecursion IsOne (functions_of earlier ps)
functions-one earlier [] all = all
functions-one earlier (p ∷ ps) all =
    functions-one (earlier ++ function_of earlier p ∷ []) ps (one-more earlier (function_of earlier p) all (function-one earlier all p))

pub expressions_give_one : ExpressionsGiveOne
expressions_give_one ps given line e steps end other last v w first second =
    number-one (functions_of [] ps) (functions-one [] ps tt) given line e steps end other last v w first second
