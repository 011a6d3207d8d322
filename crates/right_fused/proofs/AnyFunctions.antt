-- What an expression gives whatever functions there are, it gives simplified: it calls none of them.
use Rattle.std.specs.Prelude.{◌≡◌, ℕ, zero, suc, ◌+◌, ◌<◌, not, ⊤, Bool, true, false, if◌then◌else◌, List, [], ◌∷◌, ◌++◌, ℤ, neg_ℤ}
use Rattle.std.specs.List.{AllByRecursion}
use Rattle.std.proofs.Common.{refl, sym, subst, arith}
use Rattle.c_syntax.specs.declared.code.CType.TheVariants.{I64}
use Rattle.c_syntax.specs.declared.fault.Why.TheVariants.{Overflow, Steps}
use Rattle.c_syntax.specs.Tree.{ExprTree, literal, neg, read, binary, pick, pure, item, ExprTrees, no_exprs, more_exprs, CondTree, compare, both, either, negated}
use Rattle.c_semantics.specs.Values.{Answer, gives, sticks, and_then, within, stuck_at, operate, Function, function_at, Reads, index_in, eval, eval_all, eval_cond, compares}
use Rattle.base_core.specs.Numbers.{int_at}
use Rattle.c_refinement.specs.Evaluations.{RefinesAnswer, AreSteady}
use Rattle.emit_pruned.specs.Calls.{expr_functions, exprs_functions, cond_functions}
use Rattle.emit_pruned.proofs.lemmas.Numbers.{all-left, all-right, each-then}
use Rattle.emit_fused.specs.Simplified.{simplified_expr}
use Rattle.emit_fused.proofs.lemmas.SimplifiedRefines.{expr-simplified}

-- ---- Functions that are stuck

abbrev stuck_function : Function
stuck_function values steps = sticks (stuck_at 0 Steps)

-- so many
stuck_functions : ℕ → List Function
stuck_functions zero = []
stuck_functions (suc count) = stuck_function ∷ stuck_functions count

stuck-there : (count k : ℕ) → k < count → function_at (stuck_functions count) k ≡ stuck_function
unfolding stuck_functions
stuck-there zero k below = absurd (omega (arith, below))
stuck-there (suc count) zero below = refl
stuck-there (suc count) (suc k) below = stuck-there count k (omega (arith, below))

-- they do the same from each count of steps
stuck-steady : (count : ℕ) → AreSteady (stuck_functions count)
unfolding stuck_functions
stuck-steady zero k = record { fewer = λ values n m fewer. (refl, fewer); onward = λ values n. omega arith }
stuck-steady (suc count) zero = record { fewer = λ values n m fewer. tt; onward = λ values n. tt }
stuck-steady (suc count) (suc k) = stuck-steady count k

-- a number above each of some
above : List ℕ → ℕ
above [] = 0
above (k ∷ ks) = suc k + above ks

more-above : (n : ℕ) (ks : List ℕ) → AllByRecursion (λ k. k < n) ks → (m : ℕ) → AllByRecursion (λ k. k < m + n) ks
more-above n ks h m = each-then (λ k. k < n) (λ k. k < m + n) ks (λ k below. omega (arith, below)) h

each-above : (ks : List ℕ) → AllByRecursion (λ k. k < above ks) ks
unfolding above
each-above [] = tt
each-above (k ∷ ks) = (omega arith, more-above (above ks) ks (each-above ks) (suc k))

-- ---- What isn't stuck among them

-- an answer that isn't stuck is the other
abbrev Follows : {A : Type 0} → Answer A → Answer A → Type 0
Follows (gives result steps) other = other ≡ gives result steps
Follows (sticks at) other = ⊤

same-follows : {A : Type 0} (a : Answer A) → Follows a a
same-follows (gives result steps) = refl
same-follows (sticks at) = tt

and_then-follows : {A B : Type 0} (a b : Answer A) (go on : A → ℕ → Answer B) → Follows a b →
    ((result : A) (steps : ℕ) → Follows (go result steps) (on result steps)) → Follows (and_then a go) (and_then b on)
and_then-follows (gives result steps) b go on h next =
    subst (λ c. Follows (go result steps) (and_then c on)) (sym h) (next result steps)
and_then-follows (sticks at) b go on h next = tt

choice-follows : {A : Type 0} (f g h k : ℕ → Answer A) → ((n : ℕ) → Follows (f n) (h n)) → ((n : ℕ) → Follows (g n) (k n)) →
    (holds : Bool) (n : ℕ) → Follows ((if holds then f else g) n) ((if holds then h else k) n)
choice-follows f g h k one other true n = one n
choice-follows f g h k one other false n = other n

module _ (count : ℕ) (functions : List Function) (leaf : Reads) (line : ℕ) where
  abbrev none : List Function
  none = stuck_functions count

  abbrev Inside : List ℕ → Type 0
  Inside ks = AllByRecursion (λ k. k < count) ks

  mutual
    expr-follows : (e : ExprTree) → Inside (expr_functions e) → (n : ℕ) → Follows (eval none leaf line e n) (eval functions leaf line e n)
    expr-follows (literal value) h n = refl
    expr-follows (neg e) h n =
        and_then-follows (eval none leaf line e n) (eval functions leaf line e n) (λ v steps. within I64 Overflow line (neg_ℤ v) steps)
        (λ v steps. within I64 Overflow line (neg_ℤ v) steps) (expr-follows e h n)
        (λ v steps. same-follows (within I64 Overflow line (neg_ℤ v) steps))
    expr-follows (read l) h n = refl
    expr-follows (binary op a b) h n =
        and_then-follows (eval none leaf line a n) (eval functions leaf line a n)
        (λ x steps. and_then (eval none leaf line b steps) (λ y end. operate op line x y end))
        (λ x steps. and_then (eval functions leaf line b steps) (λ y end. operate op line x y end))
        (expr-follows a (all-left (λ k. k < count) (expr_functions a) (expr_functions b) h) n)
        (λ x steps. and_then-follows (eval none leaf line b steps) (eval functions leaf line b steps)
        (λ y end. operate op line x y end) (λ y end. operate op line x y end)
        (expr-follows b (all-right (λ k. k < count) (expr_functions a) (expr_functions b) h) steps)
        (λ y end. same-follows (operate op line x y end)))
    expr-follows (pick test a b) h n =
        let front = all-left (λ k. k < count) (cond_functions test ++ expr_functions a) (expr_functions b) h in
        and_then-follows (eval_cond none leaf line test n) (eval_cond functions leaf line test n)
        (λ holds. if holds then eval none leaf line a else eval none leaf line b)
        (λ holds. if holds then eval functions leaf line a else eval functions leaf line b)
        (cond-follows test (all-left (λ k. k < count) (cond_functions test) (expr_functions a) front) n)
        (choice-follows (eval none leaf line a) (eval none leaf line b) (eval functions leaf line a) (eval functions leaf line b)
        (expr-follows a (all-right (λ k. k < count) (cond_functions test) (expr_functions a) front))
        (expr-follows b (all-right (λ k. k < count) (cond_functions test ++ expr_functions a) (expr_functions b) h)))
    expr-follows (pure k es) h n =
        and_then-follows (eval_all none leaf line es n) (eval_all functions leaf line es n) (function_at none k) (function_at functions k)
        (exprs-follows es h.1 n)
        (λ values steps. subst (λ (f : Function). Follows (f values steps) (function_at functions k values steps))
        (sym (stuck-there count k h.0)) tt)
    expr-follows (item f index) h n =
        and_then-follows (and_then (eval none leaf line index n) (index_in line (leaf.array f)))
        (and_then (eval functions leaf line index n) (index_in line (leaf.array f)))
        (λ i steps. gives (int_at (leaf.array f) i) steps) (λ i steps. gives (int_at (leaf.array f) i) steps)
        (and_then-follows (eval none leaf line index n) (eval functions leaf line index n) (index_in line (leaf.array f))
        (index_in line (leaf.array f)) (expr-follows index h n) (λ i steps. same-follows (index_in line (leaf.array f) i steps)))
        (λ i steps. refl)

    exprs-follows : (es : ExprTrees) → Inside (exprs_functions es) → (n : ℕ) →
        Follows (eval_all none leaf line es n) (eval_all functions leaf line es n)
    exprs-follows no_exprs h n = refl
    exprs-follows (more_exprs e es) h n =
        and_then-follows (eval none leaf line e n) (eval functions leaf line e n)
        (λ v steps. and_then (eval_all none leaf line es steps) (λ vs end. gives (v ∷ vs) end))
        (λ v steps. and_then (eval_all functions leaf line es steps) (λ vs end. gives (v ∷ vs) end))
        (expr-follows e (all-left (λ k. k < count) (expr_functions e) (exprs_functions es) h) n)
        (λ v steps. and_then-follows (eval_all none leaf line es steps) (eval_all functions leaf line es steps)
        (λ vs end. gives (v ∷ vs) end) (λ vs end. gives (v ∷ vs) end)
        (exprs-follows es (all-right (λ k. k < count) (expr_functions e) (exprs_functions es) h) steps) (λ vs end. refl))

    cond-follows : (c : CondTree) → Inside (cond_functions c) → (n : ℕ) →
        Follows (eval_cond none leaf line c n) (eval_cond functions leaf line c n)
    cond-follows (compare how a b) h n =
        and_then-follows (eval none leaf line a n) (eval functions leaf line a n)
        (λ x steps. and_then (eval none leaf line b steps) (λ y end. gives (compares how x y) end))
        (λ x steps. and_then (eval functions leaf line b steps) (λ y end. gives (compares how x y) end))
        (expr-follows a (all-left (λ k. k < count) (expr_functions a) (expr_functions b) h) n)
        (λ x steps. and_then-follows (eval none leaf line b steps) (eval functions leaf line b steps)
        (λ y end. gives (compares how x y) end) (λ y end. gives (compares how x y) end)
        (expr-follows b (all-right (λ k. k < count) (expr_functions a) (expr_functions b) h) steps) (λ y end. refl))
    cond-follows (both a b) h n =
        and_then-follows (eval_cond none leaf line a n) (eval_cond functions leaf line a n)
        (λ holds. if holds then eval_cond none leaf line b else gives false)
        (λ holds. if holds then eval_cond functions leaf line b else gives false)
        (cond-follows a (all-left (λ k. k < count) (cond_functions a) (cond_functions b) h) n)
        (choice-follows (eval_cond none leaf line b) (gives false) (eval_cond functions leaf line b) (gives false)
        (cond-follows b (all-right (λ k. k < count) (cond_functions a) (cond_functions b) h)) (λ steps. refl))
    cond-follows (either a b) h n =
        and_then-follows (eval_cond none leaf line a n) (eval_cond functions leaf line a n)
        (λ holds. if holds then gives true else eval_cond none leaf line b)
        (λ holds. if holds then gives true else eval_cond functions leaf line b)
        (cond-follows a (all-left (λ k. k < count) (cond_functions a) (cond_functions b) h) n)
        (choice-follows (gives true) (eval_cond none leaf line b) (gives true) (eval_cond functions leaf line b)
        (λ steps. refl) (cond-follows b (all-right (λ k. k < count) (cond_functions a) (cond_functions b) h)))
    cond-follows (negated a) h n =
        and_then-follows (eval_cond none leaf line a n) (eval_cond functions leaf line a n) (λ holds steps. gives (not holds) steps)
        (λ holds steps. gives (not holds) steps) (cond-follows a h n) (λ holds steps. refl)

-- ---- Simplified

-- it gives a number with any functions, in some count of steps
abbrev AlwaysGives : Reads → ℕ → ExprTree → ℤ → Type 0
AlwaysGives leaf line e v = (functions : List Function) → (steps : ℕ) × (eval functions leaf line e 0 ≡ gives v steps)

-- an answer that refines a number is that number
refined-gives : (a b : Answer ℤ) (v : ℤ) (n : ℕ) → a ≡ gives v n → RefinesAnswer a b → (m : ℕ) × (b ≡ gives v m)
refined-gives a b v n is h = by b (subst (λ c. RefinesAnswer c b) is h)
  where
    by : (b : Answer ℤ) → RefinesAnswer (gives v n) b → (m : ℕ) × (b ≡ gives v m)
    by (gives w m) g = (m, (λ i. gives (g.0 i) m))
    by (sticks at) g = absurd g

pub simplified-gives : (leaf : Reads) (line : ℕ) (e : ExprTree) (v : ℤ) → AlwaysGives leaf line e v →
    AlwaysGives leaf line (simplified_expr e) v
simplified-gives leaf line e v always functions =
    let count = above (expr_functions (simplified_expr e)) in
    let none = stuck_functions count in
    let (steps, is) = always none in
    let refines = expr-simplified none (stuck-steady count) leaf line e 0 0 (omega arith) in
    let (end, made) = refined-gives (eval none leaf line e 0) (eval none leaf line (simplified_expr e) 0) v steps is refines in (
      end,
      subst (λ a. Follows a (eval functions leaf line (simplified_expr e) 0)) made
          (expr-follows count functions leaf line (simplified_expr e) (each-above (expr_functions (simplified_expr e))) 0),
    )
