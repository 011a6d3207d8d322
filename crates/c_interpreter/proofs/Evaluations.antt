-- Steps of an evaluation.
use Rattle.std.proofs.Common.{◌≡◌, refl, sym, ◌∙◌, ap, ℕ, zero, suc, ◌+◌, ◌<◌, ◌≤◌, ℤ, neg_ℤ, Bool, true, false, not, List, [], ◌∷◌, ◌++◌, length, arith, take, drop, map, slice_get, if◌then◌else◌, append_assoc, get_or, nat_lt, pos, subst, add-zero, zero-add}
use Rattle.std.proofs.Math.Path.{fun_ext}
use Rattle.std.proofs.lemmas.List.{get_or_append_left, length-append}
use Rattle.std.proofs.Math.Seq.{get_or-append_seam}
use native.Mathlib.Numerals.{unary_clauses}
use Rattle.std.proofs.Math.ListN.{set}
use Rattle.base_core.specs.declared.base.Compare.{Compare}
use Rattle.c_syntax.specs.declared.fault.Stuck.{Stuck}
use Rattle.c_syntax.specs.declared.fault.Why.TheVariants.{Overflow, Steps}
use Rattle.c_syntax.specs.declared.code.BinOp.{BinOp}
use Rattle.c_syntax.specs.declared.code.CType.TheVariants.{I64}
use Rattle.c_syntax.specs.declared.code.Leaf.{Leaf}
use Rattle.c_syntax.specs.declared.code.Leaf.TheVariants.{Param, Own, Child}
use Rattle.c_syntax.specs.declared.program.Pure.{Pure}
use Rattle.c_semantics.specs.Cells.{no_cells, items_at}
use Rattle.c_interpreter.specs.declared.values.View.{View}
use Rattle.c_interpreter.specs.Slots.{number_in, number_under, items_in}
use Rattle.c_interpreter.specs.Reads.{view_leaf, view_array, view_reads, AreNarrowExprs}
use Rattle.c_syntax.specs.declared.code.Expr.{Expr}
use Rattle.c_syntax.specs.declared.code.Cond.{Cond}
use Rattle.c_syntax.specs.Plain.{expr_tree, cond_tree, pure_tree}
use Rattle.c_syntax.specs.Tree.{neg, binary, pick, item, ExprTrees, compare, both, either, negated, exprs_of_list, PureTree}
use Rattle.c_semantics.specs.Values.{Answer, gives, sticks, and_then, Function, eval, eval_cond, eval_all, take_step, within, operate, compares, function_at, function_of, functions_of, Reads, leaf_reads, reads, index_in, step_limit, stuck_at}
use Rattle.base_core.specs.Numbers.{int_at}

pub take_set : (xs : List ℤ) (k : ℕ) (v : ℤ) → k < length xs → take (k + 1) (set xs k v) ≡ take k xs ++ v ∷ []
take_set [] k v h = absurd (omega arith)
take_set (x ∷ xs) zero v h = refl
take_set (x ∷ xs) (suc k) v h = simp unary_clauses (ap (λ ys. x ∷ ys) (simp unary_clauses at (take_set xs k v (omega arith))))

pub and_then_gives : {A B : Type 0} (a : Answer A) (v : A) (n : ℕ) (go : A → ℕ → Answer B) → gives v n ≡ a → and_then a go ≡ go v n
and_then_gives a v n go e = ap (λ x. and_then x go) (sym e)

pub and_then_sticks : {A B : Type 0} (a : Answer A) (at : Stuck) (go : A → ℕ → Answer B) → sticks at ≡ a → and_then a go ≡ sticks at
and_then_sticks a at go e = ap (λ x. and_then x go) (sym e)

pub neg_gives : (fs : List Function) (leaf : Reads) (line steps : ℕ) (e o o' : Expr) (v : ℤ) (n : ℕ)
    (answer : Answer ℤ) → expr_tree e ≡ neg (expr_tree o) → o' ≡ o →
    gives v n ≡ eval fs leaf line (expr_tree o') steps → answer ≡ within I64 Overflow line (neg_ℤ v) n →
    answer ≡ eval fs leaf line (expr_tree e) steps
neg_gives fs leaf line steps e o o' v n answer shape same given last =
    last ∙ sym (ap (λ x. eval fs leaf line x steps) shape
    ∙ and_then_gives (eval fs leaf line (expr_tree o) steps) v n
    (λ x count. within I64 Overflow line (neg_ℤ x) count) (given
    ∙ ap (λ x. eval fs leaf line (expr_tree x) steps) same))

pub binary_gives : (fs : List Function) (leaf : Reads) (line steps : ℕ) (op : BinOp) (e a b a' b' : Expr) (x : ℤ)
    (n : ℕ) (y : ℤ) (m : ℕ) (answer : Answer ℤ) → expr_tree e ≡ binary op (expr_tree a) (expr_tree b) → a' ≡ a →
    b' ≡ b → gives x n ≡ eval fs leaf line (expr_tree a') steps → gives y m ≡ eval fs leaf line (expr_tree b') n →
    answer ≡ operate op line x y m → answer ≡ eval fs leaf line (expr_tree e) steps
binary_gives fs leaf line steps op e a b a' b' x n y m answer shape same_a same_b first second last =
    last ∙ sym (ap (λ t. eval fs leaf line t steps) shape
    ∙ and_then_gives (eval fs leaf line (expr_tree a) steps) x n
    (λ v count. and_then (eval fs leaf line (expr_tree b) count) (λ w end. operate op line v w end)) (first
    ∙ ap (λ t. eval fs leaf line (expr_tree t) steps) same_a)
    ∙ and_then_gives (eval fs leaf line (expr_tree b) n) y m (λ w end. operate op line x w end) (second
    ∙ ap (λ t. eval fs leaf line (expr_tree t) n) same_b))

pub binary_sticks : (fs : List Function) (leaf : Reads) (line steps : ℕ) (op : BinOp) (e a b a' b' : Expr) (x : ℤ)
    (n : ℕ) (at : Stuck) → expr_tree e ≡ binary op (expr_tree a) (expr_tree b) → a' ≡ a → b' ≡ b →
    gives x n ≡ eval fs leaf line (expr_tree a') steps → sticks at ≡ eval fs leaf line (expr_tree b') n →
    sticks at ≡ eval fs leaf line (expr_tree e) steps
binary_sticks fs leaf line steps op e a b a' b' x n at shape same_a same_b first second =
    sym (ap (λ t. eval fs leaf line t steps) shape
    ∙ and_then_gives (eval fs leaf line (expr_tree a) steps) x n
    (λ v count. and_then (eval fs leaf line (expr_tree b) count) (λ w end. operate op line v w end)) (first
    ∙ ap (λ t. eval fs leaf line (expr_tree t) steps) same_a)
    ∙ and_then_sticks (eval fs leaf line (expr_tree b) n) at (λ w end. operate op line x w end) (second
    ∙ ap (λ t. eval fs leaf line (expr_tree t) n) same_b))

pub item_read : (fs : List Function) (leaf : Reads) (line steps f : ℕ) (e o o' : Expr) (x : ℤ) (n : ℕ)
    (answer : Answer ℤ) → expr_tree e ≡ item f (expr_tree o) → o' ≡ o →
    gives x n ≡ eval fs leaf line (expr_tree o') steps →
    answer ≡ and_then (index_in line (leaf.array f) x n) (λ i count. gives (int_at (leaf.array f) i) count) →
    answer ≡ eval fs leaf line (expr_tree e) steps
item_read fs leaf line steps f e o o' x n answer shape same given last =
    last ∙ sym (ap (λ t. eval fs leaf line t steps) shape
    ∙ ap (λ a. and_then a (λ i count. gives (int_at (leaf.array f) i) count))
    (and_then_gives (eval fs leaf line (expr_tree o) steps) x n (index_in line (leaf.array f)) (given
    ∙ ap (λ t. eval fs leaf line (expr_tree t) steps) same)))

pub pick_gives : (fs : List Function) (leaf : Reads) (line steps : ℕ) (e a b c' : Expr) (test test' : Cond)
    (holds : Bool) (n : ℕ) (answer : Answer ℤ) → expr_tree e ≡ pick (cond_tree test) (expr_tree a) (expr_tree b) →
    test' ≡ test → c' ≡ (if holds then a else b) → gives holds n ≡ eval_cond fs leaf line (cond_tree test') steps →
    answer ≡ eval fs leaf line (expr_tree c') n → answer ≡ eval fs leaf line (expr_tree e) steps
pick_gives fs leaf line steps e a b c' test test' true n answer shape same_test same given last =
    last ∙ ap (λ t. eval fs leaf line (expr_tree t) n) same
    ∙ sym (ap (λ t. eval fs leaf line t steps) shape
    ∙ and_then_gives (eval_cond fs leaf line (cond_tree test) steps) true n (λ holds. if holds
    then eval fs leaf line (expr_tree a) else eval fs leaf line (expr_tree b)) (given
    ∙ ap (λ t. eval_cond fs leaf line (cond_tree t) steps) same_test))
pick_gives fs leaf line steps e a b c' test test' false n answer shape same_test same given last =
    last ∙ ap (λ t. eval fs leaf line (expr_tree t) n) same
    ∙ sym (ap (λ t. eval fs leaf line t steps) shape
    ∙ and_then_gives (eval_cond fs leaf line (cond_tree test) steps) false n (λ holds. if holds
    then eval fs leaf line (expr_tree a) else eval fs leaf line (expr_tree b)) (given
    ∙ ap (λ t. eval_cond fs leaf line (cond_tree t) steps) same_test))

pub compare_gives : (fs : List Function) (leaf : Reads) (line steps : ℕ) (how : Compare) (e : Cond) (a b a' b' : Expr)
    (x : ℤ) (n : ℕ) (y : ℤ) (m : ℕ) (answer : Answer Bool) → cond_tree e ≡ compare how (expr_tree a) (expr_tree b) →
    a' ≡ a → b' ≡ b → gives x n ≡ eval fs leaf line (expr_tree a') steps →
    gives y m ≡ eval fs leaf line (expr_tree b') n → answer ≡ gives (compares how x y) m →
    answer ≡ eval_cond fs leaf line (cond_tree e) steps
compare_gives fs leaf line steps how e a b a' b' x n y m answer shape same_a same_b first second last =
    last ∙ sym (ap (λ t. eval_cond fs leaf line t steps) shape
    ∙ and_then_gives (eval fs leaf line (expr_tree a) steps) x n
    (λ v count. and_then (eval fs leaf line (expr_tree b) count) (λ w end. gives (compares how v w) end)) (first
    ∙ ap (λ t. eval fs leaf line (expr_tree t) steps) same_a)
    ∙ and_then_gives (eval fs leaf line (expr_tree b) n) y m (λ w end. gives (compares how x w) end) (second
    ∙ ap (λ t. eval fs leaf line (expr_tree t) n) same_b))

pub compare_sticks : (fs : List Function) (leaf : Reads) (line steps : ℕ) (how : Compare) (e : Cond) (a b a' b' : Expr)
    (x : ℤ) (n : ℕ) (at : Stuck) → cond_tree e ≡ compare how (expr_tree a) (expr_tree b) → a' ≡ a → b' ≡ b →
    gives x n ≡ eval fs leaf line (expr_tree a') steps → sticks at ≡ eval fs leaf line (expr_tree b') n →
    sticks at ≡ eval_cond fs leaf line (cond_tree e) steps
compare_sticks fs leaf line steps how e a b a' b' x n at shape same_a same_b first second =
    sym (ap (λ t. eval_cond fs leaf line t steps) shape
    ∙ and_then_gives (eval fs leaf line (expr_tree a) steps) x n
    (λ v count. and_then (eval fs leaf line (expr_tree b) count) (λ w end. gives (compares how v w) end)) (first
    ∙ ap (λ t. eval fs leaf line (expr_tree t) steps) same_a)
    ∙ and_then_sticks (eval fs leaf line (expr_tree b) n) at (λ w end. gives (compares how x w) end) (second
    ∙ ap (λ t. eval fs leaf line (expr_tree t) n) same_b))

pub both_goes_on : (fs : List Function) (leaf : Reads) (line steps : ℕ) (e a b a' b' : Cond) (n : ℕ)
    (answer : Answer Bool) → cond_tree e ≡ both (cond_tree a) (cond_tree b) → a' ≡ a → b' ≡ b →
    gives true n ≡ eval_cond fs leaf line (cond_tree a') steps → answer ≡ eval_cond fs leaf line (cond_tree b') n →
    answer ≡ eval_cond fs leaf line (cond_tree e) steps
both_goes_on fs leaf line steps e a b a' b' n answer shape same_a same_b first last =
    last ∙ ap (λ t. eval_cond fs leaf line (cond_tree t) n) same_b
    ∙ sym (ap (λ t. eval_cond fs leaf line t steps) shape
    ∙ and_then_gives (eval_cond fs leaf line (cond_tree a) steps) true n (λ holds. if holds
    then eval_cond fs leaf line (cond_tree b) else gives false) (first
    ∙ ap (λ t. eval_cond fs leaf line (cond_tree t) steps) same_a))

pub both_ends : (fs : List Function) (leaf : Reads) (line steps : ℕ) (e a b a' : Cond) (n : ℕ) (answer : Answer Bool) →
    cond_tree e ≡ both (cond_tree a) (cond_tree b) → a' ≡ a →
    gives false n ≡ eval_cond fs leaf line (cond_tree a') steps → answer ≡ gives false n →
    answer ≡ eval_cond fs leaf line (cond_tree e) steps
both_ends fs leaf line steps e a b a' n answer shape same_a first last =
    last ∙ sym (ap (λ t. eval_cond fs leaf line t steps) shape
    ∙ and_then_gives (eval_cond fs leaf line (cond_tree a) steps) false n (λ holds. if holds
    then eval_cond fs leaf line (cond_tree b) else gives false) (first
    ∙ ap (λ t. eval_cond fs leaf line (cond_tree t) steps) same_a))

pub either_goes_on : (fs : List Function) (leaf : Reads) (line steps : ℕ) (e a b a' b' : Cond) (n : ℕ)
    (answer : Answer Bool) → cond_tree e ≡ either (cond_tree a) (cond_tree b) → a' ≡ a → b' ≡ b →
    gives false n ≡ eval_cond fs leaf line (cond_tree a') steps → answer ≡ eval_cond fs leaf line (cond_tree b') n →
    answer ≡ eval_cond fs leaf line (cond_tree e) steps
either_goes_on fs leaf line steps e a b a' b' n answer shape same_a same_b first last =
    last ∙ ap (λ t. eval_cond fs leaf line (cond_tree t) n) same_b
    ∙ sym (ap (λ t. eval_cond fs leaf line t steps) shape
    ∙ and_then_gives (eval_cond fs leaf line (cond_tree a) steps) false n (λ holds. if holds then gives true
    else eval_cond fs leaf line (cond_tree b)) (first
    ∙ ap (λ t. eval_cond fs leaf line (cond_tree t) steps) same_a))

pub negated_gives : (fs : List Function) (leaf : Reads) (line steps : ℕ) (e a a' : Cond) (holds : Bool) (n : ℕ)
    (answer : Answer Bool) → cond_tree e ≡ negated (cond_tree a) → a' ≡ a →
    gives holds n ≡ eval_cond fs leaf line (cond_tree a') steps → answer ≡ gives (not holds) n →
    answer ≡ eval_cond fs leaf line (cond_tree e) steps
negated_gives fs leaf line steps e a a' holds n answer shape same_a first last =
    last ∙ sym (ap (λ t. eval_cond fs leaf line t steps) shape
    ∙ and_then_gives (eval_cond fs leaf line (cond_tree a) steps) holds n (λ holds count. gives (not holds) count)
    (first ∙ ap (λ t. eval_cond fs leaf line (cond_tree t) steps) same_a))

pub drop_at : (xs : List Expr) (j : ℕ) (x : Expr) → j < length xs → x ≡ get_or xs j x → drop j xs ≡ x ∷ drop (j + 1) xs
drop_at [] j x h e = absurd (omega arith)
drop_at (y ∷ ys) zero x h e = ap (λ z. z ∷ ys) (sym e)
drop_at (y ∷ ys) (suc j) x h e = simp unary_clauses (simp unary_clauses at (drop_at ys j x (omega arith) e))

pub again : (k : ℕ) (out now : List ℤ) (v : ℤ) (a : Answer (List ℤ)) → k < length out → now ≡ set out k v →
    and_then (and_then a (λ vs end. gives (v ∷ vs) end)) (λ vs end. gives (take k out ++ vs) end)
    ≡ and_then a (λ vs end. gives (take (k + 1) now ++ vs) end)
again k out now v (gives vs end) inside is =
    ap (λ ws. gives ws end)
    (sym (ap (λ ws. ws ++ vs) (ap (take (k + 1)) is ∙ take_set out k v inside) ∙ append_assoc (take k out) (v ∷ []) vs))
again k out now v (sticks at) inside is = refl

-- one more argument
pub eval_all_more : (fs : List Function) (leaf : Reads) (line start steps m : ℕ) (all : ExprTrees) (es : List Expr)
    (k : ℕ) (e : Expr) (out now : List ℤ) (v : ℤ) → k < length es → k < length out → e ≡ get_or es k e →
    now ≡ set out k v → gives v m ≡ eval fs leaf line (expr_tree e) steps →
    eval_all fs leaf line all start ≡ and_then (eval_all fs leaf line (exprs_of_list (map expr_tree (drop k es))) steps)
    (λ vs end. gives (take k out ++ vs) end) →
    eval_all fs leaf line all start
    ≡ and_then (eval_all fs leaf line (exprs_of_list (map expr_tree (drop (k + 1) es))) m)
    (λ vs end. gives (take (k + 1) now ++ vs) end)
eval_all_more fs leaf line start steps m all es k e out now v h inside there is given before =
    before ∙ ap (λ xs. and_then (eval_all fs leaf line (exprs_of_list (map expr_tree xs)) steps)
    (λ vs end. gives (take k out ++ vs) end)) (drop_at es k e h there)
    ∙ ap (λ a.
    and_then
    (and_then a (λ x count. and_then (eval_all fs leaf line (exprs_of_list (map expr_tree (drop (k + 1) es))) count)
    (λ vs end. gives (x ∷ vs) end))) (λ vs end. gives (take k out ++ vs) end)) (sym given)
    ∙ again k out now v (eval_all fs leaf line (exprs_of_list (map expr_tree (drop (k + 1) es))) m) inside is

pub narrow_more : (es : List Expr) (k : ℕ) → k < length es →
    AreNarrowExprs (exprs_of_list (map expr_tree (drop k es))) →
    AreNarrowExprs (exprs_of_list (map expr_tree (drop (k + 1) es)))
narrow_more [] k h narrow = absurd (omega arith)
narrow_more (e ∷ es) zero h narrow = narrow.1
narrow_more (e ∷ es) (suc k) h narrow = simp unary_clauses (simp unary_clauses at (narrow_more es k (omega arith) narrow))

-- the functions of a list
functions-before : (earlier : List Function) (ps : List PureTree) (k : ℕ) → k < length earlier →
    function_at (functions_of earlier ps) k ≡ function_at earlier k
functions-before earlier [] k h = refl
functions-before earlier (p ∷ ps) k h =
    functions-before (earlier ++ function_of earlier p ∷ []) ps k
    (omega (arith, length-append earlier (function_of earlier p ∷ [])))
    ∙ get_or_append_left earlier (function_of earlier p ∷ []) (λ values steps. gives (pos 0) steps) k h

functions-at : (earlier : List Function) (ps : List Pure) (j : ℕ) (p : Pure) → j < length ps → p ≡ get_or ps j p →
    function_at (functions_of earlier (map pure_tree ps)) (length earlier + j)
    ≡ function_of (functions_of earlier (map pure_tree (take j ps))) (pure_tree p)
functions-at earlier [] j p h there = absurd (omega arith)
functions-at earlier (q ∷ ps) zero p h there =
    let f : Function = function_of earlier (pure_tree q) in
    rw add-zero
    (functions-before (earlier ++ f ∷ []) (map pure_tree ps) (length earlier)
    (omega (arith, length-append earlier (f ∷ [])))
    ∙ get_or-append_seam earlier f [] (λ values steps. gives (pos 0) steps)
    ∙ ap (λ x. function_of earlier (pure_tree x)) (sym there))
functions-at earlier (q ∷ ps) (suc j) p h there =
    let f : Function = function_of earlier (pure_tree q) in
    let e : length (earlier ++ f ∷ []) + j ≡ length earlier + suc j = omega (arith, length-append earlier (f ∷ [])) in
    subst (λ n. function_at (functions_of (earlier ++ f ∷ []) (map pure_tree ps)) n
    ≡ function_of (functions_of (earlier ++ f ∷ []) (map pure_tree (take j ps))) (pure_tree p)) e
    (functions-at (earlier ++ f ∷ []) ps j p (omega arith) there)

functions-past : (earlier : List Function) (ps : List Pure) (j : ℕ) → length ps ≤ j →
    function_at (functions_of earlier (map pure_tree ps)) (length earlier + j) ≡ (λ values steps. gives (pos 0) steps)
functions-past earlier [] j there = past earlier j
  where
    past : (xs : List Function) (n : ℕ) → function_at xs (length xs + n) ≡ (λ values steps. gives (pos 0) steps)
    past [] n = refl
    past (x ∷ xs) n = let e : length (x ∷ xs) + n ≡ suc (length xs + n) = omega arith in rw e (past xs n)
functions-past earlier (q ∷ ps) zero there = absurd (omega arith)
functions-past earlier (q ∷ ps) (suc j) there =
    let f : Function = function_of earlier (pure_tree q) in
    let e : length (earlier ++ f ∷ []) + j ≡ length earlier + suc j = omega (arith, length-append earlier (f ∷ [])) in
    subst (λ n. function_at (functions_of (earlier ++ f ∷ []) (map pure_tree ps)) n
    ≡ (λ values steps. gives (pos 0) steps)) e (functions-past (earlier ++ f ∷ []) ps j (omega arith))

pub function_there : (ps : List Pure) (k : ℕ) (p : Pure) → k < length ps → p ≡ get_or ps k p →
    function_at (functions_of [] (map pure_tree ps)) k
    ≡ function_of (functions_of [] (map pure_tree (take k ps))) (pure_tree p)
function_there ps k p h there = rw zero-add at (functions-at [] ps k p h there)

pub function_past : (ps : List Pure) (k : ℕ) → length ps ≤ k →
    function_at (functions_of [] (map pure_tree ps)) k ≡ (λ values steps. gives (pos 0) steps)
function_past ps k there = rw zero-add at (functions-past [] ps k there)

-- what a pure function's body reads
pub plain_reads : (v : View) → v.slots.now ≡ [] → view_reads v ≡ reads v.values.now no_cells
plain_reads v none = λ i. record { leaf = fun_ext (λ leaf. at_leaf leaf) i; array = fun_ext (λ f. at_array f) i }
  where
    at_array : (f : ℕ) → view_array v f ≡ items_at no_cells f
    at_array f = ap (λ xs. items_in v.numbers.now (slice_get xs f)) none

    at_leaf : (leaf : Leaf) → view_leaf v leaf ≡ leaf_reads v.values.now no_cells leaf
    at_leaf (Param k) = refl
    at_leaf (Own f) = ap (λ xs. number_in v.numbers.now (slice_get xs f)) none
    at_leaf (Child f g) = ap (λ xs. number_under v.layouts.now v.numbers.now (slice_get xs f) g) none

-- a body after its step
pub function_gives : (fs : List Function) (p : PureTree) (values : List ℤ) (steps n : ℕ) (leaf : Reads)
    (answer : Answer ℤ) → leaf ≡ reads values no_cells → gives (tt {0}) n ≡ take_step p.line steps (gives (tt {0})) →
    answer ≡ eval fs leaf p.line p.body n → answer ≡ function_of fs p values steps
function_gives fs p values steps n leaf answer same step last =
    last ∙ ap (λ l. eval fs l p.line p.body n) same ∙ sym (by_test (nat_lt steps step_limit) step)
  where
    by_test : (b : Bool) →
        gives (tt {0}) n ≡ (if b then gives (tt {0}) (steps + 1) else sticks (stuck_at p.line Steps)) →
        (if b then eval fs (reads values no_cells) p.line p.body (steps + 1) else sticks (stuck_at p.line Steps))
        ≡ eval fs (reads values no_cells) p.line p.body n
    by_test true h = let e : n ≡ steps + 1 = cc in ap (eval fs (reads values no_cells) p.line p.body) (sym e)
    by_test false h = absurd (cc)

pub function_sticks : (fs : List Function) (p : PureTree) (values : List ℤ) (steps : ℕ) (at : Stuck) →
    sticks at ≡ take_step p.line steps (gives (tt {0})) → sticks at ≡ function_of fs p values steps
function_sticks fs p values steps at step = by_test (nat_lt steps step_limit) step
  where
    by_test : (b : Bool) → sticks at ≡ (if b then gives (tt {0}) (steps + 1) else sticks (stuck_at p.line Steps)) →
        sticks at
        ≡ (if b then eval fs (reads values no_cells) p.line p.body (steps + 1) else sticks (stuck_at p.line Steps))
    by_test true h = absurd (cc)
    by_test false h = let e : at ≡ stuck_at p.line Steps = cc in ap sticks e
