-- What a body's expressions read.
use Rattle.std.proofs.Common.{Bool, ◌≡◌, sym, ◌∙◌, ap, ℕ, zero, suc, ◌+◌, ◌<◌, ℤ, List, [], ◌∷◌, ◌++◌, length, arith, take, drop, map, slice_get, get_or}
use Rattle.std.specs.Prelude.{pos, replicate}
use Rattle.std.proofs.Math.ListN.{set}
use Rattle.std.proofs.lemmas.List.{length-replicate}
use Rattle.std.proofs.Math.Path.{fun_ext}
use native.Mathlib.Numerals.{unary_clauses}
use Rattle.c_syntax.specs.declared.code.CType.{CType}
use Rattle.c_syntax.specs.declared.code.Expr.{Expr}
use Rattle.c_syntax.specs.declared.code.Leaf.{Leaf}
use Rattle.c_syntax.specs.declared.code.Leaf.TheVariants.{Param, Own, Child}
use Rattle.c_syntax.specs.declared.fault.Stuck.{Stuck}
use Rattle.c_syntax.specs.declared.fault.Why.TheVariants.{Range}
use Rattle.c_syntax.specs.declared.program.Pure.{Pure}
use Rattle.c_syntax.specs.Tree.{ExprTree, CondTree, ProgramTree, exprs_of_list}
use Rattle.c_syntax.specs.Plain.{expr_tree, pure_tree}
use Rattle.c_semantics.specs.Machine.{arguments}
use Rattle.c_semantics.specs.Values.{Answer, gives, sticks, and_then, within, Function, functions_of, eval, eval_cond, Reads, leaf_reads, reads}
use Rattle.base_core.specs.declared.text.Text.{Text}
use Rattle.c_interpreter.specs.declared.values.View.{View}
use Rattle.c_semantics.specs.Cells.{items_at}
use Rattle.c_interpreter.specs.Reads.{view_leaf, view_array, view_reads, view_functions}
use Rattle.c_interpreter.specs.declared.slots.Slot.{Slot}
use Rattle.c_interpreter.specs.Slots.{StructLayout, layout_at, items_in}
use Rattle.c_interpreter.specs.Sound.{IsReady, zero_at, zeros_of}
use Rattle.c_interpreter.specs.States.{filled, filled_items}
use Rattle.c_interpreter.proofs.Places.{own_is, under_is, array_is}
use Rattle.c_interpreter.proofs.Evaluations.{drop_at, again}
use Rattle.c_interpreter.proofs.Items.{items_length}

pub frame_reads : (p : ProgramTree) (layouts : List StructLayout) (logged : List Bool) (v : View) (of : ℕ)
    (values s : List ℤ) → IsReady p layouts logged → v.layouts.now ≡ layouts →
    v.slots.now ≡ (layout_at layouts of).slots → v.numbers.now ≡ s → v.values.now ≡ values →
    view_reads v ≡ reads values (filled (zero_at p of) s)
frame_reads p layouts logged v of values s ready same_layouts same_slots same_numbers same_values =
    λ i. record { leaf = fun_ext (λ leaf. at_leaf leaf) i; array = fun_ext (λ f. at_array f) i }
  where
    at_array : (f : ℕ) → view_array v f ≡ items_at (filled (zero_at p of) s) f
    at_array f = (λ i. Rattle.c_interpreter.specs.Slots.items_in (same_numbers i) (slice_get (same_slots i) f))
        ∙ sym (array_is p.structs layouts (zeros_of p) ready.laid of s f)

    at_leaf : (leaf : Leaf) → view_leaf v leaf ≡ leaf_reads values (filled (zero_at p of) s) leaf
    at_leaf (Param k) = λ i. Rattle.base_core.specs.Numbers.int_at (same_values i) k
    at_leaf (Own f) = (λ i. Rattle.c_interpreter.specs.Slots.number_in (same_numbers i) (slice_get (same_slots i) f))
        ∙ sym (own_is p.structs layouts (zeros_of p) ready.laid of s f)
    at_leaf (Child f g) =
        (λ i. Rattle.c_interpreter.specs.Slots.number_under (same_layouts i) (same_numbers i)
        (slice_get (same_slots i) f) g) ∙ sym (under_is p.structs layouts (zeros_of p) ready.laid of s f g)

pub eval_same : (v : View) (pures : List Pure) (line steps : ℕ) (e : ExprTree) (leaf : Reads) (answer : Answer ℤ) →
    v.pures.now ≡ pures → v.line ≡ line → view_reads v ≡ leaf →
    answer ≡ eval (view_functions v) (view_reads v) v.line e steps →
    answer ≡ eval (functions_of [] (map pure_tree pures)) leaf line e steps
eval_same v pures line steps e leaf answer a b c given = given ∙ (λ i. eval (functions_of [] (map pure_tree (a i))) (c i) (b i) e steps)

pub eval_cond_same : (v : View) (pures : List Pure) (line steps : ℕ) (e : CondTree) (leaf : Reads)
    (answer : Answer Bool) → v.pures.now ≡ pures → v.line ≡ line → view_reads v ≡ leaf →
    answer ≡ eval_cond (view_functions v) (view_reads v) v.line e steps →
    answer ≡ eval_cond (functions_of [] (map pure_tree pures)) leaf line e steps
eval_cond_same v pures line steps e leaf answer a b c given =
    given ∙ (λ i. eval_cond (functions_of [] (map pure_tree (a i))) (c i) (b i) e steps)

drop_param : (xs : List (Text × CType)) (j : ℕ) (x : Text × CType) → j < length xs → x ≡ get_or xs j x → drop j xs ≡ x ∷ drop (j + 1) xs
drop_param [] j x h there = absurd (omega arith)
drop_param (y ∷ ys) zero x h there = ap (λ z. z ∷ ys) (sym there)
drop_param (y ∷ ys) (suc j) x h there = simp unary_clauses (simp unary_clauses at (drop_param ys j x (omega arith) there))

-- one more argument
pub arguments_more : (fs : List Function) (leaf : Reads) (line start steps m : ℕ) (whole : Answer (List ℤ))
    (ps : List (Text × CType)) (es : List Expr) (k : ℕ) (q : Text × CType) (e : Expr) (out now : List ℤ) (v : ℤ) →
    k < length ps → k < length es → k < length out → q ≡ get_or ps k q → e ≡ get_or es k e → now ≡ set out k v →
    gives v m ≡ and_then (eval fs leaf line (expr_tree e) steps) (within (get_or ps k q).1 Range line) →
    whole ≡ and_then
    (arguments fs leaf line (map (λ x. x.1) (drop k ps)) (exprs_of_list (map expr_tree (drop k es))) steps)
    (λ vs end. gives (take k out ++ vs) end) →
    whole ≡ and_then
    (arguments fs leaf line (map (λ x. x.1) (drop (k + 1) ps)) (exprs_of_list (map expr_tree (drop (k + 1) es))) m)
    (λ vs end. gives (take (k + 1) now ++ vs) end)
arguments_more fs leaf line start steps m whole ps es k q e out now v hp he inside there_q there_e is given before =
    before ∙ (λ i.
    and_then
    (arguments fs leaf line (map (λ x. x.1) (drop_param ps k q hp there_q i))
    (exprs_of_list (map expr_tree (drop_at es k e he there_e i))) steps) (λ vs end. gives (take k out ++ vs) end))
    ∙ ap (λ a.
    and_then
    (and_then a
    (λ x count.
    and_then
    (arguments fs leaf line (map (λ y. y.1) (drop (k + 1) ps)) (exprs_of_list (map expr_tree (drop (k + 1) es)))
    count) (λ vs end. gives (x ∷ vs) end))) (λ vs end. gives (take k out ++ vs) end))
    (sym (given ∙ (λ i. and_then (eval fs leaf line (expr_tree e) steps) (within (sym there_q i).1 Range line))))
    ∙ again k out now v
    (arguments fs leaf line (map (λ x. x.1) (drop (k + 1) ps)) (exprs_of_list (map expr_tree (drop (k + 1) es))) m)
    inside is

-- the argument where it is stuck
pub arguments_stop : (fs : List Function) (leaf : Reads) (line steps : ℕ) (whole : Answer (List ℤ))
    (ps : List (Text × CType)) (es : List Expr) (k : ℕ) (q : Text × CType) (e : Expr) (out : List ℤ) (at : Stuck) →
    k < length ps → k < length es → q ≡ get_or ps k q → e ≡ get_or es k e →
    sticks at ≡ and_then (eval fs leaf line (expr_tree e) steps) (within (get_or ps k q).1 Range line) →
    whole ≡ and_then
    (arguments fs leaf line (map (λ x. x.1) (drop k ps)) (exprs_of_list (map expr_tree (drop k es))) steps)
    (λ vs end. gives (take k out ++ vs) end) → sticks at ≡ whole
arguments_stop fs leaf line steps whole ps es k q e out at hp he there_q there_e given before =
    sym (before
    ∙ (λ i. and_then
    (arguments fs leaf line (map (λ x. x.1) (drop_param ps k q hp there_q i))
    (exprs_of_list (map expr_tree (drop_at es k e he there_e i))) steps) (λ vs end. gives (take k out ++ vs) end))
    ∙ ap (λ a.
    and_then
    (and_then a
    (λ x count.
    and_then
    (arguments fs leaf line (map (λ y. y.1) (drop (k + 1) ps)) (exprs_of_list (map expr_tree (drop (k + 1) es)))
    count) (λ vs end. gives (x ∷ vs) end))) (λ vs end. gives (take k out ++ vs) end))
    (sym (given ∙ (λ i. and_then (eval fs leaf line (expr_tree e) steps) (within (sym there_q i).1 Range line)))))

-- how many items an own array has
pub items_many : (p : ProgramTree) (layouts : List StructLayout) (logged : List Bool) (of f at count : ℕ)
    (slots : List Slot) (s : List ℤ) → IsReady p layouts logged → slots ≡ (layout_at layouts of).slots →
    items_in s (slice_get slots f) ≡ filled_items (replicate count (pos 0)) (drop at s) →
    length (items_at (filled (zero_at p of) s) f) ≡ count
items_many p layouts logged of f at count slots s ready same is =
    ap length (array_is p.structs layouts (zeros_of p) ready.laid of s f ∙ (λ i. items_in s (slice_get (sym same i) f))
    ∙ is) ∙ items_length (replicate count (pos 0)) (drop at s) ∙ length-replicate count (pos 0)
