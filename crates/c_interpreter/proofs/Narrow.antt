-- Calls with few arguments.
use Rattle.std.proofs.Common.{◌≡◌, ℕ, zero, suc, ◌<◌, List, [], ◌∷◌, length, arith, take, drop, map, refl, ap, sym, ◌∙◌, get_or, subst, ℤ, Vec}
use Rattle.std.specs.declared.alloc.Global.{Global}
use Rattle.c_syntax.specs.declared.code.Cond.TheViews as views
use Rattle.c_syntax.proofs.lemmas.PlainLaws.{expr_tree-Pure}
use Rattle.c_semantics.specs.Values.{Answer, Function, Reads, eval}
use Rattle.c_syntax.specs.declared.code.Expr.{Expr}
use Rattle.c_syntax.specs.declared.program.Pure.{Pure}
use Rattle.c_syntax.specs.Tree.{pure, exprs_of_list}
use Rattle.c_syntax.specs.Lawful.{exprs_length}
use Rattle.c_syntax.specs.Plain.{expr_tree, pure_tree}
use Rattle.c_interpreter.specs.Reads.{IsNarrowExpr, AreNarrowExprs, AreNarrow}

pub exprs_length-list : (es : List Expr) → exprs_length (exprs_of_list (map expr_tree es)) ≡ length es
exprs_length-list [] = refl
exprs_length-list (e ∷ es) = omega (arith, exprs_length-list es)

pub pures_take : (ps : List Pure) (k : ℕ) → AreNarrow (map pure_tree ps) → AreNarrow (map pure_tree (take k ps))
pures_take [] zero narrow = tt
pures_take [] (suc k) narrow = tt
pures_take (p ∷ ps) zero narrow = tt
pures_take (p ∷ ps) (suc k) narrow = (narrow.0, pures_take ps k narrow.1)

pub pures_at : (ps : List Pure) (k : ℕ) (p : Pure) → k < length ps → p ≡ get_or ps k p → AreNarrow (map pure_tree ps) →
    IsNarrowExpr (expr_tree p.body)
pures_at [] k p h there narrow = absurd (omega arith)
pures_at (q ∷ ps) zero p h there narrow = subst (λ (x : Pure). IsNarrowExpr (expr_tree x.body)) (sym there) narrow.0
pures_at (q ∷ ps) (suc k) p h there narrow = pures_at ps k p (omega arith) there narrow.1

pub exprs_here : (es : List Expr) (k : ℕ) (e : Expr) → k < length es → e ≡ get_or es k e →
    AreNarrowExprs (exprs_of_list (map expr_tree (drop k es))) → IsNarrowExpr (expr_tree e)
exprs_here [] k e h there narrow = absurd (omega arith)
exprs_here (x ∷ es) zero e h there narrow = subst (λ (y : Expr). IsNarrowExpr (expr_tree y)) (sym there) narrow.0
exprs_here (x ∷ es) (suc k) e h there narrow = exprs_here es k e (omega arith) there narrow

pub pure_narrow : (e : Expr) (k : ℕ) (values : Vec Expr Global) (items : List Expr) → e ≡ views.Pure k values →
    items ≡ values.items → IsNarrowExpr (expr_tree e) → IsNarrowExpr (pure k (exprs_of_list (map expr_tree items)))
pure_narrow e k values items is same narrow =
    subst IsNarrowExpr (ap expr_tree is ∙ expr_tree-Pure k values ∙ ap (λ xs. pure k (exprs_of_list (map expr_tree xs))) (sym same)) narrow

pub pure_gives : (fs : List Function) (leaf : Reads) (line steps : ℕ) (e : Expr) (k : ℕ) (values : Vec Expr Global)
    (items : List Expr) (answer : Answer ℤ) → e ≡ views.Pure k values → items ≡ values.items →
    answer ≡ eval fs leaf line (pure k (exprs_of_list (map expr_tree items))) steps →
    answer ≡ eval fs leaf line (expr_tree e) steps
pure_gives fs leaf line steps e k values items answer is same given =
    given ∙ sym
    (ap (λ t. eval fs leaf line t steps) (ap expr_tree is ∙ expr_tree-Pure k values
    ∙ ap (λ xs. pure k (exprs_of_list (map expr_tree xs))) (sym same)))
