-- Statements that are turned round: which is the first, what they keep, and what becomes of two neighbours.
use Rattle.std.specs.Prelude.{◌≡◌, ◌≢◌, ℕ, zero, suc, ◌-◌, ◌<◌, ◌≤◌, max, ◌&&◌, Bool, true, false, if◌then◌else◌, List, [], ◌∷◌, ◌++◌, length}
use Rattle.std.proofs.Common.{refl, sym, ap, ◌∙◌, arith, drop, take, get_or}
use Rattle.std.proofs.lemmas.List.{append-nil}
use Rattle.c_syntax.specs.Limits.{stmt_depth, stmts_depth}
use Rattle.c_syntax.specs.declared.code.Stmt.{Stmt}
use Rattle.c_syntax.specs.Tree.{CondTree, StmtTree, assign, assign_at, branch, call, StmtTrees, no_stmts, more_stmts, stmts_append}
use Rattle.c_syntax.specs.Plain.{cond_tree, stmt_tree}
use Rattle.emit_fused.specs.declared.choice.Choice.{Choice}
use Rattle.emit_fused.specs.declared.fusion.Fusion.{Fusion}
use Rattle.emit_fused.specs.declared.fusion.Fusion.TheVariants.{Apart, Straight, Crossed, Turned}
use Rattle.emit_fused.specs.Same.{same_cond, is_not_of, opposite}
use Rattle.emit_fused.specs.Kept.{stmt_keeps, stmts_keep, keep_test}
use Rattle.emit_fused.specs.Fused.{put_before, joined, where_fails, fused_stmt, fused_stmts}
use Rattle.emit_fused.specs.Turned.{turned_stmt, turned_onto, standing, turned, is_choice, on_true_of, is_decided}
use Rattle.emit_fused.specs.Fusion.{choice_tree, turned_choice, fusion_of, fused_as}

-- ---- The last statement is the first

turned-last : (xs : List Stmt) (s : Stmt) (later : StmtTrees) →
    turned_onto (standing (xs ++ s ∷ [])) later ≡ more_stmts (turned_stmt (stmt_tree s)) (turned_onto (standing xs) later)
turned-last [] s later = refl
turned-last (x ∷ xs) s later = turned-last xs s (more_stmts (turned_stmt (stmt_tree x)) later)

pub turned-push : (xs : List Stmt) (s : Stmt) → turned (xs ++ s ∷ []) ≡ more_stmts (turned_stmt (stmt_tree s)) (turned xs)
turned-push xs s = turned-last xs s no_stmts

-- ---- What is kept

shuffled : (a b c : Bool) → (b && (a && c)) ≡ ((a && b) && c)
shuffled true true c = refl
shuffled true false c = refl
shuffled false true c = refl
shuffled false false c = refl

with_true : (b : Bool) → (b && true) ≡ b
with_true true = refl
with_true false = refl

module _ (fields : List ℕ) where
  mutual
    stmt-turned : (s : StmtTree) → stmt_keeps fields (turned_stmt s) ≡ stmt_keeps fields s
    stmt-turned (assign line f e) = refl
    stmt-turned (assign_at line f index e) = refl
    stmt-turned (branch line test a b) =
        let one = onto-turned a no_stmts ∙ with_true (stmts_keep fields a) in
        let other = onto-turned b no_stmts ∙ with_true (stmts_keep fields b) in
        (λ i. one i && other i)
    stmt-turned (call line k target es) = refl

    onto-turned : (ss later : StmtTrees) →
        stmts_keep fields (turned_onto ss later) ≡ (stmts_keep fields ss && stmts_keep fields later)
    onto-turned no_stmts later = refl
    onto-turned (more_stmts s ss) later =
        onto-turned ss (more_stmts (turned_stmt s) later)
        ∙ ap (λ b. stmts_keep fields ss && (b && stmts_keep fields later)) (stmt-turned s)
        ∙ shuffled (stmt_keeps fields s) (stmts_keep fields ss) (stmts_keep fields later)

  pub turned_keeps : (xs : List Stmt) → stmts_keep fields (turned xs) ≡ stmts_keep fields (standing xs)
  turned_keeps xs = onto-turned (standing xs) no_stmts ∙ with_true (stmts_keep fields (standing xs))

-- ---- Neighbours

pub two-fused : (a b : Choice) (rest : StmtTrees) →
    put_before (turned_choice a) (more_stmts (turned_choice b) rest) ≡ fused_as (fusion_of a b) a b rest
two-fused a b rest =
    by (keep_test (cond_tree a.test) (turned a.yes.items) (turned a.no.items)) (same_cond (cond_tree a.test) (cond_tree b.test))
    (is_not_of (cond_tree b.test) (cond_tree a.test)) (is_not_of (cond_tree a.test) (cond_tree b.test))
  where
    by : (k s n m : Bool) →
        (if k && s then fused_as Straight a b rest else if k && n then fused_as Crossed a b rest
        else if k && m then fused_as Turned a b rest else fused_as Apart a b rest)
        ≡ fused_as (if k then (if s then Straight else if n then Crossed else if m then Turned else Apart) else Apart) a b rest
    by true true n m = refl
    by true false true m = refl
    by true false false true = refl
    by true false false false = refl
    by false s n m = refl

pub plain-before : (s : StmtTree) (ss : StmtTrees) → is_choice s ≡ false → put_before (turned_stmt s) ss ≡ more_stmts (turned_stmt s) ss
plain-before (assign line f e) ss h = refl
plain-before (assign_at line f index e) ss h = refl
plain-before (branch line test a b) ss h = absurd (let wrong : ⊥ = cc h in wrong)
plain-before (call line k target es) ss h = refl

pub before-plain : (a : Choice) (s : StmtTree) (rest : StmtTrees) → is_choice s ≡ false →
    put_before (turned_choice a) (more_stmts (turned_stmt s) rest) ≡ more_stmts (turned_choice a) (more_stmts (turned_stmt s) rest)
before-plain a (assign line f e) rest h = refl
before-plain a (assign_at line f index e) rest h = refl
before-plain a (branch line test c d) rest h = absurd (let wrong : ⊥ = cc h in wrong)
before-plain a (call line k target es) rest h = refl

-- ---- Statements that go before others one after another

-- the first of these is the last before the others
abbrev pub walked : List Stmt → StmtTrees → StmtTrees
walked [] later = later
walked (s ∷ ss) later = walked ss (put_before (turned_stmt (stmt_tree s)) later)

joined-onto : (ss : List Stmt) (before later : StmtTrees) → joined (turned_onto (standing ss) before) later ≡ walked ss (joined before later)
joined-onto [] before later = refl
joined-onto (s ∷ ss) before later = joined-onto ss (more_stmts (turned_stmt (stmt_tree s)) before) later

pub joined-walked : (ss : List Stmt) (later : StmtTrees) → joined (turned ss) later ≡ walked ss later
joined-walked ss later = joined-onto ss no_stmts later

-- ---- Tests that are decided

two-stay : (t : CondTree) (x y : StmtTree) (rest : StmtTrees) →
    where_fails t (more_stmts x (more_stmts y rest)) ≡ more_stmts x (more_stmts y rest)
two-stay t (assign line f e) y rest = refl
two-stay t (assign_at line f index e) y rest = refl
two-stay t (branch line test a no_stmts) y rest = refl
two-stay t (branch line test a (more_stmts z zs)) y rest = refl
two-stay t (call line k target es) y rest = refl

several-stay : (t : CondTree) (ss : StmtTrees) (x y : StmtTree) (rest : StmtTrees) →
    where_fails t (turned_onto ss (more_stmts x (more_stmts y rest))) ≡ turned_onto ss (more_stmts x (more_stmts y rest))
several-stay t no_stmts x y rest = two-stay t x y rest
several-stay t (more_stmts s ss) x y rest = several-stay t ss (turned_stmt s) x (more_stmts y rest)

-- an `else` with some statement
else-stays : (t : CondTree) (line : ℕ) (test : CondTree) (a ss : StmtTrees) (x : StmtTree) (xs : StmtTrees) →
    where_fails t (more_stmts (branch line test a (turned_onto ss (more_stmts x xs))) no_stmts)
    ≡ more_stmts (branch line test a (turned_onto ss (more_stmts x xs))) no_stmts
else-stays t line test a no_stmts x xs = refl
else-stays t line test a (more_stmts s ss) x xs = else-stays t line test a ss (turned_stmt s) (more_stmts x xs)

one-undecided : (t : CondTree) (x : StmtTree) → is_decided t (more_stmts x no_stmts) ≡ false →
    where_fails t (more_stmts (turned_stmt x) no_stmts) ≡ more_stmts (turned_stmt x) no_stmts
one-undecided t (assign line f e) h = refl
one-undecided t (assign_at line f index e) h = refl
one-undecided t (branch line test a no_stmts) h =
    ap (λ b. if b then turned_onto a no_stmts else more_stmts (branch line test (turned_onto a no_stmts) no_stmts) no_stmts) h
one-undecided t (branch line test a (more_stmts z zs)) h = else-stays t line test (turned_onto a no_stmts) zs (turned_stmt z) no_stmts
one-undecided t (call line k target es) h = refl

pub undecided : (t : CondTree) (xs : List Stmt) → is_decided t (standing xs) ≡ false → where_fails t (turned xs) ≡ turned xs
undecided t [] h = refl
undecided t (x ∷ []) h = one-undecided t (stmt_tree x) h
undecided t (x ∷ y ∷ xs) h =
    several-stay t (standing xs) (turned_stmt (stmt_tree y)) (turned_stmt (stmt_tree x)) no_stmts

pub two-undecided : (t : CondTree) (x y : StmtTree) (rest : StmtTrees) → is_decided t (more_stmts x (more_stmts y rest)) ≡ false
two-undecided t (assign line f e) y rest = refl
two-undecided t (assign_at line f index e) y rest = refl
two-undecided t (branch line test a no_stmts) y rest = refl
two-undecided t (branch line test a (more_stmts z zs)) y rest = refl
two-undecided t (call line k target es) y rest = refl

one-decided : (t : CondTree) (x : StmtTree) (others : StmtTrees) → is_decided t (more_stmts x no_stmts) ≡ true →
    where_fails t (more_stmts (turned_stmt x) no_stmts) ≡ turned_onto (on_true_of x others) no_stmts
one-decided t (branch line test a no_stmts) others h =
    ap (λ b. if b then turned_onto a no_stmts else more_stmts (branch line test (turned_onto a no_stmts) no_stmts) no_stmts) h
one-decided t (branch line test a (more_stmts z zs)) others h = absurd (let wrong : ⊥ = cc h in wrong)
one-decided t (assign line f e) others h = absurd (let wrong : ⊥ = cc h in wrong)
one-decided t (assign_at line f index e) others h = absurd (let wrong : ⊥ = cc h in wrong)
one-decided t (call line k target es) others h = absurd (let wrong : ⊥ = cc h in wrong)

pub last-decided : (t : CondTree) (xs : List Stmt) (s : Stmt) → is_decided t (standing (xs ++ s ∷ [])) ≡ true →
    where_fails t (turned (xs ++ s ∷ [])) ≡ turned_onto (on_true_of (stmt_tree s) (standing xs)) no_stmts
last-decided t [] s h = one-decided t (stmt_tree s) no_stmts h
last-decided t (x ∷ []) s h =
    absurd (let wrong : ⊥ = cc (h, two-undecided t (stmt_tree x) (stmt_tree s) no_stmts) in wrong)
last-decided t (x ∷ y ∷ xs) s h =
    absurd (let wrong : ⊥ = cc (h, two-undecided t (stmt_tree x) (stmt_tree y) (standing (xs ++ s ∷ []))) in wrong)

pub none-undecided : (t : CondTree) → is_decided t no_stmts ≡ false
none-undecided t = refl

-- other than one statement
pub not-one : (t : CondTree) (ss : List Stmt) → length ss ≢ 1 → is_decided t (standing ss) ≡ false
not-one t [] h = refl
not-one t (x ∷ []) h = absurd (h refl)
not-one t (x ∷ y ∷ ss) h = two-undecided t (stmt_tree x) (stmt_tree y) (standing ss)

pub just-one : (ss : List Stmt) (x : Stmt) → length ss ≡ 1 → x ≡ get_or ss 0 x → standing ss ≡ more_stmts (stmt_tree x) no_stmts
just-one [] x h read = absurd (omega (arith, h))
just-one (y ∷ []) x h read = ap (λ z. more_stmts (stmt_tree z) no_stmts) (sym read)
just-one (y ∷ z ∷ ss) x h read = absurd (omega (arith, h))

pub plain-on_true : (s : StmtTree) (others : StmtTrees) → is_choice s ≡ false → on_true_of s others ≡ others
plain-on_true (assign line f e) others h = refl
plain-on_true (assign_at line f index e) others h = refl
plain-on_true (branch line test a b) others h = absurd (let wrong : ⊥ = cc h in wrong)
plain-on_true (call line k target es) others h = refl

-- ---- Turned back

abbrev pub both_ways : List Stmt → StmtTrees → StmtTrees
both_ways list left = stmts_append (standing list) left

pub moved-back : (list : List Stmt) (t : Stmt) (left : StmtTrees) →
    stmts_append (standing (list ++ t ∷ [])) left ≡ stmts_append (standing list) (more_stmts (stmt_tree t) left)
moved-back [] t left = refl
moved-back (x ∷ list) t left = ap (more_stmts (stmt_tree x)) (moved-back list t left)

pub none-left : (list : List Stmt) → stmts_append (standing list) no_stmts ≡ standing list
none-left [] = refl
none-left (x ∷ list) = ap (more_stmts (stmt_tree x)) (none-left list)

-- ---- From the last statement to the first

drop-at : (xs : List Stmt) (i : ℕ) (x : Stmt) → i < length xs → x ≡ get_or xs i x → drop i xs ≡ x ∷ drop (suc i) xs
drop-at [] i x h read = absurd (omega (arith, h))
drop-at (y ∷ xs) zero x h read = ap (λ z. z ∷ xs) (sym read)
drop-at (y ∷ xs) (suc i) x h read = drop-at xs i x (omega (arith, h)) read

pub fused-none : (ss : List Stmt) (i : ℕ) → length ss ≤ i → no_stmts ≡ fused_stmts (standing (drop i ss))
fused-none [] zero h = refl
fused-none [] (suc i) h = refl
fused-none (x ∷ ss) zero h = absurd (omega (arith, h))
fused-none (x ∷ ss) (suc i) h = fused-none ss i (omega (arith, h))

-- one statement more before the others
pub fused-before : (ss : List Stmt) (i j : ℕ) (s : Stmt) (x : StmtTree) (list new : StmtTrees) → i < length ss → s ≡ get_or ss i s →
    suc i ≡ j → list ≡ fused_stmts (standing (drop j ss)) → x ≡ fused_stmt (stmt_tree s) → new ≡ put_before x list →
    new ≡ fused_stmts (standing (drop i ss))
fused-before ss i j s x list new inside read next made is put =
    put ∙ (λ k. put_before (is k) ((made ∙ ap (λ n. fused_stmts (standing (drop n ss))) (sym next)) k))
    ∙ ap (λ xs. fused_stmts (standing xs)) (sym (drop-at ss i s inside read))

-- an `if` without an `else`, and one with
pub decided-alone : (t : CondTree) (line : ℕ) (o : CondTree) (a : StmtTrees) (ss : List Stmt) → length ss ≡ 0 →
    is_decided t (more_stmts (branch line o a (standing ss)) no_stmts) ≡ opposite t o
decided-alone t line o a [] h = refl
decided-alone t line o a (x ∷ ss) h = absurd (omega (arith, h))

pub decided-else : (t : CondTree) (line : ℕ) (o : CondTree) (a : StmtTrees) (ss : List Stmt) → length ss ≢ 0 →
    is_decided t (more_stmts (branch line o a (standing ss)) no_stmts) ≡ false
decided-else t line o a [] h = absurd (h refl)
decided-else t line o a (x ∷ ss) h = refl

pub plain-turned : (s : StmtTree) → is_choice s ≡ false → turned_stmt s ≡ s
plain-turned (assign line f e) h = refl
plain-turned (assign_at line f index e) h = refl
plain-turned (branch line test a b) h = absurd (let wrong : ⊥ = cc h in wrong)
plain-turned (call line k target es) h = refl

-- ---- Lists that grow at their end

-- a statement that is no `if`
pub plain-pushed : (old new : List Stmt) (s t : Stmt) → t ≡ s → is_choice (stmt_tree s) ≡ false → new ≡ old ++ t ∷ [] →
    turned new ≡ put_before (turned_stmt (stmt_tree s)) (turned old)
plain-pushed old new s t same plain is =
    ap turned is ∙ turned-push old t ∙ ap (λ x. more_stmts (turned_stmt (stmt_tree x)) (turned old)) same
    ∙ sym (plain-before (stmt_tree s) (turned old) plain)

-- an `if` that was the last
pub popped-choice : (old rest : List Stmt) (last : Stmt) (next : Choice) → old ≡ rest ++ last ∷ [] → stmt_tree last ≡ choice_tree next →
    turned old ≡ more_stmts (turned_choice next) (turned rest)
popped-choice old rest last next is by = ap turned is ∙ turned-push rest last ∙ ap (λ x. more_stmts (turned_stmt x) (turned rest)) by

-- another statement that was the last
pub plain-under : (old rest middle new : List Stmt) (last t s : Stmt) (first : Choice) → old ≡ rest ++ last ∷ [] → t ≡ last →
    is_choice (stmt_tree last) ≡ false → middle ≡ rest ++ t ∷ [] → stmt_tree s ≡ choice_tree first → new ≡ middle ++ s ∷ [] →
    turned new ≡ put_before (turned_choice first) (turned old)
plain-under old rest middle new last t s first is same plain one by two =
    ap turned two ∙ turned-push middle s ∙ ap (λ x. more_stmts (turned_stmt x) (turned middle)) by
    ∙ ap (more_stmts (turned_choice first))
    (ap turned one ∙ turned-push rest t ∙ ap (λ x. more_stmts (turned_stmt (stmt_tree x)) (turned rest)) same)
    ∙ sym (ap (put_before (turned_choice first)) (ap turned is ∙ turned-push rest last)
    ∙ before-plain first (stmt_tree last) (turned rest) plain)

pub apart-pushed : (f : Fusion) (old middle new : List Stmt) (first next : Choice) (t s : Stmt) → f ≡ fusion_of first next → f ≡ Apart →
    stmt_tree t ≡ choice_tree next → middle ≡ old ++ t ∷ [] → stmt_tree s ≡ choice_tree first → new ≡ middle ++ s ∷ [] →
    turned new ≡ put_before (turned_choice first) (more_stmts (turned_choice next) (turned old))
apart-pushed f old middle new first next t s known apart by_next one by_first two =
    ap turned two ∙ turned-push middle s ∙ ap (λ x. more_stmts (turned_stmt x) (turned middle)) by_first
    ∙ ap (more_stmts (turned_choice first)) (ap turned one ∙ turned-push old t ∙ ap (λ x. more_stmts (turned_stmt x) (turned old)) by_next)
    ∙ ap (λ g. fused_as g first next (turned old)) (sym apart ∙ known) ∙ sym (two-fused first next (turned old))

pub fused-pushed : (f g : Fusion) (old new : List Stmt) (first next : Choice) (s : Stmt) → f ≡ fusion_of first next → f ≡ g →
    more_stmts (turned_stmt (stmt_tree s)) (turned old) ≡ fused_as g first next (turned old) → new ≡ old ++ s ∷ [] →
    turned new ≡ put_before (turned_choice first) (more_stmts (turned_choice next) (turned old))
fused-pushed f g old new first next s known is by one =
    ap turned one ∙ turned-push old s ∙ by ∙ ap (λ h. fused_as h first next (turned old)) (sym is ∙ known)
    ∙ sym (two-fused first next (turned old))

-- how deep the statements of a list are, by the last of them
pub depth-whole : (xs : List Stmt) (s : Stmt) →
    stmts_depth (standing (xs ++ s ∷ [])) ≡ max (stmts_depth (standing xs)) (stmt_depth (stmt_tree s))
depth-whole [] s = let d = stmt_depth (stmt_tree s) in swapped d
  where
    swapped : (d : ℕ) → max d 0 ≡ max 0 d
    swapped d = omega arith
depth-whole (x ∷ xs) s =
    ap (max (stmt_depth (stmt_tree x))) (depth-whole xs s)
    ∙ regrouped (stmt_depth (stmt_tree x)) (stmts_depth (standing xs)) (stmt_depth (stmt_tree s))
  where
    regrouped : (a b d : ℕ) → max a (max b d) ≡ max (max a b) d
    regrouped a b d = omega arith

-- the last statement of a list is no deeper than the list, and nor are the others
pub last-within : (all rest : List Stmt) (s : Stmt) → all ≡ rest ++ s ∷ [] → stmt_depth (stmt_tree s) ≤ stmts_depth (standing all)
last-within all rest s is = let whole = ap (λ xs. stmts_depth (standing xs)) is ∙ depth-whole rest s in omega (arith, whole)

pub rest-within : (all rest : List Stmt) (s : Stmt) → all ≡ rest ++ s ∷ [] → stmts_depth (standing rest) ≤ stmts_depth (standing all)
rest-within all rest s is = let whole = ap (λ xs. stmts_depth (standing xs)) is ∙ depth-whole rest s in omega (arith, whole)

-- a list from which nothing can be taken
pub emptied : (old new : List Stmt) (n : ℕ) → n ≡ 0 → new ≡ take (n - 1) old → old ≡ new ++ [] → old ≡ []
emptied old new n none left all = all ∙ append-nil new ∙ left ∙ ap (λ m. take (m - 1) old) none ∙ nothing old
  where
    nothing : (xs : List Stmt) → take (0 - 1) xs ≡ []
    nothing [] = refl
    nothing (x ∷ xs) = refl
