-- No token of a file opens an expression beyond the limit exactly where no expression of it is too deep.
use Rattle.std.proofs.Common.{◌≡◌, refl, sym, ◌∙◌, ap, ap₂, ℕ, zero, suc, ◌+◌, ◌*◌, ◌≤◌, max, List, [], ◌∷◌, ◌++◌, length, flat_map, Bool, true, false, ◌&&◌, nat_le, Some, None, arith, leb-true, le-leb, append_assoc}
use Rattle.std.specs.List.{list_all}
use Rattle.std.proofs.lemmas.Bool.{and_parts, and_from}
use Rattle.std.proofs.lemmas.List.Folds.{list_all-append}
use Rattle.lustre_syntax.specs.Tree.{number, truth, name, negative, negation, two, choice, arrow, previous}
use Rattle.lustre_syntax.specs.Lawful.{expr_depth, expr_limit}
use Rattle.lustre_grammar.specs.Written.{WrittenExpr, WrittenEquation, set, call, WrittenDeclared, WrittenNode, WrittenFile}
use Rattle.lustre_grammar.specs.Openings.{Opening, others, expr_openings, values_openings, parted_openings, equation_openings, ports_openings, others_openings, node_openings, openings, is_within}
use Rattle.lustre_reading_laws.proofs.Depths.{value_within, equation_within, node_within, file_within}
use Rattle.lustre_reading_laws.proofs.SpelledExprs.{same_test}

abbrev within : List Opening → Bool
within os = list_all is_within os

-- an expression at a depth
abbrev reaches : ℕ → WrittenExpr → Bool
reaches d e = nat_le (expr_depth e + d) (expr_limit + 1)

join : (os ps : List Opening) → within (os ++ ps) ≡ (within os && within ps)
join os ps = list_all-append is_within os ps

and_true : (b : Bool) → (b && true) ≡ b
and_true true = refl
and_true false = refl

leaf : (d : ℕ) → (nat_le d expr_limit && true) ≡ nat_le (1 + d) (expr_limit + 1)
leaf d =
    same_test (nat_le d expr_limit && true) (nat_le (1 + d) (expr_limit + 1))
    (λ h. le-leb (1 + d) (expr_limit + 1) (omega (arith, leb-true d expr_limit (and_parts (nat_le d expr_limit) true h).0)))
    (λ h. and_from (nat_le d expr_limit) true (le-leb d expr_limit (omega (arith, leb-true (1 + d) (expr_limit + 1) h))) refl)

-- what one, two and three operands reach
one : (d m : ℕ) → (nat_le d expr_limit && nat_le (m + (d + 1)) (expr_limit + 1)) ≡ nat_le (m + 1 + d) (expr_limit + 1)
one d m =
    same_test (nat_le d expr_limit && nat_le (m + (d + 1)) (expr_limit + 1)) (nat_le (m + 1 + d) (expr_limit + 1))
    (λ h. le-leb (m + 1 + d) (expr_limit + 1)
    (omega (arith, leb-true (m + (d + 1)) (expr_limit + 1) (and_parts (nat_le d expr_limit) (nat_le (m + (d + 1)) (expr_limit + 1)) h).1)))
    (λ h. let low : m + 1 + d ≤ expr_limit + 1 = leb-true (m + 1 + d) (expr_limit + 1) h in
    and_from (nat_le d expr_limit) (nat_le (m + (d + 1)) (expr_limit + 1)) (le-leb d expr_limit (omega arith))
    (le-leb (m + (d + 1)) (expr_limit + 1) (omega arith)))

both : (d m n : ℕ) → (nat_le (m + d) (expr_limit + 1) && nat_le (n + d) (expr_limit + 1)) ≡ nat_le (max m n + d) (expr_limit + 1)
both d m n =
    same_test (nat_le (m + d) (expr_limit + 1) && nat_le (n + d) (expr_limit + 1)) (nat_le (max m n + d) (expr_limit + 1))
    (λ h. let p : _ = and_parts (nat_le (m + d) (expr_limit + 1)) (nat_le (n + d) (expr_limit + 1)) h in
    let a : m + d ≤ expr_limit + 1 = leb-true (m + d) (expr_limit + 1) p.0 in
    let b : n + d ≤ expr_limit + 1 = leb-true (n + d) (expr_limit + 1) p.1 in
    le-leb (max m n + d) (expr_limit + 1) (omega arith))
    (λ h. let low : max m n + d ≤ expr_limit + 1 = leb-true (max m n + d) (expr_limit + 1) h in
    and_from (nat_le (m + d) (expr_limit + 1)) (nat_le (n + d) (expr_limit + 1))
    (le-leb (m + d) (expr_limit + 1) (omega arith)) (le-leb (n + d) (expr_limit + 1) (omega arith)))

-- an operand between tokens that open nothing
single : (d : ℕ) (a : WrittenExpr) → within (expr_openings (d + 1) a) ≡ reaches (d + 1) a →
    within (Some d ∷ None ∷ expr_openings (d + 1) a ++ None ∷ []) ≡ nat_le (expr_depth a + 1 + d) (expr_limit + 1)
single d a e =
    ap (λ b. nat_le d expr_limit && b) (join (expr_openings (d + 1) a) (None ∷ []) ∙ and_true (within (expr_openings (d + 1) a)) ∙ e)
    ∙ one d (expr_depth a)

pair : (d : ℕ) (a b : WrittenExpr) → within (expr_openings (d + 1) a) ≡ reaches (d + 1) a →
    within (expr_openings (d + 1) b) ≡ reaches (d + 1) b →
    within (expr_openings (d + 1) a ++ None ∷ expr_openings (d + 1) b ++ None ∷ [])
    ≡ nat_le (max (expr_depth a) (expr_depth b) + (d + 1)) (expr_limit + 1)
pair d a b e f =
    join (expr_openings (d + 1) a ++ None ∷ expr_openings (d + 1) b) (None ∷ [])
    ∙ and_true (within (expr_openings (d + 1) a ++ None ∷ expr_openings (d + 1) b))
    ∙ join (expr_openings (d + 1) a) (None ∷ expr_openings (d + 1) b) ∙ ap₂ (λ p q. p && q) e f
    ∙ both (d + 1) (expr_depth a) (expr_depth b)

expr-opens : (e : WrittenExpr) (d : ℕ) → within (expr_openings d e) ≡ reaches d e
expr-opens (number value) d = leaf d
expr-opens (truth value) d = leaf d
expr-opens (name w) d = leaf d
expr-opens (negative a) d = single d a (expr-opens a (d + 1))
expr-opens (negation a) d = single d a (expr-opens a (d + 1))
expr-opens (two op a b) d =
    ap (λ w. nat_le d expr_limit && w) (pair d a b (expr-opens a (d + 1)) (expr-opens b (d + 1)))
    ∙ one d (max (expr_depth a) (expr_depth b))
expr-opens (choice test a b) d =
    ap (λ w. nat_le d expr_limit && w)
    (grouped (expr_openings (d + 1) test) (expr_openings (d + 1) a) (expr_openings (d + 1) b)
    ∙ ap₂ (λ p q. p && q) (expr-opens test (d + 1)) (pair d a b (expr-opens a (d + 1)) (expr-opens b (d + 1)))
    ∙ both (d + 1) (expr_depth test) (max (expr_depth a) (expr_depth b)))
    ∙ one d (max (expr_depth test) (max (expr_depth a) (expr_depth b)))
  where
    grouped : (os ps qs : List Opening) →
        within (os ++ None ∷ ps ++ None ∷ qs ++ None ∷ []) ≡ (within os && within (ps ++ None ∷ qs ++ None ∷ []))
    grouped os ps qs =
        ap within (append_assoc (os ++ None ∷ ps) (None ∷ qs) (None ∷ []) ∙ append_assoc os (None ∷ ps) (None ∷ qs ++ None ∷ []))
        ∙ join os ((None ∷ ps) ++ ((None ∷ qs) ++ (None ∷ [])))
        ∙ ap (λ w. within os && w) (ap within (sym (append_assoc ps (None ∷ qs) (None ∷ []))))
expr-opens (arrow a b) d =
    ap (λ w. nat_le d expr_limit && w) (pair d a b (expr-opens a (d + 1)) (expr-opens b (d + 1)))
    ∙ one d (max (expr_depth a) (expr_depth b))
expr-opens (previous w) d = leaf d

outermost : (e : WrittenExpr) → within (expr_openings 1 e) ≡ value_within e
outermost e =
    expr-opens e 1
    ∙ same_test (nat_le (expr_depth e + 1) (expr_limit + 1)) (value_within e)
    (λ h. le-leb (expr_depth e) expr_limit (omega (arith, leb-true (expr_depth e + 1) (expr_limit + 1) h)))
    (λ h. le-leb (expr_depth e + 1) (expr_limit + 1) (omega (arith, leb-true (expr_depth e) expr_limit h)))

others-open : (count : ℕ) → within (others count) ≡ true
others-open zero = refl
others-open (suc count) = others-open count

-- before and after tokens that open nothing
after-others : (count : ℕ) (os : List Opening) → within (others count ++ os) ≡ within os
after-others count os = join (others count) os ∙ ap (λ b. b && within os) (others-open count)

before-others : (os : List Opening) (count : ℕ) → within (os ++ others count) ≡ within os
before-others os count = join os (others count) ∙ ap (λ b. within os && b) (others-open count) ∙ and_true (within os)

values-open : (values : List WrittenExpr) → within (values_openings values) ≡ list_all value_within values
values-open [] = refl
values-open (e ∷ []) = outermost e ∙ sym (and_true (value_within e))
values-open (e ∷ f ∷ es) =
    join (expr_openings 1 e) (None ∷ values_openings (f ∷ es)) ∙ ap₂ (λ p q. p && q) (outermost e) (values-open (f ∷ es))

parted-open : {A : Type 0} (each : ℕ) (xs : List A) → within (parted_openings each xs) ≡ true
parted-open each [] = refl
parted-open each (x ∷ xs) = others-open (each + (each + 1) * length xs)

equation-opens : (e : WrittenEquation) → within (equation_openings e) ≡ equation_within e
equation-opens (set line given value) =
    before-others (others 2 ++ expr_openings 1 value) 1 ∙ after-others 2 (expr_openings 1 value) ∙ outermost value
equation-opens (call line given callee values) =
    before-others (parted_openings 1 given ++ others 4 ++ values_openings values) 2
    ∙ join (parted_openings 1 given ++ others 4) (values_openings values)
    ∙ ap (λ b. b && within (values_openings values)) (before-others (parted_openings 1 given) 4 ∙ parted-open 1 given)
    ∙ values-open values

equations-open : (es : List WrittenEquation) → within (flat_map equation_openings es) ≡ list_all equation_within es
equations-open [] = refl
equations-open (e ∷ es) =
    join (equation_openings e) (flat_map equation_openings es) ∙ ap₂ (λ p q. p && q) (equation-opens e) (equations-open es)

ports-open : (ds : List WrittenDeclared) → within (ports_openings ds) ≡ true
ports-open ds = before-others (None ∷ parted_openings 3 ds) 1 ∙ parted-open 3 ds

further-open : (ds : List WrittenDeclared) → within (others_openings ds) ≡ true
further-open [] = refl
further-open (d ∷ ds) = others-open (5 + 4 * length ds)

-- tokens of which none opens anything, and others
quiet : (os ps : List Opening) → within os ≡ true → within (os ++ ps) ≡ within ps
quiet os ps e = join os ps ∙ ap (λ b. b && within ps) e

quiet-both : (os ps : List Opening) → within os ≡ true → within ps ≡ true → within (os ++ ps) ≡ true
quiet-both os ps e f = quiet os ps e ∙ f

node-opens : (n : WrittenNode) → within (node_openings n) ≡ node_within n
node-opens n =
    let a : List Opening = others 2 ++ ports_openings n.inputs in
    let b : List Opening = a ++ others 1 in
    let c : List Opening = b ++ ports_openings n.outputs in
    let d : List Opening = c ++ others 1 in
    let e : List Opening = d ++ others_openings n.others in
    let f : List Opening = e ++ others 1 in
    let qa : within a ≡ true = quiet-both (others 2) (ports_openings n.inputs) refl (ports-open n.inputs) in
    let qb : within b ≡ true = quiet-both a (others 1) qa refl in
    let qc : within c ≡ true = quiet-both b (ports_openings n.outputs) qb (ports-open n.outputs) in
    let qd : within d ≡ true = quiet-both c (others 1) qc refl in
    let qe : within e ≡ true = quiet-both d (others_openings n.others) qd (further-open n.others) in
    let qf : within f ≡ true = quiet-both e (others 1) qe refl in
    before-others (f ++ flat_map equation_openings n.equations) 2
    ∙ quiet f (flat_map equation_openings n.equations) qf ∙ equations-open n.equations

nodes-open : (ns : List WrittenNode) → within (flat_map node_openings ns) ≡ list_all node_within ns
nodes-open [] = refl
nodes-open (n ∷ ns) =
    join (node_openings n) (flat_map node_openings ns) ∙ ap₂ (λ p q. p && q) (node-opens n) (nodes-open ns)

pub file-opens : (w : WrittenFile) → list_all is_within (openings w) ≡ file_within w
file-opens w = nodes-open w.nodes
