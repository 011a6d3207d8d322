-- Two operations are equal exactly where `==` says so.
use Rattle.std.specs.Prelude.{◌≡◌, ◌↔◌, ℤ, Bool, true, false}
use Rattle.std.specs.Ordering.{int_eq}
use Rattle.std.proofs.Common.{rules, refl, sym, ◌∙◌, ap, subst, true≢false}
use Rattle.std.proofs.lemmas.Bool.{and_from, and_parts, eq-eqb, eqb-true}
use mathlib.Core.Bool.{beq}
use Rattle.base_fixed_point.specs.declared.FixType.{FixType}
use Rattle.base_fixed_point.specs.contracts.types.FixTypePartialEq.TheImpl as type_impl
use Rattle.diagram_blocks.specs.declared.How.{How}
use Rattle.diagram_blocks.specs.declared.Op.{Op}
use Rattle.diagram_blocks.specs.declared.Op.TheVariants.{Copy, Value, Delay, Line, Gain, Sum, Product, Switch, Relational, Logic, Convert, Nothing}
use Rattle.diagram_blocks.specs.contracts.kind.HowPartialEq.TheImpl as how_impl
use Rattle.diagram_types.proofs.lemmas.SameType.{type-equal}
use Rattle.diagram_blocks.specs.contracts.op.OpPartialEq.TheImpl as impl

int-to : (x y : ℤ) → int_eq x y ≡ true → x ≡ y
int-to = search rules

bool-to : (x y : Bool) → beq x y ≡ true → x ≡ y
bool-to true true e = refl
bool-to true false e = absurd (true≢false (sym e))
bool-to false true e = absurd (true≢false (sym e))
bool-to false false e = refl

type-to : (x y : FixType) → type_impl.ghosts.eq x y ≡ true → x ≡ y
type-to x y e =
    let p = and_parts _ _ e in
    let q = and_parts _ _ p.1 in
    type-equal x y (bool-to x.signed y.signed p.0) (eqb-true x.bits y.bits q.0) (eqb-true x.frac y.frac q.1)

bool-itself : (x : Bool) → beq x x ≡ true
bool-itself true = refl
bool-itself false = refl

type-itself : (x : FixType) → type_impl.ghosts.eq x x ≡ true
type-itself x = and_from _ _ (bool-itself x.signed) (and_from _ _ (eq-eqb x.bits x.bits refl) (eq-eqb x.frac x.frac refl))

how-to : (x y : How) → how_impl.ghosts.eq x y ≡ true → x ≡ y
how-to = search rules

how-itself : (x : How) → how_impl.ghosts.eq x x ≡ true
how-itself = search rules

int-itself : (x : ℤ) → int_eq x x ≡ true
int-itself = search rules

abbrev equal : Op → Op → Bool
equal = impl.ghosts.eq

equal-itself : (a : Op) → equal a a ≡ true
equal-itself Copy = search rules
equal-itself (Value value) = search rules
equal-itself (Delay start) = search rules
equal-itself (Line length start) = search rules
equal-itself (Gain m frac to how) =
    and_from _ _ (int-itself m) (and_from _ _ (eq-eqb frac frac refl) (and_from _ _ (type-itself to) (how-itself how)))
equal-itself (Sum count minus fracs to how) =
    and_from _ _ (eq-eqb count count refl) (and_from _ _ (eq-eqb minus minus refl) (and_from _ _ (search rules) (and_from _ _ (type-itself to) (how-itself how))))
equal-itself (Product count frac to how) =
    and_from _ _ (eq-eqb count count refl) (and_from _ _ (eq-eqb frac frac refl) (and_from _ _ (type-itself to) (how-itself how)))
equal-itself (Switch criterion threshold fracs to how) =
    and_from _ _ (search rules) (and_from _ _ (int-itself threshold) (and_from _ _ (search rules) (and_from _ _ (type-itself to) (how-itself how))))
equal-itself (Relational compare fracs) = search rules
equal-itself (Logic op count) = search rules
equal-itself (Convert frac to how) =
    and_from _ _ (eq-eqb frac frac refl) (and_from _ _ (type-itself to) (how-itself how))
equal-itself Nothing = search rules

equal-to : (a b : Op) → equal a b ≡ true → a ≡ b
equal-to Copy Copy e = search rules
equal-to Copy _ e = absurd (true≢false (sym e))
equal-to (Value value) (Value value') e = search rules
equal-to (Value value) _ e = absurd (true≢false (sym e))
equal-to (Delay start) (Delay start') e = search rules
equal-to (Delay start) _ e = absurd (true≢false (sym e))
equal-to (Line length start) (Line length' start') e = search rules
equal-to (Line length start) _ e = absurd (true≢false (sym e))
equal-to (Gain m frac to how) (Gain m' frac' to' how') e =
    let p0 = and_parts _ _ e in
    let p1 = and_parts _ _ p0.1 in
    let p2 = and_parts _ _ p1.1 in
    ap (λ x. Gain x frac to how) (int-to m m' p0.0)
    ∙ ap (λ x. Gain m' x to how) (eqb-true frac frac' p1.0)
    ∙ ap (λ x. Gain m' frac' x how) (type-to to to' p2.0)
    ∙ ap (λ x. Gain m' frac' to' x) (how-to how how' p2.1)
equal-to (Gain m frac to how) _ e = absurd (true≢false (sym e))
equal-to (Sum count minus fracs to how) (Sum count' minus' fracs' to' how') e =
    let p0 = and_parts _ _ e in
    let p1 = and_parts _ _ p0.1 in
    let p2 = and_parts _ _ p1.1 in
    let p3 = and_parts _ _ p2.1 in
    ap (λ x. Sum x minus fracs to how) (eqb-true count count' p0.0)
    ∙ ap (λ x. Sum count' x fracs to how) (eqb-true minus minus' p1.0)
    ∙ ap (λ x. Sum count' minus' x to how) (let e2 = p2.0 in let same : fracs ≡ fracs' = search (rules, e2) in same)
    ∙ ap (λ x. Sum count' minus' fracs' x how) (type-to to to' p3.0)
    ∙ ap (λ x. Sum count' minus' fracs' to' x) (how-to how how' p3.1)
equal-to (Sum count minus fracs to how) _ e = absurd (true≢false (sym e))
equal-to (Product count frac to how) (Product count' frac' to' how') e =
    let p0 = and_parts _ _ e in
    let p1 = and_parts _ _ p0.1 in
    let p2 = and_parts _ _ p1.1 in
    ap (λ x. Product x frac to how) (eqb-true count count' p0.0)
    ∙ ap (λ x. Product count' x to how) (eqb-true frac frac' p1.0)
    ∙ ap (λ x. Product count' frac' x how) (type-to to to' p2.0)
    ∙ ap (λ x. Product count' frac' to' x) (how-to how how' p2.1)
equal-to (Product count frac to how) _ e = absurd (true≢false (sym e))
equal-to (Switch criterion threshold fracs to how) (Switch criterion' threshold' fracs' to' how') e =
    let p0 = and_parts _ _ e in
    let p1 = and_parts _ _ p0.1 in
    let p2 = and_parts _ _ p1.1 in
    let p3 = and_parts _ _ p2.1 in
    ap (λ x. Switch x threshold fracs to how) (let e0 = p0.0 in let same : criterion ≡ criterion' = search (rules, e0) in same)
    ∙ ap (λ x. Switch criterion' x fracs to how) (int-to threshold threshold' p1.0)
    ∙ ap (λ x. Switch criterion' threshold' x to how) (let e2 = p2.0 in let same : fracs ≡ fracs' = search (rules, e2) in same)
    ∙ ap (λ x. Switch criterion' threshold' fracs' x how) (type-to to to' p3.0)
    ∙ ap (λ x. Switch criterion' threshold' fracs' to' x) (how-to how how' p3.1)
equal-to (Switch criterion threshold fracs to how) _ e = absurd (true≢false (sym e))
equal-to (Relational compare fracs) (Relational compare' fracs') e = search rules
equal-to (Relational compare fracs) _ e = absurd (true≢false (sym e))
equal-to (Logic op count) (Logic op' count') e = search rules
equal-to (Logic op count) _ e = absurd (true≢false (sym e))
equal-to (Convert frac to how) (Convert frac' to' how') e =
    let p0 = and_parts _ _ e in
    let p1 = and_parts _ _ p0.1 in
    ap (λ x. Convert x to how) (eqb-true frac frac' p0.0)
    ∙ ap (λ x. Convert frac' x how) (type-to to to' p1.0)
    ∙ ap (λ x. Convert frac' to' x) (how-to how how' p1.1)
equal-to (Convert frac to how) _ e = absurd (true≢false (sym e))
equal-to Nothing Nothing e = search rules
equal-to Nothing _ e = absurd (true≢false (sym e))

pub equal-decides : (a b : Op) → (equal a b ≡ true) ↔ (a ≡ b)
equal-decides a b = (equal-to a b, λ same. subst (λ b. equal a b ≡ true) same (equal-itself a))

pub type-decides : (a b : FixType) → (type_impl.ghosts.eq a b ≡ true) ↔ (a ≡ b)
type-decides a b = (type-to a b, λ same. subst (λ b. type_impl.ghosts.eq a b ≡ true) same (type-itself a))
