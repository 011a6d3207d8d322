-- The lines of functions, one more.
use Rattle.std.proofs.Common.{◌≡◌, ℕ, suc, ◌+◌, ◌<◌, ◌==◌, ◌&&◌, Bool, true, false, List, [], ◌∷◌, ◌++◌, length, get_or, take, drop, refl, sym, ap, ap₂, subst, ◌∙◌, append-nil, append_assoc, arith, inl, inr}
use Rattle.std.specs.Prelude.{All, flat_map}
use Rattle.std.specs.Bool.{Decides}
use Rattle.std.specs.List.{AllByRecursion}
use Rattle.std.proofs.lemmas.Bool.{eq-eqb, eqb-true, false≢true}
use Rattle.std.proofs.lemmas.List.{flat_map_more, length-append, take_more}
use Rattle.base_core.specs.declared.Port.{Port}
use Rattle.modules_profile.specs.declared.Function.{Function}
use Rattle.modules_report.specs.Following.{AreAllFunctions, CanComeFirst}
use Rattle.modules_report.specs.Texts.{out_line, out_lines}
use Rattle.modules_report.proofs.SameNeeds.{at-each, each-one}

pub out-lines-more : (ports : List Port) (outputs j : ℕ) (fs : List Function) (f : Function) →
    out_lines ports outputs j (fs ++ f ∷ []) ≡ out_lines ports outputs j fs ++ out_line ports outputs (j + length fs) f
out-lines-more ports outputs j [] f =
    append-nil (out_line ports outputs j f) ∙ ap (λ k. out_line ports outputs k f) (let e : j ≡ j + 0 = omega arith in e)
out-lines-more ports outputs j (g ∷ fs) f =
    ap (λ (t : List ℕ). out_line ports outputs j g ++ t) (out-lines-more ports outputs (j + 1) fs f
    ∙ ap (λ k. out_lines ports outputs (j + 1) fs ++ out_line ports outputs k f) (let e : j + 1 + length fs
    ≡ j + length (g ∷ fs) = omega arith in e))
    ∙ sym (append_assoc (out_line ports outputs j g) (out_lines ports outputs (j + 1) fs) (out_line ports outputs (j + length (g ∷ fs)) f))

-- what was read before, and then a line
pub one-more : (ports : List Port) (outputs j k : ℕ) (fs gs : List Function) (f : Function) (text rest next : List ℕ) →
    length fs ≡ k → gs ≡ fs ++ f ∷ [] →
    text ≡ out_lines ports outputs j fs ++ rest → rest ≡ out_line ports outputs (k + j) f ++ next →
    text ≡ out_lines ports outputs j gs ++ next
one-more ports outputs j k fs gs f text rest next len more before line =
    before ∙ ap (λ (t : List ℕ). out_lines ports outputs j fs ++ t)
    (line ∙ ap (λ n. out_line ports outputs n f ++ next) (let e : k + j ≡ j + length fs = omega (arith, len) in e))
    ∙ sym (append_assoc (out_lines ports outputs j fs) (out_line ports outputs (j + length fs) f) next)
    ∙ ap (λ (t : List ℕ). t ++ next) (sym (out-lines-more ports outputs j fs f) ∙ ap (out_lines ports outputs j) (sym more))

-- where there are as many as there can be, they are all
pub all-of-them : (outputs count : ℕ) (fs : List Function) → CanComeFirst outputs count fs → length fs ≡ count →
    AreAllFunctions outputs count fs
all-of-them outputs count fs (inl all) len = all
all-of-them outputs count fs (inr first) len = absurd (let more = first.more in omega (arith, more, len))

-- ---- All members, one more

pub all-more : {X : Type 0} (P : X → Type 0) (xs ys : List X) (x : X) → ys ≡ xs ++ x ∷ [] → All P xs → P x → All P ys
all-more P xs ys x e a own = λ k d within. at-each P ys k d (subst (AllByRecursion P) (sym e) (joined xs (each-one P xs a))) within
  where
    joined : (zs : List _) → AllByRecursion P zs → AllByRecursion P (zs ++ x ∷ [])
    joined [] b = (own, tt)
    joined (z ∷ zs) b = (b.0, joined zs b.1)

-- ---- The lines of members, one more

pub lines_on : {X : Type 0} (line : X → List ℕ) (text rest next : List ℕ) (xs : List X) (i : ℕ) (d : X) → i < length xs →
    text ≡ flat_map line (take i xs) ++ rest → rest ≡ line (get_or xs i d) ++ next → text ≡ flat_map line (take (i + 1) xs) ++ next
lines_on line text rest next xs i d within before is =
    before ∙ ap (λ (t : List ℕ). flat_map line (take i xs) ++ t) is
    ∙ sym (append_assoc (flat_map line (take i xs)) (line (get_or xs i d)) next)
    ∙ ap (λ (t : List ℕ). t ++ next) (flat_map_more line [] (take i xs) (get_or xs i d)
    ∙ ap (flat_map line) (sym (take_more xs i d within)))

-- ---- Equal functions

pub same-functions : (f g : Function) → Decides ((f.inputs == g.inputs) && (f.outputs == g.outputs)) (f ≡ g)
same-functions f g = (λ e. to (f.inputs == g.inputs) (f.outputs == g.outputs) refl refl e, λ e. from e)
  where
    to : (s t : Bool) → (f.inputs == g.inputs) ≡ s → (f.outputs == g.outputs) ≡ t → (s && t) ≡ true → f ≡ g
    to true true a b e = λ i. record { inputs = eqb-true f.inputs g.inputs a i; outputs = eqb-true f.outputs g.outputs b i }
    to true false a b e = absurd (false≢true e)
    to false t a b e = absurd (false≢true e)

    from : f ≡ g → ((f.inputs == g.inputs) && (f.outputs == g.outputs)) ≡ true
    from e =
        ap₂ (λ (s t : Bool). s && t) (eq-eqb f.inputs g.inputs (ap (λ (h : Function). h.inputs) e))
        (eq-eqb f.outputs g.outputs (ap (λ (h : Function). h.outputs) e))

-- ---- All but the last

pub same-front : {X : Type 0} (xs ys : List X) (x y : X) → xs ++ x ∷ [] ≡ ys ++ y ∷ [] → xs ≡ ys
same-front [] [] x y e = refl
same-front [] (b ∷ ys) x y e = absurd (let long : 1 ≡ suc (length (ys ++ y ∷ [])) = ap (λ (zs : List _). length zs) e in
    let some = length-append ys (y ∷ []) in omega (arith, long, some))
same-front (a ∷ xs) [] x y e = absurd (let long : suc (length (xs ++ x ∷ [])) ≡ 1 = ap (λ (zs : List _). length zs) e in
    let some = length-append xs (x ∷ []) in omega (arith, long, some))
same-front (a ∷ xs) (b ∷ ys) x y e =
    ap₂ (λ (k : _) (ks : List _). k ∷ ks) (ap (λ (zs : List _). get_or zs 0 a) e)
    (same-front xs ys x y (ap (λ (zs : List _). drop 1 zs) e))
