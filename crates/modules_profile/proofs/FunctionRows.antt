-- Which rows a function of a header gives, and what it takes for them.
use Rattle.std.specs.Prelude.{◌≡◌, ◌⊎◌, ℕ, zero, suc, ◌+◌, Bool, true, ◌==◌, List, [], ◌∷◌, map, filter, slice_get, slice_index_or, Contains, Option, Some, ◌^◌, refl}
use Rattle.std.specs.List.{AllZip, enumerate_from}
use Rattle.std.proofs.Common.{sym, ap, subst, ◌∙◌, arith, inl, inr}
use Rattle.std.proofs.lemmas.Bool.{eq-eqb, eqb-true}
use Rattle.std.specs.Int.Bits.{and_zero_l}
use Rattle.base_fixed_point.specs.declared.FixType.{FixType}
use Rattle.base_core.specs.Interface.{different}
use Rattle.diagram_meaning.specs.Rows.{outports_of}
use Rattle.diagram_meaning.specs.Diagram.{Diagram, type_at}
use Rattle.diagram_meaning.specs.Needs.{TrueNeeds, IsMaskOf}
use Rattle.modules_profile.specs.declared.profile.Function.{Function}
use Rattle.modules_profile.specs.Functions.{function_for, functions_for, IsProfileOf}
use Rattle.modules_profile.specs.SystemHeader.{SystemHeader}
use Rattle.modules_profile.specs.Headers.{header_of, idle_function, numbered_function, header_function, given_by_function, given_rows}
use Rattle.base_core.specs.Ports.{has_bit}
use Rattle.modules_profile.proofs.lemmas.Members.{in-map, of-map, in-filter, of-filter, in-at, at-in, at-map, in-enumerate, of-enumerate}
use Rattle.modules_profile.proofs.lemmas.MaskBits.{holds-has, has-holds, has-set, index-at, index-holds, in-different}

-- ---- Two lists side by side

pub beside : {A B : Type 0} (R : A → B → Type 0) (xs : List A) (ys : List B) (k : ℕ) (x : A) → AllZip R xs ys → slice_get xs k ≡ Some x →
    (y : B) × (slice_get ys k ≡ Some y) × R x y
beside R [] ys k x all e = absurd (let wrong : ⊥ = cc e in wrong)
beside R (z ∷ xs) [] k x all e = absurd all
beside R (z ∷ xs) (w ∷ ys) zero x all e = let same : z ≡ x = cc e in (w, refl, subst (λ v. R v w) same all.0)
beside R (z ∷ xs) (w ∷ ys) (suc k) x all e = beside R xs ys k x all.1 e

facing : {A B : Type 0} (R : A → B → Type 0) (xs : List A) (ys : List B) (k : ℕ) (y : B) → AllZip R xs ys → slice_get ys k ≡ Some y →
    (x : A) × (slice_get xs k ≡ Some x) × R x y
facing R xs [] k y all e = absurd (let wrong : ⊥ = cc e in wrong)
facing R [] (w ∷ ys) k y all e = absurd all
facing R (z ∷ xs) (w ∷ ys) zero y all e = let same : w ≡ y = cc e in (z, refl, subst (R z) same all.0)
facing R (z ∷ xs) (w ∷ ys) (suc k) y all e = facing R xs ys k y all.1 e

-- ---- What a function gives

gives : (f : Function) (outs : List ℕ) (k q : ℕ) → slice_get outs k ≡ Some q → has_bit f.outputs k ≡ true →
    Contains (given_by_function f outs) q
gives f outs k q e has =
    let same : 0 + k ≡ k = omega arith in
    in-map (λ (e : ℕ × ℕ). e.1) (filter (λ (e : ℕ × ℕ). has_bit f.outputs e.0) (enumerate_from 0 outs)) (k, q)
    (in-filter (λ (e : ℕ × ℕ). has_bit f.outputs e.0) (enumerate_from 0 outs) (k, q)
    (subst (λ i. Contains (enumerate_from 0 outs) (i, q)) same (in-enumerate 0 outs k q e)) has)

pub given : (f : Function) (outs : List ℕ) (q : ℕ) → Contains (given_by_function f outs) q →
    (k : ℕ) × (slice_get outs k ≡ Some q) × (has_bit f.outputs k ≡ true)
given f outs q h =
    let test : ℕ × ℕ → Bool = λ e. has_bit f.outputs e.0 in
    let m = of-map (λ (e : ℕ × ℕ). e.1) (filter test (enumerate_from 0 outs)) q h in
    let k = of-filter test (enumerate_from 0 outs) m.0 m.1 in
    let at = of-enumerate 0 outs m.0 k.0 in
    (at.0, at.2 ∙ ap Some m.2, ap (has_bit f.outputs) (let same : at.0 ≡ 0 + at.0 = omega arith in same ∙ at.1) ∙ k.1)

-- the function for what some outputs need gives just these
for-need : (needs outs : List ℕ) (m k q : ℕ) → slice_get outs k ≡ Some q → slice_get needs k ≡ Some m →
    Contains (given_by_function (function_for needs m) outs) q
for-need needs outs m k q out need =
    gives (function_for needs m) outs k q out
    (holds-has (map (λ n. n == m) needs) k (index-at (λ n. n == m) needs k m need ∙ eq-eqb m m refl))

pub need-of : (needs outs : List ℕ) (m q : ℕ) → Contains (given_by_function (function_for needs m) outs) q →
    (k : ℕ) × (slice_get outs k ≡ Some q) × (slice_get needs k ≡ Some m)
need-of needs outs m q h =
    let g = given (function_for needs m) outs q h in
    let need = index-holds (λ n. n == m) needs g.0 (has-holds (map (λ n. n == m) needs) g.0 g.2) in
    (g.0, g.1, need.1 ∙ ap Some (eqb-true need.0 m need.2))

pub nothing-given : (outs : List ℕ) (q : ℕ) → Contains (given_by_function idle_function outs) q → ⊥
nothing-given outs q h = let g = given idle_function outs q h in has-set 0 g.0 g.2 (and_zero_l (2 ^ g.0))

-- ---- Functions by number

index : (fs : List Function) (k : ℕ) (other f : Function) → slice_get fs k ≡ Some f → slice_index_or fs k other ≡ f
index [] k other f is = absurd (let wrong : ⊥ = cc is in wrong)
index (g ∷ gs) zero other f is = cc is
index (g ∷ gs) (suc k) other f is = index gs k other f is

numbered : (fs : List Function) (k : ℕ) (f : Function) → slice_get fs k ≡ Some f → numbered_function fs (suc k) ≡ f
numbered fs k f is = index fs k idle_function f is

-- a function of a list that is made by f is made by it, or is another
made-by : (f : ℕ → Function) (ns : List ℕ) (k : ℕ) (other : Function) →
    ((n : ℕ) × (f n ≡ slice_index_or (map f ns) k other)) ⊎ (other ≡ slice_index_or (map f ns) k other)
made-by f [] k other = inr refl
made-by f (n ∷ ns) zero other = inl (n, refl)
made-by f (n ∷ ns) (suc k) other = made-by f ns k other

-- ---- The functions of a system

module _ (d : Diagram) (s : Option ℕ) (functions : List Function) (needs : List ℕ)
    (are : AllZip (λ o mask. IsMaskOf (TrueNeeds d s o) mask) (outports_of d.rows s) needs) (is : functions ≡ functions_for needs) where
  -- each Outport is given by a function
  has-function : (q : ℕ) → Contains (outports_of d.rows s) q →
      (j : ℕ) × Contains (given_by_function (numbered_function functions j) (outports_of d.rows s)) q
  has-function q h = by-place (at-in (outports_of d.rows s) q h)
    where
      by-class : (k m : ℕ) → slice_get (outports_of d.rows s) k ≡ Some q → slice_get needs k ≡ Some m →
          (i : ℕ) × (slice_get (different needs) i ≡ Some m) →
          (j : ℕ) × Contains (given_by_function (numbered_function functions j) (outports_of d.rows s)) q
      by-class k m out need (i, class) = (
        suc i,
        subst (λ f. Contains (given_by_function f (outports_of d.rows s)) q)
            (sym (numbered functions i (function_for needs m)
            (ap (λ fs. slice_get fs i) is ∙ at-map (function_for needs) (different needs) i m class)))
            (for-need needs (outports_of d.rows s) m k q out need),
      )

      by-mask : (k : ℕ) → slice_get (outports_of d.rows s) k ≡ Some q →
          (m : ℕ) × (slice_get needs k ≡ Some m) × IsMaskOf (TrueNeeds d s q) m →
          (j : ℕ) × Contains (given_by_function (numbered_function functions j) (outports_of d.rows s)) q
      by-mask k out (m, need, mask) = by-class k m out need (at-in (different needs) m (in-different needs m (in-at needs k m need)))

      by-place : (k : ℕ) × (slice_get (outports_of d.rows s) k ≡ Some q) →
          (j : ℕ) × Contains (given_by_function (numbered_function functions j) (outports_of d.rows s)) q
      by-place (k, out) = by-mask k out (beside (λ o mask. IsMaskOf (TrueNeeds d s o) mask) (outports_of d.rows s) needs k q are out)

  -- what a function takes is what each Outport that it gives needs
  has-needs : (j q : ℕ) → Contains (given_by_function (numbered_function functions j) (outports_of d.rows s)) q →
      Contains (outports_of d.rows s) q × IsMaskOf (TrueNeeds d s q) (numbered_function functions j).inputs
  has-needs zero q h = absurd (nothing-given (outports_of d.rows s) q h)
  has-needs (suc i) q h =
      by (subst (λ fs. ((m : ℕ) × (function_for needs m ≡ numbered_function fs (suc i)))
      ⊎ (idle_function ≡ numbered_function fs (suc i))) (sym is)
      (made-by (function_for needs) (different needs) i idle_function))
    where
      by-need : (m : ℕ) → (k : ℕ) × (slice_get (outports_of d.rows s) k ≡ Some q) × (slice_get needs k ≡ Some m) →
          Contains (outports_of d.rows s) q × IsMaskOf (TrueNeeds d s q) m
      by-need m (k, out, need) =
          let faced = facing (λ o mask. IsMaskOf (TrueNeeds d s o) mask) (outports_of d.rows s) needs k m are need in
          let same : faced.0 ≡ q = (let e : Some faced.0 ≡ Some q = sym faced.1 ∙ out in cc e) in
          (in-at (outports_of d.rows s) k q out, subst (λ o. IsMaskOf (TrueNeeds d s o) m) same faced.2)

      by : ((m : ℕ) × (function_for needs m ≡ numbered_function functions (suc i)))
          ⊎ (idle_function ≡ numbered_function functions (suc i)) →
          Contains (outports_of d.rows s) q × IsMaskOf (TrueNeeds d s q) (numbered_function functions (suc i)).inputs
      by (inl (m, same)) =
          let need = by-need m
          (need-of needs (outports_of d.rows s) m q
          (subst (λ f. Contains (given_by_function f (outports_of d.rows s)) q) (sym same) h)) in
          (need.0, subst (λ (f : Function). IsMaskOf (TrueNeeds d s q) f.inputs) same need.1)
      by (inr none) =
          absurd (nothing-given (outports_of d.rows s) q
          (subst (λ f. Contains (given_by_function f (outports_of d.rows s)) q) (sym none) h))

-- the rows of the outputs of a header
output-rows : (d : Diagram) (os : List ℕ) → map (λ (o : ℕ × FixType). o.0) (map {B = ℕ × FixType} (λ o. (o, type_at d.types o)) os) ≡ os
output-rows d [] = refl
output-rows d (o ∷ os) = ap (λ rest. o ∷ rest) (output-rows d os)

module _ (d : Diagram) (h : SystemHeader) (is : h ≡ header_of d h.row h.profile) (profile : IsProfileOf d h.row h.profile) where
  pub outs-are : map (λ (o : ℕ × FixType). o.0) h.outputs ≡ outports_of d.rows h.row
  outs-are = ap (λ (g : SystemHeader). map (λ (o : ℕ × FixType). o.0) g.outputs) is ∙ output-rows d (outports_of d.rows h.row)

  pub header-gives : (q : ℕ) → Contains (outports_of d.rows h.row) q → (j : ℕ) × Contains (given_rows h j) q
  header-gives q m =
      let f = has-function d h.row h.profile.functions profile.needs profile.are_needs profile.functions q m in
      (f.0, subst (λ outs. Contains (given_by_function (header_function h f.0) outs) q) (sym outs-are) f.1)

  pub header-needs : (j q : ℕ) → Contains (given_rows h j) q →
      Contains (outports_of d.rows h.row) q × IsMaskOf (TrueNeeds d h.row q) (header_function h j).inputs
  header-needs j q m =
      has-needs d h.row h.profile.functions profile.needs profile.are_needs profile.functions j q
      (subst (λ outs. Contains (given_by_function (header_function h j) outs) q) outs-are m)
