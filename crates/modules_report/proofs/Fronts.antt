-- Which functions can come first, and how they are completed.
use Rattle.std.proofs.Common.{◌≡◌, ◌⊎◌, ℕ, suc, ◌-◌, ◌<◌, ◌≤◌, ◌==◌, ◌||◌, Bool, true, false, cond, List, [], ◌∷◌, ◌++◌, length, get_or, map, refl, sym, ap, ap₂, subst, ◌∙◌, append-nil, arith, inl, inr}
use Rattle.std.specs.List.{AllByRecursion, range_with_len}
use Rattle.std.proofs.lemmas.Bool.{eq-eqb, eqb-true, false≢true, ne_eqb}
use Rattle.std.proofs.lemmas.List.{ext_get_or, get_or-map, length-append, length-map, map-append}
use Rattle.std.proofs.lemmas.List.FromFn.{get_or-map-range_with_len, length-map-range_with_len}
use Rattle.base_core.specs.Interface.{different}
use Rattle.modules_profile.specs.declared.Function.{Function}
use Rattle.modules_profile.specs.Functions.{function_for, functions_for, mask_of}
use Rattle.modules_report.specs.Following.{AreAllFunctions, AreFirstFunctions, CanComeFirst, need_of, needs_of, not_known}
use Rattle.modules_report.proofs.Differents.{among, apart, different-unseen, nothing, unseen}
use Rattle.modules_report.proofs.Fills.{AreNew, all-filled, fill, length-fill, new-last, new-others, same-filled}
use Rattle.modules_report.proofs.HiddenNeeds.{all-shown, ends, enough-hidden, hidden_of, hide, none-hidden, same-places, shown-first, shown-same}
use Rattle.modules_report.proofs.ReadSystems.{all-known, known}
use Rattle.modules_report.proofs.SameNeeds.{has-mask, to-different}

-- ---- Members of lists

or-right : (s t : Bool) → t ≡ true → (s || t) ≡ true
or-right true t e = refl
or-right false t e = e

own-among : (xs zs : List ℕ) → ((m : ℕ) → among xs m ≡ true → among zs m ≡ true) → AllByRecursion (λ m. among zs m ≡ true) xs
own-among [] zs h = tt
own-among (x ∷ xs) zs h = (
  h x (ap (λ (t : Bool). t || among xs x) (eq-eqb x x refl)),
  own-among xs zs (λ m e. h m (or-right (m == x) (among xs m) e)),
)

pub all-among : (xs : List ℕ) → AllByRecursion (λ m. among xs m ≡ true) xs
all-among xs = own-among xs xs (λ m e. e)

none-among : (xs : List ℕ) (k : ℕ) → AllByRecursion (λ x. x ≡ k → ⊥) xs → among xs k ≡ false
none-among [] k a = refl
none-among (x ∷ xs) k a = ap (λ (t : Bool). t || among xs k) (ne_eqb k x (λ same. a.0 (sym same))) ∙ none-among xs k a.1

pub first-part : {X : Type 0} (P : X → Type 0) (xs ys : List X) → AllByRecursion P (xs ++ ys) → AllByRecursion P xs
first-part P [] ys a = tt
first-part P (x ∷ xs) ys a = (a.0, first-part P xs ys a.1)

-- ---- Functions for needs

pub record Cut (D : List ℕ) (f : ℕ → Function) (xs ys : List Function) : Type 0 where
  pub before : List ℕ
  pub behind : List ℕ
  pub is : D ≡ before ++ behind
  pub firsts : map f before ≡ xs
  pub others : map f behind ≡ ys

abbrev function-or : Function → List Function → Function
function-or d [] = d
function-or d (x ∷ xs) = x

abbrev functions-rest : List Function → List Function
functions-rest [] = []
functions-rest (x ∷ xs) = xs

pub cut-map : (f : ℕ → Function) (D : List ℕ) (xs ys : List Function) → map f D ≡ xs ++ ys → Cut D f xs ys
cut-map f D [] ys e = record { before = []; behind = D; is = refl; firsts = refl; others = e }
cut-map f [] (x ∷ xs) ys e = absurd (let long : 0 ≡ suc (length (xs ++ ys)) = ap (λ (t : List Function). length t) e in omega (arith, long))
cut-map f (d ∷ D) (x ∷ xs) ys e =
    let more = cut-map f D xs ys (ap functions-rest e) in record {
      before = d ∷ more.before;
      behind = more.behind;
      is = ap (λ (t : List ℕ). d ∷ t) more.is;
      firsts = ap₂ (λ (k : Function) (ks : List Function). k ∷ ks) (ap (function-or x) e) more.firsts;
      others = more.others;
    }

pub same-each : (f g : ℕ → Function) (P : ℕ → Type 0) (ds : List ℕ) → ((d : ℕ) → P d → f d ≡ g d) →
    AllByRecursion P ds → map f ds ≡ map g ds
same-each f g P [] same a = refl
same-each f g P (d ∷ ds) same a = ap₂ (λ (k : Function) (ks : List Function). k ∷ ks) (same d a.0) (same-each f g P ds same a.1)

inputs-of : (needs ds : List ℕ) → map (λ (f : Function). f.inputs) (map (function_for needs) ds) ≡ ds
inputs-of needs [] = refl
inputs-of needs (d ∷ ds) = ap (λ (t : List ℕ). d ∷ t) (inputs-of needs ds)

same-function : (needs others : List ℕ) (d : ℕ) → map (λ n. n == d) others ≡ map (λ n. n == d) needs →
    function_for others d ≡ function_for needs d
same-function needs others d e = λ i. record { inputs = d; outputs = mask_of (e i) }

-- the need of an output by functions for some of the needs
need-shown : (needs ds : List ℕ) (k : ℕ) → k < length needs →
    need_of (map (function_for needs) ds) k ≡ cond (among ds (get_or needs k 0)) (get_or needs k 0) not_known
need-shown needs [] k within = refl
need-shown needs (d ∷ ds) k within =
    ap (λ (t : Bool). cond t d (need_of (map (function_for needs) ds) k)) (has-mask (map (λ n. n == d) needs) k
    ∙ get_or-map (λ n. n == d) needs k 0 false within)
    ∙ by (get_or needs k 0 == d) refl (need-shown needs ds k within)
  where
    n : ℕ
    n = get_or needs k 0

    by : (t : Bool) → (n == d) ≡ t → need_of (map (function_for needs) ds) k ≡ cond (among ds n) n not_known →
        cond (n == d) d (need_of (map (function_for needs) ds) k) ≡ cond ((n == d) || among ds n) n not_known
    by true is more = ap (λ (t : Bool). cond t d (need_of (map (function_for needs) ds) k)) is ∙ sym (eqb-true n d is)
        ∙ sym (ap (λ (t : Bool). cond (t || among ds n) n not_known) is)
    by false is more = ap (λ (t : Bool). cond t d (need_of (map (function_for needs) ds) k)) is ∙ more
        ∙ sym (ap (λ (t : Bool). cond (t || among ds n) n not_known) is)

module _ (outputs : ℕ) (needs : List ℕ) (len : length needs ≡ outputs) where
  shown-needs : (ds : List ℕ) (hides : among ds not_known ≡ false) →
      needs_of outputs (map (function_for needs) ds) ≡ map (hide (among ds) hides) needs
  shown-needs ds hides =
      ext_get_or 0 (needs_of outputs (map (function_for needs) ds)) (map (hide (among ds) hides) needs)
      (length-map-range_with_len (need_of (map (function_for needs) ds)) 0 outputs ∙ sym len
      ∙ sym (length-map needs (hide (among ds) hides)))
      (λ k within.
      let all = length-map-range_with_len (need_of (map (function_for needs) ds)) 0 outputs in
      get_or-map-range_with_len (need_of (map (function_for needs) ds)) 0 outputs k k 0 (omega (arith, within, all)) (omega arith)
      ∙ need-shown needs ds k (omega (arith, within, all, len))
      ∙ sym (get_or-map (hide (among ds) hides) needs k 0 0 (omega (arith, within, all, len))))

  module _ (known-all : AllByRecursion (λ n. n ≡ not_known → ⊥) needs) where
    -- the first of the functions for needs can come first
    pub front-can : (ds es : List ℕ) → different needs ≡ ds ++ es → CanComeFirst outputs (length (ds ++ es)) (map (function_for needs) ds)
    front-can ds es e = by es refl
      where
        seen : unseen nothing needs ≡ ds ++ es
        seen = sym (different-unseen needs) ∙ e

        hides : among ds not_known ≡ false
        hides = none-among ds not_known (first-part (λ n. n ≡ not_known → ⊥) ds es
            (subst (AllByRecursion (λ n. n ≡ not_known → ⊥)) e (to-different (λ n. n ≡ not_known → ⊥) needs known-all)))

        after : AllByRecursion (λ x. among ds x ≡ false) es
        after = apart nothing needs ds es seen

        fs : List Function
        fs = map (function_for needs) ds

        needs-are : needs_of outputs fs ≡ map (hide (among ds) hides) needs
        needs-are = shown-needs ds hides

        by : (xs : List ℕ) → es ≡ xs → CanComeFirst outputs (length (ds ++ es)) fs
        by [] is =
            let whole : ds ++ es ≡ ds = ap (λ (t : List ℕ). ds ++ t) is ∙ append-nil ds in
            let shown = all-shown (among ds) hides nothing needs ds (λ m h. absurd (false≢true h)) (all-among ds) (seen ∙ whole) in
            inl record {
              none_open = ap hidden_of (needs-are ∙ shown-same (among ds) hides needs shown) ∙ none-hidden (among ds) needs hides shown;
              number = length-map ds (function_for needs) ∙ sym (ap (λ (t : List ℕ). length t) whole);
              all = ap functions_for (needs-are ∙ shown-same (among ds) hides needs shown) ∙ ap (map (function_for needs)) (e ∙ whole);
            }
        by (x ∷ xs) is =
            let some_open : length es ≤ hidden_of (needs_of outputs fs) = subst (λ (t : List ℕ). length es ≤ hidden_of t) (sym needs-are)
            (enough-hidden (among ds) hides nothing needs ds es after seen) in
            let some : length es ≡ suc (length xs) = ap (λ (t : List ℕ). length t) is in
            let sum = length-append ds es in let same = length-map ds (function_for needs) in
            inr record {
              some_open = omega (arith, some_open, some);
              more = omega (arith, sum, same, some);
              enough = omega (arith, sum, same, some_open);
              first = (
                function_for (map (hide (among ds) hides) needs) not_known,
                ap functions_for needs-are
                    ∙ ap (map (function_for (map (hide (among ds) hides) needs)))
                    (different-unseen (map (hide (among ds) hides) needs)
                    ∙ shown-first (among ds) hides nothing needs ds es (λ m h. absurd (false≢true h)) (all-among ds) after seen
                    ∙ ap (λ (t : List ℕ). ds ++ ends t) is)
                    ∙ map-append (function_for (map (hide (among ds) hides) needs)) ds (not_known ∷ [])
                    ∙ ap (λ (t : List Function). t ++ function_for (map (hide (among ds) hides) needs) not_known ∷ [])
                    (same-each (function_for (map (hide (among ds) hides) needs)) (function_for needs) (λ d. among ds d ≡ true) ds
                    (λ d own. same-function needs (map (hide (among ds) hides) needs) d
                    (same-places (among ds) hides d needs own)) (all-among ds)),
              );
            }

-- ---- Completion

-- needs of all outputs whose functions begin so
pub record Completion (P : ℕ → Type 0) (outputs count : ℕ) (fs : List Function) : Type 0 where
  pub needs : List ℕ
  pub one_each : length needs ≡ outputs
  pub each : AllByRecursion P needs
  pub behind : List Function
  pub functions : functions_for needs ≡ fs ++ behind
  pub number : length (functions_for needs) ≡ count

module _ (P : ℕ → Type 0) (real : (n : ℕ) → P n → n ≡ not_known → ⊥) (outputs count : ℕ) (fs : List Function)
    (sets : AllByRecursion (λ (f : Function). P f.inputs) fs) where
  pub whole-completed : AreAllFunctions outputs count fs → Completion P outputs count fs
  whole-completed all = record {
    needs = needs_of outputs fs;
    one_each = length-map-range_with_len (need_of fs) 0 outputs;
    each = all-known P fs (range_with_len 0 outputs) sets all.none_open;
    behind = [];
    functions = all.all ∙ sym (append-nil fs);
    number = ap (λ (gs : List Function). length gs) all.all ∙ all.number;
  }

  each-known : (Q : ℕ → Type 0) → AllByRecursion (λ (f : Function). Q f.inputs) fs → (ks : List ℕ) →
      AllByRecursion (λ n. (n ≡ not_known) ⊎ Q n) (map (need_of fs) ks)
  each-known Q a [] = tt
  each-known Q a (k ∷ ks) = (known Q fs k a, each-known Q a ks)

  input-each : (Q : ℕ → Type 0) (gs : List Function) → AllByRecursion Q (map (λ (f : Function). f.inputs) gs) →
      AllByRecursion (λ (f : Function). Q f.inputs) gs
  input-each Q [] a = tt
  input-each Q (g ∷ gs) a = (a.0, input-each Q gs a.1)

  each-input : (gs : List Function) → AllByRecursion (λ (f : Function). P f.inputs) gs →
      AllByRecursion P (map (λ (f : Function). f.inputs) gs)
  each-input [] a = tt
  each-input (g ∷ gs) a = (a.0, each-input gs a.1)

  all-real : (xs : List ℕ) → AllByRecursion P xs → AllByRecursion (λ d. d ≡ not_known → ⊥) xs
  all-real [] a = tt
  all-real (x ∷ xs) a = (real x a.0, all-real xs a.1)

  pub first-completed : AreFirstFunctions outputs count fs → (us : List ℕ) → length us ≡ count - length fs →
      AreNew (among (map (λ (f : Function). f.inputs) fs)) us → AllByRecursion P us → Completion P outputs count fs
  first-completed first [] len new own = absurd (let more = first.more in omega (arith, len, more))
  first-completed first (u ∷ us) len new own = record {
    needs = filled;
    one_each = length-fill u (u ∷ us) needs ∙ length-map-range_with_len (need_of fs) 0 outputs;
    each = all-filled P u (u ∷ us) needs own.0 own (each-known P sets (range_with_len 0 outputs));
    behind = map (function_for filled) (u ∷ us);
    functions = begins;
    number = ap (λ (gs : List Function). length gs) begins ∙ length-append fs (map (function_for filled) (u ∷ us))
        ∙ (let rest : length (map (function_for filled) (u ∷ us)) ≡ length (u ∷ us) = length-map (u ∷ us) (function_for filled) in
        let more = first.more in omega (arith, rest, len, more));
  }
    where
      needs : List ℕ
      needs = needs_of outputs fs

      filled : List ℕ
      filled = fill u (u ∷ us) needs

      ins : List ℕ
      ins = map (λ (f : Function). f.inputs) fs

      parts : Cut (different needs) (function_for needs) fs (first.first.0 ∷ [])
      parts = cut-map (function_for needs) (different needs) fs (first.first.0 ∷ []) first.first.1

      same-inputs : parts.before ≡ ins
      same-inputs = sym (inputs-of needs parts.before) ∙ ap (map (λ (f : Function). f.inputs)) parts.firsts

      one-end : (es : List ℕ) → map (function_for needs) es ≡ first.first.0 ∷ [] → (e : ℕ) × (es ≡ e ∷ [])
      one-end [] e = absurd (let long : 0 ≡ 1 = ap (λ (t : List Function). length t) e in omega (arith, long))
      one-end (x ∷ []) e = (x, refl)
      one-end (x ∷ y ∷ es) e =
          absurd (let long : suc (suc (length (map (function_for needs) es)))
          ≡ 1 = ap (λ (t : List Function). length t) e in omega (arith, long))

      last : (e : ℕ) × (parts.behind ≡ e ∷ [])
      last = one-end parts.behind parts.others

      are-different : unseen nothing needs ≡ ins ++ last.0 ∷ []
      are-different = sym (different-unseen needs) ∙ parts.is ∙ ap₂ (λ (x y : List ℕ). x ++ y) same-inputs last.1

      own-ins : AllByRecursion (λ n. among ins n ≡ true) ins
      own-ins = all-among ins

      enough-open : length (u ∷ us) ≤ hidden_of needs
      enough-open = let enough = first.enough in omega (arith, len, enough)

      now-different : different filled ≡ ins ++ u ∷ us
      now-different = different-unseen filled
          ∙ new-last nothing (among ins) u u us needs ins last.0 refl (λ m h. absurd (false≢true h)) new
          (each-known (λ n. among ins n ≡ true) (input-each (λ n. among ins n ≡ true) fs own-ins) (range_with_len 0 outputs))
          (all-real ins (each-input fs sets)) enough-open are-different

      others : (d : ℕ) → among ins d ≡ true → AllByRecursion (λ x. x ≡ d → ⊥) (u ∷ us)
      others d is = new-others (among ins) (u ∷ us) d new is

      kept : (ds : List ℕ) → AllByRecursion (λ d. d ≡ not_known → ⊥) ds → AllByRecursion (λ n. among ins n ≡ true) ds →
          map (function_for filled) ds ≡ map (function_for needs) ds
      kept [] a b = refl
      kept (d ∷ ds) a b = ap₂ (λ (k : Function) (ks : List Function). k ∷ ks)
          (same-function needs filled d (same-filled d u (u ∷ us) needs a.0 (others d b.0).0 (others d b.0))) (kept ds a.1 b.1)

      begins : functions_for filled ≡ fs ++ map (function_for filled) (u ∷ us)
      begins = ap (map (function_for filled)) now-different ∙ map-append (function_for filled) ins (u ∷ us)
          ∙ ap (λ (t : List Function). t ++ map (function_for filled) (u ∷ us))
          (kept ins (all-real ins (each-input fs sets)) own-ins ∙ ap (map (function_for needs)) (sym same-inputs) ∙ parts.firsts)
