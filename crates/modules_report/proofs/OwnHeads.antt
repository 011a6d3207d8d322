-- The line of each report is possible, and what can come first in a system is completed to a report.
use Rattle.std.proofs.Common.{◌≡◌, ℕ, ◌-◌, ◌^◌, ◌<◌, ◌≤◌, ◌==◌, ◌||◌, eqb, Bool, true, false, List, [], ◌∷◌, ◌++◌, length, map, refl, sym, ap, subst, ◌∙◌, arith, inl, inr}
use Rattle.std.specs.List.{AllByRecursion, IsDistinct}
use Rattle.std.proofs.lemmas.Bool.{false≢true, ne_eqb}
use Rattle.std.proofs.lemmas.List.{length-map}
use Rattle.std.proofs.Math.Nat.{pow-suc}
use Rattle.base_core.specs.Interface.{different}
use Rattle.base_core.specs.declared.Port.{Port}
use Rattle.base_core.specs.declared.Port.TheVariants.{Number, Enable, Trigger}
use Rattle.modules_certificate.specs.Sound.{differences_from, first_outputs}
use Rattle.modules_certificate.proofs.lemmas.MadeCertificates.{made}
use Rattle.modules_profile.specs.declared.Function.{Function}
use Rattle.modules_profile.specs.Functions.{function_for, functions_for, mask_of}
use Rattle.modules_report.specs.declared.head.Head.{Head}
use Rattle.modules_report.specs.Following.{CanComeFirst, controls_with, not_known}
use Rattle.modules_report.specs.Heads.{IsHeadOf, IsPossible, head_ports}
use Rattle.modules_report.specs.PlainReport.{PlainReport}
use Rattle.modules_report.specs.Reading.{HasRow, IsSystemReport}
use Rattle.modules_report.specs.Reports.{IsSetOf}
use Rattle.base_core.specs.Ports.{AreControls}
use Rattle.modules_report.specs.Stops.{IsFunctionOf}
use Rattle.modules_report.specs.Texts.{ports_of, ports_with}
use Rattle.modules_report.proofs.AllSets.{all_sets, each-among, few-among, news, sets-are, sets-distinct, sets-length}
use Rattle.modules_report.proofs.Differents.{also-self, among, and-also, different-unseen, none-seen, nothing, unseen, unseen-keep, unseen-none, unseen-skip}
use Rattle.modules_report.proofs.Fronts.{Completion, first-completed, front-can, whole-completed}
use Rattle.modules_report.proofs.ReadSystems.{are-controls}
use Rattle.modules_report.proofs.SameNeeds.{at-each, each-one, to-different}
use Rattle.modules_report.proofs.ToldLines.{set-bound}

-- ---- Different members

distinct-unseen : (p : ℕ → Bool) (ns : List ℕ) → IsDistinct eqb (unseen p ns)
unfolding IsDistinct
distinct-unseen p [] = subst (IsDistinct eqb) (sym (unseen-none p)) tt
distinct-unseen p (n ∷ ns) = by (p n) refl (λ q. distinct-unseen q ns)
  where
    one : (m : ℕ) → and-also nothing n m ≡ false → eqb n m ≡ false
    one m e = ne_eqb n m (λ same. false≢true (sym e ∙ subst (λ k. and-also nothing n k ≡ true) same (also-self nothing n)))

    turned : (xs : List ℕ) → AllByRecursion (λ m. and-also nothing n m ≡ false) xs → AllByRecursion (λ m. eqb n m ≡ false) xs
    turned [] a = tt
    turned (x ∷ xs) a = (one x a.0, turned xs a.1)

    by : (t : Bool) → p n ≡ t → ((q : ℕ → Bool) → IsDistinct eqb (unseen q ns)) → IsDistinct eqb (unseen p (n ∷ ns))
    by true is more = subst (IsDistinct eqb) (sym (unseen-skip p n ns is)) (more p)
    by false is more = subst (IsDistinct eqb) (sym (unseen-keep p n ns is)) (
      turned (unseen (and-also p n) ns) (none-seen (and-also p n) (and-also nothing n) ns (within n)),
      more (and-also p n),
    )
      where
        within : (k m : ℕ) → and-also nothing k m ≡ true → and-also p k m ≡ true
        within k m e = at (m == k) e
          where
            at : (t : Bool) → (t || false) ≡ true → (t || p m) ≡ true
            at true f = refl
            at false f = absurd (false≢true f)

-- ---- The line of a report

pub record OwnHead (r : PlainReport) : Type 0 where
  pub head : Head
  pub is : IsHeadOf r head
  pub row : HasRow head.row
  pub possible : IsPossible head

record OwnControls (cs : List Port) : Type 0 where
  pub enabled : Bool
  pub triggered : Bool
  pub are : controls_with enabled triggered ≡ cs

own-controls : (cs : List Port) → AreControls cs → OwnControls cs
own-controls [] c = record { enabled = false; triggered = false; are = refl }
own-controls (Number k ∷ ps) c = absurd c
own-controls (Enable ∷ []) c = record { enabled = true; triggered = false; are = refl }
own-controls (Enable ∷ Number k ∷ ps) c = absurd c
own-controls (Enable ∷ Enable ∷ ps) c = absurd c
own-controls (Enable ∷ Trigger ∷ []) c = record { enabled = true; triggered = true; are = refl }
own-controls (Enable ∷ Trigger ∷ p ∷ ps) c = absurd c
own-controls (Trigger ∷ []) c = record { enabled = false; triggered = true; are = refl }
own-controls (Trigger ∷ p ∷ ps) c = absurd c

pub real-set : (h : Head) → h.inputs ≤ 32 → (n : ℕ) → IsSetOf (head_ports h) n → n ≡ not_known → ⊥
real-set h few n is same = let small = set-bound h n few is in omega (arith, small, same)

all-real : (h : Head) → h.inputs ≤ 32 → (ns : List ℕ) → AllByRecursion (IsSetOf (head_ports h)) ns →
    AllByRecursion (λ n. n ≡ not_known → ⊥) ns
all-real h few [] a = tt
all-real h few (n ∷ ns) a = (real-set h few n a.0, all-real h few ns a.1)

pub own-head : (r : PlainReport) → IsSystemReport r → OwnHead r
own-head r h = record {
  head = line;
  is = record { row = refl; inputs = refl; outputs = refl; functions = refl; controls = cs.are };
  row = h.row;
  possible = record {
    inputs = h.report.inputs;
    outputs = h.report.outputs;
    sets = (let most = few-among (different needs) sets
        (subst (IsDistinct eqb) (sym (different-unseen needs)) (distinct-unseen nothing needs)) in-sets in
        let len = sets-length r.inputs h.report.inputs cs.enabled cs.triggered in omega (arith, most, len, number));
    functions =
        subst (λ n. CanComeFirst r.outputs n []) (sym number)
        (front-can r.outputs needs h.report.one_each (all-real line h.report.inputs needs own) []
        (different needs) refl);
  };
}
  where
    needs : List ℕ
    needs = h.report.needs

    cs : OwnControls r.controls
    cs = own-controls r.controls h.report.controls

    line : Head
    line = record {
      row = r.row;
      inputs = r.inputs;
      outputs = r.outputs;
      functions = length r.profile.functions;
      enabled = cs.enabled;
      triggered = cs.triggered;
    }

    own : AllByRecursion (IsSetOf (head_ports line)) needs
    own = subst (λ (ps : List Port). AllByRecursion (IsSetOf (ports_with r.inputs ps)) needs) (sym cs.are)
        (each-one (IsSetOf (ports_of r)) needs h.report.in_inputs)

    sets : List ℕ
    sets = all_sets (2 ^ r.inputs) cs.enabled cs.triggered

    each : (ns : List ℕ) → AllByRecursion (IsSetOf (head_ports line)) ns → AllByRecursion (λ n. among sets n ≡ true) ns
    each [] a = tt
    each (n ∷ ns) a = (each-among r.inputs h.report.inputs cs.enabled cs.triggered n a.0, each ns a.1)

    in-sets : AllByRecursion (λ n. among sets n ≡ true) (different needs)
    in-sets = each (different needs) (to-different (IsSetOf (head_ports line)) needs own)

    number : length r.profile.functions ≡ length (different needs)
    number = ap (λ (fs : List Function). length fs) h.report.functions ∙ length-map (different needs) (function_for needs)

-- ---- The functions of a report

mask-bound : (bits : List Bool) → mask_of bits < 2 ^ length bits
mask-bound [] = omega arith
mask-bound (true ∷ bits) = let more = mask-bound bits in let p = pow-suc 2 (length bits) in omega (arith, more, p)
mask-bound (false ∷ bits) = let more = mask-bound bits in let p = pow-suc 2 (length bits) in omega (arith, more, p)

pub functions-are : (ports : List Port) (outputs : ℕ) (needs : List ℕ) → length needs ≡ outputs → AllByRecursion (IsSetOf ports) needs →
    AllByRecursion (IsFunctionOf ports outputs) (functions_for needs)
functions-are ports outputs needs len own = each (different needs) (to-different (IsSetOf ports) needs own)
  where
    bound : (d : ℕ) → mask_of (map (λ n. n == d) needs) < 2 ^ outputs
    bound d =
        subst (λ k. mask_of (map (λ n. n == d) needs) < 2 ^ k) (length-map needs (λ n. n == d) ∙ len)
        (mask-bound (map (λ n. n == d) needs))

    each : (ds : List ℕ) → AllByRecursion (IsSetOf ports) ds → AllByRecursion (IsFunctionOf ports outputs) (map (function_for needs) ds)
    each [] a = tt
    each (d ∷ ds) a = (record { takes = a.0; gives = bound d }, each ds a.1)

-- ---- Completion

pub record Completed (h : Head) (fs : List Function) : Type 0 where
  pub report : PlainReport
  pub is : IsSystemReport report
  pub head : IsHeadOf report h
  pub behind : List Function
  pub functions : report.profile.functions ≡ fs ++ behind

pub completed : (h : Head) (fs : List Function) → HasRow h.row → IsPossible h →
    AllByRecursion (λ (f : Function). IsSetOf (head_ports h) f.inputs) fs →
    CanComeFirst h.outputs h.functions fs → Completed h fs
completed h fs row possible sets can = record {
  report = report;
  is = record {
    row = row;
    report = record {
      inputs = possible.inputs;
      controls = are-controls h.enabled h.triggered;
      outputs = possible.outputs;
      needs = whole.needs;
      one_each = whole.one_each;
      in_inputs = λ k d within. at-each (IsSetOf (head_ports h)) whole.needs k d whole.each within;
      row = refl;
      functions = refl;
      certificate = made whole.needs (λ k d within. at-each (λ n. n < 2 ^ 64) whole.needs k d (fit whole.needs whole.each) within);
    };
  };
  head = record { row = refl; inputs = refl; outputs = refl; functions = sym whole.number; controls = refl };
  behind = whole.behind;
  functions = whole.functions;
}
  where
    fit : (ns : List ℕ) → AllByRecursion (IsSetOf (head_ports h)) ns → AllByRecursion (λ n. n < 2 ^ 64) ns
    fit [] a = tt
    fit (n ∷ ns) a = ((let small = set-bound h n possible.inputs a.0 in omega (arith, small)), fit ns a.1)

    ins : List ℕ
    ins = map (λ (f : Function). f.inputs) fs

    whole : Completion (IsSetOf (head_ports h)) h.outputs h.functions fs
    whole = by can
      where
        by : CanComeFirst h.outputs h.functions fs → Completion (IsSetOf (head_ports h)) h.outputs h.functions fs
        by (inl all) = whole-completed (IsSetOf (head_ports h)) (real-set h possible.inputs) h.outputs h.functions fs sets all
        by (inr first) =
            let new =
            news (IsSetOf (head_ports h)) (all_sets (2 ^ h.inputs) h.enabled h.triggered)
            (sets-distinct h.inputs possible.inputs h.enabled h.triggered)
            (sets-are h.inputs possible.inputs h.enabled h.triggered) (h.functions - length fs) ins
            (let len = sets-length h.inputs possible.inputs h.enabled h.triggered in let most = possible.sets in
            let same = length-map fs (λ (f : Function). f.inputs) in let more = first.more in omega (arith, len, most, same, more)) in
            first-completed (IsSetOf (head_ports h)) (real-set h possible.inputs) h.outputs h.functions fs sets first
            new.members new.number new.are_new new.each

    report : PlainReport
    report = record {
      row = h.row;
      inputs = h.inputs;
      controls = controls_with h.enabled h.triggered;
      outputs = h.outputs;
      profile = record { row = h.row; functions = functions_for whole.needs };
      certificate = record {
        representatives = first_outputs whole.needs;
        differ = differences_from whole.needs (first_outputs whole.needs) 0 (length (first_outputs whole.needs));
      };
    }
