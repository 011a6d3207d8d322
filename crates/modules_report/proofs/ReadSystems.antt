-- What is read of a system is a report, and its text is what was read.
use Rattle.std.proofs.Common.{◌≡◌, ◌⊎◌, ℕ, ◌≤◌, ◌==◌, Bool, true, false, cond, List, [], ◌∷◌, ◌++◌, length, map, refl, sym, ap, ap₂, subst, ◌∙◌, append-nil, append_assoc, arith, inl, inr}
use Rattle.std.specs.Prelude.{All, flat_map}
use Rattle.std.specs.List.{AllByRecursion, count_by, range_with_len}
use Rattle.std.proofs.lemmas.Bool.{eq-eqb}
use Rattle.std.proofs.lemmas.List.{flat_map_more}
use Rattle.std.proofs.lemmas.List.Sums.{sum_by-cons}
use Rattle.std.proofs.lemmas.List.FromFn.{length-map-range_with_len}
use Rattle.base_core.specs.declared.Port.{Port}
use Rattle.modules_certificate.specs.declared.Difference.{Difference}
use Rattle.modules_certificate.specs.Sound.{IsCertificateFor}
use Rattle.modules_profile.specs.declared.Function.{Function}
use Rattle.base_core.specs.Ports.{has_bit, AreControls}
use Rattle.modules_report.specs.declared.head.Head.{Head}
use Rattle.modules_report.specs.Following.{AreAllFunctions, controls_with, need_of, needs_of, not_known}
use Rattle.modules_report.specs.Heads.{IsHeadOf, IsPossible, head_ports, head_text}
use Rattle.modules_report.specs.PlainReport.{PlainReport}
use Rattle.modules_report.specs.Reading.{HasRow, IsSystemReport, IsTextOf}
use Rattle.modules_report.specs.Reports.{IsSetOf}
use Rattle.modules_report.specs.Texts.{differ_line, head_line, last_line, out_lines, ports_of, ports_with, system_line, system_text}
use Rattle.modules_report.proofs.OneReport.{differ_lines, system-parts}
use Rattle.modules_report.proofs.SameNeeds.{at-each}

-- ---- Needs

module _ (P : ℕ → Type 0) where
  -- needs that are known are those of a function
  pub known : (fs : List Function) (k : ℕ) → AllByRecursion (λ (f : Function). P f.inputs) fs →
      (need_of fs k ≡ not_known) ⊎ P (need_of fs k)
  known [] k a = inl refl
  known (f ∷ fs) k a = by (has_bit f.outputs k) (known fs k a.1)
    where
      by : (t : Bool) → (need_of fs k ≡ not_known) ⊎ P (need_of fs k) →
          (cond t f.inputs (need_of fs k) ≡ not_known) ⊎ P (cond t f.inputs (need_of fs k))
      by true more = inr a.0
      by false more = more

  abbrev one-if : ℕ → ℕ
  one-if n = cond (n == not_known) 1 0

  pub all-known : (fs : List Function) (ks : List ℕ) → AllByRecursion (λ (f : Function). P f.inputs) fs →
      count_by (λ n. n == not_known) (map (need_of fs) ks) ≡ 0 → AllByRecursion P (map (need_of fs) ks)
  all-known fs [] a none = tt
  all-known fs (k ∷ ks) a none = elim (known fs k a) [
    | inl same ↦ absurd (let e : one-if (need_of fs k) ≡ 1 = ap (λ (t : Bool). cond t 1 0) (eq-eqb (need_of fs k) not_known same) in
        let first = sum_by-cons one-if (need_of fs k) (map (need_of fs) ks) in omega (arith, none, e, first))
    | inr own ↦ (own, all-known fs ks a (let first = sum_by-cons one-if (need_of fs k) (map (need_of fs) ks) in omega (arith, none, first)))
  ]

-- ---- Controls

pub are-controls : (enabled triggered : Bool) → AreControls (controls_with enabled triggered)
are-controls true true = tt
are-controls true false = tt
are-controls false true = tt
are-controls false false = tt

-- ---- The report

module _ (r : PlainReport) (h : Head) (is : IsHeadOf r h) where
  same-ports : head_ports h ≡ ports_of r
  same-ports = ap₂ (λ (n : ℕ) (ps : List Port). ports_with n ps) is.inputs is.controls

  same-line : (n : ℕ) → h.functions ≡ n → n ≡ length r.profile.functions → head_text h ≡ system_line r
  same-line n e f = λ i. head_line (is.row i) (is.inputs i) (is.outputs i) ((e ∙ f) i) (is.controls i)

  pub read-report : (fs : List Function) → IsPossible h → HasRow r.row → r.profile.row ≡ r.row → r.profile.functions ≡ fs →
      AllByRecursion (λ (f : Function). IsSetOf (head_ports h) f.inputs) fs → AreAllFunctions h.outputs h.functions fs →
      IsCertificateFor (needs_of h.outputs fs) r.certificate → IsSystemReport r
  read-report fs possible row profile_row functions sets all certificate = record {
    row = row;
    report = record {
      inputs = subst (λ n. n ≤ 32) is.inputs possible.inputs;
      controls = subst AreControls is.controls (are-controls h.enabled h.triggered);
      outputs = subst (λ n. n ≤ 32) is.outputs possible.outputs;
      needs = needs_of h.outputs fs;
      one_each = length-map-range_with_len (need_of fs) 0 h.outputs ∙ is.outputs;
      in_inputs = λ k d within. at-each (IsSetOf (ports_of r)) (needs_of h.outputs fs) k d
          (subst (λ (ps : List Port). AllByRecursion (IsSetOf ps) (needs_of h.outputs fs)) same-ports
          (all-known (IsSetOf (head_ports h)) fs (range_with_len 0 h.outputs) sets all.none_open)) within;
      row = profile_row;
      functions = functions ∙ sym all.all;
      certificate = certificate;
    };
  }

  pub read-text : (fs : List Function) (ds : List Difference) (here one two three : List ℕ) → r.profile.functions ≡ fs →
      r.certificate.differ ≡ ds →
      here ≡ head_text h ++ one → one ≡ out_lines (head_ports h) h.outputs 1 fs ++ two →
      two ≡ flat_map (differ_line (head_ports h)) ds ++ three → here ≡ system_text r ++ three
  read-text fs ds here one two three functions differ first second third =
      first ∙ ap₂ (λ (x y : List ℕ). x ++ y) (same-line (length r.profile.functions) is.functions refl)
      (second ∙ ap₂ (λ (x y : List ℕ). x ++ y) outs (third ∙ ap (λ (x : List ℕ). x ++ three) differs))
      ∙ sym (system-parts r three)
    where
      outs : out_lines (head_ports h) h.outputs 1 fs ≡ out_lines (ports_of r) r.outputs 1 r.profile.functions
      outs = λ i. out_lines (same-ports i) (is.outputs i) 1 (sym functions i)

      differs : flat_map (differ_line (head_ports h)) ds ≡ differ_lines r
      differs = λ i. flat_map (differ_line (same-ports i)) (sym differ i)

-- ---- All systems

pub systems_on : (bytes text next : List ℕ) (rs ss : List PlainReport) (r : PlainReport) → ss ≡ rs ++ r ∷ [] →
    bytes ≡ flat_map system_text rs ++ text → text ≡ system_text r ++ next → bytes ≡ flat_map system_text ss ++ next
systems_on bytes text next rs ss r more before is =
    before ∙ ap (λ (t : List ℕ). flat_map system_text rs ++ t) is ∙ sym (append_assoc (flat_map system_text rs) (system_text r) next)
    ∙ ap (λ (t : List ℕ). t ++ next) (flat_map_more system_text [] rs r ∙ ap (flat_map system_text) (sym more))

pub read_whole : (bytes text end : List ℕ) (rs : List PlainReport) (n : ℕ) → All IsSystemReport rs →
    bytes ≡ flat_map system_text rs ++ text →
    text ≡ last_line n ++ end → n ≡ length rs → length end ≡ 0 → IsTextOf bytes rs
read_whole bytes text end rs n each before is len none = record {
  each = each;
  text = before ∙ ap (λ (t : List ℕ). flat_map system_text rs ++ t)
      (is ∙ ap (λ (t : List ℕ). last_line n ++ t) (empty end none) ∙ append-nil (last_line n) ∙ ap last_line len);
}
  where
    empty : (t : List ℕ) → length t ≡ 0 → t ≡ []
    empty [] e = refl
    empty (b ∷ t) e = absurd (omega (arith, e))
