-- A text is that of one list of reports.
use Rattle.std.proofs.Common.{◌≡◌, ℕ, suc, ◌≤◌, ◌==◌, Bool, true, false, not, cond, List, [], ◌∷◌, ◌++◌, length, get_or, map, filter, refl, sym, ap, ap₂, subst, ◌∙◌, append-nil, append_assoc, arith}
use Rattle.std.specs.Prelude.{flat_map}
use Rattle.std.specs.List.{AllByRecursion, AllZip, range_with_len}
use Rattle.std.proofs.lemmas.List.{append_cancel_left, length-map}
use Rattle.base_core.specs.declared.Port.{Port}
use Rattle.base_core.specs.declared.Port.TheVariants.{Number}
use Rattle.modules_certificate.specs.Sound.{IsCertificateFor}
use Rattle.base_core.specs.Interface.{different}
use Rattle.modules_profile.specs.declared.Function.{Function}
use Rattle.modules_profile.specs.Functions.{function_for, functions_for}
use Rattle.modules_report.specs.PlainReport.{PlainReport}
use Rattle.modules_report.specs.Reading.{IsSystemReport, ReportsAreOne}
use Rattle.modules_report.specs.Texts.{differ_line, last_line, out_lines, ports_of, report_text, system_line, system_text}
use Rattle.modules_report.proofs.LineWords.{IsSmall}
use Rattle.modules_report.proofs.OutLines.{ports-small}
use Rattle.modules_report.proofs.SameCertificates.{same-certificate}
use Rattle.modules_report.proofs.SameNeeds.{AreOne, IsOwn, each-one, same-needs, same-outs}
use Rattle.modules_report.proofs.SystemLines.{AreAlike, IsHead, same-systems, small-controls}

-- ---- Lengths

short : (p : ℕ → Bool) (xs : List ℕ) → length (filter p xs) ≤ length xs
short p [] = omega arith
short p (x ∷ xs) = by (p x) (short p xs)
  where
    by : (t : Bool) → length (filter p xs) ≤ length xs → length (cond t (x ∷ filter p xs) (filter p xs)) ≤ suc (length xs)
    by true h = omega (arith, h)
    by false h = omega (arith, h)

pub few-different : (xs : List ℕ) → length (different xs) ≤ length xs
few-different [] = omega arith
few-different (x ∷ xs) =
    let kept = short (λ y. not (y == x)) (different xs) in let rest = few-different xs in omega (arith, kept, rest)

pub few-functions : (needs : List ℕ) → length (functions_for needs) ≤ length needs
few-functions needs =
    let few = few-different needs in let same : length (functions_for needs) ≡ length (different needs) =
    length-map (different needs) (function_for needs) in
    omega (arith, few, same)

pub head-of-report : (r : PlainReport) → IsSystemReport r → IsHead r
head-of-report r h = record {
  row = h.row;
  inputs = h.report.inputs;
  outputs = h.report.outputs;
  controls = h.report.controls;
  functions = (let few = few-functions h.report.needs in let same : length r.profile.functions ≡ length (functions_for h.report.needs) =
      ap (λ (fs : List Function). length fs) h.report.functions in let one =
      h.report.one_each in let most = h.report.outputs in omega (arith, few, same, one, most));
}

-- ---- The text of a system by its parts

abbrev pub differ_lines : PlainReport → List ℕ
differ_lines r = flat_map (differ_line (ports_of r)) r.certificate.differ

three : (a b c x : List ℕ) → a ++ b ++ c ++ x ≡ a ++ (b ++ (c ++ x))
three a b c x = simp (append_assoc) refl

pub system-parts : (r : PlainReport) (x : List ℕ) →
    system_text r ++ x ≡ system_line r ++ (out_lines (ports_of r) r.outputs 1 r.profile.functions ++ (differ_lines r ++ x))
unfolding system_text
system-parts r x = three (system_line r) (out_lines (ports_of r) r.outputs 1 r.profile.functions) (differ_lines r) x

pub all-small : (r : PlainReport) → IsHead r → AllByRecursion IsSmall (ports_of r)
all-small r h =
    joined (map Number (range_with_len 1 r.inputs)) r.controls (ports-small r.inputs h.inputs)
    (small-controls r.controls h.controls)
  where
    joined : (ps qs : List Port) → AllByRecursion IsSmall ps → AllByRecursion IsSmall qs → AllByRecursion IsSmall (ps ++ qs)
    joined [] qs a b = b
    joined (p ∷ ps) qs a b = (a.0, joined ps qs a.1 b)

-- ---- One system

-- what the lines of a system and of its functions say is the whole system
pub same-start : (r s : PlainReport) (x y : List ℕ) → IsSystemReport r → IsSystemReport s →
    system_line r ++ (out_lines (ports_of r) r.outputs 1 r.profile.functions ++ x)
    ≡ system_line s ++ (out_lines (ports_of s) s.outputs 1 s.profile.functions ++ y) →
    (r ≡ s) × (x ≡ y)
same-start r s x y h k e = (same, outs.1)
  where
    lines : AreAlike r s
        × (out_lines (ports_of r) r.outputs 1 r.profile.functions ++ x
        ≡ out_lines (ports_of s) s.outputs 1 s.profile.functions ++ y)
    lines = same-systems r s (out_lines (ports_of r) r.outputs 1 r.profile.functions ++ x)
        (out_lines (ports_of s) s.outputs 1 s.profile.functions ++ y) (head-of-report r h) (head-of-report s k) e

    ports : ports_of r ≡ ports_of s
    ports = λ i. map Number (range_with_len 1 (lines.0.inputs i)) ++ lines.0.controls i

    outs : AllZip (AreOne (ports_of r) r.outputs) r.profile.functions s.profile.functions × (x ≡ y)
    outs = same-outs (ports_of r) r.outputs (all-small r (head-of-report r h)) h.report.outputs r.profile.functions s.profile.functions 1
        x y lines.0.functions
        (let few = (head-of-report r h).functions in omega (arith, few))
        (lines.1 ∙ ap₂ (λ (ps : List Port) (n : ℕ). out_lines ps n 1 s.profile.functions ++ y) (sym ports) (sym lines.0.outputs))

    needs : h.report.needs ≡ k.report.needs
    needs = same-needs (ports_of r) r.outputs h.report.needs k.report.needs h.report.one_each (k.report.one_each ∙ sym lines.0.outputs)
        (each-one (IsOwn (ports_of r) r.outputs) h.report.needs h.report.in_inputs)
        (subst (λ (ps : List Port). AllByRecursion (IsOwn ps r.outputs) k.report.needs) (sym ports)
        (each-one (IsOwn (ports_of s) r.outputs) k.report.needs k.report.in_inputs))
        (subst (λ (fs : List Function). AllZip (AreOne (ports_of r) r.outputs) fs (functions_for k.report.needs)) h.report.functions
        (subst (λ (gs : List Function). AllZip (AreOne (ports_of r) r.outputs) r.profile.functions gs) k.report.functions outs.0))

    functions : r.profile.functions ≡ s.profile.functions
    functions = h.report.functions ∙ ap functions_for needs ∙ sym k.report.functions

    certificates : r.certificate ≡ s.certificate
    certificates = same-certificate k.report.needs r.certificate s.certificate
        (subst (λ (ns : List ℕ). IsCertificateFor ns r.certificate) needs h.report.certificate) k.report.certificate

    profile_row : r.profile.row ≡ s.profile.row
    profile_row = h.report.row ∙ lines.0.row ∙ sym k.report.row

    same : r ≡ s
    same = λ i. record {
      row = lines.0.row i;
      inputs = lines.0.inputs i;
      controls = lines.0.controls i;
      outputs = lines.0.outputs i;
      profile = record { row = profile_row i; functions = functions i };
      certificate = certificates i;
    }

pub same-system : (r s : PlainReport) (x y : List ℕ) → IsSystemReport r → IsSystemReport s → system_text r ++ x ≡ system_text s ++ y →
    (r ≡ s) × (x ≡ y)
same-system r s x y h k e =
    let start = same-start r s (differ_lines r ++ x) (differ_lines s ++ y) h k (sym (system-parts r x) ∙ e ∙ system-parts s y) in
    (start.0, append_cancel_left (differ_lines r) x y (start.1 ∙ ap (λ (t : PlainReport). differ_lines t ++ y) (sym start.0)))

-- ---- All systems

pub report-parts : (rs : List PlainReport) → report_text rs ≡ flat_map system_text rs ++ last_line (length rs)
report-parts rs = refl

pub no-system : (n : ℕ) (x y : List ℕ) (r : PlainReport) → last_line n ++ x ≡ system_text r ++ y → ⊥
unfolding system_text
no-system n x y r e = let same : 115 ≡ 32 = ap (λ (bytes : List ℕ). get_or bytes 6 0) e in omega (arith, same)

same-reports : (rs ss : List PlainReport) (n m : ℕ) → AllByRecursion IsSystemReport rs → AllByRecursion IsSystemReport ss →
    flat_map system_text rs ++ last_line n ≡ flat_map system_text ss ++ last_line m → rs ≡ ss
same-reports [] [] n m a b e = refl
same-reports [] (s ∷ ss) n m a b e =
    absurd (no-system n [] (flat_map system_text ss ++ last_line m) s (append-nil (last_line n) ∙ e
    ∙ append_assoc (system_text s) (flat_map system_text ss) (last_line m)))
same-reports (r ∷ rs) [] n m a b e =
    absurd (no-system m [] (flat_map system_text rs ++ last_line n) r (append-nil (last_line m) ∙ sym e
    ∙ append_assoc (system_text r) (flat_map system_text rs) (last_line n)))
same-reports (r ∷ rs) (s ∷ ss) n m a b e =
    let one = same-system r s (flat_map system_text rs ++ last_line n) (flat_map system_text ss ++ last_line m) a.0 b.0
    (sym (append_assoc (system_text r) (flat_map system_text rs) (last_line n)) ∙ e
    ∙ append_assoc (system_text s) (flat_map system_text ss) (last_line m)) in
    ap₂ (λ (k : PlainReport) (ks : List PlainReport). k ∷ ks) one.0 (same-reports rs ss n m a.1 b.1 one.1)

pub reports_are_one : ReportsAreOne
reports_are_one bytes rs ss a b =
    same-reports rs ss (length rs) (length ss) (each-one IsSystemReport rs a.each) (each-one IsSystemReport ss b.each)
    (sym (report-parts rs) ∙ sym a.text ∙ b.text ∙ report-parts ss)
