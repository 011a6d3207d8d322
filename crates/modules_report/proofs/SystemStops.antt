-- Where the lines of a system can't be read on, no text of reports goes on with the line that is there.
use Rattle.std.proofs.Common.{◌≡◌, ◌⊎◌, ℕ, suc, ◌+◌, ◌^◌, ◌<◌, ◌≤◌, List, [], ◌∷◌, ◌++◌, length, get_or, map, refl, sym, ap, ap₂, subst, ◌∙◌, append-nil, append_assoc, arith, inl, inr}
use Rattle.std.specs.Prelude.{flat_map}
use Rattle.std.specs.List.{All, AllByRecursion, AllZip, range_with_len}
use Rattle.std.proofs.lemmas.Grind.{flat_map-append}
use Rattle.std.proofs.lemmas.List.{append_cancel_left}
use Rattle.base_core.specs.declared.Port.{Port}
use Rattle.base_core.specs.declared.Port.TheVariants.{Number}
use Rattle.base_core.specs.Interface.{different}
use Rattle.modules_certificate.specs.declared.Difference.{Difference}
use Rattle.modules_certificate.proofs.lemmas.MadeCertificates.{few, places-below}
use Rattle.modules_profile.specs.declared.Function.{Function}
use Rattle.modules_profile.specs.Functions.{function_for}
use Rattle.base_core.specs.Ports.{ports_mask}
use Rattle.modules_report.specs.declared.head.Head.{Head}
use Rattle.modules_report.specs.Following.{CanComeFirst}
use Rattle.modules_report.specs.Heads.{IsHeadOf, head_ports, head_text}
use Rattle.modules_report.specs.PlainReport.{PlainReport}
use Rattle.modules_report.specs.Reading.{CanBegin, IsSystemReport, IsWholeLine, joined}
use Rattle.modules_report.specs.Reports.{IsSetOf}
use Rattle.modules_report.specs.Stops.{IsFunctionOf, NoHead, NoneBegins, StopsAtDifference, StopsAtFunction, StopsIn, StopsInDifferences, StopsInFunctions, StopsInSystem}
use Rattle.modules_report.specs.Texts.{differ_line, head_line, last_line, out_line, out_lines, ports_of, ports_with, report_text, system_line, system_text}
use Rattle.modules_report.proofs.Fronts.{Cut, cut-map, first-part, front-can}
use Rattle.modules_report.proofs.LineWords.{IsSmall}
use Rattle.modules_report.proofs.OneReport.{all-small, differ_lines, head-of-report, no-system, same-start, same-system, system-parts}
use Rattle.modules_report.proofs.OutLines.{same-out}
use Rattle.modules_report.proofs.OwnHeads.{Completed, completed, functions-are, own-head}
use Rattle.modules_report.proofs.SameNeeds.{AreOne, at-each, each-one}
use Rattle.modules_report.proofs.SystemLines.{AreAlike, same-systems}
use Rattle.modules_report.proofs.ToldLines.{mask-of-numbers, set-bound}
use Rattle.modules_report.proofs.WholeLines.{AreLines, lines-each, more-lines, no-lines, not-empty-line, one-line, out-lines-whole, same-lines, whole-differ, whole-head, whole-last, whole-out}

-- each whole line that the one text begins with begins the other
abbrev Follows : List ℕ → List ℕ → Type 0
Follows rest y = (line z : List ℕ) → IsWholeLine line → y ≡ line ++ z → (more : List ℕ) × (rest ≡ line ++ more)

-- the lines of a system that begin so
record Begun (read : List ℕ) : Type 0 where
  pub report : PlainReport
  pub is : IsSystemReport report
  pub behind : List ℕ
  pub text : system_text report ≡ read ++ behind

-- Some lines that begin a system are read, and no system and no last line goes on with what is after them.
record SystemStop (text : List ℕ) (left : ℕ) : Type 0 where
  pub read : List ℕ
  pub rest : List ℕ
  pub lines : AreLines read
  pub left_is : left ≡ length rest
  pub parts : text ≡ read ++ rest
  pub begun : (read ≡ []) ⊎ Begun read
  pub refuse : (y z : List ℕ) (s : PlainReport) → Follows rest y → IsSystemReport s → read ++ y ≡ system_text s ++ z → ⊥
  pub not_last : (y : List ℕ) (n : ℕ) → n < 2 ^ 64 → Follows rest y → read ++ y ≡ last_line n →
      (more : List ℕ) × (text ≡ last_line n ++ more)

-- ---- The lines of a report

pub same-head : (r : PlainReport) (h : Head) → IsHeadOf r h → head_text h ≡ system_line r
same-head r h is = λ i. head_line (is.row i) (is.inputs i) (is.outputs i) (is.functions i) (is.controls i)

pub same-ports : (r : PlainReport) (h : Head) → IsHeadOf r h → head_ports h ≡ ports_of r
same-ports r h is = λ i. ports_with (is.inputs i) (is.controls i)

report-functions : (r : PlainReport) (k : IsSystemReport r) → AllByRecursion (IsFunctionOf (ports_of r) r.outputs) r.profile.functions
report-functions r k = subst (AllByRecursion (IsFunctionOf (ports_of r) r.outputs)) (sym k.report.functions)
    (functions-are (ports_of r) r.outputs k.report.needs k.report.one_each
    (each-one (IsSetOf (ports_of r)) k.report.needs k.report.in_inputs))

report-differ-lines : (r : PlainReport) → IsSystemReport r →
    AllByRecursion (λ (d : Difference). IsWholeLine (differ_line (ports_of r) d)) r.certificate.differ
report-differ-lines r k = each-one (λ (d : Difference). IsWholeLine (differ_line (ports_of r) d)) r.certificate.differ (λ i d within.
    let low = places-below r.certificate.differ (length r.certificate.representatives) i d k.report.certificate.sound.pairs within in
    let one = low.0 in let two = low.1 in
    let most = few k.report.needs in let same = ap (λ (t : List ℕ). length t) k.report.certificate.representatives in
    let len = k.report.one_each in let bound = k.report.outputs in
    whole-differ (ports_of r) (get_or r.certificate.differ i d) (all-small r (head-of-report r k))
    (omega (arith, one, two, most, same, len, bound)) (omega (arith, two, most, same, len, bound)))

report-differs : (r : PlainReport) → IsSystemReport r →
    AllByRecursion (λ (d : Difference). AreLines (differ_line (ports_of r) d)) r.certificate.differ
report-differs r k = each r.certificate.differ (report-differ-lines r k)
  where
    each : (ds : List Difference) → AllByRecursion (λ (d : Difference). IsWholeLine (differ_line (ports_of r) d)) ds →
        AllByRecursion (λ (d : Difference). AreLines (differ_line (ports_of r) d)) ds
    each [] a = tt
    each (d ∷ ds) a = (one-line (differ_line (ports_of r) d) a.0, each ds a.1)

no-line : (n : ℕ) (x y : List ℕ) (r : PlainReport) → last_line n ++ x ≡ system_line r ++ y → ⊥
no-line n x y r e = let same : 115 ≡ 32 = ap (λ (bytes : List ℕ). get_or bytes 6 0) e in omega (arith, same)

-- ---- Before the line of a system

at-head : (text : List ℕ) (left : ℕ) → NoHead text → left ≡ length text → SystemStop text left
at-head text left none len = record {
  read = [];
  rest = text;
  lines = no-lines;
  left_is = len;
  parts = refl;
  begun = inl refl;
  refuse = λ y z s follows own e.
      let first = follows (system_line s) _ (whole-head s (head-of-report s own)) (e ∙ system-parts s z) in
      let line = own-head s own in
      none line.head line.row line.possible first.0 (first.1 ∙ ap (λ (t : List ℕ). t ++ first.0) (sym (same-head s line.head line.is)));
  not_last = λ y n fits follows e. follows (last_line n) [] (whole-last n fits) (e ∙ sym (append-nil (last_line n)));
}

-- ---- In the functions

record FrontOuts (ports : List Port) (outputs j : ℕ) (fs gs : List Function) (y : List ℕ) : Type 0 where
  pub before : List Function
  pub next : Function
  pub behind : List Function
  pub is : gs ≡ before ++ next ∷ behind
  pub ones : AllZip (AreOne ports outputs) fs before
  pub after : List ℕ
  pub text : y ≡ out_line ports outputs (length fs + j) next ++ after

module _ (ports : List Port) (outputs : ℕ) (small : AllByRecursion IsSmall ports) (few-outputs : outputs ≤ 32) where
  front-outs : (fs gs : List Function) (j : ℕ) (y u : List ℕ) → length fs < length gs → j + length gs < 2 ^ 64 →
      out_lines ports outputs j fs ++ y ≡ out_lines ports outputs j gs ++ u → FrontOuts ports outputs j fs gs y
  front-outs fs [] j y u fewer fits e = absurd (omega (arith, fewer))
  front-outs [] (g ∷ gs) j y u fewer fits e = record {
    before = [];
    next = g;
    behind = gs;
    is = refl;
    ones = tt;
    after = out_lines ports outputs (j + 1) gs ++ u;
    text = e ∙ append_assoc (out_line ports outputs j g) (out_lines ports outputs (j + 1) gs) u
        ∙ ap (λ k. out_line ports outputs k g ++ (out_lines ports outputs (j + 1) gs ++ u)) (let same : j ≡ 0 + j = omega arith in same);
  }
  front-outs (f ∷ fs) (g ∷ gs) j y u fewer fits e =
      let one =
      same-out ports outputs j f g _ _ small few-outputs (omega (arith, fits))
      (sym (append_assoc (out_line ports outputs j f) (out_lines ports outputs (j + 1) fs) y)
      ∙ e ∙ append_assoc (out_line ports outputs j g) (out_lines ports outputs (j + 1) gs) u) in
      let more = front-outs fs gs (j + 1) y u (omega (arith, fewer)) (omega (arith, fits)) one.2 in record {
        before = g ∷ more.before;
        next = more.next;
        behind = more.behind;
        is = ap (λ (t : List Function). g ∷ t) more.is;
        ones = (record { takes = one.0; gives = one.1 }, more.ones);
        after = more.after;
        text = more.text ∙ ap (λ k. out_line ports outputs k more.next ++ more.after) (let same : length fs + (j + 1)
            ≡ suc (length fs) + j = omega arith in same);
      }

same-fronts : (ports : List Port) (outputs : ℕ) (fs gs : List Function) →
    AllByRecursion (IsFunctionOf ports outputs) fs → AllByRecursion (IsFunctionOf ports outputs) gs →
    AllZip (AreOne ports outputs) fs gs → fs ≡ gs
same-fronts ports outputs [] [] a b ones = refl
same-fronts ports outputs [] (g ∷ gs) a b ones = absurd ones
same-fronts ports outputs (f ∷ fs) [] a b ones = absurd ones
same-fronts ports outputs (f ∷ fs) (g ∷ gs) a b ones =
    let ins : f.inputs ≡ g.inputs = sym a.0.takes ∙ ap ports_mask ones.0.takes ∙ b.0.takes in
    let outs : f.outputs ≡ g.outputs = sym (mask-of-numbers f.outputs outputs a.0.gives)
    ∙ ap (λ (ks : List ℕ). ports_mask (map Number ks)) ones.0.gives
    ∙ mask-of-numbers g.outputs outputs b.0.gives in
    ap₂ (λ (k : Function) (ks : List Function). k ∷ ks) (λ i. record { inputs = ins i; outputs = outs i })
    (same-fronts ports outputs fs gs a.1 b.1 ones.1)

out-lines-append : (ports : List Port) (outputs j : ℕ) (fs gs : List Function) →
    out_lines ports outputs j (fs ++ gs) ≡ out_lines ports outputs j fs ++ out_lines ports outputs (j + length fs) gs
out-lines-append ports outputs j [] gs = ap (λ k. out_lines ports outputs k gs) (let same : j ≡ j + 0 = omega arith in same)
out-lines-append ports outputs j (f ∷ fs) gs =
    ap (λ (t : List ℕ). out_line ports outputs j f ++ t) (out-lines-append ports outputs (j + 1) fs gs
    ∙ ap (λ k. out_lines ports outputs (j + 1) fs ++ out_lines ports outputs k gs) (let same : j + 1 + length fs
    ≡ j + suc (length fs) = omega arith in same))
    ∙ sym (append_assoc (out_line ports outputs j f) (out_lines ports outputs (j + 1) fs)
    (out_lines ports outputs (j + suc (length fs)) gs))

middle : (a b c d : List ℕ) → a ++ (b ++ c ++ d) ≡ a ++ b ++ (c ++ d)
middle a b c d = simp (append_assoc) refl

last-part : {X : Type 0} (P : X → Type 0) (xs ys : List X) → AllByRecursion P (xs ++ ys) → AllByRecursion P ys
last-part P [] ys a = a
last-part P (x ∷ xs) ys a = last-part P xs ys a.1

-- a text that begins with the line and functions of a report, and goes on with the functions of another
module _ (r s : PlainReport) (own : IsSystemReport r) (own' : IsSystemReport s) (fs behind : List Function)
    (begins : r.profile.functions ≡ fs ++ behind)
    (fewer : length fs < length r.profile.functions) (y z : List ℕ)
    (e : system_line r ++ (out_lines (ports_of r) r.outputs 1 fs ++ y) ≡ system_text s ++ z) where
  heads : AreAlike r s
      × (out_lines (ports_of r) r.outputs 1 fs ++ y ≡ out_lines (ports_of s) s.outputs 1 s.profile.functions
      ++ (differ_lines s ++ z))
  heads = same-systems r s _ _ (head-of-report r own) (head-of-report s own') (e ∙ system-parts s z)

  both-ports : ports_of r ≡ ports_of s
  both-ports = λ i. map Number (range_with_len 1 (heads.0.inputs i)) ++ heads.0.controls i

  outs : FrontOuts (ports_of r) r.outputs 1 fs s.profile.functions y
  outs = front-outs (ports_of r) r.outputs (all-small r (head-of-report r own)) own.report.outputs fs
      s.profile.functions 1 y (differ_lines s ++ z)
      (let same = heads.0.functions in omega (arith, same, fewer)) (let most = (head-of-report s own').functions in omega (arith, most))
      (heads.1 ∙ ap₂ (λ (ps : List Port) (n : ℕ). out_lines ps n 1 s.profile.functions ++ (differ_lines s ++ z))
      (sym both-ports) (sym heads.0.outputs))

  others : AllByRecursion (IsFunctionOf (ports_of r) r.outputs) (outs.before ++ outs.next ∷ outs.behind)
  others = subst (AllByRecursion (IsFunctionOf (ports_of r) r.outputs)) outs.is
      (subst (λ n. AllByRecursion (IsFunctionOf (ports_of r) n) s.profile.functions) (sym heads.0.outputs)
      (subst (λ (ps : List Port). AllByRecursion (IsFunctionOf ps s.outputs) s.profile.functions) (sym both-ports)
      (report-functions s own')))

  fronts : fs ≡ outs.before
  fronts = same-fronts (ports_of r) r.outputs fs outs.before
      (first-part (IsFunctionOf (ports_of r) r.outputs) fs behind
      (subst (AllByRecursion (IsFunctionOf (ports_of r) r.outputs)) begins (report-functions r own)))
      (first-part (IsFunctionOf (ports_of r) r.outputs) outs.before (outs.next ∷ outs.behind) others) outs.ones

  next-is : IsFunctionOf (ports_of r) r.outputs outs.next
  next-is = (last-part (IsFunctionOf (ports_of r) r.outputs) outs.before (outs.next ∷ outs.behind) others).0

  next-can : CanComeFirst r.outputs (length r.profile.functions) (fs ++ outs.next ∷ [])
  next-can =
      let parts = cut-map (function_for own'.report.needs) (different own'.report.needs) (outs.before ++ outs.next ∷ []) outs.behind
      (sym own'.report.functions ∙ outs.is ∙ sym (append_assoc outs.before (outs.next ∷ []) outs.behind)) in
      let len = own'.report.one_each ∙ sym heads.0.outputs in
      let can =
      front-can r.outputs own'.report.needs len
      (real own'.report.needs (each-one (IsSetOf (ports_of s)) own'.report.needs own'.report.in_inputs))
      parts.before parts.behind parts.is in
      subst (λ (gs : List Function). CanComeFirst r.outputs (length r.profile.functions) (gs ++ outs.next ∷ [])) (sym fronts)
      (subst (λ (gs : List Function). CanComeFirst r.outputs (length r.profile.functions) gs) parts.firsts
      (subst (λ n. CanComeFirst r.outputs n (map (function_for own'.report.needs) parts.before)) (number parts) can))
    where
      real : (ns : List ℕ) → AllByRecursion (IsSetOf (ports_of s)) ns → AllByRecursion (λ n. n ≡ 2 ^ 63 → ⊥) ns
      real [] a = tt
      real (n ∷ ns) a = (
        (λ same. let line = own-head s own' in
            let low =
            set-bound line.head n line.possible.inputs
            (subst (λ (ps : List Port). IsSetOf ps n) (sym (same-ports s line.head line.is)) a.0) in
            omega (arith, low, same)),
        real ns a.1,
      )

      number : (parts : Cut (different own'.report.needs) (function_for own'.report.needs) (outs.before ++ outs.next ∷ []) outs.behind) →
          length (parts.before ++ parts.behind) ≡ length r.profile.functions
      number parts = ap (λ (t : List ℕ). length t) (sym parts.is)
          ∙ sym (length-map-different own'.report.needs (different own'.report.needs))
          ∙ ap (λ (t : List Function). length t) (sym own'.report.functions) ∙ sym heads.0.functions
        where
          length-map-different : (ns ds : List ℕ) → length (map (function_for ns) ds) ≡ length ds
          length-map-different ns [] = refl
          length-map-different ns (d ∷ ds) = ap suc (length-map-different ns ds)

pub same-system-line : (r : PlainReport) (h : Head) → IsHeadOf r h → (x : List ℕ) → head_text h ++ x ≡ system_line r ++ x
same-system-line r h is x = ap (λ (t : List ℕ). t ++ x) (same-head r h is)

in-functions : (text : List ℕ) (left : ℕ) → StopsInFunctions text left → SystemStop text left
in-functions text left stops = record {
  read = system_line r ++ lines;
  rest = at.rest;
  lines = more-lines (system_line r) lines (one-line (system_line r) (whole-head r (head-of-report r whole.is)))
      (out-lines-whole (ports_of r) r.outputs 1 at.functions (all-small r (head-of-report r whole.is)) whole.is.report.outputs
      (let most = (head-of-report r whole.is).functions in omega (arith, most, fewer)));
  left_is = at.left_is;
  parts = stops.text_is ∙ ap₂ (λ (x z : List ℕ). x ++ z) (same-head r stops.head whole.head) (at.text_is
      ∙ ap (λ (t : List ℕ). t ++ at.rest) same-outs-text)
      ∙ sym (append_assoc (system_line r) lines at.rest);
  begun = inr record {
    report = r;
    is = whole.is;
    behind = out_lines (ports_of r) r.outputs (1 + length at.functions) whole.behind ++ (differ_lines r ++ []);
    text = sym (append-nil (system_text r)) ∙ system-parts r []
        ∙ ap (λ (t : List ℕ). system_line r ++ (t ++ (differ_lines r ++ [])))
        (ap (out_lines (ports_of r) r.outputs 1) whole.functions ∙ out-lines-append (ports_of r) r.outputs 1 at.functions whole.behind)
        ∙ middle (system_line r) lines (out_lines (ports_of r) r.outputs (1 + length at.functions) whole.behind) (differ_lines r ++ []);
  };
  refuse = λ y z s follows own e. refused y z s follows own (sym (append_assoc (system_line r) lines y) ∙ e);
  not_last =
      λ y n fits follows e.
      absurd (no-line n [] (lines ++ y) r (append-nil (last_line n) ∙ sym e ∙ append_assoc (system_line r) lines y));
}
  where
    at : StopsAtFunction stops.head stops.more left
    at = stops.stops

    whole : Completed stops.head at.functions
    whole = completed stops.head at.functions stops.row stops.possible
        (each-one (λ (f : Function). IsSetOf (head_ports stops.head) f.inputs) at.functions at.sets) at.first

    r : PlainReport
    r = whole.report

    lines : List ℕ
    lines = out_lines (ports_of r) r.outputs 1 at.functions

    same-outs-text : out_lines (head_ports stops.head) stops.head.outputs 1 at.functions ≡ lines
    same-outs-text = λ i. out_lines (same-ports r stops.head whole.head i) (whole.head.outputs i) 1 at.functions

    fewer : length at.functions < length r.profile.functions
    fewer = let less = at.fewer in let same = whole.head.functions in omega (arith, less, same)

    refused : (y z : List ℕ) (s : PlainReport) → Follows at.rest y → IsSystemReport s →
        system_line r ++ (lines ++ y) ≡ system_text s ++ z → ⊥
    refused y z s follows own e =
        let there = outs r s whole.is own at.functions whole.behind whole.functions fewer y z e in
        let first = follows (out_line (ports_of r) r.outputs (length at.functions + 1) there.next) there.after
        (whole-out (ports_of r) r.outputs (length at.functions + 1) there.next
        (all-small r (head-of-report r whole.is)) whole.is.report.outputs
        (let most = (head-of-report r whole.is).functions in let less = fewer in omega (arith, most, less))) there.text in
        at.none there.next
        (subst (λ n. IsFunctionOf (head_ports stops.head) n there.next) (sym whole.head.outputs)
        (subst (λ (ps : List Port). IsFunctionOf ps r.outputs there.next) (sym (same-ports r stops.head whole.head))
        (next-is r s whole.is own at.functions whole.behind whole.functions fewer y z e)))
        (subst (λ n. CanComeFirst n stops.head.functions (at.functions ++ there.next ∷ [])) (sym whole.head.outputs)
        (subst (λ n. CanComeFirst r.outputs n (at.functions ++ there.next ∷ [])) (sym whole.head.functions)
        (next-can r s whole.is own at.functions whole.behind whole.functions fewer y z e)))
        first.0
        (first.1
        ∙ (λ i. out_line (sym (same-ports r stops.head whole.head) i) (sym whole.head.outputs i)
        (length at.functions + 1) there.next ++ first.0))

-- ---- In the differences

joined-differs : (ports : List Port) (ds es : List Difference) (d : Difference) (x : List ℕ) →
    flat_map (differ_line ports) (ds ++ d ∷ es) ++ x ≡ flat_map (differ_line ports) ds
    ++ (differ_line ports d ++ (flat_map (differ_line ports) es ++ x))
joined-differs ports [] es d x = append_assoc (differ_line ports d) (flat_map (differ_line ports) es) x
joined-differs ports (a ∷ ds) es d x =
    append_assoc (differ_line ports a) (flat_map (differ_line ports) (ds ++ d ∷ es)) x
    ∙ ap (λ (t : List ℕ). differ_line ports a ++ t) (joined-differs ports ds es d x)
    ∙ sym (append_assoc (differ_line ports a) (flat_map (differ_line ports) ds)
    (differ_line ports d ++ (flat_map (differ_line ports) es ++ x)))

three-parts : (a b c d : List ℕ) → a ++ (b ++ (c ++ d)) ≡ a ++ (b ++ c) ++ d
three-parts a b c d = simp (append_assoc) refl

in-differences : (text : List ℕ) (left : ℕ) → StopsInDifferences text left → SystemStop text left
in-differences text left stops = record {
  read = system_line r ++ (outs-text ++ done);
  rest = at.rest;
  lines = more-lines (system_line r) (outs-text ++ done) (one-line (system_line r) (whole-head r (head-of-report r stops.is)))
      (more-lines outs-text done
      (out-lines-whole (ports_of r) r.outputs 1 r.profile.functions (all-small r (head-of-report r stops.is)) stops.is.report.outputs
      (let most = (head-of-report r stops.is).functions in omega (arith, most)))
      (lines-each (differ_line (ports_of r)) at.before
      (first-part (λ (d : Difference). AreLines (differ_line (ports_of r) d)) at.before
      (at.next ∷ at.behind) all-differ)));
  left_is = at.left_is;
  parts = stops.text_is ∙ ap (λ (t : List ℕ). system_line r ++ (outs-text ++ t)) at.text_is
      ∙ three-parts (system_line r) outs-text done at.rest;
  begun = inr record {
    report = r;
    is = stops.is;
    behind = next-text ++ (flat_map (differ_line (ports_of r)) at.behind ++ []);
    text = sym (append-nil (system_text r)) ∙ system-parts r []
        ∙ ap (λ (t : List ℕ). system_line r ++ (outs-text ++ t))
        (ap (λ (ds : List Difference). flat_map (differ_line (ports_of r)) ds ++ []) at.differ_is
        ∙ joined-differs (ports_of r) at.before at.behind at.next [])
        ∙ three-parts (system_line r) outs-text done (next-text ++ (flat_map (differ_line (ports_of r)) at.behind ++ []));
  };
  refuse = λ y z s follows own e. refused y z s follows own (three-parts (system_line r) outs-text done y ∙ e);
  not_last =
      λ y n fits follows e.
      absurd (no-line n [] ((outs-text ++ done) ++ y) r (append-nil (last_line n) ∙ sym e
      ∙ append_assoc (system_line r) (outs-text ++ done) y));
}
  where
    r : PlainReport
    r = stops.report

    at : StopsAtDifference (ports_of stops.report) stops.report.certificate.differ stops.more left
    at = stops.stops

    outs-text : List ℕ
    outs-text = out_lines (ports_of r) r.outputs 1 r.profile.functions

    done : List ℕ
    done = flat_map (differ_line (ports_of r)) at.before

    next-text : List ℕ
    next-text = differ_line (ports_of r) at.next

    all-differ : AllByRecursion (λ (d : Difference). AreLines (differ_line (ports_of r) d)) (at.before ++ at.next ∷ at.behind)
    all-differ = subst (AllByRecursion (λ (d : Difference). AreLines (differ_line (ports_of r) d))) at.differ_is (report-differs r stops.is)

    next-whole : IsWholeLine next-text
    next-whole = (last-part (λ (d : Difference). IsWholeLine (differ_line (ports_of r) d)) at.before (at.next ∷ at.behind)
        (subst (AllByRecursion (λ (d : Difference). IsWholeLine (differ_line (ports_of r) d))) at.differ_is
        (report-differ-lines r stops.is))).0

    refused : (y z : List ℕ) (s : PlainReport) → Follows at.rest y → IsSystemReport s →
        system_line r ++ (outs-text ++ (done ++ y)) ≡ system_text s ++ z → ⊥
    refused y z s follows own e =
        let same = same-start r s (done ++ y) (differ_lines s ++ z) stops.is own (e ∙ system-parts s z) in
        let text-is : done ++ y ≡ done ++ (next-text ++ (flat_map (differ_line (ports_of r)) at.behind ++ z)) =
        same.1 ∙ ap (λ (t : PlainReport). differ_lines t ++ z) (sym same.0)
        ∙ ap (λ (ds : List Difference). flat_map (differ_line (ports_of r)) ds ++ z) at.differ_is
        ∙ joined-differs (ports_of r) at.before at.behind at.next z in
        let first =
        follows next-text (flat_map (differ_line (ports_of r)) at.behind ++ z) next-whole
        (append_cancel_left done _ _ text-is) in
        at.none first.0 first.1

system-stop : (text : List ℕ) (left : ℕ) → StopsInSystem text left → SystemStop text left
system-stop text left (inl at) = at-head text left at.0 at.1
system-stop text left (inr (inl at)) = in-functions text left at
system-stop text left (inr (inr at)) = in-differences text left at

-- ---- All systems

-- what a text of reports that begins with some systems goes on with
abbrev Goes : List PlainReport → List PlainReport → List ℕ → ℕ → Type 0
Goes rs ss x m = ((ss ≡ rs) × (x ≡ last_line m)) ⊎ ((s : PlainReport) × (z : List ℕ) × IsSystemReport s × (x ≡ system_text s ++ z))

goes : (rs ss : List PlainReport) (x : List ℕ) (m : ℕ) → AllByRecursion IsSystemReport rs → AllByRecursion IsSystemReport ss →
    flat_map system_text rs ++ x ≡ flat_map system_text ss ++ last_line m → Goes rs ss x m
goes [] [] x m a b e = inl (refl, e)
goes [] (s ∷ ss) x m a b e =
    inr (
      s,
      flat_map system_text ss ++ last_line m,
      b.0,
      e
          ∙ append_assoc (system_text s) (flat_map system_text ss) (last_line m),
    )
goes (r ∷ rs) [] x m a b e =
    absurd (no-system m [] (flat_map system_text rs ++ x) r (append-nil (last_line m) ∙ sym e
    ∙ append_assoc (system_text r) (flat_map system_text rs) x))
goes (r ∷ rs) (s ∷ ss) x m a b e =
    let one = same-system r s (flat_map system_text rs ++ x) (flat_map system_text ss ++ last_line m) a.0 b.0
    (sym (append_assoc (system_text r) (flat_map system_text rs) x) ∙ e
    ∙ append_assoc (system_text s) (flat_map system_text ss) (last_line m)) in
    elim (goes rs ss x m a.1 b.1 one.1) [
      | inl same ↦ inl (ap₂ (λ (k : PlainReport) (ks : List PlainReport). k ∷ ks) (sym one.0) same.0, same.1)
      | inr more ↦ inr more
    ]

system-lines : (r : PlainReport) → IsSystemReport r → AreLines (system_text r)
system-lines r k = subst AreLines (sym (sym (append-nil (system_text r)) ∙ system-parts r []))
    (more-lines (system_line r) _ (one-line (system_line r) (whole-head r (head-of-report r k)))
    (more-lines (out_lines (ports_of r) r.outputs 1 r.profile.functions) (differ_lines r ++ [])
    (out-lines-whole (ports_of r) r.outputs 1 r.profile.functions (all-small r (head-of-report r k)) k.report.outputs
    (let most = (head-of-report r k).functions in omega (arith, most)))
    (more-lines (differ_lines r) [] (lines-each (differ_line (ports_of r)) r.certificate.differ (report-differs r k)) no-lines)))

systems-lines : (rs : List PlainReport) → AllByRecursion IsSystemReport rs → AreLines (flat_map system_text rs)
systems-lines [] a = no-lines
systems-lines (r ∷ rs) a = more-lines (system_text r) (flat_map system_text rs) (system-lines r a.0) (systems-lines rs a.1)

all-of : {X : Type 0} (P : X → Type 0) (xs : List X) → AllByRecursion P xs → All P xs
all-of P xs a = λ k d within. at-each P xs k d a within

follows-own : (rest : List ℕ) → Follows rest rest
follows-own rest line z whole e = (z, e)

follows-line : (rest line more m : List ℕ) → IsWholeLine line → rest ≡ line ++ more → Follows rest (line ++ m)
follows-line rest line more m whole e l z w f =
    let both = same-lines line l m z whole w f in (more, e ∙ ap (λ (t : List ℕ). t ++ more) both.0)

joined-one : (rs : List PlainReport) (r : PlainReport) → flat_map system_text (rs ++ r ∷ []) ≡ flat_map system_text rs ++ system_text r
joined-one rs r = flat_map-append system_text rs (r ∷ []) ∙ ap (λ (t : List ℕ). flat_map system_text rs ++ t) (append-nil (system_text r))

all-one : (rs : List PlainReport) (r : PlainReport) → AllByRecursion IsSystemReport rs → IsSystemReport r →
    AllByRecursion IsSystemReport (rs ++ r ∷ [])
all-one [] r a own = (own, tt)
all-one (s ∷ rs) r a own = (a.0, all-one rs r a.1 own)

-- the general case: what was read can begin, and no text of reports goes on as the rest does
module _ (bytes read rest : List ℕ) (left : ℕ) (lines : AreLines read) (parts : bytes ≡ read ++ rest) (left_is : left ≡ length rest)
    (begins : CanBegin read) (refuse : (y : List ℕ) (ss : List PlainReport) → Follows rest y → (y ≡ [] → rest ≡ []) →
    AllByRecursion IsSystemReport ss → read ++ y ≡ report_text ss → ⊥) where
  stops-there : StopsIn bytes left
  stops-there = record {
    none = λ ss is. refuse rest ss (follows-own rest) (λ e. e) (each-one IsSystemReport ss is.each) (sym parts ∙ is.text);
    lines = lines.lines;
    whole = all-of IsWholeLine lines.lines lines.whole;
    rest = rest;
    parts = parts ∙ ap (λ (t : List ℕ). t ++ rest) lines.is;
    left_is = left_is;
    before = subst CanBegin lines.is begins;
    stops = λ line more whole e begin.
        refuse (line ++ begin.more) begin.reports (follows-line rest line more begin.more whole e)
        (λ f. absurd (not-empty-line line begin.more whole (sym f))) (each-one IsSystemReport begin.reports begin.text.each)
        (ap (λ (t : List ℕ). t ++ (line ++ begin.more)) lines.is
        ∙ sym (append_assoc (joined lines.lines) line begin.more) ∙ begin.text.text);
  }

pub stops-in-system : (bytes text : List ℕ) (left n : ℕ) (rs : List PlainReport) → All IsSystemReport rs →
    bytes ≡ flat_map system_text rs ++ text →
    n ≡ length rs → n < 2 ^ 64 → NoneBegins text (last_line n) → StopsInSystem text left → StopsIn bytes left
stops-in-system bytes text left n rs each before len fits no_last stops =
    stops-there bytes (done ++ at.read) at.rest left (more-lines done at.read (systems-lines rs own) at.lines)
    (before ∙ ap (λ (t : List ℕ). done ++ t) at.parts ∙ sym (append_assoc done at.read at.rest)) at.left_is (begins at.begun) refused
  where
    at : SystemStop text left
    at = system-stop text left stops

    done : List ℕ
    done = flat_map system_text rs

    own : AllByRecursion IsSystemReport rs
    own = each-one IsSystemReport rs each

    begins : (at.read ≡ []) ⊎ Begun at.read → CanBegin (done ++ at.read)
    begins (inl none) = record {
      reports = rs;
      more = last_line (length rs);
      text = record {
        each = each;
        text = ap (λ (t : List ℕ). t ++ last_line (length rs)) (ap (λ (t : List ℕ). done ++ t) none ∙ append-nil done);
      };
    }
    begins (inr b) = record {
      reports = rs ++ b.report ∷ [];
      more = b.behind ++ last_line (length (rs ++ b.report ∷ []));
      text = record {
        each = all-of IsSystemReport (rs ++ b.report ∷ []) (all-one rs b.report own b.is);
        text = whole-text done at.read b.behind (last_line (length (rs ++ b.report ∷ [])))
            ∙ ap (λ (t : List ℕ). t ++ last_line (length (rs ++ b.report ∷ [])))
            (ap (λ (t : List ℕ). done ++ t) (sym b.text) ∙ sym (joined-one rs b.report));
      };
    }
      where
        whole-text : (a b c d : List ℕ) → a ++ b ++ (c ++ d) ≡ a ++ (b ++ c) ++ d
        whole-text a b c d = simp (append_assoc) refl

    refused : (y : List ℕ) (ss : List PlainReport) → Follows at.rest y → (y ≡ [] → at.rest ≡ []) →
        AllByRecursion IsSystemReport ss → done ++ at.read ++ y ≡ report_text ss → ⊥
    refused y ss follows empty all e = elim (goes rs ss (at.read ++ y) (length ss) own all (sym (append_assoc done at.read y) ∙ e)) [
      | inl same ↦
          let number : length ss ≡ n = ap (λ (t : List PlainReport). length t) same.0 ∙ sym len in
          let last = at.not_last y n fits follows (same.1 ∙ ap last_line number) in no_last last.0 last.1
      | inr more ↦ at.refuse y more.1 more.0 follows more.2 more.3
    ]

-- after the last line there is something
pub stops-behind : (bytes text end : List ℕ) (n : ℕ) (rs : List PlainReport) → All IsSystemReport rs →
    bytes ≡ flat_map system_text rs ++ text →
    n ≡ length rs → n < 2 ^ 64 → text ≡ last_line n ++ end → (length end ≡ 0 → ⊥) → StopsIn bytes (length end)
stops-behind bytes text end n rs each before len fits is some =
    stops-there bytes (done ++ last_line n) end (length end)
    (more-lines done (last_line n) (systems-lines rs own) (one-line (last_line n) (whole-last n fits)))
    (before ∙ ap (λ (t : List ℕ). done ++ t) is ∙ sym (append_assoc done (last_line n) end)) refl begins refused
  where
    done : List ℕ
    done = flat_map system_text rs

    own : AllByRecursion IsSystemReport rs
    own = each-one IsSystemReport rs each

    begins : CanBegin (done ++ last_line n)
    begins = record {
      reports = rs;
      more = [];
      text = record { each = each; text = append-nil (done ++ last_line n) ∙ ap (λ k. done ++ last_line k) len };
    }

    refused : (y : List ℕ) (ss : List PlainReport) → Follows end y → (y ≡ [] → end ≡ []) →
        AllByRecursion IsSystemReport ss → done ++ last_line n ++ y ≡ report_text ss → ⊥
    refused y ss follows empty all e =
        elim (goes rs ss (last_line n ++ y) (length ss) own all (sym (append_assoc done (last_line n) y) ∙ e)) [
          | inl same ↦
              let number : n ≡ length ss = len ∙ ap (λ (t : List PlainReport). length t) (sym same.0) in
              some (ap (λ (t : List ℕ). length t)
              (empty (append_cancel_left (last_line n) y [] (same.1 ∙ ap last_line (sym number)
              ∙ sym (append-nil (last_line n))))))
          | inr more ↦ no-system n y more.1 more.0 more.3
        ]
