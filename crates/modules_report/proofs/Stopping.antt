-- What is known where the lines of a text aren't read on.
use Rattle.std.proofs.Common.{◌≡◌, ℕ, zero, suc, ◌+◌, ◌-◌, ◌<◌, ◌==◌, Bool, cond, List, [], ◌∷◌, ◌++◌, length, get_or, take, drop, min, refl, sym, ap, ap₂, subst, ◌∙◌, arith}
use Rattle.std.specs.Prelude.{flat_map}
use Rattle.std.specs.List.{All, AllByRecursion, count_by}
use Rattle.std.proofs.lemmas.Bool.{ne_eqb}
use Rattle.std.proofs.lemmas.List.{length-append}
use Rattle.std.proofs.lemmas.List.Sums.{sum_by-append, sum_by-cons}
use Rattle.base_core.specs.declared.Port.{Port}
use Rattle.modules_certificate.specs.declared.Difference.{Difference}
use Rattle.modules_profile.specs.declared.Function.{Function}
use Rattle.modules_report.specs.declared.head.Head.{Head}
use Rattle.modules_report.specs.Following.{CanComeFirst}
use Rattle.modules_report.specs.Heads.{head_ports, head_text}
use Rattle.modules_report.specs.PlainReport.{PlainReport}
use Rattle.modules_report.specs.Reading.{IsFormFault, IsWholeLine, greatest_line, joined}
use Rattle.modules_report.specs.Reports.{IsSetOf}
use Rattle.modules_report.specs.Stops.{IsFunctionOf, IsOnlyFunction, NoFunction, NoHead, NoneBegins, StopsAtDifference, StopsAreFaults, StopsAtFunction, StopsIn}
use Rattle.modules_report.specs.Texts.{differ_line, last_line, out_line, out_lines, ports_of, system_line, system_text}
use Rattle.modules_report.proofs.OneReport.{differ_lines, system-parts}
use Rattle.modules_report.proofs.SameNeeds.{each-one}
use Rattle.modules_report.proofs.SystemStops.{stops-in-system}

-- ---- Functions

module _ (h : Head) (ports : List Port) (are : ports ≡ head_ports h) (text rest : List ℕ) (fs : List Function) (k left : ℕ)
    (before : text ≡ out_lines ports h.outputs 1 fs ++ rest) (len : length fs ≡ k)
    (sets : All (λ (f : Function). IsSetOf (head_ports h) f.inputs) fs) (first : CanComeFirst h.outputs h.functions fs)
    (fewer : k < h.functions) (is : left ≡ length rest) where
  stops-before : ((f : Function) → IsFunctionOf ports h.outputs f → CanComeFirst h.outputs h.functions (fs ++ f ∷ []) →
      NoneBegins rest (out_line ports h.outputs (k + 1) f)) → StopsAtFunction h text left
  stops-before none = record {
    functions = fs;
    rest = rest;
    left_is = is;
    text_is = before ∙ ap (λ (ps : List Port). out_lines ps h.outputs 1 fs ++ rest) are;
    sets = sets;
    first = first;
    fewer = omega (arith, len, fewer);
    none = λ f own can more e. none f (subst (λ (ps : List Port). IsFunctionOf ps h.outputs f) (sym are) own) can more
        (e ∙ ap₂ (λ (ps : List Port) (n : ℕ). out_line ps h.outputs (n + 1) f ++ more) (sym are) len);
  }

  pub stops-unread : NoFunction ports h.outputs (k + 1) rest → StopsAtFunction h text left
  stops-unread none = stops-before (λ f own can. none f own)

  -- the line of a function was read that can't follow
  pub stops-at-other : (g : Function) (gs : List Function) → gs ≡ fs ++ g ∷ [] → IsOnlyFunction ports h.outputs (k + 1) rest g →
      (IsSetOf (head_ports h) g.inputs → CanComeFirst h.outputs h.functions gs → ⊥) → StopsAtFunction h text left
  stops-at-other g gs more only refused = stops-before (λ f own can next e.
      let same : g ≡ f = only f next own e in
      refused (subst (λ (ps : List Port). IsSetOf ps g.inputs) are (subst (λ (x : Function). IsSetOf ports x.inputs) (sym same) own.takes))
      (subst (CanComeFirst h.outputs h.functions) (ap (λ (x : Function). fs ++ x ∷ []) (sym same) ∙ sym more) can))

-- ---- Differences

split-at : (ds : List Difference) (i : ℕ) (d : Difference) → i < length ds → ds ≡ take i ds ++ get_or ds i d ∷ drop (suc i) ds
split-at [] i d within = absurd (omega (arith, within))
split-at (x ∷ ds) zero d within = refl
split-at (x ∷ ds) (suc i) d within = ap (λ (t : List Difference). x ∷ t) (split-at ds i d (omega (arith, within)))

pub stops-at-difference : (ports : List Port) (ds : List Difference) (i : ℕ) (d : Difference) (text rest : List ℕ)
    (left : ℕ) → i < length ds →
    text ≡ flat_map (differ_line ports) (take i ds) ++ rest → left ≡ length rest →
    NoneBegins rest (differ_line ports (get_or ds i d)) → StopsAtDifference ports ds text left
stops-at-difference ports ds i d text rest left within before is none = record {
  before = take i ds;
  next = get_or ds i d;
  behind = drop (suc i) ds;
  rest = rest;
  differ_is = split-at ds i d within;
  left_is = is;
  text_is = before;
  none = none;
}

-- ---- Systems

pub shorter : (r : PlainReport) (text next : List ℕ) → text ≡ system_text r ++ next → length next < length text
shorter r text next e =
    let all : length text ≡ length (system_line r ++ rest) = ap (λ (t : List ℕ). length t) (e ∙ system-parts r next) in
    let long : length (system_line r ++ rest) ≡ length (system_line r) + length rest = length-append (system_line r) rest in
    let one = length-append (out_lines' r) (differ_lines r ++ next) in let two = length-append (differ_lines r) next in
    let some : 0 < length (system_line r) = omega arith in
    omega (arith, all, long, one, two, some)
  where
    out_lines' : PlainReport → List ℕ
    out_lines' s = out_lines (ports_of s) s.outputs 1 s.profile.functions

    rest : List ℕ
    rest = out_lines' r ++ (differ_lines r ++ next)

no-bytes : (text : List ℕ) → length text ≡ 0 → text ≡ []
no-bytes [] e = refl
no-bytes (b ∷ text) e = absurd (omega (arith, e))

pub nothing-stands : (text : List ℕ) → length text ≡ 0 → (line : List ℕ) → 0 < length line → NoneBegins text line
nothing-stands text none line some more e =
    let all : length text ≡ length (line ++ more) =
    ap (λ (t : List ℕ). length t) e in let sum = length-append line more in omega (arith, none, all, sum, some)

pub no-head-stands : (text : List ℕ) → length text ≡ 0 → NoHead text
no-head-stands text none h row possible = nothing-stands text none (head_text h) (omega arith)

pub no-last-stands : (text : List ℕ) (n : ℕ) → length text ≡ 0 → NoneBegins text (last_line n)
no-last-stands text n none = nothing-stands text none (last_line n) (omega arith)

-- ---- The number of the line

abbrev one-if : ℕ → ℕ
one-if b = cond (b == 10) 1 0

plain-ends : (bytes : List ℕ) → AllByRecursion (λ b. b ≡ 10 → ⊥) bytes → count_by (λ b. b == 10) bytes ≡ 0
plain-ends [] a = refl
plain-ends (b ∷ bytes) a =
    let first = sum_by-cons one-if b bytes in let none : one-if b ≡ 0 = ap (λ (t : Bool). cond t 1 0) (ne_eqb b 10 a.0) in
    let more = plain-ends bytes a.1 in omega (arith, first, none, more)

line-ends : (line : List ℕ) → IsWholeLine line → count_by (λ b. b == 10) line ≡ 1
line-ends line w =
    ap (count_by (λ b. b == 10)) w.ended ∙ sum_by-append one-if w.bytes (10 ∷ [])
    ∙ (let none = plain-ends w.bytes (each-one (λ b. b ≡ 10 → ⊥) w.bytes w.plain) in
    let last : count_by (λ b. b == 10) (10 ∷ []) ≡ 1 = refl in omega (arith, none, last))

lines-ends : (lines : List (List ℕ)) → AllByRecursion IsWholeLine lines → count_by (λ b. b == 10) (joined lines) ≡ length lines
lines-ends [] a = refl
lines-ends (line ∷ lines) a =
    sum_by-append one-if line (joined lines)
    ∙ (let one = line-ends line a.0 in let more = lines-ends lines a.1 in omega (arith, one, more))

taken-first : (xs ys : List ℕ) → take (length xs) (xs ++ ys) ≡ xs
taken-first [] ys = refl
taken-first (x ∷ xs) ys = ap (λ (t : List ℕ). x ∷ t) (taken-first xs ys)

pub form-fault : (bytes first : List ℕ) (left before number : ℕ) → StopsIn bytes left → before ≡ length bytes - left →
    first ≡ take before bytes →
    number ≡ min (suc (count_by (λ b. b == 10) first)) greatest_line → IsFormFault bytes number
form-fault bytes first left before number stops is first-is told = record {
  none = stops.none;
  lines = stops.lines;
  whole = stops.whole;
  rest = stops.rest;
  parts = stops.parts;
  before = stops.before;
  number_is = told ∙ ap (λ k. min (suc k) greatest_line)
      (ap (count_by (λ b. b == 10)) (first-is ∙ ap₂ (λ (k : ℕ) (t : List ℕ). take k t) place stops.parts
      ∙ taken-first (joined stops.lines) stops.rest)
      ∙ lines-ends stops.lines (each-one IsWholeLine stops.lines stops.whole));
  stops = stops.stops;
}
  where
    place : before ≡ length (joined stops.lines)
    place = let all : length bytes ≡ length (joined stops.lines ++ stops.rest) = ap (λ (t : List ℕ). length t) stops.parts in
        let sum = length-append (joined stops.lines) stops.rest in let rest = stops.left_is in omega (arith, is, all, sum, rest)

pub stops_are_faults : StopsAreFaults
stops_are_faults bytes text left reports each before fits no_last stops =
    stops-in-system bytes text left (length reports) reports each before refl fits no_last stops
