-- The report on a system of a diagram is right for what its outputs need.
use Rattle.std.proofs.Common.{◌≡◌, ℕ, suc, ◌-◌, ◌<◌, ◌≤◌, List, [], ◌∷◌, ◌++◌, length, map, refl, sym, ap, subst, ◌∙◌, arith}
use Rattle.std.specs.Prelude.{Option}
use Rattle.std.specs.Int.{IsBitSet}
use Rattle.std.specs.List.{AllByRecursion, AllZip, range_with_len}
use Rattle.base_core.specs.declared.Control.{Control}
use Rattle.base_core.specs.declared.Control.TheVariants.{Plain, Enabled, Triggered, Both}
use Rattle.base_core.specs.declared.Port.{Port}
use Rattle.base_core.specs.declared.Port.TheVariants.{Number}
use Rattle.diagram_meaning.specs.Diagram.{Diagram}
use Rattle.diagram_meaning.specs.Needs.{IsMaskOf, TrueNeeds}
use Rattle.diagram_meaning.specs.Rows.{outports_of, row_at, system_control}
use Rattle.diagram_blocks.specs.Kinds.{is_inport, is_outport, port_of}
use Rattle.diagram_meaning.specs.WellFormed.{HasPorts}
use Rattle.base_core.specs.Ports.{control_ports, ports_in, ports_mask, AreControls}
use Rattle.modules_report.specs.PlainReport.{PlainReport}
use Rattle.modules_report.specs.Reports.{AreInputs, IsReportOn, ReportsOnAreRight}
use Rattle.modules_report.proofs.OwnMasks.{own-mask}
use Rattle.modules_report.proofs.PortRows.{ports-count}
use Rattle.modules_report.proofs.SameNeeds.{at-each}

are-controls : (control : Control) → AreControls (control_ports control)
are-controls Plain = tt
are-controls (Enabled reset) = tt
are-controls (Triggered edge) = tt
are-controls (Both reset edge) = tt

same-lengths : {A B : Type 0} (R : A → B → Type 0) (xs : List A) (ys : List B) → AllZip R xs ys → length ys ≡ length xs
same-lengths R [] [] a = refl
same-lengths R [] (y ∷ ys) a = absurd a
same-lengths R (x ∷ xs) [] a = absurd a
same-lengths R (x ∷ xs) (y ∷ ys) a = ap suc (same-lengths R xs ys a.1)

module _ (d : Diagram) (s : Option ℕ) (r : PlainReport) (ins : HasPorts d.rows is_inport s) (on : IsReportOn d s r) where
  inputs-few : r.inputs ≤ 32
  inputs-few = let most = ins.at_most in let count = ports-count d.rows is_inport s ins in let same = on.inputs in
      omega (arith, most, count, same)

  no-input : (o mask k : ℕ) → IsMaskOf (TrueNeeds d s o) mask → r.inputs < k → k ≤ 32 → IsBitSet mask (k - 1) → ⊥
  no-input o mask k is above high set =
      let (i, input, reaches) = (is.number k (omega (arith, above)) high).0 set in
      let range = ins.in_range i input.in_table input.is_own (ap is_inport input.is_inport) in
      let top = range.1 in let port : port_of (row_at d.rows i).kind ≡ k = ap port_of input.is_inport in
      let count = ports-count d.rows is_inport s ins in let same = on.inputs in omega (arith, above, top, port, count, same)

  own : (o mask : ℕ) → IsMaskOf (TrueNeeds d s o) mask → AreInputs r mask
  own o mask is =
      ap (λ (controls : List Port). ports_mask (ports_in mask (map Number (range_with_len 1 r.inputs) ++ controls))) on.controls
      ∙ own-mask mask is.bounded r.inputs inputs-few (λ k above high. no-input o mask k is above high)
      (system_control d.rows s) is.enable is.trigger

  all-own : (outputs masks : List ℕ) → AllZip (λ o mask. IsMaskOf (TrueNeeds d s o) mask) outputs masks → AllByRecursion (AreInputs r) masks
  all-own [] [] a = tt
  all-own [] (mask ∷ masks) a = absurd a
  all-own (o ∷ outputs) [] a = absurd a
  all-own (o ∷ outputs) (mask ∷ masks) a = (own o mask a.0, all-own outputs masks a.1)

pub reports_on_are_right : ReportsOnAreRight
reports_on_are_right d s r ins outs on = record {
  inputs = inputs-few d s r ins on;
  controls = subst AreControls (sym on.controls) (are-controls (system_control d.rows s));
  outputs = (let most = outs.at_most in let count = ports-count d.rows is_outport s outs in let same = on.outputs in
      omega (arith, most, count, same));
  needs = on.needs;
  one_each = same-lengths _ (outports_of d.rows s) on.needs on.are_needs ∙ sym on.outputs;
  in_inputs = λ k e within. at-each (AreInputs r) on.needs k e (all-own d s r ins on (outports_of d.rows s) on.needs on.are_needs) within;
  row = on.profile_row ∙ sym on.row;
  functions = on.functions;
  certificate = on.certificate;
}
