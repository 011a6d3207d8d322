-- Which reports there are, and those of a diagram.
use Rattle.std.specs.Prelude.{◌≡◌, ℕ, ◌≤◌, ⊤, List, [], ◌∷◌, length, All, Option}
use Rattle.std.specs.List.{AllZip}
use Rattle.base_core.specs.declared.Port.{Port}
use Rattle.base_core.specs.declared.Port.TheVariants.{Number, Enable, Trigger}
use Rattle.modules_certificate.specs.Sound.{IsCertificateFor}
use Rattle.diagram_meaning.specs.Diagram.{Diagram}
use Rattle.diagram_meaning.specs.Needs.{AreTrueNeeds}
use Rattle.base_core.specs.Ports.{control_ports, ports_in, ports_mask, AreControls}
use Rattle.diagram_meaning.specs.Rows.{inports_of, outports_of, system_control}
use Rattle.diagram_blocks.specs.Kinds.{is_inport, is_outport}
use Rattle.diagram_meaning.specs.WellFormed.{HasPorts}
use Rattle.modules_profile.specs.Functions.{functions_for}
use Rattle.modules_profile.specs.Systems.{systems}
use Rattle.modules_report.specs.PlainReport.{PlainReport}
use Rattle.modules_report.specs.Texts.{ports_of, report_text}

-- a set of ports
abbrev pub IsSetOf : List Port → ℕ → Type 0
IsSetOf ports mask = ports_mask (ports_in mask ports) ≡ mask

-- a set of inputs that the system of a report has
abbrev pub AreInputs : PlainReport → ℕ → Type 0
AreInputs r mask = IsSetOf (ports_of r) mask

-- A report that is right for some needs of its outputs: its functions are those for them, which
-- part the outputs and are ordered by the least output of each, and its certificate has the least output
-- of each function and, for each two of them, the least bit that lies in just one of their needs.
pub record IsReport (r : PlainReport) : Type 0 where
  pub inputs : r.inputs ≤ 32
  pub controls : AreControls r.controls
  pub outputs : r.outputs ≤ 32
  pub needs : List ℕ
  pub one_each : length needs ≡ r.outputs
  pub in_inputs : All (AreInputs r) needs
  pub row : r.profile.row ≡ r.row
  pub functions : r.profile.functions ≡ functions_for needs
  pub certificate : IsCertificateFor needs r.certificate

-- ---- Reports of a diagram

-- the report on a system, whose outputs have these needs
pub record IsReportOn (d : Diagram) (s : Option ℕ) (r : PlainReport) : Type 0 where
  pub row : r.row ≡ s
  pub inputs : r.inputs ≡ length (inports_of d.rows s)
  pub controls : r.controls ≡ control_ports (system_control d.rows s)
  pub outputs : r.outputs ≡ length (outports_of d.rows s)
  pub needs : List ℕ
  pub are_needs : AreTrueNeeds d s needs
  pub profile_row : r.profile.row ≡ s
  pub functions : r.profile.functions ≡ functions_for needs
  pub certificate : IsCertificateFor needs r.certificate

-- the text of the reports on all systems of a diagram: the root, and then the subsystem rows in
-- order
pub record IsReportText (d : Diagram) (text : List ℕ) : Type 0 where
  pub reports : List PlainReport
  pub each : AllZip (IsReportOn d) (systems d.rows) reports
  pub is : text ≡ report_text reports

-- Where the Inports of a system have its ports and so do its Outports, the report on it is right
-- for what its outputs need.
abbrev pub ReportsOnAreRight : Type 0
ReportsOnAreRight =
    (d : Diagram) (s : Option ℕ) (r : PlainReport) → HasPorts d.rows is_inport s →
    HasPorts d.rows is_outport s → IsReportOn d s r → IsReport r
