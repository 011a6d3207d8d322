-- Where the lines of a text can't be read on.
use Rattle.std.specs.Prelude.{◌≡◌, ℕ, ◌+◌, ◌^◌, ◌<◌, ⊤, ◌⊎◌, List, [], ◌∷◌, ◌++◌, flat_map, length, All}
use Rattle.base_core.specs.declared.Port.{Port}
use Rattle.modules_certificate.specs.declared.Difference.{Difference}
use Rattle.modules_profile.specs.declared.Function.{Function}
use Rattle.modules_report.specs.declared.fault.ReportFault.{ReportFault}
use Rattle.modules_report.specs.declared.fault.ReportFault.TheVariants.{Form, Memory as OutOfMemory}
use Rattle.modules_report.specs.declared.head.Head.{Head}
use Rattle.modules_report.specs.declared.stop.Stop.{Stop}
use Rattle.modules_report.specs.declared.stop.Stop.TheVariants.{Left, Memory}
use Rattle.modules_report.specs.Following.{CanComeFirst}
use Rattle.modules_report.specs.Heads.{IsPossible, head_ports, head_text}
use Rattle.modules_report.specs.PlainReport.{PlainReport}
use Rattle.modules_report.specs.Reading.{CanBegin, HasRow, IsSystemReport, IsTextOf, IsWholeLine, joined}
use Rattle.modules_report.specs.Reports.{IsSetOf}
use Rattle.modules_report.specs.Texts.{differ_line, last_line, out_line, out_lines, ports_of, system_line, system_text}

-- what is so of the number of bytes that are left, unless the stop is because memory runs out
abbrev pub OfLeft : Stop → (ℕ → Type 0) → Type 0
OfLeft (Left bytes) Holds = Holds bytes
OfLeft Memory Holds = ⊤

-- what is so of the number of a line, unless the error is out of memory
abbrev pub OfForm : ReportFault → (ℕ → Type 0) → Type 0
OfForm (Form line) Holds = Holds line
OfForm OutOfMemory Holds = ⊤

-- no text begins with one that goes before
abbrev pub NoneBegins : List ℕ → List ℕ → Type 0
NoneBegins text line = (more : List ℕ) → text ≡ line ++ more → ⊥

-- the line of no system is here
abbrev pub NoHead : List ℕ → Type 0
NoHead text = (h : Head) → HasRow h.row → IsPossible h → NoneBegins text (head_text h)

-- a function with sets of the inputs and of the outputs of a system
pub record IsFunctionOf (ports : List Port) (outputs : ℕ) (f : Function) : Type 0 where
  pub takes : IsSetOf ports f.inputs
  pub gives : f.outputs < 2 ^ outputs

-- the line of no such function is here
abbrev pub NoFunction : List Port → ℕ → ℕ → List ℕ → Type 0
NoFunction ports outputs j text =
    (f : Function) → IsFunctionOf ports outputs f → NoneBegins text (out_line ports outputs j f)

-- the line of no other function is here
abbrev pub IsOnlyFunction : List Port → ℕ → ℕ → List ℕ → Function → Type 0
IsOnlyFunction ports outputs j text g =
    (f : Function) (more : List ℕ) → IsFunctionOf ports outputs f →
    text ≡ out_line ports outputs j f ++ more → g ≡ f

-- the line at which the text begins is that of no system
abbrev pub StopsAtHead : List ℕ → ℕ → Type 0
StopsAtHead text left = NoHead text × (left ≡ length text)

-- the line at which the text begins is that of no function with a number
abbrev pub StopsAtLine : List Port → ℕ → ℕ → List ℕ → ℕ → Type 0
StopsAtLine ports outputs j text left = NoFunction ports outputs j text × (left ≡ length text)

-- Some functions of a system are read, and then, with so many bytes left, comes the line of none
-- that can follow them.
pub record StopsAtFunction (h : Head) (text : List ℕ) (left : ℕ) : Type 0 where
  pub functions : List Function
  pub rest : List ℕ
  pub left_is : left ≡ length rest
  pub text_is : text ≡ out_lines (head_ports h) h.outputs 1 functions ++ rest
  pub sets : All (λ (f : Function). IsSetOf (head_ports h) f.inputs) functions
  pub first : CanComeFirst h.outputs h.functions functions
  pub fewer : length functions < h.functions
  pub none : (f : Function) → IsFunctionOf (head_ports h) h.outputs f →
      CanComeFirst h.outputs h.functions (functions ++ f ∷ []) →
      NoneBegins rest (out_line (head_ports h) h.outputs (length functions + 1) f)

-- The lines of some differences are read, and then, with so many bytes left, comes another than
-- that of the next.
pub record StopsAtDifference (ports : List Port) (differ : List Difference) (text : List ℕ)
    (left : ℕ) : Type 0 where
  pub before : List Difference
  pub next : Difference
  pub behind : List Difference
  pub rest : List ℕ
  pub differ_is : differ ≡ before ++ next ∷ behind
  pub left_is : left ≡ length rest
  pub text_is : text ≡ flat_map (differ_line ports) before ++ rest
  pub none : NoneBegins rest (differ_line ports next)

-- the line of a system is read, and then not all of its functions
pub record StopsInFunctions (text : List ℕ) (left : ℕ) : Type 0 where
  pub head : Head
  pub row : HasRow head.row
  pub possible : IsPossible head
  pub more : List ℕ
  pub text_is : text ≡ head_text head ++ more
  pub stops : StopsAtFunction head more left

-- the lines of a system and its functions are read, and then not all differences
pub record StopsInDifferences (text : List ℕ) (left : ℕ) : Type 0 where
  pub report : PlainReport
  pub is : IsSystemReport report
  pub more : List ℕ
  pub text_is : text
      ≡ system_line report ++ (out_lines (ports_of report) report.outputs 1 report.profile.functions
      ++ more)
  pub stops : StopsAtDifference (ports_of report) report.certificate.differ more left

-- not all lines of a system are read
abbrev pub StopsInSystem : List ℕ → ℕ → Type 0
StopsInSystem text left =
    StopsAtHead text left ⊎ (StopsInFunctions text left ⊎ StopsInDifferences text left)

-- The bytes are the text of no reports. Some text of reports begins with their first lines, and the
-- line at which so many bytes are left isn't there, lacks its end or can't follow those.
pub record StopsIn (bytes : List ℕ) (left : ℕ) : Type 0 where
  pub none : (reports : List PlainReport) → IsTextOf bytes reports → ⊥
  pub lines : List (List ℕ)
  pub whole : All IsWholeLine lines
  pub rest : List ℕ
  pub parts : bytes ≡ joined lines ++ rest
  pub left_is : left ≡ length rest
  pub before : CanBegin (joined lines)
  pub stops : (line more : List ℕ) → IsWholeLine line → rest ≡ line ++ more →
      CanBegin (joined lines ++ line) → ⊥

-- Where systems are read, and what is after them is neither the last line nor can be read as a
-- system, there the text is one of no reports.
abbrev pub StopsAreFaults : Type 0
StopsAreFaults =
    (bytes text : List ℕ) (left : ℕ) (reports : List PlainReport) → All IsSystemReport reports →
    bytes ≡ flat_map system_text reports ++ text →
    length reports < 2 ^ 64 → NoneBegins text (last_line (length reports)) →
    StopsInSystem text left → StopsIn bytes left
