-- The reports of a text, and the first line of a text that has none.
use Rattle.std.specs.Prelude.{◌≡◌, ℕ, suc, ◌-◌, ◌^◌, ◌<◌, ⊤, min, List, [], ◌∷◌, ◌++◌, flat_map, length, All, Option, Some, None}
use Rattle.modules_report.specs.PlainReport.{PlainReport}
use Rattle.modules_report.specs.Reports.{IsReport}
use Rattle.modules_report.specs.Texts.{report_text}

-- the root, or a row whose number has 32 bits
abbrev pub HasRow : Option ℕ → Type 0
HasRow None = ⊤
HasRow (Some row) = row < 2 ^ 32

-- a report that is right for some needs of its outputs, on the root or a row
pub record IsSystemReport (r : PlainReport) : Type 0 where
  pub row : HasRow r.row
  pub report : IsReport r

-- the bytes are the text of these reports
pub record IsTextOf (bytes : List ℕ) (reports : List PlainReport) : Type 0 where
  pub each : All IsSystemReport reports
  pub text : bytes ≡ report_text reports

-- the text of reports says them: no other reports have it
abbrev pub ReportsAreOne : Type 0
ReportsAreOne = (bytes : List ℕ) (reports others : List PlainReport) → IsTextOf bytes reports →
    IsTextOf bytes others → reports ≡ others

-- a line with its end, which is its only byte 10
pub record IsWholeLine (line : List ℕ) : Type 0 where
  pub bytes : List ℕ
  pub plain : All (λ b. b ≡ 10 → ⊥) bytes
  pub ended : line ≡ bytes ++ 10 ∷ []

-- some text of reports begins so
pub record CanBegin (first : List ℕ) : Type 0 where
  pub reports : List PlainReport
  pub more : List ℕ
  pub text : IsTextOf (first ++ more) reports

-- lines one after another
abbrev pub joined : List (List ℕ) → List ℕ
joined lines = flat_map (λ line. line) lines

-- the greatest number of a line that is reported; it stands for those beyond it too
abbrev pub greatest_line : ℕ
greatest_line = 2 ^ 32 - 1

-- The bytes are the text of no reports. Some text of reports begins with their first lines, and the
-- line with this number isn't there, lacks its end or can't follow those.
pub record IsFormFault (bytes : List ℕ) (number : ℕ) : Type 0 where
  pub none : (reports : List PlainReport) → IsTextOf bytes reports → ⊥
  pub lines : List (List ℕ)
  pub whole : All IsWholeLine lines
  pub rest : List ℕ
  pub parts : bytes ≡ joined lines ++ rest
  pub before : CanBegin (joined lines)
  pub number_is : number ≡ min (suc (length lines)) greatest_line
  pub stops : (line more : List ℕ) → IsWholeLine line → rest ≡ line ++ more →
      CanBegin (joined lines ++ line) → ⊥
