-- Which subsystems of a diagram are the same: all that their code is made from is equal but for the
-- numbers of their rows.
use Rattle.std.specs.Prelude.{◌≡◌, ℕ, ◌+◌, ◌≤◌, MatchBool, List, map, filter, Option, Some, None, Contains, ⊤}
use Rattle.std.specs.List.{AllZip}
use Rattle.base_fixed_point.specs.declared.FixType.{FixType}
use Rattle.diagram_blocks.specs.declared.Kind.{Kind}
use Rattle.diagram_blocks.specs.declared.Kind.TheVariants.{Inport, Outport, SubSystem}
use Rattle.diagram_meaning.specs.declared.table.Row.{Row}
use Rattle.diagram_meaning.specs.declared.times.Time.{Time}
use Rattle.diagram_blocks.specs.Kinds.{is_subsystem}
use Rattle.diagram_meaning.specs.Rows.{row_at, row_numbers, is_inside, is_inport_of, control_at}
use Rattle.diagram_meaning.specs.Diagram.{Diagram, type_at, op_at, time_at}
use Rattle.diagram_meaning.specs.Inputs.{control_wires_of}
use Rattle.diagram_same.specs.declared.role.Role.{Role}
use Rattle.diagram_same.specs.declared.role.Role.TheVariants.{Input, Output, Subsystem, Other}

-- what the code of a row has of its block beside the operation
abbrev pub role_of : Kind → Role
role_of (Inport port) = Input port
role_of (Outport port reset initial) = Output port reset initial.num initial.den
role_of (SubSystem control) = Subsystem control
role_of _ = Other

-- two sample times have the same ticks
pub record AreEqualTimes (a b : Time) : Type 0 where
  pub period : a.period ≡ b.period
  pub offset : a.offset ≡ b.offset

-- row b is as far after row e as row c after row f
abbrev pub IsMoved : (e f b c : ℕ) → Type 0
IsMoved e f b c = b + f ≡ c + e

abbrev pub IsMovedOwner : (e f : ℕ) → Option ℕ → Option ℕ → Type 0
IsMovedOwner e f (Some b) (Some c) = IsMoved e f b c
IsMovedOwner e f None None = ⊤
IsMovedOwner e f (Some b) None = ⊥
IsMovedOwner e f None (Some c) = ⊥

-- the inputs of row b, which is inside e, and of row c, which is inside f, are the same; what enters
-- an Inport of e itself, or of f, doesn't count
abbrev pub AreMovedInputs : Diagram → (e f b c : ℕ) → Type 0
AreMovedInputs d e f b c =
    MatchBool (is_inport_of d.rows (Some e) b) ⊤
    (AllZip (IsMoved e f) (row_at d.rows b).inputs (row_at d.rows c).inputs)

-- row b inside e and row c inside f are the same
pub record AreAlike (d : Diagram) (e f b c : ℕ) : Type 0 where
  pub op : op_at d b ≡ op_at d c
  pub role : role_of (row_at d.rows b).kind ≡ role_of (row_at d.rows c).kind
  pub type : type_at d.types b ≡ type_at d.types c
  pub time : AreEqualTimes (time_at d b) (time_at d c)
  pub inputs : AreMovedInputs d e f b c
  pub owner : IsMovedOwner e f (row_at d.rows b).owner (row_at d.rows c).owner

-- the rows inside a subsystem, in order
abbrev pub rows_inside : List Row → ℕ → List ℕ
rows_inside rows e = filter (λ b. is_inside rows (Some e) b) (row_numbers rows)

-- the types of what controls a subsystem, an enable before a trigger
abbrev pub control_types : Diagram → ℕ → List FixType
control_types d e = map (type_at d.types) (control_wires_of d.rows (Some e))

-- subsystems e and f are the same
pub record AreSame (d : Diagram) (e f : ℕ) : Type 0 where
  pub rows : AllZip (AreAlike d e f) (rows_inside d.rows e) (rows_inside d.rows f)
  pub control : control_at d.rows e ≡ control_at d.rows f
  pub control_types : control_types d e ≡ control_types d f

-- ---- Classes

-- the subsystem rows of a diagram, in order
abbrev pub subsystem_rows : List Row → List ℕ
subsystem_rows rows = filter (λ e. is_subsystem (row_at rows e).kind) (row_numbers rows)

-- r is the first subsystem that is the same as e
pub record IsFirstOf (d : Diagram) (e r : ℕ) : Type 0 where
  pub is_row : Contains (subsystem_rows d.rows) r
  pub same : AreSame d r e
  pub first : (f : ℕ) → Contains (subsystem_rows d.rows) f → AreSame d f e → r ≤ f

-- for each subsystem, in order, the first that is the same
abbrev pub AreFirsts : Diagram → List ℕ → Type 0
AreFirsts d firsts = AllZip (IsFirstOf d) (subsystem_rows d.rows) firsts
