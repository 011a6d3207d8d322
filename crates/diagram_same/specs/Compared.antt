-- What is compared of two rows, and of two subsystems.
use Rattle.std.specs.Prelude.{◌≡◌, ℕ}
use Rattle.diagram_meaning.specs.Rows.{control_at, row_at}
use Rattle.diagram_meaning.specs.Diagram.{Diagram, type_at, op_at, time_at}
use Rattle.diagram_same.specs.Same.{control_types, role_of, AreEqualTimes, AreMovedInputs, IsMovedOwner}

-- rows b and c compute the same, at the same ticks and in the same role
abbrev pub ComputeAlike : Diagram → (b c : ℕ) → Type 0
ComputeAlike d b c =
    (op_at d b ≡ op_at d c) × (role_of (row_at d.rows b).kind ≡ role_of (row_at d.rows c).kind)
    × (type_at d.types b ≡ type_at d.types c) × AreEqualTimes (time_at d b) (time_at d c)

-- row b inside e and row c inside f are in the same subsystem, and have the same inputs
abbrev pub ArePlacedAlike : Diagram → (e f b c : ℕ) → Type 0
ArePlacedAlike d e f b c =
    IsMovedOwner e f (row_at d.rows b).owner (row_at d.rows c).owner × AreMovedInputs d e f b c

-- subsystems e and f are controlled alike, by values of the same types
abbrev pub HaveEqualControls : Diagram → (e f : ℕ) → Type 0
HaveEqualControls d e f =
    (control_at d.rows e ≡ control_at d.rows f) × (control_types d e ≡ control_types d f)
