-- The nested subsystems as plain data, and their agreement with a table.
use Rattle.std.specs.Prelude.{◌≡◌, ℕ, List, [], ◌∷◌, map, Option, Some, None, ⊤}
use Rattle.base_core.specs.declared.Control.{Control}
use Rattle.base_core.specs.declared.Control.TheVariants.{Plain}
use Rattle.diagram_meaning.specs.declared.table.Row.{Row}
use Rattle.diagram_meaning.specs.declared.subsystem.Subsystem.{Subsystem}
use Rattle.diagram_meaning.specs.declared.subsystem.Subsystem.TheOpen.{Subsystem-F}
use Rattle.diagram_meaning.specs.declared.subsystem.Subsystem.TheFolds.{fold-Subsystem}
use Rattle.diagram_meaning.specs.Rows.{row_at, control_at, rows_of, subsystems_of}

-- a system with its own rows and the systems directly inside it
mutual
  pub data System : Type 0 where
    system : (row : Option ℕ) (line : ℕ) (control : Control) (own : List ℕ) (children : Systems) →
        System

  pub data Systems : Type 0 where
    no_more : Systems
    next : System → Systems → Systems

-- the systems of a list, one after another
abbrev pub systems_from : List System → Systems
systems_from [] = no_more
systems_from (child ∷ rest) = next child (systems_from rest)

-- what one level of the program's value stands for, given what its children stand for
abbrev pub system_from : Subsystem-F System → System
system_from x = system x.row x.line x.control x.own (systems_from x.children.items)

-- what a value of the program stands for
abbrev pub system_of : Subsystem → System
system_of = fold-Subsystem System system_from

-- the row of a system, none for the root
abbrev pub row_of : System → Option ℕ
row_of (system row line control own children) = row

-- the rows of the systems of a list
abbrev pub heads : Systems → List (Option ℕ)
heads no_more = []
heads (next child rest) = row_of child ∷ heads rest

-- a system has its row's line and control; the root is plain, and any line is right for it
abbrev pub HasPlace : List Row → Option ℕ → ℕ → Control → Type 0
HasPlace rows None line control = control ≡ Plain
HasPlace rows (Some e) line control =
    (line ≡ (row_at rows e).place.line) × (control ≡ control_at rows e)

-- a system and all inside it are those of the table
abbrev mutual
  pub Agrees : List Row → System → Type 0
  Agrees rows (system row line control own children) =
      HasPlace rows row line control × (own ≡ rows_of rows row)
      × (heads children ≡ map Some (subsystems_of rows row)) × AllAgree rows children

  pub AllAgree : List Row → Systems → Type 0
  AllAgree rows no_more = ⊤
  AllAgree rows (next child rest) = Agrees rows child × AllAgree rows rest

-- the nested systems of a table
pub record AreSystemsOf (rows : List Row) (root : System) : Type 0 where
  pub is_root : row_of root ≡ None
  pub agrees : Agrees rows root
