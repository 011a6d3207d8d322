-- Paths of rows, each with the type of the next one, and what is known of rows beside them.
use Rattle.std.specs.Prelude.{◌≡◌, ℕ, suc, ◌+◌, ◌<◌, ◌⊎◌, List, length, slice_index, Contains, Option}
use Rattle.base_fixed_point.specs.declared.FixType.{FixType}
use Rattle.diagram_meaning.specs.declared.table.Row.{Row}
use Rattle.diagram_meaning.specs.Types.{type_within}
use Rattle.diagram_meaning.specs.TypeRefusals.{followed_type}
use Rattle.diagram_types.specs.declared.marks.Mark.{Mark}
use Rattle.diagram_types.specs.declared.marks.Mark.TheVariants.{OnPath, Settled}
use Rattle.diagram_types.specs.Marks.{mark_at}

-- rules lead from row b to row c, by one step or more
pub record LeadsTo (rows : List Row) (b c : ℕ) : Type 0 where
  pub more : ℕ
  pub same_within : (m n : ℕ) → n ≡ suc more + m → type_within rows n b ≡ type_within rows m c

-- one mark a row: what is settled is right, and rows that count as on the path are there
pub record AreMarks (rows : List Row) (marks : List Mark) (path : List ℕ) : Type 0 where
  pub one_each : length marks ≡ length rows
  pub right : (b : ℕ) (met : Option FixType) → mark_at marks b ≡ Settled met →
      met ≡ followed_type rows b
  pub listed : (b : ℕ) → mark_at marks b ≡ OnPath → Contains path b

-- rules lead from each row of the path to row c
pub record IsPath (rows : List Row) (path : List ℕ) (c : ℕ) : Type 0 where
  pub inside : (i : ℕ) → i < length path → slice_index path i < length rows
  pub leads : (i : ℕ) → i < length path → LeadsTo rows (slice_index path i) c
  pub same_type : (i : ℕ) → i < length path →
      followed_type rows (slice_index path i) ≡ followed_type rows c

-- from each row of the path this is met
pub record AllMeet (rows : List Row) (path : List ℕ) (met : Option FixType) : Type 0 where
  pub inside : (i : ℕ) → i < length path → slice_index path i < length rows
  pub same_type : (i : ℕ) → i < length path → followed_type rows (slice_index path i) ≡ met

-- the first n rows of the path are settled so, and no other row
pub record AreSettled (before after : List Mark) (path : List ℕ) (n : ℕ)
    (met : Option FixType) : Type 0 where
  pub one_each : length after ≡ length before
  pub settled : (i : ℕ) → i < n → mark_at after (slice_index path i) ≡ Settled met
  pub others : (b : ℕ) →
      (mark_at after b ≡ mark_at before b) ⊎ (Contains path b × (mark_at after b ≡ Settled met))
