-- The laws of readings: each text has one file, or else one error.
use Rattle.std.specs.Prelude.{◌≡◌, ◌⊎◌, ℕ, List}
use Rattle.c_syntax.specs.declared.fault.CFault.{CFault}
use Rattle.lustre_syntax.specs.Tree.{FileTree}
use Rattle.lustre_syntax.specs.Lawful.{IsLawful}
use Rattle.lustre_rules.specs.Reading.{LustreText, LustreFaultOf}

-- the bytes are a text of one file and of no other, and have no error
pub record HasOneReading (bytes : List ℕ) : Type 0 where
  pub file : FileTree
  pub read : LustreText bytes file
  pub one : (other : FileTree) → LustreText bytes other → other ≡ file
  pub faultless : (fault : CFault) → LustreFaultOf bytes fault → ⊥

-- the bytes are no text of a file, and have one first error
pub record HasOneFault (bytes : List ℕ) : Type 0 where
  pub fault : CFault
  pub first : LustreFaultOf bytes fault
  pub one : (other : CFault) → LustreFaultOf bytes other → other ≡ fault
  pub unread : (file : FileTree) → LustreText bytes file → ⊥

-- each text has one reading, or else one error
abbrev pub TextsAreJudged : Type 0
TextsAreJudged = (bytes : List ℕ) → HasOneReading bytes ⊎ HasOneFault bytes

-- what is read is lawful
abbrev pub ReadingsAreLawful : Type 0
ReadingsAreLawful = (bytes : List ℕ) (f : FileTree) → LustreText bytes f → IsLawful f
