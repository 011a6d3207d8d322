-- What reading a text gives.
use Rattle.std.specs.Prelude.{◌≡◌, ℕ, List, [], ⊤}
use Rattle.mdl_tree.specs.Spelling.{Mdl, Fault}
use Rattle.mdl_tree.specs.Walks.{SectionTree}
use Rattle.mdl_reader.specs.declared.fault.ReadFault.{ReadFault}
use Rattle.mdl_reader.specs.declared.fault.ReadFault.TheVariants.{Syntax, Memory}

-- a section of no name at line 0 with the items that the bytes spell
pub record IsFileOf (bytes : List ℕ) (file : SectionTree) : Type 0 where
  pub name : file.name ≡ []
  pub line : file.line ≡ 0
  pub items : Mdl bytes file.items

-- the first error of the bytes; nothing is said where memory runs out
abbrev pub IsFaultOf : List ℕ → ReadFault → Type 0
IsFaultOf bytes (Syntax line kind) = Fault bytes line kind
IsFaultOf bytes Memory = ⊤
