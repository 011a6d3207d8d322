-- How the blocks of a model are grouped, one after another.
use Rattle.std.specs.Prelude.{◌≡◌, ℕ, List, [], ◌∷◌, ◌++◌, length, Option, if◌then◌else◌}
use Rattle.diagram_meaning.specs.Rows.{same_system}
use Rattle.mdl_rows.specs.declared.groups.Groups.{Groups}
use Rattle.mdl_rows.specs.Models.{Block}
use Rattle.mdl_rows.specs.Held.{all_seen, group_of}

-- the groups of n blocks, none of which is taken
pub record AreEmpty (n : ℕ) (g : Groups) : Type 0 where
  pub groups : (o : Option ℕ) → group_of g o ≡ []
  pub count : length g.inner.items ≡ n
  pub places : g.places.items ≡ []

-- a group with one block more where it is that of the block's system
abbrev pub with_block : Block → Option ℕ → List Block → List Block
with_block b o own = if same_system b.owner o then own ++ b ∷ [] else own

-- one block is taken
pub record Takes (old new : Groups) (b : Block) : Type 0 where
  pub groups : (o : Option ℕ) →
      all_seen (group_of new o) ≡ with_block b o (all_seen (group_of old o))
  pub count : length new.inner.items ≡ length old.inner.items
  pub places : new.places.items ≡ old.places.items ++ length (group_of old b.owner) ∷ []
