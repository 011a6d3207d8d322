-- In the node of a system each leaf and each call of a function has its name.
use Rattle.std.proofs.Common.{◌≡◌, ℕ, List, [], Option, Some, refl, ap, ◌∙◌}
use Rattle.std.specs.Prelude.{slice_index_or}
use Rattle.diagram_meaning.specs.declared.table.Row.{Row}
use Rattle.diagram_meaning.specs.Rows.{system_control}
use Rattle.c_syntax.specs.declared.Leaf.{Leaf}
use Rattle.c_syntax.specs.declared.Leaf.TheVariants.{Param, Own, Child}
use Rattle.lustre_system.specs.Names.{leaf_name, part_name}
use Rattle.lustre_expressions.specs.declared.scopes.RowNames.{RowNames}
use Rattle.lustre_expressions.specs.RowNaming.{params_by, leaf_by, part_by}
use Rattle.lustre_expressions.specs.Scopes.{AreNamesOf}

module _ (names : RowNames) (rows : List Row) (s b : Option ℕ) (is : AreNamesOf names rows s b) where
  pub leaf-is : (leaf : Leaf) → leaf_by names.control names.ports.now leaf ≡ leaf_name rows s leaf
  leaf-is (Param k) =
      ap (λ c. slice_index_or (params_by c names.ports.now) k []) is.control
      ∙ ap (λ p. slice_index_or (params_by (system_control rows s) p) k []) is.ports
  leaf-is (Own c) = refl
  leaf-is (Child c k) = refl

  pub part-is : (a n : ℕ) → b ≡ Some a → part_by names.row n ≡ part_name a n
  part-is a n here = ap (λ r. part_by r n) (is.row ∙ here)
