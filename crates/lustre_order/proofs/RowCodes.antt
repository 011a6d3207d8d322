-- The calls for the code of a row read what the row's operation reads.
use Rattle.std.proofs.Common.{◌≡◌, refl, sym, subst, Bool, false, ℕ, true, List, [], ◌∷◌, ◌++◌}
use Rattle.std.specs.Prelude.{Contains}
use Rattle.std.specs.List.{AllByRecursion}
use Rattle.base_fixed_point.specs.declared.FixType.{FixType}
use Rattle.diagram_blocks.specs.declared.Op.{Op}
use Rattle.diagram_blocks.specs.declared.Op.TheVariants.{Delay, Line}
use Rattle.diagram_blocks.specs.Kinds.{is_delay}
use Rattle.diagram_blocks.specs.Value.{feeds_through}
use Rattle.c_syntax.specs.declared.Leaf.{Leaf}
use Rattle.c_syntax.specs.Tree.{ExprTree, read}
use Rattle.emit_row_code.specs.Reading.{ReadsOnly}
use Rattle.emit_row_code.specs.RowCode.{rhs_code}
use Rattle.lustre_syntax.specs.Named.{NamedEquation}
use Rattle.lustre_system.specs.FromC.{value_of, calls_of}
use Rattle.lustre_right.specs.Reads.{names_now, Known, InOrder}
use Rattle.lustre_rows.proofs.lemmas.Lists.{all-after, all-member}
use Rattle.lustre_rows.proofs.lemmas.MemoryCodes.{only-memory, reads-leaves}
use Rattle.lustre_order.proofs.Calls.{calls-in-order}

-- all operations but delays feed through
feeds : (o : Op) → is_delay o ≡ false → feeds_through o ≡ true
feeds (Delay initial) is = absurd (cc)
feeds (Line samples start) is = absurd (cc)
feeds _ is = refl

module _ (leaf_name : Leaf → List ℕ) (function_name part_name : ℕ → List ℕ) (leaves : List Leaf) (types : List FixType) (memory : Leaf)
    (known : Known) (more : List NamedEquation) where
  abbrev code : Op → ExprTree
  code o = rhs_code o leaves types (read memory)

  -- more equations come in order where the names of the code's value are known as well
  abbrev Follows : Op → Type 1
  Follows o =
      (wider : Known) → ((text : List ℕ) → known text → wider text) →
      AllByRecursion wider (names_now (value_of leaf_name function_name part_name (code o))) → InOrder wider more

  abbrev Ordered : Op → Type 0
  Ordered o = InOrder known (calls_of leaf_name function_name part_name (code o) ++ more)

  abbrev AreKnown : Type 0
  AreKnown = AllByRecursion (λ l. known (leaf_name l)) leaves

  by-leaves : (o : Op) → AreKnown → ReadsOnly (Contains (leaves ++ [])) (code o) → Follows o → Ordered o
  by-leaves o given only follow =
      calls-in-order leaf_name function_name part_name (Contains (leaves ++ [])) (code o) known more only
      (all-member (λ l. known (leaf_name l)) (leaves ++ []) (all-after (λ l. known (leaf_name l)) leaves [] given tt)) follow

  remembered : known (leaf_name memory) →
      ((wider : Known) → ((text : List ℕ) → known text → wider text) → AllByRecursion wider (leaf_name memory ∷ []) → InOrder wider more) →
      InOrder known more
  remembered is follow = follow known (λ text there. there) (is, tt)

  pub code-in-order : (o : Op) → (feeds_through o ≡ true → AreKnown) → (is_delay o ≡ true → known (leaf_name memory)) → Follows o →
      Ordered o
  code-in-order o given sample follow = by (is_delay o) refl
    where
      by : (b : Bool) → is_delay o ≡ b → Ordered o
      by true is =
          let same : read memory ≡ code o = sym (only-memory o leaves types (read memory) is) in
          subst (λ e. InOrder known (calls_of leaf_name function_name part_name e ++ more)) same
          (remembered (sample is) (λ wider grows names. follow wider grows
          (subst (λ e. AllByRecursion wider (names_now (value_of leaf_name function_name part_name e))) same names)))
      by false is = by-leaves o (given (feeds o is)) (reads-leaves o leaves types (read memory) is) follow
