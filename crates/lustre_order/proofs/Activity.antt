-- The equations for a system's activity, and for what its trigger remembers, are in order.
use Rattle.std.proofs.Common.{ℕ, List, [], ◌∷◌, Option, inl}
use Rattle.std.specs.List.{AllByRecursion}
use Rattle.diagram_meaning.specs.Diagram.{Diagram}
use Rattle.emit_shape.specs.Names.{trigger_name}
use Rattle.lustre_syntax.specs.Tree.{set}
use Rattle.lustre_syntax.specs.Named.{NamedExpr}
use Rattle.lustre_system.specs.Names.{active_name, reset_name}
use Rattle.lustre_system.specs.SystemNodes.{active_value, reset_value, trigger_memory}
use Rattle.lustre_right.specs.Reads.{names_now, Known, KnownAfter, InOrder, KnownAround}
use Rattle.lustre_rows.proofs.lemmas.Lists.{all-after, all-map}
use Rattle.lustre_order.proofs.Controls.{active-known, off-known}

-- of an equation that gives one name
one-value : (known : Known) (text : List ℕ) (e : NamedExpr) → AllByRecursion known (names_now e) → InOrder known (set 0 text e ∷ [])
one-value known text e is = (all-after known (names_now e) [] is tt, tt)

-- and of two of them
two-values : (known : Known) (first second : List ℕ) (a b : NamedExpr) → AllByRecursion known (names_now a) →
    AllByRecursion known (names_now b) → InOrder known (set 0 first a ∷ set 0 second b ∷ [])
two-values known first second a b left right =
    let after = KnownAfter known (set 0 first a) in
    (all-after known (names_now a) [] left tt, one-value after second b (all-map known after (λ text is. inl is) (names_now b) right))

pub activity-in-order : (d : Diagram) (s : Option ℕ) (known : Known) → KnownAround known d s →
    InOrder known (set 0 active_name (active_value d s) ∷ set 0 reset_name (reset_value d s) ∷ [])
activity-in-order d s known around =
    two-values known active_name reset_name (active_value d s) (reset_value d s) (active-known known d s around.controls around.on)
    (off-known known d s around.controls around.on around.off)

pub trigger-in-order : (d : Diagram) (s : Option ℕ) (known : Known) → InOrder known (set 0 trigger_name (trigger_memory d s) ∷ [])
trigger-in-order d s known = (tt, tt)
