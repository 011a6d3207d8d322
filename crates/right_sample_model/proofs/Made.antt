-- The model's subsystems as a value of the program.
use Rattle.std.specs.Prelude.{◌≡◌, ◌<◌, ◌^◌, true, List, [], ◌∷◌, length, Some, None, refl}
use Rattle.std.proofs.Common.{arith, lit<, ap₂, subst, sym, ◌∙◌}
use denote.RawPtr.{null_ptr}
use Rattle.std_alloc.specs.declared.vec.Vec.{Vec}
use Rattle.std.specs.Global.{Global}
use Rattle.base_core.specs.declared.Control.TheVariants.{Plain, Enabled, Triggered}
use Rattle.base_core.specs.declared.Edge.TheVariants.{Rising}
use Rattle.diagram_meaning.specs.declared.subsystem.Subsystem.{Subsystem}
use Rattle.diagram_meaning.specs.declared.subsystem.Subsystem.TheViews.{roll-Subsystem}
use Rattle.diagram_meaning.specs.declared.subsystem.Subsystem.TheFolds.{fold-roll-Subsystem}
use Rattle.diagram_meaning.specs.Nested.{System, system, no_more, next, system_from, system_of, AreSystemsOf}
use Rattle.right_sample_model.specs.Rows.{rich_rows}

abbrev heap : Global
heap = record { memory = record { seal = tt } }

-- a list as a Vec, whose place nobody asks for
abbrev vec : {X : Type 0} (xs : List X) → length xs < 2 ^ 63 → Vec X Global
vec xs small = record { ptr = null_ptr; len = length xs; cap = length xs; alloc = heap; items = xs; ok = (refl, omega arith); small = small }

abbrev enabled : Subsystem
enabled = roll-Subsystem (record { row = Some 2; line = 5; control = Enabled true; own = 3 ∷ 4 ∷ 5 ∷ 6 ∷ []; children = vec [] (lit< tt) })

abbrev triggered : Subsystem
triggered = roll-Subsystem
    (record { row = Some 7; line = 10; control = Triggered Rising; own = 8 ∷ 9 ∷ 10 ∷ []; children = vec [] (lit< tt) })

abbrev pub rich_root : Subsystem
rich_root = roll-Subsystem (record {
  row = None;
  line = 2;
  control = Plain;
  own = 0 ∷ 1 ∷ 2 ∷ 7 ∷ 11 ∷ 12 ∷ 13 ∷ 14 ∷ 15 ∷ [];
  children = vec (enabled ∷ triggered ∷ []) (lit< tt);
})

abbrev rich_system : System
rich_system =
    system None 2 Plain (0 ∷ 1 ∷ 2 ∷ 7 ∷ 11 ∷ 12 ∷ 13 ∷ 14 ∷ 15 ∷ [])
    (next (system (Some 2) 5 (Enabled true) (3 ∷ 4 ∷ 5 ∷ 6 ∷ []) no_more)
    (next (system (Some 7) 10 (Triggered Rising) (8 ∷ 9 ∷ 10 ∷ []) no_more) no_more))

is_enabled : system_of enabled ≡ system (Some 2) 5 (Enabled true) (3 ∷ 4 ∷ 5 ∷ 6 ∷ []) no_more
is_enabled = fold-roll-Subsystem System system_from _

is_triggered : system_of triggered ≡ system (Some 7) 10 (Triggered Rising) (8 ∷ 9 ∷ 10 ∷ []) no_more
is_triggered = fold-roll-Subsystem System system_from _

is_root : system_of rich_root ≡ rich_system
is_root =
    fold-roll-Subsystem System system_from _
    ∙ ap₂ (λ a b. system None 2 Plain (0 ∷ 1 ∷ 2 ∷ 7 ∷ 11 ∷ 12 ∷ 13 ∷ 14 ∷ 15 ∷ []) (next a (next b no_more))) is_enabled is_triggered

rich_agrees : AreSystemsOf rich_rows rich_system
rich_agrees = record {
  is_root = refl;
  agrees = (refl, refl, refl, (((refl, refl), refl, refl, tt), (((refl, refl), refl, refl, tt), tt)));
}

pub rich_systems : AreSystemsOf rich_rows (system_of rich_root)
rich_systems = subst (AreSystemsOf rich_rows) (sym is_root) rich_agrees
