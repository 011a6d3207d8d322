-- The path to a subsystem's instance, and the way to it by names, are those to the system around it and one field more.
use Rattle.std.specs.Prelude.{◌≡◌, ℕ, zero, suc, ◌<◌, List, [], ◌∷◌, ◌++◌, map, reverse, length, Option, Some, None, option_and_then, refl}
use Rattle.std.proofs.Common.{ap, ◌∙◌}
use Rattle.std.proofs.lemmas.List.{map-append, reverse-append}
use Rattle.diagram_meaning.specs.declared.table.Row.{Row}
use Rattle.diagram_meaning.specs.Rows.{row_at, outward, enclosing}
use Rattle.diagram_meaning.specs.WellFormed.{IsNested}
use Rattle.diagram_meaning.proofs.lemmas.Enclosing.{enclosing-step}
use Rattle.modules_profile.specs.Systems.{system_name}
use Rattle.c_syntax.specs.Tree.{ProgramTree}
use Rattle.c_syntax.specs.RootFields.{field_position, root_fields}
use Rattle.c_interpreter.specs.Instances.{StructInstance, child_named}
use Rattle.emit_shape.specs.Names.{child_name}
use Rattle.right_claim.specs.Paths.{place_in, path_to}
use Rattle.right_driving.specs.Found.{way_to, instance_behind}

none-outward : (rows : List Row) (s : Option ℕ) (n : ℕ) → outward rows s n None ≡ []
none-outward rows s zero = refl
none-outward rows s (suc n) = refl

module _ (rows : List Row) where
  -- what is said of the subsystems down to a system, outermost first
  abbrev down_to : {B : Type 0} → (ℕ → B) → Option ℕ → List B
  down_to f s = map f (reverse (enclosing rows None s))

  down-to-none : {B : Type 0} (f : ℕ → B) → down_to f None ≡ []
  down-to-none f = ap (λ es. map f (reverse es)) (none-outward rows None (length rows))

  pub way-top : way_to rows None ≡ system_name None ∷ []
  way-top = ap (λ names. system_name None ∷ names) (down-to-none child_name)

  pub path-top : (p : ProgramTree) → path_to p rows None ≡ field_position (root_fields p) (system_name None) ∷ []
  path-top p = ap (λ path. field_position (root_fields p) (system_name None) ∷ path)
      (down-to-none (λ e. place_in p (row_at rows e).owner (child_name e)))

  module _ (nested : IsNested rows) (e : ℕ) (below : e < length rows) where
    down-to-inner : {B : Type 0} (f : ℕ → B) → down_to f (Some e) ≡ down_to f (row_at rows e).owner ++ f e ∷ []
    down-to-inner f =
        let outer : List ℕ = enclosing rows None (row_at rows e).owner in
        ap (λ es. map f (reverse es)) (enclosing-step rows None nested e below)
        ∙ ap (map f) (reverse-append (e ∷ []) outer) ∙ map-append f (reverse outer) (e ∷ [])

    pub way-inner : way_to rows (Some e) ≡ way_to rows (row_at rows e).owner ++ child_name e ∷ []
    way-inner = ap (λ names. system_name None ∷ names) (down-to-inner child_name)

    pub path-inner : (p : ProgramTree) →
        path_to p rows (Some e)
        ≡ path_to p rows (row_at rows e).owner ++ place_in p (row_at rows e).owner (child_name e) ∷ []
    path-inner p = ap (λ path. field_position (root_fields p) (system_name None) ∷ path)
        (down-to-inner (λ g. place_in p (row_at rows g).owner (child_name g)))

-- what comes after one field more
pub one-behind : (p : ProgramTree) (from : Option StructInstance) (fields : List (List ℕ)) (field : List ℕ) →
    instance_behind p from (fields ++ field ∷ []) ≡ option_and_then (child_named p field) (instance_behind p from fields)
one-behind p from [] field = refl
one-behind p from (first ∷ fields) field = one-behind p (option_and_then (child_named p first) from) fields field
