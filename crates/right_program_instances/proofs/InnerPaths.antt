-- In an instance of a system each system inside has an instance at its path: its path is that of the system around it, and
-- its own field.
use Rattle.std.specs.Prelude.{◌≡◌, ℕ, zero, suc, ◌<◌, Bool, true, false, not, cond, ◌&&◌, ◌||◌, if◌then◌else◌, List, [], ◌∷◌, ◌++◌, map, filter, reverse, length, Contains, Option, Some, None, refl}
use Rattle.std.specs.List.{list_any}
use Rattle.std.proofs.Common.{sym, ap, subst, ◌∙◌, arith, true≢false}
use Rattle.std.proofs.lemmas.Bool.{and_parts, and_from}
use Rattle.std.proofs.lemmas.List.{map-append, reverse-append}
use Rattle.diagram_meaning.specs.declared.table.Row.{Row}
use Rattle.diagram_meaning.specs.Rows.{row_at, row_numbers, is_system, outward, enclosing, around, around_inside, is_inside}
use Rattle.diagram_blocks.specs.Kinds.{is_subsystem}
use Rattle.diagram_meaning.specs.RunLaws.{IsSystemWithin, around_rows_of, OwnRowsStandIn}
use Rattle.diagram_meaning.specs.WellFormed.{IsNested, IsOwner}
use Rattle.diagram_meaning.proofs.lemmas.Enclosing.{enclosing-step}
use Rattle.modules_profile.specs.Systems.{systems, systems_inside}
use Rattle.modules_profile.proofs.lemmas.Members.{in-rest, in-map, in-filter, of-filter, in-range, of-range}
use Rattle.modules_profile.proofs.lemmas.PortRows.{in-subsystems}
use Rattle.c_syntax.specs.Tree.{ProgramTree}
use Rattle.c_semantics.specs.Cells.{Cells, fields_at, cells_at}
use Rattle.c_semantics.specs.CellLaws.{cells_count}
use Rattle.emit_shape.specs.Names.{child_name}
use Rattle.emit_shape.specs.Programs.{struct_place}
use Rattle.right_relation.specs.Forms.{HasForms}
use Rattle.right_relation.proofs.lemmas.SlotMembers.{system-row}
use Rattle.right_claim.specs.Paths.{place_in, path_inside}
use Rattle.right_claim.specs.Anew.{forms_at}
use Rattle.right_linking.specs.Parts.{Parts, program_of, diagram, all_systems, Views}
use Rattle.right_linking.specs.Places.{FieldsAreFound, FormsAreOfSlots}
use Rattle.right_linking.specs.Root.{HasPath}
use Rattle.right_program_instances.specs.Inside.{HasInside, InstancesHavePathsInside}
use Rattle.right_program_instances.proofs.Lists.{all-made}
use Rattle.right_program_instances.proofs.FieldForms.{path-more, cells-more}
use Rattle.right_program_instances.proofs.ChildFields.{child-there}

-- ---- Systems inside

in-inside : (rows : List Row) (s : Option ℕ) (e : ℕ) → e < length rows → is_subsystem (row_at rows e).kind ≡ true →
    is_inside rows s e ≡ true → Contains (systems_inside rows s) e
in-inside rows s e below subsystem inside =
    in-filter (λ c. is_subsystem (row_at rows c).kind && is_inside rows s c) (row_numbers rows) e
    (in-range 0 (length rows) e (omega arith) (omega (arith, below)))
    (and_from (is_subsystem (row_at rows e).kind) (is_inside rows s e) subsystem inside)

pub of-inside : (rows : List Row) (s : Option ℕ) (e : ℕ) → Contains (systems_inside rows s) e →
    (e < length rows) × (is_subsystem (row_at rows e).kind ≡ true) × (is_inside rows s e ≡ true)
of-inside rows s e has =
    let kept = of-filter (λ c. is_subsystem (row_at rows c).kind && is_inside rows s c) (row_numbers rows) e has in
    let parts = and_parts (is_subsystem (row_at rows e).kind) (is_inside rows s e) kept.1 in
    let high = (of-range 0 (length rows) e kept.0).1 in
    (omega (arith, high), parts.0, parts.1)

in-systems : (rows : List Row) (e : ℕ) → e < length rows → is_subsystem (row_at rows e).kind ≡ true → Contains (systems rows) (Some e)
in-systems rows e below subsystem =
    in-rest None (Some e) (map Some (systems_inside rows None))
    (in-map Some (systems_inside rows None) e (in-inside rows None e below subsystem refl))

-- ---- What is around a system

pub none-outward : (rows : List Row) (s : Option ℕ) (n : ℕ) → outward rows s n None ≡ []
none-outward rows s zero = refl
none-outward rows s (suc n) = refl

-- the system around one inside s is s or inside it
within-owner : (rows : List Row) → IsNested rows → (s o : Option ℕ) (e : ℕ) → e < length rows → (row_at rows e).owner ≡ o →
    is_inside rows s e ≡ true → IsSystemWithin rows s o
within-owner rows nested None None e below own inside = refl
within-owner rows nested None (Some g) e below own inside = refl
within-owner rows nested (Some m) None e below own inside =
    let none : is_inside rows (Some m) e ≡ false =
    ap (λ o. list_any (is_system (Some m)) (enclosing rows None o)) own
    ∙ ap (list_any (is_system (Some m))) (none-outward rows None (length rows)) in
    absurd (true≢false (sym inside ∙ none))
within-owner rows nested (Some m) (Some g) e below own inside =
    let before = (subst (IsOwner rows e) own (nested.owned e below)).0 in
    let around_is = enclosing-step rows None nested g (omega (arith, before, below)) in
    sym (ap (λ o. list_any (is_system (Some m)) (enclosing rows None o)) own ∙ ap (list_any (is_system (Some m))) around_is) ∙ inside

-- what is around the rows of subsystem g inside s, itself first
module _ (rows : List Row) (s : Option ℕ) where
  abbrev is_kept : ℕ → Bool
  is_kept k = not (is_system s k)

  kept-none : (g : ℕ) → is_system s g ≡ true → filter is_kept (g ∷ around rows s g) ≡ []
  kept-none g is =
      let rest : List ℕ = enclosing rows s (row_at rows g).owner in
      ap (λ b. cond (not b) (g ∷ filter is_kept (if b then [] else rest)) (filter is_kept (if b then [] else rest))) is

  kept-more : (g : ℕ) → is_system s g ≡ false → filter is_kept (g ∷ around rows s g) ≡ g ∷ around_inside rows s g
  kept-more g is = ap (λ b. cond (not b) (g ∷ around_inside rows s g) (around_inside rows s g)) is

map-last : (f : ℕ → ℕ) (e : ℕ) (es : List ℕ) → map f (reverse (e ∷ es)) ≡ map f (reverse es) ++ f e ∷ []
map-last f e es = ap (map f) (reverse-append (e ∷ []) es) ∙ map-append f (reverse es) (e ∷ [])

-- ---- Paths

module _ (fields : FieldsAreFound) (of_slots : FormsAreOfSlots) (own_rows : OwnRowsStandIn) (a : Parts) (v : Views a) where
  abbrev rows : List Row
  rows = (diagram a).rows

  abbrev program : ProgramTree
  program = program_of a

  abbrev HasFormsOf : Option ℕ → Cells → Type 0
  HasFormsOf s = HasForms (forms_at program (struct_place program s))

  nested : IsNested rows
  nested = a.can.resolved.tree.table.nested

  abbrev field_of : ℕ → ℕ
  field_of e = place_in program (row_at rows e).owner (child_name e)

  module _ (n : Option ℕ) (among : Contains (all_systems a) n) (cells : Cells) (has : HasFormsOf n cells) where
    -- subsystem e is inside n, in the system o
    record StandsInside (e : ℕ) (o : Option ℕ) : Type 0 where
      pub below : e < length rows
      pub own : (row_at rows e).owner ≡ o
      pub subsystem : is_subsystem (row_at rows e).kind ≡ true
      pub within : IsSystemWithin rows n o

    around-of : (e : ℕ) (o : Option ℕ) → StandsInside e o →
        around_inside rows n e ≡ filter (λ k. not (is_system n k)) (around_rows_of rows n o)
    around-of e o stands =
        let own = own_rows rows n o e nested (record { in_table = stands.below; own = stands.own; within = stands.within }) in
        ap (filter (λ k. not (is_system n k))) own.around

    -- its path by the subsystems around it that are inside
    path-of : (e : ℕ) (es : List ℕ) → around_inside rows n e ≡ es → path_inside program rows n e ≡ map field_of (reverse (e ∷ es))
    path-of e es is = ap (λ more. map field_of (reverse (e ∷ more))) is

    -- one field further than an instance of the system around it
    further : (e : ℕ) (o : Option ℕ) (path : List ℕ) → StandsInside e o → Contains (all_systems a) o → HasPath path cells →
        HasFormsOf o (cells_at path cells) → path_inside program rows n e ≡ path ++ field_of e ∷ [] → HasInside a n cells e
    further e o path stands known there forms is =
        let child = child-there fields of_slots a v o e known (in-subsystems rows o e stands.below stands.own stands.subsystem)
        (cells_at path cells) forms in
        let field : place_in program o (child_name e) ≡ field_of e = ap (λ s. place_in program s (child_name e)) (sym stands.own) in (
          subst (λ p. HasPath p cells) (sym is)
              (path-more path (field_of e) cells there (subst (λ f. f < cells_count (cells_at path cells)) field child.0)),
          subst (λ p. HasFormsOf (Some e) (cells_at p cells)) (sym is)
              (subst (HasFormsOf (Some e)) (sym (cells-more path (field_of e) cells))
              (subst (λ f. HasFormsOf (Some e) (fields_at (cells_at path cells) f)) field child.1)),
        )

    -- of n itself
    directly : (e : ℕ) (o : Option ℕ) → StandsInside e o → n ≡ o → around_inside rows n e ≡ [] → HasInside a n cells e
    directly e o stands same none =
        further e o [] stands (subst (Contains (all_systems a)) same among) tt (subst (λ s. HasFormsOf s cells) same has)
        (path-of e [] none)

    by-owner : (e : ℕ) (o : Option ℕ) → StandsInside e o →
        ((g : ℕ) → g < e → Contains (systems_inside rows n) g → HasInside a n cells g) → HasInside a n cells e
    by-owner e None stands smaller = directly e None stands stands.within (around-of e None stands)
    by-owner e (Some g) stands smaller = by (is_system n g) refl
      where
        by : (t : Bool) → is_system n g ≡ t → HasInside a n cells e
        by true is = directly e (Some g) stands (system-row n g is) (around-of e (Some g) stands ∙ kept-none rows n g is)
        by false is =
            let inside : is_inside rows n g ≡ true = ap (λ b. b || is_inside rows n g) (sym is) ∙ stands.within in
            let (before, subsystem) = subst (IsOwner rows e) stands.own (nested.owned e stands.below) in
            let below : g < length rows = let later = stands.below in omega (arith, before, later) in
            let inner = smaller g before (in-inside rows n g below subsystem inside) in
            further e (Some g) (path_inside program rows n g) stands (in-systems rows g below subsystem) inner.0 inner.1
            (path-of e (g ∷ around_inside rows n g) (around-of e (Some g) stands ∙ kept-more rows n g is)
            ∙ map-last field_of e (g ∷ around_inside rows n g))

    pub at-inside : (bound e : ℕ) → e < bound → Contains (systems_inside rows n) e → HasInside a n cells e
    at-inside zero e few known = absurd (omega arith)
    at-inside (suc bound) e few known =
        let (below, subsystem, inside) = of-inside rows n e known in
        let within = within-owner rows nested n (row_at rows e).owner e below refl inside in
        by-owner e (row_at rows e).owner (record { below = below; own = refl; subsystem = subsystem; within = within })
        (λ g less among_g. at-inside bound g (omega (arith, less, few)) among_g)

pub instances_have_paths_inside : FieldsAreFound → FormsAreOfSlots → OwnRowsStandIn → (a : Parts) → Views a → InstancesHavePathsInside a
instances_have_paths_inside fields of_slots own_rows a v n among cells has =
    all-made (HasInside a n cells) (systems_inside (diagram a).rows n)
    (λ e is. at-inside fields of_slots own_rows a v n among cells has (suc e) e (omega arith) is)
