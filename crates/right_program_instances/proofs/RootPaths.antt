-- In an instance of the root there is one of `top`, and in this one of each system.
use Rattle.std.specs.Prelude.{◌≡◌, ℕ, ◌+◌, ◌<◌, false, not, List, [], ◌∷◌, map, filter, reverse, length, slice_get, slice_index_or, Contains, Option, Some, None, unwrap_or, bytes_eq, refl}
use Rattle.std.specs.List.{AllByRecursion}
use Rattle.std.proofs.Common.{sym, ap, subst, ◌∙◌, arith}
use Rattle.diagram_meaning.specs.declared.table.Row.{Row}
use Rattle.diagram_meaning.specs.Rows.{row_at, is_system, around}
use Rattle.diagram_meaning.proofs.lemmas.Enclosing.{enclosing-step}
use Rattle.modules_profile.specs.Locals.{outports}
use Rattle.modules_profile.specs.Systems.{system_name, systems_inside}
use Rattle.modules_profile.proofs.lemmas.Members.{in-first, in-rest, at-map, at-right}
use Rattle.c_syntax.specs.Tree.{FieldTree, ProgramTree}
use Rattle.c_syntax.specs.RootFields.{field_position, root_struct}
use Rattle.c_semantics.specs.Cells.{Cells, cell_at, fields_at, cells_at}
use Rattle.c_semantics.specs.CellLaws.{cells_count}
use Rattle.emit_shape.specs.Names.{child_name}
use Rattle.emit_shape.specs.Programs.{struct_place}
use Rattle.emit_shape.specs.Assembled.{struct_position, root_structure}
use Rattle.right_relation.specs.Forms.{Forms, no_forms, HasForms, field_form, struct_forms, forms_of}
use Rattle.right_claim.specs.Paths.{place_in, path_to, path_inside}
use Rattle.right_claim.specs.Anew.{forms_at}
use Rattle.right_linking.specs.Parts.{Parts, program_of, diagram, all_systems, Views}
use Rattle.right_linking.specs.Places.{SystemsHavePlaces, RootStandsLast}
use Rattle.right_linking.specs.Root.{top_place, HasPath, HasInstance, InstancesHavePaths}
use Rattle.right_program_instances.specs.Inside.{HasInside, InstancesHavePathsInside}
use Rattle.right_program_instances.proofs.Lists.{all-both, all-mapped, position-behind}
use Rattle.right_program_instances.proofs.ProgramFields.{now_field, output_field, top_field}
use Rattle.right_program_instances.proofs.EarlierForms.{AreEarlier, IsEarlierKind, forms-at-place}
use Rattle.right_program_instances.proofs.ChildStructs.{code-below}
use Rattle.right_program_instances.proofs.FieldForms.{field-there, inner-fields}
use Rattle.right_program_instances.proofs.InnerPaths.{of-inside, none-outward}

all-kept : (es : List ℕ) → filter (λ k. not (is_system None k)) es ≡ es
all-kept [] = refl
all-kept (e ∷ es) = ap (λ more. e ∷ more) (all-kept es)

all-some : (P : ℕ → Type 0) (Q : Option ℕ → Type 0) (es : List ℕ) → AllByRecursion P es → ((e : ℕ) → Contains es e → P e → Q (Some e)) →
    AllByRecursion Q (map Some es)
all-some P Q [] all each = tt
all-some P Q (e ∷ es) all each = (each e (in-first e es) all.0, all-some P Q es all.1 (λ f has. each f (in-rest e f es has)))

module _ (places : SystemsHavePlaces) (a : Parts) (v : Views a) (last : RootStandsLast a) where
  abbrev all_forms : List Forms
  all_forms = struct_forms [] (program_of a).structs

  -- the fields of the root before `top`
  abbrev front : List FieldTree
  front = now_field ∷ map output_field (outports a.root)

  abbrev root_tree : List FieldTree
  root_tree = (root_structure a.codes a.root a.hyper).fields

  abbrev IsEarlier : FieldTree → Type 0
  IsEarlier f = IsEarlierKind (root_struct (program_of a)) f.kind

  are-earlier : AreEarlier (root_struct (program_of a)) root_tree
  are-earlier =
      let some = code-below places a v 0 None refl in
      let place = last.struct in
      let before : struct_position a.codes 0 < root_struct (program_of a) = omega (arith, some, place) in (
        tt,
        all-both IsEarlier (map output_field (outports a.root)) (top_field a.codes ∷ [])
            (all-mapped IsEarlier output_field (outports a.root) (λ o. tt)) (before, tt),
      )

  root-forms : forms_at (program_of a) (root_struct (program_of a)) ≡ forms_of (map (field_form all_forms) root_tree)
  root-forms =
      forms-at-place (program_of a).structs (root_struct (program_of a))
      (subst (AreEarlier (root_struct (program_of a))) (sym last.fields) are-earlier)
      ∙ ap (λ fields. forms_of (map (field_form all_forms) fields)) last.fields

  top-is : top_place (program_of a) ≡ length front
  top-is =
      ap (λ fields. field_position fields (system_name None)) last.fields
      ∙ ap (λ o. unwrap_or o 0)
      (position-behind (λ (f : FieldTree). bytes_eq f.name (system_name None)) front (top_field a.codes) 0
      (refl, all-mapped (λ (f : FieldTree). bytes_eq f.name (system_name None) ≡ false) output_field (outports a.root) (λ o. refl)) refl)
      ∙ same
    where
      same : 0 + length front ≡ length front
      same = omega arith

  top-at : slice_get root_tree (length front) ≡ Some (top_field a.codes)
  top-at =
      let none_more : length front ≡ length front + 0 = omega arith in
      ap (slice_get root_tree) none_more ∙ at-right front (top_field a.codes ∷ []) 0 (top_field a.codes) refl

  abbrev program : ProgramTree
  program = program_of a

  abbrev rows : List Row
  rows = (diagram a).rows

  abbrev HasFormsOf : Option ℕ → Cells → Type 0
  HasFormsOf s = HasForms (forms_at program (struct_place program s))

  abbrev field_of : ℕ → ℕ
  field_of e = place_in program (row_at rows e).owner (child_name e)

  module _ (cells : Cells) (has : HasForms (forms_at program (root_struct program)) cells) where
    -- the instance of `top` is in the field of its name, with its forms
    record TopIsThere (f : ℕ) : Type 0 where
      pub below : f < cells_count cells
      pub forms : HasFormsOf None (fields_at cells f)

    top-there : TopIsThere (top_place program)
    top-there =
        let held = field-there (map (field_form all_forms) root_tree) cells (length front) (field_form all_forms (top_field a.codes))
        (subst (λ forms. HasForms forms cells) root-forms has)
        (at-map (field_form all_forms) root_tree (length front) (top_field a.codes) top-at) in
        let inner = inner-fields (slice_index_or all_forms (struct_position a.codes 0) no_forms) (cell_at cells (length front)) held.1 in
        let place = (places a v 0 None refl).struct in
        subst TopIsThere (sym top-is)
        (record {
          below = held.0;
          forms = subst (λ k. HasForms (slice_index_or all_forms k no_forms) (fields_at cells (length front))) (sym place) inner;
        })

    abbrev top : Cells
    top = fields_at cells (top_place program)

    -- along this path after `top`
    at-path : (s : Option ℕ) (path : List ℕ) → path_to program rows s ≡ top_place program ∷ path → HasPath path top →
        HasFormsOf s (cells_at path top) → HasInstance a cells s
    at-path s path is there forms = record {
      there = subst (λ p. HasPath p cells) (sym is) (top-there.below, there);
      forms = subst (λ p. HasFormsOf s (cells_at p cells)) (sym is) forms;
    }

    top-instance : HasInstance a cells None
    top-instance =
        let is = ap (λ es. top_place program ∷ map field_of (reverse es)) (none-outward rows None (length rows)) in
        at-path None [] is tt top-there.forms

    inner-instance : (e : ℕ) → Contains (systems_inside rows None) e → HasInside a None top e → HasInstance a cells (Some e)
    inner-instance e known inside =
        let step = enclosing-step rows None a.can.resolved.tree.table.nested e (of-inside rows None e known).0 in
        let around_is = step ∙ ap (λ es. e ∷ es) (sym (all-kept (around rows None e))) in
        let is = ap (λ es. top_place program ∷ map field_of (reverse es)) around_is in
        at-path (Some e) (path_inside program rows None e) is inside.0 inside.1

    all-there : InstancesHavePathsInside a → AllByRecursion (HasInstance a cells) (all_systems a)
    all-there inside =
        let among : Contains (all_systems a) None = in-first None (map Some (systems_inside rows None)) in
        let inner = inside None among top top-there.forms in
        (top-instance, all-some (HasInside a None top) (HasInstance a cells) (systems_inside rows None) inner inner-instance)

pub instances_have_paths : SystemsHavePlaces → (a : Parts) → Views a → RootStandsLast a → InstancesHavePathsInside a → InstancesHavePaths a
instances_have_paths places a v last inside cells has = all-there places a v last cells has inside
