-- The root's start: it starts `top`, copies the outputs, and sets the number of the tick to 0.
use Rattle.std.specs.Prelude.{◌≡◌, ◌≢◌, ℕ, zero, suc, true, ◌+◌, ◌<◌, ◌≤◌, ◌&&◌, List, [], ◌∷◌, ◌++◌, map, length, slice_get, slice_index_or, Contains, Option, Some, None, unwrap_or, codes as text, ℤ, pos, refl}
use Rattle.std.specs.List.{enumerate_from}
use Rattle.std.proofs.Common.{sym, ap, ap₂, subst, ◌∙◌, arith, inl, inr}
use Rattle.std.proofs.Math.Nat.{zero-mod}
use Rattle.std.proofs.lemmas.Bool.{cases_lt}
use Rattle.std.proofs.lemmas.Option.{same_Some, none-some}
use Rattle.diagram_meaning.specs.Rows.{row_at, row_numbers, is_inside}
use Rattle.diagram_blocks.specs.Kinds.{is_subsystem}
use Rattle.modules_profile.specs.declared.ChildUse.{ChildUse}
use Rattle.modules_profile.specs.declared.LocalRow.{LocalRow}
use Rattle.modules_profile.specs.Systems.{systems_inside}
use Rattle.modules_profile.proofs.lemmas.Members.{in-first, in-cases, of-map, of-filter, of-range, at-map, at-left, at-right, at-below, below-at}
use Rattle.c_syntax.specs.declared.CType.TheVariants.{I32}
use Rattle.c_syntax.specs.declared.Target.TheVariants.{Child}
use Rattle.c_syntax.specs.RootFields.{procedure_named, root_struct}
use Rattle.c_syntax.specs.Tree.{literal, no_exprs, exprs_of_list, ProgramTree, ProcedureTree, StmtTree, assign, call, stmts_of_list, type_at, field_types}
use Rattle.c_semantics.specs.Cells.{Cells, number, object, cell_value, cell_fields, cell_at, number_at, fields_at, cells_at}
use Rattle.c_semantics.specs.CellLaws.{cells_count}
use Rattle.c_semantics.specs.Values.{is_in_type, step_limit, reads}
use Rattle.c_semantics.specs.Machine.{After, Outcome, done, stuck, in_child, Scope, run_stmt, run_stmts, routine_at, program_routines}
use Rattle.c_semantics.specs.NumberingLaws.{ProceduresStandInOrder}
use Rattle.c_semantics.proofs.lemmas.CellLaws.{fields_are_set}
use Rattle.c_semantics.proofs.lemmas.CallLaws.{child_calls_stay_inside}
use Rattle.c_semantics.proofs.lemmas.WithoutSteps.{gives_literal}
use Rattle.emit_shape.specs.Names.{container, value_name, start_name, root_start_name}
use Rattle.emit_shape.specs.Heads.{start_head}
use Rattle.emit_shape.specs.Programs.{no_procedure, procedure_place, struct_place}
use Rattle.emit_shape.specs.Slots.{value}
use Rattle.emit_shape.specs.SystemTree.{SystemTree}
use Rattle.emit_shape.specs.Assembled.{code_at, first_procedure, struct_position, call_top, root_value, root_structure, root_procedures}
use Rattle.right_relation.specs.BudgetLaws.{BudgetsSumToBound}
use Rattle.right_relation.specs.Forms.{Form, Forms, no_forms, HasForm, HasForms, holds_number, holds_instance, forms_of, field_form, slot_form}
use Rattle.right_relation.specs.Instances.{OnDone}
use Rattle.right_claim.specs.Paths.{place_in, number_in, path_to, path_inside}
use Rattle.right_claim.specs.Anew.{field_count, forms_at}
use Rattle.right_linking.specs.Parts.{Parts, program_of, diagram, all_systems, Views}
use Rattle.right_linking.specs.Places.{SystemsHavePlaces, FieldsAreFound, RootHasPlaces, FormsAreOfSlots}
use Rattle.right_linking.specs.Offers.{offered_by, offer_of}
use Rattle.right_linking.specs.Starts.{Renewed, ReachInside}
use Rattle.right_linking.specs.Root.{top_place, HasInstance, IsRootStarted, RootsStart}
use Rattle.right_linking.proofs.lemmas.RootPaths.{path-to-top, path-to-inside}
use Rattle.right_linking.proofs.lemmas.Executions.{on-done}
use Rattle.right_program_root.proofs.NumberedNames.{each-of}
use Rattle.right_program_root.proofs.ChildCalls.{on_then, on_behind}
use Rattle.right_program_root.proofs.PortedRows.{map-map, mapped-by, mapped-length}
use Rattle.right_program_root.proofs.RootCopies.{OwnPart, own_part, copy}
use Rattle.right_program_root.proofs.RootStruct.{fields, out_field, top_field, count-fields, output-type}
use Rattle.right_program_root.proofs.RootForms.{form_at, form-of, has-form, number-fits, count-forms, fields-below, keep-forms, earlier_forms, root-forms, top-forms}
use Rattle.right_program_root.proofs.RootFacts.{root-fields, top-here, now-here, outputs-here, long}
use Rattle.right_program_root.proofs.RootRoutines.{systems_count, root_scope, same-routine, runs-body, types-are, first-sum}
use Rattle.right_program_root.proofs.RootBound.{within-bound, within-limit}
use Rattle.right_program_root.proofs.TopCode.{start-shown, params-found, position-is, place-below, code-is, struct-name}
use Rattle.right_program_root.proofs.TopFacts.{h, known, row, os, out-ports, few-outs, out-rows, outs-many, functions-short, places-many, output-slot}

-- the laws on which the root's start rests
pub record Laws : Type 0 where
  pub order : ProceduresStandInOrder
  pub budgets : BudgetsSumToBound
  pub systems : SystemsHavePlaces
  pub fields_places : FieldsAreFound
  pub root : RootHasPlaces

module _ (laws : Laws) (of_slots : FormsAreOfSlots) (a : Parts) (v : Views a) (renewed : Renewed a v) where
  abbrev p : ProgramTree
  p = program_of a

  abbrev m : ℕ
  m = length (os a v)

  -- the field of `top`
  abbrev f : ℕ
  f = m + 1

  abbrev scope : Scope
  scope = root_scope laws.order a 0 []

  abbrev start : ℕ
  start = procedure_place p (start_name None)

  -- where the outputs are in `top`
  abbrev places : List ℕ
  places = (v.at None).code.outputs

  abbrev own_stmts : List ℕ → List StmtTree
  own_stmts ps = map (copy scope f) (enumerate_from 0 ps) ++ assign 0 0 (literal (pos 0)) ∷ []

  abbrev body : List StmtTree
  body = call 0 start (Child f) no_exprs ∷ own_stmts places

  head-name : (start_head (h a v)).name ≡ start_name None
  head-name = ap start_name (row a v)

  call-is : call_top a.codes [] m (start_name None) ≡ call 0 start (Child f) no_exprs
  call-is =
      ap (call_top a.codes [] m) (sym head-name)
      ∙ ap₂ (λ k qs. call 0 k (Child f) (exprs_of_list (map (root_value a.codes []) qs)))
      (position-is a v (row a v) (functions-short a v) laws.systems (start_head (h a v)) (start-shown a v (row a v) (functions-short a v))
      ∙ ap (procedure_place p) head-name)
      (params-found a v (row a v) (functions-short a v) (start_head (h a v)) (start-shown a v (row a v) (functions-short a v)))

  abbrev procedure : ProcedureTree
  procedure = slice_index_or (root_procedures a.codes a.root a.hyper) 0 no_procedure

  body-is : procedure.body ≡ stmts_of_list body
  body-is =
      ap (λ (name : List ℕ). stmts_of_list (call_top a.codes [] m (name ++ text "_start") ∷ own_stmts (code_at a.codes 0).outputs))
      (struct-name a v (row a v) (functions-short a v))
      ∙ ap₂ (λ s (c : SystemTree). stmts_of_list (s ∷ own_stmts c.outputs)) call-is (code-is a v (row a v) (functions-short a v))

  same-start : routine_at scope.routines start ≡ (offer_of a v None).start.routine
  same-start =
      let below = subst (λ name. procedure_place p name < length (v.at None).code.procedures + first_procedure a.codes 0) head-name
      (place-below a v (row a v) (functions-short a v) laws.systems (start_head (h a v))
      (start-shown a v (row a v) (functions-short a v))) in
      let sum : length (v.at None).code.procedures + first_procedure a.codes 0 ≡ systems_count laws.order a =
      first-sum a.codes (v.at None).code (known a v).stands in
      sym (same-routine laws.order a 0 start (omega (arith, below, sum))) ∙ ap (λ o. (offered_by p (start_name o)).routine) (sym (row a v))

  abbrev forms : List Form
  forms = map (field_form (earlier_forms a)) (root_structure a.codes a.root a.hyper).fields

  -- the fields of `top`
  abbrev inner_forms : Forms
  inner_forms = slice_index_or (earlier_forms a) (struct_position a.codes 0) no_forms

  top-form : slice_get forms f ≡ Some (holds_instance inner_forms)
  top-form =
      let at : m + 1 ≡ suc (length (map out_field (os a v)) + 0) = let same = mapped-length out_field (os a v) in
      omega (arith, same) in
      ap (slice_get forms) at
      ∙ at-map (field_form (earlier_forms a)) (map out_field (os a v) ++ top_field (struct_position a.codes 0) ∷ [])
      (length (map out_field (os a v)) + 0) (top_field (struct_position a.codes 0))
      (at-right (map out_field (os a v)) (top_field (struct_position a.codes 0) ∷ []) 0
      (top_field (struct_position a.codes 0)) refl)

  type-here : (g : ℕ) →
      type_at scope.types g ≡ type_at (field_types (fields (os a v) (struct_position a.codes 0) (out-ports a v) (few-outs a v))) g
  type-here g = ap (λ ts. type_at ts g) (types-are laws.order a laws.root [] 0 ∙ ap field_types (root-fields laws.root a v))

  out-form : (j : ℕ) (o : LocalRow) → slice_get (os a v) j ≡ Some o → slice_get forms (suc j) ≡ Some (holds_number (container o.out))
  out-form j o at =
      at-map (field_form (earlier_forms a)) (map out_field (os a v) ++ top_field (struct_position a.codes 0) ∷ []) j (out_field o)
      (at-left (map out_field (os a v)) (top_field (struct_position a.codes 0) ∷ []) j (out_field o) (at-map out_field (os a v) j o at))

  -- what the start of `top` takes
  few : (renewed.started None).most + m + 2 ≤ step_limit
  few =
      let spent = renewed.starts.0.in_time in
      let bound = within-bound a v laws.budgets in
      let limit = within-limit a v in
      let same = outs-many a v in
      omega (arith, spent, bound, limit, same)

  -- the root has the tick, the outputs and `top` itself more than `top`
  short : 2 + m + (renewed.started None).most ≤ field_count (forms_at p (root_struct p))
  short =
      let most = renewed.starts.0.short in
      let inner = ap field_count (renewed.starts.0.forms ∙ top-forms a v laws.systems) in
      let whole = ap field_count (root-forms a laws.root) in
      let below = fields-below forms f inner_forms top-form in
      omega (arith, most, inner, whole, below)

  -- ---- From any fields of the struct

  module _ (before : Cells) (formed : HasForms (forms_at p (root_struct p)) before) (inside : HasInstance a before None) where
    abbrev top : Cells
    top = fields_at before f

    abbrev started : Cells
    started = (renewed.started None).renewed top

    wide : cells_count before ≡ m + 2
    wide =
        count-forms (map (field_form (earlier_forms a)) (root_structure a.codes a.root a.hyper).fields) before
        (subst (λ forms. HasForms forms before) (root-forms a laws.root) formed)
        ∙ mapped-length (field_form (earlier_forms a)) (root_structure a.codes a.root a.hyper).fields
        ∙ count-fields (os a v) (struct_position a.codes 0) (out-ports a v) (few-outs a v)

    top-formed : HasForms (renewed.started None).forms top
    top-formed =
        subst (λ g. HasForms (renewed.started None).forms (fields_at before g)) (top-here laws.root a v)
        (subst (λ forms. HasForms forms (fields_at before (top_place p))) (sym renewed.starts.0.forms)
        (subst (λ path. HasForms (forms_at p (struct_place p None)) (cells_at path before)) (path-to-top p (diagram a).rows) inside.forms))

    -- after the call of the start
    record Called (after : After) : Type 0 where
      pub count : cells_count after.cells ≡ cells_count before
      pub top_cell : cell_at after.cells f ≡ object started
      pub others : (g : ℕ) → f ≢ g → cell_at after.cells g ≡ cell_at before g
      pub in_time : after.steps ≤ 1 + (renewed.started None).most

    called : OnDone (run_stmt scope (call 0 start (Child f) no_exprs) before 0) Called
    called =
        let room = few in
        subst (λ o. OnDone o Called) (sym
        ((child_calls_stay_inside scope 0 start f no_exprs before 0).does [] (0 + 1) (omega (arith, room)) refl))
        (subst (λ r. OnDone (in_child f before (r.run [] top (0 + 1))) Called) (sym same-start)
        (left ((offer_of a v None).start.routine.run [] top (0 + 1))
        (renewed.starts.0.renews.does top (0 + 1) top-formed (omega (arith, room)))))
      where
        left : (o : Outcome) → OnDone o (λ z. (z.cells ≡ started) × (z.steps ≤ 0 + 1 + (renewed.started None).most) × (z.log ≡ [])) →
            OnDone (in_child f before o) Called
        left (stuck at cells) has = has
        left (done z) has =
            let set = fields_are_set before f (object z.cells) in
            let size = wide in
            let late = has.1 in
            record {
              count = set.count;
              top_cell = set.here (omega (arith, size)) ∙ ap object has.0;
              others = set.others;
              in_time = omega (arith, late);
            }

    -- what is copied fits the output
    copied-fits : (j q : ℕ) (at : slice_get places j ≡ Some q) →
        is_in_type (container (output-slot a v j q at).0.out) (number_at started q) ≡ true
    copied-fits j q at =
        let slot = output-slot a v j q at in
        let children = map (λ (u : ChildUse). forms_at p (struct_place p u.header.row)) (v.at None).local.children in
        number-fits (container slot.0.out) (cell_at started q)
        (has-form (map (slot_form children) (v.at None).slots) started q (holds_number (container slot.0.out))
        (subst (λ fs. HasForms fs started) (renewed.starts.0.forms ∙ of_slots a v 0 None refl)
        (renewed.starts.0.renews.keeps top top-formed))
        (at-map (slot_form children) (v.at None).slots q (value slot.0) slot.2))

    -- after all
    pub record Begun (after : After) : Type 0 where
      pub count : cells_count after.cells ≡ cells_count before
      pub now_cell : cell_at after.cells 0 ≡ number (pos 0)
      pub copied : (j q : ℕ) → slice_get places j ≡ Some q → cell_at after.cells (suc j) ≡ number (number_at started q)
      pub top_cell : cell_at after.cells f ≡ object started
      pub others : (g : ℕ) → f < g → cell_at after.cells g ≡ cell_at before g
      pub in_time : after.steps ≤ 2 + m + (renewed.started None).most

    begun : OnDone ((routine_at (program_routines p) (unwrap_or (procedure_named p root_start_name) 0)).run [] before 0) Begun
    begun =
        let none : systems_count laws.order a ≡ systems_count laws.order a + 0 = omega arith in
        subst (λ o. OnDone o Begun)
        (sym (ap (λ o. (routine_at (program_routines p) (unwrap_or o 0)).run [] before 0) (laws.root a).start
        ∙ ap (λ k. (routine_at (program_routines p) k).run [] before 0) none
        ∙ runs-body laws.order a 0 procedure refl refl refl [] before 0 ∙ ap (λ ss. run_stmts scope ss before 0) body-is))
        (on_then (run_stmt scope (call 0 start (Child f) no_exprs) before 0)
        (run_stmts scope (stmts_of_list (own_stmts places))) Called Begun called
        (λ b has. on_behind b.log b.stores (run_stmts scope (stmts_of_list (own_stmts places)) b.cells b.steps)
        (OwnPart f places (pos 0) b.cells (b.steps + length places + 1)) Begun (own-part b has) (λ c own. all b c has own)))
      where
        own-part : (b : After) → Called b → OnDone (run_stmts scope (stmts_of_list (own_stmts places)) b.cells b.steps)
            (OwnPart f places (pos 0) b.cells (b.steps + length places + 1))
        own-part b has =
            let size = wide in
            let same = has.count in
            let early = has.in_time in
            let room = few in
            let many = places-many a v in
            own_part scope f places (literal (pos 0)) (pos 0) b.cells b.steps (omega (arith, many)) (omega (arith, size, same))
            (λ j q at.
            let slot = output-slot a v j q at in
            ap₂ is_in_type
            (type-here (j + 1) ∙ output-type (os a v) (struct_position a.codes 0) (out-ports a v) (few-outs a v) j slot.0 slot.1)
            (ap (λ cell. number_at (cell_fields cell) q) has.top_cell) ∙ copied-fits j q at)
            (λ x begins. gives_literal scope.functions (reads [] x) 0 (pos 0))
            (ap (λ ty. is_in_type ty (pos 0)) (type-here 0))
            (omega (arith, room, early, many))

        all : (b c : After) → Called b → OwnPart f places (pos 0) b.cells (b.steps + length places + 1) c →
            Begun (record { cells = c.cells; steps = c.steps; log = b.log ++ c.log; stores = b.stores ++ c.stores })
        all b c has own =
            let many = places-many a v in
            record {
              count = own.count ∙ has.count;
              now_cell = own.tick;
              copied = λ j q at.
                  let next : suc j ≡ 1 + j = omega arith in
                  ap (cell_at c.cells) next ∙ own.copied j q at ∙ ap (λ cell. number (number_at (cell_fields cell) q)) has.top_cell;
              top_cell = own.others f (omega (arith, many)) ∙ has.top_cell;
              others = λ g behind. own.others g (omega (arith, many, behind)) ∙ has.others g (λ e. omega (arith, e, behind));
              in_time = let early = has.in_time in let late = own.quiet.in_time in omega (arith, early, late, many);
            }

    -- ---- What is left

    module _ (reach : ReachInside a renewed.started) (after : After) (has : Begun after) where
      top-is : fields_at after.cells f ≡ started
      top-is = ap cell_fields has.top_cell

      form-kept : (g : ℕ) → HasForm (form_at (forms_of forms) g) (cell_at before g) →
          HasForm (form_at (forms_of forms) g) (cell_at after.cells g)
      form-kept zero was = subst (HasForm (holds_number I32)) (sym has.now_cell) refl
      form-kept (suc g) was = elim (cases_lt g m) [
        | inl less ↦
            let many = places-many a v in
            let q = below-at places g (omega (arith, less, many)) in
            let slot = output-slot a v g q.0 q.1 in
            subst (λ form. HasForm form (cell_at after.cells (suc g)))
            (sym (form-of forms (suc g) (holds_number (container slot.0.out)) (out-form g slot.0 slot.1)))
            (subst (HasForm (holds_number (container slot.0.out))) (sym (has.copied g q.0 q.1)) (copied-fits g q.0 q.1))
        | inr more ↦ elim (cases_lt f (suc g)) [
          | inl behind ↦ subst (HasForm (form_at (forms_of forms) (suc g))) (sym (has.others (suc g) behind)) was
          | inr within ↦
              let here : f ≡ suc g = omega (arith, more, within) in
              subst (λ k. HasForm (form_at (forms_of forms) k) (cell_at after.cells k)) here
              (subst (λ form. HasForm form (cell_at after.cells f))
              (sym (form-of forms f (holds_instance inner_forms) top-form))
              (subst (HasForm (holds_instance inner_forms)) (sym has.top_cell)
              (subst (λ fs. HasForms fs started) (renewed.starts.0.forms ∙ top-forms a v laws.systems)
              (renewed.starts.0.renews.keeps top top-formed))))
        ]
      ]

      system-started : (s : Option ℕ) → Contains (all_systems a) s → cells_at (path_to p (diagram a).rows s) after.cells ≡
          (renewed.started s).renewed (cells_at (path_to p (diagram a).rows s) before)
      system-started None listed =
          let path = path-to-top p (diagram a).rows ∙ ap (λ g. g ∷ []) (top-here laws.root a v) in
          ap (λ z. cells_at z after.cells) path ∙ top-is ∙ ap (λ z. (renewed.started None).renewed (cells_at z before)) (sym path)
      system-started (Some e) listed = elim (in-cases None (Some e) (map Some (systems_inside (diagram a).rows None)) listed) [
        | inl same ↦ absurd (none-some e same)
        | inr more ↦
            let made = of-map Some (systems_inside (diagram a).rows None) (Some e) more in
            let one : made.0 ≡ e = same_Some made.0 e made.2 in
            let in_list : Contains (systems_inside (diagram a).rows None) e =
            subst (Contains (systems_inside (diagram a).rows None)) one made.1 in
            let kept = of-filter (λ c. is_subsystem (row_at (diagram a).rows c).kind && is_inside (diagram a).rows None c)
            (row_numbers (diagram a).rows) e in_list in
            let below = (of-range 0 (length (diagram a).rows) e kept.0).1 in
            let path = path-to-inside p (diagram a).rows e a.can.resolved.tree.table.nested (omega (arith, below))
            ∙ ap (λ g. g ∷ path_inside p (diagram a).rows None e) (top-here laws.root a v) in
            ap (λ z. cells_at z after.cells) path ∙ ap (cells_at (path_inside p (diagram a).rows None e)) top-is
            ∙ reach None (in-first None (map Some (systems_inside (diagram a).rows None))) e in_list top top-formed
            ∙ ap (λ z. (renewed.started (Some e)).renewed (cells_at z before)) (sym path)
      ]

      -- what the field of an Outport in `top` holds
      abbrev outport_number : ℕ → ℤ
      outport_number b = number_in p None (fields_at after.cells (top_place p)) (value_name b)

      output-value : (j : ℕ) (o : LocalRow) → slice_get (os a v) j ≡ Some o → number_at after.cells (1 + j) ≡ outport_number o.row
      output-value j o there =
          let many = places-many a v in
          let less = at-below (os a v) j o there in
          let q = below-at places j (omega (arith, many, less)) in
          let slot = output-slot a v j q.0 q.1 in
          let same : slot.0 ≡ o = same_Some slot.0 o (sym slot.1 ∙ there) in
          let place : place_in p None (value_name slot.0.row) ≡ q.0 =
          laws.fields_places a v None q.0 (value slot.0) (in-first None _) slot.2 in
          let next : 1 + j ≡ suc j = omega arith in
          ap (number_at after.cells) next ∙ ap cell_value (has.copied j q.0 q.1)
          ∙ ap₂ number_at (sym (ap (fields_at after.cells) (top-here laws.root a v) ∙ top-is))
          (sym (ap (λ (z : LocalRow). place_in p None (value_name z.row)) (sym same) ∙ place))

      pub is-started : IsRootStarted a renewed.started before after.cells
      is-started = record {
        stands = record {
          now = ap (number_at after.cells) (now-here laws.root a v) ∙ ap cell_value has.now_cell ∙ ap pos (sym (zero-mod a.hyper));
          inner = ap (fields_at after.cells) (top-here laws.root a v) ∙ top-is
              ∙ ap (λ g. (renewed.started None).renewed (fields_at before g))
              (sym (top-here laws.root a v));
          long = has.count ∙ wide ∙ sym (long laws.root a v);
        };
        systems = each-of (λ s. cells_at (path_to p (diagram a).rows s) after.cells ≡ (renewed.started s).renewed
            (cells_at (path_to p (diagram a).rows s) before)) (all_systems a) system-started;
        outputs =
            ap (map (number_at after.cells)) (outputs-here laws.root a v)
            ∙ mapped-by (number_at after.cells) (λ (o : LocalRow). outport_number o.row) 1 (os a v) output-value
            ∙ sym (map-map outport_number (λ (o : LocalRow). o.row) (os a v)) ∙ ap (map outport_number) (out-rows a v);
        keeps = subst (λ fs. HasForms fs after.cells) (sym (root-forms a laws.root))
            (keep-forms (forms_of forms) before after.cells (subst (λ fs. HasForms fs before) (root-forms a laws.root) formed) has.count
            form-kept);
      }

pub roots_start : Laws → RootsStart
roots_start laws of_slots a v renewed reach paths before formed =
    let inside = (paths before formed).0 in
    on-done ((routine_at (program_routines (program_of a)) (unwrap_or (procedure_named (program_of a) root_start_name) 0)).run []
    before 0) (Begun laws of_slots a v renewed before formed inside)
    (λ after. (after.steps ≤ field_count (forms_at (program_of a) (root_struct (program_of a))))
    × IsRootStarted a renewed.started before after.cells)
    (λ after has. (
      let early = has.in_time in let enough = short laws of_slots a v renewed in omega (arith, early, enough),
      is-started laws of_slots a v renewed before formed inside reach after has,
    ))
    (begun laws of_slots a v renewed before formed inside)
