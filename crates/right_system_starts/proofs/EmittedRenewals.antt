-- The start and the reset of a system's code renew the fields of its struct.
use Rattle.std.specs.Prelude.{◌≡◌, ℕ, suc, ◌+◌, ◌-◌, ◌≤◌, Bool, true, false, if◌then◌else◌, List, [], ◌∷◌, map, take, length, slice_get, sum_by, Contains, Some, refl}
use Rattle.std.specs.List.{AllZip}
use Rattle.std.proofs.Common.{sym, ap, subst, ◌∙◌, arith}
use Rattle.std.proofs.lemmas.Bool.{le-ltb}
use Rattle.modules_profile.specs.declared.ChildUse.{ChildUse}
use Rattle.modules_profile.specs.declared.LocalRow.{LocalRow}
use Rattle.modules_profile.specs.LocalSystem.{LocalSystem}
use Rattle.modules_profile.specs.SystemProfile.{SystemProfile}
use Rattle.modules_profile.specs.Headers.{header_functions}
use Rattle.modules_profile.specs.NodeFacts.{LocalsAreLawful}
use Rattle.modules_profile.proofs.lemmas.Members.{in-at, at-map}
use Rattle.modules_schedule.specs.SystemSchedule.{SystemSchedule}
use Rattle.c_syntax.specs.declared.CType.{CType}
use Rattle.c_syntax.specs.declared.CType.TheVariants.{I64}
use Rattle.c_syntax.specs.Tree.{PureTree, ProcedureTree, kind_type, field_types, type_at, stmts_of_list}
use Rattle.c_semantics.specs.Cells.{Cell}
use Rattle.c_semantics.specs.Values.{functions_of, is_in_type}
use Rattle.c_semantics.specs.Machine.{Routine, no_routine, routine_at, routine_with, Scope, run_stmts, call_entry, is_interface}
use Rattle.emit_row_code.specs.RowCode.{written}
use Rattle.emit_shape.specs.Names.{container}
use Rattle.emit_shape.specs.Relocation.{Relocation, moved_stmts, moved_procedure}
use Rattle.emit_shape.specs.RowStarts.{row_start}
use Rattle.emit_shape.specs.Slots.{Slot, value, memory, ring_items, ring_place, ring_taken, trigger, counter, instance, filler, slot_field}
use Rattle.emit_shape.specs.SystemTree.{SystemTree}
use Rattle.right_relation.specs.Budgets.{own_budget}
use Rattle.right_relation.specs.Forms.{slot_forms}
use Rattle.right_relation.specs.Instances.{Offered, Offer}
use Rattle.right_relation.specs.Relation.{children_routines, behind_offers, numbered_routines, system_routines}
use Rattle.right_relation.specs.Renewals.{Renewal, no_renewal, renewal_at, Renews, IsStarted, IsReset, RenewsOwn}
use Rattle.right_relation.specs.Serving.{IsOfferOf}
use Rattle.right_relation.proofs.lemmas.Containers.{container-has}
use Rattle.right_relation.proofs.lemmas.SlotMembers.{SlotIs}
use Rattle.emit_system_spec.specs.Emitted.{IsEmitted}
use Rattle.emit_system_spec.specs.EmittedCode.{system_code}
use Rattle.emit_system_spec.specs.Fields.{code_slots}
use Rattle.emit_system_spec.specs.Groups.{own_count}
use Rattle.right_system_starts.specs.Renewal.{EmittedCodeStarts, EmittedCodeResets}
use Rattle.right_system_starts.proofs.FieldCode.{fields_code, renewed_cell, renewed_cells, fields_steps}
use Rattle.right_system_starts.proofs.FieldForms.{IsFit, have-forms, become, is-started, is-reset}
use Rattle.right_system_starts.proofs.FieldPlaces.{are-apart, behind_functions, start-is, reset-is}
use Rattle.right_system_starts.proofs.FieldRuns.{Leaves, behind-leaves, Stores, IsReady, AreReady, fields_are_renewed}
use Rattle.right_system_starts.proofs.MovedFields.{moved_callee, moved-fields}
use Rattle.right_system_starts.proofs.OwnProcedures.{front, starting, resetting, count-is, start-position, reset-position, start-at, reset-at, start-unlogged, reset-unlogged}
use Rattle.right_system_starts.proofs.OwnSlots.{own-slot-is}
use Rattle.right_system_starts.proofs.ProcedurePlaces.{numbered-before, numbered-at, offered_before, offered-at}
use Rattle.right_system_starts.proofs.FieldSteps.{insides, all-fields, few-fields, insides-are}
use Rattle.right_system_starts.proofs.RenewalBudgets.{start-in-budget, reset-in-budget}
use Rattle.right_system_starts.proofs.TypedStarts.{starts-in, small, written-gives}
use Rattle.right_system_starts.proofs.Lists.{at-index, zip-at, length-zip}

-- the own procedure at a position, after those of the children
abbrev own_procedure : LocalSystem → SystemProfile → SystemSchedule → List PureTree → List Offer → (ℕ → ℕ) → ℕ → Offered
own_procedure local profile schedule pures offers numbers k = record {
  routine = routine_at (system_routines pures (code_slots local schedule) offers (system_code local profile schedule) numbers)
      (length (children_routines offers) + k);
  number = numbers k;
}

-- where these are the procedures of the children that are so far after their functions
module _ (local : LocalSystem) (profile : SystemProfile) (schedule : SystemSchedule) (emitted : IsEmitted local profile schedule)
    (pures : List PureTree) (numbers : ℕ → ℕ) (offers : List Offer) (are : AllZip (λ u o. IsOfferOf u.header o) local.children offers)
    (children : List Renewal)
    (pick : Offer → Offered) (i : ℕ) (picked : (o : Offer) → slice_get (o.update ∷ o.start ∷ o.reset ∷ []) i ≡ Some (pick o))
    (renew : AllZip (λ (o : Offer) n. Renews (pick o) n) offers children) where
  abbrev slots : List Slot
  slots = code_slots local schedule

  abbrev code : SystemTree
  code = system_code local profile schedule

  abbrev moves : Relocation
  moves = behind_offers slots offers (length code.procedures)

  abbrev types : List CType
  types = field_types code.structure.fields

  abbrev procedures : List ProcedureTree
  procedures = map (moved_procedure moves) code.procedures

  abbrev callee : ℕ → ChildUse → ℕ
  callee = behind_functions local (own_count schedule) i

  abbrev target : Bool → ℕ → ChildUse → ℕ
  target all = moved_callee moves all local callee

  -- ---- Children

  record Found (k : ℕ) : Type 0 where
    pub offer : Offer
    pub stands : slice_get offers k ≡ Some offer
    pub renews : Renews (pick offer) (renewal_at children k)

  found : (k : ℕ) (u : ChildUse) → slice_get local.children k ≡ Some u → Found k
  found k u at =
      let o = zip-at (λ u o. IsOfferOf u.header o) local.children offers are k u at in
      let n = zip-at (λ (o : Offer) n. Renews (pick o) n) offers children renew k o.0 o.1 in
      record { offer = o.0; stands = o.1; renews = subst (Renews (pick o.0)) (sym (at-index children k no_renewal n.0 n.1)) n.2 }

  target-is : (all : Bool) (k : ℕ) (u : ChildUse) →
      target all k u ≡ offered_before k local.children + length (header_functions u.header) + i
  target-is all k u =
      let n = callee k u in
      let own = length code.procedures in
      let count = count-is local profile schedule in
      ap (λ t. if t then moves.first + n else n - own) (le-ltb n own (omega (arith, count))) ∙ omega (arith, count)

  -- ---- Fields

  typed : (r : LocalRow) → Contains local.rows r → is_in_type (container r.out) (row_start local r) ≡ true
  typed r own = container-has r.out (row_start local r) (starts-in emitted.resolved local emitted.is_resolved emitted.is_local r own)

  fit : (all : Bool) (s : Slot) → SlotIs local s → IsFit all local children s
  fit all (value r) is = typed r is.0
  fit all (memory r) is = typed r is.0
  fit all (instance k u) is = let f = found k u is in (pick f.offer, f.renews)
  fit all _ is = tt

  type-is : (f : ℕ) (s : Slot) → slice_get slots f ≡ Some s → type_at types f ≡ kind_type (slot_field s).kind
  type-is f s at = at-index types f I64 (kind_type (slot_field s).kind)
      (at-map (λ d. kind_type d.kind) (map slot_field slots) f (slot_field s) (at-map slot_field slots f s at))

  module _ (all : Bool) (q : ProcedureTree) (j : ℕ) (there : slice_get code.procedures j ≡ Some q) where
    abbrev earlier : List Routine
    earlier = numbered_routines (functions_of [] pures) types numbers 0 (children_routines offers) (take j procedures)

    abbrev scope : Scope
    scope = record { functions = functions_of [] pures; routines = earlier; types = types; values = [] }

    stores : (f : ℕ) (s : Slot) (r : LocalRow) → slice_get slots f ≡ Some s → kind_type (slot_field s).kind ≡ container r.out →
        Contains local.rows r →
        Stores all local (target all) children scope f (written (row_start local r)) (row_start local r)
    stores f s r at type own = record {
      comes_to = λ cells steps. written-gives _ _ 0 (row_start local r) (small r.out (row_start local r) (typed r own)) steps;
      fits = subst (λ t. is_in_type t (row_start local r) ≡ true) (sym (type-is f s at ∙ type)) (typed r own);
    }

    ready : (f : ℕ) (s : Slot) → slice_get slots f ≡ Some s → SlotIs local s → IsReady all local (target all) children scope f s
    ready f (value r) at is = stores f (value r) r at refl is.0
    ready f (memory r) at is = stores f (memory r) r at refl is.0
    ready f (instance k u) at is =
        let o = found k u is in
        let place = offered_before k local.children + length (header_functions u.header) + i in
        let offered = offered-at local.children offers are k u o.offer is o.stands i (pick o.offer) (picked o.offer) in record {
          procedure = pick o.offer;
          stands = ap (routine_at earlier) (target-is all k u)
              ∙ at-index earlier place no_routine (pick o.offer).routine
              (numbered-before (functions_of [] pures) types numbers 0 (children_routines offers) (take j procedures) place
              (pick o.offer).routine offered);
          renews = o.renews;
        }
    ready f _ at is = tt

    all-ready : (f : ℕ) (rest : List Slot) → ((k : ℕ) (s : Slot) → slice_get rest k ≡ Some s → slice_get slots (f + k) ≡ Some s) →
        AreReady all local (target all) children scope f rest
    all-ready f [] within = tt
    all-ready f (s ∷ rest) within =
        let at : slice_get slots f ≡ Some s = (let none : f ≡ f + 0 = omega arith in ap (slice_get slots) none) ∙ within 0 s refl in (
          ready f s at (own-slot-is local schedule s (in-at slots f s at)),
          all-ready (f + 1) rest (λ k x to. (let next : f + 1 + k ≡ f + suc k = omega arith in ap (slice_get slots) next)
              ∙ within (suc k) x to),
        )

    routine-is : routine_at (system_routines pures slots offers code numbers) (length (children_routines offers) + j)
        ≡ routine_with (functions_of [] pures) types earlier (numbers (0 + j)) (moved_procedure moves q)
    routine-is =
        at-index (system_routines pures slots offers code numbers) (length (children_routines offers) + j) no_routine _
        (numbered-at (functions_of [] pures) types numbers 0 (children_routines offers) procedures j (moved_procedure moves q)
        (at-map (moved_procedure moves) code.procedures j q there))

    unlogged : (n : ℕ) → is_interface q.name ≡ false → call_entry n q.name ≡ []
    unlogged n e = ap (λ (t : Bool). if t then record { path = []; procedure = n } ∷ [] else []) e

    abbrev own : Renewal
    own = record {
      forms = slot_forms (map (λ n. n.forms) children) slots;
      renewed = renewed_cells all local children slots;
      most = fields_steps all local children slots;
    }

    inside-children : insides children slots ≡ sum_by (λ (n : Renewal). n.most) children
    inside-children = insides-are children local schedule
        (length-zip (λ u o. IsOfferOf u.header o) local.children offers are
        ∙ length-zip (λ (o : Offer) n. Renews (pick o) n) offers children renew)

    renews-own : is_interface q.name ≡ false → q.body ≡ stmts_of_list (fields_code all local callee 0 slots) →
        length (fields_code all local callee 0 slots) ≤ own_budget local →
        (IsSo : Slot → Cell → Cell → Type 0) → ((s : Slot) (b : Cell) → IsSo s b (renewed_cell all local children s b)) →
        RenewsOwn local slots children IsSo (own_procedure local profile schedule pures offers numbers j)
    renews-own quiet body long IsSo so = record {
      own = own;
      forms = refl;
      becomes = become all local children IsSo so slots;
      most =
          let steps = all-fields all local callee children slots 0 in
          let of_children = inside-children in
          omega (arith, steps, of_children, long);
      short =
          let few = few-fields all local children slots in
          let of_children = inside-children in
          omega (arith, few, of_children);
      renews = record {
        does = λ before steps has room.
            subst (λ r. Leaves (r.run [] before steps) (own.renewed before) (steps + own.most)) (sym routine-is)
            (behind-leaves (call_entry (numbers (0 + j)) q.name) [] (run_stmts scope (moved_stmts moves q.body) before steps)
            (own.renewed before) (steps + own.most) (unlogged (numbers (0 + j)) quiet)
            (subst (λ stmts. Leaves (run_stmts scope stmts before steps) (own.renewed before) (steps + own.most))
            (sym (ap (moved_stmts moves) body ∙ moved-fields moves all local callee 0 slots))
            (fields_are_renewed all local (target all) children scope slots before steps
            (all-ready 0 slots (λ k s at. (let none : 0 + k ≡ k = omega arith in ap (slice_get slots) none) ∙ at)) has room)));
        keeps = λ before has. have-forms all local children slots before (λ s m. fit all s (own-slot-is local schedule s m)) has;
      };
    }

pub emitted_code_starts : LocalsAreLawful → EmittedCodeStarts
emitted_code_starts lawful local profile schedule emitted pures prelude numbers offers are children renew =
    let apart = are-apart local.rows (lawful emitted.resolved local.row local emitted.is_resolved emitted.is_local).rows_differ in
    let body = start-is local schedule (own_count schedule) apart in
    subst (λ k. RenewsOwn local (code_slots local schedule) children (IsStarted local children)
    (own_procedure local profile schedule pures offers numbers k))
    (sym (start-position local profile schedule))
    (renews-own local profile schedule emitted pures numbers offers are children (λ o. o.start) 1 (λ o. refl) renew true
    (starting local profile schedule)
    (length (front local profile schedule) + 1) (start-at local profile schedule) (start-unlogged local profile schedule)
    (ap stmts_of_list (sym body))
    (subst (λ b. length b ≤ own_budget local) (sym body) (start-in-budget local profile schedule emitted (own_count schedule)))
    (IsStarted local children) (is-started local children))

pub emitted_code_resets : LocalsAreLawful → EmittedCodeResets
emitted_code_resets lawful local profile schedule emitted pures prelude numbers offers are children renew =
    let apart = are-apart local.rows (lawful emitted.resolved local.row local emitted.is_resolved emitted.is_local).rows_differ in
    let body = reset-is local schedule (own_count schedule) apart in
    subst (λ k. RenewsOwn local (code_slots local schedule) children (IsReset local children)
    (own_procedure local profile schedule pures offers numbers k))
    (sym (reset-position local profile schedule))
    (renews-own local profile schedule emitted pures numbers offers are children (λ o. o.reset) 2 (λ o. refl) renew false
    (resetting local profile schedule)
    (length (front local profile schedule) + 2) (reset-at local profile schedule) (reset-unlogged local profile schedule)
    (ap stmts_of_list (sym body))
    (subst (λ b. length b ≤ own_budget local) (sym body) (reset-in-budget local profile schedule emitted (own_count schedule)))
    (IsReset local children) (is-reset local children))
