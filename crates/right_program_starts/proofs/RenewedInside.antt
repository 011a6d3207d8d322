-- Each system is started and reset with all inside it, and so is the whole program where its root starts.
use Rattle.std.specs.Prelude.{◌≡◌, ℕ, ◌+◌, ◌%◌, ◌≤◌, List, [], ◌∷◌, map, Contains, Option, Some, None, unwrap_or, pos, refl}
use Rattle.std.proofs.Common.{sym, ap, subst, ◌∙◌, arith}
use Rattle.diagram_meaning.specs.Rows.{outports_of}
use Rattle.diagram_meaning.specs.Run.{start_of}
use Rattle.modules_profile.specs.LocalSystem.{LocalSystem}
use Rattle.modules_profile.specs.Systems.{systems_inside}
use Rattle.modules_profile.proofs.lemmas.Members.{in-first, at-in}
use Rattle.c_syntax.specs.RootFields.{procedure_named, root_struct}
use Rattle.c_semantics.specs.Cells.{Cell, Cells, fields_at, cells_at}
use Rattle.c_semantics.specs.Machine.{After, Routine, routine_at, program_routines}
use Rattle.emit_shape.specs.Names.{value_name, start_name, reset_name, root_start_name}
use Rattle.emit_shape.specs.Programs.{procedure_place, struct_place}
use Rattle.emit_shape.specs.Slots.{Slot}
use Rattle.right_relation.specs.BudgetLaws.{BudgetsSumToBound}
use Rattle.right_relation.specs.Forms.{HasForms}
use Rattle.right_relation.specs.Instances.{Offered, Offer, OnDone}
use Rattle.right_relation.specs.Renewals.{Renewal, IsStarted, IsReset}
use Rattle.right_claim.specs.Paths.{number_in, path_to, path_inside}
use Rattle.right_claim.specs.Driving.{AnswersScripts}
use Rattle.right_claim.specs.Held.{valued_rows}
use Rattle.right_claim.specs.Anew.{field_count, forms_at, AreStarted, AreReset, HoldsInside, FromAnyFields, RenewsAll, AreRestarted}
use Rattle.right_linking.specs.Parts.{Parts, program_of, diagram, all_systems, Views}
use Rattle.right_linking.specs.Places.{SystemsHavePlaces, FieldsAreFound, FormsAreOfSlots}
use Rattle.right_linking.specs.Offers.{offer_of}
use Rattle.right_linking.specs.Starts.{IsRenewed, Renewed, ReachInside, RenewalsReachInside}
use Rattle.right_linking.specs.Root.{top_place, IsRootStarted, HasInstance}
use Rattle.right_linking.specs.Whole.{StartedAnswer, RenewalsGoInside, RestartsFollow}
use Rattle.right_linking.proofs.lemmas.NamedFields.{outports-valued}
use Rattle.right_linking.proofs.lemmas.RootPaths.{path-to-top, path-to-inside}
use Rattle.right_linking.proofs.lemmas.Executions.{on-done}
use Rattle.right_program_starts.proofs.Everywhere.{member, all-made, map-same}
use Rattle.right_program_starts.proofs.NestedRows.{of-inside}
use Rattle.right_program_starts.proofs.SystemPlaces.{nested, among-all}
use Rattle.right_program_starts.proofs.InnerBudgets.{budget-below}
use Rattle.right_program_starts.proofs.RenewedFields.{are-started, are-reset}
use Rattle.right_program_starts.proofs.ReachedInside.{reached, holds-inside}

module _ (fields : FieldsAreFound) (a : Parts) (v : Views a) (renewed : Renewed a v) where
  starts-so : (n : Option ℕ) → Contains (all_systems a) n → IsRenewed a v (λ o. o.start) IsStarted renewed.started n
  starts-so n has = member (IsRenewed a v (λ o. o.start) IsStarted renewed.started) (all_systems a) n renewed.starts has

  resets-so : (n : Option ℕ) → Contains (all_systems a) n → IsRenewed a v (λ o. o.reset) IsReset renewed.reset n
  resets-so n has = member (IsRenewed a v (λ o. o.reset) IsReset renewed.reset) (all_systems a) n renewed.resets has

  started-here : SystemsHavePlaces → (n : Option ℕ) (before : Cells) → Contains (all_systems a) n →
      HasForms (forms_at (program_of a) (struct_place (program_of a) n)) before →
      AreStarted (program_of a) (diagram a) n ((renewed.started n).renewed before)
  started-here places n before has are =
      let at = at-in (all_systems a) n has in
      let is = starts-so n has in
      are-started fields a v at.0 n at.1 places (map (λ u. renewed.started u.header.row) (v.at n).local.children) before
      ((renewed.started n).renewed before)
      (is.becomes before (subst (λ fs. HasForms fs before) (sym is.forms) are))

  reset-here : SystemsHavePlaces → (n : Option ℕ) (before : Cells) → Contains (all_systems a) n →
      HasForms (forms_at (program_of a) (struct_place (program_of a) n)) before →
      AreReset (program_of a) (diagram a) n before ((renewed.reset n).renewed before)
  reset-here places n before has are =
      let at = at-in (all_systems a) n has in
      let is = resets-so n has in
      are-reset fields a v at.0 n at.1 places (map (λ u. renewed.reset u.header.row) (v.at n).local.children) before
      ((renewed.reset n).renewed before)
      (is.becomes before (subst (λ fs. HasForms fs before) (sym is.forms) are))

-- ---- All systems inside

pub renewals_reach_inside : FieldsAreFound → RenewalsReachInside
renewals_reach_inside fields forms a v renewed = (starts, resets)
  where
    starts : ReachInside a renewed.started
    starts n has e inside before are =
        let there = subst (λ fs. HasForms fs before) (starts-so fields a v renewed n has).forms are in
        (reached fields forms a v (λ o. o.start) IsStarted (λ local children k u b c is. is) renewed.started renewed.starts
        n has before there e inside).becomes

    resets : ReachInside a renewed.reset
    resets n has e inside before are =
        let there = subst (λ fs. HasForms fs before) (resets-so fields a v renewed n has).forms are in
        (reached fields forms a v (λ o. o.reset) IsReset (λ local children k u b c is. is) renewed.reset renewed.resets
        n has before there e inside).becomes

-- ---- From any fields

module _ (sums : BudgetsSumToBound) (a : Parts) (v : Views a) (which : Offer → Offered)
    (IsSo : LocalSystem → List Renewal → Slot → Cell → Cell → Type 0)
    (name : Option ℕ → List ℕ)
    (named : (n : Option ℕ) → (which (offer_of a v n)).routine ≡ routine_at (program_routines (program_of a))
    (procedure_place (program_of a) (name (v.at n).local.row)))
    (renewals : Option ℕ → Renewal) (n : Option ℕ) (has : Contains (all_systems a) n) (is : IsRenewed a v which IsSo renewals n) where
  routine-is : (which (offer_of a v n)).routine ≡ routine_at (program_routines (program_of a)) (procedure_place (program_of a) (name n))
  routine-is =
      let at = at-in (all_systems a) n has in
      named n ∙ ap (λ (l : LocalSystem). routine_at (program_routines (program_of a)) (procedure_place (program_of a) (name l.row)))
      (v.each at.0 n at.1).local.is_local

  -- the procedure leaves what it makes of them, in as many steps as there are fields
  leaves : (P : Cells → Cells → Type 0) →
      ((before : Cells) → HasForms (renewals n).forms before → P before ((renewals n).renewed before)) →
      FromAnyFields (program_of a) (struct_place (program_of a) n) (procedure_place (program_of a) (name n)) P
  leaves P each before are =
      let r = renewals n in
      let low = budget-below a v sums n has in
      let few = is.in_time in
      let formed : HasForms r.forms before = subst (λ fs. HasForms fs before) (sym is.forms) are in
      let run = is.renews.does before 0 formed (omega (arith, low, few)) in
      subst (λ (routine : Routine). OnDone (routine.run [] before 0) (IsLeft P before)) routine-is
      (on-done ((which (offer_of a v n)).routine.run [] before 0)
      (λ x. (x.cells ≡ r.renewed before) × (x.steps ≤ 0 + r.most) × (x.log ≡ [])) (IsLeft P before)
      (λ x left. (
        (let late = left.1 in let short = is.short in let fields = ap field_count is.forms in omega (arith, late, short, fields)),
        subst (P before) (sym left.0) (each before formed),
      )) run)
    where
      IsLeft : (Cells → Cells → Type 0) → Cells → After → Type 0
      IsLeft P before x = (x.steps ≤ field_count (forms_at (program_of a) (struct_place (program_of a) n))) × P before x.cells

module _ (places : SystemsHavePlaces) (fields : FieldsAreFound) (sums : BudgetsSumToBound) (forms : FormsAreOfSlots)
    (a : Parts) (v : Views a) (renewed : Renewed a v) where
  abbrev Started : Option ℕ → Cells → Cells → Type 0
  Started o old new = AreStarted (program_of a) (diagram a) o new

  pub renews-all : StartedAnswer a v renewed → (n : Option ℕ) → Contains (all_systems a) n → RenewsAll (program_of a) (diagram a) a.hyper n
  renews-all answers n has = record {
    starts = leaves sums a v (λ o. o.start) IsStarted start_name (λ s. refl) renewed.started n has (starts-so fields a v renewed n has)
        (λ before after. HoldsInside (program_of a) (diagram a) n Started before after
        × AnswersScripts (program_of a) (diagram a) a.hyper [] n after)
        (λ before are. (
          holds-inside fields forms a v (λ o. o.start) IsStarted
              (λ local children k u b c is. is) renewed.started renewed.starts n has before
              (subst (λ fs. HasForms fs before) (starts-so fields a v renewed n has).forms are) Started
              (λ o cells among there. started-here fields a v renewed places o cells among there),
          answers n has [] before ((renewed.started n).renewed before) are tt refl,
        ));
    resets = leaves sums a v (λ o. o.reset) IsReset reset_name (λ s. refl) renewed.reset n has (resets-so fields a v renewed n has)
        (λ before after. HoldsInside (program_of a) (diagram a) n (AreReset (program_of a) (diagram a)) before after)
        (λ before are. holds-inside fields forms a v (λ o. o.reset) IsReset
        (λ local children k u b c is. is) renewed.reset renewed.resets n has before
        (subst (λ fs. HasForms fs before) (resets-so fields a v renewed n has).forms are) (AreReset (program_of a) (diagram a))
        (λ o cells among there. reset-here fields a v renewed places o cells among there));
  }

pub renewals_go_inside : SystemsHavePlaces → FieldsAreFound → BudgetsSumToBound → RenewalsGoInside
renewals_go_inside places fields sums forms a v renewed answers =
    all-made (RenewsAll (program_of a) (diagram a) a.hyper) (all_systems a)
    (renews-all places fields sums forms a v renewed answers)

-- ---- From the root

pub restarts_follow : SystemsHavePlaces → FieldsAreFound → RestartsFollow
restarts_follow places fields a v renewed paths root answers takes before are =
    on-done ((routine_at (program_routines (program_of a)) (unwrap_or (procedure_named (program_of a) root_start_name) 0)).run [] before
    0)
    (λ x. (x.steps ≤ most) × IsRootStarted a renewed.started before x.cells)
    (λ x. (x.steps ≤ most) × AreRestarted (program_of a) (diagram a) a.hyper before x.cells)
    (λ x is. (is.0, restarted x.cells is.1)) (root before are)
  where
    most : ℕ
    most = field_count (forms_at (program_of a) (root_struct (program_of a)))

    top : ℕ
    top = top_place (program_of a)

    instances : (cells : Cells) → HasForms (forms_at (program_of a) (root_struct (program_of a))) cells → (s : Option ℕ) →
        Contains (all_systems a) s → HasInstance a cells s
    instances cells formed s has = member (HasInstance a cells) (all_systems a) s (paths cells formed) has

    Started : Option ℕ → Cells → Cells → Type 0
    Started o old new = AreStarted (program_of a) (diagram a) o new

    path : Option ℕ → List ℕ
    path s = path_to (program_of a) (diagram a).rows s

    -- the instance of a system, by its path, before
    formed : (s : Option ℕ) → Contains (all_systems a) s → HasForms (renewed.started s).forms (cells_at (path s) before)
    formed s has = subst (λ fs. HasForms fs (cells_at (path s) before)) (sym (starts-so fields a v renewed s has).forms)
        (instances before are s has).forms

    root_has : Contains (all_systems a) None
    root_has = in-first None (map Some (systems_inside (diagram a).rows None))

    at_top : path None ≡ top ∷ []
    at_top = path-to-top (program_of a) (diagram a).rows

    top-started : (after : Cells) → IsRootStarted a renewed.started before after →
        AreStarted (program_of a) (diagram a) None (fields_at after top)
    top-started after is =
        subst (AreStarted (program_of a) (diagram a) None) (sym is.stands.inner)
        (started-here fields a v renewed places None (fields_at before top) root_has
        (subst (λ p. HasForms (forms_at (program_of a) (struct_place (program_of a) None)) (cells_at p before)) at_top
        (instances before are None root_has).forms))

    restarted : (after : Cells) → IsRootStarted a renewed.started before after → AreRestarted (program_of a) (diagram a) a.hyper before after
    restarted after is = record {
      tick = is.stands.now ∙ ap pos nothing;
      top = record {
        here = top-started after is;
        inside = all-made (λ e. Started (Some e) (cells_at (inner e) (fields_at before top)) (cells_at (inner e) (fields_at after top)))
            (systems_inside (diagram a).rows None) (λ e has.
            let among = among-all a None e has in
            let there = path-to-inside (program_of a) (diagram a).rows e (nested a) (of-inside (diagram a).rows None e has).0 in
            let becomes : cells_at (inner e) (fields_at after top) ≡ (renewed.started (Some e)).renewed
            (cells_at (path (Some e)) before) =
            ap (λ p. cells_at p after) (sym there) ∙ member _ (all_systems a) (Some e) is.systems among in
            subst (AreStarted (program_of a) (diagram a) (Some e)) (sym becomes)
            (started-here fields a v renewed places (Some e) (cells_at (path (Some e)) before) among
            (instances before are (Some e) among).forms));
      };
      outputs =
          is.outputs
          ∙ map-same (λ b. number_in (program_of a) None (fields_at after top) (value_name b)) (start_of (diagram a))
          (outports_of (diagram a).rows None)
          (λ b has. member (λ c. number_in (program_of a) None (fields_at after top) (value_name c) ≡ start_of (diagram a) c)
          (valued_rows (diagram a) None) b (top-started after is).values (outports-valued (diagram a) None b has));
      traces = takes (fields_at before top) after
          (subst (λ p. HasForms (renewed.started None).forms (cells_at p before)) at_top (formed None root_has)) is.stands;
      scripts = all-made (λ s. AnswersScripts (program_of a) (diagram a) a.hyper (path s) s after) (all_systems a) (λ s has.
          answers s has (path s) (cells_at (path s) before) after (formed s has) (instances after is.keeps s has).there
          (member _ (all_systems a) s is.systems has));
    }
      where
        inner : ℕ → List ℕ
        inner e = path_inside (program_of a) (diagram a).rows None e

        nothing : 0 % a.hyper ≡ 0
        nothing = omega arith
