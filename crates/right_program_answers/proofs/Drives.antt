-- A script of calls on the instance of a system at a path, from call to call and from tick to tick.
use Rattle.std.specs.Prelude.{◌≡◌, ℕ, suc, ◌+◌, ◌<◌, ◌≤◌, ◌%◌, ◌==◌, Bool, true, false, List, [], ◌∷◌, ◌++◌, map, filter, length, slice_get, slice_index_or, Contains, IsPermutation, IsTrue, Option, Some, ℤ, pos, refl}
use Rattle.std.specs.List.{AllByRecursion, list_any, list_all}
use Rattle.std.proofs.Common.{sym, ap, ap₂, subst, ◌∙◌, arith, inl, inr, append-nil}
use Rattle.std.proofs.lemmas.Bool.{and_parts}
use Rattle.std.proofs.lemmas.List.Elements.{Contains-append_left}
use Rattle.std.proofs.lemmas.List.Sorted.{IsPermutation-refl, IsPermutation-sym, Contains-permutation}
use Rattle.base_fixed_point.specs.Conversion.{InType}
use Rattle.diagram_blocks.specs.Meaning.{has_value}
use Rattle.diagram_meaning.specs.declared.table.Row.{Row}
use Rattle.diagram_meaning.specs.Diagram.{Diagram}
use Rattle.diagram_meaning.specs.Rows.{row_at, rows_of, outports_of}
use Rattle.diagram_meaning.specs.Inputs.{input_ports}
use Rattle.diagram_meaning.specs.Run.{value_at}
use Rattle.diagram_meaning.specs.Laws.{Run}
use Rattle.diagram_meaning.specs.Traces.{input_type_of}
use Rattle.modules_profile.specs.declared.Function.{Function}
use Rattle.modules_profile.specs.SystemHeader.{SystemHeader}
use Rattle.base_core.specs.Ports.{ports_in}
use Rattle.modules_profile.specs.Headers.{header_of, numbered_function, given_by_function, ports_of_header, taken_by_function}
use Rattle.modules_profile.specs.Locals.{own_header}
use Rattle.modules_profile.specs.NodeFacts.{HeaderIsOfOwnRows}
use Rattle.modules_profile.specs.Systems.{systems_inside}
use Rattle.modules_profile.proofs.lemmas.Members.{in-none, in-first, in-rest, in-cases, in-map, of-map, in-range, of-range, in-at}
use Rattle.c_syntax.specs.Tree.{ProgramTree}
use Rattle.c_semantics.specs.Cells.{Cells, number_at, cells_at}
use Rattle.c_semantics.specs.Values.{step_limit}
use Rattle.c_semantics.specs.Machine.{LoggedCall, StoredField, After, Routine, routine_at, program_routines}
use Rattle.emit_shape.specs.Names.{value_name, out_name, update_name}
use Rattle.emit_shape.specs.Programs.{procedure_place}
use Rattle.right_relation.specs.Instances.{Act, out, update, none_called, with_called, OuterTick, InstanceTick, fields_after, offered_for, calls_at, stores_at, OnDone, Leaves}
use Rattle.right_relation.specs.Serving.{act_values, MayCome}
use Rattle.right_relation.specs.BudgetLaws.{BudgetsSumToBound}
use Rattle.right_relation.specs.Accounts.{log_along, most_along, stored_along}
use Rattle.right_claim.specs.Paths.{place_in, path_inside}
use Rattle.right_claim.specs.Calls.{HasCallsOf, StoresOnce, CallsInside}
use Rattle.right_claim.specs.Scripts.{Call, out_with, update_with, TickSoFar, nothing_yet, IsLawfulFrom, tick_after, tick_count, AgreesFrom}
use Rattle.right_claim.specs.Held.{HoldsRun}
use Rattle.right_claim.specs.Driving.{call_in_tick, HoldsOutputs, DrivenFrom}
use Rattle.right_linking.specs.Parts.{Parts, program_of, diagram, all_systems, coded_header, Views}
use Rattle.right_linking.specs.Offers.{offer_of}
use Rattle.right_linking.specs.Starts.{Renewed}
use Rattle.right_linking.specs.Root.{HasPath}
use Rattle.right_linking.specs.Lives.{whole_tick, function_numbers, outer_at, is_around_active, IsWhole, Lives}
use Rattle.right_linking.proofs.lemmas.AssembledPlaces.{member, all-made}
use Rattle.right_program_answers.proofs.InstancePaths.{calls_under, stores_under, on-done, LeavesAt, done-at, calls-under-both, stores-under-both, stores-both, calls-under-at, stores-under-at, paths-under, some-at}
use Rattle.right_program_answers.proofs.ActsSoFar.{called_of, in_order, left_of, called-is, is-called, among-order, left-less, one-more, none-left, so-far-next, whole-from, most-behind, IsLogOf, IsStoredBy, log-next, stored-next}
use Rattle.right_program_answers.proofs.GivenArguments.{given-values, taken-values, ports-are, traced, all-traced, active-around}
use Rattle.right_program_answers.proofs.FoundOutputs.{out-offered, outputs-left}
use Rattle.right_program_answers.proofs.StepRoom.{budget-within}

all-pass : (test : ℕ → Bool) (xs : List ℕ) (x : ℕ) → IsTrue (list_all test xs) → Contains xs x → test x ≡ true
all-pass test [] x all has = absurd (in-none x has)
all-pass test (y ∷ ys) x all has =
    let both = and_parts (test y) (list_all test ys) all in
    elim (in-cases y x ys has) [
      | inl same ↦ sym (ap test same) ∙ both.0
      | inr more ↦ all-pass test ys x both.1 more
    ]

-- before any call all functions are left
all-left : (functions : List ℕ) → left_of functions [] ≡ functions
all-left [] = refl
all-left (j ∷ functions) = ap (λ js. j ∷ js) (all-left functions)

module _ (headers : HeaderIsOfOwnRows) (sums : BudgetsSumToBound) (a : Parts) (v : Views a) (renewed : Renewed a v)
    (place : ℕ) (s : Option ℕ) (stands : slice_get (all_systems a) place ≡ Some s) (path : List ℕ) (xs : List (List ℤ)) (run : Run)
    (before : Cells) (lives : Lives a v s xs run renewed s before) where
  abbrev p : ProgramTree
  p = program_of a

  abbrev d : Diagram
  d = diagram a

  abbrev rows : List Row
  rows = d.rows

  abbrev h : SystemHeader
  h = coded_header (v.at s)

  abbrev own_functions : List Function
  own_functions = (v.at s).profile.functions

  abbrev numbers : List ℕ
  numbers = function_numbers a v s

  abbrev outer : ℕ → OuterTick
  outer t = outer_at a v s xs run s t

  header : h ≡ header_of d s (v.at s).profile
  header =
      let local = (v.each place s stands).local in
      ap (λ l. own_header l (v.at s).profile) local.is_local ∙ headers d a.model.times.delays s local.headers (v.at s).profile

  active : (t : ℕ) → IsTrue (outer t).parent
  active t = active-around d s xs run t

  ports : ports_of_header h ≡ input_ports rows s
  ports = ap ports_of_header header ∙ ports-are d s (v.at s).profile

  -- ---- One call

  -- A call with these values, of a procedure that does an act which may come.
  done-act : (t : ℕ) (called : List ℕ) (cells : Cells) (act : Act) (name : List ℕ) (values : List ℤ) → t < length xs → HasPath path cells →
      cells_at path cells ≡ (lives.at t).standing (called_of called) → MayCome h (outer t) (called_of called) act →
      (offered_for (offer_of a v s) act).routine ≡ routine_at (program_routines p) (procedure_place p name) →
      act_values h a.hyper (outer t) act ≡ pos (t % a.hyper) ∷ values → (lives.at t).most (called_of called) act ≤ step_limit →
      OnDone (call_in_tick p a.hyper path t name values cells)
      (LeavesAt path
      (Leaves (fields_after (lives.at t) (called_of called) act) (0 + (lives.at t).most (called_of called) act)
      ((lives.at t).log (called_of called) act) ((lives.at t).stored (called_of called) act)))
  done-act t called cells act name values below there fields may offered given room =
      let i = lives.at t in
      let left =
      Leaves (fields_after i (called_of called) act) (0 + i.most (called_of called) act) (i.log (called_of called) act)
      (i.stored (called_of called) act) in
      let performs = (lives.serves t below).acts (called_of called) act may 0 (omega (arith, room)) in
      done-at path
      (λ inner. (routine_at (program_routines p) (procedure_place p name)).run (pos (t % a.hyper) ∷ values) inner 0) cells left there
      (subst (λ (r : Routine). OnDone (r.run (pos (t % a.hyper) ∷ values) (cells_at path cells) 0) left) offered
      (subst (λ vs. OnDone ((offered_for (offer_of a v s) act).routine.run vs (cells_at path cells) 0) left) given
      (subst (λ c. OnDone ((offered_for (offer_of a v s) act).routine.run (act_values h a.hyper (outer t) act) c 0) left)
      (sym fields) performs)))

  -- ---- Between two calls

  -- In tick t, after calls of these functions, the last of them first.
  pub record StandsBetween (t : ℕ) (called : List ℕ) (cells : Cells) (log : List LoggedCall) (stores : List StoredField) : Type 0 where
    pub there : HasPath path cells
    pub fields : cells_at path cells ≡ (lives.at t).standing (called_of called)
    pub inner_log : List LoggedCall
    pub inner_stores : List StoredField
    pub is_log : log ≡ calls_under path inner_log
    pub is_stores : stores ≡ stores_under path inner_stores
    pub logged : IsLogOf (lives.at t) called inner_log
    pub stored : IsStoredBy (lives.at t) called (λ inner field. stores_at inner field inner_stores)
    pub order : IsPermutation numbers (in_order called ++ left_of numbers called)

  pub begins : (t : ℕ) (cells : Cells) → HasPath path cells → cells_at path cells ≡ (lives.at t).standing none_called →
      StandsBetween t [] cells [] []
  begins t cells there fields = record {
    there = there;
    fields = fields;
    inner_log = [];
    inner_stores = [];
    is_log = none path;
    is_stores = none_stored path;
    logged = λ more. refl;
    stored = λ more inner field. omega arith;
    order = subst (IsPermutation numbers) (sym (all-left numbers)) (IsPermutation-refl numbers);
  }
    where
      none : (fs : List ℕ) → [] ≡ calls_under fs []
      none [] = refl
      none (f ∷ fs) = ap (map _) (none fs)

      none_stored : (fs : List ℕ) → [] ≡ stores_under fs []
      none_stored [] = refl
      none_stored (f ∷ fs) = ap (map _) (none_stored fs)

  module _ (t : ℕ) (called : List ℕ) (cells : Cells) (log : List LoggedCall) (stores : List StoredField) (below : t < length xs)
      (at : StandsBetween t called cells log stores) where
    abbrev i : InstanceTick
    i = lives.at t

    -- ---- A call of function j

    module _ (j : ℕ) (positive : 0 < j) (most : j ≤ length own_functions) (fresh : called_of called j ≡ false) where
      next-order : IsPermutation numbers (in_order (j ∷ called) ++ left_of numbers (j ∷ called))
      next-order =
          one-more numbers called (left_of numbers (j ∷ called)) j at.order
          (left-less (called_of called) j 1 (length own_functions) positive (omega (arith, most)) fresh)

      -- it is one of a whole tick, and so within the budget
      out-room : i.most (called_of called) (out j) ≤ step_limit
      out-room =
          let left = left_of numbers (j ∷ called) in
          let more = map out left ++ update ∷ [] in
          let whole = ((lives.accounts t below).whole (active t) (in_order (j ∷ called) ++ left) next-order).in_time in
          let same = ap (most_along i none_called) (whole-from (j ∷ called) left ∙ so-far-next called j more) in
          let behind = most-behind i called (out j ∷ more) in
          let budget = budget-within a v sums s (in-at (all_systems a) place s stands) in
          omega (arith, whole, same, behind, budget)

      pub next-stands : (b : After) →
          LeavesAt path
          (Leaves (i.standing (with_called (called_of called) j)) (0 + i.most (called_of called) (out j))
          (i.log (called_of called) (out j)) (i.stored (called_of called) (out j))) b →
          StandsBetween t (j ∷ called) b.cells (log ++ b.log) (stores ++ b.stores)
      next-stands b l = record {
        there = l.there;
        fields = l.cells ∙ l.holds.fields;
        inner_log = at.inner_log ++ l.inner.log;
        inner_stores = at.inner_stores ++ l.inner.stores;
        is_log = ap₂ (λ ys zs. ys ++ zs) at.is_log l.log ∙ sym (calls-under-both path at.inner_log l.inner.log);
        is_stores = ap₂ (λ ys zs. ys ++ zs) at.is_stores l.stores ∙ sym (stores-under-both path at.inner_stores l.inner.stores);
        logged = subst (λ zs. IsLogOf i (j ∷ called) (at.inner_log ++ zs)) (sym l.holds.calls) (log-next i called j at.inner_log at.logged);
        stored = λ more inner field.
            let all = stored-next i called j (λ q f. stores_at q f at.inner_stores) at.stored more inner field in
            let one = l.holds.stores inner field in
            let both = stores-both inner field at.inner_stores l.inner.stores in
            omega (arith, all, one, both);
        order = next-order;
      }

    -- ---- The update

    module _ (all : IsTrue (list_all (λ j. list_any (λ k. k == j) called) numbers)) where
      whole-order : IsPermutation numbers (in_order called)
      whole-order =
          subst (IsPermutation numbers)
          (ap (λ ys. in_order called ++ ys) (none-left numbers called all) ∙ append-nil (in_order called)) at.order

      whole : IsWhole a v s xs run s i t (in_order called)
      whole = (lives.accounts t below).whole (active t) (in_order called) whole-order

      update-room : i.most (called_of called) update ≤ step_limit
      update-room =
          let time = whole.in_time in
          let behind = most-behind i called (update ∷ []) in
          let budget = budget-within a v sums s (in-at (all_systems a) place s stands) in
          omega (arith, time, behind, budget)

      abbrev acts : List Act
      acts = whole_tick (in_order called)

      module _ (b : After)
          (l : LeavesAt path
          (Leaves i.after (0 + i.most (called_of called) update) (i.log (called_of called) update)
          (i.stored (called_of called) update)) b) where
        all-log : log ++ b.log ≡ calls_under path (log_along i none_called acts)
        all-log =
            ap₂ (λ ys zs. ys ++ zs) at.is_log l.log ∙ sym (calls-under-both path at.inner_log l.inner.log)
            ∙ ap (λ zs. calls_under path (at.inner_log ++ zs)) (l.holds.calls ∙ sym (append-nil (i.log (called_of called) update)))
            ∙ ap (calls_under path) (sym (at.logged (update ∷ [])))

        all-stores : (inner : List ℕ) (field : ℕ) →
            stores_at (path ++ inner) field (stores ++ b.stores) ≤ stored_along i none_called acts inner field
        all-stores inner field =
            let so = at.stored (update ∷ []) inner field in
            let one = l.holds.stores inner field in
            let both = stores-both inner field at.inner_stores l.inner.stores in
            let seen : stores_at (path ++ inner) field (stores ++ b.stores) ≡ stores_at inner field (at.inner_stores ++ l.inner.stores) =
            ap (stores_at (path ++ inner) field)
            (ap₂ (λ ys zs. ys ++ zs) at.is_stores l.stores ∙ sym (stores-under-both path at.inner_stores l.inner.stores))
            ∙ stores-under-at path inner field (at.inner_stores ++ l.inner.stores) in
            omega (arith, so, one, both, seen)

        own-stores : StoresOnce p rows path s (stores ++ b.stores)
        own-stores =
            let valued = filter (λ k. has_value (row_at rows k).kind) (rows_of rows s) in
            all-made (λ k. stores_at path (place_in p s (value_name k)) (stores ++ b.stores) ≤ 1) valued
            (λ k inside.
            let most = member _ valued k whole.stored inside in
            let fewer = all-stores [] (place_in p s (value_name k)) in
            let seen = ap (λ q. stores_at q (place_in p s (value_name k)) (stores ++ b.stores)) (append-nil path) in
            omega (arith, most, fewer, seen))

        stores-of : (e : ℕ) → Contains (systems_inside rows s) e →
            StoresOnce p rows (path ++ path_inside p rows s e) (Some e) (stores ++ b.stores)
        stores-of e has =
            let valued = filter (λ k. has_value (row_at rows k).kind) (rows_of rows (Some e)) in
            let once = member _ (systems_inside rows s) e whole.stored_inside has in
            all-made
            (λ k. stores_at (path ++ path_inside p rows s e) (place_in p (Some e) (value_name k)) (stores ++ b.stores) ≤ 1) valued
            (λ k inside.
            let most = member _ valued k once inside in
            let fewer = all-stores (path_inside p rows s e) (place_in p (Some e) (value_name k)) in
            omega (arith, most, fewer))

        calls-of : (e : ℕ) → calls_at (path ++ path_inside p rows s e) (log ++ b.log)
            ≡ calls_at (path_inside p rows s e) (log_along i none_called acts)
        calls-of e =
            ap (calls_at (path ++ path_inside p rows s e)) all-log
            ∙ calls-under-at path (path_inside p rows s e) (log_along i none_called acts)

        -- the paths of s and of all inside it
        abbrev instances : List (List ℕ)
        instances = path ∷ map (λ e. path ++ path_inside p rows s e) (systems_inside rows s)

        place-of : (c : LoggedCall) → Contains (log_along i none_called acts) c → Contains instances (path ++ c.path)
        place-of c has = elim (whole.no_other c.path) [
          | inl none ↦ absurd (some-at c (log_along i none_called acts) has none)
          | inr some ↦ elim (in-cases [] c.path (map (path_inside p rows s) (systems_inside rows s)) some) [
            | inl own ↦
                subst (Contains instances) (sym (ap (λ q. path ++ q) (sym own) ∙ append-nil path))
                (in-first path (map (λ e. path ++ path_inside p rows s e) (systems_inside rows s)))
            | inr deeper ↦
                let e = of-map (path_inside p rows s) (systems_inside rows s) c.path deeper in
                subst (Contains instances) (ap (λ q. path ++ q) e.2)
                (in-rest path (path ++ path_inside p rows s e.0) (map (λ e. path ++ path_inside p rows s e) (systems_inside rows s))
                (in-map (λ e. path ++ path_inside p rows s e) (systems_inside rows s) e.0 e.1))
          ]
        ]

        pub calls-inside : CallsInside p d path s (slice_index_or xs t []) (slice_index_or run.values t [])
            (slice_index_or run.triggers t []) (log ++ b.log) (stores ++ b.stores)
        calls-inside = record {
          each = all-made _ (systems_inside rows s)
              (λ e has. subst (HasCallsOf p (Some e) (is_around_active a v s xs run t e)) (sym (calls-of e))
              (member _ (systems_inside rows s) e whole.calls has));
          stored_once = own-stores;
          inner_stored_once = all-made _ (systems_inside rows s) stores-of;
          no_other =
              subst (AllByRecursion (λ c. Contains instances c.path)) (sym all-log)
              (paths-under (Contains instances) path (log_along i none_called acts)
              (all-made _ (log_along i none_called acts) place-of));
        }

        pub holds-run : HoldsRun p d s run t (cells_at path b.cells)
        holds-run = subst (HoldsRun p d s run t) (sym (l.cells ∙ l.holds.fields)) (lives.holds t below)

  -- the outputs of each function that was called have their values
  outputs-held : (t : ℕ) (called : List ℕ) (cells : Cells) (log : List LoggedCall) (stores : List StoredField) → t < length xs →
      StandsBetween t called cells log stores →
      AllByRecursion (HoldsOutputs p d a.hyper path s own_functions xs run t cells) called
  outputs-held t called cells log stores below at =
      all-made (HoldsOutputs p d a.hyper path s own_functions xs run t cells) called
      (λ j has.
      let among = Contains-permutation (in_order called ++ left_of numbers called) numbers j
      (IsPermutation-sym numbers (in_order called ++ left_of numbers called) at.order)
      (Contains-append_left (in_order called) (left_of numbers called) j (among-order called j has)) in
      let range = of-range 1 (length own_functions) j among in
      subst (λ (c : Cells). AllByRecursion
      (λ o. number_at c (place_in p s (value_name o)) ≡ value_at (slice_index_or run.values t []) o)
      (given_by_function (numbered_function own_functions j) (outports_of rows s))) (sym at.fields)
      (outputs-left p d s (v.at s).local (v.at s).profile header a.hyper (outer t) (lives.at t)
      (value_at (slice_index_or run.values t [])) (called_of called) j (lives.serves t below) refl (omega (arith, range.0))
      (omega (arith, range.1)) (is-called called j has)))

  -- ---- The script

  -- what the calls of a tick are given is what the acts take
  out-values : (t j : ℕ) (values : List ℤ) →
      values ≡ map (traced d s xs run t) (ports_in (numbered_function own_functions j).inputs (input_ports rows s)) →
      act_values h a.hyper (outer t) (out j) ≡ pos (t % a.hyper) ∷ values
  out-values t j values are =
      ap (λ vs. pos (t % a.hyper) ∷ vs)
      (ap₂ (λ ps vs. taken_by_function (numbered_function own_functions j) ps vs) ports (all-traced d s xs run t)
      ∙ taken-values (numbered_function own_functions j) (traced d s xs run t) (input_ports rows s) ∙ sym are)

  update-values : (t : ℕ) (values : List ℤ) → values ≡ map (traced d s xs run t) (input_ports rows s) →
      act_values h a.hyper (outer t) update ≡ pos (t % a.hyper) ∷ values
  update-values t values are = ap (λ vs. pos (t % a.hyper) ∷ vs) (all-traced d s xs run t ∙ sym are)

  out-routine : (j : ℕ) → 0 < j → j ≤ length own_functions →
      (offered_for (offer_of a v s) (out j)).routine ≡ routine_at (program_routines p) (procedure_place p (out_name s j))
  out-routine j positive most =
      ap (λ o. o.routine) (out-offered p h j positive most)
      ∙ ap (λ (g : SystemHeader). routine_at (program_routines p) (procedure_place p (out_name g.row j))) header

  update-routine : (offered_for (offer_of a v s) update).routine ≡ routine_at (program_routines p) (procedure_place p (update_name s))
  update-routine = ap (λ (g : SystemHeader). routine_at (program_routines p) (procedure_place p (update_name g.row))) header

  pub drive : (script : List Call) (t : ℕ) (cells : Cells) (log : List LoggedCall) (stores : List StoredField) (tick : TickSoFar) →
      IsLawfulFrom d s own_functions tick script → AgreesFrom d s own_functions t xs script →
      t + tick_count d s own_functions script ≤ length xs →
      (t < length xs → StandsBetween t tick.called cells log stores) →
      DrivenFrom p d a.hyper path s own_functions xs run t cells tick.called log stores script
  drive [] t cells log stores tick lawful agrees room stands_there = tt
  drive (out_with j values ∷ script) t cells log stores tick lawful agrees room stands_there =
      let below : t < length xs = omega (arith, room) in
      let at = stands_there below in
      let turn = lawful.0.in_turn in
      let fresh : called_of tick.called j ≡ false = called-is tick.called j ∙ turn.2 in
      let given =
      given-values (λ q w. InType (input_type_of d s q) w) (traced d s xs run t)
      (ports_in (numbered_function own_functions j).inputs (input_ports rows s)) values lawful.0.in_types agrees.0 in
      on-done (call_in_tick p a.hyper path t (out_name s j) values cells) _ _
      (λ after l.
      let next = next-stands t tick.called cells log stores below at j turn.0 turn.1 fresh after l in (
        outputs-held t (j ∷ tick.called) after.cells (log ++ after.log) (stores ++ after.stores) below next,
        drive script t after.cells (log ++ after.log) (stores ++ after.stores)
            (tick_after d s own_functions tick (out_with j values)) lawful.1 agrees.1 (omega (arith, room)) (λ more. next),
      ))
      (done-act t tick.called cells (out j) (out_name s j) values below at.there at.fields (active t, turn.0, turn.1, fresh)
      (out-routine j turn.0 turn.1) (out-values t j values given)
      (out-room t tick.called cells log stores below at j turn.0 turn.1 fresh))
  drive (update_with values ∷ script) t cells log stores tick lawful agrees room stands_there =
      let below : t < length xs = omega (arith, room) in
      let at = stands_there below in
      let all = lawful.0.in_turn in
      let given =
      given-values (λ q w. InType (input_type_of d s q) w) (traced d s xs run t) (input_ports rows s) values lawful.0.in_types agrees.0 in
      on-done (call_in_tick p a.hyper path t (update_name s) values cells) _ _
      (λ after l. (
        calls-inside t tick.called cells log stores below at all after l,
        holds-run t tick.called cells log stores below at all after l,
        drive script (suc t) after.cells [] [] nothing_yet lawful.1 agrees.1 (omega (arith, room))
            (λ more. begins (suc t) after.cells l.there (l.cells ∙ l.holds.fields ∙ lives.follows t more)),
      ))
      (done-act t tick.called cells update (update_name s) values below at.there at.fields (
        active t,
        λ j positive most. called-is tick.called j
            ∙ all-pass (λ k. list_any (λ i. i == k) tick.called) numbers j all
            (in-range 1 (length own_functions) j positive (omega (arith, most))),
      )
      update-routine (update-values t values given) (update-room t tick.called cells log stores below at all))
