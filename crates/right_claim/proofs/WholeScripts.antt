-- After each start the sample of whole right code answers its calls in any lawful order, on an instance of the child and on one of
-- the root, in fields of their own and in those of `root`.
use Rattle.std.specs.Prelude.{◌≡◌, refl, ℕ, zero, suc, ◌+◌, ◌<◌, max, List, [], ◌∷◌, ◌++◌, length, slice_index_or, Option, Some, None, ℤ, pos}
use Rattle.std.specs.List.{AllByRecursion, AllZip}
use Rattle.std.specs.Fmt.{digits}
use Rattle.std.proofs.Common.{sym, ap, subst, ◌∙◌, arith, lit<, lit≤, true≢false}
use Rattle.std.proofs.lemmas.List.Sorted.{IsPermutation-refl}
use Rattle.base_core.specs.declared.Port.{Port}
use Rattle.diagram_activity.specs.declared.TrigMem.{TrigMem}
use Rattle.base_fixed_point.specs.Conversion.{InType}
use Rattle.diagram_meaning.specs.Rows.{outports_of}
use Rattle.diagram_meaning.specs.Needs.{AreTrueNeeds}
use Rattle.diagram_meaning.specs.Run.{value_at}
use Rattle.diagram_meaning.specs.Traces.{input_type_of}
use Rattle.diagram_meaning.specs.Laws.{Run, LoopFreeHasOneRun}
use Rattle.modules_profile.specs.declared.Function.{Function}
use Rattle.modules_profile.specs.SystemProfile.{SystemProfile}
use Rattle.diagram_meaning.specs.Inputs.{input_ports}
use Rattle.base_core.specs.Ports.{ports_in}
use Rattle.modules_profile.specs.Functions.{functions_for}
use Rattle.modules_profile.specs.Headers.{numbered_function, given_by_function}
use Rattle.modules_profile.specs.NodeFacts.{ProfilesAreOne}
use Rattle.c_semantics.specs.Cells.{Cells, number, object, no_cells, more_cells, cells_at}
use Rattle.c_semantics.specs.Machine.{LoggedCall, StoredField, Outcome, done, call_from_outside}
use Rattle.emit_shape.specs.Names.{value_name, out_name, update_name}
use Rattle.emit_shape.specs.Programs.{procedure_place}
use Rattle.right_relation.specs.Instances.{OnDone}
use Rattle.right_claim.specs.Paths.{path_to, number_in}
use Rattle.right_claim.specs.Calls.{CallsInside}
use Rattle.right_claim.specs.Scripts.{Call, out_with, update_with, TickSoFar, nothing_yet, CanFollow, tick_after, IsLawfulFrom, tick_count, Fits}
use Rattle.right_claim.specs.Held.{HoldsRun}
use Rattle.right_claim.specs.Driving.{call_in_tick, HoldsOutputs, DrivenFrom, AnswersScripts}
use Rattle.right_claim.specs.Right.{AnswersAnyOrder}
use Rattle.right_claim.specs.WholeSamples.{later_five, whole_program, child_profile, top_profile, first_values, later_values, child_values, run_over}
use Rattle.right_claim.proofs.WholeRuns.{modulo-one, begun, starts, at_top, in_child, RunsLike, root-runs, child-runs, run-is, HoldsAll, holds-run, value-first, value-later}
use Rattle.right_claim.proofs.WholeFaces.{child_is_profile, top_is_profile}

-- the one function of each system
abbrev functions : List Function
functions = record { inputs = 0; outputs = 1 } ∷ []

-- a call from outside in a tick, which takes so many steps, leaves these fields, and logs and stores that
abbrev Does : (path : List ℕ) → (name : List ℕ) → (before after : Cells) → List LoggedCall → List StoredField → Type 0
Does path name before after log stores =
    (steps : ℕ)
    × (call_in_tick whole_program 1 path 0 name [] before
    ≡ done (record { cells = after; steps = steps; log = log; stores = stores }))

-- each tick is the first of its cycle
at-tick : (path : List ℕ) (t : ℕ) (name : List ℕ) (cells : Cells) →
    call_in_tick whole_program 1 path t name [] cells ≡ call_in_tick whole_program 1 path 0 name [] cells
at-tick path t name cells =
    ap (λ n. call_from_outside whole_program (procedure_place whole_program name) path (pos n ∷ []) cells) (modulo-one t)

-- What the calls do on an instance of the system s at a path, from fields as a start leaves them: the fields before the second tick
-- and later ones, and in a tick where its function was called.
record Drives (path : List ℕ) (s : Option ℕ) (later : List ℤ) (from : Cells) : Type 0 where
  output : ℕ
  inputs : input_ports later_five.rows s ≡ []
  given : given_by_function (numbered_function functions 1) (outports_of later_five.rows s) ≡ output ∷ []
  in_first : Cells
  second : Cells
  in_later : Cells
  third : Cells
  out_log : List LoggedCall
  update_log : List LoggedCall
  out_stores : List StoredField
  update_stores : List StoredField
  first_out : Does path (out_name s 1) from in_first out_log out_stores
  first_update : Does path (update_name s) in_first second update_log update_stores
  second_out : Does path (out_name s 1) second in_later out_log out_stores
  later_update : Does path (update_name s) in_later third update_log update_stores
  third_out : Does path (out_name s 1) third in_later out_log out_stores
  gives_first : number_in whole_program s (cells_at path in_first) (value_name output) ≡ value_at first_values output
  gives_later : number_in whole_program s (cells_at path in_later) (value_name output) ≡ value_at later output
  holds_first : HoldsAll s first_values (cells_at path second)
  holds_later : HoldsAll s later (cells_at path third)
  inside : (x v : List ℤ) (g : List TrigMem) →
      CallsInside whole_program later_five path s x v g (out_log ++ update_log) (out_stores ++ update_stores)

-- ---- Calls that may come

no-values : (P : Port → ℤ → Type 0) (ports : List Port) (values : List ℤ) → ports ≡ [] → AllZip P ports values → values ≡ []
no-values P ports values none h = by values (subst (λ ports. AllZip P ports values) none h)
  where
    by : (values : List ℤ) → AllZip P [] values → values ≡ []
    by [] h = refl
    by (v ∷ values) h = absurd h

module _ (s : Option ℕ) (inputs : input_ports later_five.rows s ≡ []) where
  abbrev called : TickSoFar
  called = tick_after later_five s functions nothing_yet (out_with 1 [])

  -- first in a tick the function
  first-call : (P : Call → Type 0) (c : Call) → CanFollow later_five s functions nothing_yet c → P (out_with 1 []) → P c
  first-call P (update_with values) can h = absurd (true≢false (sym can.in_turn))
  first-call P (out_with zero values) can h = absurd (let above = can.in_turn.0 in omega arith)
  first-call P (out_with (suc zero) values) can h =
      subst (λ values. P (out_with 1 values))
      (sym (no-values (λ p v. InType (input_type_of later_five s p) v) (ports_in 0 (input_ports later_five.rows s))
      values (ap (ports_in 0) inputs) can.in_types)) h
  first-call P (out_with (suc (suc j)) values) can h = absurd (let below = can.in_turn.1 in omega arith)

  -- and then the update
  next-call : (P : Call → Type 0) (c : Call) → CanFollow later_five s functions called c → P (update_with []) → P c
  next-call P (update_with values) can h =
      subst (λ values. P (update_with values))
      (sym (no-values (λ p v. InType (input_type_of later_five s p) v) (input_ports later_five.rows s) values inputs
      can.in_types)) h
  next-call P (out_with zero values) can h = absurd (let above = can.in_turn.0 in omega arith)
  next-call P (out_with (suc zero) values) can h = absurd (true≢false can.in_turn.2)
  next-call P (out_with (suc (suc j)) values) can h = absurd (let below = can.in_turn.1 in omega arith)

-- ---- Scripts

module _ (path : List ℕ) (s : Option ℕ) (later : List ℤ) (from : Cells) (d : Drives path s later from) (xs : List (List ℤ)) where
  abbrev run : Run
  run = run_over later xs

  abbrev Rest : ℕ → Cells → List ℕ → List LoggedCall → List StoredField → List Call → Type 0
  Rest t cells called log stores script = DrivenFrom whole_program later_five 1 path s functions xs run t cells called log stores script

  abbrev Held : ℕ → Cells → Type 0
  Held t cells = HoldsRun whole_program later_five s run t (cells_at path cells)

  abbrev Lawful : TickSoFar → List Call → Type 0
  Lawful tick script = IsLawfulFrom later_five s functions tick script

  abbrev count : List Call → ℕ
  count script = tick_count later_five s functions script

  -- where the function was called
  abbrev Called : ℕ → Cells → List Call → Type 0
  Called t cells script = Rest t cells (1 ∷ []) d.out_log d.out_stores script

  out-then : (t : ℕ) (before after : Cells) (script : List Call) → Does path (out_name s 1) before after d.out_log d.out_stores →
      number_in whole_program s (cells_at path after) (value_name d.output) ≡ value_at (slice_index_or run.values t []) d.output →
      Called t after script → Rest t before [] [] [] (out_with 1 [] ∷ script)
  out-then t before after script does gives rest =
      subst (λ (o : Outcome). OnDone o (λ a.
      AllByRecursion (HoldsOutputs whole_program later_five 1 path s functions xs run t a.cells) (1 ∷ [])
      × Rest t a.cells (1 ∷ []) ([] ++ a.log) ([] ++ a.stores) script)) (sym (at-tick path t (out_name s 1) before ∙ does.1)) (
        (
          subst (λ given. AllByRecursion (λ b. number_in whole_program s (cells_at path after) (value_name b)
              ≡ value_at (slice_index_or run.values t []) b) given) (sym d.given) (gives, tt),
          tt,
        ),
        rest,
      )

  update-then : (t : ℕ) (before after : Cells) (script : List Call) →
      Does path (update_name s) before after d.update_log d.update_stores → Held t after →
      Rest (suc t) after [] [] [] script → Called t before (update_with [] ∷ script)
  update-then t before after script does held rest =
      subst (λ (o : Outcome). OnDone o (λ a.
      CallsInside whole_program later_five path s (slice_index_or xs t []) (slice_index_or run.values t [])
      (slice_index_or run.triggers t []) (d.out_log ++ a.log) (d.out_stores ++ a.stores)
      × Held t a.cells × Rest (suc t) a.cells [] [] [] script)) (sym (at-tick path t (update_name s) before ∙ does.1)) (
        d.inside (slice_index_or xs t []) (slice_index_or run.values t []) (slice_index_or run.triggers t []),
        held,
        rest,
      )

  later-value : (t : ℕ) → 0 < t → t < length xs →
      number_in whole_program s (cells_at path d.in_later) (value_name d.output) ≡ value_at (slice_index_or run.values t []) d.output
  later-value t above below = d.gives_later ∙ sym (ap (λ v. value_at v d.output) (value-later later xs t above below))

  later-held : (t : ℕ) → 0 < t → t < length xs → Held t d.third
  later-held t above below = holds-run s later later xs t (cells_at path d.third) below (value-later later xs t above below) d.holds_later

  mutual
    -- from the second tick on, where the function was called
    on-called : (t : ℕ) (script : List Call) → 0 < t → Lawful (called s d.inputs) script → t + max 1 (count script) ≡ length xs →
        Called t d.in_later script
    on-called t [] above law fits = tt
    on-called t (c ∷ script) above law fits =
        next-call s d.inputs (λ c. Lawful (tick_after later_five s functions (called s d.inputs) c) script →
        t + max 1 (count (c ∷ script)) ≡ length xs → Called t d.in_later (c ∷ script)) c law.0
        (λ law fits. update-then t d.in_later d.third script d.later_update (later-held t above (omega (arith, fits)))
        (on-idle (suc t) d.third script d.third_out (omega arith) law (omega (arith, fits)))) law.1 fits

    -- and where it wasn't
    on-idle : (t : ℕ) (before : Cells) (script : List Call) → Does path (out_name s 1) before d.in_later d.out_log d.out_stores → 0 < t →
        Lawful nothing_yet script → t + count script ≡ length xs → Rest t before [] [] [] script
    on-idle t before [] does above law fits = tt
    on-idle t before (c ∷ script) does above law fits =
        first-call s d.inputs (λ c. Lawful (tick_after later_five s functions nothing_yet c) script →
        t + count (c ∷ script) ≡ length xs → Rest t before [] [] [] (c ∷ script)) c law.0
        (λ law fits. out-then t before d.in_later script does (later-value t above (omega (arith, fits)))
        (on-called t script above law fits)) law.1 fits

  -- in the first tick
  first-called : (script : List Call) → Lawful (called s d.inputs) script → max 1 (count script) ≡ length xs →
      Called 0 d.in_first script
  first-called [] law fits = tt
  first-called (c ∷ script) law fits =
      next-call s d.inputs (λ c. Lawful (tick_after later_five s functions (called s d.inputs) c) script →
      max 1 (count (c ∷ script)) ≡ length xs → Called 0 d.in_first (c ∷ script)) c law.0
      (λ law fits. update-then 0 d.in_first d.second script d.first_update
      (holds-run s later first_values xs 0 (cells_at path d.second) (omega (arith, fits))
      (value-first later xs (omega (arith, fits))) d.holds_first)
      (on-idle 1 d.second script d.second_out (lit< tt) law (omega (arith, fits)))) law.1 fits

  from-start : (script : List Call) → Lawful nothing_yet script → count script ≡ length xs → Rest 0 from [] [] [] script
  from-start [] law fits = tt
  from-start (c ∷ script) law fits =
      first-call s d.inputs (λ c. Lawful (tick_after later_five s functions nothing_yet c) script →
      count (c ∷ script) ≡ length xs → Rest 0 from [] [] [] (c ∷ script)) c law.0
      (λ law fits. out-then 0 from d.in_first script d.first_out (d.gives_first
      ∙ sym (ap (λ v. value_at v d.output) (value-first later xs (omega (arith, fits)))))
      (first-called script law fits)) law.1 fits

-- a system with this function answers every lawful script
answers : LoopFreeHasOneRun → (path : List ℕ) (s : Option ℕ) (later : List ℤ) (from : Cells) → RunsLike s later →
    Drives path s later from → ((needs : List ℕ) → AreTrueNeeds later_five s needs → functions_for needs ≡ functions) →
    AnswersScripts whole_program later_five 1 path s from
answers law path s later from like d one needs script xs run are lawful trace fits has =
    let same = one needs are in
    let count = (subst (λ fs. Fits later_five s fs xs script) same fits).one_row_each in
    subst (λ fs. DrivenFrom whole_program later_five 1 path s fs xs run 0 from [] [] [] script) (sym same)
    (subst (λ run. DrivenFrom whole_program later_five 1 path s functions xs run 0 from [] [] [] script)
    (sym (run-is law s later like xs run trace has))
    (from-start path s later from d xs script (subst (λ fs. IsLawfulFrom later_five s fs nothing_yet script) same lawful) (sym count)))

-- ---- The child

-- its fields: the delay, the Constant, y1, the memory and the counter
abbrev child_fields : (delayed constant y1 memory counter : ℤ) → Cells
child_fields delayed constant y1 memory counter =
    more_cells (number delayed)
    (more_cells (number constant)
    (more_cells (number y1) (more_cells (number memory) (more_cells (number counter) no_cells))))

-- fields of `root` with this output around those
abbrev around_child : (output : ℤ) → Cells → Cells
around_child output child =
    let top = more_cells (number (pos 0)) (more_cells (object child) (more_cells (number (pos 0)) no_cells)) in
    more_cells (number (pos 0)) (more_cells (number output) (more_cells (object top) no_cells))

child-first : HoldsAll (Some 0) first_values (child_fields (pos 0) (pos 5) (pos 0) (pos 5) (pos 0))
unfolding digits
child-first = record {
  here = record {
    values = (refl, (refl, (refl, tt)));
    memories = (refl, tt);
    rings = tt;
    trigger = λ h. absurd (true≢false (sym h));
    counters = (refl, tt);
  };
  inside = tt;
}

child-later : HoldsAll (Some 0) child_values (child_fields (pos 5) (pos 5) (pos 5) (pos 5) (pos 0))
unfolding digits
child-later = record {
  here = record {
    values = (refl, (refl, (refl, tt)));
    memories = (refl, tt);
    rings = tt;
    trigger = λ h. absurd (true≢false (sym h));
    counters = (refl, tt);
  };
  inside = tt;
}

abbrev pub child_begun : Cells
child_begun = child_fields (pos 0) (pos 0) (pos 0) (pos 0) (pos 0)

child-alone : Drives [] (Some 0) child_values child_begun
unfolding digits
child-alone = record {
  output = 3;
  inputs = refl;
  given = refl;
  in_first = child_fields (pos 0) (pos 0) (pos 0) (pos 0) (pos 1);
  second = child_fields (pos 0) (pos 5) (pos 0) (pos 5) (pos 0);
  in_later = child_fields (pos 5) (pos 5) (pos 5) (pos 5) (pos 1);
  third = child_fields (pos 5) (pos 5) (pos 5) (pos 5) (pos 0);
  out_log = record { path = []; procedure = 1 } ∷ [];
  update_log = record { path = []; procedure = 2 } ∷ [];
  out_stores = own 4 ∷ own 0 ∷ own 2 ∷ [];
  update_stores = own 1 ∷ own 3 ∷ own 4 ∷ [];
  first_out = (5, refl);
  first_update = (3, refl);
  second_out = (5, refl);
  later_update = (3, refl);
  third_out = (5, refl);
  gives_first = refl;
  gives_later = refl;
  holds_first = child-first;
  holds_later = child-later;
  inside = λ x v g. record {
    each = tt;
    stored_once = (lit≤ tt, (lit≤ tt, (lit≤ tt, tt)));
    inner_stored_once = tt;
    no_other = ((0, lit< tt, refl), ((0, lit< tt, refl), tt));
  };
}
  where
    own : ℕ → StoredField
    own f = record { path = []; field = f }

child-in-root : (output : ℤ) → Drives (2 ∷ 1 ∷ []) (Some 0) child_values (begun output)
unfolding digits
child-in-root output = record {
  output = 3;
  inputs = refl;
  given = refl;
  in_first = around_child output (child_fields (pos 0) (pos 0) (pos 0) (pos 0) (pos 1));
  second = around_child output (child_fields (pos 0) (pos 5) (pos 0) (pos 5) (pos 0));
  in_later = around_child output (child_fields (pos 5) (pos 5) (pos 5) (pos 5) (pos 1));
  third = around_child output (child_fields (pos 5) (pos 5) (pos 5) (pos 5) (pos 0));
  out_log = record { path = 2 ∷ 1 ∷ []; procedure = 1 } ∷ [];
  update_log = record { path = 2 ∷ 1 ∷ []; procedure = 2 } ∷ [];
  out_stores = in_child 4 ∷ in_child 0 ∷ in_child 2 ∷ [];
  update_stores = in_child 1 ∷ in_child 3 ∷ in_child 4 ∷ [];
  first_out = (5, refl);
  first_update = (3, refl);
  second_out = (5, refl);
  later_update = (3, refl);
  third_out = (5, refl);
  gives_first = refl;
  gives_later = refl;
  holds_first = child-first;
  holds_later = child-later;
  inside = λ x v g. record {
    each = tt;
    stored_once = (lit≤ tt, (lit≤ tt, (lit≤ tt, tt)));
    inner_stored_once = tt;
    no_other = ((0, lit< tt, refl), ((0, lit< tt, refl), tt));
  };
}

child-functions : ProfilesAreOne → (needs : List ℕ) → AreTrueNeeds later_five (Some 0) needs → functions_for needs ≡ functions
child-functions profiles needs are =
    ap (λ (p : SystemProfile). p.functions)
    (profiles later_five (Some 0) (record { row = Some 0; functions = functions_for needs }) child_profile
    (record { needs = needs; are_needs = are; row = refl; functions = refl }) child_is_profile)

pub child_scripts : LoopFreeHasOneRun → ProfilesAreOne → AnswersScripts whole_program later_five 1 [] (Some 0) child_begun
child_scripts law profiles =
    answers law [] (Some 0) child_values child_begun child-runs child-alone (child-functions profiles)

pub inner_scripts : LoopFreeHasOneRun → ProfilesAreOne → (output : ℤ) →
    AnswersScripts whole_program later_five 1 (path_to whole_program later_five.rows (Some 0)) (Some 0) (begun output)
unfolding digits
inner_scripts law profiles output =
    answers law (2 ∷ 1 ∷ []) (Some 0) child_values (begun output) child-runs (child-in-root output) (child-functions profiles)

pub child_answers : LoopFreeHasOneRun → ProfilesAreOne → AnswersAnyOrder whole_program later_five 1 (Some 0)
child_answers law profiles =
    subst (λ (o : Outcome). OnDone o
    (λ a. AnswersScripts whole_program later_five 1 (path_to whole_program later_five.rows (Some 0)) (Some 0) a.cells))
    (sym starts) (inner_scripts law profiles (pos 0))

-- ---- The root

-- fields of `top`: Out1, the child's, and the counter
abbrev top_fields : (out1 : ℤ) (child : Cells) (counter : ℤ) → Cells
top_fields out1 child counter = more_cells (number out1) (more_cells (object child) (more_cells (number counter) no_cells))

-- fields of `root` with this output around those
abbrev around_top : (output : ℤ) → Cells → Cells
around_top output top = more_cells (number (pos 0)) (more_cells (number output) (more_cells (object top) no_cells))

abbrev top_in_first : Cells
top_in_first = top_fields (pos 0) (child_fields (pos 0) (pos 0) (pos 0) (pos 0) (pos 1)) (pos 1)

abbrev top_second : Cells
top_second = top_fields (pos 0) (child_fields (pos 0) (pos 5) (pos 0) (pos 5) (pos 0)) (pos 0)

abbrev top_in_later : Cells
top_in_later = top_fields (pos 5) (child_fields (pos 5) (pos 5) (pos 5) (pos 5) (pos 1)) (pos 1)

abbrev top_third : Cells
top_third = top_fields (pos 5) (child_fields (pos 5) (pos 5) (pos 5) (pos 5) (pos 0)) (pos 0)

top-first : HoldsAll None first_values top_second
unfolding digits
top-first = record {
  here = record {
    values = (refl, tt);
    memories = tt;
    rings = tt;
    trigger = λ h. absurd (true≢false (sym h));
    counters = (refl, tt);
  };
  inside = (child-first.here, tt);
}

-- in the run of the root the child's rows have the values of its own run
top-later : HoldsAll None later_values top_third
unfolding digits
top-later = record {
  here = record {
    values = (refl, tt);
    memories = tt;
    rings = tt;
    trigger = λ h. absurd (true≢false (sym h));
    counters = (refl, tt);
  };
  inside = (
    record {
      values = (refl, (refl, (refl, tt)));
      memories = (refl, tt);
      rings = tt;
      trigger = λ h. absurd (true≢false (sym h));
      counters = (refl, tt);
    },
    tt,
  );
}

abbrev pub top_begun : Cells
top_begun = top_fields (pos 0) child_begun (pos 0)

top-alone : Drives [] None later_values top_begun
unfolding digits
top-alone = record {
  output = 4;
  inputs = refl;
  given = refl;
  in_first = top_in_first;
  second = top_second;
  in_later = top_in_later;
  third = top_third;
  out_log = record { path = []; procedure = 6 } ∷ record { path = 1 ∷ []; procedure = 1 } ∷ [];
  update_log = record { path = []; procedure = 7 } ∷ record { path = 1 ∷ []; procedure = 2 } ∷ [];
  out_stores = own 2 ∷ inner 4 ∷ inner 0 ∷ inner 2 ∷ own 0 ∷ [];
  update_stores = inner 1 ∷ inner 3 ∷ inner 4 ∷ own 2 ∷ [];
  first_out = (10, refl);
  first_update = (5, refl);
  second_out = (10, refl);
  later_update = (5, refl);
  third_out = (10, refl);
  gives_first = refl;
  gives_later = refl;
  holds_first = top-first;
  holds_later = top-later;
  inside = λ x v g. record {
    each = (record { outs = 1 ∷ []; each_once = IsPermutation-refl (1 ∷ []); then_update = refl }, tt);
    stored_once = (lit≤ tt, tt);
    inner_stored_once = ((lit≤ tt, (lit≤ tt, (lit≤ tt, tt))), tt);
    no_other = ((0, lit< tt, refl), ((1, lit< tt, refl), ((0, lit< tt, refl), ((1, lit< tt, refl), tt))));
  };
}
  where
    own : ℕ → StoredField
    own f = record { path = []; field = f }

    inner : ℕ → StoredField
    inner f = record { path = 1 ∷ []; field = f }

top-in-root : (output : ℤ) → Drives (2 ∷ []) None later_values (begun output)
unfolding digits
top-in-root output = record {
  output = 4;
  inputs = refl;
  given = refl;
  in_first = around_top output top_in_first;
  second = around_top output top_second;
  in_later = around_top output top_in_later;
  third = around_top output top_third;
  out_log = record { path = 2 ∷ []; procedure = 6 } ∷ record { path = 2 ∷ 1 ∷ []; procedure = 1 } ∷ [];
  update_log = record { path = 2 ∷ []; procedure = 7 } ∷ record { path = 2 ∷ 1 ∷ []; procedure = 2 } ∷ [];
  out_stores = at_top 2 ∷ in_child 4 ∷ in_child 0 ∷ in_child 2 ∷ at_top 0 ∷ [];
  update_stores = in_child 1 ∷ in_child 3 ∷ in_child 4 ∷ at_top 2 ∷ [];
  first_out = (10, refl);
  first_update = (5, refl);
  second_out = (10, refl);
  later_update = (5, refl);
  third_out = (10, refl);
  gives_first = refl;
  gives_later = refl;
  holds_first = top-first;
  holds_later = top-later;
  inside = λ x v g. record {
    each = (record { outs = 1 ∷ []; each_once = IsPermutation-refl (1 ∷ []); then_update = refl }, tt);
    stored_once = (lit≤ tt, tt);
    inner_stored_once = ((lit≤ tt, (lit≤ tt, (lit≤ tt, tt))), tt);
    no_other = ((0, lit< tt, refl), ((1, lit< tt, refl), ((0, lit< tt, refl), ((1, lit< tt, refl), tt))));
  };
}

top-functions : ProfilesAreOne → (needs : List ℕ) → AreTrueNeeds later_five None needs → functions_for needs ≡ functions
top-functions profiles needs are =
    ap (λ (p : SystemProfile). p.functions)
    (profiles later_five None (record { row = None; functions = functions_for needs }) top_profile
    (record { needs = needs; are_needs = are; row = refl; functions = refl }) top_is_profile)

pub top_scripts : LoopFreeHasOneRun → ProfilesAreOne → AnswersScripts whole_program later_five 1 [] None top_begun
top_scripts law profiles = answers law [] None later_values top_begun root-runs top-alone (top-functions profiles)

pub whole_scripts : LoopFreeHasOneRun → ProfilesAreOne → (output : ℤ) →
    AnswersScripts whole_program later_five 1 (path_to whole_program later_five.rows None) None (begun output)
unfolding digits
whole_scripts law profiles output =
    answers law (2 ∷ []) None later_values (begun output) root-runs (top-in-root output) (top-functions profiles)

pub top_answers : LoopFreeHasOneRun → ProfilesAreOne → AnswersAnyOrder whole_program later_five 1 None
top_answers law profiles =
    subst (λ (o : Outcome). OnDone o
    (λ a. AnswersScripts whole_program later_five 1 (path_to whole_program later_five.rows None) None a.cells))
    (sym starts) (whole_scripts law profiles (pos 0))
