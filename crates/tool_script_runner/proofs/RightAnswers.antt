-- What a driver of right code answers is what its system gives.
use Rattle.std.proofs.Common.{◌≡◌, ◌≢◌, refl, sym, ◌∙◌, ap, subst, ℕ, zero, suc, ◌+◌, ◌<◌, ◌≤◌, List, [], ◌∷◌, ◌++◌, length, map, take, append_assoc, arith}
use Rattle.std.specs.Prelude.{ℤ, ⊤, Option, Err, Result, slice_index_or}
use Rattle.std.specs.List.{AllByRecursion}
use Rattle.std.proofs.lemmas.List.{append-nil, length-take}
use Rattle.base_host.specs.Reading.{Source}
use Rattle.c_syntax.specs.declared.fault.Cost.{Cost}
use Rattle.c_syntax.specs.declared.fault.Stuck.{Stuck}
use Rattle.diagram_meaning.specs.Run.{value_at}
use Rattle.diagram_meaning.specs.Traces.{IsTraceRow}
use Rattle.diagram_meaning.specs.Laws.{Run, IsRunOver, LoopFreeHasOneRun, OutputRestsOnNeeds}
use Rattle.modules_profile.specs.Headers.{numbered_function, given_by_function}
use Rattle.diagram_meaning.specs.Rows.{outports_of, column}
use Rattle.right_claim.specs.Scripts.{Call, out_with, update_with, tick_count, AgreesFrom, HasGiven, given_by, number_after}
use Rattle.right_claim.specs.DriveLaws.{LawfulScriptsRun}
use Rattle.tool_driver.specs.declared.fault.DriveFault.TheVariants as drive
use Rattle.tool_driver.specs.States.{DriverState}
use Rattle.tool_driver.specs.Driven.{Driven, functions_of, updates, StandsFor, Tells, RunsOver, outputs_in}
use Rattle.tool_script_runner.specs.declared.outcome.ScriptFault.{ScriptFault}
use Rattle.tool_script_runner.specs.declared.outcome.ScriptFault.TheVariants as fault
use Rattle.tool_script_runner.specs.Answers.{Answered, calls_in, IsMade, Answers}
use Rattle.tool_script_runner.specs.Standings.{Standing}
use Rattle.tool_script_runner.specs.Runs.{RunsOver as RunsOverFile}
use Rattle.tool_script_runner.specs.Right.{IsGivenBy, AreGivenBy, AreTaken, AnswersAreRight, IsRightRun}

-- ---- A driver stands for the calls that it answered

-- an update reports nothing
abbrev TellsNothing : Call → List ℤ → Type 0
TellsNothing (out_with j values) outputs = ⊤
TellsNothing (update_with values) outputs = outputs ≡ []

-- each call reported what is right after the calls before it
abbrev TellRight : Driven → List Call → List Answered → Type 0
TellRight w script [] = ⊤
TellRight w script (a ∷ answers) =
    Tells w script a.call a.outputs × TellsNothing a.call a.outputs × TellRight w (script ++ a.call ∷ []) answers

nothing_told : (call : Call) (outputs : List ℤ) (cost : Cost) (d d' : DriverState) → IsMade call outputs cost d d' →
    TellsNothing call outputs
nothing_told (out_with j values) outputs cost d d' made = tt
nothing_told (update_with values) outputs cost d d' made = made.nothing

-- the driver stands for the script after which these calls came, and each was right
record StandsBehind (w : Driven) (script : List Call) (answers : List Answered) (d : DriverState) : Type 0 where
  stands : StandsFor w d (script ++ calls_in answers)
  told : TellRight w script answers
  taken : AreTaken w script answers

stands_behind : (w : Driven) (script : List Call) (answers : List Answered) (d d' : DriverState) → StandsFor w d script →
    Answers answers d d' → StandsBehind w script answers d'
stands_behind w script [] d d' stands none =
    record {
      stands = subst (λ e. StandsFor w e (script ++ [])) (sym none) (subst (StandsFor w d) (sym (append-nil script)) stands);
      told = tt;
      taken = tt;
    }
stands_behind w script (a ∷ answers) d d' stands some =
    let here = some.1.right w script stands in
    let more = stands_behind w (script ++ a.call ∷ []) answers some.0 d' here.stands some.2 in
    record {
      stands = subst (StandsFor w d') (append_assoc script (a.call ∷ []) (calls_in answers)) more.stands;
      told = (here.tells, nothing_told a.call a.outputs a.cost d some.0 some.1.made, more.told);
      taken = (here.takes, more.taken);
    }

-- ---- A trace that fits a script has a front that fits a front of it

row_in_front : (xs : List (List ℤ)) (t n : ℕ) → t < n → slice_index_or (take n xs) t [] ≡ slice_index_or xs t []
row_in_front xs t zero less = absurd (omega arith)
row_in_front [] t (suc n) less = refl
row_in_front (x ∷ xs) zero (suc n) less = refl
row_in_front (x ∷ xs) (suc t) (suc n) less = row_in_front xs t n (omega arith)

front_twice : (xs : List (List ℤ)) (t n : ℕ) → t ≤ n → take t xs ≡ take t (take n xs)
front_twice xs zero n less = refl
front_twice xs (suc t) zero less = absurd (omega arith)
front_twice [] (suc t) (suc n) less = refl
front_twice (x ∷ xs) (suc t) (suc n) less = ap (λ ys. x ∷ ys) (front_twice xs t n (omega arith))

all_in_front : (P : List ℤ → Type 0) (n : ℕ) (xs : List (List ℤ)) → AllByRecursion P xs → AllByRecursion P (take n xs)
all_in_front P zero xs each = tt
all_in_front P (suc n) [] each = tt
all_in_front P (suc n) (x ∷ xs) each = (each.0, all_in_front P n xs each.1)

module _ (w : Driven) where
  abbrev ticks : List Call → ℕ
  ticks script = tick_count w.diagram w.system (functions_of w) script

  ticks-more : (script more : List Call) → ticks script ≤ ticks (script ++ more)
  ticks-more [] more = omega arith
  ticks-more (out_with j values ∷ script) more = omega (arith, ticks-more script more)
  ticks-more (update_with values ∷ script) more = omega (arith, ticks-more script more)

  -- the tick of a call is one of its script
  ticks-out : (script : List Call) (j : ℕ) (values : List ℤ) → updates script < ticks (script ++ out_with j values ∷ [])
  ticks-out [] j values = omega arith
  ticks-out (out_with k others ∷ script) j values = omega (arith, ticks-out script j values)
  ticks-out (update_with others ∷ script) j values = omega (arith, ticks-out script j values)

  agrees_in_front : (n t : ℕ) (xs : List (List ℤ)) (script more : List Call) → t + ticks script ≤ n →
      AgreesFrom w.diagram w.system (functions_of w) t xs (script ++ more) →
      AgreesFrom w.diagram w.system (functions_of w) t (take n xs) script
  agrees_in_front n t xs [] more most agrees = tt
  agrees_in_front n t xs (out_with j values ∷ script) more most agrees = (
    subst (λ x. HasGiven w.diagram w.system (functions_of w) x (given_by w.diagram w.system (functions_of w) (out_with j values)))
        (sym (row_in_front xs t n (omega arith))) agrees.0,
    agrees_in_front n t xs script more (omega arith) agrees.1,
  )
  agrees_in_front n t xs (update_with values ∷ script) more most agrees = (
    subst (λ x. HasGiven w.diagram w.system (functions_of w) x (given_by w.diagram w.system (functions_of w) (update_with values)))
        (sym (row_in_front xs t n (omega arith))) agrees.0,
    agrees_in_front n (suc t) xs script more (omega arith) agrees.1,
  )

  -- a run over the front of a trace that fits the front of a script
  front_run : LoopFreeHasOneRun → (xs : List (List ℤ)) (run : Run) (script more : List Call) → RunsOver w (script ++ more) xs run →
      (other : Run) × RunsOver w script (take (ticks script) xs) other
  front_run one_run xs run script more over =
      let one = one_run w.diagram w.system (take (ticks script) xs) w.no_loop in (
        one.run,
        record {
          is_trace = all_in_front (IsTraceRow w.diagram w.system) (ticks script) xs over.is_trace;
          fits = record {
            one_row_each = length-take (ticks script) xs ∙ omega (arith, over.fits.one_row_each, ticks-more script more);
            agrees = agrees_in_front (ticks script) 0 xs script more (omega arith) over.fits.agrees;
          };
          is_run = one.is_run;
        },
      )

  same_outputs : OutputRestsOnNeeds → (xs : List (List ℤ)) (n : ℕ) (run other : Run) (t j : ℕ) → t < n → n ≤ length xs →
      IsRunOver w.diagram w.system xs run →
      IsRunOver w.diagram w.system (take n xs) other → outputs_in w other t j ≡ outputs_in w run t j
  same_outputs rests xs n run other t j less most is_run is_other =
      each (given_by_function (numbered_function (functions_of w) j) (outports_of w.diagram.rows w.system))
    where
      each : (os : List ℕ) → map (value_at (slice_index_or other.values t [])) os ≡ map (value_at (slice_index_or run.values t [])) os
      each [] = refl
      each (o ∷ os) =
          let size : t < length (take n xs) = omega (arith, length-take n xs, less, most) in
          let same =
          rests w.diagram w.system xs (take n xs) run other t o w.no_loop is_run is_other (omega arith) size
          (front_twice xs t n (omega arith))
          (λ p needed. ap (λ x. value_at x (column w.diagram.rows w.system p)) (sym (row_in_front xs t n less))) in
          λ i. sym same i ∷ each os i

  given_whole : LoopFreeHasOneRun → OutputRestsOnNeeds → (xs : List (List ℤ)) (run : Run) (script : List Call) (answers : List Answered) →
      RunsOver w (script ++ calls_in answers) xs run →
      TellRight w script answers → AreGivenBy w run (updates script) answers
  given_whole one_run rests xs run script [] over told = tt
  given_whole one_run rests xs run script (a ∷ answers) over told =
      let whole : script ++ (a.call ∷ calls_in answers) ≡ (script ++ a.call ∷ []) ++ calls_in answers =
      sym (append_assoc script (a.call ∷ []) (calls_in answers)) in
      let next : RunsOver w ((script ++ a.call ∷ []) ++ calls_in answers) xs run = subst (λ s. RunsOver w s xs run) whole over in (
        given_one one_run rests xs run script a.call (calls_in answers) a.outputs next told.0 told.1,
        subst (λ t. AreGivenBy w run t answers) (updates-one script a.call)
            (given_whole one_run rests xs run (script ++ a.call ∷ []) answers next told.2),
      )
    where
      given_one : LoopFreeHasOneRun → OutputRestsOnNeeds →
          (xs : List (List ℤ)) (run : Run) (script : List Call) (call : Call) (more : List Call) (outputs : List ℤ) →
          RunsOver w ((script ++ call ∷ []) ++ more) xs run → Tells w script call outputs → TellsNothing call outputs →
          IsGivenBy w run (updates script) call outputs
      given_one one_run rests xs run script (out_with j values) more outputs over tells nothing =
          let n = ticks (script ++ out_with j values ∷ []) in
          let front = front_run one_run xs run (script ++ out_with j values ∷ []) more over in
          tells (take n xs) front.0 front.1
          ∙ same_outputs rests xs n run front.0 (updates script) j (ticks-out script j values)
          (omega (arith, over.fits.one_row_each, ticks-more (script ++ out_with j values ∷ []) more)) over.is_run front.1.is_run
      given_one one_run rests xs run script (update_with values) more outputs over tells nothing = nothing

      updates-one : (script : List Call) (call : Call) →
          updates (script ++ call ∷ []) ≡ number_after w.diagram w.system (functions_of w) (updates script) call
      updates-one [] (out_with j values) = refl
      updates-one [] (update_with values) = refl
      updates-one (out_with k others ∷ script) (out_with j values) = updates-one script (out_with j values)
      updates-one (out_with k others ∷ script) (update_with values) = updates-one script (update_with values)
      updates-one (update_with others ∷ script) (out_with j values) = ap suc (updates-one script (out_with j values))
      updates-one (update_with others ∷ script) (update_with values) = ap suc (updates-one script (update_with values))

-- ---- The laws

pub answers_right : LoopFreeHasOneRun → OutputRestsOnNeeds → LawfulScriptsRun → AnswersAreRight
answers_right one_run rests lawful w answers d d' stands some =
    let behind = stands_behind w [] answers d d' stands some in
    let one = lawful w.diagram w.system (functions_of w) (calls_in answers) w.no_loop behind.stands.lawful in
    record {
      stands = behind.stands;
      given = λ xs run over. given_whole w one_run rests xs run [] answers over behind.told;
      some = record { trace = one.0; one = one.3; over = record { is_trace = one.1; fits = one.2; is_run = one.3.is_run } };
      taken = behind.taken;
    }

-- a run of a script isn't stuck
never_stuck : (w : Driven) (result : Result (Unit {0}) ScriptFault) (rest rest' : Source) (s s' : Standing) →
    StandsFor w s.driver [] → RunsOverFile result rest rest' s s' →
    (line : ℕ) (at : Stuck) → result ≢ Err (fault.Call (record { line = line; why = drive.Stuck at }))
never_stuck w result rest rest' s s' stands over line at is =
    let over_stuck = subst (λ r. RunsOverFile r rest rest' s s') is over in
    let stop = over_stuck.ends in
    let behind = stands_behind w [] stop.front.answers s.driver stop.before stands stop.run.answered.answered in
    stop.refuses.refused.right w (calls_in stop.front.answers) behind.stands

pub right_run : AnswersAreRight → (w : Driven) (result : Result (Unit {0}) ScriptFault) (rest rest' : Source) (s s' : Standing) →
    RunsOverFile result rest rest' s s' →
    StandsFor w s.driver [] → IsRightRun w result s.driver s'.driver
right_run law w result rest rest' s s' over stands = record {
  never_stuck = never_stuck w result rest rest' s s' stands over;
  right = λ answers some. law w answers s.driver s'.driver stands some;
}
