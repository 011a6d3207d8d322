-- Runs through a script's text, line by line and piece by piece.
use Rattle.std.proofs.Common.{◌≡◌, ◌≢◌, refl, sym, ◌∙◌, ap, subst, ℕ, ◌+◌, ◌-◌, List, [], ◌∷◌, ◌++◌, length, take, drop, inl, inr, append_assoc, arith}
use Rattle.std.specs.Prelude.{Option, None, Some, Result, Ok, Err, MatchResult}
use Rattle.std.specs.Io.KnownBytes.{append_known}
use Rattle.std.proofs.lemmas.List.{append-nil, length-append, take-append-drop}
use Rattle.std.proofs.Math.Seq.{take-add}
use Rattle.base_host.specs.Files.{PutsFront}
use Rattle.tool_stream.proofs.lemmas.Waiting.{flushed, cut}
use Rattle.right_claim.specs.Scripts.{Call}
use Rattle.tool_driver.specs.States.{DriverState}
use Rattle.tool_scripts.specs.declared.walk.BadCall.{BadCall}
use Rattle.tool_scripts.specs.Scripts.{Script}
use Rattle.tool_scripts.specs.Pieces.{calls_after, with_calls, WritesCalls, BeginsBadly, IsNextCall, IsLastCall}
use Rattle.tool_scripts.proofs.lemmas.PieceLaws.{none_written, both_written}
use Rattle.tool_script_runner.specs.declared.outcome.ScriptFault.{ScriptFault}
use Rattle.tool_script_runner.specs.declared.outcome.ScriptFault.TheVariants.{Read, Out, Line as BadScript, Call as Refused, Memory}
use Rattle.tool_script_runner.specs.declared.run.Run.{Run}
use Rattle.tool_script_runner.specs.Answers.{Answered, calls_in}
use Rattle.tool_script_runner.specs.Texts.{answers_text}
use Rattle.tool_script_runner.specs.Standings.{Standing}
use Rattle.tool_script_runner.specs.Runs.{RefusesOrNot}
use Rattle.tool_script_runner.specs.Walks.{inside, IsFilled, GoesOn, StopsOn, Runs, RunsThrough, RunsLines, RunsToEnd, RunsToLine, RunsToOut, RunsTo}
use Rattle.tool_script_runner.proofs.Answering.{calls-append, calls-length, both_counted, none_run, both_run, both_cut, one_run, one_text}

-- ---- Runs through whole lines

pub none_through : (counts : List ℕ) (all count : ℕ) (s : Standing) → RunsThrough [] counts all count count s s
none_through counts all count s = record {
  answers = [];
  writes = none_written counts all count;
  size = omega arith;
  runs = none_run s;
}

pub both_through : (text more counts : List ℕ) (all n n' n'' : ℕ) (s s' s'' : Standing) → RunsThrough text counts all n n' s s' →
    RunsThrough more counts all n' n'' s' s'' →
    RunsThrough (text ++ more) counts all n n'' s s''
both_through text more counts all n n' n'' s s' s'' first second =
    let start : n' ≡ n + length (calls_in first.answers) = first.size ∙ ap (λ k. n + k) (sym (calls-length first.answers)) in
    record {
      answers = first.answers ++ second.answers;
      writes =
          subst (WritesCalls (text ++ more) counts all n) (sym (calls-append first.answers second.answers))
          (both_written text more counts all n (calls_in first.answers) (calls_in second.answers) first.writes
          (subst (λ k. WritesCalls more counts all k (calls_in second.answers)) start second.writes));
      size = omega (arith, first.size, second.size, length-append first.answers second.answers);
      runs = both_run first.answers second.answers s s' s'' first.runs second.runs;
    }

one_through : (text counts : List ℕ) (all n : ℕ) (call : Call) (s s' : Standing) → WritesCalls text counts all n (call ∷ []) →
    GoesOn call s s' →
    RunsThrough text counts all n (n + 1) s s'
one_through text counts all n call s s' writes next = record {
  answers = next.answer ∷ [];
  writes = subst (λ c. WritesCalls text counts all n (c ∷ [])) (sym next.of_call) writes;
  size = refl;
  runs = one_run call s s' next;
}

-- one line further in a text
pub further : (text counts : List ℕ) (all n n' n'' at after : ℕ) (call : Call) (s s' s'' : Standing) →
    RunsThrough (take at text) counts all n n' s s' →
    IsNextCall text counts all n' at after call → GoesOn call s' s'' → n'' ≡ n' + 1 → RunsThrough (take after text) counts all n n'' s s''
further text counts all n n' n'' at after call s s' s'' so_far next goes one =
    let on = next.goes_on in
    let sum : at + (after - at) ≡ after = omega (arith, on) in
    let parts : take at text ++ take (after - at) (drop at text) ≡ take after text =
    sym (take-add at (after - at) text) ∙ ap (λ k. take k text) sum in
    subst (λ k. RunsThrough (take after text) counts all n k s s'') (sym one)
    (subst (λ t. RunsThrough t counts all n (n' + 1) s s'') parts
    (both_through (take at text) (take (after - at) (drop at text)) counts all n n' (n' + 1) s s' s'' so_far
    (one_through (take (after - at) (drop at text)) counts all n' call s' s'' next.writes goes)))

-- ---- What ends a run

parts_behind : (xs ys : List Answered) (behind calls : List Call) → calls ≡ calls_in ys ++ behind →
    calls_in xs ++ calls ≡ calls_in (xs ++ ys) ++ behind
parts_behind xs ys behind calls parts =
    ap (λ cs. calls_in xs ++ cs) parts ∙ sym (append_assoc (calls_in xs) (calls_in ys) behind)
    ∙ ap (λ cs. cs ++ behind) (sym (calls-append xs ys))

-- after some calls
stops_behind : (fault : ScriptFault) (n : ℕ) (script : Script) (xs : List Answered) (s s' s'' : Standing) → Runs xs s s' →
    RunsTo fault (n + length xs) script s' s'' → RunsTo fault n (with_calls (calls_in xs) script) s s''
stops_behind Read n script xs s s' s'' runs stop = absurd stop
stops_behind Out n script xs s s' s'' runs stop = record {
  front = record {
    answers = xs ++ stop.front.answers;
    behind = stop.front.behind;
    parts = parts_behind xs stop.front.answers stop.front.behind script.calls stop.front.parts;
  };
  before = stop.before;
  answered = both_counted xs stop.front.answers s.driver s'.driver stop.before s.totals s'.totals s''.totals runs.answered stop.answered;
  last = stop.last;
  put = both_cut xs stop.front.answers s s' s'' runs stop.put;
}
stops_behind (BadScript bad) n script xs s s' s'' runs stop = record {
  first_bad = stop.first_bad;
  answers = xs ++ stop.answers;
  calls = ap (λ cs. calls_in xs ++ cs) stop.calls ∙ sym (calls-append xs stop.answers);
  runs = both_run xs stop.answers s s' s'' runs stop.runs;
}
stops_behind (Refused refused) n script xs s s' s'' runs stop = record {
  front = record {
    answers = xs ++ stop.front.answers;
    behind = stop.front.behind;
    parts = parts_behind xs stop.front.answers stop.front.behind script.calls stop.front.parts;
  };
  line = omega (arith, stop.line, length-append xs stop.front.answers);
  before = stop.before;
  runs = both_run xs stop.front.answers s s' (record s'' { driver = stop.before }) runs stop.runs;
  refuses = stop.refuses;
}
stops_behind Memory n script xs s s' s'' runs stop = absurd stop

ends_behind : (script : Script) (xs : List Answered) (s s' s'' : Standing) → Runs xs s s' → RunsToEnd script s' s'' →
    RunsToEnd (with_calls (calls_in xs) script) s s''
ends_behind script xs s s' s'' runs end = record {
  calls_only = end.calls_only;
  answers = xs ++ end.answers;
  calls = ap (λ cs. calls_in xs ++ cs) end.calls ∙ sym (calls-append xs end.answers);
  runs = both_run xs end.answers s s' s'' runs end.runs;
}

-- the calls of a text after one that was run through
calls_behind_text : (head text counts : List ℕ) (all n n' : ℕ) (s s' : Standing) (through : RunsThrough head counts all n n' s s') →
    with_calls (calls_in through.answers) (calls_after n' counts all text) ≡ calls_after n counts all (head ++ text)
calls_behind_text head text counts all n n' s s' through =
    ap (λ k. with_calls (calls_in through.answers) (calls_after k counts all text))
    (through.size ∙ ap (λ k. n + k) (sym (calls-length through.answers)))
    ∙ sym (through.writes.every text)

pub stops_in : (fault : ScriptFault) (head text counts : List ℕ) (all n n' : ℕ) (s s' s'' : Standing) →
    RunsThrough head counts all n n' s s' →
    RunsTo fault n' (calls_after n' counts all text) s' s'' → RunsTo fault n (calls_after n counts all (head ++ text)) s s''
stops_in fault head text counts all n n' s s' s'' through stop =
    subst (λ t. RunsTo fault n t s s'') (calls_behind_text head text counts all n n' s s' through)
    (stops_behind fault n (calls_after n' counts all text) through.answers s s' s'' through.runs
    (subst (λ k. RunsTo fault k (calls_after n' counts all text) s' s'') through.size stop))

pub ends_in : (head text counts : List ℕ) (all n n' : ℕ) (s s' s'' : Standing) → RunsThrough head counts all n n' s s' →
    RunsToEnd (calls_after n' counts all text) s' s'' → RunsToEnd (calls_after n counts all (head ++ text)) s s''
ends_in head text counts all n n' s s' s'' through end =
    subst (λ t. RunsToEnd t s s'') (calls_behind_text head text counts all n n' s s' through)
    (ends_behind (calls_after n' counts all text) through.answers s s' s'' through.runs end)

-- a first line that is no call
pub bad_stop : (bad : BadCall) (script : Script) (s : Standing) → script ≡ record { calls = []; bad = Some bad } → RunsToLine bad script s s
bad_stop bad script s is = record {
  first_bad = ap (λ (t : Script). t.bad) is;
  answers = [];
  calls = ap (λ (t : Script). t.calls) is;
  runs = none_run s;
}

-- a first call that ends the run
call_stop : (fault : ScriptFault) (n : ℕ) (call : Call) (rest script : Script) (s s' : Standing) → script ≡ with_calls (call ∷ []) rest →
    StopsOn fault n call s s' → RunsTo fault n script s s'
call_stop Read n call rest script s s' is stop = absurd stop
call_stop Out n call rest script s s' is stop = record {
  front = record {
    answers = stop.answer ∷ [];
    behind = rest.calls;
    parts = ap (λ (t : Script). t.calls) is ∙ ap (λ c. c ∷ rest.calls) (sym stop.of_call);
  };
  before = s'.driver;
  answered = stop.answered;
  last = inl refl;
  put = subst (λ t. PutsFront s.put s'.put (s.waiting ++ t)) (one_text call stop.answer stop.of_call) stop.put;
}
call_stop (BadScript bad) n call rest script s s' is stop = absurd stop
call_stop (Refused refused) n call rest script s s' is stop = record {
  front = record { answers = []; behind = call ∷ rest.calls; parts = ap (λ (t : Script). t.calls) is };
  line = omega (arith, stop.refuses.line);
  before = s.driver;
  runs = still s s' stop.totals stop.put stop.waiting;
  refuses = record { call = call; behind = rest.calls; parts = refl; refused = stop.refuses.refuses };
}
  where
    still : (s s' : Standing) → s'.totals ≡ s.totals → s'.put ≡ s.put → s'.waiting ≡ s.waiting → Runs [] s (record s' { driver = s.driver })
    still s s' totals put waiting =
        let same : s ≡ record s' { driver = s.driver } = λ i.
        record { driver = s.driver; totals = sym totals i; put = sym put i; waiting = sym waiting i } in
        subst (Runs [] s) same (none_run s)
call_stop Memory n call rest script s s' is stop = absurd stop

-- ---- In a text of which a front was run through

parted : (text behind : List ℕ) (at : ℕ) → take at text ++ (drop at text ++ behind) ≡ text ++ behind
parted text behind at = sym (append_assoc (take at text) (drop at text) behind) ∙ ap (λ t. t ++ behind) (take-append-drop at text)

pub bad_in : (bad : BadCall) (text behind counts : List ℕ) (all n n' at : ℕ) (s s' : Standing) →
    RunsThrough (take at text) counts all n n' s s' →
    BeginsBadly bad (drop at text) counts all n' → RunsTo (BadScript bad) n (calls_after n counts all (text ++ behind)) s s'
bad_in bad text behind counts all n n' at s s' through begins =
    subst (λ t. RunsTo (BadScript bad) n (calls_after n counts all t) s s') (parted text behind at)
    (stops_in (BadScript bad) (take at text) (drop at text ++ behind) counts all n n' s s' s' through (bad_stop bad _ s' (begins behind)))

pub call_in : (fault : ScriptFault) (text behind counts : List ℕ) (all n n' at after : ℕ) (call : Call) (s s' s'' : Standing) →
    RunsThrough (take at text) counts all n n' s s' →
    IsNextCall text counts all n' at after call → StopsOn fault n' call s' s'' →
    RunsTo fault n (calls_after n counts all (text ++ behind)) s s''
call_in fault text behind counts all n n' at after call s s' s'' through next stop =
    let rest = drop (after - at) (drop at text) ++ behind in
    let whole : calls_after n' counts all (drop at text ++ behind) ≡ with_calls (call ∷ []) (calls_after (n' + 1) counts all rest) =
    ap (calls_after n' counts all) (sym (parted (drop at text) behind (after - at))) ∙ next.writes.every rest in
    subst (λ t. RunsTo fault n (calls_after n counts all t) s s'') (parted text behind at)
    (stops_in fault (take at text) (drop at text ++ behind) counts all n n' s s' s'' through
    (call_stop fault n' call (calls_after (n' + 1) counts all rest) _ s' s'' whole stop))

-- ---- A last line

pub nothing_last : (script : Script) (s : Standing) → script ≡ record { calls = []; bad = None } → RunsToEnd script s s
nothing_last script s is = record {
  calls_only = ap (λ (t : Script). t.bad) is;
  answers = [];
  calls = ap (λ (t : Script). t.calls) is;
  runs = none_run s;
}

-- how a last line ends
abbrev pub EndsLast : Result (Unit {0}) ScriptFault → ℕ → Script → (s s' : Standing) → Type 0
EndsLast ran n script s s' = MatchResult ran (λ _. RunsToEnd script s s') (λ fault. RunsTo fault n script s s')

pub call_last : (text counts : List ℕ) (all n : ℕ) (call : Call) (s s' : Standing) (result : Result (Unit {0}) ScriptFault) →
    IsLastCall text counts all n call →
    MatchResult result (λ _. GoesOn call s s') (λ fault. StopsOn fault n call s s') → EndsLast result n (calls_after n counts all text) s s'
call_last text counts all n call s s' (Ok value) last next = record {
  calls_only = ap (λ (t : Script). t.bad) last.calls;
  answers = next.answer ∷ [];
  calls = ap (λ (t : Script). t.calls) last.calls ∙ ap (λ c. c ∷ []) (sym next.of_call);
  runs = one_run call s s' next;
}
call_last text counts all n call s s' (Err fault) last stop =
    call_stop fault n call (record { calls = []; bad = None }) (calls_after n counts all text) s s' last.calls stop

-- ---- What waits is printed at the end

-- the same place, with this printed and this waiting
abbrev pub put_at : Standing → Option (List ℕ) → List ℕ → Standing
put_at s put waiting = record { driver = s.driver; totals = s.totals; put = put; waiting = waiting }

flushed_runs : (xs : List Answered) (s s' : Standing) (put : Option (List ℕ)) (waiting : List ℕ) → put ≡ append_known s'.put s'.waiting →
    waiting ≡ [] → Runs xs s s' →
    Runs xs s (put_at s' put waiting)
flushed_runs xs s s' put waiting is none runs = record {
  answered = record { answered = runs.answered.answered; totals = runs.answered.totals };
  lines = flushed s.waiting s'.waiting waiting (answers_text xs) s.put s'.put put runs.lines is none;
}

flushed_stop : (fault : ScriptFault) (n : ℕ) (script : Script) (s s' : Standing) (put : Option (List ℕ)) (waiting : List ℕ) →
    put ≡ append_known s'.put s'.waiting → waiting ≡ [] →
    fault ≢ Out → RunsTo fault n script s s' → RunsTo fault n script s (put_at s' put waiting)
flushed_stop Read n script s s' put waiting is none other stop = absurd stop
flushed_stop Out n script s s' put waiting is none other stop = absurd (other refl)
flushed_stop (BadScript bad) n script s s' put waiting is none other stop = record {
  first_bad = stop.first_bad;
  answers = stop.answers;
  calls = stop.calls;
  runs = flushed_runs stop.answers s s' put waiting is none stop.runs;
}
flushed_stop (Refused refused) n script s s' put waiting is none other stop = record {
  front = stop.front;
  line = stop.line;
  before = stop.before;
  runs = flushed_runs stop.front.answers s (record s' { driver = stop.before }) put waiting is none stop.runs;
  refuses = stop.refuses;
}
flushed_stop Memory n script s s' put waiting is none other stop = absurd stop

-- a front of what waited was printed, after calls that end a script or are followed by these
cut_runs : (xs : List Answered) (script : Script) (behind : List Call) (before : DriverState) (s s' : Standing) (put : Option (List ℕ))
    (waiting : List ℕ) →
    script.calls ≡ calls_in xs ++ behind → RefusesOrNot behind before s'.driver → PutsFront s'.put put s'.waiting →
    Runs xs s (record s' { driver = before }) →
    RunsToOut script s (put_at s' put waiting)
cut_runs xs script behind before s s' put waiting parts last front runs = record {
  front = record { answers = xs; behind = behind; parts = parts };
  before = before;
  answered = record { answered = runs.answered.answered; totals = runs.answered.totals };
  last = last;
  put = cut s.waiting s'.waiting (answers_text xs) s.put s'.put put runs.lines front;
}

cut_stop : (fault : ScriptFault) (n : ℕ) (script : Script) (s s' : Standing) (put : Option (List ℕ)) (waiting : List ℕ) →
    PutsFront s'.put put s'.waiting → fault ≢ Out →
    RunsTo fault n script s s' → RunsToOut script s (put_at s' put waiting)
cut_stop Read n script s s' put waiting front other stop = absurd stop
cut_stop Out n script s s' put waiting front other stop = absurd (other refl)
cut_stop (BadScript bad) n script s s' put waiting front other stop =
    cut_runs stop.answers script [] s'.driver s s' put waiting (stop.calls ∙ sym (append-nil (calls_in stop.answers)))
    (inl refl) front stop.runs
cut_stop (Refused refused) n script s s' put waiting front other stop =
    cut_runs stop.front.answers script stop.front.behind stop.before s s' put waiting stop.front.parts
    (inr (refused.why, stop.refuses)) front stop.runs
cut_stop Memory n script s s' put waiting front other stop = absurd stop

-- how the whole lines of a text end, whatever follows it
abbrev pub EndsLines : Result ℕ ScriptFault → (text counts : List ℕ) (all n n' : ℕ) (s s' : Standing) → Type 0
EndsLines ran text counts all n n' s s' =
    MatchResult ran (λ done. RunsLines done text counts all n n' s s')
    (λ fault. (behind : List ℕ) → RunsTo fault n (calls_after n counts all (text ++ behind)) s s')

other_fault : (T : Type 0) (fault : ScriptFault) → (let failed : Result T ScriptFault = Err fault in failed ≢ Err Out) → fault ≢ Out
other_fault T fault other is = other (ap (λ f. Err f) is)

pub lines_flushed : (ran : Result ℕ ScriptFault) (text counts : List ℕ) (all n n' : ℕ) (s s' : Standing) (put : Option (List ℕ))
    (waiting : List ℕ) →
    put ≡ append_known s'.put s'.waiting → waiting ≡ [] → ran ≢ Err Out → EndsLines ran text counts all n n' s s' →
    EndsLines ran text counts all n n' s (put_at s' put waiting)
lines_flushed (Ok done) text counts all n n' s s' put waiting is none other ends = record {
  within = ends.within;
  through = record {
    answers = ends.through.answers;
    writes = ends.through.writes;
    size = ends.through.size;
    runs = flushed_runs ends.through.answers s s' put waiting is none ends.through.runs;
  };
  none = ends.none;
  rest = ends.rest;
}
lines_flushed (Err fault) text counts all n n' s s' put waiting is none other ends = λ behind.
    flushed_stop fault n (calls_after n counts all (text ++ behind)) s s' put waiting is none (other_fault ℕ fault other) (ends behind)

pub lines_cut : (ran : Result ℕ ScriptFault) (text behind counts : List ℕ) (all n n' : ℕ) (s s' : Standing) (put : Option (List ℕ))
    (waiting : List ℕ) →
    PutsFront s'.put put s'.waiting → ran ≢ Err Out → EndsLines ran text counts all n n' s s' →
    RunsToOut (calls_after n counts all (text ++ behind)) s (put_at s' put waiting)
lines_cut (Ok done) text behind counts all n n' s s' put waiting front other ends =
    let answers = ends.through.answers in
    let rest = calls_after (n + length (calls_in answers)) counts all (drop done text ++ behind) in
    cut_runs answers (calls_after n counts all (text ++ behind)) rest.calls s'.driver s s' put waiting
    (ap (λ t. (calls_after n counts all t).calls) (sym (parted text behind done))
    ∙ ap (λ (t : Script). t.calls) (ends.through.writes.every (drop done text ++ behind)))
    (inl refl) front ends.through.runs
lines_cut (Err fault) text behind counts all n n' s s' put waiting front other ends =
    cut_stop fault n (calls_after n counts all (text ++ behind)) s s' put waiting front (other_fault ℕ fault other) (ends behind)

pub last_flushed : (ran : Result (Unit {0}) ScriptFault) (n : ℕ) (script : Script) (s s' : Standing) (put : Option (List ℕ))
    (waiting : List ℕ) →
    put ≡ append_known s'.put s'.waiting → waiting ≡ [] → ran ≢ Err Out → EndsLast ran n script s s' →
    EndsLast ran n script s (put_at s' put waiting)
last_flushed (Ok value) n script s s' put waiting is none other ends = record {
  calls_only = ends.calls_only;
  answers = ends.answers;
  calls = ends.calls;
  runs = flushed_runs ends.answers s s' put waiting is none ends.runs;
}
last_flushed (Err fault) n script s s' put waiting is none other ends =
    flushed_stop fault n script s s' put waiting is none (other_fault (Unit {0}) fault other) ends

pub last_cut : (ran : Result (Unit {0}) ScriptFault) (n : ℕ) (script : Script) (s s' : Standing) (put : Option (List ℕ))
    (waiting : List ℕ) →
    PutsFront s'.put put s'.waiting → ran ≢ Err Out → EndsLast ran n script s s' → RunsToOut script s (put_at s' put waiting)
last_cut (Ok value) n script s s' put waiting front other ends =
    cut_runs ends.answers script [] s'.driver s s' put waiting (ends.calls ∙ sym (append-nil (calls_in ends.answers)))
    (inl refl) front ends.runs
last_cut (Err fault) n script s s' put waiting front other ends =
    cut_stop fault n script s s' put waiting front (other_fault (Unit {0}) fault other) ends

-- a result that hands an error on
pub handed : (ran : Result ℕ ScriptFault) (fault : ScriptFault) (text counts : List ℕ) (all n n' : ℕ) (s s' : Standing) → ran ≡ Err fault →
    ((behind : List ℕ) → RunsTo fault n (calls_after n counts all (text ++ behind)) s s') → EndsLines ran text counts all n n' s s'
handed ran fault text counts all n n' s s' is stop =
    subst (λ (r : Result ℕ ScriptFault). EndsLines r text counts all n n' s s') (sym is) stop

-- ---- A call that was read into its room

-- the run is where it was
pub same_place : (driver : DriverState) (run run' : Run) (put : Option (List ℕ)) → IsFilled run run' →
    inside driver run put ≡ inside driver run' put
same_place driver run run' put filled = λ i.
    record { driver = driver; totals = sym filled.totals i; put = put; waiting = sym filled.lines i }

-- ---- A last line that was read

pub last_answered : (text counts : List ℕ) (all : ℕ) (call : Call) (driver : DriverState) (run run' : Run) (put : Option (List ℕ))
    (s' : Standing) (result : Result (Unit {0}) ScriptFault) →
    IsFilled run run' → IsLastCall text counts all run.done call →
    MatchResult result (λ _. GoesOn call (inside driver run' put) s') (λ fault. StopsOn fault run'.done call (inside driver run' put) s') →
    EndsLast result run.done (calls_after run.done counts all text) (inside driver run put) s'
last_answered text counts all call driver run run' put s' result filled last next =
    subst (λ s. EndsLast result run.done (calls_after run.done counts all text) s s') (sym (same_place driver run run' put filled))
    (subst (λ n. EndsLast result n (calls_after n counts all text) (inside driver run' put) s') filled.done
    (call_last text counts all run'.done call (inside driver run' put) s' result
    (subst (λ n. IsLastCall text counts all n call) (sym filled.done) last) next))

pub last_none : (script : Script) (driver : DriverState) (run run' : Run) (put : Option (List ℕ)) → IsFilled run run' →
    script ≡ record { calls = []; bad = None } →
    RunsToEnd script (inside driver run put) (inside driver run' put)
last_none script driver run run' put filled is =
    subst (RunsToEnd script (inside driver run put)) (same_place driver run run' put filled)
    (nothing_last script (inside driver run put) is)

pub last_bad : (bad : BadCall) (script : Script) (driver : DriverState) (run run' : Run) (put : Option (List ℕ)) → IsFilled run run' →
    script ≡ record { calls = []; bad = Some bad } →
    RunsToLine bad script (inside driver run put) (inside driver run' put)
last_bad bad script driver run run' put filled is =
    subst (RunsToLine bad script (inside driver run put)) (same_place driver run run' put filled)
    (bad_stop bad script (inside driver run put) is)

-- ---- A whole line that was read

pub through_filled : (text counts : List ℕ) (all n : ℕ) (driver : DriverState) (run run' : Run) (put : Option (List ℕ)) (s : Standing) →
    IsFilled run run' →
    RunsThrough text counts all n run.done s (inside driver run put) → RunsThrough text counts all n run'.done s (inside driver run' put)
through_filled text counts all n driver run run' put s filled through =
    subst (RunsThrough text counts all n run'.done s) (same_place driver run run' put filled)
    (subst (λ k. RunsThrough text counts all n k s (inside driver run put)) (sym filled.done) through)

pub next_filled : (text counts : List ℕ) (room all at after : ℕ) (call : Call) (run run' : Run) → room ≡ all → IsFilled run run' →
    IsNextCall text counts room run.done at after call → IsNextCall text counts all run'.done at after call
next_filled text counts room all at after call run run' same filled next =
    subst (λ k. IsNextCall text counts all k at after call) (sym filled.done)
    (subst (λ k. IsNextCall text counts k run.done at after call) same next)

pub bad_filled : (bad : BadCall) (text counts : List ℕ) (room all : ℕ) (run run' : Run) → room ≡ all → IsFilled run run' →
    BeginsBadly bad text counts room run.done → BeginsBadly bad text counts all run'.done
bad_filled bad text counts room all run run' same filled begins =
    subst (BeginsBadly bad text counts all) (sym filled.done) (subst (λ k. BeginsBadly bad text counts k run.done) same begins)
