-- What follows from the way in which a call of the tool ended.
use Rattle.std.proofs.Common.{◌≡◌, ◌≢◌, ℕ, inl, inr, List, refl, sym, ap, subst, ◌∙◌, arith}
use Rattle.std.specs.Prelude.{Option, Some, None}
use Rattle.base_host.specs.Faults.{Rose, IsCalm}
use Rattle.tool_endings.specs.declared.ending.Ending.{Ending}
use Rattle.tool_endings.specs.declared.ending.Ending.TheVariants.{Compiled, Ran, Reported, Noded, Flowed, Usage, Refused, BadTrace, BadScript, CodeRefused, CodeTooLong, Stuck as IsStuck, LustreRefused, LustreTooLong, LustreLong, FlowStuck, ReadFault, WriteFault, PutFault, NoMemory}
use Rattle.tool_words.specs.Words.{Asked, Compile, Run, Exec, Profile, Drive, Gen, Lustre, Flow}
use Rattle.tool_endings.specs.Told.{HostTold, SinkTold, NoFault}
use Rattle.tool_endings.specs.declared.ending.ScriptStop.TheVariants.{NoSubsystem, Line, Call}
use Rattle.tool_endings.specs.EndingsOfRuns.{EndsRunUnread, EndsExecUnread}
use Rattle.tool_endings.specs.EndingsOfDriving.{EndsDriveUnread}
use Rattle.tool_endings.specs.EndingsOfFlows.{EndsFlowUnread}
use Rattle.tool_endings.specs.Endings.{status_of, text_of, EndsUnasked, Finds, CountsPuts, Ends, EndsAt, IsFaultless, IsSaidOf, PutsWhole, Puts}
use Rattle.tool_endings.specs.Statuses.{TellsNoFault, IsPlain}
use Rattle.tool_endings.specs.Headline.{Calm}
use Rattle.tool_endings.specs.Calls.{KeepsCounts}
use Rattle.tool_ending_laws.proofs.FaultStatuses.{only_read, only_write, only_put}

-- ---- The ending whose text was printed

-- an ending that was found, and whose text was printed whole
pub record SaysFound (s : ℕ) (a : Option Asked) (h h' : HostTold) (b b' : SinkTold) : Type 0 where
  pub found : Ending
  pub before : SinkTold
  pub ends : Ends found a h h' b before
  pub status : s ≡ status_of found
  pub whole : PutsWhole (text_of found) before b'

-- so a call ends, but where memory runs out or something isn't printed
pub says_found : (s : ℕ) (a : Option Asked) (h h' : HostTold) (b b' : SinkTold) → EndsAt s a h h' b b' → s ≢ 7 →
    s ≢ 10 → SaysFound s a h h' b b'
says_found s a h h' b b' e put fed = by e.found e.said e.before e.ends e.says e.puts
  where
    by : (found said : Ending) (before : SinkTold) → Ends found a h h' b before → IsSaidOf said found →
        Puts said s before b' → SaysFound s a h h' b b'
    by found said before ends (inl same) (inl (is, whole)) = record {
      found = found;
      before = before;
      ends = ends;
      status = is ∙ ap status_of same;
      whole = subst (λ (x : Ending). PutsWhole (text_of x) before b') same whole;
    }
    by found said before ends (inr none) (inl (is, whole)) = absurd (fed (is ∙ ap status_of none.0))
    by found said before ends says (inr (seven, part)) = absurd (put seven)

-- ---- Counts of errors

-- except for errors, no count of the host rose: by command
unasked-calm : (e : Ending) (h h' : HostTold) → EndsUnasked e h h' → NoFault h h'
unasked-calm Usage h h' ends = ends.no_fault
unasked-calm NoMemory h h' ends = ends.no_fault
unasked-calm _ h h' ends = absurd ends

compile-calm : (e : Ending) (model code : List ℕ) (h h' : HostTold) (b b' : SinkTold) → Finds e (Some (Compile model code)) h h' b b' →
    IsFaultless e → NoFault h h'
compile-calm (Compiled rows systems functions) model code h h' b b' ends plain = ends.0.no_fault
compile-calm (Refused refusal) model code h h' b b' ends plain = ends.0.no_fault
compile-calm ReadFault model code h h' b b' ends plain = absurd (plain.no_read_fault refl)
compile-calm WriteFault model code h h' b b' ends plain = absurd (plain.no_write_fault refl)
compile-calm NoMemory model code h h' b b' ends plain = ends.0.no_fault
compile-calm _ model code h h' b b' ends plain = absurd ends.0

run-calm : (e : Ending) (model code trace : List ℕ) (h h' : HostTold) (b b' : SinkTold) →
    Finds e (Some (Run model code trace)) h h' b b' → IsFaultless e → NoFault h h'
run-calm (Ran totals) model code trace h h' b b' ends plain = ends.no_fault
run-calm (BadTrace line) model code trace h h' b b' ends plain = ends.no_fault
run-calm (Refused refusal) model code trace h h' b b' ends plain = ends.0.no_fault
run-calm ReadFault model code trace h h' b b' ends plain = absurd (plain.no_read_fault refl)
run-calm WriteFault model code trace h h' b b' ends plain = absurd (plain.no_write_fault refl)
run-calm PutFault model code trace h h' b b' ends plain = absurd (plain.no_put_fault refl)
run-calm NoMemory model code trace h h' b b' ends plain = ends.0.no_fault
run-calm _ model code trace h h' b b' ends plain = absurd ends

exec-calm : (e : Ending) (code trace : List ℕ) (h h' : HostTold) (b b' : SinkTold) → Finds e (Some (Exec code trace)) h h' b b' →
    IsFaultless e → NoFault h h'
exec-calm (Ran totals) code trace h h' b b' ends plain = ends.left.no_fault
exec-calm (BadTrace line) code trace h h' b b' ends plain = ends.left.no_fault
exec-calm (CodeRefused fault) code trace h h' b b' ends plain = ends.left.no_fault
exec-calm CodeTooLong code trace h h' b b' ends plain = ends.left.no_fault
exec-calm (IsStuck at) code trace h h' b b' (inl ends) plain = ends.left.no_fault
exec-calm (IsStuck at) code trace h h' b b' (inr ends) plain = ends.left.no_fault
exec-calm ReadFault code trace h h' b b' ends plain = absurd (plain.no_read_fault refl)
exec-calm PutFault code trace h h' b b' ends plain = absurd (plain.no_put_fault refl)
exec-calm NoMemory code trace h h' b b' ends plain = ends.0.no_fault
exec-calm _ code trace h h' b b' ends plain = absurd ends

profile-calm : (e : Ending) (model : List ℕ) (h h' : HostTold) (b b' : SinkTold) → Finds e (Some (Profile model)) h h' b b' →
    IsFaultless e → NoFault h h'
profile-calm (Reported text) model h h' b b' ends plain = ends.0.left.no_fault
profile-calm (Refused refusal) model h h' b b' ends plain = ends.0.no_fault
profile-calm ReadFault model h h' b b' ends plain = absurd (plain.no_read_fault refl)
profile-calm NoMemory model h h' b b' ends plain = ends.0.no_fault
profile-calm _ model h h' b b' ends plain = absurd ends.0

drive-calm : (e : Ending) (model code word script : List ℕ) (h h' : HostTold) (b b' : SinkTold) →
    Finds e (Some (Drive model code word script)) h h' b b' → IsFaultless e → NoFault h h'
drive-calm (Ran totals) model code word script h h' b b' ends plain = ends.no_fault
drive-calm (BadScript NoSubsystem) model code word script h h' b b' ends plain = ends.left.no_fault
drive-calm (BadScript (Line bad)) model code word script h h' b b' ends plain = ends.no_fault
drive-calm (BadScript (Call refused)) model code word script h h' b b' ends plain = ends.no_fault
drive-calm (Refused refusal) model code word script h h' b b' ends plain = ends.0.no_fault
drive-calm ReadFault model code word script h h' b b' ends plain = absurd (plain.no_read_fault refl)
drive-calm WriteFault model code word script h h' b b' ends plain = absurd (plain.no_write_fault refl)
drive-calm PutFault model code word script h h' b b' ends plain = absurd (plain.no_put_fault refl)
drive-calm NoMemory model code word script h h' b b' ends plain = ends.0.no_fault
drive-calm _ model code word script h h' b b' ends plain = absurd ends

generate-calm : (e : Ending) (start size : ℕ) (model code : List ℕ) (h h' : HostTold) (b b' : SinkTold) →
    Finds e (Some (Gen start size model code)) h h' b b' → IsFaultless e → NoFault h h'
generate-calm (Ran totals) start size model code h h' b b' ends plain = ends.no_fault
generate-calm (Refused refusal) start size model code h h' b b' ends plain = ends.0.left.no_fault
generate-calm WriteFault start size model code h h' b b' ends plain = absurd (plain.no_write_fault refl)
generate-calm PutFault start size model code h h' b b' ends plain = absurd (plain.no_put_fault refl)
generate-calm NoMemory start size model code h h' b b' ends plain = ends.no_fault
generate-calm _ start size model code h h' b b' ends plain = absurd ends

lustre-calm : (e : Ending) (model file : List ℕ) (h h' : HostTold) (b b' : SinkTold) → Finds e (Some (Lustre model file)) h h' b b' →
    IsFaultless e → NoFault h h'
lustre-calm (Noded nodes) model file h h' b b' ends plain = ends.0.no_fault
lustre-calm (Refused refusal) model file h h' b b' ends plain = ends.0.no_fault
lustre-calm (LustreLong place) model file h h' b b' ends plain = ends.0.left.no_fault
lustre-calm ReadFault model file h h' b b' ends plain = absurd (plain.no_read_fault refl)
lustre-calm WriteFault model file h h' b b' ends plain = absurd (plain.no_write_fault refl)
lustre-calm NoMemory model file h h' b b' ends plain = ends.0.no_fault
lustre-calm _ model file h h' b b' ends plain = absurd ends.0

flow-calm : (e : Ending) (file trace : List ℕ) (h h' : HostTold) (b b' : SinkTold) → Finds e (Some (Flow file trace)) h h' b b' →
    IsFaultless e → NoFault h h'
flow-calm (Flowed ticks) file trace h h' b b' ends plain = ends.left.no_fault
flow-calm (BadTrace line) file trace h h' b b' ends plain = ends.left.no_fault
flow-calm (FlowStuck at) file trace h h' b b' ends plain = ends.left.no_fault
flow-calm (LustreRefused fault) file trace h h' b b' ends plain = ends.left.no_fault
flow-calm LustreTooLong file trace h h' b b' ends plain = ends.left.no_fault
flow-calm ReadFault file trace h h' b b' ends plain = absurd (plain.no_read_fault refl)
flow-calm PutFault file trace h h' b b' ends plain = absurd (plain.no_put_fault refl)
flow-calm NoMemory file trace h h' b b' ends plain = ends.0.no_fault
flow-calm _ file trace h h' b b' ends plain = absurd ends

host-calm : (e : Ending) (a : Option Asked) (h h' : HostTold) (b b' : SinkTold) → Finds e a h h' b b' → IsFaultless e → NoFault h h'
host-calm e None h h' b b' ends plain = unasked-calm e h h' ends.0
host-calm e (Some (Compile model code)) h h' b b' ends plain = compile-calm e model code h h' b b' ends plain
host-calm e (Some (Run model code trace)) h h' b b' ends plain = run-calm e model code trace h h' b b' ends plain
host-calm e (Some (Exec code trace)) h h' b b' ends plain = exec-calm e code trace h h' b b' ends plain
host-calm e (Some (Profile model)) h h' b b' ends plain = profile-calm e model h h' b b' ends plain
host-calm e (Some (Drive model code word script)) h h' b b' ends plain = drive-calm e model code word script h h' b b' ends plain
host-calm e (Some (Gen start size model code)) h h' b b' ends plain = generate-calm e start size model code h h' b b' ends plain
host-calm e (Some (Lustre model file)) h h' b b' ends plain = lustre-calm e model file h h' b b' ends plain
host-calm e (Some (Flow file trace)) h h' b b' ends plain = flow-calm e file trace h h' b b' ends plain

-- no error of printing was counted but where a line wasn't printed
same-puts : (e : Ending) (b b' : SinkTold) → e ≢ PutFault → CountsPuts e b b' → b'.faults ≡ b.faults
same-puts PutFault b b' other counts = absurd (other refl)
same-puts _ b b' other counts = counts

faultless-end : (e : Ending) → TellsNoFault (status_of e) → IsFaultless e
faultless-end e calm = record {
  no_read_fault = λ same. calm.no_read_fault (ap status_of same);
  no_write_fault = λ same. calm.no_write_fault (ap status_of same);
  no_put_fault = λ same. calm.no_put_fault (ap status_of same);
}

-- with a status that reports no error, none was found
found-faultless : (found said : Ending) (s : ℕ) (b b' : SinkTold) → IsSaidOf said found → Puts said s b b' → TellsNoFault s →
    IsFaultless found × (b'.faults ≡ b.faults)
found-faultless found said s b b' (inl same) (inl (is, whole)) calm =
    (faultless-end found (subst TellsNoFault (is ∙ ap status_of same) calm), whole.no_fault)
found-faultless found said s b b' (inr none) (inl (is, whole)) calm = (none.1, whole.no_fault)
found-faultless found said s b b' says (inr (seven, part)) calm = absurd (calm.no_put_fault seven)

pub no_count : (s : ℕ) (a : Option Asked) (h h' : HostTold) (b b' : SinkTold) → EndsAt s a h h' b b' → TellsNoFault s →
    KeepsCounts h h' b b'
no_count s a h h' b b' e calm =
    let f : IsFaultless e.found × (b'.faults ≡ e.before.faults) = found-faultless e.found e.said s e.before b' e.says e.puts calm in
    let host : NoFault h h' = host-calm e.found a h h' b e.before e.ends.finds f.0 in
    record { host = host; puts = f.1 ∙ same-puts e.found b e.before f.0.no_put_fault e.ends.counts }

-- ---- Errors are counted

read-rose : (a : Option Asked) (h h' : HostTold) (b b' : SinkTold) → Finds ReadFault a h h' b b' → Rose h.read_faults h'.read_faults
read-rose None h h' b b' ends = absurd ends.0
read-rose (Some (Compile model code)) h h' b b' ends = ends.0.rose
read-rose (Some (Run model code trace)) h h' b b' ends = unread ends
  where
    unread : EndsRunUnread model code trace h h' b b' → Rose h.read_faults h'.read_faults
    unread (inl u) = u.0.rose
    unread (inr u) = u.0
read-rose (Some (Exec code trace)) h h' b b' ends = unread ends
  where
    unread : EndsExecUnread code trace h h' b b' → Rose h.read_faults h'.read_faults
    unread (inl u) = u.0.rose
    unread (inr u) = u.0
read-rose (Some (Profile model)) h h' b b' ends = ends.0.rose
read-rose (Some (Drive model code word script)) h h' b b' ends = unread ends
  where
    unread : EndsDriveUnread model code word script h h' b b' → Rose h.read_faults h'.read_faults
    unread (inl u) = u.0.rose
    unread (inr u) = u.0
read-rose (Some (Gen start size model code)) h h' b b' ends = absurd ends
read-rose (Some (Lustre model file)) h h' b b' ends = ends.0.rose
read-rose (Some (Flow file trace)) h h' b b' ends = unread ends
  where
    unread : EndsFlowUnread file trace h h' b b' → Rose h.read_faults h'.read_faults
    unread (inl u) = u.0.rose
    unread (inr u) = u.0

write-rose : (a : Option Asked) (h h' : HostTold) (b b' : SinkTold) → Finds WriteFault a h h' b b' → Rose h.write_faults h'.write_faults
write-rose None h h' b b' ends = absurd ends.0
write-rose (Some (Exec code trace)) h h' b b' ends = absurd ends
write-rose (Some (Profile model)) h h' b b' ends = absurd ends.0
write-rose (Some (Flow file trace)) h h' b b' ends = absurd ends
write-rose _ h h' b b' ends = ends.0.rose

-- a count that rose after the lines rose in the call
rises : (e : Ending) (b before : SinkTold) (now : ℕ) → CountsPuts e b before → Rose before.faults now → Rose b.faults now
rises PutFault b before now counts rose = omega (arith, counts, rose)
rises _ b before now counts rose = omega (arith, counts, rose)

pub read_fault : (s : ℕ) (a : Option Asked) (h h' : HostTold) (b b' : SinkTold) → EndsAt s a h h' b b' → s ≡ 5 →
    Rose h.read_faults h'.read_faults
read_fault s a h h' b b' e five =
    let f : SaysFound s a h h' b b' = says_found s a h h' b b' e (λ seven. omega (arith, five, seven)) (λ ten. omega (arith, five, ten)) in
    read-rose a h h' b f.before (subst (λ (x : Ending). Finds x a h h' b f.before) (only_read f.found (sym f.status ∙ five)) f.ends.finds)

pub write_fault : (s : ℕ) (a : Option Asked) (h h' : HostTold) (b b' : SinkTold) → EndsAt s a h h' b b' → s ≡ 6 →
    Rose h.write_faults h'.write_faults
write_fault s a h h' b b' e six =
    let f : SaysFound s a h h' b b' = says_found s a h h' b b' e (λ seven. omega (arith, six, seven)) (λ ten. omega (arith, six, ten)) in
    write-rose a h h' b f.before (subst (λ (x : Ending). Finds x a h h' b f.before) (only_write f.found (sym f.status ∙ six)) f.ends.finds)

pub put_fault : (s : ℕ) (a : Option Asked) (h h' : HostTold) (b b' : SinkTold) → EndsAt s a h h' b b' → s ≡ 7 → Rose b.faults b'.faults
put_fault s a h h' b b' e seven = by e.found e.said e.before e.ends.counts e.says e.puts
  where
    by : (found said : Ending) (before : SinkTold) → CountsPuts found b before → IsSaidOf said found →
        Puts said s before b' → Rose b.faults b'.faults
    by found said before counts (inl same) (inl (is, whole)) =
        let rose : Rose b.faults before.faults =
        subst (λ (x : Ending). CountsPuts x b before) (sym same ∙ only_put said (sym is ∙ seven)) counts in
        subst (λ (n : ℕ). Rose b.faults n) (sym whole.no_fault) rose
    by found said before counts (inr none) (inl (is, whole)) =
        let ten : status_of said ≡ 10 = ap status_of none.0 in absurd (omega arith)
    by found said before counts says (inr (is, part)) = rises found b before b'.faults counts part.rose

-- ---- Where no count rises

-- a count that rose is not calm
not-calm : (before now : ℕ) → Rose before now → IsCalm before now → ⊥
not-calm before now rose calm = let same = calm.same in let below = calm.below in omega arith

pub no_read : (s : ℕ) (a : Option Asked) (h h' : HostTold) (b b' : SinkTold) → EndsAt s a h h' b b' →
    IsCalm h.read_faults h'.read_faults → s ≢ 5
no_read s a h h' b b' e calm five = not-calm h.read_faults h'.read_faults (read_fault s a h h' b b' e five) calm

pub no_write : (s : ℕ) (a : Option Asked) (h h' : HostTold) (b b' : SinkTold) → EndsAt s a h h' b b' →
    IsCalm h.write_faults h'.write_faults → s ≢ 6
no_write s a h h' b b' e calm six = not-calm h.write_faults h'.write_faults (write_fault s a h h' b b' e six) calm

pub no_put : (s : ℕ) (a : Option Asked) (h h' : HostTold) (b b' : SinkTold) → EndsAt s a h h' b b' → IsCalm b.faults b'.faults → s ≢ 7
no_put s a h h' b b' e calm seven = not-calm b.faults b'.faults (put_fault s a h h' b b' e seven) calm

-- then the status is no error's
pub calm_plain : (s : ℕ) (a : Option Asked) (h h' : HostTold) (b b' : SinkTold) → EndsAt s a h h' b b' → Calm h h' b b' → s ≢ 10 → IsPlain s
calm_plain s a h h' b b' e calm fed = record {
  no_read_fault = no_read s a h h' b b' e calm.reads;
  no_write_fault = no_write s a h h' b b' e calm.writes;
  no_put_fault = no_put s a h h' b b' e calm.puts;
  no_want_of_memory = fed;
}
