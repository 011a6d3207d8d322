-- Where a host is sure just of the files that are there, an error of reading says that one that is needed is not.
use Rattle.std.proofs.Common.{◌≡◌, ◌≢◌, ℕ, ◌⊎◌, inl, inr, List, refl, sym, ap, subst, ◌∙◌, arith}
use Rattle.std.specs.Prelude.{false, Option, Some, None, IsSomeAnd, is_some}
use Rattle.std.proofs.lemmas.Bool.Decides.{eqb_tells}
use Rattle.base_host.specs.Files.{File, lookup}
use Rattle.c_syntax.specs.Tree.{ProgramTree}
use Rattle.c_semantics.specs.Machine.{After, Outcome, done, stuck}
use Rattle.c_semantics.specs.Rows.{start_run}
use Rattle.c_reading_laws.specs.Agreement.{ReadingsAgree}
use Rattle.diagram_meaning.specs.ResolvedTable.{ResolvedTable}
use Rattle.lustre_reading_laws.specs.ReadingLaws.{TextsAreJudged}
use Rattle.tool_system_driver.specs.Words.{system_named}
use Rattle.tool_endings.specs.declared.ending.Ending.{Ending}
use Rattle.tool_endings.specs.declared.ending.Ending.TheVariants.{ReadFault}
use Rattle.tool_words.specs.Words.{Asked, Compile, Run, Exec, Profile, Drive, Gen, Lustre, Flow}
use Rattle.tool_endings.specs.Told.{HostTold, SinkTold}
use Rattle.tool_endings.specs.EndingsOfRuns.{EndsRunUnread, EndsExecUnread, LosesTrace, LosesTraceOf}
use Rattle.tool_endings.specs.EndingsOfDriving.{EndsDriveUnread, LosesScript}
use Rattle.tool_endings.specs.EndingsOfFlows.{EndsFlowUnread, LosesFlows}
use Rattle.tool_endings.specs.Endings.{Finds, EndsAt}
use Rattle.tool_compiled.specs.Compilation.{root_types}
use Rattle.tool_endings.specs.Runs.{bad_line}
use Rattle.tool_endings.specs.Statuses.{run_status, ModelComes, ProgramComes, SystemComes, CodeComes, DriveComes, FlowComes, Comes, OnTold}
use Rattle.tool_endings.specs.Completeness.{LacksOne}
use Rattle.tool_endings.proofs.lemmas.Files.{IfTold, named, told_one, told_any, told-map}
use Rattle.tool_ending_laws.specs.Laws.{SureOfThere, IsNeeded}
use Rattle.tool_ending_laws.proofs.FaultStatuses.{only_read}
use Rattle.tool_ending_laws.proofs.EndingLaws.{SaysFound, says_found}
use Rattle.tool_ending_laws.proofs.OneAnswer.{OneVerdict, accepted_only, same_resolution, read_only}

-- ---- A file that isn't there

absent : (o : Option (List ℕ)) → is_some o ≡ false → o ≡ None
absent None none = refl
absent (Some bytes) none = cc

none-there : (o : Option (List ℕ)) (P : List ℕ → Type 0) → o ≡ None → IsSomeAnd o P → ⊥
none-there o P none some = subst (λ (x : Option (List ℕ)). IsSomeAnd x P) none some

both-there : (o : Option (List ℕ)) (P Q : List ℕ → Type 0) → IsSomeAnd o P → IsSomeAnd o Q →
    ((bytes : List ℕ) → P bytes → Q bytes → ⊥) → ⊥
both-there None P Q p q f = p
both-there (Some bytes) P Q p q f = f bytes p q

-- the first file isn't there
unread : (name : List ℕ) (h : HostTold) (fs : List File) (P : List ℕ → Type 0) → h.sure name ≡ false → SureOfThere h fs →
    IsSomeAnd (lookup name fs) P → ⊥
unread name h fs P unsure sure there = none-there (lookup name fs) P (absent (lookup name fs) (sym (sure name) ∙ unsure)) there

-- the first is, so that the second isn't
second-gone : (first second : List ℕ) (fs : List File) (P : List ℕ → Type 0) → IsSomeAnd (lookup first fs) P →
    (lookup first fs ≡ None) ⊎ (lookup second fs ≡ None) → lookup second fs ≡ None
second-gone first second fs P there (inl none) = absurd (none-there (lookup first fs) P none there)
second-gone first second fs P there (inr none) = none

-- ---- By command

abbrev RunComes : List ℕ → List ℕ → List File → ℕ → Type 0
RunComes bytes trace fs n =
    ModelComes bytes n (λ d. IsSomeAnd (lookup trace fs) (λ lines. n ≡ run_status None (bad_line (root_types d) lines)))

program-none : (p : ProgramTree) (o : Outcome) (after : After) (trace : Option (List ℕ)) (n : ℕ) → o ≡ done after → trace ≡ None →
    ProgramComes p o trace n → ⊥
program-none p (done a) after trace n is none comes = none-there trace _ none comes.2
program-none p (stuck at cells) after trace n is none comes = absurd (never is)
  where
    never : stuck at cells ≡ done after → ⊥
    never e = cc

code-none : ReadingsAgree → (code trace bytes : List ℕ) (fs : List File) (h h' : HostTold) (b b' : SinkTold) (n : ℕ) →
    LosesTraceOf trace bytes h h' b b' → lookup trace fs ≡ None → CodeComes bytes (lookup trace fs) n → ⊥
code-none agree code trace bytes fs h h' b b' n loses none (inl long) =
    let fits = loses.starts.fits in let over = long.0 in absurd (omega (arith, fits, over))
code-none agree code trace bytes fs h h' b b' n loses none (inr (inl fault)) =
    agree.apart bytes loses.starts.program fault.1.0 loses.starts.reading fault.1.1
code-none agree code trace bytes fs h h' b b' n loses none (inr (inr found)) =
    let p : ProgramTree = found.1.0 in
    let same : loses.starts.program ≡ p = agree.one bytes loses.starts.program p loses.starts.reading found.1.1 in
    program-none p (start_run p) loses.starts.after (lookup trace fs) n (ap start_run (sym same) ∙ loses.starts.start) none found.1.2

system-none : (r : ResolvedTable) (found : Option (Option ℕ)) (system : Option ℕ) (script : Option (List ℕ)) (n : ℕ) →
    found ≡ Some system → script ≡ None → SystemComes r found script n → ⊥
system-none r None system script n is none comes = absurd (never is)
  where
    never : None ≡ Some system → ⊥
    never e = cc
system-none r (Some other) system script n is none comes = none-there script _ none comes.2

drive-none : OneVerdict → (word script code bytes : List ℕ) (fs : List File) (h h' : HostTold) (b b' : SinkTold) (n : ℕ) →
    LosesScript word script code bytes h h' b b' → lookup script fs ≡ None → DriveComes bytes word (lookup script fs) n → ⊥
drive-none one word script code bytes fs h h' b b' n loses none (inl refused) =
    accepted_only one bytes loses.written.whole.resolved refused.0 loses.written.whole.verdict refused.1
drive-none one word script code bytes fs h h' b b' n loses none (inr accepted) =
    let w = loses.written in
    let same : w.whole.resolved ≡ accepted.0 = same_resolution one bytes w.whole.resolved accepted.0 w.whole.verdict accepted.1 in
    system-none accepted.0 (system_named accepted.0.table.rows word) w.driven.system (lookup script fs) n
    (ap (λ (x : ResolvedTable). system_named x.table.rows word) (sym same) ∙ w.named) none accepted.2

flow-none : TextsAreJudged → (trace bytes : List ℕ) (fs : List File) (h h' : HostTold) (b b' : SinkTold) (n : ℕ) →
    LosesFlows trace bytes h h' b b' → lookup trace fs ≡ None → FlowComes bytes (lookup trace fs) n → ⊥
flow-none judged trace bytes fs h h' b b' n loses none (inl long) =
    let fits = loses.file.fits in let over = long.0 in absurd (omega (arith, fits, over))
flow-none judged trace bytes fs h h' b b' n loses none (inr (inl fault)) =
    read_only judged bytes loses.file.tree fault.1.0 loses.file.reading fault.1.1
flow-none judged trace bytes fs h h' b b' n loses none (inr (inr found)) = none-there (lookup trace fs) _ none found.1

-- with such files what is asked for comes to no status
abbrev ToNothing : Asked → HostTold → Type 0
ToNothing a h = IfTold h.files h.rest (λ fs. SureOfThere h fs → IsNeeded a fs)

first-unread : (a : Asked) (name : List ℕ) (h : HostTold) (P : ℕ → List File → List ℕ → Type 0) → h.sure name ≡ false →
    ((n : ℕ) (fs : List File) → Comes a fs n → IsSomeAnd (lookup name fs) (P n fs)) → ToNothing a h
first-unread a name h P unsure looks =
    told_any h.files h.rest (λ fs sure lacks n comes. unread name h fs (P n fs) unsure sure (looks n fs comes))

run-nothing : OneVerdict → (model code trace : List ℕ) (h h' : HostTold) (b b' : SinkTold) → EndsRunUnread model code trace h h' b b' →
    ToNothing (Run model code trace) h
run-nothing one model code trace h h' b b' (inl ends) =
    first-unread (Run model code trace) model h _ ends.0.unsure (λ n fs comes. comes)
run-nothing one model code trace h h' b b' (inr ends) =
    told_one h.files h.rest model (named h model ends.1) (λ fs there sure lacks n comes.
    both-there (lookup model fs) (λ bytes. LosesTrace trace code bytes h h' b b') _ there comes
    (λ bytes loses comes. by fs bytes n loses (second-gone model trace fs _ there lacks) comes))
  where
    by : (fs : List File) (bytes : List ℕ) (n : ℕ) → LosesTrace trace code bytes h h' b b' → lookup trace fs ≡ None →
        RunComes bytes trace fs n → ⊥
    by fs bytes n loses none (inl refused) = accepted_only one bytes loses.whole.resolved refused.0 loses.whole.verdict refused.1
    by fs bytes n loses none (inr accepted) = none-there (lookup trace fs) _ none accepted.2

exec-nothing : ReadingsAgree → (code trace : List ℕ) (h h' : HostTold) (b b' : SinkTold) → EndsExecUnread code trace h h' b b' →
    ToNothing (Exec code trace) h
exec-nothing agree code trace h h' b b' (inl ends) =
    first-unread (Exec code trace) code h _ ends.0.unsure (λ n fs comes. comes)
exec-nothing agree code trace h h' b b' (inr ends) =
    told_one h.files h.rest code (named h code ends.2) (λ fs there sure lacks n comes.
    both-there (lookup code fs) (λ bytes. LosesTraceOf trace bytes h h' b b') _ there comes
    (λ bytes loses comes. code-none agree code trace bytes fs h h' b b' n loses (second-gone code trace fs _ there lacks) comes))

drive-nothing : OneVerdict → (model code word script : List ℕ) (h h' : HostTold) (b b' : SinkTold) →
    EndsDriveUnread model code word script h h' b b' → ToNothing (Drive model code word script) h
drive-nothing one model code word script h h' b b' (inl ends) =
    first-unread (Drive model code word script) model h _ ends.0.unsure (λ n fs comes. comes)
drive-nothing one model code word script h h' b b' (inr ends) =
    told_one h.files h.rest model (named h model ends.1) (λ fs there sure lacks n comes.
    both-there (lookup model fs) (λ bytes. LosesScript word script code bytes h h' b b') _ there comes
    (λ bytes loses comes. drive-none one word script code bytes fs h h' b b' n loses (second-gone model script fs _ there lacks) comes))

flow-nothing : TextsAreJudged → (file trace : List ℕ) (h h' : HostTold) (b b' : SinkTold) → EndsFlowUnread file trace h h' b b' →
    ToNothing (Flow file trace) h
flow-nothing judged file trace h h' b b' (inl ends) = first-unread (Flow file trace) file h _ ends.0.unsure (λ n fs comes. comes)
flow-nothing judged file trace h h' b b' (inr ends) =
    told_one h.files h.rest file (named h file ends.2) (λ fs there sure lacks n comes.
    both-there (lookup file fs) (λ bytes. LosesFlows trace bytes h h' b b') _ there comes
    (λ bytes loses comes. flow-none judged trace bytes fs h h' b b' n loses (second-gone file trace fs _ there lacks) comes))

fault-nothing : OneVerdict → ReadingsAgree → TextsAreJudged → (a : Asked) (h h' : HostTold) (b b' : SinkTold) →
    Finds ReadFault (Some a) h h' b b' → ToNothing a h
fault-nothing one agree judged (Compile model code) h h' b b' ends =
    first-unread (Compile model code) model h _ ends.0.unsure (λ n fs comes. comes)
fault-nothing one agree judged (Run model code trace) h h' b b' ends = run-nothing one model code trace h h' b b' ends
fault-nothing one agree judged (Exec code trace) h h' b b' ends = exec-nothing agree code trace h h' b b' ends
fault-nothing one agree judged (Profile model) h h' b b' ends = first-unread (Profile model) model h _ ends.0.unsure (λ n fs comes. comes)
fault-nothing one agree judged (Drive model code word script) h h' b b' ends = drive-nothing one model code word script h h' b b' ends
fault-nothing one agree judged (Gen start size model code) h h' b b' ends = absurd ends
fault-nothing one agree judged (Lustre model file) h h' b b' ends =
    first-unread (Lustre model file) model h _ ends.0.unsure (λ n fs comes. comes)
fault-nothing one agree judged (Flow file trace) h h' b b' ends = flow-nothing judged file trace h h' b b' ends

-- ---- By status

pub five_to_nothing : OneVerdict → ReadingsAgree → TextsAreJudged → (s : ℕ) (a : Option Asked) (h h' : HostTold) (b b' : SinkTold) →
    EndsAt s a h h' b b' → OnTold a h (λ a fs. s ≡ 5 → SureOfThere h fs → IsNeeded a fs)
five_to_nothing one agree judged s None h h' b b' e = tt
five_to_nothing one agree judged s (Some a) h h' b b' e = by (eqb_tells s 5)
  where
    by : {A B : Type 0} → (A × (s ≡ 5)) ⊎ (B × (s ≢ 5)) → OnTold (Some a) h (λ a fs. s ≡ 5 → SureOfThere h fs → IsNeeded a fs)
    by (inr other) = told_any h.files h.rest (λ fs five. absurd (other.1 five))
    by (inl is) =
        let five : s ≡ 5 = is.1 in
        let f : SaysFound s (Some a) h h' b b' =
        says_found s (Some a) h h' b b' e (λ seven. omega (arith, five, seven)) (λ ten. omega (arith, five, ten)) in
        told-map h.files h.rest (fault-nothing one agree judged a h h' b f.before
        (subst (λ (x : Ending). Finds x (Some a) h h' b f.before) (only_read f.found (sym f.status ∙ five)) f.ends.finds))
        (λ fs needed again. needed)
