-- Commands that write nothing, and that nothing is written where a model is refused, or has a delay that is too long for Lustre.
use Rattle.std.proofs.Common.{◌≡◌, ℕ, inl, inr, List, sym, ◌∙◌, arith}
use Rattle.std.specs.Prelude.{Option, Some, None}
use Rattle.base_core.specs.declared.base.Place.{Place}
use Rattle.base_refusals.specs.declared.refusal.Refusal.{Refusal}
use Rattle.c_syntax.specs.declared.fault.CFault.{CFault}
use Rattle.tool_endings.specs.declared.ending.Ending.{Ending}
use Rattle.tool_endings.specs.declared.ending.Ending.TheVariants.{Ran, Reported, Flowed, Usage, Refused, BadTrace, CodeRefused, CodeTooLong, Stuck as IsStuck, LustreRefused, LustreTooLong, LustreLong, FlowStuck, ReadFault, PutFault, NoMemory}
use Rattle.tool_words.specs.Words.{Asked, Compile, Exec, Profile, Gen, Lustre, Flow}
use Rattle.tool_endings.specs.Told.{HostTold, SinkTold}
use Rattle.tool_endings.specs.Endings.{status_of, EndsUnasked, Finds, EndsAt}
use Rattle.tool_endings.specs.Headline.{IsReadOnly, WritesNothing}
use Rattle.tool_ending_laws.proofs.EndingLaws.{SaysFound, says_found}

-- `exec` writes nothing
pub exec_unwritten : (e : Ending) (code trace : List ℕ) (h h' : HostTold) (b b' : SinkTold) →
    Finds e (Some (Exec code trace)) h h' b b' → h'.written ≡ h.written
exec_unwritten (Ran totals) code trace h h' b b' ends = ends.left.written
exec_unwritten (BadTrace line) code trace h h' b b' ends = ends.left.written
exec_unwritten (IsStuck at) code trace h h' b b' (inl ends) = ends.left.written
exec_unwritten (IsStuck at) code trace h h' b b' (inr ends) = ends.left.written
exec_unwritten (CodeRefused fault) code trace h h' b b' ends = ends.left.written
exec_unwritten CodeTooLong code trace h h' b b' ends = ends.left.written
exec_unwritten ReadFault code trace h h' b b' (inl ends) = ends.0.written
exec_unwritten ReadFault code trace h h' b b' (inr ends) = ends.1
exec_unwritten PutFault code trace h h' b b' ends = ends.left.written
exec_unwritten NoMemory code trace h h' b b' ends = ends.0.written
exec_unwritten _ code trace h h' b b' ends = absurd ends

pub profile_unwritten : (e : Ending) (model : List ℕ) (h h' : HostTold) (b b' : SinkTold) →
    Finds e (Some (Profile model)) h h' b b' → h'.written ≡ h.written
profile_unwritten (Reported text) model h h' b b' ends = ends.0.left.written
profile_unwritten (Refused refusal) model h h' b b' ends = ends.0.written
profile_unwritten ReadFault model h h' b b' ends = ends.0.written
profile_unwritten NoMemory model h h' b b' ends = ends.0.written
profile_unwritten _ model h h' b b' ends = absurd ends.0

-- `flow` writes nothing
pub flow_unwritten : (e : Ending) (file trace : List ℕ) (h h' : HostTold) (b b' : SinkTold) →
    Finds e (Some (Flow file trace)) h h' b b' → h'.written ≡ h.written
flow_unwritten (Flowed ticks) file trace h h' b b' ends = ends.left.written
flow_unwritten (BadTrace line) file trace h h' b b' ends = ends.left.written
flow_unwritten (FlowStuck at) file trace h h' b b' ends = ends.left.written
flow_unwritten (LustreRefused fault) file trace h h' b b' ends = ends.left.written
flow_unwritten LustreTooLong file trace h h' b b' ends = ends.left.written
flow_unwritten ReadFault file trace h h' b b' (inl ends) = ends.0.written
flow_unwritten ReadFault file trace h h' b b' (inr ends) = ends.1
flow_unwritten PutFault file trace h h' b b' ends = ends.left.written
flow_unwritten NoMemory file trace h h' b b' ends = ends.0.written
flow_unwritten _ file trace h h' b b' ends = absurd ends

unasked-unwritten : (e : Ending) (h h' : HostTold) → EndsUnasked e h h' → h'.written ≡ h.written
unasked-unwritten Usage h h' ends = ends.written
unasked-unwritten NoMemory h h' ends = ends.written
unasked-unwritten _ h h' ends = absurd ends

read-only : (e : Ending) (a : Option Asked) (h h' : HostTold) (b b' : SinkTold) → IsReadOnly a → Finds e a h h' b b' →
    h'.written ≡ h.written
read-only e None h h' b b' only ends = unasked-unwritten e h h' ends.0
read-only e (Some (Exec code trace)) h h' b b' only ends = exec_unwritten e code trace h h' b b' ends
read-only e (Some (Profile model)) h h' b b' only ends = profile_unwritten e model h h' b b' ends
read-only e (Some (Flow file trace)) h h' b b' only ends = flow_unwritten e file trace h h' b b' ends
read-only e _ h h' b b' only ends = absurd only

-- a model is refused
of-refused : (a : Option Asked) (h h' : HostTold) (b b' : SinkTold) (refusal : Refusal) →
    Finds (Refused refusal) a h h' b b' → h'.written ≡ h.written
of-refused None h h' b b' refusal ends = absurd ends.0
of-refused (Some (Exec code trace)) h h' b b' refusal ends = absurd ends
of-refused (Some (Flow file trace)) h h' b b' refusal ends = absurd ends
of-refused (Some (Gen start size model code)) h h' b b' refusal ends = ends.0.left.written
of-refused _ h h' b b' refusal ends = ends.0.written

with-three : (e : Ending) (a : Option Asked) (h h' : HostTold) (b b' : SinkTold) → status_of e ≡ 3 →
    Finds e a h h' b b' → h'.written ≡ h.written
with-three (Refused refusal) a h h' b b' is ends = of-refused a h h' b b' refusal ends
with-three _ a h h' b b' is ends = absurd (omega (arith, is))

-- a file of Lustre is refused, or a delay is too long for one
of-no-lustre : (a : Option Asked) (h h' : HostTold) (b b' : SinkTold) (fault : CFault) → Finds (LustreRefused fault) a h h' b b' →
    h'.written ≡ h.written
of-no-lustre None h h' b b' fault ends = absurd ends.0
of-no-lustre (Some (Compile model code)) h h' b b' fault ends = absurd ends.0
of-no-lustre (Some (Profile model)) h h' b b' fault ends = absurd ends.0
of-no-lustre (Some (Lustre model file)) h h' b b' fault ends = absurd ends.0
of-no-lustre (Some (Flow file trace)) h h' b b' fault ends = ends.left.written
of-no-lustre _ h h' b b' fault ends = absurd ends

of-long-lustre : (a : Option Asked) (h h' : HostTold) (b b' : SinkTold) → Finds LustreTooLong a h h' b b' → h'.written ≡ h.written
of-long-lustre None h h' b b' ends = absurd ends.0
of-long-lustre (Some (Compile model code)) h h' b b' ends = absurd ends.0
of-long-lustre (Some (Profile model)) h h' b b' ends = absurd ends.0
of-long-lustre (Some (Lustre model file)) h h' b b' ends = absurd ends.0
of-long-lustre (Some (Flow file trace)) h h' b b' ends = ends.left.written
of-long-lustre _ h h' b b' ends = absurd ends

of-long-delay : (a : Option Asked) (h h' : HostTold) (b b' : SinkTold) (place : Place) → Finds (LustreLong place) a h h' b b' →
    h'.written ≡ h.written
of-long-delay None h h' b b' place ends = absurd ends.0
of-long-delay (Some (Compile model code)) h h' b b' place ends = absurd ends.0
of-long-delay (Some (Profile model)) h h' b b' place ends = absurd ends.0
of-long-delay (Some (Lustre model file)) h h' b b' place ends = ends.0.left.written
of-long-delay _ h h' b b' place ends = absurd ends

with-eleven : (e : Ending) (a : Option Asked) (h h' : HostTold) (b b' : SinkTold) → status_of e ≡ 11 →
    Finds e a h h' b b' → h'.written ≡ h.written
with-eleven (LustreRefused fault) a h h' b b' is ends = of-no-lustre a h h' b b' fault ends
with-eleven LustreTooLong a h h' b b' is ends = of-long-lustre a h h' b b' ends
with-eleven (LustreLong place) a h h' b b' is ends = of-long-delay a h h' b b' place ends
with-eleven _ a h h' b b' is ends = absurd (omega (arith, is))

pub unwritten : (s : ℕ) (a : Option Asked) (h h' : HostTold) (b b' : SinkTold) → EndsAt s a h h' b b' →
    WritesNothing s a → h'.written ≡ h.written
unwritten s a h h' b b' e (inl only) = read-only e.found a h h' b e.before only e.ends.finds
unwritten s a h h' b b' e (inr (inl three)) =
    let f : SaysFound s a h h' b b' =
    says_found s a h h' b b' e (λ seven. omega (arith, three, seven)) (λ ten. omega (arith, three, ten)) in
    with-three f.found a h h' b f.before (sym f.status ∙ three) f.ends.finds
unwritten s a h h' b b' e (inr (inr eleven)) =
    let f : SaysFound s a h h' b b' =
    says_found s a h h' b b' e (λ seven. omega (arith, eleven, seven)) (λ ten. omega (arith, eleven, ten)) in
    with-eleven f.found a h h' b f.before (sym f.status ∙ eleven) f.ends.finds
