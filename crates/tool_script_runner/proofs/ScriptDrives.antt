-- The run of a script by a driver of right code, said without the driver.
use Rattle.std.proofs.Common.{◌≡◌, refl, sym, ◌∙◌, ap, subst, ℕ, zero, suc, ◌+◌, ◌-◌, ◌≤◌, List, [], ◌∷◌, ◌++◌, length, map, take, replicate, arith}
use Rattle.std.specs.Prelude.{ℤ, false, Option, Some, None, IfSome, Ok, Err}
use Rattle.std.specs.List.{range_with_len}
use Rattle.std.proofs.lemmas.List.{append-nil}
use Rattle.std.proofs.lemmas.List.FromFn.{length-range_with_len}
use Rattle.std.proofs.Math.Seq.{take-append_seam, take-append-add}
use Rattle.c_syntax.specs.declared.fault.Cost.{Cost}
use Rattle.right_claim.specs.Scripts.{Call, out_with, update_with}
use Rattle.tool_runner.specs.declared.outcome.Totals.{Totals}
use Rattle.tool_runner.specs.Runs.{added, no_totals}
use Rattle.tool_driver.specs.declared.fault.DriveFault.{DriveFault}
use Rattle.tool_driver.specs.declared.fault.DriveFault.TheVariants as drive
use Rattle.tool_driver.specs.Shapes.{Shape, inputs_of}
use Rattle.tool_driver.specs.Judging.{fault_unless_stuck}
use Rattle.tool_driver.specs.States.{DriverState}
use Rattle.tool_driver.specs.Driven.{Driven, shape_of, StandsFor, StandsAfter}
use Rattle.tool_scripts.specs.declared.walk.BadCall.{BadCall}
use Rattle.tool_scripts.specs.Scripts.{Script}
use Rattle.tool_script_runner.specs.declared.outcome.RefusedCall.{RefusedCall}
use Rattle.tool_script_runner.specs.declared.outcome.ScriptFault.TheVariants as fault
use Rattle.tool_script_runner.specs.Answers.{Answered, calls_in, IsMade, Answers, IsRefusedFor}
use Rattle.tool_script_runner.specs.Standings.{Standing, totals_of}
use Rattle.tool_script_runner.specs.Runs.{RanWhole, StoppedAtLine, StoppedByCall, StoppedByOut}
use Rattle.tool_script_runner.specs.Right.{AnswersAreRight}
use Rattle.tool_script_runner.specs.ScriptEnds.{Turn, told_on, fresh_turn, fault_in, turn_after, first_refused, Whole, AtLine, AtCall, end_by, end_of, calls_before, script_of, whole_script_of}
use Rattle.tool_script_runner.specs.Drives.{AreAnswered, AnswersAll, AnswersSome, AnswersTaken, ScriptsAreDriven}
use Rattle.tool_script_runner.proofs.Answering.{calls-length, same_totals}

-- ---- What a driver has done in its tick

abbrev turn_of : DriverState → Turn
turn_of d = record { called = d.called; given = d.given }

no_fault : (call : Call) (outputs : List ℤ) (cost : Cost) (d d' : DriverState) → IsMade call outputs cost d d' →
    fault_in d.shape (turn_of d) call ≡ None
no_fault (out_with j values) outputs cost d d' made = made.allowed
no_fault (update_with values) outputs cost d d' made = made.allowed

turn_behind : (call : Call) (outputs : List ℤ) (cost : Cost) (d d' : DriverState) → IsMade call outputs cost d d' →
    turn_of d' ≡ turn_after d.shape (turn_of d) call
turn_behind (out_with j values) outputs cost d d' made = ap turn_of made.made.tick
turn_behind (update_with values) outputs cost d d' made = ap turn_of made.made.tick

shape_behind : (call : Call) (outputs : List ℤ) (cost : Cost) (d d' : DriverState) → IsMade call outputs cost d d' → d'.shape ≡ d.shape
shape_behind (out_with j values) outputs cost d d' made = ap (λ (e : DriverState). e.shape) made.made.tick
shape_behind (update_with values) outputs cost d d' made = ap (λ (e : DriverState). e.shape) made.made.tick

-- after the calls that a driver answered, its tick decides what is refused
refused_behind : (answers : List Answered) (count : ℕ) (behind : List Call) (d d' : DriverState) → Answers answers d d' →
    first_refused d.shape (turn_of d) count (calls_in answers ++ behind)
    ≡ first_refused d'.shape (turn_of d') (count + length answers) behind
refused_behind [] count behind d d' none =
    let here : count ≡ count + 0 = omega arith in
    ap (λ (e : DriverState). first_refused e.shape (turn_of e) count behind) (sym none)
    ∙ ap (λ n. first_refused d'.shape (turn_of d') n behind) here
refused_behind (a ∷ answers) count behind d d' some =
    let next : DriverState = some.0 in
    let made = some.1.made in
    let more : List Call = calls_in answers ++ behind in
    let count_is : count + 1 + length answers ≡ count + suc (length answers) = omega arith in
    ap (λ f. told_on (count + 1) f (first_refused d.shape (turn_after d.shape (turn_of d) a.call) (count + 1) more))
    (no_fault a.call a.outputs a.cost d next made)
    ∙ ap (λ t. first_refused d.shape t (count + 1) more) (sym (turn_behind a.call a.outputs a.cost d next made))
    ∙ ap (λ s. first_refused s (turn_of next) (count + 1) more) (sym (shape_behind a.call a.outputs a.cost d next made))
    ∙ refused_behind answers (count + 1) behind next d' some.2
    ∙ ap (λ n. first_refused d'.shape (turn_of d') n behind) count_is

some_same : (x y : RefusedCall) → Some x ≡ Some y → x ≡ y
some_same x y e = cc

-- the first refused call is after the lines before it
refused_later : (s : Shape) (turn : Turn) (count : ℕ) (calls : List Call) (refused : RefusedCall) →
    first_refused s turn count calls ≡ Some refused → count + 1 ≤ refused.line
refused_later s turn count [] refused is = absurd (subst (λ (o : Option RefusedCall). IfSome o (λ r. ⊥)) is tt)
refused_later s turn count (c ∷ calls) refused is =
    by_fault (fault_in s turn c) (refused_later s (turn_after s turn c) (count + 1) calls refused) is
  where
    by_fault : (found : Option DriveFault) →
        (first_refused s (turn_after s turn c) (count + 1) calls ≡ Some refused → count + 1 + 1 ≤ refused.line) →
        told_on (count + 1) found (first_refused s (turn_after s turn c) (count + 1) calls) ≡ Some refused → count + 1 ≤ refused.line
    by_fault None later e = omega (arith, later e)
    by_fault (Some why) later e =
        let line : count + 1 ≡ refused.line =
        ap (λ (r : RefusedCall). r.line) (some_same (record { line = count + 1; why = why }) refused e) in
        omega (arith, line)

-- ---- A driver that stands for the empty script

mapped_to : {A B : Type 0} (b : B) (xs : List A) (n : ℕ) → n ≡ length xs → map (λ x. b) xs ≡ replicate n b
mapped_to b [] zero is = refl
mapped_to b [] (suc n) is = absurd (omega (arith, is))
mapped_to b (x ∷ xs) zero is = absurd (omega (arith, is))
mapped_to b (x ∷ xs) (suc n) is = ap (λ ys. b ∷ ys) (mapped_to b xs n (omega (arith, is)))

module _ (w : Driven) (d : DriverState) (stands : StandsFor w d []) where
  fresh : turn_of d ≡ fresh_turn d.shape
  fresh = λ i. record {
    called = (stands.tick.called ∙ mapped_to false (range_with_len 1 (length d.shape.functions)) (length d.shape.functions)
        (sym (length-range_with_len 1 (length d.shape.functions)))) i;
    given = (stands.tick.given ∙ mapped_to None (inputs_of d.shape) (length (inputs_of d.shape)) refl) i;
  }

  -- what of a script is refused first, where the driver answered some of its calls
  refused_of : (answers : List Answered) (behind calls : List Call) (d' : DriverState) → Answers answers d d' →
      calls ≡ calls_in answers ++ behind →
      first_refused (shape_of w) (fresh_turn (shape_of w)) 0 calls ≡ first_refused d'.shape (turn_of d') (length answers) behind
  refused_of answers behind calls d' some parts =
      ap (first_refused (shape_of w) (fresh_turn (shape_of w)) 0) parts
      ∙ ap (λ s. first_refused s (fresh_turn s) 0 (calls_in answers ++ behind)) (sym stands.shape)
      ∙ ap (λ t. first_refused d.shape t 0 (calls_in answers ++ behind)) (sym fresh)
      ∙ refused_behind answers 0 behind d d' some
      ∙ ap (λ n. first_refused d'.shape (turn_of d') n behind) (let none : 0 + length answers ≡ length answers = omega arith in none)

  none_refused : (answers : List Answered) (calls : List Call) (d' : DriverState) → Answers answers d d' → calls ≡ calls_in answers →
      first_refused (shape_of w) (fresh_turn (shape_of w)) 0 calls ≡ None
  none_refused answers calls d' some are = refused_of answers [] calls d' some (are ∙ sym (append-nil (calls_in answers)))

  answered : AnswersAreRight → (answers : List Answered) (d' : DriverState) → Answers answers d d' → AreAnswered w answers
  answered law answers d' some =
      let right = law w answers d d' stands some in
      record { lawful = right.stands.lawful; given = right.given; some = right.some; taken = right.taken }

  -- the script that a driver reads is that of the system's shape
  script_is : (bytes : List ℕ) → script_of d.shape bytes ≡ script_of (shape_of w) bytes
  script_is bytes = ap (λ s. script_of s bytes) stands.shape

  whole_script_is : (bytes : List ℕ) → whole_script_of d.shape bytes ≡ whole_script_of (shape_of w) bytes
  whole_script_is bytes = ap (λ s. whole_script_of s bytes) stands.shape

-- ---- Ends

end_at : (s : Shape) (script : Script) (refused : Option RefusedCall) (bad : Option BadCall) →
    first_refused s (fresh_turn s) 0 script.calls ≡ refused → script.bad ≡ bad → end_of s script ≡ end_by refused bad
end_at s script refused bad first is_bad = λ i. end_by (first i) (is_bad i)

first_totals : (t u : Totals) → t ≡ no_totals → added t u ≡ u
first_totals t u is = ap (λ v. added v u) is ∙ same_totals (added no_totals u) u (omega arith) (omega arith) (omega arith)

-- an error of a call that isn't a machine that is stuck
is_fault : (w : Driven) (calls : List Call) (why : DriveFault) (d : DriverState) → StandsAfter w calls why d →
    fault_unless_stuck why ≡ Some why
is_fault w calls (drive.Stuck at) d stands = absurd stands
is_fault w calls _ d stands = refl

call_refused : (why : DriveFault) (call : Call) (d d' : DriverState) → IsRefusedFor why call d d' →
    fault_in d.shape (turn_of d) call ≡ fault_unless_stuck why
call_refused why (out_with j values) d d' refused = sym refused.cause
call_refused why (update_with values) d d' refused = sym refused.cause

module _ (law : AnswersAreRight) (w : Driven) (s s' : Standing) (stands : StandsFor w s.driver []) (none : s.totals ≡ no_totals) where
  totals_are : (answers : List Answered) → s'.totals ≡ added s.totals (totals_of answers) → s'.totals ≡ totals_of answers
  totals_are answers is = is ∙ first_totals s.totals (totals_of answers) none

  drives_whole : (bytes : List ℕ) → RanWhole (script_of s.driver.shape bytes) s s' →
      (end_of (shape_of w) (script_of (shape_of w) bytes) ≡ Whole) × AnswersAll w bytes s'.totals s.put s'.put
  drives_whole bytes start =
      let ran = subst (λ script. RanWhole script s s') (script_is w s.driver stands bytes) start in
      let script = script_of (shape_of w) bytes in
      let first = none_refused w s.driver stands ran.answers script.calls s'.driver ran.run.answered.answered ran.calls in
      let end = end_at (shape_of w) script None None first ran.calls_only in (
        end,
        record {
          answers = ran.answers;
          calls = sym ran.calls ∙ ap (λ e. calls_before e script.calls) (sym end);
          right = answered w s.driver stands law ran.answers s'.driver ran.run.answered.answered;
          totals = totals_are ran.answers ran.run.answered.totals;
          lines = ran.run.put;
        },
      )

  drives_to_line : (bad : BadCall) (bytes : List ℕ) → StoppedAtLine bad (script_of s.driver.shape bytes) s s' →
      (end_of (shape_of w) (script_of (shape_of w) bytes) ≡ AtLine bad) × AnswersAll w bytes s'.totals s.put s'.put
  drives_to_line bad bytes start =
      let ran = subst (λ script. StoppedAtLine bad script s s') (script_is w s.driver stands bytes) start in
      let script = script_of (shape_of w) bytes in
      let first = none_refused w s.driver stands ran.answers script.calls s'.driver ran.run.answered.answered ran.calls in
      let end = end_at (shape_of w) script None (Some bad) first ran.first_bad in (
        end,
        record {
          answers = ran.answers;
          calls = sym ran.calls ∙ ap (λ e. calls_before e script.calls) (sym end);
          right = answered w s.driver stands law ran.answers s'.driver ran.run.answered.answered;
          totals = totals_are ran.answers ran.run.answered.totals;
          lines = ran.run.put;
        },
      )

  drives_to_call : (refused : RefusedCall) (bytes : List ℕ) → StoppedByCall refused (script_of s.driver.shape bytes) s s' →
      (end_of (shape_of w) (script_of (shape_of w) bytes) ≡ AtCall refused) × AnswersAll w bytes s'.totals s.put s'.put
  drives_to_call refused bytes start =
      let ran = subst (λ script. StoppedByCall refused script s s') (script_is w s.driver stands bytes) start in
      let script = script_of (shape_of w) bytes in
      let answers = ran.front.answers in
      let some = ran.run.answered.answered in
      let call = ran.refuses.call in
      let calls = calls_in answers in
      let why_is =
      is_fault w calls refused.why s'.driver
      (ran.refuses.refused.right w calls (law w answers s.driver ran.before stands some).stands) in
      let fault = call_refused refused.why call ran.before s'.driver ran.refuses.refused.refused ∙ why_is in
      let line : length answers + 1 ≡ refused.line = sym ran.line in
      let first : first_refused (shape_of w) (fresh_turn (shape_of w)) 0 script.calls ≡ Some refused =
      refused_of w s.driver stands answers ran.front.behind script.calls ran.before some ran.front.parts
      ∙ ap (first_refused ran.before.shape (turn_of ran.before) (length answers)) ran.refuses.parts
      ∙ ap (λ f. told_on (length answers + 1) f
      (first_refused ran.before.shape (turn_after ran.before.shape (turn_of ran.before) call) (length answers + 1)
      ran.refuses.behind)) fault
      ∙ ap (λ n. Some (record { line = n; why = refused.why })) line in
      let end : end_of (shape_of w) script ≡ AtCall refused = ap (λ r. end_by r script.bad) first in
      let places : refused.line - 1 ≡ length calls = omega (arith, line, calls-length answers) in (
        end,
        record {
          answers = answers;
          calls =
              sym (take-append_seam calls ran.front.behind) ∙ ap (λ n. take n (calls ++ ran.front.behind)) (sym places)
              ∙ ap (take (refused.line - 1)) (sym ran.front.parts) ∙ ap (λ e. calls_before e script.calls) (sym end);
          right = answered w s.driver stands law answers ran.before some;
          totals = totals_are answers ran.run.answered.totals;
          lines = ran.run.put;
        },
      )

  -- the calls up to the end of a script, some first of which were answered
  more_behind : (answers : List Answered) (behind calls : List Call) (bad : Option BadCall) (refused : Option RefusedCall)
      (shape : Shape) (turn : Turn) →
      calls ≡ calls_in answers ++ behind → first_refused shape turn (length answers) behind ≡ refused →
      (more : List Call) × (calls_before (end_by refused bad) calls ≡ calls_in answers ++ more)
  more_behind answers behind calls None None shape turn parts first = (behind, parts)
  more_behind answers behind calls (Some bad) None shape turn parts first = (behind, parts)
  more_behind answers behind calls bad (Some refused) shape turn parts first =
      let later = refused_later shape turn (length answers) behind refused first in
      let n : ℕ = refused.line - 1 - length answers in
      let places : refused.line - 1 ≡ length (calls_in answers) + n = omega (arith, later, calls-length answers) in (
        take n behind,
        ap (take (refused.line - 1)) parts ∙ ap (λ k. take k (calls_in answers ++ behind)) places
            ∙ take-append-add (calls_in answers) behind n,
      )

  drives_to_out : (bytes : List ℕ) → StoppedByOut (script_of s.driver.shape bytes) s s' → AnswersSome w bytes s.put s'.put
  drives_to_out bytes start =
      let ran = subst (λ script. StoppedByOut script s s') (script_is w s.driver stands bytes) start in
      let script = script_of (shape_of w) bytes in
      let answers = ran.front.answers in
      let some = ran.answered.answered in
      let first = refused_of w s.driver stands answers ran.front.behind script.calls ran.before some ran.front.parts in
      let found = more_behind answers ran.front.behind script.calls script.bad
      (first_refused (shape_of w) (fresh_turn (shape_of w)) 0 script.calls)
      ran.before.shape (turn_of ran.before) ran.front.parts (sym first) in
      record {
        answers = answers;
        behind = found.0;
        parts = found.1;
        right = answered w s.driver stands law answers ran.before some;
        front = ran.put;
      }

  drives_taken : (bytes : List ℕ) → RanWhole (whole_script_of s.driver.shape bytes) s s' → AnswersTaken w bytes s.put s'.put
  drives_taken bytes start =
      let ran = subst (λ script. RanWhole script s s') (whole_script_is w s.driver stands bytes) start in
      let script = whole_script_of (shape_of w) bytes in
      let first = none_refused w s.driver stands ran.answers script.calls s'.driver ran.run.answered.answered ran.calls in
      record {
        end = end_at (shape_of w) script None None first ran.calls_only;
        answers = ran.answers;
        calls = sym ran.calls;
        right = answered w s.driver stands law ran.answers s'.driver ran.run.answered.answered;
        lines = ran.run.put;
      }

pub scripts_driven : AnswersAreRight → ScriptsAreDriven
scripts_driven law w (Ok done) rest rest' s s' stands none over = record {
  parts = over.parts;
  took = over.took;
  left = over.left;
  drives = drives_whole law w s s' stands none (over.parts.taken ++ over.parts.left) over.ends;
}
scripts_driven law w (Err (fault.Line bad)) rest rest' s s' stands none over = record {
  parts = over.parts;
  took = over.took;
  left = over.left;
  drives = drives_to_line law w s s' stands none bad (over.parts.taken ++ over.parts.left) over.ends;
}
scripts_driven law w (Err (fault.Call refused)) rest rest' s s' stands none over = record {
  parts = over.parts;
  took = over.took;
  left = over.left;
  drives = drives_to_call law w s s' stands none refused (over.parts.taken ++ over.parts.left) over.ends;
}
scripts_driven law w (Err fault.Out) rest rest' s s' stands none over = record {
  parts = over.parts;
  took = over.took;
  left = over.left;
  drives = drives_to_out law w s s' stands none (over.parts.taken ++ over.parts.left) over.ends;
}
scripts_driven law w (Err fault.Read) rest rest' s s' stands none over = record {
  parts = over.parts;
  took = over.took;
  left = over.left;
  drives = drives_taken law w s s' stands none over.parts.taken over.ends;
}
scripts_driven law w (Err fault.Memory) rest rest' s s' stands none over = record {
  parts = over.parts;
  took = over.took;
  left = over.left;
  drives = ap (λ (t : Standing). t.put) over.ends.0;
}
