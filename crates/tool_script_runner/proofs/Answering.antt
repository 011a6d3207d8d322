-- Calls that were answered, one after another.
use Rattle.std.proofs.Common.{◌≡◌, refl, sym, ◌∙◌, ap, subst, ℕ, suc, ◌+◌, List, [], ◌∷◌, ◌++◌, length, arith}
use Rattle.std.proofs.lemmas.Grind.{flat_map-append}
use Rattle.std.proofs.lemmas.List.{append-nil}
use Rattle.std.proofs.lemmas.List.Sums.{sum_by-append}
use Rattle.base_host.specs.Files.{PutsFront}
use Rattle.tool_runner.specs.declared.outcome.Totals.{Totals}
use Rattle.tool_runner.specs.Runs.{added}
use Rattle.tool_stream.proofs.lemmas.Waiting.{nothing, both_texts, front_of_more}
use Rattle.right_claim.specs.Scripts.{Call, out_with, update_with}
use Rattle.tool_driver.specs.Driven.{updates}
use Rattle.tool_driver.specs.States.{DriverState}
use Rattle.tool_script_runner.specs.Answers.{Answered, calls_in, Answers}
use Rattle.tool_script_runner.specs.Texts.{call_text, answers_text}
use Rattle.tool_script_runner.specs.Standings.{Standing, totals_of, AreCounted, Takes}
use Rattle.tool_script_runner.specs.Walks.{GoesOn, Runs}

-- ---- Lists of calls

pub calls-append : (xs ys : List Answered) → calls_in (xs ++ ys) ≡ calls_in xs ++ calls_in ys
calls-append [] ys = refl
calls-append (x ∷ xs) ys = ap (λ cs. x.call ∷ cs) (calls-append xs ys)

pub calls-length : (xs : List Answered) → length (calls_in xs) ≡ length xs
calls-length [] = refl
calls-length (x ∷ xs) = ap suc (calls-length xs)

updates-append : (cs more : List Call) → updates (cs ++ more) ≡ updates cs + updates more
updates-append [] more = omega arith
updates-append (out_with j values ∷ cs) more = updates-append cs more
updates-append (update_with values ∷ cs) more = omega (arith, updates-append cs more)

-- ---- Answers

both_answered : (xs ys : List Answered) (d e f : DriverState) → Answers xs d e → Answers ys e f → Answers (xs ++ ys) d f
both_answered [] ys d e f none more = subst (λ x. Answers ys x f) none more
both_answered (x ∷ xs) ys d e f some more = (some.0, some.1, both_answered xs ys some.0 e f some.2 more)

-- ---- Totals

pub same_totals : (t u : Totals) → t.ticks ≡ u.ticks → t.steps ≡ u.steps → t.calls ≡ u.calls → t ≡ u
same_totals t u ticks steps calls = λ i. record { ticks = ticks i; steps = steps i; calls = calls i }

added-none : (t : Totals) → t ≡ added t (totals_of [])
added-none t = same_totals t (added t (totals_of [])) (omega arith) (omega arith) (omega arith)

pub added-one : (t : Totals) (a : Answered) (ticks : ℕ) → ticks ≡ updates (a.call ∷ []) →
    added t (record { ticks = ticks; steps = a.cost.steps; calls = a.cost.calls }) ≡ added t (totals_of (a ∷ []))
added-one t a ticks is =
    same_totals (added t (record { ticks = ticks; steps = a.cost.steps; calls = a.cost.calls })) (added t (totals_of (a ∷ [])))
    (omega (arith, is)) (omega arith) (omega arith)

added-twice : (t : Totals) (xs ys : List Answered) → added (added t (totals_of xs)) (totals_of ys) ≡ added t (totals_of (xs ++ ys))
added-twice t xs ys =
    same_totals (added (added t (totals_of xs)) (totals_of ys)) (added t (totals_of (xs ++ ys)))
    (omega (arith, ap updates (calls-append xs ys), updates-append (calls_in xs) (calls_in ys)))
    (omega (arith, sum_by-append (λ (a : Answered). a.cost.steps) xs ys))
    (omega (arith, sum_by-append (λ (a : Answered). a.cost.calls) xs ys))

-- ---- Counted answers

pub none_counted : (d : DriverState) (t : Totals) → AreCounted [] d d t t
none_counted d t = record { answered = refl; totals = added-none t }

pub both_counted : (xs ys : List Answered) (d e f : DriverState) (t u v : Totals) → AreCounted xs d e t u → AreCounted ys e f u v →
    AreCounted (xs ++ ys) d f t v
both_counted xs ys d e f t u v first second = record {
  answered = both_answered xs ys d e f first.answered second.answered;
  totals = second.totals ∙ ap (λ w. added w (totals_of ys)) first.totals ∙ added-twice t xs ys;
}

-- ---- Texts

text-append : (xs ys : List Answered) → answers_text (xs ++ ys) ≡ answers_text xs ++ answers_text ys
text-append xs ys = flat_map-append (λ (a : Answered). call_text a.call a.outputs) xs ys

pub text-one : (a : Answered) → answers_text (a ∷ []) ≡ call_text a.call a.outputs
text-one a = append-nil (call_text a.call a.outputs)

-- ---- Runs

pub none_run : (s : Standing) → Runs [] s s
none_run s = record { answered = none_counted s.driver s.totals; lines = nothing s.waiting s.put }

pub both_run : (xs ys : List Answered) (s s' s'' : Standing) → Runs xs s s' → Runs ys s' s'' → Runs (xs ++ ys) s s''
both_run xs ys s s' s'' first second = record {
  answered = both_counted xs ys s.driver s'.driver s''.driver s.totals s'.totals s''.totals first.answered second.answered;
  lines =
      subst (λ t. Takes t s s'') (sym (text-append xs ys))
      (both_texts s.waiting s'.waiting s''.waiting (answers_text xs) (answers_text ys) s.put s'.put s''.put first.lines second.lines);
}

pub both_cut : (xs ys : List Answered) (s s' s'' : Standing) → Runs xs s s' → PutsFront s'.put s''.put (s'.waiting ++ answers_text ys) →
    PutsFront s.put s''.put (s.waiting ++ answers_text (xs ++ ys))
both_cut xs ys s s' s'' first second =
    subst (λ t. PutsFront s.put s''.put (s.waiting ++ t)) (sym (text-append xs ys))
    (front_of_more s.waiting s'.waiting (answers_text xs) (answers_text ys) s.put s'.put s''.put first.lines second)

-- the text of one call that was answered
pub one_text : (call : Call) (a : Answered) → a.call ≡ call → call_text call a.outputs ≡ answers_text (a ∷ [])
one_text call a is = ap (λ c. call_text c a.outputs) (sym is) ∙ sym (text-one a)

pub one_run : (call : Call) (s s' : Standing) (next : GoesOn call s s') → Runs (next.answer ∷ []) s s'
one_run call s s' next =
    record { answered = next.answered; lines = subst (λ t. Takes t s s') (one_text call next.answer next.of_call) next.line }
