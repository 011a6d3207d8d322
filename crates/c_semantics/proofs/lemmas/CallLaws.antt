-- What calls do: how arguments are passed, a call on the same instance, and a call on the instance in a field.
use Rattle.std.proofs.Common.{◌≡◌, ◌≢◌, refl, ap, ◌∙◌, ℕ, ◌+◌, ◌<◌, Bool, if◌then◌else◌, List, [], ◌∷◌, ℤ, nat_lt, true, false}
use Rattle.c_syntax.specs.declared.code.CType.{CType}
use Rattle.c_syntax.specs.declared.fault.Why.TheVariants.{Range, Steps}
use Rattle.c_syntax.specs.Tree.{ExprTrees}
use Rattle.c_semantics.specs.Cells.{Cells, object, cell_at, fields_at}
use Rattle.c_semantics.specs.Values.{Answer, gives, sticks, and_then, within, stuck_at, step_limit}
use Rattle.c_semantics.specs.Machine.{Outcome, done, stuck, behind, on_answer, begin_step, in_child, call_entry, arguments, routine_at}
use Rattle.c_semantics.specs.CallLaws.{ArgumentsArePassed, passed_in, OwnCallsRunBodies, cells_left, ChildCallsStayInside}
use Rattle.c_semantics.proofs.lemmas.Runs.{cell_at-set_cell-other}
use Rattle.c_semantics.proofs.lemmas.RunLaws.{begins, no_step}

-- ---- Arguments

pub arguments_are_passed : ArgumentsArePassed
arguments_are_passed functions leaf line steps = record {
  none = λ types. refl;
  passed = λ type types e es v vs mid end is fits others.
      ap (judged type types es) is ∙ ap (λ b. and_then (answer b v mid) (later types es)) fits
      ∙ ap (λ r. and_then r (λ ws last. gives (v ∷ ws) last)) others;
  out_of_type = λ type types e es v mid is not_in. ap (judged type types es) is
      ∙ ap (λ b. and_then (answer b v mid) (later types es)) not_in;
  value_sticks = λ type types e es at is. ap (judged type types es) is;
  later_sticks = λ type types e es v mid at is fits others.
      ap (judged type types es) is ∙ ap (λ b. and_then (answer b v mid) (later types es)) fits
      ∙ ap (λ r. and_then r (λ ws last. gives (v ∷ ws) last)) others;
}
  where
    later : List CType → ExprTrees → ℤ → ℕ → Answer (List ℤ)
    later types es v count = and_then (arguments functions leaf line types es count) (λ vs end. gives (v ∷ vs) end)

    judged : CType → List CType → ExprTrees → Answer ℤ → Answer (List ℤ)
    judged type types es a = and_then (and_then a (within type Range line)) (later types es)

    answer : Bool → ℤ → ℕ → Answer ℤ
    answer b v count = if b then gives v count else sticks (stuck_at line Range)

-- ---- Calls on the same instance

pub own_calls_run_bodies : OwnCallsRunBodies
own_calls_run_bodies scope line procedure es cells steps = record {
  does = does;
  body_ends = λ functions earlier types number p values end a is room pass ends.
      does values end room pass ∙ is.run values cells end ∙ ap (behind (call_entry number p.name) []) ends;
  body_sticks = λ functions earlier types number p values end at left is room pass sticks_there.
      does values end room pass ∙ is.run values cells end ∙ ap (behind (call_entry number p.name) []) sticks_there;
  argument_sticks = λ at room is. begins line cells steps go room ∙ ap (λ a. on_answer a cells next) is;
  no_step_left = no_step line cells steps go;
}
  where
    next : List ℤ → ℕ → Outcome
    next values = (routine_at scope.routines procedure).run values cells

    go : ℕ → Outcome
    go count = on_answer (passed_in scope cells line count procedure es) cells next

    does : (values : List ℤ) (end : ℕ) → steps < step_limit → passed_in scope cells line (steps + 1) procedure es ≡ gives values end →
        begin_step line cells steps go ≡ (routine_at scope.routines procedure).run values cells end
    does values end room pass = begins line cells steps go room ∙ ap (λ a. on_answer a cells next) pass

-- ---- Calls on the instance in a field

-- the other fields stay
stay_in_child : (field : ℕ) (cells : Cells) (o : Outcome) (f : ℕ) → field ≢ f → cell_at (cells_left (in_child field cells o)) f
    ≡ cell_at cells f
stay_in_child field cells (done a) f apart = cell_at-set_cell-other cells field f (object a.cells) apart
stay_in_child field cells (stuck at inner) f apart = cell_at-set_cell-other cells field f (object inner) apart

pub child_calls_stay_inside : ChildCallsStayInside
child_calls_stay_inside scope line procedure field es cells steps = record {
  does = does;
  ends = λ values end a room pass is. does values end room pass ∙ ap (in_child field cells) is;
  routine_sticks = λ values end at inner room pass is. does values end room pass ∙ ap (in_child field cells) is;
  argument_sticks = λ at room is. begins line cells steps go room ∙ ap (λ a. on_answer a cells next) is;
  no_step_left = no_step line cells steps go;
  others = λ f apart. after_step f apart (nat_lt steps step_limit);
}
  where
    next : List ℤ → ℕ → Outcome
    next values count = in_child field cells ((routine_at scope.routines procedure).run values (fields_at cells field) count)

    go : ℕ → Outcome
    go count = on_answer (passed_in scope cells line count procedure es) cells next

    does : (values : List ℤ) (end : ℕ) → steps < step_limit → passed_in scope cells line (steps + 1) procedure es ≡ gives values end →
        begin_step line cells steps go ≡ next values end
    does values end room pass = begins line cells steps go room ∙ ap (λ a. on_answer a cells next) pass

    after_arguments : (f : ℕ) → field ≢ f → (a : Answer (List ℤ)) → cell_at (cells_left (on_answer a cells next)) f ≡ cell_at cells f
    after_arguments f apart (gives values count) =
        stay_in_child field cells ((routine_at scope.routines procedure).run values (fields_at cells field) count) f apart
    after_arguments f apart (sticks at) = refl

    after_step : (f : ℕ) → field ≢ f → (b : Bool) →
        cell_at (cells_left (if b then go (steps + 1) else stuck (stuck_at line Steps) cells)) f ≡ cell_at cells f
    after_step f apart true = after_arguments f apart (passed_in scope cells line (steps + 1) procedure es)
    after_step f apart false = refl
