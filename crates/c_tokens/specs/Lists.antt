-- The lists of a C text, and how each continues after an element.
use Rattle.std.specs.Prelude.{◌≡◌, ℕ, suc, ◌+◌, ◌<◌, List, ◌∷◌, length, Result, Ok}
use Rattle.c_syntax.specs.declared.fault.CFault.{CFault}
use Rattle.c_grammar.specs.Tokens.{Token}
use Rattle.base_core.specs.Results.{◌>>=◌}
use Rattle.c_grammar.specs.Parsing.{Limits, Step, one_more, many, parse_operand, values_step, arguments_step, parse_stmt, stmts_step, pure_params_step, params_step, fields_step, pures_step, structs_step, procedures_step}

-- how a list goes on after so many elements: by one more, or by its end
abbrev pub Stepping : Type 0 → Type 0
Stepping X = ℕ → List Token → Result (Step X) CFault

-- after an element fewer tokens are left, and the further elements are those of the list that
-- begins there; `next` is how many came before these
pub record Continues {X : Type 0} (step : Stepping X) (next : ℕ → ℕ) : Type 0 where
  pub fewer : (count : ℕ) (tokens : List Token) (x : X) (rest : List Token) →
      step count tokens ≡ Ok (one_more x rest) → length rest < length tokens
  pub further : (count : ℕ) (tokens : List Token) (x : X) (rest : List Token) →
      step count tokens ≡ Ok (one_more x rest) →
      many step (suc (length tokens)) count tokens
      ≡ (many step (suc (length rest)) (next count) rest
      >>= (λ (xs : List X × List Token). Ok (x ∷ xs.0, xs.1)))

-- each list does; pure functions and parameters are counted, since there is a limit on them
pub record ListsContinue : Type 0 where
  pub values : (last levels : ℕ) →
      Continues (values_step last (parse_operand last levels)) (λ count. count)
  pub arguments : (last : ℕ) (limits : Limits) →
      Continues (arguments_step last limits) (λ count. count)
  pub statements : (last : ℕ) (limits : Limits) (levels : ℕ) →
      Continues (stmts_step last limits (parse_stmt last limits levels)) (λ count. count)
  pub pure_params : (last : ℕ) (limits : Limits) →
      Continues (pure_params_step last limits) (λ count. count + 1)
  pub params : (last : ℕ) (limits : Limits) →
      Continues (params_step last limits) (λ count. count + 1)
  pub fields : (last : ℕ) (limits : Limits) → Continues (fields_step last limits) (λ count. count)
  pub pures : (last : ℕ) (limits : Limits) →
      Continues (pures_step last limits) (λ count. count + 1)
  pub structs : (last : ℕ) (limits : Limits) →
      Continues (structs_step last limits) (λ count. count)
  pub procedures : (last : ℕ) (limits : Limits) →
      Continues (procedures_step last limits) (λ count. count)
