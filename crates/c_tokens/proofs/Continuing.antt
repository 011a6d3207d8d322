-- Each list continues after an element.
use Rattle.std.proofs.Common.{◌≡◌, refl, sym, ◌∙◌, ap, ℕ, zero, suc, ◌+◌, ◌<◌, List, ◌∷◌, length, Result, Ok, Err, arith}
use Rattle.c_syntax.specs.declared.fault.CFault.{CFault}
use Rattle.c_grammar.specs.Tokens.{Token}
use Rattle.base_core.specs.Results.{◌>>=◌}
use Rattle.c_grammar.specs.Parsing.{Step, one_more, the_end, after_step, many, parse_operand, values_step, arguments_step, parse_stmt, stmts_step, pure_params_step, params_step, fields_step, pures_step, structs_step, procedures_step}
use Rattle.c_tokens.specs.Lists.{Stepping, Continues, ListsContinue}
use Rattle.c_tokens.proofs.Fewer.{values_step-falls}
use Rattle.c_tokens.proofs.FewerDefinitions.{arguments_step-falls, stmts_step-falls, pure_params_step-falls, params_step-falls, fields_step-falls, pures_step-falls, structs_step-falls, procedures_step-falls}

-- each element takes a token at least
abbrev Falls : {X : Type 0} → Stepping X → Type 0
Falls {X} step = (count : ℕ) (tokens : List Token) (x : X) (rest : List Token) →
    step count tokens ≡ Ok (one_more x rest) → length rest < length tokens

-- enough fuel is as good as more
many-enough : {X : Type 0} (step : Stepping X) → Falls step → (m n count : ℕ) (tokens : List Token) →
    length tokens < m → length tokens < n → many step m count tokens ≡ many step n count tokens
many-enough step falls zero n count tokens h k = absurd (omega (arith, h))
many-enough step falls (suc m) zero count tokens h k = absurd (omega (arith, k))
many-enough {X} step falls (suc m) (suc n) count tokens h k =
    by (step count tokens) (λ rest fewer. many-enough step falls m n (count + 1) rest (omega arith) (omega arith)) refl
  where
    by : (r : Result (Step X) CFault) →
        ((rest : List Token) → length rest < length tokens →
        many step m (count + 1) rest ≡ many step n (count + 1) rest) → step count tokens ≡ r →
        (r >>= after_step (many step m) count) ≡ (r >>= after_step (many step n) count)
    by (Err fault) later e = refl
    by (Ok (the_end rest)) later e = refl
    by (Ok (one_more x rest)) later e =
        ap (λ r. r >>= (λ (xs : List X × List Token). Ok (x ∷ xs.0, xs.1))) (later rest (falls count tokens x rest e))

-- a list that doesn't look at how many came before
many-uncounted : {X : Type 0} (step : Stepping X) →
    ((count : ℕ) (tokens : List Token) → step count tokens ≡ step 0 tokens) → (m count : ℕ) (tokens : List Token) →
    many step m count tokens ≡ many step m 0 tokens
many-uncounted step same zero count tokens = refl
many-uncounted {X} step same (suc m) count tokens = ap (λ r. r >>= after_step (many step m) count) (same count tokens)
    ∙ by (step 0 tokens) (λ rest. many-uncounted step same m (count + 1) rest ∙ sym (many-uncounted step same m 1 rest))
  where
    by : (r : Result (Step X) CFault) → ((rest : List Token) → many step m (count + 1) rest ≡ many step m 1 rest) →
        (r >>= after_step (many step m) count) ≡ (r >>= after_step (many step m) 0)
    by (Err fault) later = refl
    by (Ok (the_end rest)) later = refl
    by (Ok (one_more x rest)) later = ap (λ r. r >>= (λ (xs : List X × List Token). Ok (x ∷ xs.0, xs.1))) (later rest)

-- an element, and the further ones
behind-one : {X : Type 0} (step : Stepping X) → Falls step → (count : ℕ) (tokens : List Token) (x : X) (rest : List Token) →
    step count tokens ≡ Ok (one_more x rest) →
    many step (suc (length tokens)) count tokens
    ≡ (many step (suc (length rest)) (count + 1) rest >>= (λ (xs : List X × List Token). Ok (x ∷ xs.0, xs.1)))
behind-one {X} step falls count tokens x rest e =
    let fewer : length rest < length tokens = falls count tokens x rest e in
    ap (λ r. r >>= after_step (many step (length tokens)) count) e
    ∙ ap (λ r. r >>= (λ (xs : List X × List Token). Ok (x ∷ xs.0, xs.1)))
    (many-enough step falls (length tokens) (suc (length rest)) (count + 1) rest fewer (omega arith))

counted : {X : Type 0} (step : Stepping X) → Falls step → Continues step (λ count. count + 1)
counted step falls = record { fewer = falls; further = behind-one step falls }

uncounted : {X : Type 0} (step : Stepping X) → Falls step →
    ((count : ℕ) (tokens : List Token) → step count tokens ≡ step 0 tokens) → Continues step (λ count. count)
uncounted {X} step falls same =
    record {
      fewer = falls;
      further = λ count tokens x rest e. behind-one step falls count tokens x rest e
          ∙ ap (λ r. r >>= (λ (xs : List X × List Token). Ok (x ∷ xs.0, xs.1)))
          (many-uncounted step same (suc (length rest)) (count + 1) rest
          ∙ sym (many-uncounted step same (suc (length rest)) count rest));
    }

pub lists_continue : ListsContinue
lists_continue =
    record {
      values = λ last levels. uncounted (values_step last (parse_operand last levels))
          (values_step-falls last levels) (λ count ts. refl);
      arguments = λ last limits. uncounted (arguments_step last limits) (arguments_step-falls last limits) (λ count ts. refl);
      statements = λ last limits levels. uncounted (stmts_step last limits (parse_stmt last limits levels))
          (stmts_step-falls last limits levels) (λ count ts. refl);
      pure_params = λ last limits. counted (pure_params_step last limits) (pure_params_step-falls last limits);
      params = λ last limits. counted (params_step last limits) (params_step-falls last limits);
      fields = λ last limits. uncounted (fields_step last limits) (fields_step-falls last limits) (λ count ts. refl);
      pures = λ last limits. counted (pures_step last limits) (pures_step-falls last limits);
      structs = λ last limits. uncounted (structs_step last limits) (structs_step-falls last limits) (λ count ts. refl);
      procedures = λ last limits. uncounted (procedures_step last limits) (procedures_step-falls last limits) (λ count ts. refl);
    }
