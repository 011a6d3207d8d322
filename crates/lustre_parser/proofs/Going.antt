-- Lists as they are read: elements so far, and those that the rest gives.
use Rattle.std.proofs.Common.{◌≡◌, refl, sym, ◌∙◌, ap, subst, ℕ, suc, ◌+◌, List, [], ◌∷◌, ◌++◌, map, length, append_assoc, Option, Some, Result, Ok, Err}
use Rattle.std.proofs.lemmas.List.{map-append}
use Rattle.base_core.specs.Results.{◌>>=◌}
use Rattle.c_syntax.specs.declared.fault.CFault.{CFault}
use Rattle.c_grammar.specs.Tokens.{Token}
use Rattle.c_grammar.specs.Parsing.{Parsed, Step, one_more, many}
use Rattle.c_expressions.specs.Gives.{GivesMore, behind}
use Rattle.lustre_grammar.proofs.lemmas.Continuing.{Continues}

-- a list of which some elements have been read
pub record Going {X : Type 0} (step : ℕ → List Token → Result (Step X) CFault) (all : Parsed (List X)) (xs : List X) (count : ℕ)
    (tokens : List Token) : Type 0 where
  pub same : all ≡ behind xs (many step (suc (length tokens)) count tokens)

-- what a step of the source says where it gives an element
pub more-is : {A X : Type 0} (view : A → X) (o : Option A) (x : A) (rest : List Token) (step : Result (Step X) CFault) →
    GivesMore view (Ok (o, rest)) step → o ≡ Some x → step ≡ Ok (one_more (view x) rest)
more-is view o x rest step g e = let P : _ = λ p. GivesMore view (Ok (p, rest)) step in subst P e g

after-none : {X : Type 0} (r : Parsed (List X)) → r ≡ behind [] r
after-none (Ok read) = refl
after-none (Err fault) = refl

-- a list of which nothing has been read
pub going-begins : {A X : Type 0} (step : ℕ → List Token → Result (Step X) CFault) (view : A → X) (xs : List A) (count : ℕ)
    (tokens : List Token) → xs ≡ [] → count ≡ 0 →
    Going step (many step (suc (length tokens)) 0 tokens) (map view xs) count tokens
going-begins step view xs count tokens none start =
    record {
      same = after-none (many step (suc (length tokens)) 0 tokens)
          ∙ (λ i. behind (map view (sym none i)) (many step (suc (length tokens)) (sym start i) tokens));
    }

one-after : {X : Type 0} (xs : List X) (x : X) (later : Parsed (List X)) →
    behind xs (later >>= (λ (ys : List X × List Token). Ok (x ∷ ys.0, ys.1))) ≡ behind (xs ++ x ∷ []) later
one-after xs x (Err fault) = refl
one-after xs x (Ok ys) = λ i. Ok (sym (append_assoc xs (x ∷ []) ys.0) i, ys.1)

-- an element that is pushed
pub going-pushed : {A X : Type 0} {step : ℕ → List Token → Result (Step X) CFault} {all : Parsed (List X)} {tokens : List Token}
    (view : A → X) (xs ys : List A) (x : A) (n k m : ℕ) (rest : List Token) → Continues step →
    Going step all (map view xs) n tokens → ys ≡ xs ++ x ∷ [] → k ≡ n → m ≡ n + 1 →
    step k tokens ≡ Ok (one_more (view x) rest) → Going step all (map view ys) m rest
going-pushed {A} {X} {step} {all} {tokens} view xs ys x n k m rest continues g e same counts s =
    record {
      same = g.same
          ∙ ap (behind (map view xs)) (continues.further n tokens (view x) rest (ap (λ j. step j tokens) (sym same) ∙ s))
          ∙ one-after (map view xs) (view x) (many step (suc (length rest)) (n + 1) rest)
          ∙ (λ i. behind (pushed i) (many step (suc (length rest)) (sym counts i) rest));
    }
  where
    pushed : map view xs ++ view x ∷ [] ≡ map view ys
    pushed = sym (map-append view xs (x ∷ [])) ∙ ap (map view) (sym e)
