-- What the parse of a list answers is what the needs say.
use Rattle.std.proofs.Common.{◌≡◌, refl, ℕ, zero, suc, ◌+◌, ◌<◌, List, [], ◌∷◌, ◌++◌, length, Bool, true, false, Option, Result, codes, bytes_eq, arith, if◌then◌else◌}
use Rattle.c_syntax.specs.declared.fault.CFault.{CFault}
use Rattle.c_grammar.specs.Tokens.{Token}
use Rattle.c_grammar.specs.Prefix.{Need, leaves, with_needs, first_reply, comma_reply, on_reply, token_fault}
use Rattle.c_grammar.specs.Parsing.{Step, one_more, the_end, after_step, many, comma_of, syntax_at}
use Rattle.c_grammar.specs.declared.openers.Comma.{Comma}
use Rattle.c_grammar.specs.declared.openers.Comma.TheVariants.{Another as another, Closed as closed, Nothing as no_comma}
use Rattle.c_grammar.proofs.Answering.{Answers, chain}

-- in these, `stack` says what is needed after so many elements, `more` what is needed after the list, and `listed` which
-- elements are between two lists of tokens
module _ {X : Type 0} (last : ℕ) (stack : ℕ → List Need) (more : List Need) (listed : List X → List Token → List Token → Type 0) where
  -- an element that is before others
  pub record Further (now : Option CFault) (count : ℕ) (tokens : List Token) (x : X) (rest : List Token) : Type 0 where
    pub grows : (xs : List X) (end : List Token) → listed xs rest end → listed (x ∷ xs) tokens end
    pub shorter : length rest < length tokens
    pub goes : now ≡ token_fault (stack (count + 1)) last rest

  -- the end of the list
  pub record Ends (now : Option CFault) (tokens rest : List Token) : Type 0 where
    pub none : listed [] tokens rest
    pub goes : now ≡ token_fault more last rest

  abbrev pub Stepped : Option CFault → ℕ → List Token → Step X → Type 0
  Stepped now count tokens (one_more x rest) = Further now count tokens x rest
  Stepped now count tokens (the_end rest) = Ends now tokens rest

  -- the elements of the list
  pub record ReadsList (now : Option CFault) (tokens : List Token) (x : List X × List Token) : Type 0 where
    pub elements : listed x.0 tokens x.1
    pub goes : now ≡ token_fault more last x.1

  abbrev pub StepReads : (ℕ → List Token → Result (Step X) CFault) → Type 0
  StepReads step = (now : Option CFault) (count : ℕ) (tokens : List Token) →
      now ≡ token_fault (stack count) last tokens → Answers now (Stepped now count tokens) (step count tokens)

  pub many-reads : (step : ℕ → List Token → Result (Step X) CFault) → StepReads step →
      (fuel count : ℕ) (now : Option CFault) (tokens : List Token) → length tokens < fuel →
      now ≡ token_fault (stack count) last tokens → Answers now (ReadsList now tokens) (many step fuel count tokens)
  many-reads step each zero count now tokens enough h = absurd (omega (arith, enough))
  many-reads step each (suc fuel) count now tokens enough h =
      chain _ _ (each now count tokens h)
      (by (λ rest shorter k. many-reads step each fuel (count + 1) now rest (omega (arith, enough, shorter)) k))
    where
      by : ((rest : List Token) → length rest < length tokens → now ≡ token_fault (stack (count + 1)) last rest →
          Answers now (ReadsList now rest) (many step fuel (count + 1) rest)) → (s : Step X) →
          Stepped now count tokens s → Answers now (ReadsList now tokens) (after_step (many step fuel) count s)
      by later (the_end rest) e = record { is = record { elements = e.none; goes = e.goes } }
      by later (one_more x rest) e =
          chain _ _ (later rest e.shorter e.goes)
          (λ xs r. record { is = record { elements = e.grows xs.0 xs.1 r.elements; goes = r.goes } })

-- a `,` and a further element, or the `)`
pub comma-reads : {X : Type 0} (last : ℕ) (now : Option CFault) (needs more : List Need) (t : Token)
    (tokens : List Token) (claim : X → Type 0) (go : Comma → Result X CFault) →
    now ≡ on_reply (with_needs (comma_reply needs t.text) more) t.line (λ left. token_fault left last tokens) →
    (bytes_eq t.text (codes ",") ≡ true → now ≡ token_fault (needs ++ more) last tokens →
    Answers now claim (go another)) →
    (bytes_eq t.text (codes ")") ≡ true → now ≡ token_fault more last tokens → Answers now claim (go closed)) →
    go no_comma ≡ syntax_at t → Answers now claim (go (comma_of t.text))
comma-reads last now needs more t tokens claim go h on_comma on_close on_other =
    by (bytes_eq t.text (codes ",")) (bytes_eq t.text (codes ")")) refl refl h
  where
    by : (a b : Bool) → bytes_eq t.text (codes ",") ≡ a → bytes_eq t.text (codes ")") ≡ b →
        now ≡ on_reply (with_needs (first_reply ((a, leaves needs) ∷ (b, leaves []) ∷ [])) more) t.line
        (λ left. token_fault left last tokens) →
        Answers now claim (go (if a then another else (if b then closed else no_comma)))
    by true b e f k = on_comma e k
    by false true e f k = on_close f k
    by false false e f k = rw on_other (record { is = k })
