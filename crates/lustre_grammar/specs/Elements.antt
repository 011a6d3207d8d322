-- What the elements of lists have in common.
use Rattle.std.specs.Prelude.{◌≡◌, ℕ, ◌<◌, List, length, Ok}
use Rattle.c_grammar.specs.Tokens.{Token}
use Rattle.c_grammar.specs.Parsing.{Parsed}

-- what is parsed so takes a token at least; the number is the last line of the text
abbrev pub TakesTokens : {X : Type 0} → (ℕ → List Token → Parsed X) → Type 0
TakesTokens {X} parse =
    (last : ℕ) (tokens : List Token) (x : X) (rest : List Token) → parse last tokens ≡ Ok (x, rest) →
    length rest < length tokens
