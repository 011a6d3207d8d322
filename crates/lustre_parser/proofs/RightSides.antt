-- What several names are given after the `=`.
use Rattle.std.proofs.Common.{◌≡◌, refl, sym, ◌∙◌, ℕ, Bool, true, false, ◌==◌, List, [], ◌∷◌, length}
use Rattle.std.proofs.lemmas.Bool.{eq-eqb}
use Rattle.c_grammar.specs.Tokens.{Token}
use Rattle.lustre_grammar.specs.Parsing.{parse_call, parse_right}

pub right-more : (last line : ℕ) (first : List ℕ) (others : List (List ℕ)) (tokens : List Token) (count : ℕ) (is_empty : Bool) →
    count ≡ length others → is_empty ≡ (count == 0) → is_empty ≡ false →
    parse_right last line first others tokens ≡ parse_call last line (first ∷ others) tokens
right-more last line first [] tokens count is_empty size is some =
    let wrong : true ≡ false = sym (eq-eqb count 0 size) ∙ sym is ∙ some in cc
right-more last line first (text ∷ texts) tokens count is_empty size is some = refl
