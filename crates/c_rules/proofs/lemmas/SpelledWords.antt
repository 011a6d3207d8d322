-- Words that are spelled: what they leave, and that they are parsed.
use Rattle.std.proofs.Common.{◌≡◌, refl, ◌∙◌, ap, ℕ, List, [], ◌∷◌, Bool, true, false, ◌==◌, Some, None, Ok, bytes_eq, if◌then◌else◌, unwrap_or}
use Rattle.std.proofs.lemmas.Bool.{eqb-true}
use Rattle.std.proofs.lemmas.Slice.Eq.{bytes_eq-Decides}
use Rattle.c_grammar.specs.Tokens.{Token}
use Rattle.c_grammar.specs.Grammar.{Spelling, word, at_line}
use Rattle.c_grammar.specs.Parsing.{parse_word}
use Rattle.c_grammar.proofs.lemmas.PrefixLaws.{Front, word-front}

-- the token that a spelling with its line begins with
pub record LineFront (line : ℕ) (a : Spelling) (tokens rest : List Token) : Type 0 where
  pub token : Token
  pub later : List Token
  pub list : tokens ≡ token ∷ later
  pub is : token.line ≡ line
  pub inner : a (token ∷ later) ≡ Some rest

pub line-front : (line : ℕ) (a : Spelling) (tokens rest : List Token) → at_line line a tokens ≡ Some rest → LineFront line a tokens rest
line-front line a [] rest h = cc
line-front line a (t ∷ tokens) rest h = by (t.line == line) refl h
  where
    by : (b : Bool) → (t.line == line) ≡ b → (if b then a (t ∷ tokens) else None) ≡ Some rest → LineFront line a (t ∷ tokens) rest
    by true e k = record { token = t; later = tokens; list = refl; is = eqb-true t.line line e; inner = k }
    by false e k = cc

-- what a spelling of one word leaves after a token
pub word-rest : (text : List ℕ) (t : Token) (tokens rest : List Token) → word text (t ∷ tokens) ≡ Some rest →
    (t.text ≡ text) × (tokens ≡ rest)
word-rest text t tokens rest h = by (bytes_eq t.text text) refl h
  where
    by : (b : Bool) → bytes_eq t.text text ≡ b → (if b then Some tokens else None) ≡ Some rest → (t.text ≡ text) × (tokens ≡ rest)
    by true e k = ((bytes_eq-Decides t.text text).0 e, ap (λ o. unwrap_or o tokens) k)
    by false e k = cc

pub word-parsed : (last : ℕ) (text : List ℕ) (tokens rest : List Token) → word text tokens ≡ Some rest → parse_word last text tokens ≡ Ok (tt, rest)
word-parsed last text tokens rest h =
    let f : Front text tokens rest = word-front text tokens rest h in
    let same : bytes_eq f.token.text text ≡ true = (bytes_eq-Decides f.token.text text).1 f.same in
    ap (parse_word last text) f.list ∙ rw same refl
