-- An operand where a level is left.
use Rattle.std.proofs.Common.{◌≡◌, sym, ◌∙◌, ap, ℕ, zero, suc, ◌-◌, ◌<◌, List, Ok, arith}
use Rattle.c_grammar.specs.Tokens.{Token}
use Rattle.base_core.specs.Results.{◌>>=◌}
use Rattle.c_grammar.specs.Parsing.{Parsed, next, opener_of, parse_opened, parse_operand}
use Rattle.c_grammar.specs.declared.openers.Opener.{Opener}
use Rattle.c_grammar.specs.declared.openers.Want.{Want}

pub operand-some : (last levels : ℕ) (want : Want) (tokens : List Token) (t : Token) (rest : List Token)
    (opens_as : Opener) → 0 < levels → next last tokens ≡ Ok (t, rest) → opens_as ≡ opener_of want t.text →
    parse_operand last levels want tokens ≡ parse_opened last (parse_operand last (levels - 1)) want t rest opens_as
operand-some last zero want tokens t rest opens_as some first opens = absurd (omega (arith, some))
operand-some last (suc levels) want tokens t rest opens_as some first opens =
    ap (λ (r : Parsed Token). r
    >>= (λ (read : Token × List Token). parse_opened last (parse_operand last levels) want read.0 read.1
    (opener_of want read.0.text))) first
    ∙ ap (parse_opened last (parse_operand last levels) want t rest) (sym opens)
    ∙ ap (λ n. parse_opened last (parse_operand last n) want t rest opens_as) same
  where
    same : levels ≡ suc levels - 1
    same = omega arith
