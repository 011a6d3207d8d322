-- A statement where a level is left.
use Rattle.std.proofs.Common.{◌≡◌, sym, ◌∙◌, ap, ℕ, zero, suc, ◌-◌, ◌<◌, List, Ok, arith}
use Rattle.c_grammar.specs.Tokens.{Token}
use Rattle.base_core.specs.Results.{◌>>=◌}
use Rattle.c_grammar.specs.Parsing.{Parsed, Limits, next, stmt_opener_of, parse_stmt_opened, parse_stmt}
use Rattle.c_grammar.specs.declared.openers.StmtOpener.{StmtOpener}

pub stmt-some : (last : ℕ) (limits : Limits) (levels : ℕ) (tokens : List Token) (t : Token) (rest : List Token)
    (opens_as : StmtOpener) → 0 < levels → next last tokens ≡ Ok (t, rest) → opens_as ≡ stmt_opener_of t.text →
    parse_stmt last limits levels tokens
    ≡ parse_stmt_opened last limits (parse_stmt last limits (levels - 1)) t rest opens_as
stmt-some last limits zero tokens t rest opens_as some first opens = absurd (omega (arith, some))
stmt-some last limits (suc levels) tokens t rest opens_as some first opens =
    ap (λ (r : Parsed Token). r
    >>= (λ (read : Token × List Token). parse_stmt_opened last limits (parse_stmt last limits levels) read.0 read.1
    (stmt_opener_of read.0.text))) first
    ∙ ap (parse_stmt_opened last limits (parse_stmt last limits levels) t rest) (sym opens)
    ∙ ap (λ n. parse_stmt_opened last limits (parse_stmt last limits n) t rest opens_as) same
  where
    same : levels ≡ suc levels - 1
    same = omega arith
