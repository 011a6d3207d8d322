use Rattle.std.proofs.Common.{◌≡◌, ◌<◌, length}
use Rattle.lustre_grammar.specs.Tokens.{tokens_from}
use Rattle.lustre_tokens.proofs.tokens.Tokens.split_first.Given as goal

abbrev pub invariant-loop-first : goal.invariant-loop-first
invariant-loop-first l =
    record {
      same : tokens_from 0 l.line l.bytes ≡ l.self;
      fits : l.line < 4294967296;
    }

abbrev pub decreases-loop-first : goal.decreases-loop-first
decreases-loop-first l = length l.bytes
