use Rattle.std.proofs.Common.{◌≡◌, ◌+◌, length, option_map}
use Rattle.c_grammar.specs.Tokens.{comment_end}
use Rattle.c_tokens.proofs.bytes.comment_end.Given as goal

abbrev pub invariant-loop-rest : goal.invariant-loop-rest
invariant-loop-rest l =
    record {
      same : comment_end l.bytes ≡ option_map (λ n. n + l.before) (comment_end l.rest);
      all : l.before + length l.rest ≡ length l.bytes;
    }

abbrev pub decreases-loop-rest : goal.decreases-loop-rest
decreases-loop-rest l = length l.rest
