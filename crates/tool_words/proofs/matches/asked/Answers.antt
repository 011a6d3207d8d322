use Rattle.std.proofs.Common.{◌∙◌}
use Rattle.clap.specs.Words.{found_of}
use Rattle.clap.specs.declared.parser.matches.ArgMatches.TheViews.{out-ArgMatches}
use Rattle.tool_words.proofs.Values.{asked_as_met}
use Rattle.tool_words.proofs.matches.asked.Goals as goal

pub returns : goal.returns
returns c = record {
  asked = c.asked_of.ensures.asked
      ∙ asked_as_met (out-ArgMatches c.args.matches.now).subcommand c.in_ok-name.name.now
      (found_of c.in_ok-name.values.now) c.in_ok-name.ensures.name c.in_ok-name.ensures.rows;
  bounds = c.asked_of.ensures.bounds;
}
