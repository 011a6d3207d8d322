use Rattle.std.proofs.Common.{◌≡◌, ◌∙◌, ap}
use Rattle.std.proofs.lemmas.Result.{IfErr-weaker, IfOk-weaker}
use Rattle.clap.specs.Words.{app_of, is_simple, subcommand_of, takes}
use Rattle.tool_words.specs.Words.{word_bytes}
use Rattle.tool_words.specs.Program.{program, asked_in}
use Rattle.tool_words.proofs.Laws.{all_words}
use Rattle.tool_words.proofs.reading.parsed.Goals as goal

pub returns : goal.returns
returns c =
    let texts = word_bytes c.args.words.now in
    let app_is : app_of c.in_ok-program.program ≡ program = c.in_ok-program.ensures in
    let serves = all_words texts c.requires in
    let parse = c.try_get_matches_from in
    record {
      values =
          IfOk-weaker parse.result _ _
          (λ m h. ap asked_in ((h (ap is_simple app_is)).1 ∙ ap (λ a. subcommand_of a texts) app_is)
          ∙ serves.1) parse.ensures.matches;
      memory = IfErr-weaker parse.result _ _ (λ e h. h (ap (λ a. takes a texts) app_is ∙ serves.0)) parse.ensures.passes;
    }
