use Rattle.std.proofs.Common.{◌≡◌, ◌∙◌}
use Rattle.std.specs.Str.{IsValidUpTo, valid_up_to}
use Rattle.c_printer.proofs.Utf8Test.{utf8-tested}
use Rattle.c_printer.proofs.printing.comments.is_utf8.Goals as goal

pub returns : goal.returns
returns c =
    let text = c.args.text.now in
    c.is_ok.ensures.value
    ∙ utf8-tested (λ s. s.now ≡ text) (λ e. IsValidUpTo text (valid_up_to e)) c.from_utf8.result text c.from_utf8.ensures.cases
