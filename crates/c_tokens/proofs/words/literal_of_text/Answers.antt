use Rattle.std.proofs.Common.{◌≡◌, sym, ◌∙◌, ◌<◌, ◌^◌, true, arith}
use Rattle.c_tokens.specs.Numerals.{is_plain_numeral}
use Rattle.c_tokens.proofs.Numerals.{fits-literal, wide-no_literal, capped}
use Rattle.c_tokens.proofs.words.literal_of_text.Goals as goal

pub returns-then-value : goal.returns-then-value
returns-then-value c =
    let plain : is_plain_numeral c.args.text.now ≡ true = sym c.is_plain_numeral.ensures ∙ c.if-not-is_plain_numeral.false in
    wide-no_literal c.args.text.now
    ((capped c.args.text.now c.capped_number-value.result plain c.capped_number-value.ensures).1 c.if-value.true)

pub returns : goal.returns
returns c =
    let plain : is_plain_numeral c.args.text.now ≡ true = sym c.is_plain_numeral.ensures ∙ c.if-not-is_plain_numeral.false in
    let small : c.capped_number-value.result < 2 ^ 63 = omega (arith, c.capped_number-value.ensures, c.if-value.false) in
    let same : _ = (capped c.args.text.now c.capped_number-value.result plain c.capped_number-value.ensures).0 small in
    (fits-literal c.args.text.now plain (omega (arith, same, small)), sym same)
