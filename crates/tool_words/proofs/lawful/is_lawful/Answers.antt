use Rattle.std.proofs.Common.{◌∙◌, sym}
use Rattle.tool_words.proofs.WordLists.{asks_by_parts, asks_nothing_by_parts}
use Rattle.tool_words.proofs.lawful.is_lawful.Goals as goal

pub returns-then-are_words : goal.returns-then-are_words
returns-then-are_words c =
    c.takes.ensures ∙ asks_by_parts c.args.words.now c.in-Some.command.now c.in-Some.further.now c.as_str.result.now
    c.in-Some.ensures.cases.0 c.as_str.ensures.value (sym c.are_words.ensures ∙ c.if-are_words.true)

pub returns-else-are_words : goal.returns-else-are_words
returns-else-are_words c =
    c.if-are_words.false ∙ sym (asks_nothing_by_parts c.args.words.now c.in-Some.command.now c.in-Some.further.now
    c.in-Some.ensures.cases.0 (sym c.are_words.ensures ∙ c.if-are_words.false))
