use Rattle.std.proofs.Common.{arith}
use Rattle.std.specs.Char.{is_ascii_digit}
use Rattle.std.proofs.lemmas.List.Sums.{prefix_len-le-length}
use Rattle.c_syntax.specs.Names.{is_word_byte}
use Rattle.lustre_tokens.proofs.Pieces.{blank-piece, word-piece, number-piece}
use Rattle.lustre_tokens.proofs.bytes.first_piece.Goals as goal

pub overflow_add-result : goal.overflow_add-result
overflow_add-result c = omega (arith, c.word_len.ensures, prefix_len-le-length is_word_byte c.args.rest.now)

pub overflow_add-result-then-is_ascii_digit : goal.overflow_add-result-then-is_ascii_digit
overflow_add-result-then-is_ascii_digit c = omega (arith, c.digits_len.ensures, prefix_len-le-length is_ascii_digit c.args.rest.now)

pub returns-then-is_white_space : goal.returns-then-is_white_space
returns-then-is_white_space c = blank-piece c.args.first c.args.rest.now c.if-is_white_space.ensures

pub returns-then-is_word_start : goal.returns-then-is_word_start
returns-then-is_word_start c =
    word-piece c.args.first c.word_len.result c.args.rest.now c.if-is_white_space.ensures c.if-is_word_start.ensures
    c.word_len.ensures

pub returns-then-is_ascii_digit : goal.returns-then-is_ascii_digit
returns-then-is_ascii_digit c =
    number-piece c.args.first c.digits_len.result c.args.rest.now c.if-is_white_space.ensures c.if-is_word_start.ensures
    c.if-is_ascii_digit.ensures.value c.digits_len.ensures
