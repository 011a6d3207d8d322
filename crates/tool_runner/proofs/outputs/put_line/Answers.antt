use Rattle.std.proofs.Common.{[], ◌∷◌, map}
use Rattle.std.specs.Fmt.{signed_decimal}
use Rattle.std.specs.List.{join_with_byte}
use Rattle.tool_stream.proofs.lemmas.Waiting.{text_then, front_then, front_of_error}
use Rattle.tool_runner.proofs.outputs.put_line.Goals as goal

pub returns-in_err-put_numbers-clause-front : goal.returns-in_err-put_numbers-clause-front
returns-in_err-put_numbers-clause-front g c =
    front_of_error c.from_residual.result c.args.lines.now (join_with_byte 32 (map signed_decimal c.args.outputs.now))
    (10 ∷ []) _ _ c.in_err-put_numbers.ensures.front

pub returns-clause-taken : goal.returns-clause-taken
returns-clause-taken g c =
    text_then c.put.result c.args.lines.now c.put_numbers.new.lines _
    (join_with_byte 32 (map signed_decimal c.args.outputs.now)) (10 ∷ []) _ _ _
    c.in_ok-put_numbers.ensures.taken c.put.ensures.taken

pub returns-clause-front : goal.returns-clause-front
returns-clause-front g c =
    front_then c.put.result c.args.lines.now c.put_numbers.new.lines
    (join_with_byte 32 (map signed_decimal c.args.outputs.now)) (10 ∷ []) _ _ _
    c.in_ok-put_numbers.ensures.taken c.put.ensures.front
