use Rattle.std.proofs.Common.{◌++◌, ◌-◌, ◌<◌, sym, subst, rules, length, take, drop, get_or, pos, FitsSigned, w64}
use Rattle.std.proofs.Math.Facts.{to_z-of_z}
use Rattle.std.specs.Prelude.{OnOk, OnErr, flat_map}
use Rattle.std.specs.Fmt.{signed_decimal}
use Rattle.base_host.specs.Files.{PutsFront}
use Rattle.base_host.specs.Buffers.{PutsAllBut}
use Rattle.tool_runner.proofs.OutputLines.{behind, joined_numbers}
use Rattle.tool_stream.proofs.lemmas.Waiting.{text_then, front_then, front_of_error}
use Rattle.tool_runner.proofs.outputs.put_numbers.Goals as goal

pub returns-in_err-put_number-clause-front : goal.returns-in_err-put_number-clause-front
returns-in_err-put_number-clause-front g c =
    let numbers = c.args.numbers.now in
    let first = get_or numbers 0 (pos 0) in
    let some : 0 < length numbers = search rules in
    let fits : FitsSigned w64 first = search rules in
    subst (λ t.
    OnErr c.from_residual.result (PutsFront (g.S.Sink.bytes c.args.sink.now) (g.S.Sink.bytes c.put_number.new.sink)
    (c.args.lines.now ++ t))) (sym (joined_numbers numbers (pos 0) some))
    (front_of_error c.from_residual.result c.args.lines.now (signed_decimal first)
    (flat_map behind (take (length numbers - 1) (drop 1 numbers))) _ _
    (subst (λ x. PutsFront (g.S.Sink.bytes c.args.sink.now) (g.S.Sink.bytes c.put_number.new.sink)
    (c.args.lines.now ++ signed_decimal x)) (to_z-of_z fits) c.in_err-put_number.ensures.front))

pub returns-clause-taken : goal.returns-clause-taken
returns-clause-taken g c =
    let numbers = c.args.numbers.now in
    let first = get_or numbers 0 (pos 0) in
    let some : 0 < length numbers = search rules in
    let fits : FitsSigned w64 first = search rules in
    subst (λ t.
    OnOk c.put_others.result
    (PutsAllBut c.put_others.new.lines (c.args.lines.now ++ t) (g.S.Sink.bytes c.args.sink.now)
    (g.S.Sink.bytes c.put_others.new.sink))) (sym (joined_numbers numbers (pos 0) some))
    (text_then c.put_others.result c.args.lines.now c.put_number.new.lines _ (signed_decimal first)
    (flat_map behind (take (length numbers - 1) (drop 1 numbers))) _ _ _
    (subst (λ x. PutsAllBut c.put_number.new.lines (c.args.lines.now ++ signed_decimal x)
    (g.S.Sink.bytes c.args.sink.now) (g.S.Sink.bytes c.put_number.new.sink))
    (to_z-of_z fits) c.in_ok-put_number.ensures.taken)
    c.put_others.ensures.taken)

pub returns-clause-front : goal.returns-clause-front
returns-clause-front g c =
    let numbers = c.args.numbers.now in
    let first = get_or numbers 0 (pos 0) in
    let some : 0 < length numbers = search rules in
    let fits : FitsSigned w64 first = search rules in
    subst (λ t.
    OnErr c.put_others.result (PutsFront (g.S.Sink.bytes c.args.sink.now) (g.S.Sink.bytes c.put_others.new.sink)
    (c.args.lines.now ++ t))) (sym (joined_numbers numbers (pos 0) some))
    (front_then c.put_others.result c.args.lines.now c.put_number.new.lines (signed_decimal first)
    (flat_map behind (take (length numbers - 1) (drop 1 numbers))) _ _ _
    (subst (λ x. PutsAllBut c.put_number.new.lines (c.args.lines.now ++ signed_decimal x)
    (g.S.Sink.bytes c.args.sink.now) (g.S.Sink.bytes c.put_number.new.sink))
    (to_z-of_z fits) c.in_ok-put_number.ensures.taken)
    c.put_others.ensures.front)
