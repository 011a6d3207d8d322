use Rattle.std.proofs.Common.{[], ◌∷◌, ◌++◌, subst, rules, FitsSigned, w64}
use Rattle.std.proofs.Math.Facts.{to_z-of_z}
use Rattle.std.specs.Prelude.{OnOk, OnErr}
use Rattle.std.specs.Fmt.{signed_decimal}
use Rattle.base_host.specs.Files.{PutsFront}
use Rattle.base_host.specs.Buffers.{PutsAllBut}
use Rattle.tool_stream.proofs.lemmas.Waiting.{text_then, front_then, front_of_error}
use Rattle.tool_runner.proofs.outputs.put_behind.Goals as goal

pub returns-in_err-put-clause-front : goal.returns-in_err-put-clause-front
returns-in_err-put-clause-front g c =
    front_of_error c.from_residual.result c.args.lines.now (32 ∷ []) (signed_decimal c.args.number) _ _ c.in_err-put.ensures.front

pub returns-clause-taken : goal.returns-clause-taken
returns-clause-taken g c =
    let fits : FitsSigned w64 c.args.number = search rules in
    text_then c.put_number.result c.args.lines.now c.put.new.self _ (32 ∷ []) (signed_decimal c.args.number) _ _ _ c.in_ok-put.ensures.taken
    (subst (λ n.
    OnOk c.put_number.result
    (PutsAllBut c.put_number.new.lines (c.put.new.self ++ signed_decimal n) (g.S.Sink.bytes c.put.new.sink)
    (g.S.Sink.bytes c.put_number.new.sink))) (to_z-of_z fits) c.put_number.ensures.taken)

pub returns-clause-front : goal.returns-clause-front
returns-clause-front g c =
    let fits : FitsSigned w64 c.args.number = search rules in
    front_then c.put_number.result c.args.lines.now c.put.new.self (32 ∷ []) (signed_decimal c.args.number) _ _ _ c.in_ok-put.ensures.taken
    (subst (λ n.
    OnErr c.put_number.result (PutsFront (g.S.Sink.bytes c.put.new.sink) (g.S.Sink.bytes c.put_number.new.sink)
    (c.put.new.self ++ signed_decimal n))) (to_z-of_z fits) c.put_number.ensures.front)
