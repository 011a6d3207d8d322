use Rattle.std.proofs.Common.{sym, ap, ◌∙◌, ◌+◌, ◌-◌, nat_le, length}
use Rattle.std.proofs.lemmas.Bool.{eqb-true, eqb-false}
use Rattle.std.proofs.lemmas.List.{length-drop}
use Rattle.std.proofs.lemmas.Result.{IfOk-equal}
use Rattle.c_printer.specs.Comments.{comment_bytes}
use Rattle.c_printer.proofs.EndedLines.{ended-plain, ended-after}
use Rattle.c_printer.proofs.printing.lines.end_line.Goals as goal

pub returns-then-is_empty : goal.returns-then-is_empty
returns-then-is_empty c = λ before front.
    IfOk-equal c.put.result _ _ _ c.put.ensures
    (ended-plain before c.args.out.now.items c.args.note.now c.args.margin c.args.code_at front
    (eqb-true (length c.args.note.now) 0 (sym c.is_empty.ensures ∙ c.if-is_empty.true)))

pub returns-then-go_on_one_line : goal.returns-then-go_on_one_line
returns-then-go_on_one_line c = λ before front.
    let text = c.args.out.now.items in
    let note = c.args.note.now in
    IfOk-equal c.put_after.result _ _ _ c.put_after.ensures
    (ended-after before text note c.args.margin c.args.code_at front
    (eqb-false (length note) 0 (sym c.is_empty.ensures ∙ c.if-is_empty.false))
    (ap (λ n. nat_le (c.args.margin + n + 1 + length (comment_bytes note)) 100)
    (length-drop c.args.code_at text ∙ ap (λ n. n - c.args.code_at) (sym (c.len.ensures ∙ c.args.out.now.ok.0)))
    ∙ sym c.go_on_one_line.ensures ∙ c.if-go_on_one_line.true))
