use Rattle.std.proofs.Common.{◌≡◌, ◌-◌, ◌≤◌, ◌∙◌, ap, sym, length, get_or, w64, FitsSigned, rules, arith}
use Rattle.std.specs.Prelude.{Some}
use Rattle.std.proofs.lemmas.Int.{to_z-of_z}
use Rattle.tool_traces.specs.Fields.{fields}
use Rattle.tool_scripts.specs.Numbers.{numbers_of, with_number}
use Rattle.tool_scripts.specs.Calls.{function_numbered}
use Rattle.tool_scripts.proofs.CallLaws.{out_counted}
use Rattle.tool_scripts.proofs.calls.read_out.Goals as goal

pub returns-clause-call : goal.returns-clause-call
returns-clause-call c =
    let numbers = numbers_of (fields c.in-Some.rest.now) in
    let whole : numbers_of (fields c.args.text.now) ≡ with_number (Some c.in-Some-field_number.number) numbers =
    ap numbers_of c.in-Some.ensures.parts ∙ ap (λ v. with_number v numbers) (sym c.field_number.ensures ∙ c.in-Some-field_number.is) in
    let kept : FitsSigned w64 c.in-Some-field_number.number = search rules in
    let j = c.in-Some-function_numbered.function in
    let is = c.in-Some-function_numbered.ensures in
    let function = is.function ∙ ap (function_numbered (length c.args.counts.now)) (to_z-of_z w64 c.in-Some-field_number.number kept) in
    let within : get_or c.args.counts.now (j - 1) 0 ≤ length c.args.into.now =
    c.requires.most (j - 1) 0 (omega (arith, is.first, is.last)) in
    let room : get_or c.args.counts.now (j - 1) 0 ≤ length c.read_numbers.new.into = omega (arith, within, c.read_numbers.ensures.room) in
    out_counted c.args.counts.now (numbers_of (fields c.args.text.now)) numbers c.in-Some-field_number.number
    c.in-Some-read_numbers.found j c.read_numbers.new.into c.counted.result
    whole c.in-Some-read_numbers.ensures.numbers function is.first room c.counted.ensures
