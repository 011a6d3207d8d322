use Rattle.std.proofs.Common.{◌≡◌, ◌+◌, ◌∙◌, ap, sym, subst, set, w64, FitsSigned, rules, arith}
use Rattle.std.specs.Prelude.{Some}
use Rattle.std.proofs.lemmas.Int.{to_z-of_z}
use Rattle.tool_traces.specs.Fields.{fields}
use Rattle.tool_scripts.specs.Numbers.{numbers_of, with_number}
use Rattle.tool_scripts.proofs.NumberLaws.{ReadSoFar, read_into, read_past}
use Rattle.tool_scripts.proofs.numbers.read_numbers.Goals as goal
use Rattle.tool_scripts.proofs.numbers.read_numbers.Goals.{then-found-into, else-found-into}

pub loop-field-preserved : goal.loop-field-preserved
loop-field-preserved c =
    let so = c.loop-field.invariant in
    let all = numbers_of (fields c.args.text.now) in
    let more = numbers_of (fields c.in-Some.behind.now) in
    let number = c.in_ok-number.number in
    let first : numbers_of (fields c.loop-field.rest.now) ≡ with_number (Some number) more =
    ap numbers_of c.in-Some.ensures.parts ∙ ap (λ v. with_number v more) (sym c.field_number.ensures ∙ c.in_ok-number.was) in
    let kept : FitsSigned w64 number = search rules in
    record {
      few = omega (arith, so.few, c.in-Some.ensures.shorter);
      read = elim c.if-found-into.branch [
        | then-found-into w ↦
            subst (ReadSoFar all more (c.loop-field.found + 1))
            (sym (w.into-is ∙ ap (set c.loop-field.into c.loop-field.found) (to_z-of_z w64 number kept)))
            (read_into all _ more c.loop-field.found c.loop-field.into number w.if-found-into.true first so.read)
        | else-found-into w ↦
            subst (ReadSoFar all more (c.loop-field.found + 1)) (sym w.into-is)
            (read_past all _ more c.loop-field.found c.loop-field.into number w.if-found-into.false first so.read)
      ];
    }
