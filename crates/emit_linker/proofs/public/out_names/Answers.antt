use Rattle.std.proofs.Common.{◌≡◌, ◌<◌, ◌+◌, ◌++◌, ℕ, List, length, below_more, sym, ap, ◌∙◌, arith}
use Rattle.std.specs.Prelude.{codes as text, decimal}
use Rattle.std.proofs.lemmas.List.{length-map}
use Rattle.c_syntax.specs.Plain.{procedure_tree}
use Rattle.emit_shape.specs.SystemTree.{system_tree}
use Rattle.emit_shape.specs.Assembled.{has_procedure}
use Rattle.emit_linker.proofs.OutNames.{names-stop, names-all, names-push}
use Rattle.emit_linker.proofs.public.out_names.Goals as goal

pub returns-then-not-has_procedure : goal.returns-then-not-has_procedure
returns-then-not-has_procedure c =
    let code = system_tree c.args.code.now in
    let i = c.loop-before.before in
    let many = length-map c.procedures_of-before-end.result.now procedure_tree in
    let all = ap length c.procedures_of-before-end.ensures in
    let less = c.loop-before-test.true in
    let within : i < length code.procedures = omega (arith, many, all, less) in
    let is = c.bytes.ensures ∙ c.in_ok-name.ensures
    ∙ ap (λ (s : List ℕ). s ++ text "_out" ++ decimal (i + 1)) c.system_name-system.ensures in
    let here = ap (has_procedure code) (sym is) ∙ sym c.has_procedure.ensures ∙ c.if-not-has_procedure.true in
    c.loop-before.invariant.found ∙ names-stop code i within c.loop-before.invariant.passed here

pub loop-before-preserved : goal.loop-before-preserved
loop-before-preserved c =
    let code = system_tree c.args.code.now in
    let i = c.loop-before.before in
    let named = c.in_ok-name.ensures ∙ ap (λ (s : List ℕ). s ++ text "_out" ++ decimal (i + 1)) c.system_name-system.ensures in
    let here = ap (has_procedure code) (sym (c.bytes.ensures ∙ named)) ∙ sym c.has_procedure.ensures ∙ c.if-not-has_procedure.false in
    record {
      found = names-push code i c.in_ok-name.name c.loop-before.names.items _ c.in_ok-push.ensures.items c.loop-before.invariant.found
          named;
      passed = below_more _ i c.loop-before.invariant.passed here;
    }

pub returns : goal.returns
returns c =
    let code = system_tree c.args.code.now in
    let i = c.loop-before.before in
    let many = length-map c.procedures_of-before-end.result.now procedure_tree in
    let whole = ap length c.procedures_of-before-end.ensures in
    let no_less = c.loop-before-test.false in
    let no_more = c.loop-before.auto.before-end in
    let all : length code.procedures ≡ i = omega (arith, many, whole, no_less, no_more) in
    c.loop-before.invariant.found ∙ names-all code i all c.loop-before.invariant.passed
