use Rattle.std.proofs.Common.{◌≡◌, None, sym, ◌∙◌, arith}
use Rattle.c_syntax.specs.Plain.{expr_tree}
use Rattle.emit_inlined.specs.Inlined.{param_of}
use Rattle.emit_inlined.proofs.FoundHelpers.{params-more, params-none}
use Rattle.emit_inlined.proofs.finding.passed_params.Goals as goal

pub returns-in_default : goal.returns-in_default
returns-in_default c =
    let none : param_of (expr_tree c.value-item.result) ≡ None = sym c.param_of.ensures ∙ c.in_default.is in
    sym (params-none c.args.values.now c.loop-value.value-index c.value-item.result (omega (arith, c.loop-value-test.true))
    c.value-item.is none)

pub loop-value-preserved : goal.loop-value-preserved
loop-value-preserved c =
    params-more c.args.values.now c.loop-value.value-index c.value-item.result c.loop-value.params.items c.push.new.self.items
    c.in-Some.param (omega (arith, c.loop-value-test.true)) c.value-item.is c.loop-value.invariant (sym c.in-Some.ensures)
    c.in_ok-push.ensures.items
