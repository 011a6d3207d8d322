use Rattle.std.proofs.Common.{◌≡◌, ◌+◌, ◌^◌, ◌<◌, Some, ◌∙◌, arith, rules}
use Rattle.base_core.specs.Ports.{ports_mask}
use Rattle.modules_report.proofs.PortGuesses.{lists_parts, rest_words}
use Rattle.modules_report.proofs.parsing.lists_in.Goals as goal

pub returns-then-place-lists : goal.returns-then-place-lists
returns-then-place-lists c = λ needs outputs a b m n e.
    let parts = lists_parts (λ w. w.now) c.args.lists.now c.place_of-place.result needs outputs a c.place_of-place.ensures.place e in
    let here = parts.2 in let same = c.if-place-lists.true in absurd (omega (arith, here, same))

pub returns-in-Ok : goal.returns-in-Ok
returns-in-Ok c = λ needs outputs a b m n e.
    let parts = lists_parts (λ w. w.now) c.args.lists.now c.place_of-place.result needs outputs a c.place_of-place.ensures.place e in
    let ins : c.set_in-inputs.result ≡ ports_mask needs = c.set_in-inputs.ensures needs a parts.0 m in
    let given : c.in-Ok.outputs ≡ c.set_in-outputs.result = search rules in
    let outs : c.in-Ok.outputs ≡ ports_mask outputs = given ∙ c.set_in-outputs.ensures outputs b
    (rest_words (λ w. w.now) (c.place_of-place.result + 1) c.args.lists.now ∙ parts.1) (omega (arith, n)) in
    λ k. Some record { inputs = ins k; outputs = outs k }

pub returns-in-Err : goal.returns-in-Err
returns-in-Err c = λ needs outputs a b m n e.
    let parts = lists_parts (λ w. w.now) c.args.lists.now c.place_of-place.result needs outputs a c.place_of-place.ensures.place e in
    let outs : c.set_in-outputs.result ≡ ports_mask outputs = c.set_in-outputs.ensures outputs b
    (rest_words (λ w. w.now) (c.place_of-place.result + 1) c.args.lists.now ∙ parts.1) (omega (arith, n)) in
    let fits : c.set_in-outputs.result < 2 ^ 32 = omega (arith, outs, n) in search (rules, fits)
