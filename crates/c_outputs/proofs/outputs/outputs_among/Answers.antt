use Rattle.std.proofs.Common.{◌≡◌, sym, ◌∙◌, ap, ◌<◌, ◌++◌, ◌∷◌, [], length, List, ℕ, below_more, arith}
use Rattle.std.proofs.lemmas.List.{length-map}
use Rattle.c_syntax.specs.Outputs.{has_name}
use Rattle.c_outputs.proofs.NameLists.{names_of}
use Rattle.c_outputs.proofs.OutputLaws.{outputs-stop, outputs-all, outputs-push}
use Rattle.c_outputs.proofs.outputs.outputs_among.Goals as goal

pub returns-then-not-contains : goal.returns-then-not-contains
returns-then-not-contains c =
    let names = names_of c.args.names.now in
    let i = c.loop-before.before in
    let within : i < length names = omega (arith, c.loop-before-test.true, length-map c.args.names.now (λ n. n.now)) in
    let here = ap (has_name names) (sym (c.bytes.ensures ∙ c.in_ok-name.ensures))
    ∙ sym (c.requires c.bytes.result.now) ∙ sym c.contains.ensures ∙ c.if-not-contains.true in
    c.loop-before.invariant.found ∙ outputs-stop names i within c.loop-before.invariant.passed here

pub loop-before-preserved : goal.loop-before-preserved
loop-before-preserved c =
    let names = names_of c.args.names.now in
    let i = c.loop-before.before in
    let here = ap (has_name names) (sym (c.bytes.ensures ∙ c.in_ok-name.ensures))
    ∙ sym (c.requires c.bytes.result.now) ∙ sym c.contains.ensures ∙ c.if-not-contains.false in
    record {
      found = c.in_ok-push.ensures.items
          ∙ ap (λ (xs : List (List ℕ)). xs ++ c.in_ok-name.name ∷ []) c.loop-before.invariant.found
          ∙ outputs-push i c.in_ok-name.name c.in_ok-name.ensures;
      passed = below_more _ i c.loop-before.invariant.passed here;
    }

pub returns : goal.returns
returns c =
    let names = names_of c.args.names.now in
    let i = c.loop-before.before in
    let all : length names ≡ i =
    omega (
      arith,
      c.loop-before-test.false,
      c.loop-before.auto.before-end,
      length-map c.args.names.now (λ n. n.now),
    ) in
    c.loop-before.invariant.found ∙ outputs-all names i all c.loop-before.invariant.passed
