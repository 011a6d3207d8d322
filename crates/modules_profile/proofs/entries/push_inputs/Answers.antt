use Rattle.std.proofs.Common.{◌++◌, ◌∷◌, [], sym, ap, ◌∙◌, get_or, take, append_assoc}
use Rattle.std.specs.List.{enumerate_from}
use Rattle.modules_profile.proofs.EntrySteps.{enumerate-more}
use Rattle.modules_profile.proofs.entries.push_inputs.Goals as goal

pub loop-bit-preserved : goal.loop-bit-preserved
loop-bit-preserved c =
    let wires = c.args.wires.now in
    let i = c.loop-bit.bit in
    c.in_ok-push.ensures.items ∙ ap (λ es. es ++ (i, get_or wires i 0) ∷ []) c.loop-bit.invariant
    ∙ append_assoc c.args.entries.now.items (enumerate_from 0 (take i wires)) ((i, get_or wires i 0) ∷ [])
    ∙ ap (λ es. c.args.entries.now.items ++ es) (sym (enumerate-more wires i 0 c.loop-bit-test.true))
