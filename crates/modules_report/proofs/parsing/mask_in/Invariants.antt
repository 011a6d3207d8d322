use Rattle.std.proofs.Common.{◌≡◌, ◌<◌, ◌^◌, All, List, map, take}
use Rattle.base_core.specs.declared.Port.{Port}
use Rattle.base_core.specs.Words.{port_word}
use Rattle.base_core.specs.Ports.{ports_mask}
use Rattle.modules_report.specs.Guesses.{IsPlaced}
use Rattle.modules_report.proofs.parsing.mask_in.Given as goal

abbrev pub invariant-loop-word : goal.invariant-loop-word
invariant-loop-word l =
    (ps : List Port) → All IsPlaced ps → map (λ w. w.now) l.words ≡ map port_word ps → ports_mask ps < 2 ^ 64 →
    l.mask ≡ ports_mask (take l.word-index ps)
