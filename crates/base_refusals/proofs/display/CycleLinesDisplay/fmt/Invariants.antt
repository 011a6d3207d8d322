use Rattle.std.proofs.Common.{◌∷◌, flat_map, take}
use Rattle.std.specs.Fmt.{HasWritten, IsPlainFormatter}
use Rattle.base_refusals.specs.Refusals.{line_word}
use Rattle.base_refusals.proofs.display.CycleLinesDisplay.fmt.Given as goal

-- the lines so far are written
abbrev pub invariant-loop-place : goal.invariant-loop-place
invariant-loop-place g l =
    IsPlainFormatter l.initial.f →
    HasWritten g.W.Write.write_str_gives l.initial.f
    (flat_map (λ place. 32 ∷ line_word place) (take l.place-index l.place-items)) l.f
