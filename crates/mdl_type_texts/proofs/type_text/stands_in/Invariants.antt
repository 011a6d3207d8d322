use Rattle.std.proofs.Common.{◌≡◌, length}
use Rattle.mdl_type_texts.specs.TypeTexts.{stands_in}
use Rattle.mdl_type_texts.proofs.type_text.stands_in.Given as goal

-- the part isn't before what is left
abbrev pub invariant-loop-rest : goal.invariant-loop-rest
invariant-loop-rest l = stands_in l.part l.rest ≡ stands_in l.part l.fn.text

abbrev pub decreases-loop-rest : goal.decreases-loop-rest
decreases-loop-rest l = length l.rest
