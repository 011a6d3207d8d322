use Rattle.std.proofs.Common.{◌≡◌, None, eqb, find, take}
use Rattle.modules_profile.proofs.places.place_of.Given as goal

abbrev pub invariant-loop-place : goal.invariant-loop-place
invariant-loop-place l = find (λ e. eqb e.1 l.port) (take l.place-index l.ported) ≡ None
