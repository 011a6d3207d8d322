use Rattle.std.proofs.Common.{ℕ, eqb, ap}
use Rattle.std.specs.Option.{option_map}
use Rattle.std.proofs.lemmas.Bool.{eq-eqb, ne_eqb}
use Rattle.modules_profile.proofs.Found.{found-at, found-not}
use Rattle.modules_profile.proofs.places.place_of.Goals as goal

pub returns-then-k-port : goal.returns-then-k-port
returns-then-k-port c =
    ap (option_map (λ (e : ℕ × ℕ). e.0))
    (found-at (λ (e : ℕ × ℕ). eqb e.1 c.args.port) c.args.ported.now c.loop-place.place-index
    (0, 0) c.loop-place-test.true c.loop-place.invariant (eq-eqb _ _ c.if-k-port.true))

pub loop-place-preserved : goal.loop-place-preserved
loop-place-preserved c =
    found-not (λ (e : ℕ × ℕ). eqb e.1 c.args.port) c.args.ported.now c.loop-place.place-index
    (0, 0) c.loop-place-test.true c.loop-place.invariant (ne_eqb _ _ c.if-k-port.false)
