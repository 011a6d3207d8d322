use Rattle.std.proofs.Common.{◌∙◌, ap, ◌<◌, length, arith}
use Rattle.std.proofs.lemmas.Option.{get_or_from_slice_get}
use Rattle.modules_profile.specs.SystemProfile.{SystemProfile}
use Rattle.modules_profile.proofs.lemmas.Members.{of-map, at-in, at-below}
use Rattle.tool_system_driver.proofs.profile.profile_in.Goals as goal

pub unreachable-requires : goal.unreachable-requires
unreachable-requires c =
    let profiles = c.args.profiles.now in
    let (profile, has, of_system) = of-map (λ (p : SystemProfile). p.row) profiles c.args.system c.requires in
    let (k, at) = at-in profiles profile has in
    let below : k < length profiles = at-below profiles k profile at in
    let past = c.loop-profile-test.false in
    c.loop-profile.invariant k profile (omega (arith, below, past))
    (ap (λ (p : SystemProfile). p.row) (get_or_from_slice_get profiles k profile profile at) ∙ of_system)
