use Rattle.std.proofs.Common.{◌≡◌, length, sum_by, take}
use Rattle.modules_profile.specs.SystemProfile.{SystemProfile}
use Rattle.emit_program.proofs.counts.function_count.Given as goal

abbrev pub invariant-loop-profile : goal.invariant-loop-profile
invariant-loop-profile l = l.count ≡ sum_by (λ (p : SystemProfile). length p.functions) (take l.profile-index l.profiles)
