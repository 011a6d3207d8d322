use Rattle.std.proofs.Common.{◌≡◌, ◌<◌, ℕ, slice_index_or}
use Rattle.modules_profile.specs.SystemProfile.{SystemProfile}
use Rattle.tool_system_driver.proofs.profile.profile_in.Given as goal

abbrev pub invariant-loop-profile : goal.invariant-loop-profile
invariant-loop-profile l = (k : ℕ) (d : SystemProfile) → k < l.profile-index → (slice_index_or l.profiles k d).row ≡ l.system → ⊥
