-- Controls over a few ticks.
use Rattle.std.specs.Prelude.{◌≡◌, true, false, pos, negsuc, refl}
use Rattle.base_core.specs.declared.Control.TheVariants.{Enabled, Triggered, Both}
use Rattle.base_core.specs.declared.Edge.TheVariants.{Rising, Falling, Either}
use Rattle.diagram_activity.specs.declared.memory.TrigMem.TheVariants.{NotYet, Low, High}
use Rattle.diagram_activity.specs.Activity.{active, off, edge, next_memory}

-- a trigger of 1, 0, 1, 1 has an event at the third tick alone
pub first_tick : active true (Triggered Rising) NotYet (pos 0) (pos 1) ≡ false
first_tick = refl

pub first_memory : next_memory true NotYet (pos 1) ≡ High
first_memory = refl

pub second_memory : next_memory true High (pos 0) ≡ Low
second_memory = refl

pub third_tick : active true (Triggered Rising) Low (pos 0) (pos 1) ≡ true
third_tick = refl

pub fourth_tick : active true (Triggered Rising) High (pos 0) (pos 1) ≡ false
fourth_tick = refl

pub a_fall : edge Falling High (negsuc 0) ≡ true
a_fall = refl

pub either_rises : edge Either Low (pos 3) ≡ true
either_rises = refl

-- an inactive system around it changes nothing
pub kept : next_memory false Low (pos 1) ≡ Low
kept = refl

-- disabling resets where the system around is active, and only with reset
pub resets : off true (Enabled true) (pos 0) ≡ true
resets = refl

pub holds : off true (Enabled false) (pos 0) ≡ false
holds = refl

pub outer_disabled : off false (Enabled true) (pos 0) ≡ false
outer_disabled = refl

-- with both, a rise counts only where the enable is above 0, and the enable alone doesn't count
pub both_stand : active true (Both false Rising) Low (pos 1) (pos 1) ≡ true
both_stand = refl

pub disabled_at_a_rise : active true (Both false Rising) Low (pos 0) (pos 1) ≡ false
disabled_at_a_rise = refl

pub enabled_without_a_rise : active true (Both false Rising) High (pos 1) (pos 1) ≡ false
enabled_without_a_rise = refl

pub inside_an_inactive_one : active false (Both false Either) Low (pos 1) (pos 1) ≡ false
inside_an_inactive_one = refl

-- with both, the enable alone says whether states are lost
pub both_reset : off true (Both true Rising) (pos 0) ≡ true
both_reset = refl

pub both_hold : off true (Both false Rising) (pos 0) ≡ false
both_hold = refl

pub both_enabled : off true (Both true Rising) (pos 1) ≡ false
both_enabled = refl
