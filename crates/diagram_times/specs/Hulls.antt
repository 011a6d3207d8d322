-- The smallest sample time that includes others.
use Rattle.std.specs.Prelude.{◌≡◌, ℕ, ◌^◌, ◌<◌, Option, Some, None, ⊤}
use Rattle.std.specs.Int.{◌∣◌, abs_diff}
use Rattle.diagram_meaning.specs.declared.times.Time.{Time}
use Rattle.diagram_meaning.specs.SampleTimes.{Includes}

-- the greatest number that divides both periods and the distance of the offsets
pub record IsCommonPeriod (a b : Time) (period : ℕ) : Type 0 where
  pub some : 0 < period
  pub first : period ∣ a.period
  pub second : period ∣ b.period
  pub apart : period ∣ abs_diff a.offset b.offset
  pub greatest : (n : ℕ) → n ∣ a.period → n ∣ b.period → n ∣ abs_diff a.offset b.offset → n ∣ period

-- the smallest sample time that includes both
pub record IsHull (a b hull : Time) : Type 0 where
  pub first : Includes hull a
  pub second : Includes hull b
  pub smallest : (other : Time) → Includes other a → Includes other b → Includes other hull

-- what was found, if anything, includes a time
abbrev pub Covers : Option Time → Time → Type 0
Covers None time = ⊥
Covers (Some found) time = Includes found time

-- what was found includes all that a second search found
abbrev pub CoversAll : Option Time → Option Time → Type 0
CoversAll found None = ⊤
CoversAll found (Some time) = Covers found time

-- how far what was found may still shrink: by its period, where it was none by any period
abbrev pub room : Option Time → ℕ
room None = 2 ^ 32
room (Some time) = time.period

-- what was found is widened by a time that it does not include
abbrev pub IsWidened : Option Time → Time → Time → Type 0
IsWidened None time wider = (wider ≡ time) × (wider.period < 2 ^ 32)
IsWidened (Some found) time wider = IsHull found time wider × (wider.period < found.period)

-- the smallest time that includes both, where both are there; else the one that is
abbrev pub IsJoined : Option Time → Option Time → Option Time → Type 0
IsJoined None other joined = joined ≡ other
IsJoined (Some found) None joined = joined ≡ Some found
IsJoined (Some found) (Some other) None = ⊥
IsJoined (Some found) (Some other) (Some joined) = IsHull found other joined
