-- The values of slots as those of instances.
use Rattle.std.specs.Prelude.{ℤ, List, [], ◌++◌, take, drop, length, Option}
use Rattle.lustre_flows.specs.Instances.{Instance, Instances, instance, no_calls, more_calls, name_count}

-- an instance of this form with these values: those of its names come first, then those of its calls
-- in their order
abbrev mutual
  pub laid : List (Option ℤ) → Instance → Instance
  laid numbers (instance values calls) =
      instance (take (length values) numbers) (all_laid (drop (length values) numbers) calls)

  pub all_laid : List (Option ℤ) → Instances → Instances
  all_laid numbers no_calls = no_calls
  all_laid numbers (more_calls first rest) =
      more_calls (laid numbers first) (all_laid (drop (name_count first) numbers) rest)

-- the values of an instance and of those inside it, in that order
abbrev mutual
  pub flat : Instance → List (Option ℤ)
  flat (instance values calls) = values ++ all_flat calls

  pub all_flat : Instances → List (Option ℤ)
  all_flat no_calls = []
  all_flat (more_calls first rest) = flat first ++ all_flat rest
