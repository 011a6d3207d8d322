-- A text that is found where a default is there.
use Rattle.std.proofs.Common.{refl, ℕ, List, Option, None, Some, Bor, IsSome}
use Rattle.std.specs.Option.{option_copied, option_or}

-- the first of two texts is there where the second is
pub either-some : (own default : Option (List ℕ)) → IsSome default → IsSome (option_or own default)
either-some None default h = h
either-some (Some text) default h = refl

-- a text in memory is there where it is as a plain one
pub copied-some : (text : Option (Bor (List ℕ))) → IsSome (option_copied text) → IsSome text
copied-some None h = h
copied-some (Some text) h = refl
