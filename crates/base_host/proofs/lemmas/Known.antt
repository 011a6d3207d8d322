-- Bytes and files that may be known, grown one piece after another.
use Rattle.std.proofs.Common.{◌≡◌, ℕ, List, [], ◌∷◌, ◌++◌, refl, ap, append_assoc}
use Rattle.std.specs.Prelude.{Option, Some, None}
use Rattle.std.specs.Io.KnownBytes.{append_known}
use Rattle.base_host.specs.Files.{File, grow_last, add_file, grow_file}

-- two pieces that were written are one
pub append_known-twice : (k : Option (List ℕ)) (a b : List ℕ) → append_known (append_known k a) b ≡ append_known k (a ++ b)
append_known-twice None a b = refl
append_known-twice (Some xs) a b = ap (λ ys. Some ys) (append_assoc xs a b)

-- the last file grows after those before it
pub grow_last-append : (fs : List File) (name a b : List ℕ) →
    grow_last (fs ++ record { name = name; bytes = a } ∷ []) b ≡ fs ++ record { name = name; bytes = a ++ b } ∷ []
grow_last-append [] name a b = refl
grow_last-append (f ∷ []) name a b = refl
grow_last-append (f ∷ g ∷ fs) name a b = ap (λ gs. f ∷ gs) (grow_last-append (g ∷ fs) name a b)

-- two pieces that were written are one
pub grow_file-add_file : (k : Option (List File)) (name a b : List ℕ) → grow_file (add_file k name a) b ≡ add_file k name (a ++ b)
grow_file-add_file None name a b = refl
grow_file-add_file (Some fs) name a b = ap (λ gs. Some gs) (grow_last-append fs name a b)
