use Rattle.std.proofs.Common.{◌≡◌, List, map, take}
use Rattle.mdl_library.specs.Library.{Source}
use Rattle.mdl_library.specs.Held.{given_seen, library_seen}
use Rattle.mdl_library.specs.Sizes.{Size, inner_size}
use Rattle.mdl_library.specs.HeldSizes.{are_capped}
use Rattle.mdl_library.proofs.library.Library.next_sizes.Given as goal

abbrev pub invariant-loop-place : goal.invariant-loop-place
invariant-loop-place l =
    (before : List Size) → l.fn.sizes ≡ are_capped before →
    l.next.items ≡ are_capped (map (λ (source : Source). inner_size (library_seen l.fn.self).sources (given_seen l.fn.self.given) before
    source.1.items) (take l.place (library_seen l.fn.self).sources))
