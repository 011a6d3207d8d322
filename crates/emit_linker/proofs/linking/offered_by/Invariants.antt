use Rattle.std.proofs.Common.{◌≡◌, map, take}
use Rattle.std.specs.List.{flat_map}
use Rattle.emit_shape.specs.Assembled.{public_positions, code_named}
use Rattle.emit_linker.specs.Places.{trees}
use Rattle.emit_linker.proofs.linking.offered_by.Given as goal

abbrev pub invariant-loop-name : goal.invariant-loop-name
invariant-loop-name l = l.offered.items
    ≡ flat_map (λ name. public_positions (trees l.codes.list.now) (code_named (trees l.codes.list.now) name))
    (map (λ n. n.now) (take l.name-index l.names))
