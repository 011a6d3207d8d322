-- What is asked of a system's own Inports and Outports: their ports, their rows and their types.
use Rattle.std.specs.Prelude.{Bool, ◌==◌, List, map, filter, filter_map, find, length}
use Rattle.std.specs.List.{range_with_len}
use Rattle.diagram_blocks.specs.declared.kind.Kind.{Kind}
use Rattle.diagram_blocks.specs.Kinds.{port_of}
use Rattle.modules_profile.specs.declared.local.LocalRow.{LocalRow}
use Rattle.emit_row_facts.specs.declared.ported.Ported.{Ported}

abbrev pub ported_of : LocalRow → Ported
ported_of r = record { port = port_of r.kind; row = r.row; out = r.out }

-- of the rows that pass a test on their kind, in the order of the file
abbrev pub ported_among : (Kind → Bool) → List LocalRow → List Ported
ported_among test rows = map ported_of (filter (λ r. test r.kind) rows)

-- these by their ports
abbrev pub by_port : List Ported → List Ported
by_port among = filter_map (λ k. find (λ e. e.port == k) among) (range_with_len 1 (length among))
