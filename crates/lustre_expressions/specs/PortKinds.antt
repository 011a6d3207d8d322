-- The rows of a system that are its Inports or its Outports.
use Rattle.std.specs.Prelude.{ℕ, Bool, true, false, ◌==◌, List, filter, filter_map, find, length}
use Rattle.std.specs.List.{range_with_len}
use Rattle.diagram_blocks.specs.declared.Kind.{Kind}
use Rattle.diagram_blocks.specs.Kinds.{is_inport, is_outport, port_of}
use Rattle.diagram_meaning.specs.declared.table.Row.{Row}
use Rattle.diagram_meaning.specs.Rows.{row_at}

-- whether a row is an Outport, or else an Inport
abbrev pub is_port : Bool → Kind → Bool
is_port true kind = is_outport kind
is_port false kind = is_inport kind

-- those of some rows
abbrev pub ports_among : List Row → List ℕ → Bool → List ℕ
ports_among rows own outputs = filter (λ b. is_port outputs (row_at rows b).kind) own

-- some rows by their ports
abbrev pub ordered : List Row → List ℕ → List ℕ
ordered rows among =
    filter_map (λ k. find (λ b. port_of (row_at rows b).kind == k) among)
    (range_with_len 1 (length among))
