-- A system of a diagram by its own rows, and its ports.
use Rattle.std.specs.Prelude.{ℕ, Bool, false, ◌==◌, if◌then◌else◌, List, [], ◌++◌, map, filter, filter_map, find, length, slice_index_or, Option}
use Rattle.std.specs.List.{range_with_len}
use Rattle.diagram_blocks.specs.declared.Kind.{Kind}
use Rattle.diagram_meaning.specs.declared.table.Row.{Row}
use Rattle.diagram_meaning.specs.Rows.{row_at, rows_of, system_control, is_system}
use Rattle.diagram_blocks.specs.Kinds.{is_inport, is_outport, port_of}
use Rattle.diagram_meaning.specs.Diagram.{Diagram, type_at, op_at, time_at}
use Rattle.diagram_meaning.specs.Inputs.{entering_wires, control_wires_of}
use Rattle.modules_profile.specs.declared.local.ChildUse.{ChildUse}
use Rattle.modules_profile.specs.declared.local.LocalRow.{LocalRow}
use Rattle.modules_profile.specs.SystemProfile.{SystemProfile}
use Rattle.modules_profile.specs.SystemHeader.{SystemHeader}
use Rattle.modules_profile.specs.LocalSystem.{LocalSystem}

-- row b with all that its code is made from, where `delays` says which rows delay between rates
abbrev pub local_row : Diagram → List Bool → ℕ → LocalRow
local_row d delays b = record {
  row = b;
  kind = (row_at d.rows b).kind;
  inputs = if is_inport (row_at d.rows b).kind then [] else (row_at d.rows b).inputs;
  op = op_at d b;
  out = type_at d.types b;
  time = time_at d b;
  delays = slice_index_or delays b false;
}

-- of the rows of a system, those that pass a test on their kind, by their ports
abbrev pub ported : List Row → (Kind → Bool) → List ℕ → List ℕ
ported rows test own =
    let inner = filter (λ b. test (row_at rows b).kind) own in
    filter_map (λ k. find (λ b. port_of (row_at rows b).kind == k) inner)
    (range_with_len 1 (length inner))

-- the child with this header: the wires that enter its Inports, and those of its controls
abbrev pub child_use : Diagram → SystemHeader → ChildUse
child_use d h = record {
  header = h;
  wires = entering_wires d.rows h.row;
  controls = control_wires_of d.rows h.row;
}

-- the system s by its own rows, where its children have these headers
abbrev pub local_of : Diagram → List Bool → Option ℕ → List SystemHeader → LocalSystem
local_of d delays s headers = record {
  row = s;
  control = system_control d.rows s;
  controls = map (type_at d.types) (control_wires_of d.rows s);
  rows = map (local_row d delays) (rows_of d.rows s);
  children = map (child_use d) headers;
}

-- the own rows of a kind by their ports
abbrev pub rows_by_port : LocalSystem → (Kind → Bool) → List LocalRow
rows_by_port local test =
    let rows = filter (λ r. test r.kind) local.rows in
    filter_map (λ k. find (λ r. port_of r.kind == k) rows) (range_with_len 1 (length rows))

-- the own Inports by port
abbrev pub inports : LocalSystem → List LocalRow
inports local = rows_by_port local is_inport

-- the own Outports by port
abbrev pub outports : LocalSystem → List LocalRow
outports local = rows_by_port local is_outport

-- the system's own header, with its profile
abbrev pub own_header : LocalSystem → SystemProfile → SystemHeader
own_header local profile = record {
  row = local.row;
  control = local.control;
  inputs = map (λ r. r.out) (inports local);
  controls = local.controls;
  outputs = map (λ r. (r.row, r.out)) (outports local);
  profile = profile;
}

-- the same without functions: the ports of a system by its own rows
abbrev pub bare_header : LocalSystem → SystemHeader
bare_header local = own_header local (record { row = local.row; functions = [] })

-- the own row of this number
abbrev pub row_of : LocalSystem → ℕ → Option LocalRow
row_of local b = find (λ r. r.row == b) local.rows

-- the child of this subsystem row
abbrev pub child_of : LocalSystem → ℕ → Option ChildUse
child_of local e = find (λ u. is_system u.header.row e) local.children

-- the wires that a child's inputs and then its controls read
abbrev pub entering : ChildUse → List ℕ
entering u = u.wires ++ u.controls
