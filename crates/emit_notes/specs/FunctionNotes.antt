-- The notes on output functions: which Outports each gives, and from which Inports.
use Rattle.std.specs.Prelude.{ℕ, ◌==◌, nat_eq, Bool, false, ◌&&◌, if◌then◌else◌, length, drop, List, [], ◌∷◌, ◌++◌, flat_map, find, slice_get, Option, Some, None, option_and_then, option_to_list, codes}
use Rattle.std.specs.List.{starts_with, range_with_len}
use Rattle.std.specs.Option.{option_map_or, option_or}
use Rattle.c_syntax.specs.Tree.{FieldTree, ParamTree, StructTree, ProcedureTree}
use Rattle.emit_notes.specs.declared.labels.Label.{Label}
use Rattle.emit_notes.specs.declared.name_uses.NameUse.{NameUse}
use Rattle.emit_notes.specs.declared.name_uses.NameUse.TheVariants.{Input}
use Rattle.emit_notes.specs.NameUses.{use_of}
use Rattle.emit_notes.specs.Outports.{value_row, outport_at, stmts_outports}

-- whether there is a port, and it is k
abbrev pub is_port : ℕ → Option ℕ → Bool
is_port k None = false
is_port k (Some port) = port == k

-- ---- What a function gives

-- the first of these rows that is the Outport with port k
abbrev pub outport_with : List Label → List ℕ → ℕ → Option ℕ
outport_with labels rows k = find (λ r. is_port k (outport_at labels r)) rows

-- a system has so many Outports at most
abbrev pub most_ports : ℕ
most_ports = 32

-- the Outports among these rows, in order of port, each once
abbrev pub by_port : List Label → List ℕ → List ℕ
by_port labels rows =
    flat_map (λ k. option_to_list (outport_with labels rows k)) (range_with_len 1 most_ports)

-- ---- What it takes

-- the port of row r, if it is an Inport
abbrev pub inport_at : List Label → ℕ → Option ℕ
inport_at labels r = option_and_then (λ (l : Label). l.inport) (slice_get labels r)

-- row r, if it is the Inport with port k
abbrev pub if_inport : List Label → ℕ → ℕ → Option ℕ
if_inport labels k r = if is_port k (inport_at labels r) then Some r else None

-- the Inport with port k whose value a field holds
abbrev pub held_inport : List Label → ℕ → FieldTree → Option ℕ
held_inport labels k f = option_and_then (if_inport labels k) (value_row f.name)

-- the first one whose value some fields hold
abbrev pub inport_with : List Label → ℕ → List FieldTree → Option ℕ
inport_with labels k [] = None
inport_with labels k (f ∷ fields) =
    option_or (held_inport labels k f) (inport_with labels k fields)

-- the input whose parameter has this name
abbrev pub input_of_use : NameUse → Option ℕ
input_of_use (Input k) = Some k
input_of_use _ = None

-- the Inport whose value is passed by a parameter of this name, in the system with these fields
abbrev pub taken_inport : List Label → List FieldTree → (name : List ℕ) → Option ℕ
taken_inport labels fields name =
    option_and_then (λ k. inport_with labels k fields) (input_of_use (use_of name))

-- the same of all parameters
abbrev pub taken_inports : List Label → List FieldTree → List ParamTree → List ℕ
taken_inports labels fields params =
    flat_map (λ (x : ParamTree). option_to_list (taken_inport labels fields x.name)) params

-- ---- The note

-- the name of row r in quotes, after some text
abbrev pub quoted : List Label → (before : List ℕ) → ℕ → List ℕ
quoted labels before r =
    before ++ codes "\"" ++ option_map_or (λ (l : Label). l.name) (slice_get labels r) []
    ++ codes "\""

-- the names of rows in quotes, with commas between them, after some text; of no rows nothing
abbrev pub listed : List Label → (before : List ℕ) → List ℕ → List ℕ
listed labels before [] = []
listed labels before (r ∷ rows) =
    quoted labels before r ++ flat_map (quoted labels (codes ", ")) rows

-- whether a name is that of an output function of a system: it begins with the system's, and then
-- with `_out`
abbrev pub is_function_of : (system name : List ℕ) → Bool
is_function_of system name =
    starts_with nat_eq name system
    && starts_with nat_eq (drop (length system) name) (codes "_out")

-- the note on a procedure of a struct, which stores these Outports: `"A", "B" from "C"`
abbrev pub function_note : List Label → StructTree → ProcedureTree → List ℕ → List ℕ
function_note labels s q outports =
    if is_function_of s.name q.name
    then listed labels [] (by_port labels outports)
    ++ listed labels (codes " from ") (taken_inports labels s.fields q.params)
    else []

-- the Outports that a procedure of a struct stores, where `earlier` has what each procedure before
-- it stores
abbrev pub stored_outports : List Label → StructTree → List (List ℕ) → ProcedureTree → List ℕ
stored_outports labels s earlier q = stmts_outports labels s.fields earlier q.body

-- the note on a procedure, and what it stores; of one without a struct nothing
abbrev pub procedure_note : List Label → List StructTree → ProcedureTree → List ℕ → List ℕ
procedure_note labels structs q outports =
    option_map_or (λ (s : StructTree). function_note labels s q outports)
    (slice_get structs q.of) []

abbrev pub procedure_outports : List Label → List StructTree → List (List ℕ) → ProcedureTree →
    List ℕ
procedure_outports labels structs earlier q =
    option_map_or (λ (s : StructTree). stored_outports labels s earlier q)
    (slice_get structs q.of) []

-- the notes on procedures, one after another
abbrev pub procedure_notes : List Label → List StructTree → List (List ℕ) → List ProcedureTree →
    List (List ℕ)
procedure_notes labels structs earlier [] = []
procedure_notes labels structs earlier (q ∷ qs) =
    procedure_note labels structs q (procedure_outports labels structs earlier q)
    ∷ procedure_notes labels structs
    (earlier ++ procedure_outports labels structs earlier q ∷ []) qs
