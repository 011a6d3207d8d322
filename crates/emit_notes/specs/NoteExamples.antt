-- The notes of a model in which a controller, row 1, is in a subsystem, row 0, and holds two
-- Inports, a Delay and two Outports, rows 2 to 6.
use Rattle.std.specs.Prelude.{◌≡◌, ℕ, false, pos, List, [], ◌∷◌, map, Option, Some, None, codes, refl}
use Rattle.std.specs.Fmt.{digits}
use Rattle.mdl_params.specs.declared.BlockType.{BlockType}
use Rattle.mdl_params.specs.declared.BlockType.TheVariants.{Inport, Outport, SubSystem, Delay}
use Rattle.c_syntax.specs.declared.code.CType.TheVariants.{I32}
use Rattle.c_syntax.specs.declared.program.FieldKind.TheVariants.{Number}
use Rattle.c_syntax.specs.declared.code.Target.TheVariants.{Own, Child}
use Rattle.c_syntax.specs.Tree.{StructTree, ProcedureTree, ProgramTree, StmtTree, assign, call, literal, no_exprs, stmts_of_list}
use Rattle.emit_notes.specs.declared.labels.Label.{Label}
use Rattle.emit_notes.specs.BlockNotes.{struct_notes}
use Rattle.emit_notes.specs.ProgramNotes.{notes_of}

abbrev label : BlockType → (inport outport : Option ℕ) → (name : List ℕ) → (line : ℕ) → Option ℕ →
    Label
label type inport outport name line owner = record {
  block_type = type;
  inport = inport;
  outport = outport;
  name = name;
  line = line;
  owner = owner;
}

abbrev labels : List Label
labels =
    label SubSystem None None (codes "Cruise") 4 None
    ∷ label SubSystem None None (codes "Speed */ control") 17 (Some 0)
    ∷ label Inport (Some 1) None (codes "A in") 23 (Some 1)
    ∷ label Inport (Some 2) None (codes "B in") 27 (Some 1)
    ∷ label Delay None None (codes "Last") 31 (Some 1)
    ∷ label Outport None (Some 2) (codes "B out") 35 (Some 1)
    ∷ label Outport None (Some 1) (codes "A out") 39 (Some 1)
    ∷ []

-- a struct with a field for each name
abbrev with_fields : (name : List ℕ) → List (List ℕ) → StructTree
with_fields name fields =
    record { name = name; fields = map (λ n. record { name = n; kind = Number I32 }) fields }

-- the controller, with a row that isn't there
controller_noted : struct_notes labels
    (with_fields (codes "s1")
    (codes "v2" ∷ codes "m4" ∷ codes "n4" ∷ codes "s1" ∷ codes "k4" ∷ codes "v9" ∷ []))
    ≡ record {
      above = codes "Cruise/Speed */ control, line 17";
      fields = codes "Inport \"A in\"" ∷ codes "memory of Delay \"Last\""
          ∷ codes "samples taken by Delay \"Last\"" ∷ codes "SubSystem \"Speed */ control\""
          ∷ codes "group 4 has run" ∷ [] ∷ [];
    }
unfolding digits
controller_noted = refl

-- ---- Functions

abbrev store : ℕ → StmtTree
store f = assign 0 f (literal (pos 0))

abbrev procedure : (name : List ℕ) (params : List (List ℕ)) → List StmtTree → ProcedureTree
procedure name params body = record {
  name = name;
  private = false;
  of = 0;
  params = map (λ n. record { name = n; type = I32 }) params;
  body = stmts_of_list body;
}

-- the first function stores an Outport in a procedure that it calls, and the second one itself; the
-- third takes nothing, and stores both against the order of their ports
abbrev program : ProgramTree
program = record {
  pures = [];
  structs = with_fields (codes "s1")
      (codes "v2" ∷ codes "v3" ∷ codes "v5" ∷ codes "v6" ∷ [])
      ∷ [];
  procedures = procedure (codes "s1_g1") [] (store 0 ∷ store 3 ∷ [])
      ∷ procedure (codes "s1_out1") (codes "now" ∷ codes "u1" ∷ codes "u2" ∷ [])
      (call 0 0 Own no_exprs ∷ [])
      ∷ procedure (codes "s1_out2") (codes "now" ∷ codes "u2" ∷ codes "ctl" ∷ [])
      (store 1 ∷ call 0 0 (Child 1) no_exprs ∷ store 2 ∷ [])
      ∷ procedure (codes "s1_out3") [] (store 2 ∷ store 3 ∷ store 2 ∷ [])
      ∷ procedure (codes "s1_update") (codes "u1" ∷ []) (store 2 ∷ [])
      ∷ [];
}

functions_noted : (notes_of labels program).procedures
    ≡ []
    ∷ codes "\"A out\" from \"A in\", \"B in\""
    ∷ codes "\"B out\" from \"B in\""
    ∷ codes "\"A out\", \"B out\""
    ∷ [] ∷ []
functions_noted = refl
