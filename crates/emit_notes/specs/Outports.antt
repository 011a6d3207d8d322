-- The Outports whose values procedures store, by their rows.
use Rattle.std.specs.Prelude.{ℕ, List, [], ◌++◌, slice_get, slice_index_or, Option, Some, None, option_map, option_and_then, option_to_list}
use Rattle.c_syntax.specs.declared.code.Target.{Target}
use Rattle.c_syntax.specs.declared.code.Target.TheVariants.{Own, Child}
use Rattle.c_syntax.specs.Tree.{StmtTree, assign, assign_at, branch, call, StmtTrees, no_stmts, more_stmts, FieldTree}
use Rattle.emit_notes.specs.declared.labels.Label.{Label}
use Rattle.emit_notes.specs.declared.name_uses.NameUse.{NameUse}
use Rattle.emit_notes.specs.declared.name_uses.NameUse.TheVariants.{Value}
use Rattle.emit_notes.specs.NameUses.{use_of}

-- the row whose value a name stands for
abbrev pub row_of_use : NameUse → Option ℕ
row_of_use (Value r) = Some r
row_of_use _ = None

abbrev pub value_row : (name : List ℕ) → Option ℕ
value_row name = row_of_use (use_of name)

-- the port of row r, if it is an Outport
abbrev pub outport_at : List Label → ℕ → Option ℕ
outport_at labels r = option_and_then (λ (l : Label). l.outport) (slice_get labels r)

-- row r, if it is an Outport
abbrev pub if_outport : List Label → ℕ → Option ℕ
if_outport labels r = option_map (λ port. r) (outport_at labels r)

-- the Outport whose value a field of this name holds
abbrev pub named_outport : List Label → (name : List ℕ) → Option ℕ
named_outport labels name = option_and_then (if_outport labels) (value_row name)

-- the same of the field at a position
abbrev pub field_outport : List Label → List FieldTree → ℕ → Option ℕ
field_outport labels fields f =
    option_and_then (λ (x : FieldTree). named_outport labels x.name) (slice_get fields f)

-- what a call stores in the own fields, where `earlier` has what each procedure before stores
abbrev pub called_outports : List (List ℕ) → ℕ → Target → List ℕ
called_outports earlier k Own = slice_index_or earlier k []
called_outports earlier k (Child f) = []

-- by statements of a procedure whose struct has these fields: those that they store, and those that
-- their calls on `s` store; an item of an array is no value
module _ (labels : List Label) (fields : List FieldTree) (earlier : List (List ℕ)) where
  abbrev mutual
    pub stmt_outports : StmtTree → List ℕ
    stmt_outports (assign line f value) = option_to_list (field_outport labels fields f)
    stmt_outports (assign_at line f index value) = []
    stmt_outports (branch line test on_true on_false) =
        stmts_outports on_true ++ stmts_outports on_false
    stmt_outports (call line k target values) = called_outports earlier k target

    pub stmts_outports : StmtTrees → List ℕ
    stmts_outports no_stmts = []
    stmts_outports (more_stmts s ss) = stmt_outports s ++ stmts_outports ss
