-- What a printed text spells: names for positions, with the lines of the text.
use Rattle.std.proofs.Common.{ℕ, ◌+◌, List, [], ◌∷◌, map, unsigned_abs}
use Rattle.base_core.specs.Numbers.{reported_number}
use Rattle.c_syntax.specs.declared.code.CType.{CType}
use Rattle.c_syntax.specs.declared.code.Leaf.{Leaf}
use Rattle.c_syntax.specs.declared.code.Leaf.TheVariants.{Param, Own, Child}
use Rattle.c_syntax.specs.declared.code.Target.{Target}
use Rattle.c_syntax.specs.declared.code.Target.TheVariants.{Own as OwnTarget, Child as ChildTarget}
use Rattle.c_syntax.specs.declared.program.FieldKind.{FieldKind}
use Rattle.c_syntax.specs.declared.program.FieldKind.TheVariants.{Number, Array, Struct}
use Rattle.c_syntax.specs.Tree.{ExprTree, literal, neg, read, binary, pick, pure, item, ExprTrees, no_exprs, more_exprs, CondTree, compare, both, either, negated, StmtTree, assign, assign_at, branch, call, StmtTrees, no_stmts, more_stmts, FieldTree, StructTree, struct_fields, field_types, type_at, PureTree, ParamTree, ProcedureTree, ProgramTree}
use Rattle.c_syntax.specs.Kinds.{WrittenKind, number_kind, array_kind, struct_kind}
use Rattle.c_grammar.specs.Written.{WrittenLeaf, WrittenExpr, WrittenExprs, WrittenCond, WrittenTarget, WrittenArguments, WrittenStmt, WrittenStmts, WrittenParam, WrittenPureParam, WrittenPure, WrittenField, WrittenStruct, WrittenProcedure, WrittenProgram}
use Rattle.c_printer.specs.Notes.{Notes, note_at, notes_on}
use Rattle.c_printer.specs.Printing.{Vocabulary, pure_name, struct_name, procedure_name, procedure_types, field_name, inner_fields, deeper, store_bytes, item_store_bytes, call_bytes, target_note, field_bytes}
use Rattle.c_printer.proofs.NotedLines.{lines_above, note_lines}
use Rattle.c_syntax.specs.Names.{name_at}

abbrev pub written_leaf : Vocabulary → Leaf → WrittenLeaf
written_leaf v (Param k) = WrittenLeaf.param (name_at v.params k)
written_leaf v (Own f) = WrittenLeaf.own (field_name v.fields f)
written_leaf v (Child f g) = WrittenLeaf.child (field_name v.fields f) (field_name (inner_fields v f) g)

abbrev mutual
  -- an expression on a line
  pub written_expr : Vocabulary → ℕ → ExprTree → WrittenExpr
  written_expr v line (literal value) = WrittenExpr.literal (unsigned_abs value)
  written_expr v line (neg e) = WrittenExpr.neg (written_expr v line e)
  written_expr v line (read leaf) = WrittenExpr.read line (written_leaf v leaf)
  written_expr v line (binary op a b) = WrittenExpr.binary op (written_expr v line a) (written_expr v line b)
  written_expr v line (pick test a b) = WrittenExpr.pick (written_cond v line test) (written_expr v line a) (written_expr v line b)
  written_expr v line (pure k es) = WrittenExpr.pure line (pure_name v.program k) (written_exprs v line es)
  written_expr v line (item f index) = WrittenExpr.item line (field_name v.fields f) (written_expr v line index)

  pub written_exprs : Vocabulary → ℕ → ExprTrees → WrittenExprs
  written_exprs v line no_exprs = WrittenExprs.no_exprs
  written_exprs v line (more_exprs e es) = WrittenExprs.more_exprs (written_expr v line e) (written_exprs v line es)

  pub written_cond : Vocabulary → ℕ → CondTree → WrittenCond
  written_cond v line (compare how a b) = WrittenCond.compare how (written_expr v line a) (written_expr v line b)
  written_cond v line (both a b) = WrittenCond.both (written_cond v line a) (written_cond v line b)
  written_cond v line (either a b) = WrittenCond.either (written_cond v line a) (written_cond v line b)
  written_cond v line (negated a) = WrittenCond.negated (written_cond v line a)

abbrev pub written_target : Vocabulary → Target → WrittenTarget
written_target v OwnTarget = WrittenTarget.own_target
written_target v (ChildTarget f) = WrittenTarget.field_target (field_name v.fields f)

abbrev pub written_arguments : Vocabulary → ℕ → List CType → ExprTrees → WrittenArguments
written_arguments v line types no_exprs = WrittenArguments.no_arguments
written_arguments v line [] (more_exprs e es) = WrittenArguments.no_arguments
written_arguments v line (t ∷ types) (more_exprs e es) =
    WrittenArguments.more_arguments t (written_expr v line e) (written_arguments v line types es)

-- stores and calls on a line
abbrev pub written_store : Vocabulary → ℕ → ℕ → ExprTree → WrittenStmt
written_store v line f e =
    WrittenStmt.assign (reported_number line) (field_name v.fields f) (type_at (field_types v.fields) f)
    (written_expr v (reported_number line) e)

abbrev pub written_item_store : Vocabulary → ℕ → ℕ → ExprTree → ExprTree → WrittenStmt
written_item_store v line f index e =
    WrittenStmt.assign_at (reported_number line) (field_name v.fields f) (written_expr v (reported_number line) index)
    (type_at (field_types v.fields) f) (written_expr v (reported_number line) e)

abbrev pub written_call : Vocabulary → ℕ → ℕ → Target → ExprTrees → WrittenStmt
written_call v line k target es =
    WrittenStmt.call (reported_number line) (procedure_name v.program k) (written_target v target)
    (written_arguments v (reported_number line) (procedure_types v.program k) es)

-- how many lines of a note there are above a statement at a margin
abbrev pub Above : Type 0
Above = ℕ → StmtTree → ℕ

abbrev pub stmt_above : List (List ℕ) → Vocabulary → Above
stmt_above notes v margin (assign line f e) = lines_above margin (note_at notes f) (store_bytes v f e)
stmt_above notes v margin (assign_at line f index e) = lines_above margin (note_at notes f) (item_store_bytes v f index e)
stmt_above notes v margin (branch line test on_true on_false) = 0
stmt_above notes v margin (call line k target es) = lines_above margin (target_note notes target) (call_bytes v k target es)

module _ (above : Above) where
  abbrev mutual
    -- how many lines a statement takes
    pub stmt_lines : ℕ → StmtTree → ℕ
    stmt_lines margin (assign line f e) = above margin (assign line f e) + 1
    stmt_lines margin (assign_at line f index e) = above margin (assign_at line f index e) + 1
    stmt_lines margin (branch line test on_true on_false) =
        stmts_lines (deeper margin) on_true + else_lines margin on_false + 2
    stmt_lines margin (call line k target es) = above margin (call line k target es) + 1

    pub else_lines : ℕ → StmtTrees → ℕ
    else_lines margin no_stmts = 0
    else_lines margin (more_stmts s ss) = stmt_lines (deeper margin) s + stmts_lines (deeper margin) ss + 1

    pub stmts_lines : ℕ → StmtTrees → ℕ
    stmts_lines margin no_stmts = 0
    stmts_lines margin (more_stmts s ss) = stmt_lines margin s + stmts_lines margin ss

  -- the line where the second block of a choice begins, of which the first takes so many
  abbrev pub else_line : ℕ → ℕ → StmtTrees → ℕ
  else_line margin line on_true = line + 1 + stmts_lines (deeper margin) on_true + 1

  abbrev mutual
    -- a statement that begins on a line, whose number is given up to the greatest
    pub written_stmt : Vocabulary → ℕ → ℕ → StmtTree → WrittenStmt
    written_stmt v margin line (assign own f e) =
        written_store v (line + above margin (assign own f e)) f e
    written_stmt v margin line (assign_at own f index e) =
        written_item_store v (line + above margin (assign_at own f index e)) f index e
    written_stmt v margin line (branch own test on_true on_false) =
        written_branch v margin line (written_cond v (reported_number line) test) (written_stmts v (deeper margin) (line + 1) on_true)
        (else_line margin line on_true) on_false
    written_stmt v margin line (call own k target es) =
        written_call v (line + above margin (call own k target es)) k target es

    -- a choice whose second block begins on a line, and is left out where it is empty
    pub written_branch : Vocabulary → ℕ → ℕ → WrittenCond → WrittenStmts → ℕ → StmtTrees → WrittenStmt
    written_branch v margin line test on_true second no_stmts = WrittenStmt.branch (reported_number line) test on_true
    written_branch v margin line test on_true second (more_stmts s ss) =
        WrittenStmt.branch_else (reported_number line) test on_true
        (WrittenStmts.more_stmts (written_stmt v (deeper margin) second s)
        (written_stmts v (deeper margin) (second + stmt_lines (deeper margin) s) ss))

    pub written_stmts : Vocabulary → ℕ → ℕ → StmtTrees → WrittenStmts
    written_stmts v margin line no_stmts = WrittenStmts.no_stmts
    written_stmts v margin line (more_stmts s ss) =
        WrittenStmts.more_stmts (written_stmt v margin line s) (written_stmts v margin (line + stmt_lines margin s) ss)

  abbrev mutual
    -- a statement that begins on a line, as it is read
    pub read_stmt : ℕ → ℕ → StmtTree → StmtTree
    read_stmt margin line (assign own f e) = assign (reported_number (line + above margin (assign own f e))) f e
    read_stmt margin line (assign_at own f index e) =
        assign_at (reported_number (line + above margin (assign_at own f index e))) f index e
    read_stmt margin line (branch own test on_true on_false) =
        branch (reported_number line) test (read_stmts (deeper margin) (line + 1) on_true)
        (read_stmts (deeper margin) (else_line margin line on_true) on_false)
    read_stmt margin line (call own k target es) = call (reported_number (line + above margin (call own k target es))) k target es

    pub read_stmts : ℕ → ℕ → StmtTrees → StmtTrees
    read_stmts margin line no_stmts = no_stmts
    read_stmts margin line (more_stmts s ss) =
        more_stmts (read_stmt margin line s) (read_stmts margin (line + stmt_lines margin s) ss)

abbrev pub written_pure_param : ℕ → List ℕ → WrittenPureParam
written_pure_param line name = record { line = line; name = name }

-- definitions that begin on a line, the first of which is blank
abbrev pub written_pure : ProgramTree → ℕ → PureTree → WrittenPure
written_pure p line q = record {
  line = reported_number (line + 1);
  name = q.name;
  params = map (written_pure_param (reported_number (line + 1))) q.params;
  return_line = reported_number (line + 1 + 1);
  body = written_expr (record { program = p; fields = []; params = q.params }) (reported_number (line + 1 + 1)) q.body;
}

abbrev pub read_pure : ℕ → PureTree → PureTree
read_pure line q = record { name = q.name; params = q.params; body = q.body; line = reported_number (line + 1 + 1) }

abbrev pub pure_lines : ℕ
pure_lines = 4

abbrev pub written_kind : ProgramTree → FieldKind → WrittenKind
written_kind p (Number type) = number_kind type
written_kind p (Array type count) = array_kind type count
written_kind p (Struct k) = struct_kind (struct_name p k)

-- how many lines of a note there are above the field at a position
abbrev pub field_above : ProgramTree → List (List ℕ) → ℕ → FieldTree → ℕ
field_above p notes k f = lines_above 4 (note_at notes k) (field_bytes p f)

abbrev pub written_fields : ProgramTree → List (List ℕ) → ℕ → ℕ → List FieldTree → List WrittenField
written_fields p notes k line [] = []
written_fields p notes k line (f ∷ fs) =
    record { line = reported_number (line + field_above p notes k f); kind = written_kind p f.kind; name = f.name }
    ∷ written_fields p notes (k + 1) (line + field_above p notes k f + 1) fs

abbrev pub fields_lines : ProgramTree → List (List ℕ) → ℕ → List FieldTree → ℕ
fields_lines p notes k [] = 0
fields_lines p notes k (f ∷ fs) = field_above p notes k f + 1 + fields_lines p notes (k + 1) fs

-- the line of a definition, after the blank one and its note
abbrev pub head_line : List ℕ → ℕ → ℕ
head_line note line = line + 1 + note_lines note

abbrev pub written_struct : ProgramTree → Notes → ℕ → ℕ → StructTree → WrittenStruct
written_struct p notes k line d =
    let head : ℕ = head_line (notes_on notes k).above line in
    record {
      line = reported_number head;
      name = d.name;
      fields = written_fields p (notes_on notes k).fields 0 (head + 1) d.fields;
    }

abbrev pub struct_lines : ProgramTree → Notes → ℕ → StructTree → ℕ
struct_lines p notes k d = note_lines (notes_on notes k).above + fields_lines p (notes_on notes k).fields 0 d.fields + 3

abbrev pub written_param : ℕ → ParamTree → WrittenParam
written_param line q = record { line = line; type = q.type; name = q.name }

-- the names in reach of a procedure's body, and the lines of notes in it
abbrev pub body_vocabulary : ProgramTree → ProcedureTree → Vocabulary
body_vocabulary p q = record { program = p; fields = struct_fields p.structs q.of; params = map (λ x. x.name) q.params }

abbrev pub body_above : ProgramTree → Notes → ProcedureTree → Above
body_above p notes q = stmt_above (notes_on notes q.of).fields (body_vocabulary p q)

abbrev pub written_procedure : ProgramTree → Notes → ℕ → ℕ → ProcedureTree → WrittenProcedure
written_procedure p notes k line q =
    let head : ℕ = head_line (note_at notes.procedures k) line in
    record {
      line = reported_number head;
      private = q.private;
      name = q.name;
      of = struct_name p q.of;
      params = map (written_param (reported_number head)) q.params;
      body = written_stmts (body_above p notes q) (body_vocabulary p q) 4 (head + 1) q.body;
    }

abbrev pub read_procedure : ProgramTree → Notes → ℕ → ℕ → ProcedureTree → ProcedureTree
read_procedure p notes k line q =
    record {
      name = q.name;
      private = q.private;
      of = q.of;
      params = q.params;
      body = read_stmts (body_above p notes q) 4 (head_line (note_at notes.procedures k) line + 1) q.body;
    }

abbrev pub procedure_lines : ProgramTree → Notes → ℕ → ProcedureTree → ℕ
procedure_lines p notes k q = note_lines (note_at notes.procedures k) + stmts_lines (body_above p notes q) 4 q.body + 3

-- lists of definitions that begin on a line
abbrev pub written_pures : ProgramTree → ℕ → List PureTree → List WrittenPure
written_pures p line [] = []
written_pures p line (q ∷ qs) = written_pure p line q ∷ written_pures p (line + pure_lines) qs

abbrev pub read_pures : ℕ → List PureTree → List PureTree
read_pures line [] = []
read_pures line (q ∷ qs) = read_pure line q ∷ read_pures (line + pure_lines) qs

abbrev pub pures_lines : List PureTree → ℕ
pures_lines [] = 0
pures_lines (q ∷ qs) = pure_lines + pures_lines qs

module _ (p : ProgramTree) (notes : Notes) where
  abbrev pub written_structs : ℕ → ℕ → List StructTree → List WrittenStruct
  written_structs k line [] = []
  written_structs k line (d ∷ ds) = written_struct p notes k line d ∷ written_structs (k + 1) (line + struct_lines p notes k d) ds

  abbrev pub structs_lines : ℕ → List StructTree → ℕ
  structs_lines k [] = 0
  structs_lines k (d ∷ ds) = struct_lines p notes k d + structs_lines (k + 1) ds

  abbrev pub written_procedures : ℕ → ℕ → List ProcedureTree → List WrittenProcedure
  written_procedures k line [] = []
  written_procedures k line (q ∷ qs) =
      written_procedure p notes k line q ∷ written_procedures (k + 1) (line + procedure_lines p notes k q) qs

  abbrev pub read_procedures : ℕ → ℕ → List ProcedureTree → List ProcedureTree
  read_procedures k line [] = []
  read_procedures k line (q ∷ qs) =
      read_procedure p notes k line q ∷ read_procedures (k + 1) (line + procedure_lines p notes k q) qs

  abbrev pub procedures_lines : ℕ → List ProcedureTree → ℕ
  procedures_lines k [] = 0
  procedures_lines k (q ∷ qs) = procedure_lines p notes k q + procedures_lines (k + 1) qs

  -- the lines where structs and procedures begin
  abbrev pub structs_line : ℕ
  structs_line = 2 + pures_lines p.pures

  abbrev pub procedures_line : ℕ
  procedures_line = structs_line + structs_lines 0 p.structs

  -- what the text of a program spells, and what it is read as
  abbrev pub written_program : WrittenProgram
  written_program = record {
    pures = written_pures p 2 p.pures;
    structs = written_structs 0 structs_line p.structs;
    procedures = written_procedures 0 procedures_line p.procedures;
  }

  abbrev pub read_program : ProgramTree
  read_program = record { pures = read_pures 2 p.pures; structs = p.structs; procedures = read_procedures 0 procedures_line p.procedures }
