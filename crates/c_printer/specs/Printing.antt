-- The bytes that a program is printed as: one statement or declaration a line, and a blank line
-- before each definition. Structs and procedures have their notes above them; a field has its note
-- at its declaration, and at each store in it and each call on it.
use Rattle.std.specs.Prelude.{ℕ, ℤ, ◌+◌, min, Bool, true, false, List, [], ◌∷◌, ◌++◌, map, slice_index_or, unsigned_abs, codes, decimal}
use Rattle.std.specs.List.{flat_map, enumerate_from}
use Rattle.c_syntax.specs.declared.code.CType.{CType}
use Rattle.c_syntax.specs.declared.code.Leaf.{Leaf}
use Rattle.c_syntax.specs.declared.code.Leaf.TheVariants.{Param, Own, Child}
use Rattle.c_syntax.specs.declared.code.Target.{Target}
use Rattle.c_syntax.specs.declared.code.Target.TheVariants.{Own as OwnTarget, Child as ChildTarget}
use Rattle.c_syntax.specs.declared.program.FieldKind.{FieldKind}
use Rattle.c_syntax.specs.declared.program.FieldKind.TheVariants.{Number, Array, Struct}
use Rattle.c_syntax.specs.Tree.{ExprTree, literal, neg, read, binary, pick, pure, item, ExprTrees, no_exprs, more_exprs, CondTree, compare, both, either, negated, StmtTree, assign, assign_at, branch, call, StmtTrees, no_stmts, more_stmts, FieldTree, StructTree, struct_fields, field_types, type_at, PureTree, ParamTree, ProcedureTree, ProgramTree}
use Rattle.c_grammar.specs.Tokens.{header_line}
use Rattle.c_grammar.specs.Grammar.{op_text, compare_text, type_text}
use Rattle.c_syntax.specs.Names.{name_at}
use Rattle.c_printer.specs.Notes.{Notes, note_at, notes_on, no_notes}
use Rattle.c_printer.specs.Lines.{margin_bytes, ended, note_line, noted_line}

-- the names in reach of a body
pub record Vocabulary : Type 0 where
  pub program : ProgramTree
  pub fields : List FieldTree
  pub params : List (List ℕ)

-- the name of the pure function at a position
abbrev pub pure_name : ProgramTree → ℕ → List ℕ
pure_name p k = name_at (map (λ q. q.name) p.pures) k

-- the name of the struct at a position
abbrev pub struct_name : ProgramTree → ℕ → List ℕ
struct_name p k = name_at (map (λ d. d.name) p.structs) k

-- the name of the procedure at a position
abbrev pub procedure_name : ProgramTree → ℕ → List ℕ
procedure_name p k = name_at (map (λ q. q.name) p.procedures) k

-- the types of a procedure's parameters, and none past the end
abbrev pub procedure_types : ProgramTree → ℕ → List CType
procedure_types p k = slice_index_or (map (λ q. map (λ x. x.type) q.params) p.procedures) k []

-- the name of the field at a position
abbrev pub field_name : List FieldTree → ℕ → List ℕ
field_name fields k = name_at (map (λ f. f.name) fields) k

-- the fields of a field that is a struct; a lawful program reads inside no other
abbrev pub kind_fields : List StructTree → FieldKind → List FieldTree
kind_fields structs (Number type) = []
kind_fields structs (Array type count) = []
kind_fields structs (Struct k) = struct_fields structs k

-- the fields of the struct that the field at a position is of
abbrev pub inner_fields : Vocabulary → ℕ → List FieldTree
inner_fields v k = slice_index_or (map (λ f. kind_fields v.program.structs f.kind) v.fields) k []

-- what a leaf is printed as
abbrev pub leaf_bytes : Vocabulary → Leaf → List ℕ
leaf_bytes v (Param k) = name_at v.params k
leaf_bytes v (Own f) = codes "s->" ++ field_name v.fields f
leaf_bytes v (Child f g) =
    codes "s->" ++ field_name v.fields f ++ codes "." ++ field_name (inner_fields v f) g

-- what a literal is printed as
abbrev pub literal_bytes : ℤ → List ℕ
literal_bytes value = codes "INT64_C(" ++ decimal (unsigned_abs value) ++ codes ")"

abbrev mutual
  pub expr_bytes : Vocabulary → ExprTree → List ℕ
  expr_bytes v (literal value) = literal_bytes value
  expr_bytes v (neg e) = codes "(-" ++ expr_bytes v e ++ codes ")"
  expr_bytes v (read leaf) = codes "(int64_t)" ++ leaf_bytes v leaf
  expr_bytes v (binary op a b) = codes "(" ++ expr_bytes v a ++ codes " " ++ op_text op ++ codes " "
      ++ expr_bytes v b ++ codes ")"
  expr_bytes v (pick test a b) = codes "(" ++ cond_bytes v test ++ codes " ? " ++ expr_bytes v a
      ++ codes " : " ++ expr_bytes v b ++ codes ")"
  expr_bytes v (pure k es) = pure_name v.program k ++ codes "(" ++ exprs_bytes v es ++ codes ")"
  expr_bytes v (item f index) =
      codes "(int64_t)s->" ++ field_name v.fields f ++ codes "[" ++ expr_bytes v index ++ codes "]"

  -- expressions with `, ` between each two
  pub exprs_bytes : Vocabulary → ExprTrees → List ℕ
  exprs_bytes v no_exprs = []
  exprs_bytes v (more_exprs e es) = expr_bytes v e ++ later_exprs_bytes v es

  pub later_exprs_bytes : Vocabulary → ExprTrees → List ℕ
  later_exprs_bytes v no_exprs = []
  later_exprs_bytes v (more_exprs e es) = codes ", " ++ expr_bytes v e ++ later_exprs_bytes v es

  pub cond_bytes : Vocabulary → CondTree → List ℕ
  cond_bytes v (compare how a b) = codes "(" ++ expr_bytes v a ++ codes " " ++ compare_text how
      ++ codes " " ++ expr_bytes v b ++ codes ")"
  cond_bytes v (both a b) =
      codes "(" ++ cond_bytes v a ++ codes " && " ++ cond_bytes v b ++ codes ")"
  cond_bytes v (either a b) =
      codes "(" ++ cond_bytes v a ++ codes " || " ++ cond_bytes v b ++ codes ")"
  cond_bytes v (negated a) = codes "(!" ++ cond_bytes v a ++ codes ")"

-- the margin in a block: four more blanks, up to 80
abbrev pub deeper : ℕ → ℕ
deeper margin = min (margin + 4) 80

-- whose procedure is called
abbrev pub target_bytes : Vocabulary → Target → List ℕ
target_bytes v OwnTarget = codes "s"
target_bytes v (ChildTarget f) = codes "&s->" ++ field_name v.fields f

-- the arguments of a call of a procedure, each after `, ` and with its cast
abbrev pub arguments_bytes : Vocabulary → List CType → ExprTrees → List ℕ
arguments_bytes v types no_exprs = []
arguments_bytes v [] (more_exprs e es) = []
arguments_bytes v (t ∷ types) (more_exprs e es) =
    codes ", (" ++ type_text t ++ codes ")" ++ expr_bytes v e ++ arguments_bytes v types es

-- what is stored in a field, from the type in its cast on
abbrev pub stored_bytes : Vocabulary → ℕ → ExprTree → List ℕ
stored_bytes v f e =
    type_text (type_at (field_types v.fields) f) ++ codes ")" ++ expr_bytes v e ++ codes ";"

abbrev pub store_bytes : Vocabulary → ℕ → ExprTree → List ℕ
store_bytes v f e = codes "s->" ++ field_name v.fields f ++ codes " = (" ++ stored_bytes v f e

-- a store in an item of an array
abbrev pub item_store_bytes : Vocabulary → ℕ → ExprTree → ExprTree → List ℕ
item_store_bytes v f index e =
    codes "s->" ++ field_name v.fields f ++ codes "[" ++ expr_bytes v index ++ codes "] = ("
    ++ stored_bytes v f e

abbrev pub call_bytes : Vocabulary → ℕ → Target → ExprTrees → List ℕ
call_bytes v k target es =
    procedure_name v.program k ++ codes "(" ++ target_bytes v target
    ++ arguments_bytes v (procedure_types v.program k) es ++ codes ");"

-- the note at a call: that of the field on which it is
abbrev pub target_note : List (List ℕ) → Target → List ℕ
target_note notes OwnTarget = []
target_note notes (ChildTarget f) = note_at notes f

-- with the notes on the fields of the struct
module _ (notes : List (List ℕ)) (v : Vocabulary) where
  abbrev mutual
    -- a statement at a margin
    pub noted_stmt_bytes : ℕ → StmtTree → List ℕ
    noted_stmt_bytes margin (assign line f e) =
        noted_line margin (note_at notes f) (store_bytes v f e)
    noted_stmt_bytes margin (assign_at line f index e) =
        noted_line margin (note_at notes f) (item_store_bytes v f index e)
    noted_stmt_bytes margin (branch line test on_true on_false) =
        margin_bytes margin ++ codes "if " ++ cond_bytes v test ++ ended (codes " {")
        ++ noted_stmts_bytes (deeper margin) on_true ++ noted_else_bytes margin on_false
        ++ margin_bytes margin ++ ended (codes "}")
    noted_stmt_bytes margin (call line k target es) =
        noted_line margin (target_note notes target) (call_bytes v k target es)

    -- the second block of a choice, where it does something
    pub noted_else_bytes : ℕ → StmtTrees → List ℕ
    noted_else_bytes margin no_stmts = []
    noted_else_bytes margin (more_stmts s ss) =
        margin_bytes margin ++ ended (codes "} else {")
        ++ (noted_stmt_bytes (deeper margin) s ++ noted_stmts_bytes (deeper margin) ss)

    pub noted_stmts_bytes : ℕ → StmtTrees → List ℕ
    noted_stmts_bytes margin no_stmts = []
    noted_stmts_bytes margin (more_stmts s ss) =
        noted_stmt_bytes margin s ++ noted_stmts_bytes margin ss

-- the parameters of a pure function, with `, ` between each two
abbrev pub later_pure_params_bytes : List (List ℕ) → List ℕ
later_pure_params_bytes names = flat_map (λ name. codes ", int64_t " ++ name) names

-- the parameters of a pure function
abbrev pub pure_params_bytes : List (List ℕ) → List ℕ
pure_params_bytes [] = []
pure_params_bytes (name ∷ names) = codes "int64_t " ++ name ++ later_pure_params_bytes names

-- a blank line, and a pure function up to its `{`
abbrev pub pure_head_bytes : PureTree → List ℕ
pure_head_bytes q = ended [] ++ codes "static int64_t " ++ q.name ++ codes "("
    ++ pure_params_bytes q.params ++ ended (codes ") {")

-- a pure function
abbrev pub pure_bytes : ProgramTree → PureTree → List ℕ
pure_bytes p q =
    pure_head_bytes q ++ codes "    return "
    ++ expr_bytes (record { program = p; fields = []; params = q.params }) q.body
    ++ ended (codes ";") ++ ended (codes "}")

-- what a field is declared as
abbrev pub kind_bytes : ProgramTree → FieldKind → List ℕ
kind_bytes p (Number type) = type_text type
kind_bytes p (Array type count) = type_text type
kind_bytes p (Struct k) = codes "struct " ++ struct_name p k

-- what comes after the name of a field: the length of an array
abbrev pub length_bytes : FieldKind → List ℕ
length_bytes (Number type) = []
length_bytes (Array type count) = codes "[" ++ decimal count ++ codes "]"
length_bytes (Struct k) = []

-- the declaration of a field, except for its margin
abbrev pub field_bytes : ProgramTree → FieldTree → List ℕ
field_bytes p f =
    kind_bytes p f.kind ++ codes " " ++ f.name ++ length_bytes f.kind ++ codes ";"

-- a field at its position, with its note
abbrev pub noted_field_bytes : ProgramTree → List (List ℕ) → ℕ × FieldTree → List ℕ
noted_field_bytes p notes e = noted_line 4 (note_at notes e.0) (field_bytes p e.1)

-- a struct at its position, after a blank line
abbrev pub noted_struct_bytes : ProgramTree → Notes → ℕ × StructTree → List ℕ
noted_struct_bytes p notes e =
    ended [] ++ note_line 0 (notes_on notes e.0).above ++ codes "struct " ++ e.1.name
    ++ ended (codes " {")
    ++ flat_map (noted_field_bytes p (notes_on notes e.0).fields) (enumerate_from 0 e.1.fields)
    ++ ended (codes "};")

-- what a procedure begins with
abbrev pub private_bytes : Bool → List ℕ
private_bytes true = codes "static void "
private_bytes false = codes "void "

-- a parameter of a procedure, after a `,`
abbrev pub param_bytes : ParamTree → List ℕ
param_bytes q = codes ", " ++ type_text q.type ++ codes " " ++ q.name

-- a blank line, and a procedure with its note up to its `{`
abbrev pub procedure_head_bytes : ProgramTree → List ℕ → ProcedureTree → List ℕ
procedure_head_bytes p note q =
    ended [] ++ note_line 0 note ++ private_bytes q.private ++ q.name ++ codes "(struct "
    ++ struct_name p q.of ++ codes " *s" ++ flat_map param_bytes q.params ++ ended (codes ") {")

-- a procedure at its position
abbrev pub noted_procedure_bytes : ProgramTree → Notes → ℕ × ProcedureTree → List ℕ
noted_procedure_bytes p notes e =
    procedure_head_bytes p (note_at notes.procedures e.0) e.1
    ++ noted_stmts_bytes (notes_on notes e.1.of).fields
    (record {
      program = p;
      fields = struct_fields p.structs e.1.of;
      params = map (λ x. x.name) e.1.params;
    }) 4 e.1.body ++ ended (codes "}")

-- the text of a program with notes
abbrev pub noted_bytes : Notes → ProgramTree → List ℕ
noted_bytes notes p =
    ended header_line ++ flat_map (pure_bytes p) p.pures
    ++ flat_map (noted_struct_bytes p notes) (enumerate_from 0 p.structs)
    ++ flat_map (noted_procedure_bytes p notes) (enumerate_from 0 p.procedures)

-- and without any
abbrev pub program_bytes : ProgramTree → List ℕ
program_bytes p = noted_bytes no_notes p
