-- The static rules: the program that a written program stands for, or the first construct that
-- breaks a rule.
use Rattle.std.specs.Prelude.{ℕ, ◌+◌, pos, Bool, true, false, not, ◌&&◌, ◌||◌, ◌==◌, nat_le, nat_lt, if◌then◌else◌, List, [], ◌∷◌, ◌++◌, length, map, filter_map, Option, Some, None, Result, Ok, Err, slice_get, slice_index, codes, bytes_eq}
use Rattle.std.specs.List.{position_from, list_all}
use Rattle.c_syntax.specs.declared.code.CType.{CType}
use Rattle.c_syntax.specs.declared.code.CType.TheVariants.{I8, U8, I16, U16, I32, U32, I64}
use Rattle.c_syntax.specs.declared.code.Leaf.{Leaf}
use Rattle.c_syntax.specs.declared.code.Leaf.TheVariants.{Param, Own, Child}
use Rattle.c_syntax.specs.declared.code.Target.{Target}
use Rattle.c_syntax.specs.declared.code.Target.TheVariants.{Own as OwnTarget, Child as ChildTarget}
use Rattle.c_syntax.specs.declared.fault.CFault.{CFault}
use Rattle.c_syntax.specs.declared.fault.CKind.{CKind}
use Rattle.c_syntax.specs.declared.fault.CKind.TheVariants.{Deep, Name, TypeRule}
use Rattle.c_syntax.specs.declared.program.FieldKind.{FieldKind}
use Rattle.c_syntax.specs.declared.program.FieldKind.TheVariants.{Number, Array, Struct}
use Rattle.c_syntax.specs.Tree.{ExprTree, ExprTrees, CondTree, StmtTree, StmtTrees, FieldTree, StructTree, struct_fields, PureTree, ProcedureTree, ProgramTree}
use Rattle.c_syntax.specs.Kinds.{WrittenKind, number_kind, array_kind, struct_kind}
use Rattle.c_grammar.specs.Written.{WrittenLeaf, WrittenExpr, WrittenExprs, WrittenCond, WrittenTarget, WrittenArguments, WrittenStmt, WrittenStmts, WrittenPure, WrittenField, WrittenStruct, WrittenProcedure, WrittenProgram}
use Rattle.c_syntax.specs.Outputs.{has_name, may_be_named}
use Rattle.c_grammar.specs.Prefix.{fault_at}
use Rattle.c_syntax.specs.Chains.{chain_limit, stmts_chain}
use Rattle.base_core.specs.Results.{◌>>=◌, ◌>>◌}

-- an error of this kind, unless the test passes
abbrev pub unless_fault : Bool → CKind → Result (Unit {0}) CKind
unless_fault true kind = Ok tt
unless_fault false kind = Err kind

-- the result of a rule that is at a line
abbrev pub on_line : {A : Type 0} → ℕ → Result A CKind → Result A CFault
on_line line (Ok result) = Ok result
on_line line (Err kind) = Err (fault_at line kind)

-- what an option holds, or an error on names
abbrev pub or_unnamed : {A : Type 0} → Option A → Result A CKind
or_unnamed (Some x) = Ok x
or_unnamed None = Err Name

-- two types are one
abbrev pub same_type : CType → CType → Bool
same_type I8 I8 = true
same_type U8 U8 = true
same_type I16 I16 = true
same_type U16 U16 = true
same_type I32 I32 = true
same_type U32 U32 = true
same_type I64 I64 = true
same_type _ _ = false

-- two lists of types are one
abbrev pub same_types : List CType → List CType → Bool
same_types [] [] = true
same_types (t ∷ ts) (u ∷ us) = same_type t u && same_types ts us
same_types _ _ = false

-- the definitions before a place; of each procedure also the length of the longest chain of calls
-- that begins with it
pub record Known : Type 0 where
  pub pures : List PureTree
  pub structs : List StructTree
  pub procedures : List ProcedureTree
  pub chains : List ℕ

-- the names of all functions and procedures before
abbrev pub function_names : Known → List (List ℕ)
function_names known = map (λ p. p.name) known.pures ++ map (λ p. p.name) known.procedures

-- the names in reach of a body: the definitions before it, its struct's position and fields, and
-- its parameters
pub record Names : Type 0 where
  pub known : Known
  pub of : Option ℕ
  pub fields : List FieldTree
  pub params : List (List ℕ)

-- the position and the kind of the field with a name
abbrev pub field_from : ℕ → List FieldTree → List ℕ → Option (ℕ × FieldKind)
field_from i [] name = None
field_from i (f ∷ fields) name =
    if bytes_eq f.name name then Some (i, f.kind) else field_from (i + 1) fields name

-- the position and the kind of the field with a name
abbrev pub field_named : List FieldTree → List ℕ → Result (ℕ × FieldKind) CKind
field_named fields name = or_unnamed (field_from 0 fields name)

-- a number field
abbrev pub as_number : FieldKind → Result CType CKind
as_number (Number type) = Ok type
as_number (Array type count) = Err TypeRule
as_number (Struct k) = Err TypeRule

-- a field that is an array: the type of its items
abbrev pub as_array : FieldKind → Result CType CKind
as_array (Number type) = Err TypeRule
as_array (Array type count) = Ok type
as_array (Struct k) = Err TypeRule

-- a field that is a struct
abbrev pub as_struct : FieldKind → Result ℕ CKind
as_struct (Number type) = Err TypeRule
as_struct (Array type count) = Err TypeRule
as_struct (Struct k) = Ok k

-- a leaf of one name is a parameter; the others are number fields of the own struct or of a field's
-- struct
abbrev pub resolve_leaf : Names → WrittenLeaf → Result Leaf CKind
resolve_leaf names (WrittenLeaf.param name) = do
  k ← or_unnamed (position_from (bytes_eq name) 0 names.params)
  Ok (Param k)
resolve_leaf names (WrittenLeaf.own name) = do
  field ← field_named names.fields name
  type ← as_number field.1
  Ok (Own field.0)
resolve_leaf names (WrittenLeaf.child name inner) = do
  field ← field_named names.fields name
  k ← as_struct field.1
  inner_field ← field_named (struct_fields names.known.structs k) inner
  type ← as_number inner_field.1
  Ok (Child field.0 inner_field.0)

-- an index comes after an array of the own struct
abbrev pub resolve_array : Names → List ℕ → Result ℕ CKind
resolve_array names name = do
  field ← field_named names.fields name
  type ← as_array field.1
  Ok field.0

-- a call of a pure function that is defined before, with as many values as it has parameters
abbrev pub resolve_pure_call : Known → List ℕ → ℕ → Result ℕ CKind
resolve_pure_call known name count = do
  k ← or_unnamed (position_from (λ p. bytes_eq p.name name) 0 known.pures)
  p ← or_unnamed (slice_get known.pures k)
  unless_fault (length p.params == count) TypeRule
  Ok k

-- how many expressions there are
abbrev pub exprs_count : WrittenExprs → ℕ
exprs_count WrittenExprs.no_exprs = 0
exprs_count (WrittenExprs.more_exprs e es) = exprs_count es + 1

abbrev mutual
  pub resolve_expr : Names → WrittenExpr → Result ExprTree CFault
  resolve_expr names (WrittenExpr.literal value) = Ok (ExprTree.literal (pos value))
  resolve_expr names (WrittenExpr.neg e) = do
    x ← resolve_expr names e
    Ok (ExprTree.neg x)
  resolve_expr names (WrittenExpr.read line leaf) = do
    l ← on_line line (resolve_leaf names leaf)
    Ok (ExprTree.read l)
  resolve_expr names (WrittenExpr.binary op a b) = do
    x ← resolve_expr names a
    y ← resolve_expr names b
    Ok (ExprTree.binary op x y)
  resolve_expr names (WrittenExpr.pick test a b) = do
    c ← resolve_cond names test
    x ← resolve_expr names a
    y ← resolve_expr names b
    Ok (ExprTree.pick c x y)
  resolve_expr names (WrittenExpr.pure line function values) = do
    k ← on_line line (resolve_pure_call names.known function (exprs_count values))
    vs ← resolve_exprs names values
    Ok (ExprTree.pure k vs)
  resolve_expr names (WrittenExpr.item line field index) = do
    k ← on_line line (resolve_array names field)
    x ← resolve_expr names index
    Ok (ExprTree.item k x)

  pub resolve_exprs : Names → WrittenExprs → Result ExprTrees CFault
  resolve_exprs names WrittenExprs.no_exprs = Ok ExprTrees.no_exprs
  resolve_exprs names (WrittenExprs.more_exprs e es) = do
    x ← resolve_expr names e
    xs ← resolve_exprs names es
    Ok (ExprTrees.more_exprs x xs)

  pub resolve_cond : Names → WrittenCond → Result CondTree CFault
  resolve_cond names (WrittenCond.compare how a b) = do
    x ← resolve_expr names a
    y ← resolve_expr names b
    Ok (CondTree.compare how x y)
  resolve_cond names (WrittenCond.both a b) = do
    x ← resolve_cond names a
    y ← resolve_cond names b
    Ok (CondTree.both x y)
  resolve_cond names (WrittenCond.either a b) = do
    x ← resolve_cond names a
    y ← resolve_cond names b
    Ok (CondTree.either x y)
  resolve_cond names (WrittenCond.negated a) = do
    x ← resolve_cond names a
    Ok (CondTree.negated x)

-- the casts and the expressions of arguments
abbrev pub argument_casts : WrittenArguments → List CType
argument_casts WrittenArguments.no_arguments = []
argument_casts (WrittenArguments.more_arguments cast e rest) = cast ∷ argument_casts rest

-- what the arguments of a call stand for; their casts are judged apart
abbrev pub resolve_arguments : Names → WrittenArguments → Result ExprTrees CFault
resolve_arguments names WrittenArguments.no_arguments = Ok ExprTrees.no_exprs
resolve_arguments names (WrittenArguments.more_arguments cast e rest) = do
  x ← resolve_expr names e
  xs ← resolve_arguments names rest
  Ok (ExprTrees.more_exprs x xs)

-- a store goes to a number field, by a cast to the field's type
abbrev pub resolve_store : Names → List ℕ → CType → Result ℕ CKind
resolve_store names name cast = do
  field ← field_named names.fields name
  type ← as_number field.1
  unless_fault (same_type type cast) TypeRule
  Ok field.0

-- a store after an index goes to an array, by a cast to the type of its items
abbrev pub resolve_item_store : Names → List ℕ → CType → Result ℕ CKind
resolve_item_store names name cast = do
  field ← field_named names.fields name
  type ← as_array field.1
  unless_fault (same_type type cast) TypeRule
  Ok field.0

-- the target of a call, with the kind of what is there
abbrev pub resolve_target : Names → WrittenTarget → Result (Target × FieldKind) CKind
resolve_target names WrittenTarget.own_target = do
  k ← or_unnamed names.of
  Ok (OwnTarget, Struct k)
resolve_target names (WrittenTarget.field_target name) = do
  field ← field_named names.fields name
  Ok (ChildTarget field.0, field.1)

-- a call of a procedure that is defined before, on its own struct, with casts to the parameter
-- types, in no longer chain
abbrev pub resolve_call : Names → List ℕ → WrittenTarget → List CType → Result (ℕ × Target) CKind
resolve_call names name target casts = do
  k ← or_unnamed (position_from (λ p. bytes_eq p.name name) 0 names.known.procedures)
  p ← or_unnamed (slice_get names.known.procedures k)
  place ← resolve_target names target
  struct ← as_struct place.1
  unless_fault (struct == p.of) TypeRule
  unless_fault (same_types (map (λ q. q.type) p.params) casts) TypeRule
  unless_fault (nat_le (slice_index names.known.chains k + 1) chain_limit) Deep
  Ok (k, place.0)

abbrev mutual
  pub resolve_stmt : Names → WrittenStmt → Result StmtTree CFault
  resolve_stmt names (WrittenStmt.assign line field cast value) = do
    k ← on_line line (resolve_store names field cast)
    x ← resolve_expr names value
    Ok (StmtTree.assign line k x)
  resolve_stmt names (WrittenStmt.assign_at line field index cast value) = do
    k ← on_line line (resolve_item_store names field cast)
    i ← resolve_expr names index
    x ← resolve_expr names value
    Ok (StmtTree.assign_at line k i x)
  resolve_stmt names (WrittenStmt.branch line test on_true) = do
    c ← resolve_cond names test
    xs ← resolve_stmts names on_true
    Ok (StmtTree.branch line c xs StmtTrees.no_stmts)
  resolve_stmt names (WrittenStmt.branch_else line test on_true on_false) = do
    c ← resolve_cond names test
    xs ← resolve_stmts names on_true
    ys ← resolve_stmts names on_false
    Ok (StmtTree.branch line c xs ys)
  resolve_stmt names (WrittenStmt.call line procedure target values) = do
    callee ← on_line line (resolve_call names procedure target (argument_casts values))
    xs ← resolve_arguments names values
    Ok (StmtTree.call line callee.0 callee.1 xs)

  pub resolve_stmts : Names → WrittenStmts → Result StmtTrees CFault
  resolve_stmts names WrittenStmts.no_stmts = Ok StmtTrees.no_stmts
  resolve_stmts names (WrittenStmts.more_stmts s ss) = do
    x ← resolve_stmt names s
    xs ← resolve_stmts names ss
    Ok (StmtTrees.more_stmts x xs)

-- parameters with their lines: each differs from those before it, and from the functions defined
-- before
abbrev pub check_params : List (List ℕ) → List (List ℕ) → List (ℕ × List ℕ) →
    Result (Unit {0}) CFault
check_params functions earlier [] = Ok tt
check_params functions earlier (p ∷ ps) = do
  on_line p.0 (unless_fault (not (has_name functions p.1) && not (has_name earlier p.1)) Name)
  check_params functions (p.1 ∷ earlier) ps

-- what a pure function stands for
abbrev pub resolve_pure : Known → WrittenPure → Result PureTree CFault
resolve_pure known p = do
  on_line p.line (unless_fault (not (has_name (function_names known) p.name)) Name)
  check_params (function_names known) [] (map (λ q. (q.line, q.name)) p.params)
  body ← resolve_expr
      (record { known = known; of = None; fields = []; params = map (λ q. q.name) p.params }) p.body
  Ok (record {
    name = p.name;
    params = map (λ q. q.name) p.params;
    body = body;
    line = p.return_line;
  })

-- the most items of an array
abbrev pub array_limit : ℕ
array_limit = 65535

-- an array has at least one item, and no more than the limit
abbrev pub is_length : ℕ → Bool
is_length count = nat_lt 0 count && nat_le count array_limit

-- what the kind of a field stands for
abbrev pub resolve_kind : Known → WrittenKind → Result FieldKind CKind
resolve_kind known (number_kind type) = Ok (Number type)
resolve_kind known (array_kind type count) = do
  unless_fault (is_length count) TypeRule
  Ok (Array type count)
resolve_kind known (struct_kind name) = do
  k ← or_unnamed (position_from (λ d. bytes_eq d.name name) 0 known.structs)
  Ok (Struct k)

-- a field that is written as a number
abbrev pub is_number_written : WrittenKind → Bool
is_number_written (number_kind type) = true
is_number_written (array_kind type count) = false
is_number_written (struct_kind name) = false

-- the name of a field that is a number
abbrev pub number_name : WrittenField → Option (List ℕ)
number_name f = if is_number_written f.kind then Some f.name else None

-- a field: its name differs from those before it, its struct is defined before, and in the root's
-- struct it is an output or looks like none
abbrev pub resolve_field : Known → Bool → List (List ℕ) → List (List ℕ) → WrittenField →
    Result FieldTree CKind
resolve_field known is_root numbers earlier f = do
  unless_fault (not (has_name earlier f.name)) Name
  kind ← resolve_kind known f.kind
  unless_fault (not is_root || may_be_named numbers (is_number_written f.kind) f.name) TypeRule
  Ok (record { name = f.name; kind = kind })

-- what the fields of a struct stand for
abbrev pub resolve_fields : Known → Bool → List (List ℕ) → List (List ℕ) → List WrittenField →
    Result (List FieldTree) CFault
resolve_fields known is_root numbers earlier [] = Ok []
resolve_fields known is_root numbers earlier (f ∷ fs) = do
  x ← on_line f.line (resolve_field known is_root numbers earlier f)
  xs ← resolve_fields known is_root numbers (f.name ∷ earlier) fs
  Ok (x ∷ xs)

-- what a struct stands for
abbrev pub resolve_struct : Known → WrittenStruct → Result StructTree CFault
resolve_struct known d = do
  on_line d.line (unless_fault (not (has_name (map (λ e. e.name) known.structs) d.name)) Name)
  fields ← resolve_fields known (bytes_eq d.name (codes "root")) (filter_map number_name d.fields)
      [] d.fields
  Ok (record { name = d.name; fields = fields })

-- `root_start` is of the root's struct and has no parameters; `root_step` is of it and has none of
-- int64_t
abbrev pub is_lawful_root : WrittenProcedure → Bool
is_lawful_root p =
    (not (bytes_eq p.name (codes "root_start"))
    || (bytes_eq p.of (codes "root") && (length p.params == 0)))
    && (not (bytes_eq p.name (codes "root_step"))
    || (bytes_eq p.of (codes "root") && list_all (λ q. not (same_type q.type I64)) p.params))

-- a procedure's definition, without its parameters and body: the position of its struct
abbrev pub resolve_head : Known → WrittenProcedure → Result ℕ CKind
resolve_head known p = do
  unless_fault (not (has_name (function_names known) p.name)) Name
  k ← or_unnamed (position_from (λ d. bytes_eq d.name p.of) 0 known.structs)
  unless_fault (is_lawful_root p) TypeRule
  Ok k

-- what a procedure stands for
abbrev pub resolve_procedure : Known → WrittenProcedure → Result ProcedureTree CFault
resolve_procedure known p = do
  k ← on_line p.line (resolve_head known p)
  check_params (function_names known) [] (map (λ q. (q.line, q.name)) p.params)
  body ← resolve_stmts (record {
    known = known;
    of = Some k;
    fields = struct_fields known.structs k;
    params = map (λ q. q.name) p.params;
  }) p.body
  Ok (record {
    name = p.name;
    private = p.private;
    of = k;
    params = map (λ q. record { name = q.name; type = q.type }) p.params;
    body = body;
  })

-- definitions one after another, each known to those after it
abbrev pub resolve_pures : Known → List WrittenPure → Result Known CFault
resolve_pures known [] = Ok known
resolve_pures known (p ∷ ps) = do
  x ← resolve_pure known p
  resolve_pures (record known { pures = known.pures ++ x ∷ [] }) ps

-- the structs of a file, each with what is known before it
abbrev pub resolve_structs : Known → List WrittenStruct → Result Known CFault
resolve_structs known [] = Ok known
resolve_structs known (d ∷ ds) = do
  x ← resolve_struct known d
  resolve_structs (record known { structs = known.structs ++ x ∷ [] }) ds

-- the procedures of a file, each with what is known before it
abbrev pub resolve_procedures : Known → List WrittenProcedure → Result Known CFault
resolve_procedures known [] = Ok known
resolve_procedures known (p ∷ ps) = do
  x ← resolve_procedure known p
  resolve_procedures
      (record known {
        procedures = known.procedures ++ x ∷ [];
        chains = known.chains ++ (stmts_chain known.chains x.body + 1) ∷ [];
      }) ps

-- the root's struct and procedures are there
abbrev pub has_root : Known → Bool
has_root known =
    has_name (map (λ d. d.name) known.structs) (codes "root")
    && has_name (map (λ p. p.name) known.procedures) (codes "root_start")
    && has_name (map (λ p. p.name) known.procedures) (codes "root_step")

-- the program that a written program stands for, or its first error; `last` is the text's last line
abbrev pub resolve_program : ℕ → WrittenProgram → Result ProgramTree CFault
resolve_program last p = do
  with_pures ← resolve_pures (record { pures = []; structs = []; procedures = []; chains = [] })
      p.pures
  with_structs ← resolve_structs with_pures p.structs
  known ← resolve_procedures with_structs p.procedures
  on_line last (unless_fault (has_root known) Name)
  Ok (record { pures = known.pures; structs = known.structs; procedures = known.procedures })
