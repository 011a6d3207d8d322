-- The static rules and limits as facts on a program, for those who make one and not a text.
use Rattle.std.specs.Prelude.{◌≡◌, ◌≢◌, ℕ, ◌+◌, ◌^◌, ◌<◌, ◌≤◌, pos, true, false, List, [], ◌∷◌, ◌++◌, length, map, ⊤, Some, slice_get, codes, bytes_eq}
use Rattle.std.specs.List.{AllByRecursion}
use Rattle.c_syntax.specs.declared.code.CType.{CType}
use Rattle.c_syntax.specs.declared.code.CType.TheVariants.{I64}
use Rattle.c_syntax.specs.declared.code.Leaf.{Leaf}
use Rattle.c_syntax.specs.declared.code.Leaf.TheVariants.{Param, Own, Child}
use Rattle.c_syntax.specs.declared.code.Target.{Target}
use Rattle.c_syntax.specs.declared.code.Target.TheVariants.{Own as OwnTarget, Child as ChildTarget}
use Rattle.c_syntax.specs.declared.program.FieldKind.{FieldKind}
use Rattle.c_syntax.specs.declared.program.FieldKind.TheVariants.{Number, Array, Struct}
use Rattle.c_syntax.specs.Tree.{ExprTree, literal, neg, read, binary, pick, pure, item, ExprTrees, no_exprs, more_exprs, CondTree, compare, both, either, negated, StmtTree, assign, assign_at, branch, call, StmtTrees, no_stmts, more_stmts, FieldTree, StructTree, struct_fields, PureTree, ParamTree, ProcedureTree, ProgramTree}
use Rattle.c_syntax.specs.Names.{is_name}
use Rattle.c_syntax.specs.Outputs.{has_name, may_be_named}
use Rattle.c_syntax.specs.RootFields.{is_number, number_names}
use Rattle.c_syntax.specs.Chains.{stmts_chain, chain_limit}
use Rattle.c_syntax.specs.Limits.{IsWithinLimits}

-- names, each of them lawful, and no two equal
abbrev pub AreDistinct : List (List ℕ) → Type 0
AreDistinct [] = ⊤
AreDistinct (name ∷ names) =
    (is_name name ≡ true) × (has_name names name ≡ false) × AreDistinct names

-- no name of the one list is in the other
abbrev pub AreApart : List (List ℕ) → List (List ℕ) → Type 0
AreApart [] others = ⊤
AreApart (name ∷ names) others = (has_name others name ≡ false) × AreApart names others

-- the field at a position is a number
abbrev pub IsNumberAt : List FieldTree → ℕ → Type 0
IsNumberAt fields k = (f : FieldTree) × (slice_get fields k ≡ Some f) × (is_number f ≡ true)

-- the field at a position is an array
abbrev pub IsArrayAt : List FieldTree → ℕ → Type 0
IsArrayAt fields k = (f : FieldTree) × (type : CType) × (count : ℕ) × (slice_get fields k ≡ Some f)
    × (f.kind ≡ Array type count)

-- the field at a position is an instance of the struct at another
abbrev pub IsStructAt : List FieldTree → ℕ → ℕ → Type 0
IsStructAt fields k of = (f : FieldTree) × (slice_get fields k ≡ Some f) × (f.kind ≡ Struct of)

-- what a body may read and call
pub record Reach : Type 0 where
  pub pures : List PureTree
  pub structs : List StructTree
  pub procedures : List ProcedureTree
  pub fields : List FieldTree
  pub params : ℕ
  pub of : ℕ

-- a leaf stands for a parameter, or for a number field of the instance or of an instance that it
-- holds
abbrev pub IsLawfulLeaf : Reach → Leaf → Type 0
IsLawfulLeaf reach (Param k) = k < reach.params
IsLawfulLeaf reach (Own f) = IsNumberAt reach.fields f
IsLawfulLeaf reach (Child f g) =
    (k : ℕ) × IsStructAt reach.fields f k × IsNumberAt (struct_fields reach.structs k) g

-- how many expressions there are
abbrev pub exprs_length : ExprTrees → ℕ
exprs_length no_exprs = 0
exprs_length (more_exprs e es) = exprs_length es + 1

abbrev mutual
  -- an expression whose parts all stand for something, and whose literals have at most 63 bits
  pub IsLawfulExpr : Reach → ExprTree → Type 0
  IsLawfulExpr reach (literal value) = (n : ℕ) × (value ≡ pos n) × (n < 2 ^ 63)
  IsLawfulExpr reach (neg e) = IsLawfulExpr reach e
  IsLawfulExpr reach (read leaf) = IsLawfulLeaf reach leaf
  IsLawfulExpr reach (binary op a b) = IsLawfulExpr reach a × IsLawfulExpr reach b
  IsLawfulExpr reach (pick test a b) =
      IsLawfulCond reach test × IsLawfulExpr reach a × IsLawfulExpr reach b
  IsLawfulExpr reach (pure k es) =
      (p : PureTree) × (slice_get reach.pures k ≡ Some p) × (length p.params ≡ exprs_length es)
      × AreLawfulExprs reach es
  IsLawfulExpr reach (item f index) = IsArrayAt reach.fields f × IsLawfulExpr reach index

  -- all of these expressions are lawful
  pub AreLawfulExprs : Reach → ExprTrees → Type 0
  AreLawfulExprs reach no_exprs = ⊤
  AreLawfulExprs reach (more_exprs e es) = IsLawfulExpr reach e × AreLawfulExprs reach es

  -- a condition whose expressions are lawful
  pub IsLawfulCond : Reach → CondTree → Type 0
  IsLawfulCond reach (compare how a b) = IsLawfulExpr reach a × IsLawfulExpr reach b
  IsLawfulCond reach (both a b) = IsLawfulCond reach a × IsLawfulCond reach b
  IsLawfulCond reach (either a b) = IsLawfulCond reach a × IsLawfulCond reach b
  IsLawfulCond reach (negated a) = IsLawfulCond reach a

-- the target of a call is an instance of this struct
abbrev pub IsLawfulTarget : Reach → Target → ℕ → Type 0
IsLawfulTarget reach OwnTarget of = reach.of ≡ of
IsLawfulTarget reach (ChildTarget f) of = IsStructAt reach.fields f of

abbrev mutual
  -- a statement: a store goes to a number field or an item of an array, a call to an earlier
  -- procedure of its target, with an argument for each parameter
  pub IsLawfulStmt : Reach → StmtTree → Type 0
  IsLawfulStmt reach (assign line f e) = IsNumberAt reach.fields f × IsLawfulExpr reach e
  IsLawfulStmt reach (assign_at line f index e) =
      IsArrayAt reach.fields f × IsLawfulExpr reach index × IsLawfulExpr reach e
  IsLawfulStmt reach (branch line test on_true on_false) =
      IsLawfulCond reach test × AreLawfulStmts reach on_true × AreLawfulStmts reach on_false
  IsLawfulStmt reach (call line k target es) =
      (p : ProcedureTree) × (slice_get reach.procedures k ≡ Some p)
      × IsLawfulTarget reach target p.of × (length p.params ≡ exprs_length es)
      × AreLawfulExprs reach es

  -- all of these statements are lawful
  pub AreLawfulStmts : Reach → StmtTrees → Type 0
  AreLawfulStmts reach no_stmts = ⊤
  AreLawfulStmts reach (more_stmts s ss) = IsLawfulStmt reach s × AreLawfulStmts reach ss

-- the names of pure functions
abbrev pub pure_names : List PureTree → List (List ℕ)
pure_names pures = map (λ p. p.name) pures

-- the names of procedures
abbrev pub procedure_names : List ProcedureTree → List (List ℕ)
procedure_names procedures = map (λ p. p.name) procedures

-- the names of parameters
abbrev pub param_names : List ParamTree → List (List ℕ)
param_names params = map (λ p. p.name) params

-- a pure function after these: its parameters differ from each other and from the earlier
-- functions, and there is one
pub record IsLawfulPure (earlier : List PureTree) (p : PureTree) : Type 0 where
  pub params : AreDistinct p.params
  pub apart : AreApart p.params (pure_names earlier)
  pub some : 0 < length p.params
  pub body : IsLawfulExpr (record {
    pures = earlier;
    structs = [];
    procedures = [];
    fields = [];
    params = length p.params;
    of = 0;
  }) p.body

-- pure functions, each after these and those before it
abbrev pub ArePures : List PureTree → List PureTree → Type 0
ArePures earlier [] = ⊤
ArePures earlier (p ∷ ps) = IsLawfulPure earlier p × ArePures (earlier ++ p ∷ []) ps

-- a field's struct is one of the first `count`, and an array has 1 to 65,535 items
abbrev pub IsLawfulKind : ℕ → FieldKind → Type 0
IsLawfulKind count (Number type) = ⊤
IsLawfulKind count (Array type many) = (0 < many) × (many < 2 ^ 16)
IsLawfulKind count (Struct k) = k < count

-- a struct after `count` others; a field of the root's struct is an output or looks like none
pub record IsLawfulStruct (count : ℕ) (d : StructTree) : Type 0 where
  pub fields : AreDistinct (map (λ f. f.name) d.fields)
  pub some : 0 < length d.fields
  pub kinds : AllByRecursion (λ f. IsLawfulKind count f.kind) d.fields
  pub outputs : bytes_eq d.name (codes "root") ≡ true →
      AllByRecursion (λ f. may_be_named (number_names d.fields) (is_number f) f.name
      ≡ true) d.fields

-- structs, each after so many and those before it
abbrev pub AreStructs : ℕ → List StructTree → Type 0
AreStructs count [] = ⊤
AreStructs count (d ∷ ds) = IsLawfulStruct count d × AreStructs (count + 1) ds

-- a procedure after these
pub record IsLawfulProcedure (pures : List PureTree) (structs : List StructTree)
    (earlier : List ProcedureTree) (p : ProcedureTree) : Type 0 where
  pub of : p.of < length structs
  pub params : AreDistinct (param_names p.params)
  pub apart : AreApart (param_names p.params) (pure_names pures ++ procedure_names earlier)
  pub body : AreLawfulStmts (record {
    pures = pures;
    structs = structs;
    procedures = earlier;
    fields = struct_fields structs p.of;
    params = length p.params;
    of = p.of;
  }) p.body

-- procedures, each after these and those before it
abbrev pub AreProcedures : List PureTree → List StructTree → List ProcedureTree →
    List ProcedureTree → Type 0
AreProcedures pures structs earlier [] = ⊤
AreProcedures pures structs earlier (p ∷ ps) =
    IsLawfulProcedure pures structs earlier p × AreProcedures pures structs (earlier ++ p ∷ []) ps

-- the lengths of the longest chains of calls that begin with each procedure
abbrev pub chains_of : List ℕ → List ProcedureTree → List ℕ
chains_of chains [] = chains
chains_of chains (p ∷ ps) = chains_of (chains ++ (stmts_chain chains p.body + 1) ∷ []) ps

-- the root's struct, and its two procedures
pub record HasRoot (p : ProgramTree) : Type 0 where
  pub of : ℕ
  pub struct : StructTree
  pub struct_there : slice_get p.structs of ≡ Some struct
  pub struct_name : struct.name ≡ codes "root"
  pub start : ℕ
  pub start_procedure : ProcedureTree
  pub start_there : slice_get p.procedures start ≡ Some start_procedure
  pub start_name : start_procedure.name ≡ codes "root_start"
  pub start_of : start_procedure.of ≡ of
  pub start_params : start_procedure.params ≡ []
  pub step : ℕ
  pub step_procedure : ProcedureTree
  pub step_there : slice_get p.procedures step ≡ Some step_procedure
  pub step_name : step_procedure.name ≡ codes "root_step"
  pub step_of : step_procedure.of ≡ of
  pub step_params : AllByRecursion (λ q. q.type ≢ I64) step_procedure.params

-- a program that keeps the static rules and the limits
pub record IsLawful (p : ProgramTree) : Type 0 where
  pub functions : AreDistinct (pure_names p.pures ++ procedure_names p.procedures)
  pub struct_names : AreDistinct (map (λ d. d.name) p.structs)
  pub pures : ArePures [] p.pures
  pub structs : AreStructs 0 p.structs
  pub procedures : AreProcedures p.pures p.structs [] p.procedures
  pub root : HasRoot p
  pub chains : AllByRecursion (λ n. n ≤ chain_limit) (chains_of [] p.procedures)
  pub limits : IsWithinLimits p

abbrev mutual
  -- a statement with all lines 0
  pub stmt_without_lines : StmtTree → StmtTree
  stmt_without_lines (assign line f e) = assign 0 f e
  stmt_without_lines (assign_at line f index e) = assign_at 0 f index e
  stmt_without_lines (branch line test on_true on_false) =
      branch 0 test (stmts_without_lines on_true) (stmts_without_lines on_false)
  stmt_without_lines (call line k target es) = call 0 k target es

  pub stmts_without_lines : StmtTrees → StmtTrees
  stmts_without_lines no_stmts = no_stmts
  stmts_without_lines (more_stmts s ss) = more_stmts (stmt_without_lines s) (stmts_without_lines ss)

-- a pure function with line 0
abbrev pub pure_without_lines : PureTree → PureTree
pure_without_lines q = record { name = q.name; params = q.params; body = q.body; line = 0 }

-- a procedure with all lines 0
abbrev pub procedure_without_lines : ProcedureTree → ProcedureTree
procedure_without_lines q =
    record {
      name = q.name;
      private = q.private;
      of = q.of;
      params = q.params;
      body = stmts_without_lines q.body;
    }

-- a program with all lines 0
abbrev pub without_lines : ProgramTree → ProgramTree
without_lines p =
    record {
      pures = map pure_without_lines p.pures;
      structs = p.structs;
      procedures = map procedure_without_lines p.procedures;
    }
