-- The written trees of the values of the source.
use Rattle.std.specs.Prelude.{ℕ, Bool, true, false, map}
use Rattle.c_syntax.specs.Kinds.{WrittenKind, number_kind, array_kind, struct_kind}
use Rattle.c_grammar.specs.Written.{WrittenLeaf, param, own, child, WrittenExpr, literal, neg, read, binary, pick, pure, item, WrittenExprs, no_exprs, more_exprs, WrittenCond, compare, both, either, negated, WrittenTarget, own_target, field_target, WrittenStmt, assign, assign_at, branch, branch_else, call, WrittenStmts, no_stmts, more_stmts, WrittenParam, WrittenPureParam, WrittenPure, WrittenField, WrittenStruct, WrittenProcedure, WrittenProgram}
use Rattle.c_grammar.specs.Parsing.{arguments_from, stmts_from}
use Rattle.c_syntax.specs.declared.code.CType.{CType}
use Rattle.c_grammar.specs.declared.written.WrittenLeaf.{WrittenLeaf as Leaf}
use Rattle.c_grammar.specs.declared.written.WrittenLeaf.TheVariants.{Param, Own, Child}
use Rattle.c_grammar.specs.declared.written.WrittenExpr.{WrittenExpr as Expr, Literal, Neg', Read, Binary', Pick', Pure', Item', Row_of-WrittenExpr, end_of-WrittenExpr, more_of-WrittenExpr}
use Rattle.c_grammar.specs.declared.written.WrittenCond.{WrittenCond as Cond, Compare, Both', Either', Not'}
use Rattle.c_grammar.specs.declared.written.WrittenTarget.{WrittenTarget as Target}
use Rattle.c_grammar.specs.declared.written.WrittenTarget.TheVariants as target
use Rattle.c_grammar.specs.declared.written.Argument.{Argument}
use Rattle.c_grammar.specs.declared.written.WrittenStmt.{WrittenStmt as Stmt, Set, SetAt, If', Call, Row_of-WrittenStmt, end_of-WrittenStmt, more_of-WrittenStmt}
use Rattle.c_grammar.specs.declared.written.WrittenParam.{WrittenParam as Param'}
use Rattle.c_grammar.specs.declared.written.WrittenPureParam.{WrittenPureParam as PureParam}
use Rattle.c_grammar.specs.declared.written.WrittenPure.{WrittenPure as PureFunction}
use Rattle.c_grammar.specs.declared.written.WrittenKind.{WrittenKind as Kind}
use Rattle.c_grammar.specs.declared.written.WrittenKind.TheVariants as kind
use Rattle.c_grammar.specs.declared.written.WrittenField.{WrittenField as Field}
use Rattle.c_grammar.specs.declared.written.WrittenStruct.{WrittenStruct as Struct}
use Rattle.c_grammar.specs.declared.written.WrittenProcedure.{WrittenProcedure as Procedure}
use Rattle.c_grammar.specs.declared.written.WrittenProgram.{WrittenProgram as Program}

-- a leaf
abbrev pub leaf_of : Leaf → WrittenLeaf
leaf_of (Param name) = param name.now
leaf_of (Own field) = own field.now
leaf_of (Child field inner) = child field.now inner.now

abbrev mutual
  -- an expression
  pub expr_of : Expr → WrittenExpr
  expr_of (Literal number) = literal number.value
  expr_of (Neg' p operand) = neg (expr_of operand)
  expr_of (Read line leaf) = read line (leaf_of leaf)
  expr_of (Binary' op p left q right) = binary op (expr_of left) (expr_of right)
  expr_of (Pick' p test q on_true r on_false) =
      pick (cond_of test) (expr_of on_true) (expr_of on_false)
  expr_of (Pure' line function shape values) = pure line function.now (exprs_of values)
  expr_of (Item' line field p index) = item line field.now (expr_of index)

  pub exprs_of : {m : _} → Row_of-WrittenExpr m → WrittenExprs
  exprs_of end_of-WrittenExpr = no_exprs
  exprs_of (more_of-WrittenExpr first rest) = more_exprs (expr_of first) (exprs_of rest)

  -- a condition
  pub cond_of : Cond → WrittenCond
  cond_of (Compare how left right) = compare how (expr_of left) (expr_of right)
  cond_of (Both' p left q right) = both (cond_of left) (cond_of right)
  cond_of (Either' p left q right) = either (cond_of left) (cond_of right)
  cond_of (Not' p operand) = negated (cond_of operand)

-- whose procedure is called
abbrev pub target_of : Target → WrittenTarget
target_of target.Own = own_target
target_of (target.Field field) = field_target field.now

-- an argument with its cast
abbrev pub argument_of : Argument → CType × WrittenExpr
argument_of a = (a.cast, expr_of a.value)

-- a choice, with or without its `else`
abbrev pub choice_of : (line : ℕ) → WrittenCond → WrittenStmts → (has_else : Bool) → WrittenStmts →
    WrittenStmt
choice_of line test on_true true on_false = branch_else line test on_true on_false
choice_of line test on_true false on_false = branch line test on_true

abbrev mutual
  -- a statement
  pub stmt_of : Stmt → WrittenStmt
  stmt_of (Set line field cast value) = assign line field.now cast (expr_of value)
  stmt_of (SetAt line field index cast value) =
      assign_at line field.now (expr_of index) cast (expr_of value)
  stmt_of (If' line test p on_true has_else q on_false) =
      choice_of line (cond_of test) (stmts_of on_true) has_else (stmts_of on_false)
  stmt_of (Call line procedure target values) =
      call line procedure.now (target_of target) (arguments_from (map argument_of values.items))

  -- statements
  pub stmts_of : {m : _} → Row_of-WrittenStmt m → WrittenStmts
  stmts_of end_of-WrittenStmt = no_stmts
  stmts_of (more_of-WrittenStmt first rest) = more_stmts (stmt_of first) (stmts_of rest)

-- a parameter of a procedure
abbrev pub param_of : Param' → WrittenParam
param_of p = record { line = p.line; type = p.ty; name = p.name.now }

-- a parameter of a pure function
abbrev pub pure_param_of : PureParam → WrittenPureParam
pure_param_of p = record { line = p.line; name = p.name.now }

-- a pure function
abbrev pub pure_of : PureFunction → WrittenPure
pure_of p = record {
  line = p.line;
  name = p.name.now;
  params = map pure_param_of p.params.items;
  return_line = p.return_line;
  body = expr_of p.body;
}

-- the kind of a field
abbrev pub kind_of : Kind → WrittenKind
kind_of (kind.Number type) = number_kind type
kind_of (kind.Array type count) = array_kind type count.value
kind_of (kind.Struct name) = struct_kind name.now

-- a field
abbrev pub field_of : Field → WrittenField
field_of f = record { line = f.line; kind = kind_of f.kind; name = f.name.now }

-- a struct
abbrev pub struct_of : Struct → WrittenStruct
struct_of s = record { line = s.line; name = s.name.now; fields = map field_of s.fields.items }

-- a procedure
abbrev pub procedure_of : Procedure → WrittenProcedure
procedure_of p =
    record {
      line = p.line;
      private = p.private;
      name = p.name.now;
      of = p.of.now;
      params = map param_of p.params.items;
      body = stmts_from (map stmt_of p.body.items);
    }

-- a program
abbrev pub program_of : Program → WrittenProgram
program_of p = record {
  pures = map pure_of p.pures.items;
  structs = map struct_of p.structs.items;
  procedures = map procedure_of p.procedures.items;
}
