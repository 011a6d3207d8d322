-- Operands of the source.
use Rattle.c_grammar.specs.Parsing.{Operand, value, test}
use Rattle.c_expressions.specs.declared.operands.Operand.{Operand as Read}
use Rattle.c_expressions.specs.declared.operands.Operand.TheVariants.{Value, Test}
use Rattle.c_grammar.specs.WrittenTrees.{expr_of, cond_of}
use Rattle.std.specs.Prelude.{Box}
use Rattle.std.specs.declared.alloc.Global.{Global}
use Rattle.c_grammar.specs.Written.{WrittenExpr, WrittenCond}
use Rattle.c_grammar.specs.declared.written.WrittenExpr.{WrittenExpr as Expr}
use Rattle.c_grammar.specs.declared.written.WrittenCond.{WrittenCond as Cond}

-- an expression, and a condition, in a box
abbrev pub boxed_expr : Box Expr Global → WrittenExpr
boxed_expr e = expr_of e.value

abbrev pub boxed_cond : Box Cond Global → WrittenCond
boxed_cond c = cond_of c.value

-- an expression or a condition
abbrev pub operand_of : Read → Operand
operand_of (Value e) = value (boxed_expr e)
operand_of (Test c) = test (boxed_cond c)
