-- Bodies of functions and procedures, whose parameters keep the rules.
use Rattle.std.specs.Prelude.{ℕ, [], map, Some, None, Result}
use Rattle.c_syntax.specs.declared.fault.CFault.{CFault}
use Rattle.c_syntax.specs.Tree.{ExprTree, StmtTrees, struct_fields}
use Rattle.base_core.specs.Results.{◌>>◌}
use Rattle.c_grammar.specs.Written.{WrittenPure, WrittenProcedure}
use Rattle.c_rules.specs.Resolve.{Known, function_names, check_params, resolve_expr, resolve_stmts}

-- what a pure function returns
abbrev pub pure_body : Known → WrittenPure → Result ExprTree CFault
pure_body known p = do
  check_params (function_names known) [] (map (λ q. (q.line, q.name)) p.params)
  resolve_expr
      (record { known = known; of = None; fields = []; params = map (λ q. q.name) p.params }) p.body

-- the statements of a procedure of the struct at a position
abbrev pub procedure_body : Known → ℕ → WrittenProcedure → Result StmtTrees CFault
procedure_body known of p = do
  check_params (function_names known) [] (map (λ q. (q.line, q.name)) p.params)
  resolve_stmts (record {
    known = known;
    of = Some of;
    fields = struct_fields known.structs of;
    params = map (λ q. q.name) p.params;
  }) p.body
