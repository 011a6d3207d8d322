-- The statements of the root's two procedures.
use Rattle.std.specs.Prelude.{ℕ, ◌+◌, List, [], ◌∷◌, ◌++◌, map, length, pos, codes as text}
use Rattle.std.specs.List.{enumerate_from}
use Rattle.modules_profile.specs.Locals.{outports}
use Rattle.c_syntax.specs.declared.BinOp.TheVariants.{Add, Rem}
use Rattle.c_syntax.specs.declared.Leaf.TheVariants.{Own, Child}
use Rattle.c_syntax.specs.Tree.{literal, read, binary, StmtTree, assign, ParamTree}
use Rattle.emit_shape.specs.Assembled.{code_at, out_names, call_top, root_params}
use Rattle.right_linking.specs.Parts.{Parts}

module _ (a : Parts) where
  abbrev pub params : List ParamTree
  params = root_params a.codes a.root a.hyper

  abbrev pub output_count : ℕ
  output_count = length (outports a.root)

  abbrev pub start_name : List ℕ
  start_name = (code_at a.codes 0).structure.name ++ text "_start"

  abbrev pub update_name : List ℕ
  update_name = (code_at a.codes 0).structure.name ++ text "_update"

  -- the procedures of `top` that a step calls
  abbrev pub called_names : List (List ℕ)
  called_names = out_names (code_at a.codes 0) ++ update_name ∷ []

  -- the copy of an output
  abbrev pub copy : ℕ × ℕ → StmtTree
  copy e = assign 0 (e.0 + 1) (read (Child (output_count + 1) e.1))

  abbrev pub copies : List StmtTree
  copies = map copy (enumerate_from 0 (code_at a.codes 0).outputs)

  abbrev pub to_start : StmtTree
  to_start = assign 0 0 (literal (pos 0))

  abbrev pub to_next : StmtTree
  to_next = assign 0 0 (binary Rem (binary Add (read (Own 0)) (literal (pos 1))) (literal (pos a.hyper)))

  abbrev pub start_stmts : List StmtTree
  start_stmts = call_top a.codes [] output_count start_name ∷ copies ++ to_start ∷ []

  abbrev pub step_stmts : List StmtTree
  step_stmts = map (call_top a.codes params output_count) called_names ++ copies ++ to_next ∷ []
