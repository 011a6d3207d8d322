-- The program of a root whose two functions share a child, and programs that differ from it in one
-- thing.
use Rattle.std.specs.Prelude.{ℕ, zero, suc, true, false, List, [], ◌∷◌, ◌++◌, replicate, pos, codes, ℤ}
use Rattle.modules_profile.specs.LocalSamples.{outer_local}
use Rattle.c_syntax.specs.declared.BinOp.TheVariants.{Add, Rem}
use Rattle.c_syntax.specs.declared.Leaf.TheVariants.{Param, Own, Child}
use Rattle.c_syntax.specs.declared.Target.TheVariants.{Own as OnSelf, Child as OnChild}
use Rattle.c_syntax.specs.Tree.{literal, read, binary, assign, call, exprs_of_list, no_exprs, stmts_of_list, StmtTree, ProcedureTree, ProgramTree}
use Rattle.emit_shape.specs.Names.{root_start_name, root_step_name}
use Rattle.emit_shape.specs.Heads.{now_param}
use Rattle.emit_shape.specs.SystemTree.{SystemTree}
use Rattle.emit_shape.specs.Assembled.{assembled}
use Rattle.emit_shape.specs.TinySamples.{input_param, second_param, inner_procedure, group_procedure, zeros, child_code, outer_code}

-- the program of a code for the root and the child's code
abbrev pub program_of : SystemTree → ProgramTree
program_of code = assembled (code ∷ child_code ∷ []) outer_local 1 []

abbrev pub shared_program : ProgramTree
shared_program = program_of outer_code

-- a list of procedures with one replaced
abbrev pub replaced : List ProcedureTree → ℕ → ProcedureTree → List ProcedureTree
replaced [] k q = []
replaced (p ∷ ps) zero q = q ∷ ps
replaced (p ∷ ps) (suc k) q = p ∷ replaced ps k q

-- the program in which one of the root's procedures is another: its groups are 0 to 2, its
-- functions 3 and 4, then come its update, start and reset
abbrev pub with_procedure : ℕ → ProcedureTree → ProgramTree
with_procedure k q =
    program_of (record {
      structure = outer_code.structure;
      outputs = outer_code.outputs;
      procedures = replaced outer_code.procedures k q;
    })

-- the program with another step of `root`
abbrev pub with_step : List StmtTree → ProgramTree
with_step body = record {
  pures = shared_program.pures;
  structs = shared_program.structs;
  procedures =
      replaced shared_program.procedures 14
      (record {
        name = root_step_name;
        private = false;
        of = 2;
        params = input_param ∷ second_param
            ∷ [];
        body = stmts_of_list body;
      });
}

-- ---- The group that both functions hold

-- its nodes are run at each call
abbrev pub repeats_shared : ProgramTree
repeats_shared =
    with_procedure 0
    (record {
      name = codes "top_g0";
      private = true;
      of = 0;
      params = now_param ∷ input_param
          ∷ [];
      body =
          stmts_of_list (assign 0 0 (read (Param 1))
          ∷ call 0 8 (OnChild 5) (exprs_of_list (read (Param 0) ∷ read (Own 0) ∷ [])) ∷ []);
    })

-- the second function doesn't call it
abbrev pub called_first_alone : ProgramTree
called_first_alone =
    with_procedure 4
    (inner_procedure (codes "top_out2") (now_param ∷ input_param ∷ second_param ∷ [])
    (call 0 1 OnSelf (exprs_of_list (read (Param 2) ∷ [])) ∷ []))

-- ---- Functions

-- the first takes the second input too
abbrev pub takes_unused : ProgramTree
takes_unused =
    with_procedure 3
    (inner_procedure (codes "top_out1") (now_param ∷ input_param ∷ second_param ∷ [])
    (call 0 0 OnSelf (exprs_of_list (read (Param 0) ∷ read (Param 1) ∷ []))
    ∷ call 0 2 OnSelf no_exprs ∷ []))

-- one function gives both outputs; the child's procedures are counted from 7 on
abbrev pub one_step_code : SystemTree
one_step_code = record {
  structure = outer_code.structure;
  outputs = outer_code.outputs;
  procedures =
      group_procedure (codes "top_g0") (now_param ∷ input_param ∷ []) 6 (assign 0 0 (read (Param 1))
      ∷ call 0 7 (OnChild 5) (exprs_of_list (read (Param 0) ∷ read (Own 0) ∷ [])) ∷ [])
      ∷ group_procedure (codes "top_g1") (second_param ∷ []) 7 (assign 0 1 (read (Param 0))
      ∷ assign 0 2 (binary Add (read (Child 5 0)) (read (Own 1))) ∷ assign 0 4 (read (Own 2))
      ∷ [])
      ∷ group_procedure (codes "top_g2") [] 8 (assign 0 3 (read (Child 5 0)) ∷ [])
      ∷ inner_procedure (codes "top_out1") (now_param ∷ input_param ∷ second_param ∷ [])
      (call 0 0 OnSelf (exprs_of_list (read (Param 0) ∷ read (Param 1) ∷ []))
      ∷ call 0 1 OnSelf (exprs_of_list (read (Param 2) ∷ [])) ∷ call 0 2 OnSelf no_exprs ∷ [])
      ∷ inner_procedure (codes "top_update") (now_param ∷ input_param ∷ second_param ∷ [])
      (call 0 8 (OnChild 5) (exprs_of_list (read (Param 0) ∷ read (Own 0) ∷ []))
      ∷ zeros (6 ∷ 7 ∷ 8 ∷ []))
      ∷ inner_procedure (codes "top_start") [] (zeros (0 ∷ 1 ∷ 2 ∷ 3 ∷ 4 ∷ 6 ∷ 7 ∷ 8 ∷ [])
      ++ call 0 9 (OnChild 5) no_exprs ∷ [])
      ∷ inner_procedure (codes "top_reset") [] (call 0 10 (OnChild 5) no_exprs ∷ [])
      ∷ [];
}

abbrev pub one_step : ProgramTree
one_step = program_of one_step_code

-- the functions store nothing, and the update makes the outputs
abbrev pub idle_code : SystemTree
idle_code = record {
  structure = outer_code.structure;
  outputs = outer_code.outputs;
  procedures =
      replaced
      (replaced
      (replaced outer_code.procedures 3
      (inner_procedure (codes "top_out1") (now_param ∷ input_param ∷ []) []))
      4 (inner_procedure (codes "top_out2") (now_param ∷ input_param ∷ second_param ∷ []) []))
      5 (inner_procedure (codes "top_update") (now_param ∷ input_param ∷ second_param ∷ [])
      (call 0 0 OnSelf (exprs_of_list (read (Param 0) ∷ read (Param 1) ∷ []))
      ∷ call 0 1 OnSelf (exprs_of_list (read (Param 2) ∷ [])) ∷ call 0 2 OnSelf no_exprs
      ∷ call 0 9 (OnChild 5) (exprs_of_list (read (Param 0) ∷ read (Own 0) ∷ []))
      ∷ zeros (6 ∷ 7 ∷ 8 ∷ [])));
}

abbrev pub idle_functions : ProgramTree
idle_functions = program_of idle_code

-- ---- The step of `root`

-- it makes the outputs itself, beside procedures that nothing calls
abbrev pub flat_step : ProgramTree
flat_step =
    with_step (assign 0 1 (read (Param 0))
    ∷ assign 0 2 (binary Add (read (Param 0)) (read (Param 1))) ∷ assign 0 0 (literal (pos 0)) ∷ [])

-- it divides by 0
abbrev pub divides_by_zero : ProgramTree
divides_by_zero = with_step (assign 0 1 (binary Rem (read (Param 0)) (literal (pos 0))) ∷ [])

-- it makes the first output 325 times, of which each is a step
abbrev pub over_bound : ProgramTree
over_bound = with_step (replicate 325 (assign 0 1 (read (Param 0))))

-- the tick stays
abbrev pub still_tick : ProgramTree
still_tick =
    with_step (call 0 8 (OnChild 3) (exprs_of_list (read (Own 0) ∷ read (Param 0) ∷ []))
    ∷ call 0 9 (OnChild 3) (exprs_of_list (read (Own 0) ∷ read (Param 0) ∷ read (Param 1) ∷ []))
    ∷ call 0 10 (OnChild 3) (exprs_of_list (read (Own 0) ∷ read (Param 0) ∷ read (Param 1) ∷ []))
    ∷ assign 0 1 (read (Child 3 3)) ∷ assign 0 2 (read (Child 3 4)) ∷ [])

-- ---- Start and reset

abbrev pub leaves_values : ProgramTree
leaves_values =
    with_procedure 6
    (inner_procedure (codes "top_start") []
    (zeros (6 ∷ 7 ∷ 8 ∷ []) ++ call 0 10 (OnChild 5) no_exprs ∷ []))

abbrev pub leaves_counter : ProgramTree
leaves_counter =
    with_procedure 6
    (inner_procedure (codes "top_start") [] (zeros (0 ∷ 1 ∷ 2 ∷ 3 ∷ 4 ∷ [])
    ++ call 0 10 (OnChild 5) no_exprs ∷ []))

-- the child isn't started
abbrev pub leaves_child : ProgramTree
leaves_child =
    with_procedure 6
    (inner_procedure (codes "top_start") [] (zeros (0 ∷ 1 ∷ 2 ∷ 3 ∷ 4 ∷ 6 ∷ 7 ∷ 8 ∷ [])))

abbrev pub stores_values : ProgramTree
stores_values =
    with_procedure 7
    (inner_procedure (codes "top_reset") [] (zeros (0 ∷ 1 ∷ 2 ∷ 3 ∷ 4 ∷ [])
    ++ call 0 11 (OnChild 5) no_exprs ∷ []))

-- `root_start` starts `top`, and then does these
abbrev with_start : List StmtTree → ProgramTree
with_start more = record {
  pures = shared_program.pures;
  structs = shared_program.structs;
  procedures =
      replaced shared_program.procedures 13
      (record {
        name = root_start_name;
        private = false;
        of = 2;
        params = [];
        body = stmts_of_list (call 0 11 (OnChild 3) no_exprs ∷ more);
      });
}

-- it copies both outputs, and leaves the tick
abbrev pub leaves_tick : ProgramTree
leaves_tick = with_start (assign 0 1 (read (Child 3 3)) ∷ assign 0 2 (read (Child 3 4)) ∷ [])

-- it copies the first output, and leaves the second
abbrev pub leaves_output : ProgramTree
leaves_output = with_start (assign 0 1 (read (Child 3 3)) ∷ assign 0 0 (literal (pos 0)) ∷ [])

-- ---- The model's run over a trace

abbrev pub trace : List (List ℤ)
trace = (pos 1 ∷ pos 10 ∷ []) ∷ (pos 2 ∷ pos 20 ∷ []) ∷ []
