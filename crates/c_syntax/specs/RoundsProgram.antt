-- A program with pure functions, conditions, a private procedure and a field that is a struct.
use Rattle.std.specs.Prelude.{pos, true, false, [], ◌∷◌, codes}
use Rattle.base_core.specs.declared.base.Compare.TheVariants.{Eq, Lt, Ge, Gt}
use Rattle.c_syntax.specs.declared.code.BinOp.TheVariants.{Add, Sub, Mul, Div, Rem}
use Rattle.c_syntax.specs.declared.code.CType.TheVariants.{I8, U8, I16, I32}
use Rattle.c_syntax.specs.declared.code.Leaf.TheVariants.{Param, Own, Child}
use Rattle.c_syntax.specs.declared.code.Target.TheVariants.{Own as OwnTarget, Child as ChildTarget}
use Rattle.c_syntax.specs.declared.program.FieldKind.TheVariants.{Number, Struct}
use Rattle.c_syntax.specs.Tree.{literal, neg, read, binary, pick, pure, no_exprs, more_exprs, compare, both, either, negated, assign, branch, call, no_stmts, more_stmts, ProgramTree}

abbrev pub rounds_program : ProgramTree
rounds_program = record {
  pures = record {
    name = codes "round_floor";
    params = codes "v" ∷ codes "d" ∷ [];
    body = pick (compare Lt (binary Rem (read (Param 0)) (read (Param 1))) (literal (pos 0)))
        (binary Sub (binary Div (read (Param 0)) (read (Param 1))) (literal (pos 1)))
        (binary Div (read (Param 0)) (read (Param 1)));
    line = 2;
  }
      ∷ record {
        name = codes "round_ceiling";
        params = codes "v" ∷ codes "d" ∷ [];
        body = pick (compare Gt (binary Rem (read (Param 0)) (read (Param 1))) (literal (pos 0)))
            (binary Add (binary Div (read (Param 0)) (read (Param 1))) (literal (pos 1)))
            (binary Div (read (Param 0)) (read (Param 1)));
        line = 3;
      }
      ∷ record {
        name = codes "round_zero";
        params = codes "v" ∷ codes "d" ∷ [];
        body = binary Div (read (Param 0)) (read (Param 1));
        line = 4;
      }
      ∷ record {
        name = codes "round_nearest";
        params = codes "v" ∷ codes "d" ∷ [];
        body = pick
            (compare Ge (binary Rem (read (Param 0)) (read (Param 1)))
            (binary Div (read (Param 1)) (literal (pos 2))))
            (binary Add (binary Div (read (Param 0)) (read (Param 1))) (literal (pos 1)))
            (pick (compare Lt (binary Rem (read (Param 0)) (read (Param 1)))
            (neg (binary Div (read (Param 1)) (literal (pos 2)))))
            (binary Sub (binary Div (read (Param 0)) (read (Param 1))) (literal (pos 1)))
            (binary Div (read (Param 0)) (read (Param 1))));
        line = 5;
      }
      ∷ record {
        name = codes "clamp";
        params = codes "v" ∷ codes "lo" ∷ codes "hi" ∷ [];
        body = pick (compare Lt (read (Param 0)) (read (Param 1))) (read (Param 1))
            (pick (compare Gt (read (Param 0)) (read (Param 2))) (read (Param 2)) (read (Param 0)));
        line = 6;
      }
      ∷ record {
        name = codes "wrap";
        params = codes "v" ∷ codes "lo" ∷ codes "n" ∷ [];
        body = pick
            (compare Lt (binary Rem (binary Sub (read (Param 0)) (read (Param 1))) (read (Param 2)))
            (literal (pos 0)))
            (binary Add
            (binary Add (binary Rem (binary Sub (read (Param 0)) (read (Param 1))) (read (Param 2)))
            (read (Param 2))) (read (Param 1)))
            (binary Add (binary Rem (binary Sub (read (Param 0)) (read (Param 1))) (read (Param 2)))
            (read (Param 1)));
        line = 7;
      }
      ∷ [];
  structs =
      record {
        name = codes "inner";
        fields = record { name = codes "v0"; kind = Number I8 }
            ∷ record { name = codes "k1"; kind = Number U8 } ∷ [];
      }
      ∷ record {
        name = codes "root";
        fields = record { name = codes "y2"; kind = Number I32 }
            ∷ record { name = codes "one"; kind = Struct 0 }
            ∷ record { name = codes "y1"; kind = Number I8 }
            ∷ record { name = codes "y3"; kind = Number I32 } ∷ [];
      }
      ∷ [];
  procedures =
      record {
        name = codes "inner_step";
        private = true;
        of = 0;
        params = record { name = codes "u1"; type = I16 } ∷ [];
        body =
            more_stmts
            (branch 11
            (both (compare Gt (read (Param 0)) (literal (pos 2000)))
            (negated (compare Eq (read (Own 1)) (literal (pos 3)))))
            (more_stmts
            (assign 11 0
            (pure 4 (more_exprs
            (pure 3 (more_exprs (read (Param 0)) (more_exprs (literal (pos 16)) no_exprs)))
            (more_exprs (neg (literal (pos 128))) (more_exprs (literal (pos 127)) no_exprs)))))
            no_stmts)
            (more_stmts
            (assign 12 0
            (pure 5 (more_exprs
            (pure 1 (more_exprs (read (Param 0)) (more_exprs (literal (pos 16)) no_exprs)))
            (more_exprs (neg (literal (pos 128))) (more_exprs (literal (pos 256)) no_exprs)))))
            no_stmts))
            (more_stmts
            (branch 13
            (either (compare Lt (read (Own 1)) (literal (pos 3)))
            (compare Eq (read (Param 0)) (literal (pos 0))))
            (more_stmts
            (assign 13 1
            (binary Rem (binary Add (read (Own 1)) (literal (pos 1))) (literal (pos 4))))
            no_stmts) no_stmts) no_stmts);
      }
      ∷ record {
        name = codes "inner_out1";
        private = false;
        of = 0;
        params = record { name = codes "u1"; type = I16 } ∷ [];
        body =
            more_stmts (call 15 0 OwnTarget (more_exprs (read (Param 0)) no_exprs)) no_stmts;
      }
      ∷ record { name = codes "root_start"; private = false; of = 1; params = []; body = no_stmts }
      ∷ record {
        name = codes "root_step";
        private = false;
        of = 1;
        params = record { name = codes "u1"; type = I16 } ∷ [];
        body =
            more_stmts (call 18 1 (ChildTarget 1) (more_exprs (read (Param 0)) no_exprs))
            (more_stmts (assign 19 2 (read (Child 1 0)))
            (more_stmts
            (assign 20 0
            (pure 0 (more_exprs (read (Param 0)) (more_exprs (literal (pos 16)) no_exprs))))
            (more_stmts
            (assign 21 3
            (binary Mul (literal (pos 1000)) (binary Add (read (Child 1 1)) (read (Param 0)))))
            no_stmts)));
      }
      ∷ [];
}
