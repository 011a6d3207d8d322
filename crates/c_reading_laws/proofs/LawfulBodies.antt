-- Bodies that are resolved are lawful.
use Rattle.std.proofs.Common.{◌≡◌, refl, sym, ◌∙◌, ap, ℕ, suc, ◌+◌, ◌^◌, ◌<◌, ◌≤◌, pos, List, [], ◌∷◌, length, map, Some, Ok, Bool, true, false, ◌&&◌, nat_le, bytes_eq, slice_get, slice_index, subst, arith, eqb-true, leb-true, ◌==◌}
use Rattle.std.specs.Prelude.{⊤}
use Rattle.std.specs.List.{position_from}
use Rattle.std.proofs.lemmas.List.{length-map}
use Rattle.c_syntax.specs.declared.code.CType.{CType}
use Rattle.c_syntax.specs.declared.code.Target.{Target}
use Rattle.c_syntax.specs.declared.code.Target.TheVariants.{Own as OwnTarget, Child as ChildTarget}
use Rattle.c_syntax.specs.declared.fault.CKind.TheVariants.{Deep, TypeRule}
use Rattle.c_syntax.specs.declared.program.FieldKind.{FieldKind}
use Rattle.c_syntax.specs.declared.program.FieldKind.TheVariants.{Struct}
use Rattle.c_syntax.specs.Tree.{ExprTree, ExprTrees, CondTree, StmtTree, StmtTrees, PureTree, ProcedureTree}
use Rattle.c_grammar.specs.Written.{WrittenExpr, WrittenExprs, WrittenCond, WrittenTarget, own_target, field_target, WrittenArguments, WrittenStmt, WrittenStmts}
use Rattle.base_core.specs.Results.{◌>>=◌, ◌>>◌}
use Rattle.c_rules.specs.Resolve.{unless_fault, on_line, or_unnamed, field_named, as_number, as_struct, same_type, same_types, Names, Known, resolve_leaf, resolve_array, resolve_pure_call, exprs_count, resolve_expr, resolve_exprs, resolve_cond, argument_casts, resolve_arguments, resolve_store, resolve_item_store, resolve_target, resolve_call, resolve_stmt, resolve_stmts}
use Rattle.c_syntax.specs.Chains.{chain_limit, stmt_chain, stmts_chain}
use Rattle.c_syntax.specs.Lawful.{IsNumberAt, IsLawfulExpr, AreLawfulExprs, IsLawfulCond, exprs_length, IsLawfulTarget, IsLawfulStmt, AreLawfulStmts}
use Rattle.c_rules.proofs.lemmas.Resolved.{ok-same, bind-parts, then-parts, on_line-ok, unless-ok, named-ok, field-there, struct-kind, number-kind, kind-same, some_same, reach_of, leaf-lawful, array-lawful, item_store-lawful}

abbrev mutual
  -- its literals have at most 63 bits
  pub SmallExpr : WrittenExpr → Type 0
  SmallExpr (WrittenExpr.literal value) = value < 2 ^ 63
  SmallExpr (WrittenExpr.neg e) = SmallExpr e
  SmallExpr (WrittenExpr.read line leaf) = ⊤
  SmallExpr (WrittenExpr.binary op a b) = SmallExpr a × SmallExpr b
  SmallExpr (WrittenExpr.pick test a b) = SmallCond test × SmallExpr a × SmallExpr b
  SmallExpr (WrittenExpr.pure line function values) = SmallExprs values
  SmallExpr (WrittenExpr.item line field index) = SmallExpr index

  pub SmallExprs : WrittenExprs → Type 0
  SmallExprs WrittenExprs.no_exprs = ⊤
  SmallExprs (WrittenExprs.more_exprs e es) = SmallExpr e × SmallExprs es

  pub SmallCond : WrittenCond → Type 0
  SmallCond (WrittenCond.compare how a b) = SmallExpr a × SmallExpr b
  SmallCond (WrittenCond.both a b) = SmallCond a × SmallCond b
  SmallCond (WrittenCond.either a b) = SmallCond a × SmallCond b
  SmallCond (WrittenCond.negated a) = SmallCond a

abbrev pub SmallArguments : WrittenArguments → Type 0
SmallArguments WrittenArguments.no_arguments = ⊤
SmallArguments (WrittenArguments.more_arguments cast e rest) = SmallExpr e × SmallArguments rest

abbrev mutual
  pub SmallStmt : WrittenStmt → Type 0
  SmallStmt (WrittenStmt.assign line field cast value) = SmallExpr value
  SmallStmt (WrittenStmt.assign_at line field index cast value) = SmallExpr index × SmallExpr value
  SmallStmt (WrittenStmt.branch line test on_true) = SmallCond test × SmallStmts on_true
  SmallStmt (WrittenStmt.branch_else line test on_true on_false) = SmallCond test × SmallStmts on_true × SmallStmts on_false
  SmallStmt (WrittenStmt.call line procedure target values) = SmallArguments values

  pub SmallStmts : WrittenStmts → Type 0
  SmallStmts WrittenStmts.no_stmts = ⊤
  SmallStmts (WrittenStmts.more_stmts s ss) = SmallStmt s × SmallStmts ss

exprs-length : (names : Names) (es : WrittenExprs) (xs : ExprTrees) → resolve_exprs names es ≡ Ok xs → exprs_length xs ≡ exprs_count es
exprs-length names WrittenExprs.no_exprs xs e = ap exprs_length (sym (ok-same ExprTrees.no_exprs xs e))
exprs-length names (WrittenExprs.more_exprs w ws) xs e =
    let b : _ = bind-parts (resolve_expr names w) (λ x. resolve_exprs names ws >>= λ ys. Ok (ExprTrees.more_exprs x ys)) xs e in
    let c : _ = bind-parts (resolve_exprs names ws) (λ ys. Ok (ExprTrees.more_exprs b.0 ys)) xs b.2 in
    ap exprs_length (sym (ok-same (ExprTrees.more_exprs b.0 c.0) xs c.2)) ∙ ap (λ n. n + 1) (exprs-length names ws c.0 c.1)

-- the function of a call, with as many parameters as there are values
pure_call-there : (known : Known) (name : List ℕ) (count k : ℕ) → resolve_pure_call known name count ≡ Ok k →
    (p : PureTree) × (slice_get known.pures k ≡ Some p) × (length p.params ≡ count)
pure_call-there known name count k e =
    let b : _ =
    bind-parts (or_unnamed (position_from (λ p. bytes_eq p.name name) 0 known.pures))
    (λ j. or_unnamed (slice_get known.pures j) >>= λ p. unless_fault (length p.params == count) TypeRule >> Ok j) k
    e in
    let c : _ =
    bind-parts (or_unnamed (slice_get known.pures b.0))
    (λ p. unless_fault (length p.params == count) TypeRule >> Ok b.0) k b.2 in
    let d : _ = then-parts (unless_fault (length c.0.params == count) TypeRule) (Ok b.0) k c.2 in (
      c.0,
      subst (λ j. slice_get known.pures j ≡ Some c.0) (ok-same b.0 k d.2)
          (named-ok (slice_get known.pures b.0) c.0 c.1),
      eqb-true (length c.0.params) count (unless-ok (length c.0.params == count) TypeRule d.0 d.1),
    )

mutual
  pub expr-lawful : (names : Names) (of : ℕ) (w : WrittenExpr) (x : ExprTree) → SmallExpr w →
      resolve_expr names w ≡ Ok x → IsLawfulExpr (reach_of names of) x
  expr-lawful names of (WrittenExpr.literal value) x s e =
      subst (λ y. IsLawfulExpr (reach_of names of) y) (ok-same (ExprTree.literal (pos value)) x e) (value, refl, s)
  expr-lawful names of (WrittenExpr.neg w) x s e =
      let b : _ = bind-parts (resolve_expr names w) (λ y. Ok (ExprTree.neg y)) x e in
      subst (λ y. IsLawfulExpr (reach_of names of) y) (ok-same (ExprTree.neg b.0) x b.2) (expr-lawful names of w b.0 s b.1)
  expr-lawful names of (WrittenExpr.read line leaf) x s e =
      let b : _ = bind-parts (on_line line (resolve_leaf names leaf)) (λ l. Ok (ExprTree.read l)) x e in
      subst (λ y. IsLawfulExpr (reach_of names of) y) (ok-same (ExprTree.read b.0) x b.2)
      (leaf-lawful names of leaf b.0 (on_line-ok line (resolve_leaf names leaf) b.0 b.1))
  expr-lawful names of (WrittenExpr.binary op v w) x s e =
      let b : _ = bind-parts (resolve_expr names v) (λ y. resolve_expr names w >>= λ z. Ok (ExprTree.binary op y z)) x e in
      let c : _ = bind-parts (resolve_expr names w) (λ z. Ok (ExprTree.binary op b.0 z)) x b.2 in
      subst (λ y. IsLawfulExpr (reach_of names of) y) (ok-same (ExprTree.binary op b.0 c.0) x c.2)
      (expr-lawful names of v b.0 s.0 b.1, expr-lawful names of w c.0 s.1 c.1)
  expr-lawful names of (WrittenExpr.pick test v w) x s e =
      let a : _ =
      bind-parts (resolve_cond names test) (λ c. resolve_expr names v >>= λ y. resolve_expr names w
      >>= λ z. Ok (ExprTree.pick c y z)) x e in
      let b : _ = bind-parts (resolve_expr names v) (λ y. resolve_expr names w >>= λ z. Ok (ExprTree.pick a.0 y z)) x a.2 in
      let c : _ = bind-parts (resolve_expr names w) (λ z. Ok (ExprTree.pick a.0 b.0 z)) x b.2 in
      subst (λ y. IsLawfulExpr (reach_of names of) y) (ok-same (ExprTree.pick a.0 b.0 c.0) x c.2) (
        cond-lawful names of test a.0 s.0 a.1,
        expr-lawful names of v b.0 s.1 b.1,
        expr-lawful names of w c.0 s.2 c.1,
      )
  expr-lawful names of (WrittenExpr.pure line function values) x s e =
      let b : _ =
      bind-parts (on_line line (resolve_pure_call names.known function (exprs_count values)))
      (λ k. resolve_exprs names values >>= λ vs. Ok (ExprTree.pure k vs)) x e in
      let c : _ = bind-parts (resolve_exprs names values) (λ vs. Ok (ExprTree.pure b.0 vs)) x b.2 in
      let p : _ =
      pure_call-there names.known function (exprs_count values) b.0
      (on_line-ok line (resolve_pure_call names.known function (exprs_count values)) b.0 b.1) in
      subst (λ y. IsLawfulExpr (reach_of names of) y) (ok-same (ExprTree.pure b.0 c.0) x c.2) (
        p.0,
        p.1,
        p.2
            ∙ sym (exprs-length names values c.0 c.1),
        exprs-lawful names of values c.0 s c.1,
      )
  expr-lawful names of (WrittenExpr.item line field index) x s e =
      let b : _ =
      bind-parts (on_line line (resolve_array names field)) (λ k. resolve_expr names index
      >>= λ y. Ok (ExprTree.item k y)) x e in
      let c : _ = bind-parts (resolve_expr names index) (λ y. Ok (ExprTree.item b.0 y)) x b.2 in
      subst (λ y. IsLawfulExpr (reach_of names of) y) (ok-same (ExprTree.item b.0 c.0) x c.2) (
        array-lawful names field b.0 (on_line-ok line (resolve_array names field) b.0 b.1),
        expr-lawful names of index c.0 s c.1,
      )

  pub exprs-lawful : (names : Names) (of : ℕ) (ws : WrittenExprs) (xs : ExprTrees) → SmallExprs ws →
      resolve_exprs names ws ≡ Ok xs → AreLawfulExprs (reach_of names of) xs
  exprs-lawful names of WrittenExprs.no_exprs xs s e =
      subst (λ y. AreLawfulExprs (reach_of names of) y) (ok-same ExprTrees.no_exprs xs e) tt
  exprs-lawful names of (WrittenExprs.more_exprs w ws) xs s e =
      let b : _ = bind-parts (resolve_expr names w) (λ x. resolve_exprs names ws >>= λ ys. Ok (ExprTrees.more_exprs x ys)) xs e in
      let c : _ = bind-parts (resolve_exprs names ws) (λ ys. Ok (ExprTrees.more_exprs b.0 ys)) xs b.2 in
      subst (λ y. AreLawfulExprs (reach_of names of) y) (ok-same (ExprTrees.more_exprs b.0 c.0) xs c.2)
      (expr-lawful names of w b.0 s.0 b.1, exprs-lawful names of ws c.0 s.1 c.1)

  pub cond-lawful : (names : Names) (of : ℕ) (w : WrittenCond) (x : CondTree) → SmallCond w →
      resolve_cond names w ≡ Ok x → IsLawfulCond (reach_of names of) x
  cond-lawful names of (WrittenCond.compare how v w) x s e =
      let b : _ = bind-parts (resolve_expr names v) (λ y. resolve_expr names w >>= λ z. Ok (CondTree.compare how y z)) x e in
      let c : _ = bind-parts (resolve_expr names w) (λ z. Ok (CondTree.compare how b.0 z)) x b.2 in
      subst (λ y. IsLawfulCond (reach_of names of) y) (ok-same (CondTree.compare how b.0 c.0) x c.2)
      (expr-lawful names of v b.0 s.0 b.1, expr-lawful names of w c.0 s.1 c.1)
  cond-lawful names of (WrittenCond.both v w) x s e =
      let b : _ = bind-parts (resolve_cond names v) (λ y. resolve_cond names w >>= λ z. Ok (CondTree.both y z)) x e in
      let c : _ = bind-parts (resolve_cond names w) (λ z. Ok (CondTree.both b.0 z)) x b.2 in
      subst (λ y. IsLawfulCond (reach_of names of) y) (ok-same (CondTree.both b.0 c.0) x c.2)
      (cond-lawful names of v b.0 s.0 b.1, cond-lawful names of w c.0 s.1 c.1)
  cond-lawful names of (WrittenCond.either v w) x s e =
      let b : _ = bind-parts (resolve_cond names v) (λ y. resolve_cond names w >>= λ z. Ok (CondTree.either y z)) x e in
      let c : _ = bind-parts (resolve_cond names w) (λ z. Ok (CondTree.either b.0 z)) x b.2 in
      subst (λ y. IsLawfulCond (reach_of names of) y) (ok-same (CondTree.either b.0 c.0) x c.2)
      (cond-lawful names of v b.0 s.0 b.1, cond-lawful names of w c.0 s.1 c.1)
  cond-lawful names of (WrittenCond.negated w) x s e =
      let b : _ = bind-parts (resolve_cond names w) (λ y. Ok (CondTree.negated y)) x e in
      subst (λ y. IsLawfulCond (reach_of names of) y) (ok-same (CondTree.negated b.0) x b.2) (cond-lawful names of w b.0 s b.1)

arguments-lawful : (names : Names) (of : ℕ) (ws : WrittenArguments) (xs : ExprTrees) → SmallArguments ws →
    resolve_arguments names ws ≡ Ok xs →
    AreLawfulExprs (reach_of names of) xs × (exprs_length xs ≡ length (argument_casts ws))
arguments-lawful names of WrittenArguments.no_arguments xs s e =
    subst (λ y. AreLawfulExprs (reach_of names of) y × (exprs_length y ≡ 0)) (ok-same ExprTrees.no_exprs xs e)
    (tt, refl)
arguments-lawful names of (WrittenArguments.more_arguments cast w ws) xs s e =
    let b : _ = bind-parts (resolve_expr names w) (λ x. resolve_arguments names ws >>= λ ys. Ok (ExprTrees.more_exprs x ys)) xs e in
    let c : _ = bind-parts (resolve_arguments names ws) (λ ys. Ok (ExprTrees.more_exprs b.0 ys)) xs b.2 in
    let l : _ = arguments-lawful names of ws c.0 s.1 c.1 in
    subst (λ y. AreLawfulExprs (reach_of names of) y × (exprs_length y ≡ suc (length (argument_casts ws))))
    (ok-same (ExprTrees.more_exprs b.0 c.0) xs c.2) ((expr-lawful names of w b.0 s.0 b.1, l.0), omega (arith, l.1))

same_types-length : (ts us : List CType) → same_types ts us ≡ true → length ts ≡ length us
same_types-length [] [] e = refl
same_types-length (t ∷ ts) [] e = cc
same_types-length [] (u ∷ us) e = cc
same_types-length (t ∷ ts) (u ∷ us) e = ap suc (same_types-length ts us (second (same_type t u) (same_types ts us) e))
  where
    second : (a b : Bool) → (a && b) ≡ true → b ≡ true
    second true b k = k
    second false b k = cc

target-lawful : (names : Names) (of : ℕ) (w : WrittenTarget) (place : Target × FieldKind) (k : ℕ) → names.of ≡ Some of →
    resolve_target names w ≡ Ok place → place.1 ≡ Struct k → IsLawfulTarget (reach_of names of) place.0 k
target-lawful names of own_target place k own e is =
    let b : _ = bind-parts (or_unnamed names.of) (λ j. Ok (OwnTarget, Struct j)) place e in
    let same : (OwnTarget, Struct b.0) ≡ place = ok-same (OwnTarget, Struct b.0) place b.2 in
    subst (λ t. IsLawfulTarget (reach_of names of) t k) (ap (λ x. x.0) same)
    (some_same of b.0 (sym own ∙ named-ok names.of b.0 b.1) ∙ kind-same b.0 k (ap (λ x. x.1) same ∙ is))
target-lawful names of (field_target name) place k own e is =
    let b : _ = bind-parts (field_named names.fields name) (λ field. Ok (ChildTarget field.0, field.1)) place e in
    let same : (ChildTarget b.0.0, b.0.1) ≡ place = ok-same (ChildTarget b.0.0, b.0.1) place b.2 in
    let f : _ = field-there names.fields name b.0 b.1 in
    subst (λ t. IsLawfulTarget (reach_of names of) t k) (ap (λ x. x.0) same) (f.0, f.1, f.2 ∙ ap (λ x. x.1) same ∙ is)

-- what a call calls: a procedure before, of the target's struct, with parameters of these types, in no chain past the limit
record Called (names : Names) (of : ℕ) (casts : List CType) (callee : ℕ × Target) : Type 0 where
  procedure : ProcedureTree
  there : slice_get names.known.procedures callee.0 ≡ Some procedure
  target : IsLawfulTarget (reach_of names of) callee.1 procedure.of
  count : length procedure.params ≡ length casts
  chain : slice_index names.known.chains callee.0 + 1 ≤ chain_limit

call-lawful : (names : Names) (of : ℕ) (name : List ℕ) (w : WrittenTarget) (casts : List CType) (callee : ℕ × Target) →
    names.of ≡ Some of → resolve_call names name w casts ≡ Ok callee → Called names of casts callee
call-lawful names of name w casts callee own e =
    let b : _ =
    bind-parts (or_unnamed (position_from (λ p. bytes_eq p.name name) 0 names.known.procedures))
    (λ k. or_unnamed (slice_get names.known.procedures k) >>= λ p. resolve_target names w >>= λ place.
    as_struct place.1 >>= λ struct. unless_fault (struct == p.of) TypeRule >>
    (unless_fault (same_types (map (λ q. q.type) p.params) casts) TypeRule >>
    (unless_fault (nat_le (slice_index names.known.chains k + 1) chain_limit) Deep >> Ok (k, place.0)))) callee e in
    let k : ℕ = b.0 in
    let c : _ =
    bind-parts (or_unnamed (slice_get names.known.procedures k))
    (λ p. resolve_target names w >>= λ place. as_struct place.1 >>= λ struct.
    unless_fault (struct == p.of) TypeRule >>
    (unless_fault (same_types (map (λ q. q.type) p.params) casts) TypeRule >>
    (unless_fault (nat_le (slice_index names.known.chains k + 1) chain_limit) Deep >> Ok (k, place.0)))) callee
    b.2 in
    let p : ProcedureTree = c.0 in
    let d : _ =
    bind-parts (resolve_target names w)
    (λ place. as_struct place.1 >>= λ struct. unless_fault (struct == p.of) TypeRule >>
    (unless_fault (same_types (map (λ q. q.type) p.params) casts) TypeRule >>
    (unless_fault (nat_le (slice_index names.known.chains k + 1) chain_limit) Deep >> Ok (k, place.0)))) callee
    c.2 in
    let place : Target × FieldKind = d.0 in
    let f : _ =
    bind-parts (as_struct place.1)
    (λ struct. unless_fault (struct == p.of) TypeRule >>
    (unless_fault (same_types (map (λ q. q.type) p.params) casts) TypeRule >>
    (unless_fault (nat_le (slice_index names.known.chains k + 1) chain_limit) Deep >> Ok (k, place.0)))) callee
    d.2 in
    let g : _ =
    then-parts (unless_fault (f.0 == p.of) TypeRule)
    (unless_fault (same_types (map (λ q. q.type) p.params) casts) TypeRule >>
    (unless_fault (nat_le (slice_index names.known.chains k + 1) chain_limit) Deep >> Ok (k, place.0))) callee
    f.2 in
    let h : _ =
    then-parts (unless_fault (same_types (map (λ q. q.type) p.params) casts) TypeRule)
    (unless_fault (nat_le (slice_index names.known.chains k + 1) chain_limit) Deep >> Ok (k, place.0)) callee g.2 in
    let i : _ = then-parts (unless_fault (nat_le (slice_index names.known.chains k + 1) chain_limit) Deep) (Ok (k, place.0)) callee h.2 in
    let same : (k, place.0) ≡ callee = ok-same (k, place.0) callee i.2 in
    let is : place.1 ≡ Struct p.of =
    struct-kind place.1 f.0 f.1 ∙ ap Struct (eqb-true f.0 p.of (unless-ok (f.0 == p.of) TypeRule g.0 g.1)) in
    record {
      procedure = p;
      there = subst (λ n. slice_get names.known.procedures n ≡ Some p) (ap (λ x. x.0) same)
          (named-ok (slice_get names.known.procedures k) p c.1);
      target = subst (λ t. IsLawfulTarget (reach_of names of) t p.of) (ap (λ x. x.1) same) (target-lawful names of w place p.of own d.1 is);
      count = sym (length-map p.params (λ q. q.type))
          ∙ same_types-length (map (λ q. q.type) p.params) casts
          (unless-ok (same_types (map (λ q. q.type) p.params) casts) TypeRule h.0 h.1);
      chain = subst (λ n. slice_index names.known.chains n + 1 ≤ chain_limit) (ap (λ x. x.0) same)
          (leb-true (slice_index names.known.chains k + 1) chain_limit
          (unless-ok (nat_le (slice_index names.known.chains k + 1) chain_limit) Deep i.0 i.1));
    }

-- a store goes to a number field
store-there : (names : Names) (name : List ℕ) (cast : CType) (k : ℕ) → resolve_store names name cast ≡ Ok k → IsNumberAt names.fields k
store-there names name cast k e =
    let b : _ =
    bind-parts (field_named names.fields name)
    (λ field. as_number field.1 >>= λ type. unless_fault (same_type type cast) TypeRule >> Ok field.0) k e in
    let c : _ = bind-parts (as_number b.0.1) (λ type. unless_fault (same_type type cast) TypeRule >> Ok b.0.0) k b.2 in
    let d : _ = then-parts (unless_fault (same_type c.0 cast) TypeRule) (Ok b.0.0) k c.2 in
    let f : _ = field-there names.fields name b.0 b.1 in
    subst (λ n. IsNumberAt names.fields n) (ok-same b.0.0 k d.2) (f.0, f.1, number-kind f.0 b.0.1 c.0 f.2 c.1)

mutual
  -- a statement is lawful, and no chain of calls that begins in it is too long for a caller
  pub stmt-lawful : (names : Names) (of : ℕ) (w : WrittenStmt) (x : StmtTree) → names.of ≡ Some of → SmallStmt w →
      resolve_stmt names w ≡ Ok x →
      IsLawfulStmt (reach_of names of) x × (stmt_chain names.known.chains x + 1 ≤ chain_limit)
  stmt-lawful names of (WrittenStmt.assign line field cast value) x own s e =
      let b : _ =
      bind-parts (on_line line (resolve_store names field cast)) (λ k. resolve_expr names value
      >>= λ y. Ok (StmtTree.assign line k y)) x e in
      let c : _ = bind-parts (resolve_expr names value) (λ y. Ok (StmtTree.assign line b.0 y)) x b.2 in
      subst (λ y. IsLawfulStmt (reach_of names of) y × (stmt_chain names.known.chains y + 1 ≤ chain_limit))
      (ok-same (StmtTree.assign line b.0 c.0) x c.2) (
        (
          store-there names field cast b.0 (on_line-ok line (resolve_store names field cast) b.0 b.1),
          expr-lawful names of value c.0 s c.1,
        ),
        omega arith,
      )
  stmt-lawful names of (WrittenStmt.assign_at line field index cast value) x own s e =
      let b : _ =
      bind-parts (on_line line (resolve_item_store names field cast)) (λ k. resolve_expr names index
      >>= λ i. resolve_expr names value >>= λ y. Ok (StmtTree.assign_at line k i y)) x e in
      let a : _ =
      bind-parts (resolve_expr names index) (λ i. resolve_expr names value
      >>= λ y. Ok (StmtTree.assign_at line b.0 i y)) x b.2 in
      let c : _ = bind-parts (resolve_expr names value) (λ y. Ok (StmtTree.assign_at line b.0 a.0 y)) x a.2 in
      subst (λ y. IsLawfulStmt (reach_of names of) y × (stmt_chain names.known.chains y + 1 ≤ chain_limit))
      (ok-same (StmtTree.assign_at line b.0 a.0 c.0) x c.2) (
        (
          item_store-lawful names field cast b.0 (on_line-ok line (resolve_item_store names field cast) b.0 b.1),
          expr-lawful names of index a.0 s.0 a.1,
          expr-lawful names of value c.0 s.1 c.1,
        ),
        omega arith,
      )
  stmt-lawful names of (WrittenStmt.branch line test on_true) x own s e =
      let a : _ =
      bind-parts (resolve_cond names test) (λ c. resolve_stmts names on_true
      >>= λ xs. Ok (StmtTree.branch line c xs StmtTrees.no_stmts)) x e in
      let b : _ = bind-parts (resolve_stmts names on_true) (λ xs. Ok (StmtTree.branch line a.0 xs StmtTrees.no_stmts)) x a.2 in
      let l : _ = stmts-lawful names of on_true b.0 own s.1 b.1 in
      subst (λ y. IsLawfulStmt (reach_of names of) y × (stmt_chain names.known.chains y + 1 ≤ chain_limit))
      (ok-same (StmtTree.branch line a.0 b.0 StmtTrees.no_stmts) x b.2)
      ((cond-lawful names of test a.0 s.0 a.1, l.0, tt), omega (arith, l.1))
  stmt-lawful names of (WrittenStmt.branch_else line test on_true on_false) x own s e =
      let a : _ =
      bind-parts (resolve_cond names test) (λ c. resolve_stmts names on_true >>= λ xs. resolve_stmts names on_false
      >>= λ ys. Ok (StmtTree.branch line c xs ys)) x e in
      let b : _ =
      bind-parts (resolve_stmts names on_true) (λ xs. resolve_stmts names on_false
      >>= λ ys. Ok (StmtTree.branch line a.0 xs ys)) x a.2 in
      let c : _ = bind-parts (resolve_stmts names on_false) (λ ys. Ok (StmtTree.branch line a.0 b.0 ys)) x b.2 in
      let l : _ = stmts-lawful names of on_true b.0 own s.1 b.1 in
      let m : _ = stmts-lawful names of on_false c.0 own s.2 c.1 in
      subst (λ y. IsLawfulStmt (reach_of names of) y × (stmt_chain names.known.chains y + 1 ≤ chain_limit))
      (ok-same (StmtTree.branch line a.0 b.0 c.0) x c.2) (
        (cond-lawful names of test a.0 s.0 a.1, l.0, m.0),
        omega (arith, l.1, m.1),
      )
  stmt-lawful names of (WrittenStmt.call line procedure target values) x own s e =
      let b : _ =
      bind-parts (on_line line (resolve_call names procedure target (argument_casts values)))
      (λ callee. resolve_arguments names values >>= λ xs. Ok (StmtTree.call line callee.0 callee.1 xs)) x e in
      let c : _ = bind-parts (resolve_arguments names values) (λ xs. Ok (StmtTree.call line b.0.0 b.0.1 xs)) x b.2 in
      let k : Called names of (argument_casts values) b.0 =
      call-lawful names of procedure target (argument_casts values) b.0 own
      (on_line-ok line (resolve_call names procedure target (argument_casts values)) b.0 b.1) in
      let l : _ = arguments-lawful names of values c.0 s c.1 in
      subst (λ y. IsLawfulStmt (reach_of names of) y × (stmt_chain names.known.chains y + 1 ≤ chain_limit))
      (ok-same (StmtTree.call line b.0.0 b.0.1 c.0) x c.2)
      ((k.procedure, k.there, k.target, k.count ∙ sym l.1, l.0), k.chain)

  pub stmts-lawful : (names : Names) (of : ℕ) (ws : WrittenStmts) (xs : StmtTrees) → names.of ≡ Some of →
      SmallStmts ws → resolve_stmts names ws ≡ Ok xs →
      AreLawfulStmts (reach_of names of) xs × (stmts_chain names.known.chains xs + 1 ≤ chain_limit)
  stmts-lawful names of WrittenStmts.no_stmts xs own s e =
      subst (λ y. AreLawfulStmts (reach_of names of) y × (stmts_chain names.known.chains y + 1 ≤ chain_limit))
      (ok-same StmtTrees.no_stmts xs e) (tt, omega arith)
  stmts-lawful names of (WrittenStmts.more_stmts w ws) xs own s e =
      let b : _ = bind-parts (resolve_stmt names w) (λ x. resolve_stmts names ws >>= λ ys. Ok (StmtTrees.more_stmts x ys)) xs e in
      let c : _ = bind-parts (resolve_stmts names ws) (λ ys. Ok (StmtTrees.more_stmts b.0 ys)) xs b.2 in
      let l : _ = stmt-lawful names of w b.0 own s.0 b.1 in
      let m : _ = stmts-lawful names of ws c.0 own s.1 c.1 in
      subst (λ y. AreLawfulStmts (reach_of names of) y × (stmts_chain names.known.chains y + 1 ≤ chain_limit))
      (ok-same (StmtTrees.more_stmts b.0 c.0) xs c.2) ((l.0, m.0), omega (arith, l.1, m.1))
