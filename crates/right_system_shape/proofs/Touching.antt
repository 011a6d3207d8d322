-- What pieces of code touch, and that what is made of pieces touches what these do.
use Rattle.std.specs.Prelude.{◌≡◌, refl, ℕ, ◌==◌, Bool, true, false, if◌then◌else◌, List, [], ◌∷◌, ◌++◌, Contains, Option, Some, None, pos}
use Rattle.std.specs.List.{AllByRecursion}
use Rattle.std.proofs.Common.{sym, ap, subst, ◌∙◌}
use Rattle.std.proofs.lemmas.List.{append_assoc}
use Rattle.base_core.specs.declared.base.Compare.TheVariants.{Eq}
use Rattle.base_core.specs.declared.base.Control.{Control}
use Rattle.base_core.specs.declared.base.Control.TheVariants.{Plain, Enabled, Triggered, Both}
use Rattle.base_core.specs.declared.base.Edge.{Edge}
use Rattle.base_core.specs.declared.base.Edge.TheVariants.{Rising, Falling, Either}
use Rattle.diagram_meaning.specs.declared.times.Time.{Time}
use Rattle.modules_profile.specs.LocalSystem.{LocalSystem}
use Rattle.c_syntax.specs.declared.code.BinOp.TheVariants.{Rem}
use Rattle.c_syntax.specs.declared.code.Leaf.{Leaf}
use Rattle.c_syntax.specs.Tree.{ExprTree, ExprTrees, literal, neg, read, binary, pick, pure, item, no_exprs, more_exprs, CondTree, compare, both, either, negated, StmtTree, branch, StmtTrees, no_stmts, more_stmts, stmts_append, stmts_of_list, ProcedureTree}
use Rattle.emit_row_code.specs.declared.leaves.ControlLeaves.{ControlLeaves}
use Rattle.emit_row_code.specs.Reading.{ReadsOnly, AllReadOnly, TestsOnly}
use Rattle.emit_row_code.specs.StatementCode.{guarded, only_if}
use Rattle.emit_row_code.specs.TestCode.{event_test, active_by, disabled_by, off_by, hit_test, both_tests}
use Rattle.emit_row_code.specs.TestLaws.{OnTest, control_leaves}
use Rattle.emit_shape.specs.CodeNames.{CodeNames, named_leaf, named_leaves}
use Rattle.emit_shape.specs.Reads.{StoreSite, IndexSite, CallSite, expr_leaves, exprs_leaves, cond_leaves, cond_indices, stmt_stores, stores_in, stmt_tests, tests_in, stmt_calls, calls_in, stmt_indices, indices_in}
use Rattle.emit_shape.specs.Rules.{store_reads, index_reads, test_reads, IsRightCall}
use Rattle.emit_system_spec.specs.EmittedCode.{joined}
use Rattle.right_system_shape.proofs.AllOf.{all-append, all-mapped}

-- ---- Statements one after another

pub stores-append : (a b : StmtTrees) → stores_in (stmts_append a b) ≡ stores_in a ++ stores_in b
stores-append no_stmts b = refl
stores-append (more_stmts s ss) b = ap (λ xs. stmt_stores s ++ xs) (stores-append ss b)
    ∙ sym (append_assoc (stmt_stores s) (stores_in ss) (stores_in b))

pub tests-append : (a b : StmtTrees) → tests_in (stmts_append a b) ≡ tests_in a ++ tests_in b
tests-append no_stmts b = refl
tests-append (more_stmts s ss) b = ap (λ xs. stmt_tests s ++ xs) (tests-append ss b)
    ∙ sym (append_assoc (stmt_tests s) (tests_in ss) (tests_in b))

pub calls-append : (a b : StmtTrees) → calls_in (stmts_append a b) ≡ calls_in a ++ calls_in b
calls-append no_stmts b = refl
calls-append (more_stmts s ss) b = ap (λ xs. stmt_calls s ++ xs) (calls-append ss b)
    ∙ sym (append_assoc (stmt_calls s) (calls_in ss) (calls_in b))

pub indices-append : (a b : StmtTrees) → indices_in (stmts_append a b) ≡ indices_in a ++ indices_in b
indices-append no_stmts b = refl
indices-append (more_stmts s ss) b = ap (λ xs. stmt_indices s ++ xs) (indices-append ss b)
    ∙ sym (append_assoc (stmt_indices s) (indices_in ss) (indices_in b))

-- ---- Leaves

-- what holds of each leaf that an expression reads
module _ (P : Leaf → Type 0) where
  mutual
    pub expr-read : (e : ExprTree) → ReadsOnly P e → AllByRecursion P (expr_leaves e)
    expr-read (literal value) h = tt
    expr-read (neg e) h = expr-read e h
    expr-read (read leaf) h = (h, tt)
    expr-read (binary op a b) h = all-append P (expr_leaves a) (expr_leaves b) (expr-read a h.0) (expr-read b h.1)
    expr-read (pick test a b) h =
        all-append P (cond_leaves test ++ expr_leaves a) (expr_leaves b)
        (all-append P (cond_leaves test) (expr_leaves a) (cond-read test h.0) (expr-read a h.1)) (expr-read b h.2)
    expr-read (pure function values) h = exprs-read values h
    expr-read (item field index) h = (h.0, expr-read index h.1)

    exprs-read : (es : ExprTrees) → AllReadOnly P es → AllByRecursion P (exprs_leaves es)
    exprs-read no_exprs h = tt
    exprs-read (more_exprs e es) h = all-append P (expr_leaves e) (exprs_leaves es) (expr-read e h.0) (exprs-read es h.1)

    cond-read : (t : CondTree) → TestsOnly P t → AllByRecursion P (cond_leaves t)
    cond-read (compare how a b) h = all-append P (expr_leaves a) (expr_leaves b) (expr-read a h.0) (expr-read b h.1)
    cond-read (both a b) h = all-append P (cond_leaves a) (cond_leaves b) (cond-read a h.0) (cond-read b h.1)
    cond-read (either a b) h = all-append P (cond_leaves a) (cond_leaves b) (cond-read a h.0) (cond-read b h.1)
    cond-read (negated a) h = cond-read a h

-- In a procedure, where positions have these names.
module _ (n : CodeNames) (local : LocalSystem) (counters : List (List ℕ)) (q : ProcedureTree) where
  abbrev pub MayCall : CallSite → Type 0
  MayCall c = IsRightCall n local q c.target (n.callee c.procedure) c.values

  abbrev pub MayStore : StoreSite → Type 0
  MayStore st = AllByRecursion (Contains (store_reads local counters (n.own st.field))) (named_leaves n q.params (expr_leaves st.value))

  abbrev pub MayIndex : IndexSite → Type 0
  MayIndex i = AllByRecursion (Contains (index_reads local (n.own i.field))) (named_leaves n q.params (expr_leaves i.index))

  abbrev pub MayTest : CondTree → Type 0
  MayTest test = AllByRecursion (Contains (test_reads counters)) (named_leaves n q.params (cond_leaves test))

  -- a leaf that tests may read
  abbrev pub Tested : Leaf → Type 0
  Tested l = Contains (test_reads counters) (named_leaf n q.params l)

  -- what statements touch
  pub record Touches (code : StmtTrees) : Type 0 where
    pub calls : AllByRecursion MayCall (calls_in code)
    pub stores : AllByRecursion MayStore (stores_in code)
    pub indices : AllByRecursion MayIndex (indices_in code)
    pub tests : AllByRecursion MayTest (tests_in code)

  pub touches-none : Touches no_stmts
  touches-none = record { calls = tt; stores = tt; indices = tt; tests = tt }

  pub touches-append : (a b : StmtTrees) → Touches a → Touches b → Touches (stmts_append a b)
  touches-append a b s t = record {
    calls = subst (AllByRecursion MayCall) (sym (calls-append a b)) (all-append MayCall (calls_in a) (calls_in b) s.calls t.calls);
    stores = subst (AllByRecursion MayStore) (sym (stores-append a b)) (all-append MayStore (stores_in a) (stores_in b) s.stores t.stores);
    indices = subst (AllByRecursion MayIndex) (sym (indices-append a b))
        (all-append MayIndex (indices_in a) (indices_in b) s.indices t.indices);
    tests = subst (AllByRecursion MayTest) (sym (tests-append a b)) (all-append MayTest (tests_in a) (tests_in b) s.tests t.tests);
  }

  pub touches-joined : (codes : List StmtTrees) → AllByRecursion Touches codes → Touches (joined codes)
  touches-joined [] h = touches-none
  touches-joined (code ∷ codes) h = touches-append code (joined codes) h.0 (touches-joined codes h.1)

  pub touches-more : (s : StmtTree) (ss : StmtTrees) → Touches (more_stmts s no_stmts) → Touches ss → Touches (more_stmts s ss)
  touches-more s ss h k = touches-append (more_stmts s no_stmts) ss h k

  pub touches-listed : (ss : List StmtTree) → AllByRecursion (λ s. Touches (more_stmts s no_stmts)) ss → Touches (stmts_of_list ss)
  touches-listed [] h = touches-none
  touches-listed (s ∷ ss) h = touches-more s (stmts_of_list ss) h.0 (touches-listed ss h.1)

  -- ---- Tests

  -- a test that reads what it may and indexes nothing else than that
  abbrev pub TestOk : CondTree → Type 0
  TestOk t = MayTest t × AllByRecursion MayIndex (cond_indices t)

  pub touches-branch : (t : CondTree) (a b : StmtTrees) → TestOk t → Touches a → Touches b → Touches (more_stmts (branch 0 t a b) no_stmts)
  touches-branch t a b ok p r = record {
    calls = all-append MayCall (calls_in a ++ calls_in b) [] (all-append MayCall (calls_in a) (calls_in b) p.calls r.calls) tt;
    stores = all-append MayStore (stores_in a ++ stores_in b) [] (all-append MayStore (stores_in a) (stores_in b) p.stores r.stores) tt;
    indices = all-append MayIndex (cond_indices t ++ indices_in a ++ indices_in b) []
        (all-append MayIndex (cond_indices t ++ indices_in a) (indices_in b)
        (all-append MayIndex (cond_indices t) (indices_in a) ok.1 p.indices) r.indices) tt;
    tests = all-append MayTest (t ∷ tests_in a ++ tests_in b) []
        (all-append MayTest (t ∷ tests_in a) (tests_in b) (ok.0, p.tests) r.tests) tt;
  }

  pub touches-guarded : (t : Option CondTree) (a b : StmtTrees) → OnTest TestOk t → Touches a → Touches b → Touches (guarded t a b)
  touches-guarded None a b ok p r = p
  touches-guarded (Some t) a b ok p r = touches-branch t a b ok p r

  pub touches-only : (t : Option CondTree) (a : StmtTrees) → OnTest TestOk t → Touches a → Touches (only_if t a)
  touches-only None a ok p = touches-none
  touches-only (Some t) a ok p = touches-branch t a no_stmts ok p touches-none

  pub both-ok : (a b : Option CondTree) → OnTest TestOk a → OnTest TestOk b → OnTest TestOk (both_tests a b)
  both-ok None b h k = k
  both-ok (Some t) None h k = h
  both-ok (Some t) (Some u) h k = (
    all-mapped (Contains (test_reads counters)) (named_leaf n q.params) (cond_leaves t) (cond_leaves u) h.0 k.0,
    all-append MayIndex (cond_indices t) (cond_indices u) h.1 k.1,
  )

  module _ (leaves : ControlLeaves) where
    event-ok : (e : Edge) → Tested leaves.trigger → Tested leaves.remembers → TestOk (event_test e leaves)
    event-ok Rising h k = ((k, (h, tt)), tt)
    event-ok Falling h k = ((k, (h, tt)), tt)
    event-ok Either h k = ((k, (h, (k, (h, tt)))), tt)

    pub active-ok : (control : Control) → AllByRecursion Tested (control_leaves control leaves) → OnTest TestOk (active_by control leaves)
    active-ok Plain given = tt
    active-ok (Enabled reset) given = ((given.0, tt), tt)
    active-ok (Triggered e) given = event-ok e given.0 given.1.0
    active-ok (Both reset Rising) given = ((given.0, (given.1.1.0, (given.1.0, tt))), tt)
    active-ok (Both reset Falling) given = ((given.0, (given.1.1.0, (given.1.0, tt))), tt)
    active-ok (Both reset Either) given = ((given.0, (given.1.1.0, (given.1.0, (given.1.1.0, (given.1.0, tt))))), tt)

    pub disabled-ok : (control : Control) → AllByRecursion Tested (control_leaves control leaves) →
        OnTest TestOk (disabled_by control leaves)
    disabled-ok Plain given = tt
    disabled-ok (Enabled reset) given = ((given.0, tt), tt)
    disabled-ok (Triggered e) given = tt
    disabled-ok (Both reset e) given = ((given.0, tt), tt)

    pub off-ok : (control : Control) → AllByRecursion Tested (control_leaves control leaves) → OnTest TestOk (off_by control leaves)
    off-ok (Enabled true) given = ((given.0, tt), tt)
    off-ok (Both true e) given = ((given.0, tt), tt)
    off-ok _ given = tt

  pub hit-ok : (time : Time) (now : Leaf) → Tested now → OnTest TestOk (hit_test time now)
  hit-ok time now h = by (time.period == 1)
    where
      by : (b : Bool) → OnTest TestOk
          (if b then None else Some (compare Eq (binary Rem (read now) (literal (pos time.period))) (literal (pos time.offset))))
      by true = tt
      by false = ((h, tt), tt)
