-- Code that is moved after children whose outputs stay where they are differs in the procedures that it calls alone.
use Rattle.std.specs.Prelude.{◌≡◌, ℕ, ◌≤◌, List, map, slice_index, Option, Some, None, ℤ, ⊤}
use Rattle.std.proofs.Common.{refl, ap, arith}
use Rattle.c_syntax.specs.declared.Leaf.{Leaf}
use Rattle.c_syntax.specs.declared.Leaf.TheVariants.{Param, Own, Child}
use Rattle.c_syntax.specs.declared.Target.{Target}
use Rattle.c_syntax.specs.Tree.{ExprTree, literal, neg, read, binary, pick, pure, item, ExprTrees, no_exprs, more_exprs, exprs_of_list, CondTree, compare, both, either, negated, StmtTree, assign, assign_at, branch, call, StmtTrees, no_stmts, more_stmts, stmts_append}
use Rattle.c_syntax.specs.Chains.{stmt_chain, stmts_chain}
use Rattle.emit_shape.specs.Relocation.{Relocation, moved_number, moved_leaf, moved_expr, moved_exprs, moved_cond, moved_stmt, moved_stmts}
use Rattle.emit_row_code.specs.declared.leaves.RingFields.{RingFields}
use Rattle.emit_row_code.specs.StatementCode.{value_statements, value_reset_statements, memory_statements, ring_statements, trigger_statements, call_statements, reset_call_statements}

-- ---- The procedures that code calls

abbrev mutual
  -- each procedure that a statement calls, by its number
  pub StmtCalls : (ℕ → Type 0) → StmtTree → Type 0
  StmtCalls P (assign line field value) = ⊤
  StmtCalls P (assign_at line field index value) = ⊤
  StmtCalls P (branch line test on_true on_false) = Calls P on_true × Calls P on_false
  StmtCalls P (call line k target values) = P k

  pub Calls : (ℕ → Type 0) → StmtTrees → Type 0
  Calls P no_stmts = ⊤
  Calls P (more_stmts s ss) = StmtCalls P s × Calls P ss

abbrev pub CallsNothing : StmtTrees → Type 0
CallsNothing code = Calls (λ k. ⊥) code

mutual
  pub stmt-weaker : (P Q : ℕ → Type 0) → ((k : ℕ) → P k → Q k) → (s : StmtTree) → StmtCalls P s → StmtCalls Q s
  stmt-weaker P Q gives (assign line field value) all = tt
  stmt-weaker P Q gives (assign_at line field index value) all = tt
  stmt-weaker P Q gives (branch line test on_true on_false) all =
      (calls-weaker P Q gives on_true all.0, calls-weaker P Q gives on_false all.1)
  stmt-weaker P Q gives (call line k target values) all = gives k all

  pub calls-weaker : (P Q : ℕ → Type 0) → ((k : ℕ) → P k → Q k) → (code : StmtTrees) → Calls P code → Calls Q code
  calls-weaker P Q gives no_stmts all = tt
  calls-weaker P Q gives (more_stmts s ss) all = (stmt-weaker P Q gives s all.0, calls-weaker P Q gives ss all.1)

pub calls-append : (P : ℕ → Type 0) (first later : StmtTrees) → Calls P first → Calls P later → Calls P (stmts_append first later)
calls-append P no_stmts later p q = q
calls-append P (more_stmts s ss) later p q = (p.0, calls-append P ss later p.1 q)

-- ---- Moved code

module _ (m : Relocation) (stays : (f o : ℕ) → m.output f o ≡ o) where
  leaf-stays : (l : Leaf) → moved_leaf m l ≡ l
  leaf-stays (Param k) = refl
  leaf-stays (Own f) = refl
  leaf-stays (Child f o) = ap (Child f) (stays f o)

  mutual
    pub expr-stays : (e : ExprTree) → moved_expr m e ≡ e
    expr-stays (literal v) = refl
    expr-stays (neg e) = ap neg (expr-stays e)
    expr-stays (read l) = ap read (leaf-stays l)
    expr-stays (binary op a b) = λ i. binary op (expr-stays a i) (expr-stays b i)
    expr-stays (pick test a b) = λ i. pick (cond-stays test i) (expr-stays a i) (expr-stays b i)
    expr-stays (pure k es) = ap (pure k) (exprs-stay es)
    expr-stays (item f index) = ap (item f) (expr-stays index)

    pub exprs-stay : (es : ExprTrees) → moved_exprs m es ≡ es
    exprs-stay no_exprs = refl
    exprs-stay (more_exprs e es) = λ i. more_exprs (expr-stays e i) (exprs-stay es i)

    pub cond-stays : (c : CondTree) → moved_cond m c ≡ c
    cond-stays (compare how a b) = λ i. compare how (expr-stays a i) (expr-stays b i)
    cond-stays (both a b) = λ i. both (cond-stays a i) (cond-stays b i)
    cond-stays (either a b) = λ i. either (cond-stays a i) (cond-stays b i)
    cond-stays (negated a) = ap negated (cond-stays a)

  mutual
    -- what calls nothing stays as it is
    stmt-stays : (s : StmtTree) → StmtCalls (λ k. ⊥) s → moved_stmt m s ≡ s
    stmt-stays (assign line f e) none = ap (assign line f) (expr-stays e)
    stmt-stays (assign_at line f index e) none = λ i. assign_at line f (expr-stays index i) (expr-stays e i)
    stmt-stays (branch line test on_true on_false) none =
        λ i. branch line (cond-stays test i) (stmts-stay on_true none.0 i) (stmts-stay on_false none.1 i)
    stmt-stays (call line k target values) none = absurd none

    pub stmts-stay : (code : StmtTrees) → CallsNothing code → moved_stmts m code ≡ code
    stmts-stay no_stmts none = refl
    stmts-stay (more_stmts s ss) none = λ i. more_stmts (stmt-stays s none.0 i) (stmts-stay ss none.1 i)

  -- a call of a child's procedure goes to where that is
  pub call-moves : (active : Option CondTree) (k field : ℕ) (leaves : List Leaf) →
      moved_stmts m (call_statements active k field leaves) ≡ call_statements active (moved_number m k) field leaves
  call-moves None k field leaves =
      λ i. more_stmts (call 0 (moved_number m k) (Rattle.c_syntax.specs.declared.Target.TheVariants.Child field)
      (exprs-stay (exprs_of_list (map read leaves)) i)) no_stmts
  call-moves (Some test) k field leaves =
      λ i. more_stmts (branch 0 (cond-stays test i)
      (more_stmts (call 0 (moved_number m k) (Rattle.c_syntax.specs.declared.Target.TheVariants.Child field)
      (exprs-stay (exprs_of_list (map read leaves)) i)) no_stmts) no_stmts) no_stmts

  pub reset-moves : (off : Option CondTree) (k field : ℕ) →
      moved_stmts m (reset_call_statements off k field) ≡ reset_call_statements off (moved_number m k) field
  reset-moves None k field = refl
  reset-moves (Some test) k field =
      λ i. more_stmts (branch 0 (cond-stays test i)
      (more_stmts (call 0 (moved_number m k)
      (Rattle.c_syntax.specs.declared.Target.TheVariants.Child field) no_exprs) no_stmts) no_stmts) no_stmts

pub append-moves : (m : Relocation) (first later : StmtTrees) →
    moved_stmts m (stmts_append first later) ≡ stmts_append (moved_stmts m first) (moved_stmts m later)
append-moves m no_stmts later = refl
append-moves m (more_stmts s ss) later = ap (more_stmts (moved_stmt m s)) (append-moves m ss later)

-- ---- Chains

module _ (m : Relocation) (chains : List ℕ) (n : ℕ) where
  abbrev IsShort : ℕ → Type 0
  IsShort k = slice_index chains (moved_number m k) ≤ n

  mutual
    stmt-short : (s : StmtTree) → StmtCalls IsShort s → stmt_chain chains (moved_stmt m s) ≤ n
    stmt-short (assign line f e) all = omega arith
    stmt-short (assign_at line f index e) all = omega arith
    stmt-short (branch line test on_true on_false) all =
        let one = stmts-short on_true all.0 in let two = stmts-short on_false all.1 in omega (arith, one, two)
    stmt-short (call line k target values) all = all

    pub stmts-short : (code : StmtTrees) → Calls IsShort code → stmts_chain chains (moved_stmts m code) ≤ n
    stmts-short no_stmts all = omega arith
    stmts-short (more_stmts s ss) all = let one = stmt-short s all.0 in let two = stmts-short ss all.1 in omega (arith, one, two)

-- ---- The statements of rows call nothing

pub value-calls : (field : ℕ) (runs : Option CondTree) (value : ExprTree) → CallsNothing (value_statements field runs value)
value-calls field None value = (tt, tt)
value-calls field (Some test) value = (((tt, tt), tt), tt)

pub value_reset-calls : (field : ℕ) (disabled : Option CondTree) (start : ℤ) → CallsNothing (value_reset_statements field disabled start)
value_reset-calls field None start = tt
value_reset-calls field (Some test) start = (((tt, tt), tt), tt)

pub memory-calls : (field : ℕ) (runs off : Option CondTree) (input : Leaf) (start : ℤ) →
    CallsNothing (memory_statements field runs input off start)
memory-calls field None off input start = (tt, tt)
memory-calls field (Some test) None input start = (((tt, tt), tt), tt)
memory-calls field (Some test) (Some other) input start = (((tt, tt), ((((tt, tt), tt), tt))), tt)

pub ring-calls : (fields : RingFields) (n : ℕ) (runs off : Option CondTree) (input : Leaf) →
    CallsNothing (ring_statements fields n runs input off)
ring-calls fields n None off input = (tt, (tt, (tt, tt)))
ring-calls fields n (Some test) None input = (((tt, (tt, (tt, tt))), tt), tt)
ring-calls fields n (Some test) (Some other) input = (((tt, (tt, (tt, tt))), (((tt, (tt, tt)), tt), tt)), tt)

pub trigger-calls : (field : ℕ) (leaf : Leaf) → CallsNothing (trigger_statements field leaf)
trigger-calls field leaf = (tt, tt)

-- a call of a child calls the one procedure
pub call-calls : (P : ℕ → Type 0) (active : Option CondTree) (k field : ℕ) (leaves : List Leaf) → P k →
    Calls P (call_statements active k field leaves)
call-calls P None k field leaves holds = (holds, tt)
call-calls P (Some test) k field leaves holds = (((holds, tt), tt), tt)

pub reset-calls : (P : ℕ → Type 0) (off : Option CondTree) (k field : ℕ) → P k → Calls P (reset_call_statements off k field)
reset-calls P None k field holds = tt
reset-calls P (Some test) k field holds = (((holds, tt), tt), tt)
