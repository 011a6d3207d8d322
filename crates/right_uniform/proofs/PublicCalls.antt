-- In code of the right shape each call on a child is of a public procedure.
use Rattle.std.specs.Prelude.{◌≡◌, ℕ, false, true, not, Bool, List, [], ◌∷◌, ◌++◌, map, filter, length, cond, Contains, None, ⊤}
use Rattle.std.specs.List.{AllByRecursion, AllZip, enumerate_from, range_with_len}
use Rattle.std.proofs.Common.{refl, ap, ◌∙◌}
use Rattle.modules_profile.specs.SystemHeader.{SystemHeader}
use Rattle.modules_profile.specs.LocalSystem.{LocalSystem}
use Rattle.modules_profile.specs.Headers.{header_functions, header_of}
use Rattle.modules_profile.proofs.lemmas.Members.{at-in}
use Rattle.diagram_meaning.specs.Rows.{outports_of}
use Rattle.diagram_meaning.specs.Diagram.{Diagram}
use Rattle.c_syntax.specs.declared.code.Target.{Target}
use Rattle.c_syntax.specs.declared.code.Target.TheVariants.{Own, Child}
use Rattle.c_syntax.specs.Tree.{StmtTree, assign, assign_at, branch, call, StmtTrees, no_stmts, more_stmts, list_of_stmts, ProcedureTree, ProgramTree}
use Rattle.c_semantics.specs.NumberingLaws.{Calls, AllCalls}
use Rattle.emit_shape.specs.Heads.{Head, head_of, out_head, out_heads, update_head, start_head, reset_head, public_heads}
use Rattle.emit_shape.specs.Programs.{procedure_at, names_in}
use Rattle.emit_shape.specs.Reads as sites
use Rattle.emit_shape.specs.Reads.{calls_in}
use Rattle.emit_shape.specs.RootCode.{RootStep, calls, copies, moves_on, Does, is_literal_store, copied_outputs, start_steps, tick_steps, HasRootCode}
use Rattle.emit_shape.specs.Rules.{IsRightCall}
use Rattle.emit_pruned.proofs.lemmas.Numbers.{all-left, all-right, all-both}
use Rattle.emit_inlined.proofs.lemmas.CallCounts.{each-at}

-- a call on a child is of a public procedure
abbrev pub IsPublicInside : ProgramTree → ℕ → Target → Type 0
IsPublicInside p k Own = ⊤
IsPublicInside p k (Child f) = (procedure_at p k).private ≡ false

abbrev IsPublic : Head → Type 0
IsPublic h = h.private ≡ false

-- ---- The heads that a system offers

outs-public : (h : SystemHeader) (js : List ℕ) → AllByRecursion IsPublic (map (out_head h) js)
outs-public h [] = tt
outs-public h (j ∷ js) = (refl, outs-public h js)

heads-public : (h : SystemHeader) → AllByRecursion IsPublic (public_heads h)
heads-public h = all-both IsPublic (out_heads h) (update_head h ∷ start_head h ∷ reset_head h ∷ [])
    (outs-public h (range_with_len 1 (length (header_functions h)))) (refl, (refl, (refl, tt)))

pub head-public : (h : SystemHeader) (x : Head) → Contains (public_heads h) x → x.private ≡ false
head-public h x has = let at = at-in (public_heads h) x has in each-at IsPublic (public_heads h) at.0 x (heads-public h) at.1

-- ---- The code of a system

module _ (p : ProgramTree) (of : ℕ) (local : LocalSystem) (q : ProcedureTree) where
  abbrev IsRight : sites.CallSite → Type 0
  IsRight c = IsRightCall (names_in p of) local q c.target (head_of (procedure_at p c.procedure)) c.values

  mutual
    stmt-public : (s : StmtTree) → AllByRecursion IsRight (sites.stmt_calls s) → Calls (IsPublicInside p) s
    stmt-public (assign line f e) h = tt
    stmt-public (assign_at line f index e) h = tt
    stmt-public (branch line test a b) h = (
      stmts-public a (all-left IsRight (calls_in a) (calls_in b) h),
      stmts-public b (all-right IsRight (calls_in a) (calls_in b) h),
    )
    stmt-public (call line k Own es) h = tt
    stmt-public (call line k (Child f) es) h = head-public h.0.child.header (head_of (procedure_at p k)) h.0.is_public

    pub stmts-public : (ss : StmtTrees) → AllByRecursion IsRight (calls_in ss) → AllCalls (IsPublicInside p) ss
    stmts-public no_stmts h = tt
    stmts-public (more_stmts s ss) h = (
      stmt-public s (all-left IsRight (sites.stmt_calls s) (calls_in ss) h),
      stmts-public ss (all-right IsRight (sites.stmt_calls s) (calls_in ss) h),
    )

-- ---- The code of the root

listed : (P : ℕ → Target → Type 0) (ss : StmtTrees) → AllByRecursion (Calls P) (list_of_stmts ss) → AllCalls P ss
listed P no_stmts h = tt
listed P (more_stmts s ss) h = (h.0, listed P ss h.1)

-- a step of the root calls a public procedure if it calls one
abbrev CallsPublic : RootStep → Type 0
CallsPublic (calls callee) = IsPublic callee
CallsPublic (copies output row) = ⊤
CallsPublic moves_on = ⊤

copies-public : (os : List (ℕ × ℕ)) → AllByRecursion CallsPublic (map (λ (o : ℕ × ℕ). copies o.0 o.1) os)
copies-public [] = tt
copies-public (o ∷ os) = (tt, copies-public os)

calls-public : (hs : List Head) → AllByRecursion IsPublic hs → AllByRecursion CallsPublic (map calls hs)
calls-public [] h = tt
calls-public (x ∷ hs) h = (h.0, calls-public hs h.1)

module _ (p : ProgramTree) (hyper : ℕ) (q : ProcedureTree) where
  does-public : (step : RootStep) (s : StmtTree) → CallsPublic step → Does p hyper q step s → Calls (IsPublicInside p) s
  does-public (calls callee) (assign line f e) public h = absurd h
  does-public (calls callee) (assign_at line f index e) public h = absurd h
  does-public (calls callee) (branch line test a b) public h = absurd h
  does-public (calls callee) (call line k Own es) public h = absurd h
  does-public (calls callee) (call line k (Child f) es) public h = ap (λ (x : Head). x.private) h.0 ∙ public
  does-public (copies output row) (assign line f e) public h = tt
  does-public (copies output row) (assign_at line f index e) public h = tt
  does-public (copies output row) (branch line test a b) public h = absurd h
  does-public (copies output row) (call line k target es) public h = absurd h
  does-public moves_on (assign line f e) public h = tt
  does-public moves_on (assign_at line f index e) public h = tt
  does-public moves_on (branch line test a b) public h = absurd h
  does-public moves_on (call line k target es) public h = absurd h

  all-public : (steps : List RootStep) (ss : List StmtTree) → AllByRecursion CallsPublic steps → AllZip (Does p hyper q) steps ss →
      AllByRecursion (Calls (IsPublicInside p)) ss
  all-public [] [] public h = tt
  all-public [] (s ∷ ss) public h = absurd h
  all-public (step ∷ steps) [] public h = absurd h
  all-public (step ∷ steps) (s ∷ ss) public h = (does-public step s public.0 h.0, all-public steps ss public.1 h.1)

-- stores of numbers call nothing
stores-public : (p : ProgramTree) (ss : List StmtTree) →
    AllByRecursion (Calls (IsPublicInside p)) (filter (λ s. not (is_literal_store s)) ss) → AllByRecursion (Calls (IsPublicInside p)) ss
stores-public p [] h = tt
stores-public p (s ∷ ss) h = by s (is_literal_store s) refl h (stores-public p ss)
  where
    later : List StmtTree
    later = filter (λ x. not (is_literal_store x)) ss

    by : (x : StmtTree) (b : Bool) → is_literal_store x ≡ b →
        AllByRecursion (Calls (IsPublicInside p)) (cond (not b) (x ∷ later) later) →
        (AllByRecursion (Calls (IsPublicInside p)) later → AllByRecursion (Calls (IsPublicInside p)) ss) →
        AllByRecursion (Calls (IsPublicInside p)) (x ∷ ss)
    by (assign line f e) true is g next = (tt, next g)
    by (assign line f e) false is g next = (tt, next g.1)
    by (assign_at line f index e) true is g next = (tt, next g)
    by (assign_at line f index e) false is g next = (tt, next g.1)
    by (branch line test a c) true is g next = absurd (let wrong : ⊥ = cc is in wrong)
    by (branch line test a c) false is g next = (g.0, next g.1)
    by (call line k target es) true is g next = absurd (let wrong : ⊥ = cc is in wrong)
    by (call line k target es) false is g next = (g.0, next g.1)

module _ (p : ProgramTree) (d : Diagram) (hyper : ℕ) (root : HasRootCode p d hyper) where
  abbrev offered : SystemHeader
  offered = header_of d None root.profile

  pub start-public : AllCalls (IsPublicInside p) root.start.body
  start-public = listed (IsPublicInside p) root.start.body
      (stores-public p (list_of_stmts root.start.body)
      (all-public p hyper root.start (start_steps d offered)
      (filter (λ s. not (is_literal_store s)) (list_of_stmts root.start.body))
      (refl, copies-public (enumerate_from 1 (outports_of d.rows None))) root.starts))

  pub step-public : AllCalls (IsPublicInside p) root.step.body
  step-public = listed (IsPublicInside p) root.step.body
      (all-public p hyper root.step (tick_steps d offered) (list_of_stmts root.step.body)
      (all-both CallsPublic (map calls (out_heads offered) ++ (calls (update_head offered) ∷ copied_outputs d)) (moves_on ∷ [])
      (all-both CallsPublic (map calls (out_heads offered)) (calls (update_head offered) ∷ copied_outputs d)
      (calls-public (out_heads offered) (outs-public offered (range_with_len 1 (length (header_functions offered)))))
      (refl, copies-public (enumerate_from 1 (outports_of d.rows None)))) (tt, tt)) root.does)
