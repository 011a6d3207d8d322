-- The chains of calls that begin with procedures of a list.
use Rattle.std.specs.Prelude.{◌≡◌, ℕ, zero, suc, ◌+◌, ◌≤◌, max, List, [], ◌∷◌, ◌++◌, length, slice_get, slice_index, Some}
use Rattle.std.specs.List.{AllByRecursion}
use Rattle.std.proofs.Common.{refl, sym, ap, subst, ◌∙◌, arith, inl, inr}
use Rattle.std.proofs.Math.Nat.{le-max_left, le-max_right, max-le}
use Rattle.std.proofs.lemmas.List.{append_assoc, append-nil, length-append}
use Rattle.std.proofs.lemmas.Option.{none-some}
use Rattle.modules_profile.proofs.lemmas.Members.{at-append}
use Rattle.c_syntax.specs.Tree.{StmtTree, assign, assign_at, branch, call, StmtTrees, no_stmts, more_stmts, ProcedureTree}
use Rattle.c_syntax.specs.Lawful.{chains_of}
use Rattle.c_syntax.specs.Chains.{stmt_chain, stmts_chain}
use Rattle.emit_shape.specs.Reads.{CallSite, stmt_calls, calls_in}
use Rattle.emit_shape.specs.Relocation.{Relocation, moved_number, moved_stmt, moved_stmts}
use Rattle.right_program_rules.proofs.Lists.{all-front, all-back}

-- ---- One after another

-- what holds of each chain
abbrev pub AreChains : (ℕ → ℕ → Type 0) → List ℕ → Type 0
AreChains Q chains = (i c : ℕ) → slice_get chains i ≡ Some c → Q i c

pub chains-made : (Q : ℕ → ℕ → Type 0) (chains : List ℕ) (ps : List ProcedureTree) → AreChains Q chains →
    ((k : ℕ) (p : ProcedureTree) → slice_get ps k ≡ Some p → (front : List ℕ) → length front ≡ length chains + k → AreChains Q front →
    Q (length chains + k) (stmts_chain front p.body + 1)) →
    AreChains Q (chains_of chains ps)
chains-made Q chains [] are step = are
chains-made Q chains (p ∷ ps) are step =
    let c = stmts_chain chains p.body + 1 in
    let here : Q (length chains + 0) c = step 0 p refl chains (omega arith) are in
    let size = length-append chains (c ∷ []) in
    let more : AreChains Q (chains ++ c ∷ []) = λ i d at. elim (at-append chains (c ∷ []) i d at) [
      | inl front ↦ are i d front
      | inr last ↦ only last.0 i d last.1 last.2 here
    ] in
    chains-made Q (chains ++ c ∷ []) ps more
    (λ k q at front long all.
    let sum : length (chains ++ c ∷ []) + k ≡ length chains + suc k = omega (arith, size) in
    subst (λ n. Q n (stmts_chain front q.body + 1)) (sym sum) (step (suc k) q at front (long ∙ sum) all))
  where
    only : (j i d : ℕ) → length chains + j ≡ i → slice_get ((stmts_chain chains p.body + 1) ∷ []) j ≡ Some d →
        Q (length chains + 0) (stmts_chain chains p.body + 1) → Q i d
    only zero i d place at here =
        let same : stmts_chain chains p.body + 1 ≡ d = cc at in subst (λ n. Q n d) place (subst (Q (length chains + 0)) same here)
    only (suc j) i d place at here = absurd (none-some d at)

chains-kept : (chains : List ℕ) (ps : List ProcedureTree) → (more : List ℕ) × (chains_of chains ps ≡ chains ++ more)
chains-kept chains [] = ([], sym (append-nil chains))
chains-kept chains (p ∷ ps) =
    let c = stmts_chain chains p.body + 1 in
    let rest = chains-kept (chains ++ c ∷ []) ps in
    (c ∷ rest.0, rest.1 ∙ append_assoc chains (c ∷ []) rest.0)

-- the chains before that of one of the procedures
pub record HasFront (chains : List ℕ) (ps : List ProcedureTree) (k : ℕ) (p : ProcedureTree) : Type 0 where
  pub front : List ℕ
  pub long : length front ≡ length chains + k
  pub back : List ℕ
  pub is : chains_of chains ps ≡ front ++ (stmts_chain front p.body + 1) ∷ back
  pub more : List ℕ
  pub begins : front ≡ chains ++ more

pub chain-at : (chains : List ℕ) (ps : List ProcedureTree) (k : ℕ) (p : ProcedureTree) → slice_get ps k ≡ Some p → HasFront chains ps k p
chain-at chains [] k p at = absurd (none-some p at)
chain-at chains (q ∷ ps) zero p at =
    let same : q ≡ p = cc at in
    let rest = chains-kept (chains ++ (stmts_chain chains q.body + 1) ∷ []) ps in
    record {
      front = chains;
      long = omega arith;
      back = rest.0;
      is = rest.1 ∙ append_assoc chains ((stmts_chain chains q.body + 1) ∷ []) rest.0
          ∙ ap (λ (z : ProcedureTree). chains ++ (stmts_chain chains z.body + 1) ∷ rest.0) same;
      more = [];
      begins = sym (append-nil chains);
    }
chain-at chains (q ∷ ps) (suc k) p at =
    let c = stmts_chain chains q.body + 1 in
    let size = length-append chains (c ∷ []) in
    let rest = chain-at (chains ++ c ∷ []) ps k p at in
    let long = rest.long in
    record {
      front = rest.front;
      long = omega (arith, long, size);
      back = rest.back;
      is = rest.is;
      more = c ∷ rest.more;
      begins = rest.begins ∙ append_assoc chains (c ∷ []) rest.more;
    }

-- ---- Bounds

index-le : (n : ℕ) (chains : List ℕ) (k : ℕ) → AreChains (λ i c. c ≤ n) chains → slice_index chains k ≤ n
index-le n [] k all = omega arith
index-le n (c ∷ chains) zero all = all 0 c refl
index-le n (c ∷ chains) (suc k) all = index-le n chains k (λ i d at. all (suc i) d at)

module _ (n : ℕ) (chains : List ℕ) (all : AreChains (λ i c. c ≤ n) chains) where
  mutual
    stmt-low : (s : StmtTree) → stmt_chain chains s ≤ n
    stmt-low (assign line f e) = omega arith
    stmt-low (assign_at line f index e) = omega arith
    stmt-low (branch line test on_true on_false) = max-le (stmts-low on_true) (stmts-low on_false)
    stmt-low (call line k target es) = index-le n chains k all

    pub stmts-low : (ss : StmtTrees) → stmts_chain chains ss ≤ n
    stmts-low no_stmts = omega arith
    stmts-low (more_stmts s ss) = max-le (stmt-low s) (stmts-low ss)

max-both : (a b c d extra : ℕ) → a ≤ c + extra → b ≤ d + extra → max a b ≤ max c d + extra
max-both a b c d extra one two =
    let left = le-max_left c d in
    let right = le-max_right c d in
    max-le (omega (arith, one, left)) (omega (arith, two, right))

-- calls that lead that much further
module _ (m n : Relocation) (chains others : List ℕ) (extra : ℕ) (IsCalled : CallSite → Type 0)
    (longer : (c : CallSite) → IsCalled c →
    slice_index chains (moved_number n c.procedure) ≤ slice_index others (moved_number m c.procedure) + extra) where
  mutual
    stmt-longer : (s : StmtTree) → AllByRecursion IsCalled (stmt_calls s) →
        stmt_chain chains (moved_stmt n s) ≤ stmt_chain others (moved_stmt m s) + extra
    stmt-longer (assign line f e) called = omega arith
    stmt-longer (assign_at line f index e) called = omega arith
    stmt-longer (branch line test on_true on_false) called =
        max-both (stmts_chain chains (moved_stmts n on_true)) (stmts_chain chains (moved_stmts n on_false))
        (stmts_chain others (moved_stmts m on_true)) (stmts_chain others (moved_stmts m on_false)) extra
        (stmts-longer on_true (all-front IsCalled (calls_in on_true) (calls_in on_false) called))
        (stmts-longer on_false (all-back IsCalled (calls_in on_true) (calls_in on_false) called))
    stmt-longer (call line k target es) called = longer _ called.0

    pub stmts-longer : (ss : StmtTrees) → AllByRecursion IsCalled (calls_in ss) →
        stmts_chain chains (moved_stmts n ss) ≤ stmts_chain others (moved_stmts m ss) + extra
    stmts-longer no_stmts called = omega arith
    stmts-longer (more_stmts s ss) called =
        max-both (stmt_chain chains (moved_stmt n s)) (stmts_chain chains (moved_stmts n ss)) (stmt_chain others (moved_stmt m s))
        (stmts_chain others (moved_stmts m ss)) extra
        (stmt-longer s (all-front IsCalled (stmt_calls s) (calls_in ss) called))
        (stmts-longer ss (all-back IsCalled (stmt_calls s) (calls_in ss) called))
