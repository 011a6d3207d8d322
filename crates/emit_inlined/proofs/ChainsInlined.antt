-- The longest chains of calls of the program without helpers: none is longer than it was.
use Rattle.std.specs.Prelude.{◌≡◌, ℕ, zero, suc, ◌+◌, ◌<◌, ◌≤◌, nat_lt, max, Bool, true, false, if◌then◌else◌, List, [], ◌∷◌, ◌++◌, length, take, Option, Some, None, slice_get, slice_index, slice_index_or, unwrap_or}
use Rattle.std.specs.List.{AllByRecursion}
use Rattle.std.proofs.Common.{refl, sym, ap, subst, ◌∙◌, arith, zero-add}
use Rattle.std.proofs.lemmas.Bool.Decides.{nat_tests}
use Rattle.std.proofs.lemmas.List.{length-append, get_or_append_left}
use Rattle.std.proofs.lemmas.Option.{slice_get-get_or, slice_get_within}
use Rattle.std.proofs.Math.Seq.{get_or-append_seam}
use Rattle.c_syntax.specs.declared.code.Target.TheVariants.{Own}
use Rattle.c_syntax.specs.Tree.{StmtTree, assign, assign_at, branch, call, StmtTrees, no_stmts, more_stmts, stmts_append, ProcedureTree, ProgramTree}
use Rattle.c_syntax.specs.Chains.{stmt_chain, stmts_chain, chain_limit}
use Rattle.c_syntax.specs.Lawful.{IsLawfulStmt, AreLawfulStmts, AreProcedures, chains_of}
use Rattle.c_semantics.specs.Machine.{is_interface}
use Rattle.emit_pruned.proofs.lemmas.Numbers.{all-left, all-right, each-then}
use Rattle.emit_inlined.specs.Inlined.{stmt_calls, stmts_calls, no_procedure, procedure_at, helper_call, stays, moved_stmt, moved_stmts, itself, place, inlined_stmts, inlined_procedure, inlined}
use Rattle.emit_inlined.proofs.lemmas.KeptPlaces.{take-found}
use Rattle.emit_inlined.proofs.lemmas.CallCounts.{CallsHelper, helper_call-found, others_in, helper-is}
use Rattle.emit_inlined.proofs.lemmas.AtPositions.{reach_of, body-lawful, body-calls}
use Rattle.emit_inlined.proofs.lemmas.Staying.{procedure-at, stays-at, was, remaining-holds, helper-holds}

-- ---- The chain of each procedure

chains-length : (ps : List ProcedureTree) (chains : List ℕ) → length (chains_of chains ps) ≡ length chains + length ps
chains-length [] chains = omega arith
chains-length (p ∷ ps) chains =
    let n = stmts_chain chains p.body + 1 in
    let rest = chains-length ps (chains ++ n ∷ []) in
    omega (arith, rest, length-append chains (n ∷ []))

chains-before : (ps : List ProcedureTree) (chains : List ℕ) (k : ℕ) → k < length chains →
    slice_index (chains_of chains ps) k ≡ slice_index chains k
chains-before [] chains k within = refl
chains-before (p ∷ ps) chains k within =
    let n = stmts_chain chains p.body + 1 in
    chains-before ps (chains ++ n ∷ []) k (omega (arith, within, length-append chains (n ∷ [])))
    ∙ get_or_append_left chains (n ∷ []) 0 k within

chains-first : (ps : List ProcedureTree) (chains : List ℕ) (j k : ℕ) → k < length chains + j →
    slice_index (chains_of chains ps) k ≡ slice_index (chains_of chains (take j ps)) k
chains-first [] chains zero k within = refl
chains-first [] chains (suc j) k within = refl
chains-first (p ∷ ps) chains zero k within = chains-before (p ∷ ps) chains k (omega (arith, within))
chains-first (p ∷ ps) chains (suc j) k within =
    let n = stmts_chain chains p.body + 1 in
    chains-first ps (chains ++ n ∷ []) j k (omega (arith, within, length-append chains (n ∷ [])))

chains-at : (ps : List ProcedureTree) (chains : List ℕ) (j : ℕ) (q : ProcedureTree) → slice_get ps j ≡ Some q →
    slice_index (chains_of chains ps) (length chains + j) ≡ stmts_chain (chains_of chains (take j ps)) q.body + 1
chains-at [] chains j q there = absurd (let wrong : ⊥ = cc there in wrong)
chains-at (p ∷ ps) chains zero q there =
    let n = stmts_chain chains p.body + 1 in
    ap (slice_index (chains_of chains (p ∷ ps))) (let e : length chains + 0 ≡ length chains = omega arith in e)
    ∙ chains-before ps (chains ++ n ∷ []) (length chains) (omega (arith, length-append chains (n ∷ [])))
    ∙ get_or-append_seam chains n [] 0 ∙ ap (λ o. stmts_chain chains (unwrap_or o p).body + 1) there
chains-at (p ∷ ps) chains (suc j) q there =
    let n = stmts_chain chains p.body + 1 in
    ap (slice_index (chains_of chains (p ∷ ps)))
    (let long = length-append chains (n ∷ []) in
    let e : length chains + suc j ≡ length (chains ++ n ∷ []) + j = omega (arith, long) in e)
    ∙ chains-at ps (chains ++ n ∷ []) j q there

-- statements have the same chain where each procedure that they call has
module _ (chains others : List ℕ) where
  abbrev Same : ℕ → Type 0
  Same k = slice_index chains k ≡ slice_index others k

  mutual
    stmt-chain-same : (x : StmtTree) → AllByRecursion Same (stmt_calls x) → stmt_chain chains x ≡ stmt_chain others x
    stmt-chain-same (assign line f e) h = refl
    stmt-chain-same (assign_at line f index e) h = refl
    stmt-chain-same (branch line test on_true on_false) h =
        let one = stmts-chain-same on_true (all-left Same (stmts_calls on_true) (stmts_calls on_false) h) in
        let other = stmts-chain-same on_false (all-right Same (stmts_calls on_true) (stmts_calls on_false) h) in
        (λ i. max (one i) (other i))
    stmt-chain-same (call line k target es) h = h.0

    stmts-chain-same : (xs : StmtTrees) → AllByRecursion Same (stmts_calls xs) → stmts_chain chains xs ≡ stmts_chain others xs
    stmts-chain-same no_stmts h = refl
    stmts-chain-same (more_stmts x xs) h =
        let one = stmt-chain-same x (all-left Same (stmt_calls x) (stmts_calls xs) h) in
        let rest = stmts-chain-same xs (all-right Same (stmt_calls x) (stmts_calls xs) h) in
        (λ i. max (one i) (rest i))

-- the chains of a program
abbrev pub chains_in : ProgramTree → List ℕ
chains_in p = chains_of [] p.procedures

-- that of a procedure is one more than that of its body, among all
chain-in : (p : ProgramTree) (k : ℕ) (q : ProcedureTree) → AreProcedures p.pures p.structs [] p.procedures →
    slice_get p.procedures k ≡ Some q → slice_index (chains_in p) k ≡ stmts_chain (chains_in p) q.body + 1
chain-in p k q lawful there =
    ap (slice_index (chains_in p)) (sym (zero-add k)) ∙ chains-at p.procedures [] k q there
    ∙ ap (λ n. n + 1) (sym (stmts-chain-same (chains_in p) (chains_of [] (take k p.procedures)) q.body
    (each-then (λ j. j < 0 + k) (Same (chains_in p) (chains_of [] (take k p.procedures)))
    (stmts_calls q.body) (λ j less. chains-first p.procedures [] k j less) (body-calls p k (0 + k) q (omega arith) lawful there))))

-- ---- Code without helpers

chain-append : (chains : List ℕ) (xs ys : StmtTrees) →
    stmts_chain chains (stmts_append xs ys) ≤ max (stmts_chain chains xs) (stmts_chain chains ys)
chain-append chains no_stmts ys = omega arith
chain-append chains (more_stmts x xs) ys = let rest = chain-append chains xs ys in omega (arith, rest)

module _ (chains others : List ℕ) (move : ℕ → ℕ) where
  -- the chain of a procedure at its place is no longer
  abbrev NoLonger : ℕ → Type 0
  NoLonger k = slice_index others (move k) ≤ slice_index chains k

  module _ (param : ℕ → ℕ) where
    mutual
      stmt-chain-moved : (x : StmtTree) → AllByRecursion NoLonger (stmt_calls x) →
          stmt_chain others (moved_stmt param move x) ≤ stmt_chain chains x
      stmt-chain-moved (assign line f e) h = omega arith
      stmt-chain-moved (assign_at line f index e) h = omega arith
      stmt-chain-moved (branch line test on_true on_false) h =
          let one = stmts-chain-moved on_true (all-left NoLonger (stmts_calls on_true) (stmts_calls on_false) h) in
          let other = stmts-chain-moved on_false (all-right NoLonger (stmts_calls on_true) (stmts_calls on_false) h) in
          omega (arith, one, other)
      stmt-chain-moved (call line k target es) h = h.0

      stmts-chain-moved : (xs : StmtTrees) → AllByRecursion NoLonger (stmts_calls xs) →
          stmts_chain others (moved_stmts param move xs) ≤ stmts_chain chains xs
      stmts-chain-moved no_stmts h = omega arith
      stmts-chain-moved (more_stmts x xs) h =
          let one = stmt-chain-moved x (all-left NoLonger (stmt_calls x) (stmts_calls xs) h) in
          let rest = stmts-chain-moved xs (all-right NoLonger (stmt_calls x) (stmts_calls xs) h) in
          omega (arith, one, rest)

-- ---- The program without helpers

module _ (p : ProgramTree) (lawful : AreProcedures p.pures p.structs [] p.procedures)
    (lawful_there : AreProcedures p.pures p.structs [] (inlined p).procedures) where
  abbrev before : List ℕ
  before = chains_in p

  abbrev after : List ℕ
  after = chains_in (inlined p)

  abbrev Shorter : ℕ → Type 0
  Shorter = NoLonger before after (place p)

  module _ (n : ℕ) (earlier : (j : ℕ) → j < n → stays p j ≡ true → Shorter j) (q : ProcedureTree)
      (found : slice_get p.procedures n ≡ Some q) where
    -- a helper's body is shorter than its call
    helper-chain : (s : StmtTree) (call_of : ℕ × List ℕ) → CallsHelper p s call_of → IsLawfulStmt (reach_of p n q) s →
        stmts_chain after (moved_stmts (λ k. slice_index_or call_of.1 k 0) (place p) (procedure_at p call_of.0).body) ≤ stmt_chain before s
    helper-chain s call_of calls legal = by (subst (IsLawfulStmt (reach_of p n q)) calls.is legal)
      where
        by : IsLawfulStmt (reach_of p n q) (call calls.line call_of.0 Own calls.values) →
            stmts_chain after (moved_stmts (λ k. slice_index_or call_of.1 k 0) (place p) (procedure_at p call_of.0).body)
            ≤ stmt_chain before s
        by (h, is_there, of, count, all) =
            let (below, at) = take-found p.procedures call_of.0 n h is_there in
            let same = procedure-at p call_of.0 h at in
            let body = ap (λ (x : ProcedureTree).
            stmts_chain after (moved_stmts (λ k. slice_index_or call_of.1 k 0) (place p) x.body)) same in
            let unlogged = ap (λ (x : ProcedureTree). is_interface x.name) (sym same) ∙ (helper-is p call_of.0 calls.helper).unlogged in
            let shorter = stmts-chain-moved before after (place p) (λ k. slice_index_or call_of.1 k 0) h.body
            (helper-holds Shorter p call_of.0 h lawful at unlogged (λ j less keep. earlier j (omega (arith, less, below)) keep)) in
            let own = chain-in p call_of.0 h lawful at in
            let call_chain = ap (stmt_chain before) calls.is in
            omega (arith, body, shorter, own, call_chain)

    inlined-chain : (ss : StmtTrees) → AreLawfulStmts (reach_of p n q) ss → AllByRecursion Shorter (others_in p ss) →
        stmts_chain after (inlined_stmts p ss) ≤ stmts_chain before ss
    inlined-chain no_stmts legal called = omega arith
    inlined-chain (more_stmts s ss) legal called =
        by (helper_call p s) refl called (λ rest. inlined-chain ss legal.1 rest)
      where
        by : (o : Option (ℕ × List ℕ)) → helper_call p s ≡ o →
            AllByRecursion Shorter (elim o [ Some call_of ↦ others_in p ss | None ↦ stmt_calls s ++ others_in p ss ]) →
            (AllByRecursion Shorter (others_in p ss) → stmts_chain after (inlined_stmts p ss) ≤ stmts_chain before ss) →
            stmts_chain after
            (stmts_append (elim o [
              | Some call_of ↦ moved_stmts (λ k. slice_index_or call_of.1 k 0) (place p) (procedure_at p call_of.0).body
              | None ↦ more_stmts (moved_stmt itself (place p) s) no_stmts
            ]) (inlined_stmts p ss)) ≤ max (stmt_chain before s) (stmts_chain before ss)
        by (Some call_of) is rest next =
            let body = moved_stmts (λ k. slice_index_or call_of.1 k 0) (place p) (procedure_at p call_of.0).body in
            let one = helper-chain s call_of (helper_call-found p s call_of is) legal.0 in
            let both = chain-append after body (inlined_stmts p ss) in
            let later = next rest in
            omega (arith, one, both, later)
        by None is rest next =
            let one = stmt-chain-moved before after (place p) itself s (all-left Shorter (stmt_calls s) (others_in p ss) rest) in
            let later = next (all-right Shorter (stmt_calls s) (others_in p ss) rest) in
            omega (arith, one, later)

    body-chain : stmts_chain after (inlined_procedure p q).body ≤ stmts_chain before q.body
    body-chain = by (is_interface q.name) (remaining-holds Shorter p n q lawful found earlier)
      where
        by : (b : Bool) → AllByRecursion Shorter (if b then others_in p q.body else stmts_calls q.body) →
            stmts_chain after (if b then inlined_stmts p q.body else moved_stmts itself (place p) q.body) ≤ stmts_chain before q.body
        by true called = inlined-chain q.body (body-lawful p n q lawful found) called
        by false called = stmts-chain-moved before after (place p) itself q.body called

  one-shorter : (n : ℕ) → ((j : ℕ) → j < n → stays p j ≡ true → Shorter j) → stays p n ≡ true → (q : ProcedureTree) →
      slice_get p.procedures n ≡ Some q →
      Shorter n
  one-shorter n earlier keep q found =
      let own = chain-in p n q lawful found in
      let other = chain-in (inlined p) (place p n) (inlined_procedure p q) lawful_there (stays-at p n q found keep) in
      let body = body-chain n earlier q found in
      omega (arith, own, other, body)

  all-shorter : (n k : ℕ) → n ≤ length p.procedures → k < n → stays p k ≡ true → Shorter k
  all-shorter zero k most below keep = absurd (omega (arith, below))
  all-shorter (suc n) k most below keep = by (nat_lt k n) refl (λ j. all-shorter n j (omega (arith, most)))
    where
      by : (b : Bool) → nat_lt k n ≡ b → ((j : ℕ) → j < n → stays p j ≡ true → Shorter j) → Shorter k
      by true is earlier = earlier k (grind (arith, nat_tests)) keep
      by false is earlier =
          let past : n ≤ k = grind (arith, nat_tests) in
          one-shorter k (λ j less stay. earlier j (omega (arith, less, below)) stay) keep (procedure_at p k)
          (slice_get-get_or p.procedures k no_procedure (omega (arith, below, most)))

-- ---- Limits

chain-within : (xs : List ℕ) (k limit : ℕ) → AllByRecursion (λ n. n ≤ limit) xs → slice_index xs k ≤ limit
chain-within [] k limit h = omega arith
chain-within (x ∷ xs) zero limit h = h.0
chain-within (x ∷ xs) (suc k) limit h = chain-within xs k limit h.1

all-within : (xs : List ℕ) (limit : ℕ) → ((k : ℕ) → k < length xs → slice_index xs k ≤ limit) → AllByRecursion (λ n. n ≤ limit) xs
all-within [] limit each = tt
all-within (x ∷ xs) limit each =
    (each zero (omega arith), all-within xs limit (λ k within. each (suc k) (omega (arith, within))))

-- the chains of the program without helpers are within the limit
pub chains-lawful : (p : ProgramTree) → AreProcedures p.pures p.structs [] p.procedures →
    AreProcedures p.pures p.structs [] (inlined p).procedures → AllByRecursion (λ n. n ≤ chain_limit) (chains_in p) →
    AllByRecursion (λ n. n ≤ chain_limit) (chains_in (inlined p))
chains-lawful p lawful lawful_there within =
    all-within (chains_in (inlined p)) chain_limit
    (λ j inside.
    let long = chains-length (inlined p).procedures [] in
    let there = slice_get-get_or (inlined p).procedures j no_procedure (omega (arith, inside, long)) in
    let before = was p j (procedure_at (inlined p) j) there in
    let k = before.position in
    let known = slice_get_within p.procedures k before.procedure before.there in
    let shorter = all-shorter p lawful lawful_there (suc k) k (omega (arith, known)) (omega arith) before.kept in
    let at = ap (slice_index (chains_in (inlined p))) before.at in
    let most = chain-within (chains_in p) k chain_limit within in
    omega (arith, shorter, at, most))
