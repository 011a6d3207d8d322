-- What procedures weigh that contain helpers' bodies.
use Rattle.std.specs.Prelude.{◌≡◌, ℕ, ◌+◌, ◌<◌, ◌≤◌, Bool, true, false, not, if◌then◌else◌, List, [], ◌∷◌, ◌++◌, sum_by, length, Option, Some, None, slice_get, slice_index_or}
use Rattle.std.specs.List.{AllByRecursion}
use Rattle.std.proofs.Common.{refl, sym, ap, ◌∙◌, arith}
use Rattle.std.proofs.lemmas.List.Sums.{sum_by-cons}
use Rattle.modules_profile.proofs.lemmas.Members.{at-below, at-in}
use Rattle.c_syntax.specs.declared.code.Leaf.{Leaf}
use Rattle.c_syntax.specs.declared.code.Target.{Target}
use Rattle.c_syntax.specs.declared.code.Target.TheVariants as target
use Rattle.c_syntax.specs.Tree.{ExprTrees, StmtTree, call, StmtTrees, no_stmts, more_stmts, stmts_append, ProcedureTree, ProgramTree}
use Rattle.c_syntax.specs.Lawful.{AreProcedures, AreLawfulStmts}
use Rattle.c_semantics.specs.Machine.{is_interface}
use Rattle.emit_pruned.proofs.lemmas.Numbers.{all-left, all-right, all-both, each-then, each-has, all-parts, all-whole}
use Rattle.emit_pruned.specs.Needed.{has_number}
use Rattle.emit_inlined.specs.Inlined.{stmt_calls, stmts_calls, procedure_at, helper_call, helpers_in, inlined_helpers, stays, place, itself, moved_leaf, moved_stmt, moved_stmts, inlined_stmts, inlined_procedure, inlined}
use Rattle.emit_inlined.proofs.lemmas.AtPositions.{reach_of, body-lawful}
use Rattle.emit_inlined.proofs.lemmas.CallCounts.{others_in, each-at}
use Rattle.emit_inlined.proofs.lemmas.Staying.{procedure-at, remaining-holds, helper-holds}
use Rattle.right_fused.proofs.lemmas.Lists.{each-in}
use Rattle.right_inlined.proofs.HelperCalls.{HasHelper, has-helper}
use Rattle.right_inlined.proofs.InlinedRules.{Placed, placed-below}
use Rattle.right_inlined.proofs.Totals.{helpers_of, total}
use Rattle.right_inlined.proofs.Weights.{Weights, with_calls, weigh, weigh-is, weigh-none, weigh-append, weigh-more, weigh-moved}

-- ---- Helpers of a procedure

-- what holds of each helper that a procedure's statements call, by the statement
module _ (p : ProgramTree) (P : ℕ → Type 0) where
  pub each-helper : (k : ℕ) (x : ProcedureTree) → ((s : StmtTree) (found : ℕ × List ℕ) → HasHelper p k x s found → P found.0) →
      (ss : StmtTrees) → AreLawfulStmts (reach_of p k x) ss → AllByRecursion P (helpers_in p ss)
  each-helper k x each no_stmts lawful = tt
  each-helper k x each (more_stmts s ss) lawful = by (helper_call p s) refl (each-helper k x each ss lawful.1)
    where
      by : (o : Option (ℕ × List ℕ)) → helper_call p s ≡ o → AllByRecursion P (helpers_in p ss) →
          AllByRecursion P (elim o [ Some found ↦ found.0 ∷ helpers_in p ss | None ↦ helpers_in p ss ])
      by (Some found) is rest = (each s found (has-helper p k x s found lawful.0 is), rest)
      by None is rest = rest

  pub each-helper-of : (k : ℕ) (x : ProcedureTree) →
      (is_interface x.name ≡ true → (s : StmtTree) (found : ℕ × List ℕ) → HasHelper p k x s found → P found.0) →
      AreLawfulStmts (reach_of p k x) x.body → AllByRecursion P (helpers_of p x)
  each-helper-of k x each lawful = by (is_interface x.name) refl
    where
      by : (b : Bool) → is_interface x.name ≡ b → AllByRecursion P (if b then helpers_in p x.body else [])
      by true logged = each-helper k x (each logged) x.body lawful
      by false logged = tt

-- none of them stays
pub dropped-helpers : (p : ProgramTree) (k : ℕ) (x : ProcedureTree) → slice_get p.procedures k ≡ Some x →
    AllByRecursion (λ j. stays p j ≡ false) (helpers_of p x)
dropped-helpers p k x there =
    each-at (λ y. AllByRecursion (λ j. stays p j ≡ false) (helpers_of p y)) p.procedures k x
    (all-parts (λ j. stays p j ≡ false) (helpers_of p) p.procedures
    (each-then (λ j. has_number (inlined_helpers p) j ≡ true) (λ j. stays p j ≡ false) (inlined_helpers p)
    (λ j there. ap not there) (each-has (inlined_helpers p)))) there

-- all are procedures of the program
pub helpers-inside : (p : ProgramTree) → AreProcedures p.pures p.structs [] p.procedures →
    AllByRecursion (λ j. j < length p.procedures) (inlined_helpers p)
helpers-inside p lawful =
    all-whole (λ j. j < length p.procedures) (helpers_of p) p.procedures
    (each-in (λ x. AllByRecursion (λ j. j < length p.procedures) (helpers_of p x)) p.procedures
    (λ x has. let at = at-in p.procedures x has in each at.0 x at.1))
  where
    each : (k : ℕ) (x : ProcedureTree) → slice_get p.procedures k ≡ Some x →
        AllByRecursion (λ j. j < length p.procedures) (helpers_of p x)
    each k x there =
        each-helper-of p (λ j. j < length p.procedures) k x (λ logged s found c. at-below p.procedures found.0 c.helper c.there)
        (body-lawful p k x lawful there)

-- ---- What statements weigh

module _ (p : ProgramTree) (lawful : AreProcedures p.pures p.structs [] p.procedures) (w : Weights) (calls : ℕ → Target → ℕ)
    (leaves : (move : ℕ → ℕ) (l : Leaf) → w.leaf (moved_leaf move (place p) l) ≡ w.leaf l)
    (limit : ℕ)
    (called : (k : ℕ) → k < limit → Placed p k → stays p k ≡ true → (target : Target) → calls (place p k) target ≡ w.call k target) where
  abbrev v : Weights
  v = with_calls w calls

  abbrev Alike : ℕ → Type 0
  Alike k = (target : Target) → calls (place p k) target ≡ w.call k target

  alike-below : (n j : ℕ) → n < length p.procedures → n ≤ limit → j < n → stays p j ≡ true → Alike j
  alike-below n j end most below keep = called j (omega (arith, most, below)) (placed-below p n j end below keep) keep

  module _ (added : ℕ → ℕ) (k : ℕ) (most : k ≤ limit) (x : ProcedureTree) (there : slice_get p.procedures k ≡ Some x)
      (helps : is_interface x.name ≡ true → (s : StmtTree) (found : ℕ × List ℕ) (c : HasHelper p k x s found) → stays p found.0 ≡ false →
      weigh w c.helper.body ≡ w.call found.0 target.Own + added found.0) where
    body-weighs : is_interface x.name ≡ true → (s : StmtTree) (found : ℕ × List ℕ) → HasHelper p k x s found → stays p found.0 ≡ false →
        weigh v (moved_stmts (λ i. slice_index_or found.1 i 0) (place p) (procedure_at p found.0).body)
        ≡ weigh w (more_stmts s no_stmts) + added found.0
    body-weighs logged s found c dropped =
        let at = procedure-at p found.0 c.helper c.there in
        let end = at-below p.procedures found.0 c.helper c.there in
        let moved = weigh-moved w calls (λ i. slice_index_or found.1 i 0) (place p) (leaves (λ i. slice_index_or found.1 i 0)) c.helper.body
        (helper-holds Alike p found.0 c.helper lawful c.there c.unlogged (λ j below keep. alike-below found.0 j end (let first = c.before in omega (arith, first, most)) below keep)) in
        ap (λ (z : ProcedureTree). weigh v (moved_stmts (λ i. slice_index_or found.1 i 0) (place p) z.body)) at ∙ moved
        ∙ helps logged s found c dropped
        ∙ ap (λ n. n + added found.0) (sym (ap (λ z. weigh w (more_stmts z no_stmts)) c.is ∙ alone c.line c.values))
      where
        alone : (line : ℕ) (values : ExprTrees) → weigh w (more_stmts (call line found.0 target.Own values) no_stmts) ≡ w.call found.0 target.Own
        alone line values = weigh-is w (more_stmts (call line found.0 target.Own values) no_stmts) ∙ omega arith

    stmts-weigh : is_interface x.name ≡ true → (ss : StmtTrees) → AreLawfulStmts (reach_of p k x) ss → AllByRecursion Alike (others_in p ss) →
        AllByRecursion (λ j. stays p j ≡ false) (helpers_in p ss) →
        weigh v (inlined_stmts p ss) ≡ weigh w ss + sum_by added (helpers_in p ss)
    stmts-weigh logged no_stmts right others dropped =
        let none = weigh-none w in let nothing = weigh-none v in omega (arith, none, nothing)
    stmts-weigh logged (more_stmts s ss) right others dropped =
        by (helper_call p s) refl others dropped (λ more less. stmts-weigh logged ss right.1 more less)
      where
        by : (o : Option (ℕ × List ℕ)) → helper_call p s ≡ o →
            AllByRecursion Alike (elim o [ Some found ↦ others_in p ss | None ↦ stmt_calls s ++ others_in p ss ]) →
            AllByRecursion (λ j. stays p j ≡ false) (elim o [ Some found ↦ found.0 ∷ helpers_in p ss | None ↦ helpers_in p ss ]) →
            (AllByRecursion Alike (others_in p ss) → AllByRecursion (λ j. stays p j ≡ false) (helpers_in p ss) →
            weigh v (inlined_stmts p ss) ≡ weigh w ss + sum_by added (helpers_in p ss)) →
            weigh v
            (stmts_append (elim o [
              | Some found ↦ moved_stmts (λ i. slice_index_or found.1 i 0) (place p) (procedure_at p found.0).body
              | None ↦ more_stmts (moved_stmt itself (place p) s) no_stmts
            ]) (inlined_stmts p ss))
            ≡ weigh w (more_stmts s ss) + sum_by added (elim o [ Some found ↦ found.0 ∷ helpers_in p ss | None ↦ helpers_in p ss ])
        by (Some found) is more less rest =
            let body = moved_stmts (λ i. slice_index_or found.1 i 0) (place p) (procedure_at p found.0).body in
            let whole = weigh-append v body (inlined_stmts p ss) in
            let here = body-weighs logged s found (has-helper p k x s found right.0 is) less.0 in
            let later = rest more less.1 in
            let before = weigh-more w s ss in
            let sums = sum_by-cons added found.0 (helpers_in p ss) in omega (arith, whole, here, later, before, sums)
        by None is more less rest =
            let moved = more_stmts (moved_stmt itself (place p) s) no_stmts in
            let whole = weigh-append v moved (inlined_stmts p ss) in
            let here : weigh v moved ≡ weigh w (more_stmts s no_stmts) =
            weigh-moved w calls itself (place p) (leaves itself) (more_stmts s no_stmts)
            (all-both Alike (stmt_calls s) [] (all-left Alike (stmt_calls s) (others_in p ss) more) tt) in
            let later = rest (all-right Alike (stmt_calls s) (others_in p ss) more) less in
            let before = weigh-more w s ss in omega (arith, whole, here, later, before)

    pub procedure-weighs : weigh v (inlined_procedure p x).body ≡ weigh w x.body + sum_by added (helpers_of p x)
    procedure-weighs =
        by (is_interface x.name) refl (body-lawful p k x lawful there)
        (remaining-holds Alike p k x lawful there (λ j below keep. alike-below k j (at-below p.procedures k x there) most below keep))
        (dropped-helpers p k x there)
      where
        by : (b : Bool) → is_interface x.name ≡ b → AreLawfulStmts (reach_of p k x) x.body →
            AllByRecursion Alike (if b then others_in p x.body else stmts_calls x.body) →
            AllByRecursion (λ j. stays p j ≡ false) (if b then helpers_in p x.body else []) →
            weigh v (if b then inlined_stmts p x.body else moved_stmts itself (place p) x.body)
            ≡ weigh w x.body + sum_by added (if b then helpers_in p x.body else [])
        by true logged right others dropped = stmts-weigh logged x.body right others dropped
        by false logged right others dropped =
            let same = weigh-moved w calls itself (place p) (leaves itself) x.body others in omega (arith, same)

  -- ---- All together

  -- of the procedures that pass a test, where a helper passes if its caller does, and its own call weighs nothing
  module _ (all : length p.procedures ≤ limit) (test : ProcedureTree → Bool) (same : (x : ProcedureTree) → test (inlined_procedure p x) ≡ test x)
      (alike : (k : ℕ) (x : ProcedureTree) (s : StmtTree) (found : ℕ × List ℕ) → slice_get p.procedures k ≡ Some x →
      (c : HasHelper p k x s found) → is_interface x.name ≡ true → test c.helper ≡ test x)
      (light : (k : ℕ) (x : ProcedureTree) (s : StmtTree) (found : ℕ × List ℕ) → slice_get p.procedures k ≡ Some x →
      HasHelper p k x s found → test x ≡ true → stays p found.0 ≡ false → w.call found.0 target.Own ≡ 0) where
    abbrev weight : ProcedureTree → ℕ
    weight x = if test x then weigh w x.body else 0

    -- what a helper weighs
    helper-weighs : (k : ℕ) (x : ProcedureTree) → slice_get p.procedures k ≡ Some x → is_interface x.name ≡ true → (s : StmtTree)
        (found : ℕ × List ℕ) (c : HasHelper p k x s found) (b : Bool) → test x ≡ b →
        weight (procedure_at p found.0) ≡ (if b then weigh w c.helper.body else 0)
    helper-weighs k x there logged s found c b is =
        ap weight (procedure-at p found.0 c.helper c.there)
        ∙ ap (λ t. if t then weigh w c.helper.body else 0) (alike k x s found there c logged ∙ is)

    each-weighs : (k : ℕ) (x : ProcedureTree) → slice_get p.procedures k ≡ Some x → (b : Bool) → test x ≡ b →
        (if b then weigh v (inlined_procedure p x).body else 0)
        ≡ (if b then weigh w x.body else 0) + sum_by (λ j. weight (procedure_at p j)) (helpers_of p x)
    each-weighs k x there true is =
        procedure-weighs (λ j. weight (procedure_at p j)) k
        (let end = at-below p.procedures k x there in let most : k ≤ limit = omega (arith, end, all) in most) x there
        (λ logged s found c dropped.
        let none = light k x s found there c is dropped in
        let whole = helper-weighs k x there logged s found c true is in omega (arith, none, whole))
    each-weighs k x there false is =
        sym (ap (λ n. 0 + n) (nothing (helpers_of p x)
        (each-helper-of p (λ j. weight (procedure_at p j) ≡ 0) k x (λ logged s found c. helper-weighs k x there logged s found c false is)
        (body-lawful p k x lawful there))))
      where
        nothing : (ks : List ℕ) → AllByRecursion (λ j. weight (procedure_at p j) ≡ 0) ks → sum_by (λ j. weight (procedure_at p j)) ks ≡ 0
        nothing [] h = refl
        nothing (j ∷ ks) h =
            sum_by-cons (λ i. weight (procedure_at p i)) j ks ∙ (let here = h.0 in let rest = nothing ks h.1 in omega (arith, here, rest))

    pub all-weigh : sum_by (λ y. if test y then weigh v y.body else 0) (inlined p).procedures ≡ sum_by weight p.procedures
    all-weigh =
        total p (λ y. if test y then weigh v y.body else 0) weight
        (λ k x there keep.
        ap (λ t. if t then weigh v (inlined_procedure p x).body else 0) (same x)
        ∙ each-weighs k x there (test x) refl)
        (helpers-inside p lawful)
