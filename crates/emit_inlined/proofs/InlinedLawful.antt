-- The program without helpers keeps the static rules and the limits.
use Rattle.std.specs.Prelude.{◌≡◌, ℕ, zero, suc, ◌<◌, ◌||◌, Bool, true, false, if◌then◌else◌, List, [], ◌∷◌, ◌++◌, map, length, take, Option, Some, None, slice_get, slice_index_or, bytes_eq}
use Rattle.std.specs.List.{AllByRecursion}
use Rattle.std.proofs.Common.{refl, sym, ap, subst, ◌∙◌, arith}
use Rattle.std.proofs.lemmas.Option.{same_Some}
use Rattle.c_syntax.specs.declared.code.Target.TheVariants.{Own}
use Rattle.c_syntax.specs.Tree.{StmtTree, call, StmtTrees, no_stmts, more_stmts, stmts_append, struct_fields, ProcedureTree, ProgramTree}
use Rattle.c_syntax.specs.Outputs.{has_name}
use Rattle.c_syntax.specs.Lawful.{Reach, AreDistinct, AreApart, pure_names, procedure_names, param_names, IsLawfulStmt, AreLawfulStmts, IsLawfulProcedure, AreProcedures}
use Rattle.c_syntax.proofs.lemmas.NameFacts.{has_name-append, AreDistinct-back}
use Rattle.c_syntax.proofs.lemmas.NamePlaces.{or-left, or-right}
use Rattle.c_semantics.specs.Machine.{is_interface}
use Rattle.emit_pruned.proofs.lemmas.Numbers.{all-left, all-right}
use Rattle.emit_inlined.specs.Inlined.{stmt_calls, stmts_calls, procedure_at, is_root_name, helper_call, stays, moved_stmt, moved_stmts, kept_from, itself, place, inlined_stmts, inlined_procedure, inlined}
use Rattle.emit_inlined.specs.Laws.{InlinedIsLawful}
use Rattle.emit_inlined.proofs.lemmas.KeptPlaces.{take-at, take-found, kept-order}
use Rattle.emit_inlined.proofs.lemmas.CallCounts.{CallsHelper, helper_call-found, others_in, helper-is, root-stays}
use Rattle.emit_inlined.proofs.lemmas.AtPositions.{procedure-lawful, procedures-lawful, reach_of, body-lawful}
use Rattle.emit_inlined.proofs.lemmas.PassedParams.{params_of-read, reads-length, reads-inside}
use Rattle.emit_inlined.proofs.lemmas.LawfulMoved.{stmt-lawful, stmts-lawful}
use Rattle.emit_inlined.proofs.lemmas.Staying.{procedure-at, stays-at, stays-before, was, remaining-holds, helper-holds}
use Rattle.emit_inlined.proofs.ChainsInlined.{chains-lawful}
use Rattle.emit_inlined.proofs.DepthsInlined.{procedures-fit}

-- ---- Names

apart-then : (names firsts others : List (List ℕ)) → ((name : List ℕ) → has_name firsts name ≡ false → has_name others name ≡ false) →
    AreApart names firsts → AreApart names others
apart-then [] firsts others next h = tt
apart-then (name ∷ names) firsts others next h = (next name h.0, apart-then names firsts others next h.1)

-- a name of none is one of none of some of them
none-behind : (xs ys zs : List (List ℕ)) (name : List ℕ) → (has_name ys name ≡ false → has_name zs name ≡ false) →
    has_name (xs ++ ys) name ≡ false → has_name (xs ++ zs) name ≡ false
none-behind xs ys zs name next h =
    has_name-append xs zs name ∙ by (has_name xs name) (sym (has_name-append xs ys name) ∙ h)
  where
    by : (b : Bool) → (b || has_name ys name) ≡ false → (b || has_name zs name) ≡ false
    by true e = e
    by false e = next e

distinct-behind : (xs ys zs : List (List ℕ)) → ((name : List ℕ) → has_name ys name ≡ false → has_name zs name ≡ false) →
    AreDistinct zs → AreDistinct (xs ++ ys) → AreDistinct (xs ++ zs)
distinct-behind [] ys zs next last h = last
distinct-behind (x ∷ xs) ys zs next last h = (h.0, none-behind xs ys zs x (next x) h.1, distinct-behind xs ys zs next last h.2)

none-each : (ps : List ProcedureTree) (k : ℕ) (q : ProcedureTree) (name : List ℕ) → has_name (procedure_names ps) name ≡ false →
    slice_get ps k ≡ Some q → bytes_eq name q.name ≡ false
none-each [] k q name none there = absurd (let wrong : ⊥ = cc there in wrong)
none-each (p ∷ ps) zero q name none there =
    ap (λ (x : ProcedureTree). bytes_eq name x.name) (sym (same_Some p q there))
    ∙ or-left (bytes_eq name p.name) (has_name (procedure_names ps) name) none
none-each (p ∷ ps) (suc k) q name none there =
    none-each ps k q name (or-right (bytes_eq name p.name) (has_name (procedure_names ps) name) none) there

none-from : (ps : List ProcedureTree) (name : List ℕ) →
    ((k : ℕ) (q : ProcedureTree) → slice_get ps k ≡ Some q → bytes_eq name q.name ≡ false) →
    has_name (procedure_names ps) name ≡ false
none-from [] name each = refl
none-from (p ∷ ps) name each =
    ap (λ b. b || has_name (procedure_names ps) name) (each zero p refl) ∙ none-from ps name (λ k q there. each (suc k) q there)

module _ (p : ProgramTree) where
  none-kept : (ps : List ProcedureTree) (n : ℕ) (name : List ℕ) → has_name (procedure_names ps) name ≡ false →
      has_name (procedure_names (map (inlined_procedure p) (kept_from (stays p) n ps))) name ≡ false
  none-kept [] n name h = refl
  none-kept (q ∷ qs) n name h =
      by (stays p n) (none-kept qs (suc n) name (or-right (bytes_eq name q.name) (has_name (procedure_names qs) name) h))
    where
      by : (b : Bool) → has_name (procedure_names (map (inlined_procedure p) (kept_from (stays p) (suc n) qs))) name ≡ false →
          has_name (procedure_names (map (inlined_procedure p) ((if b then q ∷ [] else []) ++ kept_from (stays p) (suc n) qs))) name
          ≡ false
      by true rest =
          ap (λ b. b || has_name (procedure_names (map (inlined_procedure p) (kept_from (stays p) (suc n) qs))) name)
          (or-left (bytes_eq name q.name) (has_name (procedure_names qs) name) h)
          ∙ rest
      by false rest = rest

  distinct-kept : (ps : List ProcedureTree) (n : ℕ) → AreDistinct (procedure_names ps) →
      AreDistinct (procedure_names (map (inlined_procedure p) (kept_from (stays p) n ps)))
  distinct-kept [] n h = tt
  distinct-kept (q ∷ qs) n h = by (stays p n) (distinct-kept qs (suc n) h.2)
    where
      by : (b : Bool) → AreDistinct (procedure_names (map (inlined_procedure p) (kept_from (stays p) (suc n) qs))) →
          AreDistinct (procedure_names (map (inlined_procedure p) ((if b then q ∷ [] else []) ++ kept_from (stays p) (suc n) qs)))
      by true rest = (h.0, none-kept qs (suc n) q.name h.1, rest)
      by false rest = rest

  -- the names before a procedure at its place are among those before it
  none-before : (k : ℕ) (name : List ℕ) → has_name (procedure_names (take k p.procedures)) name ≡ false →
      has_name (procedure_names (take (place p k) (inlined p).procedures)) name ≡ false
  none-before k name h =
      none-from (take (place p k) (inlined p).procedures) name
      (λ i y found.
      let (below, there) = take-found (inlined p).procedures i (place p k) y found in
      let before = was p i y there in
      let less = kept-order (stays p) before.position k (let at = before.at in omega (arith, below, at)) in
      ap (λ (x : ProcedureTree). bytes_eq name x.name) (sym before.is)
      ∙ none-each (take k p.procedures) before.position before.procedure name h
      (take-at p.procedures before.position k less ∙ before.there))

-- ---- Bodies

lawful-append : (reach : Reach) (xs ys : StmtTrees) → AreLawfulStmts reach xs → AreLawfulStmts reach ys →
    AreLawfulStmts reach (stmts_append xs ys)
lawful-append reach no_stmts ys h g = g
lawful-append reach (more_stmts x xs) ys h g = (h.0, lawful-append reach xs ys h.1 g)

module _ (p : ProgramTree) (lawful : AreProcedures p.pures p.structs [] p.procedures) where
  abbrev Stays : ℕ → Type 0
  Stays k = stays p k ≡ true

  module _ (n : ℕ) (q : ProcedureTree) (found : slice_get p.procedures n ≡ Some q) where
    abbrev kept : List ProcedureTree
    kept = take (place p n) (inlined p).procedures

    -- what a body of a struct may read and call at its place
    abbrev reach_at : ℕ → Reach
    reach_at of = record {
      pures = p.pures;
      structs = p.structs;
      procedures = kept;
      fields = struct_fields p.structs of;
      params = length q.params;
      of = of;
    }

    stands : (k : ℕ) (h : ProcedureTree) → slice_get (take n p.procedures) k ≡ Some h → stays p k ≡ true →
        slice_get kept (place p k) ≡ Some (inlined_procedure p h)
    stands k h there keep =
        let (below, at) = take-found p.procedures k n h there in stays-before p k n h below at keep

    helper-lawful : (s : StmtTree) (call_of : ℕ × List ℕ) → CallsHelper p s call_of → IsLawfulStmt (reach_of p n q) s →
        AreLawfulStmts (reach_at q.of) (moved_stmts (λ k. slice_index_or call_of.1 k 0) (place p) (procedure_at p call_of.0).body)
    helper-lawful s call_of calls legal = by (subst (IsLawfulStmt (reach_of p n q)) calls.is legal)
      where
        param : ℕ → ℕ
        param k = slice_index_or call_of.1 k 0

        by : IsLawfulStmt (reach_of p n q) (call calls.line call_of.0 Own calls.values) →
            AreLawfulStmts (reach_at q.of) (moved_stmts (λ k. slice_index_or call_of.1 k 0) (place p) (procedure_at p call_of.0).body)
        by (h, is_there, of, count, all) =
            let (below, at) = take-found p.procedures call_of.0 n h is_there in
            let same = procedure-at p call_of.0 h at in
            let read = params_of-read calls.values call_of.1 calls.params in
            let many = reads-length calls.values call_of.1 read in
            let inside : (k : ℕ) → k < length h.params → slice_index_or call_of.1 k 0 < length q.params =
            (λ k less. reads-inside (reach_of p n q) calls.values call_of.1 read all k (omega (arith, less, many, count))) in
            let unlogged : is_interface h.name ≡ false =
            ap (λ (x : ProcedureTree). is_interface x.name) (sym same) ∙ (helper-is p call_of.0 calls.helper).unlogged in
            let placed : (k : ℕ) (x : ProcedureTree) → slice_get (take call_of.0 p.procedures) k ≡ Some x → stays p k ≡ true →
            slice_get kept (place p k) ≡ Some (inlined_procedure p x) =
            (λ k x there keep. let (less, found_at) = take-found p.procedures k call_of.0 x there in
            stays-before p k n x (omega (arith, less, below)) found_at keep) in
            subst (λ (x : ProcedureTree). AreLawfulStmts (reach_at q.of) (moved_stmts (λ k. slice_index_or call_of.1 k 0) (place p) x.body))
            (sym same)
            (subst (λ struct. AreLawfulStmts (reach_at struct) (moved_stmts (λ k. slice_index_or call_of.1 k 0) (place p) h.body)) (sym of)
            (stmts-lawful (λ k. slice_index_or call_of.1 k 0) (place p) (reach_of p call_of.0 h) kept (length q.params) inside p placed
            h.body (helper-holds Stays p call_of.0 h lawful at unlogged (λ j less keep. keep)) (body-lawful p call_of.0 h lawful at)))

    own-lawful : (xs : StmtTrees) → AllByRecursion Stays (stmts_calls xs) → AreLawfulStmts (reach_of p n q) xs →
        AreLawfulStmts (reach_at q.of) (moved_stmts itself (place p) xs)
    own-lawful = stmts-lawful itself (place p) (reach_of p n q) kept (length q.params) (λ k less. less) p stands

    inlined-lawful : (ss : StmtTrees) → AllByRecursion Stays (others_in p ss) → AreLawfulStmts (reach_of p n q) ss →
        AreLawfulStmts (reach_at q.of) (inlined_stmts p ss)
    inlined-lawful no_stmts called legal = tt
    inlined-lawful (more_stmts s ss) called legal =
        by (helper_call p s) refl called (λ rest. inlined-lawful ss rest legal.1)
      where
        by : (o : Option (ℕ × List ℕ)) → helper_call p s ≡ o →
            AllByRecursion Stays (elim o [ Some call_of ↦ others_in p ss | None ↦ stmt_calls s ++ others_in p ss ]) →
            (AllByRecursion Stays (others_in p ss) → AreLawfulStmts (reach_at q.of) (inlined_stmts p ss)) →
            AreLawfulStmts (reach_at q.of)
            (stmts_append (elim o [
              | Some call_of ↦ moved_stmts (λ k. slice_index_or call_of.1 k 0) (place p) (procedure_at p call_of.0).body
              | None ↦ more_stmts (moved_stmt itself (place p) s) no_stmts
            ]) (inlined_stmts p ss))
        by (Some call_of) is rest next =
            lawful-append (reach_at q.of) (moved_stmts (λ k. slice_index_or call_of.1 k 0) (place p) (procedure_at p call_of.0).body)
            (inlined_stmts p ss) (helper-lawful s call_of (helper_call-found p s call_of is) legal.0) (next rest)
        by None is rest next = (
          stmt-lawful itself (place p) (reach_of p n q) kept (length q.params) (λ k less. less) p stands s
              (all-left Stays (stmt_calls s) (others_in p ss) rest) legal.0,
          next (all-right Stays (stmt_calls s) (others_in p ss) rest),
        )

    placed-lawful : AreLawfulStmts (reach_at q.of) (inlined_procedure p q).body
    placed-lawful = by (is_interface q.name) (remaining-holds Stays p n q lawful found (λ j less keep. keep))
      where
        by : (b : Bool) → AllByRecursion Stays (if b then others_in p q.body else stmts_calls q.body) →
            AreLawfulStmts (reach_at q.of) (if b then inlined_stmts p q.body else moved_stmts itself (place p) q.body)
        by true called = inlined-lawful q.body called (body-lawful p n q lawful found)
        by false called = own-lawful q.body called (body-lawful p n q lawful found)

    procedure-placed : IsLawfulProcedure p.pures p.structs kept (inlined_procedure p q)
    procedure-placed =
        let own = procedure-lawful p.pures p.structs p.procedures [] n q lawful found in record {
          of = own.of;
          params = own.params;
          apart = apart-then (param_names q.params) (pure_names p.pures ++ procedure_names (take n p.procedures))
              (pure_names p.pures ++ procedure_names kept)
              (λ name. none-behind (pure_names p.pures) (procedure_names (take n p.procedures)) (procedure_names kept) name
              (none-before p n name)) own.apart;
          body = placed-lawful;
        }

  pub all-lawful : AreProcedures p.pures p.structs [] (inlined p).procedures
  all-lawful =
      procedures-lawful p.pures p.structs (inlined p).procedures []
      (λ j y there.
      let before = was p j y there in
      subst (λ x. IsLawfulProcedure p.pures p.structs (take j (inlined p).procedures) x) before.is
      (subst (λ i. IsLawfulProcedure p.pures p.structs (take i (inlined p).procedures) (inlined_procedure p before.procedure)) before.at
      (procedure-placed before.position before.procedure before.there)))

-- ---- The program

pub inlined_is_lawful : InlinedIsLawful
inlined_is_lawful p h =
    let procedures = all-lawful p h.procedures in
    let own = AreDistinct-back (pure_names p.pures) (procedure_names p.procedures) h.functions in
    let keeps_root : (k : ℕ) (q : ProcedureTree) → slice_get p.procedures k ≡ Some q → is_root_name q.name ≡ true → stays p k ≡ true =
    (λ k q there root. root-stays p k (ap (λ (x : ProcedureTree). is_root_name x.name) (procedure-at p k q there) ∙ root)) in
    let start = keeps_root h.root.start h.root.start_procedure h.root.start_there (ap is_root_name h.root.start_name) in
    let step = keeps_root h.root.step h.root.step_procedure h.root.step_there (ap is_root_name h.root.step_name) in
    record {
      functions =
          distinct-behind (pure_names p.pures) (procedure_names p.procedures) (procedure_names (inlined p).procedures)
          (λ name. none-kept p p.procedures 0 name) (distinct-kept p p.procedures 0 own) h.functions;
      struct_names = h.struct_names;
      pures = h.pures;
      structs = h.structs;
      procedures = procedures;
      root = record {
        of = h.root.of;
        struct = h.root.struct;
        struct_there = h.root.struct_there;
        struct_name = h.root.struct_name;
        start = place p h.root.start;
        start_procedure = inlined_procedure p h.root.start_procedure;
        start_there = stays-at p h.root.start h.root.start_procedure h.root.start_there start;
        start_name = h.root.start_name;
        start_of = h.root.start_of;
        start_params = h.root.start_params;
        step = place p h.root.step;
        step_procedure = inlined_procedure p h.root.step_procedure;
        step_there = stays-at p h.root.step h.root.step_procedure h.root.step_there step;
        step_name = h.root.step_name;
        step_of = h.root.step_of;
        step_params = h.root.step_params;
      };
      chains = chains-lawful p h.procedures procedures h.chains;
      limits = record {
        count = h.limits.count;
        pures = h.limits.pures;
        procedures = procedures-fit p h.limits.procedures;
      };
    }
