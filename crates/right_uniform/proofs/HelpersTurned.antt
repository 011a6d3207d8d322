-- Of two systems of which one is the other turned, the helpers are each other's: they are called as often.
use Rattle.std.specs.Prelude.{◌≡◌, ℕ, zero, suc, ◌+◌, ◌<◌, ◌==◌, not, nat_lt, Bool, true, false, ◌&&◌, ◌||◌, if◌then◌else◌, List, [], ◌∷◌, ◌++◌, map, drop, flat_map, length, slice_index_or, Option, Some, None, option_map}
use Rattle.std.specs.List.{AllByRecursion}
use Rattle.std.proofs.Common.{refl, sym, ap, ap₂, subst, ◌∙◌, arith, zero-add}
use Rattle.std.proofs.lemmas.Bool.Decides.{nat_tests}
use Rattle.std.proofs.lemmas.List.{map-append}
use Rattle.c_syntax.specs.declared.code.Target.{Target}
use Rattle.c_syntax.specs.declared.code.Target.TheVariants.{Own, Child}
use Rattle.c_syntax.specs.Tree.{StmtTree, assign, assign_at, branch, call, StmtTrees, no_stmts, more_stmts, ProcedureTree, ProgramTree}
use Rattle.c_semantics.specs.Machine.{is_interface}
use Rattle.c_semantics.specs.NumberingLaws.{Calls, AllCalls}
use Rattle.emit_shape.specs.Programs.{no_procedure, procedure_at, struct_place, procedures_of}
use Rattle.emit_pruned.proofs.lemmas.Numbers.{all-both}
use Rattle.emit_inlined.specs.Inlined as inlined
use Rattle.emit_inlined.specs.Inlined.{stmt_calls, stmts_calls, call_count, is_root_name, is_helper, params_of, helper_call, helpers_in, inlined_helpers, stays}
use Rattle.emit_inlined.proofs.lemmas.CallCounts.{CallsHelper, helper_call-found, count_of, count-more, others_in, remaining}
use Rattle.emit_uniform.specs.Turned.{Turn, place_among, names_of_procedures, turned_stmt, turned_stmts, turned_number, turned_procedure}
use Rattle.right_uniform.proofs.Sites.{IsSited, CanInline}
use Rattle.right_uniform.proofs.Renamings.{exprs-same}
use Rattle.right_uniform.proofs.TurnedCalls.{calls-turned, stmt_calls-turned}
use Rattle.right_uniform.proofs.OwnPlaces.{places_from, each-place, own-at, own-count, count-moved, has-counted, at-place, AreOnce, places-once, moved-once}

-- ---- Lists

none-counted : (k : ℕ) (js : List ℕ) → AllByRecursion (λ j. j ≡ k → ⊥) js → count_of k js ≡ 0
none-counted k [] none = refl
none-counted k (j ∷ js) none = count-more k j js ∙ (λ i. (if other i then 1 else 0) + none-counted k js none.1 i)
  where
    other : (j == k) ≡ false
    other = by (j == k) refl
      where
        by : (b : Bool) → (j == k) ≡ b → b ≡ false
        by true is = absurd (none.0 (let equal : j ≡ k = grind (arith, nat_tests) in equal))
        by false is = refl

pub each-then : {A : Type 0} (P Q : A → Type 0) (xs : List A) → ((x : A) → P x → Q x) → AllByRecursion P xs → AllByRecursion Q xs
each-then P Q [] next h = tt
each-then P Q (x ∷ xs) next h = (next x h.0, each-then P Q xs next h.1)

-- lists made of each number that is moved
flat-moved : (move : ℕ → ℕ) (has : ℕ → List ℕ) (js : List ℕ) → AllByRecursion (λ j. has (move j) ≡ map move (has j)) js →
    flat_map has (map move js) ≡ map move (flat_map has js)
flat-moved move has [] h = refl
flat-moved move has (j ∷ js) h =
    ap₂ ◌++◌ h.0 (flat-moved move has js h.1) ∙ sym (map-append move (has j) (flat_map has js))

all-flat : (P : ℕ → Type 0) (has : ℕ → List ℕ) (js : List ℕ) → AllByRecursion (λ j. AllByRecursion P (has j)) js →
    AllByRecursion P (flat_map has js)
all-flat P has [] h = tt
all-flat P has (j ∷ js) h = all-both P (has j) (flat_map has js) h.0 (all-flat P has js h.1)

-- the procedures that statements call, each with where it is called
module _ (P : ℕ → Target → Type 0) (Q : ℕ → Type 0) (own : (k : ℕ) → P k Own → Q k) (inner : (k f : ℕ) → P k (Child f) → Q k) where
  mutual
    stmt-called : (s : StmtTree) → Calls P s → AllByRecursion Q (stmt_calls s)
    stmt-called (assign line f e) h = tt
    stmt-called (assign_at line f index e) h = tt
    stmt-called (branch line test a c) h =
        all-both Q (stmts_calls a) (stmts_calls c) (called a h.0) (called c h.1)
    stmt-called (call line k Own es) h = (own k h, tt)
    stmt-called (call line k (Child f) es) h = (inner k f h, tt)

    pub called : (ss : StmtTrees) → AllCalls P ss → AllByRecursion Q (stmts_calls ss)
    called no_stmts h = tt
    called (more_stmts s ss) h =
        all-both Q (stmt_calls s) (stmts_calls ss) (stmt-called s h.0) (called ss h.1)

-- the same beside the code turned
module _ (number : ℕ → ℕ) (P R : ℕ → Target → Type 0) where
  mutual
    stmt-beside : (s : StmtTree) → Calls P s → Calls R (turned_stmt number s) → Calls (λ k target. P k target × R (number k) target) s
    stmt-beside (assign line f e) h g = tt
    stmt-beside (assign_at line f index e) h g = tt
    stmt-beside (branch line test a c) h g = (beside a h.0 g.0, beside c h.1 g.1)
    stmt-beside (call line k target es) h g = (h, g)

    beside : (ss : StmtTrees) → AllCalls P ss → AllCalls R (turned_stmts number ss) →
        AllCalls (λ k target. P k target × R (number k) target) ss
    beside no_stmts h g = tt
    beside (more_stmts s ss) h g = (stmt-beside s h.0 g.0, beside ss h.1 g.1)

module _ (b : ProgramTree) (t : Turn) (e f : ℕ) (can : CanInline b t e f) where
  abbrev pub number : ℕ → ℕ
  number = turned_number b t

  abbrev pub at : ℕ → ProcedureTree
  at k = slice_index_or b.procedures k no_procedure

  abbrev pub here : ℕ
  here = struct_place b (Some e)

  abbrev pub there : ℕ
  there = struct_place b (Some f)

  abbrev pub places : ℕ → List ℕ
  places of = places_from of 0 b.procedures

  pub shift : (k : ℕ) → slice_index_or b.procedures (0 + k) no_procedure ≡ slice_index_or b.procedures k no_procedure
  shift k = ap (λ m. slice_index_or b.procedures m no_procedure) (zero-add k)

  -- ---- Positions

  pub record StandsIn (of k : ℕ) : Type 0 where
    pub inside : k < length b.procedures
    pub of_struct : (at k).of ≡ of

  stand : (of : ℕ) → AllByRecursion (StandsIn of) (places of)
  stand of = each-place of (StandsIn of) b.procedures 0 b.procedures shift
      (λ m low high is. record { inside = omega (arith, high); of_struct = is })

  each-own : (of : ℕ) (P : ℕ → Type 0) → AllByRecursion P (places of) → (k : ℕ) → StandsIn of k → P k
  each-own of P all k is =
      let inside = is.inside in
      at-place of P b.procedures 0 b.procedures shift all k (omega arith) (omega (arith, inside)) is.of_struct

  own-are : (of : ℕ) → procedures_of b of ≡ map at (places of)
  own-are of = own-at of b.procedures 0 b.procedures shift

  places-moved : (ms ks : List ℕ) → AllByRecursion (StandsIn there) ms → map at ms ≡ map (turned_procedure b t) (map at ks) →
      ms ≡ map number ks
  places-moved [] [] stands same = refl
  places-moved [] (k ∷ ks) stands same = absurd (let wrong : ⊥ = cc same in wrong)
  places-moved (m ∷ ms) [] stands same = absurd (let wrong : ⊥ = cc same in wrong)
  places-moved (m ∷ ms) (k ∷ ks) stands same =
      let first : at m ≡ turned_procedure b t (at k) = ap (λ qs. slice_index_or qs 0 no_procedure) same in
      let place : m ≡ number k =
      sym (can.apart m stands.0.inside) ∙ ap (λ (q : ProcedureTree). place_among (names_of_procedures b) q.name) first in
      let rest = places-moved ms ks stands.1 (ap (drop 1) same) in
      (λ i. place i ∷ rest i)

  pub moved : places there ≡ map number (places here)
  moved = places-moved (places there) (places here) (stand there)
      (sym (own-are there) ∙ can.turned.procedures ∙ ap (map (turned_procedure b t)) (own-are here))

  -- a procedure of the first system, and the one that it is turned to
  pub record IsTurned (k : ℕ) : Type 0 where
    pub stands : StandsIn here k
    pub comes : StandsIn there (number k)
    pub is : at (number k) ≡ turned_procedure b t (at k)

  each-turned : (ks : List ℕ) → AllByRecursion (StandsIn here) ks → AllByRecursion (StandsIn there) (map number ks) →
      map at (map number ks) ≡ map (turned_procedure b t) (map at ks) → AllByRecursion IsTurned ks
  each-turned [] first second same = tt
  each-turned (k ∷ ks) first second same = (
    record { stands = first.0; comes = second.0; is = ap (λ qs. slice_index_or qs 0 no_procedure) same },
    each-turned ks first.1 second.1 (ap (drop 1) same),
  )

  pub all-turned : AllByRecursion IsTurned (places here)
  all-turned = each-turned (places here) (stand here) (subst (AllByRecursion (StandsIn there)) moved (stand there))
      (ap (map at) (sym moved) ∙ sym (own-are there) ∙ can.turned.procedures ∙ ap (map (turned_procedure b t)) (own-are here))

  pub turned-at : (k : ℕ) → StandsIn here k → IsTurned k
  turned-at k is = each-own here IsTurned all-turned k is

  -- no two procedures of the first come to one
  pub once : (j k : ℕ) → StandsIn here j → StandsIn here k → number j ≡ number k → j ≡ k
  once j k first second =
      each-own here (λ m. number j ≡ number m → j ≡ m)
      (each-own here (λ i. AllByRecursion (λ m. number i ≡ number m → i ≡ m) (places here))
      (moved-once number (places here) (subst AreOnce moved (places-once there 0 b.procedures))) j first) k second

  -- ---- Calls

  pub body-is : (k : ℕ) → IsTurned k → (at (number k)).body ≡ turned_stmts number (at k).body
  body-is k is = ap (λ (q : ProcedureTree). q.body) is.is

  private-is : (k : ℕ) → IsTurned k → (at (number k)).private ≡ (at k).private
  private-is k is = ap (λ (q : ProcedureTree). q.private) is.is

  pub sites : (x : ℕ) → IsTurned x →
      AllCalls (λ k target. IsSited b (at x) k target × IsSited b (at (number x)) (number k) target) (at x).body
  sites x is = beside number (IsSited b (at x)) (IsSited b (at (number x))) (at x).body (can.sited x is.stands.inside)
      (subst (AllCalls (IsSited b (at (number x)))) (body-is x is) (can.sited (number x) is.comes.inside))

  -- none that a system calls comes to where one of its private procedures does
  calls-apart : (k : ℕ) → IsTurned k → (at k).private ≡ true → (x : ℕ) → IsTurned x →
      AllByRecursion (λ j. number j ≡ number k → j ≡ k) (stmts_calls (at x).body)
  calls-apart k is private x is_x =
      called (λ j target. IsSited b (at x) j target × IsSited b (at (number x)) (number j) target) (λ j. number j ≡ number k → j ≡ k)
      (λ j h same. once j k (record { inside = h.0.0; of_struct = h.0.1 ∙ is_x.stands.of_struct }) is.stands same)
      (λ j g h same. absurd (let wrong : false ≡ true =
      sym h.1.1 ∙ ap (λ m. (at m).private) same ∙ private-is k is ∙ private in let no : ⊥ = cc wrong in no))
      (at x).body (sites x is_x)

  -- no other system calls a private procedure of this
  none-outside : (of k : ℕ) → StandsIn of k → (at k).private ≡ true → (m : ℕ) → m < length b.procedures → ((at m).of == of) ≡ false →
      count_of k (stmts_calls (at m).body) ≡ 0
  none-outside of k is private m inside other = none-counted k (stmts_calls (at m).body)
      (called (IsSited b (at m)) (λ j. j ≡ k → ⊥)
      (λ j h same.
      let owner : (at m).of ≡ of = sym h.1 ∙ ap (λ i. (at i).of) same ∙ is.of_struct in
      let no : ((at m).of == of) ≡ true = grind (arith, nat_tests) in
      let wrong : ⊥ = cc in wrong)
      (λ j g h same. let wrong : false ≡ true = sym h.1 ∙ ap (λ i. (at i).private) same ∙ private in let no : ⊥ = cc wrong in no)
      (at m).body (can.sited m inside))

  abbrev calls-at : ℕ → List ℕ
  calls-at m = stmts_calls (at m).body

  -- so the calls of a private procedure are those by its own system
  own-calls : (of k : ℕ) → StandsIn of k → (at k).private ≡ true → call_count b k ≡ count_of k (flat_map calls-at (places of))
  own-calls of k is private = own-count of (λ q. stmts_calls q.body) k b.procedures 0 b.procedures shift
      (λ m low high other. none-outside of k is private m (omega (arith, high)) other)

  calls-moved : flat_map calls-at (places there) ≡ map number (flat_map calls-at (places here))
  calls-moved = ap (flat_map calls-at) moved
      ∙ flat-moved number calls-at (places here)
      (each-then IsTurned (λ j. calls-at (number j) ≡ map number (calls-at j)) (places here)
      (λ j is. ap stmts_calls (body-is j is) ∙ calls-turned number (at j).body) all-turned)

  pub count-is : (k : ℕ) → IsTurned k → (at k).private ≡ true → call_count b (number k) ≡ call_count b k
  count-is k is private =
      own-calls there (number k) is.comes (private-is k is ∙ private) ∙ ap (count_of (number k)) calls-moved
      ∙ count-moved number k (flat_map calls-at (places here))
      (all-flat (λ j. number j ≡ number k → j ≡ k) calls-at (places here)
      (each-then IsTurned (λ x. AllByRecursion (λ j. number j ≡ number k → j ≡ k) (calls-at x)) (places here)
      (λ x is_x. calls-apart k is private x is_x) all-turned))
      ∙ sym (own-calls here k is.stands private)

  -- ---- Helpers

  pub same-at : (k : ℕ) → k < length b.procedures → inlined.procedure_at b k ≡ at k
  same-at k inside = defaults b.procedures k inside
    where
      defaults : (xs : List ProcedureTree) (m : ℕ) → m < length xs →
          slice_index_or xs m inlined.no_procedure ≡ slice_index_or xs m no_procedure
      defaults [] m h = absurd (omega (arith, h))
      defaults (x ∷ xs) zero h = refl
      defaults (x ∷ xs) (suc m) h = defaults xs m (omega (arith, h))

  -- what makes a procedure a helper
  abbrev helper-by : (q : ProcedureTree) (count : ℕ) → Bool
  helper-by q count = q.private && (count == 1) && not (is_interface q.name || is_root_name q.name)

  pub logged-is : (k : ℕ) → IsTurned k → is_interface (at (number k)).name ≡ is_interface (at k).name
  logged-is k is = ap (λ (q : ProcedureTree). is_interface q.name) is.is ∙ can.logged k is.stands.inside is.stands.of_struct

  pub helper-is : (k : ℕ) → IsTurned k → is_helper b (number k) ≡ is_helper b k
  helper-is k is =
      ap (λ q. helper-by q (call_count b (number k))) (same-at (number k) is.comes.inside)
      ∙ by (at k).private refl
      ∙ sym (ap (λ q. helper-by q (call_count b k)) (same-at k is.stands.inside))
    where
      root-is : is_root_name (at (number k)).name ≡ is_root_name (at k).name
      root-is = can.rootless_there (number k) is.comes.inside is.comes.of_struct
          ∙ sym (can.rootless k is.stands.inside is.stands.of_struct)

      names-are : not (is_interface (at (number k)).name || is_root_name (at (number k)).name)
          ≡ not (is_interface (at k).name || is_root_name (at k).name)
      names-are = λ i. not (logged-is k is i || root-is i)

      by : (c : Bool) → (at k).private ≡ c → helper-by (at (number k)) (call_count b (number k)) ≡ helper-by (at k) (call_count b k)
      by true private = λ i. private-is k is i && (count-is k is private i == 1) && names-are i
      by false public =
          ap (λ c. c && (call_count b (number k) == 1) && not (is_interface (at (number k)).name || is_root_name (at (number k)).name))
          (private-is k is ∙ public)
          ∙ sym (ap (λ c. c && (call_count b k == 1) && not (is_interface (at k).name || is_root_name (at k).name)) public)

  -- a helper that is called, with the number to which it comes
  abbrev pub found-moved : ℕ × List ℕ → ℕ × List ℕ
  found-moved found = (number found.0, found.1)

  -- calls in one of the first system's bodies
  abbrev pub Stmt : ℕ → StmtTree → Type 0
  Stmt x s = Calls (λ k target. IsSited b (at x) k target × IsSited b (at (number x)) (number k) target) s

  abbrev pub Body : ℕ → StmtTrees → Type 0
  Body x ss = AllCalls (λ k target. IsSited b (at x) k target × IsSited b (at (number x)) (number k) target) ss

  pub own-turned : (x k : ℕ) → IsTurned x → IsSited b (at x) k Own → IsTurned k
  own-turned x k is h = turned-at k (record { inside = h.0; of_struct = h.1 ∙ is.stands.of_struct })

  pub call-is : (x : ℕ) → IsTurned x → (s : StmtTree) → Stmt x s →
      helper_call b (turned_stmt number s) ≡ option_map found-moved (helper_call b s)
  call-is x is (assign line f e) h = refl
  call-is x is (assign_at line f index e) h = refl
  call-is x is (branch line test a c) h = refl
  call-is x is (call line k (Child f) es) h = refl
  call-is x is (call line k Own es) h =
      (λ i. if helper-is k (own-turned x k is h.0) i then option_map (λ ks. (number k, ks)) (params_of (exprs-same number es i)) else None)
      ∙ by (is_helper b k) (params_of es)
    where
      by : (c : Bool) (o : Option (List ℕ)) → (if c then option_map (λ ks. (number k, ks)) o else None)
          ≡ option_map found-moved (if c then option_map (λ ks. (k, ks)) o else None)
      by true (Some ks) = refl
      by true None = refl
      by false o = refl

  -- the helpers that code calls, and what it calls beside them
  pub helpers-moved : (x : ℕ) → IsTurned x → (ss : StmtTrees) → Body x ss →
      helpers_in b (turned_stmts number ss) ≡ map number (helpers_in b ss)
  helpers-moved x is no_stmts h = refl
  helpers-moved x is (more_stmts s ss) h =
      (λ i. elim (call-is x is s h.0 i) [
        | Some found ↦ found.0 ∷ helpers-moved x is ss h.1 i
        | None ↦ helpers-moved x is ss h.1 i
      ]) ∙ by (helper_call b s)
    where
      by : (o : Option (ℕ × List ℕ)) →
          elim (option_map found-moved o) [ Some found ↦ found.0 ∷ map number (helpers_in b ss) | None ↦ map number (helpers_in b ss) ]
          ≡ map number (elim o [ Some found ↦ found.0 ∷ helpers_in b ss | None ↦ helpers_in b ss ])
      by (Some found) = refl
      by None = refl

  pub others-moved : (x : ℕ) → IsTurned x → (ss : StmtTrees) → Body x ss →
      others_in b (turned_stmts number ss) ≡ map number (others_in b ss)
  others-moved x is no_stmts h = refl
  others-moved x is (more_stmts s ss) h =
      (λ i. elim (call-is x is s h.0 i) [
        | Some found ↦ others-moved x is ss h.1 i
        | None ↦ stmt_calls-turned number s i ++ others-moved x is ss h.1 i
      ]) ∙ by (helper_call b s)
    where
      by : (o : Option (ℕ × List ℕ)) →
          elim (option_map found-moved o) [
            | Some found ↦ map number (others_in b ss)
            | None ↦ map number (stmt_calls s) ++ map number (others_in b ss)
          ]
          ≡ map number (elim o [ Some found ↦ others_in b ss | None ↦ stmt_calls s ++ others_in b ss ])
      by (Some found) = refl
      by None = sym (map-append number (stmt_calls s) (others_in b ss))

  pub remaining-moved : (x : ℕ) → IsTurned x → remaining b (at (number x)) ≡ map number (remaining b (at x))
  remaining-moved x is =
      (λ i. if logged-is x is i then others_in b (body-is x is i) else stmts_calls (body-is x is i))
      ∙ by (is_interface (at x).name)
    where
      by : (c : Bool) → (if c then others_in b (turned_stmts number (at x).body) else stmts_calls (turned_stmts number (at x).body))
          ≡ map number (if c then others_in b (at x).body else stmts_calls (at x).body)
      by true = others-moved x is (at x).body (sites x is)
      by false = calls-turned number (at x).body

  -- ---- What stays

  -- the helpers whose bodies go into a procedure
  abbrev goes-into : ProcedureTree → List ℕ
  goes-into q = if is_interface q.name then helpers_in b q.body else []

  abbrev goes-at : ℕ → List ℕ
  goes-at m = goes-into (at m)

  goes-moved : (x : ℕ) → IsTurned x → goes-at (number x) ≡ map number (goes-at x)
  goes-moved x is =
      (λ i. if logged-is x is i then helpers_in b (body-is x is i) else []) ∙ by (is_interface (at x).name)
    where
      by : (c : Bool) → (if c then helpers_in b (turned_stmts number (at x).body) else [])
          ≡ map number (if c then helpers_in b (at x).body else [])
      by true = helpers-moved x is (at x).body (sites x is)
      by false = refl

  -- they are procedures of the same struct
  own-helpers : (x : ProcedureTree) (ss : StmtTrees) → AllCalls (IsSited b x) ss → AllByRecursion (StandsIn x.of) (helpers_in b ss)
  own-helpers x no_stmts h = tt
  own-helpers x (more_stmts s ss) h = by (helper_call b s) refl (own-helpers x ss h.1)
    where
      own : (s : StmtTree) (found : ℕ × List ℕ) → Calls (IsSited b x) s → CallsHelper b s found → StandsIn x.of found.0
      own s found site c =
          let sited : IsSited b x found.0 Own = subst (Calls (IsSited b x)) c.is site in
          record { inside = sited.0; of_struct = sited.1 }

      by : (o : Option (ℕ × List ℕ)) → helper_call b s ≡ o → AllByRecursion (StandsIn x.of) (helpers_in b ss) →
          AllByRecursion (StandsIn x.of) (elim o [ Some found ↦ found.0 ∷ helpers_in b ss | None ↦ helpers_in b ss ])
      by (Some found) is rest = (own s found h.0 (helper_call-found b s found is), rest)
      by None is rest = rest

  own-goes : (m : ℕ) → m < length b.procedures → AllByRecursion (StandsIn (at m).of) (goes-at m)
  own-goes m inside = by (is_interface (at m).name)
    where
      by : (c : Bool) → AllByRecursion (StandsIn (at m).of) (if c then helpers_in b (at m).body else [])
      by true = own-helpers (at m) (at m).body (can.sited m inside)
      by false = tt

  own-inlined : (of k : ℕ) → StandsIn of k → count_of k (inlined_helpers b) ≡ count_of k (flat_map goes-at (places of))
  own-inlined of k is = own-count of goes-into k b.procedures 0 b.procedures shift
      (λ m low high other. none-counted k (goes-at m)
      (each-then (StandsIn (at m).of) (λ j. j ≡ k → ⊥) (goes-at m)
      (λ j stands same.
      let owner : (at m).of ≡ of = sym stands.of_struct ∙ ap (λ i. (at i).of) same ∙ is.of_struct in
      let no : ((at m).of == of) ≡ true = grind (arith, nat_tests) in
      let wrong : ⊥ = cc in wrong)
      (own-goes m (omega (arith, high)))))

  -- a procedure stays if the one that it comes to does
  pub stays-is : (k : ℕ) → IsTurned k → stays b (number k) ≡ stays b k
  stays-is k is = ap not
      (has-counted (number k) (inlined_helpers b) ∙ ap (nat_lt 0) counted ∙ sym (has-counted k (inlined_helpers b)))
    where
      apart : (x : ℕ) → IsTurned x → AllByRecursion (λ j. number j ≡ number k → j ≡ k) (goes-at x)
      apart x is_x = each-then (StandsIn (at x).of) (λ j. number j ≡ number k → j ≡ k) (goes-at x)
          (λ j stands same. once j k
          (record { inside = stands.inside; of_struct = stands.of_struct ∙ is_x.stands.of_struct }) is.stands same)
          (own-goes x is_x.stands.inside)

      counted : count_of (number k) (inlined_helpers b) ≡ count_of k (inlined_helpers b)
      counted =
          own-inlined there (number k) is.comes
          ∙ ap (count_of (number k)) (ap (flat_map goes-at) moved
          ∙ flat-moved number goes-at (places here)
          (each-then IsTurned (λ j. goes-at (number j) ≡ map number (goes-at j)) (places here) goes-moved all-turned))
          ∙ count-moved number k (flat_map goes-at (places here))
          (all-flat (λ j. number j ≡ number k → j ≡ k) goes-at (places here)
          (each-then IsTurned (λ x. AllByRecursion (λ j. number j ≡ number k → j ≡ k) (goes-at x)) (places here) apart all-turned))
          ∙ sym (own-inlined here k is.stands)
