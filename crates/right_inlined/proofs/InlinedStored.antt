-- What procedures store, themselves or through private ones, where helpers' bodies are in them.
use Rattle.std.specs.Prelude.{◌≡◌, ℕ, zero, suc, ◌+◌, ◌<◌, Bool, true, false, if◌then◌else◌, cond, nat_lt, List, [], ◌∷◌, ◌++◌, map, flat_map, count_by, length, Some, slice_get, slice_index_or, bytes_eq}
use Rattle.std.specs.List.{AllByRecursion}
use Rattle.std.proofs.Common.{refl, sym, ap, ◌∙◌, arith}
use Rattle.std.proofs.lemmas.List.{length-append, get_or_append_left}
use Rattle.std.proofs.Math.Seq.{get_or-append_seam}
use Rattle.modules_profile.proofs.lemmas.Members.{at-below, below-at}
use Rattle.c_syntax.specs.declared.code.Target.{Target}
use Rattle.c_syntax.specs.declared.code.Target.TheVariants.{Own, Child}
use Rattle.c_syntax.specs.Tree.{StmtTree, ProcedureTree, ProgramTree}
use Rattle.c_syntax.specs.Lawful.{AreProcedures}
use Rattle.emit_shape.specs.Faces.{stores}
use Rattle.emit_shape.specs.Heads.{Head}
use Rattle.emit_shape.specs.Programs.{procedure_at, field_in}
use Rattle.emit_shape.specs.Reads.{StoreSite, CallSite, stores_in, tests_in, calls_in, cond_leaves}
use Rattle.emit_shape.specs.Stored.{stored_on, stored_in, stored_names}
use Rattle.emit_pruned.proofs.lemmas.Numbers.{each-then}
use Rattle.emit_inlined.specs.Inlined.{stmts_calls, stays, place, inlined_procedure, inlined}
use Rattle.emit_inlined.proofs.lemmas.AtPositions.{body-calls}
use Rattle.emit_inlined.proofs.lemmas.Staying.{stays-at}
use Rattle.right_fused.proofs.lemmas.Lists.{any-count, count-append}
use Rattle.right_inlined.proofs.HelperCalls.{HasHelper}
use Rattle.right_inlined.proofs.InlinedRules.{Placed, head-at}
use Rattle.right_inlined.proofs.InlinedWeights.{procedure-weighs}
use Rattle.right_inlined.proofs.Totals.{sum-map, count-flat, nothing, helpers_of}
use Rattle.right_inlined.proofs.Weights.{Weights, leaf_weight, test_weight, with_calls, weigh, weigh-is, weigh-agree}

-- how often a name is there
module _ (name : List ℕ) where
  abbrev pub times : List (List ℕ) → ℕ
  times names = count_by (bytes_eq name) names

  module _ (private : ℕ → Bool) (field : ProcedureTree → ℕ → List ℕ) where
    abbrev through : List (List (List ℕ)) → ℕ → Target → ℕ
    through stored k target = times (stored_on private field stored k target)

    -- a store of the name, and a call by what the procedure called stores
    abbrev of_stored : List (List (List ℕ)) → ProcedureTree → Weights
    of_stored stored x = record {
      store = λ f. cond (bytes_eq name (field x f)) 1 0;
      call = through stored;
      leaf = λ l. 0;
    }

    stored-once : (earlier : List (List (List ℕ))) (x : ProcedureTree) →
        times (stored_in private field earlier x) ≡ weigh (of_stored earlier x) x.body
    stored-once earlier x =
        let w = of_stored earlier x in
        let names : StoreSite → List ℕ = λ st. field x st.field in
        let called : CallSite → List (List ℕ) = λ c. stored_on private field earlier c.procedure c.target in
        let stores = sum-map names (λ other. cond (bytes_eq name other) 1 0) (stores_in x.body) in
        let calls = count-flat called (bytes_eq name) (calls_in x.body) in
        let tests : test_weight w x.body ≡ 0 = nothing (leaf_weight w) (tests_in x.body) (λ t. nothing w.leaf (cond_leaves t) (λ l. refl)) in
        let whole = weigh-is w x.body in
        let both = count-append (bytes_eq name) (map names (stores_in x.body)) (flat_map called (calls_in x.body)) in
        omega (arith, stores, calls, tests, whole, both)

    -- what earlier procedures store stays
    earlier-stays : (xs : List ProcedureTree) (earlier : List (List (List ℕ))) (k : ℕ) → k < length earlier →
        slice_index_or (stored_names private field earlier xs) k [] ≡ slice_index_or earlier k []
    earlier-stays [] earlier k below = refl
    earlier-stays (x ∷ xs) earlier k below =
        let longer = length-append earlier (stored_in private field earlier x ∷ []) in
        earlier-stays xs (earlier ++ stored_in private field earlier x ∷ []) k (omega (arith, longer, below))
        ∙ get_or_append_left earlier (stored_in private field earlier x ∷ []) [] k below

    through-stays : (xs : List ProcedureTree) (earlier : List (List (List ℕ))) (k : ℕ) → k < length earlier → (target : Target) →
        through (stored_names private field earlier xs) k target ≡ through earlier k target
    through-stays xs earlier k below Own =
        ap (λ names. times (if private k then names else [])) (earlier-stays xs earlier k below)
    through-stays xs earlier k below (Child f) = refl

    -- a procedure that calls earlier ones stores what its own statements and these do
    stored-weighs : (xs : List ProcedureTree) (earlier : List (List (List ℕ))) (i n : ℕ) (x : ProcedureTree) → slice_get xs i ≡ Some x →
        length earlier + i ≡ n → AllByRecursion (λ j. j < n) (stmts_calls x.body) →
        times (slice_index_or (stored_names private field earlier xs) n [])
        ≡ weigh (of_stored (stored_names private field earlier xs) x) x.body
    stored-weighs [] earlier i n x there at below = absurd (let wrong : ⊥ = cc there in wrong)
    stored-weighs (y ∷ xs) earlier zero n x there at below =
        let same : y ≡ x = cc in
        let first : length earlier ≡ n = omega (arith, at) in
        let own = stored_in private field earlier y in
        let longer = length-append earlier (own ∷ []) in
        ap times
        (earlier-stays xs (earlier ++ own ∷ []) n (omega (arith, longer, first))
        ∙ ap (λ k. slice_index_or (earlier ++ own ∷ []) k []) (sym first) ∙ get_or-append_seam earlier own [] [])
        ∙ ap (λ z. times (stored_in private field earlier z)) same ∙ stored-once earlier x
        ∙ sym (weigh-agree (of_stored earlier x) (through (stored_names private field earlier (y ∷ xs))) x.body
        (each-then (λ j. j < n)
        (λ j. (target : Target) → through (stored_names private field earlier (y ∷ xs)) j target ≡ through earlier j target)
        (stmts_calls x.body) (λ j less. through-stays (y ∷ xs) earlier j (omega (arith, less, first))) below))
    stored-weighs (y ∷ xs) earlier (suc i) n x there at below =
        let longer = length-append earlier (stored_in private field earlier y ∷ []) in
        stored-weighs xs (earlier ++ stored_in private field earlier y ∷ []) i n x there (omega (arith, longer, at)) below

-- ---- Programs

module _ (p : ProgramTree) (lawful : AreProcedures p.pures p.structs [] p.procedures)
    (lawful_inlined : AreProcedures p.pures p.structs [] (inlined p).procedures) (name : List ℕ) where
  abbrev q : ProgramTree
  q = inlined p

  abbrev private_in : ProgramTree → ℕ → Bool
  private_in r k = (procedure_at r k).private

  abbrev named_in : ProcedureTree → ℕ → List ℕ
  named_in x f = (field_in p x.of f).name

  abbrev before : List (List (List ℕ))
  before = stored_names (private_in p) named_in [] p.procedures

  abbrev after : List (List (List ℕ))
  after = stored_names (private_in q) named_in [] q.procedures

  abbrev calls_before : ℕ → Target → ℕ
  calls_before k target = times name (stored_on (private_in p) named_in before k target)

  abbrev calls_after : ℕ → Target → ℕ
  calls_after k target = times name (stored_on (private_in q) named_in after k target)

  -- of a procedure of the struct at a position
  abbrev weights : ℕ → Weights
  weights of = record { store = λ f. cond (bytes_eq name (field_in p of f).name) 1 0; call = calls_before; leaf = λ l. 0 }

  stored-before : (k : ℕ) (x : ProcedureTree) → slice_get p.procedures k ≡ Some x →
      times name (slice_index_or before k []) ≡ weigh (weights x.of) x.body
  stored-before k x there =
      stored-weighs name (private_in p) named_in p.procedures [] k k x there (omega arith) (body-calls p k k x (omega arith) lawful there)

  stored-after : (k : ℕ) (x : ProcedureTree) → slice_get p.procedures k ≡ Some x → stays p k ≡ true →
      times name (slice_index_or after (place p k) []) ≡ weigh (with_calls (weights x.of) calls_after) (inlined_procedure p x).body
  stored-after k x there keep =
      let moved = stays-at p k x there keep in
      stored-weighs name (private_in q) named_in q.procedures [] (place p k) (place p k) (inlined_procedure p x) moved (omega arith)
      (body-calls q (place p k) (place p k) (inlined_procedure p x) (omega arith) lawful_inlined moved)

  -- what a helper stores, where it is called on `s`
  helper-stores : (k : ℕ) (x : ProcedureTree) (s : StmtTree) (found : ℕ × List ℕ) (c : HasHelper p k x s found) →
      weigh (weights x.of) c.helper.body ≡ calls_before found.0 Own + 0
  helper-stores k x s found c =
      let private : private_in p found.0 ≡ true =
      ap (λ (h : Head). h.private) (head-at p found.0 c.helper c.there) ∙ c.private in
      let through : calls_before found.0 Own ≡ times name (slice_index_or before found.0 []) =
      ap (λ b. times name (if b then slice_index_or before found.0 [] else [])) private in
      let stored = stored-before found.0 c.helper c.there in
      let alike : weigh (weights c.helper.of) c.helper.body ≡ weigh (weights x.of) c.helper.body = ap (λ of. weigh (weights of) c.helper.body) c.of in
      omega (arith, through, stored, alike)

  -- a call of what stays stores as much as before, if what is called does
  call-stores : (k : ℕ) → Placed p k → times name (slice_index_or after (place p k) []) ≡ times name (slice_index_or before k []) →
      (target : Target) → calls_after (place p k) target ≡ calls_before k target
  call-stores k at same Own =
      ap (λ (h : Head). times name (if h.private then slice_index_or after (place p k) [] else [])) at ∙ by (private_in p k)
    where
      by : (b : Bool) → times name (if b then slice_index_or after (place p k) [] else [])
          ≡ times name (if b then slice_index_or before k [] else [])
      by true = same
      by false = refl
  call-stores k at same (Child f) = refl

  -- so each that stays stores as much
  same-times : (bound k : ℕ) → k < bound → (x : ProcedureTree) → slice_get p.procedures k ≡ Some x → stays p k ≡ true →
      times name (slice_index_or after (place p k) []) ≡ times name (slice_index_or before k [])
  same-times zero k below x there keep = absurd (omega (arith, below))
  same-times (suc bound) k below x there keep =
      let end = at-below p.procedures k x there in
      let body = procedure-weighs p lawful (weights x.of) calls_after (λ move l. refl) k
      (λ j less at kept. call-stores j at (let (y, found) = below-at p.procedures j (let inside : j < length p.procedures = omega (arith, less, end)
      in inside) in same-times bound j (omega (arith, less, below)) y found kept)) (λ j. 0) k (omega arith) x there
      (λ logged s found c dropped. helper-stores k x s found c) in
      let none = nothing (λ (j : ℕ). 0) (helpers_of p x) (λ j. refl) in
      let first = stored-after k x there keep in
      let last = stored-before k x there in omega (arith, body, none, first, last)

  pub same-stored : (k : ℕ) (x : ProcedureTree) → slice_get p.procedures k ≡ Some x → stays p k ≡ true →
      stores q name (place p k) ≡ stores p name k
  same-stored k x there keep =
      any-count (bytes_eq name) (slice_index_or after (place p k) [])
      ∙ ap (nat_lt 0) (same-times (suc k) k (omega arith) x there keep)
      ∙ sym (any-count (bytes_eq name) (slice_index_or before k []))
