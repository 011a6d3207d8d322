-- A lawful program is lawful with those of its pure functions that are called.
use Rattle.std.specs.Prelude.{◌≡◌, ℕ, zero, suc, ◌+◌, ◌<◌, ◌≤◌, ◌||◌, Bool, true, false, List, [], ◌∷◌, ◌++◌, map, length, if◌then◌else◌, Option, Some, unwrap_or, slice_get, option_map, bytes_eq}
use Rattle.std.specs.List.{AllByRecursion}
use Rattle.std.proofs.Common.{refl, sym, ap, subst, ◌∙◌, arith, ◌⊎◌, inl, inr, zero-add}
use Rattle.std.proofs.lemmas.List.{length-append, map-append, append_assoc, append-nil}
use Rattle.std.proofs.lemmas.Option.{slice_get-map}
use Rattle.c_syntax.specs.Tree.{PureTree, StructTree, struct_fields, ProcedureTree, ProgramTree}
use Rattle.c_syntax.specs.Outputs.{has_name}
use Rattle.c_syntax.specs.Chains.{stmts_chain, chain_limit}
use Rattle.c_syntax.specs.Limits.{PureFits, ProcedureFits, expr_limit, stmt_limit}
use Rattle.c_syntax.specs.Lawful.{AreDistinct, AreApart, pure_names, procedure_names, param_names, ArePures, AreProcedures, chains_of, IsLawful}
use Rattle.c_renaming.proofs.lemmas.Depths.{expr-depth, stmts-depth, stmts-exprs-depth}
use Rattle.emit_pruned.specs.Calls.{expr_functions, stmts_functions, procedures_functions}
use Rattle.emit_pruned.specs.Pruned.{renumbered_pure, renumbered_procedure, kept_before, kept_from, kept_program}
use Rattle.emit_pruned.proofs.lemmas.Numbers.{all-parts, each-then}
use Rattle.emit_pruned.proofs.KeptFunctions.{below-or-at, kept-next, dropped-next, kept-below, AreClosed}
use Rattle.emit_pruned.proofs.RunsAlike.{KeepsCalled}
use Rattle.emit_pruned.proofs.LawfulBodies.{Stands, expr-lawful, stmts-lawful, stmts-chain}

-- ---- Lists with one more item

get-before : {A : Type 0} (xs ys : List A) (k : ℕ) → k < length xs → slice_get (xs ++ ys) k ≡ slice_get xs k
get-before [] ys k h = absurd (omega arith)
get-before (x ∷ xs) ys zero h = refl
get-before (x ∷ xs) ys (suc k) h = get-before xs ys k (omega arith)

get-last : {A : Type 0} (xs : List A) (y : A) → slice_get (xs ++ y ∷ []) (length xs) ≡ Some y
get-last [] y = refl
get-last (x ∷ xs) y = get-last xs y

-- ---- Names

-- what is apart from all names is apart from others where each name that is none of the first is none of these
apart-then : (names firsts others : List (List ℕ)) → ((name : List ℕ) → has_name firsts name ≡ false → has_name others name ≡ false) →
    AreApart names firsts → AreApart names others
apart-then [] firsts others next h = tt
apart-then (name ∷ names) firsts others next h = (next name h.0, apart-then names firsts others next h.1)

neither : (a b : Bool) → (a || b) ≡ false → (a ≡ false) × (b ≡ false)
neither true b h = absurd (let wrong : ⊥ = cc h in wrong)
neither false b h = (refl, h)

none-left : (xs ys : List PureTree) (name : List ℕ) → has_name (pure_names (xs ++ ys)) name ≡ false → has_name (pure_names xs) name ≡ false
none-left [] ys name h = refl
none-left (x ∷ xs) ys name h =
    let (first, rest) = neither (bytes_eq name x.name) (has_name (pure_names (xs ++ ys)) name) h in
    ap (λ b. b || has_name (pure_names xs) name) first ∙ none-left xs ys name rest

none-right : (xs ys : List PureTree) (name : List ℕ) → has_name (pure_names (xs ++ ys)) name ≡ false → has_name (pure_names ys) name ≡ false
none-right [] ys name h = h
none-right (x ∷ xs) ys name h = none-right xs ys name (neither (bytes_eq name x.name) (has_name (pure_names (xs ++ ys)) name) h).1

none-both : (xs ys : List PureTree) (name : List ℕ) → has_name (pure_names xs) name ≡ false → has_name (pure_names ys) name ≡ false →
    has_name (pure_names (xs ++ ys)) name ≡ false
none-both [] ys name h g = g
none-both (x ∷ xs) ys name h g =
    let (first, rest) = neither (bytes_eq name x.name) (has_name (pure_names xs) name) h in
    ap (λ b. b || has_name (pure_names (xs ++ ys)) name) first ∙ none-both xs ys name rest g

same-names : (place : ℕ → ℕ) (qs : List ProcedureTree) → procedure_names (map (renumbered_procedure place) qs) ≡ procedure_names qs
same-names place [] = refl
same-names place (q ∷ qs) = ap (λ names. q.name ∷ names) (same-names place qs)

module _ (keeps : ℕ → Bool) where
  abbrev kept_pures : ℕ → List PureTree → List PureTree
  kept_pures n fs = map (renumbered_pure (kept_before keeps)) (kept_from keeps n fs)

  -- a name of none of the functions and of none of others is one of none that are kept
  none-kept : (fs : List PureTree) (others : List (List ℕ)) (n : ℕ) (name : List ℕ) →
      has_name (pure_names fs ++ others) name ≡ false → has_name (pure_names (kept_pures n fs) ++ others) name ≡ false
  none-kept [] others n name h = h
  none-kept (f ∷ fs) others n name h =
      by (keeps n) (neither (bytes_eq name f.name) (has_name (pure_names fs ++ others) name) h) (none-kept fs others (suc n) name)
    where
      by : (b : Bool) → (bytes_eq name f.name ≡ false) × (has_name (pure_names fs ++ others) name ≡ false) →
          (has_name (pure_names fs ++ others) name ≡ false → has_name (pure_names (kept_pures (suc n) fs) ++ others) name ≡ false) →
          has_name (pure_names (map (renumbered_pure (kept_before keeps)) ((if b then f ∷ [] else []) ++ kept_from keeps (suc n) fs))
          ++ others)
          name
          ≡ false
      by true e next = ap (λ c. c || has_name (pure_names (kept_pures (suc n) fs) ++ others) name) e.0 ∙ next e.1
      by false e next = next e.1

  distinct-kept : (fs : List PureTree) (others : List (List ℕ)) (n : ℕ) → AreDistinct (pure_names fs ++ others) →
      AreDistinct (pure_names (kept_pures n fs) ++ others)
  distinct-kept [] others n h = h
  distinct-kept (f ∷ fs) others n h = by (keeps n) (distinct-kept fs others (suc n) h.2)
    where
      by : (b : Bool) → AreDistinct (pure_names (kept_pures (suc n) fs) ++ others) →
          AreDistinct (pure_names (map (renumbered_pure (kept_before keeps)) ((if b then f ∷ [] else []) ++ kept_from keeps (suc n) fs))
          ++ others)
      by true rest = (h.0, none-kept fs others (suc n) f.name h.1, rest)
      by false rest = rest

  -- ---- Pure functions

  -- of so many functions those that are kept, each at its place, with no other names
  record AreStanding (n : ℕ) (earlier kept : List PureTree) : Type 0 where
    count : length earlier ≡ n
    kept_count : length kept ≡ kept_before keeps n
    stands : (k : ℕ) → k < n → keeps k ≡ true → Stands (kept_before keeps) earlier kept k
    names : (name : List ℕ) → has_name (pure_names earlier) name ≡ false → has_name (pure_names kept) name ≡ false

  stand-one : (n : ℕ) (earlier kept : List PureTree) (f : PureTree) → AreStanding n earlier kept → keeps n ≡ true →
      AreStanding (suc n) (earlier ++ f ∷ []) (kept ++ renumbered_pure (kept_before keeps) f ∷ [])
  stand-one n earlier kept f are is =
      let count = are.count in
      let kept_count = are.kept_count in
      let next = kept-next keeps n is in record {
        count = omega (arith, length-append earlier (f ∷ []));
        kept_count = omega (arith, length-append kept (g ∷ []));
        stands = λ k below keep. by k keep (below-or-at k n below);
        names = λ name none.
            none-both kept (g ∷ []) name (are.names name (none-left earlier (f ∷ []) name none)) (none-right earlier (f ∷ []) name none);
      }
    where
      g : PureTree
      g = renumbered_pure (kept_before keeps) f

      by : (k : ℕ) → keeps k ≡ true → (k < n) ⊎ (k ≡ n) → Stands (kept_before keeps) (earlier ++ f ∷ []) (kept ++ g ∷ []) k
      by k keep (inl below) x there =
          let count = are.count in
          let kept_count = are.kept_count in
          let less = kept-below keeps k n below keep in
          let inside : k < length earlier = omega arith in
          let placed : kept_before keeps k < length kept = omega arith in
          let (y, stands, same) = are.stands k below keep x (sym (get-before earlier (f ∷ []) k inside) ∙ there) in
          (y, get-before kept (g ∷ []) (kept_before keeps k) placed ∙ stands, same)
      by k keep (inr at) x there =
          let end : length earlier ≡ k = are.count ∙ sym at in
          let place : kept_before keeps k ≡ length kept = ap (kept_before keeps) at ∙ sym are.kept_count in
          let it : Some f ≡ Some x = sym (get-last earlier f) ∙ ap (slice_get (earlier ++ f ∷ [])) end ∙ there in
          (g, ap (slice_get (kept ++ g ∷ [])) place ∙ get-last kept g, ap (λ (o : Option PureTree). length (unwrap_or o f).params) it)

  leave-one : (n : ℕ) (earlier kept : List PureTree) (f : PureTree) → AreStanding n earlier kept → keeps n ≡ false →
      AreStanding (suc n) (earlier ++ f ∷ []) kept
  leave-one n earlier kept f are is =
      let count = are.count in
      let kept_count = are.kept_count in
      let next = dropped-next keeps n is in record {
        count = omega (arith, length-append earlier (f ∷ []));
        kept_count = omega arith;
        stands = λ k below keep. by k keep (below-or-at k n below);
        names = λ name none. are.names name (none-left earlier (f ∷ []) name none);
      }
    where
      by : (k : ℕ) → keeps k ≡ true → (k < n) ⊎ (k ≡ n) → Stands (kept_before keeps) (earlier ++ f ∷ []) kept k
      by k keep (inl below) x there =
          let count = are.count in
          let inside : k < length earlier = omega arith in
          are.stands k below keep x (sym (get-before earlier (f ∷ []) k inside) ∙ there)
      by k keep (inr at) x there = absurd (let wrong : ⊥ = cc (sym keep ∙ ap keeps at ∙ is) in wrong)

  standing-all : (fs : List PureTree) (n : ℕ) (earlier kept : List PureTree) → AreStanding n earlier kept →
      AreStanding (n + length fs) (earlier ++ fs) (kept ++ kept_pures n fs)
  standing-all [] n earlier kept are =
      let same : n ≡ n + 0 = omega arith in
      subst (λ m. AreStanding m (earlier ++ []) (kept ++ [])) same
      (subst (λ xs. AreStanding n xs (kept ++ [])) (sym (append-nil earlier))
      (subst (AreStanding n earlier) (sym (append-nil kept)) are))
  standing-all (f ∷ fs) n earlier kept are =
      by (keeps n) refl (λ some are_some. standing-all fs (suc n) (earlier ++ f ∷ []) some are_some)
    where
      by : (b : Bool) → keeps n ≡ b →
          ((some : List PureTree) → AreStanding (suc n) (earlier ++ f ∷ []) some →
          AreStanding (suc n + length fs) ((earlier ++ f ∷ []) ++ fs) (some ++ kept_pures (suc n) fs)) →
          AreStanding (n + suc (length fs)) (earlier ++ f ∷ fs)
          (kept ++ map (renumbered_pure (kept_before keeps)) ((if b then f ∷ [] else []) ++ kept_from keeps (suc n) fs))
      by true is next =
          let g = renumbered_pure (kept_before keeps) f in
          let number : suc n + length fs ≡ n + suc (length fs) = omega arith in
          subst (λ m. AreStanding m (earlier ++ f ∷ fs) (kept ++ g ∷ kept_pures (suc n) fs)) number
          (subst (AreStanding (suc n + length fs) (earlier ++ f ∷ fs)) (append_assoc kept (g ∷ []) (kept_pures (suc n) fs))
          (subst (λ xs. AreStanding (suc n + length fs) xs ((kept ++ g ∷ []) ++ kept_pures (suc n) fs)) (append_assoc earlier (f ∷ []) fs)
          (next (kept ++ g ∷ []) (stand-one n earlier kept f are is))))
      by false is next =
          let number : suc n + length fs ≡ n + suc (length fs) = omega arith in
          subst (λ m. AreStanding m (earlier ++ f ∷ fs) (kept ++ kept_pures (suc n) fs)) number
          (subst (λ xs. AreStanding (suc n + length fs) xs (kept ++ kept_pures (suc n) fs)) (append_assoc earlier (f ∷ []) fs)
          (next kept (leave-one n earlier kept f are is)))

  pures-lawful : (fs : List PureTree) (n : ℕ) (earlier kept : List PureTree) → AreStanding n earlier kept → AreClosed keeps n fs →
      ArePures earlier fs →
      ArePures kept (kept_pures n fs)
  pures-lawful [] n earlier kept are closed h = tt
  pures-lawful (f ∷ fs) n earlier kept are closed h =
      by (keeps n) refl (λ some are_some. pures-lawful fs (suc n) (earlier ++ f ∷ []) some are_some closed.1 h.1)
    where
      by : (b : Bool) → keeps n ≡ b →
          ((some : List PureTree) → AreStanding (suc n) (earlier ++ f ∷ []) some → ArePures some (kept_pures (suc n) fs)) →
          ArePures kept (map (renumbered_pure (kept_before keeps)) ((if b then f ∷ [] else []) ++ kept_from keeps (suc n) fs))
      by true is next = (
        record {
          params = h.0.params;
          apart = apart-then f.params (pure_names earlier) (pure_names kept) are.names h.0.apart;
          some = h.0.some;
          body =
              expr-lawful (kept_before keeps)
              (record { pures = earlier; structs = []; procedures = []; fields = []; params = length f.params; of = 0 }) kept f.body
              (each-then (λ j. (j < n) × (keeps j ≡ true)) (Stands (kept_before keeps) earlier kept) (expr_functions f.body)
              (λ j called. are.stands j called.0 called.1) (closed.0 is))
              h.0.body;
        },
        next (kept ++ renumbered_pure (kept_before keeps) f ∷ []) (stand-one n earlier kept f are is),
      )
      by false is next = next kept (leave-one n earlier kept f are is)

  -- ---- Limits

  fewer : (fs : List PureTree) (n : ℕ) → length (kept_pures n fs) ≤ length fs
  fewer [] n = omega arith
  fewer (f ∷ fs) n = by (keeps n) (fewer fs (suc n))
    where
      by : (b : Bool) → length (kept_pures (suc n) fs) ≤ length fs →
          length (map (renumbered_pure (kept_before keeps)) ((if b then f ∷ [] else []) ++ kept_from keeps (suc n) fs)) ≤ suc (length fs)
      by true less = omega arith
      by false less = omega arith

  pures-fit : (fs : List PureTree) (n : ℕ) → AllByRecursion PureFits fs → AllByRecursion PureFits (kept_pures n fs)
  pures-fit [] n h = tt
  pures-fit (f ∷ fs) n h = by (keeps n) (pures-fit fs (suc n) h.1)
    where
      by : (b : Bool) → AllByRecursion PureFits (kept_pures (suc n) fs) →
          AllByRecursion PureFits (map (renumbered_pure (kept_before keeps)) ((if b then f ∷ [] else []) ++ kept_from keeps (suc n) fs))
      by true rest =
          (record { params = h.0.params; body = subst (λ d. d ≤ expr_limit) (sym (expr-depth (λ leaf. leaf) (kept_before keeps) (λ k. k) f.body)) h.0.body }, rest)
      by false rest = rest

-- ---- Procedures

module _ (place : ℕ → ℕ) where
  procedures-fit : (qs : List ProcedureTree) → AllByRecursion ProcedureFits qs →
      AllByRecursion ProcedureFits (map (renumbered_procedure place) qs)
  procedures-fit [] h = tt
  procedures-fit (q ∷ qs) h = (
    record {
      params = h.0.params;
      statements = subst (λ d. d ≤ stmt_limit) (sym (stmts-depth (λ leaf. leaf) place (λ k. k) q.body)) h.0.statements;
      expressions = subst (λ d. d ≤ expr_limit) (sym (stmts-exprs-depth (λ leaf. leaf) place (λ k. k) q.body)) h.0.expressions;
    },
    procedures-fit qs h.1,
  )

  chains-same : (qs : List ProcedureTree) (chains : List ℕ) → chains_of chains (map (renumbered_procedure place) qs) ≡ chains_of chains qs
  chains-same [] chains = refl
  chains-same (q ∷ qs) chains =
      ap (λ n. chains_of (chains ++ (n + 1) ∷ []) (map (renumbered_procedure place) qs)) (stmts-chain place chains q.body)
      ∙ chains-same qs (chains ++ (stmts_chain chains q.body + 1) ∷ [])

  procedures-lawful : (pures kept : List PureTree) (structs : List StructTree) →
      ((others : List (List ℕ)) (name : List ℕ) → has_name (pure_names pures ++ others) name ≡ false →
      has_name (pure_names kept ++ others) name ≡ false) →
      (qs earlier : List ProcedureTree) → AllByRecursion (λ q. AllByRecursion (Stands place pures kept) (stmts_functions q.body)) qs →
      AreProcedures pures structs earlier qs →
      AreProcedures kept structs (map (renumbered_procedure place) earlier) (map (renumbered_procedure place) qs)
  procedures-lawful pures kept structs none [] earlier called h = tt
  procedures-lawful pures kept structs none (q ∷ qs) earlier called h = (
    record {
      of = h.0.of;
      params = h.0.params;
      apart = subst (λ names. AreApart (param_names q.params) (pure_names kept ++ names)) (sym (same-names place earlier))
          (apart-then (param_names q.params) (pure_names pures ++ procedure_names earlier) (pure_names kept ++ procedure_names earlier)
          (none (procedure_names earlier)) h.0.apart);
      body =
          stmts-lawful place
          (record {
            pures = pures;
            structs = structs;
            procedures = earlier;
            fields = struct_fields structs q.of;
            params = length q.params;
            of = q.of;
          })
          kept q.body called.0 h.0.body;
    },
    subst (λ before. AreProcedures kept structs before (map (renumbered_procedure place) qs))
        (map-append (renumbered_procedure place) earlier (q ∷ []))
        (procedures-lawful pures kept structs none qs (earlier ++ q ∷ []) called.1 h.1),
  )

-- ---- The program

pub kept-lawful : (keeps : ℕ → Bool) (p : ProgramTree) → KeepsCalled keeps p → IsLawful p → IsLawful (kept_program keeps p)
kept-lawful keeps p called h =
    let place = kept_before keeps in
    let move = renumbered_procedure place in
    let kept = kept_pures keeps 0 p.pures in
    let none : AreStanding keeps 0 [] [] =
    record { count = refl; kept_count = refl; stands = λ k below keep. absurd (omega arith); names = λ name none. none } in
    let standing = subst (λ n. AreStanding keeps n p.pures kept) (zero-add (length p.pures)) (standing-all keeps p.pures 0 [] [] none) in
    record {
      functions =
          subst (λ names. AreDistinct (pure_names kept ++ names)) (sym (same-names place p.procedures))
          (distinct-kept keeps p.pures (procedure_names p.procedures) 0 h.functions);
      struct_names = h.struct_names;
      pures = pures-lawful keeps p.pures 0 [] [] none called.pures h.pures;
      structs = h.structs;
      procedures = procedures-lawful place p.pures kept p.structs (λ others name. none-kept keeps p.pures others 0 name) p.procedures []
          (all-parts (Stands place p.pures kept) (λ (q : ProcedureTree). stmts_functions q.body) p.procedures
          (each-then (λ j. (j < length p.pures) × (keeps j ≡ true)) (Stands place p.pures kept) (procedures_functions p.procedures)
          (λ j is. standing.stands j is.0 is.1) called.procedures))
          h.procedures;
      root = record {
        of = h.root.of;
        struct = h.root.struct;
        struct_there = h.root.struct_there;
        struct_name = h.root.struct_name;
        start = h.root.start;
        start_procedure = move h.root.start_procedure;
        start_there = slice_get-map move p.procedures h.root.start ∙ ap (option_map move) h.root.start_there;
        start_name = h.root.start_name;
        start_of = h.root.start_of;
        start_params = h.root.start_params;
        step = h.root.step;
        step_procedure = move h.root.step_procedure;
        step_there = slice_get-map move p.procedures h.root.step ∙ ap (option_map move) h.root.step_there;
        step_name = h.root.step_name;
        step_of = h.root.step_of;
        step_params = h.root.step_params;
      };
      chains = subst (AllByRecursion (λ n. n ≤ chain_limit)) (sym (chains-same place p.procedures [])) h.chains;
      limits = record {
        count = let less = fewer keeps p.pures 0 in let most = h.limits.count in omega (arith, less, most);
        pures = pures-fit keeps p.pures 0 h.limits.pures;
        procedures = procedures-fit place p.procedures h.limits.procedures;
      };
    }
