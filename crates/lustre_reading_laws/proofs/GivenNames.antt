-- How often places are given: each name that equations give has a place of the node, after its inputs, and none twice.
use Rattle.std.proofs.Common.{◌≡◌, ◌⊎◌, inl, inr, refl, sym, ◌∙◌, ap, subst, ℕ, ◌+◌, ◌<◌, ◌≤◌, List, [], ◌∷◌, ◌++◌, length, filter, Some, Ok, Bool, true, false, not, ◌||◌, cond, ◌==◌, nat_le, bytes_eq, arith, leb-true, eqb-true, eq-eqb, length-append, append_assoc, append-nil}
use Rattle.std.specs.List.{AllByRecursion, position_from, list_any}
use Rattle.std.proofs.lemmas.Bool.{not-true, and_parts, or_parts, or_cases}
use Rattle.std.proofs.lemmas.List.Elements.{filter-append}
use Rattle.std.proofs.lemmas.Slice.Eq.{bytes_eq-Decides}
use Rattle.c_syntax.specs.declared.fault.CKind.TheVariants.{Name}
use Rattle.c_syntax.specs.Outputs.{has_name}
use Rattle.base_core.specs.Results.{◌>>=◌, ◌>>◌}
use Rattle.c_rules.specs.Resolve.{unless_fault}
use Rattle.c_rules.proofs.lemmas.Resolved.{ok-same, bind-parts, then-parts, unless-ok, named-ok}
use Rattle.lustre_syntax.specs.Tree.{texts_of}
use Rattle.lustre_rules.specs.Resolve.{Scope, place_named, may_be_given, resolve_given, resolve_all_given}
use Rattle.lustre_reading_laws.proofs.ResolvedValues.{place-within}

-- how often a place is given
abbrev pub times : ℕ → List ℕ → ℕ
times k ks = length (filter (λ j. j == k) ks)

pub times-append : (k : ℕ) (ks js : List ℕ) → times k (ks ++ js) ≡ times k ks + times k js
times-append k ks js = ap length (filter-append (λ j. j == k) ks js) ∙ length-append (filter (λ j. j == k) ks) (filter (λ j. j == k) js)

times-none : (k : ℕ) (ks : List ℕ) → list_any (λ j. j == k) ks ≡ false → times k ks ≡ 0
times-none k [] h = refl
times-none k (j ∷ ks) h = by (j == k) (or_parts (j == k) (list_any (λ i. i == k) ks) h).0 (times-none k ks (or_parts (j == k) (list_any (λ i. i == k) ks) h).1)
  where
    by : (b : Bool) → b ≡ false → times k ks ≡ 0 → length (cond b (j ∷ filter (λ i. i == k) ks) (filter (λ i. i == k) ks)) ≡ 0
    by true e later = cc
    by false e later = later

-- places from a bound on are none below it
pub times-below : (bound k : ℕ) (ks : List ℕ) → AllByRecursion (λ j. bound ≤ j) ks → k < bound → times k ks ≡ 0
times-below bound k [] all below = refl
times-below bound k (j ∷ ks) all below = by (j == k) refl (times-below bound k ks all.1 below)
  where
    by : (b : Bool) → (j == k) ≡ b → times k ks ≡ 0 → length (cond b (j ∷ filter (λ i. i == k) ks) (filter (λ i. i == k) ks)) ≡ 0
    by true e later = let same : j ≡ k = eqb-true j k e in let from : bound ≤ j = all.0 in absurd (omega arith)
    by false e later = later

-- what names get, where these places are given before
pub record IsGiven (scope : Scope) (texts : List (List ℕ)) (ks : List ℕ) : Type 0 where
  pub within : AllByRecursion (λ k. k < length scope.names) ks
  pub behind : AllByRecursion (λ k. scope.inputs ≤ k) ks
  pub once : ((k : ℕ) → times k scope.given ≤ 1) → (k : ℕ) → times k (scope.given ++ ks) ≤ 1
  pub covers : (text : List ℕ) → has_name texts text ≡ true →
      (k : ℕ) × (position_from (bytes_eq text) 0 (texts_of scope.names) ≡ Some k) × (1 ≤ times k ks)

record IsPlace (scope : Scope) (text : List ℕ) (k : ℕ) : Type 0 where
  at : position_from (bytes_eq text) 0 (texts_of scope.names) ≡ Some k
  behind : scope.inputs ≤ k
  new : list_any (λ j. j == k) scope.given ≡ false

given-place : (scope : Scope) (text : List ℕ) (k : ℕ) → resolve_given scope text ≡ Ok k → IsPlace scope text k
given-place scope text k e =
    let p : _ =
    bind-parts (place_named (texts_of scope.names) text) (λ j. unless_fault (may_be_given scope j) Name >> Ok j) k e in
    let q : _ = then-parts (unless_fault (may_be_given scope p.0) Name) (Ok p.0) k p.2 in
    let may : _ =
    and_parts (nat_le scope.inputs p.0) (not (list_any (λ j. j == p.0) scope.given))
    (unless-ok (may_be_given scope p.0) Name q.0 q.1) in
    subst (IsPlace scope text) (ok-same p.0 k q.2)
    (record {
      at = named-ok (position_from (bytes_eq text) 0 (texts_of scope.names)) p.0 p.1;
      behind = leb-true scope.inputs p.0 may.0;
      new = not-true (list_any (λ j. j == p.0) scope.given) may.1;
    })

times-one : (k j : ℕ) (ks : List ℕ) → times k (j ∷ ks) ≡ times k (j ∷ []) + times k ks
times-one k j ks = times-append k (j ∷ []) ks

times-here : (k : ℕ) → times k (k ∷ []) ≡ 1
times-here k = ap (λ b. length (cond b (k ∷ []) [])) (eq-eqb k k refl)

-- one more place, and it is new
once-more : (given : List ℕ) (j : ℕ) → list_any (λ i. i == j) given ≡ false → ((k : ℕ) → times k given ≤ 1) →
    (k : ℕ) → times k (given ++ j ∷ []) ≤ 1
once-more given j new once k = by (j == k) refl
  where
    sum : times k (given ++ j ∷ []) ≡ times k given + times k (j ∷ [])
    sum = times-append k given (j ∷ [])

    by : (b : Bool) → (j == k) ≡ b → times k (given ++ j ∷ []) ≤ 1
    by true e =
        let none : times k given ≡ 0 = subst (λ n. times n given ≡ 0) (eqb-true j k e) (times-none j given new) in
        let here : times k (j ∷ []) ≡ 1 = ap (λ b. length (cond b (j ∷ []) [])) e in
        omega (arith, sum)
    by false e =
        let here : times k (j ∷ []) ≡ 0 = ap (λ b. length (cond b (j ∷ []) [])) e in
        let before : times k given ≤ 1 = once k in
        omega (arith, sum)

same-place : (texts : List (List ℕ)) (text other : List ℕ) (k : ℕ) → bytes_eq text other ≡ true →
    position_from (bytes_eq other) 0 texts ≡ Some k → position_from (bytes_eq text) 0 texts ≡ Some k
same-place texts text other k e h = subst (λ x. position_from (bytes_eq x) 0 texts ≡ Some k) (sym ((bytes_eq-Decides text other).0 e)) h

pub one-given : (scope : Scope) (text : List ℕ) (k : ℕ) → resolve_given scope text ≡ Ok k → IsGiven scope (text ∷ []) (k ∷ [])
one-given scope text k e =
    let p : IsPlace scope text k = given-place scope text k e in
    record {
      within = (place-within scope.names text k p.at, tt);
      behind = (p.behind, tt);
      once = once-more scope.given k p.new;
      covers = λ other h. (k, same-place (texts_of scope.names) other text k (alone other h) p.at, omega (arith, times-here k));
    }
  where
    alone : (other : List ℕ) → has_name (text ∷ []) other ≡ true → bytes_eq other text ≡ true
    alone other h = by (bytes_eq other text) h
      where
        by : (b : Bool) → (b || false) ≡ true → b ≡ true
        by true h = refl
        by false h = h

pub all-given : (scope : Scope) (texts : List (List ℕ)) (ks : List ℕ) → resolve_all_given scope texts ≡ Ok ks → IsGiven scope texts ks
all-given scope [] ks e =
    subst (IsGiven scope []) (ok-same [] ks e)
    (record {
      within = tt;
      behind = tt;
      once = λ h k. subst (λ js. times k js ≤ 1) (sym (append-nil scope.given)) (h k);
      covers = λ text h. cc;
    })
all-given scope (text ∷ texts) ks e =
    let p : _ =
    bind-parts (resolve_given scope text)
    (λ k. resolve_all_given (record scope { given = scope.given ++ k ∷ [] }) texts >>= λ js. Ok (k ∷ js)) ks e in
    let q : _ = bind-parts (resolve_all_given (record scope { given = scope.given ++ p.0 ∷ [] }) texts) (λ js. Ok (p.0 ∷ js)) ks p.2 in
    let one : IsPlace scope text p.0 = given-place scope text p.0 p.1 in
    let later : IsGiven (record scope { given = scope.given ++ p.0 ∷ [] }) texts q.0 = all-given (record scope { given = scope.given ++ p.0 ∷ [] }) texts q.0 q.1 in
    subst (IsGiven scope (text ∷ texts)) (ok-same (p.0 ∷ q.0) ks q.2)
    (record {
      within = (place-within scope.names text p.0 one.at, later.within);
      behind = (one.behind, later.behind);
      once = λ h k. subst (λ js. times k js ≤ 1) (append_assoc scope.given (p.0 ∷ []) q.0)
          (later.once (once-more scope.given p.0 one.new h) k);
      covers = λ other h. covers p.0 q.0 one later other (or_cases (bytes_eq other text) (has_name texts other) h);
    })
  where
    covers : (j : ℕ) (js : List ℕ) → IsPlace scope text j → IsGiven (record scope { given = scope.given ++ j ∷ [] }) texts js →
        (other : List ℕ) → (bytes_eq other text ≡ true) ⊎ (has_name texts other ≡ true) →
        (k : ℕ) × (position_from (bytes_eq other) 0 (texts_of scope.names) ≡ Some k) × (1 ≤ times k (j ∷ js))
    covers j js one later other (inl e) = (
      j,
      same-place (texts_of scope.names) other text j e one.at,
      omega (arith, times-here j, times-one j j js),
    )
    covers j js one later other (inr e) =
        let c : _ = later.covers other e in
        let more : 1 ≤ times c.0 js = c.2 in
        (c.0, c.1, omega (arith, times-one c.0 j js))
