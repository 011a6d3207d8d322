-- Logs by paths: what is logged inside a field, and elsewhere.
use Rattle.std.specs.Prelude.{◌≡◌, ℕ, Bool, true, false, ◌==◌, cond, List, [], ◌∷◌, ◌++◌, map, filter, refl}
use Rattle.std.proofs.Common.{sym, ap, ◌∙◌, inl, inr}
use Rattle.std.proofs.lemmas.Bool.{cases_Bool, eq-eqb}
use Rattle.std.proofs.lemmas.List.{map-append}
use Rattle.std.proofs.lemmas.List.Elements.{filter-append}
use Rattle.c_semantics.specs.Machine.{LoggedCall}
use Rattle.right_relation.specs.Instances.{same_path, calls_at, calls_inside}

pub calls-append : (path : List ℕ) (xs ys : List LoggedCall) → calls_at path (xs ++ ys) ≡ calls_at path xs ++ calls_at path ys
calls-append path xs ys =
    ap (map (λ (c : LoggedCall). c.procedure)) (filter-append (λ (c : LoggedCall). same_path path c.path) xs ys)
    ∙ map-append (λ (c : LoggedCall). c.procedure) (filter (λ (c : LoggedCall). same_path path c.path) xs)
    (filter (λ (c : LoggedCall). same_path path c.path) ys)

-- the calls at a path are those at its rest, seen from its first field
pub calls-inside : (f : ℕ) (path : List ℕ) (log : List LoggedCall) → calls_at (f ∷ path) log ≡ calls_at path (calls_inside f log)
calls-inside f path [] = refl
calls-inside f path (c ∷ log) = by c.path c.procedure (calls-inside f path log)
  where
    by : (q : List ℕ) (k : ℕ) → calls_at (f ∷ path) log ≡ calls_at path (calls_inside f log) →
        calls_at (f ∷ path) (record { path = q; procedure = k } ∷ log)
        ≡ calls_at path (calls_inside f (record { path = q; procedure = k } ∷ log))
    by [] k later = later
    by (g ∷ q) k later = elim (cases_Bool (f == g)) [
      | inl same ↦ rw same (first (same_path path q))
      | inr apart ↦ rw apart later
    ]
      where
        first : (t : Bool) → map (λ (c : LoggedCall). c.procedure)
            (cond t (record { path = g ∷ q; procedure = k } ∷ filter (λ (c : LoggedCall). same_path (f ∷ path) c.path) log)
            (filter (λ (c : LoggedCall). same_path (f ∷ path) c.path) log))
            ≡ map (λ (c : LoggedCall). c.procedure)
            (cond t (record { path = q; procedure = k } ∷ filter (λ (c : LoggedCall). same_path path c.path) (calls_inside f log))
            (filter (λ (c : LoggedCall). same_path path c.path) (calls_inside f log)))
        first true = ap (λ ks. k ∷ ks) later
        first false = later

-- a log without own calls and without any inside is empty
pub none-logged : (log : List LoggedCall) → calls_at [] log ≡ [] → ((f : ℕ) → calls_inside f log ≡ []) → log ≡ []
none-logged [] here inside = refl
none-logged (c ∷ log) here inside = by c.path c.procedure here inside
  where
    by : (q : List ℕ) (k : ℕ) → calls_at [] (record { path = q; procedure = k } ∷ log) ≡ [] →
        ((f : ℕ) → calls_inside f (record { path = q; procedure = k } ∷ log) ≡ []) → record { path = q; procedure = k } ∷ log ≡ []
    by [] k here inside = absurd (let wrong : ⊥ = cc here in wrong)
    by (g ∷ q) k here inside = absurd (let e = inside g in let wrong : ⊥ = wrong e (rw (eq-eqb g g refl) refl) in wrong)
      where
        wrong : calls_inside g (record { path = g ∷ q; procedure = k } ∷ log) ≡ [] →
            calls_inside g (record { path = g ∷ q; procedure = k } ∷ log) ≡ record { path = q; procedure = k } ∷ calls_inside g log → ⊥
        wrong none some = let e : record { path = q; procedure = k } ∷ calls_inside g log ≡ [] = sym some ∙ none in let no : ⊥ = cc e in no
