-- The first in order of the ways over so many rows, by a search that ends.
use Rattle.std.specs.Prelude.{◌≡◌, ℕ, zero, suc, ◌<◌, IsTrue, eqb, List, [], ◌∷◌, length, Contains, Option, Some, None, ◌⊎◌, refl}
use Rattle.std.specs.List.{list_any}
use Rattle.std.specs.Ordering.{nat_cmp, is_le}
use Rattle.std.specs.Cmp.Lexicographic.{slice_cmp}
use Rattle.std.proofs.Common.{arith, sym, subst, ◌∙◌, inl, inr, true≢false}
use Rattle.std.proofs.lemmas.Bool.{cases_Bool}
use Rattle.std.proofs.lemmas.Cmp.{nat_eq_equiv}
use Rattle.std.proofs.lemmas.Map.Views.{Contains-from_any, list_any-from_Contains, exact_unsigned_eq}
use Rattle.diagram_meaning.specs.Walk.{Walk}
use Rattle.diagram_needs.specs.Least.{IsLeastOf}
use Rattle.diagram_meaning.proofs.lemmas.ShortWalks.{first-below}
use Rattle.diagram_needs.proofs.LeastSearches.{Decided, least-found}
use Rattle.diagram_needs.proofs.LeastPathSteps.{first-less}

contains-decided : (xs : List ℕ) (x : ℕ) → Decided (Contains xs x)
contains-decided xs x = elim (cases_Bool (list_any (eqb x) xs)) [
  | inl there ↦ inr (Contains-from_any exact_unsigned_eq x xs there)
  | inr missing ↦ inl (λ h. true≢false (sym (list_any-from_Contains nat_eq_equiv x xs h) ∙ missing))
]

-- a way from row a to z over k rows
abbrev pub Way : (ℕ → List ℕ) → (z k a : ℕ) → Type 0
Way needs z k a = (path : List ℕ) × Walk needs a path z × (length path ≡ k)

-- the path is such a way, and of these the first in order
pub record IsFirstWay (needs : ℕ → List ℕ) (z k a : ℕ) (path : List ℕ) : Type 0 where
  pub walk : Walk needs a path z
  pub rows : length path ≡ k
  pub first : (other : List ℕ) → Walk needs a other z → length other ≡ k → IsTrue (is_le (slice_cmp nat_cmp path other))

-- there is no way, or a first one
abbrev pub NoneOrFirst : (ℕ → List ℕ) → (z k a : ℕ) → Type 0
NoneOrFirst needs z k a = (Way needs z k a → ⊥) ⊎ ((path : List ℕ) × IsFirstWay needs z k a path)

pub way-decided : (needs : ℕ → List ℕ) (z k a : ℕ) → NoneOrFirst needs z k a → Decided (Way needs z k a)
way-decided needs z k a (inl none) = inl none
way-decided needs z k a (inr found) = inr (found.0, found.1.walk, found.1.rows)

module _ (needs : ℕ → List ℕ) (z : ℕ) where
  at-once : (a : ℕ) → NoneOrFirst needs z 0 a
  at-once a = elim (contains-decided (needs a) z) [
    | inl lacks ↦ inl (λ way. none lacks way.0 way.1 way.2)
    | inr need ↦ inr ([], record { walk = need; rows = refl; first = only })
  ]
    where
      none : (Contains (needs a) z → ⊥) → (path : List ℕ) → Walk needs a path z → length path ≡ 0 → ⊥
      none lacks [] w e = lacks w
      none lacks (b ∷ path) w e = absurd (omega arith)

      only : (other : List ℕ) → Walk needs a other z → length other ≡ 0 → IsTrue (is_le (slice_cmp nat_cmp [] other))
      only [] w e = refl
      only (b ∷ other) w e = absurd (omega arith)

  -- row a needs row c, from which a way leads on
  abbrev LeadsOn : (k a c : ℕ) → Type 0
  LeadsOn k a c = Contains (needs a) c × Way needs z k c

  leads_on-decided : (k a c : ℕ) → Decided (Way needs z k c) → Decided (LeadsOn k a c)
  leads_on-decided k a c way = elim (contains-decided (needs a) c) [
    | inl lacks ↦ inl (λ h. lacks h.0)
    | inr need ↦ elim way [ inl none ↦ inl (λ h. none h.1) | inr some ↦ inr (need, some) ]
  ]

  no-step : (k a : ℕ) → IsLeastOf (LeadsOn k a) None → (path : List ℕ) → Walk needs a path z → length path ≡ suc k → ⊥
  no-step k a none [] w e = absurd (omega arith)
  no-step k a none (c ∷ path) w e = none c (w.0, (path, w.1, omega arith))

  -- the first way from the least next row goes on from it
  one-step : (k a c : ℕ) (path : List ℕ) → IsLeastOf (LeadsOn k a) (Some c) → IsFirstWay needs z k c path →
      IsFirstWay needs z (suc k) a (c ∷ path)
  one-step k a c path next way = record { walk = (next.0.0, way.walk); rows = (let e = way.rows in omega arith); first = compare }
    where
      compare : (other : List ℕ) → Walk needs a other z → length other ≡ suc k → IsTrue (is_le (slice_cmp nat_cmp (c ∷ path) other))
      compare [] w e = absurd (omega arith)
      compare (d ∷ other) w e =
          first-less c d path other (next.1 d (w.0, (other, w.1, omega arith)))
          (λ same. way.first other (subst (λ b. Walk needs b other z) (sym same) w.1) (omega arith))

  from-next : (k a : ℕ) (found : Option ℕ) → IsLeastOf (LeadsOn k a) found → ((c : ℕ) → NoneOrFirst needs z k c) →
      NoneOrFirst needs z (suc k) a
  from-next k a None none ways = inl (λ way. no-step k a none way.0 way.1 way.2)
  from-next k a (Some c) next ways = elim (ways c) [
    | inl none ↦ absurd (none next.0.1)
    | inr way ↦ inr (c ∷ way.0, one-step k a c way.0 next way.1)
  ]

  -- only rows below n need others
  module _ (n : ℕ) (bounded : (b c : ℕ) → Contains (needs b) c → b < n) where
    pub first-way : (k a : ℕ) → NoneOrFirst needs z k a
    first-way zero a = at-once a
    first-way (suc k) a =
        let next = least-found (LeadsOn k a) (λ c. leads_on-decided k a c (way-decided needs z k c (first-way k c))) n
        (λ c h. first-below needs z n bounded c h.1.0 h.1.1) in
        from-next k a next.0 next.1 (λ c. first-way k c)
