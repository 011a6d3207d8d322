-- Questions that have an answer: of members of lists, and of numbers.
use Rattle.std.specs.Prelude.{◌≡◌, ◌⊎◌, ◌↔◌, ℕ, zero, suc, ◌<◌, ◌≤◌, Bool, true, false, eqb, List, [], ◌∷◌, filter, Contains, refl}
use Rattle.std.specs.List.{AllByRecursion, list_any}
use Rattle.std.proofs.Common.{arith, sym, subst, ◌∙◌, inl, inr, true≢false}
use Rattle.std.proofs.lemmas.Bool.{cases_Bool, cases_lt}
use Rattle.std.proofs.lemmas.Cmp.{nat_eq_equiv}
use Rattle.std.proofs.lemmas.Map.Views.{Contains-from_any, list_any-from_Contains, exact_unsigned_eq}
use Rattle.modules_profile.proofs.lemmas.Members.{in-none, in-first, in-rest, in-cases, in-filter, of-filter}

-- it holds, or it doesn't
abbrev pub Decided : Type 0 → Type 0
Decided P = P ⊎ (P → ⊥)

-- whether it holds
abbrev pub answer : {P : Type 0} → Decided P → Bool
answer (inl holds) = true
answer (inr fails) = false

pub answer-true : {P : Type 0} (q : Decided P) → P → answer q ≡ true
answer-true (inl holds) p = refl
answer-true (inr fails) p = absurd (fails p)

pub true-answer : {P : Type 0} (q : Decided P) → answer q ≡ true → P
true-answer (inl holds) e = holds
true-answer (inr fails) e = absurd (true≢false (sym e))

pub both-decided : {P Q : Type 0} → Decided P → Decided Q → Decided (P × Q)
both-decided (inl p) (inl q) = inl (p, q)
both-decided (inl p) (inr none) = inr (λ h. none h.1)
both-decided (inr none) q = inr (λ h. none h.0)

pub same-decided : {P Q : Type 0} → (P → Q) → (Q → P) → Decided P → Decided Q
same-decided to from (inl p) = inl (to p)
same-decided to from (inr none) = inr (λ q. none (from q))

pub true-decided : (b : Bool) → Decided (b ≡ true)
true-decided true = inl refl
true-decided false = inr (λ e. true≢false (sym e))

pub contains-decided : (xs : List ℕ) (x : ℕ) → Decided (Contains xs x)
contains-decided xs x = elim (cases_Bool (list_any (eqb x) xs)) [
  | inl there ↦ inl (Contains-from_any exact_unsigned_eq x xs there)
  | inr missing ↦ inr (λ h. true≢false (sym (list_any-from_Contains nat_eq_equiv x xs h) ∙ missing))
]

-- a member of which something holds
pub any-decided : {A : Type 0} (P : A → Type 0) (xs : List A) → ((x : A) → Contains xs x → Decided (P x)) →
    Decided ((x : A) × Contains xs x × P x)
any-decided P [] each = inr (λ h. in-none h.0 h.1)
any-decided {A} P (y ∷ ys) each = by (each y (in-first y ys)) (any-decided P ys (λ x m. each x (in-rest y x ys m)))
  where
    by : Decided (P y) → Decided ((x : A) × Contains ys x × P x) → Decided ((x : A) × Contains (y ∷ ys) x × P x)
    by (inl p) later = inl (y, in-first y ys, p)
    by (inr none) (inl (x, m, p)) = inl (x, in-rest y x ys m, p)
    by (inr none) (inr no_more) = inr (λ h. elim (in-cases y h.0 ys h.1) [
      | inl same ↦ none (subst P (sym same) h.2)
      | inr more ↦ no_more (h.0, more, h.2)
    ])

-- the members of which something holds
pub kept : {A : Type 0} (P : A → Type 0) (xs : List A) → ((x : A) → Decided (P x)) →
    (ys : List A) × ((x : A) → Contains ys x ↔ (Contains xs x × P x))
kept P xs each = (
  filter (λ x. answer (each x)) xs,
  λ x. (
    λ h. let m = of-filter (λ y. answer (each y)) xs x h in (m.0, true-answer (each x) m.1),
    λ h. in-filter (λ y. answer (each y)) xs x h.0 (answer-true (each x) h.1),
  ),
)

pub all-members : {A : Type 0} (P : A → Type 0) (xs : List A) → ((x : A) → Contains xs x → P x) → AllByRecursion P xs
all-members P [] each = tt
all-members P (x ∷ xs) each = (each x (in-first x xs), all-members P xs (λ y m. each y (in-rest x y xs m)))

-- no number below n, or the least number of all
pub least-below : (P : ℕ → Type 0) → ((b : ℕ) → Decided (P b)) → (n : ℕ) →
    ((b : ℕ) → b < n → P b → ⊥) ⊎ ((b : ℕ) × P b × ((c : ℕ) → P c → b ≤ c))
least-below P each zero = inl (λ b below p. omega arith)
least-below P each (suc n) = by (least-below P each n) (each n)
  where
    by : ((b : ℕ) → b < n → P b → ⊥) ⊎ ((b : ℕ) × P b × ((c : ℕ) → P c → b ≤ c)) → Decided (P n) →
        ((b : ℕ) → b < suc n → P b → ⊥) ⊎ ((b : ℕ) × P b × ((c : ℕ) → P c → b ≤ c))
    by (inr found) last = inr found
    by (inl none) (inl p) = inr (n, p, λ c q. at_least c q)
      where
        at_least : (c : ℕ) → P c → n ≤ c
        at_least c q = elim (cases_lt c n) [ inl low ↦ absurd (none c low q) | inr high ↦ high ]
    by (inl none) (inr fails) = inl (λ b below p. elim (cases_lt b n) [
      | inl low ↦ none b low p
      | inr high ↦ let same : n ≡ b = omega arith in fails (subst P (sym same) p)
    ])
