-- The functions that were called so far in a tick, in order, and those that are left; and what acts come to, one after another.
use Rattle.std.specs.Prelude.{◌≡◌, ◌≢◌, ℕ, zero, suc, ◌+◌, ◌<◌, ◌≤◌, ◌==◌, ◌||◌, Bool, true, false, not, cond, List, [], ◌∷◌, ◌++◌, map, filter, Contains, IsPermutation, IsTrue, refl}
use Rattle.std.specs.List.{list_any, list_all, range_with_len}
use Rattle.std.proofs.Common.{sym, ap, ap₂, subst, ◌∙◌, arith, inl, inr, true≢false, eqb-true, eq-eqb, ne_eqb, append_assoc}
use Rattle.std.proofs.lemmas.Bool.{cases_eq, and_parts, or_left, or_right}
use Rattle.std.proofs.lemmas.List.{map-append}
use Rattle.std.proofs.lemmas.List.Elements.{Contains-append_left, Contains-append_right}
use Rattle.std.proofs.lemmas.List.Sorted.{IsPermutation-refl, IsPermutation-cons, IsPermutation-trans, IsPermutation-middle, IsPermutation-pop_more}
use Rattle.modules_profile.proofs.lemmas.Members.{in-none, in-first, in-cases}
use Rattle.c_semantics.specs.Machine.{LoggedCall}
use Rattle.right_relation.specs.Instances.{Act, out, update, none_called, with_called, InstanceTick}
use Rattle.right_relation.specs.Accounts.{log_along, most_along, stored_along}
use Rattle.right_linking.specs.Lives.{whole_tick}

-- whether a function is among those called, the last of them first
abbrev pub called_of : List ℕ → ℕ → Bool
called_of [] = none_called
called_of (j ∷ js) = with_called (called_of js) j

-- the first of them first
abbrev pub in_order : List ℕ → List ℕ
in_order [] = []
in_order (j ∷ js) = in_order js ++ j ∷ []

-- those of some functions that were not called
abbrev pub left_of : List ℕ → List ℕ → List ℕ
left_of functions js = filter (λ i. not (called_of js i)) functions

same-either : (a b : ℕ) → (a == b) ≡ (b == a)
same-either a b = by (a == b) refl
  where
    by : (r : Bool) → (a == b) ≡ r → r ≡ (b == a)
    by true e = sym (eq-eqb b a (sym (eqb-true a b e)))
    by false e = sym (ne_eqb b a (λ same. true≢false (sym (eq-eqb a b (sym same)) ∙ e)))

pub called-is : (js : List ℕ) (j : ℕ) → called_of js j ≡ list_any (λ i. i == j) js
called-is [] j = refl
called-is (k ∷ js) j = ap₂ (λ a b. a || b) (same-either j k) (called-is js j)

-- each of them was called, and is among them in order
pub is-called : (js : List ℕ) (j : ℕ) → Contains js j → called_of js j ≡ true
is-called [] j has = absurd (in-none j has)
is-called (k ∷ js) j has = elim (in-cases k j js has) [
  | inl same ↦ or_left (j == k) (called_of js j) (eq-eqb j k (sym same))
  | inr more ↦ or_right (j == k) (called_of js j) (is-called js j more)
]

pub among-order : (js : List ℕ) (j : ℕ) → Contains js j → Contains (in_order js) j
among-order [] j has = absurd (in-none j has)
among-order (k ∷ js) j has = elim (in-cases k j js has) [
  | inl same ↦ Contains-append_right (in_order js) (k ∷ []) j (subst (Contains (k ∷ [])) same (in-first k []))
  | inr more ↦ Contains-append_left (in_order js) (k ∷ []) j (among-order js j more)
]

-- ---- What is left

module _ (called : ℕ → Bool) (j : ℕ) where
  other-same : (i : ℕ) → i ≢ j → with_called called j i ≡ called i
  other-same i apart = ap (λ b. b || called i) (ne_eqb i j apart)

  -- after j nothing changes
  left-behind : (a n : ℕ) → j < a →
      filter (λ i. not (with_called called j i)) (range_with_len a n) ≡ filter (λ i. not (called i)) (range_with_len a n)
  left-behind a zero later = refl
  left-behind a (suc n) later =
      ap₂ (λ b xs. cond (not b) (a ∷ xs) xs) (other-same a (λ same. omega (arith, same, later)))
      (left-behind (a + 1) n (omega (arith, later)))

  -- with j there is one less
  pub left-less : (a n : ℕ) → a ≤ j → j < a + n → called j ≡ false →
      IsPermutation (filter (λ i. not (called i)) (range_with_len a n))
      (j ∷ filter (λ i. not (with_called called j i)) (range_with_len a n))
  left-less a zero low high fresh = absurd (omega (arith, low, high))
  left-less a (suc n) low high fresh = elim (cases_eq a j) [
    | inl same ↦ here same
    | inr other ↦ further other (left-less (a + 1) n (omega (arith, low, other)) (omega (arith, high)) fresh)
  ]
    where
      rest : List ℕ
      rest = range_with_len (a + 1) n

      here : a ≡ j → IsPermutation (filter (λ i. not (called i)) (a ∷ rest)) (j ∷ filter (λ i. not (with_called called j i)) (a ∷ rest))
      here same =
          let before : filter (λ i. not (called i)) (a ∷ rest) ≡ j ∷ filter (λ i. not (called i)) rest =
          ap (λ b. cond (not b) (a ∷ filter (λ i. not (called i)) rest) (filter (λ i. not (called i)) rest)) (ap called same ∙ fresh)
          ∙ ap (λ k. k ∷ filter (λ i. not (called i)) rest) same in
          let behind : filter (λ i. not (with_called called j i)) (a ∷ rest) ≡ filter (λ i. not (called i)) rest =
          ap (λ b. cond (not (b || called a)) (a ∷ filter (λ i. not (with_called called j i)) rest)
          (filter (λ i. not (with_called called j i)) rest)) (eq-eqb a j same) ∙ left-behind (a + 1) n (omega (arith, same)) in
          subst (λ xs. IsPermutation xs (j ∷ filter (λ i. not (with_called called j i)) (a ∷ rest))) (sym before)
          (subst (λ ys. IsPermutation (j ∷ filter (λ i. not (called i)) rest) (j ∷ ys)) (sym behind)
          (IsPermutation-refl (j ∷ filter (λ i. not (called i)) rest)))

      further : a ≢ j → IsPermutation (filter (λ i. not (called i)) rest) (j ∷ filter (λ i. not (with_called called j i)) rest) →
          IsPermutation (filter (λ i. not (called i)) (a ∷ rest)) (j ∷ filter (λ i. not (with_called called j i)) (a ∷ rest))
      further apart more =
          subst (λ b. IsPermutation (filter (λ i. not (called i)) (a ∷ rest))
          (j ∷ cond (not b) (a ∷ filter (λ i. not (with_called called j i)) rest) (filter (λ i. not (with_called called j i)) rest)))
          (sym (other-same a apart))
          (by (called a) more)
        where
          by : (b : Bool) → IsPermutation (filter (λ i. not (called i)) rest) (j ∷ filter (λ i. not (with_called called j i)) rest) →
              IsPermutation (cond (not b) (a ∷ filter (λ i. not (called i)) rest) (filter (λ i. not (called i)) rest))
              (j ∷ cond (not b) (a ∷ filter (λ i. not (with_called called j i)) rest) (filter (λ i. not (with_called called j i)) rest))
          by true h = h
          by false h =
              let left = filter (λ i. not (with_called called j i)) rest in
              IsPermutation-trans _ _ _ (IsPermutation-cons a _ _ h) (IsPermutation-middle (a ∷ []) j left)

-- the next of the functions is called
pub one-more : (functions js left : List ℕ) (j : ℕ) → IsPermutation functions (in_order js ++ left_of functions js) →
    IsPermutation (left_of functions js) (j ∷ left) → IsPermutation functions (in_order (j ∷ js) ++ left)
one-more functions js left j order next = IsPermutation-pop_more functions (in_order js) (left_of functions js) left j order next

-- none is left
pub none-left : (functions js : List ℕ) → IsTrue (list_all (λ j. list_any (λ i. i == j) js) functions) → left_of functions js ≡ []
none-left [] js all = refl
none-left (j ∷ functions) js all =
    let both = and_parts (list_any (λ i. i == j) js) (list_all (λ k. list_any (λ i. i == k) js) functions) all in
    ap (λ b. cond (not b) (j ∷ left_of functions js) (left_of functions js)) (called-is js j ∙ both.0) ∙ none-left functions js both.1

-- ---- Acts one after another

-- the acts so far, with further ones after them
abbrev pub so_far : List ℕ → List Act → List Act
so_far js more = map out (in_order js) ++ more

pub so-far-next : (js : List ℕ) (j : ℕ) (more : List Act) → so_far (j ∷ js) more ≡ so_far js (out j ∷ more)
so-far-next js j more =
    ap (λ acts. acts ++ more) (map-append out (in_order js) (j ∷ [])) ∙ append_assoc (map out (in_order js)) (out j ∷ []) more

-- a whole tick that begins with them
pub whole-from : (js left : List ℕ) → whole_tick (in_order js ++ left) ≡ so_far js (map out left ++ update ∷ [])
whole-from js left =
    ap (λ acts. acts ++ update ∷ []) (map-append out (in_order js) left) ∙ append_assoc (map out (in_order js)) (map out left) (update ∷ [])

module _ (i : InstanceTick) where
  -- the steps of what comes after them are among all
  pub most-behind : (js : List ℕ) (more : List Act) → most_along i (called_of js) more ≤ most_along i none_called (so_far js more)
  most-behind [] more = omega arith
  most-behind (j ∷ js) more =
      let rest = most-behind js (out j ∷ more) in
      subst (λ acts. most_along i (with_called (called_of js) j) more ≤ most_along i none_called acts) (sym (so-far-next js j more))
      (omega (arith, rest))

  -- the log so far, and how often at most a field was stored so far
  abbrev pub IsLogOf : List ℕ → List LoggedCall → Type 0
  IsLogOf js log = (more : List Act) → log_along i none_called (so_far js more) ≡ log ++ log_along i (called_of js) more

  abbrev pub IsStoredBy : List ℕ → (List ℕ → ℕ → ℕ) → Type 0
  IsStoredBy js stored = (more : List Act) (path : List ℕ) (field : ℕ) →
      stored path field + stored_along i (called_of js) more path field ≤ stored_along i none_called (so_far js more) path field

  pub log-next : (js : List ℕ) (j : ℕ) (log : List LoggedCall) → IsLogOf js log → IsLogOf (j ∷ js) (log ++ i.log (called_of js) (out j))
  log-next js j log is more =
      ap (log_along i none_called) (so-far-next js j more) ∙ is (out j ∷ more)
      ∙ sym (append_assoc log (i.log (called_of js) (out j)) (log_along i (with_called (called_of js) j) more))

  pub stored-next : (js : List ℕ) (j : ℕ) (stored : List ℕ → ℕ → ℕ) → IsStoredBy js stored →
      IsStoredBy (j ∷ js) (λ path field. stored path field + i.stored (called_of js) (out j) path field)
  stored-next js j stored is more path field =
      let all = is (out j ∷ more) path field in
      subst (λ acts. stored path field + i.stored (called_of js) (out j) path field + stored_along i
      (with_called (called_of js) j) more path field ≤ stored_along i none_called acts path field)
      (sym (so-far-next js j more)) (omega (arith, all))
