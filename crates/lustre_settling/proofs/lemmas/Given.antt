-- The equations of a lawful node give each name at most once, and an input never.
use Rattle.std.specs.Prelude.{◌≡◌, ℕ, zero, suc, ◌+◌, ◌<◌, ◌≤◌, ◌==◌, ℤ, cond, if◌then◌else◌, List, [], ◌∷◌, ◌++◌, map, filter, length, slice_set, Option, None, option_map, refl}
use Rattle.std.specs.List.{AllByRecursion, flat_map, range_with_len}
use Rattle.std.proofs.Common.{sym, ap, ap₂, subst, ◌∙◌, arith, inl, inr, get_or-set_other, get_or-set_same, length-set}
use Rattle.std.proofs.lemmas.Bool.{cases_eq, cases_lt, eq-eqb, ne_eqb, lt-ltb, le-ltb}
use Rattle.lustre_syntax.specs.Tree.{EquationTree, set, call, NodeTree, node_at, given_by}
use Rattle.lustre_syntax.specs.Lawful.{IsLawfulNode, equations_wanted}
use Rattle.lustre_flows.specs.Values.{value_at, value_of, evaluate}
use Rattle.lustre_flows.specs.Instances.{Instance, Instances, instance, values_in, first_call, later_calls, with_items, with_call, outputs_of, Pass, pass_at, pass_equations}

-- how often a name is among names
abbrev pub times : ℕ → List ℕ → ℕ
times k ks = length (filter (λ j. j == k) ks)

pub times-same : (k : ℕ) (ks : List ℕ) → times k (k ∷ ks) ≡ suc (times k ks)
times-same k ks = ap (λ t. length (cond t (k ∷ filter (λ j. j == k) ks) (filter (λ j. j == k) ks))) (eq-eqb k k refl)

pub times-other : (j k : ℕ) (ks : List ℕ) → (j ≡ k → ⊥) → times k (j ∷ ks) ≡ times k ks
times-other j k ks other = ap (λ t. length (cond t (j ∷ filter (λ j. j == k) ks) (filter (λ j. j == k) ks))) (ne_eqb j k other)

pub times-first : (j k : ℕ) (ks : List ℕ) → times k (j ∷ ks) ≡ 0 → (j ≡ k → ⊥) × (times k ks ≡ 0)
times-first j k ks none = elim (cases_eq j k) [
  | inl same ↦ let all = subst (λ i. times k (i ∷ ks) ≡ 0) same none in let one = times-same k ks in absurd (omega arith)
  | inr other ↦ (other, sym (times-other j k ks other) ∙ none)
]

times-later : (j k : ℕ) (ks : List ℕ) → times k ks ≤ times k (j ∷ ks)
times-later j k ks = elim (cases_eq j k) [
  | inl same ↦
      let one = times-same k ks in
      let all = ap (λ i. times k (i ∷ ks)) same in omega arith
  | inr other ↦ let one = times-other j k ks other in omega arith
]

pub times-append : (k : ℕ) (js ks : List ℕ) → times k (js ++ ks) ≡ times k js + times k ks
times-append k [] ks = omega arith
times-append k (j ∷ js) ks = elim (cases_eq j k) [
  | inl same ↦ subst (λ i. times k (i ∷ (js ++ ks)) ≡ times k (i ∷ js) + times k ks) (sym same)
      (let all = times-same k (js ++ ks) in let first = times-same k js in let rest = times-append k js ks in omega arith)
  | inr other ↦
      let all = times-other j k (js ++ ks) other in
      let first = times-other j k js other in
      let rest = times-append k js ks in omega arith
]

-- names below a bound, each at most once
abbrev pub AreOnce : ℕ → List ℕ → Type 0
AreOnce bound ks = (k : ℕ) → (times k ks ≤ 1) × (bound ≤ k → times k ks ≡ 0)

pub once-first : (bound k : ℕ) (ks : List ℕ) → AreOnce bound (k ∷ ks) → (k < bound) × (times k ks ≡ 0) × AreOnce bound ks
once-first bound k ks once =
    let one = times-same k ks in
    let at = once k in (
      elim (cases_lt k bound) [ inl below ↦ below | inr past ↦ let none = at.1 past in absurd (omega arith) ],
      (let most = at.0 in omega arith),
      λ j. (
        let more = times-later k j ks in let most = (once j).0 in omega arith,
        λ past. let more = times-later k j ks in let none = (once j).1 past in omega arith,
      ),
    )

pub once-append : (bound : ℕ) (js ks : List ℕ) → AreOnce bound (js ++ ks) → AreOnce bound js × AreOnce bound ks
once-append bound js ks once = (
  λ k. let both = times-append k js ks in let most = (once k).0 in
      (omega arith, λ past. let none = (once k).1 past in omega arith),
  λ k. let both = times-append k js ks in let most = (once k).0 in
      (omega arith, λ past. let none = (once k).1 past in omega arith),
)

within-bound : (bound : ℕ) (ks : List ℕ) (k : ℕ) → AllByRecursion (λ j. j < bound) ks → bound ≤ k → times k ks ≡ 0
within-bound bound [] k within past = refl
within-bound bound (j ∷ js) k within past =
    times-other j k js (λ same. let below = within.0 in absurd (omega arith)) ∙ within-bound bound js k within.1 past

each-in-range : (P : ℕ → Type 0) (a n : ℕ) → AllByRecursion P (range_with_len a n) → (k : ℕ) → k < n → P (a + k)
each-in-range P a zero all k below = absurd (omega arith)
each-in-range P a (suc n) all zero below = let same : a ≡ a + 0 = omega arith in subst P same all.0
each-in-range P a (suc n) all (suc k) below =
    let same : (a + 1) + k ≡ a + suc k = omega arith in subst P same (each-in-range P (a + 1) n all.1 k (omega arith))

module _ (earlier : List NodeTree) (n : NodeTree) (lawful : IsLawfulNode earlier n) where
  pub given-times : (k : ℕ) → k < length n.names → times k (flat_map given_by n.equations) ≡ equations_wanted n k
  given-times k below =
      let same : 0 + k ≡ k = omega arith in
      subst (λ j. times j (flat_map given_by n.equations) ≡ equations_wanted n j) same
      (each-in-range (λ j. times j (flat_map given_by n.equations) ≡ equations_wanted n j) 0 (length n.names) lawful.given k below)

  pub input-not-given : (k : ℕ) → k < n.inputs → times k (flat_map given_by n.equations) ≡ 0
  input-not-given k below =
      let ports = lawful.ports in
      given-times k (omega arith) ∙ ap (λ t. if t then 0 else 1) (lt-ltb k n.inputs below)

  pub other-given : (k : ℕ) → n.inputs ≤ k → k < length n.names → times k (flat_map given_by n.equations) ≡ 1
  other-given k past below = given-times k below ∙ ap (λ t. if t then 0 else 1) (le-ltb k n.inputs past)

  pub given-once : AreOnce (length n.names) (flat_map given_by n.equations)
  given-once k = (
    elim (cases_lt k (length n.names)) [ inl below ↦ small k below | inr past ↦ let none = none-past k past in omega arith ],
    none-past k,
  )
    where
      none-past : (k : ℕ) → length n.names ≤ k → times k (flat_map given_by n.equations) ≡ 0
      none-past k past = within-bound (length n.names) (flat_map given_by n.equations) k lawful.within past

      small : (k : ℕ) → k < length n.names → times k (flat_map given_by n.equations) ≤ 1
      small k below = elim (cases_lt k n.inputs) [
        | inl input ↦ let none = input-not-given k input in omega arith
        | inr past ↦ let one = other-given k past below in omega arith
      ]

-- ---- What a pass doesn't give keeps its value

pub items-not-given : (vs : List (Option ℤ)) (ks : List ℕ) (xs : List (Option ℤ)) (k : ℕ) → times k ks ≡ 0 →
    value_at (with_items vs ks xs) k ≡ value_at vs k
items-not-given vs [] xs k none = refl
items-not-given vs (j ∷ js) [] k none = refl
items-not-given vs (j ∷ js) (x ∷ xs) k none =
    let other = times-first j k js none in
    items-not-given (slice_set vs j x) js xs k other.1 ∙ get_or-set_other vs j k x None (λ same. other.0 (sym same))

-- and what is given has the values
pub items-given : (vs : List (Option ℤ)) (ks : List ℕ) (xs : List (Option ℤ)) → AreOnce (length vs) ks → length xs ≡ length ks →
    map (value_at (with_items vs ks xs)) ks ≡ xs
items-given vs [] [] once many = refl
items-given vs [] (x ∷ xs) once many = grind arith
items-given vs (k ∷ ks) [] once many = grind arith
items-given vs (k ∷ ks) (x ∷ xs) once many =
    let first = once-first (length vs) k ks once in
    ap₂ {C = List (Option ℤ)} (λ y ys. y ∷ ys)
    (items-not-given (slice_set vs k x) ks xs k first.1 ∙ get_or-set_same vs k x None first.0)
    (items-given (slice_set vs k x) ks xs (subst (λ n. AreOnce n ks) (sym (length-set vs k x)) first.2) (omega arith))

pub values-with-call : (c i : Instance) → values_in (with_call c i) ≡ values_in i
values-with-call c (instance vs cs) = refl

pub equations-not-given : (nodes : List NodeTree) (passes : List Pass) (before : Option (List (Option ℤ))) (cb : Option Instances)
    (vs : List (Option ℤ)) (cs : Instances) (es : List EquationTree) (k : ℕ) → times k (flat_map given_by es) ≡ 0 →
    value_at (values_in (pass_equations nodes passes before cb vs cs es)) k ≡ value_at vs k
equations-not-given nodes passes before cb vs cs [] k none = refl
equations-not-given nodes passes before cb vs cs (set line given value ∷ es) k none =
    let x = value_of (evaluate before vs value) in
    let other = times-first given k (flat_map given_by es) none in
    equations-not-given nodes passes before cb (slice_set vs given x) cs es k other.1
    ∙ get_or-set_other vs given k x None (λ same. other.0 (sym same))
equations-not-given nodes passes before cb vs cs (call line given callee arguments ∷ es) k none =
    let i = pass_at passes callee (option_map first_call cb) (map (λ e. value_of (evaluate before vs e)) arguments) (first_call cs) in
    let os = outputs_of (node_at nodes callee) i in
    let both = times-append k given (flat_map given_by es) in
    ap (λ ws. value_at ws k)
    (values-with-call i (pass_equations nodes passes before (option_map later_calls cb) (with_items vs given os) (later_calls cs) es))
    ∙ equations-not-given nodes passes before (option_map later_calls cb) (with_items vs given os) (later_calls cs) es k (omega arith)
    ∙ items-not-given vs given os k (omega arith)
