-- The rows inside a subsystem are those after its own, without a gap.
use Rattle.std.specs.Prelude.{◌≡◌, ℕ, zero, suc, ◌+◌, ◌-◌, ◌≤◌, ◌<◌, Bool, true, false, ◌||◌, ◌==◌, List, [], ◌∷◌, length, Contains, Option, Some, None, ◌⊎◌}
use Rattle.std.specs.List.{range_with_len, list_any}
use Rattle.std.proofs.Common.{refl, sym, ◌∙◌, ap, subst, arith, inl, inr, true≢false, true-eqb, eq-eqb}
use Rattle.std.proofs.lemmas.Bool.{cases_lt, le-leb, leb-true, or_cases, or_right}
use Rattle.diagram_meaning.specs.declared.table.Row.{Row}
use Rattle.diagram_meaning.specs.Rows.{row_at, is_system, outward, enclosing, around, is_inside}
use Rattle.diagram_meaning.specs.WellFormed.{IsNested, IsOwner, FollowsIn}
use Rattle.diagram_meaning.proofs.lemmas.Enclosing.{enclosing-step}
use Rattle.diagram_same.specs.Interiors.{IsInterior, is_from}
use Rattle.diagram_same.specs.Same.{rows_inside}
use Rattle.diagram_same.proofs.lemmas.Ranges.{range-passes}
use Rattle.diagram_same.proofs.lemmas.Zips.{one-value}

none-outward : (rows : List Row) (n : ℕ) → outward rows None n None ≡ []
none-outward rows zero = refl
none-outward rows (suc n) = refl

among : (o : ℕ) (es : List ℕ) → Contains es o → list_any (is_system (Some o)) es ≡ true
among o [] (k, below, is) = absurd (omega arith)
among o (e ∷ es) (zero, below, is) = ap (λ t. t || list_any (is_system (Some o)) es) (eq-eqb o e (sym is))
among o (e ∷ es) (suc k, below, is) = ap (λ t. (o == e) || t) (among o es (k, omega (arith, below), is)) ∙ or_right (o == e) true refl

-- rows after e, up to a last one, are inside e
abbrev pub AllWithin : List Row → (e last : ℕ) → Type 0
AllWithin rows e last = (b : ℕ) → e < b → b < last → is_inside rows (Some e) b ≡ true

module _ (rows : List Row) (nested : IsNested rows) where
  -- row b is inside e
  abbrev pub Within : ℕ → ℕ → Type 0
  Within e b = is_inside rows (Some e) b ≡ true

  no-owner : (e b : ℕ) → (row_at rows b).owner ≡ None → is_inside rows (Some e) b ≡ false
  no-owner e b own = ap (λ o. list_any (is_system (Some e)) (enclosing rows None o)) own
      ∙ ap (list_any (is_system (Some e))) (none-outward rows (length rows))

  -- what a row is inside of, by its owner
  pub by-owner : (e b o : ℕ) → b < length rows → (row_at rows b).owner ≡ Some o →
      is_inside rows (Some e) b ≡ ((e == o) || is_inside rows (Some e) o)
  by-owner e b o below own =
      ap (λ p. list_any (is_system (Some e)) (enclosing rows None p)) own
      ∙ ap (list_any (is_system (Some e))) (enclosing-step rows None nested o
      (let (less, kind) = subst (IsOwner rows b) own (nested.owned b below) in omega arith))

  -- the owner of a row inside e is e or inside it
  pub record Owned (e b : ℕ) : Type 0 where
    pub owner : ℕ
    pub is_owner : (row_at rows b).owner ≡ Some owner
    pub before : owner < b
    pub of : (e ≡ owner) ⊎ Within e owner

  pub owned : (e b : ℕ) → b < length rows → Within e b → Owned e b
  owned e b below inside = by (row_at rows b).owner refl
    where
      by : (o : Option ℕ) → (row_at rows b).owner ≡ o → Owned e b
      by None own = absurd (true≢false (sym inside ∙ no-owner e b own))
      by (Some o) own = record {
        owner = o;
        is_owner = own;
        before = (subst (IsOwner rows b) own (nested.owned b below)).0;
        of = elim (or_cases (e == o) (is_inside rows (Some e) o) (sym (by-owner e b o below own) ∙ inside)) [
          | inl here ↦ inl (true-eqb e o (sym here))
          | inr there ↦ inr there
        ];
      }

  -- a row whose owner is e or inside it is inside e
  pub inside-by : (e b o : ℕ) → b < length rows → (row_at rows b).owner ≡ Some o → (e ≡ o) ⊎ Within e o → Within e b
  inside-by e b o below own of = by-owner e b o below own ∙ elim of [
    | inl here ↦ ap (λ n. (n == o) || is_inside rows (Some e) o) here ∙ ap (λ t. t || is_inside rows (Some e) o) (eq-eqb o o refl)
    | inr there ↦ ap (λ t. (e == o) || t) there ∙ or_right (e == o) true refl
  ]

  -- rows inside e come after it
  after-within : (n e b : ℕ) → b < n → b < length rows → Within e b → e < b
  after-within zero e b less below inside = absurd (omega arith)
  after-within (suc n) e b less below inside =
      let it = owned e b below inside in
      let before = it.before in
      elim it.of [
        | inl here ↦ subst (λ x. x < b) (sym here) before
        | inr there ↦ let up = after-within n e it.owner (omega arith) (omega arith) there in omega arith
      ]

  pub after : (e b : ℕ) → b < length rows → Within e b → e < b
  after e b below inside = after-within (suc b) e b (omega arith) below inside

  -- what is inside a row that is inside e is inside e
  through-within : (n e o b : ℕ) → b < n → b < length rows → Within e o → Within o b → Within e b
  through-within zero e o b less below outer inner = absurd (omega arith)
  through-within (suc n) e o b less below outer inner =
      let it = owned o b below inner in
      let before = it.before in
      inside-by e b it.owner below it.is_owner (inr (elim it.of [
        | inl here ↦ subst (Within e) here outer
        | inr there ↦ through-within n e o it.owner (omega arith) (omega arith) outer there
      ]))

  pub through : (e o b : ℕ) → b < length rows → Within e o → Within o b → Within e b
  through e o b below outer inner = through-within (suc b) e o b (omega arith) below outer inner

  -- of two subsystems around a row the later one is inside the other
  between-within : (n e o b : ℕ) → b < n → b < length rows → Within e b → Within o b → e ≤ o → (e ≡ o) ⊎ Within e o
  between-within zero e o b less below outer inner order = absurd (omega arith)
  between-within (suc n) e o b less below outer inner order =
      by (λ p early below_p a c. between-within n e o p early below_p a c order) (owned e b below outer) (owned o b below inner)
    where
      by : ((p : ℕ) → p < n → p < length rows → Within e p → Within o p → (e ≡ o) ⊎ Within e o) → Owned e b → Owned o b →
          (e ≡ o) ⊎ Within e o
      by earlier x y = cases x.of y.of
        where
          one : x.owner ≡ y.owner
          one = one-value x.owner y.owner (sym x.is_owner ∙ y.is_owner)

          before : x.owner < b
          before = x.before

          cases : (e ≡ x.owner) ⊎ Within e x.owner → (o ≡ y.owner) ⊎ Within o y.owner → (e ≡ o) ⊎ Within e o
          cases (inl a) (inl c) = inl (a ∙ one ∙ sym c)
          cases (inl a) (inr c) =
              let late = after o y.owner (omega (arith, before, one, below)) c in absurd (omega (arith, late, a, one, order))
          cases (inr a) (inl c) = inr (subst (Within e) (one ∙ sym c) a)
          cases (inr a) (inr c) =
              earlier x.owner (omega (arith, before, less)) (omega (arith, before, below)) a (subst (Within o) (sym one) c)

  pub between : (e o b : ℕ) → b < length rows → Within e b → Within o b → e ≤ o → (e ≡ o) ⊎ Within e o
  between e o b below outer inner order = between-within (suc b) e o b (omega arith) below outer inner order

  -- the owner of the row after b is b or around it
  follows : (b o : ℕ) → suc b < length rows → (row_at rows (suc b)).owner ≡ Some o → (o ≡ b) ⊎ Within o b
  follows b o below own = by (subst (FollowsIn rows b) own (nested.in_order b below))
    where
      by : Contains (b ∷ around rows None b) o → (o ≡ b) ⊎ Within o b
      by (zero, less, is) = inl (sym is)
      by (suc k, less, is) = inr (among o (around rows None b) (k, omega (arith, less), is))

  -- before a row inside e is e itself or another one inside it
  pub closed : (e b : ℕ) → suc b < length rows → Within e (suc b) → (e ≡ b) ⊎ Within e b
  closed e b below inside = by (owned e (suc b) below inside)
    where
      by : Owned e (suc b) → (e ≡ b) ⊎ Within e b
      by it = cases (follows b it.owner below it.is_owner) it.of
        where
          cases : (it.owner ≡ b) ⊎ Within it.owner b → (e ≡ it.owner) ⊎ Within e it.owner → (e ≡ b) ⊎ Within e b
          cases (inl last) (inl here) = inl (here ∙ last)
          cases (inl last) (inr there) = inr (subst (Within e) last there)
          cases (inr around_it) (inl here) = inr (subst (λ x. Within x b) (sym here) around_it)
          cases (inr around_it) (inr there) = inr (through e it.owner b (omega arith) there around_it)

  -- after e, or a row inside it, comes another one where its owner is e or later
  pub goes-on : (e b o : ℕ) → suc b < length rows → (e ≡ b) ⊎ Within e b → (row_at rows (suc b)).owner ≡ Some o → e ≤ o →
      Within e (suc b)
  goes-on e b o below at own order = inside-by e (suc b) o below own (cases (follows b o below own) at)
    where
      cases : (o ≡ b) ⊎ Within o b → (e ≡ b) ⊎ Within e b → (e ≡ o) ⊎ Within e o
      cases (inl last) (inl here) = inl (here ∙ sym last)
      cases (inl last) (inr there) = inr (subst (Within e) (sym last) there)
      cases (inr around_it) (inl here) = let late = after o b (omega arith) around_it in absurd (omega (arith, late, here, order))
      cases (inr around_it) (inr there) = between e o b (omega arith) there around_it order

  -- the owner of a row inside e is e or later
  pub owner-from : (e b o : ℕ) → b < length rows → Within e b → (row_at rows b).owner ≡ Some o → e ≤ o
  owner-from e b o below inside own = by (owned e b below inside)
    where
      by : Owned e b → e ≤ o
      by it =
          let one = one-value it.owner o (sym it.is_owner ∙ own) in
          let before = it.before in
          elim it.of [
            | inl here ↦ omega (arith, here, one)
            | inr there ↦ let late = after e it.owner (omega arith) there in omega (arith, late, one)
          ]

  -- after the first row that isn't inside e there is none
  pub none-behind : (e last n b : ℕ) → e < last → b ≡ last + n → b < length rows → is_inside rows (Some e) last ≡ false →
      is_inside rows (Some e) b ≡ false
  none-behind e last zero b late is below out = ap (is_inside rows (Some e)) (is ∙ omega arith) ∙ out
  none-behind e last (suc n) b late is below out =
      let here : b ≡ suc (last + n) = omega (arith, is) in
      ap (is_inside rows (Some e)) here
      ∙ by (is_inside rows (Some e) (suc (last + n))) refl (none-behind e last n (last + n) late refl (omega (arith, is, below)) out)
    where
      by : (t : Bool) → is_inside rows (Some e) (suc (last + n)) ≡ t → is_inside rows (Some e) (last + n) ≡ false → t ≡ false
      by false there before = refl
      by true there before = elim (closed e (last + n) (omega (arith, is, below)) there) [
        | inl same ↦ absurd (omega (arith, same, late))
        | inr within ↦ absurd (true≢false (sym within ∙ before))
      ]

  -- where these are all, they are the rows inside e
  pub interior : (e last : ℕ) → e < last → last ≤ length rows → AllWithin rows e last →
      (last < length rows → is_inside rows (Some e) last ≡ false) → rows_inside rows e ≡ range_with_len (e + 1) (last - (e + 1))
  interior e last late within all ends =
      range-passes (λ b. is_inside rows (Some e) b) 0 (e + 1) (e + 1) (last - (e + 1)) (length rows) (omega arith)
      (omega (arith, late, within))
      (λ b from below. before b (is_inside rows (Some e) b) refl below (omega (arith, below, late, within)))
      (λ b from below. all b (omega (arith, from)) (omega (arith, below, late)))
      (λ b from below. none-behind e last (b - last) b late (omega (arith, from, late)) (omega (arith, below))
      (ends (omega (arith, from, below, late))))
    where
      before : (b : ℕ) (t : Bool) → is_inside rows (Some e) b ≡ t → b < e + 1 → b < length rows → t ≡ false
      before b false there less below = refl
      before b true there less below = let past = after e b below there in absurd (omega (arith, past, less))

  -- how many rows are inside e, and that these come after it without a gap
  pub record Interior (e : ℕ) : Type 0 where
    pub last : ℕ
    pub late : e < last
    pub within : last ≤ length rows
    pub all : AllWithin rows e last
    pub ends : last < length rows → is_inside rows (Some e) last ≡ false

  interior-from : (fuel e last : ℕ) → e < last → last + fuel ≡ length rows → AllWithin rows e last → Interior e
  interior-from zero e last late long all = record {
    last = last;
    late = late;
    within = omega (arith, long);
    all = all;
    ends = λ less. absurd (omega (arith, less, long));
  }
  interior-from (suc fuel) e last late long all =
      by (λ more. interior-from fuel e (suc last) (omega (arith, late)) (omega (arith, long)) more) (is_inside rows (Some e) last) refl
    where
      by : (AllWithin rows e (suc last) → Interior e) → (t : Bool) → is_inside rows (Some e) last ≡ t → Interior e
      by on false out = record {
        last = last;
        late = late;
        within = omega (arith, long);
        all = all;
        ends = λ less. out;
      }
      by on true inside = on (λ b past less. elim (cases_lt b last) [
        | inl before ↦ all b past before
        | inr same ↦ subst (Within e) (omega (arith, same, less)) inside
      ])

  pub interior-of : (e : ℕ) → e < length rows → Interior e
  interior-of e below =
      interior-from (length rows - suc e) e (suc e) (omega arith) (omega (arith, below)) (λ b past less. absurd (omega (arith, past, less)))

  -- rows after e up to a last one are inside e, and one more where its owner is e or later; else they are all
  pub more-within : (e last : ℕ) → e < last → last < length rows → AllWithin rows e last →
      is_from e (row_at rows last).owner ≡ true → AllWithin rows e (last + 1)
  more-within e last late below all from b past less = elim (cases_lt b last) [
    | inl before ↦ all b past before
    | inr same ↦ subst (λ b. Within e b) (omega (arith, same, less)) (here (row_at rows last).owner refl)
  ]
    where
      here : (o : Option ℕ) → (row_at rows last).owner ≡ o → Within e last
      here None own = absurd (true≢false (sym from ∙ ap (is_from e) own))
      here (Some o) own = at last late below own (leb-true e o (sym (ap (is_from e) own) ∙ from)) all
        where
          at : (n : ℕ) → e < n → n < length rows → (row_at rows n).owner ≡ Some o → e ≤ o → AllWithin rows e n → Within e n
          at zero late below own order all = absurd (omega (arith, late))
          at (suc n) late below own order all = goes-on e n o below (elim (cases_lt e n) [
            | inl past ↦ inr (all n past (omega arith))
            | inr last ↦ inl (omega (arith, last, late))
          ]) own order

  pub ended : (e last : ℕ) → e < last → last ≤ length rows → AllWithin rows e last →
      (last < length rows → is_from e (row_at rows last).owner ≡ false) → IsInterior rows e last
  ended e last late within all ends = record {
    late = late;
    within = within;
    is_range = interior e last late within all (λ below. out below (is_inside rows (Some e) last) refl);
  }
    where
      out : last < length rows → (t : Bool) → is_inside rows (Some e) last ≡ t → t ≡ false
      out below false there = refl
      out below true there = by (owned e last below there)
        where
          by : Owned e last → true ≡ false
          by it = sym (le-leb e it.owner (owner-from e last it.owner below there it.is_owner))
              ∙ sym (ap (is_from e) it.is_owner) ∙ ends below
