-- Which rows are inside which subsystems, by the owners of rows.
use Rattle.std.specs.Prelude.{◌≡◌, ◌⊎◌, ℕ, zero, suc, ◌<◌, Bool, true, false, not, cond, ◌&&◌, ◌||◌, ◌==◌, if◌then◌else◌, List, [], ◌∷◌, filter, length, Contains, Option, Some, None, refl}
use Rattle.std.specs.List.{list_any}
use Rattle.std.proofs.Common.{sym, ap, subst, ◌∙◌, arith, inl, inr, true≢false}
use Rattle.std.proofs.lemmas.Bool.{cases_lt, eq-eqb, ne_eqb}
use Rattle.std.proofs.lemmas.List.{get_or_past}
use Rattle.diagram_meaning.specs.declared.table.Row.{Row}
use Rattle.diagram_meaning.specs.Rows.{row_at, no_row, row_numbers, is_system, outward, enclosing, around, around_inside, is_inside}
use Rattle.diagram_blocks.specs.Kinds.{is_subsystem}
use Rattle.diagram_meaning.specs.WellFormed.{IsNested, IsOwner}
use Rattle.diagram_meaning.proofs.lemmas.Enclosing.{enclosing-step}
use Rattle.diagram_meaning.proofs.lemmas.Tests.{and-left, and-right, or-cases, eq-from}
use Rattle.modules_profile.specs.Systems.{systems_inside}
use Rattle.modules_profile.proofs.lemmas.Members.{in-filter, of-filter, in-range, of-range}

pub or-second : (a b : Bool) → b ≡ true → (a || b) ≡ true
or-second true b h = refl
or-second false b h = h

pub and-both : (a b : Bool) → a ≡ true → b ≡ true → (a && b) ≡ true
and-both true b h k = k
and-both false b h k = h

pub not-true : (b : Bool) → (b ≡ true → ⊥) → b ≡ false
not-true true no_way = absurd (no_way refl)
not-true false no_way = refl

pub none-outward : (rows : List Row) (s : Option ℕ) (n : ℕ) → outward rows s n None ≡ []
none-outward rows s zero = refl
none-outward rows s (suc n) = refl

module _ (rows : List Row) where
  -- a row without an owner is in no subsystem
  pub in-root : (k b : ℕ) → (row_at rows b).owner ≡ None → is_inside rows (Some k) b ≡ false
  in-root k b own =
      ap (λ o. list_any (is_system (Some k)) (enclosing rows None o)) own
      ∙ ap (list_any (is_system (Some k))) (none-outward rows None (length rows))

  -- what is inside a subsystem is a row of the table
  pub inside-there : (k b : ℕ) → is_inside rows (Some k) b ≡ true → b < length rows
  inside-there k b inside = elim (cases_lt b (length rows)) [
    | inl below ↦ below
    | inr past ↦ absurd (true≢false (sym inside ∙ in-root k b (ap (λ (r : Row). r.owner) (get_or_past rows b no_row past))))
  ]

  -- ---- The subsystems inside a system

  pub of-inside : (s : Option ℕ) (e : ℕ) → Contains (systems_inside rows s) e →
      (e < length rows) × (is_subsystem (row_at rows e).kind ≡ true) × (is_inside rows s e ≡ true)
  of-inside s e has =
      let kept = of-filter (λ b. is_subsystem (row_at rows b).kind && is_inside rows s b) (row_numbers rows) e has in
      let below = (of-range 0 (length rows) e kept.0).1 in (
        omega (arith, below),
        and-left (is_subsystem (row_at rows e).kind) (is_inside rows s e) kept.1,
        and-right (is_subsystem (row_at rows e).kind) (is_inside rows s e) kept.1,
      )

  pub in-inside : (s : Option ℕ) (e : ℕ) → e < length rows → is_subsystem (row_at rows e).kind ≡ true → is_inside rows s e ≡ true →
      Contains (systems_inside rows s) e
  in-inside s e below sub inside =
      in-filter (λ b. is_subsystem (row_at rows b).kind && is_inside rows s b) (row_numbers rows) e
      (in-range 0 (length rows) e (omega arith) (omega arith))
      (and-both (is_subsystem (row_at rows e).kind) (is_inside rows s e) sub inside)

  -- ---- One step outward

  module _ (nested : IsNested rows) where
    -- a row is inside what its owner is, or is inside
    pub inside-owner : (s : Option ℕ) (b g : ℕ) → (row_at rows b).owner ≡ Some g → g < length rows →
        is_inside rows s b ≡ (is_system s g || is_inside rows s g)
    inside-owner None b g own below = refl
    inside-owner (Some k) b g own below =
        ap (λ o. list_any (is_system (Some k)) (enclosing rows None o)) own
        ∙ ap (list_any (is_system (Some k))) (enclosing-step rows None nested g below)

    pub owner-is : (b g : ℕ) → b < length rows → (row_at rows b).owner ≡ Some g → (g < b) × (is_subsystem (row_at rows g).kind ≡ true)
    owner-is b g below own = subst (IsOwner rows b) own (nested.owned b below)

    -- what is inside a subsystem comes after it
    below-by : (n k b : ℕ) → b < n → b < length rows → is_inside rows (Some k) b ≡ true → k < b
    below-by zero k b few below inside = absurd (omega arith)
    below-by (suc n) k b few below inside =
        by (row_at rows b).owner refl (λ g less low. below-by n k g (omega (arith, few, less)) (omega (arith, below, less)) low)
      where
        by : (o : Option ℕ) → (row_at rows b).owner ≡ o → ((g : ℕ) → g < b → is_inside rows (Some k) g ≡ true → k < g) → k < b
        by None own next = absurd (true≢false (sym inside ∙ in-root k b own))
        by (Some g) own next =
            let less = (owner-is b g below own).0 in
            elim (or-cases (k == g) (is_inside rows (Some k) g)
            (sym (inside-owner (Some k) b g own (omega (arith, below, less))) ∙ inside)) [
              | inl here ↦ let same : k ≡ g = eq-from k g here in omega (arith, same, less)
              | inr there ↦ let low = next g less there in omega (arith, low, less)
            ]

    pub inside-below : (k b : ℕ) → is_inside rows (Some k) b ≡ true → k < b
    inside-below k b inside = below-by (suc b) k b (omega arith) (inside-there k b inside) inside

    -- a child is inside
    pub child-inside : (s : Option ℕ) (e : ℕ) → e < length rows → (row_at rows e).owner ≡ s → is_inside rows s e ≡ true
    child-inside None e below own = refl
    child-inside (Some m) e below own =
        let less = (owner-is e m below own).0 in
        inside-owner (Some m) e m own (omega (arith, below, less)) ∙ ap (λ t. t || is_inside rows (Some m) m) (eq-eqb m m refl)

    -- what is inside a system inside is inside
    inner-by : (n : ℕ) (s : Option ℕ) (e x : ℕ) → x < n → x < length rows → is_inside rows s e ≡ true → is_inside rows (Some e) x ≡ true →
        is_inside rows s x ≡ true
    inner-by zero s e x few below outer inner = absurd (omega arith)
    inner-by (suc n) s e x few below outer inner =
        by (row_at rows x).owner refl (λ g less low. inner-by n s e g (omega (arith, few, less)) (omega (arith, below, less)) outer low)
      where
        by : (o : Option ℕ) → (row_at rows x).owner ≡ o → ((g : ℕ) → g < x → is_inside rows (Some e) g ≡ true → is_inside rows s g ≡ true) →
            is_inside rows s x ≡ true
        by None own next = absurd (true≢false (sym inner ∙ in-root e x own))
        by (Some g) own next =
            let less = (owner-is x g below own).0 in
            inside-owner s x g own (omega (arith, below, less))
            ∙ or-second (is_system s g) (is_inside rows s g)
            (elim (or-cases (e == g) (is_inside rows (Some e) g)
            (sym (inside-owner (Some e) x g own (omega (arith, below, less))) ∙ inner)) [
              | inl here ↦ subst (λ z. is_inside rows s z ≡ true) (eq-from e g here) outer
              | inr there ↦ next g less there
            ])

    pub inside-inner : (s : Option ℕ) (e x : ℕ) → is_inside rows s e ≡ true → is_inside rows (Some e) x ≡ true → is_inside rows s x ≡ true
    inside-inner s e x outer inner = inner-by (suc x) s e x (omega arith) (inside-there e x inner) outer inner

    -- ---- A row is in one child of a system at most

    -- x is the subsystem e, or inside it
    abbrev pub IsUnder : ℕ → ℕ → Type 0
    IsUnder e x = (e ≡ x) ⊎ (is_inside rows (Some e) x ≡ true)

    -- no child of a system is inside another
    apart : (s : Option ℕ) (e f : ℕ) → e < length rows → f < length rows → (row_at rows e).owner ≡ s → (row_at rows f).owner ≡ s →
        is_inside rows (Some f) e ≡ true → ⊥
    apart None e f below other own its inside = true≢false (sym inside ∙ in-root f e own)
    apart (Some m) e f below other own its inside =
        let low = (owner-is e m below own).0 in
        let less = (owner-is f m other its).0 in
        elim (or-cases (f == m) (is_inside rows (Some f) m) (sym (inside-owner (Some f) e m own (omega (arith, below, low))) ∙ inside)) [
          | inl here ↦ let same : f ≡ m = eq-from f m here in omega (arith, same, less)
          | inr there ↦ let high = inside-below f m there in omega (arith, high, less)
        ]

    under-owner : (e x g : ℕ) → x < length rows → (row_at rows x).owner ≡ Some g → is_inside rows (Some e) x ≡ true → IsUnder e g
    under-owner e x g below own inside =
        let less = (owner-is x g below own).0 in
        elim (or-cases (e == g) (is_inside rows (Some e) g) (sym (inside-owner (Some e) x g own (omega (arith, below, less))) ∙ inside)) [
          | inl here ↦ inl (eq-from e g here)
          | inr there ↦ inr there
        ]

    one-by : (n : ℕ) (s : Option ℕ) (e f x : ℕ) → x < n → x < length rows → e < length rows → f < length rows → (row_at rows e).owner ≡ s →
        (row_at rows f).owner ≡ s → IsUnder e x → IsUnder f x → e ≡ f
    one-by zero s e f x few below first second own its here there = absurd (omega arith)
    one-by (suc n) s e f x few below first second own its (inl here) (inl there) = here ∙ sym there
    one-by (suc n) s e f x few below first second own its (inl here) (inr there) =
        absurd (apart s e f first second own its (subst (λ z. is_inside rows (Some f) z ≡ true) (sym here) there))
    one-by (suc n) s e f x few below first second own its (inr here) (inl there) =
        absurd (apart s f e second first its own (subst (λ z. is_inside rows (Some e) z ≡ true) (sym there) here))
    one-by (suc n) s e f x few below first second own its (inr here) (inr there) =
        by (row_at rows x).owner refl
        (λ g less one two. one-by n s e f g (omega (arith, few, less)) (omega (arith, below, less)) first second own its one two)
      where
        by : (o : Option ℕ) → (row_at rows x).owner ≡ o → ((g : ℕ) → g < x → IsUnder e g → IsUnder f g → e ≡ f) → e ≡ f
        by None is next = absurd (true≢false (sym here ∙ in-root e x is))
        by (Some g) is next = next g (owner-is x g below is).0 (under-owner e x g below is here) (under-owner f x g below is there)

    pub one-child : (s : Option ℕ) (e f x : ℕ) → x < length rows → e < length rows → f < length rows → (row_at rows e).owner ≡ s →
        (row_at rows f).owner ≡ s → IsUnder e x → IsUnder f x → e ≡ f
    one-child s e f x below first second own its here there = one-by (suc x) s e f x (omega arith) below first second own its here there

    -- ---- A subsystem inside a system is a child of it, or of a subsystem inside

    pub record IsDeeper (s : Option ℕ) (e : ℕ) : Type 0 where
      pub parent : ℕ
      pub own : (row_at rows e).owner ≡ Some parent
      pub before : parent < e
      pub has : Contains (systems_inside rows s) parent

    pub child-or-deeper : (s : Option ℕ) (e : ℕ) → e < length rows → is_inside rows s e ≡ true → ((row_at rows e).owner ≡ s) ⊎ IsDeeper s e
    child-or-deeper s e below inside = by s inside (row_at rows e).owner refl
      where
        deeper : (s : Option ℕ) (g : ℕ) → (row_at rows e).owner ≡ Some g → is_inside rows s g ≡ true → IsDeeper s e
        deeper s g own inner =
            let is = owner-is e g below own in
            let less = is.0 in
            record { parent = g; own = own; before = less; has = in-inside s g (omega (arith, below, less)) is.1 inner }

        by : (s : Option ℕ) → is_inside rows s e ≡ true → (o : Option ℕ) → (row_at rows e).owner ≡ o →
            ((row_at rows e).owner ≡ s) ⊎ IsDeeper s e
        by None inside None own = inl own
        by None inside (Some g) own = inr (deeper None g own refl)
        by (Some m) inside None own = absurd (true≢false (sym inside ∙ in-root m e own))
        by (Some m) inside (Some g) own =
            let less = (owner-is e g below own).0 in
            elim (or-cases (m == g) (is_inside rows (Some m) g)
            (sym (inside-owner (Some m) e g own (omega (arith, below, less))) ∙ inside)) [
              | inl here ↦ inl (own ∙ ap Some (sym (eq-from m g here)))
              | inr there ↦ inr (deeper (Some m) g own there)
            ]

    -- ---- The subsystems around it that are inside

    is-other : (s : Option ℕ) (e : ℕ) → is_inside rows s e ≡ true → is_system s e ≡ false
    is-other None e inside = refl
    is-other (Some m) e inside = ne_eqb m e (λ same. let low = inside-below m e inside in omega (arith, same, low))

    pub around-child : (s : Option ℕ) (e : ℕ) → e < length rows → (row_at rows e).owner ≡ s → around_inside rows s e ≡ []
    around-child None e below own =
        ap (λ o. filter (λ f. not (is_system None f)) (enclosing rows None o)) own
        ∙ ap (filter (λ f. not (is_system None f))) (none-outward rows None (length rows))
    around-child (Some m) e below own =
        let less = (owner-is e m below own).0 in
        ap (λ t. filter (λ f. not (m == f)) (if t then [] else enclosing rows (Some m) (row_at rows e).owner))
        (is-other (Some m) e (child-inside (Some m) e below own))
        ∙ ap (λ o. filter (λ f. not (m == f)) (enclosing rows (Some m) o)) own
        ∙ ap (filter (λ f. not (m == f)))
        (enclosing-step rows (Some m) nested m (omega (arith, below, less))
        ∙ ap (λ t. m ∷ (if t then [] else enclosing rows (Some m) (row_at rows m).owner)) (eq-eqb m m refl))
        ∙ ap (λ t. cond (not t) (m ∷ []) []) (eq-eqb m m refl)

    pub around-deeper : (s : Option ℕ) (e g : ℕ) → e < length rows →
        (row_at rows e).owner ≡ Some g → is_inside rows s e ≡ true → is_inside rows s g ≡ true →
        around_inside rows s e ≡ g ∷ around_inside rows s g
    around-deeper s e g below own inside inner =
        let less = (owner-is e g below own).0 in
        ap (λ t. filter (λ f. not (is_system s f)) (if t then [] else enclosing rows s (row_at rows e).owner)) (is-other s e inside)
        ∙ ap (λ o. filter (λ f. not (is_system s f)) (enclosing rows s o)) own
        ∙ ap (filter (λ f. not (is_system s f))) (enclosing-step rows s nested g (omega (arith, below, less)))
        ∙ ap (λ t. cond (not t) (g ∷ filter (λ f. not (is_system s f)) (around rows s g))
        (filter (λ f. not (is_system s f)) (around rows s g))) (is-other s g inner)
