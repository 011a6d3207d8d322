-- What is inside a system: its children, and what is under one of them.
use Rattle.std.specs.Prelude.{◌≡◌, ◌⊎◌, ℕ, zero, suc, ◌<◌, ◌≤◌, true, false, not, ◌||◌, ◌==◌, cond, if◌then◌else◌, List, [], ◌∷◌, ◌++◌, map, filter, reverse, length, Option, Some, None, refl}
use Rattle.std.specs.List.{list_any}
use Rattle.std.proofs.Common.{sym, ap, subst, ◌∙◌, arith, inl, inr, true≢false, eq-eqb}
use Rattle.std.proofs.lemmas.Bool.{eqb-true, ne_eqb, or_left, or_right}
use Rattle.std.proofs.lemmas.List.{reverse-append}
use Rattle.diagram_meaning.specs.declared.table.Row.{Row}
use Rattle.diagram_meaning.specs.Rows.{row_at, is_system, outward, enclosing, around, around_inside, is_inside}
use Rattle.diagram_blocks.specs.Kinds.{is_subsystem}
use Rattle.diagram_meaning.specs.WellFormed.{IsNested, IsOwner}
use Rattle.diagram_meaning.specs.RunLaws.{IsSystemWithin}
use Rattle.diagram_meaning.proofs.lemmas.Enclosing.{enclosing-step}
use Rattle.diagram_meaning.proofs.lemmas.Tests.{or-cases}

-- row x is under subsystem e, at most k systems deep
abbrev pub Under : List Row → ℕ → ℕ → ℕ → Type 0
Under rows e zero x = ⊥
Under rows e (suc k) x = ((row_at rows x).owner ≡ Some e) ⊎ ((g : ℕ) × ((row_at rows x).owner ≡ Some g) × Under rows e k g)

-- subsystem e is a child of the system n
pub record IsChildRow (rows : List Row) (n : Option ℕ) (e : ℕ) : Type 0 where
  pub in_table : e < length rows
  pub owner : (row_at rows e).owner ≡ n
  pub subsystem : is_subsystem (row_at rows e).kind ≡ true

-- row x is under a child of the system n
pub record IsUnderChild (rows : List Row) (n : Option ℕ) (x : ℕ) : Type 0 where
  pub child : ℕ
  pub is_child : IsChildRow rows n child
  pub depth : ℕ
  pub under : Under rows child depth x

-- those of some subsystems that are inside o
abbrev inner : Option ℕ → List ℕ → List ℕ
inner o es = filter (λ k. not (is_system o k)) es

inner-kept : (o : Option ℕ) (g : ℕ) (es : List ℕ) → is_system o g ≡ false → inner o (g ∷ es) ≡ g ∷ inner o es
inner-kept o g es e = ap (λ r. cond (not r) (g ∷ inner o es) (inner o es)) e

inner-left : (o : Option ℕ) (g : ℕ) (es : List ℕ) → is_system o g ≡ true → inner o (g ∷ es) ≡ inner o es
inner-left o g es e = ap (λ r. cond (not r) (g ∷ inner o es) (inner o es)) e

none-around : (rows : List Row) → enclosing rows None None ≡ []
none-around rows = by (length rows)
  where
    by : (n : ℕ) → outward rows None n None ≡ []
    by zero = refl
    by (suc n) = refl

module _ (rows : List Row) (nested : IsNested rows) where
  pub owner-lower : (x g : ℕ) → x < length rows → (row_at rows x).owner ≡ Some g → (g < x) × (is_subsystem (row_at rows g).kind ≡ true)
  owner-lower x g below own = subst (IsOwner rows x) own (nested.owned x below)

  pub owner-below : (x g : ℕ) → x < length rows → (row_at rows x).owner ≡ Some g → g < length rows
  owner-below x g below own = let lower = (owner-lower x g below own).0 in omega (arith, lower, below)

  pub under-later : (e k x : ℕ) → x < length rows → Under rows e k x → e < x
  under-later e zero x below u = absurd u
  under-later e (suc k) x below (inl own) = (owner-lower x e below own).0
  under-later e (suc k) x below (inr (g, own, u)) =
      let lower = (owner-lower x g below own).0 in
      let rest = under-later e k g (owner-below x g below own) u in omega (arith, lower, rest)

  pub around-step : (o : Option ℕ) (x g : ℕ) → x < length rows → (row_at rows x).owner ≡ Some g → is_system o x ≡ false →
      around rows o x ≡ g ∷ around rows o g
  around-step o x g below own other =
      ap (λ r. if r then [] else enclosing rows o (row_at rows x).owner) other ∙ ap (enclosing rows o) own
      ∙ enclosing-step rows o nested g (owner-below x g below own)

  -- ---- Inside and under

  inside-step : (e x g : ℕ) → x < length rows → (row_at rows x).owner ≡ Some g →
      is_inside rows (Some e) x ≡ ((e == g) || is_inside rows (Some e) g)
  inside-step e x g below own = ap (list_any (is_system (Some e))) (around-step None x g below own refl)

  pub under-inside : (e k x : ℕ) → x < length rows → Under rows e k x → is_inside rows (Some e) x ≡ true
  under-inside e zero x below u = absurd u
  under-inside e (suc k) x below (inl own) = inside-step e x e below own ∙ or_left (e == e) (is_inside rows (Some e) e) (eq-eqb e e refl)
  under-inside e (suc k) x below (inr (g, own, u)) =
      inside-step e x g below own ∙ or_right (e == g) (is_inside rows (Some e) g) (under-inside e k g (owner-below x g below own) u)

  pub inside-under : (e m x : ℕ) → x < m → x < length rows → is_inside rows (Some e) x ≡ true → (k : ℕ) × Under rows e k x
  inside-under e zero x less below is = absurd (omega arith)
  inside-under e (suc m) x less below is = by (λ g smaller few within. inside-under e m g smaller few within) (row_at rows x).owner refl
    where
      by : ((g : ℕ) → g < m → g < length rows → is_inside rows (Some e) g ≡ true → (k : ℕ) × Under rows e k g) →
          (o : Option ℕ) → (row_at rows x).owner ≡ o → (k : ℕ) × Under rows e k x
      by deeper None own =
          absurd (true≢false (sym is ∙ ap (λ o. list_any (is_system (Some e)) (enclosing rows None o)) own
          ∙ ap (list_any (is_system (Some e))) (none-around rows)))
      by deeper (Some g) own =
          let lower = (owner-lower x g below own).0 in
          elim (or-cases (e == g) (is_inside rows (Some e) g) (sym (inside-step e x g below own) ∙ is)) [
            | inl same ↦ (1, inl (own ∙ ap Some (sym (eqb-true e g same))))
            | inr within ↦
                let rest = deeper g (omega (arith, lower, less)) (owner-below x g below own) within in
                (suc rest.0, inr (g, own, rest.1))
          ]

  under-chain : (e f k x : ℕ) → (row_at rows e).owner ≡ Some f → Under rows e k x → Under rows f (suc k) x
  under-chain e f zero x own u = absurd u
  under-chain e f (suc k) x own (inl is) = inr (e, is, inl own)
  under-chain e f (suc k) x own (inr (g, is, u)) = inr (g, is, under-chain e f k g own u)

  first-under : (n : Option ℕ) (x g : ℕ) → x < length rows → (row_at rows x).owner ≡ Some g →
      ((row_at rows g).owner ≡ n) ⊎ IsUnderChild rows n g → IsUnderChild rows n x
  first-under n x g below own (inl owned) = record {
    child = g;
    is_child = record { in_table = owner-below x g below own; owner = owned; subsystem = (owner-lower x g below own).1 };
    depth = 1;
    under = inl own;
  }
  first-under n x g below own (inr u) = record
      { child = u.child; is_child = u.is_child; depth = suc u.depth; under = inr (g, own, u.under) }

  under-root : (m x : ℕ) → x < m → x < length rows → ((row_at rows x).owner ≡ None) ⊎ IsUnderChild rows None x
  under-root zero x less below = absurd (omega arith)
  under-root (suc m) x less below = by (λ g smaller few. under-root m g smaller few) (row_at rows x).owner refl
    where
      by : ((g : ℕ) → g < m → g < length rows → ((row_at rows g).owner ≡ None) ⊎ IsUnderChild rows None g) →
          (o : Option ℕ) → (row_at rows x).owner ≡ o → ((row_at rows x).owner ≡ None) ⊎ IsUnderChild rows None x
      by deeper None own = inl own
      by deeper (Some g) own =
          let lower = (owner-lower x g below own).0 in
          inr (first-under None x g below own (deeper g (omega (arith, lower, less)) (owner-below x g below own)))

  under-system : (f k x : ℕ) → x < length rows → Under rows f k x → ((row_at rows x).owner ≡ Some f) ⊎ IsUnderChild rows (Some f) x
  under-system f zero x below u = absurd u
  under-system f (suc k) x below (inl own) = inl own
  under-system f (suc k) x below (inr (g, own, u)) = inr
      (first-under (Some f) x g below own (under-system f k g (owner-below x g below own) u))

  -- what is inside a system is a row of it, or under one of its children
  pub inside-cases : (n : Option ℕ) (x : ℕ) → x < length rows → is_inside rows n x ≡ true →
      ((row_at rows x).owner ≡ n) ⊎ IsUnderChild rows n x
  inside-cases None x below is = under-root (suc x) x (omega arith) below
  inside-cases (Some f) x below is =
      let u = inside-under f (suc x) x (omega arith) below is in under-system f u.0 x below u.1

  pub own-inside : (n : Option ℕ) (x : ℕ) → x < length rows → (row_at rows x).owner ≡ n → is_inside rows n x ≡ true
  own-inside None x below own = refl
  own-inside (Some f) x below own = under-inside f 1 x below (inl own)

  pub more-inside : (n : Option ℕ) (e k x : ℕ) → x < length rows → (row_at rows e).owner ≡ n → Under rows e k x → is_inside rows n x ≡ true
  more-inside None e k x below own u = refl
  more-inside (Some f) e k x below own u = under-inside f (suc k) x below (under-chain e f k x own u)

  -- ---- Around

  later : (n : Option ℕ) (e x : ℕ) → e < length rows → (row_at rows e).owner ≡ n → e ≤ x → is_system n x ≡ false
  later None e x below own le = refl
  later (Some f) e x below own le = ne_eqb f x (λ same. let lower = (owner-lower e f below own).0 in omega (arith, same, lower, le))

  own-around : (n : Option ℕ) (x : ℕ) → x < length rows → (row_at rows x).owner ≡ n → around_inside rows n x ≡ []
  own-around None x below own = ap (inner None) (ap (enclosing rows None) own ∙ none-around rows)
  own-around (Some f) x below own =
      ap (inner (Some f)) (around-step (Some f) x f below own (later (Some f) x x below own (omega arith)))
      ∙ inner-left (Some f) f (around rows (Some f) f) (eq-eqb f f refl)
      ∙ ap (λ r. inner (Some f) (if r then [] else enclosing rows (Some f) (row_at rows f).owner)) (eq-eqb f f refl)

  inside-around : (o : Option ℕ) (x g : ℕ) → x < length rows → (row_at rows x).owner ≡ Some g → is_system o x ≡ false →
      is_system o g ≡ false →
      around_inside rows o x ≡ g ∷ around_inside rows o g
  inside-around o x g below own other apart = ap (inner o) (around-step o x g below own other) ∙ inner-kept o g (around rows o g) apart

  under-around : (n : Option ℕ) (e k x : ℕ) → x < length rows → IsChildRow rows n e → Under rows e k x →
      around_inside rows n x ≡ around_inside rows (Some e) x ++ e ∷ []
  under-around n e zero x below child u = absurd u
  under-around n e (suc k) x below child (inl own) =
      let lower = (owner-lower x e below own).0 in
      inside-around n x e below own (later n e x child.in_table child.owner (omega (arith, lower)))
      (later n e e child.in_table child.owner (omega arith))
      ∙ ap (λ es. e ∷ es) (own-around n e child.in_table child.owner)
      ∙ sym (ap (λ es. es ++ e ∷ []) (own-around (Some e) x below own))
  under-around n e (suc k) x below child (inr (g, own, u)) =
      let lower = (owner-lower x g below own).0 in
      let inner_below = owner-below x g below own in
      let deeper = under-later e k g inner_below u in
      inside-around n x g below own (later n e x child.in_table child.owner (omega (arith, lower, deeper)))
      (later n e g child.in_table child.owner (omega (arith, deeper)))
      ∙ ap (λ es. g ∷ es) (under-around n e k g inner_below child u)
      ∙ sym (ap (λ es. es ++ e ∷ [])
      (inside-around (Some e) x g below own (ne_eqb e x (λ same. omega (arith, same, lower, deeper)))
      (ne_eqb e g (λ same. omega (arith, same, deeper)))))

  -- the way to a child, and to what is under it
  pub way-to-child : {A : Type 0} (field : ℕ → A) (n : Option ℕ) (e : ℕ) → IsChildRow rows n e →
      map field (reverse (e ∷ around_inside rows n e)) ≡ field e ∷ []
  way-to-child field n e child = ap (λ es. map field (reverse (e ∷ es))) (own-around n e child.in_table child.owner)

  pub way-through-child : {A : Type 0} (field : ℕ → A) (n : Option ℕ) (e k x : ℕ) → x < length rows → IsChildRow rows n e →
      Under rows e k x →
      map field (reverse (x ∷ around_inside rows n x)) ≡ field e ∷ map field (reverse (x ∷ around_inside rows (Some e) x))
  way-through-child field n e k x below child u =
      ap (λ es. map field (reverse (x ∷ es))) (under-around n e k x below child u)
      ∙ ap (map field) (reverse-append (x ∷ around_inside rows (Some e) x) (e ∷ []))

  -- what is from a child on is not a system around it
  pub system-before : (s n : Option ℕ) (e z : ℕ) → IsSystemWithin rows s n → IsChildRow rows n e → e ≤ z → is_system s z ≡ false
  system-before None n e z within child le = refl
  system-before (Some k) n e z within child le = by n refl within
    where
      by : (o : Option ℕ) → n ≡ o → IsSystemWithin rows (Some k) o → is_system (Some k) z ≡ false
      by None same is = absurd (let wrong : ⊥ = cc is in wrong)
      by (Some f) same is =
          let lower = (owner-lower e f child.in_table (child.owner ∙ same)).0 in
          let below = owner-below e f child.in_table (child.owner ∙ same) in
          ne_eqb k z (λ equal. elim (or-cases (k == f) (is_inside rows (Some k) f) is) [
            | inl here ↦ let one = eqb-true k f here in omega (arith, one, equal, lower, le)
            | inr inside ↦
                let u = inside-under k (suc f) f (omega arith) below inside in
                let less = under-later k u.0 f below u.1 in omega (arith, less, equal, lower, le)
          ])

module _ (rows : List Row) (nested : IsNested rows) (n : Option ℕ) where
  -- a child is under no other
  pub child-apart : (e f k : ℕ) → IsChildRow rows n e → IsChildRow rows n f → Under rows f k e → ⊥
  child-apart e f zero one two u = u
  child-apart e f (suc k) one two (inl own) =
      let lower = (owner-lower rows nested f f two.in_table (two.owner ∙ sym one.owner ∙ own)).0 in omega (arith, lower)
  child-apart e f (suc k) one two (inr (g, own, u)) =
      let at = two.owner ∙ sym one.owner ∙ own in
      let lower = (owner-lower rows nested f g two.in_table at).0 in
      let higher = under-later rows nested f k g (owner-below rows nested f g two.in_table at) u in
      omega (arith, lower, higher)

  pub one-child : (e f k j x : ℕ) → IsChildRow rows n e → IsChildRow rows n f → Under rows e k x → Under rows f j x → e ≡ f
  one-child e f zero j x one two u w = absurd u
  one-child e f (suc k) zero x one two u w = absurd w
  one-child e f (suc k) (suc j) x one two (inl a) (inl b) = let same : Some e ≡ Some f = sym a ∙ b in cc same
  one-child e f (suc k) (suc j) x one two (inl a) (inr (g, b, w)) =
      let same : Some g ≡ Some e = sym b ∙ a in let is : g ≡ e = cc same in absurd (child-apart e f j one two (subst (Under rows f j) is w))
  one-child e f (suc k) (suc j) x one two (inr (g, a, u)) (inl b) =
      let same : Some g ≡ Some f = sym a ∙ b in let is : g ≡ f = cc same in absurd (child-apart f e k two one (subst (Under rows e k) is u))
  one-child e f (suc k) (suc j) x one two (inr (g, a, u)) (inr (h, b, w)) =
      let same : Some h ≡ Some g = sym b ∙ a in let is : h ≡ g = cc same in one-child e f k j g one two u (subst (Under rows f j) is w)
