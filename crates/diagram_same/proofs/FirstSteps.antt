-- The firsts of the subsystems up to a row.
use Rattle.std.specs.Prelude.{◌≡◌, ℕ, zero, suc, ◌+◌, ◌<◌, Bool, true, false, cond, List, [], ◌∷◌, ◌++◌, filter, length, Contains, ◌⊎◌}
use Rattle.std.specs.List.{AllZip, range_with_len}
use Rattle.std.proofs.Common.{refl, sym, ◌∙◌, ap, subst, arith, inl, inr, true≢false}
use Rattle.std.proofs.lemmas.Bool.{cases_lt}
use Rattle.std.proofs.lemmas.List.Elements.{AllZip-push, Contains-append_left, Contains-push, Contains-push_cases}
use Rattle.diagram_blocks.specs.Kinds.{is_subsystem}
use Rattle.diagram_meaning.specs.declared.table.Row.{Row}
use Rattle.diagram_meaning.specs.Rows.{row_at}
use Rattle.diagram_meaning.specs.Diagram.{Diagram}
use Rattle.diagram_same.specs.declared.classes.Class.{Class}
use Rattle.diagram_same.specs.Classes.{rows_of, IsClassOf, AreClassesBelow}
use Rattle.diagram_same.specs.Same.{AreSame, IsFirstOf, subsystem_rows}
use Rattle.diagram_same.proofs.SameSubsystems.{same-itself, same-turned, same-through}

-- ---- The subsystems before a row

abbrev is_subsystem_row : List Row → ℕ → Bool
is_subsystem_row rows e = is_subsystem (row_at rows e).kind

-- the subsystems of the first n rows
abbrev pub subsystems_below : List Row → ℕ → List ℕ
subsystems_below rows n = filter (is_subsystem_row rows) (range_with_len 0 n)

kept-more : (p : ℕ → Bool) (a n : ℕ) → filter p (range_with_len a (suc n)) ≡ filter p (range_with_len a n) ++ cond (p (a + n)) ((a + n) ∷ []) []
kept-more p a zero = ap (λ b. cond (p b) (b ∷ []) []) (omega arith)
kept-more p a (suc n) =
    ap (λ l. cond (p a) (a ∷ l) l) (kept-more p (a + 1) n)
    ∙ by (p a)
    ∙ ap (λ b. cond (p a) (a ∷ filter p (range_with_len (a + 1) n)) (filter p (range_with_len (a + 1) n)) ++ cond (p b) (b ∷ []) []) (omega arith)
  where
    by : (t : Bool) →
        cond t (a ∷ (filter p (range_with_len (a + 1) n) ++ cond (p (a + 1 + n)) ((a + 1 + n) ∷ []) []))
        (filter p (range_with_len (a + 1) n) ++ cond (p (a + 1 + n)) ((a + 1 + n) ∷ []) [])
        ≡ cond t (a ∷ filter p (range_with_len (a + 1) n)) (filter p (range_with_len (a + 1) n)) ++ cond (p (a + 1 + n)) ((a + 1 + n) ∷ []) []
    by true = refl
    by false = refl

none-more : (l : List ℕ) → l ++ [] ≡ l
none-more [] = refl
none-more (x ∷ l) = ap (λ l. x ∷ l) (none-more l)

below-more : (rows : List Row) (n : ℕ) → is_subsystem_row rows n ≡ true → subsystems_below rows (n + 1) ≡ subsystems_below rows n ++ n ∷ []
below-more rows n is =
    let next : n + 1 ≡ suc n = omega arith in
    ap (subsystems_below rows) next
    ∙ kept-more (is_subsystem_row rows) 0 n
    ∙ ap (λ b. subsystems_below rows n ++ cond (is_subsystem_row rows b) (b ∷ []) []) (omega arith)
    ∙ ap (λ t. subsystems_below rows n ++ cond t (n ∷ []) []) is

below-same : (rows : List Row) (n : ℕ) → is_subsystem_row rows n ≡ false → subsystems_below rows (n + 1) ≡ subsystems_below rows n
below-same rows n is =
    let next : n + 1 ≡ suc n = omega arith in
    ap (subsystems_below rows) next
    ∙ kept-more (is_subsystem_row rows) 0 n
    ∙ ap (λ b. subsystems_below rows n ++ cond (is_subsystem_row rows b) (b ∷ []) []) (omega arith)
    ∙ ap (λ t. subsystems_below rows n ++ cond t (n ∷ []) []) is
    ∙ none-more (subsystems_below rows n)

-- a subsystem is among those of more rows
is-below : (rows : List Row) (e n : ℕ) → e < n → is_subsystem_row rows e ≡ true → Contains (subsystems_below rows n) e
is-below rows e zero less is = absurd (omega (arith, less))
is-below rows e (suc n) less is =
    let next : n + 1 ≡ suc n = omega arith in
    subst (λ n. Contains (subsystems_below rows n) e) next (elim (cases_lt e n) [
      | inl before ↦ by (is_subsystem_row rows n) refl (is-below rows e n before is)
      | inr last ↦
          subst (λ n. Contains (subsystems_below rows (n + 1)) e) (omega (arith, last, less))
          (subst (λ l. Contains l e) (sym (below-more rows e is)) (Contains-push (subsystems_below rows e) e))
    ])
  where
    by : (t : Bool) → is_subsystem_row rows n ≡ t → Contains (subsystems_below rows n) e → Contains (subsystems_below rows (n + 1)) e
    by true kind found =
        subst (λ l. Contains l e) (sym (below-more rows n kind)) (Contains-append_left (subsystems_below rows n) (n ∷ []) e found)
    by false kind found = subst (λ l. Contains l e) (sym (below-same rows n kind)) found

of-below : (rows : List Row) (e n : ℕ) → Contains (subsystems_below rows n) e → is_subsystem_row rows e ≡ true
of-below rows e zero (k, below, at) = absurd (omega (arith, below))
of-below rows e (suc n) is =
    let next : suc n ≡ n + 1 = omega arith in
    by (is_subsystem_row rows n) refl (λ more. of-below rows e n more) (subst (λ n. Contains (subsystems_below rows n) e) next is)
  where
    by : (t : Bool) → is_subsystem_row rows n ≡ t → (Contains (subsystems_below rows n) e → is_subsystem_row rows e ≡ true) →
        Contains (subsystems_below rows (n + 1)) e → is_subsystem_row rows e ≡ true
    by true kind earlier is =
        elim (Contains-push_cases (subsystems_below rows n) n e (subst (λ l. Contains l e) (below-more rows n kind) is)) [
          | inl old ↦ earlier old
          | inr here ↦ subst (λ e. is_subsystem_row rows e ≡ true) here kind
        ]
    by false kind earlier is = earlier (subst (λ l. Contains l e) (below-same rows n kind) is)

-- ---- What the loop keeps

pub record AreFirstsBelow (d : Diagram) (end : ℕ) (list : List Class) (found : List ℕ) : Type 0 where
  pub classes : AreClassesBelow d end (rows_of list)
  pub firsts : AllZip (IsFirstOf d) (subsystems_below d.rows end) found

pub firsts-none : (d : Diagram) → AreFirstsBelow d 0 [] []
firsts-none d = record {
  classes = record {
    before = λ f (k, below, is). absurd (omega (arith, below));
    subsystems = λ f (k, below, is). absurd (omega (arith, below));
    all = λ g is below. absurd (omega (arith, below));
    apart = λ f g (k, below, is) two same. absurd (omega (arith, below));
  };
  firsts = tt;
}

up-to : (g n : ℕ) → g < n + 1 → (g < n) ⊎ (g ≡ n)
up-to g n less = elim (cases_lt g n) [ inl before ↦ inl before | inr last ↦ inr (omega (arith, less, last)) ]

module _ (d : Diagram) (e : ℕ) where
  -- ---- A row that is no subsystem

  below-other : (firsts : List ℕ) → is_subsystem_row d.rows e ≡ false → AreClassesBelow d e firsts → AreClassesBelow d (e + 1) firsts
  below-other firsts kind was = record {
    before = λ f is. let less = was.before f is in omega (arith, less);
    subsystems = was.subsystems;
    all = λ g is less. elim (up-to g e less) [
      | inl before ↦ was.all g is before
      | inr here ↦ absurd (true≢false (sym (subst (λ g. is_subsystem_row d.rows g ≡ true) here
          (of-below d.rows g (length d.rows) is)) ∙ kind))
    ];
    apart = was.apart;
  }

  pub firsts-other : (classes : List Class) (firsts : List ℕ) → is_subsystem_row d.rows e ≡ false → AreFirstsBelow d e classes firsts →
      AreFirstsBelow d (e + 1) classes firsts
  firsts-other classes firsts kind was = record {
    classes = below-other (rows_of classes) kind was.classes;
    firsts = subst (λ l. AllZip (IsFirstOf d) l firsts) (sym (below-same d.rows e kind)) was.firsts;
  }

  -- ---- A subsystem

  module _ (e_in : e < length d.rows) (kind : is_subsystem_row d.rows e ≡ true) where
    is-row : Contains (subsystem_rows d.rows) e
    is-row = is-below d.rows e (length d.rows) e_in kind

    -- of a class that is there
    below-found : (firsts : List ℕ) (f : ℕ) → Contains firsts f → AreSame d f e → AreClassesBelow d e firsts →
        AreClassesBelow d (e + 1) firsts
    below-found firsts f is same was = record {
      before = λ f is. let less = was.before f is in omega (arith, less);
      subsystems = was.subsystems;
      all = λ g is_row less. elim (up-to g e less) [
        | inl before ↦ was.all g is_row before
        | inr here ↦ let first = was.before f is in (f, is, omega (arith, first, here), subst (AreSame d f) (sym here) same)
      ];
      apart = was.apart;
    }

    first-found : (firsts : List ℕ) (f : ℕ) → Contains firsts f → AreSame d f e → AreClassesBelow d e firsts → IsFirstOf d e f
    first-found firsts f is same was = record {
      is_row = was.subsystems f is;
      same = same;
      first = λ g is_row also. elim (cases_lt g e) [
        | inl before ↦
            let (h, h_is, early, h_same) = was.all g is_row before in
            let one = was.apart f h is h_is
            (same-through d f e h same (same-turned d h e (same-through d h g e h_same also))) in
            omega (arith, early, one)
        | inr late ↦ let first = was.before f is in omega (arith, first, late)
      ];
    }

    -- of a class of its own
    below-new : (firsts : List ℕ) → ((f : ℕ) → Contains firsts f → AreSame d f e → ⊥) → AreClassesBelow d e firsts →
        AreClassesBelow d (e + 1) (firsts ++ e ∷ [])
    below-new firsts none was = record {
      before = λ f is. elim (Contains-push_cases firsts e f is) [
        | inl old ↦ let less = was.before f old in omega (arith, less)
        | inr here ↦ omega (arith, here)
      ];
      subsystems = λ f is. elim (Contains-push_cases firsts e f is) [
        | inl old ↦ was.subsystems f old
        | inr here ↦ subst (Contains (subsystem_rows d.rows)) here is-row
      ];
      all = λ g is_row less. elim (up-to g e less) [
        | inl before ↦
            let (h, h_is, early, h_same) = was.all g is_row before in
            (h, Contains-append_left firsts (e ∷ []) h h_is, early, h_same)
        | inr here ↦ (e, Contains-push firsts e, omega (arith, here), subst (AreSame d e) (sym here) (same-itself d e))
      ];
      apart = λ f g f_is g_is same. apart f g (Contains-push_cases firsts e f f_is) (Contains-push_cases firsts e g g_is) same;
    }
      where
        apart : (f g : ℕ) → Contains firsts f ⊎ (e ≡ f) → Contains firsts g ⊎ (e ≡ g) → AreSame d f g → f ≡ g
        apart f g (inl one) (inl two) same = was.apart f g one two same
        apart f g (inl one) (inr two) same = absurd (none f one (subst (AreSame d f) (sym two) same))
        apart f g (inr one) (inl two) same =
            absurd (none g two (same-turned d e g (subst (λ f. AreSame d f g) (sym one) same)))
        apart f g (inr one) (inr two) same = sym one ∙ two

    first-new : (firsts : List ℕ) → ((f : ℕ) → Contains firsts f → AreSame d f e → ⊥) → AreClassesBelow d e firsts → IsFirstOf d e e
    first-new firsts none was = record {
      is_row = is-row;
      same = same-itself d e;
      first = λ g is_row also. elim (cases_lt g e) [
        | inl before ↦
            let (h, h_is, early, h_same) = was.all g is_row before in
            absurd (none h h_is (same-through d h g e h_same also))
        | inr late ↦ late
      ];
    }

    pushed : (f : ℕ) (firsts : List ℕ) → IsFirstOf d e f → AllZip (IsFirstOf d) (subsystems_below d.rows e) firsts →
        AllZip (IsFirstOf d) (subsystems_below d.rows (e + 1)) (firsts ++ f ∷ [])
    pushed f firsts first was =
        subst (λ l. AllZip (IsFirstOf d) l (firsts ++ f ∷ [])) (sym (below-more d.rows e kind))
        (AllZip-push (IsFirstOf d) (subsystems_below d.rows e) firsts e f was first)

    pub firsts-more : (old new : List Class) (firsts : List ℕ) (f : ℕ) → IsClassOf d old new e f → AreFirstsBelow d e old firsts →
        AreFirstsBelow d (e + 1) new (firsts ++ f ∷ [])
    firsts-more old new firsts f (inl (found, rows)) was = record {
      classes = subst (AreClassesBelow d (e + 1)) (sym rows) (below-found (rows_of old) f found.is_first found.same was.classes);
      firsts = pushed f firsts (first-found (rows_of old) f found.is_first found.same was.classes) was.firsts;
    }
    firsts-more old new firsts f (inr (none, own, rows)) was = record {
      classes = subst (AreClassesBelow d (e + 1)) (sym rows) (below-new (rows_of old) none was.classes);
      firsts = pushed f firsts (subst (IsFirstOf d e) (sym own) (first-new (rows_of old) none was.classes)) was.firsts;
    }
