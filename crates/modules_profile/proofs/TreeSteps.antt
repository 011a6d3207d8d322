-- Profiles of a nested system from those of its children.
use Rattle.std.specs.Prelude.{◌≡◌, ℕ, suc, ◌+◌, ◌<◌, List, [], ◌∷◌, ◌++◌, map, flat_map, length, slice_get, take, All, Option, Some, refl}
use Rattle.std.proofs.Common.{sym, ap, ap₂, subst, ◌∙◌, arith}
use Rattle.std.proofs.lemmas.List.{map-append, length-map, take_more, append-nil}
use Rattle.std.proofs.lemmas.List.Concat.{flat_map-append}
use Rattle.std.proofs.lemmas.List.Elements.{All-push, All-append, All-cons, All-contains}
use Rattle.std.proofs.lemmas.Option.{same_Some, get_or_from_slice_get}
use Rattle.diagram_meaning.specs.declared.table.Row.{Row}
use Rattle.diagram_meaning.specs.Diagram.{Diagram}
use Rattle.diagram_meaning.specs.Rows.{subsystems_of}
use Rattle.diagram_meaning.specs.Nested.{System, Systems, system, no_more, next, row_of, Agrees}
use Rattle.modules_profile.specs.SystemProfile.{SystemProfile}
use Rattle.modules_profile.specs.Functions.{IsProfileOf}
use Rattle.modules_profile.specs.NodeFacts.{AreProfiles}
use Rattle.modules_profile.specs.Systems.{listed, children_of, IsInTable}
use Rattle.modules_profile.specs.TreeProfiles.{rows_inside, rows_of_all, AreProfilesInside}
use Rattle.modules_profile.proofs.lemmas.Members.{in-at, at-below}
use Rattle.modules_profile.proofs.NestedLists.{agreed-heads, row-inside}

all-listed : (cs : Systems) → flat_map rows_inside (listed cs) ≡ rows_of_all cs
all-listed no_more = refl
all-listed (next c rest) = ap (λ rows. rows_inside c ++ rows) (all-listed rest)

row-first : (s : System) → rows_inside s ≡ row_of s ∷ flat_map rows_inside (children_of s)
row-first (system row line control own children) = ap (λ rows. row ∷ rows) (sym (all-listed children))

pub child-inside : (rows : List Row) (s : System) (i : ℕ) (c : System) → Agrees rows s →
    slice_get (children_of s) i ≡ Some c → IsInTable rows (row_of c)
child-inside rows s i c agrees at =
    row-inside row_of rows s agrees (children_of s) (agreed-heads rows s agrees) i c (at-below (children_of s) i c at)
    (sym (get_or_from_slice_get (children_of s) i c c at))

abbrev pub IsOwn : Diagram → SystemProfile → Type 0
IsOwn d p = IsProfileOf d p.row p

-- the profiles of the first children, and of all systems inside them
pub record AreFirst (d : Diagram) (s : System) (i : ℕ) (children inner : List SystemProfile) : Type 0 where
  pub rows : map (λ p. p.row) children ≡ map row_of (take i (children_of s))
  pub each : All (λ p. IsProfileOf d p.row p) children
  pub inner_rows : map (λ p. p.row) inner ≡ flat_map rows_inside (take i (children_of s))
  pub inner_each : All (λ p. IsProfileOf d p.row p) inner

module _ (d : Diagram) (s : System) where
  pub first-none : AreFirst d s 0 [] []
  first-none =
      record {
        rows = refl;
        each = λ k p below. absurd (omega arith);
        inner_rows = refl;
        inner_each = λ k p below. absurd (omega arith);
      }

  first-of : (c : System) (profiles : List SystemProfile) (p : SystemProfile) → AreProfilesInside d c profiles →
      slice_get profiles 0 ≡ Some p → (p.row ≡ row_of c) × IsProfileOf d p.row p
  first-of c [] p are at = absurd (let wrong : ⊥ = cc at in wrong)
  first-of c (q ∷ qs) p are at =
      let same : q ≡ p = same_Some q p at in
      let head : q.row ≡ row_of c = same_Some q.row (row_of c) (ap (λ rows. slice_get rows 0) (are.rows ∙ row-first c)) in
      (sym (ap (λ (x : SystemProfile). x.row) same) ∙ head, All-contains (IsOwn d) (q ∷ qs) p are.each (in-at (q ∷ qs) 0 p at))

  pub has-first : (c : System) (profiles : List SystemProfile) → AreProfilesInside d c profiles → 0 < length profiles
  has-first c profiles are =
      let many : length profiles ≡ suc (length (flat_map rows_inside (children_of c))) =
      sym (length-map profiles (λ (p : SystemProfile). p.row)) ∙ ap length (are.rows ∙ row-first c) in
      omega (arith, many)

  pub first-more : (i : ℕ) (c : System) (children inner profiles : List SystemProfile) (p : SystemProfile) →
      slice_get (children_of s) i ≡ Some c → AreProfilesInside d c profiles → slice_get profiles 0 ≡ Some p →
      AreFirst d s i children inner → AreFirst d s (i + 1) (children ++ p ∷ []) (inner ++ profiles)
  first-more i c children inner profiles p at are first before =
      let own = first-of c profiles p are first in
      let more : take (i + 1) (children_of s) ≡ take i (children_of s) ++ c ∷ [] =
      take_more (children_of s) i c (at-below (children_of s) i c at)
      ∙ ap (λ x. take i (children_of s) ++ x ∷ []) (get_or_from_slice_get (children_of s) i c c at) in
      record {
        rows = map-append (λ (q : SystemProfile). q.row) children (p ∷ [])
            ∙ ap₂ (λ (rows : List (Option ℕ)) (row : Option ℕ). rows ++ row ∷ []) before.rows own.0
            ∙ sym (ap (map row_of) more ∙ map-append row_of (take i (children_of s)) (c ∷ []));
        each = All-push (IsOwn d) children p before.each own.1;
        inner_rows = map-append (λ (q : SystemProfile). q.row) inner profiles ∙ ap₂ ◌++◌ before.inner_rows are.rows
            ∙ ap (λ rows. flat_map rows_inside (take i (children_of s)) ++ rows) (sym (append-nil (rows_inside c)))
            ∙ sym (ap (flat_map rows_inside) more ∙ flat_map-append rows_inside (take i (children_of s)) (c ∷ []));
        inner_each = All-append (IsOwn d) inner profiles before.inner_each are.each;
      }

  pub all-children : (rows : List Row) (children inner : List SystemProfile) (i : ℕ) → rows ≡ d.rows → Agrees rows s →
      take i (children_of s) ≡ children_of s → AreFirst d s i children inner → AreProfiles d (row_of s) children
  all-children rows children inner i same agrees all are = record {
    rows = are.rows ∙ ap (map row_of) all ∙ agreed-heads rows s agrees
        ∙ ap (λ (table : List Row). map Some (subsystems_of table (row_of s))) same;
    each = λ p m. All-contains (IsOwn d) children p are.each m;
  }

  pub whole : (own : SystemProfile) (children inner : List SystemProfile) (i : ℕ) →
      take i (children_of s) ≡ children_of s → AreFirst d s i children inner → IsProfileOf d (row_of s) own →
      AreProfilesInside d s (own ∷ [] ++ inner)
  whole own children inner i all are is = record {
    rows = ap₂ ◌∷◌ is.row (are.inner_rows ∙ ap (flat_map rows_inside) all) ∙ sym (row-first s);
    each = All-cons (IsOwn d) own inner (subst (λ o. IsProfileOf d o own) (sym is.row) is) are.inner_each;
  }
