-- The systems of a tree are the root and the subsystem rows in order.
use Rattle.std.specs.Prelude.{◌≡◌, ◌⊎◌, ℕ, zero, suc, ◌+◌, ◌-◌, ◌<◌, ◌≤◌, Bool, true, false, ◌&&◌, List, [], ◌∷◌, map, length, Contains, Option, Some, None, IsTrue, refl, ⊤}
use Rattle.std.proofs.Common.{sym, ap, subst, ◌∙◌, arith, inl, inr}
use Rattle.std.proofs.lemmas.Bool.{cases_lt}
use Rattle.std.proofs.lemmas.List.Elements.{Contains-append_cases, Contains-append_left, Contains-append_right}
use Rattle.diagram_meaning.specs.declared.table.Row.{Row}
use Rattle.diagram_meaning.specs.Rows.{row_at, row_numbers, rows_of, subsystems_of, is_inside, same_system}
use Rattle.diagram_blocks.specs.Kinds.{is_subsystem}
use Rattle.diagram_meaning.specs.Nested.{System, Systems, system, no_more, next, row_of, heads, Agrees, AllAgree, AreSystemsOf}
use Rattle.diagram_meaning.specs.WellFormed.{IsNested, IsOwner}
use Rattle.modules_profile.specs.Systems.{systems, systems_inside}
use Rattle.modules_profile.specs.TreeProfiles.{rows_inside, rows_of_all}
use Rattle.modules_profile.proofs.lemmas.Members.{in-none, in-first, in-rest, in-cases, in-map, of-map, in-filter, of-filter, in-range, of-range}
use Rattle.modules_profile.proofs.lemmas.PortRows.{in-subsystems, of-subsystems}
use Rattle.modules_profile.proofs.RisingLists.{Rising, IsBelow, rising-append, rising-filter, rising-range, rising-map, one-list}
use Rattle.modules_profile.proofs.SystemsAround.{owner, above, above-first, is-before, is-outer, between}

-- the root comes first, and then the subsystem rows by number
abbrev rank : Option ℕ → ℕ
rank None = 0
rank (Some e) = suc e

and-more : (b : Bool) → b ≡ true → (b && true) ≡ true
and-more true e = refl
and-more false e = e

and-less : (b : Bool) → (b && true) ≡ true → b ≡ true
and-less true e = refl
and-less false e = e

own-in : (s : System) → Contains (rows_inside s) (row_of s)
own-in (system row line control own children) = in-first row (rows_of_all children)

head-in : (cs : Systems) (z : Option ℕ) → Contains (heads cs) z → Contains (rows_of_all cs) z
head-in no_more z h = absurd (in-none z h)
head-in (next c rest) z h = elim (in-cases (row_of c) z (heads rest) h) [
  | inl same ↦ Contains-append_left (rows_inside c) (rows_of_all rest) z (subst (Contains (rows_inside c)) same (own-in c))
  | inr more ↦ Contains-append_right (rows_inside c) (rows_of_all rest) z (head-in rest z more)
]

module _ (rows : List Row) (nested : IsNested rows) where
  abbrev IsSub : ℕ → Type 0
  IsSub e = (e < length rows) × (is_subsystem (row_at rows e).kind ≡ true)

  -- row e is inside the system o
  abbrev IsUnder : Option ℕ → ℕ → Type 0
  IsUnder None e = ⊤
  IsUnder (Some f) e = Contains (above rows nested (owner rows nested e)) f

  -- this is a subsystem inside o
  record IsInner (o z : Option ℕ) : Type 0 where
    row : ℕ
    is : z ≡ Some row
    sub : IsSub row
    under : IsUnder o row

  -- this is one of some subsystems, or inside one of them
  record IsBehind (hs : List (Option ℕ)) (z : Option ℕ) : Type 0 where
    head : ℕ
    at : Contains hs (Some head)
    row : ℕ
    is : z ≡ Some row
    sub : IsSub row
    under : (head ≡ row) ⊎ IsUnder (Some head) row

  -- these are subsystems of o
  abbrev AreOwned : Option ℕ → List (Option ℕ) → Type 0
  AreOwned o hs = (e : ℕ) → Contains hs (Some e) → IsSub e × (owner rows nested e ≡ o)

  abbrev AreSubsystems : List (Option ℕ) → Type 0
  AreSubsystems hs = (z : Option ℕ) → Contains hs z → (e : ℕ) × (z ≡ Some e) × IsSub e

  some-is : (e f : ℕ) → Some e ≡ Some f → e ≡ f
  some-is e f same = cc same

  owned-heads : (o : Option ℕ) (hs : List (Option ℕ)) → hs ≡ map Some (subsystems_of rows o) → AreOwned o hs
  owned-heads o hs same e h =
      let m = of-map Some (subsystems_of rows o) (Some e) (subst (λ xs. Contains xs (Some e)) same h) in
      let s = of-subsystems rows o e (subst (Contains (subsystems_of rows o)) (some-is m.0 e m.2) m.1) in
      ((s.0, s.2), s.1)

  sub-heads : (o : Option ℕ) (hs : List (Option ℕ)) → hs ≡ map Some (subsystems_of rows o) → AreSubsystems hs
  sub-heads o hs same z h =
      let m = of-map Some (subsystems_of rows o) z (subst (λ xs. Contains xs z) same h) in
      let s = of-subsystems rows o m.0 m.1 in
      (m.0, sym m.2, (s.0, s.2))

  rising-some : (ks : List ℕ) → Rising (λ (k : ℕ). k) ks → Rising rank (map Some ks)
  rising-some ks up = rising-map Some (λ (k : ℕ). k) rank (λ x y low. omega (arith, low)) ks up

  rising-heads : (o : Option ℕ) (hs : List (Option ℕ)) → hs ≡ map Some (subsystems_of rows o) → Rising rank hs
  rising-heads o hs same = subst (Rising rank) (sym same) (rising-some (subsystems_of rows o) (
      rising-filter (λ (k : ℕ). k) (λ b. is_subsystem (row_at rows b).kind) (rows_of rows o)
      (rising-filter (λ (k : ℕ). k) (λ b. same_system (row_at rows b).owner o) (row_numbers rows) (rising-range 0 (length rows)))
      ))

  -- ---- What is in a system

  first : (o : Option ℕ) (hs : List (Option ℕ)) (z : Option ℕ) (e : ℕ) → o ≡ Some e → IsSub e → (o ≡ z) ⊎ IsInner o z → IsBehind (o ∷ hs) z
  first o hs z e is sub (inl same) =
      record { head = e; at = subst (Contains (o ∷ hs)) is (in-first o hs); row = e; is = sym same ∙ is; sub = sub; under = inl refl }
  first o hs z e is sub (inr inner) =
      let moved : IsInner (Some e) z = subst (λ p. IsInner p z) is inner in
      record {
        head = e;
        at = subst (Contains (o ∷ hs)) is (in-first o hs);
        row = moved.row;
        is = moved.is;
        sub = moved.sub;
        under = inr moved.under;
      }

  later : (o : Option ℕ) (hs : List (Option ℕ)) (z : Option ℕ) → IsBehind hs z → IsBehind (o ∷ hs) z
  later o hs z b = record { head = b.head; at = in-rest o (Some b.head) hs b.at; row = b.row; is = b.is; sub = b.sub; under = b.under }

  under-head : (o : Option ℕ) (head row : ℕ) → IsSub head → owner rows nested head ≡ o → IsSub row →
      (head ≡ row) ⊎ IsUnder (Some head) row → IsUnder o row
  under-head None head row sub is inside h = tt
  under-head (Some f) head row sub is inside h =
      let owned : (f < head) × IsTrue (is_subsystem (row_at rows f).kind) = subst (IsOwner rows head) is (nested.owned head sub.0) in
      let few : f < length rows = (let low = owned.0 in let high = sub.0 in omega (arith, low, high)) in
      let here : IsUnder (Some f) head = subst (λ p. Contains (above rows nested p) f) (sym is) (above-first rows nested f few) in
      elim h [
        | inl same ↦ subst (IsUnder (Some f)) same here
        | inr under ↦ is-outer rows nested row head f inside.0 under here
      ]

  inner-of : (o : Option ℕ) (hs : List (Option ℕ)) (z : Option ℕ) → AreOwned o hs → IsBehind hs z → IsInner o z
  inner-of o hs z owned b =
      let head = owned b.head b.at in
      record { row = b.row; is = b.is; sub = b.sub; under = under-head o b.head b.row head.0 head.1 b.sub b.under }

  mutual
    inside : (s : System) → Agrees rows s → (z : Option ℕ) → Contains (rows_inside s) z → (row_of s ≡ z) ⊎ IsInner (row_of s) z
    inside (system row line control own children) agrees z h = elim (in-cases row z (rows_of_all children) h) [
      | inl same ↦ inl same
      | inr more ↦
          inr (inner-of row (heads children) z (owned-heads row (heads children) agrees.2)
          (behind children agrees.3 (sub-heads row (heads children) agrees.2) z more))
    ]

    behind : (cs : Systems) → AllAgree rows cs → AreSubsystems (heads cs) → (z : Option ℕ) →
        Contains (rows_of_all cs) z → IsBehind (heads cs) z
    behind no_more agree subs z h = absurd (in-none z h)
    behind (next c rest) agree subs z h = elim (Contains-append_cases (rows_inside c) (rows_of_all rest) z h) [
      | inl here ↦ let head = subs (row_of c) (in-first (row_of c) (heads rest)) in
          first (row_of c) (heads rest) z head.0 head.1 head.2 (inside c agree.0 z here)
      | inr there ↦ later (row_of c) (heads rest) z (behind rest agree.1 (λ y k. subs y (in-rest (row_of c) y (heads rest) k)) z there)
    ]

  -- ---- The order of what is in it

  low-inner : (o z : Option ℕ) → IsInner o z → rank o < rank z
  low-inner None z inner = let e : rank z ≡ suc inner.row = ap rank inner.is in omega (arith, e)
  low-inner (Some f) z inner =
      let e : rank z ≡ suc inner.row = ap rank inner.is in
      let low : f < inner.row = is-before rows nested inner.row f inner.sub.0 inner.under in
      omega (arith, e, low)

  -- what is in one of two subsystems of a system is before the other
  below-head : (e f r : ℕ) → IsSub e → IsSub f → owner rows nested f ≡ owner rows nested e → e < f → IsSub r →
      (e ≡ r) ⊎ IsUnder (Some e) r → r < f
  below-head e f r sub other same low is (inl here) = omega (arith, here, low)
  below-head e f r sub other same low is (inr under) = elim (cases_lt r f) [
    | inl less ↦ less
    | inr more ↦
        let at : Contains (above rows nested (owner rows nested f)) e =
        between rows nested (r - f) r e f (let d : f + (r - f) ≡ r = omega (arith, more) in d) is.0 low under in
        absurd (let wrong = is-before rows nested e e sub.0 (subst (λ o. Contains (above rows nested o) e) same at) in omega (arith, wrong))
  ]

  above-head : (f r : ℕ) → IsSub r → (f ≡ r) ⊎ IsUnder (Some f) r → f ≤ r
  above-head f r is (inl here) = omega (arith, here)
  above-head f r is (inr under) = let low = is-before rows nested r f is.0 under in omega (arith, low)

  apart : (o h : Option ℕ) (hs : List (Option ℕ)) (x y : Option ℕ) → AreOwned o (h ∷ hs) → IsBelow rank h hs →
      IsBehind (h ∷ []) x → IsBehind hs y → rank x < rank y
  apart o h hs x y owned low a b =
      let is : h ≡ Some a.head = elim (in-cases h (Some a.head) [] a.at) [
        | inl same ↦ same
        | inr none ↦ absurd (in-none (Some a.head) none)
      ] in
      let one = owned a.head (subst (Contains (h ∷ hs)) is (in-first h hs)) in
      let two = owned b.head (in-rest h (Some b.head) hs b.at) in
      let less : a.head < b.head = (let up = low (Some b.head) b.at in let e : rank h ≡ suc a.head = ap rank is in omega (arith, up, e)) in
      let left : a.row < b.head = below-head a.head b.head a.row one.0 two.0 (two.1 ∙ sym one.1) less a.sub a.under in
      let right : b.head ≤ b.row = above-head b.head b.row b.sub b.under in
      let e : rank x ≡ suc a.row = ap rank a.is in
      let f : rank y ≡ suc b.row = ap rank b.is in
      omega (arith, left, right, e, f)

  mutual
    rising : (s : System) → Agrees rows s → Rising rank (rows_inside s)
    rising (system row line control own children) agrees =
        let owned = owned-heads row (heads children) agrees.2 in
        let subs = sub-heads row (heads children) agrees.2 in (
          λ z h. low-inner row z (inner-of row (heads children) z owned (behind children agrees.3 subs z h)),
          rising-all row children agrees.3 owned subs (rising-heads row (heads children) agrees.2),
        )

    rising-all : (o : Option ℕ) (cs : Systems) → AllAgree rows cs → AreOwned o (heads cs) → AreSubsystems (heads cs) →
        Rising rank (heads cs) → Rising rank (rows_of_all cs)
    rising-all o no_more agree owned subs up = tt
    rising-all o (next c rest) agree owned subs up =
        let h = row_of c in
        let hs = heads rest in
        let fewer : AreSubsystems hs = λ z k. subs z (in-rest h z hs k) in
        let head = subs h (in-first h hs) in
        rising-append rank (rows_inside c) (rows_of_all rest) (rising c agree.0)
        (rising-all o rest agree.1 (λ e k. owned e (in-rest h (Some e) hs k)) fewer up.1)
        (λ x y left right. apart o h hs x y owned up.0 (first h [] x head.0 head.1 head.2 (inside c agree.0 x left))
        (behind rest agree.1 fewer y right))

  -- ---- Each subsystem is in the root

  mutual
    down : (s : System) → Agrees rows s → (z : Option ℕ) (e : ℕ) → Contains (rows_inside s) z → IsSub e →
        owner rows nested e ≡ z → Contains (rows_inside s) (Some e)
    down (system row line control own children) agrees z e h sub is =
        in-rest row (Some e) (rows_of_all children) (elim (in-cases row z (rows_of_all children) h) [
          | inl same ↦ head-in children (Some e) (subst (λ hs. Contains hs (Some e)) (sym agrees.2)
              (in-map Some (subsystems_of rows row) e (in-subsystems rows row e sub.0 (is ∙ sym same) sub.1)))
          | inr more ↦ down-all children agrees.3 z e more sub is
        ])

    down-all : (cs : Systems) → AllAgree rows cs → (z : Option ℕ) (e : ℕ) → Contains (rows_of_all cs) z → IsSub e →
        owner rows nested e ≡ z → Contains (rows_of_all cs) (Some e)
    down-all no_more agree z e h sub is = absurd (in-none z h)
    down-all (next c rest) agree z e h sub is = elim (Contains-append_cases (rows_inside c) (rows_of_all rest) z h) [
      | inl here ↦ Contains-append_left (rows_inside c) (rows_of_all rest) (Some e) (down c agree.0 z e here sub is)
      | inr there ↦ Contains-append_right (rows_inside c) (rows_of_all rest) (Some e) (down-all rest agree.1 z e there sub is)
    ]

  module _ (root : System) (are : AreSystemsOf rows root) where
    each-in : (k e : ℕ) → e < k → IsSub e → Contains (rows_inside root) (Some e)
    each-in zero e low sub = absurd (omega (arith, low))
    each-in (suc k) e low sub = by (owner rows nested e) refl (nested.owned e sub.0) (each-in k)
      where
        by : (o : Option ℕ) → owner rows nested e ≡ o → IsOwner rows e o →
            ((f : ℕ) → f < k → IsSub f → Contains (rows_inside root) (Some f)) → Contains (rows_inside root) (Some e)
        by None is owned more = down root are.agrees None e (subst (Contains (rows_inside root)) are.is_root (own-in root)) sub is
        by (Some f) is owned more =
            let less : f < e = owned.0 in
            let high : e < length rows = sub.0 in
            down root are.agrees (Some f) e
            (more f (omega (arith, less, low)) (omega (arith, less, high), owned.1)) sub is

    abbrev test : ℕ → Bool
    test e = is_subsystem (row_at rows e).kind && is_inside rows None e

    in-systems : (z : Option ℕ) → Contains (rows_inside root) z → Contains (systems rows) z
    in-systems z h = elim (inside root are.agrees z h) [
      | inl same ↦ subst (Contains (systems rows)) (sym are.is_root ∙ same) (in-first None (map Some (systems_inside rows None)))
      | inr inner ↦
          in-rest None z (map Some (systems_inside rows None))
          (subst (Contains (map Some (systems_inside rows None))) (sym inner.is)
          (in-map Some (systems_inside rows None) inner.row (in-filter test (row_numbers rows) inner.row
          (in-range 0 (length rows) inner.row (omega arith) (let high = inner.sub.0 in omega (arith, high)))
          (and-more (is_subsystem (row_at rows inner.row).kind) inner.sub.1))))
    ]

    of-systems : (z : Option ℕ) → Contains (systems rows) z → Contains (rows_inside root) z
    of-systems z h = elim (in-cases None z (map Some (systems_inside rows None)) h) [
      | inl same ↦ subst (Contains (rows_inside root)) (are.is_root ∙ same) (own-in root)
      | inr more ↦
          let m = of-map Some (systems_inside rows None) z more in
          let f = of-filter test (row_numbers rows) m.0 m.1 in
          let high = (of-range 0 (length rows) m.0 f.0).1 in
          subst (Contains (rows_inside root)) m.2
          (each-in (suc m.0) m.0 (omega arith) (omega (arith, high), and-less (is_subsystem (row_at rows m.0).kind) f.1))
    ]

    rising-systems : Rising rank (systems rows)
    rising-systems = (
      λ z h. let m = of-map Some (systems_inside rows None) z h in subst (λ y. 0 < rank y) m.2 (omega arith),
      rising-some (systems_inside rows None) (rising-filter (λ (k : ℕ). k) test (row_numbers rows) (rising-range 0 (length rows))),
    )

    pub all-systems : rows_inside root ≡ systems rows
    all-systems = one-list rank (rows_inside root) (systems rows) (rising root are.agrees) rising-systems in-systems of-systems
