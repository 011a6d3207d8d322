-- Classes are found by their signatures.
use Rattle.std.specs.Prelude.{◌≡◌, ℕ, zero, suc, ◌+◌, ◌<◌, ◌≤◌, Bool, true, false, ◌==◌, cond, List, [], ◌∷◌, ◌++◌, fold, length, Contains, Option, Some, None, nat_eq}
use Rattle.std.specs.List.{AllZip}
use Rattle.std.proofs.Common.{refl, sym, ◌∙◌, ap, subst, arith, inl, inr, true≢false, true-eqb, eq-eqb}
use Rattle.std.proofs.lemmas.Bool.{cases_lt}
use Rattle.std.proofs.lemmas.List.{get_or_append_left, get_or-append-add}
use Rattle.indexmap.specs.IndexMap.{get}
use Rattle.diagram_blocks.specs.declared.Op.{Op}
use Rattle.base_fixed_point.specs.declared.FixType.{FixType}
use Rattle.diagram_meaning.specs.Diagram.{Diagram, op_at, type_at}
use Rattle.diagram_same.specs.declared.classes.Class.{Class}
use Rattle.diagram_same.specs.declared.classes.Classes.{Classes}
use Rattle.diagram_same.specs.Classes.{row_of, rows_of, no_class, class_at, signature_at, IsLast, AreChained, HasClass, HasNoClass}
use Rattle.diagram_same.specs.Interiors.{IsInterior}
use Rattle.diagram_same.specs.Same.{AreAlike, AreSame, rows_inside}
use Rattle.diagram_same.specs.Signatures.{op_number, row_number, mixed, signature_of}

-- ---- Subsystems that are the same have one signature

rows-signature : (d : Diagram) (e f sum : ℕ) (bs cs : List ℕ) → AllZip (AreAlike d e f) bs cs →
    fold (λ sum b. mixed sum (row_number d b)) sum bs ≡ fold (λ sum b. mixed sum (row_number d b)) sum cs
rows-signature d e f sum [] [] zip = refl
rows-signature d e f sum [] (c ∷ cs) zip = absurd zip
rows-signature d e f sum (b ∷ bs) [] zip = absurd zip
rows-signature d e f sum (b ∷ bs) (c ∷ cs) zip =
    ap (λ n. fold (λ sum b. mixed sum (row_number d b)) (mixed sum n) bs)
    (ap (λ (op : Op). op_number op + (type_at d.types b).bits) zip.0.op ∙ ap (λ (t : FixType). op_number (op_at d c) + t.bits) zip.0.type)
    ∙ rows-signature d e f (mixed sum (row_number d c)) bs cs zip.1

pub one-signature : (d : Diagram) (e f : ℕ) → AreSame d e f → signature_of d e ≡ signature_of d f
one-signature d e f same = rows-signature d e f 1 (rows_inside d.rows e) (rows_inside d.rows f) same.rows

-- ---- Going through a chain

-- no class after this one on the chain is the same as e
abbrev pub AreLeft : Diagram → List Class → (e : ℕ) → Option ℕ → Type 0
AreLeft d list e None = (k : ℕ) → k < length list → AreSame d (row_of (class_at list k)) e → ⊥
AreLeft d list e (Some place) =
    (place < length list) × (signature_at d list place ≡ signature_of d e)
    × ((k : ℕ) → k < length list → AreSame d (row_of (class_at list k)) e → k ≤ place)

up-to : (k last : ℕ) → (last < k → ⊥) → k ≤ last
up-to k last late = elim (cases_lt last k) [ inl past ↦ absurd (late past) | inr fine ↦ fine ]

pub left-first : (d : Diagram) (list : List Class) (e : ℕ) (o : Option ℕ) → IsLast d list (signature_of d e) (length list) o →
    AreLeft d list e o
left-first d list e None last = λ k below same. last k below (one-signature d (row_of (class_at list k)) e same)
left-first d list e (Some place) last = (
  last.0,
  last.1,
  λ k below same. up-to k place
      (λ past. last.2 k past below (one-signature d (row_of (class_at list k)) e same)),
)

pub left-next : (d : Diagram) (list : List Class) (e place : ℕ) (o : Option ℕ) → AreLeft d list e (Some place) →
    (AreSame d (row_of (class_at list place)) e → ⊥) → IsLast d list (signature_at d list place) place o → AreLeft d list e o
left-next d list e place None left other last = λ k below same. elim (cases_lt k place) [
  | inl before ↦ last k before (one-signature d (row_of (class_at list k)) e same ∙ sym left.1)
  | inr past ↦
      let most = left.2 k below same in
      other (subst (λ k. AreSame d (row_of (class_at list k)) e) (omega (arith, most, past)) same)
]
left-next d list e place (Some next) left other last =
    let within = left.0 in
    let before = last.0 in (
      omega (arith, within, before),
      last.1 ∙ left.1,
      λ k below same. up-to k next
          (λ past. elim (cases_lt k place) [
            | inl early ↦ last.2 k past early (one-signature d (row_of (class_at list k)) e same ∙ sym left.1)
            | inr late ↦
                let most = left.2 k below same in
                other (subst (λ k. AreSame d (row_of (class_at list k)) e) (omega (arith, most, late)) same)
          ]),
    )

-- ---- The first subsystems of classes

pub first-among : (list : List Class) (k : ℕ) → k < length list → Contains (rows_of list) (row_of (class_at list k))
first-among [] k below = absurd (omega arith)
first-among (class ∷ list) zero below = (0, omega arith, refl)
first-among (class ∷ list) (suc k) below =
    let (j, less, is) = first-among list k (omega (arith, below)) in (suc j, omega (arith, less), is)

pub among-first : (list : List Class) (f : ℕ) → Contains (rows_of list) f →
    (k : ℕ) × (k < length list) × (row_of (class_at list k) ≡ f)
among-first [] f (k, below, is) = absurd (omega arith)
among-first (class ∷ list) f (zero, below, is) = (0, omega arith, is)
among-first (class ∷ list) f (suc k, below, is) =
    let (j, less, at) = among-first list f (k, omega (arith, below), is) in (suc j, omega (arith, less), at)

pub has-class : (d : Diagram) (list : List Class) (e k : ℕ) → k < length list → AreSame d (row_of (class_at list k)) e →
    HasClass d list e (row_of (class_at list k))
has-class d list e k below same = record { is_first = first-among list k below; same = same }

pub has-none : (d : Diagram) (list : List Class) (e : ℕ) → AreLeft d list e None → HasNoClass d list e
has-none d list e left f is same =
    let (k, below, at) = among-first list f is in
    left k below (subst (λ f. AreSame d f e) (sym at) same)

-- ---- One class more

module _ (d : Diagram) (old : List Class) (class : Class) where
  abbrev more : List Class
  more = old ++ class ∷ []

  at-old : (k : ℕ) → k < length old → class_at more k ≡ class_at old k
  at-old k below = get_or_append_left old (class ∷ []) no_class k below

  at-new : (k : ℕ) → k ≡ length old → class_at more k ≡ class
  at-new k last = ap (class_at more) (last ∙ omega arith) ∙ get_or-append-add old (class ∷ []) 0 no_class

  signature-old : (k : ℕ) → k < length old → signature_at d more k ≡ signature_at d old k
  signature-old k below = ap (λ (c : Class). signature_of d (row_of c)) (at-old k below)

  last-old : (s n : ℕ) (o : Option ℕ) → n ≤ length old → IsLast d old s n o → IsLast d more s n o
  last-old s n None few last = λ k below is. last k below (sym (signature-old k (omega (arith, below, few))) ∙ is)
  last-old s n (Some place) few last =
      let before = last.0 in (
        before,
        signature-old place (omega (arith, before, few)) ∙ last.1,
        λ k past below is. last.2 k past below (sym (signature-old k (omega (arith, below, few))) ∙ is),
      )

  last-other : (s : ℕ) (o : Option ℕ) → (signature_of d (row_of class) ≡ s → ⊥) → IsLast d old s (length old) o →
      IsLast d more s (length old + 1) o
  last-other s None other last = λ k below is. elim (cases_lt k (length old)) [
    | inl before ↦ last k before (sym (signature-old k before) ∙ is)
    | inr past ↦ other (sym (ap (λ (c : Class). signature_of d (row_of c)) (at-new k (omega (arith, below, past)))) ∙ is)
  ]
  last-other s (Some place) other last =
      let before = last.0 in (
        omega (arith, before),
        signature-old place before ∙ last.1,
        λ k late below is. elim (cases_lt k (length old)) [
          | inl early ↦ last.2 k late early (sym (signature-old k early) ∙ is)
          | inr past ↦ other (sym (ap (λ (c : Class). signature_of d (row_of c)) (at-new k (omega (arith, below, past)))) ∙ is)
        ],
      )

  last-new : IsLast d more (signature_of d (row_of class)) (length old + 1) (Some (length old))
  last-new = (
    omega arith,
    ap (λ (c : Class). signature_of d (row_of c)) (at-new (length old) refl),
    λ k late below is. absurd (omega (arith, late, below)),
  )

length-more : (old : List Class) (class : Class) → length (old ++ class ∷ []) ≡ length old + 1
length-more [] class = refl
length-more (c ∷ old) class = ap suc (length-more old class) ∙ omega arith

pub chained-more : (d : Diagram) (old new : Classes) (class : Class) (s : ℕ) → AreChained d old →
    new.list.items ≡ old.list.items ++ class ∷ [] → class.earlier ≡ get nat_eq old.latest s →
    ((q : ℕ) → get nat_eq new.latest q ≡ cond (s == q) (Some (length old.list.items)) (get nat_eq old.latest q)) →
    IsInterior d.rows class.first.row class.first.end → s ≡ signature_of d (row_of class) → AreChained d new
chained-more d old new class s was items earlier latest inside is = record {
  inside = λ k below. at k below (λ c. IsInterior d.rows c.first.row c.first.end) (λ before. was.inside k before) inside;
  latest = λ q. subst (λ l. IsLast d l q (length l) (get nat_eq new.latest q)) (sym items)
      (subst (λ n. IsLast d (more d old.list.items class) q n (get nat_eq new.latest q)) (sym (length-more old.list.items class))
      (subst (IsLast d (more d old.list.items class) q (length old.list.items + 1)) (sym (latest q)) (by q (s == q) refl)));
  earlier = λ k below. subst (λ l. IsLast d l (signature_at d l k) k (class_at l k).earlier) (sym items)
      (earlier-at k (subst (λ l. k < length l) items below));
}
  where
    at : (k : ℕ) → k < length new.list.items → (P : Class → Type 0) → (k < length old.list.items → P (class_at old.list.items k)) → P class →
        P (class_at new.list.items k)
    at k below P before now =
        subst (λ l. P (class_at l k)) (sym items) (elim (cases_lt k (length old.list.items)) [
          | inl early ↦ subst P (sym (at-old d old.list.items class k early)) (before early)
          | inr past ↦
              let less = subst (λ l. k < length l) items below in
              let long = length-more old.list.items class in
              subst P (sym (at-new d old.list.items class k (omega (arith, less, long, past)))) now
        ])

    by : (q : ℕ) (t : Bool) → (s == q) ≡ t →
        IsLast d (more d old.list.items class) q (length old.list.items + 1)
        (cond t (Some (length old.list.items)) (get nat_eq old.latest q))
    by q true same =
        let here : s ≡ q = true-eqb s q (sym same) in
        subst (λ q. IsLast d (more d old.list.items class) q (length old.list.items + 1) (Some (length old.list.items)))
        (sym is ∙ here) (last-new d old.list.items class)
    by q false other =
        last-other d old.list.items class q (get nat_eq old.latest q)
        (λ same. true≢false (sym (eq-eqb s q (is ∙ same)) ∙ other)) (was.latest q)

    earlier-at : (k : ℕ) → k < length (old.list.items ++ class ∷ []) →
        IsLast d (more d old.list.items class) (signature_at d (more d old.list.items class) k) k
        (class_at (more d old.list.items class) k).earlier
    earlier-at k below = elim (cases_lt k (length old.list.items)) [
      | inl early ↦
          subst (λ (c : Class). IsLast d (more d old.list.items class) (signature_of d (row_of c)) k c.earlier)
          (sym (at-old d old.list.items class k early))
          (last-old d old.list.items class (signature_at d old.list.items k) k (class_at old.list.items k).earlier (omega (arith, early))
          (was.earlier k early))
      | inr past ↦
          let long = length-more old.list.items class in
          let here : k ≡ length old.list.items = omega (arith, below, long, past) in
          subst (λ (c : Class). IsLast d (more d old.list.items class) (signature_of d (row_of c)) k c.earlier)
          (sym (at-new d old.list.items class k here))
          (subst (λ n. IsLast d (more d old.list.items class) (signature_of d (row_of class)) n class.earlier) (sym here)
          (subst (λ o. IsLast d (more d old.list.items class) (signature_of d (row_of class)) (length old.list.items) o) (sym earlier)
          (subst (λ q. IsLast d (more d old.list.items class) q (length old.list.items) (get nat_eq old.latest s)) is
          (last-old d old.list.items class s (length old.list.items) (get nat_eq old.latest s) (omega arith) (was.latest s)))))
    ]

pub chained-none : (d : Diagram) (classes : Classes) → classes.list.items ≡ [] → ((s : ℕ) → get nat_eq classes.latest s ≡ None) →
    AreChained d classes
chained-none d classes none empty = record {
  inside = λ k below. absurd (out k below);
  latest = λ s. subst (λ l. IsLast d l s (length l) (get nat_eq classes.latest s)) (sym none)
      (subst (IsLast d [] s 0) (sym (empty s)) (λ k less is. absurd (omega (arith, less))));
  earlier = λ k below. absurd (out k below);
}
  where
    out : (k : ℕ) → k < length classes.list.items → ⊥
    out k below = let less = subst (λ l. k < length l) none below in omega (arith, less)
