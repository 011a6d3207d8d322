-- The children of a system by the fields of its struct: each has one, that names it, and no other field is a struct.
use Rattle.std.specs.Prelude.{◌≡◌, ℕ, zero, suc, ◌+◌, ◌≤◌, Bool, true, false, if◌then◌else◌, List, [], ◌∷◌, ◌++◌, map, flat_map, filter, filter_map, find, length, slice_get, Contains, Option, Some, None, refl, ⊤}
use Rattle.std.specs.List.{AllByRecursion, cons_option, enumerate_from, range_with_len}
use Rattle.std.specs.Option.{option_map}
use Rattle.std.proofs.Common.{sym, ap, subst, ◌∙◌, arith, eq-eqb}
use Rattle.std.proofs.lemmas.Bool.{eqb-true}
use Rattle.std.proofs.lemmas.List.{length-append}
use Rattle.std.proofs.lemmas.List.Elements.{Contains-append_left, Contains-append_right}
use Rattle.std.proofs.lemmas.List.Sorted.{Contains-permutation, IsPermutation-sym, length_permutation}
use Rattle.diagram_blocks.specs.Meaning.{has_value}
use Rattle.diagram_meaning.specs.Rows.{is_triggered}
use Rattle.modules_profile.specs.declared.ChildUse.{ChildUse}
use Rattle.modules_profile.specs.declared.LocalRow.{LocalRow}
use Rattle.modules_profile.specs.LocalSystem.{LocalSystem}
use Rattle.modules_profile.specs.Systems.{system_name}
use Rattle.c_syntax.specs.Tree.{FieldTree}
use Rattle.emit_shape.specs.Delays.{is_single, is_line}
use Rattle.emit_shape.specs.Slots.{Slot, value, memory, ring_items, ring_place, ring_taken, trigger, counter, instance, filler, slot_field, ring_slots, own_slots, or_filler, CounterField, AreSlots}
use Rattle.emit_shape.specs.SystemTree.{SystemTree}
use Rattle.emit_shape.specs.Assembled.{is_child_kind, child_names}
use Rattle.modules_profile.proofs.lemmas.Members.{in-first, in-rest, in-none, in-map, of-map, of-enumerate, in-enumerate, finds, found-in, at-below, map-at}
use Rattle.right_linking.proofs.FirstPlaces.{mapped-length}
use Rattle.right_linking.proofs.SystemPlaces.{member}
use Rattle.right_linking.proofs.LawfulBodies.{all-append}

-- ---- Lists

-- what is found of the first numbers, and no more
filter_map-range : {B : Type 0} (f : ℕ → Option B) (ys : List B) (a n : ℕ) → length ys ≤ n →
    ((k : ℕ) (y : B) → slice_get ys k ≡ Some y → f (a + k) ≡ Some y) → ((k : ℕ) → length ys ≤ k → f (a + k) ≡ None) →
    filter_map f (range_with_len a n) ≡ ys
filter_map-range f [] a zero short some none = refl
filter_map-range f [] a (suc n) short some none =
    let here : a + 0 ≡ a = omega arith in
    ap (λ o. cons_option o (filter_map f (range_with_len (a + 1) n))) (ap f (sym here) ∙ none 0 (omega arith))
    ∙ filter_map-range f [] (a + 1) n (omega arith) (λ k y at. absurd (let wrong : ⊥ = cc at in wrong))
    (λ k below. (let next : a + 1 + k ≡ a + suc k = omega arith in ap f next) ∙ none (suc k) (omega arith))
filter_map-range f (y ∷ ys) a zero short some none = absurd (omega arith)
filter_map-range f (y ∷ ys) a (suc n) short some none =
    let here : a + 0 ≡ a = omega arith in
    ap (λ o. cons_option o (filter_map f (range_with_len (a + 1) n))) (ap f (sym here) ∙ some 0 y refl)
    ∙ ap (λ zs. y ∷ zs)
    (filter_map-range f ys (a + 1) n (omega arith)
    (λ k z at. (let next : a + 1 + k ≡ a + suc k = omega arith in ap f next) ∙ some (suc k) z at)
    (λ k below. (let next : a + 1 + k ≡ a + suc k = omega arith in ap f next) ∙ none (suc k) (omega arith)))

long-enumerated : {A : Type 0} (n : ℕ) (xs : List A) → length (enumerate_from n xs) ≡ length xs
long-enumerated n [] = refl
long-enumerated n (x ∷ xs) = ap suc (long-enumerated (n + 1) xs)

-- ---- Slots of children

module _ (local : LocalSystem) where
  -- an instance is that of the child at its position
  abbrev pub IsOfChild : Slot → Type 0
  IsOfChild (instance k u) = slice_get local.children k ≡ Some u
  IsOfChild _ = ⊤

  all-mapped : {A : Type 0} (f : A → Slot) (xs : List A) → ((x : A) → Contains xs x → IsOfChild (f x)) →
      AllByRecursion IsOfChild (map f xs)
  all-mapped f [] holds = tt
  all-mapped f (x ∷ xs) holds = (holds x (in-first x xs), all-mapped f xs (λ y has. holds y (in-rest x y xs has)))

  rings-are : (rows : List LocalRow) → AllByRecursion IsOfChild (flat_map ring_slots rows)
  rings-are [] = tt
  rings-are (r ∷ rows) = (tt, (tt, (tt, rings-are rows)))

  trigger-is : (t : Bool) → AllByRecursion IsOfChild (if t then trigger ∷ [] else [])
  trigger-is true = (tt, tt)
  trigger-is false = tt

  abbrev values : List Slot
  values = map value (filter (λ (r : LocalRow). has_value r.kind) local.rows)

  abbrev memories : List Slot
  memories = map memory (filter (λ (r : LocalRow). is_single r.op) local.rows)

  abbrev rings : List Slot
  rings = flat_map ring_slots (filter (λ (r : LocalRow). is_line r.op) local.rows)

  abbrev triggers : List Slot
  triggers = if is_triggered local.control then trigger ∷ [] else []

  abbrev instances : List Slot
  instances = map (λ (e : ℕ × ChildUse). instance e.0 e.1) (enumerate_from 0 local.children)

  own-are : AllByRecursion IsOfChild (own_slots local)
  own-are =
      all-append IsOfChild (values ++ memories ++ rings ++ triggers) instances
      (all-append IsOfChild (values ++ memories ++ rings) triggers
      (all-append IsOfChild (values ++ memories) rings
      (all-append IsOfChild values memories
      (all-mapped value (filter (λ (r : LocalRow). has_value r.kind) local.rows) (λ r has. tt))
      (all-mapped memory (filter (λ (r : LocalRow). is_single r.op) local.rows) (λ r has. tt)))
      (rings-are (filter (λ (r : LocalRow). is_line r.op) local.rows)))
      (trigger-is (is_triggered local.control)))
      (all-mapped (λ (e : ℕ × ChildUse). instance e.0 e.1) (enumerate_from 0 local.children)
      (λ e has.
      let (n, place, at) = of-enumerate 0 local.children e has in
      let same : n ≡ e.0 = omega (arith, place) in
      subst (λ k. slice_get local.children k ≡ Some e.1) same at))

  filled-are : (xs : List Slot) → AllByRecursion IsOfChild xs → AllByRecursion IsOfChild (or_filler xs)
  filled-are [] all = (tt, tt)
  filled-are (x ∷ xs) all = all

  in-filled : (xs : List Slot) (x : Slot) → Contains xs x → Contains (or_filler xs) x
  in-filled [] x has = absurd (in-none x has)
  in-filled (y ∷ ys) x has = has

  long-filled : (xs : List Slot) → length xs ≤ length (or_filler xs)
  long-filled [] = omega arith
  long-filled (x ∷ xs) = omega arith

  module _ (slots : List Slot) (are : AreSlots local slots) where
    abbrev counters : List Slot
    counters = map (λ (c : CounterField). counter c.name c.type) are.counters

    abbrev all : List Slot
    all = or_filler (own_slots local ++ counters)

    pub of-child : (slot : Slot) → Contains slots slot → IsOfChild slot
    of-child slot has =
        member IsOfChild all slot
        (filled-are (own_slots local ++ counters)
        (all-append IsOfChild (own_slots local) counters own-are
        (all-mapped (λ (c : CounterField). counter c.name c.type) are.counters (λ c has. tt))))
        (Contains-permutation slots all slot (IsPermutation-sym all slots are.all) has)

    pub has-child : (k : ℕ) (u : ChildUse) → slice_get local.children k ≡ Some u → Contains slots (instance k u)
    has-child k u at =
        let same : 0 + k ≡ k = omega arith in
        Contains-permutation all slots (instance k u) are.all
        (in-filled (own_slots local ++ counters) (instance k u)
        (Contains-append_left (own_slots local) counters (instance k u)
        (Contains-append_right (values ++ memories ++ rings ++ triggers) instances (instance k u)
        (in-map (λ (e : ℕ × ChildUse). instance e.0 e.1) (enumerate_from 0 local.children) (k, u)
        (subst (λ i. Contains (enumerate_from 0 local.children) (i, u)) same (in-enumerate 0 local.children k u at))))))

    pub few-children : length local.children ≤ length slots
    few-children =
        omega (
          arith,
          length_permutation all slots are.all,
          long-filled (own_slots local ++ counters),
          length-append (own_slots local) counters,
          length-append (values ++ memories ++ rings ++ triggers) instances,
          mapped-length (λ (e : ℕ × ChildUse). instance e.0 e.1) (enumerate_from 0 local.children),
          long-enumerated 0 local.children,
        )

    -- the field that is the child at a position is that of its instance
    pub instance-of : (slot : Slot) (k : ℕ) → Contains slots slot → is_child_kind k (slot_field slot).kind ≡ true →
        (u : ChildUse) × (slot ≡ instance k u) × (slice_get local.children k ≡ Some u)
    instance-of (instance i u) k has is =
        let same : i ≡ k = eqb-true i k is in
        (u, ap (λ j. instance j u) same, subst (λ j. slice_get local.children j ≡ Some u) same (of-child (instance i u) has))
    instance-of _ k has is = absurd (let wrong : ⊥ = cc is in wrong)

    -- ---- Names of children

    abbrev fields : List FieldTree
    fields = map slot_field slots

    abbrev is_at : ℕ → FieldTree → Bool
    is_at k f = is_child_kind k f.kind

    -- what is found as the child at a position
    found-child : (k : ℕ) (f : FieldTree) → find (is_at k) fields ≡ Some f →
        (u : ChildUse) × (f.name ≡ system_name u.header.row) × (slice_get local.children k ≡ Some u)
    found-child k f found =
        let there = found-in (is_at k) fields f found in
        let made = of-map slot_field slots f there.0 in
        let (u, is, at) = instance-of made.0 k made.1 (ap (is_at k) made.2 ∙ there.1) in
        (u, ap (λ (g : FieldTree). g.name) (sym made.2) ∙ ap (λ slot. (slot_field slot).name) is, at)

    -- the name of what is found so
    abbrev name_at : List FieldTree → ℕ → Option (List ℕ)
    name_at fs k = option_map (λ (f : FieldTree). f.name) (find (is_at k) fs)

    name-found : (k : ℕ) (u : ChildUse) → slice_get local.children k ≡ Some u → name_at fields k ≡ Some (system_name u.header.row)
    name-found k u at =
        let field = in-map slot_field slots (instance k u) (has-child k u at) in
        let (f, found) = finds (is_at k) fields (slot_field (instance k u)) field (eq-eqb k k refl) in
        let (w, name, stands) = found-child k f found in
        let same : w ≡ u = cc (sym stands ∙ at) in
        ap (option_map (λ (g : FieldTree). g.name)) found ∙ ap Some (name ∙ ap (λ (z : ChildUse). system_name z.header.row) same)

    none-found : (k : ℕ) → length local.children ≤ k → name_at fields k ≡ None
    none-found k past = by (find (is_at k) fields) refl
      where
        by : (o : Option FieldTree) → find (is_at k) fields ≡ o → option_map (λ (f : FieldTree). f.name) o ≡ None
        by None e = refl
        by (Some f) e =
            let (u, name, at) = found-child k f e in
            absurd (let below = at-below local.children k u at in omega (arith, below, past))

    abbrev names : List (List ℕ)
    names = map (λ (u : ChildUse). system_name u.header.row) local.children

    names-long : length names ≡ length local.children
    names-long = mapped-length (λ (u : ChildUse). system_name u.header.row) local.children

    pub child-names : (code : SystemTree) → code.structure.fields ≡ fields → child_names code ≡ names
    child-names code are_fields =
        ap (λ (fs : List FieldTree). filter_map (name_at fs) (range_with_len 0 (length fs))) are_fields
        ∙ filter_map-range (name_at fields) names 0 (length fields)
        (omega (arith, few-children, mapped-length slot_field slots, names-long)) some none
      where
        some : (k : ℕ) (name : List ℕ) → slice_get names k ≡ Some name → name_at fields (0 + k) ≡ Some name
        some k name at =
            let zero_more : 0 + k ≡ k = omega arith in
            let (u, stands, is) = map-at (λ (u : ChildUse). system_name u.header.row) local.children k name at in
            ap (name_at fields) zero_more ∙ name-found k u stands ∙ ap Some is

        none : (k : ℕ) → length names ≤ k → name_at fields (0 + k) ≡ None
        none k past =
            let zero_more : 0 + k ≡ k = omega arith in ap (name_at fields) zero_more ∙ none-found k (omega (arith, past, names-long))
