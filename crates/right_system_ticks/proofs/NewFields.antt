-- The fields that the update makes those of the next tick, in the order in which it stores them, the last first.
use Rattle.std.specs.Prelude.{◌≡◌, ℕ, zero, suc, ◌+◌, ◌<◌, Bool, true, false, cond, List, [], ◌∷◌, ◌++◌, map, filter, slice_get, Contains, Some, refl}
use Rattle.std.proofs.Common.{sym, subst, arith, add-zero, inl, inr}
use Rattle.modules_clusters.specs.Grouping.{AreDifferent}
use Rattle.modules_profile.specs.declared.local.ChildUse.{ChildUse}
use Rattle.modules_profile.specs.declared.local.LocalRow.{LocalRow}
use Rattle.modules_profile.specs.LocalSystem.{LocalSystem}
use Rattle.modules_profile.proofs.lemmas.Members.{in-none, in-first, in-rest, in-cases, of-filter, at-in, at-map}
use Rattle.modules_profile.proofs.lemmas.OwnRows.{differ-at}
use Rattle.std.proofs.lemmas.List.Elements.{Contains-append_left}
use Rattle.std.proofs.lemmas.Option.{none-some}
use Rattle.emit_shape.specs.Delays.{is_line}
use Rattle.emit_system_spec.specs.Fields.{memory_field, ring_field, trigger_field, child_field}

-- no member comes again
abbrev pub Once : {A : Type 0} → List A → Type 0
Once [] = Unit {0}
Once (x ∷ xs) = (Contains xs x → ⊥) × Once xs

-- ---- Rows come once

pub once-rows : (rs : List LocalRow) → AreDifferent (map (λ (r : LocalRow). r.row) rs) → Once rs
once-rows rs differ = by rs 0 (λ i r at. subst (λ n. slice_get rs n ≡ Some r) (let e : i ≡ 0 + i = omega arith in e) at)
  where
    by : (qs : List LocalRow) (a : ℕ) → ((i : ℕ) (r : LocalRow) → slice_get qs i ≡ Some r → slice_get rs (a + i) ≡ Some r) → Once qs
    by [] a stand = tt
    by (q ∷ qs) a stand = (
      λ h.
          let k = at-in qs q h in
          let first = at-map (λ (r : LocalRow). r.row) rs (a + 0) q (stand 0 q refl) in
          let again = at-map (λ (r : LocalRow). r.row) rs (a + suc k.0) q (stand (suc k.0) q k.1) in
          let same = differ-at (map (λ (r : LocalRow). r.row) rs) (a + 0) (a + suc k.0) q.row differ first again in
          absurd (omega (arith, same)),
      by qs (a + 1) (λ i r at. subst (λ n. slice_get rs n ≡ Some r) (omega arith) (stand (suc i) r at)),
    )

pub once-passed : {A : Type 0} (test : A → Bool) (xs : List A) → Once xs → Once (filter test xs)
once-passed test [] once = tt
once-passed {A} test (x ∷ xs) once = by (test x) (once-passed test xs once.1)
  where
    by : (t : Bool) → Once (filter test xs) → Once (cond t (x ∷ filter test xs) (filter test xs))
    by true rest = ((λ h. once.0 (of-filter test xs x h).0), rest)
    by false rest = rest

-- what is in front is there with more after it
longer : (xs ys : List ℕ) (f : ℕ) → Contains xs f → Contains (xs ++ ys) f
longer xs ys f h = Contains-append_left xs ys f h

-- ---- The fields

module _ (local : LocalSystem) where
  -- of a memory
  abbrev pub with_memory : Bool → LocalRow → List ℕ → List ℕ
  with_memory true r fields = (ring_field local r.row + 2) ∷ (ring_field local r.row + 1) ∷ ring_field local r.row ∷ fields
  with_memory false r fields = memory_field local r.row ∷ fields

  abbrev pub with_memories : List LocalRow → List ℕ → List ℕ
  with_memories [] fields = fields
  with_memories (r ∷ rs) fields = with_memories rs (with_memory (is_line r.op) r fields)

  -- of children, where the test holds
  abbrev pub with_child : Bool → ℕ → List ℕ → List ℕ
  with_child true k fields = child_field local k ∷ fields
  with_child false k fields = fields

  abbrev pub with_children : Bool → ℕ → List ChildUse → List ℕ → List ℕ
  with_children t a [] fields = fields
  with_children t a (u ∷ us) fields = with_children t (a + 1) us (with_child t a fields)

  -- of the trigger
  abbrev pub with_trigger : Bool → List ℕ → List ℕ
  with_trigger true fields = trigger_field local ∷ fields
  with_trigger false fields = fields

  -- ---- What is among them stays

  stays-memory : (t : Bool) (r : LocalRow) (fields : List ℕ) (f : ℕ) → Contains fields f → Contains (with_memory t r fields) f
  stays-memory true r fields f h =
      in-rest (ring_field local r.row + 2) f ((ring_field local r.row + 1) ∷ ring_field local r.row ∷ fields)
      (in-rest (ring_field local r.row + 1) f (ring_field local r.row ∷ fields) (in-rest (ring_field local r.row) f fields h))
  stays-memory false r fields f h = in-rest (memory_field local r.row) f fields h

  pub stays-memories : (rs : List LocalRow) (fields : List ℕ) (f : ℕ) → Contains fields f → Contains (with_memories rs fields) f
  stays-memories [] fields f h = h
  stays-memories (r ∷ rs) fields f h = stays-memories rs (with_memory (is_line r.op) r fields) f (stays-memory (is_line r.op) r fields f h)

  stays-child : (t : Bool) (k : ℕ) (fields : List ℕ) (f : ℕ) → Contains fields f → Contains (with_child t k fields) f
  stays-child true k fields f h = in-rest (child_field local k) f fields h
  stays-child false k fields f h = h

  pub stays-children : (t : Bool) (a : ℕ) (us : List ChildUse) (fields : List ℕ) (f : ℕ) → Contains fields f →
      Contains (with_children t a us fields) f
  stays-children t a [] fields f h = h
  stays-children t a (u ∷ us) fields f h = stays-children t (a + 1) us (with_child t a fields) f (stays-child t a fields f h)

  pub stays-trigger : (t : Bool) (fields : List ℕ) (f : ℕ) → Contains fields f → Contains (with_trigger t fields) f
  stays-trigger true fields f h = in-rest (trigger_field local) f fields h
  stays-trigger false fields f h = h

  -- ---- What is new

  -- the fields of a memory, by whether it is a ring
  pub new-memory : (rs : List LocalRow) (fields : List ℕ) (r : LocalRow) (f : ℕ) → Contains rs r →
      Contains (with_memory (is_line r.op) r []) f →
      Contains (with_memories rs fields) f
  new-memory [] fields r f h new = absurd (in-none r h)
  new-memory (q ∷ rs) fields r f h new = elim (in-cases q r rs h) [
    | inl same ↦
        stays-memories rs (with_memory (is_line q.op) q fields) f
        (subst (λ p. Contains (with_memory (is_line p.op) p fields) f) (sym same) (more (is_line r.op) new))
    | inr later ↦ new-memory rs (with_memory (is_line q.op) q fields) r f later new
  ]
    where
      more : (t : Bool) → Contains (with_memory t r []) f → Contains (with_memory t r fields) f
      more true h = longer ((ring_field local r.row + 2) ∷ (ring_field local r.row + 1) ∷ ring_field local r.row ∷ []) fields f h
      more false h = longer (memory_field local r.row ∷ []) fields f h

  pub new-child : (a : ℕ) (us : List ChildUse) (fields : List ℕ) (i : ℕ) (u : ChildUse) → slice_get us i ≡ Some u →
      Contains (with_children true a us fields) (child_field local (a + i))
  new-child a [] fields i u at = absurd (none-some u at)
  new-child a (w ∷ us) fields zero u at =
      stays-children true (a + 1) us (child_field local a ∷ fields) (child_field local (a + 0))
      (subst (λ n. Contains (child_field local a ∷ fields) (child_field local n)) (sym (add-zero a))
      (in-first (child_field local a) fields))
  new-child a (w ∷ us) fields (suc i) u at =
      subst (λ n. Contains (with_children true (a + 1) us (child_field local a ∷ fields)) (child_field local n)) (omega arith)
      (new-child (a + 1) us (child_field local a ∷ fields) i u at)

-- of counters
abbrev pub with_counters : ℕ → ℕ → List ℕ → List ℕ
with_counters a zero fields = fields
with_counters a (suc n) fields = with_counters (a + 1) n (a ∷ fields)

pub stays-counters : (a n : ℕ) (fields : List ℕ) (f : ℕ) → Contains fields f → Contains (with_counters a n fields) f
stays-counters a zero fields f h = h
stays-counters a (suc n) fields f h = stays-counters (a + 1) n (a ∷ fields) f (in-rest a f fields h)

pub new-counter : (a n : ℕ) (fields : List ℕ) (i : ℕ) → i < n → Contains (with_counters a n fields) (a + i)
new-counter a zero fields i below = absurd (omega arith)
new-counter a (suc n) fields zero below =
    stays-counters (a + 1) n (a ∷ fields) (a + 0) (subst (Contains (a ∷ fields)) (sym (add-zero a)) (in-first a fields))
new-counter a (suc n) fields (suc i) below =
    subst (Contains (with_counters (a + 1) n (a ∷ fields))) (omega arith) (new-counter (a + 1) n (a ∷ fields) i (omega (arith, below)))
