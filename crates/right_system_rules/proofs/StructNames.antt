-- The names of the fields of a system's struct are names, and differ.
use Rattle.std.specs.Prelude.{◌≡◌, ◌⊎◌, ℕ, suc, ◌+◌, ◌^◌, ◌<◌, Bool, true, false, cond, nat_lt, if◌then◌else◌, List, [], ◌∷◌, ◌++◌, map, filter, flat_map, length, Contains, Some, decimal}
use Rattle.std.specs.List.{AllByRecursion, enumerate_from, range_with_len}
use Rattle.std.proofs.Common.{refl, sym, ap, subst, ◌∙◌, arith, inl, inr, true≢false}
use Rattle.std.proofs.lemmas.Fmt.{decimal_injective}
use Rattle.std.proofs.lemmas.List.{map-append, append_assoc}
use Rattle.diagram_blocks.specs.declared.Op.{Op}
use Rattle.diagram_blocks.specs.declared.Op.TheVariants.{Delay}
use Rattle.diagram_blocks.specs.Meaning.{has_value}
use Rattle.diagram_meaning.specs.Rows.{is_triggered}
use Rattle.modules_profile.specs.declared.local.ChildUse.{ChildUse}
use Rattle.modules_profile.specs.declared.local.LocalRow.{LocalRow}
use Rattle.modules_profile.specs.LocalSystem.{LocalSystem}
use Rattle.modules_profile.specs.SystemProfile.{SystemProfile}
use Rattle.modules_profile.specs.Systems.{system_name}
use Rattle.modules_profile.proofs.lemmas.Members.{in-first, in-rest, of-filter, of-range}
use Rattle.modules_schedule.specs.SystemSchedule.{SystemSchedule}
use Rattle.c_syntax.specs.Names.{is_name}
use Rattle.c_syntax.specs.Tree.{FieldTree}
use Rattle.c_syntax.specs.Lawful.{AreDistinct}
use Rattle.emit_shape.specs.Delays.{is_single, is_line}
use Rattle.emit_shape.specs.Names.{memory_name, place_name, taken_name, trigger_name, counter_name}
use Rattle.emit_shape.specs.Slots.{Slot, value, memory, trigger, instance, slot_field, ring_slots, own_slots, or_filler}
use Rattle.emit_system_spec.specs.Fields.{value_rows, single_rows, line_rows, call_count, shared_groups, counter_slot, code_slots}
use Rattle.right_system_rules.proofs.NameTexts.{first_byte, later_bytes, letter-name}
use Rattle.right_system_rules.proofs.Lists.{Apart, apart-filter, apart-numbers, apart-some, each-mapped}
use Rattle.right_system_rules.proofs.Different.{not-among, apart-by, distinct-append, all-append}
use Rattle.right_system_rules.proofs.DifferentNames.{distinct-map, apart-range, apart-same}
use Rattle.right_system_rules.proofs.SystemFacts.{SystemFacts, ChildFacts, systems-apart}

abbrev slot_name : Slot → List ℕ
slot_name s = (slot_field s).name

abbrev names_of : List Slot → List (List ℕ)
names_of slots = map slot_name slots

-- a name that begins with another letter
abbrev BeginsOther : ℕ → List ℕ → Type 0
BeginsOther x name = (y : ℕ) × (rest : List ℕ) × (name ≡ y ∷ rest) × (x ≡ y → ⊥)

abbrev Begins : ℕ → List ℕ → Type 0
Begins x name = (rest : List ℕ) × (name ≡ x ∷ rest)

begins-apart : (x : ℕ) (a b : List ℕ) → Begins x a → BeginsOther x b → a ≡ b → ⊥
begins-apart x a b begins other same =
    let whole : x ∷ begins.0 ≡ other.0 ∷ other.1 = sym begins.1 ∙ same ∙ other.2 in
    other.3 (cc whole)

single-line : (op : Op) → is_single op ≡ true → is_line op ≡ true → ⊥
single-line (Delay initial) single line = true≢false (sym line)
single-line _ single line = true≢false (sym single)

module _ (local : LocalSystem) (profile : SystemProfile) (schedule : SystemSchedule) (facts : SystemFacts local profile schedule) where
  abbrev number : LocalRow → ℕ
  number r = r.row

  rows-apart : Apart number local.rows
  rows-apart = apart-numbers number local.rows facts.lawful.rows_differ

  -- those of rows that pass a test
  rows-distinct : (letter : ℕ) → Rattle.c_syntax.specs.Names.is_lower letter ≡ true → (test : LocalRow → Bool) →
      AreDistinct (map (λ (r : LocalRow). letter ∷ decimal r.row) (filter test local.rows))
  rows-distinct letter lower test =
      distinct-map number (λ (r : LocalRow). letter ∷ decimal r.row) (filter test local.rows)
      (λ r h. letter-name letter r.row lower)
      (λ r q h k same.
      let small = (facts.rows r (of-filter test local.rows r h).0).small in
      let few = (facts.rows q (of-filter test local.rows q k).0).small in
      decimal_injective r.row q.row (omega (arith, small)) (omega (arith, few)) (ap later_bytes same))
      (apart-filter number test local.rows rows-apart)

  map-slots : {A : Type 0} (f : A → Slot) (xs : List A) → names_of (map f xs) ≡ map (λ x. slot_name (f x)) xs
  map-slots f [] = refl
  map-slots f (x ∷ xs) = ap (λ rest. slot_name (f x) ∷ rest) (map-slots f xs)

  -- ---- Rings

  RingName : List LocalRow → List ℕ → Type 0
  RingName rows b = (q : LocalRow) × Contains rows q × ((b ≡ memory_name q.row) ⊎ ((b ≡ place_name q.row) ⊎ (b ≡ taken_name q.row)))

  ring-names : (rows more : List LocalRow) → ((q : LocalRow) → Contains rows q → Contains more q) →
      AllByRecursion (RingName more) (names_of (flat_map ring_slots rows))
  unfolding RingName
  ring-names [] more inside = tt
  ring-names (r ∷ rows) more inside =
      let here = inside r (in-first r rows) in (
        (r, here, inl refl),
        ((r, here, inr (inl refl)), ((r, here, inr (inr refl)), ring-names rows more (λ q h. inside q (in-rest r q rows h)))),
      )

  rings-distinct : (rows : List LocalRow) → ((q : LocalRow) → Contains rows q → q.row < 20000) → Apart number rows →
      AreDistinct (names_of (flat_map ring_slots rows))
  unfolding RingName
  rings-distinct [] small apart = tt
  rings-distinct (r ∷ rows) small apart =
      let rest = names_of (flat_map ring_slots rows) in
      let names = ring-names rows rows (λ q h. h) in
      let few = small r (in-first r rows) in
      let other : (q : LocalRow) → Contains rows q → decimal r.row ≡ decimal q.row → ⊥ =
      λ q h same. (let most = small q (in-rest r q rows h) in
      apart.0 q h (decimal_injective r.row q.row (omega (arith, few)) (omega (arith, most)) same)) in (
        letter-name 109 r.row refl,
        not-among (RingName rows) (memory_name r.row) (λ b m same. by-memory other b m same) rest names,
        (
          letter-name 112 r.row refl,
          not-among (RingName rows) (place_name r.row) (λ b m same. by-place other b m same) rest names,
          (
            letter-name 110 r.row refl,
            not-among (RingName rows) (taken_name r.row) (λ b m same. by-taken other b m same) rest names,
            rings-distinct rows (λ q h. small q (in-rest r q rows h)) apart.1,
          ),
        ),
      )
    where
      by-memory : ((q : LocalRow) → Contains rows q → decimal r.row ≡ decimal q.row → ⊥) → (b : List ℕ) → RingName rows b →
          memory_name r.row ≡ b → ⊥
      by-memory other b (q, h, inl is) same =
          other q h (let whole : memory_name r.row ≡ memory_name q.row = same ∙ is in ap later_bytes whole)
      by-memory other b (q, h, inr (inl is)) same =
          let whole : memory_name r.row ≡ place_name q.row = same ∙ is in let wrong = ap first_byte whole in omega (arith, wrong)
      by-memory other b (q, h, inr (inr is)) same =
          let whole : memory_name r.row ≡ taken_name q.row = same ∙ is in let wrong = ap first_byte whole in omega (arith, wrong)

      by-place : ((q : LocalRow) → Contains rows q → decimal r.row ≡ decimal q.row → ⊥) → (b : List ℕ) → RingName rows b →
          place_name r.row ≡ b → ⊥
      by-place other b (q, h, inl is) same =
          let whole : place_name r.row ≡ memory_name q.row = same ∙ is in let wrong = ap first_byte whole in omega (arith, wrong)
      by-place other b (q, h, inr (inl is)) same =
          other q h (let whole : place_name r.row ≡ place_name q.row = same ∙ is in ap later_bytes whole)
      by-place other b (q, h, inr (inr is)) same =
          let whole : place_name r.row ≡ taken_name q.row = same ∙ is in let wrong = ap first_byte whole in omega (arith, wrong)

      by-taken : ((q : LocalRow) → Contains rows q → decimal r.row ≡ decimal q.row → ⊥) → (b : List ℕ) → RingName rows b →
          taken_name r.row ≡ b → ⊥
      by-taken other b (q, h, inl is) same =
          let whole : taken_name r.row ≡ memory_name q.row = same ∙ is in let wrong = ap first_byte whole in omega (arith, wrong)
      by-taken other b (q, h, inr (inl is)) same =
          let whole : taken_name r.row ≡ place_name q.row = same ∙ is in let wrong = ap first_byte whole in omega (arith, wrong)
      by-taken other b (q, h, inr (inr is)) same =
          other q h (let whole : taken_name r.row ≡ taken_name q.row = same ∙ is in ap later_bytes whole)

  -- ---- The sorts of slots

  abbrev values : List Slot
  values = map value (value_rows local)

  abbrev singles : List Slot
  singles = map memory (single_rows local)

  abbrev rings : List Slot
  rings = flat_map ring_slots (line_rows local)

  abbrev triggers : List Slot
  triggers = if is_triggered local.control then trigger ∷ [] else []

  abbrev instances : List Slot
  instances = map (λ (e : ℕ × ChildUse). instance e.0 e.1) (enumerate_from 0 local.children)

  abbrev counters : List Slot
  counters = map counter_slot (shared_groups schedule)

  -- ---- Letters

  all-slots : {A : Type 0} (P : List ℕ → Type 0) (f : A → Slot) (xs : List A) → ((x : A) → Contains xs x → P (slot_name (f x))) →
      AllByRecursion P (names_of (map f xs))
  all-slots P f xs holds = subst (AllByRecursion P) (sym (map-slots f xs)) (each-mapped P (λ x. slot_name (f x)) xs holds)

  rings-other : (x : ℕ) → (x ≡ 109 → ⊥) → (x ≡ 112 → ⊥) → (x ≡ 110 → ⊥) → (rows : List LocalRow) →
      AllByRecursion (BeginsOther x) (names_of (flat_map ring_slots rows))
  rings-other x m p n [] = tt
  rings-other x m p n (r ∷ rows) =
      ((109, decimal r.row, refl, m), ((112, decimal r.row, refl, p), ((110, decimal r.row, refl, n), rings-other x m p n rows)))

  singles-other : (x : ℕ) → (x ≡ 109 → ⊥) → AllByRecursion (BeginsOther x) (names_of singles)
  singles-other x m = all-slots (BeginsOther x) memory (single_rows local) (λ r h. (109, decimal r.row, refl, m))

  triggers-other : (P : List ℕ → Type 0) → P trigger_name → AllByRecursion P (names_of triggers)
  triggers-other P holds = by (is_triggered local.control)
    where
      by : (t : Bool) → AllByRecursion P (names_of (cond t (trigger ∷ []) []))
      by true = (holds, tt)
      by false = tt

  -- the name of a child
  child-name : (n : ℕ) (us : List ChildUse) → ((u : ChildUse) → Contains us u → ChildFacts local u) → (P : List ℕ → Type 0) →
      ((e : ℕ) → P (115 ∷ decimal e)) →
      AllByRecursion P (names_of (map (λ (e : ℕ × ChildUse). instance e.0 e.1) (enumerate_from n us)))
  child-name n [] are P holds = tt
  child-name n (u ∷ us) are P holds =
      let child = are u (in-first u us) in
      (subst (λ o. P (system_name o)) (sym child.is_row) (holds child.row), child-name (n + 1) us (λ v h. are v (in-rest u v us h)) P holds)

  children-other : (x : ℕ) → (x ≡ 115 → ⊥) → AllByRecursion (BeginsOther x) (names_of instances)
  children-other x s = child-name 0 local.children facts.children (BeginsOther x) (λ e. (115, decimal e, refl, s))

  counters-other : (x : ℕ) → (x ≡ 107 → ⊥) → AllByRecursion (BeginsOther x) (names_of counters)
  counters-other x k = all-slots (BeginsOther x) counter_slot (shared_groups schedule) (λ g h. (107, decimal (suc g), refl, k))

  -- ---- All names

  names-append : (xs ys : List Slot) → names_of (xs ++ ys) ≡ names_of xs ++ names_of ys
  names-append xs ys = map-append slot_name xs ys

  triggers-distinct : AreDistinct (names_of triggers)
  triggers-distinct = by (is_triggered local.control)
    where
      by : (t : Bool) → AreDistinct (names_of (cond t (trigger ∷ []) []))
      by true = (refl, refl, tt)
      by false = tt

  children-names : (n : ℕ) (us : List ChildUse) →
      names_of (map (λ (e : ℕ × ChildUse). instance e.0 e.1) (enumerate_from n us)) ≡ map (λ (u : ChildUse). system_name u.header.row) us
  children-names n [] = refl
  children-names n (u ∷ us) = ap (λ rest. system_name u.header.row ∷ rest) (children-names (n + 1) us)

  children-distinct : AreDistinct (names_of instances)
  children-distinct =
      subst AreDistinct (sym (children-names 0 local.children))
      (distinct-map (λ (u : ChildUse). u.header.row) (λ (u : ChildUse). system_name u.header.row) local.children
      (λ u h. let child = facts.children u h in
      subst (λ o. is_name (system_name o) ≡ true) (sym child.is_row) (letter-name 115 child.row refl))
      (λ u v h k same.
      let a = facts.children u h in
      let b = facts.children v k in
      let equal : a.row ≡ b.row =
      systems-apart a.row b.row a.small b.small (ap system_name (sym a.is_row) ∙ same ∙ ap system_name b.is_row) in
      a.is_row ∙ ap Some equal ∙ sym b.is_row)
      (apart-some (λ (u : ChildUse). u.header.row) local.children facts.lawful.numbers facts.lawful.have_numbers
      facts.lawful.children_differ))

  counters-distinct : AreDistinct (names_of counters)
  counters-distinct =
      let few = facts.emittable.groups in
      let test : ℕ → Bool = λ g. nat_lt 1 (call_count schedule g) in
      let below : (g : ℕ) → Contains (shared_groups schedule) g → suc g < 2 ^ 64 =
      λ g h. (let high = (of-range 0 (length schedule.groups) g (of-filter test (range_with_len 0 (length schedule.groups)) g h).0).1 in
      omega (arith, few, high)) in
      subst AreDistinct (sym (map-slots counter_slot (shared_groups schedule)))
      (distinct-map (λ (g : ℕ). g) (λ g. counter_name (suc g)) (shared_groups schedule) (λ g h. letter-name 107 (suc g) refl)
      (λ g k h i same.
      let equal : suc g ≡ suc k = decimal_injective (suc g) (suc k) (below g h) (below k i) (ap later_bytes same) in
      omega (arith, equal))
      (apart-filter (λ (g : ℕ). g) test (range_with_len 0 (length schedule.groups)) (apart-range 0 (length schedule.groups))))

  -- a memory of one sample, and any other name after it
  SingleName : List ℕ → Type 0
  SingleName b = (q : LocalRow) × Contains (single_rows local) q × (b ≡ memory_name q.row)

  BehindSingle : List ℕ → Type 0
  BehindSingle b = BeginsOther 109 b ⊎ ((q : LocalRow) × Contains (line_rows local) q × (b ≡ memory_name q.row))

  behind-single : (a b : List ℕ) → SingleName a → BehindSingle b → a ≡ b → ⊥
  unfolding SingleName BehindSingle
  behind-single a b (r, h, is) (inl other) same = begins-apart 109 a b (decimal r.row, is) other same
  behind-single a b (r, h, is) (inr (q, k, has)) same =
      let single = of-filter (λ (r : LocalRow). is_single r.op) local.rows r h in
      let line = of-filter (λ (r : LocalRow). is_line r.op) local.rows q k in
      let few = (facts.rows r single.0).small in
      let most = (facts.rows q line.0).small in
      let whole : memory_name r.row ≡ memory_name q.row = sym is ∙ same ∙ has in
      let number_is : r.row ≡ q.row = decimal_injective r.row q.row (omega (arith, few)) (omega (arith, most)) (ap later_bytes whole) in
      let row_is : r ≡ q = apart-same number local.rows r q rows-apart single.0 line.0 number_is in
      single-line q.op (subst (λ (x : LocalRow). is_single x.op ≡ true) row_is single.1) line.1

  rings-behind : (rows : List LocalRow) → ((q : LocalRow) → Contains rows q → Contains (line_rows local) q) →
      AllByRecursion BehindSingle (names_of (flat_map ring_slots rows))
  unfolding BehindSingle
  rings-behind [] inside = tt
  rings-behind (r ∷ rows) inside = (
    inr (r, inside r (in-first r rows), refl),
    (
      inl (112, decimal r.row, refl, λ e. omega arith),
      (inl (110, decimal r.row, refl, λ e. omega arith), rings-behind rows (λ q h. inside q (in-rest r q rows h))),
    ),
  )

  others-behind : (names : List (List ℕ)) → AllByRecursion (BeginsOther 109) names → AllByRecursion BehindSingle names
  unfolding BehindSingle
  others-behind [] all = tt
  others-behind (a ∷ names) all = (inl all.0, others-behind names all.1)

  abbrev last : List (List ℕ)
  last = names_of instances ++ names_of counters

  abbrev behind_rings : List (List ℕ)
  behind_rings = names_of triggers ++ last

  last-distinct : AreDistinct last
  last-distinct =
      distinct-append (names_of instances) (names_of counters) children-distinct counters-distinct
      (apart-by (Begins 115) (BeginsOther 115) (begins-apart 115) (names_of instances) (names_of counters)
      (child-name 0 local.children facts.children (Begins 115) (λ e. (decimal e, refl))) (counters-other 115 (λ e. omega arith)))

  last-other : (x : ℕ) → (x ≡ 115 → ⊥) → (x ≡ 107 → ⊥) → AllByRecursion (BeginsOther x) last
  last-other x s k = all-append (BeginsOther x) (names_of instances) (names_of counters) (children-other x s) (counters-other x k)

  behind-other : (x : ℕ) → (x ≡ 119 → ⊥) → (x ≡ 115 → ⊥) → (x ≡ 107 → ⊥) → AllByRecursion (BeginsOther x) behind_rings
  behind-other x w s k =
      all-append (BeginsOther x) (names_of triggers) last (triggers-other (BeginsOther x) (119, [], refl, w)) (last-other x s k)

  behind-distinct : AreDistinct behind_rings
  behind-distinct =
      distinct-append (names_of triggers) last triggers-distinct last-distinct
      (apart-by (Begins 119) (BeginsOther 119) (begins-apart 119) (names_of triggers) last (triggers-other (Begins 119) ([], refl))
      (last-other 119 (λ e. omega arith) (λ e. omega arith)))

  lines-small : (q : LocalRow) → Contains (line_rows local) q → q.row < 20000
  lines-small q h = (facts.rows q (of-filter (λ (r : LocalRow). is_line r.op) local.rows q h).0).small

  abbrev behind_singles : List (List ℕ)
  behind_singles = names_of rings ++ behind_rings

  -- a name of a ring, and those that begin with other letters than its three
  RingOrOther : List ℕ → Type 0
  RingOrOther b = BeginsOther 109 b × BeginsOther 112 b × BeginsOther 110 b

  ring-apart : (a b : List ℕ) → RingName (line_rows local) a → RingOrOther b → a ≡ b → ⊥
  unfolding RingName RingOrOther
  ring-apart a b (q, h, inl is) other same = begins-apart 109 a b (decimal q.row, is) other.0 same
  ring-apart a b (q, h, inr (inl is)) other same = begins-apart 112 a b (decimal q.row, is) other.1 same
  ring-apart a b (q, h, inr (inr is)) other same = begins-apart 110 a b (decimal q.row, is) other.2 same

  three : (names : List (List ℕ)) → AllByRecursion (BeginsOther 109) names → AllByRecursion (BeginsOther 112) names →
      AllByRecursion (BeginsOther 110) names → AllByRecursion RingOrOther names
  unfolding RingOrOther
  three [] m p n = tt
  three (a ∷ names) m p n = ((m.0, p.0, n.0), three names m.1 p.1 n.1)

  rings-names-distinct : AreDistinct behind_singles
  rings-names-distinct =
      distinct-append (names_of rings) behind_rings
      (rings-distinct (line_rows local) lines-small
      (apart-filter number (λ (r : LocalRow). is_line r.op) local.rows rows-apart)) behind-distinct
      (apart-by (RingName (line_rows local)) RingOrOther ring-apart (names_of rings) behind_rings
      (ring-names (line_rows local) (line_rows local) (λ q h. h))
      (three behind_rings (behind-other 109 (λ e. omega arith) (λ e. omega arith) (λ e. omega arith))
      (behind-other 112 (λ e. omega arith) (λ e. omega arith) (λ e. omega arith))
      (behind-other 110 (λ e. omega arith) (λ e. omega arith) (λ e. omega arith))))

  abbrev behind_values : List (List ℕ)
  behind_values = names_of singles ++ behind_singles

  singles-names-distinct : AreDistinct behind_values
  unfolding SingleName
  singles-names-distinct =
      distinct-append (names_of singles) behind_singles
      (subst AreDistinct (sym (map-slots memory (single_rows local)))
      (rows-distinct 109 refl (λ (r : LocalRow). is_single r.op))) rings-names-distinct
      (apart-by SingleName BehindSingle behind-single (names_of singles) behind_singles
      (all-slots SingleName memory (single_rows local) (λ r h. (r, h, refl)))
      (all-append BehindSingle (names_of rings) behind_rings (rings-behind (line_rows local) (λ q h. h))
      (others-behind behind_rings (behind-other 109 (λ e. omega arith) (λ e. omega arith) (λ e. omega arith)))))

  all-distinct : AreDistinct (names_of values ++ behind_values)
  all-distinct =
      distinct-append (names_of values) behind_values
      (subst AreDistinct (sym (map-slots value (value_rows local)))
      (rows-distinct 118 refl (λ (r : LocalRow). has_value r.kind))) singles-names-distinct
      (apart-by (Begins 118) (BeginsOther 118) (begins-apart 118) (names_of values) behind_values
      (all-slots (Begins 118) value (value_rows local) (λ r h. (decimal r.row, refl)))
      (all-append (BeginsOther 118) (names_of singles) behind_singles (singles-other 118 (λ e. omega arith))
      (all-append (BeginsOther 118) (names_of rings) behind_rings
      (rings-other 118 (λ e. omega arith) (λ e. omega arith) (λ e. omega arith) (line_rows local))
      (behind-other 118 (λ e. omega arith) (λ e. omega arith) (λ e. omega arith)))))

  names-are : names_of (own_slots local ++ counters) ≡ names_of values ++ behind_values
  names-are =
      let last_slots = instances ++ counters in
      let behind = triggers ++ last_slots in
      ap names_of
      (append_assoc (values ++ singles ++ rings ++ triggers) instances counters
      ∙ append_assoc (values ++ singles ++ rings) triggers last_slots
      ∙ append_assoc (values ++ singles) rings behind ∙ append_assoc values singles (rings ++ behind))
      ∙ names-append values (singles ++ (rings ++ behind))
      ∙ ap (λ l. names_of values ++ l) (names-append singles (rings ++ behind)
      ∙ ap (λ l. names_of singles ++ l) (names-append rings behind
      ∙ ap (λ l. names_of rings ++ l)
      (names-append triggers last_slots ∙ ap (λ l. names_of triggers ++ l) (names-append instances counters))))

  or-filler : (slots : List Slot) → AreDistinct (names_of slots) → AreDistinct (names_of (or_filler slots))
  or-filler [] distinct = (refl, refl, tt)
  or-filler (s ∷ slots) distinct = distinct

  field-names : (slots : List Slot) → map (λ (f : FieldTree). f.name) (map slot_field slots) ≡ names_of slots
  field-names [] = refl
  field-names (s ∷ slots) = ap (λ rest. slot_name s ∷ rest) (field-names slots)

  pub fields-distinct : AreDistinct (map (λ (f : FieldTree). f.name) (map slot_field (code_slots local schedule)))
  fields-distinct =
      subst AreDistinct (sym (field-names (code_slots local schedule)))
      (or-filler (own_slots local ++ counters) (subst AreDistinct (sym names-are) all-distinct))
