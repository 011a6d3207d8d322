-- Where an instance is among those of the root.
use Rattle.std.proofs.Common.{◌≡◌, refl, sym, ◌∙◌, ap, ℕ, zero, suc, ◌+◌, ◌-◌, ◌<◌, ◌≤◌, ℤ, List, [], ◌∷◌, ◌++◌, length, arith, take, drop, slice_get, slice_index_or, Option, Some, None, append_assoc, subst, add-zero, zero-add, bytes_eq, Bool, true, false, cond}
use Rattle.std.specs.Prelude.{option_map, option_and_then}
use Rattle.std.specs.List.{position_from}
use Rattle.std.proofs.lemmas.Iterator.Adapters.{option_map_id}
use Rattle.std.proofs.lemmas.Option.{slice_get_past}
use Rattle.c_syntax.specs.declared.program.Field.{Field}
use Rattle.c_syntax.specs.declared.program.FieldKind.{FieldKind}
use Rattle.c_syntax.specs.declared.program.FieldKind.TheVariants as kind
use Rattle.c_semantics.specs.Cells.{Cells, cells_at}
use Rattle.c_syntax.specs.PlainField.{field_tree, field_trees}
use Rattle.c_syntax.specs.Tree.{FieldTree, struct_fields, ProgramTree}
use Rattle.c_interpreter.specs.declared.slots.Slot.TheVariants.{Instance}
use Rattle.c_interpreter.specs.Instances.{StructInstance, instance_under, field_named, field_child, child_named, field_number, number_named}
use Rattle.c_interpreter.specs.Layouts.{slot_of, slots_from, kind_size, AreLaidOut}
use Rattle.c_interpreter.specs.Numbering.{kind_count, fields_count, AreNumbered, instances_of, instances_in, instance_below, IsHeld, kind_before, struct_count, slot_number, IsPlace, IsStep, IsOnWay}
use Rattle.c_interpreter.specs.Slots.{StructLayout, layout_at, number_in}
use Rattle.c_interpreter.specs.Sound.{zeros_of, zero_at}
use Rattle.c_interpreter.specs.States.{filled}
use Rattle.c_interpreter.proofs.Numbered.{held, fields_counted, before_fits, trees_length}
use Rattle.c_interpreter.proofs.Paths.{reached_more, reached_fits, reads_under, slot_field}
use Rattle.c_interpreter.proofs.Places.{own_is, slot_there, offset}
use Rattle.c_interpreter.proofs.RootLaws.{position-map}

append_none : (s : List ℕ) → s ++ [] ≡ s
append_none [] = refl
append_none (x ∷ s) = ap (λ r. x ∷ r) (append_none s)

pub root_place : (p : ProgramTree) (layouts : List StructLayout) (root : ℕ) → root < length p.structs → IsPlace p layouts root 0 root 0
root_place p layouts root known =
    record {
      path = [];
      known = known;
      reached = (refl, refl);
      there = λ n below. ap (slice_get (instances_in p root)) (zero-add n) ∙ sym (option_map_id (slice_get (instances_in p root) n));
    }

pub named_is : (fs : List Field) (n : List ℕ) → position_from (λ f. bytes_eq f.name n) 0 fs ≡ field_named (field_trees fs) n
named_is fs n = position-map field_tree (λ f. bytes_eq f.name n) 0 fs

named_within : (fields : List FieldTree) (n : List ℕ) (i k : ℕ) →
    Some k ≡ position_from (λ f. bytes_eq f.name n) i fields → k < i + length fields
named_within [] n i k e = absurd (cc)
named_within (x ∷ xs) n i k e = by_test (bytes_eq x.name n) (named_within xs n (i + 1) k) e
  where
    by_test : (b : Bool) → (Some k ≡ position_from (λ f. bytes_eq f.name n) (i + 1) xs → k < i + 1 + length xs) →
        Some k ≡ cond b (Some i) (position_from (λ f. bytes_eq f.name n) (i + 1) xs) → k < i + length (x ∷ xs)
    by_test true rest h = let same : k ≡ i = cc in omega arith
    by_test false rest h = let r : k < i + 1 + length xs = rest h in omega arith

pub position_within : (fs : List Field) (n : List ℕ) (k : ℕ) → Some k ≡ position_from (λ f. bytes_eq f.name n) 0 fs → k < length fs
position_within fs n k e = omega (arith, named_within (field_trees fs) n 0 k (e ∙ named_is fs n), trees_length fs)

-- ---- the numbers of one instance
no_slot : (layouts : List StructLayout) (at : ℕ) (fields : List FieldTree) (f : ℕ) → slice_get fields f ≡ None →
    slice_get (slots_from layouts at fields) f ≡ None
no_slot layouts at [] f gone = refl
no_slot layouts at (x ∷ xs) zero gone = absurd (cc)
no_slot layouts at (x ∷ xs) (suc f) gone = no_slot layouts (at + kind_size layouts x.kind) xs f gone

field_slot : (p : ProgramTree) (layouts : List StructLayout) (laid : AreLaidOut p.structs layouts (zeros_of p))
    (struct f : ℕ) (s : List ℤ) →
    option_and_then (λ x. field_number (filled (zero_at p struct) s) f x.kind)
    (slice_get (struct_fields p.structs struct) f) ≡ slot_number s (slice_get (layout_at layouts struct).slots f)
field_slot p layouts laid struct f s = by_field (slice_get (struct_fields p.structs struct) f) refl
  where
    by_kind : (x : FieldTree) (k : FieldKind) → x.kind ≡ k → slice_get (struct_fields p.structs struct) f ≡ Some x →
        field_number (filled (zero_at p struct) s) f k ≡ slot_number s (slice_get (layout_at layouts struct).slots f)
    by_kind x (kind.Number type) is there =
        let slot = slot_there p.structs layouts (zeros_of p) laid struct f x there
        ∙ (λ j. Some
        (slot_of layouts (0 + offset layouts (zeros_of p) laid.sized (struct_fields p.structs struct) f) (is j))) in
        ap Some (own_is p.structs layouts (zeros_of p) laid struct s f ∙ ap (number_in s) slot) ∙ sym (ap (slot_number s) slot)
    by_kind x (kind.Array type count) is there =
        let slot = slot_there p.structs layouts (zeros_of p) laid struct f x there
        ∙ (λ j. Some
        (slot_of layouts (0 + offset layouts (zeros_of p) laid.sized (struct_fields p.structs struct) f) (is j))) in
        sym (ap (slot_number s) slot)
    by_kind x (kind.Struct k) is there =
        let slot = slot_there p.structs layouts (zeros_of p) laid struct f x there
        ∙ (λ j. Some
        (slot_of layouts (0 + offset layouts (zeros_of p) laid.sized (struct_fields p.structs struct) f) (is j))) in
        sym (ap (slot_number s) slot)

    by_field : (o : Option FieldTree) → slice_get (struct_fields p.structs struct) f ≡ o →
        option_and_then (λ x. field_number (filled (zero_at p struct) s) f x.kind) o
        ≡ slot_number s (slice_get (layout_at layouts struct).slots f)
    by_field None there =
        sym (ap (slot_number s) (ap (λ t. slice_get t f) (laid.slots_are struct)
        ∙ no_slot layouts 0 (struct_fields p.structs struct) f there))
    by_field (Some x) there = by_kind x x.kind refl there

module _ (p : ProgramTree) (layouts : List StructLayout) (counts : List ℕ) (numbered : AreNumbered p.structs counts (instances_of p)) where
  -- an instance of a struct is itself and those in its fields
  pub whole_count : (k : ℕ) → k < length p.structs → length (instances_in p k) ≡ suc (fields_count counts (struct_fields p.structs k))
  whole_count k known = let e = ap (λ (xs : List StructInstance). length xs) (numbered.first k known) in
      omega (arith, e, fields_counted counts (instances_of p) numbered.counted 0 (struct_fields p.structs k))

  -- the instance in a field of one that is there
  pub place_more : (root number struct at position from size inner : ℕ) (x : FieldTree) →
      IsPlace p layouts root number struct at → slice_get (struct_fields p.structs struct) position ≡ Some x →
      x.kind ≡ kind.Struct inner →
      slice_get (layout_at layouts struct).slots position ≡ Some (Instance from size inner) →
      IsPlace p layouts root (number + suc (fields_count counts (take position (struct_fields p.structs struct)))) inner
      (at + from)
  place_more root number struct at position from size inner x place there is slot =
      let fields : List FieldTree = struct_fields p.structs struct in
      let before : ℕ = fields_count counts (take position fields) in
      let below : inner < struct = numbered.earlier struct position inner x there is in
      let known : struct < length p.structs = place.known in
      record {
        path = place.path ++ position ∷ [];
        known = omega arith;
        reached = reached_more layouts root place.path struct at position from size inner place.reached slot;
        there = λ n h.
            let fits = before_fits counts fields position x there in
            let many : kind_count counts x.kind ≡ length (instances_in p inner) =
            (λ i. kind_count counts (is i)) ∙ numbered.counted inner in
            let inside : suc (before + n) < length (instances_in p struct) = omega (arith, whole_count struct known) in
            let sum : number + suc before + n ≡ number + suc (before + n) = omega arith in
            ap (slice_get (instances_in p root)) sum ∙ place.there (suc (before + n)) inside
            ∙ ap (option_map (instance_below place.path))
            (ap (λ (xs : List StructInstance). slice_get xs (suc (before + n))) (numbered.first struct known)
            ∙ held counts (instances_of p) numbered.counted 0 fields position x inner n there is h)
            ∙ composed (slice_get (instances_in p inner) n);
      }
    where
      composed : (o : Option StructInstance) →
          option_map (instance_below place.path) (option_map (instance_under (0 + position)) o)
          ≡ option_map (instance_below (place.path ++ position ∷ [])) o
      composed None = refl
      composed (Some i) =
          λ j. Some
          (record {
            path = ((λ l. place.path ++ (zero-add position l ∷ i.path))
                ∙ sym (append_assoc place.path (position ∷ []) i.path)) j;
            struct = i.struct;
          })

  -- the instance itself
  pub place_is : (root number struct at : ℕ) (place : IsPlace p layouts root number struct at) →
      slice_get (instances_in p root) number ≡ Some (record { path = place.path; struct = struct })
  place_is root number struct at place =
      let many = whole_count struct place.known in
      ap (slice_get (instances_in p root)) (sym (add-zero number)) ∙ place.there 0 (omega arith)
      ∙ (λ i. option_map (instance_below place.path) (slice_get (numbered.first struct place.known i) 0))
      ∙ (λ i. Some (record { path = append_none place.path i; struct = struct }))

  pub place_within : (root number struct at : ℕ) → IsPlace p layouts root number struct at → number < length (instances_in p root)
  place_within root number struct at place = within (instances_in p root) number (place_is root number struct at place)
    where
      within : (xs : List StructInstance) (k : ℕ) {x : StructInstance} → slice_get xs k ≡ Some x → k < length xs
      within [] k there = absurd (cc)
      within (y ∷ xs) zero there = omega arith
      within (y ∷ xs) (suc k) there = omega (arith, within xs k there)

  -- an instance with those inside it is no more than what follows
  pub place_count : (root number struct at : ℕ) → IsPlace p layouts root number struct at →
      number + length (instances_in p struct) ≤ length (instances_in p root)
  place_count root number struct at place =
      by_item (slice_get (instances_in p struct) (fields_count counts (struct_fields p.structs struct))) refl
    where
      within : (xs : List StructInstance) (k : ℕ) (x : StructInstance) → slice_get xs k ≡ Some x → k < length xs
      within [] k x there = absurd (cc)
      within (y ∷ xs) zero x there = omega arith
      within (y ∷ xs) (suc k) x there = omega (arith, within xs k x there)

      past : (xs : List StructInstance) (k : ℕ) → slice_get xs k ≡ None → length xs ≤ k
      past [] k gone = omega arith
      past (y ∷ xs) zero gone = absurd (cc)
      past (y ∷ xs) (suc k) gone = omega (arith, past xs k gone)

      many : length (instances_in p struct) ≡ suc (fields_count counts (struct_fields p.structs struct))
      many = whole_count struct place.known

      by_item : (o : Option StructInstance) →
          slice_get (instances_in p struct) (fields_count counts (struct_fields p.structs struct)) ≡ o →
          number + length (instances_in p struct) ≤ length (instances_in p root)
      by_item None gone = let h =
          past (instances_in p struct) (fields_count counts (struct_fields p.structs struct)) gone in let m = many in
          absurd (omega arith)
      by_item (Some x) there =
          let m = many in
          let h = place.there (fields_count counts (struct_fields p.structs struct)) (omega arith)
          ∙ ap (option_map (instance_below place.path)) there in
          let w = within (instances_in p root) (number + fields_count counts (struct_fields p.structs struct))
          (instance_below place.path x) h in
          omega arith

  -- ---- steps
  -- the field in which an instance is
  pub held_slot : (laid : AreLaidOut p.structs layouts (zeros_of p)) (of position left number : ℕ) →
      IsHeld counts (struct_fields p.structs of) position left number →
      (from size inner : ℕ) × (slice_get (layout_at layouts of).slots position ≡ Some (Instance from size inner))
  held_slot laid of position left number h = by_kind h.field.kind refl h.inside
    where
      by_kind : (k : FieldKind) → h.field.kind ≡ k → left < kind_count counts k →
          (from size inner : ℕ) × (slice_get (layout_at layouts of).slots position ≡ Some (Instance from size inner))
      by_kind (kind.Number type) is inside = absurd (omega arith)
      by_kind (kind.Array type count) is inside = absurd (omega arith)
      by_kind (kind.Struct k) is inside = (
        _,
        _,
        _,
        slot_there p.structs layouts (zeros_of p) laid of position h.field h.there
            ∙ (λ j. Some
            (slot_of layouts (0 + offset layouts (zeros_of p) laid.sized (struct_fields p.structs of) position) (is j))),
      )

  pub step_is : (laid : AreLaidOut p.structs layouts (zeros_of p)) (of position left number from size inner : ℕ) →
      IsHeld counts (struct_fields p.structs of) position left number →
      Some (Instance from size inner) ≡ slice_get (layout_at layouts of).slots position →
      IsStep p layouts counts of inner from left number
  step_is laid of position left number from size inner h slot =
      let x = slot_field p.structs layouts (zeros_of p) laid of position from size inner (sym slot) in
      let same : h.field ≡ x.0 = let both : Some h.field ≡ Some x.0 = sym h.there ∙ x.1 in cc in
      record {
        position = position;
        size = size;
        field = x.0;
        there = x.1;
        kind_is = x.2;
        slot = sym slot;
        inside = subst (λ (k : FieldKind). left < kind_count counts k) ((λ j. (same j).kind) ∙ x.2) h.inside;
        sum = h.sum;
      }

  -- ---- the way to an instance
  pub way_begins : (root instance : ℕ) → root < length p.structs → instance < length (instances_in p root) →
      IsOnWay p layouts root instance instance root 0
  way_begins root instance known inside =
      record { base = 0; sum = zero-add instance; place = root_place p layouts root known; inside = inside }

  pub way_goes : (root instance left struct at inner from rest : ℕ) → IsOnWay p layouts root instance left struct at →
      0 < left → IsStep p layouts counts struct inner from rest (left - 1) →
      IsOnWay p layouts root instance rest inner (at + from)
  way_goes root instance left struct at inner from rest way more step =
      let before : ℕ = fields_count counts (take step.position (struct_fields p.structs struct)) in
      let is : left - 1 ≡ before + rest = step.sum in
      let all : way.base + left ≡ instance = way.sum in
      let n : slice_index_or counts inner 0 ≡ length (instances_in p inner) = numbered.counted inner in
      let inside : rest < slice_index_or counts inner 0 = step.inside in
      record {
        base = way.base + suc before;
        sum = omega arith;
        place = place_more root way.base struct at step.position from step.size inner step.field way.place step.there
            step.kind_is step.slot;
        inside = omega arith;
      }

  pub way_fits : (laid : AreLaidOut p.structs layouts (zeros_of p)) (root instance left struct at : ℕ) →
      IsOnWay p layouts root instance left struct at → at ≤ (layout_at layouts root).size
  way_fits laid root instance left struct at way = let f =
      reached_fits p.structs layouts (zeros_of p) laid root way.place.path struct at way.place.reached in omega arith

  pub way_lost : (root instance left struct at : ℕ) → IsOnWay p layouts root instance left struct at → 0 < left →
      fields_count counts (struct_fields p.structs struct) ≤ left - 1 → ⊥
  way_lost root instance left struct at way more none =
      let many = whole_count struct way.place.known in
      let inside : left < length (instances_in p struct) = way.inside in
      omega arith

  pub way_ends : (root instance struct at : ℕ) → IsOnWay p layouts root instance 0 struct at → IsPlace p layouts root instance struct at
  way_ends root instance struct at way =
      let same : way.base ≡ instance = sym (add-zero way.base) ∙ way.sum in
      record {
        path = way.place.path;
        known = way.place.known;
        reached = way.place.reached;
        there = λ n h. ap (λ k. slice_get (instances_in p root) (k + n)) (sym same) ∙ way.place.there n h;
      }

  -- ---- children by name
  at_name : {A : Type 0} (fields : List FieldTree) (name : List ℕ) (go : ℕ → FieldTree → Option A) (position : ℕ)
      (o : Option FieldTree) → field_named fields name ≡ Some position → slice_get fields position ≡ o →
      option_and_then (λ f. option_and_then (go f) (slice_get fields f)) (field_named fields name)
      ≡ option_and_then (go position) o
  at_name fields name go position o named there =
      ap (option_and_then (λ f. option_and_then (go f) (slice_get fields f))) named
      ∙ ap (option_and_then (go position)) there

  no_name : {A : Type 0} (fields : List FieldTree) (name : List ℕ) (go : ℕ → FieldTree → Option A) →
      None ≡ field_named fields name →
      None ≡ option_and_then (λ f. option_and_then (go f) (slice_get fields f)) (field_named fields name)
  no_name fields name go none = ap (option_and_then (λ f. option_and_then (go f) (slice_get fields f))) none

  pub no_instance : {A : Type 0} (root instance : ℕ) (go : StructInstance → Option A) →
      length (instances_in p root) ≤ instance → None ≡ option_and_then go (slice_get (instances_in p root) instance)
  no_instance root instance go past = ap (option_and_then go) (sym (slice_get_past (instances_in p root) instance past))

  -- what is asked of an instance that is there
  asked : {A : Type 0} (root number struct at : ℕ) (place : IsPlace p layouts root number struct at)
      (go : StructInstance → Option A) →
      option_and_then go (slice_get (instances_in p root) number) ≡ go (record { path = place.path; struct = struct })
  asked root number struct at place go = ap (option_and_then go) (place_is root number struct at place)

  pub child_unnamed : (root instance struct at : ℕ) (name : List ℕ) → IsPlace p layouts root instance struct at →
      None ≡ field_named (struct_fields p.structs struct) name →
      None ≡ option_and_then (child_named p name) (slice_get (instances_in p root) instance)
  child_unnamed root instance struct at name place none =
      no_name (struct_fields p.structs struct) name
      (λ f x. field_child (record { path = place.path; struct = struct }) f x.kind) none
      ∙ sym (asked root instance struct at place (child_named p name))

  pub child_none : (root instance struct at position : ℕ) (name : List ℕ) → IsPlace p layouts root instance struct at →
      Some position ≡ field_named (struct_fields p.structs struct) name →
      None ≡ struct_count counts (struct_fields p.structs struct) position →
      None ≡ option_and_then (child_named p name) (slice_get (instances_in p root) instance)
  child_none root instance struct at position name place named none =
      by_field (slice_get (struct_fields p.structs struct) position) none
      ∙ sym (asked root instance struct at place (child_named p name)
      ∙ at_name (struct_fields p.structs struct) name (λ f x. field_child i f x.kind) position
      (slice_get (struct_fields p.structs struct) position) (sym named) refl)
    where
      i : StructInstance
      i = record { path = place.path; struct = struct }

      by_kind : (k : FieldKind) →
          None ≡ kind_before (fields_count counts (take position (struct_fields p.structs struct))) k →
          None ≡ field_child i position k
      by_kind (kind.Number type) e = refl
      by_kind (kind.Array type count) e = refl
      by_kind (kind.Struct k) e = absurd (cc)

      by_field : (o : Option FieldTree) →
          None ≡ option_and_then
          (λ x. kind_before (fields_count counts (take position (struct_fields p.structs struct))) x.kind) o →
          None ≡ option_and_then (λ x. field_child i position x.kind) o
      by_field None e = refl
      by_field (Some x) e = by_kind x.kind e

  -- a child by its name, and its number
  pub record IsChildAt (root instance number : ℕ) (name : List ℕ) : Type 0 where
    pub is : slice_get (instances_in p root) number ≡ option_and_then (child_named p name) (slice_get (instances_in p root) instance)
    pub within : number < length (instances_in p root)

  pub child_some : (laid : AreLaidOut p.structs layouts (zeros_of p)) (root instance struct at position before : ℕ)
      (name : List ℕ) → IsPlace p layouts root instance struct at →
      Some position ≡ field_named (struct_fields p.structs struct) name →
      Some before ≡ struct_count counts (struct_fields p.structs struct) position →
      IsChildAt root instance (instance + 1 + before) name
  unfolding place_more
  child_some laid root instance struct at position before name place named some =
      by_field (slice_get (struct_fields p.structs struct) position) refl some
    where
      fields : List FieldTree
      fields = struct_fields p.structs struct

      i : StructInstance
      i = record { path = place.path; struct = struct }

      by_kind : (x : FieldTree) (k : FieldKind) → x.kind ≡ k →
          slice_get (struct_fields p.structs struct) position ≡ Some x →
          Some before ≡ kind_before (fields_count counts (take position (struct_fields p.structs struct))) k →
          IsChildAt root instance (instance + 1 + before) name
      by_kind x (kind.Number type) is there e = absurd (cc)
      by_kind x (kind.Array type count) is there e = absurd (cc)
      by_kind x (kind.Struct k) is there e =
          let same : before ≡ fields_count counts (take position (struct_fields p.structs struct)) = cc in
          let n : instance + suc (fields_count counts (take position (struct_fields p.structs struct)))
          ≡ instance + 1 + before = omega arith in
          let slot = slot_there p.structs layouts (zeros_of p) laid struct position x there
          ∙ (λ j. Some
          (slot_of layouts (0 + offset layouts (zeros_of p) laid.sized (struct_fields p.structs struct) position)
          (is j))) in
          let child = place_more root instance struct at position _ _ k x place there is slot in
          let right : option_and_then (child_named p name) (slice_get (instances_in p root) instance)
          ≡ Some (record { path = place.path ++ position ∷ []; struct = k }) =
          asked root instance struct at place (child_named p name)
          ∙ at_name (struct_fields p.structs struct) name
          (λ f y. field_child (record { path = place.path; struct = struct }) f y.kind) position (Some x)
          (sym named) there ∙ (λ j. field_child (record { path = place.path; struct = struct }) position (is j)) in
          let within =
          place_within root (instance + suc (fields_count counts (take position (struct_fields p.structs struct))))
          k _ child in
          record {
            is = ap (slice_get (instances_in p root)) (sym n)
                ∙ place_is root (instance + suc (fields_count counts (take position (struct_fields p.structs struct))))
                k _ child ∙ sym right;
            within = omega arith;
          }

      by_field : (o : Option FieldTree) → slice_get (struct_fields p.structs struct) position ≡ o →
          Some before ≡ option_and_then
          (λ x. kind_before (fields_count counts (take position (struct_fields p.structs struct))) x.kind) o →
          IsChildAt root instance (instance + 1 + before) name
      by_field None there e = absurd (cc)
      by_field (Some x) there e = by_kind x x.kind refl there e

  -- ---- numbers by name
  pub number_unnamed : (root instance struct at : ℕ) (cells : Cells) (name : List ℕ) →
      IsPlace p layouts root instance struct at → None ≡ field_named (struct_fields p.structs struct) name →
      None ≡ option_and_then (number_named p cells name) (slice_get (instances_in p root) instance)
  number_unnamed root instance struct at cells name place none =
      no_name (struct_fields p.structs struct) name (λ f x. field_number (cells_at place.path cells) f x.kind) none
      ∙ sym (asked root instance struct at place (number_named p cells name))

  pub number_some : (laid : AreLaidOut p.structs layouts (zeros_of p)) (root instance struct at position : ℕ)
      (s : List ℤ) (name : List ℕ) → IsPlace p layouts root instance struct at →
      Some position ≡ field_named (struct_fields p.structs struct) name →
      slot_number (drop at s) (slice_get (layout_at layouts struct).slots position)
      ≡ option_and_then (number_named p (filled (zero_at p root) s) name) (slice_get (instances_in p root) instance)
  number_some laid root instance struct at position s name place named =
      sym (field_slot p layouts laid struct position (drop at s))
      ∙ (λ j. option_and_then
      (λ x. field_number
      (sym (reads_under p.structs layouts (zeros_of p) laid root place.path struct at s place.reached) j) position
      x.kind) (slice_get (struct_fields p.structs struct) position))
      ∙ sym (asked root instance struct at place (number_named p (filled (zero_at p root) s) name)
      ∙ at_name (struct_fields p.structs struct) name
      (λ f x. field_number (cells_at place.path (filled (zero_at p root) s)) f x.kind) position
      (slice_get (struct_fields p.structs struct) position) (sym named) refl)
