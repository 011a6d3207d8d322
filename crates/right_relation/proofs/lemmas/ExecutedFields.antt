-- One node more is one field more: no other slot is of that row, or of that child.
use Rattle.std.specs.Prelude.{◌≡◌, ℕ, zero, suc, ◌≤◌, Bool, true, false, ◌||◌, ◌&&◌, ◌==◌, if◌then◌else◌, List, [], ◌∷◌, slice_get, Option, Some, None, ℤ, refl}
use Rattle.std.proofs.Common.{ap, ap₂, ◌∙◌, arith, true≢false}
use Rattle.std.proofs.lemmas.Bool.{eq-eqb}
use Rattle.std.proofs.lemmas.Option.{same_Some, none-some}
use Rattle.diagram_meaning.specs.Rows.{is_system}
use Rattle.modules_profile.specs.declared.ChildUse.{ChildUse}
use Rattle.modules_profile.specs.declared.LocalRow.{LocalRow}
use Rattle.modules_profile.specs.declared.Node.{Node}
use Rattle.modules_profile.specs.declared.Node.TheVariants.{Row, Call}
use Rattle.modules_profile.specs.LocalSystem.{LocalSystem}
use Rattle.c_semantics.specs.Cells.{number, object, Cells, more_cells, set_cell}
use Rattle.emit_shape.specs.Slots.{Slot, value, memory, ring_items, ring_place, ring_taken, trigger, counter, instance, filler}
use Rattle.right_relation.specs.LocalTicks.{LocalTick, is_active}
use Rattle.right_relation.specs.Instances.{InstanceTick, instance_at, with_called}
use Rattle.right_relation.specs.Standing.{with_node, is_call_executed, called_in, standing_cell, standing_cells}
use Rattle.right_relation.specs.ExecutedNodes.{RowIsOneField, RowIsNoField, CallIsOneChild}
use Rattle.right_relation.proofs.Totals.{total}
use Rattle.right_relation.proofs.lemmas.SlotMembers.{one-if, one-value, one-child, counted-at, value-once, value-never, child-once}

-- ---- What one node more says of another

not-passed : (t other : Bool) → one-if t ≡ 0 → (t || other) ≡ other
not-passed true other none = absurd (omega (arith, none))
not-passed false other none = refl

calls-aside : (active : Bool) (row : Option ℕ) (executed : Node → Bool) (b j : ℕ) →
    (active && is_call_executed row (with_node executed (Row b)) j) ≡ (active && is_call_executed row executed j)
calls-aside active None executed b j = refl
calls-aside active (Some e) executed b j = refl

-- a call of another child
others-called : (active : Bool) (row : Option ℕ) (executed : Node → Bool) (e j i : ℕ) → one-if (is_system row e) ≡ 0 →
    (active && is_call_executed row (with_node executed (Call e j)) i) ≡ (active && is_call_executed row executed i)
others-called active None executed e j i none = refl
others-called active (Some s) executed e j i none = ap (λ t. active && t) (by (s == e) none)
  where
    by : (t : Bool) → one-if t ≡ 0 → ((t && (i == j)) || executed (Call s i)) ≡ executed (Call s i)
    by true none = absurd (omega (arith, none))
    by false none = refl

-- a call of this child
itself-called : (active : Bool) (row : Option ℕ) (executed : Node → Bool) (e j i : ℕ) → active ≡ true → row ≡ Some e →
    (active && is_call_executed row (with_node executed (Call e j)) i) ≡ ((i == j) || (true && is_call_executed row executed i))
itself-called active None executed e j i does is = absurd (none-some e is)
itself-called active (Some s) executed e j i does is =
    ap (λ a. a && (((s == e) && (i == j)) || executed (Call s i))) does
    ∙ ap (λ t. (t && (i == j)) || executed (Call s i)) (eq-eqb s e (same_Some s e is))

-- none where the system isn't active
never-called : (active x y : Bool) → active ≡ false → (active && x) ≡ (active && y)
never-called true x y rests = absurd (true≢false rests)
never-called false x y rests = refl

module _ (local : LocalSystem) (m : LocalTick) (children : List InstanceTick) (counted : List ℕ → ℤ) where
  abbrev cells : (Node → Bool) → List Slot → Cells
  cells executed slots = standing_cells local m children slots executed counted

  -- ---- A row

  row-aside : (executed : Node → Bool) (b : ℕ) (x : Slot) → one-value b x ≡ 0 →
      standing_cell local m children (with_node executed (Row b)) counted x ≡ standing_cell local m children executed counted x
  row-aside executed b (value q) none =
      ap (λ t. number (if t then m.tick.value q.row else m.tick.before q.row)) (not-passed (q.row == b) (executed (Row q.row)) none)
  row-aside executed b (instance k u) none =
      ap (λ called. object ((instance_at children k).standing called)) (λ i j. calls-aside (is_active local m) u.header.row executed b j i)
  row-aside executed b _ none = refl

  rows-aside : (executed : Node → Bool) (b : ℕ) (slots : List Slot) → total (one-value b) slots ≡ 0 →
      cells (with_node executed (Row b)) slots ≡ cells executed slots
  rows-aside executed b [] none = refl
  rows-aside executed b (x ∷ slots) none =
      ap₂ more_cells (row-aside executed b x (omega (arith, none))) (rows-aside executed b slots (omega (arith, none)))

  one-field : (executed : Node → Bool) (r : LocalRow) (slots : List Slot) (f : ℕ) → total (one-value r.row) slots ≤ 1 →
      slice_get slots f ≡ Some (value r) →
      cells (with_node executed (Row r.row)) slots ≡ set_cell (cells executed slots) f (number (m.tick.value r.row))
  one-field executed r [] f few at = absurd (none-some (value r) at)
  one-field executed r (x ∷ slots) zero few at =
      let same : x ≡ value r = same_Some x (value r) at in
      let itself : (r.row == r.row) ≡ true = eq-eqb r.row r.row refl in
      let one : one-value r.row x ≡ 1 = ap (one-value r.row) same ∙ ap (λ t. one-if t) itself in
      ap₂ more_cells
      (ap (standing_cell local m children (with_node executed (Row r.row)) counted) same
      ∙ ap (λ t. number (if t || executed (Row r.row) then m.tick.value r.row else m.tick.before r.row)) itself)
      (rows-aside executed r.row slots (omega (arith, few, one)))
  one-field executed r (x ∷ slots) (suc f) few at =
      let one : one-value r.row (value r) ≡ 1 = ap (λ t. one-if t) (eq-eqb r.row r.row refl) in
      let there = counted-at (one-value r.row) slots f (value r) at in
      ap₂ more_cells (row-aside executed r.row x (omega (arith, few, one, there))) (one-field executed r slots f (omega (arith, few)) at)

  -- ---- A call

  call-aside : (executed : Node → Bool) (e j : ℕ) (x : Slot) → one-child e x ≡ 0 →
      standing_cell local m children (with_node executed (Call e j)) counted x ≡ standing_cell local m children executed counted x
  call-aside executed e j (instance k u) none =
      ap (λ called. object ((instance_at children k).standing called))
      (λ i n. others-called (is_active local m) u.header.row executed e j n none i)
  call-aside executed e j _ none = refl

  calls-apart : (executed : Node → Bool) (e j : ℕ) (slots : List Slot) → total (one-child e) slots ≡ 0 →
      cells (with_node executed (Call e j)) slots ≡ cells executed slots
  calls-apart executed e j [] none = refl
  calls-apart executed e j (x ∷ slots) none =
      ap₂ more_cells (call-aside executed e j x (omega (arith, none))) (calls-apart executed e j slots (omega (arith, none)))

  module _ (executed : Node → Bool) (e j k : ℕ) (u : ChildUse) (is : u.header.row ≡ Some e) where
    itself : one-if (is_system u.header.row e) ≡ 1
    itself = ap (λ o. one-if (is_system o e)) is ∙ ap (λ t. one-if t) (eq-eqb e e refl)

    one-further : is_active local m ≡ true → (slots : List Slot) (f : ℕ) → total (one-child e) slots ≤ 1 →
        slice_get slots f ≡ Some (instance k u) →
        cells (with_node executed (Call e j)) slots
        ≡ set_cell (cells executed slots) f (object ((instance_at children k).standing (with_called (called_in true executed u) j)))
    one-further does [] f few at = absurd (none-some (instance k u) at)
    one-further does (x ∷ slots) zero few at =
        let same : x ≡ instance k u = same_Some x (instance k u) at in
        let one : one-child e x ≡ 1 = ap (one-child e) same ∙ itself in
        ap₂ more_cells
        (ap (standing_cell local m children (with_node executed (Call e j)) counted) same
        ∙ ap (λ called. object ((instance_at children k).standing called))
        (λ i n. itself-called (is_active local m) u.header.row executed e j n does is i))
        (calls-apart executed e j slots (omega (arith, few, one)))
    one-further does (x ∷ slots) (suc f) few at =
        let there = counted-at (one-child e) slots f (instance k u) at in
        ap₂ more_cells (call-aside executed e j x (omega (arith, few, itself, there))) (one-further does slots f (omega (arith, few)) at)

  rests : (executed : Node → Bool) (e j : ℕ) → is_active local m ≡ false → (x : Slot) →
      standing_cell local m children (with_node executed (Call e j)) counted x ≡ standing_cell local m children executed counted x
  rests executed e j still (instance k u) =
      ap (λ called. object ((instance_at children k).standing called))
      (λ i n. never-called (is_active local m) (is_call_executed u.header.row (with_node executed (Call e j)) n)
      (is_call_executed u.header.row executed n) still i)
  rests executed e j still _ = refl

  all-rest : (executed : Node → Bool) (e j : ℕ) → is_active local m ≡ false → (slots : List Slot) →
      cells (with_node executed (Call e j)) slots ≡ cells executed slots
  all-rest executed e j still [] = refl
  all-rest executed e j still (x ∷ slots) = ap₂ more_cells (rests executed e j still x) (all-rest executed e j still slots)

pub row_is_one_field : RowIsOneField
row_is_one_field local slots m children sound are executed counted f r at =
    one-field local m children counted executed r slots f (value-once local slots are sound r.row) at

pub row_is_no_field : RowIsNoField
row_is_no_field local slots m children sound are executed counted r own none =
    rows-aside local m children counted executed r.row slots (value-never local slots are sound r own none)

pub call_is_one_child : CallIsOneChild
call_is_one_child local slots m children sound are executed counted f k j e u at is = by (is_active local m) refl
  where
    further : Cells
    further =
        set_cell (standing_cells local m children slots executed counted) f
        (object ((instance_at children k).standing (with_called (called_in true executed u) j)))

    by : (t : Bool) → is_active local m ≡ t →
        standing_cells local m children slots (with_node executed (Call e j)) counted
        ≡ (if t then further else standing_cells local m children slots executed counted)
    by true does = one-further local m children counted executed e j k u is does slots f (child-once local slots are sound e) at
    by false still = all-rest local m children counted executed e j still slots
