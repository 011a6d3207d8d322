-- What acts come to inside an instance, from what they come to in each of its children.
use Rattle.std.specs.Prelude.{◌≡◌, ◌⊎◌, ℕ, suc, ◌+◌, ◌<◌, ◌≤◌, Bool, true, ◌&&◌, List, [], ◌∷◌, map, filter, length, slice_get, Contains, Option, Some, ℤ, refl}
use Rattle.std.specs.List.{enumerate_from}
use Rattle.std.proofs.Common.{sym, ap, subst, ◌∙◌, arith, inl, inr}
use Rattle.std.proofs.lemmas.Bool.{and_from, and_parts}
use Rattle.diagram_blocks.specs.Meaning.{has_value}
use Rattle.diagram_meaning.specs.Rows.{row_at, row_numbers, rows_of, is_inside}
use Rattle.diagram_blocks.specs.Kinds.{is_subsystem}
use Rattle.diagram_meaning.specs.Laws.{Run}
use Rattle.modules_profile.specs.declared.ChildUse.{ChildUse}
use Rattle.modules_profile.specs.declared.LocalRow.{LocalRow}
use Rattle.modules_profile.specs.declared.Node.{Node}
use Rattle.modules_profile.specs.LocalSystem.{LocalSystem}
use Rattle.modules_profile.specs.Locals.{local_row}
use Rattle.modules_profile.specs.LawfulLocals.{IsLocal}
use Rattle.modules_profile.specs.Systems.{system_name, systems_inside}
use Rattle.modules_profile.proofs.lemmas.Members.{in-first, in-rest, in-cases, in-map, of-map, in-filter, of-filter, in-range, of-range, in-at}
use Rattle.modules_profile.proofs.lemmas.OwnRows.{differ-at}
use Rattle.emit_shape.specs.Names.{value_name, child_name}
use Rattle.emit_shape.specs.Slots.{Slot, value, instance}
use Rattle.right_relation.specs.Budgets.{own_budget}
use Rattle.right_relation.specs.Instances.{Act, none_called, InstanceTick, instance_at, calls_at, calls_inside}
use Rattle.right_relation.specs.LocalTicks.{LocalTick, is_active}
use Rattle.right_relation.specs.Accounts.{log_along, most_along, stored_along}
use Rattle.right_relation.specs.Standing.{executed_by, called_in}
use Rattle.right_claim.specs.Calls.{HasCallsOf}
use Rattle.right_claim.specs.Paths.{place_in, path_inside}
use Rattle.right_linking.specs.Parts.{Parts, program_of, diagram, all_systems, coded_header, Views}
use Rattle.right_linking.specs.Places.{FieldsAreFound}
use Rattle.right_linking.specs.Starts.{budget_inside}
use Rattle.right_linking.specs.Lives.{is_around_active, StoredAtMost}
use Rattle.right_program_costs.proofs.Sums.{total, total-is, total-map, total-le}
use Rattle.right_program_costs.proofs.Logs.{calls-inside}
use Rattle.right_program_costs.proofs.AlongTick.{Sums, child-at, sum-same}
use Rattle.right_linking.proofs.lemmas.SystemsUnder.{IsChildRow, Under, inside-cases, under-inside, own-inside, more-inside, inside-under, way-to-child, way-through-child}
use Rattle.right_program_costs.proofs.SumsInside.{sum-inside}
use Rattle.right_program_costs.proofs.SlotPlaces.{child-slot, value-slot, child-of-slot, slot-cases}
use Rattle.right_linking.proofs.lemmas.AssembledPlaces.{member, all-made}
use Rattle.right_linking.proofs.lemmas.ChildRows.{nested, row-of-child, child-of-row}
use Rattle.right_program_costs.proofs.ChildActs.{CallsRight, KeepsLimits}

total-numbered : {A : Type 0} (f : A → ℕ) (n : ℕ) (xs : List A) → total (λ (e : ℕ × A). f e.1) (enumerate_from n xs) ≡ total f xs
total-numbered f n [] = refl
total-numbered f n (x ∷ xs) = ap (λ k. f x + k) (total-numbered f (n + 1) xs)

module _ (fields : FieldsAreFound) (a : Parts) (v : Views a) (place : ℕ) (n : Option ℕ)
    (stands : slice_get (all_systems a) place ≡ Some n) (lawful : IsLocal (v.at n).local)
    (s : Option ℕ) (xs : List (List ℤ)) (run : Run) (t : ℕ) where
  abbrev local : LocalSystem
  local = (v.at n).local

  abbrev slots : List Slot
  slots = (v.at n).slots

  -- the field of a subsystem row
  abbrev field : ℕ → ℕ
  field e = place_in (program_of a) (row_at (diagram a).rows e).owner (child_name e)

  has-system : Contains (all_systems a) n
  has-system = in-at (all_systems a) place n stands

  in-table : (x : ℕ) → Contains (row_numbers (diagram a).rows) x → x < length (diagram a).rows
  in-table x has = let high = (of-range 0 (length (diagram a).rows) x has).1 in omega arith

  -- a subsystem inside
  record IsInside (x : ℕ) : Type 0 where
    pub listed : Contains (row_numbers (diagram a).rows) x
    pub below : x < length (diagram a).rows
    pub subsystem : is_subsystem (row_at (diagram a).rows x).kind ≡ true
    pub which : ((row_at (diagram a).rows x).owner ≡ n) ⊎ ((e k : ℕ) × IsChildRow (diagram a).rows n e × Under (diagram a).rows e k x)

  is-inside : (x : ℕ) → Contains (systems_inside (diagram a).rows n) x → IsInside x
  is-inside x has =
      let kept = of-filter (λ y. is_subsystem (row_at (diagram a).rows y).kind && is_inside (diagram a).rows n y)
      (row_numbers (diagram a).rows) x has in
      let parts = and_parts (is_subsystem (row_at (diagram a).rows x).kind) (is_inside (diagram a).rows n x) kept.1 in
      record {
        listed = kept.0;
        below = in-table x kept.0;
        subsystem = parts.0;
        which = elim (inside-cases (diagram a).rows (nested a v place n stands) n x (in-table x kept.0) parts.1) [
          | inl own ↦ inl own
          | inr u ↦ inr (u.child, u.depth, u.is_child, u.under)
        ];
      }

  inside-of : (o : Option ℕ) (x : ℕ) → Contains (row_numbers (diagram a).rows) x → is_subsystem (row_at (diagram a).rows x).kind ≡ true →
      is_inside (diagram a).rows o x ≡ true →
      Contains (systems_inside (diagram a).rows o) x
  inside-of o x listed subsystem inside =
      in-filter (λ y. is_subsystem (row_at (diagram a).rows y).kind && is_inside (diagram a).rows o y)
      (row_numbers (diagram a).rows) x listed (and_from _ _ subsystem inside)

  -- ---- Children and their fields

  -- child k, of subsystem row e, in field f
  record ChildAt (e : ℕ) : Type 0 where
    pub k : ℕ
    pub u : ChildUse
    pub at : slice_get local.children k ≡ Some u
    pub row : u.header.row ≡ Some e
    pub f : ℕ
    pub slot : slice_get slots f ≡ Some (instance k u)
    pub is_field : field e ≡ f

  field-is : (e : ℕ) → IsChildRow (diagram a).rows n e → (f k : ℕ) (u : ChildUse) → slice_get slots f ≡ Some (instance k u) →
      u.header.row ≡ Some e → field e ≡ f
  field-is e child f k u at row =
      ap (λ o. place_in (program_of a) o (child_name e)) child.owner
      ∙ ap (λ o. place_in (program_of a) n (system_name o)) (sym row) ∙ fields a v n f (instance k u) has-system at

  child-at-row : (e : ℕ) → IsChildRow (diagram a).rows n e → ChildAt e
  child-at-row e child =
      let found = child-of-row a v place n stands e child in
      let f = child-slot local slots (v.each place n stands).shape.slots_right found.0 found.1 found.2 in
      record {
        k = found.0;
        u = found.1;
        at = found.2;
        row = found.3;
        f = f.0;
        slot = f.1;
        is_field = field-is e child f.0 found.0 found.1 f.1 found.3;
      }

  way-to : (e : ℕ) → IsChildRow (diagram a).rows n e → (f : ℕ) → field e ≡ f → path_inside (program_of a) (diagram a).rows n e ≡ f ∷ []
  way-to e child f is = way-to-child (diagram a).rows (nested a v place n stands) field n e child ∙ ap (λ g. g ∷ []) is

  way-through : (e k x : ℕ) → x < length (diagram a).rows → IsChildRow (diagram a).rows n e → Under (diagram a).rows e k x → (f : ℕ) →
      field e ≡ f →
      path_inside (program_of a) (diagram a).rows n x ≡ f ∷ path_inside (program_of a) (diagram a).rows (Some e) x
  way-through e k x below child under f is =
      way-through-child (diagram a).rows (nested a v place n stands) field n e k x below child under
      ∙ ap (λ g. g ∷ path_inside (program_of a) (diagram a).rows (Some e) x) is

  child-inside : (e : ℕ) → IsChildRow (diagram a).rows n e → Contains (systems_inside (diagram a).rows n) e
  child-inside e child = inside-of n e (at-row e child.in_table) child.subsystem
      (own-inside (diagram a).rows (nested a v place n stands) n e child.in_table child.owner)
    where
      at-row : (e : ℕ) → e < length (diagram a).rows → Contains (row_numbers (diagram a).rows) e
      at-row e below = in-range 0 (length (diagram a).rows) e (omega arith) (omega arith)

  further-inside : (e x : ℕ) → IsChildRow (diagram a).rows n e → Contains (systems_inside (diagram a).rows (Some e)) x →
      Contains (systems_inside (diagram a).rows n) x × (k : ℕ) × (x < length (diagram a).rows) × Under (diagram a).rows e k x
  further-inside e x child has =
      let kept = of-filter (λ y. is_subsystem (row_at (diagram a).rows y).kind && is_inside (diagram a).rows (Some e) y)
      (row_numbers (diagram a).rows) x has in
      let parts = and_parts (is_subsystem (row_at (diagram a).rows x).kind) (is_inside (diagram a).rows (Some e) x) kept.1 in
      let below = in-table x kept.0 in
      let u = inside-under (diagram a).rows (nested a v place n stands) e (suc x) x (omega arith) below parts.1 in (
        inside-of n x kept.0 parts.0 (more-inside (diagram a).rows (nested a v place n stands) n e u.0 x below child.owner u.1),
        u.0,
        below,
        u.1,
      )

  -- ---- Calls, stores and steps inside

  module _ (held : ℕ → Node → Bool) (m : LocalTick) (children : List InstanceTick) (own : InstanceTick) (row : List Act) (spent : ℕ)
      (sums : Sums local (coded_header (v.at n)) held m slots children own none_called row spent)
      (none : (k : ℕ) (u : ChildUse) → slice_get local.children k ≡ Some u →
      called_in (is_active local m) (executed_by (coded_header (v.at n)) held none_called) u ≡ none_called) where
    inner-log : (f k : ℕ) (u : ChildUse) → slice_get slots f ≡ Some (instance k u) →
        calls_inside f (log_along own none_called row) ≡ log_along (instance_at children k) none_called (sums.acts k)
    inner-log f k u at = sums.log f k u at
        ∙ ap (λ c. log_along (instance_at children k) c (sums.acts k))
        (none k u (child-of-slot local slots (v.each place n stands).shape.slots_right f k u at))

    inner-stored : (f k : ℕ) (u : ChildUse) (path : List ℕ) (g : ℕ) → slice_get slots f ≡ Some (instance k u) →
        stored_along own none_called row (f ∷ path) g ≤ stored_along (instance_at children k) none_called (sums.acts k) path g
    inner-stored f k u path g at =
        subst (λ c. stored_along own none_called row (f ∷ path) g ≤ stored_along (instance_at children k) c (sums.acts k) path g)
        (none k u (child-of-slot local slots (v.each place n stands).shape.slots_right f k u at)) (sums.stored f k u path g at)

    module _ (right : (k : ℕ) (u : ChildUse) (e : ℕ) → slice_get local.children k ≡ Some u → u.header.row ≡ Some e →
        CallsRight a v s xs run t e (instance_at children k) (sums.acts k)) where
      calls-there : (f k : ℕ) (u : ChildUse) (path whole : List ℕ) → slice_get slots f ≡ Some (instance k u) → whole ≡ f ∷ path →
          calls_at path (log_along (instance_at children k) none_called (sums.acts k)) ≡ calls_at whole (log_along own none_called row)
      calls-there f k u path whole at is =
          sym (ap (λ w. calls_at w (log_along own none_called row)) is ∙ calls-inside f path (log_along own none_called row)
          ∙ ap (calls_at path) (inner-log f k u at))

      pub calls-in : (x : ℕ) → Contains (systems_inside (diagram a).rows n) x →
          HasCallsOf (program_of a) (Some x) (is_around_active a v s xs run t x)
          (calls_at (path_inside (program_of a) (diagram a).rows n x) (log_along own none_called row))
      calls-in x has = by (is-inside x has)
        where
          by : IsInside x → HasCallsOf (program_of a) (Some x) (is_around_active a v s xs run t x)
              (calls_at (path_inside (program_of a) (diagram a).rows n x) (log_along own none_called row))
          by inside = elim inside.which [
            | inl owned ↦
                let child : IsChildRow (diagram a).rows n x = record
                { in_table = inside.below; owner = owned; subsystem = inside.subsystem } in
                let c = child-at-row x child in
                subst (HasCallsOf (program_of a) (Some x) (is_around_active a v s xs run t x))
                (calls-there c.f c.k c.u [] (path_inside (program_of a) (diagram a).rows n x) c.slot (way-to x child c.f c.is_field))
                (right c.k c.u x c.at c.row).own
            | inr (e, k, child, under) ↦
                let c = child-at-row e child in
                let there = inside-of (Some e) x inside.listed inside.subsystem
                (under-inside (diagram a).rows (nested a v place n stands) e k x inside.below under) in
                subst (HasCallsOf (program_of a) (Some x) (is_around_active a v s xs run t x))
                (calls-there c.f c.k c.u (path_inside (program_of a) (diagram a).rows (Some e) x)
                (path_inside (program_of a) (diagram a).rows n x) c.slot (way-through e k x inside.below child under c.f c.is_field))
                ((right c.k c.u e c.at c.row).inside x there)
          ]

      pub no-other : (path : List ℕ) → (calls_at path (log_along own none_called row) ≡ [])
          ⊎ Contains ([] ∷ map (path_inside (program_of a) (diagram a).rows n) (systems_inside (diagram a).rows n)) path
      no-other [] = inr (in-first [] (map (path_inside (program_of a) (diagram a).rows n) (systems_inside (diagram a).rows n)))
      no-other (f ∷ path) = by (slot-cases local slots (v.each place n stands).shape.slots_right f)
        where
          listed : (x : ℕ) → Contains (systems_inside (diagram a).rows n) x → path_inside (program_of a) (diagram a).rows n x ≡ f ∷ path →
              Contains ([] ∷ map (path_inside (program_of a) (diagram a).rows n) (systems_inside (diagram a).rows n)) (f ∷ path)
          listed x has is =
              in-rest [] (f ∷ path) (map (path_inside (program_of a) (diagram a).rows n) (systems_inside (diagram a).rows n))
              (subst (Contains (map (path_inside (program_of a) (diagram a).rows n) (systems_inside (diagram a).rows n))) is
              (in-map (path_inside (program_of a) (diagram a).rows n) (systems_inside (diagram a).rows n) x has))

          by : ((k : ℕ) × (u : ChildUse) × (slice_get slots f ≡ Some (instance k u)))
              ⊎ ((k : ℕ) (u : ChildUse) → slice_get slots f ≡ Some (instance k u) → ⊥) →
              (calls_at (f ∷ path) (log_along own none_called row) ≡ [])
              ⊎ Contains ([] ∷ map (path_inside (program_of a) (diagram a).rows n) (systems_inside (diagram a).rows n)) (f ∷ path)
          by (inl (k, u, at)) =
              let child_at = child-of-slot local slots (v.each place n stands).shape.slots_right f k u at in
              let e = row-of-child a v place n stands u (in-at local.children k u child_at) in
              let is_field = field-is e.0 e.2 f k u at e.1 in
              elim ((right k u e.0 child_at e.1).no_other path) [
                | inl nothing ↦ inl (sym (calls-there f k u path (f ∷ path) at refl) ∙ nothing)
                | inr among ↦ elim (in-cases [] path
                    (map (path_inside (program_of a) (diagram a).rows (Some e.0)) (systems_inside (diagram a).rows (Some e.0))) among) [
                      | inl same ↦ inr (listed e.0 (child-inside e.0 e.2) (way-to e.0 e.2 f is_field ∙ ap (λ p. f ∷ p) same))
                      | inr more ↦
                          let x = of-map (path_inside (program_of a) (diagram a).rows (Some e.0))
                          (systems_inside (diagram a).rows (Some e.0)) path more in
                          let inside = further-inside e.0 x.0 e.2 x.1 in
                          inr (listed x.0 inside.0 (way-through e.0 inside.1 x.0 inside.2 e.2 inside.3 f is_field ∙ ap (λ p. f ∷ p) x.2))
                    ]
              ]
          by (inr none_there) = inl (calls-inside f path (log_along own none_called row)
              ∙ ap (calls_at path) (sums.no_other_log f none_there))

    module _ (most : ℕ) (limits : (k : ℕ) (u : ChildUse) (e : ℕ) → slice_get local.children k ≡ Some u → u.header.row ≡ Some e →
        KeepsLimits a v s xs run t e (instance_at children k) (sums.acts k) most) where
      stores-there : (f k : ℕ) (u : ChildUse) (path whole : List ℕ) (o : Option ℕ) → slice_get slots f ≡ Some (instance k u) →
          whole ≡ f ∷ path →
          StoredAtMost a v s xs run (instance_at children k) (sums.acts k) path o most → StoredAtMost a v s xs run own row whole o most
      stores-there f k u path whole o at is stored = all-made _ _ (λ b has.
          let few = member _ _ b stored has in
          let g = place_in (program_of a) o (value_name b) in
          let inside = inner-stored f k u path g at in
          let same = ap (λ w. stored_along own none_called row w g) is in
          omega (arith, few, inside, same))

      pub stored-in : (x : ℕ) → Contains (systems_inside (diagram a).rows n) x →
          StoredAtMost a v s xs run own row (path_inside (program_of a) (diagram a).rows n x) (Some x) most
      stored-in x has = by (is-inside x has)
        where
          by : IsInside x → StoredAtMost a v s xs run own row (path_inside (program_of a) (diagram a).rows n x) (Some x) most
          by inside = elim inside.which [
            | inl owned ↦
                let child : IsChildRow (diagram a).rows n x = record
                { in_table = inside.below; owner = owned; subsystem = inside.subsystem } in
                let c = child-at-row x child in
                stores-there c.f c.k c.u [] (path_inside (program_of a) (diagram a).rows n x) (Some x) c.slot
                (way-to x child c.f c.is_field) (limits c.k c.u x c.at c.row).here
            | inr (e, k, child, under) ↦
                let c = child-at-row e child in
                let there = inside-of (Some e) x inside.listed inside.subsystem
                (under-inside (diagram a).rows (nested a v place n stands) e k x inside.below under) in
                stores-there c.f c.k c.u (path_inside (program_of a) (diagram a).rows (Some e) x)
                (path_inside (program_of a) (diagram a).rows n x) (Some x) c.slot
                (way-through e k x inside.below child under c.f c.is_field) ((limits c.k c.u e c.at c.row).inside x there)
          ]

      abbrev budget : Option ℕ → ℕ
      budget o = own_budget (v.at o).local

      budget-is : (o : Option ℕ) → budget_inside a v o ≡ budget o + total (λ e. budget (Some e)) (systems_inside (diagram a).rows o)
      budget-is o = total-is budget (o ∷ map Some (systems_inside (diagram a).rows o))
          ∙ ap (λ k. budget o + k) (total-map budget Some (systems_inside (diagram a).rows o))

      number-child : (e : ℕ) → Contains lawful.numbers e → IsChildRow (diagram a).rows n e
      number-child e has =
          let row_has = subst (λ os. Contains os (Some e)) (sym lawful.have_numbers) (in-map Some lawful.numbers e has) in
          let u = of-map (λ (w : ChildUse). w.header.row) local.children (Some e) row_has in
          let child = row-of-child a v place n stands u.0 u.1 in
          let rows_same : Some child.0 ≡ Some e = sym child.1 ∙ u.2 in
          let same : child.0 ≡ e = cc rows_same in
          subst (IsChildRow (diagram a).rows n) same child.2

      pub in-budget : spent ≤ own_budget local → most_along own none_called row ≤ budget_inside a v n
      in-budget few =
          let is = sums.most in
          let each = total-le (λ (c : ℕ × ChildUse). most_along (instance_at children c.0)
          (called_in (is_active local m) (executed_by (coded_header (v.at n)) held none_called) c.1) (sums.acts c.0))
          (λ (c : ℕ × ChildUse). budget_inside a v c.1.header.row) (enumerate_from 0 local.children)
          (λ c has.
          let at = child-at local (coded_header (v.at n)) held m slots children own c has in
          let e = row-of-child a v place n stands c.1 (in-at local.children c.0 c.1 at) in
          let time = (limits c.0 c.1 e.0 at e.1).in_time in
          let before = ap (λ called. most_along (instance_at children c.0) called (sums.acts c.0)) (none c.0 c.1 at) in
          let same = ap (budget_inside a v) e.1 in
          omega (arith, time, before, same)) in
          let numbered = total-numbered (λ (u : ChildUse). budget_inside a v u.header.row) 0 local.children in
          let by_rows = sym (total-map (budget_inside a v) (λ (u : ChildUse). u.header.row) local.children)
          ∙ ap (total (budget_inside a v)) lawful.have_numbers ∙ total-map (budget_inside a v) Some lawful.numbers in
          let parts = sum-same (λ e. budget_inside a v (Some e))
          (λ e. budget (Some e) + total (λ x. budget (Some x)) (systems_inside (diagram a).rows (Some e))) lawful.numbers
          (λ e has. budget-is (Some e)) in
          let inside = sum-inside (diagram a).rows (nested a v place n stands) n (λ e. budget (Some e)) lawful.numbers number-child
          (λ i j e at to. differ-at lawful.numbers i j e lawful.children_differ at to) in
          let whole = budget-is n in
          omega (arith, few, is, each, numbered, by_rows, parts, inside, whole)

  -- ---- Own values

  -- an own row with a value, and its field
  pub record ValueAt (b : ℕ) : Type 0 where
    pub r : LocalRow
    pub f : ℕ
    pub slot : slice_get slots f ≡ Some (value r)
    pub is_field : place_in (program_of a) n (value_name b) ≡ f

  pub value-at : (b : ℕ) → Contains (filter (λ c. has_value (row_at (diagram a).rows c).kind) (rows_of (diagram a).rows n)) b → ValueAt b
  value-at b has =
      let known = v.each place n stands in
      let kept = of-filter (λ c. has_value (row_at (diagram a).rows c).kind) (rows_of (diagram a).rows n) b has in
      let r = local_row (diagram a) a.model.times.delays b in
      let own_row = subst (λ (l : LocalSystem). Contains l.rows r) (sym known.local.is_local)
      (in-map (local_row (diagram a) a.model.times.delays) (rows_of (diagram a).rows n) b kept.0) in
      let f = value-slot local slots known.shape.slots_right r own_row kept.1 in
      record { r = r; f = f.0; slot = f.1; is_field = fields a v n f.0 (value r) has-system f.1 }
