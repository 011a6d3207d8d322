-- Tables of at most 32 rows are well formed where tests pass that compute.
use Rattle.std.specs.Prelude.{◌≡◌, ℕ, zero, suc, ◌+◌, ◌<◌, ◌≤◌, nat_lt, nat_le, Bool, true, false, not, ◌&&◌, ◌||◌, ◌==◌, if◌then◌else◌, List, [], ◌∷◌, filter, length, count_by, Option, Some, None, IsTrue}
use Rattle.std.specs.List.{AllByRecursion, range_with_len}
use Rattle.std.proofs.Common.{refl, sym, ◌∙◌, ap, subst, arith, inl, inr, true≢false, eq-eqb}
use Rattle.std.proofs.lemmas.List.{get_or_past}
use Rattle.std.proofs.lemmas.List.FromFn.{length-range_with_len}
use Rattle.std.proofs.lemmas.List.Sums.{count_by-le-length, length-filter}
use native.Mathlib.Decide.{dec_lt}
use Rattle.diagram_blocks.specs.declared.Kind.{Kind}
use Rattle.diagram_meaning.specs.declared.table.Row.{Row}
use Rattle.diagram_meaning.specs.RowTable.{RowTable}
use Rattle.diagram_meaning.specs.Rows.{row_at, no_row, row_numbers, is_enabled, is_triggered, same_system, system_control, around, rows_of}
use Rattle.diagram_blocks.specs.Kinds.{control_of, is_subsystem, is_inport, is_outport, port_of}
use Rattle.diagram_meaning.specs.WellFormed.{IsOwner, FollowsIn, IsNested, has_output, IsWireIn, wires_wanted, reading_system, IsWired, HasPorts, is_enable_port, is_trigger_port, HasControlPorts, IsRow, IsStep, IsWellFormed}
use Rattle.diagram_meaning.proofs.lemmas.RestsOnNeeds.{same_system-equal}
use Rattle.diagram_meaning.proofs.lemmas.Tests.{and-left, and-right, or-cases, eq-from, lt-from, le-from, all_below, below-at, is_member, member-from, all_of, all-from}

-- where no number passes, a filter keeps none
filter_none : (test : ℕ → Bool) (n a : ℕ) → ((b : ℕ) → a ≤ b → b < a + n → test b ≡ false) → filter test (range_with_len a n) ≡ []
filter_none test zero a none = refl
filter_none test (suc n) a none =
    rw (none a (omega arith) (omega arith))
    (filter_none test n (a + 1) (λ b low high. none b (omega arith) (omega arith)))

module _ (rows : List Row) where
  -- ---- Nesting

  abbrev is_owner : ℕ → Option ℕ → Bool
  is_owner b None = true
  is_owner b (Some e) = nat_lt e b && is_subsystem (row_at rows e).kind

  owner-from : (b : ℕ) (o : Option ℕ) → is_owner b o ≡ true → IsOwner rows b o
  owner-from b None h = tt
  owner-from b (Some e) h = (lt-from e b (and-left _ _ h), and-right (nat_lt e b) _ h)

  abbrev follows : ℕ → Option ℕ → Bool
  follows b None = true
  follows b (Some e) = is_member (b ∷ around rows None b) e

  follows-from : (b : ℕ) (o : Option ℕ) → follows b o ≡ true → FollowsIn rows b o
  follows-from b None h = tt
  follows-from b (Some e) h = member-from (b ∷ around rows None b) e h

  abbrev pub nested : Bool
  nested =
      all_below (λ b. (row_at rows b).place.row == b) (length rows)
      && (all_below (λ b. is_owner b (row_at rows b).owner) (length rows)
      && (all_below (λ b. follows b (row_at rows (suc b)).owner) (length rows)
      && (nat_le (length rows) 32 && all_below (λ b. nat_lt (length (around rows None b)) 32) (length rows))))

  past-subsystem : (b : ℕ) → length rows ≤ b → IsTrue (is_subsystem (row_at rows b).kind) → ⊥
  past-subsystem b past k = true≢false (sym k ∙ ap (λ (r : Row). is_subsystem r.kind) (get_or_past rows b no_row past))

  pub few-rows : nested ≡ true → length rows ≤ 32
  few-rows h =
      let one = and-right (all_below (λ b. (row_at rows b).place.row == b) (length rows)) _ h in
      let two = and-right (all_below (λ b. is_owner b (row_at rows b).owner) (length rows)) _ one in
      let three = and-right (all_below (λ b. follows b (row_at rows (suc b)).owner) (length rows)) _ two in
      le-from (length rows) 32 (and-left _ _ three)

  nested-from : nested ≡ true → IsNested rows
  nested-from h =
      let one = and-right (all_below (λ b. (row_at rows b).place.row == b) (length rows)) _ h in
      let two = and-right (all_below (λ b. is_owner b (row_at rows b).owner) (length rows)) _ one in
      let three = and-right (all_below (λ b. follows b (row_at rows (suc b)).owner) (length rows)) _ two in
      let few = few-rows h in
      record {
        numbered = λ b below. eq-from _ b (below-at (λ b. (row_at rows b).place.row == b) (length rows) b (and-left _ _ h) below);
        owned = λ b below. owner-from b _ (below-at (λ b. is_owner b (row_at rows b).owner) (length rows) b (and-left _ _ one) below);
        in_order =
            λ b below.
            follows-from b _ (below-at (λ b. follows b (row_at rows (suc b)).owner) (length rows) b (and-left _ _ two)
            (omega arith));
        at_most = omega (arith, few);
        not_deep = λ b k. elim (dec_lt b (length rows)) [
          | yes inside ↦
              lt-from _ 32 (below-at (λ b. nat_lt (length (around rows None b)) 32) (length rows) b
              (and-right (nat_le (length rows) 32) _ three) inside)
          | no past ↦ absurd (past-subsystem b (omega arith) k)
        ];
      }

  -- ---- Wires

  -- whether row c is an Outport of a subsystem in the system o
  abbrev leaves_to : Option ℕ → ℕ → Option ℕ → Bool
  leaves_to o c None = false
  leaves_to o c (Some e) = is_outport (row_at rows c).kind && same_system (row_at rows e).owner o

  leaves-from : (o : Option ℕ) (c : ℕ) (owner : Option ℕ) → leaves_to o c owner ≡ true →
      IsTrue (is_outport (row_at rows c).kind) × ((e : ℕ) × (owner ≡ Some e) × ((row_at rows e).owner ≡ o))
  leaves-from o c None h = absurd (true≢false (sym h))
  leaves-from o c (Some e) h = (and-left _ _ h, (e, refl, same_system-equal _ o (and-right (is_outport (row_at rows c).kind) _ h)))

  abbrev is_wire : Option ℕ → ℕ → Bool
  is_wire o c =
      nat_lt c (length rows)
      && ((same_system (row_at rows c).owner o && has_output (row_at rows c).kind) || leaves_to o c (row_at rows c).owner)

  wire-from : (o : Option ℕ) (c : ℕ) → is_wire o c ≡ true → IsWireIn rows o c
  wire-from o c h =
      let own : Bool = same_system (row_at rows c).owner o && has_output (row_at rows c).kind in (
        lt-from c (length rows) (and-left _ _ h),
        elim (or-cases own (leaves_to o c (row_at rows c).owner) (and-right (nat_lt c (length rows)) _ h)) [
          | inl e ↦ inl (same_system-equal _ o (and-left _ _ e), and-right (same_system (row_at rows c).owner o) _ e)
          | inr e ↦ inr (leaves-from o c (row_at rows c).owner e)
        ],
      )

  abbrev wires_of_row : ℕ → Bool
  wires_of_row b = all_of (is_wire (reading_system rows (row_at rows b).kind (row_at rows b).owner)) (row_at rows b).inputs

  abbrev pub wired : Bool
  wired =
      all_below (λ b. length (row_at rows b).inputs == wires_wanted (row_at rows b).kind (row_at rows b).owner) (length rows)
      && all_below wires_of_row (length rows)

  wired-from : wired ≡ true → IsWired rows
  wired-from h =
      let counted =
      all_below (λ b. length (row_at rows b).inputs == wires_wanted (row_at rows b).kind (row_at rows b).owner)
      (length rows) in
      record {
        counts =
            λ b below.
            eq-from _ _
            (below-at (λ b. length (row_at rows b).inputs == wires_wanted (row_at rows b).kind (row_at rows b).owner)
            (length rows) b (and-left _ _ h) below);
        wires = λ b below.
            let o = reading_system rows (row_at rows b).kind (row_at rows b).owner in
            all-from (is_wire o) (IsWireIn rows o) (wire-from o) (row_at rows b).inputs
            (below-at wires_of_row (length rows) b (and-right counted _ h) below);
      }

  -- ---- Ports

  count-few : (test : ℕ → Bool) (o : Option ℕ) → length rows ≤ 32 → count_by test (rows_of rows o) ≤ 32
  count-few test o few =
      let in_all = count_by-le-length (λ b. same_system (row_at rows b).owner o) (row_numbers rows) in
      omega (
        arith,
        few,
        count_by-le-length test (rows_of rows o),
        length-filter (λ b. same_system (row_at rows b).owner o) (row_numbers rows),
        in_all,
        length-range_with_len 0 (length rows),
      )

  module _ (test : Kind → Bool) where
    abbrev port_fits : ℕ → Bool
    port_fits b =
        not (test (row_at rows b).kind)
        || (nat_lt 0 (port_of (row_at rows b).kind)
        && nat_le (port_of (row_at rows b).kind) (count_by (λ c. test (row_at rows c).kind) (rows_of rows (row_at rows b).owner)))

    -- whether b and c are one row, or no two of one system with one port
    abbrev are_apart : ℕ → ℕ → Bool
    are_apart b c =
        (b == c)
        || (not (test (row_at rows b).kind)
        || (not (test (row_at rows c).kind)
        || (not (same_system (row_at rows b).owner (row_at rows c).owner)
        || not (port_of (row_at rows b).kind == port_of (row_at rows c).kind))))

    abbrev pub ports : Bool
    ports = all_below port_fits (length rows) && all_below (λ b. all_below (are_apart b) (length rows)) (length rows)

    not-true : (b : Bool) → b ≡ true → (not b ≡ true) → ⊥
    not-true true e h = true≢false (sym h)
    not-true false e h = true≢false (sym e)

    same_system-self : (o : Option ℕ) → same_system o o ≡ true
    same_system-self None = refl
    same_system-self (Some e) = eq-eqb e e refl

    ports-from : length rows ≤ 32 → ports ≡ true → (o : Option ℕ) → HasPorts rows test o
    ports-from few h o = record {
      at_most = count-few (λ b. test (row_at rows b).kind) o few;
      in_range = λ b below own k. in_range b below own k;
      one_each = λ b c below_b below_c own_b own_c k l e. one_each b c below_b below_c own_b own_c k l e;
    }
      where
        in_range : (b : ℕ) → b < length rows → (row_at rows b).owner ≡ o → IsTrue (test (row_at rows b).kind) →
            (0 < port_of (row_at rows b).kind) × (port_of (row_at rows b).kind ≤ count_by (λ c. test (row_at rows c).kind) (rows_of rows o))
        in_range b below own k = elim (or-cases _ _ (below-at port_fits (length rows) b (and-left _ _ h) below)) [
          | inl e ↦ absurd (not-true (test (row_at rows b).kind) k e)
          | inr e ↦ (
            lt-from 0 _ (and-left _ _ e),
            subst (λ s. port_of (row_at rows b).kind ≤ count_by (λ c. test (row_at rows c).kind) (rows_of rows s)) own
                (le-from _ _ (and-right (nat_lt 0 (port_of (row_at rows b).kind)) _ e)),
          )
        ]

        one_each : (b c : ℕ) → b < length rows → c < length rows → (row_at rows b).owner ≡ o → (row_at rows c).owner ≡ o →
            IsTrue (test (row_at rows b).kind) → IsTrue (test (row_at rows c).kind) →
            port_of (row_at rows b).kind ≡ port_of (row_at rows c).kind → b ≡ c
        one_each b c below_b below_c own_b own_c k l e =
            elim (or-cases _ _
            (below-at (are_apart b) (length rows) c
            (below-at (λ b. all_below (are_apart b) (length rows)) (length rows) b
            (and-right (all_below port_fits (length rows)) _ h) below_b) below_c)) [
              | inl same ↦ eq-from b c same
              | inr p ↦ elim (or-cases _ _ p) [
                | inl q ↦ absurd (not-true (test (row_at rows b).kind) k q)
                | inr q ↦ elim (or-cases _ _ q) [
                  | inl r ↦ absurd (not-true (test (row_at rows c).kind) l r)
                  | inr r ↦ elim (or-cases _ _ r) [
                    | inl apart ↦
                        absurd (not-true _ (subst (λ s. same_system (row_at rows b).owner s ≡ true) (own_b ∙ sym own_c)
                        (same_system-self (row_at rows b).owner)) apart)
                    | inr apart ↦ absurd (not-true _ (eq-eqb _ _ e) apart)
                  ]
                ]
              ]
            ]

  -- ---- Controls

  abbrev has_controls : Option ℕ → Bool
  has_controls o =
      (count_by (λ b. is_enable_port (row_at rows b).kind) (rows_of rows o) == (if is_enabled (system_control rows o) then 1 else 0))
      && (count_by (λ b. is_trigger_port (row_at rows b).kind) (rows_of rows o) == (if is_triggered (system_control rows o) then 1 else 0))

  abbrev pub controls : Bool
  controls = has_controls None && all_below (λ e. has_controls (Some e)) (length rows)

  has-from : (o : Option ℕ) → has_controls o ≡ true → HasControlPorts rows o
  has-from o h = record {
    enables = eq-from _ _ (and-left _ _ h);
    triggers =
        eq-from _ _
        (and-right
        (count_by (λ b. is_enable_port (row_at rows b).kind) (rows_of rows o) == (if is_enabled (system_control rows o)
        then 1 else 0)) _ h);
  }

  -- a row past the end owns none
  owns-none : IsNested rows → (e : ℕ) → length rows ≤ e → rows_of rows (Some e) ≡ []
  owns-none n e past =
      filter_none (λ b. same_system (row_at rows b).owner (Some e)) (length rows) 0
      (λ b low high. by b (omega arith) (row_at rows b).owner (n.owned b (omega arith)))
    where
      differ : (b k : ℕ) → b < length rows → k < b → (r : Bool) → (e == k) ≡ r → r ≡ false
      differ b k below less false q = refl
      differ b k below less true q = absurd (let same = eq-from e k q in omega arith)

      by : (b : ℕ) → b < length rows → (o : Option ℕ) → IsOwner rows b o → same_system o (Some e) ≡ false
      by b below None h = refl
      by b below (Some k) h = differ b k below h.0 (e == k) refl

  controls-from : IsNested rows → controls ≡ true → (o : Option ℕ) → HasControlPorts rows o
  controls-from n h None = has-from None (and-left _ _ h)
  controls-from n h (Some e) = elim (dec_lt e (length rows)) [
    | yes inside ↦ has-from (Some e) (below-at (λ e. has_controls (Some e)) (length rows) e (and-right (has_controls None) _ h) inside)
    | no past ↦
        let none = owns-none n e (omega arith) in
        let plain = ap (λ (r : Row). control_of r.kind) (get_or_past rows e no_row (omega arith)) in
        record {
          enables = ap (count_by (λ b. is_enable_port (row_at rows b).kind)) none ∙ sym (ap (λ c. if is_enabled c then 1 else 0) plain);
          triggers = ap (count_by (λ b. is_trigger_port (row_at rows b).kind)) none ∙ sym (ap (λ c. if is_triggered c then 1 else 0) plain);
        }
  ]

-- a table whose tests pass, and whose rows and step are lawful, is well formed
pub well_formed-from : (table : RowTable) → nested table.rows ≡ true → wired table.rows ≡ true →
    ports table.rows is_inport ≡ true → ports table.rows is_outport ≡ true → controls table.rows ≡ true →
    AllByRecursion IsRow table.rows → IsStep table.fixed_step → IsWellFormed table
well_formed-from table n w i o c rows step =
    let is_nested = nested-from table.rows n in
    record {
      nested = is_nested;
      wired = wired-from table.rows w;
      inports = ports-from table.rows is_inport (few-rows table.rows n) i;
      outports = ports-from table.rows is_outport (few-rows table.rows n) o;
      controls = controls-from table.rows is_nested c;
      each = rows;
      step = step;
    }
