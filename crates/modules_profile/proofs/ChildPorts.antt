-- What a call of a child's function takes: the wires that enter those of its Inports, and of its controls, that are in the
-- function's mask.
use Rattle.std.specs.Prelude.{◌≡◌, ◌⊎◌, ℕ, zero, suc, ◌+◌, ◌-◌, ◌<◌, Bool, true, List, [], ◌∷◌, map, filter, zip, length, slice_get, Contains, Option, Some, IsTrue, refl}
use Rattle.std.specs.List.{range_with_len}
use Rattle.std.proofs.Common.{sym, ap, subst, ◌∙◌, arith, inl, inr, true≢false}
use Rattle.std.proofs.lemmas.List.{length-map}
use Rattle.std.proofs.lemmas.List.FromFn.{length-range_with_len}
use Rattle.base_core.specs.declared.Control.{Control}
use Rattle.base_core.specs.declared.Control.TheVariants.{Plain, Enabled, Triggered, Both}
use Rattle.base_core.specs.declared.Port.{Port}
use Rattle.base_core.specs.declared.Port.TheVariants.{Number, Enable, Trigger}
use Rattle.diagram_blocks.specs.declared.Kind.{Kind}
use Rattle.diagram_blocks.specs.declared.Kind.TheVariants.{SubSystem}
use Rattle.diagram_meaning.specs.Rows.{row_at, inports_of, is_enabled, is_triggered, control_at}
use Rattle.diagram_blocks.specs.Kinds.{is_inport, is_subsystem, control_of}
use Rattle.diagram_meaning.specs.Diagram.{Diagram, type_at}
use Rattle.diagram_meaning.specs.WellFormed.{IsWired, HasPorts, wires_wanted}
use Rattle.modules_profile.specs.declared.local.ChildUse.{ChildUse}
use Rattle.modules_profile.specs.SystemHeader.{SystemHeader}
use Rattle.modules_profile.specs.SystemProfile.{SystemProfile}
use Rattle.modules_profile.specs.Headers.{header_of, ports_of_header, header_function, taken}
use Rattle.modules_profile.specs.Locals.{child_use, entering}
use Rattle.base_core.specs.Ports.{bit_of, has_bit, control_ports}
use Rattle.modules_profile.specs.Systems.{entering_wires}
use Rattle.diagram_meaning.proofs.lemmas.EnteringWires.{as-many, entering-at, at-entering}
use Rattle.modules_profile.proofs.lemmas.Members.{in-map, of-map, in-filter, of-filter, in-at, at-in, at-below, at-map, map-at, at-range, range-at, in-zip, of-zip, at-left, at-right, at-append}

pub subsystem-kind : (kind : Kind) → is_subsystem kind ≡ true → kind ≡ SubSystem (control_of kind)
subsystem-kind (SubSystem control) h = refl
subsystem-kind _ h = absurd (true≢false (sym h))

-- the control whose wire this is
pub record IsControlAt (control : Control) (wires : List ℕ) (c : ℕ) : Type 0 where
  pub k : ℕ
  pub port : Port
  pub port_place : slice_get (control_ports control) k ≡ Some port
  pub wire_place : slice_get wires k ≡ Some c
  pub which : ((port ≡ Enable) × IsTrue (is_enabled control)) ⊎ ((port ≡ Trigger) × IsTrue (is_triggered control))

control-at : (control : Control) (o : Option ℕ) (wires : List ℕ) (c k : ℕ) → length wires ≡ wires_wanted (SubSystem control) o →
    slice_get wires k ≡ Some c → IsControlAt control wires c
control-at Plain o wires c k count at = absurd (let below = at-below wires k c at in omega arith)
control-at (Enabled reset) o wires c zero count at =
    record { k = 0; port = Enable; port_place = refl; wire_place = at; which = inl (refl, refl) }
control-at (Enabled reset) o wires c (suc k) count at = absurd (let below = at-below wires (suc k) c at in omega arith)
control-at (Triggered edge) o wires c zero count at =
    record { k = 0; port = Trigger; port_place = refl; wire_place = at; which = inr (refl, refl) }
control-at (Triggered edge) o wires c (suc k) count at = absurd (let below = at-below wires (suc k) c at in omega arith)
control-at (Both reset edge) o wires c zero count at =
    record { k = 0; port = Enable; port_place = refl; wire_place = at; which = inl (refl, refl) }
control-at (Both reset edge) o wires c (suc zero) count at =
    record { k = 1; port = Trigger; port_place = refl; wire_place = at; which = inr (refl, refl) }
control-at (Both reset edge) o wires c (suc (suc k)) count at = absurd (let below = at-below wires (suc (suc k)) c at in omega arith)

-- the one of a list of one
of-one : (x c : ℕ) → Contains (x ∷ []) c → x ≡ c
of-one x c (zero, below, is) = is
of-one x c (suc k, below, is) = absurd (omega arith)

module _ (d : Diagram) (wired : IsWired d.rows) (e : ℕ) (ports : HasPorts d.rows is_inport (Some e)) (profile : SystemProfile) where
  abbrev header : SystemHeader
  header = header_of d (Some e) profile

  abbrev child : ChildUse
  child = child_use d header

  abbrev inports : List ℕ
  inports = inports_of d.rows (Some e)

  abbrev wires : List ℕ
  wires = entering_wires d.rows (Some e)

  abbrev numbers : List Port
  numbers = map Number (range_with_len 1 (length header.inputs))

  as_many_inputs : length header.inputs ≡ length inports
  as_many_inputs = length-map inports (type_at d.types)

  as_many_numbers : length numbers ≡ length inports
  as_many_numbers = length-map (range_with_len 1 (length header.inputs)) Number ∙ length-range_with_len 1 (length header.inputs)
      ∙ as_many_inputs

  as_many_wires : length wires ≡ length inports
  as_many_wires = as-many d.rows wired e ports

  -- ---- What is in the mask is taken

  abbrev test : ℕ → Port × ℕ → Bool
  test j x = has_bit (header_function header j).inputs (bit_of x.0)

  takes : (j k : ℕ) (p : Port) (c : ℕ) → slice_get (ports_of_header header) k ≡ Some p → slice_get (entering child) k ≡ Some c →
      has_bit (header_function header j).inputs (bit_of p) ≡ true →
      Contains (taken header j (entering child)) c
  takes j k p c port wire bit =
      in-map (λ (x : Port × ℕ). x.1) (filter (test j) (zip (ports_of_header header) (entering child))) (p, c)
      (in-filter (test j) (zip (ports_of_header header) (entering child)) (p, c)
      (in-zip (ports_of_header header) (entering child) k p c port wire) bit)

  pub takes-input : (j k i c : ℕ) → slice_get inports k ≡ Some i → Contains (row_at d.rows i).inputs c →
      has_bit (header_function header j).inputs k ≡ true → Contains (taken header j (entering child)) c
  takes-input j k i c at wire bit =
      let below : k < length inports = at-below inports k i at in
      let place : 1 + k - 1 ≡ k = omega arith in
      let entered = entering-at d.rows wired e ports k i at in
      let same : entered.0 ≡ c = of-one entered.0 c (subst (λ ws. Contains ws c) entered.1 wire) in
      takes j k (Number (1 + k)) c
      (at-left numbers (control_ports header.control) k (Number (1 + k))
      (at-map Number (range_with_len 1 (length header.inputs)) k (1 + k)
      (at-range 1 (length header.inputs) k (let n = as_many_inputs in omega arith))))
      (at-left wires (row_at d.rows e).inputs k c (entered.2 ∙ ap Some same))
      (ap (has_bit (header_function header j).inputs) place ∙ bit)

  pub takes-control : (j c : ℕ) → is_subsystem (row_at d.rows e).kind ≡ true →
      length (row_at d.rows e).inputs ≡ wires_wanted (row_at d.rows e).kind (row_at d.rows e).owner →
      (IsTrue (is_enabled (control_at d.rows e)) → has_bit (header_function header j).inputs 32 ≡ true) →
      (IsTrue (is_triggered (control_at d.rows e)) → has_bit (header_function header j).inputs 33 ≡ true) →
      Contains (row_at d.rows e).inputs c → Contains (taken header j (entering child)) c
  takes-control j c is count enable trigger h =
      let at = at-in (row_at d.rows e).inputs c h in
      let kind = subsystem-kind (row_at d.rows e).kind is in
      by (control-at (control_at d.rows e) (row_at d.rows e).owner (row_at d.rows e).inputs c at.0
      (count ∙ ap (λ k. wires_wanted k (row_at d.rows e).owner) kind) at.1)
    where
      by : IsControlAt (control_at d.rows e) (row_at d.rows e).inputs c → Contains (taken header j (entering child)) c
      by at =
          takes j (length numbers + at.k) at.port c
          (at-right numbers (control_ports header.control) at.k at.port at.port_place)
          (subst (λ n. slice_get (entering child) (n + at.k) ≡ Some c) (as_many_wires ∙ sym as_many_numbers)
          (at-right wires (row_at d.rows e).inputs at.k c at.wire_place))
          (elim at.which [
            | inl own ↦ ap (λ p. has_bit (header_function header j).inputs (bit_of p)) own.0 ∙ enable own.1
            | inr own ↦ ap (λ p. has_bit (header_function header j).inputs (bit_of p)) own.0 ∙ trigger own.1
          ])

  -- ---- What is taken enters

  -- wire c enters the Inport with port k + 1, which function j takes
  pub record IsTakenAt (j c : ℕ) : Type 0 where
    pub k : ℕ
    pub i : ℕ
    pub place : slice_get (inports_of d.rows (Some e)) k ≡ Some i
    pub bit : has_bit (header_function (header_of d (Some e) profile) j).inputs k ≡ true
    pub wire : (row_at d.rows i).inputs ≡ c ∷ []

  pub of-taken : (j c : ℕ) → Contains (taken header j (entering child)) c → IsTakenAt j c ⊎ Contains (row_at d.rows e).inputs c
  of-taken j c h =
      let pairs : List (Port × ℕ) = zip (ports_of_header header) (entering child) in
      let m = of-map (λ (x : Port × ℕ). x.1) (filter (test j) pairs) c h in
      let f = of-filter (test j) pairs m.0 m.1 in
      let z = of-zip (ports_of_header header) (entering child) m.0 f.0 in
      by z.0 m.0.0 z.1 (z.2 ∙ ap Some m.2) f.1
    where
      at-number : (k i : ℕ) (p : Port) → slice_get inports k ≡ Some i → slice_get (ports_of_header header) k ≡ Some p → bit_of p ≡ k
      at-number k i p at port = elim (at-append numbers (control_ports header.control) k p port) [
        | inl here ↦
            let m = map-at Number (range_with_len 1 (length header.inputs)) k p here in
            let n : 1 + k ≡ m.0 = (range-at 1 (length header.inputs) k m.0 m.1).1 in
            let place : m.0 - 1 ≡ k = omega arith in
            ap bit_of (sym m.2) ∙ place
        | inr there ↦ absurd (let below = at-below inports k i at in let n = as_many_numbers in let past = there.1 in omega arith)
      ]

      by : (k : ℕ) (p : Port) → slice_get (ports_of_header header) k ≡ Some p → slice_get (entering child) k ≡ Some c →
          has_bit (header_function header j).inputs (bit_of p) ≡ true → IsTakenAt j c ⊎ Contains (row_at d.rows e).inputs c
      by k p port wire bit = elim (at-append wires (row_at d.rows e).inputs k c wire) [
        | inl here ↦
            let m = at-entering d.rows wired e ports k c here in
            inl (record {
              k = k;
              i = m.0;
              place = m.1;
              bit = ap (has_bit (header_function header j).inputs) (sym (at-number k m.0 p m.1 port)) ∙ bit;
              wire = m.2;
            })
        | inr there ↦ inr (in-at (row_at d.rows e).inputs there.0 c there.2)
      ]
