-- What outputs need is a set of the system's own inputs, and a system has a type for each control.
use Rattle.std.specs.Prelude.{◌≡◌, ℕ, ◌-◌, ◌<◌, ◌≤◌, true, ◌&&◌, List, [], ◌∷◌, map, length, Contains, IsBitSet, Option, Some, None, refl}
use Rattle.std.specs.List.{AllZip}
use Rattle.std.proofs.Common.{sym, ap, subst, ◌∙◌, arith, inl, inr, true≢false}
use Rattle.std.proofs.lemmas.Bool.{and_parts}
use Rattle.std.proofs.lemmas.List.{length-map}
use Rattle.std.proofs.lemmas.Option.{same_Some, none-some}
use Rattle.base_core.specs.declared.Control.{Control}
use Rattle.base_core.specs.declared.Control.TheVariants.{Plain, Enabled, Triggered, Both}
use Rattle.diagram_blocks.specs.declared.Kind.{Kind}
use Rattle.diagram_blocks.specs.declared.Kind.TheVariants.{SubSystem}
use Rattle.diagram_meaning.specs.Diagram.{Diagram, type_at}
use Rattle.diagram_meaning.specs.Inputs.{control_wires_of, input_ports}
use Rattle.diagram_meaning.specs.Needs.{TrueNeeds, IsMaskOf}
use Rattle.diagram_meaning.specs.Rows.{row_at, row_numbers, is_inside, control_at, system_control, inports_of}
use Rattle.diagram_blocks.specs.Kinds.{is_subsystem, is_inport, control_of, port_of}
use Rattle.diagram_meaning.specs.WellFormed.{HasPorts, IsWired, wires_wanted}
use Rattle.base_core.specs.Ports.{control_ports, ports_in, ports_mask}
use Rattle.modules_profile.specs.Systems.{systems, systems_inside}
use Rattle.modules_profile.proofs.lemmas.Members.{in-none, in-cases, of-map, of-filter, of-range}
use Rattle.modules_profile.proofs.lemmas.PortRows.{port-range}
use Rattle.right_claim.proofs.lemmas.OwnMasks.{own-mask}
use Rattle.right_program_interfaces.proofs.PortedRows.{few-ports}

-- ---- Needs

module _ (d : Diagram) (s : Option ℕ) (ports : HasPorts d.rows is_inport s) where
  no-input : (o mask k : ℕ) → IsMaskOf (TrueNeeds d s o) mask → length (inports_of d.rows s) < k → k ≤ 32 → IsBitSet mask (k - 1) → ⊥
  no-input o mask k is above high set =
      let (i, input, reaches) = (is.number k (omega (arith, above)) high).0 set in
      let range = port-range d.rows s is_inport ports i input.in_table input.is_own (ap is_inport input.is_inport) in
      let top = range.1 in
      let port : port_of (row_at d.rows i).kind ≡ k = ap port_of input.is_inport in
      omega (arith, above, top, port)

  pub own-need : (o mask : ℕ) → IsMaskOf (TrueNeeds d s o) mask → ports_mask (ports_in mask (input_ports d.rows s)) ≡ mask
  own-need o mask is =
      own-mask mask is.bounded (length (inports_of d.rows s)) (few-ports d.rows s is_inport ports)
      (λ k above high. no-input o mask k is above high)
      (system_control d.rows s) is.enable is.trigger

  pub own-needs : (os masks : List ℕ) → AllZip (λ o mask. IsMaskOf (TrueNeeds d s o) mask) os masks → (mask : ℕ) → Contains masks mask →
      ports_mask (ports_in mask (input_ports d.rows s)) ≡ mask
  own-needs [] [] are mask has = absurd (in-none mask has)
  own-needs [] (m ∷ masks) are mask has = absurd are
  own-needs (o ∷ os) [] are mask has = absurd are
  own-needs (o ∷ os) (m ∷ masks) are mask has = elim (in-cases m mask masks has) [
    | inl same ↦ subst (λ n. ports_mask (ports_in n (input_ports d.rows s)) ≡ n) same (own-need o m are.0)
    | inr more ↦ own-needs os masks are.1 mask more
  ]

-- ---- Controls

subsystem-kind : (kind : Kind) → is_subsystem kind ≡ true → kind ≡ SubSystem (control_of kind)
subsystem-kind (SubSystem control) h = refl
subsystem-kind _ h = absurd (true≢false (sym h))

ports-wanted : (control : Control) (o : Option ℕ) → wires_wanted (SubSystem control) o ≡ length (control_ports control)
ports-wanted Plain o = refl
ports-wanted (Enabled reset) o = refl
ports-wanted (Triggered edge) o = refl
ports-wanted (Both reset edge) o = refl

pub controls-counted : (d : Diagram) → IsWired d.rows → (s : Option ℕ) → Contains (systems d.rows) s →
    length (control_ports (system_control d.rows s)) ≡ length (map (type_at d.types) (control_wires_of d.rows s))
controls-counted d wired None h = refl
controls-counted d wired (Some e) h = elim (in-cases None (Some e) (map Some (systems_inside d.rows None)) h) [
  | inl same ↦ absurd (none-some e same)
  | inr more ↦
      let m = of-map Some (systems_inside d.rows None) (Some e) more in
      subst (λ b. length (control_ports (control_at d.rows b)) ≡ length (map (type_at d.types) (row_at d.rows b).inputs))
      (same_Some m.0 e m.2)
      (counted m.0 (of-filter (λ b. is_subsystem (row_at d.rows b).kind && is_inside d.rows None b) (row_numbers d.rows) m.0 m.1))
]
  where
    counted : (b : ℕ) → Contains (row_numbers d.rows) b × ((is_subsystem (row_at d.rows b).kind && is_inside d.rows None b) ≡ true) →
        length (control_ports (control_at d.rows b)) ≡ length (map (type_at d.types) (row_at d.rows b).inputs)
    counted b (among, is) =
        let below = (of-range 0 (length d.rows) b among).1 in
        let kind = subsystem-kind (row_at d.rows b).kind (and_parts (is_subsystem (row_at d.rows b).kind) (is_inside d.rows None b) is).0 in
        sym (length-map (row_at d.rows b).inputs (type_at d.types) ∙ wired.counts b (omega (arith, below))
        ∙ ap (λ k. wires_wanted k (row_at d.rows b).owner) kind ∙ ports-wanted (control_at d.rows b) (row_at d.rows b).owner)
