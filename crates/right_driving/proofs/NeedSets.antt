-- What outputs need is a set of the system's own inputs, and the functions for it are few.
use Rattle.std.specs.Prelude.{◌≡◌, ℕ, ◌-◌, ◌^◌, ◌<◌, ◌≤◌, ◌==◌, not, Bool, true, false, List, [], ◌∷◌, map, filter, length, Contains, IsBitSet, Option}
use Rattle.std.specs.List.{AllZip}
use Rattle.std.proofs.Common.{ap, subst, arith, inl, inr}
use Rattle.std.proofs.lemmas.List.{length-map}
use Rattle.std.proofs.Math.Nat.{pow-suc}
use Rattle.base_core.specs.Interface.{different}
use Rattle.diagram_meaning.specs.Diagram.{Diagram}
use Rattle.diagram_meaning.specs.Inputs.{input_ports}
use Rattle.diagram_meaning.specs.Needs.{TrueNeeds, IsMaskOf, AreTrueNeeds}
use Rattle.diagram_meaning.specs.Rows.{row_at, system_control, inports_of, outports_of}
use Rattle.diagram_blocks.specs.Kinds.{is_inport, is_outport, port_of}
use Rattle.diagram_meaning.specs.WellFormed.{HasPorts}
use Rattle.modules_profile.specs.Functions.{mask_of, function_for, functions_for}
use Rattle.base_core.specs.Ports.{ports_in, ports_mask}
use Rattle.modules_profile.proofs.lemmas.LawfulSteps.{short-different}
use Rattle.modules_profile.proofs.lemmas.Members.{in-none, in-first, in-rest, in-cases, of-filter}
use Rattle.modules_profile.proofs.lemmas.PortRows.{port-range, few-ports}
use Rattle.right_driving.proofs.Lists.{zip-long}
use Rattle.right_claim.proofs.lemmas.OwnMasks.{own-mask}

-- ---- Members

pub of-different : (xs : List ℕ) (x : ℕ) → Contains (different xs) x → Contains xs x
of-different [] x has = has
of-different (y ∷ ys) x has = elim (in-cases y x (filter (λ z. not (z == y)) (different ys)) has) [
  | inl same ↦ subst (Contains (y ∷ ys)) same (in-first y ys)
  | inr more ↦ in-rest y x ys (of-different ys x (of-filter (λ z. not (z == y)) (different ys) x more).0)
]

-- ---- Inputs

module _ (d : Diagram) (s : Option ℕ) (ports : HasPorts d.rows is_inport s) where
  no-input : (o mask k : ℕ) → IsMaskOf (TrueNeeds d s o) mask → length (inports_of d.rows s) < k → k ≤ 32 → IsBitSet mask (k - 1) → ⊥
  no-input o mask k is above high set =
      let (i, input, reaches) = (is.number k (omega (arith, above)) high).0 set in
      let range = port-range d.rows s is_inport ports i input.in_table input.is_own (ap is_inport input.is_inport) in
      let top = range.1 in
      let port : port_of (row_at d.rows i).kind ≡ k = ap port_of input.is_inport in
      omega (arith, above, top, port)

  own-need : (o mask : ℕ) → IsMaskOf (TrueNeeds d s o) mask → ports_mask (ports_in mask (input_ports d.rows s)) ≡ mask
  own-need o mask is =
      own-mask mask is.bounded (length (inports_of d.rows s)) (few-ports d.rows s is_inport ports)
      (λ k above high. no-input o mask k is above high)
      (system_control d.rows s) is.enable is.trigger

  pub own-needs : (os masks : List ℕ) → AllZip (λ o mask. IsMaskOf (TrueNeeds d s o) mask) os masks → (mask : ℕ) → Contains masks mask →
      ports_mask (ports_in mask (input_ports d.rows s)) ≡ mask
  own-needs [] [] are mask has = absurd (in-none mask has)
  own-needs [] (m ∷ masks) are mask has = absurd are
  own-needs (o ∷ os) [] are mask has = absurd are
  own-needs (o ∷ os) (m ∷ masks) are mask has = elim (in-cases m mask masks has) [
    | inl same ↦ subst (λ n. ports_mask (ports_in n (input_ports d.rows s)) ≡ n) same (own-need o m are.0)
    | inr more ↦ own-needs os masks are.1 mask more
  ]

-- ---- Outputs

mask-below : (bits : List Bool) → mask_of bits < 2 ^ length bits
mask-below [] = omega arith
mask-below (true ∷ bits) = let h = mask-below bits in let e = pow-suc 2 (length bits) in omega (arith, h, e)
mask-below (false ∷ bits) = let h = mask-below bits in let e = pow-suc 2 (length bits) in omega (arith, h, e)

pub outputs-below : (needs : List ℕ) (inputs : ℕ) → (function_for needs inputs).outputs < 2 ^ length needs
outputs-below needs inputs =
    let bits : List Bool = map (λ k. k == inputs) needs in
    subst (λ n. mask_of bits < 2 ^ n) (length-map needs (λ k. k == inputs)) (mask-below bits)

-- ---- Functions

pub needs-counted : (d : Diagram) (s : Option ℕ) (needs : List ℕ) → AreTrueNeeds d s needs → length (outports_of d.rows s) ≡ length needs
needs-counted d s needs are = zip-long (λ o mask. IsMaskOf (TrueNeeds d s o) mask) (outports_of d.rows s) needs are

pub few-functions : (d : Diagram) (s : Option ℕ) (needs : List ℕ) → HasPorts d.rows is_outport s → AreTrueNeeds d s needs →
    length (functions_for needs) ≤ 32
few-functions d s needs ports are =
    let mapped = length-map (different needs) (function_for needs) in
    let fewer = short-different needs in
    let counted = needs-counted d s needs are in
    let most = few-ports d.rows s is_outport ports in
    omega (arith, mapped, fewer, counted, most)
