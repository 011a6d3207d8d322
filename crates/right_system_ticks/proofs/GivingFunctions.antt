-- Each output of a system is given by one function of its profile.
use Rattle.std.specs.Prelude.{◌≡◌, ◌⊎◌, ℕ, ◌+◌, ◌<◌, true, false, ◌==◌, List, map, length, slice_get, slice_index, Contains, Some, None, unwrap_or, refl}
use Rattle.std.specs.List.{position_from, range_with_len}
use Rattle.std.proofs.Common.{sym, ap, subst, ◌∙◌, arith, inl, inr}
use Rattle.std.proofs.lemmas.Bool.{eqb-true, eq-eqb}
use Rattle.std.proofs.lemmas.List.{length-map}
use Rattle.std.proofs.lemmas.Slice.Zip.{AllZip-long}
use Rattle.std.proofs.lemmas.Option.{same_Some, get_or_from_slice_get}
use Rattle.base_core.specs.Interface.{different}
use Rattle.base_fixed_point.specs.declared.FixType.{FixType}
use Rattle.diagram_meaning.specs.Diagram.{type_at}
use Rattle.diagram_meaning.specs.Rows.{outports_of}
use Rattle.diagram_meaning.specs.Needs.{TrueNeeds, IsMaskOf}
use Rattle.diagram_meaning.specs.ResolvedTree.{diagram_of}
use Rattle.modules_profile.specs.declared.local.LocalRow.{LocalRow}
use Rattle.modules_profile.specs.declared.profile.Function.{Function}
use Rattle.modules_profile.specs.LocalSystem.{LocalSystem}
use Rattle.modules_profile.specs.SystemHeader.{SystemHeader}
use Rattle.modules_profile.specs.SystemProfile.{SystemProfile}
use Rattle.modules_profile.specs.Functions.{function_for, functions_for}
use Rattle.base_core.specs.Ports.{has_bit}
use Rattle.modules_profile.specs.Locals.{own_header, outports}
use Rattle.modules_profile.specs.NodeFacts.{HeaderIsOfOwnRows}
use Rattle.modules_profile.proofs.lemmas.LawfulSteps.{apart-at, apart-different}
use Rattle.modules_profile.proofs.lemmas.MaskBits.{in-different, holds-has, has-holds, index-at, index-holds}
use Rattle.modules_profile.proofs.lemmas.Members.{in-map, in-at, at-below, below-at, at-map, map-at, at-range}
use Rattle.modules_schedule.specs.SystemSchedule.{SystemSchedule}
use Rattle.emit_system_spec.specs.Schedules.{giving_function, giving_functions}
use Rattle.emit_system_spec.specs.Emitted.{IsEmitted}
use Rattle.right_system_ticks.proofs.Tests.{true-false, first-place}

module _ (profile : SystemProfile) (needs : List ℕ) (functions : profile.functions ≡ functions_for needs) where
  -- the function at a place gives just the outputs with its needs
  bit-need : (i p : ℕ) (f : Function) → slice_get profile.functions p ≡ Some f → has_bit f.outputs i ≡ true →
      (m : ℕ) × (slice_get (different needs) p ≡ Some m) × (slice_get needs i ≡ Some m)
  bit-need i p f at has =
      let m = map-at (function_for needs) (different needs) p f (ap (λ fs. slice_get fs p) (sym functions) ∙ at) in
      let n = index-holds (λ n. n == m.0) needs i (has-holds (map (λ n. n == m.0) needs) i
      (ap (λ (f : Function). has_bit f.outputs i) m.2 ∙ has)) in
      (m.0, m.1, n.1 ∙ ap Some (eqb-true n.0 m.0 n.2))

  -- two functions that give an output are one
  bits-alone : (i p q : ℕ) (f e : Function) → slice_get profile.functions p ≡ Some f → slice_get profile.functions q ≡ Some e →
      has_bit f.outputs i ≡ true → has_bit e.outputs i ≡ true → p ≡ q
  bits-alone i p q f e at_p at_q one two =
      let a = bit-need i p f at_p one in
      let b = bit-need i q e at_q two in
      apart-at (different needs) p q b.0 (apart-different needs) (a.1 ∙ ap Some (same_Some a.0 b.0 (sym a.2 ∙ b.2))) b.1

  -- each output that needs something is given by the first function that gives it
  pub gives : (i : ℕ) → i < length needs →
      (f : Function) × (slice_get profile.functions (giving_function profile i) ≡ Some f) × (has_bit f.outputs i ≡ true)
  gives i below = by (first-place (λ (f : Function). has_bit f.outputs i) 0 profile.functions)
    where
      there : (f : Function) × Contains profile.functions f × (has_bit f.outputs i ≡ true)
      there =
          let m = below-at needs i below in (
            function_for needs m.0,
            subst (λ fs. Contains fs (function_for needs m.0)) (sym functions)
                (in-map (function_for needs) (different needs) m.0 (in-different needs m.0 (in-at needs i m.0 m.1))),
            holds-has (map (λ n. n == m.0) needs) i (index-at (λ n. n == m.0) needs i m.0 m.1 ∙ eq-eqb m.0 m.0 refl),
          )

      by : ((position_from (λ (f : Function). has_bit f.outputs i) 0 profile.functions ≡ None)
          × ((f : Function) → Contains profile.functions f → has_bit f.outputs i ≡ false))
          ⊎ ((k : ℕ) × (f : Function) × (position_from (λ (f : Function). has_bit f.outputs i) 0 profile.functions ≡ Some (0 + k))
          × (slice_get profile.functions k ≡ Some f) × (has_bit f.outputs i ≡ true)) →
          (f : Function) × (slice_get profile.functions (giving_function profile i) ≡ Some f) × (has_bit f.outputs i ≡ true)
      by (inl (none, fails)) = absurd (true-false (has_bit there.0.outputs i) there.2 (fails there.0 there.1))
      by (inr (k, f, found, at, passes)) = (
        f,
        ap (λ o. slice_get profile.functions (unwrap_or o 0)) found
            ∙ ap (slice_get profile.functions) (let e : 0 + k ≡ k = omega arith in e) ∙ at,
        passes,
      )

  pub gives-alone : (i p : ℕ) (f : Function) → i < length needs → slice_get profile.functions p ≡ Some f → has_bit f.outputs i ≡ true →
      giving_function profile i ≡ p
  gives-alone i p f below at has = let g = gives i below in bits-alone i (giving_function profile i) p g.0 f g.1 at g.2 has

-- ---- Of an emitted system

module _ (header_is_of_own_rows : HeaderIsOfOwnRows) (local : LocalSystem) (profile : SystemProfile) (schedule : SystemSchedule)
    (is : IsEmitted local profile schedule) where
  pub needs-long : length is.is_profile.needs ≡ length (outports local)
  needs-long =
      let d = diagram_of is.resolved in
      let header = ap (λ (l : LocalSystem). own_header l profile) is.is_local.is_local
      ∙ header_is_of_own_rows d is.resolved.times.delays local.row is.is_local.headers profile in
      let outs = ap (λ (h : SystemHeader). length h.outputs) header in
      let one = length-map {B = ℕ × FixType} (outports local) (λ (r : LocalRow). (r.row, r.out)) in
      let two = length-map {B = ℕ × FixType} (outports_of d.rows local.row) (λ o. (o, type_at d.types o)) in
      let zip = AllZip-long (λ o mask. IsMaskOf (TrueNeeds d local.row o) mask) (outports_of d.rows local.row)
      is.is_profile.needs is.is_profile.are_needs in
      omega (arith, outs, one, two, zip)

  -- the class of an output is the function that gives it
  pub class-is : (i : ℕ) → i < length (outports local) → slice_index (giving_functions local profile) i ≡ giving_function profile i
  class-is i below =
      get_or_from_slice_get (giving_functions local profile) i (giving_function profile i) 0
      (at-map (giving_function profile) (range_with_len 0 (length (outports local))) i i
      (at-range 0 (length (outports local)) i below ∙ ap Some (let e : 0 + i ≡ i = omega arith in e)))

  pub class-gives : (i : ℕ) → i < length (outports local) →
      (f : Function) × (slice_get profile.functions (slice_index (giving_functions local profile) i) ≡ Some f)
      × (has_bit f.outputs i ≡ true)
  class-gives i below =
      let long = needs-long in
      let g = gives profile is.is_profile.needs is.is_profile.functions i (omega (arith, long, below)) in
      (g.0, ap (slice_get profile.functions) (class-is i below) ∙ g.1, g.2)

  pub class-alone : (i p : ℕ) (f : Function) → i < length (outports local) → slice_get profile.functions p ≡ Some f →
      has_bit f.outputs i ≡ true →
      slice_index (giving_functions local profile) i ≡ p
  class-alone i p f below at has =
      let long = needs-long in
      class-is i below ∙ gives-alone profile is.is_profile.needs is.is_profile.functions i p f (omega (arith, long, below)) at has

  pub class-below : (i : ℕ) → i < length (outports local) → slice_index (giving_functions local profile) i < length profile.functions
  class-below i below = let g = class-gives i below in at-below profile.functions (slice_index (giving_functions local profile) i) g.0 g.1
