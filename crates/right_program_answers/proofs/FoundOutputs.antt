-- What a system offers in a program, by the numbers of its functions, and the values that these leave in its outputs' fields.
use Rattle.std.specs.Prelude.{◌≡◌, ℕ, ◌+◌, ◌-◌, ◌<◌, ◌≤◌, ◌&&◌, Bool, true, if◌then◌else◌, List, [], ◌∷◌, map, filter, length, slice_get, slice_index, Contains, Option, Some, ℤ, pos}
use Rattle.std.specs.List.{AllByRecursion, list_any, range_with_len, enumerate_from}
use Rattle.std.proofs.Common.{sym, ap, ◌∙◌, arith, inl, inr}
use Rattle.std.proofs.lemmas.Bool.{and_from, or_left, or_right}
use Rattle.std.proofs.lemmas.Option.{get_or_from_slice_get}
use Rattle.base_fixed_point.specs.declared.FixType.{FixType}
use Rattle.diagram_meaning.specs.Rows.{outports_of}
use Rattle.base_core.specs.Numbers.{int_at}
use Rattle.diagram_meaning.specs.Diagram.{Diagram, type_at}
use Rattle.modules_profile.specs.declared.LocalRow.{LocalRow}
use Rattle.modules_profile.specs.LocalSystem.{LocalSystem}
use Rattle.modules_profile.specs.SystemHeader.{SystemHeader}
use Rattle.modules_profile.specs.SystemProfile.{SystemProfile}
use Rattle.base_core.specs.Ports.{has_bit}
use Rattle.modules_profile.specs.Headers.{header_of, header_functions, header_function, given_by_function}
use Rattle.modules_profile.specs.Locals.{outports, own_header}
use Rattle.modules_profile.proofs.lemmas.Members.{in-none, in-cases, of-map, of-filter, in-range, at-below, at-map, map-at, at-range, of-enumerate}
use Rattle.c_syntax.specs.Tree.{ProgramTree}
use Rattle.c_semantics.specs.Cells.{number_at}
use Rattle.emit_shape.specs.Names.{value_name, out_name}
use Rattle.right_relation.specs.Instances.{out, InstanceTick, nothing_offered, offered_for, OuterTick}
use Rattle.right_relation.specs.Serving.{is_given, Serves}
use Rattle.right_claim.specs.Paths.{place_in}
use Rattle.right_linking.specs.Offers.{offered_by, program_offer}
use Rattle.right_linking.proofs.lemmas.AssembledPlaces.{all-made}

any-of : (test : ℕ → Bool) (xs : List ℕ) (x : ℕ) → Contains xs x → test x ≡ true → list_any test xs ≡ true
any-of test [] x has passes = absurd (in-none x has)
any-of test (y ∷ ys) x has passes = elim (in-cases y x ys has) [
  | inl same ↦ or_left (test y) (list_any test ys) (ap test same ∙ passes)
  | inr more ↦ or_right (test y) (list_any test ys) (any-of test ys x more passes)
]

-- the procedure of function j is that of its name
pub out-offered : (p : ProgramTree) (h : SystemHeader) (j : ℕ) → 0 < j → j ≤ length (header_functions h) →
    offered_for (program_offer p h) (out j) ≡ offered_by p (out_name h.row j)
out-offered p h j positive most =
    let counted : 1 + (j - 1) ≡ j = omega (arith, positive) in
    get_or_from_slice_get (map (λ k. offered_by p (out_name h.row k)) (range_with_len 1 (length (header_functions h)))) (j - 1)
    (offered_by p (out_name h.row j)) nothing_offered
    (at-map (λ k. offered_by p (out_name h.row k)) (range_with_len 1 (length (header_functions h))) (j - 1) j
    (at-range 1 (length (header_functions h)) (j - 1) (omega (arith, positive, most)) ∙ ap Some counted))

module _ (p : ProgramTree) (d : Diagram) (s : Option ℕ) (local : LocalSystem) (profile : SystemProfile)
    (is : own_header local profile ≡ header_of d s profile) where
  abbrev h : SystemHeader
  h = own_header local profile

  -- the output of a port in the header, its place, and the own row
  output-at : (k o : ℕ) → slice_get (outports_of d.rows s) k ≡ Some o → slice_get h.outputs k ≡ Some (o, type_at d.types o)
  output-at k o at =
      ap (λ (g : SystemHeader). slice_get g.outputs k) is ∙ at-map (λ b. (b, type_at d.types b)) (outports_of d.rows s) k o at

  place-at : (k o : ℕ) → slice_get (outports_of d.rows s) k ≡ Some o →
      slice_index (program_offer p h).places k ≡ place_in p s (value_name o)
  place-at k o at =
      get_or_from_slice_get (program_offer p h).places k (place_in p h.row (value_name o)) 0
      (at-map (λ (e : ℕ × FixType). place_in p h.row (value_name e.0)) h.outputs k (o, type_at d.types o) (output-at k o at))
      ∙ ap (λ (g : SystemHeader). place_in p g.row (value_name o)) is

  value-at : (f : ℕ → ℤ) (k o : ℕ) → slice_get (outports_of d.rows s) k ≡ Some o →
      int_at (map (λ (r : LocalRow). f r.row) (outports local)) k ≡ f o
  value-at f k o at =
      let own = map-at (λ (r : LocalRow). (r.row, r.out)) (outports local) k (o, type_at d.types o) (output-at k o at) in
      get_or_from_slice_get (map (λ (r : LocalRow). f r.row) (outports local)) k (f own.0.row) (pos 0)
      (at-map (λ (r : LocalRow). f r.row) (outports local) k own.0 own.1)
      ∙ ap (λ (e : ℕ × FixType). f e.0) own.2

  -- where function j was called its outputs have the values of the tick
  pub outputs-left : (cycle : ℕ) (outer : OuterTick) (i : InstanceTick) (f : ℕ → ℤ) (called : ℕ → Bool) (j : ℕ) →
      Serves h (program_offer p h) cycle outer i →
      outer.outputs ≡ map (λ (r : LocalRow). f r.row) (outports local) → 0 < j → j ≤ length (header_functions h) → called j ≡ true →
      AllByRecursion (λ o. number_at (i.standing called) (place_in p s (value_name o)) ≡ f o)
      (given_by_function (header_function h j) (outports_of d.rows s))
  outputs-left cycle outer i f called j serves outs positive most is_called =
      all-made (λ o. number_at (i.standing called) (place_in p s (value_name o)) ≡ f o)
      (given_by_function (header_function h j) (outports_of d.rows s)) one
    where
      given : (k : ℕ) → has_bit (header_function h j).outputs k ≡ true → is_given h called k ≡ true
      given k bit =
          any-of (λ i. called i && has_bit (header_function h i).outputs k)
          (range_with_len 1 (length (header_functions h))) j (in-range 1 (length (header_functions h)) j positive (omega (arith, most)))
          (and_from (called j) (has_bit (header_function h j).outputs k) is_called bit)

      one : (o : ℕ) → Contains (given_by_function (header_function h j) (outports_of d.rows s)) o →
          number_at (i.standing called) (place_in p s (value_name o)) ≡ f o
      one o has =
          let passes = λ (e : ℕ × ℕ). has_bit (header_function h j).outputs e.0 in
          let pair = of-map (λ (e : ℕ × ℕ). e.1) (filter passes (enumerate_from 0 (outports_of d.rows s))) o has in
          let kept = of-filter passes (enumerate_from 0 (outports_of d.rows s)) pair.0 pair.1 in
          let found = of-enumerate 0 (outports_of d.rows s) pair.0 kept.0 in
          let k = found.0 in
          let at : slice_get (outports_of d.rows s) k ≡ Some o = found.2 ∙ ap Some pair.2 in
          let bit : has_bit (header_function h j).outputs k ≡ true =
          ap (has_bit (header_function h j).outputs) (let same : k ≡ 0 + k = omega arith in same ∙ found.1) ∙ kept.1 in
          ap (number_at (i.standing called)) (sym (place-at k o at))
          ∙ serves.outputs called k (at-below h.outputs k (o, type_at d.types o) (output-at k o at))
          ∙ ap (λ b. int_at (if b then outer.outputs else outer.before) k) (given k bit)
          ∙ ap (λ vs. int_at vs k) outs
          ∙ value-at f k o at
