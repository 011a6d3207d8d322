-- Each output procedure of a system in the program stores the outputs that its function gives.
use Rattle.std.specs.Prelude.{◌≡◌, ℕ, suc, ◌+◌, ◌<◌, ◌≤◌, ◌==◌, Bool, true, false, List, [], ◌∷◌, map, filter, length, slice_get, slice_index_or, Contains, Option, Some, bytes_eq, refl}
use Rattle.std.specs.List.{list_any, enumerate_from, range_with_len}
use Rattle.std.proofs.Common.{sym, ap, subst, ◌∙◌, arith, true≢false}
use Rattle.std.proofs.lemmas.Option.{get_or_from_slice_get}
use Rattle.base_core.specs.Interface.{different}
use Rattle.diagram_meaning.specs.Diagram.{type_at}
use Rattle.diagram_meaning.specs.Rows.{row_at, rows_of, outports_of}
use Rattle.diagram_blocks.specs.Kinds.{port_of, is_outport}
use Rattle.base_fixed_point.specs.declared.FixType.{FixType}
use Rattle.modules_profile.specs.declared.LocalRow.{LocalRow}
use Rattle.modules_profile.specs.declared.Function.{Function}
use Rattle.modules_profile.specs.Functions.{function_for, mask_of}
use Rattle.modules_profile.specs.Headers.{idle_function, header_function, given_by_function, given_rows}
use Rattle.modules_profile.specs.Locals.{local_row, outports}
use Rattle.modules_profile.specs.NodeFacts.{LocalsAreLawful, HeaderIsOfOwnRows}
use Rattle.base_core.specs.Ports.{has_bit}
use Rattle.modules_profile.specs.SystemHeader.{SystemHeader}
use Rattle.modules_profile.proofs.lemmas.LawfulSteps.{apart-at, apart-found}
use Rattle.modules_profile.proofs.lemmas.MaskBits.{holds-has, has-holds, index-at}
use Rattle.modules_profile.proofs.lemmas.Members.{in-map, in-filter, in-at, in-range, in-enumerate, at-map, at-below, of-map, of-filter, of-enumerate}
use Rattle.modules_profile.proofs.lemmas.OwnRows.{by_port_mapped}
use Rattle.emit_shape.specs.Faces.{stores}
use Rattle.emit_shape.specs.Heads.{Head}
use Rattle.emit_shape.specs.LocalShape.{local_stored, own_position, outputs_stored}
use Rattle.emit_shape.specs.Names.{out_name, value_name}
use Rattle.emit_shape.specs.Programs.{procedure_place}
use Rattle.emit_shape.specs.Stored.{has_stored}
use Rattle.right_linking.specs.Parts.{Parts, program_of, diagram, all_systems, coded_header, IsCodedAs, Views}
use Rattle.right_linking.specs.Places.{SystemsHavePlaces}
use Rattle.right_linking.proofs.lemmas.AssembledNames.{own-place}
use Rattle.right_linking.proofs.lemmas.AssembledPlaces.{member}
use Rattle.right_program_interfaces.proofs.FunctionPlaces.{count, HasOut, out-there}
use Rattle.right_program_interfaces.proofs.Lists.{filter-map, map-map}
use Rattle.right_program_interfaces.proofs.StoredFields.{all_stored, stored-same}
use Rattle.right_program_interfaces.proofs.TakenInputs.{seen, header-seen}

same-list : (xs : List ℕ) → map (λ x. x) xs ≡ xs
same-list [] = refl
same-list (x ∷ xs) = ap (λ ys. x ∷ ys) (same-list xs)

-- the bit of a mask is the test at its place
mask-tells : (bits : List Bool) (i : ℕ) → has_bit (mask_of bits) i ≡ slice_index_or bits i false
mask-tells bits i = by (slice_index_or bits i false) refl (has_bit (mask_of bits) i) refl
  where
    by : (t : Bool) → slice_index_or bits i false ≡ t → (u : Bool) → has_bit (mask_of bits) i ≡ u →
        has_bit (mask_of bits) i ≡ slice_index_or bits i false
    by true e u f = holds-has bits i e ∙ sym e
    by false e true f = absurd (true≢false (sym (has-holds bits i f) ∙ e))
    by false e false f = f ∙ sym e

module _ (locals : LocalsAreLawful) (places : SystemsHavePlaces) (headers : HeaderIsOfOwnRows) (a : Parts) (v : Views a) (place : ℕ)
    (s : Option ℕ) (stands : slice_get (all_systems a) place ≡ Some s) where
  abbrev known : IsCodedAs a place s (v.at s)
  known = v.each place s stands

  abbrev os : List ℕ
  os = outports_of (diagram a).rows s

  abbrev made_row : ℕ → LocalRow
  made_row = local_row (diagram a) a.model.times.delays

  abbrev top : SystemHeader
  top = seen places headers a v place s stands

  outs-are : outports (v.at s).local ≡ map made_row os
  outs-are = ap outports known.local.is_local ∙ by_port_mapped (diagram a) a.model.times.delays s known.local.headers is_outport

  once : (i j x : ℕ) → slice_get os i ≡ Some x → slice_get os j ≡ Some x → i ≡ j
  once i j x one two =
      let own = filter (λ b. is_outport (row_at (diagram a).rows b).kind) (rows_of (diagram a).rows s) in
      apart-at os i j x (apart-found (λ b. port_of (row_at (diagram a).rows b).kind) own 1 (length own)) one two

  abbrev own_stored : List (List (List ℕ))
  own_stored = local_stored (v.at s).local (v.at s).slots (v.at s).code

  module _ (k : ℕ) (low : 1 ≤ k) (high : k < 1 + count places a v place s stands) where
    out : HasOut places a v place s stands k
    out = out-there places a v place s stands k low high

    -- whether the procedure of this function stores an output
    abbrev stored_own : ℕ → Bool
    stored_own b = has_stored own_stored out.number (value_name b)

    abbrev f : Function
    f = header_function top k

    stored-here : (o : ℕ) → stores (program_of a) (value_name o) (procedure_place (program_of a) (out_name s k)) ≡ stored_own o
    stored-here o =
        ap (λ n. list_any (bytes_eq (value_name o)) (slice_index_or (all_stored locals places a v place s stands) n [])) out.found
        ∙ ap (λ names. list_any (bytes_eq (value_name o)) names)
        (stored-same locals places a v place s stands out.number (at-below (v.at s).code.procedures out.number out.own out.at))

    position : own_position (v.at s).code (out_name (v.at s).local.row k) ≡ out.number
    position = ap (own_position (v.at s).code) (sym (ap (λ (z : Head). z.name) out.head))
        ∙ own-place a v place s stands out.number out.own out.at

    given : filter stored_own os ≡ given_by_function f os
    given =
        sym (ap (λ rs. map (λ (o : LocalRow). o.row) (filter (λ (o : LocalRow). stored_own o.row) rs)) outs-are
        ∙ ap (map (λ (o : LocalRow). o.row)) (filter-map (λ (o : LocalRow). stored_own o.row) made_row os)
        ∙ map-map (λ (o : LocalRow). o.row) made_row (filter stored_own os) ∙ same-list (filter stored_own os))
        ∙ ap (outputs_stored (v.at s).local (v.at s).slots (v.at s).code) (sym position)
        ∙ member (λ j. outputs_stored (v.at s).local (v.at s).slots (v.at s).code
        (own_position (v.at s).code (out_name (v.at s).local.row j)) ≡ given_rows (coded_header (v.at s)) j)
        (range_with_len 1 (count places a v place s stands)) k known.shape.gives (in-range 1 (count places a v place s stands) k low high)
        ∙ ap (λ h. given_rows h k) (header-seen places headers a v place s stands)
        ∙ ap (given_by_function f) (map-map (λ (o : ℕ × FixType). o.0) (λ o. (o, type_at (diagram a).types o)) os ∙ same-list os)

    -- it stores those that the function gives
    gives-own : (i o : ℕ) → slice_get os i ≡ Some o → stored_own o ≡ has_bit f.outputs i
    gives-own i o at = by (has_bit f.outputs i) refl
      where
        others : has_bit f.outputs i ≡ false → (t : Bool) → stored_own o ≡ t → stored_own o ≡ false
        others e false stored = stored
        others e true stored =
            let there = subst (λ xs. Contains xs o) given (in-filter stored_own os o (in-at os i o at) stored) in
            let from = of-map (λ (z : ℕ × ℕ). z.1) (filter (λ (z : ℕ × ℕ). has_bit f.outputs z.0) (enumerate_from 0 os)) o there in
            let kept = of-filter (λ (z : ℕ × ℕ). has_bit f.outputs z.0) (enumerate_from 0 os) from.0 from.1 in
            let (j, number, found) = of-enumerate 0 os from.0 kept.0 in
            let same = once j i o (found ∙ ap Some from.2) at in
            let is : from.0.0 ≡ i = omega (arith, number, same) in
            absurd (true≢false (sym kept.1 ∙ ap (has_bit f.outputs) is ∙ e))

        by : (t : Bool) → has_bit f.outputs i ≡ t → stored_own o ≡ t
        by true e =
            let none_more : 0 + i ≡ i = omega arith in
            let among = subst (λ n. Contains (enumerate_from 0 os) (n, o)) none_more (in-enumerate 0 os i o at) in
            let there = in-map (λ (z : ℕ × ℕ). z.1) (filter (λ (z : ℕ × ℕ). has_bit f.outputs z.0) (enumerate_from 0 os)) (i, o)
            (in-filter (λ (z : ℕ × ℕ). has_bit f.outputs z.0) (enumerate_from 0 os) (i, o) among e) in
            (of-filter stored_own os o (subst (λ xs. Contains xs o) (sym given) there)).1
        by false e = others e (stored_own o) refl

  -- ---- By what outputs need

  abbrev needs : List ℕ
  needs = (v.each place s stands).profile.needs

  pub function-is : (k d : ℕ) → slice_get (different needs) k ≡ Some d → header_function top (suc k) ≡ function_for needs d
  function-is k d at =
      ap (λ (fs : List Function). slice_index_or fs k idle_function) known.profile.functions
      ∙ get_or_from_slice_get (map (function_for needs) (different needs)) k (function_for needs d) idle_function
      (at-map (function_for needs) (different needs) k d at)

  -- the procedure of a function stores an output where the output needs what the function takes
  pub stores-needed : (k d i o m : ℕ) → k < count places a v place s stands → slice_get (different needs) k ≡ Some d →
      slice_get os i ≡ Some o → slice_get needs i ≡ Some m →
      stores (program_of a) (value_name o) (procedure_place (program_of a) (out_name s (suc k))) ≡ (m == d)
  stores-needed k d i o m below at output need =
      stored-here (suc k) (omega arith) (omega (arith, below)) o
      ∙ gives-own (suc k) (omega arith) (omega (arith, below)) i o output
      ∙ ap (λ (g : Function). has_bit g.outputs i) (function-is k d at)
      ∙ mask-tells (map (λ n. n == d) needs) i ∙ index-at (λ n. n == d) needs i m need
