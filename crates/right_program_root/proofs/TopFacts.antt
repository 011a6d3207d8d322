-- What is known of `top` beside the root's own rows: both are the root of one model.
use Rattle.std.specs.Prelude.{◌≡◌, ℕ, zero, suc, ◌^◌, ◌<◌, ◌≤◌, List, [], ◌∷◌, map, length, slice_get, slice_index, Some, None, refl}
use Rattle.std.specs.List.{AllZip, range_with_len}
use Rattle.std.proofs.Common.{sym, ap, subst, ◌∙◌, arith}
use Rattle.std.proofs.lemmas.Option.{get_or_from_slice_get, same_Some, none-some}
use Rattle.base_fixed_point.specs.declared.FixType.{FixType}
use Rattle.diagram_meaning.specs.Rows.{inports_of, outports_of}
use Rattle.diagram_blocks.specs.Kinds.{port_of, is_inport, is_outport}
use Rattle.modules_profile.specs.declared.LocalRow.{LocalRow}
use Rattle.modules_profile.specs.LocalSystem.{LocalSystem}
use Rattle.modules_profile.specs.SystemHeader.{SystemHeader}
use Rattle.modules_profile.specs.Headers.{header_of, header_functions}
use Rattle.modules_profile.specs.Locals.{local_of, inports, outports, own_header}
use Rattle.modules_profile.specs.NodeFacts.{HeaderIsOfOwnRows}
use Rattle.modules_profile.proofs.lemmas.Members.{at-map, in-first}
use Rattle.emit_shape.specs.Names.{value_name}
use Rattle.emit_shape.specs.Slots.{value}
use Rattle.right_claim.specs.Paths.{place_in}
use Rattle.right_linking.specs.Parts.{Parts, program_of, diagram, coded_header, IsCodedAs, Views}
use Rattle.right_linking.specs.Places.{FieldsAreFound}
use Rattle.right_linking.specs.Offers.{offer_of}
use Rattle.right_program_root.proofs.PortedRows.{rows-are, as-many, numbers-are, ports-are, few-rows}
use Rattle.right_program_root.proofs.RootBound.{functions-few, outputs}

zip-right : {A B : Type 0} (R : A → B → Type 0) (xs : List A) (ys : List B) (k : ℕ) (y : B) → AllZip R xs ys → slice_get ys k ≡ Some y →
    (x : A) × (slice_get xs k ≡ Some x) × R x y
zip-right R [] [] k y all at = absurd (none-some y at)
zip-right R [] (z ∷ ys) k y all at = absurd all
zip-right R (x ∷ xs) [] k y all at = absurd all
zip-right R (x ∷ xs) (z ∷ ys) zero y all at = (x, refl, subst (R x) (same_Some z y at) all.0)
zip-right R (x ∷ xs) (z ∷ ys) (suc k) y all at = zip-right R xs ys k y all.1 at

zip-long : {A B : Type 0} (R : A → B → Type 0) (xs : List A) (ys : List B) → AllZip R xs ys → length ys ≡ length xs
zip-long R [] [] all = refl
zip-long R [] (y ∷ ys) all = absurd all
zip-long R (x ∷ xs) [] all = absurd all
zip-long R (x ∷ xs) (y ∷ ys) all = ap suc (zip-long R xs ys all.1)

module _ (a : Parts) (v : Views a) where
  abbrev pub local : LocalSystem
  local = (v.at None).local

  abbrev pub h : SystemHeader
  h = coded_header (v.at None)

  pub known : IsCodedAs a 0 None (v.at None)
  known = v.each 0 None refl

  pub local-is : local ≡ local_of (diagram a) a.model.times.delays None known.local.headers
  local-is = known.local.is_local

  pub row : h.row ≡ None
  row = ap (λ l. l.row) local-is

  pub header-is : HeaderIsOfOwnRows → h ≡ header_of (diagram a) None (v.at None).profile
  header-is own = ap (λ l. own_header l (v.at None).profile) local-is ∙ own (diagram a) a.model.times.delays None known.local.headers
      (v.at None).profile

  -- ---- Ports

  abbrev pub os : List LocalRow
  os = outports a.root

  abbrev pub ins : List LocalRow
  ins = inports a.root

  pub out-ports : map (λ (o : LocalRow). port_of o.kind) os ≡ range_with_len 1 (length os)
  out-ports = ports-are (diagram a) a.model.times.delays None is_outport
      (a.can.resolved.tree.table.outports None) a.root a.can.root_view.headers a.can.is_root

  pub in-ports : map (λ (o : LocalRow). port_of o.kind) ins ≡ range_with_len 1 (length ins)
  in-ports = ports-are (diagram a) a.model.times.delays None is_inport
      (a.can.resolved.tree.table.inports None) a.root a.can.root_view.headers a.can.is_root

  pub few-outs : length os ≤ 32
  few-outs = few-rows (diagram a) a.model.times.delays None is_outport
      (a.can.resolved.tree.table.outports None) a.root a.can.root_view.headers a.can.is_root

  pub few-ins : length ins ≤ 32
  few-ins = few-rows (diagram a) a.model.times.delays None is_inport
      (a.can.resolved.tree.table.inports None) a.root a.can.root_view.headers a.can.is_root

  pub outs-same : outports local ≡ os
  outs-same =
      rows-are (diagram a) a.model.times.delays None is_outport (a.can.resolved.tree.table.outports None) local known.local.headers local-is
      ∙ sym (rows-are (diagram a) a.model.times.delays None is_outport
      (a.can.resolved.tree.table.outports None) a.root a.can.root_view.headers a.can.is_root)

  pub out-rows : map (λ (o : LocalRow). o.row) os ≡ outports_of (diagram a).rows None
  out-rows = numbers-are (diagram a) a.model.times.delays None is_outport
      (a.can.resolved.tree.table.outports None) a.root a.can.root_view.headers a.can.is_root

  pub outs-many : length os ≡ outputs a v
  outs-many = as-many (diagram a) a.model.times.delays None is_outport
      (a.can.resolved.tree.table.outports None) a.root a.can.root_view.headers a.can.is_root

  pub ins-many : length ins ≡ length (inports_of (diagram a).rows None)
  ins-many = as-many (diagram a) a.model.times.delays None is_inport
      (a.can.resolved.tree.table.inports None) a.root a.can.root_view.headers a.can.is_root

  pub functions-most : length (header_functions h) ≤ length os
  functions-most =
      let few = functions-few (diagram a) None (v.at None).profile known.profile in
      let same = outs-many in
      omega (arith, few, same)

  pub functions-short : length (header_functions h) < 2 ^ 63
  functions-short = let few = functions-most in let outs = few-outs in omega (arith, few, outs)

  -- ---- Outputs

  pub places-many : length (v.at None).code.outputs ≡ length os
  places-many = zip-long _ (outports local) (v.at None).code.outputs known.shape.places ∙ ap length outs-same

  -- what is copied is the output's value
  pub output-slot : (j q : ℕ) → slice_get (v.at None).code.outputs j ≡ Some q →
      (o : LocalRow) × (slice_get os j ≡ Some o) × (slice_get (v.at None).slots q ≡ Some (value o))
  output-slot j q at =
      let found = zip-right _ (outports local) (v.at None).code.outputs j q known.shape.places at in
      (found.0, ap (λ rows. slice_get rows j) (sym outs-same) ∙ found.1, found.2)

  -- and it is where the output is offered
  pub output-place : FieldsAreFound → (j q : ℕ) → slice_get (v.at None).code.outputs j ≡ Some q →
      (o : LocalRow) × (slice_get os j ≡ Some o) × (slice_index (offer_of a v None).places j ≡ q)
  output-place fields j q at =
      let found = output-slot j q at in
      let o = found.0 in
      let place : place_in (program_of a) None (value_name o.row) ≡ q = fields a v None q (value o) (in-first None _) found.2 in
      let listed : slice_get (offer_of a v None).places j ≡ Some (place_in (program_of a) h.row (value_name o.row)) =
      at-map (λ (e : ℕ × FixType). place_in (program_of a) h.row (value_name e.0)) h.outputs j (o.row, o.out)
      (at-map (λ (z : LocalRow). (z.row, z.out)) (outports local) j o (ap (λ rows. slice_get rows j) outs-same ∙ found.1)) in (
        o,
        found.1,
        get_or_from_slice_get (offer_of a v None).places j (place_in (program_of a) h.row (value_name o.row)) 0 listed
            ∙ ap (λ s. place_in (program_of a) s (value_name o.row)) row ∙ place,
      )
