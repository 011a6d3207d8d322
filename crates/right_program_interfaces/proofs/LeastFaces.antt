-- The interface of each system that a program shows is exact and least.
use Rattle.std.specs.Prelude.{◌≡◌, ℕ, suc, ◌+◌, ◌<◌, ◌==◌, List, [], ◌∷◌, map, filter, length, slice_get, slice_index, Contains, IsBitSet, Option, Some, refl}
use Rattle.std.specs.List.{AllByRecursion, enumerate_from, range_with_len}
use Rattle.std.proofs.Common.{sym, ap, ap₂, subst, ◌∙◌, arith, inl, inr}
use Rattle.std.proofs.lemmas.List.Elements.{All-nil, All-from_recursion}
use Rattle.std.proofs.lemmas.List.FromFn.{length-range_with_len}
use Rattle.std.proofs.lemmas.Option.{get_or_from_slice_get}
use Rattle.base_core.specs.Interface.{Interface, LeadsTo, ShownToNeed, different}
use Rattle.diagram_meaning.specs.Needs.{TrueNeeds, IsMaskOf}
use Rattle.diagram_meaning.specs.Rows.{outports_of}
use Rattle.modules_profile.specs.Functions.{function_for}
use Rattle.modules_profile.specs.NodeFacts.{LocalsAreLawful, HeaderIsOfOwnRows, ProfilesAreLeast}
use Rattle.modules_profile.specs.declared.Function.{Function}
use Rattle.diagram_meaning.specs.Inputs.{input_ports}
use Rattle.base_core.specs.Ports.{ports_in, ports_mask}
use Rattle.modules_profile.proofs.lemmas.Members.{in-none, in-at, at-in, at-map, map-at, at-below, below-at, range-at, of-map}
use Rattle.emit_shape.specs.Faces.{out_places, takes, stores, givers, HasLeastInterface}
use Rattle.emit_shape.specs.Names.{out_name, value_name}
use Rattle.emit_shape.specs.Programs.{procedure_place}
use Rattle.right_linking.specs.Parts.{Parts, program_of, diagram, all_systems, IsCodedAs, CodesHaveViews, Views}
use Rattle.right_linking.specs.Places.{SystemsHavePlaces}
use Rattle.right_linking.proofs.lemmas.AssembledPlaces.{all-made, mapped-length}
use Rattle.right_program_interfaces.specs.Faces.{AssembledAreLeast}
use Rattle.right_program_interfaces.proofs.DifferentNeeds.{once, of-different, place_of, place-stands, place-below, few-places, one-given, by-numbers}
use Rattle.right_program_interfaces.proofs.FunctionPlaces.{count, places-are}
use Rattle.right_program_interfaces.proofs.GivenOutputs.{function-is, stores-needed}
use Rattle.right_program_interfaces.proofs.Lists.{map-map, zip-long}
use Rattle.right_program_interfaces.proofs.NeedMasks.{own-needs}
use Rattle.right_program_interfaces.proofs.TakenInputs.{takes-own}

none-leads : (path : List ℕ) (f g : ℕ) → LeadsTo [] f path g → ⊥
none-leads [] f g leads = in-none (f, g) leads
none-leads (n ∷ path) f g leads = in-none (f, n) leads.0

module _ (locals : LocalsAreLawful) (places : SystemsHavePlaces) (headers : HeaderIsOfOwnRows) (least : ProfilesAreLeast) (a : Parts)
    (v : Views a) (place : ℕ) (s : Option ℕ)
    (stands : slice_get (all_systems a) place ≡ Some s) where
  abbrev known : IsCodedAs a place s (v.at s)
  known = v.each place s stands

  abbrev os : List ℕ
  os = outports_of (diagram a).rows s

  abbrev needs : List ℕ
  needs = (v.each place s stands).profile.needs

  abbrev sets : List ℕ
  sets = different needs

  abbrev many : ℕ
  many = count places a v place s stands

  abbrev out_place : ℕ → ℕ
  out_place k = procedure_place (program_of a) (out_name s k)

  many-is : many ≡ length sets
  many-is = ap (λ (fs : List Function). length fs) known.profile.functions ∙ mapped-length (function_for needs) sets

  -- ---- What functions take

  takes-are : map (takes (program_of a) (diagram a) s) (out_places (program_of a) s) ≡ sets
  takes-are =
      ap (map (takes (program_of a) (diagram a) s)) (places-are places a v place s stands)
      ∙ map-map (takes (program_of a) (diagram a) s) out_place (range_with_len 1 many)
      ∙ ap (λ n. map (λ k. takes (program_of a) (diagram a) s (out_place k)) (range_with_len 1 n)) many-is
      ∙ by-numbers (λ k. takes (program_of a) (diagram a) s (out_place k)) sets 1 each
    where
      each : (i d : ℕ) → slice_get sets i ≡ Some d → takes (program_of a) (diagram a) s (out_place (1 + i)) ≡ d
      each i d at =
          let next : 1 + i ≡ suc i = omega arith in
          let below = at-below sets i d at in
          let is = ap (λ (f : Function). f.inputs) (function-is locals places headers a v place s stands i d at) in
          let own = own-needs (diagram a) s (a.can.resolved.tree.table.inports s) os needs known.profile.are_needs d
          (of-different needs d (in-at sets i d at)) in
          ap (λ k. takes (program_of a) (diagram a) s (out_place k)) next
          ∙ takes-own places headers a v place s stands (suc i) (omega arith) (omega (arith, below, many-is))
          (subst (λ m. ports_mask (ports_in m (input_ports (diagram a).rows s)) ≡ m) (sym is) own)
          ∙ is

  -- ---- What gives an output

  giver : (i o m : ℕ) → slice_get os i ≡ Some o → slice_get needs i ≡ Some m → place_of needs m ∷ [] ≡ givers (program_of a) s o
  giver i o m output need =
      let none_more : 0 + place_of needs m ≡ place_of needs m = omega arith in
      let long : length (map out_place (range_with_len 1 many)) ≡ length sets = mapped-length out_place (range_with_len 1 many)
      ∙ length-range_with_len 1 many ∙ many-is in
      sym (ap (λ ps. map (λ (e : ℕ × ℕ). e.0) (filter (λ (e : ℕ × ℕ). stores (program_of a) (value_name o) e.1) (enumerate_from 0 ps)))
      (places-are places a v place s stands)
      ∙ one-given sets (map out_place (range_with_len 1 many)) (stores (program_of a) (value_name o)) m (place_of needs m) 0 (once needs)
      (place-stands needs m (in-at needs i m need)) long tells
      ∙ ap (λ k. k ∷ []) none_more)
    where
      tells : (k d q : ℕ) → slice_get sets k ≡ Some d → slice_get (map out_place (range_with_len 1 many)) k ≡ Some q →
          stores (program_of a) (value_name o) q ≡ (m == d)
      tells k d q at there =
          let (j, number, is) = map-at out_place (range_with_len 1 many) k q there in
          let (below, which) = range-at 1 many k j number in
          let next : j ≡ suc k = omega (arith, which) in
          ap (stores (program_of a) (value_name o)) (sym is ∙ ap out_place next)
          ∙ stores-needed locals places headers a v place s stands k d i o m below at output need

  all-given : (n : ℕ) (cs ms : List ℕ) → length cs ≡ length ms → ((i o : ℕ) → slice_get cs i ≡ Some o → slice_get os (n + i) ≡ Some o) →
      ((i m : ℕ) → slice_get ms i ≡ Some m → slice_get needs (n + i) ≡ Some m) →
      map (λ j. j ∷ []) (map (place_of needs) ms) ≡ map (givers (program_of a) s) cs
  all-given n [] [] long outs in_needs = refl
  all-given n [] (m ∷ ms) long outs in_needs = absurd (omega (arith, long))
  all-given n (c ∷ cs) [] long outs in_needs = absurd (omega (arith, long))
  all-given n (c ∷ cs) (m ∷ ms) long outs in_needs =
      ap₂ (λ x xs. x ∷ xs) (giver (n + 0) c m (outs 0 c refl) (in_needs 0 m refl))
      (all-given (n + 1) cs ms (omega (arith, long))
      (λ i o at. (let next : n + 1 + i ≡ n + suc i = omega arith in ap (slice_get os) next) ∙ outs (suc i) o at)
      (λ i o at. (let next : n + 1 + i ≡ n + suc i = omega arith in ap (slice_get needs) next) ∙ in_needs (suc i) o at))

  -- ---- The interface

  abbrev face : Interface
  face = record {
    takes = map (takes (program_of a) (diagram a) s) (out_places (program_of a) s);
    gives = map
        (place_of needs) needs;
    before = [];
  }

  takes-long : length face.takes ≡ length sets
  takes-long = ap (λ (ms : List ℕ). length ms) takes-are

  all-below : (ms : List ℕ) → ((m : ℕ) → Contains ms m → Contains needs m) → AllByRecursion (λ f. f < length face.takes)
      (map (place_of needs) ms)
  all-below ms within = all-made (λ f. f < length face.takes) (map (place_of needs) ms)
      (λ f has.
      let from = of-map (place_of needs) ms f has in
      let below = place-below needs from.0 (within from.0 from.1) in
      let is = from.2 in
      omega (arith, below, takes-long, is))

  taken-is : (o : ℕ) → o < length needs → slice_index face.takes (slice_index face.gives o) ≡ slice_index needs o
  taken-is o below =
      let (m, at) = below-at needs o below in
      let gives : slice_index face.gives o ≡ place_of needs m = get_or_from_slice_get face.gives o (place_of needs m) 0
      (at-map (place_of needs) needs o m at) in
      ap (slice_index face.takes) gives ∙ ap (λ ms. slice_index ms (place_of needs m)) takes-are
      ∙ get_or_from_slice_get sets (place_of needs m) m 0 (place-stands needs m (in-at needs o m at))
      ∙ sym (get_or_from_slice_get needs o m 0 at)

  shown : (g k : ℕ) → ShownToNeed face g k → IsBitSet (slice_index face.takes g) k
  shown g k (inl set) = set
  shown g k (inr (f, must, set)) = absurd (none-leads must.0 f g must.1)

  pub least-interface : HasLeastInterface (program_of a) (diagram a) s
  least-interface = record {
    needs = needs;
    are_needs = known.profile.are_needs;
    face = face;
    is_face = record {
      functions = refl;
      outputs = all-given 0 os needs (zip-long (λ o mask. IsMaskOf (TrueNeeds (diagram a) s o) mask) os needs known.profile.are_needs)
          (λ i o at. (let same : 0 + i ≡ i = omega arith in ap (slice_get os) same) ∙ at)
          (λ i m at. (let same : 0 + i ≡ i = omega arith in ap (slice_get needs) same) ∙ at);
      no_order = refl;
    };
    is_interface = record {
      gives = All-from_recursion (λ f. f < length face.takes) face.gives (all-below needs (λ m has. has));
      before = All-nil (λ (pair : ℕ × ℕ). (pair.0 < length face.takes) × (pair.1 < length face.takes));
    };
    exact = record {
      outputs = mapped-length (place_of needs) needs;
      exact = λ o k below. (
        λ needed. subst (λ m. IsBitSet m k) (taken-is o below) (shown (slice_index face.gives o) k needed),
        λ set. inl (subst (λ m. IsBitSet m k) (sym (taken-is o below)) set),
      );
    };
    least = λ other lawful exact.
        let fewest = least (diagram a) s (v.at s).profile needs other known.profile known.profile.are_needs lawful exact in
        let few = few-places needs in
        omega (arith, fewest, few, many-is);
  }

pub assembled_are_least : CodesHaveViews → LocalsAreLawful → SystemsHavePlaces → HeaderIsOfOwnRows → ProfilesAreLeast → AssembledAreLeast
assembled_are_least views locals places headers least a =
    all-made (HasLeastInterface (program_of a) (diagram a)) (all_systems a)
    (λ s has. let stands = at-in (all_systems a) s has in least-interface locals places headers least a (views a) stands.0 s stands.1)
