-- The interface that a program shows is that of one which refines it: the same parameters at their places, and the same stores.
use Rattle.std.specs.Prelude.{◌≡◌, ℕ, ◌+◌, Bool, true, false, cond, List, [], ◌∷◌, map, filter, Contains, Option, bytes_eq, refl}
use Rattle.std.specs.List.{list_any, enumerate_from}
use Rattle.std.proofs.Common.{sym, ap, ◌∙◌}
use Rattle.std.proofs.lemmas.Option.{get_or_from_slice_get}
use Rattle.std.proofs.lemmas.Simd.{map-map}
use Rattle.base_core.specs.Ports.{ports_mask}
use Rattle.diagram_meaning.specs.Diagram.{Diagram}
use Rattle.diagram_meaning.specs.Inputs.{input_ports}
use Rattle.diagram_meaning.specs.Rows.{outports_of, system_control}
use Rattle.modules_profile.proofs.lemmas.Members.{in-first, in-rest}
use Rattle.c_syntax.specs.Tree.{ParamTree, ProcedureTree, ProgramTree}
use Rattle.emit_shape.specs.Faces.{out_places, stores, takes, givers, HasLeastInterface}
use Rattle.emit_shape.specs.Heads.{Head}
use Rattle.emit_shape.specs.Names.{port_name, value_name}
use Rattle.emit_shape.specs.Programs.{no_procedure}
use Rattle.right_refined.specs.Refined.{with_procedures, OffersSame}
use Rattle.right_refined.proofs.Lists.{map-same}
use Rattle.right_refined.proofs.KeptPlaces.{OfferedAt, KeepsSystem}

-- ---- Lists

-- the numbers of those that pass, where each passes as its image does
passed-same : (place : ℕ → ℕ) (f g : ℕ → Bool) (n : ℕ) (xs : List ℕ) → ((x : ℕ) → Contains xs x → g (place x) ≡ f x) →
    map (λ (e : ℕ × ℕ). e.0) (filter (λ (e : ℕ × ℕ). g e.1) (enumerate_from n (map place xs)))
    ≡ map (λ (e : ℕ × ℕ). e.0) (filter (λ (e : ℕ × ℕ). f e.1) (enumerate_from n xs))
passed-same place f g n [] each = refl
passed-same place f g n (x ∷ xs) each =
    ap (λ b. map (λ (e : ℕ × ℕ). e.0) (cond b ((n, place x) ∷ filter (λ (e : ℕ × ℕ). g e.1) (enumerate_from (n + 1) (map place xs)))
    (filter (λ (e : ℕ × ℕ). g e.1) (enumerate_from (n + 1) (map place xs))))) (each x (in-first x xs))
    ∙ by (f x) (passed-same place f g (n + 1) xs (λ y has. each y (in-rest x y xs has)))
  where
    by : (b : Bool) →
        map (λ (e : ℕ × ℕ). e.0) (filter (λ (e : ℕ × ℕ). g e.1) (enumerate_from (n + 1) (map place xs)))
        ≡ map (λ (e : ℕ × ℕ). e.0) (filter (λ (e : ℕ × ℕ). f e.1) (enumerate_from (n + 1) xs)) →
        map (λ (e : ℕ × ℕ). e.0) (cond b ((n, place x) ∷ filter (λ (e : ℕ × ℕ). g e.1) (enumerate_from (n + 1) (map place xs)))
        (filter (λ (e : ℕ × ℕ). g e.1) (enumerate_from (n + 1) (map place xs))))
        ≡ map (λ (e : ℕ × ℕ). e.0) (cond b ((n, x) ∷ filter (λ (e : ℕ × ℕ). f e.1) (enumerate_from (n + 1) xs))
        (filter (λ (e : ℕ × ℕ). f e.1) (enumerate_from (n + 1) xs)))
    by true rest = ap (λ ns. n ∷ ns) rest
    by false rest = rest

module _ (p : ProgramTree) (procedures : List ProcedureTree) (keeps : ℕ → Bool) (place : ℕ → ℕ)
    (offers : OffersSame keeps place p (with_procedures p procedures)) where
  abbrev q : ProgramTree
  q = with_procedures p procedures

  -- ---- One procedure

  same-takes : (d : Diagram) (s : Option ℕ) (k : ℕ) → OfferedAt p k → takes q d s (place k) ≡ takes p d s k
  same-takes d s k at =
      let found = offers.found k at.procedure at.there (offers.kept k at.procedure at.there at.offered) in
      let there = get_or_from_slice_get procedures (place k) found.moved no_procedure found.there in
      let here = get_or_from_slice_get p.procedures k at.procedure no_procedure at.there in
      ap (λ (params : List ParamTree). ports_mask
      (filter (λ j. list_any (λ (x : ParamTree). bytes_eq x.name (port_name (system_control d.rows s) j)) params)
      (input_ports d.rows s)))
      (ap (λ (h : ProcedureTree). h.params) there ∙ ap (λ (z : Head). z.params) found.alike.heads
      ∙ ap (λ (h : ProcedureTree). h.params) (sym here))

  -- ---- A system

  module _ (d : Diagram) (s : Option ℕ) (system : KeepsSystem place keeps p q d s) where
    all-taken : map (takes q d s) (out_places q s) ≡ map (takes p d s) (out_places p s)
    all-taken =
        ap (map (takes q d s)) system.outs ∙ map-map (takes q d s) place (out_places p s)
        ∙ map-same (takes p d s) (λ k. takes q d s (place k)) (out_places p s)
        (λ k among. same-takes d s k (system.offered k among))

    same-givers : (o : ℕ) → givers q s o ≡ givers p s o
    same-givers o =
        (λ i. map (λ (e : ℕ × ℕ). e.0) (filter (λ (e : ℕ × ℕ). stores q (value_name o) e.1) (enumerate_from 0 (system.outs i))))
        ∙ passed-same place (stores p (value_name o)) (stores q (value_name o)) 0 (out_places p s)
        (λ k among. let at = system.offered k among in offers.stored k at.procedure at.there at.offered (value_name o))

    all-given : (os : List ℕ) → map (givers q s) os ≡ map (givers p s) os
    all-given [] = refl
    all-given (o ∷ os) = λ i. same-givers o i ∷ all-given os i

    pub least-refined : HasLeastInterface p d s → HasLeastInterface q d s
    least-refined h = record {
      needs = h.needs;
      are_needs = h.are_needs;
      face = h.face;
      is_face = record {
        functions = h.is_face.functions ∙ sym all-taken;
        outputs = h.is_face.outputs ∙ sym (all-given (outports_of d.rows s));
        no_order = h.is_face.no_order;
      };
      is_interface = h.is_interface;
      exact = h.exact;
      least = h.least;
    }
