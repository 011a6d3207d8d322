-- The inputs that reach an output by nodes are its true needs.
use Rattle.std.specs.Prelude.{◌≡◌, ℕ, ◌≤◌, ◌↔◌, List, [], ◌∷◌, map, length, Contains, Option, refl}
use Rattle.std.specs.List.{AllZip}
use Rattle.std.proofs.Common.{arith, sym, ap, subst, ◌∙◌}
use Rattle.std.proofs.lemmas.Slice.Zip.{AllZip-long}
use Rattle.base_core.specs.declared.Port.{Port}
use Rattle.base_core.specs.declared.Port.TheVariants.{Number, Enable, Trigger}
use Rattle.diagram_meaning.specs.Rows.{rows_of, outports_of}
use Rattle.diagram_blocks.specs.Kinds.{is_outport}
use Rattle.diagram_meaning.specs.Diagram.{Diagram}
use Rattle.diagram_meaning.specs.Needs.{TrueNeeds, IsMaskOf, AreTrueNeeds, Reaches, needs_inside}
use Rattle.diagram_meaning.specs.ResolvedTree.{ResolvedTree, IsResolvedTree, diagram_of}
use Rattle.modules_profile.specs.declared.local.LocalRow.{LocalRow}
use Rattle.modules_profile.specs.LocalSystem.{LocalSystem}
use Rattle.modules_profile.specs.SystemHeader.{SystemHeader}
use Rattle.modules_profile.specs.SystemProfile.{SystemProfile}
use Rattle.modules_profile.specs.Functions.{IsProfileOf}
use Rattle.modules_profile.specs.Headers.{header_of}
use Rattle.modules_profile.specs.Locals.{local_row, local_of}
use Rattle.modules_profile.specs.NodeFacts.{AreHeaders, AreProfiles, headers_with, IsLocalOf}
use Rattle.modules_profile.specs.NodeInputs.{InputReaches, inputs_of, AreNodeInputs}
use Rattle.modules_profile.proofs.lemmas.Members.{in-first, in-rest, in-map, of-map}
use Rattle.modules_profile.proofs.lemmas.PortRows.{in-rows, of-rows, few-ports}
use Rattle.modules_profile.proofs.OwnHeaders.{by_port_mapped}
use Rattle.modules_profile.proofs.NodeWalks.{nodes_reach_as_rows}

mask-same : (P Q : Port → Type 0) (m : ℕ) → ((p : Port) → P p ↔ Q p) → IsMaskOf P m → IsMaskOf Q m
mask-same P Q m same mask = record {
  bounded = mask.bounded;
  number =
      λ k above most. (
        λ set. (same (Number k)).0 ((mask.number k above most).0 set),
        λ q. (mask.number k above most).1 ((same (Number k)).1 q),
      );
  enable = (λ set. (same Enable).0 (mask.enable.0 set), λ q. mask.enable.1 ((same Enable).1 q));
  trigger = (λ set. (same Trigger).0 (mask.trigger.0 set), λ q. mask.trigger.1 ((same Trigger).1 q));
}

zip-mapped : (f : ℕ → LocalRow) (R : LocalRow → ℕ → Type 0) (Q : ℕ → ℕ → Type 0) (os ms : List ℕ) →
    ((o m : ℕ) → Contains os o → R (f o) m → Q o m) → AllZip R (map f os) ms → AllZip Q os ms
zip-mapped f R Q [] [] each h = tt
zip-mapped f R Q [] (m ∷ ms) each h = h
zip-mapped f R Q (o ∷ os) [] each h = h
zip-mapped f R Q (o ∷ os) (m ∷ ms) each h =
    (each o m (in-first o os) h.0, zip-mapped f R Q os ms (λ p n k. each p n (in-rest o p os k)) h.1)

module _ (r : ResolvedTree) (s : Option ℕ) (resolved : IsResolvedTree r) where
  abbrev d : Diagram
  d = diagram_of r

  module _ (headers : List SystemHeader) (are : AreHeaders (diagram_of r) s headers) where
    abbrev own : LocalSystem
    own = local_of (diagram_of r) r.times.delays s headers

    is-local : IsLocalOf r s own
    is-local = record { headers = headers; are_headers = are; is_local = refl }

    reaching-to : (o k : ℕ) → Contains (outports_of d.rows s) o → InputReaches own (local_row d r.times.delays o) k →
        TrueNeeds d s o (Number k)
    reaching-to o k out t =
        let m = of-map (local_row d r.times.delays) (rows_of d.rows s) t.inport t.is_own in
        let place = of-rows d.rows s m.0 m.1 in
        let number : t.inport.row ≡ m.0 = sym (ap (λ (q : LocalRow). q.row) m.2) in
        let listed : Contains (map (λ (q : LocalRow). q.row) own.rows) t.inport.row =
        in-map (λ (q : LocalRow). q.row) own.rows t.inport t.is_own in (
          m.0,
          record { in_table = place.0; is_inport = ap (λ (q : LocalRow). q.kind) m.2 ∙ t.is_inport; is_own = place.1 },
          subst (λ i. Reaches (needs_inside d s) o i) number
              ((nodes_reach_as_rows r s own o t.inport.row resolved is-local out listed).1 t.reaches),
        )

    reaching-from : (o k : ℕ) → Contains (outports_of d.rows s) o → TrueNeeds d s o (Number k) →
        InputReaches own (local_row d r.times.delays o) k
    reaching-from o k out (i, input, reach) =
        let row : LocalRow = local_row d r.times.delays i in
        let listed : Contains own.rows row =
        in-map (local_row d r.times.delays) (rows_of d.rows s) i (in-rows d.rows s i input.in_table input.is_own) in
        record {
          inport = row;
          is_own = listed;
          is_inport = input.is_inport;
          reaches = (nodes_reach_as_rows r s own o i resolved is-local out (in-map (λ (q : LocalRow). q.row) own.rows row listed)).0 reach;
        }

    needed : (o : ℕ) → Contains (outports_of d.rows s) o → (p : Port) →
        inputs_of (InputReaches own (local_row d r.times.delays o)) own.control p ↔ TrueNeeds d s o p
    needed o out (Number k) = (reaching-to o k out, reaching-from o k out)
    needed o out Enable = (λ t. t, λ t. t)
    needed o out Trigger = (λ t. t, λ t. t)

    pub true-needs : (masks : List ℕ) → AreNodeInputs own masks → AreTrueNeeds d s masks
    true-needs masks h =
        zip-mapped (local_row d r.times.delays) (λ o mask. IsMaskOf (inputs_of (InputReaches own o) own.control) mask)
        (λ o mask. IsMaskOf (TrueNeeds d s o) mask) (outports_of d.rows s) masks
        (λ o m out mask. mask-same (inputs_of (InputReaches own (local_row d r.times.delays o)) own.control)
        (TrueNeeds d s o) m (needed o out) mask)
        (subst (λ (os : List LocalRow). AllZip (λ o mask. IsMaskOf (inputs_of (InputReaches own o) own.control) mask) os
        masks) (by_port_mapped d r.times.delays s headers is_outport) h)

  -- the same of any system of the model
  pub needs-of-nodes : (local : LocalSystem) (masks : List ℕ) → IsLocalOf r s local → AreNodeInputs local masks → AreTrueNeeds d s masks
  needs-of-nodes local masks is h =
      true-needs is.headers is.are_headers masks (subst (λ (l : LocalSystem). AreNodeInputs l masks) is.is_local h)

  pub few-needs : (masks : List ℕ) → AreTrueNeeds d s masks → length masks ≤ 32
  few-needs masks h =
      let long = AllZip-long (λ o mask. IsMaskOf (TrueNeeds d s o) mask) (outports_of d.rows s) masks h in
      let few = few-ports d.rows s is_outport (resolved.tree.table.outports s) in
      omega (arith, long, few)

-- the headers of children with these profiles are theirs
pub profiles-are-headers : (d : Diagram) (s : Option ℕ) (profiles : List SystemProfile) → AreProfiles d s profiles →
    AreHeaders d s (headers_with d profiles)
profiles-are-headers d s profiles are = record {
  rows = rows profiles ∙ are.rows;
  each = λ h m. let n = of-map (λ (p : SystemProfile). header_of d p.row p) profiles h m in
      subst (λ (g : SystemHeader). (g ≡ header_of d g.row g.profile) × IsProfileOf d g.row g.profile) n.2
      (refl, are.each n.0 n.1);
}
  where
    rows : (ps : List SystemProfile) → map (λ (h : SystemHeader). h.row) (headers_with d ps) ≡ map (λ (p : SystemProfile). p.row) ps
    rows [] = refl
    rows (p ∷ ps) = ap (λ es. p.row ∷ es) (rows ps)
