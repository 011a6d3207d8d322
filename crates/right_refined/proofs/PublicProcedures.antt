-- A program of the right shape has the public procedures of each system by their names.
use Rattle.std.specs.Prelude.{◌≡◌, ℕ, ◌+◌, ◌^◌, ◌<◌, ◌≤◌, Bool, false, not, ◌==◌, List, [], ◌∷◌, map, filter, length, slice_get, Contains, Option, Some, unwrap_or, refl}
use Rattle.std.specs.List.{range_with_len}
use Rattle.std.proofs.Common.{ap, ◌∙◌, arith}
use Rattle.std.proofs.lemmas.List.Elements.{Contains-append_left, Contains-append_right}
use Rattle.std.proofs.lemmas.List.Sorted.{Contains-permutation}
use Rattle.diagram_meaning.specs.Diagram.{Diagram}
use Rattle.diagram_meaning.specs.Needs.{AreTrueNeeds}
use Rattle.modules_profile.specs.SystemProfile.{SystemProfile}
use Rattle.modules_profile.specs.SystemHeader.{SystemHeader}
use Rattle.modules_profile.specs.Functions.{functions_for}
use Rattle.modules_profile.specs.Locals.{own_header}
use Rattle.modules_profile.specs.NodeFacts.{ProfilesAreOne}
use Rattle.modules_profile.specs.Systems.{systems}
use Rattle.modules_profile.proofs.lemmas.Members.{in-first, in-rest, in-map, of-map, of-filter, in-range, at-in}
use Rattle.c_syntax.specs.Tree.{ProcedureTree, ProgramTree}
use Rattle.c_syntax.specs.Lawful.{IsLawful, AreDistinct, pure_names, procedure_names}
use Rattle.c_syntax.specs.RootFields.{root_struct}
use Rattle.c_syntax.proofs.lemmas.NameFacts.{AreDistinct-back}
use Rattle.emit_shape.specs.Names.{root_start_name, root_step_name, out_name, update_name, start_name, reset_name}
use Rattle.emit_shape.specs.Heads.{Head, head_of, public_heads, out_head, out_heads, update_head, start_head, reset_head}
use Rattle.emit_shape.specs.Programs.{procedures_of, procedure_place, struct_place}
use Rattle.emit_shape.specs.ProgramShape.{viewed, HasSystemShape, HasShape}
use Rattle.right_refined.proofs.FewFunctions.{few-functions}
use Rattle.right_refined.proofs.Lists.{member, name-place}

-- a procedure of a program with this name
pub record StandsNamed (p : ProgramTree) (name : List ℕ) : Type 0 where
  pub number : ℕ
  pub procedure : ProcedureTree
  pub there : slice_get p.procedures number ≡ Some procedure
  pub named : procedure.name ≡ name
  pub public : procedure.private ≡ false

-- a lawful program of the right shape for a diagram
pub record IsShaped (p : ProgramTree) (d : Diagram) : Type 0 where
  pub profiles : ProfilesAreOne
  pub delays : List Bool
  pub hyper : ℕ
  pub lawful : IsLawful p
  pub shape : HasShape p d delays hyper

module _ (p : ProgramTree) (d : Diagram) (shaped : IsShaped p d) where
  distinct : AreDistinct (procedure_names p.procedures)
  distinct = AreDistinct-back (pure_names p.pures) (procedure_names p.procedures) shaped.lawful.functions

  pub place-is : (name : List ℕ) (w : StandsNamed p name) → procedure_place p name ≡ w.number
  place-is name w =
      ap (λ k. unwrap_or k 0) (name-place (λ (h : ProcedureTree). h.name) p.procedures w.number w.procedure name distinct w.there w.named)

  -- ---- The root

  of-root : (h : ProcedureTree) → Contains (shaped.shape.root.start ∷ shaped.shape.root.step ∷ []) h → Contains p.procedures h
  of-root h has =
      (of-filter (λ (x : ProcedureTree). x.of == root_struct p) p.procedures h
      (Contains-permutation (shaped.shape.root.start ∷ shaped.shape.root.step ∷ []) (procedures_of p (root_struct p)) h
      shaped.shape.root.only has)).0

  stands : (h : ProcedureTree) (head : Head) → Contains p.procedures h → head_of h ≡ head → head.private ≡ false → StandsNamed p head.name
  stands h head has is public = let at = at-in p.procedures h has in record {
    number = at.0;
    procedure = h;
    there = at.1;
    named = ap (λ (z : Head). z.name) is;
    public = ap (λ (z : Head). z.private) is ∙ public;
  }

  pub start-stands : StandsNamed p root_start_name
  start-stands =
      stands shaped.shape.root.start _
      (of-root shaped.shape.root.start (in-first shaped.shape.root.start (shaped.shape.root.step ∷ []))) shaped.shape.root.start_head refl

  pub step-stands : StandsNamed p root_step_name
  step-stands =
      stands shaped.shape.root.step _
      (of-root shaped.shape.root.step
      (in-rest shaped.shape.root.start shaped.shape.root.step (shaped.shape.root.step ∷ []) (in-first shaped.shape.root.step [])))
      shaped.shape.root.step_head refl

  -- ---- A system

  module _ (s : Option ℕ) (has : Contains (systems d.rows) s) where
    pub system : HasSystemShape p d shaped.delays s
    system = member (HasSystemShape p d shaped.delays) (systems d.rows) s shaped.shape.each has

    abbrev pub header : SystemHeader
    header = own_header (viewed system.view) system.view.profile

    -- how many functions it has
    abbrev pub count : ℕ
    count = length system.view.profile.functions

    pub count-is : (needs : List ℕ) → AreTrueNeeds d s needs → count ≡ length (functions_for needs)
    count-is needs are =
        ap (λ (w : SystemProfile). length w.functions)
        (shaped.profiles d s system.view.profile (record { row = s; functions = functions_for needs }) system.view.is_profile
        (record { needs = needs; are_needs = are; row = refl; functions = refl }))

    abbrev pub needs : List ℕ
    needs = system.view.is_profile.needs

    pub are-needs : AreTrueNeeds d s needs
    are-needs = system.view.is_profile.are_needs

    pub few : count ≤ 2 ^ 34
    few = let most = few-functions d s needs are-needs in let same = count-is needs are-needs in omega (arith, most, same)

    abbrev pub own : List ProcedureTree
    own = procedures_of p (struct_place p s)

    abbrev pub shown : List Head
    shown = filter (λ (z : Head). not z.private) (map head_of own)

    -- the heads that aren't those of functions
    abbrev pub rest : List Head
    rest = update_head header ∷ start_head header ∷ reset_head header ∷ []

    head-stands : (head : Head) → Contains (public_heads header) head → head.private ≡ false → StandsNamed p head.name
    head-stands head among public =
        let made = of-map head_of own head
        (of-filter (λ (z : Head). not z.private) (map head_of own) head
        (Contains-permutation (public_heads header) shown head system.heads among)).0 in
        stands made.0 head (of-filter (λ (x : ProcedureTree). x.of == struct_place p s) p.procedures made.0 made.1).0 made.2 public

    among-rest : (head : Head) → Contains rest head → Contains (public_heads header) head
    among-rest head has = Contains-append_right (out_heads header) rest head has

    pub out-stands : (j : ℕ) → 1 ≤ j → j < 1 + count → StandsNamed p (out_name s j)
    out-stands j low high =
        head-stands (out_head header j)
        (Contains-append_left (out_heads header) rest (out_head header j)
        (in-map (out_head header) (range_with_len 1 count) j (in-range 1 count j low high))) refl

    pub update-stands : StandsNamed p (update_name s)
    update-stands =
        head-stands (update_head header)
        (among-rest (update_head header) (in-first (update_head header) (start_head header ∷ reset_head header ∷ []))) refl

    pub start_procedure-stands : StandsNamed p (start_name s)
    start_procedure-stands =
        head-stands (start_head header)
        (among-rest (start_head header)
        (in-rest (update_head header) (start_head header) (start_head header ∷ reset_head header ∷ [])
        (in-first (start_head header) (reset_head header ∷ [])))) refl

    pub reset-stands : StandsNamed p (reset_name s)
    reset-stands =
        head-stands (reset_head header)
        (among-rest (reset_head header)
        (in-rest (update_head header) (reset_head header) (start_head header ∷ reset_head header ∷ [])
        (in-rest (start_head header) (reset_head header) (reset_head header ∷ []) (in-first (reset_head header) [])))) refl
