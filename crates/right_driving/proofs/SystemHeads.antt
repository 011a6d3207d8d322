-- The public procedures of a system are among those of the program, with the heads that the system's header says.
use Rattle.std.specs.Prelude.{◌≡◌, ℕ, not, ◌==◌, Bool, List, map, filter, slice_get, Contains, Option, Some, refl}
use Rattle.std.proofs.Common.{sym, ap, subst, ◌∙◌}
use Rattle.std.proofs.lemmas.Bool.{eqb-true}
use Rattle.std.proofs.lemmas.List.Sorted.{Contains-permutation}
use Rattle.diagram_meaning.specs.Diagram.{Diagram}
use Rattle.diagram_meaning.specs.Needs.{AreTrueNeeds}
use Rattle.modules_profile.specs.SystemHeader.{SystemHeader}
use Rattle.modules_profile.specs.Functions.{functions_for}
use Rattle.modules_profile.specs.Headers.{header_of}
use Rattle.modules_profile.specs.Locals.{own_header}
use Rattle.modules_profile.specs.NodeFacts.{HeaderIsOfOwnRows, ProfilesAreOne}
use Rattle.modules_profile.proofs.lemmas.Members.{of-map, of-filter, at-in}
use Rattle.c_syntax.specs.Tree.{ProcedureTree, ProgramTree}
use Rattle.c_syntax.specs.Lawful.{IsLawful, pure_names, procedure_names}
use Rattle.c_syntax.specs.RootFields.{procedure_named}
use Rattle.c_syntax.proofs.lemmas.NameFacts.{AreDistinct-back}
use Rattle.emit_shape.specs.Heads.{Head, head_of, public_heads}
use Rattle.emit_shape.specs.ProgramShape.{HasSystemShape, viewed}
use Rattle.emit_shape.specs.Programs.{procedures_of, struct_place}
use Rattle.right_driving.proofs.Lists.{name-place}

-- a procedure of a struct, found by its name, with these parameters
pub record HasHead (p : ProgramTree) (of : ℕ) (head : Head) : Type 0 where
  pub place : ℕ
  pub named : procedure_named p head.name ≡ Some place
  pub procedure : ProcedureTree
  pub there : slice_get p.procedures place ≡ Some procedure
  pub of_is : procedure.of ≡ of
  pub params : procedure.params ≡ head.params

-- the header of a system whose outputs need these inputs
abbrev pub header_for : Diagram → Option ℕ → List ℕ → SystemHeader
header_for d s needs = header_of d s (record { row = s; functions = functions_for needs })

module _ (headers : HeaderIsOfOwnRows) (profiles : ProfilesAreOne) (p : ProgramTree) (d : Diagram) (delays : List Bool) (s : Option ℕ)
    (needs : List ℕ) (are_needs : AreTrueNeeds d s needs) (lawful : IsLawful p) (shape : HasSystemShape p d delays s) where
  header-is : own_header (viewed shape.view) shape.view.profile ≡ header_for d s needs
  header-is =
      headers d delays s shape.view.headers shape.view.profile
      ∙ ap (header_of d s) (profiles d s shape.view.profile (record { row = s; functions = functions_for needs }) shape.view.is_profile
      (record { needs = needs; are_needs = are_needs; row = refl; functions = refl }))

  pub has-head : (head : Head) → Contains (public_heads (header_for d s needs)) head → HasHead p (struct_place p s) head
  has-head head among =
      let of : ℕ = struct_place p s in
      let own = subst (λ h. Contains (public_heads h) head) (sym header-is) among in
      let shown = of-filter (λ (z : Head). not z.private) (map head_of (procedures_of p of)) head
      (Contains-permutation (public_heads (own_header (viewed shape.view) shape.view.profile))
      (filter (λ (z : Head). not z.private) (map head_of (procedures_of p of))) head shape.heads own) in
      let made = of-map head_of (procedures_of p of) head shown.0 in
      let kept = of-filter (λ (q : ProcedureTree). q.of == of) p.procedures made.0 made.1 in
      let at = at-in p.procedures made.0 kept.0 in
      record {
        place = at.0;
        named = name-place (λ (q : ProcedureTree). q.name) p.procedures at.0 made.0 head.name
            (AreDistinct-back (pure_names p.pures) (procedure_names p.procedures) lawful.functions) at.1
            (ap (λ (z : Head). z.name) made.2);
        procedure = made.0;
        there = at.1;
        of_is = eqb-true made.0.of of kept.1;
        params = ap (λ (z : Head). z.params) made.2;
      }
