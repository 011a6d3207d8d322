-- Where a public procedure of a system is in the program.
use Rattle.std.specs.Prelude.{◌≡◌, ℕ, ◌+◌, map, slice_get, Contains, Option, Some}
use Rattle.std.proofs.Common.{sym, ap, subst, ◌∙◌}
use Rattle.modules_profile.proofs.lemmas.Members.{in-map, in-at}
use Rattle.c_syntax.specs.Tree.{ProcedureTree}
use Rattle.emit_shape.specs.Heads.{Head, head_of, public_heads}
use Rattle.emit_shape.specs.Programs.{procedure_place}
use Rattle.emit_shape.specs.LocalShape.{own_position}
use Rattle.emit_shape.specs.Assembled.{first_procedure}
use Rattle.right_linking.specs.Parts.{Parts, program_of, all_systems, coded_header, Views}
use Rattle.right_linking.specs.Places.{SystemsHavePlaces}
use Rattle.right_linking.proofs.lemmas.AssembledNames.{own-place, head-there}

module _ (places : SystemsHavePlaces) (a : Parts) (v : Views a) (place : ℕ) (s : Option ℕ) where
  pub record HeadStands (head : Head) : Type 0 where
    pub number : ℕ
    pub own : ProcedureTree
    pub there : slice_get (v.at s).code.procedures number ≡ Some own
    pub is : head_of own ≡ head
    pub found : procedure_place (program_of a) head.name ≡ first_procedure a.codes place + number

  pub head-place : slice_get (all_systems a) place ≡ Some s → (head : Head) → Contains (public_heads (coded_header (v.at s))) head →
      HeadStands head
  head-place stands head has =
      let (j, q, at, is) = head-there a v place s stands head has in
      let name : q.name ≡ head.name = ap (λ (z : Head). z.name) is in
      record {
        number = j;
        own = q;
        there = at;
        is = is;
        found = (places a v place s stands).procedure head.name
            (subst (Contains (map (λ (z : ProcedureTree). z.name) (v.at s).code.procedures)) name
            (in-map (λ (z : ProcedureTree). z.name) (v.at s).code.procedures q (in-at (v.at s).code.procedures j q at)))
            ∙ ap (λ i. first_procedure a.codes place + i)
            (ap (own_position (v.at s).code) (sym name) ∙ own-place a v place s stands j q at);
      }
