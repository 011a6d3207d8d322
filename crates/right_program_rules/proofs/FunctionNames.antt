-- The names of all functions of a program differ: of a system's by its code, of two systems' by what they begin with, and the
-- root's and the prelude's from all.
use Rattle.std.specs.Prelude.{◌≡◌, ◌⊎◌, ℕ, zero, suc, ◌<◌, List, [], ◌∷◌, ◌++◌, map, flat_map, length, slice_get, Contains, Option, Some, codes as text}
use Rattle.std.proofs.Common.{refl, sym, ap, subst, ◌∙◌, arith, inl, inr, true≢false}
use Rattle.std.specs.Option.{option_map_or}
use Rattle.std.proofs.lemmas.List.{map-append}
use Rattle.std.proofs.lemmas.List.Elements.{Contains-append_cases, Contains-append_right}
use Rattle.std.proofs.lemmas.Option.{none-some}
use Rattle.modules_profile.specs.Systems.{system_name}
use Rattle.modules_profile.proofs.lemmas.Members.{in-map, of-map, at-in}
use Rattle.c_syntax.specs.Tree.{ProcedureTree}
use Rattle.c_syntax.specs.Lawful.{AreDistinct, pure_names, procedure_names}
use Rattle.emit_prelude.specs.Rules.{names}
use Rattle.emit_shape.specs.Names.{root_name}
use Rattle.emit_shape.specs.SystemTree.{SystemTree}
use Rattle.emit_shape.specs.Relocation.{Relocation, moved_procedure}
use Rattle.emit_shape.specs.Assembled.{code_at, relocation_of, root_procedures}
use Rattle.right_claim.specs.Alone.{alone, bare_procedures, behind_bare}
use Rattle.right_linking.specs.Parts.{Parts, program_of, all_systems, Views}
use Rattle.right_linking.proofs.lemmas.AssembledNames.{bytes-same, front-one, system-plain, root-apart, procedures-apart, BelongsTo, numbered, procedure-belongs, own-names-differ}
use Rattle.right_linking.proofs.lemmas.AssembledPlaces.{down, in-down, append-append, code-is, system-of, procedures-down}
use Rattle.right_program_rules.proofs.Lists.{of-flat_map, has-none, distinct-append, distinct-seam}
use Rattle.right_program_rules.proofs.ChildPlaces.{other-system}

abbrev pub procedure_name : ProcedureTree → List ℕ
procedure_name q = q.name

pub moved-procedure_names : (m : Relocation) (qs : List ProcedureTree) → procedure_names (map (moved_procedure m) qs) ≡ procedure_names qs
moved-procedure_names m [] = refl
moved-procedure_names m (q ∷ qs) = ap (λ more. q.name ∷ more) (moved-procedure_names m qs)

module _ (a : Parts) (v : Views a) where
  abbrev pub procedures_at : ℕ → List ProcedureTree
  procedures_at i = map (moved_procedure (relocation_of a.codes i)) (code_at a.codes i).procedures

  abbrev pub root_both : List ProcedureTree
  root_both = root_procedures a.codes a.root a.hyper

  -- a procedure among those of a code
  pub record IsOfSystem (i : ℕ) (q : ProcedureTree) : Type 0 where
    pub system : Option ℕ
    pub stands : slice_get (all_systems a) i ≡ Some system
    pub own : ProcedureTree
    pub has : Contains (v.at system).code.procedures own
    pub is : moved_procedure (relocation_of a.codes i) own ≡ q
    pub belongs : BelongsTo system q.name

  pub of-system : (i : ℕ) (q : ProcedureTree) → i < length a.codes → Contains (procedures_at i) q → IsOfSystem i q
  of-system i q below has =
      let t = system-of a i below in
      let known = v.each i t.0 t.1 in
      let from = of-map (moved_procedure (relocation_of a.codes i)) (code_at a.codes i).procedures q has in
      let own = subst (λ (code : SystemTree). Contains code.procedures from.0) (code-is a i t.0 (v.at t.0) known) from.1 in
      record {
        system = t.0;
        stands = t.1;
        own = from.0;
        has = own;
        is = from.2;
        belongs = subst (λ (z : ProcedureTree). BelongsTo t.0 z.name) from.2 (procedure-belongs a i t.0 (v.at t.0) known from.0 own);
      }

  -- ---- The root's

  -- one of the root's two
  root-named : (q : ProcedureTree) → Contains root_both q → (q.name ≡ text "root_start") ⊎ (q.name ≡ text "root_step")
  root-named q has = let at = at-in root_both q has in by at.0 at.1
    where
      by : (k : ℕ) → slice_get root_both k ≡ Some q → (q.name ≡ text "root_start") ⊎ (q.name ≡ text "root_step")
      by zero at = inl (sym (ap (λ o. option_map_or procedure_name o []) at))
      by (suc zero) at = inr (sym (ap (λ o. option_map_or procedure_name o []) at))
      by (suc (suc k)) at = absurd (none-some q at)

  pub root-cases : (q : ProcedureTree) → Contains root_both q → (rest : List ℕ) × (q.name ≡ root_name ++ 95 ∷ rest)
  root-cases q has = elim (root-named q has) [ inl same ↦ (text "start", same) | inr same ↦ (text "step", same) ]

  pub root-other : (i : ℕ) (t : Option ℕ) (name rest : List ℕ) → slice_get (all_systems a) i ≡ Some t → BelongsTo t name →
      name ≡ root_name ++ 95 ∷ rest → ⊥
  root-other i t name rest stands belongs same =
      true≢false (sym (bytes-same (system_name t) root_name
      (front-one (system_name t) root_name belongs.0 rest (system-plain t (numbered a i t stands)) refl (sym belongs.1 ∙ same)))
      ∙ root-apart t)

  -- ---- All procedures

  own-differ : (m : ℕ) → m < length a.codes → AreDistinct (procedure_names (procedures_at m))
  own-differ m below =
      let t = system-of a m below in
      subst AreDistinct
      (sym (moved-procedure_names (relocation_of a.codes m) (code_at a.codes m).procedures
      ∙ ap (λ (code : SystemTree). procedure_names code.procedures) (code-is a m t.0 (v.at t.0) (v.each m t.0 t.1))))
      (own-names-differ a v m t.0 t.1)

  later-apart : (m : ℕ) (name : List ℕ) → m < length a.codes → Contains (procedure_names (procedures_at m)) name →
      Contains (procedure_names (flat_map procedures_at (down m) ++ root_both)) name → ⊥
  later-apart m name below has more =
      let mine = of-map procedure_name (procedures_at m) name has in
      let one = of-system m mine.0 below mine.1 in
      let other = of-map procedure_name (flat_map procedures_at (down m) ++ root_both) name more in
      elim (Contains-append_cases (flat_map procedures_at (down m)) root_both other.0 other.1) [
        | inl earlier ↦
            let part = of-flat_map procedures_at (down m) other.0 earlier in
            let less = in-down m part.0 part.1 in
            let two = of-system part.0 other.0 (omega (arith, less, below)) part.2 in
            procedures-apart one.system two.system one.belongs.0 two.belongs.0 (numbered a m one.system one.stands)
            (numbered a part.0 two.system two.stands)
            (λ same. let place = other-system a v m part.0 one.system two.system one.stands two.stands same in omega (arith, place, less))
            (sym one.belongs.1 ∙ mine.2 ∙ sym other.2 ∙ two.belongs.1)
        | inr last ↦
            let root = root-cases other.0 last in
            root-other m one.system mine.0.name root.0 one.stands one.belongs (mine.2 ∙ sym other.2 ∙ root.1)
      ]

  differ-from : (n : ℕ) → n < suc (length a.codes) → AreDistinct (procedure_names (flat_map procedures_at (down n) ++ root_both))
  differ-from zero few = (refl, refl, (refl, refl, tt))
  differ-from (suc m) few =
      let below : m < length a.codes = omega (arith, few) in
      subst AreDistinct
      (sym (ap procedure_names (append-append (procedures_at m) (flat_map procedures_at (down m)) root_both)
      ∙ map-append procedure_name (procedures_at m) (flat_map procedures_at (down m) ++ root_both)))
      (distinct-append (procedure_names (procedures_at m)) (procedure_names (flat_map procedures_at (down m) ++ root_both))
      (own-differ m below)
      (differ-from m (omega (arith, few))) (λ name. later-apart m name below))

  pub procedures-differ : AreDistinct (procedure_names (program_of a).procedures)
  procedures-differ = subst (λ ps. AreDistinct (procedure_names ps)) (sym (procedures-down a (length a.codes) refl))
      (differ-from (length a.codes) (omega arith))

  -- ---- With the prelude

  pures-apart : (name : List ℕ) → Contains (pure_names a.pures) name →
      Contains (procedure_names (flat_map procedures_at (down (length a.codes)) ++ root_both)) name → ⊥
  pures-apart name has more =
      let other = of-map procedure_name (flat_map procedures_at (down (length a.codes)) ++ root_both) name more in
      elim (Contains-append_cases (flat_map procedures_at (down (length a.codes))) root_both other.0 other.1) [
        | inl earlier ↦
            let part = of-flat_map procedures_at (down (length a.codes)) other.0 earlier in
            let one = of-system part.0 other.0 (in-down (length a.codes) part.0 part.1) part.2 in
            let c = v.at one.system in
            let bare = bare_procedures c.local in
            let own = map (moved_procedure (behind_bare c.local c.code)) c.code.procedures in
            let is : one.own.name ≡ name = ap procedure_name one.is ∙ other.2 in
            distinct-seam (pure_names a.pures) (procedure_names (alone c.local c.code a.pures).procedures) name
            ((v.each part.0 one.system one.stands).lawful.names a.pures a.prelude) has
            (subst (λ ns. Contains ns name) (sym (map-append procedure_name bare own))
            (Contains-append_right (procedure_names bare) (procedure_names own) name
            (subst (λ ns. Contains ns name) (sym (moved-procedure_names (behind_bare c.local c.code) c.code.procedures))
            (subst (Contains (procedure_names c.code.procedures)) is (in-map procedure_name c.code.procedures one.own one.has)))))
        | inr last ↦ elim (root-named other.0 last) [
          | inl same ↦ has-none names (text "root_start") refl (subst (Contains names) (sym other.2 ∙ same) among)
          | inr same ↦ has-none names (text "root_step") refl (subst (Contains names) (sym other.2 ∙ same) among)
        ]
      ]
    where
      among : Contains names name
      among = subst (λ ns. Contains ns name) a.prelude.named has

  pub functions-differ : AreDistinct (pure_names a.pures ++ procedure_names (program_of a).procedures)
  functions-differ =
      subst (λ ps. AreDistinct (pure_names a.pures ++ procedure_names ps)) (sym (procedures-down a (length a.codes) refl))
      (distinct-append (pure_names a.pures)
      (procedure_names (flat_map procedures_at (down (length a.codes)) ++ root_both)) a.prelude.distinct
      (differ-from (length a.codes) (omega arith)) pures-apart)
