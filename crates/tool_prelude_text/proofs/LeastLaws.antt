-- The least program with the eight functions is lawful.
use Rattle.std.proofs.Common.{◌≡◌, refl, sym, ap, ◌∙◌, subst, ◌≤◌, lit≤, List, [], ◌∷◌, ◌++◌, length, codes}
use Rattle.std.proofs.lemmas.List.{length-map}
use Rattle.c_syntax.specs.declared.code.CType.TheVariants.{I32}
use Rattle.c_syntax.specs.declared.program.FieldKind.TheVariants.{Number}
use Rattle.c_syntax.specs.Tree.{StructTree, ProcedureTree, PureTree, ProgramTree}
use Rattle.c_syntax.specs.Lawful.{AreDistinct, AreStructs, AreProcedures, HasRoot, IsLawful, procedure_names}
use Rattle.c_syntax.specs.Limits.{pure_limit, IsWithinLimits}
use Rattle.emit_prelude.specs.Rules.{names, IsPrelude}
use Rattle.tool_prelude_text.specs.Root.{root_struct, root_procedure}

abbrev root_procedures : List ProcedureTree
root_procedures = root_procedure (codes "root_start") ∷ root_procedure (codes "root_step") ∷ []

abbrev least : List PureTree → ProgramTree
least ps = record { pures = ps; structs = root_struct ∷ []; procedures = root_procedures }

names-distinct : AreDistinct (names ++ procedure_names root_procedures)
names-distinct = (
  refl,
  refl,
  (
    refl,
    refl,
    (
      refl,
      refl,
      (refl, refl, (refl, refl, (refl, refl, (refl, refl, (refl, refl, (refl, refl, (refl, refl, tt))))))),
    ),
  ),
)

root-structs : AreStructs 0 (root_struct ∷ [])
root-structs = (record { fields = (refl, refl, tt); some = lit≤ tt; kinds = (tt, tt); outputs = λ e. (refl, tt) }, tt)

store-lawful : (ps : List PureTree) → AreProcedures ps (root_struct ∷ []) [] root_procedures
store-lawful ps = (
  record {
    of = lit≤ tt;
    params = tt;
    apart = tt;
    body = (((record { name = codes "now"; kind = Number I32 }, refl, refl), (0, refl, lit≤ tt)), tt);
  },
  (
    record {
      of = lit≤ tt;
      params = tt;
      apart = tt;
      body = (((record { name = codes "now"; kind = Number I32 }, refl, refl), (0, refl, lit≤ tt)), tt);
    },
    tt,
  ),
)

least-root : (ps : List PureTree) → HasRoot (least ps)
least-root ps = record {
  of = 0;
  struct = root_struct;
  struct_there = refl;
  struct_name = refl;
  start = 0;
  start_procedure = root_procedure (codes "root_start");
  start_there = refl;
  start_name = refl;
  start_of = refl;
  start_params = refl;
  step = 1;
  step_procedure = root_procedure (codes "root_step");
  step_there = refl;
  step_name = refl;
  step_of = refl;
  step_params = tt;
}

least-limits : (ps : List PureTree) → IsPrelude ps → IsWithinLimits (least ps)
least-limits ps is = record {
  count = subst (λ n. n ≤ pure_limit) (sym (sym (length-map ps (λ (p : PureTree). p.name)) ∙ ap length is.named)) (lit≤ tt);
  pures = is.fits;
  procedures = (
    record { params = lit≤ tt; statements = lit≤ tt; expressions = lit≤ tt },
    (record { params = lit≤ tt; statements = lit≤ tt; expressions = lit≤ tt }, tt),
  );
}

least-is-lawful : (ps : List PureTree) → IsPrelude ps → IsLawful (least ps)
least-is-lawful ps is = record {
  functions = subst (λ ns. AreDistinct (ns ++ procedure_names root_procedures)) (sym is.named) names-distinct;
  struct_names = (refl, refl, tt);
  pures = is.lawful;
  structs = root-structs;
  procedures = store-lawful ps;
  root = least-root ps;
  chains = (lit≤ tt, (lit≤ tt, tt));
  limits = least-limits ps is;
}

-- what is made of these parts
pub parts-lawful : (ps : List PureTree) (ds : List StructTree) (d : StructTree) (qs : List ProcedureTree) →
    IsPrelude ps → ds ≡ d ∷ [] → d ≡ root_struct → qs ≡ root_procedures →
    IsLawful (record { pures = ps; structs = ds; procedures = qs })
parts-lawful ps ds d qs is e f g =
    subst (λ xs. IsLawful (record { pures = ps; structs = xs; procedures = qs })) (sym (e ∙ ap (λ x. x ∷ []) f))
    (subst (λ xs. IsLawful (record { pures = ps; structs = root_struct ∷ []; procedures = xs })) (sym g) (least-is-lawful ps is))
