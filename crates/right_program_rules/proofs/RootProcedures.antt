-- The root's struct and procedures are there and lawful, and with them all procedures of the program.
use Rattle.std.specs.Prelude.{◌≡◌, ◌≢◌, ℕ, zero, suc, ◌+◌, ◌<◌, ◌^◌, Bool, true, false, ◌==◌, nat_le, if◌then◌else◌, List, [], ◌∷◌, ◌++◌, map, take, length, slice_get, Contains, Some, None}
use Rattle.std.specs.List.{AllByRecursion, enumerate_from, range_with_len}
use Rattle.std.proofs.Common.{refl, sym, ap, subst, ◌∙◌, arith, inl, inr, true≢false}
use Rattle.std.proofs.lemmas.List.Elements.{Contains-append_cases}
use Rattle.std.proofs.lemmas.Option.{same_Some}
use Rattle.std.proofs.lemmas.Slice.Zip.{AllZip-long}
use Rattle.diagram_meaning.specs.ResolvedLaws.{ResolvedCyclesAreShort}
use Rattle.diagram_blocks.specs.Kinds.{is_outport, port_of}
use Rattle.base_fixed_point.specs.declared.FixType.{FixType}
use Rattle.modules_profile.specs.declared.LocalRow.{LocalRow}
use Rattle.modules_profile.specs.Locals.{inports, outports}
use Rattle.modules_profile.proofs.lemmas.Members.{in-none, in-first, in-rest, in-cases, of-map, of-enumerate, at-below, below-at, at-map}
use Rattle.c_syntax.specs.declared.CType.TheVariants.{I8, U8, I16, U16, I32, U32, I64}
use Rattle.c_syntax.specs.Tree.{StmtTree, stmts_of_list, ParamTree, ProcedureTree, struct_fields}
use Rattle.c_syntax.specs.Lawful.{Reach, IsNumberAt, IsStructAt, IsLawfulStmt, AreLawfulStmts, IsLawfulProcedure, AreProcedures, AreApart, HasRoot, pure_names, procedure_names, param_names}
use Rattle.emit_prelude.specs.Rules.{names}
use Rattle.emit_shape.specs.Names.{container, input_name}
use Rattle.emit_shape.specs.Slots.{value, slot_field}
use Rattle.emit_shape.specs.SystemTree.{SystemTree}
use Rattle.emit_shape.specs.Assembled.{code_at, out_names, first_procedure, struct_position, root_structure, call_top}
use Rattle.right_linking.specs.Parts.{Parts, program_of, CodedSystem, IsCodedAs, Views}
use Rattle.right_linking.specs.Places.{SystemsHavePlaces}
use Rattle.right_linking.proofs.lemmas.AssembledPlaces.{member, code-is}
use Rattle.right_program_rules.specs.Keeping.{OfferedStandByName}
use Rattle.right_program_rules.proofs.BareProcedures.{zip-at, moved_field, number-moved}
use Rattle.right_program_rules.proofs.ChildPlaces.{fields-are}
use Rattle.right_program_rules.proofs.FunctionNames.{root_both}
use Rattle.right_program_rules.proofs.Lists.{apart-made, procedures-made}
use Rattle.right_program_rules.proofs.OwnProcedures.{own-lawful}
use Rattle.right_program_rules.proofs.Params.{is_far, before-far}
use Rattle.right_program_rules.proofs.Ports.{root-same}
use Rattle.right_program_rules.proofs.Positions.{before_root, at-position, root-at, structs-long}
use Rattle.right_program_rules.proofs.RootCalls.{params-are, params-differ, reach, step-call, start-call, IsThere, out-there, update-there}
use Rattle.right_program_rules.proofs.RootStatements.{params, output_count, start_name, update_name, called_names, copy, copies, to_start, to_next, start_stmts, step_stmts}
use Rattle.right_program_rules.proofs.RootStruct.{now-number, output-number, top-struct, root-fields, root-struct-at}

-- ---- Lists of statements

list-lawful : (reach : Reach) (ss : List StmtTree) → ((s : StmtTree) → Contains ss s → IsLawfulStmt reach s) →
    AreLawfulStmts reach (stmts_of_list ss)
list-lawful reach [] holds = tt
list-lawful reach (s ∷ ss) holds = (holds s (in-first s ss), list-lawful reach ss (λ z has. holds z (in-rest s z ss has)))

-- ---- Types

container-short : (t : FixType) → container t ≢ I64
container-short t = by (nat_le t.bits 8) (nat_le t.bits 16) t.signed
  where
    by : (b c s : Bool) → (if b then (if s then I8 else U8) else (if c then (if s then I16 else U16) else (if s then I32 else U32))) ≢ I64
    by true c true = λ e. let wrong : ⊥ = cc e in wrong
    by true c false = λ e. let wrong : ⊥ = cc e in wrong
    by false true true = λ e. let wrong : ⊥ = cc e in wrong
    by false true false = λ e. let wrong : ⊥ = cc e in wrong
    by false false true = λ e. let wrong : ⊥ = cc e in wrong
    by false false false = λ e. let wrong : ⊥ = cc e in wrong

-- ---- Names

abbrev begins_with_u : List ℕ → Bool
begins_with_u [] = false
begins_with_u (b ∷ bs) = b == 117

pures-other : AllByRecursion (λ n. begins_with_u n ≡ false) names
pures-other = (refl, (refl, (refl, (refl, (refl, (refl, (refl, (refl, tt))))))))

module _ (places : SystemsHavePlaces) (short : ResolvedCyclesAreShort) (a : Parts) (v : Views a) where
  top_known : IsCodedAs a 0 None (v.at None)
  top_known = v.each 0 None refl

  abbrev top : CodedSystem
  top = v.at None

  hyper-short : a.hyper < 2 ^ 63
  hyper-short =
      let least = short a.model.tree.table a.model.types a.model.ops a.model.times a.can.resolved.resolved in
      let is = a.can.is_cycle in omega (arith, least, is)

  -- ---- Statements

  now-lawful : (number many : ℕ) → IsNumberAt (reach a v number many).fields 0
  now-lawful number many = subst (λ fs. IsNumberAt fs 0) (sym (root-fields a v)) (now-number a v)

  -- a copy of an output of `top`
  copy-lawful : (number many k p : ℕ) → slice_get (code_at a.codes 0).outputs k ≡ Some p →
      IsLawfulStmt (reach a v number many) (copy a (k, p))
  copy-lawful number many k p at =
      let outputs = subst (λ (code : SystemTree). slice_get code.outputs k ≡ Some p) (code-is a 0 None top top_known) at in
      let same = root-same a v is_outport (a.can.resolved.tree.table.outports None) in
      let long = AllZip-long (λ (r : LocalRow) i. slice_get top.slots i ≡ Some (value r))
      (outports top.local) top.code.outputs top_known.shape.places in
      let below = at-below top.code.outputs k p outputs in
      let (r, row) = below-at (outports top.local) k (omega (arith, long, below)) in
      let stored = zip-at (λ (r : LocalRow) i. slice_get top.slots i ≡ Some (value r))
      (outports top.local) top.code.outputs k r top_known.shape.places row in
      let one : stored.0 ≡ p = same_Some stored.0 p (sym stored.1 ∙ outputs) in
      let field_there : slice_get top.code.structure.fields p ≡ Some (slot_field (value r)) =
      ap (λ fs. slice_get fs p) (fields-are a v 0 None refl) ∙ ap (slice_get (map slot_field top.slots)) (sym one)
      ∙ at-map slot_field top.slots stored.0 (value r) stored.2 in
      let fields_there : struct_fields (program_of a).structs (struct_position a.codes 0) ≡ map
      (moved_field a.codes) top.code.structure.fields =
      ap (struct_fields (program_of a).structs) (sym (places a v 0 None refl).struct) ∙ (places a v 0 None refl).fields in (
        subst (λ fs. IsNumberAt fs (k + 1)) (sym (root-fields a v)) (output-number a v k r (ap (λ rows. slice_get rows k) same ∙ row)),
        (
          struct_position a.codes 0,
          subst (λ fs. IsStructAt fs (output_count a + 1) (struct_position a.codes 0)) (sym (root-fields a v)) (top-struct a v),
          subst (λ fs. IsNumberAt fs p) (sym fields_there)
              (number-moved a.codes top.code.structure.fields p (slot_field (value r), field_there, refl)),
        ),
      )

  zero-lawful : (number many : ℕ) → IsLawfulStmt (reach a v number many) (to_start a)
  zero-lawful number many = (now-lawful number many, (0, refl, omega arith))

  next-lawful : (number many : ℕ) → IsLawfulStmt (reach a v number many) (to_next a)
  next-lawful number many = (now-lawful number many, ((now-lawful number many, (1, refl, omega arith)), (a.hyper, refl, hyper-short)))

  -- ---- Procedures

  params-apart : (number : ℕ) → AreApart (param_names (params a))
      (pure_names a.pures ++ procedure_names (take (before_root a v + number) (program_of a).procedures))
  params-apart number =
      apart-made (param_names (params a))
      (pure_names a.pures ++ procedure_names (take (before_root a v + number) (program_of a).procedures))
      (λ name mine other.
      let k = of-map input_name (range_with_len 1 (length (inports a.root))) name (subst (λ ns. Contains ns name) (params-are a v) mine) in
      elim (Contains-append_cases (pure_names a.pures)
      (procedure_names (take (before_root a v + number) (program_of a).procedures)) name other) [
        | inl pure ↦
            let other = member (λ n. begins_with_u n ≡ false) names name pures-other
            (subst (λ ns. Contains ns name) a.prelude.named pure) in
            true≢false (ap begins_with_u k.2 ∙ other)
        | inr procedure ↦ true≢false (sym (before-far a v (before_root a v + number) name procedure) ∙ ap is_far (sym k.2))
      ])

  of-root : length a.codes < length (program_of a).structs
  of-root = let long = structs-long a v in omega (arith, long)

  copies-lawful : (number many : ℕ) (s : StmtTree) → Contains (copies a) s → IsLawfulStmt (reach a v number many) s
  copies-lawful number many s has =
      let from = of-map (copy a) (enumerate_from 0 (code_at a.codes 0).outputs) s has in
      let at = of-enumerate 0 (code_at a.codes 0).outputs from.0 from.1 in
      let place : at.0 ≡ from.0.0 = (let none : at.0 ≡ 0 + at.0 = omega arith in none) ∙ at.1 in
      subst (IsLawfulStmt (reach a v number many)) from.2
      (copy-lawful number many from.0.0 from.0.1
      (subst (λ k. slice_get (code_at a.codes 0).outputs k ≡ Some from.0.1) place at.2))

  start-lawful : (s : StmtTree) → Contains (start_stmts a) s → IsLawfulStmt (reach a v 0 0) s
  start-lawful s has =
      elim (in-cases (call_top a.codes [] (output_count a) (start_name a)) s (copies a ++ to_start a ∷ []) has) [
        | inl same ↦ subst (IsLawfulStmt (reach a v 0 0)) same (start-call a v 0)
        | inr more ↦ elim (Contains-append_cases (copies a) (to_start a ∷ []) s more) [
          | inl copied ↦ copies-lawful 0 0 s copied
          | inr last ↦ elim (in-cases (to_start a) s [] last) [
            | inl same ↦ subst (IsLawfulStmt (reach a v 0 0)) same (zero-lawful 0 0)
            | inr none ↦ absurd (in-none s none)
          ]
        ]
      ]

  step-lawful : (s : StmtTree) → Contains (step_stmts a) s → IsLawfulStmt (reach a v 1 (length (params a))) s
  step-lawful s has =
      elim (Contains-append_cases (map (call_top a.codes (params a) (output_count a)) (called_names a) ++ copies a)
      (to_next a ∷ []) s has) [
        | inl front ↦ elim (Contains-append_cases (map (call_top a.codes (params a) (output_count a)) (called_names a))
            (copies a) s front) [
              | inl calls ↦
                  let from = of-map (call_top a.codes (params a) (output_count a)) (called_names a) s calls in
                  let there = name-there from.0 from.1 in
                  subst (IsLawfulStmt (reach a v 1 (length (params a)))) from.2
                  (step-call a v 1 from.0 there.number there.own there.at there.is)
              | inr copied ↦ copies-lawful 1 (length (params a)) s copied
            ]
        | inr last ↦ elim (in-cases (to_next a) s [] last) [
          | inl same ↦ subst (IsLawfulStmt (reach a v 1 (length (params a)))) same (next-lawful 1 (length (params a)))
          | inr none ↦ absurd (in-none s none)
        ]
      ]
    where
      name-there : (name : List ℕ) → Contains (called_names a) name → IsThere a v name
      name-there name named = elim (Contains-append_cases (out_names (code_at a.codes 0)) (update_name a ∷ []) name named) [
        | inl out ↦ out-there a v name out
        | inr more ↦ elim (in-cases (update_name a) name [] more) [
          | inl same ↦ subst (IsThere a v) same (update-there a v)
          | inr none ↦ absurd (in-none name none)
        ]
      ]

  root-lawful : (number : ℕ) (q : ProcedureTree) → number < 2 → slice_get (root_both a v) number ≡ Some q →
      IsLawfulProcedure a.pures (program_of a).structs (take (before_root a v + number) (program_of a).procedures) q
  root-lawful zero q few at =
      subst (IsLawfulProcedure a.pures (program_of a).structs (take (before_root a v + 0) (program_of a).procedures)) (same_Some _ q at)
      (record {
        of = of-root;
        params = tt;
        apart = tt;
        body = list-lawful (reach a v 0 0) (start_stmts a) start-lawful;
      })
  root-lawful (suc zero) q few at =
      subst (IsLawfulProcedure a.pures (program_of a).structs (take (before_root a v + 1) (program_of a).procedures)) (same_Some _ q at)
      (record {
        of = of-root;
        params = params-differ a v;
        apart = params-apart 1;
        body = list-lawful (reach a v 1 (length (params a))) (step_stmts a) step-lawful;
      })
  root-lawful (suc (suc number)) q few at = absurd (omega (arith, few))

  -- ---- All procedures

  pub procedures-lawful : OfferedStandByName → AreProcedures a.pures (program_of a).structs [] (program_of a).procedures
  procedures-lawful offered =
      procedures-made a.pures (program_of a).structs [] (program_of a).procedures
      (λ k p at. elim (at-position a v k p at) [
        | inl own ↦
            subst (λ n. IsLawfulProcedure a.pures (program_of a).structs (take n (program_of a).procedures) p) (sym own.at)
            (subst (IsLawfulProcedure a.pures (program_of a).structs
            (take (first_procedure a.codes own.place + own.number) (program_of a).procedures)) own.is
            (own-lawful offered places a v own.place own.system own.stands own.number own.own own.there))
        | inr root ↦
            subst (λ n. IsLawfulProcedure a.pures (program_of a).structs (take n (program_of a).procedures) p) root.at
            (root-lawful root.number p (at-below (root_both a v) root.number p root.there) root.there)
      ])

-- ---- The root

params-short : (rows : List LocalRow) →
    AllByRecursion (λ (q : ParamTree). q.type ≢ I64)
    (map (λ (r : LocalRow). record { name = input_name (port_of r.kind); type = container r.out }) rows)
params-short [] = tt
params-short (r ∷ rows) = (container-short r.out, params-short rows)

pub has_root : (a : Parts) → Views a → HasRoot (program_of a)
has_root a v = record {
  of = length a.codes;
  struct = root_structure a.codes a.root a.hyper;
  struct_there = root-struct-at a v;
  struct_name = refl;
  start = before_root a v + 0;
  start_procedure = _;
  start_there = root-at a v 0 _ refl;
  start_name = refl;
  start_of = refl;
  start_params = refl;
  step = before_root a v + 1;
  step_procedure = _;
  step_there = root-at a v 1 _ refl;
  step_name = refl;
  step_of = refl;
  step_params = params-short (inports a.root);
}
