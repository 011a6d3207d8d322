-- The procedures of a system, after those of its children, keep the rules of C.
use Rattle.std.specs.Prelude.{◌≡◌, ℕ, suc, ◌+◌, ◌<◌, true, List, [], ◌∷◌, ◌++◌, map, length}
use Rattle.std.specs.List.{AllByRecursion, enumerate_from}
use Rattle.std.proofs.Common.{refl, sym, ap, subst, ◌∙◌, arith}
use Rattle.std.proofs.lemmas.List.{length-map, length-append, map-append, append_assoc}
use Rattle.std.proofs.lemmas.List.Elements.{All-contains}
use Rattle.modules_profile.specs.declared.local.ChildUse.{ChildUse}
use Rattle.modules_profile.specs.LocalSystem.{LocalSystem}
use Rattle.modules_profile.specs.SystemProfile.{SystemProfile}
use Rattle.modules_profile.specs.LawfulLocals.{IsChild}
use Rattle.modules_profile.proofs.lemmas.Members.{of-map, at-below, in-at, of-enumerate}
use Rattle.modules_schedule.specs.SystemSchedule.{SystemSchedule}
use Rattle.c_syntax.specs.Tree.{no_stmts, PureTree, StructTree, ProcedureTree, struct_fields}
use Rattle.c_syntax.specs.Lawful.{pure_names, procedure_names, param_names, AreLawfulStmts, IsLawfulProcedure, AreProcedures}
use Rattle.emit_prelude.specs.Rules.{IsPrelude}
use Rattle.emit_shape.specs.Heads.{Head, public_heads}
use Rattle.emit_shape.specs.Relocation.{Relocation, moved_stmts, moved_procedure}
use Rattle.right_claim.specs.Alone.{bare_struct, bare_procedure, bare_procedures}
use Rattle.emit_system_spec.specs.EmittedCode.{group_procedure, function_procedure, system_procedures, system_code}
use Rattle.emit_system_spec.specs.Groups.{code_groups}
use Rattle.right_system_rules.proofs.Lists.{each-mapped, of-each}
use Rattle.right_system_rules.proofs.Different.{all-append}
use Rattle.right_system_rules.proofs.SystemFacts.{SystemFacts}
use Rattle.right_system_rules.proofs.ParamNames.{is_far, far-apart}
use Rattle.right_system_rules.proofs.ProcedureNames.{prelude-far}
use Rattle.right_system_rules.proofs.FieldPlaces.{fields}
use Rattle.right_system_rules.proofs.BareChildren.{last-fields}
use Rattle.right_system_rules.proofs.Reaches.{reach, structs}
use Rattle.right_system_rules.proofs.LeafRules.{BlockLaws}
use Rattle.right_system_rules.proofs.ProcedureLists.{IsFar, AreFar, far-names, procedures-append, procedures-from, IsLawfulHead, heads-lawful, all-flat, all-weaker, out-far, group-far, update-far, start-far, reset-far}
use Rattle.right_system_rules.proofs.OwnProcedures as own

-- ---- A system

module _ (local : LocalSystem) (profile : SystemProfile) (schedule : SystemSchedule) (facts : SystemFacts local profile schedule)
    (laws : BlockLaws) where
  abbrev m : Relocation
  m = own.m local profile schedule facts laws

  abbrev limit : ℕ
  limit = own.limit local profile schedule facts laws

  abbrev groups : List ProcedureTree
  groups = own.groups local profile schedule facts laws

  abbrev functions : List ProcedureTree
  functions = own.functions local profile schedule facts laws

  abbrev last : List ProcedureTree
  last = own.last local profile schedule facts laws

  abbrev moved_groups : List ProcedureTree
  moved_groups = own.moved_groups local profile schedule facts laws

  module _ (pures : List PureTree) where
    abbrev all_structs : List StructTree
    all_structs = structs local profile schedule pures

    structs-long : length all_structs ≡ length local.children + 1
    structs-long =
        let both = length-append (map bare_struct local.children) ((system_code local profile schedule).structure ∷ []) in
        let made = length-map local.children bare_struct in
        omega (arith, both, made)

    own-fields : struct_fields all_structs (length local.children) ≡ fields local schedule
    own-fields = last-fields local.children (system_code local profile schedule).structure

    lawful : IsPrelude pures → (later : List ProcedureTree) (calls : ℕ) (p : ProcedureTree) → AreFar (bare_procedures local) →
        AreFar later → own.IsSound local profile schedule facts laws pures later calls p →
        IsLawfulProcedure pures all_structs (bare_procedures local ++ later) (moved_procedure m p)
    lawful prelude later calls p bare_far far sound =
        let earlier = bare_procedures local ++ later in
        let reached = reach local profile schedule pures later (length p.params) in record {
          of = let long = structs-long in omega (arith, long);
          params = sound.head.lawful.distinct;
          apart = far-apart (param_names p.params) (pure_names pures ++ procedure_names earlier) sound.head.lawful.near
              (all-append (λ b. is_far b ≡ true) (pure_names pures) (procedure_names earlier) (prelude-far pures prelude)
              (far-names earlier (all-append IsFar (bare_procedures local) later bare_far far)));
          body =
              subst (λ fs. AreLawfulStmts (record reached { fields = fs }) (moved_stmts m p.body))
              (sym own-fields) (sound.body.lawful prelude);
        }

  -- a child's procedure
  abbrev IsBare : ProcedureTree → Type 0
  IsBare p = (p.of < length local.children) × IsLawfulHead p.name p.params × (p.body ≡ no_stmts)

  bare-are : AllByRecursion IsBare (bare_procedures local)
  bare-are =
      all-flat IsBare (λ (e : ℕ × ChildUse). map (bare_procedure e.0) (public_heads e.1.header)) (enumerate_from 0 local.children)
      (λ e h. let n = of-enumerate 0 local.children e h in
      let first = n.1 in
      let below = at-below local.children n.0 e.1 n.2 in
      let child = All-contains IsChild local.children e.1 facts.lawful.are_children (in-at local.children n.0 e.1 n.2) in
      let heads = heads-lawful e.1.header child.inputs in
      each-mapped IsBare (bare_procedure e.0) (public_heads e.1.header)
      (λ head k. (
        omega (arith, first, below),
        of-each (λ (head : Head). IsLawfulHead head.name head.params)
            (public_heads e.1.header) head heads k,
        refl,
      )))

  bare-far : AreFar (bare_procedures local)
  bare-far = all-weaker IsBare IsFar (λ p is. is.1.far) (bare_procedures local) bare-are

  groups-far : AreFar moved_groups
  groups-far =
      each-mapped IsFar (moved_procedure m) groups
      (λ p h. of-each IsFar groups p
      (each-mapped IsFar (group_procedure local profile schedule) (code_groups schedule) (λ g k. group-far local.row (suc g))) h)

  abbrev moved_functions : List ProcedureTree
  moved_functions = map (moved_procedure m) functions

  functions-far : AreFar moved_functions
  functions-far =
      each-mapped IsFar (moved_procedure m) functions
      (λ p h. of-each IsFar functions p
      (each-mapped IsFar (function_procedure local profile schedule) (enumerate_from 1 schedule.functions)
      (λ e k. out-far local.row e.0)) h)

  abbrev moved_last : List ProcedureTree
  moved_last = map (moved_procedure m) last

  module _ (pures : List PureTree) (prelude : IsPrelude pures) where
    abbrev own_structs : List StructTree
    own_structs = all_structs pures

    abbrev Lawful : List ProcedureTree → ProcedureTree → Type 0
    Lawful earlier p = IsLawfulProcedure pures own_structs earlier p

    bare-lawful : AreProcedures pures own_structs [] (bare_procedures local)
    bare-lawful =
        procedures-from pures own_structs [] (bare_procedures local) bare-far
        (λ p between h far.
        let is = of-each IsBare (bare_procedures local) p bare-are h in
        let below = is.0 in
        let long = structs-long pures in record {
          of = omega (arith, below, long);
          params = is.1.lawful.distinct;
          apart = far-apart (param_names p.params) (pure_names pures ++ procedure_names between) is.1.lawful.near
              (all-append (λ b. is_far b ≡ true) (pure_names pures) (procedure_names between) (prelude-far pures prelude)
              (far-names between far));
          body = subst (AreLawfulStmts _) (sym is.2) tt;
        })

    groups-lawful : AreProcedures pures own_structs (bare_procedures local) moved_groups
    groups-lawful =
        procedures-from pures own_structs (bare_procedures local) moved_groups groups-far
        (λ q between h far. let p = of-map (moved_procedure m) groups q h in
        let g = of-map (group_procedure local profile schedule) (code_groups schedule) p.0 p.1 in
        subst (Lawful (bare_procedures local ++ between)) (ap (moved_procedure m) g.2 ∙ p.2)
        (lawful pures prelude between limit (group_procedure local profile schedule g.0) bare-far far
        (own.group-sound local profile schedule facts laws pures between g.0)))

    functions-lawful : AreProcedures pures own_structs (bare_procedures local ++ moved_groups) moved_functions
    functions-lawful =
        procedures-from pures own_structs (bare_procedures local ++ moved_groups) moved_functions functions-far
        (λ q between h far. let p = of-map (moved_procedure m) functions q h in
        let e = of-map (function_procedure local profile schedule) (enumerate_from 1 schedule.functions) p.0 p.1 in
        let calls = limit + length (code_groups schedule) in
        subst (Lawful (bare_procedures local ++ moved_groups ++ between)) (ap (moved_procedure m) e.2 ∙ p.2)
        (subst (λ l. Lawful l (moved_procedure m (function_procedure local profile schedule e.0)))
        (sym (append_assoc (bare_procedures local) moved_groups between))
        (lawful pures prelude (moved_groups ++ between) calls (function_procedure local profile schedule e.0) bare-far
        (all-append IsFar moved_groups between groups-far far)
        (own.function-sound local profile schedule facts laws pures between e.0
        (own.of-schedule local profile schedule facts laws e.0 e.1)))))

    abbrev front : List ProcedureTree
    front = moved_groups ++ moved_functions

    front-far : AreFar front
    front-far = all-append IsFar moved_groups moved_functions groups-far functions-far

    one-last : (later : List ProcedureTree) (p : ProcedureTree) → AreFar later →
        own.IsSound local profile schedule facts laws pures (front ++ later) limit p →
        Lawful (bare_procedures local ++ front ++ later) (moved_procedure m p)
    one-last later p far sound =
        subst (λ l. Lawful l (moved_procedure m p)) (sym (append_assoc (bare_procedures local) front later))
        (lawful pures prelude (front ++ later) limit p bare-far (all-append IsFar front later front-far far) sound)

    last-lawful : AreProcedures pures own_structs (bare_procedures local ++ front) moved_last
    last-lawful =
        procedures-from pures own_structs (bare_procedures local ++ front) moved_last
        (update-far local.row, (start-far local.row, (reset-far local.row, tt)))
        (λ q between h far. of-each (Lawful (bare_procedures local ++ front ++ between)) moved_last q (
          one-last between (own.update_procedure local profile schedule facts laws) far
              (own.update-sound local profile schedule facts laws pures (front ++ between)),
          (
            one-last between (own.start_procedure local profile schedule facts laws) far
                (own.start-sound local profile schedule facts laws pures (front ++ between)),
            (
              one-last between (own.reset_procedure local profile schedule facts laws) far
                  (own.reset-sound local profile schedule facts laws pures (front ++ between)),
              tt,
            ),
          ),
        ) h)

    parts : map (moved_procedure m) (groups ++ functions ++ last) ≡ front ++ moved_last
    parts =
        map-append (moved_procedure m) (groups ++ functions) last
        ∙ ap (λ l. l ++ map (moved_procedure m) last) (map-append (moved_procedure m) groups functions)

    pub procedures_are_lawful : AreProcedures pures own_structs []
        (bare_procedures local ++ map (moved_procedure m) (system_procedures local profile schedule))
    procedures_are_lawful =
        procedures-append pures own_structs [] (bare_procedures local) (map (moved_procedure m) (groups ++ functions ++ last)) bare-lawful
        (subst (AreProcedures pures own_structs (bare_procedures local)) (sym parts)
        (procedures-append pures own_structs (bare_procedures local) front moved_last
        (procedures-append pures own_structs
        (bare_procedures local) moved_groups moved_functions groups-lawful functions-lawful) last-lawful))
