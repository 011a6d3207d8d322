-- The own procedures of a system, each by itself, and the limits on them.
use Rattle.std.specs.Prelude.{ℕ, suc, ◌+◌, ◌≤◌, List, [], ◌∷◌, ◌++◌, map, length, Contains}
use Rattle.std.specs.List.{AllByRecursion, enumerate_from}
use Rattle.std.proofs.Common.{refl, arith}
use Rattle.std.proofs.lemmas.List.{length-map}
use Rattle.modules_profile.specs.declared.local.LocalRow.{LocalRow}
use Rattle.modules_profile.specs.LocalSystem.{LocalSystem}
use Rattle.modules_profile.specs.SystemHeader.{SystemHeader}
use Rattle.modules_profile.specs.SystemProfile.{SystemProfile}
use Rattle.modules_profile.specs.Locals.{inports, own_header}
use Rattle.modules_profile.proofs.lemmas.Members.{in-at, of-enumerate}
use Rattle.modules_schedule.specs.SystemSchedule.{SystemSchedule}
use Rattle.c_syntax.specs.Tree.{stmts_of_list, PureTree, ProcedureTree}
use Rattle.c_syntax.specs.Limits.{ProcedureFits}
use Rattle.emit_shape.specs.Heads.{out_head, update_head, start_head, reset_head}
use Rattle.emit_shape.specs.Relocation.{Relocation, moved_procedure}
use Rattle.right_claim.specs.Alone.{bare_procedures}
use Rattle.emit_system_spec.specs.EmittedCode.{with_body, group_params, group_procedure, function_procedure, update_body, system_procedures}
use Rattle.emit_system_spec.specs.Groups.{group_nodes, code_groups, own_count}
use Rattle.emit_system_spec.specs.Heads.{takes, inports_among}
use Rattle.emit_system_spec.specs.Renewing.{start_body, reset_body}
use Rattle.right_system_rules.proofs.Lists.{each-mapped}
use Rattle.right_system_rules.proofs.Different.{all-append}
use Rattle.right_system_rules.proofs.SystemFacts.{SystemFacts}
use Rattle.right_system_rules.proofs.ParamNames.{no-params, update-params, out-params, where-params}
use Rattle.right_system_rules.proofs.Reaches.{relocation}
use Rattle.right_system_rules.proofs.LeafRules.{BlockLaws, leaf_rules}
use Rattle.right_system_rules.proofs.Bodies.{IsLow, low-good, starts-good, resets-good}
use Rattle.right_system_rules.proofs.GroupBodies.{groups-good, updates-good, functions-good}
use Rattle.right_system_rules.proofs.ProcedureLists.{IsLawfulHead, out-far, group-far, update-far, start-far, reset-far}

module _ (local : LocalSystem) (profile : SystemProfile) (schedule : SystemSchedule) (facts : SystemFacts local profile schedule)
    (laws : BlockLaws) where
  abbrev pub m : Relocation
  m = relocation local profile schedule

  abbrev pub header : SystemHeader
  header = own_header local profile

  abbrev pub limit : ℕ
  limit = length (bare_procedures local)

  abbrev pub groups : List ProcedureTree
  groups = map (group_procedure local profile schedule) (code_groups schedule)

  abbrev pub functions : List ProcedureTree
  functions = map (function_procedure local profile schedule) (enumerate_from 1 schedule.functions)

  abbrev pub update_procedure : ProcedureTree
  update_procedure = with_body (update_head header) (update_body local profile schedule (update_head header).params)

  abbrev pub start_procedure : ProcedureTree
  start_procedure = with_body (start_head header) (stmts_of_list (start_body local (own_count schedule) schedule))

  abbrev pub reset_procedure : ProcedureTree
  reset_procedure = with_body (reset_head header) (stmts_of_list (reset_body local (own_count schedule)))

  abbrev pub last : List ProcedureTree
  last = update_procedure ∷ start_procedure ∷ reset_procedure ∷ []

  few-inputs : length header.inputs ≤ 32
  few-inputs =
      let few = facts.emittable.inputs in let made = length-map (inports local) (λ (r : LocalRow). r.out) in omega (arith, few, made)

  -- what a procedure is by itself: its head is lawful, and after these its body
  pub record IsSound (pures : List PureTree) (later : List ProcedureTree) (calls : ℕ) (p : ProcedureTree) : Type 0 where
    pub head : IsLawfulHead p.name p.params
    pub body : IsLow local profile schedule facts laws pures later (length p.params) calls p.body

  fits : (pures : List PureTree) (later : List ProcedureTree) (calls : ℕ) (p : ProcedureTree) → IsSound pures later calls p →
      ProcedureFits p
  fits pures later calls p sound =
      record { params = sound.head.lawful.few; statements = sound.body.statements; expressions = sound.body.expressions }

  pub group-sound : (pures : List PureTree) (later : List ProcedureTree) (g : ℕ) →
      IsSound pures later limit (group_procedure local profile schedule g)
  group-sound pures later g = record {
    head = record {
      far = group-far local.row (suc g);
      lawful = where-params header few-inputs
          (takes (inports_among local (group_nodes schedule g)));
    };
    body = groups-good local profile schedule facts laws pures later (group_params local profile schedule g)
        (leaf_rules local profile schedule facts laws pures later (group_params local profile schedule g) (omega arith)) g;
  }

  pub update-sound : (pures : List PureTree) (later : List ProcedureTree) → IsSound pures later limit update_procedure
  update-sound pures later = record {
    head = record { far = update-far local.row; lawful = update-params header few-inputs };
    body = updates-good local profile schedule facts laws pures later (update_head header).params
        (leaf_rules local profile schedule facts laws pures later (update_head header).params (omega arith));
  }

  pub start-sound : (pures : List PureTree) (later : List ProcedureTree) → IsSound pures later limit start_procedure
  start-sound pures later = record {
    head = record { far = start-far local.row; lawful = no-params };
    body = low-good local profile schedule facts laws pures later 0 (stmts_of_list (start_body local (own_count schedule) schedule))
        (starts-good local profile schedule facts laws pures later 0);
  }

  pub reset-sound : (pures : List PureTree) (later : List ProcedureTree) → IsSound pures later limit reset_procedure
  reset-sound pures later = record {
    head = record { far = reset-far local.row; lawful = no-params };
    body = low-good local profile schedule facts laws pures later 0 (stmts_of_list (reset_body local (own_count schedule)))
        (resets-good local profile schedule facts laws pures later 0);
  }

  abbrev pub moved_groups : List ProcedureTree
  moved_groups = map (moved_procedure m) groups

  pub function-sound : (pures : List PureTree) (more : List ProcedureTree) (e : ℕ × List ℕ) → Contains schedule.functions e.1 →
      IsSound pures (moved_groups ++ more) (limit + length (code_groups schedule)) (function_procedure local profile schedule e)
  function-sound pures more e h = record {
    head = record { far = out-far local.row e.0; lawful = out-params header few-inputs e.0 };
    body = functions-good local profile schedule facts laws pures (moved_groups ++ more) (out_head header e.0).params
        (leaf_rules local profile schedule facts laws pures (moved_groups ++ more) (out_head header e.0).params
        (omega arith)) more refl e.1 (λ g k. facts.called e.1 g h k);
  }

  -- a function is among those of the schedule
  pub of-schedule : (e : ℕ × List ℕ) → Contains (enumerate_from 1 schedule.functions) e → Contains schedule.functions e.1
  of-schedule e h = let n = of-enumerate 1 schedule.functions e h in in-at schedule.functions n.0 e.1 n.2

  -- ---- The limits

  pub procedures_fit : AllByRecursion ProcedureFits (system_procedures local profile schedule)
  procedures_fit =
      all-append ProcedureFits (groups ++ functions) last
      (all-append ProcedureFits groups functions
      (each-mapped ProcedureFits (group_procedure local profile schedule) (code_groups schedule)
      (λ g h. fits [] [] limit (group_procedure local profile schedule g) (group-sound [] [] g)))
      (each-mapped ProcedureFits (function_procedure local profile schedule) (enumerate_from 1 schedule.functions)
      (λ e h. fits [] (moved_groups ++ []) (limit + length (code_groups schedule)) (function_procedure local profile schedule e)
      (function-sound [] [] e (of-schedule e h))))) (
        fits [] [] limit update_procedure (update-sound [] []),
        (fits [] [] limit start_procedure (start-sound [] []), (fits [] [] limit reset_procedure (reset-sound [] []), tt)),
      )
