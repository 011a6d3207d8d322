-- The bodies of groups, functions and the update keep the rules of C, and are shallow.
use Rattle.std.specs.Prelude.{◌≡◌, ℕ, ◌+◌, ◌<◌, ◌≤◌, Bool, true, false, if◌then◌else◌, List, [], ◌∷◌, ◌++◌, map, filter, length, slice_get, Contains, Some}
use Rattle.std.specs.List.{enumerate_from}
use Rattle.std.proofs.Common.{refl, sym, ap, subst, ◌∙◌, arith}
use Rattle.diagram_meaning.specs.Rows.{is_triggered}
use Rattle.diagram_blocks.specs.Kinds.{is_delay}
use Rattle.modules_profile.specs.declared.local.ChildUse.{ChildUse}
use Rattle.modules_profile.specs.declared.local.LocalRow.{LocalRow}
use Rattle.modules_profile.specs.LocalSystem.{LocalSystem}
use Rattle.modules_profile.specs.SystemProfile.{SystemProfile}
use Rattle.modules_profile.proofs.lemmas.Members.{in-first, in-rest, of-filter, of-enumerate, at-below, at-left, at-right, at-map}
use Rattle.modules_schedule.specs.SystemSchedule.{SystemSchedule}
use Rattle.c_syntax.specs.Tree.{read, ExprTrees, exprs_of_list, StmtTrees, no_stmts, stmts_of_list, PureTree, ParamTree, ProcedureTree}
use Rattle.c_syntax.specs.Lawful.{Reach, AreLawfulExprs, exprs_length, IsLawfulStmt}
use Rattle.c_syntax.specs.Limits.{exprs_depth}
use Rattle.emit_prelude.specs.Rules.{IsPrelude}
use Rattle.emit_shape.specs.Relocation.{Relocation, moved_number, moved_exprs, moved_stmt, moved_procedure}
use Rattle.right_claim.specs.Alone.{bare_procedures}
use Rattle.emit_system_spec.specs.EmittedCode.{joined, counted, own_call, group_params, group_procedure, update_body}
use Rattle.emit_system_spec.specs.Fields.{counter_field}
use Rattle.emit_system_spec.specs.Groups.{group_nodes, code_groups, own_count}
use Rattle.emit_system_spec.specs.NodeCode.{code_at, memory_code, trigger_code, update_code, reset_code}
use Rattle.emit_system_spec.specs.Places.{param_leaf}
use Rattle.emit_system_spec.specs.Renewing.{counter_stores}
use Rattle.right_system_rules.proofs.Lists.{each-mapped}
use Rattle.right_system_rules.proofs.SystemFacts.{SystemFacts}
use Rattle.right_system_rules.proofs.BareChildren.{own-moves}
use Rattle.right_system_rules.proofs.Moves.{exprs-stay}
use Rattle.right_system_rules.proofs.Reaches.{relocation, bare, reach}
use Rattle.right_system_rules.proofs.GoodCode.{IsGood, good-none, good-joined}
use Rattle.right_system_rules.proofs.LeafRules.{BlockLaws, LeafRules}
use Rattle.right_system_rules.proofs.RowRules.{memory-good, trigger-good}
use Rattle.right_system_rules.proofs.ChildRules.{node-good, update-good, reset-good}
use Rattle.right_system_rules.proofs.Bodies.{IsLow, low-good, counted-good, good-list, counter_stores-good}

module _ (local : LocalSystem) (profile : SystemProfile) (schedule : SystemSchedule) (facts : SystemFacts local profile schedule)
    (laws : BlockLaws)
    (pures : List PureTree) (later : List ProcedureTree) (params : List ParamTree)
    (rules : LeafRules local profile schedule pures later params) where
  abbrev m : Relocation
  m = relocation local profile schedule

  abbrev here : Reach
  here = reach local profile schedule pures later (length params)

  abbrev limit : ℕ
  limit = bare local profile schedule

  abbrev Good : StmtTrees → Type 0
  Good = IsGood m here limit

  abbrev Low : ℕ → StmtTrees → Type 0
  Low = IsLow local profile schedule facts laws pures later (length params)

  nodes-good : (nodes : List ℕ) → Good (joined (map (code_at local (own_count schedule) params) nodes))
  nodes-good nodes =
      good-joined m here limit (map (code_at local (own_count schedule) params) nodes)
      (each-mapped Good (code_at local (own_count schedule) params) nodes
      (λ n h. node-good local profile schedule facts laws pures later params rules n))

  pub groups-good : (g : ℕ) →
      Low limit
      (counted (counter_field local schedule g) (joined (map (code_at local (own_count schedule) params) (group_nodes schedule g))))
  groups-good g =
      counted-good local profile schedule facts laws pures later (length params) g
      (joined (map (code_at local (own_count schedule) params) (group_nodes schedule g)))
      (nodes-good (group_nodes schedule g))

  children-good : (code : ℕ × ChildUse → StmtTrees) → ((k : ℕ) (u : ChildUse) → slice_get local.children k ≡ Some u → Good (code (k, u))) →
      Good (joined (map code (enumerate_from 0 local.children)))
  children-good code holds =
      good-joined m here limit (map code (enumerate_from 0 local.children))
      (each-mapped Good code (enumerate_from 0 local.children)
      (λ e h. let n = of-enumerate 0 local.children e h in
      let first = n.1 in
      let place : n.0 ≡ e.0 = omega (arith, first) in
      holds e.0 e.1 (subst (λ k. slice_get local.children k ≡ Some e.1) place n.2)))

  abbrev pieces : List StmtTrees
  pieces =
      joined (map (code_at local (own_count schedule) params) schedule.update)
      ∷ joined (map (memory_code local params) (filter (λ (r : LocalRow). is_delay r.op) local.rows))
      ∷ joined (map (update_code local (own_count schedule) params) (enumerate_from 0 local.children))
      ∷ joined (map (reset_code local (own_count schedule) params) (enumerate_from 0 local.children))
      ∷ (if is_triggered local.control then trigger_code local params else no_stmts)
      ∷ stmts_of_list (counter_stores local schedule) ∷ []

  pub updates-good : Low limit (update_body local profile schedule params)
  updates-good =
      low-good local profile schedule facts laws pures later (length params) (update_body local profile schedule params)
      (good-joined m here limit pieces (
        nodes-good schedule.update,
        (
          good-joined m here limit (map (memory_code local params) (filter (λ (r : LocalRow). is_delay r.op) local.rows))
              (each-mapped Good (memory_code local params) (filter (λ (r : LocalRow). is_delay r.op) local.rows)
              (λ r h. let in_rows = of-filter (λ (r : LocalRow). is_delay r.op) local.rows r h in
              memory-good local profile schedule facts laws pures later params rules r in_rows.0 in_rows.1)),
          (
            children-good (update_code local (own_count schedule) params)
                (λ k u at. update-good local profile schedule facts laws pures later params rules k u at),
            (
              children-good (reset_code local (own_count schedule) params)
                  (λ k u at. reset-good local profile schedule facts laws pures later params rules k u at),
              (
                trigger (is_triggered local.control) refl,
                (
                  good-list m here limit (counter_stores local schedule)
                      (counter_stores-good local profile schedule facts laws pures later (length params)),
                  tt,
                ),
              ),
            ),
          ),
        ),
      ))
    where
      trigger : (t : Bool) → is_triggered local.control ≡ t → Good (if t then trigger_code local params else no_stmts)
      trigger true is = trigger-good local profile schedule facts laws pures later params rules is
      trigger false is = good-none m here limit

  -- ---- Calls of groups

  reads : List ParamTree → ExprTrees
  reads wanted = exprs_of_list (map (λ (q : ParamTree). read (param_leaf params q.name)) wanted)

  reads-long : (wanted : List ParamTree) → exprs_length (reads wanted) ≡ length wanted
  unfolding reads
  reads-long [] = refl
  reads-long (q ∷ wanted) = let rest = reads-long wanted in omega (arith, rest)

  reads-lawful : (wanted : List ParamTree) → AreLawfulExprs here (reads wanted)
  unfolding reads
  reads-lawful [] = tt
  reads-lawful (q ∷ wanted) = (rules.param q.name, reads-lawful wanted)

  reads-shallow : (wanted : List ParamTree) → exprs_depth (reads wanted) ≤ 1
  unfolding reads
  reads-shallow [] = omega arith
  reads-shallow (q ∷ wanted) = let rest = reads-shallow wanted in omega (arith, rest)

  -- where the groups come first after the children
  module _ (more : List ProcedureTree)
      (groups_first : later ≡ map (moved_procedure m) (map (group_procedure local profile schedule) (code_groups schedule)) ++ more) where
    call-group : (g : ℕ) → slice_get (code_groups schedule) g ≡ Some g →
        (IsPrelude pures → IsLawfulStmt here (moved_stmt m (own_call params g (group_params local profile schedule g)))) ×
        (moved_number m g < limit + length (code_groups schedule))
    unfolding reads
    call-group g at =
        let below = at-below (code_groups schedule) g g at in
        let wanted = group_params local profile schedule g in
        let moves = own-moves local profile schedule g (omega (arith, below)) in
        let groups = map (moved_procedure m) (map (group_procedure local profile schedule) (code_groups schedule)) in
        let p = moved_procedure m (group_procedure local profile schedule g) in
        let stands : slice_get (bare_procedures local ++ later) (moved_number m g) ≡ Some p =
        ap (slice_get (bare_procedures local ++ later)) moves
        ∙ at-right (bare_procedures local) later g p
        (subst (λ l. slice_get l g ≡ Some p) (sym groups_first)
        (at-left groups more g p
        (at-map (moved_procedure m) (map (group_procedure local profile schedule) (code_groups schedule)) g
        (group_procedure local profile schedule g)
        (at-map (group_procedure local profile schedule) (code_groups schedule) g g at)))) in
        let same : moved_exprs m (reads wanted) ≡ reads wanted = exprs-stay m (λ f o. refl) (reads wanted) in (
          λ prelude. (
            p,
            stands,
            refl,
            sym (reads-long wanted) ∙ ap exprs_length (sym same),
            subst (AreLawfulExprs here) (sym same) (reads-lawful wanted),
          ),
          omega (arith, moves, below),
        )

    pub functions-good : (gs : List ℕ) → ((g : ℕ) → Contains gs g → slice_get (code_groups schedule) g ≡ Some g) →
        Low (limit + length (code_groups schedule))
        (stmts_of_list (map (λ g. own_call params g (group_params local profile schedule g)) gs))
    unfolding reads
    functions-good [] are = record { lawful = λ prelude. tt; calls = tt; statements = omega arith; expressions = omega arith }
    functions-good (g ∷ gs) are =
        let first = call-group g (are g (in-first g gs)) in
        let rest = functions-good gs (λ h k. are h (in-rest g h gs k)) in
        let shallow = reads-shallow (group_params local profile schedule g) in
        let a = rest.statements in
        let b = rest.expressions in record {
          lawful = λ prelude. (first.0 prelude, rest.lawful prelude);
          calls = (first.1, rest.calls);
          statements = omega (arith, a);
          expressions = omega (arith, b, shallow);
        }
