-- A system's procedures call those of the system and of its children alone.
use Rattle.std.specs.Prelude.{◌≡◌, ℕ, ◌+◌, ◌-◌, ◌<◌, cond, List, [], ◌∷◌, ◌++◌, map, flat_map, length, Contains}
use Rattle.std.specs.List.{AllByRecursion, enumerate_from}
use Rattle.std.proofs.Common.{refl, ap, arith, inl, inr}
use Rattle.std.proofs.lemmas.Bool.{cases_lt, le-ltb}
use Rattle.std.proofs.lemmas.List.{length-map, length-append}
use Rattle.modules_profile.specs.declared.local.ChildUse.{ChildUse}
use Rattle.modules_profile.specs.LocalSystem.{LocalSystem}
use Rattle.modules_profile.specs.SystemProfile.{SystemProfile}
use Rattle.modules_profile.proofs.lemmas.Members.{in-first, in-rest, at-below}
use Rattle.modules_schedule.specs.SystemSchedule.{SystemSchedule}
use Rattle.c_syntax.specs.Tree.{StmtTree, assign, assign_at, branch, call, StmtTrees, no_stmts, more_stmts, stmts_of_list, ParamTree, ProcedureTree}
use Rattle.emit_shape.specs.Heads.{head_of, public_heads}
use Rattle.emit_shape.specs.LocalShape.{callable}
use Rattle.emit_shape.specs.Reads.{CallSite, stmt_calls, calls_in}
use Rattle.emit_shape.specs.Relocation.{Relocation, moved_number}
use Rattle.emit_shape.specs.SystemTree.{SystemTree}
use Rattle.right_claim.specs.Alone.{CallsWithin, bare_procedure, bare_procedures}
use Rattle.emit_system_spec.specs.EmittedCode.{own_call, group_params, group_procedure, function_procedure, system_code}
use Rattle.emit_system_spec.specs.Groups.{code_groups}
use Rattle.right_system_rules.proofs.Lists.{each-mapped}
use Rattle.right_system_rules.proofs.Different.{all-append}
use Rattle.right_system_rules.proofs.SystemFacts.{SystemFacts}
use Rattle.right_system_rules.proofs.BareChildren.{own-procedures}
use Rattle.right_system_rules.proofs.Moves.{StmtCalls, Calls, calls-weaker}
use Rattle.right_system_rules.proofs.LeafRules.{BlockLaws}
use Rattle.right_system_rules.proofs.OwnProcedures as own

-- what holds of each procedure that code calls holds of its calls
module _ (P : ℕ → Type 0) where
  abbrev CallsSome : CallSite → Type 0
  CallsSome c = P c.procedure

  mutual
    stmt-listed : (s : StmtTree) → StmtCalls P s → AllByRecursion CallsSome (stmt_calls s)
    stmt-listed (assign line f e) all = tt
    stmt-listed (assign_at line f index e) all = tt
    stmt-listed (branch line test on_true on_false) all =
        all-append CallsSome (calls_in on_true) (calls_in on_false) (calls-listed on_true all.0) (calls-listed on_false all.1)
    stmt-listed (call line k target values) all = (all, tt)

    calls-listed : (code : StmtTrees) → Calls P code → AllByRecursion CallsSome (calls_in code)
    calls-listed no_stmts all = tt
    calls-listed (more_stmts s ss) all = all-append CallsSome (stmt_calls s) (calls_in ss) (stmt-listed s all.0) (calls-listed ss all.1)

  -- calls of own procedures
  own-calls : (params : List ParamTree) (wanted : ℕ → List ParamTree) (gs : List ℕ) → ((g : ℕ) → Contains gs g → P g) →
      Calls P (stmts_of_list (map (λ g. own_call params g (wanted g)) gs))
  own-calls params wanted [] holds = tt
  own-calls params wanted (g ∷ gs) holds =
      (holds g (in-first g gs), own-calls params wanted gs (λ k has. holds k (in-rest g k gs has)))

bare-long : (n : ℕ) (us : List ChildUse) →
    length (flat_map (λ (e : ℕ × ChildUse). map (bare_procedure e.0) (public_heads e.1.header)) (enumerate_from n us))
    ≡ length (flat_map (λ (u : ChildUse). public_heads u.header) us)
bare-long n [] = refl
bare-long n (u ∷ us) =
    let rest = bare-long (n + 1) us in
    let made = length-map (public_heads u.header) (bare_procedure n) in
    let one =
    length-append (map (bare_procedure n) (public_heads u.header))
    (flat_map (λ (e : ℕ × ChildUse). map (bare_procedure e.0) (public_heads e.1.header)) (enumerate_from (n + 1) us)) in
    let two = length-append (public_heads u.header) (flat_map (λ (w : ChildUse). public_heads w.header) us) in
    omega (arith, rest, made, one, two)

module _ (local : LocalSystem) (profile : SystemProfile) (schedule : SystemSchedule) (facts : SystemFacts local profile schedule)
    (laws : BlockLaws) where
  abbrev m : Relocation
  m = own.m local profile schedule facts laws

  abbrev code : SystemTree
  code = system_code local profile schedule

  abbrev count : ℕ
  count = length code.procedures

  abbrev limit : ℕ
  limit = length (bare_procedures local)

  abbrev IsThere : ℕ → Type 0
  IsThere k = k < length (callable local code)

  callable-long : length (callable local code) ≡ count + limit
  callable-long =
      let both = length-append (map head_of code.procedures) (flat_map (λ (u : ChildUse). public_heads u.header) local.children) in
      let made = length-map code.procedures head_of in
      let bare = bare-long 0 local.children in
      omega (arith, both, made, bare)

  -- what goes to a procedure of a child is one that is there
  child-there : (k : ℕ) → moved_number m k < limit → IsThere k
  child-there k below = elim (cases_lt k count) [
    | inl less ↦ omega (arith, less, callable-long)
    | inr more ↦
        let moves : moved_number m k ≡ k - count = ap (λ b. cond b (limit + k) (k - count)) (le-ltb k count more) in
        omega (arith, below, more, moves, callable-long)
  ]

  children-within : (q : ProcedureTree) → Calls (λ k. moved_number m k < limit) q.body → CallsWithin local code q
  children-within q calls =
      calls-listed IsThere q.body (calls-weaker (λ k. moved_number m k < limit) IsThere child-there q.body calls)

  function-within : (e : ℕ × List ℕ) → Contains schedule.functions e.1 →
      CallsWithin local code (function_procedure local profile schedule e)
  function-within e has =
      let q = function_procedure local profile schedule e in
      calls-listed IsThere q.body
      (own-calls IsThere q.params (group_params local profile schedule) e.1
      (λ g h.
      let below = at-below (code_groups schedule) g g (facts.called e.1 g has h) in
      let own_count = own-procedures local profile schedule in
      omega (arith, below, own_count, callable-long)))

  pub calls_within : AllByRecursion (CallsWithin local code) code.procedures
  calls_within =
      all-append (CallsWithin local code) (own.groups local profile schedule facts laws ++ own.functions local profile schedule facts laws)
      (own.last local profile schedule facts laws)
      (all-append (CallsWithin local code) (own.groups local profile schedule facts laws) (own.functions local profile schedule facts laws)
      (each-mapped (CallsWithin local code) (group_procedure local profile schedule) (code_groups schedule)
      (λ g h. children-within (group_procedure local profile schedule g)
      (own.group-sound local profile schedule facts laws [] [] g).body.calls))
      (each-mapped (CallsWithin local code) (function_procedure local profile schedule) (enumerate_from 1 schedule.functions)
      (λ e h. function-within e (own.of-schedule local profile schedule facts laws e h)))) (
        children-within (own.update_procedure local profile schedule facts laws)
            (own.update-sound local profile schedule facts laws [] []).body.calls,
        (
          children-within (own.start_procedure local profile schedule facts laws)
              (own.start-sound local profile schedule facts laws [] []).body.calls,
          (
            children-within (own.reset_procedure local profile schedule facts laws)
                (own.reset-sound local profile schedule facts laws [] []).body.calls,
            tt,
          ),
        ),
      )
