-- Where a system's start and reset are among its own procedures, and that their calls are not logged.
use Rattle.std.specs.Prelude.{◌≡◌, ℕ, suc, ◌+◌, Bool, true, false, cond, ◌&&◌, List, [], ◌∷◌, ◌++◌, map, length, slice_get, Contains, Some, unwrap_or, codes, decimal, bytes_eq, refl}
use Rattle.std.specs.List.{enumerate_from, position_from}
use Rattle.std.proofs.Common.{ap, subst, ◌∙◌, arith, inl, inr}
use Rattle.std.proofs.lemmas.Bool.{eq-eqb}
use Rattle.std.proofs.lemmas.List.{append_assoc, length-append, length-map, reverse-append}
use Rattle.std.proofs.lemmas.List.Elements.{Contains-append_cases}
use Rattle.modules_profile.specs.LocalSystem.{LocalSystem}
use Rattle.modules_profile.specs.SystemProfile.{SystemProfile}
use Rattle.modules_profile.specs.Systems.{system_name}
use Rattle.modules_profile.specs.Locals.{own_header}
use Rattle.modules_profile.proofs.lemmas.Members.{of-map, at-right}
use Rattle.modules_schedule.specs.SystemSchedule.{SystemSchedule}
use Rattle.c_syntax.specs.Tree.{ProcedureTree, stmts_of_list}
use Rattle.c_semantics.specs.Machine.{is_interface}
use Rattle.emit_shape.specs.Heads.{update_head, start_head, reset_head}
use Rattle.emit_shape.specs.LocalShape.{own_position}
use Rattle.emit_shape.specs.Names.{start_name, reset_name}
use Rattle.emit_shape.specs.SystemTree.{SystemTree}
use Rattle.emit_system_spec.specs.EmittedCode.{with_body, group_procedure, function_procedure, update_body, system_code}
use Rattle.emit_system_spec.specs.Groups.{code_groups, own_count}
use Rattle.emit_system_spec.specs.Renewing.{start_body, reset_body}
use Rattle.right_system_starts.proofs.Lists.{length-enumerated, position-behind}

-- ---- Names

same-bytes : (p : List ℕ) → bytes_eq p p ≡ true
same-bytes [] = refl
same-bytes (b ∷ p) = ap (λ t. t && bytes_eq p p) (eq-eqb b b refl) ∙ same-bytes p

behind-bytes : (p a b : List ℕ) → bytes_eq (p ++ a) (p ++ b) ≡ bytes_eq a b
behind-bytes [] a b = refl
behind-bytes (c ∷ p) a b = ap (λ t. t && bytes_eq (p ++ a) (p ++ b)) (eq-eqb c c refl) ∙ behind-bytes p a b

numbered-bytes : (p a b c : List ℕ) → bytes_eq (p ++ a ++ b) (p ++ c) ≡ bytes_eq (a ++ b) c
numbered-bytes p a b c = ap (λ name. bytes_eq name (p ++ c)) (append_assoc p a b) ∙ behind-bytes p (a ++ b) c

-- a start and a reset are no interface
unlogged-start : (p : List ℕ) → is_interface (p ++ codes "_start") ≡ false
unlogged-start p = rw (reverse-append p (codes "_start")) refl

unlogged-reset : (p : List ℕ) → is_interface (p ++ codes "_reset") ≡ false
unlogged-reset p = rw (reverse-append p (codes "_reset")) refl

-- ---- Places

module _ (local : LocalSystem) (profile : SystemProfile) (schedule : SystemSchedule) where
  abbrev code : SystemTree
  code = system_code local profile schedule

  -- groups and functions
  abbrev pub front : List ProcedureTree
  front = map (group_procedure local profile schedule) (code_groups schedule)
      ++ map (function_procedure local profile schedule) (enumerate_from 1 schedule.functions)

  abbrev updating : ProcedureTree
  updating = with_body (update_head (own_header local profile))
      (update_body local profile schedule (update_head (own_header local profile)).params)

  abbrev pub starting : ProcedureTree
  starting = with_body (start_head (own_header local profile)) (stmts_of_list (start_body local (own_count schedule) schedule))

  abbrev pub resetting : ProcedureTree
  resetting = with_body (reset_head (own_header local profile)) (stmts_of_list (reset_body local (own_count schedule)))

  pub count-is : length code.procedures ≡ own_count schedule
  count-is =
      let groups = length-map (code_groups schedule) (group_procedure local profile schedule) in
      let functions = length-map (enumerate_from 1 schedule.functions) (function_procedure local profile schedule) in
      let long = length-enumerated 1 schedule.functions in
      let first = length-append (map (group_procedure local profile schedule) (code_groups schedule))
      (map (function_procedure local profile schedule) (enumerate_from 1 schedule.functions)) in
      let all = length-append front (updating ∷ starting ∷ resetting ∷ []) in
      omega (arith, groups, functions, long, first, all)

  -- a name whose end is that of no group and no function is none of theirs
  not-in-front : (end : List ℕ) → ((g : ℕ) → bytes_eq (codes "_g" ++ decimal g) end ≡ false) →
      ((j : ℕ) → bytes_eq (codes "_out" ++ decimal j) end ≡ false) →
      (q : ProcedureTree) → Contains front q → bytes_eq q.name (system_name local.row ++ end) ≡ false
  not-in-front end no_group no_function q h =
      elim (Contains-append_cases (map (group_procedure local profile schedule) (code_groups schedule))
      (map (function_procedure local profile schedule) (enumerate_from 1 schedule.functions)) q h) [
        | inl group ↦
            let m = of-map (group_procedure local profile schedule) (code_groups schedule) q group in
            subst (λ (x : ProcedureTree). bytes_eq x.name (system_name local.row ++ end) ≡ false) m.2
            (numbered-bytes (system_name local.row) (codes "_g") (decimal (suc m.0)) end ∙ no_group (suc m.0))
        | inr function ↦
            let m = of-map (function_procedure local profile schedule) (enumerate_from 1 schedule.functions) q function in
            subst (λ (x : ProcedureTree). bytes_eq x.name (system_name local.row ++ end) ≡ false) m.2
            (numbered-bytes (system_name local.row) (codes "_out") (decimal m.0.0) end ∙ no_function m.0.0)
      ]

  abbrev has_name : List ℕ → ProcedureTree → Bool
  has_name name q = bytes_eq q.name name

  pub start-position : own_position code (start_name local.row) ≡ length front + 1
  start-position =
      let name = start_name local.row in
      let n = 0 + length front in
      ap (λ o. unwrap_or o 0)
      (position-behind (has_name name) front (updating ∷ starting ∷ resetting ∷ []) 0
      (not-in-front (codes "_start") (λ g. refl) (λ j. refl))
      ∙ ap (λ t. cond t (Some n) (position_from (has_name name) (n + 1) (starting ∷ resetting ∷ [])))
      (behind-bytes (system_name local.row) (codes "_update") (codes "_start"))
      ∙ ap (λ t. cond t (Some (n + 1)) (position_from (has_name name) (n + 1 + 1) (resetting ∷ []))) (same-bytes name))
      ∙ omega arith

  pub reset-position : own_position code (reset_name local.row) ≡ length front + 2
  reset-position =
      let name = reset_name local.row in
      let n = 0 + length front in
      ap (λ o. unwrap_or o 0)
      (position-behind (has_name name) front (updating ∷ starting ∷ resetting ∷ []) 0
      (not-in-front (codes "_reset") (λ g. refl) (λ j. refl))
      ∙ ap (λ t. cond t (Some n) (position_from (has_name name) (n + 1) (starting ∷ resetting ∷ [])))
      (behind-bytes (system_name local.row) (codes "_update") (codes "_reset"))
      ∙ ap (λ t. cond t (Some (n + 1)) (position_from (has_name name) (n + 1 + 1) (resetting ∷ [])))
      (behind-bytes (system_name local.row) (codes "_start") (codes "_reset"))
      ∙ ap (λ t. cond t (Some (n + 1 + 1)) (position_from (has_name name) (n + 1 + 1 + 1) [])) (same-bytes name))
      ∙ omega arith

  pub start-at : slice_get code.procedures (length front + 1) ≡ Some starting
  start-at = at-right front (updating ∷ starting ∷ resetting ∷ []) 1 starting refl

  pub reset-at : slice_get code.procedures (length front + 2) ≡ Some resetting
  reset-at = at-right front (updating ∷ starting ∷ resetting ∷ []) 2 resetting refl

  pub start-unlogged : is_interface starting.name ≡ false
  start-unlogged = unlogged-start (system_name local.row)

  pub reset-unlogged : is_interface resetting.name ≡ false
  reset-unlogged = unlogged-reset (system_name local.row)
