-- The public procedures of a system's code have the heads that its header says, in their order.
use Rattle.std.specs.Prelude.{◌≡◌, ℕ, ◌+◌, not, List, [], ◌∷◌, ◌++◌, map, filter, length, refl}
use Rattle.std.specs.List.{range_with_len, enumerate_from}
use Rattle.std.proofs.Common.{ap, ap₂, ◌∙◌}
use Rattle.std.proofs.lemmas.List.{map-append}
use Rattle.std.proofs.lemmas.List.Elements.{filter-append}
use Rattle.std.proofs.lemmas.List.FromFn.{length-map-range_with_len}
use Rattle.modules_profile.specs.LocalSystem.{LocalSystem}
use Rattle.modules_profile.specs.SystemProfile.{SystemProfile}
use Rattle.modules_profile.specs.Locals.{own_header}
use Rattle.modules_schedule.specs.SystemSchedule.{SystemSchedule}
use Rattle.modules_schedule.specs.Scheduling.{groups_holding}
use Rattle.c_syntax.specs.Tree.{ProcedureTree, stmts_of_list}
use Rattle.emit_shape.specs.Heads.{Head, head_of, out_head, update_head, start_head, reset_head, public_heads}
use Rattle.emit_system_spec.specs.EmittedCode.{with_body, group_procedure, function_procedure, update_body, system_procedures}
use Rattle.emit_system_spec.specs.Groups.{code_groups, own_count}
use Rattle.emit_system_spec.specs.Renewing.{start_body, reset_body}
use Rattle.emit_system_spec.specs.Schedules.{IsScheduleOf}
use Rattle.right_system_shape.specs.Formed.{HeadsArePublic}

-- there is a list of groups for each function
pub functions-many : (local : LocalSystem) (profile : SystemProfile) (schedule : SystemSchedule) → IsScheduleOf local profile schedule →
    length schedule.functions ≡ length profile.functions
functions-many local profile schedule is =
    ap (λ (s : SystemSchedule). length s.functions) is.is_schedule
    ∙ length-map-range_with_len (groups_holding is.groups.holds) 0 (length profile.functions)

module _ (local : LocalSystem) (profile : SystemProfile) (schedule : SystemSchedule) where
  abbrev public : List Head → List Head
  public heads = filter (λ (h : Head). not h.private) heads

  groups-hidden : (gs : List ℕ) → public (map head_of (map (group_procedure local profile schedule) gs)) ≡ []
  groups-hidden [] = refl
  groups-hidden (g ∷ gs) = groups-hidden gs

  functions-shown : (j : ℕ) (fs : List (List ℕ)) →
      public (map head_of (map (function_procedure local profile schedule) (enumerate_from j fs)))
      ≡ map (out_head (own_header local profile)) (range_with_len j (length fs))
  functions-shown j [] = refl
  functions-shown j (f ∷ fs) = ap (λ hs. out_head (own_header local profile) j ∷ hs) (functions-shown (j + 1) fs)

  abbrev groups : List ProcedureTree
  groups = map (group_procedure local profile schedule) (code_groups schedule)

  abbrev functions : List ProcedureTree
  functions = map (function_procedure local profile schedule) (enumerate_from 1 schedule.functions)

  abbrev others : List ProcedureTree
  others =
      let h = own_header local profile in
      with_body (update_head h) (update_body local profile schedule (update_head h).params)
      ∷ with_body (start_head h) (stmts_of_list (start_body local (own_count schedule) schedule))
      ∷ with_body (reset_head h) (stmts_of_list (reset_body local (own_count schedule)))
      ∷ []

  shown : length schedule.functions ≡ length profile.functions → public (map head_of (system_procedures local profile schedule))
      ≡ public_heads (own_header local profile)
  shown many =
      let h = own_header local profile in
      let last : List Head = update_head h ∷ start_head h ∷ reset_head h ∷ [] in
      ap public (map-append head_of (groups ++ functions) others)
      ∙ filter-append (λ (h : Head). not h.private) (map head_of (groups ++ functions)) (map head_of others)
      ∙ ap (λ hs. hs ++ last) (ap public (map-append head_of groups functions)
      ∙ filter-append (λ (h : Head). not h.private) (map head_of groups) (map head_of functions)
      ∙ ap₂ ◌++◌ (groups-hidden (code_groups schedule)) (functions-shown 1 schedule.functions)
      ∙ ap (λ n. map (out_head h) (range_with_len 1 n)) many)

pub heads_are_public : HeadsArePublic
heads_are_public local profile schedule is =
    record { moves = []; below = tt; is = shown local profile schedule (functions-many local profile schedule is.is_schedule) }
