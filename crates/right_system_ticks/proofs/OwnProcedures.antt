-- Where the own procedures of a system's code are among the routines of a program.
use Rattle.std.specs.Prelude.{◌≡◌, ℕ, suc, ◌+◌, ◌-◌, ◌<◌, ◌≤◌, List, [], ◌∷◌, ◌++◌, map, length, slice_get, slice_index_or, take, Some, refl}
use Rattle.std.specs.List.{enumerate_from}
use Rattle.std.proofs.Common.{sym, ap, ◌∙◌, arith}
use Rattle.std.proofs.lemmas.List.{length-append, append_assoc}
use Rattle.std.proofs.lemmas.Option.{get_or_from_slice_get}
use Rattle.modules_profile.specs.LocalSystem.{LocalSystem}
use Rattle.modules_profile.specs.SystemProfile.{SystemProfile}
use Rattle.modules_profile.specs.Locals.{own_header}
use Rattle.modules_profile.proofs.lemmas.Members.{at-left, at-right, at-map, at-range, below-at}
use Rattle.modules_schedule.specs.SystemSchedule.{SystemSchedule}
use Rattle.c_syntax.specs.Tree.{stmts_of_list, ProcedureTree, PureTree, field_types}
use Rattle.c_semantics.specs.Values.{functions_of as pure_functions}
use Rattle.c_semantics.specs.Machine.{Routine, routine_at, routine_with}
use Rattle.emit_shape.specs.Heads.{update_head, start_head, reset_head}
use Rattle.emit_shape.specs.Relocation.{Relocation, moved_procedure}
use Rattle.emit_shape.specs.Slots.{slot_field}
use Rattle.right_relation.specs.Instances.{Offer}
use Rattle.right_relation.specs.Relation.{children_routines, behind_offers, numbered_routines, system_routines}
use Rattle.emit_system_spec.specs.EmittedCode.{with_body, group_procedure, function_procedure, update_body, system_procedures, system_code}
use Rattle.emit_system_spec.specs.Fields.{code_slots}
use Rattle.emit_system_spec.specs.Groups.{code_groups, own_count}
use Rattle.emit_system_spec.specs.Renewing.{start_body, reset_body}
use Rattle.right_system_ticks.specs.Holding.{called_groups}
use Rattle.right_system_ticks.specs.ScheduleLaws.{HasGroups}
use Rattle.right_system_ticks.proofs.OwnRoutines.{stand-behind, stands-at, take-at}
use Rattle.right_system_nodes.proofs.lemmas.SlotLists.{enumerate-at, enumerate-long}
use Rattle.right_system_ticks.proofs.FunctionRuns.{SeesGroups}

map-length : {A B : Type 0} (f : A → B) (xs : List A) → length (map f xs) ≡ length xs
map-length f [] = refl
map-length f (x ∷ xs) = ap suc (map-length f xs)

module _ (local : LocalSystem) (profile : SystemProfile) (schedule : SystemSchedule) where
  abbrev procedures : List ProcedureTree
  procedures = system_procedures local profile schedule

  abbrev groups : List ProcedureTree
  groups = map (group_procedure local profile schedule) (code_groups schedule)

  abbrev functions : List ProcedureTree
  functions = map (function_procedure local profile schedule) (enumerate_from 1 schedule.functions)

  abbrev others : List ProcedureTree
  others =
      with_body (update_head (own_header local profile))
      (update_body local profile schedule (update_head (own_header local profile)).params)
      ∷ with_body (start_head (own_header local profile)) (stmts_of_list (start_body local (own_count schedule) schedule))
      ∷ with_body (reset_head (own_header local profile)) (stmts_of_list (reset_body local (own_count schedule)))
      ∷ []

  group-length : length groups ≡ length (code_groups schedule)
  group-length = map-length (group_procedure local profile schedule) (code_groups schedule)

  function-length : length functions ≡ length schedule.functions
  function-length = map-length (function_procedure local profile schedule) (enumerate_from 1 schedule.functions)
      ∙ enumerate-long 1 schedule.functions

  shape : procedures ≡ groups ++ (functions ++ others)
  shape = append_assoc groups functions others

  -- so many are the system's own
  pub own-length : length procedures ≡ own_count schedule
  own-length =
      ap length shape
      ∙ omega (arith, length-append groups (functions ++ others), length-append functions others, group-length, function-length)

  module _ (has : HasGroups profile schedule) where
    pub group-at : (g : ℕ) → g < length (code_groups schedule) → slice_get procedures g ≡ Some (group_procedure local profile schedule g)
    group-at g below =
        ap (λ ps. slice_get ps g) shape
        ∙ at-left groups (functions ++ others) g (group_procedure local profile schedule g)
        (at-map (group_procedure local profile schedule) (code_groups schedule) g g
        (ap (λ gs. slice_get gs g) has.first ∙ at-range 0 (length (code_groups schedule)) g below
        ∙ ap Some (let e : 0 + g ≡ g = omega arith in e)))

    function-list-at : (k : ℕ) → k < length schedule.functions →
        slice_get functions k ≡ Some (function_procedure local profile schedule (1 + k, slice_index_or schedule.functions k []))
    function-list-at k below =
        let x = below-at schedule.functions k below in
        at-map (function_procedure local profile schedule) (enumerate_from 1 schedule.functions) k
        (1 + k, slice_index_or schedule.functions k [])
        (enumerate-at 1 schedule.functions k x.0 x.1
        ∙ ap (λ (gs : List ℕ). Some (1 + k, gs)) (sym (get_or_from_slice_get schedule.functions k x.0 [] x.1)))

    pub function-at : (j : ℕ) → 0 < j → j ≤ length profile.functions →
        slice_get procedures (length (code_groups schedule) + (j - 1))
        ≡ Some (function_procedure local profile schedule (j, called_groups schedule j))
    function-at j some most =
        let below : j - 1 < length schedule.functions = omega (arith, has.functions) in
        let e : 1 + (j - 1) ≡ j = omega arith in
        ap (λ n. slice_get procedures (n + (j - 1))) (sym group-length)
        ∙ ap (λ ps. slice_get ps (length groups + (j - 1))) shape
        ∙ at-right groups (functions ++ others) (j - 1) (function_procedure local profile schedule (1 + (j - 1), called_groups schedule j))
        (at-left functions others (j - 1) (function_procedure local profile schedule (1 + (j - 1), called_groups schedule j))
        (function-list-at (j - 1) below))
        ∙ ap (λ (n : ℕ). Some (function_procedure local profile schedule (n, called_groups schedule j))) e

    pub other-at : (k : ℕ) (p : ProcedureTree) → slice_get others k ≡ Some p →
        slice_get procedures (length (code_groups schedule) + length profile.functions + k) ≡ Some p
    other-at k p at =
        let e : length (code_groups schedule) + length profile.functions + k ≡ length groups + (length functions + k) =
        omega (arith, group-length, function-length, has.functions) in
        ap (slice_get procedures) e ∙ ap (λ ps. slice_get ps (length groups + (length functions + k))) shape ∙ at-right groups
        (functions ++ others) (length functions + k) p (at-right functions others k p at)

    module _ (offers : List Offer) (pures : List PureTree) (numbers : ℕ → ℕ) where
      abbrev mv : Relocation
      mv = behind_offers (code_slots local schedule) offers (own_count schedule)

      abbrev moved-procedures : List ProcedureTree
      moved-procedures = map (moved_procedure mv) procedures

      abbrev routines : List ProcedureTree → List Routine
      routines ps = numbered_routines (pure_functions [] pures) (field_types (map slot_field (code_slots local schedule))) numbers 0
          (children_routines offers) ps

      -- those before a place are after the children's
      pub earlier-at : (q : ℕ) → (own : List Routine) × (routines (take q moved-procedures) ≡ children_routines offers ++ own)
      earlier-at q = stand-behind (pure_functions [] pures) (field_types (map slot_field (code_slots local schedule))) numbers 0
          (children_routines offers)
          (take q moved-procedures)

      -- after all groups each group is seen
      pub sees-groups : (q : ℕ) → length (code_groups schedule) ≤ q → SeesGroups local profile schedule offers pures numbers
          (earlier-at q).0
      sees-groups q behind g below =
          let p = moved_procedure mv (group_procedure local profile schedule g) in
          let at = take-at moved-procedures q g p (omega (arith, behind, below))
          (at-map (moved_procedure mv) procedures g (group_procedure local profile schedule g) (group-at g below)) in
          let b = stand-behind (pure_functions [] pures) (field_types (map slot_field (code_slots local schedule))) numbers 0
          (children_routines offers)
          (take g (take q moved-procedures)) in (
            b.0,
            ap (λ rs. routine_at rs (length (children_routines offers) + g)) (sym (earlier-at q).1)
                ∙ stands-at (pure_functions [] pures) (field_types (map slot_field (code_slots local schedule))) numbers 0
                (children_routines offers)
                (take q moved-procedures) g p at
                ∙ ap (λ rs. routine_with (pure_functions [] pures) (field_types (map slot_field (code_slots local schedule))) rs
                (numbers (0 + g)) p) b.1
                ∙ ap (λ n. routine_with (pure_functions [] pures) (field_types (map slot_field (code_slots local schedule)))
                (children_routines offers ++ b.0) (numbers n) p)
                (let e : 0 + g ≡ g = omega arith in e),
          )

      -- the routine of the procedure at a place
      pub routine-is : (q : ℕ) (p : ProcedureTree) → slice_get procedures q ≡ Some p →
          routine_at (system_routines pures (code_slots local schedule) offers (system_code local profile schedule) numbers)
          (length (children_routines offers) + q)
          ≡ routine_with (pure_functions [] pures) (field_types (map slot_field (code_slots local schedule)))
          (children_routines offers ++ (earlier-at q).0)
          (numbers q) (moved_procedure mv p)
      routine-is q p at =
          ap (λ n. routine_at (routines (map (moved_procedure (behind_offers (code_slots local schedule) offers n)) procedures))
          (length (children_routines offers) + q)) own-length
          ∙ stands-at (pure_functions [] pures) (field_types (map slot_field (code_slots local schedule))) numbers 0
          (children_routines offers)
          moved-procedures q (moved_procedure mv p) (at-map (moved_procedure mv) procedures q p at)
          ∙ ap (λ rs. routine_with (pure_functions [] pures) (field_types (map slot_field (code_slots local schedule))) rs
          (numbers (0 + q)) (moved_procedure mv p)) (earlier-at q).1
          ∙ ap (λ n. routine_with (pure_functions [] pures) (field_types (map slot_field (code_slots local schedule)))
          (children_routines offers ++ (earlier-at q).0) (numbers n) (moved_procedure mv p))
          (let e : 0 + q ≡ q = omega arith in e)
