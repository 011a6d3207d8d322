-- Where the own procedures of a system's code are found by their names.
use Rattle.std.specs.Prelude.{◌≡◌, ℕ, zero, suc, ◌+◌, ◌-◌, ◌<◌, ◌≤◌, ◌^◌, Bool, true, false, ◌&&◌, cond, List, [], ◌∷◌, ◌++◌, map, sum_by, take, length, Contains, Some, unwrap_or, codes, decimal, bytes_eq, refl}
use Rattle.std.specs.List.{position_from, enumerate_from}
use Rattle.std.proofs.Common.{ap, subst, ◌∙◌, arith}
use Rattle.std.proofs.lemmas.Bool.{eq-eqb}
use Rattle.std.proofs.lemmas.Fmt.{decimal_injective}
use Rattle.std.proofs.lemmas.List.{append_assoc, append_cancel_left, length-map}
use Rattle.std.proofs.lemmas.Slice.Eq.{bytes_eq-Decides}
use Rattle.modules_profile.specs.declared.local.ChildUse.{ChildUse}
use Rattle.modules_profile.specs.LocalSystem.{LocalSystem}
use Rattle.modules_profile.specs.SystemProfile.{SystemProfile}
use Rattle.modules_profile.specs.Headers.{header_functions}
use Rattle.modules_profile.specs.Locals.{own_header}
use Rattle.modules_profile.specs.Systems.{system_name}
use Rattle.modules_profile.proofs.lemmas.Members.{in-first, in-rest, of-map}
use Rattle.modules_schedule.specs.SystemSchedule.{SystemSchedule}
use Rattle.c_syntax.specs.Tree.{stmts_of_list, ProcedureTree}
use Rattle.emit_shape.specs.Heads.{update_head, start_head, reset_head}
use Rattle.emit_shape.specs.LocalShape.{own_position}
use Rattle.emit_shape.specs.Names.{out_name, update_name, reset_name}
use Rattle.emit_system_spec.specs.Emitted.{EmittedIsEmittable}
use Rattle.emit_system_spec.specs.EmittedCode.{with_body, group_procedure, function_procedure, update_body, system_procedures, system_code}
use Rattle.emit_system_spec.specs.Groups.{code_groups, own_count}
use Rattle.emit_system_spec.specs.Renewing.{start_body, reset_body}
use Rattle.right_system_ticks.specs.PlaceLaws.{CallsAreLoggedByName, ProceduresHavePlaces}
use Rattle.right_system_ticks.specs.ScheduleLaws.{GroupsStandFirst}
use Rattle.right_system_ticks.proofs.Tests.{not-true}
use Rattle.right_system_nodes.proofs.lemmas.SlotLists.{enumerate-long}
use Rattle.right_system_ticks.proofs.LoggedNames.{out-logged, group-unlogged, update-logged, start-unlogged, reset-unlogged}

-- ---- Names

same-bytes : (p : List ℕ) → bytes_eq p p ≡ true
same-bytes p = (bytes_eq-Decides p p).1 refl

behind-bytes : (p a b : List ℕ) → bytes_eq (p ++ a) (p ++ b) ≡ bytes_eq a b
behind-bytes [] a b = refl
behind-bytes (c ∷ p) a b = ap (λ t. t && bytes_eq (p ++ a) (p ++ b)) (eq-eqb c c refl) ∙ behind-bytes p a b

first-numbered : (p a b c : List ℕ) → bytes_eq (p ++ a ++ b) (p ++ c) ≡ bytes_eq (a ++ b) c
first-numbered p a b c = ap (λ name. bytes_eq name (p ++ c)) (append_assoc p a b) ∙ behind-bytes p (a ++ b) c

second-numbered : (p a b c : List ℕ) → bytes_eq (p ++ a) (p ++ b ++ c) ≡ bytes_eq a (b ++ c)
second-numbered p a b c = ap (bytes_eq (p ++ a)) (append_assoc p b c) ∙ behind-bytes p a (b ++ c)

both-numbered : (p a b c d : List ℕ) → bytes_eq (p ++ a ++ b) (p ++ c ++ d) ≡ bytes_eq (a ++ b) (c ++ d)
both-numbered p a b c d = ap (bytes_eq (p ++ a ++ b)) (append_assoc p c d) ∙ first-numbered p a b (c ++ d)

-- ---- Positions

-- what is found after those that fail
position-behind : {A : Type 0} (test : A → Bool) (front behind : List A) (i : ℕ) → ((x : A) → Contains front x → test x ≡ false) →
    position_from test i (front ++ behind) ≡ position_from test (i + length front) behind
position-behind test [] behind i fails = let e : i ≡ i + 0 = omega arith in ap (λ n. position_from test n behind) e
position-behind test (x ∷ front) behind i fails =
    ap (λ t. cond t (Some i) (position_from test (i + 1) (front ++ behind))) (fails x (in-first x front))
    ∙ position-behind test front behind (i + 1) (λ y h. fails y (in-rest x y front h))
    ∙ (let e : i + 1 + length front ≡ i + suc (length front) = omega arith in ap (λ n. position_from test n behind) e)

module _ (local : LocalSystem) (profile : SystemProfile) (schedule : SystemSchedule) where
  abbrev groups : List ProcedureTree
  groups = map (group_procedure local profile schedule) (code_groups schedule)

  abbrev functions : List ProcedureTree
  functions = map (function_procedure local profile schedule) (enumerate_from 1 schedule.functions)

  abbrev updating : ProcedureTree
  updating = with_body (update_head (own_header local profile))
      (update_body local profile schedule (update_head (own_header local profile)).params)

  abbrev starting : ProcedureTree
  starting = with_body (start_head (own_header local profile)) (stmts_of_list (start_body local (own_count schedule) schedule))

  abbrev resetting : ProcedureTree
  resetting = with_body (reset_head (own_header local profile)) (stmts_of_list (reset_body local (own_count schedule)))

  abbrev others : List ProcedureTree
  others = updating ∷ starting ∷ resetting ∷ []

  abbrev has_name : List ℕ → ProcedureTree → Bool
  has_name name q = bytes_eq q.name name

  groups-long : length groups ≡ length (code_groups schedule)
  groups-long = length-map (code_groups schedule) (group_procedure local profile schedule)

  functions-long : length functions ≡ length schedule.functions
  functions-long = length-map (enumerate_from 1 schedule.functions) (function_procedure local profile schedule)
      ∙ enumerate-long 1 schedule.functions

  -- no group has a name with another end
  no-group : (end : List ℕ) → ((g : ℕ) → bytes_eq (codes "_g" ++ decimal g) end ≡ false) → (q : ProcedureTree) → Contains groups q →
      bytes_eq q.name (system_name local.row ++ end) ≡ false
  no-group end none q h =
      let found = of-map (group_procedure local profile schedule) (code_groups schedule) q h in
      subst (λ (x : ProcedureTree). bytes_eq x.name (system_name local.row ++ end) ≡ false) found.2
      (first-numbered (system_name local.row) (codes "_g") (decimal (suc found.0)) end ∙ none (suc found.0))

  no-function : (end : List ℕ) → ((j : ℕ) → bytes_eq (codes "_out" ++ decimal j) end ≡ false) → (q : ProcedureTree) → Contains functions q →
      bytes_eq q.name (system_name local.row ++ end) ≡ false
  no-function end none q h =
      let found = of-map (function_procedure local profile schedule) (enumerate_from 1 schedule.functions) q h in
      subst (λ (x : ProcedureTree). bytes_eq x.name (system_name local.row ++ end) ≡ false) found.2
      (first-numbered (system_name local.row) (codes "_out") (decimal found.0.0) end ∙ none found.0.0)

  shape : system_procedures local profile schedule ≡ groups ++ (functions ++ others)
  shape = append_assoc groups functions others

  -- after groups and functions
  behind-all : (end : List ℕ) → ((g : ℕ) → bytes_eq (codes "_g" ++ decimal g) end ≡ false) →
      ((j : ℕ) → bytes_eq (codes "_out" ++ decimal j) end ≡ false) →
      position_from (has_name (system_name local.row ++ end)) 0 (system_procedures local profile schedule)
      ≡ position_from (has_name (system_name local.row ++ end)) (length (code_groups schedule) + length schedule.functions) others
  behind-all end group function =
      ap (position_from (has_name (system_name local.row ++ end)) 0) shape
      ∙ position-behind (has_name (system_name local.row ++ end)) groups (functions ++ others) 0 (no-group end group)
      ∙ position-behind (has_name (system_name local.row ++ end)) functions others (0 + length groups) (no-function end function)
      ∙ ap (λ n. position_from (has_name (system_name local.row ++ end)) n others)
      (let e : 0 + length groups + length functions ≡ length (code_groups schedule) + length schedule.functions =
      omega (arith, groups-long, functions-long) in e)

  update-place : own_position (system_code local profile schedule) (update_name local.row)
      ≡ length (code_groups schedule) + length schedule.functions
  update-place =
      let n = length (code_groups schedule) + length schedule.functions in
      ap (λ o. unwrap_or o 0) (behind-all (codes "_update") (λ g. refl) (λ j. refl)
      ∙ ap (λ t. cond t (Some n) (position_from (has_name (update_name local.row)) (n + 1) (starting ∷ resetting ∷ [])))
      (same-bytes (update_name local.row)))

  reset-place : own_position (system_code local profile schedule) (reset_name local.row)
      ≡ length (code_groups schedule) + length schedule.functions + 2
  reset-place =
      let n = length (code_groups schedule) + length schedule.functions in
      let name = reset_name local.row in
      ap (λ o. unwrap_or o 0) (behind-all (codes "_reset") (λ g. refl) (λ j. refl)
      ∙ ap (λ t. cond t (Some n) (position_from (has_name name) (n + 1) (starting ∷ resetting ∷ [])))
      (behind-bytes (system_name local.row) (codes "_update") (codes "_reset"))
      ∙ ap (λ t. cond t (Some (n + 1)) (position_from (has_name name) (n + 1 + 1) (resetting ∷ [])))
      (behind-bytes (system_name local.row) (codes "_start") (codes "_reset"))
      ∙ ap (λ t. cond t (Some (n + 1 + 1)) (position_from (has_name name) (n + 1 + 1 + 1) [])) (same-bytes name))
      ∙ omega arith

  -- a function among functions
  function-place : (fs : List (List ℕ)) (a i k : ℕ) → a + length fs ≤ 2 ^ 32 → k < length fs →
      position_from (has_name (out_name local.row (a + k))) i
      (map (function_procedure local profile schedule) (enumerate_from a fs) ++ others) ≡ Some (i + k)
  function-place [] a i k few below = absurd (omega (arith, below))
  function-place (f ∷ fs) a i zero few below =
      ap (λ t. cond t (Some i) (position_from (has_name (out_name local.row (a + 0))) (i + 1)
      (map (function_procedure local profile schedule) (enumerate_from (a + 1) fs) ++ others)))
      (ap (λ n. bytes_eq (out_name local.row a) (out_name local.row n)) (let e : a + 0 ≡ a = omega arith in e) ∙ same-bytes
      (out_name local.row a))
      ∙ (let e : i ≡ i + 0 = omega arith in ap Some e)
  function-place (f ∷ fs) a i (suc k) few below =
      ap (λ t. cond t (Some i) (position_from (has_name (out_name local.row (a + suc k))) (i + 1)
      (map (function_procedure local profile schedule) (enumerate_from (a + 1) fs) ++ others)))
      (not-true (bytes_eq (out_name local.row a) (out_name local.row (a + suc k))) (λ same.
      let texts = (bytes_eq-Decides (out_name local.row a) (out_name local.row (a + suc k))).0 same in
      let one : a ≡ a + suc k = decimal_injective a (a + suc k) (omega (arith, few, below)) (omega (arith, few, below))
      (append_cancel_left (system_name local.row ++ codes "_out") (decimal a) (decimal (a + suc k)) texts) in
      omega (arith, one)))
      ∙ subst (λ n. position_from (has_name (out_name local.row n)) (i + 1)
      (map (function_procedure local profile schedule) (enumerate_from (a + 1) fs) ++ others) ≡ Some (i + 1 + k))
      (let e : a + 1 + k ≡ a + suc k = omega arith in e)
      (function-place fs (a + 1) (i + 1) k (omega (arith, few)) (omega (arith, below)))
      ∙ (let e : i + 1 + k ≡ i + suc k = omega arith in ap Some e)

  out-place : (j : ℕ) → 0 < j → j ≤ length schedule.functions → length schedule.functions < 2 ^ 32 →
      own_position (system_code local profile schedule) (out_name local.row j) ≡ length (code_groups schedule) + (j - 1)
  out-place j some most few =
      let name = out_name local.row j in
      let e : 1 + (j - 1) ≡ j = omega arith in
      ap (λ o. unwrap_or o 0)
      (ap (position_from (has_name name) 0) shape
      ∙ position-behind (has_name name) groups (functions ++ others) 0
      (λ q h.
      let found = of-map (group_procedure local profile schedule) (code_groups schedule) q h in
      subst (λ (x : ProcedureTree). bytes_eq x.name name ≡ false) found.2
      (both-numbered (system_name local.row) (codes "_g") (decimal (suc found.0)) (codes "_out") (decimal j)))
      ∙ subst (λ n. position_from (has_name (out_name local.row n)) (0 + length groups) (functions ++ others)
      ≡ Some (0 + length groups + (j - 1))) e
      (function-place schedule.functions 1 (0 + length groups) (j - 1) (omega (arith, few)) (omega (arith, most, some))))
      ∙ omega (arith, groups-long)

-- ---- The laws

own-few : (local : LocalSystem) (schedule : SystemSchedule) (more : ℕ) → own_count schedule + more ≤ 2 ^ 31 →
    (length (code_groups schedule) < 2 ^ 32) × (length schedule.functions < 2 ^ 32)
own-few local schedule more few = (omega (arith, few), omega (arith, few))

pub calls_are_logged_by_name : EmittedIsEmittable → GroupsStandFirst → CallsAreLoggedByName
calls_are_logged_by_name emittable first local profile schedule emitted =
    let few = own-few local schedule (sum_by (λ (u : ChildUse). length (header_functions u.header) + 3)
    (take (length local.children) local.children))
    (emittable local profile schedule emitted).procedures in
    let functions = (first local profile schedule emitted).functions in
    record {
      outs = λ j some most. out-logged local.row j (let f = few.1 in omega (arith, f, most, functions));
      update = update-logged local.row;
      groups = λ g below. group-unlogged local.row (suc g) (let f = few.0 in omega (arith, f, below));
      start = start-unlogged local.row;
      reset = reset-unlogged local.row;
    }

pub procedures_have_places : EmittedIsEmittable → GroupsStandFirst → ProceduresHavePlaces
procedures_have_places emittable first local profile schedule emitted =
    let few = own-few local schedule (sum_by (λ (u : ChildUse). length (header_functions u.header) + 3)
    (take (length local.children) local.children))
    (emittable local profile schedule emitted).procedures in
    let functions = (first local profile schedule emitted).functions in
    record {
      outs = λ j some most. out-place local profile schedule j some (omega (arith, most, functions)) few.1;
      update = update-place local profile schedule ∙ ap (λ n. length (code_groups schedule) + n) functions;
      reset = reset-place local profile schedule ∙ ap (λ n. length (code_groups schedule) + n + 2) functions;
    }
