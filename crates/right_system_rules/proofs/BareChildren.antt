-- What the code of a system sees of its children: their structs and their procedures, each at its place.
use Rattle.std.specs.Prelude.{◌≡◌, ℕ, zero, suc, ◌+◌, ◌-◌, ◌<◌, ◌≤◌, nat_lt, false, cond, List, [], ◌∷◌, ◌++◌, map, flat_map, sum_by, take, length, slice_get, slice_index_or, Some}
use Rattle.std.specs.List.{enumerate_from, range_with_len}
use Rattle.std.proofs.Common.{refl, ap, subst, ◌∙◌, arith}
use Rattle.std.proofs.lemmas.Bool.{lt-ltb}
use Rattle.std.proofs.lemmas.Bool.Decides.{nat_tests}
use Rattle.std.proofs.lemmas.List.{length-map, length-append}
use Rattle.std.proofs.lemmas.List.FromFn.{length-range_with_len}
use Rattle.std.proofs.lemmas.List.Sums.{sum_by-cons}
use Rattle.std.proofs.lemmas.Option.{none-some}
use Rattle.base_fixed_point.specs.declared.types.FixType.{FixType}
use Rattle.modules_profile.specs.declared.local.ChildUse.{ChildUse}
use Rattle.modules_profile.specs.LocalSystem.{LocalSystem}
use Rattle.modules_profile.specs.SystemHeader.{SystemHeader}
use Rattle.modules_profile.specs.SystemProfile.{SystemProfile}
use Rattle.modules_profile.specs.Headers.{header_functions}
use Rattle.modules_profile.proofs.lemmas.Members.{at-left, at-map, at-range, at-below}
use Rattle.modules_schedule.specs.SystemSchedule.{SystemSchedule}
use Rattle.c_syntax.specs.declared.FieldKind.TheVariants.{Number}
use Rattle.c_syntax.specs.Tree.{FieldTree, StructTree, struct_fields, no_struct, ProcedureTree}
use Rattle.c_syntax.specs.Lawful.{IsNumberAt}
use Rattle.emit_shape.specs.Names.{container, value_name}
use Rattle.emit_shape.specs.Heads.{Head, out_head, update_head, start_head, reset_head, public_heads}
use Rattle.emit_shape.specs.Relocation.{Relocation, moved_number}
use Rattle.right_claim.specs.Alone.{or_filler_field, bare_struct, bare_procedure, bare_procedures, behind_bare}
use Rattle.emit_system_spec.specs.EmittedCode.{group_procedure, function_procedure, system_procedures, system_code}
use Rattle.emit_system_spec.specs.Groups.{code_groups, own_count}
use Rattle.emit_system_spec.specs.Places.{child_base}
use Rattle.right_system_rules.proofs.Lists.{at-second, long-enumerated}

-- ---- Structs

index-at : {A : Type 0} (xs : List A) (k : ℕ) (d x : A) → slice_get xs k ≡ Some x → slice_index_or xs k d ≡ x
index-at [] k d x at = absurd (none-some x at)
index-at (y ∷ xs) zero d x at = cc at
index-at (y ∷ xs) (suc k) d x at = index-at xs k d x at

pub child-fields : (us : List ChildUse) (later : List StructTree) (k : ℕ) (u : ChildUse) → slice_get us k ≡ Some u →
    struct_fields (map bare_struct us ++ later) k ≡ (bare_struct u).fields
child-fields us later k u at =
    ap (λ (d : StructTree). d.fields)
    (index-at (map bare_struct us ++ later) k no_struct (bare_struct u)
    (at-left (map bare_struct us) later k (bare_struct u) (at-map bare_struct us k u at)))

pub last-fields : (us : List ChildUse) (d : StructTree) → struct_fields (map bare_struct us ++ d ∷ []) (length us) ≡ d.fields
last-fields us d =
    let place : length us + 0 ≡ length us = omega arith in
    ap (λ (d : StructTree). d.fields) (index-at (map bare_struct us ++ d ∷ []) (length us) no_struct d
    (subst (λ k. slice_get (map bare_struct us ++ d ∷ []) k ≡ Some d) place
    (at-second (map bare_struct us) (d ∷ []) (length us) 0 d (length-map us bare_struct) refl)))

-- an output of a child is a number
pub output-number : (u : ChildUse) (o : ℕ) (e : ℕ × FixType) → slice_get u.header.outputs o ≡ Some e → IsNumberAt (bare_struct u).fields o
output-number u o e at =
    let field : ℕ × FixType → FieldTree = λ o. record { name = value_name o.0; kind = Number (container o.1) } in
    (field e, filled (map field u.header.outputs) o (field e) (at-map field u.header.outputs o e at), refl)
  where
    filled : (fields : List FieldTree) (k : ℕ) (f : FieldTree) → slice_get fields k ≡ Some f → slice_get (or_filler_field fields) k ≡ Some f
    filled [] k f at = absurd (none-some f at)
    filled (g ∷ fields) k f at = at

-- ---- Procedures

-- how many procedures a child has
abbrev offered : ChildUse → ℕ
offered u = length (header_functions u.header) + 3

heads-long : (h : SystemHeader) → length (public_heads h) ≡ length (header_functions h) + 3
heads-long h =
    let both =
    length-append (map (out_head h) (range_with_len 1 (length (header_functions h)))) (update_head h ∷ start_head h ∷ reset_head h ∷ []) in
    let made = length-map (range_with_len 1 (length (header_functions h))) (out_head h) in
    let long = length-range_with_len 1 (length (header_functions h)) in
    omega (arith, both, made, long)

abbrev all_bare : ℕ → List ChildUse → List ProcedureTree
all_bare n us = flat_map (λ (e : ℕ × ChildUse). map (bare_procedure e.0) (public_heads e.1.header)) (enumerate_from n us)

bare-at : (n : ℕ) (us : List ChildUse) (k : ℕ) (u : ChildUse) (i : ℕ) (h : Head) → slice_get us k ≡ Some u →
    slice_get (public_heads u.header) i ≡ Some h →
    slice_get (all_bare n us) (sum_by offered (take k us) + i) ≡ Some (bare_procedure (n + k) h)
bare-at n [] k u i h at here = absurd (none-some u at)
bare-at n (v ∷ us) zero u i h at here =
    let same : u ≡ v = cc at in
    let place : i ≡ 0 + i = omega arith in
    let number : n ≡ n + 0 = omega arith in
    subst (λ j. slice_get (all_bare n (v ∷ us)) j ≡ Some (bare_procedure (n + 0) h)) place
    (at-left (map (bare_procedure n) (public_heads v.header)) (all_bare (n + 1) us) i (bare_procedure (n + 0) h)
    (at-map (bare_procedure n) (public_heads v.header) i h
    (subst (λ (w : ChildUse). slice_get (public_heads w.header) i ≡ Some h) same here) ∙ ap (λ k. Some (bare_procedure k h)) number))
bare-at n (v ∷ us) (suc k) u i h at here =
    let front = length-map (public_heads v.header) (bare_procedure n) ∙ heads-long v.header in
    let sum = sum_by-cons offered v (take k us) in
    let place : offered v + (sum_by offered (take k us) + i) ≡ sum_by offered (take (suc k) (v ∷ us)) + i = omega (arith, sum) in
    let number : n + 1 + k ≡ n + suc k = omega arith in
    subst (λ j. slice_get (all_bare n (v ∷ us)) j ≡ Some (bare_procedure (n + suc k) h)) place
    (at-second (map (bare_procedure n) (public_heads v.header)) (all_bare (n + 1) us) (offered v) (sum_by offered (take k us) + i)
    (bare_procedure (n + suc k) h) front
    (bare-at (n + 1) us k u i h at here ∙ ap (λ k. Some (bare_procedure k h)) number))

-- ---- Where numbers go

module _ (local : LocalSystem) (profile : SystemProfile) (schedule : SystemSchedule) where
  abbrev m : Relocation
  m = behind_bare local (system_code local profile schedule)

  pub own-procedures : length (system_procedures local profile schedule) ≡ own_count schedule
  own-procedures =
      let groups = map (group_procedure local profile schedule) (code_groups schedule) in
      let functions = map (function_procedure local profile schedule) (enumerate_from 1 schedule.functions) in
      let a = length-map (code_groups schedule) (group_procedure local profile schedule) in
      let b = length-map (enumerate_from 1 schedule.functions) (function_procedure local profile schedule) in
      let c = long-enumerated 1 schedule.functions in
      last-three (groups ++ functions) (omega (arith, length-append groups functions, a, b, c)) _ _ _
    where
      last-three : (front : List ProcedureTree) → length front ≡ length (code_groups schedule) + length schedule.functions →
          (x y z : ProcedureTree) → length (front ++ x ∷ y ∷ z ∷ []) ≡ own_count schedule
      last-three front long x y z = let both = length-append front (x ∷ y ∷ z ∷ []) in omega (arith, both, long)

  -- an own procedure is after those of the children
  pub own-moves : (k : ℕ) → k < own_count schedule → moved_number m k ≡ length (bare_procedures local) + k
  own-moves k below =
      let own = own-procedures in
      ap (λ t. cond t (length (bare_procedures local) + k) (k - length (system_procedures local profile schedule)))
      (lt-ltb k (length (system_procedures local profile schedule)) (omega (arith, below, own)))

  -- a child's is where they are
  child-moves : (k i : ℕ) → moved_number m (child_base local (own_count schedule) k + i) ≡ sum_by offered (take k local.children) + i
  child-moves k i =
      let own = own-procedures in
      let n = length (system_procedures local profile schedule) in
      let number = child_base local (own_count schedule) k + i in
      let past : nat_lt number n ≡ false = grind (arith, nat_tests) in
      let rest : number - n ≡ sum_by offered (take k local.children) + i = omega (arith, own) in
      ap (λ t. cond t (length (bare_procedures local) + number) (number - n)) past ∙ rest

  pub child-at : (k : ℕ) (u : ChildUse) (i : ℕ) (h : Head) (later : List ProcedureTree) → slice_get local.children k ≡ Some u →
      slice_get (public_heads u.header) i ≡ Some h →
      slice_get (bare_procedures local ++ later) (moved_number m (child_base local (own_count schedule) k + i)) ≡ Some (bare_procedure k h)
  child-at k u i h later at here =
      let number : 0 + k ≡ k = omega arith in
      ap (slice_get (bare_procedures local ++ later)) (child-moves k i)
      ∙ at-left (bare_procedures local) later (sum_by offered (take k local.children) + i) (bare_procedure k h)
      (bare-at 0 local.children k u i h at here ∙ ap (λ k. Some (bare_procedure k h)) number)

  pub child-below : (k : ℕ) (u : ChildUse) (i : ℕ) (h : Head) → slice_get local.children k ≡ Some u →
      slice_get (public_heads u.header) i ≡ Some h →
      moved_number m (child_base local (own_count schedule) k + i) < length (bare_procedures local)
  child-below k u i h at here =
      let moves = child-moves k i in
      let place =
      at-below (bare_procedures local) (sum_by offered (take k local.children) + i) (bare_procedure (0 + k) h)
      (bare-at 0 local.children k u i h at here) in
      omega (arith, moves, place)

-- the heads that code calls
pub out-at : (h : SystemHeader) (j : ℕ) → 0 < j → j ≤ length (header_functions h) → slice_get (public_heads h) (j - 1) ≡ Some (out_head h j)
out-at h j some most =
    let number : 1 + (j - 1) ≡ j = omega arith in
    at-left (map (out_head h) (range_with_len 1 (length (header_functions h)))) (update_head h ∷ start_head h ∷ reset_head h ∷ []) (j - 1)
    (out_head h j)
    (at-map (out_head h) (range_with_len 1 (length (header_functions h))) (j - 1) j
    (at-range 1 (length (header_functions h)) (j - 1) (omega arith) ∙ ap Some number))

pub behind-at : (h : SystemHeader) (i : ℕ) (head : Head) → slice_get (update_head h ∷ start_head h ∷ reset_head h ∷ []) i ≡ Some head →
    slice_get (public_heads h) (length (header_functions h) + i) ≡ Some head
behind-at h i head at =
    at-second (map (out_head h) (range_with_len 1 (length (header_functions h)))) (update_head h ∷ start_head h ∷ reset_head h ∷ [])
    (length (header_functions h)) i head
    (length-map (range_with_len 1 (length (header_functions h))) (out_head h) ∙ length-range_with_len 1 (length (header_functions h))) at
