-- What a system's start and reset store and call keeps the rules of C, and so does code under a counter.
use Rattle.std.specs.Prelude.{◌≡◌, ℕ, zero, suc, ◌+◌, ◌-◌, ◌^◌, ◌<◌, ◌≤◌, max, Bool, true, false, cond, int_lt, if◌then◌else◌, bytes_eq, List, [], ◌∷◌, ◌++◌, map, filter, flat_map, length, slice_get, unwrap_or, Contains, Option, Some, None, ℤ, pos, unsigned_abs}
use Rattle.std.specs.List.{AllByRecursion, enumerate_from, range_with_len, position_from}
use Rattle.std.specs.Option.{option_map}
use Rattle.std.proofs.Common.{refl, sym, ap, subst, arith, inl, inr, lit<, lit≤}
use Rattle.base_core.specs.declared.base.Compare.TheVariants.{Eq}
use Rattle.diagram_meaning.specs.Rows.{is_triggered}
use Rattle.modules_profile.specs.declared.local.ChildUse.{ChildUse}
use Rattle.modules_profile.specs.declared.local.LocalRow.{LocalRow}
use Rattle.modules_profile.specs.LocalSystem.{LocalSystem}
use Rattle.modules_profile.specs.SystemProfile.{SystemProfile}
use Rattle.modules_profile.specs.Headers.{header_functions}
use Rattle.modules_profile.proofs.lemmas.Members.{in-none, in-cases, of-filter, of-range, of-enumerate}
use Rattle.modules_profile.proofs.lemmas.OwnRows.{of-flat_map}
use Rattle.modules_schedule.specs.SystemSchedule.{SystemSchedule}
use Rattle.c_syntax.specs.Tree.{literal, CondTree, compare, StmtTree, assign, StmtTrees, stmts_of_list, PureTree, ProcedureTree}
use Rattle.c_syntax.specs.Lawful.{Reach, IsNumberAt, IsLawfulStmt, AreLawfulStmts}
use Rattle.c_syntax.specs.Limits.{stmt_depth, stmts_depth, stmt_exprs_depth, stmts_exprs_depth}
use Rattle.emit_prelude.specs.Rules.{IsPrelude}
use Rattle.emit_row_code.specs.RowCode.{written, nought}
use Rattle.emit_shape.specs.Heads.{Head, start_head, reset_head, public_heads}
use Rattle.emit_shape.specs.Relocation.{Relocation, moved_number, moved_stmt, moved_stmts}
use Rattle.emit_shape.specs.RowStarts.{row_start}
use Rattle.right_claim.specs.Alone.{bare_procedure, bare_procedures}
use Rattle.emit_system_spec.specs.EmittedCode.{counted}
use Rattle.emit_system_spec.specs.Fields.{value_rows, single_rows, line_rows, value_field, memory_field, trigger_field, child_field, shared_groups, first_place, counter_field}
use Rattle.emit_system_spec.specs.Groups.{own_count}
use Rattle.emit_system_spec.specs.NodeCode.{ring_fields}
use Rattle.emit_system_spec.specs.Places.{child_base}
use Rattle.emit_system_spec.specs.Renewing.{zero_store, counter_stores, start_store, ring_stores, value_starts, single_starts, line_starts, trigger_starts, memory_starts, call_behind, child_calls, start_body, reset_body}
use Rattle.right_system_rules.proofs.Lists.{each-mapped, each-member}
use Rattle.right_system_rules.proofs.Different.{all-append}
use Rattle.right_system_rules.proofs.SystemFacts.{SystemFacts}
use Rattle.right_system_rules.proofs.FieldPlaces.{fields, value-number, memory-number, place-number, taken-number, trigger-number, child-struct, counter-number}
use Rattle.right_system_rules.proofs.BareChildren.{child-at, child-below, behind-at}
use Rattle.right_system_rules.proofs.Moves.{StmtCalls, Calls, expr-stays}
use Rattle.right_system_rules.proofs.Reaches.{relocation, bare, reach}
use Rattle.right_system_rules.proofs.GoodCode.{IsGood, good-none}
use Rattle.right_system_rules.proofs.LeafRules.{BlockLaws, position-below}
use Rattle.right_system_rules.proofs.RowRules.{writable}

-- ---- Statements one by one

module _ (m : Relocation) (reach : Reach) (limit : ℕ) where
  pub record IsGoodStmt (s : StmtTree) : Type 0 where
    pub lawful : IsPrelude reach.pures → IsLawfulStmt reach (moved_stmt m s)
    pub calls : StmtCalls (λ k. moved_number m k < limit) s
    pub statement : stmt_depth s ≤ 3
    pub expressions : stmt_exprs_depth s ≤ 40

  pub good-list : (xs : List StmtTree) → AllByRecursion IsGoodStmt xs → IsGood m reach limit (stmts_of_list xs)
  good-list [] all = good-none m reach limit
  good-list (s ∷ xs) all =
      let first = all.0 in
      let rest = good-list xs all.1 in
      let a = first.statement in
      let b = rest.statements in
      let c = first.expressions in
      let d = rest.expressions in record {
        lawful = λ prelude. (first.lawful prelude, rest.lawful prelude);
        calls = (first.calls, rest.calls);
        statements = omega (arith, a, b);
        expressions = omega (arith, c, d);
      }

  -- a plain number
  pub number-store : (f n : ℕ) → IsNumberAt reach.fields f → n < 2 ^ 63 → IsGoodStmt (assign 0 f (literal (pos n)))
  number-store f n at small =
      record { lawful = λ prelude. (at, (n, refl, small)); calls = tt; statement = omega arith; expressions = omega arith }

-- ---- Starts and resets

module _ (local : LocalSystem) (profile : SystemProfile) (schedule : SystemSchedule) (facts : SystemFacts local profile schedule)
    (laws : BlockLaws)
    (pures : List PureTree) (later : List ProcedureTree) (count : ℕ) where
  abbrev m : Relocation
  m = relocation local profile schedule

  abbrev here : Reach
  here = reach local profile schedule pures later count

  abbrev limit : ℕ
  limit = bare local profile schedule

  abbrev GoodStmt : StmtTree → Type 0
  GoodStmt = IsGoodStmt m here limit

  abbrev GoodList : List StmtTree → Type 0
  GoodList xs = AllByRecursion GoodStmt xs

  zero-good : (f : ℕ) → IsNumberAt (fields local schedule) f → GoodStmt (zero_store f)
  zero-good f at = number-store m here limit f 0 at (lit< tt)

  always : CondTree
  always = compare Eq nought nought

  -- a written start
  start-good : (f : ℕ) (r : LocalRow) → Contains local.rows r → IsNumberAt (fields local schedule) f → GoodStmt (start_store local f r)
  unfolding always
  start-good f r h at =
      let v = row_start local r in
      let small = writable local profile schedule facts r h in
      let law = (laws.statements here).0.value_reset f (Some always) v at ((0, refl, lit< tt), (0, refl, lit< tt)) small in
      let depth = (laws.shallow 40 (lit≤ tt)).value_reset f (Some always) v (lit≤ tt) in
      let low = depth.expressions in record {
        lawful = λ prelude. subst (λ e. IsLawfulStmt here (assign 0 f e)) (sym (expr-stays m (λ g o. refl) (written v))) law.0.1.0;
        calls = tt;
        statement = omega arith;
        expressions = omega (arith, low);
      }

  value_starts-good : GoodList (value_starts local)
  value_starts-good =
      each-mapped GoodStmt (λ (r : LocalRow). start_store local (value_field local r.row) r) (value_rows local)
      (λ r h. start-good (value_field local r.row) r (of-filter _ local.rows r h).0 (value-number local schedule r h))

  single_starts-good : GoodList (single_starts local)
  single_starts-good =
      each-mapped GoodStmt (λ (r : LocalRow). start_store local (memory_field local r.row) r) (single_rows local)
      (λ r h. start-good (memory_field local r.row) r (of-filter _ local.rows r h).0 (memory-number local schedule r h))

  line_starts-good : GoodList (line_starts local)
  line_starts-good =
      each-member GoodStmt (line_starts local)
      (λ s h. let r = of-flat_map (ring_stores local) (line_rows local) s h in
      of-two (zero_store (ring_fields local r.0.row).place) (zero_store (ring_fields local r.0.row).taken) s
      (zero-good (ring_fields local r.0.row).place (place-number local schedule r.0 r.1))
      (zero-good (ring_fields local r.0.row).taken (taken-number local schedule r.0 r.1)) r.2)
    where
      of-two : (a b s : StmtTree) → GoodStmt a → GoodStmt b → Contains (a ∷ b ∷ []) s → GoodStmt s
      of-two a b s p q h = elim (in-cases a s (b ∷ []) h) [
        | inl same ↦ subst GoodStmt same p
        | inr more ↦ elim (in-cases b s [] more) [ inl same ↦ subst GoodStmt same q | inr none ↦ absurd (in-none s none) ]
      ]

  trigger_starts-good : GoodList (trigger_starts local)
  trigger_starts-good = by (is_triggered local.control) refl
    where
      by : (t : Bool) → is_triggered local.control ≡ t → GoodList (if t then zero_store (trigger_field local) ∷ [] else [])
      by true is = (zero-good (trigger_field local) (trigger-number local schedule is), tt)
      by false is = tt

  memory_starts-good : GoodList (memory_starts local)
  memory_starts-good =
      all-append GoodStmt (single_starts local ++ line_starts local) (trigger_starts local)
      (all-append GoodStmt (single_starts local) (line_starts local) single_starts-good line_starts-good) trigger_starts-good

  pub counter_stores-good : GoodList (counter_stores local schedule)
  counter_stores-good =
      let base = child_field local (length local.children) in
      let n = length (shared_groups schedule) in
      each-mapped GoodStmt zero_store (range_with_len base n)
      (λ f h. let range = of-range base n f h in
      let low = range.0 in
      let high = range.1 in
      let place : base + (f - base) ≡ f = omega (arith, low) in
      zero-good f (subst (IsNumberAt (fields local schedule)) place (counter-number local schedule (f - base) (omega (arith, low, high)))))

  -- a child's start or reset
  behind-good : (i : ℕ) (head : Head) (e : ℕ × ChildUse) → slice_get local.children e.0 ≡ Some e.1 → head.params ≡ [] →
      slice_get (public_heads e.1.header) (length (header_functions e.1.header) + i) ≡ Some head →
      GoodStmt (call_behind local (own_count schedule) i e)
  behind-good i head e at bare_head stands =
      let n = length (header_functions e.1.header) in
      let number = child_base local (own_count schedule) e.0 + n + i in
      let place : child_base local (own_count schedule) e.0 + (n + i) ≡ number = omega arith in record {
        lawful = λ prelude. (
          bare_procedure e.0 head,
          subst (λ j. slice_get (bare_procedures local ++ later) (moved_number m j) ≡ Some (bare_procedure e.0 head)) place
              (child-at local profile schedule e.0 e.1 (n + i) head later at stands),
          child-struct local schedule e.0 e.1 at,
          ap length bare_head,
          tt,
        );
        calls = subst (λ j. moved_number m j < limit) place (child-below local profile schedule e.0 e.1 (n + i) head at stands);
        statement = omega arith;
        expressions = omega arith;
      }

  calls-good : (i : ℕ) →
      ((e : ℕ × ChildUse) → slice_get local.children e.0 ≡ Some e.1 → GoodStmt (call_behind local (own_count schedule) i e)) →
      GoodList (child_calls local (own_count schedule) i)
  calls-good i holds =
      each-mapped GoodStmt (call_behind local (own_count schedule) i) (enumerate_from 0 local.children)
      (λ e h. let n = of-enumerate 0 local.children e h in
      let first = n.1 in
      let place : n.0 ≡ e.0 = omega (arith, first) in
      holds e (subst (λ k. slice_get local.children k ≡ Some e.1) place n.2))

  pub starts-good : IsGood m here limit (stmts_of_list (start_body local (own_count schedule) schedule))
  starts-good =
      good-list m here limit (start_body local (own_count schedule) schedule)
      (all-append GoodStmt (value_starts local ++ memory_starts local ++ child_calls local (own_count schedule) 1)
      (counter_stores local schedule)
      (all-append GoodStmt (value_starts local ++ memory_starts local) (child_calls local (own_count schedule) 1)
      (all-append GoodStmt (value_starts local) (memory_starts local) value_starts-good memory_starts-good)
      (calls-good 1 (λ e at. behind-good 1 (start_head e.1.header) e at refl (behind-at e.1.header 1 (start_head e.1.header) refl))))
      counter_stores-good)

  pub resets-good : IsGood m here limit (stmts_of_list (reset_body local (own_count schedule)))
  resets-good =
      good-list m here limit (reset_body local (own_count schedule))
      (all-append GoodStmt (memory_starts local) (child_calls local (own_count schedule) 2) memory_starts-good
      (calls-good 2 (λ e at. behind-good 2 (reset_head e.1.header) e at refl (behind-at e.1.header 2 (reset_head e.1.header) refl))))

  -- ---- A group's code under its counter

  pub record IsLow (limit : ℕ) (code : StmtTrees) : Type 0 where
    pub lawful : IsPrelude pures → AreLawfulStmts here (moved_stmts m code)
    pub calls : Calls (λ k. moved_number m k < limit) code
    pub statements : stmts_depth code ≤ 20
    pub expressions : stmts_exprs_depth code ≤ 100

  pub low-good : (code : StmtTrees) → IsGood m here limit code → IsLow limit code
  low-good code good =
      let a = good.statements in let b = good.expressions in
      record { lawful = good.lawful; calls = good.calls; statements = omega (arith, a); expressions = omega (arith, b) }

  pub counted-good : (g : ℕ) (code : StmtTrees) → IsGood m here limit code → IsLow limit (counted (counter_field local schedule g) code)
  counted-good g code good = by (first_place (shared_groups schedule) g) refl
    where
      by : (o : Option ℕ) → first_place (shared_groups schedule) g ≡ o →
          IsLow limit (counted (option_map (λ k. child_field local (length local.children) + k) o) code)
      by None e = low-good code good
      by (Some k) e =
          let below = position-below (λ (key : ℕ). Rattle.std.specs.Prelude.nat_eq key g) 0 (shared_groups schedule) k e in
          let at = counter-number local schedule k (omega (arith, below)) in
          let a = good.statements in
          let b = good.expressions in record {
            lawful = λ prelude. (((at, (0, refl, lit< tt)), ((at, (1, refl, lit< tt)), good.lawful prelude), tt), tt);
            calls = (((tt, good.calls), tt), tt);
            statements = omega (arith, a);
            expressions = omega (arith, b);
          }
