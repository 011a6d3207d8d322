-- The root's calls on `top` are lawful: each is one of its public procedures, and is given the tick and the root's parameters.
use Rattle.std.specs.Prelude.{◌≡◌, ℕ, zero, suc, ◌+◌, ◌-◌, ◌<◌, Bool, true, false, if◌then◌else◌, List, [], ◌∷◌, ◌++◌, map, find, take, zip, length, slice_get, Contains, Some, None, option_map, unwrap_or, codes as text, bytes_eq}
use Rattle.std.specs.List.{position_from, prefix_len, range_with_len, list_any}
use Rattle.std.proofs.Common.{refl, sym, ap, subst, ◌∙◌, arith, inl, inr, true≢false}
use Rattle.std.proofs.lemmas.Bool.{or_cases}
use Rattle.std.proofs.lemmas.List.Elements.{Contains-append_right, Contains-append_cases}
use Rattle.std.proofs.lemmas.List.FromFn.{length-range_with_len}
use Rattle.std.proofs.lemmas.List.Sums.{prefix_len-le-length, prefix_len_passes}
use Rattle.std.proofs.lemmas.Option.{get_or_from_slice_get}
use Rattle.std.specs.Cmp.Lexicographic.{same_text}
use Rattle.base_core.specs.declared.Control.TheVariants as ctl
use Rattle.base_core.specs.declared.Port.{Port}
use Rattle.base_core.specs.declared.Port.TheVariants as ports
use Rattle.base_fixed_point.specs.declared.FixType.{FixType}
use Rattle.diagram_blocks.specs.Kinds.{is_inport, port_of}
use Rattle.modules_profile.specs.declared.LocalRow.{LocalRow}
use Rattle.modules_profile.specs.LocalSystem.{LocalSystem}
use Rattle.modules_profile.specs.Headers.{ports_of_header}
use Rattle.base_core.specs.Ports.{control_ports}
use Rattle.modules_profile.specs.Locals.{inports, outports, bare_header}
use Rattle.modules_profile.specs.Systems.{system_name}
use Rattle.modules_profile.proofs.lemmas.Members.{in-none, in-first, in-rest, in-cases, in-map, of-map, of-range, of-zip, in-at, at-in, at-range, at-map, finds, found-in}
use Rattle.c_syntax.specs.declared.Leaf.TheVariants as leaf
use Rattle.c_syntax.specs.declared.Target.TheVariants as target
use Rattle.c_syntax.specs.Tree.{ExprTree, read, exprs_of_list, call, ParamTree, ProcedureTree, struct_fields}
use Rattle.c_syntax.specs.Lawful.{Reach, AreDistinct, IsNumberAt, IsStructAt, exprs_length, IsLawfulExpr, AreLawfulExprs, IsLawfulStmt, param_names}
use Rattle.emit_shape.specs.Names.{container, now_name, input_name, port_name}
use Rattle.emit_shape.specs.Heads.{Head, now_param, input_params, public_heads, out_heads, update_head, start_head, reset_head}
use Rattle.emit_shape.specs.SystemTree.{SystemTree}
use Rattle.emit_shape.specs.Relocation.{moved_procedure}
use Rattle.emit_shape.specs.LocalShape.{own_position}
use Rattle.emit_shape.specs.Assembled.{code_at, has_procedure, numbered_name, out_names, first_procedure, procedure_position, relocation_of, struct_position, root_value, call_top}
use Rattle.right_linking.specs.Parts.{Parts, program_of, CodedSystem, coded_header, IsCodedAs, Views}
use Rattle.right_linking.proofs.lemmas.AssembledNames.{bytes-same, own-names-differ, own-place, head-there, struct-name, row-is}
use Rattle.right_linking.proofs.lemmas.AssembledPlaces.{IsFirst, first-position, first-of, mapped-length, code-is, own-procedure}
use Rattle.right_program_rules.proofs.Lists.{at-take, distinct-place}
use Rattle.right_program_rules.proofs.Params.{param-known}
use Rattle.right_program_rules.proofs.Ports.{row_port, root-same, root-few, root-ports, numbers-differ}
use Rattle.right_program_rules.proofs.Positions.{before_root, own-before}
use Rattle.right_program_rules.proofs.RootStatements.{params}
use Rattle.right_program_rules.proofs.RootStruct.{now-number, top-struct, root-fields}

-- ---- Searches

first-below : {A : Type 0} (test : A → Bool) (xs : List A) (j : ℕ) → IsFirst test xs j → j < length xs
first-below test [] j first = absurd first
first-below test (x ∷ xs) zero first = omega arith
first-below test (x ∷ xs) (suc j) first = let rest = first-below test xs j first.1 in omega (arith, rest)

any-of : {A : Type 0} (test : A → Bool) (xs : List A) → list_any test xs ≡ true → (x : A) × Contains xs x × (test x ≡ true)
any-of test [] e = absurd (true≢false (sym e))
any-of test (x ∷ xs) e = elim (or_cases (test x) (list_any test xs) e) [
  | inl here ↦ (x, in-first x xs, here)
  | inr more ↦ let found = any-of test xs more in (found.0, in-rest x found.0 xs found.1, found.2)
]

values-long : (f : ParamTree → ExprTree) (qs : List ParamTree) → exprs_length (exprs_of_list (map f qs)) ≡ length qs
values-long f [] = refl
values-long f (q ∷ qs) = let rest = values-long f qs in omega (arith, rest)

values-lawful : (reach : Reach) (f : ParamTree → ExprTree) (qs : List ParamTree) →
    ((q : ParamTree) → Contains qs q → IsLawfulExpr reach (f q)) →
    AreLawfulExprs reach (exprs_of_list (map f qs))
values-lawful reach f [] holds = tt
values-lawful reach f (q ∷ qs) holds = (holds q (in-first q qs), values-lawful reach f qs (λ z has. holds z (in-rest q z qs has)))

module _ (a : Parts) (v : Views a) where
  top_known : IsCodedAs a 0 None (v.at None)
  top_known = v.each 0 None refl

  abbrev top : CodedSystem
  top = v.at None

  -- ---- The root's parameters

  abbrev param_name : ParamTree → List ℕ
  param_name q = q.name

  input-names : (rows : List LocalRow) →
      map param_name (map (λ (r : LocalRow). record { name = input_name (port_of r.kind); type = container r.out }) rows) ≡ map input_name
      (map row_port rows)
  input-names [] = refl
  input-names (r ∷ rows) = ap (λ more. input_name (row_port r) ∷ more) (input-names rows)

  pub params-are : param_names (params a) ≡ map input_name (range_with_len 1 (length (inports a.root)))
  params-are = input-names (inports a.root) ∙ ap (map input_name) (root-ports a v is_inport (a.can.resolved.tree.table.inports None))

  pub params-differ : AreDistinct (param_names (params a))
  params-differ =
      let few = root-few a v is_inport (a.can.resolved.tree.table.inports None) in
      subst AreDistinct (sym params-are) (numbers-differ 117 1 (length (inports a.root)) refl (omega (arith, few)))

  -- a parameter of `top` is the tick or one of the root's
  top-param : (name : List ℕ) → Contains (map param_name (now_param ∷ input_params (bare_header top.local))) name →
      (bytes_eq name now_name ≡ false) → Contains (param_names (params a)) name
  top-param name has other =
      let from = of-map param_name (now_param ∷ input_params (bare_header top.local)) name has in
      elim (in-cases now_param from.0 (input_params (bare_header top.local)) from.1) [
        | inl same ↦ absurd (true≢false (sym (bytes-same name now_name (sym (ap param_name same ∙ from.2))) ∙ other))
        | inr more ↦ input from.0 more from.2
      ]
    where
      input : (p : ParamTree) → Contains (input_params (bare_header top.local)) p → p.name ≡ name → Contains (param_names (params a)) name
      input p more is =
          let made = of-map (λ (e : Port × FixType). record { name = port_name (bare_header top.local).control e.0; type = container e.1 })
          (zip (ports_of_header (bare_header top.local)) ((bare_header top.local).inputs ++ (bare_header top.local).controls)) p more in
          let pair = of-zip (ports_of_header (bare_header top.local))
          ((bare_header top.local).inputs ++ (bare_header top.local).controls) made.0 made.1 in
          let among = in-at (ports_of_header (bare_header top.local)) pair.0 made.0.0 pair.1 in
          let plain : (bare_header top.local).control ≡ ctl.Plain = ap (λ (l : LocalSystem). l.control) top_known.local.is_local in
          let numbers = subst (λ c. Contains
          (map ports.Number (range_with_len 1 (length (bare_header top.local).inputs)) ++ control_ports c) made.0.0) plain among in
          elim (Contains-append_cases (map ports.Number (range_with_len 1 (length (bare_header top.local).inputs))) [] made.0.0 numbers) [
            | inl number ↦
                let k = of-map ports.Number (range_with_len 1 (length (bare_header top.local).inputs)) made.0.0 number in
                let made_name : input_name k.0 ≡ name = ap (port_name (bare_header top.local).control) k.2 ∙ ap param_name made.2 ∙ is in
                let many : length (bare_header top.local).inputs ≡ length (inports a.root) =
                mapped-length (λ (r : LocalRow). r.out) (inports top.local)
                ∙ ap length (sym (root-same a v is_inport (a.can.resolved.tree.table.inports None))) in
                subst (λ ns. Contains ns name) (sym params-are)
                (subst (Contains (map input_name (range_with_len 1 (length (inports a.root))))) made_name
                (in-map input_name (range_with_len 1 (length (inports a.root))) k.0
                (subst (λ n. Contains (range_with_len 1 n) k.0) many k.1)))
            | inr none ↦ absurd (in-none made.0.0 none)
          ]

  -- where a parameter of the root is
  param-found : (rs : List ParamTree) (name : List ℕ) → Contains (param_names rs) name →
      unwrap_or (position_from (λ (r : ParamTree). bytes_eq r.name name) 0 rs) 0 < length rs
  param-found rs name has =
      let from = of-map param_name rs name has in
      let first = first-of (λ (r : ParamTree). bytes_eq r.name name) rs from.0 from.1 (bytes-same from.0.name name from.2) in
      let found = ap (λ o. unwrap_or o 0) (first-position (λ (r : ParamTree). bytes_eq r.name name) rs 0 first.0 first.1) in
      let below = first-below (λ (r : ParamTree). bytes_eq r.name name) rs first.0 first.1 in
      omega (arith, found, below)

  -- ---- What the root's procedures reach

  abbrev pub reach : ℕ → ℕ → Reach
  reach number many = record {
    pures = a.pures;
    structs = (program_of a).structs;
    procedures = take (before_root a v + number) (program_of a).procedures;
    fields = struct_fields (program_of a).structs (length a.codes);
    params = many;
    of = length a.codes;
  }

  value-lawful : (number : ℕ) (rs : List ParamTree) (q : ParamTree) →
      ((bytes_eq q.name now_name ≡ false) → Contains (param_names rs) q.name) →
      IsLawfulExpr (reach number (length rs)) (root_value a.codes rs q)
  value-lawful number rs q there = by (bytes_eq q.name now_name) refl
    where
      by : (t : Bool) → bytes_eq q.name now_name ≡ t →
          IsLawfulExpr (reach number (length rs))
          (if t then read (leaf.Own 0) else read
          (leaf.Param (unwrap_or (position_from (λ (r : ParamTree). bytes_eq r.name q.name) 0 rs) 0)))
      by true e = subst (λ fs. IsNumberAt fs 0) (sym (root-fields a v)) (now-number a v)
      by false e = param-found rs q.name (there e)

  -- ---- Calls

  find-named : (qs : List ProcedureTree) (j : ℕ) (q : ProcedureTree) (name : List ℕ) →
      AreDistinct (map (λ (z : ProcedureTree). z.name) qs) → slice_get qs j ≡ Some q → q.name ≡ name →
      find (λ (z : ProcedureTree). bytes_eq z.name name) qs ≡ Some q
  find-named qs j q name distinct at is =
      let f = finds (λ (z : ProcedureTree). bytes_eq z.name name) qs q (in-at qs j q at) (bytes-same q.name name is) in
      let found = found-in (λ (z : ProcedureTree). bytes_eq z.name name) qs f.0 f.1 in
      let other = at-in qs f.0 found.0 in
      let named = at-map (λ (z : ProcedureTree). z.name) qs other.0 f.0 other.1 ∙ ap Some (same_text f.0.name name (sym found.1)) in
      let place = distinct-place (map (λ (z : ProcedureTree). z.name) qs) other.0 j name distinct named
      (at-map (λ (z : ProcedureTree). z.name) qs j q at ∙ ap Some is) in
      f.1 ∙ sym other.1 ∙ ap (slice_get qs) place ∙ at

  -- a call of one of the procedures of `top`
  pub call-lawful : (number : ℕ) (rs : List ParamTree) (name : List ℕ) (j : ℕ) (q : ProcedureTree) →
      slice_get top.code.procedures j ≡ Some q → q.name ≡ name →
      ((p : ParamTree) → Contains q.params p → (bytes_eq p.name now_name ≡ false) → Contains (param_names rs) p.name) →
      IsLawfulStmt (reach number (length rs)) (call_top a.codes rs (length (outports a.root)) name)
  call-lawful number rs name j q at is given =
      let code_is = code-is a 0 None top top_known in
      let position : procedure_position a.codes 0 name ≡ first_procedure a.codes 0 + j =
      ap (λ (code : SystemTree). first_procedure a.codes 0 + own_position code name) code_is
      ∙ ap (λ k. first_procedure a.codes 0 + k) (ap (own_position top.code) (sym is) ∙ own-place a v 0 None refl j q at) in
      let found : find (λ (z : ProcedureTree). bytes_eq z.name name) (code_at a.codes 0).procedures ≡ Some q =
      ap (λ (code : SystemTree). find (λ (z : ProcedureTree). bytes_eq z.name name) code.procedures) code_is
      ∙ find-named top.code.procedures j q name (own-names-differ a v 0 None refl) at is in
      let before = own-before a v 0 None refl j q at in
      subst (λ qs. IsLawfulStmt (reach number (length rs))
      (call 0 (procedure_position a.codes 0 name) (target.Child (length (outports a.root) + 1))
      (exprs_of_list (map (root_value a.codes rs) qs))))
      (sym (ap (λ o. unwrap_or (option_map (λ (z : ProcedureTree). z.params) o) []) found)) (
        moved_procedure (relocation_of a.codes 0) q,
        ap (slice_get (take (before_root a v + number) (program_of a).procedures)) position
            ∙ at-take (program_of a).procedures (before_root a v + number) (first_procedure a.codes 0 + j)
            (moved_procedure (relocation_of a.codes 0) q) (omega (arith, before)) (own-procedure a v 0 None refl j q at),
        subst (λ fs. IsStructAt fs (length (outports a.root) + 1) (struct_position a.codes 0)) (sym (root-fields a v)) (top-struct a v),
        sym (values-long (root_value a.codes rs) q.params),
        values-lawful (reach number (length rs)) (root_value a.codes rs) q.params (λ p has. value-lawful number rs p (given p has)),
      )

  -- with the root's parameters any procedure of `top` can be called
  pub step-call : (number : ℕ) (name : List ℕ) (j : ℕ) (q : ProcedureTree) → slice_get top.code.procedures j ≡ Some q → q.name ≡ name →
      IsLawfulStmt (reach number (length (params a))) (call_top a.codes (params a) (length (outports a.root)) name)
  step-call number name j q at is =
      call-lawful number (params a) name j q at is
      (λ p has other. top-param p.name (param-known a v 0 None refl q (in-at top.code.procedures j q at) p has) other)

  -- ---- The names that are called

  -- a procedure of `top` with a name
  pub record IsThere (name : List ℕ) : Type 0 where
    pub number : ℕ
    pub own : ProcedureTree
    pub at : slice_get top.code.procedures number ≡ Some own
    pub is : own.name ≡ name

  pub out-there : (name : List ℕ) → Contains (out_names (code_at a.codes 0)) name → IsThere name
  out-there name has =
      let c = code_at a.codes 0 in
      let numbers = range_with_len 1 (length c.procedures) in
      let p : ℕ → Bool = λ j. has_procedure c (numbered_name c j) in
      let from = of-map (numbered_name c) (range_with_len 1 (prefix_len p numbers)) name has in
      let range = of-range 1 (prefix_len p numbers) from.0 from.1 in
      let low = range.0 in
      let high = range.1 in
      let most = prefix_len-le-length p numbers in
      let long = length-range_with_len 1 (length c.procedures) in
      let i : ℕ = from.0 - 1 in
      let next : 1 + i ≡ from.0 = omega (arith, low) in
      let at = get_or_from_slice_get numbers i (1 + i) 0 (at-range 1 (length c.procedures) i (omega (arith, low, high, most, long))) in
      let passes : p from.0 ≡ true = ap p (sym (at ∙ next)) ∙ prefix_len_passes p numbers i 0 (omega (arith, low, high)) in
      let found = any-of (λ (q : ProcedureTree). bytes_eq q.name (numbered_name c from.0)) c.procedures passes in
      let own = at-in top.code.procedures found.0
      (subst (λ (code : SystemTree). Contains code.procedures found.0) (code-is a 0 None top top_known) found.1) in
      record { number = own.0; own = found.0; at = own.1; is = same_text found.0.name (numbered_name c from.0) (sym found.2) ∙ from.2 }

  head-name : (head : Head) → Contains (public_heads (coded_header top)) head → IsThere head.name
  head-name head has =
      let (j, q, at, is) = head-there a v 0 None refl head has in
      record { number = j; own = q; at = at; is = ap (λ (z : Head). z.name) is }

  abbrev last_heads : List Head
  last_heads = update_head (coded_header top) ∷ start_head (coded_header top) ∷ reset_head (coded_header top) ∷ []

  system-is : (end : List ℕ) → system_name (coded_header top).row ++ end ≡ (code_at a.codes 0).structure.name ++ end
  system-is end = ap (λ name. name ++ end) (ap system_name (row-is a 0 None top top_known) ∙ sym (struct-name a 0 None top top_known))

  pub update-there : IsThere ((code_at a.codes 0).structure.name ++ text "_update")
  update-there =
      subst IsThere (system-is (text "_update"))
      (head-name (update_head (coded_header top))
      (Contains-append_right (out_heads (coded_header top)) last_heads (update_head (coded_header top))
      (in-first (update_head (coded_header top)) (start_head (coded_header top) ∷ reset_head (coded_header top) ∷ []))))

  -- the start takes nothing
  pub start-call : (number : ℕ) →
      IsLawfulStmt (reach number 0) (call_top a.codes [] (length (outports a.root)) ((code_at a.codes 0).structure.name ++ text "_start"))
  start-call number =
      let head = start_head (coded_header top) in
      let (j, q, at, is) = head-there a v 0 None refl head (Contains-append_right (out_heads (coded_header top)) last_heads head
      (in-rest (update_head (coded_header top)) head (head ∷ reset_head (coded_header top) ∷ [])
      (in-first head (reset_head (coded_header top) ∷ [])))) in
      let none : q.params ≡ [] = ap (λ (z : Head). z.params) is in
      call-lawful number [] ((code_at a.codes 0).structure.name ++ text "_start") j q at
      (ap (λ (z : Head). z.name) is ∙ system-is (text "_start"))
      (λ p has other. absurd (in-none p (subst (λ ps. Contains ps p) none has)))
