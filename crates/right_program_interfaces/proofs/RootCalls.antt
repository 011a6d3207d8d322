-- The calls of the root on `top`: each passes the tick and the root's own inputs by name.
use Rattle.std.specs.Prelude.{◌≡◌, ℕ, suc, ◌+◌, Bool, true, false, if◌then◌else◌, List, [], ◌∷◌, ◌++◌, map, filter, zip, find, length, slice_get, Contains, Some, None, option_map, unwrap_or, bytes_eq, refl}
use Rattle.std.specs.List.{AllZip, position_from, range_with_len}
use Rattle.std.specs.Cmp.Lexicographic.{same_text}
use Rattle.std.proofs.Common.{sym, ap, ap₂, subst, ◌∙◌, arith, inl, inr, true≢false}
use Rattle.base_core.specs.declared.Port.{Port}
use Rattle.base_core.specs.declared.Port.TheVariants.{Number}
use Rattle.base_fixed_point.specs.declared.FixType.{FixType}
use Rattle.diagram_meaning.specs.Rows.{row_at}
use Rattle.diagram_blocks.specs.Kinds.{port_of}
use Rattle.diagram_meaning.specs.Diagram.{type_at}
use Rattle.modules_profile.specs.declared.LocalRow.{LocalRow}
use Rattle.modules_profile.specs.Headers.{header_of, header_function, ports_of_header}
use Rattle.modules_profile.specs.Locals.{own_header}
use Rattle.modules_profile.specs.NodeFacts.{HeaderIsOfOwnRows}
use Rattle.base_core.specs.Ports.{bit_of, has_bit}
use Rattle.modules_profile.specs.SystemHeader.{SystemHeader}
use Rattle.modules_profile.specs.Systems.{system_name}
use Rattle.modules_profile.proofs.lemmas.Members.{in-first, in-rest, in-cases, in-map, in-at, of-map, of-filter, of-zip}
use Rattle.c_syntax.specs.declared.Leaf.TheVariants.{Param, Own}
use Rattle.c_syntax.specs.Tree.{ExprTree, read, exprs_of_list, list_of_exprs, ParamTree, ProcedureTree}
use Rattle.emit_shape.specs.CodeNames.{no_param, IsReadOf}
use Rattle.emit_shape.specs.Heads.{Head, head_of, now_param, input_params, public_heads, out_head}
use Rattle.emit_shape.specs.LocalShape.{own_position}
use Rattle.emit_shape.specs.NamedLeaf.{NamedLeaf, param, own}
use Rattle.emit_shape.specs.Names.{container, now_name, input_name, port_name}
use Rattle.emit_shape.specs.Programs.{procedure_at, names_in}
use Rattle.emit_shape.specs.RootCode.{IsPassed, tick, input}
use Rattle.emit_shape.specs.SystemTree.{SystemTree}
use Rattle.emit_shape.specs.Assembled.{code_at, procedure_position, first_procedure, root_value, root_params}
use Rattle.right_linking.specs.Parts.{Parts, program_of, diagram, coded_header, Views}
use Rattle.right_linking.specs.Places.{SystemsHavePlaces, RootHasPlaces}
use Rattle.right_linking.proofs.lemmas.AssembledNames.{bytes-same, own-names-differ, own-place, head-there}
use Rattle.right_linking.proofs.lemmas.AssembledPlaces.{code-is}
use Rattle.right_program_interfaces.proofs.Lists.{found-by-name, position-named}
use Rattle.right_program_interfaces.proofs.RootFields.{is, made_row, size, ins-are, in-port, own-now, own-top}
use Rattle.right_program_interfaces.proofs.StandingCode.{procedure-here}

module _ (places : SystemsHavePlaces) (root_places : RootHasPlaces) (headers : HeaderIsOfOwnRows) (a : Parts) (v : Views a) where
  abbrev pub header : SystemHeader
  header = coded_header (v.at None)

  abbrev pub seen : SystemHeader
  seen = header_of (diagram a) None (v.at None).profile

  pub header-seen : header ≡ seen
  header-seen =
      let known = (v.each 0 None refl).local in
      ap (λ l. own_header l (v.at None).profile) known.is_local ∙ headers (diagram a) a.model.times.delays None known.headers
      (v.at None).profile

  -- ---- The root's parameters

  abbrev pub step_params : List ParamTree
  step_params = root_params a.codes a.root a.hyper

  abbrev param_of : LocalRow → ParamTree
  param_of r = record { name = input_name (port_of r.kind); type = container r.out }

  abbrev port_param : Port × FixType → ParamTree
  port_param e = record { name = port_name seen.control e.0; type = container e.1 }

  by-port : (n : ℕ) (cs : List ℕ) → ((k b : ℕ) → slice_get cs k ≡ Some b → port_of (row_at (diagram a).rows b).kind ≡ n + k) →
      map param_of (map (made_row places root_places a v) cs)
      ≡ map port_param (zip (map Number (range_with_len n (length (map (type_at (diagram a).types) cs))) ++ [])
      (map (type_at (diagram a).types) cs ++ []))
  by-port n [] ports = refl
  by-port n (c ∷ cs) ports =
      let none_more : n + 0 ≡ n = omega arith in
      ap₂ (λ x xs. x ∷ xs) (ap (λ k. record { name = input_name k; type = container (type_at (diagram a).types c) })
      (ports 0 c refl ∙ none_more))
      (by-port (n + 1) cs (λ k b at. ports (suc k) b at ∙ (let next : n + suc k ≡ n + 1 + k = omega arith in next)))

  pub params-same : step_params ≡ input_params seen
  params-same =
      ap (map param_of) (ins-are places root_places a v)
      ∙ by-port 1 (is places root_places a v) (λ k b at. in-port places root_places a v k b at
      ∙ (let turned : k + 1 ≡ 1 + k = omega arith in turned))

  -- ---- What is passed

  abbrev pub Passed : List ParamTree → ParamTree → ExprTree → Type 0
  Passed params wanted e = (what : NamedLeaf) × IsPassed wanted.name what × IsReadOf (names_in (program_of a) (length a.codes)) params
      what e

  passes : (params : List ParamTree) (wanted : ParamTree) →
      (bytes_eq wanted.name now_name ≡ false → Contains (map (λ (q : ParamTree). q.name) params) wanted.name) →
      Passed params wanted (root_value a.codes params wanted)
  passes params wanted there = by (bytes_eq wanted.name now_name) refl
    where
      by : (t : Bool) → bytes_eq wanted.name now_name ≡ t →
          Passed params wanted (if t then read (Own 0) else read
          (Param (unwrap_or (position_from (λ (r : ParamTree). bytes_eq r.name wanted.name) 0 params) 0)))
      by true e = (own now_name, tick (same_text wanted.name now_name (sym e)), (Own 0, refl, ap own (own-now places root_places a v)))
      by false e = (
        param wanted.name,
        input,
        (
          Param (unwrap_or (position_from (λ (r : ParamTree). bytes_eq r.name wanted.name) 0 params) 0),
          refl,
          ap param (position-named (λ (q : ParamTree). q.name) no_param params wanted.name (there e)),
        ),
      )

  all-passed : (params ws : List ParamTree) → ((w : ParamTree) → Contains ws w → bytes_eq w.name now_name ≡ false →
      Contains (map (λ (q : ParamTree). q.name) params) w.name) →
      AllZip (Passed params) ws (list_of_exprs (exprs_of_list (map (root_value a.codes params) ws)))
  all-passed params [] there = tt
  all-passed params (w ∷ ws) there = (
    passes params w (there w (in-first w ws)),
    all-passed params ws
        (λ z has. there z (in-rest w z ws has)),
  )

  -- the tick, and inputs of the root
  pub input-there : (ws : List ParamTree) → ((w : ParamTree) → Contains ws w → Contains (input_params seen) w) →
      (w : ParamTree) → Contains (now_param ∷ ws) w → bytes_eq w.name now_name ≡ false →
      Contains (map (λ (q : ParamTree). q.name) step_params) w.name
  input-there ws inputs w has other = elim (in-cases now_param w ws has) [
    | inl same ↦ absurd (true≢false (sym (bytes-same w.name now_name (ap (λ (q : ParamTree). q.name) (sym same))) ∙ other))
    | inr more ↦ in-map (λ (q : ParamTree). q.name) step_params w (subst (λ ps. Contains ps w) (sym params-same) (inputs w more))
  ]

  pub taken-there : (j : ℕ) (w : ParamTree) → Contains (out_head seen j).params w → bytes_eq w.name now_name ≡ false →
      Contains (map (λ (q : ParamTree). q.name) step_params) w.name
  taken-there j =
      let kept = filter (λ (e : Port × ParamTree). has_bit (header_function seen j).inputs (bit_of e.0))
      (zip (ports_of_header seen) (input_params seen)) in
      input-there (map (λ (e : Port × ParamTree). e.1) kept)
      (λ w has.
      let from = of-map (λ (e : Port × ParamTree). e.1) kept w has in
      let passed = of-filter (λ (e : Port × ParamTree). has_bit (header_function seen j).inputs (bit_of e.0))
      (zip (ports_of_header seen) (input_params seen)) from.0 from.1 in
      let pair = of-zip (ports_of_header seen) (input_params seen) from.0 passed.0 in
      subst (Contains (input_params seen)) from.2 (in-at (input_params seen) pair.0 from.0.1 pair.2))

  -- ---- A call

  abbrev top_code : SystemTree
  top_code = (v.at None).code

  top-code : code_at a.codes 0 ≡ top_code
  top-code = code-is a 0 None (v.at None) (v.each 0 None refl)

  abbrev pub called_params : List ℕ → List ParamTree
  called_params name = unwrap_or
      (option_map (λ (q : ProcedureTree). q.params) (find (λ (q : ProcedureTree). bytes_eq q.name name) (code_at a.codes 0).procedures)) []

  abbrev CallsRight : List ParamTree → Head → List ℕ → Type 0
  CallsRight params head name =
      (head_of (procedure_at (program_of a) (procedure_position a.codes 0 name)) ≡ head)
      × ((names_in (program_of a) (length a.codes)).own (size places root_places a v + 1) ≡ system_name None)
      × AllZip (Passed params) head.params (list_of_exprs (exprs_of_list (map (root_value a.codes params) (called_params name))))

  by-head : (params : List ParamTree) (head : Head) → Contains (public_heads header) head →
      ((w : ParamTree) → Contains head.params w → bytes_eq w.name now_name ≡ false →
      Contains (map (λ (q : ParamTree). q.name) params) w.name) → CallsRight params head head.name
  by-head params head has there =
      let (j, q, at, same) = head-there a v 0 None refl head has in
      let name : q.name ≡ head.name = ap (λ (z : Head). z.name) same in
      let position : procedure_position a.codes 0 head.name ≡ first_procedure a.codes 0 + j =
      ap (λ (z : SystemTree). first_procedure a.codes 0 + own_position z head.name) top-code
      ∙ ap (λ n. first_procedure a.codes 0 + n) (ap (own_position top_code) (sym name) ∙ own-place a v 0 None refl j q at) in
      let found : called_params head.name ≡ head.params =
      ap (λ (z : SystemTree). unwrap_or (option_map (λ (q : ProcedureTree). q.params)
      (find (λ (q : ProcedureTree). bytes_eq q.name head.name) z.procedures)) []) top-code
      ∙ ap (λ n. unwrap_or (option_map (λ (q : ProcedureTree). q.params)
      (find (λ (q : ProcedureTree). bytes_eq q.name n) top_code.procedures)) []) (sym name)
      ∙ ap (λ o. unwrap_or (option_map (λ (q : ProcedureTree). q.params) o) [])
      (found-by-name (λ (z : ProcedureTree). z.name) top_code.procedures j q (own-names-differ a v 0 None refl) at)
      ∙ ap (λ (z : Head). z.params) same in (
        ap (λ k. head_of (procedure_at (program_of a) k)) position ∙ ap head_of (procedure-here places a v 0 None refl j q at) ∙ same,
        own-top places root_places a v,
        subst (λ ps. AllZip (Passed params) head.params (list_of_exprs (exprs_of_list (map (root_value a.codes params) ps)))) (sym found)
            (all-passed params head.params there),
      )

  -- by a name that is that of the head
  pub call-does : (params : List ParamTree) (head : Head) (name : List ℕ) → Contains (public_heads header) head → name ≡ head.name →
      ((w : ParamTree) → Contains head.params w → bytes_eq w.name now_name ≡ false →
      Contains (map (λ (q : ParamTree). q.name) params) w.name) → CallsRight params head name
  call-does params head name has same there = subst (CallsRight params head) (sym same) (by-head params head has there)
