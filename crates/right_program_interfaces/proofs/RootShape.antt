-- The root of an assembled program has a struct and two procedures of its own.
use Rattle.std.specs.Prelude.{◌≡◌, ℕ, suc, not, false, ◌+◌, ◌%◌, ◌/◌, ◌<◌, ◌≤◌, ◌^◌, List, [], ◌∷◌, ◌++◌, map, filter, length, slice_get, slice_index_or, Contains, IsPermutation, Some, None, pos, int_div, unsigned_abs, codes as text, bytes_eq, refl}
use Rattle.std.specs.List.{AllByRecursion, AllZip, enumerate_from, range_with_len}
use Rattle.std.proofs.Common.{sym, ap, ap₂, subst, ◌∙◌, arith}
use Rattle.std.proofs.lemmas.List.{map-append}
use Rattle.std.proofs.lemmas.List.Elements.{Contains-append_left, Contains-append_right}
use Rattle.modules_profile.specs.declared.LocalRow.{LocalRow}
use Rattle.modules_profile.specs.Headers.{header_functions}
use Rattle.modules_profile.specs.NodeFacts.{HeaderIsOfOwnRows}
use Rattle.modules_profile.specs.SystemHeader.{SystemHeader}
use Rattle.modules_profile.specs.Systems.{system_name}
use Rattle.modules_profile.proofs.lemmas.Members.{in-none, in-first, in-rest, of-map}
use Rattle.c_syntax.specs.declared.BinOp.TheVariants.{Add, Rem}
use Rattle.c_syntax.specs.declared.Leaf.TheVariants.{Own, Child}
use Rattle.c_syntax.specs.RootFields.{root_struct}
use Rattle.c_syntax.specs.Tree.{literal, read, binary, StmtTree, assign, stmts_of_list, list_of_stmts, ParamTree, ProcedureTree, StructTree}
use Rattle.c_semantics.specs.EvaluationLaws.{Gives}
use Rattle.c_semantics.specs.Values.{Function, Reads}
use Rattle.c_semantics.proofs.lemmas.WithoutSteps.{gives_literal, gives_read, gives_add, gives_rem}
use Rattle.emit_shape.specs.Heads.{Head, input_params, public_heads, out_head, out_heads, update_head, start_head, reset_head}
use Rattle.emit_shape.specs.NamedLeaf.{own, child}
use Rattle.emit_shape.specs.Names.{now_name, root_step_name}
use Rattle.emit_shape.specs.Programs.{struct_at, no_procedure, procedures_of}
use Rattle.emit_shape.specs.RootCode.{RootStep, calls, copies, moves_on, MovesOn, Does, is_literal_store, BeginsTick, copied_outputs, start_steps, tick_steps, HasRootCode}
use Rattle.emit_shape.specs.Slots.{value}
use Rattle.emit_shape.specs.SystemTree.{SystemTree}
use Rattle.emit_shape.specs.Assembled.{code_at, out_names, call_top, root_procedures}
use Rattle.right_relation.specs.RunTickLaws.{CycleIsOfLocals}
use Rattle.right_linking.specs.Parts.{Parts, program_of, diagram, CodesHaveViews, Views}
use Rattle.right_linking.specs.Places.{SystemsHavePlaces, RootHasPlaces}
use Rattle.right_linking.proofs.lemmas.AssembledNames.{struct-name}
use Rattle.right_linking.proofs.lemmas.AssembledPlaces.{append-append, code-is}
use Rattle.right_program_interfaces.specs.Shapes.{RootHasShape}
use Rattle.right_program_interfaces.proofs.Functions.{out-names-are}
use Rattle.right_program_interfaces.proofs.Lists.{zip-maps, zip-append, map-map}
use Rattle.right_program_interfaces.proofs.RootFields.{bs, made_row, size, top-outs, root-here, root-fields, own-now, own-out, own-top, value-top}
use Rattle.right_program_interfaces.proofs.RootCalls.{header, seen, header-seen, step_params, params-same, input-there, taken-there, call-does}
use Rattle.right_program_interfaces.proofs.StandingCode.{procedures-root}

list-of : (xs : List StmtTree) → list_of_stmts (stmts_of_list xs) ≡ xs
list-of [] = refl
list-of (x ∷ xs) = ap (λ more. x ∷ more) (list-of xs)

-- the move to the next tick, whatever functions there are
next-tick : (functions : List Function) (t hyper : ℕ) → t < hyper → hyper ≤ 2 ^ 30 →
    Gives functions (record { leaf = λ leaf. pos t; array = λ f. [] }) 0 (binary Rem (binary Add (read (Own 0)) (literal (pos 1)))
    (literal (pos hyper))) (pos ((t + 1) % hyper))
next-tick functions t hyper less short =
    let reads : Reads = record { leaf = λ leaf. pos t; array = λ f. [] } in
    gives_rem functions reads 0 (binary Add (read (Own 0)) (literal (pos 1))) (literal (pos hyper)) (pos (t + 1)) hyper
    (gives_add functions reads 0 (read (Own 0)) (literal (pos 1)) (pos t) (pos 1) (gives_read functions reads 0 (Own 0))
    (gives_literal functions reads 0 (pos 1)) (omega (arith, less, short)))
    (gives_literal functions reads 0 (pos hyper)) (omega (arith, less)) (quotient (t + 1) (omega (arith, less, short)))
  where
    quotient : (n : ℕ) → n ≤ 2 ^ 30 → unsigned_abs (int_div (pos n) (pos hyper)) < 2 ^ 63
    quotient n small = let at_most : n / hyper ≤ n = omega (arith, less) in omega (arith, at_most, small)

module _ (places : SystemsHavePlaces) (root_places : RootHasPlaces) (headers : HeaderIsOfOwnRows) (cycles : CycleIsOfLocals) (a : Parts)
    (v : Views a) where
  abbrev ports : List ℕ
  ports = bs places root_places a v

  abbrev many : ℕ
  many = size places root_places a v

  abbrev top : SystemHeader
  top = seen places root_places headers a v

  abbrev params : List ParamTree
  params = step_params places root_places headers a v

  abbrev start : ProcedureTree
  start = slice_index_or (root_procedures a.codes a.root a.hyper) 0 no_procedure

  abbrev step : ProcedureTree
  step = slice_index_or (root_procedures a.codes a.root a.hyper) 1 no_procedure

  abbrev DoesStep : RootStep → StmtTree → Type 0
  DoesStep = Does (program_of a) a.hyper step

  -- ---- Heads of `top`

  known-head : (head : Head) → Contains (public_heads top) head → Contains (public_heads (header places root_places headers a v)) head
  known-head head has = subst (λ (h : SystemHeader). Contains (public_heads h) head) (sym (header-seen places root_places headers a v)) has

  out-known : (head : Head) → Contains (out_heads top) head → Contains (public_heads (header places root_places headers a v)) head
  out-known head has = known-head head (Contains-append_left (out_heads top) (update_head top ∷ start_head top ∷ reset_head top ∷ []) head
      has)

  update-known : Contains (public_heads (header places root_places headers a v)) (update_head top)
  update-known = known-head (update_head top)
      (Contains-append_right (out_heads top) (update_head top ∷ start_head top ∷ reset_head top ∷ []) (update_head top)
      (in-first (update_head top) (start_head top ∷ reset_head top ∷ [])))

  start-known : Contains (public_heads (header places root_places headers a v)) (start_head top)
  start-known = known-head (start_head top)
      (Contains-append_right (out_heads top) (update_head top ∷ start_head top ∷ reset_head top ∷ []) (start_head top)
      (in-rest (update_head top) (start_head top) (start_head top ∷ reset_head top ∷ []) (in-first (start_head top) (reset_head top ∷ []))))

  -- ---- The statements of a tick

  abbrev calling : List ℕ → StmtTree
  calling name = call_top a.codes params many name

  abbrev copying : ℕ × ℕ → StmtTree
  copying e = assign 0 (e.0 + 1) (read (Child (many + 1) e.1))

  abbrev copied : List StmtTree
  copied = map copying (enumerate_from 0 (code_at a.codes 0).outputs)

  abbrev moving : StmtTree
  moving = assign 0 0 (binary Rem (binary Add (read (Own 0)) (literal (pos 1))) (literal (pos a.hyper)))

  abbrev named : List ℕ → List ℕ
  named end = (code_at a.codes 0).structure.name ++ end

  top-named : (end : List ℕ) → named end ≡ system_name None ++ end
  top-named end = ap (λ name. name ++ end) (struct-name a 0 None (v.at None) (v.each 0 None refl))

  top-code : code_at a.codes 0 ≡ (v.at None).code
  top-code = code-is a 0 None (v.at None) (v.each 0 None refl)

  body-is : list_of_stmts step.body
      ≡ (map calling (out_names (code_at a.codes 0)) ++ (calling (named (text "_update")) ∷ copied)) ++ (moving ∷ [])
  body-is =
      list-of (map calling (out_names (code_at a.codes 0) ++ (named (text "_update") ∷ [])) ++ copied ++ (moving ∷ []))
      ∙ ap (λ xs. (xs ++ copied) ++ (moving ∷ []))
      (map-append calling (out_names (code_at a.codes 0)) (named (text "_update") ∷ []))
      ∙ ap (λ xs. xs ++ (moving ∷ [])) (append-append (map calling (out_names (code_at a.codes 0)))
      (calling (named (text "_update")) ∷ []) copied)

  names-are : out_names (code_at a.codes 0) ≡ map (λ (h : Head). h.name) (out_heads top)
  names-are =
      ap out_names top-code ∙ out-names-are a v 0 None refl
      ∙ ap (λ (h : SystemHeader). map (λ (z : Head). z.name) (out_heads h)) (header-seen places root_places headers a v)

  -- each function is called
  functions-called : AllZip DoesStep (map calls (out_heads top)) (map calling (out_names (code_at a.codes 0)))
  functions-called =
      subst (λ ys. AllZip DoesStep (map calls (out_heads top)) ys)
      (sym (ap (map calling) names-are ∙ map-map calling (λ (h : Head). h.name) (out_heads top)))
      (zip-maps DoesStep calls (λ (h : Head). calling h.name) (out_heads top)
      (λ head has.
      let made = of-map (out_head top) (range_with_len 1 (length (header_functions top))) head has in
      call-does places root_places headers a v params head head.name (out-known head has) refl
      (subst (λ (z : Head). (w : ParamTree) → Contains z.params w → bytes_eq w.name now_name ≡ false →
      Contains (map (λ (q : ParamTree). q.name) params) w.name) made.2
      (taken-there places root_places headers a v made.0))))

  -- a procedure, as one of the root's
  abbrev of_root : ProcedureTree → ProcedureTree
  of_root q = record { name = q.name; private = q.private; of = length a.codes; params = q.params; body = q.body }

  -- each output is copied
  outputs-copied : (q : ProcedureTree) (n : ℕ) (cs ks : List ℕ) → ((k b : ℕ) → slice_get cs k ≡ Some b → slice_get ports (n + k) ≡ Some b) →
      AllZip (λ (r : LocalRow) k. slice_get (v.at None).slots k ≡ Some (value r)) (map (made_row places root_places a v) cs) ks →
      AllZip (Does (program_of a) a.hyper (of_root q)) (map (λ (o : ℕ × ℕ). copies o.0 o.1) (enumerate_from (n + 1) cs))
      (map copying (enumerate_from n ks))
  outputs-copied q n [] [] within all = tt
  outputs-copied q n [] (k ∷ ks) within all = absurd all
  outputs-copied q n (c ∷ cs) [] within all = absurd all
  outputs-copied q n (c ∷ cs) (k ∷ ks) within all =
      let none_more : n + 0 ≡ n = omega arith in (
        (
          own-out places root_places a v n c (ap (slice_get ports) (sym none_more) ∙ within 0 c refl),
          (Child (many + 1) k, refl, ap₂ child (own-top places root_places a v) (value-top places root_places a v k c all.0)),
        ),
        outputs-copied q (n + 1) cs ks (λ i b at. (let next : n + 1 + i ≡ n + suc i = omega arith in ap (slice_get ports) next)
            ∙ within (suc i) b at) all.1,
      )

  all-copied : (q : ProcedureTree) → AllZip (Does (program_of a) a.hyper (of_root q)) (copied_outputs (diagram a)) copied
  all-copied q =
      subst (λ ks. AllZip (Does (program_of a) a.hyper (of_root q)) (copied_outputs (diagram a)) (map copying (enumerate_from 0 ks)))
      (ap (λ (z : SystemTree). z.outputs) (sym top-code))
      (outputs-copied q 0 ports (v.at None).code.outputs
      (λ k b at. (let none_more : 0 + k ≡ k = omega arith in ap (slice_get ports) none_more) ∙ at)
      (subst (λ rs. AllZip (λ (r : LocalRow) k. slice_get (v.at None).slots k ≡ Some (value r)) rs (v.at None).code.outputs)
      (top-outs places root_places a v) (v.each 0 None refl).shape.places))

  -- ---- The statements of a start

  abbrev starting : StmtTree
  starting = call_top a.codes [] many (named (text "_start"))

  abbrev beginning : StmtTree
  beginning = assign 0 0 (literal (pos 0))

  tick-first : (es : List (ℕ × ℕ)) → filter is_literal_store (map copying es ++ (beginning ∷ [])) ≡ beginning ∷ []
  tick-first [] = refl
  tick-first (e ∷ es) = tick-first es

  copies-first : (es : List (ℕ × ℕ)) → filter (λ st. not (is_literal_store st)) (map copying es ++ (beginning ∷ [])) ≡ map copying es
  copies-first [] = refl
  copies-first (e ∷ es) = ap (λ more. copying e ∷ more) (copies-first es)

  start-is : list_of_stmts start.body ≡ starting ∷ (copied ++ (beginning ∷ []))
  start-is = list-of (starting ∷ (copied ++ (beginning ∷ [])))

  one-number : filter is_literal_store (list_of_stmts start.body) ≡ beginning ∷ []
  one-number = ap (filter is_literal_store) start-is ∙ tick-first (enumerate_from 0 (code_at a.codes 0).outputs)

  the-rest : filter (λ st. not (is_literal_store st)) (list_of_stmts start.body) ≡ starting ∷ copied
  the-rest =
      ap (filter (λ st. not (is_literal_store st))) start-is
      ∙ ap (λ more. starting ∷ more) (copies-first (enumerate_from 0 (code_at a.codes 0).outputs))

  moved-on : MovesOn (program_of a) a.hyper step (binary Rem (binary Add (read (Own 0)) (literal (pos 1))) (literal (pos a.hyper)))
  moved-on =
      let cycle = cycles a.model None (v.at None).local a.can.resolved (v.each 0 None refl).local in
      let short : a.hyper ≤ 2 ^ 30 = omega (arith, cycle.short, a.can.is_cycle) in
      record {
        reads = (ap own (own-now places root_places a v), tt);
        next = λ functions t less. (0, next-tick functions t a.hyper less short 0);
      }

  -- ---- The whole

  pub root-code : HasRootCode (program_of a) (diagram a) a.hyper
  root-code =
      let at : root_struct (program_of a) ≡ length a.codes = (root_places a).struct in
      record {
        profile = (v.at None).profile;
        is_profile = (v.each 0 None refl).profile;
        name = ap (λ k. (struct_at (program_of a) k).name) at ∙ ap (λ (st : StructTree). st.name) (root-here places root_places a v);
        fields = root-fields places root_places a v;
        start = start;
        step = step;
        only = subst (IsPermutation (start ∷ step ∷ [])) (sym (ap (procedures_of (program_of a)) at ∙ procedures-root a))
            (record { moves = []; below = tt; is = refl });
        start_head = refl;
        step_head = ap (λ ps. record { name = root_step_name; private = false; params = ps }) (params-same places root_places headers a v);
        begins = subst (λ n. 0 < n) (sym (ap length one-number)) (omega arith);
        tick_alone = subst (AllByRecursion (BeginsTick (program_of a) start)) (sym one-number) ((own-now places root_places a v, refl), tt);
        starts = subst (AllZip (Does (program_of a) a.hyper start) (start_steps (diagram a) top)) (sym the-rest) (
          call-does places root_places headers a v [] (start_head top) (named (text "_start")) start-known (top-named (text "_start"))
              (λ w has other. absurd (in-none w has)),
          all-copied start,
        );
        does = subst (AllZip DoesStep (tick_steps (diagram a) top)) (sym body-is)
            (zip-append DoesStep (map calls (out_heads top) ++ (calls (update_head top) ∷ copied_outputs (diagram a)))
            (map calling (out_names (code_at a.codes 0)) ++ (calling (named (text "_update")) ∷ copied)) (moves_on ∷ []) (moving ∷ [])
            (zip-append DoesStep (map calls (out_heads top)) (map calling (out_names (code_at a.codes 0)))
            (calls (update_head top) ∷ copied_outputs (diagram a)) (calling (named (text "_update")) ∷ copied)
            functions-called (
              call-does places root_places headers a v params (update_head top) (named (text "_update")) update-known
                  (top-named (text "_update"))
                  (input-there places root_places headers a v (input_params top) (λ w has. has)),
              all-copied step,
            ))
            ((own-now places root_places a v, moved-on), tt));
      }

pub root_has_shape : CodesHaveViews → SystemsHavePlaces → RootHasPlaces → HeaderIsOfOwnRows → CycleIsOfLocals → RootHasShape
root_has_shape views places root_places headers cycles a = root-code places root_places headers cycles a (views a)
