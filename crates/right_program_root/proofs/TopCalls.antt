-- What the root's step calls: the functions of `top` in order and then its update, with the arguments of the tick.
use Rattle.std.specs.Prelude.{◌≡◌, ℕ, zero, suc, ◌+◌, ◌-◌, ◌%◌, ◌<◌, ◌≤◌, true, List, [], ◌∷◌, ◌++◌, map, zip, length, slice_get, Contains, Some, None, ℤ, pos, ⊤}
use Rattle.std.specs.List.{AllByRecursion, AllZip, range_with_len}
use Rattle.std.proofs.Common.{sym, ap, ap₂, subst, ◌∙◌, arith}
use Rattle.std.proofs.lemmas.List.{append-nil}
use Rattle.std.proofs.lemmas.Option.{get_or_from_slice_get, same_Some, none-some}
use Rattle.base_core.specs.declared.Port.TheVariants.{Number}
use Rattle.base_fixed_point.specs.declared.FixType.{FixType}
use Rattle.base_fixed_point.specs.Conversion.{InType}
use Rattle.diagram_meaning.specs.Rows.{inports_of}
use Rattle.diagram_meaning.specs.Diagram.{type_at}
use Rattle.modules_profile.specs.SystemHeader.{SystemHeader}
use Rattle.modules_profile.specs.Headers.{header_of, header_functions, header_function, ports_of_header, taken}
use Rattle.modules_profile.specs.NodeFacts.{HeaderIsOfOwnRows}
use Rattle.modules_profile.proofs.lemmas.Members.{at-map, at-range}
use Rattle.c_syntax.specs.declared.CType.TheVariants.{I32}
use Rattle.c_syntax.specs.declared.Target.TheVariants.{Child}
use Rattle.c_syntax.specs.Tree.{ExprTrees, exprs_of_list, call, ParamTree}
use Rattle.c_semantics.specs.Cells.{Cells, number_at}
use Rattle.c_semantics.specs.Values.{gives, reads, is_in_type, Function}
use Rattle.base_core.specs.Numbers.{int_at}
use Rattle.c_semantics.specs.Machine.{arguments}
use Rattle.emit_shape.specs.Names.{out_name, update_name, start_name}
use Rattle.emit_shape.specs.Heads.{Head, public_heads, out_head, update_head, start_head, now_param, input_params}
use Rattle.emit_shape.specs.Programs.{procedure_place}
use Rattle.emit_shape.specs.Assembled.{call_top, first_procedure, root_params, root_value}
use Rattle.right_relation.specs.Instances.{Act, out, update, reset, OuterTick, nothing_offered, offered_for}
use Rattle.right_relation.specs.Serving.{act_values, Takes, IsOfferOf}
use Rattle.right_linking.specs.Parts.{Parts, program_of, diagram, Views}
use Rattle.right_linking.specs.Places.{SystemsHavePlaces}
use Rattle.right_linking.specs.Offers.{offered_by, offer_of}
use Rattle.right_linking.specs.Lives.{whole_tick}
use Rattle.right_program_root.proofs.PortedRows.{mapped-length}
use Rattle.right_program_root.proofs.TopCode.{out-shown, update-shown, params-found, position-is, place-below}
use Rattle.right_program_root.proofs.TopFacts.{h, row, header-is, ins, in-ports, few-ins, ins-many, functions-short}
use Rattle.right_program_root.proofs.RootArguments.{taken-map, taken-each, passed, Fits, passes, top_param, all-passed, all-fit}

-- the head of the procedure of an act; a reset isn't called
abbrev pub act_head : SystemHeader → Act → Head
act_head h (out j) = out_head h j
act_head h update = update_head h
act_head h reset = start_head h

-- its name in the program
abbrev pub act_name : Act → List ℕ
act_name (out j) = out_name None j
act_name update = update_name None
act_name reset = start_name None

-- a function that is there, or the update
abbrev pub IsCall : SystemHeader → Act → Type 0
IsCall h (out j) = (0 < j) × (j ≤ length (header_functions h))
IsCall h update = ⊤
IsCall h reset = ⊥

zip-both : {A B : Type 0} (R : A → B → Type 0) (xs : List A) (ys : List B) (k : ℕ) (x : A) (y : B) → AllZip R xs ys →
    slice_get xs k ≡ Some x → slice_get ys k ≡ Some y → R x y
zip-both R [] ys k x y all at there = absurd (none-some x at)
zip-both R (z ∷ xs) [] k x y all at there = absurd all
zip-both R (z ∷ xs) (w ∷ ys) zero x y all at there = subst (λ t. R t y) (same_Some z x at) (subst (R z) (same_Some w y there) all.0)
zip-both R (z ∷ xs) (w ∷ ys) (suc k) x y all at there = zip-both R xs ys k x y all.1 at there

module _ (a : Parts) (v : Views a) where
  abbrev pub number : Act → ℕ
  number act = procedure_place (program_of a) (act_name act)

  abbrev pub given : Act → ExprTrees
  given act = exprs_of_list (map (root_value a.codes (root_params a.codes a.root a.hyper)) (act_head (h a v) act).params)

  head-shown : (act : Act) → IsCall (h a v) act → Contains (public_heads (h a v)) (act_head (h a v) act)
  head-shown (out j) (some, most) = out-shown a v (row a v) (functions-short a v) j some most
  head-shown update is = update-shown a v (row a v) (functions-short a v)
  head-shown reset is = absurd is

  head-name : (act : Act) → (act_head (h a v) act).name ≡ act_name act
  head-name (out j) = ap (λ o. out_name o j) (row a v)
  head-name update = ap update_name (row a v)
  head-name reset = ap start_name (row a v)

  -- a call of the root is that of the act
  pub call-is : SystemsHavePlaces → (outputs : ℕ) (act : Act) → IsCall (h a v) act →
      call_top a.codes (root_params a.codes a.root a.hyper) outputs (act_name act) ≡ call 0 (number act) (Child (outputs + 1)) (given act)
  call-is places outputs act is =
      ap (call_top a.codes (root_params a.codes a.root a.hyper) outputs) (sym (head-name act))
      ∙ ap₂ (λ k qs. call 0 k (Child (outputs + 1)) (exprs_of_list (map (root_value a.codes (root_params a.codes a.root a.hyper)) qs)))
      (position-is a v (row a v) (functions-short a v) places (act_head (h a v) act) (head-shown act is)
      ∙ ap (procedure_place (program_of a)) (head-name act))
      (params-found a v (row a v) (functions-short a v) (act_head (h a v) act) (head-shown act is))

  -- it is a call of a procedure before those of the root
  pub call-below : SystemsHavePlaces → (act : Act) → IsCall (h a v) act →
      number act < length (v.at None).code.procedures + first_procedure a.codes 0
  call-below places act is =
      subst (λ name. procedure_place (program_of a) name < length (v.at None).code.procedures + first_procedure a.codes 0) (head-name act)
      (place-below a v (row a v) (functions-short a v) places (act_head (h a v) act) (head-shown act is))

  -- so are all of a tick
  pub calls-are : SystemsHavePlaces → (outputs k m : ℕ) → 0 < k → k + m ≤ suc (length (header_functions (h a v))) →
      map (call_top a.codes (root_params a.codes a.root a.hyper) outputs)
      (map (out_name None) (range_with_len k m) ++ update_name None ∷ [])
      ≡ map (λ act. call 0 (number act) (Child (outputs + 1)) (given act)) (whole_tick (range_with_len k m))
  calls-are places outputs k zero some most = ap (λ s. s ∷ []) (call-is places outputs update tt)
  calls-are places outputs k (suc m) some most =
      ap₂ (λ s ss. s ∷ ss) (call-is places outputs (out k) (some, omega (arith, most)))
      (calls-are places outputs (k + 1) m (omega arith) (omega (arith, most)))

  -- what is offered for an act is the procedure of its name
  pub offered-is : (act : Act) → IsCall (h a v) act → offered_for (offer_of a v None) act ≡ offered_by (program_of a) (act_name act)
  offered-is (out j) (some, most) =
      let place : 1 + (j - 1) ≡ j = omega (arith, some) in
      get_or_from_slice_get (offer_of a v None).outs (j - 1) (offered_by (program_of a) (out_name (h a v).row (1 + (j - 1))))
      nothing_offered
      (at-map (λ i. offered_by (program_of a) (out_name (h a v).row i)) (range_with_len 1 (length (header_functions (h a v)))) (j - 1)
      (1 + (j - 1)) (at-range 1 (length (header_functions (h a v))) (j - 1) (omega (arith, some, most))))
      ∙ ap₂ (λ o i. offered_by (program_of a) (out_name o i)) (row a v) place
  offered-is update is = ap (λ o. offered_by (program_of a) (update_name o)) (row a v)
  offered-is reset is = absurd is

  -- it takes what its head says
  pub takes : IsOfferOf (h a v) (offer_of a v None) → (act : Act) → IsCall (h a v) act → Takes (offered_by (program_of a) (act_name act))
      (act_head (h a v) act)
  takes offers (out j) (some, most) =
      let place : 1 + (j - 1) ≡ j = omega (arith, some) in
      let listed : slice_get (offer_of a v None).outs (j - 1) ≡ Some (offered_by (program_of a) (out_name (h a v).row (1 + (j - 1)))) =
      at-map (λ i. offered_by (program_of a) (out_name (h a v).row i)) (range_with_len 1 (length (header_functions (h a v)))) (j - 1)
      (1 + (j - 1)) (at-range 1 (length (header_functions (h a v))) (j - 1) (omega (arith, some, most))) in
      let head : slice_get (map (out_head (h a v)) (range_with_len 1 (length (header_functions (h a v))))) (j - 1) ≡ Some
      (out_head (h a v) (1 + (j - 1))) =
      at-map (out_head (h a v)) (range_with_len 1 (length (header_functions (h a v)))) (j - 1) (1 + (j - 1))
      (at-range 1 (length (header_functions (h a v))) (j - 1) (omega (arith, some, most))) in
      subst (λ i. Takes (offered_by (program_of a) (out_name None i)) (out_head (h a v) i)) place
      (subst (λ o. Takes (offered_by (program_of a) (out_name o (1 + (j - 1)))) (out_head (h a v) (1 + (j - 1)))) (row a v)
      (zip-both Takes (offer_of a v None).outs (map (out_head (h a v)) (range_with_len 1 (length (header_functions (h a v))))) (j - 1)
      (offered_by (program_of a) (out_name (h a v).row (1 + (j - 1)))) (out_head (h a v) (1 + (j - 1))) offers.outs listed head))
  takes offers update is = subst (λ o. Takes (offered_by (program_of a) (update_name o)) (update_head (h a v))) (row a v) offers.update
  takes offers reset is = absurd is

  -- ---- The arguments of a tick

  module _ (own : HeaderIsOfOwnRows) (outer : OuterTick) (values : List ℤ) (now : ℕ) (is_now : is_in_type I32 (pos now) ≡ true)
      (inputs : outer.inputs ≡ map (λ k. int_at values (k - 1)) (range_with_len 1 (length (inports_of (diagram a).rows None))))
      (controls : outer.controls ≡ [])
      (typed : AllZip InType (h a v).inputs outer.inputs) where
    abbrev H : SystemHeader
    H = header_of (diagram a) None (v.at None).profile

    abbrev given_to : ParamTree → ℤ
    given_to = passed values (root_params a.codes a.root a.hyper) (pos now)

    abbrev types : List FixType
    types = H.inputs ++ H.controls

    many : length types ≡ length (inports_of (diagram a).rows None)
    many = ap length (append-nil H.inputs) ∙ mapped-length (type_at (diagram a).types) (inports_of (diagram a).rows None)

    by-types : input_params H ≡ map top_param (zip (map Number (range_with_len 1 (length types)) ++ []) types)
    by-types = ap (λ n. map top_param (zip (map Number (range_with_len 1 n) ++ []) types)) (ap length (sym (append-nil H.inputs)))

    all : outer.inputs ++ outer.controls ≡ map (λ k. int_at values (k - 1)) (range_with_len 1 (length types))
    all = ap₂ (λ xs ys. xs ++ ys) inputs controls
        ∙ append-nil (map (λ k. int_at values (k - 1)) (range_with_len 1 (length (inports_of (diagram a).rows None))))
        ∙ ap (λ n. map (λ k. int_at values (k - 1)) (range_with_len 1 n)) (sym many)

    enough-ins : 0 + length types ≤ length (ins a v)
    enough-ins = let same = ins-many a v in let long = many in omega (arith, same, long)

    inputs-passed : map given_to (input_params (h a v)) ≡ outer.inputs ++ outer.controls
    inputs-passed =
        ap (λ z. map given_to (input_params z)) (header-is a v own) ∙ ap (map given_to) by-types
        ∙ all-passed values (ins a v) (pos now) (in-ports a v) (few-ins a v) 0 types enough-ins ∙ sym all

    inputs-fit : AllByRecursion (Fits values (root_params a.codes a.root a.hyper) (pos now)) (input_params (h a v))
    inputs-fit =
        subst (λ z. AllByRecursion (Fits values (root_params a.codes a.root a.hyper) (pos now)) (input_params z)) (sym (header-is a v own))
        (subst (AllByRecursion (Fits values (root_params a.codes a.root a.hyper) (pos now))) (sym by-types)
        (all-fit values (ins a v) (pos now) (in-ports a v) (few-ins a v) 0 types enough-ins
        (subst (AllZip InType types) all
        (subst (λ ts. AllZip InType ts (outer.inputs ++ outer.controls)) (sym (append-nil H.inputs))
        (subst (AllZip InType H.inputs) (sym (ap (λ ys. outer.inputs ++ ys) controls ∙ append-nil outer.inputs))
        (subst (λ z. AllZip InType z.inputs outer.inputs) (header-is a v own) typed))))))

    -- each call is given the arguments of its act
    pub act-passes : (offers : IsOfferOf (h a v) (offer_of a v None)) (cycle : ℕ) → outer.t % cycle ≡ now →
        (functions : List Function) (cells : Cells) (steps : ℕ) (act : Act) → IsCall (h a v) act → number_at cells 0 ≡ pos now →
        arguments functions (reads values cells) 0 (offered_by (program_of a) (act_name act)).routine.params (given act) steps ≡ gives
        (act_values (h a v) cycle outer act) steps
    act-passes offers cycle same functions cells steps (out j) is at =
        ap (λ ts. arguments functions (reads values cells) 0 ts (given (out j)) steps) (takes offers (out j) is)
        ∙ passes values (root_params a.codes a.root a.hyper) (pos now) a.codes functions cells steps
        (now_param ∷ taken (h a v) j (input_params (h a v))) at (
          is_now,
          taken-each (Fits values (root_params a.codes a.root a.hyper) (pos now)) (header_function (h a v) j)
              (ports_of_header (h a v)) (input_params (h a v)) inputs-fit,
        )
        ∙ ap₂ (λ n vs. gives (pos n ∷ vs) steps) (sym same)
        (taken-map given_to (header_function (h a v) j) (ports_of_header (h a v)) (input_params (h a v))
        ∙ ap (taken (h a v) j) inputs-passed)
    act-passes offers cycle same functions cells steps update is at =
        ap (λ ts. arguments functions (reads values cells) 0 ts (given update) steps) (takes offers update is)
        ∙ passes values (root_params a.codes a.root a.hyper) (pos now) a.codes functions cells steps (now_param ∷ input_params (h a v)) at
        (is_now, inputs-fit)
        ∙ ap₂ (λ n vs. gives (pos n ∷ vs) steps) (sym same) inputs-passed
    act-passes offers cycle same functions cells steps reset is at = absurd is
