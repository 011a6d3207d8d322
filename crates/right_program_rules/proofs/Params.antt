-- The parameters of a system's procedures are among those of its update, and their names are far from those of all functions.
use Rattle.std.specs.Prelude.{◌≡◌, ℕ, Bool, true, false, not, MatchBool, ◌&&◌, ◌||◌, ◌==◌, List, [], ◌∷◌, ◌++◌, map, filter, zip, length, take, slice_get, Contains, Option, Some, None, ⊤}
use Rattle.std.specs.List.{AllByRecursion, range_with_len}
use Rattle.std.proofs.Common.{refl, sym, ap, subst, ◌∙◌, inl, inr}
use Rattle.std.proofs.lemmas.List.Elements.{Contains-append_cases}
use Rattle.std.proofs.lemmas.List.Sorted.{Contains-permutation, IsPermutation-sym}
use Rattle.base_core.specs.declared.Control.{Control}
use Rattle.base_core.specs.declared.Control.TheVariants.{Plain, Enabled, Triggered, Both}
use Rattle.base_core.specs.declared.Port.{Port}
use Rattle.base_core.specs.declared.Port.TheVariants.{Number, Enable, Trigger}
use Rattle.base_fixed_point.specs.declared.FixType.{FixType}
use Rattle.modules_profile.specs.SystemHeader.{SystemHeader}
use Rattle.modules_profile.specs.Headers.{ports_of_header, header_functions, header_function}
use Rattle.modules_profile.specs.Locals.{own_header, bare_header}
use Rattle.base_core.specs.Ports.{bit_of, has_bit}
use Rattle.modules_profile.proofs.lemmas.Members.{in-none, in-first, in-rest, in-cases, in-map, of-map, in-filter, of-filter, of-zip, in-at, at-in}
use Rattle.c_syntax.specs.Tree.{ParamTree, ProcedureTree}
use Rattle.c_syntax.specs.Lawful.{procedure_names}
use Rattle.emit_shape.specs.Names.{container, port_name}
use Rattle.emit_shape.specs.Heads.{Head, head_of, now_param, input_params, public_heads, out_head, out_heads, update_head, start_head, reset_head}
use Rattle.emit_shape.specs.Rules.{parameter_names}
use Rattle.right_linking.specs.Parts.{Parts, program_of, all_systems, IsCodedAs, Views}
use Rattle.right_linking.proofs.lemmas.AssembledNames.{BelongsTo, procedure-belongs}
use Rattle.right_linking.proofs.lemmas.AssembledPlaces.{member}
use Rattle.right_program_rules.proofs.Lists.{of-take}
use Rattle.right_program_rules.proofs.FunctionNames.{procedure_name, root_both, root-cases}
use Rattle.right_program_rules.proofs.Positions.{at-position}

-- ---- How names begin

abbrev first_is : ℕ → List ℕ → Bool
first_is b [] = false
first_is b (c ∷ cs) = c == b

-- as those of procedures begin, and no parameter's
abbrev pub is_far : List ℕ → Bool
is_far [] = false
is_far (b ∷ bs) = (b == 115) || (b == 114) || ((b == 116) && first_is 111 bs)

port-near : (control : Control) (port : Port) → is_far (port_name control port) ≡ false
port-near control (Number k) = refl
port-near control Enable = refl
port-near Plain Trigger = refl
port-near (Enabled reset) Trigger = refl
port-near (Triggered edge) Trigger = refl
port-near (Both reset edge) Trigger = refl

system-far : (s : Option ℕ) (name : List ℕ) → BelongsTo s name → is_far name ≡ true
system-far None name (rest, is) = ap is_far is
system-far (Some e) name (rest, is) = ap is_far is

-- ---- Parameters

-- the parameters of an update
abbrev pub all_params : SystemHeader → List ParamTree
all_params h = now_param ∷ input_params h

params-near : (h : SystemHeader) (p : ParamTree) → Contains (all_params h) p → is_far p.name ≡ false
params-near h p has = elim (in-cases now_param p (input_params h) has) [
  | inl same ↦ ap (λ (z : ParamTree). is_far z.name) (sym same)
  | inr more ↦
      let from = of-map (λ (e : Port × FixType). record { name = port_name h.control e.0; type = container e.1 })
      (zip (ports_of_header h) (h.inputs ++ h.controls)) p more in
      ap (λ (z : ParamTree). is_far z.name) (sym from.2) ∙ port-near h.control from.0.0
]

-- what a public procedure takes
head-params : (h : SystemHeader) (head : Head) → Contains (public_heads h) head → (p : ParamTree) → Contains head.params p →
    Contains (all_params h) p
head-params h head has p takes = elim (Contains-append_cases (out_heads h) (update_head h ∷ start_head h ∷ reset_head h ∷ []) head has) [
  | inl out ↦
      let made = of-map (out_head h) (range_with_len 1 (length (header_functions h))) head out in
      outs made.0 (subst (λ (z : Head). Contains z.params p) (sym made.2) takes)
  | inr other ↦ elim (in-cases (update_head h) head (start_head h ∷ reset_head h ∷ []) other) [
    | inl same ↦ subst (λ (z : Head). Contains z.params p) (sym same) takes
    | inr more ↦ elim (in-cases (start_head h) head (reset_head h ∷ []) more) [
      | inl same ↦ absurd (in-none p (subst (λ (z : Head). Contains z.params p) (sym same) takes))
      | inr last ↦ elim (in-cases (reset_head h) head [] last) [
        | inl same ↦ absurd (in-none p (subst (λ (z : Head). Contains z.params p) (sym same) takes))
        | inr none ↦ absurd (in-none head none)
      ]
    ]
  ]
]
  where
    outs : (j : ℕ) → Contains (out_head h j).params p → Contains (all_params h) p
    outs j taken = elim (in-cases now_param p _ taken) [
      | inl same ↦ subst (Contains (all_params h)) same (in-first now_param (input_params h))
      | inr more ↦
          let from = of-map (λ (e : Port × ParamTree). e.1)
          (filter (λ (e : Port × ParamTree). has_bit (header_function h j).inputs (bit_of e.0))
          (zip (ports_of_header h) (input_params h))) p more in
          let kept = of-filter (λ (e : Port × ParamTree). has_bit (header_function h j).inputs (bit_of e.0))
          (zip (ports_of_header h) (input_params h)) from.0 from.1 in
          let pair = of-zip (ports_of_header h) (input_params h) from.0 kept.0 in
          in-rest now_param p (input_params h) (subst (Contains (input_params h)) from.2 (in-at (input_params h) pair.0 from.0.1 pair.2))
    ]

module _ (a : Parts) (v : Views a) where
  module _ (place : ℕ) (s : Option ℕ) (stands : slice_get (all_systems a) place ≡ Some s) where
    known : IsCodedAs a place s (v.at s)
    known = v.each place s stands

    -- each parameter has the name of one of the update's
    pub param-known : (q : ProcedureTree) → Contains (v.at s).code.procedures q → (p : ParamTree) → Contains q.params p →
        Contains (parameter_names (v.at s).local) p.name
    param-known q has p takes = by q.private refl (member _ (v.at s).code.procedures q known.shape.rules has).params
      where
        by : (t : Bool) → q.private ≡ t →
            MatchBool t (AllByRecursion (λ (z : ParamTree). Contains (parameter_names (v.at s).local) z.name) q.params) ⊤ →
            Contains (parameter_names (v.at s).local) p.name
        by true e named = member (λ (z : ParamTree). Contains (parameter_names (v.at s).local) z.name) q.params p named takes
        by false e named =
            let h = own_header (v.at s).local (v.at s).profile in
            let shown = in-filter (λ (z : Head). not z.private) (map head_of (v.at s).code.procedures) (head_of q)
            (in-map head_of (v.at s).code.procedures q has) (ap not e) in
            let public = Contains-permutation (filter (λ (z : Head). not z.private) (map head_of (v.at s).code.procedures))
            (public_heads h) (head_of q)
            (IsPermutation-sym (public_heads h)
            (filter (λ (z : Head). not z.private) (map head_of (v.at s).code.procedures)) known.shape.heads) shown in
            in-map (λ (z : ParamTree). z.name) (all_params (bare_header (v.at s).local)) p (head-params h (head_of q) public p takes)

    pub param-near : (q : ProcedureTree) → Contains (v.at s).code.procedures q → (p : ParamTree) → Contains q.params p →
        is_far p.name ≡ false
    param-near q has p takes =
        let among = of-map (λ (z : ParamTree). z.name) (all_params (bare_header (v.at s).local)) p.name (param-known q has p takes) in
        ap is_far (sym among.2) ∙ params-near (bare_header (v.at s).local) among.0 among.1

  -- the name of each procedure of the program is far
  pub procedure-far : (k : ℕ) (q : ProcedureTree) → slice_get (program_of a).procedures k ≡ Some q → is_far q.name ≡ true
  procedure-far k q at = elim (at-position a v k q at) [
    | inl own ↦
        ap (λ (z : ProcedureTree). is_far z.name) (sym own.is)
        ∙ system-far own.system own.own.name
        (procedure-belongs a own.place own.system (v.at own.system) (v.each own.place own.system own.stands) own.own
        (in-at (v.at own.system).code.procedures own.number own.own own.there))
    | inr root ↦ let is = root-cases a v q (in-at (root_both a v) root.number q root.there) in ap is_far is.1
  ]

  pub before-far : (k : ℕ) (name : List ℕ) → Contains (procedure_names (take k (program_of a).procedures)) name → is_far name ≡ true
  before-far k name has =
      let from = of-map procedure_name (take k (program_of a).procedures) name has in
      let at = at-in (take k (program_of a).procedures) from.0 from.1 in
      ap is_far (sym from.2) ∙ procedure-far at.0 from.0 (of-take (program_of a).procedures k at.0 from.0 at.1).1
