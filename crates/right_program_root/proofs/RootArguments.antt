-- What the root passes to `top`: the number of the tick, and the root's own inputs by port.
use Rattle.std.specs.Prelude.{◌≡◌, ℕ, ◌+◌, ◌-◌, ◌<◌, ◌≤◌, Bool, true, false, cond, List, [], ◌∷◌, ◌++◌, map, filter, zip, length, unwrap_or, if◌then◌else◌, bytes_eq, codes as text, ℤ, refl}
use Rattle.std.specs.List.{AllByRecursion, AllZip, position_from, range_with_len}
use Rattle.std.proofs.Common.{sym, ap, ap₂, subst, ◌∙◌, arith}
use Rattle.std.proofs.lemmas.List.{append-nil}
use Rattle.base_core.specs.declared.Port.{Port}
use Rattle.base_core.specs.declared.Port.TheVariants.{Number}
use Rattle.base_core.specs.declared.Control.TheVariants.{Plain}
use Rattle.base_fixed_point.specs.declared.FixType.{FixType}
use Rattle.base_fixed_point.specs.Conversion.{InType}
use Rattle.diagram_blocks.specs.Kinds.{port_of}
use Rattle.modules_profile.specs.declared.Function.{Function}
use Rattle.modules_profile.specs.declared.LocalRow.{LocalRow}
use Rattle.modules_profile.specs.Headers.{taken_by_function}
use Rattle.base_core.specs.Ports.{has_bit, bit_of}
use Rattle.c_syntax.specs.declared.CType.TheVariants.{I32}
use Rattle.c_syntax.specs.declared.Leaf.TheVariants.{Param, Own}
use Rattle.c_syntax.specs.Tree.{read, exprs_of_list, ParamTree}
use Rattle.c_semantics.specs.Cells.{Cells, number_at}
use Rattle.c_semantics.specs.Values.{gives, eval, reads, is_in_type, Function as Pure}
use Rattle.base_core.specs.Numbers.{int_at}
use Rattle.c_semantics.specs.Machine.{arguments}
use Rattle.c_semantics.proofs.lemmas.CallLaws.{arguments_are_passed}
use Rattle.emit_shape.specs.Names.{container, now_name, port_name, input_name}
use Rattle.emit_shape.specs.Heads.{now_param}
use Rattle.emit_shape.specs.SystemTree.{SystemTree}
use Rattle.emit_shape.specs.Assembled.{root_value}
use Rattle.right_relation.proofs.lemmas.Containers.{container-has}
use Rattle.right_program_root.proofs.NumberedNames.{TellsApart, front-tells, position-by-number}
use Rattle.right_program_root.proofs.PortedRows.{map-map, mapped-length}

-- ---- What a function takes

pub taken-map : {A B : Type 0} (g : A → B) (f : Function) (ports : List Port) (xs : List A) →
    map g (taken_by_function f ports xs) ≡ taken_by_function f ports (map g xs)
taken-map g f [] xs = refl
taken-map g f (p ∷ ports) [] = refl
taken-map {A} {B} g f (p ∷ ports) (x ∷ xs) = by (has_bit f.inputs (bit_of p)) (taken-map g f ports xs)
  where
    by : (t : Bool) → map g (taken_by_function f ports xs) ≡ taken_by_function f ports (map g xs) →
        map g (map (λ (e : Port × A). e.1)
        (cond t ((p, x) ∷ filter (λ (e : Port × A). has_bit f.inputs (bit_of e.0)) (zip ports xs))
        (filter (λ (e : Port × A). has_bit f.inputs (bit_of e.0)) (zip ports xs))))
        ≡ map (λ (e : Port × B). e.1) (cond t ((p, g x) ∷ filter (λ (e : Port × B). has_bit f.inputs (bit_of e.0)) (zip ports (map g xs)))
        (filter (λ (e : Port × B). has_bit f.inputs (bit_of e.0)) (zip ports (map g xs))))
    by true rest = ap (λ ys. g x ∷ ys) rest
    by false rest = rest

pub taken-each : {A : Type 0} (P : A → Type 0) (f : Function) (ports : List Port) (xs : List A) → AllByRecursion P xs →
    AllByRecursion P (taken_by_function f ports xs)
taken-each P f [] xs all = tt
taken-each P f (p ∷ ports) [] all = tt
taken-each {A} P f (p ∷ ports) (x ∷ xs) all = by (has_bit f.inputs (bit_of p)) (taken-each P f ports xs all.1)
  where
    by : (t : Bool) → AllByRecursion P (taken_by_function f ports xs) →
        AllByRecursion P (map (λ (e : Port × A). e.1)
        (cond t ((p, x) ∷ filter (λ (e : Port × A). has_bit f.inputs (bit_of e.0)) (zip ports xs))
        (filter (λ (e : Port × A). has_bit f.inputs (bit_of e.0)) (zip ports xs))))
    by true rest = (all.0, rest)
    by false rest = rest

-- ---- What is passed

inputs-tell : TellsApart input_name
inputs-tell = front-tells (text "u")

module _ (row : List ℤ) (params : List ParamTree) (now : ℤ) where
  -- the place of a parameter of this name among those of the root
  abbrev place_of : List ℕ → ℕ
  place_of name = unwrap_or (position_from (λ (r : ParamTree). bytes_eq r.name name) 0 params) 0

  -- what a parameter of `top` is given
  abbrev pub passed : ParamTree → ℤ
  passed q = if bytes_eq q.name now_name then now else int_at row (place_of q.name)

  reads-passed : (codes : List SystemTree) (functions : List Pure) (cells : Cells) (steps : ℕ) (q : ParamTree) → number_at cells 0 ≡ now →
      eval functions (reads row cells) 0 (root_value codes params q) steps ≡ gives (passed q) steps
  reads-passed codes functions cells steps q is = by (bytes_eq q.name now_name)
    where
      by : (t : Bool) → eval functions (reads row cells) 0 (if t then read (Own 0) else read (Param (place_of q.name))) steps ≡ gives
          (if t then now else int_at row (place_of q.name)) steps
      by true = ap (λ x. gives x steps) is
      by false = refl

  abbrev pub Fits : ParamTree → Type 0
  Fits q = is_in_type q.type (passed q) ≡ true

  pub passes : (codes : List SystemTree) (functions : List Pure) (cells : Cells) (steps : ℕ) (qs : List ParamTree) →
      number_at cells 0 ≡ now → AllByRecursion Fits qs →
      arguments functions (reads row cells) 0 (map (λ (q : ParamTree). q.type) qs) (exprs_of_list (map (root_value codes params) qs))
      steps ≡ gives (map passed qs) steps
  passes codes functions cells steps [] is fits = refl
  passes codes functions cells steps (q ∷ qs) is fits =
      (arguments_are_passed functions (reads row cells) 0 steps).passed q.type (map (λ (r : ParamTree). r.type) qs)
      (root_value codes params q) (exprs_of_list (map (root_value codes params) qs)) (passed q) (map passed qs) steps steps
      (reads-passed codes functions cells steps q is) fits.0 (passes codes functions cells steps qs is fits.1)

-- ---- The parameters of the root, by port

abbrev pub in_param : LocalRow → ParamTree
in_param r = record { name = input_name (port_of r.kind); type = container r.out }

-- a parameter of `top` for the input of a port
abbrev pub top_param : Port × FixType → ParamTree
top_param e = record { name = port_name Plain e.0; type = container e.1 }

module _ (row : List ℤ) (ins : List LocalRow) (now : ℤ)
    (ports : map (λ (r : LocalRow). port_of r.kind) ins ≡ range_with_len 1 (length ins)) (few : length ins ≤ 32) where
  abbrev pub params : List ParamTree
  params = map in_param ins

  names-are : map (λ (q : ParamTree). q.name) params ≡ map input_name (range_with_len 1 (length params))
  names-are =
      map-map (λ (q : ParamTree). q.name) in_param ins ∙ sym (map-map input_name (λ (r : LocalRow). port_of r.kind) ins)
      ∙ ap (map input_name) ports ∙ ap (λ n. map input_name (range_with_len 1 n)) (sym (mapped-length in_param ins))

  -- each input is passed at its place
  input-passed : (j : ℕ) (type : FixType) → j < length ins → passed row params now (top_param (Number (1 + j), type)) ≡ int_at row j
  input-passed j type below =
      let same = mapped-length in_param ins in
      let start : 0 + j ≡ j = omega arith in
      ap (λ qs. int_at row (unwrap_or (position_from (λ (r : ParamTree). bytes_eq r.name (input_name (1 + j))) 0 qs) 0))
      (sym (append-nil params))
      ∙ ap (λ o. int_at row (unwrap_or o 0))
      (position-by-number (λ (q : ParamTree). q.name) input_name inputs-tell params [] 1 0 j names-are (omega (arith, few, same))
      (omega (arith, below, same)))
      ∙ ap (int_at row) start

  -- so are those of `top`, from the a-th on, whose types these are
  pub all-passed : (a : ℕ) (types : List FixType) → a + length types ≤ length ins →
      map (passed row params now) (map top_param (zip (map Number (range_with_len (1 + a) (length types)) ++ []) types)) ≡ map
      (λ k. int_at row (k - 1)) (range_with_len (1 + a) (length types))
  all-passed a [] most = refl
  all-passed a (type ∷ types) most =
      let place : a ≡ 1 + a - 1 = omega arith in
      let next : 1 + a + 1 ≡ 1 + (a + 1) = omega arith in
      ap₂ (λ x xs. x ∷ xs) (input-passed a type (omega (arith, most)) ∙ ap (int_at row) place)
      (ap (λ n. map (passed row params now) (map top_param (zip (map Number (range_with_len n (length types)) ++ []) types))) next
      ∙ all-passed (a + 1) types (omega (arith, most)) ∙ ap (λ n. map (λ k. int_at row (k - 1)) (range_with_len n (length types)))
      (sym next))

  -- and they fit, where the row's numbers lie in the types
  pub all-fit : (a : ℕ) (types : List FixType) → a + length types ≤ length ins →
      AllZip InType types (map (λ k. int_at row (k - 1)) (range_with_len (1 + a) (length types))) →
      AllByRecursion (Fits row params now) (map top_param (zip (map Number (range_with_len (1 + a) (length types)) ++ []) types))
  all-fit a [] most typed = tt
  all-fit a (type ∷ types) most typed =
      let place : 1 + a - 1 ≡ a = omega arith in
      let next : 1 + a + 1 ≡ 1 + (a + 1) = omega arith in (
        ap (is_in_type (container type)) (input-passed a type (omega (arith, most))) ∙ container-has type (int_at row a)
            (subst (λ k. InType type (int_at row k)) place typed.0),
        subst (λ n. AllByRecursion (Fits row params now) (map top_param (zip (map Number (range_with_len n (length types)) ++ []) types)))
            (sym next)
            (all-fit (a + 1) types (omega (arith, most))
            (subst (λ n. AllZip InType types (map (λ k. int_at row (k - 1)) (range_with_len n (length types)))) next typed.1)),
      )

  pub now-fits : is_in_type I32 now ≡ true → Fits row params now now_param
  now-fits fits = fits
