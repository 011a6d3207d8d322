-- The texts that the equations of a row give, beside those of the row's names.
use Rattle.std.specs.Prelude.{◌≡◌, ℕ, ◌+◌, Bool, true, false, not, List, [], ◌∷◌, ◌++◌, map, Option, Some}
use Rattle.std.specs.List.{flat_map, range_with_len}
use Rattle.std.proofs.Common.{refl, sym, ◌∙◌, ap, ap₂, arith, true≢false}
use Rattle.std.proofs.lemmas.Grind.{flat_map-append}
use Rattle.std.proofs.lemmas.List.{append_assoc, map-append, append-nil}
use Rattle.diagram_blocks.specs.declared.Kind.{Kind}
use Rattle.diagram_blocks.specs.Kinds.{is_delay, is_outport, is_subsystem}
use Rattle.diagram_blocks.specs.Meaning.{has_value}
use Rattle.diagram_meaning.specs.Rows.{row_at, outports_of}
use Rattle.diagram_meaning.specs.Diagram.{Diagram, type_at, op_at}
use Rattle.c_syntax.specs.declared.Leaf.TheVariants.{Child}
use Rattle.emit_shape.specs.Names.{value_name}
use Rattle.lustre_syntax.specs.Tree.{Declared, set, given_by, texts_of}
use Rattle.lustre_syntax.specs.Named.{NamedEquation}
use Rattle.lustre_system.specs.FromC.{call_count, calls_of}
use Rattle.lustre_system.specs.Functions.{int_name, function_name}
use Rattle.lustre_system.specs.Names.{takes_name, part_name, leaf_name, leaves_of}
use Rattle.lustre_system.specs.RowEquations.{bool_name, only_if, row_code, samples, sample_equations, memory_equations, value_equations, child_equations, row_equations, row_value, row_names}
use Rattle.lustre_rows.proofs.lemmas.NamePlaces.{texts-int}
use Rattle.lustre_rows.proofs.lemmas.Wires.{outport-valued}
use Rattle.lustre_rows.proofs.lemmas.SimpleCodes.{row-simple}
use Rattle.lustre_lawful.proofs.CallTexts.{calls-given}
use Rattle.lustre_lawful.proofs.Counts.{times, times-append}

-- ---- Parts of lists

pub only-given : (t : Bool) (es : List NamedEquation) (ts : List (List ℕ)) → flat_map given_by es ≡ ts →
    flat_map given_by (only_if t es) ≡ only_if t ts
only-given true es ts are = are
only-given false es ts are = refl

pub only-texts : (t : Bool) (xs : List Declared) (ts : List (List ℕ)) → texts_of xs ≡ ts → texts_of (only_if t xs) ≡ only_if t ts
only-texts true xs ts are = are
only-texts false xs ts are = refl

pub texts-mapped : {A : Type 0} (f : A → List ℕ) (xs : List A) → texts_of (map (λ x. int_name (f x)) xs) ≡ map f xs
texts-mapped f [] = refl
texts-mapped f (x ∷ xs) = ap (λ ts. f x ∷ ts) (texts-mapped f xs)

-- ---- A row

module _ (d : Diagram) (s : Option ℕ) (b : ℕ) where
  abbrev pub own_kind : Kind
  own_kind = (row_at d.rows b).kind

  abbrev pub memory_texts : List (List ℕ)
  memory_texts = takes_name b ∷ samples d s b

  abbrev pub part_texts : List (List ℕ)
  part_texts = map (part_name b) (range_with_len 1 (call_count (row_code d s b)))

  abbrev pub child_texts : List (List ℕ)
  child_texts = map value_name (outports_of d.rows (Some b))

  -- what its equations give
  abbrev pub row_given : List (List ℕ)
  row_given =
      only_if (is_delay (op_at d b)) memory_texts
      ++ (only_if (has_value own_kind) (part_texts ++ value_name b ∷ []) ++ only_if (is_subsystem own_kind) child_texts)

  -- and what its names are
  abbrev row_named : List (List ℕ)
  row_named =
      only_if (is_delay (op_at d b)) memory_texts
      ++ (only_if (has_value own_kind) (part_texts ++ only_if (not (is_outport own_kind)) (value_name b ∷ []))
      ++ only_if (is_subsystem own_kind) child_texts)

  -- the value of an Outport is an output of the node
  abbrev pub output_text : List (List ℕ)
  output_text = only_if (is_outport own_kind) (value_name b ∷ [])

  samples-given : (ms : List (List ℕ)) → flat_map given_by (sample_equations d s b ms) ≡ ms
  samples-given [] = refl
  samples-given (m ∷ []) = refl
  samples-given (m ∷ n ∷ ms) = ap (λ ts. m ∷ ts) (samples-given (n ∷ ms))

  values-given : flat_map given_by (value_equations d s b) ≡ part_texts ++ value_name b ∷ []
  values-given =
      flat_map-append given_by (calls_of (leaf_name d.rows s) function_name (part_name b) (row_code d s b))
      (set 0 (value_name b) (row_value d s b) ∷ [])
      ∙ ap (λ ts. ts ++ value_name b ∷ [])
      (calls-given (leaf_name d.rows s) function_name (part_name b) 0 (row_code d s b)
      (row-simple (op_at d b) (leaves_of d.rows s b) (map (type_at d.types) (row_at d.rows b).inputs) (Child b 0)))

  pub given-are : flat_map given_by (row_equations d s b) ≡ row_given
  given-are =
      let memory = only_if (is_delay (op_at d b)) (memory_equations d s b) in
      let value = only_if (has_value own_kind) (value_equations d s b) in
      let child = only_if (is_subsystem own_kind) (child_equations d s b) in
      ap (flat_map given_by) (append_assoc memory value child) ∙ flat_map-append given_by memory (value ++ child)
      ∙ ap₂ ◌++◌
      (only-given (is_delay (op_at d b)) (memory_equations d s b) memory_texts (ap (λ ts. takes_name b ∷ ts) (samples-given (samples d s b))))
      (flat_map-append given_by value child
      ∙ ap₂ ◌++◌ (only-given (has_value own_kind) (value_equations d s b) (part_texts ++ value_name b ∷ []) values-given)
      (only-given (is_subsystem own_kind) (child_equations d s b) child_texts (append-nil child_texts)))

  pub names-are : texts_of (row_names d s b) ≡ row_named
  names-are =
      let text = λ (x : Declared). x.text in
      let memory = bool_name (takes_name b) ∷ map int_name (samples d s b) in
      let parts = map (λ n. int_name (part_name b n)) (range_with_len 1 (call_count (row_code d s b))) in
      let value = int_name (value_name b) ∷ [] in
      let values = parts ++ only_if (not (is_outport own_kind)) value in
      let children = map (λ o. int_name (value_name o)) (outports_of d.rows (Some b)) in
      let first = only_if (is_delay (op_at d b)) memory in
      let second = only_if (has_value own_kind) values in
      let third = only_if (is_subsystem own_kind) children in
      ap texts_of (append_assoc first second third) ∙ map-append text first (second ++ third)
      ∙ ap₂ ◌++◌
      (only-texts (is_delay (op_at d b)) memory memory_texts (ap (λ ts. takes_name b ∷ ts) (texts-int (samples d s b))))
      (map-append text (only_if (has_value own_kind) values) (only_if (is_subsystem own_kind) children)
      ∙ ap₂ ◌++◌
      (only-texts (has_value own_kind) values (part_texts ++ only_if (not (is_outport own_kind)) (value_name b ∷ []))
      (map-append text parts (only_if (not (is_outport own_kind)) value)
      ∙ ap₂ ◌++◌ (texts-mapped (part_name b) (range_with_len 1 (call_count (row_code d s b))))
      (only-texts (not (is_outport own_kind)) value (value_name b ∷ []) refl)))
      (only-texts (is_subsystem own_kind) children child_texts (texts-mapped value_name (outports_of d.rows (Some b)))))

-- the equations of a row give the row's names, and the value of an Outport
pub row-times : (d : Diagram) (s : Option ℕ) (b : ℕ) (x : List ℕ) →
    times x (row_given d s b) ≡ times x (texts_of (row_names d s b)) + times x (output_text d s b)
row-times d s b x =
    let k = own_kind d s b in
    let memory = only_if (is_delay (op_at d b)) (memory_texts d s b) in
    let children = only_if (is_subsystem k) (child_texts d s b) in
    let parts = part_texts d s b in
    let given = only_if (has_value k) (parts ++ value_name b ∷ []) in
    let named = only_if (has_value k) (parts ++ only_if (not (is_outport k)) (value_name b ∷ [])) in
    let one = times-append x memory (given ++ children) in
    let two = times-append x given children in
    let three = times-append x memory (named ++ children) in
    let four = times-append x named children in
    let five = ap (times x) (names-are d s b) in
    let six = values x parts (has_value k) (is_outport k) (outport-valued k) in
    omega (arith, one, two, three, four, five, six)
  where
    values : (x : List ℕ) (parts : List (List ℕ)) (has out : Bool) → (out ≡ true → has ≡ true) →
        times x (only_if has (parts ++ value_name b ∷ []))
        ≡ times x (only_if has (parts ++ only_if (not out) (value_name b ∷ []))) + times x (only_if out (value_name b ∷ []))
    values x parts true true must =
        let one = times-append x parts (value_name b ∷ []) in let two = times-append x parts [] in omega (arith, one, two)
    values x parts true false must = omega arith
    values x parts false true must = absurd (true≢false (sym (must refl)))
    values x parts false false must = omega arith
