-- The node of a child is called once among the equations of a system.
use Rattle.std.specs.Prelude.{◌≡◌, ⊤, ℕ, zero, suc, ◌+◌, ◌<◌, ◌≤◌, ◌==◌, Bool, true, false, cond, List, [], ◌∷◌, ◌++◌, map, flat_map, filter, length, Option, Some, refl}
use Rattle.std.specs.List.{AllByRecursion, range_with_len}
use Rattle.std.proofs.Common.{sym, ap, subst, ◌∙◌, arith, inl, inr, true≢false}
use Rattle.std.proofs.lemmas.Bool.{cases_eq}
use Rattle.std.proofs.lemmas.Fmt.{decimal_injective}
use Rattle.diagram_blocks.specs.Kinds.{is_subsystem, is_delay}
use Rattle.diagram_blocks.specs.Meaning.{has_value}
use Rattle.diagram_meaning.specs.Rows.{row_at, row_numbers, rows_of, same_system}
use Rattle.diagram_meaning.specs.Diagram.{Diagram, op_at}
use Rattle.diagram_meaning.specs.SystemRuns.{IsRowOf}
use Rattle.modules_profile.specs.Systems.{system_name}
use Rattle.emit_shape.specs.Names.{trigger_name}
use Rattle.lustre_syntax.specs.Tree.{set, call}
use Rattle.lustre_syntax.specs.Named.{NamedExpr, NamedEquation, renamed_equation, place_of}
use Rattle.lustre_settling.proofs.lemmas.Given.{times, times-same, times-other, times-append}
use Rattle.lustre_system.specs.Functions.{function_name}
use Rattle.lustre_system.specs.Names.{active_name, reset_name}
use Rattle.lustre_system.specs.RowEquations.{only_if, memory_equations, value_equations, child_equations, row_equations}
use Rattle.lustre_system.specs.SystemNodes.{active_value, reset_value, trigger_memory, has_trigger, system_equations}
use Rattle.lustre_rows.proofs.lemmas.Lists.{all-only, own-rows}
use Rattle.lustre_right.specs.Paths.{callee_of}
use Rattle.lustre_rows.proofs.lemmas.NamePlaces.{one-text}
use Rattle.lustre_rows.proofs.lemmas.FunctionCalls.{memory-calls, value-calls}
use Rattle.lustre_instances.proofs.ChildCalls.{child_call}

-- ---- Names

abbrev first_byte : List ℕ → ℕ
first_byte [] = 0
first_byte (b ∷ bs) = b

abbrev later_bytes : List ℕ → List ℕ
later_bytes [] = []
later_bytes (b ∷ bs) = bs

-- no function's name begins with an `s`
function-begins : (k : ℕ) → (first_byte (function_name k) == 115) ≡ false
function-begins zero = refl
function-begins (suc zero) = refl
function-begins (suc (suc zero)) = refl
function-begins (suc (suc (suc zero))) = refl
function-begins (suc (suc (suc (suc zero)))) = refl
function-begins (suc (suc (suc (suc (suc zero))))) = refl
function-begins (suc (suc (suc (suc (suc (suc zero)))))) = refl
function-begins (suc (suc (suc (suc (suc (suc (suc zero))))))) = refl
function-begins (suc (suc (suc (suc (suc (suc (suc (suc k)))))))) = refl

pub function-apart : (k e : ℕ) → function_name k ≡ system_name (Some e) → ⊥
function-apart k e same = true≢false (sym (ap (λ (t : List ℕ). first_byte t == 115) same) ∙ function-begins k)

pub systems-apart : (e b : ℕ) → e < 20000 → b < 20000 → system_name (Some e) ≡ system_name (Some b) → e ≡ b
systems-apart e b few small same = decimal_injective e b (omega arith) (omega arith) (ap later_bytes same)

-- ---- Numbers in lists

kept-times : (e : ℕ) (t : Bool) (x : ℕ) (xs ys : List ℕ) → times e xs ≤ times e ys → times e (cond t (x ∷ xs) xs) ≤ times e (x ∷ ys)
kept-times e true x xs ys few =
    let one = times-append e (x ∷ []) xs in
    let two = times-append e (x ∷ []) ys in omega arith
kept-times e false x xs ys few = let two = times-append e (x ∷ []) ys in omega arith

filtered-times : (e : ℕ) (test : ℕ → Bool) (xs : List ℕ) → times e (filter test xs) ≤ times e xs
filtered-times e test [] = omega arith
filtered-times e test (x ∷ xs) = kept-times e (test x) x (filter test xs) xs (filtered-times e test xs)

range-times : (e a n : ℕ) → (times e (range_with_len a n) ≤ 1) × (e < a → times e (range_with_len a n) ≡ 0)
range-times e a zero = (omega arith, λ low. refl)
range-times e a (suc n) = elim (cases_eq a e) [
  | inl same ↦ (
    let one = ap (λ b. times e (b ∷ range_with_len (a + 1) n)) same in
        let more = times-same e (range_with_len (a + 1) n) in
        let none = (range-times e (a + 1) n).1 (omega arith) in omega arith,
    λ low. absurd (omega arith),
  )
  | inr other ↦ (
    let more = times-other a e (range_with_len (a + 1) n) other in
        let few = (range-times e (a + 1) n).0 in omega arith,
    λ low. times-other a e (range_with_len (a + 1) n) other ∙ (range-times e (a + 1) n).1 (omega arith),
  )
]

-- ---- Calls of a node

module _ (places : List ℕ → ℕ) (texts : List (List ℕ)) (p : ℕ) where
  -- how often equations call the node at p
  abbrev pub call_count : List NamedEquation → ℕ
  call_count es = times p (flat_map callee_of (map (renamed_equation places (place_of texts)) es))

  count-append : (xs ys : List NamedEquation) → call_count (xs ++ ys) ≡ call_count xs + call_count ys
  count-append [] ys = omega arith
  count-append (x ∷ xs) ys =
      let first = callee_of (renamed_equation places (place_of texts) x) in
      let rest : List NamedEquation → List ℕ =
      λ (es : List NamedEquation). flat_map callee_of (map (renamed_equation places (place_of texts)) es) in
      let all = times-append p first (rest (xs ++ ys)) in
      let one = times-append p first (rest xs) in
      let more = count-append xs ys in omega arith

  abbrev IsElsewhere : NamedEquation → Type 0
  IsElsewhere (set line text value) = ⊤
  IsElsewhere (call line given callee arguments) = place_of texts callee ≡ p → ⊥

  none-called : (es : List NamedEquation) → AllByRecursion IsElsewhere es → call_count es ≡ 0
  none-called [] all = refl
  none-called (set line text value ∷ es) all = none-called es all.1
  none-called (call line given callee arguments ∷ es) all =
      times-other (place_of texts callee) p (flat_map callee_of (map (renamed_equation places (place_of texts)) es)) all.0
      ∙ none-called es all.1

  only-one : (b : Bool) (e : NamedEquation) → call_count (only_if b (e ∷ [])) ≤ 1
  only-one false e = omega arith
  only-one true (set line text value) = omega arith
  only-one true (call line given callee arguments) = elim (cases_eq (place_of texts callee) p) [
    | inl same ↦ subst (λ k. times p (k ∷ []) ≤ 1) (sym same) (let one = times-same p [] in omega arith)
    | inr other ↦ let none = times-other (place_of texts callee) p [] other in omega arith
  ]

  module _ (d : Diagram) (s : Option ℕ) (e : ℕ) (is : p ≡ place_of texts (system_name (Some e))) (there : p < length texts)
      (few : length d.rows ≤ 20000) (small : e < length d.rows) where
    functions-elsewhere : (k : ℕ) (given : List (List ℕ)) (arguments : List NamedExpr) →
        IsElsewhere (call 0 given (function_name k) arguments)
    functions-elsewhere k given arguments same =
        function-apart k e (one-text texts (function_name k) (system_name (Some e)) (omega arith) (same ∙ is))

    children-elsewhere : (b : ℕ) → b < length d.rows → (e ≡ b → ⊥) → AllByRecursion IsElsewhere (child_equations d s b)
    children-elsewhere b below other = (
      λ same. other
          (systems-apart e b (omega arith) (omega arith)
          (sym (one-text texts (system_name (Some b)) (system_name (Some e)) (omega arith) (same ∙ is)))),
      tt,
    )

    row-count : (b : ℕ) → IsRowOf d.rows s b → call_count (row_equations d s b) ≤ times e (b ∷ [])
    row-count b row =
        let memories = only_if (is_delay (op_at d b)) (memory_equations d s b) in
        let values = only_if (has_value (row_at d.rows b).kind) (value_equations d s b) in
        let children = only_if (is_subsystem (row_at d.rows b).kind) (child_equations d s b) in
        let first = none-called memories
        (all-only IsElsewhere (is_delay (op_at d b)) (memory_equations d s b)
        (λ on. memory-calls d s IsElsewhere (λ text value. tt) functions-elsewhere b)) in
        let second = none-called values
        (all-only IsElsewhere (has_value (row_at d.rows b).kind) (value_equations d s b)
        (λ on. value-calls d s IsElsewhere (λ text value. tt) functions-elsewhere b)) in
        let all = count-append (memories ++ values) children in
        let rest = count-append memories values in
        elim (cases_eq b e) [
          | inl same ↦
              let one = only-one (is_subsystem (row_at d.rows b).kind) (child_call d s b) in
              let here : times e (b ∷ []) ≡ 1 = ap (λ k. times e (k ∷ [])) same ∙ times-same e [] in
              omega arith
          | inr other ↦
              let none = none-called children
              (all-only IsElsewhere (is_subsystem (row_at d.rows b).kind) (child_equations d s b)
              (λ on. children-elsewhere b row.in_table (λ equal. other (sym equal)))) in
              omega arith
        ]

    rows-count : (bs : List ℕ) → AllByRecursion (IsRowOf d.rows s) bs → call_count (flat_map (row_equations d s) bs) ≤ times e bs
    rows-count [] all = omega arith
    rows-count (b ∷ bs) all =
        let both = count-append (row_equations d s b) (flat_map (row_equations d s) bs) in
        let first = row-count b all.0 in
        let rest = rows-count bs all.1 in
        let times_all = times-append e (b ∷ []) bs in omega arith

    pub called-once : call_count (system_equations d s) ≤ 1
    called-once =
        let trigger = only_if (has_trigger d s) (set 0 trigger_name (trigger_memory d s) ∷ []) in
        let rows = flat_map (row_equations d s) (rows_of d.rows s) in
        let none = none-called trigger
        (all-only IsElsewhere (has_trigger d s) (set 0 trigger_name (trigger_memory d s) ∷ []) (λ on. (tt, tt))) in
        let all = count-append trigger (set 0 active_name (active_value d s) ∷ set 0 reset_name (reset_value d s) ∷ rows) in
        let later = rows-count (rows_of d.rows s) (own-rows d.rows s) in
        let kept = filtered-times e (λ b. same_system (row_at d.rows b).owner s) (row_numbers d.rows) in
        let each = (range-times e 0 (length d.rows)).0 in
        omega arith
