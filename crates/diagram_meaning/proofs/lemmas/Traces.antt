-- A row of a trace by the rows that are inputs: each has its number, at its port and in its type.
use Rattle.std.specs.Prelude.{◌≡◌, ℕ, zero, suc, ◌+◌, ◌-◌, ◌<◌, List, [], ◌∷◌, ◌++◌, map, length, slice_get, Option, Some, None, unwrap_or, ℤ}
use Rattle.std.specs.List.{range_with_len, AllZip}
use Rattle.std.proofs.Common.{sym, ◌∙◌, ap, subst, arith}
use Rattle.base_core.specs.declared.Port.{Port}
use Rattle.base_core.specs.declared.Port.TheVariants.{Number}
use Rattle.base_fixed_point.specs.Conversion.{InType}
use Rattle.diagram_blocks.specs.declared.Kind.TheVariants.{Inport}
use Rattle.diagram_meaning.specs.Rows.{row_at, inports_of}
use Rattle.diagram_blocks.specs.Kinds.{is_inport, port_of}
use Rattle.diagram_meaning.specs.WellFormed.{HasPorts}
use Rattle.diagram_meaning.specs.Diagram.{Diagram, type_at}
use Rattle.diagram_meaning.specs.Needs.{IsInputRow}
use Rattle.diagram_meaning.specs.Run.{value_at}
use Rattle.diagram_meaning.specs.Traces.{input_type_of, IsTraceRow}
use Rattle.diagram_meaning.proofs.lemmas.Ports.{IsPorted, at-own-port, has-port, ported-at}
use Rattle.diagram_meaning.proofs.lemmas.RestsOnNeeds.{is_inport-equal}

-- what holds of each port and its number holds of those at a place
zip-at : (P : Port → ℤ → Type 0) (a n : ℕ) (controls : List Port) (x : List ℤ) → AllZip P (map Number (range_with_len a n) ++ controls) x →
    (k : ℕ) → k < n → (k < length x) × P (Number (a + k)) (value_at x k)
zip-at P a zero controls x h k below = absurd (omega arith)
zip-at P a (suc n) controls [] h k below = absurd h
zip-at P a (suc n) controls (v ∷ x) h zero below =
    let same : a ≡ a + 0 = omega arith in (omega arith, subst (λ p. P (Number p) v) same h.0)
zip-at P a (suc n) controls (v ∷ x) h (suc k) below =
    let rest = zip-at P (a + 1) n controls x h.1 k (omega arith) in
    let same : a + 1 + k ≡ a + suc k = omega arith in
    (let within = rest.0 in omega arith, subst (λ p. P (Number p) (value_at x k)) same rest.1)

zip-from : (P : Port → ℤ → Type 0) (a n : ℕ) (x : List ℤ) → length x ≡ n → ((k : ℕ) → k < n → P (Number (a + k)) (value_at x k)) →
    AllZip P (map Number (range_with_len a n) ++ []) x
zip-from P a zero [] long each = tt
zip-from P a zero (v ∷ x) long each = absurd (omega (arith, long))
zip-from P a (suc n) [] long each = absurd (omega (arith, long))
zip-from P a (suc n) (v ∷ x) long each =
    let here : a + 0 ≡ a = omega arith in (
      subst (λ p. P (Number p) v) here (each 0 (omega arith)),
      zip-from P (a + 1) n x (omega (arith, long)) (λ k below.
          let same : a + suc k ≡ a + 1 + k = omega arith in subst (λ p. P (Number p) (value_at x k)) same (each (suc k) (omega arith))),
    )

module _ (d : Diagram) (s : Option ℕ) (ports : HasPorts d.rows is_inport s) where
  -- an Inport of the system is at its port
  input-ported : (port b : ℕ) → IsInputRow d.rows s port b → IsPorted d.rows is_inport s ports b
  input-ported port b is = record {
    in_table = is.in_table;
    is_own = is.is_own;
    passing = ap is_inport is.is_inport;
  }

  pub inport-at : (port b : ℕ) → IsInputRow d.rows s port b →
      (0 < port) × (port - 1 < length (inports_of d.rows s)) × (slice_get (inports_of d.rows s) (port - 1) ≡ Some b)
  inport-at port b is =
      let ported = input-ported port b is in
      let port_is : port_of (row_at d.rows b).kind ≡ port = ap port_of is.is_inport in
      let has = has-port d.rows is_inport s ports b ported in
      let low = has.0 in
      let high = has.1 in (
        omega (arith, low, port_is),
        omega (arith, low, high, port_is),
        ap (λ k. slice_get (inports_of d.rows s) (k - 1)) (sym port_is) ∙ at-own-port d.rows is_inport s ports b ported,
      )

  -- each Inport of the system has its number in a row of a trace
  pub row-has : (x : List ℤ) → IsTraceRow d s x → (port b : ℕ) → IsInputRow d.rows s port b →
      (port - 1 < length x) × InType (type_at d.types b) (value_at x (port - 1))
  row-has x is port b input =
      let at = inport-at port b input in
      let found = zip-at (λ p v. InType (input_type_of d s p) v) 1 (length (inports_of d.rows s)) _ x is (port - 1) at.1 in
      let number : suc (port - 1) ≡ 1 + (port - 1) = omega arith in
      let type : input_type_of d s (Number (1 + (port - 1))) ≡ type_at d.types b =
      ap (λ k. input_type_of d s (Number k)) (sym number) ∙ ap (λ o. type_at d.types (unwrap_or o (length d.rows))) at.2 in
      (found.0, subst (λ t. InType t (value_at x (port - 1))) type found.1)

-- and where it has just as many as the root has Inports it is a row of a trace
pub row-from : (d : Diagram) (ports : HasPorts d.rows is_inport None) (x : List ℤ) → length x ≡ length (inports_of d.rows None) →
    ((port b : ℕ) → IsInputRow d.rows None port b →
    (port - 1 < length x) × InType (type_at d.types b) (value_at x (port - 1))) → IsTraceRow d None x
row-from d ports x long each = zip-from (λ p v. InType (input_type_of d None p) v) 1 (length (inports_of d.rows None)) x long at
  where
    at : (k : ℕ) → k < length (inports_of d.rows None) → InType (input_type_of d None (Number (1 + k))) (value_at x k)
    at k below =
        let found = ported-at d.rows is_inport None ports k below in
        let b = found.0 in
        let ported = found.2 in
        let input : IsInputRow d.rows None (suc k) b = record {
          in_table = ported.in_table;
          is_inport = is_inport-equal (row_at d.rows b).kind ported.passing ∙ ap Inport found.3;
          is_own = ported.is_own;
        } in
        let type : type_at d.types b ≡ input_type_of d None (Number (1 + k)) =
        ap (λ o. type_at d.types (unwrap_or o (length d.rows))) (sym found.1)
        ∙ (let same : suc k ≡ 1 + k = omega arith in ap (λ j. input_type_of d None (Number j)) same) in
        let place : suc k - 1 ≡ k = omega arith in
        subst (λ t. InType t (value_at x k)) type (subst (λ j. InType (type_at d.types b) (value_at x j)) place (each (suc k) b input).1)
