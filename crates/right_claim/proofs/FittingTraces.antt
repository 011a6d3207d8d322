-- Some trace fits each lawful script: for each of its ticks the row of the values that its calls give.
use Rattle.std.specs.Prelude.{◌≡◌, ℕ, suc, max, Bool, true, false, List, [], ◌∷◌, ◌++◌, length, slice_get, slice_index_or, Option, Some, ℤ, pos, ⊤}
use Rattle.std.specs.List.{AllByRecursion, AllZip}
use Rattle.std.proofs.Common.{refl, ap, ◌∙◌, arith}
use Rattle.base_core.specs.declared.Port.{Port}
use Rattle.base_fixed_point.specs.declared.FixType.{FixType}
use Rattle.base_fixed_point.specs.Conversion.{InType}
use Rattle.diagram_blocks.specs.declared.Kind.TheVariants.{Ground}
use Rattle.diagram_blocks.proofs.lemmas.InType.{values_stay_in_type}
use Rattle.diagram_meaning.specs.Rows.{column}
use Rattle.diagram_meaning.specs.Inputs.{input_ports}
use Rattle.diagram_meaning.specs.Diagram.{Diagram}
use Rattle.diagram_meaning.specs.Run.{value_at}
use Rattle.diagram_meaning.specs.Traces.{input_type_of, IsTraceRow, IsTrace}
use Rattle.modules_profile.specs.declared.Function.{Function}
use Rattle.base_core.specs.Ports.{has_bit, bit_of}
use Rattle.modules_profile.specs.Headers.{numbered_function}
use Rattle.right_claim.specs.Scripts.{Call, out_with, update_with, Given, given_of, TickSoFar, nothing_yet, inputs_of, values_of, given_by, CanFollow, tick_after, IsLawfulFrom, tick_count, HasGiven, AgreesFrom}
use Rattle.right_claim.specs.DriveLaws.{LawfulScriptsFit}
use Rattle.right_claim.proofs.GivenValues.{Apart, apart-inputs, apart-kept, all-right, all-left, all-joined, all-both, all-kept, turned, column-at, found, AreFound, new-found, old-found, found-holds, row_for, value-in-row, row-holds}

zero-in : (type : FixType) → InType type (pos 0)
zero-in type = values_stay_in_type Ground [] type false [] (pos 0) tt

-- each element is at some place
placed : {A : Type 0} (xs : List A) → AllByRecursion (λ x. (i : ℕ) × (slice_get xs i ≡ Some x)) xs
placed [] = tt
placed {A} (x ∷ xs) = (
  (0, refl),
  all-both (λ y. (i : ℕ) × (slice_get xs i ≡ Some y)) (λ y. ⊤) (λ y. (i : ℕ)
      × (slice_get (x ∷ xs) i ≡ Some y)) xs (λ y at t. (suc at.0, at.1)) (placed xs) (units xs),
)
  where
    units : (ys : List A) → AllByRecursion (λ y. ⊤) ys
    units [] = tt
    units (y ∷ ys) = (tt, units ys)

module _ (d : Diagram) (s : Option ℕ) (functions : List Function) where
  abbrev ports : List Port
  ports = input_ports d.rows s

  abbrev IsInput : Port → Type 0
  IsInput p = (i : ℕ) × (slice_get ports i ≡ Some p)

  abbrev IsTyped : Port → ℤ → Type 0
  IsTyped p v = InType (input_type_of d s p) v

  -- values of inputs, in their types, each of which is found
  record IsGood (given : List Given) : Type 0 where
    inputs : AllByRecursion (λ (e : Given). IsInput e.input) given
    typed : AllByRecursion (λ (e : Given). IsTyped e.input e.value) given
    are_found : AreFound given

  none-good : IsGood []
  none-good = record { inputs = tt; typed = tt; are_found = tt }

  -- ---- One call more

  given-inputs : (ps : List Port) (vs : List ℤ) → AllByRecursion IsInput ps →
      AllByRecursion (λ (e : Given). IsInput e.input) (given_of ps vs)
  given-inputs [] vs h = tt
  given-inputs (p ∷ ps) [] h = tt
  given-inputs (p ∷ ps) (v ∷ vs) h = (h.0, given-inputs ps vs h.1)

  given-typed : (ps : List Port) (vs : List ℤ) → AllZip IsTyped ps vs →
      AllByRecursion (λ (e : Given). IsTyped e.input e.value) (given_of ps vs)
  given-typed [] [] h = tt
  given-typed [] (v ∷ vs) h = absurd h
  given-typed (p ∷ ps) [] h = absurd h
  given-typed (p ∷ ps) (v ∷ vs) h = (h.0, given-typed ps vs h.1)

  call-inputs : (c : Call) → AllByRecursion IsInput (inputs_of d s functions c)
  call-inputs (out_with j values) = all-kept IsInput (λ p. has_bit (numbered_function functions j).inputs (bit_of p)) ports (placed ports)
  call-inputs (update_with values) = placed ports

  call-apart : (c : Call) → Apart (inputs_of d s functions c)
  call-apart (out_with j values) = apart-kept (λ p. has_bit (numbered_function functions j).inputs (bit_of p)) ports (apart-inputs d.rows s)
  call-apart (update_with values) = apart-inputs d.rows s

  with-call : (tick : TickSoFar) (c : Call) → CanFollow d s functions tick c → IsGood tick.given →
      IsGood (given_by d s functions c ++ tick.given)
  with-call tick c follows good =
      let ps = inputs_of d s functions c in
      let vs = values_of d s functions c in record {
        inputs = all-joined (λ (e : Given). IsInput e.input) (given_of ps vs) tick.given (given-inputs ps vs (call-inputs c)) good.inputs;
        typed = all-joined (λ (e : Given). IsTyped e.input e.value) (given_of ps vs) tick.given
            (given-typed ps vs follows.in_types) good.typed;
        are_found =
            all-joined (λ (e : Given). found e.input (given_of ps vs ++ tick.given) ≡ e.value)
            (given_of ps vs) tick.given (new-found ps vs tick.given (call-apart c))
            (all-both (λ (e : Given). AllByRecursion (λ (f : Given). e.input ≡ f.input → e.value ≡ f.value)
            (given_of ps vs)) (λ (e : Given). found e.input tick.given ≡ e.value)
            (λ (e : Given). found e.input (given_of ps vs ++ tick.given) ≡ e.value) tick.given
            (λ e like at. old-found e (given_of ps vs) tick.given like at)
            (turned (λ (e f : Given). e.input ≡ f.input → e.value ≡ f.value) tick.given
            (given_of ps vs) follows.alike) good.are_found);
      }

  -- the row of a tick has what was given, and lies in its types
  row-has : (given : List Given) → IsGood given → HasGiven d s functions (row_for ports given) given
  row-has given good =
      all-both (λ (e : Given). IsInput e.input) (λ (e : Given). found e.input given ≡ e.value)
      (λ (e : Given). value_at (row_for ports given) (column d.rows s e.input) ≡ e.value) given
      (λ e at is. ap (value_at (row_for ports given)) (column-at d.rows s at.0 e.input at.1)
      ∙ value-in-row ports given at.0 e.input at.1 ∙ is) good.inputs good.are_found

  row-typed : (given : List Given) → IsGood given → IsTraceRow d s (row_for ports given)
  row-typed given good = row-holds IsTyped ports given (λ p. found-holds IsTyped p given (zero-in (input_type_of d s p)) good.typed)

  -- ---- The trace

  -- the rows of a script, where the present tick was given these values, and has had a call or not
  abbrev rows_for : List Given → Bool → List Call → List (List ℤ)
  rows_for given false [] = []
  rows_for given true [] = row_for ports given ∷ []
  rows_for given had (out_with j values ∷ script) = rows_for (given_by d s functions (out_with j values) ++ given) true script
  rows_for given had (update_with values ∷ script) =
      row_for ports (given_by d s functions (update_with values) ++ given) ∷ rows_for [] false script

  count : (script : List Call) (given : List Given) →
      (length (rows_for given false script) ≡ tick_count d s functions script)
      × (length (rows_for given true script) ≡ max 1 (tick_count d s functions script))
  count [] given = (refl, refl)
  count (out_with j values ∷ script) given =
      let more = count script (given_by d s functions (out_with j values) ++ given) in
      (more.1, more.1 ∙ omega arith)
  count (update_with values ∷ script) given =
      let more = count script [] in
      (ap suc more.0, ap suc more.0 ∙ omega arith)

  typed-rows : (script : List Call) (tick : TickSoFar) (had : Bool) → IsLawfulFrom d s functions tick script →
      IsGood tick.given → IsTrace d s (rows_for tick.given had script)
  typed-rows [] tick false lawful good = tt
  typed-rows [] tick true lawful good = (row-typed tick.given good, tt)
  typed-rows (out_with j values ∷ script) tick had lawful good =
      typed-rows script (tick_after d s functions tick (out_with j values)) true lawful.1 (with-call tick (out_with j values) lawful.0 good)
  typed-rows (update_with values ∷ script) tick had lawful good = (
    row-typed (given_by d s functions (update_with values) ++ tick.given)
        (with-call tick (update_with values) lawful.0 good),
    typed-rows script nothing_yet false lawful.1 none-good,
  )

  -- the first row of a tick that had a call has what it was given
  first-has : (script : List Call) (tick : TickSoFar) → IsLawfulFrom d s functions tick script → IsGood tick.given →
      HasGiven d s functions (slice_index_or (rows_for tick.given true script) 0 []) tick.given
  first-has [] tick lawful good = row-has tick.given good
  first-has (out_with j values ∷ script) tick lawful good =
      all-right
      (λ (e : Given). value_at
      (slice_index_or (rows_for (given_by d s functions (out_with j values) ++ tick.given) true script) 0 [])
      (column d.rows s e.input) ≡ e.value) (given_by d s functions (out_with j values)) tick.given
      (first-has script (tick_after d s functions tick (out_with j values)) lawful.1 (with-call tick (out_with j values) lawful.0 good))
  first-has (update_with values ∷ script) tick lawful good =
      all-right (λ (e : Given). value_at (row_for ports (given_by d s functions (update_with values) ++ tick.given))
      (column d.rows s e.input) ≡ e.value) (given_by d s functions (update_with values)) tick.given
      (row-has (given_by d s functions (update_with values) ++ tick.given) (with-call tick (update_with values) lawful.0 good))

  -- a row more before a trace is a tick more
  later : (script : List Call) (t : ℕ) (row : List ℤ) (xs : List (List ℤ)) → AgreesFrom d s functions t xs script →
      AgreesFrom d s functions (suc t) (row ∷ xs) script
  later [] t row xs h = tt
  later (out_with j values ∷ script) t row xs h = (h.0, later script t row xs h.1)
  later (update_with values ∷ script) t row xs h = (h.0, later script (suc t) row xs h.1)

  agrees : (script : List Call) (tick : TickSoFar) (had : Bool) → IsLawfulFrom d s functions tick script →
      IsGood tick.given → AgreesFrom d s functions 0 (rows_for tick.given had script) script
  agrees [] tick had lawful good = tt
  agrees (out_with j values ∷ script) tick had lawful good =
      let next = tick_after d s functions tick (out_with j values) in
      let good_next = with-call tick (out_with j values) lawful.0 good in (
        all-left (λ (e : Given). value_at (slice_index_or (rows_for next.given true script) 0 [])
            (column d.rows s e.input) ≡ e.value) (given_by d s functions (out_with j values)) tick.given
            (first-has script next lawful.1 good_next),
        agrees script next true lawful.1 good_next,
      )
  agrees (update_with values ∷ script) tick had lawful good = (
    all-left (λ (e : Given). value_at (row_for ports (given_by d s functions (update_with values) ++ tick.given))
        (column d.rows s e.input) ≡ e.value) (given_by d s functions (update_with values)) tick.given
        (row-has (given_by d s functions (update_with values) ++ tick.given) (with-call tick (update_with values) lawful.0 good)),
    later script 0 (row_for ports (given_by d s functions (update_with values) ++ tick.given))
        (rows_for [] false script) (agrees script nothing_yet false lawful.1 none-good),
  )

pub lawful_scripts_fit : LawfulScriptsFit
lawful_scripts_fit d s functions script lawful = (
  rows_for d s functions [] false script,
  typed-rows d s functions script nothing_yet false lawful (none-good d s functions),
  record {
    one_row_each = (count d s functions script []).0;
    agrees = agrees d s functions script nothing_yet false lawful (none-good d s functions);
  },
)
