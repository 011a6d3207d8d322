-- The results of evaluations as outcomes.
use Rattle.std.specs.Prelude.{◌≡◌, ◌<◌, ⊤, ℕ, ℤ, List, length, Option, None, Result, Ok, Err}
use Rattle.lustre_flows.specs.declared.stuck.LusWhy.{LusWhy}
use Rattle.lustre_flows.specs.Values.{Outcome, gives, waits, fails, value_at}
use Rattle.lustre_flows.specs.FlowLaws.{ValuesStay}
use Rattle.lustre_evaluation.specs.declared.outcome.Unmet.{Unmet}
use Rattle.lustre_evaluation.specs.declared.outcome.Unmet.TheVariants.{Waits, Never, Fails}

-- what a result of arithmetic says
abbrev pub number_outcome : Result ℤ LusWhy → Outcome
number_outcome (Ok value) = gives value
number_outcome (Err why) = fails why

-- what a result says
abbrev pub unmet : Unmet → Outcome
unmet (Waits name) = waits
unmet Never = waits
unmet (Fails why) = fails why

abbrev pub result_outcome : Result ℤ Unmet → Outcome
result_outcome (Ok value) = gives value
result_outcome (Err why) = unmet why

-- with more values it waits still, as long as that name has none
abbrev pub WaitsFor : (List (Option ℤ) → Outcome) → List (Option ℤ) → ℕ → Type 0
WaitsFor outcome values name =
    (later : List (Option ℤ)) → ValuesStay values later → value_at later name ≡ None →
    outcome later ≡ waits

-- with more values it waits still
abbrev pub WaitsAlways : (List (Option ℤ) → Outcome) → List (Option ℤ) → Type 0
WaitsAlways outcome values = (later : List (Option ℤ)) → ValuesStay values later → outcome later ≡ waits

-- what has this outcome waits for the name that is reported, which has no value
abbrev pub IsWaiting : (List (Option ℤ) → Outcome) → List (Option ℤ) → Unmet → Type 0
IsWaiting outcome values (Waits name) =
    (name < length values) × (value_at values name ≡ None) × WaitsFor outcome values name
IsWaiting outcome values Never = WaitsAlways outcome values
IsWaiting outcome values (Fails why) = ⊤
