-- How a map from inputs follows the line ends that lead to them.
use Rattle.std.proofs.Common.{◌≡◌, refl, sym, ◌∙◌, ap, ap₂, ℕ, suc, ◌+◌, ◌-◌, ◌<◌, ◌≤◌, Bool, true, false, ◌&&◌, ◌||◌, cond, List, [], ◌∷◌, ◌++◌, length, take, append_assoc, append-nil, Option, None, Some, is_some, arith, true≢false}
use Rattle.std.specs.Prelude.{◌==◌, not, find, filter_map, slice_get, option_and_then, option_to_list}
use Rattle.std.specs.Option.{option_or, option_copied}
use Rattle.std.specs.List.{position_from, list_any, range_with_len}
use denote.Ref.{Bor}
use Rattle.std.proofs.lemmas.Bool.Decides.{nat_tests}
use Rattle.indexmap.specs.IndexMap.{IndexMap, Updates}
use Rattle.mdl_wiring.specs.declared.ports.Input.{Input}
use Rattle.mdl_wiring.specs.declared.ports.Source.{Source}
use Rattle.mdl_wiring.specs.Lines.{LineEnd}
use Rattle.mdl_wiring.specs.Ports.{are_one, is_input, input_at, output_at, leads_to}
use Rattle.mdl_wiring.specs.NameMaps.{is_before}
use Rattle.mdl_wiring.specs.Refusals.{is_loose}
use Rattle.mdl_wiring.specs.Held.{first_end, end_at, AreInputsOf}
use Rattle.mdl_wiring.specs.Wiring.{source_into}
use Rattle.mdl_wiring.proofs.NameLemmas.{position_from-push, option_or-None, place-before}

-- ---- Equal inputs

equal : (a b : ℕ) → (a == b) ≡ true → a ≡ b
equal a b e = grind (arith, nat_tests)

equal-refl : (a : ℕ) → (a == a) ≡ true
equal-refl a = grind (arith, nat_tests)

and-left : (a b : Bool) → (a && b) ≡ true → a ≡ true
and-left true b e = refl
and-left false b e = e

and-right : (a b : Bool) → (a && b) ≡ true → b ≡ true
and-right true b e = e
and-right false b e = absurd (true≢false (sym e))

pub one-refl : (a : Input) → are_one a a ≡ true
one-refl a = ap₂ ◌&&◌ (equal-refl a.member) (equal-refl a.number)

pub one-equal : (a b : Input) → are_one a b ≡ true → a ≡ b
one-equal a b e =
    let member : a.member ≡ b.member = equal a.member b.member (and-left (a.member == b.member) (a.number == b.number) e) in
    let number : a.number ≡ b.number = equal a.number b.number (and-right (a.member == b.member) (a.number == b.number) e) in
    ap₂ (λ (x : ℕ) (y : ℕ). by x y) member number
  where
    by : ℕ → ℕ → Input
    by x y = record { member = x; number = y }

one-swap : (a b : Input) → are_one a b ≡ are_one b a
one-swap a b = by_tests (are_one a b) (are_one b a) refl refl
  where
    by_tests : (t u : Bool) → are_one a b ≡ t → are_one b a ≡ u → t ≡ u
    by_tests true true f g = refl
    by_tests true false f g = sym (one-refl a) ∙ ap (λ x. are_one x a) (one-equal a b f) ∙ g
    by_tests false true f g = sym f ∙ ap (λ x. are_one a x) (one-equal b a g) ∙ one-refl a
    by_tests false false f g = refl

-- ---- One line end more

end-push : (ends : List LineEnd) (e : LineEnd) (input : Input) →
    first_end input (ends ++ e ∷ []) ≡ option_or (first_end input ends) (cond (leads_to input e) (Some (length ends)) None)
end-push ends e input =
    position_from-push (leads_to input) 0 ends e
    ∙ ap (λ n. option_or (first_end input ends) (cond (leads_to input e) (Some n) None)) (sum (length ends))
  where
    sum : (n : ℕ) → 0 + n ≡ n
    sum n = omega arith

-- another input
end-other : (ends : List LineEnd) (e : LineEnd) (input : Input) → leads_to input e ≡ false →
    first_end input (ends ++ e ∷ []) ≡ first_end input ends
end-other ends e input f =
    end-push ends e input ∙ ap (λ t. option_or (first_end input ends) (cond t (Some (length ends)) None)) f
    ∙ option_or-None (first_end input ends)

-- an input to which an earlier one leads
end-again : (ends : List LineEnd) (e : LineEnd) (input : Input) → is_some (first_end input ends) ≡ true →
    first_end input (ends ++ e ∷ []) ≡ first_end input ends
end-again ends e input f = end-push ends e input ∙ keeps (first_end input ends) _ f
  where
    keeps : (o more : Option ℕ) → is_some o ≡ true → option_or o more ≡ o
    keeps None more e = absurd (true≢false (sym e))
    keeps (Some n) more e = refl

-- an input to which none leads
end-new : (ends : List LineEnd) (e : LineEnd) (input : Input) → leads_to input e ≡ true → first_end input ends ≡ None →
    first_end input (ends ++ e ∷ []) ≡ Some (length ends)
end-new ends e input same f =
    end-push ends e input ∙ ap (λ t. option_or (first_end input ends) (cond t (Some (length ends)) None)) same
    ∙ ap (λ o. option_or o (Some (length ends))) f

-- ---- The map

pub inputs-none : {S : Type 0} (ends : List LineEnd) (e : LineEnd) (inputs : IndexMap Input ℕ S) → AreInputsOf ends inputs →
    None ≡ input_at e.target → AreInputsOf (ends ++ e ∷ []) inputs
inputs-none ends e inputs h none input = h input ∙ sym (end-other ends e input (ap (is_input input) (sym none)))

pub inputs-known : {S : Type 0} (ends : List LineEnd) (e : LineEnd) (inputs : IndexMap Input ℕ S) (key : Input) →
    AreInputsOf ends inputs → Some key ≡ input_at e.target → is_some (end_at inputs key) ≡ true →
    AreInputsOf (ends ++ e ∷ []) inputs
inputs-known ends e inputs key h own known input = h input ∙ sym (by_test (are_one input key) refl)
  where
    by_test : (t : Bool) → are_one input key ≡ t → first_end input (ends ++ e ∷ []) ≡ first_end input ends
    by_test true f =
        end-again ends e input (ap is_some (sym (h input)) ∙ ap (λ n. is_some (end_at inputs n)) (one-equal input key f)
        ∙ known)
    by_test false f = end-other ends e input (ap (is_input input) (sym own) ∙ f)

pub inputs-new : {S : Type 0} (ends : List LineEnd) (e : LineEnd) (inputs wider : IndexMap Input ℕ S) (key : Input) (place : ℕ) →
    AreInputsOf ends inputs → Some key ≡ input_at e.target → end_at inputs key ≡ None → place ≡ length ends →
    Updates are_one inputs wider key (Some place) → AreInputsOf (ends ++ e ∷ []) wider
inputs-new ends e inputs wider key place h own new last updates input =
    updates.0 input ∙ ap (λ r. cond (are_one key input) (Some r) (end_at inputs input)) last ∙ by_test (are_one key input) refl
  where
    named : (t : Bool) → are_one key input ≡ t → leads_to input e ≡ t
    named t f = ap (is_input input) (sym own) ∙ one-swap input key ∙ f

    before : are_one key input ≡ true → first_end input ends ≡ None
    before f = sym (h input) ∙ ap (λ n. end_at inputs n) (sym (one-equal key input f)) ∙ new

    by_test : (t : Bool) → are_one key input ≡ t → cond t (Some (length ends)) (end_at inputs input) ≡ first_end input (ends ++ e ∷ [])
    by_test true f = sym (end-new ends e input (named true f) (before f))
    by_test false f = h input ∙ sym (end-other ends e input (named false f))

-- ---- What a look-up gave

pub copied_None : (found : Option (Bor ℕ)) → is_some found ≡ false → option_copied found ≡ None
copied_None None e = refl
copied_None (Some r) e = absurd (true≢false e)

pub copied_some : (found : Option (Bor ℕ)) → is_some (option_copied found) ≡ is_some found
copied_some None = refl
copied_some (Some r) = refl

-- ---- What the map says

-- whether an earlier line end leads to an input
pub led-before : {S : Type 0} (ends : List LineEnd) (inputs : IndexMap Input ℕ S) (input : Input) (at : ℕ) → AreInputsOf ends inputs →
    is_before (end_at inputs input) at ≡ list_any (leads_to input) (take at ends)
led-before ends inputs input at h = ap (λ o. is_before o at) (h input) ∙ ap (is_before (first_end input ends)) (zero_plus at)
    ∙ place-before (leads_to input) 0 at ends
  where
    zero_plus : (n : ℕ) → n ≡ 0 + n
    zero_plus n = omega arith

none-any : {X : Type 0} (test : X → Bool) (k : ℕ) (xs : List X) → is_some (position_from test k xs) ≡ list_any test xs
none-any test k [] = refl
none-any test k (x ∷ xs) = by (test x) (none-any test (k + 1) xs)
  where
    by : (t : Bool) → is_some (position_from test (k + 1) xs) ≡ list_any test xs →
        is_some (cond t (Some k) (position_from test (k + 1) xs)) ≡ (t || list_any test xs)
    by true same = refl
    by false same = same

-- whether a line end leads to an input
pub led : {S : Type 0} (ends : List LineEnd) (inputs : IndexMap Input ℕ S) (at number : ℕ) → AreInputsOf ends inputs →
    is_loose ends at number ≡ not (is_some (end_at inputs (record { member = at; number = number })))
led ends inputs at number h = sym (ap (λ o. not (is_some o)) (h input) ∙ ap not (none-any (leads_to input) 0 ends))
  where
    input : Input
    input = record { member = at; number = number }

find_from : {X : Type 0} (test : X → Bool) (all : List X) (k : ℕ) (xs : List X) → ((i : ℕ) → slice_get all (k + i) ≡ slice_get xs i) →
    find test xs ≡ option_and_then (slice_get all) (position_from test k xs)
find_from test all k [] same = refl
find_from test all k (x ∷ xs) same = by (test x) (find_from test all (k + 1) xs (λ i. ap (slice_get all) (plus_suc k i) ∙ same (suc i)))
  where
    plus_suc : (k i : ℕ) → k + 1 + i ≡ k + suc i
    plus_suc k i = omega arith

    plus_zero : (k : ℕ) → k ≡ k + 0
    plus_zero k = omega arith

    by : (t : Bool) → find test xs ≡ option_and_then (slice_get all) (position_from test (k + 1) xs) →
        cond t (Some x) (find test xs) ≡ option_and_then (slice_get all) (cond t (Some k) (position_from test (k + 1) xs))
    by true more = sym (ap (slice_get all) (plus_zero k) ∙ same 0)
    by false more = more

-- the first item that passes is that at the first place
find-at : {X : Type 0} (test : X → Bool) (xs : List X) → find test xs ≡ option_and_then (slice_get xs) (position_from test 0 xs)
find-at test xs = find_from test xs 0 xs (λ i. ap (slice_get xs) (zero_plus i))
  where
    zero_plus : (i : ℕ) → 0 + i ≡ i
    zero_plus i = omega arith

-- the source of the first line end that leads to an input
pub source-led : {S : Type 0} (ends : List LineEnd) (inputs : IndexMap Input ℕ S) (input : Input) (at : Option ℕ) →
    AreInputsOf ends inputs → at ≡ end_at inputs input →
    option_and_then (λ at. option_and_then (λ (e : LineEnd). output_at e.source) (slice_get ends at)) at ≡ source_into ends input
source-led ends inputs input at h e =
    ap (option_and_then (λ at. option_and_then (λ (e : LineEnd). output_at e.source) (slice_get ends at))) (e ∙ h input)
    ∙ by (first_end input ends) ∙ ap (option_and_then (λ (e : LineEnd). output_at e.source)) (sym (find-at (leads_to input) ends))
  where
    by : (at : Option ℕ) → option_and_then (λ at. option_and_then (λ (e : LineEnd). output_at e.source) (slice_get ends at)) at
        ≡ option_and_then (λ (e : LineEnd). output_at e.source) (option_and_then (slice_get ends) at)
    by None = refl
    by (Some at) = refl

-- ---- Inputs by their numbers

-- the numbers from one on
pub range-more : (i n : ℕ) → i < n → range_with_len (i + 1) (n - i) ≡ (i + 1) ∷ range_with_len (i + 1 + 1) (n - (i + 1))
range-more i n h = ap (range_with_len (i + 1)) (left i n h)
  where
    left : (i n : ℕ) → i < n → n - i ≡ suc (n - (i + 1))
    left i n h = omega arith

-- no number is left
pub range-end : (i n : ℕ) → n ≤ i → range_with_len (i + 1) (n - i) ≡ []
range-end i n h = ap (range_with_len (i + 1)) (none i n h)
  where
    none : (i n : ℕ) → n ≤ i → n - i ≡ 0
    none i n h = omega arith

-- the first number that passes is found
pub find-here : (test : ℕ → Bool) (i n : ℕ) (whole : Option ℕ) → i < n → test (i + 1) ≡ true →
    find test (range_with_len (i + 1) (n - i)) ≡ whole → Some (i + 1) ≡ whole
find-here test i n whole h t all =
    sym (ap (find test) (range-more i n h) ∙ ap (λ t. cond t (Some (i + 1)) (find test (range_with_len (i + 1 + 1) (n - (i + 1))))) t) ∙ all

-- one that doesn't is passed by
pub find-later : (test : ℕ → Bool) (i n : ℕ) (whole : Option ℕ) → i < n → test (i + 1) ≡ false →
    find test (range_with_len (i + 1) (n - i)) ≡ whole →
    find test (range_with_len (i + 1 + 1) (n - (i + 1))) ≡ whole
find-later test i n whole h t all =
    sym (ap (find test) (range-more i n h) ∙ ap (λ t. cond t (Some (i + 1)) (find test (range_with_len (i + 1 + 1) (n - (i + 1))))) t) ∙ all

-- none passes
pub find-end : (test : ℕ → Bool) (i n : ℕ) (whole : Option ℕ) → n ≤ i → find test (range_with_len (i + 1) (n - i)) ≡ whole → None ≡ whole
find-end test i n whole h all = sym (ap (find test) (range-end i n h)) ∙ all

-- one source more is taken
pub sources-more : (source : ℕ → Option Source) (i n : ℕ) (olds news whole : List Source) → i < n →
    news ≡ olds ++ option_to_list (source (i + 1)) →
    olds ++ filter_map source (range_with_len (i + 1) (n - i)) ≡ whole →
    news ++ filter_map source (range_with_len (i + 1 + 1) (n - (i + 1))) ≡ whole
sources-more source i n olds news whole h pushed all =
    let rest = filter_map source (range_with_len (i + 1 + 1) (n - (i + 1))) in
    ap (λ xs. xs ++ rest) pushed ∙ append_assoc olds (option_to_list (source (i + 1))) rest
    ∙ ap (λ xs. olds ++ xs) (by (source (i + 1)) refl)
    ∙ ap (λ ns. olds ++ filter_map source ns) (sym (range-more i n h)) ∙ all
  where
    by : (o : Option Source) → source (i + 1) ≡ o →
        option_to_list (source (i + 1)) ++ filter_map source (range_with_len (i + 1 + 1) (n - (i + 1)))
        ≡ filter_map source ((i + 1) ∷ range_with_len (i + 1 + 1) (n - (i + 1)))
    by None e = cc
    by (Some s) e = cc

-- no input is left
pub sources-end : (source : ℕ → Option Source) (i n : ℕ) (olds whole : List Source) → n ≤ i →
    olds ++ filter_map source (range_with_len (i + 1) (n - i)) ≡ whole → olds ≡ whole
sources-end source i n olds whole h all = sym (append-nil olds) ∙ ap (λ ns. olds ++ filter_map source ns) (sym (range-end i n h)) ∙ all
