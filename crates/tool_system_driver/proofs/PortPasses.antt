-- The ports of a system on a side, one after another.
use Rattle.std.specs.Prelude.{◌≡◌, refl, ℕ, zero, suc, ◌+◌, ◌-◌, ◌<◌, ◌≤◌, ◌&&◌, ◌==◌, Bool, true, false, List, [], ◌∷◌, ◌++◌, find, filter, filter_map, length, count_by, Option, None, Some}
use Rattle.std.specs.Option.{option_to_list}
use Rattle.std.specs.List.{cons_option, range_with_len}
use Rattle.std.proofs.Common.{sym, ◌∙◌, ap, ap₂, cond, arith}
use Rattle.std.proofs.lemmas.List.Elements.{filter_map-append}
use Rattle.std.proofs.lemmas.List.Sums.{length-filter}
use mathlib.Core.Path.{fun_ext}
use Rattle.diagram_blocks.specs.declared.Kind.{Kind}
use Rattle.diagram_meaning.specs.declared.table.Row.{Row}
use Rattle.diagram_meaning.specs.Rows.{row_at, row_numbers, by_port, same_system, is_own}
use Rattle.diagram_blocks.specs.Kinds.{port_of}
use Rattle.tool_system_driver.specs.Ports.{is_at}

-- ---- Ranges one longer

range-snoc : (a n : ℕ) → range_with_len a (suc n) ≡ range_with_len a n ++ (a + n) ∷ []
range-snoc a zero = let same : a ≡ a + 0 = omega arith in ap (λ k. k ∷ []) same
range-snoc a (suc n) =
    let same : a + 1 + n ≡ a + suc n = omega arith in
    ap (λ ks. a ∷ ks) (range-snoc (a + 1) n ∙ ap (λ k. range_with_len (a + 1) n ++ k ∷ []) same)

filter_map-more : (f : ℕ → Option ℕ) (a n b : ℕ) → a + n ≡ b →
    filter_map f (range_with_len a (n + 1)) ≡ filter_map f (range_with_len a n) ++ option_to_list (f b)
filter_map-more f a n b e =
    let more : n + 1 ≡ suc n = omega arith in
    ap (λ k. filter_map f (range_with_len a k)) more
    ∙ ap (filter_map f) (range-snoc a n ∙ ap (λ k. range_with_len a n ++ k ∷ []) e)
    ∙ filter_map-append f (range_with_len a n) (b ∷ []) ∙ ap (λ ks. filter_map f (range_with_len a n) ++ ks) (one (f b))
  where
    one : (o : Option ℕ) → cons_option o [] ≡ option_to_list o
    one None = refl
    one (Some k) = refl

-- one port more
pub found-more : (f : ℕ → Option ℕ) (port : ℕ) (found : List ℕ) (now : Option ℕ) → 1 ≤ port →
    found ≡ filter_map f (range_with_len 1 (port - 1)) → now ≡ f port →
    found ++ option_to_list now ≡ filter_map f (range_with_len 1 (port + 1 - 1))
found-more f port found now low e is =
    let here : 1 + (port - 1) ≡ port = omega arith in
    let next : port - 1 + 1 ≡ port + 1 - 1 = omega arith in
    ap₂ (λ xs o. xs ++ option_to_list o) e is
    ∙ sym (filter_map-more f 1 (port - 1) port here) ∙ ap (λ n. filter_map f (range_with_len 1 n)) next

-- ---- Two tests one after another

-- those that pass both
filter-both : (p q : ℕ → Bool) (xs : List ℕ) → filter (λ b. p b && q b) xs ≡ filter q (filter p xs)
filter-both p q [] = refl
filter-both p q (x ∷ xs) = by (p x) (filter-both p q xs)
  where
    by : (t : Bool) → filter (λ b. p b && q b) xs ≡ filter q (filter p xs) →
        cond (t && q x) (x ∷ filter (λ b. p b && q b) xs) (filter (λ b. p b && q b) xs) ≡ filter q (cond t (x ∷ filter p xs) (filter p xs))
    by true e = ap (λ ys. cond (q x) (x ∷ ys) ys) e
    by false e = e

-- the first that passes both
find-both : (p q : ℕ → Bool) (xs : List ℕ) → find (λ b. p b && q b) xs ≡ find q (filter p xs)
find-both p q [] = refl
find-both p q (x ∷ xs) = by (p x) (find-both p q xs)
  where
    by : (t : Bool) → find (λ b. p b && q b) xs ≡ find q (filter p xs) →
        cond (t && q x) (Some x) (find (λ b. p b && q b) xs) ≡ find q (cond t (x ∷ filter p xs) (filter p xs))
    by true e = ap (cond (q x) (Some x)) e
    by false e = e

-- ---- As many ports as there are rows that pass

first_number : (k : ℕ) → k ≡ k + 0
first_number k = omega arith

later_number : (k i : ℕ) → k + 1 + i ≡ k + suc i
later_number k i = omega arith

-- as many numbers from one on pass a test as rows pass another
count-kept : (test : ℕ → Bool) (own : Row → Bool) (k : ℕ) (rows : List Row) →
    ((i : ℕ) → i < length rows → test (k + i) ≡ own (row_at rows i)) →
    length (filter test (range_with_len k (length rows))) ≡ length (filter own rows)
count-kept test own k [] h = refl
count-kept test own k (x ∷ xs) h =
    ap (λ t. length (cond t (k ∷ filter test (range_with_len (k + 1) (length xs))) (filter test (range_with_len (k + 1) (length xs)))))
    (ap test (first_number k) ∙ h 0 (omega arith))
    ∙ by (own x) (count-kept test own (k + 1) xs (λ i g. ap test (later_number k i) ∙ h (suc i) (omega (arith, g))))
  where
    by : (t : Bool) → length (filter test (range_with_len (k + 1) (length xs))) ≡ length (filter own xs) →
        length (cond t (k ∷ filter test (range_with_len (k + 1) (length xs))) (filter test (range_with_len (k + 1) (length xs))))
        ≡ length (cond t (x ∷ filter own xs) (filter own xs))
    by true more = ap suc more
    by false more = more

-- the rows of all ports are the ports of the system
pub ports-are : (rows : List Row) (test : Kind → Bool) (s : Option ℕ) →
    filter_map (λ k. find (λ b. is_at test s k (row_at rows b)) (row_numbers rows)) (range_with_len 1 (count_by (is_own test s) rows))
    ≡ by_port rows s test
ports-are rows test s =
    let passes : ℕ → Bool = λ b. is_own test s (row_at rows b) in
    let of_system : ℕ → Bool = λ b. same_system (row_at rows b).owner s in
    let of_kind : ℕ → Bool = λ b. test (row_at rows b).kind in
    let counted : count_by (is_own test s) rows ≡ length (filter passes (row_numbers rows)) =
    sym (length-filter (is_own test s) rows)
    ∙ sym (count-kept passes (is_own test s) 0 rows (λ i below. ap passes (let same : 0 + i ≡ i = omega arith in same))) in
    ap₂ (λ (f : ℕ → Option ℕ) (n : ℕ). filter_map f (range_with_len 1 n))
    (fun_ext (λ k. find-both passes (λ b. port_of (row_at rows b).kind == k) (row_numbers rows))) counted
    ∙ ap (λ own. filter_map (λ k. find (λ b. port_of (row_at rows b).kind == k) own) (range_with_len 1 (length own)))
    (filter-both of_system of_kind (row_numbers rows))
