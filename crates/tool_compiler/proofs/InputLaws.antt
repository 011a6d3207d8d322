-- The Inports of the root by their ports, one port after another.
use Rattle.std.specs.Prelude.{◌≡◌, refl, ℕ, zero, suc, ◌+◌, ◌-◌, ◌<◌, ◌≤◌, ◌&&◌, ◌==◌, Bool, true, false, List, [], ◌∷◌, ◌++◌, map, find, filter, filter_map, length, count_by, Option, None, Some}
use Rattle.std.specs.Option.{option_to_list}
use Rattle.std.specs.List.{cons_option, range_with_len}
use Rattle.std.proofs.Common.{sym, ◌∙◌, ap, ap₂, cond, arith}
use Rattle.std.proofs.lemmas.List.{map-append}
use Rattle.std.proofs.lemmas.List.Elements.{filter_map-append}
use Rattle.std.proofs.lemmas.List.Sums.{length-filter}
use mathlib.Core.Path.{fun_ext}
use Rattle.base_fixed_point.specs.declared.FixType.{FixType}
use Rattle.diagram_meaning.specs.declared.table.Row.{Row}
use Rattle.diagram_meaning.specs.Rows.{row_at, row_numbers, inports_of, same_system}
use Rattle.diagram_blocks.specs.Kinds.{is_inport, port_of}
use Rattle.diagram_meaning.specs.Types.{type_at}
use Rattle.tool_compiler.specs.Inputs.{is_root_inport, root_inport_with}

-- ---- Ranges one longer

range-snoc : (a n : ℕ) → range_with_len a (suc n) ≡ range_with_len a n ++ (a + n) ∷ []
range-snoc a zero = let same : a ≡ a + 0 = omega arith in ap (λ k. k ∷ []) same
range-snoc a (suc n) = let same : a + 1 + n ≡ a + suc n = omega arith in
    ap (λ ks. a ∷ ks) (range-snoc (a + 1) n ∙ ap (λ k. range_with_len (a + 1) n ++ k ∷ []) same)

filter_map-more : (f : ℕ → Option ℕ) (a n b : ℕ) → a + n ≡ b →
    filter_map f (range_with_len a (n + 1)) ≡ filter_map f (range_with_len a n) ++ option_to_list (f b)
filter_map-more f a n b e =
    let more : n + 1 ≡ suc n = omega arith in
    ap (λ k. filter_map f (range_with_len a k)) more ∙ ap (filter_map f) (range-snoc a n ∙ ap (λ k. range_with_len a n ++ k ∷ []) e)
    ∙ filter_map-append f (range_with_len a n) (b ∷ []) ∙ ap (λ ks. filter_map f (range_with_len a n) ++ ks) (one (f b))
  where
    one : (o : Option ℕ) → cons_option o [] ≡ option_to_list o
    one None = refl
    one (Some k) = refl

-- one port more
pub inputs-more : (rows : List Row) (types : List FixType) (port : ℕ) (inputs : List FixType) (found : Option ℕ) → 1 ≤ port →
    inputs ≡ map (type_at types) (filter_map (root_inport_with rows) (range_with_len 1 (port - 1))) → found ≡ root_inport_with rows port →
    inputs ++ map (type_at types) (option_to_list found)
    ≡ map (type_at types) (filter_map (root_inport_with rows) (range_with_len 1 (port + 1 - 1)))
inputs-more rows types port inputs found low e is =
    let here : 1 + (port - 1) ≡ port = omega arith in
    let next : port - 1 + 1 ≡ port + 1 - 1 = omega arith in
    let before = filter_map (root_inport_with rows) (range_with_len 1 (port - 1)) in
    ap₂ (λ xs o. xs ++ map (type_at types) (option_to_list o)) e is
    ∙ sym (map-append (type_at types) before (option_to_list (root_inport_with rows port)))
    ∙ ap (map (type_at types))
    (sym (filter_map-more (root_inport_with rows) 1 (port - 1) port here)
    ∙ ap (λ n. filter_map (root_inport_with rows) (range_with_len 1 n)) next)

-- ---- Two tests one after another

-- those that pass both
filter-both : (p q : ℕ → Bool) (xs : List ℕ) → filter (λ b. p b && q b) xs ≡ filter q (filter p xs)
filter-both p q [] = refl
filter-both p q (x ∷ xs) = by (p x) (filter-both p q xs)
  where
    by : (t : Bool) → filter (λ b. p b && q b) xs ≡ filter q (filter p xs) →
        cond (t && q x) (x ∷ filter (λ b. p b && q b) xs) (filter (λ b. p b && q b) xs) ≡ filter q (cond t (x ∷ filter p xs) (filter p xs))
    by true e = ap (λ ys. cond (q x) (x ∷ ys) ys) e
    by false e = e

-- the first that passes both
find-both : (p q : ℕ → Bool) (xs : List ℕ) → find (λ b. p b && q b) xs ≡ find q (filter p xs)
find-both p q [] = refl
find-both p q (x ∷ xs) = by (p x) (find-both p q xs)
  where
    by : (t : Bool) → find (λ b. p b && q b) xs ≡ find q (filter p xs) →
        cond (t && q x) (Some x) (find (λ b. p b && q b) xs) ≡ find q (cond t (x ∷ filter p xs) (filter p xs))
    by true e = ap (cond (q x) (Some x)) e
    by false e = e

-- ---- As many ports as there are Inports

first_number : (k : ℕ) → k ≡ k + 0
first_number k = omega arith

later_number : (k i : ℕ) → k + 1 + i ≡ k + suc i
later_number k i = omega arith

-- as many numbers from one on pass a test as rows pass another
count-kept : (test : ℕ → Bool) (own : Row → Bool) (k : ℕ) (rows : List Row) →
    ((i : ℕ) → i < length rows → test (k + i) ≡ own (row_at rows i)) →
    length (filter test (range_with_len k (length rows))) ≡ length (filter own rows)
count-kept test own k [] h = refl
count-kept test own k (x ∷ xs) h =
    ap (λ t.
    length (cond t (k ∷ filter test (range_with_len (k + 1) (length xs)))
    (filter test (range_with_len (k + 1) (length xs))))) (ap test (first_number k) ∙ h 0 (omega arith))
    ∙ by (own x) (count-kept test own (k + 1) xs (λ i g. ap test (later_number k i) ∙ h (suc i) (omega (arith, g))))
  where
    by : (t : Bool) → length (filter test (range_with_len (k + 1) (length xs))) ≡ length (filter own xs) →
        length (cond t (k ∷ filter test (range_with_len (k + 1) (length xs)))
        (filter test (range_with_len (k + 1) (length xs)))) ≡ length (cond t (x ∷ filter own xs) (filter own xs))
    by true more = ap suc more
    by false more = more

-- the Inports of all ports are those of the root
pub inports-are : (rows : List Row) →
    filter_map (root_inport_with rows) (range_with_len 1 (count_by is_root_inport rows)) ≡ inports_of rows None
inports-are rows =
    let test : ℕ → Bool = λ b. is_root_inport (row_at rows b) in
    let of_root : ℕ → Bool = λ b. same_system (row_at rows b).owner None in
    let inport : ℕ → Bool = λ b. is_inport (row_at rows b).kind in
    let counted : count_by is_root_inport rows ≡ length (filter test (row_numbers rows)) =
    sym (length-filter is_root_inport rows)
    ∙ sym (count-kept test is_root_inport 0 rows (λ i below. ap test (let same : 0 + i ≡ i = omega arith in same))) in
    ap₂ (λ (f : ℕ → Option ℕ) (n : ℕ). filter_map f (range_with_len 1 n))
    (fun_ext (λ k. find-both test (λ b. port_of (row_at rows b).kind == k) (row_numbers rows))) counted
    ∙ ap (λ own. filter_map (λ k. find (λ b. port_of (row_at rows b).kind == k) own) (range_with_len 1 (length own)))
    (filter-both of_root inport (row_numbers rows))
