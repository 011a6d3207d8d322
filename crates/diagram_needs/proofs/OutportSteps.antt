-- The Outports of a system, by port, and the masks of its rows.
use Rattle.std.specs.Prelude.{◌≡◌, ℕ, zero, suc, ◌+◌, ◌<◌, ◌^◌, ◌==◌, ◌&&◌, Bool, true, false, List, [], ◌∷◌, ◌++◌, filter, filter_map, find, take, length, get_or, Option, Some, None, IfSome, All, refl}
use Rattle.std.specs.Int.Bits.{bit_or}
use Rattle.std.specs.List.{AllByRecursion, AllZip, cons_option, range_with_len}
use Rattle.std.specs.Option.{option_to_list, option_or}
use Rattle.std.proofs.Common.{arith, sym, ap, subst, ◌∙◌, cond}
use Rattle.std.proofs.lemmas.List.{take_more}
use Rattle.std.proofs.lemmas.List.Elements.{All-filter, All-from_recursion, recursion_from_All, AllZip-push, filter-append, filter_map-append}
use Rattle.std.proofs.lemmas.List.Folds.{find-append}
use Rattle.std.proofs.lemmas.List.FromFn.{get_or-range_with_len, length-range_with_len}
use Rattle.diagram_meaning.specs.declared.table.Row.{Row}
use Rattle.diagram_meaning.specs.Rows.{row_at, same_system, system_control, outports_of}
use Rattle.diagram_blocks.specs.Kinds.{is_outport, port_of}
use Rattle.diagram_meaning.specs.Diagram.{Diagram}
use Rattle.diagram_meaning.specs.Needs.{TrueNeeds, IsMaskOf, AreTrueNeeds}
use Rattle.base_core.specs.Ports.{control_mask}
use Rattle.diagram_needs.specs.TrueNeeds.{AreReachedInputs}
use Rattle.diagram_needs.proofs.InputSteps.{reached-mask}

-- ---- Lists one longer

range-suc : (a n b : ℕ) → a + n ≡ b → range_with_len a (suc n) ≡ range_with_len a n ++ b ∷ []
range-suc a zero b e = let same : a ≡ b = omega arith in ap (λ x. x ∷ []) same
range-suc a (suc n) b e = ap (λ l. a ∷ l) (range-suc (a + 1) n b (omega arith))

range-more : (a n b : ℕ) → a + n ≡ b → range_with_len a (n + 1) ≡ range_with_len a n ++ b ∷ []
range-more a n b e = let more : n + 1 ≡ suc n = omega arith in ap (range_with_len a) more ∙ range-suc a n b e

filters-one : (p q : ℕ → Bool) (n : ℕ) (u v : Bool) → q n ≡ u → p n ≡ v → filter p (filter q (n ∷ [])) ≡ cond (u && v) (n ∷ []) []
filters-one p q n true v e f = ap (λ t. filter p (cond t (n ∷ []) [])) e ∙ ap (λ t. cond t (n ∷ []) []) f
filters-one p q n false v e f = ap (λ t. filter p (cond t (n ∷ []) [])) e

-- the Outports of a system among the first n rows
abbrev pub own_below : List Row → Option ℕ → ℕ → List ℕ
own_below rows s n = filter (λ b. is_outport (row_at rows b).kind) (filter (λ b. same_system (row_at rows b).owner s) (range_with_len 0 n))

pub own-more : (rows : List Row) (s : Option ℕ) (n : ℕ) (row : Row) (t : Bool) → row ≡ row_at rows n →
    t ≡ (same_system row.owner s && is_outport row.kind) →
    own_below rows s (n + 1) ≡ own_below rows s n ++ cond t (n ∷ []) []
own-more rows s n row t e told =
    let p : ℕ → Bool = λ b. is_outport (row_at rows b).kind in
    let q : ℕ → Bool = λ b. same_system (row_at rows b).owner s in
    let here : 0 + n ≡ n = omega arith in
    ap (λ l. filter p (filter q l)) (range-more 0 n n here)
    ∙ ap (filter p) (filter-append q (range_with_len 0 n) (n ∷ []))
    ∙ filter-append p (filter q (range_with_len 0 n)) (filter q (n ∷ []))
    ∙ ap (λ l. own_below rows s n ++ l) (filters-one p q n (q n) (p n) refl refl
    ∙ ap (λ (r : Row). cond (same_system r.owner s && is_outport r.kind) (n ∷ []) []) (sym e)
    ∙ ap (λ u. cond u (n ∷ []) []) (sym told))

found-one : (o : Option ℕ) → cons_option o [] ≡ option_to_list o
found-one None = refl
found-one (Some x) = refl

pub found-more : (f : ℕ → Option ℕ) (n : ℕ) →
    filter_map f (range_with_len 1 (n + 1)) ≡ filter_map f (range_with_len 1 n) ++ option_to_list (f (n + 1))
found-more f n =
    let e : 1 + n ≡ n + 1 = omega arith in
    ap (filter_map f) (range-more 1 n (n + 1) e) ∙ filter_map-append f (range_with_len 1 n) ((n + 1) ∷ [])
    ∙ ap (λ l. filter_map f (range_with_len 1 n) ++ l) (found-one (f (n + 1)))

-- ---- A search

pub none-from : (o : Option ℕ) → ((x : ℕ) → o ≡ Some x → ⊥) → o ≡ None
none-from None h = refl
none-from (Some x) h = absurd (h x refl)

pub found-at : (p : ℕ → Bool) (xs : List ℕ) (i d : ℕ) → i < length xs → find p (take i xs) ≡ None →
    p (get_or xs i d) ≡ true → Some (get_or xs i d) ≡ find p xs
found-at p [] i d inside none here = absurd (omega arith)
found-at p (x ∷ xs) zero d inside none here = ap (λ t. cond t (Some x) (find p xs)) (sym here)
found-at p (x ∷ xs) (suc i) d inside none here = by (p x) none (λ h. found-at p xs i d (omega arith) h here)
  where
    by : (t : Bool) → cond t (Some x) (find p (take i xs)) ≡ None →
        (find p (take i xs) ≡ None → Some (get_or xs i d) ≡ find p xs) →
        Some (get_or xs i d) ≡ cond t (Some x) (find p xs)
    by true h later = absurd (cc h)
    by false h later = later h

pub found-not : (p : ℕ → Bool) (xs : List ℕ) (i d : ℕ) → i < length xs → find p (take i xs) ≡ None →
    p (get_or xs i d) ≡ false → find p (take (i + 1) xs) ≡ None
found-not p xs i d inside none here =
    ap (find p) (take_more xs i d inside) ∙ find-append p (take i xs) (get_or xs i d ∷ [])
    ∙ ap (λ o. option_or o (find p (get_or xs i d ∷ []))) none ∙ ap (λ t. cond t (Some (get_or xs i d)) None) here

-- ---- All of them are rows

found-holds : (P : ℕ → Type 0) (p : ℕ → Bool) (xs : List ℕ) → AllByRecursion P xs → IfSome (find p xs) P
found-holds P p [] all = tt
found-holds P p (x ∷ xs) all = by (p x) all.0 (found-holds P p xs all.1)
  where
    by : (t : Bool) → P x → IfSome (find p xs) P → IfSome (cond t (Some x) (find p xs)) P
    by true h rest = h
    by false h rest = rest

all-found : (P : ℕ → Type 0) (f : ℕ → Option ℕ) (xs : List ℕ) → ((x : ℕ) → IfSome (f x) P) → AllByRecursion P (filter_map f xs)
all-found P f [] h = tt
all-found P f (x ∷ xs) h = by (f x) (h x) (all-found P f xs h)
  where
    by : (o : Option ℕ) → IfSome o P → AllByRecursion P (filter_map f xs) → AllByRecursion P (cons_option o (filter_map f xs))
    by None h rest = rest
    by (Some y) h rest = (h, rest)

all-range : (n : ℕ) → All (λ b. b < n) (range_with_len 0 n)
all-range n k d h =
    let inside : k < n = (let l = length-range_with_len 0 n in omega (arith, h, l)) in
    let here : 0 + k ≡ k = omega arith in
    let e : get_or (range_with_len 0 n) k d ≡ k = get_or-range_with_len 0 n k d inside ∙ here in
    subst (λ b. b < n) (sym e) inside

pub own-inside : (rows : List Row) (s : Option ℕ) → All (λ b. b < length rows) (own_below rows s (length rows))
own-inside rows s =
    All-filter (λ b. is_outport (row_at rows b).kind) (λ b. b < length rows)
    (filter (λ b. same_system (row_at rows b).owner s) (range_with_len 0 (length rows)))
    (All-filter (λ b. same_system (row_at rows b).owner s) (λ b. b < length rows) (range_with_len 0 (length rows))
    (all-range (length rows)))

outports-rows : (rows : List Row) (s : Option ℕ) → AllByRecursion (λ b. b < length rows) (outports_of rows s)
outports-rows rows s =
    all-found (λ b. b < length rows)
    (λ k. find (λ b. port_of (row_at rows b).kind == k) (own_below rows s (length rows)))
    (range_with_len 1 (length (own_below rows s (length rows))))
    (λ k. found-holds (λ b. b < length rows) (λ b. port_of (row_at rows b).kind == k) (own_below rows s (length rows))
    (recursion_from_All (λ b. b < length rows) (own_below rows s (length rows)) (own-inside rows s)))

pub outports-inside : (rows : List Row) (s : Option ℕ) → All (λ b. b < length rows) (outports_of rows s)
outports-inside rows s = All-from_recursion (λ b. b < length rows) (outports_of rows s) (outports-rows rows s)

-- ---- Their masks

-- the masks of some rows, with that of the control
abbrev pub AreMasksAt : List ℕ → ℕ → List ℕ → List ℕ → Type 0
AreMasksAt reached control rows masks = AllZip (λ b mask. (mask ≡ bit_or (get_or reached b 0) control) × (mask < 2 ^ 64)) rows masks

pub masks-more : (reached : List ℕ) (control : ℕ) (rows masks more : List ℕ) (i : ℕ) → i < length rows →
    ((b : ℕ) → bit_or (get_or reached b 0) control < 2 ^ 64) →
    more ≡ masks ++ bit_or (get_or reached (get_or rows i 0) 0) control ∷ [] →
    AreMasksAt reached control (take i rows) masks → AreMasksAt reached control (take (i + 1) rows) more
masks-more reached control rows masks more i inside fits e h =
    let mask : ℕ = bit_or (get_or reached (get_or rows i 0) 0) control in
    subst (AreMasksAt reached control (take (i + 1) rows)) (sym e)
    (subst (λ l. AreMasksAt reached control l (masks ++ mask ∷ [])) (sym (take_more rows i 0 inside))
    (AllZip-push (λ b mask. (mask ≡ bit_or (get_or reached b 0) control) × (mask < 2 ^ 64)) (take i rows) masks
    (get_or rows i 0) mask h (refl, fits (get_or rows i 0))))

masks-are : (d : Diagram) (s : Option ℕ) (reached : List ℕ) → AreReachedInputs d s reached → (os masks : List ℕ) →
    AllByRecursion (λ o. o < length d.rows) os →
    AreMasksAt reached (control_mask (system_control d.rows s)) os masks → AllZip (λ o mask. IsMaskOf (TrueNeeds d s o) mask) os masks
masks-are d s reached are [] [] below h = tt
masks-are d s reached are [] (m ∷ ms) below h = h
masks-are d s reached are (o ∷ os) [] below h = h
masks-are d s reached are (o ∷ os) (m ∷ ms) below h = (
  subst (IsMaskOf (TrueNeeds d s o)) (sym h.0.0) (reached-mask d s reached are o below.0 (subst (λ q. q < 2 ^ 64) h.0.0 h.0.1)),
  masks-are d s reached are os ms below.1 h.1,
)

pub needs-are : (d : Diagram) (s : Option ℕ) (reached masks : List ℕ) → AreReachedInputs d s reached →
    AreMasksAt reached (control_mask (system_control d.rows s)) (outports_of d.rows s) masks → AreTrueNeeds d s masks
needs-are d s reached masks are h = masks-are d s reached are (outports_of d.rows s) masks (outports-rows d.rows s) h
