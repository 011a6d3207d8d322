-- The inputs of a child as bits and wires, and what its functions take and give of them.
use Rattle.std.specs.Prelude.{◌≡◌, ℕ, zero, suc, ◌+◌, ◌-◌, ◌<◌, ◌≤◌, Bool, true, false, cond, List, [], ◌∷◌, ◌++◌, map, filter, zip, length, get_or, take, All, refl}
use Rattle.std.specs.List.{range_with_len, enumerate_from}
use Rattle.std.proofs.Common.{sym, ap, ap₂, subst, ◌∙◌, arith, append_assoc}
use Rattle.std.proofs.lemmas.List.{map-append, length-map, take_more, map_more, length-take-le}
use Rattle.std.proofs.lemmas.List.FromFn.{length-range_with_len, length-enumerate_from, get_or-enumerate_from}
use Rattle.std.proofs.lemmas.List.Elements.{All-nil, All-cons, All-head, All-tail, All-append, filter-append}
use Rattle.base_core.specs.declared.Control.{Control}
use Rattle.base_core.specs.declared.Control.TheVariants.{Plain, Enabled, Triggered, Both}
use Rattle.base_core.specs.declared.Port.{Port}
use Rattle.base_core.specs.declared.Port.TheVariants.{Number}
use Rattle.base_fixed_point.specs.declared.FixType.{FixType}
use Rattle.modules_profile.specs.declared.local.ChildUse.{ChildUse}
use Rattle.modules_profile.specs.declared.node_wires.NodeWires.{NodeWires}
use Rattle.modules_profile.specs.declared.profile.Function.{Function}
use Rattle.base_core.specs.Ports.{bit_of, has_bit, control_ports}
use Rattle.modules_profile.specs.Headers.{ports_of_header, header_functions, given_by_function}
use Rattle.modules_profile.specs.Locals.{entering}
use Rattle.modules_profile.specs.NodeWires.{entries_of, wires_of_call}
use Rattle.modules_profile.specs.LawfulLocals.{IsChild}

-- ---- Numbered lists

enumerate-push : {A : Type 0} (n m : ℕ) (xs : List A) (x : A) → n + length xs ≡ m →
    enumerate_from n (xs ++ x ∷ []) ≡ enumerate_from n xs ++ (m, x) ∷ []
enumerate-push n m [] x e = let same : n ≡ m = omega (arith, e) in ap (λ k. (k, x) ∷ []) same
enumerate-push n m (y ∷ xs) x e = ap (λ es. (n, y) ∷ es) (enumerate-push (n + 1) m xs x (omega (arith, e)))

pub enumerate-more : {A : Type 0} (xs : List A) (i : ℕ) (d : A) → i < length xs →
    enumerate_from 0 (take (i + 1) xs) ≡ enumerate_from 0 (take i xs) ++ (i, get_or xs i d) ∷ []
enumerate-more xs i d inside =
    ap (enumerate_from 0) (take_more xs i d inside)
    ∙ enumerate-push 0 i (take i xs) (get_or xs i d) (let l = length-take-le i xs (omega arith) in omega (arith, l))

-- ---- Entries

number-bits : (a b n : ℕ) → b ≡ a + 1 → map bit_of (map Number (range_with_len b n)) ≡ range_with_len a n
number-bits a b zero e = refl
number-bits a b (suc n) e = ap₂ ◌∷◌ (let low : b - 1 ≡ a = omega (arith, e) in low) (number-bits (a + 1) (b + 1) n (omega (arith, e)))

zip-append : {A B : Type 0} (cs bs : List A) (xs ys : List B) → length cs ≡ length xs → zip (cs ++ bs) (xs ++ ys) ≡ zip cs xs ++ zip bs ys
zip-append [] bs [] ys e = refl
zip-append [] bs (x ∷ xs) ys e = absurd (omega (arith, e))
zip-append (a ∷ cs) bs [] ys e = absurd (omega (arith, e))
zip-append (a ∷ cs) bs (x ∷ xs) ys e = ap (λ es. (a, x) ∷ es) (zip-append cs bs xs ys (omega (arith, e)))

zip-range : {A : Type 0} (a n : ℕ) (xs : List A) → n ≡ length xs → zip (range_with_len a n) xs ≡ enumerate_from a xs
zip-range a zero [] e = refl
zip-range a zero (x ∷ xs) e = absurd (omega (arith, e))
zip-range a (suc n) [] e = absurd (omega (arith, e))
zip-range a (suc n) (x ∷ xs) e = ap (λ es. (a, x) ∷ es) (zip-range (a + 1) n xs (omega (arith, e)))

pub entries-are : (u : ChildUse) → IsChild u →
    enumerate_from 0 u.wires ++ zip (map bit_of (control_ports u.header.control)) u.controls ≡ entries_of u
entries-are u is =
    let n : ℕ = length u.header.inputs in
    let bits : map bit_of (ports_of_header u.header) ≡ range_with_len 0 n ++ map bit_of (control_ports u.header.control) =
    map-append bit_of (map Number (range_with_len 1 n)) (control_ports u.header.control)
    ∙ ap (λ bs. bs ++ map bit_of (control_ports u.header.control)) (number-bits 0 1 n (omega arith)) in
    sym (ap (λ bs. zip bs (entering u)) bits
    ∙ zip-append (range_with_len 0 n) (map bit_of (control_ports u.header.control)) u.wires u.controls
    (length-range_with_len 0 n ∙ sym is.wires)
    ∙ ap (λ es. es ++ zip (map bit_of (control_ports u.header.control)) u.controls) (zip-range 0 n u.wires (sym is.wires)))

-- the bits of all entries are below 64
abbrev pub IsLow : ℕ × ℕ → Type 0
IsLow e = e.0 < 64

zip-low : (bs xs : List ℕ) → All (λ b. b < 64) bs → All IsLow (zip bs xs)
zip-low [] xs h = All-nil IsLow
zip-low (b ∷ bs) [] h = All-nil IsLow
zip-low (b ∷ bs) (x ∷ xs) h =
    All-cons IsLow (b, x) (zip bs xs) (All-head (λ (b : ℕ). b < 64) b bs h)
    (zip-low bs xs (All-tail (λ (b : ℕ). b < 64) b bs h))

controls-low : (c : Control) → All (λ b. b < 64) (map bit_of (control_ports c))
controls-low Plain = All-nil (λ (b : ℕ). b < 64)
controls-low (Enabled reset) = All-cons (λ (b : ℕ). b < 64) 32 [] (omega arith) (All-nil (λ (b : ℕ). b < 64))
controls-low (Triggered edge) = All-cons (λ (b : ℕ). b < 64) 33 [] (omega arith) (All-nil (λ (b : ℕ). b < 64))
controls-low (Both reset edge) =
    All-cons (λ (b : ℕ). b < 64) 32 (33 ∷ []) (omega arith)
    (All-cons (λ (b : ℕ). b < 64) 33 [] (omega arith) (All-nil (λ (b : ℕ). b < 64)))

wires-low : (xs : List ℕ) → length xs ≤ 32 → All IsLow (enumerate_from 0 xs)
wires-low xs few k d below =
    let inside : k < length xs = let l = length-enumerate_from 0 xs in omega (arith, l, below) in
    subst IsLow (sym (get_or-enumerate_from 0 xs k d inside)) (omega (arith, inside, few))

pub entries-low : (u : ChildUse) → IsChild u → All IsLow (entries_of u)
entries-low u is =
    subst (All IsLow) (entries-are u is)
    (All-append IsLow (enumerate_from 0 u.wires) (zip (map bit_of (control_ports u.header.control)) u.controls)
    (wires-low u.wires (let w = is.wires in let i = is.inputs in omega (arith, w, i)))
    (zip-low (map bit_of (control_ports u.header.control)) u.controls (controls-low u.header.control)))

-- ---- What a function takes and gives

taken-zip : (mask : ℕ) (ports : List Port) (xs : List ℕ) →
    map (λ (e : ℕ × ℕ). e.1) (filter (λ (e : ℕ × ℕ). has_bit mask e.0) (zip (map bit_of ports) xs))
    ≡ map (λ (e : Port × ℕ). e.1) (filter (λ (e : Port × ℕ). has_bit mask (bit_of e.0)) (zip ports xs))
taken-zip mask [] xs = refl
taken-zip mask (p ∷ ports) [] = refl
taken-zip mask (p ∷ ports) (x ∷ xs) = by (has_bit mask (bit_of p)) (taken-zip mask ports xs)
  where
    by : (t : Bool) →
        map (λ (e : ℕ × ℕ). e.1) (filter (λ (e : ℕ × ℕ). has_bit mask e.0) (zip (map bit_of ports) xs))
        ≡ map (λ (e : Port × ℕ). e.1) (filter (λ (e : Port × ℕ). has_bit mask (bit_of e.0)) (zip ports xs)) →
        map (λ (e : ℕ × ℕ). e.1)
        (cond t ((bit_of p, x) ∷ filter (λ (e : ℕ × ℕ). has_bit mask e.0) (zip (map bit_of ports) xs))
        (filter (λ (e : ℕ × ℕ). has_bit mask e.0) (zip (map bit_of ports) xs)))
        ≡ map (λ (e : Port × ℕ). e.1)
        (cond t ((p, x) ∷ filter (λ (e : Port × ℕ). has_bit mask (bit_of e.0)) (zip ports xs))
        (filter (λ (e : Port × ℕ). has_bit mask (bit_of e.0)) (zip ports xs)))
    by true rest = ap (λ ys. x ∷ ys) rest
    by false rest = rest

-- what a function gives of numbered outputs
abbrev keep : Function → List (ℕ × ℕ) → List ℕ
keep f es = map (λ (e : ℕ × ℕ). e.1) (filter (λ (e : ℕ × ℕ). has_bit f.outputs e.0) es)

-- one output more
pub given-more : (f : Function) (outs : List (ℕ × FixType)) (i : ℕ) (o : ℕ × FixType) (t : Bool) → i < length outs →
    o ≡ get_or outs i o → has_bit f.outputs i ≡ t →
    given_by_function f (map (λ (q : ℕ × FixType). q.0) (take (i + 1) outs))
    ≡ given_by_function f (map (λ (q : ℕ × FixType). q.0) (take i outs)) ++ cond t (o.0 ∷ []) []
given-more f outs i o t inside read bit =
    let front : List ℕ = map (λ (q : ℕ × FixType). q.0) (take i outs) in
    let long : 0 + length front ≡ i = let l = length-take-le i outs (omega arith) in let m =
    length-map (take i outs) (λ (q : ℕ × FixType). q.0) in omega (arith, l, m) in
    ap (λ ys. keep f (enumerate_from 0 ys)) (map_more (λ (q : ℕ × FixType). q.0) outs i o inside
    ∙ ap (λ (q : ℕ × FixType). front ++ q.0 ∷ []) (sym read))
    ∙ ap (keep f) (enumerate-push 0 i front o.0 long)
    ∙ ap (map (λ (e : ℕ × ℕ). e.1)) (filter-append (λ (e : ℕ × ℕ). has_bit f.outputs e.0) (enumerate_from 0 front) ((i, o.0) ∷ []))
    ∙ map-append (λ (e : ℕ × ℕ). e.1) (filter (λ (e : ℕ × ℕ). has_bit f.outputs e.0) (enumerate_from 0 front))
    (filter (λ (e : ℕ × ℕ). has_bit f.outputs e.0) ((i, o.0) ∷ []))
    ∙ ap (λ ys. keep f (enumerate_from 0 front) ++ ys) (last (has_bit f.outputs i) t bit)
  where
    last : (r t : Bool) → r ≡ t → map (λ (e : ℕ × ℕ). e.1) (cond r ((i, o.0) ∷ []) []) ≡ cond t (o.0 ∷ []) []
    last true t e = ap (λ s. cond s (o.0 ∷ []) []) e
    last false t e = ap (λ s. cond s (o.0 ∷ []) []) e

-- the wires of a node that needs and gives these
abbrev pub made : List ℕ → List ℕ → NodeWires
made needs gives = record { needs = needs; gives = gives }

-- one call more
pub call-more : (u : ChildUse) (fs : List Function) (i : ℕ) (f : Function) (needs gives : List ℕ)
    (entries : List (ℕ × ℕ)) (outs : List (ℕ × FixType)) (old so_far : List NodeWires) →
    i < length fs → f ≡ get_or fs i f →
    needs ≡ map (λ (e : ℕ × ℕ). e.1) (filter (λ (e : ℕ × ℕ). has_bit f.inputs e.0) entries) →
    entries ≡ entries_of u →
    gives ≡ given_by_function f (map (λ (q : ℕ × FixType). q.0) outs) → outs ≡ u.header.outputs → fs ≡ header_functions u.header →
    so_far ≡ old ++ map (wires_of_call u) (take i (header_functions u.header)) →
    so_far ++ made needs gives ∷ [] ≡ old ++ map (wires_of_call u) (take (i + 1) (header_functions u.header))
call-more u fs i f needs gives entries outs old so_far inside read takes entries_is give outs_is fs_is before =
    ap₂ (λ (ws : List NodeWires) (w : NodeWires). ws ++ w ∷ []) (before
    ∙ ap (λ gs. old ++ map (wires_of_call u) (take i gs)) (sym fs_is)) wires
    ∙ append_assoc old (map (wires_of_call u) (take i fs)) (wires_of_call u f ∷ [])
    ∙ ap (λ ws. old ++ ws)
    (sym (map_more (wires_of_call u) fs i f inside
    ∙ ap (λ g. map (wires_of_call u) (take i fs) ++ wires_of_call u g ∷ []) (sym read)))
    ∙ ap (λ gs. old ++ map (wires_of_call u) (take (i + 1) gs)) fs_is
  where
    wires : made needs gives ≡ wires_of_call u f
    wires =
        ap₂ made
        (takes ∙ ap (λ es. map (λ (e : ℕ × ℕ). e.1) (filter (λ (e : ℕ × ℕ). has_bit f.inputs e.0) es)) entries_is
        ∙ taken-zip f.inputs (ports_of_header u.header) (entering u))
        (give ∙ ap (λ os. given_by_function f (map (λ (q : ℕ × FixType). q.0) os)) outs_is)
