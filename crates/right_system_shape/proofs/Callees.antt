-- Which procedures the numbers of calls name, and what is passed to them.
use Rattle.std.specs.Prelude.{◌≡◌, refl, ℕ, zero, suc, ◌+◌, ◌-◌, ◌<◌, ◌≤◌, Bool, true, false, cond, List, [], ◌∷◌, map, filter, flat_map, zip, take, length, sum_by, slice_get, slice_index_or, Contains, Some}
use Rattle.std.specs.List.{AllZip, range_with_len}
use Rattle.std.proofs.Common.{sym, ap, subst, ◌∙◌, arith, length-append}
use Rattle.std.proofs.lemmas.List.{length-map}
use Rattle.std.proofs.lemmas.List.Sums.{sum_by-append}
use Rattle.std.proofs.lemmas.List.FromFn.{length-map-range_with_len}
use Rattle.std.proofs.lemmas.Option.{same_Some, none-some}
use Rattle.base_core.specs.declared.base.Port.{Port}
use Rattle.base_core.specs.declared.base.Port.TheVariants.{Number}
use Rattle.modules_profile.specs.declared.local.ChildUse.{ChildUse}
use Rattle.modules_profile.specs.declared.profile.Function.{Function}
use Rattle.modules_profile.specs.LocalSystem.{LocalSystem}
use Rattle.modules_profile.specs.SystemHeader.{SystemHeader}
use Rattle.modules_profile.specs.Headers.{ports_of_header, header_functions, taken_by_function}
use Rattle.base_core.specs.Ports.{bit_of, has_bit, control_ports}
use Rattle.modules_profile.proofs.lemmas.Members.{at-in, at-map, at-below, below-at, at-left, at-right, at-range, in-zip}
use Rattle.c_syntax.specs.Tree.{ExprTree, exprs_of_list, list_of_exprs}
use Rattle.emit_shape.specs.Heads.{Head, head_of, out_head, update_head, start_head, reset_head, out_heads, public_heads}
use Rattle.emit_shape.specs.LocalShape.{callable, no_head}
use Rattle.emit_shape.specs.SystemTree.{SystemTree}
use Rattle.emit_system_spec.specs.Places.{child_base}

pub get-index : {A : Type 0} (xs : List A) (k : ℕ) (d x : A) → slice_get xs k ≡ Some x → slice_index_or xs k d ≡ x
get-index [] k d x e = absurd (none-some x e)
get-index (y ∷ ys) zero d x e = same_Some y x e
get-index (y ∷ ys) (suc k) d x e = get-index ys k d x e

pub flat-at : {A B : Type 0} (f : A → List B) (size : A → ℕ) → ((x : A) → length (f x) ≡ size x) → (xs : List A) (k i : ℕ) (x : A) (y : B) →
    slice_get xs k ≡ Some x → slice_get (f x) i ≡ Some y → slice_get (flat_map f xs) (sum_by size (take k xs) + i) ≡ Some y
flat-at f size long [] k i x y e h = absurd (none-some x e)
flat-at f size long (z ∷ xs) zero i x y e h =
    let here : slice_get (f z) i ≡ Some y = subst (λ w. slice_get (f w) i ≡ Some y) (sym (same_Some z x e)) h in
    let same : i ≡ 0 + i = omega arith in
    subst (λ j. slice_get (flat_map f (z ∷ xs)) j ≡ Some y) same (at-left (f z) (flat_map f xs) i y here)
flat-at f size long (z ∷ xs) (suc k) i x y e h =
    let rest = flat-at f size long xs k i x y e h in
    let at = at-right (f z) (flat_map f xs) (sum_by size (take k xs) + i) y rest in
    let first = long z in
    let sums = sum_by-append size (z ∷ []) (take k xs) in
    let same : length (f z) + (sum_by size (take k xs) + i) ≡ sum_by size (z ∷ take k xs) + i = omega (arith, first, sums) in
    subst (λ j. slice_get (flat_map f (z ∷ xs)) j ≡ Some y) same at

pub many-heads : (h : SystemHeader) → length (public_heads h) ≡ length (header_functions h) + 3
many-heads h =
    length-append (out_heads h) (update_head h ∷ start_head h ∷ reset_head h ∷ [])
    ∙ ap (λ n. n + 3) (length-map-range_with_len (out_head h) 1 (length (header_functions h)))

many-out : (h : SystemHeader) → length (out_heads h) ≡ length (header_functions h)
many-out h = length-map-range_with_len (out_head h) 1 (length (header_functions h))

-- function j is at j - 1
pub out-at : (h : SystemHeader) (j : ℕ) → 0 < j → j ≤ length (header_functions h) → slice_get (public_heads h) (j - 1) ≡ Some (out_head h j)
out-at h j some most =
    let at : slice_get (range_with_len 1 (length (header_functions h))) (j - 1) ≡ Some (1 + (j - 1)) =
    at-range 1 (length (header_functions h)) (j - 1) (omega arith) in
    let number : 1 + (j - 1) ≡ j = omega arith in
    at-left (out_heads h) (update_head h ∷ start_head h ∷ reset_head h ∷ []) (j - 1) (out_head h j)
    (at-map (out_head h) (range_with_len 1 (length (header_functions h))) (j - 1) j (at ∙ ap Some number))

-- update, start and reset come after
pub behind-at : (h : SystemHeader) (i : ℕ) (head : Head) → slice_get (update_head h ∷ start_head h ∷ reset_head h ∷ []) i ≡ Some head →
    slice_get (public_heads h) (length (header_functions h) + i) ≡ Some head
behind-at h i head e =
    subst (λ n. slice_get (public_heads h) (n + i) ≡ Some head) (many-out h)
    (at-right (out_heads h) (update_head h ∷ start_head h ∷ reset_head h ∷ []) i head e)

-- the procedure at a place of a child's
pub callee-at : (local : LocalSystem) (code : SystemTree) (count k i : ℕ) (u : ChildUse) (head : Head) → length code.procedures ≡ count →
    slice_get local.children k ≡ Some u → slice_get (public_heads u.header) i ≡ Some head →
    slice_index_or (callable local code) (child_base local count k + i) no_head ≡ head
callee-at local code count k i u head many child there =
    let offered = flat-at (λ (u : ChildUse). public_heads u.header) (λ (u : ChildUse). length (header_functions u.header) + 3)
    (λ u. many-heads u.header) local.children k i u head child there in
    let sum = sum_by (λ (u : ChildUse). length (header_functions u.header) + 3) (take k local.children) in
    let at = at-right (map head_of code.procedures) (flat_map (λ (u : ChildUse). public_heads u.header) local.children)
    (sum + i) head offered in
    let own = length-map code.procedures head_of in
    let same : length (map head_of code.procedures) + (sum + i) ≡ child_base local count k + i = omega (arith, own, many) in
    get-index (callable local code) (child_base local count k + i) no_head head
    (subst (λ j. slice_get (callable local code) j ≡ Some head) same at)

-- ---- What is passed

pub all-zipped : {A B : Type 0} (P : A → B → Type 0) (xs : List A) (ys : List B) → length xs ≡ length ys →
    ((k : ℕ) (x : A) (y : B) → slice_get xs k ≡ Some x → slice_get ys k ≡ Some y → P x y) → AllZip P xs ys
all-zipped P [] [] long each = tt
all-zipped P [] (y ∷ ys) long each = absurd (omega arith)
all-zipped P (x ∷ xs) [] long each = absurd (omega arith)
all-zipped P (x ∷ xs) (y ∷ ys) long each = (each 0 x y refl refl, all-zipped P xs ys (omega arith) (λ k z w e h. each (suc k) z w e h))

pub zip-sent : {A B C : Type 0} (P : A → B → Type 0) (Q : A → C → Type 0) (f : B → C) (xs : List A) (ys : List B) →
    ((x : A) (y : B) → P x y → Q x (f y)) →
    AllZip P xs ys → AllZip Q xs (map f ys)
zip-sent P Q f [] [] each h = tt
zip-sent P Q f [] (y ∷ ys) each h = absurd h
zip-sent P Q f (x ∷ xs) [] each h = absurd h
zip-sent P Q f (x ∷ xs) (y ∷ ys) each h = (each x y h.0, zip-sent P Q f xs ys each h.1)

-- a function takes of both lists the same places
pub taken-zip : {A B : Type 0} (P : A → B → Type 0) (f : Function) (ports : List Port) (xs : List A) (ys : List B) → AllZip P xs ys →
    AllZip P (taken_by_function f ports xs) (taken_by_function f ports ys)
taken-zip P f [] xs ys h = tt
taken-zip P f (p ∷ ports) [] [] h = tt
taken-zip P f (p ∷ ports) [] (y ∷ ys) h = absurd h
taken-zip P f (p ∷ ports) (x ∷ xs) [] h = absurd h
taken-zip {A} {B} P f (p ∷ ports) (x ∷ xs) (y ∷ ys) h = by (has_bit f.inputs (bit_of p)) (taken-zip P f ports xs ys h.1)
  where
    by : (t : Bool) → AllZip P (taken_by_function f ports xs) (taken_by_function f ports ys) →
        AllZip P (map (λ (e : Port × A). e.1) (cond t ((p, x) ∷ filter (λ (e : Port × A). has_bit f.inputs (bit_of e.0)) (zip ports xs))
        (filter (λ (e : Port × A). has_bit f.inputs (bit_of e.0)) (zip ports xs))))
        (map (λ (e : Port × B). e.1) (cond t ((p, y) ∷ filter (λ (e : Port × B). has_bit f.inputs (bit_of e.0)) (zip ports ys))
        (filter (λ (e : Port × B). has_bit f.inputs (bit_of e.0)) (zip ports ys))))
    by true rest = (h.0, rest)
    by false rest = rest

pub length-zip : {A B : Type 0} (xs : List A) (ys : List B) → length xs ≡ length ys → length (zip xs ys) ≡ length ys
length-zip [] [] h = refl
length-zip [] (y ∷ ys) h = absurd (omega arith)
length-zip (x ∷ xs) [] h = refl
length-zip (x ∷ xs) (y ∷ ys) h = ap suc (length-zip xs ys (omega arith))

pub zip-has : {A B : Type 0} (xs : List A) (ys : List B) (x : A) → length xs ≤ length ys → Contains xs x → (y : B) × Contains (zip xs ys)
    (x, y)
zip-has xs ys x long h =
    let at = at-in xs x h in
    let here = at-below xs at.0 x at.1 in
    let there = below-at ys at.0 (omega (arith, here, long)) in
    (there.0, in-zip xs ys at.0 x there.0 at.1 there.1)

pub many-ports : (h : SystemHeader) → length (ports_of_header h) ≡ length h.inputs + length (control_ports h.control)
many-ports h =
    length-append (map Number (range_with_len 1 (length h.inputs))) (control_ports h.control)
    ∙ ap (λ n. n + length (control_ports h.control)) (length-map-range_with_len Number 1 (length h.inputs))

pub listed-back : (es : List ExprTree) → list_of_exprs (exprs_of_list es) ≡ es
listed-back [] = refl
listed-back (e ∷ es) = ap (λ rest. e ∷ rest) (listed-back es)
