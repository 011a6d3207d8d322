-- No two blocks of a lawful system have one port.
use Rattle.std.proofs.Common.{◌≡◌, refl, sym, ◌∙◌, ap, ℕ, zero, suc, ◌+◌, ◌<◌, Bool, true, false, ◌||◌, cond, true≢false, List, [], ◌∷◌, take, map, Option, None, Some, is_some, arith}
use Rattle.std.specs.Prelude.{slice_get, option_map, ◌==◌}
use Rattle.std.specs.List.{list_any}
use Rattle.std.specs.Option.{option_map_or}
use Rattle.std.proofs.lemmas.Option.{slice_get-map}
use Rattle.std.proofs.lemmas.Bool.Decides.{nat_tests}
use Rattle.base_refusals.specs.Refusals.{PlainRefusal, DoubleName}
use Rattle.base_refusals.proofs.lemmas.FirstRefusals.{none-first, none-later}
use Rattle.mdl_tree.specs.Spelling.{Items}
use Rattle.mdl_wiring.specs.declared.member.Shape.{Shape}
use Rattle.mdl_wiring.specs.Members.{Member}
use Rattle.mdl_wiring.specs.Lines.{sources_in, ends_in}
use Rattle.mdl_wiring.specs.Refusals.{least_from, same_name, double_among, double, first_double, double_names, lines_refusal, wiring_refusal}
use Rattle.mdl_table.proofs.lemmas.RowBlocks.{all-none}
use Rattle.mdl_table.proofs.PortLists.{AllPaired, paired-from}
use Rattle.mdl_table.proofs.PortKinds.{IsPort, inport_of, outport_of}

none-from : {A : Type 0} (found : ℕ → A → Option PlainRefusal) (n : ℕ) (xs : List A) (k : ℕ) (x : A) → least_from found n xs ≡ None →
    slice_get xs k ≡ Some x → found (n + k) x ≡ None
none-from found n [] k x none e = absurd cc
none-from found n (y ∷ xs) zero x none e =
    let same : y ≡ x = cc e in
    ap (λ i. found i x) (omega arith) ∙ ap (found n) (sym same) ∙ none-first (found n y) (least_from found (n + 1) xs) none
none-from found n (y ∷ xs) (suc k) x none e =
    ap (λ i. found i x) (omega arith) ∙ none-from found (n + 1) xs k x (none-later (found n y) (least_from found (n + 1) xs) none) e

none-among : (alike : Member → Member → Bool) (before : List Member) (m : Member) → double_among alike before m ≡ None →
    list_any (alike m) before ≡ false
none-among alike before m none = by (list_any (alike m) before) none
  where
    by : (t : Bool) → cond t (Some (DoubleName m.line)) None ≡ None → t ≡ false
    by true none = absurd cc
    by false none = refl

none-any : {A : Type 0} (p : A → Bool) (xs : List A) (i : ℕ) (x : A) → list_any p xs ≡ false → slice_get xs i ≡ Some x → p x ≡ false
none-any p [] i x none e = absurd cc
none-any p (y ∷ xs) zero x none e = let same : y ≡ x = cc e in sym (ap p same) ∙ or-left (p y) (list_any p xs) none
  where
    or-left : (a b : Bool) → (a || b) ≡ false → a ≡ false
    or-left true b e = e
    or-left false b e = refl
none-any p (y ∷ xs) (suc i) x none e = none-any p xs i x (or-right (p y) (list_any p xs) none) e
  where
    or-right : (a b : Bool) → (a || b) ≡ false → b ≡ false
    or-right true b e = absurd (true≢false e)
    or-right false b e = e

take-get : {A : Type 0} (xs : List A) (j i : ℕ) (x : A) → i < j → slice_get xs i ≡ Some x → slice_get (take j xs) i ≡ Some x
take-get [] j i x h e = absurd cc
take-get (y ∷ xs) zero i x h e = absurd (omega (arith, h))
take-get (y ∷ xs) (suc j) zero x h e = e
take-get (y ∷ xs) (suc j) (suc i) x h e = take-get xs j i x (omega (arith, h)) e

apart : (alike : Member → Member → Bool) (ms : List Member) (i j : ℕ) (x y : Member) → first_double alike ms ≡ None → i < j →
    slice_get ms i ≡ Some x → slice_get ms j ≡ Some y → alike y x ≡ false
apart alike ms i j x y none h e f =
    none-any (alike y) (take j ms) i x
    (none-among alike (take j ms) y (ap (λ n. double_among alike (take n ms) y) (omega arith)
    ∙ none-from (double alike ms) 0 ms j y none f))
    (take-get ms j i x h e)

-- whether two blocks have one port, where their shapes have one
abbrev pub same_by : (Shape → Option ℕ) → Member → Member → Bool
same_by port m other = option_map_or (λ p. option_map_or (λ own. p == own) (port other.shape) false) (port m.shape) false

no-doubles : (ms : List Member) → double_names ms ≡ None → (first_double (same_by inport_of) ms ≡ None)
    × (first_double (same_by outport_of) ms ≡ None)
no-doubles ms none =
    let ports = none-later (first_double same_name ms) _ none in
    (none-first _ _ ports, none-later _ _ ports)

apart-all : {B : Type 0} (port : Shape → Option ℕ) (member : B → Member) (own : List B) →
    first_double (same_by port) (map member own) ≡ None →
    AllPaired (λ x y. same_by port (member y) (member x) ≡ false) own
apart-all port member own none =
    paired-from (λ x y. same_by port (member y) (member x) ≡ false) own
    (λ i j x y h e f. apart (same_by port) (map member own) i j (member x) (member y) none h
    (slice_get-map member own i ∙ ap (option_map member) e) (slice_get-map member own j ∙ ap (option_map member) f))

-- each two blocks of a lawful system
pub ports-apart : {B : Type 0} (is_root : Bool) (member : B → Member) (own : List B) (items : Items) →
    wiring_refusal is_root (map member own) items ≡ None →
    AllPaired (λ x y. same_by inport_of (member y) (member x) ≡ false) own
    × AllPaired (λ x y. same_by outport_of (member y) (member x) ≡ false) own
ports-apart is_root member own items none =
    let ms : List Member = map member own in
    let both = all-none (double_names ms ∷ lines_refusal is_root ms (sources_in ms items) (ends_in ms items) ∷ []) none in
    let doubles = no-doubles ms both.0 in
    (apart-all inport_of member own doubles.0, apart-all outport_of member own doubles.1)

same-number : (n : ℕ) → (n == n) ≡ true
same-number n = grind (arith, nat_tests)

-- two ports that are one number
pub one-port : (a b : Option ℕ) (n m : ℕ) → is_some a ≡ true → is_some b ≡ true → IsPort a n → IsPort b m → n ≡ m →
    option_map_or (λ port. option_map_or (λ own. port == own) a false) b false ≡ true
one-port None b n m some other is its same = absurd (true≢false (sym some))
one-port (Some p) None n m some other is its same = absurd (true≢false (sym other))
one-port (Some p) (Some q) n m some other is its same = ap (λ k. k == p) (sym its ∙ sym same ∙ is) ∙ same-number p
