-- Places of different texts, and how many equations of a placed node give one.
use Rattle.std.specs.Prelude.{◌≡◌, ◌⊎◌, ℕ, zero, suc, ◌+◌, ◌-◌, ◌<◌, ◌≤◌, Bool, true, false, cond, ◌==◌, nat_lt, if◌then◌else◌, List, [], ◌∷◌, ◌++◌, map, filter, length, get_or, Contains, Option, Some, None, option_map, unwrap_or, bytes_eq}
use Rattle.std.specs.List.{AllByRecursion, flat_map, range_with_len, position_from}
use Rattle.std.proofs.Common.{refl, sym, ◌∙◌, ap, subst, arith, inl, inr, true≢false, length-append, get_or-append-add}
use Rattle.std.proofs.lemmas.Bool.{cases_eq, cases_lt, eq-eqb, ne_eqb, lt-ltb, le-ltb, false_from_ne_true}
use Rattle.std.proofs.lemmas.List.{append_assoc, map-append, get_or_append_left, length-map}
use Rattle.std.proofs.lemmas.List.Elements.{Contains-get_or}
use Rattle.std.proofs.lemmas.Slice.Eq.{bytes_eq-Decides}
use Rattle.c_syntax.proofs.lemmas.NamePlaces.{bytes_eq-same, bytes_eq-sym}
use Rattle.lustre_syntax.specs.Tree.{set, call, Declared, texts_of, given_by}
use Rattle.lustre_syntax.specs.Named.{NamedEquation, NamedNode, renamed_equation, place_of, all_names, placed_node}
use Rattle.lustre_syntax.specs.Lawful.{equations_of, equations_wanted}
use Rattle.modules_profile.proofs.lemmas.Members.{in-none, in-first, in-rest, in-cases}
use Rattle.lustre_right.specs.NodeLaws.{GivesItsNames}
use Rattle.lustre_lawful.proofs.Counts.{times, Once, times-append, times-of, of-times, once-rest, once-new}

-- ---- The place of a text

shifted : (p : List ℕ → Bool) (i : ℕ) (ts : List (List ℕ)) → position_from p (i + 1) ts ≡ option_map suc (position_from p i ts)
shifted p i [] = refl
shifted p i (t ∷ ts) = by (p t) (shifted p (i + 1) ts)
  where
    by : (b : Bool) → position_from p (i + 1 + 1) ts ≡ option_map suc (position_from p (i + 1) ts) →
        cond b (Some (i + 1)) (position_from p (i + 1 + 1) ts) ≡ option_map suc (cond b (Some i) (position_from p (i + 1) ts))
    by true rest = let same : i + 1 ≡ suc i = omega arith in ap Some same
    by false rest = rest

pub place-cons : (t : List ℕ) (ts : List (List ℕ)) (x : List ℕ) → place_of (t ∷ ts) x ≡ cond (bytes_eq x t) 0 (suc (place_of ts x))
place-cons t ts x = by (bytes_eq x t)
  where
    out : (o : Option ℕ) → unwrap_or (option_map suc o) (suc (length ts)) ≡ suc (unwrap_or o (length ts))
    out None = refl
    out (Some k) = refl

    by : (b : Bool) → unwrap_or (cond b (Some 0) (position_from (bytes_eq x) (0 + 1) ts)) (suc (length ts))
        ≡ cond b 0 (suc (unwrap_or (position_from (bytes_eq x) 0 ts) (length ts)))
    by true = refl
    by false = ap (λ o. unwrap_or o (suc (length ts))) (shifted (bytes_eq x) 0 ts) ∙ out (position_from (bytes_eq x) 0 ts)

pub place-here : (t : List ℕ) (ts : List (List ℕ)) → place_of (t ∷ ts) t ≡ 0
place-here t ts = place-cons t ts t ∙ ap (λ b. cond b 0 (suc (place_of ts t))) (bytes_eq-same t)

pub place-later : (t : List ℕ) (ts : List (List ℕ)) (x : List ℕ) → (x ≡ t → ⊥) → place_of (t ∷ ts) x ≡ suc (place_of ts x)
place-later t ts x other =
    place-cons t ts x
    ∙ ap (λ b. cond b 0 (suc (place_of ts x))) (false_from_ne_true (bytes_eq x t) (λ e. other ((bytes_eq-Decides x t).0 e)))

-- that of a member is in the list
pub place-below : (ts : List (List ℕ)) (x : List ℕ) → Contains ts x → place_of ts x < length ts
place-below [] x there = absurd (in-none x there)
place-below (t ∷ ts) x there = subst (λ k. k < suc (length ts)) (sym (place-cons t ts x))
    (by (bytes_eq x t) refl (in-cases t x ts there) (λ later. place-below ts x later))
  where
    by : (b : Bool) → bytes_eq x t ≡ b → (t ≡ x) ⊎ Contains ts x → (Contains ts x → place_of ts x < length ts) →
        cond b 0 (suc (place_of ts x)) < suc (length ts)
    by true is cases deeper = omega arith
    by false is (inl same) deeper = absurd (true≢false (sym ((bytes_eq-Decides x t).1 (sym same)) ∙ is))
    by false is (inr later) deeper = let low = deeper later in omega (arith, low)

suc-eqb : (j k : ℕ) → (suc j == suc k) ≡ (j == k)
suc-eqb j k = elim (cases_eq j k) [
  | inl same ↦ eq-eqb (suc j) (suc k) (ap suc same) ∙ sym (eq-eqb j k same)
  | inr other ↦ ne_eqb (suc j) (suc k) (λ same. other (omega (arith, same))) ∙ sym (ne_eqb j k other)
]

-- a member's place tells it from the others
pub place-tells : (ts : List (List ℕ)) (k : ℕ) (x : List ℕ) → Once ts → k < length ts →
    (place_of ts x == k) ≡ bytes_eq (get_or ts k []) x
place-tells [] k x once below = absurd (omega (arith, below))
place-tells (t ∷ ts) zero x once below = ap (λ n. n == 0) (place-cons t ts x) ∙ by (bytes_eq x t) refl
  where
    by : (b : Bool) → bytes_eq x t ≡ b → (cond b 0 (suc (place_of ts x)) == 0) ≡ bytes_eq t x
    by true is = sym (bytes_eq-sym t x ∙ is)
    by false is = ne_eqb (suc (place_of ts x)) 0 (λ same. omega (arith, same)) ∙ sym (bytes_eq-sym t x ∙ is)
place-tells (t ∷ ts) (suc k) x once below =
    ap (λ n. n == suc k) (place-cons t ts x) ∙ by (bytes_eq x t) refl (place-tells ts k x (once-rest t ts once) (omega (arith, below)))
  where
    by : (b : Bool) → bytes_eq x t ≡ b → (place_of ts x == k) ≡ bytes_eq (get_or ts k []) x →
        (cond b 0 (suc (place_of ts x)) == suc k) ≡ bytes_eq (get_or ts k []) x
    by true is later =
        let same : x ≡ t = (bytes_eq-Decides x t).0 is in
        let less : k < length ts = omega (arith, below) in
        ne_eqb 0 (suc k) (λ same. omega (arith, same))
        ∙ sym (false_from_ne_true (bytes_eq (get_or ts k []) x) (λ e.
        let here : get_or ts k [] ≡ t = (bytes_eq-Decides (get_or ts k []) x).0 e ∙ same in
        once-new t ts once (subst (Contains ts) here (Contains-get_or ts k [] less))))
    by false is later = suc-eqb (place_of ts x) k ∙ later

-- ---- Equations that give a name

pub given-renamed : (f g : List ℕ → ℕ) (es : List NamedEquation) →
    flat_map given_by (map (renamed_equation f g) es) ≡ map f (flat_map given_by es)
given-renamed f g [] = refl
given-renamed f g (set line given value ∷ es) = ap (λ ks. f given ∷ ks) (given-renamed f g es)
given-renamed f g (call line given callee values ∷ es) =
    ap (λ ks. map f given ++ ks) (given-renamed f g es) ∙ sym (map-append f given (flat_map given_by es))

counted : (ts gs : List (List ℕ)) (k : ℕ) → Once ts → k < length ts →
    length (filter (λ j. j == k) (map (place_of ts) gs)) ≡ times (get_or ts k []) gs
counted ts [] k once below = refl
counted ts (g ∷ gs) k once below =
    ap (λ b. length (cond b (place_of ts g ∷ filter (λ j. j == k) (map (place_of ts) gs)) (filter (λ j. j == k) (map (place_of ts) gs))))
    (place-tells ts k g once below) ∙ by (bytes_eq (get_or ts k []) g) (counted ts gs k once below)
  where
    by : (b : Bool) → length (filter (λ j. j == k) (map (place_of ts) gs)) ≡ times (get_or ts k []) gs →
        length (cond b (place_of ts g ∷ filter (λ j. j == k) (map (place_of ts) gs)) (filter (λ j. j == k) (map (place_of ts) gs)))
        ≡ length (cond b (g ∷ filter (bytes_eq (get_or ts k [])) gs) (filter (bytes_eq (get_or ts k [])) gs))
    by true rest = ap suc rest
    by false rest = rest

pub all-range : (P : ℕ → Type 0) (a n : ℕ) → ((k : ℕ) → a ≤ k → k < a + n → P k) → AllByRecursion P (range_with_len a n)
all-range P a zero each = tt
all-range P a (suc n) each =
    (each a (omega arith) (omega arith), all-range P (a + 1) n (λ k low high. each k (omega (arith, low)) (omega (arith, high))))

pub all-mapped : {A B : Type 0} (P : B → Type 0) (f : A → B) (xs : List A) → ((x : A) → Contains xs x → P (f x)) → AllByRecursion P (map f xs)
all-mapped P f [] each = tt
all-mapped P f (x ∷ xs) each = (each x (in-first x xs), all-mapped P f xs (λ y there. each y (in-rest x y xs there)))

-- a node whose equations give each name that is no input as often as it is there
module _ (callees : List (List ℕ)) (n : NamedNode) (once : Once (texts_of (all_names n)))
    (same : (x : List ℕ) → times x (texts_of (n.outputs ++ n.others)) ≡ times x (flat_map given_by n.equations)) where
  abbrev texts : List (List ℕ)
  texts = texts_of (all_names n)

  abbrev gives : List (List ℕ)
  gives = flat_map given_by n.equations

  abbrev inputs : List (List ℕ)
  inputs = texts_of n.inputs

  abbrev rest : List (List ℕ)
  rest = texts_of (n.outputs ++ n.others)

  many : length texts ≡ length (all_names n)
  many = length-map (all_names n) (λ (x : Declared). x.text)

  front : length inputs ≡ length n.inputs
  front = length-map n.inputs (λ (x : Declared). x.text)

  parts : texts ≡ inputs ++ rest
  parts =
      ap texts_of (append_assoc n.inputs n.outputs n.others) ∙ map-append (λ (x : Declared). x.text) n.inputs (n.outputs ++ n.others)

  both : (x : List ℕ) → times x texts ≡ times x inputs + times x rest
  both x = ap (times x) parts ∙ times-append x inputs rest

  are : flat_map given_by (placed_node callees n).equations ≡ map (place_of texts) gives
  are = given-renamed (place_of texts) (place_of callees) n.equations

  given-within : (x : List ℕ) → Contains gives x → Contains texts x
  given-within x there =
      let some = times-of x gives there in
      let is = same x in
      let all = both x in
      of-times x texts (omega (arith, some, is, all))

  input-wanted : (k : ℕ) → k < length n.inputs → times (get_or texts k []) gives ≡ 0
  input-wanted k low =
      let x = get_or texts k [] in
      let at : x ≡ get_or inputs k [] = ap (λ ts. get_or ts k []) parts
      ∙ get_or_append_left inputs rest [] k (omega (arith, low, front)) in
      let some = times-of x inputs (subst (Contains inputs) (sym at) (Contains-get_or inputs k [] (omega (arith, low, front)))) in
      let is = same x in
      let all = both x in
      let most = once x in
      omega (arith, some, is, all, most)

  other-wanted : (k : ℕ) → k < length texts → length n.inputs ≤ k → times (get_or texts k []) gives ≡ 1
  other-wanted k below high =
      let x = get_or texts k [] in
      let j = k - length inputs in
      let sum : length inputs + j ≡ k = omega (arith, high, front) in
      let at : x ≡ get_or rest j [] = ap (λ ts. get_or ts k []) parts
      ∙ ap (λ i. get_or (inputs ++ rest) i []) (sym sum) ∙ get_or-append-add inputs rest j [] in
      let all : length texts ≡ length inputs + length rest = ap length parts ∙ length-append inputs rest in
      let some = times-of x rest (subst (Contains rest) (sym at) (Contains-get_or rest j [] (omega (arith, below, all, sum)))) in
      let is = same x in
      let total = both x in
      let most = once x in
      omega (arith, some, is, total, most)

  wanted : (k : ℕ) → k < length texts → times (get_or texts k []) gives ≡ (if nat_lt k (length n.inputs) then 0 else 1)
  wanted k below = elim (cases_lt k (length n.inputs)) [
    | inl low ↦ input-wanted k low ∙ sym (ap (λ b. if b then 0 else 1) (lt-ltb k (length n.inputs) low))
    | inr high ↦ other-wanted k below high ∙ sym (ap (λ b. if b then 0 else 1) (le-ltb k (length n.inputs) high))
  ]

  pub gives-names : GivesItsNames (placed_node callees n)
  gives-names = record {
    ports = let one = length-append (n.inputs ++ n.outputs) n.others in
        let two = length-append n.inputs n.outputs in
        let all : length n.inputs + length n.outputs ≤ length (all_names n) = omega (arith, one, two) in all;
    within = subst (λ ks. AllByRecursion (λ k. k < length (all_names n)) ks) (sym are)
        (all-mapped (λ k. k < length (all_names n)) (place_of texts) gives (λ x there.
        subst (λ m. place_of texts x < m) many (place-below texts x (given-within x there))));
    given = all-range (λ k. equations_of (placed_node callees n) k ≡ equations_wanted (placed_node callees n) k) 0 (length (all_names n))
        (λ k low high. let below : k < length texts = omega (arith, high, many) in
        ap (λ ks. length (filter (λ j. j == k) ks)) are ∙ counted texts gives k once below ∙ wanted k below);
  }
