-- Each comment is UTF-8, whatever its text.
use Rattle.std.proofs.Common.{◌≡◌, refl, sym, ◌∙◌, ap, subst, ℕ, ◌+◌, ◌-◌, ◌/◌, ◌%◌, ◌<◌, ◌≤◌, ◌⊎◌, inl, inr, Bool, true, false, not, ◌&&◌, ◌||◌, ◌==◌, nat_le, nat_lt, cond, List, [], ◌∷◌, ◌++◌, length, take, drop, codes, if◌then◌else◌, slice_index, leb-true, arith}
use Rattle.std.specs.Prelude.{IsUtf8, IsCharBoundary}
use Rattle.std.specs.List.{AllByRecursion}
use Rattle.std.specs.Char.{encode_utf8}
use Rattle.std.specs.Str.{is_utf8, all_scalars, encode_utf8_all}
use Rattle.std.proofs.lemmas.Bool.{cases_lt, ne_eqb}
use Rattle.std.proofs.lemmas.Bool.Decides.{nat_tests}
use Rattle.std.proofs.lemmas.List.{length-append}
use Rattle.std.proofs.Math.Utf8.{low_scalar}
use Rattle.std.proofs.lemmas.Str.{IsUtf8-from_is_utf8, IsUtf8-append, IsUtf8-nil, IsUtf8-encode, IsUtf8-take, encode_ascii, length-encode, len_utf8_bounds, IsCharBoundary-start, IsCharBoundary-from_rest}
use Rattle.c_grammar.specs.Tokens.{is_white_space}
use Rattle.c_grammar.proofs.lemmas.LiteralLaws.{and_first, and_second}
use Rattle.c_rules.specs.AlikeTexts.{is_quiet}
use Rattle.c_printer.specs.Laws.{CommentsAreUtf8}
use Rattle.c_printer.specs.Comments.{note_limit, shown_byte, byte_after, shown_after, is_inside, cut_place, comment_text}

-- ---- Where a text is cut

not-inside : (text : List ℕ) (k : ℕ) → k ≤ length text → is_inside (slice_index text k) ≡ false → IsCharBoundary text k
not-inside text k within outside = (within, λ more high. lead (slice_index text k) outside high)
  where
    lead : (b : ℕ) → is_inside b ≡ false → 128 ≤ b → 192 ≤ b
    lead b out high = grind (arith, nat_tests)

no-boundary : (text : List ℕ) (k : ℕ) → k < length text → is_inside (slice_index text k) ≡ true → IsCharBoundary text k → ⊥
no-boundary text k within inside boundary = wrong (slice_index text k) inside (boundary.1 within)
  where
    wrong : (b : ℕ) → is_inside b ≡ true → (128 ≤ b → 192 ≤ b) → ⊥
    wrong b h lead =
        let low : 128 ≤ b = leb-true 128 b (and_first (nat_le 128 b) (nat_le b 191) h) in
        let high : b ≤ 191 = leb-true b 191 (and_second (nat_le 128 b) (nat_le b 191) h) in
        let over : 192 ≤ b = lead low in
        omega arith

front-dropped : (xs ys : List ℕ) → drop (length xs) (xs ++ ys) ≡ ys
front-dropped [] ys = refl
front-dropped (x ∷ xs) ys = front-dropped xs ys

-- a character begins at most three bytes before each place
record Begins (bs : List ℕ) (n : ℕ) : Type 0 where
  pub place : ℕ
  pub before : place ≤ n
  pub near : n < place + 4
  pub boundary : IsCharBoundary bs place

begins-near : (cs : List ℕ) → all_scalars cs ≡ true → (n : ℕ) → n < length (encode_utf8_all cs) → Begins (encode_utf8_all cs) n
begins-near [] h n within = absurd (omega (arith, within))
begins-near (c ∷ cs) h n within = by (begins-near cs (and_second _ _ h)) (cases_lt n (length (encode_utf8 c)))
  where
    by : ((m : ℕ) → m < length (encode_utf8_all cs) → Begins (encode_utf8_all cs) m) →
        (n < length (encode_utf8 c)) ⊎ (length (encode_utf8 c) ≤ n) → Begins (encode_utf8_all (c ∷ cs)) n
    by near_later (inl first) = record {
      place = 0;
      before = omega arith;
      near =
          let few : length (encode_utf8 c) ≤ 4 = subst (λ k. k ≤ 4) (sym (length-encode c)) (len_utf8_bounds c).1 in
          omega (arith, first, few);
      boundary = IsCharBoundary-start (encode_utf8_all (c ∷ cs)) (c ∷ cs, (h, refl));
    }
    by near_later (inr later) =
        let size : ℕ = length (encode_utf8 c) in
        let long : length (encode_utf8 c ++ encode_utf8_all cs) ≡ size + length (encode_utf8_all cs) =
        length-append (encode_utf8 c) (encode_utf8_all cs) in
        let rest : Begins (encode_utf8_all cs) (n - size) =
        near_later (n - size) (omega (arith, within, later, long)) in
        let near : n - size < rest.place + 4 = rest.near in
        let before : rest.place ≤ n - size = rest.before in
        record {
          place = size + rest.place;
          before = omega (arith, later, before);
          near = omega (arith, later, near);
          boundary = IsCharBoundary-from_rest (encode_utf8 c ++ encode_utf8_all cs) size rest.place (omega (arith, long))
              (subst (λ t. IsCharBoundary t rest.place) (sym (front-dropped (encode_utf8 c) (encode_utf8_all cs))) rest.boundary);
        }

utf8-begins : (text : List ℕ) → IsUtf8 text → (n : ℕ) → n < length text → Begins text n
utf8-begins text valid n within =
    subst (λ t. Begins t n) valid.1.1 (begins-near valid.0 valid.1.0 n (subst (λ t. n < length t) (sym valid.1.1) within))

-- the place where it is cut is one
last-place : (text : List ℕ) (place : ℕ) → 57 < length text → place ≤ 57 → 57 < place + 4 → IsCharBoundary text place →
    is_inside (slice_index text 57) ≡ true → is_inside (slice_index text 56) ≡ true → is_inside (slice_index text 55) ≡ true →
    IsCharBoundary text 54
last-place text place long before near boundary x y z = by (cases_lt 54 place)
  where
    is-at : (k : ℕ) → place ≡ k → IsCharBoundary text k
    is-at k same = subst (IsCharBoundary text) same boundary

    by : (54 < place) ⊎ (place ≤ 54) → IsCharBoundary text 54
    by (inr low) = is-at 54 (omega (arith, low, near))
    by (inl high) = absurd (above (cases_lt 55 place))
      where
        highest : (56 < place) ⊎ (place ≤ 56) → 55 < place → ⊥
        highest (inl most) two = no-boundary text 57 long x (is-at 57 (omega (arith, most, before)))
        highest (inr less) two = no-boundary text 56 (omega (arith, long)) y (is-at 56 (omega (arith, less, two)))

        above : (55 < place) ⊎ (place ≤ 55) → ⊥
        above (inl two) = highest (cases_lt 56 place) two
        above (inr one) = no-boundary text 55 (omega (arith, long)) z (is-at 55 (omega (arith, one, high)))

cut-boundary : (text : List ℕ) → IsUtf8 text → 57 < length text → IsCharBoundary text (cut_place true text)
cut-boundary text valid long =
    by (is_inside (slice_index text 57)) (is_inside (slice_index text 56)) (is_inside (slice_index text 55)) refl refl refl
  where
    by : (x y z : Bool) → is_inside (slice_index text 57) ≡ x → is_inside (slice_index text 56) ≡ y → is_inside (slice_index text 55) ≡ z →
        IsCharBoundary text (if not x then 57 else (if not y then 56 else (if not z then 55 else 54)))
    by false y z e f g = not-inside text 57 (omega (arith, long)) e
    by true false z e f g = not-inside text 56 (omega (arith, long)) f
    by true true false e f g = not-inside text 55 (omega (arith, long)) g
    by true true true e f g =
        let b : Begins text 57 = utf8-begins text valid 57 long in
        last-place text b.place long b.before b.near b.boundary e f g

-- ---- What is shown

-- a byte beyond ASCII is shown as it is
quiet-high : (b : ℕ) → 128 ≤ b → is_quiet b ≡ true
quiet-high b high = grind (arith, nat_tests)

high-shown : (last b : ℕ) → 128 ≤ b → byte_after true last b ≡ b
high-shown last b high =
    let other : (b == 47) ≡ false = ne_eqb b 47 (λ same. let wrong : ⊥ = omega (arith, high, same) in wrong) in
    ap (λ t. if t && (last == 47) then 46 else shown_byte true b) other
    ∙ by (is_quiet b) (nat_le b 127) (quiet-high b high)
  where
    by : (q n : Bool) → q ≡ true → (if q && (n || true) then b else (if is_white_space b then 32 else 46)) ≡ b
    by true true e = refl
    by true false e = refl
    by false n e = absurd (let wrong : ⊥ = cc e in wrong)

-- and one of ASCII as one of ASCII
low-shown : (u : Bool) (last b : ℕ) → (u ≡ true → b < 128) → byte_after u last b < 128
low-shown u last b low = by ((b == 47) && (last == 47))
  where
    shown : (t w : Bool) → (is_quiet b && (nat_le b 127 || u)) ≡ t → (if t then b else (if w then 32 else 46)) < 128
    shown false true e = omega arith
    shown false false e = omega arith
    shown true w e = ascii u (nat_le b 127) refl low (and_second (is_quiet b) (nat_le b 127 || u) e)
      where
        ascii : (v n : Bool) → nat_le b 127 ≡ n → (v ≡ true → b < 128) → (n || v) ≡ true → b < 128
        ascii v true f l g = let few : b ≤ 127 = leb-true b 127 f in omega (arith, few)
        ascii true false f l g = l refl
        ascii false false f l g = absurd (let wrong : ⊥ = cc g in wrong)

    by : (t : Bool) → (if t then 46 else shown_byte u b) < 128
    by true = omega arith
    by false = shown (is_quiet b && (nat_le b 127 || u)) (is_white_space b) refl

ascii-utf8 : (b : ℕ) → b < 128 → IsUtf8 (b ∷ [])
ascii-utf8 b low = subst IsUtf8 (encode_ascii b low) (IsUtf8-encode b (low_scalar b (omega (arith, low))))

-- a text that isn't UTF-8
plain-shown : (last : ℕ) (bs : List ℕ) → IsUtf8 (shown_after false last bs)
plain-shown last [] = IsUtf8-nil
plain-shown last (b ∷ bs) =
    let c : ℕ = byte_after false last b in
    IsUtf8-append (c ∷ []) (shown_after false c bs) (ascii-utf8 c (low-shown false last b (λ e. let wrong : ⊥ = cc e in absurd wrong)))
    (plain-shown c bs)

abbrev AreHigh : List ℕ → Type 0
AreHigh bs = AllByRecursion (λ b. 128 ≤ b) bs

-- the bytes of a character beyond ASCII
record Goes (bs ys : List ℕ) (last : ℕ) : Type 0 where
  pub next : ℕ
  pub same : shown_after true last (bs ++ ys) ≡ bs ++ shown_after true next ys

high-goes : (bs ys : List ℕ) (last : ℕ) → AreHigh bs → Goes bs ys last
high-goes [] ys last all = record { next = last; same = refl }
high-goes (b ∷ bs) ys last all =
    let rest : Goes bs ys b = high-goes bs ys b all.1 in
    record {
      next = rest.next;
      same = ap (λ c. c ∷ shown_after true c (bs ++ ys)) (high-shown last b all.0) ∙ ap (λ t. b ∷ t) rest.same;
    }

encode-high : (c : ℕ) → 128 ≤ c → AreHigh (encode_utf8 c)
unfolding encode_utf8
encode-high c high = by (nat_lt c 128) (nat_lt c 2048) (nat_lt c 65536) (not-below c high)
  where
    by : (x y z : Bool) → x ≡ false →
        AreHigh (cond x (c ∷ []) (cond y ((192 + c / 64) ∷ (128 + c % 64) ∷ [])
        (cond z ((224 + c / 4096) ∷ (128 + (c / 64) % 64) ∷ (128 + c % 64) ∷ [])
        ((240 + c / 262144) ∷ (128 + (c / 4096) % 64) ∷ (128 + (c / 64) % 64) ∷ (128 + c % 64) ∷ []))))
    by true y z e = absurd (let wrong : ⊥ = cc e in wrong)
    by false true z e = (omega arith, (omega arith, tt))
    by false false true e = (omega arith, (omega arith, (omega arith, tt)))
    by false false false e = (omega arith, (omega arith, (omega arith, (omega arith, tt))))

    not-below : (k : ℕ) → 128 ≤ k → nat_lt k 128 ≡ false
    not-below k h = grind (arith, nat_tests)

chars-shown : (cs : List ℕ) → all_scalars cs ≡ true → (last : ℕ) → IsUtf8 (shown_after true last (encode_utf8_all cs))
chars-shown [] h last = IsUtf8-nil
chars-shown (c ∷ cs) h last = by (chars-shown cs (and_second _ _ h)) (cases_lt c 128)
  where
    by : ((next : ℕ) → IsUtf8 (shown_after true next (encode_utf8_all cs))) → (c < 128) ⊎ (128 ≤ c) →
        IsUtf8 (shown_after true last (encode_utf8 c ++ encode_utf8_all cs))
    by later (inl low) =
        let b : ℕ = byte_after true last c in
        subst (λ t. IsUtf8 (shown_after true last (t ++ encode_utf8_all cs))) (sym (encode_ascii c low))
        (IsUtf8-append (b ∷ []) (shown_after true b (encode_utf8_all cs)) (ascii-utf8 b (low-shown true last c (λ e. low)))
        (later b))
    by later (inr high) =
        let goes : Goes (encode_utf8 c) (encode_utf8_all cs) last =
        high-goes (encode_utf8 c) (encode_utf8_all cs) last (encode-high c high) in
        subst IsUtf8 (sym goes.same)
        (IsUtf8-append (encode_utf8 c) (shown_after true goes.next (encode_utf8_all cs)) (IsUtf8-encode c (and_first _ _ h))
        (later goes.next))

utf8-shown : (text : List ℕ) → IsUtf8 text → (last : ℕ) → IsUtf8 (shown_after true last text)
utf8-shown text valid last = subst (λ t. IsUtf8 (shown_after true last t)) valid.1.1 (chars-shown valid.0 valid.1.0 last)

dots-utf8 : IsUtf8 (codes "...")
dots-utf8 = IsUtf8-append (46 ∷ []) (46 ∷ 46 ∷ []) (ascii-utf8 46 (omega arith))
    (IsUtf8-append (46 ∷ []) (46 ∷ []) (ascii-utf8 46 (omega arith)) (ascii-utf8 46 (omega arith)))

text-utf8 : (text : List ℕ) (u t : Bool) → is_utf8 text ≡ u → nat_le (length text) note_limit ≡ t →
    IsUtf8 (if t then shown_after u 32 text else shown_after u 32 (take (cut_place u text) text) ++ codes "...")
text-utf8 text false true e f = plain-shown 32 text
text-utf8 text false false e f =
    IsUtf8-append (shown_after false 32 (take (cut_place false text) text)) (codes "...")
    (plain-shown 32 (take (cut_place false text) text)) dots-utf8
text-utf8 text true true e f = utf8-shown text (IsUtf8-from_is_utf8 text e) 32
text-utf8 text true false e f =
    let valid : IsUtf8 text = IsUtf8-from_is_utf8 text e in
    let kept : List ℕ = take (cut_place true text) text in
    IsUtf8-append (shown_after true 32 kept) (codes "...")
    (utf8-shown kept (IsUtf8-take text (cut_place true text) valid (cut-boundary text valid (long (length text) f))) 32) dots-utf8
  where
    long : (n : ℕ) → nat_le n 60 ≡ false → 57 < n
    long n h = grind (arith, nat_tests)

pub comments_are_utf8 : CommentsAreUtf8
unfolding comment_text
comments_are_utf8 text = text-utf8 text (is_utf8 text) (nat_le (length text) note_limit) refl refl
