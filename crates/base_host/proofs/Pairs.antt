-- Files that are kept as pairs of a text and bytes.
use Rattle.std.proofs.Common.{◌≡◌, ℕ, zero, suc, ◌+◌, ◌<◌, ◌≤◌, Bool, true, false, List, [], ◌∷◌, ◌++◌, length, take, drop, set, get_or, refl, ap, sym, ◌∙◌, arith}
use Rattle.std.proofs.lemmas.List.{length-take-le, take-append-drop, drop-drop}
use Rattle.std.proofs.Math.Seq.{take-append_seam}
use Rattle.std.specs.Prelude.{Some, String, Vec, string_bytes, bytes_eq}
use Rattle.std.specs.declared.alloc.Global.{Global}
use Rattle.base_host.specs.Files.{lookup, grow_last}
use Rattle.base_host.specs.Fakes.{file_of, files_of, bytes_at}

abbrev pub Pair : Type 0
Pair = String Global × Vec ℕ Global

pub bytes_at_is : (fs : List Pair) (i : ℕ) (f : Pair) → i < length fs → f ≡ get_or fs i f → bytes_at (files_of fs) i ≡ f.1.items
bytes_at_is [] i f lt e = absurd (omega arith)
bytes_at_is (x ∷ fs) zero f lt e = ap (λ (g : Pair). g.1.items) (sym e)
bytes_at_is (x ∷ fs) (suc i) f lt e = bytes_at_is fs i f (omega arith) e

pub bytes_at_past : (fs : List Pair) (i : ℕ) → length fs ≤ i → bytes_at (files_of fs) i ≡ []
bytes_at_past [] i le = refl
bytes_at_past (x ∷ fs) zero le = absurd (omega arith)
bytes_at_past (x ∷ fs) (suc i) le = bytes_at_past fs i (omega arith)

same_name : (x f : Pair) (name : List ℕ) (b : Bool) → f ≡ x → bytes_eq (string_bytes f.0) name ≡ b → bytes_eq (string_bytes x.0) name ≡ b
same_name x f name b e h = ap (λ (g : Pair). bytes_eq (string_bytes g.0) name) (sym e) ∙ h

pub lookup_here : (fs : List Pair) (i : ℕ) (f : Pair) (name : List ℕ) → i < length fs → f ≡ get_or fs i f →
    bytes_eq (string_bytes f.0) name ≡ true → lookup name (files_of (drop i fs)) ≡ Some (bytes_at (files_of fs) i)
lookup_here [] i f name lt e h = absurd (omega arith)
lookup_here (x ∷ fs) zero f name lt e h = rw (same_name x f name true e h) refl
lookup_here (x ∷ fs) (suc i) f name lt e h = lookup_here fs i f name (omega arith) e h

pub lookup_past : (fs : List Pair) (i : ℕ) (f : Pair) (name : List ℕ) → i < length fs → f ≡ get_or fs i f →
    bytes_eq (string_bytes f.0) name ≡ false →
    lookup name (files_of (drop i fs)) ≡ lookup name (files_of (drop (suc i) fs))
lookup_past [] i f name lt e h = absurd (omega arith)
lookup_past (x ∷ fs) zero f name lt e h = rw (same_name x f name false e h) refl
lookup_past (x ∷ fs) (suc i) f name lt e h = lookup_past fs i f name (omega arith) e h

-- bytes at the end of the last file
pub grow_is_set : (fs : List Pair) (i : ℕ) (x old : Pair) (more : List ℕ) → i + 1 ≡ length fs → old ≡ get_or fs i old →
    x.0 ≡ old.0 → x.1.items ≡ old.1.items ++ more → files_of (set fs i x) ≡ grow_last (files_of fs) more
grow_is_set [] i x old more n e name bytes = absurd (omega arith)
grow_is_set (f ∷ []) zero x old more n e name bytes =
    let a : string_bytes x.0 ≡ string_bytes f.0 = ap (λ (t : String Global). string_bytes t) name ∙ ap (λ (g : Pair). string_bytes g.0) e in
    let b : x.1.items ≡ f.1.items ++ more = bytes ∙ ap (λ (g : Pair). g.1.items ++ more) e in
    cc
grow_is_set (f ∷ []) (suc i) x old more n e name bytes = absurd (omega arith)
grow_is_set (f ∷ g ∷ fs) zero x old more n e name bytes = absurd (omega arith)
grow_is_set (f ∷ g ∷ fs) (suc i) x old more n e name bytes =
    ap (λ gs. file_of f ∷ gs) (grow_is_set (g ∷ fs) i x old more (omega arith) e name bytes)

-- the same name and bytes again
pub same_is_set : (fs : List Pair) (i : ℕ) (x old : Pair) → i < length fs → old ≡ get_or fs i old → x.0 ≡ old.0 →
    x.1.items ≡ old.1.items → files_of (set fs i x) ≡ files_of fs
same_is_set [] i x old lt e name bytes = absurd (omega arith)
same_is_set (f ∷ fs) zero x old lt e name bytes =
    let a : string_bytes x.0 ≡ string_bytes f.0 = ap (λ (t : String Global). string_bytes t) name ∙ ap (λ (g : Pair). string_bytes g.0) e in
    let b : x.1.items ≡ f.1.items = bytes ∙ ap (λ (g : Pair). g.1.items) e in
    cc
same_is_set (f ∷ fs) (suc i) x old lt e name bytes =
    ap (λ gs. file_of f ∷ gs) (same_is_set fs i x old (omega arith) e name bytes)

-- the bytes that a read moved, and those that it left
pub read_moves : (into content copied : List ℕ) (at n : ℕ) → copied ≡ take n (drop at content) →
    n ≤ length (drop at content) → take n (copied ++ drop n into) ++ drop (at + n) content ≡ drop at content
read_moves into content copied at n is le =
    let len : length copied ≡ n = ap length is ∙ length-take-le n (drop at content) le in
    let front : take n (copied ++ drop n into) ≡ copied = rw (← len) (take-append_seam copied (drop (length copied) into)) in
    let past : drop (at + n) content ≡ drop n (drop at content) = sym (drop-drop n at content) in
    rw (front, past, is) (take-append-drop n (drop at content))
