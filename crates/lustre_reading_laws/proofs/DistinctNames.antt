-- Declared names that pass are different, and each is at its own place.
use Rattle.std.proofs.Common.{◌≡◌, refl, ◌∙◌, ap, ℕ, zero, suc, ◌+◌, ◌<◌, List, [], ◌∷◌, length, map, get_or, Some, Ok, false, not, cond, bytes_eq, arith}
use Rattle.std.specs.List.{AllByRecursion, position_from}
use Rattle.std.proofs.lemmas.Bool.{not-true, or_parts, or_from}
use Rattle.c_syntax.specs.declared.fault.CKind.TheVariants.{Name}
use Rattle.c_syntax.specs.Outputs.{has_name}
use Rattle.c_syntax.proofs.lemmas.NamePlaces.{bytes_eq-same, bytes_eq-sym}
use Rattle.c_rules.specs.Resolve.{unless_fault, on_line, check_params}
use Rattle.c_rules.proofs.lemmas.Resolved.{then-parts, on_line-ok, unless-ok}
use Rattle.lustre_syntax.specs.Lawful.{AreDistinct}
use Rattle.lustre_grammar.specs.Written.{WrittenDeclared}
use Rattle.lustre_reading_laws.proofs.WellWritten.{AreNamed}

-- none of these names is one of those
abbrev pub AreApart : List (List ℕ) → List (List ℕ) → Type 0
AreApart others texts = AllByRecursion (λ t. has_name others t ≡ false) texts

-- names apart from a list are apart from its first name and from the others
apart-first : (text : List ℕ) (others texts : List (List ℕ)) → AreApart (text ∷ others) texts →
    (has_name texts text ≡ false) × AreApart others texts
apart-first text others [] h = (refl, tt)
apart-first text others (t ∷ texts) h =
    let later : _ = apart-first text others texts h.1 in
    let here : _ = or_parts (bytes_eq t text) (has_name others t) h.0 in
    (or_from (bytes_eq text t) (has_name texts text) (bytes_eq-sym text t ∙ here.0) later.0, (here.1, later.1))

pub names-differ : (earlier : List (List ℕ)) (ds : List WrittenDeclared) (u : Unit {0}) →
    check_params [] earlier (map (λ d. (d.line, d.text)) ds) ≡ Ok u → AreNamed ds →
    AreDistinct (map (λ d. d.text) ds) × AreApart earlier (map (λ d. d.text) ds)
names-differ earlier [] u e named = (tt, tt)
names-differ earlier (d ∷ ds) u e named =
    let p : _ =
    then-parts (on_line d.line (unless_fault (not (has_name earlier d.text)) Name))
    (check_params [] (d.text ∷ earlier) (map (λ x. (x.line, x.text)) ds)) u e in
    let new : has_name earlier d.text ≡ false =
    not-true (has_name earlier d.text)
    (unless-ok (not (has_name earlier d.text)) Name p.0
    (on_line-ok d.line (unless_fault (not (has_name earlier d.text)) Name) p.0 p.1)) in
    let later : _ = names-differ (d.text ∷ earlier) ds u p.2 named.1 in
    let apart : _ = apart-first d.text earlier (map (λ x. x.text) ds) later.1 in
    ((named.0, apart.0, later.0), (new, apart.1))

other-name : (texts : List (List ℕ)) (text : List ℕ) (k : ℕ) → has_name texts text ≡ false → k < length texts →
    bytes_eq (get_or texts k []) text ≡ false
other-name [] text k h within = absurd (omega (arith, within))
other-name (t ∷ texts) text zero h within = bytes_eq-sym t text ∙ (or_parts (bytes_eq text t) (has_name texts text) h).0
other-name (t ∷ texts) text (suc k) h within =
    other-name texts text k (or_parts (bytes_eq text t) (has_name texts text) h).1 (omega (arith, within))

-- the place of one of different names
pub distinct-place : (texts : List (List ℕ)) (i k : ℕ) → AreDistinct texts → k < length texts →
    position_from (bytes_eq (get_or texts k [])) i texts ≡ Some (i + k)
distinct-place [] i k h within = absurd (omega (arith, within))
distinct-place (t ∷ texts) i zero h within =
    ap (λ b. cond b (Some i) (position_from (bytes_eq t) (i + 1) texts)) (bytes_eq-same t) ∙ ap Some (omega arith)
distinct-place (t ∷ texts) i (suc k) h within =
    let later : k < length texts = omega (arith, within) in
    ap (λ b. cond b (Some i) (position_from (bytes_eq (get_or texts k [])) (i + 1) texts)) (other-name texts t k h.1 later)
    ∙ distinct-place texts (i + 1) k h.2 later ∙ ap Some (omega arith)
