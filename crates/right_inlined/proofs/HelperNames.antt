-- The name of a group's procedure is that of no public procedure, and a logged name is that of no start or reset.
use Rattle.std.specs.Prelude.{◌≡◌, ℕ, Bool, true, false, not, ◌||◌, ◌==◌, List, [], ◌∷◌, ◌++◌, Option, codes, decimal, bytes_eq}
use Rattle.std.specs.List.{list_all}
use Rattle.std.proofs.Common.{refl, sym, ap, ap₂, ◌∙◌}
use Rattle.std.proofs.lemmas.Bool.{and_left, and_right, and_parts, ne_eqb}
use Rattle.std.proofs.lemmas.List.{append_assoc, reverse-append}
use Rattle.std.proofs.lemmas.Slice.Eq.{bytes_eq-Decides}
use Rattle.modules_profile.specs.Systems.{system_name}
use Rattle.c_semantics.specs.Machine.{is_interface}
use Rattle.emit_shape.specs.Names.{out_name, update_name, start_name, reset_name, group_name}
use Rattle.right_refined.proofs.lemmas.PlainNames.{is_plain, system-plain}

plain-other : (b : ℕ) → is_plain b ≡ true → b ≡ 95 → ⊥
plain-other b plain same = let wrong : false ≡ true = ap is_plain (sym same) ∙ plain in cc

-- what differs after the first line below differs
behind-line : (s c a b : List ℕ) → list_all is_plain s ≡ true → list_all is_plain c ≡ true → bytes_eq a b ≡ false →
    bytes_eq (s ++ 95 ∷ a) (c ++ 95 ∷ b) ≡ false
behind-line [] [] a b first other apart = apart
behind-line [] (y ∷ c) a b first other apart =
    and_left (95 == y) (bytes_eq a (c ++ 95 ∷ b))
    (ne_eqb 95 y (λ same. plain-other y (and_parts (is_plain y) (list_all is_plain c) other).0 (sym same)))
behind-line (x ∷ s) [] a b first other apart =
    and_left (x == 95) (bytes_eq (s ++ 95 ∷ a) b) (ne_eqb x 95 (plain-other x (and_parts (is_plain x) (list_all is_plain s) first).0))
behind-line (x ∷ s) (y ∷ c) a b first other apart =
    and_right (x == y) (bytes_eq (s ++ 95 ∷ a) (c ++ 95 ∷ b))
    (behind-line s c a b (and_parts (is_plain x) (list_all is_plain s) first).1 (and_parts (is_plain y) (list_all is_plain c) other).1 apart)

-- a group's name against one of the same or another system
group-apart : (s c : Option ℕ) (g : ℕ) (end : List ℕ) → bytes_eq (103 ∷ decimal g) end ≡ false →
    bytes_eq (group_name s g) (system_name c ++ 95 ∷ end) ≡ false
group-apart s c g end apart =
    ap (λ name. bytes_eq name (system_name c ++ 95 ∷ end)) (append_assoc (system_name s) (codes "_g") (decimal g))
    ∙ behind-line (system_name s) (system_name c) (103 ∷ decimal g) end (system-plain s) (system-plain c) apart

pub group-out : (s c : Option ℕ) (g j : ℕ) → bytes_eq (group_name s g) (out_name c j) ≡ false
group-out s c g j =
    ap (bytes_eq (group_name s g)) (append_assoc (system_name c) (codes "_out") (decimal j))
    ∙ group-apart s c g (codes "out" ++ decimal j) refl

pub group-update : (s c : Option ℕ) (g : ℕ) → bytes_eq (group_name s g) (update_name c) ≡ false
group-update s c g = group-apart s c g (codes "update") refl

-- ---- Starts and resets

group-start : (s : Option ℕ) (g : ℕ) → bytes_eq (group_name s g) (start_name s) ≡ false
group-start s g = group-apart s s g (codes "start") refl

group-reset : (s : Option ℕ) (g : ℕ) → bytes_eq (group_name s g) (reset_name s) ≡ false
group-reset s g = group-apart s s g (codes "reset") refl

-- a group's procedure is neither
pub group-ticks : (s : Option ℕ) (g : ℕ) →
    not (bytes_eq (group_name s g) (start_name s) || bytes_eq (group_name s g) (reset_name s)) ≡ true
group-ticks s g = ap not (ap₂ ◌||◌ (group-start s g) (group-reset s g))

start-unlogged : (s : Option ℕ) → is_interface (start_name s) ≡ false
start-unlogged s = rw (reverse-append (system_name s) (codes "_start")) refl

reset-unlogged : (s : Option ℕ) → is_interface (reset_name s) ≡ false
reset-unlogged s = rw (reverse-append (system_name s) (codes "_reset")) refl

-- a logged name is no other that isn't logged
logged-other : (name other : List ℕ) → is_interface name ≡ true → is_interface other ≡ false → bytes_eq name other ≡ false
logged-other name other logged not_logged = by (bytes_eq name other) refl
  where
    by : (b : Bool) → bytes_eq name other ≡ b → b ≡ false
    by true e =
        let same : name ≡ other = (bytes_eq-Decides name other).0 e in
        let wrong : true ≡ false = sym logged ∙ ap is_interface same ∙ not_logged in wrong
    by false e = refl

-- so it is with a procedure whose calls are logged
pub logged-ticks : (s : Option ℕ) (name : List ℕ) → is_interface name ≡ true →
    not (bytes_eq name (start_name s) || bytes_eq name (reset_name s)) ≡ true
logged-ticks s name logged =
    ap not (ap₂ ◌||◌ (logged-other name (start_name s) logged (start-unlogged s)) (logged-other name (reset_name s) logged (reset-unlogged s)))
