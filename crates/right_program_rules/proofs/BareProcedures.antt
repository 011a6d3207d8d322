-- The bare procedures that stand for those of children, and fields that are moved.
use Rattle.std.specs.Prelude.{◌≡◌, ℕ, zero, suc, ◌+◌, List, [], ◌∷◌, map, flat_map, length, slice_get, Contains, Some}
use Rattle.std.specs.List.{AllZip, enumerate_from}
use Rattle.std.proofs.Common.{refl, ap, subst, ◌∙◌, arith, inl, inr}
use Rattle.std.proofs.lemmas.List.{length-append}
use Rattle.std.proofs.lemmas.Option.{none-some}
use Rattle.modules_profile.specs.declared.ChildUse.{ChildUse}
use Rattle.modules_profile.proofs.lemmas.Members.{in-at, at-map, map-at, at-left, at-right, at-append}
use Rattle.c_syntax.specs.declared.FieldKind.{FieldKind}
use Rattle.c_syntax.specs.declared.FieldKind.TheVariants.{Number, Array, Struct}
use Rattle.c_syntax.specs.Tree.{FieldTree, ProcedureTree}
use Rattle.c_syntax.specs.RootFields.{is_number_kind}
use Rattle.c_syntax.specs.Lawful.{IsNumberAt, IsArrayAt, IsStructAt}
use Rattle.emit_shape.specs.Heads.{Head, public_heads}
use Rattle.emit_shape.specs.SystemTree.{SystemTree}
use Rattle.emit_shape.specs.Assembled.{code_named, struct_position, moved_kind}
use Rattle.right_claim.specs.Alone.{bare_procedure}
use Rattle.right_linking.proofs.lemmas.AssembledPlaces.{mapped-length}

-- ---- Bare procedures

abbrev pub all_bare : ℕ → List ChildUse → List ProcedureTree
all_bare n us = flat_map (λ (e : ℕ × ChildUse). map (bare_procedure e.0) (public_heads e.1.header)) (enumerate_from n us)

abbrev pub all_heads : List ChildUse → List Head
all_heads us = flat_map (λ (u : ChildUse). public_heads u.header) us

pub bare-long : (n : ℕ) (us : List ChildUse) → length (all_bare n us) ≡ length (all_heads us)
bare-long n [] = refl
bare-long n (u ∷ us) =
    let one = length-append (map (bare_procedure n) (public_heads u.header)) (all_bare (n + 1) us) in
    let two = length-append (public_heads u.header) (all_heads us) in
    let made = mapped-length (bare_procedure n) (public_heads u.header) in
    let rest = bare-long (n + 1) us in omega (arith, one, two, made, rest)

-- a bare procedure has the head of one of the procedures of its child
pub record IsBare (n : ℕ) (us : List ChildUse) (i : ℕ) (p : ProcedureTree) : Type 0 where
  pub child_place : ℕ
  pub child : ChildUse
  pub there : slice_get us child_place ≡ Some child
  pub head : Head
  pub has : Contains (public_heads child.header) head
  pub counted : slice_get (all_heads us) i ≡ Some head
  pub is : bare_procedure (n + child_place) head ≡ p

pub of-bare : (n : ℕ) (us : List ChildUse) (i : ℕ) (p : ProcedureTree) → slice_get (all_bare n us) i ≡ Some p → IsBare n us i p
of-bare n [] i p at = absurd (none-some p at)
of-bare n (u ∷ us) i p at = elim (at-append (map (bare_procedure n) (public_heads u.header)) (all_bare (n + 1) us) i p at) [
  | inl here ↦
      let from = map-at (bare_procedure n) (public_heads u.header) i p here in
      let none : n + 0 ≡ n = omega arith in
      record {
        child_place = 0;
        child = u;
        there = refl;
        head = from.0;
        has = in-at (public_heads u.header) i from.0 from.1;
        counted = at-left (public_heads u.header) (all_heads us) i from.0 from.1;
        is = ap (λ k. bare_procedure k from.0) none ∙ from.2;
      }
  | inr later ↦
      let rest = of-bare (n + 1) us later.0 p later.2 in
      let made = mapped-length (bare_procedure n) (public_heads u.header) in
      let sum = later.1 in
      let place : length (public_heads u.header) + later.0 ≡ i = omega (arith, made, sum) in
      let number : n + suc rest.child_place ≡ n + 1 + rest.child_place = omega arith in
      record {
        child_place = suc rest.child_place;
        child = rest.child;
        there = rest.there;
        head = rest.head;
        has = rest.has;
        counted = subst (λ k. slice_get (all_heads (u ∷ us)) k ≡ Some rest.head) place
            (at-right (public_heads u.header) (all_heads us) later.0 rest.head rest.counted);
        is = ap (λ k. bare_procedure k rest.head) number ∙ rest.is;
      }
]

pub zip-at : {A B : Type 0} (P : A → B → Type 0) (xs : List A) (ys : List B) (k : ℕ) (x : A) → AllZip P xs ys → slice_get xs k ≡ Some x →
    (y : B) × (slice_get ys k ≡ Some y) × P x y
zip-at P [] ys k x all at = absurd (none-some x at)
zip-at P (z ∷ xs) [] k x all at = absurd all
zip-at P (z ∷ xs) (y ∷ ys) zero x all at = let same : z ≡ x = cc at in (y, refl, subst (λ w. P w y) same all.0)
zip-at P (z ∷ xs) (y ∷ ys) (suc k) x all at = zip-at P xs ys k x all.1 at

-- ---- Fields

module _ (all : List SystemTree) where
  abbrev pub moved_field : FieldTree → FieldTree
  moved_field f = record { name = f.name; kind = moved_kind all f.name f.kind }

  same-number : (name : List ℕ) (kind : FieldKind) → is_number_kind (moved_kind all name kind) ≡ is_number_kind kind
  same-number name (Number type) = refl
  same-number name (Array type count) = refl
  same-number name (Struct k) = refl

  pub number-moved : (fields : List FieldTree) (f : ℕ) → IsNumberAt fields f → IsNumberAt (map moved_field fields) f
  number-moved fields f (field, at, is) = (moved_field field, at-map moved_field fields f field at, same-number field.name field.kind ∙ is)

  pub array-moved : (fields : List FieldTree) (f : ℕ) → IsArrayAt fields f → IsArrayAt (map moved_field fields) f
  array-moved fields f (field, type, count, at, is) =
      (moved_field field, type, count, at-map moved_field fields f field at, ap (moved_kind all field.name) is)

  pub struct-moved : (fields : List FieldTree) (f k : ℕ) (field : FieldTree) → slice_get fields f ≡ Some field → field.kind ≡ Struct k →
      IsStructAt (map moved_field fields) f (struct_position all (code_named all field.name))
  struct-moved fields f k field at is = (moved_field field, at-map moved_field fields f field at, ap (moved_kind all field.name) is)
