-- What names stand for: the parts of what is resolved, and that they are lawful.
use Rattle.std.proofs.Common.{◌≡◌, refl, ◌∙◌, ap, ℕ, suc, ◌+◌, List, [], ◌∷◌, length, Option, Some, None, Result, Ok, Err, unwrap_or, Bool, true, false, cond, if◌then◌else◌, bytes_eq, slice_get, subst, arith}
use Rattle.std.specs.List.{position_from}
use Rattle.std.proofs.lemmas.Option.{slice_get_within}
use Rattle.c_syntax.specs.declared.code.CType.{CType}
use Rattle.c_syntax.specs.declared.code.Leaf.{Leaf}
use Rattle.c_syntax.specs.declared.code.Leaf.TheVariants.{Param, Own, Child}
use Rattle.c_syntax.specs.declared.fault.CKind.{CKind}
use Rattle.c_syntax.specs.declared.fault.CKind.TheVariants.{TypeRule}
use Rattle.c_syntax.specs.declared.program.FieldKind.{FieldKind}
use Rattle.c_syntax.specs.declared.program.FieldKind.TheVariants.{Number, Array, Struct}
use Rattle.c_syntax.specs.Tree.{FieldTree, struct_fields}
use Rattle.c_grammar.specs.Written.{WrittenLeaf}
use Rattle.base_core.specs.Results.{◌>>=◌, ◌>>◌}
use Rattle.c_rules.specs.Resolve.{unless_fault, on_line, or_unnamed, field_from, field_named, as_number, as_array, as_struct, same_type, Names, resolve_leaf, resolve_array, resolve_item_store}
use Rattle.c_syntax.specs.RootFields.{is_number, is_number_kind}
use Rattle.c_syntax.specs.Lawful.{Reach, IsArrayAt, IsLawfulLeaf}

pub ok-same : {A E : Type 0} (x y : A) → ◌≡◌ {A = Result A E} (Ok x) (Ok y) → x ≡ y
ok-same {A} {E} x y e = ap (by x) e
  where
    by : A → Result A E → A
    by default (Ok z) = z
    by default (Err fault) = default

-- the parts of two steps that both succeed
pub bind-parts : {A B E : Type 0} (r : Result A E) (go : A → Result B E) (y : B) → (r >>= go) ≡ Ok y → (x : A) × (r ≡ Ok x) × (go x ≡ Ok y)
bind-parts (Ok x) go y e = (x, refl, e)
bind-parts (Err fault) go y e = cc

pub then-parts : {A B E : Type 0} (r : Result A E) (next : Result B E) (y : B) → (r >> next) ≡ Ok y → (x : A) × (r ≡ Ok x) × (next ≡ Ok y)
then-parts (Ok x) next y e = (x, refl, e)
then-parts (Err fault) next y e = cc

pub on_line-ok : {A : Type 0} (line : ℕ) (r : Result A CKind) (x : A) → on_line line r ≡ Ok x → r ≡ Ok x
on_line-ok line (Ok y) x e = ap Ok (ok-same y x e)
on_line-ok line (Err kind) x e = cc

pub unless-ok : (b : Bool) (kind : CKind) (u : Unit {0}) → unless_fault b kind ≡ Ok u → b ≡ true
unless-ok true kind u e = refl
unless-ok false kind u e = cc

pub named-ok : {A : Type 0} (o : Option A) (x : A) → or_unnamed o ≡ Ok x → o ≡ Some x
named-ok (Some y) x e = ap Some (ok-same y x e)
named-ok None x e = cc

pub some_same : {A : Type 0} (x y : A) → Some x ≡ Some y → x ≡ y
some_same x y e = ap (λ o. unwrap_or o x) e

-- what is at a position that was found
record At {A : Type 0} (test : A → Bool) (xs : List A) (i k : ℕ) : Type 0 where
  item : A
  offset : ℕ
  place : k ≡ i + offset
  there : slice_get xs offset ≡ Some item
  passes : test item ≡ true

position-at : {A : Type 0} (test : A → Bool) (i : ℕ) (xs : List A) (k : ℕ) → position_from test i xs ≡ Some k → At test xs i k
position-at test i [] k e = cc
position-at test i (x ∷ xs) k e = by (test x) refl e (λ h. position-at test (i + 1) xs k h)
  where
    by : (b : Bool) → test x ≡ b → cond b (Some i) (position_from test (i + 1) xs) ≡ Some k →
        (position_from test (i + 1) xs ≡ Some k → At test xs (i + 1) k) → At test (x ∷ xs) i k
    by true is h later = record { item = x; offset = 0; place = omega (arith, some_same i k h); there = refl; passes = is }
    by false is h later =
        let a : At test xs (i + 1) k = later h in
        record { item = a.item; offset = suc a.offset; place = omega (arith, a.place); there = a.there; passes = a.passes }

pub position-there : {A : Type 0} (test : A → Bool) (xs : List A) (k : ℕ) → position_from test 0 xs ≡ Some k →
    (x : A) × (slice_get xs k ≡ Some x) × (test x ≡ true)
position-there test xs k e =
    let a : At test xs 0 k = position-at test 0 xs k e in
    let same : a.offset ≡ k = omega (arith, a.place) in
    (a.item, subst (λ n. slice_get xs n ≡ Some a.item) same a.there, a.passes)

record FieldAt (fields : List FieldTree) (i : ℕ) (found : ℕ × FieldKind) : Type 0 where
  item : FieldTree
  offset : ℕ
  place : found.0 ≡ i + offset
  there : slice_get fields offset ≡ Some item
  kind : item.kind ≡ found.1

field-at : (i : ℕ) (fields : List FieldTree) (name : List ℕ) (found : ℕ × FieldKind) →
    field_from i fields name ≡ Some found → FieldAt fields i found
field-at i [] name found e = cc
field-at i (f ∷ fields) name found e = by (bytes_eq f.name name) e (λ h. field-at (i + 1) fields name found h)
  where
    by : (b : Bool) → (if b then Some (i, f.kind) else field_from (i + 1) fields name) ≡ Some found →
        (field_from (i + 1) fields name ≡ Some found → FieldAt fields (i + 1) found) → FieldAt (f ∷ fields) i found
    by true h later =
        let same : (i, f.kind) ≡ found = some_same (i, f.kind) found h in
        record { item = f; offset = 0; place = omega (arith, ap (λ x. x.0) same); there = refl; kind = ap (λ x. x.1) same }
    by false h later =
        let a : FieldAt fields (i + 1) found = later h in
        record { item = a.item; offset = suc a.offset; place = omega (arith, a.place); there = a.there; kind = a.kind }

-- the field of a name, and its kind
pub field-there : (fields : List FieldTree) (name : List ℕ) (found : ℕ × FieldKind) →
    field_named fields name ≡ Ok found → (f : FieldTree) × (slice_get fields found.0 ≡ Some f) × (f.kind ≡ found.1)
field-there fields name found e =
    let a : FieldAt fields 0 found = field-at 0 fields name found (named-ok (field_from 0 fields name) found e) in
    let same : a.offset ≡ found.0 = omega (arith, a.place) in
    (a.item, subst (λ n. slice_get fields n ≡ Some a.item) same a.there, a.kind)

pub number-kind : (f : FieldTree) (kind : FieldKind) (type : CType) → f.kind ≡ kind → as_number kind ≡ Ok type → is_number f ≡ true
number-kind f kind type e n = by kind e n
  where
    by : (k : FieldKind) → f.kind ≡ k → as_number k ≡ Ok type → is_number f ≡ true
    by (Number t) is m = ap is_number_kind is
    by (Array t count) is m = cc
    by (Struct k) is m = cc

pub struct-kind : (kind : FieldKind) (k : ℕ) → as_struct kind ≡ Ok k → kind ≡ Struct k
struct-kind (Number t) k e = cc
struct-kind (Array t count) k e = cc
struct-kind (Struct j) k e = ap Struct (ok-same j k e)

-- what a body's names reach
abbrev pub reach_of : Names → ℕ → Reach
reach_of names of =
    record {
      pures = names.known.pures;
      structs = names.known.structs;
      procedures = names.known.procedures;
      fields = names.fields;
      params = length names.params;
      of = of;
    }

pub leaf-lawful : (names : Names) (of : ℕ) (w : WrittenLeaf) (leaf : Leaf) → resolve_leaf names w ≡ Ok leaf →
    IsLawfulLeaf (reach_of names of) leaf
leaf-lawful names of (WrittenLeaf.param name) leaf e =
    let b : _ = bind-parts (or_unnamed (position_from (bytes_eq name) 0 names.params)) (λ k. Ok (Param k)) leaf e in
    let p : _ = position-there (bytes_eq name) names.params b.0 (named-ok (position_from (bytes_eq name) 0 names.params) b.0 b.1) in
    subst (λ l. IsLawfulLeaf (reach_of names of) l) (ok-same (Param b.0) leaf b.2) (slice_get_within names.params b.0 p.0 p.1)
leaf-lawful names of (WrittenLeaf.own name) leaf e =
    let b : _ = bind-parts (field_named names.fields name) (λ field. as_number field.1 >>= λ type. Ok (Own field.0)) leaf e in
    let c : _ = bind-parts (as_number b.0.1) (λ type. Ok (Own b.0.0)) leaf b.2 in
    let f : _ = field-there names.fields name b.0 b.1 in
    subst (λ l. IsLawfulLeaf (reach_of names of) l) (ok-same (Own b.0.0) leaf c.2) (f.0, f.1, number-kind f.0 b.0.1 c.0 f.2 c.1)
leaf-lawful names of (WrittenLeaf.child name inner) leaf e =
    let b : _ =
    bind-parts (field_named names.fields name)
    (λ field. as_struct field.1 >>= λ k. field_named (struct_fields names.known.structs k) inner >>= λ inner_field.
    as_number inner_field.1 >>= λ type. Ok (Child field.0 inner_field.0)) leaf e in
    let c : _ =
    bind-parts (as_struct b.0.1) (λ k. field_named (struct_fields names.known.structs k) inner >>= λ inner_field.
    as_number inner_field.1 >>= λ type. Ok (Child b.0.0 inner_field.0)) leaf b.2 in
    let d : _ =
    bind-parts (field_named (struct_fields names.known.structs c.0) inner) (λ inner_field. as_number inner_field.1
    >>= λ type. Ok (Child b.0.0 inner_field.0)) leaf c.2 in
    let t : _ = bind-parts (as_number d.0.1) (λ type. Ok (Child b.0.0 d.0.0)) leaf d.2 in
    let f : _ = field-there names.fields name b.0 b.1 in
    let g : _ = field-there (struct_fields names.known.structs c.0) inner d.0 d.1 in
    subst (λ l. IsLawfulLeaf (reach_of names of) l) (ok-same (Child b.0.0 d.0.0) leaf t.2)
    (c.0, (f.0, f.1, f.2 ∙ struct-kind b.0.1 c.0 c.1), (g.0, g.1, number-kind g.0 d.0.1 t.0 g.2 t.1))

pub kind-same : (j k : ℕ) → Struct j ≡ Struct k → j ≡ k
kind-same j k e = ap by e
  where
    by : FieldKind → ℕ
    by (Number type) = j
    by (Array type count) = j
    by (Struct n) = n

-- what an index comes after is an array
pub array-kind : (kind : FieldKind) (type : CType) → as_array kind ≡ Ok type → (count : ℕ) × (kind ≡ Array type count)
array-kind (Number t) type e = cc
array-kind (Array t count) type e = (count, ap (λ u. Array u count) (ok-same t type e))
array-kind (Struct k) type e = cc

array-at : (fields : List FieldTree) (name : List ℕ) (found : ℕ × FieldKind) (type : CType) →
    field_named fields name ≡ Ok found → as_array found.1 ≡ Ok type → IsArrayAt fields found.0
array-at fields name found type named array =
    let f : _ = field-there fields name found named in
    let a : _ = array-kind found.1 type array in
    (f.0, type, a.0, f.1, f.2 ∙ a.1)

pub array-lawful : (names : Names) (name : List ℕ) (k : ℕ) → resolve_array names name ≡ Ok k → IsArrayAt names.fields k
array-lawful names name k e =
    let b : _ = bind-parts (field_named names.fields name) (λ field. as_array field.1 >>= λ type. Ok field.0) k e in
    let c : _ = bind-parts (as_array b.0.1) (λ type. Ok b.0.0) k b.2 in
    subst (IsArrayAt names.fields) (ok-same b.0.0 k c.2) (array-at names.fields name b.0 c.0 b.1 c.1)

-- a store after an index goes to an array
pub item_store-lawful : (names : Names) (name : List ℕ) (cast : CType) (k : ℕ) →
    resolve_item_store names name cast ≡ Ok k → IsArrayAt names.fields k
item_store-lawful names name cast k e =
    let b : _ =
    bind-parts (field_named names.fields name)
    (λ field. as_array field.1 >>= λ type. unless_fault (same_type type cast) TypeRule >> Ok field.0) k e in
    let c : _ = bind-parts (as_array b.0.1) (λ type. unless_fault (same_type type cast) TypeRule >> Ok b.0.0) k b.2 in
    let d : _ = then-parts (unless_fault (same_type c.0 cast) TypeRule) (Ok b.0.0) k c.2 in
    subst (IsArrayAt names.fields) (ok-same b.0.0 k d.2) (array-at names.fields name b.0 c.0 b.1 c.1)
