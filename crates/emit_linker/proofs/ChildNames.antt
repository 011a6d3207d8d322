-- The names of children, given one field after another.
use Rattle.std.proofs.Common.{◌≡◌, refl, sym, ap, ◌∙◌, ℕ, zero, suc, ◌+◌, ◌-◌, ◌<◌, ◌≤◌, ◌≢◌, false, cond, List, [], ◌∷◌, ◌++◌, length, map, set, take, drop, get_or, find, replicate, Option, Some, None, arith}
use Rattle.std.specs.List.{range_with_len, filter_map, cons_option}
use Rattle.std.specs.Option.{option_map, option_to_list}
use Rattle.std.proofs.lemmas.List.{drop_more, map-append, map-set}
use Rattle.std.proofs.lemmas.Bool.{eq-eqb, ne_eqb}
use denote.Ref.{Bor}
use Rattle.c_syntax.specs.declared.program.Field.{Field}
use Rattle.c_syntax.specs.declared.program.FieldKind.{FieldKind}
use Rattle.c_syntax.specs.declared.program.FieldKind.TheVariants.{Struct}
use Rattle.c_syntax.specs.PlainField.{field_tree, field_trees}
use Rattle.c_syntax.specs.Tree.{FieldTree}
use Rattle.emit_shape.specs.Assembled.{is_child_kind}
use Rattle.emit_row_facts.proofs.lemmas.Steps.{kept-more}
use Rattle.emit_linker.specs.Children.{child_at, children_at, told_name, told_names}

-- two functions that are one on a range
range-same : {A : Type 0} (f g : ℕ → A) (a n : ℕ) → ((k : ℕ) → k < a + n → f k ≡ g k) →
    map f (range_with_len a n) ≡ map g (range_with_len a n)
range-same f g a zero same = refl
range-same f g a (suc n) same = λ j. same a (omega arith) j ∷ range-same f g (a + 1) n (λ k low. same k (omega (arith, low))) j

-- a function with another value at one number
range-set : {A : Type 0} (f g : ℕ → A) (a n k b : ℕ) (v : A) → k < n → a + k ≡ b → v ≡ g b → ((j : ℕ) → j ≢ b → f j ≡ g j) →
    set (map f (range_with_len a n)) k v ≡ map g (range_with_len a n)
range-set f g a zero k b v inside at here same = absurd (omega (arith, inside))
range-set f g a (suc n) zero b v inside at here same =
    let first : b ≡ a = omega (arith, at) in
    λ j. (here ∙ ap g first) j ∷ later (a + 1) n (omega (arith, at)) j
  where
    later : (c m : ℕ) → b < c → map f (range_with_len c m) ≡ map g (range_with_len c m)
    later c zero low = refl
    later c (suc m) low = λ j. same c (λ e. omega (arith, low, e)) j ∷ later (c + 1) m (omega (arith, low)) j
range-set f g a (suc n) (suc k) b v inside at here same =
    λ j. same a (λ e. omega (arith, at, e)) j ∷ range-set f g (a + 1) n k b v (omega (arith, inside)) (omega (arith, at)) here same j

passed-over : (field : FieldTree) (fields : List FieldTree) (k : ℕ) → is_child_kind k field.kind ≡ false →
    child_at fields k ≡ child_at (field ∷ fields) k
passed-over field fields k no_child =
    ap (λ b. option_map (λ (f : FieldTree). f.name) (cond b (Some field) (find (λ f. is_child_kind k f.kind) fields))) (sym no_child)

-- a field that is no child of these
pub tell-nothing : (field : FieldTree) (fields : List FieldTree) (n : ℕ) → ((k : ℕ) → k < n → is_child_kind k field.kind ≡ false) →
    children_at fields n ≡ children_at (field ∷ fields) n
tell-nothing field fields n none =
    range-same (child_at fields) (child_at (field ∷ fields)) 0 n (λ k low. passed-over field fields k (none k (omega (arith, low))))

-- a child past the end
pub tell-past : (name : List ℕ) (i : ℕ) (fields : List FieldTree) (n : ℕ) → n ≤ i →
    children_at fields n ≡ children_at (record { name = name; kind = Struct i } ∷ fields) n
tell-past name i fields n past =
    tell-nothing (record { name = name; kind = Struct i }) fields n (λ k low. ne_eqb i k (λ e. omega (arith, low, past, e)))

-- a child at its position
pub tell-child : (name : List ℕ) (i : ℕ) (fields : List FieldTree) (n : ℕ) → i < n →
    set (children_at fields n) i (Some name) ≡ children_at (record { name = name; kind = Struct i } ∷ fields) n
tell-child name i fields n inside =
    let field : FieldTree = record { name = name; kind = Struct i } in
    range-set (child_at fields) (child_at (field ∷ fields)) 0 n i i (Some name) inside (omega arith)
    (ap (λ b. option_map (λ (f : FieldTree). f.name) (cond b (Some field) (find (λ f. is_child_kind i f.kind) fields)))
    (sym (eq-eqb i i refl)))
    (λ k other. passed-over field fields k (ne_eqb i k (λ e. other (sym e))))

-- the table with the name of one field more
pub tell-at : (field : Field) (k : ℕ) (name : Bor (List ℕ)) (table new : List (Option (Bor (List ℕ)))) (fields : List FieldTree) →
    field.kind ≡ Struct k → name.now ≡ field.name → k < length table → new ≡ set table k (Some name) →
    told_names table ≡ children_at fields (length table) →
    told_names new ≡ children_at (field_tree field ∷ fields) (length table)
tell-at field k name table new fields kind named inside is told =
    ap told_names is ∙ map-set told_name table k (Some name)
    ∙ (λ j. set (told j) k (Some (named j)))
    ∙ tell-child field.name k fields (length table) inside
    ∙ ap (λ (kind : FieldKind). children_at (record { name = field.name; kind = kind } ∷ fields) (length table)) (sym kind)

pub tell-beyond : (field : Field) (k : ℕ) (table : List (Option (Bor (List ℕ)))) (fields : List FieldTree) → field.kind ≡ Struct k →
    length table ≤ k → told_names table ≡ children_at fields (length table) →
    told_names table ≡ children_at (field_tree field ∷ fields) (length table)
tell-beyond field k table fields kind past told =
    told ∙ tell-past field.name k fields (length table) past
    ∙ ap (λ (kind : FieldKind). children_at (record { name = field.name; kind = kind } ∷ fields) (length table)) (sym kind)

none-told : (a n : ℕ) → told_names (replicate n None) ≡ map (child_at []) (range_with_len a n)
none-told a zero = refl
none-told a (suc n) = ap (λ l. None ∷ l) (none-told (a + 1) n)

-- where there are no fields nothing is given
pub told-nothing : (n : ℕ) → told_names (replicate n None) ≡ children_at [] n
told-nothing n = none-told 0 n

-- those that are there
pub kept-children : {A X : Type 0} (f : X → Option A) (ks : List X) → filter_map (λ o. o) (map f ks) ≡ filter_map f ks
kept-children f [] = refl
kept-children f (k ∷ ks) = ap (cons_option (f k)) (kept-children f ks)

pub told-more : (table : List (Option (Bor (List ℕ)))) (i : ℕ) (d o : Option (Bor (List ℕ)))
    (names new : List (Bor (List ℕ))) → i < length table → get_or table i d ≡ o → new ≡ names ++ option_to_list o →
    map (λ n. n.now) names ≡ filter_map (λ name. name) (told_names (take i table)) →
    map (λ n. n.now) new ≡ filter_map (λ name. name) (told_names (take (i + 1) table))
told-more table i d o names new inside read pushed before =
    ap (map (λ (n : Bor (List ℕ)). n.now)) pushed ∙ map-append (λ (n : Bor (List ℕ)). n.now) names (option_to_list o)
    ∙ (λ j. (before ∙ kept-children told_name (take i table))
    j ++ (one o ∙ ap (λ (p : Option (Bor (List ℕ))). option_to_list (told_name p)) (sym read)) j)
    ∙ sym (kept-children told_name (take (i + 1) table) ∙ kept-more told_name table i d inside)
  where
    one : (o : Option (Bor (List ℕ))) → map (λ (n : Bor (List ℕ)). n.now) (option_to_list o) ≡ option_to_list (told_name o)
    one None = refl
    one (Some n) = refl

-- one field before others
pub field-before : (fields : List Field) (place : ℕ) (f : Field) → 0 < place → place ≤ length fields → f ≡ get_or fields (place - 1) f →
    field_tree f ∷ field_trees (drop place fields) ≡ field_trees (drop (place - 1) fields)
field-before fields place f some inside read =
    let same : place ≡ place - 1 + 1 = omega (arith, some) in
    (λ j. field_tree (read j) ∷ field_trees (drop (same j) fields))
    ∙ ap field_trees (sym (drop_more fields (place - 1) f (omega (arith, some, inside))))

pub past-fields : (fields : List Field) → drop (length fields) fields ≡ []
past-fields [] = refl
past-fields (f ∷ fields) = past-fields fields
