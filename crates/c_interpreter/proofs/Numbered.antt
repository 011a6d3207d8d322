-- The numbers of the instances of a lawful program.
use Rattle.std.proofs.Common.{◌≡◌, refl, sym, ◌∙◌, ap, ℕ, zero, suc, ◌+◌, ◌<◌, ◌≤◌, List, [], ◌∷◌, ◌++◌, length, arith, take, map, slice_get, Option, Some, None, get_or, slice_index_or, add-zero, zero-add, length-append, subst}
use Rattle.std.specs.Prelude.{⊤, ◌^◌, IfSome, IfNone, option_map}
use Rattle.std.specs.List.{AllByRecursion}
use Rattle.std.proofs.lemmas.List.{get_or_append_left}
use Rattle.std.proofs.lemmas.Option.{slice_get-map}
use Rattle.std.proofs.Math.Seq.{get_or-append_seam}
use Rattle.c_syntax.specs.declared.code.CType.{CType}
use Rattle.c_syntax.specs.declared.program.Field.{Field}
use Rattle.c_syntax.specs.declared.program.FieldKind.{FieldKind}
use Rattle.c_syntax.specs.declared.program.FieldKind.TheVariants as kind
use Rattle.c_syntax.specs.Lawful.{IsLawfulKind, AreStructs}
use Rattle.c_syntax.specs.PlainField.{field_tree, field_trees}
use Rattle.c_syntax.specs.Tree.{FieldTree, StructTree, struct_fields, no_struct}
use Rattle.c_interpreter.specs.Instances.{StructInstance, whole_instance, instance_under, kind_instances, field_instances, struct_instances}
use Rattle.c_interpreter.specs.Numbering.{kind_count, fields_count, counts_of, AreNumbered, struct_count, kind_before}
use Rattle.c_interpreter.proofs.LaidOut.{take_one, map-one, past_end}
use Rattle.c_interpreter.proofs.Lawfully.{all_at}

-- ---- counts of more fields and structs
count-append : (counts : List ℕ) (fs : List FieldTree) (f : FieldTree) →
    fields_count counts (fs ++ f ∷ []) ≡ fields_count counts fs + kind_count counts f.kind
count-append counts [] f = omega arith
count-append counts (g ∷ fs) f = omega (arith, count-append counts fs f)

pub count_more : (counts : List ℕ) (fs : List Field) (k : ℕ) (f : Field) → k < length fs → f ≡ get_or fs k f →
    fields_count counts (field_trees (take (k + 1) fs)) ≡ fields_count counts (field_trees (take k fs))
    + kind_count counts f.kind
count_more counts fs k f h there = ap (λ gs. fields_count counts (field_trees gs)) (take_one fs k f h there)
    ∙ ap (fields_count counts) (map-one (take k fs) f) ∙ count-append counts (field_trees (take k fs)) (field_tree f)

pub count_within : (counts : List ℕ) (fs : List Field) (k : ℕ) → fields_count counts (field_trees (take k fs))
    ≤ fields_count counts (field_trees fs)
count_within counts [] zero = omega arith
count_within counts [] (suc k) = omega arith
count_within counts (f ∷ fs) zero = omega arith
count_within counts (f ∷ fs) (suc k) = omega (arith, count_within counts fs k)

counts-append : (earlier : List ℕ) (ss : List StructTree) (s : StructTree) →
    counts_of earlier (ss ++ s ∷ []) ≡ counts_of earlier ss ++ suc (fields_count (counts_of earlier ss) s.fields) ∷ []
counts-append earlier [] s = refl
counts-append earlier (t ∷ ss) s = counts-append (earlier ++ suc (fields_count earlier t.fields) ∷ []) ss s

pub counts_more : (ss : List StructTree) (k : ℕ) (s : StructTree) → k < length ss → s ≡ get_or ss k s →
    counts_of [] (take (k + 1) ss) ≡ counts_of [] (take k ss) ++ suc (fields_count (counts_of [] (take k ss)) s.fields)
    ∷ []
counts_more ss k s h there = ap (counts_of []) (take_one ss k s h there) ∙ counts-append [] (take k ss) s

-- ---- fields
pub tree_there : (fs : List Field) (k : ℕ) (f : Field) → k < length fs → f ≡ get_or fs k f →
    slice_get (field_trees fs) k ≡ Some (field_tree f)
tree_there [] k f h there = absurd (omega arith)
tree_there (g ∷ fs) zero f h there = ap (λ x. Some (field_tree x)) (sym there)
tree_there (g ∷ fs) (suc k) f h there = tree_there fs k f (omega arith) there

pub take_trees : (fs : List Field) (k : ℕ) → field_trees (take k fs) ≡ take k (field_trees fs)
take_trees fs zero = refl
take_trees [] (suc k) = refl
take_trees (f ∷ fs) (suc k) = ap (λ xs. field_tree f ∷ xs) (take_trees fs k)

pub trees_length : (fs : List Field) → length (field_trees fs) ≡ length fs
trees_length [] = refl
trees_length (f ∷ fs) = omega (arith, trees_length fs)

-- the count before a field that holds an instance, and before one that holds none
pub number_uncounted : (counts : List ℕ) (fs : List Field) (k : ℕ) (f : Field) (type : CType) → k < length fs →
    f ≡ get_or fs k f → f.kind ≡ kind.Number type → None ≡ struct_count counts (field_trees fs) k
number_uncounted counts fs k f type h there is =
    sym (ap (λ o. Rattle.std.specs.Prelude.option_and_then
    (λ x. kind_before (fields_count counts (take k (field_trees fs))) x.kind) o) (tree_there fs k f h there)
    ∙ ap (kind_before (fields_count counts (take k (field_trees fs)))) is)

pub array_uncounted : (counts : List ℕ) (fs : List Field) (k : ℕ) (f : Field) (type : CType) (count : ℕ) →
    k < length fs → f ≡ get_or fs k f → f.kind ≡ kind.Array type count → None ≡ struct_count counts (field_trees fs) k
array_uncounted counts fs k f type count h there is =
    sym (ap (λ o. Rattle.std.specs.Prelude.option_and_then
    (λ x. kind_before (fields_count counts (take k (field_trees fs))) x.kind) o) (tree_there fs k f h there)
    ∙ ap (kind_before (fields_count counts (take k (field_trees fs)))) is)

pub struct_counted : (counts : List ℕ) (fs part : List Field) (k of : ℕ) (f : Field) (r : Option ℕ) → k < length fs →
    f ≡ get_or fs k f → f.kind ≡ kind.Struct of → part ≡ take k fs →
    IfSome r (λ n. n ≡ fields_count counts (field_trees part)) →
    IfNone r (2 ^ 32 ≤ fields_count counts (field_trees part)) → fields_count counts (field_trees fs) < 2 ^ 32 →
    r ≡ struct_count counts (field_trees fs) k
struct_counted counts fs part k of f r h there is part_is some none few =
    by_result r some none
    ∙ sym (ap
    (λ o. Rattle.std.specs.Prelude.option_and_then
    (λ x. kind_before (fields_count counts (take k (field_trees fs))) x.kind) o) (tree_there fs k f h there)
    ∙ ap (kind_before (fields_count counts (take k (field_trees fs)))) is)
  where
    by_result : (o : Option ℕ) → IfSome o (λ n. n ≡ fields_count counts (field_trees part)) →
        IfNone o (2 ^ 32 ≤ fields_count counts (field_trees part)) →
        o ≡ Some (fields_count counts (take k (field_trees fs)))
    by_result None some_is none_is =
        let e : fields_count counts (field_trees part) ≡ fields_count counts (field_trees (take k fs)) =
        ap (λ xs. fields_count counts (field_trees xs)) part_is in
        let w : fields_count counts (field_trees (take k fs)) ≤ fields_count counts (field_trees fs) = count_within counts fs k in
        absurd (omega arith)
    by_result (Some n) some_is none_is =
        ap Some (some_is ∙ ap (λ xs. fields_count counts (field_trees xs)) part_is
        ∙ ap (fields_count counts) (take_trees fs k))

-- ---- lists
get_front : {A : Type 0} (xs ys : List A) (k : ℕ) → k < length xs → slice_get (xs ++ ys) k ≡ slice_get xs k
get_front [] ys k h = absurd (omega arith)
get_front (x ∷ xs) ys zero h = refl
get_front (x ∷ xs) ys (suc k) h = get_front xs ys k (omega arith)

get_behind : {A : Type 0} (xs ys : List A) (k : ℕ) → slice_get (xs ++ ys) (length xs + k) ≡ slice_get ys k
get_behind [] ys k = ap (slice_get ys) (zero-add k)
get_behind (x ∷ xs) ys k =
    let e : length (x ∷ xs) + k ≡ suc (length xs + k) = omega arith in
    ap (slice_get (x ∷ xs ++ ys)) e ∙ get_behind xs ys k

map_length : (f : ℕ) (xs : List StructInstance) → length (map (instance_under f) xs) ≡ length xs
map_length f [] = refl
map_length f (x ∷ xs) = omega (arith, map_length f xs)

-- ---- counts are lengths
module _ (counts : List ℕ) (all : List (List StructInstance)) (counted : (k : ℕ) →
    slice_index_or counts k 0 ≡ length (slice_index_or all k [])) where
  kind_counted : (f : ℕ) (k : FieldKind) → kind_count counts k ≡ length (kind_instances all f k)
  kind_counted f (kind.Number type) = refl
  kind_counted f (kind.Array type count) = refl
  kind_counted f (kind.Struct k) = counted k ∙ sym (map_length f (slice_index_or all k []))

  pub fields_counted : (f : ℕ) (fields : List FieldTree) → fields_count counts fields ≡ length (field_instances all f fields)
  fields_counted f [] = refl
  fields_counted f (x ∷ xs) =
      omega (
        arith,
        kind_counted f x.kind,
        fields_counted (f + 1) xs,
        length-append (kind_instances all f x.kind) (field_instances all (f + 1) xs),
      )

  -- the instance in a field, after those of the fields before it
  pub held : (f : ℕ) (fields : List FieldTree) (position : ℕ) (x : FieldTree) (k left : ℕ) →
      slice_get fields position ≡ Some x → x.kind ≡ kind.Struct k → left < length (slice_index_or all k []) →
      slice_get (field_instances all f fields) (fields_count counts (take position fields) + left)
      ≡ option_map (instance_under (f + position)) (slice_get (slice_index_or all k []) left)
  held f [] position x k left there is inside = absurd (cc)
  held f (y ∷ ys) zero x k left there is inside =
      let e : y ≡ x = cc in
      let of : y.kind ≡ kind.Struct k = (λ i. (e i).kind) ∙ is in
      let rest : List StructInstance = field_instances all (f + 1) ys in
      ap (slice_get (kind_instances all f y.kind ++ rest)) (zero-add left)
      ∙ (λ i. slice_get (kind_instances all f (of i) ++ rest) left)
      ∙ get_front (map (instance_under f) (slice_index_or all k [])) rest left
      (omega (arith, map_length f (slice_index_or all k [])))
      ∙ slice_get-map (instance_under f) (slice_index_or all k []) left
      ∙ (λ i. option_map (instance_under (sym (add-zero f) i)) (slice_get (slice_index_or all k []) left))
  held f (y ∷ ys) (suc position) x k left there is inside =
      let first : List StructInstance = kind_instances all f y.kind in
      let rest : List StructInstance = field_instances all (f + 1) ys in
      let n : kind_count counts y.kind + fields_count counts (take position ys) + left
      ≡ length first + (fields_count counts (take position ys) + left) = omega (arith, kind_counted f y.kind) in
      let plus : f + 1 + position ≡ f + suc position = omega arith in
      ap (slice_get (first ++ rest)) n ∙ get_behind first rest (fields_count counts (take position ys) + left)
      ∙ held (f + 1) ys position x k left there is inside
      ∙ (λ i. option_map (instance_under (plus i)) (slice_get (slice_index_or all k []) left))

pub before_fits : (counts : List ℕ) (fields : List FieldTree) (position : ℕ) (x : FieldTree) →
    slice_get fields position ≡ Some x → fields_count counts (take position fields) + kind_count counts x.kind
    ≤ fields_count counts fields
before_fits counts [] position x there = absurd (cc)
before_fits counts (y ∷ ys) zero x there = let e : y ≡ x = cc in let d : kind_count counts y.kind
    ≡ kind_count counts x.kind = λ i. kind_count counts (e i).kind in omega arith
before_fits counts (y ∷ ys) (suc position) x there = omega (arith, before_fits counts ys position x there)

-- ---- the instances of lawful structs
instances-before : (earlier : List (List StructInstance)) (ss : List StructTree) (k : ℕ) → k < length earlier →
    slice_index_or (struct_instances earlier ss) k [] ≡ slice_index_or earlier k []
instances-before earlier [] k h = refl
instances-before earlier (s ∷ ss) k h =
    let z : List StructInstance = whole_instance (length earlier) ∷ field_instances earlier 0 s.fields in
    instances-before (earlier ++ z ∷ []) ss k (omega (arith, length-append earlier (z ∷ []))) ∙ get_or_append_left earlier (z ∷ []) [] k h

fields-agree : (a b : List (List StructInstance)) (n f : ℕ) (fields : List FieldTree) →
    ((k : ℕ) → k < n → slice_index_or a k [] ≡ slice_index_or b k []) →
    AllByRecursion (λ x. IsLawfulKind n x.kind) fields → field_instances a f fields ≡ field_instances b f fields
fields-agree a b n f [] same lawful = refl
fields-agree a b n f (x ∷ xs) same lawful = λ i. here x.kind lawful.0 i ++ fields-agree a b n (f + 1) xs same lawful.1 i
  where
    here : (k : FieldKind) → IsLawfulKind n k → kind_instances a f k ≡ kind_instances b f k
    here (kind.Number type) h = refl
    here (kind.Array type count) h = refl
    here (kind.Struct k) h = ap (map (instance_under f)) (same k h)

first-at : (earlier : List (List StructInstance)) (ss : List StructTree) (j : ℕ) (s : StructTree) →
    AreStructs (length earlier) ss → slice_get ss j ≡ Some s →
    slice_index_or (struct_instances earlier ss) (length earlier + j) [] ≡ whole_instance (length earlier + j)
    ∷ field_instances (struct_instances earlier ss) 0 s.fields
first-at earlier [] j s lawful there = absurd (cc)
first-at earlier (t ∷ ss) zero s lawful there =
    let z : List StructInstance = whole_instance (length earlier) ∷ field_instances earlier 0 t.fields in
    let e : t ≡ s = cc in
    let whole : List (List StructInstance) = struct_instances (earlier ++ z ∷ []) ss in
    let first : slice_index_or whole (length earlier) [] ≡ z =
    instances-before (earlier ++ z ∷ []) ss (length earlier) (omega (arith, length-append earlier (z ∷ [])))
    ∙ get_or-append_seam earlier z [] [] in
    let same : field_instances earlier 0 t.fields ≡ field_instances whole 0 t.fields =
    fields-agree earlier whole (length earlier) 0 t.fields (λ k h. sym (instances-before earlier (t ∷ ss) k h))
    lawful.0.kinds in
    rw add-zero (first ∙ (λ i. whole_instance (length earlier) ∷ same i)
    ∙ (λ i. whole_instance (length earlier) ∷ field_instances whole 0 (e i).fields))
first-at earlier (t ∷ ss) (suc j) s lawful there =
    let z : List StructInstance = whole_instance (length earlier) ∷ field_instances earlier 0 t.fields in
    let n : length (earlier ++ z ∷ []) ≡ length earlier + 1 = length-append earlier (z ∷ []) in
    let e : length (earlier ++ z ∷ []) + j ≡ length earlier + suc j = omega arith in
    subst (λ m. slice_index_or (struct_instances (earlier ++ z ∷ []) ss) m []
    ≡ whole_instance m ∷ field_instances (struct_instances (earlier ++ z ∷ []) ss) 0 s.fields) e
    (first-at (earlier ++ z ∷ []) ss j s (subst (λ m. AreStructs m ss) (sym n) lawful.1) there)

kinds-at : (count : ℕ) (ss : List StructTree) (j f c : ℕ) (s : StructTree) (x : FieldTree) → AreStructs count ss →
    slice_get ss j ≡ Some s → slice_get s.fields f ≡ Some x → x.kind ≡ kind.Struct c → c < count + j
kinds-at count [] j f c s x lawful there field is = absurd (cc)
kinds-at count (t ∷ ss) zero f c s x lawful there field is =
    let e : t ≡ s = cc in
    let h : IsLawfulKind count x.kind =
    all_at (λ y. IsLawfulKind count y.kind) t.fields f x lawful.0.kinds ((λ i. slice_get (e i).fields f) ∙ field) in
    let l : c < count = subst (IsLawfulKind count) is h in
    omega arith
kinds-at count (t ∷ ss) (suc j) f c s x lawful there field is =
    let h : c < count + 1 + j = kinds-at (count + 1) ss j f c s x lawful.1 there field is in omega arith

-- ---- counts
abbrev AreCounted : List ℕ → List (List StructInstance) → Type 0
AreCounted [] [] = ⊤
AreCounted [] (z ∷ zs) = ⊥
AreCounted (n ∷ ns) [] = ⊥
AreCounted (n ∷ ns) (z ∷ zs) = (n ≡ length z) × AreCounted ns zs

counted-at : (ns : List ℕ) (zs : List (List StructInstance)) → AreCounted ns zs → (k : ℕ) →
    slice_index_or ns k 0 ≡ length (slice_index_or zs k [])
counted-at [] [] counted k = refl
counted-at [] (z ∷ zs) counted k = absurd counted
counted-at (n ∷ ns) [] counted k = absurd counted
counted-at (n ∷ ns) (z ∷ zs) counted zero = counted.0
counted-at (n ∷ ns) (z ∷ zs) counted (suc k) = counted-at ns zs counted.1 k

counted-more : (ns : List ℕ) (zs : List (List StructInstance)) (n : ℕ) (z : List StructInstance) → AreCounted ns zs →
    n ≡ length z → AreCounted (ns ++ n ∷ []) (zs ++ z ∷ [])
counted-more [] [] n z counted h = (h, tt)
counted-more [] (y ∷ zs) n z counted h = absurd counted
counted-more (m ∷ ns) [] n z counted h = absurd counted
counted-more (m ∷ ns) (y ∷ zs) n z counted h = (counted.0, counted-more ns zs n z counted.1 h)

counted-all : (ns : List ℕ) (zs : List (List StructInstance)) (ss : List StructTree) → AreCounted ns zs →
    AreCounted (counts_of ns ss) (struct_instances zs ss)
counted-all ns zs [] counted = counted
counted-all ns zs (s ∷ ss) counted =
    let e : fields_count ns s.fields ≡ length (field_instances zs 0 s.fields) =
    fields_counted ns zs (counted-at ns zs counted) 0 s.fields in
    counted-all (ns ++ suc (fields_count ns s.fields) ∷ [])
    (zs ++ (whole_instance (length zs) ∷ field_instances zs 0 s.fields) ∷ []) ss
    (counted-more ns zs (suc (fields_count ns s.fields))
    (whole_instance (length zs) ∷ field_instances zs 0 s.fields) counted (omega arith))

pub fields_some : (xs : List StructTree) (k : ℕ) (s : StructTree) → slice_get xs k ≡ Some s → struct_fields xs k ≡ s.fields
fields_some [] k s there = absurd (cc)
fields_some (x ∷ xs) zero s there = let e : x ≡ s = cc in λ i. (e i).fields
fields_some (x ∷ xs) (suc k) s there = fields_some xs k s there

some_at : (xs : List StructTree) (k : ℕ) → k < length xs → (s : StructTree) × (slice_get xs k ≡ Some s)
some_at [] k h = absurd (omega arith)
some_at (x ∷ xs) zero h = (x, refl)
some_at (x ∷ xs) (suc k) h = some_at xs k (omega arith)

-- the numbers of lawful structs
pub numbered : (ss : List StructTree) → AreStructs 0 ss → AreNumbered ss (counts_of [] ss) (struct_instances [] ss)
numbered ss lawful =
    record {
      counted = counted-at (counts_of [] ss) (struct_instances [] ss) (counted-all [] [] ss tt);
      first = λ k h. let s = some_at ss k h in (rw zero-add at (first-at [] ss k s.0 lawful s.1))
          ∙ ap (λ fs. whole_instance k ∷ field_instances (struct_instances [] ss) 0 fs)
          (sym (fields_some ss k s.0 s.1));
      earlier = λ k f c x there is. by_struct k f c x there is (slice_get ss k) refl;
    }
  where
    none_there : (k f : ℕ) (x : FieldTree) → slice_get ss k ≡ None → slice_get (struct_fields ss k) f ≡ Some x → ⊥
    none_there k f x gone there =
        let h : length ss ≤ k = beyond ss k gone in
        let e : struct_fields ss k ≡ [] = λ i. (past_end ss k no_struct h i).fields in
        let n : slice_get {X = FieldTree} [] f ≡ Some x = ap (λ xs. slice_get xs f) (sym e) ∙ there in
        absurd (cc)
      where
        beyond : (xs : List StructTree) (j : ℕ) → slice_get xs j ≡ None → length xs ≤ j
        beyond [] j gone = omega arith
        beyond (y ∷ xs) zero gone = absurd (cc)
        beyond (y ∷ xs) (suc j) gone = omega (arith, beyond xs j gone)

    by_struct : (k f c : ℕ) (x : FieldTree) → slice_get (struct_fields ss k) f ≡ Some x → x.kind ≡ kind.Struct c →
        (o : Option StructTree) → slice_get ss k ≡ o → c < k
    by_struct k f c x there is (Some s) found = let h : c < 0 + k =
        kinds-at 0 ss k f c s x lawful found (ap (λ xs. slice_get xs f) (sym (fields_some ss k s found)) ∙ there) is in
        omega arith
    by_struct k f c x there is None found = absurd (none_there k f x found there)
