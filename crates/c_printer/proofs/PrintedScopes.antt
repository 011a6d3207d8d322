-- What is in reach of the bodies of a lawful program has names, and they stand for it.
use Rattle.std.proofs.Common.{◌≡◌, refl, sym, ◌∙◌, ap, subst, ℕ, zero, suc, ◌+◌, ◌<◌, ◌≤◌, nat_le, List, [], ◌∷◌, ◌++◌, length, map, get_or, true, Option, Some, None, unwrap_or, Ok, slice_get, slice_index, bytes_eq, option_map, ◌==◌, arith}
use Rattle.std.specs.List.{position_from}
use Rattle.std.proofs.lemmas.Bool.{le-leb, eq-eqb}
use Rattle.std.proofs.lemmas.List.{map-append, length-append, length-map, append-nil}
use Rattle.std.proofs.lemmas.Simd.{map-map}
use Rattle.std.proofs.lemmas.Option.{slice_get-map}
use Rattle.c_syntax.specs.declared.code.CType.{CType}
use Rattle.c_syntax.specs.declared.code.CType.TheVariants.{I8, U8, I16, U16, I32, U32, I64}
use Rattle.c_syntax.specs.declared.code.Leaf.{Leaf}
use Rattle.c_syntax.specs.declared.code.Leaf.TheVariants.{Param, Own, Child}
use Rattle.c_syntax.specs.declared.code.Target.{Target}
use Rattle.c_syntax.specs.declared.code.Target.TheVariants.{Own as OwnTarget, Child as ChildTarget}
use Rattle.c_syntax.specs.declared.program.FieldKind.{FieldKind}
use Rattle.c_syntax.specs.declared.program.FieldKind.TheVariants.{Number, Array, Struct}
use Rattle.c_syntax.specs.Tree.{FieldTree, StructTree, struct_fields, field_types, type_at, kind_type, PureTree, ProcedureTree, ProgramTree}
use Rattle.c_syntax.specs.Names.{is_name, name_at}
use Rattle.c_rules.specs.Resolve.{Known, Names, resolve_leaf, resolve_array, resolve_pure_call, resolve_store, resolve_item_store, resolve_target, resolve_call, field_named, or_unnamed, same_type, same_types}
use Rattle.c_syntax.specs.Chains.{chain_limit}
use Rattle.c_syntax.specs.Lawful.{Reach, AreDistinct, IsNumberAt, IsArrayAt, IsStructAt, IsLawfulLeaf, IsLawfulTarget, AreStructs, pure_names, procedure_names, pure_without_lines, procedure_without_lines}
use Rattle.c_syntax.specs.RootFields.{is_number, is_number_kind}
use Rattle.c_printer.specs.Printing.{Vocabulary, pure_name, procedure_name, procedure_types, field_name, kind_fields, inner_fields}
use Rattle.c_syntax.proofs.lemmas.NamePlaces.{map-at, AreDistinct-name, position_from-named, position_from-name, map-at_front}
use Rattle.c_printer.proofs.FieldPlaces.{field_from-named}
use Rattle.c_syntax.proofs.lemmas.NameFacts.{AreDistinct-front}
use Rattle.c_printer.proofs.PrintedTrees.{written_leaf, written_target}
use Rattle.c_grammar.specs.Written.{WrittenLeaf, WrittenTarget}
use Rattle.c_printer.proofs.PrintedBodies.{Speaks, HasNames}
use Rattle.c_printer.proofs.PrintedResolving.{Resolves}

-- the fields of each struct have different names
pub fields-distinct : (count : ℕ) (ds : List StructTree) (k : ℕ) → AreStructs count ds →
    AreDistinct (map (λ f. f.name) (struct_fields ds k))
fields-distinct count [] k h = tt
fields-distinct count (d ∷ ds) zero h = h.0.fields
fields-distinct count (d ∷ ds) (suc k) h = fields-distinct (count + 1) ds k h.1

length-names : {A B : Type 0} (f : A → B) (xs : List A) (k : ℕ) (x : A) → slice_get xs k ≡ Some x → k < length (map f xs)
length-names f [] k x there = cc
length-names f (y ∷ xs) zero x there = omega arith
length-names f (y ∷ xs) (suc k) x there = omega (arith, length-names f xs k x there)

-- the name of a field at a place
field-name : (fields : List FieldTree) (k : ℕ) (f : FieldTree) → AreDistinct (map (λ x. x.name) fields) →
    slice_get fields k ≡ Some f → is_name (field_name fields k) ≡ true
field-name fields k f h there = AreDistinct-name (map (λ x. x.name) fields) k h (length-names (λ x. x.name) fields k f there)

-- the fields of a field that is a struct
inner-fields : (v : Vocabulary) (f of : ℕ) → IsStructAt v.fields f of → inner_fields v f ≡ struct_fields v.program.structs of
inner-fields v f of h =
    map-at (λ x. kind_fields v.program.structs x.kind) v.fields f h.0 [] h.1 ∙ ap (kind_fields v.program.structs) h.2

-- in the body of a pure function
pub pure-speaks : (p : ProgramTree) (params : List (List ℕ)) (earlier later : List PureTree) →
    p.pures ≡ earlier ++ later → AreDistinct (pure_names p.pures) →
    ((k : ℕ) (q : PureTree) → slice_get earlier k ≡ Some q → 0 < length q.params) → AreDistinct params →
    Speaks (record { program = p; fields = []; params = params })
    (record { pures = earlier; structs = []; procedures = []; fields = []; params = length params; of = 0 })
pure-speaks p params earlier later whole distinct some unlike = record {
  leaf = leaf;
  number = λ f h. absurd (none f h.0 h.1);
  array = λ f h. absurd (none f h.0 h.3);
  instance = λ f of h. absurd (none f h.0 h.1);
  pure = λ k q there. (
    AreDistinct-name (pure_names p.pures) k distinct
        (subst (λ qs. k < length (pure_names qs)) (sym whole) (longer k q there)),
    some k q there,
  );
  procedure = λ k q there. absurd (no_procedure k q there);
}
  where
    none : (f : ℕ) (x : FieldTree) → slice_get [] f ≡ Some x → ⊥
    none f x there = cc

    no_procedure : (f : ℕ) (x : ProcedureTree) → slice_get [] f ≡ Some x → ⊥
    no_procedure f x there = cc

    longer : (k : ℕ) (q : PureTree) → slice_get earlier k ≡ Some q → k < length (pure_names (earlier ++ later))
    longer k q there =
        rw (map-append (λ x. x.name) earlier later)
        (omega (
          arith,
          length-append (pure_names earlier) (pure_names later),
          length-names (λ x. x.name) earlier k q there,
        ))

    leaf : (l : Leaf) →
        IsLawfulLeaf (record {
          pures = earlier;
          structs = [];
          procedures = [];
          fields = [];
          params = length params;
          of = 0;
        }) l → HasNames (written_leaf (record { program = p; fields = []; params = params }) l)
    leaf (Param k) h = AreDistinct-name params k unlike h
    leaf (Own f) h = absurd (none f h.0 h.1)
    leaf (Child f g) h = absurd (none f h.1.0 h.1.1)

-- in the body of a procedure
pub procedure-speaks : (p : ProgramTree) (of : ℕ) (params : List (List ℕ)) (earlier later : List ProcedureTree) →
    p.procedures ≡ earlier ++ later → AreDistinct (pure_names p.pures) → AreDistinct (procedure_names p.procedures) →
    AreStructs 0 p.structs → ((k : ℕ) (q : PureTree) → slice_get p.pures k ≡ Some q → 0 < length q.params) →
    AreDistinct params → Speaks (record { program = p; fields = struct_fields p.structs of; params = params })
    (record {
      pures = p.pures;
      structs = p.structs;
      procedures = earlier;
      fields = struct_fields p.structs of;
      params = length params;
      of = of;
    })
procedure-speaks p of params earlier later whole pures procedures structs some unlike = record {
  leaf = leaf;
  number = λ f h. field-name (struct_fields p.structs of) f h.0 (fields-distinct 0 p.structs of structs) h.1;
  array = λ f h. field-name (struct_fields p.structs of) f h.0 (fields-distinct 0 p.structs of structs) h.3;
  instance = λ f k h. field-name (struct_fields p.structs of) f h.0 (fields-distinct 0 p.structs of structs) h.1;
  pure = λ k q there. (AreDistinct-name (pure_names p.pures) k pures (length-names (λ x. x.name) p.pures k q there), some k q there);
  procedure =
      λ k q there. (
        AreDistinct-name (procedure_names p.procedures) k procedures
            (subst (λ qs. k < length (procedure_names qs)) (sym whole) (longer k q there)),
        types k q there,
      );
}
  where
    v : Vocabulary
    v = record { program = p; fields = struct_fields p.structs of; params = params }

    longer : (k : ℕ) (q : ProcedureTree) → slice_get earlier k ≡ Some q → k < length (procedure_names (earlier ++ later))
    longer k q there =
        rw (map-append (λ x. x.name) earlier later)
        (omega (
          arith,
          length-append (procedure_names earlier) (procedure_names later),
          length-names (λ x. x.name) earlier k q there,
        ))

    types : (k : ℕ) (q : ProcedureTree) → slice_get earlier k ≡ Some q → length (procedure_types p k) ≡ length q.params
    types k q there =
        ap (λ qs. length (get_or (map (λ x. map (λ y. y.type) x.params) qs) k [])) whole
        ∙ ap length (map-at_front (λ x. map (λ y. y.type) x.params) earlier later k q [] there)
        ∙ length-map q.params (λ y. y.type)

    leaf : (l : Leaf) →
        IsLawfulLeaf
        (record {
          pures = p.pures;
          structs = p.structs;
          procedures = earlier;
          fields = struct_fields p.structs of;
          params = length params;
          of = of;
        }) l →
        HasNames (written_leaf (record { program = p; fields = struct_fields p.structs of; params = params }) l)
    leaf (Param k) h = AreDistinct-name params k unlike h
    leaf (Own f) h = field-name (struct_fields p.structs of) f h.0 (fields-distinct 0 p.structs of structs) h.1
    leaf (Child f g) h = (
      field-name (struct_fields p.structs of) f h.1.0 (fields-distinct 0 p.structs of structs) h.1.1,
      subst (λ fields. is_name (field_name fields g) ≡ true)
          (sym (inner-fields (record { program = p; fields = struct_fields p.structs of; params = params }) f h.0
          h.1)) (field-name (struct_fields p.structs h.0) g h.2.0 (fields-distinct 0 p.structs h.0 structs) h.2.1),
    )

-- what two lists with one image have at a place
pub found-alike : {A B : Type 0} (f : A → B) (xs ys : List A) (k : ℕ) (y : A) → map f xs ≡ map f ys →
    slice_get ys k ≡ Some y → (x : A) × (slice_get xs k ≡ Some x) × (f x ≡ f y)
found-alike {A} {B} f xs ys k y same there =
    by (slice_get xs k) refl (sym (slice_get-map f xs k) ∙ ap (λ zs. slice_get zs k) same ∙ slice_get-map f ys k ∙ ap (option_map f) there)
  where
    by : (o : Option A) → slice_get xs k ≡ o → option_map f o ≡ Some (f y) → (x : A) × (slice_get xs k ≡ Some x) × (f x ≡ f y)
    by (Some x) here e = (x, here, ap (λ o. unwrap_or o (f x)) e)
    by None here e = cc

-- a further function of one image
pub same-map : {A B C : Type 0} (f : A → B) (g : B → C) (xs ys : List A) → map f xs ≡ map f ys →
    map (λ x. g (f x)) xs ≡ map (λ x. g (f x)) ys
same-map f g xs ys same = sym (map-map g f xs) ∙ ap (map g) same ∙ map-map g f ys

number-kind : (f : FieldTree) → is_number f ≡ true → (type : CType) × (f.kind ≡ Number type)
number-kind f h = by f.kind refl h
  where
    by : (kind : FieldKind) → f.kind ≡ kind → is_number_kind kind ≡ true → (type : CType) × (f.kind ≡ Number type)
    by (Number type) e k = (type, e)
    by (Array type count) e k = cc
    by (Struct n) e k = cc

same_type-same : (t : CType) → same_type t t ≡ true
same_type-same I8 = refl
same_type-same U8 = refl
same_type-same I16 = refl
same_type-same U16 = refl
same_type-same I32 = refl
same_type-same U32 = refl
same_type-same I64 = refl

same_types-same : (ts : List CType) → same_types ts ts ≡ true
same_types-same [] = refl
same_types-same (t ∷ ts) = rw (same_type-same t) (same_types-same ts)

-- a pure function of a program is found among those that are alike
pure-found : (p : ProgramTree) (known : Known) (earlier later : List PureTree) → p.pures ≡ earlier ++ later →
    AreDistinct (pure_names p.pures) → map pure_without_lines known.pures ≡ map pure_without_lines earlier →
    (k : ℕ) (q : PureTree) → slice_get earlier k ≡ Some q →
    resolve_pure_call known (pure_name p k) (length q.params) ≡ Ok k
pure-found p known earlier later whole distinct alike k q there =
    let found : _ = found-alike pure_without_lines known.pures earlier k q alike there in
    let names : map (λ x. x.name) known.pures ≡ map (λ x. x.name) earlier =
    same-map pure_without_lines (λ x. x.name) known.pures earlier alike in
    let front : AreDistinct (pure_names earlier) =
    AreDistinct-front (pure_names earlier) (pure_names later)
    (subst AreDistinct (ap pure_names whole ∙ map-append (λ x. x.name) earlier later) distinct) in
    let name : pure_name p k ≡ name_at (map (λ x. x.name) known.pures) k =
    ap (λ qs. name_at (map (λ x. x.name) qs) k) whole ∙ map-at_front (λ x. x.name) earlier later k q [] there
    ∙ sym (map-at (λ x. x.name) known.pures k found.0 [] found.1 ∙ ap (λ x. x.name) found.2) in
    let place : position_from (λ x. bytes_eq x.name (name_at (map (λ y. y.name) known.pures) k)) 0 known.pures
    ≡ Some k =
    position_from-named (λ x. x.name) known.pures 0 k (subst AreDistinct (sym names) front)
    (length-names (λ x. x.name) known.pures k found.0 found.1) ∙ ap Some (omega arith) in
    let count : (length found.0.params == length q.params) ≡ true =
    eq-eqb (length found.0.params) (length q.params) (ap (λ x. length x.params) found.2) in
    ap (λ n. resolve_pure_call known n (length q.params)) name ∙ rw (place, found.1, count) refl

-- what is in reach of the body of a pure function stands for it
pub pure-resolves : (p : ProgramTree) (known : Known) (params : List (List ℕ)) (earlier later : List PureTree) →
    p.pures ≡ earlier ++ later → AreDistinct (pure_names p.pures) →
    map pure_without_lines known.pures ≡ map pure_without_lines earlier → AreDistinct params →
    Resolves (record { program = p; fields = []; params = params })
    (record { pures = earlier; structs = []; procedures = []; fields = []; params = length params; of = 0 })
    (record { known = known; of = None; fields = []; params = params })
pure-resolves p known params earlier later whole distinct alike unlike = record {
  leaf = leaf;
  pure = pure-found p known earlier later whole distinct alike;
  store = λ f h. absurd (none f h.0 h.1);
  array = λ f h. absurd (none f h.0 h.3);
  item_store = λ f h. absurd (none f h.0 h.3);
  call = λ k q target there on short. absurd (no_procedure k q there);
}
  where
    none : (f : ℕ) (x : FieldTree) → slice_get [] f ≡ Some x → ⊥
    none f x there = cc

    no_procedure : (f : ℕ) (x : ProcedureTree) → slice_get [] f ≡ Some x → ⊥
    no_procedure f x there = cc

    leaf : (l : Leaf) →
        IsLawfulLeaf (record {
          pures = earlier;
          structs = [];
          procedures = [];
          fields = [];
          params = length params;
          of = 0;
        }) l → resolve_leaf (record { known = known; of = None; fields = []; params = params })
        (written_leaf (record { program = p; fields = []; params = params }) l) ≡ Ok l
    leaf (Param k) h =
        let place : position_from (bytes_eq (name_at params k)) 0 params ≡ Some k =
        position_from-name params 0 k unlike h ∙ ap Some (omega arith) in
        rw place refl
    leaf (Own f) h = absurd (none f h.0 h.1)
    leaf (Child f g) h = absurd (none f h.1.0 h.1.1)

-- a field by its name
field-found : (fields : List FieldTree) (k : ℕ) (f : FieldTree) → AreDistinct (map (λ x. x.name) fields) →
    slice_get fields k ≡ Some f → field_named fields (field_name fields k) ≡ Ok (k, f.kind)
field-found fields k f h there =
    ap or_unnamed (field_from-named fields 0 k f h there ∙ ap (λ n. Some (n, f.kind)) (omega arith))

-- the parts of a rule that pass
own-passes : (names : Names) (name : List ℕ) (f : ℕ) (kind : FieldKind) (t : CType) →
    field_named names.fields name ≡ Ok (f, kind) → kind ≡ Number t →
    resolve_leaf names (WrittenLeaf.own name) ≡ Ok (Own f)
own-passes names name f kind t h e = rw (h, e) refl

child-passes : (names : Names) (name inner : List ℕ) (f g k : ℕ) (kind inner_kind : FieldKind) (t : CType) →
    field_named names.fields name ≡ Ok (f, kind) → kind ≡ Struct k →
    field_named (struct_fields names.known.structs k) inner ≡ Ok (g, inner_kind) → inner_kind ≡ Number t →
    resolve_leaf names (WrittenLeaf.child name inner) ≡ Ok (Child f g)
child-passes names name inner f g k kind inner_kind t h e i d = rw (h, e, i, d) refl

store-passes : (names : Names) (name : List ℕ) (f : ℕ) (kind : FieldKind) (t : CType) →
    field_named names.fields name ≡ Ok (f, kind) → kind ≡ Number t → resolve_store names name t ≡ Ok f
store-passes names name f kind t h e = rw (h, e, same_type-same t) refl

array-passes : (names : Names) (name : List ℕ) (f count : ℕ) (kind : FieldKind) (t : CType) →
    field_named names.fields name ≡ Ok (f, kind) → kind ≡ Array t count → resolve_array names name ≡ Ok f
array-passes names name f count kind t h e = rw (h, e) refl

item_store-passes : (names : Names) (name : List ℕ) (f count : ℕ) (kind : FieldKind) (t : CType) →
    field_named names.fields name ≡ Ok (f, kind) → kind ≡ Array t count → resolve_item_store names name t ≡ Ok f
item_store-passes names name f count kind t h e = rw (h, e, same_type-same t) refl

call-passes : (names : Names) (name : List ℕ) (target : WrittenTarget) (casts : List CType) (k : ℕ) (r : ProcedureTree)
    (place : Target) (kind : FieldKind) (of : ℕ) →
    position_from (λ x. bytes_eq x.name name) 0 names.known.procedures ≡ Some k →
    slice_get names.known.procedures k ≡ Some r → resolve_target names target ≡ Ok (place, kind) → kind ≡ Struct of →
    of ≡ r.of → map (λ x. x.type) r.params ≡ casts → slice_index names.known.chains k + 1 ≤ chain_limit →
    resolve_call names name target casts ≡ Ok (k, place)
call-passes names name target casts k r place kind of there found on struct same types short =
    let test : (of == r.of) ≡ true = eq-eqb of r.of same in
    let passes : same_types (map (λ x. x.type) r.params) casts ≡ true =
    ap (λ ts. same_types (map (λ x. x.type) r.params) ts) (sym types)
    ∙ same_types-same (map (λ x. x.type) r.params) in
    let chain : nat_le (slice_index names.known.chains k + 1) chain_limit ≡ true =
    le-leb (slice_index names.known.chains k + 1) chain_limit short in
    rw (there, found, on, struct, test, passes, chain) refl

module _ (p : ProgramTree) (known : Known) (of : ℕ) (params : List (List ℕ)) (earlier later : List ProcedureTree)
    (whole : p.procedures ≡ earlier ++ later) (pures : AreDistinct (pure_names p.pures))
    (procedures : AreDistinct (procedure_names p.procedures)) (structs : AreStructs 0 p.structs)
    (same_pures : map pure_without_lines known.pures ≡ map pure_without_lines p.pures) (same_structs : known.structs
    ≡ p.structs) (same_procedures : map procedure_without_lines known.procedures ≡ map procedure_without_lines earlier)
    (unlike : AreDistinct params) where
  abbrev pub body_vocabulary : Vocabulary
  body_vocabulary = record { program = p; fields = struct_fields p.structs of; params = params }

  abbrev pub body_reach : Reach
  body_reach = record {
    pures = p.pures;
    structs = p.structs;
    procedures = earlier;
    fields = struct_fields p.structs of;
    params = length params;
    of = of;
  }

  abbrev pub body_names : Names
  body_names = record { known = known; of = Some of; fields = struct_fields p.structs of; params = params }

  own-found : (f : ℕ) (x : FieldTree) → slice_get (struct_fields p.structs of) f ≡ Some x →
      field_named (struct_fields p.structs of) (field_name (struct_fields p.structs of) f) ≡ Ok (f, x.kind)
  own-found f x there = field-found (struct_fields p.structs of) f x (fields-distinct 0 p.structs of structs) there

  leaf-resolves : (l : Leaf) → IsLawfulLeaf body_reach l → resolve_leaf body_names (written_leaf body_vocabulary l) ≡ Ok l
  leaf-resolves (Param k) h =
      let place : position_from (bytes_eq (name_at params k)) 0 params ≡ Some k =
      position_from-name params 0 k unlike h ∙ ap Some (omega arith) in
      rw place refl
  leaf-resolves (Own f) h =
      let number : _ = number-kind h.0 h.2 in
      own-passes body_names (field_name (struct_fields p.structs of) f) f h.0.kind number.0 (own-found f h.0 h.1) number.1
  leaf-resolves (Child f g) h =
      let number : _ = number-kind h.2.0 h.2.2 in
      let v : Vocabulary = record { program = p; fields = struct_fields p.structs of; params = params } in
      let inner : field_named (struct_fields known.structs h.0) (field_name (inner_fields v f) g) ≡ Ok (g, h.2.0.kind) =
      ap (λ ds. field_named (struct_fields ds h.0) (field_name (inner_fields v f) g)) same_structs
      ∙ ap (λ fields. field_named (struct_fields p.structs h.0) (field_name fields g)) (inner-fields v f h.0 h.1)
      ∙ field-found (struct_fields p.structs h.0) g h.2.0 (fields-distinct 0 p.structs h.0 structs) h.2.1 in
      child-passes body_names (field_name (struct_fields p.structs of) f)
      (field_name (inner_fields v f) g) f g h.0 h.1.0.kind h.2.0.kind number.0
      (own-found f h.1.0 h.1.1) h.1.2 inner number.1

  store-resolves : (f : ℕ) → IsNumberAt (struct_fields p.structs of) f →
      resolve_store body_names (field_name (struct_fields p.structs of) f)
      (type_at (field_types (struct_fields p.structs of)) f) ≡ Ok f
  store-resolves f h =
      let number : _ = number-kind h.0 h.2 in
      let type : type_at (field_types (struct_fields p.structs of)) f ≡ number.0 =
      map-at (λ x. kind_type x.kind) (struct_fields p.structs of) f h.0 I64 h.1 ∙ ap kind_type number.1 in
      ap (resolve_store body_names (field_name (struct_fields p.structs of) f)) type
      ∙ store-passes body_names (field_name (struct_fields p.structs of) f) f h.0.kind number.0
      (own-found f h.0 h.1) number.1

  array-resolves : (f : ℕ) → IsArrayAt (struct_fields p.structs of) f →
      resolve_array body_names (field_name (struct_fields p.structs of) f) ≡ Ok f
  array-resolves f h = array-passes body_names (field_name (struct_fields p.structs of) f) f h.2 h.0.kind h.1 (own-found f h.0 h.3) h.4

  item_store-resolves : (f : ℕ) → IsArrayAt (struct_fields p.structs of) f →
      resolve_item_store body_names (field_name (struct_fields p.structs of) f)
      (type_at (field_types (struct_fields p.structs of)) f) ≡ Ok f
  item_store-resolves f h =
      let type : type_at (field_types (struct_fields p.structs of)) f ≡ h.1 =
      map-at (λ x. kind_type x.kind) (struct_fields p.structs of) f h.0 I64 h.3 ∙ ap kind_type h.4 in
      ap (resolve_item_store body_names (field_name (struct_fields p.structs of) f)) type
      ∙ item_store-passes body_names (field_name (struct_fields p.structs of) f) f h.2 h.0.kind h.1
      (own-found f h.0 h.3) h.4

  call-resolves : (k : ℕ) (q : ProcedureTree) (target : Target) → slice_get earlier k ≡ Some q →
      IsLawfulTarget body_reach target q.of → slice_index known.chains k + 1 ≤ chain_limit →
      resolve_call body_names (procedure_name p k) (written_target body_vocabulary target) (procedure_types p k)
      ≡ Ok (k, target)
  call-resolves k q target there on short =
      let found : _ = found-alike procedure_without_lines known.procedures earlier k q same_procedures there in
      let names : map (λ x. x.name) known.procedures ≡ map (λ x. x.name) earlier =
      same-map procedure_without_lines (λ x. x.name) known.procedures earlier same_procedures in
      let front : AreDistinct (procedure_names earlier) =
      AreDistinct-front (procedure_names earlier) (procedure_names later)
      (subst AreDistinct (ap procedure_names whole ∙ map-append (λ x. x.name) earlier later) procedures) in
      let name : procedure_name p k ≡ name_at (map (λ x. x.name) known.procedures) k =
      ap (λ qs. name_at (map (λ x. x.name) qs) k) whole ∙ map-at_front (λ x. x.name) earlier later k q [] there
      ∙ sym (map-at (λ x. x.name) known.procedures k found.0 [] found.1 ∙ ap (λ x. x.name) found.2) in
      let place : position_from (λ x. bytes_eq x.name (procedure_name p k)) 0 known.procedures ≡ Some k =
      ap (λ n. position_from (λ x. bytes_eq x.name n) 0 known.procedures) name
      ∙ position_from-named (λ x. x.name) known.procedures 0 k (subst AreDistinct (sym names) front)
      (length-names (λ x. x.name) known.procedures k found.0 found.1) ∙ ap Some (omega arith) in
      let types : map (λ x. x.type) found.0.params ≡ procedure_types p k = ap (λ x. map (λ y. y.type) x.params) found.2
      ∙ sym (ap (λ qs. get_or (map (λ x. map (λ y. y.type) x.params) qs) k []) whole
      ∙ map-at_front (λ x. map (λ y. y.type) x.params) earlier later k q [] there) in
      by target on found.0 found.1 (sym (ap (λ x. x.of) found.2)) place types
    where
      by : (t : Target) → IsLawfulTarget body_reach t q.of → (r : ProcedureTree) →
          slice_get known.procedures k ≡ Some r → q.of ≡ r.of →
          position_from (λ x. bytes_eq x.name (procedure_name p k)) 0 known.procedures ≡ Some k →
          map (λ x. x.type) r.params ≡ procedure_types p k →
          resolve_call body_names (procedure_name p k) (written_target body_vocabulary t) (procedure_types p k)
          ≡ Ok (k, t)
      by OwnTarget here r found same place types =
          call-passes body_names (procedure_name p k) WrittenTarget.own_target (procedure_types p k) k r OwnTarget
          (Struct of) of place found refl refl (here ∙ same) types short
      by (ChildTarget f) here r found same place types =
          call-passes body_names (procedure_name p k)
          (WrittenTarget.field_target (field_name (struct_fields p.structs of) f)) (procedure_types p k) k r
          (ChildTarget f) here.0.kind q.of place found (rw (own-found f here.0 here.1) refl) here.2 same types short

  -- what is in reach of the body of a procedure stands for it
  pub procedure-resolves : Resolves body_vocabulary body_reach body_names
  procedure-resolves = record {
    leaf = leaf-resolves;
    pure = pure-found p known p.pures [] (sym (append-nil p.pures)) pures same_pures;
    store = store-resolves;
    array = array-resolves;
    item_store = item_store-resolves;
    call = call-resolves;
  }
