-- Definitions that are resolved are lawful.
use Rattle.std.proofs.Common.{◌≡◌, refl, sym, ◌∙◌, ap, ap₂, ℕ, suc, ◌+◌, ◌<◌, List, [], ◌∷◌, ◌++◌, length, map, filter, filter_map, Some, None, Ok, Bool, true, false, not, ◌&&◌, ◌||◌, cond, if◌then◌else◌, codes, bytes_eq, nat_le, nat_lt, subst, arith, leb-true, append_assoc, append-nil}
use Rattle.std.specs.List.{AllByRecursion, position_from, cons_option}
use Rattle.std.proofs.lemmas.List.{length-map}
use Rattle.std.proofs.lemmas.Option.{slice_get_within}
use Rattle.c_syntax.specs.declared.fault.CKind.TheVariants.{Name, TypeRule}
use Rattle.c_syntax.specs.declared.program.FieldKind.{FieldKind}
use Rattle.c_syntax.specs.declared.program.FieldKind.TheVariants.{Number, Array, Struct}
use Rattle.c_syntax.specs.Names.{is_name}
use Rattle.c_syntax.specs.Outputs.{has_name, may_be_named}
use Rattle.c_syntax.specs.Tree.{FieldTree, StructTree, PureTree}
use Rattle.c_syntax.specs.Kinds.{WrittenKind, number_kind, array_kind, struct_kind}
use Rattle.c_grammar.specs.Written.{WrittenPure, WrittenField, WrittenStruct}
use Rattle.base_core.specs.Results.{◌>>=◌, ◌>>◌}
use Rattle.c_rules.specs.Resolve.{unless_fault, on_line, or_unnamed, Known, function_names, Names, check_params, resolve_expr, resolve_pure, array_limit, is_length, resolve_kind, is_number_written, number_name, resolve_field, resolve_fields, resolve_struct, resolve_pures, resolve_structs}
use Rattle.c_syntax.specs.RootFields.{is_number, is_number_kind, number_names}
use Rattle.c_syntax.specs.Lawful.{AreDistinct, AreApart, pure_names, IsLawfulPure, ArePures, IsLawfulKind, IsLawfulStruct, AreStructs}
use Rattle.c_syntax.proofs.lemmas.NamePlaces.{bytes_eq-sym, or-left, or-right}
use Rattle.c_syntax.proofs.lemmas.NameFacts.{has_name-append}
use Rattle.c_rules.proofs.lemmas.Resolved.{ok-same, bind-parts, then-parts, on_line-ok, unless-ok, named-ok, position-there}
use Rattle.c_reading_laws.proofs.LawfulBodies.{expr-lawful}
use Rattle.c_reading_laws.proofs.WellWritten.{WellPure, WellStruct}

pub not-true : (b : Bool) → not b ≡ true → b ≡ false
not-true true e = cc
not-true false e = refl

pub both-true : (a b : Bool) → (a && b) ≡ true → (a ≡ true) × (b ≡ true)
both-true true b e = (refl, e)
both-true false b e = cc

none-of : (a b : Bool) → a ≡ false → b ≡ false → (a || b) ≡ false
none-of false b e d = d
none-of true b e d = cc

-- names apart from a list with one more
apart-parts : (names : List (List ℕ)) (n : List ℕ) (others : List (List ℕ)) → AreApart names (n ∷ others) →
    (has_name names n ≡ false) × AreApart names others
apart-parts [] n others h = (refl, tt)
apart-parts (m ∷ names) n others h =
    let later : _ = apart-parts names n others h.1 in (
      none-of (bytes_eq n m) (has_name names n) (bytes_eq-sym n m ∙ or-left (bytes_eq m n) (has_name others m) h.0)
          later.0,
      (or-right (bytes_eq m n) (has_name others m) h.0, later.1),
    )

-- different names, and one more after them
pub distinct-more : (names : List (List ℕ)) (n : List ℕ) → AreDistinct names → is_name n ≡ true →
    has_name names n ≡ false → AreDistinct (names ++ n ∷ [])
distinct-more [] n d is h = (is, refl, tt)
distinct-more (m ∷ names) n d is h = (
  d.0,
  has_name-append names (n ∷ []) m
      ∙ none-of (has_name names m) (bytes_eq m n || false) d.1
      (none-of (bytes_eq m n) false (bytes_eq-sym m n ∙ or-left (bytes_eq n m) (has_name names n) h) refl),
  distinct-more names n d.2 is (or-right (bytes_eq n m) (has_name names n) h),
)

pub map-append : {A B : Type 0} (f : A → B) (xs ys : List A) → map f (xs ++ ys) ≡ map f xs ++ map f ys
map-append f [] ys = refl
map-append f (x ∷ xs) ys = ap (λ zs. f x ∷ zs) (map-append f xs ys)

-- parameters that pass are different, and none has the name of a function
pub params-differ : {A : Type 0} (line : A → ℕ) (name : A → List ℕ) (functions earlier : List (List ℕ)) (ps : List A)
    (u : Unit {0}) → check_params functions earlier (map (λ q. (line q, name q)) ps) ≡ Ok u →
    AllByRecursion (λ q. is_name (name q) ≡ true) ps →
    AreDistinct (map name ps) × AreApart (map name ps) functions × AreApart (map name ps) earlier
params-differ line name functions earlier [] u e are = (tt, tt, tt)
params-differ line name functions earlier (p ∷ ps) u e are =
    let b : _ =
    then-parts
    (on_line (line p) (unless_fault (not (has_name functions (name p)) && not (has_name earlier (name p))) Name))
    (check_params functions (name p ∷ earlier) (map (λ q. (line q, name q)) ps)) u e in
    let t : _ =
    both-true (not (has_name functions (name p))) (not (has_name earlier (name p)))
    (unless-ok (not (has_name functions (name p)) && not (has_name earlier (name p))) Name b.0
    (on_line-ok (line p) (unless_fault (not (has_name functions (name p)) && not (has_name earlier (name p))) Name)
    b.0 b.1)) in
    let later : _ = params-differ line name functions (name p ∷ earlier) ps u b.2 are.1 in
    let parts : _ = apart-parts (map name ps) (name p) earlier later.2 in
    ((are.0, parts.0, later.0), (not-true (has_name functions (name p)) t.0, later.1), (not-true (has_name earlier (name p)) t.1, parts.1))

-- pure functions

abbrev pub with_pures : List PureTree → Known
with_pures pures = record { pures = pures; structs = []; procedures = []; chains = [] }

record PureDone (earlier : List PureTree) (w : WrittenPure) (x : PureTree) : Type 0 where
  lawful : IsLawfulPure earlier x
  name : x.name ≡ w.name
  new : has_name (pure_names earlier) w.name ≡ false

pure-done : (earlier : List PureTree) (w : WrittenPure) (x : PureTree) → WellPure w →
    resolve_pure (with_pures earlier) w ≡ Ok x → PureDone earlier w x
pure-done earlier w x well e =
    let known : Known = with_pures earlier in
    let names : Names = record { known = known; of = None; fields = []; params = map (λ q. q.name) w.params } in
    let a : _ =
    then-parts (on_line w.line (unless_fault (not (has_name (function_names known) w.name)) Name))
    (check_params (function_names known) [] (map (λ q. (q.line, q.name)) w.params) >>
    (resolve_expr names w.body
    >>= λ body.
    Ok (record { name = w.name; params = map (λ q. q.name) w.params; body = body; line = w.return_line }))) x e in
    let b : _ =
    then-parts (check_params (function_names known) [] (map (λ q. (q.line, q.name)) w.params))
    (resolve_expr names w.body
    >>= λ body.
    Ok (record { name = w.name; params = map (λ q. q.name) w.params; body = body; line = w.return_line })) x a.2 in
    let c : _ =
    bind-parts (resolve_expr names w.body)
    (λ body. Ok (record { name = w.name; params = map (λ q. q.name) w.params; body = body; line = w.return_line }))
    x b.2 in
    let functions : function_names known ≡ pure_names earlier = append-nil (pure_names earlier) in
    let p : _ = params-differ (λ q. q.line) (λ q. q.name) (function_names known) [] w.params b.0 b.1 well.params in
    subst (λ y. PureDone earlier w y)
    (ok-same (record { name = w.name; params = map (λ q. q.name) w.params; body = c.0; line = w.return_line }) x
    c.2) (record {
      lawful = record {
        params = p.0;
        apart = subst (λ fs. AreApart (map (λ q. q.name) w.params) fs) functions p.1;
        some = subst (λ n. 0 < n) (sym (length-map w.params (λ q. q.name))) well.some;
        body =
            expr-lawful names 0 w.body c.0 well.body c.1;
      };
      name = refl;
      new = ap (λ fs. has_name fs w.name) (sym functions)
          ∙ not-true (has_name (function_names known) w.name)
          (unless-ok (not (has_name (function_names known) w.name)) Name a.0
          (on_line-ok w.line (unless_fault (not (has_name (function_names known) w.name)) Name) a.0 a.1));
    })

pub record PuresDone (earlier : List PureTree) (ws : List WrittenPure) (known : Known) : Type 0 where
  pub new : List PureTree
  pub is : known ≡ with_pures (earlier ++ new)
  pub lawful : ArePures earlier new
  pub distinct : AreDistinct (pure_names (earlier ++ new))

pub pures-done : (earlier : List PureTree) (ws : List WrittenPure) (known : Known) → AreDistinct (pure_names earlier) →
    AllByRecursion WellPure ws → resolve_pures (with_pures earlier) ws ≡ Ok known → PuresDone earlier ws known
pures-done earlier [] known d well e =
    record {
      new = [];
      is = sym (ok-same (with_pures earlier) known e) ∙ ap with_pures (sym (append-nil earlier));
      lawful = tt;
      distinct = subst (λ ps. AreDistinct (pure_names ps)) (sym (append-nil earlier)) d;
    }
pures-done earlier (w ∷ ws) known d well e =
    let b : _ = bind-parts (resolve_pure (with_pures earlier) w) (λ x. resolve_pures (with_pures (earlier ++ x ∷ [])) ws) known e in
    let x : PureTree = b.0 in
    let done : PureDone earlier w x = pure-done earlier w x well.0 b.1 in
    let names : pure_names (earlier ++ x ∷ []) ≡ pure_names earlier ++ x.name ∷ [] = map-append (λ p. p.name) earlier (x ∷ []) in
    let more : AreDistinct (pure_names (earlier ++ x ∷ [])) =
    subst AreDistinct (sym names) (distinct-more (pure_names earlier) x.name d (ap is_name done.name ∙ well.0.name)
    (ap (has_name (pure_names earlier)) done.name ∙ done.new)) in
    let later : PuresDone (earlier ++ x ∷ []) ws known = pures-done (earlier ++ x ∷ []) ws known more well.1 b.2 in
    let same : (earlier ++ x ∷ []) ++ later.new ≡ earlier ++ x ∷ later.new = append_assoc earlier (x ∷ []) later.new in
    record {
      new = x ∷ later.new;
      is = later.is ∙ ap with_pures same;
      lawful = (done.lawful, later.lawful);
      distinct = subst (λ ps. AreDistinct (pure_names ps)) same later.distinct;
    }

-- structs

abbrev pub with_structs : List PureTree → List StructTree → Known
with_structs pures structs = record { pures = pures; structs = structs; procedures = []; chains = [] }

kind-done : (known : Known) (w : WrittenKind) (kind : FieldKind) → resolve_kind known w ≡ Ok kind →
    IsLawfulKind (length known.structs) kind × (is_number_kind kind ≡ is_number_written w)
kind-done known (number_kind type) kind e =
    subst (λ k. IsLawfulKind (length known.structs) k × (is_number_kind k ≡ true)) (ok-same (Number type) kind e) (tt, refl)
kind-done known (array_kind type count) kind e =
    let b : _ = then-parts (unless_fault (is_length count) TypeRule) (Ok (Array type count)) kind e in
    let t : _ = both-true (nat_lt 0 count) (nat_le count array_limit) (unless-ok (is_length count) TypeRule b.0 b.1) in
    subst (λ k. IsLawfulKind (length known.structs) k × (is_number_kind k ≡ false))
    (ok-same (Array type count) kind b.2)
    ((omega (arith, leb-true 1 count t.0), omega (arith, leb-true count array_limit t.1)), refl)
kind-done known (struct_kind name) kind e =
    let b : _ = bind-parts (or_unnamed (position_from (λ d. bytes_eq d.name name) 0 known.structs)) (λ k. Ok (Struct k)) kind e in
    let p : _ =
    position-there (λ d. bytes_eq d.name name) known.structs b.0
    (named-ok (position_from (λ d. bytes_eq d.name name) 0 known.structs) b.0 b.1) in
    subst (λ k. IsLawfulKind (length known.structs) k × (is_number_kind k ≡ false)) (ok-same (Struct b.0) kind b.2)
    (slice_get_within known.structs b.0 p.0 p.1, refl)

pub or-given : (a b : Bool) → (not a || b) ≡ true → a ≡ true → b ≡ true
or-given true b e is = e
or-given false b e is = cc

record FieldDone (known : Known) (is_root : Bool) (numbers earlier : List (List ℕ)) (w : WrittenField) (x : FieldTree) : Type 0 where
  name : x.name ≡ w.name
  new : has_name earlier w.name ≡ false
  kind : IsLawfulKind (length known.structs) x.kind
  number : is_number x ≡ is_number_written w.kind
  output : is_root ≡ true → may_be_named numbers (is_number x) x.name ≡ true

field-done : (known : Known) (is_root : Bool) (numbers earlier : List (List ℕ)) (w : WrittenField) (x : FieldTree) →
    resolve_field known is_root numbers earlier w ≡ Ok x → FieldDone known is_root numbers earlier w x
field-done known is_root numbers earlier w x e =
    let a : _ =
    then-parts (unless_fault (not (has_name earlier w.name)) Name)
    (resolve_kind known w.kind
    >>= λ kind. unless_fault (not is_root || may_be_named numbers (is_number_written w.kind) w.name) TypeRule >> Ok
    (record { name = w.name; kind = kind })) x e in
    let b : _ =
    bind-parts (resolve_kind known w.kind)
    (λ kind. unless_fault (not is_root || may_be_named numbers (is_number_written w.kind) w.name) TypeRule >> Ok
    (record { name = w.name; kind = kind })) x a.2 in
    let c : _ =
    then-parts (unless_fault (not is_root || may_be_named numbers (is_number_written w.kind) w.name) TypeRule)
    (Ok (record { name = w.name; kind = b.0 })) x b.2 in
    let k : _ = kind-done known w.kind b.0 b.1 in
    subst (λ y. FieldDone known is_root numbers earlier w y) (ok-same (record { name = w.name; kind = b.0 }) x c.2) (record {
      name = refl;
      new = not-true (has_name earlier w.name) (unless-ok (not (has_name earlier w.name)) Name a.0 a.1);
      kind = k.0;
      number = k.1;
      output = λ root. ap (λ n. may_be_named numbers n w.name) k.1
          ∙ or-given is_root (may_be_named numbers (is_number_written w.kind) w.name)
          (unless-ok (not is_root || may_be_named numbers (is_number_written w.kind) w.name) TypeRule c.0 c.1) root;
    })

record FieldsDone (known : Known) (is_root : Bool) (numbers earlier : List (List ℕ)) (ws : List WrittenField)
    (xs : List FieldTree) : Type 0 where
  count : length xs ≡ length ws
  distinct : AreDistinct (map (λ f. f.name) xs)
  apart : AreApart (map (λ f. f.name) xs) earlier
  kinds : AllByRecursion (λ f. IsLawfulKind (length known.structs) f.kind) xs
  outputs : is_root ≡ true → AllByRecursion (λ f. may_be_named numbers (is_number f) f.name ≡ true) xs
  numbers_same : number_names xs ≡ filter_map number_name ws

numbers-more : (x : FieldTree) (w : WrittenField) (xs : List FieldTree) (ws : List WrittenField) → x.name ≡ w.name →
    is_number x ≡ is_number_written w.kind → number_names xs ≡ filter_map number_name ws →
    number_names (x ∷ xs) ≡ filter_map number_name (w ∷ ws)
numbers-more x w xs ws name number later = by (is_number x) (is_number_written w.kind) number
  where
    by : (a b : Bool) → a ≡ b → map (λ f. f.name) (cond a (x ∷ filter is_number xs) (filter is_number xs)) ≡ cons_option
        (if b then Some w.name else None) (filter_map number_name ws)
    by true true e = ap₂ (λ n ns. n ∷ ns) name later
    by false false e = later
    by true false e = cc
    by false true e = cc

fields-done : (known : Known) (is_root : Bool) (numbers earlier : List (List ℕ)) (ws : List WrittenField)
    (xs : List FieldTree) → AllByRecursion (λ f. is_name f.name ≡ true) ws →
    resolve_fields known is_root numbers earlier ws ≡ Ok xs → FieldsDone known is_root numbers earlier ws xs
fields-done known is_root numbers earlier [] xs well e =
    subst (λ ys. FieldsDone known is_root numbers earlier [] ys) (ok-same [] xs e)
    (record { count = refl; distinct = tt; apart = tt; kinds = tt; outputs = λ root. tt; numbers_same = refl })
fields-done known is_root numbers earlier (w ∷ ws) xs well e =
    let a : _ =
    bind-parts (on_line w.line (resolve_field known is_root numbers earlier w))
    (λ x. resolve_fields known is_root numbers (w.name ∷ earlier) ws >>= λ ys. Ok (x ∷ ys)) xs e in
    let b : _ = bind-parts (resolve_fields known is_root numbers (w.name ∷ earlier) ws) (λ ys. Ok (a.0 ∷ ys)) xs a.2 in
    let f : FieldDone known is_root numbers earlier w a.0 =
    field-done known is_root numbers earlier w a.0
    (on_line-ok w.line (resolve_field known is_root numbers earlier w) a.0 a.1) in
    let later : FieldsDone known is_root numbers (w.name ∷ earlier) ws b.0 =
    fields-done known is_root numbers (w.name ∷ earlier) ws b.0 well.1 b.1 in
    let parts : _ = apart-parts (map (λ g. g.name) b.0) w.name earlier later.apart in
    subst (λ ys. FieldsDone known is_root numbers earlier (w ∷ ws) ys) (ok-same (a.0 ∷ b.0) xs b.2) (record {
      count = ap suc later.count;
      distinct = (ap is_name f.name ∙ well.0, ap (has_name (map (λ g. g.name) b.0)) f.name ∙ parts.0, later.distinct);
      apart = (ap (has_name earlier) f.name ∙ f.new, parts.1);
      kinds = (f.kind, later.kinds);
      outputs = λ root. (f.output root, later.outputs root);
      numbers_same = numbers-more a.0 w b.0 ws f.name f.number later.numbers_same;
    })

record StructDone (known : Known) (w : WrittenStruct) (x : StructTree) : Type 0 where
  lawful : IsLawfulStruct (length known.structs) x
  name : x.name ≡ w.name
  new : has_name (map (λ e. e.name) known.structs) w.name ≡ false

struct-done : (known : Known) (w : WrittenStruct) (x : StructTree) → WellStruct w → resolve_struct known w ≡ Ok x → StructDone known w x
struct-done known w x well e =
    let is_root : Bool = bytes_eq w.name (codes "root") in
    let numbers : List (List ℕ) = filter_map number_name w.fields in
    let a : _ =
    then-parts (on_line w.line (unless_fault (not (has_name (map (λ d. d.name) known.structs) w.name)) Name))
    (resolve_fields known is_root numbers [] w.fields >>= λ fields. Ok (record { name = w.name; fields = fields }))
    x e in
    let b : _ =
    bind-parts (resolve_fields known is_root numbers [] w.fields)
    (λ fields. Ok (record { name = w.name; fields = fields })) x a.2 in
    let fs : FieldsDone known is_root numbers [] w.fields b.0 = fields-done known is_root numbers [] w.fields b.0 well.fields b.1 in
    subst (λ y. StructDone known w y) (ok-same (record { name = w.name; fields = b.0 }) x b.2) (record {
      lawful = record {
        fields = fs.distinct;
        some = subst (λ n. 0 < n) (sym fs.count) well.some;
        kinds = fs.kinds;
        outputs = λ root. subst (λ ns. AllByRecursion (λ f. may_be_named ns (is_number f) f.name ≡ true) b.0)
            (sym fs.numbers_same) (fs.outputs root);
      };
      name = refl;
      new = not-true (has_name (map (λ d. d.name) known.structs) w.name)
          (unless-ok (not (has_name (map (λ d. d.name) known.structs) w.name)) Name a.0
          (on_line-ok w.line (unless_fault (not (has_name (map (λ d. d.name) known.structs) w.name)) Name) a.0 a.1));
    })

pub record StructsDone (pures : List PureTree) (earlier : List StructTree) (ws : List WrittenStruct) (known : Known) : Type 0 where
  pub new : List StructTree
  pub is : known ≡ with_structs pures (earlier ++ new)
  pub lawful : AreStructs (length earlier) new
  pub distinct : AreDistinct (map (λ d. d.name) (earlier ++ new))

length-one_more : {A : Type 0} (xs : List A) (x : A) → length (xs ++ x ∷ []) ≡ length xs + 1
length-one_more [] x = refl
length-one_more (y ∷ xs) x = ap suc (length-one_more xs x) ∙ omega arith

pub structs-done : (pures : List PureTree) (earlier : List StructTree) (ws : List WrittenStruct) (known : Known) →
    AreDistinct (map (λ d. d.name) earlier) → AllByRecursion WellStruct ws →
    resolve_structs (with_structs pures earlier) ws ≡ Ok known → StructsDone pures earlier ws known
structs-done pures earlier [] known d well e =
    record {
      new = [];
      is = sym (ok-same (with_structs pures earlier) known e)
          ∙ ap (with_structs pures) (sym (append-nil earlier));
      lawful = tt;
      distinct =
          subst (λ ds. AreDistinct (map (λ x. x.name) ds)) (sym (append-nil earlier)) d;
    }
structs-done pures earlier (w ∷ ws) known d well e =
    let b : _ =
    bind-parts (resolve_struct (with_structs pures earlier) w)
    (λ x. resolve_structs (with_structs pures (earlier ++ x ∷ [])) ws) known e in
    let x : StructTree = b.0 in
    let done : StructDone (with_structs pures earlier) w x = struct-done (with_structs pures earlier) w x well.0 b.1 in
    let names : map (λ y. y.name) (earlier ++ x ∷ []) ≡ map (λ y. y.name) earlier ++ x.name ∷ [] =
    map-append (λ y. y.name) earlier (x ∷ []) in
    let more : AreDistinct (map (λ y. y.name) (earlier ++ x ∷ [])) =
    subst AreDistinct (sym names)
    (distinct-more (map (λ y. y.name) earlier) x.name d (ap is_name done.name ∙ well.0.name)
    (ap (has_name (map (λ y. y.name) earlier)) done.name ∙ done.new)) in
    let later : StructsDone pures (earlier ++ x ∷ []) ws known = structs-done pures (earlier ++ x ∷ []) ws known more well.1 b.2 in
    let same : (earlier ++ x ∷ []) ++ later.new ≡ earlier ++ x ∷ later.new = append_assoc earlier (x ∷ []) later.new in
    record {
      new = x ∷ later.new;
      is = later.is ∙ ap (with_structs pures) same;
      lawful = (done.lawful, subst (λ n. AreStructs n later.new) (length-one_more earlier x) later.lawful);
      distinct =
          subst (λ ds. AreDistinct (map (λ y. y.name) ds)) same later.distinct;
    }
