-- A node that is resolved is lawful.
use Rattle.std.proofs.Common.{◌≡◌, ◌⊎◌, inl, inr, refl, sym, ◌∙◌, ap, subst, ℕ, zero, suc, ◌+◌, ◌-◌, ◌<◌, ◌≤◌, ◌↔◌, List, [], ◌∷◌, ◌++◌, length, map, flat_map, take, drop, get_or, Some, Ok, Bool, true, false, not, ◌&&◌, ◌||◌, if◌then◌else◌, nat_lt, bytes_eq, arith, lt-ltb, le-ltb, append_assoc}
use Rattle.std.specs.List.{AllByRecursion, position_from, list_all, range_with_len}
use Rattle.std.proofs.lemmas.Bool.{not-true, and_parts, cases_lt}
use Rattle.std.proofs.lemmas.List.{length-map, length-append, map-append, take_at, drop_at, get_or-append-add}
use Rattle.std.proofs.lemmas.Option.{same_Some}
use Rattle.c_syntax.specs.declared.fault.CKind.TheVariants.{Name, TypeRule}
use Rattle.c_syntax.specs.Outputs.{has_name}
use Rattle.base_core.specs.Results.{◌>>=◌, ◌>>◌}
use Rattle.c_rules.specs.Resolve.{unless_fault, on_line, check_params}
use Rattle.c_rules.proofs.lemmas.Resolved.{ok-same, bind-parts, then-parts, on_line-ok, unless-ok}
use Rattle.lustre_syntax.specs.Names.{is_lustre_name}
use Rattle.lustre_syntax.specs.Tree.{ValueType, int, ExprTree, Declared, texts_of, types_of, EquationTree, set, call, NodeTree, node_texts, names_read, given_by, expressions_of}
use Rattle.lustre_syntax.specs.Typing.{same_type, input_types, output_types}
use Rattle.lustre_syntax.specs.Lawful.{expr_depth, expr_limit, HasLiterals, IsWritable, AreDistinct, Agrees, IsLawfulNode}
use Rattle.lustre_grammar.specs.Written.{WrittenDeclared, WrittenNode}
use Rattle.lustre_rules.specs.Resolve.{Scope, resolve_equations, written_given, all_given, has_ints, written_names, declared_names, resolve_head, resolve_node}
use Rattle.lustre_rules.specs.Reading.{IsShallow}
use Rattle.lustre_reading_laws.proofs.Depths.{node_within}
use Rattle.lustre_reading_laws.proofs.WellWritten.{AreNamed, WellNode}
use Rattle.lustre_reading_laws.proofs.ResolvedValues.{all-both}
use Rattle.lustre_reading_laws.proofs.GivenNames.{times, times-append, times-below, IsGiven}
use Rattle.lustre_reading_laws.proofs.DistinctNames.{names-differ, distinct-place}
use Rattle.lustre_reading_laws.proofs.ResolvedEquations.{node_with, ReadsWithin, ResolvedEquations, equations-resolved}

abbrev declared_of : WrittenDeclared → Declared
declared_of d = record { text = d.text; type = d.type }

texts-declared : (ds : List WrittenDeclared) → texts_of (map declared_of ds) ≡ map (λ d. d.text) ds
texts-declared [] = refl
texts-declared (d ∷ ds) = ap (λ ts. d.text ∷ ts) (texts-declared ds)

types-declared : (ds : List WrittenDeclared) → types_of (map declared_of ds) ≡ map (λ d. d.type) ds
types-declared [] = refl
types-declared (d ∷ ds) = ap (λ ts. d.type ∷ ts) (types-declared ds)

-- what an expression has and reads, and how deep it is
values-writable : (count : ℕ) (vs : List ExprTree) → AllByRecursion (λ v. AllByRecursion (λ k. k < count) (names_read v)) vs →
    AllByRecursion HasLiterals vs → AllByRecursion (λ v. expr_depth v ≤ expr_limit) vs → AllByRecursion (IsWritable count) vs
values-writable count [] reads literals depth = tt
values-writable count (v ∷ vs) reads literals depth = (
  record { reads = reads.0; literals = literals.0; depth = depth.0 },
  values-writable count vs reads.1 literals.1 depth.1,
)

equations-writable : (names : List Declared) (xs : List EquationTree) → AllByRecursion (ReadsWithin names) xs →
    AllByRecursion (λ x. AllByRecursion HasLiterals (expressions_of x)) xs → AllByRecursion IsShallow xs →
    AllByRecursion (λ x. AllByRecursion (IsWritable (length names)) (expressions_of x)) xs
equations-writable names [] reads literals depth = tt
equations-writable names (x ∷ xs) reads literals depth = (
  values-writable (length names) (expressions_of x) reads.0 literals.0 depth.0,
  equations-writable names xs reads.1 literals.1 depth.1,
)

-- types agree in any node with the same names
agrees-alike : (earlier : List NodeTree) (n : NodeTree) (x : EquationTree) → Agrees earlier (node_with n.names) x → Agrees earlier n x
agrees-alike earlier n (set line given value) h = h
agrees-alike earlier n (call line given callee values) h = h

agree-alike : (earlier : List NodeTree) (n : NodeTree) (xs : List EquationTree) →
    AllByRecursion (Agrees earlier (node_with n.names)) xs → AllByRecursion (Agrees earlier n) xs
agree-alike earlier n [] h = tt
agree-alike earlier n (x ∷ xs) h = (agrees-alike earlier n x h.0, agree-alike earlier n xs h.1)

-- what holds of each number from one on
each-from : (P : ℕ → Type 0) (from count : ℕ) → ((k : ℕ) → from ≤ k → k < from + count → P k) →
    AllByRecursion P (range_with_len from count)
each-from P from zero h = tt
each-from P from (suc count) h = (
  h from (omega arith) (omega arith),
  each-from P (from + 1) count (λ k low high. h k (omega (arith, low)) (omega (arith, high))),
)

all-at : {A : Type 0} (test : A → Bool) (xs : List A) (k : ℕ) (d : A) → list_all test xs ≡ true → k < length xs →
    test (get_or xs k d) ≡ true
all-at test [] k d h within = absurd (omega (arith, within))
all-at test (x ∷ xs) zero d h within = (and_parts (test x) (list_all test xs) h).0
all-at test (x ∷ xs) (suc k) d h within = all-at test xs k d (and_parts (test x) (list_all test xs) h).1 (omega (arith, within))

at-mapped : {A B : Type 0} (f : A → B) (xs : List A) (j : ℕ) (d : A) (e : B) → j < length xs → get_or (map f xs) j e ≡ f (get_or xs j d)
at-mapped f [] j d e within = absurd (omega (arith, within))
at-mapped f (x ∷ xs) zero d e within = refl
at-mapped f (x ∷ xs) (suc j) d e within = at-mapped f xs j d e (omega (arith, within))

at-back : {A B : Type 0} (f : A → B) (xs ys : List A) (j : ℕ) (d : A) (e : B) → j < length ys →
    get_or (map f (xs ++ ys)) (length xs + j) e ≡ f (get_or ys j d)
at-back f xs ys j d e within =
    ap (λ zs. get_or zs (length xs + j) e) (map-append f xs ys)
    ∙ ap (λ n. get_or (map f xs ++ map f ys) (n + j) e) (sym (length-map xs f))
    ∙ get_or-append-add (map f xs) (map f ys) j e ∙ at-mapped f ys j d e within

no_name : WrittenDeclared
no_name = record { line = 0; text = []; type = int }

-- each place of a node is given as often as it has to be
module _ (w : WrittenNode) (ks : List ℕ) (scope : Scope) (names : scope.names ≡ declared_names w)
    (inputs : scope.inputs ≡ length w.inputs) (none : scope.given ≡ [])
    (given : IsGiven scope (flat_map written_given w.equations) ks)
    (distinct : AreDistinct (texts_of (declared_names w))) (all : all_given w ≡ true) where
  input-none : (k : ℕ) → k < length w.inputs → times k ks ≡ 0
  input-none k below = times-below scope.inputs k ks given.behind (subst (λ n. k < n) (sym inputs) below)

  at-most : (k : ℕ) → times k ks ≤ 1
  at-most k =
      let once : times k (scope.given ++ ks) ≤ 1 =
      given.once (λ j. subst (λ g. times j g ≤ 1) (sym none) (omega arith)) k in
      let sum : times k (scope.given ++ ks) ≡ times k scope.given + times k ks = times-append k scope.given ks in
      omega arith

  -- the text at a place after the inputs has an equation
  named-there : (k : ℕ) → length w.inputs ≤ k → k < length (declared_names w) →
      has_name (flat_map written_given w.equations) (get_or (texts_of (declared_names w)) k []) ≡ true
  named-there k low high =
      let back : List WrittenDeclared = w.outputs ++ w.others in
      let order : written_names w ≡ w.inputs ++ back = append_assoc w.inputs w.outputs w.others in
      let count : length (declared_names w) ≡ length (w.inputs ++ back) =
      length-map (written_names w) declared_of ∙ ap length order in
      let high_too : k < length (w.inputs ++ back) = subst (λ n. k < n) count high in
      let sum : length (w.inputs ++ back) ≡ length w.inputs + length back = length-append w.inputs back in
      let within : k - length w.inputs < length back = omega (arith, low, high_too, sum) in
      let place : k ≡ length w.inputs + (k - length w.inputs) = omega (arith, low) in
      let text : get_or (texts_of (declared_names w)) k [] ≡ (get_or back (k - length w.inputs) no_name).text =
      ap (λ ts. get_or ts k []) (texts-declared (written_names w))
      ∙ ap (λ ds. get_or (map (λ d. d.text) ds) k []) order
      ∙ ap (λ n. get_or (map (λ d. d.text) (w.inputs ++ back)) n []) place
      ∙ at-back (λ d. d.text) w.inputs back (k - length w.inputs) no_name [] within in
      ap (has_name (flat_map written_given w.equations)) text
      ∙ all-at (λ d. has_name (flat_map written_given w.equations) d.text) back (k - length w.inputs) no_name all within

  other-once : (k : ℕ) → length w.inputs ≤ k → k < length (declared_names w) → times k ks ≡ 1
  other-once k low high =
      let text : List ℕ = get_or (texts_of (declared_names w)) k [] in
      let c : _ = given.covers text (named-there k low high) in
      let count : length (texts_of (declared_names w)) ≡ length (declared_names w) = length-map (declared_names w) (λ d. d.text) in
      let place : position_from (bytes_eq text) 0 (texts_of (declared_names w)) ≡ Some (0 + k) =
      distinct-place (texts_of (declared_names w)) 0 k distinct (subst (λ n. k < n) (sym count) high) in
      let found : position_from (bytes_eq text) 0 (texts_of (declared_names w)) ≡ Some c.0 =
      subst (λ ns. position_from (bytes_eq text) 0 (texts_of ns) ≡ Some c.0) names c.1 in
      let zero_less : 0 + k ≡ k = omega arith in
      let same : c.0 ≡ k = same_Some c.0 (0 + k) (sym found ∙ place) ∙ zero_less in
      let least : 1 ≤ times k ks = subst (λ n. 1 ≤ times n ks) same c.2 in
      let most : times k ks ≤ 1 = at-most k in
      omega (arith, least, most)

  pub place-given : (k : ℕ) → k < length (declared_names w) → times k ks ≡ (if nat_lt k (length w.inputs) then 0 else 1)
  place-given k high = by (cases_lt k (length w.inputs))
    where
      by : (k < length w.inputs) ⊎ (length w.inputs ≤ k) → times k ks ≡ (if nat_lt k (length w.inputs) then 0 else 1)
      by (inl below) = input-none k below ∙ sym (ap (λ b. if b then 0 else 1) (lt-ltb k (length w.inputs) below))
      by (inr low) = other-once k low high ∙ sym (ap (λ b. if b then 0 else 1) (le-ltb k (length w.inputs) low))

record HeadDone (earlier : List NodeTree) (is_last : Bool) (w : WrittenNode) : Type 0 where
  new : has_name (node_texts earlier) w.text ≡ false
  given : all_given w ≡ true
  ints : is_last ≡ true → has_ints w ≡ true

head-done : (earlier : List NodeTree) (is_last : Bool) (w : WrittenNode) (u : Unit {0}) →
    resolve_head earlier is_last w ≡ Ok u → HeadDone earlier is_last w
head-done earlier is_last w u e =
    let a : _ =
    then-parts (unless_fault (not (has_name (node_texts earlier) w.text)) Name)
    (unless_fault (all_given w) Name >> (unless_fault (not is_last || has_ints w) TypeRule >> Ok tt)) u e in
    let b : _ =
    then-parts (unless_fault (all_given w) Name) (unless_fault (not is_last || has_ints w) TypeRule >> Ok tt) u a.2 in
    let c : _ = then-parts (unless_fault (not is_last || has_ints w) TypeRule) (Ok tt) u b.2 in
    record {
      new = not-true (has_name (node_texts earlier) w.text)
          (unless-ok (not (has_name (node_texts earlier) w.text)) Name a.0 a.1);
      given = unless-ok (all_given w) Name b.0 b.1;
      ints = by is_last (has_ints w) (unless-ok (not is_last || has_ints w) TypeRule c.0 c.1);
    }
  where
    by : (last ints : Bool) → (not last || ints) ≡ true → last ≡ true → ints ≡ true
    by true ints h is = h
    by false ints h is = cc

is-int : (t : ValueType) → same_type t int ≡ true → t ≡ int
is-int true h = cc
is-int false h = refl

all-int : (ds : List WrittenDeclared) → list_all (λ d. same_type d.type int) ds ≡ true → AllByRecursion (λ t. t ≡ int) (map (λ d. d.type) ds)
all-int [] h = tt
all-int (d ∷ ds) h =
    let p : _ = and_parts (same_type d.type int) (list_all (λ x. same_type x.type int) ds) h in
    (is-int d.type p.0, all-int ds p.1)

all-split : (xs ys : List WrittenDeclared) → list_all (λ d. same_type d.type int) (xs ++ ys) ≡ true →
    (list_all (λ d. same_type d.type int) xs ≡ true) × (list_all (λ d. same_type d.type int) ys ≡ true)
all-split [] ys h = (refl, h)
all-split (x ∷ xs) ys h =
    let p : _ = and_parts (same_type x.type int) (list_all (λ d. same_type d.type int) (xs ++ ys)) h in
    let later : _ = all-split xs ys p.1 in
    (and-both (same_type x.type int) (list_all (λ d. same_type d.type int) xs) p.0 later.0, later.1)
  where
    and-both : (a b : Bool) → a ≡ true → b ≡ true → (a && b) ≡ true
    and-both true b h k = k
    and-both false b h k = cc

-- the inputs and the outputs of a node are of `int`
pub record HasInts (n : NodeTree) : Type 0 where
  pub inputs : AllByRecursion (λ t. t ≡ int) (input_types n)
  pub outputs : AllByRecursion (λ t. t ≡ int) (output_types n)

abbrev node_from : WrittenNode → List EquationTree → NodeTree
node_from w xs =
    record {
      text = w.text;
      line = w.line;
      inputs = length w.inputs;
      outputs = length w.outputs;
      names = declared_names w;
      equations = xs;
    }

ints-there : (w : WrittenNode) (xs : List EquationTree) → has_ints w ≡ true → HasInts (node_from w xs)
ints-there w xs h =
    let back : List WrittenDeclared = w.outputs ++ w.others in
    let order : written_names w ≡ w.inputs ++ back = append_assoc w.inputs w.outputs w.others in
    let parts : _ = all-split w.inputs w.outputs h in
    let types : types_of (declared_names w) ≡ map (λ d. d.type) w.inputs ++ map (λ d. d.type) back =
    types-declared (written_names w) ∙ ap (map (λ d. d.type)) order ∙ map-append (λ d. d.type) w.inputs back in
    let behind : map (λ d. d.type) back ≡ map (λ d. d.type) w.outputs ++ map (λ d. d.type) w.others =
    map-append (λ d. d.type) w.outputs w.others in
    let front : take (length w.inputs) (types_of (declared_names w)) ≡ map (λ d. d.type) w.inputs =
    ap (take (length w.inputs)) types
    ∙ take_at (map (λ d. d.type) w.inputs) (map (λ d. d.type) back) (length w.inputs) (length-map w.inputs (λ d. d.type)) in
    let rest : take (length w.outputs) (drop (length w.inputs) (types_of (declared_names w))) ≡ map (λ d. d.type) w.outputs =
    ap (λ ts. take (length w.outputs) (drop (length w.inputs) ts)) types
    ∙ ap (take (length w.outputs)) (drop_at (map (λ d. d.type) w.inputs) (map (λ d. d.type) back) (length w.inputs)
    (length-map w.inputs (λ d. d.type))) ∙ ap (take (length w.outputs)) behind
    ∙ take_at (map (λ d. d.type) w.outputs) (map (λ d. d.type) w.others) (length w.outputs)
    (length-map w.outputs (λ d. d.type)) in
    record {
      inputs = subst (AllByRecursion (λ t. t ≡ int)) (sym front) (all-int w.inputs parts.0);
      outputs = subst (AllByRecursion (λ t. t ≡ int)) (sym rest) (all-int w.outputs parts.1);
    }

abbrev is_named : WrittenDeclared → Type 0
is_named d = is_lustre_name d.text ≡ true

-- a node that is resolved
pub record ResolvedNode (earlier : List NodeTree) (is_last : Bool) (w : WrittenNode) (x : NodeTree) : Type 0 where
  pub lawful : AllByRecursion IsShallow x.equations → IsLawfulNode earlier x
  pub ints : is_last ≡ true → HasInts x
  pub shallow : (node_within w ≡ true) ↔ AllByRecursion IsShallow x.equations

pub node-resolved : (earlier : List NodeTree) (is_last : Bool) (w : WrittenNode) (x : NodeTree) → WellNode w →
    resolve_node earlier is_last w ≡ Ok x → ResolvedNode earlier is_last w x
node-resolved earlier is_last w x well e =
    let scope : Scope = record { earlier = earlier; names = declared_names w; inputs = length w.inputs; given = [] } in
    let a : _ =
    then-parts (on_line w.line (resolve_head earlier is_last w))
    (check_params [] [] (map (λ d. (d.line, d.text)) (written_names w))
    >> (resolve_equations scope w.equations >>= λ xs. Ok (node_from w xs))) x e in
    let b : _ =
    then-parts (check_params [] [] (map (λ d. (d.line, d.text)) (written_names w)))
    (resolve_equations scope w.equations >>= λ xs. Ok (node_from w xs)) x a.2 in
    let c : _ = bind-parts (resolve_equations scope w.equations) (λ xs. Ok (node_from w xs)) x b.2 in
    let head : HeadDone earlier is_last w =
    head-done earlier is_last w a.0 (on_line-ok w.line (resolve_head earlier is_last w) a.0 a.1) in
    let named : AreNamed (written_names w) =
    all-both is_named (w.inputs ++ w.outputs) w.others
    (all-both is_named w.inputs w.outputs well.inputs well.outputs) well.others in
    let differ : _ = names-differ [] (written_names w) b.0 b.1 named in
    let distinct : AreDistinct (texts_of (declared_names w)) =
    subst AreDistinct (sym (texts-declared (written_names w))) differ.0 in
    let done : ResolvedEquations scope w.equations c.0 = equations-resolved scope w.equations c.0 c.1 in
    let ks : List ℕ = flat_map given_by c.0 in
    let ports : length w.inputs + length w.outputs ≤ length (declared_names w) =
    omega (
      arith,
      length-map (written_names w) declared_of,
      length-append (w.inputs ++ w.outputs) w.others,
      length-append w.inputs w.outputs,
    ) in
    subst (ResolvedNode earlier is_last w) (ok-same (node_from w c.0) x c.2)
    (record {
      lawful = λ shallow. record {
        named = well.name;
        new = head.new;
        names = distinct;
        ports = ports;
        within = done.given.within;
        given = each-from (λ k. times k ks ≡ (if nat_lt k (length w.inputs) then 0 else 1)) 0 (length (declared_names w))
            (λ k low high. place-given w ks scope refl refl refl done.given distinct head.given k (omega (arith, high)));
        typed = agree-alike earlier (node_from w c.0) c.0 done.agree;
        writable = equations-writable (declared_names w) c.0 done.reads (done.literals well.equations) shallow;
      };
      ints = λ last. ints-there w c.0 (head.ints last);
      shallow = done.shallow;
    })
