-- The numbers of the root's inputs are numbers that right code takes.
use Rattle.std.proofs.Common.{◌≡◌, ℕ, suc, List, [], ◌∷◌, ◌++◌, length, map, refl, sym, ap, subst, ◌∙◌, arith, cond}
use Rattle.std.specs.Prelude.{Bool, true, false, ◌&&◌, ◌==◌, ℤ, ◌≤ℤ◌, int_le, Some, None, Contains, slice_get, filter, zip}
use Rattle.std.specs.List.{AllByRecursion, AllZip, range_with_len}
use Rattle.std.proofs.lemmas.Bool.{and_parts}
use Rattle.std.proofs.lemmas.Int.{ints}
use Rattle.std.proofs.lemmas.List.FromFn.{length-map-range_with_len}
use Rattle.std.proofs.lemmas.List.Sorted.{Contains-permutation}
use Rattle.base_core.specs.declared.Port.{Port}
use Rattle.base_core.specs.declared.Port.TheVariants.{Number}
use Rattle.base_fixed_point.specs.declared.types.FixType.{FixType}
use Rattle.base_fixed_point.specs.Types.{int8, int16, int32, uint8, uint16, uint32, boolean}
use Rattle.base_fixed_point.specs.Conversion.{InType}
use Rattle.diagram_meaning.specs.Rows.{inports_of}
use Rattle.diagram_meaning.specs.Diagram.{Diagram, type_at}
use Rattle.modules_profile.specs.SystemProfile.{SystemProfile}
use Rattle.modules_profile.specs.Headers.{header_of}
use Rattle.c_syntax.specs.declared.code.CType.{CType}
use Rattle.c_syntax.specs.declared.code.CType.TheVariants.{I8, U8, I16, U16, I32, U32, I64}
use Rattle.c_syntax.specs.Tree.{ParamTree, ProcedureTree, ProgramTree}
use Rattle.c_syntax.specs.RootFields.{root_struct}
use Rattle.c_semantics.specs.Values.{is_in_type}
use Rattle.c_syntax.specs.Lawful.{AreDistinct, IsLawful, procedure_names, pure_names}
use Rattle.c_syntax.proofs.lemmas.NameFacts.{AreDistinct-back}
use Rattle.c_checked.specs.Checked.{fix_type}
use Rattle.emit_shape.specs.Names.{container, port_name}
use Rattle.emit_shape.specs.Heads.{Head, input_params}
use Rattle.emit_shape.specs.Programs.{procedures_of}
use Rattle.emit_shape.specs.RootCode.{HasRootCode}
use Rattle.right_relation.proofs.lemmas.Containers.{container-has}
use Rattle.diagram_verdict.proofs.lemmas.PlaceLists.{place-of}
use Rattle.tool_compiled.specs.Compilation.{root_types}
use Rattle.tool_compiler.proofs.lemmas.PortTypes.{nothing-behind, map-twice, inputs-are}
use Rattle.tool_runner.specs.Ticks.{IsNarrower}
use Rattle.tool_endings.specs.Runs.{HasStepTypes}
use Rattle.tool_endings.proofs.lemmas.StepTypes.{one_place}

-- ---- Types and their containers

between : (least greatest v : ℤ) → (int_le least v && int_le v greatest) ≡ true → (least ≤ℤ v) × (v ≤ℤ greatest)
between least greatest v h =
    let parts = and_parts (int_le least v) (int_le v greatest) h in
    let low = parts.0 in let high = parts.1 in (omega (arith, ints, low), omega (arith, ints, high))

-- the numbers of a type of C are those of its type without a binary point
as-type : (c : CType) (t : FixType) (v : ℤ) → fix_type c ≡ Some t → is_in_type c v ≡ true → InType t v
as-type I8 t v is h = let same : int8 ≡ t = cc in subst (λ (x : FixType). InType x v) same (between _ _ v h)
as-type U8 t v is h = let same : uint8 ≡ t = cc in subst (λ (x : FixType). InType x v) same (between _ _ v h)
as-type I16 t v is h = let same : int16 ≡ t = cc in subst (λ (x : FixType). InType x v) same (between _ _ v h)
as-type U16 t v is h = let same : uint16 ≡ t = cc in subst (λ (x : FixType). InType x v) same (between _ _ v h)
as-type I32 t v is h = let same : int32 ≡ t = cc in subst (λ (x : FixType). InType x v) same (between _ _ v h)
as-type U32 t v is h = let same : uint32 ≡ t = cc in subst (λ (x : FixType). InType x v) same (between _ _ v h)
as-type I64 t v is h = absurd (cc is)

-- each number of a type is one of the type that its container stands for
narrower : (t wide : FixType) → fix_type (container t) ≡ Some wide → IsNarrower t wide
narrower t wide is v within = as-type (container t) wide v is (container-has t v within)

all-narrower : (types wide : List FixType) → map (λ t. fix_type (container t)) types ≡ map Some wide → AllZip IsNarrower types wide
all-narrower [] [] e = tt
all-narrower [] (w ∷ ws) e = absurd (cc e)
all-narrower (t ∷ ts) [] e = absurd (cc e)
all-narrower (t ∷ ts) (w ∷ ws) e =
    let first : fix_type (container t) ≡ Some w = cc in
    let later : map (λ u. fix_type (container u)) ts ≡ map Some ws = cc in
    (narrower t w first, all-narrower ts ws later)

-- ---- Lists

all-map : {A : Type 0} (P Q : A → Type 0) (xs : List A) → ((x : A) → P x → Q x) → AllByRecursion P xs → AllByRecursion Q xs
all-map P Q [] f h = tt
all-map P Q (x ∷ xs) f h = (f x h.0, all-map P Q xs f h.1)

all-filter : {A : Type 0} (test : A → Bool) (P : A → Type 0) (xs : List A) → AllByRecursion P xs → AllByRecursion P (filter test xs)
all-filter test P [] h = tt
all-filter test P (x ∷ xs) h = by (test x) (all-filter test P xs h.1)
  where
    by : (b : Bool) → AllByRecursion P (filter test xs) → AllByRecursion P (cond b (x ∷ filter test xs) (filter test xs))
    by true later = (h.0, later)
    by false later = later

-- what is made of the second of two lists side by side
of-second : {A B C : Type 0} (f : B → C) (xs : List A) (ys : List B) → length xs ≡ length ys →
    map (λ (e : A × B). f e.1) (zip xs ys) ≡ map f ys
of-second f [] [] e = refl
of-second f [] (y ∷ ys) e = absurd (omega (arith, e))
of-second f (x ∷ xs) [] e = absurd (omega (arith, e))
of-second f (x ∷ xs) (y ∷ ys) e = ap (λ zs. f y ∷ zs) (of-second f xs ys (omega (arith, e)))

-- ---- The head of `root_step`

abbrev Stands : ProgramTree → ProcedureTree → Type 0
Stands p q = (i : ℕ) × (slice_get p.procedures i ≡ Some q)

all-there : (qs : List ProcedureTree) → AllByRecursion (λ q. (i : ℕ) × (slice_get qs i ≡ Some q)) qs
all-there [] = tt
all-there (q ∷ qs) = (
  (0, refl),
  all-map (λ x. (i : ℕ) × (slice_get qs i ≡ Some x)) (λ x. (i : ℕ) × (slice_get (q ∷ qs) i ≡ Some x)) qs
      (λ x at. (suc at.0, at.1)) (all-there qs),
)

found : (p : ProgramTree) (qs : List ProcedureTree) (q : ProcedureTree) → AllByRecursion (Stands p) qs → Contains qs q → Stands p q
found p qs q all (k, below, is) = subst (Stands p) is (place-of (Stands p) qs q k all below)

-- `root_step` is among the procedures
step-stands : (p : ProgramTree) (d : Diagram) (hyper : ℕ) (root : HasRootCode p d hyper) → Stands p root.step
step-stands p d hyper root =
    let listed : Contains (root.start ∷ root.step ∷ []) root.step = (1, omega arith, refl) in
    let there : Contains (procedures_of p (root_struct p)) root.step =
    Contains-permutation (root.start ∷ root.step ∷ []) (procedures_of p (root_struct p)) root.step root.only
    listed in
    found p (procedures_of p (root_struct p)) root.step
    (all-filter (λ (q : ProcedureTree). q.of == root_struct p) (Stands p) p.procedures (all-there p.procedures)) there

-- the types of the root's inputs by their ports, one for each parameter
params-typed : (d : Diagram) (profile : SystemProfile) →
    map (λ (q : ParamTree). fix_type q.type) (input_params (header_of d None profile))
    ≡ map (λ t. fix_type (container t)) (map (type_at d.types) (inports_of d.rows None))
params-typed d profile =
    let inputs : List FixType = map (type_at d.types) (inports_of d.rows None) in
    let ports : List Port = map Number (range_with_len 1 (length inputs)) in
    let many : length (ports ++ []) ≡ length (inputs ++ []) =
    ap length (nothing-behind ports) ∙ length-map-range_with_len Number 1 (length inputs) ∙ sym (ap length (nothing-behind inputs)) in
    map-twice (λ (q : ParamTree). fix_type q.type)
    (λ (e : Port × FixType). record {
      name = port_name (header_of d None profile).control e.0;
      type = container e.1;
    }) (zip (ports ++ []) (inputs ++ []))
    ∙ of-second (λ t. fix_type (container t)) (ports ++ []) (inputs ++ []) many
    ∙ ap (map (λ t. fix_type (container t))) (nothing-behind inputs)

-- each number of an input of the root is one of the type that right code's `root_step` takes for it
pub step-types : (d : Diagram) (p : ProgramTree) (hyper : ℕ) (types : List FixType) → IsLawful p →
    HasRootCode p d hyper → HasStepTypes p types → AllZip IsNarrower (root_types d) types
step-types d p hyper types lawful root has =
    let inputs : List FixType = map (type_at d.types) (inports_of d.rows None) in
    let stands : Stands p root.step = step-stands p d hyper root in
    let distinct : AreDistinct (procedure_names p.procedures) =
    AreDistinct-back (pure_names p.pures) (procedure_names p.procedures) lawful.functions in
    let named : has.step.name ≡ root.step.name = has.named ∙ sym (ap (λ (h : Head). h.name) root.step_head) in
    let same : has.step ≡ root.step = one_place p.procedures has.place stands.0 has.step root.step distinct has.there stands.1 named in
    let params : has.step.params ≡ input_params (header_of d None root.profile) =
    ap (λ (q : ProcedureTree). q.params) same ∙ ap (λ (h : Head). h.params) root.step_head in
    subst (λ (ts : List FixType). AllZip IsNarrower ts types) (inputs-are d boolean)
    (all-narrower inputs types (sym (params-typed d root.profile)
    ∙ sym (ap (map (λ (q : ParamTree). fix_type q.type)) params) ∙ has.inputs))
