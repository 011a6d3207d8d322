-- A system's procedure is lawful in the program, as it is by itself among the bare heads of its children.
use Rattle.std.specs.Prelude.{◌≡◌, ℕ, ◌+◌, ◌-◌, ◌<◌, ◌≤◌, true, if◌then◌else◌, List, [], ◌∷◌, ◌++◌, map, take, length, slice_get, slice_index, slice_index_or, Contains, Option, Some, None}
use Rattle.std.specs.Option.{option_map_or}
use Rattle.std.proofs.Common.{refl, sym, ap, subst, ◌∙◌, arith, inl, inr, true≢false}
use Rattle.std.proofs.lemmas.Bool.{lt-ltb, le-ltb, cases_lt}
use Rattle.std.proofs.lemmas.List.{length-append}
use Rattle.std.proofs.lemmas.List.Elements.{Contains-append_left, Contains-append_cases}
use Rattle.std.proofs.lemmas.Option.{get_or_from_slice_get, same_Some}
use Rattle.base_fixed_point.specs.declared.FixType.{FixType}
use Rattle.modules_profile.specs.declared.ChildUse.{ChildUse}
use Rattle.modules_profile.specs.declared.LocalRow.{LocalRow}
use Rattle.modules_profile.specs.SystemHeader.{SystemHeader}
use Rattle.modules_profile.specs.LocalSystem.{LocalSystem}
use Rattle.modules_profile.specs.Locals.{outports}
use Rattle.modules_profile.proofs.lemmas.Members.{of-map, in-at, at-below, below-at, at-map, map-at, at-left, at-right}
use Rattle.c_syntax.specs.declared.Leaf.{Leaf}
use Rattle.c_syntax.specs.declared.Leaf.TheVariants.{Child}
use Rattle.c_syntax.specs.declared.Target.{Target}
use Rattle.c_syntax.specs.declared.Target.TheVariants.{Own as OwnTarget, Child as ChildTarget}
use Rattle.c_syntax.specs.Tree.{FieldTree, StructTree, no_struct, struct_fields, ParamTree, ProcedureTree}
use Rattle.c_syntax.specs.Lawful.{Reach, IsNumberAt, IsArrayAt, IsStructAt, IsLawfulTarget, AreApart, IsLawfulProcedure, pure_names, procedure_names, param_names}
use Rattle.emit_shape.specs.Heads.{Head, head_of, public_heads}
use Rattle.emit_shape.specs.Names.{value_name}
use Rattle.emit_shape.specs.Reads.{CallSite}
use Rattle.emit_shape.specs.Programs.{procedure_place}
use Rattle.emit_shape.specs.Slots.{value, instance, slot_field, counters_in}
use Rattle.emit_shape.specs.SystemTree.{SystemTree}
use Rattle.emit_shape.specs.Relocation.{Relocation, moved_number, moved_procedure}
use Rattle.emit_shape.specs.LocalShape.{callable, local_names, output_in}
use Rattle.emit_shape.specs.Assembled.{code_at, code_named, struct_position, first_procedure, relocation_of}
use Rattle.right_claim.specs.Alone.{bare_struct, bare_procedures, behind_bare, CallsWithin}
use Rattle.right_linking.specs.Parts.{Parts, program_of, all_systems, CodedSystem, coded_header, IsCodedAs, Views}
use Rattle.right_linking.specs.Places.{SystemsHavePlaces}
use Rattle.right_linking.proofs.lemmas.AssembledPlaces.{mapped-length, member, code-is, below-codes, own-procedure}
use Rattle.right_program_rules.specs.Keeping.{OfferedStandByName}
use Rattle.right_program_rules.proofs.Lists.{at-take, of-take, apart-made, apart-of, procedure-at}
use Rattle.right_program_rules.proofs.MovedLaws.{IsLawfulCall, Carries, stmts-lawful}
use Rattle.right_program_rules.proofs.NamedReads.{has_bytes, ReadsNamed, reads-named}
use Rattle.right_program_rules.proofs.BareProcedures.{all_heads, bare-long, IsBare, of-bare, zip-at, moved_field, number-moved, array-moved, struct-moved}
use Rattle.right_program_rules.proofs.ChildPlaces.{IsInstance, instance-at, fields-are}
use Rattle.right_program_rules.proofs.HeadPlaces.{head-place}
use Rattle.right_program_rules.proofs.Positions.{later-first, structs-long}
use Rattle.right_program_rules.proofs.Params.{is_far, param-near, before-far}

module _ (offered : OfferedStandByName) (places : SystemsHavePlaces) (a : Parts) (v : Views a) (place : ℕ) (s : Option ℕ)
    (stands : slice_get (all_systems a) place ≡ Some s) where
  known : IsCodedAs a place s (v.at s)
  known = v.each place s stands

  abbrev local : LocalSystem
  local = (v.at s).local

  abbrev code : SystemTree
  code = (v.at s).code

  -- where the code is by itself, and in the program
  abbrev m : Relocation
  m = behind_bare local code

  abbrev n : Relocation
  n = relocation_of a.codes place

  abbrev bare : List ProcedureTree
  bare = bare_procedures local

  abbrev own : List ProcedureTree
  own = map (moved_procedure m) code.procedures

  abbrev structs_alone : List StructTree
  structs_alone = map bare_struct local.children ++ code.structure ∷ []

  abbrev fields_alone : List FieldTree
  fields_alone = struct_fields structs_alone (length local.children)

  abbrev fields_here : List FieldTree
  fields_here = struct_fields (program_of a).structs (struct_position a.codes place)

  -- ---- Where numbers go

  own-is : n.own ≡ length code.procedures
  own-is = ap (λ (z : SystemTree). length z.procedures) (code-is a place s (v.at s) known)

  pub number-own : (k : ℕ) → k < length code.procedures → moved_number n k ≡ first_procedure a.codes place + k
  number-own k less = ap (λ b. if b then first_procedure a.codes place + k else n.offered (k - n.own))
      (lt-ltb k n.own (omega (arith, own-is, less)))

  pub number-other : (k : ℕ) → length code.procedures ≤ k → moved_number n k ≡ n.offered (k - length code.procedures)
  number-other k more =
      ap (λ b. if b then first_procedure a.codes place + k else n.offered (k - n.own)) (le-ltb k n.own (omega (arith, own-is, more)))
      ∙ ap (λ i. n.offered (k - i)) own-is

  pub alone-own : (k : ℕ) → k < length code.procedures → moved_number m k ≡ length bare + k
  alone-own k less = ap (λ b. if b then length bare + k else k - length code.procedures) (lt-ltb k (length code.procedures) less)

  pub alone-other : (k : ℕ) → length code.procedures ≤ k → moved_number m k ≡ k - length code.procedures
  alone-other k more = ap (λ b. if b then length bare + k else k - length code.procedures) (le-ltb k (length code.procedures) more)

  -- ---- Fields

  alone-fields : fields_alone ≡ code.structure.fields
  alone-fields =
      let long = mapped-length bare_struct local.children in
      let same : length (map bare_struct local.children) + 0 ≡ length local.children = omega (arith, long) in
      ap (λ (d : StructTree). d.fields)
      (get_or_from_slice_get structs_alone (length local.children) code.structure no_struct
      (subst (λ k. slice_get structs_alone k ≡ Some code.structure) same
      (at-right (map bare_struct local.children) (code.structure ∷ []) 0 code.structure refl)))

  here-fields : fields_here ≡ map (moved_field a.codes) code.structure.fields
  here-fields = ap (struct_fields (program_of a).structs) (sym (places a v place s stands).struct) ∙ (places a v place s stands).fields

  numbers : (f : ℕ) → IsNumberAt fields_alone f → IsNumberAt fields_here f
  numbers f is =
      subst (λ fields. IsNumberAt fields f) (sym here-fields)
      (number-moved a.codes code.structure.fields f (subst (λ fields. IsNumberAt fields f) alone-fields is))

  arrays : (f : ℕ) → IsArrayAt fields_alone f → IsArrayAt fields_here f
  arrays f is =
      subst (λ fields. IsArrayAt fields f) (sym here-fields)
      (array-moved a.codes code.structure.fields f (subst (λ fields. IsArrayAt fields f) alone-fields is))

  -- a struct by itself is the instance of a child here
  pub record IsInstanceHere (f k : ℕ) : Type 0 where
    pub field : FieldTree
    pub at : slice_get code.structure.fields f ≡ Some field
    pub instance_of : IsInstance a v place s stands f k field.name
    pub here : IsStructAt fields_here f (struct_position a.codes instance_of.inner_place)

  pub instance-here : (f k : ℕ) → IsStructAt fields_alone f k → IsInstanceHere f k
  instance-here f k is =
      let alone = subst (λ fields. IsStructAt fields f k) alone-fields is in
      let found = instance-at a v place s stands f k alone.0 alone.1 alone.2 in
      record {
        field = alone.0;
        at = alone.1;
        instance_of = found;
        here = subst (λ i. IsStructAt fields_here f (struct_position a.codes i)) found.code
            (subst (λ fields. IsStructAt fields f (struct_position a.codes (code_named a.codes alone.0.name))) (sym here-fields)
            (struct-moved a.codes code.structure.fields f k alone.0 alone.1 alone.2));
      }

  -- ---- Outputs of children

  there : {A : Type 0} (name : A → List ℕ) (o : Option A) → has_bytes (option_map_or name o []) ≡ true → (x : A) × (o ≡ Some x)
  there name None named = absurd (true≢false (sym named))
  there name (Some x) named = (x, refl)

  output-there : (q : ProcedureTree) (f o k : ℕ) (u : ChildUse) → slice_get (v.at s).slots f ≡ Some (instance k u) →
      ReadsNamed (local_names local (v.at s).slots code) q.params (Child f o) → (e : ℕ × FixType) × (slice_get u.header.outputs o ≡ Some e)
  output-there q f o k u slot named =
      there (λ (e : ℕ × FixType). value_name e.0) (slice_get u.header.outputs o)
      (subst (λ z. has_bytes (option_map_or (output_in o) z []) ≡ true) slot named)

  outputs : (q : ProcedureTree) (f o : ℕ) → ReadsNamed (local_names local (v.at s).slots code) q.params (Child f o) → (k : ℕ) →
      IsStructAt fields_alone f k →
      (j : ℕ) × IsStructAt fields_here f j × IsNumberAt (struct_fields (program_of a).structs j) (n.output f o)
  outputs q f o named k is =
      let inst = instance-here f k is in
      let inner = inst.instance_of in
      let u : ChildUse = inner.child in
      let c : CodedSystem = v.at u.header.row in
      let inner_known = v.each inner.inner_place u.header.row inner.inner_stands in
      let output = output-there q f o k u inner.slot named in
      let row = map-at (λ (r : LocalRow). (r.row, r.out)) (outports c.local) o output.0
      (subst (λ (h : SystemHeader). slice_get h.outputs o ≡ Some output.0) inner.header output.1) in
      let stored = zip-at (λ (r : LocalRow) p. slice_get c.slots p ≡ Some (value r))
      (outports c.local) c.code.outputs o row.0 inner_known.shape.places row.1 in
      let field_there : slice_get c.code.structure.fields stored.0 ≡ Some (slot_field (value row.0)) =
      ap (λ fields. slice_get fields stored.0) (fields-are a v inner.inner_place u.header.row inner.inner_stands)
      ∙ at-map slot_field c.slots stored.0 (value row.0) stored.2 in
      let fields_there : struct_fields (program_of a).structs (struct_position a.codes inner.inner_place) ≡ map
      (moved_field a.codes) c.code.structure.fields =
      ap (struct_fields (program_of a).structs) (sym (places a v inner.inner_place u.header.row inner.inner_stands).struct)
      ∙ (places a v inner.inner_place u.header.row inner.inner_stands).fields in
      let name_at : slice_index_or (map (λ (g : FieldTree). g.name) (code_at a.codes place).structure.fields) f [] ≡ inst.field.name =
      ap (λ (z : SystemTree). slice_index_or (map (λ (g : FieldTree). g.name) z.structure.fields) f []) (code-is a place s (v.at s) known)
      ∙ get_or_from_slice_get (map (λ (g : FieldTree). g.name) code.structure.fields) f inst.field.name []
      (at-map (λ (g : FieldTree). g.name) code.structure.fields f inst.field inst.at) in
      let goes : n.output f o ≡ stored.0 =
      ap (λ name. slice_index (code_at a.codes (code_named a.codes name)).outputs o) name_at
      ∙ ap (λ i. slice_index (code_at a.codes i).outputs o) inner.code
      ∙ ap (λ (z : SystemTree). slice_index z.outputs o) (code-is a inner.inner_place u.header.row c inner_known)
      ∙ get_or_from_slice_get c.code.outputs o stored.0 0 stored.1 in (
        struct_position a.codes inner.inner_place,
        inst.here,
        subst (IsNumberAt (struct_fields (program_of a).structs (struct_position a.codes inner.inner_place))) (sym goes)
            (subst (λ fields. IsNumberAt fields stored.0) (sym fields_there)
            (number-moved a.codes c.code.structure.fields stored.0 (slot_field (value row.0), field_there, refl))),
      )

  -- ---- Calls

  -- the procedure of a child that is called
  record IsCallee (inner : ℕ) (head : Head) (k : ℕ) : Type 0 where
    pub procedure : ProcedureTree
    pub at : slice_get (program_of a).procedures k ≡ Some procedure
    pub of_child : procedure.of ≡ struct_position a.codes inner
    pub params : procedure.params ≡ head.params
    pub before : k < first_procedure a.codes place

  child-callee : (inner : ℕ) (t : Option ℕ) (head : Head) → place < inner → slice_get (all_systems a) inner ≡ Some t →
      Contains (public_heads (coded_header (v.at t))) head → IsCallee inner head (procedure_place (program_of a) head.name)
  child-callee inner t head later inner_stands has =
      let h = head-place places a v inner t inner_stands head has in
      let found = h.found in
      let less = at-below (v.at t).code.procedures h.number h.own h.there in
      let order = later-first a.codes place inner (v.at t).code later (v.each inner t inner_stands).stands in
      record {
        procedure = moved_procedure (relocation_of a.codes inner) h.own;
        at = ap (slice_get (program_of a).procedures) found ∙ own-procedure a v inner t inner_stands h.number h.own h.there;
        of_child = refl;
        params = ap (λ (z : Head). z.params) h.is;
        before = omega (arith, found, less, order);
      }

  module _ (j : ℕ) (q : ProcedureTree) (at : slice_get code.procedures j ≡ Some q) where
    -- what its body reaches by itself, and in the program
    abbrev one : Reach
    one = record {
      pures = a.pures;
      structs = structs_alone;
      procedures = take (length bare + j) (bare ++ own);
      fields = fields_alone;
      params = length q.params;
      of = length local.children;
    }

    abbrev two : Reach
    two = record {
      pures = a.pures;
      structs = (program_of a).structs;
      procedures = take (first_procedure a.codes place + j) (program_of a).procedures;
      fields = fields_here;
      params = length q.params;
      of = struct_position a.codes place;
    }

    -- a call of an own earlier procedure
    call-own : (target : Target) (k values : ℕ) → k < length code.procedures → IsLawfulCall one target (moved_number m k) values →
        IsLawfulCall two target (moved_number n k) values
    call-own target k values less (p, there, on, long) =
        let early = of-take (bare ++ own) (length bare + j) (length bare + k) p
        (ap (slice_get one.procedures) (sym (alone-own k less)) ∙ there) in
        let (r, here) = below-at code.procedures k less in
        let is : moved_procedure m r ≡ p =
        same_Some (moved_procedure m r) p
        (sym (at-right bare own k (moved_procedure m r) (at-map (moved_procedure m) code.procedures k r here)) ∙ early.1) in
        let low : length bare + k < length bare + j = early.0 in (
          moved_procedure n r,
          ap (slice_get two.procedures) (number-own k less)
              ∙ at-take (program_of a).procedures (first_procedure a.codes place + j) (first_procedure a.codes place + k)
              (moved_procedure n r) (omega (arith, low)) (own-procedure a v place s stands k r here),
          on-own target (subst (λ (z : ProcedureTree). IsLawfulTarget one target z.of) (sym is) on),
          ap (λ (z : ProcedureTree). length z.params) is ∙ long,
        )
      where
        on-own : (target : Target) → IsLawfulTarget one target (length local.children) →
            IsLawfulTarget two target (struct_position a.codes place)
        on-own OwnTarget on = refl
        on-own (ChildTarget f) on =
            let inst = instance-here f (length local.children) on in
            let low = at-below local.children (length local.children) inst.instance_of.child inst.instance_of.there in
            absurd (omega (arith, low))

    -- a call of a child's procedure
    call-child : (target : Target) (k values : ℕ) → length code.procedures ≤ k → k < length (callable local code) →
        IsLawfulCall one target (moved_number m k) values → IsLawfulCall two target (moved_number n k) values
    call-child target k values more within (p, there, on, long) =
        let i : ℕ = k - length code.procedures in
        let heads = length-append (map head_of code.procedures) (all_heads local.children) in
        let made = mapped-length head_of code.procedures in
        let count = bare-long 0 local.children in
        let below : i < length bare = omega (arith, heads, made, count, within, more) in
        let early = of-take (bare ++ own) (length bare + j) i p (ap (slice_get one.procedures) (sym (alone-other k more)) ∙ there) in
        let (b, here) = below-at bare i below in
        let same : b ≡ p = same_Some b p (sym (at-left bare own i b here) ∙ early.1) in
        let from = of-bare 0 local.children i p (here ∙ ap Some same) in
        on-child target from (subst (λ (z : ProcedureTree). IsLawfulTarget one target z.of) (sym from.is) on)
        (ap (λ (z : ProcedureTree). length z.params) from.is ∙ long)
      where
        on-child : (target : Target) (from : IsBare 0 local.children (k - length code.procedures) p) →
            IsLawfulTarget one target (0 + from.child_place) →
            length from.head.params ≡ values → IsLawfulCall two target (moved_number n k) values
        on-child OwnTarget from on long =
            let low = at-below local.children from.child_place from.child from.there in
            let same : length local.children ≡ 0 + from.child_place = on in
            absurd (omega (arith, low, same))
        on-child (ChildTarget f) from on long =
            let none : 0 + from.child_place ≡ from.child_place = omega arith in
            let inst = instance-here f from.child_place (subst (IsStructAt fields_alone f) none on) in
            let inner = inst.instance_of in
            let one_child : from.child ≡ inner.child = same_Some from.child inner.child (sym from.there ∙ inner.there) in
            let has = subst (λ (h : SystemHeader). Contains (public_heads h) from.head) inner.header
            (subst (λ (u : ChildUse). Contains (public_heads u.header) from.head) one_child from.has) in
            let callee = child-callee inner.inner_place inner.child.header.row from.head inner.later inner.inner_stands has in
            let number = number-other k more ∙ offered a v place s (k - length code.procedures) from.head stands from.counted in
            let low = callee.before in (
              callee.procedure,
              ap (slice_get two.procedures) number
                  ∙ at-take (program_of a).procedures (first_procedure a.codes place + j)
                  (procedure_place (program_of a) from.head.name) callee.procedure (omega (arith, low)) callee.at,
              subst (IsStructAt fields_here f) (sym callee.of_child) inst.here,
              ap length callee.params ∙ long,
            )

    abbrev IsRead : Leaf → Type 0
    IsRead = ReadsNamed (local_names local (v.at s).slots code) q.params

    abbrev IsCalled : CallSite → Type 0
    IsCalled c = c.procedure < length (callable local code)

    carried : Carries m n one two IsRead IsCalled
    carried = record {
      pures = λ k p there. there;
      params = λ k less. less;
      numbers = numbers;
      arrays = arrays;
      outputs = λ f o named lawful. outputs q f o named lawful.0 lawful.1;
      calls = λ c values called lawful. elim (cases_lt c.procedure (length code.procedures)) [
        | inl less ↦ call-own c.target c.procedure values less lawful
        | inr more ↦ call-child c.target c.procedure values more called lawful
      ];
    }

    alone-lawful : IsLawfulProcedure a.pures structs_alone (take (length bare + j) (bare ++ own)) (moved_procedure m q)
    alone-lawful =
        procedure-at a.pures structs_alone [] (bare ++ own) (known.lawful.procedures a.pures a.prelude) (length bare + j)
        (moved_procedure m q)
        (at-right bare own j (moved_procedure m q) (at-map (moved_procedure m) code.procedures j q at))

    has : Contains code.procedures q
    has = in-at code.procedures j q at

    apart : AreApart (param_names q.params)
        (pure_names a.pures ++ procedure_names (take (first_procedure a.codes place + j) (program_of a).procedures))
    apart =
        apart-made (param_names q.params)
        (pure_names a.pures ++ procedure_names (take (first_procedure a.codes place + j) (program_of a).procedures))
        (λ name mine other. elim (Contains-append_cases (pure_names a.pures)
        (procedure_names (take (first_procedure a.codes place + j) (program_of a).procedures)) name other) [
          | inl pure ↦ apart-of (param_names q.params)
              (pure_names a.pures ++ procedure_names (take (length bare + j) (bare ++ own))) name alone-lawful.apart mine
              (Contains-append_left (pure_names a.pures) (procedure_names (take (length bare + j) (bare ++ own))) name pure)
          | inr procedure ↦
              let param = of-map (λ (p : ParamTree). p.name) q.params name mine in
              true≢false (sym (before-far a v (first_procedure a.codes place + j) name procedure) ∙ ap is_far (sym param.2)
              ∙ param-near a v place s stands q has param.0 param.1)
        ])

    pub own-lawful : IsLawfulProcedure a.pures (program_of a).structs (take (first_procedure a.codes place + j) (program_of a).procedures)
        (moved_procedure n q)
    own-lawful = record {
      of = let long = structs-long a v in let below = below-codes a v place s stands in omega (arith, long, below);
      params = alone-lawful.params;
      apart = apart;
      body = stmts-lawful m n one two IsRead IsCalled carried q.body
          (reads-named (local_names local (v.at s).slots code) local (counters_in (v.at s).slots) q
          (member _ code.procedures q known.shape.rules has))
          (member (CallsWithin local code) code.procedures q known.lawful.calls has) alone-lawful.body;
    }
