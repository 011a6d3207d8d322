-- The procedures that children offer are where the code of the system around them calls them, and take what it passes on.
use Rattle.std.specs.Prelude.{◌≡◌, ℕ, zero, suc, ◌+◌, ◌-◌, ◌%◌, ◌^◌, ◌<◌, ◌≤◌, Bool, true, false, cond, List, [], ◌∷◌, ◌++◌, map, flat_map, filter, zip, take, sum_by, length, slice_get, Contains, Option, Some, None, ℤ, pos, int_le, ◌≤ℤ◌, refl}
use Rattle.std.specs.List.{AllZip, range_with_len}
use Rattle.std.proofs.Common.{sym, ap, subst, ◌∙◌, arith, true≢false}
use Rattle.std.proofs.lemmas.Bool.{eq-eqb, eqb-true, and_from}
use Rattle.std.proofs.lemmas.Int.{ints}
use Rattle.std.proofs.lemmas.List.{length-append, length-map}
use Rattle.std.proofs.lemmas.List.FromFn.{length-range_with_len}
use Rattle.std.proofs.lemmas.List.Sums.{sum_by-cons}
use Rattle.std.proofs.lemmas.Option.{same_Some, none-some}
use Rattle.base_core.specs.declared.base.Port.{Port}
use Rattle.base_fixed_point.specs.declared.types.FixType.{FixType}
use Rattle.diagram_meaning.specs.Rows.{is_system}
use Rattle.modules_profile.specs.declared.local.ChildUse.{ChildUse}
use Rattle.modules_profile.specs.declared.profile.Function.{Function}
use Rattle.modules_profile.specs.LocalSystem.{LocalSystem}
use Rattle.modules_profile.specs.LawfulLocals.{IsLocal}
use Rattle.modules_profile.specs.SystemHeader.{SystemHeader}
use Rattle.modules_profile.specs.Headers.{header_functions, taken_by_function}
use Rattle.modules_profile.specs.Locals.{child_of}
use Rattle.base_core.specs.Ports.{has_bit, bit_of}
use Rattle.modules_profile.proofs.lemmas.Members.{in-at, at-in, at-map, map-at, below-at, of-map, of-filter, of-zip, found-in, finds, number-of}
use Rattle.modules_profile.proofs.lemmas.OwnRows.{differ-at}
use Rattle.c_syntax.specs.declared.code.CType.{CType}
use Rattle.c_syntax.specs.declared.code.CType.TheVariants.{I32}
use Rattle.c_syntax.specs.Tree.{ParamTree}
use Rattle.c_semantics.specs.Machine.{Routine, routine_at, no_routine}
use Rattle.c_semantics.specs.Values.{is_in_type, least_of, greatest_of}
use Rattle.emit_shape.specs.Heads.{out_head, out_heads}
use Rattle.emit_shape.specs.Names.{container}
use Rattle.right_relation.specs.LocalTicks.{LocalTick}
use Rattle.right_relation.specs.Instances.{Act, out, update, reset, InstanceTick, instance_at, Offered, nothing_offered, Offer, offered_for}
use Rattle.right_relation.specs.Relation.{offered_routines, children_routines, ChildrenServe}
use Rattle.right_relation.specs.Serving.{Takes, IsOfferOf, Serves}
use Rattle.right_relation.specs.Standing.{child_tick_of}
use Rattle.right_system_nodes.proofs.lemmas.SlotLists.{left-at, right-at, index-or-at, zip-at, zip-long}

-- ---- The child at a place

system-row : (o : Option ℕ) (e : ℕ) → is_system o e ≡ true → o ≡ Some e
system-row None e is = absurd (true≢false (sym is))
system-row (Some s) e is = ap Some (eqb-true s e is)

module _ (local : LocalSystem) (lawful : IsLocal local) where
  row-number : (k e : ℕ) (u : ChildUse) → slice_get local.children k ≡ Some u → u.header.row ≡ Some e →
      slice_get lawful.numbers k ≡ Some e
  row-number k e u at is =
      let row : slice_get (map (λ (u : ChildUse). u.header.row) local.children) k ≡ Some (Some e) =
      at-map (λ (u : ChildUse). u.header.row) local.children k u at ∙ ap Some is in
      let n = map-at Some lawful.numbers k (Some e) (ap (λ os. slice_get os k) (sym lawful.have_numbers) ∙ row) in
      n.1 ∙ ap Some (same_Some n.0 e n.2)

  -- the child of its row
  pub child-row : (k : ℕ) (u : ChildUse) → slice_get local.children k ≡ Some u →
      (e : ℕ) × (u.header.row ≡ Some e) × (child_of local e ≡ Some u)
  child-row k u at =
      let n = number-of (λ (u : ChildUse). u.header.row) local.children lawful.numbers u lawful.have_numbers
      (in-at local.children k u at) in
      (n.0, n.2, found n.0 n.2)
    where
      found : (e : ℕ) → u.header.row ≡ Some e → child_of local e ≡ Some u
      found e is =
          let passes : is_system u.header.row e ≡ true = ap (λ o. is_system o e) is ∙ eq-eqb e e refl in
          let f = finds (λ (w : ChildUse). is_system w.header.row e) local.children u (in-at local.children k u at) passes in
          let w = found-in (λ (w : ChildUse). is_system w.header.row e) local.children f.0 f.1 in
          let i = at-in local.children f.0 w.0 in
          let same : i.0 ≡ k = differ-at lawful.numbers i.0 k e lawful.children_differ
          (row-number i.0 e f.0 i.1 (system-row f.0.header.row e w.1)) (row-number k e u at is) in
          f.1 ∙ sym i.1 ∙ ap (slice_get local.children) same ∙ at

-- each child serves
pub serves-at : (local : LocalSystem) (m : LocalTick) (cycle : ℕ) (us : List ChildUse) (os : List Offer) (is : List InstanceTick)
    (k : ℕ) (u : ChildUse) (o : Offer) →
    ChildrenServe local m cycle us os is → slice_get us k ≡ Some u → slice_get os k ≡ Some o →
    Serves u.header o cycle (child_tick_of local m u) (instance_at is k)
serves-at local m cycle [] [] [] k u o serve at offer = absurd (none-some u at)
serves-at local m cycle [] [] (i ∷ is) k u o serve at offer = absurd serve
serves-at local m cycle [] (p ∷ os) [] k u o serve at offer = absurd serve
serves-at local m cycle [] (p ∷ os) (i ∷ is) k u o serve at offer = absurd serve
serves-at local m cycle (w ∷ us) [] [] k u o serve at offer = absurd serve
serves-at local m cycle (w ∷ us) [] (i ∷ is) k u o serve at offer = absurd serve
serves-at local m cycle (w ∷ us) (p ∷ os) [] k u o serve at offer = absurd serve
serves-at local m cycle (w ∷ us) (p ∷ os) (i ∷ is) zero u o serve at offer =
    subst (λ q. Serves u.header q cycle (child_tick_of local m u) i) (same_Some p o offer)
    (subst (λ (v : ChildUse). Serves v.header p cycle (child_tick_of local m v) i) (same_Some w u at) serve.0)
serves-at local m cycle (w ∷ us) (p ∷ os) (i ∷ is) (suc k) u o serve at offer =
    serves-at local m cycle us os is k u o serve.1 at offer

-- ---- Procedures by place

-- the procedures of a child
abbrev pub size : ChildUse → ℕ
size u = length (header_functions u.header) + 3

length-outs : (u : ChildUse) (o : Offer) → IsOfferOf u.header o → length o.outs ≡ length (header_functions u.header)
length-outs u o is =
    zip-long Takes o.outs (out_heads u.header) is.outs
    ∙ length-map (range_with_len 1 (length (header_functions u.header))) (out_head u.header)
    ∙ length-range_with_len 1 (length (header_functions u.header))

length-offered : (u : ChildUse) (o : Offer) → IsOfferOf u.header o → length (offered_routines o) ≡ size u
length-offered u o is =
    let a = length-map (o.outs ++ o.update ∷ o.start ∷ o.reset ∷ []) (λ (q : Offered). q.routine) in
    let b = length-append o.outs (o.update ∷ o.start ∷ o.reset ∷ []) in
    let c = length-outs u o is in
    omega (arith, a, b, c)

-- a procedure of the child at place k is after those of the children before it
routine-there : (us : List ChildUse) (os : List Offer) (k i : ℕ) (u : ChildUse) (o : Offer) (q : Routine) →
    AllZip (λ (u : ChildUse) o. IsOfferOf u.header o) us os →
    slice_get us k ≡ Some u → slice_get os k ≡ Some o → slice_get (offered_routines o) i ≡ Some q →
    slice_get (flat_map offered_routines os) (sum_by size (take k us) + i) ≡ Some q
routine-there [] [] k i u o q are at offer has = absurd (none-some u at)
routine-there [] (p ∷ os) k i u o q are at offer has = absurd are
routine-there (w ∷ us) [] k i u o q are at offer has = absurd are
routine-there (w ∷ us) (p ∷ os) zero i u o q are at offer has =
    (let none : sum_by size (take 0 (w ∷ us)) + i ≡ i = omega arith in
    ap (slice_get (offered_routines p ++ flat_map offered_routines os)) none)
    ∙ left-at (offered_routines p) (flat_map offered_routines os) i q
    (ap (λ x. slice_get (offered_routines x) i) (same_Some p o offer) ∙ has)
routine-there (w ∷ us) (p ∷ os) (suc k) i u o q are at offer has =
    let sum = sum_by-cons size w (take k us) in
    let long = length-offered w p are.0 in
    let next : sum_by size (take (suc k) (w ∷ us)) + i ≡ length (offered_routines p) + (sum_by size (take k us) + i) =
    omega (arith, sum, long) in
    ap (slice_get (offered_routines p ++ flat_map offered_routines os)) next
    ∙ right-at (offered_routines p) (flat_map offered_routines os) (sum_by size (take k us) + i) q
    (routine-there us os k i u o q are.1 at offer has)

-- the place of an act's procedure among those of its child, and what the act asks of it
abbrev pub act_place : SystemHeader → Act → ℕ
act_place h (out j) = j - 1
act_place h update = length (header_functions h)
act_place h reset = length (header_functions h) + 2

abbrev pub IsAct : SystemHeader → Act → Type 0
IsAct h (out j) = (0 < j) × (j ≤ length (header_functions h))
IsAct h update = Unit {0}
IsAct h reset = Unit {0}

offered-at : (u : ChildUse) (o : Offer) (act : Act) → IsOfferOf u.header o → IsAct u.header act →
    slice_get (offered_routines o) (act_place u.header act) ≡ Some (offered_for o act).routine
offered-at u o (out j) is act =
    let long = length-outs u o is in
    let low = act.0 in let high = act.1 in
    let q = below-at o.outs (j - 1) (let below : j - 1 < length o.outs = omega (arith, low, high, long) in below) in
    at-map (λ (q : Offered). q.routine) (o.outs ++ o.update ∷ o.start ∷ o.reset ∷ []) (j - 1) q.0
    (left-at o.outs (o.update ∷ o.start ∷ o.reset ∷ []) (j - 1) q.0 q.1)
    ∙ ap (λ (x : Offered). Some x.routine) (sym (index-or-at o.outs (j - 1) nothing_offered q.0 q.1))
offered-at u o update is act =
    let long = length-outs u o is in
    let place : length (header_functions u.header) ≡ length o.outs + 0 = omega (arith, long) in
    ap (slice_get (offered_routines o)) place
    ∙ at-map (λ (q : Offered). q.routine) (o.outs ++ o.update ∷ o.start ∷ o.reset ∷ []) (length o.outs + 0) o.update
    (right-at o.outs (o.update ∷ o.start ∷ o.reset ∷ []) 0 o.update refl)
offered-at u o reset is act =
    let long = length-outs u o is in
    let place : length (header_functions u.header) + 2 ≡ length o.outs + 2 = omega (arith, long) in
    ap (slice_get (offered_routines o)) place
    ∙ at-map (λ (q : Offered). q.routine) (o.outs ++ o.update ∷ o.start ∷ o.reset ∷ []) (length o.outs + 2) o.reset
    (right-at o.outs (o.update ∷ o.start ∷ o.reset ∷ []) 2 o.reset refl)

-- so it is the procedure that the system around it calls
pub routine-is : (us : List ChildUse) (os : List Offer) (own : List Routine) (k : ℕ) (u : ChildUse) (o : Offer) (act : Act) →
    AllZip (λ (u : ChildUse) o. IsOfferOf u.header o) us os → slice_get us k ≡ Some u → slice_get os k ≡ Some o →
    IsAct u.header act →
    routine_at (children_routines os ++ own) (sum_by size (take k us) + act_place u.header act) ≡ (offered_for o act).routine
routine-is us os own k u o act are at offer is_act =
    let is = offer-of us os k are at offer in
    index-or-at (children_routines os ++ own) (sum_by size (take k us) + act_place u.header act) no_routine
    (offered_for o act).routine
    (left-at (children_routines os) own (sum_by size (take k us) + act_place u.header act) (offered_for o act).routine
    (routine-there us os k (act_place u.header act) u o (offered_for o act).routine are at offer (offered-at u o act is is_act)))
  where
    offer-of : (us : List ChildUse) (os : List Offer) (k : ℕ) → AllZip (λ (u : ChildUse) o. IsOfferOf u.header o) us os →
        slice_get us k ≡ Some u → slice_get os k ≡ Some o →
        IsOfferOf u.header o
    offer-of us os k are at offer =
        let z = zip-at (λ (u : ChildUse) o. IsOfferOf u.header o) us os k u are at in
        subst (IsOfferOf u.header) (same_Some z.0 o (sym z.1 ∙ offer)) z.2

-- ---- Arguments

-- numbers of these types
abbrev pub Fit : List CType → List ℤ → Type 0
Fit types values = AllZip (λ type v. is_in_type type v ≡ true) types values

int-le : (a b : ℤ) → a ≤ℤ b → int_le a b ≡ true
int-le a b h = by (int_le a b) refl
  where
    by : (t : Bool) → int_le a b ≡ t → t ≡ true
    by true e = refl
    by false e = absurd (omega (arith, ints, h, e))

pub tick-fits : (t cycle : ℕ) → 0 < cycle → cycle ≤ 2 ^ 30 → is_in_type I32 (pos (t % cycle)) ≡ true
tick-fits t cycle some short =
    let below : t % cycle < cycle = omega (arith, some) in
    and_from _ _ (int-le (least_of I32) (pos (t % cycle)) (omega (arith, ints)))
    (int-le (pos (t % cycle)) (greatest_of I32) (omega (arith, ints, below, short)))

abbrev Contained : FixType → ℤ → Type 0
Contained t v = is_in_type (container t) v ≡ true

module _ (make : Port × FixType → ParamTree) (is : (e : Port × FixType) → (make e).type ≡ container e.1) where
  pub fit-taken : (f : Function) (ports : List Port) (types : List FixType) (values : List ℤ) → AllZip Contained types values →
      Fit (map (λ (q : ParamTree). q.type) (taken_by_function f ports (map make (zip ports types))))
      (taken_by_function f ports values)
  fit-taken f [] types values all = tt
  fit-taken f (p ∷ ports) [] [] all = tt
  fit-taken f (p ∷ ports) [] (v ∷ values) all = absurd all
  fit-taken f (p ∷ ports) (t ∷ types) [] all = absurd all
  fit-taken f (p ∷ ports) (t ∷ types) (v ∷ values) all = by (has_bit f.inputs (bit_of p)) (fit-taken f ports types values all.1)
    where
      by : (b : Bool) → Fit (map (λ (q : ParamTree). q.type) (taken_by_function f ports (map make (zip ports types))))
          (taken_by_function f ports values) →
          Fit (map (λ (q : ParamTree). q.type) (map (λ (e : Port × ParamTree). e.1)
          (cond b ((p, make (p, t)) ∷ filter (λ (e : Port × ParamTree). has_bit f.inputs (bit_of e.0))
          (zip ports (map make (zip ports types)))) (filter (λ (e : Port × ParamTree). has_bit f.inputs (bit_of e.0))
          (zip ports (map make (zip ports types)))))))
          (map (λ (e : Port × ℤ). e.1) (cond b ((p, v) ∷ filter (λ (e : Port × ℤ). has_bit f.inputs (bit_of e.0))
          (zip ports values)) (filter (λ (e : Port × ℤ). has_bit f.inputs (bit_of e.0)) (zip ports values))))
      by true rest = (ap (λ type. is_in_type type v) (is (p, t)) ∙ all.0, rest)
      by false rest = rest

  pub fit-all : (ports : List Port) (types : List FixType) (values : List ℤ) → length ports ≡ length types →
      AllZip Contained types values →
      Fit (map (λ (q : ParamTree). q.type) (map make (zip ports types))) values
  fit-all [] [] [] long all = tt
  fit-all [] [] (v ∷ values) long all = absurd all
  fit-all [] (t ∷ types) values long all = absurd (omega (arith, long))
  fit-all (p ∷ ports) [] values long all = absurd (omega (arith, long))
  fit-all (p ∷ ports) (t ∷ types) [] long all = absurd all
  fit-all (p ∷ ports) (t ∷ types) (v ∷ values) long all =
      (ap (λ type. is_in_type type v) (is (p, t)) ∙ all.0, fit-all ports types values (omega (arith, long)) all.1)

-- what a function takes of other things is what these were
pub taken-map : {A B : Type 0} (g : A → B) (f : Function) (ports : List Port) (xs : List A) →
    taken_by_function f ports (map g xs) ≡ map g (taken_by_function f ports xs)
taken-map g f [] xs = refl
taken-map g f (p ∷ ports) [] = refl
taken-map {A} {B} g f (p ∷ ports) (x ∷ xs) = by (has_bit f.inputs (bit_of p)) (taken-map g f ports xs)
  where
    by : (b : Bool) → taken_by_function f ports (map g xs) ≡ map g (taken_by_function f ports xs) →
        map (λ (e : Port × B). e.1) (cond b ((p, g x) ∷ filter (λ (e : Port × B). has_bit f.inputs (bit_of e.0))
        (zip ports (map g xs))) (filter (λ (e : Port × B). has_bit f.inputs (bit_of e.0)) (zip ports (map g xs))))
        ≡ map g (map (λ (e : Port × A). e.1) (cond b
        ((p, x) ∷ filter (λ (e : Port × A). has_bit f.inputs (bit_of e.0)) (zip ports xs))
        (filter (λ (e : Port × A). has_bit f.inputs (bit_of e.0)) (zip ports xs))))
    by true rest = ap (λ ys. g x ∷ ys) rest
    by false rest = rest

pub of-taken : {A : Type 0} (f : Function) (ports : List Port) (xs : List A) (x : A) → Contains (taken_by_function f ports xs) x →
    Contains xs x
of-taken {A} f ports xs x h =
    let e = of-map (λ (e : Port × A). e.1) (filter (λ (e : Port × A). has_bit f.inputs (bit_of e.0)) (zip ports xs)) x h in
    let z = of-zip ports xs e.0 (of-filter (λ (e : Port × A). has_bit f.inputs (bit_of e.0)) (zip ports xs) e.0 e.1).0 in
    subst (Contains xs) e.2 (in-at xs z.0 e.0.1 z.2)

pub zip-append : {A B : Type 0} (R : A → B → Type 0) (xs zs : List A) (ys ws : List B) → AllZip R xs ys → AllZip R zs ws →
    AllZip R (xs ++ zs) (ys ++ ws)
zip-append R [] zs [] ws all more = more
zip-append R [] zs (y ∷ ys) ws all more = absurd all
zip-append R (x ∷ xs) zs [] ws all more = absurd all
zip-append R (x ∷ xs) zs (y ∷ ys) ws all more = (all.0, zip-append R xs zs ys ws all.1 more)

pub zip-values : {A B C : Type 0} (R : A → C → Type 0) (g : B → C) (xs : List A) (ys : List B) → AllZip R xs (map g ys) →
    AllZip (λ x y. R x (g y)) xs ys
zip-values R g [] [] all = tt
zip-values R g [] (y ∷ ys) all = absurd all
zip-values R g (x ∷ xs) [] all = absurd all
zip-values R g (x ∷ xs) (y ∷ ys) all = (all.0, zip-values R g xs ys all.1)

pub values-zip : {A B C : Type 0} (R : A → C → Type 0) (g : B → C) (xs : List A) (ys : List B) → AllZip (λ x y. R x (g y)) xs ys →
    AllZip R xs (map g ys)
values-zip R g [] [] all = tt
values-zip R g [] (y ∷ ys) all = absurd all
values-zip R g (x ∷ xs) [] all = absurd all
values-zip R g (x ∷ xs) (y ∷ ys) all = (all.0, values-zip R g xs ys all.1)

pub zip-more : {A B : Type 0} (R S : A → B → Type 0) (xs : List A) (ys : List B) → ((x : A) (y : B) → R x y → S x y) →
    AllZip R xs ys → AllZip S xs ys
zip-more R S [] [] more all = tt
zip-more R S [] (y ∷ ys) more all = absurd all
zip-more R S (x ∷ xs) [] more all = absurd all
zip-more R S (x ∷ xs) (y ∷ ys) more all = (more x y all.0, zip-more R S xs ys more all.1)
