-- What the calls of a whole tick of `top` come to, seen from the root.
use Rattle.std.specs.Prelude.{◌≡◌, ℕ, zero, suc, ◌+◌, ◌-◌, ◌<◌, ◌≤◌, Bool, true, false, ◌||◌, ◌&&◌, ◌==◌, cond, List, [], ◌∷◌, ◌++◌, map, filter, length, slice_index_or, Contains, IsTrue, IsPermutation, Option, Some, None, ℤ, refl}
use Rattle.std.specs.List.{AllByRecursion, range_with_len}
use Rattle.std.proofs.Common.{sym, ap, ap₂, subst, ◌∙◌, arith, inl, inr, true≢false}
use Rattle.std.proofs.lemmas.Bool.{eq-eqb, ne_eqb}
use Rattle.std.proofs.lemmas.List.Sorted.{IsPermutation-refl}
use Rattle.std.proofs.lemmas.Option.{get_or_from_slice_get}
use Rattle.diagram_blocks.specs.Meaning.{has_value}
use Rattle.diagram_meaning.specs.declared.table.Row.{Row}
use Rattle.diagram_meaning.specs.Rows.{row_at, rows_of}
use Rattle.diagram_meaning.specs.Laws.{Run}
use Rattle.modules_profile.specs.SystemHeader.{SystemHeader}
use Rattle.modules_profile.specs.Headers.{header_functions}
use Rattle.modules_profile.specs.Systems.{systems_inside}
use Rattle.modules_profile.proofs.lemmas.Members.{in-none, in-first, in-rest, in-cases, in-map, of-map, at-map, at-range}
use Rattle.c_syntax.specs.Tree.{ProgramTree}
use Rattle.c_semantics.specs.Machine.{LoggedCall, StoredField, call_under}
use Rattle.emit_shape.specs.Names.{value_name, out_name, update_name}
use Rattle.emit_shape.specs.Programs.{procedure_place}
use Rattle.emit_shape.specs.Faces.{out_count}
use Rattle.right_relation.specs.Instances.{out, update, none_called, with_called, called_after, OuterTick, InstanceTick, Offered, nothing_offered, Offer, same_path, calls_at, stores_at}
use Rattle.right_relation.specs.Serving.{MayCome, own_entry, Serves}
use Rattle.right_relation.specs.Accounts.{log_along, stored_along}
use Rattle.right_claim.specs.Paths.{place_in, path_inside}
use Rattle.right_claim.specs.Calls.{IsWholeTick, HasCallsOf, StoresOnce, CallsInside, CallsInTick}
use Rattle.right_linking.specs.Parts.{Parts, program_of, diagram, Views}
use Rattle.right_linking.specs.Offers.{program_offer, offered_by}
use Rattle.right_linking.specs.Root.{top_place}
use Rattle.right_linking.specs.Lives.{whole_tick, IsWhole, StoredAtMost, is_around_active}
use Rattle.right_linking.proofs.lemmas.RootPaths.{path-to-top}
use Rattle.right_program_root.proofs.NumberedNames.{each-of}
use Rattle.right_program_root.proofs.PortedRows.{map-map}
use Rattle.right_program_root.proofs.ChildCalls.{AllMay}

-- ---- Calls under a field

pub calls_at-append : (path : List ℕ) (xs ys : List LoggedCall) → calls_at path (xs ++ ys) ≡ calls_at path xs ++ calls_at path ys
calls_at-append path [] ys = refl
calls_at-append path (x ∷ xs) ys = by (same_path path x.path) (calls_at-append path xs ys)
  where
    by : (t : Bool) → calls_at path (xs ++ ys) ≡ calls_at path xs ++ calls_at path ys →
        map (λ (c : LoggedCall). c.procedure)
        (cond t (x ∷ filter (λ (c : LoggedCall). same_path path c.path) (xs ++ ys))
        (filter (λ (c : LoggedCall). same_path path c.path) (xs ++ ys)))
        ≡ map (λ (c : LoggedCall). c.procedure)
        (cond t (x ∷ filter (λ (c : LoggedCall). same_path path c.path) xs) (filter (λ (c : LoggedCall). same_path path c.path) xs))
        ++ calls_at path ys
    by true rest = ap (λ ks. x.procedure ∷ ks) rest
    by false rest = rest

pub calls-under : (f : ℕ) (path : List ℕ) (log : List LoggedCall) → calls_at (f ∷ path) (map (call_under f) log) ≡ calls_at path log
calls-under f path [] = refl
calls-under f path (c ∷ log) =
    ap (λ t. map (λ (z : LoggedCall). z.procedure)
    (cond (t && same_path path c.path) (call_under f c ∷ filter (λ (z : LoggedCall). same_path (f ∷ path) z.path)
    (map (call_under f) log)) (filter (λ (z : LoggedCall). same_path (f ∷ path) z.path) (map (call_under f) log)))) (eq-eqb f f refl)
    ∙ by (same_path path c.path) (calls-under f path log)
  where
    by : (t : Bool) → calls_at (f ∷ path) (map (call_under f) log) ≡ calls_at path log →
        map (λ (z : LoggedCall). z.procedure)
        (cond t (call_under f c ∷ filter (λ (z : LoggedCall). same_path (f ∷ path) z.path) (map (call_under f) log))
        (filter (λ (z : LoggedCall). same_path (f ∷ path) z.path) (map (call_under f) log)))
        ≡ map (λ (z : LoggedCall). z.procedure)
        (cond t (c ∷ filter (λ (z : LoggedCall). same_path path z.path) log) (filter (λ (z : LoggedCall). same_path path z.path) log))
    by true rest = ap (λ ks. c.procedure ∷ ks) rest
    by false rest = rest

same-path : (path : List ℕ) → same_path path path ≡ true
same-path [] = refl
same-path (f ∷ path) = ap (λ t. t && same_path path path) (eq-eqb f f refl) ∙ same-path path

-- a call that is logged is one at its path
there : (log : List LoggedCall) (c : LoggedCall) → Contains log c → calls_at c.path log ≡ [] → ⊥
there [] c has none = in-none c has
there (d ∷ log) c has none = by (same_path c.path d.path) refl (there log c) none
  where
    by : (t : Bool) → same_path c.path d.path ≡ t → (Contains log c → calls_at c.path log ≡ [] → ⊥) →
        map (λ (z : LoggedCall). z.procedure)
        (cond t (d ∷ filter (λ (z : LoggedCall). same_path c.path z.path) log)
        (filter (λ (z : LoggedCall). same_path c.path z.path) log)) ≡ [] → ⊥
    by true is later none_there = cc none_there
    by false is later none_there = elim (in-cases d c log has) [
      | inl same ↦ true≢false (sym (same-path c.path) ∙ ap (λ (z : LoggedCall). same_path c.path z.path) (sym same) ∙ is)
      | inr more ↦ later more none_there
    ]

-- ---- The calls of a tick in order

-- the functions from a on may be called in order, where those before were
pub all-may : (h : SystemHeader) (outer : OuterTick) → IsTrue outer.parent → (a m : ℕ) → 0 < a →
    a + m ≡ suc (length (header_functions h)) → (called : ℕ → Bool) →
    ((j : ℕ) → 0 < j → j < a → called j ≡ true) → ((j : ℕ) → a ≤ j → called j ≡ false) →
    AllMay (MayCome h outer) called (range_with_len a m)
all-may h outer parent a zero some sum called before none = (parent, λ j first last. before j first (omega (arith, sum, last)))
all-may h outer parent a (suc m) some sum called before none = (
  (parent, some, omega (arith, sum), none a (omega arith)),
  all-may h outer parent (a + 1) m (omega arith) (omega (arith, sum)) (with_called called a)
      (λ j first less. by j first less (j == a) refl)
      (λ j more. ap (λ t. t || called j) (ne_eqb j a (λ same. omega (arith, more, same))) ∙ none j (omega (arith, more))),
)
  where
    by : (j : ℕ) → 0 < j → j < a + 1 → (t : Bool) → (j == a) ≡ t → with_called called a j ≡ true
    by j first less true is = ap (λ t. t || called j) is
    by j first less false is = ap (λ t. t || called j) is
        ∙ before j first (let apart = λ (same : j ≡ a). true≢false (sym (eq-eqb j a same) ∙ is) in below j less apart)
      where
        below : (j : ℕ) → j < a + 1 → (j ≡ a → ⊥) → j < a
        below j less apart = omega (arith, less, apart)

-- what they log of themselves
abbrev pub own_all : Offer → List ℕ → List ℕ
own_all o [] = own_entry o update
own_all o (j ∷ js) = own_entry o (out j) ++ own_all o js

pub own-calls : (h : SystemHeader) (o : Offer) (cycle : ℕ) (outer : OuterTick) (i : InstanceTick) → Serves h o cycle outer i →
    (called : ℕ → Bool) (js : List ℕ) →
    AllMay (MayCome h outer) called js → calls_at [] (log_along i called (whole_tick js)) ≡ own_all o js
own-calls h o cycle outer i serves called [] may =
    calls_at-append [] (i.log called update) [] ∙ ap (λ ks. ks ++ []) (serves.logged called update may)
own-calls h o cycle outer i serves called (j ∷ js) may =
    calls_at-append [] (i.log called (out j)) (log_along i (called_after called (out j)) (whole_tick js))
    ∙ ap₂ (λ ks ls. ks ++ ls) (serves.logged called (out j) may.0)
    (own-calls h o cycle outer i serves (called_after called (out j)) js may.1)

-- these are the numbers of the procedures
numbered : (p : ProgramTree) (h : SystemHeader) → h.row ≡ None → (a m : ℕ) → 0 < a → a + m ≡ suc (length (header_functions h)) →
    own_all (program_offer p h) (range_with_len a m) ≡ map (λ j. procedure_place p (out_name None j))
    (range_with_len a m) ++ procedure_place p (update_name None) ∷ []
numbered p h row a zero some sum = ap (λ o. procedure_place p (update_name o) ∷ []) row
numbered p h row a (suc m) some sum =
    let place : 1 + (a - 1) ≡ a = omega (arith, some) in
    ap₂ (λ k ks. k ∷ ks)
    (ap (λ (q : Offered). q.number)
    (get_or_from_slice_get (program_offer p h).outs (a - 1) (offered_by p (out_name h.row (1 + (a - 1)))) nothing_offered
    (at-map (λ j. offered_by p (out_name h.row j)) (range_with_len 1 (length (header_functions h))) (a - 1) (1 + (a - 1))
    (at-range 1 (length (header_functions h)) (a - 1) (omega (arith, some, sum)))))
    ∙ ap₂ (λ o j. procedure_place p (out_name o j)) row place)
    (numbered p h row (a + 1) m (omega arith) (omega (arith, sum)))

-- ---- The tick

all-follow : {A : Type 0} (P Q : A → Type 0) (xs : List A) → ((x : A) → Contains xs x → P x → Q x) → AllByRecursion P xs →
    AllByRecursion Q xs
all-follow P Q [] follows all = tt
all-follow P Q (x ∷ xs) follows all = (follows x (in-first x xs) all.0, all-follow P Q xs (λ y has. follows y (in-rest x y xs has)) all.1)

module _ (a : Parts) (v : Views a) (xs : List (List ℤ)) (run : Run) (t : ℕ) (i : InstanceTick) (js : List ℕ)
    (whole : IsWhole a v None xs run None i t js)
    (log : List LoggedCall) (stores : List StoredField) where
  abbrev p : ProgramTree
  p = program_of a

  abbrev rows : List Row
  rows = (diagram a).rows

  abbrev inner : List LoggedCall
  inner = log_along i none_called (whole_tick js)

  -- where the instances are
  abbrev paths : List (List ℕ)
  paths = (top_place p ∷ []) ∷ map (λ e. top_place p ∷ path_inside p rows None e) (systems_inside rows None)

  module _ (logged : log ≡ map (call_under (top_place p)) inner)
      (stored : (path : List ℕ) (field : ℕ) → stores_at (top_place p ∷ path) field stores ≤ stored_along i none_called
      (whole_tick js) path field) where
    calls-inside : (path : List ℕ) → calls_at (top_place p ∷ path) log ≡ calls_at path inner
    calls-inside path = ap (calls_at (top_place p ∷ path)) logged ∙ calls-under (top_place p) path inner

    once : (path : List ℕ) (o : Option ℕ) → StoredAtMost a v None xs run i (whole_tick js) path o 1 →
        StoresOnce p rows (top_place p ∷ path) o stores
    once path o most =
        all-follow _ _ (filter (λ b. has_value (row_at rows b).kind) (rows_of rows o))
        (λ b has few. let at = stored path (place_in p o (value_name b)) in omega (arith, at, few)) most

    elsewhere : (c : LoggedCall) → Contains inner c → Contains paths (top_place p ∷ c.path)
    elsewhere c has = elim (whole.no_other c.path) [
      | inl none ↦ absurd (there inner c has none)
      | inr listed ↦ subst (λ more. Contains ((top_place p ∷ []) ∷ more) (top_place p ∷ c.path))
          (map-map (λ path. top_place p ∷ path) (path_inside p rows None) (systems_inside rows None))
          (in-map (λ path. top_place p ∷ path) ([] ∷ map (path_inside p rows None) (systems_inside rows None)) c.path listed)
    ]

    pub calls_in_tick : IsWholeTick p None (calls_at [] inner) →
        CallsInTick p (diagram a) (slice_index_or xs t []) (slice_index_or run.values t []) (slice_index_or run.triggers t []) log stores
    calls_in_tick top = record {
      inside = subst (λ path. CallsInside p (diagram a) path None (slice_index_or xs t []) (slice_index_or run.values t [])
          (slice_index_or run.triggers t []) log stores) (sym (path-to-top p rows)) (record {
            each = all-follow _ _ (systems_inside rows None)
                (λ e has calls. subst (HasCallsOf p (Some e) (is_around_active a v None xs run t e))
                (sym (calls-inside (path_inside p rows None e))) calls) whole.calls;
            stored_once = once [] None whole.stored;
            inner_stored_once = all-follow _ _ (systems_inside rows None)
                (λ e has most. once (path_inside p rows None e) (Some e) most) whole.stored_inside;
            no_other = subst (AllByRecursion (λ c. Contains paths c.path)) (sym logged)
                (each-of (λ (c : LoggedCall). Contains paths c.path) (map (call_under (top_place p)) inner)
                (λ c has.
                let made = of-map (call_under (top_place p)) inner c has in
                subst (λ (z : LoggedCall). Contains paths z.path) made.2 (elsewhere made.0 made.1)));
          });
      top = subst (IsWholeTick p None) (sym (ap (λ path. calls_at path log) (path-to-top p rows) ∙ calls-inside [])) top;
    }

-- the calls of a whole tick are one of each function and then the update, where the program shows as many
pub whole-tick : (p : ProgramTree) (h : SystemHeader) → h.row ≡ None → out_count p None ≡ length (header_functions h) →
    (cycle : ℕ) (outer : OuterTick) (i : InstanceTick) →
    Serves h (program_offer p h) cycle outer i → IsTrue outer.parent →
    IsWholeTick p None (calls_at [] (log_along i none_called (whole_tick (range_with_len 1 (length (header_functions h))))))
whole-tick p h row count cycle outer i serves parent = record {
  outs = map (λ j. procedure_place p (out_name None j)) (range_with_len 1 (length (header_functions h)));
  each_once = subst (λ n. IsPermutation (map (λ j. procedure_place p (out_name None j)) (range_with_len 1 n))
      (map (λ j. procedure_place p (out_name None j)) (range_with_len 1 (length (header_functions h)))))
      (sym count) (IsPermutation-refl (map (λ j. procedure_place p (out_name None j)) (range_with_len 1 (length (header_functions h)))));
  then_update =
      own-calls h (program_offer p h) cycle outer i serves none_called (range_with_len 1 (length (header_functions h)))
      (all-may h outer parent 1 (length (header_functions h)) (omega arith) (omega arith) none_called
      (λ j first less. absurd (omega (arith, first, less))) (λ j more. refl))
      ∙ numbered p h row 1 (length (header_functions h)) (omega arith) (omega arith);
}
