-- A call on the instance at a path: what it leaves there, and its calls and stores as they are seen from outside.
use Rattle.std.specs.Prelude.{◌≡◌, ◌⊎◌, ℕ, ◌+◌, ◌<◌, ◌==◌, ◌&&◌, Bool, true, false, cond, List, [], ◌∷◌, ◌++◌, map, filter, Contains, refl}
use Rattle.std.specs.List.{AllByRecursion}
use Rattle.std.proofs.Common.{sym, ap, ap₂, subst, ◌∙◌, inl, inr, true≢false, eq-eqb}
use Rattle.std.proofs.lemmas.List.{map-append}
use Rattle.std.proofs.lemmas.List.Sums.{sum_by-cons, sum_by-append}
use Rattle.c_semantics.specs.Cells.{Cells, object, cell_fields, set_cell, fields_at, cells_at}
use Rattle.c_semantics.specs.CellLaws.{cells_count}
use Rattle.c_semantics.specs.Machine.{LoggedCall, StoredField, After, Outcome, done, stuck, call_under, store_under, in_child, at_path}
use Rattle.c_semantics.proofs.lemmas.CellLaws.{fields_are_set}
use Rattle.modules_profile.proofs.lemmas.Members.{in-none, in-cases}
use Rattle.right_relation.specs.Instances.{same_path, calls_at, stores_at, OnDone}
use Rattle.right_linking.specs.Root.{HasPath}

-- calls, and stores, in the instance at a path as they are seen from outside
abbrev pub calls_under : List ℕ → List LoggedCall → List LoggedCall
calls_under [] log = log
calls_under (f ∷ path) log = map (call_under f) (calls_under path log)

abbrev pub stores_under : List ℕ → List StoredField → List StoredField
stores_under [] stores = stores
stores_under (f ∷ path) stores = map (store_under f) (stores_under path stores)

-- what is done is done with all that follows
pub on-done : (o : Outcome) (P Q : After → Type 0) → ((a : After) → P a → Q a) → OnDone o P → OnDone o Q
on-done (done a) P Q follows h = follows a h
on-done (stuck at cells) P Q follows h = h

-- an execution on the instance at a path leaves there what it leaves by itself
pub record LeavesAt (path : List ℕ) (P : After → Type 0) (b : After) : Type 0 where
  pub inner : After
  pub holds : P inner
  pub there : HasPath path b.cells
  pub cells : cells_at path b.cells ≡ inner.cells
  pub log : b.log ≡ calls_under path inner.log
  pub stores : b.stores ≡ stores_under path inner.stores

in-field : (f : ℕ) (path : List ℕ) (cells : Cells) (P : After → Type 0) → f < cells_count cells → (o : Outcome) →
    OnDone o (LeavesAt path P) →
    OnDone (in_child f cells o) (LeavesAt (f ∷ path) P)
in-field f path cells P below (stuck at inner) h = h
in-field f path cells P below (done a) h =
    let put = fields_are_set cells f (object a.cells) in
    let here : fields_at (set_cell cells f (object a.cells)) f ≡ a.cells = ap cell_fields (put.here below) in
    record {
      inner = h.inner;
      holds = h.holds;
      there = (subst (λ n. f < n) (sym put.count) below, subst (HasPath path) (sym here) h.there);
      cells = ap (cells_at path) here ∙ h.cells;
      log = ap (map (call_under f)) h.log;
      stores = ap (map (store_under f)) h.stores;
    }

pub done-at : (path : List ℕ) (go : Cells → Outcome) (cells : Cells) (P : After → Type 0) → HasPath path cells →
    OnDone (go (cells_at path cells)) P →
    OnDone (at_path path go cells) (LeavesAt path P)
done-at [] go cells P there h =
    on-done (go cells) P (LeavesAt [] P)
    (λ a holds. record { inner = a; holds = holds; there = tt; cells = refl; log = refl; stores = refl }) h
done-at (f ∷ path) go cells P there h =
    in-field f path cells P there.0 (at_path path go (fields_at cells f)) (done-at path go (fields_at cells f) P there.1 h)

-- ---- One after another

pub calls-under-both : (path : List ℕ) (xs ys : List LoggedCall) → calls_under path (xs ++ ys) ≡ calls_under path xs ++ calls_under path ys
calls-under-both [] xs ys = refl
calls-under-both (f ∷ path) xs ys =
    ap (map (call_under f)) (calls-under-both path xs ys) ∙ map-append (call_under f) (calls_under path xs) (calls_under path ys)

pub stores-under-both : (path : List ℕ) (xs ys : List StoredField) →
    stores_under path (xs ++ ys) ≡ stores_under path xs ++ stores_under path ys
stores-under-both [] xs ys = refl
stores-under-both (f ∷ path) xs ys =
    ap (map (store_under f)) (stores-under-both path xs ys) ∙ map-append (store_under f) (stores_under path xs) (stores_under path ys)

pub stores-both : (path : List ℕ) (field : ℕ) (xs ys : List StoredField) →
    stores_at path field (xs ++ ys) ≡ stores_at path field xs + stores_at path field ys
stores-both path field xs ys = sum_by-append (λ st. cond (same_path path st.path && (st.field == field)) 1 0) xs ys

-- ---- What is seen at a path further in

same-front : (f : ℕ) (path other : List ℕ) → same_path (f ∷ path) (f ∷ other) ≡ same_path path other
same-front f path other = ap (λ b. b && same_path path other) (eq-eqb f f refl)

calls-under-one : (f : ℕ) (path : List ℕ) (log : List LoggedCall) → calls_at (f ∷ path) (map (call_under f) log) ≡ calls_at path log
calls-under-one f path [] = refl
calls-under-one f path (c ∷ log) =
    ap (λ b. map (λ (z : LoggedCall). z.procedure)
    (cond b (call_under f c ∷ filter (λ (z : LoggedCall). same_path (f ∷ path) z.path) (map (call_under f) log))
    (filter (λ (z : LoggedCall). same_path (f ∷ path) z.path) (map (call_under f) log)))) (same-front f path c.path)
    ∙ by (same_path path c.path) (calls-under-one f path log)
  where
    by : (b : Bool) → calls_at (f ∷ path) (map (call_under f) log) ≡ calls_at path log →
        map (λ (z : LoggedCall). z.procedure)
        (cond b (call_under f c ∷ filter (λ (z : LoggedCall). same_path (f ∷ path) z.path) (map (call_under f) log))
        (filter (λ (z : LoggedCall). same_path (f ∷ path) z.path) (map (call_under f) log)))
        ≡ map (λ (z : LoggedCall). z.procedure)
        (cond b (c ∷ filter (λ (z : LoggedCall). same_path path z.path) log) (filter (λ (z : LoggedCall). same_path path z.path) log))
    by true rest = ap (λ ks. c.procedure ∷ ks) rest
    by false rest = rest

pub calls-under-at : (path inner : List ℕ) (log : List LoggedCall) → calls_at (path ++ inner) (calls_under path log) ≡ calls_at inner log
calls-under-at [] inner log = refl
calls-under-at (f ∷ path) inner log = calls-under-one f (path ++ inner) (calls_under path log) ∙ calls-under-at path inner log

stores-under-one : (f : ℕ) (path : List ℕ) (field : ℕ) (stores : List StoredField) →
    stores_at (f ∷ path) field (map (store_under f) stores) ≡ stores_at path field stores
stores-under-one f path field [] = refl
stores-under-one f path field (st ∷ stores) =
    sum_by-cons (λ z. cond (same_path (f ∷ path) z.path && (z.field == field)) 1 0) (store_under f st) (map (store_under f) stores)
    ∙ ap₂ (λ b n. cond (b && (st.field == field)) 1 0 + n) (same-front f path st.path) (stores-under-one f path field stores)
    ∙ sym (sum_by-cons (λ z. cond (same_path path z.path && (z.field == field)) 1 0) st stores)

pub stores-under-at : (path inner : List ℕ) (field : ℕ) (stores : List StoredField) →
    stores_at (path ++ inner) field (stores_under path stores) ≡ stores_at inner field stores
stores-under-at [] inner field stores = refl
stores-under-at (f ∷ path) inner field stores =
    stores-under-one f (path ++ inner) field (stores_under path stores) ∙ stores-under-at path inner field stores

-- ---- The paths of calls

made-all : {A B : Type 0} (P : B → Type 0) (f : A → B) (xs : List A) → AllByRecursion (λ x. P (f x)) xs → AllByRecursion P (map f xs)
made-all P f [] all = tt
made-all P f (x ∷ xs) all = (all.0, made-all P f xs all.1)

-- what holds of the paths that lead further in holds of those from outside
pub paths-under : (P : List ℕ → Type 0) (path : List ℕ) (log : List LoggedCall) → AllByRecursion (λ c. P (path ++ c.path)) log →
    AllByRecursion (λ c. P c.path) (calls_under path log)
paths-under P [] log all = all
paths-under P (f ∷ path) log all =
    made-all (λ c. P c.path) (call_under f) (calls_under path log) (paths-under (λ inner. P (f ∷ inner)) path log all)

same-itself : (path : List ℕ) → same_path path path ≡ true
same-itself [] = refl
same-itself (f ∷ path) = same-front f path path ∙ same-itself path

-- a call's path has calls
pub some-at : (c : LoggedCall) (log : List LoggedCall) → Contains log c → calls_at c.path log ≡ [] → ⊥
some-at c [] has none = in-none c has
some-at c (z ∷ log) has none = by (same_path c.path z.path) refl none (in-cases z c log has) (some-at c log)
  where
    by : (b : Bool) → same_path c.path z.path ≡ b →
        map (λ (q : LoggedCall). q.procedure)
        (cond b (z ∷ filter (λ (q : LoggedCall). same_path c.path q.path) log) (filter (λ (q : LoggedCall). same_path c.path q.path) log))
        ≡ [] →
        (z ≡ c) ⊎ Contains log c → (Contains log c → calls_at c.path log ≡ [] → ⊥) → ⊥
    by true e here which later = cc here
    by false e here (inl same) later = true≢false (sym (ap (λ (q : LoggedCall). same_path c.path q.path) same ∙ same-itself c.path) ∙ e)
    by false e here (inr more) later = later more here
