-- The nodes of a lawful local system by their places: what each needs and gives.
use Rattle.std.specs.Prelude.{◌≡◌, ℕ, zero, suc, ◌+◌, ◌<◌, ◌==◌, cond, List, [], ◌∷◌, ◌++◌, map, flat_map, find, length, slice_get, get_or, Contains, Option, Some, refl, option_map}
use Rattle.std.specs.Option.{option_map_or}
use Rattle.std.specs.List.{range_with_len}
use Rattle.std.proofs.Common.{sym, ap, ap₂, ◌∙◌, arith}
use Rattle.std.proofs.lemmas.Bool.{eq-eqb, ne_eqb}
use Rattle.std.proofs.lemmas.List.{map-append, length-map, get_or-map, get_or_default, same_lists}
use Rattle.std.proofs.lemmas.List.FromFn.{length-range_with_len, get_or-range_with_len}
use Rattle.std.proofs.lemmas.Option.{slice_get-map}
use Rattle.modules_clusters.specs.Grouping.{AreDifferent}
use Rattle.modules_profile.specs.declared.local.ChildUse.{ChildUse}
use Rattle.modules_profile.specs.declared.local.LocalRow.{LocalRow}
use Rattle.modules_profile.specs.declared.node_wires.NodeWires.{NodeWires}
use Rattle.modules_profile.specs.declared.nodes.Node.{Node}
use Rattle.modules_profile.specs.declared.nodes.Node.TheVariants.{Row, Call}
use Rattle.modules_profile.specs.declared.profile.Function.{Function}
use Rattle.modules_profile.specs.LocalSystem.{LocalSystem}
use Rattle.modules_profile.specs.Headers.{header_functions, idle_function, numbered_function}
use Rattle.modules_profile.specs.Locals.{row_of, child_of}
use Rattle.modules_profile.specs.LocalNodes.{calls_of, call_nodes, node_list, node_needs, node_gives}
use Rattle.modules_profile.specs.NodeWires.{wires_of_row, wires_of_call, wires_of_calls, wires_of_nodes}
use Rattle.modules_profile.specs.LawfulLocals.{IsLocal}
use Rattle.modules_profile.proofs.ChildNumbers.{found-numbered}
use Rattle.modules_profile.proofs.lemmas.Members.{number-of}

-- ---- Members of a list

pub first-member : {A : Type 0} (x : A) (xs : List A) → Contains (x ∷ xs) x
first-member x xs = (0, omega arith, refl)

pub later-member : {A : Type 0} (x y : A) (xs : List A) → Contains xs y → Contains (x ∷ xs) y
later-member x y xs (k, below, is) = (suc k, omega (arith, below), is)

pub map-same : {A B : Type 0} (f g : A → B) (xs : List A) → ((x : A) → Contains xs x → f x ≡ g x) → map f xs ≡ map g xs
map-same f g [] same = refl
map-same f g (x ∷ xs) same = ap₂ ◌∷◌ (same x (first-member x xs)) (map-same f g xs (λ y h. same y (later-member x y xs h)))

pub map-flat : {A B C : Type 0} (h : B → C) (f : A → List B) (g : A → List C) (xs : List A) →
    ((x : A) → Contains xs x → map h (f x) ≡ g x) → map h (flat_map f xs) ≡ flat_map g xs
map-flat h f g [] same = refl
map-flat h f g (x ∷ xs) same =
    map-append h (f x) (flat_map f xs) ∙ ap₂ ◌++◌ (same x (first-member x xs)) (map-flat h f g xs (λ y m. same y (later-member x y xs m)))

-- ---- Members with keys of their own

-- no two members have one key
abbrev pub KeysDiffer : {A : Type 0} → (A → ℕ) → List A → Type 0
KeysDiffer key xs = AreDifferent (map key xs)

pub keys-later : {A : Type 0} (key : A → ℕ) (x : A) (xs : List A) → KeysDiffer key (x ∷ xs) → KeysDiffer key xs
keys-later key x xs differ i j less below = differ (suc i) (suc j) (omega arith) (omega arith)

pub key-apart : {A : Type 0} (key : A → ℕ) (x y : A) (xs : List A) → KeysDiffer key (x ∷ xs) → Contains xs y → key x ≡ key y → ⊥
key-apart key x y xs differ (k, below, is) same =
    differ 0 (suc k) (omega arith) (let l = length-map xs key in omega (arith, l, below))
    (same ∙ sym (get_or-map key xs k y 0 below ∙ ap key is))

pub found-self : {A : Type 0} (key : A → ℕ) (xs : List A) (x : A) → KeysDiffer key xs → Contains xs x →
    find (λ y. key y == key x) xs ≡ Some x
found-self key [] x differ (k, below, is) = absurd (omega (arith, below))
found-self key (y ∷ xs) x differ (zero, below, is) =
    ap (λ t. cond t (Some y) (find (λ z. key z == key x) xs)) (eq-eqb (key y) (key x) (ap key is)) ∙ ap Some is
found-self key (y ∷ xs) x differ (suc k, below, is) =
    let later : Contains xs x = (k, omega (arith, below), is) in
    ap (λ t. cond t (Some y) (find (λ z. key z == key x) xs)) (ne_eqb (key y) (key x) (key-apart key y x xs differ later))
    ∙ found-self key xs x (keys-later key y xs differ) later

-- ---- Functions by number

pub numbered-all : (fs : List Function) → map (numbered_function fs) (range_with_len 1 (length fs)) ≡ fs
numbered-all fs = same_lists (map (numbered_function fs) (range_with_len 1 (length fs))) fs long each
  where
    long : length (map (numbered_function fs) (range_with_len 1 (length fs))) ≡ length fs
    long = length-map (range_with_len 1 (length fs)) (numbered_function fs) ∙ length-range_with_len 1 (length fs)

    each : (k : ℕ) (d : Function) → k < length (map (numbered_function fs) (range_with_len 1 (length fs))) →
        get_or (map (numbered_function fs) (range_with_len 1 (length fs))) k d ≡ get_or fs k d
    each k d below =
        let inside : k < length fs = omega (arith, below, long) in
        let many : k < length (range_with_len 1 (length fs)) = let l = length-range_with_len 1 (length fs) in omega (arith, inside, l) in
        let number : get_or (range_with_len 1 (length fs)) k 0 ≡ 1 + k = get_or-range_with_len 1 (length fs) k 0 inside in
        let place : get_or (range_with_len 1 (length fs)) k 0 ≡ suc k = omega (arith, number) in
        get_or-map (numbered_function fs) (range_with_len 1 (length fs)) k 0 d many ∙ ap (numbered_function fs) place
        ∙ get_or_default fs k idle_function d inside

map-map : {A B C : Type 0} (g : B → C) (f : A → B) (xs : List A) → map g (map f xs) ≡ map (λ x. g (f x)) xs
map-map g f [] = refl
map-map g f (x ∷ xs) = ap (λ ys. g (f x) ∷ ys) (map-map g f xs)

-- ---- What the nodes need and give

abbrev made : List ℕ → List ℕ → NodeWires
made needs gives = record { needs = needs; gives = gives }

-- what a node needs and gives
abbrev pub wires_at : LocalSystem → Node → NodeWires
wires_at local x = record { needs = node_needs local x; gives = node_gives local x }

module _ (local : LocalSystem) (is : IsLocal local) where
  pub found-row : (r : LocalRow) → Contains local.rows r → row_of local r.row ≡ Some r
  found-row r h = found-self (λ (q : LocalRow). q.row) local.rows r is.rows_differ h

  pub found-child : (u : ChildUse) (e : ℕ) → Contains local.children u → u.header.row ≡ Some e → child_of local e ≡ Some u
  found-child u e h row =
      found-numbered (λ (v : ChildUse). v.header.row) local.children is.numbers u e is.have_numbers is.children_differ h row

  row-wires : (r : LocalRow) → Contains local.rows r → wires_at local (Row r.row) ≡ wires_of_row r
  row-wires r h =
      ap (λ (o : Option LocalRow). made (option_map_or (λ q. (wires_of_row q).needs) o [])
      (option_map_or (λ q. (wires_of_row q).gives) o [])) (found-row r h)

  call-wires : (u : ChildUse) (e j : ℕ) → Contains local.children u → u.header.row ≡ Some e →
      wires_at local (Call e j) ≡ wires_of_call u (numbered_function (header_functions u.header) j)
  call-wires u e j h row =
      ap (λ (o : Option ChildUse). made
      (option_map_or (λ v. (wires_of_call v (numbered_function (header_functions v.header) j)).needs) o [])
      (option_map_or (λ v. (wires_of_call v (numbered_function (header_functions v.header) j)).gives) o [])) (found-child u e h row)

  calls-wires : (u : ChildUse) → Contains local.children u → map (wires_at local) (call_nodes u) ≡ wires_of_calls u
  calls-wires u h =
      let fs = header_functions u.header in
      let n = number-of (λ (v : ChildUse). v.header.row) local.children is.numbers u is.have_numbers h in
      ap (λ o. map (wires_at local) (calls_of o (length fs))) n.2 ∙ map-map (wires_at local) (Call n.0) (range_with_len 1 (length fs))
      ∙ map-same (λ j. wires_at local (Call n.0 j)) (λ j. wires_of_call u (numbered_function fs j)) (range_with_len 1 (length fs))
      (λ j m. call-wires u n.0 j h n.2)
      ∙ sym (map-map (wires_of_call u) (numbered_function fs) (range_with_len 1 (length fs))) ∙ ap (map (wires_of_call u)) (numbered-all fs)

  pub wires-are : map (wires_at local) (node_list local) ≡ wires_of_nodes local
  wires-are =
      map-append (wires_at local) (map (λ (r : LocalRow). Row r.row) local.rows) (flat_map call_nodes local.children)
      ∙ ap₂ ◌++◌ (map-map (wires_at local) (λ (r : LocalRow). Row r.row) local.rows
      ∙ map-same (λ (r : LocalRow). wires_at local (Row r.row)) wires_of_row local.rows row-wires)
      (map-flat (wires_at local) call_nodes wires_of_calls local.children calls-wires)

  pub nodes-many : length (wires_of_nodes local) ≡ length (node_list local)
  nodes-many = sym (ap length wires-are) ∙ length-map (node_list local) (wires_at local)

  pub wires-at : (a : ℕ) (x : Node) → slice_get (node_list local) a ≡ Some x → slice_get (wires_of_nodes local) a ≡ Some (wires_at local x)
  wires-at a x h = sym (ap (λ ws. slice_get ws a) wires-are) ∙ slice_get-map (wires_at local) (node_list local) a
      ∙ ap (option_map (wires_at local)) h
