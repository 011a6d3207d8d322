-- The nodes of a system at their places among rows and children.
use Rattle.std.specs.Prelude.{◌≡◌, ℕ, zero, suc, ◌+◌, ◌<◌, ◌≤◌, List, [], ◌∷◌, ◌++◌, map, flat_map, length, slice_get, Option, Some, None, refl}
use Rattle.std.specs.Option.{option_map_or}
use Rattle.std.specs.List.{AllZip, range_with_len, enumerate_from}
use Rattle.std.proofs.Common.{subst, arith, add-zero}
use Rattle.std.proofs.lemmas.Option.{same_Some, none-some}
use Rattle.modules_profile.specs.declared.local.ChildUse.{ChildUse}
use Rattle.modules_profile.specs.declared.local.LocalRow.{LocalRow}
use Rattle.modules_profile.specs.declared.nodes.Node.{Node}
use Rattle.modules_profile.specs.declared.nodes.Node.TheVariants as node
use Rattle.modules_profile.specs.LocalSystem.{LocalSystem}
use Rattle.modules_profile.specs.Headers.{header_functions}
use Rattle.modules_profile.specs.LocalNodes.{calls_of, call_nodes, node_list}
use Rattle.emit_system_spec.specs.declared.node.Place.{Place}
use Rattle.emit_system_spec.specs.declared.node.Place.TheVariants.{Row, Call}
use Rattle.emit_system_spec.specs.Places.{call_places, node_places}

-- the node at a place among rows and children
abbrev pub IsPlaceOf : LocalSystem → Place → Node → Type 0
IsPlaceOf local (Row p) y = (r : LocalRow) × (slice_get local.rows p ≡ Some r) × (y ≡ node.Row r.row)
IsPlaceOf local (Call k j) y =
    (u : ChildUse) × (e : ℕ) × (slice_get local.children k ≡ Some u) × (u.header.row ≡ Some e) × (0 < j)
    × (j ≤ length (header_functions u.header)) × (y ≡ node.Call e j)

pub zip-append : {A B : Type 0} (R : A → B → Type 0) (xs : List A) (ys : List B) (vs : List A) (ws : List B) → AllZip R xs ys →
    AllZip R vs ws →
    AllZip R (xs ++ vs) (ys ++ ws)
zip-append R [] [] vs ws first second = second
zip-append R [] (y ∷ ys) vs ws first second = absurd first
zip-append R (x ∷ xs) [] vs ws first second = absurd first
zip-append R (x ∷ xs) (y ∷ ys) vs ws first second = (first.0, zip-append R xs ys vs ws first.1 second)

-- what is beside the second
pub zip-at : {A B : Type 0} (R : A → B → Type 0) (xs : List A) (ys : List B) (n : ℕ) (y : B) → AllZip R xs ys → slice_get ys n ≡ Some y →
    (x : A) × (slice_get xs n ≡ Some x) × R x y
zip-at R [] [] n y all at = absurd (none-some y at)
zip-at R [] (z ∷ ys) n y all at = absurd all
zip-at R (x ∷ xs) [] n y all at = absurd all
zip-at R (x ∷ xs) (z ∷ ys) zero y all at = (x, refl, subst (R x) (same_Some z y at) all.0)
zip-at R (x ∷ xs) (z ∷ ys) (suc n) y all at = zip-at R xs ys n y all.1 at

module _ (local : LocalSystem) where
  rows-zip : (a : ℕ) (rs : List LocalRow) → ((i : ℕ) (r : LocalRow) → slice_get rs i ≡ Some r → slice_get local.rows (a + i) ≡ Some r) →
      AllZip (IsPlaceOf local) (map Row (range_with_len a (length rs))) (map (λ r. node.Row r.row) rs)
  rows-zip a [] stand = tt
  rows-zip a (r ∷ rs) stand = (
    (r, subst (λ n. slice_get local.rows n ≡ Some r) (add-zero a) (stand 0 r refl), refl),
    rows-zip (a + 1) rs (λ i q at. subst (λ n. slice_get local.rows n ≡ Some q) (omega arith) (stand (suc i) q at)),
  )

  calls-zip : (k : ℕ) (u : ChildUse) → slice_get local.children k ≡ Some u → (row : Option ℕ) → u.header.row ≡ row →
      AllZip (IsPlaceOf local)
      (option_map_or (λ e. map (Call k) (range_with_len 1 (length (header_functions u.header)))) row [])
      (calls_of row (length (header_functions u.header)))
  calls-zip k u at None is = tt
  calls-zip k u at (Some e) is = by (length (header_functions u.header)) 1 (omega arith) (omega arith)
    where
      by : (n a : ℕ) → 0 < a → a + n ≤ 1 + length (header_functions u.header) →
          AllZip (IsPlaceOf local) (map (Call k) (range_with_len a n)) (map (node.Call e) (range_with_len a n))
      by zero a some most = tt
      by (suc n) a some most = ((u, e, at, is, some, omega (arith, most), refl), by n (a + 1) (omega arith) (omega (arith, most)))

  children-zip : (a : ℕ) (us : List ChildUse) →
      ((i : ℕ) (u : ChildUse) → slice_get us i ≡ Some u → slice_get local.children (a + i) ≡ Some u) →
      AllZip (IsPlaceOf local) (flat_map call_places (enumerate_from a us)) (flat_map call_nodes us)
  children-zip a [] stand = tt
  children-zip a (u ∷ us) stand =
      zip-append (IsPlaceOf local) (call_places (a, u)) (call_nodes u) (flat_map call_places (enumerate_from (a + 1) us))
      (flat_map call_nodes us)
      (calls-zip a u (subst (λ n. slice_get local.children n ≡ Some u) (add-zero a) (stand 0 u refl)) u.header.row refl)
      (children-zip (a + 1) us (λ i v at. subst (λ n. slice_get local.children n ≡ Some v) (omega arith) (stand (suc i) v at)))

  places-zip : AllZip (IsPlaceOf local) (node_places local) (node_list local)
  places-zip =
      zip-append (IsPlaceOf local) (map Row (range_with_len 0 (length local.rows))) (map (λ r. node.Row r.row) local.rows)
      (flat_map call_places (enumerate_from 0 local.children)) (flat_map call_nodes local.children)
      (rows-zip 0 local.rows (λ i r at. subst (λ n. slice_get local.rows n ≡ Some r) (omega arith) at))
      (children-zip 0 local.children (λ i u at. subst (λ n. slice_get local.children n ≡ Some u) (omega arith) at))

  -- where a node is, there is its place
  pub place-at : (n : ℕ) (y : Node) → slice_get (node_list local) n ≡ Some y →
      (x : Place) × (slice_get (node_places local) n ≡ Some x) × IsPlaceOf local x y
  place-at n y at = zip-at (IsPlaceOf local) (node_places local) (node_list local) n y places-zip at
