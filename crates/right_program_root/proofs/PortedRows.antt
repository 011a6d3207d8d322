-- The rows of the root by their ports: each is at its own, and there are at most 32.
use Rattle.std.specs.Prelude.{◌≡◌, ℕ, suc, ◌+◌, ◌≤◌, Bool, List, [], ◌∷◌, map, length, slice_get, Option, Some, ℤ, refl}
use Rattle.std.specs.List.{range_with_len}
use Rattle.std.proofs.Common.{sym, ap, ap₂, ◌∙◌, arith}
use Rattle.std.proofs.lemmas.List.Sums.{length-filter}
use Rattle.std.proofs.lemmas.Option.{same_Some}
use Rattle.diagram_blocks.specs.declared.Kind.{Kind}
use Rattle.diagram_meaning.specs.Rows.{row_at, rows_of, by_port}
use Rattle.diagram_blocks.specs.Kinds.{port_of}
use Rattle.diagram_meaning.specs.Diagram.{Diagram}
use Rattle.diagram_meaning.specs.WellFormed.{HasPorts}
use Rattle.diagram_meaning.proofs.lemmas.Ports.{ported-at, length-by_port}
use Rattle.modules_profile.specs.declared.LocalRow.{LocalRow}
use Rattle.modules_profile.specs.LocalSystem.{LocalSystem}
use Rattle.modules_profile.specs.SystemHeader.{SystemHeader}
use Rattle.modules_profile.specs.Locals.{local_row, local_of, rows_by_port}
use Rattle.modules_profile.proofs.lemmas.Members.{at-below}
use Rattle.modules_profile.proofs.lemmas.OwnRows.{by_port_mapped}
use Rattle.right_program_root.proofs.NumberedNames.{by-places}

pub map-map : {A B C : Type 0} (g : B → C) (f : A → B) (xs : List A) → map g (map f xs) ≡ map (λ x. g (f x)) xs
map-map g f [] = refl
map-map g f (x ∷ xs) = ap (λ ys. g (f x) ∷ ys) (map-map g f xs)

pub mapped-length : {A B : Type 0} (f : A → B) (xs : List A) → length (map f xs) ≡ length xs
mapped-length f [] = refl
mapped-length f (x ∷ xs) = ap suc (mapped-length f xs)

-- what is at each place, mapped
pub mapped-by : {A : Type 0} (g : ℕ → ℤ) (f : A → ℤ) (k : ℕ) (xs : List A) →
    ((j : ℕ) (x : A) → slice_get xs j ≡ Some x → g (k + j) ≡ f x) → map g (range_with_len k (length xs)) ≡ map f xs
mapped-by g f k [] each = refl
mapped-by g f k (x ∷ xs) each =
    let here : k ≡ k + 0 = omega arith in
    ap₂ (λ z zs. z ∷ zs) (ap g here ∙ each 0 x refl)
    (mapped-by g f (k + 1) xs (λ j y at. let next : k + 1 + j ≡ k + suc j = omega arith in ap g next ∙ each (suc j) y at))

module _ (d : Diagram) (delays : List Bool) (s : Option ℕ) (test : Kind → Bool) (ports : HasPorts d.rows test s) (local : LocalSystem)
    (headers : List SystemHeader)
    (is : local ≡ local_of d delays s headers) where
  pub rows-are : rows_by_port local test ≡ map (local_row d delays) (by_port d.rows s test)
  rows-are = ap (λ l. rows_by_port l test) is ∙ by_port_mapped d delays s headers test

  pub as-many : length (rows_by_port local test) ≡ length (by_port d.rows s test)
  as-many = ap length rows-are ∙ mapped-length (local_row d delays) (by_port d.rows s test)

  pub numbers-are : map (λ (r : LocalRow). r.row) (rows_by_port local test) ≡ by_port d.rows s test
  numbers-are = ap (map (λ (r : LocalRow). r.row)) rows-are ∙ map-map (λ (r : LocalRow). r.row) (local_row d delays)
      (by_port d.rows s test) ∙ same (by_port d.rows s test)
    where
      same : (bs : List ℕ) → map (λ b. b) bs ≡ bs
      same [] = refl
      same (b ∷ bs) = ap (λ cs. b ∷ cs) (same bs)

  pub ports-are : map (λ (r : LocalRow). port_of r.kind) (rows_by_port local test) ≡ range_with_len 1 (length (rows_by_port local test))
  ports-are =
      ap (map (λ (r : LocalRow). port_of r.kind)) rows-are ∙ map-map (λ (r : LocalRow). port_of r.kind) (local_row d delays)
      (by_port d.rows s test)
      ∙ by-places (λ b. port_of (row_at d.rows b).kind) (by_port d.rows s test) 1
      (λ k b at.
      let found = ported-at d.rows test s ports k (at-below (by_port d.rows s test) k b at) in
      let one : found.0 ≡ b = same_Some found.0 b (sym found.1 ∙ at) in
      let number : suc k ≡ 1 + k = omega arith in
      ap (λ c. port_of (row_at d.rows c).kind) (sym one) ∙ found.3 ∙ number)
      ∙ ap (range_with_len 1) (sym as-many)

  pub few-rows : length (rows_by_port local test) ≤ 32
  few-rows =
      let long = length-by_port d.rows test s ports in
      let count = length-filter (λ b. test (row_at d.rows b).kind) (rows_of d.rows s) in
      let most = ports.at_most in
      let same = as-many in
      omega (arith, long, count, most, same)
