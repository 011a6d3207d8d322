-- The header that a system has by its own rows is the one that the system around it sees.
use Rattle.std.specs.Prelude.{◌≡◌, ℕ, suc, Bool, true, false, cond, ◌==◌, if◌then◌else◌, List, [], ◌∷◌, map, filter, filter_map, find, length, Option, Some, None, option_map}
use Rattle.std.specs.List.{range_with_len, cons_option}
use Rattle.std.proofs.Common.{refl, ap, ap₂, ◌∙◌}
use Rattle.base_fixed_point.specs.declared.FixType.{FixType}
use Rattle.diagram_blocks.specs.declared.Kind.{Kind}
use Rattle.diagram_meaning.specs.Rows.{row_at, rows_of, by_port, inports_of, outports_of}
use Rattle.diagram_blocks.specs.Kinds.{is_inport, is_outport, port_of}
use Rattle.diagram_meaning.specs.Diagram.{Diagram, type_at}
use Rattle.modules_profile.specs.declared.local.LocalRow.{LocalRow}
use Rattle.modules_profile.specs.SystemHeader.{SystemHeader}
use Rattle.modules_profile.specs.SystemProfile.{SystemProfile}
use Rattle.modules_profile.specs.Headers.{header_of}
use Rattle.modules_profile.specs.Locals.{local_row, local_of, rows_by_port, own_header}
use Rattle.modules_profile.specs.NodeFacts.{HeaderIsOfOwnRows}

-- ---- A list that is mapped

module _ {A B : Type 0} (f : A → B) where
  filter_mapped : (test : B → Bool) (xs : List A) → filter test (map f xs) ≡ map f (filter (λ x. test (f x)) xs)
  filter_mapped test [] = refl
  filter_mapped test (x ∷ xs) = by (test (f x)) (filter_mapped test xs)
    where
      by : (r : Bool) → filter test (map f xs) ≡ map f (filter (λ y. test (f y)) xs) →
          (if r then f x ∷ filter test (map f xs) else filter test (map f xs))
          ≡ map f (if r then x ∷ filter (λ y. test (f y)) xs else filter (λ y. test (f y)) xs)
      by true e = ap (λ ys. f x ∷ ys) e
      by false e = e

  find_mapped : (test : B → Bool) (xs : List A) → find test (map f xs) ≡ option_map f (find (λ x. test (f x)) xs)
  find_mapped test [] = refl
  find_mapped test (x ∷ xs) = by (test (f x)) (find_mapped test xs)
    where
      by : (r : Bool) → find test (map f xs) ≡ option_map f (find (λ y. test (f y)) xs) →
          cond r (Some (f x)) (find test (map f xs)) ≡ option_map f (cond r (Some x) (find (λ y. test (f y)) xs))
      by true e = refl
      by false e = e

  length_mapped : (xs : List A) → length (map f xs) ≡ length xs
  length_mapped [] = refl
  length_mapped (x ∷ xs) = ap suc (length_mapped xs)

  -- what is found of each number, mapped
  found_mapped : (g : ℕ → Option B) (h : ℕ → Option A) → ((k : ℕ) → g k ≡ option_map f (h k)) → (ks : List ℕ) →
      filter_map g ks ≡ map f (filter_map h ks)
  found_mapped g h same [] = refl
  found_mapped g h same (k ∷ ks) = ap₂ cons_option (same k) (found_mapped g h same ks) ∙ by (h k) (filter_map h ks)
    where
      by : (o : Option A) (xs : List A) → cons_option (option_map f o) (map f xs) ≡ map f (cons_option o xs)
      by None xs = refl
      by (Some x) xs = refl

module _ (d : Diagram) (delays : List Bool) (s : Option ℕ) (headers : List SystemHeader) where
  -- the local rows of a kind by port are those of the table
  pub by_port_mapped : (test : Kind → Bool) →
      rows_by_port (local_of d delays s headers) test ≡ map (local_row d delays) (by_port d.rows s test)
  by_port_mapped test =
      found (filter (λ (r : LocalRow). test r.kind) (map (local_row d delays) (rows_of d.rows s)))
      (filter_mapped (local_row d delays) (λ (r : LocalRow). test r.kind) (rows_of d.rows s))
    where
      own : List ℕ
      own = filter (λ b. test (row_at d.rows b).kind) (rows_of d.rows s)

      found : (rows : List LocalRow) → rows ≡ map (local_row d delays) own →
          filter_map (λ k. find (λ (r : LocalRow). port_of r.kind == k) rows) (range_with_len 1 (length rows))
          ≡ map (local_row d delays) (filter_map (λ k. find (λ b. port_of (row_at d.rows b).kind == k) own)
          (range_with_len 1 (length own)))
      found rows e =
          ap (λ (rows : List LocalRow). filter_map (λ k. find (λ (r : LocalRow). port_of r.kind == k) rows)
          (range_with_len 1 (length rows))) e
          ∙ ap (λ n. filter_map (λ k. find (λ (r : LocalRow). port_of r.kind == k) (map (local_row d delays) own))
          (range_with_len 1 n)) (length_mapped (local_row d delays) own)
          ∙ found_mapped (local_row d delays) _ _
          (λ k. find_mapped (local_row d delays) (λ (r : LocalRow). port_of r.kind == k) own)
          (range_with_len 1 (length own))

  types_mapped : (bs : List ℕ) → map (λ (r : LocalRow). r.out) (map (local_row d delays) bs) ≡ map (type_at d.types) bs
  types_mapped [] = refl
  types_mapped (b ∷ bs) = ap (λ types. type_at d.types b ∷ types) (types_mapped bs)

  outputs_mapped : (bs : List ℕ) →
      map {B = ℕ × FixType} (λ (r : LocalRow). (r.row, r.out)) (map (local_row d delays) bs)
      ≡ map {B = ℕ × FixType} (λ o. (o, type_at d.types o)) bs
  outputs_mapped [] = refl
  outputs_mapped (b ∷ bs) = ap (λ outputs. (b, type_at d.types b) ∷ outputs) (outputs_mapped bs)

  header_is_own : (profile : SystemProfile) → own_header (local_of d delays s headers) profile ≡ header_of d s profile
  header_is_own profile =
      ap₂ (λ (inputs : List FixType) (outputs : List (ℕ × FixType)). record {
        row = s;
        control = (header_of d s profile).control;
        inputs = inputs;
        controls = (header_of d s profile).controls;
        outputs = outputs;
        profile = profile;
      })
      (ap (map (λ (r : LocalRow). r.out)) (by_port_mapped is_inport) ∙ types_mapped (inports_of d.rows s))
      (ap (map {B = ℕ × FixType} (λ (r : LocalRow). (r.row, r.out))) (by_port_mapped is_outport) ∙ outputs_mapped (outports_of d.rows s))

pub header_is_of_own_rows : HeaderIsOfOwnRows
header_is_of_own_rows d delays s headers profile = header_is_own d delays s headers profile
