-- The root's ports: its Inports and Outports have the numbers from 1 on, in order.
use Rattle.std.specs.Prelude.{◌≡◌, ℕ, zero, suc, ◌+◌, ◌-◌, ◌<◌, ◌≤◌, Bool, true, ◌==◌, List, [], ◌∷◌, map, filter, filter_map, find, length, slice_get, Option, Some, None, decimal}
use Rattle.std.specs.List.{cons_option, range_with_len}
use Rattle.std.proofs.Common.{refl, sym, ap, ap₂, ◌∙◌, arith, inl, inr}
use Rattle.std.proofs.lemmas.Bool.{eqb-true, cases_lt}
use Rattle.std.proofs.lemmas.Fmt.{decimal_injective}
use Rattle.std.proofs.lemmas.Option.{none-some}
use Rattle.diagram_blocks.specs.declared.Kind.{Kind}
use Rattle.diagram_meaning.specs.declared.table.Row.{Row}
use Rattle.diagram_meaning.specs.Rows.{row_at, rows_of, by_port}
use Rattle.diagram_blocks.specs.Kinds.{port_of}
use Rattle.diagram_meaning.specs.WellFormed.{HasPorts}
use Rattle.modules_profile.specs.declared.LocalRow.{LocalRow}
use Rattle.modules_profile.specs.Locals.{local_row, rows_by_port}
use Rattle.modules_profile.proofs.lemmas.Members.{in-at, map-at, of-map, of-range, found-in}
use Rattle.modules_profile.proofs.lemmas.OwnRows.{by_port_mapped}
use Rattle.modules_profile.proofs.lemmas.PortRows.{of-ports, port-place, port-range, few-ports}
use Rattle.c_syntax.specs.Names.{is_lower}
use Rattle.c_syntax.specs.Lawful.{AreDistinct}
use Rattle.right_linking.specs.Parts.{Parts, diagram, Views}
use Rattle.right_linking.proofs.lemmas.AssembledPlaces.{mapped-length}
use Rattle.right_program_rules.proofs.Lists.{none-has}
use Rattle.right_program_rules.proofs.Texts.{letter-name}

-- ---- What is found of numbers in order

module _ (g : ℕ → Option ℕ) (port : ℕ → ℕ) (is_port : (k b : ℕ) → g k ≡ Some b → port b ≡ k) where
  found-above : (first n i b : ℕ) → slice_get (filter_map g (range_with_len first n)) i ≡ Some b → first ≤ port b
  found-above first zero i b at = absurd (none-some b at)
  found-above first (suc n) i b at = by (g first) refl i at (λ k there. found-above (first + 1) n k b there)
    where
      by : (o : Option ℕ) → g first ≡ o → (i : ℕ) → slice_get (cons_option o (filter_map g (range_with_len (first + 1) n))) i ≡ Some b →
          ((k : ℕ) → slice_get (filter_map g (range_with_len (first + 1) n)) k ≡ Some b → first + 1 ≤ port b) → first ≤ port b
      by None e i at later = let low = later i at in omega (arith, low)
      by (Some x) e zero at later =
          let same : x ≡ b = cc at in
          let is = is_port first x e in
          let moved = ap port same in omega (arith, is, moved)
      by (Some x) e (suc k) at later = let low = later k at in omega (arith, low)

  found-rise : (first n i j b c : ℕ) → slice_get (filter_map g (range_with_len first n)) i ≡ Some b →
      slice_get (filter_map g (range_with_len first n)) j ≡ Some c → i < j → port b < port c
  found-rise first zero i j b c one two less = absurd (none-some b one)
  found-rise first (suc n) i j b c one two less =
      by (g first) refl i j one two less (λ k l here there below. found-rise (first + 1) n k l b c here there below)
    where
      by : (o : Option ℕ) → g first ≡ o → (i j : ℕ) → slice_get (cons_option o (filter_map g (range_with_len (first + 1) n))) i ≡ Some b →
          slice_get (cons_option o (filter_map g (range_with_len (first + 1) n))) j ≡ Some c → i < j →
          ((k l : ℕ) → slice_get (filter_map g (range_with_len (first + 1) n)) k ≡ Some b →
          slice_get (filter_map g (range_with_len (first + 1) n)) l ≡ Some c → k < l → port b < port c) →
          port b < port c
      by None e i j one two less later = later i j one two less
      by (Some x) e i zero one two less later = absurd (omega (arith, less))
      by (Some x) e zero (suc l) one two less later =
          let same : x ≡ b = cc one in
          let is = is_port first x e in
          let moved = ap port same in
          let above = found-above (first + 1) n l c two in omega (arith, is, moved, above)
      by (Some x) e (suc k) (suc l) one two less later = later k l one two (omega (arith, less))

module _ (rows : List Row) (o : Option ℕ) (test : Kind → Bool) (ports : HasPorts rows test o) where
  abbrev port : ℕ → ℕ
  port b = port_of (row_at rows b).kind

  abbrev own : List ℕ
  own = filter (λ b. test (row_at rows b).kind) (rows_of rows o)

  found-port : (k b : ℕ) → find (λ c. port c == k) own ≡ Some b → port b ≡ k
  found-port k b found = eqb-true (port b) k (found-in (λ c. port c == k) own b found).1

  -- the row at place i has the number i + 1
  port-at : (i b : ℕ) → slice_get (by_port rows o test) i ≡ Some b → port b ≡ 1 + i
  port-at i b at =
      let is = of-ports rows o test b (in-at (by_port rows o test) i b at) in
      let some = (port-range rows o test ports b is.0 is.1 is.2).0 in
      let stands = port-place rows o test ports b is.0 is.1 is.2 in
      elim (cases_lt i (port b - 1)) [
        | inl before ↦ absurd (let rise =
            found-rise (λ k. find (λ c. port c == k) own) port found-port 1 (length own) i (port b - 1) b b at stands before in
            omega (arith, rise))
        | inr not_before ↦ elim (cases_lt (port b - 1) i) [
          | inl behind ↦ absurd (let rise =
              found-rise (λ k. find (λ c. port c == k) own) port found-port 1 (length own) (port b - 1) i b b stands at behind in
              omega (arith, rise))
          | inr not_behind ↦ omega (arith, some, not_before, not_behind)
        ]
      ]

range-made : (xs : List ℕ) (first : ℕ) → ((i x : ℕ) → slice_get xs i ≡ Some x → x ≡ first + i) → xs ≡ range_with_len first (length xs)
range-made [] first is = refl
range-made (x ∷ xs) first is =
    let none : first + 0 ≡ first = omega arith in
    ap₂ (λ y ys. y ∷ ys) (is 0 x refl ∙ none)
    (range-made xs (first + 1) (λ i y at. is (suc i) y at ∙ (let next : first + suc i ≡ first + 1 + i = omega arith in next)))

-- ---- Names with numbers

pub numbers-differ : (x first n : ℕ) → is_lower x ≡ true → first + n ≤ 100 → AreDistinct (map (λ k. x ∷ decimal k) (range_with_len first n))
numbers-differ x first zero lower few = tt
numbers-differ x first (suc n) lower few = (
  letter-name x first lower (omega (arith, few)),
  none-has (map (λ k. x ∷ decimal k) (range_with_len (first + 1) n)) (x ∷ decimal first)
      (λ other has same.
      let from = of-map (λ k. x ∷ decimal k) (range_with_len (first + 1) n) other has in
      let range = of-range (first + 1) n from.0 from.1 in
      let low = range.0 in
      let high = range.1 in
      let both : x ∷ decimal first ≡ x ∷ decimal from.0 = same ∙ sym from.2 in
      let digits : decimal first ≡ decimal from.0 = cc both in
      let one = decimal_injective first from.0 (omega (arith, few)) (omega (arith, high, few)) digits in
      omega (arith, one, low)),
  numbers-differ x (first + 1) n lower (omega (arith, few)),
)

-- ---- Of the root

abbrev pub row_port : LocalRow → ℕ
row_port r = port_of r.kind

module _ (a : Parts) (v : Views a) (test : Kind → Bool) (ports : HasPorts (diagram a).rows test None) where
  abbrev bs : List ℕ
  bs = by_port (diagram a).rows None test

  root-rows : rows_by_port a.root test ≡ map (local_row (diagram a) a.model.times.delays) bs
  root-rows = ap (λ l. rows_by_port l test) a.can.is_root
      ∙ by_port_mapped (diagram a) a.model.times.delays None a.can.root_view.headers test

  -- the root's rows and those of the system `top` are the same
  pub root-same : rows_by_port a.root test ≡ rows_by_port (v.at None).local test
  root-same =
      let local = (v.each 0 None refl).local in
      root-rows ∙ sym (ap (λ l. rows_by_port l test) local.is_local
      ∙ by_port_mapped (diagram a) a.model.times.delays None local.headers test)

  pub root-few : length (rows_by_port a.root test) ≤ 32
  root-few =
      let most = few-ports (diagram a).rows None test ports in
      let size = ap length root-rows ∙ mapped-length (local_row (diagram a) a.model.times.delays) bs in omega (arith, most, size)

  ports-of : (cs : List ℕ) → map row_port (map (local_row (diagram a) a.model.times.delays) cs) ≡ map
      (λ b. port_of (row_at (diagram a).rows b).kind) cs
  ports-of [] = refl
  ports-of (c ∷ cs) = ap (λ more. port_of (row_at (diagram a).rows c).kind ∷ more) (ports-of cs)

  pub root-ports : map row_port (rows_by_port a.root test) ≡ range_with_len 1 (length (rows_by_port a.root test))
  root-ports =
      let size = ap length root-rows ∙ mapped-length (local_row (diagram a) a.model.times.delays) bs in
      let made = mapped-length (λ b. port_of (row_at (diagram a).rows b).kind) bs in
      ap (map row_port) root-rows ∙ ports-of bs
      ∙ range-made (map (λ b. port_of (row_at (diagram a).rows b).kind) bs) 1
      (λ i x at. let from = map-at (λ b. port_of (row_at (diagram a).rows b).kind) bs i x at in
      sym from.2 ∙ port-at (diagram a).rows None test ports i from.0 from.1)
      ∙ ap (range_with_len 1) (made ∙ sym size)
