-- The places of a system's own ports among its nodes.
use Rattle.std.specs.Prelude.{◌≡◌, ℕ, zero, suc, ◌+◌, ◌<◌, Bool, true, false, ◌==◌, cond, List, [], ◌∷◌, ◌++◌, map, filter, filter_map, find, flat_map, length, slice_get, get_or, take, Contains, Option, Some, None, refl, option_map, unwrap_or}
use Rattle.std.specs.List.{range_with_len, position_from, enumerate_from, cons_option}
use Rattle.std.proofs.Common.{sym, ap, ap₂, subst, ◌∙◌, arith}
use Rattle.std.proofs.lemmas.Bool.{eq-eqb, ne_eqb}
use Rattle.std.proofs.lemmas.List.{map-append, length-map}
use Rattle.std.proofs.lemmas.List.Elements.{filter-append}
use Rattle.std.proofs.lemmas.Option.{slice_get_within, get_or_from_slice_get, same_Some, none-some}
use Rattle.diagram_blocks.specs.declared.Kind.{Kind}
use Rattle.diagram_blocks.specs.Kinds.{port_of}
use Rattle.modules_profile.specs.declared.local.LocalRow.{LocalRow}
use Rattle.modules_profile.specs.declared.nodes.Node.{Node}
use Rattle.modules_profile.specs.declared.nodes.Node.TheVariants.{Row}
use Rattle.modules_profile.specs.LocalSystem.{LocalSystem}
use Rattle.modules_profile.specs.Locals.{rows_by_port}
use Rattle.modules_profile.specs.LocalNodes.{same_node, call_nodes, node_list}
use Rattle.modules_profile.specs.Places.{ported_places, place_with, places_by_port}
use Rattle.modules_profile.specs.LawfulLocals.{IsLocal}
use Rattle.modules_profile.proofs.EntrySteps.{enumerate-more}
use Rattle.modules_profile.proofs.lemmas.Members.{at-in, in-first, in-rest, of-filter, of-filter_map, found-in}
use Rattle.modules_profile.proofs.NodeLists.{KeysDiffer, keys-later, key-apart}

abbrev passes : (Kind → Bool) → ℕ × LocalRow → Bool
passes test e = test e.1.kind

abbrev number : ℕ × LocalRow → ℕ × ℕ
number e = (e.0, port_of e.1.kind)

abbrev keep : (Kind → Bool) → List (ℕ × LocalRow) → List (ℕ × ℕ)
keep test es = map number (filter (passes test) es)

last : (i : ℕ) (r : LocalRow) (u t : Bool) → u ≡ t → map number (cond u ((i, r) ∷ []) []) ≡ cond t ((i, port_of r.kind) ∷ []) []
last i r true t e = ap (λ s. cond s ((i, port_of r.kind) ∷ []) []) e
last i r false t e = ap (λ s. cond s ((i, port_of r.kind) ∷ []) []) e

-- one row more
pub ported-more : (test : Kind → Bool) (rows : List LocalRow) (i : ℕ) (r : LocalRow) (t : Bool) → i < length rows →
    r ≡ get_or rows i r → test r.kind ≡ t →
    ported_places test (take (i + 1) rows) ≡ ported_places test (take i rows) ++ cond t ((i, port_of r.kind) ∷ []) []
ported-more test rows i r t inside read told =
    ap (keep test) (enumerate-more rows i r inside ∙ ap (λ (q : LocalRow). enumerate_from 0 (take i rows) ++ (i, q) ∷ []) (sym read))
    ∙ ap (map number) (filter-append (passes test) (enumerate_from 0 (take i rows)) ((i, r) ∷ []))
    ∙ map-append number (filter (passes test) (enumerate_from 0 (take i rows))) (filter (passes test) ((i, r) ∷ []))
    ∙ ap (λ es. ported_places test (take i rows) ++ es) (last i r (test r.kind) t told)

-- ---- Where an own row is among the nodes

pub own-position : (rows : List LocalRow) (tail : List Node) (n i : ℕ) (r : LocalRow) → KeysDiffer (λ q. q.row) rows →
    slice_get rows i ≡ Some r →
    position_from (same_node (Row r.row)) n (map (λ (q : LocalRow). Row q.row) rows ++ tail) ≡ Some (n + i)
own-position [] tail n i r differ at = absurd (none-some r at)
own-position (q ∷ rows) tail n zero r differ at =
    ap (λ t.
    cond t (Some n)
    (position_from (same_node (Row r.row)) (n + 1) (map (λ (q : LocalRow). Row q.row) rows ++ tail)))
    (eq-eqb r.row q.row (ap (λ (p : LocalRow). p.row) (sym (same_Some q r at))))
    ∙ (let here : n ≡ n + 0 = omega arith in ap Some here)
own-position (q ∷ rows) tail n (suc i) r differ at =
    let later : Contains rows r = (i, slice_get_within rows i r at, get_or_from_slice_get rows i r r at) in
    ap (λ t. cond t (Some n) (position_from (same_node (Row r.row)) (n + 1) (map (λ (q : LocalRow). Row q.row) rows ++ tail)))
    (ne_eqb r.row q.row (λ same. key-apart (λ (p : LocalRow). p.row) q r rows differ later (sym same)))
    ∙ own-position rows tail (n + 1) i r (keys-later (λ (p : LocalRow). p.row) q rows differ) at
    ∙ (let here : n + 1 + i ≡ n + suc i = omega arith in ap Some here)

-- ---- By port

abbrev first_place : (Kind → Bool) → ℕ → ℕ → List LocalRow → Option ℕ
first_place test n k rows = option_map (λ (e : ℕ × ℕ). e.0) (find (λ (e : ℕ × ℕ). e.1 == k) (keep test (enumerate_from n rows)))

abbrev first_row : (Kind → Bool) → ℕ → List LocalRow → Option LocalRow
first_row test k rows = find (λ (r : LocalRow). port_of r.kind == k) (filter (λ (r : LocalRow). test r.kind) rows)

-- one row before
abbrev place_before : Bool → Bool → ℕ → Option ℕ → Option ℕ
place_before t p n rest = cond t (cond p (Some n) rest) rest

abbrev row_before : Bool → Bool → LocalRow → Option LocalRow → Option LocalRow
row_before t p r rest = cond t (cond p (Some r) rest) rest

place-step : (test : Kind → Bool) (n k : ℕ) (r : LocalRow) (rows : List LocalRow) →
    first_place test n k (r ∷ rows)
    ≡ place_before (test r.kind) (port_of r.kind == k) n (first_place test (n + 1) k rows)
place-step test n k r rows = by (test r.kind) (port_of r.kind == k) refl
  where
    by : (t p : Bool) → (port_of r.kind == k) ≡ p →
        option_map (λ (e : ℕ × ℕ). e.0)
        (find (λ (e : ℕ × ℕ). e.1 == k)
        (map number
        (cond t ((n, r) ∷ filter (passes test) (enumerate_from (n + 1) rows))
        (filter (passes test) (enumerate_from (n + 1) rows)))))
        ≡ place_before t p n (first_place test (n + 1) k rows)
    by true true e =
        ap (λ q. option_map (λ (e : ℕ × ℕ). e.0)
        (cond q (Some (n, port_of r.kind)) (find (λ (e : ℕ × ℕ). e.1 == k) (keep test (enumerate_from (n + 1) rows)))))
        e
    by true false e =
        ap (λ q. option_map (λ (e : ℕ × ℕ). e.0)
        (cond q (Some (n, port_of r.kind)) (find (λ (e : ℕ × ℕ). e.1 == k) (keep test (enumerate_from (n + 1) rows)))))
        e
    by false p e = refl

row-step : (test : Kind → Bool) (k : ℕ) (r : LocalRow) (rows : List LocalRow) →
    first_row test k (r ∷ rows) ≡ row_before (test r.kind) (port_of r.kind == k) r (first_row test k rows)
row-step test k r rows = by (test r.kind)
  where
    by : (t : Bool) →
        find (λ (q : LocalRow). port_of q.kind == k)
        (cond t (r ∷ filter (λ (q : LocalRow). test q.kind) rows) (filter (λ (q : LocalRow). test q.kind) rows))
        ≡ row_before t (port_of r.kind == k) r (first_row test k rows)
    by true = refl
    by false = refl

found-place : (test : Kind → Bool) (place : LocalRow → ℕ) (n k : ℕ) (rows : List LocalRow) →
    ((i : ℕ) (r : LocalRow) → slice_get rows i ≡ Some r → place r ≡ n + i) →
    first_place test n k rows ≡ option_map place (first_row test k rows)
found-place test place n k [] stands = refl
found-place test place n k (r ∷ rows) stands =
    place-step test n k r rows
    ∙ ap (place_before (test r.kind) (port_of r.kind == k) n)
    (found-place test place (n + 1) k rows (λ i q at. stands (suc i) q at
    ∙ (let e : n + suc i ≡ n + 1 + i = omega arith in e)))
    ∙ by (test r.kind) (port_of r.kind == k) (first_row test k rows) (stands 0 r refl)
    ∙ ap (option_map place) (sym (row-step test k r rows))
  where
    by : (t p : Bool) (o : Option LocalRow) → place r ≡ n + 0 →
        place_before t p n (option_map place o) ≡ option_map place (row_before t p r o)
    by true true o e = let same : n ≡ place r = omega (arith, e) in ap Some same
    by true false o e = refl
    by false p o e = refl

counted-same : (test : Kind → Bool) (n : ℕ) (rows : List LocalRow) →
    length (filter (λ (e : ℕ × LocalRow). test e.1.kind) (enumerate_from n rows))
    ≡ length (filter (λ (r : LocalRow). test r.kind) rows)
counted-same test n [] = refl
counted-same test n (r ∷ rows) = by (test r.kind) (counted-same test (n + 1) rows)
  where
    by : (t : Bool) → length (filter (λ (e : ℕ × LocalRow). test e.1.kind) (enumerate_from (n + 1) rows)) ≡ length
        (filter (λ (r : LocalRow). test r.kind) rows) →
        length (cond t ((n, r) ∷ filter (λ (e : ℕ × LocalRow). test e.1.kind) (enumerate_from (n + 1) rows))
        (filter (λ (e : ℕ × LocalRow). test e.1.kind) (enumerate_from (n + 1) rows)))
        ≡ length (cond t (r ∷ filter (λ (r : LocalRow). test r.kind) rows) (filter (λ (r : LocalRow). test r.kind) rows))
    by true h = ap suc h
    by false h = h

kept-mapped : {A B : Type 0} (f : ℕ → Option A) (g : A → B) (h : ℕ → Option B) (ks : List ℕ) →
    ((k : ℕ) → h k ≡ option_map g (f k)) → filter_map h ks ≡ map g (filter_map f ks)
kept-mapped f g h [] same = refl
kept-mapped {A} f g h (k ∷ ks) same = ap₂ cons_option (same k) (kept-mapped f g h ks same) ∙ by (f k)
  where
    by : (o : Option A) → cons_option (option_map g o) (map g (filter_map f ks)) ≡ map g (cons_option o (filter_map f ks))
    by None = refl
    by (Some x) = refl

module _ (local : LocalSystem) (is : IsLocal local) (test : Kind → Bool) where
  -- the place of an own row among the nodes
  abbrev pub place : LocalRow → ℕ
  place r = unwrap_or (position_from (same_node (Row r.row)) 0 (node_list local)) 0

  pub own-place : (i : ℕ) (r : LocalRow) → slice_get local.rows i ≡ Some r → place r ≡ i
  own-place i r at =
      ap (λ o. unwrap_or o 0) (own-position local.rows (flat_map call_nodes local.children) 0 i r is.rows_differ at)
      ∙ (let e : 0 + i ≡ i = omega arith in e)

  pub places-are : places_by_port (ported_places test local.rows) ≡ map place (rows_by_port local test)
  places-are =
      let kept : List LocalRow = filter (λ (r : LocalRow). test r.kind) local.rows in
      let many : length (ported_places test local.rows) ≡ length kept =
      length-map (filter (λ (e : ℕ × LocalRow). test e.1.kind) (enumerate_from 0 local.rows))
      (λ (e : ℕ × LocalRow). (e.0, port_of e.1.kind)) ∙ counted-same test 0 local.rows in
      ap (λ n. filter_map (place_with (ported_places test local.rows)) (range_with_len 1 n)) many
      ∙ kept-mapped (λ k. find (λ (r : LocalRow). port_of r.kind == k) kept) place
      (place_with (ported_places test local.rows)) (range_with_len 1 (length kept))
      (λ k. found-place test place 0 k local.rows (λ i r at. own-place i r at ∙ (let e : i ≡ 0 + i = omega arith in e)))

  -- an own port is at its place
  pub stands-at : (r : LocalRow) → Contains (rows_by_port local test) r → slice_get local.rows (place r) ≡ Some r
  stands-at r h =
      let kept : List LocalRow = filter (λ (q : LocalRow). test q.kind) local.rows in
      let f = of-filter_map (λ k. find (λ (q : LocalRow). port_of q.kind == k) kept) (range_with_len 1 (length kept)) r h in
      let m = of-filter (λ (q : LocalRow). test q.kind) local.rows r (found-in (λ (q : LocalRow). port_of q.kind == f.0) kept r f.2).0 in
      let at = at-in local.rows r m.0 in
      subst (λ i. slice_get local.rows i ≡ Some r) (sym (own-place at.0 r at.1)) at.1

  pub places-stand : map Some (map place (rows_by_port local test))
      ≡ map (λ r. position_from (same_node (Row r.row)) 0 (node_list local)) (rows_by_port local test)
  places-stand = by (rows_by_port local test) (λ r h. h)
    where
      by : (rs : List LocalRow) → ((r : LocalRow) → Contains rs r → Contains (rows_by_port local test) r) →
          map Some (map place rs) ≡ map (λ (r : LocalRow). position_from (same_node (Row r.row)) 0 (node_list local)) rs
      by [] each = refl
      by (r ∷ rs) each = ap₂ (λ o os. o ∷ os)
          (sym (own-position local.rows (flat_map call_nodes local.children) 0 (place r) r is.rows_differ
          (stands-at r (each r (in-first r rs)))
          ∙ (let e : 0 + place r ≡ place r = omega arith in ap Some e)))
          (by rs (λ q h. each q (in-rest r q rs h)))
