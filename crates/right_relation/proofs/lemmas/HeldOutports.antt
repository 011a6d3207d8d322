-- An own output is held by the function that gives it, and by no other.
use Rattle.std.specs.Prelude.{◌≡◌, ℕ, zero, suc, ◌+◌, Bool, true, false, ◌==◌, if◌then◌else◌, List, [], ◌∷◌, map, filter, filter_map, find, flat_map, zip, length, slice_get, Contains, IsTrue, Option, Some, None, refl}
use Rattle.std.specs.Option.{option_map_or}
use Rattle.std.specs.List.{cons_option, enumerate_from, range_with_len}
use Rattle.std.proofs.Common.{sym, ap, subst, ◌∙◌, arith, inl, inr}
use Rattle.std.proofs.lemmas.Bool.{eqb-true}
use Rattle.std.proofs.lemmas.List.Elements.{Contains-append_left}
use Rattle.std.proofs.lemmas.Option.{same_Some, none-some}
use Rattle.base_core.specs.declared.Port.{Port}
use Rattle.base_fixed_point.specs.declared.FixType.{FixType}
use Rattle.diagram_blocks.specs.Value.{feeds_through}
use Rattle.diagram_meaning.specs.Rows.{is_system}
use Rattle.diagram_blocks.specs.Kinds.{is_outport, port_of}
use Rattle.modules_profile.specs.declared.ChildUse.{ChildUse}
use Rattle.modules_profile.specs.declared.Function.{Function}
use Rattle.modules_profile.specs.declared.LocalRow.{LocalRow}
use Rattle.modules_profile.specs.declared.Node.{Node}
use Rattle.modules_profile.specs.declared.Node.TheVariants.{Row, Call}
use Rattle.modules_profile.specs.LocalSystem.{LocalSystem}
use Rattle.modules_profile.specs.SystemHeader.{SystemHeader}
use Rattle.base_core.specs.Ports.{bit_of, has_bit}
use Rattle.modules_profile.specs.Headers.{header_function, ports_of_header, taken, given_by_function}
use Rattle.modules_profile.specs.Locals.{row_of, child_of, outports, entering, own_header}
use Rattle.modules_profile.specs.LocalNodes.{used_inputs, node_gives, node_needs, call_nodes, node_list, NodeNeeds, NodeWalk, Holds}
use Rattle.modules_profile.proofs.lemmas.Members.{in-none, in-cases, in-map, of-map, in-filter, of-filter, of-filter_map, found-in, of-range, in-at, at-in, at-map, map-at, of-zip, in-enumerate}
use Rattle.modules_profile.proofs.lemmas.OwnRows.{differ-at, given}
use Rattle.right_relation.specs.SoundLocals.{IsSoundLocal}
use Rattle.right_relation.specs.StandingLaws.{OutportIsHeldAlone}

-- what is found by ports occurs once
found-once : (rows : List LocalRow) (a n i k : ℕ) (o : LocalRow) →
    slice_get (filter_map (λ p. find (λ (r : LocalRow). port_of r.kind == p) rows) (range_with_len a n)) i ≡ Some o →
    slice_get (filter_map (λ p. find (λ (r : LocalRow). port_of r.kind == p) rows) (range_with_len a n)) k ≡ Some o → i ≡ k
found-once rows a zero i k o e f = absurd (none-some o e)
found-once rows a (suc n) i k o e f = by (search a) refl i k e f (λ i k e f. found-once rows (a + 1) n i k o e f)
  where
    search : ℕ → Option LocalRow
    search p = find (λ (r : LocalRow). port_of r.kind == p) rows

    rest : List LocalRow
    rest = filter_map search (range_with_len (a + 1) n)

    not-later : (k : ℕ) → search a ≡ Some o → slice_get rest k ≡ Some o → ⊥
    not-later k here there =
        let later = of-filter_map search (range_with_len (a + 1) n) o (in-at rest k o there) in
        let low = (of-range (a + 1) n later.0 later.1).0 in
        let first : port_of o.kind ≡ a = eqb-true (port_of o.kind) a (found-in (λ (r : LocalRow). port_of r.kind == a) rows o here).1 in
        let second : port_of o.kind ≡ later.0 =
        eqb-true (port_of o.kind) later.0 (found-in (λ (r : LocalRow). port_of r.kind == later.0) rows o later.2).1 in
        omega (arith, low, first, second)

    by : (x : Option LocalRow) → search a ≡ x → (i k : ℕ) → slice_get (cons_option x rest) i ≡ Some o →
        slice_get (cons_option x rest) k ≡ Some o →
        ((i k : ℕ) → slice_get rest i ≡ Some o → slice_get rest k ≡ Some o → i ≡ k) → i ≡ k
    by None is i k e f later = later i k e f
    by (Some x) is zero zero e f later = refl
    by (Some x) is zero (suc k) e f later = absurd (not-later k (is ∙ e) f)
    by (Some x) is (suc i) zero e f later = absurd (not-later i (is ∙ f) e)
    by (Some x) is (suc i) (suc k) e f later = ap suc (later i k e f)

module _ (local : LocalSystem) (sound : IsSoundLocal local) where
  -- own rows of one number are one
  pub one-row : (o p : LocalRow) → Contains local.rows o → Contains local.rows p → o.row ≡ p.row → o ≡ p
  one-row o p here there same =
      let i = at-in local.rows o here in
      let k = at-in local.rows p there in
      let number : LocalRow → ℕ = λ r. r.row in
      let place : i.0 ≡ k.0 = differ-at (map number local.rows) i.0 k.0 p.row sound.lawful.rows_differ
      (at-map number local.rows i.0 o i.1 ∙ ap Some same) (at-map number local.rows k.0 p k.1) in
      same_Some o p (sym i.1 ∙ ap (slice_get local.rows) place ∙ k.1)

  pub outport-row : (o : LocalRow) → Contains (outports local) o → Contains local.rows o
  outport-row o h =
      let rows : List LocalRow = filter (λ (r : LocalRow). is_outport r.kind) local.rows in
      let f = of-filter_map (λ k. find (λ (r : LocalRow). port_of r.kind == k) rows) (range_with_len 1 (length rows)) o h in
      (of-filter (λ (r : LocalRow). is_outport r.kind) local.rows o (found-in (λ (r : LocalRow). port_of r.kind == f.0) rows o f.2).0).0

  one-outport : (i k : ℕ) (o p : LocalRow) → slice_get (outports local) i ≡ Some o → slice_get (outports local) k ≡ Some p → o.row ≡ p.row →
      i ≡ k
  one-outport i k o p here there same =
      let rows : List LocalRow = filter (λ (r : LocalRow). is_outport r.kind) local.rows in
      let one : o ≡ p = one-row o p (outport-row o (in-at (outports local) i o here))
      (outport-row p (in-at (outports local) k p there)) same in
      found-once rows 1 (length rows) i k p (here ∙ ap Some one) there

  -- ---- Nothing needs an own output

  used-input : (feeds : Bool) (inputs : List ℕ) (c : ℕ) → Contains (if feeds then inputs else []) c → Contains inputs c
  used-input true inputs c h = h
  used-input false inputs c h = absurd (in-none c h)

  entered : (u : ChildUse) (j c : ℕ) → Contains (taken u.header j (entering u)) c → Contains (entering u) c
  entered u j c h =
      let test : Port × ℕ → Bool = λ x. has_bit (header_function u.header j).inputs (bit_of x.0) in
      let pairs : List (Port × ℕ) = zip (ports_of_header u.header) (entering u) in
      let m = of-map (λ (x : Port × ℕ). x.1) (filter test pairs) c h in
      let z = of-zip (ports_of_header u.header) (entering u) m.0 (of-filter test pairs m.0 m.1).0 in
      subst (Contains (entering u)) m.2 (in-at (entering u) z.0 m.0.1 z.2)

  not-needed : (o : LocalRow) (x : Node) → Contains (outports local) o → Contains (node_needs local x) o.row → ⊥
  not-needed o (Row b) out h = by (row_of local b) refl h
    where
      by : (r : Option LocalRow) → row_of local b ≡ r → Contains (option_map_or used_inputs r []) o.row → ⊥
      by None e h = in-none o.row h
      by (Some r) e h =
          sound.no_row_reads o r out (found-in (λ (r : LocalRow). r.row == b) local.rows r e).0
          (used-input (feeds_through r.op) r.inputs o.row h)
  not-needed o (Call e j) out h = by (child_of local e) refl h
    where
      by : (u : Option ChildUse) → child_of local e ≡ u → Contains (option_map_or (λ (u : ChildUse). taken u.header j (entering u)) u [])
          o.row → ⊥
      by None is h = in-none o.row h
      by (Some u) is h =
          sound.no_child_reads o u out (found-in (λ (u : ChildUse). is_system u.header.row e) local.children u is).0 (entered u j o.row h)

  row-gives : (b c : ℕ) → Contains (node_gives local (Row b)) c → b ≡ c
  row-gives b c h = by (row_of local b) refl h
    where
      by : (o : Option LocalRow) → row_of local b ≡ o → Contains (option_map_or (λ (r : LocalRow). r.row ∷ []) o []) c → b ≡ c
      by None e h = absurd (in-none c h)
      by (Some r) e h = elim (in-cases r.row c [] h) [
        | inl same ↦ sym (eqb-true r.row b (found-in (λ (r : LocalRow). r.row == b) local.rows r e).1) ∙ same
        | inr more ↦ absurd (in-none c more)
      ]

  needs-none : (o : LocalRow) (y : Node) → Contains (outports local) o → NodeNeeds local y (Row o.row) → ⊥
  needs-none o y out (c, needs, gives) = not-needed o y out (subst (Contains (node_needs local y)) (sym (row-gives o.row c gives)) needs)

  walks-none : (o : LocalRow) (y : Node) (path : List Node) → Contains (outports local) o → NodeWalk local y path (Row o.row) → ⊥
  walks-none o y [] out walk = needs-none o y out walk
  walks-none o y (z ∷ path) out walk = walks-none o z path out walk.1

-- ---- What a function gives

pub gives : (f : Function) (outs : List ℕ) (k q : ℕ) → slice_get outs k ≡ Some q → has_bit f.outputs k ≡ true →
    Contains (given_by_function f outs) q
gives f outs k q e has =
    let same : 0 + k ≡ k = omega arith in
    let test : ℕ × ℕ → Bool = λ e. has_bit f.outputs e.0 in
    in-map (λ (e : ℕ × ℕ). e.1) (filter test (enumerate_from 0 outs)) (k, q)
    (in-filter test (enumerate_from 0 outs) (k, q) (subst (λ i. Contains (enumerate_from 0 outs) (i, q)) same (in-enumerate 0 outs k q e))
    has)

pub outport_is_held_alone : OutportIsHeldAlone
outport_is_held_alone local profile held j k o sound are some below at = (only, itself)
  where
    h : SystemHeader
    h = own_header local profile

    outs : List ℕ
    outs = map (λ (o : ℕ × FixType). o.0) h.outputs

    out : Contains (outports local) o
    out = in-at (outports local) k o at

    node : Contains (node_list local) (Row o.row)
    node =
        Contains-append_left (map (λ (r : LocalRow). Row r.row) local.rows) (flat_map call_nodes local.children) (Row o.row)
        (in-map (λ (r : LocalRow). Row r.row) local.rows o (outport-row local sound o out))

    output : LocalRow → ℕ × FixType
    output r = (r.row, r.out)

    out_at : slice_get outs k ≡ Some o.row
    out_at = at-map (λ (o : ℕ × FixType). o.0) h.outputs k (output o) (at-map output (outports local) k o at)

    place : (i q : ℕ) → slice_get outs i ≡ Some q → o.row ≡ q → k ≡ i
    place i q e same =
        let p = map-at (λ (o : ℕ × FixType). o.0) h.outputs i q e in
        let r = map-at output (outports local) i p.0 p.1 in
        one-outport local sound k i o r.0 at r.1 (same ∙ sym (ap (λ (o : ℕ × FixType). o.0) r.2 ∙ p.2))

    only : IsTrue (held j (Row o.row)) → IsTrue (has_bit (header_function h j).outputs k)
    only holds = by ((are.nodes j (Row o.row) some below node).0 holds)
      where
        by : Holds local h j (Row o.row) → has_bit (header_function h j).outputs k ≡ true
        by (q, by_function, inl same) =
            let g = given (header_function h j) outs q by_function in
            let number : o.row ≡ q = cc same in
            ap (has_bit (header_function h j).outputs) (place g.0 q g.1 number) ∙ g.2
        by (q, by_function, inr (path, walk)) = absurd (walks-none local sound o (Row q) path out walk)

    itself : IsTrue (has_bit (header_function h j).outputs k) → IsTrue (held j (Row o.row))
    itself has = (are.nodes j (Row o.row) some below node).1 (o.row, gives (header_function h j) outs k o.row out_at has, inl refl)
