-- One step between nodes is a walk of rows.
use Rattle.std.specs.Prelude.{◌≡◌, ◌⊎◌, ℕ, zero, suc, ◌-◌, ◌<◌, ◌≤◌, Bool, true, false, if◌then◌else◌, List, [], ◌∷◌, ◌++◌, length, slice_get, Contains, IsBitSet, Option, Some, None, refl}
use Rattle.std.proofs.Common.{sym, ap, subst, ◌∙◌, arith, inl, inr, true≢false}
use Rattle.std.proofs.lemmas.Bool.{and_from}
use Rattle.std.proofs.lemmas.List.Elements.{All-from_recursion}
use Rattle.base_core.specs.declared.Port.TheVariants.{Number}
use Rattle.diagram_blocks.specs.Value.{feeds_through}
use Rattle.diagram_meaning.specs.Rows.{row_at, inports_of, outports_of, same_system}
use Rattle.diagram_blocks.specs.Kinds.{is_inport, is_outport, port_of}
use Rattle.diagram_meaning.specs.Diagram.{Diagram, op_at}
use Rattle.diagram_meaning.specs.Needs.{needs_inside, Walk, Reaches, TrueNeeds, IsMaskOf}
use Rattle.diagram_meaning.specs.WellFormed.{IsNested, IsOwner, IsWired, IsWireIn, HasPorts, reading_system}
use Rattle.diagram_meaning.proofs.lemmas.Walks.{walk-snoc}
use Rattle.modules_profile.specs.declared.nodes.Node.{Node}
use Rattle.modules_profile.specs.declared.nodes.Node.TheVariants.{Row, Call}
use Rattle.modules_profile.specs.LocalSystem.{LocalSystem}
use Rattle.modules_profile.specs.SystemHeader.{SystemHeader}
use Rattle.modules_profile.specs.SystemProfile.{SystemProfile}
use Rattle.modules_profile.specs.Headers.{header_of, header_function, taken, given_rows}
use Rattle.modules_profile.specs.Locals.{local_of, child_use, entering}
use Rattle.modules_profile.specs.LocalNodes.{node_gives, node_needs}
use Rattle.modules_profile.specs.NodeFacts.{AreHeaders}
use Rattle.modules_profile.proofs.ChildNeeds.{LeadsTo, IsBefore, IsInsideChild, needs-inward}
use Rattle.modules_profile.proofs.ChildRows.{closed}
use Rattle.modules_profile.proofs.ChildWalks.{walk-inward}
use Rattle.modules_profile.proofs.lemmas.Members.{at-below}
use Rattle.modules_profile.proofs.lemmas.MaskBits.{has-set}
use Rattle.modules_profile.proofs.FunctionRows.{header-needs}
use Rattle.modules_profile.proofs.lemmas.PortRows.{same-self, of-ports, port-place, few-ports}
use Rattle.modules_profile.proofs.ChildPorts.{IsTakenAt, of-taken}
use Rattle.modules_profile.proofs.OwnNodes.{IsChild, of-row-needs, of-row-gives, call-gives, call-needs, child-of-gives}

-- what a resolved model has, and the headers of the children of s
pub record HasLaws (d : Diagram) (s : Option ℕ) (headers : List SystemHeader) : Type 0 where
  pub nested : IsNested d.rows
  pub wired : IsWired d.rows
  pub inports : (o : Option ℕ) → HasPorts d.rows is_inport o
  pub outports : (o : Option ℕ) → HasPorts d.rows is_outport o
  pub copies : (b : ℕ) → b < length d.rows → is_inport (row_at d.rows b).kind ≡ true → feeds_through (op_at d b) ≡ true
  pub are_headers : AreHeaders d s headers

module _ (d : Diagram) (delays : List Bool) (s : Option ℕ) (headers : List SystemHeader) (laws : HasLaws d s headers) where
  abbrev local : LocalSystem
  local = local_of d delays s headers

  -- a child is after the row of the system
  pub before : (e : ℕ) → e < length d.rows → (row_at d.rows e).owner ≡ s → IsBefore s e
  before e below owned = by s (subst (IsOwner d.rows e) owned (laws.nested.owned e below))
    where
      by : (o : Option ℕ) → IsOwner d.rows e o → IsBefore o e
      by None h = tt
      by (Some f) h = h.0

  -- what a row reads is a wire of the system in which it reads
  pub read : (b c : ℕ) → b < length d.rows → Contains (row_at d.rows b).inputs c →
      IsWireIn d.rows (reading_system d.rows (row_at d.rows b).kind (row_at d.rows b).owner) c
  read b c below (k, low, is) =
      subst (IsWireIn d.rows (reading_system d.rows (row_at d.rows b).kind (row_at d.rows b).owner)) is
      (All-from_recursion (IsWireIn d.rows (reading_system d.rows (row_at d.rows b).kind (row_at d.rows b).owner))
      (row_at d.rows b).inputs (laws.wired.wires b below) k c low)

  module _ (e : ℕ) (profile : SystemProfile) (child : IsChild d delays s headers e profile) where
    abbrev header : SystemHeader
    header = header_of d (Some e) profile

    abbrev first : IsBefore s e
    first = before e child.below child.owned

    abbrev Inside : ℕ → Type 0
    Inside x = IsInsideChild d.rows s e child.owned first x

    -- a row of the child is inside it
    pub own-inside : (g : ℕ) → g < length d.rows → (row_at d.rows g).owner ≡ Some e → Inside g
    own-inside g below own = record {
      behind = (subst (IsOwner d.rows g) own (laws.nested.owned g below)).0;
      leads = subst (LeadsTo d.rows e (length d.rows)) (sym own) (by (length d.rows) (omega arith));
    }
      where
        by : (n : ℕ) → 0 < n → LeadsTo d.rows e n (Some e)
        by zero h = absurd (omega arith)
        by (suc n) h = inl refl

    -- what a row inside needs in the child is inside too
    pub stays : (x c : ℕ) → Inside x → Contains (needs_inside d (Some e) x) c → Inside c
    stays x c inside h = closed d laws.nested laws.wired s e child.owned first x c inside h

    -- what a row inside reaches there needs, it reaches in the system around
    steps-to : (g i c : ℕ) → Inside g → Reaches (needs_inside d (Some e)) g i → Contains (needs_inside d s i) c →
        (path : List ℕ) × Walk (needs_inside d s) g path c
    steps-to g i c inside (inl same) step = ([], subst (λ k. Contains (needs_inside d s k) c) (sym same) step)
    steps-to g i c inside (inr (path, walk)) step =
        (path ++ i ∷ [], walk-snoc (needs_inside d s) g path i c (walk-inward d s e child.owned first stays g path i inside walk) step)

    -- an Inport of the child needs the wire that enters it
    inport-needs : (i c : ℕ) → i < length d.rows → (row_at d.rows i).owner ≡ Some e → is_inport (row_at d.rows i).kind ≡ true →
        (row_at d.rows i).inputs ≡ c ∷ [] → Contains (needs_inside d s i) c
    inport-needs i c below own is wire =
        needs-inward d s e child.owned first i (own-inside i below own) c (inr (inl (
          and_from (is_inport (row_at d.rows i).kind) (same_system (row_at d.rows i).owner (Some e)) is
              (ap (λ o. same_system o (Some e)) own ∙ same-self (Some e)),
          by (feeds_through (op_at d i)) (laws.copies i below is),
        )))
      where
        by : (feeds : Bool) → feeds ≡ true → Contains (if feeds then (row_at d.rows i).inputs else []) c
        by true h = subst (λ ws. Contains ws c) (sym wire) (0, omega arith, refl)
        by false h = absurd (true≢false (sym h))

    -- what a call takes, each Outport that it gives reaches
    call-step : (j g c : ℕ) → Contains (given_rows header j) g → Contains (taken header j (entering (child_use d header))) c →
        (path : List ℕ) × Walk (needs_inside d s) g path c
    call-step j g c gives takes = by (of-taken d laws.wired e (laws.inports (Some e)) profile j c takes)
      where
        out : Contains (outports_of d.rows (Some e)) g × IsMaskOf (TrueNeeds d (Some e) g) (header_function header j).inputs
        out = header-needs d header refl child.has_profile j g gives

        inside : Inside g
        inside = let p = of-ports d.rows (Some e) is_outport g out.0 in own-inside g p.0 p.1

        entered : (k i : ℕ) → k < length (inports_of d.rows (Some e)) → slice_get (inports_of d.rows (Some e)) k ≡ Some i →
            (row_at d.rows i).inputs ≡ c ∷ [] →
            TrueNeeds d (Some e) g (Number (suc k)) → (path : List ℕ) × Walk (needs_inside d s) g path c
        entered k i below place wire (x, row, reached) =
            let is : is_inport (row_at d.rows x).kind ≡ true = ap is_inport row.is_inport in
            let port : port_of (row_at d.rows x).kind - 1 ≡ k = ap (λ kind. port_of kind - 1) row.is_inport
            ∙ (let same : suc k - 1 ≡ k = omega arith in same) in
            let stands : slice_get (inports_of d.rows (Some e)) k ≡ Some x =
            subst (λ n. slice_get (inports_of d.rows (Some e)) n ≡ Some x) port
            (port-place d.rows (Some e) is_inport (laws.inports (Some e)) x row.in_table row.is_own is) in
            let same : x ≡ i = (let both : Some x ≡ Some i = sym stands ∙ place in cc both) in
            steps-to g x c inside reached
            (inport-needs x c row.in_table row.is_own is (ap (λ y. (row_at d.rows y).inputs) same ∙ wire))

        by : IsTakenAt d laws.wired e (laws.inports (Some e)) profile j c ⊎ Contains (row_at d.rows e).inputs c →
            (path : List ℕ) × Walk (needs_inside d s) g path c
        by (inl at) =
            let below : at.k < length (inports_of d.rows (Some e)) = at-below (inports_of d.rows (Some e)) at.k at.i at.place in
            let few : length (inports_of d.rows (Some e)) ≤ 32 = few-ports d.rows (Some e) is_inport (laws.inports (Some e)) in
            let same : at.k ≡ suc at.k - 1 = omega arith in
            entered at.k at.i below at.place at.wire
            ((out.1.number (suc at.k) (omega arith) (omega arith)).0
            (subst (IsBitSet (header_function header j).inputs) same (has-set (header_function header j).inputs at.k at.bit)))
        by (inr control) = ([], needs-inward d s e child.owned first g inside c (inr (inr control)))

  -- what a node needs, each row that it gives reaches
  pub node-step : (y : Node) (c g : ℕ) → Contains (node_needs local y) c → Contains (node_gives local y) g →
      (path : List ℕ) × Walk (needs_inside d s) g path c
  node-step (Row b) c g needs gives = (
    [],
    subst (λ a. Contains (needs_inside d s a) c) (of-row-gives d delays s headers b g gives)
        (of-row-needs d delays s headers b c needs).1,
  )
  node-step (Call e j) c g needs gives =
      let f = child-of-gives d delays s headers laws.are_headers e j g gives in
      call-step e f.0 f.1 j g c
      (subst (λ rows. Contains rows g) (call-gives d delays s headers e j f.0 f.1) gives)
      (subst (λ wires. Contains wires c) (call-needs d delays s headers e j f.0 f.1) needs)
