-- One step of rows stays in a node, or leads on to a node that it needs.
use Rattle.std.specs.Prelude.{◌≡◌, ◌⊎◌, ℕ, zero, suc, ◌-◌, ◌<◌, ◌≤◌, ◌&&◌, Bool, true, false, if◌then◌else◌, List, [], ◌∷◌, ◌++◌, length, Contains, Option, Some, None, refl}
use Rattle.std.proofs.Common.{sym, ap, subst, ◌∙◌, arith, inl, inr, true≢false}
use Rattle.diagram_blocks.specs.declared.Kind.{Kind}
use Rattle.diagram_blocks.specs.declared.Kind.TheVariants.{Inport}
use Rattle.diagram_blocks.specs.Value.{feeds_through}
use Rattle.diagram_meaning.specs.declared.table.Row.{Row as TableRow}
use Rattle.diagram_meaning.specs.Rows.{row_at, rows_of, inports_of, outports_of, is_inport_of, same_system}
use Rattle.diagram_blocks.specs.Kinds.{is_inport, is_outport, is_subsystem, port_of}
use Rattle.diagram_meaning.specs.Diagram.{Diagram, op_at}
use Rattle.diagram_meaning.specs.Needs.{inputs_used, needs_inside, Reaches, IsInputRow, TrueNeeds, IsMaskOf}
use Rattle.diagram_meaning.specs.WellFormed.{IsOwner, IsWireIn, reading_system}
use Rattle.diagram_meaning.proofs.lemmas.Walks.{walk-snoc}
use Rattle.diagram_meaning.proofs.lemmas.RestsOnNeeds.{same_system-equal}
use Rattle.diagram_meaning.proofs.lemmas.Tick.{row_at-past}
use Rattle.modules_profile.specs.declared.nodes.Node.{Node}
use Rattle.modules_profile.specs.declared.nodes.Node.TheVariants.{Row, Call}
use Rattle.modules_profile.specs.LocalSystem.{LocalSystem}
use Rattle.modules_profile.specs.SystemHeader.{SystemHeader}
use Rattle.modules_profile.specs.SystemProfile.{SystemProfile}
use Rattle.modules_profile.specs.Headers.{header_of, header_function, taken, given_rows}
use Rattle.modules_profile.specs.Locals.{local_of, child_use, entering}
use Rattle.modules_profile.specs.LocalNodes.{node_gives, node_needs, NodeNeeds}
use Rattle.base_core.specs.Ports.{has_bit}
use Rattle.modules_profile.proofs.ChildNeeds.{LeadsTo, IsBefore, IsInsideChild, Enters, needs-outward}
use Rattle.modules_profile.proofs.lemmas.Members.{in-none, in-at}
use Rattle.modules_profile.proofs.lemmas.MaskBits.{set-has}
use Rattle.modules_profile.proofs.FunctionRows.{header-gives, header-needs}
use Rattle.modules_profile.proofs.lemmas.PortRows.{in-rows, of-rows, in-subsystems, port-place, port-range, few-ports}
use Rattle.modules_profile.proofs.ChildPorts.{takes-input, takes-control}
use Rattle.modules_profile.proofs.OwnNodes.{IsChild, row-needs, row-gives, call-gives, call-needs, child-found}
use Rattle.modules_profile.proofs.NodeSteps.{HasLaws, before, read, own-inside, stays}

-- one step after what is reached
reaches-on : (needs : ℕ → List ℕ) (o b c : ℕ) → Reaches needs o b → Contains (needs b) c → Reaches needs o c
reaches-on needs o b c (inl same) h = inr ([], subst (λ z. Contains (needs z) c) (sym same) h)
reaches-on needs o b c (inr (path, walk)) h = inr (path ++ b ∷ [], walk-snoc needs o path b c walk h)

inport-is : (kind : Kind) → is_inport kind ≡ true → kind ≡ Inport (port_of kind)
inport-is (Inport port) e = refl
inport-is _ e = absurd (true≢false (sym e))

both : (a b : Bool) → (a && b) ≡ true → (a ≡ true) × (b ≡ true)
both true b e = (refl, e)
both false b e = absurd (true≢false (sym e))

-- an Inport is the row of its input
input-row : (rows : List TableRow) (s : Option ℕ) (b : ℕ) → is_inport_of rows s b ≡ true →
    IsInputRow rows s (port_of (row_at rows b).kind) b
input-row rows s b e =
    let parts = both (is_inport (row_at rows b).kind) (same_system (row_at rows b).owner s) e in
    record {
      in_table = elim (row_at-past rows b) [
        | inl below ↦ below
        | inr past ↦ absurd (true≢false (sym (let h : is_inport (row_at rows b).kind ≡ true = parts.0 in rw past at h)))
      ];
      is_inport = inport-is (row_at rows b).kind parts.0;
      is_own = same_system-equal (row_at rows b).owner s parts.1;
    }

no-inport : (kind : Kind) → is_subsystem kind ≡ true → is_inport kind ≡ false
no-inport (Inport port) h = absurd (true≢false (sym h))
no-inport _ h = refl

-- a row that is no Inport reads in its own system
reads-own : (rows : List TableRow) (kind : Kind) (o : Option ℕ) → is_inport kind ≡ false → reading_system rows kind o ≡ o
reads-own rows (Inport port) o h = absurd (true≢false h)
reads-own rows _ o h = refl

used-input : (feeds : Bool) (inputs : List ℕ) (c : ℕ) → Contains (if feeds then inputs else []) c → Contains inputs c
used-input true inputs c h = h
used-input false inputs c h = absurd (in-none c h)

-- a system isn't inside its own child
outside : (rows : List TableRow) (e n : ℕ) (o : Option ℕ) → IsBefore o e → LeadsTo rows e n o → ⊥
outside rows e zero o before h = h
outside rows e (suc n) None before h = h
outside rows e (suc n) (Some g) before (inl same) = omega arith
outside rows e (suc n) (Some g) before (inr (behind, rest)) = omega arith

module _ (d : Diagram) (delays : List Bool) (s : Option ℕ) (headers : List SystemHeader) (laws : HasLaws d s headers) where
  abbrev local : LocalSystem
  local = local_of d delays s headers

  -- row a is inside child e, where an Outport that function j gives reaches it
  pub record IsWithin (e j a : ℕ) : Type 0 where
    pub profile : SystemProfile
    pub child : IsChild d delays s headers e profile
    pub q : ℕ
    pub given : Contains (given_rows (header_of d (Some e) profile) j) q
    pub reached : Reaches (needs_inside d (Some e)) q a
    pub inside : IsInsideChild d.rows s e child.owned (before d delays s headers laws e child.below child.owned) a

  -- the node at which a walk of rows is
  abbrev pub At : Node → ℕ → Type 0
  At (Row b) a = (b ≡ a) × Contains (rows_of d.rows s) a
  At (Call e j) a = IsWithin e j a

  -- a wire of the system is given by a node
  wire-node : (c : ℕ) → IsWireIn d.rows s c → (y : Node) × Contains (node_gives local y) c × At y c
  wire-node c (below, inl (own, has)) =
      let listed = in-rows d.rows s c below own in
      (Row c, row-gives d delays s headers c listed, (refl, listed))
  wire-node c (below, inr (is, (e, owner, outer))) =
      let is_owner = subst (IsOwner d.rows c) owner (laws.nested.owned c below) in
      let in_table : e < length d.rows = (let behind = is_owner.0 in omega arith) in
      let f = child-found d delays s headers laws.are_headers e (in-subsystems d.rows s e in_table outer is_owner.1) in
      let listed : Contains (outports_of d.rows (Some e)) c =
      in-at (outports_of d.rows (Some e)) (port_of (row_at d.rows c).kind - 1) c
      (port-place d.rows (Some e) is_outport (laws.outports (Some e)) c below owner is) in
      let g = header-gives d (header_of d (Some e) f.0) refl f.1.has_profile c listed in (
        Call e g.0,
        subst (λ rows. Contains rows c) (sym (call-gives d delays s headers e g.0 f.0 f.1)) g.1,
        record {
          profile = f.0;
          child = f.1;
          q = c;
          given = g.1;
          reached = inl refl;
          inside = own-inside d delays s headers laws e f.0 f.1 c below owner;
        },
      )

  abbrev Leads : Node → ℕ → Type 0
  Leads x c = At x c ⊎ ((y : Node) × NodeNeeds local x y × At y c)

  -- wire c, which node x needs
  leads-on : (x : Node) (c : ℕ) → Contains (node_needs local x) c → IsWireIn d.rows s c → Leads x c
  leads-on x c needs wire = let y = wire-node c wire in inr (y.0, (c, needs, y.1), y.2)

  -- from inside a child a step stays there, or enters by a wire that the call takes
  child-leads : (e j a c : ℕ) → IsWithin e j a → Contains (needs_inside d s a) c → Leads (Call e j) c
  child-leads e j a c w h = by
      (needs-outward d s e w.child.owned (before d delays s headers laws e w.child.below w.child.owned) a w.inside c h)
    where
      mask : IsMaskOf (TrueNeeds d (Some e) w.q) (header_function (header_of d (Some e) w.profile) j).inputs
      mask = (header-needs d (header_of d (Some e) w.profile) refl w.child.has_profile j w.q w.given).1

      out : Contains (taken (header_of d (Some e) w.profile) j (entering (child_use d (header_of d (Some e) w.profile)))) c →
          IsWireIn d.rows s c → Leads (Call e j) c
      out takes wire = leads-on (Call e j) c
          (subst (λ wires. Contains wires c) (sym (call-needs d delays s headers e j w.profile w.child)) takes) wire

      by-input : IsInputRow d.rows (Some e) (port_of (row_at d.rows a).kind) a → Contains (inputs_used d a) c → Leads (Call e j) c
      by-input row used =
          let port : ℕ = port_of (row_at d.rows a).kind in
          let is : is_inport (row_at d.rows a).kind ≡ true = ap is_inport row.is_inport in
          let range = port-range d.rows (Some e) is_inport (laws.inports (Some e)) a row.in_table row.is_own is in
          let few : length (inports_of d.rows (Some e)) ≤ 32 = few-ports d.rows (Some e) is_inport (laws.inports (Some e)) in
          let low : 0 < port = range.0 in
          let high : port ≤ length (inports_of d.rows (Some e)) = range.1 in
          let bit : has_bit (header_function (header_of d (Some e) w.profile) j).inputs (port - 1) ≡ true =
          set-has (header_function (header_of d (Some e) w.profile) j).inputs (port - 1)
          ((mask.number port low (omega arith)).1 (a, row, w.reached)) in
          let wire : Contains (row_at d.rows a).inputs c = used-input (feeds_through (op_at d a)) (row_at d.rows a).inputs c used in
          out (takes-input d laws.wired e (laws.inports (Some e)) w.profile j (port - 1) a c
          (port-place d.rows (Some e) is_inport (laws.inports (Some e)) a row.in_table row.is_own is) wire bit)
          (subst (λ o. IsWireIn d.rows o c)
          (ap (λ kind. reading_system d.rows kind (row_at d.rows a).owner) row.is_inport
          ∙ ap (reading_system d.rows (Inport port)) row.is_own ∙ w.child.owned) (read d delays s headers laws a c row.in_table wire))

      by-control : Contains (row_at d.rows e).inputs c → Leads (Call e j) c
      by-control control =
          out (takes-control d laws.wired e (laws.inports (Some e)) w.profile j c w.child.is_subsystem (laws.wired.counts e w.child.below)
          (λ enabled. set-has (header_function (header_of d (Some e) w.profile) j).inputs 32 (mask.enable.1 enabled))
          (λ triggered. set-has (header_function (header_of d (Some e) w.profile) j).inputs 33 (mask.trigger.1 triggered)) control)
          (subst (λ o. IsWireIn d.rows o c)
          (reads-own d.rows (row_at d.rows e).kind (row_at d.rows e).owner (no-inport (row_at d.rows e).kind w.child.is_subsystem)
          ∙ w.child.owned) (read d delays s headers laws e c w.child.below control))

      by : Contains (needs_inside d (Some e) a) c ⊎ Enters d s e w.child.owned
          (before d delays s headers laws e w.child.below w.child.owned) a w.inside c →
          Leads (Call e j) c
      by (inl within) = inl (record {
        profile = w.profile;
        child = w.child;
        q = w.q;
        given = w.given;
        reached = reaches-on (needs_inside d (Some e)) w.q a c w.reached within;
        inside = stays d delays s headers laws e w.profile w.child a c w.inside within;
      })
      by (inr (inl (own, used))) = by-input (input-row d.rows (Some e) a own) used
      by (inr (inr control)) = by-control control

  -- a step of rows stays in the node, or leads on to one that it needs
  pub row-step : (x : Node) (a c : ℕ) → At x a → Contains (needs_inside d s a) c → At x c ⊎ ((y : Node) × NodeNeeds local x y × At y c)
  row-step (Row b) a c (same, own) h =
      let need = row-needs d delays s headers a c own h in
      let place = of-rows d.rows s a own in
      leads-on (Row b) c (subst (λ k. Contains (node_needs local (Row k)) c) (sym same) need.0)
      (subst (λ o. IsWireIn d.rows o c) (reads-own d.rows (row_at d.rows a).kind (row_at d.rows a).owner need.1 ∙ place.1)
      (read d delays s headers laws a c place.0 need.2))
  row-step (Call e j) a c w h = child-leads e j a c w h

  -- a walk that is at an own row is at its node
  pub at-own : (x : Node) (b : ℕ) → At x b → Contains (rows_of d.rows s) b → x ≡ Row b
  at-own (Row a) b (same, own) listed = ap Row same
  at-own (Call e j) b w listed =
      absurd (outside d.rows e (length d.rows) s (before d delays s headers laws e w.child.below w.child.owned)
      (subst (LeadsTo d.rows e (length d.rows)) (of-rows d.rows s b listed).1 w.inside.leads))
