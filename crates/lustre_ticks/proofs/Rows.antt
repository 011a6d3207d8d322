-- Every row of a model without a loop is known where it is read, by induction on what it needs.
use Rattle.std.proofs.Common.{◌≡◌, refl, sym, ◌∙◌, subst, ℕ, zero, suc, ◌-◌, ◌<◌, Bool, true, false, ◌&&◌, if◌then◌else◌, List, [], ◌∷◌, ◌++◌, map, length, slice_get, Contains, Option, None, Some, ℤ, arith, inl, inr}
use Rattle.std.specs.List.{AllByRecursion, range_with_len}
use Rattle.std.proofs.lemmas.List.Elements.{Contains-append_left, Contains-append_right}
use Rattle.std.proofs.lemmas.Option.{none-some, same_Some}
use Rattle.diagram_blocks.specs.Kinds.{is_subsystem, is_inport, is_outport, port_of, is_delay}
use Rattle.diagram_blocks.specs.Meaning.{has_value, delay_length}
use Rattle.diagram_blocks.specs.Value.{feeds_through}
use Rattle.diagram_meaning.specs.declared.Row.{Row}
use Rattle.diagram_meaning.specs.Rows.{row_at, same_system, outward, enclosing, outports_of}
use Rattle.diagram_meaning.specs.Diagram.{op_at}
use Rattle.diagram_meaning.specs.Inputs.{wires_of_rows}
use Rattle.diagram_meaning.specs.Needs.{inputs_used, needs_of}
use Rattle.diagram_meaning.specs.SystemRuns.{IsRowOf}
use Rattle.diagram_meaning.specs.WellFormed.{IsWireIn, IsOwner, HasPorts}
use Rattle.diagram_meaning.proofs.lemmas.Inside.{Contains-nil}
use Rattle.diagram_meaning.proofs.lemmas.Ports.{IsPorted, at-own-port}
use Rattle.diagram_meaning.proofs.lemmas.Tick.{row_at-past}
use Rattle.diagram_meaning.proofs.lemmas.Walks.{Within, within}
use Rattle.diagram_typed_runs.specs.TypedRuns.{IsSystem}
use Rattle.c_syntax.specs.declared.Leaf.{Leaf}
use Rattle.c_syntax.specs.declared.Leaf.TheVariants.{Param, Own}
use Rattle.emit_shape.specs.Names.{value_name}
use Rattle.lustre_syntax.specs.Tree.{set}
use Rattle.lustre_flows.specs.Values.{value_at}
use Rattle.lustre_system.specs.FromC.{calls_of}
use Rattle.lustre_system.specs.Functions.{function_name}
use Rattle.lustre_system.specs.Names.{leaf_name, leaves_of, sample_name, part_name}
use Rattle.lustre_system.specs.RowEquations.{row_code, row_value, value_equations, samples, sample_equations}
use Rattle.lustre_right.specs.Reads.{KnownInputs}
use Rattle.lustre_right.specs.ReadLaws.{IsReadRow}
use Rattle.lustre_right.specs.Systems.{named_value}
use Rattle.diagram_meaning.proofs.lemmas.Agreement.{All-append_right}
use Rattle.lustre_rows.proofs.lemmas.Lists.{all-member, all-members, all-mapped}
use Rattle.lustre_rows.proofs.lemmas.Systems.{system-below}
use Rattle.lustre_rows.proofs.lemmas.Wires.{own-reading, outport-valued}
use Rattle.lustre_ticks.proofs.Setting.{Setting, d, rows, hyper, tick_of, solved, place, IsKnown, names, known-value}
use Rattle.lustre_ticks.proofs.Agreement.{Done, in-order}
use Rattle.lustre_ticks.proofs.Held.{values-hold, values-give, memories-hold, memories-give, computed}
use Rattle.lustre_ticks.proofs.Inputs.{called-child}
use Rattle.lustre_ticks.proofs.Around.{KnowsActivity}
use Rattle.lustre_ticks.proofs.Wires.{KnownRow, known-wire, owner-system, owner-below, activity-known}
use Rattle.lustre_ticks.proofs.Inports.{inport-known, is-inport-of}

-- ---- The equations of a row

module _ (g : Setting) (s : Option ℕ) (system : IsSystem (rows g) s) (b : ℕ) (row : IsRowOf (rows g) s b) where
  pub samples-done : is_delay (op_at (d g) b) ≡ true → AllByRecursion (Done g s) (sample_equations (d g) s b (samples (d g) s b))
  samples-done delay =
      in-order g s (IsKnown g s) (λ text known. known) (sample_equations (d g) s b (samples (d g) s b))
      (memories-hold g s system b row delay).1
      (memories-give g s system b row delay).1 (g.laws.sample_order g.r s b (IsKnown g s))

  pub reading : KnowsActivity g s → IsReadRow g.r s b (IsKnown g s)
  reading activity = record {
    resolved = g.tick.resolved;
    system = system;
    row = row;
    around = activity.around;
    active = activity.active;
  }

  oldest : (n : ℕ) → 0 < n → AllByRecursion (Done g s) (sample_equations (d g) s b (map (sample_name b) (range_with_len 0 n))) →
      IsKnown g s (sample_name b 0)
  oldest zero some done = absurd (omega (arith, some))
  oldest (suc zero) some done = done.0.0.0
  oldest (suc (suc n)) some done = done.0.0.0

  module _ (valued : has_value (row_at (rows g) b).kind ≡ true) (activity : KnowsActivity g s)
      (used : feeds_through (op_at (d g) b) ≡ true → (c : ℕ) → Contains (row_at (rows g) b).inputs c → KnownRow g c) where
    abbrev IsKnownLeaf : Leaf → Type 0
    IsKnownLeaf l = IsKnown g s (leaf_name (rows g) s l)

    leaves-known : feeds_through (op_at (d g) b) ≡ true → AllByRecursion IsKnownLeaf (leaves_of (rows g) s b)
    leaves-known feeds = by (is_inport (row_at (rows g) b).kind) refl
      where
        wired : is_inport (row_at (rows g) b).kind ≡ false → (c : ℕ) → Contains (row_at (rows g) b).inputs c → IsWireIn (rows g) s c
        wired is c m =
            all-member (IsWireIn (rows g) s) (row_at (rows g) b).inputs
            (subst (λ (o : Option ℕ). AllByRecursion (IsWireIn (rows g) o) (row_at (rows g) b).inputs)
            (own-reading (rows g) (row_at (rows g) b).kind (row_at (rows g) b).owner is ∙ row.own)
            (g.tick.resolved.tree.table.wired.wires b row.in_table)) c m

        by : (i : Bool) → is_inport (row_at (rows g) b).kind ≡ i → AllByRecursion IsKnownLeaf (leaves_of (rows g) s b)
        by true is =
            subst (λ p. AllByRecursion IsKnownLeaf (if p then Param (port_of (row_at (rows g) b).kind - 1) ∷ []
            else map Own (row_at (rows g) b).inputs)) (sym (is-inport-of g s system b row is))
            (inport-known g s system b row is (used feeds), tt)
        by false is =
            subst (λ p. AllByRecursion IsKnownLeaf
            (if p && same_system (row_at (rows g) b).owner s then Param (port_of (row_at (rows g) b).kind - 1) ∷ []
            else map Own (row_at (rows g) b).inputs)) (sym is)
            (all-mapped IsKnownLeaf Own (row_at (rows g) b).inputs
            (all-members (λ c. IsKnownLeaf (Own c)) (row_at (rows g) b).inputs
            (λ c m. known-wire g s c (used feeds c m) (wired is c m))))

    reads : KnownInputs (IsKnown g s) (d g) s b
    reads = record {
      leaves = leaves-known;
      sample = λ delay. oldest (delay_length (op_at (d g) b)) ((computed g s system b row valued).remembers delay) (samples-done delay);
    }

    pub values-done : AllByRecursion (Done g s) (value_equations (d g) s b)
    values-done =
        in-order g s (IsKnown g s) (λ text known. known) (value_equations (d g) s b) (values-hold g s system b row valued)
        (values-give g s system b row valued) (g.laws.value_order g.r s b (IsKnown g s) (reading activity) valued reads)

    pub own-value : IsKnown g s (value_name b)
    own-value =
        (All-append_right (Done g s) (calls_of (leaf_name (rows g) s) function_name (part_name b) (row_code (d g) s b))
        (set 0 (value_name b) (row_value (d g) s b) ∷ []) values-done).0.0.0

-- ---- The value of a child's Outport

output-at : (f : List ℕ → Option ℤ) (h : ℕ → Option ℤ) (outs : List ℕ) (k b : ℕ) → map f (map value_name outs) ≡ map h outs →
    slice_get outs k ≡ Some b → f (value_name b) ≡ h b
output-at f h [] k b same at = absurd (none-some b at)
output-at f h (x ∷ xs) zero b same at =
    let here : f (value_name x) ≡ h x = cc in
    let is : x ≡ b = same_Some x b at in
    subst (λ c. f (value_name c) ≡ h c) is here
output-at f h (x ∷ xs) (suc k) b same at =
    let later : map f (map value_name xs) ≡ map h xs = cc in output-at f h xs k b later at

output-known : (g : Setting) (e b : ℕ) → IsRowOf (rows g) (Some e) b → is_outport (row_at (rows g) b).kind ≡ true →
    is_subsystem (row_at (rows g) e).kind ≡ true → IsKnown g (Some e) (value_name b) → IsKnown g (row_at (rows g) e).owner (value_name b)
output-known g e b row is system own =
    let table = g.tick.resolved.tree.table in
    let o = (row_at (rows g) e).owner in
    let in_table = system-below (rows g) e system in
    let outer : IsRowOf (rows g) o e = record { in_table = in_table; own = refl } in
    let outside = owner-system (rows g) e o (table.nested.owned e in_table) in
    let ports : HasPorts (rows g) is_outport (Some e) = table.outports (Some e) in
    let ported : IsPorted (rows g) is_outport (Some e) ports b = record { in_table = row.in_table; is_own = row.own; passing = is } in
    let there = at-own-port (rows g) is_outport (Some e) ports b ported in
    let v = (tick_of g o).value b in
    let inner = known-value g (Some e) (place g (Some e) (value_name b)) v own
    ((names g (Some e) system).rows b row (outport-valued (row_at (rows g) b).kind is)) in
    let same = output-at (named_value (d g) (hyper g) g.before g.left o)
    (λ k. value_at (solved g (Some e)) (place g (Some e) (value_name k))) (outports_of (rows g) (Some e))
    (port_of (row_at (rows g) b).kind - 1) b (called-child g o outside e outer system).1 there in
    (v, same ∙ inner, (names g o outside).wires b (row.in_table, inr (is, (e, row.own, refl))))

-- ---- Rows by what they need

module _ (g : Setting) (b : ℕ) (each : (c : ℕ) → Contains (needs_of (d g) b) c → KnownRow g c) where
  abbrev own_system : Option ℕ
  own_system = (row_at (rows g) b).owner

  abbrev outer_wires : List ℕ
  outer_wires = wires_of_rows (rows g) (enclosing (rows g) None own_system)

  value-known : b < length (rows g) → has_value (row_at (rows g) b).kind ≡ true → IsKnown g own_system (value_name b)
  value-known below valued =
      let owner : IsOwner (rows g) b own_system = g.tick.resolved.tree.table.nested.owned b below in
      let system = owner-system (rows g) b own_system owner in
      let row : IsRowOf (rows g) own_system b = record { in_table = below; own = refl } in
      let used = inputs_used (d g) b in
      let activity = activity-known g (length (rows g)) own_system system
      (owner-below (rows g) (length (rows g)) b own_system (omega (arith, below)) owner)
      (λ c m. each c (Contains-append_right used outer_wires c m)) in
      own-value g own_system system b row valued activity
      (λ feeds c m. each c (Contains-append_left used outer_wires c
      (subst (λ p. Contains (if p then (row_at (rows g) b).inputs else []) c) (sym feeds) m)))

  row-step : KnownRow g b
  row-step = record {
    value = value-known;
    output = λ e below is own.
        let owner : IsOwner (rows g) b (Some e) = subst (λ (o : Option ℕ). IsOwner (rows g) b o) own
        (g.tick.resolved.tree.table.nested.owned b below) in
        output-known g e b (record { in_table = below; own = own }) is owner.1
        (subst (λ (o : Option ℕ). IsKnown g o (value_name b)) own (value-known below (outport-valued (row_at (rows g) b).kind is)));
  }

rows-within : (g : Setting) (n b : ℕ) → Within (needs_of (d g)) n b → KnownRow g b
rows-within g zero b h = absurd h
rows-within g (suc n) b h = row-step g b (λ c m. rows-within g n c (h c m))

-- a row past the table needs nothing
none-needed : (table : List Row) (n c : ℕ) (f : Bool) →
    Contains ((if f then [] else []) ++ wires_of_rows table (outward table None n None)) c → ⊥
none-needed table zero c true m = Contains-nil c m
none-needed table zero c false m = Contains-nil c m
none-needed table (suc n) c true m = Contains-nil c m
none-needed table (suc n) c false m = Contains-nil c m

needs-below : (g : Setting) (b c : ℕ) → Contains (needs_of (d g) b) c → b < length (rows g)
needs-below g b c m = elim (row_at-past (rows g) b) [
  | inl below ↦ below
  | inr past ↦ absurd (none-needed (rows g) (length (rows g)) c (feeds_through (op_at (d g) b))
      (subst (λ (row : Row). Contains ((if feeds_through (op_at (d g) b) then row.inputs else [])
      ++ wires_of_rows (rows g) (enclosing (rows g) None row.owner)) c) past m))
]

pub row-known : (g : Setting) (b : ℕ) → KnownRow g b
row-known g b =
    rows-within g (suc (length (rows g))) b (within (needs_of (d g)) (length (rows g)) (needs-below g) g.tick.no_loop b)
