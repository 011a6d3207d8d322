-- The first tick of a run begins with the start, for the own rows of each system inside.
use Rattle.std.specs.Prelude.{◌≡◌, ℕ, zero, suc, Bool, true, false, if◌then◌else◌, List, [], ◌∷◌, map, replicate, slice_index_or, Contains, Option, Some, None, ℤ, refl}
use Rattle.std.proofs.Common.{sym, ap, subst, ◌∙◌, true≢false}
use Rattle.diagram_activity.specs.declared.TrigMem.{TrigMem}
use Rattle.diagram_activity.specs.declared.TrigMem.TheVariants.{NotYet}
use Rattle.diagram_blocks.specs.declared.Op.{Op}
use Rattle.diagram_blocks.specs.declared.Op.TheVariants.{Delay}
use Rattle.diagram_blocks.specs.Meaning.{delay_length}
use Rattle.diagram_meaning.specs.Rows.{row_at, row_numbers, rows_of, system_control}
use Rattle.diagram_meaning.specs.Diagram.{Diagram, op_at, type_at}
use Rattle.diagram_meaning.specs.ResolvedTree.{ResolvedTree, IsResolvedTree, diagram_of}
use Rattle.diagram_meaning.specs.Run.{first_of, start_by, start_of, has_trigger, triggers_by, trigger_at, IsRun}
use Rattle.diagram_blocks.specs.Kinds.{is_delay}
use Rattle.diagram_meaning.specs.Laws.{Run, IsRunOver}
use Rattle.diagram_meaning.specs.RunLaws.{IsSystemWithin}
use Rattle.diagram_meaning.specs.SystemRuns.{IsRowOf, IsFirstTick, system_trigger, system_tick}
use Rattle.diagram_meaning.proofs.lemmas.SystemRuns.{runs_are_of_systems}
use Rattle.modules_profile.specs.declared.LocalRow.{LocalRow}
use Rattle.modules_profile.specs.LocalSystem.{LocalSystem}
use Rattle.modules_profile.specs.Locals.{local_row}
use Rattle.modules_profile.specs.NodeFacts.{IsLocalOf}
use Rattle.modules_profile.proofs.lemmas.Members.{of-map}
use Rattle.modules_profile.proofs.lemmas.OwnRows.{of-rows}
use Rattle.emit_shape.specs.Delays.{is_single}
use Rattle.emit_shape.specs.RowStarts.{row_start}
use Rattle.right_relation.specs.LocalTicks.{LocalTick}
use Rattle.right_relation.specs.RunTicks.{Untouched, tick_at}

-- a delay of one sample is a delay, of that length
single-is_delay : (op : Op) → is_single op ≡ true → (is_delay op ≡ true) × (delay_length op ≡ 1)
single-is_delay (Delay initial) h = (refl, refl)
single-is_delay _ h = absurd (true≢false (sym h))

-- ---- Triggers

first-triggers : (d : Diagram) (s : Option ℕ) (xs vs : List (List ℤ)) (ms : List (List (List ℤ))) (gs : List (List TrigMem)) →
    IsRun d s xs vs ms gs → slice_index_or gs 0 [] ≡ triggers_by d s (λ e. NotYet)
first-triggers d s xs vs [] gs is = absurd is
first-triggers d s xs vs (m ∷ ms) [] is = absurd is
first-triggers d s xs vs (m ∷ ms) (g ∷ gs) is = is.1

either-way : (t : Bool) → (if t then NotYet else NotYet) ≡ NotYet
either-way true = refl
either-way false = refl

all-alike : (f : ℕ → TrigMem) → ((e : ℕ) → f e ≡ NotYet) → (es : List ℕ) (k : ℕ) → slice_index_or (map f es) k NotYet ≡ NotYet
all-alike f alike [] k = refl
all-alike f alike (e ∷ es) zero = alike e
all-alike f alike (e ∷ es) (suc k) = all-alike f alike es k

none-yet : (d : Diagram) (s n : Option ℕ) (g : List TrigMem) → g ≡ triggers_by d s (λ e. NotYet) → system_trigger g n ≡ NotYet
none-yet d s None g is = refl
none-yet d s (Some e) g is =
    ap (λ z. trigger_at z e) is
    ∙ all-alike (λ c. if has_trigger d s c then NotYet else NotYet) (λ c. either-way (has_trigger d s c)) (row_numbers d.rows) e

-- ---- Rows

module _ (r : ResolvedTree) (n : Option ℕ) (local : LocalSystem) (is_local : IsLocalOf r n local) where
  -- an own row is one of the table
  pub own-row : (q : LocalRow) → Contains local.rows q →
      (b : ℕ) × IsRowOf (diagram_of r).rows n b × (local_row (diagram_of r) r.times.delays b ≡ q)
  own-row q h =
      let d = diagram_of r in
      let m = of-map (local_row d r.times.delays) (rows_of d.rows n) q
      (subst (λ (l : LocalSystem). Contains l.rows q) is_local.is_local h) in
      let own = of-rows d.rows n m.0 m.1 in
      (m.0, record { in_table = own.0; own = own.1 }, m.2)

  -- its operation is that of the table
  pub own-op : (q : LocalRow) → Contains local.rows q → q.op ≡ op_at (diagram_of r) q.row
  own-op q h = let own = own-row q h in subst (λ (z : LocalRow). z.op ≡ op_at (diagram_of r) z.row) own.2 refl

  starts : (b : ℕ) → IsRowOf (diagram_of r).rows n b →
      start_of (diagram_of r) b ≡ row_start local (local_row (diagram_of r) r.times.delays b)
  starts b own =
      let d = diagram_of r in
      ap (λ o. start_by (op_at d b) (row_at d.rows b).kind (system_control d.rows o) (type_at d.types b)) own.own
      ∙ ap (λ (l : LocalSystem). row_start l (local_row d r.times.delays b)) (sym is_local.is_local)

  module _ (s : Option ℕ) (xs : List (List ℤ)) (run : Run) (untouched : Untouched) (resolved : IsResolvedTree r)
      (within : IsSystemWithin (diagram_of r).rows s n) (is : IsRunOver (diagram_of r) s xs run) where
    abbrev m : LocalTick
    m = tick_at (diagram_of r) s xs run n untouched 0

    first : IsFirstTick (diagram_of r) n (system_tick (diagram_of r) s xs run n 0)
    first = (runs_are_of_systems r s n xs run resolved within is).first

    pub value-begins : (q : LocalRow) → Contains local.rows q → m.tick.before q.row ≡ row_start local q
    value-begins q h =
        let own = own-row q h in
        subst (λ (z : LocalRow). m.tick.before z.row ≡ row_start local z) own.2 (first.starts own.0 own.1 ∙ starts own.0 own.1)

    pub memory-begins : (q : LocalRow) → Contains local.rows q → is_single q.op ≡ true → first_of (m.tick.memory q.row) ≡ row_start local q
    memory-begins q h single =
        let d = diagram_of r in
        let own = own-row q h in
        let one = single-is_delay (op_at d own.0) (ap (λ (z : LocalRow). is_single z.op) own.2 ∙ single) in
        subst (λ (z : LocalRow). first_of (m.tick.memory z.row) ≡ row_start local z) own.2
        (ap first_of (first.memories own.0 own.1 one.0) ∙ ap (λ k. first_of (replicate k (start_of d own.0))) one.1 ∙ starts own.0 own.1)

    pub trigger-begins : m.tick.trigger ≡ NotYet
    trigger-begins =
        none-yet (diagram_of r) s n (slice_index_or run.triggers 0 [])
        (first-triggers (diagram_of r) s xs run.values run.memories run.triggers is)
