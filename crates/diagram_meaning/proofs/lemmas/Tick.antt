-- One tick of a diagram without a loop has one solution.
use Rattle.std.specs.Prelude.{◌≡◌, ℕ, zero, suc, ◌≤◌, ◌<◌, List, [], ◌∷◌, ◌++◌, filter, length, Contains, slice_index_or, Option, None, ℤ, pos, Bool, true, false, not, cond, if◌then◌else◌, ◌⊎◌}
use Rattle.std.specs.List.{AllByRecursion}
use Rattle.std.proofs.Common.{refl, sym, ◌∙◌, ap, arith, inl, inr}
use Rattle.std.proofs.lemmas.List.Elements.{recursion_from_All, Contains-get_or}
use Rattle.base_core.specs.declared.Port.TheVariants.{Number, Enable, Trigger}
use Rattle.diagram_activity.specs.declared.TrigMem.{TrigMem}
use Rattle.diagram_blocks.specs.Value.{feeds_through}
use Rattle.diagram_meaning.specs.declared.table.Row.{Row}
use Rattle.diagram_meaning.specs.Rows.{row_at, no_row, control_at, is_enabled, is_triggered, is_system, outward, around, is_inport_of, is_inside, column}
use Rattle.diagram_blocks.specs.Kinds.{port_of}
use Rattle.diagram_meaning.specs.Diagram.{Diagram, op_at}
use Rattle.diagram_meaning.specs.Needs.{inputs_used, needs_of, needs_inside, HasNoLoop}
use Rattle.diagram_meaning.specs.Inputs.{wires_of_rows}
use Rattle.diagram_meaning.specs.Run.{value_at, row_value, values_by}
use Rattle.diagram_meaning.proofs.lemmas.ByRow.{by_row-agree, by_row-equal}
use Rattle.diagram_meaning.proofs.lemmas.Agreement.{All-append_left, All-append_right, SameControl, AgreeFor, enable-agree, trigger-agree, row_value-agree}
use Rattle.diagram_meaning.proofs.lemmas.Walks.{Within, within}
use Rattle.diagram_meaning.proofs.lemmas.Inside.{Contains-nil, HasNoLoop-inside}

-- a row past the end is no_row
pub row_at-past : (rows : List Row) (b : ℕ) → (b < length rows) ⊎ (row_at rows b ≡ no_row)
row_at-past [] b = inr refl
row_at-past (r ∷ rows) zero = inl (omega arith)
row_at-past (r ∷ rows) (suc b) = elim (row_at-past rows b) [ inl below ↦ inl (omega arith) | inr e ↦ inr e ]

no-wires : (rows : List Row) (s : Option ℕ) (n c : ℕ) (f i : Bool) →
    Contains
    ((if f then [] else [])
    ++ wires_of_rows rows (filter (λ e. not (is_system s e)) (if i then [] else outward rows s n None))) c → ⊥
no-wires rows s n c true true h = Contains-nil c h
no-wires rows s n c false true h = Contains-nil c h
no-wires rows s zero c true false h = Contains-nil c h
no-wires rows s zero c false false h = Contains-nil c h
no-wires rows s (suc n) c true false h = Contains-nil c h
no-wires rows s (suc n) c false false h = Contains-nil c h

-- only rows of the table need others
pub needs-bounded : (d : Diagram) (s : Option ℕ) (b c : ℕ) → Contains (needs_inside d s b) c → b < length d.rows
needs-bounded d s b c h = elim (row_at-past d.rows b) [
  | inl below ↦ below
  | inr e ↦ absurd (no-wires d.rows s (length d.rows) c (feeds_through (op_at d b)) (is_system s b) (rw e at h))
]

module _ (d : Diagram) (s : Option ℕ) (x y v w : List ℤ) (g : List TrigMem) where
  abbrev Agree : ℕ → Type 0
  Agree c = value_at v c ≡ value_at w c

  -- each of the trace's controls of s is not read, or is the same
  abbrev pub SameOwnControl : Type 0
  SameOwnControl = (e : ℕ) → is_system s e ≡ true →
      ((is_enabled (control_at d.rows e) ≡ false) ⊎ (value_at x (column d.rows s Enable) ≡ value_at y (column d.rows s Enable)))
      × ((is_triggered (control_at d.rows e) ≡ false) ⊎ (value_at x (column d.rows s Trigger) ≡ value_at y (column d.rows s Trigger)))

  control-from : SameOwnControl → (e : ℕ) (rest : List ℕ) (b : Bool) → is_system s e ≡ b →
      AllByRecursion Agree (wires_of_rows d.rows (cond (not b) (e ∷ rest) rest)) →
      SameControl d s x y v w g e × AllByRecursion Agree (wires_of_rows d.rows rest)
  control-from own e rest true q a = (
    (
      elim (own e q).0 [ inl not_read ↦ inl not_read | inr same ↦ inr (rw q same) ],
      elim (own e q).1 [ inl not_read ↦ inl not_read | inr same ↦ inr (rw q same) ],
    ),
    a,
  )
  control-from own e rest false q a = (
    (
      inr (rw q
          (enable-agree v w x y d s g (control_at d.rows e) (row_at d.rows e).inputs
          (All-append_left Agree (row_at d.rows e).inputs (wires_of_rows d.rows rest) a))),
      inr (rw q (trigger-agree v w x y d s g (control_at d.rows e) (row_at d.rows e).inputs
          (All-append_left Agree (row_at d.rows e).inputs (wires_of_rows d.rows rest) a))),
    ),
    All-append_right Agree (row_at d.rows e).inputs (wires_of_rows d.rows rest) a,
  )

  controls-from : SameOwnControl → (es : List ℕ) →
      AllByRecursion Agree (wires_of_rows d.rows (filter (λ e. not (is_system s e)) es)) →
      AllByRecursion (SameControl d s x y v w g) es
  controls-from own [] a = tt
  controls-from own (e ∷ es) a =
      let p = control-from own e (filter (λ k. not (is_system s k)) es) (is_system s e) refl a in
      (p.0, controls-from own es p.1)

  inputs-from : (b : ℕ) (wires : List ℕ) (own feeds : Bool) → own ≡ false → feeds ≡ true →
      AllByRecursion Agree (if own then [] else (if feeds then wires else [])) → AllByRecursion Agree wires
  inputs-from b wires own feeds e f a = rw (e, f) at a

  -- where the rows that b needs agree, all that b reads does
  pub agree-for : (b : ℕ) → SameOwnControl →
      (is_inport_of d.rows s b ≡ true →
      value_at x (column d.rows s (Number (port_of (row_at d.rows b).kind)))
      ≡ value_at y (column d.rows s (Number (port_of (row_at d.rows b).kind)))) →
      AllByRecursion (λ c. value_at v c ≡ value_at w c) (needs_inside d s b) → AgreeFor d s x y v w g b
  agree-for b own inport a =
      let used : List ℕ = if is_inport_of d.rows s b then [] else inputs_used d b in
      let wires : List ℕ = wires_of_rows d.rows (filter (λ e. not (is_system s e)) (around d.rows s b)) in
      record {
        controls = controls-from own (around d.rows s b) (All-append_right Agree used wires a);
        inport = inport;
        inputs = λ e f. inputs-from b (row_at d.rows b).inputs (is_inport_of d.rows s b) (feeds_through (op_at d b)) e f
            (All-append_left Agree used wires a);
      }

-- over one tick's givens
module _ (d : Diagram) (s : Option ℕ) (t : ℕ) (x before : List ℤ) (m : List (List ℤ)) (g : List TrigMem) where
  -- the value of a row, 0 outside the system
  abbrev pub guarded : List ℤ → ℕ → ℤ
  guarded v b = if is_inside d.rows s b then row_value d s t x before m g v b else pos 0

  -- the values of all rows, made from given ones
  abbrev pub next_round : List ℤ → List ℤ
  next_round v = values_by d s (row_value d s t x before m g v)

  guarded-agree : (v w : List ℤ) (b : ℕ) → AllByRecursion (λ c. value_at v c ≡ value_at w c) (needs_inside d s b) →
      guarded v b ≡ guarded w b
  guarded-agree v w b a =
      ap (λ z. if is_inside d.rows s b then z else pos 0)
      (row_value-agree d s x x v w g t before m b (agree-for d s x x v w g b (λ e q. (inr refl, inr refl)) (λ q. refl) a))

  pub from-members : (v w : List ℤ) (cs : List ℕ) → ((c : ℕ) → Contains cs c → value_at v c ≡ value_at w c) →
      AllByRecursion (λ c. value_at v c ≡ value_at w c) cs
  from-members v w cs h =
      recursion_from_All (λ c. value_at v c ≡ value_at w c) cs
      (λ k e below. h (slice_index_or cs k e) (Contains-get_or cs k e below))

  round-agree : (v w : List ℤ) (b : ℕ) → ((c : ℕ) → Contains (needs_inside d s b) c → value_at v c ≡ value_at w c) →
      value_at (next_round v) b ≡ value_at (next_round w) b
  round-agree v w b h = by_row-agree d.rows (guarded v) (guarded w) b (guarded-agree v w b (from-members v w (needs_inside d s b) h))

  round-equal : (v w : List ℤ) → ((c : ℕ) → value_at v c ≡ value_at w c) → next_round v ≡ next_round w
  round-equal v w h =
      by_row-equal d.rows (guarded v) (guarded w)
      (λ b. guarded-agree v w b (from-members v w (needs_inside d s b) (λ c k. h c)))

  -- two solutions agree at a row, by how far its walks go
  same-at : (v w : List ℤ) → v ≡ next_round v → w ≡ next_round w → (n b : ℕ) → Within (needs_inside d s) n b → value_at v b ≡ value_at w b
  same-at v w ev ew zero b h = absurd h
  same-at v w ev ew (suc n) b h =
      ap (λ l. value_at l b) ev ∙ round-agree v w b (λ c k. same-at v w ev ew n c (h c k)) ∙ sym (ap (λ l. value_at l b) ew)

  -- after n rounds from nothing
  abbrev rounds : ℕ → List ℤ
  rounds zero = []
  rounds (suc n) = next_round (rounds n)

  settled : (n k b : ℕ) → Within (needs_inside d s) n b → n ≤ k → value_at (rounds k) b ≡ value_at (rounds (suc k)) b
  settled zero k b h le = absurd h
  settled (suc n) zero b h le = absurd (omega arith)
  settled (suc n) (suc k) b h le = round-agree (rounds k) (rounds (suc k)) b (λ c i. settled n k c (h c i) (omega arith))

  -- the solution
  abbrev pub solution : List ℤ
  solution = rounds (suc (suc (length d.rows)))

  -- what holds of nothing, and of each round where it does of the one before, holds of the solution
  rounds-keep : (P : List ℤ → Type 0) → P [] → ((v : List ℤ) → P v → P (next_round v)) → (n : ℕ) → P (rounds n)
  rounds-keep P none more zero = none
  rounds-keep P none more (suc n) = more (rounds n) (rounds-keep P none more n)

  pub solution-keeps : (P : List ℤ → Type 0) → P [] → ((v : List ℤ) → P v → P (next_round v)) → P solution
  solution-keeps P none more = rounds-keep P none more (suc (suc (length d.rows)))

  module _ (none : HasNoLoop (needs_of d)) where
    pub short : (b : ℕ) → Within (needs_inside d s) (suc (length d.rows)) b
    short b = within (needs_inside d s) (length d.rows) (needs-bounded d s) (HasNoLoop-inside d s none) b

    pub solution-solves : solution ≡ next_round solution
    solution-solves =
        round-equal (rounds (suc (length d.rows))) solution
        (λ c. settled (suc (length d.rows)) (suc (length d.rows)) c (short c) (omega arith))

    pub solution-only : (v : List ℤ) → v ≡ next_round v → v ≡ solution
    solution-only v e =
        e ∙ round-equal v solution (λ c. same-at v solution e solution-solves (suc (length d.rows)) c (short c))
        ∙ sym solution-solves
