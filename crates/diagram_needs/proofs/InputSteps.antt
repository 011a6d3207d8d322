-- The inputs of a system that rows reach, as masks.
use Rattle.std.specs.Prelude.{◌≡◌, ℕ, zero, suc, ◌+◌, ◌-◌, ◌*◌, ◌/◌, ◌%◌, ◌^◌, ◌<◌, ◌≤◌, true, IsTrue, List, [], ◌∷◌, ◌++◌, length, get_or, IsBitSet, Option, Some, None, ◌↔◌, refl}
use Rattle.std.proofs.Common.{arith, sym, ap, subst, ◌∙◌, inl, inr, length-append, true≢false, eq-eqb}
use Rattle.std.proofs.Math.Nat.{div-eq_of_lt-le, pow-suc}
use Rattle.std.proofs.lemmas.List.{get_or_default, get_or-append_right, get_or_append_left}
use Rattle.std.proofs.lemmas.Nat.{pow_apart}
use Rattle.std.specs.Int.Bits.{bit_or, and_zero_l}
use Rattle.base_core.specs.declared.Control.{Control}
use Rattle.base_core.specs.declared.Control.TheVariants.{Plain, Enabled, Triggered, Both}
use Rattle.diagram_blocks.specs.declared.Kind.TheVariants.{Inport}
use Rattle.base_graph.specs.NeedsGraph.{NeedsGraph}
use Rattle.base_graph.specs.Masks.{AreMasks}
use Rattle.base_graph.specs.Reaching as graph
use Rattle.base_graph.proofs.lemmas.Bits.{set-from_one, or-left, or-right, or-cases}
use Rattle.diagram_meaning.specs.declared.table.Row.{Row}
use Rattle.diagram_meaning.specs.Rows.{row_at, no_row, control_at, system_control, same_system, is_enabled, is_triggered}
use Rattle.diagram_blocks.specs.Kinds.{control_of}
use Rattle.diagram_meaning.specs.Walk.{Reaches}
use Rattle.diagram_meaning.specs.Diagram.{Diagram}
use Rattle.diagram_meaning.specs.Needs.{needs_inside, IsInputRow, TrueNeeds, IsMaskOf}
use Rattle.diagram_meaning.proofs.lemmas.Tick.{row_at-past}
use Rattle.diagram_meaning.proofs.lemmas.RestsOnNeeds.{same_system-equal}
use Rattle.diagram_needs.specs.Needed.{needed, IsGraphOf}
use Rattle.base_core.specs.Ports.{control_mask}
use Rattle.diagram_needs.specs.TrueNeeds.{AreInputBits, AreReachedInputs}
use Rattle.diagram_needs.proofs.Comparing.{le-or-above}
use Rattle.diagram_needs.proofs.NeededSteps.{walk-from_graph, walk-to_graph}
use Rattle.diagram_needs.proofs.GraphSteps.{walk-to, graph-to, graph-from}

same_system-self : (s : Option ℕ) → same_system s s ≡ true
same_system-self None = refl
same_system-self (Some k) = eq-eqb k k refl

pub inputs-none : (rows : List Row) (s : Option ℕ) → AreInputBits rows s 0 []
inputs-none rows s = record { len = refl; bits = λ b k below. absurd (omega arith) }

pub inputs-more : (rows : List Row) (s : Option ℕ) (n m x : ℕ) (xs : List ℕ) (row : Row) → m ≡ n + 1 → n < length rows →
    row ≡ row_at rows n →
    ((k : ℕ) → IsBitSet x k ↔ ((k < 32) × (IsTrue (same_system row.owner s) × (row.kind ≡ Inport (suc k))))) →
    AreInputBits rows s n xs → AreInputBits rows s m (xs ++ x ∷ [])
inputs-more rows s n m x xs row e inside read bit are = record {
  len = let l = are.len in length-append xs (x ∷ []) ∙ omega arith;
  bits = λ b k below. elim (le-or-above n b) [
    | inl last ↦ let same : n ≡ b = omega arith in
        let at : get_or (xs ++ x ∷ []) n 0 ≡ x = get_or-append_right xs (x ∷ []) n n 0 are.len (omega arith)
        ∙ ap (λ q. get_or (x ∷ []) q 0) (let z : n - n ≡ 0 = omega arith in z) in
        subst (λ q. IsBitSet (get_or (xs ++ x ∷ []) q 0) k ↔ ((k < 32) × IsInputRow rows s (suc k) q)) same
        (subst (λ y. IsBitSet y k ↔ ((k < 32) × IsInputRow rows s (suc k) n)) (sym at) (
          λ h. let r = (bit k).0 h in (
            r.0,
            record {
              in_table = inside;
              is_inport = ap (λ (q : Row). q.kind) (sym read) ∙ r.1.1;
              is_own = ap (λ (q : Row). q.owner) (sym read) ∙ same_system-equal row.owner s r.1.0;
            },
          ),
          λ h. (bit k).1 (
            h.0,
            (
              ap (λ o. same_system o s) (ap (λ (q : Row). q.owner) read ∙ h.1.is_own) ∙ same_system-self s,
              ap (λ (q : Row). q.kind) read ∙ h.1.is_inport,
            ),
          ),
        ))
    | inr before ↦
        let at : get_or (xs ++ x ∷ []) b 0 ≡ get_or xs b 0 = get_or_append_left xs (x ∷ []) 0 b (let l = are.len in omega arith) in
        subst (λ y. IsBitSet y k ↔ ((k < 32) × IsInputRow rows s (suc k) b)) (sym at) (are.bits b k before)
  ];
}

-- what the masks of the graph say of the diagram
module _ (d : Diagram) (s : Option ℕ) (g : NeedsGraph) (is : IsGraphOf d.rows (needs_inside d s) g)
    (source masks : List ℕ) (own : AreInputBits d.rows s (length d.rows) source) (are : AreMasks g source masks) where
  reach-to : (a b : ℕ) → graph.Reaches g a b → Reaches (needs_inside d s) b a
  reach-to a b (inl same) = inl (sym same)
  reach-to a b (inr walk) =
      inr (
        walk.0,
        walk-to (needed g) (needs_inside d s) (graph-to d.rows (needs_inside d s) g is) b walk.0 a
            (walk-from_graph g b walk.0 a walk.1),
      )

  reach-from : (a b : ℕ) → Reaches (needs_inside d s) b a → graph.Reaches g a b
  reach-from a b (inl same) = inl (sym same)
  reach-from a b (inr walk) =
      inr (
        walk.0,
        walk-to_graph g b walk.0 a
            (walk-to (needs_inside d s) (needed g) (graph-from d.rows (needs_inside d s) g is) b walk.0 a walk.1),
      )

  pub reached-inputs : AreReachedInputs d s masks
  reached-inputs = record {
    len = are.len ∙ is.size;
    bits = λ b k below. (
      λ h.
          let r = (are.bits b k (let e = is.size in omega arith)).0 h in
          let t = (own.bits r.0 k (let e = is.size in let l = r.1 in omega arith)).0 r.3 in
          (t.0, (r.0, t.1, reach-to r.0 b r.2)),
      λ h.
          let inside = h.1.1.in_table in
          (are.bits b k (let e = is.size in omega arith)).1 (
            h.1.0,
            (let e = is.size in omega arith),
            reach-from h.1.0 b h.1.2,
            (own.bits h.1.0 k inside).1 (h.0, h.1.1),
          ),
    );
  }

-- a number without high bits is low
no-high : (m j : ℕ) → m < 2 ^ suc j → (IsBitSet m j → ⊥) → m < 2 ^ j
no-high m j below none = elim (le-or-above (2 ^ j) m) [
  | inl high ↦
      let twice : 2 ^ suc j ≡ 2 ^ j * 2 = pow-suc 2 j in
      let one : m / 2 ^ j ≡ 1 = div-eq_of_lt-le {k = 1} (2 ^ j) {m = m} (omega (arith, high)) (omega (arith, below, twice)) in
      absurd (none (set-from_one m j (ap (λ q. q % 2) one)))
  | inr low ↦ low
]

all-low : (n m : ℕ) → m < 2 ^ (34 + n) → ((k : ℕ) → 34 ≤ k → IsBitSet m k → ⊥) → m < 2 ^ 34
all-low zero m below none = below
all-low (suc n) m below none =
    let e : 34 + suc n ≡ suc (34 + n) = omega arith in
    all-low n m (no-high m (34 + n) (subst (λ q. m < 2 ^ q) e below) (none (34 + n) (omega arith))) none

-- ---- The bit of a control

one-bit : (i k : ℕ) → IsBitSet (2 ^ i) k → k ≡ i
one-bit i k set = elim (le-or-above k i) [
  | inl low ↦ elim (le-or-above i k) [ inl high ↦ omega arith | inr less ↦ absurd (set (pow_apart i k (λ e. omega (arith, e, less)))) ]
  | inr high ↦ absurd (set (pow_apart i k (λ e. omega (arith, e, high))))
]

control-bits : (c : Control) (k : ℕ) → IsBitSet (control_mask c) k → (32 ≤ k) × (k < 34)
control-bits Plain k set = absurd (set (and_zero_l (2 ^ k)))
control-bits (Enabled reset) k set = let e : k ≡ 32 = one-bit 32 k set in (omega arith, omega arith)
control-bits (Triggered edge) k set = let e : k ≡ 33 = one-bit 33 k set in (omega arith, omega arith)
control-bits (Both reset edge) k set = elim (or-cases (2 ^ 32) (2 ^ 33) k set) [
  | inl enable ↦ let e : k ≡ 32 = one-bit 32 k enable in (omega arith, omega arith)
  | inr trigger ↦ let e : k ≡ 33 = one-bit 33 k trigger in (omega arith, omega arith)
]

control-enable : (c : Control) → IsBitSet (control_mask c) 32 ↔ IsTrue (is_enabled c)
control-enable Plain = (λ b. absurd (b refl), λ t. absurd (true≢false (sym t)))
control-enable (Enabled reset) = (λ b. refl, λ t e. let no : 2 ^ 32 ≡ 0 = e in omega arith)
control-enable (Triggered edge) = (λ b. absurd (b refl), λ t. absurd (true≢false (sym t)))
control-enable (Both reset edge) = (λ b. refl, λ t e. let no : 2 ^ 32 ≡ 0 = e in omega arith)

control-trigger : (c : Control) → IsBitSet (control_mask c) 33 ↔ IsTrue (is_triggered c)
control-trigger Plain = (λ b. absurd (b refl), λ t. absurd (true≢false (sym t)))
control-trigger (Enabled reset) = (λ b. absurd (b refl), λ t. absurd (true≢false (sym t)))
control-trigger (Triggered edge) = (λ b. refl, λ t e. let no : 2 ^ 33 ≡ 0 = e in omega arith)
control-trigger (Both reset edge) = (λ b. refl, λ t e. let no : 2 ^ 33 ≡ 0 = e in omega arith)

pub control_inside : (rows : List Row) (b : ℕ) (row : Row) → b < length rows → row ≡ get_or rows b row →
    control_mask (control_of row.kind) ≡ control_mask (control_at rows b)
control_inside rows b row inside read = ap (λ (r : Row). control_mask (control_of r.kind)) (read ∙ get_or_default rows b row no_row inside)

pub control_past : (rows : List Row) (b : ℕ) → length rows ≤ b → 0 ≡ control_mask (control_at rows b)
control_past rows b past = elim (row_at-past rows b) [
  | inl below ↦ absurd (omega (arith, past, below))
  | inr e ↦ sym (ap (λ (r : Row). control_mask (control_of r.kind)) e)
]

-- the mask of a row of the table, with that of the control
pub reached-mask : (d : Diagram) (s : Option ℕ) (masks : List ℕ) → AreReachedInputs d s masks → (o : ℕ) → o < length d.rows →
    bit_or (get_or masks o 0) (control_mask (system_control d.rows s)) < 2 ^ 64 →
    IsMaskOf (TrueNeeds d s o) (bit_or (get_or masks o 0) (control_mask (system_control d.rows s)))
reached-mask d s masks are o inside fits =
    let m : ℕ = get_or masks o 0 in
    let control : Control = system_control d.rows s in
    record {
      bounded = all-low 30 (bit_or m (control_mask control)) fits (λ k high bit. elim (or-cases m (control_mask control) k bit) [
        | inl own ↦ let low = ((are.bits o k inside).0 own).0 in omega (arith, low, high)
        | inr theirs ↦ let low = (control-bits control k theirs).1 in omega (arith, low, high)
      ]);
      number = λ k above most.
          let same : suc (k - 1) ≡ k = omega arith in (
            λ bit. elim (or-cases m (control_mask control) (k - 1) bit) [
              | inl own ↦ let r = ((are.bits o (k - 1) inside).0 own).1 in (r.0, subst (λ q. IsInputRow d.rows s q r.0) same r.1, r.2)
              | inr theirs ↦ absurd (let high = (control-bits control (k - 1) theirs).0 in omega (arith, high, above, most))
            ],
            λ t. or-left m (control_mask control) (k - 1)
                ((are.bits o (k - 1) inside).1 (
                  (let q = most in omega arith),
                  (t.0, subst (λ q. IsInputRow d.rows s q t.0) (sym same) t.1, t.2),
                )),
          );
      enable = (
        λ bit. elim (or-cases m (control_mask control) 32 bit) [
          | inl own ↦ absurd (let low = ((are.bits o 32 inside).0 own).0 in omega (arith, low))
          | inr theirs ↦ (control-enable control).0 theirs
        ],
        λ t. or-right m (control_mask control) 32 ((control-enable control).1 t),
      );
      trigger = (
        λ bit. elim (or-cases m (control_mask control) 33 bit) [
          | inl own ↦ absurd (let low = ((are.bits o 33 inside).0 own).0 in omega (arith, low))
          | inr theirs ↦ (control-trigger control).0 theirs
        ],
        λ t. or-right m (control_mask control) 33 ((control-trigger control).1 t),
      );
    }
