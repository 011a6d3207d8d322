-- What an output is at a tick rests on what came before and on the inputs that it needs.
use Rattle.std.specs.Prelude.{◌≡◌, ℕ, zero, suc, ◌<◌, List, [], ◌∷◌, ◌++◌, take, length, Contains, slice_index_or, Option, Some, None, ℤ, pos, Bool, true, false, ◌&&◌, IsTrue, if◌then◌else◌, ◌⊎◌}
use Rattle.std.specs.List.{AllByRecursion}
use Rattle.std.proofs.Common.{refl, sym, ◌∙◌, ap, subst, arith, inl, inr, true-eqb, true≢false}
use Rattle.base_core.specs.declared.Control.{Control}
use Rattle.base_core.specs.declared.Control.TheVariants.{Plain, Enabled, Triggered, Both}
use Rattle.base_core.specs.declared.Port.TheVariants.{Number, Enable, Trigger}
use Rattle.diagram_activity.specs.declared.TrigMem.{TrigMem}
use Rattle.diagram_blocks.specs.declared.Kind.{Kind}
use Rattle.diagram_blocks.specs.declared.Kind.TheVariants.{Inport}
use Rattle.diagram_meaning.specs.declared.table.Row.{Row}
use Rattle.diagram_meaning.specs.Rows.{row_at, is_inport_of, same_system, is_system, is_enabled, is_triggered, control_at, system_control, is_inside, column}
use Rattle.diagram_blocks.specs.Kinds.{is_inport, port_of}
use Rattle.diagram_meaning.specs.Diagram.{Diagram}
use Rattle.diagram_meaning.specs.Needs.{needs_of, needs_inside, Reaches, HasNoLoop, IsInputRow, TrueNeeds}
use Rattle.diagram_meaning.specs.Run.{value_at, start_of, initial_memory, values_by, memories_by, triggers_by}
use Rattle.diagram_activity.specs.declared.TrigMem.TheVariants.{NotYet}
use Rattle.diagram_meaning.specs.Laws.{Run, AgreeOn, OutputRestsOnNeeds}
use Rattle.diagram_meaning.proofs.lemmas.ByRow.{by_row-agree}
use Rattle.diagram_meaning.proofs.lemmas.Agreement.{row_value-agree}
use Rattle.diagram_meaning.proofs.lemmas.Walks.{Within, walk-snoc}
use Rattle.diagram_meaning.proofs.lemmas.Tick.{row_at-past, agree-for, guarded, solution, solution-solves, short}
use Rattle.diagram_meaning.proofs.lemmas.OneRun.{solved, memories_after, triggers_after, whole-only}
use Rattle.std.proofs.lemmas.List.Elements.{recursion_from_All, Contains-get_or}

reaches-on : (needs : ℕ → List ℕ) (o b c : ℕ) → Reaches needs o b → Contains (needs b) c → Reaches needs o c
reaches-on needs o b c (inl e) h = inr ([], subst (λ z. Contains (needs z) c) (sym e) h)
reaches-on needs o b c (inr p) h = inr (p.0 ++ b ∷ [], walk-snoc needs o p.0 b c p.1 h)

-- what the tests say
pub same_system-equal : (o s : Option ℕ) → same_system o s ≡ true → o ≡ s
same_system-equal None None e = refl
same_system-equal None (Some k) e = absurd (true≢false (sym e))
same_system-equal (Some k) None e = absurd (true≢false (sym e))
same_system-equal (Some k) (Some j) e = ap Some (sym (true-eqb j k (sym e)))

pub is_inport-equal : (kind : Kind) → is_inport kind ≡ true → kind ≡ Inport (port_of kind)
is_inport-equal (Inport port) e = refl
is_inport-equal _ e = absurd (true≢false (sym e))

both : (a b : Bool) → (a && b) ≡ true → (a ≡ true) × (b ≡ true)
both true b e = (refl, e)
both false b e = absurd (true≢false (sym e))

input-row : (rows : List Row) (s : Option ℕ) (b : ℕ) → is_inport_of rows s b ≡ true → IsInputRow rows s (port_of (row_at rows b).kind) b
input-row rows s b e =
    let parts = both (is_inport (row_at rows b).kind) (same_system (row_at rows b).owner s) e in
    record {
      in_table =
          elim (row_at-past rows b) [
            | inl below ↦ below
            | inr past ↦
                absurd (true≢false (sym (let h : is_inport (row_at rows b).kind ≡ true = parts.0 in rw past at h)))
          ];
      is_inport = is_inport-equal (row_at rows b).kind parts.0;
      is_own = same_system-equal (row_at rows b).owner s parts.1;
    }

-- the trace's enable and trigger of s are not read, or are the same
own-enable : (d : Diagram) (s : Option ℕ) (x y : List ℤ) (o : ℕ) (c : Control) → c ≡ system_control d.rows s →
    AgreeOn d s (TrueNeeds d s o) x y →
    (is_enabled c ≡ false) ⊎ (value_at x (column d.rows s Enable) ≡ value_at y (column d.rows s Enable))
own-enable d s x y o Plain q a = inl refl
own-enable d s x y o (Enabled reset) q a = inr (a Enable (subst (λ c. IsTrue (is_enabled c)) q refl))
own-enable d s x y o (Triggered edge) q a = inl refl
own-enable d s x y o (Both reset edge) q a = inr (a Enable (subst (λ c. IsTrue (is_enabled c)) q refl))

own-trigger : (d : Diagram) (s : Option ℕ) (x y : List ℤ) (o : ℕ) (c : Control) → c ≡ system_control d.rows s →
    AgreeOn d s (TrueNeeds d s o) x y →
    (is_triggered c ≡ false) ⊎ (value_at x (column d.rows s Trigger) ≡ value_at y (column d.rows s Trigger))
own-trigger d s x y o Plain q a = inl refl
own-trigger d s x y o (Enabled reset) q a = inl refl
own-trigger d s x y o (Triggered edge) q a = inr (a Trigger (subst (λ c. IsTrue (is_triggered c)) q refl))
own-trigger d s x y o (Both reset edge) q a = inr (a Trigger (subst (λ c. IsTrue (is_triggered c)) q refl))

control_at-own : (d : Diagram) (s : Option ℕ) (e : ℕ) → is_system s e ≡ true → control_at d.rows e ≡ system_control d.rows s
control_at-own d None e q = absurd (true≢false (sym q))
control_at-own d (Some k) e q = ap (control_at d.rows) (sym (true-eqb k e (sym q)))

module _ (d : Diagram) (s : Option ℕ) (none : HasNoLoop (needs_of d)) (o : ℕ) where
  -- at one tick
  module _ (t : ℕ) (x y before : List ℤ) (m : List (List ℤ)) (g : List TrigMem) (a : AgreeOn d s (TrueNeeds d s o) x y) where
    same-from : (n b : ℕ) → Within (needs_inside d s) n b → Reaches (needs_inside d s) o b →
        value_at (solution d s t x before m g) b ≡ value_at (solution d s t y before m g) b
    same-from zero b h r = absurd h
    same-from (suc n) b h r =
        let v = solution d s t x before m g in
        let w = solution d s t y before m g in
        let needed : AllByRecursion (λ c. value_at v c ≡ value_at w c) (needs_inside d s b) =
        recursion_from_All (λ c. value_at v c ≡ value_at w c) (needs_inside d s b) (λ k z below.
        let c = slice_index_or (needs_inside d s b) k z in
        let member = Contains-get_or (needs_inside d s b) k z below in
        same-from n c (h c member) (reaches-on (needs_inside d s) o b c r member)) in
        let agree =
        agree-for d s x y v w g b
        (λ e q. (
          own-enable d s x y o (control_at d.rows e) (control_at-own d s e q) a,
          own-trigger d s x y o (control_at d.rows e) (control_at-own d s e q) a,
        ))
        (λ q. a (Number (port_of (row_at d.rows b).kind)) (b, input-row d.rows s b q, r)) needed in
        ap (λ l. value_at l b) (solution-solves d s t x before m g none)
        ∙ by_row-agree d.rows (guarded d s t x before m g v) (guarded d s t y before m g w) b
        (ap (λ z. if is_inside d.rows s b then z else pos 0) (row_value-agree d s x y v w g t before m b agree))
        ∙ sym (ap (λ l. value_at l b) (solution-solves d s t y before m g none))

    output-same : value_at (solution d s t x before m g) o ≡ value_at (solution d s t y before m g) o
    output-same = same-from (suc (length d.rows)) o (short d s t x before m g none o) (inl refl)

  head-same : (x y : List ℤ) (xs ys : List (List ℤ)) → x ∷ xs ≡ y ∷ ys → x ≡ y
  head-same x y xs ys e = cc e

  tail-same : (x y : List ℤ) (xs ys : List (List ℤ)) → x ∷ xs ≡ y ∷ ys → xs ≡ ys
  tail-same x y xs ys e = cc e

  later-same : (t k : ℕ) (before : List ℤ) (m : List (List ℤ)) (g : List TrigMem) (xs ys : List (List ℤ)) →
      t < length xs → t < length ys → take t xs ≡ take t ys →
      AgreeOn d s (TrueNeeds d s o) (slice_index_or xs t []) (slice_index_or ys t []) →
      value_at (slice_index_or (solved d s k before m g xs).values t []) o
      ≡ value_at (slice_index_or (solved d s k before m g ys).values t []) o
  later-same t k before m g [] ys lx ly e a = absurd (omega arith)
  later-same t k before m g (x ∷ xs) [] lx ly e a = absurd (omega arith)
  later-same zero k before m g (x ∷ xs) (y ∷ ys) lx ly e a = output-same k x y before m g a
  later-same (suc t) k before m g (x ∷ xs) (y ∷ ys) lx ly e a =
      let v = solution d s k x before m g in
      subst (λ z. value_at (slice_index_or (solved d s k before m g (x ∷ xs)).values (suc t) []) o
      ≡ value_at (slice_index_or (solved d s k before m g (z ∷ ys)).values (suc t) []) o)
      (head-same x y (take t xs) (take t ys) e)
      (later-same t (suc k) v (memories_after d s k x m g v) (triggers_after d s x g v) xs ys (omega arith)
      (omega arith) (tail-same x y (take t xs) (take t ys) e) a)

pub output_rests : OutputRestsOnNeeds
output_rests d s xs ys run other t o none r q lx ly e a =
    let one = ap (λ (z : Run). z.values) (whole-only d s none xs run.values run.memories run.triggers r) in
    let two = ap (λ (z : Run). z.values) (whole-only d s none ys other.values other.memories other.triggers q) in
    ap (λ l. value_at (slice_index_or l t []) o) one
    ∙ later-same d s none o t 0 (values_by d s (start_of d)) (memories_by d s (initial_memory d))
    (triggers_by d s (λ z. NotYet)) xs ys lx ly e a
    ∙ sym (ap (λ l. value_at (slice_index_or l t []) o) two)
