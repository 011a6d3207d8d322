-- What a row inside a child needs in the child is inside it.
use Rattle.std.specs.Prelude.{◌≡◌, ◌≢◌, ◌⊎◌, ℕ, zero, suc, ◌<◌, ◌≤◌, Bool, true, false, ◌&&◌, if◌then◌else◌, List, [], ◌∷◌, length, Contains, Option, Some, None, IsTrue, refl}
use Rattle.std.proofs.Common.{sym, ap, subst, ◌∙◌, arith, inl, inr, true≢false}
use Rattle.std.proofs.lemmas.Bool.{cases_eq, cases_lt, eq-eqb, ne_eqb}
use Rattle.std.proofs.lemmas.List.{get_or_past}
use Rattle.std.proofs.lemmas.List.Elements.{Contains-append_cases, All-from_recursion}
use Rattle.diagram_blocks.specs.declared.Kind.{Kind}
use Rattle.diagram_blocks.specs.declared.Kind.TheVariants.{Inport, SubSystem}
use Rattle.diagram_blocks.specs.Value.{feeds_through}
use Rattle.diagram_meaning.specs.declared.table.Row.{Row}
use Rattle.diagram_meaning.specs.Rows.{row_at, no_row, is_system, same_system, outward, around_inside, is_inport_of}
use Rattle.diagram_blocks.specs.Kinds.{is_inport, is_subsystem}
use Rattle.diagram_meaning.specs.Diagram.{Diagram, op_at}
use Rattle.diagram_meaning.specs.Needs.{inputs_used, needs_inside}
use Rattle.diagram_meaning.specs.Inputs.{wires_of_rows}
use Rattle.diagram_meaning.specs.WellFormed.{IsNested, IsOwner, IsWired, IsWireIn, reading_system}
use Rattle.modules_profile.proofs.ChildNeeds.{LeadsTo, IsBefore, IsInsideChild, inner, inner-kept, inner-left}

nothing : {X : Type 0} (x : X) → Contains [] x → ⊥
nothing x (k, below, is) = omega arith

module _ (rows : List Row) (nested : IsNested rows) (wired : IsWired rows) (s : Option ℕ) (e : ℕ)
    (owned : (row_at rows e).owner ≡ s) (before : IsBefore s e) where
  leads-none : (n : ℕ) → LeadsTo rows e n None → ⊥
  leads-none zero h = h
  leads-none (suc n) h = h

  through : (m n g : ℕ) → g ≤ m → g < length rows → (o : Option ℕ) → IsOwner rows g o → LeadsTo rows e n o →
      ((f : ℕ) → f < m → f < length rows → LeadsTo rows e n (Some f) → LeadsTo rows e m (Some f)) → LeadsTo rows e m o
  through m n g low below None owner h more = absurd (leads-none n h)
  through m n g low below (Some f) owner h more = more f (let o = owner.0 in omega arith) (let o = owner.0 in omega arith) h

  -- more steps than a number has make no difference
  leads-more : (m n g : ℕ) → g < m → g < length rows → LeadsTo rows e n (Some g) → LeadsTo rows e m (Some g)
  leads-more zero n g low below h = absurd (omega arith)
  leads-more (suc m) zero g low below h = absurd h
  leads-more (suc m) (suc n) g low below (inl same) = inl same
  leads-more (suc m) (suc n) g low below (inr (behind, rest)) =
      inr (
        behind,
        through m n g (omega arith) below (row_at rows g).owner (nested.owned g below) rest
            (λ f fewer inside led. leads-more m n f fewer inside led),
      )

  leads-owner : (m n g : ℕ) → g ≤ m → g < length rows → (o : Option ℕ) → IsOwner rows g o → LeadsTo rows e n o → LeadsTo rows e m o
  leads-owner m n g low below o owner h = through m n g low below o owner h (λ f fewer inside led. leads-more m n f fewer inside led)

  leads-behind : (n g x : ℕ) → g < x → LeadsTo rows e n (Some g) → e < x
  leads-behind zero g x low h = absurd h
  leads-behind (suc n) g x low (inl same) = omega arith
  leads-behind (suc n) g x low (inr (behind, rest)) = omega arith

  behind-by : (n x : ℕ) (o : Option ℕ) → IsOwner rows x o → LeadsTo rows e n o → e < x
  behind-by n x None owner h = absurd (leads-none n h)
  behind-by n x (Some g) owner h = leads-behind n g x owner.0 h

  inside-from : (n c : ℕ) → c < length rows → LeadsTo rows e n (row_at rows c).owner → IsInsideChild rows s e owned before c
  inside-from n c below h = record {
    behind = behind-by n c (row_at rows c).owner (nested.owned c below) h;
    leads = leads-owner (length rows) n c (omega arith) below (row_at rows c).owner (nested.owned c below) h;
  }

  -- a wire read in a system inside the child, or in the child, is inside it
  wire-inside : (n : ℕ) (o : Option ℕ) (c : ℕ) → LeadsTo rows e n o → IsWireIn rows o c → IsInsideChild rows s e owned before c
  wire-inside n o c h (below, inl (own, has)) = inside-from n c below (subst (LeadsTo rows e n) (sym own) h)
  wire-inside n o c h (below, inr (port, (g, owner, outer))) = inside-from (suc n) c below (subst (LeadsTo rows e (suc n)) (sym owner) one)
    where
      is_owner : (g < c) × IsTrue (is_subsystem (row_at rows g).kind)
      is_owner = subst (IsOwner rows c) owner (nested.owned c below)

      in_table : g < length rows
      in_table = let o = is_owner.0 in omega arith

      leads : LeadsTo rows e n (row_at rows g).owner
      leads = subst (LeadsTo rows e n) (sym outer) h

      one : LeadsTo rows e (suc n) (Some g)
      one = inr (behind-by n g (row_at rows g).owner (nested.owned g in_table) leads, leads)

  read : (b c : ℕ) → b < length rows → Contains (row_at rows b).inputs c →
      IsWireIn rows (reading_system rows (row_at rows b).kind (row_at rows b).owner) c
  read b c below (k, low, is) =
      subst (IsWireIn rows (reading_system rows (row_at rows b).kind (row_at rows b).owner)) is
      (All-from_recursion (IsWireIn rows (reading_system rows (row_at rows b).kind (row_at rows b).owner))
      (row_at rows b).inputs (wired.wires b below) k c low)

  -- where a row reads its wires, but an Inport of the child
  reads-by : (n : ℕ) (kind : Kind) (o : Option ℕ) → LeadsTo rows e n o →
      (is_inport kind && same_system o (Some e)) ≡ false → (m : ℕ) × LeadsTo rows e m (reading_system rows kind o)
  reads-by zero kind o h own = absurd h
  reads-by (suc n) kind None h own = absurd h
  reads-by (suc n) (Inport port) (Some g) (inl same) own = absurd (true≢false (sym (eq-eqb e g (sym same)) ∙ own))
  reads-by (suc n) (Inport port) (Some g) (inr (behind, rest)) own = (n, rest)
  reads-by (suc n) _ (Some g) h own = (suc n, h)

  subsystem-reads : (kind : Kind) (o : Option ℕ) → IsTrue (is_subsystem kind) → reading_system rows kind o ≡ o
  subsystem-reads (SubSystem control) o h = refl
  subsystem-reads _ o h = absurd (true≢false (sym h))

  -- the control wires of the subsystems outward, inside the child
  controls-inside : (n m : ℕ) (o : Option ℕ) (x c : ℕ) → IsOwner rows x o → x ≤ length rows → LeadsTo rows e m o →
      Contains (wires_of_rows rows (inner (Some e) (outward rows (Some e) n o))) c → IsInsideChild rows s e owned before c
  controls-inside zero m o x c owner low h k = absurd (nothing c k)
  controls-inside (suc n) m None x c owner low h k = absurd (leads-none m h)
  controls-inside (suc n) zero (Some g) x c owner low h k = absurd h
  controls-inside (suc n) (suc m) (Some g) x c owner low h k =
      by (cases_eq e g) (λ outer more. controls-inside n m (row_at rows g).owner g c (nested.owned g in_table)
      (let t = in_table in omega arith) outer more)
    where
      in_table : g < length rows
      in_table = let o = owner.0 in omega arith

      by : (e ≡ g) ⊎ (e ≢ g) →
          (LeadsTo rows e m (row_at rows g).owner →
          Contains (wires_of_rows rows (inner (Some e) (outward rows (Some e) n (row_at rows g).owner))) c →
          IsInsideChild rows s e owned before c) →
          IsInsideChild rows s e owned before c
      by (inl same) again = absurd (nothing c (subst (λ es. Contains (wires_of_rows rows es) c) none k))
        where
          own : is_system (Some e) g ≡ true
          own = eq-eqb e g same

          none : inner (Some e) (outward rows (Some e) (suc n) (Some g)) ≡ []
          none = ap (λ r. inner (Some e) (g ∷ (if r then [] else outward rows (Some e) n (row_at rows g).owner))) own
              ∙ inner-left (Some e) g [] own
      by (inr other) again =
          elim (Contains-append_cases (row_at rows g).inputs
          (wires_of_rows rows (inner (Some e) (outward rows (Some e) n (row_at rows g).owner))) c
          (subst (λ es. Contains (wires_of_rows rows es) c) kept k)) [
            | inl wire ↦
                wire-inside m (row_at rows g).owner c outer
                (subst (λ o. IsWireIn rows o c) (subsystem-reads (row_at rows g).kind (row_at rows g).owner owner.1)
                (read g c in_table wire))
            | inr more ↦ again outer more
          ]
        where
          apart : is_system (Some e) g ≡ false
          apart = ne_eqb e g other

          outer : LeadsTo rows e m (row_at rows g).owner
          outer = elim h [ inl same ↦ absurd (other (sym same)) | inr (behind, rest) ↦ rest ]

          kept : inner (Some e) (outward rows (Some e) (suc n) (Some g))
              ≡ g ∷ inner (Some e) (outward rows (Some e) n (row_at rows g).owner)
          kept = ap (λ r. inner (Some e) (g ∷ (if r then [] else outward rows (Some e) n (row_at rows g).owner))) apart
              ∙ inner-kept (Some e) g (outward rows (Some e) n (row_at rows g).owner) apart

module _ (d : Diagram) (nested : IsNested d.rows) (wired : IsWired d.rows) (s : Option ℕ) (e : ℕ)
    (owned : (row_at d.rows e).owner ≡ s) (before : IsBefore s e) where
  used-inside : (x c : ℕ) → x < length d.rows → LeadsTo d.rows e (length d.rows) (row_at d.rows x).owner →
      (own feeds : Bool) → is_inport_of d.rows (Some e) x ≡ own →
      Contains (if own then [] else (if feeds then (row_at d.rows x).inputs else [])) c → IsInsideChild d.rows s e owned before c
  used-inside x c below h true feeds is k = absurd (nothing c k)
  used-inside x c below h false false is k = absurd (nothing c k)
  used-inside x c below h false true is k =
      let reads = reads-by d.rows nested wired s e owned before (length d.rows) (row_at d.rows x).kind (row_at d.rows x).owner h is in
      wire-inside d.rows nested wired s e owned before reads.0
      (reading_system d.rows (row_at d.rows x).kind (row_at d.rows x).owner) c reads.1
      (read d.rows nested wired s e owned before x c below k)

  -- what a row inside the child needs in the child is inside it
  pub closed : (x c : ℕ) → IsInsideChild d.rows s e owned before x → Contains (needs_inside d (Some e) x) c →
      IsInsideChild d.rows s e owned before c
  closed x c inside k = elim (cases_lt x (length d.rows)) [
    | inl below ↦
        elim (Contains-append_cases (if is_inport_of d.rows (Some e) x then [] else inputs_used d x)
        (wires_of_rows d.rows (around_inside d.rows (Some e) x)) c k) [
          | inl used ↦ used-inside x c below inside.leads (is_inport_of d.rows (Some e) x) (feeds_through (op_at d x)) refl used
          | inr control ↦ controls-inside d.rows nested wired s e owned before (length d.rows) (length d.rows)
              (row_at d.rows x).owner x c (nested.owned x below) (omega arith) inside.leads
              (subst (λ es. Contains (wires_of_rows d.rows es) c) around control)
        ]
    | inr past ↦ absurd (leads-none d.rows nested wired s e owned before (length d.rows)
        (subst (λ (row : Row). LeadsTo d.rows e (length d.rows) row.owner) (get_or_past d.rows x no_row past) inside.leads))
  ]
    where
      around : around_inside d.rows (Some e) x ≡ inner (Some e) (outward d.rows (Some e) (length d.rows) (row_at d.rows x).owner)
      around =
          ap (λ r. inner (Some e) (if r then [] else outward d.rows (Some e) (length d.rows) (row_at d.rows x).owner))
          (ne_eqb e x (λ same. let b = inside.behind in omega arith))
