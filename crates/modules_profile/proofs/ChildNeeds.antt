-- What the rows inside a child need, seen from the child and from the system around it.
use Rattle.std.specs.Prelude.{◌≡◌, ◌⊎◌, ℕ, zero, suc, ◌<◌, Bool, true, false, not, ◌&&◌, if◌then◌else◌, cond, List, [], ◌∷◌, ◌++◌, filter, length, Contains, Option, Some, None, ⊤, refl}
use Rattle.std.proofs.Common.{sym, ap, subst, ◌∙◌, arith, inl, inr, append_assoc, append-nil}
use Rattle.std.proofs.lemmas.Bool.{eq-eqb, ne_eqb}
use Rattle.std.proofs.lemmas.List.Elements.{Contains-append_left, Contains-append_right, Contains-append_cases}
use Rattle.diagram_meaning.specs.declared.table.Row.{Row}
use Rattle.diagram_meaning.specs.Rows.{row_at, is_system, same_system, outward, enclosing, around_inside, is_inport_of}
use Rattle.diagram_blocks.specs.Kinds.{is_inport}
use Rattle.diagram_meaning.specs.Diagram.{Diagram}
use Rattle.diagram_meaning.specs.Needs.{inputs_used, needs_inside}
use Rattle.diagram_meaning.specs.Inputs.{wires_of_rows}

-- n steps outward from a system lead to subsystem e
abbrev pub LeadsTo : List Row → ℕ → ℕ → Option ℕ → Type 0
LeadsTo rows e zero o = ⊥
LeadsTo rows e (suc n) None = ⊥
LeadsTo rows e (suc n) (Some g) = (g ≡ e) ⊎ ((e < g) × LeadsTo rows e n (row_at rows g).owner)

-- a system's number, if it has one, is below n
abbrev pub IsBefore : Option ℕ → ℕ → Type 0
IsBefore None n = ⊤
IsBefore (Some f) n = f < n

not-before : (s : Option ℕ) (g : ℕ) → IsBefore s g → is_system s g ≡ false
not-before None g h = refl
not-before (Some f) g h = ne_eqb f g (λ same. omega arith)

-- those of some subsystems that are inside s
abbrev pub inner : Option ℕ → List ℕ → List ℕ
inner s es = filter (λ k. not (is_system s k)) es

pub inner-kept : (s : Option ℕ) (g : ℕ) (es : List ℕ) → is_system s g ≡ false → inner s (g ∷ es) ≡ g ∷ inner s es
inner-kept s g es e = ap (λ r. cond (not r) (g ∷ inner s es) (inner s es)) e

pub inner-left : (s : Option ℕ) (g : ℕ) (es : List ℕ) → is_system s g ≡ true → inner s (g ∷ es) ≡ inner s es
inner-left s g es e = ap (λ r. cond (not r) (g ∷ inner s es) (inner s es)) e

module _ (rows : List Row) where
  on : Option ℕ → ℕ → ℕ → Bool → List ℕ
  on s n g r = if r then [] else outward rows s n (row_at rows g).owner

  -- from s itself there is nothing inside s
  pub nothing-inside : (s : Option ℕ) (n : ℕ) → inner s (outward rows s n s) ≡ []
  nothing-inside s zero = refl
  nothing-inside None (suc n) = refl
  nothing-inside (Some f) (suc n) =
      let own = eq-eqb f f refl in
      ap (λ r. inner (Some f) (f ∷ (if r then [] else outward rows (Some f) n (row_at rows f).owner))) own ∙ inner-left (Some f) f [] own

  module _ (s : Option ℕ) (e : ℕ) (owned : (row_at rows e).owner ≡ s) (before : IsBefore s e) where
    later : (g : ℕ) → e < g → IsBefore s g
    later g below = by s before
      where
        by : (s : Option ℕ) → IsBefore s e → IsBefore s g
        by None h = tt
        by (Some f) h = omega arith

    -- outward from a system inside e: those inside e, and then e
    pub outward-through : (n : ℕ) (o : Option ℕ) → LeadsTo rows e n o →
        inner s (outward rows s n o) ≡ inner (Some e) (outward rows (Some e) n o) ++ e ∷ []
    outward-through zero o h = absurd h
    outward-through (suc n) None h = absurd h
    outward-through (suc n) (Some g) (inl same) =
        subst (λ k. inner s (outward rows s (suc n) (Some k)) ≡ inner (Some e) (outward rows (Some e) (suc n) (Some k))
        ++ e ∷ []) (sym same) here
      where
        apart : is_system s e ≡ false
        apart = not-before s e before

        own : is_system (Some e) e ≡ true
        own = eq-eqb e e refl

        outer : inner s (outward rows s (suc n) (Some e)) ≡ e ∷ []
        outer = ap (λ r. inner s (e ∷ (if r then [] else outward rows s n (row_at rows e).owner))) apart
            ∙ inner-kept s e (outward rows s n (row_at rows e).owner) apart
            ∙ ap (λ o. e ∷ inner s (outward rows s n o)) owned ∙ ap (λ es. e ∷ es) (nothing-inside s n)

        within : inner (Some e) (outward rows (Some e) (suc n) (Some e)) ≡ []
        within = ap (λ r. inner (Some e) (e ∷ (if r then [] else outward rows (Some e) n (row_at rows e).owner))) own
            ∙ inner-left (Some e) e [] own

        here : inner s (outward rows s (suc n) (Some e)) ≡ inner (Some e) (outward rows (Some e) (suc n) (Some e)) ++ e ∷ []
        here = outer ∙ sym (ap (λ es. es ++ e ∷ []) within)
    outward-through (suc n) (Some g) (inr (below, rest)) =
        ap (λ r. inner s (g ∷ (if r then [] else outward rows s n (row_at rows g).owner))) apart
        ∙ inner-kept s g (outward rows s n (row_at rows g).owner) apart
        ∙ ap (λ es. g ∷ es) (outward-through n (row_at rows g).owner rest)
        ∙ sym (ap (λ es. es ++ e ∷ [])
        (ap (λ r. inner (Some e) (g ∷ (if r then [] else outward rows (Some e) n (row_at rows g).owner))) other
        ∙ inner-kept (Some e) g (outward rows (Some e) n (row_at rows g).owner) other))
      where
        apart : is_system s g ≡ false
        apart = not-before s g (later g below)

        other : is_system (Some e) g ≡ false
        other = ne_eqb e g (λ same. omega arith)

    -- row x is inside e
    pub record IsInsideChild (x : ℕ) : Type 0 where
      pub behind : e < x
      pub leads : LeadsTo rows e (length rows) (row_at rows x).owner

    pub around-through : (x : ℕ) → IsInsideChild x → around_inside rows s x ≡ around_inside rows (Some e) x ++ e ∷ []
    around-through x inside =
        ap (λ r. inner s (if r then [] else enclosing rows s (row_at rows x).owner)) (not-before s x (later x inside.behind))
        ∙ outward-through (length rows) (row_at rows x).owner inside.leads
        ∙ sym (ap (λ r. inner (Some e) (if r then [] else enclosing rows (Some e) (row_at rows x).owner) ++ e ∷ [])
        (ne_eqb e x (λ same. let b = inside.behind in omega arith)))

control_wires-append : (rows : List Row) (es fs : List ℕ) → wires_of_rows rows (es ++ fs) ≡ wires_of_rows rows es ++ wires_of_rows rows fs
control_wires-append rows [] fs = refl
control_wires-append rows (e ∷ es) fs = ap (λ ws. (row_at rows e).inputs ++ ws) (control_wires-append rows es fs)
    ∙ sym (append_assoc (row_at rows e).inputs (wires_of_rows rows es) (wires_of_rows rows fs))

module _ (d : Diagram) (s : Option ℕ) (e : ℕ) (owned : (row_at d.rows e).owner ≡ s) (before : IsBefore s e) (x : ℕ)
    (inside : IsInsideChild d.rows s e owned before x) where
  leads-apart : (n : ℕ) (o : Option ℕ) → LeadsTo d.rows e n o → same_system o s ≡ false
  leads-apart zero o h = absurd h
  leads-apart (suc n) None h = absurd h
  leads-apart (suc n) (Some g) (inl same) = not-before s g (subst (IsBefore s) (sym same) before)
  leads-apart (suc n) (Some g) (inr (below, rest)) = not-before s g (later d.rows s e owned before g below)

  no_own_inport : is_inport_of d.rows s x ≡ false
  no_own_inport =
      ap (λ r. is_inport (row_at d.rows x).kind && r) (leads-apart (length d.rows) (row_at d.rows x).owner inside.leads)
      ∙ no (is_inport (row_at d.rows x).kind)
    where
      no : (r : Bool) → (r && false) ≡ false
      no true = refl
      no false = refl

  -- what a row of the child needs in the system around it
  abbrev outer_needs : List ℕ
  outer_needs = inputs_used d x ++ wires_of_rows d.rows (around_inside d.rows (Some e) x ++ e ∷ [])

  needs-are : needs_inside d s x ≡ outer_needs
  needs-are =
      ap (λ r. (if r then [] else inputs_used d x) ++ wires_of_rows d.rows (around_inside d.rows s x)) no_own_inport
      ∙ ap (λ es. inputs_used d x ++ wires_of_rows d.rows es) (around-through d.rows s e owned before x inside)

  controls-are : wires_of_rows d.rows (around_inside d.rows (Some e) x ++ e ∷ [])
      ≡ wires_of_rows d.rows (around_inside d.rows (Some e) x) ++ ((row_at d.rows e).inputs ++ [])
  controls-are = control_wires-append d.rows (around_inside d.rows (Some e) x) (e ∷ [])

  -- a wire that enters the child: by an Inport of it, or by a control
  abbrev pub Enters : ℕ → Type 0
  Enters c = ((is_inport_of d.rows (Some e) x ≡ true) × Contains (inputs_used d x) c) ⊎ Contains (row_at d.rows e).inputs c

  used-inside : (c : ℕ) (own : Bool) → is_inport_of d.rows (Some e) x ≡ own → Contains (inputs_used d x) c →
      Contains (if own then [] else inputs_used d x) c ⊎ ((is_inport_of d.rows (Some e) x ≡ true) × Contains (inputs_used d x) c)
  used-inside c true own h = inr (own, h)
  used-inside c false own h = inl h

  -- what a row needs in the system around is what it needs in the child, or enters the child
  pub needs-outward : (c : ℕ) → Contains (needs_inside d s x) c → Contains (needs_inside d (Some e) x) c ⊎ Enters c
  needs-outward c h =
      elim (Contains-append_cases (inputs_used d x) (wires_of_rows d.rows (around_inside d.rows (Some e) x ++ e ∷ [])) c
      (subst (λ ws. Contains ws c) needs-are h)) [
        | inl used ↦ elim (used-inside c (is_inport_of d.rows (Some e) x) refl used) [
          | inl within ↦
              inl (Contains-append_left (if is_inport_of d.rows (Some e) x then [] else inputs_used d x)
              (wires_of_rows d.rows (around_inside d.rows (Some e) x)) c within)
          | inr entering ↦ inr (inl entering)
        ]
        | inr control ↦
            elim (Contains-append_cases (wires_of_rows d.rows (around_inside d.rows (Some e) x))
            ((row_at d.rows e).inputs ++ []) c (subst (λ ws. Contains ws c) controls-are control)) [
              | inl within ↦
                  inl (Contains-append_right (if is_inport_of d.rows (Some e) x then [] else inputs_used d x)
                  (wires_of_rows d.rows (around_inside d.rows (Some e) x)) c within)
              | inr own ↦ inr (inr (subst (λ ws. Contains ws c) (append-nil (row_at d.rows e).inputs) own))
            ]
      ]

  from-used : (c : ℕ) → Contains (inputs_used d x) c → Contains (needs_inside d s x) c
  from-used c h =
      subst (λ ws. Contains ws c) (sym needs-are)
      (Contains-append_left (inputs_used d x) (wires_of_rows d.rows (around_inside d.rows (Some e) x ++ e ∷ [])) c h)

  from-controls : (c : ℕ) →
      Contains (wires_of_rows d.rows (around_inside d.rows (Some e) x) ++ ((row_at d.rows e).inputs ++ [])) c →
      Contains (needs_inside d s x) c
  from-controls c h = subst (λ ws. Contains ws c) (sym needs-are)
      (Contains-append_right (inputs_used d x) (wires_of_rows d.rows (around_inside d.rows (Some e) x ++ e ∷ [])) c
      (subst (λ ws. Contains ws c) (sym controls-are) h))

  used-by : (c : ℕ) (own : Bool) → Contains (if own then [] else inputs_used d x) c → Contains (inputs_used d x) c
  used-by c true (k, below, is) = absurd (omega arith)
  used-by c false h = h

  -- and each of these is needed
  pub needs-inward : (c : ℕ) → Contains (needs_inside d (Some e) x) c ⊎ Enters c → Contains (needs_inside d s x) c
  needs-inward c (inl within) =
      elim (Contains-append_cases (if is_inport_of d.rows (Some e) x then [] else inputs_used d x)
      (wires_of_rows d.rows (around_inside d.rows (Some e) x)) c within) [
        | inl used ↦ from-used c (used-by c (is_inport_of d.rows (Some e) x) used)
        | inr control ↦
            from-controls c (Contains-append_left (wires_of_rows d.rows (around_inside d.rows (Some e) x))
            ((row_at d.rows e).inputs ++ []) c control)
      ]
  needs-inward c (inr (inl (own, used))) = from-used c used
  needs-inward c (inr (inr control)) =
      from-controls c (Contains-append_right (wires_of_rows d.rows (around_inside d.rows (Some e) x))
      ((row_at d.rows e).inputs ++ []) c (Contains-append_left (row_at d.rows e).inputs [] c control))
