-- Each system of a model without a loop has a profile, and its children have headers.
use Rattle.std.specs.Prelude.{◌≡◌, ℕ, suc, ◌-◌, ◌<◌, ◌≤◌, nat_lt, Bool, true, false, ◌==◌, if◌then◌else◌, List, [], ◌∷◌, map, length, Contains, Option, Some, refl}
use Rattle.std.specs.List.{AllZip, range_with_len}
use Rattle.std.proofs.Common.{arith, sym, ap, ap₂, subst, ◌∙◌, inl, inr, true-eqb, eq-eqb}
use Rattle.std.proofs.lemmas.Bool.Decides.{nat_tests}
use Rattle.base_core.specs.declared.Port.{Port}
use Rattle.base_core.specs.declared.Port.TheVariants.{Number, Enable, Trigger}
use Rattle.diagram_blocks.specs.declared.Kind.TheVariants.{Inport}
use Rattle.diagram_meaning.specs.Rows.{row_at, same_system, outports_of, subsystems_of, system_control, is_enabled, is_triggered}
use Rattle.diagram_blocks.specs.Kinds.{port_of, is_inport}
use Rattle.diagram_meaning.specs.Diagram.{Diagram}
use Rattle.diagram_meaning.specs.Needs.{needs_of, needs_inside, Reaches, HasNoLoop, IsInputRow, TrueNeeds, IsMaskOf}
use Rattle.diagram_meaning.proofs.lemmas.Tick.{needs-bounded}
use Rattle.diagram_meaning.proofs.lemmas.Inside.{HasNoLoop-inside}
use Rattle.diagram_meaning.proofs.lemmas.Walks.{Within, within}
use Rattle.diagram_meaning.proofs.lemmas.RestsOnNeeds.{same_system-equal, is_inport-equal}
use Rattle.modules_profile.specs.SystemProfile.{SystemProfile}
use Rattle.modules_profile.specs.SystemHeader.{SystemHeader}
use Rattle.modules_profile.specs.Functions.{functions_for, IsProfileOf}
use Rattle.modules_profile.specs.Headers.{header_of}
use Rattle.modules_profile.specs.NodeFacts.{AreHeaders}
use Rattle.modules_profile.proofs.lemmas.Members.{in-range, of-range, in-none, in-cases}
use Rattle.modules_profile.proofs.lemmas.PortRows.{same-self}
use Rattle.right_any_system.proofs.Decided.{Decided, any-decided, both-decided, same-decided, true-decided}
use Rattle.right_any_system.proofs.Masks.{AnswersBits, mask-there}
use Rattle.right_any_system.proofs.Ways.{reaches-decided}

module _ (d : Diagram) (none : HasNoLoop (needs_of d)) where
  module _ (s : Option ℕ) where
    short : (b : ℕ) → Within (needs_inside d s) (suc (length d.rows)) b
    short b = within (needs_inside d s) (length d.rows) (needs-bounded d s) (HasNoLoop-inside d s none) b

    -- ---- What an output needs

    -- row i passes the tests for the Inport with port k
    abbrev Passes : (k i : ℕ) → Type 0
    Passes k i = (is_inport (row_at d.rows i).kind ≡ true) × ((port_of (row_at d.rows i).kind == k) ≡ true)
        × (same_system (row_at d.rows i).owner s ≡ true)

    abbrev Asked : (k o i : ℕ) → Type 0
    Asked k o i = Passes k i × Reaches (needs_inside d s) o i

    passes-decided : (k i : ℕ) → Decided (Passes k i)
    passes-decided k i = by (true-decided (is_inport (row_at d.rows i).kind)) (true-decided (port_of (row_at d.rows i).kind == k))
        (true-decided (same_system (row_at d.rows i).owner s))
      where
        by : Decided (is_inport (row_at d.rows i).kind ≡ true) → Decided ((port_of (row_at d.rows i).kind == k) ≡ true) →
            Decided (same_system (row_at d.rows i).owner s ≡ true) → Decided (Passes k i)
        by (inl p) (inl q) (inl r) = inl (p, q, r)
        by (inr no_p) q r = inr (λ h. no_p h.0)
        by (inl p) (inr no_q) r = inr (λ h. no_q h.1)
        by (inl p) (inl q) (inr no_r) = inr (λ h. no_r h.2)

    passes-row : (k i : ℕ) → i < length d.rows → Passes k i → IsInputRow d.rows s k i
    passes-row k i below (p, q, r) = record {
      in_table = below;
      is_inport = is_inport-equal (row_at d.rows i).kind p ∙ ap Inport (true-eqb (port_of (row_at d.rows i).kind) k (sym q));
      is_own = same_system-equal (row_at d.rows i).owner s r;
    }

    row-passes : (k i : ℕ) → IsInputRow d.rows s k i → Passes k i
    row-passes k i is = (
      ap is_inport is.is_inport,
      eq-eqb (port_of (row_at d.rows i).kind) k (ap port_of is.is_inport),
      ap (λ o. same_system o s) is.is_own ∙ same-self s,
    )

    needs-decided : (o : ℕ) (port : Port) → Decided (TrueNeeds d s o port)
    needs-decided o (Number k) =
        same-decided {P = (i : ℕ) × Contains (range_with_len 0 (length d.rows)) i × Asked k o i}
        (λ h. let below = (of-range 0 (length d.rows) h.0 h.1).1 in (h.0, passes-row k h.0 (omega arith) h.2.0, h.2.1))
        (λ h. let below = h.1.in_table in (h.0, in-range 0 (length d.rows) h.0 (omega arith) (omega arith), (row-passes k h.0 h.1, h.2)))
        (any-decided (Asked k o) (range_with_len 0 (length d.rows))
        (λ i m. both-decided (passes-decided k i) (reaches-decided (needs_inside d s) i (suc (length d.rows)) o (short o))))
    needs-decided o Enable = true-decided (is_enabled (system_control d.rows s))
    needs-decided o Trigger = true-decided (is_triggered (system_control d.rows s))

    -- the port of a bit
    abbrev port_at : ℕ → Port
    port_at k = if nat_lt k 32 then Number (suc k) else (if k == 32 then Enable else Trigger)

    port-at : (k : ℕ) → 0 < k → k ≤ 32 → port_at (k - 1) ≡ Number k
    port-at k above most = by (nat_lt (k - 1) 32) refl
      where
        by : (t : Bool) → nat_lt (k - 1) 32 ≡ t →
            (if t then Number (suc (k - 1)) else (if (k - 1) == 32 then Enable else Trigger)) ≡ Number k
        by true e = let same : suc (k - 1) ≡ k = omega arith in ap Number same
        by false e = absurd (grind (arith, nat_tests))

    mask-is : (o mask : ℕ) → AnswersBits (λ k. TrueNeeds d s o (port_at k)) 34 mask →
        IsMaskOf (TrueNeeds d s o) mask
    mask-is o mask (bound, bits) = record {
      bounded = bound;
      number = λ k above most. (
        λ set. subst (TrueNeeds d s o) (port-at k above most) ((bits (k - 1)).0 set).1,
        λ need. (bits (k - 1)).1 (omega arith, subst (TrueNeeds d s o) (sym (port-at k above most)) need),
      );
      enable = (λ set. ((bits 32).0 set).1, λ need. (bits 32).1 (omega arith, need));
      trigger = (λ set. ((bits 33).0 set).1, λ need. (bits 33).1 (omega arith, need));
    }

    masks-for : (os : List ℕ) → (masks : List ℕ) × AllZip (λ o mask. IsMaskOf (TrueNeeds d s o) mask) os masks
    masks-for [] = ([], tt)
    masks-for (o ∷ os) =
        let one = mask-there (λ k. TrueNeeds d s o (port_at k)) (λ k. needs-decided o (port_at k)) 34 in
        let more = masks-for os in
        (one.0 ∷ more.0, (mask-is o one.0 one.1, more.1))

    pub profile-there : (profile : SystemProfile) × IsProfileOf d s profile
    profile-there =
        let needs = masks-for (outports_of d.rows s) in (
          record { row = s; functions = functions_for needs.0 },
          record { needs = needs.0; are_needs = needs.1; row = refl; functions = refl },
        )

  -- ---- The headers of children

  header-there : (e : ℕ) → (h : SystemHeader) × (h.row ≡ Some e) × (h ≡ header_of d h.row h.profile) × IsProfileOf d h.row h.profile
  header-there e = let p = profile-there (Some e) in (header_of d (Some e) p.0, refl, refl, p.1)

  headers-for : (es : List ℕ) → (headers : List SystemHeader) × (map (λ h. h.row) headers ≡ map Some es)
      × ((h : SystemHeader) → Contains headers h → (h ≡ header_of d h.row h.profile) × IsProfileOf d h.row h.profile)
  headers-for [] = ([], refl, λ h m. absurd (in-none h m))
  headers-for (e ∷ es) =
      let one = header-there e in
      let more = headers-for es in (
        one.0 ∷ more.0,
        ap₂ ◌∷◌ one.1 more.1,
        λ h m. elim (in-cases one.0 h more.0 m) [
          | inl same ↦ subst (λ (g : SystemHeader). (g ≡ header_of d g.row g.profile) × IsProfileOf d g.row g.profile) same (one.2, one.3)
          | inr later ↦ more.2 h later
        ],
      )

  pub headers-there : (s : Option ℕ) → (headers : List SystemHeader) × AreHeaders d s headers
  headers-there s = let all = headers-for (subsystems_of d.rows s) in (all.0, record { rows = all.1; each = all.2 })
