-- What the nodes of a system give and need, by the rows of the table.
use Rattle.std.specs.Prelude.{◌≡◌, ◌⊎◌, ℕ, ◌<◌, Bool, true, false, ◌&&◌, ◌==◌, if◌then◌else◌, cond, eqb, List, [], ◌∷◌, map, find, length, Contains, Option, Some, None, refl}
use Rattle.std.specs.Option.{option_map_or}
use Rattle.std.proofs.Common.{sym, ap, subst, ◌∙◌, inl, inr, true≢false}
use Rattle.std.proofs.lemmas.Bool.{eq-eqb, eqb-true, and_left}
use Rattle.std.proofs.lemmas.List.Elements.{Contains-append_left, Contains-append_cases}
use Rattle.std.proofs.lemmas.Option.{same_Some}
use Rattle.diagram_blocks.specs.Value.{feeds_through}
use Rattle.diagram_meaning.specs.Rows.{row_at, rows_of, subsystems_of, same_system, is_system, enclosing, around_inside, is_inport_of}
use Rattle.diagram_blocks.specs.Kinds.{is_inport, is_subsystem}
use Rattle.diagram_meaning.specs.Diagram.{Diagram, op_at}
use Rattle.diagram_meaning.specs.Needs.{inputs_used, needs_inside}
use Rattle.diagram_meaning.specs.Inputs.{wires_of_rows}
use Rattle.modules_profile.specs.declared.local.ChildUse.{ChildUse}
use Rattle.modules_profile.specs.declared.local.LocalRow.{LocalRow}
use Rattle.modules_profile.specs.declared.nodes.Node.TheVariants.{Row, Call}
use Rattle.modules_profile.specs.LocalSystem.{LocalSystem}
use Rattle.modules_profile.specs.SystemHeader.{SystemHeader}
use Rattle.modules_profile.specs.SystemProfile.{SystemProfile}
use Rattle.modules_profile.specs.Functions.{IsProfileOf}
use Rattle.modules_profile.specs.Headers.{header_of, taken, given_rows}
use Rattle.modules_profile.specs.Locals.{local_row, local_of, row_of, child_use, child_of, entering}
use Rattle.modules_profile.specs.LocalNodes.{node_gives, node_needs, used_inputs}
use Rattle.modules_profile.specs.NodeFacts.{AreHeaders}
use Rattle.modules_profile.proofs.ChildNeeds.{inner, nothing-inside}
use Rattle.modules_profile.proofs.ChildNumbers.{system-is}
use Rattle.modules_profile.proofs.lemmas.Members.{in-none, in-first, in-cases, in-map, of-map, found-in, finds}
use Rattle.modules_profile.proofs.lemmas.PortRows.{same-self, of-rows, of-subsystems}

left-false : (a b : Bool) → (a && b) ≡ false → b ≡ true → a ≡ false
left-false true b none holds = absurd (true≢false (sym holds ∙ none))
left-false false b none holds = refl

-- what is used is among the inputs of a row that feeds through and is no Inport
used-parts : (own feeds : Bool) (inputs : List ℕ) (c : ℕ) →
    Contains (if own then [] else (if feeds then inputs else [])) c → (own ≡ false) × (feeds ≡ true) × Contains inputs c
used-parts true feeds inputs c h = absurd (in-none c h)
used-parts false true inputs c h = (refl, refl, h)
used-parts false false inputs c h = absurd (in-none c h)

used-whole : (own feeds : Bool) (inputs : List ℕ) (c : ℕ) → own ≡ false → feeds ≡ true → Contains inputs c →
    Contains (if feeds then (if own then [] else inputs) else []) c
used-whole true feeds inputs c e f h = absurd (true≢false e)
used-whole false true inputs c e f h = h
used-whole false false inputs c e f h = absurd (true≢false (sym f))

local-parts : (own feeds : Bool) (inputs : List ℕ) (c : ℕ) → Contains (if feeds then (if own then [] else inputs) else []) c →
    (own ≡ false) × (feeds ≡ true) × Contains inputs c
local-parts own false inputs c h = absurd (in-none c h)
local-parts true true inputs c h = absurd (in-none c h)
local-parts false true inputs c h = (refl, refl, h)

inside-whole : (own feeds : Bool) (inputs : List ℕ) (c : ℕ) → own ≡ false → feeds ≡ true → Contains inputs c →
    Contains (if own then [] else (if feeds then inputs else [])) c
inside-whole true feeds inputs c e f h = absurd (true≢false e)
inside-whole false true inputs c e f h = h
inside-whole false false inputs c e f h = absurd (true≢false (sym f))

module _ (d : Diagram) (delays : List Bool) (s : Option ℕ) (headers : List SystemHeader) where
  abbrev local : LocalSystem
  local = local_of d delays s headers

  -- ---- Own rows

  find-own : (own : List ℕ) (b : ℕ) → Contains own b →
      find (λ (r : LocalRow). r.row == b) (map (local_row d delays) own) ≡ Some (local_row d delays b)
  find-own [] b h = absurd (in-none b h)
  find-own (a ∷ own) b h = by (eqb a b) refl (in-cases a b own h) (λ more. find-own own b more)
    where
      by : (t : Bool) → eqb a b ≡ t → (a ≡ b) ⊎ Contains own b →
          (Contains own b → find (λ (r : LocalRow). r.row == b) (map (local_row d delays) own) ≡ Some (local_row d delays b)) →
          cond t (Some (local_row d delays a)) (find (λ (r : LocalRow). r.row == b) (map (local_row d delays) own))
          ≡ Some (local_row d delays b)
      by true e h later = ap (λ k. Some (local_row d delays k)) (eqb-true a b e)
      by false e (inl same) later = absurd (true≢false (sym (eq-eqb a b same) ∙ e))
      by false e (inr more) later = later more

  own-row : (b : ℕ) → Contains (rows_of d.rows s) b → row_of local b ≡ Some (local_row d delays b)
  own-row b h = find-own (rows_of d.rows s) b h

  row-own : (b : ℕ) (r : LocalRow) → row_of local b ≡ Some r → Contains (rows_of d.rows s) b × (r ≡ local_row d delays b)
  row-own b r e =
      let found = found-in (λ (r : LocalRow). r.row == b) (map (local_row d delays) (rows_of d.rows s)) r e in
      let m = of-map (local_row d delays) (rows_of d.rows s) r found.0 in
      let same : m.0 ≡ b = ap (λ (r : LocalRow). r.row) m.2 ∙ eqb-true r.row b found.1 in
      (subst (Contains (rows_of d.rows s)) same m.1, sym m.2 ∙ ap (local_row d delays) same)

  -- nothing is around an own row inside the system
  none-around : (b : ℕ) → (row_at d.rows b).owner ≡ s → around_inside d.rows s b ≡ []
  none-around b own = by (is_system s b)
    where
      by : (t : Bool) → inner s (if t then [] else enclosing d.rows s (row_at d.rows b).owner) ≡ []
      by true = refl
      by false = ap (λ o. inner s (enclosing d.rows s o)) own ∙ nothing-inside d.rows s (length d.rows)

  -- an own row needs what its node does
  pub row-needs : (b c : ℕ) → Contains (rows_of d.rows s) b → Contains (needs_inside d s b) c →
      Contains (node_needs local (Row b)) c × (is_inport (row_at d.rows b).kind ≡ false) × Contains (row_at d.rows b).inputs c
  row-needs b c own h =
      let used : List ℕ = if is_inport_of d.rows s b then [] else inputs_used d b in
      by (Contains-append_cases used (wires_of_rows d.rows (around_inside d.rows s b)) c h)
    where
      owner : (row_at d.rows b).owner ≡ s
      owner = (of-rows d.rows s b own).1

      by : Contains (if is_inport_of d.rows s b then [] else inputs_used d b) c
          ⊎ Contains (wires_of_rows d.rows (around_inside d.rows s b)) c →
          Contains (node_needs local (Row b)) c × (is_inport (row_at d.rows b).kind ≡ false) × Contains (row_at d.rows b).inputs c
      by (inl used) =
          let parts = used-parts (is_inport_of d.rows s b) (feeds_through (op_at d b)) (row_at d.rows b).inputs c used in
          let plain = left-false (is_inport (row_at d.rows b).kind) (same_system (row_at d.rows b).owner s) parts.0
          (ap (λ o. same_system o s) owner ∙ same-self s) in (
            subst (λ o. Contains (option_map_or used_inputs o []) c) (sym (own-row b own))
                (used-whole (is_inport (row_at d.rows b).kind) (feeds_through (op_at d b))
                (row_at d.rows b).inputs c plain parts.1 parts.2),
            plain,
            parts.2,
          )
      by (inr control) = absurd (in-none c (subst (λ es. Contains (wires_of_rows d.rows es) c) (none-around b owner) control))

  pub of-row-needs : (b c : ℕ) → Contains (node_needs local (Row b)) c → Contains (rows_of d.rows s) b × Contains (needs_inside d s b) c
  of-row-needs b c h = by (row_of local b) refl h
    where
      by : (o : Option LocalRow) → row_of local b ≡ o → Contains (option_map_or used_inputs o []) c →
          Contains (rows_of d.rows s) b × Contains (needs_inside d s b) c
      by None e h = absurd (in-none c h)
      by (Some r) e h =
          let own = row-own b r e in
          let parts = local-parts (is_inport (row_at d.rows b).kind) (feeds_through (op_at d b)) (row_at d.rows b).inputs c
          (subst (λ q. Contains (used_inputs q) c) own.1 h) in (
            own.0,
            Contains-append_left (if is_inport_of d.rows s b then [] else inputs_used d b)
                (wires_of_rows d.rows (around_inside d.rows s b)) c
                (inside-whole (is_inport_of d.rows s b) (feeds_through (op_at d b)) (row_at d.rows b).inputs c
                (and_left (is_inport (row_at d.rows b).kind) (same_system (row_at d.rows b).owner s) parts.0) parts.1 parts.2),
          )

  pub row-gives : (b : ℕ) → Contains (rows_of d.rows s) b → Contains (node_gives local (Row b)) b
  row-gives b own = subst (λ o. Contains (option_map_or (λ (r : LocalRow). r.row ∷ []) o []) b) (sym (own-row b own)) (in-first b [])

  pub of-row-gives : (b c : ℕ) → Contains (node_gives local (Row b)) c → b ≡ c
  of-row-gives b c h = by (row_of local b) refl h
    where
      by : (o : Option LocalRow) → row_of local b ≡ o → Contains (option_map_or (λ (r : LocalRow). r.row ∷ []) o []) c → b ≡ c
      by None e h = absurd (in-none c h)
      by (Some r) e h = elim (in-cases r.row c [] h) [
        | inl same ↦ sym (ap (λ (r : LocalRow). r.row) (row-own b r e).1) ∙ same
        | inr more ↦ absurd (in-none c more)
      ]

  -- ---- Children

  -- the child of subsystem row e has this profile
  pub record IsChild (e : ℕ) (profile : SystemProfile) : Type 0 where
    pub found : child_of (local_of d delays s headers) e ≡ Some (child_use d (header_of d (Some e) profile))
    pub has_profile : IsProfileOf d (Some e) profile
    pub below : e < length d.rows
    pub owned : (row_at d.rows e).owner ≡ s
    pub is_subsystem : is_subsystem (row_at d.rows e).kind ≡ true

  pub call-gives : (e j : ℕ) (profile : SystemProfile) → IsChild e profile →
      node_gives local (Call e j) ≡ given_rows (header_of d (Some e) profile) j
  call-gives e j profile child = ap (λ o. option_map_or (λ (u : ChildUse). given_rows u.header j) o []) child.found

  pub call-needs : (e j : ℕ) (profile : SystemProfile) → IsChild e profile →
      node_needs local (Call e j) ≡ taken (header_of d (Some e) profile) j (entering (child_use d (header_of d (Some e) profile)))
  call-needs e j profile child = ap (λ o. option_map_or (λ (u : ChildUse). taken u.header j (entering u)) o []) child.found

  module _ (are : AreHeaders d s headers) where
    child-is : (e : ℕ) (u : ChildUse) → child_of local e ≡ Some u → (profile : SystemProfile) × IsChild e profile
    child-is e u found =
        let f = found-in (λ (u : ChildUse). is_system u.header.row e) (map (child_use d) headers) u found in
        let m = of-map (child_use d) headers u f.0 in
        let h : SystemHeader = m.0 in
        let listed : Contains (map Some (subsystems_of d.rows s)) h.row =
        subst (λ rows. Contains rows h.row) are.rows (in-map (λ (g : SystemHeader). g.row) headers h m.1) in
        let n = of-map Some (subsystems_of d.rows s) h.row listed in
        let row : h.row ≡ Some e = ap (λ (u : ChildUse). u.header.row) m.2 ∙ system-is u.header.row e f.1 in
        let same : n.0 ≡ e = same_Some n.0 e (n.2 ∙ row) in
        let is = are.each h m.1 in
        let whole : h ≡ header_of d (Some e) h.profile = is.0 ∙ ap (λ o. header_of d o h.profile) row in
        let place = of-subsystems d.rows s e (subst (Contains (subsystems_of d.rows s)) same n.1) in (
          h.profile,
          record {
            found = found ∙ ap Some (sym m.2 ∙ ap (child_use d) whole);
            has_profile = subst (λ o. IsProfileOf d o h.profile) row is.1;
            below = place.0;
            owned = place.1;
            is_subsystem = place.2;
          },
        )

    pub child-of-gives : (e j c : ℕ) → Contains (node_gives local (Call e j)) c → (profile : SystemProfile) × IsChild e profile
    child-of-gives e j c h = by (child_of local e) refl h
      where
        by : (o : Option ChildUse) → child_of local e ≡ o → Contains (option_map_or (λ (u : ChildUse). given_rows u.header j) o []) c →
            (profile : SystemProfile) × IsChild e profile
        by None q h = absurd (in-none c h)
        by (Some u) q h = child-is e u q

    pub child-found : (e : ℕ) → Contains (subsystems_of d.rows s) e → (profile : SystemProfile) × IsChild e profile
    child-found e h =
        let listed : Contains (map (λ (g : SystemHeader). g.row) headers) (Some e) =
        subst (λ rows. Contains rows (Some e)) (sym are.rows) (in-map Some (subsystems_of d.rows s) e h) in
        let m = of-map (λ (g : SystemHeader). g.row) headers (Some e) listed in
        let f = finds (λ (u : ChildUse). is_system u.header.row e) (map (child_use d) headers) (child_use d m.0)
        (in-map (child_use d) headers m.0 m.1) (ap (λ o. is_system o e) m.2 ∙ eq-eqb e e refl) in
        child-is e f.0 f.1
