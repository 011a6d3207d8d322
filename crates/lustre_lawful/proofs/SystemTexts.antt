-- The equations of a system give its outputs and its other names, each as often as it is there.
use Rattle.std.specs.Prelude.{◌≡◌, ℕ, ◌+◌, ◌-◌, ◌<◌, Bool, true, false, cond, List, [], ◌∷◌, ◌++◌, map, filter, length, Contains, Option}
use Rattle.std.specs.List.{flat_map}
use Rattle.std.proofs.Common.{refl, ◌∙◌, ap, ap₂, arith}
use Rattle.std.proofs.lemmas.Grind.{flat_map-append}
use Rattle.std.proofs.lemmas.List.{map-append}
use Rattle.diagram_blocks.specs.Kinds.{is_outport, port_of}
use Rattle.diagram_meaning.specs.Rows.{row_at, rows_of, outports_of}
use Rattle.diagram_meaning.specs.Diagram.{Diagram}
use Rattle.diagram_meaning.specs.WellFormed.{HasPorts}
use Rattle.emit_shape.specs.Names.{value_name, trigger_name}
use Rattle.modules_profile.proofs.lemmas.Members.{in-filter, of-filter, in-at}
use Rattle.modules_profile.proofs.lemmas.PortRows.{of-rows, of-ports, in-rows, port-place}
use Rattle.lustre_syntax.specs.Tree.{Declared, set, given_by, texts_of}
use Rattle.lustre_system.specs.Functions.{int_name}
use Rattle.lustre_system.specs.Names.{active_name, reset_name}
use Rattle.lustre_system.specs.RowEquations.{only_if, row_equations, row_names}
use Rattle.lustre_system.specs.SystemNodes.{has_trigger, active_value, reset_value, trigger_memory, system_names, system_equations}
use Rattle.lustre_lawful.proofs.ApartNumbers.{apart-filter, apart-rows, apart-outports}
use Rattle.lustre_lawful.proofs.Counts.{times, Once, Apart, times-append, same-times}
use Rattle.lustre_lawful.proofs.RowTexts.{only-given, only-texts, texts-mapped, row_given, output_text, given-are, row-times}

-- ---- Lists by row

joined-given : (d : Diagram) (s : Option ℕ) (bs : List ℕ) →
    flat_map given_by (flat_map (row_equations d s) bs) ≡ flat_map (row_given d s) bs
joined-given d s [] = refl
joined-given d s (b ∷ bs) =
    flat_map-append given_by (row_equations d s b) (flat_map (row_equations d s) bs) ∙ ap₂ ◌++◌ (given-are d s b) (joined-given d s bs)

joined-names : (d : Diagram) (s : Option ℕ) (bs : List ℕ) →
    texts_of (flat_map (row_names d s) bs) ≡ flat_map (λ b. texts_of (row_names d s b)) bs
joined-names d s [] = refl
joined-names d s (b ∷ bs) =
    map-append (λ (x : Declared). x.text) (row_names d s b) (flat_map (row_names d s) bs)
    ∙ ap (λ ts. texts_of (row_names d s b) ++ ts) (joined-names d s bs)

joined-times : (d : Diagram) (s : Option ℕ) (bs : List ℕ) (x : List ℕ) →
    times x (flat_map (row_given d s) bs)
    ≡ times x (flat_map (λ b. texts_of (row_names d s b)) bs) + times x (flat_map (output_text d s) bs)
joined-times d s [] x = omega arith
joined-times d s (b ∷ bs) x =
    let one = times-append x (row_given d s b) (flat_map (row_given d s) bs) in
    let two = times-append x (texts_of (row_names d s b)) (flat_map (λ c. texts_of (row_names d s c)) bs) in
    let three = times-append x (output_text d s b) (flat_map (output_text d s) bs) in
    let here = row-times d s b x in
    let rest = joined-times d s bs x in
    omega (arith, one, two, three, here, rest)

joined-outputs : (d : Diagram) (s : Option ℕ) (bs : List ℕ) →
    flat_map (output_text d s) bs ≡ map value_name (filter (λ b. is_outport (row_at d.rows b).kind) bs)
joined-outputs d s [] = refl
joined-outputs d s (b ∷ bs) = by (is_outport (row_at d.rows b).kind) (joined-outputs d s bs)
  where
    by : (t : Bool) → flat_map (output_text d s) bs ≡ map value_name (filter (λ c. is_outport (row_at d.rows c).kind) bs) →
        only_if t (value_name b ∷ []) ++ flat_map (output_text d s) bs
        ≡ map value_name (cond t (b ∷ filter (λ c. is_outport (row_at d.rows c).kind) bs) (filter (λ c. is_outport (row_at d.rows c).kind) bs))
    by true rest = ap (λ ts. value_name b ∷ ts) rest
    by false rest = rest

-- ---- A system

module _ (d : Diagram) (s : Option ℕ) where
  abbrev pub trigger_texts : List (List ℕ)
  trigger_texts = only_if (has_trigger d s) (trigger_name ∷ [])

  -- what its equations give
  abbrev pub system_given : List (List ℕ)
  system_given = trigger_texts ++ active_name ∷ reset_name ∷ flat_map (row_given d s) (rows_of d.rows s)

  pub system-given : flat_map given_by (system_equations d s) ≡ system_given
  system-given =
      let trigger = only_if (has_trigger d s) (set 0 trigger_name (trigger_memory d s) ∷ []) in
      flat_map-append given_by trigger
      (set 0 active_name (active_value d s) ∷ set 0 reset_name (reset_value d s) ∷ flat_map (row_equations d s) (rows_of d.rows s))
      ∙ ap₂ ◌++◌ (only-given (has_trigger d s) (set 0 trigger_name (trigger_memory d s) ∷ []) (trigger_name ∷ []) refl)
      (ap (λ ts. active_name ∷ reset_name ∷ ts) (joined-given d s (rows_of d.rows s)))

  pub names-texts : texts_of (system_names d s)
      ≡ active_name ∷ reset_name ∷ trigger_texts ++ flat_map (λ b. texts_of (row_names d s b)) (rows_of d.rows s)
  names-texts =
      let trigger = only_if (has_trigger d s) (int_name trigger_name ∷ []) in
      ap (λ ts. active_name ∷ reset_name ∷ ts)
      (map-append (λ (x : Declared). x.text) trigger (flat_map (row_names d s) (rows_of d.rows s))
      ∙ ap₂ ◌++◌ (only-texts (has_trigger d s) (int_name trigger_name ∷ []) (trigger_name ∷ []) refl)
      (joined-names d s (rows_of d.rows s)))

  abbrev outputs : List Declared
  outputs = map (λ o. int_name (value_name o)) (outports_of d.rows s)

  pub outputs-texts : texts_of outputs ≡ map value_name (outports_of d.rows s)
  outputs-texts = texts-mapped value_name (outports_of d.rows s)

  -- the values of Outports, by port and in the order of the rows
  module _ (ports : HasPorts d.rows is_outport s) (once : (ks : List ℕ) → Apart ks → ((k : ℕ) → Contains ks k → k < length d.rows) →
      Once (map value_name ks)) where
    abbrev own_outports : List ℕ
    own_outports = filter (λ b. is_outport (row_at d.rows b).kind) (rows_of d.rows s)

    own-below : (k : ℕ) → Contains own_outports k → k < length d.rows
    own-below k there = (of-rows d.rows s k (of-filter (λ b. is_outport (row_at d.rows b).kind) (rows_of d.rows s) k there).0).0

    outport-times : (x : List ℕ) → times x (map value_name own_outports) ≡ times x (map value_name (outports_of d.rows s))
    outport-times =
        same-times value_name own_outports (outports_of d.rows s)
        (once own_outports (apart-filter (λ b. is_outport (row_at d.rows b).kind) (rows_of d.rows s) (apart-rows d.rows s)) own-below)
        (once (outports_of d.rows s) (apart-outports d.rows s) (λ k there. (of-ports d.rows s is_outport k there).0))
        (λ k there.
        let m = of-filter (λ b. is_outport (row_at d.rows b).kind) (rows_of d.rows s) k there in
        let row = of-rows d.rows s k m.0 in
        in-at (outports_of d.rows s) (port_of (row_at d.rows k).kind - 1) k (port-place d.rows s is_outport ports k row.0 row.1 m.1))
        (λ k there.
        let m = of-ports d.rows s is_outport k there in
        in-filter (λ b. is_outport (row_at d.rows b).kind) (rows_of d.rows s) k (in-rows d.rows s k m.0 m.1) m.2)

    pub system-times : (x : List ℕ) → times x (texts_of (outputs ++ system_names d s)) ≡ times x (flat_map given_by (system_equations d s))
    system-times x =
        let rows = rows_of d.rows s in
        let named = flat_map (λ b. texts_of (row_names d s b)) rows in
        let given = flat_map (row_given d s) rows in
        let heads = active_name ∷ reset_name ∷ [] in
        let one = ap (times x) (map-append (λ (y : Declared). y.text) outputs (system_names d s)) in
        let two = times-append x (texts_of outputs) (texts_of (system_names d s)) in
        let three = ap (times x) outputs-texts in
        let four = ap (times x) names-texts in
        let five = times-append x heads (trigger_texts ++ named) in
        let six = times-append x trigger_texts named in
        let seven = ap (times x) system-given in
        let eight = times-append x trigger_texts (heads ++ given) in
        let nine = times-append x heads given in
        let ten = joined-times d s rows x in
        let eleven = ap (times x) (joined-outputs d s rows) in
        let twelve = outport-times x in
        omega (arith, one, two, three, four, five, six, seven, eight, nine, ten, eleven, twelve)
