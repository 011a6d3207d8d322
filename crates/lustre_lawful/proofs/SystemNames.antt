-- The names in the node of a system are lawful and different, and each that is no input is given once.
use Rattle.std.specs.Prelude.{◌≡◌, ℕ, ◌<◌, ◌≤◌, Bool, true, false, if◌then◌else◌, List, [], ◌∷◌, ◌++◌, map, flat_map, length, Contains, Option, slice_index_or}
use Rattle.std.specs.List.{AllByRecursion}
use Rattle.std.proofs.Common.{refl, sym, ◌∙◌, ap, subst, arith}
use Rattle.std.proofs.lemmas.List.{append_assoc, map-append}
use Rattle.diagram_blocks.specs.Kinds.{is_inport, is_outport}
use Rattle.diagram_blocks.specs.Meaning.{delay_length}
use Rattle.diagram_meaning.specs.Rows.{row_at, no_row, rows_of, inports_of}
use Rattle.diagram_meaning.specs.Diagram.{Diagram, type_at}
use Rattle.diagram_meaning.specs.ResolvedTree.{ResolvedTree, IsResolvedTree, diagram_of}
use Rattle.diagram_meaning.specs.SystemRuns.{IsRowOf}
use Rattle.diagram_meaning.specs.WellFormed.{HasPorts, IsRow}
use Rattle.diagram_meaning.proofs.lemmas.Resolving.{all-at}
use Rattle.diagram_typed_runs.proofs.lemmas.Evaluable.{op-is}
use Rattle.emit_shape.specs.Names.{value_name, now_name, trigger_name}
use Rattle.modules_profile.proofs.lemmas.LawfulSteps.{of-flat_map}
use Rattle.modules_profile.proofs.lemmas.PortRows.{of-rows, few-ports}
use Rattle.lustre_syntax.specs.Tree.{Declared, given_by, texts_of}
use Rattle.lustre_syntax.specs.Lawful.{AreDistinct}
use Rattle.lustre_system.specs.Names.{around_active, around_off, active_name, reset_name, port_names}
use Rattle.lustre_system.specs.SystemNodes.{system_inputs, system_names, system_equations, system_node, has_trigger}
use Rattle.lustre_rows.proofs.lemmas.Lists.{all-after, all-member, all-members}
use Rattle.lustre_rows.proofs.lemmas.NamePlaces.{texts-int}
use Rattle.lustre_right.specs.NodeLaws.{SystemNamesAreDistinct, SystemsGiveTheirNames}
use Rattle.lustre_right.specs.Systems.{system_texts}
use Rattle.lustre_lawful.proofs.ApartNumbers.{apart-rows}
use Rattle.lustre_lawful.proofs.Counts.{times, Once, Apart, times-append, times-of, of-times, once-beside, once-mapped, once-joined, once-from, distinct-from}
use Rattle.lustre_lawful.proofs.FewCalls.{few-samples}
use Rattle.lustre_lawful.proofs.InputNames.{IsNamed, input_texts, inputs-named, inputs-told, inputs-once}
use Rattle.lustre_lawful.proofs.Places.{gives-names}
use Rattle.lustre_lawful.proofs.NumberedNames.{is_input_text, is_bare, value-injective}
use Rattle.lustre_lawful.proofs.RowNames.{HasFewNumbers, IsRowText, small, one-row, row-texts, row-once}
use Rattle.lustre_lawful.proofs.RowTexts.{row_given}
use Rattle.lustre_lawful.proofs.SystemTexts.{trigger_texts, system_given, system-given, system-times}

-- ---- What the equations give

module _ (d : Diagram) (few : HasFewNumbers d) (s : Option ℕ) where
  abbrev row_texts : List (List ℕ)
  row_texts = flat_map (row_given d s) (rows_of d.rows s)

  row-of : (b : ℕ) → Contains (rows_of d.rows s) b → IsRowOf d.rows s b
  row-of b there = let m = of-rows d.rows s b there in record { in_table = m.0; own = m.1 }

  text-of : (b : ℕ) (x : List ℕ) → Contains (rows_of d.rows s) b → Contains (row_given d s b) x → IsRowText d.rows b x
  text-of b x there has = all-member (IsRowText d.rows b) (row_given d s b) (row-texts d few s b (row-of b there)) x has

  each-row_text : (P : List ℕ → Type 0) → ((b : ℕ) (x : List ℕ) → IsRowText d.rows b x → P x) → AllByRecursion P row_texts
  each-row_text P each =
      all-members P row_texts (λ x there.
      let (b, row, has) = of-flat_map (row_given d s) (rows_of d.rows s) x there in each b x (text-of b x row has))

  rows-once : Once row_texts
  rows-once =
      once-joined (row_given d s) (rows_of d.rows s) (apart-rows d.rows s) (λ b there. row-once d few s b (row-of b there))
      (λ b c x h m p q. one-row d few s b c x (row-of b h) (row-of c m) (text-of b x h p).whose (text-of c x m q).whose)

  abbrev heads : Bool → List (List ℕ)
  heads t = (if t then trigger_name ∷ [] else []) ++ active_name ∷ reset_name ∷ []

  heads-once : (t : Bool) → Once (heads t)
  heads-once true = once-from (heads true) (refl, refl, (refl, refl, (refl, refl, tt)))
  heads-once false = once-from (heads false) (refl, refl, (refl, refl, tt))

  each-head : (P : List ℕ → Type 0) → P trigger_name → P active_name → P reset_name → (t : Bool) → AllByRecursion P (heads t)
  each-head P w a r true = (w, (a, (r, tt)))
  each-head P w a r false = (a, (r, tt))

  whole : system_given d s ≡ heads (has_trigger d s) ++ row_texts
  whole = sym (append_assoc (trigger_texts d s) (active_name ∷ reset_name ∷ []) row_texts)

  given-once : Once (system_given d s)
  given-once =
      subst Once (sym whole)
      (once-beside is_bare (heads (has_trigger d s)) row_texts (each-head (λ x. is_bare x ≡ true) refl refl refl (has_trigger d s))
      (each-row_text (λ x. is_bare x ≡ false) (λ b x is. is.numbered)) (heads-once (has_trigger d s)) rows-once)

  each-given : (P : List ℕ → Type 0) → P trigger_name → P active_name → P reset_name →
      ((b : ℕ) (x : List ℕ) → IsRowText d.rows b x → P x) → AllByRecursion P (system_given d s)
  each-given P w a r each =
      subst (AllByRecursion P) (sym whole)
      (all-after P (heads (has_trigger d s)) row_texts (each-head P w a r (has_trigger d s)) (each-row_text P each))

  values-once : (ks : List ℕ) → Apart ks → ((k : ℕ) → Contains ks k → k < length d.rows) → Once (map value_name ks)
  values-once ks apart below =
      once-mapped value_name ks apart (λ j k h m. value-injective j k (small d few j (below j h)) (small d few k (below k m)))

  -- ---- All names

  module _ (outports : HasPorts d.rows is_outport s) (inports : HasPorts d.rows is_inport s) where
    few-inputs : length (inports_of d.rows s) ≤ 32
    few-inputs = few-ports d.rows s is_inport inports

    abbrev inputs : List (List ℕ)
    inputs = input_texts d.rows s few-inputs

    abbrev others : List Declared
    others = (system_node d s).outputs ++ system_names d s

    inputs-are : texts_of (system_inputs d s) ≡ inputs
    inputs-are = ap (λ ts. now_name ∷ around_active ∷ around_off ∷ ts) (texts-int (port_names d.rows s))

    all-are : system_texts d s ≡ inputs ++ texts_of others
    all-are =
        ap texts_of (append_assoc (system_inputs d s) (system_node d s).outputs (system_names d s))
        ∙ map-append (λ (x : Declared). x.text) (system_inputs d s) others ∙ ap (λ ts. ts ++ texts_of others) inputs-are

    pub same-times : (x : List ℕ) → times x (texts_of others) ≡ times x (flat_map given_by (system_equations d s))
    same-times = system-times d s outports values-once

    same-given : (x : List ℕ) → times x (texts_of others) ≡ times x (system_given d s)
    same-given x = same-times x ∙ ap (times x) (system-given d s)

    both-once : Once (inputs ++ system_given d s)
    both-once =
        once-beside is_input_text inputs (system_given d s) (inputs-told d.rows s few-inputs)
        (each-given (λ x. is_input_text x ≡ false) refl refl refl (λ b x is. is.no_input)) (inputs-once d.rows s few-inputs) given-once

    pub names-once : Once (system_texts d s)
    names-once x =
        let one = ap (times x) all-are ∙ times-append x inputs (texts_of others) in
        let two = times-append x inputs (system_given d s) in
        let three = same-given x in
        let most = both-once x in
        omega (arith, one, two, three, most)

    names-named : AllByRecursion IsNamed (system_texts d s)
    names-named =
        subst (AllByRecursion IsNamed) (sym all-are)
        (all-after IsNamed inputs (texts_of others) (inputs-named d.rows s few-inputs)
        (all-members IsNamed (texts_of others) (λ x there.
        let some = times-of x (texts_of others) there in
        let same = same-given x in
        all-member IsNamed (system_given d s) (each-given IsNamed refl refl refl (λ b y is. is.named)) x
        (of-times x (system_given d s) (omega (arith, some, same))))))

    pub names-distinct : AreDistinct (system_texts d s)
    names-distinct = distinct-from (system_texts d s) names-named names-once

-- ---- Resolved models

pub few-numbers : (r : ResolvedTree) → IsResolvedTree r → HasFewNumbers (diagram_of r)
few-numbers r is = record {
  nested = is.tree.table.nested;
  few_samples = λ b below.
      let rows = r.tree.table.rows in
      let row : IsRow (row_at rows b) = all-at IsRow rows b no_row is.tree.table.each below in
      subst (λ o. delay_length o ≤ 65535) (sym (op-is r is b below))
      (few-samples (row_at rows b).kind (map (type_at r.types) (row_at rows b).inputs) (type_at r.types b)
      (slice_index_or r.times.delays b false) row.kind);
}

pub system_names_are_distinct : SystemNamesAreDistinct
system_names_are_distinct r s is system =
    names-distinct (diagram_of r) (few-numbers r is) s (is.tree.table.outports s) (is.tree.table.inports s)

pub systems_give_their_names : SystemsGiveTheirNames
systems_give_their_names r s callees is system =
    let d = diagram_of r in
    let few = few-numbers r is in
    let outports = is.tree.table.outports s in
    let inports = is.tree.table.inports s in
    gives-names callees (system_node d s) (names-once d few s outports inports) (same-times d few s outports inports)
