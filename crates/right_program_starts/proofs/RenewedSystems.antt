-- Each system of a program is started, and reset, as its code does it among the procedures of its children: the systems that come
-- last have no children, and each other has its children after it.
use Rattle.std.specs.Prelude.{◌≡◌, ℕ, zero, suc, ◌+◌, ◌<◌, ◌≤◌, if◌then◌else◌, List, map, length, sum_by, slice_get, Contains, Option, Some}
use Rattle.std.specs.List.{AllZip, AllByRecursion}
use Rattle.std.proofs.Common.{sym, ap, subst, ◌∙◌, arith, inl, inr}
use Rattle.std.proofs.lemmas.Bool.{cases_lt}
use Rattle.std.proofs.lemmas.Option.{same_Some}
use Rattle.diagram_meaning.specs.Rows.{same_system}
use Rattle.modules_profile.specs.declared.ChildUse.{ChildUse}
use Rattle.modules_profile.specs.LocalSystem.{LocalSystem}
use Rattle.modules_profile.specs.SystemHeader.{SystemHeader}
use Rattle.modules_profile.proofs.lemmas.Members.{at-in, at-below, below-at}
use Rattle.modules_profile.proofs.lemmas.PortRows.{same-self}
use Rattle.c_semantics.specs.Cells.{Cell, Cells}
use Rattle.emit_shape.specs.Programs.{struct_place}
use Rattle.emit_shape.specs.Slots.{Slot}
use Rattle.emit_shape.specs.Assembled.{first_procedure}
use Rattle.right_relation.specs.Forms.{HasForms, slot_forms}
use Rattle.right_relation.specs.Instances.{Offered, Offer}
use Rattle.right_relation.specs.Serving.{IsOfferOf}
use Rattle.right_relation.specs.Relation.{own_offer}
use Rattle.right_relation.specs.Renewals.{Renewal, no_renewal, Renews, IsStarted, IsReset, AllSlots, RenewsOwn}
use Rattle.right_claim.specs.Anew.{field_count, forms_at}
use Rattle.right_linking.specs.Parts.{Parts, program_of, all_systems, Views}
use Rattle.right_linking.specs.Places.{FormsAreOfSlots}
use Rattle.right_linking.specs.Offers.{offer_of, child_offers, SystemsOfferTheirs, OffersAreOfHeaders}
use Rattle.right_linking.specs.Starts.{budget_inside, IsRenewed, SystemsAreRenewed}
use Rattle.right_program_starts.proofs.Everywhere.{all-made, zip-along, zip-made, map-same, map-map}
use Rattle.right_program_starts.proofs.Sums.{total, total-is, total-map, total-le}
use Rattle.right_program_starts.proofs.SystemPlaces.{others, child-behind}
use Rattle.right_program_starts.proofs.InnerBudgets.{children-budgets}
use Rattle.right_program_starts.proofs.FieldCounts.{fields-below}

module _ (headers : OffersAreOfHeaders) (offers : SystemsOfferTheirs) (forms : FormsAreOfSlots) (a : Parts) (v : Views a)
    (which : Offer → Offered) (IsSo : LocalSystem → List Renewal → Slot → Cell → Cell → Type 0)
    (own : (place : ℕ) (s : Option ℕ) → slice_get (all_systems a) place ≡ Some s → (numbers : ℕ → ℕ) →
    (os : List Offer) → AllZip (λ u o. IsOfferOf u.header o) (v.at s).local.children os →
    (children : List Renewal) → AllZip (λ (o : Offer) n. Renews (which o) n) os children →
    RenewsOwn (v.at s).local (v.at s).slots children (IsSo (v.at s).local children)
    (which (own_offer (v.at s).local (v.at s).profile a.pures (v.at s).slots os (v.at s).code numbers))) where
  abbrev Is : (Option ℕ → Renewal) → Option ℕ → Type 0
  Is f n = IsRenewed a v which IsSo f n

  -- what becomes of the children of a system
  abbrev of_children : (Option ℕ → Renewal) → Option ℕ → List Renewal
  of_children f s = map (λ (u : ChildUse). f u.header.row) (v.at s).local.children

  abbrev Becomes : Option ℕ → Renewal → List Renewal → Type 0
  Becomes s r children = (before : Cells) → HasForms r.forms before →
      AllSlots (IsSo (v.at s).local children) (v.at s).slots before (r.renewed before)

  -- it rests on what becomes of the system and of its children
  moved : (f g : Option ℕ → Renewal) (s : Option ℕ) → f s ≡ g s → of_children f s ≡ of_children g s → Is f s → Is g s
  moved f g s same children is = record {
    forms = ap (λ (r : Renewal). r.forms) (sym same) ∙ is.forms;
    renews = subst (Renews (which (offer_of a v s))) same is.renews;
    becomes = subst (Becomes s (g s)) children (subst (λ r. Becomes s r (of_children f s)) same is.becomes);
    in_time = subst (λ (r : Renewal). r.most ≤ budget_inside a v s) same is.in_time;
    short = subst (λ (r : Renewal). r.most ≤ field_count r.forms) same is.short;
  }

  -- so are all systems from a place on
  record AreRenewedFrom (k : ℕ) : Type 0 where
    pub renewals : Option ℕ → Renewal
    pub each : (place : ℕ) (s : Option ℕ) → k ≤ place → slice_get (all_systems a) place ≡ Some s → Is renewals s

  none-behind : AreRenewedFrom (length (all_systems a))
  none-behind = record {
    renewals = λ o. no_renewal;
    each = λ place s past stands. absurd (let below = at-below (all_systems a) place s stands in omega (arith, past, below));
  }

  -- ---- One system more

  module _ (k : ℕ) (s : Option ℕ) (stands : slice_get (all_systems a) k ≡ Some s) (behind : AreRenewedFrom (suc k)) where
    abbrev renewals : Option ℕ → Renewal
    renewals = behind.renewals

    child-renewed : (u : ChildUse) → Contains (v.at s).local.children u → Is renewals u.header.row
    child-renewed u has = let c = child-behind a v k s stands u has in behind.each c.inner_place u.header.row c.later c.stands

    offered : AllZip (λ (u : ChildUse) o. IsOfferOf u.header o) (v.at s).local.children (child_offers a v s)
    offered = zip-along (λ (u : ChildUse) o. IsOfferOf u.header o) (λ (u : ChildUse). offer_of a v u.header.row) (v.at s).local.children
        (λ u has.
        let c = child-behind a v k s stands u has in
        subst (λ (h : SystemHeader). IsOfferOf h (offer_of a v u.header.row)) (sym c.header)
        (headers a v c.inner_place u.header.row c.stands))

    children-renew : AllZip (λ (o : Offer) n. Renews (which o) n) (child_offers a v s) (of_children renewals s)
    children-renew = zip-made (λ (o : Offer) n. Renews (which o) n) (λ (u : ChildUse). offer_of a v u.header.row)
        (λ (u : ChildUse). renewals u.header.row) (v.at s).local.children
        (λ u has. (child-renewed u has).renews)

    made : RenewsOwn (v.at s).local (v.at s).slots (of_children renewals s) (IsSo (v.at s).local (of_children renewals s))
        (which (own_offer (v.at s).local (v.at s).profile a.pures (v.at s).slots (child_offers a v s) (v.at s).code
        (λ i. first_procedure a.codes k + i)))
    made = own k s stands (λ i. first_procedure a.codes k + i) (child_offers a v s) offered (of_children renewals s) children-renew

    abbrev extended : Option ℕ → Renewal
    extended o = if same_system o s then made.own else renewals o

    itself : extended s ≡ made.own
    itself = ap (λ t. if t then made.own else renewals s) (same-self s)

    apart : (place : ℕ) (t : Option ℕ) → k < place → slice_get (all_systems a) place ≡ Some t → renewals t ≡ extended t
    apart place t later at = sym (ap (λ b. if b then made.own else renewals t) (others a k place s t stands at later))

    children-apart : (place : ℕ) (t : Option ℕ) → k ≤ place → slice_get (all_systems a) place ≡ Some t →
        of_children renewals t ≡ of_children extended t
    children-apart place t from at = map-same (λ (u : ChildUse). renewals u.header.row) (λ (u : ChildUse). extended u.header.row)
        (v.at t).local.children (λ u has.
        let c = child-behind a v place t at u has in
        let later = c.later in
        apart c.inner_place u.header.row (omega (arith, from, later)) c.stands)

    own-forms : made.own.forms ≡ forms_at (program_of a) (struct_place (program_of a) s)
    own-forms =
        made.forms
        ∙ ap (λ fs. slot_forms fs (v.at s).slots)
        (map-map (λ (r : Renewal). r.forms) (λ (u : ChildUse). renewals u.header.row) (v.at s).local.children
        ∙ map-same (λ (u : ChildUse). (renewals u.header.row).forms)
        (λ (u : ChildUse). forms_at (program_of a) (struct_place (program_of a) u.header.row)) (v.at s).local.children
        (λ u has. (child-renewed u has).forms))
        ∙ sym (forms a v k s stands)

    children-most : sum_by (λ (r : Renewal). r.most) (of_children renewals s)
        ≡ total (λ (u : ChildUse). (renewals u.header.row).most) (v.at s).local.children
    children-most =
        total-is (λ (r : Renewal). r.most) (of_children renewals s)
        ∙ total-map (λ (r : Renewal). r.most) (λ (u : ChildUse). renewals u.header.row) (v.at s).local.children

    own-short : made.own.most ≤ field_count made.own.forms
    own-short =
        let short = made.short in
        let sum = children-most in
        let each = total-le (λ (u : ChildUse). (renewals u.header.row).most) (λ (u : ChildUse). field_count (renewals u.header.row).forms)
        (v.at s).local.children (λ u has. (child-renewed u has).short) in
        let below = fields-below (v.at s).local (v.at s).slots (v.each k s stands).shape.slots_right
        (λ (u : ChildUse). (renewals u.header.row).forms) in
        let forms = ap field_count (made.forms
        ∙ ap (λ fs. slot_forms fs (v.at s).slots)
        (map-map (λ (r : Renewal). r.forms) (λ (u : ChildUse). renewals u.header.row) (v.at s).local.children)) in
        omega (arith, short, sum, each, below, forms)

    own-most : made.own.most ≤ budget_inside a v s
    own-most =
        let most = made.most in
        let sum = children-most in
        let each = total-le (λ (u : ChildUse). (renewals u.header.row).most) (λ (u : ChildUse). budget_inside a v u.header.row)
        (v.at s).local.children (λ u has. (child-renewed u has).in_time) in
        let whole = children-budgets a v k s stands in
        omega (arith, most, sum, each, whole)

    here : Is extended s
    here = record {
      forms = ap (λ (r : Renewal). r.forms) itself ∙ own-forms;
      renews = subst (Renews (which (offer_of a v s))) (sym itself)
          (subst (λ (o : Offer). Renews (which o) made.own) (sym (offers a v k s stands)) made.renews);
      becomes = subst (λ r. Becomes s r (of_children extended s)) (sym itself)
          (subst (Becomes s made.own) (children-apart k s (omega arith) stands) made.becomes);
      in_time = subst (λ (r : Renewal). r.most ≤ budget_inside a v s) (sym itself) own-most;
      short = subst (λ (r : Renewal). r.most ≤ field_count r.forms) (sym itself) own-short;
    }

    one-more : AreRenewedFrom k
    one-more = record { renewals = extended; each = each }
      where
        each : (place : ℕ) (t : Option ℕ) → k ≤ place → slice_get (all_systems a) place ≡ Some t → Is extended t
        each place t from at = elim (cases_lt k place) [
          | inl later ↦ moved renewals extended t (apart place t later at) (children-apart place t from at) (behind.each place t later at)
          | inr not_later ↦
              let same : place ≡ k = omega (arith, from, not_later) in
              subst (Is extended) (same_Some s t (sym stands ∙ ap (slice_get (all_systems a)) (sym same) ∙ at)) here
        ]

  from : (many k : ℕ) → many + k ≡ length (all_systems a) → AreRenewedFrom k
  from zero k count = let same : length (all_systems a) ≡ k = omega (arith, count) in subst AreRenewedFrom same none-behind
  from (suc many) k count =
      let s = below-at (all_systems a) k (omega (arith, count)) in
      one-more k s.0 s.1 (from many (suc k) (omega (arith, count)))

  pub all-renewed : (f : Option ℕ → Renewal) × AllByRecursion (Is f) (all_systems a)
  all-renewed =
      let whole = from (length (all_systems a)) zero (omega arith) in (
        whole.renewals,
        all-made (Is whole.renewals) (all_systems a)
            (λ s has. let at = at-in (all_systems a) s has in whole.each at.0 s (omega arith) at.1),
      )

pub systems_are_renewed : OffersAreOfHeaders → SystemsAreRenewed
systems_are_renewed headers offers forms a v =
    let started = all-renewed headers offers forms a v (λ o. o.start) IsStarted
    (λ place s stands numbers os zip children renew.
    (v.each place s stands).behaves.starts a.pures a.prelude numbers os zip children renew) in
    let reset = all-renewed headers offers forms a v (λ o. o.reset) IsReset
    (λ place s stands numbers os zip children renew.
    (v.each place s stands).behaves.resets a.pures a.prelude numbers os zip children renew) in
    record { started = started.0; reset = reset.0; starts = started.1; resets = reset.1 }
