-- What the calls of a tick do to the children, all acts together.
use Rattle.std.specs.Prelude.{◌≡◌, ℕ, ◌+◌, ◌≤◌, Bool, true, false, not, ◌&&◌, if◌then◌else◌, MatchBool, List, [], ◌∷◌, ◌++◌, map, length, slice_get, Contains, IsPermutation, IsTrue, Some, refl}
use Rattle.std.specs.List.{enumerate_from}
use Rattle.std.proofs.Common.{sym, ap, ap₂, ◌∙◌, arith, true≢false}
use Rattle.std.proofs.lemmas.List.{append-nil, append_assoc, map-append}
use Rattle.std.proofs.lemmas.List.Elements.{filter_map-append}
use Rattle.std.proofs.lemmas.List.Sorted.{IsPermutation-trans, IsPermutation-append}
use Rattle.modules_profile.specs.declared.ChildUse.{ChildUse}
use Rattle.modules_profile.specs.declared.LocalRow.{LocalRow}
use Rattle.modules_profile.specs.declared.Node.{Node}
use Rattle.modules_profile.specs.declared.Node.TheVariants.{Row}
use Rattle.modules_profile.specs.LocalSystem.{LocalSystem}
use Rattle.modules_profile.specs.SystemHeader.{SystemHeader}
use Rattle.modules_profile.specs.Headers.{header_functions}
use Rattle.modules_profile.specs.LawfulLocals.{IsLocal}
use Rattle.modules_profile.proofs.lemmas.Members.{in-first, in-rest, of-enumerate}
use Rattle.emit_shape.specs.Slots.{Slot, value, instance}
use Rattle.right_relation.specs.LocalTicks.{LocalTick, is_active, is_off}
use Rattle.right_relation.specs.Instances.{Act, out, update, reset, none_called, with_called, InstanceTick, instance_at, call_inside, calls_inside}
use Rattle.right_relation.specs.Serving.{MayCome}
use Rattle.right_relation.specs.Standing.{AreHeld, executed_by, called_in, outer_tick_of}
use Rattle.right_relation.specs.Budgets.{spent_along}
use Rattle.right_relation.specs.Accounts.{log_along, most_along, stored_along, AreCalls, AreCallsAndUpdate, newly_executed, newly_called, AreActs, Adds}
use Rattle.right_linking.specs.Lives.{whole_tick}
use Rattle.right_program_costs.proofs.ActRows.{after_all, log-append, most-append, stored-append}
use Rattle.right_program_costs.proofs.Executed.{executed-more, child-row, left-splits, called-behind}
use Rattle.right_program_costs.proofs.LeftFunctions.{IsLeft, left-more, left-none}
use Rattle.right_program_costs.proofs.Sums.{total, total-is, total-add}

pub sum-same : {A : Type 0} (f g : A → ℕ) (xs : List A) → ((x : A) → Contains xs x → f x ≡ g x) → total f xs ≡ total g xs
sum-same f g [] same = refl
sum-same f g (x ∷ xs) same = ap₂ (λ a b. a + b) (same x (in-first x xs)) (sum-same f g xs (λ y has. same y (in-rest x y xs has)))

-- calls of these functions and then of those, with the update, are calls of all and the update
module _ (news lefts rests : List ℕ) (splits : IsPermutation lefts (news ++ rests)) where
  both-acts : (active : Bool) (first rest others : List Act) → MatchBool active (AreCalls news first) (first ≡ []) →
      MatchBool active (AreCallsAndUpdate rests rest) (rest ≡ others) →
      MatchBool active (AreCallsAndUpdate lefts (first ++ rest)) (first ++ rest ≡ others)
  both-acts true first rest others (fs, order_f, is_f) (gs, order_g, is_g) = (
    fs ++ gs,
    IsPermutation-trans lefts (news ++ rests) (fs ++ gs) splits (IsPermutation-append news fs rests gs order_f order_g),
    ap₂ (λ a b. a ++ b) is_f is_g ∙ sym (append_assoc (map out fs) (map out gs) (update ∷ []))
        ∙ ap (λ acts. acts ++ update ∷ []) (sym (map-append out fs gs)),
  )
  both-acts false first rest others none is = ap (λ acts. acts ++ rest) none ∙ is

module _ (local : LocalSystem) (h : SystemHeader) (held : ℕ → Node → Bool) (m : LocalTick) (slots : List Slot)
    (children : List InstanceTick) (own : InstanceTick) where
  -- the functions of a child that were called
  abbrev before : (ℕ → Bool) → ChildUse → ℕ → Bool
  before called u = called_in (is_active local m) (executed_by h held called) u

  abbrev all_children : List (ℕ × ChildUse)
  all_children = enumerate_from 0 local.children

  pub child-at : (e : ℕ × ChildUse) → Contains all_children e → slice_get local.children e.0 ≡ Some e.1
  child-at e has =
      let k = of-enumerate 0 local.children e has in
      ap (slice_get local.children) (let same : e.0 ≡ k.0 = (let p = k.1 in omega (arith, p)) in same) ∙ k.2

  -- the accounts of these acts from these functions on, where `acts k` is all that is done to child k
  pub record Sums (called : ℕ → Bool) (row : List Act) (spent : ℕ) : Type 0 where
    pub acts : ℕ → List Act
    pub most : most_along own called row
        ≡ spent + total (λ (e : ℕ × ChildUse). most_along (instance_at children e.0) (before called e.1) (acts e.0)) all_children
    pub log : (f k : ℕ) (u : ChildUse) → slice_get slots f ≡ Some (instance k u) →
        calls_inside f (log_along own called row) ≡ log_along (instance_at children k) (before called u) (acts k)
    pub no_other_log : (f : ℕ) → ((k : ℕ) (u : ChildUse) → slice_get slots f ≡ Some (instance k u) → ⊥) →
        calls_inside f (log_along own called row) ≡ []
    pub stored : (f k : ℕ) (u : ChildUse) (path : List ℕ) (field : ℕ) → slice_get slots f ≡ Some (instance k u) →
        stored_along own called row (f ∷ path) field ≤ stored_along (instance_at children k) (before called u) (acts k) path field

  -- of one act
  abbrev pub one-sum : (steps : (ℕ → Bool) → Act → ℕ) (called : ℕ → Bool) (act : Act) →
      Adds local h held m slots children own steps called act → Sums called (act ∷ []) (steps called act)
  one-sum steps called act added = record {
    acts = added.acts;
    most =
        let is = added.most in
        let sum = total-is (λ (e : ℕ × ChildUse). most_along (instance_at children e.0) (before called e.1) (added.acts e.0))
        all_children in
        omega (arith, is, sum);
    log = λ f k u at. ap (calls_inside f) (append-nil (own.log called act)) ∙ added.log f k u at;
    no_other_log = λ f none. ap (calls_inside f) (append-nil (own.log called act)) ∙ added.no_other_log f none;
    stored = λ f k u path field at. let few = added.stored f k u path field at in omega (arith, few);
  }

module _ (local : LocalSystem) (h : SystemHeader) (held : ℕ → Node → Bool) (m : LocalTick) (slots : List Slot)
    (children : List InstanceTick) (own : InstanceTick)
    (steps : (ℕ → Bool) → Act → ℕ) (lawful : IsLocal local) (are_held : AreHeld local h held)
    (places : (f k : ℕ) (u : ChildUse) → slice_get slots f ≡ Some (instance k u) → slice_get local.children k ≡ Some u)
    (adds : (called : ℕ → Bool) (act : Act) → MayCome h (outer_tick_of local m) called act →
    Adds local h held m slots children own steps called act) where
  abbrev Summed : (ℕ → Bool) → List Act → ℕ → Type 0
  Summed called row spent = Sums local h held m slots children own called row spent

  abbrev called-before : (ℕ → Bool) → ChildUse → ℕ → Bool
  called-before called u = called_in (is_active local m) (executed_by h held called) u

  abbrev children-numbered : List (ℕ × ChildUse)
  children-numbered = enumerate_from 0 local.children

  -- of one act and then others
  module _ (called : ℕ → Bool) (j : ℕ) (row : List Act) (spent : ℕ) (added : Adds local h held m slots children own steps called (out j))
      (rest : Summed (with_called called j) row spent) where
    pub behind-first : (k : ℕ) (u : ChildUse) → slice_get local.children k ≡ Some u →
        after_all (called-before called u) (added.acts k) ≡ called-before (with_called called j) u
    behind-first k u at = by (is_active local m) (added.acts k) (added.are_acts k u at)
      where
        by : (active : Bool) (acts : List Act) →
            MatchBool active (AreCalls (newly_called local h held m called (out j) u) acts) (acts ≡ []) →
            after_all (called_in active (executed_by h held called) u) acts ≡ called_in active (executed_by h held (with_called called j)) u
        by true acts (fs, order, is) =
            let e = child-row local lawful k u at in
            ap (after_all (called_in true (executed_by h held called) u)) is
            ∙ called-behind local lawful h held are_held m k e.0 u at e.2 called j fs order
        by false acts is = ap (after_all none_called) is

    abbrev pub more-sum : Summed called (out j ∷ row) (steps called (out j) + spent)
    more-sum = record {
      acts = λ k. added.acts k ++ rest.acts k;
      most =
          let is = added.most in
          let more = rest.most in
          let first : ℕ × ChildUse → ℕ = λ e. most_along (instance_at children e.0) (called-before called e.1) (added.acts e.0) in
          let later : ℕ × ChildUse → ℕ = λ e. most_along (instance_at children e.0) (called-before (with_called called j) e.1)
          (rest.acts e.0) in
          let sum = total-is first children-numbered in
          let both = total-add first later children-numbered in
          let same = sum-same (λ (e : ℕ × ChildUse). most_along (instance_at children e.0) (called-before called e.1)
          (added.acts e.0 ++ rest.acts e.0)) (λ e. first e + later e) children-numbered
          (λ e has. most-append (instance_at children e.0) (called-before called e.1) (added.acts e.0) (rest.acts e.0)
          ∙ ap (λ c. first e + most_along (instance_at children e.0) c (rest.acts e.0))
          (behind-first e.0 e.1 (child-at local h held m slots children own e has))) in
          omega (arith, is, more, sum, both, same);
      log = λ f k u at.
          filter_map-append (call_inside f) (own.log called (out j)) (log_along own (with_called called j) row)
          ∙ ap₂ (λ a b. a ++ b) (added.log f k u at) (rest.log f k u at)
          ∙ ap (λ c. log_along (instance_at children k) (called-before called u) (added.acts k) ++ log_along (instance_at children k) c
          (rest.acts k)) (sym (behind-first k u (places f k u at)))
          ∙ sym (log-append (instance_at children k) (called-before called u) (added.acts k) (rest.acts k));
      no_other_log = λ f none.
          filter_map-append (call_inside f) (own.log called (out j)) (log_along own (with_called called j) row)
          ∙ ap₂ (λ a b. a ++ b) (added.no_other_log f none) (rest.no_other_log f none);
      stored = λ f k u path field at.
          let few = added.stored f k u path field at in
          let more = rest.stored f k u path field at in
          let both = stored-append (instance_at children k) (called-before called u) (added.acts k) (rest.acts k) path field in
          let same = ap (λ c. stored_along (instance_at children k) c (rest.acts k) path field) (behind-first k u (places f k u at)) in
          omega (arith, few, more, both, same);
    }

  -- of all that is left of a whole tick
  pub record Whole (called : ℕ → Bool) (js : List ℕ) : Type 0 where
    pub sums : Summed called (whole_tick js) (spent_along steps called js)
    pub are_acts : (k : ℕ) (u : ChildUse) → slice_get local.children k ≡ Some u → AreActs local h held m called update u (sums.acts k)
    pub stored_here : (f : ℕ) (r : LocalRow) → slice_get slots f ≡ Some (value r) →
        stored_along own called (whole_tick js) [] f ≤ (if newly_executed local h held m called update (Row r.row) then 1 else 0)

  module _ (parent : IsTrue m.tick.parent) where
    few-stored : (s t : Bool) (a b : ℕ) → (s ≡ true → t ≡ true) → a ≤ (if t && not s then 1 else 0) → b ≤ (if not t then 1 else 0) →
        a + b ≤ (if not s then 1 else 0)
    few-stored true true a b kept one two = omega (arith, one, two)
    few-stored true false a b kept one two = absurd (true≢false (sym (kept refl)))
    few-stored false true a b kept one two = omega (arith, one, two)
    few-stored false false a b kept one two = omega (arith, one, two)

    pub whole : (js : List ℕ) (called : ℕ → Bool) → IsLeft (length (header_functions h)) called js → Whole called js
    whole [] called left =
        let added = adds called update (parent, left-none (length (header_functions h)) called left) in
        record {
          sums = one-sum local h held m slots children own steps called update added;
          are_acts = added.are_acts;
          stored_here = λ f r at. let few = added.stored_here f r at in omega (arith, few);
        }
    whole (j ∷ js) called left =
        let added = adds called (out j)
        (parent, (left.some j (in-first j js)).0, (left.some j (in-first j js)).1, left.fresh j (in-first j js)) in
        let rest = whole js (with_called called j) (left-more (length (header_functions h)) called j js left) in
        record {
          sums = more-sum called j (whole_tick js) (spent_along steps (with_called called j) js) added rest.sums;
          are_acts = λ k u at.
              let e = child-row local lawful k u at in
              both-acts (newly_called local h held m called (out j) u) (newly_called local h held m called update u)
              (newly_called local h held m (with_called called j) update u)
              (left-splits local lawful h held are_held m k e.0 u at e.2 called j) (is_active local m) (added.acts k) (rest.sums.acts k)
              (if is_off local m then reset ∷ [] else [])
              (added.are_acts k u at) (rest.are_acts k u at);
          stored_here = λ f r at.
              few-stored (executed_by h held called (Row r.row)) (executed_by h held (with_called called j) (Row r.row))
              (own.stored called (out j) [] f)
              (stored_along own (with_called called j) (whole_tick js) [] f) (executed-more h held called j (Row r.row))
              (added.stored_here f r at) (rest.stored_here f r at);
        }
