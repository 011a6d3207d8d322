-- The calls of a whole tick on the instance itself.
use Rattle.std.specs.Prelude.{◌≡◌, ℕ, ◌+◌, ◌-◌, ◌<◌, ◌≤◌, Bool, List, [], ◌∷◌, ◌++◌, map, length, Contains, IsPermutation, IsTrue, Option, refl}
use Rattle.std.specs.List.{range_with_len}
use Rattle.std.proofs.Common.{sym, ap, ap₂, subst, ◌∙◌, arith}
use Rattle.std.proofs.lemmas.List.{append-nil}
use Rattle.std.proofs.lemmas.List.Sorted.{IsPermutation-map}
use Rattle.std.proofs.lemmas.Option.{get_or_from_slice_get}
use Rattle.modules_profile.specs.SystemHeader.{SystemHeader}
use Rattle.modules_profile.specs.Headers.{header_functions}
use Rattle.modules_profile.proofs.lemmas.Members.{in-first, in-rest, at-map, at-range}
use Rattle.c_syntax.specs.Tree.{ProgramTree}
use Rattle.emit_shape.specs.Names.{out_name, update_name}
use Rattle.emit_shape.specs.Programs.{procedure_place}
use Rattle.emit_shape.specs.Faces.{out_count}
use Rattle.right_relation.specs.Instances.{out, update, none_called, with_called, OuterTick, InstanceTick, Offered, nothing_offered, Offer, offered_for, calls_at}
use Rattle.right_relation.specs.Accounts.{log_along}
use Rattle.right_relation.specs.Serving.{Serves}
use Rattle.right_claim.specs.Calls.{IsWholeTick}
use Rattle.right_linking.specs.Offers.{offered_by, program_offer}
use Rattle.right_linking.specs.Lives.{whole_tick}
use Rattle.right_program_costs.proofs.LeftFunctions.{IsLeft, left-first, left-more, left-none}
use Rattle.right_program_costs.proofs.Logs.{calls-append}

map-same : {A B : Type 0} (f g : A → B) (xs : List A) → ((x : A) → Contains xs x → f x ≡ g x) → map f xs ≡ map g xs
map-same f g [] same = refl
map-same f g (x ∷ xs) same = ap₂ (λ y ys. y ∷ ys) (same x (in-first x xs)) (map-same f g xs (λ z has. same z (in-rest x z xs has)))

module _ (h : SystemHeader) (o : Offer) (cycle : ℕ) (outer : OuterTick) (i : InstanceTick) (serves : Serves h o cycle outer i)
    (parent : IsTrue outer.parent) where
  abbrev functions : ℕ
  functions = length (header_functions h)

  own-calls : (js : List ℕ) (called : ℕ → Bool) → IsLeft functions called js →
      calls_at [] (log_along i called (whole_tick js)) ≡ map (λ j. (offered_for o (out j)).number) js ++ o.update.number ∷ []
  own-calls [] called left = ap (calls_at []) (append-nil (i.log called update))
      ∙ serves.logged called update (parent, left-none functions called left)
  own-calls (j ∷ js) called left =
      calls-append [] (i.log called (out j)) (log_along i (with_called called j) (whole_tick js))
      ∙ ap₂ (λ a b. a ++ b)
      (serves.logged called (out j) (
        parent,
        (left.some j (in-first j js)).0,
        (left.some j (in-first j js)).1,
        left.fresh j
            (in-first j js),
      ))
      (own-calls js (with_called called j) (left-more functions called j js left))

module _ (p : ProgramTree) (h : SystemHeader) (cycle : ℕ) (outer : OuterTick) (i : InstanceTick)
    (serves : Serves h (program_offer p h) cycle outer i)
    (parent : IsTrue outer.parent) (s : Option ℕ) (row : h.row ≡ s) (count : out_count p s ≡ length (header_functions h)) where
  number-is : (j : ℕ) → 0 < j → j ≤ length (header_functions h) →
      (offered_for (program_offer p h) (out j)).number ≡ procedure_place p (out_name s j)
  number-is j low high =
      let there : 1 + (j - 1) ≡ j = omega arith in
      let at = at-map (λ k. offered_by p (out_name h.row k)) (range_with_len 1 (length (header_functions h))) (j - 1) (1 + (j - 1))
      (at-range 1 (length (header_functions h)) (j - 1) (omega arith)) in
      ap (λ (q : Offered). q.number) (get_or_from_slice_get
      (map (λ k. offered_by p (out_name h.row k)) (range_with_len 1 (length (header_functions h)))) (j - 1)
      (offered_by p (out_name h.row (1 + (j - 1)))) nothing_offered at)
      ∙ ap (λ k. procedure_place p (out_name h.row k)) there ∙ ap (λ (o : Option ℕ). procedure_place p (out_name o j)) row

  pub whole-tick : (js : List ℕ) → IsPermutation (range_with_len 1 (length (header_functions h))) js →
      IsWholeTick p s (calls_at [] (log_along i none_called (whole_tick js)))
  whole-tick js order =
      let left = left-first (length (header_functions h)) js order in
      record {
        outs = map (λ j. procedure_place p (out_name s j)) js;
        each_once = subst (λ n. IsPermutation (map (λ j. procedure_place p (out_name s j)) (range_with_len 1 n))
            (map (λ j. procedure_place p (out_name s j)) js)) (sym count)
            (IsPermutation-map (λ j. procedure_place p (out_name s j)) (range_with_len 1 (length (header_functions h))) js order);
        then_update = own-calls h (program_offer p h) cycle outer i serves parent js none_called left
            ∙ ap₂ (λ a b. a ++ b) (map-same (λ j. (offered_for (program_offer p h) (out j)).number)
            (λ j. procedure_place p (out_name s j)) js
            (λ j has. number-is j (left.some j has).0 (left.some j has).1))
            (ap (λ (o : Option ℕ). procedure_place p (update_name o) ∷ []) row);
      }
