-- The equations of samples, one after another.
use Rattle.std.proofs.Common.{◌≡◌, ℕ, zero, suc, ◌+◌, ◌-◌, ◌<◌, ◌≤◌, cond, List, [], ◌∷◌, ◌++◌, map, None, sym, ap, ◌∙◌, arith, append-nil, append_assoc}
use Rattle.std.specs.List.{range_with_len}
use Rattle.std.proofs.lemmas.Bool.{lt-ltb, le-ltb}
use Rattle.diagram_blocks.specs.Meaning.{delay_length}
use Rattle.diagram_meaning.specs.Diagram.{Diagram, op_at}
use Rattle.lustre_syntax.specs.Named.{NamedEquation}
use Rattle.lustre_syntax.specs.Tree.{EquationTree, set}
use Rattle.lustre_system.specs.Names.{sample_name}
use Rattle.lustre_system.specs.RowEquations.{samples, sample_equations, sample_value, delayed_name}
use Rattle.lustre_row_equations.specs.RowParts.{next_name, sample_equation}

module _ (d : Diagram) (b : ℕ) where
  abbrev long : ℕ
  long = delay_length (op_at d b)

  -- the name of what a sample takes
  pub not_last : (k : ℕ) → k + 1 < long → sample_name b (k + 1) ≡ next_name d b k
  not_last k less = sym (ap (λ t. cond t (sample_name b (k + 1)) (delayed_name d None b)) (lt-ltb (k + 1) long less))

  pub the_last : (k : ℕ) → long ≤ k + 1 → delayed_name d None b ≡ next_name d b k
  the_last k past = sym (ap (λ t. cond t (sample_name b (k + 1)) (delayed_name d None b)) (le-ltb (k + 1) long past))

  -- the first equation of some
  first-of : (k m : ℕ) → long ≡ k + suc m →
      sample_equations d None b (map (sample_name b) (range_with_len k (suc m)))
      ≡ sample_equation d b k ∷ sample_equations d None b (map (sample_name b) (range_with_len (k + 1) m))
  first-of k zero is =
      let past : long ≤ k + 1 = omega (arith, is) in
      ap (λ n. set 0 (sample_name b k) (sample_value d None b (sample_name b k) n) ∷ []) (the_last k past)
  first-of k (suc m) is =
      let less : k + 1 < long = omega (arith, is) in
      ap (λ n. set 0 (sample_name b k) (sample_value d None b (sample_name b k) n)
      ∷ sample_equations d None b (map (sample_name b) (range_with_len (k + 1) (suc m)))) (not_last k less)

  -- the equations from sample k on
  abbrev pub from_sample : ℕ → List NamedEquation
  from_sample k = sample_equations d None b (map (sample_name b) (range_with_len k (long - k)))

  from-more : (k : ℕ) → k < long → from_sample k ≡ sample_equation d b k ∷ from_sample (k + 1)
  from-more k less =
      let m = long - (k + 1) in
      let here : long - k ≡ suc m = omega (arith, less) in
      let whole : long ≡ k + suc m = omega (arith, less) in
      ap (λ n. sample_equations d None b (map (sample_name b) (range_with_len k n))) here ∙ first-of k m whole

  -- what is left to place, after these
  module _ (placed : NamedEquation → EquationTree) where
    pub all_left : (old : List EquationTree) →
        old ++ map placed (sample_equations d None b (samples d None b)) ≡ old ++ map placed (from_sample 0)
    all_left old = let whole : long ≡ long - 0 = omega arith in
        ap (λ n. old ++ map placed (sample_equations d None b (map (sample_name b) (range_with_len 0 n)))) whole

    pub fewer_left : (all now later : List EquationTree) (k : ℕ) (x : EquationTree) → k < long →
        all ≡ now ++ map placed (from_sample k) → x ≡ placed (sample_equation d b k) → later ≡ now ++ x ∷ [] →
        all ≡ later ++ map placed (from_sample (k + 1))
    fewer_left all now later k x less left is pushed =
        left ∙ ap (λ es. now ++ map placed es) (from-more k less)
        ∙ ap (λ e. now ++ e ∷ map placed (from_sample (k + 1))) (sym is)
        ∙ sym (append_assoc now (x ∷ []) (map placed (from_sample (k + 1))))
        ∙ ap (λ l. l ++ map placed (from_sample (k + 1))) (sym pushed)

    pub none_left : (all now : List EquationTree) (k : ℕ) → long ≤ k → all ≡ now ++ map placed (from_sample k) → now ≡ all
    none_left all now k past left =
        let none : long - k ≡ 0 = omega (arith, past) in
        sym (left ∙ ap (λ n. now ++ map placed (sample_equations d None b (map (sample_name b) (range_with_len k n)))) none
        ∙ append-nil now)
