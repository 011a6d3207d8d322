-- A loop, and the inputs that the outputs of a small system need.
use Rattle.std.specs.Prelude.{◌≡◌, ℕ, zero, suc, ◌≤◌, false, IsTrue, List, [], ◌∷◌, length, Contains, Some, None, ◌⊎◌, refl}
use Rattle.std.specs.List.{AllByRecursion}
use Rattle.std.specs.Ordering.{nat_cmp, is_le}
use Rattle.std.specs.Cmp.Lexicographic.{slice_cmp}
use Rattle.std.proofs.Common.{sym, subst, arith, inl, inr, lit<}
use Rattle.base_core.specs.declared.Port.TheVariants.{Number}
use Rattle.diagram_blocks.specs.declared.Kind.TheVariants.{Inport, Outport, Sum, Gain}
use Rattle.diagram_blocks.specs.declared.GainText.TheVariants.{Own}
use Rattle.diagram_meaning.specs.Diagram.{Diagram}
use Rattle.diagram_meaning.specs.Needs.{needs_of, needs_inside, Walk, IsLoop, IsLeastLoop, TrueNeeds}
use Rattle.diagram_meaning.specs.RunExamples.{simple, row, how, zero_initial}
use Rattle.diagram_meaning.proofs.lemmas.Inside.{Contains-nil}
use Rattle.diagram_meaning.proofs.RunExamples.{passing}

-- what a list of one or two holds
pub of_one : (a c : ℕ) → Contains (a ∷ []) c → a ≡ c
of_one a c (zero, below, e) = e
of_one a c (suc k, below, e) = absurd (omega arith)

pub of_two : (a b c : ℕ) → Contains (a ∷ b ∷ []) c → (a ≡ c) ⊎ (b ≡ c)
of_two a b c (zero, below, e) = inl e
of_two a b c (suc zero, below, e) = inr e
of_two a b c (suc (suc k), below, e) = absurd (omega arith)

-- a sum and a gain that go round
abbrev round : Diagram
round = simple (row None (Inport 1) [] ∷ row None (Sum 2 2 how) (0 ∷ 2 ∷ [])
    ∷ row None (Gain (Own zero_initial) how) (1 ∷ []) ∷ row None (Outport 1 false zero_initial) (1 ∷ []) ∷ [])

not-first : (a c : ℕ) → Contains (needs_of round a) c → 1 ≤ a
not-first zero c h = absurd (Contains-nil c h)
not-first (suc a) c h = omega arith

along : (a : ℕ) (path : List ℕ) (z : ℕ) → Walk (needs_of round) a path z → AllByRecursion (λ b. 1 ≤ b) (a ∷ path)
along a [] z w = (not-first a z w, tt)
along a (b ∷ path) z w = (not-first a b w.0, along b path z w.1)

rows-of_loop : (loop : List ℕ) → IsLoop (needs_of round) loop → AllByRecursion (λ b. 1 ≤ b) loop
rows-of_loop [] w = absurd w
rows-of_loop (a ∷ path) w = along a path a w

not-alone : (other : List ℕ) → IsLoop (needs_of round) (1 ∷ other) → 1 ≤ length other
not-alone [] w = elim (of_two 0 2 1 w) [ inl e ↦ absurd (omega arith) | inr e ↦ absurd (omega arith) ]
not-alone (b ∷ other) w = omega arith

first-of_two : (other : List ℕ) → IsLoop (needs_of round) (1 ∷ other) → length other ≡ 1 → IsTrue (is_le (slice_cmp nat_cmp (2 ∷ []) other))
first-of_two [] w e = absurd (omega arith)
first-of_two (b ∷ c ∷ other) w e = absurd (omega arith)
first-of_two (b ∷ []) w e = elim (of_two 0 2 b w.0) [
  | inl zero_is ↦ absurd (Contains-nil 1 (subst (λ k. Contains (needs_of round k) 1) (sym zero_is) w.1))
  | inr two_is ↦ subst (λ k. IsTrue (is_le (slice_cmp nat_cmp (2 ∷ []) (k ∷ [])))) two_is refl
]

pub round_loop : IsLeastLoop (needs_of round) (1 ∷ 2 ∷ [])
round_loop =
    record {
      is_loop = ((1, lit< tt, refl), (0, lit< tt, refl));
      least_row = rows-of_loop;
      shortest = not-alone;
      least = first-of_two;
    }

-- The first output of a system that passes its inputs through needs the first input, and not the second.
pub first_needs_first : TrueNeeds passing (Some 1) 4 (Number 1)
first_needs_first = (2, record { in_table = lit< tt; is_inport = refl; is_own = refl }, inr ([], (0, lit< tt, refl)))

no-way : (path : List ℕ) → Walk (needs_inside passing (Some 1)) 4 path 3 → ⊥
no-way [] w = let e = of_one 2 3 w in omega arith
no-way (b ∷ path) w = from (of_one 2 b w.0) path w.1
  where
    from : {c : ℕ} → 2 ≡ c → (path : List ℕ) → Walk (needs_inside passing (Some 1)) c path 3 → ⊥
    from e [] w = Contains-nil 3 (subst (λ k. Contains (needs_inside passing (Some 1) k) 3) (sym e) w)
    from e (b ∷ path) w = Contains-nil b (subst (λ k. Contains (needs_inside passing (Some 1) k) b) (sym e) w.0)
