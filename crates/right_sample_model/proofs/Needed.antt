-- What the outputs of the root need: the first In1, the second both inputs, and the third In2.
use Rattle.std.specs.Prelude.{◌≡◌, ◌↔◌, ℕ, zero, suc, ◌-◌, ◌*◌, ◌^◌, ◌<◌, ◌≤◌, nat_le, Bool, true, false, not, ◌&&◌, ◌||◌, ◌==◌, List, [], ◌∷◌, length, Contains, IsBitSet, None, refl}
use Rattle.std.proofs.Common.{arith, lit<, lit≤, eq-eqb, sym, ap, subst, ◌∙◌, inl, inr, true≢false}
use Rattle.std.proofs.lemmas.Nat.Bits.{and_pow, bit_at_above}
use Rattle.std.proofs.lemmas.List.Elements.{All-contains, All-from_recursion}
use Rattle.std.specs.List.{AllByRecursion}
use Rattle.base_core.specs.declared.Port.TheVariants.{Number}
use Rattle.diagram_meaning.specs.Rows.{row_at, same_system}
use Rattle.diagram_blocks.specs.Kinds.{is_inport, port_of}
use Rattle.diagram_meaning.specs.RowTimes.{RowTimes}
use Rattle.diagram_meaning.specs.Diagram.{Diagram}
use Rattle.diagram_meaning.specs.Needs.{needs_inside, Walk, Reaches, IsInputRow, TrueNeeds, IsMaskOf, AreTrueNeeds}
use Rattle.diagram_meaning.specs.ResolvedTree.{diagram_of}
use Rattle.diagram_meaning.proofs.lemmas.Inside.{Contains-nil}
use Rattle.diagram_meaning.proofs.lemmas.Tests.{all_below, below-at, is_member, member-from, all_of, all-from, le-from}
use Rattle.right_sample_model.specs.Rows.{rich_rows}
use Rattle.right_sample_model.proofs.Formed.{rich_is_well_formed}
use Rattle.right_sample_model.proofs.Models.{model}

-- ---- Masks of two bits

high-none : (m k : ℕ) → m < 4 → 2 ≤ k → IsBitSet m k → ⊥
high-none m k low high set = set (and_pow m k ∙ ap (λ b. b * 2 ^ k) (bit_at_above m 2 k low high) ∙ (let e : 0 * 2 ^ k ≡ 0 = omega arith in e))

-- whether a list has this number, the other way round
from-member : (xs : List ℕ) (z : ℕ) → Contains xs z → is_member xs z ≡ true
from-member [] z h = absurd (Contains-nil z h)
from-member (x ∷ xs) z (zero, below, e) = ap (λ t. t || is_member xs z) (eq-eqb x z e)
from-member (x ∷ xs) z (suc k, below, e) = by (x == z) (from-member xs z (k, omega arith, e))
  where
    by : (t : Bool) → is_member xs z ≡ true → (t || is_member xs z) ≡ true
    by true h = refl
    by false h = h

-- ---- Rows that a row reaches

module _ (needs : ℕ → List ℕ) (among : List ℕ) (closed : (b c : ℕ) → Contains among b → Contains (needs b) c → Contains among c) where
  walk-among : (b : ℕ) (path : List ℕ) (c : ℕ) → Contains among b → Walk needs b path c → Contains among c
  walk-among b [] c there w = closed b c there w
  walk-among b (a ∷ path) c there w = walk-among a path c (closed b a there w.0) w.1

  reaches-among : (b c : ℕ) → Contains among b → Reaches needs b c → Contains among c
  reaches-among b c there (inl same) = subst (Contains among) same there
  reaches-among b c there (inr (path, walk)) = walk-among b path c there walk

closed-from : (needs : ℕ → List ℕ) (among : List ℕ) → all_of (λ b. all_of (is_member among) (needs b)) among ≡ true →
    (b c : ℕ) → Contains among b → Contains (needs b) c → Contains among c
closed-from needs among h b c there need =
    let inside : ℕ → Type 0 = λ a. AllByRecursion (Contains among) (needs a) in
    let all : AllByRecursion inside among =
    all-from (λ a. all_of (is_member among) (needs a)) inside
    (λ a e. all-from (is_member among) (Contains among) (member-from among) (needs a) e) among h in
    All-contains (Contains among) (needs b) c
    (All-from_recursion (Contains among) (needs b) (All-contains inside among b (All-from_recursion inside among all) there)) need

-- ---- The Inports of the root

few_ports : Bool
few_ports =
    all_below (λ i. not (is_inport (row_at rich_rows i).kind && same_system (row_at rich_rows i).owner None)
    || nat_le (port_of (row_at rich_rows i).kind) 2) (length rich_rows)

are-few : few_ports ≡ true
unfolding few_ports
are-few = refl

two-ports : (k i : ℕ) → IsInputRow rich_rows None k i → k ≤ 2
unfolding few_ports
two-ports k i is =
    by (is_inport (row_at rich_rows i).kind) (ap is_inport is.is_inport) (same_system (row_at rich_rows i).owner None)
    (ap (λ o. same_system o None) is.is_own)
    (below-at (λ i. not (is_inport (row_at rich_rows i).kind && same_system (row_at rich_rows i).owner None)
    || nat_le (port_of (row_at rich_rows i).kind) 2) (length rich_rows) i are-few is.in_table)
  where
    low : nat_le (port_of (row_at rich_rows i).kind) 2 ≡ true → k ≤ 2
    low e = let most = le-from (port_of (row_at rich_rows i).kind) 2 e in
        let same : port_of (row_at rich_rows i).kind ≡ k = ap port_of is.is_inport in omega arith

    by : (p : Bool) → p ≡ true → (q : Bool) → q ≡ true → (not (p && q) || nat_le (port_of (row_at rich_rows i).kind) 2) ≡ true → k ≤ 2
    by true e true f h = low h
    by true e false f h = absurd (true≢false (sym f))
    by false e q f h = absurd (true≢false (sym e))

first-row : IsInputRow rich_rows None 1 0
first-row = record { in_table = lit< tt; is_inport = refl; is_own = refl }

second-row : IsInputRow rich_rows None 2 1
second-row = record { in_table = lit< tt; is_inport = refl; is_own = refl }

one-row : (k i j : ℕ) → IsInputRow rich_rows None k i → IsInputRow rich_rows None k j → i ≡ j
one-row k i j p q =
    (rich_is_well_formed.inports None).one_each i j p.in_table q.in_table p.is_own q.is_own (ap is_inport p.is_inport)
    (ap is_inport q.is_inport) (ap port_of p.is_inport ∙ sym (ap port_of q.is_inport))

module _ (times : RowTimes) where
  abbrev d : Diagram
  d = diagram_of (model times)

  abbrev needs : ℕ → List ℕ
  needs = needs_inside d None

  -- ---- The mask of an output

  missing : (among : List ℕ) (o k i : ℕ) → all_of (λ b. all_of (is_member among) (needs b)) among ≡ true →
      is_member among o ≡ true → is_member among i ≡ false → IsInputRow rich_rows None k i → TrueNeeds d None o (Number k) → ⊥
  missing among o k i closed there absent row (j, is, reach) =
      let within = reaches-among needs among (closed-from needs among closed) o j (member-from among o there) reach in
      true≢false (sym (from-member among j within) ∙ ap (is_member among) (one-row k j i is row) ∙ absent)

  mask-is : (o m : ℕ) → m < 4 → IsBitSet m 0 ↔ TrueNeeds d None o (Number 1) → IsBitSet m 1 ↔ TrueNeeds d None o (Number 2) →
      IsMaskOf (TrueNeeds d None o) m
  mask-is o m low first second = record {
    bounded = omega arith;
    number = λ k above most. by k above;
    enable = (λ set. absurd (high-none m 32 low (lit≤ tt) set), λ t. absurd (true≢false (sym t)));
    trigger = (λ set. absurd (high-none m 33 low (lit≤ tt) set), λ t. absurd (true≢false (sym t)));
  }
    where
      by : (k : ℕ) → 0 < k → IsBitSet m (k - 1) ↔ TrueNeeds d None o (Number k)
      by zero above = absurd (omega arith)
      by (suc zero) above = first
      by (suc (suc zero)) above = second
      by (suc (suc (suc k))) above = (
        λ set. absurd (high-none m (suc (suc (suc k)) - 1) low (omega arith) set),
        λ need. absurd (let few = two-ports (suc (suc (suc k))) need.0 need.1 in omega arith),
      )

  held : IsMaskOf (TrueNeeds d None 13) 1
  held = mask-is 13 1 (lit< tt)
      (λ set. (0, first-row, inr (11 ∷ [], ((0, lit< tt, refl), (0, lit< tt, refl)))), λ need e. let no : 1 ≡ 0 = e in omega arith)
      (λ set. absurd (set refl), λ need. absurd (missing (13 ∷ 11 ∷ 0 ∷ []) 13 2 1 refl refl refl second-row need))

  summed : IsMaskOf (TrueNeeds d None 14) 3
  summed = mask-is 14 3 (lit< tt) (
    λ set. (0, first-row, inr (12 ∷ 11 ∷ [], ((0, lit< tt, refl), ((0, lit< tt, refl), (0, lit< tt, refl))))),
    λ need e. let no : 1 ≡ 0 = e in omega arith,
  ) (
    λ set. (1, second-row, inr (12 ∷ 10 ∷ [], ((0, lit< tt, refl), ((1, lit< tt, refl), (1, lit< tt, refl))))),
    λ need e. let no : 2 ≡ 0 = e in omega arith,
  )

  delayed : IsMaskOf (TrueNeeds d None 15) 2
  delayed = mask-is 15 2 (lit< tt)
      (λ set. absurd (set refl), λ need. absurd (missing (15 ∷ 6 ∷ 5 ∷ 1 ∷ []) 15 1 0 refl refl refl first-row need))
      (λ set. (1, second-row, inr (6 ∷ [], ((0, lit< tt, refl), (1, lit< tt, refl)))), λ need e. let no : 2 ≡ 0 = e in omega arith)

  pub rich_needs : AreTrueNeeds d None (1 ∷ 3 ∷ 2 ∷ [])
  rich_needs = (held, (summed, (delayed, tt)))
