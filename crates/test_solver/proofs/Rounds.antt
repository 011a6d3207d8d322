-- Rounds over all rows settle: each makes the values of all rows from those of the round before.
use Rattle.std.specs.Prelude.{◌≡◌, ℕ, zero, suc, ◌+◌, ◌≤◌, List, length, Contains, None, ℤ, pos, if◌then◌else◌}
use Rattle.std.proofs.Common.{refl, sym, ◌∙◌, ap, arith, add-one, inr}
use Rattle.diagram_activity.specs.declared.TrigMem.{TrigMem}
use Rattle.diagram_meaning.specs.Rows.{is_inside}
use Rattle.diagram_meaning.specs.Diagram.{Diagram}
use Rattle.diagram_meaning.specs.Needs.{needs_of, needs_inside, HasNoLoop}
use Rattle.diagram_meaning.specs.Run.{value_at}
use Rattle.diagram_meaning.proofs.lemmas.ByRow.{by_row-agree, by_row-equal}
use Rattle.diagram_meaning.proofs.lemmas.Agreement.{row_value-agree}
use Rattle.diagram_meaning.proofs.lemmas.Walks.{Within}
use Rattle.diagram_meaning.proofs.lemmas.Tick.{agree-for, guarded, next_round, from-members, short}

module _ (d : Diagram) (t : ℕ) (x before : List ℤ) (m : List (List ℤ)) (g : List TrigMem) where
  -- the values after some rounds from the first ones
  pub rounds : List ℤ → ℕ → List ℤ
  rounds first zero = first
  rounds first (suc n) = next_round d None t x before m g (rounds first n)

  -- a row's value rests on the rows that it needs
  made-alike : (v w : List ℤ) (b : ℕ) → ((c : ℕ) → Contains (needs_inside d None b) c → value_at v c ≡ value_at w c) →
      guarded d None t x before m g v b ≡ guarded d None t x before m g w b
  made-alike v w b h =
      ap (λ z. if is_inside d.rows None b then z else pos 0)
      (row_value-agree d None x x v w g t before m b
      (agree-for d None x x v w g b (λ e q. (inr refl, inr refl)) (λ q. refl)
      (from-members d None t x before m g v w (needs_inside d None b) h)))

  round-alike : (v w : List ℤ) → ((c : ℕ) → value_at v c ≡ value_at w c) →
      next_round d None t x before m g v ≡ next_round d None t x before m g w
  round-alike v w h =
      by_row-equal d.rows (guarded d None t x before m g v) (guarded d None t x before m g w)
      (λ b. made-alike v w b (λ c k. h c))

  -- a row whose walks end within n steps no longer changes after n rounds
  settled : (first : List ℤ) (n k b : ℕ) → Within (needs_inside d None) n b → n ≤ k →
      value_at (rounds first k) b ≡ value_at (rounds first (suc k)) b
  unfolding rounds
  settled first zero k b h le = absurd h
  settled first (suc n) zero b h le = absurd (omega arith)
  settled first (suc n) (suc k) b h le =
      by_row-agree d.rows (guarded d None t x before m g (rounds first k)) (guarded d None t x before m g (rounds first (suc k))) b
      (made-alike (rounds first k) (rounds first (suc k)) b (λ c i. settled first n k c (h c i) (omega arith)))

  -- the first values are those before a round
  pub no-round : (first : List ℤ) → first ≡ rounds first 0
  unfolding rounds
  no-round first = refl

  -- one more round
  pub round-more : (first v next : List ℤ) (n : ℕ) → v ≡ rounds first n → next ≡ next_round d None t x before m g v →
      next ≡ rounds first (n + 1)
  unfolding rounds
  round-more first v next n e made = rw add-one (made ∙ ap (next_round d None t x before m g) e)

  -- without a loop two rounds more than there are rows give a solution
  pub rounds-solve : HasNoLoop (needs_of d) → (first v : List ℤ) → v ≡ rounds first (length d.rows + 2) →
      v ≡ next_round d None t x before m g v
  unfolding rounds
  rounds-solve none first v e =
      let n = suc (length d.rows) in
      let two : length d.rows + 2 ≡ suc n = omega arith in
      let last : v ≡ rounds first (suc n) = e ∙ ap (rounds first) two in
      last ∙ round-alike (rounds first n) (rounds first (suc n))
      (λ c. settled first n n c (short d None t x before m g none c) (omega arith))
      ∙ ap (next_round d None t x before m g) (sym last)
