-- A diagram has no loop, or one that is reported.
use Rattle.std.specs.Prelude.{◌≡◌, ℕ, zero, suc, ◌<◌, ◌≤◌, Bool, true, false, IsTrue, if◌then◌else◌, List, [], ◌∷◌, ◌++◌, length, Contains, Option, Some, None, ◌⊎◌, refl}
use Rattle.std.specs.Ordering.{nat_cmp, is_le}
use Rattle.std.specs.Cmp.Lexicographic.{slice_cmp}
use Rattle.std.proofs.Common.{arith, ◌∙◌, inl, inr}
use Rattle.diagram_blocks.specs.Value.{feeds_through}
use Rattle.diagram_meaning.specs.declared.table.Row.{Row}
use Rattle.diagram_meaning.specs.Rows.{outward}
use Rattle.diagram_meaning.specs.Diagram.{Diagram, op_at}
use Rattle.diagram_meaning.specs.Needs.{needs_of}
use Rattle.diagram_meaning.specs.Inputs.{wires_of_rows}
use Rattle.diagram_meaning.specs.Walk.{Walk, HasNoLoop, IsLeastFrom, IsLeastLoop}
use Rattle.diagram_meaning.proofs.lemmas.Inside.{Contains-nil}
use Rattle.diagram_meaning.proofs.lemmas.Tick.{row_at-past}
use Rattle.diagram_needs.specs.Needed.{IsOnLoop}
use Rattle.diagram_needs.specs.Least.{IsLeastOf}
use Rattle.diagram_needs.specs.LoopLaws.{LoopIsToldOrNone}
use Rattle.diagram_needs.proofs.Comparing.{le-or-above}
use Rattle.diagram_needs.proofs.lemmas.LoopRows.{loop-rows, all-above, none-on_loop}
use Rattle.diagram_meaning.proofs.lemmas.ShortWalks.{first-below, short-walk}
use Rattle.diagram_needs.proofs.LeastSearches.{Decided, least-found}
use Rattle.diagram_needs.proofs.FirstWays.{Way, IsFirstWay, way-decided, first-way}

-- the loop from a on, of which a is not yet known to be the least row
pub record IsLeastThrough (needs : ℕ → List ℕ) (a : ℕ) (path : List ℕ) : Type 0 where
  pub walk : Walk needs a path a
  pub shortest : (other : List ℕ) → Walk needs a other a → length path ≤ length other
  pub first : (other : List ℕ) → Walk needs a other a → length other ≡ length path → IsTrue (is_le (slice_cmp nat_cmp path other))

-- only rows below n need others
module _ (needs : ℕ → List ℕ) (n : ℕ) (bounded : (b c : ℕ) → Contains (needs b) c → b < n) where
  -- a way from row a back to it, over k rows of at most n
  abbrev Round : (a k : ℕ) → Type 0
  Round a k = (k ≤ n) × Way needs a k a

  round-decided : (a k : ℕ) → Decided (Round a k)
  round-decided a k = elim (le-or-above k n) [
    | inl few ↦ elim (way-decided needs a k a (first-way needs a n bounded k a)) [
      | inl none ↦
          inl (λ h. none h.1)
      | inr way ↦ inr (few, way)
    ]
    | inr many ↦ inl (λ h. let few = h.0 in absurd (omega arith))
  ]

  -- of the fewest rows, the first in order
  least-round : (a k : ℕ) (path : List ℕ) → IsLeastOf (Round a) (Some k) → IsFirstWay needs a k a path → IsLeastThrough needs a path
  least-round a k path least way = record {
    walk = way.walk;
    shortest = λ other w. let taken = way.rows in let within = least.0.0 in elim (le-or-above (length other) n) [
      | inl few ↦ let at_least = least.1 (length other) (few, (other, w, refl)) in omega arith
      | inr many ↦ omega arith
    ];
    first = λ other w e. way.first other w (e ∙ way.rows);
  }

  loop-decided : (a : ℕ) → (IsOnLoop needs a → ⊥) ⊎ ((path : List ℕ) × IsLeastThrough needs a path)
  loop-decided a = by (least-found (Round a) (round-decided a) (suc n) (λ k h. let few = h.0 in omega arith))
    where
      by : (found : Option ℕ) × IsLeastOf (Round a) found → (IsOnLoop needs a → ⊥) ⊎ ((path : List ℕ) × IsLeastThrough needs a path)
      by (None, none) =
          inl (λ loop. let short = short-walk needs a n bounded a loop.0 loop.1 in
          none (length short.0) (short.2, (short.0, short.1, refl)))
      by (Some k, least) = elim (first-way needs a n bounded k a) [
        | inl none ↦ absurd (none least.0.1)
        | inr way ↦ inr (way.0, least-round a k way.0 least way.1)
      ]

  -- the least row on any loop begins it
  least-from : (a : ℕ) (path : List ℕ) → IsLeastOf (IsOnLoop needs) (Some a) → IsLeastThrough needs a path → IsLeastFrom needs a path
  least-from a path row through = record {
    is_loop = through.walk;
    least_row = λ loop w. all-above needs a row.1 loop (loop-rows needs loop w);
    shortest = through.shortest;
    least = through.first;
  }

  pub told-or-none : HasNoLoop needs ⊎ ((loop : List ℕ) × IsLeastLoop needs loop)
  told-or-none = by (least-found (IsOnLoop needs) on_loop-decided n (λ b loop. first-below needs b n bounded b loop.0 loop.1))
    where
      on_loop-decided : (b : ℕ) → Decided (IsOnLoop needs b)
      on_loop-decided b = elim (loop-decided b) [ inl none ↦ inl none | inr through ↦ inr (through.0, through.1.walk) ]

      by : (found : Option ℕ) × IsLeastOf (IsOnLoop needs) found → HasNoLoop needs ⊎ ((loop : List ℕ) × IsLeastLoop needs loop)
      by (None, none) = inl (none-on_loop needs none)
      by (Some a, row) = elim (loop-decided a) [
        | inl none ↦ absurd (none row.0)
        | inr through ↦ inr (a ∷ through.0, least-from a through.0 row through.1)
      ]

-- a row past the end of the table has no wires
no-wires : (rows : List Row) (n c : ℕ) (feeds : Bool) →
    Contains ((if feeds then [] else []) ++ wires_of_rows rows (outward rows None n None)) c → ⊥
no-wires rows zero c true h = Contains-nil c h
no-wires rows (suc n) c true h = Contains-nil c h
no-wires rows zero c false h = Contains-nil c h
no-wires rows (suc n) c false h = Contains-nil c h

-- only rows of the table need others
all-bounded : (d : Diagram) (b c : ℕ) → Contains (needs_of d b) c → b < length d.rows
all-bounded d b c h = elim (row_at-past d.rows b) [
  | inl below ↦ below
  | inr past ↦ absurd (no-wires d.rows (length d.rows) c (feeds_through (op_at d b)) (rw past at h))
]

pub loop_is_told_or_none : LoopIsToldOrNone
loop_is_told_or_none d = told-or-none (needs_of d) (length d.rows) (all-bounded d)
