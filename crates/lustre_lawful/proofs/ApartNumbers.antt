-- Numbers of which none is twice: of rows, of ports, and those in a row.
use Rattle.std.specs.Prelude.{◌≡◌, ℕ, zero, suc, ◌+◌, ◌<◌, Bool, true, false, cond, List, [], ◌∷◌, filter, length, get_or, Option}
use Rattle.std.specs.List.{range_with_len}
use Rattle.std.proofs.Common.{refl, sym, ◌∙◌, arith}
use Rattle.diagram_blocks.specs.Kinds.{is_outport, port_of}
use Rattle.diagram_meaning.specs.declared.Row.{Row}
use Rattle.diagram_meaning.specs.Rows.{row_at, row_numbers, rows_of, outports_of, same_system}
use Rattle.modules_clusters.specs.Grouping.{AreDifferent}
use Rattle.modules_profile.proofs.lemmas.LawfulSteps.{apart-found, apart-differ}
use Rattle.modules_profile.proofs.lemmas.Members.{of-filter, of-range}
use Rattle.lustre_lawful.proofs.Counts.{Apart}

apart-from : (ks : List ℕ) → AreDifferent ks → Apart ks
apart-from [] differ = tt
apart-from (k ∷ ks) differ = (
  λ j there same.
      let (i, below, is) = there in
      differ 0 (suc i) (omega arith) (omega (arith, below)) (same ∙ sym is ∙ defaults ks i j 0 below),
  apart-from ks (λ i j less below. differ (suc i) (suc j) (omega (arith, less)) (omega (arith, below))),
)
  where
    defaults : (ks : List ℕ) (i a b : ℕ) → i < length ks → get_or ks i a ≡ get_or ks i b
    defaults [] i a b below = absurd (omega (arith, below))
    defaults (k ∷ ks) zero a b below = refl
    defaults (k ∷ ks) (suc i) a b below = defaults ks i a b (omega (arith, below))

pub apart-numbers : (a n : ℕ) → Apart (range_with_len a n)
apart-numbers a zero = tt
apart-numbers a (suc n) = (λ j there same. let low = (of-range (a + 1) n j there).0 in omega (arith, low, same), apart-numbers (a + 1) n)

pub apart-filter : (p : ℕ → Bool) (ks : List ℕ) → Apart ks → Apart (filter p ks)
apart-filter p [] apart = tt
apart-filter p (k ∷ ks) apart = by (p k) (apart-filter p ks apart.1)
  where
    by : (b : Bool) → Apart (filter p ks) → Apart (cond b (k ∷ filter p ks) (filter p ks))
    by true rest = (λ j there. apart.0 j (of-filter p ks j there).0, rest)
    by false rest = rest

pub apart-rows : (rows : List Row) (s : Option ℕ) → Apart (rows_of rows s)
apart-rows rows s = apart-filter (λ b. same_system (row_at rows b).owner s) (row_numbers rows) (apart-numbers 0 (length rows))

pub apart-outports : (rows : List Row) (s : Option ℕ) → Apart (outports_of rows s)
apart-outports rows s =
    let own = filter (λ b. is_outport (row_at rows b).kind) (rows_of rows s) in
    apart-from (outports_of rows s)
    (apart-differ (outports_of rows s) (apart-found (λ b. port_of (row_at rows b).kind) own 1 (length own)))
