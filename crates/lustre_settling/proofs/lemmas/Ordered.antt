-- What follows for ticks: one value for each name, and a tick whose names have an order is done.
use Rattle.std.specs.Prelude.{◌≡◌, ℕ, zero, suc, ℤ, List, Option, Some}
use Rattle.std.proofs.Common.{sym, ap, subst, ◌∙◌, unwrap_or}
use Rattle.lustre_syntax.specs.Tree.{FileTree}
use Rattle.lustre_flows.specs.Values.{value_at}
use Rattle.lustre_flows.specs.Instances.{Instance, values_in, is_complete}
use Rattle.lustre_flows.specs.Ticks.{after_passes, inside, settled, done, tick, tick_from}
use Rattle.lustre_flows.specs.FlowLaws.{Stays, below, IsTickOf, OneValueEach, PassesSettle, IsOrdered, OrderedTicksAreDone}
use Rattle.lustre_settling.proofs.lemmas.Order.{value-kept, values-of-staying, inside-stays, stays-self, stays-on}
use Rattle.lustre_settling.proofs.lemmas.Forms.{root-pass-stays}
use Rattle.lustre_settling.proofs.lemmas.Settled.{passes-below-settled, settled-after, whole-stays-same}
use Rattle.lustre_settling.proofs.lemmas.Ranked.{all-ranked}
use Rattle.lustre_settling.proofs.lemmas.Stuck.{stuck_exactly}

-- what a name of the instance at a path has stays
pub value-inside-kept : (i j : Instance) (path : List ℕ) (k : ℕ) (v : ℤ) → Stays i j →
    value_at (values_in (inside path i)) k ≡ Some v → value_at (values_in (inside path j)) k ≡ Some v
value-inside-kept i j path k v stay is =
    value-kept (values_in (inside path i)) (values_in (inside path j)) k v
    (values-of-staying (inside path i) (inside path j) (inside-stays path i j stay)) is

pub passes_settle : PassesSettle
passes_settle f before row path k v tick = (
  λ gets. value-inside-kept (after_passes f before row gets.0) (settled f before row) path k v
      (passes-below-settled f before row tick gets.0) gets.1,
  λ is. let last = settled-after f before row tick in
      (last.0, subst (λ i. value_at (values_in (inside path i)) k ≡ Some v) last.1 is),
)

pub one_value_each : OneValueEach
one_value_each f before row path k v w tick first second =
    let here = (passes_settle f before row path k v tick).0 first in
    let also = (passes_settle f before row path k w tick).0 second in
    ap (λ o. unwrap_or o v) (sym here ∙ also)

ranked-below-settled : (f : FileTree) (before : Option Instance) (row : List ℤ) (e : Instance) → IsTickOf f before row →
    (ordered : IsOrdered f before row e) → (n : ℕ) → Stays (below ordered.ranks n e) (after_passes f before row n)
ranked-below-settled f before row e tick ordered zero =
    subst (Stays (below ordered.ranks 0 e)) ordered.form (stays-self (below ordered.ranks 0 e))
ranked-below-settled f before row e tick ordered (suc n) =
    stays-on (below ordered.ranks (suc n) e) _ (after_passes f before row (suc n)) (ordered.next n)
    (root-pass-stays f before row (below ordered.ranks n e) (after_passes f before row n)
    (ranked-below-settled f before row e tick ordered n))

pub ordered_ticks_are_done : OrderedTicksAreDone
ordered_ticks_are_done f before row e tick ordered =
    let all = all-ranked ordered.ranks e in
    let stay : Stays e (settled f before row) =
    stays-on e (after_passes f before row all.0) (settled f before row)
    (subst (λ i. Stays i (after_passes f before row all.0)) all.1 (ranked-below-settled f before row e tick ordered all.0))
    (passes-below-settled f before row tick all.0) in
    let same : e ≡ settled f before row = whole-stays-same e (settled f before row) ordered.whole stay in
    let free = (stuck_exactly f before row tick).1 (ap is_complete (sym same) ∙ ordered.whole) in
    ap (λ place. tick_from place (settled f before row)) free ∙ ap done (sym same)
