-- Equations in order stay so where more is known.
use Rattle.std.proofs.Common.{ℕ, List, [], ◌∷◌, inl, inr}
use Rattle.lustre_syntax.specs.Named.{NamedEquation}
use Rattle.lustre_right.specs.Reads.{equation_reads, Known, KnownAfter, InOrder}
use Rattle.lustre_rows.proofs.lemmas.Lists.{all-map}

pub after-wider : (known wider : Known) → ((text : List ℕ) → known text → wider text) → (e : NamedEquation) → (text : List ℕ) →
    KnownAfter known e text → KnownAfter wider e text
after-wider known wider more e text (inl is) = inl (more text is)
after-wider known wider more e text (inr is) = inr is

pub in-order-wider : (known wider : Known) → ((text : List ℕ) → known text → wider text) → (es : List NamedEquation) →
    InOrder known es → InOrder wider es
in-order-wider known wider more [] order = tt
in-order-wider known wider more (e ∷ es) order = (
  all-map known wider more (equation_reads e) order.0,
  in-order-wider (KnownAfter known e) (KnownAfter wider e) (after-wider known wider more e) es order.1,
)
