-- The root counts the ticks of the cycle.
use Rattle.std.proofs.Common.{◌≡◌, refl, sym, ap, ◌∙◌, ℕ, zero, suc, ◌+◌, ◌/◌, ◌%◌, ◌^◌, ◌<◌, ◌≤◌, Bool, true, false, if◌then◌else◌, [], slice_index_or, Option, None, Some, option_map, ℤ, pos, neg_ℤ, int_lt, int_le, int_div, int_rem, arith, mod-eq_of_lt}
use Rattle.std.proofs.Math.Nat.{mod-add-mod}
use Rattle.std.specs.Ordering.{int_eq}
use Rattle.std.proofs.lemmas.Bool.{and_from}
use Rattle.std.proofs.lemmas.Bool.Decides.{Decides-int_eq}
use Rattle.std.proofs.lemmas.Int.{ints}
use Rattle.emit_shape.specs.Names.{now_name}
use Rattle.lustre_syntax.specs.declared.LusOp.TheVariants.{Add, Mod}
use Rattle.lustre_syntax.specs.Named.{renamed}
use Rattle.lustre_flows.specs.declared.LusWhy.TheVariants.{Overflow, ZeroDivisor}
use Rattle.lustre_flows.specs.Values.{Outcome, gives, fails, and_then, value_of, read, fits, checked, operate, value_at, evaluate}
use Rattle.lustre_flows.specs.Instances.{Instance, values_in}
use Rattle.lustre_system.specs.File.{next_now}
use Rattle.lustre_right.specs.Systems.{RootHolds, root_place}
use Rattle.lustre_right.specs.TickLaws.{HadRun}
use Rattle.lustre_ticks.proofs.Setting.{Setting, d, hyper}

fits-small : (n : ℕ) → n < 2 ^ 63 → fits (pos n) ≡ true
fits-small n small =
    and_from (int_le (neg_ℤ (pos (2 ^ 63))) (pos n)) (int_lt (pos n) (pos (2 ^ 63))) (grind (arith, ints)) (grind (arith, ints, small))

checked-small : (n : ℕ) → n < 2 ^ 63 → checked (pos n) ≡ gives (pos n)
checked-small n small = ap (λ b. if b then gives (pos n) else fails Overflow) (fits-small n small)

not-zero : (n : ℕ) → 0 < n → int_eq (pos n) (pos 0) ≡ false
not-zero n some = by (int_eq (pos n) (pos 0)) refl
  where
    by : (b : Bool) → int_eq (pos n) (pos 0) ≡ b → int_eq (pos n) (pos 0) ≡ false
    by false is = is
    by true is = let same : pos n ≡ pos 0 = (Decides-int_eq (pos n) (pos 0)).0 is in absurd (omega (arith, ints, same, some))

remainder-is : (n hyper : ℕ) → n < 2 ^ 63 → 0 < hyper → operate Mod (pos n) (pos hyper) ≡ gives (pos (n % hyper))
remainder-is n hyper small some =
    let less : n / hyper ≤ n = omega (arith, some) in
    ap (λ (b : Bool). and_then (if b then fails ZeroDivisor else checked (int_div (pos n) (pos hyper)))
    (λ q. gives (int_rem (pos n) (pos hyper))))
    (not-zero hyper some)
    ∙ ap (λ (o : Outcome). and_then o (λ q. gives (int_rem (pos n) (pos hyper)))) (checked-small (n / hyper) (omega (arith, less, small)))

pub counted : (t hyper : ℕ) → 0 < hyper → hyper ≤ 2 ^ 30 →
    and_then (operate Add (pos (t % hyper)) (pos 1)) (λ x. operate Mod x (pos hyper)) ≡ gives (pos (suc t % hyper))
counted t hyper some short =
    let below : t % hyper < hyper = omega (arith, some) in
    let one : t + 1 ≡ suc t = omega arith in
    ap (λ (o : Outcome). and_then o (λ x. operate Mod x (pos hyper))) (checked-small (t % hyper + 1) (omega (arith, below, short)))
    ∙ remainder-is (t % hyper + 1) hyper (omega (arith, below, short)) some
    ∙ ap (λ n. gives (pos n)) (mod-add-mod t hyper 1 ∙ ap (λ n. n % hyper) one)

module _ (g : Setting) where
  pub root-holds : RootHolds (d g) (hyper g) g.before (slice_index_or g.xs g.t []) g.left
  root-holds = (g.laws.hold g.r g.before (slice_index_or g.xs g.t []) g.left g.solution).0

  cycle : 0 < hyper g
  cycle = g.laws.cycles g.r.tree.table g.r.types g.r.ops g.r.times g.tick.resolved.resolved

  short : hyper g ≤ 2 ^ 30
  short = g.laws.short g.r.tree.table g.r.types g.r.ops g.r.times g.tick.resolved.resolved

  next-is : (before : Option Instance) (t : ℕ) → HadRun g.r g.xs g.run t before →
      value_of (evaluate (option_map values_in before) (values_in g.left) (renamed (root_place (d g) (hyper g)) (next_now (hyper g))))
      ≡ Some (pos (t % hyper g))
  next-is None zero had = ap (λ n. Some (pos n)) (sym (mod-eq_of_lt cycle))
  next-is None (suc t) had = absurd (omega (arith, had))
  next-is (Some before) zero had = absurd had
  next-is (Some before) (suc t) had =
      ap (λ (o : Option ℤ). value_of (and_then (and_then (read o) (λ x. operate Add x (pos 1))) (λ x. operate Mod x (pos (hyper g)))))
      had.count ∙ ap value_of (counted t (hyper g) cycle short)

  pub counts : value_at (values_in g.left) (root_place (d g) (hyper g) now_name) ≡ Some (pos (g.t % hyper g))
  counts = root-holds.now ∙ next-is g.before g.t g.had
