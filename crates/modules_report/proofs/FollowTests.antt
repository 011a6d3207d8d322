-- What the tests of the first functions say.
use Rattle.std.proofs.Common.{◌≡◌, ℕ, ◌+◌, ◌<◌, ◌≤◌, ◌==◌, Bool, false, IsTrue, List, length, sym, ap, subst, ◌∙◌, inl, inr}
use Rattle.std.proofs.lemmas.Bool.{false≢true}
use Rattle.std.specs.List.{count_by}
use Rattle.modules_profile.specs.declared.Function.{Function}
use Rattle.modules_profile.specs.Functions.{functions_for}
use Rattle.modules_report.specs.Following.{CanComeFirst, IsFront, needs_of, not_known}

pub all_tested : (outputs count left : ℕ) (fs found : List Function) (needs : List ℕ) → needs ≡ needs_of outputs fs →
    found ≡ functions_for needs →
    left ≡ count_by (λ n. n == not_known) needs → left ≡ 0 → length fs ≡ count → found ≡ fs → CanComeFirst outputs count fs
all_tested outputs count left fs found needs n f o none number all = inl record {
  none_open = ap (count_by (λ k. k == not_known)) (sym n) ∙ sym o ∙ none;
  number = number;
  all = ap functions_for (sym n) ∙ sym f ∙ all;
}

pub first_tested : (outputs count left : ℕ) (fs found : List Function) (needs : List ℕ) → needs ≡ needs_of outputs fs →
    found ≡ functions_for needs →
    left ≡ count_by (λ n. n == not_known) needs → 0 < left → length fs < count → count ≤ length fs + left →
    IsFront fs found → CanComeFirst outputs count fs
first_tested outputs count left fs found needs n f o some more enough front = inr record {
  some_open = subst (λ k. 0 < k) opened some;
  more = more;
  enough = subst (λ k. count ≤ length fs + k) opened enough;
  first = subst (IsFront fs) (f ∙ ap functions_for n) front;
}
  where
    opened : left ≡ count_by (λ k. k == not_known) (needs_of outputs fs)
    opened = o ∙ ap (count_by (λ k. k == not_known)) n

-- where the one test fails and such functions can come first, the other holds
pub none_left_out : (outputs count left : ℕ) (fs found : List Function) (needs : List ℕ) (all first : Bool) → needs ≡ needs_of outputs fs →
    found ≡ functions_for needs → left ≡ count_by (λ n. n == not_known) needs → all ≡ false →
    (left ≡ 0 → length fs ≡ count → found ≡ fs → IsTrue all) →
    (0 < left → length fs < count → count ≤ length fs + left → IsFront fs found → IsTrue first) →
    CanComeFirst outputs count fs → IsTrue first
none_left_out outputs count left fs found needs all first n f o not_all tests_all tests_first (inl a) =
    absurd (false≢true (sym not_all ∙ tests_all (o ∙ ap (count_by (λ k. k == not_known)) n ∙ a.none_open) a.number
    (f ∙ ap functions_for n ∙ a.all)))
none_left_out outputs count left fs found needs all first n f o not_all tests_all tests_first (inr a) =
    tests_first (subst (λ k. 0 < k) (sym opened) a.some_open) a.more (subst (λ k. count ≤ length fs + k) (sym opened) a.enough)
    (subst (IsFront fs) (sym (f ∙ ap functions_for n)) a.first)
  where
    opened : left ≡ count_by (λ k. k == not_known) (needs_of outputs fs)
    opened = o ∙ ap (count_by (λ k. k == not_known)) n
