-- A multiple in memory that grows over the numbers of rows.
use Rattle.std.proofs.Common.{◌≡◌, sym, ◌∙◌, ap, subst, ℕ, ◌<◌, ◌≤◌, List, [], ◌∷◌, map, Option, None, Some, Result, Ok, Err, IfErr}
use Rattle.std.specs.Prelude.{fold, option_map}
use Rattle.base_refusals.specs.declared.refusal.CycleWhat.{CycleWhat}
use Rattle.std.specs.Result.{IsErrAnd}
use Rattle.base_refusals.specs.declared.refusal.Refusal.{Refusal}
use Rattle.base_core.specs.Numbers.{lcm}
use Rattle.base_refusals.specs.Refusals.{PlainRefusal, LongCycle}
use Rattle.diagram_meaning.specs.TimeRefusals.{AtLine, first_over}
use Rattle.diagram_times.specs.declared.cycles.Multiple.{Multiple}
use Rattle.diagram_times.proofs.LineNumbers.{IsRunning, running-grown, running-over}

-- the multiple of the numbers up to here, within its limit
pub record IsGrowing (limit : ℕ) (what : CycleWhat) (start : ℕ) (all : List AtLine) (multiple : Multiple)
    (left : List AtLine) : Type 0 where
  pub limit_is : multiple.limit ≡ limit
  pub what_is : multiple.what ≡ what
  pub within : multiple.so_far ≤ limit
  pub running : IsRunning limit start all multiple.so_far left

-- the first number that is too great, as it is refused
abbrev pub too_long : CycleWhat → Option AtLine → Option PlainRefusal
too_long what over = option_map (λ (over : AtLine). LongCycle over.line what over.number) over

module _ (limit : ℕ) (what : CycleWhat) (start : ℕ) (all : List AtLine) (before : Multiple) (left : List AtLine) where
  pub grown : (later : Multiple) (line number : ℕ) →
      IsGrowing limit what start all before (record { line = line; number = number } ∷ left) →
      0 < number → later.so_far ≡ lcm before.so_far number → later.so_far ≤ before.limit →
      (later.limit ≡ before.limit) × (later.what ≡ before.what) → IsGrowing limit what start all later left
  grown later line number is above e within same =
      let low : later.so_far ≤ limit = subst (λ n. later.so_far ≤ n) is.limit_is within in
      record {
        limit_is = same.0 ∙ is.limit_is;
        what_is = same.1 ∙ is.what_is;
        within = low;
        running = running-grown limit start all before.so_far line number later.so_far left is.running above e low;
      }

  pub grown-over : (line number : ℕ) (refused : PlainRefusal) →
      IsGrowing limit what start all before (record { line = line; number = number } ∷ left) →
      refused ≡ LongCycle line before.what (lcm before.so_far number) → before.limit < lcm before.so_far number →
      too_long what (first_over limit start all) ≡ Some refused
  grown-over line number refused is e above =
      ap (too_long what) (running-over limit start all before.so_far line number left is.running
      (subst (λ n. n < lcm before.so_far number) is.limit_is above))
      ∙ ap (λ w. Some (LongCycle line w (lcm before.so_far number))) (sym is.what_is)
      ∙ ap Some (sym e)

  pub left-to : (rest : List AtLine) → left ≡ rest → IsGrowing limit what start all before left → IsGrowing limit what start all before rest
  left-to rest e is = subst (IsGrowing limit what start all before) e is

  -- none are left
  pub grown-all : left ≡ [] → IsGrowing limit what start all before left → first_over limit start all ≡ None
  grown-all e is = sym is.running.over ∙ ap (first_over limit before.so_far) e

  pub grown-value : left ≡ [] → IsGrowing limit what start all before left →
      before.so_far ≡ fold lcm start (map (λ (a : AtLine). a.number) all)
  grown-value e is = ap (λ rest. fold lcm before.so_far (map (λ (a : AtLine). a.number) rest)) (sym e) ∙ is.running.product

-- what `?` returns
pub refused-same : {V : Type 0} (r : Result V Refusal) (e : Refusal) (P : Refusal → Type 0) →
    IsErrAnd r (λ given. given ≡ e) → P e → IfErr r P
refused-same (Ok v) e P given h = absurd given
refused-same (Err given) e P is h = subst P (sym is) h
