-- Paths of rows and the marks beside them.
use Rattle.std.specs.Prelude.{◌≡◌, refl, ℕ, ◌<◌, ◌≤◌, true, false, List, [], ◌∷◌, ◌++◌, length, slice_index, Contains, replicate, Option, Some, None}
use Rattle.std.proofs.Common.{sym, ◌∙◌, ap, subst, arith, set, length-set, length-append}
use Rattle.std.proofs.lemmas.Grind.{common_steps, get_or_default_zero}
use Rattle.std.proofs.lemmas.List.{get_or_past, get_or-set_same, get_or-set_other, get_or-replicate, length-replicate}
use Rattle.std.proofs.lemmas.List.Elements.{Contains-append_left}
use native.Mathlib.Decide.{ℕ_discrete, dec_lt}
use Rattle.base_fixed_point.specs.declared.FixType.{FixType}
use Rattle.diagram_meaning.specs.declared.table.Row.{Row}
use Rattle.diagram_meaning.specs.Types.{TypeRule, Known, SameAs, type_rule, type_by}
use Rattle.diagram_meaning.specs.TypeRefusals.{followed_type}
use Rattle.diagram_types.specs.declared.marks.Mark.{Mark}
use Rattle.diagram_types.specs.declared.marks.Mark.TheVariants.{New, OnPath, Settled}
use Rattle.diagram_types.specs.Marks.{mark_at, is_new, met_by}
use Rattle.diagram_types.specs.Walks.{LeadsTo, AreMarks, IsPath, AllMeet}
use Rattle.diagram_types.proofs.lemmas.FollowedLemmas.{past-followed, followed-step, round-followed, leads-one, leads-more}

-- a row of which nothing is known is one of the table
pub new-inside : (marks : List Mark) (b : ℕ) → is_new (mark_at marks b) ≡ true → b < length marks
new-inside marks b new = elim (dec_lt b (length marks)) [
  | yes inside ↦ inside
  | no past ↦ absurd (let none = get_or_past marks b (Settled None) (omega arith) in let wrong : ⊥ = cc (new, ap is_new none) in wrong)
]

-- ---- The path that is followed

on-path-not_settled : (met : Option FixType) → (let m : Mark = OnPath in m ≡ Settled met) → ⊥
on-path-not_settled met e = cc e

-- a row is placed on the path
pub marks-more : (rows : List Row) (marks : List Mark) (path : List ℕ) (b : ℕ) → b < length marks → AreMarks rows marks path →
    AreMarks rows (set marks b OnPath) (path ++ b ∷ [])
marks-more rows marks path b inside are = record {
  one_each = length-set marks b OnPath ∙ are.one_each;
  right = right;
  listed = listed;
}
  where
    here : mark_at (set marks b OnPath) b ≡ OnPath
    here = get_or-set_same marks b OnPath (Settled None) inside

    right : (c : ℕ) (met : Option FixType) → mark_at (set marks b OnPath) c ≡ Settled met → met ≡ followed_type rows c
    right c met e = elim (ℕ_discrete c b) [
      | yes same ↦ absurd (on-path-not_settled met (sym here ∙ subst (λ k. mark_at (set marks b OnPath) k ≡ Settled met) same e))
      | no differ ↦ are.right c met (sym (get_or-set_other marks b c OnPath (Settled None) differ) ∙ e)
    ]

    last : (c : ℕ) → c ≡ b → Contains (path ++ b ∷ []) c
    last c same = (length path, omega (arith, length-append path (b ∷ [])), grind (arith, common_steps))

    listed : (c : ℕ) → mark_at (set marks b OnPath) c ≡ OnPath → Contains (path ++ b ∷ []) c
    listed c e = elim (ℕ_discrete c b) [
      | yes same ↦ last c same
      | no differ ↦ Contains-append_left path (b ∷ []) c (are.listed c (sym (get_or-set_other marks b c OnPath (Settled None) differ) ∙ e))
    ]

-- what holds of all places of the path and of the place after holds of all places of the longer one
longer : (P : ℕ → Type 0) (path : List ℕ) (b : ℕ) → ((i : ℕ) → i < length path → P (slice_index path i)) → P b →
    (i : ℕ) → i < length (path ++ b ∷ []) → P (slice_index (path ++ b ∷ []) i)
longer P path b before here i h = elim (dec_lt i (length path)) [
  | yes inside ↦ subst P (sym (front i inside)) (before i inside)
  | no past ↦ subst P (sym (behind i (omega (arith, h, length-append path (b ∷ []))))) here
]
  where
    front : (i : ℕ) → i < length path → slice_index (path ++ b ∷ []) i ≡ slice_index path i
    front i inside = grind (arith, common_steps)

    behind : (i : ℕ) → i ≡ length path → slice_index (path ++ b ∷ []) i ≡ b
    behind i at_end = grind (arith, common_steps)

same-followed : (rows : List Row) (b : ℕ) (r : TypeRule) → type_rule rows b ≡ r → followed_type rows b ≡ type_by r (followed_type rows)
same-followed rows b r e = followed-step rows b ∙ ap (λ r. type_by r (followed_type rows)) e

-- the rule of the last row leads on
pub path-more : (rows : List Row) (path : List ℕ) (b c : ℕ) → b < length rows → type_rule rows b ≡ SameAs c → IsPath rows path b →
    IsPath rows (path ++ b ∷ []) c
path-more rows path b c inside e is = record {
  inside = longer (λ a. a < length rows) path b is.inside inside;
  leads = longer (λ a. LeadsTo rows a c) path b (λ i h. leads-more rows (slice_index path i) b c (is.leads i h) e) (leads-one rows b c e);
  same_type = longer (λ a. followed_type rows a ≡ followed_type rows c) path b
      (λ i h. is.same_type i h ∙ same-followed rows b (SameAs c) e) (same-followed rows b (SameAs c) e);
}

pub start-more : (rows : List Row) (start b c : ℕ) → type_rule rows b ≡ SameAs c → followed_type rows start ≡ followed_type rows b →
    followed_type rows start ≡ followed_type rows c
start-more rows start b c e same = same ∙ same-followed rows b (SameAs c) e

-- ---- The end of a path

-- the rule of the last row gives a type, or none
pub path-rule : (rows : List Row) (path : List ℕ) (b : ℕ) (met : Option FixType) → b < length rows →
    followed_type rows b ≡ met → IsPath rows path b →
    AllMeet rows (path ++ b ∷ []) met
path-rule rows path b met inside e is = record {
  inside = longer (λ a. a < length rows) path b is.inside inside;
  same_type = longer (λ a. followed_type rows a ≡ met) path b (λ i h. is.same_type i h ∙ e) e;
}

pub known-followed : (rows : List Row) (b : ℕ) (t : FixType) → type_rule rows b ≡ Known t → followed_type rows b ≡ Some t
known-followed rows b t e = same-followed rows b (Known t) e

-- the last row is known already, or on the path itself
pub mark-followed : (rows : List Row) (marks : List Mark) (path : List ℕ) (b : ℕ) → is_new (mark_at marks b) ≡ false →
    AreMarks rows marks path →
    IsPath rows path b → met_by (mark_at marks b) ≡ followed_type rows b
mark-followed rows marks path b old are is = by (mark_at marks b) refl old
  where
    round : Contains path b → LeadsTo rows b b
    round (i, inside, same) = subst (λ a. LeadsTo rows a b) (sym (get_or_default_zero path i b inside) ∙ same) (is.leads i inside)

    by : (m : Mark) → mark_at marks b ≡ m → is_new m ≡ false → met_by m ≡ followed_type rows b
    by New e old = absurd (let wrong : ⊥ = cc old in wrong)
    by OnPath e old = sym (round-followed rows b (round (are.listed b e)))
    by (Settled met) e old = are.right b met e

pub path-mark : (rows : List Row) (path : List ℕ) (b : ℕ) (met : Option FixType) → met ≡ followed_type rows b →
    IsPath rows path b → AllMeet rows path met
path-mark rows path b met e is = record { inside = is.inside; same_type = λ i h. is.same_type i h ∙ sym e }

-- ---- All rows

some-settled : (a b : Option FixType) → (let m : Mark = Settled a in m ≡ Settled b) → a ≡ b
some-settled a b e = cc e

pub all-new : (rows : List Row) (marks : List Mark) → marks ≡ replicate (length rows) New → AreMarks rows marks []
all-new rows marks e = subst (λ marks. AreMarks rows marks []) (sym e) (record {
  one_each = length-replicate (length rows) New;
  right = right;
  listed = λ b f. absurd (listed b f);
})
  where
    inside : (b : ℕ) → b < length rows → mark_at (replicate (length rows) New) b ≡ New
    inside b h = get_or-replicate (length rows) b New (Settled None) h

    past : (b : ℕ) → length rows ≤ b → mark_at (replicate (length rows) New) b ≡ Settled None
    past b h = get_or_past (replicate (length rows) New) b (Settled None) (omega (arith, length-replicate (length rows) New))

    right : (b : ℕ) (met : Option FixType) → mark_at (replicate (length rows) New) b ≡ Settled met → met ≡ followed_type rows b
    right b met f = elim (dec_lt b (length rows)) [
      | yes low ↦ absurd (let new = inside b low in let wrong : ⊥ = cc (new, f) in wrong)
      | no high ↦ some-settled met None (sym f ∙ past b (omega arith)) ∙ sym (past-followed rows b (omega arith))
    ]

    listed : (b : ℕ) → mark_at (replicate (length rows) New) b ≡ OnPath → ⊥
    listed b f = elim (dec_lt b (length rows)) [
      | yes low ↦ (let new = inside b low in let wrong : ⊥ = cc (new, f) in wrong)
      | no high ↦ (let none = past b (omega arith) in let wrong : ⊥ = cc (none, f) in wrong)
    ]
