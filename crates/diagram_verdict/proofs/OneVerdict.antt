-- Each file has one verdict, by the laws of its table, of its times and of loops.
use Rattle.std.specs.Prelude.{◌≡◌, refl, ℕ, List, [], ◌∷◌, Option, Some, None}
use Rattle.std.proofs.Common.{sym, ◌∙◌, ap, subst, inl, inr}
use Rattle.base_refusals.specs.Refusals.{PlainRefusal, Loop}
use Rattle.diagram_meaning.specs.RowTable.{RowTable}
use Rattle.diagram_meaning.specs.ResolvedTable.{ResolvedTable, diagram_of_table, IsResolvedTable}
use Rattle.diagram_meaning.specs.TypeRefusals.{type_refusal}
use Rattle.diagram_meaning.specs.TimeRefusals.{HasTimeRefusal}
use Rattle.diagram_meaning.specs.DelayRefusals.{delay_refusal}
use Rattle.diagram_meaning.specs.TimeLaws.{TimesAreOne, TablesHaveTimes, TimeRefusalIsOne, TimeRefusalIsThere}
use Rattle.diagram_meaning.specs.WellFormed.{IsWellFormed}
use Rattle.diagram_meaning.specs.Needs.{needs_of, HasNoLoop, IsLeastLoop}
use Rattle.diagram_verdict.specs.Files.{FileVerdict, IsModelWith, HasFileVerdict, HasOneFileVerdict, AcceptedTablesAreWellFormed}
use Rattle.diagram_verdict.specs.Files as file
use Rattle.diagram_needs.specs.LoopLaws.{LoopIsToldOrNone, ToldLoopIsOne}
use Rattle.diagram_verdict.specs.Verdict.{places_of, Verdict, Refused, Accepted, HasVerdict, HasOneVerdict}
use Rattle.diagram_verdict.proofs.OneResolution.{IsOf, resolution-is-one, resolution-is-there}

-- the laws on which this rests
pub record Laws : Type 0 where
  pub have_times : TablesHaveTimes
  pub times : TimesAreOne
  pub some_refusal : TimeRefusalIsThere
  pub refusal : TimeRefusalIsOne
  pub told : LoopIsToldOrNone
  pub one_loop : ToldLoopIsOne

-- ---- A table

-- what is said after the loops, by the refusal of the delays
abbrev pub settled : Option PlainRefusal → ResolvedTable → Verdict
settled (Some refusal) r = Refused refusal
settled None r = Accepted r

-- the same of a table that is resolved
abbrev behind_loops : ResolvedTable → Verdict
behind_loops r = settled (delay_refusal r.table.rows) r

-- what the verdicts on a table are
pub data OfTable (table : RowTable) : Verdict → Type 0 where
  ill_typed : (refusal : PlainRefusal) → type_refusal table.rows ≡ Some refusal → OfTable table (Refused refusal)
  ill_timed : (refusal : PlainRefusal) → type_refusal table.rows ≡ None → HasTimeRefusal table (Some refusal) →
      OfTable table (Refused refusal)
  looping : (r : ResolvedTable) (loop : List ℕ) → IsOf table r → IsLeastLoop (needs_of (diagram_of_table r)) loop →
      OfTable table (Refused (Loop (places_of r.table.rows loop)))
  loop_free : (r : ResolvedTable) → IsOf table r → HasNoLoop (needs_of (diagram_of_table r)) → OfTable table (behind_loops r)

-- there is one and no other
abbrev OneOfTable : RowTable → Type 0
OneOfTable table = (verdict : Verdict) × OfTable table verdict × ((other : Verdict) → OfTable table other → other ≡ verdict)

some-equal : {A : Type 0} (a b : A) → Some a ≡ Some b → a ≡ b
some-equal a b e = cc

some-none : {A : Type 0} (a : A) → Some a ≡ None → ⊥
some-none a e = absurd (cc)

-- a reported loop is a loop
looped : (needs : ℕ → List ℕ) (loop : List ℕ) → HasNoLoop needs → IsLeastLoop needs loop → ⊥
looped needs [] none told = told
looped needs (a ∷ path) none told = none (a ∷ path) told.is_loop

module _ (laws : Laws) (table : RowTable) where
  -- a table that is resolved is refused neither for its types nor for its times
  well-typed : (r : ResolvedTable) → IsOf table r → type_refusal table.rows ≡ None
  well-typed r is = ap (λ (t : RowTable). type_refusal t.rows) (sym is.of_table) ∙ is.resolved.types_accepted

  well-timed : (r : ResolvedTable) (refusal : PlainRefusal) → IsOf table r → HasTimeRefusal table (Some refusal) → ⊥
  well-timed r refusal is h =
      some-none refusal
      (laws.refusal table (Some refusal) None h
      (subst (λ t. HasTimeRefusal t None) is.of_table is.resolved.times_accepted))

  only-ill_typed : (refusal : PlainRefusal) → type_refusal table.rows ≡ Some refusal → (other : Verdict) →
      OfTable table other → other ≡ Refused refusal
  only-ill_typed refusal e _ (ill_typed also f) = ap Refused (some-equal also refusal (sym f ∙ e))
  only-ill_typed refusal e _ (ill_timed also right h) = absurd (some-none refusal (sym e ∙ right))
  only-ill_typed refusal e _ (looping r loop is told) = absurd (some-none refusal (sym e ∙ well-typed r is))
  only-ill_typed refusal e _ (loop_free r is none) = absurd (some-none refusal (sym e ∙ well-typed r is))

  only-ill_timed : (refusal : PlainRefusal) → type_refusal table.rows ≡ None → HasTimeRefusal table (Some refusal) →
      (other : Verdict) → OfTable table other →
      other ≡ Refused refusal
  only-ill_timed refusal right h _ (ill_typed also f) = absurd (some-none also (sym f ∙ right))
  only-ill_timed refusal right h _ (ill_timed also right' h') =
      ap Refused (some-equal also refusal (laws.refusal table (Some also) (Some refusal) h' h))
  only-ill_timed refusal right h _ (looping r loop is told) = absurd (well-timed r refusal is h)
  only-ill_timed refusal right h _ (loop_free r is none) = absurd (well-timed r refusal is h)

  module _ (r : ResolvedTable) (is : IsOf table r) where
    same : (other : ResolvedTable) → IsOf table other → r ≡ other
    same other also = resolution-is-one laws.times table r other is also

    only-looping : (loop : List ℕ) → IsLeastLoop (needs_of (diagram_of_table r)) loop → (other : Verdict) → OfTable table other →
        other ≡ Refused (Loop (places_of r.table.rows loop))
    only-looping loop told _ (ill_typed also f) = absurd (some-none also (sym f ∙ well-typed r is))
    only-looping loop told _ (ill_timed also right h) = absurd (well-timed r also is h)
    only-looping loop told _ (looping other more also found) =
        let here : IsLeastLoop (needs_of (diagram_of_table r)) more =
        subst (λ (x : ResolvedTable). IsLeastLoop (needs_of (diagram_of_table x)) more) (sym (same other also)) found in
        let one = laws.one_loop (needs_of (diagram_of_table r)) more loop here told in
        λ i. Refused (Loop (places_of (sym (same other also) i).table.rows (one i)))
    only-looping loop told _ (loop_free other also none) =
        absurd (looped (needs_of (diagram_of_table r)) loop
        (subst (λ (x : ResolvedTable). HasNoLoop (needs_of (diagram_of_table x))) (sym (same other also)) none)
        told)

    only-loop_free : HasNoLoop (needs_of (diagram_of_table r)) → (other : Verdict) → OfTable table other → other ≡ behind_loops r
    only-loop_free none _ (ill_typed also f) = absurd (some-none also (sym f ∙ well-typed r is))
    only-loop_free none _ (ill_timed also right h) = absurd (well-timed r also is h)
    only-loop_free none _ (looping other loop also found) =
        absurd (looped (needs_of (diagram_of_table r)) loop none
        (subst (λ (x : ResolvedTable). IsLeastLoop (needs_of (diagram_of_table x)) loop)
        (sym (same other also)) found))
    only-loop_free none _ (loop_free other also no_loop) = ap behind_loops (sym (same other also))

    of-resolution : OneOfTable table
    of-resolution = elim (laws.told (diagram_of_table r)) [
      | inl none ↦ (behind_loops r, loop_free r is none, only-loop_free none)
      | inr (loop, told) ↦ (Refused (Loop (places_of r.table.rows loop)), looping r loop is told, only-looping loop told)
    ]

  of-times : IsWellFormed table → type_refusal table.rows ≡ None → (found : Option PlainRefusal) →
      HasTimeRefusal table found → OneOfTable table
  of-times formed right (Some refusal) h = (Refused refusal, ill_timed refusal right h, only-ill_timed refusal right h)
  of-times formed right None h = let some = resolution-is-there laws.have_times table formed right h in of-resolution some.0 some.1

  pub of-table : IsWellFormed table → OneOfTable table
  of-table formed = by (type_refusal table.rows) refl
    where
      by : (found : Option PlainRefusal) → type_refusal table.rows ≡ found → OneOfTable table
      by (Some refusal) e = (Refused refusal, ill_typed refusal e, only-ill_typed refusal e)
      by None e = let timed = laws.some_refusal table in of-times formed e timed.0 timed.1

-- ---- A file

-- a verdict is a refusal of the file, or a verdict on its table
data View (bytes : List ℕ) : Verdict → Type 0 where
  of_file : (refusal : PlainRefusal) → HasFileVerdict bytes (file.Refused refusal) → View bytes (Refused refusal)
  of_model : (table : RowTable) (verdict : Verdict) → IsModelWith bytes table → OfTable table verdict → View bytes verdict

pub own : (r : ResolvedTable) → IsResolvedTable r → IsOf r.table r
own r resolved = record { of_table = refl; resolved = resolved }

view : (bytes : List ℕ) (verdict : Verdict) → HasVerdict bytes verdict → View bytes verdict
view bytes (Refused refusal) (inl h) = of_file refusal h
view bytes (Refused refusal) (inr (inl (table, with, e))) = of_model table (Refused refusal) with (ill_typed refusal e)
view bytes (Refused refusal) (inr (inr (inl (table, with, right, h)))) = of_model table (Refused refusal) with (ill_timed refusal right h)
view bytes (Refused refusal) (inr (inr (inr (inl (r, (with, is), (loop, told, e)))))) =
    of_model r.table (Refused refusal) with
    (subst (λ (x : PlainRefusal). OfTable r.table (Refused x)) (sym e) (looping r loop (own r is) told))
view bytes (Refused refusal) (inr (inr (inr (inr (r, ((with, is), none), e))))) =
    of_model r.table (Refused refusal) with
    (subst (OfTable r.table) (ap (λ (long : Option PlainRefusal). settled long r) e) (loop_free r (own r is) none))
view bytes (Accepted r) accepted =
    of_model r.table (Accepted r) accepted.model.0
    (subst (OfTable r.table) (ap (λ (long : Option PlainRefusal). settled long r) accepted.short_delays)
    (loop_free r (own r accepted.model.1) accepted.no_loop))

has : (bytes : List ℕ) (table : RowTable) (verdict : Verdict) → IsModelWith bytes table → OfTable table verdict → HasVerdict bytes verdict
has bytes table _ with (ill_typed refusal e) = inr (inl (table, with, e))
has bytes table _ with (ill_timed refusal right h) = inr (inr (inl (table, with, right, h)))
has bytes table _ with (looping r loop is told) =
    inr (inr (inr (inl (r, (subst (IsModelWith bytes) (sym is.of_table) with, is.resolved), (loop, told, refl)))))
has bytes table _ with (loop_free r is none) = by (delay_refusal r.table.rows) refl
  where
    model : IsModelWith bytes r.table
    model = subst (IsModelWith bytes) (sym is.of_table) with

    by : (long : Option PlainRefusal) → delay_refusal r.table.rows ≡ long → HasVerdict bytes (settled long r)
    by (Some refusal) e = inr (inr (inr (inr (r, ((model, is.resolved), none), e))))
    by None e = record { model = (model, is.resolved); no_loop = none; short_delays = e }

-- of two verdicts on a file's text and tree
refused-equal : (a b : PlainRefusal) → file.Refused a ≡ file.Refused b → a ≡ b
refused-equal a b e = cc

table-equal : (a b : RowTable) → file.Accepted a ≡ file.Accepted b → a ≡ b
table-equal a b e = cc

not-both : (refusal : PlainRefusal) (table : RowTable) → file.Accepted table ≡ file.Refused refusal → ⊥
not-both refusal table e = absurd (cc)

only-file : (bytes : List ℕ) (refusal : PlainRefusal) →
    ((other : FileVerdict) → HasFileVerdict bytes other → other ≡ file.Refused refusal) →
    (other : Verdict) → View bytes other → other ≡ Refused refusal
only-file bytes refusal only _ (of_file more h) = ap Refused (refused-equal more refusal (only (file.Refused more) h))
only-file bytes refusal only _ (of_model table verdict with of) = absurd (not-both refusal table (only (file.Accepted table) with))

only-model : (bytes : List ℕ) (table : RowTable) (verdict : Verdict) →
    ((other : FileVerdict) → HasFileVerdict bytes other → other ≡ file.Accepted table) →
    ((other : Verdict) → OfTable table other → other ≡ verdict) → (other : Verdict) → View bytes other → other ≡ verdict
only-model bytes table verdict only one _ (of_file more h) = absurd (not-both more table (sym (only (file.Refused more) h)))
only-model bytes table verdict only one _ (of_model also other with of) =
    one other (subst (λ t. OfTable t other) (table-equal also table (only (file.Accepted also) with)) of)

pub one_verdict : ((bytes : List ℕ) → HasOneFileVerdict bytes) → AcceptedTablesAreWellFormed → Laws → (bytes : List ℕ) → HasOneVerdict bytes
one_verdict files well_formed laws bytes = by (files bytes)
  where
    by : HasOneFileVerdict bytes → HasOneVerdict bytes
    by (file.Refused refusal, h, only) = (Refused refusal, inl h, λ other is. only-file bytes refusal only other (view bytes other is))
    by (file.Accepted table, with, only) =
        let of = of-table laws table (well_formed bytes table with) in
        (of.0, has bytes table of.0 with of.1, λ other is. only-model bytes table of.0 only of.2 other (view bytes other is))
