-- The verdict on a tree is that on each file of which it is the tree, and each tree has one.
use Rattle.std.specs.Prelude.{◌≡◌, refl, ℕ, List, Option, Some, None}
use Rattle.std.proofs.Common.{sym, ◌∙◌, ap, subst, inl, inr}
use Rattle.base_refusals.specs.Refusals.{PlainRefusal}
use Rattle.mdl_tree.specs.Spelling.{Items}
use Rattle.diagram_meaning.specs.RowTable.{RowTable}
use Rattle.diagram_meaning.specs.DelayRefusals.{delay_refusal}
use Rattle.mdl_rows.specs.Refusals.{tree_refusal}
use Rattle.mdl_table.specs.Laws.{TreeHasTable, TreeHasOneTable, TreeTableIsWellFormed}
use Rattle.diagram_verdict.specs.declared.fault.ModelFault.{ModelFault}
use Rattle.diagram_verdict.specs.declared.fault.ModelFault.TheVariants as fault
use Rattle.diagram_verdict.specs.Files.{IsFile, IsModelWith, OfTexts}
use Rattle.diagram_verdict.specs.Faults.{IsFaultOf}
use Rattle.diagram_verdict.specs.Verdict.{Verdict, Refused, Accepted, HasVerdict}
use Rattle.diagram_verdict.specs.TreeVerdict.{IsTreeWith, IsRefusedTree, for_tree, for_types, for_times, for_loop, for_delays, HasTreeVerdict, IsTreeFaultOf, HasOneTreeVerdict, TreeVerdictIsOfFile}
use Rattle.diagram_verdict.proofs.OneVerdict.{Laws, settled, OfTable, ill_typed, ill_timed, looping, loop_free, own, of-table}

-- ---- Of a file

with_file : (bytes : List ℕ) (file : Items) (table : RowTable) → IsFile bytes file → IsTreeWith file table → IsModelWith bytes table
with_file bytes file table is with = (file, is, with.unrefused, with.table_of)

refused-of_file : (bytes : List ℕ) (file : Items) (refusal : PlainRefusal) → IsFile bytes file → IsRefusedTree file refusal →
    HasVerdict bytes (Refused refusal)
refused-of_file bytes file _ is (for_tree refusal e) = inl (inr (inr (file, is, e)))
refused-of_file bytes file _ is (for_types refusal table with e) = inr (inl (table, with_file bytes file table is with, e))
refused-of_file bytes file _ is (for_times refusal table with right h) =
    inr (inr (inl (table, with_file bytes file table is with, right, h)))
refused-of_file bytes file _ is (for_loop refusal r of told) =
    inr (inr (inr (inl (r, (with_file bytes file r.table is of.table, of.resolved), told))))
refused-of_file bytes file _ is (for_delays refusal r of none e) =
    inr (inr (inr (inr (r, ((with_file bytes file r.table is of.table, of.resolved), none), e))))

pub is_of_file : TreeVerdictIsOfFile
is_of_file bytes file (Refused refusal) is h = refused-of_file bytes file refusal is h
is_of_file bytes file (Accepted r) is accepted = record {
  model = (with_file bytes file r.table is accepted.model.table, accepted.model.resolved);
  no_loop = accepted.no_loop;
  short_delays = accepted.short_delays;
}

pub is_fault_of_file : (file : Items) (fault : ModelFault) → IsTreeFaultOf file fault → OfTexts file (λ bytes. IsFaultOf bytes fault)
is_fault_of_file file (fault.Refused refusal) h bytes is = is_of_file bytes file (Refused _) is h
is_fault_of_file file fault.Memory h bytes is = tt

-- ---- One

-- a verdict is a refusal of the tree, or a verdict on its table
data View (file : Items) : Verdict → Type 0 where
  of_tree : (refusal : PlainRefusal) → tree_refusal file ≡ Some refusal → View file (Refused refusal)
  of_model : (table : RowTable) (verdict : Verdict) → IsTreeWith file table → OfTable table verdict → View file verdict

view-refused : (file : Items) (refusal : PlainRefusal) → IsRefusedTree file refusal → View file (Refused refusal)
view-refused file _ (for_tree refusal e) = of_tree refusal e
view-refused file _ (for_types refusal table with e) = of_model table (Refused refusal) with (ill_typed refusal e)
view-refused file _ (for_times refusal table with right h) = of_model table (Refused refusal) with (ill_timed refusal right h)
view-refused file _ (for_loop refusal r of (loop, told, e)) =
    of_model r.table (Refused refusal) of.table
    (subst (λ (x : PlainRefusal). OfTable r.table (Refused x)) (sym e) (looping r loop (own r of.resolved) told))
view-refused file _ (for_delays refusal r of none e) =
    of_model r.table (Refused refusal) of.table
    (subst (OfTable r.table) (ap (λ (long : Option PlainRefusal). settled long r) e) (loop_free r (own r of.resolved) none))

view : (file : Items) (verdict : Verdict) → HasTreeVerdict file verdict → View file verdict
view file (Refused refusal) h = view-refused file refusal h
view file (Accepted r) accepted =
    of_model r.table (Accepted r) accepted.model.table
    (subst (OfTable r.table) (ap (λ (long : Option PlainRefusal). settled long r) accepted.short_delays)
    (loop_free r (own r accepted.model.resolved) accepted.no_loop))

has : (file : Items) (table : RowTable) (verdict : Verdict) → IsTreeWith file table → OfTable table verdict → HasTreeVerdict file verdict
has file table _ with (ill_typed refusal e) = for_types refusal table with e
has file table _ with (ill_timed refusal right h) = for_times refusal table with right h
has file table _ with (looping r loop is told) =
    for_loop _ r (record { table = subst (IsTreeWith file) (sym is.of_table) with; resolved = is.resolved }) (loop, told, refl)
has file table _ with (loop_free r is none) = by (delay_refusal r.table.rows) refl
  where
    model : IsTreeWith file r.table
    model = subst (IsTreeWith file) (sym is.of_table) with

    by : (long : Option PlainRefusal) → delay_refusal r.table.rows ≡ long → HasTreeVerdict file (settled long r)
    by (Some refusal) e = for_delays refusal r (record { table = model; resolved = is.resolved }) none e
    by None e = record { model = record { table = model; resolved = is.resolved }; no_loop = none; short_delays = e }

some-equal : {A : Type 0} (a b : A) → Some a ≡ Some b → a ≡ b
some-equal a b e = cc

some-none : {A : Type 0} (a : A) → Some a ≡ None → ⊥
some-none a e = absurd (cc)

only-tree : (file : Items) (refusal : PlainRefusal) → tree_refusal file ≡ Some refusal → (other : Verdict) → View file other →
    other ≡ Refused refusal
only-tree file refusal e _ (of_tree more f) = ap Refused (some-equal more refusal (sym f ∙ e))
only-tree file refusal e _ (of_model table verdict with of) = absurd (some-none refusal (sym e ∙ with.unrefused))

only-model : TreeHasOneTable → (file : Items) (table : RowTable) (verdict : Verdict) → IsTreeWith file table →
    ((other : Verdict) → OfTable table other → other ≡ verdict) → (other : Verdict) → View file other → other ≡ verdict
only-model one file table verdict with only _ (of_tree more f) = absurd (some-none more (sym f ∙ with.unrefused))
only-model one file table verdict with only _ (of_model also other more of) =
    only other (subst (λ t. OfTable t other) (one file also table more.table_of with.table_of) of)

pub one_tree_verdict : TreeHasTable → TreeHasOneTable → TreeTableIsWellFormed → Laws → (file : Items) → HasOneTreeVerdict file
one_tree_verdict tables one well_formed laws file = by (tree_refusal file) refl
  where
    by : (found : Option PlainRefusal) → tree_refusal file ≡ found → HasOneTreeVerdict file
    by (Some refusal) e = (Refused refusal, for_tree refusal e, λ other is. only-tree file refusal e other (view file other is))
    by None e =
        let some = tables file e in
        let with : IsTreeWith file some.0 = record { unrefused = e; table_of = some.1 } in
        let of = of-table laws some.0 (well_formed file some.0 e some.1) in
        (of.0, has file some.0 of.0 with of.1, λ other is. only-model one file some.0 of.0 with of.2 other (view file other is))
