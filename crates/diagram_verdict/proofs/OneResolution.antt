-- A table in which nothing is wrong is resolved in one way.
use Rattle.std.specs.Prelude.{◌≡◌, refl, ◌<◌, Bool, List, None, unwrap_or}
use Rattle.std.proofs.Common.{sym, ◌∙◌, ap, ap₂, subst}
use Rattle.base_fixed_point.specs.declared.FixType.{FixType}
use Rattle.base_fixed_point.specs.Types.{boolean}
use Rattle.diagram_blocks.specs.declared.Op.{Op}
use Rattle.diagram_meaning.specs.RowTable.{RowTable}
use Rattle.diagram_meaning.specs.RowTimes.{RowTimes}
use Rattle.diagram_meaning.specs.Rows.{by_row}
use Rattle.diagram_meaning.specs.Diagram.{op_in, IsResolved}
use Rattle.diagram_meaning.specs.ResolvedTable.{ResolvedTable, IsResolvedTable}
use Rattle.diagram_meaning.specs.TimeLaws.{TimesAreOne, TablesHaveTimes}
use Rattle.base_refusals.specs.FirstRefusal.{least_line}
use Rattle.diagram_meaning.specs.TypeRefusals.{type_of_row, bad_types, type_refusal, types_of_rows}
use Rattle.diagram_meaning.specs.TimeRefusals.{HasTimeRefusal}
use Rattle.diagram_meaning.specs.WellFormed.{IsWellFormed}
use Rattle.diagram_meaning.proofs.lemmas.Accepted.{none_later}
use Rattle.diagram_meaning.proofs.lemmas.ByRow.{length-by_row}
use Rattle.diagram_meaning.proofs.lemmas.OneType.{HasType-one}
use Rattle.diagram_types.proofs.lemmas.Accepted.{each-typed}
use Rattle.diagram_verdict.proofs.lemmas.PlaceLists.{same_at}

-- a table is resolved so
pub record IsOf (table : RowTable) (r : ResolvedTable) : Type 0 where
  pub of_table : r.table ≡ table
  pub resolved : IsResolvedTable r

module _ (one : TimesAreOne) (table : RowTable) (types others : List FixType) (ops more : List Op) (times later : RowTimes)
    (is : IsResolved table types ops times) (also : IsResolved table others more later) where
  same-types : types ≡ others
  same-types =
      same_at types others boolean (is.one_type_each ∙ sym also.one_type_each)
      (λ b below. let inside = subst (λ n. b < n) is.one_type_each below in
      HasType-one table.rows b _ _ (is.are_types b inside) (also.are_types b inside))

  same-times : times ≡ later
  same-times = one table times later is.are_times also.are_times

  same-ops : ops ≡ more
  same-ops =
      is.are_ops
      ∙ ap₂ (λ (types : List FixType) (delays : List Bool). by_row table.rows (op_in table.rows types delays))
      same-types (ap (λ (t : RowTimes). t.delays) same-times)
      ∙ sym also.are_ops

pub resolution-is-one : TimesAreOne → (table : RowTable) (r other : ResolvedTable) → IsOf table r → IsOf table other → r ≡ other
resolution-is-one one table r other is also =
    let tables : r.table ≡ other.table = is.of_table ∙ sym also.of_table in
    let here : IsResolved other.table r.types r.ops r.times = subst (λ t. IsResolved t r.types r.ops r.times) tables is.resolved in
    let types = same-types one other.table r.types other.types r.ops other.ops r.times other.times here also.resolved in
    let ops = same-ops one other.table r.types other.types r.ops other.ops r.times other.times here also.resolved in
    let times = same-times one other.table r.types other.types r.ops other.ops r.times other.times here also.resolved in
    λ i. record { table = tables i; types = types i; ops = ops i; times = times i }

-- and there is a resolution of each table that a model file can have
pub resolution-is-there : TablesHaveTimes → (table : RowTable) → IsWellFormed table → type_refusal table.rows ≡ None →
    HasTimeRefusal table None →
    (r : ResolvedTable) × IsOf table r
resolution-is-there times table formed typed timed =
    let rows = table.rows in
    let types = types_of_rows rows in
    let some = times table formed in (
      record { table = table; types = types; ops = by_row rows (op_in rows types some.0.delays); times = some.0 },
      record {
        of_table = refl;
        resolved = record {
          types_accepted = typed;
          times_accepted = timed;
          one_type_each = length-by_row rows (λ b. unwrap_or (type_of_row rows b) boolean);
          are_types = each-typed rows (none_later (least_line (bad_types rows)) _ typed).0;
          are_times = some.1;
          are_ops = refl;
        };
      },
    )
