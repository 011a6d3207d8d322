pub mod lemmas
mod NameLemmas
mod NoteLaws
mod RowLaws
mod ReadingLemmas
mod SectionLemmas
mod SaidLemmas
mod ListLemmas
mod PathLemmas
mod StoredLemmas
mod ProcedureLemmas
