-- The times that rows give by themselves.
use Rattle.std.proofs.Common.{◌≡◌, ℕ, ◌+◌, ◌-◌, ◌<◌, List, [], ◌∷◌, ◌++◌, length, get_or, Option, None, Some, sym, ap, subst, ◌∙◌, arith, inl, inr, length-append}
use Rattle.std.proofs.lemmas.Bool.{cases_lt}
use Rattle.std.proofs.lemmas.List.{get_or_append_left, get_or-append_right}
use Rattle.diagram_meaning.specs.declared.table.Row.{Row}
use Rattle.diagram_meaning.specs.declared.times.Time.{Time}
use Rattle.diagram_meaning.specs.Rows.{row_at}
use Rattle.diagram_meaning.specs.SampleTimes.{written_by, search_time, search_time_in}
use Rattle.diagram_times.specs.declared.base.BaseTick.{BaseTick}
use Rattle.diagram_times.specs.Bases.{IsCountedText, AreCounted, IsTimeOf, AreGiven}
use Rattle.diagram_times.specs.Searching.{found_at}

pub given-none : (rows : List Row) (base : BaseTick) (given : List (Option Time)) → given ≡ [] → AreGiven rows base 0 given
given-none rows base given e = record { len = ap length e; each = λ b below. absurd (omega arith) }

pub given-more : (rows : List Row) (base : BaseTick) (n : ℕ) (given later : List (Option Time)) (found : Option Time) →
    IsTimeOf base (search_time rows n) found →
    later ≡ given ++ found ∷ [] → AreGiven rows base n given → AreGiven rows base (n + 1) later
given-more rows base n given later found is e are = subst (AreGiven rows base (n + 1)) (sym e) (record {
  len = length-append given (found ∷ []) ∙ (let l = are.len in omega arith);
  each = λ b below. elim (cases_lt b n) [
    | inl before ↦
        subst (IsTimeOf base (search_time rows b))
        (sym (get_or_append_left given (found ∷ []) None b (let l = are.len in omega arith))) (are.each b before)
    | inr last ↦
        let same : n ≡ b = omega arith in
        subst (λ k. IsTimeOf base (search_time rows k) (found_at (given ++ found ∷ []) k)) same
        (subst (IsTimeOf base (search_time rows n))
        (sym (get_or-append_right given (found ∷ []) n n None are.len (omega arith)
        ∙ ap (λ k. get_or (found ∷ []) k None) (let z : n - n ≡ 0 = omega arith in z))) is)
  ];
})

-- what a row gives can be counted, where what it writes can
pub search-counted : (rows : List Row) (base : BaseTick) (b : ℕ) (row : Row) (o : Option ℕ) → AreCounted rows base →
    b < length rows → row ≡ row_at rows b →
    IsCountedText base (search_time_in o (written_by row.kind row.time_text))
search-counted rows base b row None are below read =
    subst (λ (r : Row). IsCountedText base (written_by r.kind r.time_text)) (sym read) (are b below)
search-counted rows base b row (Some e) are below read = tt
