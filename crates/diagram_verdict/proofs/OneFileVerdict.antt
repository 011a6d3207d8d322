-- Each file has one verdict, if each tree with nothing wrong has one table.
use Rattle.std.specs.Prelude.{◌≡◌, refl, ℕ, ◌<◌, ◌≤◌, Bool, true, false, List, length, Option, Some, None, MatchOption, nat_lt, ◌⊎◌}
use Rattle.std.proofs.lemmas.Bool.Decides.{nat_tests}
use Rattle.std.specs.Str.Lines.{lines}
use Rattle.std.proofs.Common.{sym, ◌∙◌, ap, subst, inl, inr, arith}
use Rattle.base_refusals.specs.declared.SyntaxKind.{SyntaxKind}
use Rattle.base_refusals.specs.Refusals.{PlainRefusal, TooLong, Syntax}
use Rattle.mdl_tree.specs.Spelling.{Items, LinesSpell, lines_fault, Fault, TreeOrFault}
use Rattle.diagram_meaning.specs.RowTable.{RowTable}
use Rattle.mdl_rows.specs.Refusals.{tree_refusal}
use Rattle.mdl_table.specs.Tables.{TableOf}
use Rattle.diagram_verdict.specs.Files.{file_limit, IsFile, FileVerdict, Refused, Accepted, HasFileVerdict, HasOneFileVerdict}
use Rattle.mdl_table.specs.Laws.{TreeHasTable, TreeHasOneTable}

-- the lines of a text spell one tree, or have an error
abbrev TreesAndFaults : Type 0
TreesAndFaults = (texts : List (List ℕ)) → TreeOrFault texts

-- what the verdicts are
data View (bytes : List ℕ) : FileVerdict → Type 0 where
  long : file_limit < length bytes → View bytes (Refused TooLong)
  faulty : (line : ℕ) (kind : SyntaxKind) → length bytes ≤ file_limit → Fault bytes line kind → View bytes (Refused (Syntax line kind))
  wrong : (refusal : PlainRefusal) (file : Items) → IsFile bytes file → tree_refusal file ≡ Some refusal → View bytes (Refused refusal)
  right : (table : RowTable) (file : Items) → IsFile bytes file → tree_refusal file ≡ None → TableOf file table →
      View bytes (Accepted table)

view : (bytes : List ℕ) (v : FileVerdict) → HasFileVerdict bytes v → View bytes v
view bytes (Refused refusal) (inl (many, is)) = subst (λ r. View bytes (Refused r)) (sym is) (long many)
view bytes (Refused refusal) (inr (inl (fits, (line, kind, fault, is)))) =
    subst (λ r. View bytes (Refused r)) (sym is) (faulty line kind fits fault)
view bytes (Refused refusal) (inr (inr (file, is_file, is))) = wrong refusal file is_file is
view bytes (Accepted table) (file, is_file, is, of) = right table file is_file is of

-- ---- One

abbrev Trees : List ℕ → Option (ℕ × SyntaxKind) → Type 0
Trees bytes fault =
    MatchOption fault ((items : Items) × LinesSpell (lines bytes) items
    × ((third : Items) → LinesSpell (lines bytes) third → third ≡ items))
    (λ fault. (items : Items) → ¬ (LinesSpell (lines bytes) items))

-- a text has one tree
same_file : TreesAndFaults → (bytes : List ℕ) (file other : Items) → LinesSpell (lines bytes) file →
    LinesSpell (lines bytes) other → file ≡ other
same_file law bytes file other h g = by_law (lines_fault (lines bytes)) (law (lines bytes))
  where
    by_law : (fault : Option (ℕ × SyntaxKind)) → Trees bytes fault → file ≡ other
    by_law None (items, spells, only) = only file h ∙ sym (only other g)
    by_law (Some fault) none = absurd (none file h)

-- a text with an error has none
no_file : TreesAndFaults → (bytes : List ℕ) (line : ℕ) (kind : SyntaxKind) (file : Items) → Fault bytes line kind →
    LinesSpell (lines bytes) file → ⊥
no_file law bytes line kind file is h = by_law (lines_fault (lines bytes)) is (law (lines bytes))
  where
    by_law : (fault : Option (ℕ × SyntaxKind)) → fault ≡ Some (line, kind) → Trees bytes fault → ⊥
    by_law None e some = absurd (cc)
    by_law (Some fault) e none = none file h

some-equal : {A : Type 0} (a b : A) → Some a ≡ Some b → a ≡ b
some-equal a b e = cc

none-some : {A : Type 0} (a : A) → None ≡ Some a → ⊥
none-some a e = absurd (cc)

same : TreesAndFaults → TreeHasOneTable → (bytes : List ℕ) (v w : FileVerdict) → View bytes v → View bytes w → v ≡ w
same law one bytes _ _ (long h) (long g) = refl
same law one bytes _ _ (long h) (faulty line kind fits fault) = absurd (omega (arith, h, fits))
same law one bytes _ _ (long h) (wrong refusal file (fits, spells) is) = absurd (omega (arith, h, fits))
same law one bytes _ _ (long h) (right table file (fits, spells) is of) = absurd (omega (arith, h, fits))
same law one bytes _ _ (faulty line kind fits fault) (long g) = absurd (omega (arith, g, fits))
same law one bytes _ _ (faulty line kind fits fault) (faulty line' kind' fits' fault') =
    let e : (line, kind) ≡ (line', kind') = some-equal (line, kind) (line', kind') (sym fault ∙ fault') in
    λ i. Refused (Syntax (e i).0 (e i).1)
same law one bytes _ _ (faulty line kind fits fault) (wrong refusal file (fits', spells) is) =
    absurd (no_file law bytes line kind file fault spells)
same law one bytes _ _ (faulty line kind fits fault) (right table file (fits', spells) is of) =
    absurd (no_file law bytes line kind file fault spells)
same law one bytes _ _ (wrong refusal file (fits, spells) is) (long g) = absurd (omega (arith, g, fits))
same law one bytes _ _ (wrong refusal file (fits, spells) is) (faulty line kind fits' fault) =
    absurd (no_file law bytes line kind file fault spells)
same law one bytes _ _ (wrong refusal file (fits, spells) is) (wrong refusal' file' (fits', spells') is') =
    let e = same_file law bytes file file' spells spells' in
    ap Refused (some-equal refusal refusal' (sym is ∙ ap tree_refusal e ∙ is'))
same law one bytes _ _ (wrong refusal file (fits, spells) is) (right table file' (fits', spells') is' of) =
    let e = same_file law bytes file file' spells spells' in
    absurd (none-some refusal (sym is' ∙ sym (ap tree_refusal e) ∙ is))
same law one bytes _ _ (right table file (fits, spells) is of) (long g) = absurd (omega (arith, g, fits))
same law one bytes _ _ (right table file (fits, spells) is of) (faulty line kind fits' fault) =
    absurd (no_file law bytes line kind file fault spells)
same law one bytes _ _ (right table file (fits, spells) is of) (wrong refusal file' (fits', spells') is') =
    let e = same_file law bytes file file' spells spells' in
    absurd (none-some refusal (sym is ∙ ap tree_refusal e ∙ is'))
same law one bytes _ _ (right table file (fits, spells) is of) (right table' file' (fits', spells') is' of') =
    let e = same_file law bytes file file' spells spells' in
    ap Accepted (one file table table' of (subst (λ (x : Items). TableOf x table') (sym e) of'))

-- ---- And there is one

abbrev SomeVerdict : List ℕ → Type 0
SomeVerdict bytes = (v : FileVerdict) × HasFileVerdict bytes v

of_file : TreeHasTable → (bytes : List ℕ) → length bytes ≤ file_limit → (file : Items) → LinesSpell (lines bytes) file → SomeVerdict bytes
of_file tables bytes fits file spells = by_refusal (tree_refusal file) refl
  where
    by_refusal : (found : Option PlainRefusal) → tree_refusal file ≡ found → SomeVerdict bytes
    by_refusal (Some refusal) is = (Refused refusal, inr (inr (file, (fits, spells), is)))
    by_refusal None is = let table = tables file is in (Accepted table.0, (file, (fits, spells), is, table.1))

of_text : TreesAndFaults → TreeHasTable → (bytes : List ℕ) → length bytes ≤ file_limit → SomeVerdict bytes
of_text law tables bytes fits = by_law (lines_fault (lines bytes)) refl (law (lines bytes))
  where
    by_law : (fault : Option (ℕ × SyntaxKind)) → lines_fault (lines bytes) ≡ fault → Trees bytes fault → SomeVerdict bytes
    by_law None is (items, spells, only) = of_file tables bytes fits items spells
    by_law (Some (line, kind)) is none = (Refused (Syntax line kind), inr (inl (fits, (line, kind, is, refl))))

of_bytes : TreesAndFaults → TreeHasTable → (bytes : List ℕ) → (length bytes ≤ file_limit) ⊎ (file_limit < length bytes) → SomeVerdict bytes
of_bytes law tables bytes (inl fits) = of_text law tables bytes fits
of_bytes law tables bytes (inr many) = (Refused TooLong, inl (many, refl))

at_most_or_more : (bytes : List ℕ) → (length bytes ≤ file_limit) ⊎ (file_limit < length bytes)
at_most_or_more bytes = by_test (nat_lt file_limit (length bytes)) refl
  where
    by_test : (b : Bool) → nat_lt file_limit (length bytes) ≡ b → (length bytes ≤ file_limit) ⊎ (file_limit < length bytes)
    by_test true is = inr (grind (arith, nat_tests))
    by_test false is = inl (grind (arith, nat_tests))

pub one_file_verdict : TreeHasTable → TreeHasOneTable → TreesAndFaults → (bytes : List ℕ) → HasOneFileVerdict bytes
one_file_verdict tables one law bytes =
    let some = of_bytes law tables bytes (at_most_or_more bytes) in
    (some.0, some.1, λ other is. same law one bytes other some.0 (view bytes other is) (view bytes some.0 some.1))
