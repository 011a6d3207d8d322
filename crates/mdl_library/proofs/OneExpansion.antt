-- A model and a library's file have one refusal, or one text written out.
use Rattle.std.proofs.Common.{◌≡◌, refl, sym, ◌∙◌, ap, ℕ, zero, suc, ◌<◌, ◌≤◌, ◌⊎◌, inl, inr, true≢false, List, length, Option, Some, None, MatchOption, is_some, unwrap_or, arith}
use Rattle.std.specs.Option.{option_map_or}
use Rattle.std.specs.Str.Lines.{lines}
use Rattle.base_refusals.specs.declared.refusal.SyntaxKind.{SyntaxKind}
use Rattle.mdl_tree.specs.Spelling.{Items, LinesSpell, Mdl, Fault, lines_fault}
use Rattle.mdl_tree.specs.Text.{statements_of}
use Rattle.mdl_tree.proofs.lemmas.OneTree.{tree_or_fault, same_items}
use Rattle.mdl_library.specs.declared.refusal.LibraryRefusal.{LibraryRefusal}
use Rattle.mdl_library.specs.declared.refusal.LibraryRefusal.TheVariants.{BadLibrary}
use Rattle.mdl_library.specs.Library.{Library, library_of}
use Rattle.mdl_library.specs.Written.{expanded}
use Rattle.mdl_library.specs.Refusals.{library_limit, HasLibraryRefusal, IsExpanded, IsLibraryFile, refusal_with, refusal_by}
use Rattle.mdl_library.specs.Laws.{ExpansionsAreOne}

some-same : {A : Type 0} (a b : A) → Some a ≡ Some b → a ≡ b
some-same a b e = ap (λ o. unwrap_or o a) e

some-none : {A : Type 0} (a : A) → Some a ≡ None → ⊥
some-none a e = true≢false (ap is_some e)

more_or_not : (a b : ℕ) → (a < b) ⊎ (b ≤ a)
more_or_not a zero = inr (omega arith)
more_or_not zero (suc b) = inl (omega arith)
more_or_not (suc a) (suc b) = elim (more_or_not a b) [
  | inl h ↦ inl (omega (arith, h))
  | inr h ↦ inr (omega (arith, h))
]

-- ---- A text

-- of two trees of one text each is the other
one-file : (bytes : List ℕ) (x y : Items) → Mdl bytes x → Mdl bytes y → x ≡ y
one-file bytes x y h k = same_items x y (statements_of (lines bytes)) h.0 k.0

-- a text with an error has no tree
not-faulty : (bytes : List ℕ) (x : Items) (line : ℕ) (kind : SyntaxKind) → Mdl bytes x → Fault bytes line kind → ⊥
not-faulty bytes x line kind h e = by_fault (lines_fault (lines bytes)) e (tree_or_fault (lines bytes))
  where
    by_fault : (o : Option (ℕ × SyntaxKind)) → o ≡ Some (line, kind) →
        MatchOption o ((items : Items) × LinesSpell (lines bytes) items
        × ((other : Items) → LinesSpell (lines bytes) other → other ≡ items))
        (λ fault. (items : Items) → ¬ (LinesSpell (lines bytes) items)) →
        ⊥
    by_fault None e found = some-none (line, kind) (sym e)
    by_fault (Some fault) e none = none x h

-- ---- One answer

module _ (model : Items) (bytes : List ℕ) where
  abbrev Answer : Type 0
  Answer = ((refusal : LibraryRefusal) × HasLibraryRefusal model bytes refusal)
      ⊎ ((written : Items) × IsExpanded model bytes written)

  by-library : (file : Items) → IsLibraryFile bytes file → (library : Option Library) → library_of file ≡ library → Answer
  by-library file is None e =
      inl (BadLibrary 0, inr (inr (file, is, ap (λ o. option_map_or (λ (l : Library). refusal_with l model) o (Some (BadLibrary 0))) e)))
  by-library file is (Some library) e = by_refusal (refusal_with library model) refl
    where
      found : refusal_by file model ≡ refusal_with library model
      found = ap (λ o. option_map_or (λ (l : Library). refusal_with l model) o (Some (BadLibrary 0))) e

      by_refusal : (o : Option LibraryRefusal) → refusal_with library model ≡ o → Answer
      by_refusal (Some refusal) r = inl (refusal, inr (inr (file, is, found ∙ r)))
      by_refusal None r = inr (
        expanded library model,
        record {
          file = file;
          is_file = is;
          library = library;
          is_library = e;
          accepted = r;
          is_written = refl;
        },
      )

  by-text : length bytes ≤ library_limit → (o : Option (ℕ × SyntaxKind)) → lines_fault (lines bytes) ≡ o →
      MatchOption o ((items : Items) × LinesSpell (lines bytes) items
      × ((other : Items) → LinesSpell (lines bytes) other → other ≡ items))
      (λ fault. (items : Items) → ¬ (LinesSpell (lines bytes) items)) →
      Answer
  by-text h None e found = by-library found.0 (h, found.1) (library_of found.0) refl
  by-text h (Some (line, kind)) e none = inl (BadLibrary line, inr (inl (h, (line, kind, e, refl))))

  some-answer : Answer
  some-answer = elim (more_or_not library_limit (length bytes)) [
    | inl long ↦ inl (BadLibrary 0, inl (long, refl))
    | inr short ↦ by-text short (lines_fault (lines bytes)) refl (tree_or_fault (lines bytes))
  ]

  one-refusal : (a b : LibraryRefusal) → HasLibraryRefusal model bytes a → HasLibraryRefusal model bytes b → a ≡ b
  one-refusal a b (inl x) (inl y) = x.1 ∙ sym y.1
  one-refusal a b (inl x) (inr (inl y)) = absurd (omega (arith, x.0, y.0))
  one-refusal a b (inl x) (inr (inr y)) = absurd (omega (arith, x.0, y.1.0))
  one-refusal a b (inr (inl x)) (inl y) = absurd (omega (arith, x.0, y.0))
  one-refusal a b (inr (inl (h, (line, kind, e, r)))) (inr (inl (h', (line', kind', e', r')))) =
      r ∙ ap BadLibrary (ap (λ (p : ℕ × SyntaxKind). p.0) (some-same (line, kind) (line', kind') (sym e ∙ e'))) ∙ sym r'
  one-refusal a b (inr (inl (h, (line, kind, e, r)))) (inr (inr (file, is, r'))) = absurd (not-faulty bytes file line kind is.1 e)
  one-refusal a b (inr (inr x)) (inl y) = absurd (omega (arith, x.1.0, y.0))
  one-refusal a b (inr (inr (file, is, r))) (inr (inl (h, (line, kind, e, r')))) = absurd (not-faulty bytes file line kind is.1 e)
  one-refusal a b (inr (inr (file, is, r))) (inr (inr (file', is', r'))) =
      some-same a b (sym r ∙ ap (λ f. refusal_by f model) (one-file bytes file file' is.1 is'.1) ∙ r')

  one-library : (a b : Items) (x : IsExpanded model bytes a) (y : IsExpanded model bytes b) → x.library ≡ y.library
  one-library a b x y =
      some-same x.library y.library (sym x.is_library ∙ ap library_of (one-file bytes x.file y.file x.is_file.1 y.is_file.1) ∙ y.is_library)

  not-both : (refusal : LibraryRefusal) (written : Items) → HasLibraryRefusal model bytes refusal → IsExpanded model bytes written → ⊥
  not-both refusal written (inl x) y = omega (arith, x.0, y.is_file.0)
  not-both refusal written (inr (inl (h, (line, kind, e, r)))) y = not-faulty bytes y.file line kind y.is_file.1 e
  not-both refusal written (inr (inr (file, is, r))) y =
      some-none refusal (sym r ∙ ap (λ f. refusal_by f model) (one-file bytes file y.file is.1 y.is_file.1)
      ∙ ap (λ o. option_map_or (λ (l : Library). refusal_with l model) o (Some (BadLibrary 0))) y.is_library ∙ y.accepted)

pub expansions_are_one : ExpansionsAreOne
expansions_are_one model bytes =
    record {
      some = some-answer model bytes;
      one_refusal = one-refusal model bytes;
      one_text = λ a b x y. x.is_written ∙ ap (λ (l : Library). expanded l model) (one-library model bytes a b x y) ∙ sym y.is_written;
      not_both = not-both model bytes;
    }
