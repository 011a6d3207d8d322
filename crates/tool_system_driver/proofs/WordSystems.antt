-- The system that a word names is the root, or that of the first subsystem row of which the word is the number.
use Rattle.std.specs.Prelude.{◌≡◌, refl, ℕ, Bool, true, false, ◌&&◌, List, [], ◌∷◌, find, filter, map, Contains, Option, Some, None, option_map, bytes_eq, codes}
use Rattle.std.proofs.Common.{sym, ◌∙◌, ap, cond}
use Rattle.diagram_meaning.specs.declared.table.Row.{Row}
use Rattle.diagram_meaning.specs.Rows.{row_at, row_numbers}
use Rattle.diagram_blocks.specs.Kinds.{is_subsystem}
use Rattle.modules_profile.specs.Systems.{systems, systems_inside}
use Rattle.modules_profile.proofs.lemmas.Members.{found-in}
use Rattle.tool_system_driver.specs.Words.{subsystem_word, system_named, is_named}

-- the first of those after a constructor
find-some : (p : Option ℕ → Bool) (xs : List ℕ) → find p (map Some xs) ≡ option_map Some (find (λ e. p (Some e)) xs)
find-some p [] = refl
find-some p (x ∷ xs) = by (p (Some x)) (find-some p xs)
  where
    by : (t : Bool) → find p (map Some xs) ≡ option_map Some (find (λ e. p (Some e)) xs) →
        cond t (Some (Some x)) (find p (map Some xs)) ≡ option_map Some (cond t (Some x) (find (λ e. p (Some e)) xs))
    by true e = refl
    by false e = e

-- the first among those that are kept
find-kept : (p q : ℕ → Bool) (xs : List ℕ) → find q (filter (λ e. p e && true) xs) ≡ find (λ e. p e && q e) xs
find-kept p q [] = refl
find-kept p q (x ∷ xs) = by (p x) (find-kept p q xs)
  where
    by : (t : Bool) → find q (filter (λ e. p e && true) xs) ≡ find (λ e. p e && q e) xs →
        find q (cond (t && true) (x ∷ filter (λ e. p e && true) xs) (filter (λ e. p e && true) xs))
        ≡ cond (t && q x) (Some x) (find (λ e. p e && q e) xs)
    by true e = ap (cond (q x) (Some x)) e
    by false e = e

module _ (rows : List Row) (word : List ℕ) where
  behind-root : find (λ s. bytes_eq (subsystem_word s) word) (map Some (systems_inside rows None))
      ≡ option_map Some (find (is_named rows word) (row_numbers rows))
  behind-root =
      find-some (λ s. bytes_eq (subsystem_word s) word) (systems_inside rows None)
      ∙ ap (option_map Some)
      (find-kept (λ e. is_subsystem (row_at rows e).kind) (λ e. bytes_eq (subsystem_word (Some e)) word) (row_numbers rows))

  named-by : (t : Bool) → bytes_eq (codes "top") word ≡ t →
      system_named rows word ≡ cond t (Some None) (option_map Some (find (is_named rows word) (row_numbers rows)))
  named-by t is =
      ap (λ b. cond b (Some None) (find (λ s. bytes_eq (subsystem_word s) word) (map Some (systems_inside rows None)))) is
      ∙ ap (cond t (Some None)) behind-root

  pub root-named : bytes_eq (codes "top") word ≡ true → Some None ≡ system_named rows word
  root-named is = sym (named-by true is)

  pub row-named : (found : Option ℕ) → bytes_eq (codes "top") word ≡ false → found ≡ find (is_named rows word) (row_numbers rows) →
      option_map Some found ≡ system_named rows word
  row-named found is e = ap (option_map Some) e ∙ sym (named-by false is)

  -- a system that is named is one of the table
  pub named-there : (s : Option ℕ) → Some s ≡ system_named rows word → Contains (systems rows) s
  named-there s is = (found-in (λ o. bytes_eq (subsystem_word o) word) (systems rows) s (sym is)).0
