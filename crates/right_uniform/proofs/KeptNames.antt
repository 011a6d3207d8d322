-- The place of a name among those of the procedures that are kept.
use Rattle.std.specs.Prelude.{◌≡◌, ℕ, suc, ◌+◌, Bool, true, false, if◌then◌else◌, List, [], ◌∷◌, ◌++◌, map, Option, Some, None, unwrap_or, bytes_eq}
use Rattle.std.specs.List.{position_from}
use Rattle.std.proofs.Common.{refl, sym, ap, ◌∙◌, arith}
use Rattle.c_syntax.specs.Tree.{ProcedureTree}
use Rattle.emit_inlined.specs.Inlined.{kept_before, kept_from}
use Rattle.emit_uniform.specs.Turned.{place_among}

module _ (keeps : ℕ → Bool) (change : ProcedureTree → ProcedureTree) (named : (q : ProcedureTree) → (change q).name ≡ q.name)
    (name : List ℕ) where
  abbrev pub names : List ProcedureTree → List (List ℕ)
  names qs = map (λ q. q.name) qs

  -- where the procedure of the name is, from a position on
  abbrev pub position : ℕ → List ProcedureTree → Option ℕ
  position n qs = position_from (λ other. bytes_eq other name) n (names qs)

  abbrev pub left : ℕ → List ProcedureTree → List ProcedureTree
  left n qs = map change (kept_from keeps n qs)

  next : (n : ℕ) (qs : List ProcedureTree) → position (suc n) qs ≡ position (n + 1) qs
  next n qs = ap (λ m. position m qs) (let e : suc n ≡ n + 1 = omega arith in e)

  -- one that isn't there isn't among those that are kept
  none-kept : (qs : List ProcedureTree) (n c : ℕ) → position n qs ≡ None → position c (left n qs) ≡ None
  none-kept [] n c none = refl
  none-kept (q ∷ qs) n c none =
      by (bytes_eq q.name name) refl none (keeps n) (λ m e. none-kept qs (suc n) m (next n qs ∙ e))
    where
      by : (b : Bool) → bytes_eq q.name name ≡ b → (if b then Some n else position (n + 1) qs) ≡ None → (k : Bool) →
          ((m : ℕ) → position (n + 1) qs ≡ None → position m (left (suc n) qs) ≡ None) →
          position c (map change ((if k then q ∷ [] else []) ++ kept_from keeps (suc n) qs)) ≡ None
      by true is e k rest = absurd (let wrong : ⊥ = cc e in wrong)
      by false is e true rest =
          ap (λ other. if bytes_eq other name then Some c else position (c + 1) (left (suc n) qs)) (named q)
          ∙ ap (λ b. if b then Some c else position (c + 1) (left (suc n) qs)) is ∙ rest (c + 1) e
      by false is e false rest = rest c e

  -- one that is kept is at its new place
  some-kept : (qs : List ProcedureTree) (n m : ℕ) → position n qs ≡ Some m → keeps m ≡ true →
      position (kept_before keeps n) (left n qs) ≡ Some (kept_before keeps m)
  some-kept [] n m some kept = absurd (let wrong : ⊥ = cc some in wrong)
  some-kept (q ∷ qs) n m some kept =
      by (bytes_eq q.name name) refl some (keeps n) refl (λ e. some-kept qs (suc n) m (next n qs ∙ e) kept)
    where
      by : (b : Bool) → bytes_eq q.name name ≡ b → (if b then Some n else position (n + 1) qs) ≡ Some m → (k : Bool) → keeps n ≡ k →
          (position (n + 1) qs ≡ Some m → position (kept_before keeps (suc n)) (left (suc n) qs) ≡ Some (kept_before keeps m)) →
          position (kept_before keeps n) (map change ((if k then q ∷ [] else []) ++ kept_from keeps (suc n) qs))
          ≡ Some (kept_before keeps m)
      by true is e true here rest =
          ap (λ other. if bytes_eq other name then Some (kept_before keeps n) else position (kept_before keeps n + 1) (left (suc n) qs))
          (named q)
          ∙ ap (λ b. if b then Some (kept_before keeps n) else position (kept_before keeps n + 1) (left (suc n) qs)) is
          ∙ ap (λ k. Some (kept_before keeps k)) (ap (λ o. unwrap_or o n) e)
      by true is e false here rest =
          let same : n ≡ m = ap (λ o. unwrap_or o n) e in
          let wrong : false ≡ true = sym here ∙ ap keeps same ∙ kept in absurd (let no : ⊥ = cc wrong in no)
      by false is e true here rest =
          ap (λ other. if bytes_eq other name then Some (kept_before keeps n) else position (kept_before keeps n + 1) (left (suc n) qs))
          (named q)
          ∙ ap (λ b. if b then Some (kept_before keeps n) else position (kept_before keeps n + 1) (left (suc n) qs)) is
          ∙ ap (λ k. position k (left (suc n) qs)) (sym (ap (λ b. kept_before keeps n + (if b then 1 else 0)) here))
          ∙ rest e
      by false is e false here rest =
          ap (λ k. position k (left (suc n) qs))
          (let same : kept_before keeps n ≡ kept_before keeps n + 0 = omega arith in
          same ∙ sym (ap (λ b. kept_before keeps n + (if b then 1 else 0)) here))
          ∙ rest e

  -- where what it is the place of is kept, it has the new place
  pub name-kept : (qs : List ProcedureTree) → keeps (place_among (names qs) name) ≡ true →
      place_among (names (left 0 qs)) name ≡ kept_before keeps (place_among (names qs) name)
  name-kept qs kept = by (position 0 qs) refl kept
    where
      by : (o : Option ℕ) → position 0 qs ≡ o → keeps (unwrap_or o 0) ≡ true →
          unwrap_or (position 0 (left 0 qs)) 0 ≡ kept_before keeps (unwrap_or o 0)
      by (Some m) is keep = ap (λ o. unwrap_or o 0) (some-kept qs 0 m is keep)
      by None is keep = ap (λ o. unwrap_or o 0) (none-kept qs 0 0 is)
