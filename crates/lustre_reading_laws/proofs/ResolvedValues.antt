-- What the names that an expression reads stand for: places of the node, of the types that were looked for.
use Rattle.std.proofs.Common.{◌≡◌, refl, sym, ◌∙◌, ap, ap₂, ℕ, ◌+◌, ◌<◌, ◌≤◌, ◌↔◌, max, ◌&&◌, true, List, [], ◌∷◌, ◌++◌, length, Some, Ok, bytes_eq, slice_get, subst}
use Rattle.std.specs.List.{AllByRecursion, position_from, list_all}
use Rattle.std.specs.Option.{option_map}
use Rattle.std.proofs.lemmas.List.{length-map}
use Rattle.std.proofs.lemmas.Option.{slice_get_within, slice_get-get_or}
use Rattle.base_core.specs.Results.{◌>>=◌}
use Rattle.c_rules.proofs.lemmas.Resolved.{ok-same, bind-parts, on_line-ok, named-ok, position-there}
use Rattle.lustre_syntax.specs.Tree.{ValueType, int, bool, ExprTree, number, truth, name, negative, negation, two, choice, arrow, previous, Declared, texts_of, types_of, names_read}
use Rattle.lustre_syntax.specs.Typing.{Typing, known, meet, unless_clash, type_at, of_name, operand_type, gives_type, typing, all_fit, no_clash}
use Rattle.lustre_syntax.specs.Lawful.{expr_depth, expr_limit, HasLiterals}
use Rattle.lustre_grammar.specs.Written.{Word, WrittenExpr}
use Rattle.lustre_rules.specs.Resolve.{place_named, resolve_word, resolve_expr, resolve_exprs, word_type}
use Rattle.lustre_reading_laws.proofs.Depths.{value_within, value-limit, both-hold}

pub all-both : {A : Type 0} (P : A → Type 0) (xs ys : List A) → AllByRecursion P xs → AllByRecursion P ys → AllByRecursion P (xs ++ ys)
all-both P [] ys p q = q
all-both P (x ∷ xs) ys p q = (p.0, all-both P xs ys p.1 q)

-- the place of a name is one of the node
pub place-within : (names : List Declared) (text : List ℕ) (k : ℕ) →
    position_from (bytes_eq text) 0 (texts_of names) ≡ Some k → k < length names
place-within names text k e =
    let p : _ = position-there (bytes_eq text) (texts_of names) k e in
    let within : k < length (texts_of names) = slice_get_within (texts_of names) k p.0 p.1 in
    subst (λ n. k < n) (length-map names (λ x. x.text)) within

pub type-there : (names : List Declared) (k : ℕ) → k < length names → slice_get (types_of names) k ≡ Some (type_at (types_of names) k)
type-there names k within =
    slice_get-get_or (types_of names) k int (subst (λ n. k < n) (sym (length-map names (λ x. x.type))) within)

-- a name that is read
record ResolvedWord (names : List Declared) (w : Word) (k : ℕ) : Type 0 where
  within : k < length names
  type : of_name (word_type names w) ≡ of_name (slice_get (types_of names) k)

word-resolved : (names : List Declared) (w : Word) (k : ℕ) → resolve_word (texts_of names) w ≡ Ok k → ResolvedWord names w k
word-resolved names w k e =
    let at : position_from (bytes_eq w.text) 0 (texts_of names) ≡ Some k = named-ok
    (position_from (bytes_eq w.text) 0 (texts_of names)) k
    (on_line-ok w.line (place_named (texts_of names) w.text) k e) in
    let within : k < length names = place-within names w.text k at in
    record {
      within = within;
      type = ap (λ o. of_name (option_map (type_at (types_of names)) o)) at ∙ ap of_name (sym (type-there names k within));
    }

-- an expression that is resolved
pub record ResolvedExpr (names : List Declared) (w : WrittenExpr) (x : ExprTree) : Type 0 where
  pub reads : AllByRecursion (λ k. k < length names) (names_read x)
  pub literals : HasLiterals w → HasLiterals x
  pub typed : typing (word_type names) w ≡ typing (slice_get (types_of names)) x
  pub depth : expr_depth w ≡ expr_depth x

module _ (names : List Declared) where
  abbrev written_type : WrittenExpr → Typing
  written_type w = typing (word_type names) w

  abbrev placed_type : ExprTree → Typing
  placed_type x = typing (slice_get (types_of names)) x

  abbrev Within : List ℕ → Type 0
  Within ks = AllByRecursion (λ k. k < length names) ks

  both-read : (xs ys : List ℕ) → Within xs → Within ys → Within (xs ++ ys)
  both-read xs ys p q = all-both (λ k. k < length names) xs ys p q

  pub expr-resolved : (w : WrittenExpr) (x : ExprTree) → resolve_expr (texts_of names) w ≡ Ok x → ResolvedExpr names w x
  expr-resolved (number value) x e =
      subst (ResolvedExpr names (number value)) (ok-same (number value) x e)
      (record { reads = tt; literals = λ h. h; typed = refl; depth = refl })
  expr-resolved (truth value) x e =
      subst (ResolvedExpr names (truth value)) (ok-same (truth value) x e)
      (record { reads = tt; literals = λ h. h; typed = refl; depth = refl })
  expr-resolved (name w) x e =
      let p : _ = bind-parts (resolve_word (texts_of names) w) (λ k. Ok (name k)) x e in
      let r : ResolvedWord names w p.0 = word-resolved names w p.0 p.1 in
      subst (ResolvedExpr names (name w)) (ok-same (name p.0) x p.2)
      (record { reads = (r.within, tt); literals = λ h. tt; typed = r.type; depth = refl })
  expr-resolved (negative a) x e =
      let p : _ = bind-parts (resolve_expr (texts_of names) a) (λ y. Ok (negative y)) x e in
      let r : ResolvedExpr names a p.0 = expr-resolved a p.0 p.1 in
      subst (ResolvedExpr names (negative a)) (ok-same (negative p.0) x p.2)
      (record {
        reads = r.reads;
        literals = r.literals;
        typed = ap (λ t. unless_clash (meet (known int) t) (known int)) r.typed;
        depth = ap (λ n. n + 1) r.depth;
      })
  expr-resolved (negation a) x e =
      let p : _ = bind-parts (resolve_expr (texts_of names) a) (λ y. Ok (negation y)) x e in
      let r : ResolvedExpr names a p.0 = expr-resolved a p.0 p.1 in
      subst (ResolvedExpr names (negation a)) (ok-same (negation p.0) x p.2)
      (record {
        reads = r.reads;
        literals = r.literals;
        typed = ap (λ t. unless_clash (meet (known bool) t) (known bool)) r.typed;
        depth = ap (λ n. n + 1) r.depth;
      })
  expr-resolved (two op a b) x e =
      let p : _ =
      bind-parts (resolve_expr (texts_of names) a) (λ y. resolve_expr (texts_of names) b >>= λ z. Ok (two op y z)) x e in
      let q : _ = bind-parts (resolve_expr (texts_of names) b) (λ z. Ok (two op p.0 z)) x p.2 in
      let r : ResolvedExpr names a p.0 = expr-resolved a p.0 p.1 in
      let s : ResolvedExpr names b q.0 = expr-resolved b q.0 q.1 in
      subst (ResolvedExpr names (two op a b)) (ok-same (two op p.0 q.0) x q.2)
      (record {
        reads = both-read (names_read p.0) (names_read q.0) r.reads s.reads;
        literals = λ h. (r.literals h.0, s.literals h.1);
        typed = ap₂ (λ t u. unless_clash (meet (operand_type op) (meet t u)) (known (gives_type op))) r.typed s.typed;
        depth = ap₂ (λ m n. max m n + 1) r.depth s.depth;
      })
  expr-resolved (choice test a b) x e =
      let o : _ =
      bind-parts (resolve_expr (texts_of names) test) (λ c. resolve_expr (texts_of names) a
      >>= λ y. resolve_expr (texts_of names) b >>= λ z. Ok (choice c y z)) x e in
      let p : _ =
      bind-parts (resolve_expr (texts_of names) a) (λ y. resolve_expr (texts_of names) b
      >>= λ z. Ok (choice o.0 y z)) x o.2 in
      let q : _ = bind-parts (resolve_expr (texts_of names) b) (λ z. Ok (choice o.0 p.0 z)) x p.2 in
      let c : ResolvedExpr names test o.0 = expr-resolved test o.0 o.1 in
      let r : ResolvedExpr names a p.0 = expr-resolved a p.0 p.1 in
      let s : ResolvedExpr names b q.0 = expr-resolved b q.0 q.1 in
      subst (ResolvedExpr names (choice test a b)) (ok-same (choice o.0 p.0 q.0) x q.2)
      (record {
        reads = both-read (names_read o.0 ++ names_read p.0) (names_read q.0)
            (both-read (names_read o.0) (names_read p.0) c.reads r.reads) s.reads;
        literals = λ h. (c.literals h.0, r.literals h.1, s.literals h.2);
        typed = ap₂ (λ t u. unless_clash (meet (known bool) t) u) c.typed (ap₂ meet r.typed s.typed);
        depth = ap₂ (λ m n. max m n + 1) c.depth (ap₂ max r.depth s.depth);
      })
  expr-resolved (arrow a b) x e =
      let p : _ =
      bind-parts (resolve_expr (texts_of names) a) (λ y. resolve_expr (texts_of names) b >>= λ z. Ok (arrow y z)) x e in
      let q : _ = bind-parts (resolve_expr (texts_of names) b) (λ z. Ok (arrow p.0 z)) x p.2 in
      let r : ResolvedExpr names a p.0 = expr-resolved a p.0 p.1 in
      let s : ResolvedExpr names b q.0 = expr-resolved b q.0 q.1 in
      subst (ResolvedExpr names (arrow a b)) (ok-same (arrow p.0 q.0) x q.2)
      (record {
        reads = both-read (names_read p.0) (names_read q.0) r.reads s.reads;
        literals = λ h. (r.literals h.0, s.literals h.1);
        typed = ap₂ meet r.typed s.typed;
        depth = ap₂ (λ m n. max m n + 1) r.depth s.depth;
      })
  expr-resolved (previous w) x e =
      let p : _ = bind-parts (resolve_word (texts_of names) w) (λ k. Ok (previous k)) x e in
      let r : ResolvedWord names w p.0 = word-resolved names w p.0 p.1 in
      subst (ResolvedExpr names (previous w)) (ok-same (previous p.0) x p.2)
      (record { reads = (r.within, tt); literals = λ h. tt; typed = r.type; depth = refl })

  -- expressions, each resolved
  pub record ResolvedExprs (ws : List WrittenExpr) (xs : List ExprTree) : Type 0 where
    pub reads : AllByRecursion (λ x. Within (names_read x)) xs
    pub literals : AllByRecursion HasLiterals ws → AllByRecursion HasLiterals xs
    pub fit : (types : List ValueType) → all_fit (word_type names) ws types ≡ all_fit (slice_get (types_of names)) xs types
    pub shallow : (list_all value_within ws ≡ true) ↔ AllByRecursion (λ x. expr_depth x ≤ expr_limit) xs

  pub exprs-resolved : (ws : List WrittenExpr) (xs : List ExprTree) → resolve_exprs (texts_of names) ws ≡ Ok xs →
      ResolvedExprs ws xs
  exprs-resolved [] xs e =
      subst (ResolvedExprs []) (ok-same [] xs e) (record { reads = tt; literals = λ h. h; fit = none; shallow = (λ h. tt, λ h. refl) })
    where
      none : (types : List ValueType) → all_fit (word_type names) [] types ≡ all_fit (slice_get (types_of names)) [] types
      none [] = refl
      none (t ∷ types) = refl
  exprs-resolved (w ∷ ws) xs e =
      let p : _ =
      bind-parts (resolve_expr (texts_of names) w) (λ y. resolve_exprs (texts_of names) ws >>= λ ys. Ok (y ∷ ys)) xs e in
      let q : _ = bind-parts (resolve_exprs (texts_of names) ws) (λ ys. Ok (p.0 ∷ ys)) xs p.2 in
      let r : ResolvedExpr names w p.0 = expr-resolved w p.0 p.1 in
      let s : ResolvedExprs ws q.0 = exprs-resolved ws q.0 q.1 in
      subst (ResolvedExprs (w ∷ ws)) (ok-same (p.0 ∷ q.0) xs q.2)
      (record {
        reads = (r.reads, s.reads);
        literals = λ h. (r.literals h.0, s.literals h.1);
        fit = more p.0 q.0 r.typed s.fit;
        shallow = both-hold (value_within w) (list_all value_within ws) (expr_depth p.0 ≤ expr_limit)
            (AllByRecursion (λ x. expr_depth x ≤ expr_limit) q.0) (value-limit w p.0 r.depth) s.shallow;
      })
    where
      more : (x : ExprTree) (xs : List ExprTree) → written_type w ≡ placed_type x →
          ((types : List ValueType) → all_fit (word_type names) ws types ≡ all_fit (slice_get (types_of names)) xs types) →
          (types : List ValueType) →
          all_fit (word_type names) (w ∷ ws) types ≡ all_fit (slice_get (types_of names)) (x ∷ xs) types
      more x xs typed later [] = refl
      more x xs typed later (t ∷ types) = ap₂ (λ k b. no_clash (meet (known t) k) && b) typed (later types)
