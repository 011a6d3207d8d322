-- The eight nodes of the functions are lawful.
use Rattle.std.specs.Prelude.{◌≡◌, ℕ, ◌^◌, ◌<◌, Bool, true, false, ◌&&◌, nat_lt, nat_le, List, [], ◌∷◌, map, take, length, codes, ℤ, pos, negsuc, slice_get}
use Rattle.std.specs.List.{AllByRecursion, list_all}
use Rattle.std.proofs.Common.{refl}
use Rattle.std.proofs.lemmas.Bool.{and_parts, leb-true, ltb-true}
use Rattle.c_syntax.specs.Outputs.{has_name}
use Rattle.c_syntax.specs.Tree.{PureTree}
use Rattle.emit_prelude.specs.Bodies.{function_with, rounding_params, floor_body, ceiling_body, zero_body, nearest_body, away_body, even_body, clamp_body, wrap_body}
use Rattle.lustre_syntax.specs.Names.{is_lustre_name}
use Rattle.lustre_syntax.specs.Tree.{Expr, ExprTree, number, truth, name, negative, negation, two, choice, arrow, previous, NodeTree, texts_of, types_of, node_texts, names_read}
use Rattle.lustre_syntax.specs.Named.{renamed, place_of, all_names, placed_node}
use Rattle.lustre_syntax.specs.Typing.{type_at, fits}
use Rattle.lustre_syntax.specs.Lawful.{expr_depth, expr_limit, HasLiterals, IsWritable, AreDistinct, IsLawfulNode, AreNodes}
use Rattle.lustre_system.specs.FromC.{value_of}
use Rattle.lustre_system.specs.Functions.{param_name, function_name, function_node, function_nodes}
use Rattle.lustre_lawful.proofs.Counts.{once-from}
use Rattle.lustre_lawful.proofs.Places.{gives-names}

-- ---- Expressions that can be written

abbrev is_literal : ℤ → Bool
is_literal (pos n) = nat_lt n (2 ^ 63)
is_literal (negsuc n) = false

abbrev has_literals : {N : Type 0} → Expr N → Bool
has_literals (number value) = is_literal value
has_literals (truth value) = true
has_literals (name k) = true
has_literals (negative a) = has_literals a
has_literals (negation a) = has_literals a
has_literals (two op a b) = has_literals a && has_literals b
has_literals (choice test a b) = has_literals test && (has_literals a && has_literals b)
has_literals (arrow a b) = has_literals a && has_literals b
has_literals (previous k) = true

literals-from : {N : Type 0} (e : Expr N) → has_literals e ≡ true → HasLiterals e
literals-from (number (pos n)) is = (n, refl, ltb-true n (2 ^ 63) is)
literals-from (number (negsuc n)) is = absurd (cc)
literals-from (truth value) is = tt
literals-from (name k) is = tt
literals-from (negative a) is = literals-from a is
literals-from (negation a) is = literals-from a is
literals-from (two op a b) is =
    let parts = and_parts (has_literals a) (has_literals b) is in (literals-from a parts.0, literals-from b parts.1)
literals-from (choice test a b) is =
    let parts = and_parts (has_literals test) (has_literals a && has_literals b) is in
    let more = and_parts (has_literals a) (has_literals b) parts.1 in
    (literals-from test parts.0, literals-from a more.0, literals-from b more.1)
literals-from (arrow a b) is =
    let parts = and_parts (has_literals a) (has_literals b) is in (literals-from a parts.0, literals-from b parts.1)
literals-from (previous k) is = tt

below-from : (count : ℕ) (ks : List ℕ) → list_all (λ k. nat_lt k count) ks ≡ true → AllByRecursion (λ k. k < count) ks
below-from count [] is = tt
below-from count (k ∷ ks) is =
    let parts = and_parts (nat_lt k count) (list_all (λ j. nat_lt j count) ks) is in
    (ltb-true k count parts.0, below-from count ks parts.1)

abbrev is_writable : ℕ → ExprTree → Bool
is_writable count e = list_all (λ k. nat_lt k count) (names_read e) && (has_literals e && nat_le (expr_depth e) expr_limit)

writable-from : (count : ℕ) (e : ExprTree) → is_writable count e ≡ true → IsWritable count e
writable-from count e is =
    let parts = and_parts (list_all (λ k. nat_lt k count) (names_read e)) (has_literals e && nat_le (expr_depth e) expr_limit) is in
    let more = and_parts (has_literals e) (nat_le (expr_depth e) expr_limit) parts.1 in
    record {
      reads = below-from count (names_read e) parts.0;
      literals = literals-from e more.0;
      depth = leb-true (expr_depth e) expr_limit more.1;
    }

-- ---- A function

module _ (p : PureTree) where
  abbrev texts : List (List ℕ)
  texts = texts_of (all_names (function_node p))

  abbrev types : List Bool
  types = types_of (all_names (function_node p))

  -- its body over the places of its names
  abbrev body : ExprTree
  body = renamed (place_of texts) (value_of (param_name p.params) function_name (λ n. []) p.body)

  -- what can be computed of it
  record IsGoodFunction : Type 0 where
    pub named : is_lustre_name p.name ≡ true
    pub distinct : AreDistinct texts
    pub typed : fits (slice_get types) body (type_at types (place_of texts (codes "r"))) ≡ true
    pub writable : is_writable (length (all_names (function_node p))) body ≡ true

  function-lawful : IsGoodFunction → (callees : List (List ℕ)) (earlier : List NodeTree) → has_name (node_texts earlier) p.name ≡ false →
      IsLawfulNode earlier (placed_node callees (function_node p))
  function-lawful good callees earlier new =
      let given = gives-names callees (function_node p) (once-from texts good.distinct) (λ x. refl) in
      record {
        named = good.named;
        new = new;
        names = good.distinct;
        ports = given.ports;
        within = given.within;
        given = given.given;
        typed = (good.typed, tt);
        writable = ((writable-from (length (all_names (function_node p))) body good.writable, tt), tt);
      }

-- ---- The eight

floor-good : IsGoodFunction (function_with (codes "round_floor") rounding_params floor_body)
floor-good = record { named = refl; distinct = (refl, refl, (refl, refl, (refl, refl, tt))); typed = refl; writable = refl }

ceiling-good : IsGoodFunction (function_with (codes "round_ceiling") rounding_params ceiling_body)
ceiling-good = record { named = refl; distinct = (refl, refl, (refl, refl, (refl, refl, tt))); typed = refl; writable = refl }

zero-good : IsGoodFunction (function_with (codes "round_zero") rounding_params zero_body)
zero-good = record { named = refl; distinct = (refl, refl, (refl, refl, (refl, refl, tt))); typed = refl; writable = refl }

nearest-good : IsGoodFunction (function_with (codes "round_nearest") rounding_params nearest_body)
nearest-good = record { named = refl; distinct = (refl, refl, (refl, refl, (refl, refl, tt))); typed = refl; writable = refl }

away-good : IsGoodFunction (function_with (codes "round_away") rounding_params away_body)
away-good = record { named = refl; distinct = (refl, refl, (refl, refl, (refl, refl, tt))); typed = refl; writable = refl }

even-good : IsGoodFunction (function_with (codes "round_even") rounding_params even_body)
even-good = record { named = refl; distinct = (refl, refl, (refl, refl, (refl, refl, tt))); typed = refl; writable = refl }

clamp-good : IsGoodFunction (function_with (codes "clamp") (codes "v" ∷ codes "lo" ∷ codes "hi" ∷ []) clamp_body)
clamp-good = record
    { named = refl; distinct = (refl, refl, (refl, refl, (refl, refl, (refl, refl, tt)))); typed = refl; writable = refl }

wrap-good : IsGoodFunction (function_with (codes "wrap") (codes "v" ∷ codes "lo" ∷ codes "n" ∷ []) wrap_body)
wrap-good = record
    { named = refl; distinct = (refl, refl, (refl, refl, (refl, refl, (refl, refl, tt)))); typed = refl; writable = refl }

-- the eight in their order
module _ (callees : List (List ℕ)) where
  abbrev lawful : (p : PureTree) → IsGoodFunction p → (earlier : List NodeTree) → has_name (node_texts earlier) p.name ≡ false →
      IsLawfulNode earlier (placed_node callees (function_node p))
  lawful p good earlier new = function-lawful p good callees earlier new

  pub functions-lawful : AreNodes [] (map (placed_node callees) function_nodes)
  functions-lawful = (
    lawful (function_with (codes "round_floor") rounding_params floor_body) floor-good [] refl,
    (
      lawful (function_with (codes "round_ceiling") rounding_params ceiling_body) ceiling-good
          (map (placed_node callees) (take 1 function_nodes)) refl,
      (
        lawful (function_with (codes "round_zero") rounding_params zero_body) zero-good
            (map (placed_node callees) (take 2 function_nodes)) refl,
        (
          lawful (function_with (codes "round_nearest") rounding_params nearest_body) nearest-good
              (map (placed_node callees) (take 3 function_nodes)) refl,
          (
            lawful (function_with (codes "round_away") rounding_params away_body) away-good
                (map (placed_node callees) (take 4 function_nodes)) refl,
            (
              lawful (function_with (codes "round_even") rounding_params even_body) even-good
                  (map (placed_node callees) (take 5 function_nodes)) refl,
              (
                lawful (function_with (codes "clamp") (codes "v" ∷ codes "lo" ∷ codes "hi" ∷ []) clamp_body) clamp-good
                    (map (placed_node callees) (take 6 function_nodes)) refl,
                (
                  lawful (function_with (codes "wrap") (codes "v" ∷ codes "lo" ∷ codes "n" ∷ []) wrap_body) wrap-good
                      (map (placed_node callees) (take 7 function_nodes)) refl,
                  tt,
                ),
              ),
            ),
          ),
        ),
      ),
    ),
  )
