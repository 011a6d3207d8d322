-- The code of a child that passes its input on keeps the rules and limits of C by itself, after whatever prelude. One whose group
-- is after its function is refused, and one with too long a chain of calls.
use Rattle.std.specs.Prelude.{◌≡◌, refl, ℕ, ◌≤◌, List, [], ◌∷◌, ◌++◌, take}
use Rattle.std.specs.Fmt.{digits}
use Rattle.std.proofs.Common.{sym, subst, arith, lit<, lit≤, true≢false}
use Rattle.modules_profile.specs.LocalSamples.{inner_local}
use Rattle.c_syntax.specs.Tree.{PureTree}
use Rattle.c_syntax.specs.Lawful.{AreDistinct, AreApart, pure_names, procedure_names}
use Rattle.emit_prelude.specs.Rules.{IsPrelude, names}
use Rattle.emit_shape.specs.Names.{now_name, input_name}
use Rattle.emit_shape.specs.TinySamples.{child_code}
use Rattle.right_claim.specs.Alone.{alone, IsLawfulAlone, HasShortChains}
use Rattle.right_claim.specs.RefusedAlone.{late_group, long_chain}

-- ---- The right code

-- names are distinct or apart after whatever functions with the names of the prelude
distinct_of : (later : List (List ℕ)) (ps : List PureTree) → pure_names ps ≡ names → AreDistinct (names ++ later) →
    AreDistinct (pure_names ps ++ later)
distinct_of later ps named = subst (λ ns. AreDistinct (ns ++ later)) (sym named)

-- the names of the first so many of its procedures
abbrev before : ℕ → List (List ℕ)
before k = procedure_names (take k (alone inner_local child_code []).procedures)

apart_of : (params : List (List ℕ)) (k : ℕ) (ps : List PureTree) → pure_names ps ≡ names →
    AreApart params (names ++ before k) → AreApart params (pure_names ps ++ before k)
apart_of params k ps named = subst (λ ns. AreApart params (ns ++ before k)) (sym named)

abbrev one_param : List (List ℕ)
one_param = input_name 1 ∷ []

abbrev two_params : List (List ℕ)
two_params = now_name ∷ one_param

child_is_lawful : IsLawfulAlone inner_local child_code
unfolding digits
child_is_lawful = record {
  names = λ ps prelude. distinct_of (before 5) ps prelude.named (
    refl,
    refl,
    (
      refl,
      refl,
      (
        refl,
        refl,
        (
          refl,
          refl,
          (
            refl,
            refl,
            (
              refl,
              refl,
              (refl, refl, (refl, refl, (refl, refl, (refl, refl, (refl, refl, (refl, refl, (refl, refl, tt))))))),
            ),
          ),
        ),
      ),
    ),
  );
  structs = (
    record {
      fields = (refl, refl, (refl, refl, (refl, refl, tt)));
      some = lit< tt;
      kinds = (tt, (tt, (tt, tt)));
      outputs = λ e. absurd (true≢false (sym e));
    },
    tt,
  );
  procedures = λ ps prelude. let named = prelude.named in (
    record {
      of = lit< tt;
      params = (refl, refl, tt);
      apart = apart_of one_param 0 ps named (refl, tt);
      body = (
        (
          ((_, refl, refl), (_, refl, lit< tt)),
          (((_, refl, refl), (_, refl, lit< tt)), (((_, refl, refl), lit< tt), (((_, refl, refl), (_, refl, refl)), tt))),
          tt,
        ),
        tt,
      );
    },
    (
      record {
        of = lit< tt;
        params = (refl, refl, (refl, refl, tt));
        apart = apart_of two_params 1 ps named (refl, (refl, tt));
        body =
            ((_, refl, refl, refl, (lit< tt, tt)), tt);
      },
      (
        record {
          of = lit< tt;
          params = (refl, refl, (refl, refl, tt));
          apart = apart_of two_params 2 ps named (refl, (refl, tt));
          body =
              (((_, refl, refl), (_, refl, lit< tt)), tt);
        },
        (
          record {
            of = lit< tt;
            params = tt;
            apart = apart_of [] 3 ps named tt;
            body = (
              ((_, refl, refl), (_, refl, lit< tt)),
              (((_, refl, refl), (_, refl, lit< tt)), (((_, refl, refl), (_, refl, lit< tt)), tt)),
            );
          },
          (record { of = lit< tt; params = tt; apart = apart_of [] 4 ps named tt; body = tt }, tt),
        ),
      ),
    ),
  );
  calls = (tt, ((lit< tt, tt), (tt, (tt, (tt, tt)))));
  fits = (
    record { params = lit≤ tt; statements = lit≤ tt; expressions = lit≤ tt },
    (
      record { params = lit≤ tt; statements = lit≤ tt; expressions = lit≤ tt },
      (
        record { params = lit≤ tt; statements = lit≤ tt; expressions = lit≤ tt },
        (
          record { params = lit≤ tt; statements = lit≤ tt; expressions = lit≤ tt },
          (record { params = lit≤ tt; statements = lit≤ tt; expressions = lit≤ tt }, tt),
        ),
      ),
    ),
  );
}

child_has_short_chains : HasShortChains inner_local child_code
child_has_short_chains = (lit≤ tt, (lit≤ tt, (lit≤ tt, (lit≤ tt, (lit≤ tt, tt)))))

-- ---- The others

-- the function, which comes first, calls what no procedure before it is
group_is_late : (pures : List PureTree) → IsPrelude pures → IsLawfulAlone inner_local late_group → ⊥
group_is_late pures prelude h = cc (h.procedures pures prelude).0.body.0.1

chain_is_long : HasShortChains inner_local long_chain → ⊥
chain_is_long h = let short : 4 ≤ 3 = h.1.1.1.0 in omega arith
