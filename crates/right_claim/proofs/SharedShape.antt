-- The program of a root and its shared child has the shape of a program.
use Rattle.std.specs.Prelude.{◌≡◌, refl, ℕ, zero, suc, ◌+◌, ◌%◌, ◌<◌, List, [], ◌∷◌, map, Contains, Some, None, pos}
use Rattle.std.specs.Fmt.{digits}
use Rattle.std.proofs.Common.{subst, arith, lit<, lit≤}
use Rattle.modules_profile.specs.Functions.{IsProfileOf}
use Rattle.modules_profile.specs.SystemHeader.{SystemHeader}
use Rattle.modules_profile.specs.Headers.{header_of}
use Rattle.modules_profile.specs.Locals.{child_use}
use Rattle.modules_profile.specs.NodeFacts.{AreHeaders}
use Rattle.modules_profile.specs.LocalSamples.{shared_child, inner_profile, inner_header, outer_profile}
use Rattle.c_syntax.specs.declared.CType.TheVariants.{U8}
use Rattle.c_syntax.specs.declared.BinOp.TheVariants.{Add, Rem}
use Rattle.c_syntax.specs.declared.Leaf.TheVariants.{Param, Own, Child}
use Rattle.c_syntax.specs.Tree.{literal, read, binary}
use Rattle.c_semantics.specs.Values.{Function, gives, eval}
use Rattle.emit_shape.specs.Names.{counter_name}
use Rattle.emit_shape.specs.Programs.{procedure_at}
use Rattle.emit_shape.specs.Slots.{CounterField}
use Rattle.emit_shape.specs.RootCode.{HasRootCode, tick, input}
use Rattle.emit_shape.specs.ProgramShape.{HasSystemShape, HasShape}
use Rattle.right_claim.specs.SharedSamples.{shared_program}
use Rattle.right_claim.proofs.SharedNeeds.{inner_is_profile, outer_is_profile}

abbrev counter_of : ℕ → CounterField
counter_of g = record { name = counter_name g; type = U8 }

module _ (inner_is : IsProfileOf shared_child (Some 2) inner_profile) (outer_is : IsProfileOf shared_child None outer_profile) where
  inner_headers : AreHeaders shared_child (Some 2) []
  inner_headers = record { rows = refl; each = λ h c. absurd (let below = c.1 in omega arith) }

  outer_headers : AreHeaders shared_child None (inner_header ∷ [])
  outer_headers = record { rows = refl; each = each }
    where
      each : (h : SystemHeader) → Contains (inner_header ∷ []) h →
          (h ≡ header_of shared_child h.row h.profile) × IsProfileOf shared_child h.row h.profile
      each h (zero, below, is) =
          subst (λ (g : SystemHeader). (g ≡ header_of shared_child g.row g.profile)
          × IsProfileOf shared_child g.row g.profile) is (refl, inner_is)
      each h (suc k, below, is) = absurd (omega arith)

  inner_shape : HasSystemShape shared_program shared_child [] (Some 2)
  unfolding digits
  inner_shape = record {
    view = record { headers = []; are_headers = inner_headers; profile = inner_profile; is_profile = inner_is };
    struct_there = refl;
    fields =
        record {
          slots = _;
          are_slots =
              record { counters = counter_of 0 ∷ []; named = (refl, tt); all = record { moves = []; below = tt; is = refl } };
          are_fields = refl;
        };
    heads = record { moves = []; below = tt; is = refl };
    rules = (
      record {
        private_name = (0, refl);
        params = ((1, lit< tt, refl), tt);
        calls = tt;
        stores = (tt, (((3, lit< tt, refl), tt), (((3, lit< tt, refl), tt), tt)));
        indices = tt;
        tests =
            (((4, lit< tt, refl), tt), tt);
      },
      (
        record {
          private_name = tt;
          params = tt;
          calls = (((Param 1, refl, refl), tt), tt);
          stores = tt;
          indices = tt;
          tests = tt;
        },
        (
          record { private_name = tt; params = tt; calls = tt; stores = (tt, tt); indices = tt; tests = tt },
          (
            record { private_name = tt; params = tt; calls = tt; stores = (tt, (tt, (tt, tt))); indices = tt; tests = tt },
            (record { private_name = tt; params = tt; calls = tt; stores = tt; indices = tt; tests = tt }, tt),
          ),
        ),
      ),
    );
    once = record { values = (lit≤ tt, (lit≤ tt, tt)); functions = tt; updates = tt };
    used = record { called = (lit< tt, (tt, (tt, (tt, (tt, tt))))); read = ((0, lit< tt, refl), tt) };
  }

  outer_shape : HasSystemShape shared_program shared_child [] None
  unfolding digits
  outer_shape = record {
    view = record { headers = inner_header ∷ []; are_headers = outer_headers; profile = outer_profile; is_profile = outer_is };
    struct_there = refl;
    fields =
        record {
          slots = _;
          are_slots =
              record {
                counters = map counter_of (0 ∷ 1 ∷ 2 ∷ []);
                named = (refl, (refl, (refl, tt)));
                all = record { moves = []; below = tt; is = refl };
              };
          are_fields = refl;
        };
    heads = record { moves = []; below = tt; is = refl };
    rules = (
      record {
        private_name = (0, refl);
        params = ((0, lit< tt, refl), ((1, lit< tt, refl), tt));
        calls = (
          record {
            child = child_use shared_child inner_header;
            is_child = (0, lit< tt, refl);
            on_child = refl;
            is_public = (0, lit< tt, refl);
            passes =
                ((_, (0, lit< tt, refl), (Param 0, refl, refl)), ((_, (1, lit< tt, refl), (Own 0, refl, refl)), tt));
          },
          tt,
        );
        stores = (tt, (((3, lit< tt, refl), tt), tt));
        indices = tt;
        tests = (((4, lit< tt, refl), tt), tt);
      },
      (
        record {
          private_name = (1, refl);
          params = ((2, lit< tt, refl), tt);
          calls = tt;
          stores = (
            tt,
            (
              ((3, lit< tt, refl), tt),
              (((3, lit< tt, refl), ((4, lit< tt, refl), tt)), (((3, lit< tt, refl), tt), tt)),
            ),
          );
          indices = tt;
          tests = (((5, lit< tt, refl), tt), tt);
        },
        (
          record {
            private_name = (2, refl);
            params = tt;
            calls = tt;
            stores = (tt, (((3, lit< tt, refl), tt), tt));
            indices = tt;
            tests = (((6, lit< tt, refl), tt), tt);
          },
          (
            record {
              private_name = tt;
              params = tt;
              calls = (((Param 0, refl, refl), ((Param 1, refl, refl), tt)), (tt, tt));
              stores = tt;
              indices = tt;
              tests =
                  tt;
            },
            (
              record {
                private_name = tt;
                params = tt;
                calls = (((Param 0, refl, refl), ((Param 1, refl, refl), tt)), (((Param 2, refl, refl), tt), tt));
                stores =
                    tt;
                indices = tt;
                tests = tt;
              },
              (
                record {
                  private_name = tt;
                  params = tt;
                  calls = (
                    record {
                      child = child_use shared_child inner_header;
                      is_child = (0, lit< tt, refl);
                      on_child = refl;
                      is_public = (1, lit< tt, refl);
                      passes =
                          ((_, (0, lit< tt, refl), (Param 0, refl, refl)), ((_, (1, lit< tt, refl), (Own 0, refl, refl)), tt));
                    },
                    tt,
                  );
                  stores = (tt, (tt, (tt, tt)));
                  indices = tt;
                  tests = tt;
                },
                (
                  record {
                    private_name = tt;
                    params = tt;
                    calls = (
                      record {
                        child = child_use shared_child inner_header;
                        is_child = (0, lit< tt, refl);
                        on_child = refl;
                        is_public = (2, lit< tt, refl);
                        passes = tt;
                      },
                      tt,
                    );
                    stores = (tt, (tt, (tt, (tt, (tt, (tt, (tt, (tt, tt))))))));
                    indices = tt;
                    tests = tt;
                  },
                  (
                    record {
                      private_name = tt;
                      params = tt;
                      calls = (
                        record {
                          child = child_use shared_child inner_header;
                          is_child = (0, lit< tt, refl);
                          on_child = refl;
                          is_public = (3, lit< tt, refl);
                          passes = tt;
                        },
                        tt,
                      );
                      stores = tt;
                      indices = tt;
                      tests = tt;
                    },
                    tt,
                  ),
                ),
              ),
            ),
          ),
        ),
      ),
    );
    once = record {
      values = (lit≤ tt, (lit≤ tt, (lit≤ tt, (lit≤ tt, (lit≤ tt, tt)))));
      functions = ((refl, tt), tt);
      updates = (refl, tt);
    };
    used = record {
      called = (lit< tt, (lit< tt, (lit< tt, (tt, (tt, (tt, (tt, (tt, tt))))))));
      read = ((0, lit< tt, refl), ((1, lit< tt, refl), ((2, lit< tt, refl), tt)));
    };
  }

  -- the cycle has one tick
  next_tick : (functions : List Function) (t : ℕ) → t < 1 →
      (steps : ℕ)
      × (eval functions (record { leaf = λ leaf. pos t; array = λ f. [] }) 0
      (binary Rem (binary Add (read (Own 0)) (literal (pos 1))) (literal (pos 1))) 0 ≡ gives (pos ((t + 1) % 1)) steps)
  next_tick functions zero below = (0, refl)
  next_tick functions (suc t) below = absurd (omega arith)

  root_code : HasRootCode shared_program shared_child 1
  unfolding digits
  root_code = record {
    profile = outer_profile;
    is_profile = outer_is;
    name = refl;
    fields = record { moves = []; below = tt; is = refl };
    start = procedure_at shared_program 13;
    step = procedure_at shared_program 14;
    only = record { moves = []; below = tt; is = refl };
    start_head = refl;
    step_head = refl;
    begins = lit< tt;
    tick_alone = ((refl, refl), tt);
    starts = ((refl, refl, tt), ((refl, (Child 3 3, refl, refl)), ((refl, (Child 3 4, refl, refl)), tt)));
    does = (
      (refl, refl, ((_, tick refl, (Own 0, refl, refl)), ((_, input, (Param 0, refl, refl)), tt))),
      (
        (
          refl,
          refl,
          (
            (_, tick refl, (Own 0, refl, refl)),
            ((_, input, (Param 0, refl, refl)), ((_, input, (Param 1, refl, refl)), tt)),
          ),
        ),
        (
          (
            refl,
            refl,
            (
              (_, tick refl, (Own 0, refl, refl)),
              ((_, input, (Param 0, refl, refl)), ((_, input, (Param 1, refl, refl)), tt)),
            ),
          ),
          (
            (refl, (Child 3 3, refl, refl)),
            ((refl, (Child 3 4, refl, refl)), ((refl, record { reads = (refl, tt); next = next_tick }), tt)),
          ),
        ),
      ),
    );
  }

  whole_shape : HasShape shared_program shared_child [] 1
  unfolding digits
  whole_shape = record {
    pures = tt;
    structs = record { moves = (0, 2) ∷ []; below = (lit< tt, lit< tt, tt); is = refl };
    each = (outer_shape, (inner_shape, tt));
    root = root_code;
  }

pub shared_has_shape : HasShape shared_program shared_child [] 1
shared_has_shape = whole_shape inner_is_profile outer_is_profile
