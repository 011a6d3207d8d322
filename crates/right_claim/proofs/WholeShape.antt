-- The sample of whole right code has the shape of a program.
use Rattle.std.specs.Prelude.{◌≡◌, refl, ℕ, zero, suc, ◌+◌, ◌%◌, ◌<◌, List, [], ◌∷◌, Contains, Some, None, pos}
use Rattle.std.specs.Fmt.{digits}
use Rattle.std.proofs.Common.{subst, arith, lit<, lit≤}
use Rattle.modules_profile.specs.Functions.{IsProfileOf}
use Rattle.modules_profile.specs.SystemHeader.{SystemHeader}
use Rattle.modules_profile.specs.Headers.{header_of}
use Rattle.modules_profile.specs.Locals.{child_use}
use Rattle.modules_profile.specs.NodeFacts.{AreHeaders}
use Rattle.c_syntax.specs.declared.CType.TheVariants.{U8}
use Rattle.c_syntax.specs.declared.BinOp.TheVariants.{Add, Rem}
use Rattle.c_syntax.specs.declared.Leaf.TheVariants.{Param, Own, Child}
use Rattle.c_syntax.specs.Tree.{literal, read, binary}
use Rattle.c_semantics.specs.Values.{Function, gives, eval}
use Rattle.emit_shape.specs.Names.{counter_name}
use Rattle.emit_shape.specs.Programs.{procedure_at}
use Rattle.emit_shape.specs.Slots.{CounterField}
use Rattle.emit_shape.specs.RootCode.{HasRootCode, tick}
use Rattle.emit_shape.specs.ProgramShape.{HasSystemShape, HasShape}
use Rattle.right_claim.specs.WholeSamples.{later_five, child_profile, top_profile, child_header, whole_program}
use Rattle.right_claim.proofs.WholeFaces.{child_is_profile, top_is_profile}

abbrev counter : CounterField
counter = record { name = counter_name 0; type = U8 }

child_headers : AreHeaders later_five (Some 0) []
child_headers = record { rows = refl; each = λ h c. absurd (let below = c.1 in omega arith) }

top_headers : AreHeaders later_five None (child_header ∷ [])
top_headers = record { rows = refl; each = each }
  where
    each : (h : SystemHeader) → Contains (child_header ∷ []) h →
        (h ≡ header_of later_five h.row h.profile) × IsProfileOf later_five h.row h.profile
    each h (zero, below, is) =
        subst (λ (g : SystemHeader). (g ≡ header_of later_five g.row g.profile)
        × IsProfileOf later_five g.row g.profile) is (refl, child_is_profile)
    each h (suc k, below, is) = absurd (omega arith)

child_shape : HasSystemShape whole_program later_five [] (Some 0)
unfolding digits
child_shape = record {
  view = record { headers = []; are_headers = child_headers; profile = child_profile; is_profile = child_is_profile };
  struct_there = refl;
  fields =
      record {
        slots = _;
        are_slots =
            record { counters = counter ∷ []; named = (refl, tt); all = record { moves = []; below = tt; is = refl } };
        are_fields = refl;
      };
  heads = record { moves = []; below = tt; is = refl };
  rules = (
    record {
      private_name = (0, refl);
      params = tt;
      calls = tt;
      stores = (tt, (((0, lit< tt, refl), tt), (((3, lit< tt, refl), tt), tt)));
      indices = tt;
      tests =
          (((4, lit< tt, refl), tt), tt);
    },
    (
      record { private_name = tt; params = tt; calls = (tt, tt); stores = tt; indices = tt; tests = tt },
      (
        record {
          private_name = tt;
          params = tt;
          calls = tt;
          stores = (tt, (((0, lit< tt, refl), tt), (tt, tt)));
          indices = tt;
          tests = tt;
        },
        (
          record { private_name = tt; params = tt; calls = tt; stores = (tt, (tt, (tt, (tt, (tt, tt))))); indices = tt; tests = tt },
          (record { private_name = tt; params = tt; calls = tt; stores = (tt, tt); indices = tt; tests = tt }, tt),
        ),
      ),
    ),
  );
  once = record { values = (lit≤ tt, (lit≤ tt, (lit≤ tt, tt))); functions = tt; updates = tt };
  used = record { called = (lit< tt, (tt, (tt, (tt, (tt, tt))))); read = ((0, lit< tt, refl), tt) };
}

top_shape : HasSystemShape whole_program later_five [] None
unfolding digits
top_shape = record {
  view = record { headers = child_header ∷ []; are_headers = top_headers; profile = top_profile; is_profile = top_is_profile };
  struct_there = refl;
  fields =
      record {
        slots = _;
        are_slots =
            record { counters = counter ∷ []; named = (refl, tt); all = record { moves = []; below = tt; is = refl } };
        are_fields = refl;
      };
  heads = record { moves = []; below = tt; is = refl };
  rules = (
    record {
      private_name = (0, refl);
      params = ((0, lit< tt, refl), tt);
      calls = (
        record {
          child = child_use later_five child_header;
          is_child = (0, lit< tt, refl);
          on_child = refl;
          is_public = (0, lit< tt, refl);
          passes = ((_, (0, lit< tt, refl), (Param 0, refl, refl)), tt);
        },
        tt,
      );
      stores = (tt, (((3, lit< tt, refl), tt), tt));
      indices = tt;
      tests = (((4, lit< tt, refl), tt), tt);
    },
    (
      record { private_name = tt; params = tt; calls = (((Param 0, refl, refl), tt), tt); stores = tt; indices = tt; tests = tt },
      (
        record {
          private_name = tt;
          params = tt;
          calls = (
            record {
              child = child_use later_five child_header;
              is_child = (0, lit< tt, refl);
              on_child = refl;
              is_public = (1, lit< tt, refl);
              passes = ((_, (0, lit< tt, refl), (Param 0, refl, refl)), tt);
            },
            tt,
          );
          stores = (tt, tt);
          indices = tt;
          tests = tt;
        },
        (
          record {
            private_name = tt;
            params = tt;
            calls = (
              record {
                child = child_use later_five child_header;
                is_child = (0, lit< tt, refl);
                on_child = refl;
                is_public = (2, lit< tt, refl);
                passes = tt;
              },
              tt,
            );
            stores = (tt, (tt, tt));
            indices = tt;
            tests = tt;
          },
          (
            record {
              private_name = tt;
              params = tt;
              calls = (
                record {
                  child = child_use later_five child_header;
                  is_child = (0, lit< tt, refl);
                  on_child = refl;
                  is_public = (3, lit< tt, refl);
                  passes = tt;
                },
                tt,
              );
              stores = tt;
              indices = tt;
              tests = tt;
            },
            tt,
          ),
        ),
      ),
    ),
  );
  once = record { values = (lit≤ tt, tt); functions = ((refl, tt), tt); updates = (refl, tt) };
  used = record { called = (lit< tt, (tt, (tt, (tt, (tt, tt))))); read = ((0, lit< tt, refl), tt) };
}

-- the cycle has one tick
next_tick : (functions : List Function) (t : ℕ) → t < 1 →
    (steps : ℕ)
    × (eval functions (record { leaf = λ leaf. pos t; array = λ f. [] }) 0
    (binary Rem (binary Add (read (Own 0)) (literal (pos 1))) (literal (pos 1))) 0 ≡ gives (pos ((t + 1) % 1)) steps)
next_tick functions zero below = (0, refl)
next_tick functions (suc t) below = absurd (omega arith)

root_code : HasRootCode whole_program later_five 1
unfolding digits
root_code = record {
  profile = top_profile;
  is_profile = top_is_profile;
  name = refl;
  fields = record { moves = []; below = tt; is = refl };
  start = procedure_at whole_program 10;
  step = procedure_at whole_program 11;
  only = record { moves = []; below = tt; is = refl };
  start_head = refl;
  step_head = refl;
  begins = lit< tt;
  tick_alone = ((refl, refl), tt);
  starts = ((refl, refl, tt), ((refl, (Child 2 0, refl, refl)), tt));
  does = (
    (refl, refl, ((_, tick refl, (Own 0, refl, refl)), tt)),
    (
      (refl, refl, ((_, tick refl, (Own 0, refl, refl)), tt)),
      ((refl, (Child 2 0, refl, refl)), ((refl, record { reads = (refl, tt); next = next_tick }), tt)),
    ),
  );
}

pub whole_shape : HasShape whole_program later_five [] 1
unfolding digits
whole_shape = record {
  pures = tt;
  structs = record { moves = (0, 2) ∷ []; below = (lit< tt, lit< tt, tt); is = refl };
  each = (top_shape, (child_shape, tt));
  root = root_code;
}
