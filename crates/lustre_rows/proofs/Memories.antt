-- Each sample of a delay is the one that the delay remembers.
use Rattle.std.proofs.Common.{◌≡◌, refl, sym, ap, ◌∙◌, subst, ℕ, zero, suc, ◌+◌, ◌%◌, ◌^◌, ◌<◌, ◌==◌, Bool, true, false, ◌&&◌, ◌||◌, if◌then◌else◌, List, [], map, length, Option, Some, None, ℤ, pos, arith, mod-lt}
use Rattle.std.specs.List.{range_with_len}
use Rattle.std.proofs.lemmas.List.{get_or-replicate}
use Rattle.base_core.specs.Numbers.{int_at}
use Rattle.base_core.specs.declared.Compare.TheVariants.{Eq}
use Rattle.diagram_blocks.specs.Kinds.{is_delay}
use Rattle.diagram_blocks.specs.Meaning.{delay_length}
use Rattle.diagram_blocks.specs.Value.{input}
use Rattle.diagram_meaning.specs.declared.Time.{Time}
use Rattle.diagram_meaning.specs.SampleTimes.{hit}
use Rattle.diagram_meaning.specs.Rows.{system_control, inports_of}
use Rattle.diagram_meaning.specs.Diagram.{Diagram, op_at, time_at}
use Rattle.diagram_meaning.specs.Run.{start_of, initial_memory, moved_on}
use Rattle.diagram_meaning.specs.SystemRuns.{SystemTick, system_is_active, system_is_off, own_runs, own_inputs, IsSystemTick}
use Rattle.c_syntax.specs.declared.BinOp.TheVariants.{Rem}
use Rattle.c_syntax.specs.Tree.{CondTree, literal, read, binary, compare}
use Rattle.c_semantics.specs.Values.{Reads}
use Rattle.emit_row_code.specs.TestCode.{hit_test}
use Rattle.emit_row_code.specs.TestLaws.{TestIs, OnTest}
use Rattle.emit_row_code.proofs.lemmas.TestLaws.{hits_are_tested}
use Rattle.lustre_syntax.specs.Tree.{name}
use Rattle.lustre_syntax.specs.Named.{renamed}
use Rattle.lustre_flows.specs.Values.{gives, tests, number_of, value_at, evaluate}
use Rattle.lustre_flows.specs.Values as flow
use Rattle.lustre_system.specs.FromC.{test_of}
use Rattle.lustre_system.specs.Functions.{function_name}
use Rattle.lustre_system.specs.Names.{active_name, reset_name, takes_name, sample_name, leaf_name, now_leaf}
use Rattle.lustre_system.specs.RowEquations.{also, test_in, runs, signed_number, sample_value, sample_equations, delayed_name}
use Rattle.lustre_functions.specs.FromCLaws.{TestHasNames}
use Rattle.lustre_functions.proofs.lemmas.FromC.{test-is}
use Rattle.lustre_rows.specs.NamesOfTick.{NamesHave, IsAfter}
use Rattle.lustre_rows.specs.EquationLaws.{GiveTheirNames, IsNamedTick, IsTimedRow, MemoryEquationsHold}
use Rattle.lustre_rows.proofs.lemmas.ParamNames.{now-named}
use Rattle.lustre_rows.proofs.Tests.{name-given, and-given}
use Rattle.lustre_rows.proofs.Samples.{signed-given, moved-last, moved-next, sample-is, item-is}

pub and-true : (b : Bool) → (b && true) ≡ b
and-true true = refl
and-true false = refl

-- a test that is there where another one isn't
on-test : (b : Bool) (P : CondTree → Type 0) (test : CondTree) → P test → OnTest P (if b then None else Some test)
on-test true P test holds = tt
on-test false P test holds = holds

-- ---- Whether a row runs

module _ (d : Diagram) (s : Option ℕ) (before : Option (List (Option ℤ))) (values : List (Option ℤ)) (place : List ℕ → ℕ) (t : ℕ) where
  -- the tick is all that is read
  abbrev clock : Reads
  clock = record { leaf = λ l. pos t; array = λ f. [] }

  abbrev Reads_of : CondTree → Type 0
  Reads_of = TestHasNames [] clock 0 values (leaf_name d.rows s) (λ n. []) place 0

  also-given : (test : Option CondTree) (p q : Bool) → value_at values (place active_name) ≡ Some (number_of p) →
      TestIs [] clock 0 true test q → OnTest Reads_of test →
      evaluate before values (renamed place (also (name active_name) (test_in d s test))) ≡ tests (p && q)
  also-given None p q active is reads =
      name-given before values place active_name (number_of p) active
      ∙ ap tests (sym (and-true p) ∙ ap (λ r. p && r) (sym is))
  also-given (Some test) p q active is reads =
      and-given before values place (name active_name) (test_of (leaf_name d.rows s) function_name (λ n. []) test) p q
      (name-given before values place active_name (number_of p) active)
      (test-is [] clock 0 before values (leaf_name d.rows s) function_name (λ n. []) place 0 test reads 0 0 q (is 0))

  hit-given : (time : Time) (p : Bool) → t < 2 ^ 63 → value_at values (place active_name) ≡ Some (number_of p) →
      value_at values (place (leaf_name d.rows s (now_leaf d.rows s))) ≡ Some (pos t) →
      evaluate before values (renamed place (also (name active_name) (test_in d s (hit_test time (now_leaf d.rows s)))))
      ≡ tests (p && hit time t)
  hit-given time p small active now =
      also-given (hit_test time (now_leaf d.rows s)) p (hit time t) active
      (hits_are_tested time (now_leaf d.rows s) t [] clock 0 refl small)
      (on-test (time.period == 1) Reads_of
      (compare Eq (binary Rem (read (now_leaf d.rows s)) (literal (pos time.period))) (literal (pos time.offset))) ((now, tt), tt))

module _ (d : Diagram) (hyper : ℕ) (s : Option ℕ) (m : SystemTick) (before : Option (List (Option ℤ))) (values : List (Option ℤ))
    (place : List ℕ → ℕ) (b : ℕ) (tick : IsNamedTick d hyper s m before values place) (row : IsTimedRow d hyper s m.t b) where
  pub runs-given : evaluate before values (renamed place (runs d s b)) ≡ tests (own_runs d s m b)
  runs-given =
      let below = mod-lt m.t tick.cycle in
      let short = tick.short in
      let now = subst (λ (text : List ℕ). value_at values (place text) ≡ Some (pos (m.t % hyper)))
      (sym (now-named (system_control d.rows s) (length (inports_of d.rows s)))) tick.names.now in
      hit-given d s before values place (m.t % hyper) (time_at d b) (system_is_active d s m) (omega (arith, below, short)) tick.names.active
      now
      ∙ ap (λ h. tests (system_is_active d s m && h)) row.hits

-- ---- Samples

module _ (d : Diagram) (hyper : ℕ) (s : Option ℕ) (m : SystemTick) (values : List (Option ℤ)) (place : List ℕ → ℕ) (b : ℕ)
    (row : IsTimedRow d hyper s m.t b) (delay : is_delay (op_at d b) ≡ true) where
  abbrev start : ℤ
  start = start_of d b

  abbrev count : ℕ
  count = delay_length (op_at d b)

  starts-at : (k : ℕ) → k < count → int_at (initial_memory d b) k ≡ start
  starts-at k within = get_or-replicate count k start (pos 0) within

  sample-given : (before : Option (List (Option ℤ))) → IsAfter d hyper s m place before → (k : ℕ) (next : List ℕ) → k < count →
      ((earlier : SystemTick) (olds : List (Option ℤ)) → NamesHave d hyper s earlier olds place → IsSystemTick d s earlier →
      value_at olds (place next) ≡ Some (int_at (moved_on (earlier.memory b) (input (own_inputs d s earlier b) 0)) k)) →
      evaluate before values (renamed place (sample_value d s b (sample_name b k) next)) ≡ gives (int_at (m.memory b) k)
  sample-given None first k next within next_had =
      signed-given None values place start row.start
      ∙ ap gives (sym (starts-at k within) ∙ ap (λ (xs : List ℤ). int_at xs k) (sym (first.memories b row.row delay)))
  sample-given (Some olds) (earlier, had, tick, follows) k next within next_had =
      let o = earlier.is_off_around || system_is_off d s earlier in
      let p = own_runs d s earlier b in
      let moved = moved_on (earlier.memory b) (input (own_inputs d s earlier b) 0) in
      let first = evaluate (Some olds) values (renamed place (signed_number start)) in
      let after = flow.read (value_at olds (place next)) in
      let old = flow.read (value_at olds (place (sample_name b k))) in
      sample-is o p (flow.read (value_at olds (place reset_name))) (flow.read (value_at olds (place (takes_name b)))) first after old
      (ap flow.read had.reset) (ap flow.read (had.takes b row.row delay))
      ∙ item-is o p first after old (initial_memory d b) moved (earlier.memory b) k
      (signed-given (Some olds) values place start row.start ∙ ap gives (sym (starts-at k within)))
      (ap flow.read (next_had earlier olds had tick)) (ap flow.read (had.samples b k row.row delay within))
      ∙ ap (λ (xs : List ℤ). gives (int_at xs k)) (sym (ap (λ (f : ℕ → List ℤ). f b) follows.memories ∙ tick.memories b row.row delay))

  -- what the next sample had, by its name
  inner-had : (k : ℕ) → suc k < count → (earlier : SystemTick) (olds : List (Option ℤ)) → NamesHave d hyper s earlier olds place →
      IsSystemTick d s earlier →
      value_at olds (place (sample_name b (suc k)))
      ≡ Some (int_at (moved_on (earlier.memory b) (input (own_inputs d s earlier b) 0)) k)
  inner-had k within earlier olds had tick =
      let many = tick.lengths b row.row delay in
      had.samples b (suc k) row.row delay within
      ∙ ap Some (sym (moved-next (earlier.memory b) (input (own_inputs d s earlier b) 0) k (omega (arith, many, within))))

  last-had : (k : ℕ) → suc k ≡ count → (earlier : SystemTick) (olds : List (Option ℤ)) → NamesHave d hyper s earlier olds place →
      IsSystemTick d s earlier →
      value_at olds (place (delayed_name d s b)) ≡ Some (int_at (moved_on (earlier.memory b) (input (own_inputs d s earlier b) 0)) k)
  last-had k last earlier olds had tick =
      let many = tick.lengths b row.row delay in
      had.delayed b row.row delay
      ∙ ap Some (sym (moved-last (earlier.memory b) (input (own_inputs d s earlier b) 0) k (omega (arith, many, last))))

  module _ (before : Option (List (Option ℤ))) (tick : IsNamedTick d hyper s m before values place) where
    samples-given : (j rest : ℕ) → j + rest ≡ count →
        GiveTheirNames before values place (sample_equations d s b (map (sample_name b) (range_with_len j rest)))
    samples-given j zero all = tt
    samples-given j (suc zero) all =
        let within : j < count = omega (arith, all) in (
          (
            int_at (m.memory b) j,
            tick.names.samples b j row.row delay within,
            sample-given before tick.after j (delayed_name d s b) within (last-had j (let e : suc j ≡ count = omega (arith, all) in e)),
          ),
          tt,
        )
    samples-given j (suc (suc rest)) all =
        let within : j < count = omega (arith, all) in
        let next : suc j < count = omega (arith, all) in
        let named : sample_name b (suc j) ≡ sample_name b (j + 1) = ap (sample_name b) (let e : suc j ≡ j + 1 = omega arith in e) in (
          (
            int_at (m.memory b) j,
            tick.names.samples b j row.row delay within,
            subst (λ (text : List ℕ). evaluate before values (renamed place (sample_value d s b (sample_name b j) text))
                ≡ gives (int_at (m.memory b) j))
                named (sample-given before tick.after j (sample_name b (suc j)) within (inner-had j next)),
          ),
          samples-given (j + 1) (suc rest) (omega (arith, all)),
        )

pub memory_equations_hold : MemoryEquationsHold
memory_equations_hold d hyper s m before values place b tick row delay = (
  (
    number_of (own_runs d s m b),
    tick.names.takes b row.row delay,
    runs-given d hyper s m before values place b tick row,
  ),
  samples-given d hyper s m values place b row delay before tick 0 (delay_length (op_at d b))
      (let e : 0 + delay_length (op_at d b) ≡ delay_length (op_at d b) = omega arith in e),
)
