-- Code that leaves fields and adds an account: pieces one after another.
use Rattle.std.specs.Prelude.{◌≡◌, ℕ, ◌+◌, ◌≤◌, List, ◌∷◌, ◌++◌, map, refl}
use Rattle.std.proofs.Common.{sym, ap, subst, ◌∙◌, arith}
use Rattle.std.proofs.lemmas.List.Sums.{sum_by-append}
use Rattle.c_syntax.specs.Tree.{StmtTree, StmtTrees, no_stmts, more_stmts, stmts_append}
use Rattle.c_semantics.specs.Cells.{Cells}
use Rattle.c_semantics.specs.Values.{step_limit}
use Rattle.c_semantics.specs.Machine.{LoggedCall, StoredField, Outcome, done, stuck, behind, then_run, Scope, run_stmt, run_stmts}
use Rattle.c_semantics.proofs.lemmas.Runs.{run_stmts-append}
use Rattle.emit_shape.specs.Relocation.{Relocation, moved_stmt, moved_stmts}
use Rattle.right_relation.specs.Instances.{OnDone, Leaves, stores_at}
use Rattle.emit_system_spec.specs.EmittedCode.{joined}
use Rattle.right_system_ticks.specs.CodeAccounts.{Account, nothing_done, and_then}

-- an outcome, from this count of steps, has these fields and adds this account
abbrev pub Ends : Outcome → ℕ → Cells → Account → Type 0
Ends o steps after a = OnDone o (Leaves after (steps + (a.steps + a.inner)) a.log a.stored)

-- executed on these fields code leaves those and adds this account
abbrev pub Does : Scope → StmtTrees → (before after : Cells) → Account → Type 0
Does s code before after a = (steps : ℕ) → steps + (a.steps + a.inner) ≤ step_limit → Ends (run_stmts s code before steps) steps after a

-- the same of a statement
abbrev pub DoesOne : Scope → StmtTree → (before after : Cells) → Account → Type 0
DoesOne s code before after a = (steps : ℕ) → steps + (a.steps + a.inner) ≤ step_limit → Ends (run_stmt s code before steps) steps after a

stores_at-append : (path : List ℕ) (field : ℕ) (xs ys : List StoredField) →
    stores_at path field (xs ++ ys) ≡ stores_at path field xs + stores_at path field ys
stores_at-append path field xs ys = sum_by-append _ xs ys

-- what an execution leaves after another
on-behind : (log : List LoggedCall) (stores : List StoredField) (o : Outcome) (steps : ℕ) (after : Cells) (first : List LoggedCall)
    (before : List ℕ → ℕ → ℕ) (second : List LoggedCall) (stored : List ℕ → ℕ → ℕ) (most : ℕ) → steps ≤ most → log ≡ first →
    ((path : List ℕ) (field : ℕ) → stores_at path field stores ≤ before path field) →
    OnDone o (Leaves after steps second stored) →
    OnDone (behind log stores o) (Leaves after most (first ++ second) (λ path field. before path field + stored path field))
on-behind log stores (done a) steps after first before second stored most room same few ends = record {
  fields = ends.fields;
  in_time = let e = ends.in_time in omega (arith, e);
  calls = ap (λ l. l ++ a.log) same ∙ ap (λ l. first ++ l) ends.calls;
  stores = λ path field.
      let one = few path field in
      let two = ends.stores path field in
      omega (arith, one, two, stores_at-append path field stores a.stores);
}
on-behind log stores (stuck at cells) steps after first before second stored most room same few ends = ends

-- one outcome, and what goes on from it
pub then-ends : (o : Outcome) (go : Cells → ℕ → Outcome) (steps : ℕ) (y z : Cells) (a b : Account) → Ends o steps y a →
    ((mid : ℕ) → mid ≤ steps + (a.steps + a.inner) → Ends (go y mid) mid z b) →
    Ends (then_run o go) steps z (and_then a b)
then-ends (done c) go steps y z a b one next =
    let early = one.in_time in
    let two : Ends (go c.cells c.steps) c.steps z b = subst (λ cells. Ends (go cells c.steps) c.steps z b) (sym one.fields)
    (next c.steps (omega (arith, early))) in
    on-behind c.log c.stores (go c.cells c.steps) (c.steps + (b.steps + b.inner)) z a.log a.stored b.log b.stored
    (steps + ((a.steps + b.steps) + (a.inner + b.inner))) (omega (arith, early)) one.calls one.stores two
then-ends (stuck at cells) go steps y z a b one next = one

module _ (s : Scope) where
  pub nothing-does : (x : Cells) → Does s no_stmts x x nothing_done
  nothing-does x steps room = record {
    fields = refl;
    in_time = omega arith;
    calls = refl;
    stores = λ path field. omega arith;
  }

  pub then-does : (first second : StmtTrees) (x y z : Cells) (a b : Account) → Does s first x y a → Does s second y z b →
      Does s (stmts_append first second) x z (and_then a b)
  then-does first second x y z a b one two steps room =
      subst (λ o. Ends o steps z (and_then a b)) (sym (run_stmts-append s first second x steps))
      (then-ends (run_stmts s first x steps) (run_stmts s second) steps y z a b (one steps (omega (arith, room)))
      (λ mid early. two mid (omega (arith, room, early))))

  pub more-does : (first : StmtTree) (rest : StmtTrees) (x y z : Cells) (a b : Account) → DoesOne s first x y a → Does s rest y z b →
      Does s (more_stmts first rest) x z (and_then a b)
  more-does first rest x y z a b one two steps room =
      then-ends (run_stmt s first x steps) (run_stmts s rest) steps y z a b (one steps (omega (arith, room)))
      (λ mid early. two mid (omega (arith, room, early)))

-- ---- An account that is no less

pub weaker : (o : Outcome) (steps : ℕ) (after : Cells) (a b : Account) → a.steps + a.inner ≤ b.steps + b.inner → a.log ≡ b.log →
    ((path : List ℕ) (field : ℕ) → a.stored path field ≤ b.stored path field) → Ends o steps after a → Ends o steps after b
weaker (done c) steps after a b fewer same less ends = record {
  fields = ends.fields;
  in_time = let early = ends.in_time in omega (arith, early, fewer);
  calls = ends.calls ∙ same;
  stores = λ path field. let one = ends.stores path field in let two = less path field in omega (arith, one, two);
}
weaker (stuck at cells) steps after a b fewer same less ends = ends

pub does-weaker : (s : Scope) (code : StmtTrees) (x y : Cells) (a b : Account) → a.steps + a.inner ≤ b.steps + b.inner → a.log ≡ b.log →
    ((path : List ℕ) (field : ℕ) → a.stored path field ≤ b.stored path field) → Does s code x y a → Does s code x y b
does-weaker s code x y a b fewer same less does steps room =
    weaker (run_stmts s code x steps) steps y a b fewer same less (does steps (omega (arith, room, fewer)))

pub one-weaker : (s : Scope) (code : StmtTree) (x y : Cells) (a b : Account) → a.steps + a.inner ≤ b.steps + b.inner → a.log ≡ b.log →
    ((path : List ℕ) (field : ℕ) → a.stored path field ≤ b.stored path field) → DoesOne s code x y a → DoesOne s code x y b
one-weaker s code x y a b fewer same less does steps room =
    weaker (run_stmt s code x steps) steps y a b fewer same less (does steps (omega (arith, room, fewer)))

-- ---- Code at another place

pub moved-append : (m : Relocation) (first second : StmtTrees) →
    moved_stmts m (stmts_append first second) ≡ stmts_append (moved_stmts m first) (moved_stmts m second)
moved-append m no_stmts second = refl
moved-append m (more_stmts s ss) second = ap (more_stmts (moved_stmt m s)) (moved-append m ss second)

-- a piece before others
pub piece-then : (s : Scope) (m : Relocation) (code : StmtTrees) (codes : List StmtTrees) (w y z : Cells) (a b : Account) →
    Does s (moved_stmts m code) w y a → Does s (moved_stmts m (joined codes)) y z b → Does s (moved_stmts m (joined (code ∷ codes))) w z
    (and_then a b)
piece-then s m code codes w y z a b one two =
    subst (λ c. Does s c w z (and_then a b)) (sym (moved-append m code (joined codes)))
    (then-does s (moved_stmts m code) (moved_stmts m (joined codes)) w y z a b one two)

-- pieces, each of which leads from one state to the next
module _ (s : Scope) (m : Relocation) {A : Type 0} (code : A → StmtTrees) where
  pub first-piece : (x : A) (xs : List A) (w y z : Cells) (a b : Account) → Does s (moved_stmts m (code x)) w y a →
      Does s (moved_stmts m (joined (map code xs))) y z b →
      Does s (moved_stmts m (joined (map code (x ∷ xs)))) w z (and_then a b)
  first-piece x xs w y z a b one two =
      subst (λ c. Does s c w z (and_then a b)) (sym (moved-append m (code x) (joined (map code xs))))
      (then-does s (moved_stmts m (code x)) (moved_stmts m (joined (map code xs))) w y z a b one two)
