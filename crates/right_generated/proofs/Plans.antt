-- Trees of sections with the text of each line, and the items that their lines spell.
use Rattle.std.proofs.Common.{◌≡◌, refl, sym, ◌∙◌, ap, subst, ℕ, suc, ◌+◌, Bool, true, false, List, [], ◌∷◌, ◌++◌, append_assoc, append-nil, arith}
use Rattle.std.specs.Prelude.{⊤}
use Rattle.std.specs.List.{AllByRecursion}
use Rattle.base_core.specs.Numbers.{reported_number}
use Rattle.mdl_tree.specs.Text.{Statement, Opens, Closes, Sets, Adds, Faulty, LineForm, NoValue, after_form, statements_from, statements_of, joined, joined_with}
use Rattle.mdl_tree.specs.Spelling.{Items, End, Param, Section, Spells, Mdl}
use Rattle.mdl_tree.proofs.lemmas.OneTree.{same_items}
use Rattle.tool_generator.specs.Texts.{text_of}
use Rattle.right_generated.proofs.OneLines.{IsOneLine, lines_of_text}
use Rattle.right_generated.proofs.LineForms.{Says, Heads}

-- What a text says in order: a parameter, or a section with what is inside it.
pub data Plan : Type 0 where
  Done : Plan
  Word : (text name value : List ℕ) (quoted : Bool) → Says text name value quoted → (rest : Plan) → Plan
  Part : (text name : List ℕ) → Heads text name → (inside rest : Plan) → Plan

-- its lines
abbrev pub plan_lines : Plan → List (List ℕ)
plan_lines Done = []
plan_lines (Word text name value quoted says rest) = text ∷ plan_lines rest
plan_lines (Part text name heads inside rest) = text ∷ (plan_lines inside ++ (125 ∷ []) ∷ plan_lines rest)

-- how many there are
abbrev pub plan_count : Plan → ℕ
plan_count Done = 0
plan_count (Word text name value quoted says rest) = suc (plan_count rest)
plan_count (Part text name heads inside rest) = suc (plan_count inside + suc (plan_count rest))

-- what they say, from line n on
abbrev pub plan_statements : ℕ → Plan → List Statement
plan_statements n Done = []
plan_statements n (Word text name value quoted says rest) = Sets (reported_number n) name value quoted ∷ plan_statements (n + 1) rest
plan_statements n (Part text name heads inside rest) =
    Opens (reported_number n) name
    ∷ (plan_statements (n + 1) inside ++ Closes (reported_number (n + 1 + plan_count inside))
    ∷ plan_statements (n + 1 + plan_count inside + 1) rest)

-- the items that they spell
abbrev pub plan_items : ℕ → Plan → Items
plan_items n Done = End
plan_items n (Word text name value quoted says rest) = Param name value (reported_number n) (plan_items (n + 1) rest)
plan_items n (Part text name heads inside rest) =
    Section name (reported_number n) (plan_items (n + 1) inside) (plan_items (n + 1 + plan_count inside + 1) rest)

-- ---- Lines

pub all_append : {A : Type 0} (P : A → Type 0) (xs ys : List A) → AllByRecursion P xs → AllByRecursion P ys → AllByRecursion P (xs ++ ys)
all_append P [] ys p q = q
all_append P (x ∷ xs) ys p q = (p.0, all_append P xs ys p.1 q)

close_one : IsOneLine (125 ∷ [])
close_one = record { inside = refl; kept = refl }

plan_one : (p : Plan) → AllByRecursion IsOneLine (plan_lines p)
plan_one Done = tt
plan_one (Word text name value quoted says rest) = (says.one, plan_one rest)
plan_one (Part text name heads inside rest) =
    (heads.one, all_append IsOneLine (plan_lines inside) ((125 ∷ []) ∷ plan_lines rest) (plan_one inside) (close_one, plan_one rest))

-- ---- Statements

step : (n : ℕ) (f : LineForm) (s : Statement) (texts : List (List ℕ)) → after_form (reported_number n) f ≡ (NoValue, s ∷ []) →
    (after_form (reported_number n) f).1 ++ statements_from (after_form (reported_number n) f).0 (n + 1) texts
    ≡ s ∷ statements_from NoValue (n + 1) texts
step n f s texts e = ap (λ found. found.1 ++ statements_from found.0 (n + 1) texts) e

said : (p : Plan) (n : ℕ) (more : List (List ℕ)) →
    statements_from NoValue n (plan_lines p ++ more) ≡ plan_statements n p ++ statements_from NoValue (n + plan_count p) more
said Done n more = ap (λ m. statements_from NoValue m more) {x = n} {y = n + 0} (omega arith)
said (Word text name value quoted says rest) n more =
    step n _ (Sets (reported_number n) name value quoted) (plan_lines rest ++ more)
    (ap (after_form (reported_number n)) (says.form (reported_number n)))
    ∙ ap (λ ss. Sets (reported_number n) name value quoted ∷ ss)
    (said rest (n + 1) more
    ∙ ap (λ m. plan_statements (n + 1) rest ++ statements_from NoValue m more)
    {x = n + 1 + plan_count rest} {y = n + suc (plan_count rest)} (omega arith))
said (Part text name heads inside rest) n more =
    let m = n + 1 + plan_count inside in
    let behind = plan_statements (m + 1) rest in
    step n _ (Opens (reported_number n) name) ((plan_lines inside ++ (125 ∷ []) ∷ plan_lines rest) ++ more)
    (ap (after_form (reported_number n)) (heads.form (reported_number n)))
    ∙ ap (λ ss. Opens (reported_number n) name ∷ ss)
    (ap (statements_from NoValue (n + 1)) (append_assoc (plan_lines inside) ((125 ∷ []) ∷ plan_lines rest) more)
    ∙ said inside (n + 1) ((125 ∷ []) ∷ (plan_lines rest ++ more))
    ∙ ap (λ ss. plan_statements (n + 1) inside ++ Closes (reported_number m) ∷ ss)
    (said rest (m + 1) more
    ∙ ap (λ k. behind ++ statements_from NoValue k more)
    {x = m + 1 + plan_count rest} {y = n + suc (plan_count inside + suc (plan_count rest))} (omega arith))
    ∙ sym (append_assoc (plan_statements (n + 1) inside) (Closes (reported_number m) ∷ behind)
    (statements_from NoValue (n + suc (plan_count inside + suc (plan_count rest))) more)))

-- a statement that is no string alone
abbrev IsWhole : Statement → Type 0
IsWhole (Adds line value) = ⊥
IsWhole _ = ⊤

joined_none : (s : Statement) (ss : List Statement) → IsWhole s → AllByRecursion IsWhole ss → joined_with s ss ≡ s ∷ ss
joined_none (Opens line name) ss w all = refl
joined_none (Closes line) ss w all = refl
joined_none (Adds line value) ss w all = absurd w
joined_none (Faulty line kind) ss w all = refl
joined_none (Sets line name value false) ss w all = refl
joined_none (Sets line name value true) [] w all = refl
joined_none (Sets line name value true) (Opens l n ∷ ss) w all = refl
joined_none (Sets line name value true) (Closes l ∷ ss) w all = refl
joined_none (Sets line name value true) (Sets l n v q ∷ ss) w all = refl
joined_none (Sets line name value true) (Adds l v ∷ ss) w all = absurd all.0
joined_none (Sets line name value true) (Faulty l k ∷ ss) w all = refl

joined_same : (ss : List Statement) → AllByRecursion IsWhole ss → joined ss ≡ ss
joined_same [] all = refl
joined_same (s ∷ ss) all = ap (joined_with s) (joined_same ss all.1) ∙ joined_none s ss all.0 all.1

plan_whole : (n : ℕ) (p : Plan) → AllByRecursion IsWhole (plan_statements n p)
plan_whole n Done = tt
plan_whole n (Word text name value quoted says rest) = (tt, plan_whole (n + 1) rest)
plan_whole n (Part text name heads inside rest) = (
  tt,
  all_append IsWhole (plan_statements (n + 1) inside) _ (plan_whole (n + 1) inside)
      (tt, plan_whole (n + 1 + plan_count inside + 1) rest),
)

plan_says : (p : Plan) → statements_of (plan_lines p) ≡ plan_statements 1 p
plan_says p =
    ap joined (ap (statements_from NoValue 1) (sym (append-nil (plan_lines p))) ∙ said p 1 [] ∙ append-nil (plan_statements 1 p))
    ∙ joined_same (plan_statements 1 p) (plan_whole 1 p)

-- ---- The tree

spelled : (n : ℕ) (p : Plan) → Spells (plan_items n p) (plan_statements n p)
spelled n Done = refl
spelled n (Word text name value quoted says rest) = (quoted, plan_statements (n + 1) rest, refl, spelled (n + 1) rest)
spelled n (Part text name heads inside rest) = (
  plan_statements (n + 1) inside,
  plan_statements (n + 1 + plan_count inside + 1) rest,
  reported_number (n + 1 + plan_count inside),
  refl,
  spelled (n + 1) inside,
  spelled (n + 1 + plan_count inside + 1) rest,
)

-- the text of a plan's lines is that of its items and no others
pub one_plan : (p : Plan) (file : Items) → Mdl (text_of (plan_lines p)) file → file ≡ plan_items 1 p
one_plan p file is =
    same_items file (plan_items 1 p) (plan_statements 1 p)
    (subst (Spells file) (ap statements_of (lines_of_text (plan_lines p) (plan_one p)) ∙ plan_says p) is.0)
    (spelled 1 p)
