-- What the parse of a list answers is what the needs say.
use Rattle.std.proofs.Common.{◌≡◌, refl, subst, ℕ, zero, suc, ◌+◌, ◌<◌, ◌≤◌, List, [], ◌∷◌, ◌++◌, drop, length, Bool, true, false, Option, Some, None, arith}
use Rattle.c_syntax.specs.declared.fault.CFault.{CFault}
use Rattle.c_grammar.specs.Tokens.{Token}
use Rattle.c_grammar.specs.Grammar.{Spelling, ◌⨾◌, nothing, word}
use Rattle.c_grammar.specs.Parsing.{Parsed, Step, one_more, the_end, after_step, many}
use Rattle.c_grammar.proofs.lemmas.Shrinking.{Shrinks, word-shrinks, nothing-shrinks, Takes}
use Rattle.lustre_grammar.specs.Prefix.{Need, text_need, token_fault}
use Rattle.lustre_grammar.specs.Parsing.{Form, lead_of, is_closed, parse_mark, list_step, list_step_by, parse_list}
use Rattle.lustre_grammar.proofs.lemmas.Forms.{mark_spelling, at_end, close_spelling, formed, mark-shrinks}
use Rattle.lustre_grammar.proofs.Answering.{Answers, Reads, chain}
use Rattle.lustre_grammar.proofs.Words.{word-reads}

-- how many there are then
abbrev pub counted : {X : Type 0} → ℕ → List X → ℕ
counted count [] = count
counted count (x ∷ xs) = counted (suc count) xs

abbrev pub mark_needs : Option (List ℕ) → List Need
mark_needs None = []
mark_needs (Some text) = text_need text ∷ []

pub mark-reads : (last : ℕ) (mark : Option (List ℕ)) (now : Option CFault) (more : List Need) (tokens : List Token) →
    now ≡ token_fault (mark_needs mark ++ more) last tokens →
    Answers now (Reads last now (λ _. mark_spelling mark) more tokens) (parse_mark last mark tokens)
mark-reads last None now more tokens h = record { is = record { spelled = refl; goes = h } }
mark-reads last (Some text) now more tokens h = word-reads last text now more tokens h

closed-spelled : (close : Option (List ℕ)) (tokens : List Token) → is_closed close tokens ≡ true →
    close_spelling close tokens ≡ Some (drop 1 tokens)
closed-spelled None [] e = refl
closed-spelled None (t ∷ tokens) e = cc
closed-spelled (Some text) [] e = cc
closed-spelled (Some text) (t ∷ tokens) e = rw e refl

module _ {X : Type 0} (last : ℕ) (form : Form) (spelling : X → Spelling) (stack ended : ℕ → List Need)
    (starts : Option CFault → ℕ → List Token → Type 0) where
  -- the tokens from which an element is read, after what is before it
  pub record Begun (now : Option CFault) (count : ℕ) (tokens : List Token) (x : Unit {0} × List Token) : Type 0 where
    pub spelled : mark_spelling (lead_of form count) tokens ≡ Some x.1
    pub start : starts now count x.1

  -- what the needs say of a list of this form after so many elements; `starts` says it of an element
  pub record FormLaw (element : List Token → Parsed X) : Type 0 where
    pub takes : (x : X) → Takes (spelling x)
    pub ends : (now : Option CFault) (count : ℕ) (tokens : List Token) → is_closed form.close tokens ≡ true →
        now ≡ token_fault (stack count) last tokens → now ≡ token_fault (ended count) last (drop 1 tokens)
    pub begins : (now : Option CFault) (count : ℕ) (tokens : List Token) → is_closed form.close tokens ≡ false →
        now ≡ token_fault (stack count) last tokens →
        Answers now (Begun now count tokens) (parse_mark last (lead_of form count) tokens)
    pub reads : (now : Option CFault) (count : ℕ) (tokens : List Token) → starts now count tokens →
        Answers now (Reads last now spelling (mark_needs form.after ++ stack (suc count)) tokens) (element tokens)

  -- one more element
  record Further (now : Option CFault) (count : ℕ) (tokens : List Token) (x : X) (rest : List Token) : Type 0 where
    grows : (xs : List X) (end : List Token) → formed form spelling (suc count) xs rest ≡ Some end →
        formed form spelling count (x ∷ xs) tokens ≡ Some end
    shorter : length rest < length tokens
    goes : now ≡ token_fault (stack (suc count)) last rest

  -- the end
  record Ends (now : Option CFault) (count : ℕ) (tokens rest : List Token) : Type 0 where
    none : formed form spelling count [] tokens ≡ Some rest
    goes : now ≡ token_fault (ended count) last rest

  abbrev Stepped : Option CFault → ℕ → List Token → Step X → Type 0
  Stepped now count tokens (one_more x rest) = Further now count tokens x rest
  Stepped now count tokens (the_end rest) = Ends now count tokens rest

  -- the elements of a list
  pub record ReadsList (now : Option CFault) (count : ℕ) (tokens : List Token) (x : List X × List Token) : Type 0 where
    pub spelled : formed form spelling count x.0 tokens ≡ Some x.1
    pub goes : now ≡ token_fault (ended (counted count x.0)) last x.1

  module _ (element : List Token → Parsed X) (law : FormLaw element) where
    step-reads : (now : Option CFault) (count : ℕ) (tokens : List Token) → now ≡ token_fault (stack count) last tokens →
        Answers now (Stepped now count tokens) (list_step last form element count tokens)
    step-reads now count tokens h = by (is_closed form.close tokens) refl
      where
        by : (b : Bool) → is_closed form.close tokens ≡ b →
            Answers now (Stepped now count tokens) (list_step_by last form element count tokens b)
        by true e = record { is = record { none = closed-spelled form.close tokens e; goes = law.ends now count tokens e h } }
        by false e =
            chain _ _ (law.begins now count tokens e h) (λ lead rl.
            chain _ _ (law.reads now count lead.1 rl.start) (λ x rx.
            chain _ _ (mark-reads last form.after now (stack (suc count)) x.1 rx.goes) (λ after ra.
            let one : length lead.1 ≤ length tokens = (mark-shrinks (lead_of form count)).by tokens lead.1 rl.spelled in
            let two : length x.1 < length lead.1 = (law.takes x.0).by lead.1 x.1 rx.spelled in
            let three : length after.1 ≤ length x.1 = (mark-shrinks form.after).by x.1 after.1 ra.spelled in
            record {
              is = record {
                grows = λ xs end later. rw (rl.spelled, rx.spelled, ra.spelled) later;
                shorter = omega arith;
                goes = ra.goes;
              };
            })))

    many-reads : (fuel count : ℕ) (now : Option CFault) (tokens : List Token) → length tokens < fuel →
        now ≡ token_fault (stack count) last tokens →
        Answers now (ReadsList now count tokens) (many (list_step last form element) fuel count tokens)
    many-reads zero count now tokens enough h = absurd (omega (arith, enough))
    many-reads (suc fuel) count now tokens enough h =
        chain _ _ (step-reads now count tokens h)
        (by (λ rest shorter k. subst (λ n. Answers now (ReadsList now (suc count) rest) (many (list_step last form element) fuel n rest))
        next (many-reads fuel (suc count) now rest (omega (arith, enough, shorter)) k)))
      where
        next : suc count ≡ count + 1
        next = omega arith

        by : ((rest : List Token) → length rest < length tokens → now ≡ token_fault (stack (suc count)) last rest →
            Answers now (ReadsList now (suc count) rest) (many (list_step last form element) fuel (count + 1) rest)) →
            (s : Step X) → Stepped now count tokens s →
            Answers now (ReadsList now count tokens) (after_step (many (list_step last form element) fuel) count s)
        by later (the_end rest) e = record { is = record { spelled = e.none; goes = e.goes } }
        by later (one_more x rest) e =
            chain _ _ (later rest e.shorter e.goes)
            (λ xs r. record { is = record { spelled = e.grows xs.0 xs.1 r.spelled; goes = r.goes } })

    pub list-reads : (now : Option CFault) (tokens : List Token) → now ≡ token_fault (stack 0) last tokens →
        Answers now (ReadsList now 0 tokens) (parse_list last form element tokens)
    list-reads now tokens h = many-reads (suc (length tokens)) 0 now tokens (omega arith) h
