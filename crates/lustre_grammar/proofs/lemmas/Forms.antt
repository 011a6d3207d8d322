-- The spelling of a list of a form is that of the grammar.
use Rattle.std.proofs.Common.{◌≡◌, refl, ℕ, suc, List, [], ◌∷◌, Option, Some, None, option_and_then, codes}
use Rattle.c_grammar.specs.Tokens.{Token}
use Rattle.c_grammar.specs.Grammar.{Spelling, ◌⨾◌, nothing, word, all_spelling}
use Rattle.c_grammar.proofs.lemmas.PrefixLaws.{seq-parts}
use Rattle.lustre_grammar.specs.Written.{WrittenDeclared}
use Rattle.lustre_grammar.specs.Grammar.{each_after, parted_by, declared_spelling, other_spelling, others_spelling}
use Rattle.lustre_grammar.specs.Parsing.{Form, others_form, lead_of}
use Rattle.c_grammar.proofs.lemmas.Shrinking.{Shrinks, word-shrinks, nothing-shrinks}

-- a mark, if there is one, and what ends a list
abbrev pub mark_spelling : Option (List ℕ) → Spelling
mark_spelling None = nothing
mark_spelling (Some text) = word text

abbrev pub at_end : Spelling
at_end [] = Some []
at_end (t ∷ tokens) = None

abbrev pub close_spelling : Option (List ℕ) → Spelling
close_spelling None = at_end
close_spelling (Some text) = word text

-- the elements of a list after so many, up to its end
abbrev pub formed : {X : Type 0} → Form → (X → Spelling) → ℕ → List X → Spelling
formed form spelling count [] = close_spelling form.close
formed form spelling count (x ∷ xs) =
    mark_spelling (lead_of form count) ⨾ spelling x ⨾ mark_spelling form.after ⨾ formed form spelling (suc count) xs

pub mark-shrinks : (mark : Option (List ℕ)) → Shrinks (mark_spelling mark)
mark-shrinks None = nothing-shrinks
mark-shrinks (Some text) = word-shrinks text

-- what is spelled after two parts, and after four
pub then-spelled : (a b c : Spelling) (start tokens : List Token) → (a ⨾ b) start ≡ Some tokens → (a ⨾ b ⨾ c) start ≡ c tokens
then-spelled a b c start tokens h = let p : _ = seq-parts a b start tokens h in rw (p.1, p.2) refl

pub fourth-spelled : (a b c d e : Spelling) (start tokens : List Token) → (a ⨾ b ⨾ c ⨾ d) start ≡ Some tokens →
    (a ⨾ b ⨾ c ⨾ d ⨾ e) start ≡ e tokens
fourth-spelled a b c d e start tokens h =
    let p : _ = seq-parts a (b ⨾ c ⨾ d) start tokens h in
    let q : _ = seq-parts b (c ⨾ d) p.0 tokens p.2 in
    let r : _ = seq-parts c d q.0 tokens q.2 in
    rw (p.1, q.1, r.1, r.2) refl

-- the end of a list belongs to its last part, or to all of them
module _ (a b c d e f : Spelling) (same : (tokens : List Token) → f tokens ≡ (d ⨾ e) tokens) where
  at_third : (o : Option (List Token)) → option_and_then f o ≡ option_and_then e (option_and_then d o)
  at_third (Some tokens) = same tokens
  at_third None = refl

  at_second : (o : Option (List Token)) → option_and_then (c ⨾ f) o ≡ option_and_then e (option_and_then (c ⨾ d) o)
  at_second (Some tokens) = at_third (c tokens)
  at_second None = refl

  at_first : (o : Option (List Token)) → option_and_then (b ⨾ c ⨾ f) o ≡ option_and_then e (option_and_then (b ⨾ c ⨾ d) o)
  at_first (Some tokens) = at_second (b tokens)
  at_first None = refl

  regrouped : (tokens : List Token) → (a ⨾ b ⨾ c ⨾ f) tokens ≡ ((a ⨾ b ⨾ c ⨾ d) ⨾ e) tokens
  regrouped tokens = at_first (a tokens)

  second-pair : (o : Option (List Token)) →
      option_and_then (c ⨾ f) o ≡ option_and_then e (option_and_then d (option_and_then c o))
  second-pair (Some tokens) = at_third (c tokens)
  second-pair None = refl

  first-pair : (o : Option (List Token)) → option_and_then (b ⨾ c ⨾ f) o ≡ option_and_then e (option_and_then ((b ⨾ c) ⨾ d) o)
  first-pair (Some tokens) = second-pair (b tokens)
  first-pair None = refl

  paired : (tokens : List Token) → (a ⨾ b ⨾ c ⨾ f) tokens ≡ ((a ⨾ (b ⨾ c) ⨾ d) ⨾ e) tokens
  paired tokens = first-pair (a tokens)

-- a mark is between each two
abbrev pub marked : Option (List ℕ) → (mark close : List ℕ) → Form
marked first mark close = record { first = first; later = Some mark; after = None; close = Some close }

pub each-formed : {X : Type 0} (first : Option (List ℕ)) (mark close : List ℕ) (spelling : X → Spelling) (count : ℕ)
    (xs : List X) (tokens : List Token) →
    formed (marked first mark close) spelling (suc count) xs tokens ≡ (each_after mark spelling xs ⨾ word close) tokens
each-formed first mark close spelling count [] tokens = refl
each-formed first mark close spelling count (x ∷ xs) tokens =
    regrouped (word mark) (spelling x) nothing (each_after mark spelling xs) (word close)
    (formed (marked first mark close) spelling (suc (suc count)) xs) (each-formed first mark close spelling (suc count) xs) tokens

pub parted-formed : {X : Type 0} (mark close : List ℕ) (spelling : X → Spelling) (xs : List X) (tokens : List Token) →
    formed (marked None mark close) spelling 0 xs tokens ≡ (parted_by mark spelling xs ⨾ word close) tokens
parted-formed mark close spelling [] tokens = refl
parted-formed mark close spelling (x ∷ xs) tokens =
    regrouped nothing (spelling x) nothing (each_after mark spelling xs) (word close)
    (formed (marked None mark close) spelling 1 xs) (each-formed None mark close spelling 0 xs) tokens

pub also-formed : {X : Type 0} (mark close : List ℕ) (spelling : X → Spelling) (xs : List X) (tokens : List Token) →
    formed (marked (Some mark) mark close) spelling 0 xs tokens ≡ (each_after mark spelling xs ⨾ word close) tokens
also-formed mark close spelling [] tokens = refl
also-formed mark close spelling (x ∷ xs) tokens =
    regrouped (word mark) (spelling x) nothing (each_after mark spelling xs) (word close)
    (formed (marked (Some mark) mark close) spelling 1 xs) (each-formed (Some mark) mark close spelling 0 xs) tokens

-- nothing is between them
abbrev pub plain : Option (List ℕ) → Form
plain close = record { first = None; later = None; after = None; close = close }

later-formed : {X : Type 0} (close : Option (List ℕ)) (spelling : X → Spelling) (count : ℕ) (xs : List X) (tokens : List Token) →
    formed (plain close) spelling (suc count) xs tokens ≡ (all_spelling spelling xs ⨾ close_spelling close) tokens
later-formed close spelling count [] tokens = refl
later-formed close spelling count (x ∷ xs) tokens =
    regrouped nothing (spelling x) nothing (all_spelling spelling xs) (close_spelling close)
    (formed (plain close) spelling (suc (suc count)) xs) (later-formed close spelling (suc count) xs) tokens

pub all-formed : {X : Type 0} (close : Option (List ℕ)) (spelling : X → Spelling) (xs : List X) (tokens : List Token) →
    formed (plain close) spelling 0 xs tokens ≡ (all_spelling spelling xs ⨾ close_spelling close) tokens
all-formed close spelling [] tokens = refl
all-formed close spelling (x ∷ xs) tokens =
    regrouped nothing (spelling x) nothing (all_spelling spelling xs) (close_spelling close)
    (formed (plain close) spelling 1 xs) (later-formed close spelling 0 xs) tokens

-- further names
later_others-formed : (count : ℕ) (ds : List WrittenDeclared) (tokens : List Token) →
    formed others_form declared_spelling (suc count) ds tokens ≡ (all_spelling other_spelling ds ⨾ word (codes "let")) tokens
later_others-formed count [] tokens = refl
later_others-formed count (d ∷ ds) tokens =
    paired nothing (declared_spelling d) (word (codes ";")) (all_spelling other_spelling ds) (word (codes "let"))
    (formed others_form declared_spelling (suc (suc count)) ds) (later_others-formed (suc count) ds) tokens

pub others-formed : (ds : List WrittenDeclared) (tokens : List Token) →
    formed others_form declared_spelling 0 ds tokens ≡ (others_spelling ds ⨾ word (codes "let")) tokens
others-formed [] tokens = refl
others-formed (d ∷ ds) tokens =
    paired (word (codes "var")) (declared_spelling d) (word (codes ";")) (all_spelling other_spelling ds)
    (word (codes "let")) (formed others_form declared_spelling 1 ds) (later_others-formed 0 ds) tokens
