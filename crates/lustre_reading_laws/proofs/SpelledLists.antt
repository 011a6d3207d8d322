-- What the grammar spells is parsed, where it is within the limit, and has an error where it isn't: words and lists.
use Rattle.std.proofs.Common.{◌≡◌, refl, sym, ◌∙◌, ap, subst, ℕ, zero, suc, ◌+◌, ◌<◌, ◌≤◌, List, [], ◌∷◌, drop, length, Bool, true, false, ◌&&◌, if◌then◌else◌, Option, Some, None, Ok, Err, arith}
use Rattle.std.specs.List.{list_all}
use Rattle.std.proofs.lemmas.Slice.Eq.{bytes_eq-Decides}
use Rattle.base_core.specs.Results.{◌>>=◌}
use Rattle.c_syntax.specs.declared.fault.CFault.{CFault}
use Rattle.c_grammar.specs.Tokens.{Token}
use Rattle.c_grammar.specs.Grammar.{Spelling, ◌⨾◌, never, word}
use Rattle.c_grammar.specs.Parsing.{Parsed, one_more, after_step, many, parse_word}
use Rattle.c_grammar.proofs.lemmas.PrefixLaws.{some_same, seq-parts}
use Rattle.c_grammar.proofs.lemmas.Shrinking.{Takes}
use Rattle.c_rules.proofs.lemmas.SpelledWords.{LineFront, line-front, word-rest, word-parsed}
use Rattle.lustre_syntax.specs.Names.{is_lustre_name}
use Rattle.lustre_grammar.specs.Written.{Word}
use Rattle.lustre_grammar.specs.Grammar.{name_word, read_word}
use Rattle.lustre_grammar.specs.Parsing.{Form, lead_of, is_closed, parse_mark, list_step, parse_list, parse_name, word_at}
use Rattle.lustre_grammar.proofs.lemmas.Forms.{mark_spelling, close_spelling, formed, mark-shrinks}

-- what is parsed of something: the thing and what is left where it is within the limit, and an error where it isn't
pub record IsRead {X : Type 0} (within : Bool) (x : X) (rest : List Token) (parsed : Parsed X) : Type 0 where
  pub is : within ≡ true → parsed ≡ Ok (x, rest)
  pub isnt : within ≡ false → (fault : CFault) × (parsed ≡ Err fault)

module _ {X : Type 0} where
  -- the same, parsed otherwise
  pub moved : {b : Bool} {x : X} {rest : List Token} {parsed other : Parsed X} → other ≡ parsed → IsRead b x rest parsed →
      IsRead b x rest other
  moved {b} {x} {rest} {parsed} {other} e h = subst (λ r. IsRead b x rest r) (sym e) h

  -- something that has no limit
  pub surely : {x : X} {rest : List Token} {parsed : Parsed X} → parsed ≡ Ok (x, rest) → IsRead true x rest parsed
  surely e = record { is = λ h. e; isnt = λ h. cc }

  -- the same limit, said otherwise
  pub likewise : {b c : Bool} {x : X} {rest : List Token} {parsed : Parsed X} → b ≡ c → IsRead b x rest parsed → IsRead c x rest parsed
  likewise {b} {c} {x} {rest} {parsed} e h = subst (λ w. IsRead w x rest parsed) e h

module _ {X Y : Type 0} where
  -- one thing and then another
  pub read-then : {b c : Bool} {x : X} {mid : List Token} {y : Y} {rest : List Token} {parsed : Parsed X}
      (go : X × List Token → Parsed Y) → IsRead b x mid parsed → IsRead c y rest (go (x, mid)) →
      IsRead (b && c) y rest (parsed >>= go)
  read-then {b} {c} {x} {mid} {y} {rest} {parsed} go first later = by b refl
    where
      by : (d : Bool) → b ≡ d → IsRead (d && c) y rest (parsed >>= go)
      by true e = subst (λ r. IsRead c y rest (r >>= go)) (sym (first.is e)) later
      by false e = let f : _ = first.isnt e in record { is = λ h. cc; isnt = λ h. (f.0, ap (λ r. r >>= go) f.1) }

  -- the same, where the first has no limit
  pub after : {c : Bool} {x : X} {mid : List Token} {y : Y} {rest : List Token} {parsed : Parsed X}
      (go : X × List Token → Parsed Y) → parsed ≡ Ok (x, mid) → IsRead c y rest (go (x, mid)) → IsRead c y rest (parsed >>= go)
  after {c} {x} {mid} {y} {rest} {parsed} go e later = subst (λ r. IsRead c y rest (r >>= go)) (sym e) later

  -- what is made of one thing
  pub read-as : {b : Bool} {x : X} {rest : List Token} {parsed : Parsed X} (f : X → Y) → IsRead b x rest parsed →
      IsRead b (f x) rest (parsed >>= λ a. Ok (f a.0, a.1))
  read-as {b} {x} {rest} {parsed} f h = record {
    is = λ e. ap (λ r. r >>= λ a. Ok (f a.0, a.1)) (h.is e);
    isnt = λ e. let g : _ = h.isnt e in (g.0, ap (λ r. r >>= λ a. Ok (f a.0, a.1)) g.1);
  }

-- a name: its token
pub record NameFront (text : List ℕ) (tokens rest : List Token) : Type 0 where
  pub token : Token
  pub list : tokens ≡ token ∷ rest
  pub same : token.text ≡ text
  pub lawful : is_lustre_name token.text ≡ true

pub name-front : (text : List ℕ) (tokens rest : List Token) → name_word text tokens ≡ Some rest → NameFront text tokens rest
name-front text tokens rest h = by (is_lustre_name text) refl h
  where
    by : (b : Bool) → is_lustre_name text ≡ b → (if b then word text else never) tokens ≡ Some rest → NameFront text tokens rest
    by false e k = cc
    by true e k = at tokens k
      where
        at : (ts : List Token) → word text ts ≡ Some rest → NameFront text ts rest
        at [] w = cc
        at (t ∷ ts) w =
            let r : _ = word-rest text t ts rest w in
            record { token = t; list = ap (λ us. t ∷ us) r.1; same = r.0; lawful = ap is_lustre_name r.0 ∙ e }

pub record WordFront (w : Word) (tokens rest : List Token) : Type 0 where
  pub token : Token
  pub list : tokens ≡ token ∷ rest
  pub same : word_at token ≡ w
  pub lawful : is_lustre_name token.text ≡ true

pub word-there : (w : Word) (tokens rest : List Token) → read_word w tokens ≡ Some rest → WordFront w tokens rest
word-there w tokens rest h =
    let l : LineFront w.line (name_word w.text) tokens rest = line-front w.line (name_word w.text) tokens rest h in
    let n : NameFront w.text (l.token ∷ l.later) rest = name-front w.text (l.token ∷ l.later) rest l.inner in
    let first : l.token ≡ n.token = same-first l.token n.token l.later rest n.list in
    record {
      token = n.token;
      list = l.list ∙ n.list;
      same = λ i. record { line = (ap (λ t. t.line) (sym first) ∙ l.is) i; text = n.same i };
      lawful = n.lawful;
    }
  where
    same-first : (t u : Token) (ts us : List Token) → t ∷ ts ≡ u ∷ us → t ≡ u
    same-first t u ts us e = cc

module _ (last : ℕ) where
  pub name-parsed : (w : Word) (tokens rest : List Token) → read_word w tokens ≡ Some rest → parse_name last tokens ≡ Ok (w, rest)
  name-parsed w tokens rest h =
      let f : WordFront w tokens rest = word-there w tokens rest h in
      ap (parse_name last) f.list ∙ rw f.lawful (ap (λ x. Ok (x, rest)) f.same)

  pub text-parsed : (text : List ℕ) (tokens rest : List Token) → name_word text tokens ≡ Some rest →
      (t : Token) × (parse_name last tokens ≡ Ok (word_at t, rest)) × (t.text ≡ text)
  text-parsed text tokens rest h =
      let f : NameFront text tokens rest = name-front text tokens rest h in
      (f.token, ap (parse_name last) f.list ∙ rw f.lawful refl, f.same)

  mark-parsed : (mark : Option (List ℕ)) (tokens rest : List Token) → mark_spelling mark tokens ≡ Some rest →
      parse_mark last mark tokens ≡ Ok (tt, rest)
  mark-parsed None tokens rest h = ap (λ ts. Ok (tt, ts)) (some_same tokens rest h)
  mark-parsed (Some text) tokens rest h = word-parsed last text tokens rest h

  -- what ends in a word
  pub ended : {X Y : Type 0} {b : Bool} {x : X} {mid rest : List Token} {parsed : Parsed X} (text : List ℕ) (f : X → Y) →
      IsRead b x mid parsed → word text mid ≡ Some rest →
      IsRead b (f x) rest (parsed >>= λ a. parse_word last text a.1 >>= λ e. Ok (f a.0, e.1))
  ended {X} {Y} {b} {x} {mid} {rest} {parsed} text f h end = record {
    is = λ e. ap (λ r. r >>= λ a. parse_word last text a.1 >>= λ e. Ok (f a.0, e.1)) (h.is e)
        ∙ ap (λ r. r >>= λ e. Ok (f x, e.1)) (word-parsed last text mid rest end);
    isnt = λ e. let g : _ = h.isnt e in (g.0, ap (λ r. r >>= λ a. parse_word last text a.1 >>= λ e. Ok (f a.0, e.1)) g.1);
  }

  -- what ends a list
  record Closes (close : Option (List ℕ)) (tokens rest : List Token) : Type 0 where
    closed : is_closed close tokens ≡ true
    left : drop 1 tokens ≡ rest

  closes : (close : Option (List ℕ)) (tokens rest : List Token) → close_spelling close tokens ≡ Some rest → Closes close tokens rest
  closes None [] rest h = record { closed = refl; left = some_same [] rest h }
  closes None (t ∷ tokens) rest h = cc
  closes (Some text) [] rest h = cc
  closes (Some text) (t ∷ tokens) rest h =
      let r : _ = word-rest text t tokens rest h in
      record { closed = (bytes_eq-Decides t.text text).1 r.0; left = r.1 }

  -- a list whose elements are read so, none of which begins as the list ends
  module _ {X : Type 0} (form : Form) (element : List Token → Parsed X) (spelling : X → Spelling) (within : X → Bool)
      (takes : (x : X) → Takes (spelling x))
      (one : (x : X) (tokens rest : List Token) → spelling x tokens ≡ Some rest → IsRead (within x) x rest (element tokens))
      (begins : (count : ℕ) (x : X) (tokens rest : List Token) →
      (mark_spelling (lead_of form count) ⨾ spelling x) tokens ≡ Some rest → is_closed form.close tokens ≡ false) where
    abbrev Rest : (most count : ℕ) → List Token → Parsed (List X)
    Rest most count tokens = many (list_step last form element) most count tokens

    -- what is made of an element, of what is after it, and of the rest
    abbrev behind_element : (most count : ℕ) → Parsed X → Parsed (List X)
    behind_element most count parsed =
        (parsed >>= λ a. parse_mark last form.after a.1 >>= λ after. Ok (one_more a.0 after.1)) >>= after_step (Rest most) count

    list-ends : (most count : ℕ) (tokens rest : List Token) → close_spelling form.close tokens ≡ Some rest →
        Rest (suc most) count tokens ≡ Ok ([], rest)
    list-ends most count tokens rest h =
        let c : Closes form.close tokens rest = closes form.close tokens rest h in
        rw c.closed (ap (λ ts. Ok ([], ts)) c.left)

    -- one element, and how the list goes on after it
    list-more : (most count : ℕ) (x : X) (xs : List X) (tokens opened ended behind rest : List Token) →
        is_closed form.close tokens ≡ false → mark_spelling (lead_of form count) tokens ≡ Some opened →
        IsRead (within x) x ended (element opened) → mark_spelling form.after ended ≡ Some behind →
        IsRead (list_all within xs) xs rest (Rest most (count + 1) behind) →
        IsRead (within x && list_all within xs) (x ∷ xs) rest (Rest (suc most) count tokens)
    list-more most count x xs tokens opened ended behind rest is_open lead read mark later = by (within x) refl
      where
        begun : Rest (suc most) count tokens ≡ behind_element most count (element opened)
        begun = rw (is_open, mark-parsed (lead_of form count) tokens opened lead) refl

        ends : behind_element most count (Ok (x, ended)) ≡ (Rest most (count + 1) behind >>= λ ys. Ok (x ∷ ys.0, ys.1))
        ends = rw (mark-parsed form.after ended behind mark) refl

        by : (b : Bool) → within x ≡ b → IsRead (b && list_all within xs) (x ∷ xs) rest (Rest (suc most) count tokens)
        by true e =
            subst (λ r. IsRead (list_all within xs) (x ∷ xs) rest r)
            (sym (begun ∙ ap (behind_element most count) (read.is e) ∙ ends)) (read-as (λ ys. x ∷ ys) later)
        by false e =
            let f : _ = read.isnt e in
            record { is = λ h. cc; isnt = λ h. (f.0, begun ∙ ap (behind_element most count) f.1) }

    pub list-read : (xs : List X) (most count : ℕ) (tokens rest : List Token) →
        formed form spelling count xs tokens ≡ Some rest → length tokens < most →
        IsRead (list_all within xs) xs rest (Rest most count tokens)
    list-read xs zero count tokens rest h enough = absurd (omega (arith, enough))
    list-read [] (suc most) count tokens rest h enough = surely (list-ends most count tokens rest h)
    list-read (x ∷ xs) (suc most) count tokens rest h enough =
        let later : Spelling = formed form spelling (suc count) xs in
        let p : _ = seq-parts (mark_spelling (lead_of form count)) (spelling x ⨾ mark_spelling form.after ⨾ later) tokens rest h in
        let q : _ = seq-parts (spelling x) (mark_spelling form.after ⨾ later) p.0 rest p.2 in
        let r : _ = seq-parts (mark_spelling form.after) later q.0 rest q.2 in
        let a : length p.0 ≤ length tokens = (mark-shrinks (lead_of form count)).by tokens p.0 p.1 in
        let b : length q.0 < length p.0 = (takes x).by p.0 q.0 q.1 in
        let c : length r.0 ≤ length q.0 = (mark-shrinks form.after).by q.0 r.0 r.1 in
        let plus : suc count ≡ count + 1 = omega arith in
        list-more most count x xs tokens p.0 q.0 r.0 rest
        (begins count x tokens q.0 (rw (p.1, q.1) refl)) p.1 (one x p.0 q.0 q.1) r.1
        (subst (λ n. IsRead (list_all within xs) xs rest (Rest most n r.0)) plus
        (list-read xs most (suc count) r.0 rest r.2 (omega (arith, enough))))

    pub whole-read : (xs : List X) (tokens rest : List Token) → formed form spelling 0 xs tokens ≡ Some rest →
        IsRead (list_all within xs) xs rest (parse_list last form element tokens)
    whole-read xs tokens rest h = list-read xs (suc (length tokens)) 0 tokens rest h (omega arith)
