-- Texts that are printed or wait, one after another.
use Rattle.std.proofs.Common.{◌≡◌, refl, sym, ◌∙◌, ap, ℕ, ◌+◌, List, [], ◌++◌, length, take, append_assoc, arith}
use Rattle.std.specs.Prelude.{Option, None, Some, Result, Ok, Err, OnOk, OnErr, min, true, false, is_err}
use Rattle.std.specs.Io.KnownBytes.{append_known}
use Rattle.std.proofs.lemmas.List.{append-nil, take-append-le, take_min}
use Rattle.std.proofs.Math.Seq.{take-append-add}
use Rattle.base_host.specs.Files.{PutsFront}
use Rattle.base_host.specs.Buffers.{PutsAllBut}
use Rattle.base_host.proofs.lemmas.Known.{append_known-twice}

-- ---- What is printed and what waits

append_known-none : (k : Option (List ℕ)) → append_known k [] ≡ k
append_known-none None = refl
append_known-none (Some xs) = ap (λ ys. Some ys) (append-nil xs)

-- nothing was taken
pub nothing : (waiting : List ℕ) (put : Option (List ℕ)) → PutsAllBut waiting (waiting ++ []) put put
nothing waiting put = record { gone = []; parts = append-nil waiting; put = sym (append_known-none put) }

-- one text, and then another
pub both_texts : (w w' w'' text more : List ℕ) (b b' b'' : Option (List ℕ)) → PutsAllBut w' (w ++ text) b b' →
    PutsAllBut w'' (w' ++ more) b' b'' →
    PutsAllBut w'' (w ++ (text ++ more)) b b''
both_texts w w' w'' text more b b' b'' first second = record {
  gone = first.gone ++ second.gone;
  parts =
      sym (append_assoc w text more) ∙ ap (λ t. t ++ more) first.parts ∙ append_assoc first.gone w' more
      ∙ ap (λ t. first.gone ++ t) second.parts
      ∙ sym (append_assoc first.gone second.gone w'');
  put = second.put ∙ ap (λ k. append_known k second.gone) first.put ∙ append_known-twice b first.gone second.gone;
}

-- one text, and then a front of another
pub front_of_more : (w w' text more : List ℕ) (b b' b'' : Option (List ℕ)) → PutsAllBut w' (w ++ text) b b' →
    PutsFront b' b'' (w' ++ more) →
    PutsFront b b'' (w ++ (text ++ more))
front_of_more w w' text more b b' b'' first second =
    let whole : w ++ (text ++ more) ≡ first.gone ++ (w' ++ more) =
    sym (append_assoc w text more) ∙ ap (λ t. t ++ more) first.parts ∙ append_assoc first.gone w' more in (
      length first.gone + second.0,
      second.1 ∙ ap (λ k. append_known k (take second.0 (w' ++ more))) first.put
          ∙ append_known-twice b first.gone (take second.0 (w' ++ more))
          ∙ ap (append_known b) (sym (ap (take (length first.gone + second.0)) whole ∙ take-append-add first.gone (w' ++ more) second.0)),
    )

-- what waited was printed
pub flushed : (w w' w'' text : List ℕ) (b b' b'' : Option (List ℕ)) → PutsAllBut w' (w ++ text) b b' →
    b'' ≡ append_known b' w' → w'' ≡ [] → PutsAllBut w'' (w ++ text) b b''
flushed w w' w'' text b b' b'' first put none = record {
  gone = first.gone ++ w';
  parts = first.parts ∙ sym (append-nil (first.gone ++ w')) ∙ ap (λ t. (first.gone ++ w') ++ t) (sym none);
  put = put ∙ ap (λ k. append_known k w') first.put ∙ append_known-twice b first.gone w';
}

-- a front of what waited was printed
pub cut : (w w' text : List ℕ) (b b' b'' : Option (List ℕ)) → PutsAllBut w' (w ++ text) b b' → PutsFront b' b'' w' →
    PutsFront b b'' (w ++ text)
cut w w' text b b' b'' first front = (
  length first.gone + front.0,
  front.1 ∙ ap (λ k. append_known k (take front.0 w')) first.put ∙ append_known-twice b first.gone (take front.0 w')
      ∙ ap (append_known b) (sym (ap (take (length first.gone + front.0)) first.parts ∙ take-append-add first.gone w' front.0)),
)

-- where nothing waits, the text was printed
pub all_put : (w w' text : List ℕ) (b b' : Option (List ℕ)) → w ≡ [] → w' ≡ [] → PutsAllBut w' (w ++ text) b b' → b' ≡ append_known b text
all_put w w' text b b' none none' puts =
    puts.put
    ∙ ap (append_known b) (sym (ap (λ v. v ++ text) (sym none) ∙ puts.parts ∙ ap (λ v. puts.gone ++ v) none'
    ∙ append-nil puts.gone))

-- ---- The same of a call's result

pub text_then : {E : Type 0} (result : Result (Unit {0}) E) (w w' w'' text more : List ℕ) (b b' b'' : Option (List ℕ)) →
    PutsAllBut w' (w ++ text) b b' →
    OnOk result (PutsAllBut w'' (w' ++ more) b' b'') → OnOk result (PutsAllBut w'' (w ++ (text ++ more)) b b'')
text_then (Ok value) w w' w'' text more b b' b'' first second = both_texts w w' w'' text more b b' b'' first second
text_then (Err fault) w w' w'' text more b b' b'' first second = tt

pub front_then : {E : Type 0} (result : Result (Unit {0}) E) (w w' text more : List ℕ) (b b' b'' : Option (List ℕ)) →
    PutsAllBut w' (w ++ text) b b' →
    OnErr result (PutsFront b' b'' (w' ++ more)) → OnErr result (PutsFront b b'' (w ++ (text ++ more)))
front_then (Ok value) w w' text more b b' b'' first second = tt
front_then (Err fault) w w' text more b b' b'' first second = front_of_more w w' text more b b' b'' first second

-- a front of a text is one of a longer text
pub front_longer : (w text more : List ℕ) (b b' : Option (List ℕ)) → PutsFront b b' (w ++ text) → PutsFront b b' (w ++ (text ++ more))
front_longer w text more b b' front =
    let size = min front.0 (length (w ++ text)) in (
      size,
      front.1
          ∙ ap (append_known b)
          (sym (ap (take size) (sym (append_assoc w text more)) ∙ take-append-le size (w ++ text) more (omega arith)
          ∙ take_min front.0 (w ++ text))),
    )

pub front_of_error : {T E : Type 0} (result : Result T E) (w text more : List ℕ) (b b' : Option (List ℕ)) →
    PutsFront b b' (w ++ text) → OnErr result (PutsFront b b' (w ++ (text ++ more)))
front_of_error (Ok value) w text more b b' front = tt
front_of_error (Err fault) w text more b b' front = front_longer w text more b b' front

-- ---- A result that was asked whether it is an error

pub if_err : {T E P : Type 0} (result : Result T E) → true ≡ is_err result → OnErr result P → P
if_err (Ok value) is p = cc
if_err (Err fault) is p = p

pub if_ok : {T E P : Type 0} (result : Result T E) → false ≡ is_err result → OnOk result P → P
if_ok (Ok value) is p = p
if_ok (Err fault) is p = cc
