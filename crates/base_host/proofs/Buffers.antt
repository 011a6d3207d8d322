-- Bytes that wait, and the room that they are in.
use Rattle.std.proofs.Common.{◌≡◌, ◌≤◌, ℕ, ◌+◌, ◌-◌, min, List, [], ◌++◌, length, take, drop, refl, ap, sym, ◌∙◌, append_assoc, arith}
use Rattle.std.specs.Prelude.{Option, Some, None, Result, Ok, Err, OnOk, OnErr}
use Rattle.std.specs.Io.KnownBytes.{append_known}
use Rattle.std.proofs.lemmas.List.{append-nil, length-take-le, drop-take, take-append-le, drop-append-le, drop-drop, take-take, take_min}
use Rattle.std.proofs.Math.Seq.{take-append-add}
use Rattle.base_host.specs.Files.{PutsFront}
use Rattle.base_host.specs.Buffers.{PutsAllBut}
use Rattle.base_host.proofs.lemmas.Known.{append_known-twice}

pub append_known-none : (k : Option (List ℕ)) → append_known k [] ≡ k
append_known-none None = refl
append_known-none (Some xs) = ap (λ ys. Some ys) (append-nil xs)

-- nothing was written
pub all_held : (text held : List ℕ) (k : Option (List ℕ)) → held ≡ text → PutsAllBut held text k k
all_held text held k is = record { gone = []; parts = sym is; put = sym (append_known-none k) }

-- all was written
pub none_held : (text held : List ℕ) (old new : Option (List ℕ)) → held ≡ [] → new ≡ append_known old text → PutsAllBut held text old new
none_held text held old new none put = record {
  gone = text;
  parts = sym (append-nil text) ∙ ap (λ h. text ++ h) (sym none);
  put = put;
}

-- what was held before was written, and then all of a text but what is held now
pub put_before : (held before text : List ℕ) (old now new : Option (List ℕ)) → now ≡ append_known old before →
    PutsAllBut held text now new → PutsAllBut held (before ++ text) old new
put_before held before text old now new is then_text = record {
  gone = before ++ then_text.gone;
  parts = ap (λ t. before ++ t) then_text.parts ∙ sym (append_assoc before then_text.gone held);
  put = then_text.put ∙ ap (λ k. append_known k then_text.gone) is ∙ append_known-twice old before then_text.gone;
}

-- a front of what was held was written
pub front_of_held : (held text : List ℕ) (old new : Option (List ℕ)) → PutsFront old new held → PutsFront old new (held ++ text)
front_of_held held text old new front = (
  min front.0 (length held),
  front.1 ∙ ap (append_known old) (sym (take-append-le (min front.0 (length held)) held text (omega arith) ∙ take_min front.0 held)),
)

-- what was held was written, and a front of more
pub front_behind : (before text : List ℕ) (old now new : Option (List ℕ)) → now ≡ append_known old before →
    PutsFront now new text → PutsFront old new (before ++ text)
front_behind before text old now new is front = (
  length before + front.0,
  front.1 ∙ ap (λ k. append_known k (take front.0 text)) is ∙ append_known-twice old before (take front.0 text)
      ∙ ap (append_known old) (sym (take-append-add before text front.0)),
)

-- ---- A room, with bytes from a start to an end

-- the same bytes up to the end are the same bytes from the start on
same_front : (new room : List ℕ) (start end : ℕ) → start ≤ end → take end new ≡ take end room →
    take (end - start) (drop start new) ≡ take (end - start) (drop start room)
same_front new room start end ordered same =
    let sum : start + (end - start) ≡ end = omega arith in
    let front : (xs : List ℕ) → take (end - start) (drop start xs) ≡ drop start (take end xs) =
    λ xs. sym (drop-take start (end - start) xs) ∙ ap (λ n. drop start (take n xs)) sum in
    front new ∙ ap (drop start) same ∙ sym (front room)

-- where the room is written from its end on, and cut no sooner, the bytes before stay
pub kept_before : (room into behind more : List ℕ) (len start end : ℕ) → start ≤ end → end ≤ length room → end ≤ len →
    take (end - start) (drop start (take len (take end room ++ (into ++ behind) ++ more))) ≡ take (end - start) (drop start room)
kept_before room into behind more len start end ordered within fits =
    let size : length (take end room) ≡ end = length-take-le end room within in
    same_front _ room start end ordered (
    take-take end len _ fits ∙ ap (take end) (append_assoc (take end room) (into ++ behind) more)
    ∙ take-append-le end (take end room) (into ++ behind ++ more) (omega arith) ∙ take-take end end room (omega arith)
    )

-- and what is written is after them
pub grown : (room into behind more : List ℕ) (len start end n : ℕ) → start ≤ end → end ≤ length room → n ≤ length into → end + n ≤ len →
    take (end + n - start) (drop start (take len (take end room ++ (into ++ behind) ++ more)))
    ≡ take (end - start) (drop start room) ++ take n into
grown room into behind more len start end n ordered within few fits =
    let size : length (take end room) ≡ end = length-take-le end room within in
    let whole = take len (take end room ++ (into ++ behind) ++ more) in
    let sum : start + (end + n - start) ≡ end + n = omega arith in
    let back : start + (end - start) ≡ end = omega arith in
    let text : take (end + n) whole ≡ take end room ++ take n into =
    take-take (end + n) len _ fits
    ∙ ap (take (end + n)) (append_assoc (take end room) (into ++ behind) more
    ∙ ap (λ xs. take end room ++ xs) (append_assoc into behind more))
    ∙ ap (λ k. take (k + n) (take end room ++ (into ++ (behind ++ more)))) (sym size)
    ∙ take-append-add (take end room) (into ++ (behind ++ more)) n
    ∙ ap (λ xs. take end room ++ xs) (take-append-le n into (behind ++ more) few) in
    sym (drop-take start (end + n - start) whole) ∙ ap (λ k. drop start (take k whole)) sum ∙ ap (drop start) text
    ∙ drop-append-le start (take end room) (take n into) (omega arith)
    ∙ ap (λ xs. xs ++ take n into) (ap (λ k. drop start (take k room)) (sym back) ∙ drop-take start (end - start) room)

-- bytes that are taken from the start on
pub taken : (room : List ℕ) (start end count : ℕ) → start + count ≤ end →
    take (end - (start + count)) (drop (start + count) room) ≡ drop count (take (end - start) (drop start room))
taken room start end count few =
    let sum : count + (end - (start + count)) ≡ end - start = omega arith in
    ap (take (end - (start + count))) (sym (drop-drop count start room)) ∙ sym (drop-take count (end - (start + count)) (drop start room))
    ∙ ap (λ k. drop count (take k (drop start room))) sum

-- ---- The same of a call's result

pub taken_behind : {E : Type 0} (result : Result (Unit {0}) E) (held before text : List ℕ)
    (old now new : Option (List ℕ)) → now ≡ append_known old before →
    OnOk result (PutsAllBut held text now new) → OnOk result (PutsAllBut held (before ++ text) old new)
taken_behind (Ok value) held before text old now new is taken = put_before held before text old now new is taken
taken_behind (Err fault) held before text old now new is taken = tt

pub lost_behind : {E : Type 0} (result : Result (Unit {0}) E) (before text : List ℕ) (old now new : Option (List ℕ)) →
    now ≡ append_known old before →
    OnErr result (PutsFront now new text) → OnErr result (PutsFront old new (before ++ text))
lost_behind (Ok value) before text old now new is lost = tt
lost_behind (Err fault) before text old now new is lost = front_behind before text old now new is lost

pub on_error : {T E P : Type 0} (result : Result T E) → P → OnErr result P
on_error (Ok value) p = tt
on_error (Err fault) p = p
