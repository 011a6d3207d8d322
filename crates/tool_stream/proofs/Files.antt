-- Walks over a file that is read in pieces.
use Rattle.std.proofs.Common.{◌≡◌, ◌≢◌, sym, ◌∙◌, ap, subst, ℕ, List, [], ◌++◌, take, drop, append_assoc}
use Rattle.std.specs.Prelude.{Option, Result, Ok, Err}
use Rattle.std.specs.Io.KnownBytes.{IsAtEnd}
use Rattle.std.specs.Str.Lines.{lines}
use Rattle.std.proofs.lemmas.List.{append-nil, take-append-drop}
use Rattle.base_host.specs.Reading.{Source, HasRead}
use Rattle.base_host.specs.Buffers.{ReadsOn}
use Rattle.base_host.proofs.lemmas.ReadLaws.{read_nothing, read_both}
use Rattle.tool_traces.specs.Pieces.{BeginsLine}
use Rattle.tool_stream.specs.declared.fault.StreamFault.{StreamFault}
use Rattle.tool_stream.specs.declared.fault.StreamFault.TheVariants.{Read, Put, Line}
use Rattle.tool_stream.specs.Walks.{Place, place, WalksAll, StopsOver, WalksOver, IsWhole, WalksWhole}
use Rattle.tool_stream.specs.Files.{Parts, file_lines, StopsReading, WalksFile}
use Rattle.tool_stream.proofs.lemmas.FilePieces.{left_of, is_left, none_left}
use Rattle.tool_stream.proofs.lemmas.WalkLaws.{none_walked, walks_both, stops_behind}
use Rattle.tool_stream.proofs.Texts.{none_whole, both_whole}

-- at the end of a file what was taken is all of it
all_taken : (taken : List ℕ) (rest : Option (List ℕ)) → IsAtEnd rest → taken ≡ taken ++ left_of rest
all_taken taken rest end = sym (ap (λ l. taken ++ l) (none_left rest end) ∙ append-nil taken)

-- the lines of a file of which some are whole
lines_after : (head bytes behind : List ℕ) (whole : List (List ℕ)) → IsWhole head whole →
    lines ((head ++ bytes) ++ behind) ≡ whole ++ lines (bytes ++ behind)
lines_after head bytes behind whole is = ap lines (append_assoc head bytes behind) ∙ is.all (bytes ++ behind)

module _ {A E : Type 0} (steps : A → List ℕ → A → Type 0) (said : A → List ℕ) (stops : A → List ℕ → E → A → Type 0) where
  -- a walk that has taken some of a file: whole lines, which were walked over, and these bytes
  pub record Reads (bytes : List ℕ) (from to : Source) (s s' : Place A) : Type 0 where
    pub head : List ℕ
    pub took : HasRead (head ++ bytes) from to
    pub whole : List (List ℕ)
    pub is_whole : IsWhole head whole
    pub walks : WalksAll steps said whole s s'

  pub reads_none : (bytes : List ℕ) (from : Source) (a : A) (put : Option (List ℕ)) (waiting : List ℕ) → bytes ≡ [] → waiting ≡ [] →
      Reads bytes from from (place a put []) (place a put waiting)
  reads_none bytes from a put waiting none empty = record {
    head = [];
    took = subst (λ b. HasRead b from from) (sym none) (read_nothing from);
    whole = [];
    is_whole = none_whole;
    walks = subst (λ w. WalksAll steps said [] (place a put []) (place a put w)) (sym empty)
        (none_walked steps said stops (place a put []));
  }

  pub reads_on : (count : ℕ) (bytes bytes' : List ℕ) (from to to' : Source) (s s' : Place A) → Reads bytes from to s s' →
      ReadsOn count bytes bytes' to to' → Reads bytes' from to' s s'
  reads_on count bytes bytes' from to to' s s' so_far more = record {
    head = so_far.head;
    took =
        subst (λ b. HasRead b from to') (append_assoc so_far.head bytes more.piece ∙ ap (λ b. so_far.head ++ b) (sym more.bytes))
        (read_both (so_far.head ++ bytes) more.piece from to to' so_far.took more.read);
    whole = so_far.whole;
    is_whole = so_far.is_whole;
    walks = so_far.walks;
  }

  pub lines_read : (done : ℕ) (bytes : List ℕ) (from to : Source) (s s' s'' : Place A) → Reads bytes from to s s' →
      WalksWhole steps said done bytes s' s'' → Reads (drop done bytes) from to s s''
  lines_read done bytes from to s s' s'' so_far lines = record {
    head = so_far.head ++ take done bytes;
    took =
        subst (λ b. HasRead b from to) (ap (λ b. so_far.head ++ b) (sym (take-append-drop done bytes))
        ∙ sym (append_assoc so_far.head (take done bytes) (drop done bytes))) so_far.took;
    whole = so_far.whole ++ lines.up_to.whole;
    is_whole = both_whole so_far.head (take done bytes) so_far.whole lines.up_to.whole so_far.is_whole lines.up_to.is_whole;
    walks = walks_both steps said stops so_far.whole lines.up_to.whole s s' s'' so_far.walks lines.up_to.walks;
  }

  -- the file can't be read on
  pub read_stops : (bytes : List ℕ) (from to : Source) (s : Place A) (a : A) (put : Option (List ℕ)) (waiting : List ℕ) → waiting ≡ [] →
      BeginsLine bytes → Reads bytes from to s (place a put waiting) →
      WalksFile steps said stops (Err Read) from to s (place a put [])
  read_stops bytes from to s a put waiting empty begins reads = record {
    parts = record { taken = reads.head ++ bytes; left = left_of to.rest };
    took = reads.took;
    left = is_left to.rest;
    ends =
        subst (λ ls. WalksAll steps said ls s (place a put []))
        (sym (reads.is_whole.ended bytes ∙ ap (λ ls. reads.whole ++ ls) begins.no_whole ∙ append-nil reads.whole))
        (subst (λ w. WalksAll steps said reads.whole s (place a put w)) empty reads.walks);
  }

  -- what stops a walk over the lines of a file, with nothing that waits
  stops_file : (fault : StreamFault E) (parts : Parts) (s : Place A) (a : A) (put : Option (List ℕ)) (waiting : List ℕ) →
      (fault ≢ Put → waiting ≡ []) → StopsOver steps said stops fault (file_lines parts) s (place a put waiting) →
      StopsReading steps said stops fault parts s (place a put [])
  stops_file Read parts s a put waiting empty stop = absurd stop
  stops_file Put parts s a put waiting empty stop = record { front = stop.front; last = stop.last; cuts = stop.cuts }
  stops_file (Line why) parts s a put waiting empty stop =
      subst (λ w. StopsOver steps said stops (Line why) (file_lines parts) s (place a put w)) (empty (λ e. cc)) stop

  -- a line of a piece ends the walk
  pub lines_stop : (fault : StreamFault E) (bytes : List ℕ) (from to : Source) (s s' : Place A) (a : A) (put : Option (List ℕ))
      (waiting : List ℕ) → (fault ≢ Put → waiting ≡ []) → Reads bytes from to s s' →
      ((behind : List ℕ) → StopsOver steps said stops fault (lines (bytes ++ behind)) s' (place a put waiting)) →
      WalksFile steps said stops (Err fault) from to s (place a put [])
  lines_stop fault bytes from to s s' a put waiting empty reads stop =
      let left = left_of to.rest in
      record {
        parts = record { taken = reads.head ++ bytes; left = left };
        took = reads.took;
        left = is_left to.rest;
        ends =
            stops_file fault (record { taken = reads.head ++ bytes; left = left }) s a put waiting empty
            (subst (λ ls. StopsOver steps said stops fault ls s (place a put waiting))
            (sym (lines_after reads.head bytes left reads.whole reads.is_whole))
            (stops_behind steps said stops fault reads.whole (lines (bytes ++ left)) s s' (place a put waiting) reads.walks (stop left)));
      }

  -- what the last line comes to
  pub last_over : (result : Result (Unit {0}) (StreamFault E)) (bytes : List ℕ) (from to : Source) (s s' : Place A) (a : A)
      (put : Option (List ℕ)) (waiting : List ℕ) → (result ≢ Err Put → waiting ≡ []) → IsAtEnd to.rest → Reads bytes from to s s' →
      WalksOver steps said stops result (lines bytes) s' (place a put waiting) →
      WalksFile steps said stops result from to s (place a put [])
  last_over (Ok value) bytes from to s s' a put waiting empty end reads walks = record {
    parts = record { taken = reads.head ++ bytes; left = left_of to.rest };
    took = reads.took;
    left = is_left to.rest;
    ends =
        subst (λ ls. WalksAll steps said ls s (place a put []))
        (sym (reads.is_whole.all bytes) ∙ ap lines (all_taken (reads.head ++ bytes) to.rest end))
        (subst (λ w. WalksAll steps said (reads.whole ++ lines bytes) s (place a put w)) (empty (λ e. cc))
        (walks_both steps said stops reads.whole (lines bytes) s s' (place a put waiting) reads.walks walks));
  }
  last_over (Err fault) bytes from to s s' a put waiting empty end reads stop = record {
    parts = record { taken = reads.head ++ bytes; left = left_of to.rest };
    took = reads.took;
    left = is_left to.rest;
    ends =
        stops_file fault (record { taken = reads.head ++ bytes; left = left_of to.rest }) s a put waiting
        (λ other. empty (λ e. let same : fault ≡ Put = cc in other same))
        (subst (λ ls. StopsOver steps said stops fault ls s (place a put waiting))
        (sym (reads.is_whole.all bytes) ∙ ap lines (all_taken (reads.head ++ bytes) to.rest end))
        (stops_behind steps said stops fault reads.whole (lines bytes) s s' (place a put waiting) reads.walks stop));
  }

  pub over_handed : (result : Result (Unit {0}) (StreamFault E)) (fault : StreamFault E) (from to : Source) (s s' : Place A) →
      result ≡ Err fault → WalksFile steps said stops (Err fault) from to s s' → WalksFile steps said stops result from to s s'
  over_handed result fault from to s s' is over =
      subst (λ (r : Result (Unit {0}) (StreamFault E)). WalksFile steps said stops r from to s s') (sym is) over
