-- Walks over lines, one after another.
use Rattle.std.proofs.Common.{◌≡◌, ◌≢◌, refl, sym, ◌∙◌, ap, subst, ℕ, List, [], ◌∷◌, ◌++◌, append_assoc}
use Rattle.std.specs.Prelude.{Option, Result, Ok, Err}
use Rattle.std.proofs.Common.{inl, inr}
use Rattle.std.specs.Io.KnownBytes.{append_known}
use Rattle.std.proofs.lemmas.List.{append-nil}
use Rattle.base_host.specs.Files.{PutsFront}
use Rattle.base_host.specs.Buffers.{PutsAllBut}
use Rattle.tool_stream.specs.declared.fault.StreamFault.{StreamFault}
use Rattle.tool_stream.specs.declared.fault.StreamFault.TheVariants.{Read, Put, Line}
use Rattle.tool_stream.specs.Walks.{Place, place, Walked, WalksAll, Front, StopsAt, CutAfter, StopsOver, WalksOver}
use Rattle.tool_stream.proofs.lemmas.Waiting.{nothing, both_texts, front_of_more, flushed, cut}

module _ {A E : Type 0} (steps : A → List ℕ → A → Type 0) (said : A → List ℕ) (stops : A → List ℕ → E → A → Type 0) where
  -- ---- Lines after others

  pub walked_both : (before lines : List (List ℕ)) (text more : List ℕ) (a a' a'' : A) → Walked steps said before text a a' →
      Walked steps said lines more a' a'' → Walked steps said (before ++ lines) (text ++ more) a a''
  walked_both [] lines text more a a' a'' first second =
      subst (λ t. Walked steps said lines (t ++ more) a a'') (sym first.0)
      (subst (λ x. Walked steps said lines more x a'') first.1 second)
  walked_both (line ∷ before) lines text more a a' a'' first second = (
    first.0,
    first.1 ++ more,
    first.2,
    ap (λ t. t ++ more) first.3 ∙ append_assoc (said first.0) first.1 more,
    walked_both before lines first.1 more first.0 a' a'' first.4 second,
  )

  pub none_walked : (s : Place A) → WalksAll steps said [] s s
  none_walked s = record { text = []; walked = (refl, refl); takes = nothing s.waiting s.put }

  pub walks_both : (before lines : List (List ℕ)) (s s' s'' : Place A) → WalksAll steps said before s s' →
      WalksAll steps said lines s' s'' → WalksAll steps said (before ++ lines) s s''
  walks_both before lines s s' s'' first second = record {
    text = first.text ++ second.text;
    walked = walked_both before lines first.text second.text s.at s'.at s''.at first.walked second.walked;
    takes = both_texts s.waiting s'.waiting s''.waiting first.text second.text s.put s'.put s''.put first.takes second.takes;
  }

  abbrev front_on : (before lines : List (List ℕ)) (text : List ℕ) (a a' : A) → Walked steps said before text a a' →
      Front steps said lines a' → Front steps said (before ++ lines) a
  front_on before lines text a a' walked front = record {
    before = before ++ front.before;
    behind = front.behind;
    parts = ap (λ ls. before ++ ls) front.parts ∙ sym (append_assoc before front.before front.behind);
    text = text ++ front.text;
    last = front.last;
    walked = walked_both before front.before text front.text a a' front.last walked front.walked;
  }

  -- lines after others end the walk
  pub stops_behind : (fault : StreamFault E) (before lines : List (List ℕ)) (s s' s'' : Place A) → WalksAll steps said before s s' →
      StopsOver steps said stops fault lines s' s'' → StopsOver steps said stops fault (before ++ lines) s s''
  stops_behind Read before lines s s' s'' first stop = absurd stop
  stops_behind Put before lines s s' s'' first stop = record {
    front = front_on before lines first.text s.at s'.at first.walked stop.front;
    last = stop.last;
    cuts = front_of_more s.waiting s'.waiting first.text stop.front.text s.put s'.put s''.put first.takes stop.cuts;
  }
  stops_behind (Line why) before lines s s' s'' first stop = record {
    front = front_on before lines first.text s.at s'.at first.walked stop.front;
    first = stop.first;
    takes = both_texts s.waiting s'.waiting s''.waiting first.text stop.front.text s.put s'.put s''.put first.takes stop.takes;
  }

  -- ---- One line

  abbrev none_before : (lines : List (List ℕ)) (a : A) → Front steps said lines a
  none_before lines a = record { before = []; behind = lines; parts = refl; text = []; last = a; walked = (refl, refl) }

  -- the output of a line
  one_walked : (line : List ℕ) (a a' : A) → steps a line a' → Walked steps said (line ∷ []) (said a') a a'
  one_walked line a a' step = (a', [], step, sym (append-nil (said a')), (refl, refl))

  pub line_walked : (line : List ℕ) (a a' : A) (put put' : Option (List ℕ)) (waiting waiting' : List ℕ) → steps a line a' →
      PutsAllBut waiting' (waiting ++ said a') put put' →
      WalksAll steps said (line ∷ []) (place a put waiting) (place a' put' waiting')
  line_walked line a a' put put' waiting waiting' step takes =
      record { text = said a'; walked = one_walked line a a' step; takes = takes }

  pub line_cut : (line : List ℕ) (behind : List (List ℕ)) (a a' : A) (put put' : Option (List ℕ)) (waiting waiting' : List ℕ) →
      steps a line a' → PutsFront put put' (waiting ++ said a') →
      CutAfter steps said stops (line ∷ behind) (place a put waiting) (place a' put' waiting')
  line_cut line behind a a' put put' waiting waiting' step cuts = record {
    front = record {
      before = line ∷ [];
      behind = behind;
      parts = refl;
      text = said a';
      last = a';
      walked = one_walked line a a' step;
    };
    last = inl refl;
    cuts = cuts;
  }

  pub line_stops : (stop : E) (line : List ℕ) (behind : List (List ℕ)) (a a' : A) (put : Option (List ℕ)) (waiting : List ℕ) →
      stops a line stop a' →
      StopsAt steps said stops stop (line ∷ behind) (place a put waiting) (place a' put waiting)
  line_stops stop line behind a a' put waiting is = record {
    front = none_before (line ∷ behind) a;
    first = record { line = line; behind = behind; parts = refl; ends = is };
    takes = nothing waiting put;
  }

  -- ---- What waits is printed at the end

  pub all_printed : (lines : List (List ℕ)) (s s' : Place A) (put : Option (List ℕ)) (waiting : List ℕ) →
      put ≡ append_known s'.put s'.waiting → waiting ≡ [] → WalksAll steps said lines s s' →
      WalksAll steps said lines s (place s'.at put waiting)
  all_printed lines s s' put waiting is none walks = record {
    text = walks.text;
    walked = walks.walked;
    takes = flushed s.waiting s'.waiting waiting walks.text s.put s'.put put walks.takes is none;
  }

  pub stop_printed : (fault : StreamFault E) (lines : List (List ℕ)) (s s' : Place A) (put : Option (List ℕ)) (waiting : List ℕ) →
      put ≡ append_known s'.put s'.waiting → waiting ≡ [] → fault ≢ Put → StopsOver steps said stops fault lines s s' →
      StopsOver steps said stops fault lines s (place s'.at put waiting)
  stop_printed Read lines s s' put waiting is none other stop = absurd stop
  stop_printed Put lines s s' put waiting is none other stop = absurd (other refl)
  stop_printed (Line why) lines s s' put waiting is none other stop = record {
    front = stop.front;
    first = stop.first;
    takes = flushed s.waiting s'.waiting waiting stop.front.text s.put s'.put put stop.takes is none;
  }

  pub over_printed : (ran : Result (Unit {0}) (StreamFault E)) (lines : List (List ℕ)) (s s' : Place A) (put : Option (List ℕ))
      (waiting : List ℕ) → put ≡ append_known s'.put s'.waiting → waiting ≡ [] → ran ≢ Err Put →
      WalksOver steps said stops ran lines s s' → WalksOver steps said stops ran lines s (place s'.at put waiting)
  over_printed (Ok value) lines s s' put waiting is none other walks = all_printed lines s s' put waiting is none walks
  over_printed (Err fault) lines s s' put waiting is none other stop =
      stop_printed fault lines s s' put waiting is none (λ e. other (ap (λ x. Err x) e)) stop

  -- ---- Only a front of what waited is printed

  pub all_cut : (lines behind : List (List ℕ)) (s s' : Place A) (put : Option (List ℕ)) (waiting : List ℕ) →
      PutsFront s'.put put s'.waiting → WalksAll steps said lines s s' →
      CutAfter steps said stops (lines ++ behind) s (place s'.at put waiting)
  all_cut lines behind s s' put waiting front walks = record {
    front = record {
      before = lines;
      behind = behind;
      parts = refl;
      text = walks.text;
      last = s'.at;
      walked = walks.walked;
    };
    last = inl refl;
    cuts = cut s.waiting s'.waiting walks.text s.put s'.put put walks.takes front;
  }

  pub stop_cut : (fault : StreamFault E) (lines : List (List ℕ)) (s s' : Place A) (put : Option (List ℕ)) (waiting : List ℕ) →
      PutsFront s'.put put s'.waiting → fault ≢ Put → StopsOver steps said stops fault lines s s' →
      CutAfter steps said stops lines s (place s'.at put waiting)
  stop_cut Read lines s s' put waiting front other stop = absurd stop
  stop_cut Put lines s s' put waiting front other stop = absurd (other refl)
  stop_cut (Line why) lines s s' put waiting front other stop = record {
    front = stop.front;
    last = inr (why, stop.first);
    cuts = cut s.waiting s'.waiting stop.front.text s.put s'.put put stop.takes front;
  }

  pub over_cut : (ran : Result (Unit {0}) (StreamFault E)) (lines : List (List ℕ)) (s s' : Place A) (put : Option (List ℕ))
      (waiting : List ℕ) → PutsFront s'.put put s'.waiting → ran ≢ Err Put → WalksOver steps said stops ran lines s s' →
      CutAfter steps said stops lines s (place s'.at put waiting)
  over_cut (Ok value) lines s s' put waiting front other walks =
      subst (λ ls. CutAfter steps said stops ls s (place s'.at put waiting)) (append-nil lines)
      (all_cut lines [] s s' put waiting front walks)
  over_cut (Err fault) lines s s' put waiting front other stop =
      stop_cut fault lines s s' put waiting front (λ e. other (ap (λ x. Err x) e)) stop
