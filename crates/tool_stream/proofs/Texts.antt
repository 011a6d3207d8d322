-- Walks over the lines of a text.
use Rattle.std.proofs.Common.{◌≡◌, ◌≢◌, refl, sym, ◌∙◌, ap, subst, ℕ, ◌+◌, ◌-◌, List, [], ◌∷◌, ◌++◌, length, take, drop, append_assoc, arith}
use Rattle.std.specs.Prelude.{Option, Result, Ok, Err, ◌<◌}
use Rattle.std.specs.Io.KnownBytes.{append_known}
use Rattle.std.specs.Str.Lines.{lines}
use Rattle.std.proofs.lemmas.List.{append-nil, take-append-drop}
use Rattle.std.proofs.Math.Seq.{take-add}
use Rattle.base_host.specs.Files.{PutsFront}
use Rattle.tool_traces.specs.Lines.{whole_lines}
use Rattle.tool_traces.proofs.LineLaws.{FirstLine}
use Rattle.tool_traces.proofs.lemmas.LineWalk.{StandsAt}
use Rattle.tool_stream.specs.declared.fault.StreamFault.{StreamFault}
use Rattle.tool_stream.specs.declared.fault.StreamFault.TheVariants.{Put, Line}
use Rattle.tool_stream.specs.Walks.{Place, place, WalksAll, StopsAt, StopsOver, WalksOver, WalksLine, IsWhole, WalksUpTo, WalksWhole, WalksText}
use Rattle.tool_stream.proofs.lemmas.WalkLaws.{none_walked, walks_both, stops_behind, line_stops, all_printed, stop_printed, all_cut, stop_cut}

-- ---- Texts that are whole lines

pub none_whole : IsWhole [] []
none_whole = record { all = λ behind. refl; ended = λ behind. refl }

pub both_whole : (text more : List ℕ) (whole others : List (List ℕ)) → IsWhole text whole → IsWhole more others →
    IsWhole (text ++ more) (whole ++ others)
both_whole text more whole others first second = record {
  all = λ behind.
      ap lines (append_assoc text more behind) ∙ first.all (more ++ behind) ∙ ap (λ ls. whole ++ ls) (second.all behind)
      ∙ sym (append_assoc whole others (lines behind));
  ended = λ behind.
      ap whole_lines (append_assoc text more behind) ∙ first.ended (more ++ behind) ∙ ap (λ ls. whole ++ ls) (second.ended behind)
      ∙ sym (append_assoc whole others (whole_lines behind));
}

-- the lines of a text in two parts, of which the first is whole lines
pub parted : (text behind : List ℕ) (at : ℕ) (whole : List (List ℕ)) → IsWhole (take at text) whole →
    lines (text ++ behind) ≡ whole ++ lines (drop at text ++ behind)
parted text behind at whole is =
    ap lines (ap (λ t. t ++ behind) (sym (take-append-drop at text)) ∙ append_assoc (take at text) (drop at text) behind)
    ∙ is.all (drop at text ++ behind)

module _ {A E : Type 0} (steps : A → List ℕ → A → Type 0) (said : A → List ℕ) (stops : A → List ℕ → E → A → Type 0) where
  pub none_up_to : (text : List ℕ) (s : Place A) → WalksUpTo steps said 0 text s s
  none_up_to text s = record { within = omega arith; whole = []; is_whole = none_whole; walks = none_walked steps said stops s }

  -- one line further in a text
  pub further : (text : List ℕ) (at start end after : ℕ) (s s' s'' : Place A) → WalksUpTo steps said at text s s' →
      StandsAt text at start end after → WalksAll steps said (take (end - start) (drop start text) ∷ []) s' s'' →
      WalksUpTo steps said after text s s''
  further text at start end after s s' s'' so_far stands walks =
      let line = take (end - start) (drop start text) in
      let on = stands.goes_on in
      let sum : at + (after - at) ≡ after = omega (arith, on) in
      let parts : take at text ++ take (after - at) (drop at text) ≡ take after text =
      sym (take-add at (after - at) text) ∙ ap (λ n. take n text) sum in
      record {
        within = stands.within;
        whole = so_far.whole ++ line ∷ [];
        is_whole = subst (λ t. IsWhole t (so_far.whole ++ line ∷ [])) parts
            (both_whole (take at text) (take (after - at) (drop at text)) so_far.whole (line ∷ []) so_far.is_whole
            (record { all = stands.all; ended = stands.whole }));
        walks = walks_both steps said stops so_far.whole (line ∷ []) s s' s'' so_far.walks walks;
      }

  -- a line of the text ends the walk
  pub line_ends : (fault : StreamFault E) (text : List ℕ) (at start end after : ℕ) (s s' s'' : Place A) →
      WalksUpTo steps said at text s s' → StandsAt text at start end after →
      ((behind : List (List ℕ)) → StopsOver steps said stops fault (take (end - start) (drop start text) ∷ behind) s' s'') →
      (behind : List ℕ) → StopsOver steps said stops fault (lines (text ++ behind)) s s''
  line_ends fault text at start end after s s' s'' so_far stands stop behind =
      let first = stands.first behind in
      subst (λ ls. StopsOver steps said stops fault ls s s'')
      (sym (parted text behind at so_far.whole so_far.is_whole ∙ ap (λ ls. so_far.whole ++ ls) first.is))
      (stops_behind steps said stops fault so_far.whole (first.line ∷ first.behind) s s' s'' so_far.walks
      (subst (λ l. StopsOver steps said stops fault (l ∷ first.behind) s' s'') (sym first.has) (stop first.behind)))

  -- a line that is too long ends it
  pub long_ends : (stop : E) (text : List ℕ) (at : ℕ) (s : Place A) (a : A) (put : Option (List ℕ)) (waiting : List ℕ) →
      WalksUpTo steps said at text s (place a put waiting) →
      ((behind : List ℕ) → FirstLine (drop at text ++ behind) (λ line. 4096 < length line)) →
      ((line : List ℕ) → 4096 < length line → stops a line stop a) →
      (behind : List ℕ) → StopsAt steps said stops stop (lines (text ++ behind)) s (place a put waiting)
  long_ends stop text at s a put waiting so_far long is behind =
      let first = long behind in
      let s' = place a put waiting in
      subst (λ ls. StopsAt steps said stops stop ls s s')
      (sym (parted text behind at so_far.whole so_far.is_whole ∙ ap (λ ls. so_far.whole ++ ls) first.is))
      (stops_behind steps said stops (Line stop) so_far.whole (first.line ∷ first.behind) s s' s' so_far.walks
      (line_stops steps said stops stop first.line first.behind a a put waiting (is first.line first.has)))

  -- ---- What waits is printed at the end

  pub text_printed : (ran : Result ℕ (StreamFault E)) (text : List ℕ) (s s' : Place A) (put : Option (List ℕ))
      (waiting : List ℕ) → put ≡ append_known s'.put s'.waiting → waiting ≡ [] → ran ≢ Err Put →
      WalksText steps said stops ran text s s' → WalksText steps said stops ran text s (place s'.at put waiting)
  text_printed (Ok done) text s s' put waiting is none other walks = record {
    up_to = record {
      within = walks.up_to.within;
      whole = walks.up_to.whole;
      is_whole = walks.up_to.is_whole;
      walks = all_printed steps said stops walks.up_to.whole s s' put waiting is none walks.up_to.walks;
    };
    rest = walks.rest;
  }
  text_printed (Err fault) text s s' put waiting is none other stop = λ behind.
      stop_printed steps said stops fault (lines (text ++ behind)) s s' put waiting is none (λ e. other (ap (λ x. Err x) e))
      (stop behind)

  pub text_cut : (ran : Result ℕ (StreamFault E)) (text : List ℕ) (s s' : Place A) (put : Option (List ℕ))
      (waiting : List ℕ) → PutsFront s'.put put s'.waiting → ran ≢ Err Put →
      WalksText steps said stops ran text s s' →
      (behind : List ℕ) → StopsOver steps said stops Put (lines (text ++ behind)) s (place s'.at put waiting)
  text_cut (Ok done) text s s' put waiting front other walks behind =
      subst (λ ls. StopsOver steps said stops Put ls s (place s'.at put waiting))
      (sym (parted text behind done walks.up_to.whole walks.up_to.is_whole))
      (all_cut steps said stops walks.up_to.whole (lines (drop done text ++ behind)) s s' put waiting front walks.up_to.walks)
  text_cut (Err fault) text s s' put waiting front other stop behind =
      stop_cut steps said stops fault (lines (text ++ behind)) s s' put waiting front (λ e. other (ap (λ x. Err x) e)) (stop behind)

  -- ---- A last line

  pub nothing_last : (text : List ℕ) (s : Place A) → text ≡ [] → WalksAll steps said (lines text) s s
  nothing_last text s none =
      subst (λ t. WalksAll steps said (lines t) s s) (sym none) (none_walked steps said stops s)

  pub line_last : (result : Result (Unit {0}) (StreamFault E)) (text : List ℕ) (s s' : Place A) → lines text ≡ text ∷ [] →
      WalksLine steps said stops result text s s' → WalksOver steps said stops result (lines text) s s'
  line_last (Ok value) text s s' is walks = subst (λ ls. WalksAll steps said ls s s') (sym is) walks
  line_last (Err fault) text s s' is stop = subst (λ ls. StopsOver steps said stops fault ls s s') (sym is) (stop [])

  -- ---- A whole text

  pub text_stops : (fault : StreamFault E) (text : List ℕ) (s s' : Place A) →
      ((behind : List ℕ) → StopsOver steps said stops fault (lines (text ++ behind)) s s') →
      StopsOver steps said stops fault (lines text) s s'
  text_stops fault text s s' stop =
      subst (λ t. StopsOver steps said stops fault (lines t) s s') (append-nil text) (stop [])

  parts : (text : List ℕ) (done : ℕ) (s s' : Place A) (whole : WalksWhole steps said done text s s') →
      lines text ≡ whole.up_to.whole ++ lines (drop done text)
  parts text done s s' whole = ap lines (sym (take-append-drop done text)) ∙ whole.up_to.is_whole.all (drop done text)

  pub text_over : (result : Result (Unit {0}) (StreamFault E)) (done : ℕ) (text : List ℕ) (s s' s'' : Place A) →
      WalksWhole steps said done text s s' → WalksOver steps said stops result (lines (drop done text)) s' s'' →
      WalksOver steps said stops result (lines text) s s''
  text_over (Ok value) done text s s' s'' whole walks =
      subst (λ ls. WalksAll steps said ls s s'') (sym (parts text done s s' whole))
      (walks_both steps said stops whole.up_to.whole (lines (drop done text)) s s' s'' whole.up_to.walks walks)
  text_over (Err fault) done text s s' s'' whole stop =
      subst (λ ls. StopsOver steps said stops fault ls s s'') (sym (parts text done s s' whole))
      (stops_behind steps said stops fault whole.up_to.whole (lines (drop done text)) s s' s'' whole.up_to.walks stop)

  -- ---- Results that hand an error on

  pub text_handed : (ran : Result ℕ (StreamFault E)) (fault : StreamFault E) (text : List ℕ) (s s' : Place A) → ran ≡ Err fault →
      ((behind : List ℕ) → StopsOver steps said stops fault (lines (text ++ behind)) s s') → WalksText steps said stops ran text s s'
  text_handed ran fault text s s' is stop =
      subst (λ (r : Result ℕ (StreamFault E)). WalksText steps said stops r text s s') (sym is) stop

  pub over_handed : (ran : Result (Unit {0}) (StreamFault E)) (fault : StreamFault E) (ls : List (List ℕ)) (s s' : Place A) →
      ran ≡ Err fault → StopsOver steps said stops fault ls s s' → WalksOver steps said stops ran ls s s'
  over_handed ran fault ls s s' is stop =
      subst (λ (r : Result (Unit {0}) (StreamFault E)). WalksOver steps said stops r ls s s') (sym is) stop
