-- What `drive` does where nothing fails, by the way in which it ended.
use Rattle.std.proofs.Common.{◌≡◌, ℕ, inl, inr, List, ◌++◌, refl, sym, ap, subst, ◌∙◌, arith}
use Rattle.std.specs.Prelude.{Option, Some, None}
use Rattle.std.specs.Io.KnownBytes.{append_known}
use Rattle.base_refusals.specs.Refusals.{plain_refusal}
use Rattle.diagram_meaning.specs.ResolvedTable.{ResolvedTable}
use Rattle.diagram_verdict.specs.Verdict.{HasVerdict, Accepted}
use Rattle.tool_runner.specs.declared.outcome.Totals.{Totals}
use Rattle.tool_driver.specs.Shapes.{Shape}
use Rattle.tool_driver.specs.Driven.{shape_of}
use Rattle.tool_system_driver.specs.SystemShapes.{ShapesAreOne}
use Rattle.tool_system_driver.specs.Words.{system_named}
use Rattle.tool_script_runner.specs.Standings.{totals_of}
use Rattle.tool_script_runner.specs.Texts.{answers_text}
use Rattle.tool_script_runner.specs.ScriptEnds.{ScriptEnd, Whole, AtLine, AtCall, script_end}
use Rattle.tool_script_runner.specs.Drives.{AnswersAll}
use Rattle.tool_endings.specs.declared.ending.Ending.{Ending}
use Rattle.tool_endings.specs.declared.ending.Ending.TheVariants.{Ran, Refused, BadScript, ReadFault, WriteFault, PutFault, NoMemory}
use Rattle.tool_endings.specs.declared.ending.ScriptStop.TheVariants.{NoSubsystem, Line, Call}
use Rattle.tool_words.specs.Words.{Drive}
use Rattle.tool_endings.specs.Told.{HostTold, SinkTold}
use Rattle.tool_endings.specs.Texts.{no_subsystem_line}
use Rattle.tool_endings.specs.EndingsOfDriving.{NamesNone, WritesDriven}
use Rattle.tool_endings.specs.Endings.{status_of, text_of, PutsWhole, Finds}
use Rattle.tool_endings.specs.Statuses.{IsPlain, IfFile, status_at}
use Rattle.tool_endings.specs.Headline.{last_script_line, DrivesRightCode, DrivesSystem, DrivesNamed, Drives}
use Rattle.tool_endings.proofs.lemmas.Files.{any_file, known_file, named}
use Rattle.tool_ending_laws.proofs.OneAnswer.{OneVerdict, accepted_only, same_resolution}
use Rattle.tool_ending_laws.proofs.PutTexts.{put_alone, put_both, tells_refusal, refusal_unsaid}

-- ---- A script on a system of a model that was compiled

module _ (word script code model : List ℕ) (s : ℕ) (h h' : HostTold) (b b' : SinkTold) where
  module _ (w : WritesDriven word code model h h') (lines : List ℕ) (before : SinkTold) (taken : Totals) (end : ScriptEnd)
      (ends : script_end (shape_of w.driven) lines ≡ end) (all : AnswersAll w.driven lines taken b.bytes before.bytes)
      (whole : PutsWhole (last_script_line taken end) before b') where
    -- the line that was printed last
    last-is : last_script_line taken end ≡ last_script_line (totals_of all.answers) (script_end (shape_of w.driven) lines)
    last-is = ap (λ (t : Totals). last_script_line t end) all.totals ∙ ap (last_script_line (totals_of all.answers)) (sym ends)

    right-code : DrivesRightCode w.whole.resolved w.driven.system model lines code h h' b b'
    right-code = record {
      compilation = w.whole.compilation;
      right = w.whole.right;
      noted = w.whole.noted;
      written = w.whole.written;
      driven = w.driven;
      of_model = w.of_model;
      program = w.program;
      answers = all.answers;
      calls = all.calls;
      answered = all.right;
      lines = whole.text
          ∙ ap (λ (o : Option (List ℕ)). append_known o (last_script_line taken end)) all.lines
          ∙ put_both b.bytes (answers_text all.answers) (last_script_line taken end)
          ∙ ap (λ (x : List ℕ). append_known b.bytes (answers_text all.answers ++ x)) last-is;
    }

    -- up to the script's end, whatever the shape of the system is said to be
    to-end : ShapesAreOne → s ≡ status_at end → DrivesSystem w.whole.resolved w.driven.system model lines s code h h' b b'
    to-end shapes is =
        let r = w.whole.resolved in
        let system = w.driven.system in
        record {
          status = λ shape of. inl (is ∙ ap status_at (sym ends)
              ∙ ap (λ (x : Shape). status_at (script_end x lines))
              (shapes.one r system (shape_of w.driven) shape (shapes.of_driven r system w.driven w.of_model) of));
          done = λ _. right-code;
        }

  -- what is shown of the table that was compiled, and of the system that the word names in it, holds of its verdict's
  for-named : OneVerdict → (r : ResolvedTable) → HasVerdict model (Accepted r) → (system : Option (Option ℕ)) →
      system_named r.table.rows word ≡ system → DrivesNamed r system model script s code h h' b b' → Drives model word script s code h h' b b'
  for-named one r verdict system is shown = record {
    accepted = λ other accepts.
        subst (λ (x : ResolvedTable). DrivesNamed x (system_named x.table.rows word) model script s code h h' b b')
        (same_resolution one model r other verdict accepts)
        (subst (λ (x : Option (Option ℕ)). DrivesNamed r x model script s code h h' b b') (sym is) shown);
    refused = λ refusal refuses. absurd (accepted_only one model r refusal verdict refuses);
  }

  for-driven : OneVerdict → (w : WritesDriven word code model h h') →
      IfFile h script (λ lines. DrivesSystem w.whole.resolved w.driven.system model lines s code h h' b b') →
      Drives model word script s code h h' b b'
  for-driven one w shown = for-named one w.whole.resolved w.whole.verdict (Some w.driven.system) w.named shown

  -- the word names no system
  unnamed : OneVerdict → (before : SinkTold) → s ≡ 4 → h'.written ≡ h.written → before ≡ b → PutsWhole no_subsystem_line before b' →
      NamesNone word model → Drives model word script s code h h' b b'
  unnamed one before is written same whole v =
      for-named one v.resolved v.verdict None v.none
      (record { status = inl is; put = λ _. put_alone b before b' no_subsystem_line same whole }, λ _. written)

  -- ---- Running out of memory

  starved : s ≡ 10 → (r : ResolvedTable) (system : Option (Option ℕ)) → DrivesNamed r system model script s code h h' b b'
  starved is r None =
      (record { status = inr is; put = λ four. absurd (omega (arith, is, four)) }, λ four. absurd (omega (arith, is, four)))
  starved is r (Some system) =
      any_file h.files h.rest script (λ lines. record { status = λ shape of. inr is; done = λ other. absurd (other is) })

  pub drive_memory : s ≡ 10 → Drives model word script s code h h' b b'
  drive_memory is = record {
    accepted = λ r accepts. starved is r (system_named r.table.rows word);
    refused = λ refusal refuses. refusal_unsaid refusal s h h' b b' is;
  }

-- ---- Each ending

pub drive_does : OneVerdict → ShapesAreOne → (e : Ending) (s : ℕ) (model code word script : List ℕ) (h h' : HostTold)
    (b before b' : SinkTold) → Finds e (Some (Drive model code word script)) h h' b before → IsPlain (status_of e) →
    s ≡ status_of e → PutsWhole (text_of e) before b' → IfFile h model (λ bytes. Drives bytes word script s code h h' b b')
drive_does one shapes (Ran totals) s model code word script h h' b before b' ends plain is whole =
    known_file h.files h.rest model (named h model ends.model) (λ bytes m.
    for-driven word script code bytes s h h' b b' one m.written
    (known_file h.files h.rest script (named h script m.drives) (λ lines drives.
    to-end word script code bytes s h h' b b' m.written lines before totals Whole drives.end drives.answers whole shapes is)))
drive_does one shapes (BadScript NoSubsystem) s model code word script h h' b before b' ends plain is whole =
    known_file h.files h.rest model (named h model ends.model) (λ bytes v.
    unnamed word script code bytes s h h' b b' one before is ends.left.written ends.silent whole v)
drive_does one shapes (BadScript (Line bad)) s model code word script h h' b before b' ends plain is whole =
    known_file h.files h.rest model (named h model ends.model) (λ bytes m.
    for-driven word script code bytes s h h' b b' one m.written
    (known_file h.files h.rest script (named h script m.drives) (λ lines drives.
    to-end word script code bytes s h h' b b' m.written lines before drives.taken (AtLine bad) drives.stops drives.answers
    whole shapes is)))
drive_does one shapes (BadScript (Call refused)) s model code word script h h' b before b' ends plain is whole =
    known_file h.files h.rest model (named h model ends.model) (λ bytes m.
    for-driven word script code bytes s h h' b b' one m.written
    (known_file h.files h.rest script (named h script m.drives) (λ lines drives.
    to-end word script code bytes s h h' b b' m.written lines before drives.taken (AtCall refused) drives.stops drives.answers
    whole shapes is)))
drive_does one shapes (Refused refusal) s model code word script h h' b before b' ends plain is whole =
    known_file h.files h.rest model (named h model ends.0.model) (λ bytes v. record {
      accepted = λ r accepts. absurd (accepted_only one bytes r (plain_refusal refusal) accepts v);
      refused = λ other refuses.
          tells_refusal one (plain_refusal refusal) other bytes s h h' b before b' is v refuses ends.0.written ends.1 whole;
    })
drive_does one shapes ReadFault s model code word script h h' b before b' ends plain is whole = absurd (plain.no_read_fault refl)
drive_does one shapes WriteFault s model code word script h h' b before b' ends plain is whole = absurd (plain.no_write_fault refl)
drive_does one shapes PutFault s model code word script h h' b before b' ends plain is whole = absurd (plain.no_put_fault refl)
drive_does one shapes NoMemory s model code word script h h' b before b' ends plain is whole = absurd (plain.no_want_of_memory refl)
drive_does one shapes _ s model code word script h h' b before b' ends plain is whole = absurd ends
