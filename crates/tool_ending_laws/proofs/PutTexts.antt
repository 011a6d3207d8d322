-- What is printed, of the texts one after another, and of refusals.
use Rattle.std.proofs.Common.{◌≡◌, ◌≢◌, ℕ, inl, inr, List, ◌++◌, refl, sym, ap, ◌∙◌, append_assoc, arith}
use Rattle.std.specs.Prelude.{Option, Some, None}
use Rattle.std.specs.Io.KnownBytes.{append_known}
use Rattle.base_refusals.specs.Refusals.{PlainRefusal, refusal_line}
use Rattle.base_fixed_point.specs.declared.types.FixType.{FixType}
use Rattle.tool_traces.specs.declared.rows.BadLine.{BadLine}
use Rattle.c_syntax.specs.declared.fault.Stuck.{Stuck}
use Rattle.c_syntax.specs.Tree.{ProgramTree}
use Rattle.c_semantics.specs.Rows.{TickRow}
use Rattle.diagram_verdict.specs.Verdict.{HasVerdict, Refused as IsRefused}
use Rattle.tool_runner.specs.Texts.{ticks_text}
use Rattle.tool_endings.specs.Told.{HostTold, SinkTold}
use Rattle.tool_endings.specs.Runs.{rows_over, bad_line, PutsTicks}
use Rattle.tool_endings.specs.Endings.{PutsWhole}
use Rattle.tool_endings.specs.Headline.{Tells, TellsRefusal, last_line, run_text}
use Rattle.tool_ending_laws.proofs.OneAnswer.{OneVerdict, same_refusal}

-- ---- Texts one after another

pub put_both : (o : Option (List ℕ)) (x y : List ℕ) → append_known (append_known o x) y ≡ append_known o (x ++ y)
put_both None x y = refl
put_both (Some bytes) x y = ap Some (append_assoc bytes x y)

-- the lines of ticks and then the last line
put-run : (b before b' : SinkTold) (ticks : List TickRow) (last : List ℕ) → PutsTicks ticks b before →
    PutsWhole last before b' → b'.bytes ≡ append_known b.bytes (ticks_text ticks ++ last)
put-run b before b' ticks last first then =
    then.text ∙ ap (λ (o : Option (List ℕ)). append_known o last) first ∙ put_both b.bytes (ticks_text ticks) last

-- a text after nothing
pub put_alone : (b before b' : SinkTold) (text : List ℕ) → before ≡ b → PutsWhole text before b' → b'.bytes ≡ append_known b.bytes text
put_alone b before b' text same whole = whole.text ∙ ap (λ (x : SinkTold). append_known x.bytes text) same

-- what a run prints, by where it is stuck and by its first bad line
text-by : (p : ProgramTree) (types : List FixType) (lines : List ℕ) (place : Option Stuck) (bad : Option BadLine) →
    (rows_over p types lines).stuck_place ≡ place → bad_line types lines ≡ bad →
    ticks_text (rows_over p types lines).ticks ++ last_line (rows_over p types lines).ticks place bad
    ≡ run_text p types lines
text-by p types lines place bad free good =
    let rows = rows_over p types lines in
    ap (λ (last : List ℕ). ticks_text rows.ticks ++ last)
    (sym (ap (λ (x : Option Stuck). last_line rows.ticks x (bad_line types lines)) free
    ∙ ap (last_line rows.ticks place) good))

-- the lines of ticks and the last line are what a run prints
pub run_lines : (p : ProgramTree) (types : List FixType) (lines : List ℕ) (b before b' : SinkTold)
    (place : Option Stuck) (bad : Option BadLine) (last : List ℕ) → (rows_over p types lines).stuck_place ≡ place →
    bad_line types lines ≡ bad → last ≡ last_line (rows_over p types lines).ticks place bad →
    PutsTicks (rows_over p types lines).ticks b before → PutsWhole last before b' →
    b'.bytes ≡ append_known b.bytes (run_text p types lines)
run_lines p types lines b before b' place bad last free good is ticks whole =
    put-run b before b' (rows_over p types lines).ticks last ticks whole
    ∙ ap (λ (x : List ℕ). append_known b.bytes (ticks_text (rows_over p types lines).ticks ++ x)) is
    ∙ ap (append_known b.bytes) (text-by p types lines place bad free good)

-- where memory runs out, a text that another status tells isn't printed
pub tells_memory : (n : ℕ) (text : List ℕ) (s : ℕ) (b b' : SinkTold) → s ≡ 10 → n ≢ 10 → Tells n text s b b'
tells_memory n text s b b' is other = record { status = inr is; put = λ same. absurd (other (sym same ∙ is)) }

-- ---- Refusals

pub tells_refusal : OneVerdict →
    (refusal other : PlainRefusal) (model : List ℕ) (s : ℕ) (h h' : HostTold) (b before b' : SinkTold) → s ≡ 3 →
    HasVerdict model (IsRefused refusal) → HasVerdict model (IsRefused other) → h'.written ≡ h.written → before ≡ b →
    PutsWhole (refusal_line refusal) before b' → TellsRefusal other s h h' b b'
tells_refusal one refusal other model s h h' b before b' is verdict refuses written same whole = record {
  tells = record {
    status = inl is;
    put = λ three. put_alone b before b' (refusal_line refusal) same whole
        ∙ ap (λ (r : PlainRefusal). append_known b.bytes (refusal_line r))
        (same_refusal one model refusal other verdict refuses);
  };
  unwritten = λ three. written;
}

pub refusal_unsaid : (other : PlainRefusal) (s : ℕ) (h h' : HostTold) (b b' : SinkTold) → s ≡ 10 → TellsRefusal other s h h' b b'
refusal_unsaid other s h h' b b' is =
    record {
      tells = record { status = inr is; put = λ three. absurd (omega (arith, is, three)) };
      unwritten = λ three. absurd (omega (arith, is, three));
    }
