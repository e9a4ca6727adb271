-- The progress of a run over its reader's bytes, where these are known.
use Rattle.std.proofs.Common.{◌≡◌, ◌<◌, ℕ, List, [], ◌∷◌, ◌++◌, length, take, refl, ap}
use Rattle.std.proofs.Common.{append_assoc}
use Rattle.std.proofs.lemmas.List.{append-nil}
use Rattle.std.proofs.lemmas.List.Elements.{All-nil, All-cons, All-append}
use Rattle.std.specs.Prelude.{Some, None, IfSome, Result, Ok, Err, OnErr}
use Rattle.std.specs.Io.KnownBytes.{Appends, Consumes, Keeps, IsAtEnd}
use Rattle.answer_lines.specs.Lines.{IsLine}
use Rattle.answer_lines.specs.Session.{Rule, IsReply, none, more, AppendsBeginning, AppendsWhole}
use Rattle.answer_lines.specs.Session.{IsPrompt}
use Rattle.answer_lines.specs.Output.{AppendsPrefix, AppendsAllBut}
use Rattle.answer_lines.proofs.Output.{Known, appends_nothing, appends_both, all_but_begins}
use Rattle.answer_lines.proofs.Output.{all_but_waits, all_but_faults}
use Rattle.answer_lines.proofs.Replies.{no_feed, no_line, ended-append, Session-append, IsReplyTo}
use Rattle.answer_lines.proofs.Replies.{beginning_after_whole, beginning_of_none, beginning_within}

-- The replies to some whole lines of the input, all appended but those that are buffered.
pub record Collects {S : Type 0} (rule : Rule S) (state next : S)
    (input start left waiting : List ℕ) (old new : Known) : Type 0 where
  pub output : List ℕ
  pub whole : AppendsWhole rule state next input start left (Some []) (Some output)
  pub all_but : AppendsAllBut waiting old new output

module _ {S : Type 0} {rule : Rule S} where
  -- the text of a reply is a reply to the line
  pub reply_in : {state next : S} {line bytes : List ℕ} (text line' : List ℕ)
      → (reply : List ℕ) × (IsReply rule state line' reply next × (text ≡ reply ++ 10 ∷ []))
      → line ≡ line' → bytes ≡ text → IsReplyTo rule state next line bytes
  reply_in text line' (reply, (by, bytes)) same is =
      rw (same, is) (record { reply = reply; is = by; bytes_are = bytes })

  -- ---- bytes that follow a line that was begun

  -- nothing yet
  pub whole_begins : {state : S} {start left : List ℕ} {known : Known} → IsLine start
      → AppendsWhole rule state state (start ++ left) start left known known
  whole_begins one = record {
    lines = [];
    replies = [];
    parts = refl;
    whole_lines = All-nil IsLine;
    start_line = one;
    session = none;
    appends = appends_nothing _;
  }

  -- more of the input was answered
  whole_joined : {state last next : S} {input start left start' : List ℕ}
      {old mid new : Known} (chunk after : List ℕ)
      → AppendsWhole rule state last input start left old mid → left ≡ chunk ++ after
      → AppendsWhole rule last next (start ++ chunk) start' [] mid new
      → AppendsWhole rule state next input start' after old new
  whole_joined chunk after so_far cut then =
      let answered = simp (append_assoc, append-nil) at (ap (λ es. es ++ after) then.parts) in
      record {
        lines = so_far.lines ++ then.lines;
        replies = so_far.replies ++ then.replies;
        parts = rw (ended-append, append_assoc, ← answered, ← cut) so_far.parts;
        whole_lines = All-append IsLine so_far.lines then.lines so_far.whole_lines then.whole_lines;
        start_line = then.start_line;
        session = Session-append so_far.session then.session;
        appends = rw ended-append (appends_both _ _ _ _ _ so_far.appends then.appends);
      }

  -- the line that was begun has ended, and was answered
  whole_line : {state last next : S} {input start later bytes : List ℕ} (end : List ℕ)
      {old mid new : Known}
      → AppendsWhole rule state last input start (end ++ 10 ∷ later) old mid → IsLine end
      → IsReplyTo rule last next (start ++ end) bytes → Appends mid new bytes
      → AppendsWhole rule state next input [] later old new
  whole_line {start = start} {later = later} end so_far one is then =
      whole_joined (end ++ 10 ∷ []) later so_far (rw append_assoc) (record {
        lines = (start ++ end) ∷ [];
        replies = is.reply ∷ [];
        parts = simp (append_assoc, append-nil);
        whole_lines = All-cons IsLine _ [] (All-append no_feed start end so_far.start_line one)
            (All-nil IsLine);
        start_line = no_line;
        session = more is.is none;
        appends = rw (← is.bytes_are) then;
      })

  -- ---- a chunk, with buffered replies

  pub collects_none : {state : S} {start left : List ℕ} {known : Known} → IsLine start
      → Collects rule state state (start ++ left) start left [] known known
  collects_none one = record { output = []; whole = whole_begins one; all_but = all_but_begins }

  -- the line that was begun ends, and its reply is added
  pub collects_line : {state last next : S} {input start left waiting later waiting' : List ℕ}
      {old mid new : Known} (end bytes : List ℕ)
      → Collects rule state last input start left waiting old mid
      → left ≡ end ++ 10 ∷ later → IsLine end → IsReplyTo rule last next (start ++ end) bytes
      → AppendsAllBut waiting' mid new (waiting ++ bytes)
      → Collects rule state next input [] later waiting' old new
  collects_line end bytes so_far cut one is then = record {
    output = so_far.output ++ bytes;
    whole = whole_line end (rw cut at so_far.whole) one is refl;
    all_but = all_but_waits bytes so_far.all_but then;
  }

  -- a fault while the buffered bytes and the reply are written
  pub collects_fault : {state last next : S} {start left waiting : List ℕ}
      {old mid new : Known} (begun chunk end after bytes : List ℕ)
      → Collects rule state last (begun ++ chunk) start left waiting old mid
      → left ≡ end ++ 10 ∷ after → IsLine end → IsReplyTo rule last next (start ++ end) bytes
      → AppendsPrefix mid new (waiting ++ bytes)
      → (later : List ℕ) → AppendsBeginning rule state (begun ++ (chunk ++ later)) old new
  collects_fault begun chunk end after bytes so_far cut one is then later = rw (← append_assoc)
      (beginning_within later
      (whole_line {later = after} end (rw cut at so_far.whole) one is refl)
      (all_but_faults bytes so_far.all_but then))

  -- only a prefix of the buffered bytes was appended
  pub collects_stops : {state next : S} {start left waiting : List ℕ}
      {old mid new : Known} (begun chunk : List ℕ)
      → Collects rule state next (begun ++ chunk) start left waiting old mid
      → AppendsPrefix mid new waiting
      → (later : List ℕ) → AppendsBeginning rule state (begun ++ (chunk ++ later)) old new
  collects_stops {new = new} begun chunk so_far then later =
      let prefix = rw append-nil at
      (all_but_faults {new = new} [] so_far.all_but (rw append-nil then)) in
      rw (← append_assoc) (beginning_within later so_far.whole prefix)

  -- ---- a whole run, whose input may be unknown

  -- a chunk was read and answered
  pub run_chunk : (state : S) {last next : S} (input before after : Known) (start chunk : List ℕ)
      {start' : List ℕ} (old : Known) {mid new : Known}
      → IsPrompt rule state last input before start old mid → Consumes before after chunk
      → AppendsWhole rule last next (start ++ chunk) start' [] mid new
      → IsPrompt rule state next input after start' old new
  run_chunk state None before after start chunk old so_far read then = tt
  run_chunk state (Some input) None after start chunk old so_far read then = absurd so_far
  run_chunk state (Some input) (Some before) None start chunk old so_far read then = read
  run_chunk state (Some input) (Some before) (Some after) start chunk old so_far read then =
      whole_joined chunk after so_far read then

  -- what follows from the whole lines if a chunk was read, and the bytes after it are known
  pub after_read : {Follows : List ℕ → Type 0} {state last : S} (input before after : Known)
      {start : List ℕ} (chunk : List ℕ) {old mid : Known}
      → IsPrompt rule state last input before start old mid → Consumes before after chunk
      → ((i left : List ℕ) → after ≡ Some left
      → AppendsWhole rule state last i start (chunk ++ left) old mid → Follows i)
      → IfSome input Follows
  after_read None before after chunk so_far read then = tt
  after_read (Some i) None after chunk so_far read then = absurd so_far
  after_read (Some i) (Some before) None chunk so_far read then = absurd read
  after_read (Some i) (Some before) (Some left) chunk so_far read then =
      then i left refl (rw read at so_far)

  -- at the end of the input, the line that was begun is the last
  pub at_end : {Follows : List ℕ → Type 0} {state last : S} (input before after : Known)
      {start : List ℕ} {old mid : Known} (count : ℕ) (buffer : List ℕ)
      → IsPrompt rule state last input before start old mid
      → Consumes before after (take count buffer)
      × (count ≡ 0 → 0 < length buffer → IsAtEnd after) → count ≡ 0 → 0 < length buffer
      → ((i : List ℕ) → AppendsWhole rule state last i start [] old mid → Follows i)
      → IfSome input Follows
  at_end input before after count buffer so_far read zero room then =
      after_read input before after [] so_far (rw zero at read.0)
      (λ i left known whole. then i (rw (rw known at (read.1 zero room)) at whole))

module _ {S : Type 0} (rule : Rule S) where
  pub run_begins : (state : S) (input known : Known)
      → IsPrompt rule state state input input [] known known
  run_begins state None known = tt
  run_begins state (Some input) known = whole_begins no_line

  -- a fault of the reader consumed no bytes
  pub run_kept : (state next : S) (input before after : Known) (start : List ℕ)
      (old new : Known) → IsPrompt rule state next input before start old new
      → Keeps before after → IsPrompt rule state next input after start old new
  run_kept state next None before after start old new so_far kept = tt
  run_kept state next (Some input) None after start old new so_far kept = absurd so_far
  run_kept state next (Some input) (Some before) None start old new so_far kept = kept
  run_kept state next (Some input) (Some before) (Some after) start old new so_far kept =
      rw kept so_far

  pub run_prompt : (state next : S) (input left : Known) (start : List ℕ)
      (old new : Known) → IsPrompt rule state next input left start old new
      → IfSome input (λ i. IfSome left
      (λ l. (b : List ℕ) × AppendsWhole rule state next i b l old new))
  run_prompt state next None left start old new so_far = tt
  run_prompt state next (Some input) None start old new so_far = tt
  run_prompt state next (Some input) (Some left) start old new so_far = (start, so_far)

  -- a fault without anything more written
  pub run_stops : (state next : S) (input left : Known) (start : List ℕ)
      (old new : Known) → IsPrompt rule state next input left start old new
      → IfSome input (λ i. AppendsBeginning rule state i old new)
  run_stops state next None left start old new so_far = tt
  run_stops state next (Some input) None start old new so_far = absurd so_far
  run_stops state next (Some input) (Some left) start old new so_far =
      beginning_after_whole so_far beginning_of_none

-- ---- the form of a call's clauses

pub on_err : {T E : Type 0} (r : Result T E) (P : Type 0) → P → OnErr r P
on_err (Ok x) P p = tt
on_err (Err e) P p = p
