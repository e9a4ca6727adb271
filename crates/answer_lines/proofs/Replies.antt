-- Replies to lines that are read in parts.
use Rattle.std.proofs.Common.{◌≡◌, ◌≢◌, ℕ, ◌==◌, Bool, true, false, List, [], ◌∷◌, ◌++◌, refl, sym}
use Rattle.std.proofs.Common.{◌∙◌, append_assoc, arith, inr, length}
use Rattle.std.proofs.lemmas.Bool.Decides.{nat_tests}
use Rattle.std.proofs.lemmas.List.{append-nil}
use Rattle.std.proofs.lemmas.List.Elements.{All-nil, All-cons, All-head, All-tail, All-append}
use Rattle.std.specs.Prelude.{All, Some, codes}
use Rattle.std.specs.Io.KnownBytes.{Appends}
use Rattle.answer_lines.specs.Output.{AppendsPrefix}
use Rattle.answer_lines.specs.Lines.{line_bytes, IsLine, AreLines, last_line}
use Rattle.answer_lines.specs.Session.{Rule, IsReply, Session, none, more, Replies}
use Rattle.answer_lines.specs.Session.{AppendsReplies, AppendsBeginning, AppendsWhole}
use Rattle.answer_lines.proofs.Output.{Known, appends_nothing, appends_both}
use Rattle.answer_lines.proofs.Cuts.{not_before, one_cut_at}

abbrev pub no_feed : ℕ → Type 0
no_feed b = b ≢ 10

pub no_line : IsLine []
no_line = All-nil no_feed

pub ended-append : (xs ys : List (List ℕ)) → line_bytes (xs ++ ys) ≡ line_bytes xs ++ line_bytes ys
ended-append [] ys = refl
ended-append (x ∷ xs) ys = rw (ended-append xs ys, append_assoc)

pub Session-append : {S : Type 0} {rule : Rule S} {state mid end : S}
    {xs xs' ys ys' : List (List ℕ)}
    → Session rule state xs ys mid → Session rule mid xs' ys' end
    → Session rule state (xs ++ xs') (ys ++ ys') end
Session-append none later = later
Session-append (more first others) later = more first (Session-append others later)

-- ---- any bytes have lines

abbrev HasLines : List ℕ → Type 0
HasLines bytes = (lines : List (List ℕ)) × AreLines bytes lines

lines_from : {bytes : List ℕ} (whole : List (List ℕ)) (rest : List ℕ)
    → bytes ≡ line_bytes whole ++ rest → All IsLine whole → IsLine rest
    → AreLines bytes (whole ++ last_line rest)
lines_from whole rest parts lines one = record {
  whole = whole;
  rest = rest;
  parts = parts;
  lines_are = refl;
  whole_lines = lines;
  rest_line = one;
}

lines_step : (b : ℕ) (bytes : List ℕ) (t : Bool) (whole : List (List ℕ)) (rest : List ℕ)
    → (b == 10) ≡ t → bytes ≡ line_bytes whole ++ rest → All IsLine whole → IsLine rest
    → HasLines (b ∷ bytes)
lines_step b bytes true whole rest test parts lines one =
    let feed : b ≡ 10 = grind (arith, nat_tests) in
    (_, lines_from ([] ∷ whole) rest (cc) (All-cons IsLine [] whole no_line lines) one)
lines_step b bytes false [] rest test parts lines one =
    let other : b ≢ 10 = grind (arith, nat_tests) in
    (_, lines_from [] (b ∷ rest) (cc) lines (All-cons no_feed b rest other one))
lines_step b bytes false (line ∷ whole) rest test parts lines one =
    let other : b ≢ 10 = grind (arith, nat_tests) in
    let first = All-cons no_feed b line other (All-head IsLine line whole lines) in (
      _,
      lines_from ((b ∷ line) ∷ whole) rest (cc)
          (All-cons IsLine (b ∷ line) whole first (All-tail IsLine line whole lines)) one,
    )

pub lines_of : (bytes : List ℕ) → HasLines bytes
lines_of [] = ([], lines_from [] [] refl (All-nil IsLine) no_line)
lines_of (b ∷ bytes) =
    let (lines, are) = lines_of bytes in
    lines_step b bytes (b == 10) are.whole are.rest refl are.parts are.whole_lines are.rest_line

-- ---- the lines of bytes are unique

one_ended : (xs ys : List (List ℕ)) (r s : List ℕ) → All IsLine xs → All IsLine ys → IsLine r
    → IsLine s → line_bytes xs ++ r ≡ line_bytes ys ++ s → (xs ≡ ys) × (r ≡ s)
one_ended [] [] r s lines others one also same = (refl, same)
one_ended [] (y ∷ ys) r s lines others one also same =
    let feed = rw append_assoc at same in
    absurd (not_before 10 y (line_bytes ys ++ s) (rw feed at one))
one_ended (x ∷ xs) [] r s lines others one also same =
    let feed = rw append_assoc at (sym same) in
    absurd (not_before 10 x (line_bytes xs ++ r) (rw feed at also))
one_ended (x ∷ xs) (y ∷ ys) r s lines others one also same =
    let (head, later) = one_cut_at 10 x y (line_bytes xs ++ r) (line_bytes ys ++ s)
    (All-head IsLine x xs lines) (All-head IsLine y ys others) (simp append_assoc at same) in
    let (tail, rest) = one_ended xs ys r s (All-tail IsLine x xs lines)
    (All-tail IsLine y ys others) one also later in (cc, rest)

pub one_lines : (bytes : List ℕ) (xs ys : List (List ℕ)) → AreLines bytes xs → AreLines bytes ys
    → xs ≡ ys
one_lines bytes xs ys first second =
    let (whole, rest) =
    one_ended first.whole second.whole first.rest second.rest first.whole_lines second.whole_lines
    first.rest_line second.rest_line
    (sym first.parts ∙ second.parts) in
    cc

-- ---- every line has a reply, if only that memory is lacking

-- The bytes are a reply to the line, with its line feed.
pub record IsReplyTo {S : Type 0} (rule : Rule S) (state next : S) (line bytes : List ℕ) : Type 0
  where
    pub reply : List ℕ
    pub is : IsReply rule state line reply next
    pub bytes_are : bytes ≡ reply ++ 10 ∷ []

module _ {S : Type 0} {rule : Rule S} where
  some_session : (state : S) (lines : List (List ℕ))
      → (replies : List (List ℕ)) × Session rule state lines replies state
  some_session state [] = ([], none)
  some_session state (line ∷ lines) =
      let (replies, session) = some_session state lines in
      (codes "error OutOfMemory" ∷ replies, more (inr (refl, refl)) session)

  some_replies : (state : S) (bytes : List ℕ)
      → (output : List ℕ) × Replies rule state state bytes output
  some_replies state bytes =
      let (lines, are) = lines_of bytes in
      let (replies, session) = some_session state lines in (
        line_bytes replies,
        record {
          lines = lines;
          replies = replies;
          of_input = are;
          session = session;
          bytes = refl;
        },
      )

  -- whole lines, followed by other bytes
  replies_after : {state mid end : S} {lines replies : List (List ℕ)} {rest output : List ℕ}
      → All IsLine lines → Session rule state lines replies mid
      → Replies rule mid end rest output
      → Replies rule state end (line_bytes lines ++ rest) (line_bytes replies ++ output)
  replies_after {lines = lines} {replies = replies} whole session later = record {
    lines = lines ++ later.lines;
    replies = replies ++ later.replies;
    of_input = record {
      whole = lines ++ later.of_input.whole;
      rest = later.of_input.rest;
      parts = rw (ended-append, append_assoc, ← later.of_input.parts);
      lines_are = rw (append_assoc, ← later.of_input.lines_are);
      whole_lines = All-append IsLine lines later.of_input.whole whole later.of_input.whole_lines;
      rest_line = later.of_input.rest_line;
    };
    session = Session-append session later.session;
    bytes = rw (ended-append, ← later.bytes);
  }

  -- a last line without a line feed
  replies_last : {state next : S} (line : List ℕ) {bytes : List ℕ} → line ≢ [] → IsLine line
      → IsReplyTo rule state next line bytes → Replies rule state next line bytes
  replies_last [] some one is = absurd (some refl)
  replies_last (b ∷ rest) some one is = record {
    lines = (b ∷ rest) ∷ [];
    replies = is.reply ∷ [];
    of_input = lines_from [] (b ∷ rest) refl (All-nil IsLine) one;
    session = more is.is none;
    bytes = is.bytes_are;
  }

  -- ---- what was appended for a last line

  pub last_none : {state : S} (rest : List ℕ) {known : Known} → length rest ≡ 0
      → AppendsReplies rule state state rest known known
  last_none [] empty = record {
    written = [];
    replies = record {
      lines = [];
      replies = [];
      of_input = lines_from [] [] refl (All-nil IsLine) no_line;
      session = none;
      bytes = refl;
    };
    appends = appends_nothing _;
  }
  last_none (b ∷ rest) empty = absurd (omega arith)

  pub appends_last : {state next : S} {line bytes : List ℕ} {old new : Known}
      → line ≢ [] → IsLine line → IsReplyTo rule state next line bytes → Appends old new bytes
      → AppendsReplies rule state next line old new
  appends_last some one is then =
      record { written = _; replies = replies_last _ some one is; appends = then }

  pub begins_last : {state next : S} {line bytes : List ℕ} {old new : Known}
      → line ≢ [] → IsLine line → IsReplyTo rule state next line bytes
      → AppendsPrefix old new bytes → AppendsBeginning rule state line old new
  begins_last {next = next} some one is start = record {
    end = next;
    written = start.written;
    unwritten = start.unwritten;
    replies = rw (← start.parts) (replies_last _ some one is);
    appends = start.appends;
  }

  -- ---- what was appended after some whole lines

  pub replies_after_whole : {state next end : S} {input start : List ℕ}
      {old mid new : Known} → AppendsWhole rule state next input start [] old mid
      → AppendsReplies rule next end start mid new → AppendsReplies rule state end input old new
  replies_after_whole so_far then = record {
    written = line_bytes so_far.replies ++ then.written;
    replies = rw (so_far.parts, append-nil)
        (replies_after so_far.whole_lines so_far.session then.replies);
    appends = appends_both _ _ _ _ _ so_far.appends then.appends;
  }

  pub beginning_after_whole : {state next : S} {input start left : List ℕ}
      {old mid new : Known} → AppendsWhole rule state next input start left old mid
      → AppendsBeginning rule next (start ++ left) mid new
      → AppendsBeginning rule state input old new
  beginning_after_whole so_far then = record {
    end = then.end;
    written = line_bytes so_far.replies ++ then.written;
    unwritten = then.unwritten;
    replies = rw (so_far.parts, append_assoc)
        (replies_after so_far.whole_lines so_far.session then.replies);
    appends = appends_both _ _ _ _ _ so_far.appends then.appends;
  }

  -- a fault before a write
  pub beginning_of_none : {state : S} {known : Known} {bytes : List ℕ}
      → AppendsBeginning rule state bytes known known
  beginning_of_none {state = state} {bytes = bytes} =
      let (output, replies) = some_replies state bytes in
      record {
        end = state;
        written = [];
        unwritten = output;
        replies = replies;
        appends = appends_nothing _;
      }

  -- a fault while whole lines are answered
  pub beginning_within : {state next : S} {input start left output : List ℕ} (later : List ℕ)
      {old new : Known}
      → AppendsWhole rule state next input start left (Some []) (Some output)
      → AppendsPrefix old new output → AppendsBeginning rule state (input ++ later) old new
  beginning_within {next = next} {start = start} {left = left} later so_far prefix =
      let (output, replies) = some_replies next (start ++ (left ++ later)) in
      record {
        end = next;
        written = prefix.written;
        unwritten = prefix.unwritten ++ output;
        replies = rw (
          so_far.parts,
          append_assoc,
          append_assoc,
          ← append_assoc prefix.written prefix.unwritten output,
          ← prefix.parts,
          so_far.appends,
        ) (replies_after so_far.whole_lines so_far.session replies);
        appends = prefix.appends;
      }
