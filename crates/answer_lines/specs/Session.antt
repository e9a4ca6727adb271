-- A reply to each line, the state after each line, and what a run has written.
use Rattle.std.specs.Prelude.{◌≡◌, ◌⊎◌, ℕ, List, [], ◌∷◌, ◌++◌, All, Option, None, Some, codes, ⊤}
use Rattle.std.specs.Io.KnownBytes.{Appends}
use Rattle.answer_lines.specs.Lines.{line_bytes, IsLine, AreLines}

-- Allowed replies to a line in a state, and the next state.
abbrev pub Rule : Type 0 → Type 1
Rule S = S → List ℕ → List ℕ → S → Type 0

-- The line reports that there was not enough memory.
abbrev pub IsNoMemoryReply : List ℕ → Type 0
IsNoMemoryReply reply = reply ≡ codes "error OutOfMemory"

-- The reply follows the rule, or reports lack of memory and leaves the state unchanged.
abbrev pub IsReply : {S : Type 0} → Rule S → S → List ℕ → List ℕ → S → Type 0
IsReply rule state line reply next =
    rule state line reply next ⊎ (IsNoMemoryReply reply × (next ≡ state))

-- One reply to each line, in order, each in the state that the previous line left.
pub data Session {S : Type 0} (rule : Rule S) : S → List (List ℕ) → List (List ℕ) → S → Type 0
  where
    none : {state : S} → Session rule state [] [] state
    more : {state next end : S} {line reply : List ℕ} {lines replies : List (List ℕ)}
        → IsReply rule state line reply next → Session rule next lines replies end
        → Session rule state (line ∷ lines) (reply ∷ replies) end

-- The output has exactly one reply to each line of the input, in order, each followed by a line
-- feed.
pub record Replies {S : Type 0} (rule : Rule S) (state end : S) (input output : List ℕ) : Type 0
  where
    pub lines : List (List ℕ)
    pub replies : List (List ℕ)
    pub of_input : AreLines input lines
    pub session : Session rule state lines replies end
    pub bytes : output ≡ line_bytes replies

-- The output has exactly one reply to each line of the input, and none reports lack of memory.
pub record AreAnswers {S : Type 0} (rule : Rule S) (state : S) (input output : List ℕ) : Type 0
  where
    pub end : S
    pub all : Replies rule state end input output
    pub no_refusal : All (λ reply. IsNoMemoryReply reply → ⊥) all.replies

-- The replies to the input were appended.
pub record AppendsReplies {S : Type 0} (rule : Rule S) (state end : S) (input : List ℕ)
    (old new : Option (List ℕ)) : Type 0 where
  pub written : List ℕ
  pub replies : Replies rule state end input written
  pub appends : Appends old new written

-- A prefix of the replies to the input was appended.
pub record AppendsBeginning {S : Type 0} (rule : Rule S) (state : S) (input : List ℕ)
    (old new : Option (List ℕ)) : Type 0 where
  pub end : S
  pub written : List ℕ
  pub unwritten : List ℕ
  pub replies : Replies rule state end input (written ++ unwritten)
  pub appends : Appends old new written

-- The replies to some whole lines at the start of the input were appended; a line that was begun
-- follows them, and then the rest.
pub record AppendsWhole {S : Type 0} (rule : Rule S) (state next : S) (input start left : List ℕ)
    (old new : Option (List ℕ)) : Type 0 where
  pub lines : List (List ℕ)
  pub replies : List (List ℕ)
  pub parts : input ≡ line_bytes lines ++ (start ++ left)
  pub whole_lines : All IsLine lines
  pub start_line : IsLine start
  pub session : Session rule state lines replies next
  pub appends : Appends old new (line_bytes replies)

-- Where the bytes are known, the whole lines that were read are answered; a line that was begun
-- follows them.
abbrev pub IsPrompt : {S : Type 0} → Rule S → S → S → Option (List ℕ) → Option (List ℕ) → List ℕ
    → Option (List ℕ) → Option (List ℕ) → Type 0
IsPrompt rule state next None left start old new = ⊤
IsPrompt rule state next (Some input) None start old new = ⊥
IsPrompt rule state next (Some input) (Some left) start old new =
    AppendsWhole rule state next input start left old new
