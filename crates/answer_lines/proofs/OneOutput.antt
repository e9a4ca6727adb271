-- An input has only one output if each line has only one reply.
use Rattle.std.proofs.Common.{◌≡◌, inl, inr, ℕ, List, refl}
use Rattle.std.proofs.lemmas.List.Elements.{All-head, All-tail}
use Rattle.std.specs.Prelude.{All}
use Rattle.answer_lines.specs.Session.{Rule, IsNoMemoryReply, IsReply, Session, none, more}
use Rattle.answer_lines.specs.Session.{AreAnswers}
use Rattle.answer_lines.proofs.Replies.{one_lines}

abbrev IsGiven : List ℕ → Type 0
IsGiven reply = IsNoMemoryReply reply → ⊥

-- In each state a line has only one reply and only one next state, unless memory is lacking.
abbrev pub HasOneReply : {S : Type 0} → Rule S → Type 0
HasOneReply {S} rule = (state x y : S) (line a b : List ℕ) → rule state line a x
    → rule state line b y → IsGiven a → IsGiven b → (a ≡ b) × (x ≡ y)

module _ {S : Type 0} (rule : Rule S) (one : HasOneReply rule) where
  one_reply : {state x y : S} {line a b : List ℕ} → IsReply rule state line a x
      → IsReply rule state line b y → IsGiven a → IsGiven b → (a ≡ b) × (x ≡ y)
  one_reply (inl first) (inl second) given also = one _ _ _ _ _ _ first second given also
  one_reply (inl first) (inr refused) given also = absurd (also refused.0)
  one_reply (inr refused) second given also = absurd (given refused.0)

  one_session : {state x y : S} {lines xs ys : List (List ℕ)} → Session rule state lines xs x
      → Session rule state lines ys y → All IsGiven xs → All IsGiven ys → xs ≡ ys
  one_session none none given also = refl
  one_session (more {reply = a} {replies = xs} first others)
      (more {reply = b} {replies = ys} second rest) given also =
      let (same, left) =
      one_reply first second (All-head IsGiven a xs given) (All-head IsGiven b ys also) in
      let later = one_session (rw left at others) rest (All-tail IsGiven a xs given)
      (All-tail IsGiven b ys also) in cc

  pub one_output : (state : S) (input a b : List ℕ) → AreAnswers rule state input a
      → AreAnswers rule state input b → a ≡ b
  one_output state input a b first second =
      let asked = one_lines input _ _ first.all.of_input second.all.of_input in
      let same = one_session (rw asked at first.all.session) second.all.session first.no_refusal
      second.no_refusal in cc
