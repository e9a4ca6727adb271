use Rattle.std.proofs.Common.{◌≡◌, ◌⊎◌, ℕ, List, inl, inr, refl, rules}
use Rattle.answer_lines.specs.Session.{IsNoMemoryReply}
use Rattle.jsonb_cli.specs.Commands.{Form, IsOfForm}
use Rattle.jsonb_cli.specs.Answers.{IsAnswer, of_form, IsFormAnswer, IsAnswerOrRefusal, OneAnswer}
use Rattle.jsonb_cli.specs.Answers.{IsBadCommand, IsExactReply, IsLineReply, of_none}
use Rattle.jsonb_cli.proofs.SomeAnswer.{exactly_one}
use Rattle.jsonb_cli.proofs.command.answer.Goals as goal

-- a reply to a command is a reply to its line
reply_of_form : (form : Form) (line reply : List ℕ) → IsOfForm form line
    → IsAnswerOrRefusal IsFormAnswer form reply → IsAnswerOrRefusal IsAnswer line reply
reply_of_form form line reply of (inl answer) = inl (of_form form of answer)
reply_of_form form line reply of (inr refused) = inr refused

-- a possible reply is the answer, or reports lack of memory
exact : (line reply : List ℕ) (one : OneAnswer line) → IsLineReply line reply
    → (reply ≡ one.answer) ⊎ IsNoMemoryReply reply
exact line reply one (inl is) = inl (one.only reply is)
exact line reply one (inr refused) = inr refused

exact_of_form : (form : Form) (line reply : List ℕ) → IsOfForm form line
    → IsAnswerOrRefusal IsFormAnswer form reply → IsExactReply line reply
exact_of_form form line reply of is =
    let possible = reply_of_form form line reply of is in
    record {
      one = exactly_one line;
      possible = possible;
      exact = exact line reply (exactly_one line) possible;
      bad = λ none. absurd (none form of);
    }

pub returns-in-Some : goal.returns-in-Some
returns-in-Some c = exact_of_form _ _ _ c.in-Some.ensures.some c.answer.ensures

exact_of_none : (line reply : List ℕ) → ((form : Form) → IsOfForm form line → ⊥)
    → IsBadCommand reply → IsExactReply line reply
exact_of_none line reply none is =
    let possible : IsLineReply line reply = inl (of_none none is) in
    record {
      one = exactly_one line;
      possible = possible;
      exact = exact line reply (exactly_one line) possible;
      bad = λ none. is;
    }

pub returns-in-None : goal.returns-in-None
returns-in-None c = exact_of_none _ _ (search rules) refl
