use Rattle.std.proofs.Common.{rules, ◌≡◌, ◌-◌, chars, map, option_map, Ok, arith}
use Rattle.jsonb_path.specs.Character.{byte_len}
use Rattle.jsonb_path.specs.Token.{lexed, lexeme_of, placed_of, with_token}
use Rattle.jsonb_path.proofs.TokenLaws.{lexed_shorter, tokens_go_on}
use Rattle.jsonb_path.proofs.token.tokens.Goals as goal

pub tokens-smaller : goal.tokens-smaller
tokens-smaller c =
    let read : lexed (chars c.tokens.left.now)
    ≡ Ok (option_map lexeme_of c.in-Ok.token, chars c.in-Ok.rest.now) =
    first_of (search rules, cc, cc c.in-Ok.ensures, grind arith) in
    lexed_shorter (chars c.tokens.left.now) _ _
    (option_map lexeme_of c.in-Ok.token, chars c.in-Ok.rest.now) c.in-Some.ensures read

pub tokens-preserved : goal.tokens-preserved
tokens-preserved c = (
  search rules,
  let read : lexed (chars c.tokens.left.now)
      ≡ Ok (option_map lexeme_of c.in-Ok.token, chars c.in-Ok.rest.now) =
      first_of (search rules, cc, cc c.in-Ok.ensures, grind arith) in
      let place : c.saturating_sub-at.result
      ≡ byte_len (chars c.args.text.now) - byte_len (chars c.tokens.left.now) =
      first_of (search rules, cc, grind arith) in
      let pushed : map placed_of c.push_token.new.tokens.items
      ≡ with_token c.saturating_sub-at.result (map placed_of c.tokens.tokens.items)
      (option_map lexeme_of c.in-Ok.token) =
      first_of (search rules, cc, grind arith) in
      tokens_go_on (byte_len (chars c.args.text.now)) c.saturating_sub-at.result
      (map placed_of c.tokens.tokens.items) (map placed_of c.push_token.new.tokens.items)
      (chars c.tokens.left.now) _ _ (option_map lexeme_of c.in-Ok.token) (chars c.in-Ok.rest.now)
      _ c.in-Some.ensures read place pushed c.tokens.invariant.1,
)
