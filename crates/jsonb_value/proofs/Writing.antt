-- Consecutive writes to a formatter are one write of the concatenation.
use Rattle.std.proofs.Common.{arith}
use Rattle.std.proofs.Common.{◌≡◌, ℕ, List, ◌++◌}
use Rattle.std.proofs.Output.{has_written_styled_append, has_written_styled_of_eq}
use Rattle.std.proofs.lemmas.Str.{encode_ascii}
use Rattle.std.specs.declared.fmt.Formatter.{Formatter}
use Rattle.std.specs.Fmt.{HasWrittenStyled}

module _ {W : Type 0} (took : W → List ℕ → W → Type 0) where
  pub joins_two : (f g h : Formatter W) (a b all : List ℕ) → HasWrittenStyled took f a g
      → HasWrittenStyled took g b h → a ++ b ≡ all → HasWrittenStyled took f all h
  joins_two f g h a b all p q is =
      grind (arith, has_written_styled_of_eq, has_written_styled_append)

  pub joins_three : (f g h i : Formatter W) (a b c all : List ℕ) → HasWrittenStyled took f a g
      → HasWrittenStyled took g b h → HasWrittenStyled took h c i → a ++ (b ++ c) ≡ all
      → HasWrittenStyled took f all i
  joins_three f g h i a b c all p q r is = grind (arith, joins_two, has_written_styled_append)

  pub joins_five : (f g h i j k : Formatter W) (a b c d e all : List ℕ)
      → HasWrittenStyled took f a g → HasWrittenStyled took g b h → HasWrittenStyled took h c i
      → HasWrittenStyled took i d j → HasWrittenStyled took j e k
      → a ++ (b ++ (c ++ (d ++ e))) ≡ all → HasWrittenStyled took f all k
  joins_five f g h i j k a b c d e all p q r s t is =
      grind (arith, joins_three, has_written_styled_append)

pub ruleset joins = (joins_two, joins_three, joins_five, encode_ascii)
