-- The names that the clauses of this crate cite, passed on from one place.
pub use Rattle.jsonb_value.specs.Json.Characters.{is_blank, is_exponent_mark}
pub use Rattle.jsonb_value.specs.Json.Piece.{escape_value}
pub use Rattle.json_fault.specs.Classes.{any_digit, class_bit, class_bits, digit_comes}
pub use Rattle.json_fault.specs.Classes.{escape_comes, exponent_comes, followed_by}
pub use Rattle.json_fault.specs.Classes.{hex_digit_comes, key_comes, letter_bits, number_bits}
pub use Rattle.json_fault.specs.Classes.{outside, string_bits, structure_bits, value_comes}
pub use Rattle.json_fault.specs.Fault.{IsFaultAt, IsFaultAtWithExponents, IsFaultUnder, IsJson}
pub use Rattle.json_fault.specs.Fault.{IsJsonUnder, IsJsonWithExponents}
pub use Rattle.json_fault.specs.Scan.{after_backslash, after_digit, after_digit_of_d}
pub use Rattle.json_fault.specs.Scan.{after_first_digit, after_inside, past_mark, at_most, changed}
pub use Rattle.json_fault.specs.Scan.{closed_or, exponent_begun, exponent_continued, followed}
pub use Rattle.json_fault.specs.Scan.{has_scale, in_content, in_exponent, in_name, in_number}
pub use Rattle.json_fault.specs.Scan.{innermost_bracket, is_closed, is_complete, is_end, is_final}
pub use Rattle.json_fault.specs.Scan.{is_viable, limit, log10, lowering, mark_after, mark_begun}
pub use Rattle.json_fault.specs.Scan.{mark_followed, number_begun, number_continued, number_ended}
pub use Rattle.json_fault.specs.Scan.{number_first, raising, reaches, rest_begun, rest_followed}
pub use Rattle.json_fault.specs.Scan.{scale_of, skips, string_continued, takes_exponent}
pub use Rattle.json_fault.specs.Scan.{token_begun, value_begun, viable_only, with_digit, with_point}
pub use Rattle.json_fault.specs.Scan.{with_value, without_digits, word_continued, zeros}
pub use Rattle.json_fault.specs.Scan.{part_goes_on, is_unfinished, goes_on, stops_in_number}
pub use Rattle.json_fault.specs.Scan.{reason_at}
pub use Rattle.json_fault.specs.Stop.{IsExpected, IsStop}
