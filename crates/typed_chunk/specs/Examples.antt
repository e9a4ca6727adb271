-- Examples of codes and of texts in bytes.
use Rattle.std.specs.Prelude.{◌≡◌, [], ◌∷◌, false, pos, true}
use Rattle.typed_chunk.specs.BooleanChunk.{boolean_chunk}
use Rattle.typed_chunk.specs.Dictionary.{dictionary_bytes}
use Rattle.typed_chunk.specs.Headed.{headed}
use Rattle.typed_chunk.specs.NumberChunk.{number_chunk}
use Rattle.typed_chunk.specs.Packed.{least_width, packed}
use Rattle.typed_chunk.specs.TextChunk.{text_chunk}
use Rattle.typed_chunk.specs.Texts.{text_bytes}

-- Codes of one width, the lowest bits first; bits past the last code are 0.
pub record PackedExamples : Type 0 where
  pub of_no_bits : packed 0 (0 ∷ 0 ∷ 0 ∷ []) ≡ []
  pub of_1_bit : packed 1 (1 ∷ 0 ∷ 1 ∷ 1 ∷ 0 ∷ 0 ∷ 0 ∷ 0 ∷ 1 ∷ []) ≡ 13 ∷ 1 ∷ []
  pub of_2_bits : packed 2 (3 ∷ 0 ∷ 1 ∷ 2 ∷ 1 ∷ []) ≡ 0x93 ∷ 1 ∷ []
  pub of_4_bits : packed 4 (1 ∷ 15 ∷ 7 ∷ []) ≡ 0xf1 ∷ 7 ∷ []
  pub of_8_bits : packed 8 (1 ∷ 255 ∷ []) ≡ 1 ∷ 255 ∷ []
  pub of_16_bits : packed 16 (0x102 ∷ 3 ∷ []) ≡ 2 ∷ 1 ∷ 3 ∷ 0 ∷ []

-- The least widths.
pub record WidthExamples : Type 0 where
  pub of_0 : least_width 0 ≡ 0
  pub of_1 : least_width 1 ≡ 1
  pub of_3 : least_width 3 ≡ 2
  pub of_4 : least_width 4 ≡ 4
  pub of_16 : least_width 16 ≡ 8
  pub of_256 : least_width 256 ≡ 16
  pub of_65536 : least_width 65536 ≡ 32
  pub of_2_to_32 : least_width 0x1_0000_0000 ≡ 64

-- A width, a head and codes.
pub record HeadedExamples : Type 0 where
  pub of_codes : headed (7 ∷ 9 ∷ []) (0 ∷ 5 ∷ 3 ∷ []) ≡ 4 ∷ 7 ∷ 9 ∷ 0x50 ∷ 3 ∷ []
  pub of_zeros : headed (7 ∷ 9 ∷ []) (0 ∷ 0 ∷ []) ≡ 0 ∷ 7 ∷ 9 ∷ []

-- Texts by their common beginning, which a row that has no text does not end.
pub record TextExamples : Type 0 where
  pub of_two : text_bytes ((1 ∷ 2 ∷ []) ∷ (1 ∷ 3 ∷ 4 ∷ []) ∷ []) (true ∷ true ∷ [])
      ≡ 1 ∷ 1 ∷ 1 ∷ 0 ∷ 0 ∷ 0 ∷ 1 ∷ 2 ∷ 2 ∷ 3 ∷ 4 ∷ []
  pub beside_none : text_bytes ((1 ∷ 2 ∷ []) ∷ [] ∷ (1 ∷ 2 ∷ []) ∷ []) (true ∷ false ∷ true ∷ [])
      ≡ 2 ∷ 1 ∷ 2 ∷ 0 ∷ 0 ∷ 0 ∷ 0 ∷ 0 ∷ []

-- A dictionary of two texts that three rows have.
pub record DictionaryExamples : Type 0 where
  pub of_two : dictionary_bytes ((4 ∷ []) ∷ (5 ∷ []) ∷ []) (1 ∷ 0 ∷ 1 ∷ [])
      ≡ 1 ∷ 0 ∷ 0 ∷ 0 ∷ 0 ∷ 0 ∷ 1 ∷ 4 ∷ 5 ∷ 5 ∷ []

-- Chunks of numbers: packed beside a row that has none, and of rows of which none has one.
pub record NumberChunkExamples : Type 0 where
  pub beside_none : number_chunk (pos 5 ∷ pos 7 ∷ pos 0 ∷ pos 200 ∷ pos 6 ∷ [])
      (true ∷ true ∷ false ∷ true ∷ true ∷ [])
      ≡ 2 ∷ 0x1b ∷ 0 ∷ 8 ∷ 0 ∷ 0 ∷ 0 ∷ 0 ∷ 0 ∷ 0 ∷ 0 ∷ 5 ∷ 0 ∷ 2 ∷ 0 ∷ 0xc3 ∷ 1 ∷ []
  pub of_none : number_chunk (pos 5 ∷ pos 7 ∷ []) (false ∷ false ∷ []) ≡ 0 ∷ []

-- Chunks of texts: as they are, beside a row that has none; as a dictionary, which is shorter; as
-- they are where both are as short; and of rows of which none has one.
pub record TextChunkExamples : Type 0 where
  pub beside_none : text_chunk ((1 ∷ 2 ∷ []) ∷ [] ∷ (1 ∷ 3 ∷ []) ∷ []) (true ∷ false ∷ true ∷ [])
      ≡ 2 ∷ 5 ∷ 0 ∷ 1 ∷ 1 ∷ 1 ∷ 0 ∷ 0 ∷ 0 ∷ 0 ∷ 5 ∷ 2 ∷ 3 ∷ []
  pub of_two : text_chunk ((1 ∷ 1 ∷ 1 ∷ []) ∷ (2 ∷ 2 ∷ 2 ∷ []) ∷ (1 ∷ 1 ∷ 1 ∷ []) ∷ [])
      (true ∷ true ∷ true ∷ [])
      ≡ 1 ∷ 2 ∷ 1 ∷ 0 ∷ 0 ∷ 0 ∷ 0 ∷ 0 ∷ 3 ∷ 1 ∷ 1 ∷ 1 ∷ 2 ∷ 2 ∷ 2 ∷ 2 ∷ []
  pub as_short : text_chunk ((1 ∷ 1 ∷ []) ∷ (2 ∷ 2 ∷ []) ∷ (1 ∷ 1 ∷ []) ∷ [])
      (true ∷ true ∷ true ∷ [])
      ≡ 1 ∷ 0 ∷ 0 ∷ 0 ∷ 0 ∷ 0 ∷ 0 ∷ 2 ∷ 1 ∷ 1 ∷ 2 ∷ 2 ∷ 1 ∷ 1 ∷ []
  pub of_none : text_chunk ([] ∷ [] ∷ []) (false ∷ false ∷ []) ≡ 0 ∷ []

-- Chunks of booleans: beside a row that has none, where all are alike, and of rows of which none
-- has one.
pub record BooleanChunkExamples : Type 0 where
  pub beside_none : boolean_chunk (true ∷ false ∷ true ∷ true ∷ true ∷ [])
      (true ∷ true ∷ false ∷ true ∷ true ∷ []) ≡ 2 ∷ 0x1b ∷ 0 ∷ 1 ∷ 0 ∷ 0x19 ∷ []
  pub alike : boolean_chunk (true ∷ false ∷ true ∷ []) (true ∷ false ∷ true ∷ [])
      ≡ 2 ∷ 5 ∷ 0 ∷ 0 ∷ 1 ∷ []
  pub of_none : boolean_chunk (true ∷ false ∷ []) (false ∷ false ∷ []) ≡ 0 ∷ []
