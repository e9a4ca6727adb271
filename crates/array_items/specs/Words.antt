-- The names that the clauses of this crate cite, passed on from one place.
pub use Rattle.std.specs.IoError.{error_kind}
pub use Rattle.jsonb_value.specs.Json.Characters.{is_blank}
pub use Rattle.array_items.specs.Arrays.{BeginsArray, ReadsItem, item_at_end, item_at_first}
pub use Rattle.array_items.specs.Arrays.{item_at_next, item_in}
pub use Rattle.array_items.specs.Blanks.{PassesBlanks, PassesHeld, left_after, next_of}
pub use Rattle.array_items.specs.Blanks.{trimmed}
pub use Rattle.array_items.specs.Faults.{read_fault}
pub use Rattle.array_items.specs.Lines.{begins_container}
pub use Rattle.array_items.specs.Values.{ReadsValue, TakesHeld, TakesValue, begins_value, closes}
pub use Rattle.array_items.specs.Values.{container_step, ended, ends_word, first_step, has_ended}
pub use Rattle.array_items.specs.Values.{left_from, opens, place_after, step_at, text_step}
pub use Rattle.array_items.specs.Values.{value_from}
pub use Rattle.array_items.specs.declared.value.Place.TheVariants.{Before}
