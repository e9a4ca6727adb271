-- The type is the one that was found.
use Rattle.kohiblad_shell.proofs.extract.field_of_scalar.Goals as goal

pub returns-in-Boolean-clause-ok : goal.returns-in-Boolean-clause-ok
returns-in-Boolean-clause-ok c = rw c.in-Boolean.is c.field_by.ensures.ok

pub returns-in-Int64-clause-ok : goal.returns-in-Int64-clause-ok
returns-in-Int64-clause-ok c = rw c.in-Int64.is c.field_by-in-Int64.ensures.ok

pub returns-in-UInt64-clause-ok : goal.returns-in-UInt64-clause-ok
returns-in-UInt64-clause-ok c = rw c.in-UInt64.is c.field_by-in-UInt64.ensures.ok

pub returns-in-Decimal-clause-ok : goal.returns-in-Decimal-clause-ok
returns-in-Decimal-clause-ok c = rw c.in-Decimal.is c.field_by-in-Decimal.ensures.ok

pub returns-in-Text-clause-ok : goal.returns-in-Text-clause-ok
returns-in-Text-clause-ok c = rw c.in-Text.is c.field_of_text.ensures.ok

pub returns-in-Date-clause-ok : goal.returns-in-Date-clause-ok
returns-in-Date-clause-ok c = rw c.in-Date.is c.dated_field.ensures.ok

pub returns-in-Timestamp-clause-ok : goal.returns-in-Timestamp-clause-ok
returns-in-Timestamp-clause-ok c = rw c.in-Timestamp.is c.dated_field-in-Timestamp.ensures.ok

pub returns-in-ZonedTimestamp-clause-ok : goal.returns-in-ZonedTimestamp-clause-ok
returns-in-ZonedTimestamp-clause-ok c = rw c.in-ZonedTimestamp.is c.dated_field-in-ZonedTimestamp.ensures.ok

pub returns-in-Interval-clause-ok : goal.returns-in-Interval-clause-ok
returns-in-Interval-clause-ok c = rw c.in-Interval.is c.field_by-in-Interval.ensures.ok

pub returns-in-Binary-clause-ok : goal.returns-in-Binary-clause-ok
returns-in-Binary-clause-ok c = rw c.in-Binary.is c.field_of_binary.ensures.ok
