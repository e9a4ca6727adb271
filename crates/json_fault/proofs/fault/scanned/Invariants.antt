use Rattle.std.proofs.Common.{reverse}
use Rattle.std.specs.Str.Iter.{char_indices_rest, char_indices_offset}
use Rattle.json_fault.proofs.Offsets.{IsAt}
use Rattle.json_fault.proofs.fault.scanned.Given as goal

abbrev pub invariant-scan : goal.invariant-scan
invariant-scan l =
    (goal.iterator-scan).can_next l.offset-iterator
    × ((goal.iterator-scan).is_finite l.offset-iterator
    × IsAt l.fn.exponents l.fn.text (char_indices_rest l.offset-iterator)
    (char_indices_offset l.offset-iterator) l.expected (reverse l.brackets.items))
