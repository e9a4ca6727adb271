use Rattle.std.proofs.Common.{◌≡◌, ◌≤◌, ◌∷◌, ℕ, length, rules, subst, sym, ap}
use Rattle.std.proofs.Common.{zero-add}
use Rattle.kohiblad.specs.Locating.{spans_from}
use Rattle.kohiblad.proofs.LocatingLaws.{later_offsets, none_located, one_more_located, room_left}
use Rattle.kohiblad.proofs.locating.locate_rows.Goals as goal

pub loop-end-init : goal.loop-end-init
loop-end-init c = record {
  offsets = c.requires.offsets;
  room = subst (λ (n : ℕ). n ≤ length c.args.places.now) (sym (zero-add _)) c.requires.room;
  so_far = none_located c.args.reading c.args.bytes.now c.args.names.now
      (spans_from c.args.start c.args.ends.now) c.args.places.now;
}

pub loop-end-preserved : goal.loop-end-preserved
loop-end-preserved c =
    let bytes = c.args.bytes.now in
    let names = c.args.names.now in
    let walk = c.loop-end in
    let end = c.in-Some.field-0-0.now in
    let later = c.in-Some.later.now in
    let cut : walk.left.now ≡ end ∷ later = search rules in
    let (found, (are, put)) = c.locate_row.ensures in
    record {
      offsets = later_offsets (length bytes) walk.start end walk.left.now later cut
          walk.invariant.offsets;
      room = room_left walk.at (length names) (length c.args.places.now) end walk.left.now later cut
          walk.invariant.room;
      so_far = one_more_located c.args.reading bytes names
          (spans_from c.args.start c.args.ends.now) (spans_from walk.start walk.left.now)
          (spans_from end later) (walk.start, end) walk.at
          c.args.places.now walk.places c.locate_row.new.places found walk.invariant.so_far
          (ap (spans_from walk.start) cut) are put;
    }
