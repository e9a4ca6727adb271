use Rattle.std.proofs.Common.{inl, inr, length, refl}
use Rattle.kohiblad.proofs.LocatingLaws.{no_place_for, place_for}
use Rattle.kohiblad.proofs.locating.locate_all.Goals as goal

pub returns-then-have_room : goal.returns-then-have_room
returns-then-have_room c =
    inr (
      place_for c.args.ends.now c.args.start (length c.args.names.now)
          c.args.places.now c.have_room.result c.have_room.ensures c.if-have_room.true,
      (refl, c.locate_rows.ensures),
    )

pub returns : goal.returns
returns c =
    inl (
      no_place_for c.args.ends.now c.args.start (length c.args.names.now)
          c.args.places.now c.have_room.result c.have_room.ensures c.if-have_room.false,
      (refl, refl),
    )
