use Rattle.std.proofs.Common.{◌-◌, drop, refl, take}
use Rattle.kohiblad.proofs.LocatingLaws.{names_located, same_located}
use Rattle.kohiblad.proofs.locating.locate_row.Goals as goal

pub returns-in-Ok : goal.returns-in-Ok
returns-in-Ok c =
    let row = take (c.args.end - c.args.start) (drop c.args.start c.args.bytes.now) in
    let (found, (are, put)) = c.put_members.ensures in (
      found,
      (
        names_located c.args.bytes.now row c.args.start c.args.end refl c.requires.start
            c.requires.end c.in-Ok.ensures.some c.args.reading c.in-Ok.ensures.known
            c.args.names.now found are,
        put,
      ),
    )

pub returns-in-Err : goal.returns-in-Err
returns-in-Err c =
    let (found, (are, put)) = c.put_same.ensures in (
      found,
      (
        same_located c.args.reading c.args.bytes.now (c.args.start, c.args.end) c.in-Err.place
            c.args.names.now found c.in-Err.ensures.same c.in-Err.ensures.other
            c.in-Err.ensures.none are,
        put,
      ),
    )
