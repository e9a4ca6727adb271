use Rattle.jsonb_codec.specs.Canon.{shape_of}
use Rattle.kohiblad.proofs.ListedLaws.{known_shape, part_is}
use Rattle.kohiblad.proofs.listed.part_level.Goals as goal

pub level-requires : goal.level-requires
level-requires c = known_shape c.args.part

pub returns-in-Leaf-clause-is : goal.returns-in-Leaf-clause-is
returns-in-Leaf-clause-is c t h =
    rw c.in-Leaf.is at (c.level.ensures.is (shape_of t) (part_is c.args.part t h))

pub returns-in-Array-clause-is : goal.returns-in-Array-clause-is
returns-in-Array-clause-is c t h =
    rw c.in-Array.is at (c.level.ensures.is (shape_of t) (part_is c.args.part t h))

pub returns-in-Object-clause-is : goal.returns-in-Object-clause-is
returns-in-Object-clause-is c t h =
    rw c.in-Object.is at (c.level.ensures.is (shape_of t) (part_is c.args.part t h))
