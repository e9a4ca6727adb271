-- The values of a type's column, and what is left beside them.
use Rattle.std.specs.Prelude.{⊤}
use Rattle.jsonb_value.specs.Tree as trees
use Rattle.jsonb_value.specs.Tree.{Tree}
use Rattle.jsonb_codec.specs.Doc.{Doc}
use Rattle.typed_vector.specs.Cells.{Cell, absent, other, value}
use Rattle.jsonb_typed.specs.declared.lattice.LeastType.{LeastType}
use Rattle.jsonb_typed.specs.declared.lattice.LeastType.TheVariants as types
use Rattle.jsonb_typed.specs.declared.numbers.Fit.{Fit}
use Rattle.jsonb_typed.specs.Scalars.{ScalarOf, Stands}

-- The values in a column of the type. Of two types none stands for a member.
abbrev pub ValueOf : LeastType → Type 0
ValueOf types.Nothing = Unit {0}
ValueOf (types.Of type) = ScalarOf type
ValueOf types.Mixed = Unit {0}

-- The value stands for the member, as in the columns of the type.
abbrev pub StandsIn : Fit → (type : LeastType) → ValueOf type → Tree → Type 0
StandsIn fit types.Nothing v t = ⊥
StandsIn fit (types.Of type) v t = Stands fit type v t
StandsIn fit types.Mixed v t = ⊥

-- The row has nothing beside its value but a document of null.
abbrev pub LeavesNull : {V : Type 0} → Cell V → Type 0
LeavesNull absent = ⊤
LeavesNull (value v) = ⊤
LeavesNull (other bytes) = Doc bytes trees.null
