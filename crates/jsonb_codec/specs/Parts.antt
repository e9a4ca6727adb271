-- What a check finds about parts of a byte string.
use Rattle.std.specs.Prelude.{◌≡◌, ◌≢◌, ◌≤◌, ◌++◌, ℕ, List, Option, IfSome, Result, Ok, Err}
use Rattle.std.specs.Ordering.{nat_cmp}
use Rattle.std.specs.Cmp.Lexicographic.{slice_cmp}
use Rattle.std.specs.declared.cmp.Ordering.TheVariants.{Less}
use Rattle.jsonb_value.specs.declared.error.Error.{Error}
use Rattle.jsonb_value.specs.Tree.{Tree, Trees, Pairs, count, pair_count, Ascend, Ascends}
use Rattle.jsonb_codec.specs.declared.constants.TheConstants.{CONTAINER_TAG, STRING_TAG}
use Rattle.jsonb_codec.specs.Doc.{type_of, Keys, Values, Children, Payload, Body, PairsBody, Scalar}
use Rattle.jsonb_codec.specs.declared.document.fault.Fault.{Fault}
use Rattle.jsonb_codec.specs.declared.document.fault.Fault.TheVariants.{TooDeep}
use Rattle.jsonb_codec.specs.declared.document.fault.FaultTable.{FaultTable}
use Rattle.jsonb_codec.specs.Fault.{IsTreeFault, IsDecoderFault}
use Rattle.jsonb_codec.specs.Depth.{depth, depths, pair_depths}

-- This error is one that the table uses for faults.
abbrev pub IsFaultOf : FaultTable → Error → Type 0
IsFaultOf FaultTable.Tree e = IsTreeFault e
IsFaultOf FaultTable.Decoder e = IsDecoderFault e

-- The result is a success exactly if the statement holds.
abbrev pub HoldsOrFaults : {A : Type 0} → Result A Fault → Type 0 → Type 0
HoldsOrFaults (Ok x) P = P
HoldsOrFaults (Err fault) P = P → ⊥

-- The fault rules the statement out: at each depth, or, if it is a container beyond the limit, at
-- each depth within it.
abbrev pub Excludes : ℕ → Fault → (ℕ → Type 0) → Type 0
Excludes limit fault P = (d : ℕ) → (fault ≡ TooDeep → d ≤ limit) → P d → ⊥

-- The result is a success only if the statement holds at the limit, and a fault rules the statement
-- out.
abbrev pub HoldsOrExcludes : {A : Type 0} → ℕ → Result A Fault → (ℕ → Type 0) → Type 0
HoldsOrExcludes limit (Ok x) P = P limit
HoldsOrExcludes limit (Err fault) P = Excludes limit fault P

-- The payload, in an entry of this type, means the tree.
abbrev pub IsPayloadOf : ℕ → List ℕ → Tree → Type 0
IsPayloadOf type p t = (type_of t ≡ type) × Payload t p

-- The bytes are the entry words and payloads of an array of n items.
abbrev pub IsArray : ℕ → List ℕ → Trees → Type 0
IsArray n body ts = (count ts ≡ n) × Body n (Children ts) body

-- The bytes are the entry words and payloads of an object of n pairs.
abbrev pub IsObject : ℕ → List ℕ → Pairs → Type 0
IsObject n body ps = (pair_count ps ≡ n) × (Ascend ps × PairsBody n (Keys ps) (Values ps) body)

-- The entry words and payloads are those of ascending keys and of their values.
abbrev pub ArePairsOf : Pairs → List ℕ → List ℕ → List ℕ → List ℕ → Type 0
ArePairsOf ps key_entries keys value_entries values =
    Ascend ps × (Keys ps key_entries keys × Values ps value_entries values)

-- What a part, children, an object and members of a document keep: the bytes mean some tree, trees
-- or pairs.
abbrev pub IsSomePayload : ℕ → List ℕ → Type 0
IsSomePayload type p = (t : Tree) × IsPayloadOf type p t

-- The entry words and payloads are those of some trees.
abbrev pub AreSomeChildren : List ℕ → List ℕ → Type 0
AreSomeChildren entries payloads = (ts : Trees) × Children ts entries payloads

abbrev pub IsSomeObject : ℕ → List ℕ → Type 0
IsSomeObject n body = (ps : Pairs) × IsObject n body ps

-- The entry words and payloads are those of the keys and values of some pairs.
abbrev pub AreSomeMembers : List ℕ → List ℕ → List ℕ → List ℕ → Type 0
AreSomeMembers key_entries keys value_entries values =
    (ps : Pairs) × ArePairsOf ps key_entries keys value_entries values

-- The entry words are those of the keys of these pairs, whose payloads are followed by q.
abbrev pub KeysThen : Pairs → List ℕ → List ℕ → List ℕ → Type 0
KeysThen ps entries payloads q =
    (front : List ℕ) × ((payloads ≡ front ++ q) × Keys ps entries front)

-- The payload, in an entry of this type, means some tree of at most this depth.
abbrev pub HasPayload : ℕ → ℕ → List ℕ → Type 0
HasPayload limit type p = (t : Tree) × ((depth t ≤ limit) × IsPayloadOf type p t)

-- The bytes are some scalar after its header.
abbrev pub HasScalar : List ℕ → Type 0
HasScalar b = (t : Tree) × ((type_of t ≢ CONTAINER_TAG) × Scalar t b)

-- The entry words and payloads are those of some trees of at most this depth.
abbrev pub HasChildren : ℕ → List ℕ → List ℕ → Type 0
HasChildren limit entries payloads =
    (ts : Trees) × ((depths ts ≤ limit) × Children ts entries payloads)

-- The bytes are the entry words and payloads of some array of n items of at most this depth.
abbrev pub HasArray : ℕ → ℕ → List ℕ → Type 0
HasArray limit n body = (ts : Trees) × ((depths ts ≤ limit) × IsArray n body ts)

-- The bytes are the entry words and payloads of some object of n pairs of at most this depth.
abbrev pub HasObject : ℕ → ℕ → List ℕ → Type 0
HasObject limit n body = (ps : Pairs) × ((pair_depths ps ≤ limit) × IsObject n body ps)

-- The entry words are those of ascending keys, the first greater than `before`, and their payloads
-- are followed by q.
abbrev pub HasKeys : Option (List ℕ) → List ℕ → List ℕ → List ℕ → Type 0
HasKeys before entries payloads q =
    (ps : Pairs) × (Ascends before ps × KeysThen ps entries payloads q)

-- The key is greater than `before`, if there is one.
abbrev pub IsAbove : Option (List ℕ) → List ℕ → Type 0
IsAbove before key = IfSome before (λ b. slice_cmp nat_cmp b key ≡ Less)

-- The entry is a string that is greater than `before`, if there is one.
abbrev pub IsKeyAfter : Option (List ℕ) → ℕ → List ℕ → Type 0
IsKeyAfter before type key = (type ≡ STRING_TAG) × IsAbove before key
