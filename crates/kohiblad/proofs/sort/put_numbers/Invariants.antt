use Rattle.std.proofs.Common.{◌≡◌, ◌++◌, take, drop, map}
use Rattle.kohiblad.proofs.sort.put_numbers.Given as goal

abbrev pub invariant-loop-number : goal.invariant-loop-number
invariant-loop-number l =
    l.order ≡ map (λ key. key.1) (take l.number l.keys) ++ drop l.number l.fn.order
