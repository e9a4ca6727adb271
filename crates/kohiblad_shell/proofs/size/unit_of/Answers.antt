use Rattle.std.proofs.Common.{inl, inr}
use Rattle.kohiblad_shell.specs.Sizes.{large_g, large_k, large_m, large_t, small_g, small_k}
use Rattle.kohiblad_shell.specs.Sizes.{small_m, small_t}
use Rattle.kohiblad_shell.proofs.size.unit_of.Goals as goal

pub returns-in-75 : goal.returns-in-75
returns-in-75 c = elim c.in-75.is [ inl e ↦ rw e large_k | inr e ↦ rw e small_k ]

pub returns-in-77 : goal.returns-in-77
returns-in-77 c = elim c.in-77.is [ inl e ↦ rw e large_m | inr e ↦ rw e small_m ]

pub returns-in-71 : goal.returns-in-71
returns-in-71 c = elim c.in-71.is [ inl e ↦ rw e large_g | inr e ↦ rw e small_g ]

pub returns-in-84 : goal.returns-in-84
returns-in-84 c = elim c.in-84.is [ inl e ↦ rw e large_t | inr e ↦ rw e small_t ]
