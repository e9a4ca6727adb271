use Rattle.array_items.proofs.ArrayTextBack.{array_back}
use Rattle.array_items.proofs.ArrayTextLaws.{array_reads, one_reading}
use Rattle.array_items.proofs.laws.array_laws.Goals as goal

pub returns : goal.returns
returns c = record { reads = array_reads; is_array = array_back; one_reading = one_reading }
