use Rattle.std.proofs.Common.{◌<◌, ◌+◌, ℕ, length, slice_set, ap, ap₂, ◌∙◌, arith}
use Rattle.std.proofs.lemmas.Grind.{common_steps}
use Rattle.std.proofs.lemmas.List.{length-set}
use Rattle.kohiblad.proofs.TakenTextLaws.{one_more_low}
use Rattle.kohiblad.proofs.handed_texts.copy_low_halves.Goals as goal

pub loop-word-preserved : goal.loop-word-preserved
loop-word-preserved c =
    let walk = c.loop-word in
    let inside : walk.word-index < length c.args.words.now = grind (arith, common_steps) in
    record {
      index = ap (λ (k : ℕ). k + 1) walk.invariant.index;
      room = length-set walk.out walk.number c.low_half.result ∙ walk.invariant.room;
      copied =
          ap₂ (λ (k v : ℕ). slice_set walk.out k v) walk.invariant.index c.low_half.ensures
          ∙ one_more_low c.args.words.now c.args.out.now walk.out walk.word-index _ inside
          (omega (arith, inside, c.requires)) walk.invariant.copied;
    }
