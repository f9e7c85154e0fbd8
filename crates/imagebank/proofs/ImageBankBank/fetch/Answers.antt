use Rattle.std.proofs.Common.{length, vec_items, ap, arith}
use Rattle.words.specs.Format.{imaged}
use Rattle.imagebank.proofs.ImageBankBank.fetch.Goals as goal
use Rattle.imagebank.proofs.Writes.{fits_there}

pub told_record-requires : goal.told_record-requires
told_record-requires c =
    let b = c.args.self.now in
    let ws = vec_items b.words in
    let ok = c.in_ok-check_call.ensures (imaged ws) c.layout-layout.ensures c.in_reach.ensures in
    let inside = fits_there ws b.sound c.args.station c.args.entry ok _ c.layout-layout.ensures _ c.place_of_record-place.ensures in
    omega (arith, inside.0, ap length c.as_slice.ensures.value)
