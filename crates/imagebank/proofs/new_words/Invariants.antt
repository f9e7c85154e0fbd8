use Rattle.std.proofs.Common.{◌≡◌, vec_items}
use Rattle.banks.specs.Making.{new_bank}
use Rattle.words.specs.Format.{record_place, station_place}
use Rattle.imagebank.proofs.NewWords.{words_before}
use Rattle.imagebank.proofs.new_words.Given as goal

-- the words so far are those before the station, and those before the record
abbrev pub invariant-loop-station : goal.invariant-loop-station
invariant-loop-station l = vec_items l.words ≡ words_before (new_bank l.sizes.kind l.first.plain.payloads l.sizes.stations l.sizes.entries) (station_place l.sizes.entries l.station)

abbrev pub invariant-loop-entry : goal.invariant-loop-entry
invariant-loop-entry l = vec_items l.words ≡ words_before (new_bank l.sizes.kind l.first.plain.payloads l.sizes.stations l.sizes.entries) (record_place l.sizes.entries l.station l.entry)
