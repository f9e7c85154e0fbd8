use Rattle.std.proofs.Common.{◌≡◌, ◌+◌, ◌∷◌, [], ◌++◌, true, vec_items, sym, ap, ◌∙◌, arith}
use Rattle.banks.proofs.Ranges.{entries_in, from_low, is_between, stations_in}
use Rattle.banks.specs.Limits.{between}
use Rattle.banks.specs.Making.{new_bank}
use Rattle.words.proofs.Images.{as_words}
use Rattle.words.specs.Format.{record_place, station_place}
use Rattle.imagebank.proofs.NewWords.{all_done, is_first, last_put, record_put, station_put, words_before}
use Rattle.imagebank.proofs.new_words.Goals as goal
use Rattle.imagebank.proofs.new_words.Goals.{else-loop-station-test, then-loop-station-test+in_ok-push-2+else-station-station-end, else-loop-entry-test, then-loop-entry-test+in_ok-extend_from_slice+else-entry-entry-end}

pub loop-entry-init : goal.loop-entry-init
loop-entry-init c =
    let z = c.args.sizes.now in
    let s = c.loop-station.station in
    let here : between 1 z.stations s ≡ true = is_between 1 z.stations s (omega arith) (omega arith) in
    let e = station_put z.kind c.args.first.now.plain.payloads z.stations z.entries s here in
    c.in_ok-push-2.ensures.items ∙ ap (λ l. l ++ (c.station_word.result ∷ [])) c.loop-station.invariant ∙ ap (λ w. words_before (new_bank z.kind c.args.first.now.plain.payloads z.stations z.entries) (station_place z.entries s) ++ (w ∷ [])) c.station_word.ensures ∙ e

pub loop-entry-preserved : goal.loop-entry-preserved
loop-entry-preserved c =
    let z = c.args.sizes.now in
    let s = c.loop-station.station in
    let e = c.loop-entry.entry in
    let r = c.args.first.now.plain in
    let here : between 1 z.stations s ≡ true = is_between 1 z.stations s (omega arith) (omega arith) in
    let there : between 1 z.entries e ≡ true = is_between 1 z.entries e (omega arith) (omega arith) in
    c.in_ok-extend_from_slice.ensures.items
    ∙ ap (λ l. l ++ c.record_words.result) c.loop-entry.invariant
    ∙ ap (λ l. words_before (new_bank z.kind r.payloads z.stations z.entries) (record_place z.entries s e) ++ l) c.record_words.ensures
    ∙ record_put z.kind r.payloads z.stations z.entries s here e r there (is_first r c.requires.1)

pub loop-station-preserved : goal.loop-station-preserved
loop-station-preserved c =
    let z = c.args.sizes.now in
    let s = c.loop-station.station in
    let e = c.loop-entry.entry in
    let r = c.args.first.now.plain in
    let one = from_low 1 48 z.entries (entries_in z.kind z.stations z.entries c.requires.0) in
    let here : between 1 z.stations s ≡ true = is_between 1 z.stations s (omega arith) (omega arith) in
    elim c.loop-entry-test.branch [
      | else-loop-entry-test w ↦ absurd (omega (arith, one, c.loop-entry.auto.entry-end, w.loop-entry-test.false))
      | then-loop-entry-test+in_ok-extend_from_slice+else-entry-entry-end w ↦
          last_put z.kind r.payloads z.stations z.entries s here e r (is_between 1 z.entries e (omega arith) (omega arith)) (is_first r c.requires.1) (omega arith) _ _ _
          c.loop-entry.invariant w.record_words.ensures (ap vec_items w.words-is ∙ w.in_ok-extend_from_slice.ensures.items)
    ]

pub returns : goal.returns
returns c =
    let z = c.args.sizes.now in
    let s = c.loop-station.station in
    let r = c.args.first.now.plain in
    let b = new_bank z.kind r.payloads z.stations z.entries in
    let first = from_low 1 64 z.stations (stations_in z.kind z.stations z.entries c.requires.0) in
    let one = from_low 1 48 z.entries (entries_in z.kind z.stations z.entries c.requires.0) in
    let here : between 1 z.stations s ≡ true = is_between 1 z.stations s (omega (arith, c.loop-station.auto.station)) (omega (arith, first, c.loop-station.auto.station-end)) in
    elim c.loop-station-test.branch [
      | else-loop-station-test w ↦ absurd (omega (arith, first, c.loop-station.auto.station-end, w.loop-station-test.false))
      | then-loop-station-test+in_ok-push-2+else-station-station-end w ↦
          let last : s ≡ z.stations = omega arith in
          let e = w.loop-entry.entry in
          let all : vec_items w.loop-entry-test.words ≡ words_before b (station_place z.entries (s + 1)) =
          elim w.loop-entry-test.branch [
            | else-loop-entry-test x ↦ absurd (omega (arith, one, w.loop-entry.auto.entry-end, x.loop-entry-test.false))
            | then-loop-entry-test+in_ok-extend_from_slice+else-entry-entry-end x ↦
                last_put z.kind r.payloads z.stations z.entries s here e r (is_between 1 z.entries e (omega arith) (omega arith)) (is_first r c.requires.1) (omega arith) _ _ _
                w.loop-entry.invariant x.record_words.ensures (ap vec_items x.words-is ∙ x.in_ok-extend_from_slice.ensures.items)
          ] in
          ap vec_items w.words-is ∙ all ∙ ap (λ k. words_before b (station_place z.entries (k + 1))) last
          ∙ ap (words_before b) (all_done z.kind r.payloads z.stations z.entries) ∙ sym (as_words b c.requires.0)
    ]
