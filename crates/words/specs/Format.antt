-- The image of a bank: its content as a list of words of 32 bits.
use Rattle.std.specs.Prelude.{ℕ, zero, suc, ◌+◌, ◌-◌, ◌*◌, ◌/◌, ◌%◌, Bool, false, cond, ◌&&◌, List, [], ◌∷◌, map, ◌==◌, slice_index, slice_set}
use Rattle.std.specs.List.{range_with_len}
use Rattle.values.specs.Coding.{payloads}
use Rattle.banks.specs.Limits.{allowed, between}
use Rattle.banks.specs.Making.{empty_bank, no_record, no_station_there}
use Rattle.banks.specs.Meaning.{Meaning, Station}
use Rattle.banks.specs.declared.record.Record.{Record}

-- a word: its kind in the top four bits, its payload in the other 28
abbrev pub word : ℕ → ℕ → ℕ
word kind payload = kind * 268435456 + payload

abbrev pub kind_of : ℕ → ℕ
kind_of w = w / 268435456

abbrev pub payload_of : ℕ → ℕ
payload_of w = w % 268435456

-- the first word: the kind of value, the stations and the entries
abbrev pub head_word : ℕ → ℕ → ℕ → ℕ
head_word kind n m = word 1 ((kind * 256 + n) * 256 + m)

-- the word of a station: its number, and whether it is in reach
abbrev pub station_word : ℕ → Bool → ℕ
station_word s reach = word 2 (s * 2 + cond reach 1 0)

-- the five words of a record, counted from 0: the entry with the number, and the payloads
abbrev pub record_word : ℕ → Record → ℕ → ℕ
record_word e r zero = word 3 (e * 65536 + r.number)
record_word e r (suc zero) = word 4 r.payloads.first
record_word e r (suc (suc zero)) = word 5 r.payloads.second
record_word e r (suc (suc (suc zero))) = word 6 r.payloads.third
record_word e r (suc (suc (suc (suc k)))) = word 7 r.payloads.fourth

-- how many words a station has, and how many an image
abbrev pub block : ℕ → ℕ
block m = suc (m * 5)

abbrev pub size : ℕ → ℕ → ℕ
size n m = suc (n * block m)

-- the words of a station by place, counted from 0: its own word, then those of its records
abbrev pub block_word : ℕ → Station → (ℕ → Record) → ℕ → ℕ
block_word s station cell zero = station_word s station.reach
block_word s station cell (suc q) = record_word (q / 5 + 1) (cell (q / 5 + 1)) (q % 5)

-- the words of an image by place, counted from 0: the first word, then those of the stations
abbrev pub image_word : Meaning → ℕ → ℕ
image_word b zero = head_word b.kind b.n b.m
image_word b (suc j) = block_word (j / block b.m + 1) (b.station (j / block b.m + 1)) (b.cell (j / block b.m + 1)) (j % block b.m)

-- an empty bank has no words
abbrev pub image : Meaning → List ℕ
image b = cond (allowed b.kind b.n b.m) (map (image_word b) (range_with_len 0 (size b.n b.m))) []

-- where the words of a station begin, and those of a record
abbrev pub station_place : ℕ → ℕ → ℕ
station_place m s = suc ((s - 1) * block m)

abbrev pub record_place : ℕ → ℕ → ℕ → ℕ
record_place m s e = suc ((s - 1) * block m + suc ((e - 1) * 5))

-- what words tell
abbrev pub told_reach : ℕ → Bool
told_reach w = w % 2 == 1

abbrev pub told_record : List ℕ → ℕ → Record
told_record ws k = record {
  number = slice_index ws k % 65536;
  payloads = payloads (payload_of (slice_index ws (k + 1))) (payload_of (slice_index ws (k + 2))) (payload_of (slice_index ws (k + 3))) (payload_of (slice_index ws (k + 4)));
}

abbrev pub told_kind : ℕ → ℕ
told_kind w = payload_of w / 65536

abbrev pub told_stations : ℕ → ℕ
told_stations w = payload_of w / 256 % 256

abbrev pub told_entries : ℕ → ℕ
told_entries w = payload_of w % 256

-- the bank that words tell of, with these sizes
abbrev pub told_bank : ℕ → ℕ → ℕ → List ℕ → Meaning
told_bank kind n m ws = record {
  kind = kind;
  n = n;
  m = m;
  station = λ s. cond (between 1 n s) (record { reach = told_reach (slice_index ws (station_place m s)); shut = false }) no_station_there;
  cell = λ s e. cond (between 1 n s && between 1 m e) (told_record ws (record_place m s e)) no_record;
}

-- the bank that words tell of
abbrev pub imaged : List ℕ → Meaning
imaged [] = empty_bank
imaged (w ∷ ws) = told_bank (told_kind w) (told_stations w) (told_entries w) (w ∷ ws)

-- five words in a row replaced
abbrev pub five : List ℕ → ℕ → (ℕ → ℕ) → List ℕ
five ws p x = slice_set (slice_set (slice_set (slice_set (slice_set ws p (x 0)) (p + 1) (x 1)) (p + 2) (x 2)) (p + 3) (x 3)) (p + 4) (x 4)
