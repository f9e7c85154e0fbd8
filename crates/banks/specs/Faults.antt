-- The refusals of banks.
use Rattle.std.specs.Prelude.{true, ◌==◌}
use Rattle.faults.specs.Line.{Line}
use Rattle.faults.specs.declared.Layer.TheVariants.{Bank}
use Rattle.banks.specs.declared.fault.BankFault.{BankFault}
use Rattle.banks.specs.declared.fault.BankFault.TheVariants.{Away, Length, NoEntry, NoStation, OutOfLimits, Place, Shut, Sizes, Word}

abbrev pub bank_line : BankFault → Line
bank_line (NoEntry e) = record { number = 1; layer = Bank; place = e; places = λ k. true }
bank_line (NoStation s) = record { number = 2; layer = Bank; place = s; places = λ k. true }
bank_line (Away s) = record { number = 3; layer = Bank; place = s; places = λ k. true }
bank_line (OutOfLimits e) = record { number = 4; layer = Bank; place = e; places = λ k. true }
bank_line (Shut s) = record { number = 5; layer = Bank; place = s; places = λ k. true }
bank_line Sizes = record { number = 13; layer = Bank; place = 0; places = λ k. (k == 0) }
bank_line (Length n) = record { number = 14; layer = Bank; place = n; places = λ k. true }
bank_line (Place c) = record { number = 17; layer = Bank; place = c; places = λ k. true }
bank_line (Word k) = record { number = 19; layer = Bank; place = k; places = λ j. true }
