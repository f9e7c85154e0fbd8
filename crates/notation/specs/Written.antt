-- How values are written in a script.
use Rattle.std.specs.Prelude.{◌≡◌, ℕ, ◌⊎◌, List, [], ◌∷◌, length, Ok, codes, Result}
use Rattle.numbers.specs.declared.tenths.Tenths.{Tenths}
use Rattle.notation.specs.Words.{IsTenths, IsWhole, Says, word}
use Rattle.values.specs.Baselines.{HasParts, baseline_out}
use Rattle.values.specs.Making.{Made}
use Rattle.values.specs.Notices.{IsInService, IsWithdrawn, in_service_out, withdrawn_out}
use Rattle.values.specs.declared.baseline.Baseline.{Baseline}
use Rattle.values.specs.declared.fault.ValueFault.{ValueFault}
use Rattle.values.specs.declared.notice.Notice.{Notice}
use Rattle.values.specs.declared.notice.Notice.TheVariants.{NoneInService}

-- a baseline, four words: X, Y and Z in nanotesla, and the day
pub record BaselineWords (ws : List (List ℕ)) (r : Result Baseline ValueFault) : Type 0 where
  pub count : length ws ≡ 4
  pub x : Tenths
  pub y : Tenths
  pub z : Tenths
  pub day : ℕ
  pub x_is : IsTenths (word 0 ws) x
  pub y_is : IsTenths (word 1 ws) y
  pub z_is : IsTenths (word 2 ws) z
  pub day_is : IsWhole (word 3 ws) day
  pub made : Made (baseline_out x.0 y.0 z.0 day) (HasParts x y z day) r

-- a notice: `none`; `in-service`, the serial number and the day; or `withdrawn`, these two and the reason
abbrev pub NoticeWords : List (List ℕ) → Result Notice ValueFault → Type 0
NoticeWords ws r =
    (Says ws (codes "none") [] × (r ≡ Ok NoneInService))
    ⊎ (((serial : ℕ) × (day : ℕ) × Says ws (codes "in-service") (serial ∷ (day ∷ []))
    × Made (in_service_out serial day) (IsInService serial day) r)
    ⊎ ((serial : ℕ) × (day : ℕ) × (reason : ℕ) × Says ws (codes "withdrawn") (serial ∷ (day ∷ (reason ∷ [])))
    × Made (withdrawn_out serial day reason) (IsWithdrawn serial day reason) r))
