-- How values are shown.
use Rattle.std.specs.Prelude.{ℕ, List, ◌++◌, codes, decimal}
use Rattle.numbers.specs.Written.{tenths_text}
use Rattle.values.specs.declared.baseline.Baseline.{Baseline}
use Rattle.values.specs.declared.notice.Notice.{Notice}
use Rattle.values.specs.declared.notice.Notice.TheVariants.{InService, NoneInService, Withdrawn}

-- as in `X 20123.4 Y -310.2 Z 43001.0 nT day 20410`
abbrev pub baseline_text : Baseline → List ℕ
baseline_text b =
    codes "X " ++ (tenths_text b.x.tenths.0 ++ (codes " Y " ++ (tenths_text b.y.tenths.0
    ++ (codes " Z " ++ (tenths_text b.z.tenths.0 ++ (codes " nT day " ++ decimal b.day.number))))))

-- as in `withdrawn serial 12 day 3 reason 2`
abbrev pub notice_text : Notice → List ℕ
notice_text NoneInService = codes "none in service"
notice_text (InService s d) = codes "in service serial " ++ (decimal s.number ++ (codes " day " ++ decimal d.number))
notice_text (Withdrawn s d r) =
    codes "withdrawn serial " ++ (decimal s.number ++ (codes " day " ++ (decimal d.number ++ (codes " reason " ++ decimal r.number))))
