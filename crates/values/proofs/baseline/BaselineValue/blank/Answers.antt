use Rattle.values.specs.Baselines.{blank_baseline}
use Rattle.parts.proofs.Same.{bounded_same, component_same}
use Rattle.values.proofs.baseline.BaselineValue.blank.Goals as goal

pub returns : goal.returns
returns c = λ i.
    record {
      x = component_same c.zero.result blank_baseline.x c.zero.ensures i;
      y = component_same c.zero-2.result blank_baseline.y c.zero-2.ensures i;
      z = component_same c.zero-3.result blank_baseline.z c.zero-3.ensures i;
      day = bounded_same 0 99999 c.zero-4.result blank_baseline.day c.zero-4.ensures i;
    }
